-- What a process has next is at most one thing, and so is a process after its answers.
use Rattle.std.proofs.Common.{◌≡◌, Option, Some, None, List, [], ◌∷◌, refl, sym, ◌∙◌, ap, subst}
use Rattle.ti_base.specs.declared.entry.Answer.{Answer}
use Rattle.ti_base.specs.declared.entry.Next.{Next}
use Rattle.ti_base.specs.declared.entry.Next.TheVariants as next
use Rattle.ti_lang.specs.Meaning.Comp.{Request}
use Rattle.ti_lang.specs.Meaning.Processes.{Process}
use Rattle.ti_lang.specs.Meaning.Steps.{Step, To, At, step}
use Rattle.ti_lang.specs.Meaning.NextStep.{Reaches, here, later, step_label, RunsTo, IsNext, After, none, more}

to_same : (s : Step) (p q : Process) → s ≡ To p → s ≡ To q → p ≡ q
to_same s p q x y = cc

at_same : (s : Step) (v w : Request) (g h : Answer → Process) → s ≡ At v g → s ≡ At w h → g ≡ h
at_same s v w g h x y = cc

pub some_same : (m n : Next) → Some m ≡ Some n → m ≡ n
some_same m n e = cc

pub none_some : (n : Next) → ◌≡◌ {A = Option Next} None (Some n) → ⊥
none_some n e = cc

-- a silent step shows nothing
shows_not : (s : Step) (p : Process) (n : Next) → s ≡ To p → step_label s ≡ Some n → ⊥
shows_not s p n x y = none_some n (sym (ap step_label x) ∙ y)

-- a process settles at one place
pub settled_same : (p q r : Process) (m n : Next) → RunsTo p q m → RunsTo p r n → q ≡ r
settled_same p q r m n x y = by_reaches p q r m n x.reaches y.reaches x.stands y.stands
  where
    by_reaches : (p q r : Process) (m n : Next) → Reaches p q → Reaches p r → step_label (step q) ≡ Some m → step_label (step r) ≡ Some n → q ≡ r
    by_reaches p q r m n here here a b = refl
    by_reaches p q r m n here (later x y) a b = absurd (shows_not _ _ m x a)
    by_reaches p q r m n (later x y) here a b = absurd (shows_not _ _ n x b)
    by_reaches p q r m n (later {q = s} x y) (later {q = t} z w) a b =
        by_reaches s q r m n y (subst (λ u. Reaches u r) (to_same _ _ _ z x) w) a b

-- a process has one thing next
pub next_same : (p : Process) (m n : Next) → IsNext p m → IsNext p n → m ≡ n
next_same p m n x y =
    let same : x.0 ≡ y.0 = settled_same p x.0 y.0 m n x.1 y.1 in
    some_same m n (sym x.1.stands ∙ ap (λ q. step_label (step q)) same ∙ y.1.stands)

-- a process at an action settles there
pub settles_at : (p q : Process) (w : Request) (go : Answer → Process) → Reaches p q → step q ≡ At w go → RunsTo p q (next.Act w.place w.action)
settles_at p q w go x e = record { reaches = x; stands = ap step_label e }

pub after_same : (p q r : Process) (rs : List Answer) → After p rs q → After p rs r → q ≡ r
after_same p q r [] none none = refl
after_same p q r (a ∷ rs) (more {q = s} {request = v} {go = g} x e y) (more {q = t} {request = w} {go = h} z i k) =
    let same : s ≡ t = settled_same p s t _ _ (settles_at p s v g x e) (settles_at p t w h z i) in
    let goes : g ≡ h = at_same _ _ _ _ _ e (subst (λ u. step u ≡ At w h) (sym same) i) in
    after_same (g a) q r rs y (subst (λ (u : Answer → Process). After (u a) rs r) (sym goes) k)
