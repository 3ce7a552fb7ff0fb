-- Proves that the effect of instructions is the same with more answers, and in a method whose returns end the run.
use Rattle.std.proofs.Common.{◌≡◌, ◌⊎◌, inl, inr, ℕ, List, [], ◌∷◌, ◌++◌, map, slice_get, Option, Some, None, option_map, refl, ap, sym, ◌∙◌, subst}
use Rattle.std.proofs.lemmas.Option.{slice_get-map}
use Rattle.ti_base.specs.declared.place.Place.{Place}
use Rattle.ti_base.specs.declared.fault.FaultKind.{FaultKind}
use Rattle.ti_base.specs.declared.entry.Answer.{Answer}
use Rattle.ti_lang.specs.Meaning.Comp.{Request, Gives, Asks, Fails, Comp}
use Rattle.ti_code.specs.declared.instr.Instr.{Instr}
use Rattle.ti_code.specs.declared.instr.Instr.TheVariants as i
use Rattle.ti_code.specs.Effects.{LocalState, Who}
use Rattle.ti_code.specs.Leading.{effect_of, next_effect, ExecutesTo, here, on}
use Rattle.ti_lang.proofs.Lemmas.{gives_same, rest_same, fails_gives, asks_gives, asks_fails, silent_value, Short}
use Rattle.ti_code.proofs.Lemmas.{effect_short}
use Rattle.ti_lower.specs.Programs.{in_main}

short_more : {A : Type 0} (m : Comp A) (rs : List Answer) (a : A) (rest : List Answer) → Short m → m rs ≡ Gives a rest → (more : List Answer) → m (rs ++ more) ≡ Gives a (rest ++ more)
short_more m rs a rest (inl (inl x)) e more =
    let same = gives_same x.0 a rs rest (sym (x.1 rs) ∙ e) in
    let left = rest_same x.0 a rs rest (sym (x.1 rs) ∙ e) in
    x.1 (rs ++ more) ∙ (ap (λ b. Gives b (rs ++ more)) same ∙ ap (λ l. Gives a (l ++ more)) left)
short_more m rs a rest (inl (inr x)) e more = absurd (fails_gives a rest x.0 x.1 (sym (x.2 rs) ∙ e))
short_more m [] a rest (inr x) e more = absurd (asks_gives a rest x.0 (sym x.2 ∙ e))
short_more m (r ∷ rs) a rest (inr x) e more =
    let same = gives_same (x.1 r) a rs rest (sym (x.3 r rs) ∙ e) in
    let left = rest_same (x.1 r) a rs rest (sym (x.3 r rs) ∙ e) in
    x.3 r (rs ++ more) ∙ (ap (λ b. Gives b (rs ++ more)) same ∙ ap (λ l. Gives a (l ++ more)) left)

pub maybe_short : (w : Who) (o : Option Instr) (s : LocalState) → Short (effect_of w o s)
maybe_short w None s = inl (silent_value s)
maybe_short w (Some x) s = effect_short w x s

pub leads_more : (w : Who) (c : List Instr) (s t : LocalState) (rs rest : List Answer) → ExecutesTo w c s rs t rest → (more : List Answer) → ExecutesTo w c s (rs ++ more) t (rest ++ more)
leads_more w c s t rs rest here more = here
leads_more w c s t rs rest (on {t = u} {rest = ms} e k) more =
    on (short_more (next_effect w c s) rs u ms (maybe_short w (slice_get c s.at) s) e more) (leads_more w c u t ms rest k more)

same_effect : (end : Place) (w : Who) (o : Option Instr) (s : LocalState) (rs : List Answer) → effect_of w (option_map (in_main end) o) s rs ≡ effect_of w o s rs
same_effect end w None s rs = refl
same_effect end w (Some i.Return) s rs = refl
same_effect end w (Some x) s rs = refl

pub main_effect : (end : Place) (w : Who) (c : List Instr) (s : LocalState) (rs : List Answer) → next_effect w (map (in_main end) c) s rs ≡ next_effect w c s rs
main_effect end w c s rs = ap (λ o. effect_of w o s rs) (slice_get-map (in_main end) c s.at) ∙ same_effect end w (slice_get c s.at) s rs

pub main_leads : (end : Place) (w : Who) (c : List Instr) (s t : LocalState) (rs rest : List Answer) → ExecutesTo w c s rs t rest → ExecutesTo w (map (in_main end) c) s rs t rest
main_leads end w c s t rs rest here = here
main_leads end w c s t rs rest (on {t = u} {rest = ms} e k) = on (main_effect end w c s rs ∙ e) (main_leads end w c u t ms rest k)

pub main_instr : (end : Place) (c : List Instr) (at : ℕ) (x : Instr) → slice_get c at ≡ Some x → slice_get (map (in_main end) c) at ≡ Some (in_main end x)
main_instr end c at x e = slice_get-map (in_main end) c at ∙ ap (option_map (in_main end)) e

-- ---- one path

-- of two paths on the same answers one goes on from the other
pub same_path : (w : Who) (c : List Instr) (s t u : LocalState) (rs xs ys : List Answer) → ExecutesTo w c s rs t xs → ExecutesTo w c s rs u ys → (ExecutesTo w c t xs u ys) ⊎ (ExecutesTo w c u ys t xs)
same_path w c s t u rs xs ys here k = inl k
same_path w c s t u rs xs ys (on e h) here = inr (on e h)
same_path w c s t u rs xs ys (on {t = a} {rest = ms} e h) (on {t = b} {rest = ns} f k) =
    let state = gives_same a b ms ns (sym e ∙ f) in
    let left = rest_same a b ms ns (sym e ∙ f) in
    same_path w c a t u ms xs ys h (subst (λ l. ExecutesTo w c a l u ys) (sym left) (subst (λ x. ExecutesTo w c x ns u ys) (sym state) k))

asks_at : {A : Type 0} (m : Comp A) (rs : List Answer) (q : Request) → Short m → m rs ≡ Asks q → rs ≡ []
asks_at m rs q (inl (inl x)) e = absurd (asks_gives x.0 rs q (sym e ∙ x.1 rs))
asks_at m rs q (inl (inr x)) e = absurd (asks_fails x.0 x.1 q (sym e ∙ x.2 rs))
asks_at m [] q (inr x) e = refl
asks_at m (r ∷ rs) q (inr x) e = absurd (asks_gives (x.1 r) rs q (sym e ∙ x.3 r rs))

-- an instruction asks where no answers are left
pub asks_last : (w : Who) (c : List Instr) (s : LocalState) (rs : List Answer) (q : Request) → next_effect w c s rs ≡ Asks q → rs ≡ []
asks_last w c s rs q e = asks_at (next_effect w c s) rs q (maybe_short w (slice_get c s.at) s) e

hears : {A : Type 0} (m : Comp A) (q : Request) (r : Answer) → Short m → m [] ≡ Asks q → (a : A) × (m (r ∷ []) ≡ Gives a [])
hears m q r (inl (inl x)) e = absurd (asks_gives x.0 [] q (sym e ∙ x.1 []))
hears m q r (inl (inr x)) e = absurd (asks_fails x.0 x.1 q (sym e ∙ x.2 []))
hears m q r (inr x) e = (x.1 r, x.3 r [])

none_there : (m : Comp LocalState) (u : LocalState) (ms : List Answer) → Short m → m [] ≡ Gives u ms → ms ≡ []
none_there m u ms (inl (inl x)) e = sym (rest_same x.0 u [] ms (sym (x.1 []) ∙ e))
none_there m u ms (inl (inr x)) e = absurd (fails_gives u ms x.0 x.1 (sym (x.2 []) ∙ e))
none_there m u ms (inr x) e = absurd (asks_gives u ms x.0 (sym x.2 ∙ e))

-- from no answers none are left
none_before : (w : Who) (c : List Instr) (s t : LocalState) (rs xs : List Answer) → ExecutesTo w c s rs t xs → rs ≡ [] → xs ≡ []
none_before w c s t rs xs here z = z
none_before w c s t rs xs (on {t = u} {rest = ms} e k) z =
    none_before w c u t ms xs k (none_there (next_effect w c s) u ms (maybe_short w (slice_get c s.at) s) (sym (ap (next_effect w c s) z) ∙ e))

-- from an instruction that uses up the answers to a fault
used_before : (w : Who) (c : List Instr) (t u a : LocalState) (xs left : List Answer) (kind : FaultKind) (at : Place) → ExecutesTo w c t xs u left
    → next_effect w c t xs ≡ Gives a [] → next_effect w c u left ≡ Fails kind at → left ≡ []
used_before w c t u a xs left kind at here e f = absurd (fails_gives a [] kind at (sym f ∙ e))
used_before w c t u a xs left kind at (on {t = x} {rest = ms} g l) e f = none_before w c x u ms left l (rest_same x a ms [] (sym g ∙ e))

-- a fault leads nowhere
stays_there : (w : Who) (c : List Instr) (u t a : LocalState) (left xs : List Answer) (kind : FaultKind) (at : Place) → ExecutesTo w c u left t xs
    → next_effect w c u left ≡ Fails kind at → next_effect w c t xs ≡ Gives a [] → left ≡ []
stays_there w c u t a left xs kind at here f e = absurd (fails_gives a [] kind at (sym f ∙ e))
stays_there w c u t a left xs kind at (on {t = x} {rest = ms} g l) f e = absurd (fails_gives x ms kind at (sym f ∙ g))

-- where what is asked first was answered, a fault comes behind the answer
pub fails_last : (w : Who) (c : List Instr) (s t u : LocalState) (front left : List Answer) (q : Request) (r : Answer) (kind : FaultKind)
    (at : Place) → ExecutesTo w c s front t [] → next_effect w c t [] ≡ Asks q
    → ExecutesTo w c s (front ++ r ∷ []) u left → next_effect w c u left ≡ Fails kind at → left ≡ []
fails_last w c s t u front left q r kind at h e k f =
    let heard = hears (next_effect w c t) q r (maybe_short w (slice_get c t.at) t) e in
    elim (same_path w c s t u (front ++ r ∷ []) (r ∷ []) left (leads_more w c s t front [] h (r ∷ [])) k)
    [ inl x ↦ used_before w c t u heard.0 (r ∷ []) left kind at x heard.1 f | inr x ↦ stays_there w c u t heard.0 left (r ∷ []) kind at x f heard.1 ]

pub none_first : (w : Who) (c : List Instr) (s t : LocalState) (rs xs : List Answer) → ExecutesTo w c s rs t xs → rs ≡ [] → xs ≡ []
none_first w c s t rs xs k z = none_before w c s t rs xs k z
