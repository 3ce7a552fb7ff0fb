-- Lemmas on the context after statements whose scope has ended.
use Rattle.std.proofs.Common.{◌≡◌, ℕ, Bool, true, false, if◌then◌else◌, List, [], ◌∷◌, ◌++◌, length, take, is_some, bytes_eq, refl, ap, sym, ◌∙◌, append_assoc}
use Rattle.std.specs.Map.{lookup}
use Rattle.ti_syntax.specs.Trees.Statements.{Stm, MaybeStm, Stms}
use Rattle.ti_syntax.specs.Trees.Statements as s
use Rattle.ti_lang.specs.Program.Types.{VariableUse, Foreach}
use Rattle.ti_lang.specs.Scopes.{Known, Site, with_variable, declares, past, past_maybe, past_all, past_variable, site_after, behind_maybe, behind_all}

-- the site with another scope
abbrev pub cut : Site → List Known → Site
cut site scope = record site { scope = scope }

-- the counts don't depend on the scope, and the scope stays
mutual
  past_cut : (site : Site) (c : List Known) (x : Stm) → past (cut site c) x ≡ cut (past site x) c
  past_cut site c s.Empty = refl
  past_cut site c (s.Declare at type name value) = refl
  past_cut site c (s.Assign at target value) = refl
  past_cut site c (s.Update at op target x) = refl
  past_cut site c (s.Step at op target) = refl
  past_cut site c (s.Call x) = refl
  past_cut site c (s.Print at what) = refl
  past_cut site c (s.Barrier at) = refl
  past_cut site c (s.Break at) = refl
  past_cut site c (s.Continue at) = refl
  past_cut site c (s.Return at value) = refl
  past_cut site c (s.Block body) = past_all_cut site c body
  past_cut site c (s.If at d x) = past_cut site c x
  past_cut site c (s.IfElse at d x y) = ap (λ z. past z y) (past_cut site c x) ∙ past_cut (past site x) c y
  past_cut site c (s.While at d body) = past_cut site c body
  past_cut site c (s.For at first d update body) =
      ap (λ z. past (past_maybe z update) body) (past_maybe_cut site c first) ∙ ap (λ z. past z body) (past_maybe_cut (past_maybe site first) c update)
      ∙ past_cut (past_maybe (past_maybe site first) update) c body
  past_cut site c (s.Foreach at name_at name domain body) = past_cut (past_variable site) c body

  past_maybe_cut : (site : Site) (c : List Known) (x : MaybeStm) → past_maybe (cut site c) x ≡ cut (past_maybe site x) c
  past_maybe_cut site c s.NoStm = refl
  past_maybe_cut site c (s.SomeStm x) = past_cut site c x

  past_all_cut : (site : Site) (c : List Known) (xs : Stms) → past_all (cut site c) xs ≡ cut (past_all site xs) c
  past_all_cut site c s.Nil = refl
  past_all_cut site c (s.Cons x rest) = ap (λ z. past_all z rest) (past_cut site c x) ∙ past_all_cut (past site x) c rest

past_scope : (site : Site) (x : Stm) → (past site x).scope ≡ site.scope
past_scope site x = ap (λ (z : Site). z.scope) (past_cut site site.scope x)

past_maybe_scope : (site : Site) (x : MaybeStm) → (past_maybe site x).scope ≡ site.scope
past_maybe_scope site x = ap (λ (z : Site). z.scope) (past_maybe_cut site site.scope x)

-- without the new variables, behind a statement is as where they have left
cut_behind : (site : Site) (c : List Known) (x : Stm) → cut (site_after site x) c ≡ past (cut site c) x
cut_behind site c s.Empty = refl
cut_behind site c (s.Declare at type name value) = refl
cut_behind site c (s.Assign at target value) = refl
cut_behind site c (s.Update at op target x) = refl
cut_behind site c (s.Step at op target) = refl
cut_behind site c (s.Call x) = refl
cut_behind site c (s.Print at what) = refl
cut_behind site c (s.Barrier at) = refl
cut_behind site c (s.Break at) = refl
cut_behind site c (s.Continue at) = refl
cut_behind site c (s.Return at value) = refl
cut_behind site c (s.Block body) = sym (past_cut site c (s.Block body))
cut_behind site c (s.If at d x) = sym (past_cut site c (s.If at d x))
cut_behind site c (s.IfElse at d x y) = sym (past_cut site c (s.IfElse at d x y))
cut_behind site c (s.While at d body) = sym (past_cut site c (s.While at d body))
cut_behind site c (s.For at first d update body) = sym (past_cut site c (s.For at first d update body))
cut_behind site c (s.Foreach at name_at name domain body) = sym (past_cut site c (s.Foreach at name_at name domain body))

cut_behind_maybe : (site : Site) (c : List Known) (x : MaybeStm) → cut (behind_maybe site x) c ≡ past_maybe (cut site c) x
cut_behind_maybe site c s.NoStm = refl
cut_behind_maybe site c (s.SomeStm x) = cut_behind site c x

cut_behind_all : (site : Site) (c : List Known) (xs : Stms) → cut (behind_all site xs) c ≡ past_all (cut site c) xs
cut_behind_all site c s.Nil = refl
cut_behind_all site c (s.Cons x rest) = cut_behind_all (site_after site x) c rest ∙ ap (λ z. past_all z rest) (cut_behind site c x)

-- the scope grows at its end
Grows : List Known → List Known → Type 0
Grows old new = (more : List Known) × (new ≡ old ++ more)

grows_same : (scope new : List Known) → new ≡ scope → Grows scope new
unfolding Grows
grows_same scope new is = ([], is ∙ sym (append_none scope))
  where
    append_none : (xs : List Known) → xs ++ [] ≡ xs
    append_none [] = refl
    append_none (x ∷ xs) = ap (λ ys. x ∷ ys) (append_none xs)

grows_with : (scope : List Known) (name : List ℕ) (v : VariableUse) → Grows scope (with_variable scope name v)
unfolding Grows
grows_with scope name v = by (is_some (lookup (bytes_eq name) scope))
  where
    by : (b : Bool) → Grows scope (if b then scope else scope ++ (name, v) ∷ [])
    by true = grows_same scope scope refl
    by false = ((name, v) ∷ [], refl)

grows_behind : (site : Site) (x : Stm) → Grows site.scope (site_after site x).scope
grows_behind site (s.Declare at type name value) = grows_with site.scope name _
grows_behind site s.Empty = grows_same _ _ refl
grows_behind site (s.Assign at target value) = grows_same _ _ refl
grows_behind site (s.Update at op target x) = grows_same _ _ refl
grows_behind site (s.Step at op target) = grows_same _ _ refl
grows_behind site (s.Call x) = grows_same _ _ refl
grows_behind site (s.Print at what) = grows_same _ _ refl
grows_behind site (s.Barrier at) = grows_same _ _ refl
grows_behind site (s.Break at) = grows_same _ _ refl
grows_behind site (s.Continue at) = grows_same _ _ refl
grows_behind site (s.Return at value) = grows_same _ _ refl
grows_behind site (s.Block body) = grows_same _ _ (past_scope site (s.Block body))
grows_behind site (s.If at d x) = grows_same _ _ (past_scope site (s.If at d x))
grows_behind site (s.IfElse at d x y) = grows_same _ _ (past_scope site (s.IfElse at d x y))
grows_behind site (s.While at d body) = grows_same _ _ (past_scope site (s.While at d body))
grows_behind site (s.For at first d update body) = grows_same _ _ (past_scope site (s.For at first d update body))
grows_behind site (s.Foreach at name_at name domain body) = grows_same _ _ (past_scope site (s.Foreach at name_at name domain body))

grows_behind_maybe : (site : Site) (x : MaybeStm) → Grows site.scope (behind_maybe site x).scope
grows_behind_maybe site s.NoStm = grows_same _ _ refl
grows_behind_maybe site (s.SomeStm x) = grows_behind site x

grows_behind_all : (site : Site) (xs : Stms) → Grows site.scope (behind_all site xs).scope
unfolding Grows
grows_behind_all site s.Nil = grows_same _ _ refl
grows_behind_all site (s.Cons x rest) =
    let one = grows_behind site x in
    let more = grows_behind_all (site_after site x) rest in
    (one.0 ++ more.0, more.1 ∙ ap (λ z. z ++ more.0) one.1 ∙ append_assoc site.scope one.0 more.0)

take_grown : (old new : List Known) (n : ℕ) → n ≡ length old → Grows old new → take n new ≡ old
unfolding Grows
take_grown old new n is grows = ap (λ k. take k new) is ∙ ap (take (length old)) grows.1 ∙ front old grows.0
  where
    front : (xs ys : List Known) → take (length xs) (xs ++ ys) ≡ xs
    front [] ys = none ys
      where
        none : (ys : List Known) → take 0 ys ≡ []
        none [] = refl
        none (y ∷ ys) = refl
    front (x ∷ xs) ys = ap (λ zs. x ∷ zs) (front xs ys)

-- ---- where code takes variables out of scope

pub inner_site : (site t : Site) (n : ℕ) (x : Stm) → n ≡ length site.scope → t ≡ site_after site x → cut t (take n t.scope) ≡ past site x
inner_site site t n x is e =
    ap (λ (z : Site). cut z (take n z.scope)) e ∙ ap (cut (site_after site x)) (take_grown site.scope (site_after site x).scope n is (grows_behind site x)) ∙ cut_behind site site.scope x

pub block_site : (site t : Site) (n : ℕ) (xs : Stms) → n ≡ length site.scope → t ≡ behind_all site xs → cut t (take n t.scope) ≡ past_all site xs
block_site site t n xs is e =
    ap (λ (z : Site). cut z (take n z.scope)) e ∙ ap (cut (behind_all site xs)) (take_grown site.scope (behind_all site xs).scope n is (grows_behind_all site xs)) ∙ cut_behind_all site site.scope xs

pub for_site : (site t : Site) (n : ℕ) (first update : MaybeStm) (body : Stm) → n ≡ length site.scope → t ≡ past (past_maybe (behind_maybe site first) update) body
    → cut t (take n t.scope) ≡ past (past_maybe (past_maybe site first) update) body
for_site site t n first update body is e =
    let inside = behind_maybe site first in
    let last = past (past_maybe inside update) body in
    let scope : last.scope ≡ inside.scope = past_scope (past_maybe inside update) body ∙ past_maybe_scope inside update in
    let kept : take n last.scope ≡ site.scope = ap (take n) scope ∙ take_grown site.scope inside.scope n is (grows_behind_maybe site first) in
    ap (λ (z : Site). cut z (take n z.scope)) e ∙ ap (cut last) kept ∙ sym (past_cut (past_maybe inside update) site.scope body)
    ∙ ap (λ z. past z body) (sym (past_maybe_cut inside site.scope update)) ∙ ap (λ z. past (past_maybe z update) body) (cut_behind_maybe site site.scope first)

pub foreach_site : (site t : Site) (n : ℕ) (name : List ℕ) (body : Stm) → n ≡ length site.scope → t ≡ past (declares site name Foreach) body → cut t (take n t.scope) ≡ past (past_variable site) body
foreach_site site t n name body is e =
    let inside = declares site name Foreach in
    let last = past inside body in
    let kept : take n last.scope ≡ site.scope = ap (take n) (past_scope inside body) ∙ take_grown site.scope inside.scope n is (grows_with site.scope name _) in
    ap (λ (z : Site). cut z (take n z.scope)) e ∙ ap (cut last) kept ∙ sym (past_cut inside site.scope body)
