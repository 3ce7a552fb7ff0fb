-- Proves that slots refer to as many objects of a region as the variables in scope and `this`.
use Rattle.std.proofs.Common.{◌≡◌, ℕ, ◌+◌, Bool, true, false, if◌then◌else◌, cond, List, [], ◌∷◌, count_by, Option, Some, None, refl, ap, sym, ◌∙◌, arith}
use Rattle.std.proofs.lemmas.List.Recursion.{is_count_by}
use Rattle.ti_base.specs.declared.value.Id.{Id}
use Rattle.ti_lang.specs.Meaning.Held.{Held, referent_of}
use Rattle.ti_lang.specs.Meaning.Processes.{Variable}
use Rattle.ti_lang.specs.Meaning.Turns.{Turn}
use Rattle.ti_lang.specs.Meaning.Steps.{lies_in}
use Rattle.ti_lower_expr.specs.Slots.{Name, SlotsHold, none, object, variable, turn, hidden}
use Rattle.ti_lower.proofs.Cutting.{Bare}

-- the same count by recursion
abbrev many : {X : Type 0} → (X → Bool) → List X → ℕ
many p [] = 0
many p (x ∷ xs) = cond (p x) (1 + many p xs) (many p xs)

many_is : {X : Type 0} (p : X → Bool) (xs : List X) → many p xs ≡ count_by p xs
many_is p xs = is_count_by (many p) p refl (λ x xs. refl) xs

module _ (region : ℕ) where
  abbrev pub held_there : Held → Bool
  held_there h = lies_in region (referent_of h)

  abbrev pub variable_there : Variable → Bool
  variable_there x = lies_in region (referent_of x.held)

  none_there : (this : Option Id) → this ≡ None → ◌≡◌ {A = ℕ} 0 (0 + (if lies_in region this then 1 else 0))
  none_there None e = refl
  none_there (Some id) e = absurd (never e)
    where
      never : ◌≡◌ {A = Option Id} (Some id) None → ⊥
      never e = cc

  abbrev own_count : Option Id → ℕ
  own_count this = if lies_in region this then 1 else 0

  both_more : (b : Bool) (n m k : ℕ) → n ≡ m + k → cond b (1 + n) n ≡ cond b (1 + m) m + k
  both_more true n m k e = omega (arith, e)
  both_more false n m k e = e

  many_count : (this : Option Id) (ns : List Name) (vs : List Variable) (ts : List Turn) (hs : List Held) → Bare ns → SlotsHold this ns vs ts hs
      → many held_there hs ≡ many variable_there vs + own_count this
  many_count this ns vs ts hs z (none e) = none_there this e
  many_count this ns vs ts hs z object = own_one (lies_in region this)
    where
      own_one : (b : Bool) → cond b (1 + 0) 0 ≡ 0 + (if b then 1 else 0)
      own_one true = refl
      own_one false = refl
  many_count this ns vs ts hs z (variable {ns = ms} {vs = us} {ts = rs} {hs = gs} {h = g} k h) =
      both_more (held_there g) (many held_there gs) (many variable_there us) (own_count this) (many_count this ms us rs gs z h)
  many_count this ns vs ts hs z (turn {ns = ms} {vs = us} {ts = rs} {hs = gs} h) = many_count this ms us rs gs z h
  many_count this ns vs ts hs z (hidden h) = elim z [ ]

  pub slots_count : (this : Option Id) (ns : List Name) (vs : List Variable) (ts : List Turn) (hs : List Held) → Bare ns → SlotsHold this ns vs ts hs
      → count_by held_there hs ≡ count_by variable_there vs + (if lies_in region this then 1 else 0)
  slots_count this ns vs ts hs z h = sym (many_is held_there hs) ∙ (many_count this ns vs ts hs z h ∙ ap (λ n. n + own_count this) (many_is variable_there vs))
