-- Each argument has one of five forms.
use Rattle.std.proofs.Common.{◌≡◌, ◌∙◌, ◌==◌, ℕ, Bool, cond, true, false, refl, sym, ap₂, subst, arith, [], ◌∷◌, ◌++◌, Option, Some, None, codes}
use Rattle.std.specs.Str.{bytes_eq}
use Rattle.std.proofs.lemmas.Bool.Decides.{nat_tests}
use Rattle.std.proofs.lemmas.Slice.Eq.{bytes_eq-Decides}
use Rattle.ti_words.specs.Uses.{ArgKind, Word, as_report, as_setting, strip_front, with_dashes, dashed_piece, piece_of, option_with_value, wrong}
use Rattle.ti_words.specs.Mirrors.Command.{can_stand}

-- the names of the settings
pub data IsSetting : Word → Type 0 where
  mode : IsSetting (codes "mode")
  procs : IsSetting (codes "procs")
  workers : IsSetting (codes "workers")
  fuel : IsSetting (codes "fuel")
  seed : IsSetting (codes "seed")
  against : IsSetting (codes "against")

-- the names of the reports
pub data IsReport : Word → Type 0 where
  trace : IsReport (codes "trace")
  stats : IsReport (codes "stats")
  races : IsReport (codes "races")

-- what stands before the value of a setting in one word
abbrev pub front : Word → Word
front name = with_dashes name ++ 61 ∷ []

-- the forms of words
pub data View : Word → Type 0 where
  alone : {name : Word} → IsSetting name → View (with_dashes name)
  joined : {name : Word} → IsSetting name → (x : ℕ) (xs : Word) → View (front name ++ x ∷ xs)
  report : {name : Word} → IsReport name → View (with_dashes name)
  other : (x : ℕ) (xs : Word) → (x == 45) ≡ false → View (x ∷ xs)
  none : (word : Word) → can_stand (piece_of word) ≡ false → View word

pub behind_is : (p w r : Word) → strip_front p w ≡ Some r → w ≡ p ++ r
behind_is [] w r e = cc
behind_is (x ∷ p) [] r e = cc
behind_is (x ∷ p) (y ∷ w) r e = go (x == y) refl e (behind_is p w r)
  where
    go : (b : Bool) → (x == y) ≡ b → cond b (strip_front p w) None ≡ Some r → (strip_front p w ≡ Some r → w ≡ p ++ r) → y ∷ w ≡ x ∷ (p ++ r)
    go false t f next = cc
    go true t f next =
        let same : y ≡ x = grind (arith, nat_tests) in
        ap₂ (λ (z : ℕ) (zs : Word). z ∷ zs) same (next f)

setting_view : {name : Word} → IsSetting name → (word : Word) (piece : ArgKind)
    → (can_stand (as_setting name word piece) ≡ can_stand piece → View word) → View word
setting_view {name} is word piece rest = go (bytes_eq word (with_dashes name)) refl
  where
    valued : (found : Option Word) → strip_front (front name) word ≡ found
        → (can_stand (option_with_value name found piece) ≡ can_stand piece → View word) → View word
    valued None e next = next refl
    valued (Some []) e next = next refl
    valued (Some (x ∷ xs)) e next = subst View (sym (behind_is (front name) word (x ∷ xs) e)) (joined is x xs)

    go : (b : Bool) → bytes_eq word (with_dashes name) ≡ b → View word
    go true e = subst View (sym ((bytes_eq-Decides word (with_dashes name)).0 e)) (alone is)
    go false e = valued (strip_front (front name) word) refl (λ same. rest (rw e same))

report_view : {name : Word} → IsReport name → (word : Word) (piece : ArgKind)
    → (can_stand (as_report name word piece) ≡ can_stand piece → View word) → View word
report_view {name} is word piece rest = go (bytes_eq word (with_dashes name)) refl
  where
    go : (b : Bool) → bytes_eq word (with_dashes name) ≡ b → View word
    go true e = subst View (sym ((bytes_eq-Decides word (with_dashes name)).0 e)) (report is)
    go false e = rest (rw e refl)

dashed_view : (word : Word) → can_stand (piece_of word) ≡ can_stand (dashed_piece word) → View word
dashed_view word start =
    setting_view mode word _ (λ p. setting_view procs word _ (λ q. setting_view workers word _ (λ r. setting_view fuel word _ (λ s.
    setting_view seed word _ (λ t. setting_view against word _ (λ u. report_view trace word _ (λ v. report_view stats word _ (λ w.
    report_view races word wrong (λ x. none word (start ∙ (p ∙ (q ∙ (r ∙ (s ∙ (t ∙ (u ∙ (v ∙ (w ∙ x))))))))))))))))))

-- the form of a word
pub view : (word : Word) → View word
view [] = none [] refl
view (x ∷ xs) = go (x == 45) refl
  where
    go : (b : Bool) → (x == 45) ≡ b → View (x ∷ xs)
    go true e = dashed_view (x ∷ xs) (rw e refl)
    go false e = other x xs e
