-- Each marking of the names of the programs, by what it marks: `main`, and the variables.
use Rattle.std.proofs.Common.{◌≡◌, Bool, true, false, if◌then◌else◌, List, [], ◌∷◌, Some, refl, ap, sym, ◌∙◌}
use Rattle.ti_base.specs.declared.place.Place.{Place}
use Rattle.ti_base.specs.Places.{same_place}
use Rattle.ti_lang.specs.Typing.BuiltIn.{built_in}
use Rattle.ti_lang.specs.Typing.Declared.{named_field_type, instance_method}
use Rattle.ti_rules.specs.declared.refusal.Refusal.{Refusal}
use Rattle.ti_rules.specs.ProgramRefusals.{BreaksNothing}
use Rattle.ti_rules.specs.TypeRules.{type_refusals}
use Rattle.ti_blame.specs.Marks.{Marks}
use Rattle.ti_infer.specs.Accepted.{IsAccepted}
use Rattle.ti_infer.specs.Limited.{counts_to, limited_refusals}
use Rattle.ti_infer.specs.Marked.{marked}
use Rattle.ti_rows_of_laws.specs.Texts.{pl}
use Rattle.ti_rows_of_laws.specs.Programs as programs
use Rattle.ti_rows_of_laws.proofs.Places.{true_false, place_is}

pub some_more : (x : Refusal) (xs : List Refusal) → x ∷ xs ≡ [] → ⊥
some_more x xs e = cc

-- what marks `main`, the variable that is declared first, and others
abbrev pub which : Bool → Bool → Bool → Marks
which main first others = record { methods = λ at. main; results = λ at. false; variables = λ at. if same_place at (pl 1 66) then first else others }

-- of one variable: no marking but that of the variable is accepted
sent_cases : (b c : Bool) → BreaksNothing (marked (which b c false) programs.a_sent_number) → b ≡ false
unfolding built_in named_field_type instance_method
sent_cases true true h = absurd (some_more _ _ h.types)
sent_cases true false h = absurd (some_more _ _ h.types)
sent_cases false c h = refl

-- `main` isn't marked
pub sent_main : (a : Marks) → IsAccepted programs.a_sent_number a → a.methods (pl 1 40) ≡ false
sent_main a h = sent_cases (a.methods (pl 1 40)) (a.variables (pl 1 66)) h

two_cases : (b c d : Bool) → BreaksNothing (marked (which b c d) programs.two_numbers) → b ≡ false
unfolding built_in named_field_type instance_method
two_cases true true true h = absurd (some_more _ _ h.types)
two_cases true true false h = absurd (some_more _ _ h.types)
two_cases true false true h = absurd (some_more _ _ h.types)
two_cases true false false h = absurd (some_more _ _ h.types)
two_cases false c d h = refl

pub two_main : (a : Marks) → IsAccepted programs.two_numbers a → a.methods (pl 1 40) ≡ false
two_main a h = two_cases (a.methods (pl 1 40)) (a.variables (pl 1 66)) (a.variables (pl 1 77)) h

-- of the own number: up to the first barrier none is accepted
own_cases : (b c : Bool) → type_refusals (marked (which b c false) programs.an_own_number) ≡ []
    → limited_refusals (counts_to (Some (pl 1 104))) (marked (which b c false) programs.an_own_number) ≡ [] → ⊥
unfolding built_in named_field_type instance_method
own_cases true true h k = some_more _ _ h
own_cases true false h k = some_more _ _ h
own_cases false true h k = some_more _ _ k
own_cases false false h k = some_more _ _ k

pub own_none : (a : Marks) → type_refusals (marked a programs.an_own_number) ≡ []
    → limited_refusals (counts_to (Some (pl 1 104))) (marked a programs.an_own_number) ≡ [] → ⊥
own_none a h k = own_cases (a.methods (pl 1 40)) (a.variables (pl 1 66)) h k

own_all_cases : (b c : Bool) → BreaksNothing (marked (which b c false) programs.an_own_number) → ⊥
unfolding built_in named_field_type instance_method
own_all_cases true true h = some_more _ _ h.types
own_all_cases true false h = some_more _ _ h.types
own_all_cases false true h = some_more _ _ h.single
own_all_cases false false h = some_more _ _ h.single

pub own_never : (a : Marks) → IsAccepted programs.an_own_number a → ⊥
own_never a h = own_all_cases (a.methods (pl 1 40)) (a.variables (pl 1 66)) h

-- where only the names of a program with `main` alone are marked, a marked method is `main`
pub no_method_but_main : (a : Marks) (at : Place) → a.methods at ≡ true → same_place at (pl 1 40) ≡ true → a.methods (pl 1 40) ≡ false → ⊥
no_method_but_main a at h is none = true_false (sym h ∙ ap a.methods (place_is at (pl 1 40) is) ∙ none)
