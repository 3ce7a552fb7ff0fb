use Rattle.std.proofs.Common.{◌≡◌, ℕ, zero, suc, ◌<◌, Bool, true, false, if◌then◌else◌, List, [], ◌∷◌, Some, slice_index_or, refl, ap, ap₂, sym, ◌∙◌, arith}
use Rattle.ti_base.specs.declared.place.Place.{Place}
use Rattle.ti_base.specs.Places.{place_before, same_place}
use Rattle.ti_lang.specs.Typing.BuiltIn.{built_in}
use Rattle.ti_lang.specs.Typing.Declared.{named_field_type, instance_method}
use Rattle.ti_rules.specs.declared.refusal.Refusal.{Refusal}
use Rattle.ti_blame.specs.Marks.{marks_of}
use Rattle.ti_infer.specs.Answer.{MarksCandidates}
use Rattle.ti_infer.specs.Inferred.{IsAcceptedTo}
use Rattle.ti_infer.specs.Limited.{counts_to, limited_refusals}
use Rattle.ti_infer.specs.Marked.{marked}
use Rattle.ti_rows_of_laws.specs.Texts.{pl}
use Rattle.ti_rows_of_laws.specs.Markings as marks
use Rattle.ti_rows_of_laws.specs.Programs as programs
use Rattle.ti_rows_of_laws.proofs.Places.{true_false, not_up_to, before_trans}
use Rattle.ti_rows_of_laws.proofs.Each.{own_none, own_never}
use Rattle.ti_rows_of_laws.proofs.markings.first_unaligned.Goals as goal

pub returns-clause-collectives : goal.returns-clause-collectives
unfolding built_in named_field_type instance_method
returns-clause-collectives c = refl

-- ---- the first barrier

nothing_names : MarksCandidates programs.an_own_number (marks_of marks.no_marks)
nothing_names = record { methods = λ at h. absurd (true_false (sym h)); results = λ at h. absurd (true_false (sym h)); variables = λ at h. absurd (true_false (sym h)) }

-- what is wrong where the first barrier counts, or doesn't, and where the second does, or doesn't
abbrev wrong_where : Bool → Bool → List Refusal
wrong_where first second = limited_refusals (λ at. if same_place at (pl 1 104) then first else second) (marked (marks_of marks.no_marks) programs.an_own_number)

up_to_none : (c : Place) → place_before c (pl 1 104) ≡ true → limited_refusals (counts_to (Some c)) (marked (marks_of marks.no_marks) programs.an_own_number) ≡ []
unfolding built_in named_field_type instance_method
up_to_none c h =
    let first : counts_to (Some c) (pl 1 104) ≡ false = not_up_to c (pl 1 104) h in
    let second : counts_to (Some c) (pl 1 118) ≡ false = not_up_to c (pl 1 118) (before_trans c (pl 1 104) (pl 1 118) h refl) in
    let all : limited_refusals (counts_to (Some c)) (marked (marks_of marks.no_marks) programs.an_own_number)
    ≡ wrong_where (counts_to (Some c) (pl 1 104)) (counts_to (Some c) (pl 1 118)) = refl in
    all ∙ ap₂ wrong_where first second

sooner_accepted : (c : Place) → place_before c (pl 1 104) ≡ true → IsAcceptedTo (Some c) programs.an_own_number (marks_of marks.no_marks)
unfolding built_in named_field_type instance_method
sooner_accepted c h = record { types = refl; single = up_to_none c h }

pub returns-clause-the_first_barrier : goal.returns-clause-the_first_barrier
unfolding built_in named_field_type instance_method
returns-clause-the_first_barrier c = record {
  never = λ a names accepted. own_never a accepted;
  collective = (0, omega arith, refl);
  none = λ a names accepted. own_none a accepted.types accepted.single;
  sooner = λ c before. (marks_of marks.no_marks, nothing_names, sooner_accepted c before);
}

-- ---- other places

pub returns-clause-the_second_barrier : goal.returns-clause-the_second_barrier
returns-clause-the_second_barrier c = λ f.
    let s = f.sooner (pl 1 104) refl in
    own_none s.0 s.2.types s.2.single

pub returns-clause-no_collective : goal.returns-clause-no_collective
unfolding built_in named_field_type instance_method
returns-clause-no_collective c = λ f. by f.collective.0 f.collective.1 f.collective.2
  where
    by : (k : ℕ) → k < 2 → slice_index_or (pl 1 104 ∷ pl 1 118 ∷ []) k (pl 1 66) ≡ pl 1 66 → ⊥
    by zero h e =
        let k : 104 ≡ 66 = ap (λ (p : Place). p.col) e in
        omega (arith, k)
    by (suc zero) h e =
        let k : 118 ≡ 66 = ap (λ (p : Place). p.col) e in
        omega (arith, k)
    by (suc (suc n)) h e = omega arith

sent_names : MarksCandidates programs.a_sent_number (marks_of marks.the_first)
sent_names = record { methods = λ at h. absurd (true_false (sym h)); results = λ at h. absurd (true_false (sym h)); variables = λ at h. h }

pub returns-clause-where_a_marking_is_accepted : goal.returns-clause-where_a_marking_is_accepted
unfolding built_in named_field_type instance_method
returns-clause-where_a_marking_is_accepted c = λ at f. f.never (marks_of marks.the_first) sent_names (record { types = refl; single = refl })
