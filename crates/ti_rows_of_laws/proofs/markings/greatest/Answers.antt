use Rattle.std.proofs.Common.{◌≡◌, true, refl, sym}
use Rattle.std.specs.List.Sorted.{IsStrictlySortedBy}
use Rattle.std.specs.declared.cmp.Ordering.TheVariants.{Less, Greater}
use Rattle.ti_base.specs.declared.place.Place.{Place}
use Rattle.ti_base.specs.Places.{same_place}
use Rattle.ti_lang.specs.Typing.BuiltIn.{built_in}
use Rattle.ti_lang.specs.Typing.Declared.{named_field_type, instance_method}
use Rattle.ti_blame.specs.Marks.{Marks, IsSubset, marks_of}
use Rattle.ti_infer.specs.Accepted.{IsAccepted}
use Rattle.ti_infer.specs.Answer.{MarksCandidates}
use Rattle.ti_rows_of_laws.specs.Texts.{pl}
use Rattle.ti_rows_of_laws.specs.Markings as marks
use Rattle.ti_rows_of_laws.specs.Programs as programs
use Rattle.ti_rows_of_laws.proofs.Places.{true_false, or_left, or_right}
use Rattle.ti_rows_of_laws.proofs.Each.{some_more, sent_main, two_main, own_never, no_method_but_main}
use Rattle.ti_rows_of_laws.proofs.markings.greatest.Goals as goal

-- ---- the variable alone

sent_accepted : IsAccepted programs.a_sent_number (marks_of marks.the_first)
unfolding built_in named_field_type instance_method
sent_accepted = record { types = refl; single = refl }

sent_names : MarksCandidates programs.a_sent_number (marks_of marks.the_first)
sent_names = record { methods = λ at h. absurd (true_false (sym h)); results = λ at h. absurd (true_false (sym h)); variables = λ at h. h }

sent_greatest : (a : Marks) → MarksCandidates programs.a_sent_number a → IsAccepted programs.a_sent_number a → IsSubset a (marks_of marks.the_first)
sent_greatest a names h = record {
  methods = λ at e. absurd (no_method_but_main a at e (or_left _ (names.methods at e)) (sent_main a h));
  results = λ at e. absurd (true_false (sym (names.results at e)));
  variables = λ at e. names.variables at e;
}

pub returns-clause-the_variable : goal.returns-clause-the_variable
unfolding IsStrictlySortedBy
returns-clause-the_variable c = record { names = sent_names; accepted = sent_accepted; greatest = sent_greatest; rises = (tt, tt) }

pub returns-clause-inferred : goal.returns-clause-inferred
returns-clause-inferred c = record { accepted = λ e. sent_accepted; greatest = sent_greatest; none = tt; sooner = tt; collective = tt }

pub returns-clause-less : goal.returns-clause-less
unfolding built_in named_field_type instance_method
returns-clause-less c = λ i. some_more _ _ (i.accepted refl).single

-- ---- both variables

two_accepted : IsAccepted programs.two_numbers (marks_of marks.both_marks)
unfolding built_in named_field_type instance_method
two_accepted = record { types = refl; single = refl }

two_names : MarksCandidates programs.two_numbers (marks_of marks.both_marks)
two_names = record { methods = λ at h. absurd (true_false (sym h)); results = λ at h. absurd (true_false (sym h)); variables = λ at h. h }

two_greatest : (a : Marks) → MarksCandidates programs.two_numbers a → IsAccepted programs.two_numbers a → IsSubset a (marks_of marks.both_marks)
two_greatest a names h = record {
  methods = λ at e. absurd (no_method_but_main a at e (or_left _ (names.methods at e)) (two_main a h));
  results = λ at e. absurd (true_false (sym (names.results at e)));
  variables = λ at e. names.variables at e;
}

pub returns-clause-both : goal.returns-clause-both
unfolding IsStrictlySortedBy
returns-clause-both c = record { names = two_names; accepted = two_accepted; greatest = two_greatest; rises = ((refl, tt), (tt, tt)) }

second_accepted : IsAccepted programs.two_numbers (marks_of marks.the_second)
unfolding built_in named_field_type instance_method
second_accepted = record { types = refl; single = refl }

-- the second is a name
second_name : (at : Place) → (marks_of marks.the_second).variables at ≡ true → (marks_of marks.both_marks).variables at ≡ true
second_name at h = or_right (same_place at (pl 1 66)) _ h

second_names : MarksCandidates programs.two_numbers (marks_of marks.the_second)
second_names = record { methods = λ at h. absurd (true_false (sym h)); results = λ at h. absurd (true_false (sym h)); variables = second_name }

pub returns-clause-one_of_two : goal.returns-clause-one_of_two
returns-clause-one_of_two c = λ g.
    let part = g.greatest (marks_of marks.the_second) second_names second_accepted in
    true_false (sym (part.variables (pl 1 77) refl))

greater_less : Greater ≡ Less → ⊥
greater_less e = cc

pub returns-clause-not_in_order : goal.returns-clause-not_in_order
unfolding IsStrictlySortedBy
returns-clause-not_in_order c = λ g. greater_less g.rises.0.0

pub returns-clause-one_that_is_not_accepted : goal.returns-clause-one_that_is_not_accepted
returns-clause-one_that_is_not_accepted c = λ g. own_never (marks_of marks.the_first) g.accepted
