use Rattle.std.proofs.Common.{◌≡◌, ℕ, ℤ, ◌≤◌, pos, nat_abs, true, false, [], Some, refl, sym, ◌∙◌, ap, subst, arith}
use Rattle.std.specs.Int.{int_wrap}
use Rattle.ti_base.specs.declared.value.Value.{Value}
use Rattle.ti_base.specs.declared.value.Value.TheVariants as v
use Rattle.ti_base.specs.declared.action.Action.TheVariants as act
use Rattle.ti_base.specs.declared.entry.Answer.TheVariants.{Done, Val}
use Rattle.ti_base.specs.declared.entry.Next.TheVariants as next
use Rattle.ti_base.specs.Cells.{Field}
use Rattle.ti_lang.specs.Program.Types.{ValueType}
use Rattle.ti_lang.specs.Program.Types as t
use Rattle.ti_lang.specs.Typing.BuiltIn.{built_in}
use Rattle.ti_lang.specs.Typing.Declared.{field_type, named_field_type, instance_method}
use Rattle.ti_lang.specs.Meaning.Held.{Plain}
use Rattle.ti_lang.specs.Meaning.Comp.{ValueOf, Request}
use Rattle.ti_lang.specs.Meaning.Histories.{History}
use Rattle.ti_lang.specs.Meaning.HeapOf.{class_of_object, last_written}
use Rattle.ti_lang.specs.Program.Classes.{ProgramView}
use Rattle.ti_lang.specs.Meaning.Answers.{HasForm, FitsWanted}
use Rattle.ti_base.specs.declared.action.CollKind.TheVariants as coll
use Rattle.ti_base.specs.declared.action.Deposit.TheVariants as deposit
use Rattle.ti_lang.specs.Meaning.Processes.{RunConfig, Process, begin}
use Rattle.ti_lang.specs.Meaning.NextStep.{here, none, step_label}
use Rattle.ti_align.specs.Answering.{AnswersFit}
use Rattle.ti_align.specs.Heap.{Elements, HeapFits}
use Rattle.ti_align.specs.Stopping.{NoneImpossible}
use Rattle.ti_align.specs.HeapTyping.{HeapTyping, IsOf}
use Rattle.ti_align.specs.Typed.{RunTyped, TakenAsGiven}
use Rattle.ti_align.specs.Scoped.{VariablesInScope}
use Rattle.ti_rows.specs.Texts.{pl}
use Rattle.ti_rows.specs.Histories.{thing}
use Rattle.ti_rows.specs.Failing.{by_two}
use Rattle.ti_rows.specs.Simulation.{solo}
use Rattle.ti_rows.specs.Refuted.Programs as programs
use Rattle.ti_rows.specs.Refuted.Entries as entries
use Rattle.ti_rows.proofs.Reached.{has_next, has_asked, asks_once, gives, fails}
use Rattle.ti_rows.proofs.refutations.types.Goals as goal

-- ---- a boolean is no number

class_is : (a b : ℕ) → Some a ≡ Some b → a ≡ b
class_is a b e = cc

type_is : (a b : ValueType) → Some a ≡ Some b → a ≡ b
type_is a b e = cc

no_number : (n : ℤ) → Plain (v.Bool true) ≡ Plain (v.Int n) → ⊥
no_number n e = cc

not_of : (w : HeapTyping) (type : ValueType) → t.Int ≡ type → IsOf w type (Plain (v.Bool true)) → ⊥
not_of w type e k =
    let n : IsOf w t.Int (Plain (v.Bool true)) = subst (λ x. IsOf w x (Plain (v.Bool true))) (sym e) k in
    no_number n.0 n.1

-- where a cell of a field of numbers holds a boolean, the heap doesn't fit
unfit : (p : ProgramView) (elements : Elements) (h : History) → HeapFits p elements h → class_of_object (thing 0 0 0) h ≡ Some 0 → field_type p 0 0 ≡ Some t.Int
    → last_written (Field (thing 0 0 0) 0) h ≡ Some (v.Bool true) → ⊥
unfit p elements h fits made typed written =
    let m = fits.cells (Field (thing 0 0 0) 0) (v.Bool true) written in
    let class : 0 ≡ m.1.0 = class_is 0 m.1.0 (sym made ∙ m.1.1) in
    let type : t.Int ≡ m.0 = type_is t.Int m.0 (sym typed ∙ ap (λ n. field_type p n 0) class ∙ m.1.2) in
    not_of _ m.0 type m.2

pub returns-clause-a_truth_in_a_number : goal.returns-clause-a_truth_in_a_number
unfolding int_wrap built_in named_field_type instance_method
returns-clause-a_truth_in_a_number c =
    fails RunTyped programs.a_truth_in_a_number 2 (λ f. unfit programs.a_truth_in_a_number _ _ f.fits.heap refl refl refl)

pub returns-clause-a_truth_is_written : goal.returns-clause-a_truth_is_written
unfolding int_wrap built_in named_field_type instance_method
returns-clause-a_truth_is_written c = λ elements f. unfit programs.a_truth_in_a_number _ _ (f.kept (pl 1 100) Done refl) refl refl refl

same_value : (a b : Value) → Val a ≡ Val b → a ≡ b
same_value a b e = cc

no_form : (request : Request) → request.wanted ≡ ValueOf t.Int → FitsWanted request.wanted (Val (v.Bool true)) → ⊥
no_form request e k =
    let n : FitsWanted (ValueOf t.Int) (Val (v.Bool true)) = subst (λ x. FitsWanted x (Val (v.Bool true))) e k in
    subst (HasForm t.Int) (sym (same_value _ n.0 n.1)) n.2

pub returns-clause-a_truth_for_a_number : goal.returns-clause-a_truth_for_a_number
unfolding int_wrap built_in named_field_type instance_method
returns-clause-a_truth_for_a_number c = fails AnswersFit programs.a_truth_in_a_number 3 (λ f.
    let s : RunConfig = by_two 1000 programs.a_truth_in_a_number in
    let w = has_asked s (solo s 2) 0 _ refl in
    let k = f (solo s 2) _ _ w.process refl w.world refl in
    let same = asks_once w.process _ _ _ _ _ _ k.reaches k.stands w.reaches w.stands in
    no_form k.request (ap (λ (r : Request). r.wanted) same) k.fits)

-- ---- two types

not_both : t.Int ≡ t.Boolean → ⊥
not_both e = cc

pub returns-clause-two_types_at_a_broadcast : goal.returns-clause-two_types_at_a_broadcast
unfolding int_wrap built_in named_field_type instance_method
returns-clause-two_types_at_a_broadcast c = fails TakenAsGiven programs.two_broadcasts 2 (λ f.
    let s : RunConfig = by_two 1000 programs.two_broadcasts in
    let first = gives s (solo s 2) [] _ 0 0 _ (pl 1 96) coll.Broadcast (Some 0) (deposit.One (v.Int (pos 1))) Done t.Int refl refl refl refl refl in
    let second = gives s (solo s 2) (solo s 1) _ 1 0 _ (pl 1 137) coll.Broadcast (Some 0) deposit.Nothing Done t.Boolean refl refl refl refl refl in
    not_both (f.given 0 1 0 t.Int t.Boolean first second))

-- ---- a variable that is nowhere

false_true : false ≡ true → ⊥
false_true e = cc

pub returns-clause-a_variable_of_nowhere : goal.returns-clause-a_variable_of_nowhere
unfolding int_wrap built_in named_field_type instance_method
returns-clause-a_variable_of_nowhere c = fails VariablesInScope programs.a_variable_of_nowhere 0 (λ f.
    let p : Process = begin (by_two 1000 programs.a_variable_of_nowhere) 0 in
    false_true (f 0 p p (omega arith) none here refl))

-- ---- an object is no grid

pub returns-clause-an_element_of_an_object : goal.returns-clause-an_element_of_an_object
unfolding int_wrap built_in named_field_type instance_method
returns-clause-an_element_of_an_object c = fails NoneImpossible programs.an_object_for_a_grid 1 (λ f.
    let s : RunConfig = by_two 1000 programs.an_object_for_a_grid in
    let w = has_asked s (solo s 1) 0 _ refl in
    f 0 w.process _ _ (omega arith) w.world (w.settled, record { reaches = w.reaches; stands = ap step_label w.stands }) tt refl)

-- ---- forms

pub returns-clause-a_second_coordinate : goal.returns-clause-a_second_coordinate
unfolding int_wrap built_in named_field_type instance_method
returns-clause-a_second_coordinate c = λ f.
    let a = act.PutField (thing 0 0 0) 0 (v.Pt (record { dim = 1; x1 = pos 0; x2 = pos 3; x3 = pos 0 })) in
    let w = has_next (by_two 1000 programs.a_point_is_copied) entries.a_second_coordinate 0 (next.Act (pl 1 105) a) refl in
    let k = f 0 w.process (pl 1 105) a (omega arith) w.world w.next in
    let n : 3 ≡ 0 = ap nat_abs (k.second (omega arith)) in
    omega (arith, n)

pub returns-clause-a_number_too_large : goal.returns-clause-a_number_too_large
unfolding int_wrap built_in named_field_type instance_method
returns-clause-a_number_too_large c = λ f. omega (arith, f.0.0.1)

pub returns-clause-a_field_of_four_dimensions : goal.returns-clause-a_field_of_four_dimensions
unfolding int_wrap built_in named_field_type instance_method
returns-clause-a_field_of_four_dimensions c = λ f.
    let k : 4 ≤ 3 = (f 0 0 (t.Pt 4) refl).1 in
    omega (arith, k)

pub returns-clause-a_field_of_domains : goal.returns-clause-a_field_of_domains
unfolding int_wrap built_in named_field_type instance_method
returns-clause-a_field_of_domains c = λ f. f 0 0 (t.Dm 1) refl

pub returns-clause-a_number_without_a_form : goal.returns-clause-a_number_without_a_form
returns-clause-a_number_without_a_form c = λ f. omega (arith, f.1)
