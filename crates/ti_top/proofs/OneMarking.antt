-- A text has at most one greatest marking or one refusal whatever marks it has, by what is known of its bytes, tokens, names and markings.
use Rattle.std.proofs.Common.{◌≡◌, ℕ, List, [], Contains, ap, subst}
use Rattle.ti_base.specs.declared.place.Place.{Place}
use Rattle.ti_syntax.specs.Trees.Classes.{TextTree}
use Rattle.ti_lang.specs.Program.Classes.{ProgramView}
use Rattle.ti_lang.specs.Numbering.{Numbers}
use Rattle.ti_rules.specs.declared.rule.Rule.TheVariants.{B1}
use Rattle.ti_rules.specs.declared.refusal.Refusal.{Refusal}
use Rattle.ti_rules.specs.Refusals.{IsFirstRefusal}
use Rattle.ti_rules.specs.BrokenNames.{BreaksNames}
use Rattle.ti_rules.specs.TypeRules.{type_refusals}
use Rattle.ti_rules.specs.RefusalOf.{HasTree, IsRefusal}
use Rattle.ti_rules.proofs.Lemmas.{first_only, OneReading, one_tree_of, not_among}
use Rattle.ti_blame.specs.declared.mark.Mark.{Mark}
use Rattle.ti_infer.specs.Stripped.{stripped}
use Rattle.ti_infer.specs.Answer.{IsGreatestMarking, IsFirstUnaligned}
use Rattle.ti_top.specs.Inference.{HasMarking, IsUnmarkedTreeRefusal, of_names, of_types, of_marks, IsUnmarkedRefusal, of_text, of_tree}

-- that a program has one answer of the inference
pub record OneInference : Type 0 where
  pub one_marking : (p : ProgramView) (m n : List Mark) → IsGreatestMarking p m → IsGreatestMarking p n → m ≡ n
  pub one_place : (p : ProgramView) (a b : Place) → IsFirstUnaligned p a → IsFirstUnaligned p b → a ≡ b
  pub never_both : (p : ProgramView) (m : List Mark) (a : Place) → IsGreatestMarking p m → IsFirstUnaligned p a → ⊥

-- a text with two trees has one program
one_program_of : OneReading → (text : List ℕ) (a b : TextTree) (p q : ProgramView) → HasTree text a → HasTree text b → Numbers a p → Numbers b q → p ≡ q
one_program_of known text a b p q has other numbers others =
    known.one_numbered b p q (subst (λ (t : TextTree). Numbers t p) (one_tree_of known text a b has other) numbers) others

-- ---- one marking

pub one_marking : OneReading → OneInference → (text : List ℕ) (a b : List Mark) → HasMarking text a → HasMarking text b → a ≡ b
one_marking known infers text a b has other =
    let same : has.program ≡ other.program = one_program_of known text has.tree other.tree has.program other.program has.has_tree other.has_tree has.numbers other.numbers in
    infers.one_marking (stripped other.program) a b (subst (λ (p : ProgramView). IsGreatestMarking (stripped p) a) same has.greatest) other.greatest

-- ---- one refusal

-- where no rule of types is broken, none is the first
none_of_typed : (p : ProgramView) (r : Refusal) → type_refusals (stripped p) ≡ [] → IsFirstRefusal (Contains (type_refusals (stripped p))) r → ⊥
none_of_typed p r typed first = not_among (type_refusals (stripped p)) r typed first.is_broken

abbrev refusal_at : Place → Refusal
refusal_at place = record { rule = B1; place = place }

one_in_tree : OneReading → OneInference → (tree : TextTree) (r s : Refusal) → IsUnmarkedTreeRefusal tree r → IsUnmarkedTreeRefusal tree s → r ≡ s
one_in_tree known infers tree r s (of_names first) (of_names other) = first_only (BreaksNames tree) r s first other
one_in_tree known infers tree r s (of_names first) (of_types none numbers is) = absurd (none r first.is_broken)
one_in_tree known infers tree r s (of_names first) (of_marks none numbers typed is) = absurd (none r first.is_broken)
one_in_tree known infers tree r s (of_types none numbers is) (of_names other) = absurd (none s other.is_broken)
one_in_tree known infers tree r s (of_types {program = p} none numbers is) (of_types {program = q} nothing others other) =
    first_only (Contains (type_refusals (stripped q))) r s
    (subst (λ (x : ProgramView). IsFirstRefusal (Contains (type_refusals (stripped x))) r) (known.one_numbered tree p q numbers others) is) other
one_in_tree known infers tree r s (of_types {program = p} none numbers is) (of_marks {program = q} nothing others typed other) =
    absurd (none_of_typed q r typed (subst (λ (x : ProgramView). IsFirstRefusal (Contains (type_refusals (stripped x))) r) (known.one_numbered tree p q numbers others) is))
one_in_tree known infers tree r s (of_marks none numbers typed is) (of_names other) = absurd (none s other.is_broken)
one_in_tree known infers tree r s (of_marks {program = p} none numbers typed is) (of_types {program = q} nothing others other) =
    absurd (none_of_typed p s typed (subst (λ (x : ProgramView). IsFirstRefusal (Contains (type_refusals (stripped x))) s) (known.one_numbered tree q p others numbers) other))
one_in_tree known infers tree r s (of_marks {program = p} {place = a} none numbers typed is) (of_marks {program = q} {place = b} nothing others well other) =
    ap refusal_at (infers.one_place (stripped q) a b (subst (λ (x : ProgramView). IsFirstUnaligned (stripped x) a) (known.one_numbered tree p q numbers others) is) other)

pub one_refusal : OneReading → OneInference → ((text : List ℕ) (a b : Refusal) → IsRefusal text a → IsRefusal text b → a ≡ b)
    → (text : List ℕ) (r s : Refusal) → IsUnmarkedRefusal text r → IsUnmarkedRefusal text s → r ≡ s
one_refusal known infers one text r s (of_text none is) (of_text gone other) = one text r s is other
one_refusal known infers one text r s (of_text none is) (of_tree {tree = tree} has other) = absurd (none tree has)
one_refusal known infers one text r s (of_tree {tree = tree} has is) (of_text none other) = absurd (none tree has)
one_refusal known infers one text r s (of_tree {tree = tree} has is) (of_tree {tree = another} other_has other) =
    one_in_tree known infers another r s (subst (λ (t : TextTree). IsUnmarkedTreeRefusal t r) (one_tree_of known text tree another has other_has) is) other

-- ---- never both

never_in_tree : OneReading → OneInference → (text : List ℕ) (marks : List Mark) (has : HasMarking text marks) (r : Refusal) → IsUnmarkedTreeRefusal has.tree r → ⊥
never_in_tree known infers text marks has r (of_names first) = has.named r first.is_broken
never_in_tree known infers text marks has r (of_types {program = p} none numbers is) =
    none_of_typed has.program r has.typed
    (subst (λ (x : ProgramView). IsFirstRefusal (Contains (type_refusals (stripped x))) r) (known.one_numbered has.tree p has.program numbers has.numbers) is)
never_in_tree known infers text marks has r (of_marks {program = p} {place = at} none numbers typed is) =
    infers.never_both (stripped has.program) marks at has.greatest
    (subst (λ (x : ProgramView). IsFirstUnaligned (stripped x) at) (known.one_numbered has.tree p has.program numbers has.numbers) is)

pub never_both : OneReading → OneInference → (text : List ℕ) (marks : List Mark) (r : Refusal) → HasMarking text marks → IsUnmarkedRefusal text r → ⊥
never_both known infers text marks r has (of_text none is) = none has.tree has.has_tree
never_both known infers text marks r has (of_tree {tree = tree} other is) =
    never_in_tree known infers text marks has r (subst (λ (t : TextTree). IsUnmarkedTreeRefusal t r) (one_tree_of known text tree has.tree other has.has_tree) is)
