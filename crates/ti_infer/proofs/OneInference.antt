-- A program has at most one greatest marking and at most one first collective that no marking aligns, and never both.
use Rattle.std.proofs.Common.{◌≡◌, Bool, true, false, List, refl, arith}
use Rattle.std.proofs.lemmas.Bool.Decides.{nat_tests}
use Rattle.ti_base.specs.declared.place.Place.{Place}
use Rattle.ti_base.specs.Places.{place_before, same_place}
use Rattle.ti_lang.specs.Program.Classes.{ProgramView}
use Rattle.ti_blame.specs.declared.mark.Mark.{Mark}
use Rattle.ti_blame.specs.Marks.{marks_of}
use Rattle.ti_infer.specs.Answer.{IsGreatestMarking, IsFirstUnaligned}
use Rattle.ti_infer.proofs.ImplicationsOfProgram.{same_places}
use Rattle.ti_infer.proofs.OneMarking.{same_marks}

pub one_greatest : (p : ProgramView) (m n : List Mark) → IsGreatestMarking p m → IsGreatestMarking p n → m ≡ n
one_greatest p m n g h =
    same_marks m n g.rises h.rises (h.greatest (marks_of m) g.names g.accepted) (g.greatest (marks_of n) h.names h.accepted)

-- of two places one stands before the other, or they are one
neither_before : (a b : Place) → place_before a b ≡ false → place_before b a ≡ false → same_place a b ≡ true
neither_before a b h k = grind (arith, nat_tests)

-- up to what stands before a first one some marking is accepted
none_before : (p : ProgramView) (a b : Place) → IsFirstUnaligned p a → IsFirstUnaligned p b → place_before a b ≡ true → ⊥
none_before p a b f g h =
    let sooner = g.sooner a h in
    f.none sooner.0 sooner.1 sooner.2

not_before : (p : ProgramView) (a b : Place) → IsFirstUnaligned p a → IsFirstUnaligned p b → place_before a b ≡ false
not_before p a b f g = by (place_before a b) refl
  where
    by : (t : Bool) → place_before a b ≡ t → t ≡ false
    by true e = absurd (none_before p a b f g e)
    by false e = refl

pub one_first : (p : ProgramView) (a b : Place) → IsFirstUnaligned p a → IsFirstUnaligned p b → a ≡ b
one_first p a b f g = same_places a b (neither_before a b (not_before p a b f g) (not_before p b a g f))

pub not_both : (p : ProgramView) (m : List Mark) (a : Place) → IsGreatestMarking p m → IsFirstUnaligned p a → ⊥
not_both p m a g f = f.never (marks_of m) g.names g.accepted
