-- A new thing changes no cell that was there.
use Rattle.std.proofs.Common.{◌≡◌, inl, inr, ℕ, Bool, true, false, cond, ◌&&◌, ◌==◌, [], ◌∷◌, Option, Some, None, refl, sym, ap, ◌∙◌, eqb-true}
use Rattle.std.specs.Option.{option_map, option_and_then, option_map_or}
use Rattle.std.specs.Prelude.{slice_get}
use Rattle.ti_base.specs.declared.value.Id.{Id}
use Rattle.ti_base.specs.declared.value.Value.{Value}
use Rattle.ti_base.specs.declared.value.Value.TheVariants as v
use Rattle.ti_base.specs.declared.action.Action.{Action}
use Rattle.ti_base.specs.declared.action.Action.TheVariants as act
use Rattle.ti_base.specs.declared.entry.Answer.{Answer}
use Rattle.ti_base.specs.declared.entry.Answer.TheVariants.{Done, Val}
use Rattle.ti_base.specs.declared.entry.Entry.{Entry}
use Rattle.ti_base.specs.Cells.{Cell, Field, Element, same_id, zero_value, Grid}
use Rattle.ti_lang.specs.Program.Classes.{ProgramView}
use Rattle.ti_lang.specs.Meaning.Zeros.{zeros_of_class}
use Rattle.ti_lang.specs.Meaning.Histories.{History, is_making}
use Rattle.ti_lang.specs.Meaning.HeapOf.{is_object, is_grid, made_by, IsMade, class_made, class_of_object, grid_made, grid_of_id, written_by, written_to, or_else, last_written, zero_of, cell_value}
use Rattle.ti_lang.specs.Meaning.HeapAnswers.{IsAnswered}
use Rattle.ti_lang.proofs.MeaningLaws.Things.{made_once}

-- ---- names

pub both_true : (a b : Bool) → (a && b) ≡ true → (a ≡ true) × (b ≡ true)
both_true true b e = (refl, e)
both_true false b e = cc

pub same_name : (a b : Id) → same_id a b ≡ true → a ≡ b
same_name a b e =
    let x = both_true (a.maker == b.maker && a.serial == b.serial && a.owner == b.owner) (a.region == b.region) e in
    let y = both_true (a.maker == b.maker && a.serial == b.serial) (a.owner == b.owner) x.0 in
    let z = both_true (a.maker == b.maker) (a.serial == b.serial) y.0 in
    λ i. record { maker = eqb-true a.maker b.maker z.0 i; serial = eqb-true a.serial b.serial z.1 i; owner = eqb-true a.owner b.owner y.1 i; region = eqb-true a.region b.region x.1 i }

made_when : (a : Action) (id : Id) → is_making a ≡ true → cond (is_making a) (Some id) None ≡ Some id
made_when a id m = ap (λ t. cond t (Some id) None) m

object_made : (a : Action) (id : Id) (r : Answer) → is_making a ≡ true → is_object id r ≡ true → made_by a r ≡ Some id
object_made a id (Val (v.Obj (Some x))) m e = made_when a x m ∙ ap Some (sym (same_name id x e))
object_made a id (Val (v.Obj None)) m e = cc
object_made a id (Val (v.Int n)) m e = cc
object_made a id (Val (v.Long n)) m e = cc
object_made a id (Val (v.Bool b)) m e = cc
object_made a id (Val (v.Pt p)) m e = cc
object_made a id (Val (v.Rc r)) m e = cc
object_made a id (Val (v.Grid g)) m e = cc
object_made a id (Val (v.Region n)) m e = cc
object_made a id Done m e = cc

grid_made_by : (a : Action) (id : Id) (r : Answer) → is_making a ≡ true → is_grid id r ≡ true → made_by a r ≡ Some id
grid_made_by a id (Val (v.Grid (Some x))) m e = made_when a x m ∙ ap Some (sym (same_name id x e))
grid_made_by a id (Val (v.Grid None)) m e = cc
grid_made_by a id (Val (v.Int n)) m e = cc
grid_made_by a id (Val (v.Long n)) m e = cc
grid_made_by a id (Val (v.Bool b)) m e = cc
grid_made_by a id (Val (v.Pt p)) m e = cc
grid_made_by a id (Val (v.Rc r)) m e = cc
grid_made_by a id (Val (v.Obj g)) m e = cc
grid_made_by a id (Val (v.Region n)) m e = cc
grid_made_by a id Done m e = cc

-- ---- what has a class, and what has a map, was made

pub class_then : (id : Id) (h : History) (c : ℕ) → class_of_object id h ≡ Some c → IsMade id h
class_then id [] c e = cc
class_then id (x ∷ h) c e = by (is_making x.act && is_object id x.answer) refl (class_then id h c) e
  where
    by : (t : Bool) → (is_making x.act && is_object id x.answer) ≡ t → (class_of_object id h ≡ Some c → IsMade id h) → cond t (class_made x.act) (class_of_object id h) ≡ Some c → IsMade id (x ∷ h)
    by true k go f = let b = both_true (is_making x.act) (is_object id x.answer) k in inl (object_made x.act id x.answer b.0 b.1)
    by false k go f = inr (go f)

pub grid_then : (id : Id) (h : History) (g : Grid) → grid_of_id id h ≡ Some g → IsMade id h
grid_then id [] g e = cc
grid_then id (x ∷ h) g e = by (is_making x.act && is_grid id x.answer) refl (grid_then id h g) e
  where
    by : (t : Bool) → (is_making x.act && is_grid id x.answer) ≡ t → (grid_of_id id h ≡ Some g → IsMade id h)
        → cond t (grid_made id x.act (λ viewed. grid_of_id viewed h)) (grid_of_id id h) ≡ Some g → IsMade id (x ∷ h)
    by true k go f = let b = both_true (is_making x.act) (is_grid id x.answer) k in inl (grid_made_by x.act id x.answer b.0 b.1)
    by false k go f = inr (go f)

-- ---- a new thing

not_again : (test : Bool) {A : Type 0} (a b : A) → (test ≡ true → ⊥) → cond test a b ≡ b
not_again true a b h = absurd (h refl)
not_again false a b h = refl

class_stays : (program : ProgramView) (h : History) (e : Entry) (id : Id) (c : ℕ) → IsAnswered program (e ∷ h) → class_of_object id h ≡ Some c → class_of_object id (e ∷ h) ≡ class_of_object id h
class_stays program h e id c a k =
    not_again (is_making e.act && is_object id e.answer) (class_made e.act) (class_of_object id h) (λ t.
    let b = both_true (is_making e.act) (is_object id e.answer) t in
    made_once program h e id a (object_made e.act id e.answer b.0 b.1) (class_then id h c k))

grid_stays : (program : ProgramView) (h : History) (e : Entry) (id : Id) (g : Grid) → IsAnswered program (e ∷ h) → grid_of_id id h ≡ Some g → grid_of_id id (e ∷ h) ≡ grid_of_id id h
grid_stays program h e id g a k =
    not_again (is_making e.act && is_grid id e.answer) (grid_made id e.act (λ viewed. grid_of_id viewed h)) (grid_of_id id h) (λ t.
    let b = both_true (is_making e.act) (is_grid id e.answer) t in
    made_once program h e id a (grid_made_by e.act id e.answer b.0 b.1) (grid_then id h g k))

-- a cell with a zero lies in a thing that was made
field_class : (program : ProgramView) (field : ℕ) (o : Option ℕ) (zero : Value)
    → option_and_then (λ zeros. option_map zero_value (slice_get zeros field)) (option_and_then (zeros_of_class program) o) ≡ Some zero → (c : ℕ) × (o ≡ Some c)
field_class program field None zero e = cc
field_class program field (Some c) zero e = (c, refl)

element_grid : (o : Option Grid) (zero : Value) → option_map (λ (g : Grid). zero_value g.zero) o ≡ Some zero → (g : Grid) × (o ≡ Some g)
element_grid None zero e = cc
element_grid (Some g) zero e = (g, refl)

zero_stays : (program : ProgramView) (h : History) (e : Entry) (cell : Cell) (zero : Value) → IsAnswered program (e ∷ h) → zero_of program cell h ≡ Some zero
    → zero_of program cell (e ∷ h) ≡ zero_of program cell h
zero_stays program h e (Field obj field) zero a k =
    let c = field_class program field (class_of_object obj h) zero k in
    ap (λ o. option_and_then (λ zeros. option_map zero_value (slice_get zeros field)) (option_and_then (zeros_of_class program) o)) (class_stays program h e obj c.0 a c.1)
zero_stays program h e (Element block at) zero a k =
    let g = element_grid (grid_of_id block h) zero k in
    ap (λ o. option_map (λ (x : Grid). zero_value x.zero) o) (grid_stays program h e block g.0 a g.1)

none_written : (a : Action) (h : History) → is_making a ≡ true → written_by a h ≡ None
none_written (act.NewObj class region) h m = refl
none_written (act.NewGrid element domain region) h m = refl
none_written (act.MakeView grid how) h m = refl
none_written (act.GetField obj field) h m = cc
none_written (act.PutField obj field value) h m = cc
none_written (act.GetElem grid at) h m = cc
none_written (act.PutElem grid at value) h m = cc
none_written (act.DomainOf grid) h m = cc
none_written (act.Print literal value) h m = cc
none_written (act.Arrive kind arg deposit) h m = cc
none_written act.Depart h m = cc
none_written (act.Take who) h m = cc
none_written act.End h m = cc
none_written (act.Fault kind) h m = cc

pub value_stays : (program : ProgramView) (h : History) (e : Entry) (cell : Cell) (zero : Value) → IsAnswered program (e ∷ h) → is_making e.act ≡ true
    → zero_of program cell h ≡ Some zero → cell_value program cell (e ∷ h) ≡ cell_value program cell h
value_stays program h e cell zero a m k =
    ap (λ o. option_map (λ zero. option_map_or (λ value. value) (last_written cell (e ∷ h)) zero) o) (zero_stays program h e cell zero a k)
    ∙ ap (λ w. option_map (λ zero. option_map_or (λ value. value) w zero) (zero_of program cell h)) (ap (λ w. or_else (written_to cell w) (last_written cell h)) (none_written e.act h m))
