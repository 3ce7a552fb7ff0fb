-- The cells of a history are counted: each that is written, and each that a thing has.
use Rattle.std.proofs.Common.{◌≡◌, ℕ, zero, suc, ◌+◌, zero-lt-suc, Bool, true, false, not, ◌&&◌, ◌==◌, if◌then◌else◌, inl, inr, map, slice_get, Contains, option_map, Option, Some, None, List, [], ◌∷◌, refl, ap, sym, ◌∙◌, subst, arith}
use Rattle.std.specs.List.{list_any}
use Rattle.std.specs.Option.{option_and_then, option_map_or}
use Rattle.std.proofs.lemmas.List.Elements.{Contains-append_left, Contains-append_right}
use Rattle.std.proofs.lemmas.List.Folds.{list_any_at}
use Rattle.ti_base.specs.declared.point.Point.{Point}
use Rattle.ti_base.specs.declared.value.Id.{Id}
use Rattle.ti_base.specs.declared.value.Value.{Value}
use Rattle.ti_base.specs.declared.value.Value.TheVariants as v
use Rattle.ti_base.specs.declared.value.Zero.{Zero}
use Rattle.ti_base.specs.declared.action.Action.{Action}
use Rattle.ti_base.specs.declared.action.Action.TheVariants as act
use Rattle.ti_base.specs.declared.fault.FaultKind.TheVariants as fault
use Rattle.ti_base.specs.declared.entry.Answer.TheVariants.{Done, Val}
use Rattle.ti_base.specs.declared.entry.Entry.{Entry}
use Rattle.ti_base.specs.PointSets.{IsAmong}
use Rattle.ti_base.specs.Rects.{IsRect, IsIn, is_in, points_of}
use Rattle.ti_base.specs.Cells.{Cell, Field, Element, Grid, same_cell, zero_value, cell_of, whole_grid, view, view_fault, suits, seen_point}
use Rattle.ti_rect.specs.Views.{IsView}
use Rattle.ti_rect.proofs.Lemmas.{points_listed, in_tests, view_inside}
use Rattle.ti_lang.specs.Program.Classes.{ProgramView}
use Rattle.ti_lang.specs.Meaning.Zeros.{zeros_of_class}
use Rattle.ti_lang.specs.Meaning.Histories.{History, is_making}
use Rattle.ti_lang.specs.Meaning.HeapOf.{view_id, is_object, is_grid, class_made, class_of_object, grid_made, grid_of_id, field_cells, cells_made, cells_of, written_by, written_to, or_else, last_written, cell_value}
use Rattle.ti_lang.specs.Meaning.HeapAnswers.{Answers, possible_if, faults_if, makes, at_point, views, heap_answer, IsAnswered}
use Rattle.ti_lang.proofs.Lemmas.{possible_then, some_then}
use Rattle.ti_align.specs.Counted.{CellsCounted}
use Rattle.ti_align.proofs.Runs.Vars.{true_false, and_right, not_true}
use Rattle.ti_align.proofs.RunTypes.Operating.{none_some, some_same}
use Rattle.ti_align.proofs.RunTypes.Heaping.{same_cells, object_is, grid_is, pair_first, no_fault}
use Rattle.ti_align.proofs.Alignment.Rounds.{said}

-- ---- lists of cells

first_in : (c : Cell) (cs : List Cell) → Contains (c ∷ cs) c
first_in c cs = (zero, zero-lt-suc _, refl)

rest_in : (c d : Cell) (cs : List Cell) → Contains cs c → Contains (d ∷ cs) c
rest_in c d cs k = Contains-append_right (d ∷ []) cs c k

fields_in : (obj : Id) (k : ℕ) (zeros : List Zero) (field : ℕ) (z : Zero) → slice_get zeros field ≡ Some z → Contains (field_cells obj k zeros) (Field obj (k + field))
fields_in obj k [] field z h = absurd (none_some z h)
fields_in obj k (x ∷ xs) zero z h = subst (λ n. Contains (field_cells obj k (x ∷ xs)) (Field obj n)) (same k) (first_in (Field obj k) _)
  where
    same : (k : ℕ) → k ≡ k + 0
    same k = omega arith
fields_in obj k (x ∷ xs) (suc field) z h =
    subst (λ n. Contains (field_cells obj k (x ∷ xs)) (Field obj n)) (same k field) (rest_in _ (Field obj k) _ (fields_in obj (k + 1) xs field z h))
  where
    same : (k n : ℕ) → k + 1 + n ≡ k + suc n
    same k n = omega arith

elements_in : (block : Id) (ps : List Point) (p : Point) → IsAmong ps p → Contains (map (Element block) ps) (Element block p)
elements_in block [] p k = absurd k
elements_in block (q ∷ ps) p (inl z) = subst (λ x. Contains (map (Element block) (q ∷ ps)) (Element block x)) (sym z) (first_in (Element block q) _)
elements_in block (q ∷ ps) p (inr k) = rest_in _ (Element block q) _ (elements_in block ps p k)

-- where a test fails for all of them, it does for each
pub each_fails : (test : Cell → Bool) (cs : List Cell) (c : Cell) → Contains cs c → list_any test cs ≡ false → test c ≡ false
each_fails test cs c k z = not_true (test c) (λ t. true_false (sym (list_any_at test cs k.0 c k.1 (ap test k.2 ∙ t)) ∙ z))

-- ---- fields

-- objects of a class that has this field
abbrev HasField : ProgramView → ℕ → Option ℕ → Type 0
HasField p field o = (c : ℕ) × (zeros : List Zero) × (z : Zero) × (o ≡ Some c) × (zeros_of_class p c ≡ Some zeros) × (slice_get zeros field ≡ Some z)

-- where a field holds something, its object has such a class
field_there : (p : ProgramView) (h : History) (obj : Id) (field : ℕ) (value : Value) → cell_value p (Field obj field) h ≡ Some value → HasField p field (class_of_object obj h)
field_there p h obj field value k = by (class_of_object obj h) refl (λ o. option_map (λ (zero : Value). option_map_or (λ (x : Value). x) (last_written (Field obj field) h) zero) o) (λ z. none_some value z) k
  where
    get : (c : ℕ) (zeros : List Zero) → zeros_of_class p c ≡ Some zeros → (o : Option Zero) → slice_get zeros field ≡ o
        → (f : Option Value → Option Value) → (f None ≡ Some value → ⊥) → f (option_map zero_value o) ≡ Some value
        → HasField p field (Some c)
    get c zeros y None q f n k = absurd (n k)
    get c zeros y (Some z) q f n k = (c, zeros, z, refl, y, q)

    zeros_at : (c : ℕ) (o : Option (List Zero)) → zeros_of_class p c ≡ o → (f : Option Value → Option Value) → (f None ≡ Some value → ⊥)
        → f (option_and_then (λ zeros. option_map zero_value (slice_get zeros field)) o) ≡ Some value → HasField p field (Some c)
    zeros_at c None y f n k = absurd (n k)
    zeros_at c (Some zeros) y f n k = get c zeros y (slice_get zeros field) refl f n k

    by : (o : Option ℕ) → class_of_object obj h ≡ o → (f : Option Value → Option Value) → (f None ≡ Some value → ⊥)
        → f (option_and_then (λ zeros. option_map zero_value (slice_get zeros field)) (option_and_then (zeros_of_class p) o)) ≡ Some value → HasField p field o
    by None q f n k = absurd (n k)
    by (Some c) q f n k = zeros_at c (zeros_of_class p c) refl f n k

object_cells : (p : ProgramView) (h : History) (obj : Id) (c : ℕ) (zeros : List Zero) (field : ℕ) (z : Zero) → class_of_object obj h ≡ Some c
    → zeros_of_class p c ≡ Some zeros → slice_get zeros field ≡ Some z → Contains (cells_of p h) (Field obj field)
object_cells p [] obj c zeros field z k y q = absurd (none_some c k)
object_cells p (e ∷ h) obj c zeros field z k y q = by (is_making e.act && is_object obj e.answer) refl k (λ g. object_cells p h obj c zeros field z g y q)
  where
    made : (a : Action) → class_made a ≡ Some c → Contains (cells_made p a (Val (v.Obj (Some obj)))) (Field obj field)
    made (act.NewObj class region) m =
        subst (λ o. Contains (option_map_or (field_cells obj 0) o []) (Field obj field))
        (sym (ap (zeros_of_class p) (some_same class c m) ∙ y)) (subst (λ n. Contains (field_cells obj 0 zeros) (Field obj n))
        (none field) (fields_in obj 0 zeros field z q))
      where
        none : (n : ℕ) → 0 + n ≡ n
        none n = omega arith
    made _ m = absurd (none_some c m)

    by : (b : Bool) → (is_making e.act && is_object obj e.answer) ≡ b → (if b then class_made e.act else class_of_object obj h) ≡ Some c
        → (class_of_object obj h ≡ Some c → Contains (cells_of p h) (Field obj field)) → Contains (cells_of p (e ∷ h)) (Field obj field)
    by true t m ih =
        Contains-append_left (cells_made p e.act e.answer) (cells_of p h) (Field obj field)
        (subst (λ r. Contains (cells_made p e.act r) (Field obj field)) (sym (object_is obj e.answer (and_right (is_making e.act) (is_object obj e.answer) t))) (made e.act m))
    by false t m ih = Contains-append_right (cells_made p e.act e.answer) (cells_of p h) (Field obj field) (ih m)

pub field_counted : (p : ProgramView) (h : History) (obj : Id) (field : ℕ) (value : Value) → cell_value p (Field obj field) h ≡ Some value → Contains (cells_of p h) (Field obj field)
field_counted p h obj field value k = let t = field_there p h obj field value k in object_cells p h obj t.0 t.1 field t.2 t.3 t.4 t.5

-- ---- histories

-- what is made is in its form
abbrev pub MakesFormed : Action → Type 0
MakesFormed (act.NewGrid first domain region) = IsRect domain
MakesFormed (act.MakeView grid how) = IsView how
MakesFormed a = Unit {0}

-- each grid is over a rectangle of points whose cells are counted, and so is each cell that was written
pub record Counted (p : ProgramView) (h : History) : Type 0 where
  pub forms : (id : Id) (g : Grid) → grid_of_id id h ≡ Some g → IsRect g.domain
  pub points : (id : Id) (g : Grid) (at : Point) → grid_of_id id h ≡ Some g → IsIn g.domain at → Contains (cells_of p h) (cell_of g at)
  pub written : (c : Cell) (value : Value) → last_written c h ≡ Some value → Contains (cells_of p h) c

pub none_counted : (p : ProgramView) → Counted p []
none_counted p = record {
  forms = λ id g z. absurd (none_some g z);
  points = λ id g at z. absurd (none_some g z);
  written = λ c x z. absurd (none_some x z);
}

abbrev OverRect : Grid → (Cell → Type 0) → Type 0
OverRect g Counts = IsRect g.domain × ((at : Point) → IsIn g.domain at → Counts (cell_of g at))

-- behind an entry that got its answer and is in its form
module _ (p : ProgramView) (h : History) (e : Entry) (answered : IsAnswered p (e ∷ h)) (formed : MakesFormed e.act) (old : Counted p h) where
  abbrev Counts : Cell → Type 0
  Counts c = Contains (cells_of p (e ∷ h)) c

  abbrev new : List Cell
  new = cells_made p e.act e.answer

  stays : (c : Cell) → Contains (cells_of p h) c → Counts c
  stays c k = Contains-append_right new (cells_of p h) c k

  said_now : heap_answer p h e.proc e.act ≡ Answers e.answer
  said_now = said p h e answered

  made_grid : (id : Id) (g : Grid) (a : Action) → e.act ≡ a → MakesFormed a → heap_answer p h e.proc a ≡ Answers e.answer
      → is_grid id e.answer ≡ true → grid_made id a (λ viewed. grid_of_id viewed h) ≡ Some g → OverRect g Counts
  made_grid id g (act.NewGrid first domain region) z f q i m =
      subst (λ x. OverRect x Counts) (some_same (whole_grid id first domain) g m) (
        f,
        λ at k.
            Contains-append_left new (cells_of p h) (Element id at)
            (subst (λ a. Contains (cells_made p a e.answer) (Element id at)) (sym z)
            (subst (λ r. Contains (cells_made p (act.NewGrid first domain region) r) (Element id at)) (sym (grid_is id e.answer i))
            (elements_in id (points_of domain) at (((points_listed domain f).has at).1 k)))),
      )
  made_grid id g (act.MakeView viewed how) z f q i m =
      let made = makes p h e.proc (act.MakeView viewed how) (v.Grid (Some (view_id e.proc viewed h))) in
      let s = some_then (grid_of_id viewed h) (λ k. possible_if (suits how k.domain) (views (view_fault how k.domain) made)) e.answer q in
      let t = possible_then (suits how s.0.domain) (views (view_fault how s.0.domain) made) e.answer s.2 in
      let is : view how s.0 ≡ g = some_same (view how s.0) g (sym (ap (option_map (view how)) s.1) ∙ m) in
      let inside = view_inside how s.0.domain (old.forms viewed s.0 s.1) f t.0 (no_fault (view_fault how s.0.domain) made e.answer t.1) in
      subst (λ x. OverRect x Counts) is (inside.0, λ at k. stays (cell_of (view how s.0) at) (old.points viewed s.0 (seen_point how at) s.1 (inside.1 at k)))
  made_grid id g _ z f q i m = absurd (none_some g m)

  grids : (id : Id) (g : Grid) → grid_of_id id (e ∷ h) ≡ Some g → OverRect g Counts
  grids id g m = by (is_making e.act && is_grid id e.answer) refl m
    where
      by : (b : Bool) → (is_making e.act && is_grid id e.answer) ≡ b → (if b then grid_made id e.act (λ viewed. grid_of_id viewed h) else grid_of_id id h) ≡ Some g → OverRect g Counts
      by true k m = made_grid id g e.act refl formed said_now (and_right (is_making e.act) (is_grid id e.answer) k) m
      by false k m = (old.forms id g m, λ at x. stays (cell_of g at) (old.points id g at m x))

  -- what an action writes is a cell that is counted
  writes : (a : Action) → heap_answer p h e.proc a ≡ Answers e.answer → (c : Cell) (x : Value) → written_by a h ≡ Some (c, x) → Contains (cells_of p h) c
  writes (act.PutField obj field value) q c x w =
      let s = some_then (cell_value p (Field obj field) h) (λ old. Answers Done) e.answer q in
      subst (Contains (cells_of p h)) (pair_first (Field obj field) c value x w) (field_counted p h obj field s.0 s.1)
  writes (act.PutElem grid at value) q c x w =
      let s = some_then (grid_of_id grid h) (λ g. at_point g at (Answers Done)) e.answer q in
      let t = possible_then (at.dim == s.0.domain.dim) (faults_if (not (is_in s.0.domain at)) fault.Bounds (Answers Done)) e.answer s.2 in
      let w = sym (ap (option_map (λ (g : Grid). (cell_of g at, value))) s.1) ∙ w in
      subst (Contains (cells_of p h)) (pair_first (cell_of s.0 at) c value x w)
      (old.points grid s.0 at s.1 ((in_tests s.0.domain at (old.forms grid s.0 s.1)).0 (inside (is_in s.0.domain at) t.1)))
    where
      inside : (b : Bool) → faults_if (not b) fault.Bounds (Answers Done) ≡ Answers e.answer → b ≡ true
      inside true z = refl
      inside false z = cc
  writes _ q c x w = absurd (none_some (c, x) w)

  written_now : (c : Cell) (x : Value) (o : Option (Cell × Value)) → written_by e.act h ≡ o → or_else (written_to c o) (last_written c h) ≡ Some x → Counts c
  written_now c x None w z = stays c (old.written c x z)
  written_now c x (Some (d, y)) w z = by (same_cell c d) refl z
    where
      by : (b : Bool) → same_cell c d ≡ b → or_else (if b then Some y else None) (last_written c h) ≡ Some x → Counts c
      by true s z = stays c (subst (Contains (cells_of p h)) (sym (same_cells c d s)) (writes e.act said_now d y w))
      by false s z = stays c (old.written c x z)

  pub counted_more : Counted p (e ∷ h)
  counted_more = record {
    forms = λ id g z. (grids id g z).0;
    points = λ id g at z. (grids id g z).1 at;
    written = λ c x z. written_now c x (written_by e.act h) refl z;
  }

pub cells_counted : (p : ProgramView) (h : History) → Counted p h → CellsCounted p h
cells_counted p h k = record {
  written = k.written;
  fields = field_counted p h;
  elements = λ id g at z i. k.points id g at z ((in_tests g.domain at (k.forms id g z)).0 i);
}
