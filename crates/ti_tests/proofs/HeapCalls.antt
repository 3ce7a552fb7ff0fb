-- How calls on a heap change the number of objects of each process, which cells exist, and the dimensions of grids.
use Rattle.std.proofs.Common.{◌≡◌, ℕ, ◌+◌, ◌<◌, ◌≤◌, IsSome, IsSomeAnd, IfOk, OnErr, eqb, Bool, true, false, ◌||◌, if◌then◌else◌, List, [], ◌∷◌, ◌++◌, length, Option, Some, None, Result, Ok, Err, refl, sym, ap, subst, lit≤, arith}
use Rattle.std.proofs.lemmas.List.{length-append, length-map}
use Rattle.ti_base.specs.declared.point.Point.{Point}
use Rattle.ti_base.specs.declared.point.Rect.{Rect}
use Rattle.ti_base.specs.declared.value.Id.{Id}
use Rattle.ti_base.specs.declared.value.Value.{Value}
use Rattle.ti_base.specs.declared.fault.FaultKind.{FaultKind}
use Rattle.ti_base.specs.declared.action.ViewHow.{ViewHow}
use Rattle.ti_base.specs.Cells.{suits}
use Rattle.ti_base.specs.Ranges.{Range, is_empty_range, shift_range}
use Rattle.ti_base.specs.Rects.{first_range, second_range, third_range, is_empty, empty_rect, of_ranges, translate_rect}
use Rattle.ti_heap.specs.Contents.{CellIndex, same_cell, GridMap, Made, Contents, empty_contents, with_cell_value, with_thing, dropped_made, without_region, WritesCell}

-- ---- how much a process has made

pub none_made : (s : Contents) (procs : ℕ) → s ≡ empty_contents procs → (q : ℕ) → length (s.made q) ≤ 0
none_made s procs is q = subst (λ (x : Contents). length (x.made q) ≤ 0) (sym is) (lit≤ tt)

pub one_more : (s t : Contents) (id : Id) (values : List Value) (grid : Option GridMap) → t ≡ with_thing id values grid s → (q n : ℕ) → length (s.made q) ≤ n
    → length (t.made q) ≤ n + 1
one_more s t id values grid is q n few = subst (λ (x : Contents). length (x.made q) ≤ n + 1) (sym is) (by (eqb q id.maker))
  where
    by : (b : Bool) → length (if b then s.made q ++ record { region = id.region; cost = 1 + length values } ∷ [] else s.made q) ≤ n + 1
    by true =
        let m : Made = record { region = id.region; cost = 1 + length values } in
        omega (arith, length-append (s.made q) (m ∷ []), few)
    by false = omega (arith, few)

-- where the call may fail
pub one_more_at_most : {H E : Type 0} (f : H → Contents) (r : Result Id E) (old new : H) (values : List Value) (grid : Id → Option GridMap)
    → IfOk r (λ (id : Id). f new ≡ with_thing id values (grid id) (f old)) → OnErr r (new ≡ old)
    → (q n : ℕ) → length ((f old).made q) ≤ n → length ((f new).made q) ≤ n + 1
one_more_at_most f (Ok id) old new values grid ok err q n few = one_more (f old) (f new) id values (grid id) ok q n few
one_more_at_most f (Err e) old new values grid ok err q n few =
    subst (λ (x : Contents). length (x.made q) ≤ n + 1) (sym (ap f err)) (omega (arith, few))

pub as_many : (s t : Contents) (region : ℕ) → t ≡ without_region region s → (q n : ℕ) → length (s.made q) ≤ n → length (t.made q) ≤ n
as_many s t region is q n few = subst (λ (x : Contents). length (x.made q) ≤ n) (sym is) (omega (arith, length-map (s.made q) (dropped_made region), few))

pub as_many_written : (s t : Contents) (o : Option CellIndex) (v : Value) (r : Result (Unit {0}) FaultKind) → WritesCell s o v r t → (q n : ℕ) → length (s.made q) ≤ n
    → length (t.made q) ≤ n
as_many_written s t None v r w q n few = subst (λ (x : Contents). length (x.made q) ≤ n) (sym w.1) few
as_many_written s t (Some cell) v r w q n few = subst (λ (x : Contents). length (x.made q) ≤ n) (sym w.1) few

pub has_serials : (s : Contents) (q n : ℕ) → length (s.made q) ≤ n → n < 4294967295 → length (s.made q) < 4294967295
has_serials s q n few small = omega (arith, few, small)

-- ---- cells

-- a write takes no cell away
pub still_there : (s t : Contents) (cell : CellIndex) (v : Value) → t ≡ with_cell_value cell v s → (other : CellIndex) → IsSome (s.held other) → IsSome (t.held other)
still_there s t cell v is other there = subst (λ (x : Contents). IsSome (x.held other)) (sym is) (by (same_cell other cell))
  where
    by : (b : Bool) → IsSome (if b then Some v else s.held other)
    by true = refl
    by false = there

-- ---- dimensions

pub grid_dim : (o : Option GridMap) (g : GridMap) (n : ℕ) → o ≡ Some g → n ≡ g.domain.dim → IsSomeAnd o (λ (x : GridMap). n ≡ x.domain.dim)
grid_dim o g n is same = subst (λ (p : Option GridMap). IsSomeAnd p (λ (x : GridMap). n ≡ x.domain.dim)) (sym is) same

pub grid_suits : (o : Option GridMap) (g : GridMap) (how : ViewHow) → o ≡ Some g → suits how g.domain ≡ true → IsSomeAnd o (λ (x : GridMap). suits how x.domain ≡ true)
grid_suits o g how is same = subst (λ (p : Option GridMap). IsSomeAnd p (λ (x : GridMap). suits how x.domain ≡ true)) (sym is) same

either_dim : (n : ℕ) (b : Bool) (r s : Rect) → r.dim ≡ n → s.dim ≡ n → (if b then r else s).dim ≡ n
either_dim n true r s e f = e
either_dim n false r s e f = f

of_ranges_dim : (n : ℕ) (a b c : Range) → (of_ranges n a b c).dim ≡ n
of_ranges_dim n a b c =
    let r : Rect = record {
      dim = n;
      lo = record { dim = n; x1 = a.low; x2 = b.low; x3 = c.low };
      hi = record { dim = n; x1 = a.high; x2 = b.high; x3 = c.high };
      step = a.step ∷ b.step ∷ c.step ∷ [];
    } in
    either_dim n (is_empty_range a || is_empty_range b || is_empty_range c) (empty_rect n) r refl refl

pub translated_dim : (r : Rect) (p : Point) → (translate_rect r p).dim ≡ r.dim
translated_dim r p =
    either_dim r.dim (is_empty r) r (of_ranges r.dim (shift_range p.x1 (first_range r)) (shift_range p.x2 (second_range r)) (shift_range p.x3 (third_range r))) refl
    (of_ranges_dim r.dim (shift_range p.x1 (first_range r)) (shift_range p.x2 (second_range r)) (shift_range p.x3 (third_range r)))
