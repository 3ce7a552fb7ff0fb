use Rattle.std.proofs.Common.{◌≡◌, ◌≤◌, ℤ, Bool, true, false, if◌then◌else◌, Some, None, refl, sym, ap, subst, subst₂, ◌∙◌, arith, to_z, of_z}
use Rattle.std.specs.Int.{w32}
use Rattle.std.proofs.lemmas.Int.{to_z-of_z}
use Rattle.std.proofs.lemmas.Bool.{false_from_ne_true}
use Rattle.ti_base.specs.declared.action.ViewHow.TheVariants.{Slice}
use Rattle.ti_base.specs.declared.fault.FaultKind.TheVariants.{Bounds}
use Rattle.ti_base.specs.Rects.{IsRect}
use Rattle.ti_base.specs.Cells.{has_coordinate}
use Rattle.ti_grid.specs.declared.layout.Layout.{Layout}
use Rattle.ti_grid.specs.Views.{IsSeen, SomeHas}
use Rattle.ti_grid.proofs.SliceLaws.{coordinate_from, coordinate_to, some_from, some_to, sliced_laid, sliced_seen}
use Rattle.ti_grid.proofs.slice.view_slice.Goals as goal
use Rattle.ti_grid.proofs.slice.view_slice.Goals.{After-set_apart, After-contains}

-- the test of the domain as it was handed in
asked : (c : After-set_apart) (t : Bool) → t ≡ has_coordinate c.layout-l.result.dom (to_z w32 (of_z w32 c.args.coordinate)) (to_z w32 (of_z w32 c.args.position))
    → t ≡ has_coordinate c.args.view.now.dom c.args.coordinate c.args.position
asked c t e =
    e ∙ (λ i. has_coordinate (c.layout-l.ensures.value i).dom (to_z-of_z w32 c.args.coordinate c.ranges.coordinate i) (to_z-of_z w32 c.args.position c.ranges.position i))

form : (c : After-set_apart) → IsRect c.args.view.now.dom
form c = subst (λ (l : Layout). IsRect l.dom) c.layout-l.ensures.value c.layout-l.ensures.laid.form

none : (c : After-set_apart) → false ≡ has_coordinate c.args.view.now.dom c.args.coordinate c.args.position → SomeHas c.args.view.now.dom c.args.coordinate c.args.position → ⊥
none c e s =
    let f : false ≡ true = e ∙ coordinate_to c.args.view.now.dom (form c) c.args.coordinate c.args.position (some_to c.args.view.now.dom (form c) c.args.coordinate c.args.position s) in
    cc

some : (c : After-set_apart) → true ≡ has_coordinate c.args.view.now.dom c.args.coordinate c.args.position → SomeHas c.args.view.now.dom c.args.coordinate c.args.position
some c e = some_from c.args.view.now.dom (form c) c.args.coordinate c.args.position (coordinate_from c.args.view.now.dom (form c) c.args.coordinate c.args.position (sym e))

pub returns-in_default-clause-fault : goal.returns-in_default-clause-fault
returns-in_default-clause-fault c =
    ap (λ (t : Bool). if t then None else Some Bounds) (asked (goal.at.returns-in_default-clause-fault c).After-set_apart false (c.in_default.ensures _))

pub returns-in_default-clause-bounds : goal.returns-in_default-clause-bounds
returns-in_default-clause-bounds c =
    let a = (goal.at.returns-in_default-clause-bounds c).After-set_apart in
    (λ _. none a (asked a false (c.in_default.ensures _)), λ _. refl)

-- no point has it where the range hasn't
left : (c : After-contains) → c.contains.result ≡ false → false ≡ has_coordinate c.layout-l.result.dom (to_z w32 (of_z w32 c.args.coordinate)) (to_z w32 (of_z w32 c.args.position))
left c e =
    sym (false_from_ne_true _ (λ t.
    let f : false ≡ true = sym e ∙ c.contains.ensures.1 ((c.in-Some.ensures.has (to_z w32 (of_z w32 c.args.position))).0 t) in
    cc))

pub contains-requires : goal.contains-requires
contains-requires c = c.in-Some.ensures.form

pub returns-then-not-contains-clause-fault : goal.returns-then-not-contains-clause-fault
returns-then-not-contains-clause-fault c =
    let a = goal.at.returns-then-not-contains-clause-fault c in
    ap (λ (t : Bool). if t then None else Some Bounds) (asked a.After-set_apart false (left a.After-contains c.if-not-contains.true))

pub returns-then-not-contains-clause-bounds : goal.returns-then-not-contains-clause-bounds
returns-then-not-contains-clause-bounds c =
    let a = goal.at.returns-then-not-contains-clause-bounds c in
    (λ _. none a.After-set_apart (asked a.After-set_apart false (left a.After-contains c.if-not-contains.true)), λ _. refl)

-- some point has it where the range has
met : (c : After-contains) → c.contains.result ≡ true → true ≡ has_coordinate c.layout-l.result.dom (to_z w32 (of_z w32 c.args.coordinate)) (to_z w32 (of_z w32 c.args.position))
met c e = sym ((c.in-Some.ensures.has (to_z w32 (of_z w32 c.args.position))).1 (c.contains.ensures.0 e))

pub offset-requires-clause-on : goal.offset-requires-clause-on
offset-requires-clause-on c = c.contains.ensures.0 c.if-not-contains.false

pub offset-requires-clause-below : goal.offset-requires-clause-below
offset-requires-clause-below c = omega (arith, c.in-Some.ensures.below _ (c.contains.ensures.0 c.if-not-contains.false))

pub overflow_add-base : goal.overflow_add-base
overflow_add-base c = omega (arith, c.in-Some.ensures.below _ (c.contains.ensures.0 c.if-not-contains.false), c.offset.ensures)

pub view_from_layout-requires : goal.view_from_layout-requires
view_from_layout-requires c =
    let l = c.layout-l.result in
    let two : 2 ≤ l.dom.dim = subst (λ (x : Layout). 2 ≤ x.dom.dim) (sym c.layout-l.ensures.value) c.requires in
    sliced_laid l c.layout-l.ensures.laid two _ _ _ _ _ _ _ c.in-Some.ensures _ (c.contains.ensures.0 c.if-not-contains.false) c.of_axes-dom.result c.offset.result
    c.of_axes-dom.ensures.value c.offset.ensures

pub returns-clause-fault : goal.returns-clause-fault
returns-clause-fault c =
    let a = goal.at.returns-clause-fault c in
    ap (λ (t : Bool). if t then None else Some Bounds) (asked a.After-set_apart true (met a.After-contains c.if-not-contains.false))

pub returns-clause-bounds : goal.returns-clause-bounds
returns-clause-bounds c =
    let a = goal.at.returns-clause-bounds c in
    (λ e. cc, λ out. absurd (out (some a.After-set_apart (asked a.After-set_apart true (met a.After-contains c.if-not-contains.false)))))

pub returns-clause-view : goal.returns-clause-view
returns-clause-view c =
    let l = c.layout-l.result in
    let two : 2 ≤ l.dom.dim = subst (λ (x : Layout). 2 ≤ x.dom.dim) (sym c.layout-l.ensures.value) c.requires in
    subst₂ (λ (k j : ℤ). IsSeen (Slice k j) c.args.view.now c.view_from_layout.result) (to_z-of_z w32 c.args.coordinate c.ranges.coordinate) (to_z-of_z w32 c.args.position c.ranges.position)
    (subst₂ (IsSeen (Slice (to_z w32 (of_z w32 c.args.coordinate)) (to_z w32 (of_z w32 c.args.position)))) c.layout-l.ensures.value (sym c.view_from_layout.ensures)
    (sliced_seen l c.layout-l.ensures.laid two _ _ _ _ _ _ _ c.in-Some.ensures _ (c.contains.ensures.0 c.if-not-contains.false) c.of_axes-dom.result c.offset.result
    c.of_axes-dom.ensures.value c.offset.ensures))
