-- The equality test of names decides equality.
use Rattle.std.proofs.Common.{◌≡◌, eqb, Bool, true, false, ◌&&◌, if◌then◌else◌, Option, Some, None, refl, sym, ap, subst, ◌∙◌}
use Rattle.std.specs.Option.{option_and_then}
use Rattle.std.proofs.lemmas.Bool.{and_parts, and_from, eqb-true, eq-eqb}
use Rattle.ti_base.specs.declared.value.Id.{Id}
use Rattle.ti_base.specs.Cells.{same_id}
use Rattle.ti_grid.specs.declared.layout.Layout.{Layout}
use Rattle.ti_heap.specs.declared.allocation.Allocation.{Allocation}
use Rattle.ti_heap.specs.declared.allocation.Allocation.TheVariants.{Object, Block, ViewOf, Gone}
use Rattle.ti_heap.specs.Things.{Things, is_named, allocation_region, layout_of, named, live, layout_in}

one_id : (a b : Id) → a.maker ≡ b.maker → a.serial ≡ b.serial → a.owner ≡ b.owner → a.region ≡ b.region → a ≡ b
one_id a b e f g h = λ i. record { maker = e i; serial = f i; owner = g i; region = h i }

pub same_ids : (a b : Id) → same_id a b ≡ true → a ≡ b
same_ids a b e =
    let r = and_parts (eqb a.maker b.maker && eqb a.serial b.serial && eqb a.owner b.owner) (eqb a.region b.region) e in
    let o = and_parts (eqb a.maker b.maker && eqb a.serial b.serial) (eqb a.owner b.owner) r.0 in
    let s = and_parts (eqb a.maker b.maker) (eqb a.serial b.serial) o.0 in
    one_id a b (eqb-true a.maker b.maker s.0) (eqb-true a.serial b.serial s.1) (eqb-true a.owner b.owner o.1) (eqb-true a.region b.region r.1)

pub id_self : (a : Id) → same_id a a ≡ true
id_self a =
    and_from (eqb a.maker a.maker && eqb a.serial a.serial && eqb a.owner a.owner) (eqb a.region a.region)
    (and_from (eqb a.maker a.maker && eqb a.serial a.serial) (eqb a.owner a.owner)
    (and_from (eqb a.maker a.maker) (eqb a.serial a.serial) (eq-eqb a.maker a.maker refl) (eq-eqb a.serial a.serial refl)) (eq-eqb a.owner a.owner refl))
    (eq-eqb a.region a.region refl)

-- a thing has one name
pub one_name : (a b : Id) (t : Allocation) → is_named a t ≡ true → is_named b t ≡ true → a.maker ≡ b.maker → a.serial ≡ b.serial → a ≡ b
one_name a b (Object region fields) e f m s =
    let x = and_parts (eqb a.owner a.maker) (eqb a.region region) e in
    let y = and_parts (eqb b.owner b.maker) (eqb b.region region) f in
    one_id a b m s (eqb-true a.owner a.maker x.0 ∙ m ∙ sym (eqb-true b.owner b.maker y.0)) (eqb-true a.region region x.1 ∙ sym (eqb-true b.region region y.1))
one_name a b (Block whole elements) e f m s =
    let x = and_parts (eqb a.owner whole.block.owner) (eqb a.region whole.block.region) e in
    let y = and_parts (eqb b.owner whole.block.owner) (eqb b.region whole.block.region) f in
    one_id a b m s (eqb-true a.owner whole.block.owner x.0 ∙ sym (eqb-true b.owner whole.block.owner y.0)) (eqb-true a.region whole.block.region x.1 ∙ sym (eqb-true b.region whole.block.region y.1))
one_name a b (ViewOf view) e f m s =
    let x = and_parts (eqb a.owner view.block.owner) (eqb a.region view.block.region) e in
    let y = and_parts (eqb b.owner view.block.owner) (eqb b.region view.block.region) f in
    one_id a b m s (eqb-true a.owner view.block.owner x.0 ∙ sym (eqb-true b.owner view.block.owner y.0)) (eqb-true a.region view.block.region x.1 ∙ sym (eqb-true b.region view.block.region y.1))
one_name a b Gone e f m s = cc

pub named_region : (id : Id) (t : Allocation) → is_named id t ≡ true → id.region ≡ allocation_region t
named_region id (Object region fields) e = eqb-true id.region region (and_parts (eqb id.owner id.maker) (eqb id.region region) e).1
named_region id (Block whole elements) e = eqb-true id.region whole.block.region (and_parts (eqb id.owner whole.block.owner) (eqb id.region whole.block.region) e).1
named_region id (ViewOf view) e = eqb-true id.region view.block.region (and_parts (eqb id.owner view.block.owner) (eqb id.region view.block.region) e).1
named_region id Gone e = cc

-- what a name says of a thing
pub named_then : (id : Id) (t u : Allocation) → named id t ≡ Some u → (is_named id t ≡ true) × (t ≡ u)
named_then id t u e = by (is_named id t) refl e
  where
    by : (b : Bool) → is_named id t ≡ b → (if b then Some t else None) ≡ Some u → (is_named id t ≡ true) × (t ≡ u)
    by true f g = (f, let h : t ≡ u = cc in h)
    by false f g = cc

-- the thing of a name stands there, and has the name
pub live_then : (things : Things) (id : Id) (t : Allocation) → live things id ≡ Some t → (things id.maker id.serial ≡ Some t) × (is_named id t ≡ true)
live_then things id t e = by (things id.maker id.serial) e
  where
    by : (o : Option Allocation) → option_and_then (named id) o ≡ Some t → (o ≡ Some t) × (is_named id t ≡ true)
    by None f = cc
    by (Some u) f = let n = named_then id u t f in (ap Some n.1, subst (λ (x : Allocation). is_named id x ≡ true) n.1 n.0)

-- the name of a grid has owner and region of its block
pub grid_name : (id : Id) (t : Allocation) (l : Layout) → is_named id t ≡ true → layout_of t ≡ Some l → (id.owner ≡ l.block.owner) × (id.region ≡ l.block.region)
grid_name id (Object region fields) l e f = cc
grid_name id (Block whole elements) l e f =
    let same : whole ≡ l = cc in
    let x = and_parts (eqb id.owner whole.block.owner) (eqb id.region whole.block.region) e in
    (eqb-true id.owner whole.block.owner x.0 ∙ ap (λ (y : Layout). y.block.owner) same, eqb-true id.region whole.block.region x.1 ∙ ap (λ (y : Layout). y.block.region) same)
grid_name id (ViewOf view) l e f =
    let same : view ≡ l = cc in
    let x = and_parts (eqb id.owner view.block.owner) (eqb id.region view.block.region) e in
    (eqb-true id.owner view.block.owner x.0 ∙ ap (λ (y : Layout). y.block.owner) same, eqb-true id.region view.block.region x.1 ∙ ap (λ (y : Layout). y.block.region) same)
grid_name id Gone l e f = cc

pub layout_then : (things : Things) (id : Id) (l : Layout) → layout_in things id ≡ Some l → (id.owner ≡ l.block.owner) × (id.region ≡ l.block.region)
layout_then things id l e = by (live things id) refl e
  where
    by : (o : Option Allocation) → live things id ≡ o → option_and_then layout_of o ≡ Some l → (id.owner ≡ l.block.owner) × (id.region ≡ l.block.region)
    by None f g = cc
    by (Some t) f g = grid_name id t l (live_then things id t f).1 g
