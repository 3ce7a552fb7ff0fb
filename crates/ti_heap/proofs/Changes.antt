-- The contents of heaps that differ in one object, grid or view.
use Rattle.std.proofs.Common.{◌≡◌, ⊎_elim, ℕ, Bool, true, false, if◌then◌else◌, List, length, Option, Some, None, refl, sym, ap, subst, ◌∙◌}
use Rattle.std.specs.List.{slice_get}
use Rattle.std.specs.Option.{option_map, option_and_then}
use Rattle.std.proofs.lemmas.Bool.{cases_eq, false_from_ne_true, both_ways}
use Rattle.ti_base.specs.declared.value.Id.{Id}
use Rattle.ti_base.specs.declared.value.Value.{Value}
use Rattle.ti_base.specs.Cells.{same_id}
use Rattle.ti_grid.specs.declared.layout.Layout.{Layout}
use Rattle.ti_grid.specs.Views.{NumbersBelow}
use Rattle.ti_heap.specs.declared.allocation.Allocation.{Allocation}
use Rattle.ti_heap.specs.declared.allocation.Allocation.TheVariants.{Block}
use Rattle.ti_heap.specs.Contents.{CellIndex, GridMap, Contents}
use Rattle.ti_heap.specs.Things.{Things, is_named, named, live, values_of, layout_of, value_in_cell, grid_in, map_of, IsBacked, HaveBlocks}
use Rattle.ti_heap.proofs.Names.{same_ids, id_self, one_name}

-- the thing with this maker and serial is t, and the others are as before
pub record Changed (old new : Things) (maker serial : ℕ) (t : Allocation) : Type 0 where
  pub same : new maker serial ≡ Some t
  pub other : (a b : ℕ) → (a ≡ maker → b ≡ serial → ⊥) → new a b ≡ old a b

-- contents with the same maps are the same
pub same_contents : (a b : Contents) → a.procs ≡ b.procs → ((c : CellIndex) → a.held c ≡ b.held c) → ((id : Id) → a.grid id ≡ b.grid id) → ((p : ℕ) → a.made p ≡ b.made p) → a ≡ b
same_contents a b e f g h = λ i. record { procs = e i; held = λ c. f c i; grid = λ id. g id i; made = λ p. h p i }

pub through_if : {A B : Type 0} (f : A → B) (b : Bool) (x y : A) → f (if b then x else y) ≡ (if b then f x else f y)
through_if f true x y = refl
through_if f false x y = refl

module _ (old new : Things) (id : Id) (t : Allocation) (is : Changed old new id.maker id.serial t) (name : is_named id t ≡ true)
    (alone : (other : Id) → other.maker ≡ id.maker → other.serial ≡ id.serial → (other ≡ id → ⊥) → live old other ≡ None) where
  pub live_there : live new id ≡ Some t
  live_there = ap (option_and_then (named id)) is.same ∙ ap (λ (b : Bool). if b then Some t else None) name

  -- a name that isn't that of the thing
  live_beside : (other : Id) → (other ≡ id → ⊥) → live new other ≡ live old other
  live_beside other apart = ⊎_elim
      (λ m. ⊎_elim
      (λ s.
      let at : new other.maker other.serial ≡ Some t = (λ i. new (m i) (s i)) ∙ is.same in
      let unnamed : is_named other t ≡ false = false_from_ne_true (is_named other t) (λ n. apart (one_name other id t n name m s)) in
      ap (option_and_then (named other)) at ∙ ap (λ (b : Bool). if b then Some t else None) unnamed ∙ sym (alone other m s apart))
      (λ s. ap (option_and_then (named other)) (is.other other.maker other.serial (λ _ e. s e)))
      (cases_eq other.serial id.serial))
      (λ m. ap (option_and_then (named other)) (is.other other.maker other.serial (λ e _. m e)))
      (cases_eq other.maker id.maker)

  pub live_changed : (other : Id) → live new other ≡ (if same_id other id then Some t else live old other)
  live_changed other = by (same_id other id) refl
    where
      by : (b : Bool) → same_id other id ≡ b → live new other ≡ (if b then Some t else live old other)
      by true e = subst (λ (x : Id). live new x ≡ Some t) (sym (same_ids other id e)) (ap (option_and_then (named id)) is.same ∙ ap (λ (b : Bool). if b then Some t else None) name)
      by false e = live_beside other (λ f. both_ways (same_id other id) e (subst (λ (x : Id). same_id x id ≡ true) (sym f) (id_self id)))

  pub held_changed : (c : CellIndex) → value_in_cell new c ≡ (if same_id c.thing id then slice_get (values_of t) c.number else value_in_cell old c)
  held_changed c =
      let f : Option Allocation → Option Value = option_and_then (λ (u : Allocation). slice_get (values_of u) c.number) in
      ap f (live_changed c.thing) ∙ through_if f (same_id c.thing id) (Some t) (live old c.thing)

  pub grid_changed : (other : Id) → grid_in new other ≡ (if same_id other id then option_map map_of (layout_of t) else grid_in old other)
  grid_changed other =
      let f : Option Allocation → Option GridMap = λ (o : Option Allocation). option_map map_of (option_and_then layout_of o) in
      ap f (live_changed other) ∙ through_if f (same_id other id) (Some t) (live old other)

  -- a view that was backed still is, where the thing keeps its elements
  pub still_backed : ((whole : Layout) (elements : List Value) → live old id ≡ Some (Block whole elements)
      → (w : Layout) × (es : List Value) × (t ≡ Block w es) × (length es ≡ length elements)) → (l : Layout) → IsBacked old l → IsBacked new l
  still_backed keeps l b = by (same_id l.block id) refl
    where
      by : (v : Bool) → same_id l.block id ≡ v → IsBacked new l
      by true e =
          let same = same_ids l.block id e in
          let k = keeps b.whole b.elements (subst (λ (x : Id). live old x ≡ Some (Block b.whole b.elements)) same b.there) in
          record {
            whole = k.0;
            elements = k.1;
            there = live_changed l.block ∙ ap (λ (v : Bool). if v then Some t else live old l.block) e ∙ ap Some k.2;
            below = subst (λ (n : ℕ). NumbersBelow n l) (sym k.3) b.below;
          }
      by false e = record {
        whole = b.whole;
        elements = b.elements;
        there = live_changed l.block ∙ ap (λ (v : Bool). if v then Some t else live old l.block) e ∙ b.there;
        below = b.below;
      }

  pub still_sound : HaveBlocks old → ((l : Layout) → IsBacked old l → IsBacked new l) → ((l : Layout) → layout_of t ≡ Some l → IsBacked new l) → HaveBlocks new
  still_sound sound kept fresh m s u l at e = ⊎_elim
      (λ a. ⊎_elim
      (λ b.
      let there : new m s ≡ Some t = (λ i. new (a i) (b i)) ∙ is.same in
      let same : Some u ≡ Some t = sym at ∙ there in
      let one : u ≡ t = cc in
      fresh l (ap layout_of (sym one) ∙ e))
      (λ b. kept l (sound m s u l (sym (is.other m s (λ _ f. b f)) ∙ at) e))
      (cases_eq s id.serial))
      (λ a. kept l (sound m s u l (sym (is.other m s (λ f _. a f)) ∙ at) e))
      (cases_eq m id.maker)
