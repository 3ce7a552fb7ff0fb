-- Writing a cell in the lists has the effect on the maps that `with_cell_value` states.
use Rattle.std.proofs.Common.{◌≡◌, ⊎_elim, ℕ, ◌+◌, eqb, IsSome, Bool, true, false, ◌&&◌, if◌then◌else◌, List, [], ◌∷◌, map, length, set, Option, Some, None, refl, sym, ap, subst, ◌∙◌, zero, suc, length-set}
use Rattle.std.specs.List.{slice_get}
use Rattle.std.specs.Option.{option_map, option_and_then, option_map_or}
use Rattle.std.proofs.lemmas.Bool.{cases_eq, eq-eqb, ne_eqb, false_from_ne_true}
use Rattle.ti_base.specs.declared.value.Id.{Id}
use Rattle.ti_base.specs.declared.value.Value.{Value}
use Rattle.ti_base.specs.Cells.{same_id}
use Rattle.ti_grid.specs.declared.layout.Layout.{Layout}
use Rattle.ti_heap.specs.declared.allocation.Allocation.{Allocation}
use Rattle.ti_heap.specs.declared.allocation.Allocation.TheVariants.{Object, Block, ViewOf, Gone}
use Rattle.ti_heap.specs.Contents.{CellIndex, cell_at, same_cell, Made, with_cell_value}
use Rattle.ti_heap.specs.Things.{Things, thing_at, is_named, named, live, values_of, layout_of, made_of, put_in, value_in_cell, grid_in, map_of, made_in, contents, changed_at, HaveBlocks}
use Rattle.ti_heap.proofs.Lists.{get_changed, get_unchanged, length_changed, map_changed, set_changed}
use Rattle.ti_heap.proofs.Costs.{has_some}
use Rattle.ti_heap.proofs.Names.{same_ids, one_name, live_then}
use Rattle.ti_heap.proofs.Changes.{Changed, same_contents, held_changed, grid_changed, still_backed, still_sound}

-- ---- a thing with another value

pub put_named : (id : Id) (i : ℕ) (v : Value) (t : Allocation) → is_named id (put_in i v t) ≡ is_named id t
put_named id i v (Object region fields) = refl
put_named id i v (Block whole elements) = refl
put_named id i v (ViewOf view) = refl
put_named id i v Gone = refl

put_values : (i : ℕ) (v : Value) (t : Allocation) → values_of (put_in i v t) ≡ set (values_of t) i v
put_values i v (Object region fields) = refl
put_values i v (Block whole elements) = refl
put_values i v (ViewOf view) = refl
put_values i v Gone = refl

put_layout : (i : ℕ) (v : Value) (t : Allocation) → layout_of (put_in i v t) ≡ layout_of t
put_layout i v (Object region fields) = refl
put_layout i v (Block whole elements) = refl
put_layout i v (ViewOf view) = refl
put_layout i v Gone = refl

pub put_made : (i : ℕ) (v : Value) (t : Allocation) → made_of (put_in i v t) ≡ made_of t
put_made i v (Object region fields) = ap (λ (n : ℕ). let m : Made = record { region = region; cost = 1 + n } in m) (length-set fields i v)
put_made i v (Block whole elements) = ap (λ (n : ℕ). let m : Made = record { region = whole.block.region; cost = 1 + n } in m) (length-set elements i v)
put_made i v (ViewOf view) = refl
put_made i v Gone = refl

get_set_same : (xs : List Value) (i : ℕ) (v x : Value) → slice_get xs i ≡ Some x → slice_get (set xs i v) i ≡ Some v
get_set_same [] i v x e = cc
get_set_same (y ∷ ys) zero v x e = refl
get_set_same (y ∷ ys) (suc i) v x e = get_set_same ys i v x e

get_set_other : (xs : List Value) (i j : ℕ) (v : Value) → (j ≡ i → ⊥) → slice_get (set xs i v) j ≡ slice_get xs j
get_set_other [] i j v h = refl
get_set_other (y ∷ ys) zero zero v h = absurd (h refl)
get_set_other (y ∷ ys) zero (suc j) v h = refl
get_set_other (y ∷ ys) (suc i) zero v h = refl
get_set_other (y ∷ ys) (suc i) (suc j) v h = get_set_other ys i j v (λ e. h (ap suc e))

get_set : (xs : List Value) (i j : ℕ) (v x : Value) → slice_get xs i ≡ Some x → slice_get (set xs i v) j ≡ (if eqb j i then Some v else slice_get xs j)
get_set xs i j v x e = ⊎_elim
    (λ same. subst (λ (k : ℕ). slice_get (set xs i v) k ≡ (if eqb k i then Some v else slice_get xs k)) (sym same)
    (get_set_same xs i v x e ∙ sym (ap (λ (b : Bool). if b then Some v else slice_get xs i) (eq-eqb i i refl))))
    (λ other. get_set_other xs i j v other ∙ sym (ap (λ (b : Bool). if b then Some v else slice_get xs j) (ne_eqb j i other)))
    (cases_eq j i)

-- ---- in the heap

-- the share of a thing that is there
pub share_then : (h : List (List Allocation)) (m s : ℕ) (t : Allocation) → thing_at h m s ≡ Some t → (things : List Allocation) × (slice_get h m ≡ Some things) × (slice_get things s ≡ Some t)
share_then h m s t e = by (slice_get h m) refl e
  where
    by : (o : Option (List Allocation)) → slice_get h m ≡ o → option_and_then (λ (things : List Allocation). slice_get things s) o ≡ Some t
        → (things : List Allocation) × (slice_get h m ≡ Some things) × (slice_get things s ≡ Some t)
    by None f g = cc
    by (Some things) f g = (things, f, g)

pub changed_within : (h : List (List Allocation)) (m s : ℕ) (f : Allocation → Allocation) (t : Allocation) → thing_at h m s ≡ Some t
    → Changed (thing_at h) (thing_at (changed_at m (changed_at s f) h)) m s (f t)
changed_within h m s f t e =
    let k = share_then h m s t e in
    record {
      same = ap (option_and_then (λ (ts : List Allocation). slice_get ts s)) (get_changed m (changed_at s f) h k.0 k.1) ∙ get_changed s f k.0 t k.2;
      other = λ a b apart. ⊎_elim
          (λ x. subst (λ (n : ℕ). thing_at (changed_at m (changed_at s f) h) n b ≡ thing_at h n b) (sym x)
          (ap (option_and_then (λ (ts : List Allocation). slice_get ts b)) (get_changed m (changed_at s f) h k.0 k.1)
          ∙ get_unchanged s b f k.0 (λ y. apart x y) ∙ sym (ap (option_and_then (λ (ts : List Allocation). slice_get ts b)) k.1)))
          (λ x. ap (option_and_then (λ (ts : List Allocation). slice_get ts b)) (get_unchanged m a (changed_at s f) h x))
          (cases_eq a m);
    }

module _ (h : List (List Allocation)) (id : Id) (i : ℕ) (v x : Value) (t : Allocation) (there : live (thing_at h) id ≡ Some t) (some : slice_get (values_of t) i ≡ Some x) where
  stands : thing_at h id.maker id.serial ≡ Some t
  stands = (live_then (thing_at h) id t there).0

  change : Changed (thing_at h) (thing_at (changed_at id.maker (changed_at id.serial (put_in i v)) h)) id.maker id.serial (put_in i v t)
  change = changed_within h id.maker id.serial (put_in i v) t (live_then (thing_at h) id t there).0

  name : is_named id (put_in i v t) ≡ true
  name = put_named id i v t ∙ (live_then (thing_at h) id t there).1

  -- no other name is that of the thing
  alone : (other : Id) → other.maker ≡ id.maker → other.serial ≡ id.serial → (other ≡ id → ⊥) → live (thing_at h) other ≡ None
  alone other m s apart =
      let is = live_then (thing_at h) id t there in
      let at : thing_at h other.maker other.serial ≡ Some t = (λ k. thing_at h (m k) (s k)) ∙ is.0 in
      ap (option_and_then (named other)) at
      ∙ ap (λ (b : Bool). if b then Some t else None) (false_from_ne_true (is_named other t) (λ n. apart (one_name other id t n is.1 m s)))

  held : (c : CellIndex) → value_in_cell (thing_at (changed_at id.maker (changed_at id.serial (put_in i v)) h)) c
      ≡ (if same_cell c (cell_at id i) then Some v else value_in_cell (thing_at h) c)
  held c =
      held_changed (thing_at h) (thing_at (changed_at id.maker (changed_at id.serial (put_in i v)) h)) id (put_in i v t) change name alone c
      ∙ ap (λ (vs : List Value). if same_id c.thing id then slice_get vs c.number else value_in_cell (thing_at h) c) (put_values i v t)
      ∙ by (same_id c.thing id) refl
    where
      by : (b : Bool) → same_id c.thing id ≡ b
          → (if b then slice_get (set (values_of t) i v) c.number else value_in_cell (thing_at h) c) ≡ (if b && eqb c.number i then Some v else value_in_cell (thing_at h) c)
      by true e =
          let before : value_in_cell (thing_at h) c ≡ slice_get (values_of t) c.number =
          subst (λ (y : Id). value_in_cell (thing_at h) (record { thing = y; number = c.number }) ≡ slice_get (values_of t) c.number) (sym (same_ids c.thing id e))
          (ap (option_and_then (λ (u : Allocation). slice_get (values_of u) c.number)) there) in
          get_set (values_of t) i c.number v x some ∙ ap (λ (o : Option Value). if eqb c.number i then Some v else o) (sym before)
      by false e = refl

  grid : (other : Id) → grid_in (thing_at (changed_at id.maker (changed_at id.serial (put_in i v)) h)) other ≡ grid_in (thing_at h) other
  grid other =
      grid_changed (thing_at h) (thing_at (changed_at id.maker (changed_at id.serial (put_in i v)) h)) id (put_in i v t) change name alone other
      ∙ by (same_id other id) refl
    where
      by : (b : Bool) → same_id other id ≡ b → (if b then option_map map_of (layout_of (put_in i v t)) else grid_in (thing_at h) other) ≡ grid_in (thing_at h) other
      by true e =
          ap (option_map map_of) (put_layout i v t)
          ∙ sym (subst (λ (y : Id). grid_in (thing_at h) y ≡ option_map map_of (layout_of t)) (sym (same_ids other id e))
          (ap (λ (o : Option Allocation). option_map map_of (option_and_then layout_of o)) there))
      by false e = refl

  made : (p : ℕ) → made_in (changed_at id.maker (changed_at id.serial (put_in i v)) h) p ≡ made_in h p
  made p = ⊎_elim
      (λ e. subst (λ (n : ℕ). made_in (changed_at id.maker (changed_at id.serial (put_in i v)) h) n ≡ made_in h n) (sym e)
      (let k = share_then h id.maker id.serial t stands in
      ap (λ (o : Option (List Allocation)). map made_of (option_map_or (λ things. things) o [])) (get_changed id.maker (changed_at id.serial (put_in i v)) h k.0 k.1)
      ∙ map_changed made_of (put_in i v) id.serial k.0 (put_made i v)
      ∙ sym (ap (λ (o : Option (List Allocation)). map made_of (option_map_or (λ things. things) o [])) k.1)))
      (λ e. ap (λ (o : Option (List Allocation)). map made_of (option_map_or (λ things. things) o [])) (get_unchanged id.maker p (changed_at id.serial (put_in i v)) h e))
      (cases_eq p id.maker)

  pub put_contents : contents (changed_at id.maker (changed_at id.serial (put_in i v)) h) ≡ with_cell_value (cell_at id i) v (contents h)
  put_contents =
      same_contents (contents (changed_at id.maker (changed_at id.serial (put_in i v)) h)) (with_cell_value (cell_at id i) v (contents h))
      (length_changed id.maker (changed_at id.serial (put_in i v)) h) held grid made

  keeps : (whole : Layout) (elements : List Value) → live (thing_at h) id ≡ Some (Block whole elements)
      → (w : Layout) × (es : List Value) × (put_in i v t ≡ Block w es) × (length es ≡ length elements)
  keeps whole elements e =
      let same : Some t ≡ Some (Block whole elements) = sym there ∙ e in
      let one : t ≡ Block whole elements = cc in
      (whole, set elements i v, ap (put_in i v) one, length-set elements i v)

  pub put_sound : HaveBlocks (thing_at h) → HaveBlocks (thing_at (changed_at id.maker (changed_at id.serial (put_in i v)) h))
  put_sound sound =
      let after = thing_at (changed_at id.maker (changed_at id.serial (put_in i v)) h) in
      let kept = still_backed (thing_at h) after id (put_in i v t) change name alone keeps in
      still_sound (thing_at h) after id (put_in i v t) change name alone sound kept
      (λ l e. kept l (sound id.maker id.serial t l stands (sym (put_layout i v t) ∙ e)))

-- a cell that holds something is one of a thing that is there
pub held_then : (things : Things) (id : Id) (i : ℕ) → IsSome (value_in_cell things (cell_at id i)) → (t : Allocation) × (live things id ≡ Some t) × ((x : Value) × (slice_get (values_of t) i ≡ Some x))
held_then things id i h = by (live things id) refl h
  where
    by : (o : Option Allocation) → live things id ≡ o → IsSome (option_and_then (λ (t : Allocation). slice_get (values_of t) i) o)
        → (t : Allocation) × (live things id ≡ Some t) × ((x : Value) × (slice_get (values_of t) i ≡ Some x))
    by None e g = cc
    by (Some t) e g = (t, e, has_some (slice_get (values_of t) i) g)

module _ (h : List (List Allocation)) (id : Id) (i : ℕ) (v : Value) (things new : List Allocation) (share : slice_get h id.maker ≡ Some things)
    (is : new ≡ changed_at id.serial (put_in i v) things) (some : IsSome (value_in_cell (thing_at h) (cell_at id i))) where
  pub written_contents : contents (set h id.maker new) ≡ with_cell_value (cell_at id i) v (contents h)
  written_contents =
      let k = held_then (thing_at h) id i some in
      ap contents (ap (λ (ts : List Allocation). set h id.maker ts) is ∙ set_changed h id.maker (changed_at id.serial (put_in i v)) things share)
      ∙ put_contents h id i v k.2.0 k.0 k.1 k.2.1

  pub written_sound : HaveBlocks (thing_at h) → HaveBlocks (thing_at (set h id.maker new))
  written_sound sound =
      let k = held_then (thing_at h) id i some in
      subst (λ (x : List (List Allocation)). HaveBlocks (thing_at x))
      (sym (ap (λ (ts : List Allocation). set h id.maker ts) is ∙ set_changed h id.maker (changed_at id.serial (put_in i v)) things share))
      (put_sound h id i v k.2.0 k.0 k.1 k.2.1 sound)
