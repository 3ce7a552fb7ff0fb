-- Adding an object, grid or view to the lists has the effect on the maps that `with_thing` states.
use Rattle.std.proofs.Common.{◌≡◌, ⊎_elim, ℕ, ◌+◌, ◌<◌, IsSome, eqb, Bool, true, if◌then◌else◌, List, [], ◌∷◌, ◌++◌, map, length, replicate, set, OnOk, OnErr, Result, Ok, Err, Option, Some, None, refl, sym, ap, subst, ◌∙◌, zero, suc, arith}
use Rattle.std.specs.List.{slice_get}
use Rattle.std.specs.Option.{option_map, option_and_then, option_map_or, is_some}
use Rattle.std.proofs.lemmas.Option.{slice_get-get_or}
use Rattle.ti_base.specs.Cells.{same_id}
use Rattle.std.proofs.lemmas.Bool.{cases_eq, eq-eqb, ne_eqb, false_from_ne_true}
use Rattle.std.proofs.lemmas.List.{map-append, length-map, length-replicate}
use Rattle.ti_base.specs.declared.value.Id.{Id}
use Rattle.ti_base.specs.declared.value.Value.{Value}
use Rattle.ti_grid.specs.declared.layout.Layout.{Layout}
use Rattle.ti_grid.specs.Views.{NumbersBelow}
use Rattle.ti_heap.specs.declared.allocation.Allocation.{Allocation}
use Rattle.ti_heap.specs.declared.allocation.Allocation.TheVariants.{Object, Block, ViewOf, Gone}
use Rattle.ti_heap.specs.Contents.{cell_at, GridMap, Contents, Made, with_thing, empty_contents}
use Rattle.ti_heap.specs.Things.{thing_at, is_named, named, live, values_of, layout_of, made_of, map_of, layout_in, share_of, made_in, contents, changed_at, IsBacked, HaveBlocks, HasBacking}
use Rattle.ti_heap.proofs.Lists.{get_changed, get_unchanged, length_changed, set_changed, set_same, get_last, get_front, no_more}
use Rattle.ti_heap.proofs.Names.{named_region, same_ids, id_self}
use Rattle.ti_heap.proofs.Changes.{Changed, same_contents, live_there, held_changed, grid_changed, still_backed, still_sound}

pushed : (h : List (List Allocation)) (p : ℕ) (things : List Allocation) (t : Allocation) → slice_get h p ≡ Some things
    → Changed (thing_at h) (thing_at (changed_at p (λ ts. ts ++ t ∷ []) h)) p (length things) t
pushed h p things t e = record {
  same = ap (option_and_then (λ (ts : List Allocation). slice_get ts (length things))) (get_changed p (λ ts. ts ++ t ∷ []) h things e) ∙ get_last things t;
  other = λ a b apart. ⊎_elim
      (λ x. subst (λ (n : ℕ). thing_at (changed_at p (λ ts. ts ++ t ∷ []) h) n b ≡ thing_at h n b) (sym x)
      (ap (option_and_then (λ (ts : List Allocation). slice_get ts b)) (get_changed p (λ ts. ts ++ t ∷ []) h things e)
      ∙ get_front things t b (λ y. apart x y) ∙ sym (ap (option_and_then (λ (ts : List Allocation). slice_get ts b)) e)))
      (λ x. ap (option_and_then (λ (ts : List Allocation). slice_get ts b)) (get_unchanged p a (λ ts. ts ++ t ∷ []) h x))
      (cases_eq a p);
}

-- a thing that has a name is made as the map says
made_is : (id : Id) (t : Allocation) → is_named id t ≡ true → made_of t ≡ record { region = id.region; cost = 1 + length (values_of t) }
made_is id (Object region fields) e = ap (λ (r : ℕ). let m : Made = record { region = r; cost = 1 + length fields } in m) (sym (named_region id (Object region fields) e))
made_is id (Block whole elements) e = ap (λ (r : ℕ). let m : Made = record { region = r; cost = 1 + length elements } in m) (sym (named_region id (Block whole elements) e))
made_is id (ViewOf view) e = ap (λ (r : ℕ). let m : Made = record { region = r; cost = 1 } in m) (sym (named_region id (ViewOf view) e))
made_is id Gone e = cc

module _ (h : List (List Allocation)) (id : Id) (things : List Allocation) (t : Allocation) (share : slice_get h id.maker ≡ Some things) (next : id.serial ≡ length things) (name : is_named id t ≡ true) where
  change : Changed (thing_at h) (thing_at (changed_at id.maker (λ ts. ts ++ t ∷ []) h)) id.maker id.serial t
  change = subst (λ (n : ℕ). Changed (thing_at h) (thing_at (changed_at id.maker (λ ts. ts ++ t ∷ []) h)) id.maker n t) (sym next) (pushed h id.maker things t share)

  -- nothing has stood there
  none : thing_at h id.maker id.serial ≡ None
  none = ap (option_and_then (λ (ts : List Allocation). slice_get ts id.serial)) share ∙ ap (slice_get things) next ∙ no_more things

  alone : (other : Id) → other.maker ≡ id.maker → other.serial ≡ id.serial → (other ≡ id → ⊥) → live (thing_at h) other ≡ None
  alone other m s apart = ap (option_and_then (named other)) ((λ k. thing_at h (m k) (s k)) ∙ none)

  made : (p : ℕ) → made_in (changed_at id.maker (λ ts. ts ++ t ∷ []) h) p
      ≡ (if eqb p id.maker then made_in h p ++ record { region = id.region; cost = 1 + length (values_of t) } ∷ [] else made_in h p)
  made p = ⊎_elim
      (λ e. subst (λ (n : ℕ). made_in (changed_at id.maker (λ ts. ts ++ t ∷ []) h) n
      ≡ (if eqb n id.maker then made_in h n ++ record { region = id.region; cost = 1 + length (values_of t) } ∷ [] else made_in h n)) (sym e)
      (ap (λ (o : Option (List Allocation)). map made_of (option_map_or (λ ts. ts) o [])) (get_changed id.maker (λ ts. ts ++ t ∷ []) h things share)
      ∙ map-append made_of things (t ∷ [])
      ∙ (λ i. map made_of things ++ made_is id t name i ∷ [])
      ∙ sym (ap (λ (o : Option (List Allocation)). map made_of (option_map_or (λ ts. ts) o []) ++ record { region = id.region; cost = 1 + length (values_of t) } ∷ []) share)
      ∙ sym (ap (λ (b : Bool). if b then made_in h id.maker ++ record { region = id.region; cost = 1 + length (values_of t) } ∷ [] else made_in h id.maker) (eq-eqb id.maker id.maker refl))))
      (λ e. ap (λ (o : Option (List Allocation)). map made_of (option_map_or (λ ts. ts) o [])) (get_unchanged id.maker p (λ ts. ts ++ t ∷ []) h e)
      ∙ sym (ap (λ (b : Bool). if b then made_in h p ++ record { region = id.region; cost = 1 + length (values_of t) } ∷ [] else made_in h p) (ne_eqb p id.maker e)))
      (cases_eq p id.maker)

  pub push_contents : contents (changed_at id.maker (λ ts. ts ++ t ∷ []) h) ≡ with_thing id (values_of t) (option_map map_of (layout_of t)) (contents h)
  push_contents =
      let after = thing_at (changed_at id.maker (λ ts. ts ++ t ∷ []) h) in
      same_contents (contents (changed_at id.maker (λ ts. ts ++ t ∷ []) h)) (with_thing id (values_of t) (option_map map_of (layout_of t)) (contents h))
      (length_changed id.maker (λ ts. ts ++ t ∷ []) h)
      (held_changed (thing_at h) after id t change name alone) (grid_changed (thing_at h) after id t change name alone) made

  pub push_sound : HaveBlocks (thing_at h) → HasBacking (thing_at h) id t → HaveBlocks (thing_at (changed_at id.maker (λ ts. ts ++ t ∷ []) h))
  push_sound sound backing =
      let after = thing_at (changed_at id.maker (λ ts. ts ++ t ∷ []) h) in
      let kept = still_backed (thing_at h) after id t change name alone
      (λ whole elements e. let f : None ≡ Some (Block whole elements) = sym (ap (option_and_then (named id)) none) ∙ e in cc) in
      still_sound (thing_at h) after id t change name alone sound kept (fresh t refl backing kept)
    where
      fresh : (u : Allocation) → t ≡ u → HasBacking (thing_at h) id u → ((l : Layout) → IsBacked (thing_at h) l → IsBacked (thing_at (changed_at id.maker (λ ts. ts ++ t ∷ []) h)) l)
          → (l : Layout) → layout_of t ≡ Some l → IsBacked (thing_at (changed_at id.maker (λ ts. ts ++ t ∷ []) h)) l
      fresh (Object region fields) s b kept l e = let f : None ≡ Some l = sym (ap layout_of s) ∙ e in cc
      fresh (Block whole elements) s b kept l e =
          let f : Some whole ≡ Some l = sym (ap layout_of s) ∙ e in
          let same : whole ≡ l = cc in
          record {
            whole = whole;
            elements = elements;
            there = subst (λ (x : Id). live (thing_at (changed_at id.maker (λ ts. ts ++ t ∷ []) h)) x ≡ Some (Block whole elements)) (sym b.0 ∙ ap (λ (x : Layout). x.block) same)
                (live_there (thing_at h) (thing_at (changed_at id.maker (λ ts. ts ++ t ∷ []) h)) id t change name alone ∙ ap Some s);
            below = subst (NumbersBelow (length elements)) same b.1;
          }
      fresh (ViewOf view) s b kept l e =
          let f : Some view ≡ Some l = sym (ap layout_of s) ∙ e in
          let same : view ≡ l = cc in
          kept l (subst (IsBacked (thing_at h)) same b)
      fresh Gone s b kept l e = let f : None ≡ Some l = sym (ap layout_of s) ∙ e in cc

-- ---- where memory may be wanting

module _ {E : Type 0} (r : Result (Unit {0}) E) (h : List (List Allocation)) (id : Id) (things new : List Allocation) (t : Allocation) (share : slice_get h id.maker ≡ Some things)
    (next : id.serial ≡ length things) (name : is_named id t ≡ true) (ok : OnOk r (new ≡ things ++ t ∷ [])) (err : OnErr r (new ≡ things)) where
  pub pushed_sound : HaveBlocks (thing_at h) → HasBacking (thing_at h) id t → HaveBlocks (thing_at (set h id.maker new))
  pushed_sound sound backing = by r ok err
    where
      by : (q : Result (Unit {0}) E) → OnOk q (new ≡ things ++ t ∷ []) → OnErr q (new ≡ things) → HaveBlocks (thing_at (set h id.maker new))
      by (Ok u) a b =
          subst (λ (x : List (List Allocation)). HaveBlocks (thing_at x)) (sym (ap (λ (ts : List Allocation). set h id.maker ts) a ∙ set_changed h id.maker (λ ts. ts ++ t ∷ []) things share))
          (push_sound h id things t share next name sound backing)
      by (Err u) a b = subst (λ (x : List (List Allocation)). HaveBlocks (thing_at x)) (sym (ap (λ (ts : List Allocation). set h id.maker ts) b ∙ set_same h id.maker things share)) sound

  pub pushed_contents : OnOk r (contents (set h id.maker new) ≡ with_thing id (values_of t) (option_map map_of (layout_of t)) (contents h))
  pushed_contents = by r ok
    where
      by : (q : Result (Unit {0}) E) → OnOk q (new ≡ things ++ t ∷ []) → OnOk q (contents (set h id.maker new) ≡ with_thing id (values_of t) (option_map map_of (layout_of t)) (contents h))
      by (Ok u) a =
          ap contents (ap (λ (ts : List Allocation). set h id.maker ts) a ∙ set_changed h id.maker (λ ts. ts ++ t ∷ []) things share) ∙ push_contents h id things t share next name
      by (Err u) a = tt

-- ---- a new heap

no_things : (n m s : ℕ) → thing_at (replicate n []) m s ≡ None
no_things n m s = by n m
  where
    by : (n m : ℕ) → option_and_then (λ (ts : List Allocation). slice_get ts s) (slice_get (replicate n []) m) ≡ None
    by zero m = refl
    by (suc n) zero = refl
    by (suc n) (suc m) = by n m

no_share : (n p : ℕ) → share_of (replicate n []) p ≡ []
no_share zero p = refl
no_share (suc n) zero = refl
no_share (suc n) (suc p) = no_share n p

pub new_sound : (n : ℕ) → HaveBlocks (thing_at (replicate n []))
new_sound n m s t l at e = let f : None ≡ Some t = sym (no_things n m s) ∙ at in cc

pub new_contents : (n : ℕ) → contents (replicate n []) ≡ empty_contents n
new_contents n =
    same_contents (contents (replicate n [])) (empty_contents n) (let empty : List Allocation = [] in length-replicate n empty)
    (λ c. ap (λ (o : Option Allocation). option_and_then (λ (u : Allocation). slice_get (values_of u) c.number) (option_and_then (named c.thing) o)) (no_things n c.thing.maker c.thing.serial))
    (λ id. ap (λ (o : Option Allocation). option_map map_of (option_and_then layout_of (option_and_then (named id) o))) (no_things n id.maker id.serial))
    (λ p. ap (map made_of) (no_share n p))

-- ---- what a maker's equation says of names

module _ (after before : Contents) (id : Id) (values : List Value) (grid : Option GridMap) (is : after ≡ with_thing id values grid before) where
  pub grid_there : after.grid id ≡ grid
  grid_there = ap (λ (s : Contents). s.grid id) is ∙ ap (λ (b : Bool). if b then grid else before.grid id) (id_self id)

  pub grid_kept : (other : Id) → (other ≡ id → ⊥) → after.grid other ≡ before.grid other
  grid_kept other apart =
      ap (λ (s : Contents). s.grid other) is ∙ ap (λ (b : Bool). if b then grid else before.grid other) (false_from_ne_true (same_id other id) (λ t. apart (same_ids other id t)))

  pub value_there : (n : ℕ) → n < length values → IsSome (after.held (cell_at id n))
  value_there n h = by values h (ap (λ (s : Contents). s.held (cell_at id n)) is ∙ ap (λ (b : Bool). if b then slice_get values n else before.held (cell_at id n)) (id_self id))
    where
      by : (vs : List Value) → n < length vs → after.held (cell_at id n) ≡ slice_get vs n → IsSome (after.held (cell_at id n))
      by [] l e = absurd (omega arith)
      by (v ∷ vs) l e = ap is_some (e ∙ slice_get-get_or (v ∷ vs) n v l)

-- no grid has the name of the next thing
pub not_next : (h : List (List Allocation)) (id grid : Id) (l : Layout) → id.serial ≡ length (made_in h id.maker) → layout_in (thing_at h) grid ≡ Some l → grid ≡ id → ⊥
not_next h id grid l next there same =
    let none : thing_at h id.maker id.serial ≡ None = ap (thing_at h id.maker) (next ∙ length-map (share_of h id.maker) made_of) ∙ by (slice_get h id.maker) in
    let gone : layout_in (thing_at h) id ≡ None = ap (λ (o : Option Allocation). option_and_then layout_of (option_and_then (named id) o)) none in
    let f : None ≡ Some l = sym gone ∙ ap (layout_in (thing_at h)) (sym same) ∙ there in
    cc
  where
    by : (o : Option (List Allocation)) → option_and_then (λ (ts : List Allocation). slice_get ts (length (option_map_or (λ (us : List Allocation). us) o []))) o ≡ None
    by None = refl
    by (Some ts) = no_more ts
