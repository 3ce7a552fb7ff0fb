use Rattle.std.proofs.Common.{◌≡◌, ℕ, ◌+◌, ◌-◌, ◌<◌, eqb, Bool, true, false, if◌then◌else◌, List, [], ◌++◌, map, length, take, drop, append-nil, sym, ap, subst, ⊎_elim, ◌∙◌, arith}
use Rattle.std.proofs.lemmas.Bool.{cases_eq, eq-eqb, ne_eqb}
use Rattle.std.proofs.lemmas.List.{drop_all, take_all, length-map}
use Rattle.ti_heap.specs.declared.allocation.Allocation.{Allocation}
use Rattle.ti_heap.specs.declared.region_index.RegionIndex.{RegionIndex}
use Rattle.ti_heap.specs.Places.{places_in_region, listed, IsIndex, IsShare}
use Rattle.ti_heap.specs.Things.{drop_if_in, total_cost}
use Rattle.ti_heap.proofs.Places.{no_place, none_inside, inside_kept}
use Rattle.ti_heap.proofs.proc_heap.ProcHeap.drop_region.Goals as goal

-- a list of which all is replaced
replaced : (xs ys : List Allocation) (n : ℕ) → length ys ≡ length xs → n ≡ length xs
    → take n (ys ++ drop (length ys) xs) ≡ ys
replaced xs ys n e f =
    ap (λ (zs : List Allocation). take n (ys ++ zs)) (drop_all (length ys) xs (omega arith))
    ∙ ap (take n) (append-nil ys) ∙ take_all n ys (omega arith)

-- the region r is taken out of the index, and what is in it is dropped
module _ (r : ℕ) (pos : 0 < r) (old new : RegionIndex) (xs : List Allocation)
    (rest : (q : ℕ) → listed new q ≡ (if eqb q r then [] else listed old q)) where
  listed_by : (q : ℕ) (b : Bool) → eqb q r ≡ b → listed new q ≡ (if b then [] else listed old q)
  listed_by q b is = rest q ∙ ap (λ (v : Bool). if v then [] else listed old q) is

  dropped_index : IsIndex old xs → IsIndex new (map (drop_if_in r) xs)
  dropped_index was q at = ⊎_elim
      (λ e. listed_by q true (eq-eqb q r e) ∙ sym (none_inside r pos 0 xs)
      ∙ ap (λ (k : ℕ). places_in_region k (map (drop_if_in r) xs)) (sym e))
      (λ e. listed_by q false (ne_eqb q r e) ∙ was q at ∙ sym (inside_kept r q e at xs))
      (cases_eq q r)

  dropped_share : (cost freed : ℕ) (ys : List Allocation) → IsShare cost old xs
      → ys ≡ map (drop_if_in r) xs → freed + total_cost ys ≡ total_cost xs
      → IsShare (cost - freed) new ys
  dropped_share cost freed ys was is paid = record {
    counted = record {
      same = omega (arith, was.counted.same, paid);
      most = omega (arith, was.counted.most);
    };
    indexed = subst (IsIndex new) (sym is) (dropped_index was.indexed);
  }

pub invariant_of-self : goal.invariant_of-self
invariant_of-self c =
    let f : Allocation → Allocation = drop_if_in c.args.region in
    let xs = c.self.inside.things.items in
    let ys = c.drop_all-freed.new.things in
    let freed = c.drop_all-freed.result in
    let is : ys ≡ map f xs = c.drop_all-freed.ensures.things ∙ ap (map f) c.deref_mut.ensures.value in
    let paid : freed + total_cost ys ≡ total_cost xs =
    c.drop_all-freed.ensures.freed ∙ ap total_cost c.deref_mut.ensures.value in
    let n : length ys ≡ length xs = ap (λ (zs : List Allocation). length zs) is ∙ length-map xs f in
    let len : c.self.inside.things.len ≡ length xs = omega (arith, c.self.inside.things.ok.0) in
    subst (IsShare (c.self.inside.cost - freed) c.take.new.self)
    (sym (replaced xs ys c.self.inside.things.len n len))
    (dropped_share c.args.region c.requires c.self.inside.index c.take.new.self xs c.take.ensures.rest
    c.self.inside.cost freed ys c.self.invariant is paid)

pub returns-in-None : goal.returns-in-None
returns-in-None c =
    let r = c.args.region in
    let xs = c.self.inside.things.items in
    let none : places_in_region r xs ≡ [] =
    sym (c.in-None.ensures.taken ∙ c.self.invariant.indexed r c.requires) in
    sym (no_place r 0 xs none) ∙ ap (map (drop_if_in r)) c.self.view_is
