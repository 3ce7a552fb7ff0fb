use Rattle.std.proofs.Common.{◌≡◌, ℕ, ◌+◌, ◌<◌, eqb, List, [], ◌∷◌, ◌++◌, length, sym, ap, subst, ⊎_elim, ◌∙◌, arith}
use Rattle.std.proofs.lemmas.Bool.{cases_eq, eq-eqb, ne_eqb}
use Rattle.ti_heap.specs.declared.allocation.Allocation.{Allocation}
use Rattle.ti_heap.specs.declared.region_index.RegionIndex.{RegionIndex}
use Rattle.ti_heap.specs.Places.{listed, IsIndex, IsShare}
use Rattle.ti_heap.specs.Things.{allocation_region, total_cost}
use Rattle.ti_heap.proofs.Costs.{total_more}
use Rattle.ti_heap.proofs.Places.{last_if, inside_more}
use Rattle.ti_heap.proofs.proc_heap.ProcHeap.push.Goals as goal

-- the region r of one more thing t has its place s in the index
module _ (old new : RegionIndex) (xs : List Allocation) (t : Allocation) (r s : ℕ)
    (here : r ≡ allocation_region t) (at : s ≡ length xs)
    (more : (q : ℕ) → 0 < q → listed new q ≡ last_if (eqb q r) s (listed old q)) where
  same_test : (q : ℕ) → eqb q r ≡ eqb (allocation_region t) q
  same_test q = ⊎_elim
      (λ e. eq-eqb q r e ∙ sym (eq-eqb (allocation_region t) q (sym here ∙ sym e)))
      (λ e. ne_eqb q r e ∙ sym (ne_eqb (allocation_region t) q (λ f. e (sym f ∙ sym here))))
      (cases_eq q r)

  pushed_index : IsIndex old xs → IsIndex new (xs ++ t ∷ [])
  pushed_index was q pos =
      more q pos ∙ (λ k. last_if (same_test q k) (at k) (was q pos k)) ∙ sym (inside_more q xs t)

pub invariant_of-self-2 : goal.invariant_of-self-2
invariant_of-self-2 c =
    let xs = c.self.inside.things.items in
    let at : c.len-serial.result ≡ length xs =
    omega (arith, c.len-serial.ensures, c.self.inside.things.ok.0) in
    let more = total_more xs c.args.thing in
    let counted = c.self.invariant.counted.same in
    let all : total_cost c.args.self.now ≡ total_cost xs = sym (ap total_cost c.self.view_is) in
    let index =
    pushed_index c.self.inside.index c.add.new.self xs c.args.thing c.region-region.result
    c.len-serial.result c.region-region.ensures at c.in_default.ensures.ok
    c.self.invariant.indexed in
    subst (IsShare (c.self.inside.cost + c.cost-cost.result) c.add.new.self)
    (sym c.in_ok-push.ensures.items) (record {
      counted = record {
        same = omega (arith, more, counted, c.cost-cost.ensures);
        most = omega (arith, all, c.requires.room, counted, c.cost-cost.ensures);
      };
      indexed = index;
    })
