use Rattle.std.proofs.Common.{◌≡◌, true, sym, subst, ◌∙◌, arith}
use Rattle.ti_region.specs.Counting.{IsMadeRegion, region_at}
use Rattle.ti_heap.specs.Things.{all_values_in, contents}
use Rattle.ti_heap.proofs.Lemmas.{cells_listed}
use Rattle.ti_store.specs.Mirrors.Refs.{after_clearing}
use Rattle.ti_store.proofs.Counts.{made_on}
use Rattle.ti_store.proofs.Forgetting.{can_forget, forgot, size_forgot, unused_still}
use Rattle.ti_store.proofs.run_state.RunState.drop_region.Goals as goal

pub forget-requires : goal.forget-requires
forget-requires c =
    let l = c.args.self.now in
    can_forget (contents l.heap) l.regions c.args.region (all_values_in c.args.region l.heap) c.requires.refs (cells_listed l.heap c.args.region)

pub delete-requires-clause-made : goal.delete-requires-clause-made
delete-requires-clause-made c =
    let l = c.args.self.now in
    let values = all_values_in c.args.region l.heap in
    subst (λ rs. IsMadeRegion rs c.args.region) (sym c.forget.ensures) (made_on l.regions (after_clearing c.args.region values l.regions) c.args.region
    (omega (arith, size_forgot c.args.region values l.regions)) c.requires.made)

pub delete-requires-clause-live : goal.delete-requires-clause-live
delete-requires-clause-live c =
    let l = c.args.self.now in
    let values = all_values_in c.args.region l.heap in
    let can = can_forget (contents l.heap) l.regions c.args.region values c.requires.refs (cells_listed l.heap c.args.region) in
    subst (λ rs. (region_at rs c.args.region).is_live ≡ true) (sym c.forget.ensures) ((forgot c.args.region c.args.region values l.regions can c.requires.made).live ∙ c.requires.live)

pub delete-requires-clause-unused : goal.delete-requires-clause-unused
delete-requires-clause-unused c =
    let l = c.args.self.now in
    let values = all_values_in c.args.region l.heap in
    let can = can_forget (contents l.heap) l.regions c.args.region values c.requires.refs (cells_listed l.heap c.args.region) in
    subst (λ rs. (region_at rs c.args.region).count ≡ 0) (sym c.forget.ensures) (unused_still c.args.region values l.regions can c.requires.made c.requires.unused)
