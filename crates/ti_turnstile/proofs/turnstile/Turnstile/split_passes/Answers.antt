use Rattle.std.proofs.Common.{◌≡◌, ◌+◌, ◌-◌, ◌∷◌, [], ◌++◌, ap, sym, ◌∙◌, subst, false, arith, drop}
use Rattle.ti_turnstile.specs.PassViews.{first_number}
use Rattle.ti_turnstile.specs.Mirrors.Views.{view, new_passes, outside}
use Rattle.ti_turnstile.specs.declared.seat_view.SeatView.{SeatView}
use Rattle.ti_turnstile.specs.Turnstiles.{AreNew}
use Rattle.ti_turnstile.proofs.Closing.{one_more, cut_left, cut_number}
use Rattle.ti_turnstile.proofs.turnstile.Turnstile.split_passes.Goals as goal

pub split_pass-requires-clause-dealer : goal.split_pass-requires-clause-dealer
split_pass-requires-clause-dealer g c =
    let me = c.loop-i.invariant.1 in
    let i = c.loop-i._i in
    let left : c.args.count - i ≡ (c.args.count - (i + 1)) + 1 = let lt = c.loop-i-test.true in omega arith in
    (i, c.args.count - (i + 1), ap (λ m. m.0) me ∙ ap (λ k. view false (new_passes i k)) left, ap (λ m. m.1) me)

pub loop-i-preserved : goal.loop-i-preserved
loop-i-preserved g c =
    let inv = c.loop-i.invariant in
    let i = c.loop-i._i in
    let table = c.args.self.now.table.shared.table_id in
    let lt = c.loop-i-test.true in
    let left : c.args.count - i ≡ (c.args.count - (i + 1)) + 1 = omega arith in
    let was : c.loop-i.dealer.me.0 ≡ view false (new_passes i ((c.args.count - (i + 1)) + 1)) = ap (λ m. m.0) inv.1 ∙ ap (λ k. view false (new_passes i k)) left in
    let items : c.push.new.self.items ≡ c.loop-i.passes.items ++ c.split_pass.result ∷ [] = c.in_ok-push.ensures.items in (
      c.split_pass.ensures.table.0 ∙ inv.0,
      c.split_pass.ensures.left ∙ ap (λ (v : SeatView g.row.V-Item.Denot). (view false (drop 1 v.passes), [])) was ∙ ap (λ ps. (view false ps, [])) (cut_left g.row.V-Item.Denot i (c.args.count - (i + 1))),
      search (arith, items),
      subst (AreNew table) (sym items) (one_more table c.loop-i.passes.items c.split_pass.result i inv.2 (c.split_pass.ensures.table.1 ∙ inv.0)
          (c.split_pass.ensures.right ∙ ap (λ (v : SeatView g.row.V-Item.Denot). (outside (first_number v.passes) [], [])) was
          ∙ ap (λ k. (outside k [], [])) (cut_number g.row.V-Item.Denot i (c.args.count - (i + 1)))) inv.3),
    )
