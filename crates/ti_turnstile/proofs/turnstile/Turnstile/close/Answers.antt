use Rattle.std.proofs.Common.{◌∷◌, [], ◌++◌, ap, sym, subst, ◌∙◌, false, append_assoc}
use mathlib.Core.Option.{some, some-injective}
use Rattle.ti_turnstile.specs.Mirrors.Views.{log_in_box, view}
use Rattle.ti_turnstile.specs.Turnstiles.{identity_of, pass_view_of, AreLegal, OneHasSeen}
use Rattle.ti_turnstile.proofs.Closing.{of_last, closing, closed}
use Rattle.ti_turnstile.proofs.turnstile.Turnstile.close.Goals as goal

pub loop-pass-init : goal.loop-pass-init
loop-pass-init g c =
    let last = c.in-Some.last in
    let of = of_last (identity_of c.args.self) _ c.pop.new.self.items last c.in-Some.ensures.items c.requires.turnstile in
    (of.0, of.1, (last ∷ [], c.in-Some.ensures.items, (λ i. (last.is_pass.0 i, last.is_pass.1 i))))

pub join_pass-seat-requires-clause-table : goal.join_pass-seat-requires-clause-table
join_pass-seat-requires-clause-table g c =
    let inv = c.loop-pass.invariant in
    ((of_last (identity_of c.args.self) _ c.pop-in-loop-pass.new.self.items c.in-Some-pop.pass c.in-Some-pop.ensures.items inv.1).0, inv.0)

pub loop-pass-preserved : goal.loop-pass-preserved
loop-pass-preserved g c =
    let pass = c.in-Some-pop.pass in
    let old = c.pop-in-loop-pass.new.self.items in
    let inv = c.loop-pass.invariant in
    let done = inv.2.0 in (
      c.join_pass-seat.ensures.table,
      (of_last (identity_of c.args.self) _ old pass c.in-Some-pop.ensures.items inv.1).1,
      (
        pass ∷ done,
        inv.2.1 ∙ ap (λ l. l ++ done) c.in-Some-pop.ensures.items ∙ append_assoc old (pass ∷ []) done,
        c.join_pass-seat.ensures.both ∙ ap (λ m. (view false (pass_view_of pass ∷ m.0.passes), [])) inv.2.2,
      ),
    )

pub unreachable-requires-in-None : goal.unreachable-requires-in-None
unreachable-requires-in-None g c =
    let inv = c.loop-pass.invariant in
    let left = c.loop-pass.passes in
    let t = closing (log_in_box g.V.Kept.log) c.args.self.table.shared.key c.loop-pass.seat.id c.loop-pass.seat.me c.args.passes.items left.items inv.2.0
    _ _ inv.2.1 (sym left.ok.0 ∙ c.in_default-pop.ensures.cases.0) inv.2.2 c.requires.all c.close_with-closed.ensures.values.2 in
    let same = some-injective _ _ (sym t.1 ∙ c.take-value.ensures.value) in
    cc (same, c.in-None.is)

pub returns-clause-legal : goal.returns-clause-legal
returns-clause-legal g c =
    let inv = c.loop-pass.invariant in
    let left = c.loop-pass.passes in
    let t = closing (log_in_box g.V.Kept.log) c.args.self.table.shared.key c.loop-pass.seat.id c.loop-pass.seat.me c.args.passes.items left.items inv.2.0
    _ _ inv.2.1 (sym left.ok.0 ∙ c.in_default-pop.ensures.cases.0) inv.2.2 c.requires.all c.close_with-closed.ensures.values.2 in
    subst (λ x. AreLegal (g.V.Kept.log x) c.args.passes.items) (sym c.into_inner.ensures)
    (closed (log_in_box g.V.Kept.log) c.args.self.table.shared.key c.args.passes.items _ c.in-Some-value.value t (c.take-value.ensures.value ∙ ap some c.in-Some-value.is)).0

pub returns-clause-whole : goal.returns-clause-whole
returns-clause-whole g c =
    let inv = c.loop-pass.invariant in
    let left = c.loop-pass.passes in
    let t = closing (log_in_box g.V.Kept.log) c.args.self.table.shared.key c.loop-pass.seat.id c.loop-pass.seat.me c.args.passes.items left.items inv.2.0
    _ _ inv.2.1 (sym left.ok.0 ∙ c.in_default-pop.ensures.cases.0) inv.2.2 c.requires.all c.close_with-closed.ensures.values.2 in
    subst (λ x. OneHasSeen (g.V.Kept.log x) c.args.passes.items) (sym c.into_inner.ensures)
    (closed (log_in_box g.V.Kept.log) c.args.self.table.shared.key c.args.passes.items _ c.in-Some-value.value t (c.take-value.ensures.value ∙ ap some c.in-Some-value.is)).1

pub returns-clause-all : goal.returns-clause-all
returns-clause-all g c =
    let inv = c.loop-pass.invariant in
    let left = c.loop-pass.passes in
    let t = closing (log_in_box g.V.Kept.log) c.args.self.table.shared.key c.loop-pass.seat.id c.loop-pass.seat.me c.args.passes.items left.items inv.2.0
    _ _ inv.2.1 (sym left.ok.0 ∙ c.in_default-pop.ensures.cases.0) inv.2.2 c.requires.all c.close_with-closed.ensures.values.2 in
    (closed (log_in_box g.V.Kept.log) c.args.self.table.shared.key c.args.passes.items _ c.in-Some-value.value t (c.take-value.ensures.value ∙ ap some c.in-Some-value.is)).2

pub returns-clause-distinct : goal.returns-clause-distinct
returns-clause-distinct g c =
    let inv = c.loop-pass.invariant in
    let left = c.loop-pass.passes in
    let t = closing (log_in_box g.V.Kept.log) c.args.self.table.shared.key c.loop-pass.seat.id c.loop-pass.seat.me c.args.passes.items left.items inv.2.0
    _ _ inv.2.1 (sym left.ok.0 ∙ c.in_default-pop.ensures.cases.0) inv.2.2 c.requires.all c.close_with-closed.ensures.values.2 in
    (closed (log_in_box g.V.Kept.log) c.args.self.table.shared.key c.args.passes.items _ c.in-Some-value.value t (c.take-value.ensures.value ∙ ap some c.in-Some-value.is)).3
