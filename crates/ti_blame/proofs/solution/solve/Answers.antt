use Rattle.std.proofs.Common.{◌≡◌, List, [], ap, sym, subst}
use Rattle.std.specs.Map.{lookup}
use Rattle.std.specs.Option.{option_map_or}
use Rattle.std.specs.BTreeMap.{is_at}
use Rattle.std.specs.declared.vec.Vec.{Vec}
use Rattle.std.specs.declared.alloc.Global.{Global}
use Rattle.ti_blame.specs.declared.implication.Conclusion.{Conclusion}
use Rattle.ti_blame.specs.declared.mark.Mark.{Mark}
use Rattle.ti_blame.specs.declared.mark.MarkKey.{MarkKey}
use Rattle.ti_blame.specs.Keys.{key_cmp}
use Rattle.ti_blame.specs.Solutions.{IsSolution}
use Rattle.ti_blame.specs.Mirrors.Propagation.{conclusions}
use Rattle.ti_blame.proofs.Solving.{settled}
use Rattle.ti_blame.proofs.solution.solve.Goals as goal

pub returns : goal.returns
returns c =
    let none : (n : MarkKey) → conclusions c.new-waiting.result n ≡ [] =
    λ n. ap (λ (es : List (MarkKey × Vec Conclusion Global)). option_map_or (λ (z : Vec Conclusion Global). z.items) (lookup (is_at (key_cmp n)) es) []) c.new-waiting.ensures.empty in
    let b = c.in_ok-add_implications.ensures in
    let r = c.in_ok-run.ensures in
    subst (λ (ms : List Mark). IsSolution c.args.names.now c.args.items.now c.args.implications.now ms c.run.new.state.blamed) (sym c.in_ok-marks.ensures.items)
    (settled c.args.names.now c.args.items.now c.args.implications.now c.in_ok-state.state c.add_implications.new.state c.run.new.state c.new-waiting.result
    c.add_implications.new.waiting c.in_ok-state.ensures none b.step b.kept b.fair b.covered r.followed r.stays r.fewer r.covered
    c.in_ok-marks.ensures.ordered)
