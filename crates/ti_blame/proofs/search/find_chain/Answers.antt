use Rattle.std.proofs.Common.{◌≡◌, ℕ, ◌+◌, ◌<◌, length, subst, arith}
use Rattle.ti_blame.specs.Mirrors.Search.{Turns, IsTurned}
use Rattle.ti_blame.proofs.Linking.{extends_trans}
use Rattle.ti_blame.proofs.Walking.{found_later, closed_more}
use Rattle.ti_blame.proofs.search.find_chain.Goals as goal

pub returns-in-Some : goal.returns-in-Some
returns-in-Some c =
    let items = c.args.items.now in
    let edges = c.args.implications.now in
    found_later items edges c.args.state.now c.links.state c.in-Some.steps.items c.requires.begun c.links.invariant.extends
    (subst (Turns items edges c.links.k c.links.state c.turn.new.state) c.in-Some.is c.in_ok-steps.ensures)

pub links-preserved : goal.links-preserved
links-preserved c =
    let items = c.args.items.now in
    let edges = c.args.implications.now in
    let s = c.links.state in
    let t = c.turn.new.state in
    let lt : c.links.k < length s.links.items = omega (arith, s.links.ok.0) in
    let turned : IsTurned items edges c.links.k s t = subst (Turns items edges c.links.k s t) c.in-None.is c.in_ok-steps.ensures in
    record {
      extends = extends_trans c.args.state.now s t c.links.invariant.extends turned.extends;
      sound = turned.sound;
      links = turned.links;
      closed = closed_more items edges s t c.links.k lt c.links.invariant.closed turned;
    }

pub links-smaller : goal.links-smaller
links-smaller c =
    let items = c.args.items.now in
    let edges = c.args.implications.now in
    let s = c.links.state in
    let t = c.turn.new.state in
    let lt : c.links.k < length s.links.items = omega (arith, s.links.ok.0) in
    let turned : IsTurned items edges c.links.k s t = subst (Turns items edges c.links.k s t) c.in-None.is c.in_ok-steps.ensures in
    omega (arith, lt, turned.extends.room)

pub returns : goal.returns
returns c = record {
  extends = c.links.invariant.extends;
  sound = c.links.invariant.sound;
  closed = λ k lt. c.links.invariant.closed k (omega (arith, lt, c.links.state.links.ok.0));
}
