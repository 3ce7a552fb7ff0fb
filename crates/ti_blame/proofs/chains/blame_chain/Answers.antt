use Rattle.std.proofs.lemmas.Result.{IfOk-weaker}
use Rattle.ti_blame.specs.Chains.{GivesChain}
use Rattle.ti_blame.specs.Mirrors.Search.{Finds}
use Rattle.ti_blame.proofs.Chaining.{given}
use Rattle.ti_blame.proofs.chains.blame_chain.Goals as goal

pub returns : goal.returns
returns c =
    let names = c.args.names.now in
    let items = c.args.items.now in
    let edges = c.args.implications.now in
    let s = c.in_ok-state.state in
    let t = c.find_chain.new.state in
    IfOk-weaker c.find_chain.result (Finds items edges s t) (GivesChain names items edges c.args.place)
    (λ o h. given names items edges c.args.place s t o c.in_ok-state.ensures h) c.find_chain.ensures
