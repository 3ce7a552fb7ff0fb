use Rattle.std.proofs.Common.{◌≡◌, length, sym, ap, ◌∙◌, arith}
use Rattle.std.proofs.lemmas.Int.{ints}
use Rattle.ti_domain.specs.Pieces.{total_count}
use Rattle.ti_domain.proofs.SetLaws.{count_of}
use Rattle.ti_domain.proofs.members.dom_size.Goals as goal
use Rattle.ti_domain.proofs.members.dom_size.Goals.{After-dom_pieces}

counted : (c : After-dom_pieces) → total_count c.dom_pieces.result.now ≡ length c.args.dom.now.points
counted c = sym (count_of c.args.dom.now.dim c.dom_pieces.result.now c.dom_pieces.ensures.pieces) ∙ ap length (sym c.dom_pieces.ensures.list)

pub total-requires-clause-small : goal.total-requires-clause-small
total-requires-clause-small c = let n = counted c in let b = c.dom_pieces.ensures.domain.bound in omega arith

pub overflow_cast-result : goal.overflow_cast-result
overflow_cast-result c =
    let n = counted (goal.at.overflow_cast-result c).After-dom_pieces in
    let b = c.dom_pieces.ensures.domain.bound in
    let t = c.total.ensures in
    omega (arith, ints)

pub returns : goal.returns
returns c =
    let n = counted (goal.at.returns c).After-dom_pieces in
    let b = c.dom_pieces.ensures.domain.bound in
    let t = c.total.ensures in
    omega (arith, ints)
