use Rattle.std.proofs.Common.{◌↔◌, sym, subst}
use Rattle.ti_base.specs.PointSets.{IsAmong}
use Rattle.ti_domain.specs.Domains.{Domain, IsDom}
use Rattle.ti_domain.specs.Pieces.{IsInSome}
use Rattle.ti_domain.proofs.PieceLaws.{listed, shapes, point_in_some}
use Rattle.ti_domain.proofs.dom.dom_pieces.Goals as goal

pub returns-clause-domain : goal.returns-clause-domain
returns-clause-domain c =
    let k = c.dom.invariant in
    let each = shapes c.dom.inside.dim c.dom.inside.pieces.items k.pieces_are.each in
    let l = listed c.dom.inside.dim c.dom.inside.pieces.items each in
    subst IsDom c.dom.view_is record {
      dim = k.dim_is;
      domain = record { one_dim = l.1; rises = l.0.rises };
      form = λ p m. point_in_some c.dom.inside.dim c.dom.inside.pieces.items p each ((l.0.has p).0 m);
      bound = k.bound;
    }

pub returns-clause-members : goal.returns-clause-members
returns-clause-members c = λ p.
    let k = c.dom.invariant in
    let l = listed c.dom.inside.dim c.dom.inside.pieces.items (shapes c.dom.inside.dim c.dom.inside.pieces.items k.pieces_are.each) in
    subst (λ rs. IsAmong c.args.dom.now.points p ↔ IsInSome rs p) (sym c.as_slice.ensures.value)
    (subst (λ (d : Domain). IsAmong d.points p ↔ IsInSome c.dom.inside.pieces.items p) c.dom.view_is (l.0.has p))
