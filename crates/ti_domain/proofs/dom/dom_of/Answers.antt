use Rattle.std.proofs.Common.{◌≡◌, ◌≤◌, true, false, ⊎_elim, sym, ap, subst, ◌∙◌, length}
use Rattle.std.proofs.lemmas.Bool.{cases_lt}
use Rattle.ti_base.specs.Rects.{points_of}
use Rattle.ti_domain.specs.Domains.{Domain, IsKept}
use Rattle.ti_domain.specs.Pieces.{points_in}
use Rattle.ti_domain.proofs.SetLaws.{kept_alone, points_alone}
use Rattle.ti_domain.proofs.dom.dom_of.Goals as goal

pub dom_from_pieces-requires : goal.dom_from_pieces-requires
dom_from_pieces-requires c =
    let r = c.args.rect.now in
    let small : length (points_of r) ≤ 1048576 =
    ⊎_elim (λ more. let t = c.is_large.ensures.1 more in let f = c.if-is_large.false in absurd (let e : true ≡ false = sym t ∙ f in cc)) (λ le. le) (cases_lt 1048576 (length (points_of r))) in
    subst (IsKept r.dim) (sym c.in_ok-pieces.ensures) (kept_alone r c.requires small)

pub returns-clause-points : goal.returns-clause-points
returns-clause-points c = ap (λ (d : Domain). d.points) c.dom_from_pieces.ensures ∙ ap points_in c.in_ok-pieces.ensures ∙ points_alone c.args.rect.now c.requires
