use Rattle.ti_rect.proofs.NextLaws.{row_is_next, plane_is_next, last_part}
use Rattle.ti_rect.proofs.next.point_above.Goals as goal

pub returns-in-Some : goal.returns-in-Some
returns-in-Some c = row_is_next c.args.rect.now c.args.point.now c.in-Some.q c.in-Some.ensures

pub returns-in-Some-in_plane : goal.returns-in-Some-in_plane
returns-in-Some-in_plane c = plane_is_next c.args.rect.now c.args.point.now c.in-Some-in_plane.q c.in-None.ensures c.in-Some-in_plane.ensures

pub returns : goal.returns
returns c = last_part c.args.rect.now c.args.point.now c.in_later_plane.result c.in-None.ensures c.in-None-in_plane.ensures c.in_later_plane.ensures
