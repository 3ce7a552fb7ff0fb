use Rattle.std.proofs.Common.{subst}
use Rattle.ti_race.specs.Mirrors.GridLayout.{SeenIf}
use Rattle.ti_race.proofs.Seen.{keeps_some, inside_from}
use Rattle.ti_race.proofs.grid_layout.view_layout.Goals as goal

pub returns-in-Some : goal.returns-in-Some
returns-in-Some c whole b k =
    let s = subst (SeenIf c.args.how c.args.grid.now.view) c.in-Some.is c.view_by.ensures in
    keeps_some c.args.how whole c.args.grid.now b c.in-Some.view k s
    (inside_from c.args.how c.args.grid.now.view.dom s.2 c.requires.form s.0 c.tests_decide.ensures.inside c.views_inside.ensures.form c.views_inside.ensures.inside)
