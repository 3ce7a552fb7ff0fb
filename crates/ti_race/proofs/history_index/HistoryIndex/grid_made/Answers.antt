use Rattle.ti_race.proofs.IndexedObjects.{view_from}
use Rattle.ti_race.proofs.history_index.HistoryIndex.grid_made.Goals as goal

pub returns-in-MakeView : goal.returns-in-MakeView
returns-in-MakeView c e h counted tells is = view_from h e c.view_made.result c.args.id c.in-MakeView.grid c.in-MakeView.how c.args.action c.in-MakeView.is (c.view_made.ensures h tells)
