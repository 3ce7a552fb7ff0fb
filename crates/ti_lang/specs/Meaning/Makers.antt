-- Creation of objects and grids.
use Rattle.std.specs.Prelude.{ℕ, true, Option, None, Some}
use Rattle.ti_base.specs.declared.place.Place.{Place}
use Rattle.ti_base.specs.declared.action.Action.TheVariants as act
use Rattle.ti_lang.specs.Program.Types.{ValueType}
use Rattle.ti_lang.specs.Program.Types as t
use Rattle.ti_lang.specs.Program.Expressions.{NumberedExp, numbered_ranges}
use Rattle.ti_lang.specs.Program.Statements.{NumberedDims}
use Rattle.ti_lang.specs.Program.Statements as s
use Rattle.ti_lang.specs.Meaning.Held.{Held, rect_of, region_of}
use Rattle.ti_lang.specs.Meaning.Comp.{NewThing, request, Comp, ◌>>=◌, gives, asked}
use Rattle.ti_lang.specs.Meaning.Literals.{rect_within}
use Rattle.ti_lang.specs.Meaning.Scoping.{Env}
use Rattle.ti_lang.specs.Meaning.Evaluation.{eval, eval_ranges}
use Rattle.ti_lang.specs.Meaning.Zeros.{zero_of_type}

-- the region in which a new object or grid is allocated; 0 if none is given
abbrev pub region_for : Env → Option NumberedExp → Comp ℕ
region_for env None = gives 0
region_for env (Some x) = do
  h ← eval env x
  gives (region_of h)

-- the domain of a new grid
abbrev pub spread : Env → Place → NumberedDims → Comp Held
spread env at (s.Domain x) = eval env x
spread env at (s.Ranges ranges) = do
  bounds ← eval_ranges env (numbered_ranges ranges)
  rect_within at bounds

-- `new C()`, in a region if one is given
abbrev pub new_object : Env → Place → Option NumberedExp → ℕ → Comp Held
new_object env at region class = do
  r ← region_for env region
  asked (request at (act.NewObj class r) (NewThing (t.Class class true)))

-- `new T [D]`, in a region if one is given
abbrev pub new_grid : Env → Place → Option NumberedExp → ValueType → Place → NumberedDims → Comp Held
new_grid env at region element dims_at dims = do
  r ← region_for env region
  h ← spread env dims_at dims
  asked (request at (act.NewGrid (zero_of_type element) (rect_of h) r) (NewThing (t.Grid element (rect_of h).dim true)))
