-- Copies between grids, and the stores of an exchange; both proceed element by element.
use Rattle.std.specs.Prelude.{ℕ, zero, suc, ◌+◌, ◌==◌, if◌then◌else◌, pos, List, [], ◌∷◌, slice_index_or}
use Rattle.ti_base.specs.declared.place.Place.{Place}
use Rattle.ti_base.specs.declared.point.Point.{Point}
use Rattle.ti_base.specs.declared.point.Rect.{Rect}
use Rattle.ti_base.specs.declared.action.Action.TheVariants as act
use Rattle.ti_base.specs.Rects.{points_of, meet}
use Rattle.ti_lang.specs.Program.Types.{ValueType, Void}
use Rattle.ti_lang.specs.Program.Expressions.{NumberedExp, NumberedExps, NoExp, MoreExp}
use Rattle.ti_lang.specs.Typing.Kinds.{element_of}
use Rattle.ti_lang.specs.Typing.TextTypes.{static_element_type}
use Rattle.ti_lang.specs.Meaning.Held.{no_value, plain_of, rect_of}
use Rattle.ti_lang.specs.Meaning.Comp.{ToBeDone, ValueOf, Reference, request, request_through, Comp, ◌>>=◌, gives, asked, needed}
use Rattle.ti_lang.specs.Meaning.Literals.{point_of_numbers}
use Rattle.ti_lang.specs.Meaning.Processes.{CopyAll, TakeAll}
use Rattle.ti_lang.specs.Meaning.Scoping.{Env, type_of}
use Rattle.ti_lang.specs.Meaning.CellRefs.{domain_asked}
use Rattle.ti_lang.specs.Meaning.Evaluation.{eval, eval_all}
use Rattle.ti_lang.specs.Meaning.Moves.{Move, Goes, goes_on}

-- ---- copies

-- the static type of the first of these expressions; `Void` if there is none
abbrev pub first_type : Env → NumberedExps → ValueType
first_type env NoExp = Void
first_type env (MoreExp x xs) = type_of env x

-- the points that are in both of two rectangular domains; none if their dimensions differ
abbrev pub common_points : Rect → Rect → List Point
common_points r s = if r.dim == s.dim then points_of (meet r s) else []

-- `a.copy(b)`: evaluates both grids, then requests the domain of each; the common points are left to be copied
abbrev pub copies : Env → Place → NumberedExp → NumberedExps → Comp Move
copies env at x args = do
  h ← eval env x
  hs ← eval_all env args
  to ← needed at (type_of env x) h
  from ← needed at (first_type env args) (slice_index_or hs 0 no_value)
  d ← domain_asked at to
  e ← domain_asked at from
  gives (Goes env.variables (CopyAll at to from (common_points (rect_of d) (rect_of e)) ∷ []))

-- reads and writes the element of the first point that is left; the others are left
abbrev pub copied : Env → Place → Reference → Reference → List Point → Comp Move
copied env at to from [] = goes_on env
copied env at to from (p ∷ ps) = do
  h ← asked (request_through from at (act.GetElem from.thing p) (ValueOf (static_element_type from.type)))
  done ← asked (request_through to at (act.PutElem to.thing p (plain_of h)) ToBeDone)
  gives (Goes env.variables (CopyAll at to from ps ∷ []))

-- ---- exchanges

-- the index of a process's element in a grid of one dimension
abbrev pub element_at : ℕ → Point
element_at i = point_of_numbers (pos i ∷ [])

-- n consecutive numbers from i on
abbrev pub count_up : ℕ → ℕ → List ℕ
count_up i zero = []
count_up i (suc n) = i ∷ count_up (i + 1) n

-- takes the value of the first process that is left and stores it in the grid; the others are left
abbrev pub taken : Env → Place → Reference → List ℕ → Comp Move
taken env at grid [] = goes_on env
taken env at grid (i ∷ is) = do
  h ← asked (request at (act.Take i) (ValueOf (element_of grid.type)))
  done ← asked (request_through grid at (act.PutElem grid.thing (element_at i) (plain_of h)) ToBeDone)
  gives (Goes env.variables (TakeAll at grid is ∷ []))
