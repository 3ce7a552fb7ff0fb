-- Collective operations up to the arrival of a process.
use Rattle.std.specs.Prelude.{ℕ, ◌==◌, ◌&&◌, int_le, int_lt, if◌then◌else◌, pos, ◌-ℤ◌, [], ◌∷◌, slice_index_or, None, Some}
use Rattle.ti_base.specs.declared.place.Place.{Place}
use Rattle.ti_base.specs.declared.point.Rect.{Rect}
use Rattle.ti_base.specs.declared.fault.FaultKind.TheVariants.{BadRoot, ExchangeDomain}
use Rattle.ti_base.specs.declared.action.CollKind.TheVariants as coll
use Rattle.ti_base.specs.declared.action.Deposit.{Deposit}
use Rattle.ti_base.specs.declared.action.Deposit.TheVariants as deposit
use Rattle.ti_base.specs.Ranges.{natural}
use Rattle.ti_base.specs.Rects.{points_of, spanned_rect}
use Rattle.ti_lang.specs.Program.Types as t
use Rattle.ti_lang.specs.Program.Expressions.{NumberedExp, NumberedExps}
use Rattle.ti_lang.specs.Typing.Kinds.{element_of}
use Rattle.ti_lang.specs.Meaning.Held.{Held, no_value, whole_of, rect_of, region_of, plain_of, as_type}
use Rattle.ti_lang.specs.Meaning.Comp.{ToBeDone, ValueOf, Comp, ◌>>=◌, gives, guard, needed}
use Rattle.ti_lang.specs.Meaning.Literals.{point_of_numbers}
use Rattle.ti_lang.specs.Meaning.Operands.{same_points}
use Rattle.ti_lang.specs.Meaning.Processes.{Receiver, Nowhere, TakeAll}
use Rattle.ti_lang.specs.Meaning.Scoping.{Env, type_of, type_here}
use Rattle.ti_lang.specs.Meaning.CellRefs.{domain_asked}
use Rattle.ti_lang.specs.Meaning.Evaluation.{eval, eval_all}
use Rattle.ti_lang.specs.Meaning.Copies.{element_at, count_up}
use Rattle.ti_lang.specs.Meaning.Moves.{Move, Meets, Deletes}

-- ---- barriers and regions

-- `Ti.barrier()`
abbrev pub meets : Place → Comp Move
meets at = gives (Meets (record { place = at; kind = coll.Barrier; arg = None; wanted = ToBeDone; receiver = Nowhere }) deposit.Nothing [])

-- `new SharedRegion()`; its departure yields the region
abbrev pub makes_region : Receiver → Place → Comp Move
makes_region receiver at =
    gives (Meets (record { place = at; kind = coll.MakeRegion; arg = None; wanted = ValueOf t.Region; receiver = receiver }) deposit.Nothing
    [])

-- `r.delete()`
abbrev pub deletes : Env → Place → NumberedExp → Comp Move
deletes env at x = do
  h ← eval env x
  gives (Deletes at (region_of h))

-- ---- broadcasts

-- the number of a process; a fault if there is no process of this number
abbrev pub root_among : ℕ → Place → Held → Comp ℕ
root_among procs at h = guard (int_le (pos 0) (whole_of h) && int_lt (whole_of h) (pos procs)) BadRoot at (natural (whole_of h))

-- the deposit of a broadcast: only the root evaluates the expression
abbrev pub root_deposit : Env → ℕ → NumberedExp → Comp Deposit
root_deposit env root x =
    if env.number == root then (eval env x >>= λ h. gives (deposit.One (plain_of h))) else gives deposit.Nothing

-- `broadcast e from p`; its departure yields the root's value
abbrev pub broadcasts : Env → Receiver → Place → NumberedExp → NumberedExp → Comp Move
broadcasts env receiver at x p = do
  h ← eval env p
  root ← root_among env.procs at h
  given ← root_deposit env root x
  gives (Meets (record { place = at; kind = coll.Broadcast; arg = Some root; wanted = ValueOf (type_here env x); receiver = receiver })
      given [])

-- ---- exchanges

-- the domain of the process numbers, which has one point for each process
abbrev pub team : ℕ → Rect
team procs = spanned_rect (element_at 0) (point_of_numbers ((pos procs -ℤ pos 1) ∷ [])) (element_at 1)

-- `a.exchange(e)`: the grid must have the domain of the process numbers; after the departure the values of all processes are
-- stored in it
abbrev pub exchanges : Env → Place → NumberedExp → NumberedExps → Comp Move
exchanges env at x args = do
  h ← eval env x
  hs ← eval_all env args
  grid ← needed at (type_of env x) h
  d ← domain_asked at grid
  guard (same_points (points_of (rect_of d)) (points_of (team env.procs))) ExchangeDomain at
      (Meets (record { place = at; kind = coll.Exchange; arg = None; wanted = ToBeDone; receiver = Nowhere })
      (deposit.One (plain_of (as_type (element_of (type_of env x)) (slice_index_or hs 0 no_value))))
      (TakeAll at grid (count_up 0 env.procs) ∷ []))
