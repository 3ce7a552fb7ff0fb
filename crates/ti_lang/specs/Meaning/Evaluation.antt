-- Evaluation of expressions, as a computation that may perform actions.
use Rattle.std.specs.Prelude.{ℕ, ℤ, pos, Bool, true, not, ◌||◌, ◌==◌, List, [], ◌∷◌, ◌++◌, Option, Some, None}
use Rattle.ti_base.specs.declared.place.Place.{Place}
use Rattle.ti_base.specs.declared.value.Id.{Id}
use Rattle.ti_base.specs.declared.value.Value.TheVariants as v
use Rattle.ti_base.specs.declared.fault.FaultKind.TheVariants.{NotLocal}
use Rattle.ti_syntax.specs.declared.tree.exprs.BinaryOperator.{BinaryOperator}
use Rattle.ti_lang.specs.Program.Types.{ValueType}
use Rattle.ti_lang.specs.Program.Expressions.{NumberedExp, NumberedExps, NumberedRange, NumberedRanges}
use Rattle.ti_lang.specs.Program.Expressions as e
use Rattle.ti_lang.specs.Program.Scope.{this_of}
use Rattle.ti_lang.specs.Typing.Kinds.{is_local, is_point_type}
use Rattle.ti_lang.specs.Typing.Called.{member_called}
use Rattle.ti_lang.specs.Meaning.Held.{Held, Plain, no_value, truth, referent_of}
use Rattle.ti_lang.specs.Meaning.Comp.{Comp, ◌>>=◌, gives, guard}
use Rattle.ti_lang.specs.Meaning.Literals as literal
use Rattle.ti_lang.specs.Meaning.Conversions.{converted}
use Rattle.ti_lang.specs.Meaning.Operators.{apply_binary, short_circuit, operated_alone}
use Rattle.ti_lang.specs.Meaning.Scoping.{Env, value_by, type_of, field_selected}
use Rattle.ti_lang.specs.Meaning.CellRefs.{Field, fetched, indexed}
use Rattle.ti_lang.specs.Meaning.MemberForms.{member_value}

-- ---- casts

-- the object or grid, if there is one, is in the memory of this process
abbrev pub is_own : ℕ → Option Id → Bool
is_own number None = true
is_own number (Some id) = id.owner == number

-- a value of a local reference type must be `null` or in the process's own memory; otherwise a fault
abbrev pub kept_local : ℕ → Place → ValueType → Held → Comp Held
kept_local number at type h = guard (not (is_local type) || is_own number (referent_of h)) NotLocal at h

-- ---- operators that may leave out their right operand

-- the result if it is settled, and otherwise the other computation
abbrev pub unless_settled : Option Held → Comp Held → Comp Held
unless_settled (Some result) more = gives result
unless_settled None more = more

-- a binary operator after its left operand: the right one is evaluated only if the left one doesn't decide the result
abbrev pub with_right : Place → BinaryOperator → Held → Comp Held → Comp Held
with_right at op x right = unless_settled (short_circuit op x) (right >>= λ y. apply_binary at op x y)

-- ---- expressions

abbrev mutual
  -- the value of an expression; operands are evaluated from left to right; a call of a declared method is executed by
  -- `Statements`, and has no value here
  pub eval : Env → NumberedExp → Comp Held
  eval env (e.Int at n) = gives (Plain (v.Int n))
  eval env (e.Long at n) = gives (Plain (v.Long n))
  eval env (e.Truth at b) = gives (truth b)
  eval env (e.Null at) = gives (Plain (v.Obj None))
  eval env (e.This at) = gives (Plain (v.Obj env.this))
  eval env (e.Variable at variable) = gives (value_by variable.declared env variable)
  eval env (e.OwnField at field) =
      fetched at (type_of env (e.OwnField at field)) (Field (Plain (v.Obj env.this)) (type_of env (e.This at)) field)
  eval env (e.ThisProc at) = gives (Plain (v.Int (pos env.number)))
  eval env (e.NumProcs at) = gives (Plain (v.Int (pos env.procs)))
  eval env (e.Point at parts) = do
    xs ← eval_numbers env parts
    gives (Plain (v.Pt (literal.point_of_numbers xs)))
  eval env (e.Rect at ranges) = do
    bounds ← eval_ranges env ranges
    literal.rect_within at bounds
  eval env (e.Unary at op x) = do
    h ← eval env x
    gives (operated_alone op h)
  eval env (e.Binary at op x y) = do
    h ← eval env x
    with_right at op h (eval env y)
  eval env (e.Cast at to x) = do
    h ← eval env x
    k ← converted at to.type h
    kept_local env.number at to.type k
  eval env (e.Select at x name) = do
    h ← eval env x
    fetched at (type_of env (e.Select at x name)) (Field h (type_of env x) (field_selected env x name))
  eval env (e.Member at x name args) = do
    h ← eval env x
    hs ← eval_all env args
    member_value at (type_of env (e.Member at x name args)) (member_called env.program (this_of env.method) x name) (type_of env x) h hs
  eval env (e.Index at x parts) = do
    h ← eval env x
    indices ← eval_numbers env parts
    indexed (is_point_type (type_of env x)) at (type_of env (e.Index at x parts)) (type_of env x) h indices
  eval env (e.Call at method args) = gives no_value
  eval env (e.OwnCall at method args) = gives no_value

  -- the values of expressions, evaluated in order
  pub eval_all : Env → NumberedExps → Comp (List Held)
  eval_all env e.NoExp = gives []
  eval_all env (e.MoreExp x xs) = do
    h ← eval env x
    hs ← eval_all env xs
    gives (h ∷ hs)

  -- the numbers that expressions evaluate to, or the coordinates of the points
  pub eval_numbers : Env → NumberedExps → Comp (List ℤ)
  eval_numbers env e.NoExp = gives []
  eval_numbers env (e.MoreExp x xs) = do
    h ← eval env x
    rest ← eval_numbers env xs
    gives (literal.numbers_in h ++ rest)

  -- the bounds of a range, of numbers or of points
  pub eval_range : Env → NumberedRange → Comp literal.Bounds
  eval_range env (e.Plain low high) = do
    a ← eval env low
    b ← eval env high
    gives (literal.plain_bounds a b)
  eval_range env (e.Stepped low high step) = do
    a ← eval env low
    b ← eval env high
    c ← eval env step
    gives (literal.stepped_bounds a b c)

  -- the bounds of ranges, coordinate by coordinate
  pub eval_ranges : Env → NumberedRanges → Comp literal.Bounds
  eval_ranges env e.NoRange = gives literal.no_bounds
  eval_ranges env (e.MoreRange r rs) = do
    first ← eval_range env r
    rest ← eval_ranges env rs
    gives (literal.append_bounds first rest)
