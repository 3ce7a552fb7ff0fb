-- Environments in which expressions are evaluated, and when they agree with the static scope.
use Rattle.std.specs.Prelude.{◌≡◌, ℕ, pos, Bool, true, Some}
use Rattle.std.specs.Int.{w32, w64}
use Rattle.ti_base.specs.declared.value.Id.{Id}
use Rattle.ti_base.specs.Points.{IsDim}
use Rattle.ti_base.specs.WholeNumbers.{Fits}
use Rattle.ti_lang.specs.Program.Types.{ValueType, Foreach, VariableUse}
use Rattle.ti_lang.specs.Program.Expressions.{NumberedExp, NumberedExps, NumberedRange, NumberedRanges}
use Rattle.ti_lang.specs.Program.Scope.{ScopeContents, this_of}
use Rattle.ti_lang.specs.Typing.Declared.{variable_type}
use Rattle.ti_lang.specs.Typing.TextTypes.{how_many}
use Rattle.ti_lang.specs.Typing.Expressions.{range_count}
use Rattle.ti_lang.specs.Meaning.Scoping.{Env, value_by}
use Rattle.ti_lang.specs.Program.Types as t
use Rattle.ti_lang.specs.Program.Expressions as e
use Rattle.ti_align.specs.HeapTyping.{HeapTyping, IsOf, DimsFine}

-- The objects are those that the process sees. Its number and the number of processes have 32 bits, `this` is an object of its class, and
-- each variable that is used holds a value of its type; foreach variables are points.
pub record EnvFits (uses : VariableUse → Bool) (s : ScopeContents) (w : HeapTyping) (env : Env) : Type 0 where
  pub owner : w.owner ≡ env.number
  pub number : Fits w32 (pos env.number)
  pub procs : Fits w32 (pos env.procs)
  pub this_class : s.this_class ≡ this_of env.method
  pub this : (class : ℕ) → s.this_class ≡ Some class → (id : Id) → env.this ≡ Some id → w.class_at id ≡ Some class
  pub variables : (x : VariableUse) (type : ValueType) → uses x ≡ true → variable_type s x ≡ Some type
      → IsOf w type (value_by x.declared env x)
  pub dims : (x : VariableUse) (type : ValueType) → uses x ≡ true → variable_type s x ≡ Some type → DimsFine type
  pub points : (x : VariableUse) (type : ValueType) → uses x ≡ true → x.declared ≡ Foreach → variable_type s x ≡ Some type → (n : ℕ)
      × (type ≡ t.Pt n)

module _ (uses : VariableUse → Bool) where
  abbrev mutual
    -- number literals are within their ranges; points, rectangular domains and the types in casts have one to three dimensions; and the
    -- variables satisfy `uses`
    pub IsWritten : NumberedExp → Type 0
    IsWritten (e.Int at n) = Fits w32 n
    IsWritten (e.Long at n) = Fits w64 n
    IsWritten (e.Variable at v) = uses v ≡ true
    IsWritten (e.Point at parts) = IsDim (how_many parts) × AreWritten parts
    IsWritten (e.Rect at ranges) = IsDim (range_count ranges) × AreRangesWritten ranges
    IsWritten (e.Unary at op a) = IsWritten a
    IsWritten (e.Binary at op a b) = IsWritten a × IsWritten b
    IsWritten (e.Cast at to a) = DimsFine to.type × IsWritten a
    IsWritten (e.Select at a name) = IsWritten a
    IsWritten (e.Member at a name args) = IsWritten a × AreWritten args
    IsWritten (e.Index at a parts) = IsWritten a × AreWritten parts
    IsWritten x = Unit {0}

    pub AreWritten : NumberedExps → Type 0
    AreWritten e.NoExp = Unit {0}
    AreWritten (e.MoreExp a rest) = IsWritten a × AreWritten rest

    pub IsRangeWritten : NumberedRange → Type 0
    IsRangeWritten (e.Plain low high) = IsWritten low × IsWritten high
    IsRangeWritten (e.Stepped low high step) = IsWritten low × IsWritten high × IsWritten step

    pub AreRangesWritten : NumberedRanges → Type 0
    AreRangesWritten e.NoRange = Unit {0}
    AreRangesWritten (e.MoreRange r rest) = IsRangeWritten r × AreRangesWritten rest
