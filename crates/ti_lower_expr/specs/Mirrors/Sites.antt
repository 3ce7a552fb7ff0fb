-- How the functions that generate code extend it at a site.
use Rattle.std.specs.Prelude.{ℕ, if◌then◌else◌, List, Option, None}
use Rattle.ti_lang.specs.Program.Expressions.{NumberedExp, NumberedExps, NumberedRange, NumberedRanges}
use Rattle.ti_lang.specs.Program.Types.{ValueType}
use Rattle.ti_lang.specs.Program.Views.{program_of}
use Rattle.ti_lang.specs.Typing.BuiltIn.{BuiltIn, built_in}
use Rattle.ti_lang.specs.Typing.Kinds.{is_object}
use Rattle.ti_lang.specs.Typing.TextTypes as text
use Rattle.ti_code.specs.declared.instr.Instr.{Instr}
use Rattle.ti_lower_expr.specs.declared.context.LoweringContext.{LoweringContext}
use Rattle.ti_lower_expr.specs.declared.kinds.StaticRepr.{StaticRepr}
use Rattle.ti_lower_expr.specs.Contents.{names_in}
use Rattle.ti_lower_expr.specs.Knowing as knowing
use Rattle.ti_lower_expr.specs.Mirrors.Walking as on

module _ (s : LoweringContext) where
  abbrev pub type_in : NumberedExp → ValueType
  type_in = text.syntactic_type (program_of s.program.now) s.this

  abbrev pub known_in : NumberedExp → StaticRepr
  known_in = knowing.known_of (program_of s.program.now) s.this

  abbrev pub walked_in : NumberedExp → List Instr → List Instr
  walked_in = on.append_expr (program_of s.program.now) s.this (names_in s.slots.now)

  abbrev pub all_in : NumberedExps → List Instr → List Instr
  all_in = on.append_exprs (program_of s.program.now) s.this (names_in s.slots.now)

  abbrev pub range_in : NumberedRange → List Instr → List Instr
  range_in = on.append_range (program_of s.program.now) s.this (names_in s.slots.now)

  abbrev pub ranges_in : NumberedRanges → List Instr → List Instr
  ranges_in = on.append_ranges (program_of s.program.now) s.this (names_in s.slots.now)

  -- The built-in member that a name denotes after a value of the type.
  abbrev pub called_behind : ValueType → ℕ → Option BuiltIn
  called_behind type name = if is_object type then None else built_in (program_of s.program.now) name
