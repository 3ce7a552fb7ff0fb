-- What contracts see of the code of a method as far as it is generated, and how the functions that generate statements extend it.
use Rattle.std.specs.Prelude.{ℕ, List, Option, None, Some}
use Rattle.std.specs.declared.boxed.Box.{Box}
use Rattle.std.specs.declared.alloc.Global.{Global}
use Rattle.ti_base.specs.declared.place.Place.{Place}
use Rattle.ti_lang.specs.declared.program.stmts.Stmt.{Stmt}
use Rattle.ti_lang.specs.Program.Expressions.{NumberedExp}
use Rattle.ti_lang.specs.Program.Statements.{NumberedStm, NumberedStms}
use Rattle.ti_lang.specs.Program.Statements.{MaybeNumbered, NoStm, SomeStm}
use Rattle.ti_lang.specs.Program.Views.{program_of, statement_of}
use Rattle.ti_lang.specs.Typing.TyRef.{ty_view}
use Rattle.ti_code.specs.declared.instr.Instr.{Instr}
use Rattle.ti_lower_expr.specs.Contents.{names_in}
use Rattle.ti_lower.specs.declared.body.MethodEmitContext.{MethodEmitContext}
use Rattle.ti_lower.specs.declared.body.LoopTargets.{LoopTargets}
use Rattle.ti_lower.specs.declared.body.CodeBuilder.{CodeBuilder}
use Rattle.ti_lower.specs.StmtCode as laying
use Rattle.ti_lower.specs.Mirrors.Positions.{Where}
use Rattle.ti_lower.specs.Mirrors.Statements as on

abbrev pub builder_of : CodeBuilder → on.CodeBuilder
builder_of w = record { names = names_in w.slots; code = w.code.items; targets = w.targets.items }

abbrev pub labels_of : LoopTargets → laying.LoopTargets
labels_of l = record { again = l.continue_to; kept = l.continue_slots; exit = l.break_to; left = l.break_slots; walks = l.over_points }

-- The head or the update of a `for`.
abbrev pub maybe_stm_of : Option (Box Stmt Global) → MaybeNumbered
maybe_stm_of None = NoStm
maybe_stm_of (Some x) = SomeStm (statement_of x.value)

module _ (b : MethodEmitContext) where
  abbrev pub where_in : on.CodeBuilder → Where
  where_in = on.where_in (program_of b.program.now) b.this (ty_view b.result) b.label_targets.now

  abbrev pub target_in : ℕ → ℕ
  target_in = on.target_at (program_of b.program.now) b.this (ty_view b.result) b.label_targets.now

  abbrev pub condition_in : Option NumberedExp → on.CodeBuilder → List Instr
  condition_in = on.condition_on (program_of b.program.now) b.this (ty_view b.result) b.label_targets.now

  abbrev pub loop_labels : ℕ → ℕ → Option laying.LoopTargets
  loop_labels = on.loop_labels (program_of b.program.now) b.this (ty_view b.result) b.label_targets.now

  abbrev pub walk_labels : ℕ → ℕ → Option laying.LoopTargets
  walk_labels = on.walk_labels (program_of b.program.now) b.this (ty_view b.result) b.label_targets.now

  abbrev pub loop_begun : Place → on.CodeBuilder → on.CodeBuilder
  loop_begun = on.loop_begun (program_of b.program.now) b.this (ty_view b.result) b.label_targets.now

  abbrev pub walk_begun : Place → ℕ → on.CodeBuilder → on.CodeBuilder
  walk_begun = on.walk_begun (program_of b.program.now) b.this (ty_view b.result) b.label_targets.now

  abbrev pub loop_ended : ℕ → ℕ → Option NumberedExp → on.CodeBuilder → on.CodeBuilder
  loop_ended = on.loop_ended (program_of b.program.now) b.this (ty_view b.result) b.label_targets.now

  abbrev pub walk_ended : ℕ → ℕ → on.CodeBuilder → on.CodeBuilder
  walk_ended = on.walk_ended (program_of b.program.now) b.this (ty_view b.result) b.label_targets.now

  abbrev pub branch_test : NumberedExp → on.CodeBuilder → on.CodeBuilder
  branch_test = on.branch_test (program_of b.program.now) b.this (ty_view b.result) b.label_targets.now

  abbrev pub otherwise : ℕ → ℕ → on.CodeBuilder → on.CodeBuilder
  otherwise = on.otherwise (program_of b.program.now) b.this (ty_view b.result) b.label_targets.now

  abbrev pub stm_in : NumberedStm → Option laying.LoopTargets → on.CodeBuilder → on.CodeBuilder
  stm_in = on.stm_on (program_of b.program.now) b.this (ty_view b.result) b.label_targets.now

  abbrev pub turn_in : Place → (Option laying.LoopTargets → on.CodeBuilder → on.CodeBuilder) → on.CodeBuilder → on.CodeBuilder
  turn_in = on.turn_on (program_of b.program.now) b.this (ty_view b.result) b.label_targets.now

  abbrev pub walked_in : Place → ℕ → (Option laying.LoopTargets → on.CodeBuilder → on.CodeBuilder) → on.CodeBuilder → on.CodeBuilder
  walked_in = on.walked_on (program_of b.program.now) b.this (ty_view b.result) b.label_targets.now

  abbrev pub stms_in : NumberedStms → Option laying.LoopTargets → on.CodeBuilder → on.CodeBuilder
  stms_in = on.stms_on (program_of b.program.now) b.this (ty_view b.result) b.label_targets.now

  abbrev pub maybe_in : MaybeNumbered → Option laying.LoopTargets → on.CodeBuilder → on.CodeBuilder
  maybe_in = on.maybe_on (program_of b.program.now) b.this (ty_view b.result) b.label_targets.now
