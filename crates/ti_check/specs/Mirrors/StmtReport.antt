-- For proofs only: what the checker's results mean before it is known whether a jump out of the enclosing loop is a global effect.
use Rattle.std.specs.Prelude.{Bool, true, false, List, Option, None}
use Rattle.ti_lang.specs.Program.Classes.{ProgramView}
use Rattle.ti_lang.specs.Typing.Effects.{Doings, together, return_acts, jump_acts}
use Rattle.ti_rules.specs.declared.refusal.Refusal.{Refusal}
use Rattle.ti_rules.specs.StmtInContext.{StmtInContext}
use Rattle.ti_single.specs.declared.statements.Effects.{Effects as EffectsHere}
use Rattle.ti_single.specs.Effects.{effects_of}
use Rattle.ti_check.specs.declared.reports.Refusals.{Refusals}
use Rattle.ti_check.specs.declared.context.CheckContext.{CheckContext}
use Rattle.ti_check.specs.declared.reports.StmtReport.{StmtReport}
use Rattle.ti_check.specs.Mirrors.Refusals.{AreStmtRefusals}
use Rattle.ti_check.specs.Mirrors.Contexts.{program_at, around_of}

-- no errors, with this effect summary
abbrev pub with_effects : EffectsHere → StmtReport
with_effects d = record { types = None; single = None; jumping = None; doings = d }

-- the first broken rule of single values, given whether a jump out of the innermost enclosing loop counts as a global effect
abbrev pub single_where : StmtReport → Bool → Option Refusal
single_where w false = w.single
single_where w true = w.jumping

-- the first errors of both groups of rules
abbrev pub found_where : StmtReport → Bool → Refusals
found_where w jump_has = record { types = w.types; single = single_where w jump_has }

-- the result for these statements, each in its context, is right in both cases
abbrev pub IsStmtReport : ProgramView → (Bool → List StmtInContext) → StmtReport → Type 0
IsStmtReport p xs w = (jump_has : Bool) → AreStmtRefusals p (xs jump_has) (found_where w jump_has)

-- the effect summary of a loop's update and body
abbrev pub doings_inside : StmtReport → StmtReport → Doings
doings_inside update body = together (effects_of update.doings) (effects_of body.doings)

-- whether a jump out of the loop counts as a global effect
abbrev pub jump_acts_inside : CheckContext → StmtReport → StmtReport → Bool
jump_acts_inside s update body = jump_acts (return_acts (program_at s) (around_of s).method) (doings_inside update body)
