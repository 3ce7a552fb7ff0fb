use Rattle.std.proofs.Common.{◌≡◌, map, drop}
use Rattle.ti_lang.specs.Program.Statements.{numbered_stms}
use Rattle.ti_lang.specs.Program.Views.{statement_of}
use Rattle.ti_single.specs.Contexts.{program_at, around_of}
use Rattle.ti_explain.specs.FirstEffects.{first_effect_of_all}
use Rattle.ti_explain.proofs.effects.+first.Given as goal

abbrev pub invariant-first_effect_of_all-loop-x : goal.invariant-first_effect_of_all-loop-x
invariant-first_effect_of_all-loop-x l =
    first_effect_of_all (program_at l.site) (around_of l.site).method l.jump_has (numbered_stms (map statement_of l.stmts))
    ≡ first_effect_of_all (program_at l.site) (around_of l.site).method l.jump_has (numbered_stms (map statement_of (drop l.x-index l.stmts)))
