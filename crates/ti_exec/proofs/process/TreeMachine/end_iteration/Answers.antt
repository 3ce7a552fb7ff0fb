use Rattle.std.proofs.Common.{◌∙◌, ap, sym}
use Rattle.ti_lang.specs.Program.Views.{program_of}
use Rattle.ti_lang.specs.Meaning.Steps.{To}
use Rattle.ti_exec.proofs.Begun.{updates, turns_again}
use Rattle.ti_exec.proofs.process.TreeMachine.end_iteration.Goals as goal

pub returns-in_ok-enter : goal.returns-in_ok-enter
returns-in_ok-enter c =
    let p = program_of c.args.program.now in
    updates p c.args.self.now _ _ c.requires c.current_stmt.ensures c.if-has_update.true c.has_update.ensures ∙ ap To (sym (c.in_ok-enter.ensures p))

pub returns-else-has_update : goal.returns-else-has_update
returns-else-has_update c =
    let p = program_of c.args.program.now in
    turns_again p c.args.self.now _ _ c.requires c.current_stmt.ensures c.if-has_update.false c.has_update.ensures ∙ ap To (sym (c.complete_with.ensures p))
