use Rattle.std.proofs.Common.{◌∙◌, ap}
use Rattle.ti_lang.specs.Program.Views.{program_of}
use Rattle.ti_lang.specs.Meaning.Performing.{declared_in}
use Rattle.ti_lang.specs.Meaning.Scoping.{without_variables}
use Rattle.ti_eval.specs.declared.frame.Resume.TheVariants.{Inside}
use Rattle.ti_exec.specs.States.{left_in}
use Rattle.ti_exec.specs.Pending.{done_with}
use Rattle.ti_exec.proofs.Begun.{vars, went_out, ended}
use Rattle.ti_exec.proofs.process.TreeMachine.end.Goals as goal

pub returns : goal.returns
returns c =
    let p = program_of c.args.program.now in
    let w = c.args.self.now in
    let u = c.leave.ensures ∙ ap (λ x. without_variables (declared_in x) (vars w)) c.current_stmt-x.ensures in
    λ t e. went_out p w c.complete_with.new.self t _ (ended p w t c.requires e) (c.complete_with.ensures p ∙ ap (λ vs. done_with p w vs (left_in p w.rank.procs w.top Inside)) u)
