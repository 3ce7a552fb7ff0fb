use Rattle.ti_lang.specs.Program.Views.{program_of, statement_of, numbered_method_of}
use Rattle.ti_slice.proofs.Effects.{acts_in_call, nothing_there, none_here}
use Rattle.ti_slice.proofs.acts.work_acts.Goals as goal

pub returns-in-Some-current_stmt : goal.returns-in-Some-current_stmt
returns-in-Some-current_stmt c =
    acts_in_call (program_of c.args.checked.now.program.parts) c.args.call.now c.args.resume.now (numbered_method_of c.in-Some.m.now)
    (statement_of c.in-Some-current_stmt.x.now) c.acts_at.result c.in-Some.ensures c.in-Some-current_stmt.ensures
    c.requires.inner (rw c.deref.ensures.value at c.acts_at.ensures)

pub returns-in-None-current_stmt : goal.returns-in-None-current_stmt
returns-in-None-current_stmt c = nothing_there (program_of c.args.checked.now.program.parts) c.args.call.now c.args.resume.now c.in-None-current_stmt.ensures c.requires.inner c.requires.at_hand

pub returns-in-None : goal.returns-in-None
returns-in-None c =
    let p = program_of c.args.checked.now.program.parts in
    nothing_there p c.args.call.now c.args.resume.now (none_here p c.args.call.now c.in-None.ensures c.requires.inner) c.requires.inner c.requires.at_hand
