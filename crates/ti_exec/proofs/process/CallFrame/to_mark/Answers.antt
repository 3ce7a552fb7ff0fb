use Rattle.std.proofs.Common.{◌≡◌, ◌∙◌, sym, true, rules}
use Rattle.ti_lang.specs.Program.Views.{program_of}
use Rattle.ti_exec.specs.Marks.{is_mark}
use Rattle.ti_exec.proofs.Marks.{level_left, left_at_mark, variables_there}
use Rattle.ti_exec.proofs.process.CallFrame.to_mark.Goals as goal

pub passes-left-requires-clause-inner : goal.passes-left-requires-clause-inner
passes-left-requires-clause-inner c = level_left (program_of c.args.program.now) c.args.self.now c.up.self c.up.left c.requires (c.up.invariant.left 0)

pub returns-clause-inner : goal.returns-clause-inner
returns-clause-inner c = level_left (program_of c.args.program.now) c.args.self.now c.up.self c.up.left c.requires (c.up.invariant.left 0)

pub returns-clause-left : goal.returns-clause-left
returns-clause-left c =
    let h = level_left (program_of c.args.program.now) c.args.self.now c.up.self c.up.left c.requires (c.up.invariant.left 0) in
    let m : is_mark c.up.left ≡ true = search rules in
    λ procs. sym (left_at_mark _ _ c.up.self.levels.items c.up.left h m) ∙ c.up.invariant.left procs

pub returns-clause-variables : goal.returns-clause-variables
returns-clause-variables c =
    let h = level_left (program_of c.args.program.now) c.args.self.now c.up.self c.up.left c.requires (c.up.invariant.left 0) in
    let m : is_mark c.up.left ≡ true = search rules in
    λ procs. sym (variables_there _ _ c.up.self.levels.items c.up.left _ h m) ∙ c.up.invariant.variables procs
