use Rattle.std.proofs.Common.{◌≡◌, ◌∙◌, ap, sym, true, false, rules}
use Rattle.ti_lang.specs.Program.Views.{program_of}
use Rattle.ti_lang.specs.Meaning.Steps.{To}
use Rattle.ti_exec.specs.Marks.{is_inside_loop}
use Rattle.ti_exec.proofs.Marks.{continues_on, continues_nowhere, jumped}
use Rattle.ti_exec.proofs.process.TreeMachine.continues.Goals as goal

pub returns-then-is_inside_loop : goal.returns-then-is_inside_loop
returns-then-is_inside_loop c =
    let p = program_of c.args.program.now in
    let w = c.args.self.now in
    let m = c.to_mark-mark in
    let h : is_inside_loop w.top.levels.items ≡ true = search rules in
    λ ws. continues_on p w ws h ∙ ap To (sym (jumped p w m.new.self _ _ _ _ _ m.ensures.method m.ensures.this (m.ensures.variables w.rank.procs) (m.ensures.left w.rank.procs) (c.complete_with.ensures p)))

pub returns-else-is_inside_loop : goal.returns-else-is_inside_loop
returns-else-is_inside_loop c =
    let p = program_of c.args.program.now in
    let w = c.args.self.now in
    let h : is_inside_loop w.top.levels.items ≡ false = search rules in
    λ ws. continues_nowhere p w ws h ∙ ap To (sym (c.complete_with-else-is_inside_loop.ensures p))
