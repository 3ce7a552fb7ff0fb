use Rattle.std.proofs.Common.{ap, ◌∙◌, map}
use Rattle.ti_lang.specs.Program.Scope.{this_of}
use Rattle.ti_lang.specs.Program.Statements.{numbered_stms}
use Rattle.ti_lang.specs.Program.Views.{program_of, statement_of, numbered_method_of}
use Rattle.ti_lang.specs.Typing.Effects.{doings_of_all}
use Rattle.ti_single.proofs.statements.method_effects.Goals as goal

pub returns : goal.returns
returns c =
    let p = program_of c.args.program.now.parts in
    c.stmts_effects.ensures
    ∙ ap (λ this. doings_of_all p this (numbered_stms (map statement_of c.deref_stmts.result.now))) c.this_of.ensures
    ∙ ap (λ l. doings_of_all p (this_of (numbered_method_of c.args.method.now)) (numbered_stms (map statement_of l))) c.deref_stmts.ensures
