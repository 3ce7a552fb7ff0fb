use Rattle.std.proofs.Common.{true, ap, sym, ◌∙◌}
use Rattle.ti_lang.specs.Program.Scope.{contents_of}
use Rattle.ti_lang.specs.Program.Views.{statement_of}
use Rattle.ti_lang.specs.Typing.Effects.{Doings}
use Rattle.ti_rules.specs.Mirrors.First.{earliest}
use Rattle.ti_check.specs.Mirrors.Contexts.{program_at, around_of}
use Rattle.ti_check.proofs.Where.{single_alike}
use Rattle.ti_check.proofs.context.CheckContext.single_jumping.Goals as goal

pub returns-else-own : goal.returns-else-own
returns-else-own c =
    let p = program_at c.args.self in
    c.requires.single
    ∙ sym (ap earliest (single_alike p (around_of c.args.self).method (contents_of c.args.self.scope.now).variables c.args.self.is_in_loop true (statement_of c.args.stmt.now)
    (sym (ap (λ (d : Doings). d.jumps) c.requires.own) ∙ c.if-own.false)))
