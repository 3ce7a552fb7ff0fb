use Rattle.std.proofs.Common.{◌≡◌, ◌-◌, []}
use Rattle.ti_syntax.specs.Trees.Views.{stms_of}
use Rattle.ti_parse.specs.Mirrors.ParserParams.{language_params}
use Rattle.ti_parse.specs.Mirrors.Statements.{stmt, items}
use Rattle.ti_parse.proofs.stmts.Statements.items.Given as goal

abbrev pub invariant-loop-turn : goal.invariant-loop-turn
invariant-loop-turn g l = items language_params l.self.parser.fuel (stmt language_params l.self.parser.fuel l.self.levels) l.self.parser.fuel [] l.fn.tokens
    ≡ items language_params l.self.parser.fuel (stmt language_params l.self.parser.fuel l.self.levels) (l._turn-end - l._turn) (stms_of l.found) l.tokens
