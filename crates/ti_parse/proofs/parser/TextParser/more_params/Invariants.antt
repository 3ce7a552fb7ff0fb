use Rattle.std.proofs.Common.{◌≡◌, ◌-◌, []}
use Rattle.ti_parse.specs.Mirrors.ParserParams.{language_params}
use Rattle.ti_parse.specs.Mirrors.Seen.{param_list_of}
use Rattle.ti_parse.specs.Mirrors.Classes.{more_params}
use Rattle.ti_parse.proofs.parser.TextParser.more_params.Given as goal

abbrev pub invariant-loop-turn : goal.invariant-loop-turn
invariant-loop-turn l = more_params language_params l.self.fuel l.self.fuel [] l.fn.tokens ≡ more_params language_params l.self.fuel (l._turn-end - l._turn) (param_list_of l.found) l.tokens
