use Rattle.std.proofs.Common.{◌≡◌, ◌-◌, []}
use Rattle.ti_parse.specs.Mirrors.ParserParams.{language_params}
use Rattle.ti_parse.specs.Mirrors.Seen.{members_of}
use Rattle.ti_parse.specs.Mirrors.Classes.{members}
use Rattle.ti_parse.proofs.parser.TextParser.members.Given as goal

abbrev pub invariant-loop-turn : goal.invariant-loop-turn
invariant-loop-turn l = members language_params l.self.fuel l.self.fuel [] l.fn.tokens ≡ members language_params l.self.fuel (l._turn-end - l._turn) (members_of l.found) l.tokens
