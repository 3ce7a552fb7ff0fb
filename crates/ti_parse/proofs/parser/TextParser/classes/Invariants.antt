use Rattle.std.proofs.Common.{◌≡◌, ◌-◌, []}
use Rattle.ti_parse.specs.Mirrors.ParserParams.{language_params}
use Rattle.ti_parse.specs.Mirrors.Seen.{classes_of}
use Rattle.ti_parse.specs.Mirrors.Classes.{classes}
use Rattle.ti_parse.proofs.parser.TextParser.classes.Given as goal

abbrev pub invariant-loop-turn : goal.invariant-loop-turn
invariant-loop-turn l = classes language_params l.self.fuel l.self.fuel [] l.fn.tokens ≡ classes language_params l.self.fuel (l._turn-end - l._turn) (classes_of l.found) l.tokens
