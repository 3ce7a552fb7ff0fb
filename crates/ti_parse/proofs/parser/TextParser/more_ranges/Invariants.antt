use Rattle.std.proofs.Common.{◌≡◌, ◌-◌}
use Rattle.ti_syntax.specs.Trees.Views.{ranges_of}
use Rattle.ti_parse.specs.Mirrors.ParserParams.{language_params}
use Rattle.ti_parse.specs.Mirrors.Parts.{more_ranges}
use Rattle.ti_parse.proofs.parser.TextParser.more_ranges.Given as goal

abbrev pub invariant-loop-turn : goal.invariant-loop-turn
invariant-loop-turn l = more_ranges language_params l.self.fuel l.room (ranges_of l.fn.found) l.fn.tokens ≡ more_ranges language_params l.self.fuel (l.room - l._turn) (ranges_of l.found) l.tokens
