use Rattle.std.proofs.Common.{◌≡◌, ◌-◌, []}
use Rattle.ti_parse.specs.Mirrors.ParserParams.{language_params}
use Rattle.ti_parse.specs.Mirrors.Seen.{modifiers_of, modifier_word_of}
use Rattle.ti_parse.specs.Mirrors.Classes.{modifiers}
use Rattle.ti_parse.proofs.parser.TextParser.modifiers.Given as goal

abbrev pub invariant-loop-turn : goal.invariant-loop-turn
invariant-loop-turn l = modifiers language_params l.fn.self.fuel (modifier_word_of l.modified) l.fn.self.fuel [] l.fn.tokens
    ≡ modifiers language_params l.fn.self.fuel (modifier_word_of l.modified) (l._turn-end - l._turn) (modifiers_of l.found) l.tokens
