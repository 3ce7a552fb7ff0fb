use Rattle.std.proofs.Common.{◌≡◌, map, drop}
use Rattle.clap.specs.Words.{app_of}
use Rattle.ti_words.specs.Mirrors.Command.{with_flags}
use Rattle.ti_words.proofs.arguments.with_flags.Given as goal

abbrev pub invariant-loop-name : goal.invariant-loop-name
invariant-loop-name l =
    with_flags l.has_value (app_of l.command) (map (λ s. s.now) (drop l.name-index l.names)) ≡ with_flags l.has_value (app_of l.fn.command) (map (λ s. s.now) l.names)
