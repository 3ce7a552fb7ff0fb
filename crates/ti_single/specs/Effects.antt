-- The model of an effect summary.
use Rattle.ti_lang.specs.Typing.Effects.{Doings as DoingsSeen}
use Rattle.ti_single.specs.declared.statements.Effects.{Effects}

-- the effect summary with the same flags
abbrev pub effects_of : Effects → DoingsSeen
effects_of d = record { acts = d.acts; returns = d.returns; jumps = d.jumps }
