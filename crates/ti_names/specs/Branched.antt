-- The resolved `if` statement with an optional `else`.
use Rattle.ti_base.specs.declared.place.Place.{Place}
use Rattle.ti_lang.specs.Program.Expressions.{NumberedExp}
use Rattle.ti_lang.specs.Program.Statements.{NumberedStm, MaybeNumbered}
use Rattle.ti_lang.specs.Program.Statements as m

-- the `if` statement with these parts
abbrev pub numbered_branches : Place → NumberedExp → NumberedStm → MaybeNumbered → NumberedStm
numbered_branches at c x m.NoStm = m.If at c x
numbered_branches at c x (m.SomeStm y) = m.IfElse at c x y
