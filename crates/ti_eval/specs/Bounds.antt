-- What contracts see of bounds in the code.
use Rattle.ti_lang.specs.Meaning.Literals as literal
use Rattle.ti_eval.specs.declared.bounds.Bounds.{Bounds}

abbrev pub bounds_of : Bounds → literal.Bounds
bounds_of b = record { low = b.low.items; high = b.high.items; step = b.step.items }
