-- What contracts see of the values in src/, and which values are canonical.
use Rattle.ti_base.specs.declared.value.Value.{Value}
use Rattle.ti_base.specs.declared.value.Value.TheVariants as v
use Rattle.ti_base.specs.declared.entry.Answer.{Answer}
use Rattle.ti_base.specs.declared.entry.Answer.TheVariants.{Done, Val}
use Rattle.ti_base.specs.Points.{IsPoint}
use Rattle.ti_base.specs.Rects.{IsRect}
use Rattle.ti_domain.specs.declared.held.Held.{Held as Kept}
use Rattle.ti_domain.specs.declared.held.Held.TheVariants as kept
use Rattle.ti_lang.specs.Meaning.Held.{Held, Plain, Dm}

-- The value of a variable as the semantics sees it.
abbrev pub held_of : Kept → Held
held_of (kept.Plain value) = Plain value
held_of (kept.Dm d) = Dm d.dim d.points

-- A point or a rectangular domain is canonical.
abbrev pub IsFormedValue : Value → Type 0
IsFormedValue (v.Pt p) = IsPoint p
IsFormedValue (v.Rc r) = IsRect r
IsFormedValue value = Unit {0}

abbrev pub IsFormedHeld : Held → Type 0
IsFormedHeld (Plain value) = IsFormedValue value
IsFormedHeld (Dm dim points) = Unit {0}

abbrev pub IsFormedAnswer : Answer → Type 0
IsFormedAnswer (Val value) = IsFormedValue value
IsFormedAnswer Done = Unit {0}
