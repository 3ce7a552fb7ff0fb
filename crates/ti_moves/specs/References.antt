-- What contracts see of the objects and grids to which values refer.
use Rattle.ti_base.specs.declared.value.Id.{Id}
use Rattle.ti_lang.specs.Program.Types.{ValueType}
use Rattle.ti_lang.specs.Meaning.Comp.{Reference}

-- A reference to an object or a grid, with the static type of the expression that yielded it.
abbrev pub typed_reference : ValueType → Id → Reference
typed_reference type id = record { thing = id; type = type }
