-- Types up to their numbers of dimensions, or up to the `local` of the reference itself.
use Rattle.std.specs.Prelude.{true}
use Rattle.ti_lang.specs.Program.Types.{ValueType, Pt, Rc, Dm, Class, Grid}

-- the type with each number of dimensions, also in element types, replaced by 1: two types agree in it if they differ in nothing but
-- these numbers
abbrev pub erase_dims : ValueType → ValueType
erase_dims (Pt n) = Pt 1
erase_dims (Rc n) = Rc 1
erase_dims (Dm n) = Dm 1
erase_dims (Grid t n local) = Grid (erase_dims t) 1 local
erase_dims t = t

-- the type with the reference itself made local
abbrev pub as_local : ValueType → ValueType
as_local (Class c local) = Class c true
as_local (Grid t n local) = Grid t n true
as_local t = t
