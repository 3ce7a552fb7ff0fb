-- Code whose instructions are well-formed.
use Rattle.std.specs.Prelude.{List, All}
use Rattle.ti_base.specs.declared.value.Value.{Value}
use Rattle.ti_base.specs.declared.value.Value.TheVariants as v
use Rattle.ti_base.specs.Points.{IsDim, IsPoint}
use Rattle.ti_base.specs.Rects.{IsRect}
use Rattle.ti_code.specs.declared.instr.Instr.{Instr}
use Rattle.ti_code.specs.declared.instr.Instr.TheVariants as i
use Rattle.ti_code.specs.declared.code.MethodCode.{MethodCode}

-- A point or a rectangular domain is canonical.
abbrev pub IsFormedValue : Value → Type 0
IsFormedValue (v.Pt p) = IsPoint p
IsFormedValue (v.Rc r) = IsRect r
IsFormedValue value = Unit {0}

-- A value in an instruction is canonical, and an empty domain has one to three dimensions.
abbrev pub IsFormedInstr : Instr → Type 0
IsFormedInstr (i.Const value) = IsFormedValue value
IsFormedInstr (i.EmptyDom dim) = IsDim dim
IsFormedInstr instr = Unit {0}

-- Each instruction of a method is well-formed.
abbrev pub IsFormedMethod : MethodCode → Type 0
IsFormedMethod m = All IsFormedInstr m.instrs

-- Each instruction of all methods is well-formed.
abbrev pub AreFormedMethods : List MethodCode → Type 0
AreFormedMethods methods = All IsFormedMethod methods
