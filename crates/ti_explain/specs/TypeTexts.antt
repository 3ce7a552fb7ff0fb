-- How a type is written in a program.
use Rattle.std.specs.Prelude.{ℕ, Bool, ◌==◌, if◌then◌else◌, List, [], ◌++◌, slice_get, codes}
use Rattle.std.specs.Option.{option_map_or}
use Rattle.ti_syntax.specs.Trees.Classes.{ClassTree, TextTree}
use Rattle.ti_lang.specs.Program.Types.{ValueType, Int, Long, Boolean, Pt, Rc, Dm, Region, Class, Grid, Null, Void}

-- a number of dimensions: a type of a program has one to three
abbrev pub dims_text : ℕ → List ℕ
dims_text n = if n == 1 then codes "1" else if n == 2 then codes "2" else if n == 3 then codes "3" else codes "N"

-- the qualifier of a local reference; a global one has none
abbrev pub local_text : Bool → List ℕ
local_text is_local = if is_local then codes " local" else []

-- the name of the class of this number; none if there is no such class
abbrev pub class_name : TextTree → ℕ → List ℕ
class_name text class = option_map_or (λ (c : ClassTree). c.name) (slice_get text class) []

-- a type without the brackets of grids
abbrev pub base_text : TextTree → ValueType → List ℕ
base_text text Int = codes "int"
base_text text Long = codes "long"
base_text text Boolean = codes "boolean"
base_text text (Pt n) = codes "Point<" ++ (dims_text n ++ codes ">")
base_text text (Rc n) = codes "RectDomain<" ++ (dims_text n ++ codes ">")
base_text text (Dm n) = codes "Domain<" ++ (dims_text n ++ codes ">")
base_text text Region = codes "SharedRegion"
base_text text (Class c is_local) = class_name text c ++ local_text is_local
base_text text (Grid t n is_local) = base_text text t
base_text text Null = codes "null"
base_text text Void = codes "void"

-- the brackets of grids, the outermost first
abbrev pub brackets_text : ValueType → List ℕ
brackets_text (Grid t n is_local) = codes " [" ++ (dims_text n ++ (codes "d]" ++ (local_text is_local ++ brackets_text t)))
brackets_text t = []

-- a type as it is written
abbrev pub type_text : TextTree → ValueType → List ℕ
type_text text t = base_text text t ++ brackets_text t
