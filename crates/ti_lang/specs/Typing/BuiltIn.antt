-- The built-in members of domains, grids and regions, and their types.
use Rattle.std.specs.Prelude.{ℕ, ◌-◌, Bool, false, not, ◌&&◌, ◌||◌, ◌==◌, nat_lt, if◌then◌else◌, List, [], ◌∷◌, Option, Some, None, slice_get, option_and_then, bytes_eq, codes}
use Rattle.ti_lang.specs.Program.Types.{ValueType, Int, Boolean, Pt, Rc, Dm, Region, Grid, Void}
use Rattle.ti_lang.specs.Program.Classes.{ProgramView}
use Rattle.ti_lang.specs.Typing.Kinds.{where_true, same_type, is_local}
use Rattle.ti_lang.specs.Typing.Fits.{fits}

-- a built-in member
pub data BuiltIn : Type 0 where
  Size : BuiltIn
  Min : BuiltIn
  Max : BuiltIn
  Contains : BuiltIn
  Domain : BuiltIn
  Restrict : BuiltIn
  Translate : BuiltIn
  Slice : BuiltIn
  Copy : BuiltIn
  Exchange : BuiltIn
  Delete : BuiltIn

-- the built-in member of this name
abbrev pub built_in_named : List ℕ → Option BuiltIn
built_in_named name =
    if bytes_eq name (codes "size") then Some Size else
    if bytes_eq name (codes "min") then Some Min else
    if bytes_eq name (codes "max") then Some Max else
    if bytes_eq name (codes "contains") then Some Contains else
    if bytes_eq name (codes "domain") then Some Domain else
    if bytes_eq name (codes "restrict") then Some Restrict else
    if bytes_eq name (codes "translate") then Some Translate else
    if bytes_eq name (codes "slice") then Some Slice else
    if bytes_eq name (codes "copy") then Some Copy else
    if bytes_eq name (codes "exchange") then Some Exchange else
    if bytes_eq name (codes "delete") then Some Delete else None

-- the built-in member whose name has this number in the program
unfoldable pub built_in : ProgramView → ℕ → Option BuiltIn
built_in p name = option_and_then built_in_named (slice_get p.names name)

-- both are grids, with the same element type and dimension, local or not
abbrev pub same_grids : ValueType → ValueType → Bool
same_grids (Grid t n local) (Grid u m global) = same_type t u && (n == m)
same_grids _ _ = false

-- the elements of the grid are local references
abbrev pub has_local_elements : ValueType → Bool
has_local_elements (Grid t n local) = is_local t
has_local_elements _ = false

-- a copy can be made: if the elements are local references, both grids must be local
abbrev pub can_copy : ValueType → ValueType → Bool
can_copy t u = not (has_local_elements t) || (is_local t && is_local u)

-- a one-dimensional grid can store values of this type in an exchange
abbrev pub can_exchange : ValueType → ValueType → Bool
can_exchange (Grid t n local) u = (n == 1) && fits u t
can_exchange _ _ = false

-- the result type of a member, for a receiver and arguments of these types; None if they are wrong
abbrev pub member_type : BuiltIn → ValueType → List ValueType → Option ValueType
member_type Size (Rc n) [] = Some Int
member_type Size (Dm n) [] = Some Int
member_type Min (Rc n) [] = Some (Pt n)
member_type Max (Rc n) [] = Some (Pt n)
member_type Contains (Rc n) (Pt m ∷ []) = where_true (n == m) Boolean
member_type Contains (Dm n) (Pt m ∷ []) = where_true (n == m) Boolean
member_type Domain (Grid t n local) [] = Some (Rc n)
member_type Restrict (Grid t n local) (Rc m ∷ []) = where_true (n == m) (Grid t n local)
member_type Translate (Grid t n local) (Pt m ∷ []) = where_true (n == m) (Grid t n local)
member_type Slice (Grid t n local) (Int ∷ Int ∷ []) = where_true (nat_lt 1 n) (Grid t (n - 1) local)
member_type Copy t (u ∷ []) = where_true (same_grids t u && can_copy t u) Void
member_type Exchange t (u ∷ []) = where_true (can_exchange t u && not (has_local_elements t)) Void
member_type Delete Region [] = Some Void
member_type _ _ _ = None
