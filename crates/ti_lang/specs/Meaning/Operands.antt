-- The operands of a binary operator, promoted to a common type, and helpers for its result.
use Rattle.std.specs.Prelude.{ℕ, ◌^◌, nat_lt, ℤ, pos, Bool, true, false, ◌&&◌, ◌||◌, ◌==◌, if◌then◌else◌, List, [], ◌∷◌, Option, Some, None}
use Rattle.std.specs.Int.{Width, w32, w64}
use mir.Val.{bits}
use Rattle.ti_base.specs.declared.point.Point.{Point}
use Rattle.ti_base.specs.declared.point.Rect.{Rect}
use Rattle.ti_base.specs.declared.value.Id.{Id}
use Rattle.ti_base.specs.declared.value.Value.{Value}
use Rattle.ti_base.specs.declared.value.Value.TheVariants as v
use Rattle.ti_base.specs.WholeNumbers.{modulo, wrap}
use Rattle.ti_base.specs.PointSets.{same_point}
use Rattle.ti_lang.specs.Meaning.Held.{Held, Plain, Dm}

-- two operands of one type: integers of a width, booleans, points, rectangular domains, domains that aren't both rectangular,
-- references, regions
pub data Operands : Type 0 where
  Wholes : (w : Width) (a b : ℤ) → Operands
  Truths : (a b : Bool) → Operands
  Points : (p q : Point) → Operands
  Rects : (r s : Rect) → Operands
  Domains : Operands
  Things : (a b : Option Id) → Operands
  Regions : (a b : ℕ) → Operands
  -- anything else; doesn't occur in a program that breaks no rule
  Others : Operands

-- two cell values: an int with a long is promoted to long; points, and rectangular domains, must have the same dimension
abbrev pub plain_operands : Value → Value → Operands
plain_operands (v.Int a) (v.Int b) = Wholes w32 a b
plain_operands (v.Int a) (v.Long b) = Wholes w64 a b
plain_operands (v.Long a) (v.Int b) = Wholes w64 a b
plain_operands (v.Long a) (v.Long b) = Wholes w64 a b
plain_operands (v.Bool a) (v.Bool b) = Truths a b
plain_operands (v.Pt p) (v.Pt q) = if p.dim == q.dim then Points p q else Others
plain_operands (v.Rc r) (v.Rc s) = if r.dim == s.dim then Rects r s else Others
plain_operands (v.Obj a) (v.Obj b) = Things a b
plain_operands (v.Obj a) (v.Grid b) = Things a b
plain_operands (v.Grid a) (v.Obj b) = Things a b
plain_operands (v.Grid a) (v.Grid b) = Things a b
plain_operands (v.Region a) (v.Region b) = Regions a b
plain_operands x y = Others

-- the dimension of a domain, rectangular or not; None for other values
abbrev pub held_dim : Held → Option ℕ
held_dim (Plain (v.Rc r)) = Some r.dim
held_dim (Dm dim points) = Some dim
held_dim h = None

-- both are there and equal
abbrev pub same_dim : Option ℕ → Option ℕ → Bool
same_dim (Some n) (Some m) = n == m
same_dim n m = false

-- two operands; domains must have the same dimension
abbrev pub operands : Held → Held → Operands
operands (Plain x) (Plain y) = plain_operands x y
operands x y = if same_dim (held_dim x) (held_dim y) then Domains else Others

-- ---- results

-- an integer of a width
abbrev pub number : Width → ℤ → Held
number w32 n = Plain (v.Int n)
number w n = Plain (v.Long n)

-- a bitwise operator on two integers, by their two's complement
abbrev pub on_bits : (ℕ → ℕ → ℕ) → Width → ℤ → ℤ → ℤ
on_bits f w a b = wrap w (pos (f (modulo a (2 ^ bits w)) (modulo b (2 ^ bits w))))

-- both are `null`, or both refer to the same object or grid
abbrev pub same_thing : Option Id → Option Id → Bool
same_thing None None = true
same_thing None (Some b) = false
same_thing (Some a) None = false
same_thing (Some a) (Some b) = a.maker == b.maker && a.serial == b.serial

-- equal lists of points
abbrev pub same_points : List Point → List Point → Bool
same_points [] [] = true
same_points [] (q ∷ qs) = false
same_points (p ∷ ps) [] = false
same_points (p ∷ ps) (q ∷ qs) = same_point p q && same_points ps qs

-- a test that holds in each coordinate in use
abbrev pub in_each : (ℤ → ℤ → Bool) → Point → Point → Bool
in_each test p q = test p.x1 q.x1 && (nat_lt p.dim 2 || test p.x2 q.x2) && (nat_lt p.dim 3 || test p.x3 q.x3)
