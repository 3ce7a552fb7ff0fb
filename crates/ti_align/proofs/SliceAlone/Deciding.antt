-- Whether an outcome fits a departure can be told.
use Rattle.std.proofs.Common.{◌≡◌, ℕ, ◌<◌, ◌≤◌, ◌^◌, nat_lt, nat_le, leb-true, le-leb, ◌==◌, ℤ, pos, neg_ℤ, ◌≤ℤ◌, ◌<ℤ◌, int_le, int_lt, Bool, true, false, ◌&&◌, Option, Some, None, is_some, refl, sym, subst, arith}
use Rattle.std.specs.Bool.{Decides}
use mir.Val.{hbits}
use Rattle.std.specs.Int.{Width, w32, w64}
use Rattle.std.proofs.lemmas.Bool.Decides.{Decides-eqb, Decides-ltb, Decides-like, Decides-and}
use Rattle.std.proofs.lemmas.Int.{ints}
use Rattle.ti_base.specs.declared.point.Point.{Point}
use Rattle.ti_base.specs.declared.point.Rect.{Rect}
use Rattle.ti_base.specs.declared.value.Id.{Id}
use Rattle.ti_base.specs.declared.value.Value.{Value}
use Rattle.ti_base.specs.declared.value.Value.TheVariants as v
use Rattle.ti_base.specs.declared.entry.Answer.{Answer}
use Rattle.ti_base.specs.declared.entry.Answer.TheVariants.{Done, Val}
use Rattle.ti_base.specs.WholeNumbers.{Fits}
use Rattle.ti_base.specs.Points.{IsDim, HasCoordinates}
use Rattle.ti_base.specs.Forms.{is_dim, is_point, is_rect}
use Rattle.ti_base.proofs.Lemmas.{is_point_decides, is_rect_decides}
use Rattle.ti_lang.specs.Program.Types.{ValueType}
use Rattle.ti_lang.specs.Program.Types as t
use Rattle.ti_lang.specs.Meaning.Comp.{Wanted, ToBeDone, ValueOf, NewThing}
use Rattle.ti_base.specs.Cells.{named_by}
use Rattle.ti_lang.specs.Meaning.Answers.{IsCount, IsPointOf, IsRectOf, IsName, HasForm, FitsWanted}
use Rattle.ti_align.proofs.Runs.Vars.{true_false}

-- ---- numbers

le_decides : (a b : ℤ) → Decides (int_le a b) (a ≤ℤ b)
le_decides a b = (λ e. grind (arith, ints), λ h. grind (arith, ints))

lt_decides : (a b : ℤ) → Decides (int_lt a b) (a <ℤ b)
lt_decides a b = (λ e. grind (arith, ints), λ h. grind (arith, ints))

nat_le_decides : (a b : ℕ) → Decides (nat_le a b) (a ≤ b)
nat_le_decides a b = (leb-true a b, le-leb a b)

-- a number of so many bits
abbrev pub in_width : Width → ℤ → Bool
in_width w n = int_le (neg_ℤ (pos (2 ^ hbits w))) n && int_lt n (pos (2 ^ hbits w))

in_width_decides : (w : Width) (n : ℤ) → Decides (in_width w n) (Fits w n)
in_width_decides w n = Decides-and (int_le (neg_ℤ (pos (2 ^ hbits w))) n) (int_lt n (pos (2 ^ hbits w))) (le_decides _ n) (lt_decides n _)

-- ---- points

is_dim_decides : (n : ℕ) → Decides (is_dim n) (IsDim n)
is_dim_decides n = Decides-and (nat_le 1 n) (nat_le n 3) (nat_le_decides 1 n) (nat_le_decides n 3)

abbrev has_coordinates : Point → Bool
has_coordinates p = in_width w32 p.x1 && (in_width w32 p.x2 && in_width w32 p.x3)

has_coordinates_decides : (p : Point) → Decides (has_coordinates p) (HasCoordinates p)
has_coordinates_decides p =
    Decides-like (has_coordinates p) (λ h. (h.0, h.1.0, h.1.1)) (λ (k : HasCoordinates p). (k.0, (k.1, k.2)))
    (Decides-and (in_width w32 p.x1) (in_width w32 p.x2 && in_width w32 p.x3) (in_width_decides w32 p.x1)
    (Decides-and (in_width w32 p.x2) (in_width w32 p.x3) (in_width_decides w32 p.x2) (in_width_decides w32 p.x3)))

abbrev is_point_of : ℕ → Point → Bool
is_point_of n p = is_point p && (p.dim == n && has_coordinates p)

is_point_of_decides : (n : ℕ) (p : Point) → Decides (is_point_of n p) (IsPointOf n p)
is_point_of_decides n p =
    Decides-like (is_point_of n p) (λ h. record { form = h.0; dim_is = h.1.0; coordinates = h.1.1 }) (λ (k : IsPointOf n p). (k.form, (k.dim_is, k.coordinates)))
    (Decides-and (is_point p) (p.dim == n && has_coordinates p) (is_point_decides p)
    (Decides-and (p.dim == n) (has_coordinates p) (Decides-eqb p.dim n) (has_coordinates_decides p)))

-- ---- rectangular domains

abbrev is_rect_of : ℕ → Rect → Bool
is_rect_of n r = is_rect r && (r.dim == n && (is_point_of n r.lo && is_point_of n r.hi))

is_rect_of_decides : (n : ℕ) (r : Rect) → Decides (is_rect_of n r) (IsRectOf n r)
is_rect_of_decides n r =
    Decides-like (is_rect_of n r) (λ h. record { form = h.0; dim_is = h.1.0; low = h.1.1.0; high = h.1.1.1 }) (λ (k : IsRectOf n r). (k.form, (k.dim_is, (k.low, k.high))))
    (Decides-and (is_rect r) (r.dim == n && (is_point_of n r.lo && is_point_of n r.hi)) (is_rect_decides r)
    (Decides-and (r.dim == n) (is_point_of n r.lo && is_point_of n r.hi) (Decides-eqb r.dim n)
    (Decides-and (is_point_of n r.lo) (is_point_of n r.hi) (is_point_of_decides n r.lo) (is_point_of_decides n r.hi))))

-- ---- names

abbrev is_count : ℕ → Bool
is_count n = nat_lt n (2 ^ 32)

is_count_decides : (n : ℕ) → Decides (is_count n) (IsCount n)
is_count_decides n = Decides-ltb n (2 ^ 32)

abbrev is_name : Option Id → Bool
is_name None = true
is_name (Some id) = is_count id.maker && (is_count id.serial && (is_count id.owner && is_count id.region))

is_name_decides : (o : Option Id) → Decides (is_name o) (IsName o)
is_name_decides None = (λ e. tt, λ k. refl)
is_name_decides (Some id) =
    Decides-like (is_name (Some id)) (λ h. (h.0, h.1.0, h.1.1.0, h.1.1.1)) (λ (k : IsName (Some id)). (k.0, (k.1, (k.2, k.3))))
    (Decides-and (is_count id.maker) (is_count id.serial && (is_count id.owner && is_count id.region)) (is_count_decides id.maker)
    (Decides-and (is_count id.serial) (is_count id.owner && is_count id.region) (is_count_decides id.serial)
    (Decides-and (is_count id.owner) (is_count id.region) (is_count_decides id.owner) (is_count_decides id.region))))

-- ---- values and answers

-- whether a value has the form of a type
abbrev pub has_form : ValueType → Value → Bool
has_form t.Int (v.Int n) = in_width w32 n
has_form t.Long (v.Long n) = in_width w64 n
has_form t.Boolean (v.Bool b) = true
has_form (t.Pt dim) (v.Pt p) = is_point_of dim p
has_form (t.Rc dim) (v.Rc r) = is_rect_of dim r
has_form t.Region (v.Region n) = is_count n
has_form (t.Class class is_local) (v.Obj id) = is_name id
has_form (t.Grid element dim is_local) (v.Grid id) = is_name id
has_form type value = false

never : Decides false ⊥
never = (λ e. true_false (sym e), λ k. absurd k)

pub has_form_decides : (type : ValueType) (value : Value) → Decides (has_form type value) (HasForm type value)
has_form_decides t.Int (v.Int n) = in_width_decides w32 n
has_form_decides t.Long (v.Long n) = in_width_decides w64 n
has_form_decides t.Boolean (v.Bool b) = (λ e. tt, λ k. refl)
has_form_decides (t.Pt dim) (v.Pt p) = is_point_of_decides dim p
has_form_decides (t.Rc dim) (v.Rc r) = is_rect_of_decides dim r
has_form_decides t.Region (v.Region n) = is_count_decides n
has_form_decides (t.Class class is_local) (v.Obj id) = is_name_decides id
has_form_decides (t.Grid element dim is_local) (v.Grid id) = is_name_decides id
has_form_decides type value = never

-- whether an answer fits what is asked for
abbrev pub fits_wanted : Wanted → Answer → Bool
fits_wanted ToBeDone Done = true
fits_wanted (ValueOf type) (Val value) = has_form type value
fits_wanted (NewThing type) (Val value) = has_form type value && is_some (named_by value)
fits_wanted wanted r = false

val_done : (value : Value) → Val value ≡ Done → ⊥
val_done value e = cc

done_val : (value : Value) → Done ≡ Val value → ⊥
done_val value e = cc

value_same : (a b : Value) → Val a ≡ Val b → a ≡ b
value_same a b e = cc

truth_decides : (b : Bool) → Decides b (b ≡ true)
truth_decides b = (λ e. e, λ e. e)

pub fits_decides : (wanted : Wanted) (r : Answer) → Decides (fits_wanted wanted r) (FitsWanted wanted r)
fits_decides ToBeDone Done = (λ e. refl, λ k. refl)
fits_decides ToBeDone (Val value) = (λ e. absurd (true_false (sym e)), λ k. absurd (val_done value k))
fits_decides (ValueOf type) Done = (λ e. absurd (true_false (sym e)), λ k. absurd (done_val k.0 k.1))
fits_decides (ValueOf type) (Val value) =
    Decides-like (has_form type value) (λ h. (value, refl, h)) (λ (k : FitsWanted (ValueOf type) (Val value)). subst (HasForm type) (sym (value_same _ _ k.1)) k.2) (has_form_decides type value)
fits_decides (NewThing type) Done = (λ e. absurd (true_false (sym e)), λ k. absurd (done_val k.0 k.1))
fits_decides (NewThing type) (Val value) =
    Decides-like (has_form type value && is_some (named_by value)) (λ h. (value, refl, h.0, h.1))
    (λ (k : FitsWanted (NewThing type) (Val value)). let e = sym (value_same _ _ k.1) in (subst (HasForm type) e k.2, subst (λ z. is_some (named_by z) ≡ true) e k.3))
    (Decides-and (has_form type value) (is_some (named_by value)) (has_form_decides type value) (truth_decides (is_some (named_by value))))
