-- Proves that the code of expressions, which only jumps forward, keeps the rule on jumps, by lemmas on pieces of code.
use Rattle.std.proofs.Common.{◌≡◌, ℕ, zero, suc, ◌+◌, ◌≤◌, Bool, true, false, if◌then◌else◌, IsTrue, nat_le, slice_get, drop, List, [], ◌∷◌, ◌++◌, Option, Some, None, refl, ap, ◌∙◌, arith}
use Rattle.std.proofs.lemmas.Bool.{false≢true, and_parts, and_from, lt-leb}
use Rattle.std.proofs.lemmas.List.{drop_more}
use Rattle.std.proofs.lemmas.Option.{slice_get_within, get_or_from_slice_get}
use Rattle.ti_base.specs.declared.place.Place.{Place}
use Rattle.ti_syntax.specs.declared.tree.exprs.UnaryOperator.{UnaryOperator}
use Rattle.ti_syntax.specs.declared.tree.exprs.UnaryOperator.TheVariants as un
use Rattle.ti_lang.specs.Program.Types.{ValueType, VariableUse}
use Rattle.ti_lang.specs.Program.Types as t
use Rattle.ti_lang.specs.Program.Expressions.{NumberedExp, NumberedExps, NumberedRange, NumberedRanges}
use Rattle.ti_lang.specs.Program.Expressions as e
use Rattle.ti_lang.specs.Program.Classes.{ProgramView}
use Rattle.ti_lang.specs.Typing.Kinds.{is_local, is_point_type}
use Rattle.ti_lang.specs.Typing.Called.{member_called}
use Rattle.ti_lang.specs.Typing.TextTypes.{syntactic_type, how_many}
use Rattle.ti_lang.specs.Meaning.Held.{Held, Plain, Dm}
use Rattle.ti_lang.specs.Meaning.Scoping.{zero_declared}
use Rattle.ti_code.specs.declared.instr.Instr.{Instr}
use Rattle.ti_code.specs.declared.instr.Operation.{Operation}
use Rattle.ti_code.specs.declared.instr.ValueMember.{ValueMember}
use Rattle.ti_code.specs.Leading.{CodeAt, pc_after}
use Rattle.ti_code.specs.JumpRule.{jump_target_of, takes_tick, no_jump_and, leads_to_tick, jump_fits, jumps_fit_from}
use Rattle.ti_lower_expr.specs.Slots.{Name, find_slot, has_this}
use Rattle.ti_lower_expr.specs.declared.kinds.OperandClass.{OperandClass}
use Rattle.ti_lower_expr.specs.declared.kinds.OperandClass.TheVariants.{Points}
use Rattle.ti_lower_expr.specs.declared.kinds.StaticRepr.{StaticRepr}
use Rattle.ti_lower_expr.specs.declared.kinds.StaticRepr.TheVariants as known
use Rattle.ti_lower_expr.specs.declared.kinds.ShortCircuit.{ShortCircuit}
use Rattle.ti_lower_expr.specs.declared.kinds.ShortCircuit.TheVariants.{Never, Where}
use Rattle.ti_lower_expr.specs.Knowing.{known_of}
use Rattle.ti_lower_expr.specs.Coding.{constant, load_variable, load_this, conversion, local_test, unary_code, operation_in, short_circuit_of, jump_where, lazy_code, operator_code, pops, kind_code, shown_member, index_code, rect_instr, how_many_ranges, kind_of_ranges, code_of, code_of_all, code_of_range, code_of_ranges}
use Rattle.ti_lower_expr.proofs.Doing.{front_stands, rest_stands}

-- ---- code without jumps

-- none of these instructions is a jump
abbrev pub jumpless : List Instr → Bool
jumpless [] = true
jumpless (x ∷ xs) = no_jump_and (jump_target_of x) (jumpless xs)

no_jump_parts : (o : Option ℕ) (more : Bool) → no_jump_and o more ≡ true → (o ≡ None) × (more ≡ true)
no_jump_parts None more e = (refl, e)
no_jump_parts (Some target) more e = absurd (false≢true e)

-- ---- pieces of code

pub behind_more : (at : ℕ) (is : List Instr) → at ≤ pc_after at is
behind_more at [] = omega arith
behind_more at (x ∷ is) = omega (arith, behind_more (at + 1) is)

-- where this piece of code stands in all the code, its jumps keep the rule
pub record Fits (all : List Instr) (at : ℕ) (is : List Instr) : Type 0 where
  pub keeps : CodeAt all at is → IsTrue (jumps_fit_from all at is)

module _ (all : List Instr) where
  jumps_both : (at : ℕ) (xs ys : List Instr) → IsTrue (jumps_fit_from all at xs) → IsTrue (jumps_fit_from all (pc_after at xs) ys) → IsTrue (jumps_fit_from all at (xs ++ ys))
  jumps_both at [] ys f g = g
  jumps_both at (x ∷ xs) ys f g =
      let parts = and_parts (jump_fits all at (jump_target_of x)) (jumps_fit_from all (at + 1) xs) f in
      and_from (jump_fits all at (jump_target_of x)) (jumps_fit_from all (at + 1) (xs ++ ys)) parts.0 (jumps_both (at + 1) xs ys parts.1 g)

  jumps_none : (at : ℕ) (xs : List Instr) → IsTrue (jumpless xs) → IsTrue (jumps_fit_from all at xs)
  jumps_none at [] e = refl
  jumps_none at (x ∷ xs) e =
      let parts = no_jump_parts (jump_target_of x) (jumpless xs) e in
      and_from (jump_fits all at (jump_target_of x)) (jumps_fit_from all (at + 1) xs) (ap (jump_fits all at) parts.0) (jumps_none (at + 1) xs parts.1)

  first_fits : (at : ℕ) (x : Instr) (xs : List Instr) → jump_fits all at (jump_target_of x) ≡ true → Fits all (at + 1) xs → Fits all at (x ∷ xs)
  first_fits at x xs e f = record { keeps = λ st. and_from (jump_fits all at (jump_target_of x)) (jumps_fit_from all (at + 1) xs) e (f.keeps st.1) }

  forward : (at target : ℕ) → at + 1 ≤ target → jump_fits all at (Some target) ≡ true
  forward at target l = ap (λ b. if b then leads_to_tick (drop target all) else true) (lt-leb target at (omega (arith, l)))

  back : (at target : ℕ) → leads_to_tick (drop target all) ≡ true → jump_fits all at (Some target) ≡ true
  back at target e = either (nat_le target at) (leads_to_tick (drop target all)) e
    where
      either : (b more : Bool) → more ≡ true → (if b then more else true) ≡ true
      either true more e = e
      either false more e = refl

module _ {all : List Instr} where
  pub fits_jumpless : {at : ℕ} {is : List Instr} → IsTrue (jumpless is) → Fits all at is
  fits_jumpless {at} {is} e = record { keeps = λ st. jumps_none all at is e }

  pub fits_both : {at : ℕ} {xs ys : List Instr} → Fits all at xs → Fits all (pc_after at xs) ys → Fits all at (xs ++ ys)
  fits_both {at} {xs} {ys} f g = record { keeps = λ st. jumps_both all at xs ys (f.keeps (front_stands all at xs ys st)) (g.keeps (rest_stands all at xs ys st)) }

  -- an instruction that is no jump comes first
  pub fits_next : {at : ℕ} {x : Instr} {xs : List Instr} → jump_target_of x ≡ None → Fits all (at + 1) xs → Fits all at (x ∷ xs)
  fits_next {at} {x} {xs} n f = first_fits all at x xs (ap (jump_fits all at) n) f

  -- a jump that leads forward
  pub fits_forward : {at target : ℕ} {x : Instr} {xs : List Instr} → jump_target_of x ≡ Some target → at + 1 ≤ target → Fits all (at + 1) xs → Fits all at (x ∷ xs)
  fits_forward {at} {target} {x} {xs} n l f = first_fits all at x xs (ap (jump_fits all at) n ∙ forward all at target l) f

  -- a jump to where a tick follows
  pub fits_back : {at target : ℕ} {x : Instr} {xs : List Instr} → jump_target_of x ≡ Some target → IsTrue (leads_to_tick (drop target all)) → Fits all (at + 1) xs → Fits all at (x ∷ xs)
  fits_back {at} {target} {x} {xs} n e f = first_fits all at x xs (ap (jump_fits all at) n ∙ back all at target e) f

  -- a piece that may count on standing there
  pub fits_standing : {at : ℕ} {is : List Instr} → (CodeAt all at is → Fits all at is) → Fits all at is
  fits_standing f = record { keeps = λ st. (f st).keeps st }

-- ---- where a tick follows

-- the instruction there is the first of those from there on
drop_there : (all : List Instr) (at : ℕ) (x : Instr) → slice_get all at ≡ Some x → drop at all ≡ x ∷ drop (at + 1) all
drop_there all at x e = drop_more all at x (slice_get_within all at x e) ∙ ap (λ y. y ∷ drop (at + 1) all) (get_or_from_slice_get all at x x e)

tick_more : (tick : Bool) (o : Option ℕ) (less more : Bool) → (less ≡ true → more ≡ true)
    → (if tick then true else no_jump_and o less) ≡ true → (if tick then true else no_jump_and o more) ≡ true
tick_more true o less more f e = refl
tick_more false o less more f e =
    let parts = no_jump_parts o less e in
    ap (λ o. no_jump_and o more) parts.0 ∙ f parts.1

-- one of these instructions takes a tick, and none before it is a jump
abbrev pub ticks : List Instr → Bool
ticks [] = false
ticks (x ∷ xs) = if takes_tick x then true else no_jump_and (jump_target_of x) (ticks xs)

-- the tick that these take follows where they stand
pub tick_follows : (all : List Instr) (at : ℕ) (xs : List Instr) → IsTrue (ticks xs) → CodeAt all at xs → IsTrue (leads_to_tick (drop at all))
tick_follows all at [] e st = absurd (false≢true e)
tick_follows all at (x ∷ xs) e st =
    ap leads_to_tick (drop_there all at x st.0)
    ∙ tick_more (takes_tick x) (jump_target_of x) (ticks xs) (leads_to_tick (drop (at + 1) all)) (λ f. tick_follows all (at + 1) xs f st.1) e

-- ---- instructions of expressions

constant_stays : (h : Held) → jump_target_of (constant h) ≡ None
constant_stays (Plain value) = refl
constant_stays (Dm dim points) = refl

pub loaded_stays : (o : Option ℕ) (x : VariableUse) → jump_target_of (load_variable o x) ≡ None
loaded_stays (Some k) x = refl
loaded_stays None x = constant_stays (zero_declared x.declared)

pub own_stays : (has : Bool) → jump_target_of (load_this has) ≡ None
own_stays true = refl
own_stays false = refl

rect_stays : (kind : OperandClass) (n : ℕ) (at : Place) → jump_target_of (rect_instr kind n at) ≡ None
rect_stays Points (suc zero) at = refl
rect_stays kind n at = refl

jump_target : (where_is : Bool) (target : ℕ) → jump_target_of (jump_where where_is target) ≡ Some target
jump_target true target = refl
jump_target false target = refl

module _ {all : List Instr} {from : ℕ} where
  -- no instruction of a conversion is a jump
  pub conversion_fits : (at : Place) (type : ValueType) (k : StaticRepr) → Fits all from (conversion at type k)
  conversion_fits at t.Long known.Long = fits_jumpless refl
  conversion_fits at t.Long k = fits_jumpless refl
  conversion_fits at t.Int known.Int = fits_jumpless refl
  conversion_fits at t.Int k = fits_jumpless refl
  conversion_fits at (t.Class class is_local) known.Object = fits_jumpless refl
  conversion_fits at (t.Class class is_local) k = fits_jumpless refl
  conversion_fits at (t.Grid element dim is_local) known.Grid = fits_jumpless refl
  conversion_fits at (t.Grid element dim is_local) k = fits_jumpless refl
  conversion_fits at type k = fits_jumpless refl

  local_fits : (at : Place) (is : Bool) → Fits all from (local_test at is)
  local_fits at true = fits_jumpless refl
  local_fits at false = fits_jumpless refl

  alone_fits : (op : UnaryOperator) → Fits all from (unary_code op)
  alone_fits un.Minus = fits_jumpless refl
  alone_fits un.Plus = fits_jumpless refl
  alone_fits un.Not = fits_jumpless refl
  alone_fits un.Complement = fits_jumpless refl

  index_fits : (is : Bool) (n : ℕ) (at : Place) → Fits all from (index_code is n at)
  index_fits true n at = fits_jumpless refl
  index_fits false n at = fits_jumpless refl

pub pops_fit : {all : List Instr} (n : ℕ) {from : ℕ} → Fits all from (pops n)
pops_fit zero = fits_jumpless refl
pops_fit (suc n) = fits_next refl (pops_fit n)

kind_fits : {all : List Instr} {from : ℕ} (m : Option ValueMember) (n : ℕ) (at : Place) → Fits all from (kind_code m n at)
kind_fits (Some k) n at = fits_jumpless refl
kind_fits None n at = fits_both (pops_fit (suc n)) (fits_jumpless refl)

-- ---- the code of expressions

module _ {all : List Instr} where
  lazy_fits : (left : Bool) (at : ℕ) (right : ℕ → List Instr) → Fits all (at + 1) (right (at + 1)) → Fits all at (lazy_code left at right)
  lazy_fits left at right f =
      fits_forward (jump_target left _) (omega (arith, behind_more (at + 1) (right (at + 1)))) (fits_both f (fits_forward refl (omega arith) (fits_jumpless refl)))

  operator_fits : (l : ShortCircuit) (name : Operation) (p : Place) (at : ℕ) (right : ℕ → List Instr) → ((from : ℕ) → Fits all from (right from)) → Fits all at (operator_code l name p at right)
  operator_fits Never name p at right f = fits_both (f at) (fits_jumpless refl)
  operator_fits (Where left) name p at right f = lazy_fits left at right (f (at + 1))

  module _ (program : ProgramView) (this : Option ℕ) (names : List Name) where
    mutual
      pub code_fits : (x : NumberedExp) (at : ℕ) → Fits all at (code_of program this names x at)
      code_fits (e.This p) at = fits_next (own_stays (has_this names)) (fits_jumpless refl)
      code_fits (e.Variable p x) at = fits_next (loaded_stays (find_slot x names) x) (fits_jumpless refl)
      code_fits (e.OwnField p field) at = fits_next (own_stays (has_this names)) (fits_jumpless refl)
      code_fits (e.Point p parts) at = fits_both (all_fit parts at) (fits_jumpless refl)
      code_fits (e.Rect p ranges) at =
          fits_both (ranges_fit ranges at) (fits_next (rect_stays (kind_of_ranges program this ranges) (how_many_ranges ranges) p) (fits_jumpless refl))
      code_fits (e.Unary p op x) at = fits_both (code_fits x at) (alone_fits op)
      code_fits (e.Binary p op x y) at =
          fits_both (code_fits x at) (operator_fits (short_circuit_of op) (operation_in program this op x y) p _ (code_of program this names y) (code_fits y))
      code_fits (e.Cast p type x) at =
          fits_both (code_fits x at) (fits_both (conversion_fits p type.type (known_of program this x)) (local_fits p (is_local type.type)))
      code_fits (e.Select p x name) at = fits_both (code_fits x at) (fits_jumpless refl)
      code_fits (e.Member p x name args) at =
          fits_both (code_fits x at) (fits_both (all_fit args _) (kind_fits (shown_member (member_called program this x name)) (how_many args) p))
      code_fits (e.Index p x parts) at =
          fits_both (code_fits x at) (fits_both (all_fit parts _) (index_fits (is_point_type (syntactic_type program this x)) (how_many parts) p))
      code_fits x at = fits_jumpless refl

      pub all_fit : (xs : NumberedExps) (at : ℕ) → Fits all at (code_of_all program this names xs at)
      all_fit e.NoExp at = fits_jumpless refl
      all_fit (e.MoreExp x xs) at = fits_both (code_fits x at) (all_fit xs _)

      range_fits : (r : NumberedRange) (at : ℕ) → Fits all at (code_of_range program this names r at)
      range_fits (e.Plain low high) at = fits_both (code_fits low at) (fits_both (code_fits high _) (fits_jumpless refl))
      range_fits (e.Stepped low high step) at = fits_both (code_fits low at) (fits_both (code_fits high _) (code_fits step _))

      ranges_fit : (rs : NumberedRanges) (at : ℕ) → Fits all at (code_of_ranges program this names rs at)
      ranges_fit e.NoRange at = fits_jumpless refl
      ranges_fit (e.MoreRange r rs) at = fits_both (range_fits r at) (ranges_fit rs _)
