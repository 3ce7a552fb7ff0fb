-- Proves that the code of an expression carries out its evaluation.
use Rattle.std.proofs.Common.{◌≡◌, ℕ, ℤ, pos, zero, suc, ◌+◌, ◌*◌, Bool, true, false, not, ◌||◌, if◌then◌else◌, slice_get, slice_index_or, List, [], ◌∷◌, ◌++◌, length, Option, Some, None, refl, ap, ap₂, sym, ◌∙◌, subst, arith, ◌⊎◌, inl, inr}
use Rattle.ti_base.specs.declared.place.Place.{Place}
use Rattle.ti_base.specs.declared.value.Id.{Id}
use Rattle.ti_base.specs.declared.point.Point.{Point}
use Rattle.ti_base.specs.declared.value.Value.TheVariants as v
use Rattle.ti_base.specs.declared.entry.Answer.{Answer}
use Rattle.ti_base.specs.declared.fault.FaultKind.TheVariants.{NullRef, NotLocal}
use Rattle.ti_syntax.specs.declared.tree.exprs.BinaryOperator.{BinaryOperator}
use Rattle.ti_syntax.specs.declared.tree.exprs.BinaryOperator.TheVariants as op
use Rattle.ti_syntax.specs.declared.tree.exprs.UnaryOperator.{UnaryOperator}
use Rattle.ti_syntax.specs.declared.tree.exprs.UnaryOperator.TheVariants as un
use Rattle.ti_lang.specs.Program.Types.{ValueType, VariableUse, Declaration, Typed, Foreach}
use Rattle.ti_lang.specs.Program.Types as t
use Rattle.ti_lang.specs.Program.Expressions.{NumberedExp, NumberedExps, NumberedRange, NumberedRanges}
use Rattle.ti_lang.specs.Program.Expressions as e
use Rattle.ti_lang.specs.Program.Scope.{this_of}
use Rattle.ti_lang.specs.Typing.Kinds.{is_local, is_point_type}
use Rattle.ti_lang.specs.Typing.BuiltIn as b
use Rattle.ti_lang.specs.Typing.Called.{member_called}
use Rattle.ti_lang.specs.Typing.TextTypes.{how_many}
use Rattle.ti_lang.specs.Meaning.Held.{Held, Plain, Dm, no_value, truth, truth_of, referent_of, point_of, zero_of, as_type}
use Rattle.ti_base.specs.Forms.{is_dim}
use Rattle.ti_lang.specs.Meaning.Comp.{Request, Reference, Gives, Comp, ◌>>=◌, bind_result, gives, guard, asked, found_or, needed}
use Rattle.ti_lang.specs.Meaning.Literals as literal
use Rattle.ti_lang.specs.Meaning.Conversions.{converted}
use Rattle.ti_lang.specs.Meaning.Operators.{apply_binary, operated_alone}
use Rattle.ti_lang.specs.Meaning.Scoping.{Env, zero_declared, type_of, field_selected}
use Rattle.ti_lang.specs.Meaning.CellRefs.{Field, Element, fetched, coordinate, indexed}
use Rattle.ti_lang.specs.Meaning.MemberForms.{member_value}
use Rattle.ti_lang.specs.Meaning.Evaluation.{eval, eval_all, eval_numbers, eval_range, eval_ranges, is_own, kept_local, unless_settled, with_right}
use Rattle.ti_code.specs.declared.instr.Instr.{Instr}
use Rattle.ti_code.specs.declared.instr.Instr.TheVariants as i
use Rattle.ti_code.specs.declared.instr.Operation.{Operation}
use Rattle.ti_code.specs.declared.instr.OneOperand.TheVariants as one
use Rattle.ti_code.specs.declared.instr.ValueMember.{ValueMember}
use Rattle.ti_code.specs.declared.instr.ValueMember.TheVariants as kind
use Rattle.ti_code.specs.Effects.{binary_operator_of, built_in_member, LocalState, Who, effect, numbers_of, one_step, range_bounds, rect_of_ranges, under, top, below}
use Rattle.ti_code.specs.Leading.{CodeAt, pc_after}
use Rattle.ti_lower_expr.specs.Slots.{Name, SlotsHold, find_slot, has_this}
use Rattle.ti_lower_expr.specs.declared.kinds.OperandClass.{OperandClass}
use Rattle.ti_lower_expr.specs.declared.kinds.OperandClass.TheVariants.{Numbers, Points, Rects, Domains}
use Rattle.ti_lower_expr.specs.declared.kinds.StaticRepr.{StaticRepr}
use Rattle.ti_lower_expr.specs.declared.kinds.StaticRepr.TheVariants as known
use Rattle.ti_lower_expr.specs.declared.kinds.ShortCircuit.{ShortCircuit}
use Rattle.ti_lower_expr.specs.declared.kinds.ShortCircuit.TheVariants.{Never, Where}
use Rattle.ti_lower_expr.specs.Coding.{operation, operation_in, kind_of_ranges, how_many_ranges, rect_instr, local_test, unary_code}
use Rattle.ti_lower_expr.specs.Coding.{code_of, code_of_all, code_of_range, code_of_ranges, short_circuit_of, operator_code, jump_where, constant}
use Rattle.ti_lower_expr.specs.Coding.{load_variable, load_this, into_int, into_long, into_object, into_grid, conversion, kind_code, pops, member_code}
use Rattle.ti_lower_expr.specs.Coding.{index_code}
use Rattle.ti_lower_expr.specs.Knowing.{HasRepr, known_of}
use Rattle.ti_lower_expr.specs.Doing as doing
use Rattle.ti_lower_expr.specs.Doing.{ReachesResult, Implements, who_in}
use Rattle.ti_lower_expr.proofs.Doing.{front_stands, rest_stands, behind_both, Alike, does_then, does_value, does_behind, does_one, does_it, alike_itself}
use Rattle.ti_lower_expr.proofs.Finding.{IsFound, found, value_in, value_is, zero_is, IsOwn, own_held}
use Rattle.ti_lower_expr.proofs.Knowing.{Comes, does_known, known_is_so}
use Rattle.ti_lower_expr.proofs.Lazily.{never_settled, lazily_settled, lazily_open, lazily_right, jumps, jumps_not}
use Rattle.ti_lower_expr.proofs.Stepping.{plain_is_stepped}
use Rattle.ti_lower_expr.proofs.Operands.{pushed, under_more, under_all, taken_all}

-- ---- facts of the definitions

-- the text tells the value: it is no domain with points
abbrev pub IsConstant : Held → Type 0
IsConstant (Plain value) = Unit {0}
IsConstant (Dm dim points) = points ≡ []

constant_where : (test : Bool) (h : Held) → IsConstant h → IsConstant (if test then h else no_value)
constant_where true h x = x
constant_where false h x = tt

zero_constant : (type : ValueType) → IsConstant (zero_of type)
zero_constant (t.Pt dim) = constant_where (is_dim dim) _ tt
zero_constant (t.Rc dim) = constant_where (is_dim dim) _ tt
zero_constant (t.Dm dim) = constant_where (is_dim dim) (Dm dim []) refl
zero_constant type = tt

declared_constant : (d : Declaration) → IsConstant (zero_declared d)
declared_constant (Typed s type) = zero_constant type
declared_constant Foreach = tt

-- the name of an operator means it
pub operation_means : (op : BinaryOperator) (j k : OperandClass) → binary_operator_of (operation op j k) ≡ op
operation_means op.Add Numbers k = refl
operation_means op.Add Points k = refl
operation_means op.Add Rects k = refl
operation_means op.Add Domains k = refl
operation_means op.Subtract Numbers k = refl
operation_means op.Subtract Points k = refl
operation_means op.Subtract Rects k = refl
operation_means op.Subtract Domains k = refl
operation_means op.Multiply Numbers k = refl
operation_means op.Multiply Points k = refl
operation_means op.Multiply Rects Rects = refl
operation_means op.Multiply Rects Numbers = refl
operation_means op.Multiply Rects Points = refl
operation_means op.Multiply Rects Domains = refl
operation_means op.Multiply Domains k = refl
operation_means _ j k = refl

-- whether a reference is kept local hangs on its type's word alone
unfoldable kept_where : (n : ℕ) (at : Place) (b : Bool) (h : Held) → Comp Held
kept_where n at b h = guard (not b || is_own n (referent_of h)) NotLocal at h

module _ (c : List Instr) (env : Env) (names : List Name) (slots : List Held) (holds : SlotsHold env.this names env.variables env.turns slots) where
  abbrev pub who : Who
  who = who_in env

  abbrev pub code : NumberedExp → ℕ → List Instr
  code = code_of env.program (this_of env.method) names

  abbrev pub code_all : NumberedExps → ℕ → List Instr
  code_all = code_of_all env.program (this_of env.method) names

  abbrev pub range_code : NumberedRange → ℕ → List Instr
  range_code = code_of_range env.program (this_of env.method) names

  abbrev pub ranges_code : NumberedRanges → ℕ → List Instr
  ranges_code = code_of_ranges env.program (this_of env.method) names

  abbrev pub state : ℕ → List Held → LocalState
  state at stack = record { at = at; slots = slots; stack = stack }

  -- the value is pushed, and the frame goes on there
  abbrev pub Pushes : ℕ → List Held → Held → LocalState → Type 0
  Pushes at stack = doing.Pushes slots at stack

  -- a value of which something is known
  pub next_known : {B : Type 0} (P : Held → Type 0) (Q : B → LocalState → Type 0) (at : ℕ) (stack : List Held) (s : LocalState) (m : Comp Held) (k : Held → Comp B) → Comes P m
      → Implements who c s m (Pushes at stack) → ((h : Held) → P h → Implements who c (state at (h ∷ stack)) (k h) Q) → Implements who c s (m >>= k) Q
  next_known P Q at stack s m k known d f =
      does_then who c (λ h t. Pushes at stack h t × P h) Q s m k (does_known who c P (Pushes at stack) s m known d)
      (λ h t x. subst (λ z. Implements who c z (k h) Q) (sym x.0) (f h x.1))

  pub next : {B : Type 0} (Q : B → LocalState → Type 0) (at : ℕ) (stack : List Held) (s : LocalState) (m : Comp Held) (k : Held → Comp B)
      → Implements who c s m (Pushes at stack) → ((h : Held) → Implements who c (state at (h ∷ stack)) (k h) Q) → Implements who c s (m >>= k) Q
  next Q at stack s m k d f = does_then who c (Pushes at stack) Q s m k d (λ h t x. subst (λ z. Implements who c z (k h) Q) (sym x) (f h))

  -- the same, said of another number
  pub moved : (n m : ℕ) (stack : List Held) (s : LocalState) (x : Comp Held) → n ≡ m → Implements who c s x (Pushes n stack) → Implements who c s x (Pushes m stack)
  moved n m stack s x z d = subst (λ k. Implements who c s x (Pushes k stack)) z d

  -- ---- single instructions

  pub instr : (i : Instr) (m : Comp Held) (s : LocalState) (n : ℕ) (stack : List Held) → slice_get c s.at ≡ Some i
      → ((rs : List Answer) → effect who i s rs ≡ bind_result (m rs) (λ h. gives (state n (h ∷ stack)))) → Implements who c s m (Pushes n stack)
  instr i m s n stack x f = does_it who c (Pushes n stack) s m (λ h. state n (h ∷ stack)) i x f (λ h. refl)

  pub value : (h : Held) (n : ℕ) (stack : List Held) → Implements who c (state n (h ∷ stack)) (gives h) (Pushes n stack)
  value h n stack = does_value who c (Pushes n stack) (state n (h ∷ stack)) h refl

  -- what comes to the value that is on top needs no instruction
  stays : (m : Comp Held) (h : Held) (at : ℕ) (stack : List Held) → ((rs : List Answer) → m rs ≡ Gives h rs) → Implements who c (state at (h ∷ stack)) m (Pushes at stack)
  stays m h at stack e rs = subst (λ g. ReachesResult who c (Pushes at stack) (state at (h ∷ stack)) rs g) (sym (e rs)) (value h at stack rs)

  constant_does : (h : Held) (at : ℕ) (stack : List Held) → IsConstant h → CodeAt c at (constant h ∷ []) → Implements who c (state at stack) (gives h) (Pushes (at + 1) stack)
  constant_does (Plain value) at stack x st = instr (i.Const value) (gives (Plain value)) (state at stack) (at + 1) stack st.0 (λ rs. refl)
  constant_does (Dm dim points) at stack x st =
      instr (i.EmptyDom dim) (gives (Dm dim points)) (state at stack) (at + 1) stack st.0 (λ rs. ap (λ ps. Gives (state (at + 1) (Dm dim ps ∷ stack)) rs) (sym x))

  pub load_does : (o : Option ℕ) (x : VariableUse) (value : Held) (at : ℕ) (stack : List Held) → IsFound o slots (zero_declared x.declared) value
      → CodeAt c at (load_variable o x ∷ []) → Implements who c (state at stack) (gives value) (Pushes (at + 1) stack)
  load_does (Some k) x value at stack f st =
      instr (i.Load k) (gives value) (state at stack) (at + 1) stack st.0 (λ rs. ap (λ h. Gives (state (at + 1) (h ∷ stack)) rs) f.1)
  load_does None x value at stack f st =
      subst (λ h. Implements who c (state at stack) (gives h) (Pushes (at + 1) stack)) (sym f) (constant_does (zero_declared x.declared) at stack (declared_constant x.declared) st)

  pub own_does : (b : Bool) (at : ℕ) (stack : List Held) → IsOwn b env.this slots → CodeAt c at (load_this b ∷ []) → Implements who c (state at stack) (gives (Plain (v.Obj env.this))) (Pushes (at + 1) stack)
  own_does true at stack f st =
      instr (i.Load 0) (gives (Plain (v.Obj env.this))) (state at stack) (at + 1) stack st.0 (λ rs. ap (λ h. Gives (state (at + 1) (h ∷ stack)) rs) f.1)
  own_does false at stack f st =
      instr (i.Const (v.Obj None)) (gives (Plain (v.Obj env.this))) (state at stack) (at + 1) stack st.0 (λ rs. ap (λ o. Gives (state (at + 1) (Plain (v.Obj o) ∷ stack)) rs) (sym f))

  -- what goes into an int, a long, an object or a grid
  int_does : (k : StaticRepr) (h : Held) (at : ℕ) (stack : List Held) → HasRepr k h → CodeAt c at (into_int k)
      → Implements who c (state at (h ∷ stack)) (gives (as_type t.Int h)) (Pushes (pc_after at (into_int k)) stack)
  int_does known.Int h at stack z st = stays (gives (as_type t.Int h)) h at stack (λ rs. ap (λ x. Gives x rs) z)
  int_does k h at stack z st = instr i.Narrow (gives (as_type t.Int h)) (state at (h ∷ stack)) (at + 1) stack st.0 (λ rs. refl)

  long_does : (k : StaticRepr) (h : Held) (at : ℕ) (stack : List Held) → HasRepr k h → CodeAt c at (into_long k)
      → Implements who c (state at (h ∷ stack)) (gives (as_type t.Long h)) (Pushes (pc_after at (into_long k)) stack)
  long_does known.Long h at stack z st = stays (gives (as_type t.Long h)) h at stack (λ rs. ap (λ x. Gives x rs) z)
  long_does k h at stack z st = instr i.Widen (gives (as_type t.Long h)) (state at (h ∷ stack)) (at + 1) stack st.0 (λ rs. refl)

  object_does : (k : StaticRepr) (h : Held) (at : ℕ) (stack : List Held) → HasRepr k h → CodeAt c at (into_object k)
      → Implements who c (state at (h ∷ stack)) (gives (Plain (v.Obj (referent_of h)))) (Pushes (pc_after at (into_object k)) stack)
  object_does known.Object h at stack z st = stays (gives (Plain (v.Obj (referent_of h)))) h at stack (λ rs. ap (λ x. Gives x rs) z)
  object_does k h at stack z st = instr i.AsObj (gives (Plain (v.Obj (referent_of h)))) (state at (h ∷ stack)) (at + 1) stack st.0 (λ rs. refl)

  grid_does : (k : StaticRepr) (h : Held) (at : ℕ) (stack : List Held) → HasRepr k h → CodeAt c at (into_grid k)
      → Implements who c (state at (h ∷ stack)) (gives (Plain (v.Grid (referent_of h)))) (Pushes (pc_after at (into_grid k)) stack)
  grid_does known.Grid h at stack z st = stays (gives (Plain (v.Grid (referent_of h)))) h at stack (λ rs. ap (λ x. Gives x rs) z)
  grid_does k h at stack z st = instr i.AsGrid (gives (Plain (v.Grid (referent_of h)))) (state at (h ∷ stack)) (at + 1) stack st.0 (λ rs. refl)

  pub convert_does : (type : ValueType) (k : StaticRepr) (p : Place) (h : Held) (at : ℕ) (stack : List Held) → HasRepr k h → CodeAt c at (conversion p type k)
      → Implements who c (state at (h ∷ stack)) (converted p type h) (Pushes (pc_after at (conversion p type k)) stack)
  convert_does (t.Class class local) k p h at stack z st = object_does k h at stack z st
  convert_does (t.Grid element dim local) k p h at stack z st = grid_does k h at stack z st
  convert_does (t.Dm dim) k p h at stack z st = instr (i.ToDom p) (converted p (t.Dm dim) h) (state at (h ∷ stack)) (at + 1) stack st.0 (λ rs. refl)
  convert_does t.Long k p h at stack z st = long_does k h at stack z st
  convert_does t.Int k p h at stack z st = int_does k h at stack z st
  convert_does type k p h at stack z st = value h at stack

  -- the test of a reference that is to be local
  local_does : (b : Bool) (p : Place) (h : Held) (at : ℕ) (stack : List Held) → CodeAt c at (local_test p b)
      → Implements who c (state at (h ∷ stack)) (kept_where env.number p b h) (Pushes (pc_after at (local_test p b)) stack)
  unfolding kept_where
  local_does true p h at stack st =
      instr (i.CastLocal p) (kept_where env.number p true h) (state at (h ∷ stack)) (at + 1) stack st.0 (λ rs. refl)
  local_does false p h at stack st = value h at stack

  -- a request for the value of a cell, whatever is said of types
  pub asked_alike : (q r : Request) → r.place ≡ q.place → r.action ≡ q.action → (rs : List Answer) → Alike who c (asked q rs) (asked r rs)
  asked_alike q r x y [] = (r, refl, x, y)
  asked_alike q r x y (a ∷ rs) = refl

  -- what a cell that is needed holds, whatever is said of types
  pub needed_alike : (p : Place) (a b : ValueType) (object : Held) (f g : Reference → Comp Held)
      → ((id : Id) (rs : List Answer) → Alike who c (f (record { thing = id; type = a }) rs) (g (record { thing = id; type = b }) rs))
      → (rs : List Answer) → Alike who c ((needed p a object >>= f) rs) ((needed p b object >>= g) rs)
  needed_alike p a b object f g h rs = by (referent_of object)
    where
      by : (o : Option Id) → Alike who c (bind_result ((found_or NullRef p o >>= λ id. gives (record { thing = id; type = a })) rs) f)
          (bind_result ((found_or NullRef p o >>= λ id. gives (record { thing = id; type = b })) rs) g)
      by None = refl
      by (Some id) = h id rs

  fetched_alike : (p : Place) (a b : ValueType) (x y : ValueType) (object : Held) (field : ℕ) (rs : List Answer)
      → Alike who c (fetched p a (Field object x field) rs) (fetched p b (Field object y field) rs)
  fetched_alike p a b x y object field rs = needed_alike p x y object _ _ (λ id ms. asked_alike _ _ refl refl ms) rs

  pub element_alike : (p : Place) (a b : ValueType) (x y : ValueType) (grid : Held) (index : Point) (rs : List Answer)
      → Alike who c (fetched p a (Element grid x index) rs) (fetched p b (Element grid y index) rs)
  element_alike p a b x y grid index rs = needed_alike p x y grid _ _ (λ id ms. asked_alike _ _ refl refl ms) rs

  -- an instruction that reads a field
  pub field_does : (p : Place) (type through : ValueType) (object : Held) (field at : ℕ) (stack : List Held) → CodeAt c at (i.GetField field p ∷ [])
      → Implements who c (state at (object ∷ stack)) (fetched p type (Field object through field)) (Pushes (at + 1) stack)
  field_does p type through object field at stack st =
      does_one who c (Pushes (at + 1) stack) (state at (object ∷ stack)) (fetched p type (Field object through field)) (fetched p t.Void (Field object t.Void field))
      (λ h. state (at + 1) (h ∷ stack)) (i.GetField field p) st.0 (fetched_alike p type t.Void through t.Void object field) (λ rs. refl) (λ h. refl)

  -- an instruction that reads an element
  pub element_does : (p : Place) (type through : ValueType) (h x : Held) (at : ℕ) (stack : List Held) → CodeAt c at (i.GetElem p ∷ [])
      → Implements who c (state at (x ∷ h ∷ stack)) (fetched p type (Element h through (point_of x))) (Pushes (at + 1) stack)
  element_does p type through h x at stack st =
      does_one who c (Pushes (at + 1) stack) (state at (x ∷ h ∷ stack)) (fetched p type (Element h through (point_of x))) (fetched p t.Void (Element h t.Void (point_of x)))
      (λ y. state (at + 1) (y ∷ stack)) (i.GetElem p) st.0 (element_alike p type t.Void through t.Void h (point_of x)) (λ rs. refl) (λ y. refl)

  -- ---- operands

  -- so many values are pushed, one after the other
  abbrev pub PushesAll : ℕ → List Held → ℕ → List Held → LocalState → Type 0
  PushesAll at stack n hs s = (length hs ≡ n) × (s ≡ state at (pushed hs stack))

  -- the same, where they stand for these numbers
  abbrev pub PushesNumbers : ℕ → List Held → ℕ → List ℤ → LocalState → Type 0
  PushesNumbers at stack n xs s = (hs : List Held) × (numbers_of hs ≡ xs) × (length hs ≡ n) × (s ≡ state at (pushed hs stack))

  -- an instruction whose operands were pushed as a list
  pub from_spot : {B : Type 0} (Q : B → LocalState → Type 0) (s t : LocalState) (m : Comp B) → s ≡ t → Implements who c t m Q → Implements who c s m Q
  from_spot Q s t m x d = subst (λ z. Implements who c z m Q) (sym x) d

  pub point_does : (p : Place) (n : ℕ) (hs : List Held) (at : ℕ) (stack : List Held) → length hs ≡ n → CodeAt c at (i.MakePt n ∷ [])
      → Implements who c (state at (pushed hs stack)) (gives (Plain (v.Pt (literal.point_of_numbers (numbers_of hs))))) (Pushes (at + 1) stack)
  point_does p n hs at stack z st =
      instr (i.MakePt n) (gives (Plain (v.Pt (literal.point_of_numbers (numbers_of hs))))) (state at (pushed hs stack)) (at + 1) stack st.0
      (λ rs. ap₂ (λ xs ys. Gives (state (at + 1) (Plain (v.Pt (literal.point_of_numbers (numbers_of xs))) ∷ ys)) rs) (taken_all n hs stack z) (under_all n hs stack z))

  index_does : (is_pt : Bool) (p : Place) (type through : ValueType) (n : ℕ) (h : Held) (hs : List Held) (at : ℕ) (stack : List Held) → length hs ≡ n → CodeAt c at (index_code is_pt n p)
      → Implements who c (state at (pushed hs (h ∷ stack))) (indexed is_pt p type through h (numbers_of hs)) (Pushes (pc_after at (index_code is_pt n p)) stack)
  index_does true p type through n h hs at stack z st =
      instr (i.Coord n p) (coordinate p (point_of h) (slice_index_or (numbers_of hs) 0 (pos 0))) (state at (pushed hs (h ∷ stack))) (at + 1) stack st.0
      (λ rs. ap₂ (λ xs ys. bind_result (coordinate p (point_of (top ys)) (slice_index_or (numbers_of xs) 0 (pos 0)) rs) (λ x. gives (state (at + 1) (x ∷ below ys))))
      (taken_all n hs (h ∷ stack) z) (under_all n hs (h ∷ stack) z))
  index_does false p type through n h hs at stack z st =
      let index = literal.point_of_numbers (numbers_of hs) in
      next (Pushes (at + 1 + 1) stack) (at + 1) (h ∷ stack) (state at (pushed hs (h ∷ stack))) (gives (Plain (v.Pt index))) (λ x. fetched p type (Element h through (point_of x)))
      (point_does p n hs at (h ∷ stack) z (st.0, tt))
      (λ x. element_does p type through h x (at + 1) stack (st.1.0, tt))

  -- operands are dropped
  pub pops_do : {B : Type 0} (Q : B → LocalState → Type 0) (m : Comp B) (n : ℕ) (at : ℕ) (stack : List Held) → CodeAt c at (pops n) → Implements who c (state (pc_after at (pops n)) (under n stack)) m Q
      → Implements who c (state at stack) m Q
  pops_do Q m zero at stack st d = d
  pops_do Q m (suc n) at stack st d =
      does_behind who c Q (state at stack) (state (at + 1) (below stack)) m i.Pop st.0 (λ rs. refl) (pops_do Q m n (at + 1) (below stack) st.1 d)

  -- a member that gives nothing
  nothing_does : (p : Place) (n : ℕ) (h : Held) (hs : List Held) (at : ℕ) (stack : List Held) → length hs ≡ n → CodeAt c at (kind_code None n p)
      → Implements who c (state at (pushed hs (h ∷ stack))) (gives no_value) (Pushes (pc_after at (kind_code None n p)) stack)
  nothing_does p n h hs at stack z st =
      let code = pops (suc n) in
      let left : under (suc n) (pushed hs (h ∷ stack)) ≡ stack = under_more n (pushed hs (h ∷ stack)) ∙ ap below (under_all n hs (h ∷ stack) z) in
      moved (pc_after at code + 1) (pc_after at (kind_code None n p)) stack _ (gives no_value) (sym (behind_both at code (i.Const (v.Bool false) ∷ [])))
      (pops_do (Pushes (pc_after at code + 1) stack) (gives no_value) (suc n) at (pushed hs (h ∷ stack)) (front_stands c at code _ st)
      (subst (λ ys. Implements who c (state (pc_after at code) ys) (gives no_value) (Pushes (pc_after at code + 1) stack)) (sym left)
      (instr (i.Const (v.Bool false)) (gives no_value) (state (pc_after at code) stack) (pc_after at code + 1) stack (rest_stands c at code _ st).0 (λ rs. refl))))

  -- a member with its operands
  pub member_alike : (p : Place) (a x y : ValueType) (m : b.BuiltIn) (h : Held) (hs : List Held) (rs : List Answer)
      → Alike who c (member_value p a (Some m) x h hs rs) (member_value p t.Void (Some m) y h hs rs)
  member_alike p a x y b.Domain h hs rs = needed_alike p x y h _ _ (λ id ms. asked_alike _ _ refl refl ms) rs
  member_alike p a x y b.Restrict h hs rs = needed_alike p x y h _ _ (λ id ms. asked_alike _ _ refl refl ms) rs
  member_alike p a x y b.Translate h hs rs = needed_alike p x y h _ _ (λ id ms. asked_alike _ _ refl refl ms) rs
  member_alike p a x y b.Slice h hs rs = needed_alike p x y h _ _ (λ id ms. asked_alike _ _ refl refl ms) rs
  member_alike p a x y b.Size h hs rs = alike_itself who c (member_value p a (Some b.Size) x h hs rs)
  member_alike p a x y b.Min h hs rs = alike_itself who c (member_value p a (Some b.Min) x h hs rs)
  member_alike p a x y b.Max h hs rs = alike_itself who c (member_value p a (Some b.Max) x h hs rs)
  member_alike p a x y b.Contains h hs rs = alike_itself who c (member_value p a (Some b.Contains) x h hs rs)
  member_alike p a x y b.Copy h hs rs = alike_itself who c (member_value p a (Some b.Copy) x h hs rs)
  member_alike p a x y b.Exchange h hs rs = alike_itself who c (member_value p a (Some b.Exchange) x h hs rs)
  member_alike p a x y b.Delete h hs rs = alike_itself who c (member_value p a (Some b.Delete) x h hs rs)

  kind_does : (k : ValueMember) (p : Place) (type through : ValueType) (n : ℕ) (h : Held) (hs : List Held) (at : ℕ) (stack : List Held) → length hs ≡ n → CodeAt c at (i.Member k n p ∷ [])
      → Implements who c (state at (pushed hs (h ∷ stack))) (member_value p type (Some (built_in_member k)) through h hs) (Pushes (at + 1) stack)
  kind_does k p type through n h hs at stack z st =
      does_one who c (Pushes (at + 1) stack) (state at (pushed hs (h ∷ stack))) (member_value p type (Some (built_in_member k)) through h hs) (member_value p t.Void (Some (built_in_member k)) t.Void h hs)
      (λ x. state (at + 1) (x ∷ stack)) (i.Member k n p) st.0 (member_alike p type through t.Void (built_in_member k) h hs)
      (λ rs. ap₂ (λ xs ys. bind_result (member_value p t.Void (Some (built_in_member k)) t.Void (top ys) xs rs)
      (λ x. gives (state (at + 1) (x ∷ below ys)))) (taken_all n hs (h ∷ stack) z) (under_all n hs (h ∷ stack) z))
      (λ x. refl)

  member_does : (o : Option b.BuiltIn) (p : Place) (type through : ValueType) (n : ℕ) (h : Held) (hs : List Held) (at : ℕ) (stack : List Held) → length hs ≡ n → CodeAt c at (member_code o n p)
      → Implements who c (state at (pushed hs (h ∷ stack))) (member_value p type o through h hs) (Pushes (pc_after at (member_code o n p)) stack)
  member_does None p type through n h hs at stack z st = nothing_does p n h hs at stack z st
  member_does (Some b.Size) p type through n h hs at stack z st = kind_does kind.Size p type through n h hs at stack z st
  member_does (Some b.Min) p type through n h hs at stack z st = kind_does kind.Min p type through n h hs at stack z st
  member_does (Some b.Max) p type through n h hs at stack z st = kind_does kind.Max p type through n h hs at stack z st
  member_does (Some b.Contains) p type through n h hs at stack z st = kind_does kind.Contains p type through n h hs at stack z st
  member_does (Some b.Domain) p type through n h hs at stack z st = kind_does kind.DomainOf p type through n h hs at stack z st
  member_does (Some b.Restrict) p type through n h hs at stack z st = kind_does kind.Restrict p type through n h hs at stack z st
  member_does (Some b.Translate) p type through n h hs at stack z st = kind_does kind.Translate p type through n h hs at stack z st
  member_does (Some b.Slice) p type through n h hs at stack z st = kind_does kind.Slice p type through n h hs at stack z st
  member_does (Some b.Copy) p type through n h hs at stack z st = nothing_does p n h hs at stack z st
  member_does (Some b.Exchange) p type through n h hs at stack z st = nothing_does p n h hs at stack z st
  member_does (Some b.Delete) p type through n h hs at stack z st = nothing_does p n h hs at stack z st

  -- ---- operators

  -- an operator behind its left operand, where this decides
  settles : (left : Bool) (o : BinaryOperator) (name : Operation) (p : Place) (h : Held) (y : Comp Held) (right : ℕ → List Instr) (at : ℕ)
      (stack : List Held) → short_circuit_of o ≡ Where left → truth_of h ≡ left
      → CodeAt c at (operator_code (Where left) name p at right) → Implements who c (state at (h ∷ stack)) (with_right p o h y) (Pushes (pc_after at (operator_code (Where left) name p at right)) stack)
  settles left o name p h y right at stack z x st =
      let code = right (at + 1) in
      let end = pc_after (at + 1) code in
      let tail = i.Jump (end + 1 + 1) ∷ i.Const (v.Bool left) ∷ [] in
      let all = pc_after at (operator_code (Where left) name p at right) in
      subst (λ s. Implements who c (state at (h ∷ stack)) (unless_settled s (y >>= λ k. apply_binary p o h k)) (Pushes all stack)) (sym (lazily_settled o left h z x))
      (moved (end + 1 + 1) all stack (state at (h ∷ stack)) (gives (truth left)) (sym (behind_both (at + 1) code tail))
      (does_behind who c (Pushes (end + 1 + 1) stack) (state at (h ∷ stack)) (state (end + 1) stack) (gives (truth left))
      (jump_where left (end + 1)) st.0 (λ rs. jumps who left (end + 1) (state at (h ∷ stack)) rs x)
      (instr (i.Const (v.Bool left)) (gives (truth left)) (state (end + 1) stack) (end + 1 + 1) stack (rest_stands c (at + 1) code tail st.1).1.0 (λ rs. refl))))

  -- where it doesn't
  goes_on : (left : Bool) (o : BinaryOperator) (name : Operation) (p : Place) (h : Held) (y : Comp Held) (right : ℕ → List Instr) (at : ℕ)
      (stack : List Held) → short_circuit_of o ≡ Where left → truth_of h ≡ not left
      → ((from : ℕ) (under : List Held) → CodeAt c from (right from) → Implements who c (state from under) y (Pushes (pc_after from (right from)) under))
      → CodeAt c at (operator_code (Where left) name p at right) → Implements who c (state at (h ∷ stack)) (with_right p o h y) (Pushes (pc_after at (operator_code (Where left) name p at right)) stack)
  goes_on left o name p h y right at stack z x d st =
      let code = right (at + 1) in
      let end = pc_after (at + 1) code in
      let tail = i.Jump (end + 1 + 1) ∷ i.Const (v.Bool left) ∷ [] in
      let all = pc_after at (operator_code (Where left) name p at right) in
      let more : Comp Held = y >>= λ k. apply_binary p o h k in
      subst (λ s. Implements who c (state at (h ∷ stack)) (unless_settled s (y >>= λ k. apply_binary p o h k)) (Pushes all stack)) (sym (lazily_open o left h z x))
      (moved (end + 1 + 1) all stack (state at (h ∷ stack)) more (sym (behind_both (at + 1) code tail))
      (does_behind who c (Pushes (end + 1 + 1) stack) (state at (h ∷ stack)) (state (at + 1) stack) more (jump_where left (end + 1)) st.0 (λ rs. jumps_not who left (end + 1) (state at (h ∷ stack)) rs x)
      (next (Pushes (end + 1 + 1) stack) end stack (state (at + 1) stack) y (λ k. apply_binary p o h k) (d (at + 1) stack (front_stands c (at + 1) code tail st.1))
      (λ k. does_behind who c (Pushes (end + 1 + 1) stack) (state end (k ∷ stack)) (state (end + 1 + 1) (k ∷ stack)) (apply_binary p o h k)
      (i.Jump (end + 1 + 1)) (rest_stands c (at + 1) code tail st.1).0 (λ rs. refl)
      (λ rs. subst (λ g. ReachesResult who c (Pushes (end + 1 + 1) stack) (state (end + 1 + 1) (k ∷ stack)) rs g) (sym (lazily_right o left p h k rs z)) (value k (end + 1 + 1) stack rs))))))

  decide : (a b : Bool) → (a ≡ b) ⊎ (a ≡ not b)
  decide true true = inl refl
  decide true false = inr refl
  decide false true = inr refl
  decide false false = inl refl

  -- an operator behind its left operand, given what its right operand's code does wherever it stands
  operator_does : (l : ShortCircuit) (o : BinaryOperator) (name : Operation) (p : Place) (h : Held) (y : Comp Held) (right : ℕ → List Instr)
      (at : ℕ) (stack : List Held) → short_circuit_of o ≡ l → binary_operator_of name ≡ o
      → ((from : ℕ) (under : List Held) → CodeAt c from (right from) → Implements who c (state from under) y (Pushes (pc_after from (right from)) under))
      → CodeAt c at (operator_code l name p at right) → Implements who c (state at (h ∷ stack)) (with_right p o h y) (Pushes (pc_after at (operator_code l name p at right)) stack)
  operator_does Never o name p h y right at stack z w d st =
      let code = right at in
      let end = pc_after at code in
      let all = pc_after at (code ++ i.Operate name p ∷ []) in
      subst (λ s. Implements who c (state at (h ∷ stack)) (unless_settled s (y >>= λ k. apply_binary p o h k)) (Pushes all stack)) (sym (never_settled o h z))
      (moved (end + 1) all stack (state at (h ∷ stack)) (y >>= λ k. apply_binary p o h k) (sym (behind_both at code (i.Operate name p ∷ [])))
      (next (Pushes (end + 1) stack) end (h ∷ stack) (state at (h ∷ stack)) y (λ k. apply_binary p o h k) (d at (h ∷ stack) (front_stands c at code _ st))
      (λ k. instr (i.Operate name p) (apply_binary p o h k) (state end (k ∷ h ∷ stack)) (end + 1) stack (rest_stands c at code _ st).0
      (λ rs. ap (λ b. bind_result (apply_binary p b h k rs) (λ r. gives (state (end + 1) (r ∷ stack)))) w))))
  operator_does (Where left) o name p h y right at stack z w d st =
      elim (decide (truth_of h) left) [ inl k ↦ settles left o name p h y right at stack z k st | inr k ↦ goes_on left o name p h y right at stack z k d st ]

  -- an operator of one operand
  alone_does : (op : UnaryOperator) (h : Held) (at : ℕ) (stack : List Held) → CodeAt c at (unary_code op)
      → Implements who c (state at (h ∷ stack)) (gives (operated_alone op h)) (Pushes (pc_after at (unary_code op)) stack)
  alone_does un.Minus h at stack st = instr (i.Alone one.Neg) (gives (operated_alone un.Minus h)) (state at (h ∷ stack)) (at + 1) stack st.0 (λ rs. refl)
  alone_does un.Plus h at stack st = value h at stack
  alone_does un.Not h at stack st = instr (i.Alone one.Not) (gives (operated_alone un.Not h)) (state at (h ∷ stack)) (at + 1) stack st.0 (λ rs. refl)
  alone_does un.Complement h at stack st = instr (i.Alone one.Com) (gives (operated_alone un.Complement h)) (state at (h ∷ stack)) (at + 1) stack st.0 (λ rs. refl)

  -- what a cast keeps
  kept_does : (type : ValueType) (p : Place) (h : Held) (at : ℕ) (stack : List Held) → CodeAt c at (local_test p (is_local type))
      → Implements who c (state at (h ∷ stack)) (kept_local env.number p type h) (Pushes (pc_after at (local_test p (is_local type))) stack)
  unfolding kept_where
  kept_does type p h at stack st = local_does (is_local type) p h at stack st

  -- ---- ranges

  -- the bounds of ranges are pushed, each with its step
  abbrev pub PushesBounds : ℕ → List Held → ℕ → literal.Bounds → LocalState → Type 0
  PushesBounds at stack n b s = (hs : List Held) × (range_bounds hs ≡ b) × (length hs ≡ 3 * n) × (s ≡ state at (pushed hs stack))

  -- those of one
  abbrev pub PushesRange : ℕ → List Held → literal.Bounds → LocalState → Type 0
  PushesRange at stack b s =
      (low : Held) × (high : Held) × (step : Held) × (literal.stepped_bounds low high step ≡ b) × (s ≡ state at (step ∷ high ∷ low ∷ stack))

  -- an instruction that makes the domain of so many ranges
  ranges_made : (j : Instr) (p : Place) (n : ℕ) (hs : List Held) (at : ℕ) (stack : List Held) → length hs ≡ 3 * n → CodeAt c at (j ∷ [])
      → ((s : LocalState) (rs : List Answer) → effect who j s rs ≡ rect_of_ranges n p s rs)
      → Implements who c (state at (pushed hs stack)) (literal.rect_within p (range_bounds hs)) (Pushes (at + 1) stack)
  ranges_made j p n hs at stack z st f =
      instr j (literal.rect_within p (range_bounds hs)) (state at (pushed hs stack)) (at + 1) stack st.0
      (λ rs. f (state at (pushed hs stack)) rs
      ∙ ap₂ (λ xs ys. bind_result (literal.rect_within p (range_bounds xs) rs) (λ h. gives (state (at + 1) (h ∷ ys)))) (taken_all (3 * n) hs stack z) (under_all (3 * n) hs stack z))

  rect_does : (kind : OperandClass) (p : Place) (n : ℕ) (hs : List Held) (at : ℕ) (stack : List Held) → length hs ≡ 3 * n → CodeAt c at (rect_instr kind n p ∷ [])
      → Implements who c (state at (pushed hs stack)) (literal.rect_within p (range_bounds hs)) (Pushes (at + 1) stack)
  rect_does Points p (suc zero) hs at stack z st = ranges_made (i.RectOfPts p) p (suc zero) hs at stack z st (λ s rs. refl)
  rect_does kind p n hs at stack z st = ranges_made (i.MakeRect n p) p n hs at stack z st (λ s rs. refl)

  -- ---- expressions

  mutual
    pub does : (x : NumberedExp) (at : ℕ) (stack : List Held) → CodeAt c at (code x at) → Implements who c (state at stack) (eval env x) (Pushes (pc_after at (code x at)) stack)
    does (e.Int p n) at stack st = constant_does (Plain (v.Int n)) at stack tt st
    does (e.Long p n) at stack st = constant_does (Plain (v.Long n)) at stack tt st
    does (e.Truth p x) at stack st = constant_does (truth x) at stack tt st
    does (e.Null p) at stack st = constant_does (Plain (v.Obj None)) at stack tt st
    does (e.This p) at stack st = own_does (has_this names) at stack (own_held env.this names env.variables env.turns slots holds) st
    does (e.Variable p x) at stack st =
        subst (λ h. Implements who c (state at stack) (gives h) (Pushes (at + 1) stack)) (sym (value_is x.declared env x))
        (load_does (find_slot x names) x _ at stack (subst (λ o. IsFound (find_slot x names) slots o
        (value_in x.declared x env.variables env.turns)) (zero_is x.declared x refl)
        (found env.this names env.variables env.turns slots holds x.declared x)) st)
    does (e.OwnField p field) at stack st =
        next (Pushes (at + 1 + 1) stack) (at + 1) stack (state at stack) (gives (Plain (v.Obj env.this))) (λ h. fetched p (type_of env (e.OwnField p field)) (Field h (type_of env (e.This p)) field))
        (own_does (has_this names) at stack (own_held env.this names env.variables env.turns slots holds) (st.0, tt))
        (λ h. field_does p (type_of env (e.OwnField p field)) (type_of env (e.This p)) h field (at + 1) stack (st.1.0, tt))
    does (e.ThisProc p) at stack st = instr i.ThisProc (gives (Plain (v.Int (pos env.number)))) (state at stack) (at + 1) stack st.0 (λ rs. refl)
    does (e.NumProcs p) at stack st = instr i.NumProcs (gives (Plain (v.Int (pos env.procs)))) (state at stack) (at + 1) stack st.0 (λ rs. refl)
    does (e.Point p parts) at stack st =
        let xs = code_all parts at in
        let n = how_many parts in
        moved (pc_after at xs + 1) (pc_after at (xs ++ i.MakePt n ∷ [])) stack _ (eval env (e.Point p parts)) (sym (behind_both at xs (i.MakePt n ∷ [])))
        (does_then who c (PushesNumbers (pc_after at xs) stack n) (Pushes (pc_after at xs + 1) stack) (state at stack) (eval_numbers env parts) (λ ys. gives (Plain (v.Pt (literal.point_of_numbers ys))))
        (numbers_do parts at stack (front_stands c at xs _ st))
        (λ ys s k. from_spot (Pushes (pc_after at xs + 1) stack) s _ (gives (Plain (v.Pt (literal.point_of_numbers ys)))) k.3
        (subst (λ ys. Implements who c (state (pc_after at xs) (pushed k.0 stack)) (gives (Plain (v.Pt (literal.point_of_numbers ys)))) (Pushes (pc_after at xs + 1) stack)) k.1
        (point_does p n k.0 (pc_after at xs) stack k.2 (rest_stands c at xs _ st)))))
    does (e.Rect p ranges) at stack st =
        let xs = ranges_code ranges at in
        let n = how_many_ranges ranges in
        let kind = kind_of_ranges env.program (this_of env.method) ranges in
        moved (pc_after at xs + 1) (pc_after at (xs ++ rect_instr kind n p ∷ [])) stack _ (eval env (e.Rect p ranges)) (sym (behind_both at xs (rect_instr kind n p ∷ [])))
        (does_then who c (PushesBounds (pc_after at xs) stack n) (Pushes (pc_after at xs + 1) stack) (state at stack) (eval_ranges env ranges) (λ b. literal.rect_within p b)
        (ranges_do ranges at stack (front_stands c at xs _ st))
        (λ b s k. from_spot (Pushes (pc_after at xs + 1) stack) s _ (literal.rect_within p b) k.3
        (subst (λ z. Implements who c (state (pc_after at xs) (pushed k.0 stack)) (literal.rect_within p z) (Pushes (pc_after at xs + 1) stack)) k.1
        (rect_does kind p n k.0 (pc_after at xs) stack k.2 (rest_stands c at xs _ st)))))
    does (e.Unary p op x) at stack st =
        let xs = code x at in
        let rest = unary_code op in
        moved (pc_after (pc_after at xs) rest) (pc_after at (xs ++ rest)) stack _ (eval env (e.Unary p op x)) (sym (behind_both at xs rest))
        (next (Pushes (pc_after (pc_after at xs) rest) stack) (pc_after at xs) stack (state at stack) (eval env x) (λ h. gives (operated_alone op h))
        (does x at stack (front_stands c at xs rest st))
        (λ h. alone_does op h (pc_after at xs) stack (rest_stands c at xs rest st)))
    does (e.Binary p op x y) at stack st =
        let xs = code x at in
        let name = operation_in env.program (this_of env.method) op x y in
        let rest = operator_code (short_circuit_of op) name p (pc_after at xs) (code y) in
        moved (pc_after (pc_after at xs) rest) (pc_after at (xs ++ rest)) stack _ (eval env (e.Binary p op x y)) (sym (behind_both at xs rest))
        (next (Pushes (pc_after (pc_after at xs) rest) stack) (pc_after at xs) stack (state at stack) (eval env x) (λ h. with_right p op h (eval env y))
        (does x at stack (front_stands c at xs _ st))
        (λ h. operator_does (short_circuit_of op) op name p h (eval env y) (code y) (pc_after at xs) stack refl (operation_means op _ _) (λ from under k. does y from under k)
        (rest_stands c at xs rest st)))
    does (e.Cast p type x) at stack st =
        let xs = code x at in
        let k = known_of env.program (this_of env.method) x in
        let change = conversion p type.type k in
        let test = local_test p (is_local type.type) in
        let mid = pc_after (pc_after at xs) change in
        moved (pc_after mid test) (pc_after at (xs ++ (change ++ test))) stack _ (eval env (e.Cast p type x))
        (sym (behind_both at xs (change ++ test) ∙ behind_both (pc_after at xs) change test))
        (next_known (HasRepr k) (Pushes (pc_after mid test) stack) (pc_after at xs) stack (state at stack) (eval env x)
        (λ h rs. bind_result (converted p type.type h rs) (λ k. kept_local env.number p type.type k)) (known_is_so env names slots holds x)
        (does x at stack (front_stands c at xs _ st))
        (λ h z. next (Pushes (pc_after mid test) stack) mid stack (state (pc_after at xs) (h ∷ stack)) (converted p type.type h) (λ k. kept_local env.number p type.type k)
        (convert_does type.type k p h (pc_after at xs) stack z (front_stands c (pc_after at xs) change test (rest_stands c at xs _ st)))
        (λ k. kept_does type.type p k mid stack (rest_stands c (pc_after at xs) change test (rest_stands c at xs _ st)))))
    does (e.Select p x name) at stack st =
        let xs = code x at in
        let field = field_selected env x name in
        moved (pc_after at xs + 1) (pc_after at (xs ++ i.GetField field p ∷ [])) stack _ (eval env (e.Select p x name)) (sym (behind_both at xs (i.GetField field p ∷ [])))
        (next (Pushes (pc_after at xs + 1) stack) (pc_after at xs) stack (state at stack) (eval env x) (λ h. fetched p (type_of env (e.Select p x name)) (Field h (type_of env x) field))
        (does x at stack (front_stands c at xs _ st))
        (λ h. field_does p (type_of env (e.Select p x name)) (type_of env x) h field (pc_after at xs) stack (rest_stands c at xs _ st)))
    does (e.Member p x name args) at stack st =
        let xs = code x at in
        let ys = code_all args (pc_after at xs) in
        let m = member_called env.program (this_of env.method) x name in
        let zs = member_code m (how_many args) p in
        let mid = pc_after (pc_after at xs) ys in
        moved (pc_after mid zs) (pc_after at (xs ++ (ys ++ zs))) stack _ (eval env (e.Member p x name args)) (sym (behind_both at xs (ys ++ zs) ∙ behind_both (pc_after at xs) ys zs))
        (next (Pushes (pc_after mid zs) stack) (pc_after at xs) stack (state at stack) (eval env x)
        (λ h rs. bind_result (eval_all env args rs) (λ hs. member_value p (type_of env (e.Member p x name args)) m (type_of env x) h hs))
        (does x at stack (front_stands c at xs _ st))
        (λ h. does_then who c (PushesAll mid (h ∷ stack) (how_many args)) (Pushes (pc_after mid zs) stack) (state (pc_after at xs) (h ∷ stack)) (eval_all env args)
        (λ hs. member_value p (type_of env (e.Member p x name args)) m (type_of env x) h hs)
        (all_do args (pc_after at xs) (h ∷ stack) (front_stands c (pc_after at xs) ys _ (rest_stands c at xs _ st)))
        (λ hs s k. from_spot (Pushes (pc_after mid zs) stack) s _ _ k.1
        (member_does m p (type_of env (e.Member p x name args)) (type_of env x) (how_many args) h hs mid stack k.0 (rest_stands c (pc_after at xs) ys zs (rest_stands c at xs _ st))))))
    does (e.Index p x parts) at stack st =
        let xs = code x at in
        let ys = code_all parts (pc_after at xs) in
        let is_pt = is_point_type (type_of env x) in
        let zs = index_code is_pt (how_many parts) p in
        let mid = pc_after (pc_after at xs) ys in
        let through = type_of env x in
        let type = type_of env (e.Index p x parts) in
        moved (pc_after mid zs) (pc_after at (xs ++ (ys ++ zs))) stack _ (eval env (e.Index p x parts)) (sym (behind_both at xs (ys ++ zs) ∙ behind_both (pc_after at xs) ys zs))
        (next (Pushes (pc_after mid zs) stack) (pc_after at xs) stack (state at stack) (eval env x)
        (λ h rs. bind_result (eval_numbers env parts rs) (λ ns. indexed is_pt p type through h ns))
        (does x at stack (front_stands c at xs _ st))
        (λ h. does_then who c (PushesNumbers mid (h ∷ stack) (how_many parts)) (Pushes (pc_after mid zs) stack) (state (pc_after at xs) (h ∷ stack)) (eval_numbers env parts)
        (λ ns. indexed is_pt p type through h ns)
        (numbers_do parts (pc_after at xs) (h ∷ stack) (front_stands c (pc_after at xs) ys _ (rest_stands c at xs _ st)))
        (λ ns s k. from_spot (Pushes (pc_after mid zs) stack) s _ _ k.3
        (subst (λ ns. Implements who c (state mid (pushed k.0 (h ∷ stack))) (indexed is_pt p type through h ns) (Pushes (pc_after mid zs) stack)) k.1
        (index_does is_pt p type through (how_many parts) h k.0 mid stack k.2 (rest_stands c (pc_after at xs) ys zs (rest_stands c at xs _ st)))))))
    does (e.Call p method args) at stack st = constant_does no_value at stack tt st
    does (e.OwnCall p method args) at stack st = constant_does no_value at stack tt st

    pub all_do : (xs : NumberedExps) (at : ℕ) (stack : List Held) → CodeAt c at (code_all xs at)
        → Implements who c (state at stack) (eval_all env xs) (PushesAll (pc_after at (code_all xs at)) stack (how_many xs))
    all_do e.NoExp at stack st = does_value who c (PushesAll at stack 0) (state at stack) [] (refl, refl)
    all_do (e.MoreExp x xs) at stack st =
        let first = code x at in
        let more = code_all xs (pc_after at first) in
        let Q = PushesAll (pc_after at (first ++ more)) stack (how_many xs + 1) in
        next Q (pc_after at first) stack (state at stack) (eval env x) (λ h rs. bind_result (eval_all env xs rs) (λ hs. gives (h ∷ hs))) (does x at stack (front_stands c at first more st))
        (λ h. does_then who c (PushesAll (pc_after (pc_after at first) more) (h ∷ stack) (how_many xs)) Q (state (pc_after at first) (h ∷ stack)) (eval_all env xs) (λ hs. gives (h ∷ hs))
        (all_do xs (pc_after at first) (h ∷ stack) (rest_stands c at first more st))
        (λ hs s k. does_value who c Q s (h ∷ hs) (omega (arith, k.0), k.1 ∙ ap (λ n. state n (pushed hs (h ∷ stack))) (sym (behind_both at first more)))))

    pub numbers_do : (xs : NumberedExps) (at : ℕ) (stack : List Held) → CodeAt c at (code_all xs at)
        → Implements who c (state at stack) (eval_numbers env xs) (PushesNumbers (pc_after at (code_all xs at)) stack (how_many xs))
    numbers_do e.NoExp at stack st = does_value who c (PushesNumbers at stack 0) (state at stack) [] ([], refl, refl, refl)
    numbers_do (e.MoreExp x xs) at stack st =
        let first = code x at in
        let more = code_all xs (pc_after at first) in
        let Q = PushesNumbers (pc_after at (first ++ more)) stack (how_many xs + 1) in
        next Q (pc_after at first) stack (state at stack) (eval env x) (λ h rs. bind_result (eval_numbers env xs rs)
        (λ ns. gives (literal.numbers_in h ++ ns))) (does x at stack (front_stands c at first more st))
        (λ h. does_then who c (PushesNumbers (pc_after (pc_after at first) more) (h ∷ stack) (how_many xs)) Q
        (state (pc_after at first) (h ∷ stack)) (eval_numbers env xs) (λ ns. gives (literal.numbers_in h ++ ns))
        (numbers_do xs (pc_after at first) (h ∷ stack) (rest_stands c at first more st))
        (λ ns s k. does_value who c Q s (literal.numbers_in h ++ ns) (
          h ∷ k.0,
          ap (λ r. literal.numbers_in h ++ r) k.1,
          omega (arith, k.2),
          k.3 ∙ ap (λ n. state n (pushed k.0 (h ∷ stack))) (sym (behind_both at first more)),
        )))

    pub range_does : (r : NumberedRange) (at : ℕ) (stack : List Held) → CodeAt c at (range_code r at)
        → Implements who c (state at stack) (eval_range env r) (PushesRange (pc_after at (range_code r at)) stack)
    range_does (e.Plain low high) at stack st =
        let xs = code low at in
        let ys = code high (pc_after at xs) in
        let mid = pc_after (pc_after at xs) ys in
        let Q = PushesRange (pc_after at (xs ++ (ys ++ i.Step ∷ []))) stack in
        next Q (pc_after at xs) stack (state at stack) (eval env low) (λ a rs. bind_result (eval env high rs) (λ b. gives (literal.plain_bounds a b)))
        (does low at stack (front_stands c at xs _ st))
        (λ a. next Q mid (a ∷ stack) (state (pc_after at xs) (a ∷ stack)) (eval env high) (λ b. gives (literal.plain_bounds a b))
        (does high (pc_after at xs) (a ∷ stack) (front_stands c (pc_after at xs) ys _ (rest_stands c at xs _ st)))
        (λ b. does_behind who c Q (state mid (b ∷ a ∷ stack)) (state (mid + 1) (one_step a ∷ b ∷ a ∷ stack)) (gives (literal.plain_bounds a b)) i.Step
        (rest_stands c (pc_after at xs) ys _ (rest_stands c at xs _ st)).0 (λ rs. refl)
        (does_value who c Q (state (mid + 1) (one_step a ∷ b ∷ a ∷ stack)) (literal.plain_bounds a b)
        (a, b, one_step a, plain_is_stepped a b, ap (λ n. state n (one_step a ∷ b ∷ a ∷ stack)) (sym (behind_both at xs (ys ++ i.Step ∷ []) ∙ behind_both (pc_after at xs) ys (i.Step ∷ [])))))))
    range_does (e.Stepped low high step) at stack st =
        let xs = code low at in
        let ys = code high (pc_after at xs) in
        let mid = pc_after (pc_after at xs) ys in
        let zs = code step mid in
        let Q = PushesRange (pc_after at (xs ++ (ys ++ zs))) stack in
        next Q (pc_after at xs) stack (state at stack) (eval env low)
        (λ a rs. bind_result (eval env high rs) (λ b ms. bind_result (eval env step ms) (λ d. gives (literal.stepped_bounds a b d))))
        (does low at stack (front_stands c at xs _ st))
        (λ a. next Q mid (a ∷ stack) (state (pc_after at xs) (a ∷ stack)) (eval env high) (λ b ms. bind_result (eval env step ms) (λ d. gives (literal.stepped_bounds a b d)))
        (does high (pc_after at xs) (a ∷ stack) (front_stands c (pc_after at xs) ys _ (rest_stands c at xs _ st)))
        (λ b. next Q (pc_after mid zs) (b ∷ a ∷ stack) (state mid (b ∷ a ∷ stack)) (eval env step) (λ d. gives (literal.stepped_bounds a b d))
        (does step mid (b ∷ a ∷ stack) (rest_stands c (pc_after at xs) ys zs (rest_stands c at xs _ st)))
        (λ d. does_value who c Q (state (pc_after mid zs) (d ∷ b ∷ a ∷ stack)) (literal.stepped_bounds a b d)
        (a, b, d, refl, ap (λ n. state n (d ∷ b ∷ a ∷ stack)) (sym (behind_both at xs (ys ++ zs) ∙ behind_both (pc_after at xs) ys zs))))))

    pub ranges_do : (rs : NumberedRanges) (at : ℕ) (stack : List Held) → CodeAt c at (ranges_code rs at)
        → Implements who c (state at stack) (eval_ranges env rs) (PushesBounds (pc_after at (ranges_code rs at)) stack (how_many_ranges rs))
    ranges_do e.NoRange at stack st = does_value who c (PushesBounds at stack 0) (state at stack) literal.no_bounds ([], refl, refl, refl)
    ranges_do (e.MoreRange r rs) at stack st =
        let first = range_code r at in
        let more = ranges_code rs (pc_after at first) in
        let Q = PushesBounds (pc_after at (first ++ more)) stack (how_many_ranges rs + 1) in
        does_then who c (PushesRange (pc_after at first) stack) Q (state at stack) (eval_range env r) (λ b ms. bind_result (eval_ranges env rs ms) (λ d. gives (literal.append_bounds b d)))
        (range_does r at stack (front_stands c at first more st))
        (λ b s k. from_spot Q s _ (λ ms. bind_result (eval_ranges env rs ms) (λ d. gives (literal.append_bounds b d))) k.4
        (does_then who c (PushesBounds (pc_after (pc_after at first) more) (k.2 ∷ k.1 ∷ k.0 ∷ stack) (how_many_ranges rs)) Q (state (pc_after at first) (k.2 ∷ k.1 ∷ k.0 ∷ stack))
        (eval_ranges env rs) (λ d. gives (literal.append_bounds b d))
        (ranges_do rs (pc_after at first) (k.2 ∷ k.1 ∷ k.0 ∷ stack) (rest_stands c at first more st))
        (λ d t j. does_value who c Q t (literal.append_bounds b d) (
          k.0 ∷ k.1 ∷ k.2 ∷ j.0,
          ap₂ literal.append_bounds k.3 j.1,
          omega (arith, j.2),
          j.3 ∙ ap (λ n. state n (pushed j.0 (k.2 ∷ k.1 ∷ k.0 ∷ stack))) (sym (behind_both at first more)),
        ))))
