-- A single expression has one value in all processes: what it comes to in a process, it comes to in the slice.
use Rattle.std.proofs.Common.{◌≡◌, ℕ, ℤ, Bool, true, false, not, ◌&&◌, if◌then◌else◌, int_le, pos, pred, slice_get, slice_index_or, Option, Some, None, List, [], refl, ap, sym, subst}
use Rattle.ti_base.specs.declared.place.Place.{Place}
use Rattle.ti_base.specs.declared.point.Point.{Point}
use Rattle.ti_base.specs.declared.value.Value.TheVariants as v
use Rattle.ti_base.specs.declared.fault.FaultKind.{FaultKind}
use Rattle.ti_base.specs.declared.fault.FaultKind.TheVariants.{Bounds}
use Rattle.ti_base.specs.Ranges.{natural}
use Rattle.ti_base.specs.declared.entry.Answer.{Answer}
use Rattle.ti_syntax.specs.declared.tree.exprs.BinaryOperator.{BinaryOperator}
use Rattle.ti_syntax.specs.declared.tree.exprs.BinaryOperator.TheVariants as op
use Rattle.ti_lang.specs.Program.Types.{ValueType, Declaration, Typed, Foreach}
use Rattle.ti_lang.specs.Program.Types as t
use Rattle.ti_lang.specs.Program.Expressions.{NumberedExp, NumberedExps, NumberedRange, NumberedRanges}
use Rattle.ti_lang.specs.Program.Expressions as e
use Rattle.ti_base.specs.PointSets.{union, minus, meet}
use Rattle.ti_lang.specs.Program.Scope.{this_of}
use Rattle.ti_lang.specs.Typing.BuiltIn.{BuiltIn, Size, Min, Max, Contains}
use Rattle.ti_lang.specs.Typing.Kinds.{is_local, is_point_type}
use Rattle.ti_lang.specs.Typing.Called.{member_called}
use Rattle.ti_lang.specs.Typing.Singleness.{declared_single, tells_of_domain, is_single_part, are_single, is_single_range, are_single_ranges}
use Rattle.ti_lang.specs.Meaning.Held.{Held, Plain, Dm, point_of}
use Rattle.ti_lang.specs.Meaning.Comp.{Comp, ◌>>=◌, gives, found_or, guard, CompResult, Gives, Asks, Fails, bind_result}
use Rattle.ti_lang.specs.Meaning.Literals as literal
use Rattle.ti_lang.specs.Meaning.Operands.{Operands, Wholes, Points, Rects, Domains, operands}
use Rattle.ti_lang.specs.Meaning.Conversions.{to_domain, converted, of_domains}
use Rattle.ti_lang.specs.Meaning.Operators.{add_values, subtract_values, multiply_values, divide_values, equal, apply_binary, short_circuit}
use Rattle.ti_lang.specs.Meaning.CellRefs.{indexed}
use Rattle.ti_lang.specs.Meaning.MemberForms.{domain_size, member_value}
use Rattle.ti_lang.specs.Meaning.Scoping.{Env, value_by, type_of}
use Rattle.ti_lang.specs.Meaning.Evaluation.{kept_local, unless_settled, with_right, eval, eval_all, eval_numbers, eval_range, eval_ranges}
use Rattle.ti_lang.proofs.Lemmas.{Giving}
use Rattle.ti_align.specs.SinglePart.{singles}
use Rattle.ti_align.proofs.Runs.Vars.{true_false, and_left, and_right, find_single}

-- where the slice evaluates
abbrev pub env_part : Env → Env
env_part env = record env { number = 0; this = None; variables = singles env.variables }

-- what the first computation gives, the second gives without an answer, up to a relation
abbrev pub Rel : {A B : Type 0} → (A → B → Type 0) → Comp A → Comp B → List Answer → Type 0
Rel {B = B} R m m' rest = Giving (λ a. (b : B) × (m' [] ≡ Gives b []) × R a b) (m rest)

-- Q of what a computation gives, which asks for nothing
abbrev pub Sure : {A : Type 0} → (A → Type 0) → CompResult A → Type 0
Sure Q (Gives a rest) = Q a
Sure Q (Asks request) = ⊥
Sure Q (Fails kind at) = Unit {0}

-- the first computation asks for nothing, and what it gives, the second gives
abbrev pub Same : {A : Type 0} → Comp A → Comp A → List Answer → Type 0
Same m m' rest = Sure (λ a. m' [] ≡ Gives a []) (m rest)

same_followed : {A B : Type 0} (g : CompResult A) (m' : Comp A) (go go' : A → Comp B) → Sure (λ a. m' [] ≡ Gives a []) g → ((a : A) (r : List Answer) → Same (go a) (go' a) r)
    → Sure (λ b. bind_result (m' []) go' ≡ Gives b []) (bind_result g go)
same_followed (Gives a r) m' go go' k h = subst (λ z. Sure (λ b. bind_result z go' ≡ Gives b []) (go a r)) (sym k) (h a r)
same_followed (Asks request) m' go go' k h = k
same_followed (Fails kind at) m' go go' k h = tt

pub same_then : {A B : Type 0} (m m' : Comp A) (go go' : A → Comp B) (rest : List Answer) → Same m m' rest → ((a : A) (r : List Answer) → Same (go a) (go' a) r) → Same (m >>= go) (m' >>= go') rest
same_then m m' go go' rest k h = same_followed (m rest) m' go go' k h

rel_followed : {A B C : Type 0} (S : B → C → Type 0) (g : CompResult A) (m' : Comp A) (go : A → Comp B) (go' : A → Comp C)
    → Sure (λ a. m' [] ≡ Gives a []) g → ((a : A) (r : List Answer) → Rel S (go a) (go' a) r)
    → Giving (λ b. (c : C) × (bind_result (m' []) go' ≡ Gives c []) × S b c) (bind_result g go)
rel_followed {C = C} S (Gives a r) m' go go' k h = subst (λ z. Giving (λ b. (c : C) × (bind_result z go' ≡ Gives c []) × S b c) (go a r)) (sym k) (h a r)
rel_followed S (Asks request) m' go go' k h = tt
rel_followed S (Fails kind at) m' go go' k h = tt

pub rel_then : {A B C : Type 0} (S : B → C → Type 0) (m m' : Comp A) (go : A → Comp B) (go' : A → Comp C) (rest : List Answer)
    → Same m m' rest → ((a : A) (r : List Answer) → Rel S (go a) (go' a) r) → Rel S (m >>= go) (m' >>= go') rest
rel_then S m m' go go' rest k h = rel_followed S (m rest) m' go go' k h

-- ---- computations that ask nothing

pub guarded_same : {A : Type 0} (test : Bool) (kind : FaultKind) (at : Place) (a : A) (rest : List Answer) → Same (guard test kind at a) (guard test kind at a) rest
guarded_same true kind at a rest = refl
guarded_same false kind at a rest = tt

pub domain_same : (at : Place) (h : Held) (rest : List Answer) → Same (to_domain at h) (to_domain at h) rest
domain_same at (Plain (v.Rc r)) rest = guarded_same _ _ at _ rest
domain_same at (Plain _) rest = refl
domain_same at (Dm dim points) rest = refl

pub converted_same : (at : Place) (type : ValueType) (h : Held) (rest : List Answer) → Same (converted at type h) (converted at type h) rest
converted_same at (t.Dm dim) h rest = domain_same at h rest
converted_same at _ h rest = refl

domains_same : (both : List Point → List Point → List Point) (at : Place) (x y : Held) (rest : List Answer) → Same (of_domains both at x y) (of_domains both at x y) rest
domains_same both at x y rest =
    same_then (to_domain at x) (to_domain at x) _ _ rest (domain_same at x rest) (λ d r.
    same_then (to_domain at y) (to_domain at y) _ _ r (domain_same at y r) (λ e s. guarded_same _ _ at _ s))

added_same : (at : Place) (x y : Held) (o : Operands) (rest : List Answer) → Same (add_values at x y o) (add_values at x y o) rest
added_same at x y (Wholes w a b) rest = refl
added_same at x y (Points p q) rest = refl
added_same at x y (Rects r s) rest = domains_same union at x y rest
added_same at x y Domains rest = domains_same union at x y rest
added_same at x y _ rest = refl

subtracted_same : (at : Place) (x y : Held) (o : Operands) (rest : List Answer) → Same (subtract_values at x y o) (subtract_values at x y o) rest
subtracted_same at x y (Wholes w a b) rest = refl
subtracted_same at x y (Points p q) rest = refl
subtracted_same at x y (Rects r s) rest = domains_same minus at x y rest
subtracted_same at x y Domains rest = domains_same minus at x y rest
subtracted_same at x y _ rest = refl

multiplied_same : (at : Place) (x y : Held) (o : Operands) (rest : List Answer) → Same (multiply_values at x y o) (multiply_values at x y o) rest
multiplied_same at x y (Wholes w a b) rest = refl
multiplied_same at x y (Rects p q) rest = refl
multiplied_same at x y Domains rest = domains_same meet at x y rest
multiplied_same at x y _ rest = refl

divided_same : (f : _) (at : Place) (o : Operands) (rest : List Answer) → Same (divide_values f at o) (divide_values f at o) rest
divided_same f at (Wholes w a b) rest = guarded_same _ _ at _ rest
divided_same f at _ rest = refl

equal_same : (at : Place) (x y : Held) (o : Operands) (rest : List Answer) → Same (equal at x y o) (equal at x y o) rest
equal_same at x y Domains rest =
    same_then (to_domain at x) (to_domain at x) _ _ rest (domain_same at x rest) (λ d r.
    same_then (to_domain at y) (to_domain at y) _ _ r (domain_same at y r) (λ e s. refl))
equal_same at x y _ rest = refl

pub operated_same : (at : Place) (o : BinaryOperator) (x y : Held) (rest : List Answer) → Same (apply_binary at o x y) (apply_binary at o x y) rest
operated_same at op.Equal x y rest = same_then (equal at x y (operands x y)) (equal at x y (operands x y)) _ _ rest (equal_same at x y (operands x y) rest) (λ b r. refl)
operated_same at op.NotEqual x y rest = same_then (equal at x y (operands x y)) (equal at x y (operands x y)) _ _ rest (equal_same at x y (operands x y) rest) (λ b r. refl)
operated_same at op.Add x y rest = added_same at x y (operands x y) rest
operated_same at op.Subtract x y rest = subtracted_same at x y (operands x y) rest
operated_same at op.Multiply x y rest = multiplied_same at x y (operands x y) rest
operated_same at op.Divide x y rest = divided_same _ at (operands x y) rest
operated_same at op.Remainder x y rest = divided_same _ at (operands x y) rest
operated_same at _ x y rest = refl

right_same : (at : Place) (o : BinaryOperator) (h : Held) (m m' : Comp Held) (rest : List Answer) → Same m m' rest → Same (with_right at o h m) (with_right at o h m') rest
right_same at o h m m' rest k = go (short_circuit o h)
  where
    go : (s : Option Held) → Same (unless_settled s (m >>= λ y. apply_binary at o h y)) (unless_settled s (m' >>= λ y. apply_binary at o h y)) rest
    go (Some r) = refl
    go None = same_then m m' _ _ rest k (λ y r. operated_same at o h y r)

sized_same : (at : Place) (h : Held) (rest : List Answer) → Same (domain_size at h) (domain_size at h) rest
sized_same at (Plain (v.Rc r)) rest = guarded_same _ _ at _ rest
sized_same at (Plain _) rest = refl
sized_same at (Dm dim points) rest = refl

member_same : (at : Place) (type : ValueType) (o : Option BuiltIn) (through : ValueType) (h : Held) (hs : List Held) (rest : List Answer) → tells_of_domain o ≡ true
    → Same (member_value at type o through h hs) (member_value at type o through h hs) rest
member_same at type (Some Size) through h hs rest k = sized_same at h rest
member_same at type (Some Min) through h hs rest k = guarded_same _ _ at _ rest
member_same at type (Some Max) through h hs rest k = guarded_same _ _ at _ rest
member_same at type (Some Contains) through h hs rest k = refl
member_same at type _ through h hs rest k = absurd (true_false (sym k))

found_then : (at : Place) (o : Option ℤ) (rest : List Answer) → Same (found_or Bounds at o >>= λ x. gives (Plain (v.Int x))) (found_or Bounds at o >>= λ x. gives (Plain (v.Int x))) rest
found_then at None rest = tt
found_then at (Some x) rest = refl

coordinate_same : (b : Bool) (at : Place) (type through : ValueType) (h : Held) (indices : List ℤ) (rest : List Answer) → b ≡ true
    → Same (indexed b at type through h indices) (indexed b at type through h indices) rest
coordinate_same true at type through h indices rest k = found_then at
    (if int_le (pos 1) (slice_index_or indices 0 (pos 0)) then slice_get (literal.coordinates_of (point_of h))
    (pred (natural (slice_index_or indices 0 (pos 0)))) else None) rest
coordinate_same false at type through h indices rest k = absurd (true_false (sym k))

local_same : (n : ℕ) (at : Place) (b : Bool) (test : Bool) (type : ValueType) (h : Held) (rest : List Answer) → is_local type ≡ b → not b
    ≡ true → Same (kept_local n at type h) (kept_local 0 at type h) rest
local_same n at false test type h rest e k = rw e refl
local_same n at true test type h rest e k = absurd (true_false (sym k))

-- ---- expressions

value_same : (env : Env) (g : ℕ → Bool) (n : ℕ) (d : Declaration) → declared_single g n d ≡ true
    → value_by d (env_part env) (record { number = n; declared = d }) ≡ value_by d env (record { number = n; declared = d })
value_same env g n (Typed s type) h = sym (find_single (record { number = n; declared = Typed s type }) env.variables h)
value_same env g n Foreach h = refl

mutual
  pub single_same : (env : Env) (g : ℕ → Bool) (x : NumberedExp) (rest : List Answer) → is_single_part env.program (this_of env.method) g x ≡ true → Same (eval env x) (eval (env_part env) x) rest
  single_same env g (e.Int at n) rest k = refl
  single_same env g (e.Long at n) rest k = refl
  single_same env g (e.Truth at b) rest k = refl
  single_same env g (e.NumProcs at) rest k = refl
  single_same env g (e.Variable at x) rest k = ap (λ h. Gives h []) (value_same env g x.number x.declared k)
  single_same env g (e.Point at xs) rest k =
      same_then (eval_numbers env xs) (eval_numbers (env_part env) xs) _ _ rest (numbers_same env g xs rest k) (λ ns r. refl)
  single_same env g (e.Rect at rs) rest k =
      same_then (eval_ranges env rs) (eval_ranges (env_part env) rs) _ _ rest (ranges_same env g rs rest k) (λ b r. guarded_same _ _ at _ r)
  single_same env g (e.Unary at o a) rest k =
      same_then (eval env a) (eval (env_part env) a) _ _ rest (single_same env g a rest k) (λ h r. refl)
  single_same env g (e.Binary at o a b) rest k =
      same_then (eval env a) (eval (env_part env) a) _ _ rest (single_same env g a rest (and_left _ _ k)) (λ h r.
      right_same at o h (eval env b) (eval (env_part env) b) r (single_same env g b r (and_right (is_single_part env.program (this_of env.method) g a) _ k)))
  single_same env g (e.Cast at to a) rest k =
      same_then (eval env a) (eval (env_part env) a) _ _ rest (single_same env g a rest (and_right (not (is_local to.type)) _ k)) (λ h r.
      same_then (converted at to.type h) (converted at to.type h) _ _ r (converted_same at to.type h r) (λ j s.
      local_same env.number at (is_local to.type) true to.type j s refl (and_left _ _ k)))
  single_same env g (e.Index at a xs) rest k =
      let i = and_right (is_point_type (type_of env a)) _ k in
      same_then (eval env a) (eval (env_part env) a) _ _ rest (single_same env g a rest (and_left _ _ i)) (λ h r.
      same_then (eval_numbers env xs) (eval_numbers (env_part env) xs) _ _ r (numbers_same env g xs r (and_right (is_single_part env.program (this_of env.method) g a) _ i)) (λ ns s.
      coordinate_same (is_point_type (type_of env a)) at _ (type_of env a) h ns s (and_left _ _ k)))
  single_same env g (e.Member at a name args) rest k =
      let o = member_called env.program (this_of env.method) a name in
      let i = and_right (tells_of_domain o) _ k in
      same_then (eval env a) (eval (env_part env) a) _ _ rest (single_same env g a rest (and_left _ _ i)) (λ h r.
      same_then (eval_all env args) (eval_all (env_part env) args) _ _ r (all_same env g args r (and_right (is_single_part env.program (this_of env.method) g a) _ i)) (λ hs s.
      member_same at (type_of env (e.Member at a name args)) o (type_of env a) h hs s (and_left _ _ k)))
  single_same env g _ rest k = absurd (true_false (sym k))

  pub all_same : (env : Env) (g : ℕ → Bool) (xs : NumberedExps) (rest : List Answer) → are_single env.program (this_of env.method) g xs
      ≡ true → Same (eval_all env xs) (eval_all (env_part env) xs) rest
  all_same env g e.NoExp rest k = refl
  all_same env g (e.MoreExp x xs) rest k =
      same_then (eval env x) (eval (env_part env) x) _ _ rest (single_same env g x rest (and_left _ _ k)) (λ h r.
      same_then (eval_all env xs) (eval_all (env_part env) xs) _ _ r (all_same env g xs r (and_right (is_single_part env.program (this_of env.method) g x) _ k)) (λ hs s. refl))

  pub numbers_same : (env : Env) (g : ℕ → Bool) (xs : NumberedExps) (rest : List Answer) → are_single env.program (this_of env.method) g xs
      ≡ true → Same (eval_numbers env xs) (eval_numbers (env_part env) xs) rest
  numbers_same env g e.NoExp rest k = refl
  numbers_same env g (e.MoreExp x xs) rest k =
      same_then (eval env x) (eval (env_part env) x) _ _ rest (single_same env g x rest (and_left _ _ k)) (λ h r.
      same_then (eval_numbers env xs) (eval_numbers (env_part env) xs) _ _ r (numbers_same env g xs r (and_right (is_single_part env.program (this_of env.method) g x) _ k)) (λ hs s. refl))

  pub range_same : (env : Env) (g : ℕ → Bool) (q : NumberedRange) (rest : List Answer)
      → is_single_range env.program (this_of env.method) g q ≡ true → Same (eval_range env q) (eval_range (env_part env) q) rest
  range_same env g (e.Plain a b) rest k =
      same_then (eval env a) (eval (env_part env) a) _ _ rest (single_same env g a rest (and_left _ _ k)) (λ h r.
      same_then (eval env b) (eval (env_part env) b) _ _ r (single_same env g b r (and_right (is_single_part env.program (this_of env.method) g a) _ k)) (λ i s. refl))
  range_same env g (e.Stepped a b c) rest k =
      let i = and_left (is_single_part env.program (this_of env.method) g a && is_single_part env.program (this_of env.method) g b) _ k in
      same_then (eval env a) (eval (env_part env) a) _ _ rest (single_same env g a rest (and_left _ _ i)) (λ h r.
      same_then (eval env b) (eval (env_part env) b) _ _ r (single_same env g b r (and_right (is_single_part env.program (this_of env.method) g a) _ i)) (λ j s.
      same_then (eval env c) (eval (env_part env) c) _ _ s (single_same env g c s
      (and_right (is_single_part env.program (this_of env.method) g a && is_single_part env.program (this_of env.method) g b) _ k))
      (λ l u. refl)))

  pub ranges_same : (env : Env) (g : ℕ → Bool) (rs : NumberedRanges) (rest : List Answer)
      → are_single_ranges env.program (this_of env.method) g rs ≡ true → Same (eval_ranges env rs) (eval_ranges (env_part env) rs) rest
  ranges_same env g e.NoRange rest k = refl
  ranges_same env g (e.MoreRange q rs) rest k =
      same_then (eval_range env q) (eval_range (env_part env) q) _ _ rest (range_same env g q rest (and_left _ _ k)) (λ h r.
      same_then (eval_ranges env rs) (eval_ranges (env_part env) rs) _ _ r (ranges_same env g rs r (and_right (is_single_range env.program (this_of env.method) g q) _ k)) (λ i s. refl))
