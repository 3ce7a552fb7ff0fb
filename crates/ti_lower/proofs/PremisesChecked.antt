-- Proves that the premises on a method are propositions (have at most one proof), so they may be derived from the mere existence of a
-- source.
use mathlib.Core.Path.{path_j'}
use Rattle.std.proofs.Common.{◌≡◌, ◌⊎◌, inl, inr, ℕ, ◌==◌, Bool, true, false, ◌&&◌, slice_get, is_none, Option, Some, None, List, [], ◌∷◌, refl, ap, sym, ◌∙◌, subst}
use Rattle.std.proofs.Math.Bool.{Bool-set}
use Rattle.std.proofs.Math.Logic.{∥∥₁_elim}
use Rattle.ti_lang.specs.Program.Types.{ValueType, VariableUse}
use Rattle.ti_lang.specs.Program.Expressions.{NumberedExp, NumberedExps}
use Rattle.ti_lang.specs.Program.Expressions as e
use Rattle.ti_lang.specs.Program.Statements.{NumberedInit, NumberedStm, MaybeNumbered, NoStm, SomeStm, NumberedStms, Nil, Cons, numbered_stms}
use Rattle.ti_lang.specs.Program.Statements as s
use Rattle.ti_lang.specs.Program.Classes.{NumberedMethod, ProgramView}
use Rattle.ti_lang.specs.Program.Scope.{this_of}
use Rattle.ti_lang.specs.Typing.Called.{called_method}
use Rattle.ti_lang.specs.Typing.Declared.{result_type}
use Rattle.ti_lang.specs.Typing.Kinds.{is_void}
use Rattle.ti_lang.specs.Meaning.Calls.{Call, call_by, parameters_of}
use Rattle.ti_lang.specs.Meaning.Performing.{declared_alone, declared_among}
use Rattle.ti_rules.specs.ProgramRefusals.{IsChecked}
use Rattle.ti_rules.proofs.Lemmas.{and_left, and_right, none_some}
use Rattle.ti_lower_expr.specs.Slots.{Name, This, Of, Hidden}
use Rattle.ti_lower_expr.specs.Slots as slot_of
use Rattle.ti_lower_expr.specs.Methods.{names_in_method}
use Rattle.ti_lower.specs.Calling.{number_called}
use Rattle.ti_lower.specs.StmtCode.{names_after}
use Rattle.ti_lower.proofs.Arguments.{AreArgs, IsObject}
use Rattle.ti_lower.proofs.Cutting.{Stay}
use Rattle.ti_lower.proofs.Working.{IsCalled, IsNoCall, IsRight, InitFine, IsClosed, StmFine, MaybeFine, StmsFine}
use Rattle.ti_lower.proofs.Premises.{IsReturn, EndOf, IsEnded, MethodFine, MainFine}
use Rattle.ti_lower.proofs.PremisesHold.{program_fine}

-- ---- what is found, or isn't

abbrev IsNone : {A : Type 0} → Option A → Type 0
IsNone None = Unit {0}
IsNone (Some a) = ⊥

is_none_prop : {A : Type 0} (o : Option A) → IsProp (IsNone o)
is_none_prop None = hlevel
is_none_prop (Some a) = hlevel

abbrev none_back : {A : Type 0} (o : Option A) → IsNone o → o ≡ None
none_back None z = refl
none_back (Some a) z = elim z [ ]

none_round : {A : Type 0} (o : Option A) (e : o ≡ None) → none_back o (subst (λ (q : Option A). IsNone q) (sym e) tt) ≡ e
none_round {A} o e = path_j' (λ (q : Option A) (e : q ≡ None). none_back q (subst (λ (r : Option A). IsNone r) (sym e) tt) ≡ e) refl e

none_prop : {A : Type 0} (o : Option A) → IsProp (o ≡ None)
none_prop {A} o e f =
    let into = λ (e : o ≡ None). subst (λ (q : Option A). IsNone q) (sym e) tt in
    sym (none_round o e) ∙ ap (none_back o) (is_none_prop o (into e) (into f)) ∙ none_round o f

-- what is found, with something that is so of it
record Found {A : Type 0} (P : A → Type 0) (o : Option A) : Type 0 where
  value : A
  is : o ≡ Some value
  so : P value

abbrev Inside : {A : Type 0} (P : A → Type 0) → Option A → Type 0
Inside P None = ⊥
Inside P (Some a) = P a

inside_prop : {A : Type 0} (P : A → Type 0) → ((a : A) → IsProp (P a)) → (o : Option A) → IsProp (Inside P o)
inside_prop P one None = hlevel
inside_prop P one (Some a) = one a

abbrev found_back : {A : Type 0} (P : A → Type 0) (o : Option A) → Inside P o → Found P o
found_back P None z = elim z [ ]
found_back P (Some a) z = record { value = a; is = refl; so = z }

found_round : {A : Type 0} (P : A → Type 0) → ((a : A) → IsProp (P a)) → (o : Option A) (f : Found P o) → found_back P o (subst (Inside P) (sym f.is) f.so) ≡ f
found_round {A} P one o f =
    path_j' (λ (q : Option A) (e : q ≡ Some f.value). ◌≡◌ {A = Found P q} (found_back P q (subst (Inside P) (sym e) f.so)) (record { value = f.value; is = e; so = f.so }))
    (λ i. record { value = f.value; is = refl; so = one f.value (subst (Inside P) {x = Some f.value} (sym refl) f.so) f.so i }) f.is

found_prop : {A : Type 0} (P : A → Type 0) → ((a : A) → IsProp (P a)) → (o : Option A) → IsProp (Found P o)
found_prop P one o f g =
    sym (found_round P one o f) ∙ ap (found_back P o) (inside_prop P one o (subst (Inside P) (sym f.is) f.so) (subst (Inside P) (sym g.is) g.so)) ∙ found_round P one o g

either_prop : {A B : Type 0} → IsProp A → IsProp B → (A → B → ⊥) → IsProp (A ⊎ B)
either_prop f g apart (inl a) (inl b) = ap inl (f a b)
either_prop f g apart (inl a) (inr b) = absurd (apart a b)
either_prop f g apart (inr a) (inl b) = absurd (apart b a)
either_prop f g apart (inr a) (inr b) = ap inr (g a b)

-- ---- calls

args_prop : (ps : List VariableUse) (xs : NumberedExps) → IsProp (AreArgs ps xs)
args_prop [] e.NoExp = hlevel
args_prop [] (e.MoreExp x xs) = hlevel
args_prop (p ∷ ps) e.NoExp = hlevel
args_prop (p ∷ ps) (e.MoreExp x xs) = args_prop ps xs

object_prop : (x : Option NumberedExp) (class : Option ℕ) → IsProp (IsObject x class)
object_prop None None = hlevel
object_prop None (Some class) = hlevel
object_prop (Some x) None = hlevel
object_prop (Some x) (Some class) = hlevel

module _ (program : ProgramView) (this : Option ℕ) (result : ValueType) where
  -- what is said of a call that is found
  abbrev FitsCall : NumberedExp → Call → Type 0
  FitsCall x c = IsObject c.object (this_of c.method) × AreArgs (parameters_of c.method.params) c.args × ((number_called program this x == program.main) ≡ false)

  fits_prop : (x : NumberedExp) (c : Call) → IsProp (FitsCall x c)
  fits_prop x c = hlevel (object_prop c.object (this_of c.method), args_prop (parameters_of c.method.params) c.args, Bool-set)

  abbrev as_found : (x : NumberedExp) → IsCalled program this result x → Found (FitsCall x) (call_by x (called_method program this x))
  as_found x z = record { value = z.call; is = z.is; so = (z.object, z.args, z.not_main) }

  abbrev as_called : (x : NumberedExp) → Found (FitsCall x) (call_by x (called_method program this x)) → IsCalled program this result x
  as_called x f = record { call = f.value; is = f.is; object = f.so.0; args = f.so.1; not_main = f.so.2 }

  called_prop : (x : NumberedExp) → IsProp (IsCalled program this result x)
  called_prop x z w = ap (as_called x) (found_prop (FitsCall x) (fits_prop x) (call_by x (called_method program this x)) (as_found x z) (as_found x w))

  not_both : (x : NumberedExp) → IsNoCall program this result x → IsCalled program this result x → ⊥
  not_both x n z = none_some z.call (sym n ∙ z.is)

  call_prop : (x : NumberedExp) → IsProp (IsNoCall program this result x ⊎ IsCalled program this result x)
  call_prop x = either_prop (none_prop (call_by x (called_method program this x))) (called_prop x) (not_both x)

  right_prop : (x : NumberedExp) → IsProp (IsRight program this result x)
  right_prop x = either_prop (none_prop (call_by x (called_method program this x))) (hlevel (called_prop x, Bool-set)) (λ n z. not_both x n z.0)

  init_prop : (value : NumberedInit) → IsProp (InitFine program this result value)
  init_prop (s.Value x) = right_prop x
  init_prop value = hlevel

  -- ---- statements

  closed_prop : (x : NumberedStm) → IsProp (IsClosed program this result x)
  closed_prop (s.Declare p type number value) = hlevel
  closed_prop x = hlevel

  stay_prop : (xs : List VariableUse) (ns : List Name) → IsProp (Stay xs ns)
  stay_prop xs [] = hlevel
  stay_prop xs (Of y ∷ ns) = hlevel (Bool-set, stay_prop xs ns)
  stay_prop xs (This ∷ ns) = stay_prop xs ns
  stay_prop xs (slot_of.Point i ∷ ns) = stay_prop xs ns
  stay_prop xs (Hidden ∷ ns) = stay_prop xs ns

  mutual
    stm_prop : (x : NumberedStm) (ns : List Name) → IsProp (StmFine program this result x ns)
    stm_prop (s.Declare p type number value) ns = init_prop value
    stm_prop (s.Assign p target value) ns = init_prop value
    stm_prop (s.Update p op target x) ns = right_prop x
    stm_prop (s.Call x) ns = call_prop x
    stm_prop (s.Block body) ns = hlevel (stay_prop (declared_among body) ns, stms_prop body ns)
    stm_prop (s.If p c x) ns = hlevel (closed_prop x, stm_prop x ns)
    stm_prop (s.IfElse p c x y) ns = hlevel (closed_prop x, stm_prop x ns, closed_prop y, stm_prop y ns)
    stm_prop (s.While p c body) ns = hlevel (closed_prop body, stm_prop body ns)
    stm_prop (s.For p NoStm c update body) ns = hlevel (maybe_prop update ns, closed_prop body, stm_prop body ns)
    stm_prop (s.For p (SomeStm first) c update body) ns =
        hlevel (stay_prop (declared_alone first) ns, stm_prop first ns, maybe_prop update (names_after first ns), closed_prop body, stm_prop body (names_after first ns))
    stm_prop (s.Foreach p x domain body) ns = hlevel (closed_prop body, stm_prop body (slot_of.Point x ∷ ns))
    stm_prop (s.Return p None) ns = Bool-set _ _
    stm_prop (s.Return p (Some x)) ns = Bool-set _ _
    stm_prop x ns = hlevel

    maybe_prop : (x : MaybeNumbered) (ns : List Name) → IsProp (MaybeFine program this result x ns)
    maybe_prop NoStm ns = hlevel
    maybe_prop (SomeStm x) ns = hlevel (closed_prop x, stm_prop x ns)

    stms_prop : (xs : NumberedStms) (ns : List Name) → IsProp (StmsFine program this result xs ns)
    stms_prop Nil ns = hlevel
    stms_prop (Cons x rest) ns = hlevel (stm_prop x ns, stms_prop rest (names_after x ns))

-- ---- methods

return_prop : (x : NumberedStm) → IsProp (IsReturn x)
return_prop (s.Return p None) = hlevel
return_prop (s.Return p (Some x)) = hlevel
return_prop x = hlevel

end_prop : (x : NumberedStm) (xs : NumberedStms) → IsProp (EndOf x xs)
end_prop x Nil = return_prop x
end_prop x (Cons y ys) = end_prop y ys

ended_prop : (b : Bool) (xs : NumberedStms) → IsProp (IsEnded b xs)
ended_prop true xs = hlevel
ended_prop false Nil = hlevel
ended_prop false (Cons x xs) = end_prop x xs

method_prop : (program : ProgramView) (m : NumberedMethod) → IsProp (MethodFine program m)
method_prop program m = hlevel (stms_prop program (this_of m) (result_type m) (numbered_stms m.body) (names_in_method m), ended_prop (is_void (result_type m)) (numbered_stms m.body))

-- ---- main

abbrev is_bare : List VariableUse → Bool
is_bare [] = true
is_bare (x ∷ xs) = false

-- the method is like `main`
abbrev is_main : NumberedMethod → Bool
is_main m = is_none (this_of m) && (is_bare (parameters_of m.params) && is_void (result_type m))

abbrev is_main_there : Option NumberedMethod → Bool
is_main_there None = false
is_main_there (Some m) = is_main m

main_told : (program : ProgramView) → MainFine program → is_main_there (slice_get program.methods program.main) ≡ true
main_told program f =
    ap is_main_there f.is_there ∙ ap (λ b. b && (is_bare (parameters_of f.main.params) && is_void (result_type f.main))) (ap is_none f.is_static)
    ∙ ap (λ b. b && is_void (result_type f.main)) (ap is_bare f.is_bare) ∙ f.gives_nothing

none_is : (o : Option ℕ) → is_none o ≡ true → o ≡ None
none_is None h = refl
none_is (Some x) h = cc

bare_is : (xs : List VariableUse) → is_bare xs ≡ true → xs ≡ []
bare_is [] h = refl
bare_is (x ∷ xs) h = cc

main_is : (program : ProgramView) → is_main_there (slice_get program.methods program.main) ≡ true → MainFine program
main_is program h = by (slice_get program.methods program.main) refl h
  where
    by : (o : Option NumberedMethod) → slice_get program.methods program.main ≡ o → is_main_there o ≡ true → MainFine program
    by None e h = cc
    by (Some m) e h =
        let rest = and_right (is_none (this_of m)) (is_bare (parameters_of m.params) && is_void (result_type m)) h in
        record {
          main = m;
          is_there = e;
          is_static = none_is (this_of m) (and_left (is_none (this_of m)) (is_bare (parameters_of m.params) && is_void (result_type m)) h);
          is_bare = bare_is (parameters_of m.params) (and_left (is_bare (parameters_of m.params)) (is_void (result_type m)) rest);
          gives_nothing = and_right (is_bare (parameters_of m.params)) (is_void (result_type m)) rest;
        }

-- ---- programs

-- every program of a text that breaks no rule meets the premises
pub checked_fine : (program : ProgramView) → IsChecked program → ((k : ℕ) (m : NumberedMethod) → slice_get program.methods k ≡ Some m → MethodFine program m) × MainFine program
checked_fine program c = (
  λ k m e. ∥∥₁_elim c.numbered (method_prop program m) (λ n. (program_fine program n c.unbroken).0 k m e),
  main_is program (∥∥₁_elim c.numbered (Bool-set _ _) (λ n. main_told program (program_fine program n c.unbroken).1)),
)
