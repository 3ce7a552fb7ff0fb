-- A plain part is found exactly where an expression isn't single, and an effect exactly where a statement has global effects.
use Rattle.std.proofs.Common.{◌≡◌, ℕ, Bool, true, false, not, ◌&&◌, ◌||◌, if◌then◌else◌, Option, Some, None, is_none, is_some, refl, ap, sym, ◌∙◌}
use Rattle.std.specs.Option.{option_map_or, option_or}
use Rattle.ti_base.specs.declared.place.Place.{Place}
use Rattle.ti_lang.specs.Program.Types.{Declaration, Typed, Foreach}
use Rattle.ti_lang.specs.Program.Expressions.{NumberedExp, NumberedExps, NumberedRange, NumberedRanges, place_of_numbered}
use Rattle.ti_lang.specs.Program.Expressions as x
use Rattle.ti_lang.specs.Program.Statements.{NumberedInit, NumberedStm, MaybeNumbered, NumberedStms}
use Rattle.ti_lang.specs.Program.Statements as st
use Rattle.ti_lang.specs.Program.Classes.{NumberedMethod, ProgramView}
use Rattle.ti_lang.specs.Program.Scope.{this_of}
use Rattle.ti_lang.specs.Typing.Kinds.{is_local, is_point_type}
use Rattle.ti_lang.specs.Typing.TextTypes.{syntactic_type}
use Rattle.ti_lang.specs.Typing.Called.{called_method, member_called}
use Rattle.ti_lang.specs.Typing.Singleness.{declared_single, tells_of_domain, is_single_part, are_single, is_single_range, are_single_ranges, has_single_result, is_single, is_single_sent, is_single_initial}
use Rattle.ti_lang.specs.Typing.Effects.{is_collective_call, acts, initial_acts, is_single_target, Doings, acting, together, kept_in_loop, doings, doings_of_maybe, doings_of_all, return_acts, jump_acts, has_global_effects}
use Rattle.ti_rules.specs.StmtInContext.{loop_acts}
use Rattle.ti_explain.specs.declared.reason.GlobalEffect.{GlobalEffect}
use Rattle.ti_explain.specs.declared.reason.GlobalEffect.TheVariants as effect
use Rattle.ti_explain.specs.declared.reason.EffectAt.{EffectAt}
use Rattle.ti_explain.specs.FirstEffects.{effect_at, effect_if, calls_single, call_effect, initial_effect, first_effect, first_effect_of_maybe, first_effect_of_all}
use Rattle.ti_explain.specs.declared.reason.PlainPart.{PlainPart}
use Rattle.ti_explain.specs.declared.reason.PlainCause.{PlainCause}
use Rattle.ti_explain.specs.declared.reason.PlainCause.TheVariants as cause
use Rattle.ti_explain.specs.PlainParts.{plain_at, plain_unless, plain_variable, plain_part, plain_among, plain_in_range, plain_among_ranges, plain_whole, plain_initial}

unless : (single : Bool) (at : Place) (why : PlainCause) → is_none (plain_unless single at why) ≡ single
unless true at why = refl
unless false at why = refl

variable : (singles : ℕ → Bool) (at : Place) (number : ℕ) (d : Declaration) → is_none (plain_variable singles at number d) ≡ declared_single singles number d
variable singles at number (Typed true type) = refl
variable singles at number (Typed false type) = refl
variable singles at number Foreach = unless (singles number) at cause.ForeachVariable

both : (a b : Option PlainPart) (p q : Bool) → is_none a ≡ p → is_none b ≡ q → is_none (option_or a b) ≡ p && q
both None b p q is_a is_b = is_b ∙ ap (λ z. z && q) is_a
both (Some part) b p q is_a is_b = ap (λ z. z && q) is_a

chosen : (t : Bool) (a : Option PlainPart) (p : Bool) (at : Place) (why : PlainCause) → is_none a ≡ p → is_none (if t then a else plain_at at why) ≡ t && p
chosen true a p at why is = is
chosen false a p at why is = refl

three : (a b c : Option PlainPart) (p q r : Bool) → is_none a ≡ p → is_none b ≡ q → is_none c ≡ r → is_none (option_or a (option_or b c)) ≡ (p && q) && r
three None None c p q r is_a is_b is_c = is_c ∙ ap (λ z. (z && true) && r) is_a ∙ ap (λ z. (p && z) && r) is_b
three None (Some part) c p q r is_a is_b is_c = ap (λ z. (true && z) && r) is_b ∙ ap (λ z. (z && q) && r) is_a
three (Some part) b c p q r is_a is_b is_c = ap (λ z. (z && q) && r) is_a

module _ (p : ProgramView) (this : Option ℕ) (singles : ℕ → Bool) where
  mutual
    pub part_named : (e : NumberedExp) → is_none (plain_part p this singles e) ≡ is_single_part p this singles e
    part_named (x.Int at n) = refl
    part_named (x.Long at n) = refl
    part_named (x.Truth at b) = refl
    part_named (x.NumProcs at) = refl
    part_named (x.Variable at v) = variable singles at v.number v.declared
    part_named (x.Point at xs) = among_named xs
    part_named (x.Rect at ranges) = ranges_named ranges
    part_named (x.Unary at op a) = part_named a
    part_named (x.Binary at op a b) = both (plain_part p this singles a) (plain_part p this singles b) _ _ (part_named a) (part_named b)
    part_named (x.Cast at to a) = chosen (not (is_local to.type)) (plain_part p this singles a) _ at cause.LocalCast (part_named a)
    part_named (x.Index at a xs) =
        chosen (is_point_type (syntactic_type p this a)) (option_or (plain_part p this singles a) (plain_among p this singles xs)) _ at cause.Element
        (both (plain_part p this singles a) (plain_among p this singles xs) _ _ (part_named a) (among_named xs))
    part_named (x.Member at a name args) =
        chosen (tells_of_domain (member_called p this a name)) (option_or (plain_part p this singles a) (plain_among p this singles args)) _ at cause.Member
        (both (plain_part p this singles a) (plain_among p this singles args) _ _ (part_named a) (among_named args))
    part_named (x.Null at) = refl
    part_named (x.This at) = refl
    part_named (x.OwnField at field) = refl
    part_named (x.Select at a name) = refl
    part_named (x.ThisProc at) = refl
    part_named (x.Call at method args) = refl
    part_named (x.OwnCall at method args) = refl

    pub among_named : (xs : NumberedExps) → is_none (plain_among p this singles xs) ≡ are_single p this singles xs
    among_named x.NoExp = refl
    among_named (x.MoreExp a rest) = both (plain_part p this singles a) (plain_among p this singles rest) _ _ (part_named a) (among_named rest)

    pub range_named : (r : NumberedRange) → is_none (plain_in_range p this singles r) ≡ is_single_range p this singles r
    range_named (x.Plain low high) = both (plain_part p this singles low) (plain_part p this singles high) _ _ (part_named low) (part_named high)
    range_named (x.Stepped low high step) =
        three (plain_part p this singles low) (plain_part p this singles high) (plain_part p this singles step) _ _ _ (part_named low) (part_named high) (part_named step)

    pub ranges_named : (rs : NumberedRanges) → is_none (plain_among_ranges p this singles rs) ≡ are_single_ranges p this singles rs
    ranges_named x.NoRange = refl
    ranges_named (x.MoreRange r rest) = both (plain_in_range p this singles r) (plain_among_ranges p this singles rest) _ _ (range_named r) (ranges_named rest)

  pub whole_named : (e : NumberedExp) → is_none (plain_whole p this singles e) ≡ is_single p this singles e
  whole_named e = by (called_method p this e)
    where
      by : (o : Option NumberedMethod) → is_none (option_map_or (λ (m : NumberedMethod). plain_unless (has_single_result m) (place_of_numbered e) cause.PlainResult) o (plain_part p this singles e))
          ≡ option_map_or has_single_result o (is_single_part p this singles e)
      by None = part_named e
      by (Some m) = unless (has_single_result m) (place_of_numbered e) cause.PlainResult

  pub initial_named : (value : NumberedInit) → is_none (plain_initial p this singles value) ≡ is_single_initial p this singles value
  initial_named (st.Value e) = whole_named e
  initial_named (st.NewRegion at) = refl
  initial_named (st.NewObject at region class) = refl
  initial_named (st.NewGrid at region element dims_at dims) = refl
  initial_named (st.Broadcast at e root) = unless (is_single_sent (syntactic_type p this e)) at cause.SentReference

-- ---- effects

or_false : (a : Bool) → a || false ≡ a
or_false true = refl
or_false false = refl

pub either : {A : Type 0} (a b : Option A) → is_some (option_or a b) ≡ is_some a || is_some b
either None b = refl
either (Some x) b = refl

swapped : (a b : Bool) → a || b ≡ b || a
swapped true true = refl
swapped true false = refl
swapped false true = refl
swapped false false = refl

if_named : (has : Bool) (at : Place) (what : GlobalEffect) → is_some (effect_if has at what) ≡ has
if_named true at what = refl
if_named false at what = refl

-- ---- summaries

shared : (a b c : Bool) → (a || b) && c ≡ (a && c) || (b && c)
shared true b true = refl
shared true true false = refl
shared true false false = refl
shared false b c = refl

mixed : (a b c d e f : Bool) → ((a || b) || (c || d)) || (e || f) ≡ ((a || c) || e) || ((b || d) || f)
mixed true b c d e f = refl
mixed false true true d e f = refl
mixed false true false d true f = refl
mixed false true false d false f = refl
mixed false false true d e f = refl
mixed false false false true true f = refl
mixed false false false true false f = refl
mixed false false false false e f = refl

together_has : (r j : Bool) (a b : Doings) → has_global_effects r j (together a b) ≡ has_global_effects r j a || has_global_effects r j b
together_has r j a b =
    ap (λ z. ((a.acts || b.acts) || z) || ((a.jumps || b.jumps) && j)) (shared a.returns b.returns r)
    ∙ ap (λ z. ((a.acts || b.acts) || ((a.returns && r) || (b.returns && r))) || z) (shared a.jumps b.jumps j)
    ∙ mixed a.acts b.acts (a.returns && r) (b.returns && r) (a.jumps && j) (b.jumps && j)

acting_has : (r j b : Bool) → has_global_effects r j (acting b) ≡ b
acting_has r j true = refl
acting_has r j false = refl

absorbed : (x j : Bool) → x || (j && x) ≡ x || false
absorbed true j = refl
absorbed false true = refl
absorbed false false = refl

two : (r j : Bool) (a b : Option EffectAt) (d e : Doings) → is_some a ≡ has_global_effects r j d → is_some b ≡ has_global_effects r j e
    → is_some (option_or a b) ≡ has_global_effects r j (together d e)
two r j a b d e is_a is_b =
    either a b ∙ ap (λ z. z || is_some b) is_a ∙ ap (λ z. has_global_effects r j d || z) is_b ∙ sym (together_has r j d e)

-- the jumps of a body have an effect if the loop has
loop_has : (r j : Bool) (d : Doings) → has_global_effects r (jump_acts r d) d ≡ has_global_effects r j (kept_in_loop d)
loop_has r j d = absorbed (jump_acts r d) d.jumps

both_absorbed : (x u b k l : Bool) → x ≡ u || b → (b || (k && x)) || (u || (l && x)) ≡ x || false
both_absorbed x true true k l is = sym (ap (λ z. z || false) is)
both_absorbed x true false true l is = ap (λ z. z || (true || (l && x))) is ∙ sym (ap (λ z. z || false) is)
both_absorbed x true false false l is = sym (ap (λ z. z || false) is)
both_absorbed x false true k l is = sym (ap (λ z. z || false) is)
both_absorbed x false false true true is = ap (λ z. z || z) is ∙ sym (ap (λ z. z || false) is)
both_absorbed x false false true false is = ap (λ z. z || false) is ∙ sym (ap (λ z. z || false) is)
both_absorbed x false false false true is = is ∙ sym (ap (λ z. z || false) is)
both_absorbed x false false false false is = sym (ap (λ z. z || false) is)

jump_together : (r : Bool) (u b : Doings) → jump_acts r (together u b) ≡ jump_acts r u || jump_acts r b
jump_together r u b =
    ap (λ z. (u.acts || b.acts) || z) (shared u.returns b.returns r) ∙ four u.acts b.acts (u.returns && r) (b.returns && r)
  where
    four : (a b c d : Bool) → (a || b) || (c || d) ≡ (a || c) || (b || d)
    four true b c d = refl
    four false true true d = refl
    four false true false d = refl
    four false false true d = refl
    four false false false d = refl

update_has : (r j : Bool) (u b : Doings) → has_global_effects r (jump_acts r (together u b)) b || has_global_effects r (jump_acts r (together u b)) u
    ≡ has_global_effects r j (kept_in_loop (together u b))
update_has r j u b = both_absorbed (jump_acts r (together u b)) (jump_acts r u) (jump_acts r b) b.jumps u.jumps (jump_together r u b)

module _ (p : ProgramView) (m : NumberedMethod) where
  call_named : (e : NumberedExp) → is_some (call_effect p m e) ≡ acts p (this_of m) e
  call_named e = by (is_collective_call p (this_of m) e) (calls_single p m e)
    where
      by : (c s : Bool) → is_some (if c then effect_at (place_of_numbered e) effect.Collective else effect_if s (place_of_numbered e) effect.SingleCall) ≡ s || c
      by true true = refl
      by true false = refl
      by false s = if_named s (place_of_numbered e) effect.SingleCall ∙ sym (or_false s)

  initial_effect_named : (value : NumberedInit) → is_some (initial_effect p m value) ≡ initial_acts p (this_of m) value
  initial_effect_named (st.Value e) = call_named e
  initial_effect_named (st.NewRegion at) = refl
  initial_effect_named (st.NewObject at region class) = refl
  initial_effect_named (st.NewGrid at region element dims_at dims) = refl
  initial_effect_named (st.Broadcast at e root) = refl

  -- a right side and then a single variable
  stored : (r j single right : Bool) (at : Place) (what : GlobalEffect) (a : Option EffectAt) → is_some a ≡ right
      → is_some (option_or a (effect_if single at what)) ≡ has_global_effects r j (acting (single || right))
  stored r j single right at what a is =
      either a (effect_if single at what) ∙ ap (λ z. z || is_some (effect_if single at what)) is ∙ ap (λ z. right || z) (if_named single at what)
      ∙ swapped right single ∙ sym (acting_has r j (single || right))

  mutual
    pub effect_named : (j : Bool) (x : NumberedStm) → is_some (first_effect p m j x) ≡ has_global_effects (return_acts p m) j (doings p (this_of m) x)
    effect_named j (st.Declare at type variable value) =
        stored (return_acts p m) j type.is_single (initial_acts p (this_of m) value) at effect.DeclaresSingle (initial_effect p m value) (initial_effect_named value)
    effect_named j (st.Assign at target value) =
        stored (return_acts p m) j (is_single_target target) (initial_acts p (this_of m) value) at effect.ChangesSingle (initial_effect p m value) (initial_effect_named value)
    effect_named j (st.Update at op target e) =
        stored (return_acts p m) j (is_single_target target) (acts p (this_of m) e) at effect.ChangesSingle (call_effect p m e) (call_named e)
    effect_named j (st.Step at op target) =
        if_named (is_single_target target) at effect.ChangesSingle ∙ sym (acting_has (return_acts p m) j (is_single_target target))
    effect_named j (st.Call e) = call_named e ∙ sym (acting_has (return_acts p m) j (acts p (this_of m) e))
    effect_named j (st.Barrier at) = refl
    effect_named j (st.Block body) = effects_named j body
    effect_named j (st.If at c a) = effect_named j a
    effect_named j (st.IfElse at c a b) =
        two (return_acts p m) j (first_effect p m j a) (first_effect p m j b) (doings p (this_of m) a) (doings p (this_of m) b) (effect_named j a) (effect_named j b)
    effect_named j (st.While at c body) = effect_named (loop_acts p m st.NoStm body) body ∙ loop_has (return_acts p m) j (doings p (this_of m) body)
    effect_named j (st.For at first c update body) =
        two (return_acts p m) j (first_effect_of_maybe p m j first)
        (option_or (first_effect p m (loop_acts p m update body) body) (first_effect_of_maybe p m (loop_acts p m update body) update))
        (doings_of_maybe p (this_of m) first) (kept_in_loop (together (doings_of_maybe p (this_of m) update) (doings p (this_of m) body)))
        (maybe_named j first)
        (either (first_effect p m (loop_acts p m update body) body) (first_effect_of_maybe p m (loop_acts p m update body) update)
        ∙ ap (λ z. z || is_some (first_effect_of_maybe p m (loop_acts p m update body) update)) (effect_named (loop_acts p m update body) body)
        ∙ ap (λ z. has_global_effects (return_acts p m) (loop_acts p m update body) (doings p (this_of m) body) || z) (maybe_named (loop_acts p m update body) update)
        ∙ update_has (return_acts p m) j (doings_of_maybe p (this_of m) update) (doings p (this_of m) body))
    effect_named j (st.Foreach at variable domain body) = effect_named (loop_acts p m st.NoStm body) body ∙ loop_has (return_acts p m) j (doings p (this_of m) body)
    effect_named j (st.Break at) = if_named j at effect.Jump
    effect_named j (st.Continue at) = if_named j at effect.Jump
    effect_named j (st.Return at value) = if_named (return_acts p m) at effect.Return ∙ sym (or_false (return_acts p m))
    effect_named j st.Empty = refl
    effect_named j (st.Print at what) = refl

    pub maybe_named : (j : Bool) (x : MaybeNumbered) → is_some (first_effect_of_maybe p m j x) ≡ has_global_effects (return_acts p m) j (doings_of_maybe p (this_of m) x)
    maybe_named j st.NoStm = refl
    maybe_named j (st.SomeStm x) = effect_named j x

    pub effects_named : (j : Bool) (xs : NumberedStms) → is_some (first_effect_of_all p m j xs) ≡ has_global_effects (return_acts p m) j (doings_of_all p (this_of m) xs)
    effects_named j st.Nil = refl
    effects_named j (st.Cons x rest) =
        two (return_acts p m) j (first_effect p m j x) (first_effect_of_all p m j rest) (doings p (this_of m) x) (doings_of_all p (this_of m) rest) (effect_named j x) (effects_named j rest)
