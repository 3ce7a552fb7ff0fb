-- Statements that fit come to moves that fit, and so does all work.
use Rattle.std.proofs.Common.{◌≡◌, ℕ, zero, suc, ◌+◌, ◌<◌, ◌^◌, arith, ◌==◌, slice_index_or, Bool, true, false, not, ◌&&◌, ◌||◌, inl, inr, if◌then◌else◌, option_map, option_and_then, Option, Some, None, List, [], ◌∷◌, ◌++◌, refl, ap, ap₂, sym, ◌∙◌, subst, eqb-true}
use Rattle.ti_base.specs.declared.place.Place.{Place}
use Rattle.ti_base.specs.declared.fault.FaultKind.TheVariants as faults
use Rattle.ti_base.specs.declared.point.Point.{Point}
use Rattle.ti_base.specs.Rects.{meet}
use Rattle.ti_lang.specs.Program.Types.{ValueType}
use Rattle.ti_lang.specs.Program.Types as t
use Rattle.ti_lang.specs.Program.Expressions.{NumberedExp, NumberedExps}
use Rattle.ti_lang.specs.Program.Expressions as e
use Rattle.ti_lang.specs.Program.Statements.{NumberedStm}
use Rattle.ti_lang.specs.Program.Statements as st
use Rattle.ti_lang.specs.Program.Classes.{ProgramView}
use Rattle.ti_lang.specs.Program.Scope.{ScopeContents, this_of}
use Rattle.ti_lang.specs.Typing.Kinds.{is_local, is_void, is_object, element_of, dim_of_type, read_through, same_type}
use Rattle.ti_lang.specs.Typing.TextTypes.{static_element_type}
use Rattle.ti_lang.specs.Typing.Fits.{fits}
use Rattle.ti_lang.specs.Typing.BuiltIn.{BuiltIn, Size, Min, Max, Contains, Domain, Restrict, Translate, Slice, Copy, Exchange, Delete, built_in, same_grids, has_local_elements, can_copy, can_exchange, member_type}
use Rattle.ti_lang.specs.Typing.Declared.{instance_method}
use Rattle.ti_lang.specs.Typing.Expressions.{one, type_result, operands, operand_type}
use Rattle.ti_lang.specs.Typing.Expressions as typing
use Rattle.ti_lang.specs.Typing.Called as called
use Rattle.ti_lang.specs.Typing.Called.{member_called}
use Rattle.ti_lang.specs.Meaning.Held.{Held, Plain, no_value, rect_of, region_of, plain_of, as_type, truth_of}
use Rattle.ti_lang.specs.Meaning.Comp.{gives, needed}
use Rattle.ti_lang.specs.Meaning.Comp as ask
use Rattle.ti_lang.specs.Meaning.CellRefs.{domain_asked}
use Rattle.ti_lang.specs.Meaning.Processes.{Nowhere, Declared, Assigned, Updated, ContItem, Do, End, Before, Behind, Receive, CopyAll, TakeAll}
use Rattle.ti_lang.specs.Meaning.Scoping.{Env, type_of}
use Rattle.ti_lang.specs.Meaning.Evaluation.{eval, eval_all}
use Rattle.ti_lang.specs.Meaning.Copies.{first_type, copies, count_up}
use Rattle.ti_lang.specs.Meaning.Collectives.{exchanges, deletes}
use Rattle.ti_lang.specs.Meaning.Calls as call
use Rattle.ti_lang.specs.Meaning.Moves.{Goes, receives}
use Rattle.ti_lang.specs.Meaning.Statements.{declared_as, member_alone, alone, statement}
use Rattle.ti_lang.specs.Meaning.Performing.{declared_in, exec_item}
use Rattle.ti_lang.specs.Meaning.Answers.{IsRectOf}
use Rattle.ti_align.specs.HeapTyping.{HeapTyping, Grows, ArePoints, IsStorable, IsGridOf, IsPlaced, IsOf}
use Rattle.ti_align.specs.Mirrors.Sound.{ReferenceFits, Sound, value, fault, asks}
use Rattle.ti_align.specs.Mirrors.Fitting.{IsWritten, AreWritten}
use Rattle.ti_align.specs.Mirrors.ContItem.{uses_of, is_form_of_call, WholeFits, StmFits, taken_type, AreCounted, WorkFits}
use Rattle.ti_align.specs.Given.{contribution_type}
use Rattle.ti_align.proofs.Runs.Vars.{true_false, and_left, and_right}
use Rattle.ti_align.proofs.RunTypes.Computing.{grows_then, own_stays, grid_stays, of_stays, reference_stays, own_of, sound_then, sound_value, sound_guarded, Names, names_thing, needed_as}
use Rattle.ti_align.proofs.RunTypes.Operating.{none_some, some_same, where_some, type_same, Seen, seen_same, converted_fine}
use Rattle.ti_align.proofs.RunTypes.Forms.{natural_fits, one_fits, natural_from, points_placed, meet_form}
use Rattle.ti_align.proofs.RunTypes.Evaluating.{and_then, joined_there, one_there, AllOfTypes, seen_form, domain_fine, grid_in, not_object, eval_fine, all_fine}
use Rattle.ti_align.proofs.RunTypes.Storing.{plain_is, variables_stay, without_fits}
use Rattle.ti_align.proofs.RunTypes.Performed.{Ready, ready_stays, Fine, CalledOr, inner_fine, receives_fine, calling_fine, called_or}
use Rattle.ti_align.proofs.RunTypes.Working.{points_fit, init_fine, print_fine, return_fine, before_fine, behind_fine, copied_fine, taken_fine, all_fit, none_taken}

-- what a computation that gives a value at once gives
sound_gives : {A : Type 0} (p : ProgramView) (P : HeapTyping → A → Type 0) (w : HeapTyping) (a : A) → Sound p P w (gives a) → P w a
sound_gives p P w a (value b h z) = subst (P w) (sym (same (z []))) h
  where
    same : {b : _} → ask.Gives a [] ≡ ask.Gives b [] → a ≡ b
    same z = cc
sound_gives p P w a (fault kind at z) = absurd (never (z []))
  where
    never : ask.Gives a [] ≡ ask.Fails kind at → ⊥
    never z = cc
sound_gives p P w a (asks q z i k) = absurd (never z)
  where
    never : ask.Gives a [] ≡ ask.Asks q → ⊥
    never z = cc

no_place : Place
no_place = record { line = 0; col = 0 }

-- a value as one of the type of an element
as_fine : (p : ProgramView) (w : HeapTyping) (a b : ValueType) (h : Held) → IsStorable b → fits a b ≡ true → IsOf w a h → IsOf w b (as_type b h)
as_fine p w a t.Int h s f k = sound_gives p _ w _ (converted_fine p w no_place a t.Int _ h f (seen_same t.Int) k)
as_fine p w a t.Long h s f k = sound_gives p _ w _ (converted_fine p w no_place a t.Long _ h f (seen_same t.Long) k)
as_fine p w a t.Boolean h s f k = sound_gives p _ w _ (converted_fine p w no_place a t.Boolean _ h f (seen_same t.Boolean) k)
as_fine p w a (t.Pt n) h s f k = sound_gives p _ w _ (converted_fine p w no_place a (t.Pt n) _ h f (seen_same (t.Pt n)) k)
as_fine p w a (t.Rc n) h s f k = sound_gives p _ w _ (converted_fine p w no_place a (t.Rc n) _ h f (seen_same (t.Rc n)) k)
as_fine p w a (t.Class c l) h s f k = sound_gives p _ w _ (converted_fine p w no_place a (t.Class c l) _ h f (seen_same (t.Class c l)) k)
as_fine p w a (t.Grid x n l) h s f k = sound_gives p _ w _ (converted_fine p w no_place a (t.Grid x n l) _ h f (seen_same (t.Grid x n l)) k)
as_fine p w a (t.Dm n) h s f k = absurd s
as_fine p w a t.Region h s f k = absurd s
as_fine p w a t.Null h s f k = absurd s
as_fine p w a t.Void h s f k = absurd s

-- what is stored is a value
pub stored_value : (d : ValueType) → IsStorable d → is_void d ≡ false
stored_value (t.Dm n) k = absurd k
stored_value t.Region k = absurd k
stored_value t.Null k = absurd k
stored_value t.Void k = absurd k
stored_value _ k = refl

-- a member that is only read
abbrev is_read : BuiltIn → Bool
is_read Copy = false
is_read Exchange = false
is_read Delete = false
is_read b = true

read_value : (b : BuiltIn) (a u : ValueType) (ts : List ValueType) → is_read b ≡ true → member_type b a ts ≡ Some u → is_void u ≡ false
read_value Size (t.Rc n) u [] k z = ap is_void (sym (some_same t.Int u z))
read_value Size (t.Dm n) u [] k z = ap is_void (sym (some_same t.Int u z))
read_value Min (t.Rc n) u [] k z = ap is_void (sym (some_same (t.Pt n) u z))
read_value Max (t.Rc n) u [] k z = ap is_void (sym (some_same (t.Pt n) u z))
read_value Contains (t.Rc n) u (t.Pt m ∷ []) k z = ap is_void (sym (where_some (n == m) t.Boolean u z).1)
read_value Contains (t.Dm n) u (t.Pt m ∷ []) k z = ap is_void (sym (where_some (n == m) t.Boolean u z).1)
read_value Domain (t.Grid x n l) u [] k z = ap is_void (sym (some_same (t.Rc n) u z))
read_value Restrict (t.Grid x n l) u (t.Rc m ∷ []) k z = ap is_void (sym (where_some _ (t.Grid x n l) u z).1)
read_value Translate (t.Grid x n l) u (t.Pt m ∷ []) k z = ap is_void (sym (where_some _ (t.Grid x n l) u z).1)
read_value Slice (t.Grid x n l) u (t.Int ∷ t.Int ∷ []) k z = ap is_void (sym (where_some _ _ u z).1)
read_value Copy a u ts k z = absurd (true_false (sym k))
read_value Exchange a u ts k z = absurd (true_false (sym k))
read_value Delete a u ts k z = absurd (true_false (sym k))
read_value _ a u ts k z = absurd (none_some u z)

common_points : (b : Bool) (n : ℕ) (ps : List Point) → ArePoints n ps → ArePoints n (if b then ps else [])
common_points true n ps k = k
common_points false n ps k = tt

not_local : (b : Bool) → not b ≡ true → b ≡ false
not_local true h = absurd (true_false (sym h))
not_local false h = refl

-- local elements are copied from a local grid to a local one
copied_local : (b l i : Bool) → (not b || (l && i)) ≡ true → b ≡ true → (l ≡ true) × (i ≡ true)
copied_local true l i h z = (and_left l i h, and_right l i h)
copied_local false l i h z = absurd (true_false (sym z))

counted_fit : (i n : ℕ) → i + n < 2 ^ 31 → AreCounted (count_up i n)
counted_fit i zero h = tt
counted_fit i (suc n) h = (natural_fits i (omega (arith, h)), counted_fit (i + 1) n (omega (arith, h)))

module _ (s : ScopeContents) (env : Env) where
  abbrev p : ProgramView
  p = env.program

  -- the type of what is handed in at an exchange of this grid
  abbrev exchanged : NumberedExp → Option ValueType
  exchanged x = option_map element_of (operand_type p s x)

  -- the one argument
  one_held : (w : HeapTyping) (a : ValueType) (hs : List Held) → AllOfTypes w (a ∷ []) hs → IsOf w a (slice_index_or hs 0 no_value)
  one_held w a (h ∷ []) k = k.0
  one_held w a [] k = absurd k
  one_held w a (h ∷ i ∷ is) k = absurd k.1

  first_seen : (w : HeapTyping) → Ready s w env → (args : NumberedExps) (a : ValueType) → AreWritten (uses_of env.method) args → operands p s args ≡ Some (a ∷ []) → Seen a (first_type env args)
  first_seen w r e.NoExp a k q = absurd (none_first (some_same [] (a ∷ []) q))
    where
      none_first : [] ≡ a ∷ [] → ⊥
      none_first z = cc
  first_seen w r (e.MoreExp x xs) a k q =
      let j = joined_there (one (operand_type p s x)) (operands p s xs) (a ∷ []) q in
      let o = one_there (operand_type p s x) j.0 j.2 in
      subst (λ b. Seen b (type_of env x)) (same_first o.0 a j.1 (sym (ap (λ y. y ++ j.1) o.2) ∙ j.4)) (eval_fine (uses_of env.method) s w env r.fits r.fields x k.0 o.0 o.1).seen
    where
      same_first : (x y : ValueType) (xs : List ValueType) → x ∷ xs ≡ y ∷ [] → x ≡ y
      same_first x y xs z = cc

  copies_fine : (handed untaken : Option ValueType) (w : HeapTyping) → Ready s w env
      → (at : Place) (x : NumberedExp) (args : NumberedExps) (a u : ValueType) (ts : List ValueType) → member_type Copy a ts ≡ Some u
      → IsWritten (uses_of env.method) (e.Member at x 0 args) → operand_type p s x ≡ Some a → operands p s args ≡ Some ts
      → Fine s env handed untaken w (copies env at x args)
  copies_fine handed untaken w r at x args (t.Grid d n l) u (t.Grid c m i ∷ []) z k j q =
      let both_of = where_some (same_grids (t.Grid d n l) (t.Grid c m i) && can_copy (t.Grid d n l) (t.Grid c m i)) t.Void u z in
      let same = and_left (same_type d c && (n == m)) _ both_of.0 in
      let here = copied_local (is_local d) l i (and_right (same_type d c && (n == m)) _ both_of.0) in
      let to_seen : type_of env x ≡ t.Grid d n l = (eval_fine (uses_of env.method) s w env r.fits r.fields x k.0 (t.Grid d n l) j).seen in
      let from_seen : first_type env args ≡ t.Grid c m i = first_seen w r args (t.Grid c m i) k.1 q in
      let d_is : c ≡ d = sym (type_same d c (and_left (same_type d c) (n == m) same)) in
      let n_is : m ≡ n = sym (eqb-true n m (and_right (same_type d c) (n == m) same)) in
      sound_then p (λ u h. IsOf u (t.Grid d n l) h) _ w (eval env x) _ (inner_fine s env w r x (t.Grid d n l) k.0 j) (λ a g h y.
      let ra = ready_stays s w a env g r in
      sound_then p (λ u hs. AllOfTypes u (t.Grid c m i ∷ []) hs) _ a (eval_all env args) _ (all_fine (uses_of env.method) s a env ra.fits ra.fields args k.1 (t.Grid c m i ∷ []) q) (λ b o hs ys.
      let to_of = of_stays a b (t.Grid d n l) h o y in
      sound_then p (λ u g. Names (λ u id. IsGridOf u d n id) (type_of env x) u g) _ b (needed at (type_of env x) h) _
      (needed_as p b at (type_of env x) h (λ u id. IsGridOf u d n id) (grid_in b d n l h to_of) (λ z. own_of b (t.Grid d n l) h to_of (sym (ap is_local to_seen) ∙ z))) (λ f v to z.
      let from_of = of_stays b f (t.Grid c m i) _ v (one_held b (t.Grid c m i) hs ys) in
      sound_then p (λ u g. Names (λ u id. IsGridOf u d n id) (first_type env args) u g) _ f (needed at (first_type env args) (slice_index_or hs 0 no_value)) _
      (needed_as p f at (first_type env args) (slice_index_or hs 0 no_value) (λ u id. IsGridOf u d n id)
      (λ id id_is. subst (λ n. IsGridOf f d n id) n_is (subst (λ d. IsGridOf f d m id) d_is (grid_in f c m i _ from_of id id_is)))
      (λ z. own_of f (t.Grid c m i) _ from_of (sym (ap is_local from_seen) ∙ z))) (λ f2 v2 from z2.
      let to_fits : ReferenceFits f to = names_thing _ (type_of env x) (t.Grid d n l) f to to_seen z z.thing in
      let from_fits : ReferenceFits f2 from = names_thing _ (first_type env args) (t.Grid d n i) f2 from (from_seen ∙ ap₂ (λ a b. t.Grid a b i) d_is n_is) z2 z2.thing in
      sound_then p (λ u h. IsOf u (t.Rc n) h) _ f2 (domain_asked at to) _
      (domain_fine p f2 at to d n (grid_stays f f2 d n to.thing v2 z.thing) (reference_stays f f2 to v2 to_fits)
      (ap dim_of_type (z.type ∙ to_seen))) (λ f3 v3 h3 y3.
      sound_then p (λ u h. IsOf u (t.Rc n) h) _ f3 (domain_asked at from) _
      (domain_fine p f3 at from d n (grid_stays f2 f3 d n from.thing v3 z2.thing) (reference_stays f2 f3 from v3 from_fits)
      (ap dim_of_type (z2.type ∙ from_seen) ∙ n_is)) (λ f4 v4 h4 y4.
      let all = grows_then f f3 f4 (grows_then f f2 f3 v2 v3) v4 in
      let from_there = grows_then f2 f3 f4 v3 v4 in
      let from_w = grows_then w b f4 (grows_then w a b g o) (grows_then b f f4 v all) in
      let both = meet_form n (rect_of h3) (rect_of h4) (subst (IsRectOf n) (sym (ap rect_of y3.1)) y3.2) (subst (IsRectOf n) (sym (ap rect_of y4.1)) y4.2) in
      sound_value p _ f4 _ (
        variables_stay w f4 env.variables from_w r.variables,
        (
          (
            d,
            n,
            grid_stays f f4 d n to.thing all z.thing,
            grid_stays f2 f4 d n from.thing from_there z2.thing,
            common_points ((rect_of h3).dim == (rect_of h4).dim) n _ (points_placed n (meet (rect_of h3) (rect_of h4)) both).0,
            reference_stays f f4 to all to_fits,
            reference_stays f2 f4 from from_there from_fits,
            λ e. own_stays f f4 (is_local to.type) (Some to.thing) all z.own (ap is_local (z.type ∙ to_seen) ∙ (here e).0),
            λ e. own_stays f2 f4 (is_local from.type) (Some from.thing) from_there z2.own (ap is_local (z2.type ∙ from_seen) ∙ (here e).1),
            seen_form (static_element_type from.type) d i (ap static_element_type (z2.type ∙ from_seen) ∙ ap (read_through i) d_is),
          ),
          tt,
        ),
        tt,
      )))))))
  copies_fine handed untaken w r at x args _ u (y ∷ []) z k j q = absurd (true_false (sym (where_some _ t.Void u z).0))
  copies_fine handed untaken w r at x args _ u [] z k j q = absurd (none_some u z)
  copies_fine handed untaken w r at x args _ u (y ∷ y2 ∷ ys) z k j q = absurd (none_some u z)

  exchanges_fine : (untaken : Option ValueType) (w : HeapTyping) → Ready s w env
      → (at : Place) (x : NumberedExp) (args : NumberedExps) (a u : ValueType) (ts : List ValueType) → member_type Exchange a ts ≡ Some u
      → IsWritten (uses_of env.method) (e.Member at x 0 args) → operand_type p s x ≡ Some a → operands p s args ≡ Some ts
      → Fine s env (exchanged x) untaken w (exchanges env at x args)
  exchanges_fine untaken w r at x args (t.Grid d n l) u (c ∷ []) z k j q =
      let may = (where_some (can_exchange (t.Grid d n l) c && not (has_local_elements (t.Grid d n l))) t.Void u z).0 in
      let can = and_left ((n == 1) && fits c d) _ may in
      let global = not_local (is_local d) (and_right ((n == 1) && fits c d) _ may) in
      let n_is : n ≡ 1 = eqb-true n 1 (and_left (n == 1) (fits c d) can) in
      let seen : type_of env x ≡ t.Grid d n l = (eval_fine (uses_of env.method) s w env r.fits r.fields x k.0 (t.Grid d n l) j).seen in
      sound_then p (λ u h. IsOf u (t.Grid d n l) h) _ w (eval env x) _ (inner_fine s env w r x (t.Grid d n l) k.0 j) (λ a g h y.
      let ra = ready_stays s w a env g r in
      sound_then p (λ u hs. AllOfTypes u (c ∷ []) hs) _ a (eval_all env args) _ (all_fine (uses_of env.method) s a env ra.fits ra.fields args k.1 (c ∷ []) q) (λ b o hs ys.
      let grid_of = of_stays a b (t.Grid d n l) h o y in
      sound_then p (λ u g. Names (λ u id. IsGridOf u d n id) (type_of env x) u g) _ b (needed at (type_of env x) h) _
      (needed_as p b at (type_of env x) h (λ u id. IsGridOf u d n id) (grid_in b d n l h grid_of) (λ z. own_of b (t.Grid d n l) h grid_of (sym (ap is_local seen) ∙ z))) (λ f v to z.
      let to_fits : ReferenceFits f to = names_thing _ (type_of env x) (t.Grid d n l) f to seen z z.thing in
      sound_then p (λ u h. IsOf u (t.Rc n) h) _ f (domain_asked at to) _ (domain_fine p f at to d n z.thing to_fits (ap dim_of_type (z.type ∙ seen))) (λ f2 v2 h2 y2.
      let grid = grid_stays f f2 d n to.thing v2 z.thing in
      let of : element_of (type_of env x) ≡ d = ap element_of seen in
      let of_to : element_of to.type ≡ element_of (type_of env x) = ap element_of z.type in
      let held = of_stays b f2 c _ (grows_then b f f2 v v2) (one_held b c hs ys) in
      sound_guarded p _ f2 _ faults.ExchangeDomain at _ (
        (
          d,
          tt,
          (
            subst (λ b. IsOf f2 d (Plain (plain_of (as_type b (slice_index_or hs 0 no_value))))) (sym of)
                (plain_is f2 d _ grid.4 (as_fine p f2 c d _ grid.4 (and_right (n == 1) (fits c d) can) held)),
            stored_value d grid.4,
            global,
          ),
          ap (option_map element_of) j,
          refl,
          (ap Some (sym (of_to ∙ of)), tt),
        ),
        (
          (
            subst (λ d. IsGridOf f2 d 1 to.thing) (sym (of_to ∙ of)) (subst (λ n. IsGridOf f2 d n to.thing) n_is grid),
            counted_fit 0 env.procs (omega (arith, natural_from env.procs r.fits.procs)),
            reference_stays f f2 to v2 to_fits,
            ap is_local (of_to ∙ of) ∙ global,
          ),
          tt,
        ),
      )))))
  exchanges_fine untaken w r at x args _ u (y ∷ []) z k j q = absurd (true_false (sym (where_some _ t.Void u z).0))
  exchanges_fine untaken w r at x args _ u [] z k j q = absurd (none_some u z)
  exchanges_fine untaken w r at x args _ u (y ∷ y2 ∷ ys) z k j q = absurd (none_some u z)

  deletes_fine : (handed untaken : Option ValueType) (w : HeapTyping) → Ready s w env
      → (at : Place) (x : NumberedExp) (a u : ValueType) (ts : List ValueType) → member_type Delete a ts ≡ Some u
      → IsWritten (uses_of env.method) x → operand_type p s x ≡ Some a → Fine s env handed untaken w (deletes env at x)
  deletes_fine handed untaken w r at x t.Region u ts z k j =
      sound_then p (λ u h. IsOf u t.Region h) _ w (eval env x) _ (inner_fine s env w r x t.Region k j) (λ a g h y. sound_value p _ a _ (subst (IsPlaced a) (sym (ap region_of y.1)) y.2))
  deletes_fine handed untaken w r at x _ u ts z k j = absurd (none_some u z)

  -- ---- statements that stand alone

  -- nothing is left of it
  nowhere_fine : (handed untaken : Option ValueType) (w : HeapTyping) → Ready s w env → Fine s env handed untaken w (receives env Nowhere (gives no_value))
  nowhere_fine handed untaken w r = receives_fine s env handed untaken w r Nowhere t.Void (gives no_value) tt (λ u g. sound_value p _ u _ tt)

  member_fine : (untaken : Option ValueType) (w : HeapTyping) → Ready s w env
      → (at : Place) (a : NumberedExp) (name : ℕ) (args : NumberedExps) (u : ValueType) → call.called env (e.Member at a name args) ≡ None
      → (type_result p s (e.Member at a name args)).type ≡ Some u
      → IsWritten (uses_of env.method) (e.Member at a name args) → (is_void u ≡ false → operand_type p s (e.Member at a name args) ≡ Some u)
      → Fine s env (exchanged a) untaken w (member_alone env at a args (receives env Nowhere (eval env (e.Member at a name args))) (member_called p (this_of env.method) a name))
  member_fine untaken w r at a name args u c z k o = by (operand_type p s a) refl (operands p s args) refl z
    where
      read : is_void u ≡ false → Fine s env (exchanged a) untaken w (receives env Nowhere (eval env (e.Member at a name args)))
      read q = receives_fine s env (exchanged a) untaken w r Nowhere u (eval env (e.Member at a name args)) tt
          (λ x g. inner_fine s env x (ready_stays s w x env g r) (e.Member at a name args) u k (o q))

      done : (b : BuiltIn) (x : ValueType) (ts : List ValueType) → member_type b x ts ≡ Some u → operand_type p s a ≡ Some x → operands p s args ≡ Some ts
          → Fine s env (exchanged a) untaken w (member_alone env at a args (receives env Nowhere (eval env (e.Member at a name args))) (Some b))
      done Copy x ts z i j = copies_fine (exchanged a) untaken w r at a args x u ts z k i j
      done Exchange x ts z i j = exchanges_fine untaken w r at a args x u ts z k i j
      done Delete x ts z i j = deletes_fine (exchanged a) untaken w r at a x u ts z k.0 i
      done Size x ts z i j = read (read_value Size x u ts refl z)
      done Min x ts z i j = read (read_value Min x u ts refl z)
      done Max x ts z i j = read (read_value Max x u ts refl z)
      done Contains x ts z i j = read (read_value Contains x u ts refl z)
      done Domain x ts z i j = read (read_value Domain x u ts refl z)
      done Restrict x ts z i j = read (read_value Restrict x u ts refl z)
      done Translate x ts z i j = read (read_value Translate x u ts refl z)
      done Slice x ts z i j = read (read_value Slice x u ts refl z)

      other : (x : ValueType) (ts : List ValueType) → operand_type p s a ≡ Some x → operands p s args ≡ Some ts → is_object x ≡ false
          → option_and_then (λ (b : BuiltIn). member_type b x ts) (built_in p name) ≡ Some u
          → Fine s env (exchanged a) untaken w (member_alone env at a args (receives env Nowhere (eval env (e.Member at a name args))) (member_called p (this_of env.method) a name))
      other x ts i j n z =
          let q = and_then (λ (b : BuiltIn). member_type b x ts) (built_in p name) u z in
          let seen = (eval_fine (uses_of env.method) s w env r.fits r.fields a k.0 x i).seen in
          subst (λ b. Fine s env (exchanged a) untaken w (member_alone env at a args
          (receives env Nowhere (eval env (e.Member at a name args))) b))
          (sym (ap (λ b. if b then None else built_in p name) (not_object x (type_of env a) n seen) ∙ q.1))
          (done q.0 x ts q.2 i j)

      by : (x : Option ValueType) → operand_type p s a ≡ x → (y : Option (List ValueType)) → operands p s args ≡ y → (typing.member_typing p x name y).type ≡ Some u
          → Fine s env (exchanged a) untaken w (member_alone env at a args (receives env Nowhere (eval env (e.Member at a name args))) (member_called p (this_of env.method) a name))
      by None i y j z = absurd (none_some u z)
      by (Some x) i None j z = absurd (none_some u z)
      by (Some (t.Class d l)) i (Some ts) j z = of (instance_method p d name) refl z
        where
          of : (m : Option _) → instance_method p d name ≡ m → (typing.called m (Some ts)).type ≡ Some u
              → Fine s env (exchanged a) untaken w (member_alone env at a args (receives env Nowhere (eval env (e.Member at a name args))) (member_called p (this_of env.method) a name))
          of None q z = absurd (none_some u z)
          of (Some m) q z =
              let seen = (eval_fine (uses_of env.method) s w env r.fits r.fields a k.0 (t.Class d l) i).seen in
              absurd (none_some _ (sym c ∙ ap (λ u. option_map (call.call_of at (Some a) args) (called.method_behind p u name)) seen ∙ ap (option_map (call.call_of at (Some a) args)) q))
      by (Some t.Int) i (Some ts) j z = other t.Int ts i j refl z
      by (Some t.Long) i (Some ts) j z = other t.Long ts i j refl z
      by (Some t.Boolean) i (Some ts) j z = other t.Boolean ts i j refl z
      by (Some (t.Pt n)) i (Some ts) j z = other (t.Pt n) ts i j refl z
      by (Some (t.Rc n)) i (Some ts) j z = other (t.Rc n) ts i j refl z
      by (Some (t.Dm n)) i (Some ts) j z = other (t.Dm n) ts i j refl z
      by (Some t.Region) i (Some ts) j z = other t.Region ts i j refl z
      by (Some (t.Grid x n l)) i (Some ts) j z = other (t.Grid x n l) ts i j refl z
      by (Some t.Null) i (Some ts) j z = other t.Null ts i j refl z
      by (Some t.Void) i (Some ts) j z = other t.Void ts i j refl z

  alone_fine : (untaken : Option ValueType) (w : HeapTyping) → Ready s w env → (x : NumberedExp) (u : ValueType) → WholeFits p env.method s x u
      → is_form_of_call x ≡ true → Fine s env (contribution_type p s (Do (st.Call x))) untaken w (alone env x (call.called env x))
  alone_fine untaken w r x u k f = by (called_or s env w r x u k)
    where
      none : (x : NumberedExp) → WholeFits p env.method s x u → is_form_of_call x ≡ true → call.called env x ≡ None
          → IsWritten (uses_of env.method) x → (is_void u ≡ false → operand_type p s x ≡ Some u)
          → Fine s env (contribution_type p s (Do (st.Call x))) untaken w (alone env x None)
      none (e.Call at method args) k f c i o = nowhere_fine None untaken w r
      none (e.OwnCall at method args) k f c i o = nowhere_fine None untaken w r
      none (e.Member at a name args) k f c i o = member_fine untaken w r at a name args u c k.0 i o
      none _ k f c i o = absurd (true_false (sym f))

      by : CalledOr s env w x u → Fine s env (contribution_type p s (Do (st.Call x))) untaken w (alone env x (call.called env x))
      by (inl c) = subst (λ o. Fine s env (contribution_type p s (Do (st.Call x))) untaken w (alone env x o)) (sym c.1) (calling_fine s env (contribution_type p s (Do (st.Call x))) untaken w r Nowhere c.0 u c.2 tt)
      by (inr c) = subst (λ o. Fine s env (contribution_type p s (Do (st.Call x))) untaken w (alone env x o)) (sym c.0) (none x k f c.0 c.1 c.2)

  -- ---- all statements

  pub statement_fine : (w : HeapTyping) → Ready s w env → (x : NumberedStm) → StmFits p env.method s x → Fine s env (contribution_type p s (Do x)) None w (statement env x)
  statement_fine w r st.Empty k = sound_value p _ w _ (r.variables, tt, tt)
  statement_fine w r (st.Declare at type variable right) k = init_fine s env None w r (Declared at (declared_as type variable)) right k.0 k.1 k.2
  statement_fine w r (st.Assign at target right) k = init_fine s env None w r (Assigned at target) right k.0 k.1 k.2
  statement_fine w r (st.Update at op target x) k = init_fine s env None w r (Updated at op target) (st.Value x) k.0 k.1 k.2
  statement_fine w r (st.Step at op target) k = init_fine s env None w r (Updated at _ target) (st.Value (e.Int at _)) t.Int ((refl, one_fits), refl) k
  statement_fine w r (st.Call x) k = alone_fine None w r x k.0 k.1 k.2
  statement_fine w r (st.Print at what) k = print_fine s env None None w r at what k
  statement_fine w r (st.Barrier at) k = sound_value p _ w _ ((t.Void, tt, tt, tt, refl, tt), tt)
  statement_fine w r (st.Break at) k = sound_value p _ w _ tt
  statement_fine w r (st.Continue at) k = sound_value p _ w _ tt
  statement_fine w r (st.Return at result) k = return_fine s env None None w r at result k
  statement_fine w r (st.Block body) k = sound_value p _ w _ (r.variables, all_fit s env w body (End (st.Block body) ∷ []) k (tt, tt), none_taken s env None body (End (st.Block body) ∷ []) tt)
  statement_fine w r (st.If at c x) k = sound_then p (λ u h. IsOf u t.Boolean h) _ w (eval env c) _ (inner_fine s env w r c t.Boolean k.0.0 k.0.1) (λ u g h y. by u g (truth_of h))
    where
      by : (u : HeapTyping) → Grows w u → (b : Bool) → Fine s env None None u (gives (Goes env.variables (if b then Do x ∷ [] else [])))
      by u g true = sound_value p _ u _ (variables_stay w u env.variables g r.variables, (k.1, tt), tt)
      by u g false = sound_value p _ u _ (variables_stay w u env.variables g r.variables, tt, tt)
  statement_fine w r (st.IfElse at c x y) k = sound_then p (λ u h. IsOf u t.Boolean h) _ w (eval env c) _ (inner_fine s env w r c t.Boolean k.0.0 k.0.1) (λ u g h z. by u g (truth_of h))
    where
      by : (u : HeapTyping) → Grows w u → (b : Bool) → Fine s env None None u (gives (Goes env.variables (Do (if b then x else y) ∷ [])))
      by u g true = sound_value p _ u _ (variables_stay w u env.variables g r.variables, (k.1, tt), tt)
      by u g false = sound_value p _ u _ (variables_stay w u env.variables g r.variables, (k.2, tt), tt)
  statement_fine w r (st.While at c body) k = sound_value p _ w _ (r.variables, ((k.0, tt, k.1), tt), tt)
  statement_fine w r (st.For at st.NoStm c update body) k = sound_value p _ w _ (r.variables, ((k.1, k.2, k.3), (tt, tt)), tt)
  statement_fine w r (st.For at (st.SomeStm x) c update body) k = sound_value p _ w _ (r.variables, (k.0, ((k.1, k.2, k.3), (tt, tt))), tt)
  statement_fine w r (st.Foreach at number domain body) k =
      let d = k.0.1.0 in
      sound_then p (λ u h. IsOf u d.0 h) _ w (eval env domain) _ (inner_fine s env w r domain d.0 d.1.0 d.1.1) (λ u g h y.
      sound_value p _ u _ (variables_stay w u env.variables g r.variables, (((k.0.0, k.0.1, points_fit u d.0 k.0.0 h d.2 y), k.1), tt), tt))

  pub work_fine : (w : HeapTyping) → Ready s w env → (x : ContItem) → WorkFits p env.method s w x → Fine s env (contribution_type p s x) (taken_type x) w (exec_item env x)
  work_fine w r (Do x) k = statement_fine w r x k
  work_fine w r (End x) k = sound_value p _ w _ (without_fits w (declared_in x) env.variables r.variables, tt, tt)
  work_fine w r (Before loop) k = before_fine s env None None w r loop k
  work_fine w r (Behind loop) k = behind_fine s env None None w r loop k.0
  work_fine w r (Receive receiver h) k = receives_fine s env None None w r receiver k.0 (gives h) k.2 (λ u g. sound_value p _ u _ (of_stays w u k.0 h g k.1))
  work_fine w r (CopyAll at to from points) k = copied_fine s env None None w r at to from points k
  work_fine w r (TakeAll at grid procs) k = taken_fine s env None w r at grid procs k
