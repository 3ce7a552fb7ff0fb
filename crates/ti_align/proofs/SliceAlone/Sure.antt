-- What work with effects comes to from single values alone: it asks for nothing, and its moves are the slice's own.
use Rattle.std.proofs.Common.{◌≡◌, ℕ, ◌+◌, Bool, true, false, ◌&&◌, ◌||◌, inl, pos, option_map, Option, Some, None, List, [], ◌∷◌, ◌++◌, refl, ap, sym, ◌∙◌, subst}
use Rattle.std.specs.Option.{option_map_or}
use Rattle.ti_base.specs.declared.place.Place.{Place}
use Rattle.ti_base.specs.declared.action.Deposit.TheVariants as deposit
use Rattle.ti_base.specs.declared.entry.Answer.{Answer}
use Rattle.ti_lang.specs.Program.Types.{VariableUse}
use Rattle.ti_lang.specs.Program.Types as ty
use Rattle.ti_lang.specs.Program.Expressions.{NumberedExp, NumberedExps}
use Rattle.ti_lang.specs.Program.Expressions as e
use Rattle.ti_lang.specs.Program.Statements.{NumberedInit, NumberedStm}
use Rattle.ti_lang.specs.Program.Statements as s
use Rattle.ti_lang.specs.Program.Classes.{NumberedMethod, NumberedParam, NumberedParams, ProgramView}
use Rattle.ti_lang.specs.Program.Classes as c
use Rattle.ti_lang.specs.Program.Scope.{this_of}
use Rattle.ti_lang.specs.Typing.BuiltIn.{BuiltIn, Exchange, Delete}
use Rattle.ti_lang.specs.Typing.Declared.{result_type}
use Rattle.ti_lang.specs.Typing.Called.{called_method, member_called}
use Rattle.ti_lang.specs.Typing.Singleness.{has_single_result, is_single, is_single_part, is_single_initial}
use Rattle.ti_lang.specs.Typing.Effects.{acts, initial_acts, is_collective, is_collective_call, is_single_target}
use Rattle.ti_lang.specs.Meaning.Held.{Held}
use Rattle.ti_lang.specs.Meaning.Comp.{Comp, CompResult, Gives, Asks, Fails, bind_result, gives}
use Rattle.ti_lang.specs.Meaning.Conversions.{converted}
use Rattle.ti_lang.specs.Meaning.Operators.{apply_binary}
use Rattle.ti_lang.specs.Meaning.Processes.{Variable, Receiver, Nowhere, Declared, Assigned, Updated, While, Foreach, ContItem, Do, End, Before, Behind, Receive, CopyAll, TakeAll, Frame, Process}
use Rattle.ti_lang.specs.Meaning.Scoping.{Env, env_of, type_of, declared_type, with_new}
use Rattle.ti_lang.specs.Meaning.Evaluation.{eval}
use Rattle.ti_lang.specs.Meaning.Targets.{into}
use Rattle.ti_lang.specs.Meaning.Collectives.{root_among}
use Rattle.ti_lang.specs.Meaning.Calls.{call_of, called, parameters_of, parameters_from}
use Rattle.ti_lang.specs.Meaning.Moves.{Move, Goes, Calls, Returns, receives}
use Rattle.ti_lang.specs.Meaning.Statements.{declared_as, one_more, returns}
use Rattle.ti_lang.specs.Meaning.Performing.{condition, exec_item}
use Rattle.ti_lang.proofs.Lemmas.{Giving}
use Rattle.ti_rules.specs.declared.rule.Rule.TheVariants.{S1, S3, S4, S5, S7, S8}
use Rattle.ti_rules.specs.Refusals.{refused_if}
use Rattle.ti_rules.specs.StmtInContext.{StmtContext, in_foreach, inside}
use Rattle.ti_rules.specs.SingleRules.{is_plain_part, is_plain_condition, argument_refusals, params_refusals, call_refusals, whole_refusals, is_delete, initial_refusals, return_refusals}
use Rattle.ti_rules.proofs.Lemmas.{not_refused}
use Rattle.ti_align.specs.SinglePart.{singles}
use Rattle.ti_align.proofs.Alignment.Slice.{is_single_receiver, around_at, work_acts, single_bound, single_calling, single_value, single_initial, single_member, single_alone, single_return, single_performed}
use Rattle.ti_align.proofs.Runs.Vars.{true_false, if_true, if_false, singles_keep}
use Rattle.ti_align.proofs.Alignment.Single.{env_part, Sure, Same, guarded_same, converted_same, operated_same, single_same}
use Rattle.ti_align.proofs.Alignment.Fine.{none_both, kept_rule, OkWorks}
use Rattle.ti_align.proofs.Alignment.Fitting.{FineMethods, Fit, singles_at, target_same, value_rule, rules_of, work_fits}
use Rattle.ti_align.proofs.Alignment.Jumping.{acting_true}
use Rattle.ti_align.proofs.Alignment.Liking.{Like, receives_single, CalledAs, called_as, result_single}
use Rattle.ti_align.proofs.Alignment.Moving.{method_fine, fine_some, or_true, either, step_true, not_not, work_single}
use Rattle.ti_align.proofs.RunTypes.Operating.{or_one}

-- ---- computations

pub sure_followed : {A B : Type 0} (P : A → Type 0) (Q : B → Type 0) (g : CompResult A) (go : A → Comp B) → Sure P g → ((a : A) (r : List Answer) → P a → Sure Q (go a r)) → Sure Q (bind_result g go)
sure_followed P Q (Gives a r) go k h = h a r k
sure_followed P Q (Asks request) go k h = k
sure_followed P Q (Fails kind at) go k h = tt

-- behind one that gives the same in the slice
pub sure_then : {A B : Type 0} (Q : B → Type 0) (m m' : Comp A) (go : A → Comp B) (rest : List Answer) → Same m m' rest
    → ((a : A) (r : List Answer) → Sure Q (go a r)) → Sure Q (bind_result (m rest) go)
sure_then Q m m' go rest k h = sure_followed _ Q (m rest) go k (λ a r z. h a r)

abbrev Any : {A : Type 0} → A → Type 0
Any a = Unit {0}

gives_same : {A : Type 0} (a b : A) (r t : List Answer) → Gives a r ≡ Gives b t → a ≡ b
gives_same a b r t e = cc

-- what gives moves that are like some of its own gives moves that are like themselves
self_like : {A : Type 0} (P : A → Type 0) (R : A → A → Type 0) (g : CompResult A) → Giving P g → Giving (λ a. (b : A) × (g ≡ Gives b []) × R a b) g → Sure Any g → Sure (λ a. P a × R a a) g
self_like P R (Gives a r) p k h = (p, subst (R a) (sym (gives_same a k.0 r [] k.1)) k.2)
self_like P R (Asks request) p k h = h
self_like P R (Fails kind at) p k h = tt

sure_any : {A : Type 0} (P : A → Type 0) (g : CompResult A) → Sure P g → Sure Any g
sure_any P (Gives a r) h = tt
sure_any P (Asks request) h = h
sure_any P (Fails kind at) h = tt

giving_sure : {A : Type 0} (P : A → Type 0) (g : CompResult A) → Sure P g → Giving P g
giving_sure P (Gives a r) h = h
giving_sure P (Asks request) h = tt
giving_sure P (Fails kind at) h = tt

-- ---- receivers

-- what goes into a single variable asks for nothing
into_sure : (env : Env) (r : Receiver) (right right' : Comp Held) (rest : List Answer) → is_single_receiver r ≡ true → ((u : List Answer) → Same right right' u) → Sure Any (into env r right rest)
into_sure env Nowhere right right' rest h k = absurd (true_false (sym h))
into_sure env (Declared at x) right right' rest h k =
    sure_then Any right right' _ rest (k rest) (λ v u.
    sure_then Any (converted at (declared_type x.declared) v) (converted at (declared_type x.declared) v) _ u (converted_same at (declared_type x.declared) v u) (λ w t. tt))
into_sure env (Assigned at (e.Variable place x)) right right' rest h k =
    sure_then Any right right' _ rest (k rest) (λ v u.
    sure_then Any (converted at (type_of env (e.Variable place x)) v) (converted at (type_of env (e.Variable place x)) v) _ u (converted_same at (type_of env (e.Variable place x)) v u) (λ w t. tt))
into_sure env (Assigned at _) right right' rest h k = absurd (true_false (sym h))
into_sure env (Updated at op (e.Variable place x)) right right' rest h k =
    sure_then Any right right' _ rest (k rest) (λ v u.
    sure_then Any (apply_binary at op _ v) (apply_binary at op _ v) _ u (operated_same at op _ v u) (λ new i.
    sure_then Any (converted at (type_of env (e.Variable place x)) new) (converted at (type_of env (e.Variable place x)) new) _ i
    (converted_same at (type_of env (e.Variable place x)) new i) (λ w t. tt)))
into_sure env (Updated at op _) right right' rest h k = absurd (true_false (sym h))

receives_sure : (env : Env) (r : Receiver) (right right' : Comp Held) (rest : List Answer) → is_single_receiver r ≡ true
    → ((u : List Answer) → Same right right' u) → Sure Any (receives env r right rest)
receives_sure env r right right' rest h k = sure_followed Any Any (into env r right rest) _ (into_sure env r right right' rest h k) (λ vs u z. tt)

-- ---- parameters

abbrev pub Closed : List Variable → Type 0
Closed vs = singles vs ≡ vs

bound_sure : (env : Env) (a : StmtContext) (params : List NumberedParam) (k : ℕ) (xs : NumberedExps) (found : List Variable) (rest : List Answer)
    → a.method ≡ env.method → argument_refusals env.program a params xs ≡ [] → Closed found
    → Sure Closed (single_bound env (parameters_from k params) xs found rest)
bound_sure env a [] k xs found rest s h z = z
bound_sure env a (t ∷ ts) k e.NoExp found rest s h z = z
bound_sure env a (t ∷ ts) k (e.MoreExp x xs) found rest s h z =
    let u = none_both (refused_if (t.ty.is_single && is_plain_part env.program a x) S5 (e.place_of_numbered x)) _ h in
    go t.ty.is_single refl (not_refused _ S5 (e.place_of_numbered x) u.0) (λ r g y. bound_sure env a ts (k + 1) xs g r s u.1 y)
  where
    param : VariableUse
    param = record { number = k; declared = ty.Typed t.ty.is_single t.ty.type }

    go : (b : Bool) → t.ty.is_single ≡ b → (t.ty.is_single && is_plain_part env.program a x) ≡ false
        → ((r : List Answer) (g : List Variable) → Closed g → Sure Closed (single_bound env (parameters_from (k + 1) ts) xs g r))
        → Sure Closed (single_bound env (parameters_from k (t ∷ ts)) (e.MoreExp x xs) found rest)
    go true b f ih =
        subst (λ (m : Comp (List Variable)). Sure Closed (m rest)) (sym (if_true t.ty.is_single _ _ b))
        (sure_then Closed (eval env x) (eval (env_part env) x) _ rest
        (single_same env (singles_at a) x rest (subst (λ m. is_single_part env.program (this_of m) (singles_at a) x ≡ true) s
        (kept_rule _ _ f b))) (λ v r.
        sure_then Closed (converted (e.place_of_numbered x) t.ty.type v) (converted (e.place_of_numbered x) t.ty.type v)
        (λ w. single_bound env (parameters_from (k + 1) ts) xs (with_new param w found)) r
        (converted_same (e.place_of_numbered x) t.ty.type v r) (λ w u.
        ih u (with_new param w found) (singles_keep (record { named = param; held = w }) found b ∙ ap (λ y. record { named = param; held = w } ∷ y) z))))
    go false b f ih =
        subst (λ (m : Comp (List Variable)). Sure Closed (m rest)) (sym (if_false t.ty.is_single _ _ b)) (ih rest found z)

bound_of : (env : Env) (a : StmtContext) (ps : NumberedParams) (xs : NumberedExps) (rest : List Answer) → a.method ≡ env.method
    → params_refusals env.program a ps xs ≡ [] → Sure Closed (single_bound env (parameters_of ps) xs [] rest)
bound_of env a c.MainArgs xs rest s h = refl
bound_of env a (c.Params params) xs rest s h = bound_sure env a params 0 xs [] rest s h refl

-- ---- moves

module _ (q : Process) (f : Frame) (left : List ContItem) (ok : OkWorks q.setting.program f.method left) (fine : FineMethods q.setting.program q.setting.program.methods) (closed : env_part (env_of q f left) ≡ env_of q f left) where
  -- a move of the slice's own
  abbrev pub Stated : Move → Type 0
  Stated mv = Fit q.setting.program f.method left f.variables true mv × Like q.setting.program f.method left mv mv

  goes_sure : Stated (Goes f.variables [])
  goes_sure = ((ok, λ h. absurd (true_false h)), ap (λ (env : Env). Goes env.variables []) (sym closed))

  abbrev rest : List Answer
  rest = []

  -- single expressions
  part_sure : (x : NumberedExp) (u : List Answer) → is_single_part q.setting.program (this_of f.method) (singles_at (around_at q.setting.program f.method left)) x ≡ true
      → Same (eval (env_of q f left) x) (eval (env_part (env_of q f left)) x) u
  part_sure x u h = single_same (env_of q f left) (singles_at (around_at q.setting.program f.method left)) x u h

  received : (r : Receiver) (right : Comp Held) → is_single_receiver r ≡ true → ((u : List Answer) → Same right right u) → Sure Stated (receives (env_of q f left) r right [])
  received r right h k =
      self_like (Fit q.setting.program f.method left f.variables true) (Like q.setting.program f.method left) (receives (env_of q f left) r right [])
      (giving_sure (Fit q.setting.program f.method left f.variables true) _
      (sure_followed Any (Fit q.setting.program f.method left f.variables true) (into (env_of q f left) r right []) _
      (into_sure (env_of q f left) r right right [] h k) (λ vs u z. (ok, λ y. absurd (true_false y)))))
      (subst (λ env. Giving (λ a. (b : Move) × (receives env r right [] ≡ Gives b []) × Like q.setting.program f.method left a b) (receives (env_of q f left) r right [])) closed
      (receives_single q.setting.program f.method left (env_of q f left) r right right [] h k))
      (receives_sure (env_of q f left) r right right [] h k)

  -- what the slice does as a process does
  same_work : (w : ContItem) → single_performed (env_of q f left) w [] ≡ exec_item (env_of q f left) w []
      → OkWorks q.setting.program f.method (w ∷ left) → work_acts q.setting.program f.method left w ≡ true
      → Sure Any (exec_item (env_of q f left) w []) → Sure Stated (single_performed (env_of q f left) w [])
  same_work w z o h k =
      subst (Sure Stated) (sym z)
      (self_like (Fit q.setting.program f.method left f.variables true) (Like q.setting.program f.method left) (exec_item (env_of q f left) w [])
      (subst (λ b. Giving (Fit q.setting.program f.method left f.variables b) (exec_item (env_of q f left) w [])) h (work_fits q f left w [] o fine))
      (subst (λ g. Giving (λ a. (b : Move) × (g ≡ Gives b []) × Like q.setting.program f.method left a b) (exec_item (env_of q f left) w [])) z
      (subst (λ env. Giving (λ a. (b : Move) × (single_performed env w [] ≡ Gives b []) × Like q.setting.program f.method left a b) (exec_item (env_of q f left) w [])) closed
      (work_single q f left w [] o fine h)))
      k)

  -- ---- calls

  call_sure : (r : Receiver) (x : NumberedExp) (m : NumberedMethod) → called_method q.setting.program (this_of f.method) x ≡ Some m
      → m.is_single ≡ true → (is_single_receiver r ≡ true → has_single_result m ≡ true)
      → whole_refusals q.setting.program (around_at q.setting.program f.method left) x ≡ [] → (v : CalledAs (env_of q f left) x)
      → Sure Stated (single_calling (env_of q f left) r (call_of v.at v.object v.args m) [])
  call_sure r x m o i g w v =
      sure_followed Closed Stated (single_bound (env_of q f left) (parameters_of m.params) v.args [] []) _
      (bound_of (env_of q f left) (around_at q.setting.program f.method left) m.params v.args [] refl
      (subst (λ y. call_refusals q.setting.program (around_at q.setting.program f.method left) y v.args ≡ []) o (v.arguments (around_at q.setting.program f.method left) refl w)))
      (λ ps u z. ((fine_some q.setting.program _ m o (method_fine q.setting.program _ x fine), g, λ y. absurd (true_false y)), (ap (λ y. Calls v.at m None y r) (sym z), i)))

  called_is : (x : NumberedExp) (v : CalledAs (env_of q f left) x) (o : Option NumberedMethod)
      → called_method q.setting.program (this_of f.method) x ≡ o → called (env_of q f left) x ≡ option_map (call_of v.at v.object v.args) o
  called_is x v o z = v.is ∙ ap (option_map (call_of v.at v.object v.args)) z

  value_sure : (r : Receiver) (x : NumberedExp) (t : Bool) → (is_single_receiver r ≡ true → t ≡ true)
      → (t ≡ true → is_single q.setting.program (this_of f.method) (singles_at (around_at q.setting.program f.method left)) x ≡ true)
      → whole_refusals q.setting.program (around_at q.setting.program f.method left) x ≡ []
      → (t || acts q.setting.program (this_of f.method) x) ≡ true
      → Sure Stated (single_value (env_of q f left) r x (called (env_of q f left) x) [])
  value_sure r x t g k w h = by (called_method q.setting.program (this_of f.method) x) refl
    where
      v : CalledAs (env_of q f left) x
      v = called_as (env_of q f left) x

      one_of : (m : NumberedMethod) → called_method q.setting.program (this_of f.method) x ≡ Some m → t ≡ true → has_single_result m ≡ true
      one_of m o z = sym (ap (λ y. option_map_or has_single_result y (is_single_part q.setting.program (this_of f.method) (singles_at (around_at q.setting.program f.method left)) x)) o) ∙ k z

      single_of : (m : NumberedMethod) → called_method q.setting.program (this_of f.method) x ≡ Some m → m.is_single ≡ true
      single_of m o = by_test t refl
        where
          by_test : (b : Bool) → t ≡ b → m.is_single ≡ true
          by_test true z = result_single q.setting.program m (fine_some q.setting.program _ m o (method_fine q.setting.program _ x fine)) (one_of m o z)
          by_test false z =
              let a : acts q.setting.program (this_of f.method) x ≡ true = either t _ h (λ y. true_false (sym y ∙ z)) in
              sym (ap (λ y. option_map_or (λ (m : NumberedMethod). m.is_single) y false) o) ∙ or_true _ _ a (v.collective m o)

      by_receiver : (b : Bool) → is_single_receiver r ≡ b → called_method q.setting.program (this_of f.method) x ≡ None → Sure Stated (single_value (env_of q f left) r x None [])
      by_receiver true z o =
          subst (λ (m : Comp Move). Sure Stated (m [])) (sym (if_true (is_single_receiver r) _ _ z))
          (received r (eval (env_of q f left) x) z (λ u.
          subst (λ env. Same (eval (env_of q f left) x) (eval env x) u) closed
          (part_sure x u (sym (ap (λ y. option_map_or has_single_result y
          (is_single_part q.setting.program (this_of f.method) (singles_at (around_at q.setting.program f.method left)) x)) o)
          ∙ k (g z)))))
      by_receiver false z o = subst (λ (m : Comp Move). Sure Stated (m [])) (sym (if_false (is_single_receiver r) _ _ z)) goes_sure

      by : (o : Option NumberedMethod) → called_method q.setting.program (this_of f.method) x ≡ o → Sure Stated (single_value (env_of q f left) r x (called (env_of q f left) x) [])
      by None o = subst (λ y. Sure Stated (single_value (env_of q f left) r x y [])) (sym (called_is x v None o)) (by_receiver (is_single_receiver r) refl o)
      by (Some m) o = subst (λ y. Sure Stated (single_value (env_of q f left) r x y [])) (sym (called_is x v (Some m) o)) (call_sure r x m o (single_of m o) (λ z. one_of m o (g z)) w v)

  -- ---- right sides

  initial_sure : (r : Receiver) (value : NumberedInit) (t : Bool) → (is_single_receiver r ≡ true → t ≡ true)
      → (t ≡ true → is_single_initial q.setting.program (this_of f.method) (singles_at (around_at q.setting.program f.method left)) value ≡ true)
      → initial_refusals q.setting.program (around_at q.setting.program f.method left) value ≡ []
      → (t || initial_acts q.setting.program (this_of f.method) value) ≡ true
      → Sure Stated (single_initial (env_of q f left) r value [])
  initial_sure r (s.Value x) t g k w h = value_sure r x t g k w h
  initial_sure r (s.NewRegion at) t g k w h = ((ok, λ y. true_false y), (deposit.Nothing, refl, tt, refl))
  initial_sure r (s.NewObject at region class) t g k w h = goes_sure
  initial_sure r (s.NewGrid at region element dims_at dims) t g k w h = goes_sure
  initial_sure r (s.Broadcast at x root) t g k w h =
      sure_then Stated (eval (env_of q f left) root) (eval (env_part (env_of q f left)) root) _ [] (part_sure root [] (kept_rule true _ (not_refused _ S8 at w) refl)) (λ v u.
      sure_then Stated (root_among q.setting.procs at v) (root_among q.setting.procs at v) _ u (guarded_same _ _ at _ u) (λ n y. ((ok, λ z. true_false z), (deposit.Nothing, refl, tt, refl))))

  -- ---- expressions that stand alone

  member_sure : (at : Place) (x : NumberedExp) (o : Option BuiltIn) → is_collective o ≡ true
      → (is_delete o ≡ true → is_single_part q.setting.program (this_of f.method) (singles_at (around_at q.setting.program f.method left)) x ≡ true)
      → Sure Stated (single_member (env_of q f left) at x o [])
  member_sure at x (Some Exchange) h k = ((ok, λ z. true_false z), (deposit.Nothing, refl, tt, refl))
  member_sure at x (Some Delete) h k =
      sure_then Stated (eval (env_of q f left) x) (eval (env_part (env_of q f left)) x) _ [] (part_sure x [] (k refl)) (λ v u. ((λ z. true_false z), refl))
  member_sure at x _ h k = absurd (true_false (sym h))

  uncalled_sure : (x : NumberedExp) → whole_refusals q.setting.program (around_at q.setting.program f.method left) x ≡ []
      → is_collective_call q.setting.program (this_of f.method) x ≡ true → Sure Stated (single_alone (env_of q f left) x None [])
  uncalled_sure (e.Member at a name args) w h =
      let p = q.setting.program in
      let t = this_of f.method in
      let o = member_called p t a name in
      member_sure at a o h (λ z. kept_rule (is_delete o) _ (not_refused _ S8 at (none_both (call_refusals p (around_at p f.method left) (called_method p t (e.Member at a name args)) args) _ w).1) z)
  uncalled_sure _ w h = absurd (true_false (sym h))

  alone_sure : (x : NumberedExp) → whole_refusals q.setting.program (around_at q.setting.program f.method left) x ≡ []
      → acts q.setting.program (this_of f.method) x ≡ true → Sure Stated (single_alone (env_of q f left) x (called (env_of q f left) x) [])
  alone_sure x w h = by (called_method q.setting.program (this_of f.method) x) refl
    where
      v : CalledAs (env_of q f left) x
      v = called_as (env_of q f left) x

      by : (o : Option NumberedMethod) → called_method q.setting.program (this_of f.method) x ≡ o → Sure Stated (single_alone (env_of q f left) x (called (env_of q f left) x) [])
      by None o =
          subst (λ y. Sure Stated (single_alone (env_of q f left) x y [])) (sym (called_is x v None o))
          (uncalled_sure x w (either _ _ h (λ y. true_false (sym y ∙ ap (λ i. option_map_or (λ (m : NumberedMethod). m.is_single) i false) o))))
      by (Some m) o =
          subst (λ y. Sure Stated (single_alone (env_of q f left) x y [])) (sym (called_is x v (Some m) o))
          (call_sure Nowhere x m o (sym (ap (λ i. option_map_or (λ (m : NumberedMethod). m.is_single) i false) o) ∙ or_true _ _ h (v.collective m o)) (λ y. absurd (true_false (sym y))) w v)

  -- ---- statements

  return_sure : (at : Place) (value : Option NumberedExp) → return_refusals q.setting.program
      (around_at q.setting.program f.method left) at value ≡ [] → Sure Stated (single_return (env_of q f left) at value [])
  return_sure at value w = go (has_single_result f.method) refl value w
    where
      go : (b : Bool) → has_single_result f.method ≡ b → (value : Option NumberedExp)
          → return_refusals q.setting.program (around_at q.setting.program f.method left) at value ≡ []
          → Sure Stated (single_return (env_of q f left) at value [])
      go true z None w = subst (λ (m : Comp Move). Sure Stated (m []))
          (sym (if_true (has_single_result f.method) (returns (env_of q f left) at None) (gives (Returns None)) z))
          ((λ y. absurd (true_false y)), inl refl)
      go true z (Some x) w =
          subst (λ (m : Comp Move). Sure Stated (m [])) (sym (if_true (has_single_result f.method) (returns (env_of q f left) at (Some x)) (gives (Returns None)) z))
          (sure_then Stated (eval (env_of q f left) x) (eval (env_part (env_of q f left)) x) _ [] (part_sure x [] (kept_rule _ _ (not_refused _ S7 at w) z)) (λ v u.
          sure_then Stated (converted at (result_type f.method) v) (converted at (result_type f.method) v) _ u
          (converted_same at (result_type f.method) v u) (λ k y. ((λ i. absurd (true_false i)), inl refl))))
      go false z value w = subst (λ (m : Comp Move). Sure Stated (m []))
          (sym (if_false (has_single_result f.method) (returns (env_of q f left) at value) (gives (Returns None)) z))
          ((λ y. absurd (true_false y)), inl refl)

  statement_sure : (x : NumberedStm) → OkWorks q.setting.program f.method (Do x ∷ left) → work_acts q.setting.program f.method left (Do x)
      ≡ true → Sure Stated (single_performed (env_of q f left) (Do x) [])
  statement_sure s.Empty o h = goes_sure
  statement_sure (s.Declare at type variable value) o h =
      let p = q.setting.program in
      let a = around_at p f.method left in
      let r = (rules_of p a (s.Declare at type variable value) [] o.0).0 in
      initial_sure (Declared at (declared_as type variable)) value type.is_single (λ z. z)
      (value_rule type.is_single (is_single_initial p (this_of f.method) (singles_at a) value) S4 at (initial_refusals p a value) r)
      (none_both (initial_refusals p a value) _ r).0 (acting_true _ h)
  statement_sure (s.Assign at target value) o h =
      let p = q.setting.program in
      let a = around_at p f.method left in
      let r = (rules_of p a (s.Assign at target value) [] o.0).0 in
      initial_sure (Assigned at target) value (is_single_target target) (target_same target)
      (value_rule (is_single_target target) (is_single_initial p (this_of f.method) (singles_at a) value) S4 at (initial_refusals p a value) r)
      (none_both (initial_refusals p a value) _ r).0 (acting_true _ h)
  statement_sure (s.Update at op target x) o h =
      let p = q.setting.program in
      let a = around_at p f.method left in
      let r = (rules_of p a (s.Update at op target x) [] o.0).0 in
      initial_sure (Updated at op target) (s.Value x) (is_single_target target) (target_same target)
      (value_rule (is_single_target target) (is_single p (this_of f.method) (singles_at a) x) S4 at (whole_refusals p a x) r)
      (none_both (whole_refusals p a x) _ r).0 (acting_true _ h)
  statement_sure (s.Step at op target) o h =
      initial_sure (Updated at (one_more op) target) (s.Value (e.Int at (pos 1))) (is_single_target target) (target_same target) (λ z. refl) refl
      (step_true (is_single_target target) h)
  statement_sure (s.Call x) o h = alone_sure x (rules_of q.setting.program (around_at q.setting.program f.method left) (s.Call x) [] o.0).0 (acting_true _ h)
  statement_sure (s.Return at value) o h = return_sure at value (rules_of q.setting.program (around_at q.setting.program f.method left) (s.Return at value) [] o.0).0
  statement_sure (s.Print at what) o h = absurd (true_false (sym h))
  statement_sure (s.Barrier at) o h = same_work (Do (s.Barrier at)) refl o h tt
  statement_sure (s.Block body) o h = same_work (Do (s.Block body)) refl o h tt
  statement_sure (s.If at c x) o h =
      let p = q.setting.program in
      let a = around_at p f.method left in
      same_work (Do (s.If at c x)) refl o h
      (sure_then Any (eval (env_of q f left) c) (eval (env_part (env_of q f left)) c) _ []
      (part_sure c [] (kept_rule _ _ (not_refused _ S1 at (rules_of p a (s.If at c x) (inside p a x) o.0).0) h)) (λ v u. tt))
  statement_sure (s.IfElse at c x y) o h =
      let p = q.setting.program in
      let a = around_at p f.method left in
      same_work (Do (s.IfElse at c x y)) refl o h
      (sure_then Any (eval (env_of q f left) c) (eval (env_part (env_of q f left)) c) _ []
      (part_sure c [] (kept_rule _ _ (not_refused _ S1 at (rules_of p a (s.IfElse at c x y) (inside p a x ++ inside p a y) o.0).0) h))
      (λ v u. tt))
  statement_sure (s.While at c body) o h = same_work (Do (s.While at c body)) refl o h tt
  statement_sure (s.For at first c update body) o h = same_work (Do (s.For at first c update body)) refl o h tt
  statement_sure (s.Foreach at variable domain body) o h =
      let p = q.setting.program in
      let a = around_at p f.method left in
      let r = (rules_of p a (s.Foreach at variable domain body) (inside p (in_foreach p a variable domain body) body) o.0).0 in
      same_work (Do (s.Foreach at variable domain body)) refl o h
      (sure_then Any (eval (env_of q f left) domain) (eval (env_part (env_of q f left)) domain) _ [] (part_sure domain [] (kept_rule _ _ (not_refused _ S3 at r) (or_one _ h))) (λ v u. tt))
  statement_sure (s.Break at) o h = same_work (Do (s.Break at)) refl o h tt
  statement_sure (s.Continue at) o h = same_work (Do (s.Continue at)) refl o h tt

  -- ---- work

  condition_sure : (c : Option NumberedExp) → is_plain_condition q.setting.program (around_at q.setting.program f.method left) c ≡ false → Sure Any (condition (env_of q f left) c [])
  condition_sure None h = tt
  condition_sure (Some x) h = sure_any _ (eval (env_of q f left) x []) (part_sure x [] (not_not _ h))

  pub work_sure : (w : ContItem) → OkWorks q.setting.program f.method (w ∷ left) → work_acts q.setting.program f.method left w ≡ true → Sure Stated (single_performed (env_of q f left) w [])
  work_sure (Do x) o h = statement_sure x o h
  work_sure (End x) o h = same_work (End x) refl o h tt
  work_sure (Before (While at c update body)) o h =
      same_work (Before (While at c update body)) refl o h (sure_followed Any Any (condition (env_of q f left) c []) _ (condition_sure c (o.0.0 h)) (λ v u z. tt))
  work_sure (Before (Foreach at v d [] body)) o h = same_work (Before (Foreach at v d [] body)) refl o h tt
  work_sure (Before (Foreach at v d (x ∷ xs) body)) o h = same_work (Before (Foreach at v d (x ∷ xs) body)) refl o h tt
  work_sure (Behind loop) o h = same_work (Behind loop) refl o h tt
  work_sure (Receive r v) o h = received r (gives v) h (λ u. refl)
  work_sure (CopyAll at to from points) o h = absurd (true_false (sym h))
  work_sure (TakeAll at grid procs) o h = absurd (true_false (sym h))
