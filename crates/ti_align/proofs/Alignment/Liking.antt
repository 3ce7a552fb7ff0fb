-- What a piece of work with effects comes to in a process, it comes to in the slice.
use Rattle.std.proofs.Common.{◌≡◌, ℕ, ◌+◌, Bool, true, false, ◌&&◌, ◌||◌, ◌⊎◌, if◌then◌else◌, option_map, Option, Some, None, List, [], ◌∷◌, ◌++◌, refl, ap, ap₂, sym, ◌∙◌, subst, flat_map}
use Rattle.ti_base.specs.declared.place.Place.{Place}
use Rattle.ti_base.specs.declared.action.Deposit.{Deposit}
use Rattle.ti_base.specs.declared.entry.Answer.{Answer}
use Rattle.ti_syntax.specs.declared.tree.types.Qualifier.{Qualifier}
use Rattle.ti_lang.specs.Scopes.{is_single_word, has_single}
use Rattle.ti_lang.specs.Program.Types.{ValueType, Class, VariableUse}
use Rattle.ti_lang.specs.Program.Types as ty
use Rattle.ti_lang.specs.Program.Expressions.{NumberedExp, NumberedExps}
use Rattle.ti_lang.specs.Program.Expressions as e
use Rattle.ti_lang.specs.Program.Classes.{NumberedMethod, ProgramView, NumberedParam, NumberedParams, NumberedResult}
use Rattle.ti_lang.specs.Program.Classes as c
use Rattle.ti_lang.specs.Program.Scope.{this_of}
use Rattle.ti_lang.specs.Typing.Called.{called_method, method_behind}
use Rattle.ti_lang.specs.Typing.Kinds.{is_object}
use Rattle.ti_lang.specs.Typing.BuiltIn.{BuiltIn, built_in}
use Rattle.ti_lang.specs.Typing.Singleness.{has_single_result, single_result, is_single_part}
use Rattle.ti_lang.specs.Typing.Effects.{is_collective, is_collective_call}
use Rattle.ti_lang.specs.Meaning.Held.{Held}
use Rattle.ti_lang.specs.Meaning.Comp.{Comp, ◌>>=◌, CompResult, Gives, Asks, Fails, bind_result, gives}
use Rattle.ti_lang.specs.Meaning.Conversions.{converted}
use Rattle.ti_lang.specs.Meaning.Operators.{apply_binary}
use Rattle.ti_lang.specs.Meaning.Processes.{Variable, Receiver, Nowhere, Declared, Assigned, Updated, ContItem}
use Rattle.ti_lang.specs.Meaning.Scoping.{Env, find_variable, with_new, with_changed, type_of, declared_type}
use Rattle.ti_lang.specs.Meaning.Evaluation.{eval}
use Rattle.ti_lang.specs.Meaning.Targets.{into}
use Rattle.ti_lang.specs.Meaning.Calls.{Call, call_of, called, calling, bind_params, maybe_eval, maybe_needed, parameters_of, parameters_from}
use Rattle.ti_lang.specs.Meaning.Moves.{Move, Goes, Turns, Breaks, Continues, Calls, Returns, Meets, Deletes, receives, goes_on}
use Rattle.ti_lang.proofs.Lemmas.{Giving}
use Rattle.ti_rules.specs.declared.rule.Rule.TheVariants.{S5, S9}
use Rattle.ti_rules.specs.Refusals.{refused_if}
use Rattle.ti_rules.specs.StmtInContext.{StmtContext}
use Rattle.ti_rules.specs.SingleRules.{is_plain_part, argument_refusals, params_refusals, call_refusals, whole_refusals, word_refusals, result_refusals, effect_refusals}
use Rattle.ti_rules.proofs.Lemmas.{not_refused}
use Rattle.ti_align.specs.SinglePart.{singles}
use Rattle.ti_align.proofs.Alignment.Slice.{is_single_receiver, jump_at, single_bound, single_calling}
use Rattle.ti_align.proofs.Runs.Vars.{true_false, if_true, if_false, singles_keep, singles_drop, find_single, put_singles}
use Rattle.ti_align.proofs.Alignment.Single.{env_part, Rel, Same, rel_then, converted_same, operated_same, single_same}
use Rattle.ti_align.proofs.Alignment.Fine.{none_both, kept_rule, NoneActs}
use Rattle.ti_align.proofs.Alignment.Fitting.{Marked, FineMethod, singles_at, into_plain, giving_followed}

-- ---- combinators

rel_bound : {A B C D : Type 0} (R : A → B → Type 0) (S : C → D → Type 0) (g : CompResult A) (m' : Comp B) (go : A → Comp C) (go' : B → Comp D) → Giving (λ a. (b : B) × (m' [] ≡ Gives b []) × R a b) g
    → ((a : A) (b : B) (r : List Answer) → R a b → Rel S (go a) (go' b) r) → Giving (λ x. (d : D) × (bind_result (m' []) go' ≡ Gives d []) × S x d) (bind_result g go)
rel_bound {D = D} R S (Gives a r) m' go go' k h = subst (λ z. Giving (λ x. (d : D) × (bind_result z go' ≡ Gives d []) × S x d) (go a r)) (sym k.1) (h a k.0 r k.2)
rel_bound R S (Asks request) m' go go' k h = tt
rel_bound R S (Fails kind at) m' go go' k h = tt

pub rel_bind : {A B C D : Type 0} (R : A → B → Type 0) (S : C → D → Type 0) (m : Comp A) (m' : Comp B) (go : A → Comp C) (go' : B → Comp D) (rest : List Answer) → Rel R m m' rest
    → ((a : A) (b : B) (r : List Answer) → R a b → Rel S (go a) (go' b) r) → Rel S (m >>= go) (m' >>= go') rest
rel_bind R S m m' go go' rest k h = rel_bound R S (m rest) m' go go' k h

skip_got : {A C D : Type 0} (S : C → D → Type 0) (g : CompResult A) (go : A → Comp C) (m' : Comp D)
    → ((a : A) (r : List Answer) → Rel S (go a) m' r) → Giving (λ x. (d : D) × (m' [] ≡ Gives d []) × S x d) (bind_result g go)
skip_got S (Gives a r) go m' h = h a r
skip_got S (Asks request) go m' h = tt
skip_got S (Fails kind at) go m' h = tt

-- what the process alone does
pub rel_skip : {A C D : Type 0} (S : C → D → Type 0) (m : Comp A) (go : A → Comp C) (m' : Comp D) (rest : List Answer)
    → ((a : A) (r : List Answer) → Rel S (go a) m' r) → Rel S (m >>= go) m' rest
rel_skip S m go m' rest h = skip_got S (m rest) go m' h

-- ---- moves

-- what a move is in the slice
abbrev pub Like : ProgramView → NumberedMethod → List ContItem → Move → Move → Type 0
Like p m left (Goes vs ws) n = n ≡ Goes (singles vs) ws
Like p m left (Turns at vs ws) n = n ≡ Turns at (singles vs) ws
Like p m left Breaks n = (n ≡ Breaks) × (jump_at p m left ≡ Some true)
Like p m left Continues n = (n ≡ Continues) × (jump_at p m left ≡ Some true)
Like p m left (Calls at callee this ps r) n = (n ≡ Calls at callee None (singles ps) r) × (callee.is_single ≡ true)
Like p m left (Returns value) n = (n ≡ Returns value) ⊎ ((n ≡ Returns None) × (has_single_result m ≡ false))
Like p m left (Meets wait given behind) n = (d : Deposit) × (n ≡ Meets wait d []) × NoneActs p m behind left × (jump_at p m (behind ++ left) ≡ jump_at p m left)
Like p m left (Deletes at region) n = n ≡ Deletes at region

-- ---- receivers

abbrev SingleOf : List Variable → List Variable → Type 0
SingleOf vs ws = ws ≡ singles vs

pub into_single : (env : Env) (r : Receiver) (right right' : Comp Held) (rest : List Answer) → is_single_receiver r ≡ true
    → ((u : List Answer) → Same right right' u) → Rel SingleOf (into env r right) (into (env_part env) r right') rest
into_single env Nowhere right right' rest h k = absurd (true_false (sym h))
into_single env (Declared at x) right right' rest h k =
    rel_then SingleOf right right' _ _ rest (k rest) (λ v u.
    rel_then SingleOf (converted at (declared_type x.declared) v) (converted at (declared_type x.declared) v)
    (λ w. gives (with_new x w env.variables)) (λ w. gives (with_new x w (singles env.variables))) u
    (converted_same at (declared_type x.declared) v u) (λ w t.
    (_, refl, sym (singles_keep (record { named = x; held = w }) env.variables h))))
into_single env (Assigned at (e.Variable place x)) right right' rest h k =
    rel_then SingleOf right right' _ _ rest (k rest) (λ v u.
    rel_then SingleOf (converted at (type_of env (e.Variable place x)) v) (converted at (type_of env (e.Variable place x)) v)
    (λ w. gives (with_changed x w env.variables)) (λ w. gives (with_changed x w (singles env.variables))) u
    (converted_same at (type_of env (e.Variable place x)) v u) (λ w t.
    (_, refl, sym (put_singles x w env.variables))))
into_single env (Assigned at _) right right' rest h k = absurd (true_false (sym h))
into_single env (Updated at op (e.Variable place x)) right right' rest h k =
    rel_then SingleOf (gives (find_variable x env.variables)) (gives (find_variable x (singles env.variables)))
    (λ old. right >>= λ v. apply_binary at op old v >>= λ new. converted at (type_of env (e.Variable place x)) new >>= λ w. gives (with_changed x w env.variables))
    (λ old. right' >>= λ v. apply_binary at op old v >>= λ new. converted at (type_of env (e.Variable place x)) new >>= λ w. gives (with_changed x w (singles env.variables)))
    rest (ap (λ v. Gives v []) (sym (find_single x env.variables h))) (λ old q.
    rel_then SingleOf right right' _ _ q (k q) (λ v u.
    rel_then SingleOf (apply_binary at op old v) (apply_binary at op old v) _ _ u (operated_same at op old v u) (λ new i.
    rel_then SingleOf (converted at (type_of env (e.Variable place x)) new) (converted at (type_of env (e.Variable place x)) new)
    (λ w. gives (with_changed x w env.variables)) (λ w. gives (with_changed x w (singles env.variables))) i
    (converted_same at (type_of env (e.Variable place x)) new i) (λ w t.
    (_, refl, sym (put_singles x w env.variables))))))
into_single env (Updated at op _) right right' rest h k = absurd (true_false (sym h))

pub receives_single : (p : ProgramView) (m : NumberedMethod) (left : List ContItem) (env : Env) (r : Receiver) (right right' : Comp Held)
    (rest : List Answer) → is_single_receiver r ≡ true → ((u : List Answer) → Same right right' u)
    → Rel (Like p m left) (receives env r right) (receives (env_part env) r right') rest
receives_single p m left env r right right' rest h k =
    rel_bind SingleOf (Like p m left) (into env r right) (into (env_part env) r right') (λ vs. gives (Goes vs []))
    (λ vs. gives (Goes vs [])) rest (into_single env r right right' rest h k) (λ vs ws u z. (_, refl, ap (λ y. Goes y []) z))

pub receives_dropped : (p : ProgramView) (m : NumberedMethod) (left : List ContItem) (env : Env) (r : Receiver) (right : Comp Held)
    (rest : List Answer) → is_single_receiver r ≡ false → Rel (Like p m left) (receives env r right) (goes_on (env_part env)) rest
receives_dropped p m left env r right rest h =
    giving_followed (λ vs. singles vs ≡ singles env.variables) _ (into env r right rest) _ (into_plain env r right rest h) (λ vs u k. (_, refl, ap (λ y. Goes y []) (sym k)))

-- ---- calls

-- how an expression calls
pub record CalledAs (env : Env) (x : NumberedExp) : Type 0 where
  pub at : Place
  pub object : Option NumberedExp
  pub args : NumberedExps
  pub is : called env x ≡ option_map (call_of at object args) (called_method env.program (this_of env.method) x)
  pub part : called (env_part env) x ≡ called env x
  pub arguments : (a : StmtContext) → a.method ≡ env.method → whole_refusals env.program a x ≡ [] → call_refusals env.program a (called_method env.program (this_of env.method) x) args ≡ []
  pub collective : (m : NumberedMethod) → called_method env.program (this_of env.method) x ≡ Some m → is_collective_call env.program (this_of env.method) x ≡ false

none_method : (m : NumberedMethod) → ◌≡◌ {A = Option NumberedMethod} None (Some m) → ⊥
none_method m e = cc

of_object : (p : ProgramView) (t : ValueType) (name : ℕ) (o : Option BuiltIn) (m : NumberedMethod) → method_behind p t name ≡ Some m → is_collective (if is_object t then None else o) ≡ false
of_object p (Class k is_local) name o m h = refl
of_object p _ name o m h = absurd (none_method m h)

-- the rules on a call read the method that the text means in the method around it
here : (env : Env) (a : StmtContext) (x : NumberedExp) (args : NumberedExps) → a.method ≡ env.method → call_refusals env.program a (called_method env.program (this_of a.method) x) args ≡ []
    → call_refusals env.program a (called_method env.program (this_of env.method) x) args ≡ []
here env a x args e h = subst (λ m. call_refusals env.program a (called_method env.program (this_of m) x) args ≡ []) e h

pub called_as : (env : Env) (x : NumberedExp) → CalledAs env x
called_as env (e.Call at method args) = record { at = at; object = None; args = args; is = refl; part = refl; arguments = λ a z h. h; collective = λ m h. refl }
called_as env (e.OwnCall at method args) = record { at = at; object = Some (e.This at); args = args; is = refl; part = refl; arguments = λ a z h. h; collective = λ m h. refl }
called_as env (e.Member at x name args) = record {
  at = at;
  object = Some x;
  args = args;
  is = refl;
  part = refl;
  arguments = λ a z h. here env a (e.Member at x name args) args z (none_both (call_refusals env.program a (called_method env.program (this_of a.method) (e.Member at x name args)) args) _ h).0;
  collective = λ m h. of_object env.program (type_of env x) name (built_in env.program name) m h;
}
called_as env _ = record { at = record { line = 0; col = 0 }; object = None; args = e.NoExp; is = refl; part = refl; arguments = λ a z h. refl; collective = λ m h. refl }

-- a method with a single result is single
no_words : (words : List Qualifier) → flat_map word_refusals words ≡ [] → has_single words ≡ false
no_words [] h = refl
no_words (q ∷ qs) h =
    let k = none_both (refused_if (is_single_word q.word) S9 q.place) _ h in
    ap₂ (λ x y. x || y) (not_refused (is_single_word q.word) S9 q.place k.0) (no_words qs k.1)

unmarked_result : (r : NumberedResult) → Marked r → result_refusals false r ≡ [] → single_result r ≡ true → ⊥
unmarked_result c.Void k h z = true_false (sym z)
unmarked_result (c.Typed t) k h z = true_false (sym z ∙ k ∙ no_words t.qualifiers h)

pub result_single : (p : ProgramView) (m : NumberedMethod) → FineMethod p m → has_single_result m ≡ true → m.is_single ≡ true
result_single p m f h = go m.is_single refl
  where
    words : result_refusals m.is_single m.result ≡ []
    words = (none_both (effect_refusals p m) _ (none_both (effect_refusals p m ++ result_refusals m.is_single m.result) _ f.0).0).1

    go : (b : Bool) → m.is_single ≡ b → m.is_single ≡ true
    go true k = k
    go false k = absurd (unmarked_result m.result f.1 (subst (λ b. result_refusals b m.result ≡ []) k words) h)

-- parameters with their arguments
bound_single : (env : Env) (a : StmtContext) (params : List NumberedParam) (k : ℕ) (xs : NumberedExps) (found found' : List Variable)
    (rest : List Answer) → a.method ≡ env.method → argument_refusals env.program a params xs ≡ [] → found' ≡ singles found
    → Rel SingleOf (bind_params env (parameters_from k params) xs found) (single_bound (env_part env) (parameters_from k params) xs found') rest
bound_single env a [] k xs found found' rest s h z = (_, refl, z)
bound_single env a (t ∷ ts) k e.NoExp found found' rest s h z = (_, refl, z)
bound_single env a (t ∷ ts) k (e.MoreExp x xs) found found' rest s h z =
    let u = none_both (refused_if (t.ty.is_single && is_plain_part env.program a x) S5 (e.place_of_numbered x)) _ h in
    go t.ty.is_single refl (not_refused _ S5 (e.place_of_numbered x) u.0) (λ v r g y. bound_single env a ts (k + 1) xs (with_new (param) v found) g r s u.1 y)
  where
    param : VariableUse
    param = record { number = k; declared = ty.Typed t.ty.is_single t.ty.type }

    go : (b : Bool) → t.ty.is_single ≡ b → (t.ty.is_single && is_plain_part env.program a x) ≡ false
        → ((v : Held) (r : List Answer) (g : List Variable) → g ≡ singles (with_new param v found)
        → Rel SingleOf (bind_params env (parameters_from (k + 1) ts) xs (with_new param v found))
        (single_bound (env_part env) (parameters_from (k + 1) ts) xs g) r)
        → Rel SingleOf (bind_params env (parameters_from k (t ∷ ts)) (e.MoreExp x xs) found) (single_bound (env_part env) (parameters_from k (t ∷ ts)) (e.MoreExp x xs) found') rest
    go true b f ih =
        subst (λ m. Rel SingleOf (bind_params env (parameters_from k (t ∷ ts)) (e.MoreExp x xs) found) m rest) (sym (if_true t.ty.is_single _ _ b))
        (rel_then SingleOf (eval env x) (eval (env_part env) x) _ _ rest
        (single_same env (singles_at a) x rest (subst (λ m. is_single_part env.program (this_of m) (singles_at a) x ≡ true) s
        (kept_rule _ _ f b))) (λ v r.
        rel_then SingleOf (converted (e.place_of_numbered x) t.ty.type v) (converted (e.place_of_numbered x) t.ty.type v)
        (λ w. bind_params env (parameters_from (k + 1) ts) xs (with_new param w found))
        (λ w. single_bound (env_part env) (parameters_from (k + 1) ts) xs (with_new param w found')) r
        (converted_same (e.place_of_numbered x) t.ty.type v r) (λ w u.
        ih w u (with_new param w found') (ap (λ y. record { named = param; held = w } ∷ y) z ∙ sym (singles_keep (record { named = param; held = w }) found b)))))
    go false b f ih =
        subst (λ m. Rel SingleOf (bind_params env (parameters_from k (t ∷ ts)) (e.MoreExp x xs) found) m rest) (sym (if_false t.ty.is_single _ _ b))
        (rel_skip SingleOf (eval env x) (λ v. converted (e.place_of_numbered x) t.ty.type v >>= λ w. bind_params env
        (parameters_from (k + 1) ts) xs (with_new param w found))
        (single_bound (env_part env) (parameters_from (k + 1) ts) xs found') rest (λ v r.
        rel_skip SingleOf (converted (e.place_of_numbered x) t.ty.type v)
        (λ w. bind_params env (parameters_from (k + 1) ts) xs (with_new param w found))
        (single_bound (env_part env) (parameters_from (k + 1) ts) xs found') r (λ w u.
        ih w u found' (z ∙ sym (singles_drop (record { named = param; held = w }) found b)))))

bound_of : (env : Env) (a : StmtContext) (ps : NumberedParams) (xs : NumberedExps) (rest : List Answer) → a.method ≡ env.method → params_refusals env.program a ps xs ≡ []
    → Rel SingleOf (bind_params env (parameters_of ps) xs []) (single_bound (env_part env) (parameters_of ps) xs []) rest
bound_of env a c.MainArgs xs rest s h = (_, refl, refl)
bound_of env a (c.Params params) xs rest s h = bound_single env a params 0 xs [] [] rest s h refl

pub calling_single : (p : ProgramView) (m : NumberedMethod) (left : List ContItem) (env : Env) (a : StmtContext) (r : Receiver) (k : Call)
    (rest : List Answer) → a.method ≡ env.method → k.method.is_single ≡ true → params_refusals env.program a k.method.params k.args ≡ []
    → Rel (Like p m left) (calling env r k) (single_calling (env_part env) r k) rest
calling_single p m left env a r k rest s h o =
    rel_skip (Like p m left) (maybe_eval env k.object) _ (single_calling (env_part env) r k) rest (λ object u.
    rel_bind SingleOf (Like p m left) (bind_params env (parameters_of k.method.params) k.args []) (single_bound (env_part env) (parameters_of k.method.params) k.args [])
    (λ ps. maybe_needed k.place object >>= λ this. gives (Calls k.place k.method this ps r))
    (λ ps. gives (Calls k.place k.method None ps r)) u (bound_of env a k.method.params k.args u s o) (λ ps qs w z.
    rel_skip (Like p m left) (maybe_needed k.place object) (λ this. gives (Calls k.place k.method this ps r))
    (gives (Calls k.place k.method None qs r)) w (λ this i. (_, refl, (ap (λ y. Calls k.place k.method None y r) z, h)))))
