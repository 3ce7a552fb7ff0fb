-- Statements and work with effects: what they come to in a process, they come to in the slice.
use Rattle.std.proofs.Common.{◌≡◌, ℕ, Bool, true, false, not, ◌||◌, inl, inr, if◌then◌else◌, unwrap_or, pos, option_map, Option, Some, None, List, [], ◌∷◌, ◌++◌, refl, ap, sym, ◌∙◌, subst}
use Rattle.std.specs.Option.{option_map_or}
use Rattle.ti_base.specs.declared.place.Place.{Place}
use Rattle.ti_base.specs.declared.fault.FaultKind.{FaultKind}
use Rattle.ti_base.specs.declared.action.CollKind.TheVariants as coll
use Rattle.ti_base.specs.declared.action.Deposit.{Deposit}
use Rattle.ti_base.specs.declared.action.Deposit.TheVariants as deposit
use Rattle.ti_base.specs.declared.entry.Answer.{Answer}
use Rattle.ti_lang.specs.Program.Expressions.{NumberedExp, NumberedExps}
use Rattle.ti_lang.specs.Program.Expressions as e
use Rattle.ti_lang.specs.Program.Statements.{NumberedInit, NumberedStm, NoStm}
use Rattle.ti_lang.specs.Program.Statements as s
use Rattle.ti_lang.specs.Program.Classes.{NumberedMethod, ProgramView}
use Rattle.ti_lang.specs.Program.Scope.{this_of}
use Rattle.ti_lang.specs.Typing.BuiltIn.{BuiltIn, Exchange, Delete}
use Rattle.ti_lang.specs.Typing.Declared.{result_type}
use Rattle.ti_lang.specs.Typing.TextTypes.{syntactic_type}
use Rattle.ti_lang.specs.Typing.Called.{called_method, member_called}
use Rattle.ti_lang.specs.Typing.Singleness.{has_single_result, is_single, is_single_part, is_single_initial}
use Rattle.ti_lang.specs.Typing.Effects.{acts, initial_acts, is_collective, is_collective_call, is_single_target}
use Rattle.ti_lang.specs.Meaning.Held.{truth_of}
use Rattle.ti_lang.specs.Meaning.Comp.{ValueOf, Reference, Comp, ◌>>=◌, CompResult, Gives, gives, guard, needed}
use Rattle.ti_lang.specs.Meaning.Conversions.{converted}
use Rattle.ti_lang.specs.Meaning.Processes.{Receiver, Nowhere, Declared, Assigned, Updated, While, Foreach, ContItem, Do, End, Before, Behind, Receive, CopyAll, TakeAll, Frame, Wait, Process}
use Rattle.ti_lang.specs.Meaning.Scoping.{Env, env_of, type_of, type_here}
use Rattle.ti_lang.specs.Meaning.Evaluation.{eval, eval_all}
use Rattle.ti_lang.specs.Meaning.CellRefs.{domain_asked}
use Rattle.ti_lang.specs.Meaning.Copies.{count_up}
use Rattle.ti_lang.specs.Meaning.Collectives.{root_among, root_deposit, exchanges}
use Rattle.ti_lang.specs.Meaning.Calls.{Call, call_of, called, calling}
use Rattle.ti_lang.specs.Meaning.Moves.{Move, Goes, Turns, Returns, Meets, receives, goes_on}
use Rattle.ti_lang.specs.Meaning.Statements.{valued_or_called, initialized, member_alone, alone, one_more, declared_as, returns, statement}
use Rattle.ti_lang.specs.Meaning.Performing.{condition, declared_in, exec_item}
use Rattle.ti_rules.specs.declared.rule.Rule.TheVariants.{S1, S3, S4, S7, S8}
use Rattle.ti_rules.specs.StmtInContext.{StmtContext, in_foreach, inside}
use Rattle.ti_rules.specs.SingleRules.{has_effects, is_plain_condition, call_refusals, whole_refusals, is_delete, initial_refusals, return_refusals}
use Rattle.ti_rules.proofs.Lemmas.{not_refused}
use Rattle.ti_align.specs.SinglePart.{singles}
use Rattle.ti_align.proofs.Alignment.Slice.{is_single_receiver, jump_at, around_at, work_acts, exchange_wait, single_calling, single_value, single_initial, single_member, single_alone, single_return, single_statement, single_performed}
use Rattle.ti_align.proofs.Runs.Vars.{true_false, if_true, if_false, without_singles}
use Rattle.ti_align.proofs.Alignment.Single.{env_part, Rel, Same, rel_then, guarded_same, converted_same, single_same}
use Rattle.ti_align.proofs.Alignment.Fine.{none_both, kept_rule, Fine, OkWorks}
use Rattle.ti_align.proofs.Alignment.Fitting.{FineMethod, FineMethods, OneFine, at_fine, behind_fine, singles_at, target_same, value_rule, rules_of}
use Rattle.ti_align.proofs.Alignment.Jumping.{acting_true}
use Rattle.ti_align.proofs.Alignment.Liking.{rel_skip, Like, receives_single, receives_dropped, called_as, result_single, calling_single}
use Rattle.ti_align.proofs.RunTypes.Operating.{or_one}

-- the method that is called is one of the program
pub method_fine : (p : ProgramView) (t : Option ℕ) (x : NumberedExp) → FineMethods p p.methods → OneFine p (called_method p t x)
method_fine p t (e.Call at method args) f = at_fine p p.methods method f
method_fine p t (e.OwnCall at method args) f = at_fine p p.methods method f
method_fine p t (e.Member at a name args) f = behind_fine p (syntactic_type p t a) name f
method_fine p t _ f = tt

pub fine_some : (p : ProgramView) (o : Option NumberedMethod) (m : NumberedMethod) → o ≡ Some m → OneFine p o → FineMethod p m
fine_some p o m h f = subst (OneFine p) h f

pub or_true : (a b : Bool) → (a || b) ≡ true → b ≡ false → a ≡ true
or_true true b h k = refl
or_true false b h k = absurd (true_false (sym h ∙ k))

pub either : (a b : Bool) → (a || b) ≡ true → (a ≡ true → ⊥) → b ≡ true
either true b h k = absurd (k refl)
either false b h k = h

module _ (q : Process) (f : Frame) (left : List ContItem) (fine : FineMethods q.setting.program q.setting.program.methods) where
  -- a call with effects is one of a single method
  call_single : (r : Receiver) (x : NumberedExp) (m : NumberedMethod) (rest : List Answer) → called_method q.setting.program (this_of f.method) x ≡ Some m → m.is_single ≡ true
      → whole_refusals q.setting.program (around_at q.setting.program f.method left) x ≡ [] → (k : Call) → called (env_of q f left) x
      ≡ Some k → Rel (Like q.setting.program f.method left) (calling (env_of q f left) r k)
      (single_calling (env_part (env_of q f left)) r k) rest
  call_single r x m rest o i w k z =
      let v = called_as (env_of q f left) x in
      let s : call_of v.at v.object v.args m ≡ k = same_call _ _ (sym (ap (option_map (call_of v.at v.object v.args)) o) ∙ sym v.is ∙ z) in
      subst (λ y. Rel (Like q.setting.program f.method left) (calling (env_of q f left) r y) (single_calling (env_part (env_of q f left)) r y) rest) s
      (calling_single q.setting.program f.method left (env_of q f left) (around_at q.setting.program f.method left) r (call_of v.at v.object v.args m) rest refl i
      (subst (λ y. call_refusals q.setting.program (around_at q.setting.program f.method left) y v.args ≡ []) o (v.arguments (around_at q.setting.program f.method left) refl w)))
    where
      same_call : (a b : Call) → Some a ≡ Some b → a ≡ b
      same_call a b h = cc

  pub value_single : (r : Receiver) (x : NumberedExp) (t : Bool) (rest : List Answer) → (is_single_receiver r ≡ true → t ≡ true)
      → (t ≡ true → is_single q.setting.program (this_of f.method) (singles_at (around_at q.setting.program f.method left)) x ≡ true)
      → whole_refusals q.setting.program (around_at q.setting.program f.method left) x ≡ []
      → (t || acts q.setting.program (this_of f.method) x) ≡ true
      → Rel (Like q.setting.program f.method left) (valued_or_called (env_of q f left) r x (called (env_of q f left) x))
      (single_value (env_part (env_of q f left)) r x (called (env_part (env_of q f left)) x)) rest
  value_single r x t rest g k w h =
      let p = q.setting.program in
      let v = called_as (env_of q f left) x in
      subst (λ y. Rel (Like p f.method left) (valued_or_called (env_of q f left) r x (called (env_of q f left) x)) (single_value (env_part (env_of q f left)) r x y) rest) (sym v.part)
      (by (called_method p (this_of f.method) x) refl)
    where
      none_call : (k : Call) → ◌≡◌ {A = Option Call} None (Some k) → ⊥
      none_call k h = cc

      single_of : (m : NumberedMethod) → called_method q.setting.program (this_of f.method) x ≡ Some m → m.is_single ≡ true
      single_of m o = by_test t refl
        where
          by_test : (b : Bool) → t ≡ b → m.is_single ≡ true
          by_test true z =
              result_single q.setting.program m (fine_some q.setting.program _ m o (method_fine q.setting.program _ x fine))
              (sym (ap (λ y. option_map_or has_single_result y (is_single_part q.setting.program (this_of f.method) (singles_at (around_at q.setting.program f.method left)) x)) o) ∙ k z)
          by_test false z =
              let a : acts q.setting.program (this_of f.method) x ≡ true = either t _ h (λ y. true_false (sym y ∙ z)) in
              sym (ap (λ y. option_map_or (λ (m : NumberedMethod). m.is_single) y false) o) ∙ or_true _ _ a ((called_as (env_of q f left) x).collective m o)

      by_receiver : (b : Bool) → is_single_receiver r ≡ b → called_method q.setting.program (this_of f.method) x ≡ None
          → Rel (Like q.setting.program f.method left) (receives (env_of q f left) r (eval (env_of q f left) x))
          (if is_single_receiver r then receives (env_part (env_of q f left)) r (eval (env_part (env_of q f left)) x) else goes_on
          (env_part (env_of q f left))) rest
      by_receiver true z o =
          subst (λ y. Rel (Like q.setting.program f.method left) (receives (env_of q f left) r (eval (env_of q f left) x)) y rest) (sym (if_true (is_single_receiver r) _ _ z))
          (receives_single q.setting.program f.method left (env_of q f left) r (eval (env_of q f left) x) (eval (env_part (env_of q f left)) x) rest z (λ u.
          single_same (env_of q f left) (singles_at (around_at q.setting.program f.method left)) x u
          (sym (ap (λ y. option_map_or has_single_result y (is_single_part q.setting.program (this_of f.method)
          (singles_at (around_at q.setting.program f.method left)) x)) o) ∙ k (g z))))
      by_receiver false z o =
          subst (λ y. Rel (Like q.setting.program f.method left) (receives (env_of q f left) r (eval (env_of q f left) x)) y rest) (sym (if_false (is_single_receiver r) _ _ z))
          (receives_dropped q.setting.program f.method left (env_of q f left) r (eval (env_of q f left) x) rest z)

      by_call : (o : Option Call) → called (env_of q f left) x ≡ o → (o ≡ None → called_method q.setting.program (this_of f.method) x
          ≡ None) → ((k : Call) → o ≡ Some k → (m : NumberedMethod) × (called_method q.setting.program (this_of f.method) x ≡ Some m))
          → Rel (Like q.setting.program f.method left) (valued_or_called (env_of q f left) r x o) (single_value (env_part (env_of q f left)) r x o) rest
      by_call None z a b = by_receiver (is_single_receiver r) refl (a refl)
      by_call (Some c) z a b = let y = b c refl in call_single r x y.0 rest y.1 (single_of y.0 y.1) w c z

      by : (o : Option NumberedMethod) → called_method q.setting.program (this_of f.method) x ≡ o
          → Rel (Like q.setting.program f.method left) (valued_or_called (env_of q f left) r x (called (env_of q f left) x))
          (single_value (env_part (env_of q f left)) r x (called (env_of q f left) x)) rest
      by None o =
          let v = called_as (env_of q f left) x in
          let z : called (env_of q f left) x ≡ None = v.is ∙ ap (option_map (call_of v.at v.object v.args)) o in
          by_call (called (env_of q f left) x) refl (λ y. o) (λ c y. absurd (none_call c (sym z ∙ y)))
      by (Some m) o =
          let v = called_as (env_of q f left) x in
          let z : called (env_of q f left) x ≡ Some (call_of v.at v.object v.args m) = v.is ∙ ap (option_map (call_of v.at v.object v.args)) o in
          by_call (called (env_of q f left) x) refl (λ y. absurd (none_call _ (sym y ∙ z))) (λ c y. (m, o))

  initialized_single : (r : Receiver) (value : NumberedInit) (t : Bool) (rest : List Answer) → (is_single_receiver r ≡ true → t ≡ true)
      → (t ≡ true → is_single_initial q.setting.program (this_of f.method) (singles_at (around_at q.setting.program f.method left)) value ≡ true)
      → initial_refusals q.setting.program (around_at q.setting.program f.method left) value ≡ []
      → (t || initial_acts q.setting.program (this_of f.method) value) ≡ true
      → Rel (Like q.setting.program f.method left) (initialized (env_of q f left) r value) (single_initial (env_part (env_of q f left)) r value) rest
  initialized_single r (s.Value x) t rest g k w h = value_single r x t rest g k w h
  initialized_single r (s.NewRegion at) t rest g k w h = (_, refl, (deposit.Nothing, refl, tt, refl))
  initialized_single r (s.NewObject at region class) t rest g k w h = absurd (true_false (sym (k (or_true t false h refl))))
  initialized_single r (s.NewGrid at region element dims_at dims) t rest g k w h = absurd (true_false (sym (k (or_true t false h refl))))
  initialized_single r (s.Broadcast at x root) t rest g k w h =
      let i : is_single_part q.setting.program (this_of f.method) (singles_at (around_at q.setting.program f.method left)) root ≡ true = kept_rule true _ (not_refused _ S8 at w) refl in
      rel_then (Like q.setting.program f.method left) (eval (env_of q f left) root) (eval (env_part (env_of q f left)) root) _ _ rest
      (single_same (env_of q f left) (singles_at (around_at q.setting.program f.method left)) root rest i) (λ v u.
      rel_then (Like q.setting.program f.method left) (root_among q.setting.procs at v) (root_among q.setting.procs at v) _ _ u (guarded_same _ _ at _ u) (λ n y.
      rel_skip (Like q.setting.program f.method left) (root_deposit (env_of q f left) n x) (λ d. gives (Meets (sent at x n r) d []))
      (gives (Meets (sent at x n r) deposit.Nothing [])) y (λ d z. (_, refl, (deposit.Nothing, refl, tt, refl)))))
    where
      sent : (at : Place) (x : NumberedExp) (n : ℕ) (r : Receiver) → Wait
      sent at x n r = record { place = at; kind = coll.Broadcast; arg = Some n; wanted = ValueOf (type_here (env_of q f left) x); receiver = r }

  guarded_meets : (test : Bool) (kind : FaultKind) (at : Place) (d : Deposit) (grid : Reference) (rest : List Answer)
      → Rel (Like q.setting.program f.method left) (guard test kind at
      (Meets (exchange_wait at) d (TakeAll at grid (count_up 0 q.setting.procs) ∷ [])))
      (gives (Meets (exchange_wait at) deposit.Nothing [])) rest
  guarded_meets true kind at d grid rest = (_, refl, (deposit.Nothing, refl, (refl, tt), refl))
  guarded_meets false kind at d grid rest = tt

  exchanges_single : (at : Place) (x : NumberedExp) (args : NumberedExps) (rest : List Answer)
      → Rel (Like q.setting.program f.method left) (exchanges (env_of q f left) at x args)
      (gives (Meets (exchange_wait at) deposit.Nothing [])) rest
  exchanges_single at x args rest =
      let n = gives (Meets (exchange_wait at) deposit.Nothing []) in
      rel_skip (Like q.setting.program f.method left) (eval (env_of q f left) x) _ n rest (λ h r.
      rel_skip (Like q.setting.program f.method left) (eval_all (env_of q f left) args) _ n r (λ hs u.
      rel_skip (Like q.setting.program f.method left) (needed at (type_of (env_of q f left) x) h) _ n u (λ grid v.
      rel_skip (Like q.setting.program f.method left) (domain_asked at grid) _ n v (λ d w. guarded_meets _ _ at _ grid w))))

  member_single : (at : Place) (x : NumberedExp) (args : NumberedExps) (other : Comp Move) (o : Option BuiltIn) (rest : List Answer) → is_collective o ≡ true
      → (is_delete o ≡ true → is_single_part q.setting.program (this_of f.method) (singles_at (around_at q.setting.program f.method left)) x ≡ true)
      → Rel (Like q.setting.program f.method left) (member_alone (env_of q f left) at x args other o) (single_member (env_part (env_of q f left)) at x o) rest
  member_single at x args other (Some Exchange) rest h k = exchanges_single at x args rest
  member_single at x args other (Some Delete) rest h k =
      rel_then (Like q.setting.program f.method left) (eval (env_of q f left) x) (eval (env_part (env_of q f left)) x) _ _ rest
      (single_same (env_of q f left) (singles_at (around_at q.setting.program f.method left)) x rest (k refl)) (λ v u. (_, refl, refl))
  member_single at x args other _ rest h k = absurd (true_false (sym h))

  alone_single : (x : NumberedExp) (rest : List Answer) → whole_refusals q.setting.program (around_at q.setting.program f.method left) x ≡ [] → acts q.setting.program (this_of f.method) x ≡ true
      → Rel (Like q.setting.program f.method left) (alone (env_of q f left) x (called (env_of q f left) x)) (single_alone (env_part (env_of q f left)) x (called (env_part (env_of q f left)) x)) rest
  alone_single x rest w h =
      subst (λ y. Rel (Like q.setting.program f.method left) (alone (env_of q f left) x (called (env_of q f left) x))
      (single_alone (env_part (env_of q f left)) x y) rest) (sym (called_as (env_of q f left) x).part)
      (by (called_method q.setting.program (this_of f.method) x) refl)
    where
      none_call : (k : Call) → ◌≡◌ {A = Option Call} None (Some k) → ⊥
      none_call k h = cc

      -- no call, so a member
      no_call : (x : NumberedExp) → whole_refusals q.setting.program (around_at q.setting.program f.method left) x ≡ [] → is_collective_call q.setting.program (this_of f.method) x ≡ true
          → Rel (Like q.setting.program f.method left) (alone (env_of q f left) x None) (single_alone (env_part (env_of q f left)) x None) rest
      no_call (e.Member at a name args) w c =
          let p = q.setting.program in
          let t = this_of f.method in
          let o = member_called p t a name in
          member_single at a args _ o rest c
          (λ z. kept_rule (is_delete o) _ (not_refused _ S8 at (none_both (call_refusals p (around_at p f.method left) (called_method p t (e.Member at a name args)) args) _ w).1) z)
      no_call _ w c = absurd (true_false (sym c))

      by : (o : Option NumberedMethod) → called_method q.setting.program (this_of f.method) x ≡ o
          → Rel (Like q.setting.program f.method left) (alone (env_of q f left) x (called (env_of q f left) x))
          (single_alone (env_part (env_of q f left)) x (called (env_of q f left) x)) rest
      by None o =
          let v = called_as (env_of q f left) x in
          let z : called (env_of q f left) x ≡ None = v.is ∙ ap (option_map (call_of v.at v.object v.args)) o in
          subst (λ y. Rel (Like q.setting.program f.method left) (alone (env_of q f left) x y) (single_alone (env_part (env_of q f left)) x y) rest) (sym z)
          (no_call x w (either _ _ h (λ y. true_false (sym y ∙ ap (λ i. option_map_or (λ (m : NumberedMethod). m.is_single) i false) o))))
      by (Some m) o =
          let v = called_as (env_of q f left) x in
          let z : called (env_of q f left) x ≡ Some (call_of v.at v.object v.args m) = v.is ∙ ap (option_map (call_of v.at v.object v.args)) o in
          subst (λ y. Rel (Like q.setting.program f.method left) (alone (env_of q f left) x y) (single_alone (env_part (env_of q f left)) x y) rest) (sym z)
          (call_single Nowhere x m rest o (sym (ap (λ i. option_map_or (λ (m : NumberedMethod). m.is_single) i false) o) ∙ or_true _ _ h (v.collective m o)) w _ z)

-- ---- statements

pub step_true : (t : Bool) → ((t || false) || false) ≡ true → (t || false) ≡ true
step_true true h = refl
step_true false h = h

jump_true : (o : Option Bool) → unwrap_or o false ≡ true → o ≡ Some true
jump_true (Some true) h = refl
jump_true (Some false) h = absurd (true_false (sym h))
jump_true None h = absurd (true_false (sym h))

return_single : (q : Process) (f : Frame) (left : List ContItem) (at : Place) (value : Option NumberedExp) (rest : List Answer)
    → return_refusals q.setting.program (around_at q.setting.program f.method left) at value ≡ []
    → Rel (Like q.setting.program f.method left) (returns (env_of q f left) at value) (single_return (env_part (env_of q f left)) at value) rest
return_single q f left at value rest w = go (has_single_result f.method) refl value w
  where
    go : (b : Bool) → has_single_result f.method ≡ b → (value : Option NumberedExp) → return_refusals q.setting.program (around_at q.setting.program f.method left) at value ≡ []
        → Rel (Like q.setting.program f.method left) (returns (env_of q f left) at value) (single_return (env_part (env_of q f left)) at value) rest
    go true z None w = (Returns None, ap (λ (m : Comp Move). m []) (if_true (has_single_result f.method) (returns (env_part (env_of q f left)) at None) (gives (Returns None)) z), inl refl)
    go false z None w = (Returns None, ap (λ (m : Comp Move). m []) (if_false (has_single_result f.method) (returns (env_part (env_of q f left)) at None) (gives (Returns None)) z), inl refl)
    go true z (Some x) w =
        subst (λ y. Rel (Like q.setting.program f.method left) (returns (env_of q f left) at (Some x)) y rest)
        (sym (if_true (has_single_result f.method) (returns (env_part (env_of q f left)) at (Some x)) (gives (Returns None)) z))
        (rel_then (Like q.setting.program f.method left) (eval (env_of q f left) x) (eval (env_part (env_of q f left)) x) _ _ rest
        (single_same (env_of q f left) (singles_at (around_at q.setting.program f.method left)) x rest
        (kept_rule _ _ (not_refused _ S7 at w) z)) (λ v u.
        rel_then (Like q.setting.program f.method left) (converted at (result_type f.method) v) (converted at (result_type f.method) v)
        (λ k. gives (Returns (Some k))) (λ k. gives (Returns (Some k))) u (converted_same at (result_type f.method) v u)
        (λ k y. (_, refl, inl refl))))
    go false z (Some x) w =
        subst (λ y. Rel (Like q.setting.program f.method left) (returns (env_of q f left) at (Some x)) y rest)
        (sym (if_false (has_single_result f.method) (returns (env_part (env_of q f left)) at (Some x)) (gives (Returns None)) z))
        (rel_skip (Like q.setting.program f.method left) (eval (env_of q f left) x) (λ v. converted at (result_type f.method) v >>= λ k. gives (Returns (Some k))) (gives (Returns None)) rest (λ v u.
        rel_skip (Like q.setting.program f.method left) (converted at (result_type f.method) v) (λ k. gives (Returns (Some k))) (gives (Returns None)) u (λ k y. (_, refl, inr (refl, z)))))

statement_single : (q : Process) (f : Frame) (left : List ContItem) (x : NumberedStm) (rest : List Answer) → FineMethods q.setting.program q.setting.program.methods
    → Fine q.setting.program (around_at q.setting.program f.method left) x → has_effects q.setting.program (around_at q.setting.program f.method left) x ≡ true
    → Rel (Like q.setting.program f.method left) (statement (env_of q f left) x) (single_statement (env_part (env_of q f left)) x) rest
statement_single q f left s.Empty rest g i h = absurd (true_false (sym h))
statement_single q f left (s.Declare at type variable value) rest g i h =
    let p = q.setting.program in
    let a = around_at p f.method left in
    let r = (rules_of p a (s.Declare at type variable value) [] i).0 in
    initialized_single q f left g (Declared at (declared_as type variable)) value type.is_single rest (λ z. z)
    (value_rule type.is_single (is_single_initial p (this_of f.method) (singles_at a) value) S4 at (initial_refusals p a value) r)
    (none_both (initial_refusals p a value) _ r).0 (acting_true _ h)
statement_single q f left (s.Assign at target value) rest g i h =
    let p = q.setting.program in
    let a = around_at p f.method left in
    let r = (rules_of p a (s.Assign at target value) [] i).0 in
    initialized_single q f left g (Assigned at target) value (is_single_target target) rest (target_same target)
    (value_rule (is_single_target target) (is_single_initial p (this_of f.method) (singles_at a) value) S4 at (initial_refusals p a value) r)
    (none_both (initial_refusals p a value) _ r).0 (acting_true _ h)
statement_single q f left (s.Update at op target x) rest g i h =
    let p = q.setting.program in
    let a = around_at p f.method left in
    let r = (rules_of p a (s.Update at op target x) [] i).0 in
    initialized_single q f left g (Updated at op target) (s.Value x) (is_single_target target) rest (target_same target)
    (value_rule (is_single_target target) (is_single p (this_of f.method) (singles_at a) x) S4 at (whole_refusals p a x) r)
    (none_both (whole_refusals p a x) _ r).0 (acting_true _ h)
statement_single q f left (s.Step at op target) rest g i h =
    let p = q.setting.program in
    let a = around_at p f.method left in
    initialized_single q f left g (Updated at (one_more op) target) (s.Value (e.Int at (pos 1))) (is_single_target target) rest (target_same target) (λ z. refl) refl
    (step_true (is_single_target target) h)
statement_single q f left (s.Call x) rest g i h = alone_single q f left g x rest (rules_of q.setting.program (around_at q.setting.program f.method left) (s.Call x) [] i).0 (acting_true _ h)
statement_single q f left (s.Print at what) rest g i h = absurd (true_false (sym h))
statement_single q f left (s.Barrier at) rest g i h = (_, refl, (deposit.Nothing, refl, tt, refl))
statement_single q f left (s.Block body) rest g i h = (_, refl, refl)
statement_single q f left (s.If at c x) rest g i h =
    let p = q.setting.program in
    let a = around_at p f.method left in
    rel_then (Like p f.method left) (eval (env_of q f left) c) (eval (env_part (env_of q f left)) c) _ _ rest
    (single_same (env_of q f left) (singles_at (around_at q.setting.program f.method left)) c rest
    (kept_rule _ _ (not_refused _ S1 at (rules_of p a (s.If at c x) (inside p a x) i).0) h)) (λ v u. (_, refl, refl))
statement_single q f left (s.IfElse at c x y) rest g i h =
    let p = q.setting.program in
    let a = around_at p f.method left in
    rel_then (Like p f.method left) (eval (env_of q f left) c) (eval (env_part (env_of q f left)) c) _ _ rest
    (single_same (env_of q f left) (singles_at (around_at q.setting.program f.method left)) c rest
    (kept_rule _ _ (not_refused _ S1 at (rules_of p a (s.IfElse at c x y) (inside p a x ++ inside p a y) i).0) h))
    (λ v u. (_, refl, refl))
statement_single q f left (s.While at c body) rest g i h = (_, refl, refl)
statement_single q f left (s.For at first c update body) rest g i h = (_, refl, refl)
statement_single q f left (s.Foreach at variable domain body) rest g i h =
    let p = q.setting.program in
    let a = around_at p f.method left in
    let r = (rules_of p a (s.Foreach at variable domain body) (inside p (in_foreach p a variable domain body) body) i).0 in
    rel_then (Like p f.method left) (eval (env_of q f left) domain) (eval (env_part (env_of q f left)) domain) _ _ rest
    (single_same (env_of q f left) (singles_at (around_at q.setting.program f.method left)) domain rest
    (kept_rule _ _ (not_refused _ S3 at r) (or_one _ h))) (λ v u. (_, refl, refl))
statement_single q f left (s.Break at) rest g i h = (_, refl, (refl, jump_true (jump_at q.setting.program f.method left) h))
statement_single q f left (s.Continue at) rest g i h = (_, refl, (refl, jump_true (jump_at q.setting.program f.method left) h))
statement_single q f left (s.Return at value) rest g i h = return_single q f left at value rest (rules_of q.setting.program (around_at q.setting.program f.method left) (s.Return at value) [] i).0

pub not_not : (b : Bool) → not b ≡ false → b ≡ true
not_not true h = refl
not_not false h = absurd (true_false h)

condition_same : (env : Env) (a : StmtContext) (c : Option NumberedExp) (rest : List Answer) → a.method ≡ env.method
    → is_plain_condition env.program a c ≡ false → Same (condition env c) (condition (env_part env) c) rest
condition_same env a None rest e h = refl
condition_same env a (Some x) rest e h = single_same env (singles_at a) x rest (subst (λ m. is_single_part env.program (this_of m) (singles_at a) x ≡ true) e (not_not _ h))

-- work with effects
pub work_single : (q : Process) (f : Frame) (left : List ContItem) (w : ContItem) (rest : List Answer) → OkWorks q.setting.program f.method (w ∷ left) → FineMethods q.setting.program q.setting.program.methods
    → work_acts q.setting.program f.method left w ≡ true → Rel (Like q.setting.program f.method left) (exec_item (env_of q f left) w) (single_performed (env_part (env_of q f left)) w) rest
work_single q f left (Do x) rest o g h = statement_single q f left x rest g o.0 h
work_single q f left (End x) rest o g h = (_, refl, ap (λ y. Goes y []) (sym (without_singles (declared_in x) f.variables)))
work_single q f left (Before (While at c update body)) rest o g h =
    rel_then (Like q.setting.program f.method left) (condition (env_of q f left) c) (condition (env_part (env_of q f left)) c) _ _ rest
    (condition_same (env_of q f left) (around_at q.setting.program f.method left) c rest refl (o.0.0 h)) (λ v u. by (truth_of v))
  where
    by : (t : Bool) → (n : Move)
        × (◌≡◌ {A = CompResult Move} (Gives (if t then Turns at (singles f.variables) (Do body ∷ Behind (While at c update body) ∷ []) else Goes
        (singles f.variables) []) []) (Gives n []))
        × Like q.setting.program f.method left (if t then Turns at f.variables (Do body ∷ Behind (While at c update body) ∷ []) else Goes f.variables []) n
    by true = (_, refl, refl)
    by false = (_, refl, refl)
work_single q f left (Before (Foreach at v d [] body)) rest o g h = (_, refl, refl)
work_single q f left (Before (Foreach at v d (x ∷ xs) body)) rest o g h = (_, refl, refl)
work_single q f left (Behind loop) rest o g h = (_, refl, refl)
work_single q f left (Receive r v) rest o g h = receives_single q.setting.program f.method left (env_of q f left) r (gives v) (gives v) rest h (λ u. refl)
work_single q f left (CopyAll at to from points) rest o g h = absurd (true_false (sym h))
work_single q f left (TakeAll at grid procs) rest o g h = absurd (true_false (sym h))
