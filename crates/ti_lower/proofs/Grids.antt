-- Proves that the code of a copy and of an exchange does what the semantics does up to their first element.
use Rattle.std.proofs.Common.{◌≡◌, inl, inr, ℕ, zero, suc, ◌+◌, ◌==◌, Bool, true, false, if◌then◌else◌, slice_get, slice_index_or, List, [], ◌∷◌, ◌++◌, length, map, Option, Some, None, refl, ap, sym, ◌∙◌, subst, arith}
use Rattle.ti_base.specs.declared.place.Place.{Place}
use Rattle.ti_base.specs.declared.point.Rect.{Rect}
use Rattle.ti_base.specs.declared.value.Id.{Id}
use Rattle.ti_base.specs.declared.value.Value.TheVariants as v
use Rattle.ti_base.specs.declared.fault.FaultKind.{FaultKind}
use Rattle.ti_base.specs.declared.fault.FaultKind.TheVariants.{NullRef, ExchangeDomain}
use Rattle.ti_lang.specs.Program.Scope.{this_of}
use Rattle.ti_base.specs.declared.action.Action.TheVariants as act
use Rattle.ti_base.specs.declared.action.CollKind.TheVariants as coll
use Rattle.ti_base.specs.declared.action.Deposit.TheVariants as deposit
use Rattle.ti_base.specs.declared.entry.Answer.{Answer}
use Rattle.ti_base.specs.Rects.{points_of, meet}
use Rattle.ti_lang.specs.Program.Types.{ValueType}
use Rattle.ti_lang.specs.Program.Types as t
use Rattle.ti_lang.specs.Program.Expressions.{NumberedExp, NumberedExps}
use Rattle.ti_lang.specs.Program.Classes.{ProgramView, NumberedMethod}
use Rattle.ti_lang.specs.Typing.Kinds.{element_of, dim_of_type}
use Rattle.ti_lang.specs.Typing.TextTypes.{how_many}
use Rattle.ti_lang.specs.Meaning.Held.{Held, Plain, Dm, no_value, truth, plain_of, rect_of, referent_of, points_in, as_type}
use Rattle.ti_lang.specs.Meaning.Comp.{Reference, ToBeDone, ValueOf, Gives, Fails, Comp, ◌>>=◌, bind_result, gives, fails, guard, needed, found_or, request_through}
use Rattle.ti_lang.specs.Meaning.Operands.{same_points, same_thing}
use Rattle.ti_lang.specs.Meaning.CellRefs.{domain_asked}
use Rattle.ti_lang.specs.Meaning.Collectives.{team, exchanges}
use Rattle.ti_lang.specs.Meaning.Copies.{first_type, common_points, copies, count_up, element_at}
use Rattle.ti_lang.specs.Meaning.Evaluation.{eval, eval_all}
use Rattle.ti_lang.specs.Meaning.Processes.{Variable, Wait, Nowhere, ContItem, CopyAll, TakeAll}
use Rattle.ti_lang.specs.Meaning.Moves.{Move, Goes, Meets}
use Rattle.ti_lang.specs.Meaning.Scoping.{Env, type_of}
use Rattle.ti_lang.specs.Meaning.Turns.{turns_at}
use Rattle.ti_code.specs.declared.instr.Instr.{Instr}
use Rattle.ti_code.specs.declared.instr.Instr.TheVariants as i
use Rattle.ti_code.specs.declared.instr.Operation.TheVariants as o
use Rattle.ti_code.specs.declared.instr.ValueMember.TheVariants as kind
use Rattle.ti_code.specs.Effects.{LocalState, Who, effect, top, below, slot, under, common_domain}
use Rattle.ti_code.specs.Leading.{CodeAt, pc_after, effect_of, here}
use Rattle.ti_code.specs.Machine.{arrival_of}
use Rattle.ti_lower_expr.specs.Slots.{Name, SlotsHold}
use Rattle.ti_lower_expr.specs.Coding.{code_of, code_of_all, pops}
use Rattle.ti_lower.specs.StmtCode.{LoopTargets, as_element, first_code, both_code, grids_code, team_code, elements_code, copied_code, taken_code, copy_code, exchange_code}
use Rattle.ti_lower_expr.specs.Doing.{ReachesResult, Implements}
use Rattle.ti_lower_expr.proofs.Lemmas.{front_stands, rest_stands, behind_both, does_then, does_value, does_behind, state, next, does}
use Rattle.ti_lower_expr.proofs.Lemmas.{all_do, PushesAll, pops_do, from_spot, as_many, newest, older, pushed, under_all}
use Rattle.ti_lower.proofs.Cutting.{Bare}
use Rattle.ti_lower.proofs.Writing.{new_put}
use Rattle.ti_lower.proofs.Receiving.{in_turn}
use Rattle.ti_lower.proofs.Elements.{through_does}
use Rattle.ti_lower.proofs.Working.{Left}
use Rattle.ti_lower.proofs.Standing as standing
use Rattle.ti_lower.proofs.Standing.{Elementwise}

-- a computation that fails at an instruction that does
does_fault : {A : Type 0} (w : Who) (c : List Instr) (P : A → LocalState → Type 0) (s : LocalState) (m : Comp A) (kind : FaultKind) (p : Place) (j : Instr) → slice_get c s.at ≡ Some j
    → ((rs : List Answer) → m rs ≡ Fails kind p) → ((rs : List Answer) → effect w j s rs ≡ Fails kind p) → Implements w c s m P
does_fault w c P s m kind p j st is fails rs =
    subst (λ g. ReachesResult w c P s rs g) (sym (is rs)) (s, rs, here, ap (λ x. effect_of w x s rs) st ∙ fails rs)

-- the points of both domains
points_common : (r s : Rect) → points_in (common_domain r s) ≡ common_points r s
points_common r s = by (r.dim == s.dim)
  where
    by : (test : Bool) → points_in (if test then Plain (v.Rc (meet r s)) else Dm r.dim []) ≡ (if test then points_of (meet r s) else [])
    by true = refl
    by false = refl

module _ (c : List Instr) (program : ProgramView) (method : NumberedMethod) (this_id : Option Id) (number procs : ℕ) (left : List ContItem) (vs : List Variable)
    (l : Option LoopTargets) (names : List Name) (slots stack : List Held) (holds : SlotsHold this_id names vs (turns_at left) slots) (bare : Bare names) where
  abbrev env : Env
  env = standing.env c program method this_id number procs vs left

  abbrev this : Option ℕ
  this = this_of method

  abbrev me : Who
  me = standing.who c program method this_id number procs

  abbrev Moved : Move → LocalState → Type 0
  Moved = standing.Moved c program method this_id number procs left vs

  abbrev n : ℕ
  n = length names

  n_is : n ≡ length slots
  n_is = as_many this_id names vs (turns_at left) slots holds

  abbrev at_spot : ℕ → List Held → LocalState
  at_spot = state c env names slots holds

  -- with two values waiting in slots
  abbrev with_two : Held → Held → ℕ → List Held → LocalState
  with_two a b at operands = record { at = at; slots = a ∷ b ∷ slots; stack = operands }

  newer : (a b : Held) → slot (n + 1) (a ∷ b ∷ slots) ≡ a
  newer a b = newest (n + 1) a (b ∷ slots) (omega (arith, n_is))

  newer_but_one : (a b : Held) → slot n (a ∷ b ∷ slots) ≡ b
  newer_but_one a b = older n a (b ∷ slots) (omega (arith, n_is)) ∙ newest n b slots n_is

  -- ---- operands

  -- the first of these values alone
  first_does : {B : Type 0} (Q : B → LocalState → Type 0) (m : Comp B) (hs : List Held) (k at : ℕ) (under : List Held) → length hs ≡ k → CodeAt c at (first_code k)
      → Implements me c (at_spot (pc_after at (first_code k)) (slice_index_or hs 0 no_value ∷ under)) m Q → Implements me c (at_spot at (pushed hs under)) m Q
  first_does Q m [] zero at under e st d = does_behind me c Q (at_spot at under) (at_spot (at + 1) (no_value ∷ under)) m (i.Const (v.Bool false)) st.0 (λ rs. refl) d
  first_does Q m [] (suc k) at under e st d = absurd (omega (arith, e))
  first_does Q m (h ∷ hs) zero at under e st d = absurd (omega (arith, e))
  first_does Q m (h ∷ hs) (suc k) at under e st d =
      let many : length hs ≡ k = omega (arith, e) in
      pops_do c env names slots holds Q m k at (pushed hs (h ∷ under)) st
      (subst (λ xs. Implements me c (at_spot (pc_after at (pops k)) xs) m Q) (sym (under_all k hs (h ∷ under) many)) d)

  -- the receiver of a member form, and the first of its arguments
  both_do : {B : Type 0} (Q : B → LocalState → Type 0) (x : NumberedExp) (args : NumberedExps) (m : Held → List Held → Comp B) (at : ℕ) → CodeAt c at (both_code program this names x args at)
      → ((h : Held) (hs : List Held) → Implements me c (at_spot (pc_after at (both_code program this names x args at)) (slice_index_or hs 0 no_value ∷ h ∷ stack)) (m h hs) Q)
      → Implements me c (at_spot at stack) (λ rs. bind_result (eval env x rs) (λ h ms. bind_result (eval_all env args ms) (λ hs. m h hs))) Q
  both_do Q x args m at st d =
      let xs = code_of program this names x at in
      let a = pc_after at xs in
      let ys = code_of_all program this names args a in
      let mid = pc_after a ys in
      let zs = first_code (how_many args) in
      let end : pc_after at (xs ++ (ys ++ zs)) ≡ pc_after mid zs = behind_both at xs (ys ++ zs) ∙ behind_both a ys zs in
      next c env names slots holds Q a stack (at_spot at stack) (eval env x) (λ h ms. bind_result (eval_all env args ms) (λ hs. m h hs))
      (does c env names slots holds x at stack (front_stands c at xs (ys ++ zs) st))
      (λ h. does_then me c (PushesAll c env names slots holds mid (h ∷ stack) (how_many args)) Q (at_spot a (h ∷ stack)) (eval_all env args) (λ hs. m h hs)
      (all_do c env names slots holds args a (h ∷ stack) (front_stands c a ys zs (rest_stands c at xs (ys ++ zs) st)))
      (λ hs s k. from_spot c env names slots holds Q s (at_spot mid (pushed hs (h ∷ stack))) (m h hs) k.1
      (first_does Q (m h hs) hs (how_many args) mid (h ∷ stack) k.0 (rest_stands c a ys zs (rest_stands c at xs (ys ++ zs) st))
      (subst (λ e. Implements me c (at_spot e (slice_index_or hs 0 no_value ∷ h ∷ stack)) (m h hs) Q) end (d h hs)))))

  -- the domain of a grid that is there
  domain_does : (p : Place) (g : Held) (r : Reference) (hs : List Held) (at : ℕ) (under : List Held) → referent_of g ≡ Some r.thing → slice_get c at ≡ Some (i.Member kind.DomainOf 0 p)
      → Implements me c (record { at = at; slots = hs; stack = g ∷ under }) (domain_asked p r) (λ d s. s ≡ record { at = at + 1; slots = hs; stack = d ∷ under })
  domain_does p g r hs at under is st =
      let go = λ (d : Held). let s : LocalState = record { at = at + 1; slots = hs; stack = d ∷ under } in s in
      through_does me c (λ d s. s ≡ go d) (record { at = at; slots = hs; stack = g ∷ under }) p g r.thing (request_through r p (act.DomainOf r.thing) (ValueOf (t.Rc (dim_of_type r.type))))
      (λ q. request_through q p (act.DomainOf q.thing) (ValueOf (t.Rc (dim_of_type q.type)))) go (i.Member kind.DomainOf 0 p) st is refl refl
      (λ rs. in_turn (needed p t.Void g rs) (λ q. domain_asked p q) (λ d. gives (go d))) (λ d. refl)

  -- asked of nothing it is at fault
  domain_fails : (p : Place) (g : Held) (hs : List Held) (at : ℕ) (under : List Held) → referent_of g ≡ None
      → (rs : List Answer) → effect me (i.Member kind.DomainOf 0 p) (record { at = at; slots = hs; stack = g ∷ under }) rs ≡ Fails NullRef p
  domain_fails p g hs at under is rs =
      ap (λ x. bind_result (bind_result (bind_result (found_or NullRef p x rs) (λ id. gives (record { thing = id; type = t.Void }))) (λ q. domain_asked p q))
      (λ d. gives (let s : LocalState = record { at = at + 1; slots = hs; stack = d ∷ under } in s))) is

  -- ---- copies

  -- a copy from the things that its grids name
  abbrev copied_from : Place → ValueType → ValueType → Option Id → Option Id → Comp Move
  copied_from p a b x y =
      (found_or NullRef p x >>= λ id. gives (let r : Reference = record { thing = id; type = a } in r)) >>= λ to.
      ((found_or NullRef p y >>= λ id. gives (let r : Reference = record { thing = id; type = b } in r)) >>= λ from.
      (domain_asked p to >>= λ d. (domain_asked p from >>= λ e. gives (Goes vs (CopyAll p to from (common_points (rect_of d) (rect_of e)) ∷ [])))))

  from_none : (p : Place) (a b : ValueType) (x : Option Id) (rs : List Answer) → copied_from p a b x None rs ≡ Fails NullRef p
  from_none p a b None rs = refl
  from_none p a b (Some id) rs = refl

  module _ (p : Place) (start : ℕ) (st : CodeAt c start (grids_code p n start ++ elements_code p n (copied_code p n) (pc_after start (grids_code p n start))))
      (after : Left c program this (standing.result c program method this_id number procs) l names stack left
      (pc_after (pc_after start (grids_code p n start)) (elements_code p n (copied_code p n) (pc_after start (grids_code p n start))))) (a b : Held) where
    abbrev ga : Held
    ga = Plain (v.Grid (referent_of a))

    abbrev gb : Held
    gb = Plain (v.Grid (referent_of b))

    abbrev two : ℕ → List Held → LocalState
    two = with_two ga gb

    abbrev s4 : ℕ
    s4 = start + 1 + 1 + 1 + 1

    abbrev s8 : ℕ
    s8 = s4 + 1 + 1 + 1 + 1

    abbrev s10 : ℕ
    s10 = s8 + 1 + 1

    abbrev s15 : ℕ
    s15 = s10 + 1 + 1 + 1 + 1 + 1

    -- both grids are there
    both_there : (ta tb : ValueType) (ia ib : Id) → referent_of a ≡ Some ia → referent_of b ≡ Some ib → Implements me c (two s10 stack) (copied_from p ta tb (Some ia) (Some ib)) Moved
    both_there ta tb ia ib ea eb =
        let to : Reference = record { thing = ia; type = ta } in
        let from : Reference = record { thing = ib; type = tb } in
        let tens = rest_stands c start (grids_code p n start) (elements_code p n (copied_code p n) s15) st in
        let grids = front_stands c start (grids_code p n start) (elements_code p n (copied_code p n) s15) st in
        let u10 = grids.1.1.1.1.1.1.1.1.1.1 in
        let m : Comp Move = copied_from p ta tb (Some ia) (Some ib) in
        let last = λ (d e : Held). let r : Comp Move = gives (Goes vs (CopyAll p to from (common_points (rect_of d) (rect_of e)) ∷ [])) in r in
        does_behind me c Moved (two s10 stack) (two (s10 + 1) (ga ∷ stack)) m (i.Load (n + 1)) u10.0 (λ rs. ap (λ x. Gives (two (s10 + 1) (x ∷ stack)) rs) (newer ga gb))
        (does_then me c (λ d s. s ≡ two (s10 + 1 + 1) (d ∷ stack)) Moved (two (s10 + 1) (ga ∷ stack)) (domain_asked p to) (λ d. domain_asked p from >>= λ e. last d e)
        (domain_does p ga to (ga ∷ gb ∷ slots) (s10 + 1) stack ea u10.1.0)
        (λ d s e. subst (λ z. Implements me c z (domain_asked p from >>= λ x. last d x) Moved) (sym e)
        (does_behind me c Moved (two (s10 + 1 + 1) (d ∷ stack)) (two (s10 + 1 + 1 + 1) (gb ∷ d ∷ stack)) (domain_asked p from >>= λ x. last d x) (i.Load n) u10.1.1.0
        (λ rs. ap (λ x. Gives (two (s10 + 1 + 1 + 1) (x ∷ d ∷ stack)) rs) (newer_but_one ga gb))
        (does_then me c (λ x s. s ≡ two (s10 + 1 + 1 + 1 + 1) (x ∷ d ∷ stack)) Moved (two (s10 + 1 + 1 + 1) (gb ∷ d ∷ stack)) (domain_asked p from) (λ x. last d x)
        (domain_does p gb from (ga ∷ gb ∷ slots) (s10 + 1 + 1 + 1) (d ∷ stack) eb u10.1.1.1.0)
        (λ x s f. subst (λ z. Implements me c z (last d x) Moved) (sym f)
        (does_behind me c Moved (two (s10 + 1 + 1 + 1 + 1) (x ∷ d ∷ stack)) (two s15 (common_domain (rect_of d) (rect_of x) ∷ stack)) (last d x) i.Common u10.1.1.1.1.0 (λ rs. refl)
        (does_value me c Moved (two s15 (common_domain (rect_of d) (rect_of x) ∷ stack)) (Goes vs (CopyAll p to from (common_points (rect_of d) (rect_of x)) ∷ []))
        (inr (
          record {
            labels = l;
            names = names;
            bare = bare;
            base = slots;
            holds = holds;
            source = gb;
            target = ga;
            cursor = [];
            few = tt;
            slots = refl;
            domain = common_domain (rect_of d) (rect_of x);
            stack = stack;
            operands = refl;
            points_are = points_common (rect_of d) (rect_of x);
            start = s15;
            stands = tens;
            at = inl refl;
            after = after;
          },
          ea,
          eb,
        )))))))))

    -- where the source is tested
    abbrev s7 : ℕ
    s7 = s4 + 1 + 1 + 1

    abbrev before_elements : CodeAt c start (grids_code p n start)
    before_elements = front_stands c start (grids_code p n start) (elements_code p n (copied_code p n) s15) st

    -- the source is there, and the target is or isn't
    by_target : (ta tb : ValueType) (ia : Option Id) (ib : Id) → referent_of a ≡ ia → referent_of b ≡ Some ib → Implements me c (two s10 stack) (copied_from p ta tb ia (Some ib)) Moved
    by_target ta tb None ib ea eb =
        let u10 = before_elements.1.1.1.1.1.1.1.1.1.1 in
        let m : Comp Move = copied_from p ta tb None (Some ib) in
        does_behind me c Moved (two s10 stack) (two (s10 + 1) (ga ∷ stack)) m (i.Load (n + 1)) u10.0 (λ rs. ap (λ x. Gives (two (s10 + 1) (x ∷ stack)) rs) (newer ga gb))
        (does_fault me c Moved (two (s10 + 1) (ga ∷ stack)) m NullRef p (i.Member kind.DomainOf 0 p) u10.1.0 (λ rs. refl)
        (λ rs. domain_fails p ga (ga ∷ gb ∷ slots) (s10 + 1) stack ea rs))
    by_target ta tb (Some ia) ib ea eb = both_there ta tb ia ib ea eb

    by_source : (ta tb : ValueType) (ib : Option Id) → referent_of b ≡ ib → Implements me c (two s7 (truth (same_thing ib None) ∷ stack)) (copied_from p ta tb (referent_of a) ib) Moved
    by_source ta tb None eb =
        let u7 = before_elements.1.1.1.1.1.1.1 in
        let m : Comp Move = copied_from p ta tb (referent_of a) None in
        does_behind me c Moved (two s7 (truth true ∷ stack)) (two s8 stack) m (i.JumpIfNot s10) u7.0 (λ rs. refl)
        (does_behind me c Moved (two s8 stack) (two (s8 + 1) (gb ∷ stack)) m (i.Load n) u7.1.0 (λ rs. ap (λ x. Gives (two (s8 + 1) (x ∷ stack)) rs) (newer_but_one ga gb))
        (does_fault me c Moved (two (s8 + 1) (gb ∷ stack)) m NullRef p (i.Member kind.DomainOf 0 p) u7.1.1.0 (λ rs. from_none p ta tb (referent_of a) rs)
        (λ rs. domain_fails p gb (ga ∷ gb ∷ slots) (s8 + 1) stack eb rs)))
    by_source ta tb (Some ib) eb =
        let u7 = before_elements.1.1.1.1.1.1.1 in
        does_behind me c Moved (two s7 (truth false ∷ stack)) (two s10 stack) (copied_from p ta tb (referent_of a) (Some ib)) (i.JumpIfNot s10) u7.0 (λ rs. refl)
        (by_target ta tb (referent_of a) ib refl eb)

    -- from both grids on
    grids_do : (ta tb : ValueType) → Implements me c (at_spot start (b ∷ a ∷ stack)) (copied_from p ta tb (referent_of a) (referent_of b)) Moved
    grids_do ta tb =
        let u = before_elements in
        let m : Comp Move = copied_from p ta tb (referent_of a) (referent_of b) in
        let null = Plain (v.Grid None) in
        let kept_one : LocalState = record { at = start + 1 + 1; slots = gb ∷ slots; stack = a ∷ stack } in
        let as_two : LocalState = record { at = start + 1 + 1 + 1; slots = gb ∷ slots; stack = ga ∷ stack } in
        does_behind me c Moved (at_spot start (b ∷ a ∷ stack)) (at_spot (start + 1) (gb ∷ a ∷ stack)) m i.AsGrid u.0 (λ rs. refl)
        (does_behind me c Moved (at_spot (start + 1) (gb ∷ a ∷ stack)) kept_one m (i.Keep n) u.1.0
        (λ rs. ap (λ hs. Gives (let s : LocalState = record { at = start + 1 + 1; slots = hs; stack = a ∷ stack } in s) rs) (new_put n gb slots n_is))
        (does_behind me c Moved kept_one as_two m i.AsGrid u.1.1.0 (λ rs. refl)
        (does_behind me c Moved as_two (two s4 stack) m (i.Keep (n + 1)) u.1.1.1.0
        (λ rs. ap (λ hs. Gives (let s : LocalState = record { at = s4; slots = hs; stack = stack } in s) rs) (new_put (n + 1) ga (gb ∷ slots) (omega (arith, n_is))))
        (does_behind me c Moved (two s4 stack) (two (s4 + 1) (gb ∷ stack)) m (i.Load n) u.1.1.1.1.0 (λ rs. ap (λ x. Gives (two (s4 + 1) (x ∷ stack)) rs) (newer_but_one ga gb))
        (does_behind me c Moved (two (s4 + 1) (gb ∷ stack)) (two (s4 + 1 + 1) (null ∷ gb ∷ stack)) m (i.Const (v.Grid None)) u.1.1.1.1.1.0 (λ rs. refl)
        (does_behind me c Moved (two (s4 + 1 + 1) (null ∷ gb ∷ stack)) (two s7 (truth (same_thing (referent_of b) None) ∷ stack)) m (i.Operate o.Eq p) u.1.1.1.1.1.1.0 (λ rs. refl)
        (by_source ta tb (referent_of b) refl)))))))

  -- the whole copy
  pub copies_do : (p : Place) (x : NumberedExp) (args : NumberedExps) (at : ℕ) → CodeAt c at (copy_code program this p names x args at)
      → Left c program this (standing.result c program method this_id number procs) l names stack left (pc_after at (copy_code program this p names x args at))
      → Implements me c (at_spot at stack) (copies env p x args) Moved
  copies_do p x args at st after =
      let both = both_code program this names x args at in
      let start = pc_after at both in
      let grids = grids_code p n start in
      let rest = elements_code p n (copied_code p n) (pc_after start grids) in
      let done = subst (λ e. Left c program this (standing.result c program method this_id number procs) l names stack left e)
      (behind_both at both (grids ++ rest) ∙ behind_both start grids rest) after in
      both_do Moved x args (λ h hs. copied_from p (type_of env x) (first_type env args) (referent_of h) (referent_of (slice_index_or hs 0 no_value))) at (front_stands c at both (grids ++ rest) st)
      (λ h hs. grids_do p start (rest_stands c at both (grids ++ rest) st) done h (slice_index_or hs 0 no_value) (type_of env x) (first_type env args))

  -- ---- exchanges

  -- a value as an element may hold it
  as_does : {B : Type 0} (Q : B → LocalState → Type 0) (m : Comp B) (type : ValueType) (h : Held) (at : ℕ) (under : List Held) → CodeAt c at (as_element type)
      → Implements me c (at_spot (pc_after at (as_element type)) (as_type type h ∷ under)) m Q → Implements me c (at_spot at (h ∷ under)) m Q
  as_does Q m t.Long h at under st d = does_behind me c Q (at_spot at (h ∷ under)) (at_spot (at + 1) (as_type t.Long h ∷ under)) m i.Widen st.0 (λ rs. refl) d
  as_does Q m t.Int h at under st d = does_behind me c Q (at_spot at (h ∷ under)) (at_spot (at + 1) (as_type t.Int h ∷ under)) m i.Narrow st.0 (λ rs. refl) d
  as_does Q m (t.Class class is_local) h at under st d =
      does_behind me c Q (at_spot at (h ∷ under)) (at_spot (at + 1) (as_type (t.Class class is_local) h ∷ under)) m i.AsObj st.0 (λ rs. refl) d
  as_does Q m (t.Grid element dim is_local) h at under st d =
      does_behind me c Q (at_spot at (h ∷ under)) (at_spot (at + 1) (as_type (t.Grid element dim is_local) h ∷ under)) m i.AsGrid st.0 (λ rs. refl) d
  as_does Q m type h at under st d = d

  -- the collective
  abbrev wait_at : Place → Wait
  wait_at p = record { place = p; kind = coll.Exchange; arg = None; wanted = ToBeDone; receiver = Nowhere }

  -- an exchange from the thing that its grid names
  abbrev exchanged_from : Place → ValueType → Held → Option Id → Comp Move
  exchanged_from p a arrival_of x =
      (found_or NullRef p x >>= λ id. gives (let r : Reference = record { thing = id; type = a } in r)) >>= λ grid.
      (domain_asked p grid >>= λ d. guard (same_points (points_of (rect_of d)) (points_of (team procs))) ExchangeDomain p
      (Meets (wait_at p) (deposit.One (plain_of arrival_of)) (TakeAll p grid (count_up 0 procs) ∷ [])))

  module _ (p : Place) (start : ℕ) (st : CodeAt c start (team_code p n ++ elements_code p n (taken_code p n) (pc_after start (team_code p n))))
      (after : Left c program this (standing.result c program method this_id number procs) l names stack left
      (pc_after (pc_after start (team_code p n)) (elements_code p n (taken_code p n) (pc_after start (team_code p n))))) (a arrival_of : Held)
      (team_is : points_of (team procs) ≡ map element_at (count_up 0 procs)) where
    abbrev there : ℕ → List Held → LocalState
    there = with_two a arrival_of

    abbrev e8 : ℕ
    e8 = start + 1 + 1 + 1 + 1 + 1 + 1 + 1 + 1

    abbrev team_stands : CodeAt c start (team_code p n)
    team_stands = front_stands c start (team_code p n) (elements_code p n (taken_code p n) e8) st

    abbrev meeting : Reference → Move
    meeting grid = Meets (wait_at p) (deposit.One (plain_of arrival_of)) (TakeAll p grid (count_up 0 procs) ∷ [])

    arrives : (grid : Reference) (d : Held) (test : Bool) → referent_of a ≡ Some grid.thing → same_points (points_of (rect_of d)) (points_of (team procs)) ≡ test
        → Implements me c (there (start + 1 + 1 + 1 + 1) (d ∷ stack)) (guard test ExchangeDomain p (meeting grid)) Moved
    arrives grid d true is e =
        let u = team_stands.1.1.1.1 in
        let domain = Plain (v.Rc (team procs)) in
        let s5 = start + 1 + 1 + 1 + 1 + 1 in
        does_behind me c Moved (there (start + 1 + 1 + 1 + 1) (d ∷ stack)) (there s5 (domain ∷ stack)) (gives (meeting grid)) (i.GridTest p) u.0
        (λ rs. ap (λ b. guard b ExchangeDomain p (there s5 (domain ∷ stack)) rs) e)
        (does_behind me c Moved (there s5 (domain ∷ stack)) (there (s5 + 1) (arrival_of ∷ domain ∷ stack)) (gives (meeting grid)) (i.Load n) u.1.0
        (λ rs. ap (λ x. Gives (there (s5 + 1) (x ∷ domain ∷ stack)) rs) (newer_but_one a arrival_of))
        (does_value me c Moved (there (s5 + 1) (arrival_of ∷ domain ∷ stack)) (meeting grid) (
          u.1.1.0,
          u.1.1.1.0,
          domain ∷ stack,
          (λ m f z k. ap (λ (s : LocalState). record { arg = None; deposit = deposit.One (plain_of (top s.stack)); stack = below s.stack }) k),
          inr (
            record {
              labels = l;
              names = names;
              bare = bare;
              base = slots;
              holds = holds;
              source = arrival_of;
              target = a;
              cursor = [];
              few = tt;
              slots = refl;
              domain = domain;
              stack = stack;
              operands = refl;
              points_are = team_is;
              start = e8;
              stands = rest_stands c start (team_code p n) (elements_code p n (taken_code p n) e8) st;
              at = inl refl;
              after = after;
            },
            is,
          ),
        )))
    arrives grid d false is e =
        does_fault me c Moved (there (start + 1 + 1 + 1 + 1) (d ∷ stack)) (fails ExchangeDomain p) ExchangeDomain p (i.GridTest p) team_stands.1.1.1.1.0 (λ rs. refl)
        (λ rs. ap (λ b. guard b ExchangeDomain p (there (start + 1 + 1 + 1 + 1 + 1) (Plain (v.Rc (team procs)) ∷ stack)) rs) e)

    by_grid : (type : ValueType) (x : Option Id) → referent_of a ≡ x → Implements me c (there (start + 1 + 1) stack) (exchanged_from p type arrival_of x) Moved
    by_grid type None e =
        let u = team_stands.1.1 in
        let m : Comp Move = exchanged_from p type arrival_of None in
        does_behind me c Moved (there (start + 1 + 1) stack) (there (start + 1 + 1 + 1) (a ∷ stack)) m (i.Load (n + 1)) u.0
        (λ rs. ap (λ x. Gives (there (start + 1 + 1 + 1) (x ∷ stack)) rs) (newer a arrival_of))
        (does_fault me c Moved (there (start + 1 + 1 + 1) (a ∷ stack)) m NullRef p (i.Member kind.DomainOf 0 p) u.1.0 (λ rs. refl)
        (λ rs. domain_fails p a (a ∷ arrival_of ∷ slots) (start + 1 + 1 + 1) stack e rs))
    by_grid type (Some id) e =
        let u = team_stands.1.1 in
        let grid : Reference = record { thing = id; type = type } in
        let m : Comp Move = exchanged_from p type arrival_of (Some id) in
        let more = λ (d : Held). guard (same_points (points_of (rect_of d)) (points_of (team procs))) ExchangeDomain p (meeting grid) in
        does_behind me c Moved (there (start + 1 + 1) stack) (there (start + 1 + 1 + 1) (a ∷ stack)) m (i.Load (n + 1)) u.0
        (λ rs. ap (λ x. Gives (there (start + 1 + 1 + 1) (x ∷ stack)) rs) (newer a arrival_of))
        (does_then me c (λ d s. s ≡ there (start + 1 + 1 + 1 + 1) (d ∷ stack)) Moved (there (start + 1 + 1 + 1) (a ∷ stack)) (domain_asked p grid) more
        (domain_does p a grid (a ∷ arrival_of ∷ slots) (start + 1 + 1 + 1) stack e u.1.0)
        (λ d s k. subst (λ z. Implements me c z (more d) Moved) (sym k) (arrives grid d _ e refl)))

    team_does : (type : ValueType) → Implements me c (at_spot start (arrival_of ∷ a ∷ stack)) (exchanged_from p type arrival_of (referent_of a)) Moved
    team_does type =
        let u = team_stands in
        let m : Comp Move = exchanged_from p type arrival_of (referent_of a) in
        let kept_one : LocalState = record { at = start + 1; slots = arrival_of ∷ slots; stack = a ∷ stack } in
        does_behind me c Moved (at_spot start (arrival_of ∷ a ∷ stack)) kept_one m (i.Keep n) u.0
        (λ rs. ap (λ hs. Gives (let s : LocalState = record { at = start + 1; slots = hs; stack = a ∷ stack } in s) rs) (new_put n arrival_of slots n_is))
        (does_behind me c Moved kept_one (there (start + 1 + 1) stack) m (i.Keep (n + 1)) u.1.0
        (λ rs. ap (λ hs. Gives (let s : LocalState = record { at = start + 1 + 1; slots = hs; stack = stack } in s) rs) (new_put (n + 1) a (arrival_of ∷ slots) (omega (arith, n_is))))
        (by_grid type (referent_of a) refl))

  -- the whole exchange, up to its arrival and from its departure on
  pub exchanges_do : (p : Place) (x : NumberedExp) (args : NumberedExps) (at : ℕ) → points_of (team procs)
      ≡ map element_at (count_up 0 procs) → CodeAt c at (exchange_code program this p names x args at)
      → Left c program this (standing.result c program method this_id number procs) l names stack left (pc_after at (exchange_code program this p names x args at))
      → Implements me c (at_spot at stack) (exchanges env p x args) Moved
  exchanges_do p x args at team_is st after =
      let type = type_of env x in
      let both = both_code program this names x args at in
      let first = pc_after at both in
      let change = as_element (element_of type) in
      let start = pc_after at (both ++ change) in
      let meets = team_code p n in
      let rest = elements_code p n (taken_code p n) (pc_after start meets) in
      let there : start ≡ pc_after first change = behind_both at both change in
      let stands = front_stands c at (both ++ change) (meets ++ rest) st in
      let done = subst (λ e. Left c program this (standing.result c program method this_id number procs) l names stack left e)
      (behind_both at (both ++ change) (meets ++ rest) ∙ behind_both start meets rest) after in
      let arrival_of = λ (hs : List Held). as_type (element_of type) (slice_index_or hs 0 no_value) in
      both_do Moved x args (λ h hs. exchanged_from p type (arrival_of hs) (referent_of h)) at (front_stands c at both change stands)
      (λ h hs. as_does Moved (exchanged_from p type (arrival_of hs) (referent_of h)) (element_of type) (slice_index_or hs 0 no_value) first (h ∷ stack) (rest_stands c at both change stands)
      (subst (λ e. Implements me c (at_spot e (arrival_of hs ∷ h ∷ stack)) (exchanged_from p type (arrival_of hs) (referent_of h)) Moved) there
      (team_does p start (rest_stands c at (both ++ change) (meets ++ rest) st) done h (arrival_of hs) team_is type)))
