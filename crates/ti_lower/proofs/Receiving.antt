-- Proves that the code of stores does what the semantics does with a value.
use Rattle.std.proofs.Common.{◌≡◌, ℕ, ℤ, ◌+◌, ◌<◌, false, slice_get, List, [], ◌∷◌, ◌++◌, length, Option, Some, None, refl, ap, ap₂, sym, ◌∙◌, subst, arith}
use Rattle.ti_base.specs.declared.place.Place.{Place}
use Rattle.ti_base.specs.declared.value.Id.{Id}
use Rattle.ti_base.specs.declared.value.Value.TheVariants as v
use Rattle.ti_base.specs.declared.action.Action.TheVariants as act
use Rattle.ti_base.specs.declared.entry.Answer.{Answer}
use Rattle.ti_base.specs.declared.point.Point.{Point}
use Rattle.ti_syntax.specs.declared.tree.exprs.BinaryOperator.{BinaryOperator}
use Rattle.ti_lang.specs.Program.Types.{ValueType, VariableUse}
use Rattle.ti_lang.specs.Program.Types as t
use Rattle.ti_lang.specs.Program.Expressions.{NumberedExp, place_of_numbered}
use Rattle.ti_lang.specs.Program.Expressions as e
use Rattle.ti_lang.specs.Program.Scope.{this_of}
use Rattle.ti_lang.specs.Typing.TextTypes.{how_many}
use Rattle.ti_lang.specs.Meaning.Held.{Held, Plain, no_value, plain_of}
use Rattle.ti_lang.specs.Meaning.Literals as literal
use Rattle.ti_lang.specs.Meaning.Comp.{Request, Reference, CompResult, Gives, Asks, Fails, Comp, ◌>>=◌, bind_result, gives, asked, needed, request_through, ToBeDone}
use Rattle.ti_lang.specs.Meaning.Conversions.{converted}
use Rattle.ti_lang.specs.Meaning.Operators.{apply_binary}
use Rattle.ti_lang.specs.Meaning.CellRefs.{Field, Element, fetched}
use Rattle.ti_lang.specs.Meaning.Processes.{Variable, Receiver, Nowhere, Declared, Assigned, Updated}
use Rattle.ti_lang.specs.Meaning.Scoping.{Env, find_variable, with_new, with_changed, declared_type, type_of, field_selected}
use Rattle.ti_lang.specs.Meaning.Targets.{Target, InVariable, InPart, located, held_in, stored, into}
use Rattle.ti_lang.specs.Meaning.Evaluation.{eval, eval_numbers}
use Rattle.ti_code.specs.declared.instr.Instr.{Instr}
use Rattle.ti_code.specs.declared.instr.Instr.TheVariants as i
use Rattle.ti_code.specs.declared.instr.Operation.{Operation}
use Rattle.ti_code.specs.Effects.{LocalState, Who, effect, numbers_of, binary_operator_of, slot, put, oldest_slots}
use Rattle.ti_code.specs.Leading.{CodeAt, pc_after}
use Rattle.ti_lower_expr.specs.Slots.{Name, Of, Hidden, SlotsHold, variable, hidden, has_this}
use Rattle.ti_lower_expr.specs.declared.kinds.OperandClass.{OperandClass}
use Rattle.ti_lower_expr.specs.declared.kinds.StaticRepr.{StaticRepr}
use Rattle.ti_lower_expr.specs.declared.kinds.StaticRepr.TheVariants as known
use Rattle.ti_lower_expr.specs.Knowing.{HasRepr, known_of_type, known_declared, operated_known}
use Rattle.ti_lower_expr.specs.Coding.{conversion, code_of, code_of_all}
use Rattle.ti_lower.specs.Receivers.{written_slot, keep_code, names_behind, TargetKind, InSlot, InField, InElement, held_known, store_code, update_code, kind_of_target, place_code, updating, into_code, waiting_code, late_code}
use Rattle.ti_lower_expr.specs.Doing.{ReachesResult, Implements}
use Rattle.ti_lower_expr.proofs.Lemmas.{front_stands, rest_stands, behind_both, does_then, does_after, does_value, does_behind, does_one}
use Rattle.ti_lower_expr.proofs.Lemmas.{as_many, found, newest, older, own_held, pushed, taken_all, under_all, Comes, converted_known}
use Rattle.ti_lower_expr.proofs.Lemmas.{declared_known, used_known, found_known, operated_is_known, who, state, next, next_known, does}
use Rattle.ti_lower_expr.proofs.Lemmas.{numbers_do, PushesNumbers, convert_does, load_does, own_does, field_does, element_does, instr}
use Rattle.ti_lower_expr.proofs.Lemmas.{from_spot, operation_means, needed_alike, asked_alike}
use Rattle.ti_lower.proofs.Cutting.{hide, all_dropped}
use Rattle.ti_lower.proofs.Writing.{any, new_put, IsWritten, written}

-- ---- slots that no name means

pub hide_holds : (this : Option Id) (more : List Held) (ns : List Name) (env : Env) (hs : List Held)
    → SlotsHold this ns env.variables env.turns hs → SlotsHold this (hide more ns) env.variables env.turns (more ++ hs)
hide_holds this [] ns env hs h = h
hide_holds this (x ∷ more) ns env hs h = hidden (hide_holds this more ns env hs h)

-- a slot under them
pub under_hidden : (more : List Held) (k : ℕ) (hs : List Held) → k < length hs → slot k (more ++ hs) ≡ slot k hs
under_hidden [] k hs l = refl
under_hidden (x ∷ more) k hs l = older k x (more ++ hs) (omega (arith, length_more more hs)) ∙ under_hidden more k hs l
  where
    length_more : (more hs : List Held) → length hs < length (more ++ hs) + 1
    length_more [] hs = omega arith
    length_more (x ∷ more) hs = omega (arith, length_more more hs)

-- one computation after the other, however they are put together
pub in_turn : {A B C : Type 0} (g : CompResult A) (k : A → Comp B) (l : B → Comp C) → bind_result (bind_result g k) l ≡ bind_result g (λ a rs. bind_result (k a rs) l)
in_turn (Gives a rest) k l = refl
in_turn (Asks q) k l = refl
in_turn (Fails kind at) k l = refl

module _ (c : List Instr) (env : Env) (names : List Name) (slots : List Held) (holds : SlotsHold env.this names env.variables env.turns slots) where
  -- the frame goes on there with slots that hold these variables
  abbrev pub Stored : ℕ → List Name → List Held → List Variable → LocalState → Type 0
  Stored at ns stack vs s = (hs : List Held) × SlotsHold env.this ns vs env.turns hs × (s ≡ record { at = at; slots = hs; stack = stack })

  abbrev here : ℕ → List Held → LocalState
  here = state c env names slots holds

  abbrev w : Who
  w = who c env names slots holds

  many : length names ≡ length slots
  many = as_many env.this names env.variables env.turns slots holds

  -- ---- variables

  pub new_does : (x : VariableUse) (h : Held) (at : ℕ) (stack : List Held) → HasRepr (known_declared x.declared) h → CodeAt c at (i.Keep (length names) ∷ [])
      → Implements w c (here at (h ∷ stack)) (gives (with_new x h env.variables)) (Stored (at + 1) (Of x ∷ names) stack)
  new_does x h at stack z st =
      does_behind w c (Stored (at + 1) (Of x ∷ names) stack) (here at (h ∷ stack)) (record { at = at + 1; slots = put (length names) h slots; stack = stack })
      (gives (with_new x h env.variables)) (i.Keep (length names)) st.0 (λ rs. refl)
      (does_value w c (Stored (at + 1) (Of x ∷ names) stack) _ (with_new x h env.variables)
      (h ∷ slots, variable z holds, ap (λ hs. record { at = at + 1; slots = hs; stack = stack }) (new_put (length names) h slots many)))

  pub written_does : (o : Option ℕ) (new : List Variable) (h : Held) (at : ℕ) (stack : List Held) → IsWritten env.this o names env.variables new env.turns slots h → CodeAt c at (keep_code o ∷ [])
      → Implements w c (here at (h ∷ stack)) (gives new) (Stored (at + 1) names stack)
  written_does (Some k) new h at stack z st =
      does_behind w c (Stored (at + 1) names stack) (here at (h ∷ stack)) (record { at = at + 1; slots = put k h slots; stack = stack }) (gives new) (i.Keep k) st.0 (λ rs. refl)
      (does_value w c (Stored (at + 1) names stack) _ new (put k h slots, z.1, refl))
  written_does None new h at stack z st =
      does_behind w c (Stored (at + 1) names stack) (here at (h ∷ stack)) (here (at + 1) stack) (gives new) i.Pop st.0 (λ rs. refl)
      (does_value w c (Stored (at + 1) names stack) _ new (slots, subst (λ vs. SlotsHold env.this names vs env.turns slots) (sym z) holds, refl))

  -- ---- targets

  -- the operands that the reference and the index of a target are, above these
  abbrev pub IsPlaced : TargetKind → Target → List Held → List Held → Type 0
  IsPlaced (InSlot x) target operands stack = (target ≡ InVariable x) × (operands ≡ stack)
  IsPlaced (InField field) target operands stack =
      (h : Held) × (through : ValueType) × (target ≡ InPart (Field h through field)) × (operands ≡ h ∷ stack)
  IsPlaced InElement target operands stack =
      (h : Held) × (through : ValueType) × (index : Point) × (target ≡ InPart (Element h through index)) × (operands ≡ Plain (v.Pt index) ∷ h ∷ stack)

  abbrev pub Places : TargetKind → ℕ → List Held → Target → LocalState → Type 0
  Places kind at stack target s = (operands : List Held) × IsPlaced kind target operands stack × (s ≡ here at operands)

  -- an object of which a field is meant
  object_placed : (field : ℕ) (through : ValueType) (m : Comp Held) (at : ℕ) (stack : List Held) (s : LocalState) → Implements w c s m (λ h t. t ≡ here at (h ∷ stack))
      → Implements w c s (m >>= λ h. gives (InPart (Field h through field))) (Places (InField field) at stack)
  object_placed field through m at stack s d =
      next c env names slots holds (Places (InField field) at stack) at stack s m (λ h. gives (InPart (Field h through field))) d
      (λ h. does_value w c (Places (InField field) at stack) (here at (h ∷ stack)) (InPart (Field h through field)) (h ∷ stack, (h, through, refl, refl), refl))

  none_placed : (at : ℕ) (stack : List Held) → CodeAt c at (i.Const (v.Bool false) ∷ [])
      → Implements w c (here at stack) (gives (InPart (Field no_value t.Void 0))) (Places (InField 0) (at + 1) stack)
  none_placed at stack st =
      object_placed 0 t.Void (gives no_value) (at + 1) stack (here at stack)
      (instr c env names slots holds (i.Const (v.Bool false)) (gives no_value) (here at stack) (at + 1) stack st.0 (λ rs. refl))

  -- the point of the numbers that were pushed
  point_made : (n : ℕ) (hs : List Held) (ns : List ℤ) (at : ℕ) (stack : List Held) → length hs ≡ n → numbers_of hs ≡ ns → (rs : List Answer)
      → effect w (i.MakePt n) (here at (pushed hs stack)) rs ≡ Gives (here (at + 1) (Plain (v.Pt (literal.point_of_numbers ns)) ∷ stack)) rs
  point_made n hs ns at stack z e rs =
      ap₂ (λ xs ys. Gives (here (at + 1) (Plain (v.Pt (literal.point_of_numbers (numbers_of xs))) ∷ ys)) rs) (taken_all n hs stack z) (under_all n hs stack z)
      ∙ ap (λ xs. Gives (here (at + 1) (Plain (v.Pt (literal.point_of_numbers xs)) ∷ stack)) rs) e

  abbrev pub place : NumberedExp → ℕ → List Instr
  place = place_code env.program (this_of env.method) names

  abbrev pub kind : NumberedExp → TargetKind
  kind = kind_of_target env.program (this_of env.method)

  pub place_does : (x : NumberedExp) (at : ℕ) (stack : List Held) → CodeAt c at (place x at) → Implements w c (here at stack) (located env x) (Places (kind x) (pc_after at (place x at)) stack)
  place_does (e.Variable q x) at stack st = does_value w c (Places (InSlot x) at stack) (here at stack) (InVariable x) (stack, (refl, refl), refl)
  place_does (e.OwnField q field) at stack st =
      object_placed field (type_of env (e.This q)) (gives (Plain (v.Obj env.this))) (at + 1) stack (here at stack)
      (own_does c env names slots holds (has_this names) at stack (own_held env.this names env.variables env.turns slots holds) st)
  place_does (e.Select q x name) at stack st =
      object_placed (field_selected env x name) (type_of env x) (eval env x) _ stack (here at stack) (does c env names slots holds x at stack st)
  place_does (e.Index q x parts) at stack st =
      let this = this_of env.method in
      let xs = code_of env.program this names x at in
      let ys = code_of_all env.program this names parts (pc_after at xs) in
      let mid = pc_after (pc_after at xs) ys in
      let Q = Places InElement (mid + 1) stack in
      let made = λ (h : Held) (ns : List ℤ). InPart (Element h (type_of env x) (literal.point_of_numbers ns)) in
      subst (λ n. Implements w c (here at stack) (located env (e.Index q x parts)) (Places InElement n stack))
      (sym (behind_both at xs (ys ++ i.MakePt (how_many parts) ∷ []) ∙ behind_both (pc_after at xs) ys (i.MakePt (how_many parts) ∷ [])))
      (next c env names slots holds Q (pc_after at xs) stack (here at stack) (eval env x) (λ h rs. bind_result (eval_numbers env parts rs) (λ ns. gives (made h ns)))
      (does c env names slots holds x at stack (front_stands c at xs _ st))
      (λ h. does_then w c (PushesNumbers c env names slots holds mid (h ∷ stack) (how_many parts)) Q (here (pc_after at xs) (h ∷ stack)) (eval_numbers env parts) (λ ns. gives (made h ns))
      (numbers_do c env names slots holds parts (pc_after at xs) (h ∷ stack) (front_stands c (pc_after at xs) ys _ (rest_stands c at xs _ st)))
      (λ ns s k. from_spot c env names slots holds Q s _ (gives (made h ns)) k.3
      (does_behind w c Q (here mid (pushed k.0 (h ∷ stack))) (here (mid + 1) (Plain (v.Pt (literal.point_of_numbers ns)) ∷ h ∷ stack)) (gives (made h ns)) (i.MakePt (how_many parts))
      (rest_stands c (pc_after at xs) ys _ (rest_stands c at xs _ st)).0 (λ rs. point_made (how_many parts) k.0 ns mid (h ∷ stack) k.2 k.1 rs)
      (does_value w c Q _ (made h ns) (Plain (v.Pt (literal.point_of_numbers ns)) ∷ h ∷ stack, (h, type_of env x, literal.point_of_numbers ns, refl, refl), refl))))))
  place_does other at stack st = none_placed at stack st

  -- an action through a reference that is needed, behind which the variables are as before
  cell_written : (p : Place) (through : ValueType) (h : Held) (f g : Reference → Request) (s : LocalState) (j : Instr) (stack : List Held) → slice_get c s.at ≡ Some j
      → ((id : Id) → (g (record { thing = id; type = t.Void })).place ≡ (f (record { thing = id; type = through })).place)
      → ((id : Id) → (g (record { thing = id; type = t.Void })).action ≡ (f (record { thing = id; type = through })).action)
      → ((rs : List Answer) → effect w j s rs ≡ bind_result (needed p t.Void h rs) (λ r ms. bind_result (asked (g r) ms) (λ done. gives (here (s.at + 1) stack))))
      → Implements w c s (λ rs. bind_result (needed p through h rs) (λ r ms. bind_result (asked (f r) ms) (λ done. gives env.variables))) (Stored (s.at + 1) names stack)
  cell_written p through h f g s j stack st same_place same_action is =
      let Q = Stored (s.at + 1) names stack in
      let m : Comp Held = λ rs. bind_result (needed p through h rs) (λ r. asked (f r)) in
      let n : Comp Held = λ rs. bind_result (needed p t.Void h rs) (λ r. asked (g r)) in
      let d : Implements w c s m (λ done z. z ≡ here (s.at + 1) stack) = does_one w c (λ done z. z ≡ here (s.at + 1) stack) s m n (λ done. here (s.at + 1) stack) j st
      (needed_alike c env names slots holds p through t.Void h (λ r. asked (f r)) (λ r. asked (g r)) (λ id ms. asked_alike c env names slots holds _ _ (same_place id) (same_action id) ms))
      (λ rs. is rs ∙ sym (in_turn (needed p t.Void h rs) (λ r. asked (g r)) (λ done. gives (here (s.at + 1) stack)))) (λ done. refl) in
      let whole : Implements w c s (λ rs. bind_result (m rs) (λ done. gives env.variables)) Q =
      does_then w c (λ done z. z ≡ here (s.at + 1) stack) Q s m (λ done. gives env.variables) d (λ done z e. does_value w c Q z env.variables (slots, holds, e)) in
      λ rs. subst (λ got. ReachesResult w c Q s rs got) (in_turn (needed p through h rs) (λ r. asked (f r)) (λ done. gives env.variables)) (whole rs)

  -- a value goes from above the reference and the index into the target
  pub store_does : (k : TargetKind) (p : Place) (target : Target) (x : Held) (operands stack : List Held) (at : ℕ)
      → IsPlaced k target operands stack → HasRepr (held_known k) x → CodeAt c at (store_code names p k)
      → Implements w c (here at (x ∷ operands)) (stored env p target x) (Stored (pc_after at (store_code names p k)) names stack)
  store_does (InSlot y) p target x operands stack at z is_known st =
      subst (λ r. Implements w c (here at (x ∷ operands)) (stored env p r x) (Stored (at + 1) names stack)) (sym z.0)
      (subst (λ os. Implements w c (here at (x ∷ os)) (gives (with_changed y x env.variables)) (Stored (at + 1) names stack)) (sym z.1)
      (written_does (written_slot y names) (with_changed y x env.variables) x at stack (written env.this names env.variables env.turns slots y x is_known holds) st))
  store_does (InField field) p target x operands stack at z is_known st =
      subst (λ r. Implements w c (here at (x ∷ operands)) (stored env p r x) (Stored (at + 1) names stack)) (sym z.2)
      (subst (λ os. Implements w c (here at (x ∷ os)) (stored env p (InPart (Field z.0 z.1 field)) x) (Stored (at + 1) names stack)) (sym z.3)
      (cell_written p z.1 z.0 (λ r. request_through r p (act.PutField r.thing field (plain_of x)) ToBeDone) (λ r. request_through r p (act.PutField r.thing field (plain_of x)) ToBeDone)
      (here at (x ∷ z.0 ∷ stack)) (i.PutField field p) stack st.0 (λ id. refl) (λ id. refl) (λ rs. refl)))
  store_does InElement p target x operands stack at z is_known st =
      subst (λ r. Implements w c (here at (x ∷ operands)) (stored env p r x) (Stored (at + 1) names stack)) (sym z.3)
      (subst (λ os. Implements w c (here at (x ∷ os)) (stored env p (InPart (Element z.0 z.1 z.2)) x) (Stored (at + 1) names stack)) (sym z.4)
      (cell_written p z.1 z.0 (λ r. request_through r p (act.PutElem r.thing z.2 (plain_of x)) ToBeDone) (λ r. request_through r p (act.PutElem r.thing z.2 (plain_of x)) ToBeDone)
      (here at (x ∷ Plain (v.Pt z.2) ∷ z.0 ∷ stack)) (i.PutElem p) stack st.0 (λ id. refl) (λ id. refl) (λ rs. refl)))

  -- ---- right sides

  -- wherever the code of a right side stands, it pushes what this comes to, also above slots that no name means
  abbrev pub RightDoes : (List Name → ℕ → List Instr) → Comp Held → Type 0
  RightDoes right m = (more : List Held) (from : ℕ) (under : List Held) → CodeAt c from (right (hide more names) from)
      → Implements w c (record { at = from; slots = more ++ slots; stack = under }) m
      (λ h s. s ≡ record { at = pc_after from (right (hide more names) from); slots = more ++ slots; stack = h ∷ under })

  pub expression_right : (x : NumberedExp) → RightDoes (λ ns from. code_of env.program (this_of env.method) ns x from) (eval env x)
  expression_right x more from under st = does c env (hide more names) (more ++ slots) (hide_holds env.this more names env slots holds) x from under st

  -- ---- compound assignments

  -- what comes behind the old value: the right side, the operator, the conversion
  changed_does : (more : List Held) (Q : List Variable → LocalState → Type 0) (p : Place) (op : BinaryOperator) (name : Operation) (j k : StaticRepr)
      (type : ValueType) (right : List Name → ℕ → List Instr) (m : Comp Held) (o : Held) (at : ℕ)
      (under : List Held) (rest : List Instr) (go : Held → Comp (List Variable)) → binary_operator_of name ≡ op → HasRepr j o → Comes (HasRepr k) m → RightDoes right m
      → CodeAt c at (right (hide more names) at ++ i.Operate name p ∷ (conversion p type (operated_known op j k) ++ rest))
      → ((x : Held) → HasRepr (known_of_type type) x
      → Implements w c (record { at = pc_after (pc_after at (right (hide more names) at) + 1) (conversion p type (operated_known op j k)); slots = more ++ slots; stack = x ∷ under }) (go x) Q)
      → Implements w c (record { at = at; slots = more ++ slots; stack = o ∷ under }) (λ rs. bind_result (m rs) (λ h ms. bind_result (apply_binary p op o h ms) (λ new ls. bind_result (converted p type new ls) go))) Q
  changed_does more Q p op name j k type right m o at under rest go means old_known right_known d st f =
      let ns = hide more names in
      let hs = more ++ slots in
      let inner = hide_holds env.this more names env slots holds in
      let xs = right ns at in
      let mid = pc_after at xs in
      let new_known = operated_known op j k in
      let change = conversion p type new_known in
      let tail = rest_stands c at xs (i.Operate name p ∷ (change ++ rest)) st in
      next_known c env ns hs inner (HasRepr k) Q mid (o ∷ under) (record { at = at; slots = hs; stack = o ∷ under }) m
      (λ h ms. bind_result (apply_binary p op o h ms) (λ new ls. bind_result (converted p type new ls) go)) right_known
      (d more at (o ∷ under) (front_stands c at xs (i.Operate name p ∷ (change ++ rest)) st))
      (λ h z. next_known c env ns hs inner (HasRepr new_known) Q (mid + 1) under (record { at = mid; slots = hs; stack = h ∷ o ∷ under })
      (apply_binary p op o h) (λ new ls. bind_result (converted p type new ls) go)
      (operated_is_known p op j k o h old_known z)
      (instr c env ns hs inner (i.Operate name p) (apply_binary p op o h) (record { at = mid; slots = hs; stack = h ∷ o ∷ under }) (mid + 1) under tail.0
      (λ rs. ap (λ b. bind_result (apply_binary p b o h rs) (λ r. gives (record { at = mid + 1; slots = hs; stack = r ∷ under }))) means))
      (λ new is_new. next_known c env ns hs inner (HasRepr (known_of_type type)) Q (pc_after (mid + 1) change) under (record { at = mid + 1; slots = hs; stack = new ∷ under }) (converted p type new) go
      (converted_known p type new) (convert_does c env ns hs inner type new_known p new (mid + 1) under is_new (front_stands c (mid + 1) change rest tail.1))
      f))

  -- where the way of an operator ends
  behind_changed : (xs : List Instr) (j : Instr) (change rest : List Instr) (at : ℕ) → pc_after at (xs ++ j ∷ (change ++ rest)) ≡ pc_after (pc_after (pc_after at xs + 1) change) rest
  behind_changed xs j change rest at = behind_both at xs (j ∷ (change ++ rest)) ∙ behind_both (pc_after at xs + 1) change rest

  -- the rest of a compound assignment, behind its reference and its index
  abbrev pub updated : Place → Place → BinaryOperator → ValueType → Target → Comp Held → Comp (List Variable)
  updated p q op type target m rs =
      bind_result (held_in env q type target rs) (λ o ms. bind_result (m ms) (λ h ls. bind_result (apply_binary p op o h ls) (λ new ks. bind_result (converted p type new ks) (stored env p target))))

  slot_update : (y : VariableUse) (p q : Place) (op : BinaryOperator) (name : Operation) (k : StaticRepr) (type : ValueType) (right : List Name
      → ℕ → List Instr) (m : Comp Held) (at : ℕ) (stack : List Held)
      → binary_operator_of name ≡ op → ((x : Held) → HasRepr (known_of_type type) x → HasRepr (held_known (InSlot y)) x) → Comes (HasRepr k) m → RightDoes right m
      → CodeAt c at (update_code names p q name (operated_known op (held_known (InSlot y)) k) type (InSlot y) right at)
      → Implements w c (here at stack) (updated p q op type (InVariable y) m)
      (Stored (pc_after at (update_code names p q name (operated_known op (held_known (InSlot y)) k) type (InSlot y) right at)) names
      stack)
  slot_update y p q op name k type right m at stack means fits is_known d st =
      let j = held_known (InSlot y) in
      let xs = right names (at + 1) in
      let change = conversion p type (operated_known op j k) in
      let rest = store_code names p (InSlot y) in
      let end = pc_after (pc_after (pc_after (at + 1) xs + 1) change) rest in
      let Q = Stored end names stack in
      let old = find_variable y env.variables in
      subst (λ n. Implements w c (here at stack) (updated p q op type (InVariable y) m) (Stored n names stack)) (sym (behind_changed xs (i.Operate name p) change rest (at + 1)))
      (next_known c env names slots holds (HasRepr j) Q (at + 1) stack (here at stack) (gives old)
      (λ o rs. bind_result (m rs) (λ h ms. bind_result (apply_binary p op o h ms) (λ new ls. bind_result (converted p type new ls) (stored env p (InVariable y)))))
      (λ rs. found_known env.this names env.variables env.turns slots holds y)
      (load_does c env names slots holds (written_slot y names) y old at stack
      (found env.this names env.variables env.turns slots holds any y) (st.0, tt))
      (λ o z. changed_does [] Q p op name j k type right m o (at + 1) stack rest (stored env p (InVariable y)) means z is_known d st.1
      (λ x is_new. store_does (InSlot y) p (InVariable y) x stack stack (pc_after (pc_after (at + 1) xs + 1) change) (refl, refl) (fits x is_new)
      (rest_stands c (pc_after (at + 1) xs + 1) change rest (rest_stands c (at + 1) xs (i.Operate name p ∷ (change ++ rest)) st.1).1))))

  field_update : (field : ℕ) (object : Held) (through : ValueType) (p q : Place) (op : BinaryOperator) (name : Operation) (k : StaticRepr)
      (type : ValueType) (right : List Name → ℕ → List Instr) (m : Comp Held) (at : ℕ) (stack : List Held)
      → binary_operator_of name ≡ op → Comes (HasRepr k) m → RightDoes right m → CodeAt c at (update_code names p q name (operated_known op known.Other k) type (InField field) right at)
      → Implements w c (here at (object ∷ stack)) (updated p q op type (InPart (Field object through field)) m)
      (Stored (pc_after at (update_code names p q name (operated_known op known.Other k) type (InField field) right at)) names stack)
  field_update field object through p q op name k type right m at stack means is_known d st =
      let xs = right names (at + 1 + 1) in
      let change = conversion p type (operated_known op known.Other k) in
      let rest = store_code names p (InField field) in
      let target = InPart (Field object through field) in
      let end = pc_after (pc_after (pc_after (at + 1 + 1) xs + 1) change) rest in
      let Q = Stored end names stack in
      subst (λ n. Implements w c (here at (object ∷ stack)) (updated p q op type target m) (Stored n names stack)) (sym (behind_changed xs (i.Operate name p) change rest (at + 1 + 1)))
      (does_behind w c Q (here at (object ∷ stack)) (here (at + 1) (object ∷ object ∷ stack)) (updated p q op type target m) i.Dup st.0 (λ rs. refl)
      (next c env names slots holds Q (at + 1 + 1) (object ∷ stack) (here (at + 1) (object ∷ object ∷ stack)) (fetched q type (Field object through field))
      (λ o rs. bind_result (m rs) (λ h ms. bind_result (apply_binary p op o h ms) (λ new ls. bind_result (converted p type new ls) (stored env p target))))
      (field_does c env names slots holds q type through object field (at + 1) (object ∷ stack) (st.1.0, tt))
      (λ o. changed_does [] Q p op name known.Other k type right m o (at + 1 + 1) (object ∷ stack) rest (stored env p target) means tt is_known d st.1.1
      (λ x is_new. store_does (InField field) p target x (object ∷ stack) stack (pc_after (pc_after (at + 1 + 1) xs + 1) change) (object, through, refl, refl) tt
      (rest_stands c (pc_after (at + 1 + 1) xs + 1) change rest (rest_stands c (at + 1 + 1) xs (i.Operate name p ∷ (change ++ rest)) st.1.1).1)))))

module _ (c : List Instr) (env : Env) (names : List Name) (slots : List Held) (holds : SlotsHold env.this names env.variables env.turns slots) where
  abbrev n : ℕ
  n = length names

  abbrev me : Who
  me = who c env names slots holds

  n_is : n ≡ length slots
  n_is = as_many env.this names env.variables env.turns slots holds

  -- where a frame stands with these slots above its own
  abbrev pub with_more : List Held → ℕ → List Held → LocalState
  with_more more at stack = record { at = at; slots = more ++ slots; stack = stack }

  -- slots that no name means are dropped at the end
  dropping_does : (more : List Held) (m : Comp (List Variable)) (s : LocalState) (at : ℕ) (stack : List Held) → slice_get c at ≡ Some (i.Trim n)
      → Implements me c s m (Stored c env (hide more names) (more ++ slots) (hide_holds env.this more names env slots holds) at (hide more names) stack)
      → Implements me c s m (Stored c env names slots holds (at + 1) names stack)
  dropping_does more m s at stack st d =
      let Q = Stored c env names slots holds (at + 1) names stack in
      does_after me c (Stored c env (hide more names) (more ++ slots) (hide_holds env.this more names env slots holds) at (hide more names) stack) Q s m d
      (λ vs z k. subst (λ y. Implements me c y (gives vs) Q) (sym k.2)
      (does_behind me c Q (record { at = at; slots = k.0; stack = stack }) (record { at = at + 1; slots = oldest_slots n k.0; stack = stack }) (gives vs) (i.Trim n) st (λ rs. refl)
      (does_value me c Q _ vs (oldest_slots n k.0, all_dropped env.this more names vs env.turns k.0 k.1, refl))))

  -- a value goes into an element whose grid lies under it, and whose index waits in a slot
  element_kept : (p : Place) (k h : Held) (through : ValueType) (index : Point) (at : ℕ) (stack : List Held)
      → CodeAt c at (i.Keep (n + 1) ∷ i.Load n ∷ i.Load (n + 1) ∷ i.PutElem p ∷ i.Trim n ∷ [])
      → Implements me c (with_more (Plain (v.Pt index) ∷ []) at (k ∷ h ∷ stack)) (stored env p (InPart (Element h through index)) k) (Stored c env names slots holds (at + 1 + 1 + 1 + 1 + 1) names stack)
  element_kept p k h through index at stack st =
      let pt = Plain (v.Pt index) in
      let m = stored env p (InPart (Element h through index)) k in
      let Q = Stored c env names slots holds (at + 1 + 1 + 1 + 1 + 1) names stack in
      let both = k ∷ pt ∷ [] in
      let next_is : n + 1 ≡ length (pt ∷ slots) = omega (arith, n_is) in
      let less : n < length (pt ∷ slots) = omega (arith, n_is) in
      does_behind me c Q (with_more (pt ∷ []) at (k ∷ h ∷ stack)) (with_more both (at + 1) (h ∷ stack)) m (i.Keep (n + 1)) st.0
      (λ rs. ap (λ hs. Gives (record { at = at + 1; slots = hs; stack = h ∷ stack }) rs) (new_put (n + 1) k (pt ∷ slots) next_is))
      (does_behind me c Q (with_more both (at + 1) (h ∷ stack)) (with_more both (at + 1 + 1) (pt ∷ h ∷ stack)) m (i.Load n) st.1.0
      (λ rs. ap (λ x. Gives (with_more both (at + 1 + 1) (x ∷ h ∷ stack)) rs) (older n k (pt ∷ slots) less ∙ newest n pt slots n_is))
      (does_behind me c Q (with_more both (at + 1 + 1) (pt ∷ h ∷ stack)) (with_more both (at + 1 + 1 + 1) (k ∷ pt ∷ h ∷ stack)) m (i.Load (n + 1)) st.1.1.0
      (λ rs. ap (λ x. Gives (with_more both (at + 1 + 1 + 1) (x ∷ pt ∷ h ∷ stack)) rs) (newest (n + 1) k (pt ∷ slots) next_is))
      (dropping_does both m (with_more both (at + 1 + 1 + 1) (k ∷ pt ∷ h ∷ stack)) (at + 1 + 1 + 1 + 1) stack st.1.1.1.1.0
      (store_does c env (hide both names) (both ++ slots) (hide_holds env.this both names env slots holds) InElement p (InPart (Element h through index)) k (pt ∷ h ∷ stack) stack (at + 1 + 1 + 1)
      (h, through, index, refl, refl) tt (st.1.1.1.0, tt)))))

  element_update : (h : Held) (through : ValueType) (index : Point) (p q : Place) (op : BinaryOperator) (name : Operation)
      (known_right : StaticRepr) (type : ValueType) (right : List Name → ℕ → List Instr) (m : Comp Held) (at : ℕ) (stack : List Held)
      → binary_operator_of name ≡ op → Comes (HasRepr known_right) m → RightDoes c env names slots holds right m
      → CodeAt c at (update_code names p q name (operated_known op known.Other known_right) type InElement right at)
      → Implements me c (state c env names slots holds at (Plain (v.Pt index) ∷ h ∷ stack)) (updated c env names slots holds p q op type (InPart (Element h through index)) m)
      (Stored c env names slots holds (pc_after at (update_code names p q name (operated_known op known.Other known_right) type InElement right at)) names stack)
  element_update h through index p q op name known_right type right m at stack means is_known d st =
      let pt = Plain (v.Pt index) in
      let one = pt ∷ [] in
      let target = InPart (Element h through index) in
      let all = updated c env names slots holds p q op type target m in
      let start = at + 1 + 1 + 1 + 1 in
      let xs = right (Hidden ∷ names) start in
      let change = conversion p type (operated_known op known.Other known_right) in
      let rest = i.Keep (n + 1) ∷ i.Load n ∷ i.Load (n + 1) ∷ i.PutElem p ∷ i.Trim n ∷ [] in
      let before = pc_after (pc_after start xs + 1) change in
      let Q = Stored c env names slots holds (before + 1 + 1 + 1 + 1 + 1) names stack in
      let inner = hide_holds env.this one names env slots holds in
      subst (λ e. Implements me c (state c env names slots holds at (pt ∷ h ∷ stack)) all (Stored c env names slots holds e names stack))
      (sym (behind_changed c env names slots holds xs (i.Operate name p) change rest start))
      (does_behind me c Q (state c env names slots holds at (pt ∷ h ∷ stack)) (with_more one (at + 1) (h ∷ stack)) all (i.Keep n) st.0
      (λ rs. ap (λ hs. Gives (record { at = at + 1; slots = hs; stack = h ∷ stack }) rs) (new_put n pt slots n_is))
      (does_behind me c Q (with_more one (at + 1) (h ∷ stack)) (with_more one (at + 1 + 1) (h ∷ h ∷ stack)) all i.Dup st.1.0 (λ rs. refl)
      (does_behind me c Q (with_more one (at + 1 + 1) (h ∷ h ∷ stack)) (with_more one (at + 1 + 1 + 1) (pt ∷ h ∷ h ∷ stack)) all (i.Load n) st.1.1.0
      (λ rs. ap (λ x. Gives (with_more one (at + 1 + 1 + 1) (x ∷ h ∷ h ∷ stack)) rs) (newest n pt slots n_is))
      (next c env (Hidden ∷ names) (pt ∷ slots) inner Q start (h ∷ stack) (with_more one (at + 1 + 1 + 1) (pt ∷ h ∷ h ∷ stack)) (fetched q type (Element h through index))
      (λ o rs. bind_result (m rs) (λ x ms. bind_result (apply_binary p op o x ms) (λ new ls. bind_result (converted p type new ls) (stored env p target))))
      (element_does c env (Hidden ∷ names) (pt ∷ slots) inner q type through h pt (at + 1 + 1 + 1) (h ∷ stack) (st.1.1.1.0, tt))
      (λ o. changed_does c env names slots holds one Q p op name known.Other known_right type right m o start (h ∷ stack) rest (stored env p target) means tt is_known d st.1.1.1.1
      (λ k is_new. element_kept p k h through index before stack (rest_stands c (pc_after start xs + 1) change rest (rest_stands c start xs (i.Operate name p ∷ (change ++ rest)) st.1.1.1.1).1)))))))

  update_does : (k : TargetKind) (target : Target) (operands : List Held) (p q : Place) (op : BinaryOperator) (name : Operation) (j : StaticRepr)
      (type : ValueType) (right : List Name → ℕ → List Instr) (m : Comp Held) (at : ℕ) (stack : List Held)
      → IsPlaced c env names slots holds k target operands stack → binary_operator_of name ≡ op → ((x : Held) → HasRepr (known_of_type type) x → HasRepr (held_known k) x) → Comes (HasRepr j) m
      → RightDoes c env names slots holds right m → CodeAt c at (update_code names p q name (operated_known op (held_known k) j) type k right at)
      → Implements me c (state c env names slots holds at operands) (updated c env names slots holds p q op type target m)
      (Stored c env names slots holds (pc_after at (update_code names p q name (operated_known op (held_known k) j) type k right at)) names stack)
  update_does (InSlot y) target operands p q op name j type right m at stack z means fits is_known d st =
      let Q = Stored c env names slots holds (pc_after at (update_code names p q name (operated_known op (held_known (InSlot y)) j) type (InSlot y) right at)) names stack in
      subst (λ r. Implements me c (state c env names slots holds at operands) (updated c env names slots holds p q op type r m) Q) (sym z.0)
      (subst (λ os. Implements me c (state c env names slots holds at os) (updated c env names slots holds p q op type (InVariable y) m) Q) (sym z.1)
      (slot_update c env names slots holds y p q op name j type right m at stack means fits is_known d st))
  update_does (InField field) target operands p q op name j type right m at stack z means fits is_known d st =
      let Q = Stored c env names slots holds (pc_after at (update_code names p q name (operated_known op known.Other j) type (InField field) right at)) names stack in
      subst (λ r. Implements me c (state c env names slots holds at operands) (updated c env names slots holds p q op type r m) Q) (sym z.2)
      (subst (λ os. Implements me c (state c env names slots holds at os) (updated c env names slots holds p q op type (InPart (Field z.0 z.1 field)) m) Q) (sym z.3)
      (field_update c env names slots holds field z.0 z.1 p q op name j type right m at stack means is_known d st))
  update_does InElement target operands p q op name j type right m at stack z means fits is_known d st =
      let Q = Stored c env names slots holds (pc_after at (update_code names p q name (operated_known op known.Other j) type InElement right at)) names stack in
      subst (λ r. Implements me c (state c env names slots holds at operands) (updated c env names slots holds p q op type r m) Q) (sym z.3)
      (subst (λ os. Implements me c (state c env names slots holds at os) (updated c env names slots holds p q op type (InPart (Element z.0 z.1 z.2)) m) Q) (sym z.4)
      (element_update z.0 z.1 z.2 p q op name j type right m at stack means is_known d st))

  -- ---- the whole way

  abbrev pub into_here : Receiver → OperandClass → StaticRepr → (List Name → ℕ → List Instr) → ℕ → List Instr
  into_here r kind j right at = into_code env.program (this_of env.method) r kind j right names at

  -- a value of the type that a target has in the text is one that the target holds
  target_fits : (target : NumberedExp) (x : Held) → HasRepr (known_of_type (type_of env target)) x → HasRepr (held_known (kind_of_target env.program (this_of env.method) target)) x
  target_fits (e.Variable q y) x z = subst (λ j. HasRepr j x) (used_known y.declared y.number) z
  target_fits target x z = tt

  pub into_does : (r : Receiver) (kind : OperandClass) (j : StaticRepr) (right : List Name → ℕ → List Instr) (m : Comp Held) (at : ℕ)
      (stack : List Held) → Comes (HasRepr j) m → RightDoes c env names slots holds right m
      → CodeAt c at (into_here r kind j right at)
      → Implements me c (state c env names slots holds at stack) (into env r m) (Stored c env names slots holds (pc_after at (into_here r kind j right at)) (names_behind r names) stack)
  into_does Nowhere kind j right m at stack is_known d st =
      let xs = right names at in
      let Q = Stored c env names slots holds (pc_after at xs + 1) names stack in
      subst (λ e. Implements me c (state c env names slots holds at stack) (into env Nowhere m) (Stored c env names slots holds e names stack)) (sym (behind_both at xs (i.Pop ∷ [])))
      (next c env names slots holds Q (pc_after at xs) stack (state c env names slots holds at stack) m (λ h. gives env.variables) (d [] at stack (front_stands c at xs (i.Pop ∷ []) st))
      (λ h. does_behind me c Q (state c env names slots holds (pc_after at xs) (h ∷ stack))
      (state c env names slots holds (pc_after at xs + 1) stack) (gives env.variables) i.Pop (rest_stands c at xs (i.Pop ∷ []) st).0
      (λ rs. refl)
      (does_value me c Q _ env.variables (slots, holds, refl))))
  into_does (Declared p x) kind j right m at stack is_known d st =
      let xs = right names at in
      let type = declared_type x.declared in
      let change = conversion p type j in
      let keep = i.Keep n ∷ [] in
      let mid = pc_after at xs in
      let Q = Stored c env names slots holds (pc_after mid change + 1) (Of x ∷ names) stack in
      let tail = rest_stands c at xs (change ++ keep) st in
      subst (λ e. Implements me c (state c env names slots holds at stack) (into env (Declared p x) m)
      (Stored c env names slots holds e (Of x ∷ names) stack)) (sym (behind_both at xs (change ++ keep)
      ∙ behind_both mid change keep))
      (next_known c env names slots holds (HasRepr j) Q mid stack (state c env names slots holds at stack) m
      (λ h rs. bind_result (converted p type h rs) (λ k. gives (with_new x k env.variables))) is_known
      (d [] at stack (front_stands c at xs (change ++ keep) st))
      (λ h z. next_known c env names slots holds (HasRepr (known_of_type type)) Q (pc_after mid change) stack
      (state c env names slots holds mid (h ∷ stack)) (converted p type h) (λ k. gives (with_new x k env.variables))
      (converted_known p type h) (convert_does c env names slots holds type j p h mid stack z (front_stands c mid change keep tail))
      (λ k fits. new_does c env names slots holds x k (pc_after mid change) stack (subst (λ i. HasRepr i k) (declared_known x.declared) fits) (rest_stands c mid change keep tail))))
  into_does (Assigned p target) kind j right m at stack is_known d st =
      let ps = place c env names slots holds target at in
      let from = pc_after at ps in
      let xs = right names from in
      let type = type_of env target in
      let change = conversion p type j in
      let k = kind_of_target env.program (this_of env.method) target in
      let store = store_code names p k in
      let mid = pc_after from xs in
      let Q = Stored c env names slots holds (pc_after (pc_after mid change) store) names stack in
      let tail = rest_stands c at ps (xs ++ (change ++ store)) st in
      subst (λ e. Implements me c (state c env names slots holds at stack) (into env (Assigned p target) m) (Stored c env names slots holds e names stack))
      (sym (behind_both at ps (xs ++ (change ++ store)) ∙ (behind_both from xs (change ++ store) ∙ behind_both mid change store)))
      (does_then me c (Places c env names slots holds k from stack) Q (state c env names slots holds at stack) (located env target)
      (λ r rs. bind_result (m rs) (λ h ms. bind_result (converted p type h ms) (λ x. stored env p r x)))
      (place_does c env names slots holds target at stack (front_stands c at ps (xs ++ (change ++ store)) st))
      (λ r s z. subst (λ y. Implements me c y (λ rs. bind_result (m rs) (λ h ms. bind_result (converted p type h ms) (λ x. stored env p r x))) Q) (sym z.2)
      (next_known c env names slots holds (HasRepr j) Q mid z.0 (state c env names slots holds from z.0) m
      (λ h ms. bind_result (converted p type h ms) (λ x. stored env p r x)) is_known
      (d [] from z.0 (front_stands c from xs (change ++ store) tail))
      (λ h is_right. next_known c env names slots holds (HasRepr (known_of_type type)) Q (pc_after mid change) z.0
      (state c env names slots holds mid (h ∷ z.0)) (converted p type h) (λ x. stored env p r x)
      (converted_known p type h) (convert_does c env names slots holds type j p h mid z.0 is_right (front_stands c mid change store (rest_stands c from xs (change ++ store) tail)))
      (λ x fits. store_does c env names slots holds k p r x z.0 stack (pc_after mid change) z.1 (target_fits target x fits)
      (rest_stands c mid change store (rest_stands c from xs (change ++ store) tail)))))))
  into_does (Updated p op target) kind j right m at stack is_known d st =
      let ps = place c env names slots holds target at in
      let from = pc_after at ps in
      let q = place_of_numbered target in
      let type = type_of env target in
      let k = kind_of_target env.program (this_of env.method) target in
      let name = updating env.program (this_of env.method) op target kind in
      let code = update_code names p q name (operated_known op (held_known k) j) type k right from in
      let Q = Stored c env names slots holds (pc_after from code) names stack in
      subst (λ e. Implements me c (state c env names slots holds at stack) (into env (Updated p op target) m) (Stored c env names slots holds e names stack)) (sym (behind_both at ps code))
      (does_then me c (Places c env names slots holds k from stack) Q (state c env names slots holds at stack) (located env target) (λ r. updated c env names slots holds p q op type r m)
      (place_does c env names slots holds target at stack (front_stands c at ps code st))
      (λ r s z. subst (λ y. Implements me c y (updated c env names slots holds p q op type r m) Q) (sym z.2)
      (update_does k r z.0 p q op name j type right m from stack z.1 (operation_means op _ _) (target_fits target) is_known d (rest_stands c at ps code st))))

-- a value waits in a slot of its own, from which it is taken in place of a right side
load_right : (c : List Instr) (env : Env) (names : List Name) (slots : List Held) (h : Held) (holds : SlotsHold env.this (Hidden ∷ names) env.variables env.turns (h ∷ slots)) (n : ℕ) → n ≡ length slots
    → RightDoes c env (Hidden ∷ names) (h ∷ slots) holds (λ ns from. i.Load n ∷ []) (gives h)
load_right c env names slots h holds n e more from under st =
    let less : n < length (h ∷ slots) = omega (arith, e) in
    instr c env (hide more (Hidden ∷ names)) (more ++ (h ∷ slots)) (hide_holds env.this more (Hidden ∷ names) env (h ∷ slots) holds) (i.Load n) (gives h)
    (record { at = from; slots = more ++ (h ∷ slots); stack = under }) (from + 1) under st.0
    (λ rs. ap (λ x. Gives (record { at = from + 1; slots = more ++ (h ∷ slots); stack = x ∷ under }) rs) (under_hidden more n (h ∷ slots) less ∙ newest n h slots e))

module _ (c : List Instr) (env : Env) (names : List Name) (slots : List Held) (holds : SlotsHold env.this names env.variables env.turns slots) where
  abbrev late : Receiver → OperandClass → StaticRepr → ℕ → List Instr
  late r kind j at = late_code env.program (this_of env.method) r kind j names at

  waiting_does : (r : Receiver) (kind : OperandClass) (j : StaticRepr) (h : Held) (at : ℕ) (stack : List Held) → names_behind r (Hidden ∷ names) ≡ Hidden ∷ names → HasRepr j h
      → CodeAt c at (waiting_code env.program (this_of env.method) r kind j names at)
      → Implements (who c env names slots holds) c (state c env names slots holds at (h ∷ stack)) (into env r (gives h))
      (Stored c env names slots holds (pc_after at (waiting_code env.program (this_of env.method) r kind j names at)) names stack)
  waiting_does r kind j h at stack same is_known st =
      let k = length names in
      let k_is : k ≡ length slots = as_many env.this names env.variables env.turns slots holds in
      let ns = Hidden ∷ names in
      let hs = h ∷ slots in
      let inner : SlotsHold env.this ns env.variables env.turns hs = hidden holds in
      let right = λ (ms : List Name) (from : ℕ). i.Load k ∷ [] in
      let code = into_code env.program (this_of env.method) r kind j right ns (at + 1) in
      let m = into env r (gives h) in
      let end = pc_after (at + 1) code in
      subst (λ e. Implements (who c env names slots holds) c (state c env names slots holds at (h ∷ stack)) m (Stored c env names slots holds e names stack)) (sym (behind_both (at + 1) code (i.Trim k ∷ [])))
      (does_behind (who c env names slots holds) c (Stored c env names slots holds (end + 1) names stack)
      (state c env names slots holds at (h ∷ stack)) (record { at = at + 1; slots = hs; stack = stack }) m (i.Keep k) st.0
      (λ rs. ap (λ gs. Gives (record { at = at + 1; slots = gs; stack = stack }) rs) (new_put k h slots k_is))
      (dropping_does c env names slots holds (h ∷ []) m (record { at = at + 1; slots = hs; stack = stack }) end stack (rest_stands c (at + 1) code (i.Trim k ∷ []) st.1).0
      (subst (λ ms. Implements (who c env names slots holds) c (record { at = at + 1; slots = hs; stack = stack }) m (Stored c env ns hs inner end ms stack)) same
      (into_does c env ns hs inner r kind j right (gives h) (at + 1) stack (λ rs. is_known) (load_right c env names slots h inner k k_is) (front_stands c (at + 1) code (i.Trim k ∷ []) st.1)))))

  pub late_does : (r : Receiver) (kind : OperandClass) (j : StaticRepr) (h : Held) (at : ℕ) (stack : List Held) → HasRepr j h → CodeAt c at (late r kind j at)
      → Implements (who c env names slots holds) c (state c env names slots holds at (h ∷ stack)) (into env r (gives h))
      (Stored c env names slots holds (pc_after at (late r kind j at)) (names_behind r names) stack)
  late_does Nowhere kind j h at stack is_known st =
      does_behind (who c env names slots holds) c (Stored c env names slots holds (at + 1) names stack) (state c env names slots holds at (h ∷ stack)) (state c env names slots holds (at + 1) stack)
      (gives env.variables) i.Pop st.0 (λ rs. refl)
      (does_value (who c env names slots holds) c (Stored c env names slots holds (at + 1) names stack) (state c env names slots holds (at + 1) stack) env.variables (slots, holds, refl))
  late_does (Declared p x) kind j h at stack is_known st =
      let type = declared_type x.declared in
      let change = conversion p type j in
      let Q = Stored c env names slots holds (pc_after at change + 1) (Of x ∷ names) stack in
      subst (λ e. Implements (who c env names slots holds) c (state c env names slots holds at (h ∷ stack)) (into env (Declared p x) (gives h)) (Stored c env names slots holds e (Of x ∷ names) stack))
      (sym (behind_both at change (i.Keep (length names) ∷ [])))
      (next_known c env names slots holds (HasRepr (known_of_type type)) Q (pc_after at change) stack
      (state c env names slots holds at (h ∷ stack)) (converted p type h) (λ k. gives (with_new x k env.variables))
      (converted_known p type h) (convert_does c env names slots holds type j p h at stack is_known (front_stands c at change _ st))
      (λ k fits. new_does c env names slots holds x k (pc_after at change) stack (subst (λ i. HasRepr i k) (declared_known x.declared) fits) (rest_stands c at change _ st)))
  late_does (Assigned p (e.Variable q x)) kind j h at stack is_known st =
      let type = type_of env (e.Variable q x) in
      let change = conversion p type j in
      let Q = Stored c env names slots holds (pc_after at change + 1) names stack in
      subst (λ m. Implements (who c env names slots holds) c (state c env names slots holds at (h ∷ stack)) (into env (Assigned p (e.Variable q x)) (gives h)) (Stored c env names slots holds m names stack))
      (sym (behind_both at change (keep_code (written_slot x names) ∷ [])))
      (next_known c env names slots holds (HasRepr (known_of_type type)) Q (pc_after at change) stack
      (state c env names slots holds at (h ∷ stack)) (converted p type h) (λ k. gives (with_changed x k env.variables))
      (converted_known p type h) (convert_does c env names slots holds type j p h at stack is_known (front_stands c at change _ st))
      (λ k fits. written_does c env names slots holds (written_slot x names) (with_changed x k env.variables) k (pc_after at change) stack
      (written env.this names env.variables env.turns slots x k (subst (λ i. HasRepr i k) (used_known x.declared x.number) fits)
      holds)
      (rest_stands c at change _ st)))
  late_does (Assigned p target) kind j h at stack is_known st = waiting_does (Assigned p target) kind j h at stack refl is_known st
  late_does (Updated p op target) kind j h at stack is_known st = waiting_does (Updated p op target) kind j h at stack refl is_known st
