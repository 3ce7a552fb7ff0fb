use Rattle.std.proofs.Common.{◌≡◌, ◌∙◌, sym, ap, subst, true, false, ℕ, ◌+◌, ◌≤◌, length, List, [], ◌∷◌, ◌++◌, reverse, slice_get, Some, None, IfOk}
use Rattle.ti_base.specs.declared.entry.Next.TheVariants as next
use Rattle.ti_base.specs.declared.fault.FaultKind.TheVariants.{NullRef}
use Rattle.ti_machine.specs.declared.frame.state.AnswerUse.TheVariants.{Ignore}
use Rattle.ti_lang.specs.Meaning.Comp.{Comp}
use Rattle.ti_lang.specs.Meaning.Held.{Held, Plain, referent_of}
use Rattle.ti_base.specs.declared.value.Value.TheVariants as v
use Rattle.ti_code.specs.declared.code.MethodCode.{MethodCode}
use Rattle.ti_code.specs.Programs.{Code}
use Rattle.ti_code.specs.Effects.{LocalState, top, below, under, top_operands}
use Rattle.ti_code.specs.Machine as seen
use Rattle.ti_code.specs.Machine.{next_step, first}
use Rattle.ti_machine.specs.declared.machine.StepResult.{StepResult}
use Rattle.ti_machine.specs.declared.machine.StepResult.TheVariants as turns
use Rattle.ti_machine.specs.Mirrors.FrameStates.{local_state_of}
use Rattle.ti_machine.specs.Mirrors.Instrs.{instrs_at}
use Rattle.ti_machine.specs.Mirrors.Machines.{machine_of, machine_at, frame_at, below_of, IsStepResult}
use Rattle.std.proofs.lemmas.List.{append-nil}
use Rattle.ti_machine.proofs.Reversed.{reverse_front}
use Rattle.ti_machine.proofs.Withins.{there, gone, instrs_there, call_stuck, call_is, call_on, call_on_null, none_there, fault_stood, ok_map}
use Rattle.ti_machine.proofs.machine.Machine.call.Goals as goal

pub returns-then-method-methods : goal.returns-then-method-methods
returns-then-method-methods c =
    let p = c.args.code.now in
    let m = c.args.self.now in
    call_stuck p m (machine_of p m) c.args.number c.args.place c.requires.here
    (gone p.methods c.args.number (subst (λ (ms : List MethodCode). length ms ≤ c.args.number) c.methods-methods.ensures.methods
    c.if-method-methods.true))

pub returns : goal.returns
returns c =
    let p = c.args.code.now in
    let m = c.args.self.now in
    let k = c.args.number in
    let s = local_state_of m.top.state in
    let x = c.index-methods-method.result in
    let q = machine_of p m in
    let f = frame_at p m s in
    let fs = below_of p m in
    let found : slice_get p.methods k ≡ Some x =
    subst (λ (ms : List MethodCode). slice_get ms k ≡ Some x) c.methods-methods.ensures.methods (there c.methods-methods.result.now k x c.if-method-methods.false c.index-methods-method.is) in
    let number : c.from.result ≡ x.params = c.from.ensures in
    let args = top_operands x.params s.stack [] in
    let args_are : c.in_ok-slots.slots.items ≡ args = c.in_ok-slots.ensures.args ∙ ap (λ (j : ℕ). top_operands j s.stack []) number in
    let rest : local_state_of c.take_args_into.new.self ≡ record s { stack = under x.params s.stack } = c.in_ok-slots.ensures.rest ∙ ap (λ (j : ℕ). record s { stack = under j s.stack }) number in
    let own : x.instrs ≡ instrs_at p k = sym (instrs_there p k x found) in
    let instance : x.instance ≡ false = c.if-callee.false in
    let n = c.enter-2.new.self in
    let r = c.enter-2.result in
    let slots : reverse c.in_ok-slots.slots.items ≡ reverse args ++ [] = ap reverse args_are ∙ sym (append-nil (reverse args)) in
    subst (λ (e : Comp seen.StepResult). IfOk r (λ t. IsStepResult p e t (machine_of p n))) (sym (call_is p q f fs k c.args.place x false found instance))
    (ok_map r
    (λ t. (w : Code) (y : MethodCode) (u : LocalState) (o args stack : List Held) → y.instrs ≡ instrs_at w k → reverse c.in_ok-slots.slots.items
    ≡ reverse args ++ o → local_state_of c.take_args_into.new.self ≡ record u { stack = stack } → c.args.next ≡ u.at + 1
    → IsStepResult w (seen.enter_method (machine_at w m u) (frame_at w m u) (below_of w m) c.args.place y o args stack) t (machine_of w n))
    (λ t. IsStepResult p (seen.enter_method q f fs c.args.place x [] args (under x.params s.stack)) t (machine_of p n))
    (λ (t : StepResult). λ h. h p x s [] args (under x.params s.stack) own slots rest c.requires.next)
    c.enter-2.ensures)

pub returns-in_default : goal.returns-in_default
returns-in_default c =
    let p = c.args.code.now in
    let m = c.args.self.now in
    let k = c.args.number in
    let s = local_state_of m.top.state in
    let x = c.index-methods-method.result in
    let q = machine_of p m in
    let f = frame_at p m s in
    let fs = below_of p m in
    let found : slice_get p.methods k ≡ Some x =
    subst (λ (ms : List MethodCode). slice_get ms k ≡ Some x) c.methods-methods.ensures.methods (there c.methods-methods.result.now k x c.if-method-methods.false c.index-methods-method.is) in
    let number : c.from.result ≡ x.params = c.from.ensures in
    let args = top_operands x.params s.stack [] in
    let args_are : c.in_ok-slots.slots.items ≡ args = c.in_ok-slots.ensures.args ∙ ap (λ (j : ℕ). top_operands j s.stack []) number in
    let rest : local_state_of c.take_args_into.new.self ≡ record s { stack = under x.params s.stack } = c.in_ok-slots.ensures.rest ∙ ap (λ (j : ℕ). record s { stack = under j s.stack }) number in
    let own : x.instrs ≡ instrs_at p k = sym (instrs_there p k x found) in
    let receiver : c.in_ok-receiver.receiver ≡ top (under x.params s.stack) = c.in_ok-receiver.ensures.value ∙ ap (λ (u : LocalState). top u.stack) rest in
    let instance : x.instance ≡ true = c.if-callee.true in
    let none : referent_of (top (under x.params s.stack)) ≡ None = sym (ap referent_of receiver) ∙ (sym c.thing.ensures ∙ none_there c.thing.result c.in_default.not-Some) in
    let n = machine_of p (record m { top = record m.top { state = c.pop-then-callee.new.self } }) in
    subst (λ (e : Comp seen.StepResult). IsStepResult p e (turns.Suspend (next.Fault NullRef c.args.place) Ignore) n) (sym (call_is p q f fs k c.args.place x true found instance))
    (fault_stood (seen.call_method q f fs c.args.place x true) NullRef c.args.place Ignore n (call_on_null q f fs c.args.place x none))

pub returns-then-callee : goal.returns-then-callee
returns-then-callee c =
    let p = c.args.code.now in
    let m = c.args.self.now in
    let k = c.args.number in
    let s = local_state_of m.top.state in
    let x = c.index-methods-method.result in
    let q = machine_of p m in
    let f = frame_at p m s in
    let fs = below_of p m in
    let found : slice_get p.methods k ≡ Some x =
    subst (λ (ms : List MethodCode). slice_get ms k ≡ Some x) c.methods-methods.ensures.methods (there c.methods-methods.result.now k x c.if-method-methods.false c.index-methods-method.is) in
    let number : c.from.result ≡ x.params = c.from.ensures in
    let args = top_operands x.params s.stack [] in
    let args_are : c.in_ok-slots.slots.items ≡ args = c.in_ok-slots.ensures.args ∙ ap (λ (j : ℕ). top_operands j s.stack []) number in
    let rest : local_state_of c.take_args_into.new.self ≡ record s { stack = under x.params s.stack } = c.in_ok-slots.ensures.rest ∙ ap (λ (j : ℕ). record s { stack = under j s.stack }) number in
    let own : x.instrs ≡ instrs_at p k = sym (instrs_there p k x found) in
    let receiver : c.in_ok-receiver.receiver ≡ top (under x.params s.stack) = c.in_ok-receiver.ensures.value ∙ ap (λ (u : LocalState). top u.stack) rest in
    let instance : x.instance ≡ true = c.if-callee.true in
    let n = c.enter.new.self in
    let r = c.enter.result in
    let this = c.in-Some.this in
    let rest2 : local_state_of c.pop-then-callee.new.self ≡ record s { stack = below (under x.params s.stack) } = c.in_ok-receiver.ensures.rest
    ∙ ap (λ (u : LocalState). record { at = u.at; slots = u.slots; stack = below u.stack }) rest in
    let some : referent_of (top (under x.params s.stack)) ≡ Some this = sym (ap referent_of receiver) ∙ sym c.in-Some.ensures in
    let slots : reverse c.insert.new.self.items ≡ reverse args ++ Plain (v.Obj (Some this)) ∷ [] =
    ap reverse c.in_ok-insert.ensures.items ∙ ((λ j. reverse (c.plain.ensures j ∷ args_are j)) ∙ reverse_front (Plain (v.Obj (Some this))) args) in
    subst (λ (e : Comp seen.StepResult). IfOk r (λ t. IsStepResult p e t (machine_of p n))) (sym (call_is p q f fs k c.args.place x true found instance ∙ call_on q f fs c.args.place x this some))
    (ok_map r
    (λ t. (w : Code) (y : MethodCode) (u : LocalState) (o args stack : List Held) → y.instrs ≡ instrs_at w k → reverse c.insert.new.self.items
    ≡ reverse args ++ o → local_state_of c.pop-then-callee.new.self ≡ record u { stack = stack } → c.args.next ≡ u.at + 1
    → IsStepResult w (seen.enter_method (machine_at w m u) (frame_at w m u) (below_of w m) c.args.place y o args stack) t (machine_of w n))
    (λ t. IsStepResult p (seen.enter_method q f fs c.args.place x (Plain (v.Obj (Some this)) ∷ []) args (below (under x.params s.stack))) t (machine_of p n))
    (λ (t : StepResult). λ h. h p x s (Plain (v.Obj (Some this)) ∷ []) args (below (under x.params s.stack)) own slots rest2 c.requires.next)
    c.enter.ensures)
