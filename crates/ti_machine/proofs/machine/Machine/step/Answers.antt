use Rattle.std.proofs.Common.{◌≡◌, ◌∙◌, sym, ap, subst, ◌≤◌, length, List, slice_get, Option, Some, IfOk}
use Rattle.ti_base.specs.declared.value.Value.TheVariants as v
use Rattle.ti_code.specs.declared.instr.Instr.{Instr}
use Rattle.ti_code.specs.declared.instr.Instr.TheVariants as i
use Rattle.ti_code.specs.declared.code.MethodCode.{MethodCode}
use Rattle.ti_code.specs.Forms.{IsFormedInstr, IsFormedMethod}
use Rattle.ti_code.specs.Machine as seen
use Rattle.ti_code.specs.Machine.{next_step, first}
use Rattle.ti_machine.specs.Mirrors.FrameStates.{local_state_of}
use Rattle.ti_machine.specs.Mirrors.Instrs.{instrs_at}
use Rattle.ti_machine.specs.Mirrors.Machines.{machine_of, frame_at, below_of, IsStepResult}
use Rattle.std.specs.Prelude.{pos, All}
use Rattle.std.proofs.Common.{get_or}
use Rattle.ti_machine.proofs.Withins.{there, there_or, gone, instrs_there, stuck_method, stuck_turn}
use Rattle.ti_machine.proofs.machine.Machine.step.Goals as goal

pub returns-then-method-methods : goal.returns-then-method-methods
returns-then-method-methods c =
    let p = c.args.code.now in
    let m = c.args.self.now in
    stuck_method p m (machine_of p m) (gone p.methods m.top.method (subst (λ (ms : List MethodCode). length ms ≤ m.top.method) c.methods-methods.ensures.methods c.if-method-methods.true))

pub returns-then-at-instrs : goal.returns-then-at-instrs
returns-then-at-instrs c =
    let p = c.args.code.now in
    let m = c.args.self.now in
    let at = m.top.state.at in
    let x = c.index-methods-method.result in
    let found : slice_get p.methods m.top.method ≡ Some x =
    subst (λ (ms : List MethodCode). slice_get ms m.top.method ≡ Some x) c.methods-methods.ensures.methods
    (there c.methods-methods.result.now m.top.method x c.if-method-methods.false c.index-methods-method.is) in
    let own : c.as_slice-instrs.result.now ≡ x.instrs = c.as_slice-instrs.ensures ∙ ap (λ (y : MethodCode). y.instrs) (sym c.index-methods-method.is) in
    let same : c.as_slice-instrs.result.now ≡ instrs_at p m.top.method = own ∙ sym (instrs_there p m.top.method x found) in
    stuck_turn p m (machine_of p m) (gone (instrs_at p m.top.method) at (subst (λ (is : List Instr). length is ≤ at) same c.if-at-instrs.true))

pub act-requires-clause-here : goal.act-requires-clause-here
act-requires-clause-here c =
    let p = c.args.code.now in
    let m = c.args.self.now in
    let at = m.top.state.at in
    let x = c.index-methods-method.result in
    let found : slice_get p.methods m.top.method ≡ Some x =
    subst (λ (ms : List MethodCode). slice_get ms m.top.method ≡ Some x) c.methods-methods.ensures.methods
    (there c.methods-methods.result.now m.top.method x c.if-method-methods.false c.index-methods-method.is) in
    let own : c.as_slice-instrs.result.now ≡ x.instrs = c.as_slice-instrs.ensures ∙ ap (λ (y : MethodCode). y.instrs) (sym c.index-methods-method.is) in
    let same : c.as_slice-instrs.result.now ≡ instrs_at p m.top.method = own ∙ sym (instrs_there p m.top.method x found) in
    let none : Instr = i.Const (v.Int (pos 0)) in
    let instr = get_or c.as_slice-instrs.result.now at (i.Const (v.Int (pos 0))) in
    let first : slice_get c.as_slice-instrs.result.now at ≡ Some instr = there_or c.as_slice-instrs.result.now at (i.Const (v.Int (pos 0))) c.if-at-instrs.false in
    subst (λ (is : List Instr). slice_get is at ≡ Some instr) same first

pub act-requires-clause-form : goal.act-requires-clause-form
act-requires-clause-form c =
    let m = c.args.self.now in
    let x = c.index-methods-method.result in
    let formed : IsFormedMethod x = subst IsFormedMethod (sym c.index-methods-method.is) (c.methods-methods.ensures.formed m.top.method x c.if-method-methods.false) in
    subst (All IsFormedInstr) (sym (c.as_slice-instrs.ensures ∙ ap (λ (y : MethodCode). y.instrs) (sym c.index-methods-method.is))) formed m.top.state.at (i.Const (v.Int (pos 0))) c.if-at-instrs.false

pub returns : goal.returns
returns c =
    let p = c.args.code.now in
    let m = c.args.self.now in
    let at = m.top.state.at in
    let x = c.index-methods-method.result in
    let found : slice_get p.methods m.top.method ≡ Some x =
    subst (λ (ms : List MethodCode). slice_get ms m.top.method ≡ Some x) c.methods-methods.ensures.methods
    (there c.methods-methods.result.now m.top.method x c.if-method-methods.false c.index-methods-method.is) in
    let own : c.as_slice-instrs.result.now ≡ x.instrs = c.as_slice-instrs.ensures ∙ ap (λ (y : MethodCode). y.instrs) (sym c.index-methods-method.is) in
    let same : c.as_slice-instrs.result.now ≡ instrs_at p m.top.method = own ∙ sym (instrs_there p m.top.method x found) in
    let none : Instr = i.Const (v.Int (pos 0)) in
    let instr = get_or c.as_slice-instrs.result.now at (i.Const (v.Int (pos 0))) in
    let first : slice_get c.as_slice-instrs.result.now at ≡ Some instr = there_or c.as_slice-instrs.result.now at (i.Const (v.Int (pos 0))) c.if-at-instrs.false in
    let stands = subst (λ (is : List Instr). slice_get is at ≡ Some instr) same first in
    subst (λ (o : Option Instr). IfOk c.act.result (λ t. IsStepResult p (seen.execute p (machine_of p m) (frame_at p m (local_state_of m.top.state))
    (below_of p m) o) t (machine_of p c.act.new.self))) (sym stands) c.act.ensures
