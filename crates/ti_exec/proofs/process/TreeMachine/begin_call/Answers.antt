use Rattle.std.proofs.Common.{◌∙◌, ◌<◌, ◌≤◌, ◌+◌, [], ◌∷◌, ◌++◌, ap, sym, refl, length, arith}
use Rattle.ti_lang.specs.Meaning.Steps.{To}
use Rattle.ti_exec.specs.declared.process.CallFrame.{CallFrame}
use Rattle.ti_exec.proofs.Works.{too_deep, deeper, begun_at}
use Rattle.ti_exec.proofs.process.TreeMachine.begin_call.Goals as goal

pub returns-then-len-ge-MOST_FRAMES : goal.returns-then-len-ge-MOST_FRAMES
returns-then-len-ge-MOST_FRAMES c =
    let d : 200 ≤ length c.args.self.now.callers.calls.items + 1 = omega arith in
    λ p ws. (refl, too_deep p c.args.self.now ws _ c.args.place _ _ _ _ c.if-self.false d)

pub returns : goal.returns
returns c = λ p ws.
    let w = c.args.self.now in
    let d : length w.callers.calls.items + 1 < 200 = omega arith in
    let below = c.in_ok-push.ensures ∙ ap (λ (f : CallFrame). w.callers.calls.items ++ f ∷ []) c.replace-caller.ensures.value in
    let call = c.replace-caller.ensures.after in
    let begun = begun_at p w ws c.push.new.self c.replace-caller.new.dest c.args.method c.args.this c.args.parameters.items below
    (ap (λ (f : CallFrame). f.method) call) (ap (λ (f : CallFrame). f.this) call) (ap (λ (f : CallFrame). f.variables.slots.items) call
    ∙ c.in_ok-of.ensures) (ap (λ (f : CallFrame). f.levels.items) call ∙ c.new.ensures.items) in
    deeper p w ws _ c.args.place _ _ _ _ c.if-self.false d ∙ ap To (begun ∙ sym (c.proceeds.ensures p))
