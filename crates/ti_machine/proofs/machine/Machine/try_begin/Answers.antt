use Rattle.std.proofs.Common.{subst, refl, ℕ, ◌<◌, length, List}
use Rattle.ti_code.specs.declared.code.MethodCode.{MethodCode}
use Rattle.ti_machine.specs.declared.machine.Machine.{Machine}
use Rattle.ti_machine.proofs.Withins.{begun_machine, some_there}
use Rattle.ti_machine.proofs.machine.Machine.try_begin.Goals as goal

pub returns-clause-value : goal.returns-clause-value
returns-clause-value c =
    let p = c.args.code.now in
    let low : p.main < length p.methods =
    subst (λ (ms : List MethodCode). p.main < length ms) c.methods-methods.ensures.methods
    (subst (λ (k : ℕ). k < length c.methods-methods.result.now) c.main-method.ensures c.if-method-methods.false) in
    let x = some_there p.methods p.main low in
    let m : Machine = record {
      team = c.args.team;
      fuel = c.args.fuel;
      spent = 0;
      top = record { method = c.main-method.result; state = record { at = 0; slots = c.new.result; stack = c.new-2.result } };
      below = c.new-3.result;
      frame_pool = c.new-4.result;
    } in
    begun_machine p m x.0 x.1 c.main-method.ensures refl c.new.ensures.items c.new-2.ensures.items c.new-3.ensures.items refl
