use Rattle.std.proofs.Common.{sym, subst, map, List, [], Option}
use Rattle.std.specs.Borrow.{Bor}
use Rattle.std.specs.declared.vec.Vec.{Vec}
use Rattle.std.specs.declared.alloc.Global.{Global}
use Rattle.ti_lang.specs.declared.program.classes.Method.{Method}
use Rattle.ti_lang.specs.declared.program.classes.Param.{Param}
use Rattle.ti_lang.specs.declared.program.classes.Params.{Params}
use Rattle.ti_lang.specs.Program.Expressions.{numbered_exps}
use Rattle.ti_lang.specs.Program.Views.{expression_of, numbered_param_of, numbered_params_of}
use Rattle.ti_lang.specs.Meaning.Calls.{bind_params, parameters_from, parameters_of}
use Rattle.ti_eval.specs.declared.frame.Slot.{Slot}
use Rattle.ti_eval.specs.Comes.{ComesAs}
use Rattle.ti_eval.specs.Envs.{env_of}
use Rattle.ti_eval.specs.Frames.{method_seen, slots_of}
use Rattle.ti_moves.proofs.calls.parameters.Goals as goal

pub returns-in-Typed : goal.returns-in-Typed
returns-in-Typed c =
    let E = env_of c.args.env.now in
    let xs = numbered_exps (map expression_of c.args.args.now) in
    let rest = c.args.answers.now in
    subst (λ (o : Option (Bor Method)). ComesAs (λ (v : Vec Slot Global). slots_of v.items) c.bind.result (bind_params E (parameters_of (method_seen o).params) xs [] rest)) (sym c.in-Some.is)
    (subst (λ (p : Params). ComesAs (λ (v : Vec Slot Global). slots_of v.items) c.bind.result (bind_params E (parameters_of (numbered_params_of p)) xs [] rest)) (sym c.in-Typed.is)
    (subst (λ (ps : List Param). ComesAs (λ (v : Vec Slot Global). slots_of v.items) c.bind.result (bind_params E (parameters_from 0 (map numbered_param_of ps)) xs [] rest)) c.deref.ensures.value
    c.bind.ensures))
