use Rattle.std.proofs.Common.{subst, map, List, []}
use Rattle.std.specs.declared.vec.Vec.{Vec}
use Rattle.std.specs.declared.alloc.Global.{Global}
use Rattle.ti_lang.specs.Program.Types.{VariableUse}
use Rattle.ti_lang.specs.Program.Expressions.{numbered_exps}
use Rattle.ti_lang.specs.Program.Views.{expression_of}
use Rattle.ti_align.specs.Slice.{single_bound}
use Rattle.ti_eval.specs.declared.frame.Slot.{Slot}
use Rattle.ti_eval.specs.Comes.{ComesAs}
use Rattle.ti_eval.specs.Envs.{env_of}
use Rattle.ti_eval.specs.Frames.{slots_of}
use Rattle.ti_slice.proofs.single_stmt.parameters.Goals as goal

pub returns : goal.returns
returns c =
    let E = env_of c.args.env.now in
    let xs = numbered_exps (map expression_of c.args.args.now) in
    subst (λ (ps : List VariableUse). ComesAs (λ (v : Vec Slot Global). slots_of v.items) c.bind.result (single_bound E ps xs [] c.args.answers.now)) c.params_in.ensures c.bind.ensures
