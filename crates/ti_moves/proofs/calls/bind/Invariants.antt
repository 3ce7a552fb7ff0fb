use Rattle.std.proofs.Common.{◌≡◌, ◌-◌, ◌≤◌, drop, length, map, []}
use Rattle.ti_lang.specs.Program.Expressions.{numbered_exps}
use Rattle.ti_lang.specs.Program.Views.{expression_of}
use Rattle.ti_lang.specs.Meaning.Calls.{bind_params}
use Rattle.ti_eval.specs.Envs.{env_of}
use Rattle.ti_eval.specs.Frames.{slots_of}
use Rattle.ti_moves.proofs.Calling.{from_params}
use Rattle.ti_moves.proofs.calls.bind.Given as goal

abbrev pub invariant-loop-i : goal.invariant-loop-i
invariant-loop-i l = record {
  within : l.i ≤ length l.params;
  same : bind_params (env_of l.env) (from_params l.i (drop l.i l.params)) (numbered_exps (map expression_of (drop l.i l.args))) (slots_of l.found.items) l.left
      ≡ bind_params (env_of l.env) (from_params 0 l.params) (numbered_exps (map expression_of l.args)) [] l.initial.left;
}

abbrev pub decreases-loop-i : goal.decreases-loop-i
decreases-loop-i l = length l.params - l.i
