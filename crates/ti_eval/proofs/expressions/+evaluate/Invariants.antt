use Rattle.std.proofs.Common.{◌≡◌, ◌++◌, map, drop}
use Rattle.ti_lang.specs.Program.Expressions.{numbered_exps, numbered_ranges}
use Rattle.ti_lang.specs.Program.Views.{expression_of, bound_of}
use Rattle.ti_lang.specs.Meaning.Literals.{append_bounds}
use Rattle.ti_lang.specs.Meaning.Evaluation.{eval_all, eval_numbers, eval_ranges}
use Rattle.ti_eval.specs.Bounds.{bounds_of}
use Rattle.ti_eval.specs.Envs.{env_of}
use Rattle.ti_eval.proofs.Evaluating.{behind}
use Rattle.ti_eval.proofs.expressions.+evaluate.Given as goal

abbrev pub invariant-evaluate_all-loop-x : goal.invariant-evaluate_all-loop-x
invariant-evaluate_all-loop-x l =
    behind ◌++◌ l.found.items (eval_all (env_of l.env) (numbered_exps (map expression_of (drop l.x-index l.exprs))) l.left)
    ≡ eval_all (env_of l.env) (numbered_exps (map expression_of l.exprs)) l.initial.left

abbrev pub invariant-evaluate_numbers-loop-x : goal.invariant-evaluate_numbers-loop-x
invariant-evaluate_numbers-loop-x l =
    behind ◌++◌ l.found.items (eval_numbers (env_of l.env) (numbered_exps (map expression_of (drop l.x-index l.exprs))) l.left)
    ≡ eval_numbers (env_of l.env) (numbered_exps (map expression_of l.exprs)) l.initial.left

abbrev pub invariant-evaluate_ranges-loop-r : goal.invariant-evaluate_ranges-loop-r
invariant-evaluate_ranges-loop-r l =
    behind append_bounds (bounds_of l.found) (eval_ranges (env_of l.env) (numbered_ranges (map bound_of (drop l.r-index l.ranges))) l.left)
    ≡ eval_ranges (env_of l.env) (numbered_ranges (map bound_of l.ranges)) l.initial.left
