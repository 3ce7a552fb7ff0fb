use Rattle.std.proofs.Common.{◌≡◌, ℕ, ◌<◌, ◌≤◌, length, get_or}
use Rattle.ti_lang.specs.declared.program.classes.Param.{Param}
use Rattle.ti_lang.specs.Program.Views.{numbered_param_of}
use Rattle.ti_blame.specs.Marks.{marks_of}
use Rattle.ti_infer.specs.Marked.{marked_param}
use Rattle.ti_infer.proofs.annotate.methods.mark_listed.Given as goal

abbrev pub invariant-loop-i : goal.invariant-loop-i
invariant-loop-i l = record {
  len : length l.params.items ≡ length l.initial.params.items;
  rest : (k : ℕ) (d : Param) → l.i ≤ k → get_or l.params.items k d ≡ get_or l.initial.params.items k d;
  done : (k : ℕ) (d : Param) → k < l.i → numbered_param_of (get_or l.params.items k d) ≡ marked_param (marks_of l.marks) (numbered_param_of (get_or l.initial.params.items k d));
}
