use Rattle.std.proofs.Common.{◌≡◌, ℕ, ◌==◌, ◌<◌, ◌≤◌, length, get_or}
use Rattle.ti_lang.specs.declared.program.classes.Method.{Method}
use Rattle.ti_lang.specs.Program.Views.{numbered_method_of}
use Rattle.ti_infer.specs.Stripped.{plain_method}
use Rattle.ti_infer.proofs.strip.methods.strip_methods.Given as goal

abbrev pub invariant-loop-i : goal.invariant-loop-i
invariant-loop-i l = record {
  len : length l.methods.items ≡ length l.initial.methods.items;
  rest : (k : ℕ) (d : Method) → l.i ≤ k → get_or l.methods.items k d ≡ get_or l.initial.methods.items k d;
  done : (k : ℕ) (d : Method) → k < l.i
      → numbered_method_of (get_or l.methods.items k d)
      ≡ plain_method (k == l.main) (numbered_method_of (get_or l.initial.methods.items k d));
}
