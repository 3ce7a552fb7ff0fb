use Rattle.std.proofs.Common.{arith}
use Rattle.ti_lang.specs.Program.Views.{numbered_method_of}
use Rattle.ti_blame.specs.Marks.{marks_of}
use Rattle.ti_infer.specs.Marked.{marked_method}
use Rattle.ti_infer.proofs.Turning.{turned}
use Rattle.ti_infer.proofs.annotate.methods.mark_methods.Goals as goal

pub returns : goal.returns
returns c = turned numbered_method_of (marked_method (marks_of c.args.marks.now)) _ _ c.loop-i.invariant.len (λ k d lt. c.loop-i.invariant.done k d (omega (arith, c.len-i-end.ensures)))
