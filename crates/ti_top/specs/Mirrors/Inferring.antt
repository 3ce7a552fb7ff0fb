-- Nobody has to believe this: it mirrors code, and only contracts of private functions speak of it.
-- What inferring the marks of a text and writing them leaves.
use Rattle.std.specs.Prelude.{◌≡◌, ℕ, true, List, Result, Ok, Err}
use Rattle.ti_io.specs.Faults.{Rose}
use Rattle.ti_io.specs.Sink.{SinkState, GrewBy, GrewByFront}
use Rattle.ti_rules.specs.declared.rule.Rule.TheVariants.{B1}
use Rattle.ti_rules.specs.RefusalOf.{HasNone}
use Rattle.ti_blame.specs.declared.mark.Mark.{Mark}
use Rattle.ti_infer.specs.declared.inference.InferErr.{InferErr}
use Rattle.ti_infer.specs.declared.inference.InferErr.TheVariants as infer
use Rattle.ti_top.specs.declared.compiling.CompileErr.{CompileErr}
use Rattle.ti_top.specs.declared.compiling.CompileErr.TheVariants.{Refused, Memory}
use Rattle.ti_top.specs.declared.exit.Exit.{Exit}
use Rattle.ti_top.specs.declared.exit.Exit.TheVariants.{Done, CantWrite, NoMemory}
use Rattle.ti_top.specs.Inference.{HasMarking, HasSomeMarking, IsUnmarkedRefusal, marks_text}

-- the greatest marking of a text, which has no other one and no refusal
pub record IsOnlyMarking (text : List ℕ) (marks : List Mark) : Type 0 where
  pub has : HasMarking text marks
  pub only : (others : List Mark) → HasMarking text others → others ≡ marks
  pub unrefused : HasNone (IsUnmarkedRefusal text)

-- the greatest marking of the text or its refusal; it may run out of memory at any time
abbrev pub Infers : List ℕ → Result (List Mark) CompileErr → Type 0
Infers text (Ok marks) = IsOnlyMarking text marks
Infers text (Err (Refused refusal)) = IsUnmarkedRefusal text refusal × (HasSomeMarking text → ⊥)
Infers text (Err Memory) = Unit {0}

-- what the error of the inference says of a text
abbrev pub of_inference : InferErr → CompileErr
of_inference (infer.NoMarking at) = Refused (record { rule = B1; place = at })
of_inference infer.Memory = Memory

-- the marks were written up to the first call that failed
pub record WroteMarks (marks : List Mark) (out out_after : SinkState) (ending : Exit) : Type 0 where
  pub rose : ending ≡ CantWrite → Rose out.faults out_after.faults
  pub all : ending ≡ Done → out.tells ≡ true → GrewBy out out_after (marks_text marks)
  pub part : out.tells ≡ true → GrewByFront out out_after (marks_text marks)

-- how writing them ended
abbrev pub exit_of : {T : Type 0} → Result T Exit → Exit
exit_of (Ok x) = Done
exit_of (Err ending) = ending

-- what became of marks that are to be written
abbrev pub MarksSay : Exit → List Mark → SinkState → SinkState → Type 0
MarksSay Done marks out out_after = WroteMarks marks out out_after Done
MarksSay CantWrite marks out out_after = WroteMarks marks out out_after CantWrite
MarksSay NoMemory marks out out_after = out_after ≡ out
MarksSay ending marks out out_after = ⊥
