-- From the answers of the phases to that of the inference.
use Rattle.std.proofs.Common.{◌≡◌, ℕ, List, [], Ok, Err, subst}
use Rattle.ti_io.specs.Sink.{SinkState, GrewBy, GrewByFront, Writes}
use Rattle.ti_lang.specs.Program.Classes.{ProgramView}
use Rattle.ti_rules.specs.declared.refusal.Refusal.{Refusal}
use Rattle.ti_rules.specs.TypeRules.{type_refusals}
use Rattle.ti_check.specs.Answer.{GivesTyped}
use Rattle.ti_check.specs.declared.error.CheckErr.{CheckErr}
use Rattle.ti_check.specs.declared.error.CheckErr.TheVariants as checker
use Rattle.ti_blame.specs.declared.mark.Mark.{Mark}
use Rattle.ti_infer.specs.declared.inference.InferErr.{InferErr}
use Rattle.ti_infer.specs.declared.inference.InferErr.TheVariants as infer
use Rattle.ti_infer.specs.Stripped.{stripped}
use Rattle.ti_infer.specs.Answer.{GivesInferred}
use Rattle.ti_top.specs.declared.compiling.CompileErr.{CompileErr}
use Rattle.ti_top.specs.declared.compiling.CompileErr.TheVariants.{Refused, Memory}
use Rattle.ti_top.specs.declared.exit.Exit.TheVariants.{Done, CantWrite}
use Rattle.ti_top.specs.Inference.{HasMarking, IsUnmarkedRefusal, of_types, of_marks, of_tree, marks_text}
use Rattle.ti_top.specs.Mirrors.Compiling.{IsRead, ReadsProgram, of_check}
use Rattle.ti_top.specs.Mirrors.Inferring.{Infers, of_inference, WroteMarks}

-- that a text has one answer of the inference
pub record OneAnswer : Type 0 where
  pub one_marking : (text : List ℕ) (a b : List Mark) → HasMarking text a → HasMarking text b → a ≡ b
  pub never_both : (text : List ℕ) (marks : List Mark) (refusal : Refusal) → HasMarking text marks → IsUnmarkedRefusal text refusal → ⊥

refused : OneAnswer → (text : List ℕ) (refusal : Refusal) → IsUnmarkedRefusal text refusal → Infers text (Err (Refused refusal))
refused known text refusal is = (is, λ has. known.never_both text has.0 refusal has.1 is)

-- the text has no program by the rules of bytes, tokens and names
pub not_read : OneAnswer → (text : List ℕ) (e : CompileErr) → ReadsProgram text (Err e) → Infers text (Err e)
not_read known text (Refused refusal) is = refused known text refusal is.1
not_read known text Memory is = tt

-- its program breaks a rule of types and qualifiers, without its marks
pub not_typed : (T : Type 0) → OneAnswer → (text : List ℕ) (p plain : ProgramView) (e : CheckErr) → IsRead text p → plain ≡ stripped p
    → GivesTyped {T = T} plain (Err e) → Infers text (Err (of_check e))
not_typed T known text p plain (checker.Refused refusal) read same is =
    refused known text refusal (of_tree read.has_tree (of_types read.named read.numbers (subst (λ (q : ProgramView). GivesTyped {T = T} q (Err (checker.Refused refusal))) same is)))
not_typed T known text p plain checker.Memory read same is = tt

-- it breaks none, and no marking is accepted
pub not_inferred : OneAnswer → (text : List ℕ) (p plain : ProgramView) (e : InferErr) → IsRead text p → plain ≡ stripped p → type_refusals plain ≡ []
    → GivesInferred plain (Err e) → Infers text (Err (of_inference e))
not_inferred known text p plain (infer.NoMarking at) read same typed is =
    refused known text (record { rule = _; place = at })
    (of_tree read.has_tree (of_marks read.named read.numbers (subst (λ (q : ProgramView). type_refusals q ≡ []) same typed)
    (subst (λ (q : ProgramView). GivesInferred q (Err (infer.NoMarking at))) same is)))
not_inferred known text p plain infer.Memory read same typed is = tt

-- one is, and the greatest was found
pub inferred : OneAnswer → (text : List ℕ) (p plain : ProgramView) (marks : List Mark) → IsRead text p → plain ≡ stripped p → type_refusals plain ≡ []
    → GivesInferred plain (Ok marks) → Infers text (Ok marks)
inferred known text p plain marks read same typed is =
    let has : HasMarking text marks = record {
      tree = read.tree;
      has_tree = read.has_tree;
      named = read.named;
      program = p;
      numbers = read.numbers;
      typed = subst (λ (q : ProgramView). type_refusals q ≡ []) same typed;
      greatest = subst (λ (q : ProgramView). GivesInferred q (Ok marks)) same is;
    } in
    record {
      has = has;
      only = λ others other. known.one_marking text others marks other has;
      unrefused = λ refusal refused. known.never_both text marks refusal has refused;
    }

-- ---- the marks are written

-- the whole text was written
pub wrote_whole : {T E : Type 0} (marks : List Mark) (text : List ℕ) (s0 s1 : SinkState) (x : T) → text ≡ marks_text marks → Writes {E = E} text s0 s1 (Ok x) → WroteMarks marks s0 s1 Done
wrote_whole marks text s0 s1 x is wrote = record {
  rose = λ e. absurd (let k = e in cc);
  all = λ _ told. subst (λ (t : List ℕ). GrewBy s0 s1 t) is (wrote.all told);
  part = λ told. subst (λ (t : List ℕ). GrewByFront s0 s1 t) is (wrote.part told);
}

-- a call failed
pub wrote_cut : {T E : Type 0} (marks : List Mark) (text : List ℕ) (s0 s1 : SinkState) (e : E) → text ≡ marks_text marks → Writes {T = T} text s0 s1 (Err e) → WroteMarks marks s0 s1 CantWrite
wrote_cut marks text s0 s1 e is wrote = record {
  rose = λ _. wrote.rose;
  all = λ k. absurd (let x = k in cc);
  part = λ told. subst (λ (t : List ℕ). GrewByFront s0 s1 t) is (wrote.part told);
}
