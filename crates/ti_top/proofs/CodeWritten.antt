-- From how the text of code was written to what became of the program's code.
use Rattle.std.proofs.Common.{◌≡◌, ℕ, List, Some, Ok, Err, ◌∙◌, ap, subst}
use Rattle.ti_io.specs.Sink.{SinkState, GrewBy, GrewByFront, Writes}
use Rattle.ti_lang.specs.Program.Classes.{ProgramView}
use Rattle.ti_code.specs.CodeText.{code_text}
use Rattle.ti_code.specs.Follows.{Follows}
use Rattle.ti_code.specs.Programs.{Code}
use Rattle.ti_lower.specs.Programs.{program_code}
use Rattle.ti_top.specs.declared.exit.Exit.TheVariants.{Done, CantWrite}
use Rattle.ti_top.specs.Mirrors.Coding.{WroteCode}

-- code, and its text
pub record Listed (p : ProgramView) (code : Code) (text : List ℕ) : Type 0 where
  pub is : code ≡ program_code p
  pub follows : Follows code p
  pub spelled : text ≡ code_text code

text_is : (p : ProgramView) (code : Code) (text : List ℕ) → Listed p code text → text ≡ code_text (program_code p)
text_is p code text listed = listed.spelled ∙ ap code_text listed.is

-- the whole text was written
pub wrote_whole : {T E : Type 0} (p : ProgramView) (code : Code) (text : List ℕ) (s0 s1 : SinkState) (x : T) → Listed p code text
    → Writes {E = E} text s0 s1 (Ok x) → WroteCode p s0 s1 (Some code) Done
wrote_whole p code text s0 s1 x listed wrote = record {
  there = ap Some listed.is;
  follows = subst (λ (c : Code). Follows c p) listed.is listed.follows;
  rose = λ is. absurd (let e = is in cc);
  all = λ _ told. subst (λ (t : List ℕ). GrewBy s0 s1 t) (text_is p code text listed) (wrote.all told);
  part = λ told. subst (λ (t : List ℕ). GrewByFront s0 s1 t) (text_is p code text listed) (wrote.part told);
}

-- a call failed
pub wrote_cut : {T E : Type 0} (p : ProgramView) (code : Code) (text : List ℕ) (s0 s1 : SinkState) (e : E) → Listed p code text
    → Writes {T = T} text s0 s1 (Err e) → WroteCode p s0 s1 (Some code) CantWrite
wrote_cut p code text s0 s1 e listed wrote = record {
  there = ap Some listed.is;
  follows = subst (λ (c : Code). Follows c p) listed.is listed.follows;
  rose = λ _. wrote.rose;
  all = λ is. absurd (let x = is in cc);
  part = λ told. subst (λ (t : List ℕ). GrewByFront s0 s1 t) (text_is p code text listed) (wrote.part told);
}
