-- Nobody has to believe this: it mirrors code, and only contracts of private functions speak of it.
-- What compiling a text answers.
use Rattle.std.specs.Prelude.{◌≡◌, ℕ, List, Result, Ok, Err}
use Rattle.ti_syntax.specs.Trees.Classes.{TextTree}
use Rattle.ti_lang.specs.Program.Classes.{ProgramView}
use Rattle.ti_lang.specs.declared.program.numbered.Program.{Program}
use Rattle.ti_lang.specs.Program.Views.{program_of}
use Rattle.ti_lang.specs.Numbering.{Numbers}
use Rattle.ti_align.specs.Alignment.{IsAligned}
use Rattle.ti_rules.specs.declared.checked.Checked.{Checked}
use Rattle.ti_rules.specs.BrokenNames.{BreaksNames}
use Rattle.ti_rules.specs.RefusalOf.{HasNone, HasTree, HasProgram, IsRefusal}
use Rattle.ti_lex.specs.declared.error.LexErr.{LexErr}
use Rattle.ti_lex.specs.declared.error.LexErr.TheVariants as lexer
use Rattle.ti_parse_expr.specs.declared.error.ParseErr.{ParseErr}
use Rattle.ti_parse_expr.specs.declared.error.ParseErr.TheVariants as parser
use Rattle.ti_names.specs.declared.error.NameErr.{NameErr}
use Rattle.ti_names.specs.declared.error.NameErr.TheVariants as names
use Rattle.ti_check.specs.declared.error.CheckErr.{CheckErr}
use Rattle.ti_check.specs.declared.error.CheckErr.TheVariants as checker
use Rattle.ti_top.specs.declared.compiling.CompileErr.{CompileErr}
use Rattle.ti_top.specs.declared.compiling.CompileErr.TheVariants.{Refused, Memory}
use Rattle.ti_top.specs.declared.exit.Exit.{Exit}
use Rattle.ti_top.specs.declared.exit.Exit.TheVariants as ending
use Rattle.ti_top.specs.Inference.{IsUnmarkedRefusal}

-- the program that a text has by the rules of bytes, tokens and names
pub record IsRead (text : List ℕ) (program : ProgramView) : Type 0 where
  pub tree : TextTree
  pub has_tree : HasTree text tree
  pub named : HasNone (BreaksNames tree)
  pub numbers : Numbers tree program

-- it, or the refusal of the text, whatever marks it has; it may run out of memory at any time
abbrev pub ReadsProgram : List ℕ → Result Program CompileErr → Type 0
ReadsProgram text (Ok p) = IsRead text (program_of p.parts)
ReadsProgram text (Err (Refused refusal)) = IsRefusal text refusal × IsUnmarkedRefusal text refusal
ReadsProgram text (Err Memory) = Unit {0}

-- the program of a text, which has no other one and no refusal; it is aligned
pub record IsCompiled (text : List ℕ) (program : ProgramView) : Type 0 where
  pub has : HasProgram text program
  pub only : (other : ProgramView) → HasProgram text other → other ≡ program
  pub unrefused : HasNone (IsRefusal text)
  pub aligned : IsAligned program

-- the text has no program
abbrev pub HasNoProgram : List ℕ → Type 0
HasNoProgram text = (program : ProgramView) → HasProgram text program → ⊥

-- the program of the text or its refusal; it may run out of memory at any time
abbrev pub Compiles : List ℕ → Result Checked CompileErr → Type 0
Compiles text (Ok checked) = IsCompiled text (program_of checked.program.parts)
Compiles text (Err (Refused refusal)) = IsRefusal text refusal × HasNoProgram text
Compiles text (Err Memory) = Unit {0}

-- what the errors of the phases say of a text
abbrev pub of_lexer : LexErr → CompileErr
of_lexer (lexer.Refused refusal) = Refused refusal
of_lexer lexer.Memory = Memory

abbrev pub of_parser : ParseErr → CompileErr
of_parser (parser.Refused refusal) = Refused refusal
of_parser parser.Memory = Memory

abbrev pub of_names : NameErr → CompileErr
of_names (names.Refused refusal) = Refused refusal
of_names names.Memory = Memory

abbrev pub of_check : CheckErr → CompileErr
of_check (checker.Refused refusal) = Refused refusal
of_check checker.Memory = Memory

-- how the work ends with an error
abbrev pub ending_by : CompileErr → Exit
ending_by (Refused refusal) = ending.Refused refusal
ending_by Memory = ending.NoMemory
