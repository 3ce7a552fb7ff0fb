-- From the answers of the phases to that of the compiler.
use Rattle.std.proofs.Common.{◌≡◌, ℕ, List, Ok, Err, sym, ap, subst}
use Rattle.std.specs.declared.vec.Vec.{Vec}
use Rattle.std.specs.declared.alloc.Global.{Global}
use Rattle.ti_base.specs.declared.place.Place.{Place}
use Rattle.ti_syntax.specs.declared.token.Token.{Token}
use Rattle.ti_syntax.specs.declared.tree.text.Tree.{Tree}
use Rattle.ti_lang.specs.declared.program.numbered.Program.{Program}
use Rattle.ti_lang.specs.Program.Classes.{ProgramView}
use Rattle.ti_lang.specs.Program.Views.{program_of}
use Rattle.ti_align.specs.Alignment.{IsAligned}
use Rattle.ti_syntax.specs.Trees.Text.{tree_of}
use Rattle.ti_rules.specs.declared.checked.Checked.{Checked}
use Rattle.ti_rules.specs.declared.rule.Rule.{Rule}
use Rattle.ti_rules.specs.declared.refusal.Refusal.{Refusal}
use Rattle.ti_rules.proofs.Lemmas.{OneReading, tokens_or_bytes, tree_or_misfit}
use Rattle.ti_rules.specs.RefusalOf.{of_names as of_names_first, of_program, HasTokens, HasTree, rule_of_misfit, IsRefusal, of_bytes, of_tokens, of_tree, HasProgram}
use Rattle.ti_lex.specs.declared.error.LexErr.{LexErr}
use Rattle.ti_lex.specs.declared.error.LexErr.TheVariants as lexer
use Rattle.ti_lex.specs.Answer.{Lexes}
use Rattle.ti_parse_expr.specs.declared.error.ParseErr.{ParseErr}
use Rattle.ti_parse_expr.specs.declared.error.ParseErr.TheVariants as parser
use Rattle.ti_parse.specs.Answer.{Parsed}
use Rattle.ti_names.specs.declared.error.NameErr.{NameErr}
use Rattle.ti_names.specs.declared.error.NameErr.TheVariants as names
use Rattle.ti_names.specs.Answer.{Resolves}
use Rattle.ti_check.specs.Answer.{GivesChecked}
use Rattle.ti_check.specs.declared.error.CheckErr.{CheckErr}
use Rattle.ti_check.specs.declared.error.CheckErr.TheVariants as checker
use Rattle.ti_top.specs.declared.compiling.CompileErr.{CompileErr}
use Rattle.ti_top.specs.declared.compiling.CompileErr.TheVariants.{Refused, Memory}
use Rattle.ti_top.specs.Inference.{of_names as of_unmarked_names, of_text, of_tree as of_unmarked_tree}
use Rattle.ti_top.specs.Mirrors.Compiling.{IsRead, ReadsProgram, Compiles, of_lexer, of_parser, of_names, of_check}

-- that a text has one answer
pub record OneAnswer : Type 0 where
  pub one_program : (text : List ℕ) (p q : ProgramView) → HasProgram text p → HasProgram text q → p ≡ q
  pub never_both : (text : List ℕ) (program : ProgramView) (refusal : Refusal) → HasProgram text program → IsRefusal text refusal → ⊥

has_tokens : (text : List ℕ) (tokens : Vec Token Global) → Lexes text (Ok tokens) → HasTokens text tokens.items
has_tokens text tokens lexed = record { short = lexed.0; tokenized = lexed.1 }

pub has_tree : (text : List ℕ) (tokens : Vec Token Global) (tree : Tree) → Lexes text (Ok tokens) → Parsed tokens.items (Ok tree) → HasTree text (tree_of tree)
has_tree text tokens tree lexed parsed = record { tokens = tokens.items; has_tokens = has_tokens text tokens lexed; spells = parsed.0; shallow = parsed.1 }

-- ---- a text without a program by the rules of bytes, tokens and names

-- the text has no tokens
pub not_lexed : OneReading → (text : List ℕ) (e : LexErr) → Lexes text (Err e) → ReadsProgram text (Err (of_lexer e))
not_lexed known text (lexer.Refused refusal) lexed = (of_bytes lexed, of_text (λ tree has. tokens_or_bytes known text has.tokens refusal has.has_tokens lexed) (of_bytes lexed))
not_lexed known text lexer.Memory lexed = tt

-- its tokens have no tree
pub not_parsed : OneReading → (text : List ℕ) (tokens : Vec Token Global) (e : ParseErr) → Lexes text (Ok tokens) → Parsed tokens.items (Err e)
    → ReadsProgram text (Err (of_parser e))
not_parsed known text tokens (parser.Refused refusal) lexed (misfit, rule, is) =
    let same : rule_of_misfit misfit ≡ refusal.rule = sym rule in
    let has = has_tokens text tokens lexed in
    let refused : IsRefusal text refusal = subst (IsRefusal text) (ap (λ r. refusal_at r refusal.place) same) (of_tokens has is) in
    (refused, of_text (λ tree read. tree_or_misfit known text tree tokens.items (misfit, refusal.place) read has is) refused)
  where
    refusal_at : Rule → Place → Refusal
    refusal_at rule place = record { rule = rule; place = place }
not_parsed known text tokens parser.Memory lexed parsed = tt

-- its tree breaks a rule of names
pub not_named : (text : List ℕ) (tree : Tree) (e : NameErr) → HasTree text (tree_of tree) → Resolves (tree_of tree) (Err e) → ReadsProgram text (Err (of_names e))
not_named text tree (names.Refused refusal) has first = (of_tree has (of_names_first first), of_unmarked_tree has (of_unmarked_names first))
not_named text tree names.Memory has first = tt

-- ---- what the compiler answers of a text

-- it has no program by those rules
pub not_read : OneAnswer → (text : List ℕ) (e : CompileErr) → ReadsProgram text (Err e) → Compiles text (Err e)
not_read known text (Refused refusal) is = (is.0, λ program has. known.never_both text program refusal has is.0)
not_read known text Memory is = tt

-- its program breaks a rule
pub not_checked : OneAnswer → (text : List ℕ) (p : Program) (e : CheckErr) → IsRead text (program_of p.parts) → GivesChecked p (Err e) → Compiles text (Err (of_check e))
not_checked known text p (checker.Refused refusal) read is =
    let refused : IsRefusal text refusal = of_tree read.has_tree (of_program read.named read.numbers is) in
    (refused, λ program has. known.never_both text program refusal has refused)
not_checked known text p checker.Memory read is = tt

-- it breaks none
pub has_program : (text : List ℕ) (p : Program) (c : Checked) → IsRead text (program_of p.parts) → GivesChecked p (Ok c) → HasProgram text (program_of c.program.parts)
has_program text p c read checks =
    subst (λ (q : Program). HasProgram text (program_of q.parts)) (sym checks.0)
    (record { tree = read.tree; has_tree = read.has_tree; named = read.named; numbers = read.numbers; unbroken = checks.1 })

pub compiled : OneAnswer → (text : List ℕ) (c : Checked) → HasProgram text (program_of c.program.parts) → IsAligned (program_of c.program.parts) → Compiles text (Ok c)
compiled known text c has aligned = record {
  has = has;
  only = λ other others. known.one_program text other (program_of c.program.parts) others has;
  unrefused = λ refusal is. known.never_both text (program_of c.program.parts) refusal has is;
  aligned = aligned;
}
