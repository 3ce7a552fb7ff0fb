-- For proofs only: the models of the values that the parser returns.
use Rattle.std.specs.Prelude.{◌≡◌, List, map, Option, Some, None, Result, Ok, Err}
use Rattle.std.specs.declared.boxed.Box.{Box}
use Rattle.std.specs.declared.vec.Vec.{Vec}
use Rattle.std.specs.declared.alloc.Global.{Global}
use Rattle.ti_syntax.specs.declared.token.Token.{Token}
use Rattle.ti_syntax.specs.declared.token.TokenKind.{TokenKind}
use Rattle.ti_syntax.specs.declared.token.TokenKind.TheVariants as k
use Rattle.ti_syntax.specs.declared.tree.stmts.Stmt.{Stmt}
use Rattle.ti_syntax.specs.declared.tree.classes.ModifierWord.{ModifierWord}
use Rattle.ti_syntax.specs.declared.tree.classes.Modifier.{Modifier}
use Rattle.ti_syntax.specs.declared.tree.classes.ParamDecl.{ParamDecl}
use Rattle.ti_syntax.specs.declared.tree.classes.Member.{Member}
use Rattle.ti_syntax.specs.declared.tree.classes.Class.{Class}
use Rattle.ti_syntax.specs.Trees.Statements.{Stm, MaybeStm, NoStm, SomeStm}
use Rattle.ti_syntax.specs.Trees.Classes.{ParamTree, MemberTree, TextTree}
use Rattle.ti_syntax.specs.Trees.Views.{stm_of, type_tree_of, param_of, member_of, class_of}
use Rattle.ti_syntax.specs.Spelling.Operators.{modifier_of, class_modifier_of}
use Rattle.ti_parse_expr.specs.declared.parse_stop.ParseStop.{ParseStop}
use Rattle.ti_parse_expr.specs.Mirrors.Input.{ParseOutcome, Parser, Fails, ◌>>=◌, ◌>>◌, pure, expect}
use Rattle.ti_parse_expr.specs.Mirrors.Seen.{operand_of}
use Rattle.ti_parse.specs.declared.simple.NameStart.{NameStart}
use Rattle.ti_parse.specs.declared.simple.NameStart.TheVariants as begun
use Rattle.ti_parse.specs.declared.words.Modified.{Modified}
use Rattle.ti_parse.specs.declared.words.Modified.TheVariants as modified
use Rattle.ti_parse.specs.Mirrors.Parts as parts

-- the modifiers of a class or a member, by token
abbrev pub modifier_word_of : Modified → TokenKind → Option ModifierWord
modifier_word_of modified.Class = class_modifier_of
modifier_word_of modified.Member = modifier_of

-- the model of the start of a statement
abbrev pub name_start_of : NameStart → parts.NameStart
name_start_of (begun.DeclaredType ty) = parts.DeclaredType (type_tree_of ty)
name_start_of (begun.PostfixStart o) = parts.PostfixStart (operand_of o)

abbrev pub boxed_stm : Box Stmt Global → Stm
boxed_stm b = stm_of b.value

-- the model of an optional statement of a `for` head
abbrev pub maybe_stm : Option (Box Stmt Global) → MaybeStm
maybe_stm None = NoStm
maybe_stm (Some b) = SomeStm (boxed_stm b)

-- ---- phrases followed by a semicolon

abbrev pub before_semicolon : {A : Type 0} → Parser A → Parser A
before_semicolon p = (do x ← p; expect k.Semicolon; pure x)

-- the result is this value if the token is consumed, else the error
abbrev pub ReturnsAfter : {A : Type 0} → A → ParseOutcome (Unit {0}) → Result A ParseStop → List Token → Type 0
ReturnsAfter read out (Ok a) new = (a ≡ read) × (out ≡ Ok (tt, new))
ReturnsAfter read out (Err e) new = Fails out e new

-- ---- lists

abbrev pub modifiers_of : Vec Modifier Global → List Modifier
modifiers_of v = v.items

abbrev pub param_list_of : Vec ParamDecl Global → List ParamTree
param_list_of v = map param_of v.items

abbrev pub members_of : Vec Member Global → List MemberTree
members_of v = map member_of v.items

abbrev pub classes_of : Vec Class Global → TextTree
classes_of v = map class_of v.items
