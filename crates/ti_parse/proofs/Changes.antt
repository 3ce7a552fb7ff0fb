-- Lemmas on parsing a change after its target, by the next token.
use Rattle.std.proofs.Common.{◌≡◌, ℕ, List, Some, None, Ok, Err, true, false, refl, sym, ap, ◌∙◌}
use Rattle.std.proofs.lemmas.Bool.{false≢true}
use Rattle.ti_syntax.specs.declared.token.Token.{Token}
use Rattle.ti_syntax.specs.declared.token.TokenKind.{TokenKind}
use Rattle.ti_syntax.specs.declared.token.TokenKind.TheVariants as k
use Rattle.ti_syntax.specs.declared.tree.exprs.BinaryOperator.{BinaryOperator}
use Rattle.ti_syntax.specs.declared.tree.stmts.StepOperator.{StepOperator}
use Rattle.ti_syntax.specs.Tokens.{same_kind}
use Rattle.ti_syntax.specs.Trees.Expressions.{Exp}
use Rattle.ti_syntax.specs.Trees.Statements as s
use Rattle.ti_syntax.specs.Spelling.Operators.{update_of, step_of}
use Rattle.ti_syntax.specs.Spelling.Expressions.{Target}
use Rattle.ti_parse_expr.specs.Mirrors.Input.{At, kind, after_next, place, next_is}
use Rattle.ti_parse.specs.Mirrors.ParserParams.{ParserParams}
use Rattle.ti_parse.specs.Mirrors.Parts.{assignment, compound_assignment, update_if, change_of_by, change_of_if}
use Rattle.ti_parse.proofs.SoundKinds.{assign_is}

module _ (w : ParserParams) (fuel : ℕ) (target : Exp) (l : List Token) where
  no_assign : (q : TokenKind) → same_kind q k.Assign ≡ false → change_of_by w fuel target q l ≡ update_if w fuel target (update_of q) (step_of q) l
  no_assign k.Assign h = absurd (false≢true (sym h))
  no_assign _ h = refl

  pub assign_changes : next_is k.Assign l ≡ true → change_of_if w fuel target Target l ≡ assignment w fuel (place l) target (after_next l)
  assign_changes h = ap (λ q. change_of_by w fuel target q l) (assign_is (kind l) h)

  pub update_changes : {op : BinaryOperator} → next_is k.Assign l ≡ false → update_of (kind l) ≡ Some op → change_of_if w fuel target Target l ≡ compound_assignment w fuel (place l) op target (after_next l)
  update_changes h is = no_assign (kind l) h ∙ ap (λ z. update_if w fuel target z (step_of (kind l)) l) is

  pub step_changes : {op : StepOperator} → next_is k.Assign l ≡ false → update_of (kind l) ≡ None → step_of (kind l) ≡ Some op
      → change_of_if w fuel target Target l ≡ Ok (s.Step (place l) op target, after_next l)
  step_changes h other is = no_assign (kind l) h ∙ ap (λ z. update_if w fuel target z (step_of (kind l)) l) other ∙ ap (λ z. update_if w fuel target None z l) is

  pub nothing_changes : next_is k.Assign l ≡ false → update_of (kind l) ≡ None → step_of (kind l) ≡ None → change_of_if w fuel target Target l ≡ Err (At l)
  nothing_changes h other none = no_assign (kind l) h ∙ ap (λ z. update_if w fuel target z (step_of (kind l)) l) other ∙ ap (λ z. update_if w fuel target None z l) none
