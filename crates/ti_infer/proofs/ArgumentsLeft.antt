-- Constraints of arguments and their parameters, paired in order.
use Rattle.std.proofs.Common.{◌≡◌, ℕ, ◌≤◌, List, [], ◌∷◌, ◌++◌, map, drop, length, Option, refl, ap, sym, ◌∙◌, append-nil}
use Rattle.std.proofs.lemmas.List.{drop_all}
use Rattle.ti_lang.specs.declared.program.exprs.Expr.{Expr}
use Rattle.ti_lang.specs.declared.program.classes.Param.{Param}
use Rattle.ti_lang.specs.Program.Expressions.{numbered_exps, NoExp}
use Rattle.ti_lang.specs.Program.Classes.{NumberedParam, NumberedMethod, ProgramView}
use Rattle.ti_lang.specs.Program.Views.{expression_of, numbered_param_of}
use Rattle.ti_blame.specs.declared.mark.Mark.{Mark}
use Rattle.ti_blame.specs.declared.implication.Conclusion.{Conclusion}
use Rattle.ti_blame.specs.declared.implication.Implication.{Implication}
use Rattle.ti_infer.specs.Mirrors.Implications.{arguments_edges}

module _ (p : ProgramView) (m : NumberedMethod) (whole : Conclusion) (inside : List (ℕ × List (Option Mark))) where
  no_argument : (ws : List NumberedParam) → arguments_edges p m whole inside ws NoExp ≡ []
  no_argument [] = refl
  no_argument (w ∷ ws) = refl

  pub args_end : (params : List Param) (args : List Expr) (i : ℕ) (out whole_out : List Implication) → length args ≤ i
      → out ++ arguments_edges p m whole inside (map numbered_param_of (drop i params)) (numbered_exps (map expression_of (drop i args))) ≡ whole_out → out ≡ whole_out
  args_end params args i out whole_out le is =
      sym (append-nil out)
      ∙ ap (λ z. out ++ z) (sym (ap (λ l. arguments_edges p m whole inside (map numbered_param_of (drop i params))
      (numbered_exps (map expression_of l))) (drop_all i args le) ∙ no_argument (map numbered_param_of (drop i params))))
      ∙ is
