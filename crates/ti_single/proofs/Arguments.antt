-- The check of arguments against their parameters, one pair after the other, is proved to find the first broken rule.
use Rattle.std.proofs.Common.{◌≡◌, ℕ, ◌+◌, ◌<◌, ◌≤◌, ◌&&◌, List, [], ◌∷◌, ◌++◌, map, drop, length, get_or, Option, None, refl, ap, sym, ◌∙◌}
use Rattle.std.proofs.lemmas.List.{drop_all}
use Rattle.ti_lang.specs.declared.program.exprs.Expr.{Expr}
use Rattle.ti_lang.specs.declared.program.classes.Param.{Param}
use Rattle.ti_lang.specs.Program.Expressions.{numbered_exps, NoExp, place_of_numbered}
use Rattle.ti_lang.specs.Program.Classes.{NumberedParam, ProgramView}
use Rattle.ti_lang.specs.Program.Views.{expression_of, numbered_param_of}
use Rattle.ti_rules.specs.declared.rule.Rule.TheVariants.{S5}
use Rattle.ti_rules.specs.declared.refusal.Refusal.{Refusal}
use Rattle.ti_rules.specs.Refusals.{refused_if}
use Rattle.ti_rules.specs.Mirrors.First.{earlier_of, earliest}
use Rattle.ti_rules.specs.StmtInContext.{StmtContext}
use Rattle.ti_rules.specs.SingleRules.{is_plain_part, argument_refusals}
use Rattle.ti_rules.proofs.Lemmas.{first_append, sooner_assoc, sooner_none}
use Rattle.ti_single.proofs.Together.{drop_next}

pub none_sooner : (a : Option Refusal) → a ≡ earlier_of None a
unfolding earlier_of
none_sooner a = refl

-- what is wrong with the arguments from a number on
abbrev pub arguments_from : ProgramView → StmtContext → List Param → List Expr → ℕ → List Refusal
arguments_from p around params args i = argument_refusals p around (map numbered_param_of (drop i params)) (numbered_exps (map expression_of (drop i args)))

-- what is wrong with one
abbrev pub argument_refused : ProgramView → StmtContext → Param → Expr → List Refusal
argument_refused p around w e = refused_if ((numbered_param_of w).ty.is_single && is_plain_part p around (expression_of e)) S5 (place_of_numbered (expression_of e))

pub argument_step : (p : ProgramView) (around : StmtContext) (params : List Param) (args : List Expr) (i : ℕ) (w : Param) (e : Expr)
    (whole found next : Option Refusal) → i < length params → i < length args
    → w ≡ get_or params i w → e ≡ get_or args i e → whole ≡ earlier_of found (earliest (arguments_from p around params args i)) → next ≡ earlier_of found (earliest (argument_refused p around w e))
    → whole ≡ earlier_of next (earliest (arguments_from p around params args (i + 1)))
argument_step p around params args i w e whole found next lt_params lt_args is_w is_e is is_next =
    let rest = arguments_from p around params args (i + 1) in
    is
    ∙ ap (λ l. earlier_of found (earliest (argument_refusals p around (map numbered_param_of l) (numbered_exps (map expression_of (drop i args)))))) (drop_next params i w lt_params)
    ∙ ap (λ l. earlier_of found (earliest (argument_refusals p around (map numbered_param_of (get_or params i w ∷ drop (i + 1) params))
    (numbered_exps (map expression_of l))))) (drop_next args i e lt_args)
    ∙ ap (λ z. earlier_of found (earliest (argument_refused p around z (get_or args i e) ++ rest))) (sym is_w)
    ∙ ap (λ z. earlier_of found (earliest (argument_refused p around w z ++ rest))) (sym is_e)
    ∙ ap (earlier_of found) (first_append (argument_refused p around w e) rest)
    ∙ sym (sooner_assoc found (earliest (argument_refused p around w e)) (earliest rest))
    ∙ sym (ap (λ a. earlier_of a (earliest rest)) is_next)

sooner_nil : (a : Option Refusal) → earlier_of a (earliest []) ≡ a
unfolding earliest
sooner_nil a = sooner_none a

no_argument : (p : ProgramView) (around : StmtContext) (ws : List NumberedParam) → argument_refusals p around ws NoExp ≡ []
no_argument p around [] = refl
no_argument p around (w ∷ ws) = refl

-- where there are no more parameters
pub params_end : (p : ProgramView) (around : StmtContext) (params : List Param) (args : List Expr) (i : ℕ) (whole found : Option Refusal)
    → length params ≤ i → whole ≡ earlier_of found (earliest (arguments_from p around params args i)) → found ≡ whole
params_end p around params args i whole found le is =
    sym (is ∙ ap (λ l. earlier_of found (earliest (argument_refusals p around (map numbered_param_of l) (numbered_exps (map expression_of (drop i args)))))) (drop_all i params le) ∙ sooner_nil found)

-- where there are no more arguments
pub args_end : (p : ProgramView) (around : StmtContext) (params : List Param) (args : List Expr) (i : ℕ) (whole found : Option Refusal)
    → length args ≤ i → whole ≡ earlier_of found (earliest (arguments_from p around params args i)) → found ≡ whole
args_end p around params args i whole found le is =
    sym (is ∙ ap (λ l. earlier_of found (earliest (argument_refusals p around (map numbered_param_of (drop i params)) (numbered_exps (map expression_of l))))) (drop_all i args le)
    ∙ ap (λ l. earlier_of found (earliest l)) (no_argument p around (map numbered_param_of (drop i params))) ∙ sooner_nil found)
