use Rattle.std.proofs.Common.{◌≡◌, Option, Some, None, option_map, sym, ap, ◌∙◌}
use Rattle.ti_lang.specs.Program.Scope.{contents_of}
use Rattle.ti_lang.specs.Program.Views.{program_of, expression_of}
use Rattle.ti_lang.specs.Typing.Expressions.{ExprTyping, expr_type}
use Rattle.ti_rules.specs.Known.{IsThere}
use Rattle.ti_rules.specs.Broken.Expressions.{exp_refusals}
use Rattle.ti_rules.proofs.Lemmas.{first_is, first_none, has_type}
use Rattle.ti_lang.specs.Typing.TyRef.{ty_view}
use Rattle.ti_types.proofs.typing.type_of.Goals as goal

not_there : {A : Type 0} (o : Option A) → o ≡ None → IsThere o → ⊥
not_there None e there = cc there.1
not_there (Some a) e there = cc e

pub unreachable-requires : goal.unreachable-requires
unreachable-requires c =
    let p = program_of c.args.program.now.parts in
    let s = contents_of c.args.scope.now in
    let e = expression_of c.args.expr.now in
    not_there (expr_type p s e) (sym (ap (λ (k : ExprTyping). k.type) c.exp-judged.ensures.0) ∙ ap (option_map ty_view) c.in-None-ty.is)
    (has_type p s e c.requires (first_none (exp_refusals p s e) (sym c.exp-judged.ensures.1 ∙ c.in-None.is)))

pub returns-in-Some : goal.returns-in-Some
returns-in-Some c =
    first_is (exp_refusals (program_of c.args.program.now.parts) (contents_of c.args.scope.now) (expression_of c.args.expr.now)) c.in-Some.refusal (sym c.exp-judged.ensures.1 ∙ c.in-Some.is)

pub returns-in_ok-copy-in-Some-ty : goal.returns-in_ok-copy-in-Some-ty
returns-in_ok-copy-in-Some-ty c =
    let p = program_of c.args.program.now.parts in
    let s = contents_of c.args.scope.now in
    let e = expression_of c.args.expr.now in (
      first_none (exp_refusals p s e) (sym c.exp-judged.ensures.1 ∙ c.in-None.is),
      sym (ap (λ (k : ExprTyping). k.type) c.exp-judged.ensures.0) ∙ ap (option_map ty_view) c.in-Some-ty.is ∙ ap Some (sym c.in_ok-copy-in-Some-ty.ensures),
    )
