use Rattle.std.proofs.Common.{◌≡◌, ◌∙◌, sym, ap, refl, List, [], ◌∷◌, map, drop, arith}
use Rattle.std.proofs.lemmas.List.{drop_all}
use Rattle.ti_lang.specs.declared.program.exprs.Expr.{Expr}
use Rattle.ti_lang.specs.Program.Expressions.{numbered_exps}
use Rattle.ti_lang.specs.Program.Expressions as e
use Rattle.ti_lang.specs.Program.Types.{VariableUse}
use Rattle.ti_lang.specs.Program.Views.{expression_of, numbered_param_of}
use Rattle.ti_lang.specs.Meaning.Calls.{parameters_from}
use Rattle.ti_code.specs.declared.instr.Instr.{Instr}
use Rattle.ti_lower.specs.Mirrors.Positions.{Where, where_of}
use Rattle.ti_lower.specs.Mirrors.Values.{args_on}
use Rattle.ti_lower.proofs.calls.args_for.Goals as goal

none_left : (w : Where) (ps : List VariableUse) (code : List Instr) → args_on w ps e.NoExp code ≡ code
none_left w [] code = refl
none_left w (p ∷ ps) code = refl

pub returns-else-i-exprs : goal.returns-else-i-exprs
returns-else-i-exprs c =
    let w = where_of c.args.context.now in
    let ps = parameters_from c.loop-i.i (map numbered_param_of (drop c.loop-i.i c.args.params.now)) in
    sym (ap (λ (ys : List Expr). args_on w ps (numbered_exps (map expression_of ys)) c.loop-i.out.items) (drop_all c.loop-i.i c.args.exprs.now (omega (arith, c.if-i-exprs.false)))
    ∙ none_left w ps c.loop-i.out.items)
    ∙ c.loop-i.invariant
