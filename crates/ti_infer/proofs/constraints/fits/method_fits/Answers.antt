use Rattle.std.proofs.Common.{◌≡◌, ◌++◌, List, OnOk, ap, ◌∙◌, subst}
use Rattle.ti_lang.specs.Program.Classes.{NumberedParam}
use Rattle.ti_lang.specs.Program.Statements.{numbered_stms}
use Rattle.ti_lang.specs.Program.Views.{numbered_method_of}
use Rattle.ti_blame.specs.declared.reason.Reason.TheVariants.{OfMethod}
use Rattle.ti_blame.specs.declared.implication.Implication.{Implication}
use Rattle.ti_infer.specs.declared.local.Local.{Local}
use Rattle.ti_infer.specs.Mirrors.Fits.{rule_out_unless, method_accepts_single, result_edges, param_edges, all_param_edges, declared_edges_all}
use Rattle.ti_infer.specs.Mirrors.Locals.{local_edges}
use Rattle.ti_infer.proofs.LocalsTold.{edges_told_all}
use Rattle.ti_infer.proofs.Telling.{params_edges_told, pushed_left}
use Rattle.ti_infer.proofs.constraints.fits.method_fits.Goals as goal

pub returns : goal.returns
returns c =
    let m = numbered_method_of c.args.method.now in
    pushed_left c.of_locals.result c.args.out.now.items c.rule_out_unless.new.out.items c.of_result.new.out.items c.of_params.new.out.items c.of_locals.new.out.items
    (rule_out_unless (method_accepts_single m) (OfMethod m.place)) (result_edges m m.result) (all_param_edges m m.params) (declared_edges_all (numbered_stms m.body))
    (c.in_ok-rule_out_unless.ensures ∙ ap (λ b. c.args.out.now.items ++ rule_out_unless b (OfMethod m.place)) c.method_accepts_single.ensures) c.in_ok-of_result.ensures
    (c.in_ok-of_params.ensures ∙ ap (λ l. c.of_result.new.out.items ++ l) (ap (λ (ws : List NumberedParam). param_edges m ws) c.listed_params.ensures ∙ params_edges_told m m.params))
    (subst (λ (l : List Implication). OnOk c.of_locals.result (c.of_locals.new.out.items ≡ c.of_params.new.out.items ++ l))
    (ap (λ (ls : List Local). local_edges ls) (c.deref.ensures.value ∙ c.in_ok-declared.ensures) ∙ edges_told_all (numbered_stms m.body)) c.of_locals.ensures)
