use Rattle.std.proofs.Common.{ap, subst, IfOk, Option}
use Rattle.std.specs.declared.vec.Vec.{Vec}
use Rattle.std.specs.declared.alloc.Global.{Global}
use Rattle.ti_lang.specs.Program.Views.{program_of, numbered_method_of}
use Rattle.ti_rules.specs.StmtInContext.{StmtContext}
use Rattle.ti_single.specs.Contexts.{around_of}
use Rattle.ti_explain.specs.declared.reason.RefusalReason.{RefusalReason}
use Rattle.ti_explain.specs.Mirrors.Found.{IsFoundInMethod}
use Rattle.ti_explain.proofs.MethodLaws.{then_at}
use Rattle.ti_explain.proofs.methods.found_in_method.Goals as goal

pub returns : goal.returns
returns c =
    let p = program_of c.args.program.now.parts in
    let m = numbered_method_of c.method_at-method.result.now in
    then_at p c.args.sought c.args.index m c.found_in_site.result c.method_at-method.ensures
    (subst (λ n. IfOk c.found_in_site.result (λ (o : Option (Vec RefusalReason Global)). IsFoundInMethod p c.args.sought n o)) (ap (λ (a : StmtContext). a.method) c.site_of.ensures.around)
    (subst (λ q. IfOk c.found_in_site.result (λ (o : Option (Vec RefusalReason Global)). IsFoundInMethod q c.args.sought (around_of c.site_of.result).method o)) c.site_of.ensures.program c.found_in_site.ensures))
