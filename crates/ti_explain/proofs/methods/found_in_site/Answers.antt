use Rattle.std.proofs.Common.{map, inl, ap, ◌∙◌, subst}
use Rattle.ti_lang.specs.Program.Statements.{numbered_stms}
use Rattle.ti_lang.specs.Program.Views.{statement_of}
use Rattle.ti_rules.specs.StmtInContext.{inside_all, standing_in_method}
use Rattle.ti_single.specs.Contexts.{program_at, around_of}
use Rattle.ti_explain.specs.Mirrors.Found.{IsFoundInHead}
use Rattle.ti_explain.proofs.FoundLaws.{same_found}
use Rattle.ti_explain.proofs.MethodLaws.{then_site}
use Rattle.ti_explain.proofs.methods.found_in_site.Goals as goal

pub returns-in-Some : goal.returns-in-Some
returns-in-Some c = inl (subst (IsFoundInHead (program_at c.args.site) c.args.sought (around_of c.args.site).method) c.in-Some.is c.in_ok-found.ensures)

pub returns : goal.returns
returns c =
    let p = program_at c.args.site in
    let around = around_of c.args.site in
    then_site p c.args.sought around.method c.found_among.result
    (subst (IsFoundInHead p c.args.sought around.method) c.in_default.is c.in_ok-found.ensures)
    (same_found p c.args.sought (inside_all p around (numbered_stms (map statement_of c.deref_stmts.result.now))) (standing_in_method p around.method) c.found_among.result
    (ap (λ l. inside_all p around (numbered_stms (map statement_of l))) c.deref_stmts.ensures
    ∙ ap (λ a. inside_all p a (numbered_stms around.method.body)) c.requires) c.found_among.ensures)
