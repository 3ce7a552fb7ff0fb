use Rattle.std.proofs.Common.{◌≡◌, map, List, [], Option, ap, ◌∙◌}
use Rattle.ti_lang.specs.declared.program.scope.InScope.{InScope}
use Rattle.ti_lang.specs.declared.program.stmts.Stmt.{Stmt}
use Rattle.ti_lang.specs.Program.Scope.{in_scope_of, this_of}
use Rattle.ti_lang.specs.Program.Statements.{numbered_stms}
use Rattle.ti_lang.specs.Program.Views.{program_of, statement_of, numbered_method_of}
use Rattle.ti_rules.specs.StmtInContext.{singles_in}
use Rattle.ti_explain_infer.specs.FixedParts.{bare_scope, part_around_all}
use Rattle.ti_explain_infer.proofs.fixed_parts.part_in_method.Goals as goal

pub returns : goal.returns
returns c =
    let p = program_of c.args.program.now.parts in
    let m = numbered_method_of c.args.method.now in
    let at = c.args.place in
    c.part_around_all.ensures
    ∙ ap (λ this. part_around_all p this (singles_in (record { this_class = this; variables = map in_scope_of c.new.result.items })) c.args.of_conditions at
    (numbered_stms (map statement_of c.deref.result.now))) c.this_of.ensures
    ∙ ap (λ (vs : List InScope). part_around_all p (this_of m) (singles_in (record { this_class = this_of m; variables = map in_scope_of vs })) c.args.of_conditions at
    (numbered_stms (map statement_of c.deref.result.now))) c.new.ensures.items
    ∙ ap (λ (xs : List Stmt). part_around_all p (this_of m) (singles_in (bare_scope m)) c.args.of_conditions at (numbered_stms (map statement_of xs))) c.deref.ensures.value
