use Rattle.std.proofs.Common.{◌≡◌, ◌∙◌, sym, ap, subst, OnOk, List, pos}
use Rattle.std.specs.Option.{option_map}
use Rattle.std.proofs.lemmas.Result.{on_ok_weaker}
use Rattle.ti_syntax.specs.Trees.Views.{maybe_of}
use Rattle.ti_lang.specs.declared.program.stmts.Stmt.{Stmt}
use Rattle.ti_lang.specs.Program.Expressions as e
use Rattle.ti_lang.specs.Program.Statements.{NumberedStm}
use Rattle.ti_lang.specs.Program.Statements as s
use Rattle.ti_lang.specs.Program.Views.{expression_of, statement_of}
use Rattle.ti_lang.specs.Meaning.Processes.{Updated}
use Rattle.ti_lang.specs.Meaning.Statements.{one_more}
use Rattle.ti_code.specs.declared.instr.Instr.{Instr}
use Rattle.ti_lower.specs.Mirrors.Bodies.{builder_of, labels_of, maybe_stm_of, stm_in, turn_in}
use Rattle.ti_lower.specs.Mirrors.Positions.{Where, where_of}
use Rattle.ti_lower.specs.Mirrors.Statements.{with_code}
use Rattle.ti_lower.specs.Mirrors.Values.{init_on}
use Rattle.ti_lower.proofs.Seen.{seen_for, joined_for}
use Rattle.ti_lower.proofs.walker.+statement.Goals as goal

pub statement-returns-in-Step : goal.statement-returns-in-Step
statement-returns-in-Step t c =
    let w = c.args.builder.now in
    let n = c.step.new.out.items in
    let r = Updated c.in-Step.place (one_more c.in-Step.operator) (expression_of c.in-Step.target) in
    let one = s.Value (e.Int c.in-Step.place (pos 1)) in
    subst (λ (y : NumberedStm). OnOk c.step.result (with_code (builder_of w) n ≡ stm_in c.args.method.now y (option_map labels_of c.args.labels) (builder_of w))) (sym (ap statement_of c.in-Step.is))
    (on_ok_weaker c.step.result
    (λ (h : n ≡ init_on (where_of c.context_of-context.result) r one w.code.items).
    ap (λ (z : List Instr). with_code (builder_of w) z)
    (h ∙ ap (λ (v : Where). init_on v r one w.code.items) c.context_of-context.ensures))
    c.step.ensures)

pub statement-returns-in_ok-maybe-in-For-2 : goal.statement-returns-in_ok-maybe-in-For-2
statement-returns-in_ok-maybe-in-For-2 t c =
    let m = c.args.method.now in
    let l = option_map labels_of c.args.labels in
    let f = c.in-For in
    let start = c.in_ok-start-in-For.start in
    let is = c.in_ok-start-in-For.ensures in
    let w = builder_of c.args.builder.now in
    let w1 = builder_of c.maybe.new.builder in
    let w2 = builder_of c.turn-in-For.new.builder in
    let w3 = builder_of c.maybe-in-For.new.builder in
    let v = builder_of c.close_for.new.builder in
    let r = c.close_for.result in
    subst (λ (y : NumberedStm). OnOk r (v ≡ stm_in m y l w))
    (sym (ap statement_of f.is ∙ seen_for f.place f.first f.condition f.update f.body))
    (joined_for r m l f.place (maybe_stm_of f.first) (maybe_stm_of f.update)
    (maybe_of expression_of f.condition) (statement_of f.body.value) w w1 w2 w3 v
    c.len-slots-in-For.result start.target start.slots start.at
    c.len-slots-in-For.ensures c.in_ok-maybe-in-For.ensures
    (subst (λ (x : Stmt). w2 ≡ turn_in m f.place (stm_in m (statement_of x)) w1)
    c.deref-in-For.ensures is.written)
    is.target is.slots is.at c.in_ok-maybe-in-For-2.ensures c.close_for.ensures)
