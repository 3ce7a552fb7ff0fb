use Rattle.std.proofs.Common.{ℕ, ◌+◌, [], length}
use Rattle.ti_lang.specs.Program.Statements.{numbered_stms}
use Rattle.ti_lang.specs.Program.Scope.{parameters}
use Rattle.ti_lang.specs.Program.Views.{program_of, numbered_method_of}
use Rattle.ti_blame.specs.declared.implication.Conclusion.{Conclusion}
use Rattle.ti_infer.specs.Reason.{result_reasons}
use Rattle.ti_infer.specs.Mirrors.Implications.{one_each, own_dependencies, method_conclusion, first_inside, edges_all}
use Rattle.ti_infer.proofs.Walking.{method_walked}
use Rattle.ti_infer.proofs.constraints.methods.method_edges.Goals as goal

pub returns-clause-edges : goal.returns-clause-edges
returns-clause-edges c =
    let p = program_of c.args.program.now.parts in
    let m = numbered_method_of c.args.method.now in
    let i = length c.args.items.now.items in
    method_walked c.body_edges.result (one_each (own_dependencies m)) (λ (w : Conclusion) (n : ℕ). edges_all p m w (parameters m.params)
    (first_inside m.params) (n + length (result_reasons p m m.result)) [] (numbered_stms m.body)) c.in_ok-whole.whole
    (method_conclusion p m i) c.count-i.result i c.args.out.now.items c.own_edge.new.out.items c.body_edges.new.out.items c.in_ok-whole.ensures.whole
    c.count-i.ensures c.in_ok-own_edge.ensures c.body_edges.ensures
