use Rattle.std.proofs.Common.{arith, subst}
use Rattle.std.proofs.lemmas.List.{length-map}
use Rattle.ti_lang.specs.Program.Views.{program_of, numbered_method_of}
use Rattle.ti_explain.specs.Mirrors.Found.{IsFoundAt}
use Rattle.ti_explain.proofs.MethodLaws.{one_more}
use Rattle.ti_explain.proofs.methods.found_among_methods.Goals as goal

pub returns-in-Some : goal.returns-in-Some
returns-in-Some c =
    let p = program_of c.args.program.now.parts in
    (c.loop-i.i, subst (IsFoundAt p c.args.sought c.loop-i.i) c.in-Some.is c.in_ok-found.ensures)

pub loop-i-preserved : goal.loop-i-preserved
loop-i-preserved c =
    let p = program_of c.args.program.now.parts in
    one_more p c.args.sought c.loop-i.i c.loop-i.invariant (subst (IsFoundAt p c.args.sought c.loop-i.i) c.in_default.is c.in_ok-found.ensures)

pub returns : goal.returns
returns c =
    let count = length-map c.args.program.now.parts.methods.items numbered_method_of in
    λ k within. c.loop-i.invariant k (omega (arith, count, within, c.loop-i-test.false, c.len-i-end.ensures))
