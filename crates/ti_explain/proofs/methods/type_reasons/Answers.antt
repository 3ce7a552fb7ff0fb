use Rattle.std.proofs.Common.{sym, subst, Result, IfOk}
use Rattle.std.specs.declared.vec.Vec.{Vec}
use Rattle.std.specs.declared.alloc.Global.{Global}
use Rattle.ti_lang.specs.Program.Views.{program_of}
use Rattle.ti_explain.specs.Mirrors.Found.{IsFoundAmong}
use Rattle.ti_explain.proofs.MethodLaws.{sought_types, type_found, type_nowhere, class_reasons_then}
use Rattle.ti_explain.proofs.methods.type_reasons.Goals as goal

pub returns-in-Some : goal.returns-in-Some
returns-in-Some c =
    let p = program_of c.args.program.now.parts in
    type_found c.first_counts.ensures.some p c.args.tree c.args.refusal c.in-Some.found
    (subst (IsFoundAmong p (sought_types c.args.tree c.args.refusal)) c.in-Some.is c.in_ok-found.ensures)

pub returns-in-None : goal.returns-in-None
returns-in-None c =
    let p = program_of c.args.program.now.parts in
    class_reasons_then p c.args.tree c.args.refusal c.class_reasons.result
    (type_nowhere c.first_counts.ensures.some c.first_counts.ensures.none p c.args.tree c.args.refusal c.requires
    (subst (IsFoundAmong p (sought_types c.args.tree c.args.refusal)) c.in-None.is c.in_ok-found.ensures)) c.class_reasons.ensures
