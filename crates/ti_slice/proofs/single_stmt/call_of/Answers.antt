use Rattle.std.proofs.Common.{ap, subst, map, List, Some, None}
use Rattle.ti_lang.specs.declared.program.exprs.Expr.{Expr}
use Rattle.ti_lang.specs.Program.Expressions.{This, numbered_exps}
use Rattle.ti_lang.specs.Program.Views.{expression_of}
use Rattle.ti_lang.specs.Meaning.Calls.{call_of, call_by}
use Rattle.ti_lang.proofs.Lemmas.{seen_static_call, seen_own_call, seen_numbered_member}
use Rattle.ti_align.specs.Slice.{single_calling}
use Rattle.ti_eval.specs.Comes.{ComesAs}
use Rattle.ti_eval.specs.Envs.{env_of}
use Rattle.ti_moves.specs.Outcomes.{method_at, move_after}
use Rattle.ti_moves.specs.Receiving.{receiver_of}
use Rattle.ti_slice.proofs.single_stmt.call_of.Goals as goal

pub returns-in-Call : goal.returns-in-Call
returns-in-Call c = λ x.
    let E = env_of c.args.env.now in
    let i = c.in-Call in
    let method = method_at E.program c.args.number in
    let made = λ (xs : List Expr). call_of i.place None (numbered_exps (map expression_of xs)) method in (
      made i.args.items,
      ap (λ y. call_by y (Some method)) (seen_static_call c.args.expr.now i.place i.method i.args i.is),
      subst (λ (xs : List Expr). ComesAs (move_after E x) c.call_method.result (single_calling E (receiver_of x) (made xs) c.args.answers.now)) c.deref.ensures.value (c.call_method.ensures None x),
    )

pub returns-in-OwnCall : goal.returns-in-OwnCall
returns-in-OwnCall c = λ x.
    let E = env_of c.args.env.now in
    let i = c.in-OwnCall in
    let method = method_at E.program c.args.number in
    let object = Some (This i.place) in
    let made = λ (xs : List Expr). call_of i.place object (numbered_exps (map expression_of xs)) method in (
      made i.args.items,
      ap (λ y. call_by y (Some method)) (seen_own_call c.args.expr.now i.place i.method i.args i.is),
      subst (λ (xs : List Expr). ComesAs (move_after E x) c.call_method-in-OwnCall.result
          (single_calling E (receiver_of x) (made xs) c.args.answers.now)) c.deref-in-OwnCall.ensures.value
          (c.call_method-in-OwnCall.ensures object x),
    )

pub returns-in-Member : goal.returns-in-Member
returns-in-Member c = λ x.
    let E = env_of c.args.env.now in
    let i = c.in-Member in
    let method = method_at E.program c.args.number in
    let object = Some (expression_of i.receiver.value) in
    let made = λ (xs : List Expr). call_of i.place object (numbered_exps (map expression_of xs)) method in (
      made i.args.items,
      ap (λ y. call_by y (Some method)) (seen_numbered_member c.args.expr.now i.place i.receiver i.name i.args i.is),
      subst (λ (xs : List Expr). ComesAs (move_after E x) c.call_method-in-Member.result
          (single_calling E (receiver_of x) (made xs) c.args.answers.now)) c.deref-in-Member.ensures.value
          (c.call_method-in-Member.ensures object x),
    )
