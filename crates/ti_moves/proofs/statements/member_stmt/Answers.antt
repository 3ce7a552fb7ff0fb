use Rattle.std.proofs.Common.{◌∙◌, ap, map, sym, subst, Some, None}
use Rattle.ti_lang.specs.declared.typing.members.BuiltIn.{BuiltIn}
use Rattle.ti_lang.specs.Program.Expressions.{Member, numbered_exps}
use Rattle.ti_lang.specs.Program.Statements.{Call}
use Rattle.ti_lang.specs.Program.Views.{expression_of}
use Rattle.ti_lang.specs.Typing.BuiltIn as member
use Rattle.ti_lang.specs.Typing.TyRef.{built_in_of}
use Rattle.ti_lang.specs.Meaning.Comp.{Comp}
use Rattle.ti_lang.specs.Meaning.Evaluation.{eval}
use Rattle.ti_lang.specs.Meaning.Moves.{Move, receives}
use Rattle.ti_lang.specs.Meaning.Processes.{Nowhere}
use Rattle.ti_eval.specs.Comes.{ComesAs}
use Rattle.ti_eval.specs.Envs.{env_of}
use Rattle.ti_moves.specs.Outcomes.{move_after}
use Rattle.ti_moves.proofs.Coming.{member_comes, member_dropped}
use Rattle.ti_moves.proofs.statements.member_stmt.Goals as goal

pub returns-in-Copy : goal.returns-in-Copy
returns-in-Copy c =
    let xs = numbered_exps (map expression_of c.args.args.now) in
    member_comes (env_of c.args.env.now) (expression_of c.args.expr.now) c.args.place (expression_of c.args.receiver.now) c.args.name xs (Some member.Copy) c.args.answers.now _ c.requires
    (ap (λ (b : BuiltIn). Some (built_in_of b)) (sym c.in-Copy.is) ∙ c.in-Some.ensures) (c.copies.ensures c.args.name)

pub returns-in-Exchange : goal.returns-in-Exchange
returns-in-Exchange c =
    let xs = numbered_exps (map expression_of c.args.args.now) in
    member_comes (env_of c.args.env.now) (expression_of c.args.expr.now) c.args.place (expression_of c.args.receiver.now) c.args.name xs (Some member.Exchange) c.args.answers.now _ c.requires
    (ap (λ (b : BuiltIn). Some (built_in_of b)) (sym c.in-Exchange.is) ∙ c.in-Some.ensures) (c.exchanges.ensures c.args.name)

pub returns-in-Delete : goal.returns-in-Delete
returns-in-Delete c =
    let xs = numbered_exps (map expression_of c.args.args.now) in
    member_comes (env_of c.args.env.now) (expression_of c.args.expr.now) c.args.place (expression_of c.args.receiver.now) c.args.name xs (Some member.Delete) c.args.answers.now _ c.requires
    (ap (λ (b : BuiltIn). Some (built_in_of b)) (sym c.in-Delete.is) ∙ c.in-Some.ensures) (c.delete.ensures (Call (Member c.args.place (expression_of c.args.receiver.now) c.args.name xs)))

pub returns-in_default : goal.returns-in_default
returns-in_default c =
    let E = env_of c.args.env.now in
    let x = expression_of c.args.receiver.now in
    let xs = numbered_exps (map expression_of c.args.args.now) in
    let s = Call (Member c.args.place x c.args.name xs) in
    let d = c.in_default in
    let e = member_dropped E c.args.place x xs (receives E Nowhere (eval E (expression_of c.args.expr.now))) c.in-Some.member d.not-Copy d.not-Exchange d.not-Delete in
    member_comes E (expression_of c.args.expr.now) c.args.place x c.args.name xs (Some (built_in_of c.in-Some.member)) c.args.answers.now _ c.requires c.in-Some.ensures
    (subst (λ (go : Comp Move). ComesAs (move_after E s) c.evaluate_and_drop.result (go c.args.answers.now)) e (c.evaluate_and_drop.ensures s))

pub returns-in-None : goal.returns-in-None
returns-in-None c =
    let x = expression_of c.args.receiver.now in
    let xs = numbered_exps (map expression_of c.args.args.now) in
    member_comes (env_of c.args.env.now) (expression_of c.args.expr.now) c.args.place x c.args.name xs None c.args.answers.now _ c.requires c.in-None.ensures
    (c.evaluate_and_drop-in-None.ensures (Call (Member c.args.place x c.args.name xs)))
