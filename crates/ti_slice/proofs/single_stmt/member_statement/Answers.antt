use Rattle.std.proofs.Common.{◌∙◌, ap, sym, subst, Option, Some}
use Rattle.ti_lang.specs.declared.typing.members.BuiltIn.{BuiltIn}
use Rattle.ti_lang.specs.Program.Views.{expression_of}
use Rattle.ti_lang.specs.Typing.BuiltIn as member
use Rattle.ti_lang.specs.Typing.TyRef.{built_in_of}
use Rattle.ti_align.specs.Slice.{single_member}
use Rattle.ti_eval.specs.Comes.{ComesAs}
use Rattle.ti_eval.specs.Envs.{env_of}
use Rattle.ti_moves.specs.Outcomes.{move_after}
use Rattle.ti_slice.proofs.single_stmt.member_statement.Goals as goal

pub returns-in-Delete : goal.returns-in-Delete
returns-in-Delete c = λ x.
    let E = env_of c.args.env.now in
    subst (λ (o : Option member.BuiltIn). ComesAs (move_after E x) c.delete.result (single_member E c.args.place (expression_of c.args.receiver.now) o c.args.answers.now))
    (ap (λ (b : BuiltIn). Some (built_in_of b)) (sym c.in-Delete.is) ∙ c.in-Some.ensures) (c.delete.ensures x)
