use Rattle.std.proofs.Common.{◌∙◌, ap, sym, subst, Bool, None}
use Rattle.std.specs.Prelude.{if◌then◌else◌}
use Rattle.ti_syntax.specs.Trees.Views.{maybe_of}
use Rattle.ti_lang.specs.Program.Views.{expression_of}
use Rattle.ti_lang.specs.Meaning.Comp.{gives}
use Rattle.ti_lang.specs.Meaning.Moves.{Returns}
use Rattle.ti_lang.specs.Meaning.Statements.{returns}
use Rattle.ti_eval.specs.Comes.{ComesAs}
use Rattle.ti_eval.specs.Envs.{env_of}
use Rattle.ti_moves.specs.Outcomes.{move_after}
use Rattle.ti_slice.proofs.single_stmt.return_value.Goals as goal

pub returns-then-gives_single : goal.returns-then-gives_single
returns-then-gives_single c = λ x.
    let E = env_of c.args.env.now in
    subst (λ (b : Bool). ComesAs (move_after E x) c.returns.result ((if b then returns E c.args.place (maybe_of expression_of c.args.value.now) else gives (Returns None)) c.args.answers.now))
    (sym c.if-gives_single.true ∙ c.gives_single.ensures) (c.returns.ensures x)

pub returns-else-gives_single : goal.returns-else-gives_single
returns-else-gives_single c = λ x.
    let E = env_of c.args.env.now in
    ap (λ (b : Bool). (if b then returns E c.args.place (maybe_of expression_of c.args.value.now) else gives (Returns None)) c.args.answers.now) (sym c.gives_single.ensures ∙ c.if-gives_single.false)
