use Rattle.std.proofs.Common.{rules, ◌≡◌, Ok, sym, ap, ◌∙◌}
use Rattle.ti_syntax.specs.declared.token.TokenKind.TheVariants as k
use Rattle.ti_syntax.specs.Trees.Expressions as e
use Rattle.ti_parse_expr.specs.Mirrors.Input.{kind, after_next}
use Rattle.ti_parse_expr.proofs.Alone.{whole_name}
use Rattle.ti_parse_expr.proofs.full.name_alone.Goals as goal

pub returns-in_ok-name-in-Name : goal.returns-in_ok-name-in-Name
returns-in_ok-name-in-Name c =
    let l = c.args.tokens.now in
    let is : kind l ≡ k.Name c.in-Name.name = first_of (cc, search rules) in
    whole_name c.args.form l c.in-Name.name c.requires is
    ∙ (ap (λ at. Ok (e.Name at c.in-Name.name, after_next l)) (sym c.place-place.ensures)
    ∙ (ap (λ n. Ok (e.Name c.place-place.result n, after_next l)) (sym c.in_ok-name-in-Name.ensures) ∙ ap (λ r. Ok (e.Name c.place-place.result c.in_ok-name-in-Name.name, r)) (sym c.bump.ensures)))
