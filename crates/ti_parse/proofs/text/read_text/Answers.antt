use Rattle.std.proofs.Common.{arith, ◌≡◌, ◌<◌, ℕ, List, [], ◌∷◌, length, Ok, Err, refl}
use Rattle.ti_syntax.specs.declared.token.Token.{Token}
use Rattle.ti_syntax.specs.Trees.Classes.{TextTree}
use Rattle.ti_parse_expr.specs.Mirrors.Input.{At, after_next}
use Rattle.ti_parse.specs.Mirrors.ParserParams.{language_params}
use Rattle.ti_parse.specs.Mirrors.Classes.{classes, ended, text}
use Rattle.ti_parse.proofs.text.read_text.Goals as goal

ended_long : (fuel : ℕ) (tree : TextTree) (l : List Token) → 1 < length l → ended language_params fuel tree l ≡ Err (At (after_next l))
ended_long fuel tree [] long = absurd (omega arith)
ended_long fuel tree (t ∷ []) long = absurd (omega (arith, long))
ended_long fuel tree (t ∷ u ∷ l) long = refl

text_long : (fuel : ℕ) (tree : TextTree) (l rest : List Token) → classes language_params fuel fuel [] l ≡ Ok (tree, rest) → 1 < length rest → text language_params fuel l ≡ Err (At (after_next rest))
unfolding text
text_long fuel tree l rest read long = rw read (ended_long fuel tree rest long)

pub returns-then-remaining-gt1 : goal.returns-then-remaining-gt1
returns-then-remaining-gt1 c =
    let e = text_long _ _ _ _ c.in_ok-classes.ensures (omega (arith, c.remaining.ensures)) in
    rw (e, c.bump.ensures) refl
