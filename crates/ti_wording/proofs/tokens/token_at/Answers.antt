use Rattle.ti_wording.proofs.TokenBytes.{shown_here}
use Rattle.ti_wording.proofs.tokens.token_at.Goals as goal

pub returns-in-Some : goal.returns-in-Some
returns-in-Some c =
    shown_here c.args.text.now c.args.place c.args.len c.in-Some.start c.first_bytes.result.now c.in-Some.ensures.found c.first_bytes.ensures
