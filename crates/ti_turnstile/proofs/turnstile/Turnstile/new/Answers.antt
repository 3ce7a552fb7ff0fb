use Rattle.std.proofs.Common.{◌≡◌, ◌∷◌, [], ◌++◌, ◌∙◌, ap, Some}
use Rattle.ti_turnstile.specs.Mirrors.Views.{log_in_box}
use Rattle.ti_turnstile.proofs.Steps.{opens}
use Rattle.ti_turnstile.proofs.turnstile.Turnstile.new.Goals as goal

pub new-requires-2 : goal.new-requires-2
new-requires-2 g c =
    let boxed = c.in_ok-boxed.boxed in
    let items : c.push.new.self.items ≡ Some boxed ∷ [] = c.in_ok-push.ensures.items ∙ ap (λ l. l ++ Some boxed ∷ []) c.in_ok-slots.ensures.items in
    rw items (opens (log_in_box g.V.Kept.log) c.args.count boxed c.requires.some_pass (ap g.V.Kept.log c.in_ok-boxed.ensures.ok ∙ c.requires.empty))
