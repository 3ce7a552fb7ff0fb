use Rattle.std.proofs.Common.{◌≡◌, true, false, ◌++◌, sym, ap, ◌∙◌}
use Rattle.ti_domain.proofs.SetLaws.{alone_full}
use Rattle.ti_domain.proofs.meets.with_filled.Goals as goal

pub returns : goal.returns
returns c =
    let full = alone_full c.args.rect c.requires (λ e. let t = c.is_empty.ensures.1 e in let f = c.if-is_empty.false in let k : true ≡ false = sym t ∙ f in cc) in
    c.in_ok-push.ensures.items ∙ ap (λ l. c.args.rects.items ++ l) (sym full)
