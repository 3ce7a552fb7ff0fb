use Rattle.std.proofs.Common.{rules, ◌∙◌, sym, ap, pos, w32, refl, nat_le, false}
use Rattle.std.proofs.lemmas.Int.{to_z-of_z}
use Rattle.std.proofs.Common.{length}
use Rattle.std.specs.Prelude.{int_le}
use Rattle.ti_base.specs.Rects.{points_of, size_of}
use Rattle.ti_race.proofs.Seen.{true_false}
use Rattle.ti_race.proofs.BlockDomains.{no_block, block_sized, too_many}
use Rattle.ti_race.proofs.history_index.is_block_domain.Goals as goal

pub returns-then-not-is_rect-clause-value : goal.returns-then-not-is_rect-clause-value
returns-then-not-is_rect-clause-value c =
    sym (no_block c.args.domain.now (c.forms_are_told.ensures.rects c.args.domain.now) (λ f. true_false (sym (c.is_rect.ensures.1 f) ∙ c.if-not-is_rect.true)))

pub returns-in-Ok-clause-value : goal.returns-in-Ok-clause-value
returns-in-Ok-clause-value c =
    let r = c.args.domain.now in
    let size = to_z-of_z w32 c.in-Ok.size (search rules) ∙ c.in-Ok.ensures.size ∙ ap pos (c.rect_counts.ensures r) in
    ap (λ z. int_le z (pos 1048576)) size ∙ sym (block_sized r (nat_le (size_of r) 1048576) (c.forms_are_told.ensures.rects r) (c.is_rect.ensures.0 c.if-not-is_rect.false) refl)

pub returns-in-Err-clause-value : goal.returns-in-Err-clause-value
returns-in-Err-clause-value c =
    let r = c.args.domain.now in
    sym (block_sized r false (c.forms_are_told.ensures.rects r) (c.is_rect.ensures.0 c.if-not-is_rect.false)
    (too_many (size_of r) (length (points_of r)) (c.rect_counts.ensures r) (c.in-Err.ensures.large.0 refl)))
