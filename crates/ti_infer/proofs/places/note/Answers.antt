use Rattle.std.proofs.Common.{sym, ◌∙◌, subst}
use Rattle.ti_infer.specs.Mirrors.Places.{place_if, AreAdded}
use Rattle.ti_infer.proofs.Placing.{place_set, place_kept}
use Rattle.ti_infer.proofs.places.note.Goals as goal

pub returns-then-is_empty_at : goal.returns-then-is_empty_at
returns-then-is_empty_at c =
    subst (λ new. AreAdded c.args.places.now.items new (place_if c.args.number c.args.place)) (sym c.set_at.ensures)
    (place_set c.args.places.now.items c.make_room.new.places.items c.args.number c.args.place c.make_room.ensures.same c.in_ok-make_room.ensures.room (sym c.is_empty_at.ensures ∙ c.if-is_empty_at.true))

pub returns-else-is_empty_at : goal.returns-else-is_empty_at
returns-else-is_empty_at c = place_kept c.args.places.now.items c.make_room.new.places.items c.args.number c.args.place c.make_room.ensures.same (sym c.is_empty_at.ensures ∙ c.if-is_empty_at.false)
