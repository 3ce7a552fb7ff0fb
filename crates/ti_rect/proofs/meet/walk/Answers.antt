use Rattle.std.proofs.Common.{inr, to_z, of_z, FitsSigned, sym, subst, rules}
use Rattle.std.proofs.lemmas.Int.{to_z-of_z}
use Rattle.std.specs.Int.{w32}
use Rattle.ti_rect.specs.Axes.{range, IsLeastOnBoth, IsNextOnBoth}
use Rattle.ti_rect.proofs.RectLaws.{none_here}
use Rattle.ti_rect.proofs.meet.walk.Goals as goal

pub returns-in-None-clause-same : goal.returns-in-None-clause-same
returns-in-None-clause-same c = λ x. (λ o. absurd (none_here x o), λ o. absurd (c.in-None.ensures x o))

pub meet_of_many-requires-clause-least : goal.meet_of_many-requires-clause-least
meet_of_many-requires-clause-least c =
    let f : FitsSigned w32 c.in-Some.first = search rules in
    subst (IsLeastOnBoth (range c.args.left) (range c.args.right)) (sym (to_z-of_z w32 c.in-Some.first f)) c.in-Some.ensures

pub meet_of_many-requires-clause-next : goal.meet_of_many-requires-clause-next
meet_of_many-requires-clause-next c =
    let g : FitsSigned w32 c.in-Some-second.second = search rules in
    subst (IsNextOnBoth (range c.args.left) (range c.args.right) (to_z w32 (of_z w32 c.in-Some.first))) (sym (to_z-of_z w32 c.in-Some-second.second g)) c.in-Some-second.ensures

pub returns-in-Some-second-clause-form : goal.returns-in-Some-second-clause-form
returns-in-Some-second-clause-form c = inr c.meet_of_many.ensures.form

pub returns-in-Some-second-clause-same : goal.returns-in-Some-second-clause-same
returns-in-Some-second-clause-same c = c.meet_of_many.ensures.same

pub meet_of_one-requires-clause-least : goal.meet_of_one-requires-clause-least
meet_of_one-requires-clause-least c =
    let f : FitsSigned w32 c.in-Some.first = search rules in
    subst (IsLeastOnBoth (range c.args.left) (range c.args.right)) (sym (to_z-of_z w32 c.in-Some.first f)) c.in-Some.ensures

pub meet_of_one-requires-clause-last : goal.meet_of_one-requires-clause-last
meet_of_one-requires-clause-last c = c.in-None-second.ensures

pub returns-in-None-second-clause-form : goal.returns-in-None-second-clause-form
returns-in-None-second-clause-form c = inr c.meet_of_one.ensures.form

pub returns-in-None-second-clause-same : goal.returns-in-None-second-clause-same
returns-in-None-second-clause-same c = c.meet_of_one.ensures.same
