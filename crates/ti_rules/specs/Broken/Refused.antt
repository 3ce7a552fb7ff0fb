-- Building blocks of the typing rules. An error (`Refusal`) is a rule with the position at which it is broken; each rule is given as
-- the list of errors that it finds.
use Rattle.std.specs.Prelude.{Bool, if◌then◌else◌, List, [], ◌∷◌, Option, Some, None}
use Rattle.ti_base.specs.declared.place.Place.{Place}
use Rattle.ti_lang.specs.Program.Types.{ValueType}
use Rattle.ti_lang.specs.Typing.Fits.{fits}
use Rattle.ti_rules.specs.declared.rule.Rule.{Rule}
use Rattle.ti_rules.specs.declared.rule.Rule.TheVariants.{Y1, Y2, Y5, Q1}
use Rattle.ti_rules.specs.declared.refusal.Refusal.{Refusal}
use Rattle.ti_lang.specs.Typing.Alike.{erase_dims, as_local}

-- the error of a rule that is broken at a position
abbrev pub refusal_at : Rule → Place → List Refusal
refusal_at rule at = record { rule = rule; place = at } ∷ []

-- the errors of a rule about an operand; none if the operand has no type, since then an error of the operand itself is reported
abbrev pub judged : {A : Type 0} → Option A → (A → List Refusal) → List Refusal
judged None rule = []
judged (Some a) rule = rule a

-- the errors of a rule about two operands; none unless both have types
abbrev pub both_judged : {A B : Type 0} → Option A → Option B → (A → B → List Refusal) → List Refusal
both_judged (Some a) (Some b) rule = rule a b
both_judged (Some a) None rule = []
both_judged None b rule = []

-- operands that aren't accepted break Y1, or Y5 if they would be accepted with other numbers of dimensions
abbrev pub operand_refusal : Place → Bool → Bool → List Refusal
operand_refusal at taken otherwise = if taken then [] else refusal_at (if otherwise then Y5 else Y1) at

-- a value of type t where type u is expected: if it doesn't fit, it breaks Y5 if it would fit with other numbers of dimensions, Q1 if
-- it would fit as a local reference, and otherwise Y2
abbrev pub misfit : Place → ValueType → ValueType → List Refusal
misfit at t u = if fits t u then [] else refusal_at (if fits (erase_dims t) (erase_dims u) then Y5 else if fits (as_local t) u then Q1 else Y2) at
