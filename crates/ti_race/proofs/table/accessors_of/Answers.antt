use Rattle.std.proofs.Common.{◌≡◌, Bool, true, ◌&&◌, ◌∙◌, ap, ap₂, sym, eq-eqb, ◌==◌}
use Rattle.std.specs.HashMap.{get}
use Rattle.ti_race.specs.Mirrors.AccessTable.{same_spot, same_location_key, access_key}
use Rattle.ti_race.proofs.Noting.{key_same}
use Rattle.ti_race.proofs.table.accessors_of.Goals as goal

pub returns-then-key-access : goal.returns-then-key-access
returns-then-key-access c =
    let key = c.in-Some.key.now in
    let one : same_spot key.0 c.args.access.spot ≡ true = sym c.eq.ensures ∙ c.if-eq.true in
    let two : (key.1 == c.args.access.phase) ≡ true = eq-eqb key.1 c.args.access.phase c.if-key-access.true in
    sym c.in-Some.ensures.value ∙ ap (get same_location_key c.args.table.now) (key_same key (access_key c.args.access) (ap₂ (λ (a b : Bool). a && b) one two))
