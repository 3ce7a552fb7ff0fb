use Rattle.std.proofs.Common.{sym, ◌∙◌}
use Rattle.ti_names.proofs.Entries.{kept, added}
use Rattle.ti_names.proofs.names.Names.add.Goals as goal

pub returns-then-contains_key : goal.returns-then-contains_key
returns-then-contains_key g c = kept c.args.self.now c.self.inside.map.entries c.args.name.now c.args.value c.self.view_is (sym c.contains_key.ensures ∙ c.if-contains_key.true)

pub returns-in-Ok : goal.returns-in-Ok
returns-in-Ok g c =
    added c.args.self.now c.self.inside.map c.args.name c.args.value c.insert.new.self.entries c.self.view_is (sym c.contains_key.ensures ∙ c.if-contains_key.false) c.in-Ok.ensures.entries
