use Rattle.std.proofs.Common.{sym, ◌∙◌}
use Rattle.ti_lang.proofs.Indices.{kept, added}
use Rattle.ti_lang.proofs.program.index.MemberIndex.add.Goals as goal

pub returns-then-contains_key : goal.returns-then-contains_key
returns-then-contains_key c = kept c.args.self.now c.self.inside.map.entries (c.args.class, c.args.name) c.args.number c.self.view_is (sym c.contains_key.ensures ∙ c.if-contains_key.true)

pub returns : goal.returns
returns c =
    added c.args.self.now c.self.inside.map (c.args.class, c.args.name) c.args.number c.insert.new.self.entries c.self.view_is
    (sym c.contains_key.ensures ∙ c.if-contains_key.false) c.in-Ok.ensures.entries
