use Rattle.std.proofs.Common.{◌+◌, ◌∷◌, map, drop, arith, ap, sym, ◌∙◌}
use Rattle.std.proofs.lemmas.List.{drop_all}
use Rattle.ti_syntax.specs.Trees.Views.{member_of, field_of, type_tree_of}
use Rattle.ti_lang.specs.Members.{fields_in}
use Rattle.ti_lang.specs.Nodes.{node, FieldName, type_nodes, fields_nodes}
use Rattle.ti_rules.specs.Mirrors.First.{earlier_of}
use Rattle.ti_names.specs.Found.{first_in}
use Rattle.ti_names.specs.Seen.{site_of}
use Rattle.ti_names.proofs.Firsts.{in_step, in_end}
use Rattle.ti_names.proofs.Walks.{fields_with_field, fields_with_method}
use Rattle.ti_names.proofs.context.NameContext.check_fields.Goals.{in-Field+in_ok-number-in-Field, in-Method}
use Rattle.ti_names.proofs.context.NameContext.check_fields.Goals as goal

pub loop-member-preserved : goal.loop-member-preserved
loop-member-preserved c =
    let site = site_of c.args.self.now in
    let number = c.loop-member.number in
    let rest = fields_in (map member_of (drop (c.loop-member.member-index + 1) c.args.members.now)) in
    elim c.match-member.branch [
      | in-Field+in_ok-number-in-Field w ↦
          let f = w.in-Field.field in
          let step = fields_with_field c.args.members.now c.loop-member.member-index c.member-item.result f (omega arith) c.member-item.is w.in-Field.is in
          ap (λ n. earlier_of c.match-member.found (first_in (fields_nodes site n rest))) (w.number-is ∙ w.in_ok-number-in-Field.ensures)
          ∙ in_step c.loop-member.found c.match-member.found _ _ (node site (FieldName number (field_of f)) ∷ type_nodes site
          (type_tree_of f.ty)) (fields_nodes site (number + 1) rest) c.loop-member.invariant
          (ap (λ l. fields_nodes site number l) step) (w.found-is ∙ w.earlier_of-found.ensures ∙ ap (earlier_of c.loop-member.found) w.check_field.ensures)
      | in-Method w ↦
          let step = fields_with_method c.args.members.now c.loop-member.member-index c.member-item.result _ (omega arith) c.member-item.is w.in-Method.is in
          ap (λ n. earlier_of c.match-member.found (first_in (fields_nodes site n rest))) w.number-is ∙ ap (λ f. earlier_of f (first_in (fields_nodes site number rest))) w.found-is
          ∙ sym (ap (λ l. earlier_of c.loop-member.found (first_in (fields_nodes site number l))) step) ∙ c.loop-member.invariant
    ]

pub returns : goal.returns
returns c =
    in_end c.loop-member.found _ _ c.loop-member.invariant (ap (λ l. fields_nodes (site_of c.args.self.now) c.loop-member.number
    (fields_in (map member_of l))) (drop_all c.loop-member.member-index c.args.members.now (omega arith)))
