use Rattle.std.proofs.Common.{◌≡◌, List, length, None, ap, ◌∙◌, arith}
use Rattle.std.proofs.lemmas.List.{length-map}
use Rattle.ti_base.specs.declared.value.Value.{Value}
use Rattle.ti_base.specs.Cells.{zero_value}
use Rattle.ti_heap.specs.Things.{contents}
use Rattle.ti_heap.proofs.Makings.{value_there}
use Rattle.ti_heap.proofs.heap.Heap.new_obj.Goals as goal

pub returns-clause-there : goal.returns-clause-there
returns-clause-there c = λ field h.
    let n : length c.in_ok-fields.fields ≡ length c.args.zeros.now = ap (λ (vs : List Value). length vs) c.in_ok-fields.ensures ∙ length-map c.args.zeros.now zero_value in
    value_there (contents c.push.new.self) (contents c.args.self.now) c.next_id-id.result c.in_ok-fields.fields None c.in_ok-push.ensures.ok field (omega (arith, n))
