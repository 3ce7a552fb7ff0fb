use Rattle.std.proofs.Common.{◌∙◌, ap, sym, ◌*◌, ◌<◌, length, drop, arith, length-drop}
use Rattle.ti_lang.specs.Meaning.Literals.{append_bounds}
use Rattle.ti_eval.specs.Bounds as found
use Rattle.ti_machine.proofs.Numbers.{few_bounds, joined_none}
use Rattle.ti_machine.proofs.instrs.domains.bounds.Goals as goal

pub returns : goal.returns
returns c =
    let xs = c.args.args.now in
    let b = found.bounds_of c.loop-k.found in
    let few : length (drop (3 * c.loop-k.k) xs) < 3 = omega (arith, length-drop (3 * c.loop-k.k) xs) in
    sym (sym c.loop-k.invariant ∙ (ap (append_bounds b) (few_bounds (drop (3 * c.loop-k.k) xs) few) ∙ joined_none b))
