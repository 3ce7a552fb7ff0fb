use Rattle.std.proofs.Common.{◌+◌, map, drop, sym, ap, ◌∙◌, arith}
use Rattle.std.specs.Option.{option_or}
use Rattle.ti_lang.specs.Program.Views.{program_of, numbered_method_of}
use Rattle.ti_explain_infer.specs.FixedParts.{part_in_methods}
use Rattle.ti_explain_infer.proofs.FixedPartLaws.{next_method}
use Rattle.ti_explain_infer.proofs.fixed_parts.part_in_methods.Goals as goal

pub returns-in-Some : goal.returns-in-Some
returns-in-Some c =
    let p = program_of c.args.program.now.parts in
    let rest = part_in_methods p c.args.of_conditions c.args.place (map numbered_method_of (drop (c.loop-method.method-index + 1) c.args.methods.now)) in
    sym (c.loop-method.invariant
    ∙ next_method p c.args.of_conditions c.args.place c.args.methods.now c.loop-method.method-index c.method-item.result (omega arith) c.method-item.is
    ∙ ap (λ found. option_or found rest) (sym c.part_in_method.ensures ∙ c.in-Some.is))

pub loop-method-preserved : goal.loop-method-preserved
loop-method-preserved c =
    let p = program_of c.args.program.now.parts in
    let rest = part_in_methods p c.args.of_conditions c.args.place (map numbered_method_of (drop (c.loop-method.method-index + 1) c.args.methods.now)) in
    c.loop-method.invariant
    ∙ next_method p c.args.of_conditions c.args.place c.args.methods.now c.loop-method.method-index c.method-item.result (omega arith) c.method-item.is
    ∙ ap (λ found. option_or found rest) (sym c.part_in_method.ensures ∙ c.in_default.is)
