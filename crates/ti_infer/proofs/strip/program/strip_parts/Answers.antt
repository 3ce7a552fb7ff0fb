use Rattle.std.proofs.Common.{sym, ◌∙◌}
use Rattle.ti_infer.proofs.PlainParts.{field_rows_stay, method_rows_stay}
use Rattle.ti_infer.proofs.strip.program.strip_parts.Goals as goal

pub invariant_of-parts : goal.invariant_of-parts
invariant_of-parts c =
    let p = c.args.parts.now in
    record {
      fields_told =
          p.fields_told ∙ sym (field_rows_stay p.classes.items c.strip_classes.new.classes.items c.strip_classes.ensures);
      methods_told =
          p.methods_told ∙ sym (method_rows_stay p.main p.methods.items c.strip_methods.new.methods.items c.strip_methods.ensures);
    }
