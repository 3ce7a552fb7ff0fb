use Rattle.std.proofs.Common.{◌≡◌, [], drop}
use Rattle.ti_lang.specs.Mirrors.Indices.{with_firsts, field_rows}
use Rattle.ti_lang.proofs.program.index.first_fields.Given as goal

abbrev pub invariant-loop-i : goal.invariant-loop-i
invariant-loop-i l = with_firsts l.found (field_rows l.i (drop l.i l.classes)) ≡ with_firsts [] (field_rows 0 l.classes)
