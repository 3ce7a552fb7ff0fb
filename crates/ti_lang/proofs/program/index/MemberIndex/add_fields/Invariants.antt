use Rattle.std.proofs.Common.{◌≡◌, drop}
use Rattle.ti_lang.specs.Mirrors.Indices.{with_firsts, numbered_fields}
use Rattle.ti_lang.proofs.program.index.MemberIndex.add_fields.Given as goal

abbrev pub invariant-loop-i : goal.invariant-loop-i
invariant-loop-i l = with_firsts l.self (numbered_fields l.class l.i (drop l.i l.fields)) ≡ with_firsts l.initial.self (numbered_fields l.class 0 l.fields)
