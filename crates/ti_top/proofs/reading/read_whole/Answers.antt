use Rattle.std.proofs.Common.{◌++◌, rules, inr, ap, arith, length}
use Rattle.ti_top.proofs.reading.read_whole.Goals as goal

pub returns-in-Err : goal.returns-in-Err
returns-in-Err g c = record {
  never_falls = search rules;
  same = search rules;
  bound = omega (arith, ap length c.requires);
  front = λ bytes holds. (bytes, ap (λ t. t ++ bytes) c.requires);
  whole = search rules;
  cause = λ _. inr c.in-Err.ensures.cause.rose;
  missing = search rules;
  failed = inr (search rules);
  nothing = search rules;
}
