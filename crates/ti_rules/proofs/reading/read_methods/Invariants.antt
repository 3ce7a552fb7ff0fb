use Rattle.std.proofs.Common.{map, drop}
use Rattle.ti_lang.specs.Program.Views.{numbered_method_of}
use Rattle.ti_rules.specs.Mirrors.Literals.{InMethods}
use Rattle.ti_rules.proofs.reading.read_methods.Given as goal

abbrev pub invariant-loop-method : goal.invariant-loop-method
invariant-loop-method l = InMethods (map numbered_method_of (drop l.method-index l.methods)) → InMethods (map numbered_method_of l.methods)
