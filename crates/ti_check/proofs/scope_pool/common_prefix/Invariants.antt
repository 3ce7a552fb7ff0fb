use Rattle.std.proofs.Common.{◌≡◌, map, take}
use Rattle.ti_lang.specs.Program.Scope.{in_scope_of}
use Rattle.ti_check.proofs.scope_pool.common_prefix.Given as goal

abbrev pub invariant-loop-count : goal.invariant-loop-count
invariant-loop-count l = map in_scope_of (take l.count l.first) ≡ map in_scope_of (take l.count l.second)
