use Rattle.std.proofs.Common.{◌≡◌, map, take}
use Rattle.ti_lang.specs.Program.Scope.{in_scope_of}
use Rattle.ti_explain.proofs.search.copy_variables.Given as goal

abbrev pub invariant-loop-v : goal.invariant-loop-v
invariant-loop-v l = map in_scope_of l.found.items ≡ map in_scope_of (take l.v-index l.variables)
