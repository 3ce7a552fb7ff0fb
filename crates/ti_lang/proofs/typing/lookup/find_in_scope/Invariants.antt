use Rattle.std.proofs.Common.{◌≡◌, ◌==◌, map, drop, find}
use Rattle.ti_lang.specs.Program.Scope.{ScopeVariable, in_scope_of}
use Rattle.ti_lang.proofs.typing.lookup.find_in_scope.Given as goal

abbrev pub invariant-loop-v : goal.invariant-loop-v
invariant-loop-v l =
    find (λ (v : ScopeVariable). v.number == l.number) (map in_scope_of l.scope.variables.items)
    ≡ find (λ (v : ScopeVariable). v.number == l.number) (map in_scope_of (drop l.v-index l.scope.variables.items))
