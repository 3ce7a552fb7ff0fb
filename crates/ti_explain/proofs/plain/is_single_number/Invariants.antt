use Rattle.std.proofs.Common.{◌≡◌, ◌==◌, map, drop, find, false}
use Rattle.std.specs.Option.{option_map_or}
use Rattle.ti_lang.specs.Program.Scope.{ScopeVariable, in_scope_of, contents_of}
use Rattle.ti_rules.specs.StmtInContext.{singles_in}
use Rattle.ti_explain.proofs.plain.is_single_number.Given as goal

abbrev pub invariant-loop-v : goal.invariant-loop-v
invariant-loop-v l =
    singles_in (contents_of l.scope) l.number
    ≡ option_map_or (λ (v : ScopeVariable). v.is_single) (find (λ (v : ScopeVariable). v.number == l.number) (map in_scope_of (drop l.v-index l.scope.variables.items))) false
