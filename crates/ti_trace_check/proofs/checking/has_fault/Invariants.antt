use Rattle.std.proofs.Common.{◌≡◌}
use Rattle.ti_lang.specs.Meaning.Histories.{has_fault}
use Rattle.ti_trace_check.proofs.checking.has_fault.Given as goal

-- the entries so far are no faults
abbrev pub invariant-entries : goal.invariant-entries
invariant-entries l = has_fault l.history.items ≡ has_fault l.entry-iterator
