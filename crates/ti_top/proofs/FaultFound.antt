-- The fault that a run ended with.
use Rattle.std.proofs.Common.{◌≡◌, ℕ, Option, Some, None, sym, subst}
use Rattle.std.proofs.lemmas.Option.{same_Some}
use Rattle.ti_code.specs.Programs.{Code}
use Rattle.ti_lang.specs.Meaning.Processes.{RunConfig}
use Rattle.ti_runtime.specs.declared.runner.How.TheVariants.{Faulted}
use Rattle.ti_runtime.specs.declared.runner.RunEnd.{RunEnd}
use Rattle.ti_runtime.specs.Ran.{Ran}
use Rattle.ti_top.specs.declared.fault.Fault.{Fault}
use Rattle.ti_top.specs.declared.exit.Exit.TheVariants as ending
use Rattle.ti_top.specs.Run.{EndsWithFault}
use Rattle.ti_top.specs.Mirrors.RunEnds.{RunEnds}
use Rattle.ti_top.proofs.FaultLast.{fault_is_last}

-- that of the last entry, where this is a fault
abbrev IsAtEnd : RunEnd → Option Fault → Type 0
IsAtEnd end found = (fault : Fault) → EndsWithFault end.history.items fault → found ≡ Some fault

pub run_faulted : (c : Code) (s : RunConfig) (workers : ℕ) (end : RunEnd) (fault : Fault) → Ran c s workers end → end.how ≡ Faulted
    → IsAtEnd end (Some fault) → RunEnds s end.history.items (ending.Faulted fault)
run_faulted c s workers end fault ran is found =
    let last = fault_is_last s end.history.items ran.run (ran.faulted.0 is) in
    subst (EndsWithFault end.history.items) (sym (same_Some fault last.0 (found last.0 last.1))) last.1

pub fault_found : (c : Code) (s : RunConfig) (workers : ℕ) (end : RunEnd) → Ran c s workers end → end.how ≡ Faulted → IsAtEnd end None → ⊥
fault_found c s workers end ran is found = let last = fault_is_last s end.history.items ran.run (ran.faulted.0 is) in let e = found last.0 last.1 in cc
