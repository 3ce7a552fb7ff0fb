use Rattle.std.proofs.Common.{◌≡◌, ◌++◌, drop}
use Rattle.ti_code.specs.Effects.{numbers_of}
use Rattle.ti_machine.proofs.instrs.domains.numbers_of.Given as goal

abbrev pub invariant-loop-h : goal.invariant-loop-h
invariant-loop-h l = l.found.items ++ numbers_of (drop l.h-index l.args) ≡ numbers_of l.args
