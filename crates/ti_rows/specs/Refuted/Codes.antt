-- Bytecode that prints at the place at which a program does, and bytecode that doesn't follow the program.
use Rattle.std.specs.Prelude.{ℕ, pos, true, false, List, [], ◌∷◌, None, Some}
use Rattle.ti_base.specs.declared.value.Value.TheVariants as v
use Rattle.ti_base.specs.declared.action.Action.TheVariants as act
use Rattle.ti_base.specs.declared.entry.Next.{Next}
use Rattle.ti_base.specs.declared.entry.Next.TheVariants as next
use Rattle.ti_code.specs.declared.instr.Instr.{Instr}
use Rattle.ti_code.specs.declared.instr.Instr.TheVariants as i
use Rattle.ti_code.specs.Effects.{LocalState}
use Rattle.ti_code.specs.Programs.{Code}
use Rattle.ti_machine.specs.ProcView.{ProcView}
use Rattle.ti_rows.specs.Texts.{pl}

-- bytecode with a method `main` only, which has these instructions
abbrev main_of : List Instr → Code
main_of instrs = record { methods = record { instance = false; params = 0; instrs = instrs } ∷ []; main = 0 }

-- prints 7, for a print at this column, and ends
abbrev pub prints_at : ℕ → Code
prints_at column = main_of (i.Const (v.Int (pos 7)) ∷ i.Print None true (pl 1 column) ∷ i.Stop (pl 1 74) ∷ [])

-- ends at once
abbrev pub stops : Code
stops = main_of (i.Stop (pl 1 74) ∷ [])

-- the print of 7
abbrev pub the_print : Next
the_print = next.Act (pl 1 62) (act.Print None (Some (v.Int (pos 7))))

-- the end of the program
abbrev pub the_end : Next
the_end = next.End (pl 1 74)

-- the first of two processes of the bytecode, before its first answer
abbrev pub standing_view : Code → ProcView
standing_view code = record { code = code; procs = 2; fuel = 1000; number = 0; answers = []; asks = false }

-- ---- expressions

-- pushes a number
abbrev pub pushes : ℕ → List Instr
pushes n = i.Const (v.Int (pos n)) ∷ []

-- the frame state before the first instruction, without slots and operands
abbrev pub start : LocalState
start = record { at = 0; slots = []; stack = [] }
