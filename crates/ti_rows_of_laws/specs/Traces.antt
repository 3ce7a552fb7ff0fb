-- The trace of a run of a program that prints, and byte strings that are not the trace of a complete run of it.
use Rattle.std.specs.Prelude.{ℕ, List, [], ◌∷◌, ◌++◌, codes}
use Rattle.ti_lang.specs.Meaning.Processes.{RunConfig}
use Rattle.ti_rows.specs.Failing.{by_two}
use Rattle.ti_rows.specs.Refuted.Programs.{a_print}

-- a program that prints 7, run by two processes with 1000 ticks each
abbrev pub two_prints : RunConfig
two_prints = by_two 1000 a_print

-- a line with its terminating line feed
abbrev with_newline : List ℕ → List ℕ
with_newline bytes = bytes ++ 10 ∷ []

-- the first three lines of the trace, without the end of process 1
abbrev pub three_lines : List ℕ
three_lines =
    with_newline (codes "0 p0 1:62 print - 7 -> done") ++ with_newline (codes "1 p0 1:74 end -> done") ++ with_newline (codes "2 p1 1:62 print - 7 -> done")

-- all lines of the trace
abbrev pub all_lines : List ℕ
all_lines = three_lines ++ with_newline (codes "3 p1 1:74 end -> done")

-- a line that is not the line of any event
abbrev pub another_line : List ℕ
another_line = with_newline (codes "x")
