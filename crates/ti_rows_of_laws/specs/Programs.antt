-- Programs whose declarations can be annotated with `single`. Locations are those in the source above a program, written in one line.
use Rattle.std.specs.Prelude.{pos, [], ◌∷◌, None}
use Rattle.ti_syntax.specs.declared.tree.exprs.BinaryOperator.TheVariants as b
use Rattle.ti_lang.specs.Program.Types as ty
use Rattle.ti_lang.specs.Program.Expressions as x
use Rattle.ti_lang.specs.Program.Statements as s
use Rattle.ti_lang.specs.Program.Classes.{ProgramView}
use Rattle.ti_rows_of_laws.specs.Texts.{pl, nonsingle_type, var, main_alone}

-- class Main { public static single void main(String[] args) {
--     int k = broadcast Ti.thisProc() from 1; while (k > 0) { Ti.barrier(); k = k - 2; }
-- } }
-- the barrier is aligned if k is single
abbrev pub a_sent_number : ProgramView
a_sent_number =
    main_alone (
    s.Declare (pl 1 66) (nonsingle_type ty.Int) 0 (s.Broadcast (pl 1 70) (x.ThisProc (pl 1 80)) (x.Int (pl 1 99) (pos 1))) ∷
    s.While (pl 1 102) (x.Binary (pl 1 111) b.Greater (var (pl 1 109) 0 ty.Int) (x.Int (pl 1 113) (pos 0))) (s.Block (s.numbered_stms (
    s.Barrier (pl 1 121) ∷
    s.Assign (pl 1 134) (var (pl 1 132) 0 ty.Int)
    (s.Value (x.Binary (pl 1 138) b.Subtract (var (pl 1 136) 0 ty.Int) (x.Int (pl 1 140) (pos 2)))) ∷
    []
    ))) ∷
    []
    ) 145

-- class Main { public static single void main(String[] args) {
--     int k = Ti.thisProc(); while (k > 0) { Ti.barrier(); Ti.barrier(); k = k - 2; }
-- } }
-- neither barrier is aligned, whatever is annotated
abbrev pub an_own_number : ProgramView
an_own_number =
    main_alone (
    s.Declare (pl 1 66) (nonsingle_type ty.Int) 0 (s.Value (x.ThisProc (pl 1 70))) ∷
    s.While (pl 1 85) (x.Binary (pl 1 94) b.Greater (var (pl 1 92) 0 ty.Int) (x.Int (pl 1 96) (pos 0))) (s.Block (s.numbered_stms (
    s.Barrier (pl 1 104) ∷
    s.Barrier (pl 1 118) ∷
    s.Assign (pl 1 131) (var (pl 1 129) 0 ty.Int)
    (s.Value (x.Binary (pl 1 135) b.Subtract (var (pl 1 133) 0 ty.Int) (x.Int (pl 1 137) (pos 2)))) ∷
    []
    ))) ∷
    []
    ) 142

-- class Main { public static single void main(String[] args) { int a = 1; int b = 2; } }
-- each of the two variables can be single, and both together
abbrev pub two_numbers : ProgramView
two_numbers =
    main_alone (
    s.Declare (pl 1 66) (nonsingle_type ty.Int) 0 (s.Value (x.Int (pl 1 70) (pos 1))) ∷
    s.Declare (pl 1 77) (nonsingle_type ty.Int) 1 (s.Value (x.Int (pl 1 81) (pos 2))) ∷
    []
    ) 84

-- ---- programs that no source resolves to

-- the update of a `for` loop is a `break`
abbrev pub an_update_that_jumps : ProgramView
an_update_that_jumps = main_alone (s.For (pl 1 62) s.NoStm None (s.SomeStm (s.Break (pl 1 71))) s.Empty ∷ []) 80

-- a program without methods, and so without `main`
abbrev pub program_without_methods : ProgramView
program_without_methods = record two_numbers { methods = [] }
