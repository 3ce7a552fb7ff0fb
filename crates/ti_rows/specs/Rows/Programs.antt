-- Programs of worked examples: complete programs.
use Rattle.std.specs.Prelude.{pos, true, false, [], ◌∷◌, None, Some, codes}
use Rattle.ti_syntax.specs.declared.tree.exprs.BinaryOperator.TheVariants as op
use Rattle.ti_syntax.specs.declared.tree.stmts.StepOperator.TheVariants.{Increment}
use Rattle.ti_lang.specs.Program.Types as t
use Rattle.ti_lang.specs.Program.Expressions as e
use Rattle.ti_lang.specs.Program.Statements as s
use Rattle.ti_lang.specs.Meaning.Processes.{RunConfig}
use Rattle.ti_rows.specs.Texts.{pl, nonsingle_type, single, var, single_var, each_var, xs, stms, main_only_run}

-- class Main {
--   public static single void main(String[] args) {
--     int me = Ti.thisProc();
--     int single n = Ti.numProcs();
--     int [1d] local mine = new int [0:7];
--     foreach (p in mine.domain()) {
--       mine[p] = 8 * me + p[1];
--     }
--     int [1d] [1d] all = new int [0:n - 1] [1d];
--     all.exchange(mine);
--     Ti.barrier();
--     if (me == 0) {
--       int total = 0;
--       for (int q = 0; q < n; q++) {
--         int [1d] part = all[q];
--         foreach (p in part.domain()) {
--           total += part[p];
--         }
--       }
--       System.out.println("total " + total);
--     }
--   }
-- }
abbrev pub grids_are_exchanged : RunConfig
grids_are_exchanged = main_only_run 2 100000 ((codes "total ") ∷ []) ((s.Declare (pl 3 9) (nonsingle_type t.Int) 0 (s.Value (e.ThisProc (pl 3 14)))) ∷
    (s.Declare (pl 4 16) (single t.Int) 1 (s.Value (e.NumProcs (pl 4 20)))) ∷
    (s.Declare (pl 5 20) (nonsingle_type (t.Grid t.Int 1 true)) 2 (s.NewGrid (pl 5 27) None (nonsingle_type t.Int) (pl 5 35)
    (s.Ranges (e.Plain (e.Int (pl 5 36) (pos 0)) (e.Int (pl 5 38) (pos 7)) ∷ [])))) ∷
    (s.Foreach (pl 6 5) 3 (e.Member (pl 6 24) (var (pl 6 19) 2 (t.Grid t.Int 1 true)) 4 (xs ([])))
    (s.Block (stms ((s.Assign (pl 7 15) (e.Index (pl 7 11) (var (pl 7 7) 2 (t.Grid t.Int 1 true)) (xs ((each_var (pl 7 12) 3) ∷ [])))
    (s.Value (e.Binary (pl 7 24) op.Add (e.Binary (pl 7 19) op.Multiply (e.Int (pl 7 17) (pos 8)) (var (pl 7 21) 0 t.Int))
    (e.Index (pl 7 27) (each_var (pl 7 26) 3) (xs ((e.Int (pl 7 28) (pos 1)) ∷ [])))))) ∷ [])))) ∷
    (s.Declare (pl 9 19) (nonsingle_type (t.Grid (t.Grid t.Int 1 false) 1 false)) 4
    (s.NewGrid (pl 9 25) None (nonsingle_type (t.Grid t.Int 1 false)) (pl 9 33)
    (s.Ranges (e.Plain (e.Int (pl 9 34) (pos 0)) (e.Binary (pl 9 38) op.Subtract (single_var (pl 9 36) 1 t.Int)
    (e.Int (pl 9 40) (pos 1))) ∷ [])))) ∷ (s.Call (e.Member (pl 10 9) (var (pl 10 5) 4 (t.Grid (t.Grid t.Int 1 false) 1 false)) 9
    (xs ((var (pl 10 18) 2 (t.Grid t.Int 1 true)) ∷ [])))) ∷ (s.Barrier (pl 11 8)) ∷
    (s.If (pl 12 5) (e.Binary (pl 12 12) op.Equal (var (pl 12 9) 0 t.Int) (e.Int (pl 12 15) (pos 0)))
    (s.Block (stms ((s.Declare (pl 13 11) (nonsingle_type t.Int) 5 (s.Value (e.Int (pl 13 19) (pos 0)))) ∷
    (s.For (pl 14 7) (s.SomeStm (s.Declare (pl 14 16) (nonsingle_type t.Int) 6 (s.Value (e.Int (pl 14 20) (pos 0)))))
    (Some (e.Binary (pl 14 25) op.Less (var (pl 14 23) 6 t.Int) (single_var (pl 14 27) 1 t.Int)))
    (s.SomeStm (s.Step (pl 14 31) Increment (var (pl 14 30) 6 t.Int)))
    (s.Block (stms ((s.Declare (pl 15 18) (nonsingle_type (t.Grid t.Int 1 false)) 7
    (s.Value (e.Index (pl 15 28) (var (pl 15 25) 4 (t.Grid (t.Grid t.Int 1 false) 1 false)) (xs ((var (pl 15 29) 6 t.Int) ∷ []))))) ∷
    (s.Foreach (pl 16 9) 8 (e.Member (pl 16 28) (var (pl 16 23) 7 (t.Grid t.Int 1 false)) 4 (xs ([])))
    (s.Block (stms ((s.Update (pl 17 17) op.Add (var (pl 17 11) 5 t.Int)
    (e.Index (pl 17 24) (var (pl 17 20) 7 (t.Grid t.Int 1 false)) (xs ((each_var (pl 17 25) 8) ∷ [])))) ∷ [])))) ∷ [])))) ∷
    (s.Print (pl 20 18) (s.TextAndExpression 0 (var (pl 20 37) 5 t.Int))) ∷ [])))) ∷ []) (pl 22 3)

-- class Main {
--   public static single void main(String[] args) {
--     int me = Ti.thisProc();
--     int single n = Ti.numProcs();
--     int [1d] local mine = new int [0:7];
--     foreach (p in mine.domain()) {
--       mine[p] = 8 * me + p[1];
--     }
--     int [1d] [1d] all = new int [0:n - 1] [1d];
--     all.exchange(mine);
--     Ti.barrier();
--     if (me == 0) {
--       int total = 0;
--       for (int q = 0; q < n; q++) {
--         int [1d] part = all[q];
--         foreach (p in part.domain()) {
--           total += part[p];
--         }
--       }
--       System.out.println("total " + total);
--     }
--   }
-- }
abbrev pub grids_are_exchanged_by_four : RunConfig
grids_are_exchanged_by_four = main_only_run 4 100000 ((codes "total ") ∷ [])
    ((s.Declare (pl 3 9) (nonsingle_type t.Int) 0 (s.Value (e.ThisProc (pl 3 14)))) ∷
    (s.Declare (pl 4 16) (single t.Int) 1 (s.Value (e.NumProcs (pl 4 20)))) ∷
    (s.Declare (pl 5 20) (nonsingle_type (t.Grid t.Int 1 true)) 2 (s.NewGrid (pl 5 27) None (nonsingle_type t.Int) (pl 5 35)
    (s.Ranges (e.Plain (e.Int (pl 5 36) (pos 0)) (e.Int (pl 5 38) (pos 7)) ∷ [])))) ∷
    (s.Foreach (pl 6 5) 3 (e.Member (pl 6 24) (var (pl 6 19) 2 (t.Grid t.Int 1 true)) 4 (xs ([])))
    (s.Block (stms ((s.Assign (pl 7 15) (e.Index (pl 7 11) (var (pl 7 7) 2 (t.Grid t.Int 1 true)) (xs ((each_var (pl 7 12) 3) ∷ [])))
    (s.Value (e.Binary (pl 7 24) op.Add (e.Binary (pl 7 19) op.Multiply (e.Int (pl 7 17) (pos 8)) (var (pl 7 21) 0 t.Int))
    (e.Index (pl 7 27) (each_var (pl 7 26) 3) (xs ((e.Int (pl 7 28) (pos 1)) ∷ [])))))) ∷ [])))) ∷
    (s.Declare (pl 9 19) (nonsingle_type (t.Grid (t.Grid t.Int 1 false) 1 false)) 4
    (s.NewGrid (pl 9 25) None (nonsingle_type (t.Grid t.Int 1 false)) (pl 9 33)
    (s.Ranges (e.Plain (e.Int (pl 9 34) (pos 0)) (e.Binary (pl 9 38) op.Subtract (single_var (pl 9 36) 1 t.Int)
    (e.Int (pl 9 40) (pos 1))) ∷ [])))) ∷ (s.Call (e.Member (pl 10 9) (var (pl 10 5) 4 (t.Grid (t.Grid t.Int 1 false) 1 false)) 9
    (xs ((var (pl 10 18) 2 (t.Grid t.Int 1 true)) ∷ [])))) ∷ (s.Barrier (pl 11 8)) ∷
    (s.If (pl 12 5) (e.Binary (pl 12 12) op.Equal (var (pl 12 9) 0 t.Int) (e.Int (pl 12 15) (pos 0)))
    (s.Block (stms ((s.Declare (pl 13 11) (nonsingle_type t.Int) 5 (s.Value (e.Int (pl 13 19) (pos 0)))) ∷
    (s.For (pl 14 7) (s.SomeStm (s.Declare (pl 14 16) (nonsingle_type t.Int) 6 (s.Value (e.Int (pl 14 20) (pos 0)))))
    (Some (e.Binary (pl 14 25) op.Less (var (pl 14 23) 6 t.Int) (single_var (pl 14 27) 1 t.Int)))
    (s.SomeStm (s.Step (pl 14 31) Increment (var (pl 14 30) 6 t.Int)))
    (s.Block (stms ((s.Declare (pl 15 18) (nonsingle_type (t.Grid t.Int 1 false)) 7
    (s.Value (e.Index (pl 15 28) (var (pl 15 25) 4 (t.Grid (t.Grid t.Int 1 false) 1 false)) (xs ((var (pl 15 29) 6 t.Int) ∷ []))))) ∷
    (s.Foreach (pl 16 9) 8 (e.Member (pl 16 28) (var (pl 16 23) 7 (t.Grid t.Int 1 false)) 4 (xs ([])))
    (s.Block (stms ((s.Update (pl 17 17) op.Add (var (pl 17 11) 5 t.Int)
    (e.Index (pl 17 24) (var (pl 17 20) 7 (t.Grid t.Int 1 false)) (xs ((each_var (pl 17 25) 8) ∷ [])))) ∷ [])))) ∷ [])))) ∷
    (s.Print (pl 20 18) (s.TextAndExpression 0 (var (pl 20 37) 5 t.Int))) ∷ [])))) ∷ []) (pl 22 3)
