-- Programs of worked examples: barriers, broadcasts and exchanges.
use Rattle.std.specs.Prelude.{pos, true, false, [], ◌∷◌, None, codes}
use Rattle.ti_syntax.specs.declared.tree.exprs.BinaryOperator.TheVariants as op
use Rattle.ti_lang.specs.Program.Types as t
use Rattle.ti_lang.specs.Program.Expressions as e
use Rattle.ti_lang.specs.Program.Statements as s
use Rattle.ti_lang.specs.Program.Classes as c
use Rattle.ti_lang.specs.Meaning.Processes.{RunConfig}
use Rattle.ti_rows.specs.Texts.{pl, nonsingle_type, single, var, single_var, each_var, xs, stms, class_with_fields, field, single_method, text, main_only_run}

-- class Main { public static single void main(String[] args) { println(Ti.thisProc()); Ti.barrier(); println(Ti.numProcs()); } }
abbrev pub barriers : RunConfig
barriers = main_only_run 2 100000 [] ((s.Print (pl 1 62) (s.Expression (e.ThisProc (pl 1 70)))) ∷ (s.Barrier (pl 1 89)) ∷
    (s.Print (pl 1 100) (s.Expression (e.NumProcs (pl 1 108)))) ∷ []) (pl 1 124)

-- class Main { public static single void main(String[] args) { int single k = 0; while (true) { Ti.barrier(); k = k + 1; if (k == 3) break;
-- } println(k); } }
abbrev pub a_break_under_a_single_condition : RunConfig
a_break_under_a_single_condition = main_only_run 2 100000 [] ((s.Declare (pl 1 73) (single t.Int) 0 (s.Value (e.Int (pl 1 77) (pos 0)))) ∷
    (s.While (pl 1 80) (e.Truth (pl 1 87) true) (s.Block (stms ((s.Barrier (pl 1 98)) ∷
    (s.Assign (pl 1 111) (single_var (pl 1 109) 0 t.Int) (s.Value
    (e.Binary (pl 1 115) op.Add (single_var (pl 1 113) 0 t.Int) (e.Int (pl 1 117) (pos 1))))) ∷
    (s.If (pl 1 120) (e.Binary (pl 1 126) op.Equal (single_var (pl 1 124) 0 t.Int) (e.Int (pl 1 129) (pos 3))) (s.Break (pl 1 132))) ∷
    [])))) ∷ (s.Print (pl 1 141) (s.Expression (single_var (pl 1 149) 0 t.Int))) ∷ []) (pl 1 153)

-- class Main { public static single void main(String[] args) { int single k = broadcast Ti.thisProc() + 5 from 1; while (k > 0) {
-- Ti.barrier(); k = k - 2; } println(k); } }
abbrev pub a_broadcast_decides_a_loop : RunConfig
a_broadcast_decides_a_loop = main_only_run 3 100000 [] ((s.Declare (pl 1 73) (single t.Int) 0
    (s.Broadcast (pl 1 77) (e.Binary (pl 1 101) op.Add (e.ThisProc (pl 1 87)) (e.Int (pl 1 103) (pos 5))) (e.Int (pl 1 110) (pos 1)))) ∷
    (s.While (pl 1 113) (e.Binary (pl 1 122) op.Greater (single_var (pl 1 120) 0 t.Int) (e.Int (pl 1 124) (pos 0)))
    (s.Block (stms ((s.Barrier (pl 1 132)) ∷ (s.Assign (pl 1 145) (single_var (pl 1 143) 0 t.Int)
    (s.Value (e.Binary (pl 1 149) op.Subtract (single_var (pl 1 147) 0 t.Int) (e.Int (pl 1 151) (pos 2))))) ∷ [])))) ∷
    (s.Print (pl 1 156) (s.Expression (single_var (pl 1 164) 0 t.Int))) ∷ []) (pl 1 168)

-- class C { int v; } class Main { public static single void main(String[] args) { C x = new C(); C y = broadcast x from 1; println(y == x);
-- } }
abbrev pub a_broadcast_of_a_reference : RunConfig
a_broadcast_of_a_reference = text 2 100000 (class_with_fields (field t.Int 11 ∷ []) ∷ class_with_fields [] ∷ [])
    (single_method 1 c.Void 12 c.MainArgs ((s.Declare (pl 1 83) (nonsingle_type (t.Class 0 false)) 0 (s.NewObject (pl 1 87) None 0)) ∷
    (s.Declare (pl 1 98) (nonsingle_type (t.Class 0 false)) 1 (s.Broadcast (pl 1 102) (var (pl 1 112) 0 (t.Class 0 false))
    (e.Int (pl 1 119) (pos 1)))) ∷ (s.Print (pl 1 122) (s.Expression
    (e.Binary (pl 1 132) op.Equal (var (pl 1 130) 1 (t.Class 0 false)) (var (pl 1 135) 0 (t.Class 0 false))))) ∷ []) (pl 1 139) ∷ []) 0
    ((codes "v") ∷ (codes "main") ∷ []) []

-- class Main { public static single void main(String[] args) { foreach (p in [[0, 0]:[0, 1]]) { Point<2> single q = broadcast p +
-- [Ti.thisProc(), 0] from 1; println(q); } } }
abbrev pub a_broadcast_of_a_foreach_variable : RunConfig
a_broadcast_of_a_foreach_variable = main_only_run 2 100000 [] ((s.Foreach (pl 1 62) 0
    (e.Rect (pl 1 76) (e.numbered_ranges (e.Plain (e.Point (pl 1 77) (xs ((e.Int (pl 1 78) (pos 0)) ∷ (e.Int (pl 1 81) (pos 0)) ∷ [])))
    (e.Point (pl 1 84) (xs ((e.Int (pl 1 85) (pos 0)) ∷ (e.Int (pl 1 88) (pos 1)) ∷ []))) ∷ [])))
    (s.Block (stms ((s.Declare (pl 1 111) (single (t.Pt 2)) 1 (s.Broadcast (pl 1 115)
    (e.Binary (pl 1 127) op.Add (each_var (pl 1 125) 0) (e.Point (pl 1 129)
    (xs ((e.ThisProc (pl 1 130)) ∷ (e.Int (pl 1 145) (pos 0)) ∷ [])))) (e.Int (pl 1 153) (pos 1)))) ∷
    (s.Print (pl 1 156) (s.Expression (single_var (pl 1 164) 1 (t.Pt 2)))) ∷ [])))) ∷ []) (pl 1 170)

-- class Main { public static single void main(String[] args) { foreach (p in [0:Ti.numProcs()]) Ti.barrier(); } }
abbrev pub a_barrier_in_a_foreach : RunConfig
a_barrier_in_a_foreach = main_only_run 2 100000 [] ((s.Foreach (pl 1 62) 0
    (e.Rect (pl 1 76) (e.numbered_ranges (e.Plain (e.Int (pl 1 77) (pos 0)) (e.NumProcs (pl 1 79)) ∷ []))) (s.Barrier (pl 1 98))) ∷ [])
    (pl 1 109)

-- class Main { public static single void main(String[] args) { int single k = broadcast 1 from 3; } }
abbrev pub a_root_that_is_no_process : RunConfig
a_root_that_is_no_process = main_only_run 3 100000 [] ((s.Declare (pl 1 73) (single t.Int) 0
    (s.Broadcast (pl 1 77) (e.Int (pl 1 87) (pos 1)) (e.Int (pl 1 94) (pos 3)))) ∷ []) (pl 1 97)

-- class Main { public static single void main(String[] args) { int single n = Ti.numProcs(); int [1d] a = new int [0:1]; a[0] =
-- Ti.thisProc() * 10; int [1d] [1d] all = new int [0:n - 1] [1d]; all.exchange(a); Ti.barrier(); println(all[(Ti.thisProc() + 1) % n][0]);
-- } }
abbrev pub an_exchange : RunConfig
an_exchange = main_only_run 2 100000 [] ((s.Declare (pl 1 73) (single t.Int) 0 (s.Value (e.NumProcs (pl 1 77)))) ∷
    (s.Declare (pl 1 101) (nonsingle_type (t.Grid t.Int 1 false)) 1 (s.NewGrid (pl 1 105) None (nonsingle_type t.Int) (pl 1 113)
    (s.Ranges (e.Plain (e.Int (pl 1 114) (pos 0)) (e.Int (pl 1 116) (pos 1)) ∷ [])))) ∷
    (s.Assign (pl 1 125) (e.Index (pl 1 121) (var (pl 1 120) 1 (t.Grid t.Int 1 false)) (xs ((e.Int (pl 1 122) (pos 0)) ∷ [])))
    (s.Value (e.Binary (pl 1 141) op.Multiply (e.ThisProc (pl 1 127)) (e.Int (pl 1 143) (pos 10))))) ∷
    (s.Declare (pl 1 161) (nonsingle_type (t.Grid (t.Grid t.Int 1 false) 1 false)) 2
    (s.NewGrid (pl 1 167) None (nonsingle_type (t.Grid t.Int 1 false)) (pl 1 175)
    (s.Ranges (e.Plain (e.Int (pl 1 176) (pos 0)) (e.Binary (pl 1 180) op.Subtract (single_var (pl 1 178) 0 t.Int)
    (e.Int (pl 1 182) (pos 1))) ∷ [])))) ∷ (s.Call (e.Member (pl 1 195) (var (pl 1 191) 2 (t.Grid (t.Grid t.Int 1 false) 1 false)) 9
    (xs ((var (pl 1 204) 1 (t.Grid t.Int 1 false)) ∷ [])))) ∷ (s.Barrier (pl 1 211)) ∷
    (s.Print (pl 1 222) (s.Expression (e.Index (pl 1 258) (e.Index (pl 1 233) (var (pl 1 230) 2 (t.Grid (t.Grid t.Int 1 false) 1 false))
    (xs ((e.Binary (pl 1 254) op.Remainder (e.Binary (pl 1 249) op.Add (e.ThisProc (pl 1 235)) (e.Int (pl 1 251) (pos 1)))
    (single_var (pl 1 256) 0 t.Int)) ∷ []))) (xs ((e.Int (pl 1 259) (pos 0)) ∷ []))))) ∷ []) (pl 1 264)

-- class Main { public static single void main(String[] args) { long [1d] a = new long [0:Ti.numProcs() - 1]; a.exchange(Ti.thisProc());
-- println(a[1]); } }
abbrev pub an_exchange_widens : RunConfig
an_exchange_widens = main_only_run 2 100000 [] ((s.Declare (pl 1 72) (nonsingle_type (t.Grid t.Long 1 false)) 0
    (s.NewGrid (pl 1 76) None (nonsingle_type t.Long) (pl 1 85) (s.Ranges
    (e.Plain (e.Int (pl 1 86) (pos 0)) (e.Binary (pl 1 102) op.Subtract (e.NumProcs (pl 1 88)) (e.Int (pl 1 104) (pos 1))) ∷ [])))) ∷
    (s.Call (e.Member (pl 1 110) (var (pl 1 108) 0 (t.Grid t.Long 1 false)) 9 (xs ((e.ThisProc (pl 1 119)) ∷ [])))) ∷
    (s.Print (pl 1 135) (s.Expression (e.Index (pl 1 144) (var (pl 1 143) 0 (t.Grid t.Long 1 false))
    (xs ((e.Int (pl 1 145) (pos 1)) ∷ []))))) ∷ []) (pl 1 150)

-- class Main { public static single void main(String[] args) { int [1d] a = new int [0:1]; a.exchange(1); } }
abbrev pub an_exchange_into_another_size : RunConfig
an_exchange_into_another_size = main_only_run 1 100000 [] ((s.Declare (pl 1 71) (nonsingle_type (t.Grid t.Int 1 false)) 0
    (s.NewGrid (pl 1 75) None (nonsingle_type t.Int) (pl 1 83) (s.Ranges (e.Plain (e.Int (pl 1 84) (pos 0)) (e.Int (pl 1 86) (pos 1)) ∷ [])))) ∷
    (s.Call (e.Member (pl 1 92) (var (pl 1 90) 0 (t.Grid t.Int 1 false)) 9 (xs ((e.Int (pl 1 101) (pos 1)) ∷ [])))) ∷ []) (pl 1 105)
