-- Programs of worked examples: blocks, loops and jumps.
use Rattle.std.specs.Prelude.{pos, true, [], ◌∷◌, None, Some}
use Rattle.ti_syntax.specs.declared.tree.exprs.BinaryOperator.TheVariants as op
use Rattle.ti_syntax.specs.declared.tree.stmts.StepOperator.TheVariants.{Increment, Decrement}
use Rattle.ti_lang.specs.Program.Types as t
use Rattle.ti_lang.specs.Program.Expressions as e
use Rattle.ti_lang.specs.Program.Statements as s
use Rattle.ti_lang.specs.Meaning.Processes.{RunConfig}
use Rattle.ti_rows.specs.Texts.{pl, nonsingle_type, var, each_var, xs, stms, main_only_run}

-- class Main { public static single void main(String[] args) { { int x = 1; println(x); } { int x = 2; println(x); } int x = 3; println(x);
-- } }
abbrev pub blocks : RunConfig
blocks = main_only_run 1 100000 [] ((s.Block (stms ((s.Declare (pl 1 68) (nonsingle_type t.Int) 0 (s.Value (e.Int (pl 1 72) (pos 1)))) ∷
    (s.Print (pl 1 75) (s.Expression (var (pl 1 83) 0 t.Int))) ∷ []))) ∷
    (s.Block (stms ((s.Declare (pl 1 95) (nonsingle_type t.Int) 1 (s.Value (e.Int (pl 1 99) (pos 2)))) ∷
    (s.Print (pl 1 102) (s.Expression (var (pl 1 110) 1 t.Int))) ∷ []))) ∷
    (s.Declare (pl 1 120) (nonsingle_type t.Int) 2 (s.Value (e.Int (pl 1 124) (pos 3)))) ∷
    (s.Print (pl 1 127) (s.Expression (var (pl 1 135) 2 t.Int))) ∷ []) (pl 1 139)

-- class Main { public static single void main(String[] args) { for (int i = 0; i < 2; i++) { int j = i * 2; println(j); } for (int i = 5; i
-- > 4; i--) println(i); int k = 2; while (k > 0) { k -= 1; ; } println(k); } }
abbrev pub loops : RunConfig
loops = main_only_run 1 100000 [] ((s.For (pl 1 62) (s.SomeStm (s.Declare (pl 1 71) (nonsingle_type t.Int) 0 (s.Value (e.Int (pl 1 75) (pos 0)))))
    (Some (e.Binary (pl 1 80) op.Less (var (pl 1 78) 0 t.Int) (e.Int (pl 1 82) (pos 2))))
    (s.SomeStm (s.Step (pl 1 86) Increment (var (pl 1 85) 0 t.Int)))
    (s.Block (stms ((s.Declare (pl 1 96) (nonsingle_type t.Int) 1 (s.Value
    (e.Binary (pl 1 102) op.Multiply (var (pl 1 100) 0 t.Int) (e.Int (pl 1 104) (pos 2))))) ∷
    (s.Print (pl 1 107) (s.Expression (var (pl 1 115) 1 t.Int))) ∷ [])))) ∷
    (s.For (pl 1 121) (s.SomeStm (s.Declare (pl 1 130) (nonsingle_type t.Int) 2 (s.Value (e.Int (pl 1 134) (pos 5)))))
    (Some (e.Binary (pl 1 139) op.Greater (var (pl 1 137) 2 t.Int) (e.Int (pl 1 141) (pos 4))))
    (s.SomeStm (s.Step (pl 1 145) Decrement (var (pl 1 144) 2 t.Int))) (s.Print (pl 1 149) (s.Expression (var (pl 1 157) 2 t.Int)))) ∷
    (s.Declare (pl 1 165) (nonsingle_type t.Int) 3 (s.Value (e.Int (pl 1 169) (pos 2)))) ∷
    (s.While (pl 1 172) (e.Binary (pl 1 181) op.Greater (var (pl 1 179) 3 t.Int) (e.Int (pl 1 183) (pos 0)))
    (s.Block (stms ((s.Update (pl 1 190) op.Subtract (var (pl 1 188) 3 t.Int) (e.Int (pl 1 193) (pos 1))) ∷ s.Empty ∷ [])))) ∷
    (s.Print (pl 1 200) (s.Expression (var (pl 1 208) 3 t.Int))) ∷ []) (pl 1 212)

-- class Main { public static single void main(String[] args) { for (int i = 0; i < 5; i++) { if (i == 1) continue; if (i == 3) break;
-- println(i); } Ti.barrier(); } }
abbrev pub jumps : RunConfig
jumps = main_only_run 1 100000 [] ((s.For (pl 1 62) (s.SomeStm (s.Declare (pl 1 71) (nonsingle_type t.Int) 0 (s.Value (e.Int (pl 1 75) (pos 0)))))
    (Some (e.Binary (pl 1 80) op.Less (var (pl 1 78) 0 t.Int) (e.Int (pl 1 82) (pos 5))))
    (s.SomeStm (s.Step (pl 1 86) Increment (var (pl 1 85) 0 t.Int)))
    (s.Block (stms ((s.If (pl 1 92) (e.Binary (pl 1 98) op.Equal (var (pl 1 96) 0 t.Int) (e.Int (pl 1 101) (pos 1)))
    (s.Continue (pl 1 104))) ∷ (s.If (pl 1 114) (e.Binary (pl 1 120) op.Equal (var (pl 1 118) 0 t.Int) (e.Int (pl 1 123) (pos 3)))
    (s.Break (pl 1 126))) ∷ (s.Print (pl 1 133) (s.Expression (var (pl 1 141) 0 t.Int))) ∷ [])))) ∷ (s.Barrier (pl 1 150)) ∷ [])
    (pl 1 161)

-- class Main { public static single void main(String[] args) { foreach (p in [0:9]) { if (p[1] == 2) continue; if (p[1] == 5) break;
-- println(p[1]); } int q = 7; println(q); } }
abbrev pub jumps_in_foreach : RunConfig
jumps_in_foreach = main_only_run 1 100000 [] ((s.Foreach (pl 1 62) 0 (e.Rect (pl 1 76)
    (e.numbered_ranges (e.Plain (e.Int (pl 1 77) (pos 0)) (e.Int (pl 1 79) (pos 9)) ∷ [])))
    (s.Block (stms ((s.If (pl 1 85) (e.Binary (pl 1 94) op.Equal
    (e.Index (pl 1 90) (each_var (pl 1 89) 0) (xs ((e.Int (pl 1 91) (pos 1)) ∷ []))) (e.Int (pl 1 97) (pos 2))) (s.Continue (pl 1 100))) ∷
    (s.If (pl 1 110) (e.Binary (pl 1 119) op.Equal (e.Index (pl 1 115) (each_var (pl 1 114) 0) (xs ((e.Int (pl 1 116) (pos 1)) ∷ [])))
    (e.Int (pl 1 122) (pos 5))) (s.Break (pl 1 125))) ∷ (s.Print (pl 1 132)
    (s.Expression (e.Index (pl 1 141) (each_var (pl 1 140) 0) (xs ((e.Int (pl 1 142) (pos 1)) ∷ []))))) ∷ [])))) ∷
    (s.Declare (pl 1 153) (nonsingle_type t.Int) 1 (s.Value (e.Int (pl 1 157) (pos 7)))) ∷
    (s.Print (pl 1 160) (s.Expression (var (pl 1 168) 1 t.Int))) ∷ []) (pl 1 172)

-- class Main { public static single void main(String[] args) { for (;;) { break; } println(); } }
abbrev pub an_endless_loop_is_left : RunConfig
an_endless_loop_is_left = main_only_run 1 100000 [] ((s.For (pl 1 62) s.NoStm None s.NoStm (s.Block (stms ((s.Break (pl 1 73)) ∷ [])))) ∷
    (s.Print (pl 1 82) s.Nothing) ∷ []) (pl 1 93)

-- class Main { public static single void main(String[] args) { int i = 0; while (true) { i = i + 1; } } }
abbrev pub fuel_in_a_loop : RunConfig
fuel_in_a_loop = main_only_run 1 12 [] ((s.Declare (pl 1 66) (nonsingle_type t.Int) 0 (s.Value (e.Int (pl 1 70) (pos 0)))) ∷
    (s.While (pl 1 73) (e.Truth (pl 1 80) true) (s.Block (stms ((s.Assign (pl 1 90) (var (pl 1 88) 0 t.Int)
    (s.Value (e.Binary (pl 1 94) op.Add (var (pl 1 92) 0 t.Int) (e.Int (pl 1 96) (pos 1))))) ∷ [])))) ∷ []) (pl 1 101)
