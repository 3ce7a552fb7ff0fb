-- Programs of worked examples: grids, views and copies.
use Rattle.std.specs.Prelude.{pos, false, [], ◌∷◌, None}
use Rattle.ti_syntax.specs.declared.tree.exprs.BinaryOperator.TheVariants as op
use Rattle.ti_syntax.specs.declared.tree.stmts.StepOperator.TheVariants.{Increment}
use Rattle.ti_lang.specs.Program.Types as t
use Rattle.ti_lang.specs.Program.Expressions as e
use Rattle.ti_lang.specs.Program.Statements as s
use Rattle.ti_lang.specs.Meaning.Processes.{RunConfig}
use Rattle.ti_rows.specs.Texts.{pl, nonsingle_type, var, each_var, xs, stms, main_only_run}

-- class Main { public static single void main(String[] args) { int [1d] a = new int [0:3]; int i = 0; a[i] += 5; i++; a[i] -= 2;
-- println(a[0] + a[1]); } }
abbrev pub elements : RunConfig
elements = main_only_run 1 100000 [] ((s.Declare (pl 1 71) (nonsingle_type (t.Grid t.Int 1 false)) 0
    (s.NewGrid (pl 1 75) None (nonsingle_type t.Int) (pl 1 83) (s.Ranges (e.Plain (e.Int (pl 1 84) (pos 0)) (e.Int (pl 1 86) (pos 3)) ∷ [])))) ∷
    (s.Declare (pl 1 94) (nonsingle_type t.Int) 1 (s.Value (e.Int (pl 1 98) (pos 0)))) ∷
    (s.Update (pl 1 106) op.Add (e.Index (pl 1 102) (var (pl 1 101) 0 (t.Grid t.Int 1 false)) (xs ((var (pl 1 103) 1 t.Int) ∷ [])))
    (e.Int (pl 1 109) (pos 5))) ∷ (s.Step (pl 1 113) Increment (var (pl 1 112) 1 t.Int)) ∷
    (s.Update (pl 1 122) op.Subtract (e.Index (pl 1 118) (var (pl 1 117) 0 (t.Grid t.Int 1 false)) (xs ((var (pl 1 119) 1 t.Int) ∷ [])))
    (e.Int (pl 1 125) (pos 2))) ∷ (s.Print (pl 1 128) (s.Expression
    (e.Binary (pl 1 141) op.Add (e.Index (pl 1 137) (var (pl 1 136) 0 (t.Grid t.Int 1 false)) (xs ((e.Int (pl 1 138) (pos 0)) ∷ [])))
    (e.Index (pl 1 144) (var (pl 1 143) 0 (t.Grid t.Int 1 false)) (xs ((e.Int (pl 1 145) (pos 1)) ∷ [])))))) ∷ []) (pl 1 150)

-- class Main { public static single void main(String[] args) { int [1d] [1d] g = new int [0:1] [1d]; g[0] = new int [0:2]; g[0][1] = 4;
-- println(g[0][1]); println(g[1] == null); } }
abbrev pub grids_of_grids : RunConfig
grids_of_grids = main_only_run 1 100000 [] ((s.Declare (pl 1 76) (nonsingle_type (t.Grid (t.Grid t.Int 1 false) 1 false)) 0
    (s.NewGrid (pl 1 80) None (nonsingle_type (t.Grid t.Int 1 false)) (pl 1 88)
    (s.Ranges (e.Plain (e.Int (pl 1 89) (pos 0)) (e.Int (pl 1 91) (pos 1)) ∷ [])))) ∷
    (s.Assign (pl 1 105) (e.Index (pl 1 101) (var (pl 1 100) 0 (t.Grid (t.Grid t.Int 1 false) 1 false))
    (xs ((e.Int (pl 1 102) (pos 0)) ∷ []))) (s.NewGrid (pl 1 107) None (nonsingle_type t.Int) (pl 1 115)
    (s.Ranges (e.Plain (e.Int (pl 1 116) (pos 0)) (e.Int (pl 1 118) (pos 2)) ∷ [])))) ∷
    (s.Assign (pl 1 130) (e.Index (pl 1 126) (e.Index (pl 1 123) (var (pl 1 122) 0 (t.Grid (t.Grid t.Int 1 false) 1 false))
    (xs ((e.Int (pl 1 124) (pos 0)) ∷ []))) (xs ((e.Int (pl 1 127) (pos 1)) ∷ []))) (s.Value (e.Int (pl 1 132) (pos 4)))) ∷
    (s.Print (pl 1 135) (s.Expression (e.Index (pl 1 147) (e.Index (pl 1 144) (var (pl 1 143) 0 (t.Grid (t.Grid t.Int 1 false) 1 false))
    (xs ((e.Int (pl 1 145) (pos 0)) ∷ []))) (xs ((e.Int (pl 1 148) (pos 1)) ∷ []))))) ∷
    (s.Print (pl 1 153) (s.Expression (e.Binary (pl 1 166) op.Equal
    (e.Index (pl 1 162) (var (pl 1 161) 0 (t.Grid (t.Grid t.Int 1 false) 1 false)) (xs ((e.Int (pl 1 163) (pos 1)) ∷ [])))
    (e.Null (pl 1 169))))) ∷ []) (pl 1 176)

-- class Main { public static single void main(String[] args) { int [1d] a = new int [0:3]; a.domain(); println(1); } }
abbrev pub a_member_form_alone : RunConfig
a_member_form_alone = main_only_run 1 100000 [] ((s.Declare (pl 1 71) (nonsingle_type (t.Grid t.Int 1 false)) 0
    (s.NewGrid (pl 1 75) None (nonsingle_type t.Int) (pl 1 83) (s.Ranges (e.Plain (e.Int (pl 1 84) (pos 0)) (e.Int (pl 1 86) (pos 3)) ∷ [])))) ∷
    (s.Call (e.Member (pl 1 92) (var (pl 1 90) 0 (t.Grid t.Int 1 false)) 4 (xs ([])))) ∷
    (s.Print (pl 1 102) (s.Expression (e.Int (pl 1 110) (pos 1)))) ∷ []) (pl 1 114)

-- class Main { public static single void main(String[] args) { int [1d] a = new int [0:2]; foreach (p in a.domain()) { a[p] = p[1] * 2; }
-- int s = 0; foreach (p in a.domain()) s += a[p]; println(s); } }
abbrev pub the_domain_of_a_grid : RunConfig
the_domain_of_a_grid = main_only_run 1 100000 [] ((s.Declare (pl 1 71) (nonsingle_type (t.Grid t.Int 1 false)) 0
    (s.NewGrid (pl 1 75) None (nonsingle_type t.Int) (pl 1 83) (s.Ranges (e.Plain (e.Int (pl 1 84) (pos 0)) (e.Int (pl 1 86) (pos 2)) ∷ [])))) ∷
    (s.Foreach (pl 1 90) 1 (e.Member (pl 1 106) (var (pl 1 104) 0 (t.Grid t.Int 1 false)) 4 (xs ([])))
    (s.Block (stms ((s.Assign (pl 1 123) (e.Index (pl 1 119) (var (pl 1 118) 0 (t.Grid t.Int 1 false))
    (xs ((each_var (pl 1 120) 1) ∷ []))) (s.Value (e.Binary (pl 1 130) op.Multiply
    (e.Index (pl 1 126) (each_var (pl 1 125) 1) (xs ((e.Int (pl 1 127) (pos 1)) ∷ []))) (e.Int (pl 1 132) (pos 2))))) ∷ [])))) ∷
    (s.Declare (pl 1 141) (nonsingle_type t.Int) 2 (s.Value (e.Int (pl 1 145) (pos 0)))) ∷
    (s.Foreach (pl 1 148) 3 (e.Member (pl 1 164) (var (pl 1 162) 0 (t.Grid t.Int 1 false)) 4 (xs ([])))
    (s.Update (pl 1 176) op.Add (var (pl 1 174) 2 t.Int) (e.Index (pl 1 180) (var (pl 1 179) 0 (t.Grid t.Int 1 false))
    (xs ((each_var (pl 1 181) 3) ∷ []))))) ∷ (s.Print (pl 1 185) (s.Expression (var (pl 1 193) 2 t.Int))) ∷ []) (pl 1 197)

-- class Main { public static single void main(String[] args) { int [2d] a = new int [0:2, 0:3]; a[1,2] = 5; int [1d] b = a.slice(1, 1);
-- println(b[2]); int [2d] c = a.restrict([[1,1]:[2,2]]); println(c.domain().size()); println(c[1,2]); } }
abbrev pub grid_views : RunConfig
grid_views = main_only_run 1 100000 [] ((s.Declare (pl 1 71) (nonsingle_type (t.Grid t.Int 2 false)) 0
    (s.NewGrid (pl 1 75) None (nonsingle_type t.Int) (pl 1 83) (s.Ranges
    (e.Plain (e.Int (pl 1 84) (pos 0)) (e.Int (pl 1 86) (pos 2)) ∷ e.Plain (e.Int (pl 1 89) (pos 0)) (e.Int (pl 1 91) (pos 3)) ∷ [])))) ∷
    (s.Assign (pl 1 102) (e.Index (pl 1 96) (var (pl 1 95) 0 (t.Grid t.Int 2 false))
    (xs ((e.Int (pl 1 97) (pos 1)) ∷ (e.Int (pl 1 99) (pos 2)) ∷ []))) (s.Value (e.Int (pl 1 104) (pos 5)))) ∷
    (s.Declare (pl 1 116) (nonsingle_type (t.Grid t.Int 1 false)) 1 (s.Value
    (e.Member (pl 1 122) (var (pl 1 120) 0 (t.Grid t.Int 2 false)) 7
    (xs ((e.Int (pl 1 128) (pos 1)) ∷ (e.Int (pl 1 131) (pos 1)) ∷ []))))) ∷
    (s.Print (pl 1 135) (s.Expression (e.Index (pl 1 144) (var (pl 1 143) 1 (t.Grid t.Int 1 false))
    (xs ((e.Int (pl 1 145) (pos 2)) ∷ []))))) ∷ (s.Declare (pl 1 159) (nonsingle_type (t.Grid t.Int 2 false)) 2
    (s.Value (e.Member (pl 1 165) (var (pl 1 163) 0 (t.Grid t.Int 2 false)) 5
    (xs ((e.Rect (pl 1 174) (e.numbered_ranges (e.Plain (e.Point (pl 1 175)
    (xs ((e.Int (pl 1 176) (pos 1)) ∷ (e.Int (pl 1 178) (pos 1)) ∷ [])))
    (e.Point (pl 1 181) (xs ((e.Int (pl 1 182) (pos 2)) ∷ (e.Int (pl 1 184) (pos 2)) ∷ []))) ∷ []))) ∷ []))))) ∷
    (s.Print (pl 1 190) (s.Expression (e.Member (pl 1 209) (e.Member (pl 1 200) (var (pl 1 198) 2 (t.Grid t.Int 2 false)) 4 (xs ([]))) 0
    (xs ([]))))) ∷ (s.Print (pl 1 218) (s.Expression (e.Index (pl 1 227) (var (pl 1 226) 2 (t.Grid t.Int 2 false))
    (xs ((e.Int (pl 1 228) (pos 1)) ∷ (e.Int (pl 1 230) (pos 2)) ∷ []))))) ∷ []) (pl 1 235)

-- class Main { public static single void main(String[] args) { RectDomain<2> r = [[0,0]:[2,3]]; int [2d] a = new int [r]; int [2d] b =
-- a.translate([1,1]); b[[3,4]] = 7; println(a[2,3]); println(b[0,0]); } }
abbrev pub a_translated_view : RunConfig
a_translated_view = main_only_run 1 100000 [] ((s.Declare (pl 1 76) (nonsingle_type (t.Rc 2)) 0
    (s.Value (e.Rect (pl 1 80) (e.numbered_ranges (e.Plain (e.Point (pl 1 81)
    (xs ((e.Int (pl 1 82) (pos 0)) ∷ (e.Int (pl 1 84) (pos 0)) ∷ [])))
    (e.Point (pl 1 87) (xs ((e.Int (pl 1 88) (pos 2)) ∷ (e.Int (pl 1 90) (pos 3)) ∷ []))) ∷ []))))) ∷
    (s.Declare (pl 1 104) (nonsingle_type (t.Grid t.Int 2 false)) 1 (s.NewGrid (pl 1 108) None (nonsingle_type t.Int) (pl 1 116)
    (s.Domain (var (pl 1 117) 0 (t.Rc 2))))) ∷ (s.Declare (pl 1 130) (nonsingle_type (t.Grid t.Int 2 false)) 2
    (s.Value (e.Member (pl 1 136) (var (pl 1 134) 1 (t.Grid t.Int 2 false)) 6
    (xs ((e.Point (pl 1 146) (xs ((e.Int (pl 1 147) (pos 1)) ∷ (e.Int (pl 1 149) (pos 1)) ∷ []))) ∷ []))))) ∷
    (s.Assign (pl 1 163) (e.Index (pl 1 155) (var (pl 1 154) 2 (t.Grid t.Int 2 false))
    (xs ((e.Point (pl 1 156) (xs ((e.Int (pl 1 157) (pos 3)) ∷ (e.Int (pl 1 159) (pos 4)) ∷ []))) ∷ [])))
    (s.Value (e.Int (pl 1 165) (pos 7)))) ∷ (s.Print (pl 1 168)
    (s.Expression (e.Index (pl 1 177) (var (pl 1 176) 1 (t.Grid t.Int 2 false))
    (xs ((e.Int (pl 1 178) (pos 2)) ∷ (e.Int (pl 1 180) (pos 3)) ∷ []))))) ∷
    (s.Print (pl 1 185) (s.Expression (e.Index (pl 1 194) (var (pl 1 193) 2 (t.Grid t.Int 2 false))
    (xs ((e.Int (pl 1 195) (pos 0)) ∷ (e.Int (pl 1 197) (pos 0)) ∷ []))))) ∷ []) (pl 1 202)

-- class Main { public static single void main(String[] args) { int [1d] a = new int [0:2]; int [1d] b = a.translate([2147483647]); } }
abbrev pub a_translation_too_far : RunConfig
a_translation_too_far = main_only_run 1 100000 [] ((s.Declare (pl 1 71) (nonsingle_type (t.Grid t.Int 1 false)) 0
    (s.NewGrid (pl 1 75) None (nonsingle_type t.Int) (pl 1 83) (s.Ranges (e.Plain (e.Int (pl 1 84) (pos 0)) (e.Int (pl 1 86) (pos 2)) ∷ [])))) ∷
    (s.Declare (pl 1 99) (nonsingle_type (t.Grid t.Int 1 false)) 1 (s.Value
    (e.Member (pl 1 105) (var (pl 1 103) 0 (t.Grid t.Int 1 false)) 6
    (xs ((e.Point (pl 1 115) (xs ((e.Int (pl 1 116) (pos 2147483647)) ∷ []))) ∷ []))))) ∷ []) (pl 1 130)

-- class Main { public static single void main(String[] args) { int [2d] a = new int [0:2, 0:3]; int [1d] b = a.slice(3, 0); } }
abbrev pub a_slice_outside : RunConfig
a_slice_outside = main_only_run 1 100000 [] ((s.Declare (pl 1 71) (nonsingle_type (t.Grid t.Int 2 false)) 0
    (s.NewGrid (pl 1 75) None (nonsingle_type t.Int) (pl 1 83) (s.Ranges
    (e.Plain (e.Int (pl 1 84) (pos 0)) (e.Int (pl 1 86) (pos 2)) ∷ e.Plain (e.Int (pl 1 89) (pos 0)) (e.Int (pl 1 91) (pos 3)) ∷ [])))) ∷
    (s.Declare (pl 1 104) (nonsingle_type (t.Grid t.Int 1 false)) 1 (s.Value
    (e.Member (pl 1 110) (var (pl 1 108) 0 (t.Grid t.Int 2 false)) 7
    (xs ((e.Int (pl 1 116) (pos 3)) ∷ (e.Int (pl 1 119) (pos 0)) ∷ []))))) ∷ []) (pl 1 123)

-- class Main { public static single void main(String[] args) { int [1d] a = new int [0:1]; a[2] = 1; } }
abbrev pub a_write_outside : RunConfig
a_write_outside = main_only_run 1 100000 [] ((s.Declare (pl 1 71) (nonsingle_type (t.Grid t.Int 1 false)) 0
    (s.NewGrid (pl 1 75) None (nonsingle_type t.Int) (pl 1 83) (s.Ranges (e.Plain (e.Int (pl 1 84) (pos 0)) (e.Int (pl 1 86) (pos 1)) ∷ [])))) ∷
    (s.Assign (pl 1 95) (e.Index (pl 1 91) (var (pl 1 90) 0 (t.Grid t.Int 1 false)) (xs ((e.Int (pl 1 92) (pos 2)) ∷ [])))
    (s.Value (e.Int (pl 1 97) (pos 1)))) ∷ []) (pl 1 100)

-- class Main { public static single void main(String[] args) { int [1d] a = new int [0:3]; int [1d] b = new int [2:5]; b[2] = 7; b[3] = 8;
-- a.copy(b); println(a[2] + a[3]); println(a[0]); } }
abbrev pub a_copy : RunConfig
a_copy = main_only_run 1 100000 [] ((s.Declare (pl 1 71) (nonsingle_type (t.Grid t.Int 1 false)) 0
    (s.NewGrid (pl 1 75) None (nonsingle_type t.Int) (pl 1 83) (s.Ranges (e.Plain (e.Int (pl 1 84) (pos 0)) (e.Int (pl 1 86) (pos 3)) ∷ [])))) ∷
    (s.Declare (pl 1 99) (nonsingle_type (t.Grid t.Int 1 false)) 1 (s.NewGrid (pl 1 103) None (nonsingle_type t.Int) (pl 1 111)
    (s.Ranges (e.Plain (e.Int (pl 1 112) (pos 2)) (e.Int (pl 1 114) (pos 5)) ∷ [])))) ∷
    (s.Assign (pl 1 123) (e.Index (pl 1 119) (var (pl 1 118) 1 (t.Grid t.Int 1 false)) (xs ((e.Int (pl 1 120) (pos 2)) ∷ [])))
    (s.Value (e.Int (pl 1 125) (pos 7)))) ∷ (s.Assign (pl 1 133)
    (e.Index (pl 1 129) (var (pl 1 128) 1 (t.Grid t.Int 1 false)) (xs ((e.Int (pl 1 130) (pos 3)) ∷ [])))
    (s.Value (e.Int (pl 1 135) (pos 8)))) ∷ (s.Call (e.Member (pl 1 140) (var (pl 1 138) 0 (t.Grid t.Int 1 false)) 8
    (xs ((var (pl 1 145) 1 (t.Grid t.Int 1 false)) ∷ [])))) ∷ (s.Print (pl 1 149)
    (s.Expression (e.Binary (pl 1 162) op.Add (e.Index (pl 1 158) (var (pl 1 157) 0 (t.Grid t.Int 1 false))
    (xs ((e.Int (pl 1 159) (pos 2)) ∷ []))) (e.Index (pl 1 165) (var (pl 1 164) 0 (t.Grid t.Int 1 false))
    (xs ((e.Int (pl 1 166) (pos 3)) ∷ [])))))) ∷ (s.Print (pl 1 171)
    (s.Expression (e.Index (pl 1 180) (var (pl 1 179) 0 (t.Grid t.Int 1 false)) (xs ((e.Int (pl 1 181) (pos 0)) ∷ []))))) ∷ []) (pl 1 186)

-- class Main { public static single void main(String[] args) { int [1d] a = new int [0:1]; int [1d] b = null; a.copy(b); } }
abbrev pub a_copy_of_null : RunConfig
a_copy_of_null = main_only_run 1 100000 [] ((s.Declare (pl 1 71) (nonsingle_type (t.Grid t.Int 1 false)) 0
    (s.NewGrid (pl 1 75) None (nonsingle_type t.Int) (pl 1 83) (s.Ranges (e.Plain (e.Int (pl 1 84) (pos 0)) (e.Int (pl 1 86) (pos 1)) ∷ [])))) ∷
    (s.Declare (pl 1 99) (nonsingle_type (t.Grid t.Int 1 false)) 1 (s.Value (e.Null (pl 1 103)))) ∷
    (s.Call (e.Member (pl 1 111) (var (pl 1 109) 0 (t.Grid t.Int 1 false)) 8 (xs ((var (pl 1 116) 1 (t.Grid t.Int 1 false)) ∷ [])))) ∷ [])
    (pl 1 120)

-- class Main { public static single void main(String[] args) { int [3d] a = new int [0:101, 0:101, 0:101]; } }
abbrev pub a_grid_that_is_too_large : RunConfig
a_grid_that_is_too_large = main_only_run 1 100000 [] ((s.Declare (pl 1 71) (nonsingle_type (t.Grid t.Int 3 false)) 0
    (s.NewGrid (pl 1 75) None (nonsingle_type t.Int) (pl 1 83) (s.Ranges
    (e.Plain (e.Int (pl 1 84) (pos 0)) (e.Int (pl 1 86) (pos 101)) ∷ e.Plain (e.Int (pl 1 91) (pos 0)) (e.Int (pl 1 93) (pos 101)) ∷
    e.Plain (e.Int (pl 1 98) (pos 0)) (e.Int (pl 1 100) (pos 101)) ∷ [])))) ∷ []) (pl 1 106)
