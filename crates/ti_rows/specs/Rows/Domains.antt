-- Programs of worked examples: points and domains.
use Rattle.std.specs.Prelude.{pos, [], ◌∷◌}
use Rattle.ti_syntax.specs.declared.tree.exprs.BinaryOperator.TheVariants as op
use Rattle.ti_lang.specs.Program.Types as t
use Rattle.ti_lang.specs.Program.Expressions as e
use Rattle.ti_lang.specs.Program.Statements as s
use Rattle.ti_lang.specs.Meaning.Processes.{RunConfig}
use Rattle.ti_rows.specs.Texts.{pl, nonsingle_type, var, each_var, xs, main_only_run}

-- class Main { public static single void main(String[] args) { Point<2> p = [1,2]; Point<2> q = p + [3,4]; println(q); println(p < q);
-- println(q - p); println(p == [1,2]); foreach (x in [p:q:[2,3]]) println(x); } }
abbrev pub points : RunConfig
points = main_only_run 1 100000 [] ((s.Declare (pl 1 71) (nonsingle_type (t.Pt 2)) 0
    (s.Value (e.Point (pl 1 75) (xs ((e.Int (pl 1 76) (pos 1)) ∷ (e.Int (pl 1 78) (pos 2)) ∷ []))))) ∷
    (s.Declare (pl 1 91) (nonsingle_type (t.Pt 2)) 1 (s.Value (e.Binary (pl 1 97) op.Add (var (pl 1 95) 0 (t.Pt 2))
    (e.Point (pl 1 99) (xs ((e.Int (pl 1 100) (pos 3)) ∷ (e.Int (pl 1 102) (pos 4)) ∷ [])))))) ∷
    (s.Print (pl 1 106) (s.Expression (var (pl 1 114) 1 (t.Pt 2)))) ∷
    (s.Print (pl 1 118) (s.Expression (e.Binary (pl 1 128) op.Less (var (pl 1 126) 0 (t.Pt 2)) (var (pl 1 130) 1 (t.Pt 2))))) ∷
    (s.Print (pl 1 134) (s.Expression (e.Binary (pl 1 144) op.Subtract (var (pl 1 142) 1 (t.Pt 2)) (var (pl 1 146) 0 (t.Pt 2))))) ∷
    (s.Print (pl 1 150) (s.Expression (e.Binary (pl 1 160) op.Equal (var (pl 1 158) 0 (t.Pt 2))
    (e.Point (pl 1 163) (xs ((e.Int (pl 1 164) (pos 1)) ∷ (e.Int (pl 1 166) (pos 2)) ∷ [])))))) ∷
    (s.Foreach (pl 1 171) 2 (e.Rect (pl 1 185) (e.numbered_ranges
    (e.Stepped (var (pl 1 186) 0 (t.Pt 2)) (var (pl 1 188) 1 (t.Pt 2))
    (e.Point (pl 1 190) (xs ((e.Int (pl 1 191) (pos 2)) ∷ (e.Int (pl 1 193) (pos 3)) ∷ []))) ∷ [])))
    (s.Print (pl 1 198) (s.Expression (each_var (pl 1 206) 2)))) ∷ []) (pl 1 210)

-- class Main { public static single void main(String[] args) { Point<2> p = [3, 4]; println(p[2]); println(p[3]); } }
abbrev pub a_coordinate_out_of_bounds : RunConfig
a_coordinate_out_of_bounds = main_only_run 1 100000 [] ((s.Declare (pl 1 71) (nonsingle_type (t.Pt 2)) 0
    (s.Value (e.Point (pl 1 75) (xs ((e.Int (pl 1 76) (pos 3)) ∷ (e.Int (pl 1 79) (pos 4)) ∷ []))))) ∷
    (s.Print (pl 1 83) (s.Expression (e.Index (pl 1 92) (var (pl 1 91) 0 (t.Pt 2)) (xs ((e.Int (pl 1 93) (pos 2)) ∷ []))))) ∷
    (s.Print (pl 1 98) (s.Expression (e.Index (pl 1 107) (var (pl 1 106) 0 (t.Pt 2)) (xs ((e.Int (pl 1 108) (pos 3)) ∷ []))))) ∷ [])
    (pl 1 113)

-- class Main { public static single void main(String[] args) { RectDomain<1> d = [0:10:3] * [1:10:2]; foreach (p in d) println(p[1]);
-- println(d.size()); } }
abbrev pub a_meet : RunConfig
a_meet = main_only_run 1 100000 [] ((s.Declare (pl 1 76) (nonsingle_type (t.Rc 1)) 0
    (s.Value (e.Binary (pl 1 89) op.Multiply (e.Rect (pl 1 80) (e.numbered_ranges
    (e.Stepped (e.Int (pl 1 81) (pos 0)) (e.Int (pl 1 83) (pos 10)) (e.Int (pl 1 86) (pos 3)) ∷ [])))
    (e.Rect (pl 1 91) (e.numbered_ranges (e.Stepped (e.Int (pl 1 92) (pos 1)) (e.Int (pl 1 94) (pos 10)) (e.Int (pl 1 97) (pos 2)) ∷
    [])))))) ∷ (s.Foreach (pl 1 101) 1 (var (pl 1 115) 0 (t.Rc 1))
    (s.Print (pl 1 118) (s.Expression (e.Index (pl 1 127) (each_var (pl 1 126) 1) (xs ((e.Int (pl 1 128) (pos 1)) ∷ [])))))) ∷
    (s.Print (pl 1 133) (s.Expression (e.Member (pl 1 143) (var (pl 1 141) 0 (t.Rc 1)) 0 (xs ([]))))) ∷ []) (pl 1 152)

-- class Main { public static single void main(String[] args) { Domain<1> d = ([0:5] - [0:5:2]) + [4:4]; foreach (p in d) println(p[1]); } }
abbrev pub a_difference_and_a_union : RunConfig
a_difference_and_a_union = main_only_run 1 100000 [] ((s.Declare (pl 1 72) (nonsingle_type (t.Dm 1)) 0
    (s.Value (e.Binary (pl 1 94) op.Add (e.Binary (pl 1 83) op.Subtract
    (e.Rect (pl 1 77) (e.numbered_ranges (e.Plain (e.Int (pl 1 78) (pos 0)) (e.Int (pl 1 80) (pos 5)) ∷ [])))
    (e.Rect (pl 1 85) (e.numbered_ranges (e.Stepped (e.Int (pl 1 86) (pos 0)) (e.Int (pl 1 88) (pos 5)) (e.Int (pl 1 90) (pos 2)) ∷ []))))
    (e.Rect (pl 1 96) (e.numbered_ranges (e.Plain (e.Int (pl 1 97) (pos 4)) (e.Int (pl 1 99) (pos 4)) ∷ [])))))) ∷
    (s.Foreach (pl 1 103) 1 (var (pl 1 117) 0 (t.Dm 1)) (s.Print (pl 1 120)
    (s.Expression (e.Index (pl 1 129) (each_var (pl 1 128) 1) (xs ((e.Int (pl 1 130) (pos 1)) ∷ [])))))) ∷ []) (pl 1 135)

-- class Main { public static single void main(String[] args) { Domain<1> d = [0:3] + [5:6]; println(d == [0:3]); RectDomain<1> e = [0:3:2];
-- println(e == [0:2:2]); println(d.contains([5])); println(d != d); } }
abbrev pub equal_domains : RunConfig
equal_domains = main_only_run 1 100000 [] ((s.Declare (pl 1 72) (nonsingle_type (t.Dm 1)) 0
    (s.Value (e.Binary (pl 1 82) op.Add (e.Rect (pl 1 76) (e.numbered_ranges
    (e.Plain (e.Int (pl 1 77) (pos 0)) (e.Int (pl 1 79) (pos 3)) ∷ [])))
    (e.Rect (pl 1 84) (e.numbered_ranges (e.Plain (e.Int (pl 1 85) (pos 5)) (e.Int (pl 1 87) (pos 6)) ∷ [])))))) ∷
    (s.Print (pl 1 91) (s.Expression (e.Binary (pl 1 101) op.Equal (var (pl 1 99) 0 (t.Dm 1))
    (e.Rect (pl 1 104) (e.numbered_ranges (e.Plain (e.Int (pl 1 105) (pos 0)) (e.Int (pl 1 107) (pos 3)) ∷ [])))))) ∷
    (s.Declare (pl 1 126) (nonsingle_type (t.Rc 1)) 1 (s.Value (e.Rect (pl 1 130)
    (e.numbered_ranges (e.Stepped (e.Int (pl 1 131) (pos 0)) (e.Int (pl 1 133) (pos 3)) (e.Int (pl 1 135) (pos 2)) ∷ []))))) ∷
    (s.Print (pl 1 139) (s.Expression (e.Binary (pl 1 149) op.Equal (var (pl 1 147) 1 (t.Rc 1))
    (e.Rect (pl 1 152) (e.numbered_ranges (e.Stepped (e.Int (pl 1 153) (pos 0)) (e.Int (pl 1 155) (pos 2)) (e.Int (pl 1 157) (pos 2)) ∷
    [])))))) ∷ (s.Print (pl 1 162) (s.Expression (e.Member (pl 1 172) (var (pl 1 170) 0 (t.Dm 1)) 3
    (xs ((e.Point (pl 1 181) (xs ((e.Int (pl 1 182) (pos 5)) ∷ []))) ∷ []))))) ∷
    (s.Print (pl 1 188) (s.Expression (e.Binary (pl 1 198) op.NotEqual (var (pl 1 196) 0 (t.Dm 1)) (var (pl 1 201) 0 (t.Dm 1))))) ∷ [])
    (pl 1 205)

-- class Main { public static single void main(String[] args) { RectDomain<2> r = [0:9:4, 3:5]; println(r.min()); println(r.max());
-- println(r.size()); } }
abbrev pub least_and_greatest : RunConfig
least_and_greatest = main_only_run 1 100000 [] ((s.Declare (pl 1 76) (nonsingle_type (t.Rc 2)) 0
    (s.Value (e.Rect (pl 1 80) (e.numbered_ranges (e.Stepped (e.Int (pl 1 81) (pos 0)) (e.Int (pl 1 83) (pos 9))
    (e.Int (pl 1 85) (pos 4)) ∷ e.Plain (e.Int (pl 1 88) (pos 3)) (e.Int (pl 1 90) (pos 5)) ∷ []))))) ∷
    (s.Print (pl 1 94) (s.Expression (e.Member (pl 1 104) (var (pl 1 102) 0 (t.Rc 2)) 1 (xs ([]))))) ∷
    (s.Print (pl 1 112) (s.Expression (e.Member (pl 1 122) (var (pl 1 120) 0 (t.Rc 2)) 2 (xs ([]))))) ∷
    (s.Print (pl 1 130) (s.Expression (e.Member (pl 1 140) (var (pl 1 138) 0 (t.Rc 2)) 0 (xs ([]))))) ∷ []) (pl 1 149)

-- class Main { public static single void main(String[] args) { RectDomain<1> e = [0:4:2] * [1:5:2]; println(e.min()[1]); } }
abbrev pub the_least_point_of_no_points : RunConfig
the_least_point_of_no_points = main_only_run 1 100000 [] ((s.Declare (pl 1 76) (nonsingle_type (t.Rc 1)) 0
    (s.Value (e.Binary (pl 1 88) op.Multiply (e.Rect (pl 1 80) (e.numbered_ranges
    (e.Stepped (e.Int (pl 1 81) (pos 0)) (e.Int (pl 1 83) (pos 4)) (e.Int (pl 1 85) (pos 2)) ∷ [])))
    (e.Rect (pl 1 90) (e.numbered_ranges (e.Stepped (e.Int (pl 1 91) (pos 1)) (e.Int (pl 1 93) (pos 5)) (e.Int (pl 1 95) (pos 2)) ∷
    [])))))) ∷ (s.Print (pl 1 99) (s.Expression (e.Index (pl 1 114) (e.Member (pl 1 109) (var (pl 1 107) 0 (t.Rc 1)) 1 (xs ([])))
    (xs ((e.Int (pl 1 115) (pos 1)) ∷ []))))) ∷ []) (pl 1 120)

-- class Main { public static single void main(String[] args) { RectDomain<1> r = [0:3:0]; } }
abbrev pub a_bad_stride : RunConfig
a_bad_stride = main_only_run 1 100000 [] ((s.Declare (pl 1 76) (nonsingle_type (t.Rc 1)) 0
    (s.Value (e.Rect (pl 1 80) (e.numbered_ranges (e.Stepped (e.Int (pl 1 81) (pos 0)) (e.Int (pl 1 83) (pos 3))
    (e.Int (pl 1 85) (pos 0)) ∷ []))))) ∷ []) (pl 1 89)

-- class Main { public static single void main(String[] args) { println([0:1290, 0:1290, 0:1290].size()); } }
abbrev pub too_many_points_to_count : RunConfig
too_many_points_to_count = main_only_run 1 100000 [] ((s.Print (pl 1 62)
    (s.Expression (e.Member (pl 1 95) (e.Rect (pl 1 70) (e.numbered_ranges
    (e.Plain (e.Int (pl 1 71) (pos 0)) (e.Int (pl 1 73) (pos 1290)) ∷ e.Plain (e.Int (pl 1 79) (pos 0)) (e.Int (pl 1 81) (pos 1290)) ∷
    e.Plain (e.Int (pl 1 87) (pos 0)) (e.Int (pl 1 89) (pos 1290)) ∷ []))) 0 (xs ([]))))) ∷ []) (pl 1 104)

-- class Main { public static single void main(String[] args) { Domain<3> d = [0:101, 0:101, 0:101]; } }
abbrev pub too_many_points_for_a_domain : RunConfig
too_many_points_for_a_domain = main_only_run 1 100000 [] ((s.Declare (pl 1 72) (nonsingle_type (t.Dm 3)) 0
    (s.Value (e.Rect (pl 1 76) (e.numbered_ranges (e.Plain (e.Int (pl 1 77) (pos 0)) (e.Int (pl 1 79) (pos 101)) ∷
    e.Plain (e.Int (pl 1 84) (pos 0)) (e.Int (pl 1 86) (pos 101)) ∷ e.Plain (e.Int (pl 1 91) (pos 0)) (e.Int (pl 1 93) (pos 101)) ∷
    []))))) ∷ []) (pl 1 99)
