-- Programs of worked examples: shared regions.
use Rattle.std.specs.Prelude.{pos, false, [], ◌∷◌, None, Some, codes}
use Rattle.ti_syntax.specs.declared.tree.exprs.BinaryOperator.TheVariants as op
use Rattle.ti_lang.specs.Program.Types as t
use Rattle.ti_lang.specs.Program.Expressions as e
use Rattle.ti_lang.specs.Program.Statements as s
use Rattle.ti_lang.specs.Program.Classes as c
use Rattle.ti_lang.specs.Meaning.Processes.{RunConfig}
use Rattle.ti_rows.specs.Texts.{pl, nonsingle_type, single, var, single_var, xs, stms, class_with_fields, field, single_method, text, main_only_run}

-- class C { int v; } class Main { public static single void main(String[] args) { SharedRegion single r = new SharedRegion(); if
-- (Ti.numProcs() > 0) { C x = new (r) C(); x.v = Ti.thisProc(); println(x.v); } r.delete(); println(9); } }
abbrev pub a_region_is_deleted : RunConfig
a_region_is_deleted = text 2 100000 (class_with_fields (field t.Int 11 ∷ []) ∷ class_with_fields [] ∷ [])
    (single_method 1 c.Void 12 c.MainArgs ((s.Declare (pl 1 101) (single t.Region) 0 (s.NewRegion (pl 1 105))) ∷
    (s.If (pl 1 125) (e.Binary (pl 1 143) op.Greater (e.NumProcs (pl 1 129)) (e.Int (pl 1 145) (pos 0)))
    (s.Block (stms ((s.Declare (pl 1 152) (nonsingle_type (t.Class 0 false)) 1
    (s.NewObject (pl 1 156) (Some (single_var (pl 1 161) 0 t.Region)) 0)) ∷
    (s.Assign (pl 1 173) (e.Select (pl 1 171) (var (pl 1 169) 1 (t.Class 0 false)) 11) (s.Value (e.ThisProc (pl 1 175)))) ∷
    (s.Print (pl 1 190) (s.Expression (e.Select (pl 1 200) (var (pl 1 198) 1 (t.Class 0 false)) 11))) ∷ [])))) ∷
    (s.Call (e.Member (pl 1 208) (single_var (pl 1 206) 0 t.Region) 10 (xs ([])))) ∷
    (s.Print (pl 1 218) (s.Expression (e.Int (pl 1 226) (pos 9)))) ∷ []) (pl 1 230) ∷ []) 0 ((codes "v") ∷ (codes "main") ∷ []) []

-- class Main { public static single void main(String[] args) { SharedRegion single r = new SharedRegion(); SharedRegion single s = new
-- SharedRegion(); println(r == s); r.delete(); println(2); } }
abbrev pub two_regions : RunConfig
two_regions = main_only_run 2 100000 [] ((s.Declare (pl 1 82) (single t.Region) 0 (s.NewRegion (pl 1 86))) ∷
    (s.Declare (pl 1 126) (single t.Region) 1 (s.NewRegion (pl 1 130))) ∷
    (s.Print (pl 1 150) (s.Expression (e.Binary (pl 1 160) op.Equal (single_var (pl 1 158) 0 t.Region)
    (single_var (pl 1 163) 1 t.Region)))) ∷ (s.Call (e.Member (pl 1 169) (single_var (pl 1 167) 0 t.Region) 10 (xs ([])))) ∷
    (s.Print (pl 1 179) (s.Expression (e.Int (pl 1 187) (pos 2)))) ∷ []) (pl 1 191)

-- class C { int v; } class Main { public static single void main(String[] args) { SharedRegion single r = new SharedRegion(); if
-- (Ti.numProcs() > 0) { C x = new (r) C(); x.v = 1; r.delete(); } } }
abbrev pub a_region_in_use_by_a_variable : RunConfig
a_region_in_use_by_a_variable = text 2 100000 (class_with_fields (field t.Int 11 ∷ []) ∷ class_with_fields [] ∷ [])
    (single_method 1 c.Void 12 c.MainArgs ((s.Declare (pl 1 101) (single t.Region) 0 (s.NewRegion (pl 1 105))) ∷
    (s.If (pl 1 125) (e.Binary (pl 1 143) op.Greater (e.NumProcs (pl 1 129)) (e.Int (pl 1 145) (pos 0)))
    (s.Block (stms ((s.Declare (pl 1 152) (nonsingle_type (t.Class 0 false)) 1
    (s.NewObject (pl 1 156) (Some (single_var (pl 1 161) 0 t.Region)) 0)) ∷
    (s.Assign (pl 1 173) (e.Select (pl 1 171) (var (pl 1 169) 1 (t.Class 0 false)) 11) (s.Value (e.Int (pl 1 175) (pos 1)))) ∷
    (s.Call (e.Member (pl 1 180) (single_var (pl 1 178) 0 t.Region) 10 (xs ([])))) ∷ [])))) ∷ []) (pl 1 192) ∷ []) 0
    ((codes "v") ∷ (codes "main") ∷ []) []

-- class D { D d; } class Main { public static single void main(String[] args) { SharedRegion single r = new SharedRegion(); D o = new D();
-- if (Ti.numProcs() > 0) { D x = new (r) D(); o.d = x; } r.delete(); } }
abbrev pub a_region_in_use_by_a_cell : RunConfig
a_region_in_use_by_a_cell = text 2 100000 (class_with_fields (field (t.Class 0 false) 11 ∷ []) ∷ class_with_fields [] ∷ [])
    (single_method 1 c.Void 12 c.MainArgs ((s.Declare (pl 1 99) (single t.Region) 0 (s.NewRegion (pl 1 103))) ∷
    (s.Declare (pl 1 125) (nonsingle_type (t.Class 0 false)) 1 (s.NewObject (pl 1 129) None 0)) ∷
    (s.If (pl 1 138) (e.Binary (pl 1 156) op.Greater (e.NumProcs (pl 1 142)) (e.Int (pl 1 158) (pos 0)))
    (s.Block (stms ((s.Declare (pl 1 165) (nonsingle_type (t.Class 0 false)) 2
    (s.NewObject (pl 1 169) (Some (single_var (pl 1 174) 0 t.Region)) 0)) ∷
    (s.Assign (pl 1 186) (e.Select (pl 1 184) (var (pl 1 182) 1 (t.Class 0 false)) 11) (s.Value (var (pl 1 188) 2 (t.Class 0 false)))) ∷
    [])))) ∷ (s.Call (e.Member (pl 1 195) (single_var (pl 1 193) 0 t.Region) 10 (xs ([])))) ∷ []) (pl 1 205) ∷ []) 0
    ((codes "d") ∷ (codes "main") ∷ []) []

-- class C { int v; } class Main { public static single void main(String[] args) { SharedRegion single r = new SharedRegion(); if
-- (Ti.numProcs() > 0) { C x = new (r) C(); x.v = 1; } r.delete(); println(1); r.delete(); } }
abbrev pub a_region_deleted_twice : RunConfig
a_region_deleted_twice = text 2 100000 (class_with_fields (field t.Int 11 ∷ []) ∷ class_with_fields [] ∷ [])
    (single_method 1 c.Void 12 c.MainArgs ((s.Declare (pl 1 101) (single t.Region) 0 (s.NewRegion (pl 1 105))) ∷
    (s.If (pl 1 125) (e.Binary (pl 1 143) op.Greater (e.NumProcs (pl 1 129)) (e.Int (pl 1 145) (pos 0)))
    (s.Block (stms ((s.Declare (pl 1 152) (nonsingle_type (t.Class 0 false)) 1
    (s.NewObject (pl 1 156) (Some (single_var (pl 1 161) 0 t.Region)) 0)) ∷
    (s.Assign (pl 1 173) (e.Select (pl 1 171) (var (pl 1 169) 1 (t.Class 0 false)) 11) (s.Value (e.Int (pl 1 175) (pos 1)))) ∷ [])))) ∷
    (s.Call (e.Member (pl 1 182) (single_var (pl 1 180) 0 t.Region) 10 (xs ([])))) ∷
    (s.Print (pl 1 192) (s.Expression (e.Int (pl 1 200) (pos 1)))) ∷
    (s.Call (e.Member (pl 1 206) (single_var (pl 1 204) 0 t.Region) 10 (xs ([])))) ∷ []) (pl 1 216) ∷ []) 0
    ((codes "v") ∷ (codes "main") ∷ []) []
