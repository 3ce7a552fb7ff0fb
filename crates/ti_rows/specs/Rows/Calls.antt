-- Programs of worked examples: calls of methods.
use Rattle.std.specs.Prelude.{pos, true, false, [], ◌∷◌, None, Some, codes}
use Rattle.ti_syntax.specs.declared.tree.exprs.BinaryOperator.TheVariants as op
use Rattle.ti_syntax.specs.declared.tree.stmts.StepOperator.TheVariants.{Increment}
use Rattle.ti_lang.specs.Program.Types as t
use Rattle.ti_lang.specs.Program.Expressions as e
use Rattle.ti_lang.specs.Program.Statements as s
use Rattle.ti_lang.specs.Program.Classes as c
use Rattle.ti_lang.specs.Meaning.Processes.{RunConfig}
use Rattle.ti_rows.specs.Texts.{pl, nonsingle_type, single, var, single_var, xs, stms, class_with_fields, field, param, instance_method, static_method, single_method, text}

-- class Main { static int f(int x) { if (x > 2) return 1; return 2; } public static single void main(String[] args) { int y = f(3);
-- println(y); } }
abbrev pub an_early_return : RunConfig
an_early_return = text 1 100000 (class_with_fields [] ∷ []) (static_method 0 (c.Typed (nonsingle_type t.Int)) 11
    (c.Params ((param (pl 1 31) (nonsingle_type t.Int)) ∷ [])) ((s.If (pl 1 36)
    (e.Binary (pl 1 42) op.Greater (var (pl 1 40) 0 t.Int) (e.Int (pl 1 44) (pos 2)))
    (s.Return (pl 1 47) (Some (e.Int (pl 1 54) (pos 1))))) ∷ (s.Return (pl 1 57) (Some (e.Int (pl 1 64) (pos 2)))) ∷ []) (pl 1 67) ∷
    single_method 0 c.Void 12 c.MainArgs ((s.Declare (pl 1 121) (nonsingle_type t.Int) 0
    (s.Value (e.Call (pl 1 125) 0 (xs ((e.Int (pl 1 127) (pos 3)) ∷ []))))) ∷
    (s.Print (pl 1 131) (s.Expression (var (pl 1 139) 0 t.Int))) ∷ []) (pl 1 143) ∷ []) 1 ((codes "f") ∷ (codes "main") ∷ []) []

-- class Main { static int f(int n) { for (int i = 0; i < 10; i++) { while (true) { if (i * i > n) return i; break; } } return 0; } public
-- static single void main(String[] args) { int r = f(20); println(r); } }
abbrev pub a_return_out_of_loops : RunConfig
a_return_out_of_loops = text 1 100000 (class_with_fields [] ∷ []) (static_method 0 (c.Typed (nonsingle_type t.Int)) 11
    (c.Params ((param (pl 1 31) (nonsingle_type t.Int)) ∷ [])) ((s.For (pl 1 36)
    (s.SomeStm (s.Declare (pl 1 45) (nonsingle_type t.Int) 1 (s.Value (e.Int (pl 1 49) (pos 0)))))
    (Some (e.Binary (pl 1 54) op.Less (var (pl 1 52) 1 t.Int) (e.Int (pl 1 56) (pos 10))))
    (s.SomeStm (s.Step (pl 1 61) Increment (var (pl 1 60) 1 t.Int)))
    (s.Block (stms ((s.While (pl 1 67) (e.Truth (pl 1 74) true)
    (s.Block (stms ((s.If (pl 1 82) (e.Binary (pl 1 92) op.Greater
    (e.Binary (pl 1 88) op.Multiply (var (pl 1 86) 1 t.Int) (var (pl 1 90) 1 t.Int)) (var (pl 1 94) 0 t.Int))
    (s.Return (pl 1 97) (Some (var (pl 1 104) 1 t.Int)))) ∷ (s.Break (pl 1 107)) ∷ [])))) ∷ [])))) ∷
    (s.Return (pl 1 118) (Some (e.Int (pl 1 125) (pos 0)))) ∷ []) (pl 1 128) ∷
    single_method 0 c.Void 12 c.MainArgs ((s.Declare (pl 1 182) (nonsingle_type t.Int) 0
    (s.Value (e.Call (pl 1 186) 0 (xs ((e.Int (pl 1 188) (pos 20)) ∷ []))))) ∷
    (s.Print (pl 1 193) (s.Expression (var (pl 1 201) 0 t.Int))) ∷ []) (pl 1 205) ∷ []) 1 ((codes "f") ∷ (codes "main") ∷ []) []

-- class Main { static void g(int x) { if (x > 1) return; println(x); } public static single void main(String[] args) { g(1); g(2);
-- Main.g(0); } }
abbrev pub a_return_of_nothing : RunConfig
a_return_of_nothing = text 1 100000 (class_with_fields [] ∷ []) (static_method 0 c.Void 11 (c.Params ((param (pl 1 32) (nonsingle_type t.Int)) ∷ []))
    ((s.If (pl 1 37) (e.Binary (pl 1 43) op.Greater (var (pl 1 41) 0 t.Int) (e.Int (pl 1 45) (pos 1))) (s.Return (pl 1 48) None)) ∷
    (s.Print (pl 1 56) (s.Expression (var (pl 1 64) 0 t.Int))) ∷ []) (pl 1 68) ∷
    single_method 0 c.Void 12 c.MainArgs ((s.Call (e.Call (pl 1 118) 0 (xs ((e.Int (pl 1 120) (pos 1)) ∷ [])))) ∷
    (s.Call (e.Call (pl 1 124) 0 (xs ((e.Int (pl 1 126) (pos 2)) ∷ [])))) ∷
    (s.Call (e.Call (pl 1 135) 0 (xs ((e.Int (pl 1 137) (pos 0)) ∷ [])))) ∷ []) (pl 1 141) ∷ []) 1 ((codes "g") ∷ (codes "main") ∷ []) []

-- class Main { static int fact(int n) { if (n <= 1) return 1; int r = fact(n - 1); return n * r; } public static single void main(String[]
-- args) { int x = fact(5); println(x); } }
abbrev pub recursion : RunConfig
recursion = text 1 100000 (class_with_fields [] ∷ []) (static_method 0 (c.Typed (nonsingle_type t.Int)) 11 (c.Params ((param (pl 1 34) (nonsingle_type t.Int)) ∷ []))
    ((s.If (pl 1 39) (e.Binary (pl 1 45) op.LessEqual (var (pl 1 43) 0 t.Int) (e.Int (pl 1 48) (pos 1)))
    (s.Return (pl 1 51) (Some (e.Int (pl 1 58) (pos 1))))) ∷ (s.Declare (pl 1 65) (nonsingle_type t.Int) 1
    (s.Value (e.Call (pl 1 69) 0 (xs ((e.Binary (pl 1 76) op.Subtract (var (pl 1 74) 0 t.Int) (e.Int (pl 1 78) (pos 1))) ∷ []))))) ∷
    (s.Return (pl 1 82) (Some (e.Binary (pl 1 91) op.Multiply (var (pl 1 89) 0 t.Int) (var (pl 1 93) 1 t.Int)))) ∷ []) (pl 1 96) ∷
    single_method 0 c.Void 12 c.MainArgs ((s.Declare (pl 1 150) (nonsingle_type t.Int) 0
    (s.Value (e.Call (pl 1 154) 0 (xs ((e.Int (pl 1 159) (pos 5)) ∷ []))))) ∷
    (s.Print (pl 1 163) (s.Expression (var (pl 1 171) 0 t.Int))) ∷ []) (pl 1 175) ∷ []) 1 ((codes "fact") ∷ (codes "main") ∷ []) []

-- class C { int v; int get() { return v; } void set(int x) { v = x; this.v += 1; } } class Main { public static single void main(String[]
-- args) { C c = new C(); c.set(4); int y = c.get(); println(y); } }
abbrev pub instance_methods : RunConfig
instance_methods = text 1 100000 (class_with_fields (field t.Int 11 ∷ []) ∷ class_with_fields [] ∷ [])
    (instance_method 0 (c.Typed (nonsingle_type t.Int)) 12 (c.Params ([])) ((s.Return (pl 1 30) (Some (e.OwnField (pl 1 37) 0))) ∷ []) (pl 1 40) ∷
    instance_method 0 c.Void 13 (c.Params ((param (pl 1 55) (nonsingle_type t.Int)) ∷ []))
    ((s.Assign (pl 1 62) (e.OwnField (pl 1 60) 0) (s.Value (var (pl 1 64) 0 t.Int))) ∷
    (s.Update (pl 1 74) op.Add (e.Select (pl 1 72) (e.This (pl 1 67)) 11) (e.Int (pl 1 77) (pos 1))) ∷ []) (pl 1 80) ∷
    single_method 1 c.Void 14 c.MainArgs ((s.Declare (pl 1 147) (nonsingle_type (t.Class 0 false)) 0 (s.NewObject (pl 1 151) None 0)) ∷
    (s.Call (e.Member (pl 1 162) (var (pl 1 160) 0 (t.Class 0 false)) 13 (xs ((e.Int (pl 1 166) (pos 4)) ∷ [])))) ∷
    (s.Declare (pl 1 174) (nonsingle_type t.Int) 1 (s.Value (e.Member (pl 1 180) (var (pl 1 178) 0 (t.Class 0 false)) 12 (xs ([]))))) ∷
    (s.Print (pl 1 187) (s.Expression (var (pl 1 195) 1 t.Int))) ∷ []) (pl 1 199) ∷ []) 2
    ((codes "v") ∷ (codes "get") ∷ (codes "set") ∷ (codes "main") ∷ []) []

-- class C { int v; int get() { return v; } int twice() { int x = get(); return x * 2; } } class Main { public static single void
-- main(String[] args) { C c = new C(); c.v = 4; int y = c.twice(); println(y); } }
abbrev pub a_method_of_the_own_object : RunConfig
a_method_of_the_own_object = text 1 100000 (class_with_fields (field t.Int 11 ∷ []) ∷ class_with_fields [] ∷ [])
    (instance_method 0 (c.Typed (nonsingle_type t.Int)) 12 (c.Params ([])) ((s.Return (pl 1 30) (Some (e.OwnField (pl 1 37) 0))) ∷ []) (pl 1 40) ∷
    instance_method 0 (c.Typed (nonsingle_type t.Int)) 13 (c.Params ([]))
    ((s.Declare (pl 1 60) (nonsingle_type t.Int) 0 (s.Value (e.OwnCall (pl 1 64) 0 (xs ([]))))) ∷
    (s.Return (pl 1 71) (Some (e.Binary (pl 1 80) op.Multiply (var (pl 1 78) 0 t.Int) (e.Int (pl 1 82) (pos 2))))) ∷ []) (pl 1 85) ∷
    single_method 1 c.Void 14 c.MainArgs ((s.Declare (pl 1 152) (nonsingle_type (t.Class 0 false)) 0 (s.NewObject (pl 1 156) None 0)) ∷
    (s.Assign (pl 1 169) (e.Select (pl 1 167) (var (pl 1 165) 0 (t.Class 0 false)) 11) (s.Value (e.Int (pl 1 171) (pos 4)))) ∷
    (s.Declare (pl 1 178) (nonsingle_type t.Int) 1 (s.Value (e.Member (pl 1 184) (var (pl 1 182) 0 (t.Class 0 false)) 13 (xs ([]))))) ∷
    (s.Print (pl 1 193) (s.Expression (var (pl 1 201) 1 t.Int))) ∷ []) (pl 1 205) ∷ []) 2
    ((codes "v") ∷ (codes "get") ∷ (codes "twice") ∷ (codes "main") ∷ []) []

-- class Main { static long g(long x) { return x + 1; } public static single void main(String[] args) { long y = g(3); println(y); int z =
-- (int) y; println(z); println(y == 4); } }
abbrev pub long_parameters : RunConfig
long_parameters = text 1 100000 (class_with_fields [] ∷ []) (static_method 0 (c.Typed (nonsingle_type t.Long)) 11
    (c.Params ((param (pl 1 33) (nonsingle_type t.Long)) ∷ [])) ((s.Return (pl 1 38)
    (Some (e.Binary (pl 1 47) op.Add (var (pl 1 45) 0 t.Long) (e.Int (pl 1 49) (pos 1))))) ∷ []) (pl 1 52) ∷
    single_method 0 c.Void 12 c.MainArgs ((s.Declare (pl 1 107) (nonsingle_type t.Long) 0
    (s.Value (e.Call (pl 1 111) 0 (xs ((e.Int (pl 1 113) (pos 3)) ∷ []))))) ∷
    (s.Print (pl 1 117) (s.Expression (var (pl 1 125) 0 t.Long))) ∷
    (s.Declare (pl 1 133) (nonsingle_type t.Int) 1 (s.Value (e.Cast (pl 1 137) (nonsingle_type t.Int) (var (pl 1 143) 0 t.Long)))) ∷
    (s.Print (pl 1 146) (s.Expression (var (pl 1 154) 1 t.Int))) ∷
    (s.Print (pl 1 158) (s.Expression (e.Binary (pl 1 168) op.Equal (var (pl 1 166) 0 t.Long) (e.Int (pl 1 171) (pos 4))))) ∷ [])
    (pl 1 175) ∷ []) 1 ((codes "g") ∷ (codes "main") ∷ []) []

-- class Main { static int f(Domain<1> d) { return d.size(); } public static single void main(String[] args) { int n = f([0:4]); println(n);
-- } }
abbrev pub a_domain_as_parameter : RunConfig
a_domain_as_parameter = text 1 100000 (class_with_fields [] ∷ []) (static_method 0 (c.Typed (nonsingle_type t.Int)) 11
    (c.Params ((param (pl 1 37) (nonsingle_type (t.Dm 1))) ∷ [])) ((s.Return (pl 1 42)
    (Some (e.Member (pl 1 51) (var (pl 1 49) 0 (t.Dm 1)) 0 (xs ([]))))) ∷ []) (pl 1 59) ∷
    single_method 0 c.Void 12 c.MainArgs ((s.Declare (pl 1 113) (nonsingle_type t.Int) 0
    (s.Value (e.Call (pl 1 117) 0 (xs ((e.Rect (pl 1 119) (e.numbered_ranges
    (e.Plain (e.Int (pl 1 120) (pos 0)) (e.Int (pl 1 122) (pos 4)) ∷ []))) ∷ []))))) ∷
    (s.Print (pl 1 127) (s.Expression (var (pl 1 135) 0 t.Int))) ∷ []) (pl 1 139) ∷ []) 1 ((codes "f") ∷ (codes "main") ∷ []) []

-- class C { int v; } class Main { static int f(C c) { c.v = 2; return 7; } public static single void main(String[] args) { C c = new C();
-- int [1d] a = new int [0:3]; a[c.v] = f(c); println(a[2]); println(a[0]); c.v = 0; a[c.v] += f(c); println(a[2]); println(a[0]); } }
abbrev pub a_call_comes_before_its_target : RunConfig
a_call_comes_before_its_target = text 1 100000 (class_with_fields (field t.Int 11 ∷ []) ∷ class_with_fields [] ∷ [])
    (static_method 1 (c.Typed (nonsingle_type t.Int)) 12 (c.Params ((param (pl 1 48) (nonsingle_type (t.Class 0 false))) ∷ []))
    ((s.Assign (pl 1 57) (e.Select (pl 1 55) (var (pl 1 53) 0 (t.Class 0 false)) 11) (s.Value (e.Int (pl 1 59) (pos 2)))) ∷
    (s.Return (pl 1 62) (Some (e.Int (pl 1 69) (pos 7)))) ∷ []) (pl 1 72) ∷
    single_method 1 c.Void 13 c.MainArgs ((s.Declare (pl 1 124) (nonsingle_type (t.Class 0 false)) 0 (s.NewObject (pl 1 128) None 0)) ∷
    (s.Declare (pl 1 146) (nonsingle_type (t.Grid t.Int 1 false)) 1 (s.NewGrid (pl 1 150) None (nonsingle_type t.Int) (pl 1 158)
    (s.Ranges (e.Plain (e.Int (pl 1 159) (pos 0)) (e.Int (pl 1 161) (pos 3)) ∷ [])))) ∷
    (s.Assign (pl 1 172) (e.Index (pl 1 166) (var (pl 1 165) 1 (t.Grid t.Int 1 false))
    (xs ((e.Select (pl 1 169) (var (pl 1 167) 0 (t.Class 0 false)) 11) ∷ [])))
    (s.Value (e.Call (pl 1 174) 0 (xs ((var (pl 1 176) 0 (t.Class 0 false)) ∷ []))))) ∷
    (s.Print (pl 1 180) (s.Expression (e.Index (pl 1 189) (var (pl 1 188) 1 (t.Grid t.Int 1 false))
    (xs ((e.Int (pl 1 190) (pos 2)) ∷ []))))) ∷ (s.Print (pl 1 195)
    (s.Expression (e.Index (pl 1 204) (var (pl 1 203) 1 (t.Grid t.Int 1 false)) (xs ((e.Int (pl 1 205) (pos 0)) ∷ []))))) ∷
    (s.Assign (pl 1 214) (e.Select (pl 1 212) (var (pl 1 210) 0 (t.Class 0 false)) 11) (s.Value (e.Int (pl 1 216) (pos 0)))) ∷
    (s.Update (pl 1 226) op.Add (e.Index (pl 1 220) (var (pl 1 219) 1 (t.Grid t.Int 1 false))
    (xs ((e.Select (pl 1 223) (var (pl 1 221) 0 (t.Class 0 false)) 11) ∷ [])))
    (e.Call (pl 1 229) 0 (xs ((var (pl 1 231) 0 (t.Class 0 false)) ∷ [])))) ∷
    (s.Print (pl 1 235) (s.Expression (e.Index (pl 1 244) (var (pl 1 243) 1 (t.Grid t.Int 1 false))
    (xs ((e.Int (pl 1 245) (pos 2)) ∷ []))))) ∷ (s.Print (pl 1 250)
    (s.Expression (e.Index (pl 1 259) (var (pl 1 258) 1 (t.Grid t.Int 1 false)) (xs ((e.Int (pl 1 260) (pos 0)) ∷ []))))) ∷ [])
    (pl 1 265) ∷ []) 1 ((codes "v") ∷ (codes "f") ∷ (codes "main") ∷ []) []

-- class Main { static single int single f(int single n) { int single k = n; while (k > 0) { Ti.barrier(); k = k - 1; } return k + 1; }
-- public static single void main(String[] args) { int single r = f(2); println(r); } }
abbrev pub a_single_method : RunConfig
a_single_method = text 2 100000 (class_with_fields [] ∷ []) (single_method 0 (c.Typed (single t.Int)) 11
    (c.Params ((param (pl 1 52) (single t.Int)) ∷ [])) ((s.Declare (pl 1 68) (single t.Int) 1 (s.Value (single_var (pl 1 72) 0 t.Int))) ∷
    (s.While (pl 1 75) (e.Binary (pl 1 84) op.Greater (single_var (pl 1 82) 1 t.Int) (e.Int (pl 1 86) (pos 0)))
    (s.Block (stms ((s.Barrier (pl 1 94)) ∷ (s.Assign (pl 1 107) (single_var (pl 1 105) 1 t.Int)
    (s.Value (e.Binary (pl 1 111) op.Subtract (single_var (pl 1 109) 1 t.Int) (e.Int (pl 1 113) (pos 1))))) ∷ [])))) ∷
    (s.Return (pl 1 118) (Some (e.Binary (pl 1 127) op.Add (single_var (pl 1 125) 1 t.Int) (e.Int (pl 1 129) (pos 1))))) ∷ [])
    (pl 1 132) ∷ single_method 0 c.Void 12 c.MainArgs ((s.Declare (pl 1 193) (single t.Int) 0
    (s.Value (e.Call (pl 1 197) 0 (xs ((e.Int (pl 1 199) (pos 2)) ∷ []))))) ∷
    (s.Print (pl 1 203) (s.Expression (single_var (pl 1 211) 0 t.Int))) ∷ []) (pl 1 215) ∷ []) 1 ((codes "f") ∷ (codes "main") ∷ []) []

-- class Main { static void f() { f(); } public static single void main(String[] args) { f(); } }
abbrev pub endless_recursion : RunConfig
endless_recursion = text 1 100000 (class_with_fields [] ∷ []) (static_method 0 c.Void 11 (c.Params ([])) ((s.Call (e.Call (pl 1 32) 0 (xs ([])))) ∷ [])
    (pl 1 37) ∷ single_method 0 c.Void 12 c.MainArgs ((s.Call (e.Call (pl 1 87) 0 (xs ([])))) ∷ []) (pl 1 92) ∷ []) 1
    ((codes "f") ∷ (codes "main") ∷ []) []

-- class Main { static void g() { } public static single void main(String[] args) { g(); g(); g(); } }
abbrev pub fuel_at_a_call : RunConfig
fuel_at_a_call = text 1 2 (class_with_fields [] ∷ []) (static_method 0 c.Void 11 (c.Params ([])) ([]) (pl 1 32) ∷
    single_method 0 c.Void 12 c.MainArgs ((s.Call (e.Call (pl 1 82) 0 (xs ([])))) ∷ (s.Call (e.Call (pl 1 87) 0 (xs ([])))) ∷
    (s.Call (e.Call (pl 1 92) 0 (xs ([])))) ∷ []) (pl 1 97) ∷ []) 1 ((codes "g") ∷ (codes "main") ∷ []) []

-- class C { int v; void set(int x) { v = x; } } class Main { public static single void main(String[] args) { C c = null; c.set(1); } }
abbrev pub a_call_on_null : RunConfig
a_call_on_null = text 1 100000 (class_with_fields (field t.Int 11 ∷ []) ∷ class_with_fields [] ∷ [])
    (instance_method 0 c.Void 12 (c.Params ((param (pl 1 31) (nonsingle_type t.Int)) ∷ []))
    ((s.Assign (pl 1 38) (e.OwnField (pl 1 36) 0) (s.Value (var (pl 1 40) 0 t.Int))) ∷ []) (pl 1 43) ∷
    single_method 1 c.Void 13 c.MainArgs ((s.Declare (pl 1 110) (nonsingle_type (t.Class 0 false)) 0 (s.Value (e.Null (pl 1 114)))) ∷
    (s.Call (e.Member (pl 1 122) (var (pl 1 120) 0 (t.Class 0 false)) 12 (xs ((e.Int (pl 1 126) (pos 1)) ∷ [])))) ∷ []) (pl 1 130) ∷ []) 1
    ((codes "v") ∷ (codes "set") ∷ (codes "main") ∷ []) []
