-- Programs with runs, or with entries that are no run, for which facts of every run fail.
use Rattle.std.specs.Prelude.{ℕ, ◌+◌, pos, true, false, List, [], ◌∷◌, None, Some, codes}
use Rattle.ti_base.specs.declared.place.Place.{Place}
use Rattle.ti_syntax.specs.declared.tree.exprs.BinaryOperator.TheVariants as b
use Rattle.ti_syntax.specs.declared.tree.types.QualifierWord.TheVariants as word
use Rattle.ti_syntax.specs.declared.tree.classes.ModifierWord.TheVariants as mw
use Rattle.ti_lang.specs.Program.Types.{ValueType, NumberedType}
use Rattle.ti_lang.specs.Program.Types as ty
use Rattle.ti_lang.specs.Program.Expressions.{NumberedExp}
use Rattle.ti_lang.specs.Program.Expressions as x
use Rattle.ti_lang.specs.Program.Statements.{NumberedStm}
use Rattle.ti_lang.specs.Program.Statements as s
use Rattle.ti_lang.specs.Program.Classes.{NumberedMethod, ProgramView}
use Rattle.ti_lang.specs.Program.Classes as c
use Rattle.ti_lang.specs.Program.Scope.{ScopeContents}
use Rattle.ti_rows.specs.Texts.{pl, nonsingle_type, var, single_var, xs, stms}
use Rattle.ti_rows.specs.Words.{qualifier, modifier, type_with, bracket, field_with, class_with, method_with, program_with_names}

-- a single type, with the place of the keyword
abbrev single_with : ValueType → Place → NumberedType
single_with type at = type_with type (qualifier word.Single at ∷ []) []

-- references to objects of the class before Main
abbrev pub object : ValueType
object = ty.Class 0 false

-- `public static single void main(String[] args)` at a column, in the class with this number, with this name number
abbrev main_at : ℕ → ℕ → ℕ → List NumberedStm → ℕ → NumberedMethod
main_at class name column body end =
    method_with class
    (modifier mw.Public (pl 1 column) ∷ modifier mw.Static (pl 1 (column + 7)) ∷ modifier mw.Single (pl 1 (column + 14)) ∷ [])
    c.Void (pl 1 (column + 26)) name c.MainArgs body (pl 1 end)

-- a program with the class Main only, with these statements, which end at a column
abbrev main_alone : List NumberedStm → ℕ → ProgramView
main_alone body end = program_with_names (class_with [] [] ∷ []) (main_at 0 11 14 body end ∷ []) 0 (codes "main" ∷ [])

-- a program with Main after a class that has one field of this type and name
abbrev main_behind : ValueType → List ℕ → ℕ → List NumberedStm → ℕ → ProgramView
main_behind type name column body end =
    program_with_names (class_with [] (field_with [] (type_with type [] []) 11 ∷ []) ∷ class_with [] [] ∷ []) (main_at 1 12 column body end ∷ []) 0
    (name ∷ codes "main" ∷ [])

-- ---- programs

-- class Main { public static single void main(String[] args) { if (Ti.thisProc() == 0) Ti.barrier(); else Ti.barrier(); } }
-- processes reach barriers at two places
abbrev pub barriers_at_two_places : ProgramView
barriers_at_two_places =
    main_alone (
    s.IfElse (pl 1 62) (x.Binary (pl 1 80) b.Equal (x.ThisProc (pl 1 66)) (x.Int (pl 1 83) (pos 0)))
    (s.Barrier (pl 1 89)) (s.Barrier (pl 1 108)) ∷
    []
    ) 119

-- class Main { public static single void main(String[] args) { int single k = Ti.thisProc(); Ti.barrier(); } }
-- processes reach a barrier with single variables that hold different numbers
abbrev pub a_barrier_behind_own_numbers : ProgramView
a_barrier_behind_own_numbers =
    main_alone (
    s.Declare (pl 1 73) (single_with ty.Int (pl 1 66)) 0 (s.Value (x.ThisProc (pl 1 77))) ∷
    s.Barrier (pl 1 95) ∷
    []
    ) 106

-- class Main { public static single void main(String[] args) { SharedRegion single r = null; r.delete(); } }
-- what is deleted is no region
abbrev pub no_region_is_deleted : ProgramView
no_region_is_deleted =
    main_alone (
    s.Declare (pl 1 82) (single_with ty.Region (pl 1 75)) 0 (s.Value (x.Null (pl 1 86))) ∷
    s.Call (x.Member (pl 1 94) (single_var (pl 1 92) 0 ty.Region) 10 x.NoExp) ∷
    []
    ) 104

-- class Main { public static single void main(String[] args) { Ti.barrier(); } }
-- all processes reach one barrier
abbrev pub one_barrier : ProgramView
one_barrier =
    main_alone (
    s.Barrier (pl 1 65) ∷
    []
    ) 76

-- class Main { public static single void main(String[] args) { println(7); } }
-- each process prints one line
abbrev pub a_print : ProgramView
a_print = main_alone (s.Print (pl 1 62) (s.Expression (x.Int (pl 1 70) (pos 7))) ∷ []) 74

-- class C { int v; } class Main { public static single void main(String[] args) {
--     C c = new C(); C d = broadcast c from 1; C local e = d; e.v = 1;
-- } }
-- a local variable names an object of another process
abbrev pub a_local_variable_of_another_process : ProgramView
a_local_variable_of_another_process =
    main_behind ty.Int (codes "v") 33 (
    s.Declare (pl 1 83) (nonsingle_type object) 0 (s.NewObject (pl 1 87) None 0) ∷
    s.Declare (pl 1 98) (nonsingle_type object) 1 (s.Broadcast (pl 1 102) (var (pl 1 112) 0 object) (x.Int (pl 1 119) (pos 1))) ∷
    s.Declare (pl 1 130) (type_with (ty.Class 0 true) (qualifier word.Local (pl 1 124) ∷ []) []) 2
    (s.Value (var (pl 1 134) 1 object)) ∷
    s.Assign (pl 1 141) (x.Select (pl 1 139) (var (pl 1 137) 2 (ty.Class 0 true)) 11) (s.Value (x.Int (pl 1 143) (pos 1))) ∷
    []
    ) 146

-- class C { int v; } class Main { public static single void main(String[] args) {
--     SharedRegion single r = new SharedRegion(); C c = null;
--     if (Ti.thisProc() == 1) { c = new (r) C(); Ti.barrier(); c.v = 1; } else r.delete();
-- } }
-- one process deletes a region, while another reaches a barrier and then uses an object in the region
abbrev pub a_region_is_deleted_by_one : ProgramView
a_region_is_deleted_by_one =
    main_behind ty.Int (codes "v") 33 (
    s.Declare (pl 1 101) (single_with ty.Region (pl 1 94)) 0 (s.NewRegion (pl 1 105)) ∷
    s.Declare (pl 1 127) (nonsingle_type object) 1 (s.Value (x.Null (pl 1 131))) ∷
    s.IfElse (pl 1 137) (x.Binary (pl 1 155) b.Equal (x.ThisProc (pl 1 141)) (x.Int (pl 1 158) (pos 1))) (s.Block (stms (
    s.Assign (pl 1 165) (var (pl 1 163) 1 object) (s.NewObject (pl 1 167) (Some (single_var (pl 1 172) 0 ty.Region)) 0) ∷
    s.Barrier (pl 1 183) ∷
    s.Assign (pl 1 198) (x.Select (pl 1 196) (var (pl 1 194) 1 object) 11) (s.Value (x.Int (pl 1 200) (pos 1))) ∷
    []
    ))) (s.Call (x.Member (pl 1 212) (single_var (pl 1 210) 0 ty.Region) 10 x.NoExp)) ∷
    []
    ) 222

-- class C { int v; } class Main { public static single void main(String[] args) { C c = new C(); c.v = true; println(c.v); } }
-- a field of type int holds a boolean
abbrev pub a_truth_in_a_number : ProgramView
a_truth_in_a_number =
    main_behind ty.Int (codes "v") 33 (
    s.Declare (pl 1 83) (nonsingle_type object) 0 (s.NewObject (pl 1 87) None 0) ∷
    s.Assign (pl 1 100) (x.Select (pl 1 98) (var (pl 1 96) 0 object) 11) (s.Value (x.Truth (pl 1 102) true)) ∷
    s.Print (pl 1 108) (s.Expression (x.Select (pl 1 118) (var (pl 1 116) 0 object) 11)) ∷
    []
    ) 122

-- class C { int v; } class Main { public static single void main(String[] args) {
--     C c = new C(); C d = broadcast c from 0; if (Ti.thisProc() == 0) d.v = 1; println(d.v);
-- } }
-- process 0 writes a field that all processes read
abbrev pub a_field_is_shared : ProgramView
a_field_is_shared =
    main_behind ty.Int (codes "v") 33 (
    s.Declare (pl 1 83) (nonsingle_type object) 0 (s.NewObject (pl 1 87) None 0) ∷
    s.Declare (pl 1 98) (nonsingle_type object) 1 (s.Broadcast (pl 1 102) (var (pl 1 112) 0 object) (x.Int (pl 1 119) (pos 0))) ∷
    s.If (pl 1 122) (x.Binary (pl 1 140) b.Equal (x.ThisProc (pl 1 126)) (x.Int (pl 1 143) (pos 0)))
    (s.Assign (pl 1 150) (x.Select (pl 1 148) (var (pl 1 146) 1 object) 11) (s.Value (x.Int (pl 1 152) (pos 1)))) ∷
    s.Print (pl 1 155) (s.Expression (x.Select (pl 1 165) (var (pl 1 163) 1 object) 11)) ∷
    []
    ) 169

-- class C { int v; } class Main { public static single void main(String[] args) { int [1d] a = new C(); a[0] = 1; } }
-- a variable of a grid type names an object
abbrev pub an_object_for_a_grid : ProgramView
an_object_for_a_grid =
    main_behind ty.Int (codes "v") 33 (
    s.Declare (pl 1 90) (type_with (ty.Grid ty.Int 1 false) [] (bracket 1 [] ∷ [])) 0 (s.NewObject (pl 1 94) None 0) ∷
    s.Assign (pl 1 108) (x.Index (pl 1 104) (var (pl 1 103) 0 (ty.Grid ty.Int 1 false)) (xs (x.Int (pl 1 105) (pos 0) ∷ [])))
    (s.Value (x.Int (pl 1 110) (pos 1))) ∷
    []
    ) 113

-- class C { Point<1> p; } class Main { public static single void main(String[] args) { C c = new C(); c.p = c.p; } }
-- a field of points is assigned its own value
abbrev pub a_point_is_copied : ProgramView
a_point_is_copied =
    main_behind (ty.Pt 1) (codes "p") 38 (
    s.Declare (pl 1 88) (nonsingle_type object) 0 (s.NewObject (pl 1 92) None 0) ∷
    s.Assign (pl 1 105) (x.Select (pl 1 103) (var (pl 1 101) 0 object) 11)
    (s.Value (x.Select (pl 1 109) (var (pl 1 107) 0 object) 11)) ∷
    []
    ) 112

-- class Main { public static single void main(String[] args) {
--     if (Ti.thisProc() == 0) { int a = broadcast 1 from 0; } else { boolean b = broadcast true from 0; }
-- } }
-- processes contribute values of two types at one collective
abbrev pub two_broadcasts : ProgramView
two_broadcasts =
    main_alone (
    s.IfElse (pl 1 62) (x.Binary (pl 1 80) b.Equal (x.ThisProc (pl 1 66)) (x.Int (pl 1 83) (pos 0)))
    (s.Block (stms (
    s.Declare (pl 1 92) (nonsingle_type ty.Int) 0 (s.Broadcast (pl 1 96) (x.Int (pl 1 106) (pos 1)) (x.Int (pl 1 113) (pos 0))) ∷
    []
    )))
    (s.Block (stms (
    s.Declare (pl 1 133) (nonsingle_type ty.Boolean) 0 (s.Broadcast (pl 1 137) (x.Truth (pl 1 147) true) (x.Int (pl 1 157) (pos 0))) ∷
    []
    ))) ∷
    []
    ) 162

-- ---- programs that no source has

-- a number literal that doesn't fit in 32 bits
abbrev pub a_number_too_large : ProgramView
a_number_too_large = main_alone (s.Print (pl 1 62) (s.Expression (x.Int (pl 1 70) (pos 2147483648))) ∷ []) 83

-- an undeclared variable is used
abbrev pub a_variable_of_nowhere : ProgramView
a_variable_of_nowhere = main_alone (s.Print (pl 1 62) (s.Expression (var (pl 1 70) 0 ty.Int)) ∷ []) 74

-- a field of points of four dimensions
abbrev pub a_field_of_four_dimensions : ProgramView
a_field_of_four_dimensions = main_behind (ty.Pt 4) (codes "p") 38 [] 87

-- a field of domains that need not be rectangular
abbrev pub a_field_of_domains : ProgramView
a_field_of_domains = main_behind (ty.Dm 1) (codes "d") 39 [] 88

-- ---- expressions

-- no variable is in scope
abbrev pub no_scope : ScopeContents
no_scope = record { this_class = None; variables = [] }

-- true + 1
abbrev pub a_sum_of_a_boolean : NumberedExp
a_sum_of_a_boolean = x.Binary (pl 1 6) b.Add (x.Truth (pl 1 1) true) (x.Int (pl 1 8) (pos 1))
