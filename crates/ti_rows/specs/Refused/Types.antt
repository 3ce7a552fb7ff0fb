-- Programs that break a rule of types or qualifiers.
use Rattle.std.specs.Prelude.{pos, true, false, [], ◌∷◌, None, Some, codes}
use Rattle.ti_syntax.specs.declared.tree.exprs.BinaryOperator.TheVariants as b
use Rattle.ti_syntax.specs.declared.tree.types.QualifierWord.TheVariants as word
use Rattle.ti_syntax.specs.declared.tree.classes.ModifierWord.TheVariants as mw
use Rattle.ti_lang.specs.Program.Types as ty
use Rattle.ti_lang.specs.Program.Expressions as x
use Rattle.ti_lang.specs.Program.Statements as s
use Rattle.ti_lang.specs.Program.Classes.{ProgramView}
use Rattle.ti_lang.specs.Program.Classes as c
use Rattle.ti_rows.specs.Texts.{pl}
use Rattle.ti_rows.specs.Words.{qualifier, modifier, type_with, variable_use, bracket, field_with, class_with, param_with, method_with, program_with_names}

-- class Main { public static single void main(String[] args) { boolean b = true + 1; } }
abbrev pub operands_of_two_kinds : ProgramView
operands_of_two_kinds = program_with_names ((class_with [] []) ∷ []) ((method_with 0
    ((modifier mw.Public (pl 1 14)) ∷ (modifier mw.Static (pl 1 21)) ∷ (modifier mw.Single (pl 1 28)) ∷ []) c.Void (pl 1 40) 11 c.MainArgs
    ((s.Declare (pl 1 70) (type_with ty.Boolean [] []) 0 (s.Value
    (x.Binary (pl 1 79) b.Add (x.Truth (pl 1 74) true) (x.Int (pl 1 81) (pos 1))))) ∷ []) (pl 1 84)) ∷ []) 0 (codes "main" ∷ [])

-- class Main { public static single void main(String[] args) { int [1d] a = new int [0:1]; a.size(); } }
abbrev pub an_unknown_member : ProgramView
an_unknown_member = program_with_names ((class_with [] []) ∷ []) ((method_with 0
    ((modifier mw.Public (pl 1 14)) ∷ (modifier mw.Static (pl 1 21)) ∷ (modifier mw.Single (pl 1 28)) ∷ []) c.Void (pl 1 40) 11 c.MainArgs
    ((s.Declare (pl 1 71) (type_with (ty.Grid ty.Int 1 false) [] ((bracket 1 []) ∷ [])) 0
    (s.NewGrid (pl 1 75) None (type_with ty.Int [] []) (pl 1 83)
    (s.Ranges ((x.Plain (x.Int (pl 1 84) (pos 0)) (x.Int (pl 1 86) (pos 1))) ∷ [])))) ∷
    (s.Call (x.Member (pl 1 92) (x.Variable (pl 1 90) (variable_use 0 (ty.Typed false (ty.Grid ty.Int 1 false)))) 0 x.NoExp)) ∷ []) (pl 1 100)) ∷
    []) 0 (codes "main" ∷ [])

-- class Main { public static single void main(String[] args) { Point<1> p = [1]; p[1] = 3; } }
abbrev pub a_coordinate_is_assigned : ProgramView
a_coordinate_is_assigned = program_with_names ((class_with [] []) ∷ [])
    ((method_with 0 ((modifier mw.Public (pl 1 14)) ∷ (modifier mw.Static (pl 1 21)) ∷ (modifier mw.Single (pl 1 28)) ∷ []) c.Void
    (pl 1 40) 11 c.MainArgs ((s.Declare (pl 1 71) (type_with (ty.Pt 1) [] []) 0
    (s.Value (x.Point (pl 1 75) (x.MoreExp (x.Int (pl 1 76) (pos 1)) x.NoExp)))) ∷
    (s.Assign (pl 1 85) (x.Index (pl 1 81) (x.Variable (pl 1 80) (variable_use 0 (ty.Typed false (ty.Pt 1))))
    (x.MoreExp (x.Int (pl 1 82) (pos 1)) x.NoExp)) (s.Value (x.Int (pl 1 87) (pos 3)))) ∷ []) (pl 1 90)) ∷ []) 0 (codes "main" ∷ [])

-- class Main { static int h(boolean x) { return 1; } public static single void main(String[] args) { boolean b = h(1, true + 1); } }
abbrev pub a_call_over_an_operand_without_a_type : ProgramView
a_call_over_an_operand_without_a_type = program_with_names ((class_with [] []) ∷ [])
    ((method_with 0 ((modifier mw.Static (pl 1 14)) ∷ []) (c.Typed (type_with ty.Int [] [])) (pl 1 25) 11
    (c.Params ((param_with (pl 1 35) (type_with ty.Boolean [] [])) ∷ [])) ((s.Return (pl 1 40) (Some (x.Int (pl 1 47) (pos 1)))) ∷ [])
    (pl 1 50)) ∷ (method_with 0 ((modifier mw.Public (pl 1 52)) ∷ (modifier mw.Static (pl 1 59)) ∷ (modifier mw.Single (pl 1 66)) ∷ [])
    c.Void (pl 1 78) 12 c.MainArgs ((s.Declare (pl 1 108) (type_with ty.Boolean [] []) 0
    (s.Value (x.Call (pl 1 112) 0 (x.MoreExp (x.Int (pl 1 114) (pos 1))
    (x.MoreExp (x.Binary (pl 1 122) b.Add (x.Truth (pl 1 117) true) (x.Int (pl 1 124) (pos 1))) x.NoExp))))) ∷ []) (pl 1 128)) ∷ []) 1
    (codes "h" ∷ codes "main" ∷ [])

-- class C { int v; } class Main { public static single void main(String[] args) { C local [1d] a = new C local [0:0]; a.exchange(1); } }
abbrev pub the_rule_listed_first : ProgramView
the_rule_listed_first = program_with_names ((class_with [] ((field_with [] (type_with ty.Int [] []) 11) ∷ [])) ∷ (class_with [] []) ∷ [])
    ((method_with 1 ((modifier mw.Public (pl 1 33)) ∷ (modifier mw.Static (pl 1 40)) ∷ (modifier mw.Single (pl 1 47)) ∷ []) c.Void
    (pl 1 59) 12 c.MainArgs ((s.Declare (pl 1 94) (type_with (ty.Grid (ty.Class 0 true) 1 false) ((qualifier word.Local (pl 1 83)) ∷ [])
    ((bracket 1 []) ∷ [])) 0 (s.NewGrid (pl 1 98) None (type_with (ty.Class 0 true) ((qualifier word.Local (pl 1 104)) ∷ []) [])
    (pl 1 110) (s.Ranges ((x.Plain (x.Int (pl 1 111) (pos 0)) (x.Int (pl 1 113) (pos 0))) ∷ [])))) ∷
    (s.Call (x.Member (pl 1 119) (x.Variable (pl 1 117) (variable_use 0 (ty.Typed false (ty.Grid (ty.Class 0 true) 1 false)))) 9
    (x.MoreExp (x.Int (pl 1 128) (pos 1)) x.NoExp))) ∷ []) (pl 1 132)) ∷ []) 0 (codes "v" ∷ codes "main" ∷ [])

-- class Main { public static single void main(String[] args) { boolean b = 1; } }
abbrev pub a_number_for_a_boolean : ProgramView
a_number_for_a_boolean = program_with_names ((class_with [] []) ∷ []) ((method_with 0
    ((modifier mw.Public (pl 1 14)) ∷ (modifier mw.Static (pl 1 21)) ∷ (modifier mw.Single (pl 1 28)) ∷ []) c.Void (pl 1 40) 11 c.MainArgs
    ((s.Declare (pl 1 70) (type_with ty.Boolean [] []) 0 (s.Value (x.Int (pl 1 74) (pos 1)))) ∷ []) (pl 1 77)) ∷ []) 0 (codes "main" ∷ [])

-- class Main { public static single void main(String[] args) { int x = 1L; } }
abbrev pub a_long_for_an_int : ProgramView
a_long_for_an_int = program_with_names ((class_with [] []) ∷ []) ((method_with 0
    ((modifier mw.Public (pl 1 14)) ∷ (modifier mw.Static (pl 1 21)) ∷ (modifier mw.Single (pl 1 28)) ∷ []) c.Void (pl 1 40) 11 c.MainArgs
    ((s.Declare (pl 1 66) (type_with ty.Int [] []) 0 (s.Value (x.Long (pl 1 70) (pos 1)))) ∷ []) (pl 1 74)) ∷ []) 0 (codes "main" ∷ [])

-- class Main { public static single void main(String[] args) { foreach (p in [0:1]) p = [1]; } }
abbrev pub a_foreach_variable_is_assigned : ProgramView
a_foreach_variable_is_assigned = program_with_names ((class_with [] []) ∷ [])
    ((method_with 0 ((modifier mw.Public (pl 1 14)) ∷ (modifier mw.Static (pl 1 21)) ∷ (modifier mw.Single (pl 1 28)) ∷ []) c.Void
    (pl 1 40) 11 c.MainArgs ((s.Foreach (pl 1 62) 0 (x.Rect (pl 1 76)
    (x.MoreRange (x.Plain (x.Int (pl 1 77) (pos 0)) (x.Int (pl 1 79) (pos 1))) x.NoRange))
    (s.Assign (pl 1 85) (x.Variable (pl 1 83) (variable_use 0 ty.Foreach))
    (s.Value (x.Point (pl 1 87) (x.MoreExp (x.Int (pl 1 88) (pos 1)) x.NoExp))))) ∷ []) (pl 1 92)) ∷ []) 0 (codes "main" ∷ [])

-- class Main { static void f(int x, boolean y) { } public static single void main(String[] args) { f(1, 2); } }
abbrev pub an_argument_of_the_wrong_type : ProgramView
an_argument_of_the_wrong_type = program_with_names ((class_with [] []) ∷ [])
    ((method_with 0 ((modifier mw.Static (pl 1 14)) ∷ []) c.Void (pl 1 26) 11
    (c.Params ((param_with (pl 1 32) (type_with ty.Int [] [])) ∷ (param_with (pl 1 43) (type_with ty.Boolean [] [])) ∷ [])) []
    (pl 1 48)) ∷ (method_with 0 ((modifier mw.Public (pl 1 50)) ∷ (modifier mw.Static (pl 1 57)) ∷ (modifier mw.Single (pl 1 64)) ∷ [])
    c.Void (pl 1 76) 12 c.MainArgs ((s.Call (x.Call (pl 1 98) 0 (x.MoreExp (x.Int (pl 1 100) (pos 1))
    (x.MoreExp (x.Int (pl 1 103) (pos 2)) x.NoExp)))) ∷ []) (pl 1 107)) ∷ []) 1 (codes "f" ∷ codes "main" ∷ [])

-- class Main { public static single void main(String[] args) { main(); } }
abbrev pub a_call_of_main : ProgramView
a_call_of_main = program_with_names ((class_with [] []) ∷ []) ((method_with 0
    ((modifier mw.Public (pl 1 14)) ∷ (modifier mw.Static (pl 1 21)) ∷ (modifier mw.Single (pl 1 28)) ∷ []) c.Void (pl 1 40) 11 c.MainArgs
    ((s.Call (x.Call (pl 1 62) 0 x.NoExp)) ∷ []) (pl 1 70)) ∷ []) 0 (codes "main" ∷ [])

-- class Main { public static single void main(String[] args) { if (1) println(2); } }
abbrev pub a_number_as_a_condition : ProgramView
a_number_as_a_condition = program_with_names ((class_with [] []) ∷ []) ((method_with 0
    ((modifier mw.Public (pl 1 14)) ∷ (modifier mw.Static (pl 1 21)) ∷ (modifier mw.Single (pl 1 28)) ∷ []) c.Void (pl 1 40) 11 c.MainArgs
    ((s.If (pl 1 62) (x.Int (pl 1 66) (pos 1)) (s.Print (pl 1 69) (s.Expression (x.Int (pl 1 77) (pos 2))))) ∷ []) (pl 1 81)) ∷ []) 0
    (codes "main" ∷ [])

-- class Main { static void f(int x) { } public static single void main(String[] args) { f(); } }
abbrev pub too_few_arguments : ProgramView
too_few_arguments = program_with_names ((class_with [] []) ∷ []) ((method_with 0 ((modifier mw.Static (pl 1 14)) ∷ []) c.Void (pl 1 26) 11
    (c.Params ((param_with (pl 1 32) (type_with ty.Int [] [])) ∷ [])) [] (pl 1 37)) ∷
    (method_with 0 ((modifier mw.Public (pl 1 39)) ∷ (modifier mw.Static (pl 1 46)) ∷ (modifier mw.Single (pl 1 53)) ∷ []) c.Void
    (pl 1 65) 12 c.MainArgs ((s.Call (x.Call (pl 1 87) 0 x.NoExp)) ∷ []) (pl 1 92)) ∷ []) 1 (codes "f" ∷ codes "main" ∷ [])

-- class Main { public static single void main(String[] args) { Point<2> p = [1]; } }
abbrev pub a_point_of_another_dimension : ProgramView
a_point_of_another_dimension = program_with_names ((class_with [] []) ∷ [])
    ((method_with 0 ((modifier mw.Public (pl 1 14)) ∷ (modifier mw.Static (pl 1 21)) ∷ (modifier mw.Single (pl 1 28)) ∷ []) c.Void
    (pl 1 40) 11 c.MainArgs ((s.Declare (pl 1 71) (type_with (ty.Pt 2) [] []) 0
    (s.Value (x.Point (pl 1 75) (x.MoreExp (x.Int (pl 1 76) (pos 1)) x.NoExp)))) ∷ []) (pl 1 80)) ∷ []) 0 (codes "main" ∷ [])

-- class Main { public static single void main(String[] args) { int [1d] a = new int [0:1]; println(a[true, 1]); } }
abbrev pub too_many_indices : ProgramView
too_many_indices = program_with_names ((class_with [] []) ∷ []) ((method_with 0
    ((modifier mw.Public (pl 1 14)) ∷ (modifier mw.Static (pl 1 21)) ∷ (modifier mw.Single (pl 1 28)) ∷ []) c.Void (pl 1 40) 11 c.MainArgs
    ((s.Declare (pl 1 71) (type_with (ty.Grid ty.Int 1 false) [] ((bracket 1 []) ∷ [])) 0
    (s.NewGrid (pl 1 75) None (type_with ty.Int [] []) (pl 1 83)
    (s.Ranges ((x.Plain (x.Int (pl 1 84) (pos 0)) (x.Int (pl 1 86) (pos 1))) ∷ [])))) ∷
    (s.Print (pl 1 90) (s.Expression (x.Index (pl 1 99) (x.Variable (pl 1 98) (variable_use 0 (ty.Typed false (ty.Grid ty.Int 1 false))))
    (x.MoreExp (x.Truth (pl 1 100) true) (x.MoreExp (x.Int (pl 1 106) (pos 1)) x.NoExp))))) ∷ []) (pl 1 111)) ∷ []) 0 (codes "main" ∷ [])

-- class Main { public static single void main(String[] args) { int [1d] a = new int [0:1]; a.slice(1, 0); } }
abbrev pub a_slice_of_one_dimension : ProgramView
a_slice_of_one_dimension = program_with_names ((class_with [] []) ∷ [])
    ((method_with 0 ((modifier mw.Public (pl 1 14)) ∷ (modifier mw.Static (pl 1 21)) ∷ (modifier mw.Single (pl 1 28)) ∷ []) c.Void
    (pl 1 40) 11 c.MainArgs ((s.Declare (pl 1 71) (type_with (ty.Grid ty.Int 1 false) [] ((bracket 1 []) ∷ [])) 0
    (s.NewGrid (pl 1 75) None (type_with ty.Int [] []) (pl 1 83)
    (s.Ranges ((x.Plain (x.Int (pl 1 84) (pos 0)) (x.Int (pl 1 86) (pos 1))) ∷ [])))) ∷
    (s.Call (x.Member (pl 1 92) (x.Variable (pl 1 90) (variable_use 0 (ty.Typed false (ty.Grid ty.Int 1 false)))) 7
    (x.MoreExp (x.Int (pl 1 98) (pos 1)) (x.MoreExp (x.Int (pl 1 101) (pos 0)) x.NoExp)))) ∷ []) (pl 1 105)) ∷ []) 0 (codes "main" ∷ [])

-- class Main { static int f() { return 1; } public static single void main(String[] args) { boolean b = 1 + f(); } }
abbrev pub a_call_in_an_expression : ProgramView
a_call_in_an_expression = program_with_names ((class_with [] []) ∷ []) ((method_with 0 ((modifier mw.Static (pl 1 14)) ∷ [])
    (c.Typed (type_with ty.Int [] [])) (pl 1 25) 11 (c.Params []) ((s.Return (pl 1 31) (Some (x.Int (pl 1 38) (pos 1)))) ∷ [])
    (pl 1 41)) ∷ (method_with 0 ((modifier mw.Public (pl 1 43)) ∷ (modifier mw.Static (pl 1 50)) ∷ (modifier mw.Single (pl 1 57)) ∷ [])
    c.Void (pl 1 69) 12 c.MainArgs ((s.Declare (pl 1 99) (type_with ty.Boolean [] []) 0
    (s.Value (x.Binary (pl 1 105) b.Add (x.Int (pl 1 103) (pos 1)) (x.Call (pl 1 107) 0 x.NoExp)))) ∷ []) (pl 1 112)) ∷ []) 1
    (codes "f" ∷ codes "main" ∷ [])

-- class Main { static void f() { } public static single void main(String[] args) { int x = f(); } }
abbrev pub nothing_as_a_value : ProgramView
nothing_as_a_value = program_with_names ((class_with [] []) ∷ []) ((method_with 0 ((modifier mw.Static (pl 1 14)) ∷ []) c.Void (pl 1 26) 11
    (c.Params []) [] (pl 1 32)) ∷ (method_with 0 ((modifier mw.Public (pl 1 34)) ∷ (modifier mw.Static (pl 1 41)) ∷
    (modifier mw.Single (pl 1 48)) ∷ []) c.Void (pl 1 60) 12 c.MainArgs
    ((s.Declare (pl 1 86) (type_with ty.Int [] []) 0 (s.Value (x.Call (pl 1 90) 0 x.NoExp))) ∷ []) (pl 1 95)) ∷ []) 1
    (codes "f" ∷ codes "main" ∷ [])

-- class Main { static int f() { } public static single void main(String[] args) {  } }
abbrev pub no_last_return : ProgramView
no_last_return = program_with_names ((class_with [] []) ∷ []) ((method_with 0 ((modifier mw.Static (pl 1 14)) ∷ [])
    (c.Typed (type_with ty.Int [] [])) (pl 1 25) 11 (c.Params []) [] (pl 1 31)) ∷
    (method_with 0 ((modifier mw.Public (pl 1 33)) ∷ (modifier mw.Static (pl 1 40)) ∷ (modifier mw.Single (pl 1 47)) ∷ []) c.Void
    (pl 1 59) 12 c.MainArgs [] (pl 1 82)) ∷ []) 1 (codes "f" ∷ codes "main" ∷ [])

-- class Main { public static single void main(String[] args) { return 1; } }
abbrev pub a_value_from_main : ProgramView
a_value_from_main = program_with_names ((class_with [] []) ∷ []) ((method_with 0
    ((modifier mw.Public (pl 1 14)) ∷ (modifier mw.Static (pl 1 21)) ∷ (modifier mw.Single (pl 1 28)) ∷ []) c.Void (pl 1 40) 11 c.MainArgs
    ((s.Return (pl 1 62) (Some (x.Int (pl 1 69) (pos 1)))) ∷ []) (pl 1 72)) ∷ []) 0 (codes "main" ∷ [])

-- class Main { public static single void main(String[] args) { int local x = 1; } }
abbrev pub a_local_number : ProgramView
a_local_number = program_with_names ((class_with [] []) ∷ []) ((method_with 0
    ((modifier mw.Public (pl 1 14)) ∷ (modifier mw.Static (pl 1 21)) ∷ (modifier mw.Single (pl 1 28)) ∷ []) c.Void (pl 1 40) 11 c.MainArgs
    ((s.Declare (pl 1 72) (type_with ty.Int ((qualifier word.Local (pl 1 66)) ∷ []) []) 0 (s.Value (x.Int (pl 1 76) (pos 1)))) ∷ [])
    (pl 1 79)) ∷ []) 0 (codes "main" ∷ [])

-- class Main { public static single void main(String[] args) { int single single x = 1; } }
abbrev pub a_word_twice : ProgramView
a_word_twice = program_with_names ((class_with [] []) ∷ []) ((method_with 0
    ((modifier mw.Public (pl 1 14)) ∷ (modifier mw.Static (pl 1 21)) ∷ (modifier mw.Single (pl 1 28)) ∷ []) c.Void (pl 1 40) 11 c.MainArgs
    ((s.Declare (pl 1 80) (type_with ty.Int ((qualifier word.Single (pl 1 66)) ∷ (qualifier word.Single (pl 1 73)) ∷ []) []) 0
    (s.Value (x.Int (pl 1 84) (pos 1)))) ∷ []) (pl 1 87)) ∷ []) 0 (codes "main" ∷ [])

-- class Main { static void f(int single x) { } public static single void main(String[] args) {  } }
abbrev pub a_single_parameter_of_a_plain_method : ProgramView
a_single_parameter_of_a_plain_method = program_with_names ((class_with [] []) ∷ [])
    ((method_with 0 ((modifier mw.Static (pl 1 14)) ∷ []) c.Void (pl 1 26) 11
    (c.Params ((param_with (pl 1 39) (type_with ty.Int ((qualifier word.Single (pl 1 32)) ∷ []) [])) ∷ [])) [] (pl 1 44)) ∷
    (method_with 0 ((modifier mw.Public (pl 1 46)) ∷ (modifier mw.Static (pl 1 53)) ∷ (modifier mw.Single (pl 1 60)) ∷ []) c.Void
    (pl 1 72) 12 c.MainArgs [] (pl 1 95)) ∷ []) 1 (codes "f" ∷ codes "main" ∷ [])

-- class C { static int v; } class Main { public static single void main(String[] args) {  } }
abbrev pub a_static_field : ProgramView
a_static_field = program_with_names ((class_with [] ((field_with ((modifier mw.Static (pl 1 11)) ∷ []) (type_with ty.Int [] []) 11) ∷ [])) ∷
    (class_with [] []) ∷ []) ((method_with 1 ((modifier mw.Public (pl 1 40)) ∷ (modifier mw.Static (pl 1 47)) ∷
    (modifier mw.Single (pl 1 54)) ∷ []) c.Void (pl 1 66) 12 c.MainArgs [] (pl 1 89)) ∷ []) 0 (codes "v" ∷ codes "main" ∷ [])

-- class Main { public static single void main(String[] args) { break; } }
abbrev pub a_break_outside_a_loop : ProgramView
a_break_outside_a_loop = program_with_names ((class_with [] []) ∷ []) ((method_with 0
    ((modifier mw.Public (pl 1 14)) ∷ (modifier mw.Static (pl 1 21)) ∷ (modifier mw.Single (pl 1 28)) ∷ []) c.Void (pl 1 40) 11 c.MainArgs
    ((s.Break (pl 1 62)) ∷ []) (pl 1 69)) ∷ []) 0 (codes "main" ∷ [])

-- class C { int v; } class Main { public static single void main(String[] args) { C x = null; C local y = x; } }
abbrev pub a_global_reference_for_a_local_one : ProgramView
a_global_reference_for_a_local_one = program_with_names ((class_with [] ((field_with [] (type_with ty.Int [] []) 11) ∷ [])) ∷ (class_with [] []) ∷
    []) ((method_with 1 ((modifier mw.Public (pl 1 33)) ∷ (modifier mw.Static (pl 1 40)) ∷ (modifier mw.Single (pl 1 47)) ∷ []) c.Void
    (pl 1 59) 12 c.MainArgs ((s.Declare (pl 1 83) (type_with (ty.Class 0 false) [] []) 0 (s.Value (x.Null (pl 1 87)))) ∷
    (s.Declare (pl 1 101) (type_with (ty.Class 0 true) ((qualifier word.Local (pl 1 95)) ∷ []) []) 1
    (s.Value (x.Variable (pl 1 105) (variable_use 0 (ty.Typed false (ty.Class 0 false)))))) ∷ []) (pl 1 108)) ∷ []) 0
    (codes "v" ∷ codes "main" ∷ [])

-- class C { C local next; } class Main { public static single void main(String[] args) { C x = new C(); x.next = null; } }
abbrev pub a_local_field_written_through_a_global_reference : ProgramView
a_local_field_written_through_a_global_reference = program_with_names ((class_with []
    ((field_with [] (type_with (ty.Class 0 true) ((qualifier word.Local (pl 1 13)) ∷ []) []) 11) ∷ [])) ∷ (class_with [] []) ∷ [])
    ((method_with 1 ((modifier mw.Public (pl 1 40)) ∷ (modifier mw.Static (pl 1 47)) ∷ (modifier mw.Single (pl 1 54)) ∷ []) c.Void
    (pl 1 66) 12 c.MainArgs ((s.Declare (pl 1 90) (type_with (ty.Class 0 false) [] []) 0 (s.NewObject (pl 1 94) None 0)) ∷
    (s.Assign (pl 1 110) (x.Select (pl 1 105) (x.Variable (pl 1 103) (variable_use 0 (ty.Typed false (ty.Class 0 false)))) 11)
    (s.Value (x.Null (pl 1 112)))) ∷ []) (pl 1 118)) ∷ []) 0 (codes "next" ∷ codes "main" ∷ [])

-- class C { int v; } class Main { public static single void main(String[] args) { C local [1d] a = new C local [0:0]; a.copy(a); } }
abbrev pub a_copy_of_local_elements : ProgramView
a_copy_of_local_elements = program_with_names ((class_with [] ((field_with [] (type_with ty.Int [] []) 11) ∷ [])) ∷ (class_with [] []) ∷ [])
    ((method_with 1 ((modifier mw.Public (pl 1 33)) ∷ (modifier mw.Static (pl 1 40)) ∷ (modifier mw.Single (pl 1 47)) ∷ []) c.Void
    (pl 1 59) 12 c.MainArgs ((s.Declare (pl 1 94) (type_with (ty.Grid (ty.Class 0 true) 1 false) ((qualifier word.Local (pl 1 83)) ∷ [])
    ((bracket 1 []) ∷ [])) 0 (s.NewGrid (pl 1 98) None (type_with (ty.Class 0 true) ((qualifier word.Local (pl 1 104)) ∷ []) [])
    (pl 1 110) (s.Ranges ((x.Plain (x.Int (pl 1 111) (pos 0)) (x.Int (pl 1 113) (pos 0))) ∷ [])))) ∷
    (s.Call (x.Member (pl 1 119) (x.Variable (pl 1 117) (variable_use 0 (ty.Typed false (ty.Grid (ty.Class 0 true) 1 false)))) 8
    (x.MoreExp (x.Variable (pl 1 124) (variable_use 0 (ty.Typed false (ty.Grid (ty.Class 0 true) 1 false)))) x.NoExp))) ∷ []) (pl 1 128)) ∷ []) 0
    (codes "v" ∷ codes "main" ∷ [])

-- class C { int v; } class Main { public static single void main(String[] args) { C local [1d] a = new C local [0:0]; C c = new C();
-- a.exchange(c); } }
abbrev pub an_exchange_into_local_elements : ProgramView
an_exchange_into_local_elements = program_with_names ((class_with [] ((field_with [] (type_with ty.Int [] []) 11) ∷ [])) ∷ (class_with [] []) ∷
    []) ((method_with 1 ((modifier mw.Public (pl 1 33)) ∷ (modifier mw.Static (pl 1 40)) ∷ (modifier mw.Single (pl 1 47)) ∷ []) c.Void
    (pl 1 59) 12 c.MainArgs ((s.Declare (pl 1 94) (type_with (ty.Grid (ty.Class 0 true) 1 false) ((qualifier word.Local (pl 1 83)) ∷ [])
    ((bracket 1 []) ∷ [])) 0 (s.NewGrid (pl 1 98) None (type_with (ty.Class 0 true) ((qualifier word.Local (pl 1 104)) ∷ []) [])
    (pl 1 110) (s.Ranges ((x.Plain (x.Int (pl 1 111) (pos 0)) (x.Int (pl 1 113) (pos 0))) ∷ [])))) ∷
    (s.Declare (pl 1 119) (type_with (ty.Class 0 false) [] []) 1 (s.NewObject (pl 1 123) None 0)) ∷
    (s.Call (x.Member (pl 1 134) (x.Variable (pl 1 132) (variable_use 0 (ty.Typed false (ty.Grid (ty.Class 0 true) 1 false)))) 9
    (x.MoreExp (x.Variable (pl 1 143) (variable_use 1 (ty.Typed false (ty.Class 0 false)))) x.NoExp))) ∷ []) (pl 1 147)) ∷ []) 0
    (codes "v" ∷ codes "main" ∷ [])

-- class Main { public static single void main(String[] args) { if (Ti.thisProc() == 0) { Ti.barrier(); } boolean b = 1; } }
abbrev pub types_come_before_single_values : ProgramView
types_come_before_single_values = program_with_names ((class_with [] []) ∷ [])
    ((method_with 0 ((modifier mw.Public (pl 1 14)) ∷ (modifier mw.Static (pl 1 21)) ∷ (modifier mw.Single (pl 1 28)) ∷ []) c.Void
    (pl 1 40) 11 c.MainArgs ((s.If (pl 1 62) (x.Binary (pl 1 80) b.Equal (x.ThisProc (pl 1 66)) (x.Int (pl 1 83) (pos 0)))
    (s.Block (s.Cons (s.Barrier (pl 1 91)) s.Nil))) ∷ (s.Declare (pl 1 112) (type_with ty.Boolean [] []) 0
    (s.Value (x.Int (pl 1 116) (pos 1)))) ∷ []) (pl 1 119)) ∷ []) 0 (codes "main" ∷ [])
