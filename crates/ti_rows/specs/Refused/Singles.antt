-- Programs that break a rule of single values.
use Rattle.std.specs.Prelude.{pos, true, false, [], ◌∷◌, None, Some, codes}
use Rattle.ti_syntax.specs.declared.tree.exprs.BinaryOperator.TheVariants as b
use Rattle.ti_syntax.specs.declared.tree.stmts.StepOperator.TheVariants as step
use Rattle.ti_syntax.specs.declared.tree.types.QualifierWord.TheVariants as word
use Rattle.ti_syntax.specs.declared.tree.classes.ModifierWord.TheVariants as mw
use Rattle.ti_lang.specs.Program.Types as ty
use Rattle.ti_lang.specs.Program.Expressions as x
use Rattle.ti_lang.specs.Program.Statements as s
use Rattle.ti_lang.specs.Program.Classes.{ProgramView}
use Rattle.ti_lang.specs.Program.Classes as c
use Rattle.ti_rows.specs.Texts.{pl}
use Rattle.ti_rows.specs.Words.{qualifier, modifier, type_with, variable_use, field_with, class_with, param_with, method_with, program_with_names}

-- class Main { public static single void main(String[] args) { if (Ti.thisProc() == 0) { Ti.barrier(); } } }
abbrev pub a_barrier_under_the_own_number : ProgramView
a_barrier_under_the_own_number = program_with_names ((class_with [] []) ∷ [])
    ((method_with 0 ((modifier mw.Public (pl 1 14)) ∷ (modifier mw.Static (pl 1 21)) ∷ (modifier mw.Single (pl 1 28)) ∷ []) c.Void
    (pl 1 40) 11 c.MainArgs ((s.If (pl 1 62) (x.Binary (pl 1 80) b.Equal (x.ThisProc (pl 1 66)) (x.Int (pl 1 83) (pos 0)))
    (s.Block (s.Cons (s.Barrier (pl 1 91)) s.Nil))) ∷ []) (pl 1 104)) ∷ []) 0 (codes "main" ∷ [])

-- class C { int v; } class Main { public static single void main(String[] args) { C c = new C(); if (c.v == 0) { Ti.barrier(); } } }
abbrev pub a_barrier_under_a_field : ProgramView
a_barrier_under_a_field = program_with_names ((class_with [] ((field_with [] (type_with ty.Int [] []) 11) ∷ [])) ∷ (class_with [] []) ∷ [])
    ((method_with 1 ((modifier mw.Public (pl 1 33)) ∷ (modifier mw.Static (pl 1 40)) ∷ (modifier mw.Single (pl 1 47)) ∷ []) c.Void
    (pl 1 59) 12 c.MainArgs ((s.Declare (pl 1 83) (type_with (ty.Class 0 false) [] []) 0 (s.NewObject (pl 1 87) None 0)) ∷
    (s.If (pl 1 96) (x.Binary (pl 1 104) b.Equal (x.Select (pl 1 102)
    (x.Variable (pl 1 100) (variable_use 0 (ty.Typed false (ty.Class 0 false)))) 11) (x.Int (pl 1 107) (pos 0)))
    (s.Block (s.Cons (s.Barrier (pl 1 115)) s.Nil))) ∷ []) (pl 1 128)) ∷ []) 0 (codes "v" ∷ codes "main" ∷ [])

-- class Main { public static single void main(String[] args) { int single k = 0; if (Ti.thisProc() == 0) { k = 1; } } }
abbrev pub a_single_variable_changed_under_the_own_number : ProgramView
a_single_variable_changed_under_the_own_number = program_with_names ((class_with [] []) ∷ [])
    ((method_with 0 ((modifier mw.Public (pl 1 14)) ∷ (modifier mw.Static (pl 1 21)) ∷ (modifier mw.Single (pl 1 28)) ∷ []) c.Void
    (pl 1 40) 11 c.MainArgs ((s.Declare (pl 1 73) (type_with ty.Int ((qualifier word.Single (pl 1 66)) ∷ []) []) 0
    (s.Value (x.Int (pl 1 77) (pos 0)))) ∷ (s.If (pl 1 80) (x.Binary (pl 1 98) b.Equal (x.ThisProc (pl 1 84)) (x.Int (pl 1 101) (pos 0)))
    (s.Block (s.Cons (s.Assign (pl 1 108) (x.Variable (pl 1 106) (variable_use 0 (ty.Typed true ty.Int))) (s.Value (x.Int (pl 1 110) (pos 1))))
    s.Nil))) ∷ []) (pl 1 115)) ∷ []) 0 (codes "main" ∷ [])

-- class Main { public static single void main(String[] args) { while (true) { Ti.barrier(); if (Ti.thisProc() == 0) break; } } }
abbrev pub a_break_under_the_own_number : ProgramView
a_break_under_the_own_number = program_with_names ((class_with [] []) ∷ [])
    ((method_with 0 ((modifier mw.Public (pl 1 14)) ∷ (modifier mw.Static (pl 1 21)) ∷ (modifier mw.Single (pl 1 28)) ∷ []) c.Void
    (pl 1 40) 11 c.MainArgs ((s.While (pl 1 62) (x.Truth (pl 1 69) true)
    (s.Block (s.Cons (s.Barrier (pl 1 80)) (s.Cons (s.If (pl 1 91)
    (x.Binary (pl 1 109) b.Equal (x.ThisProc (pl 1 95)) (x.Int (pl 1 112) (pos 0))) (s.Break (pl 1 115))) s.Nil)))) ∷ []) (pl 1 124)) ∷
    []) 0 (codes "main" ∷ [])

-- class Main { public static single void main(String[] args) { while (Ti.numProcs() > 0) { if (Ti.thisProc() == 0) break; return; }
-- Ti.barrier(); } }
abbrev pub a_break_that_decides_a_return : ProgramView
a_break_that_decides_a_return = program_with_names ((class_with [] []) ∷ [])
    ((method_with 0 ((modifier mw.Public (pl 1 14)) ∷ (modifier mw.Static (pl 1 21)) ∷ (modifier mw.Single (pl 1 28)) ∷ []) c.Void
    (pl 1 40) 11 c.MainArgs ((s.While (pl 1 62) (x.Binary (pl 1 83) b.Greater (x.NumProcs (pl 1 69)) (x.Int (pl 1 85) (pos 0)))
    (s.Block (s.Cons (s.If (pl 1 90) (x.Binary (pl 1 108) b.Equal (x.ThisProc (pl 1 94)) (x.Int (pl 1 111) (pos 0))) (s.Break (pl 1 114)))
    (s.Cons (s.Return (pl 1 121) None) s.Nil)))) ∷ (s.Barrier (pl 1 134)) ∷ []) (pl 1 145)) ∷ []) 0 (codes "main" ∷ [])

-- class Main { public static single void main(String[] args) { int k = Ti.thisProc(); while (k > 0) { Ti.barrier(); k = k - 2; } } }
abbrev pub a_loop_under_the_own_number : ProgramView
a_loop_under_the_own_number = program_with_names ((class_with [] []) ∷ [])
    ((method_with 0 ((modifier mw.Public (pl 1 14)) ∷ (modifier mw.Static (pl 1 21)) ∷ (modifier mw.Single (pl 1 28)) ∷ []) c.Void
    (pl 1 40) 11 c.MainArgs ((s.Declare (pl 1 66) (type_with ty.Int [] []) 0 (s.Value (x.ThisProc (pl 1 70)))) ∷
    (s.While (pl 1 85) (x.Binary (pl 1 94) b.Greater (x.Variable (pl 1 92) (variable_use 0 (ty.Typed false ty.Int))) (x.Int (pl 1 96) (pos 0)))
    (s.Block (s.Cons (s.Barrier (pl 1 104)) (s.Cons (s.Assign (pl 1 117) (x.Variable (pl 1 115) (variable_use 0 (ty.Typed false ty.Int)))
    (s.Value (x.Binary (pl 1 121) b.Subtract (x.Variable (pl 1 119) (variable_use 0 (ty.Typed false ty.Int))) (x.Int (pl 1 123) (pos 2)))))
    s.Nil)))) ∷ []) (pl 1 128)) ∷ []) 0 (codes "main" ∷ [])

-- class Main { public static single void main(String[] args) { int single k = 0; for (; Ti.thisProc() > 0; k++) { } } }
abbrev pub a_single_update : ProgramView
a_single_update = program_with_names ((class_with [] []) ∷ []) ((method_with 0
    ((modifier mw.Public (pl 1 14)) ∷ (modifier mw.Static (pl 1 21)) ∷ (modifier mw.Single (pl 1 28)) ∷ []) c.Void (pl 1 40) 11 c.MainArgs
    ((s.Declare (pl 1 73) (type_with ty.Int ((qualifier word.Single (pl 1 66)) ∷ []) []) 0 (s.Value (x.Int (pl 1 77) (pos 0)))) ∷
    (s.For (pl 1 80) s.NoStm (Some (x.Binary (pl 1 101) b.Greater (x.ThisProc (pl 1 87)) (x.Int (pl 1 103) (pos 0))))
    (s.SomeStm (s.Step (pl 1 107) step.Increment (x.Variable (pl 1 106) (variable_use 0 (ty.Typed true ty.Int))))) (s.Block s.Nil)) ∷ [])
    (pl 1 115)) ∷ []) 0 (codes "main" ∷ [])

-- class Main { public static single void main(String[] args) { foreach (p in [0:Ti.thisProc()]) Ti.barrier(); } }
abbrev pub a_barrier_in_a_foreach_over_a_plain_domain : ProgramView
a_barrier_in_a_foreach_over_a_plain_domain = program_with_names ((class_with [] []) ∷ [])
    ((method_with 0 ((modifier mw.Public (pl 1 14)) ∷ (modifier mw.Static (pl 1 21)) ∷ (modifier mw.Single (pl 1 28)) ∷ []) c.Void
    (pl 1 40) 11 c.MainArgs ((s.Foreach (pl 1 62) 0 (x.Rect (pl 1 76)
    (x.MoreRange (x.Plain (x.Int (pl 1 77) (pos 0)) (x.ThisProc (pl 1 79))) x.NoRange)) (s.Barrier (pl 1 98))) ∷ []) (pl 1 109)) ∷ []) 0
    (codes "main" ∷ [])

-- class Main { public static single void main(String[] args) { int single k = Ti.thisProc(); } }
abbrev pub a_plain_value_for_a_single_variable : ProgramView
a_plain_value_for_a_single_variable = program_with_names ((class_with [] []) ∷ [])
    ((method_with 0 ((modifier mw.Public (pl 1 14)) ∷ (modifier mw.Static (pl 1 21)) ∷ (modifier mw.Single (pl 1 28)) ∷ []) c.Void
    (pl 1 40) 11 c.MainArgs ((s.Declare (pl 1 73) (type_with ty.Int ((qualifier word.Single (pl 1 66)) ∷ []) []) 0
    (s.Value (x.ThisProc (pl 1 77)))) ∷ []) (pl 1 92)) ∷ []) 0 (codes "main" ∷ [])

-- class Main { public static single void main(String[] args) { int single k = 0; k += Ti.thisProc(); } }
abbrev pub a_plain_value_is_added : ProgramView
a_plain_value_is_added = program_with_names ((class_with [] []) ∷ []) ((method_with 0
    ((modifier mw.Public (pl 1 14)) ∷ (modifier mw.Static (pl 1 21)) ∷ (modifier mw.Single (pl 1 28)) ∷ []) c.Void (pl 1 40) 11 c.MainArgs
    ((s.Declare (pl 1 73) (type_with ty.Int ((qualifier word.Single (pl 1 66)) ∷ []) []) 0 (s.Value (x.Int (pl 1 77) (pos 0)))) ∷
    (s.Update (pl 1 82) b.Add (x.Variable (pl 1 80) (variable_use 0 (ty.Typed true ty.Int))) (x.ThisProc (pl 1 85))) ∷ []) (pl 1 100)) ∷ []) 0
    (codes "main" ∷ [])

-- class Main { static single void f(int single x) { } public static single void main(String[] args) { f(Ti.thisProc()); } }
abbrev pub a_plain_argument : ProgramView
a_plain_argument = program_with_names ((class_with [] []) ∷ []) ((method_with 0
    ((modifier mw.Static (pl 1 14)) ∷ (modifier mw.Single (pl 1 21)) ∷ []) c.Void (pl 1 33) 11
    (c.Params ((param_with (pl 1 46) (type_with ty.Int ((qualifier word.Single (pl 1 39)) ∷ []) [])) ∷ [])) [] (pl 1 51)) ∷
    (method_with 0 ((modifier mw.Public (pl 1 53)) ∷ (modifier mw.Static (pl 1 60)) ∷ (modifier mw.Single (pl 1 67)) ∷ []) c.Void
    (pl 1 79) 12 c.MainArgs ((s.Call (x.Call (pl 1 101) 0 (x.MoreExp (x.ThisProc (pl 1 103)) x.NoExp))) ∷ []) (pl 1 119)) ∷ []) 1
    (codes "f" ∷ codes "main" ∷ [])

-- class Main { static void f() { Ti.barrier(); } public static single void main(String[] args) { f(); } }
abbrev pub global_effects_in_a_plain_method : ProgramView
global_effects_in_a_plain_method = program_with_names ((class_with [] []) ∷ [])
    ((method_with 0 ((modifier mw.Static (pl 1 14)) ∷ []) c.Void (pl 1 26) 11 (c.Params []) ((s.Barrier (pl 1 35)) ∷ []) (pl 1 46)) ∷
    (method_with 0 ((modifier mw.Public (pl 1 48)) ∷ (modifier mw.Static (pl 1 55)) ∷ (modifier mw.Single (pl 1 62)) ∷ []) c.Void
    (pl 1 74) 12 c.MainArgs ((s.Call (x.Call (pl 1 96) 0 x.NoExp)) ∷ []) (pl 1 101)) ∷ []) 1 (codes "f" ∷ codes "main" ∷ [])

-- class Main { static single int single f() { return Ti.thisProc(); } public static single void main(String[] args) {  } }
abbrev pub a_plain_value_returned_as_single : ProgramView
a_plain_value_returned_as_single = program_with_names ((class_with [] []) ∷ [])
    ((method_with 0 ((modifier mw.Static (pl 1 14)) ∷ (modifier mw.Single (pl 1 21)) ∷ [])
    (c.Typed (type_with ty.Int ((qualifier word.Single (pl 1 32)) ∷ []) [])) (pl 1 39) 11 (c.Params [])
    ((s.Return (pl 1 45) (Some (x.ThisProc (pl 1 52)))) ∷ []) (pl 1 67)) ∷
    (method_with 0 ((modifier mw.Public (pl 1 69)) ∷ (modifier mw.Static (pl 1 76)) ∷ (modifier mw.Single (pl 1 83)) ∷ []) c.Void
    (pl 1 95) 12 c.MainArgs [] (pl 1 118)) ∷ []) 1 (codes "f" ∷ codes "main" ∷ [])

-- class Main { public static single void main(String[] args) { int k = broadcast 1 from Ti.thisProc(); } }
abbrev pub a_plain_root : ProgramView
a_plain_root = program_with_names ((class_with [] []) ∷ []) ((method_with 0
    ((modifier mw.Public (pl 1 14)) ∷ (modifier mw.Static (pl 1 21)) ∷ (modifier mw.Single (pl 1 28)) ∷ []) c.Void (pl 1 40) 11 c.MainArgs
    ((s.Declare (pl 1 66) (type_with ty.Int [] []) 0 (s.Broadcast (pl 1 70) (x.Int (pl 1 80) (pos 1)) (x.ThisProc (pl 1 87)))) ∷ [])
    (pl 1 102)) ∷ []) 0 (codes "main" ∷ [])

-- class Main { public static single void main(String[] args) { SharedRegion r = new SharedRegion(); r.delete(); } }
abbrev pub a_plain_region_is_deleted : ProgramView
a_plain_region_is_deleted = program_with_names ((class_with [] []) ∷ [])
    ((method_with 0 ((modifier mw.Public (pl 1 14)) ∷ (modifier mw.Static (pl 1 21)) ∷ (modifier mw.Single (pl 1 28)) ∷ []) c.Void
    (pl 1 40) 11 c.MainArgs ((s.Declare (pl 1 75) (type_with ty.Region [] []) 0 (s.NewRegion (pl 1 79))) ∷
    (s.Call (x.Member (pl 1 101) (x.Variable (pl 1 99) (variable_use 0 (ty.Typed false ty.Region))) 10 x.NoExp)) ∷ []) (pl 1 111)) ∷ []) 0
    (codes "main" ∷ [])

-- class Main { static int single f() { return 1; } public static single void main(String[] args) {  } }
abbrev pub a_single_result_of_a_plain_method : ProgramView
a_single_result_of_a_plain_method = program_with_names ((class_with [] []) ∷ [])
    ((method_with 0 ((modifier mw.Static (pl 1 14)) ∷ []) (c.Typed (type_with ty.Int ((qualifier word.Single (pl 1 25)) ∷ []) []))
    (pl 1 32) 11 (c.Params []) ((s.Return (pl 1 38) (Some (x.Int (pl 1 45) (pos 1)))) ∷ []) (pl 1 48)) ∷
    (method_with 0 ((modifier mw.Public (pl 1 50)) ∷ (modifier mw.Static (pl 1 57)) ∷ (modifier mw.Single (pl 1 64)) ∷ []) c.Void
    (pl 1 76) 12 c.MainArgs [] (pl 1 99)) ∷ []) 1 (codes "f" ∷ codes "main" ∷ [])
