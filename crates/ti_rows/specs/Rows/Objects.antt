-- Programs of worked examples: objects and their fields.
use Rattle.std.specs.Prelude.{pos, true, false, [], ◌∷◌, None, codes}
use Rattle.ti_lang.specs.Program.Types as t
use Rattle.ti_lang.specs.Program.Expressions as e
use Rattle.ti_lang.specs.Program.Statements as s
use Rattle.ti_lang.specs.Program.Classes as c
use Rattle.ti_lang.specs.Meaning.Processes.{RunConfig}
use Rattle.ti_rows.specs.Texts.{pl, nonsingle_type, var, class_with_fields, field, single_method, text}

-- class C { C local next; } class Main { public static single void main(String[] args) { C local x = new C(); x.next = null; } }
abbrev pub a_local_field : RunConfig
a_local_field = text 1 100000 (class_with_fields (field (t.Class 0 true) 11 ∷ []) ∷ class_with_fields [] ∷ [])
    (single_method 1 c.Void 12 c.MainArgs ((s.Declare (pl 1 96) (nonsingle_type (t.Class 0 true)) 0 (s.NewObject (pl 1 100) None 0)) ∷
    (s.Assign (pl 1 116) (e.Select (pl 1 111) (var (pl 1 109) 0 (t.Class 0 true)) 11) (s.Value (e.Null (pl 1 118)))) ∷ []) (pl 1 124) ∷
    []) 0 ((codes "next") ∷ (codes "main") ∷ []) []

-- class C { int v; } class Main { public static single void main(String[] args) { C x = null; println(x.v); } }
abbrev pub a_field_of_null : RunConfig
a_field_of_null = text 1 100000 (class_with_fields (field t.Int 11 ∷ []) ∷ class_with_fields [] ∷ [])
    (single_method 1 c.Void 12 c.MainArgs ((s.Declare (pl 1 83) (nonsingle_type (t.Class 0 false)) 0 (s.Value (e.Null (pl 1 87)))) ∷
    (s.Print (pl 1 93) (s.Expression (e.Select (pl 1 103) (var (pl 1 101) 0 (t.Class 0 false)) 11))) ∷ []) (pl 1 107) ∷ []) 0
    ((codes "v") ∷ (codes "main") ∷ []) []

-- class C { int v; } class Main { public static single void main(String[] args) { C c = null; c.v = 1; } }
abbrev pub a_write_to_null : RunConfig
a_write_to_null = text 1 100000 (class_with_fields (field t.Int 11 ∷ []) ∷ class_with_fields [] ∷ [])
    (single_method 1 c.Void 12 c.MainArgs ((s.Declare (pl 1 83) (nonsingle_type (t.Class 0 false)) 0 (s.Value (e.Null (pl 1 87)))) ∷
    (s.Assign (pl 1 97) (e.Select (pl 1 95) (var (pl 1 93) 0 (t.Class 0 false)) 11) (s.Value (e.Int (pl 1 99) (pos 1)))) ∷ [])
    (pl 1 102) ∷ []) 0 ((codes "v") ∷ (codes "main") ∷ []) []

-- class C { int v; } class Main { public static single void main(String[] args) { C x = new C(); C y = broadcast x from 0; C local z = (C
-- local) y; println(Ti.thisProc()); } }
abbrev pub a_cast_to_local : RunConfig
a_cast_to_local = text 2 100000 (class_with_fields (field t.Int 11 ∷ []) ∷ class_with_fields [] ∷ [])
    (single_method 1 c.Void 12 c.MainArgs ((s.Declare (pl 1 83) (nonsingle_type (t.Class 0 false)) 0 (s.NewObject (pl 1 87) None 0)) ∷
    (s.Declare (pl 1 98) (nonsingle_type (t.Class 0 false)) 1 (s.Broadcast (pl 1 102) (var (pl 1 112) 0 (t.Class 0 false))
    (e.Int (pl 1 119) (pos 0)))) ∷ (s.Declare (pl 1 130) (nonsingle_type (t.Class 0 true)) 2
    (s.Value (e.Cast (pl 1 134) (nonsingle_type (t.Class 0 true)) (var (pl 1 144) 1 (t.Class 0 false))))) ∷
    (s.Print (pl 1 147) (s.Expression (e.ThisProc (pl 1 155)))) ∷ []) (pl 1 171) ∷ []) 0 ((codes "v") ∷ (codes "main") ∷ []) []
