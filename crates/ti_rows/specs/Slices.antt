-- Programs whose program slices are worked examples.
use Rattle.std.specs.Prelude.{ℕ, pos, [], ◌∷◌, codes}
use Rattle.ti_base.specs.declared.point.Point.{Point}
use Rattle.ti_lang.specs.Program.Expressions as e
use Rattle.ti_lang.specs.Program.Statements as s
use Rattle.ti_lang.specs.Program.Classes as c
use Rattle.ti_lang.specs.Meaning.Processes.{RunConfig}
use Rattle.ti_rows.specs.Texts.{pl, xs, class_with_fields, single_method, text}

-- a point of two dimensions
abbrev pub two : ℕ → ℕ → Point
two x y = record { dim = 2; x1 = pos x; x2 = pos y; x3 = pos 0 }

-- the setting with another amount of fuel
abbrev pub with_fuel : ℕ → RunConfig → RunConfig
with_fuel fuel s = record s { fuel = fuel }

-- class Main { static single void f() { f(); Ti.barrier(); } public static single void main(String[] args) { f(); } }
abbrev pub a_single_recursion : RunConfig
a_single_recursion = text 1 100000 (class_with_fields [] ∷ []) (single_method 0 c.Void 11 (c.Params [])
    ((s.Call (e.Call (pl 1 39) 0 (xs []))) ∷ (s.Barrier (pl 1 47)) ∷ []) (pl 1 58) ∷
    single_method 0 c.Void 12 c.MainArgs ((s.Call (e.Call (pl 1 108) 0 (xs []))) ∷ []) (pl 1 113) ∷ []) 1 (codes "f" ∷ codes "main" ∷ []) []
