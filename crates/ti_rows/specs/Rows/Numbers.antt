-- Programs of worked examples: integers, booleans and prints.
use Rattle.std.specs.Prelude.{pos, true, false, [], ◌∷◌, codes}
use Rattle.ti_syntax.specs.declared.tree.exprs.UnaryOperator.TheVariants as un
use Rattle.ti_syntax.specs.declared.tree.exprs.BinaryOperator.TheVariants as op
use Rattle.ti_lang.specs.Program.Types as t
use Rattle.ti_lang.specs.Program.Expressions as e
use Rattle.ti_lang.specs.Program.Statements as s
use Rattle.ti_lang.specs.Meaning.Processes.{RunConfig}
use Rattle.ti_rows.specs.Texts.{pl, nonsingle_type, var, main_only_run}

-- class Main { public static single void main(String[] args) { println(-2147483647 - 1); println((-2147483647 - 1) / -1);
-- println((-2147483647 - 1) % -1); println(7 / -2); println(-7 % 2); } }
abbrev pub sums_and_quotients : RunConfig
sums_and_quotients = main_only_run 1 100000 [] ((s.Print (pl 1 62) (s.Expression
    (e.Binary (pl 1 82) op.Subtract (e.Unary (pl 1 70) un.Minus (e.Int (pl 1 71) (pos 2147483647))) (e.Int (pl 1 84) (pos 1))))) ∷
    (s.Print (pl 1 88) (s.Expression (e.Binary (pl 1 114) op.Divide
    (e.Binary (pl 1 109) op.Subtract (e.Unary (pl 1 97) un.Minus (e.Int (pl 1 98) (pos 2147483647))) (e.Int (pl 1 111) (pos 1)))
    (e.Unary (pl 1 116) un.Minus (e.Int (pl 1 117) (pos 1)))))) ∷
    (s.Print (pl 1 121) (s.Expression (e.Binary (pl 1 147) op.Remainder
    (e.Binary (pl 1 142) op.Subtract (e.Unary (pl 1 130) un.Minus (e.Int (pl 1 131) (pos 2147483647))) (e.Int (pl 1 144) (pos 1)))
    (e.Unary (pl 1 149) un.Minus (e.Int (pl 1 150) (pos 1)))))) ∷
    (s.Print (pl 1 154) (s.Expression (e.Binary (pl 1 164) op.Divide (e.Int (pl 1 162) (pos 7))
    (e.Unary (pl 1 166) un.Minus (e.Int (pl 1 167) (pos 2)))))) ∷
    (s.Print (pl 1 171) (s.Expression (e.Binary (pl 1 182) op.Remainder (e.Unary (pl 1 179) un.Minus (e.Int (pl 1 180) (pos 7)))
    (e.Int (pl 1 184) (pos 2))))) ∷ []) (pl 1 188)

-- class Main { public static single void main(String[] args) { println(1 << 33); println(-8 >> 1); println(-8 >>> 28); int d = 0; if (d !=
-- 0 && 10 / d > 1) println(1); else println(2); } }
abbrev pub shifts : RunConfig
shifts = main_only_run 1 100000 [] ((s.Print (pl 1 62) (s.Expression (e.Binary (pl 1 72) op.ShiftLeft (e.Int (pl 1 70) (pos 1))
    (e.Int (pl 1 75) (pos 33))))) ∷ (s.Print (pl 1 80) (s.Expression
    (e.Binary (pl 1 91) op.ShiftRight (e.Unary (pl 1 88) un.Minus (e.Int (pl 1 89) (pos 8))) (e.Int (pl 1 94) (pos 1))))) ∷
    (s.Print (pl 1 98) (s.Expression (e.Binary (pl 1 109) op.UnsignedShiftRight (e.Unary (pl 1 106) un.Minus (e.Int (pl 1 107) (pos 8)))
    (e.Int (pl 1 113) (pos 28))))) ∷ (s.Declare (pl 1 122) (nonsingle_type t.Int) 0 (s.Value (e.Int (pl 1 126) (pos 0)))) ∷
    (s.IfElse (pl 1 129) (e.Binary (pl 1 140) op.AndThen (e.Binary (pl 1 135) op.NotEqual (var (pl 1 133) 0 t.Int)
    (e.Int (pl 1 138) (pos 0))) (e.Binary (pl 1 150) op.Greater
    (e.Binary (pl 1 146) op.Divide (e.Int (pl 1 143) (pos 10)) (var (pl 1 148) 0 t.Int)) (e.Int (pl 1 152) (pos 1))))
    (s.Print (pl 1 155) (s.Expression (e.Int (pl 1 163) (pos 1)))) (s.Print (pl 1 172) (s.Expression (e.Int (pl 1 180) (pos 2))))) ∷ [])
    (pl 1 184)

-- class Main { public static single void main(String[] args) { println(true & false); println(true ^ true); println(6 & 3); println(6 ^ 3);
-- println(6 | 3); println(~5); println(!true); println(5L & 3); println(-1 ^ 1); } }
abbrev pub bits : RunConfig
bits = main_only_run 1 100000 [] ((s.Print (pl 1 62) (s.Expression (e.Binary (pl 1 75) op.And (e.Truth (pl 1 70) true)
    (e.Truth (pl 1 77) false)))) ∷ (s.Print (pl 1 85) (s.Expression
    (e.Binary (pl 1 98) op.Xor (e.Truth (pl 1 93) true) (e.Truth (pl 1 100) true)))) ∷
    (s.Print (pl 1 107) (s.Expression (e.Binary (pl 1 117) op.And (e.Int (pl 1 115) (pos 6)) (e.Int (pl 1 119) (pos 3))))) ∷
    (s.Print (pl 1 123) (s.Expression (e.Binary (pl 1 133) op.Xor (e.Int (pl 1 131) (pos 6)) (e.Int (pl 1 135) (pos 3))))) ∷
    (s.Print (pl 1 139) (s.Expression (e.Binary (pl 1 149) op.Or (e.Int (pl 1 147) (pos 6)) (e.Int (pl 1 151) (pos 3))))) ∷
    (s.Print (pl 1 155) (s.Expression (e.Unary (pl 1 163) un.Complement (e.Int (pl 1 164) (pos 5))))) ∷
    (s.Print (pl 1 168) (s.Expression (e.Unary (pl 1 176) un.Not (e.Truth (pl 1 177) true)))) ∷
    (s.Print (pl 1 184) (s.Expression (e.Binary (pl 1 195) op.And (e.Long (pl 1 192) (pos 5)) (e.Int (pl 1 197) (pos 3))))) ∷
    (s.Print (pl 1 201) (s.Expression (e.Binary (pl 1 212) op.Xor (e.Unary (pl 1 209) un.Minus (e.Int (pl 1 210) (pos 1)))
    (e.Int (pl 1 214) (pos 1))))) ∷ []) (pl 1 218)

-- class Main { public static single void main(String[] args) { long x = 2147483647; x = x + 1; println(x); println((int) x);
-- println(-9223372036854775807L - 1L); println((-9223372036854775807L - 1L) / -1); } }
abbrev pub long_sums : RunConfig
long_sums = main_only_run 1 100000 [] ((s.Declare (pl 1 67) (nonsingle_type t.Long) 0 (s.Value (e.Int (pl 1 71) (pos 2147483647)))) ∷
    (s.Assign (pl 1 85) (var (pl 1 83) 0 t.Long) (s.Value (e.Binary (pl 1 89) op.Add (var (pl 1 87) 0 t.Long)
    (e.Int (pl 1 91) (pos 1))))) ∷ (s.Print (pl 1 94) (s.Expression (var (pl 1 102) 0 t.Long))) ∷
    (s.Print (pl 1 106) (s.Expression (e.Cast (pl 1 114) (nonsingle_type t.Int) (var (pl 1 120) 0 t.Long)))) ∷
    (s.Print (pl 1 124) (s.Expression (e.Binary (pl 1 154) op.Subtract
    (e.Unary (pl 1 132) un.Minus (e.Long (pl 1 133) (pos 9223372036854775807))) (e.Long (pl 1 156) (pos 1))))) ∷
    (s.Print (pl 1 161) (s.Expression (e.Binary (pl 1 198) op.Divide
    (e.Binary (pl 1 192) op.Subtract (e.Unary (pl 1 170) un.Minus (e.Long (pl 1 171) (pos 9223372036854775807)))
    (e.Long (pl 1 194) (pos 1))) (e.Unary (pl 1 200) un.Minus (e.Int (pl 1 201) (pos 1)))))) ∷ []) (pl 1 205)

-- class Main { public static single void main(String[] args) { println(1L << 33); println(1 << 33L); println(-8L >>> 60); } }
abbrev pub long_shifts : RunConfig
long_shifts = main_only_run 1 100000 [] ((s.Print (pl 1 62) (s.Expression
    (e.Binary (pl 1 73) op.ShiftLeft (e.Long (pl 1 70) (pos 1)) (e.Int (pl 1 76) (pos 33))))) ∷
    (s.Print (pl 1 81) (s.Expression (e.Binary (pl 1 91) op.ShiftLeft (e.Int (pl 1 89) (pos 1)) (e.Long (pl 1 94) (pos 33))))) ∷
    (s.Print (pl 1 100) (s.Expression (e.Binary (pl 1 112) op.UnsignedShiftRight (e.Unary (pl 1 108) un.Minus (e.Long (pl 1 109) (pos 8)))
    (e.Int (pl 1 116) (pos 60))))) ∷ []) (pl 1 121)

-- class Main { public static single void main(String[] args) { int x = 2147483647; x += 1L; println(x); } }
abbrev pub an_update_narrows : RunConfig
an_update_narrows = main_only_run 1 100000 [] ((s.Declare (pl 1 66) (nonsingle_type t.Int) 0 (s.Value (e.Int (pl 1 70) (pos 2147483647)))) ∷
    (s.Update (pl 1 84) op.Add (var (pl 1 82) 0 t.Int) (e.Long (pl 1 87) (pos 1))) ∷
    (s.Print (pl 1 91) (s.Expression (var (pl 1 99) 0 t.Int))) ∷ []) (pl 1 103)

-- class Main { public static single void main(String[] args) { int x = -7; println(x % 3); println(x / 2); println(x >>> 31);
-- println(-9223372036854775807L - 2L); } }
abbrev pub remainders : RunConfig
remainders = main_only_run 1 100000 [] ((s.Declare (pl 1 66) (nonsingle_type t.Int) 0 (s.Value (e.Unary (pl 1 70) un.Minus (e.Int (pl 1 71) (pos 7))))) ∷
    (s.Print (pl 1 74) (s.Expression (e.Binary (pl 1 84) op.Remainder (var (pl 1 82) 0 t.Int) (e.Int (pl 1 86) (pos 3))))) ∷
    (s.Print (pl 1 90) (s.Expression (e.Binary (pl 1 100) op.Divide (var (pl 1 98) 0 t.Int) (e.Int (pl 1 102) (pos 2))))) ∷
    (s.Print (pl 1 106) (s.Expression (e.Binary (pl 1 116) op.UnsignedShiftRight (var (pl 1 114) 0 t.Int) (e.Int (pl 1 120) (pos 31))))) ∷
    (s.Print (pl 1 125) (s.Expression (e.Binary (pl 1 155) op.Subtract
    (e.Unary (pl 1 133) un.Minus (e.Long (pl 1 134) (pos 9223372036854775807))) (e.Long (pl 1 157) (pos 2))))) ∷ []) (pl 1 162)

-- class Main { public static single void main(String[] args) { println(); } }
abbrev pub an_empty_print : RunConfig
an_empty_print = main_only_run 1 100000 [] ((s.Print (pl 1 62) s.Nothing) ∷ []) (pl 1 73)

-- class Main { public static single void main(String[] args) { println("a\tb" + 3); } }
abbrev pub a_literal_and_a_value : RunConfig
a_literal_and_a_value = main_only_run 1 100000 ((97 ∷ 9 ∷ 98 ∷ []) ∷ [])
    ((s.Print (pl 1 62) (s.TextAndExpression 0 (e.Int (pl 1 79) (pos 3)))) ∷ []) (pl 1 83)

-- class Main { public static single void main(String[] args) { println("hi"); System.out.println(+3); } }
abbrev pub a_literal_alone : RunConfig
a_literal_alone = main_only_run 1 100000 ((codes "hi") ∷ []) ((s.Print (pl 1 62) (s.Text 0)) ∷
    (s.Print (pl 1 88) (s.Expression (e.Unary (pl 1 96) un.Plus (e.Int (pl 1 97) (pos 3))))) ∷ []) (pl 1 101)

-- class Main { public static single void main(String[] args) { int d = 0; println(d == 0 || 1 / d > 1); println(d != 0 || !(d > 1)); } }
abbrev pub a_right_side_is_not_needed : RunConfig
a_right_side_is_not_needed = main_only_run 1 100000 [] ((s.Declare (pl 1 66) (nonsingle_type t.Int) 0 (s.Value (e.Int (pl 1 70) (pos 0)))) ∷
    (s.Print (pl 1 73) (s.Expression (e.Binary (pl 1 88) op.OrElse
    (e.Binary (pl 1 83) op.Equal (var (pl 1 81) 0 t.Int) (e.Int (pl 1 86) (pos 0)))
    (e.Binary (pl 1 97) op.Greater (e.Binary (pl 1 93) op.Divide (e.Int (pl 1 91) (pos 1)) (var (pl 1 95) 0 t.Int))
    (e.Int (pl 1 99) (pos 1)))))) ∷ (s.Print (pl 1 103) (s.Expression
    (e.Binary (pl 1 118) op.OrElse (e.Binary (pl 1 113) op.NotEqual (var (pl 1 111) 0 t.Int) (e.Int (pl 1 116) (pos 0)))
    (e.Unary (pl 1 121) un.Not (e.Binary (pl 1 125) op.Greater (var (pl 1 123) 0 t.Int) (e.Int (pl 1 127) (pos 1))))))) ∷ []) (pl 1 132)

-- class Main { public static single void main(String[] args) { println(6 / Ti.thisProc()); } }
abbrev pub a_zero_divisor : RunConfig
a_zero_divisor = main_only_run 2 100000 [] ((s.Print (pl 1 62) (s.Expression
    (e.Binary (pl 1 72) op.Divide (e.Int (pl 1 70) (pos 6)) (e.ThisProc (pl 1 74))))) ∷ []) (pl 1 90)

-- class Main { public static single void main(String[] args) { int x = 3; x /= 0; } }
abbrev pub an_update_by_zero : RunConfig
an_update_by_zero = main_only_run 1 100000 [] ((s.Declare (pl 1 66) (nonsingle_type t.Int) 0 (s.Value (e.Int (pl 1 70) (pos 3)))) ∷
    (s.Update (pl 1 75) op.Divide (var (pl 1 73) 0 t.Int) (e.Int (pl 1 78) (pos 0))) ∷ []) (pl 1 81)
