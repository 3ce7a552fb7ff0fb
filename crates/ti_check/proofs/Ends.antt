-- The test of the last statement is proved to agree with the specification.
use Rattle.std.proofs.Common.{◌≡◌, suc, ◌-◌, ◌<◌, List, [], ◌∷◌, map, length, get_or, refl, ap, sym, ◌∙◌, arith}
use Rattle.ti_lang.specs.declared.program.stmts.Stmt.{Stmt}
use Rattle.ti_lang.specs.Program.Views.{statement_of}
use Rattle.ti_rules.specs.TypeRules.{is_return, ends_with_return}

pub last_is : (xs : List Stmt) (d : Stmt) → 0 < length xs → is_return (statement_of (get_or xs (length xs - 1) d)) ≡ ends_with_return (map statement_of xs)
last_is [] d lt = absurd (omega arith)
last_is (x ∷ []) d lt = refl
last_is (x ∷ y ∷ rest) d lt =
    let here : suc (suc (length rest)) - 1 ≡ suc (length rest) = omega arith in
    let next : suc (length rest) - 1 ≡ length rest = omega arith in
    ap (λ n. is_return (statement_of (get_or (x ∷ y ∷ rest) n d))) here
    ∙ sym (ap (λ n. is_return (statement_of (get_or (y ∷ rest) n d))) next)
    ∙ last_is (y ∷ rest) d (omega arith)
