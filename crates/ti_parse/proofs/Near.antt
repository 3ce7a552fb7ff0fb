-- The parser of classes is proved not to read beyond the token at which it fails.
use Rattle.std.proofs.Common.{ℕ, zero, suc, ◌≤◌, List, [], refl, arith}
use Rattle.ti_base.specs.declared.place.Place.{Place}
use Rattle.ti_syntax.specs.declared.token.Token.{Token}
use Rattle.ti_parse_expr.specs.declared.parse.Form.{Form}
use Rattle.ti_parse_expr.specs.Mirrors.Input.{kind, place}
use Rattle.ti_parse_expr.specs.Mirrors.Full.{full, full_operand, full_behind_name, full_behind_bracket}
use Rattle.ti_parse_expr.proofs.Lemmas.{Near, near_pure, near_refuse, near_over, near_take, near_then, near_by, near_spent, kind_alike}
use Rattle.ti_parse_expr.proofs.Lemmas.{place_alike}
use Rattle.ti_parse.specs.Mirrors.ParserParams.{language_params}
use Rattle.ti_parse.specs.Mirrors.Classes.{classes}
use Rattle.ti_parse.proofs.Related.{classes_related}

no_fewer : (m : ℕ) → suc m ≤ zero → ⊥
no_fewer m h = omega (arith, h)

one_less : (m m2 : ℕ) → suc m ≤ suc m2 → m ≤ m2
one_less m m2 h = omega (arith, h)

module _ (t : Token) (w v : List Token) (full_near : (form : Form) → Near t w v (full form) (full form)) (operand_near : Near t w v full_operand full_operand)
    (name_near : (at : Place) (name : List ℕ) → Near t w v (full_behind_name at name) (full_behind_name at name))
    (bracket_near : (bracket at : Place) (name : List ℕ) → Near t w v (full_behind_bracket bracket at name) (full_behind_bracket bracket at name)) where
  pub classes_near : (fuel more : ℕ) → fuel ≤ more → Near t w v (classes language_params fuel fuel []) (classes language_params more more [])
  classes_near fuel more le =
      classes_related (λ A p q. Near t w v {A = A} p q) (λ n m. n ≤ m) language_params refl (λ A x. near_pure t w v x) (λ A. near_refuse t w v)
      (λ A. near_over t w v) (near_take t w v) full_near operand_near name_near bracket_near
      (λ A B p q f g begin next. near_then t w v begin next) (λ A f g each. near_by t w v kind {f = f} {g = g} (kind_alike t w v) each)
      (λ A f g each. near_by t w v place {f = f} {g = g} (place_alike t w v) each)
      (λ A q m h is. near_spent t w v) no_fewer one_less fuel more le
