-- A printed point is written as in reports.
use Rattle.std.proofs.Common.{◌≡◌, ℤ, List, [], ◌∷◌, ◌++◌, map, refl, ap, ◌∙◌}
use Rattle.std.proofs.lemmas.List.{take-map}
use Rattle.std.specs.Prelude.{codes}
use Rattle.std.specs.Fmt.{signed_decimal}
use Rattle.ti_base.specs.declared.point.Point.{Point}
use Rattle.ti_base.specs.declared.value.Value.TheVariants as v
use Rattle.ti_lang.specs.Meaning.Literals.{coordinates_of}
use Rattle.ti_lang.specs.Meaning.Lines.{listed_text, value_text}
use Rattle.ti_watch.specs.Texts.{comma_list, point_text}

listed_same : (xs : List ℤ) → comma_list (map signed_decimal xs) ≡ listed_text xs
listed_same [] = refl
listed_same (x ∷ []) = refl
listed_same (x ∷ y ∷ rest) = ap (λ t. signed_decimal x ++ codes "," ++ t) (listed_same (y ∷ rest))

pub point_same : (p : Point) → point_text p ≡ value_text (v.Pt p)
point_same p = ap (λ t. codes "[" ++ t ++ codes "]") (ap comma_list (take-map signed_decimal p.dim (p.x1 ∷ p.x2 ∷ p.x3 ∷ [])) ∙ listed_same (coordinates_of p))
