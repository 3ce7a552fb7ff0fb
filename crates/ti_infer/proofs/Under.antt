-- What is single under a marking is single in the marked program.
use Rattle.std.proofs.Common.{◌≡◌, ℕ, Bool, not, ◌&&◌, Option, refl, ap, ap₂}
use Rattle.ti_lang.specs.Program.Types.{Declaration, Typed, Foreach}
use Rattle.ti_lang.specs.Program.Expressions.{NumberedExp, NumberedExps, NumberedRange, NumberedRanges}
use Rattle.ti_lang.specs.Program.Expressions as e
use Rattle.ti_lang.specs.Program.Classes.{NumberedMethod, ProgramView}
use Rattle.ti_lang.specs.Typing.Kinds.{is_local, is_point_type}
use Rattle.ti_lang.specs.Typing.Singleness.{declared_single, tells_of_domain, is_single_part, are_single, is_single_range, are_single_ranges}
use Rattle.ti_blame.specs.Marks.{Marks}
use Rattle.ti_infer.specs.Marks.{marks_variable}
use Rattle.ti_infer.specs.Marked.{marked_declaration, marked_exp, marked_exps, marked_range, marked_ranges, marked}
use Rattle.ti_infer.specs.Mirrors.SingleUnder.{variable_under, single_under, all_under, range_under, ranges_under}
use Rattle.ti_infer.proofs.Same.{text_same, language_same}

module _ (p : ProgramView) (this : Option ℕ) (marks : Marks) (m : NumberedMethod) (s : ℕ → Bool) where
  mutual
    pub under : (x : NumberedExp) → is_single_part (marked marks p) this s (marked_exp (marks_variable marks m) x) ≡ single_under p this (variable_under marks m s) x
    under (e.Variable at v) = by v.declared
      where
        by : (d : Declaration) → declared_single s v.number (marked_declaration (marks_variable marks m v.number) d) ≡ variable_under marks m s v.number d
        by (Typed is_single type) = refl
        by Foreach = refl
    under (e.Point at xs) = under_all xs
    under (e.Rect at ranges) = under_ranges ranges
    under (e.Unary at op a) = under a
    under (e.Binary at op a b) = ap₂ (λ x y. x && y) (under a) (under b)
    under (e.Cast at to a) = ap (λ x. not (is_local to.type) && x) (under a)
    under (e.Index at a xs) = ap₂ (λ x y. x && y) (ap is_point_type (text_same marks p this (marks_variable marks m) a)) (ap₂ (λ x y. x && y) (under a) (under_all xs))
    under (e.Member at a name args) = ap₂ (λ x y. x && y) (ap tells_of_domain (language_same marks p this (marks_variable marks m) a name)) (ap₂ (λ x y. x && y) (under a) (under_all args))
    under _ = refl

    under_all : (xs : NumberedExps) → are_single (marked marks p) this s (marked_exps (marks_variable marks m) xs) ≡ all_under p this (variable_under marks m s) xs
    under_all e.NoExp = refl
    under_all (e.MoreExp a rest) = ap₂ (λ x y. x && y) (under a) (under_all rest)

    under_range : (r : NumberedRange) → is_single_range (marked marks p) this s (marked_range (marks_variable marks m) r) ≡ range_under p this (variable_under marks m s) r
    under_range (e.Plain low high) = ap₂ (λ x y. x && y) (under low) (under high)
    under_range (e.Stepped low high step) = ap₂ (λ x y. x && y) (ap₂ (λ x y. x && y) (under low) (under high)) (under step)

    under_ranges : (rs : NumberedRanges) → are_single_ranges (marked marks p) this s (marked_ranges (marks_variable marks m) rs) ≡ ranges_under p this (variable_under marks m s) rs
    under_ranges e.NoRange = refl
    under_ranges (e.MoreRange r rest) = ap₂ (λ x y. x && y) (under_range r) (under_ranges rest)
