-- The subexpressions of an expression.
use Rattle.std.specs.Prelude.{List, [], ◌∷◌, ◌++◌}
use Rattle.ti_lang.specs.Program.Expressions.{NumberedExp, NumberedExps, NumberedRange, NumberedRanges}
use Rattle.ti_lang.specs.Program.Expressions as x

abbrev mutual
  -- an expression and all its subexpressions, in postorder
  pub parts : NumberedExp → List NumberedExp
  parts (x.Call at method args) = parts_of_all args ++ x.Call at method args ∷ []
  parts (x.OwnCall at method args) = parts_of_all args ++ x.OwnCall at method args ∷ []
  parts (x.Point at xs) = parts_of_all xs ++ x.Point at xs ∷ []
  parts (x.Rect at ranges) = parts_of_ranges ranges ++ x.Rect at ranges ∷ []
  parts (x.Unary at op a) = parts a ++ x.Unary at op a ∷ []
  parts (x.Binary at op a b) = (parts a ++ parts b) ++ x.Binary at op a b ∷ []
  parts (x.Cast at to a) = parts a ++ x.Cast at to a ∷ []
  parts (x.Select at a name) = parts a ++ x.Select at a name ∷ []
  parts (x.Member at a name args) = (parts a ++ parts_of_all args) ++ x.Member at a name args ∷ []
  parts (x.Index at a xs) = (parts a ++ parts_of_all xs) ++ x.Index at a xs ∷ []
  parts e = e ∷ []

  -- the subexpressions of a list of expressions
  pub parts_of_all : NumberedExps → List NumberedExp
  parts_of_all x.NoExp = []
  parts_of_all (x.MoreExp a rest) = parts a ++ parts_of_all rest

  -- the subexpressions of the bounds and the stride of a range
  pub parts_of_range : NumberedRange → List NumberedExp
  parts_of_range (x.Plain low high) = parts low ++ parts high
  parts_of_range (x.Stepped low high step) = (parts low ++ parts high) ++ parts step

  -- the subexpressions of ranges
  pub parts_of_ranges : NumberedRanges → List NumberedExp
  parts_of_ranges x.NoRange = []
  parts_of_ranges (x.MoreRange r rest) = parts_of_range r ++ parts_of_ranges rest
