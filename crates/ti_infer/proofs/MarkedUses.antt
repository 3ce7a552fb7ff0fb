-- If a list in an expression is marked in place, so is the expression.
use Rattle.std.proofs.Common.{◌≡◌, ℕ, Bool, List, [], ◌∷◌, map, refl, ap, ap₂, sym, ◌∙◌}
use mathlib.Core.Option.{some}
use borrow.Enum.Known.{ValuesAt, at}
use borrow.Enum.Total.{values_o, values_o_at, values_d, values_d_at}
use Rattle.std.specs.declared.vec.Vec.{Vec}
use Rattle.std.specs.declared.boxed.Box.{Box}
use Rattle.std.specs.declared.alloc.Global.{Global}
use Rattle.ti_base.specs.declared.place.Place.{Place}
use Rattle.ti_lang.specs.contracts.program.exprs.Expr.{enum}
use Rattle.ti_lang.specs.declared.program.exprs.Range.{Range}
use Rattle.ti_lang.specs.declared.program.exprs.Expr.{Expr, Call, OwnCall, Point, Rect, Member, Index}
use Rattle.ti_lang.specs.Program.Expressions.{NumberedExp, NumberedRange, numbered_exps, numbered_ranges}
use Rattle.ti_lang.specs.Program.Expressions as x
use Rattle.ti_lang.specs.Program.Views.{expression_of, bound_of}
use Rattle.ti_lang.proofs.Lemmas.{seen_static_call, seen_own_call, seen_numbered_point, seen_numbered_member, seen_numbered_index}
use Rattle.ti_lang.proofs.Lemmas.{seen_numbered_rect}
use Rattle.ti_infer.specs.Marked.{marked_exp, marked_exps, marked_range, marked_ranges}

-- what an expression of a known variant holds
pub held_at : (k : ℕ) (v : ValuesAt enum.parts k) (a : Expr) → a ≡ at enum k v → values_o enum k a ≡ some v
held_at k v a is = ap (values_o enum k) is ∙ values_o_at enum k v

pub held_by : (k : ℕ) (v d : ValuesAt enum.parts k) (a : Expr) → a ≡ at enum k v → values_d enum k d a ≡ v
held_by k v d a is = ap (values_d enum k d) is ∙ values_d_at enum k d v

module _ (singles : ℕ → Bool) where
  exps_of_map : (xs : List NumberedExp) → numbered_exps (map (marked_exp singles) xs) ≡ marked_exps singles (numbered_exps xs)
  exps_of_map [] = refl
  exps_of_map (a ∷ xs) = ap (x.MoreExp (marked_exp singles a)) (exps_of_map xs)

  ranges_of_map : (xs : List NumberedRange) → numbered_ranges (map (marked_range singles) xs) ≡ marked_ranges singles (numbered_ranges xs)
  ranges_of_map [] = refl
  ranges_of_map (a ∷ xs) = ap (x.MoreRange (marked_range singles a)) (ranges_of_map xs)

  -- the second list is the first, marked
  abbrev AllMarked : Vec Expr Global → Vec Expr Global → Type 0
  AllMarked v w = map expression_of w.items ≡ map (marked_exp singles) (map expression_of v.items)

  all_marked : (v w : Vec Expr Global) → AllMarked v w
      → numbered_exps (map expression_of w.items) ≡ marked_exps singles (numbered_exps (map expression_of v.items))
  all_marked v w h = ap numbered_exps h ∙ exps_of_map _

  pub call_marked : (a : Expr) (at : Place) (method : ℕ) (v w : Vec Expr Global) → a ≡ Call at method v → AllMarked v w
      → expression_of (Call at method w) ≡ marked_exp singles (expression_of a)
  call_marked a at method v w is h =
      seen_static_call (Call at method w) at method w refl ∙ ap (x.Call at method) (all_marked v w h)
      ∙ sym (ap (marked_exp singles) (seen_static_call a at method v is))

  pub own_call_marked : (a : Expr) (at : Place) (method : ℕ) (v w : Vec Expr Global) → a ≡ OwnCall at method v → AllMarked v w
      → expression_of (OwnCall at method w) ≡ marked_exp singles (expression_of a)
  own_call_marked a at method v w is h =
      seen_own_call (OwnCall at method w) at method w refl ∙ ap (x.OwnCall at method) (all_marked v w h)
      ∙ sym (ap (marked_exp singles) (seen_own_call a at method v is))

  pub point_marked : (a : Expr) (at : Place) (v w : Vec Expr Global) → a ≡ Point at v → AllMarked v w
      → expression_of (Point at w) ≡ marked_exp singles (expression_of a)
  point_marked a at v w is h =
      seen_numbered_point (Point at w) at w refl ∙ ap (x.Point at) (all_marked v w h)
      ∙ sym (ap (marked_exp singles) (seen_numbered_point a at v is))

  pub rect_marked : (a : Expr) (at : Place) (v w : Vec Range Global) → a ≡ Rect at v
      → map bound_of w.items ≡ map (marked_range singles) (map bound_of v.items)
      → expression_of (Rect at w) ≡ marked_exp singles (expression_of a)
  rect_marked a at v w is h =
      seen_numbered_rect (Rect at w) at w refl ∙ ap (x.Rect at) (ap numbered_ranges h ∙ ranges_of_map _)
      ∙ sym (ap (marked_exp singles) (seen_numbered_rect a at v is))

  -- with the expression in front of the list, which is in a box
  pub box_marked : (old new : Expr) (held b : Box Expr Global)
      → expression_of new ≡ marked_exp singles (expression_of old) → old ≡ held.value → held ≡ b
      → expression_of new ≡ marked_exp singles (expression_of b.value)
  box_marked old new held b h is same =
      h ∙ ap (λ z. marked_exp singles (expression_of z)) (is ∙ ap (λ (z : Box Expr Global). z.value) same)

  pub member_marked : (a : Expr) (at : Place) (b c : Box Expr Global) (name : ℕ) (v w : Vec Expr Global) → a ≡ Member at b name v
      → expression_of c.value ≡ marked_exp singles (expression_of b.value) → AllMarked v w
      → expression_of (Member at c name w) ≡ marked_exp singles (expression_of a)
  member_marked a at b c name v w is f h =
      seen_numbered_member (Member at c name w) at c name w refl ∙ ap₂ (λ y l. x.Member at y name l) f (all_marked v w h)
      ∙ sym (ap (marked_exp singles) (seen_numbered_member a at b name v is))

  pub index_marked : (a : Expr) (at : Place) (b c : Box Expr Global) (v w : Vec Expr Global) → a ≡ Index at b v
      → expression_of c.value ≡ marked_exp singles (expression_of b.value) → AllMarked v w
      → expression_of (Index at c w) ≡ marked_exp singles (expression_of a)
  index_marked a at b c v w is f h =
      seen_numbered_index (Index at c w) at c w refl ∙ ap₂ (x.Index at) f (all_marked v w h)
      ∙ sym (ap (marked_exp singles) (seen_numbered_index a at b v is))
