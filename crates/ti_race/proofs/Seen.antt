-- Views of views are stored as the specification says, if they exist.
use Rattle.std.proofs.Common.{◌≡◌, ◌↔◌, ℕ, ◌<◌, ◌≤◌, ◌==◌, nat_lt, Bool, true, false, ◌&&◌, if◌then◌else◌, Option, Some, None, Result, Ok, Err, refl, ap, ap₂, sym, ◌∙◌, subst, arith, eq-eqb, eqb-true, ltb-true, IfOk}
use Rattle.std.proofs.lemmas.Bool.{ltb-false}
use Rattle.std.specs.Result.{result_ok, result_err}
use Rattle.ti_base.specs.declared.point.Point.{Point}
use Rattle.ti_base.specs.declared.point.Rect.{Rect}
use Rattle.ti_base.specs.declared.fault.FaultKind.{FaultKind}
use Rattle.ti_base.specs.declared.action.ViewHow.{ViewHow}
use Rattle.ti_base.specs.declared.action.ViewHow.TheVariants.{Restrict}
use Rattle.ti_base.specs.Rects.{IsRect, IsIn, is_in}
use Rattle.ti_base.specs.Cells.{suits, view_fault, view_domain, seen_point}
use Rattle.ti_rect.specs.Views.{IsView}
use Rattle.ti_grid.specs.declared.layout.Layout.{Layout}
use Rattle.ti_grid.specs.Views.{IsSeen}
use Rattle.ti_lang.specs.Meaning.Spots.{Block, no_fault, viewed_told}
use Rattle.ti_race.specs.declared.grid_layout.GridLayout.{GridLayout}
use Rattle.ti_race.specs.Mirrors.GridLayout.{LaysOut, LaysOutIf, SeenIf}

pub true_false : true ≡ false → ⊥
true_false e = cc

pub not_true : (b : Bool) → (b ≡ true → ⊥) → b ≡ false
not_true true h = absurd (h refl)
not_true false h = refl

pub unsuited : (how : ViewHow) (dom : Rect) → suits how dom ≡ false → (suits how dom && no_fault (view_fault how dom)) ≡ false
unsuited how dom z = ap (λ b. b && no_fault (view_fault how dom)) z

pub dims_differ : (a b : ℕ) → (a ≡ b → ⊥) → (a == b) ≡ false
dims_differ a b h = not_true (a == b) (λ z. h (eqb-true a b z))

pub dims_same : (a b : ℕ) → a ≡ b → (a == b) ≡ true
dims_same a b h = eq-eqb a b h

pub two_dims : (a : ℕ) → 2 ≤ a → nat_lt 1 a ≡ true
two_dims a h = go (nat_lt 1 a) refl
  where
    go : (b : Bool) → nat_lt 1 a ≡ b → nat_lt 1 a ≡ true
    go true z = z
    go false z = let k = ltb-false 1 a z in absurd (omega (arith, h, k))

pub one_dim : (a : ℕ) → a < 2 → nat_lt 1 a ≡ false
one_dim a h = not_true (nat_lt 1 a) (λ z. never a (ltb-true 1 a z) h)
  where
    never : (a : ℕ) → 1 < a → a < 2 → ⊥
    never a k l = absurd (omega (arith, k, l))

pub restricted : (r : Rect) (old new : Layout) → r.dim ≡ old.dom.dim → IsRect old.dom → IsSeen (Restrict r) old new → SeenIf (Restrict r) old (Some new)
restricted r old new d f s = (ap (λ b. b && true) (dims_same r.dim old.dom.dim d), s, f)

pub by_result : (how : ViewHow) (old : Layout) (res : Result Layout FaultKind) (o : Option Layout) → o ≡ result_ok res → result_err res
    ≡ view_fault how old.dom → suits how old.dom ≡ true → IfOk res (λ new. IsSeen how old new) → IsRect old.dom → SeenIf how old o
by_result how old (Ok new) o z e t s f = subst (SeenIf how old) (sym z) (ap₂ (λ a b. a && b) t (sym (ap no_fault e)), s, f)
by_result how old (Err kind) o z e t s f = subst (SeenIf how old) (sym z) (ap₂ (λ a b. a && b) t (sym (ap no_fault e)))

pub if_true : {A : Type 0} → (b : Bool) (x y : A) → b ≡ true → (if b then x else y) ≡ x
if_true b x y e = rw e refl

pub if_false : {A : Type 0} → (b : Bool) (x y : A) → b ≡ false → (if b then x else y) ≡ y
if_false b x y e = rw e refl

-- of a view of a grid that was told
pub keeps_none : (how : ViewHow) (whole : Rect) (g : GridLayout) (b : Block) → LaysOut whole g b → SeenIf how g.view None → LaysOutIf whole None (viewed_told how (Some b))
keeps_none how whole g b k s =
    subst (LaysOutIf whole None) (sym (if_false _ _ _ (ap (λ d. suits how d && no_fault (view_fault how d)) (sym k.domain) ∙ s))) tt

pub keeps_some : (how : ViewHow) (whole : Rect) (g : GridLayout) (b : Block) (new : Layout) → LaysOut whole g b → SeenIf how g.view (Some new)
    → ((p : Point) → is_in (view_domain how g.view.dom) p ≡ true → is_in g.view.dom (seen_point how p) ≡ true)
    → LaysOutIf whole (Some (record { number = g.number; view = new })) (viewed_told how (Some b))
keeps_some how whole g b new k s inside =
    subst (LaysOutIf whole (Some (record { number = g.number; view = new }))) (sym (if_true _ _ _ (ap (λ d. suits how d && no_fault (view_fault how d)) (sym k.domain) ∙ s.0)))
    (record {
      number = k.number;
      domain = s.1.domain ∙ ap (view_domain how) k.domain;
      cells = λ p z.
          let there : is_in (view_domain how g.view.dom) p ≡ true = ap (λ d. is_in (view_domain how d) p) k.domain ∙ z in
          s.1.cells p ∙ if_true _ _ _ there ∙ k.cells (seen_point how p) (ap (λ d. is_in d (seen_point how p)) (sym k.domain) ∙ inside p there);
    })

suited : (a b : Bool) → (a && b) ≡ true → (a ≡ true) × (b ≡ true)
suited true b z = (refl, z)
suited false b z = cc

no_kind : (o : Option FaultKind) → no_fault o ≡ true → o ≡ None
no_kind None z = refl
no_kind (Some k) z = cc

-- a point of a view is one of what is viewed
pub inside_from : (how : ViewHow) (dom : Rect) → IsRect dom → IsView how → (suits how dom && no_fault (view_fault how dom)) ≡ true
    → ((r : Rect) (p : Point) → IsRect r → (is_in r p ≡ true) ↔ IsIn r p)
    → ((how : ViewHow) (r : Rect) → IsRect r → IsView how → suits how r ≡ true → view_fault how r ≡ None → IsRect (view_domain how r))
    → ((how : ViewHow) (r : Rect) → IsRect r → IsView how → suits how r ≡ true → view_fault how r ≡ None → (p : Point) → IsIn (view_domain how r) p → IsIn r (seen_point how p))
    → (p : Point) → is_in (view_domain how dom) p ≡ true → is_in dom (seen_point how p) ≡ true
inside_from how dom f v s tests form inside p z =
    let k = suited (suits how dom) _ s in
    let n = no_kind (view_fault how dom) k.1 in
    (tests dom (seen_point how p) f).1 (inside how dom f v k.0 n p ((tests (view_domain how dom) p (form how dom f v k.0 n)).0 z))
