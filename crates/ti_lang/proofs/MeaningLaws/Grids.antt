-- Different points of a grid have different cells.
use Rattle.std.proofs.Common.{◌≡◌, ℕ, ◌+◌, ◌-◌, ◌<◌, ◌≤◌, ◌==◌, ℤ, pos, ◌-ℤ◌, Bool, true, false, ◌&&◌, ◌||◌, if◌then◌else◌, [], ◌∷◌, Some, refl, sym, ap, subst, ◌∙◌, arith}
use Rattle.std.specs.Option.{option_map}
use Rattle.std.proofs.lemmas.Int.{ints}
use Rattle.std.proofs.lemmas.Bool.{ltb-true}
use Rattle.ti_base.specs.declared.point.Point.{Point}
use Rattle.ti_base.specs.declared.point.Rect.{Rect}
use Rattle.ti_base.specs.declared.value.Id.{Id}
use Rattle.ti_base.specs.declared.value.Value.TheVariants as v
use Rattle.ti_base.specs.declared.action.ViewHow.{ViewHow}
use Rattle.ti_base.specs.declared.action.ViewHow.TheVariants.{Restrict, Translate, Slice}
use Rattle.ti_base.specs.declared.action.Action.{Action}
use Rattle.ti_base.specs.declared.action.Action.TheVariants as act
use Rattle.ti_base.specs.declared.entry.Answer.{Answer}
use Rattle.ti_base.specs.Points.{IsDim, IsPoint, moved_back}
use Rattle.ti_base.specs.PointSets.{same_number}
use Rattle.ti_base.specs.Ranges.{Range, is_empty_range, meet_ranges, shift_range, unused_range, natural}
use Rattle.ti_base.specs.Rects.{empty_rect, is_empty, of_ranges, translate_rect, without, first_range, second_range, third_range}
use Rattle.ti_base.specs.Cells.{Grid, whole_grid, cell_of, view, suits, view_fault, AgreeUnused, IsOneToOne}
use Rattle.ti_lang.specs.Program.Classes.{ProgramView}
use Rattle.ti_lang.specs.Meaning.Histories.{History, is_making}
use Rattle.ti_lang.specs.Meaning.HeapOf.{new_id, view_id, is_grid, grid_made, grid_of_id}
use Rattle.ti_base.specs.Forms.{is_dim}
use Rattle.ti_lang.specs.Meaning.HeapAnswers.{Answers, possible_if, views, makes, places, heap_answer, IsAnswered, none, more}
use Rattle.ti_lang.proofs.MeaningLaws.Dims.{dims_are}
use Rattle.ti_lang.proofs.MeaningLaws.Things.{possible_then, some_then}

-- a grid has a dimension, and different points have different cells
abbrev IsSound : Grid → Type 0
IsSound g = IsDim g.domain.dim × IsOneToOne g

-- ---- dimensions of rectangles

either_dim : (t : Bool) (x y : Rect) (d : ℕ) → x.dim ≡ d → y.dim ≡ d → (if t then x else y).dim ≡ d
either_dim true x y d e f = e
either_dim false x y d e f = f

of_ranges_dim : (d : ℕ) (a b c : Range) → (of_ranges d a b c).dim ≡ d
of_ranges_dim d a b c = by (is_empty_range a || is_empty_range b || is_empty_range c)
  where
    full : Rect
    full = record {
      dim = d;
      lo = record { dim = d; x1 = a.low; x2 = b.low; x3 = c.low };
      hi = record { dim = d; x1 = a.high; x2 = b.high; x3 = c.high };
      step = a.step ∷ b.step ∷ c.step ∷ [];
    }

    by : (t : Bool) → (if t then empty_rect d else full).dim ≡ d
    by true = refl
    by false = refl

without_dim : (k : ℕ) (r : Rect) → (without k r).dim ≡ r.dim - 1
without_dim k r =
    let x = of_ranges (r.dim - 1) (second_range r) (third_range r) unused_range in
    let y = of_ranges (r.dim - 1) (first_range r) (third_range r) unused_range in
    let z = of_ranges (r.dim - 1) (first_range r) (second_range r) unused_range in
    either_dim (k == 1) x (if k == 2 then y else z) (r.dim - 1) (of_ranges_dim (r.dim - 1) (second_range r) (third_range r) unused_range)
    (either_dim (k == 2) y z (r.dim - 1) (of_ranges_dim (r.dim - 1) (first_range r) (third_range r) unused_range) (of_ranges_dim (r.dim - 1) (first_range r) (second_range r) unused_range))

translated_dim : (r : Rect) (p : Point) → (translate_rect r p).dim ≡ r.dim
translated_dim r p =
    let a = shift_range p.x1 (first_range r) in
    let b = shift_range p.x2 (second_range r) in
    let c = shift_range p.x3 (third_range r) in
    either_dim (is_empty r) r (of_ranges r.dim a b c) r.dim refl (of_ranges_dim r.dim a b c)

-- ---- points

same_point : (p q : Point) → p.dim ≡ q.dim → p.x1 ≡ q.x1 → p.x2 ≡ q.x2 → p.x3 ≡ q.x3 → p ≡ q
same_point p q d a b c = λ i. record { dim = d i; x1 = a i; x2 = b i; x3 = c i }

less_same : (x y z : ℤ) → x -ℤ z ≡ y -ℤ z → x ≡ y
less_same x y z e = omega (arith, ints)

moved_same : (p q by : Point) → moved_back p by ≡ moved_back q by → p ≡ q
moved_same p q by e =
    same_point p q (ap (λ (x : Point). x.dim) e) (less_same p.x1 q.x1 by.x1 (ap (λ (x : Point). x.x1) e))
    (less_same p.x2 q.x2 by.x2 (ap (λ (x : Point). x.x2) e)) (less_same p.x3 q.x3 by.x3 (ap (λ (x : Point). x.x3) e))

-- a point with a coordinate put in, by the tests on its number
abbrev put_in : Bool → Bool → ℤ → Point → Point
put_in one two j p =
    if one then record { dim = p.dim + 1; x1 = j; x2 = p.x1; x3 = p.x2 }
    else if two then record { dim = p.dim + 1; x1 = p.x1; x2 = j; x3 = p.x2 }
    else record { dim = p.dim + 1; x1 = p.x1; x2 = p.x2; x3 = j }

-- below three dimensions nothing is lost
put_in_same : (one two : Bool) (j : ℤ) (p q : Point) → p.dim ≡ q.dim → p.x3 ≡ q.x3 → put_in one two j p ≡ put_in one two j q → p ≡ q
put_in_same true two j p q d c e = same_point p q d (ap (λ (x : Point). x.x2) e) (ap (λ (x : Point). x.x3) e) c
put_in_same false true j p q d c e = same_point p q d (ap (λ (x : Point). x.x1) e) (ap (λ (x : Point). x.x3) e) c
put_in_same false false j p q d c e = same_point p q d (ap (λ (x : Point). x.x1) e) (ap (λ (x : Point). x.x2) e) c

-- in two dimensions or more the points with the coordinate agree where the points agree
put_in_agrees : (one two : Bool) (j : ℤ) (p q : Point) (d : ℕ) → 1 ≤ d → AgreeUnused d p q → AgreeUnused (d + 1) (put_in one two j p) (put_in one two j q)
put_in_agrees true two j p q d h a = (λ l. absurd (omega arith), λ l. a.0 (omega arith))
put_in_agrees false true j p q d h a = (λ l. absurd (omega arith), λ l. a.0 (omega arith))
put_in_agrees false false j p q d h a = (λ l. absurd (omega arith), λ l. refl)

put_in_dim : (one two : Bool) (j : ℤ) (p : Point) → (put_in one two j p).dim ≡ p.dim + 1
put_in_dim true two j p = refl
put_in_dim false true j p = refl
put_in_dim false false j p = refl

-- ---- views

view_sound : (how : ViewHow) (g : Grid) → IsSound g → suits how g.domain ≡ true → IsSound (view how g)
view_sound (Restrict r) g s e =
    let d = of_ranges_dim g.domain.dim (meet_ranges (first_range g.domain) (first_range r)) (meet_ranges (second_range g.domain) (second_range r)) (meet_ranges (third_range g.domain) (third_range r)) in
    (subst IsDim (sym d) s.0, λ p q a b c same. s.1 p q (a ∙ d) (b ∙ d) (subst (λ n. AgreeUnused n p q) d c) same)
view_sound (Translate by) g s e =
    let d = translated_dim g.domain by in (
      subst IsDim (sym d) s.0,
      λ p q a b c same.
          let k = subst (λ n. AgreeUnused n p q) d c in
          moved_same p q by (s.1 (moved_back p by) (moved_back q by) (a ∙ d) (b ∙ d)
          (λ l. ap (λ x. x -ℤ by.x2) (k.0 l), λ l. ap (λ x. x -ℤ by.x3) (k.1 l)) same),
    )
view_sound (Slice k j) g s e =
    let d = without_dim (natural k) g.domain in
    let two : 1 < g.domain.dim = ltb-true 1 g.domain.dim e in
    let whole : g.domain.dim - 1 + 1 ≡ g.domain.dim = omega arith in
    let one = same_number k (pos 1) in
    let second = same_number k (pos 2) in (
      subst IsDim (sym d) (omega (arith, s.0), omega (arith, s.0)),
      λ p q a b c same.
          let f = subst (λ n. AgreeUnused n p q) d c in
          let dp : (put_in one second j p).dim ≡ g.domain.dim = put_in_dim one second j p ∙ ap (λ n. n + 1) (a ∙ d) ∙ whole in
          let dq : (put_in one second j q).dim ≡ g.domain.dim = put_in_dim one second j q ∙ ap (λ n. n + 1) (b ∙ d) ∙ whole in
          let agree = subst (λ n. AgreeUnused n (put_in one second j p) (put_in one second j q)) whole (put_in_agrees one second j p q (g.domain.dim - 1) (omega arith) f) in
          put_in_same one second j p q (a ∙ sym b) (f.1 (omega (arith, s.0))) (s.1 (put_in one second j p) (put_in one second j q) dp dq agree same),
    )

-- ---- every grid of an answered history

made_sound : (program : ProgramView) (h : History) (i : ℕ) (id : Id) (a : Action) (r : Answer) (g : Grid) → heap_answer program h i a ≡ Answers r
    → ((viewed : Id) (f : Grid) → grid_of_id viewed h ≡ Some f → IsSound f) → grid_made id a (λ viewed. grid_of_id viewed h) ≡ Some g → IsSound g
made_sound program h i id (act.NewGrid element domain region) r g e earlier m =
    let t = possible_then (is_dim domain.dim) (places region h (makes program h i (act.NewGrid element domain region) (v.Grid (Some (new_id i region h))))) r e in
    let same : whole_grid id element domain ≡ g = cc in
    subst IsSound same (dims_are domain.dim t.0, λ p q a b c k. k)
made_sound program h i id (act.MakeView viewed how) r g e earlier m =
    let made = makes program h i (act.MakeView viewed how) (v.Grid (Some (view_id i viewed h))) in
    let s = some_then (grid_of_id viewed h) (λ k. possible_if (suits how k.domain) (views (view_fault how k.domain) made)) r e in
    let t = possible_then (suits how s.0.domain) (views (view_fault how s.0.domain) made) r s.2 in
    let same : Some (view how s.0) ≡ Some g = sym (ap (option_map (view how)) s.1) ∙ m in
    let inner : view how s.0 ≡ g = cc in
    subst IsSound inner (view_sound how s.0 (earlier viewed s.0 s.1) t.0)
made_sound program h i id (act.NewObj class region) r g e earlier m = cc
made_sound program h i id (act.GetField obj field) r g e earlier m = cc
made_sound program h i id (act.PutField obj field value) r g e earlier m = cc
made_sound program h i id (act.GetElem grid at) r g e earlier m = cc
made_sound program h i id (act.PutElem grid at value) r g e earlier m = cc
made_sound program h i id (act.DomainOf grid) r g e earlier m = cc
made_sound program h i id (act.Print literal value) r g e earlier m = cc
made_sound program h i id (act.Arrive kind arg deposit) r g e earlier m = cc
made_sound program h i id act.Depart r g e earlier m = cc
made_sound program h i id (act.Take who) r g e earlier m = cc
made_sound program h i id act.End r g e earlier m = cc
made_sound program h i id (act.Fault kind) r g e earlier m = cc

sound : (program : ProgramView) (h : History) → IsAnswered program h → (id : Id) (g : Grid) → grid_of_id id h ≡ Some g → IsSound g
sound program h none id g m = cc
sound program h (more {h = earlier} {e = e} a said) id g m = by (sound program earlier a) (is_making e.act && is_grid id e.answer) m
  where
    by : ((viewed : Id) (f : Grid) → grid_of_id viewed earlier ≡ Some f → IsSound f)
        → (t : Bool) → (if t then grid_made id e.act (λ viewed. grid_of_id viewed earlier) else grid_of_id id earlier) ≡ Some g → IsSound g
    by before true k = made_sound program earlier e.proc id e.act e.answer g said before k
    by before false k = before id g k

agree : (d : ℕ) (p q : Point) → IsPoint p → IsPoint q → p.dim ≡ d → q.dim ≡ d → AgreeUnused d p q
agree d p q a b e f = (λ l. a.second (omega arith) ∙ sym (b.second (omega arith)), λ l. a.third (omega arith) ∙ sym (b.third (omega arith)))

pub cells_differ : (program : ProgramView) (h : History) (id : Id) (g : Grid) (p q : Point) → IsAnswered program h → grid_of_id id h ≡ Some g
    → IsPoint p → IsPoint q → p.dim ≡ g.domain.dim → q.dim ≡ g.domain.dim → cell_of g p ≡ cell_of g q → p ≡ q
cells_differ program h id g p q a m x y e f same =
    let s = sound program h a id g m in
    let place : g.place p ≡ g.place q = cc in
    s.1 p q e f (agree g.domain.dim p q x y e f) place
