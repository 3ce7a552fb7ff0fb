-- What is kept of one entry gives it back.
use Rattle.std.proofs.Common.{◌≡◌, ℕ, zero, suc, ◌+◌, ◌-◌, ◌==◌, if◌then◌else◌, Bool, true, false, ℤ, pos, negsuc, List, [], ◌∷◌, ◌++◌, length, drop, Some, None, refl, sym, ap, ◌∙◌, arith, append-nil, length-append}
use Rattle.std.proofs.lemmas.Bool.{eqb-true}
use Rattle.ti_base.specs.declared.action.Action.{Action}
use Rattle.ti_base.specs.declared.action.Action.TheVariants as a
use Rattle.ti_base.specs.declared.entry.Answer.{Answer}
use Rattle.ti_base.specs.declared.entry.Answer.TheVariants.{Done, Val}
use Rattle.ti_base.specs.declared.entry.Entry.{Entry}
use Rattle.ti_base.specs.declared.place.Place.{Place}
use Rattle.ti_base.specs.declared.point.Point.{Point}
use Rattle.ti_base.specs.declared.value.Id.{Id}
use Rattle.ti_base.specs.declared.value.Value.{Value}
use Rattle.ti_base.specs.declared.value.Value.TheVariants as v
use Rattle.ti_history.specs.declared.counts.Counts.{Counts}
use Rattle.ti_history.specs.declared.head.Form.{Form}
use Rattle.ti_history.specs.declared.head.Form.TheVariants as f
use Rattle.ti_history.specs.declared.head.PointForm.{PointForm}
use Rattle.ti_history.specs.declared.head.PointForm.TheVariants as p
use Rattle.ti_history.specs.declared.head.Head.{Head}
use Rattle.ti_history.specs.Mirrors.Packing.{is_zero, point_form, value_form, head_of, Lists, joined, no_lists, lists_of_value, coordinates_in, point_value_in, lists_of_field, lists_of_elem, lists_of}
use Rattle.ti_history.specs.Mirrors.Reading.{value_from, point_from, coordinates, point_values, value_counts, cell_counts, without_first, firsts, lengths, less, without_entry, event_of, entry_of, behind}

-- ---- points

-- the point is the one that its coordinates or its value give back
abbrev IsKept : PointForm → Point → Type 0
IsKept form at =
    (is js : List ℤ) (vs ws : List Value)
    → point_from form ((coordinates_in form at ++ is) ++ js) ((point_value_in form at ++ vs) ++ ws) ≡ at

by_test : (at : Point) (b : Bool) (x y : PointForm) → (b ≡ true → IsKept x at) → (b ≡ false → IsKept y at) → IsKept (if b then x else y) at
by_test at true x y t f = t refl
by_test at false x y t f = f refl

zero_is : (x : ℤ) → is_zero x ≡ true → x ≡ pos 0
zero_is (pos zero) e = refl
zero_is (pos (suc n)) e = cc
zero_is (negsuc n) e = cc

point_back : (at : Point) → IsKept (point_form at) at
point_back at =
    let other : IsKept p.Other at = λ is js vs ws. refl in
    by_test at (at.dim == 3) p.Three _
    (λ three is js vs ws. λ i. record { dim = sym (eqb-true at.dim 3 three) i; x1 = at.x1; x2 = at.x2; x3 = at.x3 })
    (λ _. by_test at (is_zero at.x3) _ p.Other
    (λ z3. by_test at (at.dim == 2) p.Two _
    (λ two is js vs ws. λ i. record { dim = sym (eqb-true at.dim 2 two) i; x1 = at.x1; x2 = at.x2; x3 = sym (zero_is at.x3 z3) i })
    (λ _. by_test at (is_zero at.x2) _ p.Other
    (λ z2. by_test at (at.dim == 1) p.One p.Other
    (λ one is js vs ws. λ i. record {
      dim = sym (eqb-true at.dim 1 one) i;
      x1 = at.x1;
      x2 = sym (zero_is at.x2 z2) i;
      x3 = sym (zero_is at.x3 z3) i;
    })
    (λ _. other))
    (λ _. other)))
    (λ _. other))

-- ---- values

value_back : (x : Value) (c : Lists) → value_from (value_form x) (joined (lists_of_value x) c) ≡ x
value_back (v.Int x) c = refl
value_back (v.Long x) c = refl
value_back (v.Bool true) c = refl
value_back (v.Bool false) c = refl
value_back (v.Pt at) c = refl
value_back (v.Rc domain) c = refl
value_back (v.Obj (Some id)) c = refl
value_back (v.Obj None) c = refl
value_back (v.Grid (Some id)) c = refl
value_back (v.Grid None) c = refl
value_back (v.Region region) c = refl

behind_value : (x : Value) (c : Lists) → without_first (value_counts (value_form x)) (joined (lists_of_value x) c) ≡ c
behind_value (v.Int x) c = refl
behind_value (v.Long x) c = refl
behind_value (v.Bool true) c = refl
behind_value (v.Bool false) c = refl
behind_value (v.Pt at) c = refl
behind_value (v.Rc domain) c = refl
behind_value (v.Obj (Some id)) c = refl
behind_value (v.Obj None) c = refl
behind_value (v.Grid (Some id)) c = refl
behind_value (v.Grid None) c = refl
behind_value (v.Region region) c = refl

-- ---- elements

behind_coordinates : (form : PointForm) (at : Point) (is js : List ℤ) → drop (coordinates form) ((coordinates_in form at ++ is) ++ js) ≡ is ++ js
behind_coordinates p.Absent at is js = refl
behind_coordinates p.One at is js = refl
behind_coordinates p.Two at is js = refl
behind_coordinates p.Three at is js = refl
behind_coordinates p.Other at is js = refl

behind_point_value : (form : PointForm) (at : Point) (xs ys : List Value) → drop (point_values form) ((point_value_in form at ++ xs) ++ ys) ≡ xs ++ ys
behind_point_value p.Absent at xs ys = refl
behind_point_value p.One at xs ys = refl
behind_point_value p.Two at xs ys = refl
behind_point_value p.Three at xs ys = refl
behind_point_value p.Other at xs ys = refl

count_coordinates : (form : PointForm) (at : Point) → length (coordinates_in form at) ≡ coordinates form
count_coordinates p.Absent at = refl
count_coordinates p.One at = refl
count_coordinates p.Two at = refl
count_coordinates p.Three at = refl
count_coordinates p.Other at = refl

count_point_values : (form : PointForm) (at : Point) → length (point_value_in form at) ≡ point_values form
count_point_values p.Absent at = refl
count_point_values p.One at = refl
count_point_values p.Two at = refl
count_point_values p.Three at = refl
count_point_values p.Other at = refl

behind_elem : (grid : Id) (at : Point) (x c : Lists) → without_first (cell_counts f.GetElem (point_form at)) (joined (joined (lists_of_elem grid at) x) c) ≡ joined x c
behind_elem grid at x c = λ i. record {
  things = x.things ++ c.things;
  fields = x.fields ++ c.fields;
  integers = behind_coordinates (point_form at) at x.integers c.integers i;
  longs = x.longs ++ c.longs;
  values = behind_point_value (point_form at) at x.values c.values i;
  whole = x.whole ++ c.whole;
}

count_elem : (grid : Id) (at : Point) → lengths (lists_of_elem grid at) ≡ cell_counts f.GetElem (point_form at)
count_elem grid at = λ i. record {
  things = 1;
  fields = 0;
  integers = count_coordinates (point_form at) at i;
  longs = 0;
  values = count_point_values (point_form at) at i;
  whole = 0;
}

-- ---- entries

abbrev made : ℕ → Place → Action → Answer → Entry
made proc place act answer = record { proc = proc; place = place; act = act; answer = answer }

abbrev IsBack : Entry → Lists → Type 0
IsBack e c = entry_of (head_of e) (joined (lists_of e) c) ≡ e

field_value : (x : Value) (c : Lists) (obj : Id) (field : ℕ) → value_from (value_form x) (without_first (cell_counts f.GetField p.Absent) (joined (joined (lists_of_field obj field) (lists_of_value x)) c)) ≡ x
field_value x c obj field = value_back x c

elem_value : (x : Value) (c : Lists) (grid : Id) (at : Point) → value_from (value_form x) (without_first (cell_counts f.GetElem (point_form at)) (joined (joined (lists_of_elem grid at) (lists_of_value x)) c)) ≡ x
elem_value x c grid at = ap (value_from (value_form x)) (behind_elem grid at (lists_of_value x) c) ∙ value_back x c

elem_point : (x : Value) (c : Lists) (at : Point) → point_from (point_form at) ((coordinates_in (point_form at) at ++ (lists_of_value x).integers) ++ c.integers) ((point_value_in (point_form at) at ++ (lists_of_value x).values) ++ c.values) ≡ at
elem_point x c at = point_back at (lists_of_value x).integers c.integers (lists_of_value x).values c.values

made_back : (proc : ℕ) (place : Place) (act : Action) (answer : Answer) (c : Lists) → IsBack (made proc place act answer) c
made_back proc place (a.GetField obj field) (Val x) c = λ i. made proc place (a.GetField obj field) (Val (field_value x c obj field i))
made_back proc place (a.PutField obj field x) Done c = λ i. made proc place (a.PutField obj field (field_value x c obj field i)) Done
made_back proc place (a.GetElem grid at) (Val x) c =
    λ i. made proc place (a.GetElem grid (elem_point x c at i)) (Val (elem_value x c grid at i))
made_back proc place (a.PutElem grid at x) Done c =
    λ i. made proc place (a.PutElem grid (elem_point x c at i) (elem_value x c grid at i)) Done
made_back proc place act answer c = refl

-- the entry is read from the columns that begin with what it added
pub entry_back : (e : Entry) (c : Lists) → entry_of (head_of e) (joined (lists_of e) c) ≡ e
entry_back e c = made_back e.proc e.place e.act e.answer c

behind_made : (proc : ℕ) (place : Place) (act : Action) (answer : Answer) (c : Lists) → let e : Entry = made proc place act answer in behind (head_of e) (joined (lists_of e) c) ≡ c
behind_made proc place (a.GetField obj field) (Val x) c = behind_value x c
behind_made proc place (a.PutField obj field x) Done c = behind_value x c
behind_made proc place (a.GetElem grid at) (Val x) c = ap (without_first (value_counts (value_form x))) (behind_elem grid at (lists_of_value x) c) ∙ behind_value x c
behind_made proc place (a.PutElem grid at x) Done c = ap (without_first (value_counts (value_form x))) (behind_elem grid at (lists_of_value x) c) ∙ behind_value x c
behind_made proc place act answer c = refl

-- and what is behind it is left
pub behind_entry : (e : Entry) (c : Lists) → behind (head_of e) (joined (lists_of e) c) ≡ c
behind_entry e c = behind_made e.proc e.place e.act e.answer c

-- ---- how much an entry adds

left : {A : Type 0} (x l m b : List A) (j k : ℕ) → length l ≡ j → length m ≡ k → length (x ++ ((l ++ m) ++ b)) - j - k ≡ length (x ++ b)
left x l m b j k p q =
    omega (arith, length-append x ((l ++ m) ++ b), length-append (l ++ m) b, length-append l m, length-append x b, p, q)

left_parts : (x l m b : Lists) (j k : Counts) → lengths l ≡ j → lengths m ≡ k → less (less (lengths (joined x (joined (joined l m) b))) j) k ≡ lengths (joined x b)
left_parts x l m b j k p q = λ i. record {
  things = left x.things l.things m.things b.things j.things k.things (ap (λ (n : Counts). n.things) p) (ap (λ (n : Counts). n.things) q) i;
  fields = left x.fields l.fields m.fields b.fields j.fields k.fields (ap (λ (n : Counts). n.fields) p) (ap (λ (n : Counts). n.fields) q) i;
  integers = left x.integers l.integers m.integers b.integers j.integers k.integers (ap (λ (n : Counts). n.integers) p) (ap (λ (n : Counts). n.integers) q) i;
  longs = left x.longs l.longs m.longs b.longs j.longs k.longs (ap (λ (n : Counts). n.longs) p) (ap (λ (n : Counts). n.longs) q) i;
  values = left x.values l.values m.values b.values j.values k.values (ap (λ (n : Counts). n.values) p) (ap (λ (n : Counts). n.values) q) i;
  whole = left x.whole l.whole m.whole b.whole j.whole k.whole (ap (λ (n : Counts). n.whole) p) (ap (λ (n : Counts). n.whole) q) i;
}

count_value : (x : Value) → lengths (lists_of_value x) ≡ value_counts (value_form x)
count_value (v.Int x) = refl
count_value (v.Long x) = refl
count_value (v.Bool true) = refl
count_value (v.Bool false) = refl
count_value (v.Pt at) = refl
count_value (v.Rc domain) = refl
count_value (v.Obj (Some id)) = refl
count_value (v.Obj None) = refl
count_value (v.Grid (Some id)) = refl
count_value (v.Grid None) = refl
count_value (v.Region region) = refl

left_made : (proc : ℕ) (place : Place) (act : Action) (answer : Answer) (x b : Lists) → let e : Entry = made proc place act answer in without_entry (lengths (joined x (joined (lists_of e) b))) (head_of e) ≡ lengths (joined x b)
left_made proc place (a.GetField obj field) (Val y) x b = left_parts x (lists_of_field obj field) (lists_of_value y) b _ _ refl (count_value y)
left_made proc place (a.PutField obj field y) Done x b = left_parts x (lists_of_field obj field) (lists_of_value y) b _ _ refl (count_value y)
left_made proc place (a.GetElem grid at) (Val y) x b = left_parts x (lists_of_elem grid at) (lists_of_value y) b _ _ (count_elem grid at) (count_value y)
left_made proc place (a.PutElem grid at y) Done x b = left_parts x (lists_of_elem grid at) (lists_of_value y) b _ _ (count_elem grid at) (count_value y)
left_made proc place act answer x b = left_parts x (record no_lists { whole = made proc place act answer ∷ [] }) no_lists b _ _ refl refl

-- without what an entry added, the columns have as much as before it and behind it
pub left_without : (e : Entry) (x b : Lists) → without_entry (lengths (joined x (joined (lists_of e) b))) (head_of e) ≡ lengths (joined x b)
left_without e x b = left_made e.proc e.place e.act e.answer x b
