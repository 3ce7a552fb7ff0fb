-- The heap keeps to the types: what names things that are there is possible, and is answered as it should.
use Rattle.std.proofs.Common.{◌≡◌, ℕ, ◌==◌, Bool, true, false, ◌&&◌, ◌||◌, ◌⊎◌, inl, inr, if◌then◌else◌, map, option_map, slice_get, Option, Some, None, List, [], ◌∷◌, refl, ap, ap₂, sym, ◌∙◌, subst, eq-eqb, eqb-true}
use Rattle.std.specs.Option.{option_and_then, option_map_or}
use Rattle.std.proofs.lemmas.Option.{slice_get-map}
use Rattle.ti_base.specs.declared.place.Place.{Place}
use Rattle.ti_base.specs.declared.point.Point.{Point}
use Rattle.ti_base.specs.declared.point.Rect.{Rect}
use Rattle.ti_base.specs.declared.value.Id.{Id}
use Rattle.ti_base.specs.declared.value.Value.{Value}
use Rattle.ti_base.specs.declared.value.Value.TheVariants as v
use Rattle.ti_base.specs.declared.value.Zero.{Zero}
use Rattle.ti_base.specs.declared.fault.FaultKind.{FaultKind}
use Rattle.ti_base.specs.declared.fault.FaultKind.TheVariants as fault
use Rattle.ti_base.specs.declared.action.ViewHow.{ViewHow}
use Rattle.ti_base.specs.declared.action.Action.{Action}
use Rattle.ti_base.specs.declared.action.Action.TheVariants as act
use Rattle.ti_base.specs.declared.entry.Answer.{Answer}
use Rattle.ti_base.specs.declared.entry.Answer.TheVariants.{Done, Val}
use Rattle.ti_base.specs.declared.entry.Entry.{Entry}
use Rattle.ti_base.specs.Points.{IsDim}
use Rattle.ti_base.specs.Cells.{Cell, Field, Element, thing_of, Grid, same_id, same_cell, zero_value, cell_of, whole_grid, view, view_fault}
use Rattle.ti_base.proofs.Lemmas.{same_from}
use Rattle.ti_lang.specs.Program.Types.{ValueType}
use Rattle.ti_lang.specs.Program.Types as t
use Rattle.ti_lang.specs.Program.Classes.{NumberedField, NumberedClass, ProgramView}
use Rattle.ti_lang.specs.Typing.Declared.{field_type}
use Rattle.ti_lang.specs.Meaning.Held.{Plain}
use Rattle.ti_lang.specs.Meaning.Answers.{IsPointOf, IsRectOf}
use Rattle.ti_lang.specs.Meaning.Zeros.{zero_of_type, zeros_of_class}
use Rattle.ti_lang.specs.Meaning.Histories.{History, is_making, is_departure}
use Rattle.ti_align.proofs.RunTypes.Computing.{of_stays, grid_stays}
use Rattle.ti_lang.specs.Meaning.HeapOf.{new_id, view_id, is_object, is_grid, made_by, class_made, class_of_object, grid_made, grid_of_id, or_else, written_by, written_to, last_written, zero_of, cell_value}
use Rattle.ti_lang.specs.Meaning.Comp.{Wanted, NewThing, told}
use Rattle.ti_lang.specs.Meaning.RegionsOf.{is_region, is_made, is_place}
use Rattle.ti_lang.specs.Meaning.HeapAnswers.{Outcome, Answers, Impossible, where_some, possible_if, faults_if, makes, places, at_point, views, heap_answer, IsAnswered, more}
use Rattle.ti_lang.proofs.Lemmas.{dim_is, made_once, fault_then, answer_same, views_then, placed, grid_then, class_then, same_name}
use Rattle.ti_align.specs.HeapTyping.{HeapTyping, Grows, IsStorable, IsGridOf, IsPlaced, IsOf}
use Rattle.ti_align.specs.Existing.{SuitsView, dims_viewed, IsFieldOf, OperandsExist, FitsAsked}
use Rattle.ti_align.specs.Heap.{Elements, heap_typing_of, IsBlock, FieldsStorable, HeapFits, is_of_heap, elements_behind, MayHold, KeepsTypes}
use Rattle.ti_align.proofs.Runs.Vars.{true_false, and_left, and_right, if_true, if_false}
use Rattle.ti_align.proofs.RunTypes.Operating.{none_some, some_same}
use Rattle.ti_align.proofs.RunTypes.Forms.{zero_fits, long_zero, origin_point, empty_form, rect_dims, suits_is, view_form}

-- ---- names

pub same_self : (a : Id) → same_id a a ≡ true
same_self a =
    ap₂ (λ x y. x && y)
    (ap₂ (λ x y. x && y) (ap₂ (λ x y. x && y) (eq-eqb a.maker a.maker refl) (eq-eqb a.serial a.serial refl)) (eq-eqb a.owner a.owner refl))
    (eq-eqb a.region a.region refl)

pub object_is : (id : Id) (r : Answer) → is_object id r ≡ true → r ≡ Val (v.Obj (Some id))
object_is id (Val (v.Obj (Some made))) h = ap (λ x. Val (v.Obj (Some x))) (sym (same_name id made h))
object_is id _ h = absurd (true_false (sym h))

pub grid_is : (id : Id) (r : Answer) → is_grid id r ≡ true → r ≡ Val (v.Grid (Some id))
grid_is id (Val (v.Grid (Some made))) h = ap (λ x. Val (v.Grid (Some x))) (sym (same_name id made h))
grid_is id _ h = absurd (true_false (sym h))

made_object : (a : Action) (r : Answer) (id : Id) → (is_making a && is_object id r) ≡ true → made_by a r ≡ Some id
made_object a r id h = ap (made_by a) (object_is id r (and_right (is_making a) _ h)) ∙ ap (λ b. if b then Some id else None) (and_left (is_making a) _ h)

made_grid : (a : Action) (r : Answer) (id : Id) → (is_making a && is_grid id r) ≡ true → made_by a r ≡ Some id
made_grid a r id h = ap (made_by a) (grid_is id r (and_right (is_making a) _ h)) ∙ ap (λ b. if b then Some id else None) (and_left (is_making a) _ h)

pub class_stays : (p : ProgramView) (h : History) (e : Entry) (id : Id) (c : ℕ) → IsAnswered p (e ∷ h) → class_of_object id h ≡ Some c → class_of_object id (e ∷ h) ≡ Some c
class_stays p h e id c a z = by (is_making e.act && is_object id e.answer) refl
  where
    by : (b : Bool) → (is_making e.act && is_object id e.answer) ≡ b → (if is_making e.act && is_object id e.answer then class_made e.act else class_of_object id h) ≡ Some c
    by true k = absurd (made_once p h e id a (made_object e.act e.answer id k) (class_then id h c z))
    by false k = if_false _ _ _ k ∙ z

pub grid_of_stays : (p : ProgramView) (h : History) (e : Entry) (id : Id) (g : Grid) → IsAnswered p (e ∷ h) → grid_of_id id h ≡ Some g → grid_of_id id (e ∷ h) ≡ Some g
grid_of_stays p h e id g a z = by (is_making e.act && is_grid id e.answer) refl
  where
    by : (b : Bool) → (is_making e.act && is_grid id e.answer) ≡ b → (if is_making e.act && is_grid id e.answer then grid_made id e.act (λ viewed. grid_of_id viewed h) else grid_of_id id h) ≡ Some g
    by true k = absurd (made_once p h e id a (made_grid e.act e.answer id k) (grid_then id h g z))
    by false k = if_false _ _ _ k ∙ z

-- ---- zeros

zero_of_storable : (w : HeapTyping) (type : ValueType) → IsStorable type → IsOf w type (Plain (zero_value (zero_of_type type)))
zero_of_storable w t.Int s = (_, refl, zero_fits)
zero_of_storable w t.Long s = (_, refl, long_zero)
zero_of_storable w t.Boolean s = (_, refl)
zero_of_storable w (t.Pt n) s = (_, refl, origin_point n s)
zero_of_storable w (t.Rc n) s = (_, refl, empty_form n s)
zero_of_storable w (t.Class c l) s = (None, refl, (λ id z. absurd (none_some id z)), λ z. refl)
zero_of_storable w (t.Grid x n l) s = (None, refl, (λ id z. absurd (none_some id z)), λ z. refl)
zero_of_storable w (t.Dm n) s = absurd s
zero_of_storable w t.Region s = absurd s
zero_of_storable w t.Null s = absurd s
zero_of_storable w t.Void s = absurd s

-- the zero of a field
field_zero : (p : ProgramView) (c field : ℕ) (type : ValueType) → field_type p c field ≡ Some type → (zs : List Zero)
    × (zeros_of_class p c ≡ Some zs) × (slice_get zs field ≡ Some (zero_of_type type))
field_zero p c field type h = by (slice_get p.classes c) refl h
  where
    none_field : (k : ℕ) → option_map (λ (f : NumberedField). f.ty.type) (slice_get [] k) ≡ Some type → ⊥
    none_field k h = none_some type h

    by : (o : Option NumberedClass) → slice_get p.classes c ≡ o → option_map (λ (f : NumberedField). f.ty.type) (slice_get (option_map_or (λ (c : NumberedClass). c.fields) o []) field) ≡ Some type
        → (zs : List Zero) × (zeros_of_class p c ≡ Some zs) × (slice_get zs field ≡ Some (zero_of_type type))
    by None k h = absurd (none_field field h)
    by (Some cl) k h = (
      map (λ (f : NumberedField). zero_of_type f.ty.type) cl.fields,
      ap (option_map (λ (c : NumberedClass). map (λ (f : NumberedField). zero_of_type f.ty.type) c.fields)) k,
      slice_get-map (λ (f : NumberedField). zero_of_type f.ty.type) cl.fields field ∙ mapped (slice_get cl.fields field) h,
    )
      where
        mapped : (o : Option NumberedField) → option_map (λ (f : NumberedField). f.ty.type) o ≡ Some type → option_map (λ (f : NumberedField). zero_of_type f.ty.type) o ≡ Some (zero_of_type type)
        mapped None h = absurd (none_some type h)
        mapped (Some f) h = ap (λ x. Some (zero_of_type x)) (some_same f.ty.type type h)

-- ---- cells

-- what a cell holds that has a zero
abbrev pub held_in : Option Value → Value → Value
held_in o first = option_map_or (λ value. value) o first

field_same : (p : ProgramView) (w : HeapTyping) (obj : Id) (field : ℕ) (s t : ValueType) → IsFieldOf p w obj field s → IsFieldOf p w obj field t → s ≡ t
field_same p w obj field s t a b =
    some_same s t (sym a.2 ∙ ap (λ c. field_type p c field) (some_same a.0 b.0 (sym a.1 ∙ b.1)) ∙ b.2)

field_stays : (p : ProgramView) (u w : HeapTyping) (obj : Id) (field : ℕ) (t : ValueType) → Grows u w → IsFieldOf p u obj field t → IsFieldOf p w obj field t
field_stays p u w obj field t g a = (a.0, g.classes obj a.0 a.1, a.2)

grid_same : (w : HeapTyping) (id : Id) (s t : ValueType) (m n : ℕ) → IsGridOf w s m id → IsGridOf w t n id → (s ≡ t) × (m ≡ n)
grid_same w id s t m n a b =
    let g = some_same a.0 b.0 (sym a.1 ∙ b.1) in
    (some_same s t (sym a.3 ∙ ap (λ (x : Grid). w.element_at x.block) g ∙ b.3), sym a.2.dim_is ∙ ap (λ (x : Grid). x.domain.dim) g ∙ b.2.dim_is)

-- the cell may hold the value in the memory in which it lies
abbrev HoldsIn : ProgramView → Elements → History → Cell → Value → Type 0
HoldsIn p elements h cell value = MayHold p (heap_typing_of (thing_of cell).owner elements h) cell value

module _ (p : ProgramView) (elements : Elements) (h : History) (fits : HeapFits p elements h) (store : FieldsStorable p) where
  pub field_value : (obj : Id) (field : ℕ) (type : ValueType) → IsFieldOf p (heap_typing_of obj.owner elements h) obj field type → (x : Value)
      × (cell_value p (Field obj field) h ≡ Some x) × IsOf (heap_typing_of obj.owner elements h) type (Plain x)
  field_value obj field type k =
      let z = field_zero p k.0 field type k.2 in
      let at : zero_of p (Field obj field) h ≡ Some (zero_value (zero_of_type type)) =
      ap (λ o. option_and_then (λ zeros. option_map zero_value (slice_get zeros field)) (option_and_then (zeros_of_class p) o)) k.1
      ∙ ap (option_and_then (λ zeros. option_map zero_value (slice_get zeros field))) z.1 ∙ ap (option_map zero_value) z.2 in
      (held_in (last_written (Field obj field) h) (zero_value (zero_of_type type)), ap (option_map (held_in (last_written (Field obj field) h))) at, by (last_written (Field obj field) h) refl)
    where
      by : (o : Option Value) → last_written (Field obj field) h ≡ o → IsOf (heap_typing_of obj.owner elements h) type (Plain (held_in o (zero_value (zero_of_type type))))
      by None q = zero_of_storable _ type (store k.0 field type k.2)
      by (Some x) q =
          let m = fits.cells (Field obj field) x q in
          subst (λ t. IsOf (heap_typing_of obj.owner elements h) t (Plain x)) (field_same p (heap_typing_of obj.owner elements h) obj field m.0 type m.1 k) m.2

  -- an element of a block
  pub block_value : (block : Id) (element : ValueType) (at : Point) → elements block ≡ Some element → (x : Value)
      × (cell_value p (Element block at) h ≡ Some x) × IsOf (heap_typing_of block.owner elements h) element (Plain x)
  block_value block element at k =
      let zero : zero_of p (Element block at) h ≡ Some (zero_value (zero_of_type element)) = ap (option_map (λ (g : Grid). zero_value g.zero)) is.1 ∙ ap (λ z. Some (zero_value z)) is.2 in
      (held_in (last_written (Element block at) h) (zero_value (zero_of_type element)), ap (option_map (held_in (last_written (Element block at) h))) zero, by (last_written (Element block at) h) refl)
    where
      is : IsBlock h block element
      is = fits.blocks block element k

      by : (o : Option Value) → last_written (Element block at) h ≡ o → IsOf (heap_typing_of block.owner elements h) element (Plain (held_in o (zero_value (zero_of_type element))))
      by None q = zero_of_storable _ element is.3
      by (Some x) q =
          let m = fits.cells (Element block at) x q in
          subst (λ t. IsOf (heap_typing_of block.owner elements h) t (Plain x)) (some_same m.0 element (sym m.1 ∙ k)) m.2

  -- of a grid, in the memory in which it lies
  pub element_value : (element : ValueType) (n : ℕ) (id : Id) (at : Point) → (k : IsGridOf (heap_typing_of id.owner elements h) element n id)
      → (x : Value) × (cell_value p (cell_of k.0 at) h ≡ Some x) × IsOf (heap_typing_of id.owner elements h) element (Plain x)
  element_value element n id at k =
      let v = block_value k.0.block element (k.0.place at) k.3 in
      (v.0, v.1, subst (λ n. IsOf (heap_typing_of n elements h) element (Plain v.0)) k.5 v.2)

-- ---- what is possible

faults_not : (b : Bool) (kind : FaultKind) (o : Outcome) → (o ≡ Impossible → ⊥) → faults_if b kind o ≡ Impossible → ⊥
faults_not true kind o n z = cc
faults_not false kind o n z = n z

possible_not : (b : Bool) (o : Outcome) → b ≡ true → (o ≡ Impossible → ⊥) → possible_if b o ≡ Impossible → ⊥
possible_not b o t n z = n (sym (if_true b o Impossible t) ∙ z)

pub answer_not : (r : Answer) → Answers r ≡ Impossible → ⊥
answer_not r z = cc

views_not : (v : Option FaultKind) (o : Outcome) → (o ≡ Impossible → ⊥) → views v o ≡ Impossible → ⊥
views_not None o n z = n z
views_not (Some kind) o n z = cc

some_not : {A : Type 0} → (o : Option A) (a : A) (go : A → Outcome) → o ≡ Some a → (go a ≡ Impossible → ⊥) → where_some o go ≡ Impossible → ⊥
some_not o a go s n z = n (sym (ap (λ x. where_some x go) s) ∙ z)

-- the place of a thing is one by the test of the meaning
pub place_is : (i : ℕ) (elements : Elements) (h : History) (r : ℕ) → IsPlaced (heap_typing_of i elements h) r → is_place r h ≡ true
place_is i elements h r (inl z) = ap (λ b. b || is_made r h) (eq-eqb r 0 z)
place_is i elements h r (inr z) = by (r == 0)
  where
    by : (b : Bool) → (b || is_made r h) ≡ true
    by true = refl
    by false = z

module _ (p : ProgramView) (elements : Elements) (h : History) (fits : HeapFits p elements h) (store : FieldsStorable p) (i : ℕ) where
  makes_not : (a : Action) (made : Value) → makes p h i a made ≡ Impossible → ⊥
  makes_not a made z = faults_not _ fault.HeapFull _ (answer_not _) z

  places_not : (r : ℕ) (o : Outcome) → IsPlaced (heap_typing_of i elements h) r → (o ≡ Impossible → ⊥) → places r h o ≡ Impossible → ⊥
  places_not r o k n z = possible_not _ _ (place_is i elements h r k) (faults_not _ fault.RegionGone _ n) z

  point_not : (element : ValueType) (n : ℕ) (id : Id) (at : Point) (o : Outcome) → (k : IsGridOf (heap_typing_of i elements h) element n id)
      → IsPointOf n at → (o ≡ Impossible → ⊥) → at_point k.0 at o ≡ Impossible → ⊥
  point_not element n id at o k d x z = possible_not _ _ (eq-eqb at.dim k.0.domain.dim (d.dim_is ∙ sym k.2.dim_is)) (faults_not _ fault.Bounds _ x) z

  pub is_possible : (a : Action) (wanted : Wanted) → is_of_heap a ≡ true → OperandsExist p (heap_typing_of i elements h) a wanted → heap_answer p h i a ≡ Impossible → ⊥
  is_possible (act.GetField obj field) wanted t k z =
      let v = field_value p elements h fits store obj field k.0 k.1 in
      some_not (cell_value p (Field obj field) h) v.0 (λ x. Answers (Val x)) v.1 (answer_not _) z
  is_possible (act.PutField obj field value) wanted t k z =
      let v = field_value p elements h fits store obj field k.0 k.1 in
      some_not (cell_value p (Field obj field) h) v.0 (λ x. Answers Done) v.1 (answer_not _) z
  is_possible (act.NewObj class region) wanted t k z =
      some_not (zeros_of_class p class) k.0 _ k.1 (places_not region _ k.2 (makes_not (act.NewObj class region) _)) z
  is_possible (act.NewGrid first domain region) wanted t k z =
      possible_not _ _ (dim_is domain.dim (subst IsDim (sym k.4.dim_is) k.5)) (places_not region _ k.6 (makes_not (act.NewGrid first domain region) _)) z
  is_possible (act.GetElem grid at) wanted t k z =
      let v = element_value p elements h fits store k.0 k.1 grid at k.2 in
      some_not (grid_of_id grid h) k.2.0 _ k.2.1 (point_not k.0 k.1 grid at _ k.2 k.3 (some_not (cell_value p (cell_of k.2.0 at) h) v.0 _ v.1 (answer_not _))) z
  is_possible (act.PutElem grid at value) wanted t k z =
      some_not (grid_of_id grid h) k.2.0 _ k.2.1 (point_not k.0 k.1 grid at _ k.2 k.3 (answer_not _)) z
  is_possible (act.MakeView grid how) wanted t k z =
      some_not (grid_of_id grid h) k.2.0 _ k.2.1 (possible_not _ _ (suits_is how k.1 k.2.0.domain k.3 (rect_dims k.1 k.2.0.domain k.2.2)) (views_not _ _ (makes_not (act.MakeView grid how) _))) z
  is_possible (act.DomainOf grid) wanted t k z = some_not (grid_of_id grid h) k.2.0 _ k.2.1 (answer_not _) z
  is_possible _ wanted t k z = absurd (true_false (sym t))

-- ---- what is kept

pub same_cells : (c o : Cell) → same_cell c o ≡ true → c ≡ o
same_cells (Field a f) (Field b g) s = ap (λ i. Field i f) (same_name a b (and_left (same_id a b) (f == g) s)) ∙ ap (Field b) (eqb-true f g (and_right (same_id a b) (f == g) s))
same_cells (Element a q) (Element b r) s = ap (λ i. Element i q) (same_name a b (and_left (same_id a b) _ s)) ∙ ap (Element b) (same_from q r (and_right (same_id a b) _ s))
same_cells (Field a f) (Element b q) s = absurd (true_false (sym s))
same_cells (Element a q) (Field b f) s = absurd (true_false (sym s))

cell_stays : (p : ProgramView) (u w : HeapTyping) (c : Cell) (value : Value) → Grows u w → MayHold p u c value → MayHold p w c value
cell_stays p u w (Field a f) value g k = (k.0, field_stays p u w a f k.0 g k.1, of_stays u w k.0 _ g k.2)
cell_stays p u w (Element a q) value g k = (k.0, g.elements a k.0 k.1, of_stays u w k.0 _ g k.2)

pub pair_first : (c d : Cell) (v x : Value) → ◌≡◌ {A = Option (Cell × Value)} (Some (c, v)) (Some (d, x)) → c ≡ d
pair_first c d v x z = ap (λ (k : Cell × Value). k.0) (some_same (c, v) (d, x) z)

pub pair_second : (c d : Cell) (v x : Value) → ◌≡◌ {A = Option (Cell × Value)} (Some (c, v)) (Some (d, x)) → v ≡ x
pair_second c d v x z = ap (λ (k : Cell × Value). k.1) (some_same (c, v) (d, x) z)

-- what an action that names what is there writes, the cell may hold
may_write : (p : ProgramView) (elements : Elements) (h : History) (i : ℕ) (a : Action) (wanted : Wanted)
    → OperandsExist p (heap_typing_of i elements h) a wanted → (c : Cell) (x : Value) → written_by a h ≡ Some (c, x) → HoldsIn p elements h c x
may_write p elements h i (act.PutField obj field value) wanted k c x z =
    subst (λ d. HoldsIn p elements h d x) (pair_first _ _ _ _ z) (subst (λ y. HoldsIn p elements h (Field obj field) y) (pair_second _ _ _ _ z) (k.0, k.1, k.2))
may_write p elements h i (act.PutElem grid at value) wanted k c x z =
    let y = sym (ap (option_map (λ (g : Grid). (cell_of g at, value))) k.2.1) ∙ z in
    subst (λ d. HoldsIn p elements h d x) (pair_first _ _ _ _ y) (subst (λ y. HoldsIn p elements h (cell_of k.2.0 at) y)
    (pair_second _ _ _ _ y) (k.0, k.2.3, subst (λ n. IsOf (heap_typing_of n elements h) k.0 (Plain value)) (sym k.2.5) k.4))
may_write p elements h i _ wanted k c x z = absurd (none_some (c, x) z)

-- behind an entry that got its answer, where the blocks that are new have grids
module _ (p : ProgramView) (h : History) (e : Entry) (a : IsAnswered p (e ∷ h)) (elements after : Elements) (more : (id : Id) (type : ValueType) → elements id ≡ Some type → after id ≡ Some type) where
  grown_behind : (i : ℕ) → Grows (heap_typing_of i elements h) (heap_typing_of i after (e ∷ h))
  grown_behind i = record {
    owner = refl;
    classes = λ id c z. class_stays p h e id c a z;
    grids = λ id g z. grid_of_stays p h e id g a z;
    elements = more;
    regions = λ r z. by (is_departure e.act && is_region r e.answer) (is_made r h) z;
  }
    where
      by : (x y : Bool) → y ≡ true → (x || y) ≡ true
      by true y z = refl
      by false y z = z

  kept_behind : HeapFits p elements h → ((c : Cell) (x : Value) → written_by e.act h ≡ Some (c, x) → HoldsIn p elements h c x)
      → ((id : Id) (type : ValueType) → after id ≡ Some type → (elements id ≡ Some type) ⊎ IsBlock (e ∷ h) id type) → HeapFits p after (e ∷ h)
  kept_behind f w b = record {
    cells = λ c x z. cell_stays p (heap_typing_of (thing_of c).owner elements h) (heap_typing_of (thing_of c).owner after (e ∷ h)) c x (grown_behind (thing_of c).owner) (old c x (written_by e.act h) refl z);
    blocks = λ id type z. block id type (b id type z);
  }
    where
      hit : (c o : Cell) (x value : Value) (b : Bool) → same_cell c o ≡ b → HoldsIn p elements h o value
          → or_else (if b then Some value else None) (last_written c h) ≡ Some x → HoldsIn p elements h c x
      hit c o x value true s k z = subst (HoldsIn p elements h c) (some_same value x z) (subst (λ x. HoldsIn p elements h x value) (sym (same_cells c o s)) k)
      hit c o x value false s k z = f.cells c x z

      old : (c : Cell) (x : Value) (o : Option (Cell × Value)) → written_by e.act h ≡ o → or_else (written_to c o) (last_written c h) ≡ Some x → HoldsIn p elements h c x
      old c x None s z = f.cells c x z
      old c x (Some (o, value)) s z = hit c o x value (same_cell c o) refl (w o value s) z

      block : (id : Id) (type : ValueType) → (elements id ≡ Some type) ⊎ IsBlock (e ∷ h) id type → IsBlock (e ∷ h) id type
      block id type (inr k) = k
      block id type (inl k) =
          let o = f.blocks id type k in
          (o.0, grid_of_stays p h e id o.0 a o.1, o.2, o.3)

-- ---- what is answered

abbrev answer_in : Outcome → Answer
answer_in (Answers r) = r
answer_in o = Done

pub possible_answer : (b : Bool) (o : Outcome) (r : Answer) → possible_if b o ≡ Answers r → o ≡ Answers r
possible_answer true o r z = z
possible_answer false o r z = cc

pub no_fault : (v : Option FaultKind) (o : Outcome) (r : Answer) → views v o ≡ Answers r → v ≡ None
no_fault None o r z = refl
no_fault (Some kind) o r z = cc

pub some_answer : {A : Type 0} → (o : Option A) (a : A) (go : A → Outcome) (r : Answer) → o ≡ Some a → where_some o go ≡ Answers r → go a ≡ Answers r
some_answer o a go r s z = sym (ap (λ x. where_some x go) s) ∙ z

pub makes_answer : (p : ProgramView) (h : History) (i : ℕ) (a : Action) (made : Value) (r : Answer) → makes p h i a made ≡ Answers r → r ≡ Val made
makes_answer p h i a made r z = answer_same _ _ (sym (fault_then _ fault.HeapFull _ _ z))

abbrev element_wanted : Wanted → ValueType
element_wanted (NewThing (t.Grid element n is_local)) = element
element_wanted wanted = t.Null

abbrev dims_wanted : Wanted → ℕ
dims_wanted (NewThing (t.Grid element n is_local)) = n
dims_wanted wanted = 0

module _ (p : ProgramView) (elements : Elements) (h : History) (answered : IsAnswered p h) (fits : HeapFits p elements h) (store : FieldsStorable p) (i : ℕ) (place : Place) where
  -- the entry of an action
  abbrev entry : Action → Answer → Entry
  entry a r = record { proc = i; place = place; act = a; answer = r }

  -- what comes behind it
  abbrev Behind : Action → Wanted → Answer → Type 0
  Behind a wanted r =
      HeapFits p (elements_behind elements a wanted r) (entry a r ∷ h)
      × Grows (heap_typing_of i elements h) (heap_typing_of i (elements_behind elements a wanted r) (entry a r ∷ h))
      × (is_of_heap a ≡ true → FitsAsked p (heap_typing_of i (elements_behind elements a wanted r) (entry a r ∷ h)) a wanted r)

  grown_same : (a : Action) (r : Answer) → heap_answer p h i a ≡ Answers r → Grows (heap_typing_of i elements h) (heap_typing_of i elements (entry a r ∷ h))
  grown_same a r said = grown_behind p h (entry a r) (more answered said) elements elements (λ id type z. z) i

  -- and in any memory
  grown_in : (j : ℕ) (a : Action) (r : Answer) → heap_answer p h i a ≡ Answers r → Grows (heap_typing_of j elements h) (heap_typing_of j elements (entry a r ∷ h))
  grown_in j a r said = grown_behind p h (entry a r) (more answered said) elements elements (λ id type z. z) j

  kept_same : (a : Action) (wanted : Wanted) (r : Answer) → OperandsExist p (heap_typing_of i elements h) a wanted → heap_answer p h i a ≡ Answers r → HeapFits p elements (entry a r ∷ h)
  kept_same a wanted r k said = kept_behind p h (entry a r) (more answered said) elements elements (λ id type z. z) fits (may_write p elements h i a wanted k) (λ id type z. inl z)

  object_fits : (class region : ℕ) (new : Id) → new.owner ≡ i → IsOf
      (heap_typing_of i elements (entry (act.NewObj class region) (Val (v.Obj (Some new))) ∷ h)) (t.Class class true) (Plain (v.Obj (Some new)))
  object_fits class region new own = (Some new, refl, (λ id z. if_true (same_id id new) _ _ (subst (λ x. same_id id x ≡ true) (sym (some_same new id z)) (same_self id))), λ z. eq-eqb new.owner i own)

  view_fits : (grid : Id) (how : ViewHow) (new : Id) (element : ValueType) (n : ℕ) → new.owner ≡ grid.owner
      → (k : IsGridOf (heap_typing_of i elements h) element n grid) → SuitsView how n → view_fault how k.0.domain ≡ None
      → IsOf (heap_typing_of grid.owner elements (entry (act.MakeView grid how) (Val (v.Grid (Some new))) ∷ h)) (t.Grid element (dims_viewed how n) true) (Plain (v.Grid (Some new)))
  view_fits grid how new element n own k s f = (
    Some new,
    refl,
    (λ id z. (
      view how k.0,
      if_true (same_id id new) _ _ (subst (λ x. same_id id x ≡ true) (sym (some_same new id z)) (same_self id)) ∙ ap (option_map (view how)) k.1,
      view_form how n k.0.domain k.2 s f,
      k.3,
      k.4,
      k.5 ∙ sym own ∙ ap (λ (x : Id). x.owner) (some_same new id z),
    )),
    λ z. eq-eqb new.owner grid.owner own,
  )

  grid_behind : (element : ValueType) (n : ℕ) (first : Zero) (domain : Rect) (region : ℕ) (new : Id) → new.owner ≡ i → first ≡ zero_of_type element → IsRectOf n domain → IsStorable element
      → heap_answer p h i (act.NewGrid first domain region) ≡ Answers (Val (v.Grid (Some new)))
      → Behind (act.NewGrid first domain region) (NewThing (t.Grid element n true)) (Val (v.Grid (Some new)))
  grid_behind element n first domain region new own z d s said = (
    kept_behind p h e a elements after grows fits (may_write_none) fresh,
    grown_behind p h e a elements after grows i,
    λ q x m w. subst (λ x. IsOf (heap_typing_of i after (e ∷ h)) (t.Grid x m true) (Plain (v.Grid (Some new)))) (ap element_wanted w)
        (subst (λ m. IsOf (heap_typing_of i after (e ∷ h)) (t.Grid element m true) (Plain (v.Grid (Some new)))) (ap dims_wanted w) is_grid),
  )
    where
      e : Entry
      e = entry (act.NewGrid first domain region) (Val (v.Grid (Some new)))

      a : IsAnswered p (e ∷ h)
      a = more answered said

      after : Elements
      after id = if same_id id new then Some element else elements id

      grows : (id : Id) (type : ValueType) → elements id ≡ Some type → after id ≡ Some type
      grows id type k = by (same_id id new) refl
        where
          by : (b : Bool) → same_id id new ≡ b → (if b then Some element else elements id) ≡ Some type
          by true q =
              let o = fits.blocks id type k in
              absurd (made_once p h e id a (ap Some (sym (same_name id new q))) (grid_then id h o.0 o.1))
          by false q = k

      may_write_none : (c : Cell) (x : Value) → written_by e.act h ≡ Some (c, x) → HoldsIn p elements h c x
      may_write_none c x q = absurd (none_some (c, x) q)

      fresh : (id : Id) (type : ValueType) → after id ≡ Some type → (elements id ≡ Some type) ⊎ IsBlock (e ∷ h) id type
      fresh id type k = by (same_id id new) refl k
        where
          by : (b : Bool) → same_id id new ≡ b → (if b then Some element else elements id) ≡ Some type → (elements id ≡ Some type) ⊎ IsBlock (e ∷ h) id type
          by true q k =
              inr (whole_grid id first domain, if_true (same_id id new) _ _ q, z ∙ ap zero_of_type (some_same element type k), subst IsStorable (some_same element type k) s)
          by false q k = inl k

      is_grid : IsOf (heap_typing_of i after (e ∷ h)) (t.Grid element n true) (Plain (v.Grid (Some new)))
      is_grid = (
        Some new,
        refl,
        (λ id q.
            let x : same_id id new ≡ true = subst (λ x. same_id id x ≡ true) (sym (some_same new id q)) (same_self id) in
            (whole_grid id first domain, if_true (same_id id new) _ _ x, d, if_true (same_id id new) _ _ x, s, refl)),
        λ z. eq-eqb new.owner i own,
      )

  pub behind : (a : Action) (wanted : Wanted) (r : Answer) → OperandsExist p (heap_typing_of i elements h) a wanted → heap_answer p h i a ≡ Answers r → Behind a wanted r
  behind (act.GetField obj field) wanted r k said = (
    kept_same (act.GetField obj field) wanted r k said,
    grown_same (act.GetField obj field) r said,
    λ q type x.
        let v = field_value p elements h fits store obj field type x in
        let is : r ≡ Val v.0 = answer_same _ _ (sym (some_answer (cell_value p (Field obj field) h) v.0 _ _ v.1 said)) in
        of_stays _ _ type _ (grown_in obj.owner (act.GetField obj field) r said) (subst (λ r. IsOf (heap_typing_of obj.owner elements h) type (told r)) (sym is) v.2),
  )
  behind (act.PutField obj field value) wanted r k said = (kept_same (act.PutField obj field value) wanted r k said, grown_same (act.PutField obj field value) r said, λ q. _)
  behind (act.NewObj class region) wanted r k said =
      let is : r ≡ Val (v.Obj (Some (new_id i region h))) = makes_answer p h i (act.NewObj class region)
      (v.Obj (Some (new_id i region h))) r (placed region h _ r (some_answer (zeros_of_class p class) k.0 _ r k.1 said)) in (
        kept_same (act.NewObj class region) wanted r k said,
        grown_same (act.NewObj class region) r said,
        λ q. subst (λ r. IsOf (heap_typing_of i elements (entry (act.NewObj class region) r ∷ h)) (t.Class class true) (told r)) (sym is)
            (object_fits class region (new_id i region h) refl),
      )
  behind (act.NewGrid first domain region) wanted r k said =
      let is : r ≡ Val (v.Grid (Some (new_id i region h))) = makes_answer p h i (act.NewGrid first domain region)
      (v.Grid (Some (new_id i region h))) r (placed region h _ r (possible_answer _ _ r said)) in
      subst (λ wanted. Behind (act.NewGrid first domain region) wanted r) (sym k.2)
      (subst (λ r. Behind (act.NewGrid first domain region) (NewThing (t.Grid k.0 k.1 true)) r) (sym is)
      (grid_behind k.0 k.1 first domain region (new_id i region h) refl k.3 k.4 k.7 (said ∙ ap Answers is)))
  behind (act.GetElem grid at) wanted r k said = (
    kept_same (act.GetElem grid at) wanted r k said,
    grown_same (act.GetElem grid at) r said,
    λ q element n x.
        let v = element_value p elements h fits store element n grid at x in
        let is : r ≡ Val v.0 = answer_same _ _ (sym (some_answer (cell_value p (cell_of x.0 at) h) v.0 _ _ v.1
        (fault_then _ fault.Bounds _ _ (possible_answer _ _ r (some_answer (grid_of_id grid h) x.0 _ r x.1 said))))) in
        of_stays _ _ element _ (grown_in grid.owner (act.GetElem grid at) r said) (subst (λ r. IsOf (heap_typing_of grid.owner elements h) element (told r)) (sym is) v.2),
  )
  behind (act.PutElem grid at value) wanted r k said = (kept_same (act.PutElem grid at value) wanted r k said, grown_same (act.PutElem grid at value) r said, λ q. _)
  behind (act.MakeView grid how) wanted r k said =
      let is : r ≡ Val (v.Grid (Some (view_id i grid h))) = makes_answer p h i (act.MakeView grid how) (v.Grid (Some (view_id i grid h))) r
      (views_then _ _ r (possible_answer _ _ r (some_answer (grid_of_id grid h) k.2.0 _ r k.2.1 said))) in (
        kept_same (act.MakeView grid how) wanted r k said,
        grown_same (act.MakeView grid how) r said,
        λ q element n x.
            let g = grid_same (heap_typing_of i elements (entry (act.MakeView grid how) r ∷ h)) grid k.0 element k.1 n
            (grid_stays (heap_typing_of i elements h) (heap_typing_of i elements (entry (act.MakeView grid how) r ∷ h)) k.0 k.1 grid
            (grown_same (act.MakeView grid how) r said) k.2) x in
            subst (λ e. IsOf (heap_typing_of grid.owner elements (entry (act.MakeView grid how) r ∷ h)) (t.Grid e (dims_viewed how n) true) (told r)) g.0
            (subst (λ m. IsOf (heap_typing_of grid.owner elements (entry (act.MakeView grid how) r ∷ h)) (t.Grid k.0 (dims_viewed how m) true) (told r)) g.1
            (subst (λ r. IsOf (heap_typing_of grid.owner elements (entry (act.MakeView grid how) r ∷ h)) (t.Grid k.0 (dims_viewed how k.1) true)
            (told r)) (sym is) (view_fits grid how (view_id i grid h) k.0 k.1 refl k.2 k.3
            (no_fault (view_fault how k.2.0.domain) _ r (possible_answer _ _ r
            (some_answer (grid_of_id grid h) k.2.0 _ r k.2.1 said)))))),
      )
  behind (act.DomainOf grid) wanted r k said = (
    kept_same (act.DomainOf grid) wanted r k said,
    grown_same (act.DomainOf grid) r said,
    λ q element n x.
        let is : r ≡ Val (v.Rc x.0.domain) = answer_same _ _ (sym (some_answer (grid_of_id grid h) x.0 _ r x.1 said)) in
        (x.0.domain, ap told is, x.2),
  )
  behind (act.Print literal value) wanted r k said = (kept_same (act.Print literal value) wanted r k said, grown_same (act.Print literal value) r said, λ q. absurd (true_false (sym q)))
  behind (act.Arrive kind arg given) wanted r k said = (kept_same (act.Arrive kind arg given) wanted r k said, grown_same (act.Arrive kind arg given) r said, λ q. absurd (true_false (sym q)))
  behind act.Depart wanted r k said = (kept_same act.Depart wanted r k said, grown_same act.Depart r said, λ q. absurd (true_false (sym q)))
  behind (act.Take who) wanted r k said = (kept_same (act.Take who) wanted r k said, grown_same (act.Take who) r said, λ q. absurd (true_false (sym q)))
  behind act.End wanted r k said = (kept_same act.End wanted r k said, grown_same act.End r said, λ q. absurd (true_false (sym q)))
  behind (act.Fault kind) wanted r k said = (kept_same (act.Fault kind) wanted r k said, grown_same (act.Fault kind) r said, λ q. absurd (true_false (sym q)))

-- the heap keeps to the types
pub keeps_types : (p : ProgramView) (elements : Elements) (h : History) (i : ℕ) (a : Action) (wanted : Wanted) → FieldsStorable p
    → IsAnswered p h → HeapFits p elements h → OperandsExist p (heap_typing_of i elements h) a wanted
    → KeepsTypes p elements h i a wanted
keeps_types p elements h i a wanted s q f k = record {
  possible = λ t z. is_possible p elements h f s i a wanted t k z;
  kept = λ place r said. (behind p elements h q f s i place a wanted r k said).0;
  grown = λ place r said. (behind p elements h q f s i place a wanted r k said).1;
  answered = λ place r t said. (behind p elements h q f s i place a wanted r k said).2 t;
}
