-- The races of a run are those that its entries determine without the program.
use Rattle.std.proofs.Common.{◌≡◌, ◌⊎◌, inl, inr, ℕ, suc, ◌<◌, ◌==◌, Bool, true, false, not, ◌&&◌, ◌||◌, if◌then◌else◌, map, filter, reverse, length, slice_get, Option, Some, None, List, [], ◌∷◌, refl, ap, ap₂, sym, ◌∙◌, subst, arith, eq-eqb, eqb-true, nat_lt, ◌≤◌, ◌+◌, le-leb}
use Rattle.std.proofs.lemmas.Bool.{ltb-false}
use Rattle.std.specs.List.{list_any}
use Rattle.std.specs.Option.{option_map, option_and_then}
use Rattle.ti_base.specs.declared.place.Place.{Place}
use Rattle.ti_base.specs.declared.point.Point.{Point}
use Rattle.ti_base.specs.declared.point.Rect.{Rect}
use Rattle.ti_base.specs.declared.value.Zero.{Zero}
use Rattle.ti_base.specs.declared.value.Value.TheVariants as v
use Rattle.ti_base.specs.declared.fault.FaultKind.TheVariants.{HeapFull}
use Rattle.ti_base.specs.declared.entry.Answer.TheVariants.{Val}
use Rattle.ti_base.specs.declared.entry.Next.{Next}
use Rattle.ti_base.specs.declared.entry.Next.TheVariants as next
use Rattle.ti_base.specs.declared.action.ViewHow.TheVariants.{Restrict, Translate, Slice}
use Rattle.ti_base.specs.declared.value.Id.{Id}
use Rattle.ti_base.specs.declared.value.Value.{Value}
use Rattle.ti_base.specs.declared.fault.FaultKind.{FaultKind}
use Rattle.ti_base.specs.declared.action.ViewHow.{ViewHow}
use Rattle.ti_base.specs.declared.action.Action.{Action}
use Rattle.ti_base.specs.declared.action.Action.TheVariants as act
use Rattle.ti_base.specs.declared.entry.Answer.{Answer}
use Rattle.ti_base.specs.declared.entry.Entry.{Entry}
use Rattle.ti_base.specs.PointSets.{same_point}
use Rattle.ti_base.specs.Rects.{IsRect, is_in, size_of}
use Rattle.ti_base.specs.Cells.{Cell, Field, Element, same_id, same_cell, thing_of, zero_value, Grid, cell_of, whole_grid, view, suits, view_fault}
use Rattle.ti_lang.specs.Program.Classes.{ProgramView}
use Rattle.ti_lang.specs.Meaning.Processes.{RunConfig}
use Rattle.ti_lang.specs.Meaning.Zeros.{zeros_of_class}
use Rattle.ti_lang.specs.Meaning.Histories.{History, history_of, is_making}
use Rattle.ti_lang.specs.Meaning.HeapOf.{is_object, is_grid, made_by, IsMade, class_made, class_of_object, grid_made, grid_of_id, new_id, cost_of, most_cells, last_written, zero_of, cell_value}
use Rattle.ti_lang.specs.Meaning.HeapAnswers.{Outcome, Answers, makes, places, faults_if, views, heap_answer, IsAnswered, more}
use Rattle.ti_lang.specs.Meaning.NextStep.{IsNext}
use Rattle.ti_lang.specs.Meaning.Runs.{IsRun, entry_with, entry_of}
use Rattle.ti_lang.specs.Meaning.Runs as run
use Rattle.ti_lang.specs.Meaning.HeapAnswers as heap
use Rattle.ti_lang.proofs.Lemmas.{some_then, possible_then, placed, made_once, run_answered, history_grows}
use Rattle.ti_align.proofs.Lemmas.{true_false, and_left, and_right, if_true, if_false, none_some, some_same}
use Rattle.ti_align.proofs.Lemmas as heaping
use Rattle.ti_align.specs.Formed.{IsFormedView, IsFormedAction, ActionsFormed}
use Rattle.ti_base.specs.Forms.{is_view}
use Rattle.ti_base.proofs.Lemmas.{is_point_decides, is_rect_decides}
use Rattle.ti_lang.specs.Meaning.Races.{is_put, phase_of, cell_used, Access, prepend_option, accesses, race, races}
use Rattle.ti_lang.specs.Meaning.Spots.{Made, Spot, FieldOf, ElementOf, same_spot, makes_object, makes_grid, object_told, Block, no_fault, viewed_told, grid_from, is_block, grid_told, object_thing, element_spot, spot_used, Use, uses, clash, races_told}
use Rattle.ti_race.proofs.Answers.{some_zero}

-- all that the actions of a history hand in is in its one form
abbrev AllFormed : History → Type 0
AllFormed [] = Unit {0}
AllFormed (e ∷ earlier) = IsFormedAction e.act × AllFormed earlier

-- ---- which entry made a thing

-- the entry of this number made the thing
abbrev MadeAt : ℕ → Id → History → Type 0
MadeAt n id [] = ⊥
MadeAt n id (e ∷ h) = ((n ≡ length h) × (made_by e.act e.answer ≡ Some id)) ⊎ MadeAt n id h

below : (n : ℕ) (id : Id) (h : History) → MadeAt n id h → n < length h
below n id [] m = elim m [ ]
below n id (e ∷ h) (inl m) = last n (length h) m.0
  where
    last : (a b : ℕ) → a ≡ b → a < suc b
    last a b z = omega arith
below n id (e ∷ h) (inr m) = up n (length h) (below n id h m)
  where
    up : (a b : ℕ) → a < b → a < suc b
    up a b z = omega arith

not_below : (a b : ℕ) → a ≡ b → a < b → ⊥
not_below a b x y = absurd (omega (arith, x, y))

one_id : (n : ℕ) (a b : Id) (h : History) → MadeAt n a h → MadeAt n b h → a ≡ b
one_id n a b [] m k = elim m [ ]
one_id n a b (e ∷ h) (inl m) (inl k) = some_same a b (sym m.1 ∙ k.1)
one_id n a b (e ∷ h) (inl m) (inr k) = absurd (not_below n (length h) m.0 (below n b h k))
one_id n a b (e ∷ h) (inr m) (inl k) = absurd (not_below n (length h) k.0 (below n a h m))
one_id n a b (e ∷ h) (inr m) (inr k) = one_id n a b h m k

was_made : (n : ℕ) (id : Id) (h : History) → MadeAt n id h → IsMade id h
was_made n id [] m = elim m [ ]
was_made n id (e ∷ h) (inl m) = inl m.1
was_made n id (e ∷ h) (inr m) = inr (was_made n id h m)

one_number : (p : ProgramView) (m n : ℕ) (id : Id) (h : History) → IsAnswered p h → MadeAt m id h → MadeAt n id h → m ≡ n
one_number p m n id [] a x y = elim x [ ]
one_number p m n id (e ∷ h) (more a said) (inl x) (inl y) = x.0 ∙ sym y.0
one_number p m n id (e ∷ h) (more a said) (inl x) (inr y) = absurd (made_once p h e id (more a said) x.1 (was_made n id h y))
one_number p m n id (e ∷ h) (more a said) (inr x) (inl y) = absurd (made_once p h e id (more a said) y.1 (was_made m id h x))
one_number p m n id (e ∷ h) (more a said) (inr x) (inr y) = one_number p m n id h a x y

-- ---- what is told of things

making_object : (a : Action) → makes_object a ≡ true → is_making a ≡ true
making_object (act.NewObj class region) k = refl
making_object _ k = absurd (true_false (sym k))

making_grid : (a : Action) → makes_grid a ≡ true → is_making a ≡ true
making_grid (act.NewGrid zero domain region) k = refl
making_grid (act.MakeView grid how) k = refl
making_grid _ k = absurd (true_false (sym k))

made_object : (a : Action) (r : Answer) (id : Id) → is_making a ≡ true → is_object id r ≡ true → made_by a r ≡ Some id
made_object a r id m h = ap (made_by a) (heaping.object_is id r h) ∙ ap (λ b. if b then Some id else None) m

made_grid : (a : Action) (r : Answer) (id : Id) → is_making a ≡ true → is_grid id r ≡ true → made_by a r ≡ Some id
made_grid a r id m h = ap (made_by a) (heaping.grid_is id r h) ∙ ap (λ b. if b then Some id else None) m

object_at : (id : Id) (n : ℕ) (h : History) → object_told id h ≡ Some n → MadeAt n id h
object_at id n [] z = absurd (none_some n z)
object_at id n (e ∷ h) z = by (makes_object e.act && is_object id e.answer) refl (λ y. object_at id n h y)
  where
    by : (b : Bool) → (makes_object e.act && is_object id e.answer) ≡ b → (object_told id h ≡ Some n → MadeAt n id h) → MadeAt n id (e ∷ h)
    by true k ih =
        inl (some_same n (length h) (sym z ∙ if_true _ _ _ k), made_object e.act e.answer id (making_object e.act (and_left (makes_object e.act) _ k)) (and_right (makes_object e.act) _ k))
    by false k ih = inr (ih (sym (if_false _ _ _ k) ∙ z))

viewed_some : (how : ViewHow) (o : Option Block) (b : Block) → viewed_told how o ≡ Some b → (x : Block) × (o ≡ Some x) × (b.number ≡ x.number) × (b.grid.block ≡ x.grid.block)
viewed_some how None b z = absurd (none_some b z)
viewed_some how (Some x) b z = by (suits how x.grid.domain && no_fault (view_fault how x.grid.domain)) z
  where
    by : (t : Bool) → (if t then Some (record { number = x.number; grid = view how x.grid }) else None) ≡ Some b → (y : Block)
        × (◌≡◌ {A = Option Block} (Some x) (Some y)) × (b.number ≡ y.number) × (b.grid.block ≡ y.grid.block)
    by true z =
        let same = some_same (record { number = x.number; grid = view how x.grid }) b z in
        (x, refl, sym (ap (λ (q : Block). q.number) same), sym (ap (λ (q : Block). q.grid.block) same))
    by false z = absurd (none_some b z)

where_some : (t : Bool) (o : Option Block) (b : Block) → (if t then o else None) ≡ Some b → o ≡ Some b
where_some true o b z = z
where_some false o b z = absurd (none_some b z)

grid_at : (id : Id) (b : Block) (h : History) → grid_told id h ≡ Some b → MadeAt b.number b.grid.block h
grid_at id b [] z = absurd (none_some b z)
grid_at id b (e ∷ h) z = by (makes_grid e.act && is_grid id e.answer) refl (λ i x y. grid_at i x h y)
  where
    at : e.act ≡ e.act → (makes_grid e.act && is_grid id e.answer) ≡ true
        → ((i : Id) (x : Block) → grid_told i h ≡ Some x → MadeAt x.number x.grid.block h) → (a : Action) → e.act ≡ a
        → grid_from id (length h) a (λ viewed. grid_told viewed h) ≡ Some b → MadeAt b.number b.grid.block (e ∷ h)
    at _ k ih (act.NewGrid zero domain region) q z =
        let y = where_some (is_block domain) (Some (record { number = length h; grid = whole_grid id zero domain })) b z in
        let same = some_same (record { number = length h; grid = whole_grid id zero domain }) b y in
        inl (
          sym (ap (λ (x : Block). x.number) same),
          made_grid e.act e.answer id (making_grid e.act (and_left (makes_grid e.act) _ k)) (and_right (makes_grid e.act) _ k) ∙ ap (λ (x : Block). Some x.grid.block) same,
        )
    at _ k ih (act.MakeView viewed how) q y =
        let x = viewed_some how (grid_told viewed h) b (where_some (is_view how) (viewed_told how (grid_told viewed h)) b y) in
        inr (subst (λ n. MadeAt n b.grid.block h) (sym x.2) (subst (λ i. MadeAt x.0.number i h) (sym x.3) (ih viewed x.0 x.1)))
    at _ k ih (act.GetField o f) q y = absurd (none_some b y)
    at _ k ih (act.PutField o f v) q y = absurd (none_some b y)
    at _ k ih (act.NewObj c r) q y = absurd (none_some b y)
    at _ k ih (act.GetElem g p) q y = absurd (none_some b y)
    at _ k ih (act.PutElem g p v) q y = absurd (none_some b y)
    at _ k ih (act.DomainOf g) q y = absurd (none_some b y)
    at _ k ih (act.Print l v) q y = absurd (none_some b y)
    at _ k ih (act.Arrive kind arg given) q y = absurd (none_some b y)
    at _ k ih act.Depart q y = absurd (none_some b y)
    at _ k ih (act.Take who) q y = absurd (none_some b y)
    at _ k ih act.End q y = absurd (none_some b y)
    at _ k ih (act.Fault kind) q y = absurd (none_some b y)

    by : (t : Bool) → (makes_grid e.act && is_grid id e.answer) ≡ t → ((i : Id) (x : Block) → grid_told i h ≡ Some x → MadeAt x.number x.grid.block h) → MadeAt b.number b.grid.block (e ∷ h)
    by true k ih = at refl k ih e.act refl (sym (if_true _ _ _ k) ∙ z)
    by false k ih = inr (ih id b (sym (if_false _ _ _ k) ∙ z))

-- ---- of a run all is told

some_object : (a : Action) (c : ℕ) → class_made a ≡ Some c → makes_object a ≡ true
some_object (act.NewObj class region) c z = refl
some_object _ c z = absurd (none_some c z)

object_there : (id : Id) (c : ℕ) (h : History) → class_of_object id h ≡ Some c → (n : ℕ) × (object_told id h ≡ Some n)
object_there id c [] z = absurd (none_some c z)
object_there id c (e ∷ h) z = by (makes_object e.act && is_object id e.answer) refl (is_making e.act && is_object id e.answer) refl (λ y. object_there id c h y)
  where
    by : (t : Bool) → (makes_object e.act && is_object id e.answer) ≡ t → (b : Bool) → (is_making e.act && is_object id e.answer) ≡ b
        → (class_of_object id h ≡ Some c → (n : ℕ) × (object_told id h ≡ Some n)) → (n : ℕ) × (object_told id (e ∷ h) ≡ Some n)
    by true k b l ih = (length h, if_true _ _ _ k)
    by false k true l ih =
        absurd (true_false (sym (ap₂ (λ x y. x && y) (some_object e.act c (sym (if_true _ _ _ l) ∙ z)) (and_right (is_making e.act) _ l)) ∙ k))
    by false k false l ih = let r = ih (sym (if_false _ _ _ l) ∙ z) in (r.0, if_false _ _ _ k ∙ r.1)

mapped : (how : ViewHow) (o : Option Grid) (g : Grid) → option_map (view how) o ≡ Some g → (x : Grid) × (o ≡ Some x) × (view how x ≡ g)
mapped how None g z = absurd (none_some g z)
mapped how (Some x) g z = (x, refl, some_same (view how x) g z)

views_none : (o : Option FaultKind) (x : Outcome) (r : Answer) → views o x ≡ Answers r → no_fault o ≡ true
views_none None x r z = refl
views_none (Some k) x r z = cc

not_faulted : (b : Bool) (k : FaultKind) (o : Outcome) (r : Answer) → faults_if b k o ≡ Answers r → b ≡ false
not_faulted true k o r z = cc
not_faulted false k o r z = refl

formed_view : (how : ViewHow) → IsFormedView how → is_view how ≡ true
formed_view (Restrict r) f = (is_rect_decides r).1 f
formed_view (Translate by) f = (is_point_decides by).1 f
formed_view (Slice k j) f = refl

-- a block that was made is one, where its domain is in its form: it would have been too large for its process
block_is : (p : ProgramView) (h : History) (i : ℕ) (zero : Zero) (domain : Rect) (region : ℕ) (r : Answer) → IsRect domain
    → heap_answer p h i (act.NewGrid zero domain region) ≡ Answers r → is_block domain ≡ true
block_is p h i zero domain region r f z =
    let a = possible_then _ (places region h (makes p h i (act.NewGrid zero domain region) (v.Grid (Some (new_id i region h))))) r z in
    let b = placed region h (makes p h i (act.NewGrid zero domain region) (v.Grid (Some (new_id i region h)))) r a.1 in
    let k = ltb-false most_cells (cost_of p i h + (1 + size_of domain))
    (not_faulted (nat_lt most_cells (cost_of p i h + (1 + size_of domain))) HeapFull
    (Answers (Val (v.Grid (Some (new_id i region h))))) r b) in
    ap₂ (λ x y. x && y) ((is_rect_decides domain).1 f) (le-leb (size_of domain) most_cells (below_it (cost_of p i h) (size_of domain) most_cells k))
  where
    below_it : (c n m : ℕ) → c + (1 + n) ≤ m → n ≤ m
    below_it c n m l = omega arith

grid_there : (p : ProgramView) (h : History) → IsAnswered p h → AllFormed h → (id : Id) (g : Grid) → grid_of_id id h ≡ Some g → (n : ℕ) × (grid_told id h ≡ Some (record { number = n; grid = g }))
grid_there p [] a f id g z = absurd (none_some g z)
grid_there p (e ∷ h) (more a said) f id g z = by (makes_grid e.act && is_grid id e.answer) refl (is_making e.act && is_grid id e.answer) refl (λ i x y. grid_there p h a f.1 i x y)
  where
    Ih : Type 0
    Ih = (i : Id) (x : Grid) → grid_of_id i h ≡ Some x → (n : ℕ) × (grid_told i h ≡ Some (record { number = n; grid = x }))

    made : Ih → (c : Action) → e.act ≡ c → grid_made id c (λ viewed. grid_of_id viewed h) ≡ Some g → (n : ℕ)
        × (grid_from id (length h) c (λ viewed. grid_told viewed h) ≡ Some (record { number = n; grid = g }))
    made ih (act.NewGrid zero domain region) k y = (
      length h,
      if_true _ _ _ (block_is p h e.proc zero domain region e.answer (subst IsFormedAction k f.0) (sym (ap (heap_answer p h e.proc) k)
          ∙ said)) ∙ ap (λ (q : Grid). Some (record { number = length h; grid = q })) (some_same _ g y),
    )
    made ih (act.MakeView viewed how) k y =
        let x = mapped how (grid_of_id viewed h) g y in
        let t = ih viewed x.0 x.1 in
        let s = some_then (grid_of_id viewed h) _ e.answer (sym (ap (heap_answer p h e.proc) k) ∙ said) in
        let one : s.0 ≡ x.0 = some_same s.0 x.0 (sym s.1 ∙ x.1) in
        let fits = possible_then _ _ e.answer s.2 in
        let suit : suits how x.0.domain ≡ true = ap (λ (q : Grid). suits how q.domain) (sym one) ∙ fits.0 in
        let fine : no_fault (view_fault how x.0.domain) ≡ true = ap (λ (q : Grid). no_fault (view_fault how q.domain)) (sym one) ∙ views_none _ _ e.answer fits.1 in (
          t.0,
          if_true _ _ _ (formed_view how (subst IsFormedAction k f.0)) ∙ ap (viewed_told how) t.1
              ∙ if_true _ _ _ (ap₂ (λ a b. a && b) suit fine) ∙ ap (λ (q : Grid). Some (record { number = t.0; grid = q })) x.2,
        )
    made ih (act.GetField o f) k y = absurd (none_some g y)
    made ih (act.PutField o f v) k y = absurd (none_some g y)
    made ih (act.NewObj c r) k y = absurd (none_some g y)
    made ih (act.GetElem q at) k y = absurd (none_some g y)
    made ih (act.PutElem q at v) k y = absurd (none_some g y)
    made ih (act.DomainOf q) k y = absurd (none_some g y)
    made ih (act.Print l v) k y = absurd (none_some g y)
    made ih (act.Arrive kind arg given) k y = absurd (none_some g y)
    made ih act.Depart k y = absurd (none_some g y)
    made ih (act.Take who) k y = absurd (none_some g y)
    made ih act.End k y = absurd (none_some g y)
    made ih (act.Fault kind) k y = absurd (none_some g y)

    by : (t : Bool) → (makes_grid e.act && is_grid id e.answer) ≡ t → (b : Bool) → (is_making e.act && is_grid id e.answer) ≡ b → Ih
        → (n : ℕ) × (grid_told id (e ∷ h) ≡ Some (record { number = n; grid = g }))
    by true k true l ih = let r = made ih e.act refl (sym (if_true _ _ _ l) ∙ z) in (r.0, if_true _ _ _ k ∙ r.1)
    by true k false l ih =
        absurd (true_false (sym (ap₂ (λ x y. x && y) (making_grid e.act (and_left (makes_grid e.act) _ k)) (and_right (makes_grid e.act) _ k)) ∙ l))
    by false k false l ih = let r = ih id g (sym (if_false _ _ _ l) ∙ z) in (r.0, if_false _ _ _ k ∙ r.1)
    by false k true l ih = absurd (true_false (sym (ap₂ (λ x y. x && y) (grid_making e.act g (sym (if_true _ _ _ l) ∙ z)) (and_right (is_making e.act) _ l)) ∙ k))
      where
        grid_making : (c : Action) (q : Grid) → grid_made id c (λ viewed. grid_of_id viewed h) ≡ Some q → makes_grid c ≡ true
        grid_making (act.NewGrid zero domain region) q y = refl
        grid_making (act.MakeView viewed how) q y = refl
        grid_making _ q y = absurd (none_some q y)

-- ---- accesses

-- the spot of a cell, in the thing of this number
abbrev spot_with : ℕ → Cell → Spot
spot_with n (Field obj field) = FieldOf (Made n) field
spot_with n (Element block at) = ElementOf (Made n) at

-- what an access uses, both told and xs a cell
abbrev BothUsed : Action → History → Type 0
BothUsed a h = (c : Cell) × (n : ℕ) × (cell_used a h ≡ Some c) × (spot_used a h ≡ Some (spot_with n c)) × MadeAt n (thing_of c) h

some_class : (p : ProgramView) (o : Option ℕ) (field : ℕ) (x : Value)
    → option_and_then (λ zeros. option_map zero_value (slice_get zeros field)) (option_and_then (zeros_of_class p) o) ≡ Some x → (c : ℕ)
    × (o ≡ Some c)
some_class p None field x z = absurd (none_some x z)
some_class p (Some c) field x z = (c, refl)

field_used : (p : ProgramView) (h : History) (obj : Id) (field : ℕ) (x : Value) → cell_value p (Field obj field) h ≡ Some x → (n : ℕ) × (object_told obj h ≡ Some n)
field_used p h obj field x z =
    let zero = some_zero (zero_of p (Field obj field) h) (last_written (Field obj field) h) x z in
    let k = some_class p (class_of_object obj h) field zero.0 zero.1 in
    object_there obj k.0 h k.1

not_not : (b : Bool) → not b ≡ false → b ≡ true
not_not true z = refl
not_not false z = absurd (true_false z)

element_used : (p : ProgramView) (h : History) (grid : Id) (at : Point) (a : IsAnswered p h) (f : AllFormed h) (g : Grid) → grid_of_id grid h ≡ Some g → is_in g.domain at ≡ true
    → (n : ℕ) × (element_spot grid at (grid_told grid h) ≡ ElementOf (Made n) (g.place at)) × MadeAt n g.block h
element_used p h grid at a f g z inside =
    let t = grid_there p h a f grid g z in
    (t.0, ap (element_spot grid at) t.1 ∙ if_true _ _ _ inside, grid_at grid (record { number = t.0; grid = g }) h t.1)

both_used : (p : ProgramView) (h : History) (e : Entry) → IsAnswered p (e ∷ h) → AllFormed h → ((cell_used e.act h ≡ None) × (spot_used e.act h ≡ None)) ⊎ BothUsed e.act h
both_used p h e (more a said) f = by e.act refl
  where
    field : (obj : Id) (x : ℕ) → (n : ℕ) × (object_told obj h ≡ Some n) → BothUsed (act.GetField obj x) h
    field obj x t = (Field obj x, t.0, refl, ap (λ o. Some (FieldOf (object_thing obj o) x)) t.1, object_at obj t.0 h t.1)

    element : (grid : Id) (at : Point) (g : Grid) → grid_of_id grid h ≡ Some g → is_in g.domain at ≡ true → BothUsed (act.GetElem grid at) h
    element grid at g z inside = let t = element_used p h grid at a f g z inside in (cell_of g at, t.0, ap (option_map (λ (q : Grid). cell_of q at)) z, ap Some t.1, t.2)

    by : (c : Action) → e.act ≡ c → ((cell_used c h ≡ None) × (spot_used c h ≡ None)) ⊎ BothUsed c h
    by (act.GetField obj x) k =
        let s = some_then (cell_value p (Field obj x) h) _ e.answer (sym (ap (heap_answer p h e.proc) k) ∙ said) in
        inr (field obj x (field_used p h obj x s.0 s.1))
    by (act.PutField obj x value) k =
        let s = some_then (cell_value p (Field obj x) h) _ e.answer (sym (ap (heap_answer p h e.proc) k) ∙ said) in
        let r = field obj x (field_used p h obj x s.0 s.1) in
        inr (r.0, r.1, r.2, r.3, r.4)
    by (act.GetElem grid at) k =
        let s = some_then (grid_of_id grid h) _ e.answer (sym (ap (heap_answer p h e.proc) k) ∙ said) in
        let q = possible_then _ _ e.answer s.2 in
        inr (element grid at s.0 s.1 (not_not _ (not_faulted _ _ _ e.answer q.1)))
    by (act.PutElem grid at value) k =
        let s = some_then (grid_of_id grid h) _ e.answer (sym (ap (heap_answer p h e.proc) k) ∙ said) in
        let q = possible_then _ _ e.answer s.2 in
        let r = element grid at s.0 s.1 (not_not _ (not_faulted _ _ _ e.answer q.1)) in
        inr (r.0, r.1, r.2, r.3, r.4)
    by _ k = inl (refl, refl)

-- ---- lists of both

record Fits (whole : History) (a : Access) (u : Use) : Type 0 where
  made : ℕ
  number : a.number ≡ u.number
  proc : a.proc ≡ u.proc
  phase : a.phase ≡ u.phase
  writes : a.writes ≡ u.writes
  spot : u.spot ≡ spot_with made a.cell
  there : MadeAt made (thing_of a.cell) whole

abbrev Both : History → List Access → List Use → Type 0
Both whole [] [] = Unit {0}
Both whole (a ∷ xs) (u ∷ us) = Fits whole a u × Both whole xs us
Both whole _ _ = ⊥

later : (e : Entry) (whole : History) (xs : List Access) (us : List Use) → Both whole xs us → Both (e ∷ whole) xs us
later e whole [] [] b = tt
later e whole [] (u ∷ us) b = elim b [ ]
later e whole (a ∷ xs) [] b = elim b [ ]
later e whole (a ∷ xs) (u ∷ us) b =
    (record { made = b.0.made; number = b.0.number; proc = b.0.proc; phase = b.0.phase; writes = b.0.writes; spot = b.0.spot; there = inr b.0.there }, later e whole xs us b.1)

both : (p : ProgramView) (h : History) → IsAnswered p h → AllFormed h → Both h (accesses h) (uses h)
both p [] a f = tt
both p (e ∷ h) (more a said) f = by (both_used p h e (more a said) f.1) (later e h (accesses h) (uses h) (both p h a f.1))
  where
    by : ((cell_used e.act h ≡ None) × (spot_used e.act h ≡ None)) ⊎ BothUsed e.act h → Both (e ∷ h) (accesses h) (uses h) → Both (e ∷ h) (accesses (e ∷ h)) (uses (e ∷ h))
    by (inl z) ih =
        subst (λ (o : Option Access). Both (e ∷ h) (prepend_option o (accesses h)) (uses (e ∷ h)))
        (sym (ap (option_map (λ (c : Cell). record { number = length h; proc = e.proc; phase = phase_of e.proc h; cell = c; writes = is_put e.act })) z.0))
        (subst (λ (o : Option Use). Both (e ∷ h) (accesses h) (prepend_option o (uses h)))
        (sym (ap (option_map (λ (s : Spot). record { number = length h; proc = e.proc; phase = phase_of e.proc h; spot = s; writes = is_put e.act })) z.1)) ih)
    by (inr z) ih =
        subst (λ (o : Option Access). Both (e ∷ h) (prepend_option o (accesses h)) (uses (e ∷ h)))
        (sym (ap (option_map (λ (c : Cell). record { number = length h; proc = e.proc; phase = phase_of e.proc h; cell = c; writes = is_put e.act })) z.2))
        (subst (λ (o : Option Use). Both (e ∷ h) (record { number = length h; proc = e.proc; phase = phase_of e.proc h; cell = z.0; writes = is_put e.act } ∷ accesses h) (prepend_option o (uses h)))
        (sym (ap (option_map (λ (s : Spot). record { number = length h; proc = e.proc; phase = phase_of e.proc h; spot = s; writes = is_put e.act })) z.3))
        (record { made = z.1; number = refl; proc = refl; phase = refl; writes = refl; spot = refl; there = inr z.4 }, ih))

-- ---- one spot for one cell

bool_same : (a b : Bool) → (a ≡ true → b ≡ true) → (b ≡ true → a ≡ true) → a ≡ b
bool_same true b f g = sym (f refl)
bool_same false true f g = g refl
bool_same false false f g = refl

thing_like : (p : ProgramView) (whole : History) → IsAnswered p whole → (m n : ℕ) (a b : Id) → MadeAt m a whole → MadeAt n b whole → (m == n) ≡ same_id a b
thing_like p whole an m n a b x y =
    bool_same _ _
    (λ z. let i : a ≡ b = one_id n a b whole (subst (λ k. MadeAt k a whole) (eqb-true m n z) x) y in ap (same_id a) (sym i) ∙ heaping.same_self a)
    (λ z. eq-eqb m n (one_number p m n b whole an (subst (λ i. MadeAt m i whole) (same_name a b z) x) y))
  where
    same_name : (a b : Id) → same_id a b ≡ true → a ≡ b
    same_name a b z = field_id a b (heaping.same_cells (Field a 0) (Field b 0) (ap₂ (λ u v. u && v) z refl))
      where
        field_id : (a b : Id) → Field a 0 ≡ Field b 0 → a ≡ b
        field_id a b z = cc

cell_like : (p : ProgramView) (whole : History) → IsAnswered p whole → (m n : ℕ) (c d : Cell) → MadeAt m (thing_of c) whole
    → MadeAt n (thing_of d) whole → same_spot (spot_with m c) (spot_with n d) ≡ same_cell c d
cell_like p whole an m n (Field a f) (Field b g) x y = ap (λ t. t && f == g) (thing_like p whole an m n a b x y)
cell_like p whole an m n (Element a q) (Element b r) x y = ap (λ t. t && same_point q r) (thing_like p whole an m n a b x y)
cell_like p whole an m n (Field a f) (Element b r) x y = refl
cell_like p whole an m n (Element a q) (Field b g) x y = refl

module _ (p : ProgramView) (whole : History) (an : IsAnswered p whole) where
  race_like : (a b : Access) (u w : Use) → Fits whole a u → Fits whole b w → race a b ≡ clash u w
  race_like a b u w x y =
      ap₂ (λ s t. s && t)
      (ap₂ (λ s t. s && t) (ap₂ (λ s t. s && t) (ap₂ (λ i j. not (i == j)) x.proc y.proc) (ap₂ (λ i j. i == j) x.phase y.phase))
      (sym (cell_like p whole an x.made y.made a.cell b.cell x.there y.there) ∙ ap₂ same_spot (sym x.spot) (sym y.spot)))
      (ap₂ (λ s t. s || t) x.writes y.writes)

  any_like : (a : Access) (u : Use) → Fits whole a u → (xs : List Access) (us : List Use) → Both whole xs us → list_any (race a) xs ≡ list_any (clash u) us
  any_like a u x [] [] b = refl
  any_like a u x [] (w ∷ us) b = elim b [ ]
  any_like a u x (c ∷ xs) [] b = elim b [ ]
  any_like a u x (c ∷ xs) (w ∷ us) b = ap₂ (λ s t. s || t) (race_like a c u w x b.0) (any_like a u x xs us b.1)

  list_like : (xs all : List Access) (us others : List Use) → Both whole xs us → Both whole all others
      → map (λ (a : Access). a.number) (filter (λ a. list_any (race a) all) xs) ≡ map (λ (u : Use). u.number) (filter (λ u. list_any (clash u) others) us)
  list_like [] all [] others b c = refl
  list_like [] all (u ∷ us) others b c = elim b [ ]
  list_like (a ∷ xs) all [] others b c = elim b [ ]
  list_like (a ∷ xs) all (u ∷ us) others b c = by (list_any (race a) all) refl (list_like xs all us others b.1 c)
    where
      same : list_any (race a) all ≡ list_any (clash u) others
      same = any_like a u b.0 all others c

      left : List Access → List ℕ
      left xs = map (λ (a : Access). a.number) xs

      right : List Use → List ℕ
      right xs = map (λ (u : Use). u.number) xs

      by : (t : Bool) → list_any (race a) all ≡ t
          → map (λ (a : Access). a.number) (filter (λ a. list_any (race a) all) xs) ≡ map (λ (u : Use). u.number) (filter (λ u. list_any (clash u) others) us)
          → map (λ (a : Access). a.number) (filter (λ a. list_any (race a) all) (a ∷ xs)) ≡ map (λ (u : Use). u.number) (filter (λ u. list_any (clash u) others) (u ∷ us))
      by true k ih =
          ap (map (λ (a : Access). a.number)) (if_true _ _ _ k) ∙ ap₂ (λ n ns. n ∷ ns) b.0.number ih ∙ sym (ap (map (λ (u : Use). u.number)) (if_true _ _ _ (sym same ∙ k)))
      by false k ih =
          ap (map (λ (a : Access). a.number)) (if_false _ _ _ k) ∙ ih ∙ sym (ap (map (λ (u : Use). u.number)) (if_false _ _ _ (sym same ∙ k)))

pub same_races : (s : RunConfig) (es : List Entry) → IsRun s es → AllFormed (history_of es) → races es ≡ races_told es
same_races s es ran formed =
    let an = run_answered s es ran in
    let all = both s.program (history_of es) an formed in
    ap reverse (list_like s.program (history_of es) an (accesses (history_of es)) (accesses (history_of es)) (uses (history_of es)) (uses (history_of es)) all all)

-- where all that the processes of its fronts have next is in its form, so is all in the history of a run
taken_formed : (s : RunConfig) (es : List Entry) (i : ℕ) (n : Next) (e : Entry) → ((at : Place) (a : Action) → n ≡ next.Act at a → IsFormedAction a) → entry_of s es i n ≡ Some e → IsFormedAction e.act
taken_formed s es i (next.End at) e f z = subst (λ (x : Entry). IsFormedAction x.act) (some_same _ e z) tt
taken_formed s es i (next.Fault kind at) e f z = subst (λ (x : Entry). IsFormedAction x.act) (some_same _ e z) tt
taken_formed s es i (next.Act at a) e f z = by (heap_answer s.program (history_of es) i a) z
  where
    by : (o : Outcome) → entry_with i at a o ≡ Some e → IsFormedAction e.act
    by (Answers r) z = subst (λ (x : Entry). IsFormedAction x.act) (some_same _ e z) (f at a refl)
    by (heap.Faults kind) z = subst (λ (x : Entry). IsFormedAction x.act) (some_same _ e z) tt
    by heap.Impossible z = absurd (none_some e z)

pub run_formed : (s : RunConfig) (es : List Entry) → IsRun s es → ((ds : List Entry) → IsRun s ds → ActionsFormed s ds) → AllFormed (history_of es)
run_formed s es run.none f = tt
run_formed s all (run.more {es = es} {i = i} {e = e} ran t z) f =
    subst AllFormed (sym (ap history_of z ∙ history_grows es e))
    (taken_formed s es i t.next e (λ at a n. f es ran i t.process at a t.within t.world (subst (IsNext t.process) n t.is_next)) t.entry, run_formed s es ran f)
