-- What the heap answers fits what is wanted of it.
use Rattle.std.proofs.Common.{◌≡◌, ℕ, true, Option, Some, None, ◌∷◌, refl, ap, sym, ◌∙◌, subst}
use Rattle.ti_base.specs.declared.place.Place.{Place}
use Rattle.ti_base.specs.declared.value.Id.{Id}
use Rattle.ti_base.specs.declared.value.Value.{Value}
use Rattle.ti_base.specs.declared.value.Value.TheVariants as v
use Rattle.ti_base.specs.declared.fault.FaultKind.TheVariants as fault
use Rattle.ti_base.specs.declared.action.Action.{Action}
use Rattle.ti_base.specs.declared.action.Action.TheVariants as act
use Rattle.ti_base.specs.declared.action.CollKind.{CollKind}
use Rattle.ti_base.specs.declared.action.CollKind.TheVariants as coll
use Rattle.ti_base.specs.declared.entry.Answer.{Answer}
use Rattle.ti_base.specs.declared.entry.Answer.TheVariants.{Done, Val}
use Rattle.ti_base.specs.Cells.{Field, Grid, cell_of}
use Rattle.ti_lang.specs.Program.Types.{ValueType}
use Rattle.ti_lang.specs.Program.Types as t
use Rattle.ti_lang.specs.Program.Classes.{ProgramView}
use Rattle.ti_lang.specs.Typing.Kinds.{as_global}
use Rattle.ti_lang.specs.Meaning.Held.{Plain}
use Rattle.ti_lang.specs.Meaning.Comp.{Wanted, ToBeDone, ValueOf, told}
use Rattle.ti_lang.specs.Meaning.Answers.{HasForm, FitsWanted}
use Rattle.ti_lang.specs.Meaning.Zeros.{zeros_of_class}
use Rattle.ti_lang.specs.Meaning.Histories.{History}
use Rattle.ti_lang.specs.Meaning.HeapOf.{grid_of_id, new_id, view_id, cell_value}
use Rattle.ti_lang.specs.Meaning.HeapAnswers.{Answers, at_point, arrives, where_some, heap_answer, IsAnswered}
use Rattle.ti_lang.proofs.Lemmas.{fault_then, answer_same, views_then, placed}
use Rattle.ti_rules.specs.InitialTypes.{can_broadcast}
use Rattle.ti_align.specs.HeapTyping.{Grows, IsStorable, IsOf}
use Rattle.ti_align.specs.Existing.{OperandsExist, SameForm, WantsGrid, SuitsWanted}
use Rattle.ti_align.specs.Heap.{Elements, heap_typing_of, FieldsStorable, HeapFits, elements_behind, is_of_heap, KeepsTypes}
use Rattle.ti_align.specs.Names.{NamesFit}
use Rattle.ti_align.proofs.Runs.Vars.{true_false}
use Rattle.ti_align.proofs.RunTypes.Operating.{to_global}
use Rattle.ti_align.proofs.RunTypes.Computing.{grid_stays}
use Rattle.ti_align.proofs.RunTypes.Heaping.{possible_answer, some_answer, makes_answer, keeps_types}
use Rattle.ti_align.proofs.RunTypes.Holding.{valued}
use Rattle.ti_align.proofs.RunTypes.Departed.{form_of}
use Rattle.ti_align.proofs.Alignment.Rounds.{impossible}

-- ---- forms

global_sent : (a : ValueType) → can_broadcast a ≡ can_broadcast (as_global a)
global_sent t.Int = refl
global_sent t.Long = refl
global_sent t.Boolean = refl
global_sent (t.Pt n) = refl
global_sent (t.Rc n) = refl
global_sent (t.Dm n) = refl
global_sent t.Region = refl
global_sent (t.Class c l) = refl
global_sent (t.Grid e n l) = refl
global_sent t.Null = refl
global_sent t.Void = refl

storable_sent : (a : ValueType) → IsStorable a → can_broadcast a ≡ true
storable_sent (t.Dm n) k = absurd k
storable_sent t.Region k = absurd k
storable_sent t.Null k = absurd k
storable_sent t.Void k = absurd k
storable_sent _ k = refl

-- a value of a type that may be stored has the form of each type like it
form_like : (h : History) (elements : Elements) (i : ℕ) → NamesFit h → (u type : ValueType) → SameForm u type → IsStorable type
    → (x : Value) → IsOf (heap_typing_of i elements h) type (Plain x) → HasForm u x
form_like h elements i n u type same st x k =
    form_of h elements i n u (global_sent u ∙ ap can_broadcast same ∙ sym (global_sent type) ∙ storable_sent type st) x
    (subst (λ a. IsOf (heap_typing_of i elements h) a (Plain x)) (sym same) (to_global (heap_typing_of i elements h) type (Plain x) k))

-- ---- answers

pub done_fits : (wanted : Wanted) (r : Answer) → wanted ≡ ToBeDone → r ≡ Done → FitsWanted wanted r
done_fits wanted r w z = subst (λ y. FitsWanted y r) (sym w) z

-- a value that is read
pub value_fits : (h : History) (elements : Elements) (i : ℕ) → NamesFit h → (wanted : Wanted) (u type : ValueType) (r : Answer) (x : Value)
    → wanted ≡ ValueOf u → SameForm u type → IsStorable type → r ≡ Val x → IsOf (heap_typing_of i elements h) type (told r)
    → FitsWanted wanted r
value_fits h elements i n wanted u type r x w same st z k =
    subst (λ y. FitsWanted y r) (sym w) (x, z, form_like h elements i n u type same st x (subst (λ r. IsOf (heap_typing_of i elements h) type (told r)) z k))

-- a grid that is made
grid_fits : (h : History) (elements : Elements) (i : ℕ) → NamesFit h → (wanted : Wanted) (type : ValueType) (n : ℕ) (r : Answer) (id : Id)
    → WantsGrid wanted → r ≡ Val (v.Grid (Some id)) → IsOf (heap_typing_of i elements h) (t.Grid type n true) (told r)
    → FitsWanted wanted r
grid_fits h elements i n wanted type m r id w z k =
    subst (λ y. FitsWanted y r) (sym w.3) (
      v.Grid (Some id),
      z,
      form_like h elements i n (t.Grid type m true) (t.Grid type m true) refl tt (v.Grid (Some id)) (subst (λ r. IsOf (heap_typing_of i elements h) (t.Grid type m true) (told r)) z k),
      refl,
    )

-- ---- what is done

pub done : (r : Answer) → Answers Done ≡ Answers r → r ≡ Done
done r z = sym (answer_same Done r z)

written_done : (o : Option Value) (r : Answer) → where_some o (λ old. Answers Done) ≡ Answers r → r ≡ Done
written_done None r z = absurd (impossible r z)
written_done (Some old) r z = done r z

element_done : (o : Option Grid) (at : _) (r : Answer) → where_some o (λ g. at_point g at (Answers Done)) ≡ Answers r → r ≡ Done
element_done None at r z = absurd (impossible r z)
element_done (Some g) at r z = done r (fault_then _ fault.Bounds _ r (possible_answer _ _ r z))

pub arrival_done : (h : History) (kind : CollKind) (arg : Option ℕ) (r : Answer) → arrives h kind arg ≡ Answers r → r ≡ Done
arrival_done h coll.DeleteRegion None r z = absurd (impossible r z)
arrival_done h coll.DeleteRegion (Some region) r z = done r (fault_then _ fault.RegionGone _ r (possible_answer _ _ r z))
arrival_done h coll.Barrier arg r z = done r z
arrival_done h coll.Broadcast arg r z = done r z
arrival_done h coll.Exchange arg r z = done r z
arrival_done h coll.MakeRegion arg r z = done r z

-- ---- the heap

module _ (p : ProgramView) (elements : Elements) (h : History) (told_all : IsAnswered p h) (fits : HeapFits p elements h) (store : FieldsStorable p) (i : ℕ) (place : Place) where
  -- the history behind an action
  abbrev behind : Action → Answer → History
  behind a r = record { proc = i; place = place; act = a; answer = r } ∷ h

  -- the types of the elements there
  abbrev after : Action → Wanted → Answer → Elements
  after a wanted r = elements_behind elements a wanted r

  keeps : (a : Action) (wanted : Wanted) → OperandsExist p (heap_typing_of i elements h) a wanted → KeepsTypes p elements h i a wanted
  keeps a wanted k = keeps_types p elements h i a wanted store told_all fits k

  grown : (a : Action) (wanted : Wanted) (r : Answer) → OperandsExist p (heap_typing_of i elements h) a wanted → heap_answer p h i a ≡ Answers r
      → Grows (heap_typing_of i elements h) (heap_typing_of i (after a wanted r) (behind a r))
  grown a wanted r k said = (keeps a wanted k).grown place r said

  -- an answer of the heap
  pub heap_told : (a : Action) (wanted : Wanted) (r : Answer) → is_of_heap a ≡ true → OperandsExist p (heap_typing_of i elements h) a wanted
      → SuitsWanted p (heap_typing_of i elements h) a wanted → heap_answer p h i a ≡ Answers r → NamesFit (behind a r)
      → FitsWanted wanted r
  heap_told (act.GetField obj field) wanted r q k s said n =
      let a = act.GetField obj field in
      let g = grown a wanted r k said in
      let x = valued (cell_value p (Field obj field) h) r said in
      value_fits (behind a r) (after a wanted r) obj.owner n wanted s.1 s.0 r x.0 s.3 s.4 (store s.2.0 field s.0 s.2.2) x.2
      ((keeps a wanted k).answered place r refl said s.0 (s.2.0, g.classes obj s.2.0 s.2.1, s.2.2))
  heap_told (act.GetElem grid at) wanted r q k s said n =
      let a = act.GetElem grid at in
      let g = grown a wanted r k said in
      let x = valued (cell_value p (cell_of s.3.0 at) h) r (fault_then _ fault.Bounds _ r (possible_answer _ _ r (some_answer (grid_of_id grid h) s.3.0 _ r s.3.1 said))) in
      value_fits (behind a r) (after a wanted r) grid.owner n wanted s.1 s.0 r x.0 s.4 s.5 s.3.4 x.2
      ((keeps a wanted k).answered place r refl said s.0 s.2 (grid_stays _ _ s.0 s.2 grid g s.3))
  heap_told (act.DomainOf grid) wanted r q k s said n =
      let z : r ≡ Val (v.Rc s.2.0.domain) = sym (answer_same _ r (some_answer (grid_of_id grid h) s.2.0 _ r s.2.1 said)) in
      subst (λ y. FitsWanted y r) (sym s.3) (v.Rc s.2.0.domain, z, s.2.2)
  heap_told (act.NewObj class region) wanted r q k s said n =
      let a = act.NewObj class region in
      let z : r ≡ Val (v.Obj (Some (new_id i region h))) = makes_answer p h i a (v.Obj (Some (new_id i region h))) r (placed region h _ r (some_answer (zeros_of_class p class) k.0 _ r k.1 said)) in
      subst (λ y. FitsWanted y r) (sym s) (
        v.Obj (Some (new_id i region h)),
        z,
        form_like (behind a r) (after a wanted r) i n (t.Class class true) (t.Class class true) refl tt (v.Obj (Some (new_id i region h)))
            (subst (λ r'. IsOf (heap_typing_of i (after a wanted r) (behind a r)) (t.Class class true) (told r')) z ((keeps a wanted k).answered place r refl said)),
        refl,
      )
  heap_told (act.NewGrid zero domain region) wanted r q k s said n =
      let a = act.NewGrid zero domain region in
      let z : r ≡ Val (v.Grid (Some (new_id i region h))) = makes_answer p h i a (v.Grid (Some (new_id i region h))) r (placed region h _ r (possible_answer _ _ r said)) in
      grid_fits (behind a r) (after a wanted r) i n wanted k.0 k.1 r (new_id i region h) s z ((keeps a wanted k).answered place r refl said k.0 k.1 k.2)
  heap_told (act.MakeView grid how) wanted r q k s said n =
      let a = act.MakeView grid how in
      let g = grown a wanted r k said in
      let z : r ≡ Val (v.Grid (Some (view_id i grid h))) = makes_answer p h i a (v.Grid (Some (view_id i grid h))) r
      (views_then _ _ r (possible_answer _ _ r (some_answer (grid_of_id grid h) k.2.0 _ r k.2.1 said))) in
      grid_fits (behind a r) (after a wanted r) grid.owner n wanted k.0 _ r (view_id i grid h) s z ((keeps a wanted k).answered place r refl said k.0 k.1 (grid_stays _ _ k.0 k.1 grid g k.2))
  heap_told (act.PutField obj field value) wanted r q k s said n = done_fits wanted r s (written_done (cell_value p (Field obj field) h) r said)
  heap_told (act.PutElem grid at value) wanted r q k s said n = done_fits wanted r s (element_done (grid_of_id grid h) at r said)
  heap_told _ wanted r q k s said n = absurd (true_false (sym q))
