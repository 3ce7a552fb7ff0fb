-- In every run each region in which a thing lies, or is to be made, is none or one that was made.
use Rattle.std.proofs.Common.{◌≡◌, ℕ, ◌==◌, Bool, true, false, ◌&&◌, ◌||◌, if◌then◌else◌, Some, List, [], ◌∷◌, refl, ap, sym, ◌∙◌, subst}
use Rattle.ti_base.specs.declared.value.Id.{Id}
use Rattle.ti_base.specs.declared.action.Action.{Action}
use Rattle.ti_base.specs.declared.action.Action.TheVariants as act
use Rattle.ti_base.specs.declared.entry.Entry.{Entry}
use Rattle.ti_base.specs.Cells.{Grid}
use Rattle.ti_lang.specs.Program.Classes.{ProgramView}
use Rattle.ti_lang.specs.Meaning.Comp.{Wanted}
use Rattle.ti_lang.specs.Meaning.Processes.{RunConfig}
use Rattle.ti_lang.specs.Meaning.Histories.{History, history_of, is_making, is_departure}
use Rattle.ti_lang.specs.Meaning.RegionsOf.{is_region, is_made, is_place}
use Rattle.ti_lang.specs.Meaning.HeapOf.{new_id, view_id, is_object, is_grid, class_made, class_of_object, grid_made, grid_of_id}
use Rattle.ti_lang.specs.Meaning.HeapAnswers.{Answers, heap_answer, IsAnswered}
use Rattle.ti_lang.specs.Meaning.HeapAnswers as heap
use Rattle.ti_lang.specs.Meaning.Runs.{IsRun}
use Rattle.ti_lang.proofs.Lemmas.{run_answered}
use Rattle.ti_align.specs.Existing.{OperandsExist}
use Rattle.ti_align.specs.Heap.{Elements, heap_typing_of}
use Rattle.ti_align.specs.Typed.{RunTyped}
use Rattle.ti_align.specs.Placed.{region_of_making, ThingsPlaced}
use Rattle.ti_align.proofs.Runs.Vars.{and_right}
use Rattle.ti_align.proofs.RunTypes.Acting.{next_there}
use Rattle.ti_align.proofs.RunTypes.Operating.{none_some, some_same}
use Rattle.ti_align.proofs.RunTypes.Heaping.{place_is}
use Rattle.ti_align.proofs.RunTypes.Ranged.{object_answer, grid_answer, view_answer, object_named, grid_named}

-- what was made stays made
stays : (h : History) (e : Entry) (r : ℕ) → is_place r h ≡ true → is_place r (e ∷ h) ≡ true
stays h e r z = by (r == 0) z
  where
    or_right : (a b : Bool) → b ≡ true → (a || b) ≡ true
    or_right true b z = refl
    or_right false b z = z

    by : (b : Bool) → (b || is_made r h) ≡ true → (b || is_made r (e ∷ h)) ≡ true
    by true z = refl
    by false z = or_right (is_departure e.act && is_region r e.answer) (is_made r h) z

-- ---- histories

-- the things that are there lie in none, or in regions that were made
record Placed (h : History) : Type 0 where
  pub objects : (id : Id) (class : ℕ) → class_of_object id h ≡ Some class → is_place id.region h ≡ true
  pub grids : (id : Id) (g : Grid) → grid_of_id id h ≡ Some g → is_place id.region h ≡ true

-- one entry more
module _ (program : ProgramView) (h : History) (e : Entry) (k : Placed h) (told : heap_answer program h e.proc e.act ≡ Answers e.answer) where
  told_as : (a : Action) → e.act ≡ a → heap_answer program h e.proc a ≡ Answers e.answer
  told_as a z = ap (heap_answer program h e.proc) (sym z) ∙ told

  objects_placed : (id : Id) (class : ℕ) → class_of_object id (e ∷ h) ≡ Some class → is_place id.region (e ∷ h) ≡ true
  objects_placed id class z = stays h e id.region (by (is_making e.act && is_object id e.answer) refl z)
    where
      made : (a : Action) → e.act ≡ a → is_object id e.answer ≡ true → class_made a ≡ Some class → is_place id.region h ≡ true
      made (act.NewObj c region) x y z =
          let w = object_answer program h e.proc c region e.answer (told_as (act.NewObj c region) x) in
          subst (λ (i : Id). is_place i.region h ≡ true) (sym (object_named id (new_id e.proc region h) e.answer w.1 y)) w.0
      made _ x y z = absurd (none_some class z)

      by : (b : Bool) → (is_making e.act && is_object id e.answer) ≡ b → (if b then class_made e.act else class_of_object id h) ≡ Some class → is_place id.region h ≡ true
      by true x z = made e.act refl (and_right (is_making e.act) (is_object id e.answer) x) z
      by false x z = k.objects id class z

  grids_placed : (id : Id) (g : Grid) → grid_of_id id (e ∷ h) ≡ Some g → is_place id.region (e ∷ h) ≡ true
  grids_placed id g z = stays h e id.region (by (is_making e.act && is_grid id e.answer) refl z)
    where
      made : (a : Action) → e.act ≡ a → is_grid id e.answer ≡ true → grid_made id a (λ viewed. grid_of_id viewed h) ≡ Some g → is_place id.region h ≡ true
      made (act.NewGrid zero domain region) x y z =
          let w = grid_answer program h e.proc zero domain region e.answer (told_as (act.NewGrid zero domain region) x) in
          subst (λ (i : Id). is_place i.region h ≡ true) (sym (grid_named id (new_id e.proc region h) e.answer w.1 y)) w.0
      made (act.MakeView grid how) x y z =
          let w = view_answer program h e.proc grid how e.answer (told_as (act.MakeView grid how) x) in
          subst (λ (i : Id). is_place i.region h ≡ true) (sym (grid_named id (view_id e.proc grid h) e.answer w.1 y)) (k.grids grid w.0.0 w.0.1)
      made _ x y z = absurd (none_some g z)

      by : (b : Bool) → (is_making e.act && is_grid id e.answer) ≡ b → (if b then grid_made id e.act (λ viewed. grid_of_id viewed h) else grid_of_id id h) ≡ Some g → is_place id.region h ≡ true
      by true x z = made e.act refl (and_right (is_making e.act) (is_grid id e.answer) x) z
      by false x z = k.grids id g z

placed : (program : ProgramView) (h : History) → IsAnswered program h → Placed h
placed program [] a = record { objects = λ id class z. absurd (none_some class z); grids = λ id g z. absurd (none_some g z) }
placed program _ (heap.more {h = h} {e = e} a told) =
    let k = placed program h a in
    record { objects = objects_placed program h e k told; grids = grids_placed program h e k told }

-- ---- what is made next

making_placed : (p : ProgramView) (i : ℕ) (elements : Elements) (h : History) → Placed h → (a : Action) (wanted : Wanted) → OperandsExist p (heap_typing_of i elements h) a wanted
    → (r : ℕ) → region_of_making a ≡ Some r → is_place r h ≡ true
making_placed p i elements h k (act.NewObj class region) wanted there r z = subst (λ n. is_place n h ≡ true) (some_same region r z) (place_is i elements h region there.2)
making_placed p i elements h k (act.NewGrid zero domain region) wanted there r z = subst (λ n. is_place n h ≡ true) (some_same region r z) (place_is i elements h region there.6)
making_placed p i elements h k (act.MakeView grid how) wanted there r z = subst (λ n. is_place n h ≡ true) (some_same grid.region r z) (k.grids grid there.2.0 there.2.1)
making_placed p i elements h k _ wanted there r z = absurd (none_some r z)

pub things_placed : (s : RunConfig) (es : List Entry) → IsRun s es → RunTyped s es → ThingsPlaced s es
things_placed s es ran typed =
    let h = history_of es in
    let k = placed s.program h (run_answered s es ran) in record {
      objects = k.objects;
      grids = k.grids;
      makings = λ i p at a r within world n z. let x = next_there s es typed i p at a within world n in making_placed s.program i typed.fits.elements h k a x.0 x.1 r z;
    }
