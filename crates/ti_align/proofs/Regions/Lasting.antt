-- What lives in a run names only what lives: so it is still when a region goes, and whatever an action is answered lives.
use Rattle.std.proofs.Common.{◌≡◌, ℕ, suc, ◌<◌, ◌≤◌, ◌==◌, Bool, true, false, not, ◌&&◌, ◌||◌, if◌then◌else◌, slice_get, option_map, Option, Some, None, List, [], ◌∷◌, refl, ap, ap₂, sym, ◌∙◌, subst, arith, eqb-true, eq-eqb}
use Rattle.std.specs.Option.{option_and_then, option_map_or}
use Rattle.ti_base.specs.declared.value.Id.{Id}
use Rattle.ti_base.specs.declared.value.Value.{Value}
use Rattle.ti_base.specs.declared.value.Value.TheVariants as v
use Rattle.ti_base.specs.declared.value.Zero.{Zero}
use Rattle.ti_base.specs.declared.value.Zero.TheVariants as z
use Rattle.ti_base.specs.declared.action.Action.{Action}
use Rattle.ti_base.specs.declared.action.Action.TheVariants as act
use Rattle.ti_base.specs.declared.action.CollKind.{CollKind}
use Rattle.ti_base.specs.declared.action.CollKind.TheVariants as coll
use Rattle.ti_base.specs.declared.fault.FaultKind.TheVariants as fault
use Rattle.ti_base.specs.declared.entry.Answer.{Answer}
use Rattle.ti_base.specs.declared.entry.Answer.TheVariants.{Val}
use Rattle.ti_base.specs.declared.entry.Entry.{Entry}
use Rattle.ti_base.specs.Cells.{Cell, Field, Element, Grid, thing_of, zero_value, named_by, cell_of, whole_grid, view, view_fault, suits}
use Rattle.ti_lang.specs.Program.Types.{ValueType}
use Rattle.ti_lang.specs.Program.Types as t
use Rattle.ti_lang.specs.Program.Classes.{ProgramView}
use Rattle.ti_lang.specs.Typing.Kinds.{is_local}
use Rattle.ti_lang.specs.Meaning.Held as held
use Rattle.ti_base.specs.Forms.{is_dim}
use Rattle.ti_lang.specs.Meaning.Held.{Plain}
use Rattle.ti_lang.specs.Meaning.Comp.{Wanted, told}
use Rattle.ti_lang.specs.Meaning.Processes.{RunConfig, Process}
use Rattle.ti_lang.specs.Meaning.Zeros.{zeros_of_class}
use Rattle.ti_lang.specs.Meaning.Histories.{History, history_of, is_making, is_departure, arrivals}
use Rattle.ti_lang.specs.Meaning.RoundsOf as rounds
use Rattle.ti_lang.specs.Meaning.RoundsOf.{arrival_at, last_arrival, value_in, is_delete_of, deletes}
use Rattle.ti_lang.specs.Meaning.RegionsOf.{is_gone, is_place}
use Rattle.ti_lang.specs.Meaning.RegionUse.{names}
use Rattle.ti_lang.specs.Meaning.HeapOf.{new_id, view_id, is_grid, grid_made, grid_of_id, last_written, zeros_of, zero_of, cell_value}
use Rattle.ti_lang.specs.Meaning.HeapAnswers.{Answers, possible_if, faults_if, makes, places, at_point, views, answers_value, heap_answer, IsAnswered, more}
use Rattle.ti_lang.specs.Meaning.HeapAnswers as heap
use Rattle.ti_lang.specs.Meaning.Runs.{ProcAfter, CanTake, IsRun}
use Rattle.ti_lang.proofs.Lemmas.{possible_then, some_then, fault_then, answer_same, views_then, placed, same_name}
use Rattle.ti_align.specs.Alignment.{ArrivalsAgree}
use Rattle.ti_align.specs.Owners.{MadeWith}
use Rattle.ti_align.specs.HeapTyping.{HeapTyping, with_owner, IsGridOf, IsOf}
use Rattle.ti_align.specs.Existing.{dims_viewed, IsFieldOf, OperandsExist, FitsAsked}
use Rattle.ti_align.specs.Heap.{Elements, heap_typing_of, FieldsStorable, HeapFits, is_of_heap}
use Rattle.ti_align.specs.Mirrors.Processes.{ProcessFits}
use Rattle.ti_align.specs.Typed.{GivesAt, GivesLast, hands_in}
use Rattle.ti_align.specs.Dangling.{Lives, IfNamedLives}
use Rattle.ti_align.proofs.Runs.Vars.{true_false, or_false, and_right, not_true}
use Rattle.ti_align.proofs.RunTypes.Operating.{none_some, some_same}
use Rattle.ti_align.proofs.RunTypes.Computing.{grows_not, grid_stays}
use Rattle.ti_align.proofs.RunTypes.Heaping.{held_in, field_value, makes_answer, possible_answer, some_answer}
use Rattle.ti_align.proofs.RunTypes.Staying.{stays}
use Rattle.ti_align.proofs.Runs.Arrived.{reached}
use Rattle.ti_align.proofs.Alignment.Rounds.{told_now, depart_is}
use Rattle.ti_align.proofs.Runs.Acted.{said_by}
use Rattle.ti_align.proofs.Owners.Counted.{Counted}
use Rattle.ti_align.proofs.Regions.Living.{living, living_there, living_grows, of_living, used_lives, process_left}
use Rattle.ti_align.proofs.Regions.Leaving as leaving
use Rattle.ti_align.proofs.Regions.Leaving.{arrived_within}

-- ---- what lives in a run

-- what was written by now to cells that live later names only what lives then
abbrev pub CellsLive : History → History → Type 0
CellsLive h later = (c : Cell) (value : Value) → Lives later (thing_of c) → last_written c h ≡ Some value → IfNamedLives later (named_by value)

-- and so does what was given in a round past which not all processes have come
abbrev pub RoundsLive : RunConfig → History → History → Type 0
RoundsLive s h later = (j who n : ℕ) (a : rounds.Arrival) (value : Value) → j < s.procs → arrivals j h ≤ n → arrival_at who n h ≡ Some a
    → value_in a.deposit ≡ Some value → IfNamedLives later (named_by value)

-- All that is there in a run is as the types say, and what lives names only what lives.
pub record RunLives (s : RunConfig) (es : List Entry) : Type 0 where
  pub elements : Elements
  pub made : (grid : Id) (element : ValueType) → MadeWith s es grid element → elements grid ≡ Some element
  pub heap : HeapFits s.program elements (history_of es)
  pub processes : (i : ℕ) (pr : Process) → i < s.procs → ProcAfter s es i pr → ProcessFits (living (history_of es) (heap_typing_of i elements (history_of es))) (GivesLast s es i) pr
  pub deposits : (i k : ℕ) (a : rounds.Arrival) (value : Value) → arrival_at i (suc k) (history_of es) ≡ Some a → hands_in a.kind ≡ true → value_in a.deposit ≡ Some value
      → (type : ValueType) × GivesAt s es i k type × IsOf (heap_typing_of i elements (history_of es)) type (Plain value) × (is_local type ≡ false)
  pub counted : Counted s.program (history_of es)
  pub cells : CellsLive (history_of es) (history_of es)
  pub rounds_live : RoundsLive s (history_of es) (history_of es)

-- what lives after the history names only what lives later
pub record Lasts (s : RunConfig) (es : List Entry) (elements : Elements) (later : History) : Type 0 where
  pub processes : (i : ℕ) (pr : Process) → i < s.procs → ProcAfter s es i pr → ProcessFits (living later (heap_typing_of i elements (history_of es))) (GivesLast s es i) pr
  pub cells : CellsLive (history_of es) later
  pub rounds_live : RoundsLive s (history_of es) later

-- ---- cells

zero_lives : (h : History) (x : Zero) → IfNamedLives h (named_by (zero_value x))
zero_lives h z.Int = tt
zero_lives h z.Long = tt
zero_lives h z.Bool = tt
zero_lives h (z.Pt n) = tt
zero_lives h (z.Rc n) = tt
zero_lives h z.Obj = tt
zero_lives h z.Grid = tt

zero_is : (p : ProgramView) (c : Cell) (h : History) (x : Value) → zero_of p c h ≡ Some x → (first : Zero) × (zero_value first ≡ x)
zero_is p (Field obj field) h x k = by (zeros_of p obj h) k
  where
    get : (o : Option Zero) → option_map zero_value o ≡ Some x → (first : Zero) × (zero_value first ≡ x)
    get None k = absurd (none_some x k)
    get (Some y) k = (y, some_same (zero_value y) x k)

    by : (o : Option (List Zero)) → option_and_then (λ zeros. option_map zero_value (slice_get zeros field)) o ≡ Some x → (first : Zero) × (zero_value first ≡ x)
    by None k = absurd (none_some x k)
    by (Some zeros) k = get (slice_get zeros field) k
zero_is p (Element block at) h x k = by (grid_of_id block h) k
  where
    by : (o : Option Grid) → option_map (λ (g : Grid). zero_value g.zero) o ≡ Some x → (first : Zero) × (zero_value first ≡ x)
    by None k = absurd (none_some x k)
    by (Some g) k = (g.zero, some_same (zero_value g.zero) x k)

-- what a cell holds that was written
written_held : (o l : Option Value) (x value : Value) → option_map (held_in l) o ≡ Some x → l ≡ Some value → option_map (held_in l) o ≡ Some value
written_held None l x value k q = absurd (none_some x k)
written_held (Some y) l x value k q = ap (λ l. Some (held_in l y)) q

pub written_value : (p : ProgramView) (elements : Elements) (h : History) → HeapFits p elements h → FieldsStorable p
    → (c : Cell) (value : Value) → last_written c h ≡ Some value → cell_value p c h ≡ Some value
written_value p elements h fits store (Field obj field) value k =
    let m = fits.cells (Field obj field) value k in
    let x = field_value p elements h fits store obj field m.0 m.1 in
    written_held (zero_of p (Field obj field) h) (last_written (Field obj field) h) x.0 value x.1 k
written_value p elements h fits store (Element block at) value k =
    let m = fits.cells (Element block at) value k in
    let b = fits.blocks block m.0 m.1 in
    written_held (zero_of p (Element block at) h) (last_written (Element block at) h) _ value
    (ap (λ (o : Option Grid). option_map (held_in (last_written (Element block at) h)) (option_map (λ (g : Grid). zero_value g.zero) o)) b.1) k

cell_lives : (p : ProgramView) (h later : History) → CellsLive h later → (c : Cell) (x : Value) → Lives later (thing_of c) → cell_value p c h ≡ Some x → IfNamedLives later (named_by x)
cell_lives p h later f c x l k = by (last_written c h) refl k
  where
    by : (o : Option Value) → last_written c h ≡ o → option_map (held_in o) (zero_of p c h) ≡ Some x → IfNamedLives later (named_by x)
    by None q k = let y = zero_is p c h x (unwritten (zero_of p c h) k) in subst (λ z. IfNamedLives later (named_by z)) y.1 (zero_lives later y.0)
      where
        unwritten : (o : Option Value) → option_map (held_in None) o ≡ Some x → o ≡ Some x
        unwritten None k = absurd (none_some x k)
        unwritten (Some y) k = k
    by (Some value) q k = f c x l (q ∙ ap Some (same (zero_of p c h) k))
      where
        same : (o : Option Value) → option_map (held_in (Some value)) o ≡ Some x → value ≡ x
        same None k = absurd (none_some x k)
        same (Some y) k = some_same value x k

-- the block of a grid lies in the region of the grid
pub block_region : (p : ProgramView) (h : History) → IsAnswered p h → (id : Id) (g : Grid) → grid_of_id id h ≡ Some g → g.block.region ≡ id.region
block_region p [] answered id g k = absurd (none_some g k)
block_region p (e ∷ h) (more answered said) id g k = by (is_making e.act && is_grid id e.answer) refl k (λ viewed f m. block_region p h answered viewed f m)
  where
    made : (a : Action) → heap_answer p h e.proc a ≡ Answers e.answer → is_grid id e.answer ≡ true
        → grid_made id a (λ viewed. grid_of_id viewed h) ≡ Some g → ((viewed : Id) (f : Grid) → grid_of_id viewed h ≡ Some f → f.block.region
        ≡ viewed.region) → g.block.region ≡ id.region
    made (act.NewGrid first domain region) q i m f = sym (ap (λ (x : Grid). x.block.region) (some_same (whole_grid id first domain) g m))
    made (act.MakeView viewed how) q i m f =
        let s = some_then (grid_of_id viewed h) (λ k. possible_if (suits how k.domain)
        (views (view_fault how k.domain) (makes p h e.proc (act.MakeView viewed how) (v.Grid (Some (view_id e.proc viewed h))))))
        e.answer q in
        let r : e.answer ≡ Val (v.Grid (Some (view_id e.proc viewed h))) =
        makes_answer p h e.proc (act.MakeView viewed how) _ e.answer
        (views_then (view_fault how s.0.domain) _ e.answer (possible_answer (suits how s.0.domain) _ e.answer s.2)) in
        let same : view how s.0 ≡ g = some_same (view how s.0) g (sym (ap (option_map (view how)) s.1) ∙ m) in
        sym (ap (λ (x : Grid). x.block.region) same) ∙ f viewed s.0 s.1 ∙ sym (ap (λ (x : Id). x.region) (same_name id (view_id e.proc viewed h) (subst (λ r. is_grid id r ≡ true) r i)))
    made (act.NewObj class region) q i m f = absurd (none_some g m)
    made (act.GetField obj field) q i m f = absurd (none_some g m)
    made (act.PutField obj field value) q i m f = absurd (none_some g m)
    made (act.GetElem grid at) q i m f = absurd (none_some g m)
    made (act.PutElem grid at value) q i m f = absurd (none_some g m)
    made (act.DomainOf grid) q i m f = absurd (none_some g m)
    made (act.Print literal value) q i m f = absurd (none_some g m)
    made (act.Arrive kind arg given) q i m f = absurd (none_some g m)
    made act.Depart q i m f = absurd (none_some g m)
    made (act.Take who) q i m f = absurd (none_some g m)
    made act.End q i m f = absurd (none_some g m)
    made (act.Fault kind) q i m f = absurd (none_some g m)

    by : (b : Bool) → (is_making e.act && is_grid id e.answer) ≡ b
        → (if b then grid_made id e.act (λ viewed. grid_of_id viewed h) else grid_of_id id h) ≡ Some g
        → ((viewed : Id) (f : Grid) → grid_of_id viewed h ≡ Some f → f.block.region ≡ viewed.region) → g.block.region ≡ id.region
    by true t m f = made e.act said (and_right (is_making e.act) (is_grid id e.answer) t) m f
    by false t m f = f id g m

-- ---- answers

-- what is placed somewhere lives
placed_lives : (region : ℕ) (h : History) (o : heap.Outcome) (r : Answer) → places region h o ≡ Answers r → is_gone region h ≡ false
placed_lives region h o r k = by (is_gone region h) (possible_then (is_place region h) (faults_if (is_gone region h) fault.RegionGone o) r k).1
  where
    by : (b : Bool) → faults_if b fault.RegionGone o ≡ Answers r → b ≡ false
    by true k = cc
    by false k = refl

-- behind an entry of process i, which names only what lives then
module _ (p : ProgramView) (h later : History) (i : ℕ) (r : Answer) (w u : HeapTyping) (answered : IsAnswered p h) (cells : CellsLive h later) (grids : (id : Id) (g : Grid) → w.grid_at id ≡ Some g → grid_of_id id h ≡ Some g) where
  value_answered : (c : Cell) → Lives later (thing_of c) → answers_value (cell_value p c h) ≡ Answers r → IfNamedLives later (held.referent_of (told r))
  value_answered c l q =
      let x = some_then (cell_value p c h) (λ x. Answers (Val x)) r q in
      subst (λ r. IfNamedLives later (held.referent_of (told r))) (answer_same (Val x.0) r x.2) (cell_lives p h later cells c x.0 l x.1)

  new_lives : (a : Action) (new : Id) (made : Value) → named_by made ≡ Some new → Lives later new → makes p h i a made ≡ Answers r → IfNamedLives later (held.referent_of (told r))
  new_lives a new made n l q =
      subst (λ r. IfNamedLives later (held.referent_of (told r))) (sym (makes_answer p h i a made r q)) (subst (IfNamedLives later) (sym n) l)

  field_of : (obj : Id) (field : ℕ) (type : ValueType) → IsFieldOf p (living later u) obj field type → IsFieldOf p u obj field type
  field_of obj field type k = (k.0, (living_there later u).classes obj k.0 k.1, k.2)

  grid_in : (element : ValueType) (n : ℕ) (id : Id) → IsGridOf (living later u) element n id → IsGridOf u element n id
  grid_in element n id k = grid_stays (living later u) u element n id (living_there later u) k

  -- so its answer names only what lives
  pub fits_living : (gone : (n : ℕ) → is_gone n h ≡ false → is_gone n later ≡ false) → (a : Action) (wanted : Wanted) → is_of_heap a ≡ true
      → OperandsExist p (living later w) a wanted → heap_answer p h i a ≡ Answers r → FitsAsked p u a wanted r
      → FitsAsked p (living later u) a wanted r
  fits_living gone (act.GetField obj field) wanted is there q k =
      λ type f. of_living later (with_owner obj.owner u) type (told r) (k type (field_of obj field type f))
      (λ v. value_answered (Field obj field) (used_lives later w p (act.GetField obj field) wanted there) q)
  fits_living gone (act.GetElem grid at) wanted is there q k =
      λ element n f.
      let g = grids grid there.2.0 ((living_there later w).grids grid there.2.0 there.2.1) in
      let s = some_answer (grid_of_id grid h) there.2.0 (λ g. at_point g at (answers_value (cell_value p (cell_of g at) h))) r g q in
      let block : Lives later there.2.0.block = subst (λ n. is_gone n later ≡ false) (sym (block_region p h answered grid there.2.0 g)) (used_lives later w p (act.GetElem grid at) wanted there) in
      of_living later (with_owner grid.owner u) element (told r) (k element n (grid_in element n grid f))
      (λ v. value_answered (cell_of there.2.0 at) block (fault_then _ fault.Bounds _ r (possible_answer (at.dim == there.2.0.domain.dim) _ r s)))
  fits_living gone (act.NewObj class region) wanted is there q k =
      let s = some_then (zeros_of_class p class) (λ zeros. places region h (makes p h i (act.NewObj class region) (v.Obj (Some (new_id i region h))))) r q in
      of_living later u (t.Class class true) (told r) k
      (λ v. new_lives (act.NewObj class region) (new_id i region h) _ refl (gone region (placed_lives region h _ r s.2)) (placed region h _ r s.2))
  fits_living gone (act.NewGrid first domain region) wanted is there q k =
      let s = (possible_then (is_dim domain.dim) (places region h (makes p h i (act.NewGrid first domain region) (v.Grid (Some (new_id i region h))))) r q).1 in
      λ element n m.
      of_living later u (t.Grid element n true) (told r) (k element n m)
      (λ v. new_lives (act.NewGrid first domain region) (new_id i region h) _ refl (gone region (placed_lives region h _ r s)) (placed region h _ r s))
  fits_living gone (act.MakeView grid how) wanted is there q k =
      let s = some_then (grid_of_id grid h) (λ k. possible_if (suits how k.domain) (views (view_fault how k.domain) (makes p h i (act.MakeView grid how) (v.Grid (Some (view_id i grid h)))))) r q in
      λ element n f.
      of_living later (with_owner grid.owner u) (t.Grid element (dims_viewed how n) true) (told r) (k element n (grid_in element n grid f))
      (λ v. new_lives (act.MakeView grid how) (view_id i grid h) _ refl (used_lives later w p (act.MakeView grid how) wanted there)
      (views_then (view_fault how s.0.domain) _ r (possible_answer (suits how s.0.domain) _ r s.2)))
  fits_living gone (act.DomainOf grid) wanted is there q k = λ element n f. k element n (grid_in element n grid f)
  fits_living gone (act.PutField obj field value) wanted is there q k = tt
  fits_living gone (act.PutElem grid at value) wanted is there q k = tt
  fits_living gone _ wanted is there q k = absurd (true_false (sym is))

-- ---- over an entry

module _ (s : RunConfig) (es : List Entry) (e : Entry) (ran : IsRun s es) (agree : ArrivalsAgree s es) (t : CanTake s es e.proc e) (store : FieldsStorable s.program) (fit : RunLives s es) where
  abbrev h : History
  h = history_of es

  abbrev i : ℕ
  i = e.proc

  abbrev w : ℕ → HeapTyping
  w j = heap_typing_of j fit.elements h

  -- where no region goes
  none_goes : ((n : ℕ) → is_gone n (e ∷ h) ≡ is_gone n h) → Lasts s es fit.elements (e ∷ h)
  none_goes same = record {
    processes = λ j pr l x. stays (living h (w j)) (living (e ∷ h) (w j)) (GivesLast s es j) pr (living_grows h (e ∷ h) (w j) (w j) (λ n z. same n ∙ z) (grows_not (w j))) (fit.processes j pr l x);
    cells = λ c value l z. still (named_by value) (fit.cells c value (sym (same (thing_of c).region) ∙ l) z);
    rounds_live = λ j who n a value l m q z. still (named_by value) (fit.rounds_live j who n a value l m q z);
  }
    where
      still : (o : Option Id) → IfNamedLives h o → IfNamedLives (e ∷ h) o
      still None k = tt
      still (Some id) k = same id.region ∙ k

  -- where one does
  module _ (leaving_now : e.act ≡ act.Depart) (a : rounds.Arrival) (last : last_arrival i h ≡ Some a) (r : ℕ) (kind : a.kind ≡ coll.DeleteRegion) (arg : a.arg ≡ Some r) (there : is_gone r h ≡ false) where
    gone_now : (n : ℕ) → is_gone n (e ∷ h) ≡ ((r == n) || is_gone n h)
    gone_now n = ap (λ b. b || is_gone n h) (ap₂ (λ x y. x && y) (ap is_departure leaving_now) (ap (is_delete_of n) last ∙ ap₂ (deletes n) kind arg))

    left : (n : ℕ) → is_gone n h ≡ false → (n == r) ≡ false → is_gone n (e ∷ h) ≡ false
    left n k z = gone_now n ∙ ap₂ (λ x y. x || y) (not_true (r == n) (λ y. true_false (sym (eq-eqb n r (sym (eqb-true r n y))) ∙ z))) k

    one_goes : Lasts s es fit.elements (e ∷ h)
    one_goes = record {
      processes = λ j pr l x.
          let k = leaving.emptied s es e ran agree t leaving_now a last r kind arg there j pr l x in
          process_left h (e ∷ h) (w j) r left (GivesLast s es j) pr k.0 k.1 k.2 k.3 (fit.processes j pr l x);
      cells = λ c value l z.
          let k = or_false (r == (thing_of c).region) (is_gone (thing_of c).region h) (sym (gone_now (thing_of c).region) ∙ l) in
          named_left (named_by value) (fit.cells c value k.1 z)
          (sym (ap (names r) (written_value s.program fit.elements h fit.heap store c value z))
          ∙ leaving.none_named s es e ran agree t leaving_now a last r kind arg there c (fit.counted.written c value z)
          (ap₂ (λ x y. not x && not y) (turned (thing_of c).region k.0) k.1));
      rounds_live = λ j who n b value l m q z.
          let who_in = arrived_within s es ran who n b q in
          let n_is : n ≡ arrivals i h = between n (arrivals who h) (arrivals j h) (arrivals i h) (reached who n h b q)
          (leaving.round_here s es e ran agree t leaving_now a last r kind arg there who who_in) m
          (leaving.round_here s es e ran agree t leaving_now a last r kind arg there j l) in
          absurd (leaving.none_given s es e ran agree t leaving_now a last r kind arg there who b value (subst (λ m. arrival_at who m h ≡ Some b) n_is q) z);
    }
      where
        turned : (n : ℕ) → (r == n) ≡ false → (n == r) ≡ false
        turned n k = not_true (n == r) (λ y. true_false (sym (eq-eqb r n (sym (eqb-true n r y))) ∙ k))

        between : (n x y k : ℕ) → n ≤ x → x ≡ k → y ≤ n → y ≡ k → n ≡ k
        between n x y k a b c d = omega (arith, a, b, c, d)

        named_left : (o : Option Id) → IfNamedLives h o → option_map_or (λ (id : Id). id.region == r) o false ≡ false → IfNamedLives (e ∷ h) o
        named_left None k z = tt
        named_left (Some id) k z = left id.region k z

  pub lasts : Lasts s es fit.elements (e ∷ h)
  lasts = by (is_departure e.act) refl
    where
      kept : ((n : ℕ) → (is_departure e.act && is_delete_of n (last_arrival i h)) ≡ true → is_gone n h ≡ true) → (n : ℕ) → is_gone n (e ∷ h) ≡ is_gone n h
      kept f n = one (is_departure e.act && is_delete_of n (last_arrival i h)) refl
        where
          one : (b : Bool) → (is_departure e.act && is_delete_of n (last_arrival i h)) ≡ b → is_gone n (e ∷ h) ≡ is_gone n h
          one true z = ap (λ b. b || is_gone n h) z ∙ sym (f n z)
          one false z = ap (λ b. b || is_gone n h) z

      other_kind : (a : rounds.Arrival) → last_arrival i h ≡ Some a → ((n : ℕ) → deletes n a.kind a.arg ≡ false) → Lasts s es fit.elements (e ∷ h)
      other_kind a z f = none_goes (kept (λ n k. absurd (true_false (sym (and_right (is_departure e.act) _ k) ∙ ap (is_delete_of n) z ∙ f n))))

      by_region : e.act ≡ act.Depart → (a : rounds.Arrival) → last_arrival i h ≡ Some a → a.kind ≡ coll.DeleteRegion → (r : ℕ) → a.arg
          ≡ Some r → (b : Bool) → is_gone r h ≡ b → Lasts s es fit.elements (e ∷ h)
      by_region d a z k r g true b =
          none_goes (kept (λ n y.
          subst (λ m. is_gone m h ≡ true) (eqb-true r n (sym (ap (is_delete_of n) z ∙ ap₂ (deletes n) k g) ∙ and_right (is_departure e.act) _ y)) b))
      by_region d a z k r g false b = one_goes d a z r k g b

      by_arg : e.act ≡ act.Depart → (a : rounds.Arrival) → last_arrival i h ≡ Some a → a.kind ≡ coll.DeleteRegion → (o : Option ℕ) → a.arg ≡ o → Lasts s es fit.elements (e ∷ h)
      by_arg d a z k None g = other_kind a z (λ n. ap₂ (deletes n) k g)
      by_arg d a z k (Some r) g = by_region d a z k r g (is_gone r h) refl

      by_kind : e.act ≡ act.Depart → (a : rounds.Arrival) → last_arrival i h ≡ Some a → (k : CollKind) → a.kind ≡ k → Lasts s es fit.elements (e ∷ h)
      by_kind d a z coll.DeleteRegion k = by_arg d a z k a.arg refl
      by_kind d a z coll.Barrier k = other_kind a z (λ n. ap (λ k. deletes n k a.arg) k)
      by_kind d a z coll.Broadcast k = other_kind a z (λ n. ap (λ k. deletes n k a.arg) k)
      by_kind d a z coll.Exchange k = other_kind a z (λ n. ap (λ k. deletes n k a.arg) k)
      by_kind d a z coll.MakeRegion k = other_kind a z (λ n. ap (λ k. deletes n k a.arg) k)

      by : (b : Bool) → is_departure e.act ≡ b → Lasts s es fit.elements (e ∷ h)
      by false z = none_goes (λ n. ap (λ b. b && is_delete_of n (last_arrival i h) || is_gone n h) z)
      by true z =
          let d = depart_is e.act z in
          let told = told_now s.program h i e.answer (sym (ap (heap_answer s.program h i) d) ∙ said_by s es e t ran) in
          by_kind d told.arrival told.is told.arrival.kind refl
