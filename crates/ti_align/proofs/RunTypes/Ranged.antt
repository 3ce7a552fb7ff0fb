-- In every run the names of things and the numbers of regions have 32 bits.
use Rattle.std.proofs.Common.{◌≡◌, ℕ, ◌<◌, ◌≤◌, ◌==◌, Bool, true, false, ◌&&◌, ◌⊎◌, inl, inr, if◌then◌else◌, Option, Some, None, List, [], ◌∷◌, ◌++◌, refl, ap, sym, ◌∙◌, subst, arith, eqb-true}
use Rattle.ti_base.specs.declared.point.Rect.{Rect}
use Rattle.ti_base.specs.declared.value.Id.{Id}
use Rattle.ti_base.specs.declared.value.Value.{Value}
use Rattle.ti_base.specs.declared.value.Value.TheVariants as v
use Rattle.ti_base.specs.declared.value.Zero.{Zero}
use Rattle.ti_base.specs.declared.fault.FaultKind.{FaultKind}
use Rattle.ti_base.specs.declared.fault.FaultKind.TheVariants as fault
use Rattle.ti_base.specs.declared.action.Action.{Action}
use Rattle.ti_base.specs.declared.action.Action.TheVariants as act
use Rattle.ti_base.specs.declared.action.CollKind.{CollKind}
use Rattle.ti_base.specs.declared.action.CollKind.TheVariants as coll
use Rattle.ti_base.specs.declared.action.Deposit.{Deposit}
use Rattle.ti_base.specs.declared.action.Deposit.TheVariants as deposit
use Rattle.ti_base.specs.declared.action.ViewHow.{ViewHow}
use Rattle.ti_base.specs.declared.entry.Answer.{Answer}
use Rattle.ti_base.specs.declared.entry.Answer.TheVariants.{Done, Val}
use Rattle.ti_base.specs.declared.entry.Entry.{Entry}
use Rattle.ti_base.specs.declared.entry.Next.TheVariants as next
use Rattle.ti_base.specs.Cells.{Grid, suits, view_fault}
use Rattle.ti_lang.specs.Program.Types.{ValueType}
use Rattle.ti_lang.specs.Program.Types as t
use Rattle.ti_lang.specs.Program.Classes.{ProgramView}
use Rattle.ti_lang.specs.Typing.Kinds.{is_void}
use Rattle.ti_base.specs.Forms.{is_dim}
use Rattle.ti_lang.specs.Meaning.Held.{Plain, Dm}
use Rattle.ti_lang.specs.Meaning.Answers.{IsCount, IsName}
use Rattle.ti_lang.specs.Meaning.Processes.{RunConfig}
use Rattle.ti_lang.specs.Meaning.Histories.{History, history_of, is_making, is_arrival, is_departure, is_answered, things_made, arrivals}
use Rattle.ti_lang.specs.Meaning.RoundsOf as rounds
use Rattle.ti_lang.specs.Meaning.RoundsOf.{arrival_at, arrival_in, value_in, rounds_making, makes_region}
use Rattle.ti_lang.specs.Meaning.RegionsOf.{is_region, is_made, is_gone, is_place}
use Rattle.ti_lang.specs.Meaning.Zeros.{zeros_of_class}
use Rattle.ti_lang.specs.Meaning.HeapOf.{new_id, view_id, is_object, is_grid, class_made, class_of_object, grid_made, grid_of_id}
use Rattle.ti_lang.specs.Meaning.HeapAnswers.{Outcome, Answers, Impossible, where_some, possible_if, faults_if, makes, places, views, heap_answer, IsAnswered}
use Rattle.ti_lang.specs.Meaning.HeapAnswers as heap
use Rattle.ti_lang.specs.Meaning.NextStep.{IsNext}
use Rattle.ti_lang.specs.Meaning.Runs.{CanTake, IsRun}
use Rattle.ti_lang.specs.Meaning.Runs as run
use Rattle.ti_lang.proofs.Lemmas.{history_grows, run_answered, taker, answer_same, same_name}
use Rattle.ti_align.specs.Names.{NamesFit}
use Rattle.ti_align.specs.HeapTyping.{HeapTyping, IsPlaced, IsOf, DepositFits}
use Rattle.ti_align.specs.Typed.{RunTyped}
use Rattle.ti_align.specs.Heap.{heap_typing_of}
use Rattle.ti_align.proofs.Runs.Vars.{true_false, and_left, and_right}
use Rattle.ti_align.proofs.RunTypes.Acting.{next_handed}
use Rattle.ti_align.proofs.Runs.Arrived.{Comes, before, now, comes, made_all}
use Rattle.ti_align.proofs.Alignment.Rounds.{Told, RoundAnswer, told_now, acts_as, arrive_answered, arrival_is, said}
use Rattle.ti_align.proofs.Runs.Paying.{at_most_fuel}
use Rattle.ti_align.proofs.RunTypes.Operating.{or_either}

-- ---- numbers

pub small : (n fuel : ℕ) → n ≤ fuel → fuel ≤ 4000000 → IsCount n
small n fuel h k = omega (arith, h, k)

few : (i procs : ℕ) → i < procs → procs ≤ 32 → IsCount i
few i procs h k = omega (arith, h, k)

zero_count : (n : ℕ) → n ≡ 0 → IsCount n
zero_count n h = omega (arith, h)

-- ---- what is answered

impossible : {A : Type 0} (r : Answer) → Impossible ≡ Answers r → A
impossible r e = absurd (no e)
  where
    no : Impossible ≡ Answers r → ⊥
    no e = cc

faulty : {A : Type 0} (k : FaultKind) (r : Answer) → heap.Faults k ≡ Answers r → A
faulty k r e = absurd (no e)
  where
    no : heap.Faults k ≡ Answers r → ⊥
    no e = cc

-- what is made where nothing is at fault
made_answer : (f : Bool) (made : Value) (r : Answer) → faults_if f fault.HeapFull (Answers (Val made)) ≡ Answers r → r ≡ Val made
made_answer true made r e = faulty fault.HeapFull r e
made_answer false made r e = sym (answer_same _ _ e)

placed_answer : (p g f : Bool) (made : Value) (r : Answer) → possible_if p (faults_if g fault.RegionGone (faults_if f fault.HeapFull (Answers (Val made)))) ≡ Answers r → (p ≡ true) × (r ≡ Val made)
placed_answer true true f made r e = faulty fault.RegionGone r e
placed_answer true false f made r e = (refl, made_answer f made r e)
placed_answer false g f made r e = impossible r e

viewed_answer : (p : Bool) (k : Option FaultKind) (f : Bool) (made : Value) (r : Answer) → possible_if p (views k (faults_if f fault.HeapFull (Answers (Val made)))) ≡ Answers r → r ≡ Val made
viewed_answer true None f made r e = made_answer f made r e
viewed_answer true (Some k) f made r e = faulty k r e
viewed_answer false k f made r e = impossible r e

module _ (program : ProgramView) (h : History) (i : ℕ) where
  pub object_answer : (class region : ℕ) (r : Answer) → heap_answer program h i (act.NewObj class region) ≡ Answers r → (is_place region h ≡ true) × (r ≡ Val (v.Obj (Some (new_id i region h))))
  object_answer class region r e = by (zeros_of_class program class) e
    where
      by : (o : Option (List Zero)) → where_some o (λ zeros. places region h (makes program h i (act.NewObj class region) (v.Obj (Some (new_id i region h))))) ≡ Answers r
          → (is_place region h ≡ true) × (r ≡ Val (v.Obj (Some (new_id i region h))))
      by None e = impossible r e
      by (Some zeros) e = placed_answer (is_place region h) (is_gone region h) _ (v.Obj (Some (new_id i region h))) r e

  pub grid_answer : (zero : Zero) (domain : Rect) (region : ℕ) (r : Answer) → heap_answer program h i (act.NewGrid zero domain region)
      ≡ Answers r → (is_place region h ≡ true) × (r ≡ Val (v.Grid (Some (new_id i region h))))
  grid_answer zero domain region r e = by (is_dim domain.dim) e
    where
      by : (b : Bool) → possible_if b (places region h (makes program h i (act.NewGrid zero domain region)
          (v.Grid (Some (new_id i region h))))) ≡ Answers r → (is_place region h ≡ true) × (r ≡ Val (v.Grid (Some (new_id i region h))))
      by true e = placed_answer (is_place region h) (is_gone region h) _ (v.Grid (Some (new_id i region h))) r e
      by false e = impossible r e

  pub view_answer : (grid : Id) (how : ViewHow) (r : Answer) → heap_answer program h i (act.MakeView grid how) ≡ Answers r
      → ((g : Grid) × (grid_of_id grid h ≡ Some g)) × (r ≡ Val (v.Grid (Some (view_id i grid h))))
  view_answer grid how r e = by (grid_of_id grid h) refl e
    where
      by : (o : Option Grid) → grid_of_id grid h ≡ o → where_some o (λ (g : Grid). possible_if (suits how g.domain)
          (views (view_fault how g.domain) (makes program h i (act.MakeView grid how) (v.Grid (Some (view_id i grid h)))))) ≡ Answers r
          → ((g : Grid) × (grid_of_id grid h ≡ Some g)) × (r ≡ Val (v.Grid (Some (view_id i grid h))))
      by None z e = impossible r e
      by (Some g) z e = ((g, z), viewed_answer _ _ _ (v.Grid (Some (view_id i grid h))) r e)

-- ---- names that are told

pub object_named : (id made : Id) (r : Answer) → r ≡ Val (v.Obj (Some made)) → is_object id r ≡ true → id ≡ made
object_named id made r e h = same_name id made (sym (ap (is_object id) e) ∙ h)

pub grid_named : (id made : Id) (r : Answer) → r ≡ Val (v.Grid (Some made)) → is_grid id r ≡ true → id ≡ made
grid_named id made r e h = same_name id made (sym (ap (is_grid id) e) ∙ h)

none_class : {A : Type 0} (c : ℕ) → ◌≡◌ {A = Option ℕ} None (Some c) → A
none_class c e = absurd (no e)
  where
    no : ◌≡◌ {A = Option ℕ} None (Some c) → ⊥
    no e = cc

none_grid : {A : Type 0} (g : Grid) → ◌≡◌ {A = Option Grid} None (Some g) → A
none_grid g e = absurd (no e)
  where
    no : ◌≡◌ {A = Option Grid} None (Some g) → ⊥
    no e = cc

done_region : {A : Type 0} (r : ℕ) (a : Answer) → a ≡ Done → is_region r a ≡ true → A
done_region r a e h = absurd (true_false (sym h ∙ ap (is_region r) e))

-- a region that is answered
answered_region : (r : ℕ) (a : Answer) (value : Value) → a ≡ Val value → is_region r a ≡ true → value ≡ v.Region r
answered_region r a value e h = by value (sym (ap (is_region r) e) ∙ h)
  where
    by : (value : Value) → is_region r (Val value) ≡ true → value ≡ v.Region r
    by (v.Region n) k = ap v.Region (eqb-true n r k)
    by _ k = absurd (true_false (sym k))

-- a value of a type that is a region was made, or is none
region_placed : (w : HeapTyping) (type : ValueType) (r : ℕ) → IsOf w type (Plain (v.Region r)) → is_void type ≡ false → IsPlaced w r
region_placed w t.Int r k n = absurd (no k.1)
  where
    no : {z : _} → Plain (v.Region r) ≡ Plain (v.Int z) → ⊥
    no e = cc
region_placed w t.Long r k n = absurd (no k.1)
  where
    no : {z : _} → Plain (v.Region r) ≡ Plain (v.Long z) → ⊥
    no e = cc
region_placed w t.Boolean r k n = absurd (no k.1)
  where
    no : {z : _} → Plain (v.Region r) ≡ Plain (v.Bool z) → ⊥
    no e = cc
region_placed w (t.Pt m) r k n = absurd (no k.1)
  where
    no : {z : _} → Plain (v.Region r) ≡ Plain (v.Pt z) → ⊥
    no e = cc
region_placed w (t.Rc m) r k n = absurd (no k.1)
  where
    no : {z : _} → Plain (v.Region r) ≡ Plain (v.Rc z) → ⊥
    no e = cc
region_placed w (t.Dm m) r k n = absurd (no k.1)
  where
    no : {z : _} → Plain (v.Region r) ≡ Dm m z → ⊥
    no e = cc
region_placed w t.Region r k n = subst (IsPlaced w) (sym (same r k.0 k.1)) k.2
  where
    same : (a b : ℕ) → Plain (v.Region a) ≡ Plain (v.Region b) → a ≡ b
    same a b e = cc
region_placed w (t.Class c l) r k n = absurd (no k.1)
  where
    no : {z : _} → Plain (v.Region r) ≡ Plain (v.Obj z) → ⊥
    no e = cc
region_placed w (t.Grid e m l) r k n = absurd (no k.1)
  where
    no : {z : _} → Plain (v.Region r) ≡ Plain (v.Grid z) → ⊥
    no e = cc
region_placed w t.Null r k n = absurd (no k)
  where
    no : Plain (v.Region r) ≡ Plain (v.Obj None) → ⊥
    no e = cc
region_placed w t.Void r k n = absurd (true_false n)

-- ---- one entry more

-- the names fit, and so do the regions that were handed in
record Ranged (h : History) : Type 0 where
  pub names : NamesFit h
  pub handed : (i n : ℕ) (a : rounds.Arrival) (r : ℕ) → arrival_at i n h ≡ Some a → value_in a.deposit ≡ Some (v.Region r) → IsCount r

-- the region in which a thing is placed
place_count : (h : History) (r : ℕ) → NamesFit h → is_place r h ≡ true → IsCount r
place_count h r k e = by (or_either (r == 0) (is_made r h) e)
  where
    by : ((r == 0) ≡ true) ⊎ (is_made r h ≡ true) → IsCount r
    by (inl z) = zero_count r (eqb-true r 0 z)
    by (inr z) = k.regions r z

module _ (program : ProgramView) (h : History) (e : Entry) (k : Ranged h) (maker : IsCount e.proc)
    (serial : IsCount (things_made e.proc h)) (making : IsCount (rounds_making e.proc h)) (told : heap_answer program h e.proc e.act
    ≡ Answers e.answer)
    (given : (kind : CollKind) (arg : Option ℕ) (d : Deposit) (r : ℕ) → e.act ≡ act.Arrive kind arg d → value_in d ≡ Some (v.Region r) → IsCount r) where
  told_as : (a : Action) → e.act ≡ a → heap_answer program h e.proc a ≡ Answers e.answer
  told_as a z = ap (heap_answer program h e.proc) (sym z) ∙ told

  new_named : (region : ℕ) → is_place region h ≡ true → IsName (Some (new_id e.proc region h))
  new_named region p = (maker, serial, maker, place_count h region k.names p)

  objects_fit : (id : Id) (class : ℕ) → class_of_object id (e ∷ h) ≡ Some class → IsName (Some id)
  objects_fit id class z = by (is_making e.act && is_object id e.answer) refl z
    where
      made : (a : Action) → e.act ≡ a → is_object id e.answer ≡ true → class_made a ≡ Some class → IsName (Some id)
      made (act.NewObj c region) x y z =
          let w = object_answer program h e.proc c region e.answer (told_as (act.NewObj c region) x) in
          subst (λ (i : Id). IsName (Some i)) (sym (object_named id (new_id e.proc region h) e.answer w.1 y)) (new_named region w.0)
      made _ x y z = none_class class z

      by : (b : Bool) → (is_making e.act && is_object id e.answer) ≡ b → (if b then class_made e.act else class_of_object id h) ≡ Some class → IsName (Some id)
      by true x z = made e.act refl (and_right (is_making e.act) (is_object id e.answer) x) z
      by false x z = k.names.objects id class z

  grids_fit : (id : Id) (g : Grid) → grid_of_id id (e ∷ h) ≡ Some g → IsName (Some id)
  grids_fit id g z = by (is_making e.act && is_grid id e.answer) refl z
    where
      made : (a : Action) → e.act ≡ a → is_grid id e.answer ≡ true → grid_made id a (λ viewed. grid_of_id viewed h) ≡ Some g → IsName (Some id)
      made (act.NewGrid zero domain region) x y z =
          let w = grid_answer program h e.proc zero domain region e.answer (told_as (act.NewGrid zero domain region) x) in
          subst (λ (i : Id). IsName (Some i)) (sym (grid_named id (new_id e.proc region h) e.answer w.1 y)) (new_named region w.0)
      made (act.MakeView grid how) x y z =
          let w = view_answer program h e.proc grid how e.answer (told_as (act.MakeView grid how) x) in
          let n = k.names.grids grid w.0.0 w.0.1 in
          subst (λ (i : Id). IsName (Some i)) (sym (grid_named id (view_id e.proc grid h) e.answer w.1 y)) (maker, serial, n.2, n.3)
      made _ x y z = none_grid g z

      by : (b : Bool) → (is_making e.act && is_grid id e.answer) ≡ b → (if b then grid_made id e.act (λ viewed. grid_of_id viewed h) else grid_of_id id h) ≡ Some g → IsName (Some id)
      by true x z = made e.act refl (and_right (is_making e.act) (is_grid id e.answer) x) z
      by false x z = k.names.grids id g z

  depart_is : (a : Action) → is_departure a ≡ true → a ≡ act.Depart
  depart_is act.Depart z = refl
  depart_is _ z = absurd (true_false (sym z))

  regions_fit : (r : ℕ) → is_made r (e ∷ h) ≡ true → IsCount r
  regions_fit r z = by (or_either (is_departure e.act && is_region r e.answer) (is_made r h) z)
    where
      left : (x : Told h e.proc (arrivals e.proc h) e.answer) (kind : CollKind) → x.arrival.kind ≡ kind → is_region r e.answer ≡ true
          → RoundAnswer h e.proc (arrivals e.proc h) kind x.arrival.arg e.answer → IsCount r
      left x coll.Broadcast m y g = k.handed g.0 (arrivals e.proc h) g.1 r g.4 (g.5 ∙ ap Some (answered_region r e.answer g.2 g.6 y))
      left x coll.MakeRegion m y g =
          subst IsCount (region_is (answered_region r e.answer (v.Region _) g y)) (subst IsCount (made_all e.proc h) making)
        where
          region_is : {a b : ℕ} → v.Region a ≡ v.Region b → a ≡ b
          region_is e = cc
      left x coll.Barrier m y g = done_region r e.answer g y
      left x coll.Exchange m y g = done_region r e.answer g y
      left x coll.DeleteRegion m y g = done_region r e.answer g y

      by : ((is_departure e.act && is_region r e.answer) ≡ true) ⊎ (is_made r h ≡ true) → IsCount r
      by (inl x) =
          let y = told_now program h e.proc e.answer (told_as act.Depart (depart_is e.act (and_left (is_departure e.act) _ x))) in
          left y y.arrival.kind refl (and_right (is_departure e.act) (is_region r e.answer) x) y.gives
      by (inr x) = k.names.regions r x

  handed_fit : (i n : ℕ) (a : rounds.Arrival) (r : ℕ) → arrival_at i n (e ∷ h) ≡ Some a → value_in a.deposit ≡ Some (v.Region r) → IsCount r
  handed_fit i n a r z y = by (comes i n e h a z)
    where
      by : Comes i n e h a → IsCount r
      by (before x) = k.handed i n a r x y
      by (now own l x) = given a.kind a.arg a.deposit r (arrival_is e.act a x) y

  more_ranged : Ranged (e ∷ h)
  more_ranged = record { names = record { objects = objects_fit; grids = grids_fit; regions = regions_fit }; handed = handed_fit }

-- ---- runs

making_answered : (e : Entry) → is_making e.act ≡ true → is_answered e ≡ true
making_answered e z = by e.act z
  where
    by : (a : Action) → is_making a ≡ true → is_answered (record e { act = a }) ≡ true
    by (act.NewObj class region) z = refl
    by (act.NewGrid zero domain region) z = refl
    by (act.MakeView grid how) z = refl
    by _ z = absurd (true_false (sym z))

pub region_answered : (e : Entry) → makes_region e.act ≡ true → is_answered e ≡ true
region_answered e z = by e.act z
  where
    by : (a : Action) → makes_region a ≡ true → is_answered (record e { act = a }) ≡ true
    by (act.Arrive kind arg given) z = refl
    by _ z = absurd (true_false (sym z))

pub one_value : (d : Deposit) (x : Value) → value_in d ≡ Some x → d ≡ deposit.One x
one_value (deposit.One y) x e = ap deposit.One (same y x e)
  where
    same : (a b : Value) → Some a ≡ Some b → a ≡ b
    same a b e = cc
one_value deposit.Nothing x e = absurd (no e)
  where
    no : ◌≡◌ {A = Option Value} None (Some x) → ⊥
    no e = cc
one_value (deposit.Count n) x e = absurd (no e)
  where
    no : ◌≡◌ {A = Option Value} None (Some x) → ⊥
    no e = cc

ranged : (s : RunConfig) (es : List Entry) → IsRun s es → s.procs ≤ 32 → s.fuel ≤ 4000000 → ((ds : List Entry) → IsRun s ds → RunTyped s ds) → Ranged (history_of es)
ranged s es run.none p f typed = record {
  names = record { objects = λ id class e. none_class class e; grids = λ id g e. none_grid g e; regions = λ r e. absurd (true_false (sym e)) };
  handed = λ i n a r e. absurd (none_arrival a e);
}
  where
    none_arrival : (a : rounds.Arrival) → ◌≡◌ {A = Option rounds.Arrival} None (Some a) → ⊥
    none_arrival a e = cc
ranged s all (run.more {es = es} {i = i} {e = e} w c z) p f typed =
    let h = history_of es in
    let k = ranged s es w p f typed in
    let all_told : IsAnswered s.program (e ∷ h) = subst (IsAnswered s.program) (history_grows es e) (run_answered s (es ++ e ∷ []) (run.more w c refl)) in
    subst Ranged (sym (ap history_of z ∙ history_grows es e))
    (more_ranged s.program h e k (subst IsCount (sym (taker s es i e c)) (few i s.procs c.within p))
    (small (things_made e.proc h) s.fuel (at_most_fuel s es w e.proc (λ e. is_making e.act) making_answered) f)
    (small (rounds_making e.proc h) s.fuel (at_most_fuel s es w e.proc (λ e. makes_region e.act) region_answered) f) (said s.program h e all_told)
    (λ kind arg d r a y. given_count k kind arg d r a y))
  where
    given_count : Ranged (history_of es) → (kind : CollKind) (arg : Option ℕ) (d : Deposit) (r : ℕ) → e.act ≡ act.Arrive kind arg d → value_in d ≡ Some (v.Region r) → IsCount r
    given_count k kind arg d r a y =
        let n : c.next ≡ next.Act e.place (act.Arrive kind arg d) = acts_as s es i c.next e c.entry (arrive_answered e (ap is_arrival a)) ∙ ap (next.Act e.place) a in
        let ty = typed es w in
        let x = next_handed s es ty i c.process e.place kind arg d c.within c.world (subst (λ x. IsNext c.process x) n c.is_next) in
        let u = subst (DepositFits (heap_typing_of i ty.fits.elements (history_of es)) x.0) (one_value d (v.Region r) y) x.1 in
        by (region_placed (heap_typing_of i ty.fits.elements (history_of es)) x.0 r u.0 u.1)
      where
        by : (r ≡ 0) ⊎ (is_made r (history_of es) ≡ true) → IsCount r
        by (inl z) = zero_count r z
        by (inr z) = k.names.regions r z

pub names_fit : (s : RunConfig) (es : List Entry) → IsRun s es → s.procs ≤ 32 → s.fuel ≤ 4000000 → ((ds : List Entry) → IsRun s ds → RunTyped s ds) → NamesFit (history_of es)
names_fit s es w p f typed = (ranged s es w p f typed).names
