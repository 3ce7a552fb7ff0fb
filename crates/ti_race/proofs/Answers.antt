-- A process receives the same results in two histories in which it has the same entries.
use Rattle.std.proofs.Common.{◌≡◌, ℕ, suc, ◌+◌, ◌≤◌, ◌==◌, nat_lt, Bool, true, false, ◌&&◌, not, cond, if◌then◌else◌, count_by, sum_by, Option, Some, None, List, ◌∷◌, ◌++◌, refl, ap, ap₂, sym, ◌∙◌, subst, arith}
use Rattle.std.specs.Option.{option_map, option_and_then, option_map_or}
use Rattle.ti_base.specs.declared.value.Id.{Id}
use Rattle.ti_base.specs.declared.value.Value.{Value}
use Rattle.ti_base.specs.declared.value.Value.TheVariants as v
use Rattle.ti_base.specs.declared.fault.FaultKind.{FaultKind}
use Rattle.ti_base.specs.declared.fault.FaultKind.TheVariants as fault
use Rattle.ti_base.specs.declared.action.CollKind.{CollKind}
use Rattle.ti_base.specs.declared.action.CollKind.TheVariants as coll
use Rattle.ti_base.specs.declared.action.Action.{Action}
use Rattle.ti_base.specs.declared.action.Action.TheVariants as act
use Rattle.ti_base.specs.declared.entry.Answer.{Answer}
use Rattle.ti_base.specs.declared.entry.Answer.TheVariants.{Done, Val}
use Rattle.ti_base.specs.declared.entry.Entry.{Entry}
use Rattle.ti_base.specs.Rects.{is_in}
use Rattle.ti_base.specs.Cells.{Cell, Field, Grid, cell_of, suits, view_fault}
use Rattle.ti_lang.specs.Program.Classes.{ProgramView}
use Rattle.ti_lang.specs.Meaning.Zeros.{zeros_of_class}
use Rattle.ti_base.specs.Forms.{is_dim}
use Rattle.ti_lang.specs.Meaning.Histories.{History, is_making, is_departure, entries_of, arrivals, departures}
use Rattle.ti_lang.specs.Meaning.RoundsOf.{Arrival, round_of, arrival_at, last_arrival, value_in, deposit_from, was_left, makes_region}
use Rattle.ti_lang.specs.Meaning.RegionsOf.{is_made, is_gone}
use Rattle.ti_lang.specs.Meaning.RegionUse.{is_in_use}
use Rattle.ti_lang.specs.Meaning.HeapOf.{grid_of_id, new_id, view_id, last_written, zero_of, cell_value, cost_of, cost_of_making, region_made_in, most_cells}
use Rattle.ti_lang.specs.Meaning.HeapAnswers.{Outcome, Answers, Faults, Impossible, where_some, possible_if, faults_if, answers_value, makes, places, at_point, views, leaves_delete, departs, heap_answer}
use Rattle.ti_align.proofs.Lemmas.{true_false, none_some, some_same}
use Rattle.ti_lang.specs.Meaning.Races.{cell_used}
use Rattle.ti_race.proofs.Courses.{Course, Moves, Alike, fronts, earlier, moved, all_come}
use Rattle.ti_race.proofs.Own.{GoesOn, arrival_on, arrival_like, arrivals_like, departures_like}
use Rattle.ti_race.proofs.Gone.{Leads, gone_same}
use Rattle.ti_race.proofs.Things.{grid_kept, zero_kept}
use Rattle.ti_race.proofs.Writes.{last_read}
use Rattle.ti_race.proofs.Free.{NoRace, lone, alone}

-- ---- outcomes

-- where the first is this answer and the second is possible, the second is this answer
abbrev pub Same : Answer → Outcome → Outcome → Type 0
Same r x y = x ≡ Answers r → (y ≡ Impossible → ⊥) → y ≡ Answers r

no_answer : (r : Answer) → Impossible ≡ Answers r → ⊥
no_answer r z = cc

no_fault : (k : FaultKind) (r : Answer) → Faults k ≡ Answers r → ⊥
no_fault k r z = cc

equal : (r : Answer) (x y : Outcome) → y ≡ x → Same r x y
equal r x y e z w = e ∙ z

possible_same : (r : Answer) (a b : Bool) (x y : Outcome) → Same r x y → Same r (possible_if a x) (possible_if b y)
possible_same r false b x y s z w = absurd (no_answer r z)
possible_same r true false x y s z w = absurd (w refl)
possible_same r true true x y s z w = s z w

faults_same : (r : Answer) (a b : Bool) (k : FaultKind) (x y : Outcome) → b ≡ a → Same r x y → Same r (faults_if a k x) (faults_if b k y)
faults_same r true b k x y e s z w = absurd (no_fault k r z)
faults_same r false true k x y e s z w = absurd (true_false e)
faults_same r false false k x y e s z w = s z w

some_both : {A : Type 0} (r : Answer) (o q : Option A) (f g : A → Outcome) → ((a b : A) → o ≡ Some a → q ≡ Some b → Same r (f a) (g b)) → Same r (where_some o f) (where_some q g)
some_both r None q f g s z w = absurd (no_answer r z)
some_both r (Some a) None f g s z w = absurd (w refl)
some_both r (Some a) (Some b) f g s z w = s a b refl refl z w

views_same : (r : Answer) (o : Option FaultKind) (x y : Outcome) → Same r x y → Same r (views o x) (views o y)
views_same r None x y s z w = s z w
views_same r (Some k) x y s z w = absurd (no_fault k r z)

pub some_zero : (o : Option Value) (w : Option Value) (x : Value) → option_map (λ zero. option_map_or (λ value. value) w zero) o ≡ Some x → (z : Value) × (o ≡ Some z)
some_zero None w x h = absurd (none_some x h)
some_zero (Some z) w x h = (z, refl)

some_given : (o : Option Arrival) (x : Value) → option_and_then (λ (a : Arrival). value_in a.deposit) o ≡ Some x → (a : Arrival) × (o ≡ Some a)
some_given None x h = absurd (none_some x h)
some_given (Some a) x h = (a, refl)

level : (a d : ℕ) → a ≡ d + 0 → a ≡ d
level a d h = omega arith

-- ---- one entry of the kept history, and the same process behind another history

module _ (p : ProgramView) (n : ℕ) (kept : History) (whole : Course p n kept) (like : Alike kept) (free : NoRace kept)
    (before : List Entry) (e : Entry) (k : History) (stands : kept ≡ before ++ e ∷ k)
    (h : History) (course : Course p n h) (on : (j : ℕ) → GoesOn j h kept) (on_k : (j : ℕ) → GoesOn j k kept) (same : entries_of e.proc h ≡ entries_of e.proc k) where
  abbrev i : ℕ
  i = e.proc

  from_here : Course p n (e ∷ k)
  from_here = fronts p n before (e ∷ k) (subst (Course p n) stands whole)

  at_k : Course p n k
  at_k = earlier p n e k from_here

  move : Moves p n k e
  move = moved p n e k from_here

  like_in : (g : History) → ((j : ℕ) → GoesOn j g kept) → Alike g
  like_in g go i j m a b x y = like i j m a b (arrival_on i (suc m) g kept a (go i) x) (arrival_on j (suc m) g kept b (go j) y)

  -- ---- where it doesn't leave a round

  module _ (staying : is_departure e.act ≡ false) where
    level_k : arrivals i k ≡ departures i k
    level_k = level _ _ (move.balance ∙ ap (λ b. departures i k + cond b 1 0) staying)

    level_h : arrivals i h ≡ departures i h
    level_h = arrivals_like i h k same ∙ level_k ∙ sym (departures_like i h k same)

    leads : (g : History) → Course p n g → arrivals i g ≡ departures i g → Leads n i g
    leads g c z j l = subst (λ a. departures j g ≤ a) z (all_come p n g c j i move.within)

    gone_like : (r : ℕ) → is_gone r h ≡ is_gone r k
    gone_like r = gone_same p n i h k move.within course at_k (like_in h on) (like_in k on_k) same (leads h course level_h) (leads k at_k level_k) r

    cost_like : cost_of p i h ≡ cost_of p i k
    cost_like =
        ap₂ (λ (gone : ℕ → Bool) (es : List Entry). sum_by (λ (x : Entry). if gone (region_made_in x.answer) then 0 else cost_of_making p x.act) es) (λ t r. gone_like r t) same

    makes_like : (r : Answer) (a : Action) (x y : Value) → y ≡ x → Same r (makes p k i a x) (makes p h i a y)
    makes_like r a x y z =
        faults_same r _ _ fault.HeapFull (Answers (Val x)) (Answers (Val y)) (ap (λ c. nat_lt most_cells (c + cost_of_making p a)) cost_like) (equal r _ _ (ap (λ u. Answers (Val u)) z))

    places_like : (r : Answer) (region : ℕ) (x y : Outcome) → Same r x y → Same r (places region k x) (places region h y)
    places_like r region x y s = possible_same r _ _ _ _ (faults_same r _ _ fault.RegionGone x y (gone_like region) s)

    new_like : (region : ℕ) → new_id i region h ≡ new_id i region k
    new_like region = ap (λ (es : List Entry). record { maker = i; serial = count_by (λ (x : Entry). is_making x.act) es; owner = i; region = region }) same

    view_like : (grid : Id) → view_id i grid h ≡ view_id i grid k
    view_like grid = ap (λ (es : List Entry). record { maker = i; serial = count_by (λ (x : Entry). is_making x.act) es; owner = grid.owner; region = grid.region }) same

    -- what is read
    value_like : (c : Cell) → cell_used e.act k ≡ Some c → (x y : Value) → cell_value p c k ≡ Some x → cell_value p c h ≡ Some y → cell_value p c h ≡ cell_value p c k
    value_like c u x y a b =
        let z = some_zero (zero_of p c k) (last_written c k) x a in
        let w = some_zero (zero_of p c h) (last_written c h) y b in
        let zeros : zero_of p c h ≡ zero_of p c k =
        w.1 ∙ sym (zero_kept p n kept whole h course on c w.0 w.1) ∙ zero_kept p n kept whole k at_k on_k c z.0 z.1 ∙ sym z.1 in
        let last : last_written c h ≡ last_written c k =
        last_read p n kept whole c (lone p n kept whole c free) i move.within h k course at_k on on_k same (departures i k)
        (departures_like i h k same) (level_h ∙ departures_like i h k same) refl level_k (alone p n kept whole c free before e k stands u) in
        ap₂ (λ (l o : Option Value). option_map (λ zero. option_map_or (λ value. value) l zero) o) last zeros

    read_like : (r : Answer) (c : Cell) → cell_used e.act k ≡ Some c → Same r (answers_value (cell_value p c k)) (answers_value (cell_value p c h))
    read_like r c u =
        some_both r (cell_value p c k) (cell_value p c h) (λ x. Answers (Val x)) (λ x. Answers (Val x))
        (λ x y a b. equal r _ _ (ap (λ u. Answers (Val u)) (some_same y x (sym b ∙ value_like c u x y a b ∙ a))))

  grid_like : (id : Id) (a b : Grid) → grid_of_id id k ≡ Some a → grid_of_id id h ≡ Some b → a ≡ b
  grid_like id a b x y = some_same a b (sym (grid_kept p n kept whole k at_k on_k id a x) ∙ grid_kept p n kept whole h course on id b y)

  -- what was given
  given_like : (r : Answer) (who : ℕ) → Same r (answers_value (deposit_from i who k)) (answers_value (deposit_from i who h))
  given_like r who =
      some_both r (deposit_from i who k) (deposit_from i who h) (λ x. Answers (Val x)) (λ x. Answers (Val x))
      (λ x y a b. equal r _ _ (ap (λ u. Answers (Val u)) (one x y a b)))
    where
      one : (x y : Value) → deposit_from i who k ≡ Some x → deposit_from i who h ≡ Some y → y ≡ x
      one x y a b =
          let u = some_given (arrival_at who (arrivals i k) k) x a in
          let w = some_given (arrival_at who (arrivals i h) h) y b in
          let z : arrival_at who (arrivals i k) h ≡ Some w.0 = ap (λ m. arrival_at who m h) (sym (arrivals_like i h k same)) ∙ w.1 in
          let arrival : w.0 ≡ u.0 =
          some_same w.0 u.0 (sym (arrival_on who (arrivals i k) h kept w.0 (on who) z) ∙ arrival_on who (arrivals i k) k kept u.0 (on_k who) u.1) in
          some_same y x (sym b ∙ ap (option_and_then (λ (q : Arrival). value_in q.deposit)) w.1
          ∙ ap (λ (q : Arrival). value_in q.deposit) arrival ∙ sym (ap (option_and_then (λ (q : Arrival). value_in q.deposit)) u.1)
          ∙ a)

  last_like : last_arrival i h ≡ last_arrival i k
  last_like = arrival_like i (arrivals i h) h k same ∙ ap (λ m. arrival_at i m k) (arrivals_like i h k same)

  -- ---- the answer, where the first to leave a delete finds that the region isn't in use

  abbrev pub DeletesFree : Type 0
  DeletesFree = (r : ℕ) (a : Arrival) → e.act ≡ act.Depart → last_arrival i k ≡ Some a → a.kind ≡ coll.DeleteRegion → a.arg ≡ Some r
      → (not (was_left (round_of i h) h) && is_in_use p r (round_of i h) h) ≡ false

  module _ (deletes : DeletesFree) where
    leaves_like : (x : Answer) (arg : Option ℕ) (a : Arrival) → e.act ≡ act.Depart → last_arrival i k ≡ Some a → a.kind ≡ coll.DeleteRegion
        → a.arg ≡ arg → Same x (leaves_delete p k (round_of i k) arg) (leaves_delete p h (round_of i h) arg)
    leaves_like x None a d l kind z q w = absurd (no_answer x q)
    leaves_like x (Some r) a d l kind z q w = ap (λ b. faults_if b fault.RegionInUse (Answers Done)) (deletes r a d l kind z)
        ∙ done (not (was_left (round_of i k) k) && is_in_use p r (round_of i k) k) q
      where
        done : (b : Bool) → faults_if b fault.RegionInUse (Answers Done) ≡ Answers x → Answers Done ≡ Answers x
        done true z = absurd (no_fault _ x z)
        done false z = z

    departs_like : (x : Answer) (kind : CollKind) (a : Arrival) → e.act ≡ act.Depart → last_arrival i k ≡ Some a → a.kind ≡ kind → Same x (departs p k i kind a.arg) (departs p h i kind a.arg)
    departs_like x coll.Barrier a d l z = equal x _ _ refl
    departs_like x coll.Exchange a d l z = equal x _ _ refl
    departs_like x coll.Broadcast a d l z = some_both x a.arg a.arg _ _
        (λ root other y w. subst (λ m. Same x (answers_value (deposit_from i root k)) (answers_value (deposit_from i m h)))
        (some_same root other (sym y ∙ w)) (given_like x root))
    departs_like x coll.MakeRegion a d l z = equal x _ _ (ap (λ (es : List Entry). Answers (Val (v.Region (count_by (λ (y : Entry). makes_region y.act) es)))) same)
    departs_like x coll.DeleteRegion a d l z = leaves_like x a.arg a d l z refl

    answer_with : (x : Answer) (a : Action) → e.act ≡ a → Same x (heap_answer p k i a) (heap_answer p h i a)
    answer_with x (act.GetField o f) z = read_like (ap is_departure z) x (Field o f) (ap (λ a. cell_used a k) z)
    answer_with x (act.PutField o f value) z = some_both x _ _ (λ old. Answers Done) (λ old. Answers Done) (λ a b y w. equal x _ _ refl)
    answer_with x (act.NewObj class region) z =
        let s = ap is_departure z in
        some_both x (zeros_of_class p class) (zeros_of_class p class) _ _ (λ a b y w.
        places_like s x region _ _ (makes_like s x (act.NewObj class region) _ _ (ap (λ (id : Id). v.Obj (Some id)) (new_like s region))))
    answer_with x (act.NewGrid zero d region) z =
        let s = ap is_departure z in
        possible_same x (is_dim d.dim) (is_dim d.dim) _ _
        (places_like s x region _ _ (makes_like s x (act.NewGrid zero d region) _ _ (ap (λ (id : Id). v.Grid (Some id)) (new_like s region))))
    answer_with x (act.GetElem grid at) z =
        let s = ap is_departure z in
        some_both x (grid_of_id grid k) (grid_of_id grid h) _ _ (λ a b y w.
        let one : a ≡ b = grid_like grid a b y w in
        let used : cell_used e.act k ≡ Some (cell_of a at) = ap (λ q. cell_used q k) z ∙ ap (option_map (λ (g : Grid). cell_of g at)) y in
        subst (λ (g : Grid). Same x (at_point a at (answers_value (cell_value p (cell_of a at) k))) (at_point g at (answers_value (cell_value p (cell_of g at) h)))) one
        (possible_same x (at.dim == a.domain.dim) (at.dim == a.domain.dim) _ _
        (faults_same x (not (is_in a.domain at)) (not (is_in a.domain at)) fault.Bounds _ _ refl
        (read_like s x (cell_of a at) used))))
    answer_with x (act.PutElem grid at value) z =
        some_both x (grid_of_id grid k) (grid_of_id grid h) _ _ (λ a b y w. equal x _ _ (ap (λ (g : Grid). at_point g at (Answers Done)) (sym (grid_like grid a b y w))))
    answer_with x (act.MakeView grid how) z =
        let s = ap is_departure z in
        some_both x (grid_of_id grid k) (grid_of_id grid h) _ _ (λ a b y w.
        subst (λ (g : Grid). Same x (possible_if (suits how a.domain) (views (view_fault how a.domain) (makes p k i (act.MakeView grid how) (v.Grid (Some (view_id i grid k))))))
        (possible_if (suits how g.domain) (views (view_fault how g.domain) (makes p h i (act.MakeView grid how) (v.Grid (Some (view_id i grid h))))))) (grid_like grid a b y w)
        (possible_same x (suits how a.domain) (suits how a.domain) _ _
        (views_same x (view_fault how a.domain) _ _ (makes_like s x (act.MakeView grid how) _ _
        (ap (λ (id : Id). v.Grid (Some id)) (view_like s grid))))))
    answer_with x (act.DomainOf grid) z =
        some_both x (grid_of_id grid k) (grid_of_id grid h) _ _ (λ a b y w. equal x _ _ (ap (λ (g : Grid). Answers (Val (v.Rc g.domain))) (sym (grid_like grid a b y w))))
    answer_with x (act.Arrive coll.DeleteRegion arg d) z =
        let s = ap is_departure z in
        some_both x arg arg _ _ (λ r q y w. subst (λ m. Same x (possible_if (is_made r k)
        (faults_if (is_gone r k) fault.RegionGone (Answers Done)))
        (possible_if (is_made m h) (faults_if (is_gone m h) fault.RegionGone (Answers Done)))) (some_same r q (sym y ∙ w))
        (possible_same x (is_made r k) (is_made r h) _ _ (faults_same x (is_gone r k) (is_gone r h) fault.RegionGone _ _ (gone_like s r) (equal x _ _ refl))))
    answer_with x act.Depart z =
        some_both x (last_arrival i k) (last_arrival i h) _ _ (λ a b y w.
        subst (λ (q : Arrival). Same x (departs p k i a.kind a.arg) (departs p h i q.kind q.arg)) (some_same a b (sym y ∙ sym last_like ∙ w)) (departs_like x a.kind a z y refl))
    answer_with x (act.Take who) z = given_like x who
    answer_with x _ z = equal x _ _ refl

    -- the process is answered the same
    pub same_answer : (heap_answer p h e.proc e.act ≡ Impossible → ⊥) → heap_answer p h e.proc e.act ≡ Answers e.answer
    same_answer possible = answer_with e.answer e.act refl move.said possible
