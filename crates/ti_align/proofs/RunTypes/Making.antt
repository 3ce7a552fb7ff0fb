-- A new grid of a run is one of the run before its last entry, or the last entry made it.
use Rattle.std.proofs.Common.{◌≡◌, ◌⊎◌, ℕ, inl, inr, Bool, Some, List, [], ◌∷◌, ◌++◌, refl, ap, sym, ◌∙◌, subst}
use Rattle.ti_base.specs.declared.point.Rect.{Rect}
use Rattle.ti_base.specs.declared.value.Id.{Id}
use Rattle.ti_base.specs.declared.value.Zero.{Zero}
use Rattle.ti_base.specs.declared.value.Value.TheVariants as v
use Rattle.ti_base.specs.declared.action.Action.TheVariants as act
use Rattle.ti_base.specs.declared.entry.Answer.{Answer}
use Rattle.ti_base.specs.declared.entry.Answer.TheVariants.{Val}
use Rattle.ti_base.specs.declared.entry.Entry.{Entry}
use Rattle.ti_base.specs.declared.entry.Next.TheVariants as next
use Rattle.ti_lang.specs.Program.Types.{ValueType}
use Rattle.ti_lang.specs.Program.Types as t
use Rattle.ti_lang.specs.Meaning.Comp.{NewThing, Request}
use Rattle.ti_lang.specs.Meaning.Processes.{RunConfig, Process}
use Rattle.ti_lang.specs.Meaning.Steps.{Step, At, step}
use Rattle.ti_lang.specs.Meaning.NextStep.{RunsTo}
use Rattle.ti_lang.specs.Meaning.Runs.{ProcAfter, CanTake}
use Rattle.ti_lang.proofs.Lemmas.{settled_same, settles_at, world_same}
use Rattle.ti_align.specs.Owners.{MadeWith}
use Rattle.ti_align.specs.Heap.{Elements, elements_behind}
use Rattle.ti_align.proofs.Runs.Vars.{if_true}
use Rattle.ti_align.proofs.RunTypes.Heaping.{same_self}

-- the entry made the grid, and its process stands where it asks for one of such elements
pub record MadeNow (q : Process) (e : Entry) (grid : Id) (element : ValueType) : Type 0 where
  pub zero : Zero
  pub domain : Rect
  pub region : ℕ
  pub acts : e.act ≡ act.NewGrid zero domain region
  pub answers : e.answer ≡ Val (v.Grid (Some grid))
  pub request : Request
  pub go : Answer → Process
  pub stands : step q ≡ At request go
  pub dim : ℕ
  pub here : Bool
  pub wants : request.wanted ≡ NewThing (t.Grid element dim here)

-- an entry is the last one, or stands before it
pub last_or_before : (before rest es : List Entry) (x e : Entry) → es ++ e ∷ [] ≡ before ++ x ∷ rest → ((before ≡ es) × (x ≡ e)) ⊎ ((more : List Entry) × (es ≡ before ++ x ∷ more))
last_or_before [] rest [] x e z = inl (refl, cc)
last_or_before [] rest (d ∷ ds) x e z = inr (ds, ap (λ y. y ∷ ds) (heads d x (ds ++ e ∷ []) rest z))
  where
    heads : (d x : Entry) (ds xs : List Entry) → d ∷ ds ≡ x ∷ xs → d ≡ x
    heads d x ds xs z = cc
last_or_before (b ∷ bs) rest [] x e z = absurd (never bs z)
  where
    never : (bs : List Entry) → e ∷ [] ≡ b ∷ (bs ++ x ∷ rest) → ⊥
    never [] z = cc
    never (c ∷ cs) z = cc
last_or_before (b ∷ bs) rest (d ∷ ds) x e z = by (last_or_before bs rest ds x e (tails d b (ds ++ e ∷ []) (bs ++ x ∷ rest) z))
  where
    heads : (d b : Entry) (ds xs : List Entry) → d ∷ ds ≡ b ∷ xs → d ≡ b
    heads d b ds xs z = cc

    tails : (d b : Entry) (ds xs : List Entry) → d ∷ ds ≡ b ∷ xs → ds ≡ xs
    tails d b ds xs z = cc

    first : d ≡ b
    first = heads d b (ds ++ e ∷ []) (bs ++ x ∷ rest) z

    by : ((bs ≡ ds) × (x ≡ e)) ⊎ ((more : List Entry) × (ds ≡ bs ++ x ∷ more)) → ((b ∷ bs ≡ d ∷ ds) × (x ≡ e)) ⊎ ((more : List Entry) × (d ∷ ds ≡ b ∷ (bs ++ x ∷ more)))
    by (inl k) = inl (ap (λ y. y ∷ bs) (sym first) ∙ ap (λ ys. d ∷ ys) k.0, k.1)
    by (inr k) = inr (k.0, ap (λ y. y ∷ ds) first ∙ ap (λ ys. b ∷ ys) k.1)

pub made_cases : (s : RunConfig) (es : List Entry) (e : Entry) (c : CanTake s es e.proc e) (grid : Id) (element : ValueType)
    → MadeWith s (es ++ e ∷ []) grid element → MadeWith s es grid element ⊎ MadeNow c.is_next.0 e grid element
made_cases s es e c grid element m = by (last_or_before m.before m.rest es made e m.split)
  where
    made : Entry
    made = record { proc = m.number; place = m.place; act = act.NewGrid m.zero m.domain m.region; answer = Val (v.Grid (Some grid)) }

    request : Request
    request = record { place = m.place; action = act.NewGrid m.zero m.domain m.region; through = m.through; wanted = NewThing (t.Grid element m.dim m.here) }

    by : ((m.before ≡ es) × (made ≡ e)) ⊎ ((more : List Entry) × (es ≡ m.before ++ made ∷ more)) → MadeWith s es grid element ⊎ MadeNow c.is_next.0 e grid element
    by (inr k) = inl (record {
      before = m.before;
      rest = k.0;
      number = m.number;
      place = m.place;
      zero = m.zero;
      domain = m.domain;
      region = m.region;
      split = k.1;
      process = m.process;
      world = m.world;
      settled = m.settled;
      reaches = m.reaches;
      through = m.through;
      dim = m.dim;
      here = m.here;
      go = m.go;
      stands = m.stands;
    })
    by (inl k) =
        let here_too : ProcAfter s es e.proc m.process = subst (λ n. ProcAfter s es n m.process) (ap (λ (x : Entry). x.proc) k.1) (subst (λ ds. ProcAfter s ds m.number m.process) k.0 m.world) in
        let same : m.process ≡ c.process = world_same s es e.proc m.process c.process here_too c.world in
        let settles : RunsTo c.process m.settled (next.Act request.place request.action) =
        subst (λ p. RunsTo p m.settled (next.Act request.place request.action)) same
        (settles_at m.process m.settled request m.go m.reaches m.stands) in
        let there : m.settled ≡ c.is_next.0 = settled_same c.process m.settled c.is_next.0 _ _ settles c.is_next.1 in
        inr (record {
          zero = m.zero;
          domain = m.domain;
          region = m.region;
          acts = ap (λ (x : Entry). x.act) (sym k.1);
          answers = ap (λ (x : Entry). x.answer) (sym k.1);
          request = request;
          go = m.go;
          stands = subst (λ q. step q ≡ At request m.go) there m.stands;
          dim = m.dim;
          here = m.here;
          wants = refl;
        })

same_wanted : (s : Step) (a b : Request) (g h : Answer → Process) → s ≡ At a g → s ≡ At b h → b.wanted ≡ a.wanted
same_wanted s a b g h x y = ap (λ (r : Request). r.wanted) (same a b g h (sym y ∙ x))
  where
    same : (a b : Request) (g h : Answer → Process) → At b h ≡ At a g → b ≡ a
    same a b g h z = cc

-- then its elements are of this type behind the entry
pub made_elements : (elements : Elements) (q : Process) (e : Entry) (grid : Id) (element : ValueType) (asked : Request) (go : Answer → Process) → step q ≡ At asked go → MadeNow q e grid element
    → elements_behind elements e.act asked.wanted e.answer grid ≡ Some element
made_elements elements q e grid element asked go z m =
    ap (λ a. elements_behind elements a asked.wanted e.answer grid) m.acts
    ∙ ap (λ w. elements_behind elements (act.NewGrid m.zero m.domain m.region) w e.answer grid) (same_wanted (step q) m.request asked m.go go m.stands z ∙ m.wants)
    ∙ ap (λ r. elements_behind elements (act.NewGrid m.zero m.domain m.region) (NewThing (t.Grid element m.dim m.here)) r grid) m.answers
    ∙ if_true _ (Some element) (elements grid) (same_self grid)
