-- The state of a process after its answers, and what it does next, computed by a program that is proved right.
use Rattle.std.proofs.Common.{◌≡◌, ℕ, zero, suc, Option, Some, None, List, [], ◌∷◌, ◌++◌, refl, ◌∙◌, ap, subst, option_and_then, arith}
use Rattle.ti_base.specs.declared.place.Place.{Place}
use Rattle.ti_base.specs.declared.action.Action.TheVariants as act
use Rattle.ti_base.specs.declared.action.CollKind.{CollKind}
use Rattle.ti_base.specs.declared.action.Deposit.{Deposit}
use Rattle.ti_base.specs.declared.entry.Answer.{Answer}
use Rattle.ti_base.specs.declared.entry.Entry.{Entry}
use Rattle.ti_base.specs.declared.entry.Next.{Next}
use Rattle.ti_base.specs.declared.entry.Next.TheVariants as next
use Rattle.ti_lang.specs.Program.Classes.{ProgramView}
use Rattle.ti_lang.specs.Meaning.Comp.{Request}
use Rattle.ti_lang.specs.Meaning.Processes.{RunConfig, Process, begin}
use Rattle.ti_lang.specs.Meaning.Steps.{Step, To, At, Ends, Faults, step}
use Rattle.ti_lang.specs.Meaning.NextStep.{Reaches, here, later, step_label, RunsTo, IsNext, After, none, more}
use Rattle.ti_lang.specs.Meaning.Histories.{arrivals, answers_of}
use Rattle.ti_lang.specs.Meaning.Runs.{ProcAfter, CanTake, IsReady}
use Rattle.ti_lang.proofs.Lemmas.{settled_same, settles_at, next_same, after_same, solo_run}
use Rattle.ti_lang.specs.Program.Types.{ValueType}
use Rattle.ti_align.specs.SinglePart.{single_part}
use Rattle.ti_align.specs.Given.{contribution_by}
use Rattle.ti_align.specs.Typed.{GivesAt}
use Rattle.ti_align.specs.Alignment.{ArrivesAt}
use Rattle.ti_rows.specs.Simulation.{settle_by, settle, most_silent, solo}
use Rattle.ti_rows.specs.Failing.{by_two, FailsFor}
use Rattle.ti_rows.proofs.Simulated as simulated

-- ---- silent steps

-- the process behind so many silent steps at most
abbrev stop_by : (Process → Process) → Process → Step → Process
stop_by go p (To q) = go q
stop_by go p s = p

abbrev stop : ℕ → Process → Process
stop zero p = p
stop (suc n) p = stop_by (stop n) p (step p)

stopped_by : (n : ℕ) (p : Process) → ((q : Process) → Reaches q (stop n q) × (step (stop n q) ≡ settle n q)) → (t : Step) → step p ≡ t
    → Reaches p (stop_by (stop n) p t) × (step (stop_by (stop n) p t) ≡ settle_by (settle n) t)
stopped_by n p go (To q) e = (later e (go q).0, (go q).1)
stopped_by n p go (At request next) e = (here, e)
stopped_by n p go (Ends at) e = (here, e)
stopped_by n p go (Faults kind at) e = (here, e)

stopped : (n : ℕ) (p : Process) → Reaches p (stop n p) × (step (stop n p) ≡ settle n p)
stopped zero p = (here, refl)
stopped (suc n) p = stopped_by n p (stopped n) (step p) refl

-- where it stops
abbrev pub rest_of : Process → Process
rest_of p = stop most_silent p

-- ---- answers

-- the process behind an action that is answered so
abbrev behind_by : (Process → Option Process) → Answer → Step → Option Process
behind_by go r (To p) = None
behind_by go r (At request next) = go (next r)
behind_by go r (Ends place) = None
behind_by go r (Faults kind place) = None

-- the process after these answers
abbrev pub behind : List Answer → Process → Option Process
behind [] p = Some p
behind (r ∷ rs) p = behind_by (behind rs) r (settle most_silent p)

some_same : (p q : Process) → Some p ≡ Some q → p ≡ q
some_same p q e = cc

none_some : (q : Process) → ◌≡◌ {A = Option Process} None (Some q) → ⊥
none_some q e = cc

reached_by : (r : Answer) (rs : List Answer) (p q : Process) → ((z : Process) → behind rs z ≡ Some q → After z rs q) → (t : Step) → settle most_silent p ≡ t
    → behind_by (behind rs) r t ≡ Some q → After p (r ∷ rs) q
reached_by r rs p q go (To z) e h = absurd (none_some q h)
reached_by r rs p q go (At request next) e h =
    let w = stopped most_silent p in
    more w.0 (w.1 ∙ e) (go (next r) h)
reached_by r rs p q go (Ends place) e h = absurd (none_some q h)
reached_by r rs p q go (Faults kind place) e h = absurd (none_some q h)

pub reached : (rs : List Answer) (p q : Process) → behind rs p ≡ Some q → After p rs q
reached [] p q h = subst (After p []) (some_same p q h) none
reached (r ∷ rs) p q h = reached_by r rs p q (λ z k. reached rs z q k) (settle most_silent p) refl h

-- ---- the world after entries

-- a process after these entries
abbrev pub process_after : RunConfig → List Entry → ℕ → Option Process
process_after s es i = behind (answers_of i es) (begin s i)

pub world : (s : RunConfig) (es : List Entry) (i : ℕ) (p : Process) → process_after s es i ≡ Some p → ProcAfter s es i p
world s es i p h = reached (answers_of i es) (begin s i) p h

-- what it has next
abbrev pub next_of : Process → Option Next
next_of p = step_label (settle most_silent p)

pub settles : (p : Process) (n : Next) → next_of p ≡ Some n → RunsTo p (rest_of p) n
settles p n h = let w = stopped most_silent p in record { reaches = w.0; stands = ap step_label w.1 ∙ h }

-- what the process has next after these entries
abbrev pub next_after : RunConfig → List Entry → ℕ → Option Next
next_after s es i = option_and_then next_of (process_after s es i)

-- a process after these entries that has this next
pub record HasNext (s : RunConfig) (es : List Entry) (i : ℕ) (n : Next) : Type 0 where
  pub process : Process
  pub world : ProcAfter s es i process
  pub next : IsNext process n

no_next : (n : Next) → ◌≡◌ {A = Option Next} None (Some n) → ⊥
no_next n e = cc

pub has_next : (s : RunConfig) (es : List Entry) (i : ℕ) (n : Next) → next_after s es i ≡ Some n → HasNext s es i n
has_next s es i n h = by (process_after s es i) refl h
  where
    by : (o : Option Process) → process_after s es i ≡ o → option_and_then next_of o ≡ Some n → HasNext s es i n
    by None e h = absurd (no_next n h)
    by (Some p) e h = record { process = p; world = world s es i p e; next = (rest_of p, settles p n h) }

-- ---- requests

-- what a step asks for
abbrev asked_by : Step → Option Request
asked_by (To p) = None
asked_by (At request go) = Some request
asked_by (Ends place) = None
asked_by (Faults kind place) = None

-- what a process asks for after these entries
abbrev pub request_after : RunConfig → List Entry → ℕ → Option Request
request_after s es i = option_and_then (λ p. asked_by (settle most_silent p)) (process_after s es i)

-- a process after these entries that asks for this
pub record HasAsked (s : RunConfig) (es : List Entry) (i : ℕ) (request : Request) : Type 0 where
  pub process : Process
  pub world : ProcAfter s es i process
  pub settled : Process
  pub reaches : Reaches process settled
  pub go : Answer → Process
  pub stands : step settled ≡ At request go

no_request : (q : Request) → ◌≡◌ {A = Option Request} None (Some q) → ⊥
no_request q e = cc

one_request : (q r : Request) → Some q ≡ Some r → q ≡ r
one_request q r e = cc

pub has_asked : (s : RunConfig) (es : List Entry) (i : ℕ) (request : Request) → request_after s es i ≡ Some request → HasAsked s es i request
has_asked s es i request h = by (process_after s es i) refl h
  where
    by_step : (p : Process) → ProcAfter s es i p → (t : Step) → settle most_silent p ≡ t → asked_by t ≡ Some request → HasAsked s es i request
    by_step p w (To q) e h = absurd (no_request request h)
    by_step p w (At q go) e h =
        let rest = stopped most_silent p in
        record { process = p; world = w; settled = rest_of p; reaches = rest.0; go = go; stands = rest.1 ∙ e ∙ ap (λ r. At r go) (one_request q request h) }
    by_step p w (Ends place) e h = absurd (no_request request h)
    by_step p w (Faults kind place) e h = absurd (no_request request h)

    by : (o : Option Process) → process_after s es i ≡ o → option_and_then (λ p. asked_by (settle most_silent p)) o ≡ Some request → HasAsked s es i request
    by None e h = absurd (no_request request h)
    by (Some p) e h = by_step p (world s es i p e) (settle most_silent p) refl h

same_request : (t : Step) (q r : Request) (g h : Answer → Process) → t ≡ At q g → t ≡ At r h → q ≡ r
same_request t q r g h x y = cc

-- a process asks for one thing next
pub asks_once : (p a b : Process) (q r : Request) (g h : Answer → Process) → Reaches p a → step a ≡ At q g → Reaches p b → step b ≡ At r h → q ≡ r
asks_once p a b q r g h x e y f =
    let same = settled_same p a b _ _ (settles_at p a q g x e) (settles_at p b r h y f) in
    same_request (step a) q r g h e (ap step same ∙ f)

-- ---- arrivals

-- the process arrives here behind the entries before
pub arrives : (s : RunConfig) (es before rest : List Entry) (i k : ℕ) (p : Process) (at : Place) (kind : CollKind) (arg : Option ℕ) (given : Deposit) (r : Answer)
    → es ≡ before ++ record { proc = i; place = at; act = act.Arrive kind arg given; answer = r } ∷ rest → arrivals i before ≡ k → process_after s before i ≡ Some p
    → next_of p ≡ Some (next.Act at (act.Arrive kind arg given)) → ArrivesAt s es i k (record { place = at; kind = kind; arg = arg; single = single_part (rest_of p) })
arrives s es before rest i k p at kind arg given r e n w h = record {
  before = before;
  rest = rest;
  deposit = given;
  answer = r;
  split = e;
  count = n;
  process = p;
  world = world s before i p w;
  settled = rest_of p;
  settles = settles p _ h;
  single = refl;
}

-- the same of an arrival at which values of a type are handed in
pub gives : (s : RunConfig) (es before rest : List Entry) (i k : ℕ) (p : Process) (at : Place) (kind : CollKind) (arg : Option ℕ) (given : Deposit) (r : Answer) (type : ValueType)
    → es ≡ before ++ record { proc = i; place = at; act = act.Arrive kind arg given; answer = r } ∷ rest → arrivals i before ≡ k → process_after s before i ≡ Some p
    → next_of p ≡ Some (next.Act at (act.Arrive kind arg given)) → contribution_by (rest_of p) ≡ Some type → GivesAt s es i k type
unfolding arrives
gives s es before rest i k p at kind arg given r type e n w h g = record { arrival = _; arrives = arrives s es before rest i k p at kind arg given r e n w h; gives = g }

-- ---- runs

-- a fact that is false of some entries of the run of the lowest-numbered process is no fact of every run
pub fails : (fact : RunConfig → List Entry → Type 0) (p : ProgramView) (turns : ℕ) → (fact (by_two 1000 p) (solo (by_two 1000 p) turns) → ⊥) → FailsFor fact p
fails fact p turns against h =
    against (h 2 1000 (solo (by_two 1000 p) turns) (omega arith) (omega arith) (omega arith) (omega arith) (solo_run (by_two 1000 p) _ (simulated.solo_run (by_two 1000 p) turns)))

-- a process can take no entry while it waits for another
pub can_take_next : (s : RunConfig) (es : List Entry) (i : ℕ) (n : Next) (e : Entry) → HasNext s es i n → CanTake s es i e → IsReady s es i n
can_take_next s es i n e w c =
    let same : c.process ≡ w.process = after_same _ _ _ _ c.world w.world in
    let one : c.next ≡ n = next_same w.process _ _ (subst (λ p. IsNext p c.next) same c.is_next) w.next in
    subst (IsReady s es i) one c.ready
