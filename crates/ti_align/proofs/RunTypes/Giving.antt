-- At arrivals of one number all processes hand in values of one type.
use Rattle.std.proofs.Common.{◌≡◌, ℕ, Option, Some, List, [], ◌∷◌, ◌++◌, refl, ap, sym, ◌∙◌}
use Rattle.ti_base.specs.declared.action.Action.TheVariants as act
use Rattle.ti_base.specs.declared.action.CollKind.{CollKind}
use Rattle.ti_base.specs.declared.action.Deposit.{Deposit}
use Rattle.ti_base.specs.declared.entry.Entry.{Entry}
use Rattle.ti_lang.specs.Program.Types.{ValueType}
use Rattle.ti_lang.specs.Program.Classes.{NumberedMethod, ProgramView}
use Rattle.ti_lang.specs.Program.Scope.{ScopeContents, method_scope}
use Rattle.ti_lang.specs.Meaning.Processes.{RunConfig, ContItem, Do, End, Before, Behind, Receive, CopyAll, TakeAll, Frame, Process}
use Rattle.ti_lang.specs.Meaning.Histories.{arrivals}
use Rattle.ti_lang.specs.Meaning.Runs.{CanTake, IsRun}
use Rattle.ti_align.specs.SinglePart.{single_part}
use Rattle.ti_align.specs.Given.{scope_inside, scope_over, contribution_type, first_contribution, contribution_in, contribution_by}
use Rattle.ti_align.specs.Typed.{GivesAt}
use Rattle.ti_align.proofs.Alignment.Slice.{jump_at, kept, frame_part, frame_parts, State, slice}
use Rattle.ti_align.proofs.Runs.Vars.{if_true}
use Rattle.ti_align.proofs.Alignment.Fine.{Deep, OkWorks, kept_on}
use Rattle.ti_align.proofs.Alignment.Jumping.{through}
use Rattle.ti_align.proofs.Alignment.Fitting.{FineMethods}
use Rattle.ti_align.proofs.Alignment.Stepping.{Leads, FirstActs, Acts, OkFrames}
use Rattle.ti_align.proofs.Alignment.Passing.{AtArrival, BothArrive}
use Rattle.ti_align.proofs.Alignment.Aligning.{both_arrive}
use Rattle.ti_align.proofs.Alignment.Rounds.{extended, arrives_now, same_departures}

-- ---- what the slice tells

-- before work with effects the slice has all loops that are around, and so the same variables in scope
scope_kept : (p : ProgramView) (m : NumberedMethod) (s : ScopeContents) (ws : List ContItem) → OkWorks p m ws → Deep (jump_at p m ws) → scope_over p s (kept p m ws) ≡ scope_over p s ws
scope_kept p m s [] o d = refl
scope_kept p m s (Do x ∷ ws) o d = through p m (scope_over p s) (scope_over p s ws) (Do x) ws refl (scope_kept p m s ws o.2 d)
scope_kept p m s (End x ∷ ws) o d = through p m (scope_over p s) (scope_over p s ws) (End x) ws refl (scope_kept p m s ws o.2 d)
scope_kept p m s (Before loop ∷ ws) o d = through p m (scope_over p s) (scope_over p s ws) (Before loop) ws refl (scope_kept p m s ws o.2 d)
scope_kept p m s (Behind loop ∷ ws) o d = ap (scope_over p s) (kept_on p m (Behind loop) ws d) ∙ ap (λ z. scope_inside p z loop) (scope_kept p m s ws o.2 (o.1 d))
scope_kept p m s (Receive receiver held ∷ ws) o d = through p m (scope_over p s) (scope_over p s ws) (Receive receiver held) ws refl (scope_kept p m s ws o.2 d)
scope_kept p m s (CopyAll at to from points ∷ ws) o d = through p m (scope_over p s) (scope_over p s ws) (CopyAll at to from points) ws refl (scope_kept p m s ws o.2 d)
scope_kept p m s (TakeAll at grid procs ∷ ws) o d = through p m (scope_over p s) (scope_over p s ws) (TakeAll at grid procs) ws refl (scope_kept p m s ws o.2 d)

given_kept : (p : ProgramView) (f : Frame) (ws : List ContItem) → OkWorks p f.method ws → FirstActs p f.method ws → first_contribution p (frame_part p f) (kept p f.method ws) ≡ first_contribution p f ws
given_kept p f [] o a = refl
given_kept p f (w ∷ ws) o a = ap (first_contribution p (frame_part p f)) (kept_on p f.method w ws a) ∙ ap (λ s. contribution_type p s w) (scope_kept p f.method (method_scope f.method) ws o.2 (o.1 a))

given_parts : (p : ProgramView) (fs : List Frame) → OkFrames p fs → Leads p fs → Acts p fs → contribution_in p (frame_parts p fs) ≡ contribution_in p fs
given_parts p [] o l a = refl
given_parts p (f ∷ fs) o l a = ap (contribution_in p) (if_true f.method.is_single _ _ l.0) ∙ given_kept p f f.left o.0 a

-- what is handed in at an arrival is told by the slice
given_slice : (n : RunConfig) (q : Process) → AtArrival n q → contribution_in n.program (slice q).frames ≡ contribution_by q
given_slice n q a =
    ap (λ (z : RunConfig). contribution_in n.program (frame_parts z.program q.frames)) a.ok.0 ∙ given_parts n.program q.frames a.ok.1 a.leads a.acts
    ∙ ap (λ (z : RunConfig). contribution_in z.program q.frames) (sym a.ok.0)

given_both : (n : RunConfig) (p q : Process) → BothArrive n p q → contribution_by p ≡ contribution_by q
given_both n p q b = sym (given_slice n p b.first) ∙ ap (λ (s : State). contribution_in n.program s.frames) b.same ∙ given_slice n q b.second

-- ---- in a run

some_same : (o u : Option ValueType) (a b : ValueType) → o ≡ u → o ≡ Some a → u ≡ Some b → a ≡ b
some_same o u a b e x y = cc

-- the kth arrivals of two processes hand in values of one type
pub given_same : (s : RunConfig) → FineMethods s.program s.program.methods → (es : List Entry) → IsRun s es → (i j k : ℕ) (a b : ValueType) → GivesAt s es i k a → GivesAt s es j k b → a ≡ b
given_same s fine es w i j k a b x y =
    let both = both_arrive s fine es w (same_departures s fine es w) i j k x.arrival y.arrival x.arrives y.arrives in
    some_same (contribution_by x.arrives.settled) (contribution_by y.arrives.settled) a b (given_both s x.arrives.settled y.arrives.settled both) x.gives y.gives

-- it stays so as the run goes on
pub gives_more : (s : RunConfig) (es all : List Entry) (e : Entry) (i k : ℕ) (a : ValueType) → all ≡ es ++ e ∷ [] → GivesAt s es i k a → GivesAt s all i k a
unfolding extended
gives_more s es all e i k a z g = record { arrival = g.arrival; arrives = extended s es all e i k g.arrival z g.arrives; gives = g.gives }

-- a new arrival
pub gives_now : (s : RunConfig) (es all : List Entry) (e : Entry) (i : ℕ) (kind : CollKind) (arg : Option ℕ) (given : Deposit)
    (type : ValueType) (t : CanTake s es i e) → all ≡ es ++ e ∷ [] → e.act ≡ act.Arrive kind arg given
    → contribution_by t.is_next.0 ≡ Some type → GivesAt s all i (arrivals i es) type
unfolding arrives_now
gives_now s es all e i kind arg given type t z is g = record {
  arrival = record { place = e.place; kind = kind; arg = arg; single = single_part t.is_next.0 };
  arrives = arrives_now s es all e i (arrivals i es) kind arg given t z is refl;
  gives = g;
}
