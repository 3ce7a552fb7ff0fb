-- The laws of every run of a checked program.
use Rattle.std.proofs.Common.{◌≡◌, ◌<◌, ℕ, false, List, subst}
use Rattle.ti_lang.specs.Program.Classes.{ProgramView}
use Rattle.ti_base.specs.declared.place.Place.{Place}
use Rattle.ti_base.specs.declared.action.Action.{Action}
use Rattle.ti_base.specs.declared.entry.Next.TheVariants as next
use Rattle.ti_lang.specs.Meaning.HeapAnswers.{Impossible, heap_answer}
use Rattle.ti_lang.specs.Meaning.Histories.{history_of}
use Rattle.ti_lang.specs.Meaning.NextStep.{IsNext}
use Rattle.ti_base.specs.declared.entry.Entry.{Entry}
use Rattle.ti_lang.specs.Meaning.Processes.{RunConfig, Process}
use Rattle.ti_lang.specs.Meaning.Runs.{ProcAfter, IsReady, IsRun}
use Rattle.ti_rules.specs.ProgramRefusals.{IsChecked}
use Rattle.ti_align.specs.Alignment.{ArrivalsAgree, NoneAfterEnd, OfEveryRun}
use Rattle.ti_align.specs.Stopping.{is_delete_arrival, RoundsBalance}
use Rattle.ti_align.proofs.Alignment.Stopping.{NoneWaits}
use Rattle.ti_align.proofs.Alignment.Possible.{never}
use Rattle.ti_rules.specs.Mirrors.Literals.{LiteralsFit}
use Rattle.ti_align.specs.Typed.{RunTyped, TakenAsGiven}
use Rattle.ti_align.specs.Scoped.{VariablesInScope}
use Rattle.ti_align.specs.Formed.{ActionsFormed}
use Rattle.ti_align.specs.Slice.{SliceTells}
use Rattle.ti_align.specs.Answering.{AnswersFit}
use Rattle.ti_align.specs.Names.{RunNamesFit}
use Rattle.ti_align.specs.Placed.{ThingsPlaced}
use Rattle.ti_align.proofs.SliceAlone.Telling as telling
use Rattle.ti_align.proofs.RunTypes.Ranged as ranged
use Rattle.ti_align.proofs.RunTypes.Placed as placed
use Rattle.ti_align.proofs.RunTypes.Formed as formed
use Rattle.ti_align.proofs.Alignment.Aligning as aligning
use Rattle.ti_align.proofs.Alignment.Rounds.{same_departures}
use Rattle.ti_align.proofs.TextTypes.Programs.{checked_fits}
use Rattle.ti_align.proofs.RunTypes.Holding as holding
use Rattle.ti_align.proofs.RunTypes.Taking as taking
use Rattle.ti_align.proofs.Scope.Using.{frames_use, checked_stands}
use Rattle.ti_align.proofs.Scope.Keeping.{Keeps, WaitStands, kept}
use Rattle.ti_align.proofs.Alignment.Stopping as stopping
use Rattle.ti_align.proofs.RunTypes.Departed.{departure_fits}
use Rattle.ti_align.proofs.RunTypes.Answered as answered
use Rattle.ti_align.proofs.Alignment.Checked.{checked_fine}

pub arrivals_agree : (p : ProgramView) → IsChecked p → OfEveryRun ArrivalsAgree p
arrivals_agree p c procs fuel es a b d e w =
    let s : RunConfig = record { program = p; procs = procs; fuel = fuel } in
    let fine = checked_fine p c in
    aligning.arrivals_agree s fine es w (same_departures s fine es w)

pub none_after_end : (p : ProgramView) → IsChecked p → OfEveryRun NoneAfterEnd p
none_after_end p c procs fuel es a b d e w =
    let s : RunConfig = record { program = p; procs = procs; fuel = fuel } in
    let fine = checked_fine p c in
    aligning.none_after_end s fine es w (same_departures s fine es w)

pub run_typed : (p : ProgramView) → IsChecked p → LiteralsFit p → OfEveryRun RunTyped p
run_typed p c l procs fuel es a b d e w =
    holding.run_typed (record { program = p; procs = procs; fuel = fuel }) (checked_fits p c l) (checked_fine p c) b (λ ds r. arrivals_agree p c procs fuel ds a b d e r) es w

pub taken_as_given : (p : ProgramView) → IsChecked p → LiteralsFit p → OfEveryRun TakenAsGiven p
taken_as_given p c l procs fuel es a b d e w =
    taking.taken_as_given (record { program = p; procs = procs; fuel = fuel }) (checked_fits p c l) (checked_fine p c) b es w (run_typed p c l procs fuel es a b d e w).fits

pub variables_in_scope : (p : ProgramView) → IsChecked p → LiteralsFit p → OfEveryRun VariablesInScope p
variables_in_scope p c l procs fuel es a b d e w i q r within x y z =
    let s : RunConfig = record { program = p; procs = procs; fuel = fuel } in
    let k : Keeps s r = (let way = aligning.way_next s es i q r w x y in kept s i r way.0 (checked_stands p c l) way.1) in
    frames_use p r.frames (subst (λ o. WaitStands p o r.frames) z k.1)

pub none_waits : (p : ProgramView) → IsChecked p → LiteralsFit p → OfEveryRun NoneWaits p
none_waits p c l procs fuel es a b d e w =
    let s : RunConfig = record { program = p; procs = procs; fuel = fuel } in
    let agree : (ds : List Entry) → IsRun s ds → ArrivalsAgree s ds = λ ds r. arrivals_agree p c procs fuel ds a b d e r in
    stopping.none_waits s es w (agree es w) (holding.things_there s (checked_fits p c l) (checked_fine p c) b agree es w) (none_after_end p c procs fuel es a b d e w)

pub rounds_balance : (p : ProgramView) → OfEveryRun RoundsBalance p
rounds_balance p procs fuel es a b d e w = stopping.rounds_balance (record { program = p; procs = procs; fuel = fuel }) es w

-- each action but a delete comes to an answer or a fault
pub none_impossible : (p : ProgramView) → IsChecked p → LiteralsFit p
    → OfEveryRun (λ s es. (i : ℕ) (q : Process) (at : Place) (x : Action) → i < s.procs → ProcAfter s es i q → IsNext q (next.Act at x)
    → IsReady s es i (next.Act at x) → is_delete_arrival x ≡ false → heap_answer s.program (history_of es) i x ≡ Impossible → ⊥) p
none_impossible p c l procs fuel es a b d e w i q at x within v n r k o =
    let s : RunConfig = record { program = p; procs = procs; fuel = fuel } in
    let agree : (ds : List Entry) → IsRun s ds → ArrivalsAgree s ds = λ ds r. arrivals_agree p c procs fuel ds a b d e r in
    never s es w (agree es w) (holding.things_there s (checked_fits p c l) (checked_fine p c) b agree es w) i within q v at x n r k o

pub actions_formed : (p : ProgramView) → IsChecked p → LiteralsFit p → OfEveryRun ActionsFormed p
actions_formed p c l procs fuel es a b d e w =
    formed.actions_formed (record { program = p; procs = procs; fuel = fuel }) es (checked_fits p c l).storable (run_typed p c l procs fuel es a b d e w)

pub slice_tells : (p : ProgramView) → IsChecked p → LiteralsFit p → OfEveryRun SliceTells p
slice_tells p c l procs fuel es a b d e w =
    let s : RunConfig = record { program = p; procs = procs; fuel = fuel } in
    let agree : (ds : List Entry) → IsRun s ds → ArrivalsAgree s ds = λ ds r. arrivals_agree p c procs fuel ds a b d e r in
    telling.tells s (checked_fine p c) (λ i ds r k. departure_fits s (checked_fits p c l) (checked_fine p c) b e agree ds r i k) es w

pub names_fit : (p : ProgramView) → IsChecked p → LiteralsFit p → OfEveryRun RunNamesFit p
names_fit p c l procs fuel es a b d e w =
    ranged.names_fit (record { program = p; procs = procs; fuel = fuel }) es w b e (λ ds r. run_typed p c l procs fuel ds a b d e r)

pub regions_named : (p : ProgramView) → IsChecked p → LiteralsFit p → OfEveryRun ThingsPlaced p
regions_named p c l procs fuel es a b d e w =
    placed.things_placed (record { program = p; procs = procs; fuel = fuel }) es w (run_typed p c l procs fuel es a b d e w)

pub answers_fit : (p : ProgramView) → IsChecked p → LiteralsFit p → OfEveryRun AnswersFit p
answers_fit p c l procs fuel es a b d e w =
    answered.answers_fit (record { program = p; procs = procs; fuel = fuel }) (checked_fits p c l) (checked_fine p c) b e (λ ds r. arrivals_agree p c procs fuel ds a b d e r) es w
