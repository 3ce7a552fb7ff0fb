-- Proves that what the code does to a process agrees with what contracts see of it.
use Rattle.std.proofs.Common.{◌≡◌, ◌∙◌, ◌+◌, ◌<◌, refl, sym, ap, subst, Bool, false, Some, [], ◌∷◌, ◌++◌, vec_len, vec_capacity, arith}
use Rattle.std.specs.declared.vec.Vec.{Vec}
use Rattle.std.specs.declared.alloc.Global.{Global}
use Rattle.ti_base.specs.declared.entry.Answer.{Answer}
use Rattle.ti_base.specs.declared.entry.Answer.TheVariants.{Done}
use Rattle.ti_base.specs.declared.entry.Next.{Next}
use Rattle.ti_lang.specs.Program.Classes.{ProgramView}
use Rattle.ti_lang.specs.Program.Views.{program_of}
use Rattle.ti_lang.specs.Meaning.Processes.{RunConfig}
use Rattle.ti_lang.specs.Meaning.Steps.{At, spends, add_answer, step}
use Rattle.ti_lang.specs.Meaning.NextStep.{Reaches, here, step_label, After, none, more}
use Rattle.ti_lang.proofs.Lemmas.{Within, after_keeps, begin_within}
use Rattle.ti_exec.specs.declared.run_loop.TreeProcState.{TreeProcState}
use Rattle.ti_exec.specs.declared.run_loop.TreeProcState.TheVariants as state
use Rattle.ti_exec.specs.declared.process.TreeMachine.{TreeMachine}
use Rattle.ti_exec.specs.declared.process.OnAnswer.{OnAnswer}
use Rattle.ti_exec.specs.declared.process.OnAnswer.TheVariants as pend
use Rattle.ti_exec.specs.States.{process_of, mode_after_answer, after_answer, RequestsNext}
use Rattle.ti_exec.specs.Standing.{TreeProcView, setting_of, initial_process_of, HasNext, IsAfterAnswer, is_act}
use Rattle.ti_exec.specs.Mirrors.RunLoop.{poisoned_in, asks_in, Rests, RunsToNext}
use Rattle.ti_exec.specs.Mirrors.TreeProc.{CorrespondsTo, Awaits, AgreesWithTree}
use Rattle.ti_exec.proofs.Advances.{reaches_through, one_more, moved, with_room}

-- ---- the beginning

pub begins : (s : TreeProcView) (w : TreeMachine) → s.told ≡ [] → process_of (program_of s.program) w ≡ initial_process_of s → CorrespondsTo s w
begins s w t e = record {
  process = initial_process_of s;
  is = subst (λ rs. After (initial_process_of s) rs (initial_process_of s)) (sym t) none;
  reaches = subst (λ p. Reaches (initial_process_of s) p) (sym e) here;
}

-- ---- what is next

pub unspent : (s : TreeProcView) (w : TreeMachine) (st : TreeProcState) → AgreesWithTree s w st → poisoned_in st ≡ false → CorrespondsTo s w
unspent s w state.Running a e = a
unspent s w (state.Suspended asking) a e = a.0
unspent s w state.Poisoned a e = cc

shows : (c : ProgramView) (w : TreeMachine) (n : Next) (st : TreeProcState) → Rests c w n st → step_label (step (process_of c w)) ≡ Some n
shows c w n state.Running r = r.0
shows c w n (state.Suspended asking) r = r.0.shows
shows c w n state.Poisoned r = absurd r

pub asks_there : (c : ProgramView) (w : TreeMachine) (n : Next) (st : TreeProcState) → Rests c w n st → asks_in st ≡ is_act n
asks_there c w n state.Running r = sym r.1
asks_there c w n (state.Suspended asking) r = sym r.1
asks_there c w n state.Poisoned r = absurd r

pub has_next : (s : TreeProcView) (old new : TreeMachine) (n : Next) (st : TreeProcState) → CorrespondsTo s old → RunsToNext (program_of s.program) old n st new → HasNext s n
has_next s old new n st f g =
    let c = program_of s.program in
    (f.process, f.is, (process_of c new, record { reaches = reaches_through f.process (process_of c old) (process_of c new) f.reaches g.reaches; stands = shows c new n st g.rests }))

-- more room doesn't change what an answer makes
told_with_room : (c : ProgramView) (w : TreeMachine) (v : Vec Answer Global) (on_answer : OnAnswer) (r : Answer) → v.items ≡ w.answers.items
    → after_answer c w on_answer r ≡ after_answer c (record w { answers = v }) on_answer r
told_with_room c w v pend.Append r e = ap (λ p. spends (add_answer p r)) (sym (with_room c w v e))
told_with_room c w v (pend.Arrive m) r e = ap spends (sym (moved c w w.spent w.mode v m []))
told_with_room c w v pend.Depart r e = ap spends (sym (moved c w w.spent w.mode v (mode_after_answer w.mode r) []))

stands_with_room : (c : ProgramView) (w : TreeMachine) (v : Vec Answer Global) (on_answer : OnAnswer) (n : Next) → v.items ≡ w.answers.items
    → RequestsNext (step (process_of c w)) n (after_answer c w on_answer) → RequestsNext (step (process_of c (record w { answers = v }))) n (after_answer c (record w { answers = v }) on_answer)
stands_with_room c w v on_answer n e s =
    let same = sym (with_room c w v e) in
    record {
      request = s.request;
      go = s.go;
      is = subst (λ p. step p ≡ At s.request s.go) same s.is;
      shows = subst (λ p. step_label (step p) ≡ Some n) same s.shows;
      goes = λ r. s.goes r ∙ told_with_room c w v on_answer r e;
    }

follows_on : (s : TreeProcView) (b : Bool) (old new : TreeMachine) (v : Vec Answer Global) → v.items ≡ new.answers.items → CorrespondsTo s old
    → Reaches (process_of (program_of s.program) old) (process_of (program_of s.program) new)
    → CorrespondsTo (record s { asks = b }) (record new { answers = v })
follows_on s b old new v e f r =
    let c = program_of s.program in
    record {
      process = f.process;
      is = f.is;
      reaches = subst (λ p. Reaches f.process p) (sym (with_room c new v e)) (reaches_through f.process (process_of c old) (process_of c new) f.reaches r);
    }

pub agrees : (s : TreeProcView) (old new : TreeMachine) (v : Vec Answer Global) (n : Next) (st : TreeProcState) → v.items ≡ new.answers.items → vec_len v < vec_capacity v
    → CorrespondsTo s old → RunsToNext (program_of s.program) old n st new → AgreesWithTree (record s { asks = asks_in st }) (record new { answers = v }) st
agrees s old new v n state.Running e l f g = follows_on s _ old new v e f g.reaches
agrees s old new v n (state.Suspended asking) e l f g = (
  follows_on s _ old new v e f g.reaches,
  record { next = n; stands = stands_with_room (program_of s.program) new v asking.value.on_answer n e g.rests.0; room = l },
)
agrees s old new v n state.Poisoned e l f g = absurd g.rests

-- ---- the answer

goes : (s : TreeProcView) (w : TreeMachine) (on_answer : OnAnswer) (r : Answer) (f : CorrespondsTo s w) → Awaits (program_of s.program) w on_answer → After f.process (r ∷ []) (after_answer (program_of s.program) w on_answer r)
goes s w on_answer r f a = subst (λ q. After f.process (r ∷ []) q) (a.stands.goes r) (more f.reaches a.stands.is none)

-- with the answer
abbrev pub with_answer : TreeProcView → Answer → TreeProcView
with_answer s r = record s { told = s.told ++ r ∷ [] }

after : (s : TreeProcView) (w : TreeMachine) (on_answer : OnAnswer) (r : Answer) (f : CorrespondsTo s w) → Awaits (program_of s.program) w on_answer
    → After (initial_process_of s) (s.told ++ r ∷ []) (after_answer (program_of s.program) w on_answer r)
after s w on_answer r f a = one_more (initial_process_of s) f.process (after_answer (program_of s.program) w on_answer r) s.told r f.is (goes s w on_answer r f a)

spent_told : (c : ProgramView) (w : TreeMachine) (on_answer : OnAnswer) (r : Answer) → (after_answer c w on_answer r).spent ≡ w.spent + 1
spent_told c w pend.Append r = refl
spent_told c w (pend.Arrive m) r = refl
spent_told c w pend.Depart r = refl

fuel_told : (c : ProgramView) (w : TreeMachine) (on_answer : OnAnswer) (r : Answer) → (after_answer c w on_answer r).setting.fuel ≡ w.fuel
fuel_told c w pend.Append r = refl
fuel_told c w (pend.Arrive m) r = refl
fuel_told c w pend.Depart r = refl

pub tick_left : (s : TreeProcView) (w : TreeMachine) (on_answer : OnAnswer) → CorrespondsTo s w → Awaits (program_of s.program) w on_answer → w.spent < w.fuel
tick_left s w on_answer f a =
    let c = program_of s.program in
    let q = after_answer c w on_answer Done in
    let within : Within (setting_of s) q = after_keeps (setting_of s) (initial_process_of s) q (s.told ++ Done ∷ []) (begin_within (setting_of s) s.number) (after s w on_answer Done f a) in
    omega (arith, within.ticks, spent_told c w on_answer Done, fuel_told c w on_answer Done, ap (λ (x : RunConfig). x.fuel) within.setting)

pub behind : (s : TreeProcView) (w v : TreeMachine) (on_answer : OnAnswer) (r : Answer) (b : Bool) → CorrespondsTo s w → Awaits (program_of s.program) w on_answer
    → process_of (program_of s.program) v ≡ after_answer (program_of s.program) w on_answer r → CorrespondsTo (record (with_answer s r) { asks = b }) v
behind s w v on_answer r b f a e =
    let q = after_answer (program_of s.program) w on_answer r in
    record { process = q; is = after s w on_answer r f a; reaches = subst (λ p. Reaches q p) (sym e) here }

pub is_answered : (s : TreeProcView) (w : TreeMachine) (on_answer : OnAnswer) (r : Answer) (b : Bool) → CorrespondsTo s w
    → Awaits (program_of s.program) w on_answer → IsAfterAnswer s r (record (with_answer s r) { asks = b })
is_answered s w on_answer r b f a =
    record { before = f.process; was = f.is; behind = after_answer (program_of s.program) w on_answer r; is = after s w on_answer r f a; after = goes s w on_answer r f a }
