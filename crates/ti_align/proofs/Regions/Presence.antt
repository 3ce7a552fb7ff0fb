-- A region that is deleted is there: so a run stands still only by a fault.
use Rattle.std.proofs.Common.{◌≡◌, ◌⊎◌, inl, inr, ℕ, ◌<◌, nat_lt, length, Bool, true, false, if◌then◌else◌, Option, Some, None, List, [], ◌∷◌, ◌++◌, refl, ap, sym, ◌∙◌, subst, append-nil}
use Rattle.ti_base.specs.declared.place.Place.{Place}
use Rattle.ti_base.specs.declared.fault.FaultKind.TheVariants.{Fuel, Depth, RegionGone}
use Rattle.ti_base.specs.declared.action.Action.{Action}
use Rattle.ti_base.specs.declared.action.Action.TheVariants as act
use Rattle.ti_base.specs.declared.action.CollKind.TheVariants as coll
use Rattle.ti_base.specs.declared.action.Deposit.{Deposit}
use Rattle.ti_base.specs.declared.entry.Answer.TheVariants.{Done}
use Rattle.ti_base.specs.declared.entry.Entry.{Entry}
use Rattle.ti_base.specs.declared.entry.Next.TheVariants as next
use Rattle.ti_lang.specs.Program.Types.{ValueType}
use Rattle.ti_lang.specs.Program.Classes.{ProgramView}
use Rattle.ti_lang.specs.Program.Scope.{method_scope}
use Rattle.ti_lang.specs.Meaning.Comp.{Comp, CompResult, Gives, Asks, Fails}
use Rattle.ti_lang.specs.Meaning.Processes.{RunConfig, ContItem, Frame, Wait, Process, begin}
use Rattle.ti_lang.specs.Meaning.Scoping.{env_of}
use Rattle.ti_lang.specs.Meaning.Moves.{Move, Goes, Turns, Breaks, Continues, Calls, Returns, Meets, Deletes}
use Rattle.ti_lang.specs.Meaning.Performing.{exec_item}
use Rattle.ti_lang.specs.Meaning.Steps.{Step, At, Faults, ticks, step_of_result, most_frames, moves, works, runs, steps, step}
use Rattle.ti_lang.specs.Meaning.NextStep.{here, IsNext}
use Rattle.ti_lang.specs.Meaning.Histories.{history_of, is_arrival}
use Rattle.ti_lang.specs.Meaning.RegionsOf.{is_made, is_gone}
use Rattle.ti_lang.specs.Meaning.HeapAnswers.{Answers, Impossible, where_some, possible_if, faults_if, heap_answer}
use Rattle.ti_lang.specs.Meaning.HeapAnswers as heap
use Rattle.ti_lang.specs.Meaning.Runs.{ProcAfter, IsRun}
use Rattle.ti_lang.proofs.Lemmas.{Giving}
use Rattle.ti_align.specs.HeapTyping.{HeapTyping, IsPlaced}
use Rattle.ti_align.specs.Mirrors.Sound.{Sound}
use Rattle.ti_align.specs.Mirrors.Sound as sound
use Rattle.ti_align.specs.Given.{scope_over, contribution_type}
use Rattle.ti_align.specs.Mirrors.ContItem.{taken_type, MoveFits}
use Rattle.ti_align.specs.Heap.{heap_typing_of}
use Rattle.ti_align.specs.Mirrors.Processes.{NextFits, WorkSound}
use Rattle.ti_align.specs.Typed.{GivesLast, RunFits}
use Rattle.ti_align.specs.Stopping.{is_delete_arrival}
use Rattle.ti_align.proofs.Alignment.Stopping.{DeletesNothing}
use Rattle.ti_align.proofs.Runs.Vars.{true_false}
use Rattle.ti_align.proofs.Alignment.Stepping.{Alone}
use Rattle.ti_align.proofs.Runs.Asks.{work_alone}
use Rattle.ti_align.proofs.Runs.Ways.{asking}
use Rattle.ti_align.proofs.Runs.Given as given_facts
use Rattle.ti_align.proofs.Runs.Arrived.{last_kind}
use Rattle.ti_align.proofs.Runs.Running.{at_action}
use Rattle.ti_align.proofs.Alignment.Aligning.{way_next}
use Rattle.ti_align.proofs.RunTypes.Kept.{Known, reaches_fits}
use Rattle.ti_align.proofs.RunTypes.Holding.{performs}
use Rattle.ti_align.proofs.Scope.Keeping.{ProgramStands, WaitStands, Keeps}
use Rattle.ti_align.specs.Scoped.{FirstUses}
use Rattle.ti_align.proofs.Scope.Using.{frames_use}
use Rattle.ti_align.proofs.Regions.Regional.{AllGood, WorksAreSuch, MethodsAreSuch}
use Rattle.ti_align.proofs.Regions.Handing.{MoveIsSuch, performed_good}
use Rattle.ti_align.proofs.Regions.Deleting.{AllSuch, Hands, reaches_hands}
use Rattle.ti_align.proofs.Regions.Deleted.{run_hands, world_keeps, deletes_some}

-- ---- what is deleted is placed

abbrev ActPlaced : HeapTyping → Action → Type 0
ActPlaced w (act.Arrive kind arg given) = kind ≡ coll.DeleteRegion → (n : ℕ) → arg ≡ Some n → IsPlaced w n
ActPlaced w a = Unit {0}

abbrev StepPlaced : HeapTyping → Step → Type 0
StepPlaced w (At request go) = ActPlaced w request.action
StepPlaced w st = Unit {0}

abbrev MovePlaced : HeapTyping → Move → Type 0
MovePlaced w (Meets wait given behind) = wait.kind ≡ coll.DeleteRegion → ⊥
MovePlaced w (Deletes at region) = IsPlaced w region
MovePlaced w mv = Unit {0}

own_placed : (w : HeapTyping) (a : Action) → is_arrival a ≡ false → ActPlaced w a
own_placed w (act.Arrive kind arg given) x = absurd (true_false x)
own_placed w _ x = tt

if_placed : (w : HeapTyping) (b : Bool) (x y : Step) → StepPlaced w x → StepPlaced w y → StepPlaced w (if b then x else y)
if_placed w true x y f g = f
if_placed w false x y f g = g

ticks_placed : (w : HeapTyping) (q : Process) (at : Place) (after : Step) → StepPlaced w after → StepPlaced w (ticks q at after)
ticks_placed w q at after h = if_placed w (nat_lt q.spent q.setting.fuel) after (Faults Fuel at) h tt

same_region : (r n : ℕ) → Some r ≡ Some n → r ≡ n
same_region r n z = cc

moves_placed : (w : HeapTyping) (q : Process) (f : Frame) (fs : List Frame) (left : List ContItem) (mv : Move) → MovePlaced w mv → StepPlaced w (moves q f fs left mv)
moves_placed w q f fs left (Goes vs ws) k = tt
moves_placed w q f fs left (Turns at vs ws) k = ticks_placed w q at _ tt
moves_placed w q f fs left Breaks k = tt
moves_placed w q f fs left Continues k = tt
moves_placed w q f fs left (Calls at c this ps r) k = ticks_placed w q at _ (if_placed w (nat_lt (length (f ∷ fs)) most_frames) _ (Faults Depth at) tt tt)
moves_placed w q f fs left (Returns value) k = tt
moves_placed w q f fs left (Meets wait given behind) k = ticks_placed w q wait.place _ (λ z. absurd (k z))
moves_placed w q f fs left (Deletes at region) k = ticks_placed w q at _ (λ z n e. subst (IsPlaced w) (same_region region n e) k)

valued_placed : (w : HeapTyping) (q : Process) (g : CompResult Move) (go : Move → Step) → Alone g → Giving (MovePlaced w) g → ((mv : Move) → MovePlaced w mv → StepPlaced w (go mv)) → StepPlaced w (step_of_result q g go)
valued_placed w q (Gives mv rest) go a k f = f mv k
valued_placed w q (Asks request) go a k f = ticks_placed w q request.place _ (own_placed w request.action a.0)
valued_placed w q (Fails kind at) go a k f = tt

-- what a sound computation gives at once
sound_gives : (p : ProgramView) {A : Type 0} (P : HeapTyping → A → Type 0) (w : HeapTyping) (m : Comp A) → Sound p P w m → Giving (P w) (m [])
sound_gives p P w m (sound.value a k z) = subst (Giving (P w)) (sym (z [])) k
sound_gives p P w m (sound.fault kind at z) = subst (Giving (P w)) (sym (z [])) tt
sound_gives p P w m (sound.asks q z there f) = subst (Giving (P w)) (sym z) tt

module _ (w : HeapTyping) (q : Process) (methods : MethodsAreSuch q.setting.program q.setting.program.methods) where
  both_placed : (f : Frame) (left : List ContItem) (x : ContItem) (g : CompResult Move)
      → Giving (λ mv. MoveFits q.setting.program f.method (contribution_type q.setting.program
      (scope_over q.setting.program (method_scope f.method) left) x) (taken_type x)
      (scope_over q.setting.program (method_scope f.method) left) w mv) g
      → Giving (MoveIsSuch q.setting.program f.method) g → Giving (MovePlaced w) g
  both_placed f left x (Gives (Meets wait given behind) rest) k h = h.3
  both_placed f left x (Gives (Deletes at region) rest) k h = k
  both_placed f left x _ k h = tt

  works_placed : (f : Frame) (fs : List Frame) (ws : List ContItem) → WorkSound w q f ws → FirstUses f.variables ws → AllGood f.variables
      → WorksAreSuch q.setting.program f.method ws → StepPlaced w (works q f fs ws)
  works_placed f fs [] k u g a = tt
  works_placed f fs (x ∷ left) k u g a =
      let p = q.setting.program in
      let P = λ (u : HeapTyping) (mv : Move). MoveFits p f.method (contribution_type p (scope_over p (method_scope f.method) left) x) (taken_type x) (scope_over p (method_scope f.method) left) u mv in
      valued_placed w q (exec_item (env_of q f left) x q.answers) (moves q f fs left) (work_alone (env_of q f left) x q.answers)
      (both_placed f left x (exec_item (env_of q f left) x q.answers)
      (subst (λ rs. Giving (P w) (exec_item (env_of q f left) x rs)) (append-nil q.answers) (sound_gives p P w (λ rest. exec_item (env_of q f left) x (q.answers ++ rest)) k))
      (performed_good (env_of q f left) methods g x q.answers u a.0))
      (moves_placed w q f fs left)

  steps_placed : (G : ValueType → Type 0) (wait : Option Wait) (fs : List Frame) → q.frames ≡ fs → NextFits w G q wait fs
      → WaitStands q.setting.program wait fs → AllSuch q.setting.program fs → StepPlaced w (steps q wait)
  steps_placed G (Some x) fs z k u a = ticks_placed w q x.place _ tt
  steps_placed G None [] z k u a = subst (λ fs. StepPlaced w (runs q fs)) (sym z) tt
  steps_placed G None (f ∷ fs) z k u a =
      subst (λ fs. StepPlaced w (runs q fs)) (sym z) (works_placed f fs f.left k.0 (frames_use q.setting.program (f ∷ fs) u) a.0.0 a.0.1)

-- ---- runs

module _ (s : RunConfig) (known : (j : ℕ) → j < s.procs → Known (begin s j)) (stands : ProgramStands s.program) (such : MethodsAreSuch s.program s.program.methods) where
  -- the region that a process comes to delete was made
  pub deletes_made : (es : List Entry) → IsRun s es → RunFits s es → (i : ℕ) (p : Process) (at : Place) (arg : Option ℕ) (given : Deposit)
      → i < s.procs → ProcAfter s es i p → IsNext p (next.Act at (act.Arrive coll.DeleteRegion arg given))
      → (n : ℕ) × (arg ≡ Some n) × (is_made n (history_of es) ≡ true)
  deletes_made es ran fit i p at arg given l x n =
      let q = n.0 in
      let w = heap_typing_of i fit.elements (history_of es) in
      let last = last_kind i (history_of es) in
      let k = way_next s es i p p ran x here in
      let keeps : Keeps s p = world_keeps s stands such es ran i p p x here in
      let q_keeps : Keeps s q = world_keeps s stands such es ran i p q x n.1.reaches in
      let q_hands : Hands s last q = reaches_hands s last p q stands such keeps (run_hands s stands such es ran i p x) n.1.reaches in
      let acts = at_action (step q) at (act.Arrive coll.DeleteRegion arg given) n.1.stands in
      let some = deletes_some s stands such es ran i p at coll.DeleteRegion arg given x n refl in
      let q_fits = (reaches_fits performs w (GivesLast s es i) s i _ p q refl (known i l) (given_facts.stands s i p k.0 k.1) n.1.reaches (fit.processes i p l x)).0 in
      let own = λ (t : RunConfig). MethodsAreSuch t.program t.program.methods in
      let placed : StepPlaced w (step q) =
      steps_placed w q (subst own (sym q_hands.0) such) (GivesLast s es i) q.wait q.frames refl q_fits.1 (subst (λ (t : RunConfig). WaitStands t.program q.wait q.frames) (sym q_keeps.0) q_keeps.1)
      (subst (λ (t : RunConfig). AllSuch t.program q.frames) (sym q_hands.0) q_hands.1) in
      let here_placed : StepPlaced w (At (asking at (act.Arrive coll.DeleteRegion arg given) acts.0) acts.1) = subst (StepPlaced w) acts.2 placed in
      (some.0, some.1, not_none some.0 (is_made some.0 (history_of es)) some.2 (here_placed refl some.0 some.1))
    where
      not_none : (r : ℕ) (b : Bool) → (r ≡ 0 → ⊥) → (r ≡ 0) ⊎ (b ≡ true) → b ≡ true
      not_none r b f (inl z) = absurd (f z)
      not_none r b f (inr z) = z

  faulted : (b : Bool) → faults_if b RegionGone (Answers Done) ≡ Impossible → ⊥
  faulted true z = never z
    where
      never : heap.Faults RegionGone ≡ Impossible → ⊥
      never z = cc
  faulted false z = never z
    where
      never : Answers Done ≡ Impossible → ⊥
      never z = cc

  -- so its delete has an answer or a fault
  pub delete_possible : (es : List Entry) → IsRun s es → RunFits s es
      → (i : ℕ) (p : Process) (at : Place) (arg : Option ℕ) (given : Deposit) → i < s.procs → ProcAfter s es i p
      → IsNext p (next.Act at (act.Arrive coll.DeleteRegion arg given))
      → heap_answer s.program (history_of es) i (act.Arrive coll.DeleteRegion arg given) ≡ Impossible → ⊥
  delete_possible es ran fit i p at arg given l x n z =
      let h = history_of es in
      let made = deletes_made es ran fit i p at arg given l x n in
      faulted (is_gone made.0 h)
      (sym (ap (λ b. possible_if b (faults_if (is_gone made.0 h) RegionGone (Answers Done))) made.2)
      ∙ (sym (ap (λ o. where_some o (λ r. possible_if (is_made r h) (faults_if (is_gone r h) RegionGone (Answers Done)))) made.1) ∙ z))

  -- and no process comes to the delete of a region that isn't there
  pub none_stuck : (es : List Entry) → IsRun s es → RunFits s es → (i : ℕ) → DeletesNothing s es i → ⊥
  none_stuck es ran fit i d = by d.action d.is_next d.deletes d.impossible
    where
      by : (a : Action) → IsNext d.process (next.Act d.place a) → is_delete_arrival a ≡ true → heap_answer s.program (history_of es) i a ≡ Impossible → ⊥
      by (act.Arrive coll.DeleteRegion arg given) n k z = delete_possible es ran fit i d.process d.place arg given d.within d.world n z
      by _ n k z = absurd (true_false (sym k))
