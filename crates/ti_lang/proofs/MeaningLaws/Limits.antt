-- No process spends more ticks than it has, or has more frames than it may: what each step keeps.
use Rattle.std.proofs.Common.{◌≡◌, ℕ, suc, ◌<◌, ◌≤◌, nat_lt, length, Bool, true, false, if◌then◌else◌, Option, Some, None, List, [], ◌∷◌, ◌++◌, slice_get, refl, ◌∙◌, ap, subst, arith, ltb-true}
use Rattle.std.specs.Option.{option_map_or}
use Rattle.ti_base.specs.declared.place.Place.{Place}
use Rattle.ti_base.specs.declared.fault.FaultKind.TheVariants.{Fuel}
use Rattle.ti_base.specs.declared.entry.Answer.{Answer}
use Rattle.ti_lang.specs.Meaning.Held.{Held}
use Rattle.ti_lang.specs.Meaning.Comp.{Request, CompResult, Gives, Asks, Fails}
use Rattle.ti_lang.specs.Program.Classes.{NumberedMethod}
use Rattle.ti_lang.specs.Meaning.Processes.{Variable, Receiver, ContItem, Frame, Wait, Process, RunConfig, begin, frame_of, Nowhere}
use Rattle.ti_lang.specs.Meaning.Scoping.{env_of}
use Rattle.ti_lang.specs.Meaning.Moves.{Move, Goes, Turns, Breaks, Continues, Calls, Returns, Meets, Deletes}
use Rattle.ti_lang.specs.Meaning.Performing.{exec_item}
use Rattle.ti_lang.specs.Meaning.Jumps.{has_mark, from_mark, past_mark, variables_at_mark}
use Rattle.ti_lang.specs.Meaning.Steps.{Step, To, At, Ends, Faults, with_continuation, deliver, ticks, asks, add_answer, most_frames, value_asked, step_of_result, moves, works, runs, steps, step}
use Rattle.ti_lang.specs.Meaning.NextStep.{Reaches, here, later, After, none, more}

-- within the limits, and in this setting
pub record Within (s : RunConfig) (p : Process) : Type 0 where
  pub setting : p.setting ≡ s
  pub ticks : p.spent ≤ s.fuel
  pub frames : length p.frames ≤ most_frames

-- what a step keeps
abbrev pub Keep : RunConfig → Step → Type 0
Keep s (To q) = Within s q
Keep s (At request go) = (r : Answer) → Within s (go r)
Keep s (Ends at) = Unit {0}
Keep s (Faults kind at) = Unit {0}

module _ (s : RunConfig) where
  by_test : (p : Process) (at : Place) (after : Step) (test : Bool) → (test ≡ true → Keep s after) → Keep s (if test then after else Faults Fuel at)
  by_test p at after true h = h refl
  by_test p at after false h = tt

  keep_ticks : (p : Process) (at : Place) (after : Step) → Within s p → (p.spent < s.fuel → Keep s after) → Keep s (ticks p at after)
  keep_ticks p at after w h = by_test p at after (nat_lt p.spent p.setting.fuel) (λ t. h (subst (λ x. p.spent < x.fuel) w.setting (ltb-true p.spent p.setting.fuel t)))

  if_keeps : (test : Bool) (x y : Step) → (test ≡ true → Keep s x) → Keep s y → Keep s (if test then x else y)
  if_keeps true x y h g = h refl
  if_keeps false x y h g = g

  keep_asks : (p : Process) (request : Request) (go : Answer → Process) → Within s p
      → ((r : Answer) → ((go r).setting ≡ p.setting) × ((go r).spent ≡ p.spent) × (length (go r).frames ≤ most_frames))
      → Keep s (asks p request go)
  keep_asks p request go w h = keep_ticks p request.place _ w (λ t r. let k = h r in record { setting = k.0 ∙ w.setting; ticks = omega (arith, k.1); frames = k.2 })

  -- a frame in the place of the first
  same_frames : (p : Process) (f : Frame) (fs : List Frame) → p.frames ≡ f ∷ fs → Within s p → suc (length fs) ≤ most_frames
  same_frames p f fs e w = omega (arith, ap length e, w.frames)

  goes_keeps : (p : Process) (f : Frame) (fs : List Frame) (variables : List Variable) (left : List ContItem) → p.frames ≡ f ∷ fs → Within s p → Within s (with_continuation p f fs variables left)
  goes_keeps p f fs variables left e w = record { setting = w.setting; ticks = w.ticks; frames = same_frames p f fs e w }

  handed_length : (receiver : Receiver) (value : Option Held) (fs : List Frame) → length (deliver receiver value fs) ≡ length fs
  handed_length receiver None fs = refl
  handed_length receiver (Some h) [] = refl
  handed_length receiver (Some h) (f ∷ fs) = refl

  returns_keep : (p : Process) (f : Frame) (fs : List Frame) (left : List ContItem) (value : Option Held) → p.frames ≡ f ∷ fs → Within s p → Keep s (moves p f fs left (Returns value))
  returns_keep p f fs left value e w = record { setting = w.setting; ticks = w.ticks; frames = omega (arith, ap length e, w.frames, handed_length f.receiver value fs) }

  jump_keeps : (test : Bool) (x y : Process) → Within s x → Within s y → Within s (if test then x else y)
  jump_keeps true x y h g = h
  jump_keeps false x y h g = g

  moves_keep : (p : Process) (f : Frame) (fs : List Frame) (left : List ContItem) (move : Move) → p.frames ≡ f ∷ fs → Within s p → Keep s (moves p f fs left move)
  moves_keep p f fs left (Goes variables new) e w = goes_keeps p f fs variables (new ++ left) e w
  moves_keep p f fs left (Turns at variables new) e w =
      keep_ticks p at _ w (λ t. record { setting = w.setting; ticks = omega arith; frames = same_frames p f fs e w })
  moves_keep p f fs left Breaks e w =
      jump_keeps (has_mark left) _ _ (goes_keeps p f fs (variables_at_mark left f.variables) (past_mark left) e w) (goes_keeps p f fs f.variables left e w)
  moves_keep p f fs left Continues e w =
      jump_keeps (has_mark left) _ _ (goes_keeps p f fs (variables_at_mark left f.variables) (from_mark left) e w) (goes_keeps p f fs f.variables left e w)
  moves_keep p f fs left (Calls at method this parameters receiver) e w =
      keep_ticks p at _ w (λ t. if_keeps (nat_lt (length (f ∷ fs)) most_frames) _ _
      (λ u. record { setting = w.setting; ticks = omega arith; frames = omega (arith, ltb-true (length (f ∷ fs)) most_frames u) })
      tt)
  moves_keep p f fs left (Returns value) e w = returns_keep p f fs left value e w
  moves_keep p f fs left (Meets wait given behind) e w = keep_asks p _ _ w (λ r. (refl, refl, same_frames p f fs e w))
  moves_keep p f fs left (Deletes at region) e w = keep_asks p _ _ w (λ r. (refl, refl, same_frames p f fs e w))

  works_keep : (p : Process) (f : Frame) (fs : List Frame) (ws : List ContItem) → p.frames ≡ f ∷ fs → Within s p → Keep s (works p f fs ws)
  works_keep p f fs [] e w = returns_keep p f fs [] None e w
  works_keep p f fs (x ∷ left) e w = by_got (exec_item (env_of p f left) x p.answers)
    where
      by_got : (got : CompResult Move) → Keep s (step_of_result p got (moves p f fs left))
      by_got (Gives move rest) = moves_keep p f fs left move e w
      by_got (Asks request) = keep_asks p request (add_answer p) w (λ r. (refl, refl, w.frames))
      by_got (Fails kind at) = tt

  runs_keep : (p : Process) (fs : List Frame) → p.frames ≡ fs → Within s p → Keep s (runs p fs)
  runs_keep p [] e w = tt
  runs_keep p (f ∷ fs) e w = works_keep p f fs f.left e w

  steps_keep : (p : Process) (wait : Option Wait) → Within s p → Keep s (steps p wait)
  steps_keep p None w = runs_keep p p.frames refl w
  steps_keep p (Some x) w =
      keep_asks p _ _ w (λ r. (refl, refl, omega (arith, w.frames, handed_length x.receiver (value_asked x.wanted r) p.frames)))

  step_keeps : (p : Process) → Within s p → Keep s (step p)
  step_keeps p w = steps_keep p p.wait w

  reach_keeps : (p q : Process) → Within s p → Reaches p q → Within s q
  reach_keeps p q w here = w
  reach_keeps p q w (later {q = r} e x) = reach_keeps r q (subst (Keep s) e (step_keeps p w)) x

  pub after_keeps : (p q : Process) (rs : List Answer) → Within s p → After p rs q → Within s q
  after_keeps p q [] w none = w
  after_keeps p q (r ∷ rs) w (more {q = x} {go = go} a b c) = after_keeps (go r) q rs ((subst (Keep s) b (step_keeps x (reach_keeps p x w a))) r) c

-- before its first step a process has at most one frame
begin_frames : (o : Option NumberedMethod) → length (option_map_or (λ (main : NumberedMethod). frame_of main None [] Nowhere ∷ []) o []) ≤ most_frames
begin_frames None = omega arith
begin_frames (Some m) = omega arith

pub begin_within : (s : RunConfig) (i : ℕ) → Within s (begin s i)
begin_within s i = record { setting = refl; ticks = omega arith; frames = begin_frames (slice_get s.program.methods s.program.main) }

pub within : (s : RunConfig) (i : ℕ) (rs : List Answer) (p : Process) → After (begin s i) rs p → (p.spent ≤ s.fuel) × (length p.frames ≤ most_frames)
within s i rs p a = let w = after_keeps s (begin s i) p rs (begin_within s i) a in (w.ticks, w.frames)
