-- Silent steps spend no more ticks than there are.
use Rattle.std.proofs.Common.{◌≡◌, ℕ, ◌+◌, ◌<◌, ◌≤◌, nat_lt, ltb-true, length, Bool, true, false, if◌then◌else◌, List, [], ◌∷◌, Option, Some, None, refl, subst, arith}
use Rattle.ti_base.specs.declared.place.Place.{Place}
use Rattle.ti_base.specs.declared.fault.FaultKind.TheVariants.{Depth, Fuel}
use Rattle.ti_lang.specs.Meaning.Comp.{CompResult, Gives, Asks, Fails}
use Rattle.ti_lang.specs.Meaning.Processes.{ContItem, Frame, frame_of, Wait, Process}
use Rattle.ti_lang.specs.Meaning.Moves.{Move, Goes, Turns, Breaks, Continues, Calls, Returns, Meets, Deletes}
use Rattle.ti_lang.specs.Meaning.Performing.{exec_item}
use Rattle.ti_lang.specs.Meaning.Scoping.{env_of}
use Rattle.ti_lang.specs.Meaning.Jumps.{has_mark}
use Rattle.ti_lang.specs.Meaning.Steps.{Step, To, Faults, spends, ticks, step_of_result, most_frames, moves, works, runs, steps}
use Rattle.ti_lang.specs.Meaning.NextStep.{Reaches, here, later}

-- within the fuel
abbrev Fed : Process → Type 0
Fed p = p.spent ≤ p.setting.fuel

-- so is what a step leads to
abbrev Feeds : Step → Type 0
Feeds (To q) = Fed q
Feeds st = Unit {0}

feeds_ticks : (p : Process) (at : Place) (after : Step) → (p.spent < p.setting.fuel → Feeds after) → Feeds (ticks p at after)
feeds_ticks p at after h = go (nat_lt p.spent p.setting.fuel) refl
  where
    go : (b : Bool) → nat_lt p.spent p.setting.fuel ≡ b → Feeds (if b then after else Faults Fuel at)
    go true e = h (ltb-true p.spent p.setting.fuel e)
    go false e = tt

feeds_if : (b : Bool) (x y : Step) → Feeds x → Feeds y → Feeds (if b then x else y)
feeds_if true x y f g = f
feeds_if false x y f g = g

fed_if : (b : Bool) (x y : Process) → Fed x → Fed y → Fed (if b then x else y)
fed_if true x y f g = f
fed_if false x y f g = g

one_more : (a b : ℕ) → a < b → a + 1 ≤ b
one_more a b h = omega (arith, h)

feeds_moves : (p : Process) (f : Frame) (fs : List Frame) (left : List ContItem) (mv : Move) → Fed p → Feeds (moves p f fs left mv)
feeds_moves p f fs left (Goes vs ws) w = w
feeds_moves p f fs left (Turns at vs ws) w = feeds_ticks p at _ (λ l. one_more p.spent p.setting.fuel l)
feeds_moves p f fs left Breaks w = fed_if (has_mark left) _ _ w w
feeds_moves p f fs left Continues w = fed_if (has_mark left) _ _ w w
feeds_moves p f fs left (Calls at m this ps r) w =
    feeds_ticks p at _ (λ l. feeds_if (nat_lt (length (f ∷ fs)) most_frames)
    (To (spends (record p { frames = frame_of m this ps r ∷ record f { left = left } ∷ fs; wait = None; answers = [] })))
    (Faults Depth at) (one_more p.spent p.setting.fuel l) tt)
feeds_moves p f fs left (Returns v) w = w
feeds_moves p f fs left (Meets wait given behind) w = feeds_ticks p wait.place _ (λ l. tt)
feeds_moves p f fs left (Deletes at region) w = feeds_ticks p at _ (λ l. tt)

feeds_valued : (p : Process) (f : Frame) (fs : List Frame) (left : List ContItem) (g : CompResult Move) → Fed p → Feeds (step_of_result p g (moves p f fs left))
feeds_valued p f fs left (Gives mv rest) w = feeds_moves p f fs left mv w
feeds_valued p f fs left (Asks request) w = feeds_ticks p request.place _ (λ l. tt)
feeds_valued p f fs left (Fails kind at) w = tt

feeds_works : (p : Process) (f : Frame) (fs : List Frame) (ws : List ContItem) → Fed p → Feeds (works p f fs ws)
feeds_works p f fs [] w = w
feeds_works p f fs (x ∷ left) w = feeds_valued p f fs left (exec_item (env_of p f left) x p.answers) w

feeds_runs : (p : Process) (fs : List Frame) → Fed p → Feeds (runs p fs)
feeds_runs p [] w = tt
feeds_runs p (f ∷ fs) w = feeds_works p f fs f.left w

feeds_steps : (p : Process) (x : Option Wait) → Fed p → Feeds (steps p x)
feeds_steps p None w = feeds_runs p p.frames w
feeds_steps p (Some x) w = feeds_ticks p x.place _ (λ l. tt)

pub fed : (p q : Process) → p.spent ≤ p.setting.fuel → Reaches p q → q.spent ≤ q.setting.fuel
fed p q w here = w
fed p q w (later {q = r} e x) = fed r q (subst Feeds e (feeds_steps p p.wait w)) x
