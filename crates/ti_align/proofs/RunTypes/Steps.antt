-- When a step of a process fits the types.
use Rattle.std.specs.Prelude.{◌≡◌, ◌⊎◌, Some}
use Rattle.ti_base.specs.declared.action.Action.{Action}
use Rattle.ti_base.specs.declared.action.Action.TheVariants as act
use Rattle.ti_base.specs.declared.entry.Answer.{Answer}
use Rattle.ti_lang.specs.Program.Types.{ValueType}
use Rattle.ti_lang.specs.Meaning.Comp.{ToBeDone, ValueOf, Request, told}
use Rattle.ti_lang.specs.Meaning.Processes.{Wait, Process}
use Rattle.ti_lang.specs.Meaning.Steps.{Step, To, At}
use Rattle.ti_align.specs.HeapTyping.{HeapTyping, Grows, IsOf, DepositFits}
use Rattle.ti_align.specs.Existing.{OperandsExist, GoesThrough, SuitsWanted, FitsAsked}
use Rattle.ti_align.specs.Given.{IsOfRound, contribution_by}
use Rattle.ti_align.specs.Mirrors.ContItem.{WantsOf}
use Rattle.ti_align.specs.Mirrors.Processes.{ProcessFits}

-- What an action says fits, and behind an answer that fits the process does: behind an arrival with the second kind of types, as what
-- was handed in at its last collective is then of these.
abbrev pub ActionFits : HeapTyping → (ValueType → Type 0) → (ValueType → Type 0) → Process → Request → Action → (Answer → Process) → Type 0
ActionFits w G H pr request (act.Arrive kind arg given) go =
    (type : ValueType) × DepositFits w type given × IsOfRound (λ u. contribution_by pr ≡ Some u) kind type
    × (IsOfRound H kind type → (u : HeapTyping) → Grows w u → (r : Answer) → ProcessFits u H (go r))
ActionFits w G H pr request act.Depart go =
    (wait : Wait) × (type : ValueType) × (pr.wait ≡ Some wait) × IsOfRound G wait.kind type × WantsOf wait.kind wait.wanted type
    × ((u : HeapTyping) → Grows w u → (r : Answer) → (wait.wanted ≡ ToBeDone) ⊎ IsOf u type (told r) → ProcessFits u G (go r))
ActionFits w G H pr request (act.Take who) go =
    (type : ValueType) × G type × ((u : HeapTyping) → Grows w u → (r : Answer) → IsOf u type (told r) → ProcessFits u G (go r)) × (request.wanted ≡ ValueOf type)
ActionFits w G H pr request a go = (u : HeapTyping) → Grows w u → (r : Answer) → FitsAsked pr.setting.program u a request.wanted r → ProcessFits u G (go r)

-- a step fits: what an action names is there, and is used through a reference of its own type, the process goes on so that it fits, and
-- what it wants is what the action gives
abbrev pub StepFits : HeapTyping → (ValueType → Type 0) → (ValueType → Type 0) → Process → Step → Type 0
StepFits w G H pr (To q) = ProcessFits w G q
StepFits w G H pr (At request go) =
    OperandsExist pr.setting.program w request.action request.wanted × GoesThrough w request.through request.action × ActionFits w G H pr request request.action go
    × SuitsWanted pr.setting.program w request.action request.wanted
StepFits w G H pr step = Unit {0}
