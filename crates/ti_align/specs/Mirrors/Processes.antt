-- Processes that agree with the static types: their frames and what they do next.
use Rattle.std.specs.Prelude.{◌≡◌, List, [], ◌∷◌, Option, Some, None, ◌++◌}
use Rattle.ti_lang.specs.Program.Types.{ValueType}
use Rattle.ti_lang.specs.Program.Classes.{ProgramView}
use Rattle.ti_lang.specs.Program.Scope.{method_scope}
use Rattle.ti_lang.specs.Typing.Declared.{result_type}
use Rattle.ti_lang.specs.Typing.Kinds.{element_of}
use Rattle.ti_lang.specs.Meaning.Processes.{ContItem, TakeAll, Process, Frame, Wait}
use Rattle.ti_lang.specs.Meaning.Scoping.{env_of}
use Rattle.ti_lang.specs.Meaning.Performing.{exec_item}
use Rattle.ti_align.specs.HeapTyping.{HeapTyping, VariablesFit, ThisFits}
use Rattle.ti_align.specs.Mirrors.Sound.{Sound}
use Rattle.ti_align.specs.Heap.{FieldsFit, FieldsStorable}
use Rattle.ti_align.specs.Given.{scope_over, contribution_type, IsOfRound}
use Rattle.ti_align.specs.Mirrors.ContItem.{MethodsFit, ReceiverFits, taken_type, TakesOf, taken_behind, WantsOf, WorksFit, IsAwaited, MoveFits}

-- ---- programs

-- what the type rules guarantee of a program
pub record ProgramFits (p : ProgramView) : Type 0 where
  pub fields : FieldsFit p
  pub storable : FieldsStorable p
  pub methods : MethodsFit p p.methods

-- ---- frames

-- `this`, the variables and the pending work of a frame agree with the types
abbrev pub FrameFits : ProgramView → HeapTyping → Frame → Type 0
FrameFits p w f = VariablesFit w f.variables × ThisFits w f.method f.this × WorksFit p f.method (method_scope f.method) w f.left

-- the result of a frame's method suits the receiver in the caller's frame, if there is a caller
abbrev pub PassesOn : ProgramView → Frame → List Frame → Type 0
PassesOn p f [] = Unit {0}
PassesOn p f (g ∷ fs) = ReceiverFits p g.method (scope_over p (method_scope g.method) g.left) f.receiver (result_type f.method)

-- all frames agree with the types, each with its caller
abbrev pub FramesFit : ProgramView → HeapTyping → List Frame → Type 0
FramesFit p w [] = Unit {0}
FramesFit p w (f ∷ fs) = FrameFits p w f × PassesOn p f fs × FramesFit p w fs

-- ---- processes

-- the outcome of the first piece of work agrees with the types, after the answers received so far and any further ones that fit
abbrev pub WorkSound : HeapTyping → Process → Frame → List ContItem → Type 0
WorkSound w pr f [] = Unit {0}
WorkSound w pr f (x ∷ left) =
    Sound pr.setting.program (λ u move. MoveFits pr.setting.program f.method
    (contribution_type pr.setting.program (scope_over pr.setting.program (method_scope f.method) left) x) (taken_type x)
    (scope_over pr.setting.program (method_scope f.method) left) u move) w
    (λ rest. exec_item (env_of pr f left) x (pr.answers ++ rest))

-- if the first piece of work takes values after an exchange, their type satisfies G
abbrev pub TakesFirst : (ValueType → Type 0) → List ContItem → Type 0
TakesFirst G (TakeAll at grid procs ∷ left) = G (element_of grid.type)
TakesFirst G left = Unit {0}

-- what a waiting process receives at its departure, or takes after it, suits the frame in which it waits
abbrev pub WaitFits : ProgramView → (ValueType → Type 0) → Wait → List Frame → Type 0
WaitFits p G wait [] = ⊥
WaitFits p G wait (f ∷ fs) =
    (type : ValueType) × IsAwaited p f.method (scope_over p (method_scope f.method) f.left) wait.wanted wait.receiver type
    × IsOfRound G wait.kind type × WantsOf wait.kind wait.wanted type × TakesOf (taken_behind wait.kind type) f.left

-- what the process does next agrees with the types
abbrev pub NextFits : HeapTyping → (ValueType → Type 0) → Process → Option Wait → List Frame → Type 0
NextFits w G pr (Some wait) fs = WaitFits pr.setting.program G wait fs × (pr.answers ≡ [])
NextFits w G pr None [] = Unit {0}
NextFits w G pr None (f ∷ fs) = WorkSound w pr f f.left × TakesFirst G f.left

-- A process agrees with the types, if the type of the values that it contributed at its last collective, if any, satisfies G.
abbrev pub ProcessFits : HeapTyping → (ValueType → Type 0) → Process → Type 0
ProcessFits w G pr = FramesFit pr.setting.program w pr.frames × NextFits w G pr pr.wait pr.frames
