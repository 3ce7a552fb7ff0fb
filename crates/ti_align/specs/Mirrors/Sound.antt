-- Type soundness of computations: they request only what exists, and yield what they should, whatever fitting answers they receive.
use Rattle.std.specs.Prelude.{◌≡◌, List, [], ◌∷◌, Some}
use Rattle.ti_base.specs.declared.place.Place.{Place}
use Rattle.ti_base.specs.declared.entry.Answer.{Answer}
use Rattle.ti_base.specs.declared.fault.FaultKind.{FaultKind}
use Rattle.ti_lang.specs.Program.Classes.{ProgramView}
use Rattle.ti_lang.specs.Typing.Kinds.{is_local}
use Rattle.ti_lang.specs.Meaning.Comp.{Request, Reference, Comp, Gives, Asks, Fails}
use Rattle.ti_align.specs.HeapTyping.{HeapTyping, IsOwn, Grows, IsThingOf}
use Rattle.ti_align.specs.Existing.{OperandsExist, GoesThrough, SuitsWanted, FitsAsked}

-- the reference names an object or grid of its type, which is in the process's own memory if the reference is local
abbrev pub ReferenceFits : HeapTyping → Reference → Type 0
ReferenceFits w r = IsOwn w (is_local r.type) (Some r.thing) × IsThingOf w r.type r.thing

-- ---- computations

-- The computation yields a value that satisfies P, or faults, or requests an action: what the action names exists, it goes through a
-- reference of the right type, to the process's own memory if that type is local, and expects what the action yields. If the answer fits
-- what exists by then, the rest of the computation is sound again.
pub data Sound (p : ProgramView) {A : Type 0} (P : HeapTyping → A → Type 0) : HeapTyping → Comp A → Type 0 where
  value : {w : HeapTyping} {m : Comp A} (a : A) → P w a → ((rest : List Answer) → m rest ≡ Gives a rest) → Sound p P w m
  fault : {w : HeapTyping} {m : Comp A} (kind : FaultKind) (at : Place) → ((rest : List Answer) → m rest ≡ Fails kind at) → Sound p P w m
  asks : {w : HeapTyping} {m : Comp A} (q : Request) → m [] ≡ Asks q → OperandsExist p w q.action q.wanted × GoesThrough w q.through q.action
      × SuitsWanted p w q.action q.wanted
      → ((u : HeapTyping) → Grows w u → (r : Answer) → FitsAsked p u q.action q.wanted r → Sound p P u (λ rest. m (r ∷ rest))) → Sound p P w m
