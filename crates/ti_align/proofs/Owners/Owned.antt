-- In every run owners are kept.
use Rattle.std.proofs.Common.{◌≡◌, ℕ, true, Some, List, [], ◌∷◌, sym, ◌∙◌, subst}
use Rattle.ti_base.specs.declared.value.Value.{Value}
use Rattle.ti_base.specs.declared.entry.Entry.{Entry}
use Rattle.ti_base.specs.Cells.{named_by}
use Rattle.ti_lang.specs.Program.Types.{ValueType}
use Rattle.ti_lang.specs.Program.Classes.{ProgramView}
use Rattle.ti_lang.specs.Typing.Kinds.{is_local}
use Rattle.ti_lang.specs.Meaning.Held.{Plain}
use Rattle.ti_lang.specs.Meaning.Processes.{RunConfig, Variable, Frame}
use Rattle.ti_lang.specs.Meaning.Scoping.{declared_type}
use Rattle.ti_lang.specs.Meaning.Evaluation.{is_own}
use Rattle.ti_lang.specs.Meaning.Histories.{history_of}
use Rattle.ti_rules.specs.ProgramRefusals.{IsChecked}
use Rattle.ti_align.specs.Alignment.{OfEveryRun}
use Rattle.ti_rules.specs.Mirrors.Literals.{LiteralsFit}
use Rattle.ti_align.specs.Owners.{AllOwn, AllOwnIn, OwnersKept}
use Rattle.ti_align.specs.HeapTyping.{HeapTyping, IsOf, VariablesFit}
use Rattle.ti_align.specs.Heap.{heap_typing_of}
use Rattle.ti_align.specs.Mirrors.Processes.{FramesFit}
use Rattle.ti_align.specs.Typed.{RunTyped}
use Rattle.ti_align.proofs.RunTypes.Operating.{some_same}
use Rattle.ti_align.proofs.RunTypes.Computing.{own_of}
use Rattle.ti_align.proofs.RunTypes.Storing.{held_of}
use Rattle.ti_align.proofs.Runs.EveryRun as every

variables_own : (w : HeapTyping) (xs : List Variable) → VariablesFit w xs → AllOwn w.owner xs
variables_own w [] k = tt
variables_own w (x ∷ xs) k = (own_of w (declared_type x.named.declared) x.held (held_of w x.named.declared x.held k.0), variables_own w xs k.1)

frames_own : (p : ProgramView) (w : HeapTyping) (fs : List Frame) → FramesFit p w fs → AllOwnIn w.owner fs
frames_own p w [] k = tt
frames_own p w (f ∷ fs) k = (variables_own w f.variables k.0.0, frames_own p w fs k.2)

-- a value of a local type in a cell
cell_own : (w : HeapTyping) (type : ValueType) (x value : Value) → Some x ≡ Some value → IsOf w type (Plain x) → is_local type ≡ true → is_own w.owner (named_by value) ≡ true
cell_own w type x value z k l = subst (λ y. is_own w.owner (named_by y) ≡ true) (some_same x value z) (own_of w type (Plain x) k l)

pub run_owns : (s : RunConfig) (es : List Entry) → RunTyped s es → OwnersKept s es
run_owns s es typed =
    let w : ℕ → HeapTyping = λ i. heap_typing_of i typed.fits.elements (history_of es) in
    record {
      variables = λ i p q l x y. frames_own q.setting.program (w i) q.frames (typed.processes i p q l x y).0;
      fields = λ obj class field type value c f l z. let v = typed.fields obj class field type c f in cell_own (w obj.owner) type v.0 value (sym v.1 ∙ z) v.2 l;
      elements = λ grid at element value m l z. let v = typed.cells grid at element (typed.fits.made grid element m) in cell_own (w grid.owner) element v.0 value (sym v.1 ∙ z) v.2 l;
      actions = λ i p q request go l x y z. (typed.there i p q request go l x y z).1.0;
    }

pub owners_kept : (p : ProgramView) → IsChecked p → LiteralsFit p → OfEveryRun OwnersKept p
owners_kept p c l procs fuel es a b d e w = run_owns (record { program = p; procs = procs; fuel = fuel }) es (every.run_typed p c l procs fuel es a b d e w)
