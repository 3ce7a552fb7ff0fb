-- In every run what processes hand in is in its one form.
use Rattle.std.proofs.Common.{◌≡◌, ℕ, false, List, ap, sym, subst}
use Rattle.ti_base.specs.declared.value.Value.{Value}
use Rattle.ti_base.specs.declared.action.Action.{Action}
use Rattle.ti_base.specs.declared.action.Action.TheVariants as act
use Rattle.ti_base.specs.declared.action.Deposit.{Deposit}
use Rattle.ti_base.specs.declared.action.Deposit.TheVariants as deposit
use Rattle.ti_base.specs.declared.action.ViewHow.{ViewHow}
use Rattle.ti_base.specs.declared.action.ViewHow.TheVariants.{Restrict, Translate, Slice}
use Rattle.ti_base.specs.declared.entry.Entry.{Entry}
use Rattle.ti_base.specs.declared.entry.Next.TheVariants as next
use Rattle.ti_lang.specs.Program.Types.{ValueType}
use Rattle.ti_lang.specs.Program.Types as t
use Rattle.ti_lang.specs.Typing.Kinds.{is_void}
use Rattle.ti_lang.specs.Meaning.Held.{Plain, plain_of}
use Rattle.ti_lang.specs.Meaning.Held as held
use Rattle.ti_lang.specs.Meaning.Processes.{RunConfig}
use Rattle.ti_lang.specs.Meaning.NextStep.{IsNext}
use Rattle.ti_align.specs.HeapTyping.{HeapTyping, IsOf, DepositFits}
use Rattle.ti_align.specs.Existing.{SuitsView}
use Rattle.ti_align.specs.Heap.{FieldsStorable}
use Rattle.ti_align.specs.Typed.{RunTyped}
use Rattle.ti_align.specs.Formed.{IsFormed, IsFormedDeposit, IsFormedView, IsFormedAction, ActionsFormed}
use Rattle.ti_align.proofs.RunTypes.Stated.{stored_value}
use Rattle.ti_align.proofs.RunTypes.Acting.{next_there, next_handed}

-- a value of a type
value_formed : (w : HeapTyping) (type : ValueType) (x : Value) → is_void type ≡ false → IsOf w type (Plain x) → IsFormed x
value_formed w (t.Pt n) x z k = subst IsFormed (sym (ap plain_of k.1)) k.2.form
value_formed w (t.Rc n) x z k = subst IsFormed (sym (ap plain_of k.1)) k.2.form
value_formed w t.Null x z k = subst IsFormed (sym (ap plain_of k)) tt
value_formed w (t.Dm n) x z k = absurd (never k.1)
  where
    never : {ps : _} → Plain x ≡ held.Dm n ps → ⊥
    never z = cc
value_formed w t.Void x z k = absurd (never z)
  where
    never : is_void t.Void ≡ false → ⊥
    never z = cc
value_formed w _ x z k = subst IsFormed (sym (ap plain_of k.1)) tt

deposit_formed : (w : HeapTyping) (type : ValueType) (given : Deposit) → DepositFits w type given → IsFormedDeposit given
deposit_formed w type (deposit.One value) k = value_formed w type value k.1 k.0
deposit_formed w type deposit.Nothing k = tt
deposit_formed w type (deposit.Count n) k = tt

view_formed : (how : ViewHow) (n : ℕ) → SuitsView how n → IsFormedView how
view_formed (Restrict r) n k = k.form
view_formed (Translate by) n k = k.form
view_formed (Slice k j) n z = tt

pub actions_formed : (s : RunConfig) (es : List Entry) → FieldsStorable s.program → RunTyped s es → ActionsFormed s es
actions_formed s es storable typed i p at a l x n = by a n
  where
    by : (a : Action) → IsNext p (next.Act at a) → IsFormedAction a
    by (act.PutField obj field value) n = let k = (next_there s es typed i p at (act.PutField obj field value) l x n).1 in
        value_formed _ k.0 value (stored_value k.0 (storable k.1.0 field k.0 k.1.2)) k.2
    by (act.NewGrid zero domain region) n = let k = (next_there s es typed i p at (act.NewGrid zero domain region) l x n).1 in k.4.form
    by (act.GetElem grid index) n = let k = (next_there s es typed i p at (act.GetElem grid index) l x n).1 in k.3.form
    by (act.PutElem grid index value) n = let k = (next_there s es typed i p at (act.PutElem grid index value) l x n).1 in (k.3.form, value_formed _ k.0 value (stored_value k.0 k.2.4) k.4)
    by (act.MakeView grid how) n = let k = (next_there s es typed i p at (act.MakeView grid how) l x n).1 in view_formed how k.1 k.3
    by (act.Arrive kind arg given) n = let k = next_handed s es typed i p at kind arg given l x n in deposit_formed _ k.0 given k.1
    by (act.GetField obj field) n = tt
    by (act.NewObj class region) n = tt
    by (act.DomainOf grid) n = tt
    by (act.Print literal value) n = tt
    by act.Depart n = tt
    by (act.Take who) n = tt
    by act.End n = tt
    by (act.Fault kind) n = tt
