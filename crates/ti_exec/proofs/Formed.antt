-- Proves that values of a type's form are canonical.
use Rattle.std.proofs.Common.{sym, subst}
use Rattle.ti_base.specs.declared.value.Value.{Value}
use Rattle.ti_base.specs.declared.value.Value.TheVariants as v
use Rattle.ti_base.specs.declared.entry.Answer.{Answer}
use Rattle.ti_lang.specs.Program.Types.{ValueType}
use Rattle.ti_lang.specs.Program.Types as t
use Rattle.ti_lang.specs.Meaning.Comp.{Wanted, ToBeDone, ValueOf, NewThing}
use Rattle.ti_lang.specs.Meaning.Answers.{HasForm, FitsWanted}
use Rattle.ti_eval.specs.Forms.{IsFormedValue, IsFormedAnswer}

formed : (value : Value) (type : ValueType) → HasForm type value → IsFormedValue value
formed (v.Pt p) (t.Pt dim) h = h.form
formed (v.Pt p) t.Int h = absurd h
formed (v.Pt p) t.Long h = absurd h
formed (v.Pt p) t.Boolean h = absurd h
formed (v.Pt p) (t.Rc dim) h = absurd h
formed (v.Pt p) (t.Dm dim) h = absurd h
formed (v.Pt p) t.Region h = absurd h
formed (v.Pt p) (t.Class class is_local) h = absurd h
formed (v.Pt p) (t.Grid element dim is_local) h = absurd h
formed (v.Pt p) t.Null h = absurd h
formed (v.Pt p) t.Void h = absurd h
formed (v.Rc r) (t.Rc dim) h = h.form
formed (v.Rc r) t.Int h = absurd h
formed (v.Rc r) t.Long h = absurd h
formed (v.Rc r) t.Boolean h = absurd h
formed (v.Rc r) (t.Pt dim) h = absurd h
formed (v.Rc r) (t.Dm dim) h = absurd h
formed (v.Rc r) t.Region h = absurd h
formed (v.Rc r) (t.Class class is_local) h = absurd h
formed (v.Rc r) (t.Grid element dim is_local) h = absurd h
formed (v.Rc r) t.Null h = absurd h
formed (v.Rc r) t.Void h = absurd h
formed _ type h = tt

pub fits_formed : (wanted : Wanted) (r : Answer) → FitsWanted wanted r → IsFormedAnswer r
fits_formed ToBeDone r h = subst IsFormedAnswer (sym h) tt
fits_formed (ValueOf type) r h = subst IsFormedAnswer (sym h.1) (formed h.0 type h.2)
fits_formed (NewThing type) r h = subst IsFormedAnswer (sym h.1) (formed h.0 type h.2)
