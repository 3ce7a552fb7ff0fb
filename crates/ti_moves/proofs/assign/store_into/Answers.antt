use Rattle.std.proofs.Common.{◌≡◌, sym, subst, List, Result}
use Rattle.std.specs.Borrow.{Bor}
use Rattle.ti_base.specs.declared.entry.Answer.{Answer}
use Rattle.ti_lang.specs.Meaning.Held.{Held}
use Rattle.ti_lang.specs.Meaning.Comp.{Comp}
use Rattle.ti_lang.specs.Meaning.Scoping.{Env}
use Rattle.ti_lang.specs.Meaning.Targets.{into}
use Rattle.ti_eval.specs.declared.interrupt.Interrupt.{Interrupt}
use Rattle.ti_eval.specs.Comes.{ComesAs}
use Rattle.ti_eval.specs.Envs.{env_of}
use Rattle.ti_moves.specs.declared.outcomes.VarUpdate.{VarUpdate}
use Rattle.ti_moves.specs.declared.assign.Dest.{Dest}
use Rattle.ti_moves.specs.Outcomes.{update_variables}
use Rattle.ti_moves.specs.Receiving.{dest_seen, right_seen}
use Rattle.ti_moves.proofs.assign.store_into.Goals as goal

-- it is this receiver
at_receiver : (E : Env) (right : Comp Held) (answers : List Answer) (result : Result (VarUpdate × Bor (List Answer)) Interrupt) (r s : Dest) → r ≡ s
    → ComesAs (λ (d : VarUpdate). update_variables d E.variables) result (into E (dest_seen s) right answers)
    → ComesAs (λ (d : VarUpdate). update_variables d E.variables) result (into E (dest_seen r) right answers)
at_receiver E right answers result r s is comes =
    subst (λ (t : Dest). ComesAs (λ (d : VarUpdate). update_variables d E.variables) result (into E (dest_seen t) right answers)) (sym is) comes

pub returns-in-Declared : goal.returns-in-Declared
returns-in-Declared c =
    let E = env_of c.args.env.now in
    at_receiver E (right_seen E c.args.right) c.args.answers.now c.store_in_new.result c.args.dest _ c.in-Declared.is
    c.store_in_new.ensures

pub returns-in-Assigned : goal.returns-in-Assigned
returns-in-Assigned c =
    let E = env_of c.args.env.now in
    at_receiver E (right_seen E c.args.right) c.args.answers.now c.assign_target.result c.args.dest _ c.in-Assigned.is
    c.assign_target.ensures

pub returns-in-Updated : goal.returns-in-Updated
returns-in-Updated c =
    let E = env_of c.args.env.now in
    at_receiver E (right_seen E c.args.right) c.args.answers.now c.update_target.result c.args.dest _ c.in-Updated.is
    c.update_target.ensures
