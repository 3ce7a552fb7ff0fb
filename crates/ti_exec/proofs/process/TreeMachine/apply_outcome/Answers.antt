use Rattle.std.proofs.Common.{sym, refl, ap, List, ◌∷◌}
use Rattle.ti_lang.specs.Program.Views.{program_of}
use Rattle.ti_lang.specs.Meaning.Comp.{ToBeDone}
use Rattle.ti_lang.specs.Meaning.Processes.{ContItem, Nowhere}
use Rattle.ti_exec.specs.declared.process.StepOutcome.TheVariants.{Continue}
use Rattle.ti_exec.specs.States.{top_of, below_of, context_of_call, body_of, rest}
use Rattle.ti_exec.proofs.Works.{left_within, moved_as, moved_in, of_result}
use Rattle.ti_exec.proofs.process.TreeMachine.apply_outcome.Goals as goal

pub returns-in-Goes : goal.returns-in-Goes
returns-in-Goes c = moved_in (program_of c.args.program.now) c.args.self.now c.change_variables.new.self c.change_variables.result _ _ c.in-Goes.is (c.change_variables.ensures (program_of c.args.program.now))

pub returns-in-Breaks : goal.returns-in-Breaks
returns-in-Breaks c = moved_as (program_of c.args.program.now) c.args.self.now c.breaks.new.self Continue _ _ c.in-Breaks.is c.breaks.ensures

pub returns-in-Continues : goal.returns-in-Continues
returns-in-Continues c = moved_as (program_of c.args.program.now) c.args.self.now c.continues.new.self Continue _ _ c.in-Continues.is c.continues.ensures

pub returns-in-Calls : goal.returns-in-Calls
returns-in-Calls c = moved_in (program_of c.args.program.now) c.args.self.now c.begin_call.new.self c.begin_call.result _ _ c.in-Calls.is (c.begin_call.ensures (program_of c.args.program.now))

pub returns-in-Returns : goal.returns-in-Returns
returns-in-Returns c =
    let p = program_of c.args.program.now in
    moved_as p c.args.self.now _ _ _ _ c.in-Returns.is (λ ws. c.returns.ensures p ws (rest p c.args.self.now.rank.procs c.args.self.now.top))

pub returns-in-Meets : goal.returns-in-Meets
returns-in-Meets c =
    let p = program_of c.args.program.now in
    let w = c.args.self.now in
    let left = sym (left_within (context_of_call p w.rank.procs w.top) (body_of p w.top) w.top.levels.items c.in-Meets.resume c.requires) in
    moved_in p w _ c.arrives.result _ _ c.in-Meets.is
    (of_result c.arrives.result _ _ (λ t arrives ws. arrives p _ ToBeDone Nowhere (ap (λ (xs : List ContItem). top_of p w xs ∷ below_of p w) left) refl) c.arrives.ensures)

pub returns-in-Expects : goal.returns-in-Expects
returns-in-Expects c =
    let p = program_of c.args.program.now in
    moved_in p c.args.self.now _ c.arrives-in-Expects.result _ _ c.in-Expects.is (of_result c.arrives-in-Expects.result _ _ (λ t arrives ws. arrives p _ _ _ refl refl) c.arrives-in-Expects.ensures)

pub returns-in-Deletes : goal.returns-in-Deletes
returns-in-Deletes c =
    let p = program_of c.args.program.now in
    moved_in p c.args.self.now _ c.deletes.result _ _ c.in-Deletes.is (of_result c.deletes.result _ _ (λ t deletes. deletes p) c.deletes.ensures)
