use Rattle.std.proofs.Common.{List, ◌∷◌}
use Rattle.ti_lang.specs.Program.Classes.{ProgramView}
use Rattle.ti_lang.specs.Program.Views.{program_of}
use Rattle.ti_lang.specs.Meaning.Comp.{CompResult}
use Rattle.ti_lang.specs.Meaning.Moves.{Move}
use Rattle.ti_lang.specs.Meaning.Processes.{ContItem, Do}
use Rattle.ti_lang.specs.Meaning.Steps.{Step, step_of_result}
use Rattle.ti_eval.specs.declared.frame.Resume.TheVariants.{Here}
use Rattle.ti_eval.specs.Comes.{Stops}
use Rattle.ti_moves.specs.Outcomes.{move_after}
use Rattle.ti_exec.specs.States.{IsStep, IsStepOutcome, IsApplied, process_of, env_in, context_of_call, body_of, innermost_stmt, rest}
use Rattle.ti_exec.proofs.Asked.{valued_gives}
use Rattle.ti_exec.proofs.Works.{left_within, walks_at, turn_at, of_result}
use Rattle.ti_exec.proofs.process.TreeMachine.at_statement.Goals as goal

pub returns-in-Ok : goal.returns-in-Ok
returns-in-Ok c =
    let p = program_of c.args.program.now in
    let w = c.args.self.now in
    let new = c.apply_outcome.new.self in
    let ws : List ContItem = Do (innermost_stmt p w.top) ∷ rest p w.rank.procs w.top in
    let left = left_within (context_of_call p w.rank.procs w.top) (body_of p w.top) w.top.levels.items Here c.requires.inner in
    of_result c.apply_outcome.result (λ t. IsApplied p w (move_after (env_in p w) (innermost_stmt p w.top) c.in-Ok.m) t new) (λ t. IsStepOutcome p w t new)
    (λ t h. turn_at p w new _ t (walks_at p w Here ws c.requires.mode left) (valued_gives p (process_of p w) _ _ _ _ _ _ c.in-Ok.ensures (h ws))) c.apply_outcome.ensures

pub returns-in-Err : goal.returns-in-Err
returns-in-Err c =
    let p = program_of c.args.program.now in
    let w = c.args.self.now in
    let ws : List ContItem = Do (innermost_stmt p w.top) ∷ rest p w.rank.procs w.top in
    let left = left_within (context_of_call p w.rank.procs w.top) (body_of p w.top) w.top.levels.items Here c.requires.inner in
    of_result c.stops.result (λ t. (g : ProgramView) (got : CompResult Move) (go : Move → Step) → Stops c.in-Err.stop got
    → IsStep g (process_of g w) (step_of_result (process_of g w) got go) t w) (λ t. IsStepOutcome p w t w)
    (λ t h. turn_at p w w _ t (walks_at p w Here ws c.requires.mode left) (h p _ _ c.in-Err.ensures)) c.stops.ensures
