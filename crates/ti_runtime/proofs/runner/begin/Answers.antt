use Rattle.std.proofs.Common.{[], ◌∙◌, sym, ap, subst}
use Rattle.ti_lang.specs.Program.Views.{program_of}
use Rattle.ti_lang.specs.Meaning.Processes.{RunConfig}
use Rattle.ti_code.specs.Follows.{Follows}
use Rattle.ti_runtime.specs.Mirrors.Processes.{IsSoloState}
use Rattle.ti_runtime.proofs.Finishing.{begun_seated}
use Rattle.ti_runtime.proofs.runner.begin.Goals as goal

pub begin-requires-clause-follows : goal.begin-requires-clause-follows
begin-requires-clause-follows g c =
    (g.J.RunConfigOf.config.program, subst (λ code. Follows code g.J.RunConfigOf.config.program) (sym c.requires.code) c.requires.may.runs.follows)

pub returns-clause-count : goal.returns-clause-count
returns-clause-count g c =
    let program = program_of c.args.checked.now.program.parts in
    let follows = subst (λ p. Follows c.args.code.now p) (sym (ap (λ (s : RunConfig). s.program) c.requires.terms))
    (subst (λ code. Follows code g.J.RunConfigOf.config.program) (sym c.requires.code) c.requires.may.runs.follows) in
    (c.in_ok-processes.ensures program follows).count ∙ ap (λ (s : RunConfig). s.procs) c.requires.terms

pub returns-clause-seated : goal.returns-clause-seated
returns-clause-seated g c =
    let program = program_of c.args.checked.now.program.parts in
    let follows = subst (λ p. Follows c.args.code.now p) (sym (ap (λ (s : RunConfig). s.program) c.requires.terms))
    (subst (λ code. Follows code g.J.RunConfigOf.config.program) (sym c.requires.code) c.requires.may.runs.follows) in
    let scheduler = c.in_ok-processes.field-0 in
    let stands = subst (λ code. IsSoloState code g.J.RunConfigOf.config [] scheduler.processes.items scheduler.cursor) c.requires.code
    (subst (λ s. IsSoloState c.args.code.now s [] scheduler.processes.items scheduler.cursor) c.requires.terms (c.in_ok-processes.ensures program follows)) in
    begun_seated g.J.CodeOf.code g.J.RunConfigOf.config c.in_ok-store.store.entries scheduler.processes.items scheduler.cursor c.in_ok-store.ensures.entries stands
