use Rattle.std.proofs.Common.{◌++◌, List, ap, ◌∙◌, subst}
use Rattle.ti_lang.specs.Program.Views.{program_of}
use Rattle.ti_blame.specs.declared.reason.Reason.{Reason}
use Rattle.ti_blame.specs.declared.implication.Implication.{Implication}
use Rattle.ti_blame.specs.declared.mark.Mark.{Mark}
use Rattle.ti_blame.specs.Solutions.{IsSolution}
use Rattle.ti_infer.specs.Mirrors.Implications.{all_reasons, program_edges}
use Rattle.ti_infer.specs.Mirrors.Fits.{fit_edges}
use Rattle.ti_infer.proofs.Answering.{are_inferred}
use Rattle.ti_infer.proofs.inference.solve_program.Goals as goal

pub returns : goal.returns
returns c =
    let p = program_of c.args.program.now.parts in
    let marks = c.in_ok-solution.solution.marks.items in
    let blamed = c.in_ok-solution.solution.blamed in
    record {
      all_names = c.in_ok-names.ensures;
      all_items = c.in_ok-found.ensures.items;
      all_edges = c.in_ok-fits.ensures ∙ ap (λ l. l ++ fit_edges p) c.in_ok-found.ensures.edges;
      solved = are_inferred p marks blamed c.args.program.now.numbered c.requires.types c.requires.stripped
          (subst (λ (ns : List Mark). IsSolution ns (all_reasons p) (program_edges p ++ fit_edges p) marks blamed) (c.deref.ensures.value ∙ c.in_ok-names.ensures)
          (subst (λ (xs : List Reason). IsSolution c.deref.result.now xs (program_edges p ++ fit_edges p) marks blamed) (c.deref-2.ensures.value ∙ c.in_ok-found.ensures.items)
          (subst (λ (es : List Implication). IsSolution c.deref.result.now c.deref-2.result.now es marks blamed) (c.deref-3.ensures.value
          ∙ c.in_ok-fits.ensures ∙ ap (λ l. l ++ fit_edges p) c.in_ok-found.ensures.edges) c.in_ok-solution.ensures)));
    }
