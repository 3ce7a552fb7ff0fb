use Rattle.ti_lang.specs.Meaning.Copies.{element_at}
use Rattle.ti_eval.proofs.TeamRects.{first_spanned}
use Rattle.ti_eval.proofs.proc_domain.rect_of_procs.Goals as goal

pub returns-clause-first : goal.returns-clause-first
returns-clause-first c = λ some.
    (c.in-Ok.ensures.points (element_at 0)).1
    (first_spanned c.args.procs _ _ _ c.element_at.ensures.value c.last_element.ensures.value c.element_at-2.ensures.value some)
