use Rattle.std.proofs.Common.{true, not, is_some, ap, ◌∙◌}
use Rattle.ti_lang.specs.Program.Types.{NumberedType}
use Rattle.ti_lang.specs.Program.Views.{type_use_of}
use Rattle.ti_rules.specs.Mirrors.First.{earliest}
use Rattle.ti_rules.specs.Broken.Words.{type_word_refusals}
use Rattle.ti_infer.specs.Marked.{marked_type}
use Rattle.ti_infer.proofs.FirstNone.{none_first}
use Rattle.ti_infer.proofs.constraints.fits.accepts_single.Goals as goal

pub returns : goal.returns
returns c =
    let t = type_use_of c.args.ty.now in
    c.is_unbroken.ensures ∙ ap (λ o. not (is_some o)) (c.type_words.ensures
    ∙ ap (λ (y : NumberedType). earliest (type_word_refusals true y)) (c.in_ok-mark_type.ensures
    ∙ ap (marked_type true c.args.place) c.in_ok-marked.ensures))
    ∙ none_first (type_word_refusals true (marked_type true c.args.place t))
