use Rattle.std.proofs.Common.{◌≡◌, ◌∙◌, ◌++◌, ◌∷◌, ap, sym, append_assoc}
use Rattle.std.specs.Prelude.{codes, decimal}
use Rattle.std.specs.Cmp.{unsigned_Decides}
use Rattle.std.proofs.lemmas.Slice.Eq.{strip_prefix_is}
use Rattle.ti_trace_check.proofs.Names.{not_so}
use Rattle.ti_trace_check.proofs.naming.process_in.Goals as goal

pub returns-in_err-strip_prefix-clause-names : goal.returns-in_err-strip_prefix-clause-names
returns-in_err-strip_prefix-clause-names c = λ p more small z.
    let head : c.as_slice.result.now ≡ decimal c.args.number ++ codes " p" = c.as_slice.ensures ∙ c.text.ensures.text
    ∙ ap (λ h. h ++ codes " p") (c.number.ensures.text ∙ ap (λ h. h ++ decimal c.args.number) c.new-head.ensures) in
    absurd (not_so c.args.line.now c.as_slice.result.now c.strip_prefix.result
    (strip_prefix_is unsigned_Decides c.args.line.now c.as_slice.result.now c.strip_prefix.result c.strip_prefix.ensures.cases)
    c.in_err-strip_prefix.was (decimal p ++ 32 ∷ more)
    (z ∙ append_assoc (decimal c.args.number ++ codes " p") (decimal p) (32 ∷ more) ∙ ap (λ h. h ++ (decimal p ++ 32 ∷ more)) (sym head)))
