use Rattle.std.proofs.Common.{◌+◌, ◌&&◌, map, drop, arith, ap, ◌∙◌}
use Rattle.std.proofs.lemmas.List.{drop_all}
use Rattle.ti_rules.specs.declared.rule.Rule.TheVariants.{N3}
use Rattle.ti_rules.specs.Refusals.{refused_if}
use Rattle.ti_rules.specs.Mirrors.First.{earlier_of, earliest}
use Rattle.ti_lang.specs.MainForm.{is_words}
use Rattle.ti_rules.specs.MainForm.{is_another, words_refusals}
use Rattle.ti_names.specs.MethodDecl.{method_decl_of}
use Rattle.ti_names.proofs.Firsts.{list_step, list_end}
use Rattle.ti_names.proofs.Walks.{drop_next}
use Rattle.ti_names.proofs.main_form.check_words.Goals as goal

pub returns : goal.returns
returns c = list_end c.loop-own.found _ _ c.loop-own.invariant (ap (λ l. words_refusals c.args.main c.loop-own.number (map method_decl_of l)) (drop_all c.loop-own.own-index c.args.methods.now (omega arith)))

pub loop-own-preserved : goal.loop-own-preserved
loop-own-preserved c =
    let x = method_decl_of c.own-item.result in
    let main = c.args.main in
    let number = c.loop-own.number in
    let rest = map method_decl_of (drop (c.loop-own.own-index + 1) c.args.methods.now) in
    let step = drop_next c.args.methods.now c.loop-own.own-index c.own-item.result (omega arith) c.own-item.is in
    let broken = c.refused_if.ensures ∙ ap (λ b. earliest (refused_if b N3 x.method.place)) c.is_words_elsewhere-elsewhere.ensures in
    ap (λ n. earlier_of c.earlier_of-found.result (earliest (words_refusals main n rest))) c.in_ok-number.ensures
    ∙ list_step c.loop-own.found c.earlier_of-found.result _ _ (refused_if (is_words x.method.params && is_another main number) N3 x.method.place) (words_refusals main (number + 1) rest)
    c.loop-own.invariant (ap (λ l. words_refusals main number (map method_decl_of l)) step) (c.earlier_of-found.ensures ∙ ap (earlier_of c.loop-own.found) broken)
