use Rattle.std.proofs.Common.{◌++◌, [], flat_map, sym, ap, ◌∙◌}
use Rattle.std.specs.List.{list_any}
use Rattle.ti_syntax.specs.declared.tree.classes.Modifier.{Modifier}
use Rattle.ti_lang.specs.Members.{is_static_word}
use Rattle.ti_lang.specs.Program.Views.{numbered_params_of, numbered_result_of, numbered_method_of}
use Rattle.ti_lang.specs.Typing.Declared.{is_static_method}
use Rattle.ti_rules.specs.Mirrors.First.{earlier_of, earliest}
use Rattle.ti_rules.specs.Broken.Words.{repeated_modifiers, method_modifier_refusals}
use Rattle.ti_rules.specs.TypeRules.{result_refusals, params_refusals}
use Rattle.ti_rules.proofs.Lemmas.{first_append}
use Rattle.ti_check.proofs.declarations.head.Goals as goal

pub returns : goal.returns
returns c =
    let m = c.args.method.now in
    let words = m.modifiers.items in
    let again = repeated_modifiers [] words in
    let own = flat_map (method_modifier_refusals (is_static_method (numbered_method_of m))) words in
    let given = result_refusals (numbered_result_of m.result) in
    let taken = params_refusals m.single (numbered_params_of m.params) in
    c.earlier_of.ensures
    ∙ ap (λ a. earlier_of a c.params_words.result)
    (c.earlier_of-words.ensures
    ∙ ap (λ a. earlier_of a c.result_words.result)
    (c.earlier_of-modifiers.ensures
    ∙ ap (λ a. earlier_of a c.method_modifiers.result) (c.repeated_modifiers.ensures ∙ ap (λ l. earliest (repeated_modifiers [] l)) c.deref.ensures.value)
    ∙ ap (earlier_of (earliest again))
    (c.method_modifiers.ensures ∙ ap (λ l. earliest (flat_map (method_modifier_refusals c.has_static.result) l)) c.deref-3.ensures.value
    ∙ ap (λ b. earliest (flat_map (method_modifier_refusals b) words)) (c.has_static.ensures ∙ ap (λ l. list_any (λ (w : Modifier). is_static_word w.word) l) c.deref-2.ensures.value))
    ∙ sym (first_append again own))
    ∙ ap (earlier_of (earliest (again ++ own))) c.result_words.ensures ∙ sym (first_append (again ++ own) given))
    ∙ ap (earlier_of (earliest ((again ++ own) ++ given))) c.params_words.ensures ∙ sym (first_append ((again ++ own) ++ given) taken)
