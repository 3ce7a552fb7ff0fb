use Rattle.std.proofs.Common.{rules}
use Rattle.std.specs.Prelude.{not}
use Rattle.std.proofs.lemmas.Fn.{filter_same}
use Rattle.ti_syntax.specs.declared.tree.types.Qualifier.{Qualifier}
use Rattle.ti_lang.specs.Scopes.{is_single_word}
use Rattle.ti_infer.proofs.strip.types.strip_qualifiers.Goals as goal

pub returns : goal.returns
returns c = filter_same _ (λ (q : Qualifier). not (is_single_word q.word)) _ (λ x b q h. search rules) _ _ c.retain.ensures.filtered
