use Rattle.std.proofs.Common.{◌≡◌, drop, flat_map, map}
use Rattle.ti_rules.specs.Mirrors.First.{earlier_of, earliest}
use Rattle.ti_lang.specs.Program.Classes.{NumberedParam}
use Rattle.ti_rules.specs.Broken.Words.{type_word_refusals}
use Rattle.ti_lang.specs.Program.Views.{numbered_param_of}
use Rattle.ti_check.proofs.declarations.all_param_words.Given as goal

abbrev pub invariant-loop-param : goal.invariant-loop-param
invariant-loop-param l = earliest (flat_map (λ (x : NumberedParam). type_word_refusals l.may_be_single x.ty)
    (map numbered_param_of l.params))
    ≡ earlier_of l.found (earliest (flat_map (λ (x : NumberedParam). type_word_refusals l.may_be_single x.ty)
    (map numbered_param_of (drop l.param-index l.params))))
