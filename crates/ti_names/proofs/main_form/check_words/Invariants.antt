use Rattle.std.proofs.Common.{◌≡◌, map, drop}
use Rattle.ti_rules.specs.Mirrors.First.{earlier_of, earliest}
use Rattle.ti_rules.specs.MainForm.{words_refusals}
use Rattle.ti_names.specs.MethodDecl.{method_decl_of}
use Rattle.ti_names.proofs.main_form.check_words.Given as goal

abbrev pub invariant-loop-own : goal.invariant-loop-own
invariant-loop-own l = earlier_of l.found (earliest (words_refusals l.main l.number (map method_decl_of (drop l.own-index l.methods)))) ≡ earliest (words_refusals l.main 0 (map method_decl_of l.methods))
