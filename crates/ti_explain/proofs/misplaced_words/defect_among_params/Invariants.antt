use Rattle.std.proofs.Common.{◌≡◌, map, drop}
use Rattle.ti_lang.specs.Program.Views.{numbered_param_of}
use Rattle.ti_explain.specs.MisplacedWords.{defect_among_params}
use Rattle.ti_explain.proofs.misplaced_words.defect_among_params.Given as goal

abbrev pub invariant-loop-param : goal.invariant-loop-param
invariant-loop-param l = defect_among_params l.is_single l.place (map numbered_param_of l.params) ≡ defect_among_params l.is_single l.place (map numbered_param_of (drop l.param-index l.params))
