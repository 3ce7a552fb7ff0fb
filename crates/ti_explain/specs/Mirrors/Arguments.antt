-- For proofs only: what is told of the arguments of a call from one on.
use Rattle.std.specs.Prelude.{ℕ, List, map, drop}
use Rattle.ti_base.specs.declared.place.Place.{Place}
use Rattle.ti_syntax.specs.Trees.Classes.{TextTree}
use Rattle.ti_lang.specs.declared.program.exprs.Expr.{Expr}
use Rattle.ti_lang.specs.declared.program.classes.Param.{Param}
use Rattle.ti_lang.specs.Program.Expressions.{numbered_exps}
use Rattle.ti_lang.specs.Program.Classes.{ProgramView}
use Rattle.ti_lang.specs.Program.Scope.{ScopeContents}
use Rattle.ti_lang.specs.Program.Views.{expression_of, numbered_param_of}
use Rattle.ti_explain.specs.declared.reason.RefusalReason.{RefusalReason}
use Rattle.ti_explain.specs.TypeReasons.{arguments_told}

abbrev pub told_from : TextTree → ProgramView → ScopeContents → Place → List Expr → List Param → ℕ → List RefusalReason
told_from text p s at args params i =
    arguments_told text p s at (numbered_exps (map expression_of (drop i args))) (map numbered_param_of (drop i params))
