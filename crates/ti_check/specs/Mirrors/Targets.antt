-- For proofs only: the type of a target's receiver, and the first error of an assignment to it, given that of the value.
use Rattle.std.specs.Prelude.{◌≡◌, ◌++◌, if◌then◌else◌, Option, option_map}
use Rattle.ti_base.specs.declared.place.Place.{Place}
use Rattle.ti_lang.specs.declared.program.exprs.Expr.{Expr}
use Rattle.ti_lang.specs.declared.typing.ty_ref.TyRef.{TyRef}
use Rattle.ti_lang.specs.Program.Expressions.{NumberedExp}
use Rattle.ti_lang.specs.Program.Classes.{ProgramView}
use Rattle.ti_lang.specs.Program.Scope.{ScopeContents}
use Rattle.ti_lang.specs.Program.Views.{expression_of}
use Rattle.ti_lang.specs.Typing.TyRef.{ty_view}
use Rattle.ti_rules.specs.declared.rule.Rule.TheVariants.{Y1, Y2, Q2}
use Rattle.ti_rules.specs.declared.refusal.Refusal.{Refusal}
use Rattle.ti_rules.specs.Refusals.{refused_if}
use Rattle.ti_rules.specs.Mirrors.First.{earlier_of, earliest}
use Rattle.ti_rules.specs.Broken.Refused.{refusal_at}
use Rattle.ti_rules.specs.Broken.Targets.{is_foreach_variable, is_point_coordinate, is_hidden_local}
use Rattle.ti_types.specs.Results.{receiver_type}
use Rattle.ti_check.specs.declared.context.CheckContext.{CheckContext}
use Rattle.ti_check.specs.Mirrors.Contexts.{program_at, scope_at}

-- this is the type of the target's receiver, if it has one
abbrev pub IsReceiver : CheckContext → Expr → Option TyRef → Type 0
IsReceiver c target receiver =
    option_map ty_view receiver ≡ receiver_type (program_at c) (scope_at c) (expression_of target)

-- the first error of an assignment
abbrev pub write_refusal : ProgramView → ScopeContents → Place → NumberedExp → Option Refusal → Option Refusal
write_refusal p s at target value =
    if is_point_coordinate p s target then earliest (refusal_at Y1 at) else
    earlier_of (earliest (refused_if (is_foreach_variable target) Y2 at ++ refused_if (is_hidden_local p s target) Q2 at)) value
