-- The links of a chain of constraints, as reasons: what each rules out, and by which kind of
-- constraint.
use Rattle.std.specs.Prelude.{Bool, false, if◌then◌else◌, List, [], ◌∷◌, flat_map, Option, Some, None}
use Rattle.std.specs.List.{list_any}
use Rattle.ti_base.specs.declared.place.Place.{Place}
use Rattle.ti_base.specs.Places.{same_place}
use Rattle.ti_lang.specs.Program.Classes.{NumberedParam, NumberedParams, MainArgs, Params, NumberedMethod, ProgramView}
use Rattle.ti_blame.specs.declared.chains.ChainStep.{ChainStep}
use Rattle.ti_blame.specs.declared.implication.Conclusion.{Conclusion}
use Rattle.ti_blame.specs.declared.implication.Conclusion.TheVariants.{One, Between}
use Rattle.ti_blame.specs.declared.implication.Implication.{Implication}
use Rattle.ti_blame.specs.declared.mark.Mark.{Mark}
use Rattle.ti_blame.specs.declared.mark.MarkKind.TheVariants as mark
use Rattle.ti_blame.specs.declared.reason.Reason.{Reason}
use Rattle.ti_blame.specs.declared.reason.Reason.TheVariants.{OfMethod, OfResult, OfVariable, OfCollective, Always}
use Rattle.ti_blame.specs.Marks.{same_mark_kind}
use Rattle.ti_explain.specs.declared.reason.LinkCause.{LinkCause}
use Rattle.ti_explain.specs.declared.reason.LinkCause.TheVariants as cause
use Rattle.ti_explain.specs.declared.reason.LinkPart.{LinkPart}
use Rattle.ti_explain.specs.declared.reason.LinkPart.TheVariants as part
use Rattle.ti_explain.specs.declared.reason.ReasonKind.TheVariants.{Link}
use Rattle.ti_explain.specs.declared.reason.RefusalReason.{RefusalReason}

-- ---- what is ruled out

-- one of these parameters is declared at this position
abbrev pub is_among : Place → List NumberedParam → Bool
is_among at params = list_any (λ (w : NumberedParam). same_place at w.place) params

abbrev pub declares_at : Place → NumberedParams → Bool
declares_at at MainArgs = false
declares_at at (Params params) = is_among at params

-- a parameter of one of these methods is
abbrev pub method_declares_at : Place → List NumberedMethod → Bool
method_declares_at at methods = list_any (λ (m : NumberedMethod). declares_at at m.params) methods

-- what the variable is that is declared at this position of a program
abbrev pub variable_part : ProgramView → Place → LinkPart
variable_part p at = if method_declares_at at p.methods then part.Parameter else part.Variable

-- ---- by what

-- the premise is that a method is single
abbrev pub has_method : Option Mark → Bool
has_method None = false
has_method (Some m) = same_mark_kind mark.Method m.kind

-- a constraint by a value rules out one reason, one by a condition all those of a statement
abbrev pub cause_by : Conclusion → LinkCause
cause_by (One b) = cause.Value
cause_by (Between from to) = cause.Condition

-- by which kind of constraint
abbrev pub cause_of : Implication → LinkCause
cause_of i = if has_method i.from then cause.Method else cause_by i.then

-- ---- links

abbrev pub link_at : Place → LinkPart → LinkCause → List RefusalReason
link_at at what why =
    record { place = at; kind = Link (record { part = what; cause = why }) } ∷ []

-- the link that rules out a reason of a program; none for what holds unconditionally, which is in no
-- chain to a collective
abbrev pub reason_links : ProgramView → LinkCause → Reason → List RefusalReason
reason_links p why (OfMethod at) = link_at at part.Method why
reason_links p why (OfResult at) = link_at at part.Result why
reason_links p why (OfVariable at) = link_at at (variable_part p at) why
reason_links p why (OfCollective at) = link_at at part.Collective why
reason_links p why Always = []

abbrev pub step_links : ProgramView → ChainStep → List RefusalReason
step_links p s = reason_links p (cause_of s.implication) s.ruled_out

-- the links of a chain
abbrev pub chain_links : ProgramView → List ChainStep → List RefusalReason
chain_links p steps = flat_map (step_links p) steps
