-- The reasons for a collective that no annotations align: the links of a chain, and for a chain of
-- one link the part of a condition, or of the root or region, that no annotation makes single.
use Rattle.std.specs.Prelude.{Bool, true, false, if◌then◌else◌, List, [], ◌∷◌, ◌++◌, Option, None}
use Rattle.ti_base.specs.declared.place.Place.{Place}
use Rattle.ti_lang.specs.Program.Classes.{ProgramView}
use Rattle.ti_blame.specs.declared.chains.ChainStep.{ChainStep}
use Rattle.ti_blame.specs.declared.reason.Reason.{Reason}
use Rattle.ti_blame.specs.declared.reason.Reason.TheVariants.{OfMethod, OfResult, OfVariable, OfCollective, Always}
use Rattle.ti_explain.specs.declared.reason.LinkCause.{LinkCause}
use Rattle.ti_explain.specs.declared.reason.LinkCause.TheVariants as cause
use Rattle.ti_explain.specs.declared.reason.PlainPart.{PlainPart}
use Rattle.ti_explain.specs.declared.reason.RefusalReason.{RefusalReason}
use Rattle.ti_explain.specs.SingleReasons.{plain_reason}
use Rattle.ti_explain_infer.specs.ChainLinks.{cause_of, chain_links}
use Rattle.ti_explain_infer.specs.FixedParts.{collective_part}

abbrev pub is_of_collective : Reason → Bool
is_of_collective (OfCollective at) = true
is_of_collective reason = false

-- what no annotation makes single of the collective at this position, for a link by this kind of
-- constraint
abbrev pub part_by : ProgramView → Place → LinkCause → Option PlainPart
part_by p at cause.Condition = collective_part p true at
part_by p at cause.Value = collective_part p false at
part_by p at cause.Method = None

-- that of a chain that begins at the collective, which is then its only link
abbrev pub leading_part : ProgramView → Place → List ChainStep → Option PlainPart
leading_part p at [] = None
leading_part p at (s ∷ rest) = if is_of_collective s.ruled_out then part_by p at (cause_of s.implication) else None

-- the reasons for the collective at this position: from what can't be single to the collective
abbrev pub chain_reasons : ProgramView → Place → List ChainStep → List RefusalReason
chain_reasons p at steps = plain_reason (leading_part p at steps) ++ chain_links p steps
