-- Annotations as keys, ordered by line, column and kind.
use Rattle.std.specs.Prelude.{ℕ, ◌==◌, if◌then◌else◌, Option, Some, None}
use Rattle.std.specs.Ordering.{nat_cmp, ordering_then}
use Rattle.std.specs.declared.cmp.Ordering.{Ordering}
use Rattle.ti_base.specs.declared.place.Place.{Place}
use Rattle.ti_blame.specs.declared.reason.Reason.{Reason}
use Rattle.ti_blame.specs.declared.reason.Reason.TheVariants.{OfMethod, OfResult, OfVariable, OfCollective, Always}
use Rattle.ti_blame.specs.declared.mark.MarkKind.{MarkKind}
use Rattle.ti_blame.specs.declared.mark.MarkKind.TheVariants as kind
use Rattle.ti_blame.specs.declared.mark.Mark.{Mark}
use Rattle.ti_blame.specs.declared.mark.MarkKey.{MarkKey}

-- the order of annotations at one place
abbrev pub rank : MarkKind → ℕ
rank kind.Method = 0
rank kind.Result = 1
rank kind.Variable = 2

-- the kind with this rank
abbrev pub kind_of : ℕ → MarkKind
kind_of n = if n == 0 then kind.Method else (if n == 1 then kind.Result else kind.Variable)

-- the key of an annotation, and the annotation with a key
abbrev pub key_of : Mark → MarkKey
key_of m = record { line = m.place.line; col = m.place.col; rank = rank m.kind }

abbrev pub mark_at : MarkKey → Mark
mark_at n = record { place = record { line = n.line; col = n.col }; kind = kind_of n.rank }

-- the annotation that a reason is, if it is one
abbrev pub mark_of : Reason → Option Mark
mark_of (OfMethod at) = Some (record { place = at; kind = kind.Method })
mark_of (OfResult at) = Some (record { place = at; kind = kind.Result })
mark_of (OfVariable at) = Some (record { place = at; kind = kind.Variable })
mark_of (OfCollective at) = None
mark_of Always = None

-- an annotation as a reason
abbrev pub reason_at : Place → MarkKind → Reason
reason_at at kind.Method = OfMethod at
reason_at at kind.Result = OfResult at
reason_at at kind.Variable = OfVariable at

abbrev pub reason_of : Mark → Reason
reason_of m = reason_at m.place m.kind

-- the order of keys: by line, by column, and by kind
abbrev pub key_cmp : MarkKey → MarkKey → Ordering
key_cmp a b = ordering_then (nat_cmp a.line b.line) (ordering_then (nat_cmp a.col b.col) (nat_cmp a.rank b.rank))
