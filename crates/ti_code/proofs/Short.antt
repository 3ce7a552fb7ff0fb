-- Proves that instructions that stay in their frame request at most one action.
use Rattle.std.proofs.Common.{inl, ℕ, ◌*◌, slice_get, Bool, true, false, if◌then◌else◌, List, [], ◌∷◌, Option, Some, None}
use Rattle.ti_base.specs.declared.place.Place.{Place}
use Rattle.ti_base.specs.declared.point.Point.{Point}
use Rattle.std.specs.Prelude.{pos, slice_index_or}
use Rattle.ti_base.specs.declared.action.Action.TheVariants as act
use Rattle.ti_lang.specs.Program.Types as t
use Rattle.ti_lang.specs.Program.Types.{ValueType}
use Rattle.ti_lang.specs.Meaning.Held.{Held, point_of, plain_of, points_in, truth_of}
use Rattle.ti_lang.specs.Meaning.Comp.{Request, Reference, gives, asked, request_through, ToBeDone}
use Rattle.ti_lang.specs.Meaning.CellRefs.{Field, Element}
use Rattle.ti_code.specs.declared.instr.Instr.{Instr}
use Rattle.ti_code.specs.declared.instr.Instr.TheVariants as i
use Rattle.ti_lang.specs.Meaning.Literals as literal
use Rattle.ti_code.specs.Effects.{LocalState, Who, effect, top, below, under, top_operands, receiver_needed, binary_operator_of, built_in_member, numbers_of, range_bounds, rect_of_ranges, next_point, continue_after, on_with}
use Rattle.ti_lang.proofs.Lemmas.{Silent, silent_value, silent_guarded, to_domain_silent, operated_silent, Short, asked_once, short_then}
use Rattle.ti_lang.proofs.Lemmas.{needed_then, fetched_short, silent_coordinate, member_short}

silent_if : {A : Type 0} (test : Bool) (x y : A) → Silent (if test then gives x else gives y)
silent_if true x y = silent_value x
silent_if false x y = silent_value y

-- ---- all instructions

abbrev put_field : Reference → Place → ℕ → Held → Request
put_field r at field h = request_through r at (act.PutField r.thing field (plain_of h)) ToBeDone

abbrev put_element : Reference → Place → Held → Held → Request
put_element r at p h = request_through r at (act.PutElem r.thing (point_of p) (plain_of h)) ToBeDone

receiver_short : (at : Place) (o : Option (Option ℕ)) (s : LocalState) → Short (receiver_needed at o s)
receiver_short at (Some (Some n)) s = needed_then at t.Void (top (under n s.stack)) (λ r. gives s) (λ r. inl (silent_value s))
receiver_short at (Some None) s = inl (silent_value s)
receiver_short at None s = inl (silent_value s)

next_silent : (k target : ℕ) (s : LocalState) (ps : List Point) → Silent (next_point k target s ps)
next_silent k target s [] = silent_value _
next_silent k target s (p ∷ ps) = silent_value _

ranges_short : (n : ℕ) (at : Place) (s : LocalState) → Short (rect_of_ranges n at s)
ranges_short n at s = short_then (literal.rect_within at (range_bounds (top_operands (3 * n) s.stack []))) _ (inl (silent_guarded _ _ at _))

pub effect_short : (w : Who) (instr : Instr) (s : LocalState) → Short (effect w instr s)
effect_short w (i.Operate o at) s = short_then _ _ (inl (operated_silent at (binary_operator_of o) _ _))
effect_short w (i.ToDom at) s = short_then _ _ (inl (to_domain_silent at (top s.stack)))
effect_short w (i.Coord n at) s = short_then _ _ (inl (silent_coordinate at (point_of (top (under n s.stack))) (slice_index_or (numbers_of (top_operands n s.stack [])) 0 (pos 0))))
effect_short w (i.Member k n at) s = short_then _ _ (member_short at t.Void (Some (built_in_member k)) t.Void _ _)
effect_short w (i.CastLocal at) s = short_then _ _ (inl (silent_guarded _ _ at _))
effect_short w (i.JumpIf target) s = inl (silent_if (truth_of (top s.stack)) _ _)
effect_short w (i.JumpIfNot target) s = inl (silent_if (truth_of (top s.stack)) _ _)
effect_short w (i.GetField field at) s = short_then _ _ (fetched_short at t.Void (Field (top s.stack) t.Void field))
effect_short w (i.PutField field at) s = needed_then at t.Void (top (below s.stack)) (λ r. continue_after s (below (below s.stack)) (asked (put_field r at field (top s.stack))))
    (λ r. short_then (asked (put_field r at field (top s.stack))) (λ h. on_with s s.slots (below (below s.stack))) (asked_once (put_field r at field (top s.stack))))
effect_short w (i.GetElem at) s = short_then _ _ (fetched_short at t.Void (Element (top (below s.stack)) t.Void (point_of (top s.stack))))
effect_short w (i.PutElem at) s = needed_then at t.Void (top (below (below s.stack))) (λ r. continue_after s (below (below (below s.stack))) (asked (put_element r at (top (below s.stack)) (top s.stack))))
    (λ r. short_then (asked (put_element r at (top (below s.stack)) (top s.stack))) (λ h. on_with s s.slots (below (below (below s.stack))))
    (asked_once (put_element r at (top (below s.stack)) (top s.stack))))
effect_short w (i.Print literal true at) s = short_then _ _ (asked_once _)
effect_short w (i.Print literal false at) s = short_then _ _ (asked_once _)
effect_short w (i.MakeRect n at) s = ranges_short n at s
effect_short w (i.RectOfPts at) s = ranges_short 1 at s
effect_short w (i.Next k target) s = inl (next_silent k target s (points_in (top s.stack)))
effect_short w (i.NewObj class at) s = short_then _ _ (asked_once _)
effect_short w (i.NewGrid initial at) s = short_then _ _ (asked_once _)
effect_short w (i.Take at) s = short_then _ _ (asked_once _)
effect_short w (i.GridTest at) s = inl (silent_guarded _ _ at _)
effect_short w i.AsObj s = inl (silent_value _)
effect_short w i.AsGrid s = inl (silent_value _)
effect_short w i.Common s = inl (silent_value _)
effect_short w i.Step s = inl (silent_value _)
effect_short w (i.Const value) s = inl (silent_value _)
effect_short w (i.EmptyDom dim) s = inl (silent_value _)
effect_short w (i.Load k) s = inl (silent_value _)
effect_short w i.ThisProc s = inl (silent_value _)
effect_short w i.NumProcs s = inl (silent_value _)
effect_short w (i.Alone op) s = inl (silent_value _)
effect_short w i.Widen s = inl (silent_value _)
effect_short w i.Narrow s = inl (silent_value _)
effect_short w (i.MakePt n) s = inl (silent_value _)
effect_short w (i.RootTest at) s = inl (silent_guarded _ _ at _)
effect_short w (i.Call k at) s = receiver_short at (slice_get w.receivers k) s
effect_short w other s = inl (silent_value _)
