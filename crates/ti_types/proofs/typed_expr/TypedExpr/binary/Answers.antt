use Rattle.ti_types.specs.Results.{typed_of}
use Rattle.ti_types.proofs.Ints.{ints_sound}
use Rattle.std.proofs.Common.{refl}
use Rattle.ti_types.proofs.typed_expr.TypedExpr.binary.Goals as goal

pub returns-then-are_sound_ints-clause-first : goal.returns-then-are_sound_ints-clause-first
returns-then-are_sound_ints-clause-first c =
    let e = c.if-are_sound_ints.ensures in
    ints_sound c.args.operator c.args.inner c.args.other_inner c.args.place (typed_of c.args.self)
    (typed_of c.args.other) c.args.self.first c.args.other.first c.typed_binary.result.first
    (e.left refl)
    (e.right refl) (e.left_first refl) (e.right_first refl) c.typed_binary.ensures.first
