use Rattle.std.proofs.Common.{map, sym, subst}
use Rattle.ti_lang.specs.Program.Expressions.{numbered_exps, numbered_ranges}
use Rattle.ti_lang.specs.Program.Views.{expression_of, bound_of}
use Rattle.ti_lang.proofs.Lemmas.{seen_static_call, seen_own_call, seen_numbered_point, seen_numbered_rect, seen_numbered_member}
use Rattle.ti_lang.proofs.Lemmas.{seen_numbered_index}
use Rattle.ti_rules.specs.Mirrors.Literals.{InExp, InExps, InRanges}
use Rattle.ti_rules.proofs.reading.+read.Goals as goal

pub read-returns-in-Call : goal.read-returns-in-Call
read-returns-in-Call t c =
    subst InExp (sym (seen_static_call c.args.expr.now c.in-Call.place c.in-Call.method c.in-Call.args c.in-Call.is))
    (subst (λ xs. InExps (numbered_exps (map expression_of xs))) c.deref.ensures.value c.read_all.ensures)

pub read-returns-in-OwnCall : goal.read-returns-in-OwnCall
read-returns-in-OwnCall t c =
    subst InExp (sym (seen_own_call c.args.expr.now c.in-OwnCall.place c.in-OwnCall.method c.in-OwnCall.args c.in-OwnCall.is))
    (subst (λ xs. InExps (numbered_exps (map expression_of xs))) c.deref-in-OwnCall.ensures.value c.read_all-in-OwnCall.ensures)

pub read-returns-in-Point : goal.read-returns-in-Point
read-returns-in-Point t c =
    subst InExp (sym (seen_numbered_point c.args.expr.now c.in-Point.field-0 c.in-Point.parts c.in-Point.is))
    (subst (λ xs. InExps (numbered_exps (map expression_of xs))) c.deref-in-Point.ensures.value c.read_all-in-Point.ensures)

pub read-returns-in-Rect : goal.read-returns-in-Rect
read-returns-in-Rect t c =
    subst InExp (sym (seen_numbered_rect c.args.expr.now c.in-Rect.field-0 c.in-Rect.ranges c.in-Rect.is))
    (subst (λ rs. InRanges (numbered_ranges (map bound_of rs))) c.deref-in-Rect.ensures.value c.read_ranges.ensures)

pub read-returns-in-Member : goal.read-returns-in-Member
read-returns-in-Member t c =
    subst InExp (sym (seen_numbered_member c.args.expr.now c.in-Member.place c.in-Member.receiver c.in-Member.name c.in-Member.args c.in-Member.is)) (
      subst (λ x. InExp (expression_of x)) c.deref-in-Member.ensures c.read-in-Member.ensures,
      subst (λ xs. InExps (numbered_exps (map expression_of xs))) c.deref-in-Member-2.ensures.value c.read_all-in-Member.ensures,
    )

pub read-returns-in-Index : goal.read-returns-in-Index
read-returns-in-Index t c =
    subst InExp (sym (seen_numbered_index c.args.expr.now c.in-Index.place c.in-Index.receiver c.in-Index.indices c.in-Index.is)) (
      subst (λ x. InExp (expression_of x)) c.deref-in-Index.ensures c.read-in-Index.ensures,
      subst (λ xs. InExps (numbered_exps (map expression_of xs))) c.deref-in-Index-2.ensures.value c.read_all-in-Index.ensures,
    )
