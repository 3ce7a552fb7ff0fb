use Rattle.std.proofs.Common.{map, ap, sym, ◌∙◌}
use Rattle.std.specs.Option.{option_or}
use Rattle.ti_lang.specs.Program.Expressions.{numbered_exps, numbered_ranges}
use Rattle.ti_lang.specs.Program.Scope.{contents_of}
use Rattle.ti_lang.specs.Program.Views.{program_of, expression_of, bound_of}
use Rattle.ti_lang.proofs.Lemmas.{seen_static_call, seen_own_call, seen_numbered_point, seen_numbered_rect, seen_numbered_member, seen_numbered_index}
use Rattle.ti_explain.specs.FaultyParts.{itself, first_part, first_among, first_among_ranges}
use Rattle.ti_explain.proofs.faulty_parts.+parts.Goals as goal

pub first_operand-returns-in-Call : goal.first_operand-returns-in-Call
first_operand-returns-in-Call t c =
    let p = program_of c.args.program.now.parts in
    let s = contents_of c.args.scope.now in
    let seen = seen_static_call c.args.expr.now c.in-Call.place c.in-Call.method c.in-Call.args c.in-Call.is in
    let found = c.first_among.ensures ∙ ap (λ l. first_among p s c.args.sought (numbered_exps (map expression_of l))) c.deref_exprs.ensures in
    (λ j. option_or (found j) (itself p s c.args.sought (seen j))) ∙ sym (ap (first_part p s c.args.sought) seen)

pub first_operand-returns-in-OwnCall : goal.first_operand-returns-in-OwnCall
first_operand-returns-in-OwnCall t c =
    let p = program_of c.args.program.now.parts in
    let s = contents_of c.args.scope.now in
    let seen = seen_own_call c.args.expr.now c.in-OwnCall.place c.in-OwnCall.method c.in-OwnCall.args c.in-OwnCall.is in
    let found = c.first_among-in-OwnCall.ensures ∙ ap (λ l. first_among p s c.args.sought (numbered_exps (map expression_of l))) c.deref_exprs-in-OwnCall.ensures in
    (λ j. option_or (found j) (itself p s c.args.sought (seen j))) ∙ sym (ap (first_part p s c.args.sought) seen)

pub first_operand-returns-in-Point : goal.first_operand-returns-in-Point
first_operand-returns-in-Point t c =
    let p = program_of c.args.program.now.parts in
    let s = contents_of c.args.scope.now in
    let seen = seen_numbered_point c.args.expr.now c.in-Point.field-0 c.in-Point.xs c.in-Point.is in
    let found = c.first_among-in-Point.ensures ∙ ap (λ l. first_among p s c.args.sought (numbered_exps (map expression_of l))) c.deref_exprs-in-Point.ensures in
    (λ j. option_or (found j) (itself p s c.args.sought (seen j))) ∙ sym (ap (first_part p s c.args.sought) seen)

pub first_operand-returns-in-Rect : goal.first_operand-returns-in-Rect
first_operand-returns-in-Rect t c =
    let p = program_of c.args.program.now.parts in
    let s = contents_of c.args.scope.now in
    let seen = seen_numbered_rect c.args.expr.now c.in-Rect.field-0 c.in-Rect.found c.in-Rect.is in
    let found = c.first_among_ranges.ensures ∙ ap (λ l. first_among_ranges p s c.args.sought (numbered_ranges (map bound_of l))) c.deref_ranges.ensures in
    (λ j. option_or (found j) (itself p s c.args.sought (seen j))) ∙ sym (ap (first_part p s c.args.sought) seen)

pub first_operand-returns-in-Member : goal.first_operand-returns-in-Member
first_operand-returns-in-Member t c =
    let p = program_of c.args.program.now.parts in
    let s = contents_of c.args.scope.now in
    let receiver = c.first_part-receiver.ensures ∙ ap (λ z. first_part p s c.args.sought (expression_of z)) c.deref_expr-in-Member.ensures in
    let args = c.first_among-in-Member.ensures ∙ ap (λ l. first_among p s c.args.sought (numbered_exps (map expression_of l))) c.deref_exprs-in-Member.ensures in
    let seen = seen_numbered_member c.args.expr.now c.in-Member.place c.in-Member.receiver c.in-Member.name c.in-Member.args c.in-Member.is in
    let found = c.first_of-in-Member.ensures ∙ (λ j. option_or (receiver j) (args j)) in
    (λ j. option_or (found j) (itself p s c.args.sought (seen j))) ∙ sym (ap (first_part p s c.args.sought) seen)

pub first_operand-returns-in-Index : goal.first_operand-returns-in-Index
first_operand-returns-in-Index t c =
    let p = program_of c.args.program.now.parts in
    let s = contents_of c.args.scope.now in
    let receiver = c.first_part-receiver-in-Index.ensures ∙ ap (λ z. first_part p s c.args.sought (expression_of z)) c.deref_expr-in-Index.ensures in
    let indices = c.first_among-in-Index.ensures ∙ ap (λ l. first_among p s c.args.sought (numbered_exps (map expression_of l))) c.deref_exprs-in-Index.ensures in
    let seen = seen_numbered_index c.args.expr.now c.in-Index.place c.in-Index.receiver c.in-Index.indices c.in-Index.is in
    let found = c.first_of-in-Index.ensures ∙ (λ j. option_or (receiver j) (indices j)) in
    (λ j. option_or (found j) (itself p s c.args.sought (seen j))) ∙ sym (ap (first_part p s c.args.sought) seen)
