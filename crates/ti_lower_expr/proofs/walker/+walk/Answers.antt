use Rattle.std.proofs.Common.{◌≡◌, ◌∙◌, refl, sym, ap, subst, ◌+◌, ◌++◌, List, map, length}
use Rattle.std.proofs.Common.{take, drop, get_or, ℕ, arith, OnOk}
use Rattle.std.proofs.lemmas.Result.{on_ok_weaker, on_err_weaker}
use Rattle.ti_lang.specs.declared.program.exprs.Expr.{Expr}
use Rattle.ti_lang.specs.declared.program.exprs.Range.{Range}
use Rattle.ti_lang.specs.Program.Types.{ValueType}
use Rattle.ti_lang.specs.Program.Expressions.{NumberedExp, NumberedExps, NumberedRanges, rect}
use Rattle.ti_lang.specs.Program.Expressions.{numbered_exps, numbered_ranges}
use Rattle.ti_lang.specs.Program.Views.{expression_of, bound_of}
use Rattle.ti_lang.specs.Typing.Kinds.{is_point_type}
use Rattle.ti_lang.specs.Typing.TyRef.{ty_view}
use Rattle.ti_lang.specs.Typing.TextTypes.{how_many}
use Rattle.ti_lang.proofs.Lemmas.{seen_numbered_rect, seen_numbered_member, seen_numbered_index}
use Rattle.ti_lower_expr.specs.Coding.{member_code, index_code}
use Rattle.ti_code.specs.declared.instr.Instr.{Instr}
use Rattle.ti_lower_expr.specs.Contents.{BeginsWith}
use Rattle.ti_lower_expr.specs.Mirrors.Sites.{type_in, called_behind, walked_in, range_in, all_in, ranges_in}
use Rattle.ti_lower_expr.proofs.Beginning.{on_any_err, same_begins, both_begin, jump_begins, walked_begins, all_begin, range_begins, ranges_begin}
use Rattle.ti_lower_expr.proofs.Growing.{exps_at, ranges_at}
use Rattle.ti_lower_expr.proofs.walker.+walk.Goals as goal

pub walk_all-loop-x-init : goal.walk_all-loop-x-init
walk_all-loop-x-init t c = record { code = refl; begins = same_begins refl }

pub walk_all-loop-x-preserved : goal.walk_all-loop-x-preserved
walk_all-loop-x-preserved t c =
    let s = c.args.context.now in
    let xs = c.args.exprs.now in
    let j = c.loop-x.x-index in
    let d = c.x-item.result in
    let one = subst (λ (z : Expr). c.walk.new.out.items ≡ walked_in s (expression_of z) c.loop-x.out.items) c.x-item.is c.in_ok-walk.ensures.code in
    record {
      code = ap (all_in s (numbered_exps (map expression_of (drop (j + 1) xs)))) one
          ∙ ap (λ (ys : NumberedExps). all_in s ys c.loop-x.out.items) (sym (exps_at xs j d c.loop-x-test.true)) ∙ c.loop-x.invariant.code;
      begins = both_begin c.loop-x.invariant.begins (walked_begins s (expression_of (get_or xs j d)) one);
    }

pub walk_ranges-loop-r-init : goal.walk_ranges-loop-r-init
walk_ranges-loop-r-init t c = record { code = refl; begins = same_begins refl }

pub walk_ranges-loop-r-preserved : goal.walk_ranges-loop-r-preserved
walk_ranges-loop-r-preserved t c =
    let s = c.args.context.now in
    let rs = c.args.ranges.now in
    let j = c.loop-r.r-index in
    let d = c.r-item.result in
    let one = subst (λ (z : Range). c.walk_range.new.out.items ≡ range_in s (bound_of z) c.loop-r.out.items) c.r-item.is c.in_ok-walk_range.ensures.code in
    record {
      code = ap (ranges_in s (numbered_ranges (map bound_of (drop (j + 1) rs)))) one
          ∙ ap (λ (ys : NumberedRanges). ranges_in s ys c.loop-r.out.items) (sym (ranges_at rs j d c.loop-r-test.true)) ∙ c.loop-r.invariant.code;
      begins = both_begin c.loop-r.invariant.begins (range_begins s (bound_of (get_or rs j d)) one);
    }

-- ---- out of memory

pub append_operator-returns-in_err-emit-in-Never-clause-err : goal.append_operator-returns-in_err-emit-in-Never-clause-err
append_operator-returns-in_err-emit-in-Never-clause-err t c =
    on_any_err _ (both_begin (walked_begins c.args.context.now (expression_of c.args.right.now) c.in_ok-t-in-Never.ensures.code) c.in_err-emit-in-Never.ensures.err)

pub append_operator-returns-in_err-close_short_circuit-in-Where-clause-err : goal.append_operator-returns-in_err-close_short_circuit-in-Where-clause-err
append_operator-returns-in_err-close_short_circuit-in-Where-clause-err t c =
    let o = c.args.out.now.items in
    let long : c.len-jump.result ≡ length o = omega (arith, c.len-jump.ensures) in
    let before = subst (BeginsWith c.walk-in-Where.new.out.items) c.in_ok-emit-in-Where.ensures.code (walked_begins c.args.context.now (expression_of c.args.right.now) c.in_ok-t-in-Where.ensures.code) in
    let after = subst (λ (n : ℕ). BeginsWith c.close_short_circuit.new.out.items (take n c.walk-in-Where.new.out.items)) long c.in_err-close_short_circuit-in-Where.ensures.err in
    on_any_err _ (jump_begins o c.walk-in-Where.new.out.items c.close_short_circuit.new.out.items c.jump_where.result before after)

pub walk-returns-in_err-second-in-Binary-clause-err : goal.walk-returns-in_err-second-in-Binary-clause-err
walk-returns-in_err-second-in-Binary-clause-err t c =
    let x = expression_of c.deref-in-Binary.result.now in
    on_any_err _
    (both_begin (walked_begins c.args.context.now x c.in_ok-first-in-Binary.ensures.code)
    c.in_err-second-in-Binary.ensures.err)

pub walk-returns-in_err-add_unary-in-Unary-clause-err : goal.walk-returns-in_err-add_unary-in-Unary-clause-err
walk-returns-in_err-add_unary-in-Unary-clause-err t c =
    on_any_err _ (both_begin (walked_begins c.args.context.now (expression_of c.deref-in-Unary.result.now) c.in_ok-t-in-Unary.ensures.code) c.in_err-add_unary-in-Unary.ensures.err)

pub walk_all-returns-in_err-walk-clause-err : goal.walk_all-returns-in_err-walk-clause-err
walk_all-returns-in_err-walk-clause-err t c = on_any_err _ (both_begin c.loop-x.invariant.begins c.in_err-walk.ensures.err)

pub walk_ranges-returns-in_err-walk_range-clause-err : goal.walk_ranges-returns-in_err-walk_range-clause-err
walk_ranges-returns-in_err-walk_range-clause-err t c = on_any_err _ (both_begin c.loop-r.invariant.begins c.in_err-walk_range.ensures.err)

pub walk_range-returns-in_err-walk-in-Plain-2-clause-err : goal.walk_range-returns-in_err-walk-in-Plain-2-clause-err
walk_range-returns-in_err-walk-in-Plain-2-clause-err t c =
    on_any_err _ (both_begin (walked_begins c.args.context.now (expression_of c.in-Plain.low) c.in_ok-walk-in-Plain.ensures.code) c.in_err-walk-in-Plain-2.ensures.err)

pub walk_range-returns-in_ok-walk-in-Plain-2-clause-err : goal.walk_range-returns-in_ok-walk-in-Plain-2-clause-err
walk_range-returns-in_ok-walk-in-Plain-2-clause-err t c =
    on_err_weaker c.emit.result (both_begin (both_begin (walked_begins c.args.context.now (expression_of c.in-Plain.low) c.in_ok-walk-in-Plain.ensures.code)
    (walked_begins c.args.context.now (expression_of c.in-Plain.high) c.in_ok-walk-in-Plain-2.ensures.code))) c.emit.ensures.err

pub walk_range-returns-in_err-walk-in-Stepped-2-clause-err : goal.walk_range-returns-in_err-walk-in-Stepped-2-clause-err
walk_range-returns-in_err-walk-in-Stepped-2-clause-err t c =
    on_any_err _ (both_begin (walked_begins c.args.context.now (expression_of c.in-Stepped.low) c.in_ok-walk-in-Stepped.ensures.code) c.in_err-walk-in-Stepped-2.ensures.err)

pub walk_range-returns-in_err-walk-in-Stepped-3-clause-err : goal.walk_range-returns-in_err-walk-in-Stepped-3-clause-err
walk_range-returns-in_err-walk-in-Stepped-3-clause-err t c =
    on_any_err _ (both_begin (both_begin (walked_begins c.args.context.now (expression_of c.in-Stepped.low) c.in_ok-walk-in-Stepped.ensures.code) (walked_begins c.args.context.now (expression_of c.in-Stepped.high) c.in_ok-walk-in-Stepped-2.ensures.code)) c.in_err-walk-in-Stepped-3.ensures.err)

pub walk-returns-in_ok-t-in-Member-clause-code : goal.walk-returns-in_ok-t-in-Member-clause-code
walk-returns-in_ok-t-in-Member-clause-code t c =
    let s = c.args.context.now in
    let o = c.args.out.now.items in
    let m = c.walk-in-Member.new.out.items in
    let n = c.member.new.out.items in
    let r = c.member.result in
    let f = c.in-Member in
    let a = expression_of f.receiver.value in
    let exps = λ (ys : List Expr). numbered_exps (map expression_of ys) in
    let xs = f.args.items in
    let told = ty_view c.in_ok-t-in-Member.t.ty in
    let last = λ (u : ValueType) (ys : List Expr).
    member_code (called_behind s u f.name) (how_many (exps ys)) f.place in
    let whole = λ (u : ValueType) (ys : List Expr) (z : List Instr).
    all_in s (exps ys) z ++ last u ys in
    let is = c.in_ok-t-in-Member.ensures in
    let first : m ≡ walked_in s a o =
    subst (λ (z : Expr). m ≡ walked_in s (expression_of z) o) c.deref-in-Member.ensures is.code in
    let type : told ≡ type_in s a =
    subst (λ (z : Expr). told ≡ type_in s (expression_of z)) c.deref-in-Member.ensures is.ty in
    subst (λ (y : NumberedExp). OnOk r (n ≡ walked_in s y o))
    (sym (seen_numbered_member c.args.expr.now f.place f.receiver f.name f.args f.is))
    (on_ok_weaker r
    (λ (h : n ≡ whole told xs m).
    h ∙ ap (λ u. whole u xs m) type ∙ ap (whole (type_in s a) xs) first)
    (subst (λ (ys : List Expr). OnOk r (n ≡ whole told ys m)) c.deref-in-Member-2.ensures.value
    c.member.ensures.code))

pub walk-returns-in_ok-t-in-Member-clause-err : goal.walk-returns-in_ok-t-in-Member-clause-err
walk-returns-in_ok-t-in-Member-clause-err t c =
    let x = expression_of c.deref-in-Member.result.now in
    on_err_weaker c.member.result
    (both_begin (walked_begins c.args.context.now x c.in_ok-t-in-Member.ensures.code))
    c.member.ensures.err

pub walk-returns-in_ok-t-in-Index-clause-code : goal.walk-returns-in_ok-t-in-Index-clause-code
walk-returns-in_ok-t-in-Index-clause-code t c =
    let s = c.args.context.now in
    let o = c.args.out.now.items in
    let m = c.walk-in-Index.new.out.items in
    let n = c.index.new.out.items in
    let r = c.index.result in
    let f = c.in-Index in
    let a = expression_of f.receiver.value in
    let exps = λ (ys : List Expr). numbered_exps (map expression_of ys) in
    let xs = f.indices.items in
    let told = ty_view c.in_ok-t-in-Index.t.ty in
    let last = λ (u : ValueType) (ys : List Expr).
    index_code (is_point_type u) (how_many (exps ys)) f.place in
    let whole = λ (u : ValueType) (ys : List Expr) (z : List Instr).
    all_in s (exps ys) z ++ last u ys in
    let is = c.in_ok-t-in-Index.ensures in
    let first : m ≡ walked_in s a o =
    subst (λ (z : Expr). m ≡ walked_in s (expression_of z) o) c.deref-in-Index.ensures is.code in
    let type : told ≡ type_in s a =
    subst (λ (z : Expr). told ≡ type_in s (expression_of z)) c.deref-in-Index.ensures is.ty in
    subst (λ (y : NumberedExp). OnOk r (n ≡ walked_in s y o))
    (sym (seen_numbered_index c.args.expr.now f.place f.receiver f.indices f.is))
    (on_ok_weaker r
    (λ (h : n ≡ whole told xs m).
    h ∙ ap (λ u. whole u xs m) type ∙ ap (whole (type_in s a) xs) first)
    (subst (λ (ys : List Expr). OnOk r (n ≡ whole told ys m)) c.deref-in-Index-2.ensures.value
    c.index.ensures.code))

pub walk-returns-in_ok-t-in-Index-clause-err : goal.walk-returns-in_ok-t-in-Index-clause-err
walk-returns-in_ok-t-in-Index-clause-err t c =
    let x = expression_of c.deref-in-Index.result.now in
    on_err_weaker c.index.result
    (both_begin (walked_begins c.args.context.now x c.in_ok-t-in-Index.ensures.code))
    c.index.ensures.err

pub walk-returns-in_ok-walk_rect-in-Rect-clause-code
    : goal.walk-returns-in_ok-walk_rect-in-Rect-clause-code
walk-returns-in_ok-walk_rect-in-Rect-clause-code t c =
    let s = c.args.context.now in
    let o = c.args.out.now.items in
    let n = c.walk_rect.new.out.items in
    let f = c.in-Rect in
    subst (λ (y : NumberedExp). n ≡ walked_in s y o)
    (sym (seen_numbered_rect c.args.expr.now f.place f.ranges f.is))
    (subst (λ (rs : List Range). n ≡ walked_in s (rect f.place (map bound_of rs)) o)
    c.deref-in-Rect.ensures.value c.in_ok-walk_rect-in-Rect.ensures.code)

pub walk-returns-in_err-add_point-in-Point-clause-err
    : goal.walk-returns-in_err-add_point-in-Point-clause-err
walk-returns-in_err-add_point-in-Point-clause-err t c =
    let xs = numbered_exps (map expression_of c.deref.result.now) in
    on_any_err _
    (both_begin (all_begin c.args.context.now xs c.in_ok-walk_all-in-Point.ensures.code)
    c.in_err-add_point-in-Point.ensures.err)

pub walk_rect-returns-clause-err : goal.walk_rect-returns-clause-err
walk_rect-returns-clause-err t c =
    let rs = numbered_ranges (map bound_of c.args.ranges.now) in
    on_err_weaker c.add_rect.result
    (both_begin (ranges_begin c.args.context.now rs c.in_ok-walk_ranges.ensures.code))
    c.add_rect.ensures.err

pub cast-returns-in_err-add_cast-clause-err : goal.cast-returns-in_err-add_cast-clause-err
cast-returns-in_err-add_cast-clause-err t c =
    let x = expression_of c.args.operand.now in
    on_any_err _ (both_begin (walked_begins c.args.context.now x c.in_ok-t.ensures.code)
    c.in_err-add_cast.ensures.err)

pub select-returns-in_err-field-clause-err : goal.select-returns-in_err-field-clause-err
select-returns-in_err-field-clause-err t c =
    let x = expression_of c.args.receiver.now in
    on_any_err _ (walked_begins c.args.context.now x c.in_ok-t.ensures.code)

pub select-returns-in_err-emit-clause-err : goal.select-returns-in_err-emit-clause-err
select-returns-in_err-emit-clause-err t c =
    let x = expression_of c.args.receiver.now in
    on_any_err _ (both_begin (walked_begins c.args.context.now x c.in_ok-t.ensures.code)
    c.in_err-emit.ensures.err)

pub member-returns-in_err-add_member-clause-err : goal.member-returns-in_err-add_member-clause-err
member-returns-in_err-add_member-clause-err t c =
    let xs = numbered_exps (map expression_of c.args.args.now) in
    on_any_err _ (both_begin (all_begin c.args.context.now xs c.in_ok-walk_all.ensures.code)
    c.in_err-add_member.ensures.err)

pub index-returns-in_err-add_index-clause-err : goal.index-returns-in_err-add_index-clause-err
index-returns-in_err-add_index-clause-err t c =
    let xs = numbered_exps (map expression_of c.args.indices.now) in
    on_any_err _ (both_begin (all_begin c.args.context.now xs c.in_ok-walk_all.ensures.code)
    c.in_err-add_index.ensures.err)
