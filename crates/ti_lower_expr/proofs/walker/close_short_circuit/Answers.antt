use Rattle.std.proofs.Common.{◌≡◌, ◌⊎◌, inl, inr, ap, refl, set, Vec}
use Rattle.std.proofs.lemmas.Result.{on_err_weaker}
use Rattle.std.specs.declared.alloc.Global.{Global}
use Rattle.ti_code.specs.declared.instr.Instr.{Instr}
use Rattle.ti_lower_expr.proofs.Beginning.{on_any_err, added_begins, both_begin, replaced_begins}
use Rattle.ti_lower_expr.proofs.walker.close_short_circuit.Goals.{then-jump-len, else-jump-len}
use Rattle.ti_lower_expr.proofs.walker.close_short_circuit.Goals as goal

pub returns-in_err-pushed-clause-err : goal.returns-in_err-pushed-clause-err
returns-in_err-pushed-clause-err c = on_any_err _ (replaced_begins c.args.out.now.items c.args.out.now.items c.args.jump (inl refl))

pub returns-in_err-end-clause-err : goal.returns-in_err-end-clause-err
returns-in_err-end-clause-err c = on_any_err _ (replaced_begins c.args.out.now.items c.args.out.now.items c.args.jump (inl refl))

pub returns-in_err-emit-clause-err : goal.returns-in_err-emit-clause-err
returns-in_err-emit-clause-err c =
    let o = c.args.out.now.items in
    let n = c.if-jump-len.out.items in
    let at = c.args.jump in
    let replaced : (n ≡ o) ⊎ ((i : Instr) × (n ≡ set o at i)) =
    elim c.if-jump-len.branch [
      | then-jump-len w ↦ inr (w.jump_where.result, ap (λ (v : Vec Instr Global). v.items) w.out-is)
      | else-jump-len w ↦ inl (ap (λ (v : Vec Instr Global). v.items) w.out-is)
    ] in
    on_any_err _ (both_begin (replaced_begins o n at replaced) c.in_err-emit.ensures.err)

pub returns-clause-err : goal.returns-clause-err
returns-clause-err c =
    let o = c.args.out.now.items in
    let n = c.if-jump-len.out.items in
    let at = c.args.jump in
    let replaced : (n ≡ o) ⊎ ((i : Instr) × (n ≡ set o at i)) =
    elim c.if-jump-len.branch [
      | then-jump-len w ↦ inr (w.jump_where.result, ap (λ (v : Vec Instr Global). v.items) w.out-is)
      | else-jump-len w ↦ inl (ap (λ (v : Vec Instr Global). v.items) w.out-is)
    ] in
    on_err_weaker c.emit-2.result (both_begin (both_begin (replaced_begins o n at replaced) (added_begins _ c.in_ok-emit.ensures.code))) c.emit-2.ensures.err
