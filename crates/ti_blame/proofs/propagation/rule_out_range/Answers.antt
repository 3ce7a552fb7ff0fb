use Rattle.std.proofs.Common.{◌<◌, ◌≤◌, ℕ, List, length, get_or, refl, ap, sym, subst, ◌∙◌}
use Rattle.std.specs.List.{list_any}
use Rattle.ti_blame.specs.Mirrors.Propagation.{left}
use Rattle.ti_blame.proofs.Stepping.{done_more, was_done}
use Rattle.ti_blame.proofs.propagation.rule_out_range.Goals as goal

pub returns-then-is_done-clause-gone : goal.returns-then-is_done-clause-gone
returns-then-is_done-clause-gone c = was_done c.args.items.now c.args.from c.args.to c.args.state.now c.requires
    (subst (λ (ds : List ℕ). c.args.from < length ds) c.deref.ensures.value (c.if-is_done.ensures.within refl))
    (subst (λ (ds : List ℕ). c.args.to ≤ get_or ds c.args.from 0) c.deref.ensures.value (c.if-is_done.ensures.far refl))

pub returns-clause-done : goal.returns-clause-done
returns-clause-done c = done_more c.args.items.now c.args.from c.args.to c.args.state.now c.rule_out_reasons.new.state
    (record {
      assumed = c.rule_out_reasons.new.state.assumed;
      worklist = c.rule_out_reasons.new.state.worklist;
      blamed = c.rule_out_reasons.new.state.blamed;
      done = c.now_done.new.done;
    }) c.requires c.in_ok-rule_out_reasons.ensures.step c.in_ok-rule_out_reasons.ensures.done refl refl
    c.now_done.ensures (sym (ap (list_any (left c.rule_out_reasons.new.state)) c.part.ensures) ∙ c.in_ok-rule_out_reasons.ensures.gone)
