use Rattle.std.proofs.Common.{◌≡◌, ◌≤◌, ◌∙◌, Bool, true, false, length, slice_set, refl, sym, ap, subst, arith}
use Rattle.std.specs.Cmp.Lexicographic.{same_text, other_text}
use Rattle.ti_store.specs.Stores.{config_of}
use Rattle.ti_watch.specs.Reports.{entry_text}
use Rattle.ti_trace_check.specs.Mirrors.Replaying.{StepsOn, ReplaysLine}
use Rattle.ti_trace_check.proofs.Turns.{goes_on}
use Rattle.ti_trace_check.proofs.Refusing.{finds_of, short_of, unnamed, outside, none_taken, other_line, last_there, last_same, line_is}
use Rattle.ti_trace_check.proofs.replay.replay_line.Goals as goal

pub returns-in_default-clause-meets : goal.returns-in_default-clause-meets
returns-in_default-clause-meets g c =
    let es = c.args.store.now.entries in
    let same : c.len-number.result ≡ length es = c.len-number.ensures.len ∙ ap length c.history.ensures.entries in
    unnamed (config_of c.args.store.now) es c.args.line.now c.requires.open.runs.within.few c.process_in.result
    (finds_of c.len-number.result (length es) c.args.line.now c.process_in.result same c.process_in.ensures.names) (short_of _ (length es) same c.process_in.ensures.short) c.in_default.is

pub returns-then-p-len-clause-meets : goal.returns-then-p-len-clause-meets
returns-then-p-len-clause-meets g c =
    let es = c.args.store.now.entries in
    let same : c.len-number.result ≡ length es = c.len-number.ensures.len ∙ ap length c.history.ensures.entries in
    outside (config_of c.args.store.now) es c.args.line.now c.requires.open.runs.within.few c.process_in.result
    (finds_of c.len-number.result (length es) c.args.line.now c.process_in.result same c.process_in.ensures.names) (short_of _ (length es) same c.process_in.ensures.short)
    c.in-Some.p c.in-Some.is (omega (arith, c.if-p-len.true, c.len.ensures, c.requires.stands.count))

pub returns-then-not-branch-clause-meets : goal.returns-then-not-branch-clause-meets
returns-then-not-branch-clause-meets g c =
    let es = c.args.store.now.entries in
    let same : c.len-number.result ≡ length es = c.len-number.ensures.len ∙ ap length c.history.ensures.entries in
    let leaves = rw c.if-not-branch.true at c.in_ok-step_in.ensures.leaves in
    none_taken (config_of c.args.store.now) es c.args.line.now c.requires.open.runs.within.few c.process_in.result
    (finds_of c.len-number.result (length es) c.args.line.now c.process_in.result same c.process_in.ensures.names) (short_of _ (length es) same c.process_in.ensures.short)
    c.in-Some.p c.step_in.new.store.entries c.in-Some.is leaves.0 leaves.1

pub returns-clause-meets : goal.returns-clause-meets
returns-clause-meets g c = by c.eq.result refl
  where
    took : StepsOn c.args.code.now (config_of c.args.store.now) c.args.store.now.entries c.in-Some.p c.index_mut.result.now c.step_in.new.store.entries c.step_in.new.pending
    took = rw c.if-not-branch.false at c.in_ok-step_in.ensures.leaves

    same : c.len-number.result ≡ length c.args.store.now.entries
    same = c.len-number.ensures.len ∙ ap length c.history.ensures.entries

    last : c.in-Some-last.entry ≡ took.takes.entry
    last = last_same c.args.store.now.entries c.step_in.new.store.entries c.history-2.result.now.items took.takes.entry c.last.result
        c.history-2.ensures.entries took.takes.after c.last.ensures c.in-Some-last.entry c.in-Some-last.is

    text : c.entry_line.result ≡ entry_text (length c.args.store.now.entries) took.takes.entry
    text = line_is c.len-number.result c.args.store.now.entries c.in-Some-last.entry took.takes.entry c.entry_line.result same last c.entry_line.ensures.text

    by : (b : Bool) → c.eq.result ≡ b → ReplaysLine c.args.code.now (config_of c.args.store.now) c.args.store.now.entries c.args.processes.now.items
        c.step_in.new.store.entries (slice_set c.args.processes.now.items c.in-Some.p c.step_in.new.pending) c.args.line.now b
    by true e =
        goes_on c.args.code.now (config_of c.args.store.now) c.args.store.now.entries c.step_in.new.store.entries c.args.processes.now.items
        c.in-Some.p c.index_mut.result.now c.step_in.new.pending took c.requires.stands
        (omega (arith, c.if-p-len.false, c.len.ensures)) c.index_mut.ensures.value
        c.args.line.now (sym (same_text c.as_slice.result.now c.args.line.now (sym e ∙ c.eq.ensures)) ∙ c.as_slice.ensures ∙ text)
    by false e =
        other_line (config_of c.args.store.now) c.args.store.now.entries c.args.line.now c.requires.open.runs.within.few c.process_in.result
        (finds_of c.len-number.result (length c.args.store.now.entries) c.args.line.now c.process_in.result same
        c.process_in.ensures.names) (short_of _ (length c.args.store.now.entries) same c.process_in.ensures.short)
        c.in-Some.p took.takes.entry c.step_in.new.store.entries c.in-Some.is took.takes.can took.takes.after
        (λ h. other_text c.as_slice.result.now c.args.line.now (sym e ∙ c.eq.ensures) (c.as_slice.ensures ∙ text ∙ h)) (subst (λ l. length l ≤ 345) text c.entry_line.ensures.short)

pub unreachable-requires : goal.unreachable-requires
unreachable-requires g c =
    let took = rw c.if-not-branch.false at c.in_ok-step_in.ensures.leaves in
    last_there c.args.store.now.entries c.step_in.new.store.entries c.history-2.result.now.items took.takes.entry c.last.result
    c.history-2.ensures.entries took.takes.after c.last.ensures c.in_default-last.is
