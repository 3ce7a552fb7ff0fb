use Rattle.std.proofs.Common.{◌≡◌, ◌∙◌, ◌++◌, [], length, ap, sym, arith, eqb-true}
use Rattle.std.proofs.lemmas.List.{nil_from_length}
use Rattle.ti_store.specs.Stores.{StoreState, config_of}
use Rattle.ti_trace_check.specs.Mirrors.LineReader.{held}
use Rattle.ti_trace_check.proofs.Refusing.{off_of}
use Rattle.ti_trace_check.proofs.OfLines.{open_still, not_empty_line, goes, goes_of, left_whole, left_off}
use Rattle.ti_trace_check.proofs.replay.replay_lines.Goals as goal

pub replay_line-requires-clause-open : goal.replay_line-requires-clause-open
replay_line-requires-clause-open g c = open_still c.args.code.now c.args.store.now c.lines.store c.lines.invariant.store c.requires.open

pub returns-then-not-branch-clause-leaves : goal.returns-then-not-branch-clause-leaves
returns-then-not-branch-clause-leaves g c = λ tells.
    let s = config_of c.args.store.now in
    let same : config_of c.lines.store ≡ s = ap config_of c.lines.invariant.store in
    let off = off_of (config_of c.lines.store) s c.lines.store.entries c.replay_line.new.store.entries c.as_slice-in-lines.result.now c.lines.line
    same c.as_slice-in-lines.ensures (rw c.if-not-branch.true at c.in_ok-replay_line.ensures.meets) in
    left_off s (omega (arith, c.requires.open.runs.within.few)) (g.S.Source.state c.args.source.now).left c.lines.line (held c.lines.line_reader
    ++ (g.S.Source.state c.lines.source).left) c.lines.store.entries c.replay_line.new.store.entries c.lines.taken
    c.lines.invariant.taken c.lines.invariant.stands.run (not_empty_line c.as_slice.result.now c.lines.line c.is_empty.result
    c.as_slice.ensures c.is_empty.ensures c.lines-test.true) off (c.lines.invariant.told tells)

pub lines-preserved : goal.lines-preserved
lines-preserved g c =
    let s = config_of c.args.store.now in
    let same : config_of c.lines.store ≡ s = ap config_of c.lines.invariant.store in
    let on = goes_of c.args.code.now (config_of c.lines.store) s c.lines.store.entries c.lines.processes.items c.replay_line.new.store.entries
    c.replay_line.new.processes.items c.as_slice-in-lines.result.now c.lines.line same c.as_slice-in-lines.ensures
    (rw c.if-not-branch.false at c.in_ok-replay_line.ensures.meets) in
    record {
      store = c.in_ok-replay_line.ensures.store ∙ ap (λ (st : StoreState). record st { entries = c.replay_line.new.store.entries }) c.lines.invariant.store;
      stands = on.stands;
      taken = c.len-taken.ensures.len ∙ ap length c.history.ensures.entries;
      room = c.in_ok-line-2.ensures.room;
      still = c.in_ok-line-2.ensures.still ∙ c.lines.invariant.still;
      same = record { tells = c.in_ok-line-2.ensures.same.tells ∙ c.lines.invariant.same.tells; files = c.in_ok-line-2.ensures.same.files ∙ c.lines.invariant.same.files };
      told = λ tells.
          goes c.args.code.now s (g.S.Source.state c.args.source.now).left c.lines.store.entries c.lines.processes.items c.replay_line.new.processes.items
          c.replay_line.new.store.entries c.lines.line (held c.lines.line_reader ++ (g.S.Source.state c.lines.source).left) _ _ on
          (c.lines.invariant.told tells) (c.in_ok-line-2.ensures.line (c.lines.invariant.same.tells ∙ tells));
    }

pub returns-clause-leaves : goal.returns-clause-leaves
returns-clause-leaves g c = λ tells.
    let none : c.lines.line ≡ [] = sym c.as_slice.ensures ∙ nil_from_length c.as_slice.result.now (eqb-true _ 0 (sym c.is_empty.ensures ∙ c.lines-test.false)) in
    left_whole (config_of c.args.store.now) (g.S.Source.state c.args.source.now).left c.lines.line _ c.lines.store.entries c.lines.taken c.lines.invariant.taken none (c.lines.invariant.told tells)
