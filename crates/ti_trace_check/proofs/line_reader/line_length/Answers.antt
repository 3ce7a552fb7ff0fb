use Rattle.std.proofs.Common.{length, ◌∙◌, sym, ap, arith}
use Rattle.std.proofs.lemmas.List.{take_all}
use Rattle.ti_trace_check.specs.Lines.{has_no_end}
use Rattle.ti_trace_check.proofs.FirstLines.{ends_there, ended_there, goes_past, no_end, all_there}
use Rattle.ti_trace_check.proofs.line_reader.line_length.Goals as goal

pub loop-at-preserved : goal.loop-at-preserved
loop-at-preserved c = goes_past c.args.bytes.now c.loop-at.at 0 c.loop-at-test.true c.loop-at.invariant c.if-byte-eq10.false

pub returns-then-byte-eq10-clause-line : goal.returns-then-byte-eq10-clause-line
returns-then-byte-eq10-clause-line c = ends_there c.args.bytes.now c.loop-at.at 0 c.loop-at-test.true c.loop-at.invariant c.if-byte-eq10.true

pub returns-then-byte-eq10-clause-ended : goal.returns-then-byte-eq10-clause-ended
returns-then-byte-eq10-clause-ended c = ended_there c.args.bytes.now c.loop-at.at 0 c.loop-at-test.true c.loop-at.invariant c.if-byte-eq10.true

pub returns-clause-line : goal.returns-clause-line
returns-clause-line c =
    let xs = c.args.bytes.now in
    take_all (length xs) xs (omega arith) ∙ sym (no_end xs (all_there xs c.loop-at.at c.loop-at-test.false c.loop-at.invariant))

pub returns-clause-ended : goal.returns-clause-ended
returns-clause-ended c =
    let xs = c.args.bytes.now in
    let none = all_there xs c.loop-at.at c.loop-at-test.false c.loop-at.invariant in
    ap has_no_end (no_end xs none) ∙ none
