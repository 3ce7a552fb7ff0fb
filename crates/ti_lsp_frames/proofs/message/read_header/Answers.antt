use Rattle.std.proofs.Common.{rules, arith}
use Rattle.std.proofs.lemmas.Bool.Decides.{nat_tests}
use Rattle.std.proofs.lemmas.Grind.{common_steps}
use Rattle.ti_lsp_frames.specs.Reading.{FailsToRead, FailsLine}
use Rattle.ti_lsp_frames.proofs.Headers.{header_read, fails_line, fails_no_next, fails_malformed, fails_again, fails_no_length, fails_many}
use Rattle.ti_lsp_frames.proofs.message.read_header.Goals as goal

pub returns-in_err-line-clause-error : goal.returns-in_err-line-clause-error
returns-in_err-line-clause-error g c =
    let e = c.in_err-line.field-0.0 in
    let line : FailsLine (g.R.Read.remaining c.loop-count.reader) (g.R.Read.remaining c.read_line.new.reader) e = c.in_err-line.ensures.error in
    let fails : FailsToRead (g.R.Read.remaining c.args.reader.now) (g.R.Read.remaining c.read_line.new.reader) e =
    fails_line _ (g.R.Read.remaining c.loop-count.reader) _ c.loop-count.length c.loop-count.count e c.loop-count.invariant (omega arith) line in
    grind (arith, common_steps)

pub returns-in_default-clause-error : goal.returns-in_default-clause-error
returns-in_default-clause-error g c = fails_no_next _ (g.R.Read.remaining c.loop-count.reader) _ c.loop-count.length c.loop-count.count
    c.loop-count.invariant (omega arith) (grind (arith, nat_tests)) (search rules)

pub returns-in_default-length-clause-error : goal.returns-in_default-length-clause-error
returns-in_default-length-clause-error g c = fails_no_length _ (g.R.Read.remaining c.loop-count.reader) _ c.loop-count.length c.loop-count.count c.in-Some.line.items
    c.loop-count.invariant c.in_default-length.is (omega arith) (search rules) (grind (arith, nat_tests))

pub returns-then-is_empty-clause-header : goal.returns-then-is_empty-clause-header
returns-then-is_empty-clause-header g c = header_read _ (g.R.Read.remaining c.loop-count.reader) _ _ c.loop-count.count c.loop-count.length c.in-Some.line.items
    c.loop-count.invariant c.in-Some-length.is (omega arith) (search rules) (grind (arith, nat_tests))

pub returns-then-is_some-clause-error : goal.returns-then-is_some-clause-error
returns-then-is_some-clause-error g c = fails_again _ (g.R.Read.remaining c.loop-count.reader) _ c.loop-count.length c.loop-count.count c.in-ContentLength.given
    c.in-Some.line.items c.loop-count.invariant (omega arith) (search rules) (grind (arith, common_steps)) (search rules)

pub returns-in-Malformed-clause-error : goal.returns-in-Malformed-clause-error
returns-in-Malformed-clause-error g c = fails_malformed _ (g.R.Read.remaining c.loop-count.reader) _ c.loop-count.length c.loop-count.count c.in-Some.line.items
    c.loop-count.invariant (omega arith) (search rules) (grind (arith, nat_tests)) (search rules)

pub returns-clause-error : goal.returns-clause-error
returns-clause-error g c = fails_many _ _ c.loop-count.length c.loop-count.count c.loop-count.invariant (omega arith)
