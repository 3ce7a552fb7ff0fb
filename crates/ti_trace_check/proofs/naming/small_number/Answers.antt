use Rattle.std.proofs.Common.{ap, Some}
use Rattle.ti_trace_check.proofs.Names.{too_short, one_read, two_read}
use Rattle.ti_trace_check.proofs.naming.small_number.Goals as goal

pub returns-then-text-lt2 : goal.returns-then-text-lt2
returns-then-text-lt2 c = λ n more small z. absurd (too_short n more c.args.text.now small z c.if-text-lt2.true)

pub returns-then-text-eq32 : goal.returns-then-text-eq32
returns-then-text-eq32 c = λ n more small z. ap Some (one_read n more c.args.text.now c.digit-first.result small z c.if-text-eq32.true c.digit-first.ensures.value)

pub returns : goal.returns
returns c = λ n more small z.
    ap Some (two_read n more c.args.text.now c.digit-first.result c.digit.result small z c.if-text-eq32.false c.digit-first.ensures.value c.digit.ensures.value)
