use Rattle.std.proofs.Common.{◌∙◌, length, not, ap, sym, arith, eqb-true}
use Rattle.std.proofs.lemmas.List.{nil_from_length}
use Rattle.ti_trace_check.specs.Mirrors.LineReader.{held}
use Rattle.ti_trace_check.proofs.Taking.{filled, taken_all, taken_end, taken_on, taken_full, front_short, held_on}
use Rattle.ti_trace_check.proofs.line_reader.LineReader.next_line.Goals as goal

pub returns-then-is_empty-clause-line : goal.returns-then-is_empty-clause-line
returns-then-is_empty-clause-line g c = λ tells.
    let now = c.line_reader.invariant.same.tells ∙ tells in
    let fills = c.in_ok-fill.ensures.fills now in
    taken_all _ c.line_reader.line (held c.fill.new.self) _ c.front-is_ended.result.0.now _
    (omega (arith, c.line_reader-test.true, ap length c.as_slice.ensures, ap length c.as_slice-in-line_reader.ensures))
    c.front-is_ended.ensures.line (nil_from_length c.front-is_ended.result.0.now
    (eqb-true _ 0 (sym c.is_empty.ensures ∙ c.if-is_empty.true))) fills.at_end
    (filled _ c.line_reader.line _ _ _ _ fills (c.line_reader.invariant.told tells))

pub text-requires : goal.text-requires
text-requires g c =
    let short = front_short (held c.fill.new.self) c.front-is_ended.result.0.now _ c.front-is_ended.ensures.line in
    omega (arith, short, c.line_reader-test.true, ap length c.as_slice.ensures, ap length c.as_slice-in-line_reader.ensures)

pub returns-then-is_ended-clause-line : goal.returns-then-is_ended-clause-line
returns-then-is_ended-clause-line g c = λ tells.
    let now = c.line_reader.invariant.same.tells ∙ tells in
    let front = c.front-is_ended.result.0.now in
    let split = held_on c.fill.new.self front _ c.front-is_ended.ensures.line c.front-is_ended.ensures.within in
    taken_end _ c.line_reader.line (held c.fill.new.self) _ front _ c.text.new.self _ c.text.ensures.text c.front-is_ended.ensures.line split (c.front-is_ended.ensures.ended ∙ ap not c.if-is_ended.true)
    (filled _ c.line_reader.line _ _ _ _ (c.in_ok-fill.ensures.fills now) (c.line_reader.invariant.told tells))

pub line_reader-preserved : goal.line_reader-preserved
line_reader-preserved g c =
    let front = c.front-is_ended.result.0.now in
    record {
      room = record { at = c.front-is_ended.ensures.within; end = c.in_ok-fill.ensures.room.end; bytes = c.in_ok-fill.ensures.room.bytes };
      still = c.in_ok-fill.ensures.still ∙ c.line_reader.invariant.still;
      same = record { tells = c.in_ok-fill.ensures.same.tells ∙ c.line_reader.invariant.same.tells; files = c.in_ok-fill.ensures.same.files ∙ c.line_reader.invariant.same.files };
      told = λ tells.
          let now = c.line_reader.invariant.same.tells ∙ tells in
          let split = held_on c.fill.new.self front _ c.front-is_ended.ensures.line c.front-is_ended.ensures.within in
          taken_on _ c.line_reader.line (held c.fill.new.self) _ front _ c.text.new.self c.text.ensures.text split (c.front-is_ended.ensures.ended ∙ ap not c.if-is_ended.false)
          (filled _ c.line_reader.line _ _ _ _ (c.in_ok-fill.ensures.fills now) (c.line_reader.invariant.told tells));
    }

pub returns-clause-line : goal.returns-clause-line
returns-clause-line g c = λ tells.
    taken_full _ c.line_reader.line (held c.line_reader.self) _ (omega (arith, c.line_reader-test.false, ap length c.as_slice.ensures)) (c.line_reader.invariant.told tells)
