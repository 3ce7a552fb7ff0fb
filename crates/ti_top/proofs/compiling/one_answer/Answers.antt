use Rattle.ti_rules.proofs.Lemmas.{OneReading, one_program, one_refusal, never_both}
use Rattle.ti_top.proofs.EachAnswered.{Answered, some_answer}
use Rattle.ti_top.proofs.compiling.one_answer.Goals as goal

pub returns : goal.returns
returns c =
    let known : OneReading = record {
      one_list = c.one_reading.ensures.one_list;
      one_flaw = c.one_reading.ensures.one_refusal;
      not_both = c.one_reading.ensures.never_both;
      one_tree = c.one_text.ensures.one_tree;
      one_misfit = c.one_text.ensures.only;
      one_numbered = c.one_program.ensures.only;
    } in
    let answered : Answered = record {
      reading = c.one_reading.ensures.some;
      fitting = c.one_text.ensures.some;
      numbering = c.one_program.ensures.some;
      unbroken = c.one_program.ensures.unbroken;
      found = c.one_program_refusal.ensures.found;
      fine = c.one_program_refusal.ensures.none;
    } in
    record {
      some = some_answer answered;
      one_program = one_program known;
      one_refusal = one_refusal known;
      never_both = never_both known;
    }
