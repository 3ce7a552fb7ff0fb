use Rattle.ti_rules.proofs.Lemmas.{OneReading}
use Rattle.ti_top.proofs.OneMarking.{OneInference, one_marking, one_refusal, never_both}
use Rattle.ti_top.proofs.inferring.one_marking.Goals as goal

pub returns : goal.returns
returns c =
    let known : OneReading = record {
      one_list = c.one_reading.ensures.one_list;
      one_flaw = c.one_reading.ensures.one_refusal;
      not_both = c.one_reading.ensures.never_both;
      one_tree = c.one_text.ensures.one_tree;
      one_misfit = c.one_text.ensures.only;
      one_numbered = c.one_program.ensures.only;
    } in
    let infers : OneInference = record {
      one_marking = c.one_inference.ensures.one_marking;
      one_place = c.one_inference.ensures.one_place;
      never_both = c.one_inference.ensures.never_both;
    } in
    record {
      one_marking = one_marking known infers;
      one_refusal = one_refusal known infers c.one_answer.ensures.one_refusal;
      never_both = never_both known infers;
    }
