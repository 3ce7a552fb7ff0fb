use Rattle.ti_rules.proofs.Lemmas.{OneReading}
use Rattle.ti_explain_infer.proofs.Reading.{unread}
use Rattle.ti_explain_infer.proofs.early.explain_unread.Goals as goal

pub returns : goal.returns
returns c =
    let known : OneReading = record {
      one_list = c.one_reading.ensures.one_list;
      one_flaw = c.one_reading.ensures.one_refusal;
      not_both = c.one_reading.ensures.never_both;
      one_tree = c.one_text.ensures.one_tree;
      one_misfit = c.one_text.ensures.only;
      one_numbered = c.one_program.ensures.only;
    } in
    unread known c.args.text.now c.explain.result c.requires c.explain.ensures
