use Rattle.ti_top.proofs.EndedAlike.{OneAnswer, ended_alike}
use Rattle.ti_top.proofs.laws.one_ending.Goals as goal

pub returns : goal.returns
returns c =
    let known : OneAnswer = record {
      some = c.one_answer.ensures.some;
      one_list = c.one_reading.ensures.one_list;
      never_both = c.one_answer.ensures.never_both;
      one_marking = c.one_marking.ensures.one_marking;
      never_marked = c.one_marking.ensures.never_both;
    } in
    ended_alike known
