-- From how the line on err was written to the clause on err.
use Rattle.std.proofs.Common.{◌≡◌, inl, inr, [], arith, sym, ◌∙◌, ap}
use Rattle.std.proofs.lemmas.List.{append-nil}
use Rattle.ti_top.specs.declared.exit.Exit.{Exit}
use Rattle.ti_top.specs.declared.exit.Exit.TheVariants.{Done, Refused, Faulted, NoCommand, CantRead, CantWrite, NoMemory, NoRun}
use Rattle.ti_top.specs.Mirrors.EndsWithLine.{EndsWithLine, EndedWhole, EndedCut}
use Rattle.ti_top.specs.CommandCall.{CommandCall, named_file, OutRose}
use Rattle.ti_top.proofs.StatusFrom.{is_done, is_cant_write}
use Rattle.ti_top.specs.Clauses.{KeepsContractBesideErr, Says, before_err, WritesErr, line}

-- the output failed before the line on err
out_rose : (c : CommandCall) (before : Exit) → before ≡ CantWrite → Says c before → OutRose c
out_rose c CantWrite is says = says.2
out_rose c Done is says = absurd (let x = is in cc)
out_rose c (Refused refusal) is says = absurd (let x = is in cc)
out_rose c (Faulted fault) is says = absurd (let x = is in cc)
out_rose c NoCommand is says = absurd (let x = is in cc)
out_rose c CantRead is says = absurd (let x = is in cc)
out_rose c NoMemory is says = absurd (let x = is in cc)
out_rose c (NoRun line) is says = absurd (let x = is in cc)

written_whole : (c : CommandCall) (before : Exit) → Says c before → KeepsContractBesideErr (before_err c before) → EndedWhole before (named_file c) c.err c.err_after c.status → WritesErr c
written_whole c before says met ended = record {
  nothing = λ is. ap (λ s. s.taken) (ended.nothing (is_done before (sym ended.same ∙ is)));
  whole = λ _ told. (before, ended.same, says, ended.grew told);
  five_only_where = λ is. inl (out_rose c before (is_cant_write before (sym ended.same ∙ is)) says);
  five = λ is _ told. rw (is_cant_write before (sym ended.same ∙ is)) at (ended.grew told);
  cut = λ is _ told. inr (before, (says, met), (line c before, ([], append-nil (line c before)), ended.grew told));
  err_alone = λ is calm. absurd (calm (out_rose c before (is_cant_write before (sym ended.same ∙ is)) says));
}

written_cut : (c : CommandCall) (before : Exit) → Says c before → KeepsContractBesideErr (before_err c before) → EndedCut before (named_file c) c.err c.err_after c.status → WritesErr c
written_cut c before says met ended = record {
  nothing = λ is. absurd (let five = ended.five in omega arith);
  whole = λ other _. absurd (other ended.five);
  five_only_where = λ _. inr ended.rose;
  five = λ _ calm _. absurd (calm ended.rose);
  cut = λ _ _ told. inr (before, (says, met), ended.grew told);
  err_alone = λ _ _. (before, (says, met));
}

-- an ending that is true of the call, with which it kept its other promises, and how its line was written
pub writes_err : (c : CommandCall) (before : Exit) → Says c before → KeepsContractBesideErr (before_err c before) → EndsWithLine before (named_file c) c.err c.err_after c.status → WritesErr c
writes_err c before says met ended =
    elim ended.written [ inl whole ↦ written_whole c before says met whole | inr cut ↦ written_cut c before says met cut ]
