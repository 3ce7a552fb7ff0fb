-- Two undisturbed calls that ask alike end alike.
use Rattle.std.proofs.Common.{◌≡◌, ◌⊎◌, inl, inr, ℕ, true, List, [], take, Option, Some, None, refl, sym, ◌∙◌, ap, subst, arith, append-nil}
use native.Mathlib.Decide.{ℕ_discrete}
use Rattle.ti_io.specs.Source.{content_of, IsMissing, Holds}
use Rattle.ti_io.specs.Sink.{GrewBy}
use Rattle.ti_syntax.specs.declared.token.Token.{Token}
use Rattle.ti_syntax.specs.Tokenizing.{IsTokenized}
use Rattle.ti_lang.specs.Program.Classes.{ProgramView}
use Rattle.ti_lang.specs.Meaning.Histories.{entries_of, has_fault}
use Rattle.ti_lang.specs.Meaning.Races.{races}
use Rattle.ti_lower.specs.Programs.{program_code}
use Rattle.ti_rules.specs.declared.refusal.Refusal.{Refusal}
use Rattle.ti_rules.specs.RefusalOf.{HasProgram, IsRefusal}
use Rattle.ti_runtime.specs.Ran.{AreFinishedCounts}
use Rattle.ti_words.specs.declared.job.Job.{Job}
use Rattle.ti_words.specs.declared.job.Mode.{Mode}
use Rattle.ti_words.specs.declared.job.Mode.TheVariants.{Run, Check, Code, Gen, Verify, Infer}
use Rattle.ti_words.specs.Job.{job_of}
use Rattle.ti_top.specs.declared.fault.Fault.{Fault}
use Rattle.ti_top.specs.Run.{HasFile, RunsProgram, HasCode, Verifies, Infers, HasHistory, run_of, EndsWithFault}
use Rattle.ti_top.specs.Reports.{wanted_watchers, output}
use Rattle.ti_top.specs.CommandCall.{most_read, CommandCall, IsCommand, IsNoCommand, SinkRose, IsPreempted, WantsReport}
use Rattle.ti_top.specs.Clauses.{IsRefusalIn, ReadsText, MakesText, GetsText, WritesAll, NothingFailed, AnswersCompletely, KeepsContract}
use Rattle.ti_top.specs.Traces.{LacksTrace, TraceDecides}
use Rattle.ti_top.specs.Agreement.{IsUndisturbed, AskAlike, IsBySeveral, BothGrew, EndSame, EachSame, EndAlike}
use Rattle.ti_blame.specs.declared.mark.Mark.{Mark}
use Rattle.ti_top.specs.Exit.{status_of}
use Rattle.ti_top.specs.Inference.{HasMarking, IsUnmarkedRefusal, marks_text}
use Rattle.ti_top.specs.declared.exit.Exit.{Exit}
use Rattle.ti_top.specs.declared.exit.Exit.TheVariants.{Done, Refused, Faulted, NoCommand, CantRead, CantWrite, NoMemory, NoRun}
use Rattle.ti_top.proofs.ClausesMet.{runs_has, runs_unverified, was_read}
use Rattle.ti_top.proofs.InModes.{runs_marked, verifies_marked, refusal_here, refusal_in}
use Rattle.ti_top.proofs.EachAlike.{each_same, none_faults}
use Rattle.ti_top.proofs.EmptyText.{no_program}
use Rattle.ti_top.proofs.FaultLast.{fault_is_there}
use Rattle.ti_top.proofs.OneCount.{one_count}
use Rattle.ti_top.proofs.OneRun.{one_run}

-- ---- what an undisturbed call doesn't do

no_yield : (c : CommandCall) → IsUndisturbed c → IsPreempted c → ⊥
no_yield c u (inl six) = u.memory six
no_yield c u (inr (five, inl out)) = u.out out
no_yield c u (inr (five, inr err)) = u.err err

or_not : {A B : Type 0} → (B → ⊥) → A ⊎ B → A
or_not never (inl a) = a
or_not never (inr b) = absurd (never b)

-- both outs grew by nothing
nothing_grew : (c d : CommandCall) → c.out_after.taken ≡ c.out.taken → d.out_after.taken ≡ d.out.taken → (text : List ℕ) × BothGrew c d text
nothing_grew c d x y = ([], (x ∙ sym (append-nil c.out.taken), y ∙ sym (append-nil d.out.taken)))

-- that each text has one answer, and one list of tokens
pub record OneAnswer : Type 0 where
  pub some : (text : List ℕ) → ((program : ProgramView) × HasProgram text program) ⊎ ((refusal : Refusal) × IsRefusal text refusal)
  pub one_list : (text : List ℕ) (a b : List Token) → IsTokenized text a → IsTokenized text b → a ≡ b
  pub never_both : (text : List ℕ) (program : ProgramView) (refusal : Refusal) → HasProgram text program → IsRefusal text refusal → ⊥
  -- and one greatest marking or refusal, whatever marks it has
  pub one_marking : (text : List ℕ) (a b : List Mark) → HasMarking text a → HasMarking text b → a ≡ b
  pub never_marked : (text : List ℕ) (marks : List Mark) (refusal : Refusal) → HasMarking text marks → IsUnmarkedRefusal text refusal → ⊥

-- two calls that end the same, of the same text and with the same code
all_alike : (c d : CommandCall) → c.text ≡ d.text → c.code ≡ d.code → EndSame c d → EndAlike c d
all_alike c d text code same = record {
  text = text;
  code = code;
  same = λ _. same;
  each = λ _ _. record { status = same.status; entries = λ i. ap (entries_of i) same.history; done = same.done };
}

-- ---- the words are no command

no_command : (c d : CommandCall) → KeepsContract c → KeepsContract d → IsUndisturbed c → IsUndisturbed d → IsNoCommand c → IsNoCommand d → EndAlike c d
no_command c d m n u v x y = all_alike c d (m.beside_err.words.no_text x ∙ sym (n.beside_err.words.no_text y)) (m.beside_err.words.no_code x ∙ sym (n.beside_err.words.no_code y)) (record {
  status = or_not (no_yield c u) (m.beside_err.words.everywhere x) ∙ sym (or_not (no_yield d v) (n.beside_err.words.everywhere y));
  history = m.beside_err.words.no_history x ∙ sym (n.beside_err.words.no_history y);
  done = m.beside_err.words.no_count x ∙ sym (n.beside_err.words.no_count y);
  output = λ watchers told heard. nothing_grew c d (m.beside_err.output.no_command x) (n.beside_err.output.no_command y);
})

-- ---- the text is missing

-- it has no program
nothing_has : OneAnswer → (c : CommandCall) → c.text ≡ [] → (program : ProgramView) → HasProgram c.text program → ⊥
nothing_has known c none program has = no_program known.one_list program (subst (λ text. HasProgram text program) none has)

missing_alike : OneAnswer → (job : Job) (c d : CommandCall) → KeepsContract c → KeepsContract d → IsCommand c job → IsCommand d job
    → (c.status ≡ 4) → (d.status ≡ 4) → c.text ≡ [] → d.text ≡ [] → EndAlike c d
missing_alike known job c d m n x y four fourth none nought = all_alike c d (none ∙ sym nought)
    ((m.beside_err.code job x).none (nothing_has known c none) ∙ sym ((n.beside_err.code job y).none (nothing_has known d nought)))
    (record {
      status = four ∙ sym fourth;
      history = (m.beside_err.run job x).none (nothing_has known c none) ∙ sym ((n.beside_err.run job y).none (nothing_has known d nought));
      done = (m.beside_err.count job x).uncoded ((m.beside_err.code job x).none (nothing_has known c none))
          ∙ sym ((n.beside_err.count job y).uncoded ((n.beside_err.code job y).none (nothing_has known d nought)));
      output = λ watchers told heard. nothing_grew c d (m.beside_err.output.nothing_at_four four) (n.beside_err.output.nothing_at_four fourth);
    })

-- ---- the text is judged

-- how a call ends on a text without a refusal
abbrev Accepts : Job → CommandCall → Type 0
Accepts job c = (c.status ≡ 0) ⊎ (c.status ≡ 2) ⊎ (c.status ≡ 7) ⊎ ((c.status ≡ 4) × LacksTrace job c)

-- in a mode that holds no trace against it
of_run : (job : Job) (c : CommandCall) → KeepsContract c → IsCommand c job → (Verifies job.mode → ⊥) → Accepts job c → (c.status ≡ 0) ⊎ (c.status ≡ 2)
of_run job c m x unverified (inl zero) = inl zero
of_run job c m x unverified (inr (inl two)) = inr two
of_run job c m x unverified (inr (inr (inl seven))) = absurd (unverified ((m.beside_err.trace job x).seven_only_where seven))
of_run job c m x unverified (inr (inr (inr four))) = absurd (unverified four.1.mode)

-- a text is refused
refused_alike : (job : Job) (c d : CommandCall) → KeepsContract c → KeepsContract d → IsCommand c job → IsCommand d job → AnswersCompletely job c → AnswersCompletely job d
    → c.text ≡ d.text → (refusal : Refusal) → IsRefusalIn job.mode c.text refusal → EndAlike c d
refused_alike job c d m n x y whole all same refusal is =
    let is_too : IsRefusalIn job.mode d.text refusal = subst (λ text. IsRefusalIn job.mode text refusal) same is in
    let one : c.status ≡ 1 = whole.refused refusal is in
    let first : d.status ≡ 1 = all.refused refusal is_too in
    all_alike c d same ((m.beside_err.refusal job x).no_code refusal is ∙ sym ((n.beside_err.refusal job y).no_code refusal is_too)) (record {
      status = one ∙ sym first;
      history = (m.beside_err.refusal job x).no_history refusal is ∙ sym ((n.beside_err.refusal job y).no_history refusal is_too);
      done = (m.beside_err.refusal job x).no_count refusal is ∙ sym ((n.beside_err.refusal job y).no_count refusal is_too);
      output = λ watchers told heard. nothing_grew c d (m.beside_err.output.nothing_at_one one) (n.beside_err.output.nothing_at_one first);
    })

-- what two calls with the same history write of a program
wrote_alike : (job : Job) (c d : CommandCall) → (Infers job.mode → ⊥) → IsCommand c job → IsCommand d job → WritesAll c → WritesAll d → c.text ≡ d.text → c.history ≡ d.history → c.watchers ≡ d.watchers
    → (program : ProgramView) → HasProgram c.text program → (text : List ℕ) × BothGrew c d text
wrote_alike job c d marked x y wrote written same one watchers program has = (
  output job program c.history (wanted_watchers job c.watchers),
  (
    wrote job x marked program has,
    subst (λ es. GrewBy d.out d.out_after (output job program es (wanted_watchers job c.watchers))) (sym one)
        (subst (λ ws. GrewBy d.out d.out_after (output job program d.history (wanted_watchers job ws))) (sym watchers)
        (written job y marked program (subst (λ text. HasProgram text program) same has))),
  ),
)

-- a text with a program is only checked, or its code is written
unrun_alike : (job : Job) (c d : CommandCall) → KeepsContract c → KeepsContract d → IsCommand c job → IsCommand d job → c.text ≡ d.text
    → (c.status ≡ 0) ⊎ (c.status ≡ 2) → (d.status ≡ 0) ⊎ (d.status ≡ 2) → (job.mode ≡ Check) ⊎ (job.mode ≡ Code)
    → (program : ProgramView) → HasProgram c.text program → EndAlike c d
unrun_alike job c d m n x y same a b mode program has = all_alike c d same (codes mode) (record {
  status = done c m x a ∙ sym (done d n y b);
  history = histories;
  done = (m.beside_err.count job x).unrun unrun ∙ sym ((n.beside_err.count job y).unrun unrun);
  output = λ watchers told heard.
      wrote_alike job c d marked x y (m.beside_err.output.done (done c m x a) told) (n.beside_err.output.done (done d n y b) heard) same histories watchers program has;
})
  where
    marked : Infers job.mode → ⊥
    marked infers = elim mode [ inl is ↦ subst Infers is infers | inr is ↦ subst Infers is infers ]

    unrun : RunsProgram job.mode → ⊥
    unrun runs = elim mode [ inl is ↦ subst RunsProgram is runs | inr is ↦ subst RunsProgram is runs ]

    untold : HasHistory job.mode → ⊥
    untold has = elim mode [ inl is ↦ subst HasHistory is has | inr is ↦ subst HasHistory is has ]

    done : (e : CommandCall) → KeepsContract e → IsCommand e job → (e.status ≡ 0) ⊎ (e.status ≡ 2) → e.status ≡ 0
    done e k z (inl none) = none
    done e k z (inr two) = absurd (unrun ((k.beside_err.end job z).fault_only_where two).0)

    histories : c.history ≡ d.history
    histories = (m.beside_err.run job x).unrun untold ∙ sym ((n.beside_err.run job y).unrun untold)

    codes : (job.mode ≡ Check) ⊎ (job.mode ≡ Code) → c.code ≡ d.code
    codes (inl is) = (m.beside_err.code job x).unlowered (subst HasCode is) ∙ sym ((n.beside_err.code job y).unlowered (subst HasCode is))
    codes (inr is) =
        let has_code : HasCode job.mode = subst HasCode (sym is) tt in
        (m.beside_err.code job x).there (done c m x a) has_code program has
        ∙ sym ((n.beside_err.code job y).there (done d n y b) has_code program (subst (λ text. HasProgram text program) same has))

-- a text with a program is run
run_alike : OneAnswer → (job : Job) (c d : CommandCall) → KeepsContract c → KeepsContract d → IsUndisturbed c → IsUndisturbed d → IsCommand c job → IsCommand d job → AnswersCompletely job c → AnswersCompletely job d
    → c.text ≡ d.text → (c.status ≡ 0) ⊎ (c.status ≡ 2) → (d.status ≡ 0) ⊎ (d.status ≡ 2) → RunsProgram job.mode
    → (program : ProgramView) → HasProgram c.text program → EndAlike c d
run_alike known job c d m n u v x y whole all same a b runs program has = record {
  text = same;
  code = codes c m x a program has ∙ sym (codes d n y b program has_too);
  same = λ alone. ended_same (one_worker alone);
  each = each;
}
  where
    has_too : HasProgram d.text program
    has_too = subst (λ text. HasProgram text program) same has

    one_worker : (IsBySeveral c → ⊥) → job.workers ≡ 1
    one_worker alone = elim (ℕ_discrete job.workers 1) [ yes one ↦ one | no several ↦ absurd (alone (record { job = job; command = x; runs = runs; several = several })) ]

    codes : (e : CommandCall) → KeepsContract e → IsCommand e job → (e.status ≡ 0) ⊎ (e.status ≡ 2) → (p : ProgramView) → HasProgram e.text p → e.code ≡ Some (program_code p)
    codes e k z (inl none) p there = (k.beside_err.code job z).there none (runs_has job.mode runs) p there
    codes e k z (inr two) p there = (k.beside_err.code job z).there_at_two two p there

    counts : (e : CommandCall) → KeepsContract e → IsCommand e job → AnswersCompletely job e → (p : ProgramView) → HasProgram e.text p
        → AreFinishedCounts (program_code p) (run_of p job) e.history e.done
    counts e k z complete p there = (k.beside_err.count job z).complete runs p there (complete.ended runs p there)

    -- a history that ends with a fault tells the status
    two : (e : CommandCall) → KeepsContract e → IsUndisturbed e → IsCommand e job → (fault : Fault) → EndsWithFault e.history fault → e.status ≡ 2
    two e k w z fault is = by ((k.beside_err.end job z).fault_everywhere runs fault is)
      where
        by : (e.status ≡ 2) ⊎ (((e.status ≡ 5) × SinkRose e) ⊎ ((e.status ≡ 6) × WantsReport job e)) → e.status ≡ 2
        by (inl is) = is
        by (inr (inl five)) = absurd (no_yield e w (inr (five.0, five.1)))
        by (inr (inr six)) = absurd (w.memory six.0)

    statuses : c.history ≡ d.history → (c.status ≡ 0) ⊎ (c.status ≡ 2) → (d.status ≡ 0) ⊎ (d.status ≡ 2) → c.status ≡ d.status
    statuses one (inl p) (inl q) = p ∙ sym q
    statuses one (inr p) (inr q) = p ∙ sym q
    statuses one (inl p) (inr q) =
        let fault = ((n.beside_err.end job y).fault_only_where q).1 in
        two c m u x fault.0 (subst (λ es. EndsWithFault es fault.0) (sym one) fault.1) ∙ sym q
    statuses one (inr p) (inl q) =
        let fault = ((m.beside_err.end job x).fault_only_where p).1 in
        p ∙ sym (two d n v y fault.0 (subst (λ es. EndsWithFault es fault.0) one fault.1))

    grew : (e : CommandCall) → KeepsContract e → (e.status ≡ 0) ⊎ (e.status ≡ 2) → e.out.tells ≡ true → WritesAll e
    grew e k (inl none) told = k.beside_err.output.done none told
    grew e k (inr two) told = k.beside_err.output.faulted two told

    ended_same : job.workers ≡ 1 → EndSame c d
    ended_same alone =
        let one : c.history ≡ d.history =
        one_run (run_of program job) c.history d.history ((m.beside_err.run job x).solo runs alone program has)
        (whole.ended runs program has) ((n.beside_err.run job y).solo runs alone program has_too)
        (all.ended runs program has_too) in
        record {
          status = statuses one a b;
          history = one;
          done = one_count (program_code program) (run_of program job) c.history d.history c.done d.done (λ i. ap (entries_of i) one) (counts c m x whole program has) (counts d n y all program has_too);
          output = λ watchers told heard. wrote_alike job c d (runs_marked job.mode runs) x y (grew c m a told) (grew d n b heard) same one watchers program has;
        }

    each : c.status ≡ 0 → races c.history ≡ [] → EachSame c d
    each zero none =
        let s = run_of program job in
        let ended = (m.beside_err.end job x).ended zero runs program has in
        let other = (n.beside_err.run job y).run program has_too in
        let front = λ (i : ℕ). (m.beside_err.determinacy job x).followed runs program has ended none d.history i other in
        let run = (m.beside_err.run job x).run program has in
        let complete = all.ended runs program has_too in
        let entries = each_same s c.history d.history run ended other front complete in
        record {
          status = zero ∙ sym (zero_too (none_faults s c.history d.history run ended other front complete) b);
          entries = entries;
          done = one_count (program_code program) s c.history d.history c.done d.done entries (counts c m x whole program has) (counts d n y all program has_too);
        }
      where
        zero_too : (has_fault d.history ≡ true → ⊥) → (d.status ≡ 0) ⊎ (d.status ≡ 2) → d.status ≡ 0
        zero_too faultless (inl is) = is
        zero_too faultless (inr is) = let fault = ((n.beside_err.end job y).fault_only_where is).1 in absurd (faultless (fault_is_there d.history fault.0 fault.1))

none_some : (bytes : List ℕ) → ◌≡◌ {A = Option (List ℕ)} None (Some bytes) → ⊥
none_some bytes e = cc

-- a trace is held against a text with a program
verified_alike : (job : Job) (c d : CommandCall) → KeepsContract c → KeepsContract d → AskAlike c d → IsUndisturbed c → IsUndisturbed d → IsCommand c job → IsCommand d job → AnswersCompletely job c → AnswersCompletely job d
    → c.text ≡ d.text → Verifies job.mode → Accepts job c → Accepts job d → (program : ProgramView) → HasProgram c.text program → EndAlike c d
verified_alike job c d m n ask u v x y whole all same verifies a b program has = by (content_of c.source.files job.against) refl
  where
    unrun : RunsProgram job.mode → ⊥
    unrun runs = runs_unverified job.mode runs verifies

    has_too : HasProgram d.text program
    has_too = subst (λ text. HasProgram text program) same has

    told : d.source.tells ≡ true
    told = ask.files.tells ∙ ask.told

    alike : c.status ≡ d.status → c.history ≡ d.history → EndAlike c d
    alike status history = all_alike c d same ((m.beside_err.code job x).unlowered (uncoded job.mode verifies) ∙ sym ((n.beside_err.code job y).unlowered (uncoded job.mode verifies))) (record {
      status = status;
      history = history;
      done = (m.beside_err.count job x).unrun unrun ∙ sym ((n.beside_err.count job y).unrun unrun);
      output = λ _ _ _. nothing_grew c d ((m.beside_err.trace job x).unwritten verifies) ((n.beside_err.trace job y).unwritten verifies);
    })
      where
        uncoded : (mode : Mode) → Verifies mode → HasCode mode → ⊥
        uncoded Verify verifies has = has
        uncoded _ verifies has = verifies

    -- the trace is missing
    four : (e : CommandCall) → KeepsContract e → IsUndisturbed e → IsCommand e job → Accepts job e → IsMissing e.source job.against → (e.status ≡ 4) × (e.history ≡ [])
    four e k w z (inl zero) gone = absurd (((k.beside_err.trace job z).traced zero verifies).there gone)
    four e k w z (inr (inl two)) gone = absurd (unrun ((k.beside_err.end job z).fault_only_where two).0)
    four e k w z (inr (inr (inl seven))) gone = absurd (((k.beside_err.trace job z).wrong seven).1.there gone)
    four e k w z (inr (inr (inr lacks))) gone = (
      lacks.0,
      elim ((k.beside_err.trace job z).unjudged verifies (λ is. omega (arith, is, lacks.0)) (λ is. omega (arith, is, lacks.0))) [
        | inl none ↦ none
        | inr five ↦ absurd (omega (arith, five.0, lacks.0))
      ],
    )

    -- the bytes of the trace decide
    decided : (bytes : List ℕ) → Holds c.source job.against bytes → TraceDecides (run_of program job) bytes d → Accepts job c → EndAlike c d
    decided bytes holds decides (inl zero) =
        let k = decides.run c.history (((m.beside_err.trace job x).traced zero verifies).told program has bytes holds) in
        alike (zero ∙ sym k.0) (sym k.1)
    decided bytes holds decides (inr (inl two)) = absurd (unrun ((m.beside_err.end job x).fault_only_where two).0)
    decided bytes holds decides (inr (inr (inl seven))) =
        let wrong = (m.beside_err.trace job x).wrong seven in
        let k = decides.wrong wrong.0 c.history (wrong.1.told program has bytes holds) in
        alike (seven ∙ sym k.0) (sym k.1)
    decided bytes holds decides (inr (inr (inr lacks))) = absurd (none_some bytes (sym lacks.1.missing.none ∙ holds.some))

    by : (o : Option (List ℕ)) → content_of c.source.files job.against ≡ o → EndAlike c d
    by None e =
        let gone : IsMissing c.source job.against = record { tells = ask.told; none = e } in
        let away : IsMissing d.source job.against = record { tells = told; none = ap (λ files. content_of files job.against) ask.files.files ∙ e } in
        let first = four c m u x a gone in
        let second = four d n v y b away in
        alike (first.0 ∙ sym second.0) (first.1 ∙ sym second.1)
    by (Some bytes) e =
        let f : content_of d.source.files job.against ≡ Some bytes = ap (λ files. content_of files job.against) ask.files.files ∙ e in
        decided bytes (record { tells = ask.told; some = e }) (all.verified verifies program has_too bytes (record { tells = told; some = f })) a

-- a text with a program or a refusal, in a mode in which its marks count
marked_alike : OneAnswer → (job : Job) (c d : CommandCall) → KeepsContract c → KeepsContract d → AskAlike c d → IsUndisturbed c → IsUndisturbed d → IsCommand c job → IsCommand d job → AnswersCompletely job c → AnswersCompletely job d
    → c.text ≡ d.text → (Infers job.mode → ⊥) → EndAlike c d
marked_alike known job c d m n ask u v x y whole all same marked = by (known.some c.text)
  where
    run_of_both : (unverified : Verifies job.mode → ⊥) → RunsProgram job.mode → Accepts job c → Accepts job d → (program : ProgramView) → HasProgram c.text program → EndAlike c d
    run_of_both unverified runs a b program has =
        run_alike known job c d m n u v x y whole all same (of_run job c m x unverified a) (of_run job d n y unverified b) runs program has

    unrun_of_both : (unverified : Verifies job.mode → ⊥) → (job.mode ≡ Check) ⊎ (job.mode ≡ Code) → Accepts job c → Accepts job d
        → (program : ProgramView) → HasProgram c.text program → EndAlike c d
    unrun_of_both unverified mode a b program has =
        unrun_alike job c d m n x y same (of_run job c m x unverified a) (of_run job d n y unverified b) mode program has

    by_mode : (mode : Mode) → job.mode ≡ mode → Accepts job c → Accepts job d → (program : ProgramView) → HasProgram c.text program → EndAlike c d
    by_mode Run e a b program has = run_of_both (λ verifies. subst Verifies e verifies) (subst RunsProgram (sym e) tt) a b program has
    by_mode Check e a b program has = unrun_of_both (λ verifies. subst Verifies e verifies) (inl e) a b program has
    by_mode Code e a b program has = unrun_of_both (λ verifies. subst Verifies e verifies) (inr e) a b program has
    by_mode Gen e a b program has = run_of_both (λ verifies. subst Verifies e verifies) (subst RunsProgram (sym e) tt) a b program has
    by_mode Verify e a b program has = verified_alike job c d m n ask u v x y whole all same (subst Verifies (sym e) tt) a b program has
    by_mode Infer e a b program has = absurd (marked (subst Infers (sym e) tt))

    by : ((program : ProgramView) × HasProgram c.text program) ⊎ ((refusal : Refusal) × IsRefusal c.text refusal) → EndAlike c d
    by (inl found) =
        let has : HasProgram d.text found.0 = subst (λ text. HasProgram text found.0) same found.1 in
        by_mode job.mode refl (whole.accepted (λ refusal is. known.never_both c.text found.0 refusal found.1 (refusal_here job.mode c.text refusal marked is)))
        (all.accepted (λ refusal is. known.never_both d.text found.0 refusal has (refusal_here job.mode d.text refusal marked is))) found.0 found.1
    by (inr found) = refused_alike job c d m n x y whole all same found.0 (refusal_in job.mode c.text found.0 marked found.1)

-- the statuses that an undisturbed call can have in a mode that infers
record IsOfInference (c : CommandCall) : Type 0 where
  pub not_faulted : c.status ≡ 2 → ⊥
  pub commanded : c.status ≡ 3 → ⊥
  pub read : c.status ≡ 4 → ⊥
  pub written : c.status ≡ 5 → ⊥
  pub memory : c.status ≡ 6 → ⊥
  pub not_wrong : c.status ≡ 7 → ⊥

of_two : (c : CommandCall) (ending : Exit) → c.status ≡ status_of ending → IsOfInference c → (c.status ≡ 0) ⊎ (c.status ≡ 1)
of_two c Done is k = inl is
of_two c (Refused refusal) is k = inr is
of_two c (Faulted fault) is k = absurd (k.not_faulted is)
of_two c NoCommand is k = absurd (k.commanded is)
of_two c CantRead is k = absurd (k.read is)
of_two c CantWrite is k = absurd (k.written is)
of_two c NoMemory is k = absurd (k.memory is)
of_two c (NoRun line) is k = absurd (k.not_wrong is)

-- a text whose marks are inferred
inferred_alike : OneAnswer → (job : Job) (c d : CommandCall) → KeepsContract c → KeepsContract d → IsUndisturbed c → IsUndisturbed d → IsCommand c job → IsCommand d job → AnswersCompletely job c → AnswersCompletely job d
    → c.text ≡ d.text → job.mode ≡ Infer → (c.status ≡ 4 → ⊥) → EndAlike c d
inferred_alike known job c d m n u v x y whole all same mode readable =
    elim (of_two c m.beside_err.words.known.0 m.beside_err.words.known.1 kept) [ inl is ↦ accepted is | inr is ↦ refused is ]
  where
    infers : Infers job.mode
    infers = subst Infers (sym mode) tt

    unrun : RunsProgram job.mode → ⊥
    unrun runs = subst RunsProgram mode runs

    kept : IsOfInference c
    kept = record {
      not_faulted = λ is. unrun ((m.beside_err.end job x).fault_only_where is).0;
      commanded = λ is. some_none job (sym x ∙ m.beside_err.words.only_where is);
      read = readable;
      written = λ is. no_yield c u (inr (is, m.err.five_only_where is));
      memory = u.memory;
      not_wrong = λ is. subst Verifies mode ((m.beside_err.trace job x).seven_only_where is);
    }
      where
        some_none : (j : Job) → ◌≡◌ {A = Option Job} (Some j) None → ⊥
        some_none j e = cc

    refused : c.status ≡ 1 → EndAlike c d
    refused is = let found = (m.beside_err.refusal job x).only_where is in refused_alike job c d m n x y whole all same found.0 found.1.refused

    accepted : c.status ≡ 0 → EndAlike c d
    accepted is =
        let first = (m.beside_err.inference job x).done is infers in
        let has : HasMarking d.text first.0 = subst (λ text. HasMarking text first.0) same first.1 in
        let zero = done_too (all.accepted (λ refusal refused. known.never_marked d.text first.0 refusal has (subst (λ (mode : Mode). IsRefusalIn mode d.text refusal) mode refused))) in
        let second = (n.beside_err.inference job y).done zero infers in
        all_alike c d same ((m.beside_err.code job x).unlowered (subst HasCode mode) ∙ sym ((n.beside_err.code job y).unlowered (subst HasCode mode))) (record {
          status = is ∙ sym zero;
          history = (m.beside_err.run job x).unrun (subst HasHistory mode) ∙ sym ((n.beside_err.run job y).unrun (subst HasHistory mode));
          done = (m.beside_err.count job x).unrun unrun ∙ sym ((n.beside_err.count job y).unrun unrun);
          output = λ _ told heard. (
            marks_text first.0,
            (
              first.2 told,
              subst (λ (marks : List Mark). GrewBy d.out d.out_after (marks_text marks)) (known.one_marking d.text second.0 first.0 second.1 has) (second.2 heard),
            ),
          );
        })
      where
        done_too : Accepts job d → d.status ≡ 0
        done_too (inl zero) = zero
        done_too (inr (inl two)) = absurd (unrun ((n.beside_err.end job y).fault_only_where two).0)
        done_too (inr (inr (inl seven))) = absurd (subst Verifies mode ((n.beside_err.trace job y).seven_only_where seven))
        done_too (inr (inr (inr lacks))) = absurd (subst Verifies mode lacks.1.mode)

-- a text that both have read or made whole
judged_alike : OneAnswer → (job : Job) (c d : CommandCall) → KeepsContract c → KeepsContract d → AskAlike c d → IsUndisturbed c → IsUndisturbed d → IsCommand c job → IsCommand d job → AnswersCompletely job c → AnswersCompletely job d
    → c.text ≡ d.text → (Infers job.mode → c.status ≡ 4 → ⊥) → EndAlike c d
judged_alike known job c d m n ask u v x y whole all same readable = by job.mode refl
  where
    by : (mode : Mode) → job.mode ≡ mode → EndAlike c d
    by Infer e = inferred_alike known job c d m n u v x y whole all same e (readable (subst Infers (sym e) tt))
    by _ e = marked_alike known job c d m n ask u v x y whole all same (λ infers. subst Infers e infers)

-- ---- the text is read

some_none : (l : List ℕ) → Some l ≡ None → ⊥
some_none l e = cc

nothing_failed : (job : Job) (c : CommandCall) → IsUndisturbed c → (HasFile job.mode → IsMissing c.source job.file → ⊥) → NothingFailed job c
nothing_failed job c u there = record { source = u.source; out = u.out; err = u.err; there = there; memory = u.memory }

-- where nothing failed the text was read whole
read_text : (job : Job) (c : CommandCall) (bytes : List ℕ) → HasFile job.mode → Holds c.source job.file bytes → AnswersCompletely job c → c.text ≡ take most_read bytes
read_text job c bytes named holds whole = (was_read job.mode job c named whole.whole).told bytes holds

read_alike : OneAnswer → (job : Job) (c d : CommandCall) → KeepsContract c → KeepsContract d → AskAlike c d → IsUndisturbed c → IsUndisturbed d → IsCommand c job → IsCommand d job
    → HasFile job.mode → ReadsText job c → ReadsText job d → EndAlike c d
read_alike known job c d m n ask u v x y named read again = by (content_of c.source.files job.file) refl
  where
    told : d.source.tells ≡ true
    told = ask.files.tells ∙ ask.told

    by : (o : Option (List ℕ)) → content_of c.source.files job.file ≡ o → EndAlike c d
    by None e =
        let gone : IsMissing c.source job.file = record { tells = ask.told; none = e } in
        let away : IsMissing d.source job.file = record { tells = told; none = ap (λ files. content_of files job.file) ask.files.files ∙ e } in
        missing_alike known job c d m n x y (or_not (no_yield c u) (read.missing gone)) (or_not (no_yield d v) (again.missing away)) (read.nothing_of_missing gone) (again.nothing_of_missing away)
    by (Some bytes) e =
        let f : content_of d.source.files job.file ≡ Some bytes = ap (λ files. content_of files job.file) ask.files.files ∙ e in
        let whole = m.completeness job x (nothing_failed job c u (λ has gone. some_none bytes (sym e ∙ gone.none))) in
        let all = n.completeness job y (nothing_failed job d v (λ has gone. some_none bytes (sym f ∙ gone.none))) in
        let first = read_text job c bytes named (record { tells = ask.told; some = e }) whole in
        let second = read_text job d bytes named (record { tells = told; some = f }) all in
        judged_alike known job c d m n ask u v x y whole all (first ∙ sym second) (λ infers four. elim (read.four_only_where four) [
          | inl gone ↦ some_none bytes (sym e ∙ gone.none)
          | inr (inl lacks) ↦ verifies_marked job.mode lacks.mode infers
          | inr (inr rose) ↦ u.source rose
        ])

-- ---- the text is made

made_alike : OneAnswer → (job : Job) (c d : CommandCall) → KeepsContract c → KeepsContract d → AskAlike c d → IsUndisturbed c → IsUndisturbed d → IsCommand c job → IsCommand d job
    → job.mode ≡ Gen → MakesText job c → MakesText job d → EndAlike c d
made_alike known job c d m n ask u v x y e made again =
    let no_file : HasFile job.mode → ⊥ = λ has. subst HasFile e has in
    let whole = m.completeness job x (nothing_failed job c u (λ has. absurd (no_file has))) in
    let all = n.completeness job y (nothing_failed job d v (λ has. absurd (no_file has))) in
    judged_alike known job c d m n ask u v x y whole all (or_not (λ k. no_yield c u k.1) made.made ∙ sym (or_not (λ k. no_yield d v k.1) again.made))
    (λ infers _. subst Infers e infers)

-- ---- all calls

pub ended_alike : OneAnswer → (c d : CommandCall) → KeepsContract c → KeepsContract d → AskAlike c d → IsUndisturbed c → IsUndisturbed d → EndAlike c d
ended_alike known c d m n ask u v = by (job_of c.words) refl
  where
    by_mode : (job : Job) (mode : Mode) → job.mode ≡ mode → IsCommand c job → IsCommand d job → GetsText mode job c → GetsText mode job d → EndAlike c d
    by_mode job Run e x y a b = read_alike known job c d m n ask u v x y (subst HasFile (sym e) tt) a b
    by_mode job Check e x y a b = read_alike known job c d m n ask u v x y (subst HasFile (sym e) tt) a b
    by_mode job Code e x y a b = read_alike known job c d m n ask u v x y (subst HasFile (sym e) tt) a b
    by_mode job Gen e x y a b = made_alike known job c d m n ask u v x y e a b
    by_mode job Verify e x y a b = read_alike known job c d m n ask u v x y (subst HasFile (sym e) tt) a b
    by_mode job Infer e x y a b = read_alike known job c d m n ask u v x y (subst HasFile (sym e) tt) a b

    by : (o : Option Job) → job_of c.words ≡ o → EndAlike c d
    by None e = no_command c d m n u v e (ap job_of (sym ask.words) ∙ e)
    by (Some job) e =
        let f : IsCommand d job = ap job_of (sym ask.words) ∙ e in
        by_mode job job.mode refl e f (m.beside_err.text job e) (n.beside_err.text job f)
