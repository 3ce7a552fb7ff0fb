use Rattle.std.proofs.Common.{ℕ, [], map, string_bytes, Global, refl, sym, subst}
use Rattle.ti_top.specs.declared.exit.Exit.TheVariants.{NoCommand, NoMemory}
use Rattle.ti_top.specs.Mirrors.EndsWithLine.{EndsWithLine}
use Rattle.ti_top.specs.Mirrors.JobView.{ending_of}
use Rattle.ti_top.proofs.ClausesMet.{meets_no_command, meets_command, meets_unread}
use Rattle.ti_top.proofs.JobRanges.{in_ranges}
use Rattle.ti_top.proofs.TextsDone.{kept_elsewhere}
use Rattle.ti_top.proofs.command.titan_top.Goals as goal

pub returns-in-Err-Usage : goal.returns-in-Err-Usage
returns-in-Err-Usage g c =
    meets_no_command _ (c.in-Err-Usage.ensures.usage c.in-Err-Usage.field-0-is)
    (record {
      source = refl;
      text = c.nothing.ensures.text;
      nothing = record {
        unwritten = refl;
        no_entry = c.nothing.ensures.history;
        no_code = c.nothing.ensures.code;
        no_count = c.nothing.ensures.done;
      };
    })
    (subst (λ (s : ℕ). EndsWithLine NoCommand [] (g.K.Sink.state c.args.err.now) (g.K.Sink.state c.end_with.new.err) s) (sym c.nothing.ensures.status) c.end_with.ensures)

pub returns-in-Err-Memory : goal.returns-in-Err-Memory
returns-in-Err-Memory g c =
    meets_unread _ (λ job command. (in_ranges (map (string_bytes {Z = Global}) c.args.words.now) job command).within.some)
    (record {
      source = refl;
      text = c.nothing-in-Err-Memory.ensures.text;
      nothing = record {
        unwritten = refl;
        no_entry = c.nothing-in-Err-Memory.ensures.history;
        no_code = c.nothing-in-Err-Memory.ensures.code;
        no_count = c.nothing-in-Err-Memory.ensures.done;
      };
    })
    (subst (λ (s : ℕ). EndsWithLine NoMemory [] (g.K.Sink.state c.args.err.now) (g.K.Sink.state c.end_with-in-Err-Memory.new.err) s)
    (sym c.nothing-in-Err-Memory.ensures.status) c.end_with-in-Err-Memory.ensures)

pub run_job-job_result-requires-clause-ranges : goal.run_job-job_result-requires-clause-ranges
run_job-job_result-requires-clause-ranges g c = λ _ _. in_ranges (map (string_bytes {Z = Global}) c.args.words.now) c.in-Ok.job c.in-Ok.ensures.job

pub returns : goal.returns
returns g c =
    meets_command (ending_of c.run_job-job_result.result) c.in-Ok.job _ c.in-Ok.ensures.job
    (in_ranges (map (string_bytes {Z = Global}) c.args.words.now) c.in-Ok.job c.in-Ok.ensures.job).within.some
    (kept_elsewhere c.in-Ok.job.mode c.in-Ok.job (ending_of c.run_job-job_result.result) _ _ _ _ _ _ _ _ c.of-result.ensures.artifacts c.run_job-job_result.ensures.says) c.run_job-job_result.ensures.leaves
    (rw (c.of-result.ensures.ending, c.as_str.ensures) at c.end_with-status.ensures)
