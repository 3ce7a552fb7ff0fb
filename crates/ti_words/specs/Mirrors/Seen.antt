-- Mirrors the code, for contracts of private functions: its strings as lists of bytes.
use Rattle.std.specs.Prelude.{option_map}
use Rattle.ti_words.specs.Job.{Values}
use Rattle.ti_words.specs.declared.arguments.RawArgs.{RawArgs}
use Rattle.ti_words.specs.declared.job.Job.{Job}
use Rattle.ti_words.specs.declared.words.JobRef.{JobRef}

-- the values of options as lists of bytes
abbrev pub values_seen : RawArgs → Values
values_seen g = record {
  mode = option_map (λ s. s.now) g.mode;
  procs = option_map (λ s. s.now) g.procs;
  workers = option_map (λ s. s.now) g.workers;
  fuel = option_map (λ s. s.now) g.fuel;
  seed = option_map (λ s. s.now) g.seed;
  against = option_map (λ s. s.now) g.against;
  trace = g.trace;
  stats = g.stats;
  races = g.races;
  file = option_map (λ s. s.now) g.file;
}

-- the job with its file names as lists of bytes
abbrev pub job_asked : JobRef → Job
job_asked a = record {
  mode = a.mode;
  procs = a.procs;
  workers = a.workers;
  fuel = a.fuel;
  seed = a.seed;
  trace = a.trace;
  stats = a.stats;
  races = a.races;
  file = a.file.now;
  against = a.against.now;
}
