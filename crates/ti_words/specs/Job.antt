-- What the command line requests.
use Rattle.std.specs.Prelude.{ℕ, Bool, ◌&&◌, ◌*◌, nat_lt, nat_le, if◌then◌else◌}
use Rattle.std.specs.Prelude.{List, [], map, length, codes, Option, Some, None, option_map, option_and_then}
use Rattle.std.specs.Char.{is_ascii_digit}
use Rattle.std.specs.List.{list_all}
use Rattle.std.specs.Str.{bytes_eq}
use Rattle.std.specs.Str.Parse.{digits_value}
use Rattle.ti_words.specs.Uses.{Word, OptionUse, is_each_once, is_used, piece_of, option_uses, value_of}
use Rattle.ti_words.specs.declared.job.Job.{Job}
use Rattle.ti_words.specs.declared.job.Mode.{Mode}
use Rattle.ti_words.specs.declared.job.Mode.TheVariants.{Run, Check, Code, Gen, Verify, Infer}

-- the value of each option, if given
pub record Values : Type 0 where
  pub mode : Option Word
  pub procs : Option Word
  pub workers : Option Word
  pub fuel : Option Word
  pub seed : Option Word
  pub against : Option Word
  pub trace : Bool
  pub stats : Bool
  pub races : Bool
  pub file : Option Word

-- the value of each option according to some uses of options
abbrev pub values_of_uses : List OptionUse → Values
values_of_uses uses = record {
  mode = value_of (codes "mode") uses;
  procs = value_of (codes "procs") uses;
  workers = value_of (codes "workers") uses;
  fuel = value_of (codes "fuel") uses;
  seed = value_of (codes "seed") uses;
  against = value_of (codes "against") uses;
  trace = is_used (codes "trace") uses;
  stats = is_used (codes "stats") uses;
  races = is_used (codes "races") uses;
  file = value_of (codes "FILE") uses;
}

-- the value of each option, if none is used twice
abbrev pub values_once : List OptionUse → Option Values
values_once uses = if is_each_once uses then Some (values_of_uses uses) else None

-- the value of each option, if the arguments are uses of options and none is used twice
abbrev pub parse_values : List Word → Option Values
parse_values words = option_and_then values_once (option_uses (map piece_of words))

-- the mode with this name; without a name, `Run`
abbrev pub mode_of : Option Word → Option Mode
mode_of None = Some Run
mode_of (Some word) =
    if bytes_eq word (codes "run") then Some Run
    else if bytes_eq word (codes "check") then Some Check
    else if bytes_eq word (codes "code") then Some Code
    else if bytes_eq word (codes "gen") then Some Gen
    else if bytes_eq word (codes "verify") then Some Verify
    else if bytes_eq word (codes "infer") then Some Infer
    else None

-- a number is 1 to 10 decimal digits and nothing else
abbrev pub is_number_word : Word → Bool
is_number_word word = nat_lt 0 (length word) && nat_le (length word) 10 && list_all is_ascii_digit word

-- the number that decimal digits represent
abbrev pub decimal_value : Word → ℕ
decimal_value word = digits_value 10 word

-- the number that an argument represents, if it is one from `least` to `most`
abbrev pub number_in : ℕ → ℕ → Word → Option ℕ
number_in least most word =
    if is_number_word word && nat_le least (decimal_value word) && nat_le (decimal_value word) most then Some (decimal_value word) else None

-- the number that an argument represents, if it is one from `least` to `most`; the default if there is no argument
abbrev pub number_within : ℕ → ℕ → ℕ → Option Word → Option ℕ
number_within least most default None = Some default
number_within least most default (Some word) = number_in least most word

-- the default if the option isn't given; it must not be
abbrev pub unsaid : {X : Type 0} → X → Option Word → Option X
unsaid default None = Some default
unsaid default (Some word) = None

-- the maximum number of processes
abbrev pub most_procs : ℕ
most_procs = 32

-- the maximum fuel of all processes together
abbrev pub most_total_fuel : ℕ
most_total_fuel = 4000000

-- the greatest seed
abbrev pub most_seed : ℕ
most_seed = 4294967295

-- the number of processes
abbrev pub procs_of : Values → Option ℕ
procs_of values = number_within 1 most_procs 1 values.procs

-- the number of threads of these processes: at most one for each, which is the default
abbrev pub workers_of : ℕ → Values → Option ℕ
workers_of procs values = number_within 1 procs procs values.workers

-- the fuel of each of these processes
abbrev pub fuel_of : ℕ → Values → Option ℕ
fuel_of procs values = option_and_then (λ fuel. if nat_le (procs * fuel) most_total_fuel then Some fuel else None)
    (number_within 1 most_total_fuel 100000 values.fuel)

-- the seed of a generated program, which may be given in mode gen only
abbrev pub seed_of : Mode → Option Word → Option ℕ
seed_of Gen word = number_within 0 most_seed 1 word
seed_of Run word = unsaid 1 word
seed_of Check word = unsaid 1 word
seed_of Code word = unsaid 1 word
seed_of Verify word = unsaid 1 word
seed_of Infer word = unsaid 1 word

-- the name of the source file, which must be given in every mode except gen, and not in that one
abbrev pub file_of : Mode → Option Word → Option Word
file_of Gen word = unsaid [] word
file_of Run word = word
file_of Check word = word
file_of Code word = word
file_of Verify word = word
file_of Infer word = word

-- the name of the trace, which must be given in mode verify, and not in any other
abbrev pub against_of : Mode → Option Word → Option Word
against_of Verify word = word
against_of Run word = unsaid [] word
against_of Check word = unsaid [] word
against_of Code word = unsaid [] word
against_of Gen word = unsaid [] word
against_of Infer word = unsaid [] word

-- the job of these values, if each of them is valid
abbrev pub job_by : Values → Option Job
job_by values =
    option_and_then (λ mode. option_and_then (λ file. option_and_then
    (λ against. option_and_then (λ seed. option_and_then (λ procs. option_and_then (λ workers. option_map (λ fuel. record {
      mode = mode;
      procs = procs;
      workers = workers;
      fuel = fuel;
      seed = seed;
      trace = values.trace;
      stats = values.stats;
      races = values.races;
      file = file;
      against = against;
    }) (fuel_of procs values)) (workers_of procs values)) (procs_of values)) (seed_of mode values.seed)) (against_of mode values.against))
    (file_of mode values.file))
    (mode_of values.mode)

-- the job that the arguments request, if they are a valid command
abbrev pub job_of : List Word → Option Job
job_of words = option_and_then job_by (parse_values words)
