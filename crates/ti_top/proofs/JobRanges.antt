-- The numbers of a job that words ask for are in their ranges.
use Rattle.std.proofs.Common.{◌≡◌, inl, inr, ℕ, ◌≤◌, ◌*◌, nat_le, Bool, true, false, ◌&&◌, if◌then◌else◌, List, Option, None, Some, option_map, option_and_then, arith, refl, sym, ◌∙◌, subst}
use Rattle.std.proofs.lemmas.Bool.Decides.{leb_tells}
use Rattle.std.proofs.lemmas.Option.{same_Some}
use Rattle.ti_words.specs.Uses.{Word}
use Rattle.ti_words.specs.Job.{Values, parse_values, mode_of, file_of, against_of, seed_of, is_number_word, decimal_value, number_in, number_within, most_total_fuel, procs_of, workers_of, fuel_of, job_by, job_of}
use Rattle.ti_words.specs.declared.job.Job.{Job}
use Rattle.ti_words.specs.declared.job.Mode.{Mode}
use Rattle.ti_store.specs.Conditions.{IsWithinRunLimits}
use Rattle.ti_top.specs.Mirrors.JobView.{IsInRanges}

no_some : {A B : Type 0} (b : B) → ◌≡◌ {A = Option B} None (Some b) → A
no_some {A} {B} b h = absurd (wrong b h)
  where
    wrong : (b : B) → ◌≡◌ {A = Option B} None (Some b) → ⊥
    wrong b h = cc

-- what is there at the end of two steps
record Stepped {A B : Type 0} (o : Option A) (f : A → Option B) (b : B) : Type 0 where
  first : A
  is : o ≡ Some first
  next : f first ≡ Some b

stepped : {A B : Type 0} (o : Option A) (f : A → Option B) (b : B) → option_and_then f o ≡ Some b → Stepped o f b
stepped None f b h = no_some b h
stepped (Some a) f b h = record { first = a; is = refl; next = h }

mapped : {A B : Type 0} (f : A → B) (o : Option A) (b : B) → option_map f o ≡ Some b → (a : A) × (o ≡ Some a) × (f a ≡ b)
mapped f None b h = no_some b h
mapped f (Some a) b h = (a, refl, same_Some (f a) b h)

-- ---- numbers

low : (a b : ℕ) → nat_le a b ≡ true → a ≤ b
low a b h = elim (leb_tells a b) [ inl is ↦ is.1 | inr is ↦ absurd (wrong (sym is.0 ∙ h)) ]
  where
    wrong : false ≡ true → ⊥
    wrong h = cc

picked : (a b c : Bool) (k n : ℕ) → (if a && b && c then Some k else None) ≡ Some n → (b ≡ true) × (c ≡ true) × (k ≡ n)
picked true true true k n e = (refl, refl, same_Some k n e)
picked true true false k n e = no_some n e
picked true false c k n e = no_some n e
picked false b c k n e = no_some n e

-- a number that a word writes
in_range : (least most : ℕ) (word : Word) (n : ℕ) → number_in least most word ≡ Some n → (least ≤ n) × (n ≤ most)
in_range least most word n e =
    let p = picked (is_number_word word) (nat_le least (decimal_value word)) (nat_le (decimal_value word) most) (decimal_value word) n e in
    (subst (λ k. least ≤ k) p.2 (low least (decimal_value word) p.0), subst (λ k. k ≤ most) p.2 (low (decimal_value word) most p.1))

-- or the default
within_range : (least most default : ℕ) (word : Option Word) (n : ℕ) → least ≤ default → default ≤ most → number_within least most default word ≡ Some n → (least ≤ n) × (n ≤ most)
within_range least most default None n some few e = let same = same_Some default n e in (subst (λ k. least ≤ k) same some, subst (λ k. k ≤ most) same few)
within_range least most default (Some word) n some few e = in_range least most word n e

fuel_within : (procs : ℕ) (values : Values) (n : ℕ) → fuel_of procs values ≡ Some n → (1 ≤ n) × (n ≤ most_total_fuel)
fuel_within procs values n e =
    let k = stepped (number_within 1 most_total_fuel 100000 values.fuel) (λ fuel. if nat_le (procs * fuel) most_total_fuel then Some fuel else None) n e in
    subst (λ m. (1 ≤ m) × (m ≤ most_total_fuel)) (kept (nat_le (procs * k.first) most_total_fuel) k.first k.next) (within_range 1 most_total_fuel 100000 values.fuel k.first (omega arith) (omega arith) k.is)
  where
    kept : (test : Bool) (m : ℕ) → (if test then Some m else None) ≡ Some n → m ≡ n
    kept true m h = same_Some m n h
    kept false m h = no_some n h

-- ---- jobs

abbrev job_with : Values → Mode → Word → Word → ℕ → ℕ → ℕ → ℕ → Job
job_with values mode file against seed procs workers fuel =
    record { mode = mode; procs = procs; workers = workers; fuel = fuel; seed = seed; trace = values.trace; stats = values.stats; races = values.races; file = file; against = against }

-- the last steps, of which each takes one more value
abbrev fueled : Values → Mode → Word → Word → ℕ → ℕ → ℕ → Option Job
fueled values mode file against seed procs workers = option_map (job_with values mode file against seed procs workers) (fuel_of procs values)

abbrev manned : Values → Mode → Word → Word → ℕ → ℕ → Option Job
manned values mode file against seed procs = option_and_then (fueled values mode file against seed procs) (workers_of procs values)

abbrev seeded : Values → Mode → Word → Word → ℕ → Option Job
seeded values mode file against seed = option_and_then (manned values mode file against seed) (procs_of values)

abbrev traced : Values → Mode → Word → Word → Option Job
traced values mode file against = option_and_then (seeded values mode file against) (seed_of mode values.seed)

abbrev named : Values → Mode → Word → Option Job
named values mode file = option_and_then (traced values mode file) (against_of mode values.against)

within : (values : Values) (mode : Mode) (file against : Word) (seed procs workers fuel : ℕ) (job : Job)
    → job_with values mode file against seed procs workers fuel ≡ job → IsWithinRunLimits procs fuel → 1 ≤ workers → IsInRanges job
within values _ file against seed procs workers fuel job same is some = subst IsInRanges same (record { within = is; workers = some })

ranges : (values : Values) (job : Job) → job_by values ≡ Some job → IsInRanges job
ranges values job e =
    let mode = stepped (mode_of values.mode) (λ mode. option_and_then (named values mode) (file_of mode values.file)) job e in
    let file = stepped (file_of mode.first values.file) (named values mode.first) job mode.next in
    let against = stepped (against_of mode.first values.against) (traced values mode.first file.first) job file.next in
    let seed = stepped (seed_of mode.first values.seed) (seeded values mode.first file.first against.first) job against.next in
    let procs = stepped (procs_of values) (manned values mode.first file.first against.first seed.first) job seed.next in
    let workers = stepped (workers_of procs.first values) (fueled values mode.first file.first against.first seed.first procs.first) job procs.next in
    let fuel = mapped (job_with values mode.first file.first against.first seed.first procs.first workers.first) (fuel_of procs.first values) job workers.next in
    let p = within_range 1 32 1 values.procs procs.first (omega arith) (omega arith) procs.is in
    let w = within_range 1 procs.first procs.first values.workers workers.first p.0 (omega arith) workers.is in
    let f = fuel_within procs.first values fuel.0 fuel.1 in
    within values mode.first file.first against.first seed.first procs.first workers.first fuel.0 job fuel.2 (record { some = p.0; few = p.1; fueled = f.0; limited = f.1 }) w.0

pub in_ranges : (words : List Word) (job : Job) → job_of words ≡ Some job → IsInRanges job
in_ranges words job e = let k = stepped (parse_values words) job_by job e in ranges k.first job k.next
