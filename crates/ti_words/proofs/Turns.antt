-- One step of `clap`, for one argument of the command line.
use Rattle.std.proofs.Common.{append-nil, ◌≡◌, ◌∙◌, ◌==◌, ◌&&◌, ◌||◌, ℕ, Bool, cond, true, false, true≢false, refl, sym, ap, ap₂, List, [], ◌∷◌, ◌++◌, Option, Some, None, codes}
use Rattle.std.specs.Prelude.{not, option_and_then}
use Rattle.std.specs.Option.{option_map_or}
use Rattle.clap.specs.Lexer.{long_of, long_of_rest, short_of, short_of_rest, strip_byte}
use Rattle.std.specs.List.{fold, list_all}
use Rattle.std.specs.Str.{bytes_eq}
use Rattle.clap.specs.Faults.{bundle_fault, flag_word_fault, other_fault, step_fault, word_fault, check_fault, default_fault, defaults_fault, given_default_fault, settle_fault, turn_fault, walk_fault}
use Rattle.clap.specs.Kinds.{Kinds, or_else}
use Rattle.clap.specs.Simple.{Shape, built}
use Rattle.clap.specs.Walk.{Step, after_step, long_or_other, more_values, plain_word, short_or_plain, started, subcommand_or_other}
use Rattle.clap.specs.Walk.{trailing, with_values, without, word_met, Held, Row, Rule, Text, Waiting, Walk, at_row, finished, has_row, idle}
use Rattle.clap.specs.Walk.{is_empty, is_pending, option, positional, settled, walked, with_default}
use Rattle.clap.specs.declared.builder.value_parser.Reading.TheVariants.{AsWritten}
use Rattle.clap.specs.declared.error.kind.ErrorKind.TheVariants as kind
use Rattle.clap.specs.declared.parser.matches.ValueSource.TheVariants.{CommandLine}
use Rattle.ti_words.specs.Uses.{OptionUse, Word, with_dashes}
use Rattle.ti_words.specs.Mirrors.Command.{file_rule, titan}
use Rattle.ti_words.proofs.Views.{IsReport, IsSetting, against, front, fuel, mode, procs, races, seed, stats, trace, workers}

-- the command as it is built
abbrev pub shape : Shape
shape = (built titan).top

abbrev pub rules : List Rule
rules = shape.rules

-- no kind of error
abbrev pub no : Kinds → Bool
no [] = true
no (k ∷ ks) = false

-- the value where the test holds
abbrev pub guard : {X : Type 0} → Bool → Option X → Option X
guard true o = o
guard false o = None

-- what can still go wrong at the end of the words
abbrev pub end_fault : Held → Kinds
end_fault h = or_else [] (or_else (settle_fault rules false h)
    (or_else (defaults_fault (settled rules h).rows rules) (check_fault shape (finished rules h) false)))

-- what can go wrong from here on
abbrev pub rest_fault : Walk → List Text → Kinds
rest_fault w words = or_else (walk_fault shape [] w words) (end_fault (fold (walked rules []) w words).held)

-- the rows at the end of the words, where nothing goes wrong
abbrev pub outcome : Walk → List Text → Option (List Row)
outcome w words = guard (no (rest_fault w words)) (Some (settled rules (fold (walked rules []) w words).held).rows)

-- whether what is pending passes
abbrev pub settles : Held → Bool
settles h = no (settle_fault rules false h)

-- what is waited for: the value of this setting, or nothing
abbrev pub waiting_for : Option Word → Waiting
waiting_for None = idle
waiting_for (Some name) = option name

-- between two words
abbrev pub at : Waiting → Held → ℕ → Walk
at waiting h position = record { held = h; waiting = waiting; position = position; is_trailing = false; stopped = None }

-- one word and the others
pub outcome-more : (w : Walk) (word : Text) (words : List Text)
    → outcome w (word ∷ words) ≡ guard (no (turn_fault shape [] w word)) (outcome (walked rules [] w word) words)
unfolding walk_fault
outcome-more w word words =
    go (turn_fault shape [] w word) (walk_fault shape [] (walked rules [] w word) words)
    (end_fault (fold (walked rules []) (walked rules [] w word) words).held)
    (settled rules (fold (walked rules []) (walked rules [] w word) words).held).rows
  where
    go : (k a b : Kinds) (rows : List Row) → guard (no (or_else (or_else k a) b)) (Some rows) ≡ guard (no k) (guard (no (or_else a b)) (Some rows))
    go [] a b rows = refl
    go (x ∷ k) a b rows = refl

-- a rule whose defaults pass
abbrev clean : Rule → Bool
clean a = is_empty a.defaults || no (given_default_fault a a.defaults)

default_clean : (rows : List Row) (a : Rule) → clean a ≡ true → default_fault rows a ≡ []
default_clean rows a h = go (has_row a.id rows) (is_empty a.defaults) (given_default_fault a a.defaults) h
  where
    go : (b e : Bool) (k : Kinds) → (e || no k) ≡ true → cond (b || e) [] k ≡ []
    go true e k h = refl
    go false true k h = refl
    go false false [] h = refl
    go false false (x ∷ k) h = absurd (true≢false (sym h))

both : (a b : Bool) → (a && b) ≡ true → (a ≡ true) × (b ≡ true)
both true b e = (refl, e)
both false b e = absurd (true≢false (sym e))

defaults_clean : (rows : List Row) (rs : List Rule) → list_all clean rs ≡ true → defaults_fault rows rs ≡ []
unfolding defaults_fault
defaults_clean rows [] h = refl
defaults_clean rows (a ∷ rs) h =
    let parts = both (clean a) (list_all clean rs) h in
    ap₂ or_else (default_clean rows a parts.0) (defaults_clean (with_default rows a) rs parts.1)

all_clean : list_all clean rules ≡ true
all_clean = refl

-- no word is left
pub outcome-end : (w : Walk) → outcome w [] ≡ guard (settles w.held) (Some (settled rules w.held).rows)
unfolding walk_fault
outcome-end w = go (settle_fault rules false w.held) (defaults_fault (settled rules w.held).rows rules) (settled rules w.held).rows
    (defaults_clean (settled rules w.held).rows rules all_clean)
  where
    go : (k d : Kinds) (rows : List Row) → d ≡ [] → guard (no (or_else [] (or_else [] (or_else k (or_else d []))))) (Some rows) ≡ guard (no k) (Some rows)
    go [] d rows e = rw e refl
    go (x ∷ k) d rows e = refl

-- ---- `--NAME`

-- the option waits for its value
abbrev pub held_for : Word → Held → Held
held_for name h = record { rows = (settled rules h).rows; pending = Some (name, []); skip = h.skip }

then_none : (k : Kinds) → no (or_else k []) ≡ no k
then_none [] = refl
then_none (x ∷ k) = refl

pub alone_turn : {name : Word} → IsSetting name → (waits : Option Word) (h : Held) (p : ℕ)
    → no (turn_fault shape [] (at (waiting_for waits) h p) (with_dashes name)) ≡ settles h
alone_turn mode None h p = then_none (settle_fault rules false h)
alone_turn mode (Some setting) h p = then_none (settle_fault rules false h)
alone_turn procs None h p = then_none (settle_fault rules false h)
alone_turn procs (Some setting) h p = then_none (settle_fault rules false h)
alone_turn workers None h p = then_none (settle_fault rules false h)
alone_turn workers (Some setting) h p = then_none (settle_fault rules false h)
alone_turn fuel None h p = then_none (settle_fault rules false h)
alone_turn fuel (Some setting) h p = then_none (settle_fault rules false h)
alone_turn seed None h p = then_none (settle_fault rules false h)
alone_turn seed (Some setting) h p = then_none (settle_fault rules false h)
alone_turn against None h p = then_none (settle_fault rules false h)
alone_turn against (Some setting) h p = then_none (settle_fault rules false h)

pub alone_walk : {name : Word} → IsSetting name → (h : Held) (p : ℕ)
    → walked rules [] (at idle h p) (with_dashes name) ≡ at (option name) (held_for name h) p
unfolding walked
alone_walk mode h p = refl
alone_walk procs h p = refl
alone_walk workers h p = refl
alone_walk fuel h p = refl
alone_walk seed h p = refl
alone_walk against h p = refl

-- ---- `--NAME=VALUE`, and `--NAME` of a report

-- the row of one use
abbrev pub row_of_use : OptionUse → Row
row_of_use u = record { id = u.name; values = u.value ∷ []; count = None; source = Some CommandLine; reading = AsWritten }

-- the rows after one more use
abbrev pub used_rows : OptionUse → List Row → List Row
used_rows u rows = with_values u.name AsWritten CommandLine (u.value ∷ []) (without u.name rows)

abbrev set_kinds : Kinds → Bool → Kinds
set_kinds k b = or_else (or_else k (or_else [] (or_else (cond (b && true) (kind.ArgumentConflict ∷ []) []) []))) []

no_set : (k : Kinds) (b : Bool) → no (set_kinds k b) ≡ (no k && not b)
no_set [] true = refl
no_set [] false = refl
no_set (x ∷ k) true = refl
no_set (x ∷ k) false = refl

-- the use of an argument, done in one word
abbrev pub whole : Word → Word → Held → Held
whole name value h = record {
  rows = used_rows (record { name = name; value = value }) (settled rules h).rows;
  pending = None;
  skip = h.skip;
}

pub joined_turn : {name : Word} → IsSetting name → (x : ℕ) (xs : Word) (waits : Option Word) (h : Held) (p : ℕ)
    → no (turn_fault shape [] (at (waiting_for waits) h p) (front name ++ x ∷ xs)) ≡ (settles h && not (has_row name (settled rules h).rows))
joined_turn mode x xs None h p = no_set (settle_fault rules false h) (has_row (codes "mode") (settled rules h).rows)
joined_turn mode x xs (Some setting) h p = no_set (settle_fault rules false h) (has_row (codes "mode") (settled rules h).rows)
joined_turn procs x xs None h p = no_set (settle_fault rules false h) (has_row (codes "procs") (settled rules h).rows)
joined_turn procs x xs (Some setting) h p = no_set (settle_fault rules false h) (has_row (codes "procs") (settled rules h).rows)
joined_turn workers x xs None h p = no_set (settle_fault rules false h) (has_row (codes "workers") (settled rules h).rows)
joined_turn workers x xs (Some setting) h p = no_set (settle_fault rules false h) (has_row (codes "workers") (settled rules h).rows)
joined_turn fuel x xs None h p = no_set (settle_fault rules false h) (has_row (codes "fuel") (settled rules h).rows)
joined_turn fuel x xs (Some setting) h p = no_set (settle_fault rules false h) (has_row (codes "fuel") (settled rules h).rows)
joined_turn seed x xs None h p = no_set (settle_fault rules false h) (has_row (codes "seed") (settled rules h).rows)
joined_turn seed x xs (Some setting) h p = no_set (settle_fault rules false h) (has_row (codes "seed") (settled rules h).rows)
joined_turn against x xs None h p = no_set (settle_fault rules false h) (has_row (codes "against") (settled rules h).rows)
joined_turn against x xs (Some setting) h p = no_set (settle_fault rules false h) (has_row (codes "against") (settled rules h).rows)

pub joined_walk : {name : Word} → IsSetting name → (x : ℕ) (xs : Word) (h : Held) (p : ℕ)
    → walked rules [] (at idle h p) (front name ++ x ∷ xs) ≡ at idle (whole name (x ∷ xs) h) p
unfolding walked
joined_walk mode x xs h p = refl
joined_walk procs x xs h p = refl
joined_walk workers x xs h p = refl
joined_walk fuel x xs h p = refl
joined_walk seed x xs h p = refl
joined_walk against x xs h p = refl

pub report_turn : {name : Word} → IsReport name → (waits : Option Word) (h : Held) (p : ℕ)
    → no (turn_fault shape [] (at (waiting_for waits) h p) (with_dashes name)) ≡ (settles h && not (has_row name (settled rules h).rows))
report_turn trace None h p = no_set (settle_fault rules false h) (has_row (codes "trace") (settled rules h).rows)
report_turn trace (Some setting) h p = no_set (settle_fault rules false h) (has_row (codes "trace") (settled rules h).rows)
report_turn stats None h p = no_set (settle_fault rules false h) (has_row (codes "stats") (settled rules h).rows)
report_turn stats (Some setting) h p = no_set (settle_fault rules false h) (has_row (codes "stats") (settled rules h).rows)
report_turn races None h p = no_set (settle_fault rules false h) (has_row (codes "races") (settled rules h).rows)
report_turn races (Some setting) h p = no_set (settle_fault rules false h) (has_row (codes "races") (settled rules h).rows)

pub report_walk : {name : Word} → IsReport name → (h : Held) (p : ℕ)
    → walked rules [] (at idle h p) (with_dashes name) ≡ at idle (whole name (codes "true") h) p
unfolding walked
report_walk trace h p = refl
report_walk stats h p = refl
report_walk races h p = refl

-- ---- a word that doesn't begin with `-`

not_dashes : (x : ℕ) (xs : Word) → (x == 45) ≡ false → bytes_eq (x ∷ xs) (45 ∷ 45 ∷ []) ≡ false
not_dashes x xs e = ap (λ b. b && bytes_eq xs (45 ∷ [])) e

not_long : (x : ℕ) (xs : Word) → (x == 45) ≡ false → long_of (x ∷ xs) ≡ None
not_long x xs e = ap (λ b. option_and_then long_of_rest (option_and_then (strip_byte 45) (cond b (Some xs) None))) e

not_short : (x : ℕ) (xs : Word) → (x == 45) ≡ false → short_of (x ∷ xs) ≡ None
not_short x xs e = ap (λ b. option_and_then short_of_rest (cond b (Some xs) None)) e

other_met : (waiting : Waiting) (x : ℕ) (xs : Word) → (x == 45) ≡ false → (h : Held) (p : ℕ)
    → subcommand_or_other rules None waiting p (x ∷ xs) h ≡ plain_word rules waiting (x ∷ xs) h
other_met waiting x xs e h p =
    ap (λ b. cond b (h, trailing p) (long_or_other rules waiting (x ∷ xs) (long_of (x ∷ xs)) h)) (not_dashes x xs e)
    ∙ (ap (λ l. long_or_other rules waiting (x ∷ xs) l h) (not_long x xs e)
    ∙ ap (λ s. short_or_plain rules waiting (x ∷ xs) s h) (not_short x xs e))

plain_met : (waiting : Waiting) (x : ℕ) (xs : Word) → (x == 45) ≡ false → (h : Held) (p : ℕ)
    → word_met rules [] false waiting p (x ∷ xs) h ≡ plain_word rules waiting (x ∷ xs) h
plain_met idle x xs e h p = other_met idle x xs e h p
plain_met (option id) x xs e h p = other_met (option id) x xs e h p
plain_met positional x xs e h p = other_met positional x xs e h p

other_faultless : (x : ℕ) (xs : Word) → (x == 45) ≡ false → (h : Held) → other_fault shape None (x ∷ xs) h ≡ []
other_faultless x xs e h =
    ap (λ b. cond b [] (flag_word_fault rules false (long_of (x ∷ xs)) (x ∷ xs) h)) (not_dashes x xs e)
    ∙ (ap (λ l. flag_word_fault rules false l (x ∷ xs) h) (not_long x xs e)
    ∙ ap (λ s. option_map_or (λ flags. bundle_fault rules false flags h) s []) (not_short x xs e))

plain_faultless : (waiting : Waiting) (x : ℕ) (xs : Word) → (x == 45) ≡ false → (h : Held) → word_fault shape [] false waiting (x ∷ xs) h ≡ []
plain_faultless idle x xs e h = other_faultless x xs e h
plain_faultless (option id) x xs e h = other_faultless x xs e h
plain_faultless positional x xs e h = other_faultless x xs e h

plain_turn : (waiting : Waiting) (x : ℕ) (xs : Word) → (x == 45) ≡ false → (h : Held) (p : ℕ)
    → turn_fault shape [] (at waiting h p) (x ∷ xs) ≡ step_fault shape p (plain_word rules waiting (x ∷ xs) h).0 (plain_word rules waiting (x ∷ xs) h).1
plain_turn waiting x xs e h p =
    ap₂ (λ (f : Kinds) (m : Held × Step). or_else f (step_fault shape p m.0 m.1)) (plain_faultless waiting x xs e h) (plain_met waiting x xs e h p)

plain_walk : (waiting : Waiting) (x : ℕ) (xs : Word) → (x == 45) ≡ false → (h : Held) (p : ℕ)
    → walked rules [] (at waiting h p) (x ∷ xs)
    ≡ after_step rules (x ∷ xs) (at waiting h p) (plain_word rules waiting (x ∷ xs) h).0 (plain_word rules waiting (x ∷ xs) h).1
unfolding walked
plain_walk waiting x xs e h p = ap (λ (m : Held × Step). after_step rules (x ∷ xs) (at waiting h p) m.0 m.1) (plain_met waiting x xs e h p)

-- the argument has its value, which is yet to be settled
abbrev pub held_with : Word → Word → Held → Held
held_with name value h = record { rows = (settled rules h).rows; pending = Some (name, value ∷ []); skip = h.skip }

pub value_turn : {name : Word} → IsSetting name → (x : ℕ) (xs : Word) → (x == 45) ≡ false → (h : Held) (p : ℕ)
    → no (turn_fault shape [] (at (option name) (held_for name h) p) (x ∷ xs)) ≡ true
value_turn mode x xs e h p = ap no (plain_turn (option (codes "mode")) x xs e (held_for (codes "mode") h) p)
value_turn procs x xs e h p = ap no (plain_turn (option (codes "procs")) x xs e (held_for (codes "procs") h) p)
value_turn workers x xs e h p = ap no (plain_turn (option (codes "workers")) x xs e (held_for (codes "workers") h) p)
value_turn fuel x xs e h p = ap no (plain_turn (option (codes "fuel")) x xs e (held_for (codes "fuel") h) p)
value_turn seed x xs e h p = ap no (plain_turn (option (codes "seed")) x xs e (held_for (codes "seed") h) p)
value_turn against x xs e h p = ap no (plain_turn (option (codes "against")) x xs e (held_for (codes "against") h) p)

pub value_walk : {name : Word} → IsSetting name → (x : ℕ) (xs : Word) → (x == 45) ≡ false → (h : Held) (p : ℕ)
    → walked rules [] (at (option name) (held_for name h) p) (x ∷ xs) ≡ at idle (held_with name (x ∷ xs) h) p
value_walk mode x xs e h p = plain_walk (option (codes "mode")) x xs e (held_for (codes "mode") h) p
value_walk procs x xs e h p = plain_walk (option (codes "procs")) x xs e (held_for (codes "procs") h) p
value_walk workers x xs e h p = plain_walk (option (codes "workers")) x xs e (held_for (codes "workers") h) p
value_walk fuel x xs e h p = plain_walk (option (codes "fuel")) x xs e (held_for (codes "fuel") h) p
value_walk seed x xs e h p = plain_walk (option (codes "seed")) x xs e (held_for (codes "seed") h) p
value_walk against x xs e h p = plain_walk (option (codes "against")) x xs e (held_for (codes "against") h) p

-- an option that waits for its value doesn't pass without one
pub waits_in_vain : {name : Word} → IsSetting name → (h : Held) → settles (held_for name h) ≡ false
waits_in_vain mode h = refl
waits_in_vain procs h = refl
waits_in_vain workers h = refl
waits_in_vain fuel h = refl
waits_in_vain seed h = refl
waits_in_vain against h = refl

file_kinds : (b : Bool) (k : Kinds) → no (cond (b && false) [] k) ≡ no k
file_kinds true k = refl
file_kinds false k = refl

pub file_turn : (x : ℕ) (xs : Word) → (x == 45) ≡ false → (h : Held)
    → no (turn_fault shape [] (at idle h 1) (x ∷ xs)) ≡ settles h
file_turn x xs e h = ap no (plain_turn idle x xs e h 1) ∙ file_kinds (is_pending file_rule h.pending) (settle_fault rules false h)

pub stray_turn : (x : ℕ) (xs : Word) → (x == 45) ≡ false → (h : Held)
    → no (turn_fault shape [] (at idle h 2) (x ∷ xs)) ≡ false
stray_turn x xs e h = ap no (plain_turn idle x xs e h 2)

file_held : (b : Bool) (word : Word) (h : Held)
    → ◌≡◌ {A = Held} (record {
      rows = (cond (b && false) h (settled rules h)).rows;
      pending = Some (
        (started (codes "FILE") (cond (b && false) h (settled rules h)).pending).0,
        (started (codes "FILE") (cond (b && false) h (settled rules h)).pending).1 ++ word ∷ [],
      );
      skip = (cond (b && false) h (settled rules h)).skip;
    }) (held_with (codes "FILE") word h)
file_held true word h = refl
file_held false word h = refl

pub file_walk : (x : ℕ) (xs : Word) → (x == 45) ≡ false → (h : Held)
    → walked rules [] (at idle h 1) (x ∷ xs) ≡ at idle (held_with (codes "FILE") (x ∷ xs) h) 2
unfolding walked
file_walk x xs e h = plain_walk idle x xs e h 1 ∙ ap (λ (held : Held). at idle held 2) (file_held (is_pending file_rule h.pending) (x ∷ xs) h)

-- ---- what is pending is settled

abbrev pending_kinds : Bool → Kinds
pending_kinds b = or_else [] (or_else (cond (b && true) (kind.ArgumentConflict ∷ []) []) [])

no_pending : (b : Bool) → no (pending_kinds b) ≡ not b
no_pending true = refl
no_pending false = refl

pub value_settles : {name : Word} → IsSetting name → (value : Word) (h : Held) → settles (held_with name value h) ≡ not (has_row name (settled rules h).rows)
value_settles mode value h = no_pending (has_row (codes "mode") (settled rules h).rows)
value_settles procs value h = no_pending (has_row (codes "procs") (settled rules h).rows)
value_settles workers value h = no_pending (has_row (codes "workers") (settled rules h).rows)
value_settles fuel value h = no_pending (has_row (codes "fuel") (settled rules h).rows)
value_settles seed value h = no_pending (has_row (codes "seed") (settled rules h).rows)
value_settles against value h = no_pending (has_row (codes "against") (settled rules h).rows)

pub value_settled : {name : Word} → IsSetting name → (value : Word) (h : Held)
    → (settled rules (held_with name value h)).rows ≡ used_rows (record { name = name; value = value }) (settled rules h).rows
value_settled mode value h = refl
value_settled procs value h = refl
value_settled workers value h = refl
value_settled fuel value h = refl
value_settled seed value h = refl
value_settled against value h = refl

pub file_settles : (value : Word) (h : Held) → settles (held_with (codes "FILE") value h) ≡ not (has_row (codes "FILE") (settled rules h).rows)
file_settles value h = no_pending (has_row (codes "FILE") (settled rules h).rows)

pub file_settled : (value : Word) (h : Held)
    → (settled rules (held_with (codes "FILE") value h)).rows ≡ used_rows (record { name = codes "FILE"; value = value }) (settled rules h).rows
file_settled value h = refl

-- ---- rows

pub at_row_none : (id : Text) (change : Row → List Row) (missing rows : List Row) → has_row id rows ≡ false → at_row id change missing rows ≡ rows ++ missing
at_row_none id change missing [] e = refl
at_row_none id change missing (r ∷ rows) e = go (bytes_eq r.id id) e (at_row_none id change missing rows)
  where
    go : (b : Bool) → (b || has_row id rows) ≡ false → (has_row id rows ≡ false → at_row id change missing rows ≡ rows ++ missing)
        → cond b (change r ++ rows) (r ∷ at_row id change missing rows) ≡ r ∷ (rows ++ missing)
    go true f next = absurd (true≢false f)
    go false f next = ap (λ (all : List Row). r ∷ all) (next f)

pub new_row : (u : OptionUse) (rows : List Row) → has_row u.name rows ≡ false → used_rows u rows ≡ rows ++ row_of_use u ∷ []
new_row u rows e =
    ap (with_values u.name AsWritten CommandLine (u.value ∷ [])) (at_row_none u.name (λ _. []) [] rows e ∙ append-nil rows)
    ∙ at_row_none u.name (more_values CommandLine (u.value ∷ [])) (row_of_use u ∷ []) rows e
