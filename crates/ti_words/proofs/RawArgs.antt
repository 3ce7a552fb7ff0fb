-- The result of `clap` determines the value of each option as the specification says.
use Rattle.std.proofs.Common.{◌≡◌, ◌∙◌, ◌&&◌, Bool, cond, true, false, true≢false, refl, sym, ap, List, [], ◌∷◌, map, Option, Some, None, option_map, codes}
use Rattle.std.specs.Prelude.{option_and_then}
use Rattle.std.specs.List.{find, fold, list_all}
use Rattle.std.specs.Str.{bytes_eq}
use Rattle.clap.specs.Facts.{Entry}
use Rattle.clap.specs.Faults.{fault_of}
use Rattle.clap.specs.Kinds.{IsAmong, Kinds}
use Rattle.clap.specs.Matches.{first_value, matched_of}
use Rattle.clap.specs.Simple.{matches_of}
use Rattle.clap.specs.Walk.{Row, first_of, nothing_held, row_of, rows_of, settled, walk_from, walked, with_default}
use Rattle.clap.specs.declared.error.kind.ErrorKind.{ErrorKind}
use Rattle.clap.specs.declared.parser.matches.Found.{Found}
use Rattle.clap.specs.declared.parser.matches.MatchedArg.{MatchedArg}
use Rattle.clap.proofs.WalkLemmas.{find_row, first_value-rows}
use Rattle.ti_words.specs.Uses.{ArgKind, OptionUse, Word, and_uses, awaits, gives, is_each_once, piece_of, plain, option_uses, value_of, wrong}
use Rattle.ti_words.specs.Job.{parse_values, values_of_uses, values_once}
use Rattle.ti_words.specs.Mirrors.Command.{all_stand, can_stand, is_from_words, titan}
use Rattle.ti_words.specs.Mirrors.Seen.{values_seen}
use Rattle.ti_words.specs.declared.arguments.RawArgs.{RawArgs}
use Rattle.ti_words.proofs.Views.{races, stats, trace}
use Rattle.ti_words.proofs.Turns.{guard, no, rest_fault, row_of_use, rules}
use Rattle.ti_words.proofs.Matched.{after, faults, matched}
use Rattle.ti_words.proofs.Cuts.{cuts}
use Rattle.ti_words.proofs.Lookups.{report_found, source_in, value_found}

-- ---- words that can't stand

uncut : (ps : List ArgKind) → list_all can_stand ps ≡ false → option_uses ps ≡ None
uncut [] e = absurd (true≢false e)
uncut (gives u ∷ ps) e = ap (and_uses u) (uncut ps e)
uncut (plain file ∷ ps) e = ap (and_uses (record { name = codes "FILE"; value = file })) (uncut ps e)
uncut (awaits name ∷ plain value ∷ ps) e = ap (and_uses (record { name = name; value = value })) (uncut ps e)
uncut (awaits name ∷ []) e = refl
uncut (awaits name ∷ awaits other ∷ ps) e = refl
uncut (awaits name ∷ gives u ∷ ps) e = refl
uncut (awaits name ∷ wrong ∷ ps) e = refl
uncut (wrong ∷ ps) e = refl

stand_all : (words : List Word) → list_all can_stand (map piece_of words) ≡ all_stand words
stand_all [] = refl
stand_all (word ∷ words) = ap (λ b. can_stand (piece_of word) && b) (stand_all words)

-- where a word can't stand, nothing is given
pub none_stand : (words : List Word) → all_stand words ≡ false → parse_values words ≡ None
none_stand words e = ap (option_and_then values_once) (uncut (map piece_of words) (stand_all words ∙ e))

-- ---- the answer of `clap`

values_after : (words : List Word) → parse_values words ≡ option_map values_of_uses (after [] (map piece_of words))
values_after words = sym (ap (option_map values_of_uses) (cuts (map piece_of words)) ∙ go (option_uses (map piece_of words)))
  where
    once : (b : Bool) (us : List OptionUse) → option_map values_of_uses (guard b (Some us)) ≡ cond b (Some (values_of_uses us)) None
    once true us = refl
    once false us = refl

    go : (o : Option (List OptionUse)) → option_map values_of_uses (option_and_then (λ us. guard (is_each_once us) (Some us)) o) ≡ option_and_then values_once o
    go None = refl
    go (Some us) = once (is_each_once us) us

among_none : (kinds : Kinds) (k : ErrorKind) → IsAmong k kinds → no kinds ≡ false
among_none [] k h = absurd h
among_none (x ∷ kinds) k h = refl

-- where `clap` names a kind of error, nothing is given
pub none_given : (words : List Word) (k : ErrorKind) → all_stand words ≡ true → IsAmong k (fault_of titan words) → parse_values words ≡ None
none_given words k stand among =
    let faulty : no (rest_fault (walk_from nothing_held) words) ≡ false = ap no (sym (faults words)) ∙ among_none (fault_of titan words) k among in
    values_after words
    ∙ go (after [] (map piece_of words))
    (sym (ap (λ b. guard b (Some (settled rules (fold (walked rules []) (walk_from nothing_held) words).held).rows)) faulty) ∙ matched words stand)
  where
    go : (o : Option (List OptionUse)) → None ≡ option_map (map row_of_use) o → option_map values_of_uses o ≡ None
    go None e = refl
    go (Some us) e = cc

-- what is read of the matches
pub record Reads (f : Found) (g : RawArgs) : Type 0 where
  pub mode : option_map (λ s. s.now) g.mode ≡ first_value f (codes "mode")
  pub procs : option_map (λ s. s.now) g.procs ≡ first_value f (codes "procs")
  pub workers : option_map (λ s. s.now) g.workers ≡ first_value f (codes "workers")
  pub fuel : option_map (λ s. s.now) g.fuel ≡ first_value f (codes "fuel")
  pub seed : option_map (λ s. s.now) g.seed ≡ first_value f (codes "seed")
  pub against : option_map (λ s. s.now) g.against ≡ first_value f (codes "against")
  pub trace : g.trace ≡ is_from_words (option_and_then (λ a. a.source) (matched_of f (codes "trace")))
  pub stats : g.stats ≡ is_from_words (option_and_then (λ a. a.source) (matched_of f (codes "stats")))
  pub races : g.races ≡ is_from_words (option_and_then (λ a. a.source) (matched_of f (codes "races")))
  pub file : option_map (λ s. s.now) g.file ≡ first_value f (codes "FILE")

source_rows : (f : Found) (id : Word) → option_and_then (λ a. a.source) (matched_of f id) ≡ source_in id (rows_of f)
source_rows f id = go (find (λ e. bytes_eq e.0.now id) f.entries.items) ∙ ap (option_and_then (λ (r : Row). r.source)) (sym (find_row f.entries.items id))
  where
    go : (o : Option Entry) → option_and_then (λ (a : MatchedArg). a.source) (option_map (λ e. e.1) o) ≡ option_and_then (λ (r : Row). r.source) (option_map row_of o)
    go None = refl
    go (Some e) = refl

seen : (f : Found) (g : RawArgs) (us : List OptionUse) → rows_of f ≡ fold with_default (map row_of_use us) rules → Reads f g → values_of_uses us ≡ values_seen g
seen f g us rows reads = λ i. record {
  mode = sym (reads.mode ∙ value (codes "mode") refl refl refl) i;
  procs = sym (reads.procs ∙ value (codes "procs") refl refl refl) i;
  workers = sym (reads.workers ∙ value (codes "workers") refl refl refl) i;
  fuel = sym (reads.fuel ∙ value (codes "fuel") refl refl refl) i;
  seed = sym (reads.seed ∙ value (codes "seed") refl refl refl) i;
  against = sym (reads.against ∙ value (codes "against") refl refl refl) i;
  trace = sym (reads.trace ∙ (ap is_from_words (source_rows f (codes "trace") ∙ ap (source_in (codes "trace")) rows) ∙ report_found trace us)) i;
  stats = sym (reads.stats ∙ (ap is_from_words (source_rows f (codes "stats") ∙ ap (source_in (codes "stats")) rows) ∙ report_found stats us)) i;
  races = sym (reads.races ∙ (ap is_from_words (source_rows f (codes "races") ∙ ap (source_in (codes "races")) rows) ∙ report_found races us)) i;
  file = sym (reads.file ∙ value (codes "FILE") refl refl refl) i;
}
  where
    value : (id : Word) → bytes_eq (codes "trace") id ≡ false → bytes_eq (codes "stats") id ≡ false → bytes_eq (codes "races") id ≡ false → first_value f id ≡ value_of id us
    value id no_trace no_stats no_races = first_value-rows f id ∙ (ap (first_of id) rows ∙ value_found id us no_trace no_stats no_races)

-- where `clap` answers matches, they are what is given
pub given : (words : List Word) (f : Found) (g : RawArgs) → all_stand words ≡ true → fault_of titan words ≡ [] → rows_of f ≡ matches_of titan words → Reads f g
    → parse_values words ≡ Some (values_seen g)
given words f g stand faultless rows reads =
    let start = walk_from nothing_held in
    let passes : no (rest_fault start words) ≡ true = ap no (sym (faults words) ∙ faultless) in
    go (after [] (map piece_of words)) refl
    (sym (ap (λ b. guard b (Some (settled rules (fold (walked rules []) start words).held).rows)) passes) ∙ matched words stand)
  where
    go : (o : Option (List OptionUse)) → after [] (map piece_of words) ≡ o
        → Some (settled rules (fold (walked rules []) (walk_from nothing_held) words).held).rows ≡ option_map (map row_of_use) o → parse_values words ≡ Some (values_seen g)
    go None e h = cc
    go (Some us) e h =
        let same : (settled rules (fold (walked rules []) (walk_from nothing_held) words).held).rows ≡ map row_of_use us = cc in
        values_after words ∙ (ap (option_map values_of_uses) e ∙ ap Some (seen f g us (rows ∙ ap (λ rs. fold with_default rs rules) same) reads))
