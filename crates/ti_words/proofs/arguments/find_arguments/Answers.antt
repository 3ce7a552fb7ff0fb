use Rattle.std.proofs.Common.{◌≡◌, ◌∙◌, List, [], true, ap, inl, inr, map, refl, rules, string_bytes, subst, sym, Global}
use Rattle.clap.specs.Words.{App, IsAmong, app_of, fault_of, found_of, is_simple, is_simple_and_free, kind_of, matches_of, rows_of}
use Rattle.ti_words.specs.Uses.{Word}
use Rattle.ti_words.specs.Mirrors.Command.{all_stand, titan}
use Rattle.ti_words.proofs.RawArgs.{given, none_given, none_stand}
use Rattle.ti_words.proofs.arguments.find_arguments.Goals as goal

titan_is_free : is_simple_and_free titan ≡ true
titan_is_free = refl

titan_is_simple : is_simple titan ≡ true
titan_is_simple = refl

pub returns-then-not-all_stand-clause-usage : goal.returns-then-not-all_stand-clause-usage
returns-then-not-all_stand-clause-usage c =
    λ _. none_stand (map (string_bytes {Z = Global}) c.args.words.now) (sym c.all_stand.ensures ∙ c.if-not-all_stand.true)

pub returns-in-Ok-clause-given : goal.returns-in-Ok-clause-given
returns-in-Ok-clause-given c =
    let words : List Word = map (string_bytes {Z = Global}) c.args.words.now in
    let made : app_of c.in_ok-command.field-0 ≡ titan = c.in_ok-command.ensures in
    let stand : all_stand words ≡ true = sym c.all_stand.ensures ∙ c.if-not-all_stand.false in
    let faultless : fault_of titan words ≡ [] =
    ap (λ a. fault_of a words) (sym made) ∙ c.in-Ok.ensures.kinds (ap is_simple_and_free made ∙ titan_is_free) in
    let rows : rows_of (found_of c.in-Ok.matches) ≡ matches_of titan words =
    (c.in-Ok.ensures.matches (ap is_simple made ∙ titan_is_simple)).0 ∙ ap (λ a. matches_of a words) made in
    given words (found_of c.in-Ok.matches) c.raw_args.result stand faultless rows (record {
      mode = c.raw_args.ensures.mode;
      procs = c.raw_args.ensures.procs;
      workers = c.raw_args.ensures.workers;
      fuel = c.raw_args.ensures.fuel;
      seed = c.raw_args.ensures.seed;
      against = c.raw_args.ensures.against;
      trace = c.raw_args.ensures.trace;
      stats = c.raw_args.ensures.stats;
      races = c.raw_args.ensures.races;
      file = c.raw_args.ensures.file;
    })

pub returns : goal.returns
returns c =
    let words : List Word = map (string_bytes {Z = Global}) c.args.words.now in
    let made : app_of c.in_ok-command.field-0 ≡ titan = c.in_ok-command.ensures in
    let stand : all_stand words ≡ true = sym c.all_stand.ensures ∙ c.if-not-all_stand.false in
    record {
      given = search rules;
      usage = λ _. elim (c.in-Err.ensures.kinds (ap is_simple_and_free made ∙ titan_is_free)) [
        | inl no_memory ↦ absurd (c.in_default.not-OutOfMemory (c.kind.ensures ∙ no_memory))
        | inr among ↦ none_given words (kind_of c.in-Err.error) stand (subst (λ (a : App). IsAmong (kind_of c.in-Err.error) (fault_of a words)) made among)
      ];
    }
