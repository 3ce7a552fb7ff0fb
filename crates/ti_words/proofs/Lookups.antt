-- Looking up an option in the matches finds its value, with the defaults of options without a value.
use Rattle.std.proofs.Common.{◌≡◌, ◌∙◌, ◌||◌, Bool, cond, true, false, true≢false, refl, sym, ap, List, [], ◌∷◌, map, Option, Some, None, option_map, codes}
use Rattle.std.specs.Prelude.{option_and_then, slice_get}
use Rattle.std.specs.List.{find, fold, list_any}
use Rattle.std.specs.Option.{option_or}
use Rattle.std.specs.Str.{bytes_eq}
use Rattle.std.proofs.lemmas.List.Folds.{find-append}
use Rattle.std.proofs.lemmas.Slice.Eq.{bytes_eq-Decides}
use Rattle.clap.specs.Simple.{filled, with_index}
use Rattle.clap.specs.Walk.{Row, Rule, Text, default_rows, first_of, has_row, more_values, reading_by, with_default}
use Rattle.clap.specs.declared.builder.value_parser.Reading.TheVariants.{AsWritten}
use Rattle.clap.specs.declared.parser.matches.ValueSource.{ValueSource}
use Rattle.clap.specs.declared.parser.matches.ValueSource.TheVariants.{DefaultValue}
use Rattle.ti_words.specs.Uses.{OptionUse, Word, is_used, value_of}
use Rattle.ti_words.specs.Mirrors.Command.{file_rule, is_from_words, report_rule, setting_rule}
use Rattle.ti_words.proofs.Views.{IsReport, races, stats, trace}
use Rattle.ti_words.proofs.Turns.{at_row_none, row_of_use, rules}

-- the first row of this id
abbrev lookup : Text → List Row → Option Row
lookup id = find (λ r. bytes_eq r.id id)

no_default : (rows : List Row) (a : Rule) → a.defaults ≡ [] → with_default rows a ≡ rows
no_default rows a e = ap (λ values. cond (has_row a.id rows) rows (default_rows a.id (reading_by a) values rows)) e ∙ same (has_row a.id rows)
  where
    same : (b : Bool) → cond b rows rows ≡ rows
    same true = refl
    same false = refl

-- the arguments as they are built
abbrev setting_at : Word → Rule
setting_at name = with_index 1 (filled (setting_rule name))

abbrev report_at : Word → Rule
report_at name = with_index 1 (filled (report_rule name))

abbrev file_at : Rule
file_at = with_index 1 (filled file_rule)

-- the arguments that have a value
abbrev settings : List Rule
settings = setting_at (codes "mode") ∷ setting_at (codes "procs") ∷ setting_at (codes "workers") ∷ setting_at (codes "fuel") ∷ setting_at (codes "seed") ∷ setting_at (codes "against") ∷ []

abbrev has_default : List Text → Bool
has_default [] = false
has_default (v ∷ values) = true

-- arguments without defaults add no rows
none_defaulted : (rs : List Rule) → list_any (λ a. has_default a.defaults) rs ≡ false → (rows : List Row) → fold with_default rows rs ≡ rows
none_defaulted [] e rows = refl
none_defaulted (a ∷ rs) e rows = go a.defaults refl e (none_defaulted rs)
  where
    go : (values : List Text) → a.defaults ≡ values → (has_default values || list_any (λ b. has_default b.defaults) rs) ≡ false
        → (list_any (λ b. has_default b.defaults) rs ≡ false → (others : List Row) → fold with_default others rs ≡ others) → fold with_default (with_default rows a) rs ≡ rows
    go [] none f next = ap (λ (others : List Row). fold with_default others rs) (no_default rows a none) ∙ next f rows
    go (v ∷ values) none f next = absurd (true≢false f)

-- the rows with the defaults of the first two reports, and of all
abbrev with_two : List Row → List Row
with_two rows = with_default (with_default rows (report_at (codes "trace"))) (report_at (codes "stats"))

abbrev with_reports : List Row → List Row
with_reports rows = with_default (with_two rows) (report_at (codes "races"))

-- the defaults are those of the reports
finished_rows : (rows : List Row) → fold with_default rows rules ≡ with_reports rows
finished_rows rows = no_default (with_reports (fold with_default rows settings)) file_at refl ∙ ap with_reports (none_defaulted settings refl rows)

-- the row of a report that the words don't ask for
abbrev default_row : Word → Row
default_row name = record { id = name; values = codes "false" ∷ []; count = None; source = Some DefaultValue; reading = AsWritten }

found : (name : Text) (rows : List Row) → has_row name rows ≡ true → (o : Option Row) → option_or (lookup name rows) o ≡ lookup name rows
found name [] e o = absurd (true≢false (sym e))
found name (r ∷ rows) e o = go (bytes_eq r.id name) e (λ f. found name rows f o)
  where
    go : (b : Bool) → (b || has_row name rows) ≡ true → (has_row name rows ≡ true → option_or (lookup name rows) o ≡ lookup name rows)
        → option_or (cond b (Some r) (lookup name rows)) o ≡ cond b (Some r) (lookup name rows)
    go true f next = refl
    go false f next = next f

or_none : (o : Option Row) → option_or o None ≡ o
or_none None = refl
or_none (Some r) = refl

-- what is found, and the default of this report where it is meant and nothing is found
abbrev or_default : Word → Word → Option Row → Option Row
or_default name id o = option_or o (cond (bytes_eq name id) (Some (default_row name)) None)

other_report : (name id : Word) (o : Option Row) → bytes_eq name id ≡ false → or_default name id o ≡ o
other_report name id o other = ap (λ t. option_or o (cond t (Some (default_row name)) None)) other ∙ or_none o

-- a default is found where nothing else is
lookup_default : {name : Word} → IsReport name → (id : Word) (rows : List Row)
    → lookup id (with_default rows (report_at name)) ≡ or_default name id (lookup id rows)
lookup_default {name} is id rows = ap (lookup id) (defaulted is) ∙ go (has_row name rows) refl (bytes_eq name id) refl
  where
    defaulted : {n : Word} → IsReport n → with_default rows (report_at n) ≡ cond (has_row n rows) rows (default_rows n AsWritten (codes "false" ∷ []) rows)
    defaulted trace = refl
    defaulted stats = refl
    defaulted races = refl

    go : (b : Bool) → has_row name rows ≡ b → (c : Bool) → bytes_eq name id ≡ c
        → lookup id (cond b rows (default_rows name AsWritten (codes "false" ∷ []) rows)) ≡ option_or (lookup id rows) (cond c (Some (default_row name)) None)
    go false e c f =
        ap (lookup id) (at_row_none name (more_values DefaultValue (codes "false" ∷ [])) (default_row name ∷ []) rows e)
        ∙ (find-append (λ r. bytes_eq r.id id) rows (default_row name ∷ []) ∙ ap (λ t. option_or (lookup id rows) (cond t (Some (default_row name)) None)) f)
    go true e false f = sym (or_none (lookup id rows))
    go true e true f =
        let same : name ≡ id = (bytes_eq-Decides name id).0 f in
        sym (found id rows (ap (λ (n : Word). has_row n rows) (sym same) ∙ e) (Some (default_row name)))

lookup_finished : (id : Word) (rows : List Row)
    → lookup id (fold with_default rows rules) ≡ or_default (codes "races") id (or_default (codes "stats") id (or_default (codes "trace") id (lookup id rows)))
lookup_finished id rows =
    ap (lookup id) (finished_rows rows)
    ∙ (lookup_default races id (with_two rows)
    ∙ ap (or_default (codes "races") id) (lookup_default stats id (with_default rows (report_at (codes "trace")))
    ∙ ap (or_default (codes "stats") id) (lookup_default trace id rows)))

-- the row of the first use of this name
lookup_use : (id : Word) (us : List OptionUse) → lookup id (map row_of_use us) ≡ option_map row_of_use (find (λ u. bytes_eq u.name id) us)
lookup_use id [] = refl
lookup_use id (u ∷ us) = go (bytes_eq u.name id) (lookup_use id us)
  where
    go : (b : Bool) → lookup id (map row_of_use us) ≡ option_map row_of_use (find (λ u. bytes_eq u.name id) us)
        → cond b (Some (row_of_use u)) (lookup id (map row_of_use us)) ≡ option_map row_of_use (cond b (Some u) (find (λ v. bytes_eq v.name id) us))
    go true e = refl
    go false e = e

-- an argument without a default has the value of its use
pub value_found : (id : Word) (us : List OptionUse) → bytes_eq (codes "trace") id ≡ false → bytes_eq (codes "stats") id ≡ false → bytes_eq (codes "races") id ≡ false
    → first_of id (fold with_default (map row_of_use us) rules) ≡ value_of id us
value_found id us no_trace no_stats no_races =
    ap (option_and_then (λ (r : Row). slice_get r.values 0))
    (lookup_finished id (map row_of_use us)
    ∙ (other_report (codes "races") id _ no_races
    ∙ (other_report (codes "stats") id _ no_stats
    ∙ (other_report (codes "trace") id _ no_trace ∙ lookup_use id us))))
    ∙ go (find (λ u. bytes_eq u.name id) us)
  where
    go : (o : Option OptionUse) → option_and_then (λ (r : Row). slice_get r.values 0) (option_map row_of_use o) ≡ option_map (λ u. u.value) o
    go None = refl
    go (Some u) = refl

-- where the value of an argument comes from
abbrev pub source_in : Word → List Row → Option ValueSource
source_in id rows = option_and_then (λ (r : Row). r.source) (lookup id rows)

some_found : (id : Word) (us : List OptionUse) (default : Row) → default.source ≡ Some DefaultValue
    → is_from_words (option_and_then (λ (r : Row). r.source) (option_or (lookup id (map row_of_use us)) (Some default))) ≡ is_used id us
some_found id [] default e = ap is_from_words e
some_found id (u ∷ us) default e = go (bytes_eq u.name id) (some_found id us default e)
  where
    go : (b : Bool) → is_from_words (option_and_then (λ (r : Row). r.source) (option_or (lookup id (map row_of_use us)) (Some default))) ≡ is_used id us
        → is_from_words (option_and_then (λ (r : Row). r.source) (option_or (cond b (Some (row_of_use u)) (lookup id (map row_of_use us))) (Some default))) ≡ (b || is_used id us)
    go true f = refl
    go false f = f

-- a report is asked for by the words or not at all
pub report_found : {name : Word} → IsReport name → (us : List OptionUse) → is_from_words (source_in name (fold with_default (map row_of_use us) rules)) ≡ is_used name us
report_found trace us =
    ap (λ o. is_from_words (option_and_then (λ (r : Row). r.source) o)) (lookup_finished (codes "trace") (map row_of_use us)
    ∙ (other_report (codes "races") (codes "trace") _ refl ∙ other_report (codes "stats") (codes "trace") _ refl))
    ∙ some_found (codes "trace") us (default_row (codes "trace")) refl
report_found stats us =
    ap (λ o. is_from_words (option_and_then (λ (r : Row). r.source) o)) (lookup_finished (codes "stats") (map row_of_use us)
    ∙ (other_report (codes "races") (codes "stats") _ refl ∙ ap (or_default (codes "stats") (codes "stats")) (other_report (codes "trace") (codes "stats") _ refl)))
    ∙ some_found (codes "stats") us (default_row (codes "stats")) refl
report_found races us =
    ap (λ o. is_from_words (option_and_then (λ (r : Row). r.source) o)) (lookup_finished (codes "races") (map row_of_use us)
    ∙ ap (or_default (codes "races") (codes "races")) (other_report (codes "stats") (codes "races") _ refl ∙ other_report (codes "trace") (codes "races") _ refl))
    ∙ some_found (codes "races") us (default_row (codes "races")) refl
