-- What `clap` matches are the uses of options that the specification finds in the arguments.
use Rattle.std.proofs.Common.{◌≡◌, ◌∙◌, ◌==◌, ◌&&◌, ◌||◌, ℕ, Bool, cond, true, false, true≢false, refl, sym, ap, ap₂, List, [], ◌∷◌, ◌++◌, map, Option, Some, None, option_map, codes}
use Rattle.std.specs.Prelude.{not}
use Rattle.std.specs.Str.{bytes_eq}
use Rattle.std.proofs.lemmas.List.{map-append}
use Rattle.std.proofs.lemmas.List.Folds.{list_any-append}
use Rattle.clap.specs.Faults.{turn_fault, fault_of}
use Rattle.clap.specs.Simple.{built}
use Rattle.clap.specs.Walk.{Held, Row, Walk, has_row, idle, nothing_held, option, settled, walk_from, walked}
use Rattle.clap.proofs.FaultLemmas.{leaf_fault}
use Rattle.ti_words.specs.Uses.{ArgKind, OptionUse, Word, awaits, with_dashes, dashed_piece, gives, is_used, piece_of, plain}
use Rattle.ti_words.specs.Mirrors.Command.{all_stand, can_stand, titan}
use Rattle.ti_words.proofs.Views.{IsReport, IsSetting, View, against, alone, front, fuel, joined, mode, none, other, procs, races, report, seed, stats, trace, view, workers}
use Rattle.ti_words.proofs.Turns.{alone_turn, alone_walk, at, file_settled, file_settles, file_turn, file_walk, guard, held_for, held_with}
use Rattle.ti_words.proofs.Turns.{joined_turn, joined_walk, new_row, no, outcome, outcome-end, outcome-more, report_turn, report_walk}
use Rattle.ti_words.proofs.Turns.{rest_fault, row_of_use, rules, settles, shape, stray_turn, used_rows, value_settled, value_settles}
use Rattle.ti_words.proofs.Turns.{value_turn, value_walk, waits_in_vain, whole}

-- the use of FILE
abbrev pub file_use : Word → OptionUse
file_use word = record { name = codes "FILE"; value = word }

-- the uses after these pieces, where none is used twice
abbrev pub after : List OptionUse → List ArgKind → Option (List OptionUse)
after us [] = Some us
after us (gives u ∷ ps) = guard (not (is_used u.name us)) (after (us ++ u ∷ []) ps)
after us (plain file ∷ ps) = guard (not (is_used (codes "FILE") us)) (after (us ++ file_use file ∷ []) ps)
after us (awaits name ∷ plain value ∷ ps) =
    guard (not (is_used name us)) (after (us ++ record { name = name; value = value } ∷ []) ps)
after us _ = None

abbrev rows_of_uses : List OptionUse → List Row
rows_of_uses = map row_of_use

-- the position that the next word takes that is no flag and no value
abbrev position_of : List OptionUse → ℕ
position_of us = cond (is_used (codes "FILE") us) 2 1

-- ---- small facts

guard_map : {X Y : Type 0} (f : X → Y) (b : Bool) (o : Option X) → option_map f (guard b o) ≡ guard b (option_map f o)
guard_map f true o = refl
guard_map f false o = refl

guard_none : {X : Type 0} (b : Bool) → guard {X = X} b None ≡ None
guard_none true = refl
guard_none false = refl

pub both_hold : (a b : Bool) → (a && b) ≡ true → (a ≡ true) × (b ≡ true)
both_hold true b e = (refl, e)
both_hold false b e = absurd (true≢false (sym e))

or_false : (b : Bool) → (b || false) ≡ b
or_false true = refl
or_false false = refl

or_true : (b : Bool) → (b || true) ≡ true
or_true true = refl
or_true false = refl

not_true : (b : Bool) → not b ≡ true → b ≡ false
not_true true e = sym e
not_true false e = refl

pub has_row-uses : (name : Word) (us : List OptionUse) → has_row name (rows_of_uses us) ≡ is_used name us
has_row-uses name [] = refl
has_row-uses name (u ∷ us) = ap (λ b. bytes_eq u.name name || b) (has_row-uses name us)

position-push : (us : List OptionUse) (u : OptionUse) → bytes_eq u.name (codes "FILE") ≡ false → position_of (us ++ u ∷ []) ≡ position_of us
position-push us u e = ap (λ b. cond b 2 1)
    (list_any-append (λ (v : OptionUse). bytes_eq v.name (codes "FILE")) us (u ∷ []) ∙ (ap (λ b. is_used (codes "FILE") us || (b || false)) e ∙ or_false (is_used (codes "FILE") us)))

position-file : (us : List OptionUse) (file : Word) → position_of (us ++ file_use file ∷ []) ≡ 2
position-file us file = ap (λ b. cond b 2 1) (list_any-append (λ (v : OptionUse). bytes_eq v.name (codes "FILE")) us (file_use file ∷ []) ∙ or_true (is_used (codes "FILE") us))

rows_push : (us : List OptionUse) (u : OptionUse) (rows : List Row) → rows ≡ rows_of_uses us → is_used u.name us ≡ false → used_rows u rows ≡ rows_of_uses (us ++ u ∷ [])
rows_push us u rows same unused =
    ap (used_rows u) same ∙ (new_row u (rows_of_uses us) (has_row-uses u.name us ∙ unused) ∙ sym (map-append row_of_use us (u ∷ [])))

-- ---- pieces

alone_piece : {name : Word} → IsSetting name → piece_of (with_dashes name) ≡ awaits name
alone_piece mode = refl
alone_piece procs = refl
alone_piece workers = refl
alone_piece fuel = refl
alone_piece seed = refl
alone_piece against = refl

joined_piece : {name : Word} → IsSetting name → (x : ℕ) (xs : Word) → piece_of (front name ++ x ∷ xs) ≡ gives (record { name = name; value = x ∷ xs })
joined_piece mode x xs = refl
joined_piece procs x xs = refl
joined_piece workers x xs = refl
joined_piece fuel x xs = refl
joined_piece seed x xs = refl
joined_piece against x xs = refl

report_piece : {name : Word} → IsReport name → piece_of (with_dashes name) ≡ gives (record { name = name; value = codes "true" })
report_piece trace = refl
report_piece stats = refl
report_piece races = refl

plain_piece : (x : ℕ) (xs : Word) → (x == 45) ≡ false → piece_of (x ∷ xs) ≡ plain (x ∷ xs)
plain_piece x xs e = ap (λ b. cond b (dashed_piece (x ∷ xs)) (plain (x ∷ xs))) e

setting_no_file : {name : Word} → IsSetting name → bytes_eq name (codes "FILE") ≡ false
setting_no_file mode = refl
setting_no_file procs = refl
setting_no_file workers = refl
setting_no_file fuel = refl
setting_no_file seed = refl
setting_no_file against = refl

report_no_file : {name : Word} → IsReport name → bytes_eq name (codes "FILE") ≡ false
report_no_file trace = refl
report_no_file stats = refl
report_no_file races = refl

-- ---- the walk over the words, from between two words, and from where a setting waits for its value

abbrev Idle : List Word → Type 0
Idle words = (us : List OptionUse) (h : Held) → (settles h ≡ true → (settled rules h).rows ≡ rows_of_uses us)
    → outcome (at idle h (position_of us)) words ≡ guard (settles h) (option_map rows_of_uses (after us (map piece_of words)))

abbrev Waits : List Word → Type 0
Waits words = (name : Word) → IsSetting name → (us : List OptionUse) (h : Held) → (settled rules h).rows ≡ rows_of_uses us
    → outcome (at (option name) (held_for name h) (position_of us)) words ≡ option_map rows_of_uses (after us (awaits name ∷ map piece_of words))

idle_end : Idle []
idle_end us h rows = outcome-end (at idle h (position_of us)) ∙ go (settles h) refl
  where
    go : (b : Bool) → settles h ≡ b → guard b (Some (settled rules h).rows) ≡ guard b (option_map rows_of_uses (Some us))
    go true e = ap Some (rows e)
    go false e = refl

waits_end : Waits []
waits_end name is us h rows =
    outcome-end (at (option name) (held_for name h) (position_of us)) ∙ ap (λ b. guard b (Some (settled rules (held_for name h)).rows)) (waits_in_vain is h)

-- a whole use in one word
idle_gives : (u : OptionUse) (word : Word) → bytes_eq u.name (codes "FILE") ≡ false → piece_of word ≡ gives u
    → ((h : Held) (p : ℕ) → no (turn_fault shape [] (at idle h p) word) ≡ (settles h && not (has_row u.name (settled rules h).rows)))
    → ((h : Held) (p : ℕ) → walked rules [] (at idle h p) word ≡ at idle (whole u.name u.value h) p)
    → (words : List Word) → Idle words → Idle (word ∷ words)
idle_gives u word no_file piece turn walk words next us h rows =
    outcome-more (at idle h (position_of us)) word words
    ∙ (ap₂ guard (turn h (position_of us)) (ap (λ (w : Walk). outcome w words) (walk h (position_of us)))
    ∙ go (settles h) refl)
  where
    used : (b : Bool) → is_used u.name us ≡ b → (settled rules h).rows ≡ rows_of_uses us
        → guard (not b) (outcome (at idle (whole u.name u.value h) (position_of us)) words) ≡ guard (not b) (option_map rows_of_uses (after (us ++ u ∷ []) (map piece_of words)))
    used true e same = refl
    used false e same =
        ap (λ p. outcome (at idle (whole u.name u.value h) p) words) (sym (position-push us u no_file))
        ∙ next (us ++ u ∷ []) (whole u.name u.value h) (λ _. rows_push us u (settled rules h).rows same e)

    go : (b : Bool) → settles h ≡ b
        → guard (b && not (has_row u.name (settled rules h).rows)) (outcome (at idle (whole u.name u.value h) (position_of us)) words)
        ≡ guard b (option_map rows_of_uses (after us (piece_of word ∷ map piece_of words)))
    go false e = refl
    go true e =
        ap (λ b. guard (not b) (outcome (at idle (whole u.name u.value h) (position_of us)) words)) (ap (has_row u.name) (rows e) ∙ has_row-uses u.name us)
        ∙ (used (is_used u.name us) refl (rows e)
        ∙ (sym (guard_map rows_of_uses (not (is_used u.name us)) (after (us ++ u ∷ []) (map piece_of words)))
        ∙ ap (λ (piece : ArgKind). option_map rows_of_uses (after us (piece ∷ map piece_of words))) (sym piece)))

idle_alone : {name : Word} → IsSetting name → (words : List Word) → Waits words → Idle (with_dashes name ∷ words)
idle_alone {name} is words waits us h rows =
    outcome-more (at idle h (position_of us)) (with_dashes name) words
    ∙ (ap₂ guard (alone_turn is None h (position_of us)) (ap (λ (w : Walk). outcome w words) (alone_walk is h (position_of us)))
    ∙ go (settles h) refl)
  where
    go : (b : Bool) → settles h ≡ b
        → guard b (outcome (at (option name) (held_for name h) (position_of us)) words) ≡ guard b (option_map rows_of_uses (after us (piece_of (with_dashes name) ∷ map piece_of words)))
    go false e = refl
    go true e = waits name is us h (rows e) ∙ ap (λ (piece : ArgKind). option_map rows_of_uses (after us (piece ∷ map piece_of words))) (sym (alone_piece is))

idle_plain : (x : ℕ) (xs : Word) → (x == 45) ≡ false → (words : List Word) → Idle words → Idle ((x ∷ xs) ∷ words)
idle_plain x xs e words next us h rows =
    filed (is_used (codes "FILE") us) refl
    ∙ (ap (guard (settles h)) (sym (guard_map rows_of_uses (not (is_used (codes "FILE") us)) (after (us ++ file_use (x ∷ xs) ∷ []) (map piece_of words))))
    ∙ ap (λ (piece : ArgKind). guard (settles h) (option_map rows_of_uses (after us (piece ∷ map piece_of words)))) (sym (plain_piece x xs e)))
  where
    unfiled : (b : Bool) → settles h ≡ b → is_used (codes "FILE") us ≡ false
        → guard b (outcome (at idle (held_with (codes "FILE") (x ∷ xs) h) 2) words) ≡ guard b (option_map rows_of_uses (after (us ++ file_use (x ∷ xs) ∷ []) (map piece_of words)))
    unfiled false s u = refl
    unfiled true s u =
        let passes : settles (held_with (codes "FILE") (x ∷ xs) h) ≡ true =
        file_settles (x ∷ xs) h ∙ ap not (ap (has_row (codes "FILE")) (rows s) ∙ (has_row-uses (codes "FILE") us ∙ u)) in
        ap (λ p. outcome (at idle (held_with (codes "FILE") (x ∷ xs) h) p) words) (sym (position-file us (x ∷ xs)))
        ∙ (next (us ++ file_use (x ∷ xs) ∷ []) (held_with (codes "FILE") (x ∷ xs) h) (λ _. file_settled (x ∷ xs) h ∙ rows_push us (file_use (x ∷ xs)) (settled rules h).rows (rows s) u)
        ∙ ap (λ b. guard b (option_map rows_of_uses (after (us ++ file_use (x ∷ xs) ∷ []) (map piece_of words)))) passes)

    filed : (b : Bool) → is_used (codes "FILE") us ≡ b
        → outcome (at idle h (cond b 2 1)) ((x ∷ xs) ∷ words)
        ≡ guard (settles h) (guard (not b) (option_map rows_of_uses (after (us ++ file_use (x ∷ xs) ∷ []) (map piece_of words))))
    filed true u =
        outcome-more (at idle h 2) (x ∷ xs) words
        ∙ (ap (λ b. guard b (outcome (walked rules [] (at idle h 2) (x ∷ xs)) words)) (stray_turn x xs e h) ∙ sym (guard_none (settles h)))
    filed false u =
        outcome-more (at idle h 1) (x ∷ xs) words
        ∙ (ap₂ guard (file_turn x xs e h) (ap (λ (w : Walk). outcome w words) (file_walk x xs e h)) ∙ unfiled (settles h) refl u)

waits_plain : (x : ℕ) (xs : Word) → (x == 45) ≡ false → (words : List Word) → Idle words → Waits ((x ∷ xs) ∷ words)
waits_plain x xs e words next name is us h rows =
    let u : OptionUse = record { name = name; value = x ∷ xs } in
    let held : Held = held_with name (x ∷ xs) h in
    let unless : settles held ≡ not (is_used name us) = value_settles is (x ∷ xs) h ∙ ap not (ap (has_row name) rows ∙ has_row-uses name us) in
    outcome-more (at (option name) (held_for name h) (position_of us)) (x ∷ xs) words
    ∙ (ap₂ guard (value_turn is x xs e h (position_of us)) (ap (λ (w : Walk). outcome w words) (value_walk is x xs e h (position_of us)))
    ∙ (ap (λ p. outcome (at idle held p) words) (sym (position-push us u (setting_no_file is)))
    ∙ (next (us ++ u ∷ []) held (λ s. value_settled is (x ∷ xs) h ∙ rows_push us u (settled rules h).rows rows (not_true (is_used name us) (sym unless ∙ s)))
    ∙ (ap (λ b. guard b (option_map rows_of_uses (after (us ++ u ∷ []) (map piece_of words)))) unless
    ∙ (sym (guard_map rows_of_uses (not (is_used name us)) (after (us ++ u ∷ []) (map piece_of words)))
    ∙ ap (λ (piece : ArgKind). option_map rows_of_uses (after us (awaits name ∷ piece ∷ map piece_of words))) (sym (plain_piece x xs e)))))))

-- no value comes
waits_vain : (word : Word) (piece : ArgKind) → piece_of word ≡ piece → ((name : Word) (us : List OptionUse) (ps : List ArgKind) → after us (awaits name ∷ piece ∷ ps) ≡ None)
    → ((name : Word) → IsSetting name → (h : Held) (p : ℕ) → no (turn_fault shape [] (at (option name) (held_for name h) p) word) ≡ false)
    → (words : List Word) → Waits (word ∷ words)
waits_vain word piece is_piece vain turn words name is us h rows =
    outcome-more (at (option name) (held_for name h) (position_of us)) word words
    ∙ (ap (λ b. guard b (outcome (walked rules [] (at (option name) (held_for name h) (position_of us)) word) words)) (turn name is h (position_of us))
    ∙ sym (ap (option_map rows_of_uses) (ap (λ (q : ArgKind). after us (awaits name ∷ q ∷ map piece_of words)) is_piece ∙ vain name us (map piece_of words))))

idle_more : {word : Word} → View word → (words : List Word) → can_stand (piece_of word) ≡ true → Idle words → Waits words → Idle (word ∷ words)
idle_more (alone is) words stands next waits = idle_alone is words waits
idle_more (joined {name} is x xs) words stands next waits =
    idle_gives (record { name = name; value = x ∷ xs }) (front name ++ x ∷ xs) (setting_no_file is) (joined_piece is x xs) (joined_turn is x xs None) (joined_walk is x xs) words next
idle_more (report {name} is) words stands next waits =
    idle_gives (record { name = name; value = codes "true" }) (with_dashes name) (report_no_file is) (report_piece is) (report_turn is None) (report_walk is) words next
idle_more (other x xs e) words stands next waits = idle_plain x xs e words next
idle_more (none word e) words stands next waits = absurd (true≢false (sym stands ∙ e))

waits_more : {word : Word} → View word → (words : List Word) → can_stand (piece_of word) ≡ true → Idle words → Waits (word ∷ words)
waits_more (alone {name} is) words stands next =
    waits_vain (with_dashes name) (awaits name) (alone_piece is) (λ n us ps. refl) (λ n s h p. alone_turn is (Some n) (held_for n h) p ∙ waits_in_vain s h) words
waits_more (joined {name} is x xs) words stands next =
    waits_vain (front name ++ x ∷ xs) (gives (record { name = name; value = x ∷ xs })) (joined_piece is x xs) (λ n us ps. refl)
    (λ n s h p. joined_turn is x xs (Some n) (held_for n h) p ∙ ap (λ b. b && not (has_row name (settled rules (held_for n h)).rows)) (waits_in_vain s h)) words
waits_more (report {name} is) words stands next =
    waits_vain (with_dashes name) (gives (record { name = name; value = codes "true" })) (report_piece is) (λ n us ps. refl)
    (λ n s h p. report_turn is (Some n) (held_for n h) p ∙ ap (λ b. b && not (has_row name (settled rules (held_for n h)).rows)) (waits_in_vain s h)) words
waits_more (other x xs e) words stands next = waits_plain x xs e words next
waits_more (none word e) words stands next = absurd (true≢false (sym stands ∙ e))

walks : (words : List Word) → all_stand words ≡ true → Idle words × Waits words
walks [] e = (idle_end, waits_end)
walks (word ∷ words) e =
    let parts = both_hold (can_stand (piece_of word)) (all_stand words) e in
    let rest = walks words parts.1 in
    (idle_more (view word) words parts.0 rest.0 rest.1, waits_more (view word) words parts.0 rest.0)

-- the rows of the words are those of the uses that they are cut into
pub matched : (words : List Word) → all_stand words ≡ true → outcome (walk_from nothing_held) words ≡ option_map rows_of_uses (after [] (map piece_of words))
matched words e = (walks words e).0 [] nothing_held (λ _. refl)

-- what can go wrong with the words
pub faults : (words : List Word) → fault_of titan words ≡ rest_fault (walk_from nothing_held) words
faults words = leaf_fault (built titan) nothing_held words refl
