-- The statistics of entries are those of their operations.
use Rattle.std.proofs.Common.{◌≡◌, ◌+◌, ℕ, cond, List, [], ◌∷◌, ◌++◌, length, count_by, sum_by, bytes_eq, refl, sym, ap, ◌∙◌}
use Rattle.std.specs.Prelude.{codes}
use Rattle.std.specs.List.{flat_map}
use Rattle.std.proofs.lemmas.List.{length-map}
use Rattle.std.proofs.lemmas.List.Sums.{sum_by-cons}
use Rattle.ti_base.specs.declared.action.Action.{Action}
use Rattle.ti_base.specs.declared.action.Action.TheVariants as act
use Rattle.ti_base.specs.declared.entry.Entry.{Entry}
use Rattle.ti_watch.specs.declared.acts.ActKind.{ActKind}
use Rattle.ti_watch.specs.Acts.{action_word}
use Rattle.ti_watch.specs.Mirrors.{kind_of_action, kind_word, entry_kinds, kind_count_text, kind_stats_text}
use Rattle.ti_watch.specs.Reports.{words, number_text, count_text, stats_text}

-- an action has the name of its operation
pub same_word : (a : Action) → kind_word (kind_of_action a) ≡ action_word a
same_word (act.GetField obj field) = refl
same_word (act.PutField obj field value) = refl
same_word (act.NewObj class region) = refl
same_word (act.NewGrid zero domain region) = refl
same_word (act.GetElem grid at) = refl
same_word (act.PutElem grid at value) = refl
same_word (act.MakeView grid how) = refl
same_word (act.DomainOf grid) = refl
same_word (act.Print literal value) = refl
same_word (act.Arrive k arg deposit) = refl
same_word act.Depart = refl
same_word (act.Take who) = refl
same_word act.End = refl
same_word (act.Fault k) = refl

-- as many operations have a name as entries
pub same_count : (word : List ℕ) (es : List Entry) → count_by (λ k. bytes_eq (kind_word k) word) (entry_kinds es) ≡ count_by (λ (e : Entry). bytes_eq (action_word e.act) word) es
same_count word [] = refl
same_count word (e ∷ es) =
    let of_kind : ActKind → ℕ = λ k. cond (bytes_eq (kind_word k) word) 1 0 in
    let of_entry : Entry → ℕ = λ d. cond (bytes_eq (action_word d.act) word) 1 0 in
    sum_by-cons of_kind (kind_of_action e.act) (entry_kinds es)
    ∙ ap (λ w. cond (bytes_eq w word) 1 0 + sum_by of_kind (entry_kinds es)) (same_word e.act)
    ∙ ap (λ n. of_entry e + n) (same_count word es)
    ∙ sym (sum_by-cons of_entry e es)

pub same_line : (es : List Entry) (word : List ℕ) → kind_count_text (entry_kinds es) word ≡ count_text es word
same_line es word = ap (λ n. word ++ number_text n) (same_count word es)

pub same_lines : (es : List Entry) (ws : List (List ℕ)) → flat_map (kind_count_text (entry_kinds es)) ws ≡ flat_map (count_text es) ws
same_lines es [] = refl
same_lines es (w ∷ ws) =
    ap (λ line. line ++ flat_map (kind_count_text (entry_kinds es)) ws) (same_line es w)
    ∙ ap (λ lines. count_text es w ++ lines) (same_lines es ws)

pub same_stats : (es : List Entry) → kind_stats_text (entry_kinds es) ≡ stats_text es
unfolding stats_text kind_stats_text
same_stats es =
    ap (λ n. codes "stats entries" ++ number_text n ++ flat_map (kind_count_text (entry_kinds es)) words) (length-map es (λ (e : Entry). kind_of_action e.act))
    ∙ ap (λ lines. codes "stats entries" ++ number_text (length es) ++ lines) (same_lines es words)
