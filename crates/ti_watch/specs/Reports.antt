-- The reports of watchers.
use Rattle.std.specs.Prelude.{ℕ, ◌+◌, ◌==◌, if◌then◌else◌, List, [], ◌∷◌, ◌++◌, length, flat_map, count_by, bytes_eq, codes, decimal}
use Rattle.ti_base.specs.declared.entry.Entry.{Entry}
use Rattle.ti_lang.specs.Meaning.Spots.{races_text}
use Rattle.ti_watch.specs.Texts.{place_text}
use Rattle.ti_watch.specs.Acts.{action_word, act_text, answer_text}

-- ---- traces

-- the line of an entry: its number, its process, its source location, its operation and its result
unfoldable pub entry_text : ℕ → Entry → List ℕ
entry_text number e =
    decimal number ++ codes " p" ++ decimal e.proc ++ codes " " ++ place_text e.place ++ codes " " ++ act_text e.act ++ codes " -> "
    ++ answer_text e.answer
    ++ 10 ∷ []

-- one line for each entry; the first one has this number
abbrev pub lines_from : ℕ → List Entry → List ℕ
lines_from number [] = []
lines_from number (e ∷ rest) = entry_text number e ++ lines_from (number + 1) rest

-- one line for each entry, numbered from 0
abbrev pub trace_text : List Entry → List ℕ
trace_text es = lines_from 0 es

-- ---- statistics

-- the names of operations, in the order of the lines
abbrev pub words : List (List ℕ)
words =
    codes "getField" ∷ codes "putField" ∷ codes "newObj" ∷ codes "newGrid" ∷ codes "getElem" ∷ codes "putElem" ∷ codes "makeView"
    ∷ codes "domainOf"
    ∷ codes "print" ∷ codes "arrive" ∷ codes "depart" ∷ codes "take" ∷ codes "end" ∷ codes "fault" ∷ []

-- a number after a space, with a line end
abbrev pub number_text : ℕ → List ℕ
number_text n = codes " " ++ decimal n ++ 10 ∷ []

-- the line of an operation: its name, and how many entries have it
abbrev pub count_text : List Entry → List ℕ → List ℕ
count_text es word = word ++ number_text (count_by (λ (e : Entry). bytes_eq (action_word e.act) word) es)

-- the number of all entries, then that of each operation
unfoldable pub stats_text : List Entry → List ℕ
stats_text es = codes "stats entries" ++ number_text (length es) ++ flat_map (count_text es) words

-- ---- reports

-- the report of a kind: 0 is a trace, 1 statistics, 2 races; other kinds report nothing
abbrev pub watch_text : ℕ → List Entry → List ℕ
watch_text kind es = if kind == 0 then trace_text es else if kind == 1 then stats_text es else if kind == 2 then races_text es else []
