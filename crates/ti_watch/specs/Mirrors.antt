-- Mirrors the code: only contracts of private functions and invariants use these definitions.
use Rattle.std.specs.Prelude.{ℕ, List, ◌++◌, length, map, flat_map, count_by, bytes_eq, codes}
use Rattle.ti_base.specs.declared.action.Action.{Action}
use Rattle.ti_base.specs.declared.action.Action.TheVariants as act
use Rattle.ti_base.specs.declared.entry.Entry.{Entry}
use Rattle.ti_watch.specs.declared.acts.ActKind.{ActKind}
use Rattle.ti_watch.specs.declared.acts.ActKind.TheVariants as kind
use Rattle.ti_watch.specs.Reports.{number_text, words}

-- The operation of an action, without its operands.
abbrev pub kind_of_action : Action → ActKind
kind_of_action (act.GetField obj field) = kind.GetField
kind_of_action (act.PutField obj field value) = kind.PutField
kind_of_action (act.NewObj class region) = kind.NewObj
kind_of_action (act.NewGrid zero domain region) = kind.NewGrid
kind_of_action (act.GetElem grid at) = kind.GetElem
kind_of_action (act.PutElem grid at value) = kind.PutElem
kind_of_action (act.MakeView grid how) = kind.MakeView
kind_of_action (act.DomainOf grid) = kind.DomainOf
kind_of_action (act.Print literal value) = kind.Print
kind_of_action (act.Arrive k arg deposit) = kind.Arrive
kind_of_action act.Depart = kind.Depart
kind_of_action (act.Take who) = kind.Take
kind_of_action act.End = kind.End
kind_of_action (act.Fault k) = kind.Fault

-- The name of an operation.
abbrev pub kind_word : ActKind → List ℕ
kind_word kind.GetField = codes "getField"
kind_word kind.PutField = codes "putField"
kind_word kind.NewObj = codes "newObj"
kind_word kind.NewGrid = codes "newGrid"
kind_word kind.GetElem = codes "getElem"
kind_word kind.PutElem = codes "putElem"
kind_word kind.MakeView = codes "makeView"
kind_word kind.DomainOf = codes "domainOf"
kind_word kind.Print = codes "print"
kind_word kind.Arrive = codes "arrive"
kind_word kind.Depart = codes "depart"
kind_word kind.Take = codes "take"
kind_word kind.End = codes "end"
kind_word kind.Fault = codes "fault"

-- The operations of these entries.
abbrev pub entry_kinds : List Entry → List ActKind
entry_kinds es = map (λ (e : Entry). kind_of_action e.act) es

-- The line of an operation: its name, and how many of these have it.
abbrev pub kind_count_text : List ActKind → List ℕ → List ℕ
kind_count_text kinds word = word ++ number_text (count_by (λ (k : ActKind). bytes_eq (kind_word k) word) kinds)

-- The number of all entries, then that of each operation.
unfoldable pub kind_stats_text : List ActKind → List ℕ
kind_stats_text kinds = codes "stats entries" ++ number_text (length kinds) ++ flat_map (kind_count_text kinds) words
