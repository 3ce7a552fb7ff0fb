-- The line that sums up a run.
use Rattle.std.specs.Prelude.{ℕ, ℤ, pos, ◌+ℤ◌, Bool, true, false, if◌then◌else◌, List, [], ◌++◌, length, count_by, fold, Some, codes, decimal}
use Rattle.std.specs.Fmt.{signed_decimal}
use Rattle.std.specs.Int.{w32}
use Rattle.std.specs.List.{list_all, range_with_len}
use Rattle.ti_base.specs.declared.action.Action.{Action}
use Rattle.ti_base.specs.declared.action.Action.TheVariants as act
use Rattle.ti_base.specs.declared.entry.Entry.{Entry}
use Rattle.ti_base.specs.declared.value.Value.TheVariants as v
use Rattle.ti_base.specs.WholeNumbers.{wrap}
use Rattle.ti_lang.specs.Meaning.Histories.{has_end}
use Rattle.ti_lang.specs.Meaning.Processes.{RunConfig}

-- a print
abbrev pub is_print : Action → Bool
is_print (act.Print literal value) = true
is_print a = false

-- the integer that an action prints, or 0 if it prints none
abbrev pub printed_int : Action → ℤ
printed_int (act.Print literal (Some (v.Int n))) = n
printed_int a = pos 0

-- how many prints there are
abbrev pub print_count : List Entry → ℕ
print_count es = count_by (λ (e : Entry). is_print e.act) es

-- the sum of all printed integers
abbrev pub printed_sum : List Entry → ℤ
printed_sum es = fold (λ (total : ℤ) (e : Entry). total +ℤ printed_int e.act) (pos 0) es

-- the numbers of prints and of entries, and the sum of the printed integers, wrapped to 32 bits
unfoldable pub summary_line : List Entry → List ℕ
summary_line es =
    codes "lines " ++ decimal (print_count es) ++ codes " entries " ++ decimal (length es) ++ codes " sum "
    ++ signed_decimal (wrap w32 (printed_sum es)) ++ codes "\n"

-- whether all processes have ended
abbrev pub have_ended : RunConfig → List Entry → Bool
have_ended run es = list_all (λ i. has_end i es) (range_with_len 0 run.procs)

-- the summary of a run in which all processes have ended; any other run has none
abbrev pub summary_text : RunConfig → List Entry → List ℕ
summary_text run es = if have_ended run es then summary_line es else []
