-- Mode infer: what it writes of the greatest marking of a text. What the greatest marking and the refusal of a text are is defined in ti_infer.
use Rattle.std.specs.Prelude.{ℕ, List, ◌++◌, flat_map, codes, decimal}
use Rattle.ti_blame.specs.declared.mark.MarkKind.{MarkKind}
use Rattle.ti_blame.specs.declared.mark.MarkKind.TheVariants as kind
use Rattle.ti_blame.specs.declared.mark.Mark.{Mark}
pub use Rattle.ti_infer.specs.OfTexts.{HasMarking, HasSomeMarking, IsUnmarkedTreeRefusal, of_names, of_types, of_marks, IsUnmarkedRefusal, of_text, of_tree}

-- ---- what is written

-- what is marked
abbrev pub kind_name : MarkKind → List ℕ
kind_name kind.Method = codes "method"
kind_name kind.Result = codes "result"
kind_name kind.Variable = codes "variable"

-- the line of a mark: where it is, and what is marked there
abbrev pub mark_line : Mark → List ℕ
mark_line m = decimal m.place.line ++ codes ":" ++ decimal m.place.col ++ codes " " ++ kind_name m.kind ++ codes "\n"

-- a line for each mark
abbrev pub marks_text : List Mark → List ℕ
marks_text marks = flat_map mark_line marks
