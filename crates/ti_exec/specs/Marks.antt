-- The marks of loops in progress, to which break and continue lead.
use Rattle.std.specs.Prelude.{Bool, true, false, List, drop}
use Rattle.std.specs.List.{list_any}
use Rattle.ti_eval.specs.declared.frame.Resume.{Resume}
use Rattle.ti_eval.specs.declared.frame.Resume.TheVariants as resume
use Rattle.ti_eval.specs.declared.frame.StmtFrame.{StmtFrame}

-- The pending work of a statement begins with the end of an iteration, which is the loop's mark.
abbrev pub is_mark : Resume → Bool
is_mark resume.Behind = true
is_mark (resume.Turn variable domain at) = true
is_mark t = false

-- A loop is in progress around the innermost statement. The work of the method's body, which comes first, is never a mark.
abbrev pub is_inside_loop : List StmtFrame → Bool
is_inside_loop levels = list_any (λ (l : StmtFrame). is_mark l.resume) (drop 1 levels)
