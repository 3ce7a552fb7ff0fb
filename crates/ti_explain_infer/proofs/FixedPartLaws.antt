-- Lemmas on the walk to a collective: optional statements, and the methods one after the other.
use Rattle.std.proofs.Common.{◌≡◌, ℕ, Bool, ◌+◌, ◌<◌, List, map, length, drop, get_or, Option, None, Some, refl, sym, ap, ◌∙◌}
use Rattle.std.proofs.lemmas.List.{drop_more}
use Rattle.std.specs.Option.{option_or}
use Rattle.std.specs.declared.alloc.Global.{Global}
use Rattle.std.specs.declared.boxed.Box.{Box}
use Rattle.ti_base.specs.declared.place.Place.{Place}
use Rattle.ti_lang.specs.declared.program.classes.Method.{Method}
use Rattle.ti_lang.specs.declared.program.stmts.Stmt.{Stmt, back-Stmt-If-3}
use Rattle.ti_lang.specs.Program.Classes.{ProgramView}
use Rattle.ti_lang.specs.Program.Views.{numbered_method_of, maybe_statement_of}
use Rattle.ti_single.specs.Mirrors.Maybe.{maybe_in}
use Rattle.ti_explain_infer.specs.FixedParts.{part_in_method, part_in_methods}

-- an optional statement in a statement
pub same_maybe : (o : Option (Box Stmt Global)) → maybe_in o ≡ maybe_statement_of (back-Stmt-If-3 o)
same_maybe None = refl
same_maybe (Some x) = refl

-- one method and those after it
pub next_method : (p : ProgramView) (by : Bool) (at : Place) (ms : List Method) (i : ℕ) (m : Method) → i < length ms → m ≡ get_or ms i m
    → part_in_methods p by at (map numbered_method_of (drop i ms))
    ≡ option_or (part_in_method p by at (numbered_method_of m)) (part_in_methods p by at (map numbered_method_of (drop (i + 1) ms)))
next_method p by at ms i m lt is =
    ap (λ l. part_in_methods p by at (map numbered_method_of l)) (drop_more ms i m lt)
    ∙ ap (λ x. option_or (part_in_method p by at (numbered_method_of x)) (part_in_methods p by at (map numbered_method_of (drop (i + 1) ms)))) (sym is)
