-- The model of a Vec of children in a tree is proved to be the list of its items' models.
use Rattle.std.proofs.Common.{◌≡◌, ℕ, List, map, refl, ap, ◌∙◌}
use Rattle.std.specs.declared.vec.Vec.{Vec}
use Rattle.std.specs.declared.alloc.Global.{Global}
use Rattle.std.specs.declared.boxed.Box.{Box}
use mathlib.Core.Former.{Count}
use Rattle.ti_base.specs.declared.place.Place.{Place}
use Rattle.ti_syntax.specs.declared.tree.exprs.Range.{Range}
use Rattle.ti_syntax.specs.declared.tree.exprs.Expr.{Expr, Call, Point, Rect, Member, Index, Row_of-Expr, end_of-Expr, more_of-Expr, items-the_row-Expr, items_hidden-the_row-Expr-0, Row_of-Range, end_of-Range, more_of-Range, items-the_row-Range, items_hidden-the_row-Range-1}
use Rattle.ti_syntax.specs.declared.tree.exprs.Expr.TheVariants as e
use Rattle.ti_syntax.specs.declared.tree.stmts.Stmt.{Stmt, Block, Row_of-Stmt, end_of-Stmt, more_of-Stmt, items-the_row-Stmt, items_hidden-the_row-Stmt-0}
use Rattle.ti_syntax.specs.declared.tree.stmts.Stmt.TheVariants as t
use Rattle.ti_syntax.specs.Trees.Expressions as x
use Rattle.ti_syntax.specs.Trees.Statements as s
use Rattle.ti_syntax.specs.Trees.Views.{exp_of, args_of, exps_of, range_of, rows_of, ranges_of, stm_of, row_of, stms_of}

-- some place
abbrev nowhere : Place
nowhere = record { line = 0; col = 0 }

-- ---- lists of expressions

args_listed : (n : _) (row : Row_of-Expr n) → args_of row ≡ x.exps (map exp_of (items-the_row-Expr n row))
args_listed n end_of-Expr = refl
args_listed n (more_of-Expr a rest) = ap (x.MoreExp (exp_of a)) (args_listed _ rest)

abbrev args_row : Expr → (n : Count) × Row_of-Expr n
args_row (e.Point' _ _ row) = (_, row)
args_row _ = (_, end_of-Expr)

-- where a tree is made, whichever variant holds the Vec
pub held_exps : (v : Vec Expr Global) → args_of (args_row (Point nowhere v)).1 ≡ x.exps (exps_of v)
held_exps v =
    let row = args_row (Point nowhere v) in
    args_listed row.0 row.1 ∙ ap (λ items. x.exps (map exp_of items)) (items_hidden-the_row-Expr-0 v)

-- behind a match
pub seen_call : (a : Expr) (at : Place) (name : List ℕ) (v : Vec Expr Global) → a ≡ Call at name v → exp_of a ≡ x.call at name (exps_of v)
seen_call a at name v is = ap exp_of is ∙ ap (x.Call at name) (held_exps v)

pub seen_point : (a : Expr) (at : Place) (v : Vec Expr Global) → a ≡ Point at v → exp_of a ≡ x.point at (exps_of v)
seen_point a at v is = ap exp_of is ∙ ap (x.Point at) (held_exps v)

pub seen_member : (a : Expr) (at : Place) (b : Box Expr Global) (name : List ℕ) (v : Vec Expr Global) → a ≡ Member at b name v → exp_of a ≡ x.member at (exp_of b.value) name (exps_of v)
seen_member a at b name v is = ap exp_of is ∙ ap (x.Member at (exp_of b.value) name) (held_exps v)

pub seen_index : (a : Expr) (at : Place) (b : Box Expr Global) (v : Vec Expr Global) → a ≡ Index at b v → exp_of a ≡ x.index at (exp_of b.value) (exps_of v)
seen_index a at b v is = ap exp_of is ∙ ap (x.Index at (exp_of b.value)) (held_exps v)

-- ---- lists of ranges

rows_listed : (n : _) (row : Row_of-Range n) → rows_of row ≡ x.ranges_tree (map range_of (items-the_row-Range n row))
rows_listed n end_of-Range = refl
rows_listed n (more_of-Range a rest) = ap (x.MoreRange (range_of a)) (rows_listed _ rest)

abbrev range_row : Expr → (n : Count) × Row_of-Range n
range_row (e.Rect' _ _ row) = (_, row)
range_row _ = (_, end_of-Range)

pub held_ranges : (v : Vec Range Global) → rows_of (range_row (Rect nowhere v)).1 ≡ x.ranges_tree (ranges_of v)
held_ranges v =
    let row = range_row (Rect nowhere v) in
    rows_listed row.0 row.1 ∙ ap (λ items. x.ranges_tree (map range_of items)) (items_hidden-the_row-Range-1 v)

pub seen_rect : (a : Expr) (at : Place) (v : Vec Range Global) → a ≡ Rect at v → exp_of a ≡ x.rect at (ranges_of v)
seen_rect a at v is = ap exp_of is ∙ ap (x.Rect at) (held_ranges v)

-- ---- lists of statements

body_listed : (n : _) (row : Row_of-Stmt n) → row_of row ≡ s.stms (map stm_of (items-the_row-Stmt n row))
body_listed n end_of-Stmt = refl
body_listed n (more_of-Stmt a rest) = ap (s.Cons (stm_of a)) (body_listed _ rest)

abbrev body_row : Stmt → (n : Count) × Row_of-Stmt n
body_row (t.Block' _ row) = (_, row)
body_row _ = (_, end_of-Stmt)

pub held_stms : (v : Vec Stmt Global) → row_of (body_row (Block v)).1 ≡ s.stms (stms_of v)
held_stms v =
    let row = body_row (Block v) in
    body_listed row.0 row.1 ∙ ap (λ items. s.stms (map stm_of items)) (items_hidden-the_row-Stmt-0 v)

pub seen_block : (a : Stmt) (v : Vec Stmt Global) → a ≡ Block v → stm_of a ≡ s.block (stms_of v)
seen_block a v is = ap stm_of is ∙ ap s.Block (held_stms v)

pub ruleset bridges = (held_exps, held_ranges, held_stms, seen_call, seen_point, seen_member, seen_index, seen_rect, seen_block)
