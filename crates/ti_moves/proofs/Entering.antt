-- Proves that the code finds the statement at the position of a call.
use Rattle.std.proofs.Common.{◌≡◌, ◌∙◌, ap, sym, refl, ℕ, List, [], ◌∷◌, map, slice_get, unwrap_or, length, reverse, arith}
use Rattle.std.proofs.lemmas.List.{length-map}
use Rattle.std.proofs.lemmas.Option.{slice_get-map}
use Rattle.std.specs.declared.vec.Vec.{Vec}
use Rattle.std.specs.declared.alloc.Global.{Global}
use Rattle.ti_lang.specs.declared.program.stmts.Stmt.{Stmt, Block}
use Rattle.ti_lang.specs.Program.Statements.{NumberedStm, numbered_stms}
use Rattle.ti_lang.specs.Program.Statements as s
use Rattle.ti_lang.specs.Program.Views.{statement_of, statements_of}
use Rattle.ti_lang.proofs.Lemmas.{seen_numbered_block}
use Rattle.ti_eval.specs.declared.frame.StmtFrame.{StmtFrame}
use Rattle.ti_eval.specs.declared.frame.ChildIndex.TheVariants as part
use Rattle.ti_eval.specs.Frames.{list_in}
use Rattle.ti_eval.specs.Places.{list_of, child_of, inside}

pub list_numbered : (xs : List NumberedStm) → list_of (numbered_stms xs) ≡ xs
list_numbered [] = refl
list_numbered (x ∷ xs) = ap (λ ys. x ∷ ys) (list_numbered xs)

-- an item of a block
pub item_of : (a : Stmt) (v : Vec Stmt Global) (n : ℕ) → a ≡ Block v → child_of (statement_of a) (part.Item n) ≡ unwrap_or (slice_get (map statement_of v.items) n) s.Empty
item_of a v n is =
    ap (λ x. child_of x (part.Item n)) (seen_numbered_block a v is)
    ∙ ap (λ xs. unwrap_or (slice_get xs n) s.Empty) (list_numbered (statements_of v))

-- how many a block has
pub list_counted : (xs : List Stmt) → length (list_of (numbered_stms (map statement_of xs))) ≡ length xs
list_counted xs = ap length (list_numbered (map statement_of xs)) ∙ length-map xs statement_of

pub block_counted : (a : Stmt) (v : Vec Stmt Global) → a ≡ Block v → length (list_in (statement_of a)) ≡ length v.items
block_counted a v is = ap (λ x. length (list_in x)) (seen_numbered_block a v is) ∙ list_counted v.items

pub ruleset entering = (list_counted, block_counted, item_of, slice_get-map, list_numbered)

-- where nothing is entered the list is the body of the method
pub body_counted : (xs : List Stmt) (ls : List StmtFrame) → length ls ≡ 0 → length xs ≡ length (list_in (inside (numbered_stms (map statement_of xs)) (reverse ls)))
body_counted xs [] h = sym (list_counted xs)
body_counted xs (l ∷ ls) h = absurd (omega arith)
