-- If the list of a block is stripped in place, so is the block.
use Rattle.std.proofs.Common.{◌≡◌, ℕ, List, [], ◌∷◌, map, refl, ap, sym, ◌∙◌}
use mathlib.Core.Option.{some}
use borrow.Enum.Known.{ValuesAt, at}
use borrow.Enum.Total.{values_o, values_o_at}
use Rattle.std.specs.declared.vec.Vec.{Vec}
use Rattle.std.specs.declared.alloc.Global.{Global}
use Rattle.ti_lang.specs.contracts.program.stmts.Stmt.{enum}
use Rattle.ti_lang.specs.declared.program.stmts.Stmt.{Stmt, Block}
use Rattle.ti_lang.specs.Program.Statements.{NumberedStm, numbered_stms}
use Rattle.ti_lang.specs.Program.Statements as s
use Rattle.ti_lang.specs.Program.Views.{statement_of}
use Rattle.ti_lang.proofs.Lemmas.{seen_numbered_block}
use Rattle.ti_infer.specs.Stripped.{plain_stm, plain_stms}

-- what a statement of a known variant holds
pub held_at : (k : ℕ) (v : ValuesAt enum.parts k) (a : Stmt) → a ≡ at enum k v → values_o enum k a ≡ some v
held_at k v a is = ap (values_o enum k) is ∙ values_o_at enum k v

plain_of_map : (xs : List NumberedStm) → numbered_stms (map plain_stm xs) ≡ plain_stms (numbered_stms xs)
plain_of_map [] = refl
plain_of_map (a ∷ xs) = ap (s.Cons (plain_stm a)) (plain_of_map xs)

pub block_plain : (a : Stmt) (v w : Vec Stmt Global) → a ≡ Block v
    → map statement_of w.items ≡ map plain_stm (map statement_of v.items) → statement_of (Block w) ≡ plain_stm (statement_of a)
block_plain a v w is h =
    seen_numbered_block (Block w) w refl ∙ ap s.Block (ap numbered_stms h ∙ plain_of_map _)
    ∙ sym (ap plain_stm (seen_numbered_block a v is))
