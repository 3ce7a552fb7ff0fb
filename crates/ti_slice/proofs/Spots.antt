-- Proves that a method without statements has none inside.
use Rattle.std.proofs.Common.{◌≡◌, ap, refl, ◌<◌, List, [], ◌∷◌, length, reverse, arith}
use Rattle.std.proofs.lemmas.List.{length-reverse}
use Rattle.ti_lang.specs.Program.Statements.{Nil}
use Rattle.ti_lang.specs.Program.Statements as s
use Rattle.ti_eval.specs.declared.frame.StmtFrame.{StmtFrame}
use Rattle.ti_eval.specs.declared.frame.ChildIndex.{ChildIndex}
use Rattle.ti_eval.specs.declared.frame.ChildIndex.TheVariants as part
use Rattle.ti_eval.specs.Places.{inside, child_of}

nothing_in : (p : ChildIndex) → child_of (s.Block Nil) p ≡ s.Empty
nothing_in (part.Item n) = refl
nothing_in part.Then = refl
nothing_in part.Else = refl
nothing_in part.Body = refl
nothing_in part.First = refl
nothing_in part.Update = refl

-- in a method without statements there is none
nothing_inside : (ls : List StmtFrame) → 0 < length ls → inside Nil ls ≡ s.Empty
nothing_inside [] h = absurd (omega arith)
nothing_inside (l ∷ []) h = nothing_in l.inner
nothing_inside (l ∷ m ∷ ls) h = ap (λ x. child_of x l.inner) (nothing_inside (m ∷ ls) (omega arith))

pub none_inside : (xs : List StmtFrame) → 0 < length xs → s.Empty ≡ inside Nil (reverse xs)
none_inside xs h = rw (nothing_inside (reverse xs) (rw (length-reverse xs) h)) refl
