-- The position of a call in its method: the parts of statements that it has entered.
use Rattle.std.specs.Prelude.{List, [], ◌∷◌, slice_get, unwrap_or}
use Rattle.ti_lang.specs.Program.Statements.{NumberedStm, MaybeNumbered, NoStm, SomeStm, NumberedStms, Nil, Cons}
use Rattle.ti_lang.specs.Program.Statements as s
use Rattle.ti_eval.specs.declared.frame.ChildIndex.{ChildIndex}
use Rattle.ti_eval.specs.declared.frame.ChildIndex.TheVariants as part
use Rattle.ti_eval.specs.declared.frame.StmtFrame.{StmtFrame}

abbrev pub list_of : NumberedStms → List NumberedStm
list_of Nil = []
list_of (Cons x rest) = x ∷ list_of rest

abbrev pub maybe : MaybeNumbered → NumberedStm
maybe NoStm = s.Empty
maybe (SomeStm x) = x

-- The part of a statement; the empty statement if it doesn't have this part.
abbrev pub child_of : NumberedStm → ChildIndex → NumberedStm
child_of (s.Block body) (part.Item n) = unwrap_or (slice_get (list_of body) n) s.Empty
child_of (s.If at c x) part.Then = x
child_of (s.IfElse at c x y) part.Then = x
child_of (s.IfElse at c x y) part.Else = y
child_of (s.While at c body) part.Body = body
child_of (s.Foreach at variable domain body) part.Body = body
child_of (s.For at first c update body) part.Body = body
child_of (s.For at first c update body) part.First = maybe first
child_of (s.For at first c update body) part.Update = maybe update
child_of x p = s.Empty

-- The innermost statement, given the parts entered, the innermost first; the outermost statement is the body of the method.
abbrev pub inside : NumberedStms → List StmtFrame → NumberedStm
inside body [] = s.Block body
inside body (l ∷ ls) = child_of (inside body ls) l.inner
