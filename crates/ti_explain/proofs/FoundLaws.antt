-- Lemmas on what the search has found in lists of statements.
use Rattle.std.proofs.Common.{◌≡◌, ℕ, ◌+◌, ◌<◌, ◌≤◌, List, [], ◌∷◌, ◌++◌, map, drop, length, get_or, Option, Some, None, Result, Ok, Err, IfOk, inl, inr, refl, ap, sym, ◌∙◌, subst, add-one, append-nil, arith}
use Rattle.std.proofs.Math.Seq.{drop-cons}
use Rattle.std.proofs.lemmas.List.{drop_all}
use Rattle.std.proofs.lemmas.List.Elements.{Contains-append_left, Contains-append_right, Contains-append_cases}
use Rattle.std.specs.declared.vec.Vec.{Vec}
use Rattle.std.specs.declared.alloc.Global.{Global}
use Rattle.std.specs.declared.boxed.Box.{Box}
use Rattle.ti_base.specs.declared.memory.Memory.{Memory}
use Rattle.ti_base.specs.declared.place.Place.{Place}
use Rattle.ti_syntax.specs.Trees.Views.{maybe_of}
use Rattle.ti_lang.specs.declared.program.exprs.Expr.{Expr}
use Rattle.ti_lang.specs.declared.program.stmts.Stmt.TheVariants.{If, For}
use Rattle.ti_lang.specs.declared.program.stmts.Stmt.{Stmt}
use Rattle.ti_lang.specs.Program.Statements.{NumberedStm, numbered_stms}
use Rattle.ti_lang.specs.Program.Statements as st
use Rattle.ti_lang.specs.Program.Classes.{ProgramView}
use Rattle.ti_lang.specs.Program.Views.{expression_of, statement_of}
use Rattle.ti_rules.specs.StmtInContext.{StmtContext, StmtInContext, stands, inside, inside_maybe, inside_all}
use Rattle.ti_explain.specs.declared.reason.RefusalReason.{RefusalReason}
use Rattle.ti_single.specs.Mirrors.Maybe.{maybe_in}
use Rattle.ti_explain.specs.declared.search.SoughtRefusal.{SoughtRefusal}
use Rattle.ti_explain.specs.Mirrors.Found.{reasons_of_statement, IsRefusedAs, IsFound, nested}

-- in an empty list
pub found_nothing : (p : ProgramView) (r : SoughtRefusal) → IsFound p r [] None
found_nothing p r x among refused = omega (arith, among.1)

-- in the first of two lists
pub found_left : (p : ProgramView) (r : SoughtRefusal) (xs ys : List StmtInContext) (v : Vec RefusalReason Global) → IsFound p r xs (Some v) → IsFound p r (xs ++ ys) (Some v)
found_left p r xs ys v (x, among, refused, is) = (x, Contains-append_left xs ys x among, refused, is)

-- nothing in the first, and this in the second
pub found_right : (p : ProgramView) (r : SoughtRefusal) (xs ys : List StmtInContext) (o : Option (Vec RefusalReason Global)) → IsFound p r xs None → IsFound p r ys o → IsFound p r (xs ++ ys) o
found_right p r xs ys None none others =
    λ x among refused. elim (Contains-append_cases xs ys x among) [ inl left ↦ none x left refused | inr right ↦ others x right refused ]
found_right p r xs ys (Some v) none (x, among, refused, is) = (x, Contains-append_right xs ys x among, refused, is)

-- a statement comes before those in it
pub whole_is : (p : ProgramView) (around : StmtContext) (x : NumberedStm) → inside p around x ≡ (stands around x ∷ []) ++ nested p around x
whole_is p around (st.Block body) = λ j. inside p around (st.Block body)
whole_is p around (st.If at c a) = λ j. inside p around (st.If at c a)
whole_is p around (st.IfElse at c a b) = λ j. inside p around (st.IfElse at c a b)
whole_is p around (st.While at c body) = λ j. inside p around (st.While at c body)
whole_is p around (st.For at first c update body) = λ j. inside p around (st.For at first c update body)
whole_is p around (st.Foreach at number domain body) = λ j. inside p around (st.Foreach at number domain body)
whole_is p around x = λ j. inside p around x

pub found_whole : (p : ProgramView) (r : SoughtRefusal) (around : StmtContext) (x : NumberedStm) (o : Option (Vec RefusalReason Global))
    → IsFound p r (stands around x ∷ []) None → IsFound p r (nested p around x) o → IsFound p r (inside p around x) o
found_whole p r around x o none others = subst (λ l. IsFound p r l o) (sym (whole_is p around x)) (found_right p r (stands around x ∷ []) (nested p around x) o none others)

pub found_first : (p : ProgramView) (r : SoughtRefusal) (around : StmtContext) (x : NumberedStm) (v : Vec RefusalReason Global)
    → IsFound p r (stands around x ∷ []) (Some v) → IsFound p r (inside p around x) (Some v)
found_first p r around x v found = subst (λ l. IsFound p r l (Some v)) (sym (whole_is p around x)) (found_left p r (stands around x ∷ []) (nested p around x) v found)

-- ---- one after the other

-- what is found from a statement on is what is found in all
abbrev pub Left : ProgramView → SoughtRefusal → StmtContext → List Stmt → ℕ → Type 0
Left p r around xs i = (o : Option (Vec RefusalReason Global)) → IsFound p r (inside_all p around (numbered_stms (map statement_of (drop i xs)))) o
    → IsFound p r (inside_all p around (numbered_stms (map statement_of xs))) o

from_here : (p : ProgramView) (around : StmtContext) (xs : List Stmt) (i : ℕ) (x : Stmt) → i < length xs → x ≡ get_or xs i x
    → inside_all p around (numbered_stms (map statement_of (drop i xs)))
    ≡ inside p around (statement_of x) ++ inside_all p around (numbered_stms (map statement_of (drop (i + 1) xs)))
from_here p around xs i x lt here =
    ap (λ l. inside_all p around (numbered_stms (map statement_of l))) (drop-cons xs i x lt ∙ ap (λ j. get_or xs i x ∷ drop j xs) (sym (add-one i)))
    ∙ ap (λ z. inside p around (statement_of z) ++ inside_all p around (numbered_stms (map statement_of (drop (i + 1) xs)))) (sym here)

pub left_next : (p : ProgramView) (r : SoughtRefusal) (around : StmtContext) (xs : List Stmt) (i : ℕ) (x : Stmt) → i < length xs → x ≡ get_or xs i x
    → Left p r around xs i → IsFound p r (inside p around (statement_of x)) None → Left p r around xs (i + 1)
left_next p r around xs i x lt here left none o others =
    left o (subst (λ l. IsFound p r l o) (sym (from_here p around xs i x lt here)) (found_right p r _ _ o none others))

pub left_found : (p : ProgramView) (r : SoughtRefusal) (around : StmtContext) (xs : List Stmt) (i : ℕ) (x : Stmt) (v : Vec RefusalReason Global) → i < length xs → x ≡ get_or xs i x
    → Left p r around xs i → IsFound p r (inside p around (statement_of x)) (Some v) → IsFound p r (inside_all p around (numbered_stms (map statement_of xs))) (Some v)
left_found p r around xs i x v lt here left found =
    left (Some v) (subst (λ l. IsFound p r l (Some v)) (sym (from_here p around xs i x lt here)) (found_left p r _ _ v found))

pub left_last : (p : ProgramView) (r : SoughtRefusal) (around : StmtContext) (xs : List Stmt) (i : ℕ) → length xs ≤ i → Left p r around xs i
    → IsFound p r (inside_all p around (numbered_stms (map statement_of xs))) None
left_last p r around xs i le left =
    left None (subst (λ l. IsFound p r (inside_all p around (numbered_stms (map statement_of l))) None) (sym (drop_all i xs le)) (found_nothing p r))

-- ---- at a call

-- the statement itself
pub found_it : (p : ProgramView) (r : SoughtRefusal) (x : StmtInContext) (v : Vec RefusalReason Global) → IsRefusedAs p r x → v.items ≡ reasons_of_statement r p x
    → IsFound p r (x ∷ []) (Some v)
found_it p r x v refused is = (x, (0, omega arith, refl), refused, is)

-- what is found in the second list is found in both
pub then_right : (p : ProgramView) (r : SoughtRefusal) (xs ys : List StmtInContext) (o : Result (Option (Vec RefusalReason Global)) Memory) → IsFound p r xs None
    → IfOk o (IsFound p r ys) → IfOk o (IsFound p r (xs ++ ys))
then_right p r xs ys (Ok found) none others = found_right p r xs ys found none others
then_right p r xs ys (Err e) none others = others

-- in a statement
pub then_nested : (p : ProgramView) (r : SoughtRefusal) (around : StmtContext) (x : NumberedStm) (o : Result (Option (Vec RefusalReason Global)) Memory)
    → IsFound p r (stands around x ∷ []) None → IfOk o (IsFound p r (nested p around x)) → IfOk o (IsFound p r (inside p around x))
then_nested p r around x o none others =
    subst (λ l. IfOk o (IsFound p r l)) (sym (whole_is p around x)) (then_right p r (stands around x ∷ []) (nested p around x) o none others)

-- the same statements
pub same_found : (p : ProgramView) (r : SoughtRefusal) (xs ys : List StmtInContext) (o : Result (Option (Vec RefusalReason Global)) Memory) → xs ≡ ys
    → IfOk o (IsFound p r xs) → IfOk o (IsFound p r ys)
same_found p r xs ys o is found = subst (λ l. IfOk o (IsFound p r l)) is found

-- in another context that is the same
pub moved_found : (p q : ProgramView) (r : SoughtRefusal) (a b : StmtContext) (x y : NumberedStm) (o : Result (Option (Vec RefusalReason Global)) Memory) → q ≡ p → a ≡ b → x ≡ y
    → IfOk o (IsFound q r (inside q a x)) → IfOk o (IsFound p r (inside p b y))
moved_found p q r a b x y o is_p is_a is_x found =
    subst (λ z. IfOk o (IsFound p r (inside p b z))) is_x
    (subst (λ z. IfOk o (IsFound p r (inside p z x))) is_a (subst (λ z. IfOk o (IsFound z r (inside z a x))) is_p found))

-- an `if` has two forms
pub if_nested : (p : ProgramView) (around : StmtContext) (at : Place) (c : Expr) (a : Box Stmt Global) (b : Option (Box Stmt Global))
    → inside p around (statement_of a.value) ++ inside_maybe p around (maybe_in b) ≡ nested p around (statement_of (If at c a b))
if_nested p around at c a None = append-nil (inside p around (statement_of a.value))
if_nested p around at c a (Some b) = refl

-- a `for` has optional parts
pub for_is : (at : Place) (first : Option (Box Stmt Global)) (c : Option Expr) (update : Option (Box Stmt Global)) (body : Box Stmt Global)
    → statement_of (For at first c update body) ≡ st.For at (maybe_in first) (maybe_of expression_of c) (maybe_in update) (statement_of body.value)
for_is at None c None body = refl
for_is at None c (Some update) body = refl
for_is at (Some first) c None body = refl
for_is at (Some first) c (Some update) body = refl

-- from a part of the list to all of it
pub some_same : (p : ProgramView) (r : SoughtRefusal) (xs ys : List StmtInContext) (v : Vec RefusalReason Global) → xs ≡ ys → IsFound p r xs (Some v) → IsFound p r ys (Some v)
some_same p r xs ys v is found = subst (λ l. IsFound p r l (Some v)) is found

-- in the second of two lists
pub some_right : (p : ProgramView) (r : SoughtRefusal) (xs ys : List StmtInContext) (v : Vec RefusalReason Global) → IsFound p r ys (Some v) → IsFound p r (xs ++ ys) (Some v)
some_right p r xs ys v (x, among, refused, is) = (x, Contains-append_right xs ys x among, refused, is)
