-- The arguments of a call and the parameters of its method, one pair after the other.
use Rattle.std.proofs.Common.{◌≡◌, ℕ, ◌+◌, ◌<◌, ◌≤◌, List, [], ◌∷◌, ◌++◌, map, drop, length, get_or, Result, Ok, Err, IfOk, refl, ap, sym, ◌∙◌, add-one, arith}
use Rattle.std.proofs.Math.Seq.{drop-cons}
use Rattle.std.proofs.lemmas.List.{append_assoc, drop_all}
use Rattle.std.specs.declared.vec.Vec.{Vec}
use Rattle.std.specs.declared.alloc.Global.{Global}
use Rattle.ti_base.specs.declared.memory.Memory.{Memory}
use Rattle.ti_base.specs.declared.place.Place.{Place}
use Rattle.ti_syntax.specs.Trees.Classes.{TextTree}
use Rattle.ti_lang.specs.declared.program.exprs.Expr.{Expr}
use Rattle.ti_lang.specs.declared.program.classes.Param.{Param}
use Rattle.ti_lang.specs.Program.Expressions.{NumberedExps, NoExp, MoreExp, numbered_exps}
use Rattle.ti_lang.specs.Program.Classes.{ProgramView}
use Rattle.ti_lang.specs.Program.Scope.{ScopeContents}
use Rattle.ti_lang.specs.Program.Views.{expression_of, numbered_param_of}
use Rattle.ti_explain.specs.declared.reason.RefusalReason.{RefusalReason}
use Rattle.ti_explain.specs.Mirrors.Arguments.{told_from}
use Rattle.ti_explain.specs.TypeReasons.{argument_told, arguments_told}

front : {A : Type 0} (xs : List A) (i : ℕ) (x : A) → i < length xs → drop i xs ≡ get_or xs i x ∷ drop (i + 1) xs
front xs i x lt = drop-cons xs i x lt ∙ ap (λ j. get_or xs i x ∷ drop j xs) (sym (add-one i))

pub told_next : (text : TextTree) (p : ProgramView) (s : ScopeContents) (at : Place) (args : List Expr) (params : List Param) (i : ℕ) (a : Expr) (q : Param)
    → i < length args → i < length params → told_from text p s at args params i
    ≡ argument_told text p s at (expression_of (get_or args i a)) (numbered_param_of (get_or params i q)) ++ told_from text p s at args params (i + 1)
told_next text p s at args params i a q lt within =
    λ j. arguments_told text p s at (numbered_exps (map expression_of (front args i a lt j))) (map numbered_param_of (front params i q within j))

no_params : (text : TextTree) (p : ProgramView) (s : ScopeContents) (at : Place) (args : NumberedExps) → arguments_told text p s at args [] ≡ []
no_params text p s at NoExp = refl
no_params text p s at (MoreExp a rest) = refl

pub told_past : (text : TextTree) (p : ProgramView) (s : ScopeContents) (at : Place) (args : List Expr) (params : List Param) (i : ℕ) → length params ≤ i
    → told_from text p s at args params i ≡ []
told_past text p s at args params i le =
    ap (λ l. arguments_told text p s at (numbered_exps (map expression_of (drop i args))) (map numbered_param_of l)) (drop_all i params le)
    ∙ no_params text p s at (numbered_exps (map expression_of (drop i args)))

pub told_end : (text : TextTree) (p : ProgramView) (s : ScopeContents) (at : Place) (args : List Expr) (params : List Param) (i : ℕ) → length args ≤ i
    → told_from text p s at args params i ≡ []
told_end text p s at args params i le =
    ap (λ l. arguments_told text p s at (numbered_exps (map expression_of l)) (map numbered_param_of (drop i params))) (drop_all i args le)

-- one argument more, that has a parameter
pub next_told : (text : TextTree) (p : ProgramView) (s : ScopeContents) (at : Place) (args : List Expr) (params : List Param) (i : ℕ) (a : Expr) (q : Param)
    (found : List RefusalReason) (o : Result (Vec RefusalReason Global) Memory) → i < length args → i < length params → a ≡ get_or args i a → q ≡ get_or params i q
    → IfOk o (λ v. v.items ≡ found ++ argument_told text p s at (expression_of a) (numbered_param_of q))
    → IfOk o (λ v. v.items ++ told_from text p s at args params (i + 1) ≡ found ++ told_from text p s at args params i)
next_told text p s at args params i a q found (Err e) lt within here there is = is
next_told text p s at args params i a q found (Ok v) lt within here there is =
    let next = told_from text p s at args params (i + 1) in
    let told : Expr → Param → List RefusalReason = λ x y. argument_told text p s at (expression_of x) (numbered_param_of y) in
    ap (λ l. l ++ next) is
    ∙ append_assoc found (told a q) next
    ∙ ap (λ x. found ++ (told x q ++ next)) here
    ∙ ap (λ y. found ++ (told (get_or args i a) y ++ next)) there
    ∙ sym (ap (λ l. found ++ l) (told_next text p s at args params i a q lt within))

-- one argument more, that has none
pub none_told : (text : TextTree) (p : ProgramView) (s : ScopeContents) (at : Place) (args : List Expr) (params : List Param) (i : ℕ) (found : List RefusalReason)
    → length params ≤ i → found ++ told_from text p s at args params (i + 1) ≡ found ++ told_from text p s at args params i
none_told text p s at args params i found le =
    ap (λ l. found ++ l) (told_past text p s at args params (i + 1) (omega (arith, le)) ∙ sym (told_past text p s at args params i le))
