-- Variables that the code compares as equal are proved equal in the model, and a copy with a shared prefix equal to the original.
use Rattle.std.proofs.Common.{◌≡◌, ◌≤◌, ℕ, ◌-◌, Bool, true, false, not, ◌&&◌, ◌==◌, List, ◌++◌, map, length, take, drop, refl, ap, sym, subst, arith, ◌∙◌, true≢false}
use Rattle.std.proofs.Math.Bool.{beq}
use Rattle.std.proofs.lemmas.List.{map-append, take_all, take-append-drop, length-drop}
use Rattle.std.proofs.lemmas.Bool.{eqb-true}
use Rattle.ti_lang.specs.declared.program.scope.InScope.{InScope}
use Rattle.ti_lang.specs.Program.Scope.{in_scope_of}
use Rattle.ti_lang.specs.Program.Views.{value_type_of}
use Rattle.ti_lang.specs.Program.Types.{ValueType, Int, Long, Boolean, Pt, Rc, Dm, Region, Class, Grid, Null, Void}
use Rattle.ti_lang.specs.Typing.Kinds.{same_type, same_truth}

both_true : (a b : Bool) → (a && b) ≡ true → (a ≡ true) × (b ≡ true)
both_true true b h = (refl, h)
both_true false b h = absurd (true≢false (sym h))

truths : (a b : Bool) → same_truth a b ≡ true → a ≡ b
truths true b h = sym h
truths false false h = refl
truths false true h = absurd (true≢false (sym h))

-- what is found the same is the same
pub types : (t u : ValueType) → same_type t u ≡ true → t ≡ u
types Int Int h = refl
types Long Long h = refl
types Boolean Boolean h = refl
types (Pt n) (Pt m) h = ap Pt (eqb-true n m h)
types (Rc n) (Rc m) h = ap Rc (eqb-true n m h)
types (Dm n) (Dm m) h = ap Dm (eqb-true n m h)
types Region Region h = refl
types (Class c local) (Class d global) h =
    let (classes, truth) = both_true (c == d) (same_truth local global) h in
    ap (λ z. Class z local) (eqb-true c d classes) ∙ ap (Class d) (truths local global truth)
types (Grid t n local) (Grid u m global) h =
    let (grids, truth) = both_true (same_type t u && (n == m)) (same_truth local global) h in
    let (elements, dims) = both_true (same_type t u) (n == m) grids in
    ap (λ z. Grid z n local) (types t u elements) ∙ (ap (λ z. Grid u z local) (eqb-true n m dims) ∙ ap (Grid u m) (truths local global truth))
types Null Null h = refl
types Void Void h = refl
types _ _ h = absurd (true≢false (sym h))

pub variables : (a b : InScope) → a.number ≡ b.number → a.single ≡ b.single → same_type (value_type_of a.ty) (value_type_of b.ty) ≡ true → in_scope_of a ≡ in_scope_of b
variables a b number single type =
    ap (λ n. record { number = n; type = value_type_of a.ty; is_single = a.single }) number
    ∙ (ap (λ t. record { number = b.number; type = t; is_single = a.single }) (types (value_type_of a.ty) (value_type_of b.ty) type)
    ∙ ap (λ s. record { number = b.number; type = value_type_of b.ty; is_single = s }) single)

-- the same word
pub word : (a b : Bool) → not (beq a b) ≡ false → a ≡ b
word true true h = refl
word false false h = refl
word true false h = absurd (true≢false h)
word false true h = absurd (true≢false h)

-- the front of others that is the same, and behind it the rest
pub front_and_rest : {A B : Type 0} (f : A → B) (found others variables : List A) (count : ℕ) → count ≤ length variables → found
    ≡ take count others → map f (take count others) ≡ map f (take count variables)
    → map f found ++ map f (take (length variables - count) (drop count variables)) ≡ map f variables
front_and_rest f found others variables count within front same =
    ap (λ l. map f l ++ map f (take (length variables - count) (drop count variables))) front
    ∙ (ap (λ l. l ++ map f (take (length variables - count) (drop count variables))) same
    ∙ (ap (λ l. map f (take count variables) ++ map f l) (take_all (length variables - count) (drop count variables)
    (subst (λ n. n ≤ length variables - count) (sym (length-drop count variables)) (omega arith)))
    ∙ (sym (map-append f (take count variables) (drop count variables)) ∙ ap (map f) (take-append-drop count variables))))
