-- Lemmas on the effect summary of a sequence of statements.
use Rattle.std.proofs.Common.{◌≡◌, ℕ, Bool, true, false, ◌||◌, map, ◌+◌, ◌<◌, ◌≤◌, List, ◌∷◌, drop, length, get_or, slice_get, Option, Some, refl, ap, sym, ◌∙◌, add-one}
use Rattle.std.specs.Option.{option_map_or}
use Rattle.std.proofs.Math.Seq.{drop-cons}
use Rattle.std.proofs.lemmas.List.{drop_all}
use Rattle.ti_lang.specs.declared.program.stmts.Stmt.{Stmt}
use Rattle.ti_lang.specs.Program.Statements.{NumberedStm, numbered_stms}
use Rattle.ti_lang.specs.Program.Classes.{NumberedMethod, ProgramView}
use Rattle.ti_lang.specs.Program.Scope.{Whereabouts, this_of}
use Rattle.ti_lang.specs.Program.Views.{statement_of}
use Rattle.ti_lang.specs.Typing.Effects.{Doings, no_effects, together, doings, doings_of_all, return_acts, has_global_effects}
use Rattle.ti_single.specs.EffectsAt.{effects_in_loop, jump_acts_at, has_effects_at}

together_assoc : (a b c : Doings) → together (together a b) c ≡ together a (together b c)
together_assoc a b c = λ j. record { acts = or_assoc a.acts b.acts c.acts j; returns = or_assoc a.returns b.returns c.returns j; jumps = or_assoc a.jumps b.jumps c.jumps j }
  where
    or_assoc : (x y z : Bool) → (x || y) || z ≡ x || (y || z)
    or_assoc true y z = refl
    or_assoc false y z = refl

pub together_nothing : (a : Doings) → together a no_effects ≡ a
together_nothing a = λ j. record { acts = or_false a.acts j; returns = or_false a.returns j; jumps = or_false a.jumps j }
  where
    or_false : (x : Bool) → x || false ≡ x
    or_false true = refl
    or_false false = refl

pub drop_next : {A : Type 0} (xs : List A) (i : ℕ) (d : A) → i < length xs → drop i xs ≡ get_or xs i d ∷ drop (i + 1) xs
drop_next xs i d lt = drop-cons xs i d lt ∙ ap (λ j. get_or xs i d ∷ drop j xs) (sym (add-one i))

-- what the statements from a number on do
abbrev pub doings_from : ProgramView → Option ℕ → List Stmt → ℕ → Doings
doings_from p this xs i = doings_of_all p this (numbered_stms (map statement_of (drop i xs)))

-- one statement more
pub doings_step : (p : ProgramView) (this : Option ℕ) (xs : List Stmt) (i : ℕ) (x : Stmt) (found next whole : Doings) → i < length xs → x ≡ get_or xs i x
    → whole ≡ together found (doings_from p this xs i) → next ≡ together found (doings p this (statement_of x)) → whole ≡ together next (doings_from p this xs (i + 1))
doings_step p this xs i x found next whole lt here is is_next =
    let rest = doings_from p this xs (i + 1) in
    is ∙ ap (λ l. together found (doings_of_all p this (numbered_stms (map statement_of l)))) (drop_next xs i x lt)
    ∙ ap (λ z. together found (together (doings p this (statement_of z)) rest)) (sym here)
    ∙ sym (together_assoc found (doings p this (statement_of x)) rest)
    ∙ sym (ap (λ a. together a rest) is_next)

-- behind the last
pub doings_end : (p : ProgramView) (this : Option ℕ) (xs : List Stmt) (i : ℕ) (found whole : Doings) → length xs ≤ i → whole ≡ together found (doings_from p this xs i) → found ≡ whole
doings_end p this xs i found whole le is = sym (is ∙ ap (λ l. together found (doings_of_all p this (numbered_stms (map statement_of l)))) (drop_all i xs le) ∙ together_nothing found)

-- ---- in a method

-- in a loop without an update
pub in_loop_alone : (p : ProgramView) (m : NumberedMethod) (this : Option ℕ) (body x : NumberedStm) (d : Doings) → this ≡ this_of m → d
    ≡ doings p this body → effects_in_loop p m x ≡ doings p (this_of m) body → d ≡ effects_in_loop p m x
in_loop_alone p m this body x d is_this is is_loop = is ∙ ap (λ th. doings p th body) is_this ∙ sym is_loop

-- in a loop with one
pub in_loop_updated : (p : ProgramView) (m : NumberedMethod) (this : Option ℕ) (update body x : NumberedStm) (u b d : Doings) → this
    ≡ this_of m → d ≡ together u b → u ≡ doings p this update → b ≡ doings p this body
    → effects_in_loop p m x ≡ together (doings p (this_of m) update) (doings p (this_of m) body) → d ≡ effects_in_loop p m x
in_loop_updated p m this update body x u b d is_this is is_u is_b is_loop =
    is ∙ ap (λ a. together a b) is_u ∙ ap (together (doings p this update)) is_b ∙ ap (λ th. together (doings p th update) (doings p th body)) is_this ∙ sym is_loop

-- a statement of a method
pub effects_in : (p : ProgramView) (at : Whereabouts) (x : NumberedStm) (m : NumberedMethod) (this : Option ℕ)
    (return_is_global jump_has has : Bool) (d : Doings) → Some m ≡ slice_get p.methods at.method
    → return_is_global ≡ return_acts p m → jump_has ≡ jump_acts_at p m at.innermost_loop → this ≡ this_of m → d ≡ doings p this x → has
    ≡ has_global_effects return_is_global jump_has d → has ≡ has_effects_at p at x
effects_in p at x m this return_is_global jump_has has d is_m is_return is_jump is_this is_d is =
    is ∙ ap (λ r. has_global_effects r jump_has d) is_return ∙ ap (λ j. has_global_effects (return_acts p m) j d) is_jump
    ∙ ap (has_global_effects (return_acts p m) (jump_acts_at p m at.innermost_loop)) (is_d ∙ ap (λ th. doings p th x) is_this)
    ∙ ap (λ o. option_map_or (λ (m : NumberedMethod). has_global_effects (return_acts p m) (jump_acts_at p m at.innermost_loop) (doings p (this_of m) x)) o false) is_m
