-- Proves that the code of short-circuit operators, and of those that aren't, carries out their evaluation.
use Rattle.std.proofs.Common.{◌≡◌, ℕ, ◌+◌, Bool, true, false, not, if◌then◌else◌, List, Some, None, refl, ap, sym, ◌∙◌}
use Rattle.ti_base.specs.declared.place.Place.{Place}
use Rattle.ti_base.specs.declared.entry.Answer.{Answer}
use Rattle.ti_syntax.specs.declared.tree.exprs.BinaryOperator.{BinaryOperator}
use Rattle.ti_syntax.specs.declared.tree.exprs.BinaryOperator.TheVariants as op
use Rattle.ti_lang.specs.Meaning.Held.{Held, truth, truth_of}
use Rattle.ti_lang.specs.Meaning.Comp.{Gives, gives}
use Rattle.ti_lang.specs.Meaning.Operators.{apply_binary, short_circuit as evaluate_left}
use Rattle.ti_code.specs.Effects.{LocalState, Who, effect, top, below, jump_to, continue_with}
use Rattle.ti_lower_expr.specs.declared.kinds.ShortCircuit.TheVariants.{Never, Where}
use Rattle.ti_lower_expr.specs.Coding.{short_circuit_of, jump_where}

where_not : (b : Bool) → Never ≡ Where b → ⊥
where_not b e = cc

where_same : (a b : Bool) → Where a ≡ Where b → a ≡ b
where_same a b e = cc

never_where : (b : Bool) → Where b ≡ Never → ⊥
never_where b e = cc

-- the left operand says nothing alone
pub never_settled : (o : BinaryOperator) (h : Held) → short_circuit_of o ≡ Never → evaluate_left o h ≡ None
never_settled op.OrElse h e = absurd (never_where true e)
never_settled op.AndThen h e = absurd (never_where false e)
never_settled o h e = refl

-- the left operand decides
pub lazily_settled : (o : BinaryOperator) (b : Bool) (h : Held) → short_circuit_of o ≡ Where b → truth_of h ≡ b → evaluate_left o h ≡ Some (truth b)
lazily_settled op.OrElse b h e x =
    ap (λ z. if z then Some (truth true) else None) (x ∙ sym (where_same true b e)) ∙ ap (λ z. Some (truth z)) (where_same true b e)
lazily_settled op.AndThen b h e x =
    ap (λ z. if z then None else Some (truth false)) (x ∙ sym (where_same false b e)) ∙ ap (λ z. Some (truth z)) (where_same false b e)
lazily_settled o b h e x = absurd (where_not b e)

-- it doesn't
pub lazily_open : (o : BinaryOperator) (b : Bool) (h : Held) → short_circuit_of o ≡ Where b → truth_of h ≡ not b → evaluate_left o h ≡ None
lazily_open op.OrElse b h e x = ap (λ z. if z then Some (truth true) else None) (x ∙ ap not (sym (where_same true b e)))
lazily_open op.AndThen b h e x = ap (λ z. if z then None else Some (truth false)) (x ∙ ap not (sym (where_same false b e)))
lazily_open o b h e x = absurd (where_not b e)

pub lazily_right : (o : BinaryOperator) (b : Bool) (at : Place) (h y : Held) (rs : List Answer) → short_circuit_of o ≡ Where b → apply_binary at o h y rs ≡ gives y rs
lazily_right op.OrElse b at h y rs e = refl
lazily_right op.AndThen b at h y rs e = refl
lazily_right o b at h y rs e = absurd (where_not b e)

-- ---- the jump

pub jumps : (w : Who) (b : Bool) (target : ℕ) (s : LocalState) (rs : List Answer) → truth_of (top s.stack) ≡ b
    → effect w (jump_where b target) s rs ≡ Gives (record { at = target; slots = s.slots; stack = below s.stack }) rs
jumps w true target s rs x = ap (λ z. (if z then jump_to target s (below s.stack) else continue_with s (below s.stack)) rs) x
jumps w false target s rs x = ap (λ z. (if z then continue_with s (below s.stack) else jump_to target s (below s.stack)) rs) x

pub jumps_not : (w : Who) (b : Bool) (target : ℕ) (s : LocalState) (rs : List Answer) → truth_of (top s.stack) ≡ not b
    → effect w (jump_where b target) s rs ≡ Gives (record { at = s.at + 1; slots = s.slots; stack = below s.stack }) rs
jumps_not w true target s rs x = ap (λ z. (if z then jump_to target s (below s.stack) else continue_with s (below s.stack)) rs) x
jumps_not w false target s rs x = ap (λ z. (if z then continue_with s (below s.stack) else jump_to target s (below s.stack)) rs) x
