use Rattle.std.proofs.Common.{◌≡◌, ◌⊎◌, inl, inr, ℤ, pos, nat_abs, List, [], ◌∷◌, refl, sym, ◌∙◌, ap, subst, arith}
use Rattle.ti_base.specs.declared.entry.Answer.{Answer}
use Rattle.ti_base.specs.declared.value.Value.TheVariants as v
use Rattle.ti_lang.specs.Meaning.Comp.{Gives}
use Rattle.ti_lang.specs.Meaning.Held.{Plain, whole_of}
use Rattle.ti_code.specs.Effects.{LocalState, Who, top}
use Rattle.ti_code.specs.Leading.{next_effect, ExecutesTo}
use Rattle.ti_code.specs.Leading as code
use Rattle.ti_lower_expr.specs.Doing.{who_in}
use Rattle.ti_rows.specs.Refuted.Codes.{pushes, start}
use Rattle.ti_rows.proofs.refutations_of_walks.pushes.Goals as goal

pub returns-clause-the_number : goal.returns-clause-the_number
returns-clause-the_number c = λ env rs. (_, code.on refl code.here, refl)

-- behind the instruction
abbrev done : LocalState
done = record { at = 1; slots = []; stack = Plain (v.Int (pos 8)) ∷ [] }

same_spot : (s t : LocalState) (rs ls : List Answer) → Gives s rs ≡ Gives t ls → s ≡ t
same_spot s t rs ls e = cc

-- the one instruction leads nowhere else
leads : (w : Who) (s u : LocalState) (rs left : List Answer) → ExecutesTo w (pushes 8) s rs u left → (s ≡ start) ⊎ (s ≡ done) → (u ≡ start) ⊎ (u ≡ done)
leads w s u rs left code.here k = k
leads w s u rs left (code.on {t = t} {rest = rest} e more) (inl k) =
    leads w t u rest left more (inr (sym (same_spot done t rs rest (subst (λ x. next_effect w (pushes 8) x rs ≡ Gives t rest) k e))))
leads w s u rs left (code.on {t = t} {rest = rest} e more) (inr k) =
    leads w t u rest left more (inr (sym (same_spot done t rs rest (subst (λ x. next_effect w (pushes 8) x rs ≡ Gives t rest) k e))))

-- the number on top of the operands
abbrev on_top : LocalState → ℤ
on_top s = whole_of (top s.stack)

no_seven : (u : LocalState) → u ≡ record { at = 1; slots = []; stack = Plain (v.Int (pos 7)) ∷ [] } → (u ≡ start) ⊎ (u ≡ done) → ⊥
no_seven u e (inl k) =
    let n : 0 ≡ 7 = ap (λ (s : LocalState). nat_abs (on_top s)) (sym k ∙ e) in
    omega (arith, n)
no_seven u e (inr k) =
    let n : 8 ≡ 7 = ap (λ (s : LocalState). nat_abs (on_top s)) (sym k ∙ e) in
    omega (arith, n)

pub returns-clause-another_number : goal.returns-clause-another_number
returns-clause-another_number c = λ env f.
    let w = f [] in
    no_seven w.0 w.2 (leads (who_in env) start w.0 [] [] w.1 (inl refl))
