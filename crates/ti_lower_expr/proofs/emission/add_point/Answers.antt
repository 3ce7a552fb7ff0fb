use Rattle.std.proofs.Common.{◌≡◌, ◌++◌, ◌∷◌, [], ℕ, ◌∙◌, subst, sym, OnOk}
use Rattle.ti_code.specs.declared.instr.Instr.TheVariants as i
use Rattle.ti_lang.proofs.Lemmas.{count_arguments}
use Rattle.ti_lower_expr.proofs.emission.add_point.Goals as goal

pub returns-clause-code : goal.returns-clause-code
returns-clause-code c =
    subst (λ (n : ℕ). OnOk c.emit.result (c.emit.new.out.items ≡ c.args.out.now.items ++ i.MakePt n ∷ [])) (c.in_ok-count.ensures.value ∙ sym (count_arguments c.args.parts.now)) c.emit.ensures.code
