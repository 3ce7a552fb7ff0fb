-- The first errors of a method are proved to be those of its head and its body.
use Rattle.std.proofs.Common.{◌≡◌, List, ◌++◌, flat_map, Option, sym, ap, ◌∙◌}
use Rattle.ti_lang.specs.Program.Classes.{NumberedMethod, ProgramView}
use Rattle.ti_rules.specs.declared.refusal.Refusal.{Refusal}
use Rattle.ti_rules.specs.Mirrors.First.{earlier_of, earliest}
use Rattle.ti_rules.specs.StmtInContext.{standing_in_method}
use Rattle.ti_rules.specs.TypeRules.{class_refusals, head_refusals, end_refusals, method_refusals, type_refusals}
use Rattle.ti_rules.specs.Broken.Statements.{standing_refusals}
use Rattle.ti_rules.specs.SingleRules.{effect_refusals, result_refusals, standing_single_refusals, method_single_refusals}
use Rattle.ti_rules.proofs.Lemmas.{first_append}
use Rattle.ti_check.specs.declared.reports.Refusals.{Refusals}
use Rattle.ti_check.specs.Mirrors.Refusals.{AreFirstRefusals, AreStmtRefusals}

three : (xs ys zs : List Refusal) (a b c own r : Option Refusal) → a ≡ earliest xs → b ≡ earliest ys → own ≡ earlier_of a b → c ≡ earliest zs → r ≡ earlier_of own c → r ≡ earliest ((xs ++ ys) ++ zs)
three xs ys zs a b c own r is_a is_b is_own is_c is =
    is ∙ ap (λ z. earlier_of z c) (is_own ∙ ap (λ z. earlier_of z b) is_a ∙ ap (earlier_of (earliest xs)) is_b ∙ sym (first_append xs ys))
    ∙ ap (earlier_of (earliest (xs ++ ys))) is_c ∙ sym (first_append (xs ++ ys) zs)

pub method_found : (p : ProgramView) (m : NumberedMethod) (head end effects words : Option Refusal) (own body f : Refusals) → head
    ≡ earliest (head_refusals m) → end ≡ earliest (end_refusals m) → own.types ≡ earlier_of head end
    → effects ≡ earliest (effect_refusals p m) → words ≡ earliest (result_refusals m.is_single m.result) → own.single ≡ earlier_of effects words → AreStmtRefusals p (standing_in_method p m) body
    → f.types ≡ earlier_of own.types body.types → f.single ≡ earlier_of own.single body.single → AreFirstRefusals (method_refusals p m) (method_single_refusals p m) f
method_found p m head end effects words own body f is_head is_end own_types is_effects is_words own_single is_body types single = (
  three (head_refusals m) (end_refusals m) (flat_map (standing_refusals p) (standing_in_method p m)) head end body.types own.types f.types is_head is_end own_types is_body.0 types,
  three (effect_refusals p m) (result_refusals m.is_single m.result)
      (flat_map (standing_single_refusals p) (standing_in_method p m)) effects words body.single own.single f.single is_effects is_words
      own_single is_body.1 single,
)

-- ---- programs

-- what counts of the rules of types
pub types_are : (p : ProgramView) (c t : Option Refusal) (f : Refusals) → c ≡ earliest (flat_map class_refusals p.classes)
    → AreFirstRefusals (flat_map (method_refusals p) p.methods) (flat_map (method_single_refusals p) p.methods) f → t ≡ earlier_of c f.types → t ≡ earliest (type_refusals p)
types_are p c t f is_c is_f is =
    is ∙ ap (λ z. earlier_of z f.types) is_c ∙ ap (earlier_of (earliest (flat_map class_refusals p.classes))) is_f.0
    ∙ sym (first_append (flat_map class_refusals p.classes) (flat_map (method_refusals p) p.methods))
