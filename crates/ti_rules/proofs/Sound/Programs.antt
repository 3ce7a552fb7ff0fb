-- In a checked program no statement that stands in it breaks a rule, and a program has one first refusal or none.
use Rattle.std.proofs.Common.{◌≡◌, ℕ, zero, suc, ◌<◌, List, [], ◌∷◌, ◌++◌, length, get_or, Contains, flat_map, refl, sym, ap, ◌∙◌, arith}
use Rattle.ti_lang.specs.Program.Classes.{NumberedMethod, ProgramView}
use Rattle.ti_rules.specs.declared.refusal.Refusal.{Refusal}
use Rattle.ti_rules.specs.StmtInContext.{StmtInContext, standing_in_method, standing_in}
use Rattle.ti_rules.specs.Broken.Statements.{standing_refusals}
use Rattle.ti_rules.specs.TypeRules.{class_refusals, head_refusals, end_refusals, method_refusals}
use Rattle.ti_rules.specs.SingleRules.{standing_single_refusals, effect_refusals, result_refusals, method_single_refusals}
use Rattle.ti_rules.specs.ProgramRefusals.{BreaksNothing}
use Rattle.ti_rules.proofs.Sound.Refused.{nil_left, nil_right}

-- nothing is wrong with the elements of two lists
each_both : {A : Type 0} (f : A → List Refusal) (xs ys : List A) → flat_map f xs ≡ [] → flat_map f ys ≡ [] → flat_map f (xs ++ ys) ≡ []
each_both f [] ys e g = g
each_both f (x ∷ xs) ys e g =
    ap (λ l. l ++ flat_map f (xs ++ ys)) (nil_left (f x) (flat_map f xs) e) ∙ each_both f xs ys (nil_right (f x) (flat_map f xs) e) g

-- nor with each of them
each_one : {A : Type 0} (f : A → List Refusal) (xs : List A) (x : A) → flat_map f xs ≡ [] → Contains xs x → f x ≡ []
each_one {A} f xs x e c = by xs c.0 e c.1 c.2
  where
    by : (xs : List A) (k : ℕ) → flat_map f xs ≡ [] → k < length xs → get_or xs k x ≡ x → f x ≡ []
    by [] k e lt is = absurd (omega arith)
    by (y ∷ ys) zero e lt is = ap f (sym is) ∙ nil_left (f y) (flat_map f ys) e
    by (y ∷ ys) (suc k) e lt is = by ys k (nil_right (f y) (flat_map f ys) e) (omega arith) is

-- where nothing is wrong in the methods, nothing is with what stands in them
in_methods : (p : ProgramView) (whole : NumberedMethod → List Refusal) (f : StmtInContext → List Refusal) (head : NumberedMethod → List Refusal)
    → ((m : NumberedMethod) → whole m ≡ head m ++ flat_map f (standing_in_method p m)) → (ms : List NumberedMethod) → flat_map whole ms ≡ []
    → flat_map f (flat_map (standing_in_method p) ms) ≡ []
in_methods p whole f head is [] e = refl
in_methods p whole f head is (m ∷ rest) e =
    each_both f (standing_in_method p m) (flat_map (standing_in_method p) rest)
    (nil_right (head m) (flat_map f (standing_in_method p m)) (sym (is m) ∙ nil_left (whole m) (flat_map whole rest) e))
    (in_methods p whole f head is rest (nil_right (whole m) (flat_map whole rest) e))

pub no_type_refusal : (p : ProgramView) (x : StmtInContext) → BreaksNothing p → Contains (standing_in p) x → standing_refusals p x ≡ []
no_type_refusal p x fine stands =
    each_one (standing_refusals p) (standing_in p) x
    (in_methods p (method_refusals p) (standing_refusals p) (λ m. head_refusals m ++ end_refusals m) (λ m. refl) p.methods
    (nil_right (flat_map class_refusals p.classes) (flat_map (method_refusals p) p.methods) fine.types)) stands

pub no_single_refusal : (p : ProgramView) (x : StmtInContext) → BreaksNothing p → Contains (standing_in p) x → standing_single_refusals p x ≡ []
no_single_refusal p x fine stands =
    each_one (standing_single_refusals p) (standing_in p) x
    (in_methods p (method_single_refusals p) (standing_single_refusals p) (λ m. effect_refusals p m ++ result_refusals m.is_single m.result) (λ m. refl) p.methods fine.single) stands
