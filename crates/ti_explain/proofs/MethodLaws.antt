-- Lemmas on what the search has found in the methods of a program.
use Rattle.std.proofs.Common.{◌≡◌, inl, inr, Bool, true, false, Bor, ℕ, ◌+◌, ◌<◌, zero-lt-suc, List, [], ◌∷◌, ◌++◌, length, slice_get, flat_map, Contains, Option, Some, None, Result, Ok, Err, IfOk, refl, ap, sym, ◌∙◌, subst, arith}
use Rattle.std.proofs.lemmas.List.Elements.{Contains-append_left, Contains-append_right, Contains-append_cases, Contains-push_cases}
use Rattle.std.proofs.lemmas.Bool.{cases_order}
use Rattle.std.proofs.lemmas.Option.{slice_get-get_or, get_or_from_slice_get, slice_get_within, same_Some}
use Rattle.std.specs.declared.vec.Vec.{Vec}
use Rattle.std.specs.declared.alloc.Global.{Global}
use Rattle.ti_base.specs.declared.memory.Memory.{Memory}
use Rattle.ti_syntax.specs.declared.tree.text.Tree.{Tree}
use Rattle.ti_syntax.specs.Trees.Text.{tree_of}
use Rattle.ti_lang.specs.Program.Classes.{NumberedMethod, ProgramView}
use Rattle.ti_rules.specs.declared.refusal.Refusal.{Refusal}
use Rattle.ti_rules.specs.Refusals.{IsFirstRefusal}
use Rattle.ti_rules.specs.Mirrors.First.{earliest}
use Rattle.ti_rules.specs.SingleRules.{standing_single_refusals, single_refusals}
use Rattle.ti_rules.specs.TypeRules.{class_refusals, method_refusals, type_refusals}
use Rattle.ti_rules.specs.Broken.Statements.{standing_refusals}
use Rattle.ti_rules.specs.StmtInContext.{StmtInContext, standing_in_method}
use Rattle.ti_rules.proofs.Lemmas.{first_only, not_among}
use Rattle.ti_explain.specs.declared.reason.RefusalReason.{RefusalReason}
use Rattle.ti_explain.specs.declared.search.SoughtRefusal.{SoughtRefusal}
use Rattle.ti_explain.specs.SingleReasons.{single_head_refusals, AreSingleReasons}
use Rattle.ti_explain.specs.SingleReasons as single
use Rattle.ti_explain.specs.TypeReasons.{type_head_refusals, word_reasons, AreTypeReasons}
use Rattle.ti_explain.specs.MisplacedWords.{defect_in_classes}
use Rattle.ti_explain.specs.TypeReasons as types
use Rattle.ti_explain.specs.Mirrors.Found.{own_refusals, refusals_of_head, IsFound, IsFoundInHead, IsFoundInMethod, IsFoundAt, IsFoundAmong}

-- ---- lists of lists

nothing_in : {A : Type 0} (x : A) → Contains [] x → ⊥
nothing_in x among = omega (arith, among.1)

pub contains_flat : {A B : Type 0} (f : A → List B) (xs : List A) (x : A) (y : B) → Contains xs x → Contains (f x) y → Contains (flat_map f xs) y
contains_flat f [] x y among own = absurd (nothing_in x among)
contains_flat f (z ∷ xs) x y among own =
    elim (Contains-append_cases (z ∷ []) xs x among) [
      | inl here ↦ elim (Contains-push_cases [] z x here) [
        | inl never ↦ absurd (nothing_in x never)
        | inr is ↦ Contains-append_left (f z) (flat_map f xs) y (subst (λ u. Contains (f u) y) (sym is) own)
      ]
      | inr there ↦ Contains-append_right (f z) (flat_map f xs) y (contains_flat f xs x y there own)
    ]

first_in : {A : Type 0} (z : A) (xs : List A) → Contains (z ∷ xs) z
first_in z xs = (0, zero-lt-suc _, refl)

behind : {A B : Type 0} (f : A → List B) (z : A) (xs : List A) (y : B) → ((x : A) × Contains xs x × Contains (f x) y)
    → (x : A) × Contains (z ∷ xs) x × Contains (f x) y
behind f z xs y (x, found, own) = (x, Contains-append_right (z ∷ []) xs x found, own)

pub flat_contains : {A B : Type 0} (f : A → List B) (xs : List A) (y : B) → Contains (flat_map f xs) y → (x : A) × Contains xs x × Contains (f x) y
flat_contains f [] y among = absurd (nothing_in y among)
flat_contains f (z ∷ xs) y among =
    elim (Contains-append_cases (f z) (flat_map f xs) y among) [
      | inl here ↦ (z, first_in z xs, here)
      | inr there ↦ behind f z xs y (flat_contains f xs y there)
    ]

pub got : {A : Type 0} (xs : List A) (i : ℕ) (x : A) → slice_get xs i ≡ Some x → Contains xs x
got xs i x is = (i, slice_get_within xs i x is, get_or_from_slice_get xs i x x is)

-- ---- the first of some refusals is the first of each part that has it

pub first_of_part : ((l : List Refusal) (a : Refusal) → earliest l ≡ Some a → IsFirstRefusal (Contains l) a) → ((l : List Refusal) → earliest l ≡ None → l ≡ [])
    → (whole : Refusal → Type 0) (part : List Refusal) (r : Refusal) → IsFirstRefusal whole r → ((a : Refusal) → Contains part a → whole a) → Contains part r
    → earliest part ≡ Some r
first_of_part some none whole part r first within among = by (earliest part) refl
  where
    here : IsFirstRefusal (Contains part) r
    here = record { is_broken = among; none_before = λ other broken. first.none_before other (within other broken) }

    by : (o : Option Refusal) → earliest part ≡ o → earliest part ≡ Some r
    by None is = absurd (not_among part r (none part is) among)
    by (Some a) is = is ∙ ap Some (first_only (Contains part) a r (some part a is) here)

-- ---- in a method

pub then_site : (p : ProgramView) (r : SoughtRefusal) (m : NumberedMethod) (o : Result (Option (Vec RefusalReason Global)) Memory) → IsFoundInHead p r m None
    → IfOk o (IsFound p r (standing_in_method p m)) → IfOk o (IsFoundInMethod p r m)
then_site p r m (Ok None) head found = (head, found)
then_site p r m (Ok (Some v)) head found = inr found
then_site p r m (Err e) head found = found

pub then_at : (p : ProgramView) (r : SoughtRefusal) (i : ℕ) (m : NumberedMethod) (o : Result (Option (Vec RefusalReason Global)) Memory) → slice_get p.methods i ≡ Some m
    → IfOk o (IsFoundInMethod p r m) → IfOk o (IsFoundAt p r i)
then_at p r i m (Ok found) at is = (m, at, is)
then_at p r i m (Err e) at is = is

-- ---- in a program

-- what is searched for by the rules of single values, and by those of types
abbrev pub sought_single : Bor Tree → Refusal → SoughtRefusal
sought_single tree r = record { by_types = false; refusal = r; tree = tree }

abbrev pub sought_types : Bor Tree → Refusal → SoughtRefusal
sought_types tree r = record { by_types = true; refusal = r; tree = tree }

abbrev Some_is_first : Type 0
Some_is_first = (l : List Refusal) (a : Refusal) → earliest l ≡ Some a → IsFirstRefusal (Contains l) a

abbrev None_is_empty : Type 0
None_is_empty = (l : List Refusal) → earliest l ≡ None → l ≡ []

pub single_found : Some_is_first → (p : ProgramView) (tree : Bor Tree) (r : Refusal) (v : Vec RefusalReason Global)
    → IsFoundAmong p (sought_single tree r) (Some v) → AreSingleReasons p r v.items
single_found some p tree r v (k, (m, at, inl (refused, is))) =
    subst (AreSingleReasons p r) (sym is) (single.of_head (got p.methods k m at) (some (single_head_refusals p m) r refused).is_broken)
single_found some p tree r v (k, (m, at, inr (x, among, refused, is))) =
    subst (AreSingleReasons p r) (sym is)
    (single.of_statement (contains_flat (standing_in_method p) p.methods m x (got p.methods k m at) among) (some (standing_single_refusals p x) r refused).is_broken)

pub type_found : Some_is_first → (p : ProgramView) (tree : Bor Tree) (r : Refusal) (v : Vec RefusalReason Global)
    → IsFoundAmong p (sought_types tree r) (Some v) → AreTypeReasons (tree_of tree.now) p r v.items
type_found some p tree r v (k, (m, at, inl (refused, is))) =
    subst (AreTypeReasons (tree_of tree.now) p r) (sym is) (types.of_head (got p.methods k m at) (some (type_head_refusals m) r refused).is_broken)
type_found some p tree r v (k, (m, at, inr (x, among, refused, is))) =
    subst (AreTypeReasons (tree_of tree.now) p r) (sym is)
    (types.of_statement (contains_flat (standing_in_method p) p.methods m x (got p.methods k m at) among) (some (standing_refusals p x) r refused).is_broken)

-- the errors of a method, of its head and of its statements
abbrev in_method : Bool → ProgramView → NumberedMethod → List Refusal
in_method by p m = refusals_of_head by p m ++ flat_map (own_refusals by p) (standing_in_method p m)

-- if no method has it, none of the errors of methods is it
never_nowhere : Some_is_first → None_is_empty → (p : ProgramView) (s : SoughtRefusal) (whole : Refusal → Type 0) → IsFirstRefusal whole s.refusal
    → ((a : Refusal) → Contains (flat_map (in_method s.by_types p) p.methods) a → whole a) → IsFoundAmong p s None
    → Contains (flat_map (in_method s.by_types p) p.methods) s.refusal → ⊥
never_nowhere some none p s whole first within nowhere broken = by_method (flat_contains (in_method s.by_types p) p.methods s.refusal broken)
  where
    in_program : (m : NumberedMethod) → Contains p.methods m → (a : Refusal) → Contains (in_method s.by_types p m) a → whole a
    in_program m among a own = within a (contains_flat (in_method s.by_types p) p.methods m a among own)

    in_statement : (m : NumberedMethod) → Contains p.methods m → IsFound p s (standing_in_method p m) None
        → (x : StmtInContext) × Contains (standing_in_method p m) x × Contains (own_refusals s.by_types p x) s.refusal → ⊥
    in_statement m among body (x, stands, own) =
        body x stands (first_of_part some none whole (own_refusals s.by_types p x) s.refusal first
        (λ a other. in_program m among a (Contains-append_right (refusals_of_head s.by_types p m) (flat_map (own_refusals s.by_types p) (standing_in_method p m)) a
        (contains_flat (own_refusals s.by_types p) (standing_in_method p m) x a stands other))) own)

    in_parts : (m : NumberedMethod) → Contains p.methods m → IsFoundInMethod p s m None → Contains (in_method s.by_types p m) s.refusal → ⊥
    in_parts m among (head, body) own =
        elim (Contains-append_cases (refusals_of_head s.by_types p m) (flat_map (own_refusals s.by_types p) (standing_in_method p m)) s.refusal own) [
          | inl here ↦ head (first_of_part some none whole (refusals_of_head s.by_types p m) s.refusal first
              (λ a other. in_program m among a (Contains-append_left (refusals_of_head s.by_types p m) (flat_map (own_refusals s.by_types p) (standing_in_method p m)) a other)) here)
          | inr there ↦ in_statement m among body (flat_contains (own_refusals s.by_types p) (standing_in_method p m) s.refusal there)
        ]

    at_number : (m : NumberedMethod) (k : ℕ) (lt : k < length p.methods) → slice_get p.methods k ≡ Some m → IsFoundAt p s k None → Contains (in_method s.by_types p m) s.refusal → ⊥
    at_number m k lt is (n, here, found) own =
        in_parts m (got p.methods k m is) (subst (λ u. IsFoundInMethod p s u None) (same_Some n m (sym here ∙ is)) found) own

    by_method : (m : NumberedMethod) × Contains p.methods m × Contains (in_method s.by_types p m) s.refusal → ⊥
    by_method (m, (k, lt, is), own) = at_number m k lt (slice_get-get_or p.methods k m lt ∙ ap Some is) (nowhere k lt) own

pub single_nowhere : Some_is_first → None_is_empty → (p : ProgramView) (tree : Bor Tree) (r : Refusal) → IsFirstRefusal (Contains (single_refusals p)) r
    → IsFoundAmong p (sought_single tree r) None → ⊥
single_nowhere some none p tree r first nowhere =
    never_nowhere some none p (sought_single tree r) (Contains (single_refusals p)) first (λ a among. among) nowhere first.is_broken

-- if no method has it, the classes have
pub type_nowhere : Some_is_first → None_is_empty → (p : ProgramView) (tree : Bor Tree) (r : Refusal) → IsFirstRefusal (Contains (type_refusals p)) r
    → IsFoundAmong p (sought_types tree r) None → Contains (flat_map class_refusals p.classes) r
type_nowhere some none p tree r first nowhere =
    elim (Contains-append_cases (flat_map class_refusals p.classes) (flat_map (method_refusals p) p.methods) r first.is_broken) [
      | inl here ↦ here
      | inr there ↦ absurd (never_nowhere some none p (sought_types tree r) (Contains (type_refusals p)) first
          (λ a among. Contains-append_right (flat_map class_refusals p.classes) (flat_map (method_refusals p) p.methods) a among) nowhere there)
    ]

pub class_reasons_then : (p : ProgramView) (tree : Bor Tree) (r : Refusal) (o : Result (Vec RefusalReason Global) Memory) → Contains (flat_map class_refusals p.classes) r
    → IfOk o (λ v. v.items ≡ word_reasons r.place (defect_in_classes r.place p.classes)) → IfOk o (λ v. AreTypeReasons (tree_of tree.now) p r v.items)
class_reasons_then p tree r (Ok v) broken is = subst (AreTypeReasons (tree_of tree.now) p r) (sym is) (types.of_classes broken)
class_reasons_then p tree r (Err e) broken is = is

too_far : (k i : ℕ) → k < i + 1 → i < k → ⊥
too_far k i lt more = omega arith

-- one method more
pub one_more : (p : ProgramView) (r : SoughtRefusal) (i : ℕ) → ((k : ℕ) → k < i → IsFoundAt p r k None) → IsFoundAt p r i None → (k : ℕ) → k < i + 1 → IsFoundAt p r k None
one_more p r i before here k lt = elim (cases_order k i) [
  | inl same ↦ subst (λ n. IsFoundAt p r n None) (sym same) here
  | inr order ↦ elim order [ inl less ↦ before k less | inr more ↦ absurd (too_far k i lt more) ]
]
