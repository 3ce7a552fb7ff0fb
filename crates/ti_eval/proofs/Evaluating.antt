-- Proves that the evaluation of expressions, and of lists of them, agrees with the semantics.
use Rattle.std.proofs.Common.{◌≡◌, ◌∙◌, refl, sym, ap, subst, ℕ, ◌+◌, ◌<◌, ◌≤◌, ℤ, List, [], ◌∷◌, ◌++◌, map, drop, drop-cons, drop_of_length-le, add-one, length, get_or, append_assoc}
use Rattle.ti_base.specs.declared.entry.Answer.{Answer}
use Rattle.ti_lang.specs.declared.program.exprs.Expr.{Expr}
use Rattle.ti_lang.specs.declared.program.exprs.Range.{Range}
use Rattle.ti_lang.specs.Program.Expressions.{NumberedExp, NumberedExps, NoExp, MoreExp, NumberedRange, NumberedRanges, NoRange, MoreRange, numbered_exps, numbered_ranges}
use Rattle.ti_lang.specs.Program.Views.{expression_of, bound_of}
use Rattle.ti_lang.specs.Meaning.Held.{Held}
use Rattle.ti_lang.specs.Meaning.Comp.{Comp, CompResult, Gives, Asks, Fails, bind_result, gives, ◌>>=◌}
use Rattle.ti_lang.specs.Meaning.Literals.{Bounds, append_bounds, no_bounds, numbers_in}
use Rattle.ti_lang.specs.Meaning.Scoping.{Env}
use Rattle.ti_lang.specs.Meaning.Evaluation.{eval, eval_all, eval_numbers, eval_range, eval_ranges}
use Rattle.ti_lang.proofs.Lemmas.{program_bridges}
use Rattle.ti_eval.specs.declared.interrupt.Interrupt.{Interrupt}
use Rattle.ti_eval.specs.Comes.{Stops}
use Rattle.ti_eval.proofs.Steps.{then_stops}

pub ruleset evaluating = (then_stops, program_bridges)

-- ---- results that are collected one by one

-- what is found already, before the rest
abbrev pub behind : {M : Type 0} → (M → M → M) → M → CompResult M → CompResult M
behind op found got = bind_result got (λ ms. gives (op found ms))

regroup : {M : Type 0} (op : M → M → M) → ((x y z : M) → op (op x y) z ≡ op x (op y z)) → (found one : M) (g : CompResult M) → behind op found (behind op one g) ≡ behind op (op found one) g
regroup op assoc found one (Gives ms rest) = ap (λ z. Gives z rest) (sym (assoc found one ms))
regroup op assoc found one (Asks q) = refl
regroup op assoc found one (Fails kind at) = refl

collects : {A M : Type 0} (op : M → M → M) → ((x y z : M) → op (op x y) z ≡ op x (op y z)) → (m : CompResult A) (f : A → M) (more : Comp M) (found : M) (a : A) (rest : List Answer) → m ≡ Gives a rest
    → behind op found (bind_result m (λ a. more >>= λ ms. gives (op (f a) ms))) ≡ behind op (op found (f a)) (more rest)
collects op assoc m f more found a rest e = rw e (regroup op assoc found (f a) (more rest))

assoc_list : {A : Type 0} (x y z : List A) → (x ++ y) ++ z ≡ x ++ (y ++ z)
assoc_list x y z = append_assoc x y z

-- ---- lists of expressions

pub exps_at : (xs : List Expr) (i : ℕ) (d : Expr) → i < length xs → numbered_exps (map expression_of (drop i xs))
    ≡ MoreExp (expression_of (get_or xs i d)) (numbered_exps (map expression_of (drop (i + 1) xs)))
exps_at xs i d h = ap (λ ys. numbered_exps (map expression_of ys)) (drop-cons xs i d h) ∙ rw add-one refl

pub no_exps : (xs : List Expr) (i : ℕ) → length xs ≤ i → numbered_exps (map expression_of (drop i xs)) ≡ NoExp
no_exps xs i h = ap (λ ys. numbered_exps (map expression_of ys)) (drop_of_length-le xs h)

-- numbers

none_numbers : (g : CompResult (List ℤ)) → behind ◌++◌ [] g ≡ g
none_numbers (Gives ms rest) = refl
none_numbers (Asks q) = refl
none_numbers (Fails kind at) = refl

pub first_numbers : (E : Env) (xs : NumberedExps) (answers : List Answer) → behind ◌++◌ [] (eval_numbers E xs answers) ≡ eval_numbers E xs answers
first_numbers E xs answers = none_numbers (eval_numbers E xs answers)

pub more_numbers : (E : Env) (x : NumberedExp) (xs : NumberedExps) (found : List ℤ) (h : Held) (answers rest : List Answer) → eval E x answers ≡ Gives h rest
    → behind ◌++◌ found (eval_numbers E (MoreExp x xs) answers) ≡ behind ◌++◌ (found ++ numbers_in h) (eval_numbers E xs rest)
more_numbers E x xs found h answers rest e = collects {M = List ℤ} ◌++◌ (assoc_list {A = ℤ}) (eval E x answers) numbers_in (eval_numbers E xs) found h rest e

pub numbers_stop : (s : Interrupt) (E : Env) (x : NumberedExp) (xs : NumberedExps) (found : List ℤ) (answers : List Answer)
    → Stops s (eval E x answers) → Stops s (behind ◌++◌ found (eval_numbers E (MoreExp x xs) answers))
numbers_stop s E x xs found answers h = then_stops s (eval_numbers E (MoreExp x xs) answers) _ (then_stops s (eval E x answers) _ h)

-- values

none_values : (g : CompResult (List Held)) → behind ◌++◌ [] g ≡ g
none_values (Gives ms rest) = refl
none_values (Asks q) = refl
none_values (Fails kind at) = refl

pub first_values : (E : Env) (xs : NumberedExps) (answers : List Answer) → behind ◌++◌ [] (eval_all E xs answers) ≡ eval_all E xs answers
first_values E xs answers = none_values (eval_all E xs answers)

pub more_values : (E : Env) (x : NumberedExp) (xs : NumberedExps) (found : List Held) (h : Held) (answers rest : List Answer) → eval E x answers ≡ Gives h rest
    → behind ◌++◌ found (eval_all E (MoreExp x xs) answers) ≡ behind ◌++◌ (found ++ h ∷ []) (eval_all E xs rest)
more_values E x xs found h answers rest e = collects {M = List Held} ◌++◌ (assoc_list {A = Held}) (eval E x answers) (λ k. k ∷ []) (eval_all E xs) found h rest e

pub values_stop : (s : Interrupt) (E : Env) (x : NumberedExp) (xs : NumberedExps) (found : List Held) (answers : List Answer)
    → Stops s (eval E x answers) → Stops s (behind ◌++◌ found (eval_all E (MoreExp x xs) answers))
values_stop s E x xs found answers h = then_stops s (eval_all E (MoreExp x xs) answers) _ (then_stops s (eval E x answers) _ h)

-- ---- lists of ranges

pub ranges_at : (rs : List Range) (i : ℕ) (d : Range) → i < length rs → numbered_ranges (map bound_of (drop i rs))
    ≡ MoreRange (bound_of (get_or rs i d)) (numbered_ranges (map bound_of (drop (i + 1) rs)))
ranges_at rs i d h = ap (λ ys. numbered_ranges (map bound_of ys)) (drop-cons rs i d h) ∙ rw add-one refl

pub no_ranges : (rs : List Range) (i : ℕ) → length rs ≤ i → numbered_ranges (map bound_of (drop i rs)) ≡ NoRange
no_ranges rs i h = ap (λ ys. numbered_ranges (map bound_of ys)) (drop_of_length-le rs h)

regroup_bounds : (x y z : Bounds) → append_bounds (append_bounds x y) z ≡ append_bounds x (append_bounds y z)
regroup_bounds x y z = simp append_assoc

none_bounds : (g : CompResult (Bounds)) → behind append_bounds no_bounds g ≡ g
none_bounds (Gives ms rest) = refl
none_bounds (Asks q) = refl
none_bounds (Fails kind at) = refl

pub first_bounds : (E : Env) (rs : NumberedRanges) (answers : List Answer) → behind append_bounds no_bounds (eval_ranges E rs answers) ≡ eval_ranges E rs answers
first_bounds E rs answers = none_bounds (eval_ranges E rs answers)

pub more_bounds : (E : Env) (r : NumberedRange) (rs : NumberedRanges) (found b : Bounds) (answers rest : List Answer) → eval_range E r answers ≡ Gives b rest
    → behind append_bounds found (eval_ranges E (MoreRange r rs) answers) ≡ behind append_bounds (append_bounds found b) (eval_ranges E rs rest)
more_bounds E r rs found b answers rest e = collects append_bounds regroup_bounds (eval_range E r answers) (λ c. c) (eval_ranges E rs) found b rest e

pub bounds_stop : (s : Interrupt) (E : Env) (r : NumberedRange) (rs : NumberedRanges) (found : Bounds) (answers : List Answer)
    → Stops s (eval_range E r answers) → Stops s (behind append_bounds found (eval_ranges E (MoreRange r rs) answers))
bounds_stop s E r rs found answers h = then_stops s (eval_ranges E (MoreRange r rs) answers) _ (then_stops s (eval_range E r answers) _ h)

-- ---- turns of the loops over them

pub all_stop : (s : Interrupt) (E : Env) (xs : List Expr) (i : ℕ) (d : Expr) (found : List Held) (left answers : List Answer) → i < length xs
    → behind ◌++◌ found (eval_all E (numbered_exps (map expression_of (drop i xs))) left) ≡ eval_all E (numbered_exps (map expression_of xs)) answers
    → Stops s (eval E (expression_of (get_or xs i d)) left) → Stops s (eval_all E (numbered_exps (map expression_of xs)) answers)
all_stop s E xs i d found left answers h inv st =
    subst (λ (g : CompResult (List Held)). Stops s g) inv
    (subst (λ (ys : NumberedExps). Stops s (behind ◌++◌ found (eval_all E ys left))) (sym (exps_at xs i d h))
    (values_stop s E (expression_of (get_or xs i d)) (numbered_exps (map expression_of (drop (i + 1) xs))) found left st))

pub all_next : (E : Env) (xs : List Expr) (i : ℕ) (d : Expr) (found : List Held) (h : Held) (left rest answers : List Answer) → i < length xs
    → behind ◌++◌ found (eval_all E (numbered_exps (map expression_of (drop i xs))) left) ≡ eval_all E (numbered_exps (map expression_of xs)) answers
    → eval E (expression_of (get_or xs i d)) left ≡ Gives h rest
    → behind ◌++◌ (found ++ h ∷ []) (eval_all E (numbered_exps (map expression_of (drop (i + 1) xs))) rest) ≡ eval_all E (numbered_exps (map expression_of xs)) answers
all_next E xs i d found h left rest answers l inv e =
    sym (more_values E (expression_of (get_or xs i d)) (numbered_exps (map expression_of (drop (i + 1) xs))) found h left rest e)
    ∙ ap (λ (ys : NumberedExps). behind ◌++◌ found (eval_all E ys left)) (sym (exps_at xs i d l)) ∙ inv

pub numbers_stopped : (s : Interrupt) (E : Env) (xs : List Expr) (i : ℕ) (d : Expr) (found : List ℤ) (left answers : List Answer) → i < length xs
    → behind ◌++◌ found (eval_numbers E (numbered_exps (map expression_of (drop i xs))) left) ≡ eval_numbers E (numbered_exps (map expression_of xs)) answers
    → Stops s (eval E (expression_of (get_or xs i d)) left) → Stops s (eval_numbers E (numbered_exps (map expression_of xs)) answers)
numbers_stopped s E xs i d found left answers h inv st =
    subst (λ (g : CompResult (List ℤ)). Stops s g) inv
    (subst (λ (ys : NumberedExps). Stops s (behind ◌++◌ found (eval_numbers E ys left))) (sym (exps_at xs i d h))
    (numbers_stop s E (expression_of (get_or xs i d)) (numbered_exps (map expression_of (drop (i + 1) xs))) found left st))

pub numbers_next : (E : Env) (xs : List Expr) (i : ℕ) (d : Expr) (found : List ℤ) (h : Held) (left rest answers : List Answer) → i < length xs
    → behind ◌++◌ found (eval_numbers E (numbered_exps (map expression_of (drop i xs))) left) ≡ eval_numbers E (numbered_exps (map expression_of xs)) answers
    → eval E (expression_of (get_or xs i d)) left ≡ Gives h rest
    → behind ◌++◌ (found ++ numbers_in h) (eval_numbers E (numbered_exps (map expression_of (drop (i + 1) xs))) rest) ≡ eval_numbers E (numbered_exps (map expression_of xs)) answers
numbers_next E xs i d found h left rest answers l inv e =
    sym (more_numbers E (expression_of (get_or xs i d)) (numbered_exps (map expression_of (drop (i + 1) xs))) found h left rest e)
    ∙ ap (λ (ys : NumberedExps). behind ◌++◌ found (eval_numbers E ys left)) (sym (exps_at xs i d l)) ∙ inv

pub bounds_stopped : (s : Interrupt) (E : Env) (rs : List Range) (i : ℕ) (d : Range) (found : Bounds) (left answers : List Answer) → i < length rs
    → behind append_bounds found (eval_ranges E (numbered_ranges (map bound_of (drop i rs))) left) ≡ eval_ranges E (numbered_ranges (map bound_of rs)) answers
    → Stops s (eval_range E (bound_of (get_or rs i d)) left) → Stops s (eval_ranges E (numbered_ranges (map bound_of rs)) answers)
bounds_stopped s E rs i d found left answers h inv st =
    subst (λ (g : CompResult Bounds). Stops s g) inv
    (subst (λ (ys : NumberedRanges). Stops s (behind append_bounds found (eval_ranges E ys left))) (sym (ranges_at rs i d h))
    (bounds_stop s E (bound_of (get_or rs i d)) (numbered_ranges (map bound_of (drop (i + 1) rs))) found left st))

pub bounds_next : (E : Env) (rs : List Range) (i : ℕ) (d : Range) (found b : Bounds) (left rest answers : List Answer) → i < length rs
    → behind append_bounds found (eval_ranges E (numbered_ranges (map bound_of (drop i rs))) left) ≡ eval_ranges E (numbered_ranges (map bound_of rs)) answers
    → eval_range E (bound_of (get_or rs i d)) left ≡ Gives b rest
    → behind append_bounds (append_bounds found b) (eval_ranges E (numbered_ranges (map bound_of (drop (i + 1) rs))) rest) ≡ eval_ranges E (numbered_ranges (map bound_of rs)) answers
bounds_next E rs i d found b left rest answers l inv e =
    sym (more_bounds E (bound_of (get_or rs i d)) (numbered_ranges (map bound_of (drop (i + 1) rs))) found b left rest e)
    ∙ ap (λ (ys : NumberedRanges). behind append_bounds found (eval_ranges E ys left)) (sym (ranges_at rs i d l)) ∙ inv
