-- Every expression looks at its answers one after the other: it comes to the same whatever stands behind those that it uses, and what
-- it asked last is used before it gives a value.
use Rattle.std.proofs.Common.{◌≡◌, inl, inr, List, [], ◌∷◌, ◌++◌, Option, Some, None, refl, ap, sym, ◌∙◌}
use Rattle.ti_base.specs.declared.place.Place.{Place}
use Rattle.ti_base.specs.declared.fault.FaultKind.{FaultKind}
use Rattle.ti_base.specs.declared.entry.Answer.{Answer}
use Rattle.ti_lang.specs.Program.Expressions.{NumberedExp, NumberedExps, NumberedRange, NumberedRanges}
use Rattle.ti_lang.specs.Program.Expressions as e
use Rattle.ti_lang.specs.Program.Scope.{this_of}
use Rattle.ti_lang.specs.Typing.Called.{member_called}
use Rattle.ti_lang.specs.Typing.Kinds.{is_point_type}
use Rattle.ti_lang.specs.Meaning.Held.{Held, Plain}
use Rattle.ti_base.specs.declared.value.Value.TheVariants as v
use Rattle.ti_lang.specs.Meaning.Comp.{Request, Gives, Asks, Fails, Comp, ◌>>=◌, bind_result, gives}
use Rattle.ti_lang.specs.Meaning.Operators.{apply_binary, short_circuit}
use Rattle.ti_lang.specs.Meaning.Scoping.{Env, type_of}
use Rattle.ti_lang.specs.Meaning.CellRefs.{Field}
use Rattle.ti_lang.specs.Meaning.Evaluation.{eval, eval_all, eval_numbers, eval_range, eval_ranges, unless_settled}
use Rattle.ti_lang.proofs.MeaningLaws.Silent.{Silent, silent_guarded, operated_silent, converted_silent, kept_silent, gives_same, rest_same, fails_gives, asks_gives, asks_fails}
use Rattle.ti_lang.proofs.MeaningLaws.Short.{Short, fetched_short, indexed_short, member_short}

-- It gives a value or a fault at once and uses no answer, or it asks for an action, and behind each answer to that it is such a
-- computation again.
pub data Computes {A : Type 0} : Comp A → Type 0 where
  value : {m : Comp A} (a : A) → ((rs : List Answer) → m rs ≡ Gives a rs) → Computes m
  fault : {m : Comp A} (kind : FaultKind) (at : Place) → ((rs : List Answer) → m rs ≡ Fails kind at) → Computes m
  asks : {m : Comp A} (q : Request) → m [] ≡ Asks q → ((r : Answer) → Computes (λ rs. m (r ∷ rs))) → Computes m

-- where it has used all its answers it gives the same if there are more
pub extended : {A : Type 0} (m : Comp A) → Computes m → (rs : List Answer) (a : A) → m rs ≡ Gives a [] → (more : List Answer) → m (rs ++ more) ≡ Gives a more
extended m (value b e) rs a z more =
    let none : rs ≡ [] = rest_same b a rs [] (sym (e rs) ∙ z) in
    let same : b ≡ a = gives_same b a rs [] (sym (e rs) ∙ z) in
    e (rs ++ more) ∙ (ap (λ l. Gives b (l ++ more)) none ∙ ap (λ x. Gives x more) same)
extended m (fault kind at e) rs a z more = absurd (fails_gives a [] kind at (sym (e rs) ∙ z))
extended m (asks q e f) [] a z more = absurd (asks_gives a [] q (sym e ∙ z))
extended m (asks q e f) (r ∷ rs) a z more = extended (λ ss. m (r ∷ ss)) (f r) rs a z more

-- on no answers none are left
pub none_left : {A : Type 0} (m : Comp A) → Computes m → (a : A) (rest : List Answer) → m [] ≡ Gives a rest → rest ≡ []
none_left m (value b e) a rest z = sym (rest_same b a [] rest (sym (e []) ∙ z))
none_left m (fault kind at e) a rest z = absurd (fails_gives a rest kind at (sym (e []) ∙ z))
none_left m (asks q e f) a rest z = absurd (asks_gives a rest q (sym e ∙ z))

-- the answer to what was asked last is used
pub used_up : {A : Type 0} (m : Comp A) → Computes m → (rs : List Answer) (q : Request) → m rs ≡ Asks q → (r : Answer) (a : A) (rest : List Answer) → m (rs ++ r ∷ []) ≡ Gives a rest → rest ≡ []
used_up m (value b e) rs q z r a rest y = absurd (asks_gives b rs q (sym z ∙ e rs))
used_up m (fault kind at e) rs q z r a rest y = absurd (asks_fails kind at q (sym z ∙ e rs))
used_up m (asks p e f) [] q z r a rest y = none_left (λ ss. m (r ∷ ss)) (f r) a rest y
used_up m (asks p e f) (s ∷ rs) q z r a rest y = used_up (λ ss. m (s ∷ ss)) (f s) rs q z r a rest y

-- ---- how they are put together

same_computes : {A : Type 0} (m n : Comp A) → ((rs : List Answer) → m rs ≡ n rs) → Computes m → Computes n
same_computes m n k (value a e) = value a (λ rs. sym (k rs) ∙ e rs)
same_computes m n k (fault kind at e) = fault kind at (λ rs. sym (k rs) ∙ e rs)
same_computes m n k (asks q e f) = asks q (sym (k []) ∙ e) (λ r. same_computes (λ rs. m (r ∷ rs)) (λ rs. n (r ∷ rs)) (λ rs. k (r ∷ rs)) (f r))

pub computes_then : {A B : Type 0} (m : Comp A) (k : A → Comp B) → Computes m → ((a : A) → Computes (k a)) → Computes (m >>= k)
computes_then m k (value a e) f = same_computes (k a) (m >>= k) (λ rs. sym (ap (λ g. bind_result g k) (e rs))) (f a)
computes_then m k (fault kind at e) f = fault kind at (λ rs. ap (λ g. bind_result g k) (e rs))
computes_then m k (asks q e g) f = asks q (ap (λ g. bind_result g k) e) (λ r. computes_then (λ rs. m (r ∷ rs)) k (g r) f)

pub computes_value : {A : Type 0} (a : A) → Computes (gives a)
computes_value a = value a (λ rs. refl)

pub computes_silent : {A : Type 0} (m : Comp A) → Silent m → Computes m
computes_silent m (inl x) = value x.0 x.1
computes_silent m (inr x) = fault x.0 x.1 x.2

pub computes_short : {A : Type 0} (m : Comp A) → Short m → Computes m
computes_short m (inl x) = computes_silent m x
computes_short m (inr x) = asks x.0 x.2 (λ r. value (x.1 r) (x.3 r))

-- ---- expressions

right_computes : (o : Option Held) (m : Comp Held) → Computes m → Computes (unless_settled o m)
right_computes (Some h) m c = computes_value h
right_computes None m c = c

module _ (env : Env) where
  mutual
    pub eval_computes : (x : NumberedExp) → Computes (eval env x)
    eval_computes (e.OwnField at field) = computes_short _ (fetched_short at (type_of env (e.OwnField at field)) (Field (Plain (v.Obj env.this)) (type_of env (e.This at)) field))
    eval_computes (e.Point at parts) = computes_then _ _ (numbers_compute parts) (λ ns. computes_value _)
    eval_computes (e.Rect at ranges) = computes_then _ _ (ranges_compute ranges) (λ bounds. computes_silent _ (silent_guarded _ _ at _))
    eval_computes (e.Unary at o x) = computes_then _ _ (eval_computes x) (λ h. computes_value _)
    eval_computes (e.Binary at o x y) =
        computes_then _ _ (eval_computes x)
        (λ h. right_computes (short_circuit o h) (eval env y >>= λ k. apply_binary at o h k) (computes_then _ _ (eval_computes y) (λ k. computes_silent _ (operated_silent at o h k))))
    eval_computes (e.Cast at to x) =
        computes_then _ _ (eval_computes x) (λ h. computes_then _ _ (computes_silent _ (converted_silent at to.type h)) (λ k. computes_silent _ (kept_silent env.number at to.type k)))
    eval_computes (e.Select at x name) = computes_then _ _ (eval_computes x) (λ h. computes_short _ (fetched_short at _ (Field h _ _)))
    eval_computes (e.Member at x name args) =
        computes_then _ _ (eval_computes x)
        (λ h. computes_then _ _ (all_compute args) (λ hs. computes_short _ (member_short at _ (member_called env.program (this_of env.method) x name) _ h hs)))
    eval_computes (e.Index at x parts) =
        computes_then _ _ (eval_computes x) (λ h. computes_then _ _ (numbers_compute parts) (λ ns. computes_short _ (indexed_short (is_point_type (type_of env x)) at _ _ h ns)))
    eval_computes x = computes_value _

    pub all_compute : (xs : NumberedExps) → Computes (eval_all env xs)
    all_compute e.NoExp = computes_value _
    all_compute (e.MoreExp x xs) = computes_then _ _ (eval_computes x) (λ h. computes_then _ _ (all_compute xs) (λ hs. computes_value _))

    pub numbers_compute : (xs : NumberedExps) → Computes (eval_numbers env xs)
    numbers_compute e.NoExp = computes_value _
    numbers_compute (e.MoreExp x xs) = computes_then _ _ (eval_computes x) (λ h. computes_then _ _ (numbers_compute xs) (λ ns. computes_value _))

    pub range_computes : (r : NumberedRange) → Computes (eval_range env r)
    range_computes (e.Plain low high) = computes_then _ _ (eval_computes low) (λ a. computes_then _ _ (eval_computes high) (λ b. computes_value _))
    range_computes (e.Stepped low high step) =
        computes_then _ _ (eval_computes low) (λ a. computes_then _ _ (eval_computes high) (λ b. computes_then _ _ (eval_computes step) (λ c. computes_value _)))

    pub ranges_compute : (rs : NumberedRanges) → Computes (eval_ranges env rs)
    ranges_compute e.NoRange = computes_value _
    ranges_compute (e.MoreRange r rs) = computes_then _ _ (range_computes r) (λ a. computes_then _ _ (ranges_compute rs) (λ b. computes_value _))
