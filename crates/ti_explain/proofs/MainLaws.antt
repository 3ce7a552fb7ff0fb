-- A refusal by the rule of `main` has a reason.
use Rattle.std.proofs.Common.{◌≡◌, inl, inr, ℕ, zero, suc, ◌+◌, ◌<◌, ◌≤◌, ◌==◌, Bool, true, false, cond, not, ◌&&◌, if◌then◌else◌, List, [], ◌∷◌, ◌++◌, length, Contains, Option, Some, None, option_map, option_and_then, slice_get, find, position, bytes_eq, codes, refl, ap, sym, ◌∙◌, subst, arith, true≢false, zero-lt-suc, eq-eqb, ne_eqb, ltb-false, nat_lt, is_some}
use Rattle.std.specs.List.{position_or_len}
use Rattle.std.specs.Option.{option_or, option_map_or}
use Rattle.std.proofs.lemmas.List.Elements.{Contains-append_right, Contains-append_cases, Contains-push_cases}
use Rattle.std.proofs.lemmas.List.Folds.{find_at, find-append}
use Rattle.std.proofs.lemmas.List.Quantifiers.{position-Some}
use Rattle.std.proofs.lemmas.Option.{same_Some}
use Rattle.ti_base.specs.declared.place.Place.{Place}
use Rattle.ti_base.specs.Places.{same_place, place_after}
use Rattle.ti_syntax.specs.Trees.Classes.{ParamsTree, MainArgs, Params, MethodTree, MemberTree, FieldMember, MethodMember, ClassTree, TextTree}
use Rattle.ti_lang.specs.MainForm.{is_public, is_void, is_words, has_main_form}
use Rattle.ti_lang.specs.Members.{OwnMethod, methods_in, methods_from, methods_of, method_named, is_static, is_single}
use Rattle.ti_rules.specs.declared.rule.Rule.{Rule}
use Rattle.ti_rules.specs.declared.rule.Rule.TheVariants.{N3}
use Rattle.ti_rules.specs.declared.refusal.Refusal.{Refusal}
use Rattle.ti_rules.specs.Refusals.{refused_if}
use Rattle.ti_rules.specs.MainForm.{is_another, main_class, main_method, form_refusals, words_refusals, main_refusals}
use Rattle.ti_explain.specs.declared.name_reason.MainDefect.TheVariants as defect
use Rattle.ti_explain.specs.declared.name_reason.NameReason.{NameReason}
use Rattle.ti_explain.specs.declared.name_reason.NameReason.TheVariants as why
use Rattle.ti_explain.specs.declared.reason.RefusalReason.{RefusalReason}
use Rattle.ti_explain.specs.NameReasons.{name_reason, reason_if, first_nonempty}
use Rattle.ti_explain.specs.MainReasons.{defect_if, form_defects, main_among, method_defects, class_defects, first_main, parameter_defect, parameters_among, parameters_in, main_reasons}

-- ---- lists

pub nothing_in : {A : Type 0} (x : A) → Contains [] x → ⊥
nothing_in x among = omega (arith, among.1)

-- there is an element
abbrev pub HasSome : List RefusalReason → Type 0
HasSome l = l ≡ [] → ⊥

never_nil : (r : RefusalReason) (rest : List RefusalReason) → HasSome (r ∷ rest)
never_nil r rest is = omega (arith, ap length is)

pub some_first : (xs ys : List RefusalReason) → HasSome xs → HasSome (xs ++ ys)
some_first [] ys has is = has refl
some_first (x ∷ xs) ys has is = never_nil x (xs ++ ys) is

pub some_second : (xs ys : List RefusalReason) → HasSome ys → HasSome (xs ++ ys)
some_second [] ys has is = has is
some_second (x ∷ xs) ys has is = never_nil x (xs ++ ys) is

pub some_either : (xs ys : List RefusalReason) → HasSome ys → HasSome (first_nonempty xs ys)
some_either [] ys has is = has is
some_either (x ∷ xs) ys has is = never_nil x xs is

pub some_chosen : (xs ys : List RefusalReason) → HasSome xs → HasSome (first_nonempty xs ys)
some_chosen [] ys has is = has refl
some_chosen (x ∷ xs) ys has is = never_nil x xs is

-- ---- one refusal

pub of_refused : (b : Bool) (rule : Rule) (at : Place) (r : Refusal) → Contains (refused_if b rule at) r → (b ≡ true) × (record { rule = rule; place = at } ≡ r)
of_refused false rule at r among = absurd (nothing_in r among)
of_refused true rule at r among =
    elim (Contains-push_cases [] (record { rule = rule; place = at }) r among) [
      | inl never ↦ absurd (nothing_in r never)
      | inr is ↦ (refl, is)
    ]

-- ---- lookup

pub same_self : (p : Place) → same_place p p ≡ true
same_self p = (λ j. eq-eqb p.line p.line refl j && (p.col == p.col)) ∙ eq-eqb p.col p.col refl

some_if : (b : Bool) (at : Place) (what : NameReason) → b ≡ true → HasSome (reason_if b at what)
some_if b at what is = subst (λ z. HasSome (reason_if z at what)) (sym is) (never_nil (name_reason at what) [])

beyond : {X : Type 0} (xs : List X) (i : ℕ) → length xs ≤ i → slice_get xs i ≡ None
beyond [] i le = refl
beyond (x ∷ xs) zero le = absurd (omega arith)
beyond (x ∷ xs) (suc i) le = beyond xs i (omega arith)

is_there : {X : Type 0} (xs : List X) (i : ℕ) → i < length xs → slice_get xs i ≡ None → ⊥
is_there [] i lt none = omega arith
is_there (x ∷ xs) zero lt none = absurd (some_not_none x none)
  where
    some_not_none : {X : Type 0} (x : X) → Some x ≡ None → ⊥
    some_not_none x is = true≢false (ap is_some is)
is_there (x ∷ xs) (suc i) lt none = is_there xs i (omega arith) none

-- the first that passes is that at the position
find_position : {X : Type 0} (p : X → Bool) (xs : List X) → find p xs ≡ option_and_then (slice_get xs) (position p xs)
find_position p xs = find_at p xs ∙ by (nat_lt (position_or_len p xs) (length xs)) refl
  where
    by : (b : Bool) → nat_lt (position_or_len p xs) (length xs) ≡ b
        → slice_get xs (position_or_len p xs) ≡ option_and_then (slice_get xs) (cond b (Some (position_or_len p xs)) None)
    by true is = refl
    by false is = beyond xs (position_or_len p xs) (ltb-false (position_or_len p xs) (length xs) is)

abbrev owned : ℕ → MethodTree → OwnMethod
owned class m = record { class = class; method = m }

abbrev is_main : ℕ → OwnMethod → Bool
is_main class own = (own.class == class) && bytes_eq (codes "main") own.method.name

-- `main` among the methods of class k
in_class : (k class : ℕ) (members : List MemberTree)
    → find (is_main class) (methods_in k members) ≡ (if k == class then option_map (owned k) (main_among members) else None)
in_class k class [] = by (k == class)
  where
    by : (b : Bool) → None ≡ (if b then option_map (owned k) None else None)
    by true = refl
    by false = refl
in_class k class (FieldMember f ∷ rest) = in_class k class rest
in_class k class (MethodMember m ∷ rest) = by (k == class) (bytes_eq (codes "main") m.name) (in_class k class rest)
  where
    by : (b t : Bool) → find (is_main class) (methods_in k rest) ≡ (if b then option_map (owned k) (main_among rest) else None)
        → cond (b && t) (Some (owned k m)) (find (is_main class) (methods_in k rest))
        ≡ (if b then option_map (owned k) (if t then Some m else main_among rest) else None)
    by true true ih = refl
    by true false ih = ih
    by false t ih = ih

-- another class has none
in_other : (k class : ℕ) (members : List MemberTree) → (k ≡ class → ⊥) → find (is_main class) (methods_in k members) ≡ None
in_other k class members ne = in_class k class members ∙ ap (λ b. if b then option_map (owned k) (main_among members) else None) (ne_eqb k class ne)

later : (k class : ℕ) (cs : List ClassTree) → class < k → find (is_main class) (methods_from k cs) ≡ None
later k class [] lt = refl
later k class (c ∷ rest) lt =
    find-append (is_main class) (methods_in k c.members) (methods_from (k + 1) rest)
    ∙ ap (λ o. option_or o (find (is_main class) (methods_from (k + 1) rest))) (in_other k class c.members (λ is. omega (arith, is)))
    ∙ later (k + 1) class rest (omega arith)

or_none : {X : Type 0} (o : Option X) → option_or o None ≡ o
or_none None = refl
or_none (Some x) = refl

here : (k j class : ℕ) (cs : List ClassTree) (c : ClassTree) → class ≡ k + j → slice_get cs j ≡ Some c
    → find (is_main class) (methods_from k cs) ≡ option_map (owned class) (main_among c.members)
here k j class [] c is at = absurd (true≢false (sym (ap is_some at)))
here k zero class (d ∷ rest) c is at =
    let same : k ≡ class = omega (arith, is) in
    find-append (is_main class) (methods_in k d.members) (methods_from (k + 1) rest)
    ∙ ap (λ o. option_or o (find (is_main class) (methods_from (k + 1) rest)))
    (in_class k class d.members ∙ ap (λ b. if b then option_map (owned k) (main_among d.members) else None) (eq-eqb k class same))
    ∙ ap (option_or (option_map (owned k) (main_among d.members))) (later (k + 1) class rest (omega (arith, is)))
    ∙ or_none (option_map (owned k) (main_among d.members)) ∙ ap (λ n. option_map (owned n) (main_among d.members)) same
    ∙ ap (λ (x : ClassTree). option_map (owned class) (main_among x.members)) (same_Some d c at)
here k (suc j) class (d ∷ rest) c is at =
    find-append (is_main class) (methods_in k d.members) (methods_from (k + 1) rest)
    ∙ ap (λ o. option_or o (find (is_main class) (methods_from (k + 1) rest))) (in_other k class d.members (λ same. omega (arith, is, same)))
    ∙ here (k + 1) j class rest c (omega (arith, is)) at

-- ---- the form of `main`

-- one of the six conditions fails
defects_of : (a s g l v w : Bool) (at : Place) → not (((l && a) && (s && g)) && (v && w)) ≡ true
    → HasSome (((((defect_if (not a) at defect.NotPublic ++ defect_if (not s) at defect.NotStatic) ++ defect_if (not g) at defect.NotSingle)
    ++ defect_if ((a && (s && g)) && not l) at defect.OtherModifiers) ++ defect_if (not v) at defect.HasResult) ++ defect_if (not w) at defect.OtherParameters)
defects_of false s g l v w at is nil = never_nil _ _ nil
defects_of true false g l v w at is nil = never_nil _ _ nil
defects_of true true false l v w at is nil = never_nil _ _ nil
defects_of true true true false v w at is nil = never_nil _ _ nil
defects_of true true true true false w at is nil = never_nil _ _ nil
defects_of true true true true true false at is nil = never_nil _ _ nil
defects_of true true true true true true at is nil = true≢false (sym is)

form_some : (m : MethodTree) → not (has_main_form m) ≡ true → HasSome (form_defects m)
form_some m is = defects_of (is_public m.modifiers) (is_static m) (is_single m.modifiers) (length m.modifiers == 3) (is_void m.result) (is_words m.params) m.place is

-- the defects of the method at its own position
method_some : (p : Place) (c : ClassTree) (m : MethodTree) → m.place ≡ p → not (has_main_form m) ≡ true → HasSome (method_defects p c (Some m))
method_some p c m at is =
    subst (λ b. HasSome (if b then form_defects m else [])) (sym (ap (same_place p) at ∙ same_self p)) (form_some m is)

mapped_none : {X Y : Type 0} (f : X → Y) (o : Option X) → option_map f o ≡ None → o ≡ None
mapped_none f None is = refl
mapped_none f (Some x) is = absurd (true≢false (ap is_some is))

form_has : (text : TextTree) (r : Refusal) → Contains (form_refusals text (main_class text) (main_method text)) r → HasSome (class_defects r.place (first_main text))
form_has text r among =
    subst (λ o. HasSome (class_defects r.place o)) (sym (find_position (λ (c : ClassTree). bytes_eq (codes "Main") c.name) text)) (by (main_class text) refl among)
  where
    by : (mc : Option ℕ) → main_class text ≡ mc → Contains (form_refusals text mc (option_and_then (λ class. method_named text class (codes "main")) mc)) r
        → HasSome (class_defects r.place (option_and_then (slice_get text) mc))
    by None is among =
        let at = (of_refused true N3 (place_after []) r among).1 in
        some_if (same_place r.place (place_after [])) r.place (why.Main defect.NoClass)
        (ap (same_place r.place) (ap (λ (x : Refusal). x.place) at) ∙ same_self r.place)
    by (Some class) is among = within (slice_get text class) refl (method_named text class (codes "main")) refl among
      where
        within : (oc : Option ClassTree) → slice_get text class ≡ oc → (om : Option ℕ) → method_named text class (codes "main") ≡ om
            → Contains (form_refusals text (Some class) om) r → HasSome (class_defects r.place oc)
        within None e om e' among =
            absurd (is_there text class (position-Some (λ (c : ClassTree). bytes_eq (codes "Main") c.name) text class (record { modifiers = []; word = r.place; place = r.place; name = []; members = [] }) is).0 e)
        within (Some c) e None e' among =
            let at = (of_refused true N3 c.place r (subst (λ (o : Option ClassTree). Contains (option_map_or (λ (x : ClassTree). refused_if true N3 x.place) o []) r) e among)).1 in
            let none : main_among c.members ≡ None = mapped_none (owned class) (main_among c.members)
            (sym (here 0 class class text c (omega arith) e) ∙ find_position (is_main class) (methods_of text) ∙ ap (option_and_then (slice_get (methods_of text))) e') in
            subst (λ o. HasSome (method_defects r.place c o)) (sym none)
            (some_if (same_place r.place c.place) r.place (why.Main defect.NoMethod) (ap (same_place r.place) (ap (λ (x : Refusal). x.place) at) ∙ same_self r.place))
        within (Some c) e (Some n) e' among =
            found (slice_get (methods_of text) n) refl (main_among c.members) refl among
          where
            found : (oo : Option OwnMethod) → slice_get (methods_of text) n ≡ oo → (om : Option MethodTree) → main_among c.members ≡ om
                → Contains (form_refusals text (Some class) (Some n)) r → HasSome (method_defects r.place c (main_among c.members))
            found None g om f among =
                absurd (nothing_in r (subst (λ (o : Option OwnMethod). Contains (option_map_or (λ (own : OwnMethod). refused_if (not (has_main_form own.method)) N3 own.method.place) o []) r) g among))
            found (Some own) g om f among =
                let parts = of_refused (not (has_main_form own.method)) N3 own.method.place r
                (subst (λ (o : Option OwnMethod). Contains (option_map_or (λ (own : OwnMethod). refused_if (not (has_main_form own.method)) N3 own.method.place) o []) r) g among) in
                let same : option_map (owned class) (main_among c.members) ≡ Some own =
                sym (here 0 class class text c (omega arith) e) ∙ find_position (is_main class) (methods_of text)
                ∙ ap (option_and_then (slice_get (methods_of text))) e' ∙ g in
                which (main_among c.members) own same parts.0 (ap (λ (x : Refusal). x.place) parts.1)
              where
                which : (om : Option MethodTree) (own : OwnMethod) → option_map (owned class) om ≡ Some own → not (has_main_form own.method) ≡ true
                    → own.method.place ≡ r.place → HasSome (method_defects r.place c om)
                which None own same bad at = absurd (true≢false (sym (ap is_some same)))
                which (Some m) own same bad at =
                    let is_own : m ≡ own.method = ap (λ (x : OwnMethod). x.method) (same_Some (owned class m) own same) in
                    method_some r.place c m (ap (λ (x : MethodTree). x.place) is_own ∙ at) (ap (λ (x : MethodTree). not (has_main_form x)) is_own ∙ bad)

-- ---- the parameter elsewhere

params_some : (here : Bool) (params : ParamsTree) → here ≡ true → is_words params ≡ true → HasSome (parameter_defect here params)
params_some here (MainArgs at name) is words = some_if here at (why.Main defect.TextParameter) is
params_some here (Params params) is words = absurd (true≢false (sym words))

among_some : (p : Place) (k : ℕ) (members : List MemberTree) (own : OwnMethod) → Contains (methods_in k members) own → is_words own.method.params ≡ true
    → own.method.place ≡ p → HasSome (parameters_among p members)
among_some p k [] own among words at = absurd (nothing_in own among)
among_some p k (FieldMember f ∷ rest) own among words at = among_some p k rest own among words at
among_some p k (MethodMember m ∷ rest) own among words at =
    elim (Contains-append_cases (owned k m ∷ []) (methods_in k rest) own among) [
      | inl first ↦ elim (Contains-push_cases [] (owned k m) own first) [
        | inl never ↦ absurd (nothing_in own never)
        | inr is ↦
            let same : m ≡ own.method = ap (λ (x : OwnMethod). x.method) is in
            some_first (parameter_defect (same_place p m.place) m.params) (parameters_among p rest)
            (params_some (same_place p m.place) m.params (ap (same_place p) (ap (λ (x : MethodTree). x.place) same ∙ at) ∙ same_self p)
            (ap (λ (x : MethodTree). is_words x.params) same ∙ words))
      ]
      | inr behind ↦ some_second (parameter_defect (same_place p m.place) m.params) (parameters_among p rest) (among_some p k rest own behind words at)
    ]

in_some : (p : Place) (k : ℕ) (cs : List ClassTree) (own : OwnMethod) → Contains (methods_from k cs) own → is_words own.method.params ≡ true
    → own.method.place ≡ p → HasSome (parameters_in p cs)
in_some p k [] own among words at = absurd (nothing_in own among)
in_some p k (c ∷ rest) own among words at =
    elim (Contains-append_cases (methods_in k c.members) (methods_from (k + 1) rest) own among) [
      | inl first ↦ some_first (parameters_among p c.members) (parameters_in p rest) (among_some p k c.members own first words at)
      | inr behind ↦ some_second (parameters_among p c.members) (parameters_in p rest) (in_some p (k + 1) rest own behind words at)
    ]

both_true : (a b : Bool) → a && b ≡ true → a ≡ true
both_true true b is = refl
both_true false b is = is

words_own : (main : Option ℕ) (n : ℕ) (ms : List OwnMethod) (r : Refusal) → Contains (words_refusals main n ms) r
    → (own : OwnMethod) × Contains ms own × (is_words own.method.params ≡ true) × (own.method.place ≡ r.place)
words_own main n [] r among = absurd (nothing_in r among)
words_own main n (own ∷ rest) r among =
    elim (Contains-append_cases (refused_if (is_words own.method.params && is_another main n) N3 own.method.place) (words_refusals main (n + 1) rest) r among) [
      | inl first ↦
          let parts = of_refused (is_words own.method.params && is_another main n) N3 own.method.place r first in
          (own, (0, zero-lt-suc _, refl), both_true (is_words own.method.params) (is_another main n) parts.0, ap (λ (x : Refusal). x.place) parts.1)
      | inr behind ↦ further (words_own main (n + 1) rest r behind)
    ]
  where
    further : (x : OwnMethod) × Contains rest x × (is_words x.method.params ≡ true) × (x.method.place ≡ r.place)
        → (x : OwnMethod) × Contains (own ∷ rest) x × (is_words x.method.params ≡ true) × (x.method.place ≡ r.place)
    further (x, there, words, at) = (x, Contains-append_right (own ∷ []) rest x there, words, at)

-- ---- a refusal by the rule of `main`

pub main_some : (text : TextTree) (r : Refusal) → Contains (main_refusals text) r → HasSome (main_reasons text r.place)
main_some text r among =
    elim (Contains-append_cases (form_refusals text (main_class text) (main_method text)) (words_refusals (main_method text) 0 (methods_of text)) r among) [
      | inl form ↦ some_chosen (class_defects r.place (first_main text)) (parameters_in r.place text) (form_has text r form)
      | inr words ↦ by (words_own (main_method text) 0 (methods_of text) r words)
    ]
  where
    by : (own : OwnMethod) × Contains (methods_of text) own × (is_words own.method.params ≡ true) × (own.method.place ≡ r.place) → HasSome (main_reasons text r.place)
    by (own, there, words, at) = some_either (class_defects r.place (first_main text)) (parameters_in r.place text) (in_some r.place 0 text own there words at)
