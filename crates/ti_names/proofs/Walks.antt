-- Lemmas on one more iteration over a list.
use Rattle.std.proofs.Common.{◌≡◌, ℕ, suc, ◌+◌, ◌<◌, List, [], ◌∷◌, ◌++◌, map, drop, length, get_or, Option, None, refl, ap, sym, ◌∙◌, add-one}
use Rattle.std.proofs.Math.Seq.{drop-cons}
use Rattle.ti_base.specs.declared.place.Place.{Place}
use Rattle.ti_syntax.specs.declared.tree.classes.Field.{Field}
use Rattle.ti_syntax.specs.declared.tree.classes.Method.{Method}
use Rattle.ti_syntax.specs.declared.tree.classes.Member.{Member}
use Rattle.ti_syntax.specs.declared.tree.classes.Member.TheVariants as m
use Rattle.ti_syntax.specs.Trees.Views.{member_of, field_of}
use Rattle.ti_syntax.specs.Trees.Expressions.{Exp, exps}
use Rattle.ti_syntax.specs.Trees.Expressions as t
use Rattle.ti_lang.specs.Program.Expressions.{NumberedExp, numbered_exps}
use Rattle.ti_lang.specs.Program.Expressions as n
use Rattle.ti_lang.specs.Members.{name_number, fields_in}
use Rattle.ti_lang.specs.Scopes.{Site, class_before_dot}
use Rattle.ti_names.specs.Mirrors.Numbered.{number_exp, number_exps, member_call}
use Rattle.ti_names.proofs.Lists.{number_exps_list}

-- ---- lists

pub drop_next : {A : Type 0} (xs : List A) (i : ℕ) (x : A) → i < length xs → x ≡ get_or xs i x → drop i xs ≡ x ∷ drop (i + 1) xs
drop_next xs i x lt is = drop-cons xs i x lt ∙ ap (λ y. y ∷ drop (suc i) xs) (sym is) ∙ ap (λ j. x ∷ drop j xs) (sym (add-one i))

-- a list that is seen, with one element more
pub map_push : {A B : Type 0} (view : A → B) (old new : List A) (a : A) (b : B) (rest : List B) → new ≡ old ++ a ∷ [] → view a ≡ b → map view new ++ rest ≡ map view old ++ (b ∷ rest)
map_push {A = A} view old new a b rest is seen = ap (λ l. map view l ++ rest) is ∙ pushed old ∙ ap (λ c. map view old ++ (c ∷ rest)) seen
  where
    pushed : (xs : List A) → map view (xs ++ a ∷ []) ++ rest ≡ map view xs ++ (view a ∷ rest)
    pushed [] = refl
    pushed (x ∷ xs) = ap (λ ys. view x ∷ ys) (pushed xs)

-- ---- calls behind a dot

pub number_member : (site : Site) (at : Place) (x : Exp) (name : List ℕ) (args : List Exp) (x' : NumberedExp) (number : ℕ) (args' : List NumberedExp) → class_before_dot site x ≡ None
    → x' ≡ number_exp site x → number ≡ name_number site.text name → args' ≡ map (number_exp site) args
    → n.Member at x' number (numbered_exps args') ≡ number_exp site (t.member at x name args)
number_member site at x name args x' number args' e is_x is_name are_args =
    ap (λ z. n.Member at z number (numbered_exps args')) is_x ∙ ap (λ z. n.Member at (number_exp site x) z (numbered_exps args')) is_name
    ∙ ap (λ z. n.Member at (number_exp site x) (name_number site.text name) z) (ap numbered_exps are_args ∙ sym (number_exps_list site args))
    ∙ sym (ap (λ (o : Option ℕ). member_call site at o (number_exp site x) name (number_exps site (exps args))) e)

-- ---- members

pub fields_with_field : (members : List Member) (i : ℕ) (x : Member) (f : Field) → i < length members → x ≡ get_or members i x → x ≡ m.Field f
    → fields_in (map member_of (drop i members)) ≡ field_of f ∷ fields_in (map member_of (drop (i + 1) members))
fields_with_field members i x f lt at is =
    ap (λ l. fields_in (map member_of l)) (drop_next members i x lt at) ∙ ap (λ y. fields_in (member_of y ∷ map member_of (drop (i + 1) members))) is

pub fields_with_method : (members : List Member) (i : ℕ) (x : Member) (g : Method) → i < length members → x ≡ get_or members i x → x ≡ m.Method g
    → fields_in (map member_of (drop i members)) ≡ fields_in (map member_of (drop (i + 1) members))
fields_with_method members i x g lt at is =
    ap (λ l. fields_in (map member_of l)) (drop_next members i x lt at) ∙ ap (λ y. fields_in (member_of y ∷ map member_of (drop (i + 1) members))) is
