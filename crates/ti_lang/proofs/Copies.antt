-- A program whose parts are copied one by one is equal to the original: lists with equal elements have equal views.
use Rattle.std.proofs.Common.{◌≡◌, ℕ, ◌+◌, ◌<◌, List, [], ◌∷◌, ◌++◌, length, map, take, get_or, Result, Ok, Err, refl, sym, ap, subst, ◌∙◌}
use Rattle.std.specs.Prelude.{IfOk}
use Rattle.std.proofs.lemmas.List.{take_more}
use Rattle.ti_syntax.specs.declared.tree.types.Brackets.{Brackets}
use Rattle.ti_syntax.specs.Trees.Views.{grid_of}
use Rattle.ti_lang.specs.declared.program.classes.Field.{Field}
use Rattle.ti_lang.specs.declared.program.classes.Class.{Class}
use Rattle.ti_lang.specs.declared.program.classes.Param.{Param}
use Rattle.ti_lang.specs.declared.program.classes.Method.{Method}
use Rattle.ti_lang.specs.declared.program.classes.ProgramData.{ProgramData}
use Rattle.ti_lang.specs.Program.Classes.{ProgramView}
use Rattle.ti_lang.specs.Program.Views as view
use Rattle.ti_lang.specs.Mirrors.Copies.{AreSame}

-- one more element, and the same one
same_more : {A : Type 0} (same : A → A → Type 0) (xs ys : List A) (x y : A) → AreSame same xs ys → same x y → AreSame same (xs ++ x ∷ []) (ys ++ y ∷ [])
same_more same [] [] x y rest first = (first, tt)
same_more same [] (b ∷ ys) x y rest first = absurd rest
same_more same (a ∷ xs) [] x y rest first = absurd rest
same_more same (a ∷ xs) (b ∷ ys) x y rest first = (rest.0, same_more same xs ys x y rest.1 first)

-- a turn that copies element i
pub same_next : {A : Type 0} (same : A → A → Type 0) (found new xs : List A) (i : ℕ) (x y : A) → AreSame same found (take i xs) → i < length xs → y ≡ get_or xs i y → same x y → new ≡ found ++ x ∷ []
    → AreSame same new (take (i + 1) xs)
same_next {A = A} same found new xs i x y so within at first is =
    let more = take_more xs i y within ∙ ap (λ z. take i xs ++ z ∷ []) (sym at) in
    subst (λ (l : List A). AreSame same new l) (sym more) (subst (λ (l : List A). AreSame same l (take i xs ++ y ∷ [])) (sym is) (same_more same found (take i xs) x y so first))

-- what is seen of the elements is the same
maps_same : {A B : Type 0} (seen : A → B) (xs ys : List A) → AreSame (λ a b. seen a ≡ seen b) xs ys → map seen xs ≡ map seen ys
maps_same seen [] [] same = refl
maps_same seen [] (y ∷ ys) same = absurd same
maps_same seen (x ∷ xs) [] same = absurd same
maps_same seen (x ∷ xs) (y ∷ ys) same = ap (λ b. b ∷ map seen xs) same.0 ∙ ap (λ rest. seen y ∷ rest) (maps_same seen xs ys same.1)

pub same_grids : (xs ys : List Brackets) → AreSame (λ a b. grid_of a ≡ grid_of b) xs ys → map grid_of xs ≡ map grid_of ys
same_grids = maps_same grid_of

pub same_fields : (xs ys : List Field) → AreSame (λ a b. view.numbered_field_of a ≡ view.numbered_field_of b) xs ys → map view.numbered_field_of xs ≡ map view.numbered_field_of ys
same_fields = maps_same view.numbered_field_of

pub same_classes : (xs ys : List Class) → AreSame (λ a b. view.numbered_class_of a ≡ view.numbered_class_of b) xs ys → map view.numbered_class_of xs ≡ map view.numbered_class_of ys
same_classes = maps_same view.numbered_class_of

pub same_params : (xs ys : List Param) → AreSame (λ a b. view.numbered_param_of a ≡ view.numbered_param_of b) xs ys → map view.numbered_param_of xs ≡ map view.numbered_param_of ys
same_params = maps_same view.numbered_param_of

pub same_methods : (xs ys : List Method) → AreSame (λ a b. view.numbered_method_of a ≡ view.numbered_method_of b) xs ys → map view.numbered_method_of xs ≡ map view.numbered_method_of ys
same_methods = maps_same view.numbered_method_of

-- equal elements make equal lists
pub same_texts : (xs ys : List (List ℕ)) → AreSame (λ a b. a ≡ b) xs ys → xs ≡ ys
same_texts [] [] same = refl
same_texts [] (y ∷ ys) same = absurd same
same_texts (x ∷ xs) [] same = absurd same
same_texts (x ∷ xs) (y ∷ ys) same = ap (λ b. b ∷ xs) same.0 ∙ ap (λ rest. y ∷ rest) (same_texts xs ys same.1)

-- what a value has that gives another property has that one
pub had : {A E : Type 0} (r : Result A E) (P Q : A → Type 0) → ((a : A) → P a → Q a) → IfOk r P → IfOk r Q
had (Ok a) P Q more holds = more a holds
had (Err e) P Q more holds = holds

-- a program whose lists are those of the parts, as slices of them
pub same_parts : (p : ProgramView) (b : ProgramData) (cs classes : List Class) (ms methods : List Method) (ns names ls literals : List (List ℕ))
    → p ≡ record { classes = map view.numbered_class_of cs; methods = map view.numbered_method_of ms; main = b.main; names = ns; literals = ls }
    → classes ≡ b.classes.items → methods ≡ b.methods.items → names ≡ b.names.items → literals ≡ b.literals.items
    → AreSame (λ x y. view.numbered_class_of x ≡ view.numbered_class_of y) cs classes → AreSame (λ x y. view.numbered_method_of x ≡ view.numbered_method_of y) ms methods
    → AreSame (λ x y. x ≡ y) ns names → AreSame (λ x y. x ≡ y) ls literals → p ≡ view.program_of b
same_parts p b cs classes ms methods ns names ls literals is ca me na li one two three four =
    let c : map view.numbered_class_of cs ≡ map view.numbered_class_of b.classes.items = same_classes cs classes one ∙ ap (map view.numbered_class_of) ca in
    let m : map view.numbered_method_of ms ≡ map view.numbered_method_of b.methods.items = same_methods ms methods two ∙ ap (map view.numbered_method_of) me in
    let n : ns ≡ b.names.items = same_texts ns names three ∙ na in
    let l : ls ≡ b.literals.items = same_texts ls literals four ∙ li in
    is ∙ (λ j. record { classes = c j; methods = m j; main = b.main; names = n j; literals = l j })

pub ruleset copies = (same_grids, same_fields, same_classes, same_params, same_methods, same_texts)
