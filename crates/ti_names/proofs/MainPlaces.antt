-- Lemmas on the broken rules on `main`, by the entries of the lists of classes and methods.
use Rattle.std.proofs.Common.{◌≡◌, ℕ, zero, suc, ◌<◌, ◌≤◌, true, not, List, [], ◌∷◌, map, length, get_or, Option, Some, None, slice_get, refl, ap, sym, ◌∙◌, arith}
use Rattle.std.specs.Option.{option_map_or}
use Rattle.ti_syntax.specs.declared.tree.classes.Class.{Class}
use Rattle.ti_syntax.specs.Trees.Classes.{ClassTree, TextTree}
use Rattle.ti_syntax.specs.Trees.Views.{class_of}
use Rattle.ti_lang.specs.Members.{OwnMethod, methods_of}
use Rattle.ti_rules.specs.declared.rule.Rule.TheVariants.{N3}
use Rattle.ti_rules.specs.declared.refusal.Refusal.{Refusal}
use Rattle.ti_rules.specs.Refusals.{refused_if}
use Rattle.ti_lang.specs.MainForm.{has_main_form}
use Rattle.ti_rules.specs.MainForm.{form_refusals}
use Rattle.ti_names.specs.declared.method_decls.MethodDecl.{MethodDecl}
use Rattle.ti_names.specs.MethodDecl.{method_decl_of}

seen_within : {A B : Type 0} (view : A → B) (xs : List A) (i : ℕ) (x : A) → i < length xs → x ≡ get_or xs i x → slice_get (map view xs) i ≡ Some (view x)
seen_within view [] i x lt is = absurd (omega arith)
seen_within view (y ∷ ys) zero x lt is = ap (λ z. Some (view z)) (sym is)
seen_within view (y ∷ ys) (suc i) x lt is = seen_within view ys i x (omega arith) is

seen_beyond : {A B : Type 0} (view : A → B) (xs : List A) (i : ℕ) → length xs ≤ i → slice_get (map view xs) i ≡ None
seen_beyond view [] i le = refl
seen_beyond view (y ∷ ys) zero le = absurd (omega arith)
seen_beyond view (y ∷ ys) (suc i) le = seen_beyond view ys i (omega arith)

abbrev of_form : Option OwnMethod → List Refusal
of_form o = option_map_or (λ (own : OwnMethod). refused_if (not (has_main_form own.method)) N3 own.method.place) o []

pub form_within : (text : TextTree) (class n : ℕ) (ms : List MethodDecl) (own : MethodDecl) → map method_decl_of ms ≡ methods_of text → n < length ms → own ≡ get_or ms n own
    → form_refusals text (Some class) (Some n) ≡ refused_if (not (has_main_form (method_decl_of own).method)) N3 (method_decl_of own).method.place
form_within text class n ms own are lt is = ap (λ l. of_form (slice_get l n)) (sym are) ∙ ap of_form (seen_within method_decl_of ms n own lt is)

pub form_beyond : (text : TextTree) (class n : ℕ) (ms : List MethodDecl) → map method_decl_of ms ≡ methods_of text → length ms ≤ n → form_refusals text (Some class) (Some n) ≡ []
form_beyond text class n ms are le = ap (λ l. of_form (slice_get l n)) (sym are) ∙ ap of_form (seen_beyond method_decl_of ms n le)

pub class_beyond : (classes : List Class) (class : ℕ) → length classes ≤ class → form_refusals (map class_of classes) (Some class) None ≡ []
class_beyond classes class le = ap (λ (o : Option ClassTree). option_map_or (λ (c : ClassTree). refused_if true N3 c.place) o []) (seen_beyond class_of classes class le)
