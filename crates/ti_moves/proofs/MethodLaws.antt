-- Proves facts on the methods of a program and their numbers.
use Rattle.std.proofs.Common.{◌≡◌, ◌∙◌, refl, sym, ap, ℕ, ◌<◌, ◌≤◌, ◌==◌, nat_lt, ◌&&◌, cond, Bool, true, false, List, map, length, get_or, slice_get, option_map, find, position, Some, None, arith}
use Rattle.std.specs.Prelude.{unwrap_or}
use Rattle.std.specs.List.{position_or_len}
use Rattle.std.proofs.lemmas.Bool.Decides.{nat_tests}
use Rattle.std.proofs.lemmas.List.{length-map}
use Rattle.std.proofs.lemmas.List.Folds.{find_at}
use Rattle.std.proofs.lemmas.Option.{slice_get-get_or, slice_get_past}
use Rattle.ti_lang.specs.declared.program.classes.Method.{Method}
use Rattle.ti_lang.specs.Program.Classes.{NumberedMethod}
use Rattle.ti_lang.specs.Program.Views.{numbered_method_of}
use Rattle.ti_eval.specs.Frames.{no_method}

-- the element of a number, or what stands for one that isn't there
abbrev at : {A : Type 0} → List A → A → ℕ → A
at xs d n = unwrap_or (slice_get xs n) d

there : {A : Type 0} (xs : List A) (d : A) (n : ℕ) → n < length xs → slice_get xs n ≡ Some (at xs d n)
there xs d n h =
    let g : slice_get xs n ≡ Some (get_or xs n d) = slice_get-get_or xs n d h in
    g ∙ ap (λ o. Some (unwrap_or o d)) (sym g)

-- ---- the number of a call

pub number_here : (methods : List Method) (n : ℕ) → n < length methods
    → slice_get (map numbered_method_of methods) n ≡ Some (unwrap_or (slice_get (map numbered_method_of methods) n) no_method)
number_here methods n h = there (map numbered_method_of methods) no_method n (rw (length-map methods numbered_method_of) h)

pub number_past : (methods : List Method) (n : ℕ) → length methods ≤ n → slice_get (map numbered_method_of methods) n ≡ None
number_past methods n h = slice_get_past (map numbered_method_of methods) n (rw (length-map methods numbered_method_of) h)

pub ruleset method_numbers = (number_here, number_past)

-- ---- the first method of a class and a name

found_at : {A : Type 0} (xs : List A) (d : A) (n : ℕ) (b : Bool) → nat_lt n (length xs) ≡ b → slice_get xs n ≡ option_map (at xs d) (cond b (Some n) None)
found_at xs d n true e = there xs d n (grind (arith, nat_tests))
found_at xs d n false e = slice_get_past xs n (grind (arith, nat_tests))

-- the first one that passes is that of its number
first_at : {A : Type 0} (p : A → Bool) (xs : List A) (d : A) → find p xs ≡ option_map (at xs d) (position p xs)
first_at p xs d = find_at p xs ∙ found_at xs d (position_or_len p xs) (nat_lt (position_or_len p xs) (length xs)) refl

pub named_at : (methods : List NumberedMethod) (class name : ℕ)
    → find (λ (m : NumberedMethod). (m.class == class) && (m.name == name)) methods
    ≡ option_map (λ n. unwrap_or (slice_get methods n) no_method) (position (λ (m : NumberedMethod). (m.class == class) && (m.name == name)) methods)
named_at methods class name = first_at (λ (m : NumberedMethod). (m.class == class) && (m.name == name)) methods no_method
