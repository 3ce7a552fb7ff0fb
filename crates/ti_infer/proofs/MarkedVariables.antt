-- A table of numbers decides which variables are annotated, and a method whose parts are marked is marked.
use mathlib.Core.Path.{fun_ext}
use Rattle.std.proofs.Common.{◌≡◌, ℕ, zero, suc, Bool, false, ◌||◌, if◌then◌else◌, List, [], ◌∷◌, ◌++◌, map, get_or, Option, refl, ap, ap₂, ◌∙◌}
use Rattle.std.specs.Option.{option_map_or}
use Rattle.ti_base.specs.declared.place.Place.{Place}
use Rattle.ti_syntax.specs.declared.tree.classes.Modifier.{Modifier}
use Rattle.ti_syntax.specs.declared.tree.classes.ModifierWord.TheVariants as word
use Rattle.ti_lang.specs.Program.Statements.{NumberedStm}
use Rattle.ti_lang.specs.Program.Classes.{NumberedParams, NumberedResult, NumberedMethod}
use Rattle.ti_blame.specs.Marks.{Marks}
use Rattle.ti_infer.specs.Marks.{marks_variable}
use Rattle.ti_infer.specs.Marked.{marked_stm, marked_params, marked_result, marked_method}
use Rattle.ti_infer.specs.Mirrors.Places.{listed_place}

table_told : (declared : Place → Bool) (places : List (Option Place)) (n : ℕ)
    → get_or (map (λ place. option_map_or declared place false) places) n false ≡ option_map_or declared (listed_place places n) false
table_told declared [] n = refl
table_told declared (p ∷ ps) zero = refl
table_told declared (p ∷ ps) (suc n) = table_told declared ps n

pub marks_told : (declared : Place → Bool) (places : List (Option Place)) (singles : List Bool)
    → singles ≡ map (λ place. option_map_or declared place false) places
    → (found : ℕ → Option Place) → ((n : ℕ) → listed_place places n ≡ found n) → (n : ℕ) → get_or singles n false ≡ option_map_or declared
    (found n) false
marks_told declared places singles is found so n =
    ap (λ (bs : List Bool). get_or bs n false) is ∙ table_told declared places n
    ∙ ap (λ (o : Option Place). option_map_or declared o false) (so n)

-- where two tables tell the same, bodies are marked alike
bodies_alike : (f g : ℕ → Bool) (declared : Place → Bool) (xs : List NumberedStm) → ((n : ℕ) → f n ≡ g n)
    → map (marked_stm f declared) xs ≡ map (marked_stm g declared) xs
bodies_alike f g declared xs h = ap (λ (singles : ℕ → Bool). map (marked_stm singles declared) xs) (fun_ext h)

-- a method whose parts are marked is the marked one
pub method_told : (marks : Marks) (m : NumberedMethod) (b e d : Bool) (words : List Modifier) (result : NumberedResult) (params : NumberedParams) (body : List NumberedStm)
    (singles : ℕ → Bool) → b ≡ marks.methods m.place → e ≡ marks.results m.place
    → words ≡ m.modifiers ++ (if b then record { word = word.Single; place = m.place } ∷ [] else [])
    → d ≡ (m.is_single || b) → result ≡ marked_result e m.place m.result → params ≡ marked_params marks m.params →
    ((n : ℕ) → singles n ≡ marks_variable marks m n)
    → body ≡ map
    (marked_stm singles marks.variables) m.body → record m { modifiers = words; is_single = d; result = result; params = params; body = body } ≡ marked_method marks m
method_told marks m b e d words result params body singles is_b is_e is_words is_d is_result is_params is_singles is_body =
    let whole : List Modifier → Bool → NumberedResult → NumberedParams → List NumberedStm → NumberedMethod =
    λ ws s r ps xs. record m { modifiers = ws; is_single = s; result = r; params = ps; body = xs } in
    let ws : words ≡ (marked_method marks m).modifiers =
    is_words ∙ ap (λ (b : Bool). m.modifiers ++ (if b then record { word = word.Single; place = m.place } ∷ [] else [])) is_b in
    let s : d ≡ (marked_method marks m).is_single = is_d ∙ ap (λ b. m.is_single || b) is_b in
    let r : result ≡ (marked_method marks m).result = is_result ∙ ap (λ (b : Bool). marked_result b m.place m.result) is_e in
    let xs : body ≡ (marked_method marks m).body =
    is_body ∙ bodies_alike singles (marks_variable marks m) marks.variables m.body is_singles in
    ap₂ (λ z y. whole z y result params body) ws s
    ∙ ap₂ (λ z y. whole (marked_method marks m).modifiers (marked_method marks m).is_single z y body) r is_params
    ∙ ap (whole (marked_method marks m).modifiers (marked_method marks m).is_single (marked_method marks m).result (marked_params marks m.params)) xs
