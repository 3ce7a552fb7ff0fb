-- Lemmas on a symbol table and the entries of the map that it is made of.
use Rattle.std.proofs.Common.{◌≡◌, ℕ, zero, suc, Bool, true, false, cond, List, [], ◌∷◌, ◌++◌, map, take, Option, Some, None, is_some, if◌then◌else◌, Bor, refl, ap, sym, ◌∙◌, true≢false}
use Rattle.std.specs.Map.{lookup}
use Rattle.std.specs.Str.{bytes_eq}
use Rattle.indexmap.specs.IndexMap.{IndexMap, insert_entry}
use Rattle.indexmap.proofs.CallerLemmas.{insert_entry-new}
use Rattle.ti_names.specs.Mirrors.Tables.{with_new_name}

-- the entries, with each key as the bytes that it spells
abbrev pub seen : {V : Type 0} → List (Bor (List ℕ) × V) → List (List ℕ × V)
seen es = map (λ e. (e.0.now, e.1)) es

abbrev same_key : Bor (List ℕ) → Bor (List ℕ) → Bool
same_key x y = bytes_eq x.now y.now

pub lookup_seen : {V : Type 0} (test : List ℕ → Bool) (es : List (Bor (List ℕ) × V)) → lookup (λ k. test k.now) es ≡ lookup test (seen es)
lookup_seen test [] = refl
lookup_seen test (e ∷ es) = ap (cond (test e.0.now) (Some e.1)) (lookup_seen test es)

pub take_seen : {V : Type 0} (n : ℕ) (es : List (Bor (List ℕ) × V)) → seen (take n es) ≡ take n (seen es)
take_seen zero es = refl
take_seen (suc n) [] = refl
take_seen (suc n) (e ∷ es) = ap (λ xs. (e.0.now, e.1) ∷ xs) (take_seen n es)

pub append_seen : {V : Type 0} (es : List (Bor (List ℕ) × V)) (k : Bor (List ℕ)) (v : V) → seen (es ++ (k, v) ∷ []) ≡ seen es ++ (k.now, v) ∷ []
append_seen [] k v = refl
append_seen (e ∷ es) k v = ap (λ xs. (e.0.now, e.1) ∷ xs) (append_seen es k v)

nothing : {A : Type 0} (o : Option A) → is_some o ≡ false → o ≡ None
nothing None absent = refl
nothing (Some a) absent = absurd (true≢false absent)

-- a name that is there isn't added
pub kept : {V : Type 0} (table : List (List ℕ × V)) (es : List (Bor (List ℕ) × V)) (name : List ℕ) (v : V) → seen es ≡ table → is_some (lookup (λ k. bytes_eq name k.now) es) ≡ true
    → table ≡ with_new_name table name v
kept table es name v is there =
    let found : is_some (lookup (bytes_eq name) table) ≡ true = sym (ap (λ t. is_some (lookup (bytes_eq name) t)) is) ∙ ap is_some (sym (lookup_seen (bytes_eq name) es)) ∙ there in
    sym (ap (λ (b : Bool). if b then table else table ++ (name, v) ∷ []) found)

-- another goes last
pub added : {V S : Type 0} (table : List (List ℕ × V)) (m : IndexMap (Bor (List ℕ)) V S) (k : Bor (List ℕ)) (v : V) (new : List (Bor (List ℕ) × V)) → seen m.entries ≡ table
    → is_some (lookup (λ x. bytes_eq k.now x.now) m.entries) ≡ false → new ≡ insert_entry same_key m.entries k v → seen new ≡ with_new_name table k.now v
added table m k v new is absent inserted =
    let lacks : is_some (lookup (bytes_eq k.now) table) ≡ false = sym (ap (λ t. is_some (lookup (bytes_eq k.now) t)) is) ∙ ap is_some (sym (lookup_seen (bytes_eq k.now) m.entries)) ∙ absent in
    ap seen (inserted ∙ insert_entry-new same_key m k v (nothing _ absent)) ∙ append_seen m.entries k v ∙ ap (λ t. t ++ (k.now, v) ∷ []) is
    ∙ sym (ap (λ (b : Bool). if b then table else table ++ (k.now, v) ∷ []) lacks)
