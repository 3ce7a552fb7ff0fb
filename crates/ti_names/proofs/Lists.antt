-- Lemmas on lists inside nodes, and on scopes.
use Rattle.std.proofs.Common.{◌≡◌, ℕ, Bool, true, false, cond, if◌then◌else◌, List, [], ◌∷◌, ◌++◌, map, take, length, Option, Some, None, is_some, bytes_eq, Bor, refl, ap, sym, ◌∙◌}
use Rattle.std.proofs.lemmas.List.{take-map, length-map}
use Rattle.std.specs.Map.{lookup}
use Rattle.std.specs.Option.{option_map, option_copied}
use Rattle.ti_lang.specs.declared.program.types.Variable.{Variable}
use Rattle.ti_lang.specs.Program.Views.{variable_of}
use Rattle.ti_syntax.specs.Trees.Expressions.{Exp, exps, RangeTree, ranges_tree}
use Rattle.ti_lang.specs.Program.Expressions.{numbered_exps, numbered_ranges}
use Rattle.ti_lang.specs.Program.Expressions as n
use Rattle.ti_syntax.specs.Trees.Statements.{Stm, stms}
use Rattle.ti_lang.specs.Program.Statements.{numbered_stms}
use Rattle.ti_lang.specs.Program.Statements as m
use Rattle.ti_lang.specs.Scopes.{Site, site_after, with_variable}
use Rattle.ti_names.specs.Mirrors.Numbered.{number_exp, number_exps, number_range, number_ranges, number_stm, number_stms, number_list}
use Rattle.ti_names.specs.Seen.{scope_of_names}
use Rattle.ti_names.specs.Mirrors.Tables.{with_new_name}

pub number_exps_list : (site : Site) (xs : List Exp) → number_exps site (exps xs) ≡ numbered_exps (map (number_exp site) xs)
number_exps_list site [] = refl
number_exps_list site (x ∷ xs) = ap (n.MoreExp (number_exp site x)) (number_exps_list site xs)

pub number_ranges_list : (site : Site) (rs : List RangeTree) → number_ranges site (ranges_tree rs) ≡ numbered_ranges (map (number_range site) rs)
number_ranges_list site [] = refl
number_ranges_list site (r ∷ rs) = ap (n.MoreRange (number_range site r)) (number_ranges_list site rs)

pub number_stms_list : (site : Site) (xs : List Stm) → number_stms site (stms xs) ≡ numbered_stms (number_list site xs)
number_stms_list site [] = refl
number_stms_list site (x ∷ xs) = ap (m.Cons (number_stm site x)) (number_stms_list (site_after site x) xs)

pub ruleset lists = (number_exps_list, number_ranges_list, number_stms_list)

-- ---- scopes

lookup_scope : (test : List ℕ → Bool) (names : List (List ℕ × Variable)) → option_map variable_of (lookup test names) ≡ lookup test (scope_of_names names)
lookup_scope test [] = refl
lookup_scope test (e ∷ es) = by (test e.0) (lookup_scope test es)
  where
    by : (b : Bool) → option_map variable_of (lookup test es) ≡ lookup test (scope_of_names es)
        → option_map variable_of (cond b (Some e.1) (lookup test es)) ≡ cond b (Some (variable_of e.1)) (lookup test (scope_of_names es))
    by true rest = refl
    by false rest = rest

pub variable_seen : (found : Option (Bor Variable)) (names : List (List ℕ × Variable)) (test : List ℕ → Bool) → option_copied found ≡ lookup test names
    → option_map (λ (v : Bor Variable). variable_of v.now) found ≡ lookup test (scope_of_names names)
variable_seen found names test is = copied found ∙ ap (option_map variable_of) is ∙ lookup_scope test names
  where
    copied : (o : Option (Bor Variable)) → option_map (λ (v : Bor Variable). variable_of v.now) o ≡ option_map variable_of (option_copied o)
    copied None = refl
    copied (Some v) = refl

-- the view of a scope that grows and that is cut
is_known : (test : List ℕ → Bool) (names : List (List ℕ × Variable)) → is_some (lookup test names) ≡ is_some (lookup test (scope_of_names names))
is_known test names = some (lookup test names) ∙ ap is_some (lookup_scope test names)
  where
    some : (o : Option Variable) → is_some o ≡ is_some (option_map variable_of o)
    some None = refl
    some (Some v) = refl

pub scope_with_first : (names : List (List ℕ × Variable)) (name : List ℕ) (v : Variable) → scope_of_names (with_new_name names name v) ≡ with_variable (scope_of_names names) name (variable_of v)
scope_with_first names name v = by (is_some (lookup (bytes_eq name) names)) ∙ ap (λ b. if b then scope_of_names names else scope_of_names names ++ (name, variable_of v) ∷ []) (is_known (bytes_eq name) names)
  where
    added : (ns : List (List ℕ × Variable)) → scope_of_names (ns ++ (name, v) ∷ []) ≡ scope_of_names ns ++ (name, variable_of v) ∷ []
    added [] = refl
    added (n ∷ ns) = ap (λ z. (n.0, variable_of n.1) ∷ z) (added ns)

    by : (b : Bool) → scope_of_names (if b then names else names ++ (name, v) ∷ []) ≡ (if b then scope_of_names names else scope_of_names names ++ (name, variable_of v) ∷ [])
    by true = refl
    by false = added names

pub scope_taken : (n : ℕ) (names : List (List ℕ × Variable)) → scope_of_names (take n names) ≡ take n (scope_of_names names)
scope_taken n names = sym (take-map (λ (e : List ℕ × Variable). (e.0, variable_of e.1)) n names)

pub scope_length : (names : List (List ℕ × Variable)) → length (scope_of_names names) ≡ length names
scope_length names = length-map names (λ (e : List ℕ × Variable). (e.0, variable_of e.1))

pub ruleset scopes = (scope_with_first, scope_taken, scope_length)
