-- What is single under a subset of a marking is single under the whole marking.
use Rattle.std.proofs.Common.{ℕ, Bool, Option, Some, None, option_map, refl, ap, sym, ◌∙◌}
use Rattle.std.specs.Option.{option_map_or}
use Rattle.ti_lang.specs.Program.Types.{Declaration, Typed, Foreach}
use Rattle.ti_lang.specs.Program.Expressions.{NumberedExp, NumberedExps, NumberedRange, NumberedRanges}
use Rattle.ti_lang.specs.Program.Expressions as e
use Rattle.ti_lang.specs.Program.Statements.{NumberedInit}
use Rattle.ti_lang.specs.Program.Statements as st
use Rattle.ti_lang.specs.Program.Classes.{NumberedResult, NumberedMethod, ProgramView}
use Rattle.ti_lang.specs.Program.Classes as c
use Rattle.ti_lang.specs.Typing.Kinds.{is_point_type}
use Rattle.ti_lang.specs.Typing.Called.{called_method}
use Rattle.ti_lang.specs.Typing.Singleness.{declared_single, tells_of_domain, is_single_part, are_single, is_single_range, are_single_ranges, single_result, has_single_result, is_single, is_single_sent, is_single_initial}
use Rattle.ti_blame.specs.Marks.{Marks, IsSubset}
use Rattle.ti_infer.specs.Marked.{marked_declaration, marked_exp, marked_exps, marked_range, marked_ranges, marked_init, marked_result, marked_method, marked}
use Rattle.ti_infer.proofs.Truths.{Grows, grows_and, grows_behind}
use Rattle.ti_infer.proofs.Same.{text_same, call_same, language_same}

-- for each number
abbrev pub GrowAll : (ℕ → Bool) → (ℕ → Bool) → Type 0
GrowAll a b = (number : ℕ) → Grows (a number) (b number)

-- a variable: a declared one as it is marked, one of a foreach as the scope says
declared_grows : (a b : Bool) (s t : ℕ → Bool) (number : ℕ) (d : Declaration) → Grows a b → GrowAll s t
    → Grows (declared_single s number (marked_declaration a d)) (declared_single t number (marked_declaration b d))
declared_grows a b s t number (Typed is_single type) f g = f
declared_grows a b s t number Foreach f g = g number

module _ (p : ProgramView) (this : Option ℕ) (m n : Marks) (i j s t : ℕ → Bool) (marks : GrowAll i j) (scope : GrowAll s t) where
  mutual
    pub part_grows : (x : NumberedExp) → Grows (is_single_part (marked m p) this s (marked_exp i x)) (is_single_part (marked n p) this t (marked_exp j x))
    part_grows (e.Int at k) = λ h. refl
    part_grows (e.Long at k) = λ h. refl
    part_grows (e.Truth at b) = λ h. refl
    part_grows (e.NumProcs at) = λ h. refl
    part_grows (e.Variable at v) = declared_grows (i v.number) (j v.number) s t v.number v.declared (marks v.number) scope
    part_grows (e.Point at xs) = parts_grow xs
    part_grows (e.Rect at ranges) = ranges_grow ranges
    part_grows (e.Unary at op a) = part_grows a
    part_grows (e.Binary at op a b) = grows_and _ _ _ _ (part_grows a) (part_grows b)
    part_grows (e.Cast at to a) = grows_behind _ _ _ _ refl (part_grows a)
    part_grows (e.Index at a xs) =
        grows_behind _ _ _ _ (ap is_point_type (text_same m p this i a ∙ sym (text_same n p this j a))) (grows_and _ _ _ _ (part_grows a) (parts_grow xs))
    part_grows (e.Member at a name args) =
        grows_behind _ _ _ _ (ap tells_of_domain (language_same m p this i a name ∙ sym (language_same n p this j a name))) (grows_and _ _ _ _ (part_grows a) (parts_grow args))
    part_grows _ = λ h. h

    pub parts_grow : (xs : NumberedExps) → Grows (are_single (marked m p) this s (marked_exps i xs)) (are_single (marked n p) this t (marked_exps j xs))
    parts_grow e.NoExp = λ h. h
    parts_grow (e.MoreExp a rest) = grows_and _ _ _ _ (part_grows a) (parts_grow rest)

    range_grows : (r : NumberedRange) → Grows (is_single_range (marked m p) this s (marked_range i r)) (is_single_range (marked n p) this t (marked_range j r))
    range_grows (e.Plain low high) = grows_and _ _ _ _ (part_grows low) (part_grows high)
    range_grows (e.Stepped low high step) = grows_and _ _ _ _ (grows_and _ _ _ _ (part_grows low) (part_grows high)) (part_grows step)

    ranges_grow : (rs : NumberedRanges) → Grows (are_single_ranges (marked m p) this s (marked_ranges i rs)) (are_single_ranges (marked n p) this t (marked_ranges j rs))
    ranges_grow e.NoRange = λ h. h
    ranges_grow (e.MoreRange r rest) = grows_and _ _ _ _ (range_grows r) (ranges_grow rest)

-- ---- whole right sides

result_grows : (a b : Bool) (at : _) (r : NumberedResult) → Grows a b → Grows (single_result (marked_result a at r)) (single_result (marked_result b at r))
result_grows a b at c.Void f = λ h. h
result_grows a b at (c.Typed type) f = f

pub method_result_grows : (m n : Marks) (x : NumberedMethod) → IsSubset m n → Grows (has_single_result (marked_method m x)) (has_single_result (marked_method n x))
method_result_grows m n x part = result_grows (m.results x.place) (n.results x.place) x.place x.result (part.results x.place)

chosen_grows : (m n : Marks) (o : Option NumberedMethod) (a b : Bool) → IsSubset m n → Grows a b
    → Grows (option_map_or has_single_result (option_map (marked_method m) o) a) (option_map_or has_single_result (option_map (marked_method n) o) b)
chosen_grows m n None a b part f = f
chosen_grows m n (Some x) a b part f = method_result_grows m n x part

module _ (p : ProgramView) (this : Option ℕ) (m n : Marks) (i j s t : ℕ → Bool) (part : IsSubset m n) (marks : GrowAll i j) (scope : GrowAll s t) where
  pub single_grows : (x : NumberedExp) → Grows (is_single (marked m p) this s (marked_exp i x)) (is_single (marked n p) this t (marked_exp j x))
  single_grows x h =
      ap (λ o. option_map_or has_single_result o (is_single_part (marked n p) this t (marked_exp j x))) (call_same n p this j x)
      ∙ chosen_grows m n (called_method p this x) _ _ part (part_grows p this m n i j s t marks scope x)
      (sym (ap (λ o. option_map_or has_single_result o (is_single_part (marked m p) this s (marked_exp i x))) (call_same m p this i x)) ∙ h)

  pub initial_grows : (v : NumberedInit) → Grows (is_single_initial (marked m p) this s (marked_init i v)) (is_single_initial (marked n p) this t (marked_init j v))
  initial_grows (st.Value x) = single_grows x
  initial_grows (st.NewRegion at) = λ h. h
  initial_grows (st.NewObject at region class) = λ h. h
  initial_grows (st.NewGrid at region element dims_at dims) = λ h. h
  initial_grows (st.Broadcast at x root) = λ h. ap is_single_sent (text_same n p this j x ∙ sym (text_same m p this i x)) ∙ h
