-- An expression isn't single under a marking if and only if the marking lacks an annotation that it requires.
use Rattle.std.proofs.Common.{◌≡◌, ℕ, Bool, true, false, not, ◌&&◌, ◌||◌, List, [], ◌∷◌, ◌++◌, Option, Some, None, option_map, refl, ap, ap₂, sym, ◌∙◌}
use Rattle.std.specs.List.{list_any}
use Rattle.std.specs.Option.{option_map_or}
use Rattle.std.proofs.lemmas.List.Folds.{list_any-append}
use Rattle.ti_base.specs.declared.place.Place.{Place}
use Rattle.ti_lang.specs.Program.Types.{Declaration, Typed, Foreach}
use Rattle.ti_lang.specs.Program.Expressions.{NumberedExp, NumberedExps, NumberedRange, NumberedRanges}
use Rattle.ti_lang.specs.Program.Expressions as e
use Rattle.ti_lang.specs.Program.Statements.{NumberedInit}
use Rattle.ti_lang.specs.Program.Statements as st
use Rattle.ti_lang.specs.Program.Classes.{NumberedResult, NumberedMethod, ProgramView}
use Rattle.ti_lang.specs.Program.Classes as c
use Rattle.ti_lang.specs.Program.Scope.{ScopeVariable, ScopeContents, this_of}
use Rattle.ti_lang.specs.Typing.Kinds.{is_local, is_point_type}
use Rattle.ti_lang.specs.Typing.TextTypes.{syntactic_type}
use Rattle.ti_lang.specs.Typing.Called.{called_method, member_called}
use Rattle.ti_lang.specs.Typing.Singleness.{tells_of_domain, is_single_sent, single_result, has_single_result}
use Rattle.ti_rules.specs.StmtInContext.{singles_in}
use Rattle.ti_rules.specs.SingleRules.{is_plain, is_plain_initial}
use Rattle.ti_blame.specs.declared.mark.Mark.{Mark}
use Rattle.ti_blame.specs.Marks.{Marks}
use Rattle.ti_blame.specs.Implications.{holds_conditionally, is_triggered}
use Rattle.ti_infer.specs.Marks.{variable_place, marks_variable}
use Rattle.ti_infer.specs.Marked.{marked_exp, marked_init, marked_result, marked_method, marked}
use Rattle.ti_infer.specs.Reason.{blame_around, plain_here}
use Rattle.ti_infer.specs.Mirrors.SingleUnder.{variable_under, single_under, all_under, range_under, ranges_under}
use Rattle.ti_infer.specs.Mirrors.Dependencies.{variable_mark, plain_if, variable_dependencies, dependencies, all_dependencies, range_dependencies, ranges_dependencies, result_dependencies, callee_dependencies, whole_dependencies, initial_dependencies}
use Rattle.ti_infer.proofs.Same.{text_same, this_same}
use Rattle.ti_infer.proofs.PlainRead.{plain_is, whole_is}

or_end : (a : Bool) → (a || false) ≡ a
or_end true = refl
or_end false = refl

not_and : (a b : Bool) → (not a || not b) ≡ not (a && b)
not_and true b = refl
not_and false b = refl

-- where a test fails the whole is plain
behind : (t a : Bool) → (not t || not a) ≡ not (t && a)
behind t a = not_and t a

module _ (counts : Place → Bool) (p : ProgramView) (m : NumberedMethod) (marks : Marks) (inside : ℕ → List (Option Mark)) (singles : ℕ → Bool)
    (alike : (number : ℕ) → list_any (is_triggered (holds_conditionally counts marks)) (inside number) ≡ not (singles number)) where
  -- something of these isn't marked
  abbrev open_in : List (Option Mark) → Bool
  open_in xs = list_any (is_triggered (holds_conditionally counts marks)) xs

  joined : (xs ys : List (Option Mark)) (a b : Bool) → open_in xs ≡ not a → open_in ys ≡ not b → open_in (xs ++ ys) ≡ not (a && b)
  joined xs ys a b h k = list_any-append (is_triggered (holds_conditionally counts marks)) xs ys ∙ ap₂ (λ s t. s || t) h k ∙ not_and a b

  tested : (t : Bool) → open_in (plain_if (not t)) ≡ not t
  tested true = refl
  tested false = refl

  refused : (t : Bool) → open_in (plain_if t) ≡ not (not t)
  refused true = refl
  refused false = refl

  place_dependencies : (o : Option Place) → open_in (option_map variable_mark o ∷ []) ≡ not (option_map_or marks.variables o false)
  place_dependencies None = refl
  place_dependencies (Some at) = or_end (not (marks.variables at))

  variable_open : (number : ℕ) (d : Declaration) → open_in (variable_dependencies p m inside number d) ≡ not (variable_under marks m singles number d)
  variable_open number (Typed is_single type) = place_dependencies (variable_place m number)
  variable_open number Foreach = alike number

  mutual
    pub dependencies_open : (x : NumberedExp) → open_in (dependencies p m inside x) ≡ not (single_under p (this_of m) (variable_under marks m singles) x)
    dependencies_open (e.Variable at v) = variable_open v.number v.declared
    dependencies_open (e.Point at xs) = all_open xs
    dependencies_open (e.Rect at ranges) = ranges_open ranges
    dependencies_open (e.Unary at op a) = dependencies_open a
    dependencies_open (e.Binary at op a b) = joined (dependencies p m inside a) (dependencies p m inside b) _ _ (dependencies_open a) (dependencies_open b)
    dependencies_open (e.Cast at to a) = joined (plain_if (is_local to.type)) (dependencies p m inside a) (not (is_local to.type)) _ (refused (is_local to.type)) (dependencies_open a)
    dependencies_open (e.Index at a xs) =
        joined (plain_if (not (is_point_type (syntactic_type p (this_of m) a)))) (dependencies p m inside a ++ all_dependencies p m inside xs)
        (is_point_type (syntactic_type p (this_of m) a)) _ (tested (is_point_type (syntactic_type p (this_of m) a)))
        (joined (dependencies p m inside a) (all_dependencies p m inside xs) _ _ (dependencies_open a) (all_open xs))
    dependencies_open (e.Member at a name args) =
        joined (plain_if (not (tells_of_domain (member_called p (this_of m) a name)))) (dependencies p m inside a ++ all_dependencies p m inside args)
        (tells_of_domain (member_called p (this_of m) a name)) _ (tested (tells_of_domain (member_called p (this_of m) a name)))
        (joined (dependencies p m inside a) (all_dependencies p m inside args) _ _ (dependencies_open a) (all_open args))
    dependencies_open _ = refl

    all_open : (xs : NumberedExps) → open_in (all_dependencies p m inside xs) ≡ not (all_under p (this_of m) (variable_under marks m singles) xs)
    all_open e.NoExp = refl
    all_open (e.MoreExp a rest) = joined (dependencies p m inside a) (all_dependencies p m inside rest) _ _ (dependencies_open a) (all_open rest)

    range_open : (r : NumberedRange) → open_in (range_dependencies p m inside r) ≡ not (range_under p (this_of m) (variable_under marks m singles) r)
    range_open (e.Plain low high) = joined (dependencies p m inside low) (dependencies p m inside high) _ _ (dependencies_open low) (dependencies_open high)
    range_open (e.Stepped low high step) = joined (dependencies p m inside low ++ dependencies p m inside high) (dependencies p m inside step) _ _
        (joined (dependencies p m inside low) (dependencies p m inside high) _ _ (dependencies_open low) (dependencies_open high)) (dependencies_open step)

    ranges_open : (rs : NumberedRanges) → open_in (ranges_dependencies p m inside rs) ≡ not (ranges_under p (this_of m) (variable_under marks m singles) rs)
    ranges_open e.NoRange = refl
    ranges_open (e.MoreRange r rest) = joined (range_dependencies p m inside r) (ranges_dependencies p m inside rest) _ _ (range_open r) (ranges_open rest)

-- ---- at a place of a method

module _ (counts : Place → Bool) (p : ProgramView) (m : NumberedMethod) (marks : Marks) (inside : ℕ → List (Option Mark)) (vs : List ScopeVariable)
    (alike : (number : ℕ) → list_any (is_triggered (holds_conditionally counts marks)) (inside number) ≡ not (singles_in (record { this_class = this_of m; variables = vs }) number)) where
  abbrev scope : ScopeContents
  scope = record { this_class = this_of m; variables = vs }

  abbrev plain_at : List (Option Mark) → Bool
  plain_at xs = list_any (is_triggered (holds_conditionally counts marks)) xs

  pub part_dependencies : (x : NumberedExp) → plain_at (dependencies p m inside x) ≡ plain_here p m marks vs x
  part_dependencies x = dependencies_open counts p m marks inside (singles_in scope) alike x ∙ plain_is p m marks scope refl x

  result_open : (at : Place) (r : NumberedResult) → plain_at (result_dependencies p m inside at r) ≡ not (single_result (marked_result (marks.results at) at r))
  result_open at c.Void = refl
  result_open at (c.Typed t) = or_end (not (marks.results at))

  pub whole_dependencies_open : (x : NumberedExp) → plain_at (whole_dependencies p m inside x) ≡ is_plain (marked marks p) (blame_around p m marks vs) (marked_exp (marks_variable marks m) x)
  whole_dependencies_open x = by (called_method p (this_of m) x) ∙ whole_is p m marks scope refl x
    where
      by : (o : Option NumberedMethod) → plain_at (callee_dependencies p m inside o x)
          ≡ not (option_map_or (λ y. has_single_result (marked_method marks y)) o
          (single_under p (this_of m) (variable_under marks m (singles_in scope)) x))
      by None = dependencies_open counts p m marks inside (singles_in scope) alike x
      by (Some y) = result_open y.place y.result

  pub initial_dependencies_open : (v : NumberedInit) → plain_at (initial_dependencies p m inside v) ≡ is_plain_initial (marked marks p) (blame_around p m marks vs) (marked_init (marks_variable marks m) v)
  initial_dependencies_open (st.Value x) = whole_dependencies_open x
  initial_dependencies_open (st.NewRegion at) = refl
  initial_dependencies_open (st.NewObject at region class) = refl
  initial_dependencies_open (st.NewGrid at region element dims_at dims) = refl
  initial_dependencies_open (st.Broadcast at x root) =
      by (is_single_sent (syntactic_type p (this_of m) x))
      ∙ sym (ap (λ t. not (is_single_sent t)) (ap (λ th. syntactic_type (marked marks p) th (marked_exp (marks_variable marks m) x))
      (this_same marks m) ∙ text_same marks p (this_of m) (marks_variable marks m) x))
    where
      by : (b : Bool) → plain_at (plain_if (not b)) ≡ not b
      by true = refl
      by false = refl
