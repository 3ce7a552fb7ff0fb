-- Mirrors the code, for contracts of private functions: the constraints of a method. The reasons of all methods are in one list; those of
-- a statement begin at an index i of it.
use Rattle.std.specs.Prelude.{ℕ, ◌+◌, ◌==◌, Bool, false, not, ◌||◌, if◌then◌else◌, List, [], ◌∷◌, ◌++◌, length, map, flat_map, Option, Some, None, is_some, option_and_then}
use Rattle.std.specs.List.{list_any}
use Rattle.std.specs.Option.{option_map_or}
use Rattle.ti_lang.specs.Program.Expressions.{NumberedExp, NumberedExps}
use Rattle.ti_lang.specs.Program.Expressions as x
use Rattle.ti_lang.specs.Program.Statements.{NumberedInit, NumberedStm, MaybeNumbered, NumberedStms, numbered_stms}
use Rattle.ti_lang.specs.Program.Statements as st
use Rattle.ti_lang.specs.Program.Classes.{NumberedParam, NumberedParams, MainArgs, Params, NumberedMethod, ProgramView}
use Rattle.ti_lang.specs.Program.Scope.{ScopeVariable, parameters, this_of}
use Rattle.ti_lang.specs.Typing.Kinds.{domain_dim}
use Rattle.ti_lang.specs.Typing.Expressions.{operand_type}
use Rattle.ti_lang.specs.Typing.Called.{called_method, member_called}
use Rattle.ti_lang.specs.Typing.Effects.{doings, doings_of_maybe}
use Rattle.ti_rules.specs.StmtInContext.{with_foreach_variable}
use Rattle.ti_rules.specs.SingleRules.{is_delete}
use Rattle.ti_blame.specs.declared.reason.Reason.{Reason}
use Rattle.ti_blame.specs.declared.reason.Reason.TheVariants.{OfVariable, OfCollective, Always}
use Rattle.ti_blame.specs.declared.mark.Mark.{Mark}
use Rattle.ti_blame.specs.declared.implication.Conclusion.{Conclusion}
use Rattle.ti_blame.specs.declared.implication.Conclusion.TheVariants.{One, Between}
use Rattle.ti_blame.specs.declared.implication.Implication.{Implication}
use Rattle.ti_blame.specs.Marks.{matches_mark}
use Rattle.ti_infer.specs.Reason.{target_reasons, reasons, reasons_of_maybe, result_reasons, return_reasons}
use Rattle.ti_infer.specs.Mirrors.Dependencies.{variable_mark, method_mark, dependencies, whole_dependencies, initial_dependencies}

-- ---- what makes foreach variables single

-- requirements by number; a variable that isn't listed can't be single
abbrev pub inside_at : List (ℕ × List (Option Mark)) → ℕ → List (Option Mark)
inside_at [] number = None ∷ []
inside_at (v ∷ vs) number = if v.0 == number then v.1 else inside_at vs number

abbrev pub same_dependency : Option Mark → Option Mark → Bool
same_dependency None o = not (is_some o)
same_dependency (Some m) o = option_map_or (matches_mark m.kind m.place) o false

-- without duplicates
abbrev pub extend_distinct : List (Option Mark) → List (Option Mark) → List (Option Mark)
extend_distinct old [] = old
extend_distinct old (a ∷ more) = extend_distinct (if list_any (same_dependency a) old then old else old ++ a ∷ []) more

abbrev pub params_inside : ℕ → List NumberedParam → List (ℕ × List (Option Mark))
params_inside number [] = []
params_inside number (w ∷ ws) = (number, Some (variable_mark w.place) ∷ []) ∷ params_inside (number + 1) ws

abbrev pub first_inside : NumberedParams → List (ℕ × List (Option Mark))
first_inside MainArgs = []
first_inside (Params ws) = params_inside 0 ws

-- ---- constraints

abbrev pub one_each : List (Option Mark) → Conclusion → List Implication
one_each found what = map (λ (a : Option Mark). record { from = a; then = what }) found

-- from each premise to each conclusion
abbrev pub each : List (Option Mark) → List Conclusion → List Implication
each found whats = flat_map (one_each found) whats

abbrev pub ones : List Reason → List Conclusion
ones found = map One found

abbrev pub then_if : Bool → Conclusion → List Conclusion
then_if b what = if b then what ∷ [] else []

module _ (p : ProgramView) (m : NumberedMethod) (whole : Conclusion) where
  -- what is ruled out unless the condition of a loop is single, and by a jump out of it
  abbrev pub loop_targets : ℕ → MaybeNumbered → NumberedStm → List Conclusion
  loop_targets i update body =
      Between i (i + length (reasons_of_maybe p m update ++ reasons p m body))
      ∷ then_if ((doings_of_maybe p (this_of m) update).returns || (doings p (this_of m) body).returns) whole

  -- what is ruled out unless the condition of an `if` is single
  abbrev pub effect_targets : ℕ → List Conclusion → NumberedStm → List Conclusion
  effect_targets i jump s =
      Between i (i + length (reasons p m s)) ∷ (then_if (doings p (this_of m) s).returns whole
      ++ (if (doings p (this_of m) s).jumps then jump else []))

  module _ (inside : List (ℕ × List (Option Mark))) where
    abbrev pub arguments_edges : List NumberedParam → NumberedExps → List Implication
    arguments_edges (w ∷ params) (x.MoreExp e rest) =
        one_each (dependencies p m (inside_at inside) e) (One (OfVariable w.place)) ++ arguments_edges params rest
    arguments_edges _ _ = []

    abbrev pub params_edges : NumberedParams → NumberedExps → List Implication
    params_edges MainArgs args = []
    params_edges (Params params) args = arguments_edges params args

    abbrev pub call_edges : Option NumberedMethod → NumberedExps → List Implication
    call_edges None args = []
    call_edges (Some y) args = params_edges y.params args

    abbrev pub whole_edges : NumberedExp → List Implication
    whole_edges (x.Call at method args) = call_edges (called_method p (this_of m) (x.Call at method args)) args
    whole_edges (x.OwnCall at method args) = call_edges (called_method p (this_of m) (x.OwnCall at method args)) args
    whole_edges (x.Member at a name args) =
        call_edges (called_method p (this_of m) (x.Member at a name args)) args
        ++ (if is_delete (member_called p (this_of m) a name) then one_each (dependencies p m (inside_at inside) a) (One (OfCollective at)) else [])
    whole_edges e = []

    abbrev pub initial_edges : NumberedInit → List Implication
    initial_edges (st.Value e) = whole_edges e
    initial_edges (st.Broadcast at e root) = one_each (dependencies p m (inside_at inside) root) (One (OfCollective at))
    initial_edges value = []

    abbrev pub condition_edges : Option NumberedExp → List Conclusion → List Implication
    condition_edges None whats = []
    condition_edges (Some e) whats = each (dependencies p m (inside_at inside) e) whats

    -- of a statement, without those in it
    abbrev pub own_edges : ℕ → List Conclusion → NumberedStm → List Implication
    own_edges i jump (st.Declare at type variable value) =
        initial_edges value ++ one_each (initial_dependencies p m (inside_at inside) value) (One (OfVariable at))
    own_edges i jump (st.Assign at target value) =
        initial_edges value ++ each (initial_dependencies p m (inside_at inside) value) (ones (target_reasons p m target))
    own_edges i jump (st.Update at op target e) =
        whole_edges e ++ each (whole_dependencies p m (inside_at inside) e) (ones (target_reasons p m target))
    own_edges i jump (st.Call e) = whole_edges e
    own_edges i jump (st.If at c a) = each (dependencies p m (inside_at inside) c) (effect_targets i jump (st.If at c a))
    own_edges i jump (st.IfElse at c a b) = each (dependencies p m (inside_at inside) c) (effect_targets i jump (st.IfElse at c a b))
    own_edges i jump (st.While at c body) = each (dependencies p m (inside_at inside) c) (loop_targets i st.NoStm body)
    own_edges i jump (st.For at first c update body) =
        condition_edges c (loop_targets (i + length (reasons_of_maybe p m first)) update body)
        ++ (if (doings_of_maybe p (this_of m) update).jumps then record { from = None; then = One Always } ∷ [] else [])
    own_edges i jump (st.Foreach at variable domain body) = each (dependencies p m (inside_at inside) domain) (loop_targets i st.NoStm body)
    own_edges i jump (st.Return at value) = condition_edges value (ones (result_reasons p m m.result))
    own_edges i jump s = []

  -- what makes variables single in the body of a foreach, including its own if it iterates over a domain
  abbrev pub inside_foreach : List ScopeVariable → List (ℕ × List (Option Mark)) → ℕ → NumberedExp → List (ℕ × List (Option Mark))
  inside_foreach ws inside variable domain =
      inside ++ (if is_some (option_and_then domain_dim (operand_type p (record { this_class = this_of m; variables = ws }) domain))
      then (variable, extend_distinct [] (dependencies p m (inside_at inside) domain)) ∷ [] else [])

  abbrev pub variables_foreach : List ScopeVariable → ℕ → NumberedExp → List ScopeVariable
  variables_foreach ws variable domain =
      with_foreach_variable ws variable false (option_and_then domain_dim (operand_type p (record { this_class = this_of m; variables = ws }) domain))

  abbrev mutual
    -- of a statement and those in it, whose reasons begin at index i
    pub edges : List ScopeVariable → List (ℕ × List (Option Mark)) → ℕ → List Conclusion → NumberedStm → List Implication
    edges ws inside i jump (st.Block body) = edges_all ws inside i jump body
    edges ws inside i jump (st.If at c a) = own_edges inside i jump (st.If at c a) ++ edges ws inside i jump a
    edges ws inside i jump (st.IfElse at c a b) =
        own_edges inside i jump (st.IfElse at c a b) ++ (edges ws inside i jump a ++ edges ws inside (i + length (reasons p m a)) jump b)
    edges ws inside i jump (st.While at c body) =
        own_edges inside i jump (st.While at c body) ++ edges ws inside i (loop_targets i st.NoStm body) body
    edges ws inside i jump (st.For at first c update body) =
        own_edges inside i jump (st.For at first c update body)
        ++ (edges_of_maybe ws inside i jump first
        ++ (edges_of_maybe ws inside (i + length (reasons_of_maybe p m first)) jump update
        ++ edges ws inside ((i + length (reasons_of_maybe p m first)) + length (reasons_of_maybe p m update))
        (loop_targets (i + length (reasons_of_maybe p m first)) update body) body))
    edges ws inside i jump (st.Foreach at variable domain body) =
        own_edges inside i jump (st.Foreach at variable domain body)
        ++ edges (variables_foreach ws variable domain) (inside_foreach ws inside variable domain) i (loop_targets i st.NoStm body) body
    edges ws inside i jump s = own_edges inside i jump s

    pub edges_of_maybe : List ScopeVariable → List (ℕ × List (Option Mark)) → ℕ → List Conclusion → MaybeNumbered → List Implication
    edges_of_maybe ws inside i jump st.NoStm = []
    edges_of_maybe ws inside i jump (st.SomeStm s) = edges ws inside i jump s

    pub edges_all : List ScopeVariable → List (ℕ × List (Option Mark)) → ℕ → List Conclusion → NumberedStms → List Implication
    edges_all ws inside i jump st.Nil = []
    edges_all ws inside i jump (st.Cons s rest) = edges ws inside i jump s ++ edges_all ws inside (i + length (reasons p m s)) jump rest

-- ---- methods

-- the annotation of a method as a premise; none if it is single already
abbrev pub own_dependencies : NumberedMethod → List (Option Mark)
own_dependencies m = if m.is_single then [] else Some (method_mark m.place) ∷ []

-- the reasons of a method, which begin at index i
abbrev pub method_conclusion : ProgramView → NumberedMethod → ℕ → Conclusion
method_conclusion p m i = Between i (i + length (return_reasons p m))

abbrev pub method_edges : ProgramView → NumberedMethod → ℕ → List Implication
method_edges p m i =
    one_each (own_dependencies m) (method_conclusion p m i)
    ++ edges_all p m (method_conclusion p m i) (parameters m.params) (first_inside m.params) (i + length (result_reasons p m m.result)) []
    (numbered_stms m.body)

abbrev pub methods_edges : ProgramView → List NumberedMethod → ℕ → List Implication
methods_edges p [] i = []
methods_edges p (m ∷ ms) i = method_edges p m i ++ methods_edges p ms (i + length (return_reasons p m))

-- ---- programs

-- the reasons of all methods
abbrev pub all_reasons : ProgramView → List Reason
all_reasons p = flat_map (return_reasons p) p.methods

abbrev pub program_edges : ProgramView → List Implication
program_edges p = methods_edges p p.methods 0
