-- The rules of single values, rephrased by reasons: for each rule that would be broken if what it forbids occurs, the reasons for which
-- it occurs. A reason is an annotation or a collective, which is considered or not. What `infer` returns isn't defined by this: theorems
-- state that these are the rules, whichever collectives are considered (`Limited`).
use Rattle.std.specs.Prelude.{◌≡◌, ℕ, Bool, false, not, if◌then◌else◌, List, [], ◌∷◌, ◌++◌, flat_map, Option, Some, None}
use Rattle.std.specs.List.{list_any}
use Rattle.std.specs.Option.{option_map_or}
use Rattle.ti_base.specs.declared.place.Place.{Place}
use Rattle.ti_lang.specs.Program.Types.{Declaration, Typed, Foreach}
use Rattle.ti_lang.specs.Program.Expressions.{NumberedExp, NumberedExps, place_of_numbered}
use Rattle.ti_lang.specs.Program.Expressions as x
use Rattle.ti_lang.specs.Program.Statements.{NumberedInit, NumberedStm, MaybeNumbered, NumberedStms, numbered_stms}
use Rattle.ti_lang.specs.Program.Statements as st
use Rattle.ti_lang.specs.Program.Classes.{NumberedParam, NumberedParams, MainArgs, Params, NumberedResult, NumberedMethod, ProgramView}
use Rattle.ti_lang.specs.Program.Classes as c
use Rattle.ti_lang.specs.Program.Scope.{ScopeVariable, parameters, this_of}
use Rattle.ti_lang.specs.Typing.Called.{called_method, member_called}
use Rattle.ti_lang.specs.Typing.Effects.{is_collective_call, doings, doings_of_maybe}
use Rattle.ti_rules.specs.StmtInContext.{StmtContext, scope_of, variables_inside}
use Rattle.ti_rules.specs.SingleRules.{is_plain_part, is_plain, is_plain_initial, is_delete}
use Rattle.ti_blame.specs.declared.reason.Reason.{Reason}
use Rattle.ti_blame.specs.declared.reason.Reason.TheVariants.{OfMethod, OfResult, OfVariable, OfCollective, Always}
use Rattle.ti_blame.specs.Marks.{Marks, holds}
use Rattle.ti_infer.specs.Marks.{variable_place, marks_variable}
use Rattle.ti_infer.specs.Marked.{marked_exp, marked_init, marked_params, marked_method, marked}

-- some of these reasons holds
abbrev pub some_held : (Place → Bool) → Marks → List Reason → Bool
some_held counts marks found = list_any (holds counts marks) found

-- these reasons if the test holds, otherwise none
abbrev pub reasons_if : Bool → List Reason → List Reason
reasons_if test found = if test then found else []

-- ---- why a statement has global effects

-- a called method, as a reason: `Always` if it is single already
abbrev pub method_reasons : Option NumberedMethod → List Reason
method_reasons None = []
method_reasons (Some m) = (if m.is_single then Always else OfMethod m.place) ∷ []

module _ (p : ProgramView) (m : NumberedMethod) where
  abbrev pub acts_reasons : NumberedExp → List Reason
  acts_reasons e = method_reasons (called_method p (this_of m) e)
      ++ reasons_if (is_collective_call p (this_of m) e) (OfCollective (place_of_numbered e) ∷ [])

  abbrev pub initial_reasons : NumberedInit → List Reason
  initial_reasons (st.Value e) = acts_reasons e
  initial_reasons (st.NewRegion at) = OfCollective at ∷ []
  initial_reasons (st.NewObject at region class) = []
  initial_reasons (st.NewGrid at region element dims_at dims) = []
  initial_reasons (st.Broadcast at e root) = OfCollective at ∷ []

  -- the variable that is declared at this place, as a reason
  abbrev pub place_reasons : Option Place → List Reason
  place_reasons None = []
  place_reasons (Some at) = OfVariable at ∷ []

  abbrev pub declared_reasons : ℕ → Declaration → List Reason
  declared_reasons number (Typed is_single type) = place_reasons (variable_place m number)
  declared_reasons number Foreach = []

  abbrev pub target_reasons : NumberedExp → List Reason
  target_reasons (x.Variable at v) = declared_reasons v.number v.declared
  target_reasons e = []

  abbrev mutual
    pub reasons : NumberedStm → List Reason
    reasons (st.Declare at type variable value) = OfVariable at ∷ initial_reasons value
    reasons (st.Assign at target value) = target_reasons target ++ initial_reasons value
    reasons (st.Update at op target e) = target_reasons target ++ acts_reasons e
    reasons (st.Step at op target) = target_reasons target
    reasons (st.Call e) = acts_reasons e
    reasons (st.Barrier at) = OfCollective at ∷ []
    reasons (st.Block body) = reasons_of_all body
    reasons (st.If at c a) = reasons a
    reasons (st.IfElse at c a b) = reasons a ++ reasons b
    reasons (st.While at c body) = reasons body
    reasons (st.For at first c update body) = reasons_of_maybe first ++ (reasons_of_maybe update ++ reasons body)
    reasons (st.Foreach at variable domain body) = reasons body
    reasons s = []

    pub reasons_of_maybe : MaybeNumbered → List Reason
    reasons_of_maybe st.NoStm = []
    reasons_of_maybe (st.SomeStm s) = reasons s

    pub reasons_of_all : NumberedStms → List Reason
    reasons_of_all st.Nil = []
    reasons_of_all (st.Cons s rest) = reasons s ++ reasons_of_all rest

  -- the result of the method, as a reason for which its `return` has global effects
  abbrev pub result_reasons : NumberedResult → List Reason
  result_reasons c.Void = []
  result_reasons (c.Typed type) = OfResult m.place ∷ []

  abbrev pub return_reasons : List Reason
  return_reasons = result_reasons m.result ++ reasons_of_all (numbered_stms m.body)

  -- why a loop has global effects, and a jump out of it
  abbrev pub loop_reasons : MaybeNumbered → NumberedStm → List Reason
  loop_reasons update body =
      (reasons_of_maybe update ++ reasons body)
      ++ (reasons_if (doings_of_maybe p (this_of m) update).returns return_reasons
      ++ reasons_if (doings p (this_of m) body).returns return_reasons)

  -- why a statement has global effects, if jumps have them for the reasons `jumping`
  abbrev pub effect_reasons : List Reason → NumberedStm → List Reason
  effect_reasons jumping s =
      (reasons s ++ reasons_if (doings p (this_of m) s).returns return_reasons) ++ reasons_if (doings p (this_of m) s).jumps jumping

-- ---- what is to blame by the rules

module _ (p : ProgramView) (m : NumberedMethod) (marks : Marks) where
  -- the context of a statement of the marked method with these variables in scope
  abbrev pub blame_around : List ScopeVariable → StmtContext
  blame_around vs = record { method = marked_method marks m; variables = vs; jump_has = None }

  abbrev pub plain_here : List ScopeVariable → NumberedExp → Bool
  plain_here vs e = is_plain_part (marked marks p) (blame_around vs) (marked_exp (marks_variable marks m) e)

  abbrev pub arguments_blamed : List ScopeVariable → List NumberedParam → NumberedExps → List Reason
  arguments_blamed vs (w ∷ params) (x.MoreExp e rest) =
      reasons_if (plain_here vs e) (OfVariable w.place ∷ []) ++ arguments_blamed vs params rest
  arguments_blamed vs _ _ = []

  abbrev pub params_blamed : List ScopeVariable → NumberedParams → NumberedExps → List Reason
  params_blamed vs MainArgs args = []
  params_blamed vs (Params params) args = arguments_blamed vs params args

  abbrev pub call_blamed : List ScopeVariable → Option NumberedMethod → NumberedExps → List Reason
  call_blamed vs o args = option_map_or (λ (y : NumberedMethod). params_blamed vs y.params args) o []

  abbrev pub whole_blamed : List ScopeVariable → NumberedExp → List Reason
  whole_blamed vs (x.Call at method args) = call_blamed vs (called_method p (this_of m) (x.Call at method args)) args
  whole_blamed vs (x.OwnCall at method args) = call_blamed vs (called_method p (this_of m) (x.OwnCall at method args)) args
  whole_blamed vs (x.Member at a name args) =
      call_blamed vs (called_method p (this_of m) (x.Member at a name args)) args
      ++ reasons_if (plain_here vs a) (reasons_if (is_delete (member_called p (this_of m) a name)) (OfCollective at ∷ []))
  whole_blamed vs e = []

  abbrev pub initial_blamed : List ScopeVariable → NumberedInit → List Reason
  initial_blamed vs (st.Value e) = whole_blamed vs e
  initial_blamed vs (st.Broadcast at e root) = reasons_if (plain_here vs root) (OfCollective at ∷ [])
  initial_blamed vs value = []

  abbrev pub condition_plain : List ScopeVariable → Option NumberedExp → Bool
  condition_plain vs None = false
  condition_plain vs (Some e) = plain_here vs e

  abbrev pub returned_blamed : List ScopeVariable → Option NumberedExp → List Reason
  returned_blamed vs None = []
  returned_blamed vs (Some e) = reasons_if (plain_here vs e) (result_reasons p m m.result)

  -- what is to blame in a statement, without those in it
  abbrev pub own_blamed : List ScopeVariable → List Reason → NumberedStm → List Reason
  own_blamed vs jumping (st.Declare at type variable value) =
      initial_blamed vs value ++ reasons_if (is_plain_initial (marked marks p) (blame_around vs) (marked_init (marks_variable marks m) value))
      (OfVariable at ∷ [])
  own_blamed vs jumping (st.Assign at target value) =
      initial_blamed vs value ++ reasons_if (is_plain_initial (marked marks p) (blame_around vs) (marked_init (marks_variable marks m) value))
      (target_reasons p m target)
  own_blamed vs jumping (st.Update at op target e) =
      whole_blamed vs e ++ reasons_if (is_plain (marked marks p) (blame_around vs) (marked_exp (marks_variable marks m) e))
      (target_reasons p m target)
  own_blamed vs jumping (st.Call e) = whole_blamed vs e
  own_blamed vs jumping (st.If at c a) = reasons_if (plain_here vs c) (effect_reasons p m jumping (st.If at c a))
  own_blamed vs jumping (st.IfElse at c a b) = reasons_if (plain_here vs c) (effect_reasons p m jumping (st.IfElse at c a b))
  own_blamed vs jumping (st.While at c body) = reasons_if (plain_here vs c) (loop_reasons p m st.NoStm body)
  own_blamed vs jumping (st.For at first c update body) =
      reasons_if (condition_plain vs c) (loop_reasons p m update body) ++ reasons_if (doings_of_maybe p (this_of m) update).jumps (Always ∷ [])
  own_blamed vs jumping (st.Foreach at variable domain body) = reasons_if (plain_here vs domain) (loop_reasons p m st.NoStm body)
  own_blamed vs jumping (st.Return at value) = returned_blamed vs value
  own_blamed vs jumping s = []

  abbrev mutual
    -- what is to blame in a statement and those in it
    pub blamed : List ScopeVariable → List Reason → NumberedStm → List Reason
    blamed vs jumping (st.Block body) = blamed_of_all vs jumping body
    blamed vs jumping (st.If at c a) = own_blamed vs jumping (st.If at c a) ++ blamed vs jumping a
    blamed vs jumping (st.IfElse at c a b) = own_blamed vs jumping (st.IfElse at c a b) ++ (blamed vs jumping a ++ blamed vs jumping b)
    blamed vs jumping (st.While at c body) = own_blamed vs jumping (st.While at c body) ++ blamed vs (loop_reasons p m st.NoStm body) body
    blamed vs jumping (st.For at first c update body) =
        own_blamed vs jumping (st.For at first c update body) ++ (blamed_of_maybe vs jumping first
        ++ (blamed_of_maybe vs jumping update ++ blamed vs (loop_reasons p m update body) body))
    blamed vs jumping (st.Foreach at variable domain body) =
        own_blamed vs jumping (st.Foreach at variable domain body)
        ++ blamed (variables_inside (marked marks p) (scope_of (blame_around vs)) variable (marked_exp (marks_variable marks m) domain))
        (loop_reasons p m st.NoStm body) body
    blamed vs jumping s = own_blamed vs jumping s

    pub blamed_of_maybe : List ScopeVariable → List Reason → MaybeNumbered → List Reason
    blamed_of_maybe vs jumping st.NoStm = []
    blamed_of_maybe vs jumping (st.SomeStm s) = blamed vs jumping s

    pub blamed_of_all : List ScopeVariable → List Reason → NumberedStms → List Reason
    blamed_of_all vs jumping st.Nil = []
    blamed_of_all vs jumping (st.Cons s rest) = blamed vs jumping s ++ blamed_of_all vs jumping rest

  -- what is to blame in a method: its effects and its result unless it is single, and its statements
  abbrev pub method_blamed : List Reason
  method_blamed =
      (reasons_if (not (marked_method marks m).is_single) (effect_reasons p m [] (st.Block (numbered_stms m.body)))
      ++ reasons_if (not (marked_method marks m).is_single) (result_reasons p m m.result))
      ++ blamed_of_all (parameters (marked_params marks m.params)) [] (numbered_stms m.body)

-- what is to blame in a program
abbrev pub program_blamed : ProgramView → Marks → List Reason
program_blamed p marks = flat_map (λ m. method_blamed p m marks) p.methods

-- ---- accepted markings

-- under the marking no rule of single values is broken, if these collectives are considered
abbrev pub KeepsSingle : (Place → Bool) → ProgramView → Marks → Type 0
KeepsSingle counts p marks = some_held counts marks (program_blamed p marks) ≡ false
