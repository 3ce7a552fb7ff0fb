-- The errors of a program by the rules of single values. A value is plain if it isn't single.
use Rattle.std.specs.Prelude.{ℕ, Bool, true, false, not, ◌&&◌, if◌then◌else◌, List, [], ◌∷◌, ◌++◌, flat_map, Option, Some, None, unwrap_or}
use Rattle.std.specs.Option.{option_map_or}
use Rattle.ti_base.specs.declared.place.Place.{Place}
use Rattle.ti_syntax.specs.declared.tree.types.Qualifier.{Qualifier}
use Rattle.ti_lang.specs.Scopes.{is_single_word}
use Rattle.ti_lang.specs.Program.Expressions.{NumberedExp, NumberedExps, place_of_numbered}
use Rattle.ti_lang.specs.Program.Expressions as x
use Rattle.ti_lang.specs.Program.Statements.{NumberedInit, NumberedStm}
use Rattle.ti_lang.specs.Program.Statements as st
use Rattle.ti_lang.specs.Program.Classes.{NumberedParam, NumberedParams, MainArgs, Params, NumberedResult, NumberedMethod, ProgramView}
use Rattle.ti_lang.specs.Program.Classes as c
use Rattle.ti_lang.specs.Program.Scope.{this_of}
use Rattle.ti_lang.specs.Typing.BuiltIn.{BuiltIn, Delete}
use Rattle.ti_lang.specs.Typing.Called.{called_method, member_called}
use Rattle.ti_lang.specs.Typing.Singleness.{has_single_result, is_single_part, is_single, is_single_initial}
use Rattle.ti_lang.specs.Typing.Effects.{is_single_target, doings, doings_of_maybe, doings_of_method, return_acts, has_global_effects}
use Rattle.ti_rules.specs.declared.rule.Rule.TheVariants.{S1, S2, S3, S4, S5, S6, S7, S8, S9}
use Rattle.ti_rules.specs.declared.refusal.Refusal.{Refusal}
use Rattle.ti_rules.specs.Refusals.{refused_if}
use Rattle.ti_rules.specs.StmtInContext.{StmtContext, scope_of, singles_in, StmtInContext, loop_acts, standing_in_method}

-- ---- single values and global effects, in context

-- an operand or a condition is plain
abbrev pub is_plain_part : ProgramView → StmtContext → NumberedExp → Bool
is_plain_part p around e = not (is_single_part p (this_of around.method) (singles_in (scope_of around)) e)

-- an expression that is a whole right side is plain
abbrev pub is_plain : ProgramView → StmtContext → NumberedExp → Bool
is_plain p around e = not (is_single p (this_of around.method) (singles_in (scope_of around)) e)

-- a right side is plain
abbrev pub is_plain_initial : ProgramView → StmtContext → NumberedInit → Bool
is_plain_initial p around value = not (is_single_initial p (this_of around.method) (singles_in (scope_of around)) value)

-- the condition of a `for` is plain; a missing one is single
abbrev pub is_plain_condition : ProgramView → StmtContext → Option NumberedExp → Bool
is_plain_condition p around c = option_map_or (is_plain_part p around) c false

-- a statement has global effects
abbrev pub has_effects : ProgramView → StmtContext → NumberedStm → Bool
has_effects p around x =
    has_global_effects (return_acts p around.method) (unwrap_or around.jump_has false) (doings p (this_of around.method) x)

-- ---- calls

-- the errors of plain arguments for single parameters
abbrev pub argument_refusals : ProgramView → StmtContext → List NumberedParam → NumberedExps → List Refusal
argument_refusals p around (w ∷ params) (x.MoreExp e rest) =
    refused_if (w.ty.is_single && is_plain_part p around e) S5 (place_of_numbered e) ++ argument_refusals p around params rest
argument_refusals p around _ _ = []

-- the errors of plain arguments for single parameters, given the parameters of a method; `String[] x` isn't single
abbrev pub params_refusals : ProgramView → StmtContext → NumberedParams → NumberedExps → List Refusal
params_refusals p around MainArgs args = []
params_refusals p around (Params params) args = argument_refusals p around params args

-- the errors of plain arguments in a call of the method, if there is one
abbrev pub call_refusals : ProgramView → StmtContext → Option NumberedMethod → NumberedExps → List Refusal
call_refusals p around m args = option_map_or (λ (m : NumberedMethod). params_refusals p around m.params args) m []

-- the built-in member that deletes a region
abbrev pub is_delete : Option BuiltIn → Bool
is_delete (Some Delete) = true
is_delete _ = false

-- the error of deleting a plain region
abbrev pub delete_refusals : ProgramView → StmtContext → Place → NumberedExp → ℕ → List Refusal
delete_refusals p around at a name =
    refused_if (is_delete (member_called p (this_of around.method) a name) && is_plain_part p around a) S8 at

-- the errors of an expression that is a right side or a statement
abbrev pub whole_refusals : ProgramView → StmtContext → NumberedExp → List Refusal
whole_refusals p around (x.Call at method args) =
    call_refusals p around (called_method p (this_of around.method) (x.Call at method args)) args
whole_refusals p around (x.OwnCall at method args) =
    call_refusals p around (called_method p (this_of around.method) (x.OwnCall at method args)) args
whole_refusals p around (x.Member at a name args) =
    call_refusals p around (called_method p (this_of around.method) (x.Member at a name args)) args ++ delete_refusals p around at a name
whole_refusals p around e = []

-- the errors of a right side: the root of a broadcast must be single
abbrev pub initial_refusals : ProgramView → StmtContext → NumberedInit → List Refusal
initial_refusals p around (st.Value e) = whole_refusals p around e
initial_refusals p around (st.Broadcast at e root) = refused_if (is_plain_part p around root) S8 at
initial_refusals p around value = []

-- ---- statements

-- the error of a `return`: the value of a method with a single result must be single
abbrev pub return_refusals : ProgramView → StmtContext → Place → Option NumberedExp → List Refusal
return_refusals p around at None = []
return_refusals p around at (Some e) = refused_if (has_single_result around.method && is_plain_part p around e) S7 at

-- the errors of a statement in this context, apart from those of nested statements
abbrev pub single_refusals_at : ProgramView → StmtContext → NumberedStm → List Refusal
single_refusals_at p around (st.Declare at type variable value) =
    initial_refusals p around value ++ refused_if (type.is_single && is_plain_initial p around value) S4 at
single_refusals_at p around (st.Assign at target value) =
    initial_refusals p around value ++ refused_if (is_single_target target && is_plain_initial p around value) S4 at
single_refusals_at p around (st.Update at op target e) =
    whole_refusals p around e ++ refused_if (is_single_target target && is_plain p around e) S4 at
single_refusals_at p around (st.Call e) = whole_refusals p around e
single_refusals_at p around (st.If at c a) = refused_if (has_effects p around (st.If at c a) && is_plain_part p around c) S1 at
single_refusals_at p around (st.IfElse at c a b) = refused_if (has_effects p around (st.IfElse at c a b) && is_plain_part p around c) S1 at
single_refusals_at p around (st.While at c body) = refused_if (loop_acts p around.method st.NoStm body && is_plain_part p around c) S2 at
single_refusals_at p around (st.For at first c update body) =
    refused_if (loop_acts p around.method update body && is_plain_condition p around c) S2 at
    -- by the grammar, no update is or contains a jump
    ++ refused_if (doings_of_maybe p (this_of around.method) update).jumps S2 at
single_refusals_at p around (st.Foreach at number domain body) =
    refused_if (loop_acts p around.method st.NoStm body && is_plain_part p around domain) S3 at
single_refusals_at p around (st.Return at value) = return_refusals p around at value
-- `t++` and `t--` add or subtract 1, which is single; the other statements have no rule
single_refusals_at p around x = []

-- the errors of a statement in its context
abbrev pub standing_single_refusals : ProgramView → StmtInContext → List Refusal
standing_single_refusals p x = single_refusals_at p x.around x.statement

-- ---- methods

-- the error of a method with global effects that isn't single
abbrev pub effect_refusals : ProgramView → NumberedMethod → List Refusal
effect_refusals p m = refused_if (has_global_effects (return_acts p m) false (doings_of_method p m) && not m.is_single) S6 m.place

-- the error of a qualifier `single` of a result
abbrev pub word_refusals : Qualifier → List Refusal
word_refusals q = refused_if (is_single_word q.word) S9 q.place

-- the errors of the result of a method: if the method isn't single, its result can't be
abbrev pub result_refusals : Bool → NumberedResult → List Refusal
result_refusals is_single c.Void = []
result_refusals is_single (c.Typed t) = if is_single then [] else flat_map word_refusals t.qualifiers

-- the errors of a method
abbrev pub method_single_refusals : ProgramView → NumberedMethod → List Refusal
method_single_refusals p m =
    (effect_refusals p m ++ result_refusals m.is_single m.result) ++ flat_map (standing_single_refusals p) (standing_in_method p m)

-- ---- programs

-- the errors of a program by the rules of single values
abbrev pub single_refusals : ProgramView → List Refusal
single_refusals p = flat_map (method_single_refusals p) p.methods
