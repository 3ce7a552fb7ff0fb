-- The errors of statements by the typing rules, apart from those of nested statements.
use Rattle.std.specs.Prelude.{Bool, true, false, not, if◌then◌else◌, List, [], ◌++◌, Option, Some, None, is_some, is_none}
use Rattle.std.specs.Option.{option_map_or}
use Rattle.ti_base.specs.declared.place.Place.{Place}
use Rattle.ti_syntax.specs.declared.tree.exprs.BinaryOperator.{BinaryOperator}
use Rattle.ti_syntax.specs.declared.tree.exprs.BinaryOperator.TheVariants.{Add, Subtract}
use Rattle.ti_syntax.specs.declared.tree.stmts.StepOperator.{StepOperator}
use Rattle.ti_syntax.specs.declared.tree.stmts.StepOperator.TheVariants.{Increment, Decrement}
use Rattle.ti_lang.specs.Program.Types.{ValueType, Int, Long, Boolean, Pt}
use Rattle.ti_lang.specs.Program.Expressions.{NumberedExp, place_of_numbered}
use Rattle.ti_lang.specs.Program.Statements.{NumberedPrint, NumberedStm}
use Rattle.ti_lang.specs.Program.Statements as st
use Rattle.ti_lang.specs.Program.Classes.{ProgramView}
use Rattle.ti_lang.specs.Program.Scope.{ScopeContents}
use Rattle.ti_lang.specs.Typing.Kinds.{is_whole, is_void, domain_dim}
use Rattle.ti_lang.specs.Typing.Operators.{binary_type}
use Rattle.ti_lang.specs.Typing.Declared.{result_type}
use Rattle.ti_lang.specs.Typing.Expressions.{operand_type}
use Rattle.ti_rules.specs.declared.rule.Rule.TheVariants.{Y3, Y6, Y8}
use Rattle.ti_rules.specs.declared.refusal.Refusal.{Refusal}
use Rattle.ti_rules.specs.Refusals.{refused_if}
use Rattle.ti_lang.specs.Typing.Alike.{erase_dims}
use Rattle.ti_rules.specs.InitialTypes.{right_side_type, initial_type}
use Rattle.ti_rules.specs.StmtInContext.{StmtContext, scope_of, StmtInContext}
use Rattle.ti_rules.specs.Broken.Refused.{refusal_at, judged, both_judged, operand_refusal, misfit}
use Rattle.ti_rules.specs.Broken.Words.{type_word_refusals}
use Rattle.ti_rules.specs.Broken.Expressions.{exp_refusals}
use Rattle.ti_rules.specs.Broken.RightSides.{inner_refusals, value_refusals, initial_refusals}
use Rattle.ti_rules.specs.Broken.Targets.{write_refusals}

-- ---- compound assignments

-- a compound assignment narrows a long to an int
abbrev pub narrows : ValueType → ValueType → Bool
narrows Long Int = true
narrows _ _ = false

-- the result of the operator fits the target, or is narrowed to it
abbrev pub result_refusals : Place → ValueType → ValueType → List Refusal
result_refusals at r t = if narrows r t then [] else misfit at r t

-- the operator accepts a target and a value of these types, and its result fits the target
abbrev pub update_refusals : Place → BinaryOperator → ValueType → ValueType → List Refusal
update_refusals at op t u =
    operand_refusal at (is_some (binary_type op t u)) (is_some (binary_type op (erase_dims t) (erase_dims u)))
    ++ judged (binary_type op t u) (λ r. result_refusals at r t)

-- `t++` is typed as `t += 1`, and `t--` as `t -= 1`
abbrev pub operator_of : StepOperator → BinaryOperator
operator_of Increment = Add
operator_of Decrement = Subtract

-- ---- conditions and prints

-- the type is boolean
abbrev pub is_boolean : ValueType → Bool
is_boolean Boolean = true
is_boolean _ = false

-- the errors of a condition
abbrev pub condition_refusals : ProgramView → ScopeContents → NumberedExp → List Refusal
condition_refusals p s c =
    inner_refusals p s c ++ judged (operand_type p s c) (λ t. refused_if (not (is_boolean t)) Y3 (place_of_numbered c))

-- the errors of the condition of a `for`, if it has one
abbrev pub maybe_condition_refusals : ProgramView → ScopeContents → Option NumberedExp → List Refusal
maybe_condition_refusals p s c = option_map_or (condition_refusals p s) c []

-- a value of this type can be printed
abbrev pub is_printed : ValueType → Bool
is_printed Boolean = true
is_printed (Pt n) = true
is_printed t = is_whole t

-- the errors of a printed value
abbrev pub printed_refusals : ProgramView → ScopeContents → Place → NumberedExp → List Refusal
printed_refusals p s at e = inner_refusals p s e ++ judged (operand_type p s e) (λ t. operand_refusal at (is_printed t) false)

-- the errors of the operand of a print
abbrev pub print_refusals : ProgramView → ScopeContents → Place → NumberedPrint → List Refusal
print_refusals p s at st.Nothing = []
print_refusals p s at (st.Text literal) = []
print_refusals p s at (st.Expression e) = printed_refusals p s at e
print_refusals p s at (st.TextAndExpression literal e) = printed_refusals p s at e

-- ---- results

-- a value of this type is returned: the method has a result, and the value fits it
abbrev pub given_back : Place → ValueType → ValueType → List Refusal
given_back at result t = if is_void result then refusal_at Y6 at else misfit at t result

-- the errors of a `return`: it has a value exactly if the method has a result
abbrev pub return_refusals : ProgramView → ScopeContents → Place → ValueType → Option NumberedExp → List Refusal
return_refusals p s at result None = refused_if (not (is_void result)) Y6 at
return_refusals p s at result (Some e) = inner_refusals p s e ++ judged (operand_type p s e) (λ t. given_back at result t)

-- ---- statements

-- the errors of a statement in this context, apart from those of nested statements
abbrev pub statement_refusals : ProgramView → StmtContext → NumberedStm → List Refusal
statement_refusals p around (st.Declare at type variable value) =
    (type_word_refusals true type ++ initial_refusals p (scope_of around) value)
    ++ judged (initial_type p (scope_of around) value) (λ t. misfit at t type.type)
statement_refusals p around (st.Assign at target value) =
    (exp_refusals p (scope_of around) target ++ initial_refusals p (scope_of around) value)
    ++ both_judged (operand_type p (scope_of around) target) (initial_type p (scope_of around) value)
    (λ t u. write_refusals p (scope_of around) at target (misfit at u t))
statement_refusals p around (st.Update at op target e) =
    (exp_refusals p (scope_of around) target ++ value_refusals p (scope_of around) e)
    ++ both_judged (operand_type p (scope_of around) target) (right_side_type p (scope_of around) e)
    (λ t u. write_refusals p (scope_of around) at target (update_refusals at op t u))
statement_refusals p around (st.Step at op target) =
    exp_refusals p (scope_of around) target
    ++ judged (operand_type p (scope_of around) target) (λ t. write_refusals p (scope_of around) at target
    (update_refusals at (operator_of op) t Int))
statement_refusals p around (st.Call e) = exp_refusals p (scope_of around) e
statement_refusals p around (st.Print at what) = print_refusals p (scope_of around) at what
statement_refusals p around (st.If at c a) = condition_refusals p (scope_of around) c
statement_refusals p around (st.IfElse at c a b) = condition_refusals p (scope_of around) c
statement_refusals p around (st.While at c body) = condition_refusals p (scope_of around) c
statement_refusals p around (st.For at first c update body) = maybe_condition_refusals p (scope_of around) c
-- a foreach iterates over a domain
statement_refusals p around (st.Foreach at number domain body) =
    inner_refusals p (scope_of around) domain ++ judged (operand_type p (scope_of around) domain)
    (λ t. operand_refusal at (is_some (domain_dim t)) false)
-- a jump is in a loop
statement_refusals p around (st.Break at) = refused_if (is_none around.jump_has) Y8 at
statement_refusals p around (st.Continue at) = refused_if (is_none around.jump_has) Y8 at
statement_refusals p around (st.Return at value) = return_refusals p (scope_of around) at (result_type around.method) value
-- a block, a barrier and an empty statement break no rule themselves
statement_refusals p around x = []

-- the errors of a statement in its context
abbrev pub standing_refusals : ProgramView → StmtInContext → List Refusal
standing_refusals p x = statement_refusals p x.around x.statement
