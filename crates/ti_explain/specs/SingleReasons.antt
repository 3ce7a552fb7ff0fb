-- The reasons for the refusals by the rules of single values: of a statement, and of a method.
use Rattle.std.specs.Prelude.{Bool, true, false, if◌then◌else◌, List, [], ◌∷◌, ◌++◌, Contains, Option, Some, None, option_and_then}
use Rattle.std.specs.List.{list_any}
use Rattle.std.specs.Option.{option_or, unwrap_or}
use Rattle.ti_base.specs.declared.place.Place.{Place}
use Rattle.ti_base.specs.Places.{same_place}
use Rattle.ti_lang.specs.Program.Expressions.{NumberedExp, NumberedExps, place_of_numbered}
use Rattle.ti_lang.specs.Program.Expressions as x
use Rattle.ti_lang.specs.Program.Statements.{NumberedInit, NumberedStm, numbered_stms}
use Rattle.ti_lang.specs.Program.Statements as st
use Rattle.ti_lang.specs.Program.Classes.{NumberedMethod, ProgramView}
use Rattle.ti_lang.specs.Program.Scope.{this_of}
use Rattle.ti_rules.specs.declared.rule.Rule.{Rule}
use Rattle.ti_rules.specs.declared.rule.Rule.TheVariants.{S4, S5, S6}
use Rattle.ti_rules.specs.declared.refusal.Refusal.{Refusal}
use Rattle.ti_rules.specs.StmtInContext.{StmtContext, StmtInContext, scope_of, singles_in, standing_in}
use Rattle.ti_rules.specs.SingleRules.{effect_refusals, result_refusals, standing_single_refusals}
use Rattle.ti_explain.specs.declared.reason.PlainPart.{PlainPart}
use Rattle.ti_explain.specs.declared.reason.EffectAt.{EffectAt}
use Rattle.ti_explain.specs.declared.reason.RefusalReason.{RefusalReason}
use Rattle.ti_explain.specs.declared.reason.ReasonKind.{ReasonKind}
use Rattle.ti_explain.specs.declared.reason.ReasonKind.TheVariants.{Plain, PlainDeclaration, Effect, PlainMethod}
use Rattle.ti_explain.specs.Declarations.{declaration_of}
use Rattle.ti_explain.specs.PlainParts.{plain_part, plain_whole, plain_initial}
use Rattle.ti_explain.specs.FirstEffects.{first_effect, first_effect_of_maybe, first_effect_of_all, loop_effect}

-- ---- what has to be single

-- the root of a broadcast; the receiver of a call of a member, which is a region if the call deletes one
abbrev pub root_of_whole : NumberedExp → Option NumberedExp
root_of_whole (x.Member at a name args) = Some a
root_of_whole e = None

abbrev pub root_of_initial : NumberedInit → Option NumberedExp
root_of_initial (st.Value e) = root_of_whole e
root_of_initial (st.Broadcast at e root) = Some root
root_of_initial value = None

-- the condition, domain, returned value, root or region that the rules other than S4 and S5 want to be single
abbrev pub single_operand : NumberedStm → Option NumberedExp
single_operand (st.Declare at type variable value) = root_of_initial value
single_operand (st.Assign at target value) = root_of_initial value
single_operand (st.Update at op target e) = root_of_whole e
single_operand (st.Call e) = root_of_whole e
single_operand (st.If at c a) = Some c
single_operand (st.IfElse at c a b) = Some c
single_operand (st.While at c body) = Some c
single_operand (st.For at first c update body) = c
single_operand (st.Foreach at number domain body) = Some domain
single_operand (st.Return at value) = value
single_operand x = None

-- the arguments of a call
abbrev pub arguments_of_whole : NumberedExp → NumberedExps
arguments_of_whole (x.Call at method args) = args
arguments_of_whole (x.OwnCall at method args) = args
arguments_of_whole (x.Member at a name args) = args
arguments_of_whole e = x.NoExp

abbrev pub arguments_of_initial : NumberedInit → NumberedExps
arguments_of_initial (st.Value e) = arguments_of_whole e
arguments_of_initial value = x.NoExp

-- the arguments of the call that is the statement or its right side
abbrev pub arguments_in : NumberedStm → NumberedExps
arguments_in (st.Declare at type variable value) = arguments_of_initial value
arguments_in (st.Assign at target value) = arguments_of_initial value
arguments_in (st.Update at op target e) = arguments_of_whole e
arguments_in (st.Call e) = arguments_of_whole e
arguments_in other = x.NoExp

-- ---- statements

module _ (p : ProgramView) (around : StmtContext) where
  -- the plain part of an operand in this context
  abbrev pub part_here : NumberedExp → Option PlainPart
  part_here e = plain_part p (this_of around.method) (singles_in (scope_of around)) e

  -- the plain part of the value that is stored
  abbrev pub plain_value : NumberedStm → Option PlainPart
  plain_value (st.Declare at type variable value) = plain_initial p (this_of around.method) (singles_in (scope_of around)) value
  plain_value (st.Assign at target value) = plain_initial p (this_of around.method) (singles_in (scope_of around)) value
  plain_value (st.Update at op target e) = plain_whole p (this_of around.method) (singles_in (scope_of around)) e
  plain_value x = None

  -- the plain part of the arguments at this position
  abbrev pub plain_argument : Place → NumberedExps → Option PlainPart
  plain_argument at x.NoExp = None
  plain_argument at (x.MoreExp e rest) =
      option_or (if same_place at (place_of_numbered e) then part_here e else None) (plain_argument at rest)

  -- the part of the statement that the rule wants to be single and that is plain
  abbrev pub plain_for : Rule → Place → NumberedStm → Option PlainPart
  plain_for S4 at x = plain_value x
  plain_for S5 at x = plain_argument at (arguments_in x)
  plain_for rule at x = option_and_then part_here (single_operand x)

  -- the effect for which all processes have to take the same way through the statement; a jump out of a loop is one in its update
  abbrev pub effect_inside : NumberedStm → Option EffectAt
  effect_inside (st.If at c a) = first_effect p around.method (unwrap_or around.jump_has false) (st.If at c a)
  effect_inside (st.IfElse at c a b) = first_effect p around.method (unwrap_or around.jump_has false) (st.IfElse at c a b)
  effect_inside (st.For at first c update body) =
      option_or (loop_effect p around.method (st.For at first c update body)) (first_effect_of_maybe p around.method true update)
  effect_inside x = loop_effect p around.method x

-- ---- reasons

abbrev pub plain_reason : Option PlainPart → List RefusalReason
plain_reason None = []
plain_reason (Some part) = record { place = part.place; kind = Plain part.cause } ∷ []

abbrev pub effect_reason : Option EffectAt → List RefusalReason
effect_reason None = []
effect_reason (Some found) = record { place = found.place; kind = Effect found.effect } ∷ []

-- where the variable is declared that is the plain part, if it is one
abbrev pub plain_declaration : NumberedMethod → Option PlainPart → Option Place
plain_declaration m part = option_and_then (declaration_of m) (option_and_then (λ (found : PlainPart). found.variable) part)

abbrev pub declaration_reason : Option Place → List RefusalReason
declaration_reason None = []
declaration_reason (Some at) = record { place = at; kind = PlainDeclaration } ∷ []

-- the plain part, with the declaration of the variable that it may be
abbrev pub plain_reasons : NumberedMethod → Option PlainPart → List RefusalReason
plain_reasons m part = plain_reason part ++ declaration_reason (plain_declaration m part)

-- the reasons why this statement is refused: the part that is plain, and the effect that wants it to be single
abbrev pub statement_reasons : ProgramView → StmtInContext → Refusal → List RefusalReason
statement_reasons p x refusal =
    plain_reasons x.around.method (plain_for p x.around refusal.rule refusal.place x.statement)
    ++ effect_reason (effect_inside p x.around x.statement)

-- the refusals of the head of a method: global effects without `single`, and a single result without it
abbrev pub single_head_refusals : ProgramView → NumberedMethod → List Refusal
single_head_refusals p m = effect_refusals p m ++ result_refusals m.is_single m.result

-- the reasons why the head of a method is refused: for S6 the first effect in its body, for S9 that the method isn't single
abbrev pub head_reasons : ProgramView → NumberedMethod → Rule → List RefusalReason
head_reasons p m S6 = effect_reason (first_effect_of_all p m false (numbered_stms m.body))
head_reasons p m rule = record { place = m.place; kind = PlainMethod } ∷ []

-- these are the reasons for a refusal by the rules of single values: those of a statement, or of a method, that is refused so
pub data AreSingleReasons (p : ProgramView) (refusal : Refusal) : List RefusalReason → Type 0 where
  of_statement : {x : StmtInContext} → Contains (standing_in p) x → Contains (standing_single_refusals p x) refusal
      → AreSingleReasons p refusal (statement_reasons p x refusal)
  of_head : {m : NumberedMethod} → Contains p.methods m → Contains (single_head_refusals p m) refusal
      → AreSingleReasons p refusal (head_reasons p m refusal.rule)

-- a reason that names a cause: a plain part, or a global effect
abbrev pub is_cause : ReasonKind → Bool
is_cause (Plain why) = true
is_cause (Effect what) = true
is_cause kind = false

-- one of the reasons names a cause
abbrev pub names_cause : List RefusalReason → Bool
names_cause reasons = list_any (λ (r : RefusalReason). is_cause r.kind) reasons
