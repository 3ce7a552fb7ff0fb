-- The reasons for the refusals by the rules of types and qualifiers: of an expression, of a statement, of a method and of a class.
use Rattle.std.specs.Prelude.{ℕ, Bool, true, false, not, ◌&&◌, if◌then◌else◌, List, [], ◌∷◌, ◌++◌, flat_map, length, Contains, Option, Some, None, slice_get, option_and_then}
use Rattle.std.specs.Option.{option_map, option_map_or, option_or, unwrap_or}
use Rattle.ti_base.specs.declared.place.Place.{Place}
use Rattle.ti_base.specs.Places.{same_place}
use Rattle.ti_syntax.specs.Trees.Classes.{MemberTree, FieldMember, MethodMember, ClassTree, TextTree}
use Rattle.ti_lang.specs.Members.{is_static}
use Rattle.ti_lang.specs.Program.Types.{ValueType, Class}
use Rattle.ti_lang.specs.Program.Expressions.{NumberedExp, NumberedExps, NumberedRange, NumberedRanges, place_of_numbered, numbered_ranges}
use Rattle.ti_lang.specs.Program.Expressions as x
use Rattle.ti_lang.specs.Program.Statements.{NumberedDims, NumberedInit, NumberedPrint, NumberedStm}
use Rattle.ti_lang.specs.Program.Statements as st
use Rattle.ti_lang.specs.Program.Classes.{NumberedParam, NumberedParams, MainArgs, Params, NumberedMethod, ProgramView}
use Rattle.ti_lang.specs.Program.Scope.{ScopeContents}
use Rattle.ti_lang.specs.Typing.Called.{method_behind}
use Rattle.ti_lang.specs.Typing.Declared.{result_type}
use Rattle.ti_lang.specs.Typing.Expressions.{expr_type, operand_type}
use Rattle.ti_rules.specs.declared.rule.Rule.{Rule}
use Rattle.ti_rules.specs.declared.rule.Rule.TheVariants.{Y1, Y2, Y4, Y6, Y7, Q2}
use Rattle.ti_rules.specs.declared.refusal.Refusal.{Refusal}
use Rattle.ti_rules.specs.InitialTypes.{initial_type}
use Rattle.ti_rules.specs.StmtInContext.{StmtContext, StmtInContext, scope_of, standing_in}
use Rattle.ti_rules.specs.TypeRules.{class_refusals, head_refusals, end_refusals}
use Rattle.ti_lang.specs.Typing.BuiltIn.{BuiltIn, built_in}
use Rattle.ti_rules.specs.Broken.Calls.{argument_count}
use Rattle.ti_rules.specs.Broken.Misplaced.{gives_nothing}
use Rattle.ti_rules.specs.Broken.Statements.{standing_refusals}
use Rattle.ti_rules.specs.Broken.Targets.{is_foreach_variable, is_point_coordinate, is_hidden_local}
use Rattle.ti_explain.specs.declared.type_reason.TypeReason.{TypeReason}
use Rattle.ti_explain.specs.declared.type_reason.TypeReason.TheVariants.{Has, Wants, Takes, Member, Value, Target, Word}
use Rattle.ti_explain.specs.declared.type_reason.ValueDefect.{ValueDefect}
use Rattle.ti_explain.specs.declared.type_reason.ValueDefect.TheVariants.{InnerCall, NoValue, ReturnsNothing, ReturnsValue, NoLastReturn}
use Rattle.ti_explain.specs.declared.type_reason.TargetDefect.{TargetDefect}
use Rattle.ti_explain.specs.declared.type_reason.TargetDefect.TheVariants.{Coordinate, ForeachVariable, HiddenLocal}
use Rattle.ti_explain.specs.declared.type_reason.WordDefect.{WordDefect}
use Rattle.ti_explain.specs.declared.faulty_parts.SoughtPart.{SoughtPart}
use Rattle.ti_explain.specs.declared.faulty_parts.SoughtPart.TheVariants.{At, Refused}
use Rattle.ti_explain.specs.declared.reason.RefusalReason.{RefusalReason}
use Rattle.ti_explain.specs.declared.reason.ReasonKind.TheVariants.{Typing}
use Rattle.ti_explain.specs.Declarations.{declaration_of}
use Rattle.ti_explain.specs.FaultyParts.{first_in_statement}
use Rattle.ti_explain.specs.MisplacedWords.{defect_in_classes, defect_in_head, defect_in_statement, defect_in_cast}
use Rattle.ti_explain.specs.SingleReasons.{arguments_of_whole}
use Rattle.ti_explain.specs.TypeTexts.{type_text}

abbrev pub type_reason : Place → TypeReason → RefusalReason
type_reason at what = record { place = at; kind = Typing what }

-- what is at this position has a type, if it has one
abbrev pub has_type : TextTree → Place → Option ValueType → List RefusalReason
has_type text at None = []
has_type text at (Some t) = type_reason at (Has (type_text text t)) ∷ []

-- what is at this position wants a type, if one is known
abbrev pub wants_type : TextTree → Place → Option ValueType → List RefusalReason
wants_type text at None = []
wants_type text at (Some t) = type_reason at (Wants (type_text text t)) ∷ []

-- ---- members

-- a member that could be meant: a field, or an instance method
abbrev pub member_reason : Bool → MemberTree → List RefusalReason
member_reason is_called (FieldMember f) = if is_called then [] else type_reason f.place Member ∷ []
member_reason is_called (MethodMember m) = if is_called && not (is_static m) then type_reason m.place Member ∷ [] else []

-- the members of the class of this number
abbrev pub class_members : TextTree → Bool → ℕ → List RefusalReason
class_members text is_called class = option_map_or (λ (c : ClassTree). flat_map (member_reason is_called) c.members) (slice_get text class) []

-- the members of values of this type, if it is a class
abbrev pub members_of_type : TextTree → Bool → Option ValueType → List RefusalReason
members_of_type text is_called (Some (Class c is_local)) = class_members text is_called c
members_of_type text is_called t = []

-- ---- calls

-- the declared method that the expression calls
abbrev pub callee : ProgramView → ScopeContents → NumberedExp → Option NumberedMethod
callee p s (x.Call at method args) = slice_get p.methods method
callee p s (x.OwnCall at method args) = slice_get p.methods method
callee p s (x.Member at a name args) = option_and_then (λ t. method_behind p t name) (operand_type p s a)
callee p s e = None

-- the parameters, each with the type that it wants
abbrev pub parameters_wanted : TextTree → List NumberedParam → List RefusalReason
parameters_wanted text [] = []
parameters_wanted text (q ∷ rest) = wants_type text q.place (Some q.ty.type) ++ parameters_wanted text rest

-- how many arguments the built-in member takes that an expression names
abbrev pub built_in_told : ProgramView → NumberedExp → List RefusalReason
built_in_told p (x.Member at a name args) = option_map_or (λ (b : BuiltIn). type_reason at (Takes (argument_count b)) ∷ []) (built_in p name) []
built_in_told p e = []

-- the number of the parameters and their types; `String[] x` is one parameter, of no type
abbrev pub parameters_told : TextTree → NumberedMethod → NumberedParams → List RefusalReason
parameters_told text m MainArgs = type_reason m.place (Takes 1) ∷ []
parameters_told text m (Params params) = type_reason m.place (Takes (length params)) ∷ parameters_wanted text params

-- what the declared method takes that an expression calls, or else the built-in member
abbrev pub callee_told : TextTree → ProgramView → NumberedExp → Option NumberedMethod → List RefusalReason
callee_told text p e None = built_in_told p e
callee_told text p e (Some m) = parameters_told text m m.params

-- the call can't be where it is, or gives no value
abbrev pub value_defect : ProgramView → ScopeContents → NumberedExp → ValueDefect
value_defect p s e = if gives_nothing (expr_type p s e) then NoValue else InnerCall

-- ---- expressions

module _ (text : TextTree) (p : ProgramView) (s : ScopeContents) where
  abbrev pub typed : NumberedExp → List RefusalReason
  typed e = has_type text (place_of_numbered e) (expr_type p s e)

  abbrev pub typed_all : NumberedExps → List RefusalReason
  typed_all x.NoExp = []
  typed_all (x.MoreExp a rest) = typed a ++ typed_all rest

  abbrev pub typed_range : NumberedRange → List RefusalReason
  typed_range (x.Plain low high) = typed low ++ typed high
  typed_range (x.Stepped low high step) = typed low ++ (typed high ++ typed step)

  abbrev pub typed_ranges : NumberedRanges → List RefusalReason
  typed_ranges x.NoRange = []
  typed_ranges (x.MoreRange r rest) = typed_range r ++ typed_ranges rest

  abbrev pub typed_maybe : Option NumberedExp → List RefusalReason
  typed_maybe None = []
  typed_maybe (Some e) = typed e

  -- the types of the operands of an expression; of a cast, also the one that it wants
  abbrev pub operands_typed : NumberedExp → List RefusalReason
  operands_typed (x.Call at method args) = typed_all args
  operands_typed (x.OwnCall at method args) = typed_all args
  operands_typed (x.Point at xs) = typed_all xs
  operands_typed (x.Rect at ranges) = typed_ranges ranges
  operands_typed (x.Unary at op a) = typed a
  operands_typed (x.Binary at op a b) = typed a ++ typed b
  operands_typed (x.Cast at to a) = typed a ++ wants_type text at (Some to.type)
  operands_typed (x.Select at a name) = typed a
  operands_typed (x.Member at a name args) = typed a ++ typed_all args
  operands_typed (x.Index at a xs) = typed a ++ typed_all xs
  operands_typed e = []

  -- the members that could be meant by the name of one
  abbrev pub members_meant : NumberedExp → List RefusalReason
  members_meant (x.Select at a name) = members_of_type text false (operand_type p s a)
  members_meant (x.Member at a name args) = members_of_type text true (operand_type p s a)
  members_meant e = []

  -- ---- calls

  -- the argument, if it is at this position, and its parameter
  abbrev pub argument_told : Place → NumberedExp → NumberedParam → List RefusalReason
  argument_told at a q = if same_place at (place_of_numbered a) then typed a ++ wants_type text q.place (Some q.ty.type) else []

  abbrev pub arguments_told : Place → NumberedExps → List NumberedParam → List RefusalReason
  arguments_told at (x.MoreExp a rest) (q ∷ others) = argument_told at a q ++ arguments_told at rest others
  arguments_told at args params = []

  -- ---- an expression

  -- the argument at the position, and its parameter; `String[] x` has no type
  abbrev pub method_told : Place → NumberedExp → NumberedParams → List RefusalReason
  method_told at e MainArgs = operands_typed e
  method_told at e (Params params) = arguments_told at (arguments_of_whole e) params

  -- the types of the operands, and the members that could be meant; but of a call of a declared method, the argument and its parameter
  abbrev pub types_told : Place → NumberedExp → Option NumberedMethod → List RefusalReason
  types_told at e None = operands_typed e ++ members_meant e
  types_told at e (Some m) = method_told at e m.params

  -- the reasons for an expression that breaks the rule
  abbrev pub part_reasons : Rule → Place → NumberedExp → List RefusalReason
  part_reasons Y4 at e = callee_told text p e (callee p s e)
  part_reasons Y6 at e = type_reason (place_of_numbered e) (Value (value_defect p s e)) ∷ []
  part_reasons rule at e = types_told at e (callee p s e)

-- ---- right sides

-- the position of a right side
abbrev pub place_of_initial : NumberedInit → Place
place_of_initial (st.Value e) = place_of_numbered e
place_of_initial (st.NewRegion at) = at
place_of_initial (st.NewObject at region class) = at
place_of_initial (st.NewGrid at region element dims_at dims) = at
place_of_initial (st.Broadcast at e root) = at

module _ (text : TextTree) (p : ProgramView) (s : ScopeContents) where
  -- the type of a right side
  abbrev pub initial_typed : NumberedInit → List RefusalReason
  initial_typed value = has_type text (place_of_initial value) (initial_type p s value)

  abbrev pub dims_typed : NumberedDims → List RefusalReason
  dims_typed (st.Domain e) = typed text p s e
  dims_typed (st.Ranges ranges) = typed_ranges text p s (numbered_ranges ranges)

  -- the types of the operands of a right side
  abbrev pub parts_typed : NumberedInit → List RefusalReason
  parts_typed (st.Value e) = typed text p s e
  parts_typed (st.NewRegion at) = []
  parts_typed (st.NewObject at region class) = typed_maybe text p s region
  parts_typed (st.NewGrid at region element dims_at dims) = typed_maybe text p s region ++ dims_typed dims
  parts_typed (st.Broadcast at e root) = typed text p s e ++ typed text p s root

  abbrev pub printed_typed : NumberedPrint → List RefusalReason
  printed_typed st.Nothing = []
  printed_typed (st.Text literal) = []
  printed_typed (st.Expression e) = typed text p s e
  printed_typed (st.TextAndExpression literal e) = typed text p s e

-- ---- targets

-- why nothing can be stored into the target, if that is what breaks the rule
abbrev pub target_defect : ProgramView → ScopeContents → Rule → NumberedExp → Option TargetDefect
target_defect p s Y1 target = if is_point_coordinate p s target then Some Coordinate else None
target_defect p s Y2 target = if is_foreach_variable target then Some ForeachVariable else None
target_defect p s Q2 target = Some HiddenLocal
target_defect p s rule target = None

-- what is wrong with the target, or else these reasons
abbrev pub target_or : NumberedExp → Option TargetDefect → List RefusalReason → List RefusalReason
target_or target None reasons = reasons
target_or target (Some defect) reasons = type_reason (place_of_numbered target) (Target defect) ∷ []

-- the position of a target: of a variable, that of its declaration
abbrev pub place_of_target : NumberedMethod → NumberedExp → Place
place_of_target m (x.Variable at v) = unwrap_or (declaration_of m v.number) at
place_of_target m e = place_of_numbered e

-- ---- a statement

-- the type of the result, at the method
abbrev pub result_wanted : TextTree → NumberedMethod → List RefusalReason
result_wanted text m = wants_type text m.place (Some (result_type m))

module _ (text : TextTree) (p : ProgramView) (around : StmtContext) where
  -- the type that the target of an assignment wants
  abbrev pub target_wants : NumberedExp → List RefusalReason
  target_wants target = wants_type text (place_of_target around.method target) (expr_type p (scope_of around) target)

  -- the reasons for a `return` that breaks the rule
  abbrev pub return_told : Rule → Place → Option NumberedExp → List RefusalReason
  return_told Y6 at None = type_reason at (Value ReturnsNothing) ∷ result_wanted text around.method
  return_told Y6 at (Some e) = type_reason at (Value ReturnsValue) ∷ result_wanted text around.method
  return_told rule at value = typed_maybe text p (scope_of around) value ++ result_wanted text around.method

  -- the reasons for a declaration: the type of its value and its own, or if the error isn't at its name, those of the parts of its value
  abbrev pub declare_told : Place → Place → ValueType → NumberedInit → List RefusalReason
  declare_told here at type value =
      if same_place here at then initial_typed text p (scope_of around) value ++ wants_type text at (Some type)
      else parts_typed text p (scope_of around) value

  -- the same for an assignment
  abbrev pub assign_told : Refusal → Place → NumberedExp → NumberedInit → List RefusalReason
  assign_told r at target value =
      if same_place r.place at
      then target_or target (target_defect p (scope_of around) r.rule target)
      (initial_typed text p (scope_of around) value ++ target_wants target)
      else parts_typed text p (scope_of around) value

  -- the reasons for a statement that breaks the rule by itself, while no expression in it does
  abbrev pub own_reasons : Refusal → NumberedStm → List RefusalReason
  own_reasons r (st.Declare at type variable value) = declare_told r.place at type.type value
  own_reasons r (st.Assign at target value) = assign_told r at target value
  own_reasons r (st.Update at op target e) =
      target_or target (target_defect p (scope_of around) r.rule target)
      (typed text p (scope_of around) target ++ typed text p (scope_of around) e)
  own_reasons r (st.Step at op target) =
      target_or target (target_defect p (scope_of around) r.rule target) (typed text p (scope_of around) target)
  own_reasons r (st.Print at what) = printed_typed text p (scope_of around) what
  own_reasons r (st.If at c a) = typed text p (scope_of around) c
  own_reasons r (st.IfElse at c a b) = typed text p (scope_of around) c
  own_reasons r (st.While at c body) = typed text p (scope_of around) c
  own_reasons r (st.For at first c update body) = typed_maybe text p (scope_of around) c
  own_reasons r (st.Foreach at number domain body) = typed text p (scope_of around) domain
  own_reasons r (st.Return at value) = return_told r.rule at value
  own_reasons r other = []

-- what is sought in a statement: for Y6 the expression at the position, else the one that has the error
abbrev pub sought_by : Rule → Refusal → SoughtPart
sought_by Y6 r = At r.place
sought_by rule r = Refused r

-- the reasons of the expression that breaks the rule, or if there is none, those of the statement itself
abbrev pub found_or_own : TextTree → ProgramView → StmtInContext → Refusal → Option NumberedExp → List RefusalReason
found_or_own text p x r None = own_reasons text p x.around r x.statement
found_or_own text p x r (Some e) = part_reasons text p (scope_of x.around) r.rule r.place e

-- what is wrong with the keyword at the position
abbrev pub word_reasons : Place → Option WordDefect → List RefusalReason
word_reasons at None = []
word_reasons at (Some defect) = type_reason at (Word defect) ∷ []

-- what is wrong with the keyword at the position in a statement: in its own types, or in a cast, which is the expression that was found
abbrev pub statement_word : Place → NumberedStm → Option NumberedExp → List RefusalReason
statement_word at x found = word_reasons at (option_or (defect_in_statement at x) (defect_in_cast at found))

-- the reasons why this statement is refused by the rule, with the expression that was found
abbrev pub told_by : Rule → TextTree → ProgramView → StmtInContext → Refusal → Option NumberedExp → List RefusalReason
told_by Y7 text p x r found = statement_word r.place x.statement found
told_by rule text p x r found = found_or_own text p x r found

-- the reasons why this statement is refused
abbrev pub type_statement_reasons : TextTree → ProgramView → StmtInContext → Refusal → List RefusalReason
type_statement_reasons text p x r =
    told_by r.rule text p x r (first_in_statement p (scope_of x.around) (sought_by r.rule r) x.statement)

-- ---- a method

-- the errors of the head and the end of a method
abbrev pub type_head_refusals : NumberedMethod → List Refusal
type_head_refusals m = head_refusals m ++ end_refusals m

-- the reasons why the head of a method is refused: that it has no `return` at its end, or what is wrong with the keyword there
abbrev pub type_head_reasons : NumberedMethod → Rule → Place → List RefusalReason
type_head_reasons m Y6 at = type_reason m.place (Value NoLastReturn) ∷ []
type_head_reasons m rule at = word_reasons at (defect_in_head at m)

-- these are the reasons for a refusal by the rules of types and qualifiers: those of a statement, of a method, or of the classes
pub data AreTypeReasons (text : TextTree) (p : ProgramView) (refusal : Refusal) : List RefusalReason → Type 0 where
  of_statement : {x : StmtInContext} → Contains (standing_in p) x → Contains (standing_refusals p x) refusal
      → AreTypeReasons text p refusal (type_statement_reasons text p x refusal)
  of_head : {m : NumberedMethod} → Contains p.methods m → Contains (type_head_refusals m) refusal
      → AreTypeReasons text p refusal (type_head_reasons m refusal.rule refusal.place)
  of_classes : Contains (flat_map class_refusals p.classes) refusal
      → AreTypeReasons text p refusal (word_reasons refusal.place (defect_in_classes refusal.place p.classes))
