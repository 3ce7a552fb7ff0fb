-- Proves that each instruction of the code of every program is well-formed.
use Rattle.std.proofs.Common.{◌≡◌, inl, inr, ℕ, zero, suc, ◌+◌, ◌==◌, Bool, true, false, length, List, [], ◌∷◌, ◌++◌, pos, Option, Some, None, refl, ap, ◌∙◌}
use Rattle.std.specs.Prelude.{All}
use Rattle.std.proofs.lemmas.List.Elements.{All-nil, All-cons, All-map, All-weaker}
use Rattle.ti_base.specs.declared.place.Place.{Place}
use Rattle.ti_lang.specs.Program.Types.{ValueType, VariableUse}
use Rattle.ti_lang.specs.Program.Expressions.{NumberedExp, NumberedExps, numbered_ranges, place_of_numbered}
use Rattle.ti_lang.specs.Program.Expressions as e
use Rattle.ti_lang.specs.Program.Statements.{NumberedDims, NumberedInit, NumberedPrint, NumberedStm, MaybeNumbered, NoStm, SomeStm, NumberedStms, Nil, Cons, numbered_stms}
use Rattle.ti_lang.specs.Program.Statements as s
use Rattle.ti_lang.specs.Program.Classes.{NumberedMethod, ProgramView}
use Rattle.ti_lang.specs.Program.Scope.{this_of}
use Rattle.ti_lang.specs.Program.Types as t
use Rattle.ti_lang.specs.Typing.BuiltIn.{BuiltIn, Copy, Exchange, Delete}
use Rattle.ti_lang.specs.Typing.Called.{called_method, member_called}
use Rattle.ti_lang.specs.Typing.Declared.{result_type}
use Rattle.ti_lang.specs.Typing.Kinds.{element_of}
use Rattle.ti_lang.specs.Typing.TextTypes.{syntactic_type, how_many}
use Rattle.ti_lang.specs.Meaning.Held.{Held, Plain, Dm}
use Rattle.ti_lang.specs.Meaning.Calls.{Call, call_by, parameters_of}
use Rattle.ti_lang.specs.Meaning.Processes.{Receiver, Nowhere, Declared, Assigned, Updated}
use Rattle.ti_lang.specs.Meaning.Scoping.{declared_type, zero_declared}
use Rattle.ti_lang.specs.Meaning.Statements.{declared_as, one_more}
use Rattle.ti_code.specs.declared.instr.Instr.{Instr}
use Rattle.ti_code.specs.declared.instr.Instr.TheVariants as i
use Rattle.ti_code.specs.declared.instr.Operation.{Operation}
use Rattle.ti_code.specs.Forms.{IsFormedInstr, IsFormedMethod, AreFormedMethods}
use Rattle.ti_lower_expr.specs.Slots.{Name, Hidden, Point, has_this}
use Rattle.ti_lower_expr.specs.Methods.{names_in_method}
use Rattle.ti_lower_expr.specs.declared.kinds.OperandClass.{OperandClass}
use Rattle.ti_lower_expr.specs.declared.kinds.OperandClass.TheVariants.{Numbers}
use Rattle.ti_lower_expr.specs.declared.kinds.StaticRepr.{StaticRepr}
use Rattle.ti_lower_expr.specs.declared.kinds.StaticRepr.TheVariants as known
use Rattle.ti_lower_expr.specs.Knowing.{known_of}
use Rattle.ti_lower_expr.specs.Coding.{constant, kind_in, code_of}
use Rattle.ti_lower_expr.proofs.Lemmas.{is_simple, IsLowered, AllCome, formed_from_comes, simple_come, both_come, next_comes, then_come}
use Rattle.ti_lower_expr.proofs.Lemmas.{loaded_comes, own_simple, conversion_comes, pops_come, code_comes, all_come}
use Rattle.ti_lower.specs.Calling.{number_called, args_code, call_code}
use Rattle.ti_lower.specs.Calling as calling
use Rattle.ti_lower.specs.Receivers.{written_slot, keep_code, TargetKind, InSlot, InField, InElement, store_code, update_code, kind_of_target, place_code, into_code, waiting_code, late_code}
use Rattle.ti_lower.specs.StmtCode.{LoopTargets, names_after, as_element, pop_domain, break_code, continue_code, first_code, print_code}
use Rattle.ti_lower.specs.StmtCode.{condition_code, loop_code, walk_code, root_code, broadcast_code, region_code, spread_code, object_code}
use Rattle.ti_lower.specs.StmtCode.{grid_code, valued_code, init_code, both_code, copy_code, exchange_code, form_code, other_code, alone_code}
use Rattle.ti_lower.specs.StmtCode.{gives_nothing, stm_code, stms_code, maybe_code}
use Rattle.ti_lower.specs.Programs.{in_main, body_code, instrs_in, method_code, end_in, methods_code}

-- ---- the way of a value

kept_simple : (o : Option ℕ) → is_simple (keep_code o) ≡ true
kept_simple (Some k) = refl
kept_simple None = refl

store_comes : (names : List Name) (p : Place) (k : TargetKind) → AllCome (store_code names p k)
store_comes names p (InSlot x) = then_come (kept_simple (written_slot x names)) (simple_come refl)
store_comes names p (InField field) = simple_come refl
store_comes names p InElement = simple_come refl

-- so it is from each instruction on, whatever names the slots have
abbrev AnywhereCome : (List Name → ℕ → List Instr) → Type 0
AnywhereCome right = (names : List Name) (from : ℕ) → AllCome (right names from)

update_comes : (names : List Name) (p q : Place) (name : Operation) (k : StaticRepr) (type : ValueType) (target : TargetKind) (right : List Name → ℕ → List Instr) (at : ℕ)
    → AnywhereCome right → AllCome (update_code names p q name k type target right at)
update_comes names p q name k type (InSlot x) right at f =
    next_comes (loaded_comes (written_slot x names) x) (both_come (f names _) (then_come refl (both_come (conversion_comes p type k) (store_comes names p (InSlot x)))))
update_comes names p q name k type (InField field) right at f =
    then_come refl (then_come refl (both_come (f names _) (then_come refl (both_come (conversion_comes p type k) (simple_come refl)))))
update_comes names p q name k type InElement right at f =
    then_come refl (then_come refl (then_come refl (then_come refl
    (both_come (f (Hidden ∷ names) _) (then_come refl (both_come (conversion_comes p type k) (simple_come refl)))))))

module _ (program : ProgramView) (this : Option ℕ) where
  place_comes : (names : List Name) (x : NumberedExp) (at : ℕ) → AllCome (place_code program this names x at)
  place_comes names (e.Variable q x) at = simple_come refl
  place_comes names (e.OwnField q field) at = then_come (own_simple (has_this names)) (simple_come refl)
  place_comes names (e.Select q x name) at = code_comes program this names x at
  place_comes names (e.Index q x parts) at = both_come (code_comes program this names x at) (both_come (all_come program this names parts _) (simple_come refl))
  place_comes names other at = simple_come refl

  into_comes : (r : Receiver) (kind : OperandClass) (k : StaticRepr) (right : List Name → ℕ → List Instr) (names : List Name) (at : ℕ) → AnywhereCome right
      → AllCome (into_code program this r kind k right names at)
  into_comes Nowhere kind k right names at f = both_come (f names at) (simple_come refl)
  into_comes (Declared p x) kind k right names at f = both_come (f names at) (both_come (conversion_comes p (declared_type x.declared) k) (simple_come refl))
  into_comes (Assigned p target) kind k right names at f =
      both_come (place_comes names target at) (both_come (f names _) (both_come (conversion_comes p (syntactic_type program this target) k) (store_comes names p (kind_of_target program this target))))
  into_comes (Updated p op target) kind k right names at f = both_come (place_comes names target at) (update_comes names p _ _ _ _ _ right _ f)

  waiting_comes : (r : Receiver) (kind : OperandClass) (k : StaticRepr) (names : List Name) (at : ℕ) → AllCome (waiting_code program this r kind k names at)
  waiting_comes r kind k names at =
      then_come refl (both_come (into_comes r kind k (λ ns from. i.Load (length names) ∷ []) (Hidden ∷ names) (at + 1) (λ ns from. simple_come refl)) (simple_come refl))

  late_comes : (r : Receiver) (kind : OperandClass) (k : StaticRepr) (names : List Name) (at : ℕ) → AllCome (late_code program this r kind k names at)
  late_comes Nowhere kind k names at = simple_come refl
  late_comes (Declared p x) kind k names at = both_come (conversion_comes p (declared_type x.declared) k) (simple_come refl)
  late_comes (Assigned p (e.Variable q x)) kind k names at =
      both_come (conversion_comes p (syntactic_type program this (e.Variable q x)) k) (then_come (kept_simple (written_slot x names)) (simple_come refl))
  late_comes r kind k names at = waiting_comes r kind k names at

  -- ---- calls

  args_come : (names : List Name) (ps : List VariableUse) (xs : NumberedExps) (at : ℕ) → AllCome (args_code program this names ps xs at)
  args_come names (p ∷ ps) (e.MoreExp x xs) at = both_come (both_come (code_comes program this names x at)
      (conversion_comes (place_of_numbered x) (declared_type p.declared) (known_of program this x))) (args_come names ps xs _)
  args_come names ps xs at = simple_come refl

  receiver_comes : (names : List Name) (x : Option NumberedExp) (at : ℕ) → AllCome (calling.object_code program this names x at)
  receiver_comes names None at = simple_come refl
  receiver_comes names (Some x) at = code_comes program this names x at

  call_comes : (names : List Name) (k : ℕ) (c : Call) (at : ℕ) → AllCome (call_code program this names k c at)
  call_comes names k c at = both_come (receiver_comes names c.object at) (both_come (args_come names (parameters_of c.method.params) c.args _) (simple_come refl))

-- ---- copies and exchanges

element_comes : (type : ValueType) → AllCome (as_element type)
element_comes t.Long = simple_come refl
element_comes t.Int = simple_come refl
element_comes (t.Class class is_local) = simple_come refl
element_comes (t.Grid element dim is_local) = simple_come refl
element_comes type = simple_come refl

first_comes : (n : ℕ) → AllCome (first_code n)
first_comes zero = simple_come refl
first_comes (suc n) = pops_come n

module _ (program : ProgramView) (this : Option ℕ) (names : List Name) where
  abbrev of_comes : (x : NumberedExp) (at : ℕ) → AllCome (code_of program this names x at)
  of_comes = code_comes program this names

  both_sides_come : (x : NumberedExp) (args : NumberedExps) (at : ℕ) → AllCome (both_code program this names x args at)
  both_sides_come x args at = both_come (of_comes x at) (both_come (all_come program this names args _) (first_comes (how_many args)))

  copy_comes : (p : Place) (x : NumberedExp) (args : NumberedExps) (at : ℕ) → AllCome (copy_code program this p names x args at)
  copy_comes p x args at = both_come (both_sides_come x args at) (simple_come refl)

  exchange_comes : (p : Place) (x : NumberedExp) (args : NumberedExps) (at : ℕ) → AllCome (exchange_code program this p names x args at)
  exchange_comes p x args at =
      both_come (both_come (both_sides_come x args at) (element_comes (element_of (syntactic_type program this x)))) (simple_come refl)

  -- ---- simple statements

  print_comes : (p : Place) (what : NumberedPrint) (at : ℕ) → AllCome (print_code program this p names what at)
  print_comes p s.Nothing at = simple_come refl
  print_comes p (s.Text literal) at = simple_come refl
  print_comes p (s.Expression x) at = both_come (of_comes x at) (simple_come refl)
  print_comes p (s.TextAndExpression literal x) at = both_come (of_comes x at) (simple_come refl)

  condition_comes : (c : Option NumberedExp) (at : ℕ) → AllCome (condition_code program this names c at)
  condition_comes None at = simple_come refl
  condition_comes (Some c) at = of_comes c at

  root_comes : (p : Place) (x : NumberedExp) (at : ℕ) → AllCome (root_code program this p names x at)
  root_comes p x at = then_come refl (then_come refl (then_come refl (then_come refl (then_come refl (both_come (of_comes x _) (simple_come refl))))))

  broadcast_comes : (p : Place) (x root : NumberedExp) (at : ℕ) → AllCome (broadcast_code program this p names x root at)
  broadcast_comes p x root at = both_come (of_comes root at) (root_comes p x _)

  region_comes : (x : Option NumberedExp) (at : ℕ) → AllCome (region_code program this names x at)
  region_comes None at = simple_come refl
  region_comes (Some x) at = of_comes x at

  spread_comes : (p : Place) (dims : NumberedDims) (at : ℕ) → AllCome (spread_code program this names p dims at)
  spread_comes p (s.Domain x) at = of_comes x at
  spread_comes p (s.Ranges ranges) at = of_comes (e.Rect p (numbered_ranges ranges)) at

  object_comes : (p : Place) (region : Option NumberedExp) (class at : ℕ) → AllCome (object_code program this names p region class at)
  object_comes p region class at = both_come (region_comes region at) (simple_come refl)

  grid_comes : (p : Place) (region : Option NumberedExp) (element : ValueType) (q : Place) (dims : NumberedDims) (at : ℕ)
      → AllCome (grid_code program this names p region element q dims at)
  grid_comes p region element q dims at = both_come (region_comes region at) (both_come (spread_comes q dims _) (simple_come refl))

module _ (program : ProgramView) (this : Option ℕ) where
  -- an expression whose value goes to a receiver
  value_comes : (r : Receiver) (kind : OperandClass) (k : StaticRepr) (x : NumberedExp) (names : List Name) (at : ℕ) → AllCome (into_code program this r kind k (λ ns from. code_of program this ns x from) names at)
  value_comes r kind k x names at = into_comes program this r kind k _ names at (λ ns from. code_comes program this ns x from)

  valued_comes : (r : Receiver) (x : NumberedExp) (o : Option Call) (names : List Name) (at : ℕ) → AllCome (valued_code program this r x o names at)
  valued_comes r x None names at = value_comes r (kind_in program this x) (known_of program this x) x names at
  valued_comes r x (Some c) names at = both_come (call_comes program this names (number_called program this x) c at) (late_comes program this r (kind_in program this x) known.Other names _)

  init_comes : (r : Receiver) (x : NumberedInit) (names : List Name) (at : ℕ) → AllCome (init_code program this r x names at)
  init_comes r (s.Value x) names at = valued_comes r x (call_by x (called_method program this x)) names at
  init_comes r (s.NewRegion p) names at = then_come refl (then_come refl (late_comes program this r Numbers known.Other names _))
  init_comes r (s.NewObject p region class) names at = both_come (object_comes program this names p region class at) (late_comes program this r Numbers known.Other names _)
  init_comes r (s.NewGrid p region element q dims) names at = both_come (grid_comes program this names p region element.type q dims at) (late_comes program this r Numbers known.Other names _)
  init_comes r (s.Broadcast p x root) names at = both_come (broadcast_comes program this names p x root at) (late_comes program this r (kind_in program this x) known.Other names _)

  form_comes : (m : Option BuiltIn) (p : Place) (names : List Name) (x : NumberedExp) (args : NumberedExps) (at : ℕ) (other : List Instr) → AllCome other
      → AllCome (form_code program this m p names x args at other)
  form_comes (Some Copy) p names x args at other f = copy_comes program this names p x args at
  form_comes (Some Exchange) p names x args at other f = exchange_comes program this names p x args at
  form_comes (Some Delete) p names x args at other f = both_come (code_comes program this names x at) (simple_come refl)
  form_comes m p names x args at other f = f

  other_comes : (names : List Name) (x : NumberedExp) (at : ℕ) → AllCome (other_code program this names x at)
  other_comes names (e.Member p x name args) at =
      form_comes (member_called program this x name) p names x args at _ (value_comes Nowhere Numbers known.Other (e.Member p x name args) names at)
  other_comes names x at = value_comes Nowhere Numbers known.Other x names at

  alone_comes : (is_void : Bool) (x : NumberedExp) (o : Option Call) (names : List Name) (at : ℕ) → AllCome (alone_code program this is_void x o names at)
  alone_comes is_void x None names at = other_comes names x at
  alone_comes true x (Some c) names at = call_comes program this names (number_called program this x) c at
  alone_comes false x (Some c) names at = both_come (call_comes program this names (number_called program this x) c at) (simple_come refl)

-- ---- jumps out of blocks, and loops

drop_comes : (walks : Bool) (target : ℕ) → AllCome (pop_domain walks ++ i.Jump target ∷ [])
drop_comes true target = simple_come refl
drop_comes false target = simple_come refl

break_comes : (l : Option LoopTargets) (names : List Name) (at : ℕ) → AllCome (break_code l names at)
break_comes None names at = simple_come refl
break_comes (Some l) names at = then_come refl (drop_comes l.walks l.exit)

continue_comes : (l : Option LoopTargets) (names : List Name) (at : ℕ) → AllCome (continue_code l names at)
continue_comes None names at = simple_come refl
continue_comes (Some l) names at = simple_come refl

loop_comes : (program : ProgramView) (this : Option ℕ) (p : Place) (names : List Name) (c : Option NumberedExp) (body : Option LoopTargets → ℕ → List Instr) (update : ℕ → List Instr) (at : ℕ)
    → ((l : Option LoopTargets) (from : ℕ) → AllCome (body l from)) → ((from : ℕ) → AllCome (update from)) → AllCome (loop_code program this p names c body update at)
loop_comes program this p names c body update at f g =
    then_come refl (then_come refl (both_come (f _ _) (both_come (g _) (both_come (condition_comes program this names c _) (simple_come refl)))))

walk_comes : (program : ProgramView) (this : Option ℕ) (p : Place) (names : List Name) (body : Option LoopTargets → ℕ → List Instr) (at : ℕ)
    → ((l : Option LoopTargets) (from : ℕ) → AllCome (body l from)) → AllCome (walk_code program this p names body at)
walk_comes program this p names body at f = then_come refl (then_come refl (both_come (f _ _) (simple_come refl)))

-- ---- statements

module _ (program : ProgramView) (this : Option ℕ) (result : ValueType) where
  mutual
    stm_comes : (x : NumberedStm) (l : Option LoopTargets) (names : List Name) (at : ℕ) → AllCome (stm_code program this result x l names at)
    stm_comes s.Empty l names at = simple_come refl
    stm_comes (s.Declare p type variable value) l names at = init_comes program this (Declared p (declared_as type variable)) value names at
    stm_comes (s.Assign p target value) l names at = init_comes program this (Assigned p target) value names at
    stm_comes (s.Update p op target x) l names at = init_comes program this (Updated p op target) (s.Value x) names at
    stm_comes (s.Step p op target) l names at = init_comes program this (Updated p (one_more op) target) (s.Value (e.Int p (pos 1))) names at
    stm_comes (s.Print p what) l names at = print_comes program this names p what at
    stm_comes (s.Barrier p) l names at = simple_come refl
    stm_comes (s.Block body) l names at = both_come (stms_come body l names at) (simple_come refl)
    stm_comes (s.If p c x) l names at = both_come (code_comes program this names c at) (then_come refl (stm_comes x l names _))
    stm_comes (s.IfElse p c x y) l names at =
        both_come (code_comes program this names c at) (then_come refl (both_come (stm_comes x l names _) (then_come refl (stm_comes y l names _))))
    stm_comes (s.While p c body) l names at =
        loop_comes program this p names (Some c) _ (λ from. []) at (λ m from. stm_comes body m names from) (λ from. simple_come refl)
    stm_comes (s.For p NoStm c update body) l names at =
        both_come (loop_comes program this p names c _ _ at (λ m from. stm_comes body m names from) (λ from. maybe_comes update l names from)) (simple_come refl)
    stm_comes (s.For p (SomeStm first) c update body) l names at =
        let inner = names_after first names in
        both_come (stm_comes first l names at)
        (both_come (loop_comes program this p inner c _ _ _ (λ m from. stm_comes body m inner from) (λ from. maybe_comes update l inner from)) (simple_come refl))
    stm_comes (s.Foreach p x domain body) l names at =
        both_come (code_comes program this names domain at) (walk_comes program this p names _ _ (λ m from. stm_comes body m (Point x ∷ names) from))
    stm_comes (s.Break p) l names at = break_comes l names at
    stm_comes (s.Continue p) l names at = continue_comes l names at
    stm_comes (s.Return p None) l names at = simple_come refl
    stm_comes (s.Return p (Some x)) l names at = both_come (code_comes program this names x at) (both_come (conversion_comes p result (known_of program this x)) (simple_come refl))
    stm_comes (s.Call x) l names at =
        let c = call_by x (called_method program this x) in
        alone_comes program this (gives_nothing program this c) x c names at

    stms_come : (xs : NumberedStms) (l : Option LoopTargets) (names : List Name) (at : ℕ) → AllCome (stms_code program this result xs l names at)
    stms_come Nil l names at = simple_come refl
    stms_come (Cons x rest) l names at = both_come (stm_comes x l names at) (stms_come rest l (names_after x names) _)

    maybe_comes : (x : MaybeNumbered) (l : Option LoopTargets) (names : List Name) (at : ℕ) → AllCome (maybe_code program this result x l names at)
    maybe_comes NoStm l names at = simple_come refl
    maybe_comes (SomeStm x) l names at = stm_comes x l names at

-- ---- methods and programs

-- the end of the run is one such instruction
main_simple : (end : Place) (x : Instr) → is_simple x ≡ true → is_simple (in_main end x) ≡ true
main_simple end i.Return e = refl
main_simple end x e = e

main_constant : (end : Place) (h : Held) → in_main end (constant h) ≡ constant h
main_constant end (Plain value) = refl
main_constant end (Dm dim points) = refl

main_comes : (end : Place) (x : Instr) → IsLowered x → IsLowered (in_main end x)
main_comes end x (inl e) = inl (main_simple end x e)
main_comes end x (inr z) = inr (z.0, ap (in_main end) z.1 ∙ main_constant end (zero_declared z.0))

body_comes : (program : ProgramView) (m : NumberedMethod) → AllCome (body_code program m)
body_comes program m = both_come (stms_come program (this_of m) (result_type m) (numbered_stms m.body) None (names_in_method m) 0) (simple_come refl)

instrs_come : (end : Option Place) (is : List Instr) → All IsLowered is → All IsLowered (instrs_in end is)
instrs_come None is f = f
instrs_come (Some end) is f = All-map IsLowered (in_main end) is (All-weaker IsLowered (λ x. IsLowered (in_main end x)) (main_comes end) is f)

method_formed : (program : ProgramView) (end : Option Place) (m : NumberedMethod) → IsFormedMethod (method_code program end m)
method_formed program end m =
    let is = body_code program m in
    All-weaker IsLowered IsFormedInstr formed_from_comes (instrs_in end is) (instrs_come end is (body_comes program m).each)

methods_formed : (program : ProgramView) (n : ℕ) (ms : List NumberedMethod) → AreFormedMethods (methods_code program n ms)
methods_formed program n [] = All-nil IsFormedMethod
methods_formed program n (m ∷ ms) =
    let end = end_in (n == program.main) m in
    All-cons IsFormedMethod (method_code program end m) (methods_code program (n + 1) ms) (method_formed program end m) (methods_formed program (n + 1) ms)

-- the instructions of the code of every program are in their form
pub program_formed : (program : ProgramView) → AreFormedMethods (methods_code program 0 program.methods)
program_formed program = methods_formed program 0 program.methods
