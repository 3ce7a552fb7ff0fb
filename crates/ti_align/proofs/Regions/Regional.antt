-- Variables of type SharedRegion hold regions: what is said of the text, and what is kept.
use Rattle.std.proofs.Common.{◌≡◌, ℕ, Bool, true, false, not, ◌&&◌, ◌||◌, if◌then◌else◌, Some, None, List, [], ◌∷◌, ◌++◌, refl, ap, sym, ◌∙◌, subst}
use Rattle.std.specs.List.{list_any}
use Rattle.ti_base.specs.declared.value.Value.TheVariants as v
use Rattle.ti_lang.specs.Program.Types.{ValueType, Declaration, Typed, Foreach, VariableUse}
use Rattle.ti_lang.specs.Program.Types as t
use Rattle.ti_lang.specs.Program.Expressions.{NumberedExp, NumberedExps}
use Rattle.ti_lang.specs.Program.Expressions as e
use Rattle.ti_lang.specs.Program.Statements.{NumberedInit, NumberedStm, MaybeNumbered, NoStm, SomeStm, NumberedStms, Nil, Cons, numbered_stms}
use Rattle.ti_lang.specs.Program.Statements as s
use Rattle.ti_lang.specs.Program.Classes.{NumberedMethod, ProgramView}
use Rattle.ti_lang.specs.Program.Scope.{this_of}
use Rattle.ti_lang.specs.Typing.BuiltIn.{Delete}
use Rattle.ti_lang.specs.Typing.Declared.{result_type}
use Rattle.ti_lang.specs.Typing.Called.{called_method, member_called}
use Rattle.ti_lang.specs.Meaning.Held.{Held, Plain, region_of}
use Rattle.ti_lang.specs.Meaning.Processes.{Variable, Receiver, Declared, Assigned, Updated, Loop, While, Foreach, ContItem, Do, End, Before, Behind, Receive, CopyAll, TakeAll, all_before}
use Rattle.ti_lang.specs.Meaning.Scoping.{same_variable, declared_type, find_variable, with_changed, without_variables}
use Rattle.ti_lang.specs.Meaning.Calls.{parameters_of}
use Rattle.ti_lang.specs.Meaning.Performing.{declared_in}
use Rattle.ti_lang.specs.Meaning.Jumps.{from_mark, past_mark, variables_at_mark}
use Rattle.ti_rules.specs.InitialTypes.{is_region_type}
use Rattle.ti_align.proofs.Runs.Vars.{true_false}
use Rattle.ti_align.specs.Scoped.{is_among}
use Rattle.ti_align.proofs.Scope.Found.{variable_is}
use Rattle.ti_align.proofs.Scope.Suited.{args_of}

-- ---- values

-- a region with a number above 0
abbrev pub Good : Held → Type 0
Good h = (r : ℕ) × (h ≡ Plain (v.Region r)) × (r ≡ 0 → ⊥)

-- the same, where the type is that of regions
abbrev pub GoodAs : ValueType → Held → Type 0
GoodAs type h = is_region_type type ≡ true → Good h

pub good_region : (h : Held) → Good h → region_of h ≡ 0 → ⊥
good_region h g z = g.2 (sym (ap region_of g.1) ∙ z)

-- the variables of this type hold such regions
abbrev pub AllGood : List Variable → Type 0
AllGood [] = Unit {0}
AllGood (w ∷ ws) = GoodAs (declared_type w.named.declared) w.held × AllGood ws

pub find_good : (x : VariableUse) (vs : List Variable) → is_among x vs ≡ true → AllGood vs → GoodAs (declared_type x.declared) (find_variable x vs)
find_good x [] f g = absurd (true_false (sym f))
find_good x (w ∷ ws) f g = by (same_variable x w.named) refl f (λ k. find_good x ws k g.1)
  where
    by : (b : Bool) → same_variable x w.named ≡ b → (b || is_among x ws) ≡ true → (is_among x ws ≡ true → GoodAs (declared_type x.declared) (find_variable x ws))
        → GoodAs (declared_type x.declared) (if b then w.held else find_variable x ws)
    by true z k ih = subst (λ (y : VariableUse). GoodAs (declared_type y.declared) w.held) (sym (variable_is x w.named z)) g.0
    by false z k ih = ih k

pub changed_good : (x : VariableUse) (h : Held) (vs : List Variable) → GoodAs (declared_type x.declared) h → AllGood vs → AllGood (with_changed x h vs)
changed_good x h [] k g = tt
changed_good x h (w ∷ ws) k g = by (same_variable x w.named) refl (changed_good x h ws k g.1)
  where
    by : (b : Bool) → same_variable x w.named ≡ b → AllGood (with_changed x h ws) → AllGood (if b then record w { held = h } ∷ ws else w ∷ with_changed x h ws)
    by true z ih = (subst (λ (y : VariableUse). GoodAs (declared_type y.declared) h) (variable_is x w.named z) k, g.1)
    by false z ih = (g.0, ih)

pub without_good : (ds : List VariableUse) (vs : List Variable) → AllGood vs → AllGood (without_variables ds vs)
without_good ds [] g = tt
without_good ds (w ∷ ws) g = by (not (list_any (λ d. same_variable d w.named) ds)) (without_good ds ws g.1)
  where
    by : (b : Bool) → AllGood (without_variables ds ws) → AllGood (if b then w ∷ without_variables ds ws else without_variables ds ws)
    by true ih = (g.0, ih)
    by false ih = ih

pub mark_good : (ws : List ContItem) (vs : List Variable) → AllGood vs → AllGood (variables_at_mark ws vs)
mark_good [] vs g = g
mark_good (Behind loop ∷ left) vs g = g
mark_good (End x ∷ left) vs g = mark_good left (without_variables (declared_in x) vs) (without_good (declared_in x) vs g)
mark_good (Do x ∷ left) vs g = mark_good left vs g
mark_good (Before loop ∷ left) vs g = mark_good left vs g
mark_good (Receive r x ∷ left) vs g = mark_good left vs g
mark_good (CopyAll at to from points ∷ left) vs g = mark_good left vs g
mark_good (TakeAll at grid procs ∷ left) vs g = mark_good left vs g

-- ---- the text

-- a variable of type SharedRegion, or a cast of one to it
abbrev pub is_region_exp : NumberedExp → Bool
is_region_exp (e.Variable at x) = is_region_type (declared_type x.declared)
is_region_exp (e.Cast at to x) = is_region_type to.type && is_region_exp x
is_region_exp x = false

-- such an expression stands wherever a region is wanted
abbrev pub IsSuch : ValueType → NumberedExp → Type 0
IsSuch type x = is_region_type type ≡ true → is_region_exp x ≡ true

-- also among arguments
abbrev pub ArgsAreSuch : List VariableUse → NumberedExps → Type 0
ArgsAreSuch [] xs = Unit {0}
ArgsAreSuch (d ∷ ds) e.NoExp = Unit {0}
ArgsAreSuch (d ∷ ds) (e.MoreExp x xs) = IsSuch (declared_type d.declared) x × ArgsAreSuch ds xs

-- the type of the variable that is assigned to, where it is one
abbrev pub target_type : NumberedExp → ValueType
target_type (e.Variable at x) = declared_type x.declared
target_type x = t.Void

abbrev pub received_type : Receiver → ValueType
received_type (Declared at x) = declared_type x.declared
received_type (Assigned at target) = target_type target
received_type receiver = t.Void

-- no variable of this type is assigned to by an operator
abbrev pub ReceiverSuits : Receiver → Type 0
ReceiverSuits (Updated at op target) = is_region_type (target_type target) ≡ false
ReceiverSuits receiver = Unit {0}

module _ (p : ProgramView) (m : NumberedMethod) where
  -- a call whose value goes to a variable of a type
  abbrev pub CallIsSuch : ValueType → NumberedExp → Type 0
  CallIsSuch type x =
      (c : NumberedMethod) → called_method p (this_of m) x ≡ Some c → ArgsAreSuch (parameters_of c.params) (args_of x) × (is_region_type type ≡ true → is_region_type (result_type c) ≡ true)

  -- and any right side
  abbrev pub InitIsSuch : ValueType → NumberedInit → Type 0
  InitIsSuch type (s.Value x) = CallIsSuch type x × (called_method p (this_of m) x ≡ None → IsSuch type x)
  InitIsSuch type (s.NewRegion at) = Unit {0}
  InitIsSuch type value = is_region_type type ≡ false

  -- what is deleted
  abbrev pub DeletesSuch : NumberedExp → Type 0
  DeletesSuch (e.Member at x name args) = member_called p (this_of m) x name ≡ Some Delete → is_region_exp x ≡ true
  DeletesSuch x = Unit {0}

  abbrev mutual
    pub StmIsSuch : NumberedStm → Type 0
    StmIsSuch (s.Declare at type variable value) = InitIsSuch type.type value
    StmIsSuch (s.Assign at target value) = InitIsSuch (target_type target) value
    StmIsSuch (s.Update at op target x) = (is_region_type (target_type target) ≡ false) × InitIsSuch t.Void (s.Value x)
    StmIsSuch (s.Step at op target) = is_region_type (target_type target) ≡ false
    StmIsSuch (s.Call x) = CallIsSuch t.Void x × DeletesSuch x
    StmIsSuch (s.Return at (Some x)) = IsSuch (result_type m) x
    StmIsSuch (s.Block body) = StmsAreSuch body
    StmIsSuch (s.If at c x) = StmIsSuch x
    StmIsSuch (s.IfElse at c x y) = StmIsSuch x × StmIsSuch y
    StmIsSuch (s.While at c body) = StmIsSuch body
    StmIsSuch (s.For at first c update body) = MaybeIsSuch first × MaybeIsSuch update × StmIsSuch body
    StmIsSuch (s.Foreach at variable domain body) = StmIsSuch body
    StmIsSuch x = Unit {0}

    pub MaybeIsSuch : MaybeNumbered → Type 0
    MaybeIsSuch NoStm = Unit {0}
    MaybeIsSuch (SomeStm x) = StmIsSuch x

    pub StmsAreSuch : NumberedStms → Type 0
    StmsAreSuch Nil = Unit {0}
    StmsAreSuch (Cons x rest) = StmIsSuch x × StmsAreSuch rest

  abbrev pub LoopIsSuch : Loop → Type 0
  LoopIsSuch (While at c update body) = MaybeIsSuch update × StmIsSuch body
  LoopIsSuch (Foreach at variable domain points body) = StmIsSuch body

  -- a piece of work: a value on its way to a variable of this type is a region
  abbrev pub WorkIsSuch : ContItem → Type 0
  WorkIsSuch (Do x) = StmIsSuch x
  WorkIsSuch (Before loop) = LoopIsSuch loop
  WorkIsSuch (Behind loop) = LoopIsSuch loop
  WorkIsSuch (Receive receiver h) = GoodAs (received_type receiver) h × ReceiverSuits receiver
  WorkIsSuch w = Unit {0}

  abbrev pub WorksAreSuch : List ContItem → Type 0
  WorksAreSuch [] = Unit {0}
  WorksAreSuch (w ∷ ws) = WorkIsSuch w × WorksAreSuch ws

  pub such_both : (xs ys : List ContItem) → WorksAreSuch xs → WorksAreSuch ys → WorksAreSuch (xs ++ ys)
  such_both [] ys f g = g
  such_both (x ∷ xs) ys f g = (f.0, such_both xs ys f.1 g)

  pub such_before : (xs : NumberedStms) (ws : List ContItem) → StmsAreSuch xs → WorksAreSuch ws → WorksAreSuch (all_before xs ws)
  such_before Nil ws f g = g
  such_before (Cons x xs) ws f g = (f.0, such_before xs ws f.1 g)

  pub such_from : (ws : List ContItem) → WorksAreSuch ws → WorksAreSuch (from_mark ws)
  such_from [] f = tt
  such_from (Behind loop ∷ ws) f = f
  such_from (Do x ∷ ws) f = such_from ws f.1
  such_from (End x ∷ ws) f = such_from ws f.1
  such_from (Before loop ∷ ws) f = such_from ws f.1
  such_from (Receive r h ∷ ws) f = such_from ws f.1
  such_from (CopyAll at to from points ∷ ws) f = such_from ws f.1
  such_from (TakeAll at grid procs ∷ ws) f = such_from ws f.1

  pub such_past : (ws : List ContItem) → WorksAreSuch ws → WorksAreSuch (past_mark ws)
  such_past [] f = tt
  such_past (Behind loop ∷ ws) f = f.1
  such_past (Do x ∷ ws) f = such_past ws f.1
  such_past (End x ∷ ws) f = such_past ws f.1
  such_past (Before loop ∷ ws) f = such_past ws f.1
  such_past (Receive r h ∷ ws) f = such_past ws f.1
  such_past (CopyAll at to from points ∷ ws) f = such_past ws f.1
  such_past (TakeAll at grid procs ∷ ws) f = such_past ws f.1

-- the statements of all of these methods
abbrev pub MethodsAreSuch : ProgramView → List NumberedMethod → Type 0
MethodsAreSuch p [] = Unit {0}
MethodsAreSuch p (m ∷ ms) = StmsAreSuch p m (numbered_stms m.body) × MethodsAreSuch p ms
