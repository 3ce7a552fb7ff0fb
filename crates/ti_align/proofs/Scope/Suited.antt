-- Statements whose calls are given all their arguments, and give values where these are declared; and results that are returned.
use Rattle.std.specs.Prelude.{◌≡◌, true, false, List, [], ◌∷◌, None, Some}
use Rattle.ti_lang.specs.Program.Types.{VariableUse}
use Rattle.ti_lang.specs.Program.Expressions.{NumberedExp, NumberedExps}
use Rattle.ti_lang.specs.Program.Expressions as e
use Rattle.ti_lang.specs.Program.Statements.{NumberedInit, NumberedStm, MaybeNumbered, NoStm, SomeStm, NumberedStms, Nil, Cons}
use Rattle.ti_lang.specs.Program.Statements as s
use Rattle.ti_lang.specs.Program.Classes.{NumberedMethod, ProgramView}
use Rattle.ti_lang.specs.Program.Scope.{this_of}
use Rattle.ti_lang.specs.Typing.Kinds.{is_void}
use Rattle.ti_lang.specs.Typing.Declared.{result_type}
use Rattle.ti_lang.specs.Typing.Called.{called_method}
use Rattle.ti_lang.specs.Meaning.Calls.{parameters_of}

-- there is an expression for each variable
abbrev pub Enough : List VariableUse → NumberedExps → Type 0
Enough [] xs = Unit {0}
Enough (d ∷ ds) e.NoExp = ⊥
Enough (d ∷ ds) (e.MoreExp x xs) = Enough ds xs

-- the arguments of a call
abbrev pub args_of : NumberedExp → NumberedExps
args_of (e.Call at method args) = args
args_of (e.OwnCall at method args) = args
args_of (e.Member at x name args) = args
args_of x = e.NoExp

module _ (p : ProgramView) (m : NumberedMethod) where
  -- a call is given all arguments
  abbrev pub CallSuits : NumberedExp → Type 0
  CallSuits x = (c : NumberedMethod) → called_method p (this_of m) x ≡ Some c → Enough (parameters_of c.params) (args_of x)

  -- a call gives a value
  abbrev pub GivesValue : NumberedExp → Type 0
  GivesValue x = (c : NumberedMethod) → called_method p (this_of m) x ≡ Some c → is_void (result_type c) ≡ false

  abbrev pub InitSuits : NumberedInit → Type 0
  InitSuits (s.Value x) = CallSuits x × GivesValue x
  InitSuits value = Unit {0}

  abbrev mutual
    pub StmSuits : NumberedStm → Type 0
    StmSuits (s.Declare at type variable value) = InitSuits value
    StmSuits (s.Assign at target value) = InitSuits value
    StmSuits (s.Update at op target x) = InitSuits (s.Value x)
    StmSuits (s.Call x) = CallSuits x
    StmSuits (s.Return at None) = is_void (result_type m) ≡ true
    StmSuits (s.Block body) = StmsSuit body
    StmSuits (s.If at c x) = StmSuits x
    StmSuits (s.IfElse at c x y) = StmSuits x × StmSuits y
    StmSuits (s.While at c body) = StmSuits body
    StmSuits (s.For at first c update body) = MaybeSuits first × MaybeSuits update × StmSuits body
    StmSuits (s.Foreach at variable domain body) = StmSuits body
    StmSuits x = Unit {0}

    pub MaybeSuits : MaybeNumbered → Type 0
    MaybeSuits NoStm = Unit {0}
    MaybeSuits (SomeStm x) = StmSuits x

    pub StmsSuit : NumberedStms → Type 0
    StmsSuit Nil = Unit {0}
    StmsSuit (Cons x rest) = StmSuits x × StmsSuit rest
