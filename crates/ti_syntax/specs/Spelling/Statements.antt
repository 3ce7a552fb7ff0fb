-- The grammar of statements.
use Rattle.std.specs.Prelude.{◌≡◌, ℕ, ◌≤◌, Bool, true, false, List, [], ◌∷◌, ◌++◌, length, Option, Some, None, codes}
use Rattle.ti_syntax.specs.declared.token.Token.{Token}
use Rattle.ti_syntax.specs.declared.token.TokenKind.{TokenKind}
use Rattle.ti_syntax.specs.declared.token.TokenKind.TheVariants as k
use Rattle.ti_syntax.specs.declared.tree.types.Base.{Base}
use Rattle.ti_syntax.specs.declared.tree.types.Qualifier.{Qualifier}
use Rattle.ti_syntax.specs.declared.tree.exprs.BinaryOperator.{BinaryOperator}
use Rattle.ti_syntax.specs.declared.tree.stmts.StepOperator.{StepOperator}
use Rattle.ti_syntax.specs.Trees.Types.{GridTree, TypeTree}
use Rattle.ti_syntax.specs.Trees.Expressions.{Exp, RangeTree}
use Rattle.ti_syntax.specs.Trees.Statements.{DimsTree, InitTree, PrintTree, Stm, MaybeStm}
use Rattle.ti_syntax.specs.Trees.Statements as s
use Rattle.ti_syntax.specs.Spelling.Operators.{update_of, step_of}
use Rattle.ti_syntax.specs.Spelling.Types.{Based, Qualified, Gridded, Typed}
use Rattle.ti_syntax.specs.Spelling.Expressions.{Ending, Whole, Postfixed, Ranges}
use Rattle.ti_syntax.specs.Spelling.Expressions as ending

-- the tokens that can begin a Postfix at the start of a statement: a name, `this` or `(`
abbrev pub starts : TokenKind → Bool
starts (k.Name name) = true
starts k.KeywordThis = true
starts k.LeftParen = true
starts _ = false

abbrev pub starts_so : List Token → Bool
starts_so [] = false
starts_so (t ∷ l) = starts t.kind

-- a Postfix at the start of a statement, with its ending
pub data Start : Ending → List Token → Exp → Type 0 where
  start : {ending : Ending} {l : List Token} {x : Exp} → Postfixed ending l x → starts_so l ≡ true → Start ending l x

-- ---- initializers

-- the optional region of `new`
pub data Region : List Token → Option Exp → Type 0 where
  none : Region [] None
  some : {l : List Token} (o c : Token) {x : Exp} → o.kind ≡ k.LeftParen → Whole 1 l x → c.kind ≡ k.RightParen
      → Region (o ∷ (l ++ c ∷ [])) (Some x)

-- the domain of a new grid
pub data Dims : List Token → DimsTree → Type 0 where
  domain : {l : List Token} {x : Exp} → Whole 1 l x → Dims l (s.Domain x)
  ranges : {l : List Token} {rs : List RangeTree} → Ranges l rs → length rs ≤ 3 → Dims l (s.Ranges rs)

-- an Init, the right-hand side of a declaration or an assignment
pub data Initial : List Token → InitTree → Type 0 where
  value : {l : List Token} {x : Exp} → Whole 1 l x → Initial l (s.Value x)
  new_region : (n t o c : Token) → n.kind ≡ k.KeywordNew → t.kind ≡ k.KeywordSharedRegion → o.kind ≡ k.LeftParen → c.kind ≡ k.RightParen
      → Initial (n ∷ t ∷ o ∷ c ∷ []) (s.NewRegion n.place)
  new_object : {l : List Token} {region : Option Exp} (n t o c : Token) {name : List ℕ} → n.kind ≡ k.KeywordNew → Region l region → t.kind
      ≡ k.Name name
      → o.kind ≡ k.LeftParen → c.kind ≡ k.RightParen → Initial (n ∷ (l ++ t ∷ o ∷ c ∷ [])) (s.NewObject n.place region t.place name)
  -- the element type consists of the base and at most two of the brackets after the domain
  new_grid : {l a q d g : List Token} {region : Option Exp} {b : Base} {qs : List Qualifier} {gs : List GridTree} {dims : DimsTree}
      (n o c : Token) → n.kind ≡ k.KeywordNew
      → Region l region → Based a b → Qualified q qs → o.kind ≡ k.LeftBracket → Dims d dims → c.kind ≡ k.RightBracket → Gridded g gs
      → length gs ≤ 2
      → Initial (n ∷ (l ++ (a ++ (q ++ o ∷ (d ++ c ∷ g))))) (s.NewGrid n.place region
      (record { base = b; qualifiers = qs; grids = gs }) o.place dims)
  broadcast : {l m : List Token} (b f : Token) {x root : Exp} → b.kind ≡ k.KeywordBroadcast → Whole 1 l x → f.kind ≡ k.Name (codes "from")
      → Whole 1 m root
      → Initial (b ∷ (l ++ f ∷ m)) (s.Broadcast b.place x root)

-- ---- simple statements

-- a Decl: a declaration
pub data Declared : List Token → Stm → Type 0 where
  declared : {l m : List Token} {ty : TypeTree} {value : InitTree} (t a : Token) {name : List ℕ} → Typed l ty → t.kind ≡ k.Name name
      → a.kind ≡ k.Assign → Initial m value
      → Declared (l ++ t ∷ a ∷ m) (s.Declare t.place ty name value)

-- a Change: an assignment, a compound assignment or a step
pub data Changed : List Token → Stm → Type 0 where
  assign : {l m : List Token} {target : Exp} {value : InitTree} (a : Token) → Start ending.Target l target → a.kind ≡ k.Assign
      → Initial m value
      → Changed (l ++ a ∷ m) (s.Assign a.place target value)
  update : {l m : List Token} {target x : Exp} (a : Token) {op : BinaryOperator} → Start ending.Target l target → update_of a.kind ≡ Some op
      → Whole 1 m x
      → Changed (l ++ a ∷ m) (s.Update a.place op target x)
  step : {l : List Token} {target : Exp} (a : Token) {op : StepOperator} → Start ending.Target l target → step_of a.kind ≡ Some op
      → Changed (l ++ a ∷ []) (s.Step a.place op target)

-- `println` or `System.out.println`, with the token `println`
pub data Printer : List Token → Token → Type 0 where
  short : (t : Token) → t.kind ≡ k.KeywordPrintln → Printer (t ∷ []) t
  long : (s d o p t : Token) → s.kind ≡ k.KeywordSystem → d.kind ≡ k.Dot → o.kind ≡ k.Name (codes "out") → p.kind ≡ k.Dot → t.kind
      ≡ k.KeywordPrintln
      → Printer (s ∷ d ∷ o ∷ p ∷ t ∷ []) t

-- the argument of a print, without its parentheses
pub data Printed : List Token → PrintTree → Type 0 where
  nothing : Printed [] s.Nothing
  text : (t : Token) {bytes : List ℕ} → t.kind ≡ k.Str bytes → Printed (t ∷ []) (s.Text bytes)
  text_and_value : {l : List Token} (t p : Token) {bytes : List ℕ} {x : Exp} → t.kind ≡ k.Str bytes → p.kind ≡ k.Plus → Whole 10 l x
      → Printed (t ∷ p ∷ l) (s.TextAndExpression bytes x)
  value : {l : List Token} {x : Exp} → Whole 1 l x → Printed l (s.Expression x)

-- ---- the parts of compound statements

-- `( e )`
pub data Condition : List Token → Exp → Type 0 where
  condition : {l : List Token} (o c : Token) {x : Exp} → o.kind ≡ k.LeftParen → Whole 1 l x → c.kind ≡ k.RightParen
      → Condition (o ∷ (l ++ c ∷ [])) x

-- the first part of a `for` head: empty, a declaration or a change
pub data First : List Token → MaybeStm → Type 0 where
  none : First [] s.NoStm
  declaration : {l : List Token} {x : Stm} → Declared l x → First l (s.SomeStm x)
  change : {l : List Token} {x : Stm} → Changed l x → First l (s.SomeStm x)

-- an optional expression
pub data Optional : List Token → Option Exp → Type 0 where
  none : Optional [] None
  some : {l : List Token} {x : Exp} → Whole 1 l x → Optional l (Some x)

-- the last part of a `for` head: empty or a change
pub data Update : List Token → MaybeStm → Type 0 where
  none : Update [] s.NoStm
  change : {l : List Token} {x : Stm} → Changed l x → Update l (s.SomeStm x)

mutual
  -- A Stmt. The flag says whether it ends with an `if` that has no `else`, so that a following `else` would belong to that `if`.
  pub data Stated : Bool → List Token → Stm → Type 0 where
    block : {l : List Token} (o c : Token) {xs : List Stm} → o.kind ≡ k.LeftBrace → Items l xs → c.kind ≡ k.RightBrace
        → Stated false (o ∷ (l ++ c ∷ [])) (s.block xs)
    empty : (t : Token) → t.kind ≡ k.Semicolon → Stated false (t ∷ []) s.Empty
    if_alone : {open_if : Bool} {l m : List Token} (i : Token) {c : Exp} {x : Stm} → i.kind ≡ k.KeywordIf → Condition l c
        → Stated open_if m x
        → Stated true (i ∷ (l ++ m)) (s.If i.place c x)
    if_else : {open_if : Bool} {l m v : List Token} (i d : Token) {c : Exp} {x y : Stm} → i.kind ≡ k.KeywordIf → Condition l c
        → Stated false m x
        → d.kind ≡ k.KeywordElse → Stated open_if v y → Stated open_if (i ∷ (l ++ (m ++ d ∷ v))) (s.IfElse i.place c x y)
    while : {open_if : Bool} {l m : List Token} (w : Token) {c : Exp} {x : Stm} → w.kind ≡ k.KeywordWhile → Condition l c
        → Stated open_if m x
        → Stated open_if (w ∷ (l ++ m)) (s.While w.place c x)
    for : {open_if : Bool} {l m u v : List Token} (f o p q c : Token) {first update : MaybeStm} {test : Option Exp} {x : Stm} → f.kind
        ≡ k.KeywordFor → o.kind ≡ k.LeftParen
        → First l first → p.kind ≡ k.Semicolon → Optional m test → q.kind ≡ k.Semicolon → Update u update → c.kind ≡ k.RightParen
        → Stated open_if v x
        → Stated open_if (f ∷ o ∷ (l ++ p ∷ (m ++ q ∷ (u ++ c ∷ v)))) (s.For f.place first test update x)
    foreach : {open_if : Bool} {l m : List Token} (f o t i c : Token) {name : List ℕ} {domain : Exp} {x : Stm} → f.kind ≡ k.KeywordForeach
        → o.kind ≡ k.LeftParen
        → t.kind ≡ k.Name name → i.kind ≡ k.Name (codes "in") → Whole 1 l domain → c.kind ≡ k.RightParen → Stated open_if m x
        → Stated open_if (f ∷ o ∷ t ∷ i ∷ (l ++ c ∷ m)) (s.Foreach f.place t.place name domain x)
    change : {l : List Token} (t : Token) {x : Stm} → Changed l x → t.kind ≡ k.Semicolon → Stated false (l ++ t ∷ []) x
    call : {l : List Token} (t : Token) {x : Exp} → Start ending.Call l x → t.kind ≡ k.Semicolon → Stated false (l ++ t ∷ []) (s.Call x)
    print : {l m : List Token} (p o c t : Token) {what : PrintTree} → Printer l p → o.kind ≡ k.LeftParen → Printed m what → c.kind
        ≡ k.RightParen
        → t.kind ≡ k.Semicolon → Stated false (l ++ o ∷ (m ++ c ∷ t ∷ [])) (s.Print p.place what)
    barrier : (i d b o c t : Token) → i.kind ≡ k.KeywordTi → d.kind ≡ k.Dot → b.kind ≡ k.Name (codes "barrier") → o.kind ≡ k.LeftParen
        → c.kind ≡ k.RightParen
        → t.kind ≡ k.Semicolon → Stated false (i ∷ d ∷ b ∷ o ∷ c ∷ t ∷ []) (s.Barrier b.place)
    break : (b t : Token) → b.kind ≡ k.KeywordBreak → t.kind ≡ k.Semicolon → Stated false (b ∷ t ∷ []) (s.Break b.place)
    continue : (c t : Token) → c.kind ≡ k.KeywordContinue → t.kind ≡ k.Semicolon → Stated false (c ∷ t ∷ []) (s.Continue c.place)
    return : {l : List Token} (r t : Token) {value : Option Exp} → r.kind ≡ k.KeywordReturn → Optional l value → t.kind ≡ k.Semicolon
        → Stated false (r ∷ (l ++ t ∷ [])) (s.Return r.place value)

  -- a sequence of Items, possibly empty
  pub data Items : List Token → List Stm → Type 0 where
    no_item : Items [] []
    declaration : {l m : List Token} (t : Token) {x : Stm} {xs : List Stm} → Declared l x → t.kind ≡ k.Semicolon → Items m xs
        → Items (l ++ t ∷ m) (x ∷ xs)
    statement : {open_if : Bool} {l m : List Token} {x : Stm} {xs : List Stm} → Stated open_if l x → Items m xs → Items (l ++ m) (x ∷ xs)
