-- The nesting level or weight of each token of a program. Each function maps a derivation of a part to the list for its tokens.
-- Tokens with neither are Free.
use Rattle.std.specs.Prelude.{ℕ, zero, suc, ◌+◌, Bool, if◌then◌else◌, List, [], ◌∷◌, ◌++◌, map, Option}
use Rattle.ti_syntax.specs.declared.token.Token.{Token}
use Rattle.ti_syntax.specs.Trees.Expressions.{Exp, RangeTree}
use Rattle.ti_syntax.specs.Trees.Statements.{DimsTree, InitTree, PrintTree, Stm, MaybeStm}
use Rattle.ti_syntax.specs.Trees.Classes.{ParamsTree, MemberTree, ClassTree}
use Rattle.ti_syntax.specs.Spelling.Expressions.{Ranges, Range, last_range, more_ranges, plain, stepped}
use Rattle.ti_syntax.specs.Spelling.Statements.{Start, Region, Dims, Initial, Declared, Changed, Printer, Printed, Condition, First, Optional, Update, Stated, Items}
use Rattle.ti_syntax.specs.Spelling.Statements as s
use Rattle.ti_syntax.specs.Spelling.Classes.{Method, Member, Members, Class, AllClasses}
use Rattle.ti_syntax.specs.Spelling.Classes as c
use Rattle.ti_syntax.specs.Spelling.Weights.{counts, arity_behind}

-- the load of a token: a nesting level for the first token of a compound statement, a weight for each token of a full expression
pub data Load : Type 0 where
  Free : Load
  Level : (n : ℕ) → Load
  Weight : (n : ℕ) → Load

abbrev pub free : List Token → List Load
free l = map (λ t. Free) l

-- the weights of the tokens of an expression, after tokens of weight w; the first n tokens belong to an arity and aren't counted
abbrev pub weights_behind : ℕ → ℕ → List Token → List Load
weights_behind n w [] = []
weights_behind (suc n) w (t ∷ l) = Weight w ∷ weights_behind n w l
weights_behind zero w (t ∷ l) = let v = (if counts t.kind then 1 else 0) + w in Weight v ∷ weights_behind (arity_behind t.kind) v l

-- the weights of the tokens of a full expression: an Expr, Mul or Postfix that isn't part of another one
abbrev pub weights : List Token → List Load
weights l = weights_behind 0 0 l

-- ---- initializers

abbrev pub region_loads : {l : List Token} {x : Option Exp} → Region l x → List Load
region_loads s.none = []
region_loads (s.some {l = l} o c h e h2) = Free ∷ (weights l ++ Free ∷ [])

abbrev pub range_loads : {l : List Token} {r : RangeTree} → Range l r → List Load
range_loads (plain {l = l} {m = m} s low h high) = weights l ++ Free ∷ weights m
range_loads (stepped {l = l} {m = m} {v = v} s t low h high h2 step) = weights l ++ Free ∷ (weights m ++ Free ∷ weights v)

abbrev pub ranges_loads : {l : List Token} {rs : List RangeTree} → Ranges l rs → List Load
ranges_loads (last_range r) = range_loads r
ranges_loads (more_ranges t r h rs) = range_loads r ++ Free ∷ ranges_loads rs

abbrev pub dims_loads : {l : List Token} {x : DimsTree} → Dims l x → List Load
dims_loads (s.domain {l = l} e) = weights l
dims_loads (s.ranges rs few) = ranges_loads rs

abbrev pub initial_loads : {l : List Token} {x : InitTree} → Initial l x → List Load
initial_loads (s.value {l = l} e) = weights l
initial_loads (s.new_region n t o c h h2 h3 h4) = free (n ∷ t ∷ o ∷ c ∷ [])
initial_loads (s.new_object n t o c h r h2 h3 h4) = Free ∷ (region_loads r ++ free (t ∷ o ∷ c ∷ []))
initial_loads (s.new_grid {a = a} {q = q} {g = g} n o c h r b qs h2 d h3 gs few) =
    Free ∷ (region_loads r ++ (free a ++ (free q ++ Free ∷ (dims_loads d ++ Free ∷ free g))))
initial_loads (s.broadcast {l = l} {m = m} b f h e h2 root) = Free ∷ (weights l ++ Free ∷ weights m)

-- ---- simple statements

abbrev pub declared_loads : {l : List Token} {x : Stm} → Declared l x → List Load
declared_loads (s.declared {l = l} t a ty h h2 right) = free l ++ Free ∷ Free ∷ initial_loads right

abbrev pub changed_loads : {l : List Token} {x : Stm} → Changed l x → List Load
changed_loads (s.assign {l = l} a target h right) = weights l ++ Free ∷ initial_loads right
changed_loads (s.update {l = l} {m = m} a target h e) = weights l ++ Free ∷ weights m
changed_loads (s.step {l = l} a target h) = weights l ++ Free ∷ []

abbrev pub printed_loads : {l : List Token} {x : PrintTree} → Printed l x → List Load
printed_loads s.nothing = []
printed_loads (s.text t h) = Free ∷ []
printed_loads (s.text_and_value {l = l} t p h h2 e) = Free ∷ Free ∷ weights l
printed_loads (s.value {l = l} e) = weights l

-- ---- compound statements

abbrev pub condition_loads : {l : List Token} {x : Exp} → Condition l x → List Load
condition_loads (s.condition {l = l} o c h e h2) = Free ∷ (weights l ++ Free ∷ [])

abbrev pub first_loads : {l : List Token} {x : MaybeStm} → First l x → List Load
first_loads s.none = []
first_loads (s.declaration d) = declared_loads d
first_loads (s.change d) = changed_loads d

abbrev pub optional_loads : {l : List Token} {x : Option Exp} → Optional l x → List Load
optional_loads s.none = []
optional_loads (s.some {l = l} e) = weights l

abbrev pub update_loads : {l : List Token} {x : MaybeStm} → Update l x → List Load
update_loads s.none = []
update_loads (s.change d) = changed_loads d

abbrev mutual
  -- n is the level of compound statements that are directly in this statement
  pub stated_loads : ℕ → {b : Bool} {l : List Token} {x : Stm} → Stated b l x → List Load
  stated_loads n (s.block o c h xs h2) = Level n ∷ (items_loads (suc n) xs ++ Free ∷ [])
  stated_loads n (s.empty t h) = Free ∷ []
  stated_loads n (s.if_alone i h e x) = Level n ∷ (condition_loads e ++ stated_loads (suc n) x)
  stated_loads n (s.if_else i d h e x h2 y) = Level n ∷ (condition_loads e ++ (stated_loads (suc n) x ++ Free ∷ stated_loads (suc n) y))
  stated_loads n (s.while w h e x) = Level n ∷ (condition_loads e ++ stated_loads (suc n) x)
  stated_loads n (s.for f o p q c h h2 first h3 test h4 update h5 x) =
      Level n ∷ Free ∷ (first_loads first ++ Free ∷ (optional_loads test ++ Free ∷ (update_loads update ++ Free ∷ stated_loads (suc n) x)))
  stated_loads n (s.foreach {l = l} f o t i c h h2 h3 h4 e h5 x) =
      Level n ∷ Free ∷ Free ∷ Free ∷ (weights l ++ Free ∷ stated_loads (suc n) x)
  stated_loads n (s.change t d h) = changed_loads d ++ Free ∷ []
  stated_loads n (s.call {l = l} t e h) = weights l ++ Free ∷ []
  stated_loads n (s.print {l = l} p o c t printer h what h2 h3) = free l ++ Free ∷ (printed_loads what ++ Free ∷ Free ∷ [])
  stated_loads n (s.barrier i d b o c t h h2 h3 h4 h5 h6) = free (i ∷ d ∷ b ∷ o ∷ c ∷ t ∷ [])
  stated_loads n (s.break b t h h2) = free (b ∷ t ∷ [])
  stated_loads n (s.continue c t h h2) = free (c ∷ t ∷ [])
  stated_loads n (s.return r t h value h2) = Free ∷ (optional_loads value ++ Free ∷ [])

  pub items_loads : ℕ → {l : List Token} {xs : List Stm} → Items l xs → List Load
  items_loads n s.no_item = []
  items_loads n (s.declaration t d h xs) = declared_loads d ++ Free ∷ items_loads n xs
  items_loads n (s.statement x xs) = stated_loads n x ++ items_loads n xs

-- ---- classes

-- compound statements directly in a method's body have level 1
abbrev pub method_loads : {l : List Token} {params : ParamsTree} {body : List Stm} {e : Token} → Method l params body e → List Load
method_loads (c.method {l = l} o c b e h ps h2 h3 items h4) = Free ∷ (free l ++ Free ∷ Free ∷ (items_loads 1 items ++ Free ∷ []))

abbrev pub member_loads : {l : List Token} {x : MemberTree} → Member l x → List Load
member_loads (c.void_method {l = l} v t e ms h h2 rest) = free l ++ Free ∷ Free ∷ method_loads rest
member_loads (c.field {l = l} {m = m} t s ms ty h h2) = free l ++ (free m ++ Free ∷ Free ∷ [])
member_loads (c.method {l = l} {m = m} t e ms ty h rest) = free l ++ (free m ++ Free ∷ method_loads rest)

abbrev pub members_loads : {l : List Token} {xs : List MemberTree} → Members l xs → List Load
members_loads c.none = []
members_loads (c.more x xs) = member_loads x ++ members_loads xs

abbrev pub class_loads : {l : List Token} {x : ClassTree} → Class l x → List Load
class_loads (c.class {l = l} c t o e ms h h2 h3 xs h4) = free l ++ Free ∷ Free ∷ Free ∷ (members_loads xs ++ Free ∷ [])

abbrev pub classes_loads : {l : List Token} {xs : List ClassTree} → AllClasses l xs → List Load
classes_loads c.none = []
classes_loads (c.more x xs) = class_loads x ++ classes_loads xs
