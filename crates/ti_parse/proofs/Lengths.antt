-- The lists of loads are proved as long as the token lists of their phrases.
use Rattle.std.proofs.Common.{◌≡◌, ℕ, suc, List, [], ◌∷◌, ◌++◌, length, Option, refl, ap, arith, length-append, Bool}
use Rattle.std.proofs.lemmas.List.{length-map}
use Rattle.ti_syntax.specs.declared.token.Token.{Token}
use Rattle.ti_syntax.specs.Trees.Expressions.{Exp, RangeTree}
use Rattle.ti_syntax.specs.Trees.Statements.{DimsTree, InitTree, PrintTree, Stm, MaybeStm}
use Rattle.ti_syntax.specs.Trees.Classes.{ParamsTree, MemberTree}
use Rattle.ti_syntax.specs.Spelling.Expressions.{Ranges, Range}
use Rattle.ti_syntax.specs.Spelling.Expressions as e
use Rattle.ti_syntax.specs.Spelling.Statements.{Region, Dims, Initial, Declared, Changed, Printed, Condition, First, Optional, Update, Stated, Items}
use Rattle.ti_syntax.specs.Spelling.Statements as s
use Rattle.ti_syntax.specs.Spelling.Classes.{Method, Member, Members}
use Rattle.ti_syntax.specs.Spelling.Classes as c
use Rattle.ti_syntax.specs.Spelling.Loads.{Load, Free, free, weights, region_loads, range_loads, ranges_loads, dims_loads, initial_loads}
use Rattle.ti_syntax.specs.Spelling.Loads.{declared_loads, changed_loads, printed_loads, condition_loads, first_loads, optional_loads}
use Rattle.ti_syntax.specs.Spelling.Loads.{update_loads, stated_loads, items_loads, method_loads, member_loads, members_loads}
use Rattle.ti_parse_expr.proofs.Lemmas.{weights_long}

-- as many loads as tokens
pub record Loaded (loads : List Load) (l : List Token) : Type 0 where
  pub long : length loads ≡ length l

pub none_loaded : Loaded [] []
none_loaded = record { long = refl }

pub one_loaded : {x : Load} {t : Token} {loads : List Load} {l : List Token} → Loaded loads l → Loaded (x ∷ loads) (t ∷ l)
one_loaded rest = record { long = ap suc rest.long }

pub both_loaded : {la lb : List Load} {a b : List Token} → Loaded la a → Loaded lb b → Loaded (la ++ lb) (a ++ b)
both_loaded {la = la} {lb = lb} {a = a} {b = b} first second = record { long = omega (arith, length-append la lb, length-append a b, first.long, second.long) }

pub last_loaded : {x : Load} {t : Token} → Loaded (x ∷ []) (t ∷ [])
last_loaded = one_loaded none_loaded

pub free_loaded : (l : List Token) → Loaded (free l) l
free_loaded l = record { long = length-map l (λ t. Free) }

pub weights_loaded : (l : List Token) → Loaded (weights l) l
weights_loaded l = record { long = weights_long l }

-- ---- right sides

pub region_loaded : {l : List Token} {x : Option Exp} (q : Region l x) → Loaded (region_loads q) l
region_loaded s.none = none_loaded
region_loaded (s.some {l = l} o c h x h2) = one_loaded (both_loaded (weights_loaded l) last_loaded)

pub range_loaded : {l : List Token} {x : RangeTree} (q : Range l x) → Loaded (range_loads q) l
range_loaded (e.plain {l = l} {m = m} t low h high) = both_loaded (weights_loaded l) (one_loaded (weights_loaded m))
range_loaded (e.stepped {l = l} {m = m} {v = v} t u low h high h2 step) = both_loaded (weights_loaded l) (one_loaded (both_loaded (weights_loaded m) (one_loaded (weights_loaded v))))

pub ranges_loaded : {l : List Token} {xs : List RangeTree} (q : Ranges l xs) → Loaded (ranges_loads q) l
ranges_loaded (e.last_range r) = range_loaded r
ranges_loaded (e.more_ranges t r h rs) = both_loaded (range_loaded r) (one_loaded (ranges_loaded rs))

pub dims_loaded : {l : List Token} {x : DimsTree} (q : Dims l x) → Loaded (dims_loads q) l
dims_loaded (s.domain {l = l} x) = weights_loaded l
dims_loaded (s.ranges rs few) = ranges_loaded rs

pub initial_loaded : {l : List Token} {x : InitTree} (q : Initial l x) → Loaded (initial_loads q) l
initial_loaded (s.value {l = l} x) = weights_loaded l
initial_loaded (s.new_region n t o c h h2 h3 h4) = free_loaded (n ∷ t ∷ o ∷ c ∷ [])
initial_loaded (s.new_object n t o c h r h2 h3 h4) = one_loaded (both_loaded (region_loaded r) (free_loaded (t ∷ o ∷ c ∷ [])))
initial_loaded (s.new_grid {a = a} {q = q} {g = g} n o c h r b qs h2 d h3 gs few) =
    one_loaded (both_loaded (region_loaded r) (both_loaded (free_loaded a) (both_loaded (free_loaded q) (one_loaded (both_loaded (dims_loaded d) (one_loaded (free_loaded g)))))))
initial_loaded (s.broadcast {l = l} {m = m} b f h x h2 root) = one_loaded (both_loaded (weights_loaded l) (one_loaded (weights_loaded m)))

-- ---- simple statements

pub declared_loaded : {l : List Token} {x : Stm} (q : Declared l x) → Loaded (declared_loads q) l
declared_loaded (s.declared {l = l} t a ty h h2 right) = both_loaded (free_loaded l) (one_loaded (one_loaded (initial_loaded right)))

pub changed_loaded : {l : List Token} {x : Stm} (q : Changed l x) → Loaded (changed_loads q) l
changed_loaded (s.assign {l = l} a target h right) = both_loaded (weights_loaded l) (one_loaded (initial_loaded right))
changed_loaded (s.update {l = l} {m = m} a target h x) = both_loaded (weights_loaded l) (one_loaded (weights_loaded m))
changed_loaded (s.step {l = l} a target h) = both_loaded (weights_loaded l) last_loaded

pub printed_loaded : {l : List Token} {x : PrintTree} (q : Printed l x) → Loaded (printed_loads q) l
printed_loaded s.nothing = none_loaded
printed_loaded (s.text t h) = last_loaded
printed_loaded (s.text_and_value {l = l} t p h h2 x) = one_loaded (one_loaded (weights_loaded l))
printed_loaded (s.value {l = l} x) = weights_loaded l

-- ---- compound statements

pub condition_loaded : {l : List Token} {x : Exp} (q : Condition l x) → Loaded (condition_loads q) l
condition_loaded (s.condition {l = l} o c h x h2) = one_loaded (both_loaded (weights_loaded l) last_loaded)

pub first_loaded : {l : List Token} {x : MaybeStm} (q : First l x) → Loaded (first_loads q) l
first_loaded s.none = none_loaded
first_loaded (s.declaration d) = declared_loaded d
first_loaded (s.change d) = changed_loaded d

pub optional_loaded : {l : List Token} {x : Option Exp} (q : Optional l x) → Loaded (optional_loads q) l
optional_loaded s.none = none_loaded
optional_loaded (s.some {l = l} x) = weights_loaded l

pub update_loaded : {l : List Token} {x : MaybeStm} (q : Update l x) → Loaded (update_loads q) l
update_loaded s.none = none_loaded
update_loaded (s.change d) = changed_loaded d

mutual
  pub stated_loaded : {b : Bool} {l : List Token} {x : Stm} (n : ℕ) (q : Stated b l x) → Loaded (stated_loads n q) l
  stated_loaded n (s.block o c h xs h2) = one_loaded (both_loaded (items_loaded (suc n) xs) last_loaded)
  stated_loaded n (s.empty t h) = one_loaded none_loaded
  stated_loaded n (s.if_alone i h c x) = one_loaded (both_loaded (condition_loaded c) (stated_loaded (suc n) x))
  stated_loaded n (s.if_else i d h c x h2 y) = one_loaded (both_loaded (condition_loaded c) (both_loaded (stated_loaded (suc n) x) (one_loaded (stated_loaded (suc n) y))))
  stated_loaded n (s.while w h c x) = one_loaded (both_loaded (condition_loaded c) (stated_loaded (suc n) x))
  stated_loaded n (s.for f o p q c h h2 first h3 test h4 update h5 x) =
      one_loaded (one_loaded (both_loaded (first_loaded first) (one_loaded
      (both_loaded (optional_loaded test) (one_loaded (both_loaded (update_loaded update)
      (one_loaded (stated_loaded (suc n) x))))))))
  stated_loaded n (s.foreach {l = l} f o t i c h h2 h3 h4 d h5 x) = one_loaded (one_loaded (one_loaded (one_loaded (both_loaded (weights_loaded l) (one_loaded (stated_loaded (suc n) x))))))
  stated_loaded n (s.change t d h) = both_loaded (changed_loaded d) last_loaded
  stated_loaded n (s.call {l = l} t x h) = both_loaded (weights_loaded l) last_loaded
  stated_loaded n (s.print {l = l} p o c t printer h what h2 h3) = both_loaded (free_loaded l) (one_loaded (both_loaded (printed_loaded what) (one_loaded (one_loaded none_loaded))))
  stated_loaded n (s.barrier i d b o c t h h2 h3 h4 h5 h6) = free_loaded (i ∷ d ∷ b ∷ o ∷ c ∷ t ∷ [])
  stated_loaded n (s.break b t h h2) = free_loaded (b ∷ t ∷ [])
  stated_loaded n (s.continue c t h h2) = free_loaded (c ∷ t ∷ [])
  stated_loaded n (s.return r t h value h2) = one_loaded (both_loaded (optional_loaded value) last_loaded)

  pub items_loaded : {l : List Token} {xs : List Stm} (n : ℕ) (q : Items l xs) → Loaded (items_loads n q) l
  items_loaded n s.no_item = none_loaded
  items_loaded n (s.declaration t d h xs) = both_loaded (declared_loaded d) (one_loaded (items_loaded n xs))
  items_loaded n (s.statement x xs) = both_loaded (stated_loaded n x) (items_loaded n xs)

-- ---- classes

pub method_loaded : {l : List Token} {params : ParamsTree} {body : List Stm} {e : Token} (q : Method l params body e) → Loaded (method_loads q) l
method_loaded (c.method {l = l} o c b e h ps h2 h3 items h4) = one_loaded (both_loaded (free_loaded l) (one_loaded (one_loaded (both_loaded (items_loaded 1 items) last_loaded))))

pub member_loaded : {l : List Token} {x : MemberTree} (q : Member l x) → Loaded (member_loads q) l
member_loaded (c.void_method {l = l} v t e ms h h2 rest) = both_loaded (free_loaded l) (one_loaded (one_loaded (method_loaded rest)))
member_loaded (c.field {l = l} {m = m} t s ms ty h h2) = both_loaded (free_loaded l) (both_loaded (free_loaded m) (one_loaded (one_loaded none_loaded)))
member_loaded (c.method {l = l} {m = m} t e ms ty h rest) = both_loaded (free_loaded l) (both_loaded (free_loaded m) (one_loaded (method_loaded rest)))

pub members_loaded : {l : List Token} {xs : List MemberTree} (q : Members l xs) → Loaded (members_loads q) l
members_loaded c.none = none_loaded
members_loaded (c.more x xs) = both_loaded (member_loaded x) (members_loaded xs)
