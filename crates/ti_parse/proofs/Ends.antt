-- No token of a program's classes is proved to be End.
use Rattle.std.proofs.Common.{◌≡◌, ℕ, ◌+◌, ◌≤◌, List, [], ◌∷◌, ◌++◌, Option, Some, Bool, refl, ap, arith}
use Rattle.ti_syntax.specs.declared.token.Token.{Token}
use Rattle.ti_syntax.specs.declared.token.TokenKind.{TokenKind}
use Rattle.ti_syntax.specs.declared.token.TokenKind.TheVariants as k
use Rattle.ti_syntax.specs.declared.tree.exprs.BinaryOperator.{BinaryOperator}
use Rattle.ti_syntax.specs.declared.tree.stmts.StepOperator.{StepOperator}
use Rattle.ti_syntax.specs.declared.tree.classes.Modifier.{Modifier}
use Rattle.ti_syntax.specs.declared.tree.classes.ModifierWord.{ModifierWord}
use Rattle.ti_syntax.specs.Trees.Types.{TypeTree}
use Rattle.ti_syntax.specs.Trees.Expressions.{Exp}
use Rattle.ti_syntax.specs.Trees.Statements.{DimsTree, InitTree, PrintTree, Stm, MaybeStm}
use Rattle.ti_syntax.specs.Trees.Classes.{ParamTree, ParamsTree, MemberTree, ClassTree}
use Rattle.ti_syntax.specs.Spelling.Operators.{update_of, step_of, modifier_of, class_modifier_of}
use Rattle.ti_syntax.specs.Spelling.Types.{FieldType, WideType, Typed}
use Rattle.ti_syntax.specs.Spelling.Types as types
use Rattle.ti_syntax.specs.Spelling.Expressions.{Ending, Whole}
use Rattle.ti_syntax.specs.Spelling.Statements.{Start, Region, Dims, Initial, Declared, Changed, Printer, Printed, Condition, First, Optional, Update, Stated, Items}
use Rattle.ti_syntax.specs.Spelling.Statements as s
use Rattle.ti_syntax.specs.Spelling.Classes.{ParamList, Parameters, Method, Modified, Member, Members, ClassModified, Class, AllClasses}
use Rattle.ti_syntax.specs.Spelling.Classes as c
use Rattle.ti_parse_expr.proofs.Lemmas.{ends, end_of, arity_ends, based_ends, qualified_ends, gridded_ends, whole_ends, postfixed_ends}
use Rattle.ti_parse_expr.proofs.Lemmas.{ranges_ends}

-- how many tokens are the end
abbrev last_of : TokenKind → ℕ
last_of k.End = 1
last_of _ = 0

abbrev lasts : List Token → ℕ
lasts [] = 0
lasts (t ∷ l) = last_of t.kind + lasts l

lasts-append : (a b : List Token) → lasts (a ++ b) ≡ lasts a + lasts b
lasts-append [] b = omega arith
lasts-append (t ∷ a) b = omega (arith, lasts-append a b)

last_ends : (q : TokenKind) → last_of q ≤ end_of q
last_ends k.End = omega arith
last_ends _ = omega arith

lasts_few : (l : List Token) → lasts l ≤ ends l
lasts_few [] = omega arith
lasts_few (t ∷ l) = omega (arith, last_ends t.kind, lasts_few l)

update_goes_on : (q : TokenKind) (op : BinaryOperator) → update_of q ≡ Some op → last_of q ≡ 0
update_goes_on k.End op h = cc
update_goes_on _ op h = refl

step_goes_on : (q : TokenKind) (op : StepOperator) → step_of q ≡ Some op → last_of q ≡ 0
step_goes_on k.End op h = cc
step_goes_on _ op h = refl

modifier_goes_on : (q : TokenKind) (word : ModifierWord) → modifier_of q ≡ Some word → last_of q ≡ 0
modifier_goes_on k.End word h = cc
modifier_goes_on _ word h = refl

class_modifier_goes_on : (q : TokenKind) (word : ModifierWord) → class_modifier_of q ≡ Some word → last_of q ≡ 0
class_modifier_goes_on k.End word h = cc
class_modifier_goes_on _ word h = refl

-- ---- types and expressions

field_lasts : {l : List Token} {ty : TypeTree} → FieldType l ty → lasts l ≡ 0
field_lasts (types.field_type {a = a} {l = l} {m = m} b q g few) =
    omega (arith, lasts-append a (l ++ m), lasts-append l m, lasts_few a, lasts_few l, lasts_few m, based_ends b, qualified_ends q, gridded_ends g)

wide_lasts : {l : List Token} {ty : TypeTree} → WideType l ty → lasts l ≡ 0
wide_lasts (types.domain {l = l} {m = m} t h a q) = omega (arith, lasts-append l m, ap last_of h, lasts_few l, lasts_few m, arity_ends a, qualified_ends q)
wide_lasts (types.shared_region {l = l} t h q) = omega (arith, ap last_of h, lasts_few l, qualified_ends q)

typed_lasts : {l : List Token} {ty : TypeTree} → Typed l ty → lasts l ≡ 0
typed_lasts (types.field ty) = field_lasts ty
typed_lasts (types.wide ty) = wide_lasts ty

whole_lasts : {n : ℕ} {l : List Token} {x : Exp} → Whole n l x → lasts l ≡ 0
whole_lasts {l = l} x = omega (arith, lasts_few l, whole_ends x)

start_lasts : {ending : Ending} {l : List Token} {x : Exp} → Start ending l x → lasts l ≡ 0
start_lasts (s.start {l = l} x h) = omega (arith, lasts_few l, postfixed_ends x)

-- ---- right sides

region_lasts : {l : List Token} {x : Option Exp} → Region l x → lasts l ≡ 0
region_lasts s.none = refl
region_lasts (s.some {l = l} o c h x h2) = omega (arith, lasts-append l (c ∷ []), ap last_of h, ap last_of h2, whole_lasts x)

dims_lasts : {l : List Token} {x : DimsTree} → Dims l x → lasts l ≡ 0
dims_lasts (s.domain x) = whole_lasts x
dims_lasts (s.ranges {l = l} rs few) = omega (arith, lasts_few l, ranges_ends rs)

initial_lasts : {l : List Token} {x : InitTree} → Initial l x → lasts l ≡ 0
initial_lasts (s.value x) = whole_lasts x
initial_lasts (s.new_region n t o c h h2 h3 h4) = omega (arith, ap last_of h, ap last_of h2, ap last_of h3, ap last_of h4)
initial_lasts (s.new_object {l = l} n t o c h r h2 h3 h4) = omega (arith, lasts-append l (t ∷ o ∷ c ∷ []), ap last_of h, ap last_of h2, ap last_of h3, ap last_of h4, region_lasts r)
initial_lasts (s.new_grid {l = l} {a = a} {q = q} {d = d} {g = g} n o c h r b qs h2 x h3 gs few) =
    omega (
      arith,
      lasts-append l (a ++ (q ++ o ∷ (d ++ c ∷ g))),
      lasts-append a (q ++ o ∷ (d ++ c ∷ g)),
      lasts-append q (o ∷ (d ++ c ∷ g)),
      lasts-append d (c ∷ g),
      ap last_of h,
      ap last_of h2,
      ap last_of h3,
      region_lasts r,
      lasts_few a,
      based_ends b,
      lasts_few q,
      qualified_ends qs,
      dims_lasts x,
      lasts_few g,
      gridded_ends gs,
    )
initial_lasts (s.broadcast {l = l} {m = m} b f h x h2 y) = omega (arith, lasts-append l (f ∷ m), ap last_of h, ap last_of h2, whole_lasts x, whole_lasts y)

-- ---- simple statements

declared_lasts : {l : List Token} {x : Stm} → Declared l x → lasts l ≡ 0
declared_lasts (s.declared {l = l} {m = m} t a ty h h2 right) = omega (arith, lasts-append l (t ∷ a ∷ m), ap last_of h, ap last_of h2, typed_lasts ty, initial_lasts right)

changed_lasts : {l : List Token} {x : Stm} → Changed l x → lasts l ≡ 0
changed_lasts (s.assign {l = l} {m = m} a x h right) = omega (arith, lasts-append l (a ∷ m), ap last_of h, start_lasts x, initial_lasts right)
changed_lasts (s.update {l = l} {m = m} a {op = op} x h y) = omega (arith, lasts-append l (a ∷ m), update_goes_on a.kind op h, start_lasts x, whole_lasts y)
changed_lasts (s.step {l = l} a {op = op} x h) = omega (arith, lasts-append l (a ∷ []), step_goes_on a.kind op h, start_lasts x)

printer_lasts : {l : List Token} {p : Token} → Printer l p → lasts l ≡ 0
printer_lasts (s.short t h) = omega (arith, ap last_of h)
printer_lasts (s.long a d o p t h h2 h3 h4 h5) = omega (arith, ap last_of h, ap last_of h2, ap last_of h3, ap last_of h4, ap last_of h5)

printed_lasts : {l : List Token} {x : PrintTree} → Printed l x → lasts l ≡ 0
printed_lasts s.nothing = refl
printed_lasts (s.text t h) = omega (arith, ap last_of h)
printed_lasts (s.text_and_value t p h h2 x) = omega (arith, ap last_of h, ap last_of h2, whole_lasts x)
printed_lasts (s.value x) = whole_lasts x

-- ---- statements

condition_lasts : {l : List Token} {x : Exp} → Condition l x → lasts l ≡ 0
condition_lasts (s.condition {l = l} o c h x h2) = omega (arith, lasts-append l (c ∷ []), ap last_of h, ap last_of h2, whole_lasts x)

first_lasts : {l : List Token} {x : MaybeStm} → First l x → lasts l ≡ 0
first_lasts s.none = refl
first_lasts (s.declaration d) = declared_lasts d
first_lasts (s.change d) = changed_lasts d

optional_lasts : {l : List Token} {x : Option Exp} → Optional l x → lasts l ≡ 0
optional_lasts s.none = refl
optional_lasts (s.some x) = whole_lasts x

update_lasts : {l : List Token} {x : MaybeStm} → Update l x → lasts l ≡ 0
update_lasts s.none = refl
update_lasts (s.change d) = changed_lasts d

mutual
  stated_lasts : {open_if : Bool} {l : List Token} {x : Stm} → Stated open_if l x → lasts l ≡ 0
  stated_lasts (s.block {l = l} o c h xs h2) = omega (arith, lasts-append l (c ∷ []), ap last_of h, ap last_of h2, items_lasts xs)
  stated_lasts (s.empty t h) = omega (arith, ap last_of h)
  stated_lasts (s.if_alone {l = l} {m = m} i h e x) = omega (arith, lasts-append l m, ap last_of h, condition_lasts e, stated_lasts x)
  stated_lasts (s.if_else {l = l} {m = m} {v = v} i d h e x h2 y) =
      omega (
        arith,
        lasts-append l (m ++ d ∷ v),
        lasts-append m (d ∷ v),
        ap last_of h,
        ap last_of h2,
        condition_lasts e,
        stated_lasts x,
        stated_lasts y,
      )
  stated_lasts (s.while {l = l} {m = m} w h e x) = omega (arith, lasts-append l m, ap last_of h, condition_lasts e, stated_lasts x)
  stated_lasts (s.for {l = l} {m = m} {u = u} {v = v} f o p q c h h2 first h3 test h4 update h5 x) =
      omega (
        arith,
        lasts-append l (p ∷ (m ++ q ∷ (u ++ c ∷ v))),
        lasts-append m (q ∷ (u ++ c ∷ v)),
        lasts-append u (c ∷ v),
        ap last_of h,
        ap last_of h2,
        ap last_of h3,
        ap last_of h4,
        ap last_of h5,
        first_lasts first,
        optional_lasts test,
        update_lasts update,
        stated_lasts x,
      )
  stated_lasts (s.foreach {l = l} {m = m} f o t i c h h2 h3 h4 e h5 x) =
      omega (arith, lasts-append l (c ∷ m), ap last_of h, ap last_of h2, ap last_of h3, ap last_of h4, ap last_of h5, whole_lasts e, stated_lasts x)
  stated_lasts (s.change {l = l} t d h) = omega (arith, lasts-append l (t ∷ []), ap last_of h, changed_lasts d)
  stated_lasts (s.call {l = l} t e h) = omega (arith, lasts-append l (t ∷ []), ap last_of h, start_lasts e)
  stated_lasts (s.print {l = l} {m = m} p o c t printer h what h2 h3) =
      omega (arith, lasts-append l (o ∷ (m ++ c ∷ t ∷ [])), lasts-append m (c ∷ t ∷ []), ap last_of h, ap last_of h2, ap last_of h3, printer_lasts printer, printed_lasts what)
  stated_lasts (s.barrier i d b o c t h h2 h3 h4 h5 h6) = omega (arith, ap last_of h, ap last_of h2, ap last_of h3, ap last_of h4, ap last_of h5, ap last_of h6)
  stated_lasts (s.break b t h h2) = omega (arith, ap last_of h, ap last_of h2)
  stated_lasts (s.continue c t h h2) = omega (arith, ap last_of h, ap last_of h2)
  stated_lasts (s.return {l = l} r t h value h2) = omega (arith, lasts-append l (t ∷ []), ap last_of h, ap last_of h2, optional_lasts value)

  items_lasts : {l : List Token} {xs : List Stm} → Items l xs → lasts l ≡ 0
  items_lasts s.no_item = refl
  items_lasts (s.declaration {l = l} {m = m} t d h xs) = omega (arith, lasts-append l (t ∷ m), ap last_of h, declared_lasts d, items_lasts xs)
  items_lasts (s.statement {l = l} {m = m} x xs) = omega (arith, lasts-append l m, stated_lasts x, items_lasts xs)

-- ---- methods

params_lasts : {l : List Token} {ps : List ParamTree} → ParamList l ps → lasts l ≡ 0
params_lasts (c.last {l = l} t ty h) = omega (arith, lasts-append l (t ∷ []), ap last_of h, typed_lasts ty)
params_lasts (c.more {l = l} {m = m} t u ty h h2 ps) = omega (arith, lasts-append l (t ∷ u ∷ m), ap last_of h, ap last_of h2, typed_lasts ty, params_lasts ps)

parameters_lasts : {l : List Token} {ps : ParamsTree} → Parameters l ps → lasts l ≡ 0
parameters_lasts c.none = refl
parameters_lasts (c.words a o u t h h2 h3 h4) = omega (arith, ap last_of h, ap last_of h2, ap last_of h3, ap last_of h4)
parameters_lasts (c.typed ps) = params_lasts ps

method_lasts : {l : List Token} {ps : ParamsTree} {body : List Stm} {e : Token} → Method l ps body e → lasts l ≡ 0
method_lasts (c.method {l = l} {m = m} o u b e h ps h2 h3 xs h4) =
    omega (arith, lasts-append l (u ∷ b ∷ (m ++ e ∷ [])), lasts-append m (e ∷ []), ap last_of h, ap last_of h2, ap last_of h3, ap last_of h4, parameters_lasts ps, items_lasts xs)

-- ---- members and classes

modified_lasts : {l : List Token} {ms : List Modifier} → Modified l ms → lasts l ≡ 0
modified_lasts c.none = refl
modified_lasts (c.more t {word = word} h ms) = omega (arith, modifier_goes_on t.kind word h, modified_lasts ms)

member_lasts : {l : List Token} {x : MemberTree} → Member l x → lasts l ≡ 0
member_lasts (c.void_method {l = l} {m = m} v t e ms h h2 rest) = omega (arith, lasts-append l (v ∷ t ∷ m), ap last_of h, ap last_of h2, modified_lasts ms, method_lasts rest)
member_lasts (c.field {l = l} {m = m} t u ms ty h h2) = omega (arith, lasts-append l (m ++ t ∷ u ∷ []), lasts-append m (t ∷ u ∷ []), ap last_of h, ap last_of h2, modified_lasts ms, field_lasts ty)
member_lasts (c.method {l = l} {m = m} {v = v} t e ms ty h rest) =
    omega (arith, lasts-append l (m ++ t ∷ v), lasts-append m (t ∷ v), ap last_of h, modified_lasts ms, typed_lasts ty, method_lasts rest)

members_lasts : {l : List Token} {xs : List MemberTree} → Members l xs → lasts l ≡ 0
members_lasts c.none = refl
members_lasts (c.more {l = l} {m = m} x xs) = omega (arith, lasts-append l m, member_lasts x, members_lasts xs)

class_modified_lasts : {l : List Token} {ms : List Modifier} → ClassModified l ms → lasts l ≡ 0
class_modified_lasts c.none = refl
class_modified_lasts (c.more t {word = word} h ms) = omega (arith, class_modifier_goes_on t.kind word h, class_modified_lasts ms)

class_lasts : {l : List Token} {x : ClassTree} → Class l x → lasts l ≡ 0
class_lasts (c.class {l = l} {m = m} w t o e ms h h2 h3 xs h4) =
    omega (arith, lasts-append l (w ∷ t ∷ o ∷ (m ++ e ∷ [])), lasts-append m (e ∷ []), ap last_of h, ap last_of h2, ap last_of h3, ap last_of h4, class_modified_lasts ms, members_lasts xs)

classes_lasts : {l : List Token} {xs : List ClassTree} → AllClasses l xs → lasts l ≡ 0
classes_lasts c.none = refl
classes_lasts (c.more {l = l} {m = m} x xs) = omega (arith, lasts-append l m, class_lasts x, classes_lasts xs)

pub classes_no_end : {l : List Token} {xs : List ClassTree} → AllClasses l xs → (f : List Token) (t : Token) (r : List Token) → l ≡ f ++ t ∷ r → t.kind ≡ k.End → ⊥
classes_no_end xs f t r is ends = omega (arith, classes_lasts xs, ap lasts is, lasts-append f (t ∷ r), ap last_of ends)
