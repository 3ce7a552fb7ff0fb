-- What the grammar says of the trees of a text: the dimensions of types and literals, and what targets and calls are.
use Rattle.std.proofs.Common.{◌≡◌, ◌⊎◌, inl, inr, ℕ, suc, ◌+◌, ◌≤◌, Bool, true, false, ◌&&◌, length, Option, Some, None, List, [], ◌∷◌, refl, ap₂, arith}
use Rattle.ti_syntax.specs.declared.token.Token.{Token}
use Rattle.ti_syntax.specs.declared.tree.types.Base.{Base}
use Rattle.ti_syntax.specs.declared.tree.types.Base.TheVariants as base
use Rattle.ti_syntax.specs.Trees.Types.{GridTree, TypeTree}
use Rattle.ti_syntax.specs.Trees.Expressions.{Exp, Exps, RangeTree, RangeTrees, exps, ranges_tree}
use Rattle.ti_syntax.specs.Trees.Expressions as e
use Rattle.ti_syntax.specs.Trees.Statements.{DimsTree, InitTree, PrintTree, Stm, MaybeStm, Stms, stms}
use Rattle.ti_syntax.specs.Trees.Statements as s
use Rattle.ti_syntax.specs.Trees.Classes.{ParamTree, ParamsTree, MemberTree, FieldMember, MethodMember, ClassTree, TextTree}
use Rattle.ti_syntax.specs.Trees.Classes as c
use Rattle.ti_syntax.specs.Spelling.{IsSpelled}
use Rattle.ti_syntax.specs.Spelling.Types as ty
use Rattle.ti_syntax.specs.Spelling.Types.{Arity, arity, Based, Gridded, FieldType, field_type, cast_type}
use Rattle.ti_syntax.specs.Spelling.Expressions as x
use Rattle.ti_syntax.specs.Spelling.Expressions.{Ending, Whole, Prefixed, Postfixed, Args, Listed, Ranges, Range}
use Rattle.ti_syntax.specs.Spelling.Statements as st
use Rattle.ti_syntax.specs.Spelling.Statements.{Start, start, Region, Dims, Initial, Declared, declared, Changed, Printed, Condition, condition, First, Optional, Update, Stated, Items}
use Rattle.ti_syntax.specs.Spelling.Classes as k
use Rattle.ti_syntax.specs.Spelling.Classes.{ParamList, Parameters, Method, Member, Members, Class, AllClasses}
use Rattle.ti_base.specs.Forms.{is_dim}
use Rattle.ti_lang.proofs.Lemmas.{dim_is}

-- ---- types

-- one to three dimensions, wherever a base has any
abbrev pub base_formed : Base → Bool
base_formed (base.Point at n) = is_dim n
base_formed (base.RectDomain at n) = is_dim n
base_formed (base.Domain at n) = is_dim n
base_formed b = true

-- what a field's type begins with
abbrev pub base_storable : Base → Bool
base_storable (base.Domain at n) = false
base_storable (base.SharedRegion at) = false
base_storable b = true

abbrev pub grids_formed : List GridTree → Bool
grids_formed [] = true
grids_formed (g ∷ rest) = is_dim g.dim && grids_formed rest

-- the type of a field, and any type
abbrev pub FieldFine : TypeTree → Type 0
FieldFine t = (base_formed t.base ≡ true) × (grids_formed t.grids ≡ true) × (base_storable t.base ≡ true)

abbrev pub TypeFine : TypeTree → Type 0
TypeFine t = (base_formed t.base ≡ true) × (grids_formed t.grids ≡ true) × ((base_storable t.base ≡ true) ⊎ (t.grids ≡ []))

arity_dim : (l : List Token) (n : ℕ) → Arity l n → is_dim n ≡ true
arity_dim l n (arity o t c i j low high k) = dim_is n (low, high)

based_fine : (l : List Token) (b : Base) → Based l b → (base_formed b ≡ true) × (base_storable b ≡ true)
based_fine l b (ty.int t k) = (refl, refl)
based_fine l b (ty.long t k) = (refl, refl)
based_fine l b (ty.boolean t k) = (refl, refl)
based_fine l b (ty.point t k a) = (arity_dim _ _ a, refl)
based_fine l b (ty.rect_domain t k a) = (arity_dim _ _ a, refl)
based_fine l b (ty.named t k) = (refl, refl)

gridded_fine : (l : List Token) (gs : List GridTree) → Gridded l gs → grids_formed gs ≡ true
gridded_fine l gs ty.none = refl
gridded_fine l gs (ty.more o t c {n = n} i j low high k q rest) = ap₂ (λ a b. a && b) (dim_is n (low, high)) (gridded_fine _ _ rest)

field_fine : (l : List Token) (t : TypeTree) → FieldType l t → FieldFine t
field_fine l t (field_type b q g few) = let k = based_fine _ _ b in (k.0, gridded_fine _ _ g, k.1)

typed_fine : (l : List Token) (t : TypeTree) → ty.Typed l t → TypeFine t
typed_fine l t (ty.field f) = let k = field_fine l t f in (k.0, k.1, inl k.2)
typed_fine l t (ty.wide (ty.domain w i a q)) = (arity_dim _ _ a, refl, inr refl)
typed_fine l t (ty.wide (ty.shared_region w i q)) = (refl, refl, inr refl)

-- ---- expressions

-- how many expressions and ranges there are
abbrev pub tree_count : Exps → ℕ
tree_count e.NoExp = 0
tree_count (e.MoreExp a rest) = tree_count rest + 1

abbrev pub ranges_count : RangeTrees → ℕ
ranges_count e.NoRange = 0
ranges_count (e.MoreRange r rest) = 1 + ranges_count rest

abbrev pub is_target_tree : Exp → Bool
is_target_tree (e.Name at name) = true
is_target_tree (e.Select at a name) = true
is_target_tree (e.Index at a parts) = true
is_target_tree a = false

abbrev pub is_call_tree : Exp → Bool
is_call_tree (e.Call at name args) = true
is_call_tree (e.Member at a name args) = true
is_call_tree a = false

abbrev mutual
  -- literals have one to three dimensions, and casts name types of fields
  pub ExpFine : Exp → Type 0
  ExpFine (e.Call at name args) = ExpsFine args
  ExpFine (e.Point at parts) = (is_dim (tree_count parts) ≡ true) × ExpsFine parts
  ExpFine (e.Rect at ranges) = (is_dim (ranges_count ranges) ≡ true) × RangesFine ranges
  ExpFine (e.Unary at op a) = ExpFine a
  ExpFine (e.Binary at op a b) = ExpFine a × ExpFine b
  ExpFine (e.Cast at to a) = FieldFine to × ExpFine a
  ExpFine (e.Select at a name) = ExpFine a
  ExpFine (e.Member at a name args) = ExpFine a × ExpsFine args
  ExpFine (e.Index at a parts) = ExpFine a × ExpsFine parts
  ExpFine a = Unit {0}

  pub ExpsFine : Exps → Type 0
  ExpsFine e.NoExp = Unit {0}
  ExpsFine (e.MoreExp a rest) = ExpFine a × ExpsFine rest

  pub RangeFine : RangeTree → Type 0
  RangeFine (e.Plain low high) = ExpFine low × ExpFine high
  RangeFine (e.Stepped low high step) = ExpFine low × ExpFine high × ExpFine step

  pub RangesFine : RangeTrees → Type 0
  RangesFine e.NoRange = Unit {0}
  RangesFine (e.MoreRange r rest) = RangeFine r × RangesFine rest

-- how many there are: one at least, and three at most where the list is so short
many : (l : List Token) (xs : List Exp) → Listed l xs → (tree_count (exps xs) ≡ length xs) × (1 ≤ length xs)
many l xs (x.last w) = (refl, omega arith)
many l xs (x.more t w i rest) = let q = many _ _ rest in (plus _ _ q.0, omega arith)
  where
    plus : (a b : ℕ) → a ≡ b → a + 1 ≡ suc b
    plus a b h = omega arith

many_ranges : (l : List Token) (rs : List RangeTree) → Ranges l rs → (ranges_count (ranges_tree rs) ≡ length rs) × (1 ≤ length rs)
many_ranges l rs (x.last_range r) = (refl, omega arith)
many_ranges l rs (x.more_ranges t r i rest) = let q = many_ranges _ _ rest in (plus _ _ q.0, omega arith)
  where
    plus : (a b : ℕ) → a ≡ b → 1 + a ≡ suc b
    plus a b h = omega arith

counted : (a b : ℕ) → a ≡ b → 1 ≤ b → b ≤ 3 → is_dim a ≡ true
counted a b h low high = dim_is a (omega (arith, h, low), omega (arith, h, high))

mutual
  whole_fine : (n : ℕ) (l : List Token) (a : Exp) → Whole n l a → ExpFine a
  whole_fine n l a (x.operand w) = prefixed_fine l a w
  whole_fine n l a (x.operation t i j v w) = (whole_fine _ _ _ v, whole_fine _ _ _ w)

  prefixed_fine : (l : List Token) (a : Exp) → Prefixed l a → ExpFine a
  prefixed_fine l a (x.unary t i w) = prefixed_fine _ _ w
  prefixed_fine l a (x.cast o c i (cast_type f j) k w) = (field_fine _ _ f, prefixed_fine _ _ w)
  prefixed_fine l a (x.postfixed {ending = ending} w) = postfixed_fine ending l a w

  postfixed_fine : (ending : Ending) (l : List Token) (a : Exp) → Postfixed ending l a → ExpFine a
  postfixed_fine ending l a (x.call t o c i j w k) = args_fine _ _ w
  postfixed_fine ending l a (x.group o c i w j) = whole_fine _ _ _ w
  postfixed_fine ending l a (x.rect o c i w few j) = let q = many_ranges _ _ w in (counted _ _ q.0 q.1 few, ranges_fine _ _ w)
  postfixed_fine ending l a (x.point o c i w few j) = let q = many _ _ w in (counted _ _ q.0 q.1 few, listed_fine _ _ w)
  postfixed_fine ending l a (x.select d t w i j) = postfixed_fine _ _ _ w
  postfixed_fine ending l a (x.member d t o c w i j k v z) = (postfixed_fine _ _ _ w, args_fine _ _ v)
  postfixed_fine ending l a (x.index o c w i v few j) = (postfixed_fine _ _ _ w, listed_fine _ _ v)
  postfixed_fine ending l a _ = tt

  args_fine : (l : List Token) (xs : List Exp) → Args l xs → ExpsFine (exps xs)
  args_fine l xs x.none = tt
  args_fine l xs (x.some w) = listed_fine l xs w

  listed_fine : (l : List Token) (xs : List Exp) → Listed l xs → ExpsFine (exps xs)
  listed_fine l xs (x.last w) = (whole_fine _ _ _ w, tt)
  listed_fine l xs (x.more t w i rest) = (whole_fine _ _ _ w, listed_fine _ _ rest)

  ranges_fine : (l : List Token) (rs : List RangeTree) → Ranges l rs → RangesFine (ranges_tree rs)
  ranges_fine l rs (x.last_range r) = (range_fine _ _ r, tt)
  ranges_fine l rs (x.more_ranges t r i rest) = (range_fine _ _ r, ranges_fine _ _ rest)

  range_fine : (l : List Token) (r : RangeTree) → Range l r → RangeFine r
  range_fine l r (x.plain o v i w) = (whole_fine _ _ _ v, whole_fine _ _ _ w)
  range_fine l r (x.stepped o t v i w j z) = (whole_fine _ _ _ v, whole_fine _ _ _ w, whole_fine _ _ _ z)

-- what an expression with such an end is
abbrev Ends : Ending → Exp → Type 0
Ends x.Target a = is_target_tree a ≡ true
Ends x.Call a = is_call_tree a ≡ true
Ends x.Other a = Unit {0}

ends : (ending : Ending) (l : List Token) (a : Exp) → Postfixed ending l a → Ends ending a
ends ending l a (x.name t i) = refl
ends ending l a (x.call t o c i j w k) = refl
ends ending l a (x.select d t w i j) = refl
ends ending l a (x.member d t o c w i j k v z) = refl
ends ending l a (x.index o c w i v few j) = refl
ends ending l a _ = tt

started : (ending : Ending) (l : List Token) (a : Exp) → Start ending l a → ExpFine a × Ends ending a
started ending l a (start w i) = (postfixed_fine ending l a w, ends ending l a w)

-- ---- right sides and prints

abbrev pub OptionFine : Option Exp → Type 0
OptionFine None = Unit {0}
OptionFine (Some a) = ExpFine a

abbrev pub DimsFine : DimsTree → Type 0
DimsFine (s.Domain a) = ExpFine a
DimsFine (s.Ranges ranges) = (is_dim (ranges_count (ranges_tree ranges)) ≡ true) × RangesFine (ranges_tree ranges)

abbrev pub InitFine : InitTree → Type 0
InitFine (s.Value a) = ExpFine a
InitFine (s.NewRegion at) = Unit {0}
InitFine (s.NewObject at region name_at name) = OptionFine region
InitFine (s.NewGrid at region element dims_at dims) = OptionFine region × FieldFine element × DimsFine dims
InitFine (s.Broadcast at a root) = ExpFine a × ExpFine root

abbrev pub PrintFine : PrintTree → Type 0
PrintFine (s.Expression a) = ExpFine a
PrintFine (s.TextAndExpression text a) = ExpFine a
PrintFine what = Unit {0}

region_fine : (l : List Token) (a : Option Exp) → Region l a → OptionFine a
region_fine l a st.none = tt
region_fine l a (st.some o c i w j) = whole_fine _ _ _ w

dims_fine : (l : List Token) (d : DimsTree) → Dims l d → DimsFine d
dims_fine l d (st.domain w) = whole_fine _ _ _ w
dims_fine l d (st.ranges w few) = let q = many_ranges _ _ w in (counted _ _ q.0 q.1 few, ranges_fine _ _ w)

initial_fine : (l : List Token) (v : InitTree) → Initial l v → InitFine v
initial_fine l v (st.value w) = whole_fine _ _ _ w
initial_fine l v (st.new_region n t o c i j k m) = tt
initial_fine l v (st.new_object n t o c i r j k m) = region_fine _ _ r
initial_fine l v (st.new_grid n o c i r b q j d k g few) = let f = based_fine _ _ b in (region_fine _ _ r, (f.0, gridded_fine _ _ g, f.1), dims_fine _ _ d)
initial_fine l v (st.broadcast b f i w j z) = (whole_fine _ _ _ w, whole_fine _ _ _ z)

printed_fine : (l : List Token) (w : PrintTree) → Printed l w → PrintFine w
printed_fine l w st.nothing = tt
printed_fine l w (st.text t i) = tt
printed_fine l w (st.text_and_value t p i j v) = whole_fine _ _ _ v
printed_fine l w (st.value v) = whole_fine _ _ _ v

optional_fine : (l : List Token) (a : Option Exp) → Optional l a → OptionFine a
optional_fine l a st.none = tt
optional_fine l a (st.some w) = whole_fine _ _ _ w

condition_fine : (l : List Token) (a : Exp) → Condition l a → ExpFine a
condition_fine l a (condition o c i w j) = whole_fine _ _ _ w

-- ---- statements

abbrev pub TargetFine : Exp → Type 0
TargetFine a = ExpFine a × (is_target_tree a ≡ true)

abbrev mutual
  pub StmFine : Stm → Type 0
  StmFine (s.Declare at type name value) = TypeFine type × InitFine value
  StmFine (s.Assign at target value) = TargetFine target × InitFine value
  StmFine (s.Update at op target a) = TargetFine target × ExpFine a
  StmFine (s.Step at op target) = TargetFine target
  StmFine (s.Call a) = ExpFine a × (is_call_tree a ≡ true)
  StmFine (s.Print at what) = PrintFine what
  StmFine (s.Return at value) = OptionFine value
  StmFine (s.Block body) = StmsFine body
  StmFine (s.If at c a) = ExpFine c × StmFine a
  StmFine (s.IfElse at c a b) = ExpFine c × StmFine a × StmFine b
  StmFine (s.While at c body) = ExpFine c × StmFine body
  StmFine (s.For at first c update body) = MaybeFine first × OptionFine c × MaybeFine update × StmFine body
  StmFine (s.Foreach at name_at name domain body) = ExpFine domain × StmFine body
  StmFine a = Unit {0}

  pub MaybeFine : MaybeStm → Type 0
  MaybeFine s.NoStm = Unit {0}
  MaybeFine (s.SomeStm a) = StmFine a

  pub StmsFine : Stms → Type 0
  StmsFine s.Nil = Unit {0}
  StmsFine (s.Cons a rest) = StmFine a × StmsFine rest

declared_fine : (l : List Token) (a : Stm) → Declared l a → StmFine a
declared_fine l a (declared t o w i j v) = (typed_fine _ _ w, initial_fine _ _ v)

changed_fine : (l : List Token) (a : Stm) → Changed l a → StmFine a
changed_fine l a (st.assign o w i v) = let q = started x.Target _ _ w in ((q.0, q.1), initial_fine _ _ v)
changed_fine l a (st.update o w i v) = let q = started x.Target _ _ w in ((q.0, q.1), whole_fine _ _ _ v)
changed_fine l a (st.step o w i) = let q = started x.Target _ _ w in (q.0, q.1)

first_fine : (l : List Token) (a : MaybeStm) → First l a → MaybeFine a
first_fine l a st.none = tt
first_fine l a (st.declaration w) = declared_fine _ _ w
first_fine l a (st.change w) = changed_fine _ _ w

last_fine : (l : List Token) (a : MaybeStm) → Update l a → MaybeFine a
last_fine l a st.none = tt
last_fine l a (st.change w) = changed_fine _ _ w

mutual
  stated_fine : (open_if : Bool) (l : List Token) (a : Stm) → Stated open_if l a → StmFine a
  stated_fine open_if l a (st.block o c i w j) = items_fine _ _ w
  stated_fine open_if l a (st.empty t i) = tt
  stated_fine open_if l a (st.if_alone t i w v) = (condition_fine _ _ w, stated_fine _ _ _ v)
  stated_fine open_if l a (st.if_else t d i w v j z) = (condition_fine _ _ w, stated_fine _ _ _ v, stated_fine _ _ _ z)
  stated_fine open_if l a (st.while t i w v) = (condition_fine _ _ w, stated_fine _ _ _ v)
  stated_fine open_if l a (st.for f o p q c i j v m w n u k z) = (first_fine _ _ v, optional_fine _ _ w, last_fine _ _ u, stated_fine _ _ _ z)
  stated_fine open_if l a (st.foreach f o t i c j k m n w v z) = (whole_fine _ _ _ w, stated_fine _ _ _ z)
  stated_fine open_if l a (st.change t w i) = changed_fine _ _ w
  stated_fine open_if l a (st.call t w i) = let q = started x.Call _ _ w in (q.0, q.1)
  stated_fine open_if l a (st.print p o c t i j w k m) = printed_fine _ _ w
  stated_fine open_if l a (st.barrier i d b o c t j k m n v w) = tt
  stated_fine open_if l a (st.break b t i j) = tt
  stated_fine open_if l a (st.continue c t i j) = tt
  stated_fine open_if l a (st.return r t i w j) = optional_fine _ _ w

  items_fine : (l : List Token) (xs : List Stm) → Items l xs → StmsFine (stms xs)
  items_fine l xs st.no_item = tt
  items_fine l xs (st.declaration t w i rest) = (declared_fine _ _ w, items_fine _ _ rest)
  items_fine l xs (st.statement w rest) = (stated_fine _ _ _ w, items_fine _ _ rest)

-- ---- classes

abbrev pub ParamsFine : List ParamTree → Type 0
ParamsFine [] = Unit {0}
ParamsFine (param ∷ rest) = TypeFine param.ty × ParamsFine rest

abbrev pub MethodFine : ParamsTree → List Stm → Type 0
MethodFine (c.MainArgs at name) body = StmsFine (stms body)
MethodFine (c.Params params) body = ParamsFine params × StmsFine (stms body)

abbrev pub MemberFine : MemberTree → Type 0
MemberFine (FieldMember f) = FieldFine f.ty
MemberFine (MethodMember m) = MethodFine m.params m.body

abbrev pub MembersFine : List MemberTree → Type 0
MembersFine [] = Unit {0}
MembersFine (member ∷ rest) = MemberFine member × MembersFine rest

abbrev pub TextFine : TextTree → Type 0
TextFine [] = Unit {0}
TextFine (class ∷ rest) = MembersFine class.members × TextFine rest

params_fine : (l : List Token) (ps : List ParamTree) → ParamList l ps → ParamsFine ps
params_fine l ps (k.last t w i) = (typed_fine _ _ w, tt)
params_fine l ps (k.more t o w i j rest) = (typed_fine _ _ w, params_fine _ _ rest)

parameters_fine : (l : List Token) (ps : ParamsTree) (body : List Stm) → Parameters l ps → StmsFine (stms body) → MethodFine ps body
parameters_fine l ps body k.none f = (tt, f)
parameters_fine l ps body (k.words a o c t i j m n) f = f
parameters_fine l ps body (k.typed w) f = (params_fine _ _ w, f)

method_fine : (l : List Token) (ps : ParamsTree) (body : List Stm) (end : Token) → Method l ps body end → MethodFine ps body
method_fine l ps body end (k.method o c b z i w j m v n) = parameters_fine _ ps body w (items_fine _ _ v)

member_fine : (l : List Token) (m : MemberTree) → Member l m → MemberFine m
member_fine l m (k.void_method v t z ms i j w) = method_fine _ _ _ _ w
member_fine l m (k.field t o ms w i j) = field_fine _ _ w
member_fine l m (k.method t z ms v i w) = method_fine _ _ _ _ w

members_fine : (l : List Token) (ms : List MemberTree) → Members l ms → MembersFine ms
members_fine l ms k.none = tt
members_fine l ms (k.more w rest) = (member_fine _ _ w, members_fine _ _ rest)

class_fine : (l : List Token) (d : ClassTree) → Class l d → MembersFine d.members
class_fine l d (k.class c t o z ms i j m w n) = members_fine _ _ w

classes_fine : (l : List Token) (text : TextTree) → AllClasses l text → TextFine text
classes_fine l text k.none = tt
classes_fine l text (k.more w rest) = (class_fine _ _ w, classes_fine _ _ rest)

-- a text that is spelled
pub spelled_fine : (text : TextTree) → IsSpelled text → TextFine text
spelled_fine text spelled = classes_fine _ text spelled.1.classes
