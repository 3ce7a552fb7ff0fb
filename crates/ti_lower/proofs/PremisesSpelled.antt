-- Proves what the grammar guarantees of statements: no branch, no body and no update is a declaration.
use Rattle.std.proofs.Common.{Bool, List, [], ◌∷◌, ◌++◌, ℕ, ◌+◌}
use Rattle.ti_syntax.specs.declared.token.Token.{Token}
use Rattle.ti_syntax.specs.Trees.Statements.{Stm, MaybeStm, Stms, stms}
use Rattle.ti_syntax.specs.Trees.Statements as s
use Rattle.ti_syntax.specs.Trees.Classes.{ParamsTree, MemberTree, ClassTree, TextTree}
use Rattle.ti_syntax.specs.Spelling.{IsSpelled}
use Rattle.ti_syntax.specs.Spelling.Statements as st
use Rattle.ti_syntax.specs.Spelling.Statements.{Declared, declared, Changed, First, Update, Stated, Items}
use Rattle.ti_syntax.specs.Spelling.Classes as k
use Rattle.ti_syntax.specs.Spelling.Classes.{Method, Members, Class, AllClasses}
use Rattle.ti_lang.specs.Members.{OwnMethod, methods_in, methods_from, methods_of}

-- ---- statements

-- it is no declaration
abbrev pub IsPlain : Stm → Type 0
IsPlain (s.Declare at type name value) = ⊥
IsPlain a = Unit {0}

abbrev pub IsPlainMaybe : MaybeStm → Type 0
IsPlainMaybe s.NoStm = Unit {0}
IsPlainMaybe (s.SomeStm a) = IsPlain a

abbrev mutual
  -- no branch, no body and no update in it is a declaration
  pub Branched : Stm → Type 0
  Branched (s.Block body) = AllBranched body
  Branched (s.If at c a) = IsPlain a × Branched a
  Branched (s.IfElse at c a b) = (IsPlain a × Branched a) × (IsPlain b × Branched b)
  Branched (s.While at c body) = IsPlain body × Branched body
  Branched (s.For at first c update body) = MaybeBranched first × (IsPlainMaybe update × MaybeBranched update) × (IsPlain body × Branched body)
  Branched (s.Foreach at name_at name domain body) = IsPlain body × Branched body
  Branched a = Unit {0}

  pub MaybeBranched : MaybeStm → Type 0
  MaybeBranched s.NoStm = Unit {0}
  MaybeBranched (s.SomeStm a) = Branched a

  pub AllBranched : Stms → Type 0
  AllBranched s.Nil = Unit {0}
  AllBranched (s.Cons a rest) = Branched a × AllBranched rest

declared_branched : (l : List Token) (a : Stm) → Declared l a → Branched a
declared_branched l a (declared t o w i j v) = tt

changed_branched : (l : List Token) (a : Stm) → Changed l a → IsPlain a × Branched a
changed_branched l a (st.assign o w i v) = (tt, tt)
changed_branched l a (st.update o w i v) = (tt, tt)
changed_branched l a (st.step o w i) = (tt, tt)

first_branched : (l : List Token) (a : MaybeStm) → First l a → MaybeBranched a
first_branched l a st.none = tt
first_branched l a (st.declaration w) = declared_branched _ _ w
first_branched l a (st.change w) = (changed_branched _ _ w).1

update_branched : (l : List Token) (a : MaybeStm) → Update l a → IsPlainMaybe a × MaybeBranched a
update_branched l a st.none = (tt, tt)
update_branched l a (st.change w) = changed_branched _ _ w

mutual
  stated_branched : (open_if : Bool) (l : List Token) (a : Stm) → Stated open_if l a → IsPlain a × Branched a
  stated_branched open_if l a (st.block o c i w j) = (tt, items_branched _ _ w)
  stated_branched open_if l a (st.if_alone t i w v) = (tt, stated_branched _ _ _ v)
  stated_branched open_if l a (st.if_else t d i w v j z) = (tt, (stated_branched _ _ _ v, stated_branched _ _ _ z))
  stated_branched open_if l a (st.while t i w v) = (tt, stated_branched _ _ _ v)
  stated_branched open_if l a (st.for f o p q c i j v m w n u k z) = (tt, (first_branched _ _ v, update_branched _ _ u, stated_branched _ _ _ z))
  stated_branched open_if l a (st.foreach f o t i c j k m n w v z) = (tt, stated_branched _ _ _ z)
  stated_branched open_if l a (st.change t w i) = changed_branched _ _ w
  stated_branched open_if l a _ = (tt, tt)

  items_branched : (l : List Token) (xs : List Stm) → Items l xs → AllBranched (stms xs)
  items_branched l xs st.no_item = tt
  items_branched l xs (st.declaration t w i rest) = (declared_branched _ _ w, items_branched _ _ rest)
  items_branched l xs (st.statement w rest) = ((stated_branched _ _ _ w).1, items_branched _ _ rest)

-- ---- methods

-- those of all of these methods
abbrev pub MethodsBranched : List OwnMethod → Type 0
MethodsBranched [] = Unit {0}
MethodsBranched (own ∷ rest) = AllBranched (stms own.method.body) × MethodsBranched rest

methods_both : (xs ys : List OwnMethod) → MethodsBranched xs → MethodsBranched ys → MethodsBranched (xs ++ ys)
methods_both [] ys f g = g
methods_both (x ∷ xs) ys f g = (f.0, methods_both xs ys f.1 g)

method_branched : (l : List Token) (body : List Stm) {params : ParamsTree} {end : Token} → Method l params body end → AllBranched (stms body)
method_branched l body (k.method o c b z i w j m v n) = items_branched _ _ v

members_branched : (class : ℕ) (l : List Token) (ms : List MemberTree) → Members l ms → MethodsBranched (methods_in class ms)
members_branched class l ms k.none = tt
members_branched class l ms (k.more (k.void_method v t z ns i j w) rest) = (method_branched _ _ w, members_branched class _ _ rest)
members_branched class l ms (k.more (k.field t o ns w i j) rest) = members_branched class _ _ rest
members_branched class l ms (k.more (k.method t z ns v i w) rest) = (method_branched _ _ w, members_branched class _ _ rest)

class_branched : (number : ℕ) (l : List Token) (d : ClassTree) → Class l d → MethodsBranched (methods_in number d.members)
class_branched number l d (k.class c t o z ms i j m w n) = members_branched number _ _ w

classes_branched : (number : ℕ) (l : List Token) (text : TextTree) → AllClasses l text → MethodsBranched (methods_from number text)
classes_branched number l text k.none = tt
classes_branched number l text (k.more {x = x} {xs = xs} w rest) =
    methods_both (methods_in number x.members) (methods_from (number + 1) xs) (class_branched number _ _ w) (classes_branched (number + 1) _ _ rest)

-- in a text that is spelled
pub spelled_branched : (text : TextTree) → IsSpelled text → MethodsBranched (methods_of text)
spelled_branched text spelled = classes_branched 0 _ text spelled.1.classes
