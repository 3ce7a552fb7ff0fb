-- By the grammar, each update of a `for` is a simple statement, so no update of a parsed program has a jump in it.
use Rattle.std.proofs.Common.{◌≡◌, Bool, false, List, [], ◌∷◌, ◌++◌, ℕ, ◌+◌, refl}
use Rattle.ti_syntax.specs.declared.token.Token.{Token}
use Rattle.ti_syntax.specs.Trees.Statements.{Stm, MaybeStm, Stms, stms}
use Rattle.ti_syntax.specs.Trees.Statements as s
use Rattle.ti_syntax.specs.Trees.Classes.{ParamsTree, MemberTree, ClassTree, TextTree}
use Rattle.ti_syntax.specs.Spelling.{IsSpelled}
use Rattle.ti_syntax.specs.Spelling.Statements as st
use Rattle.ti_syntax.specs.Spelling.Statements.{Declared, declared, Changed, First, Update, Stated, Items}
use Rattle.ti_syntax.specs.Spelling.Classes as k
use Rattle.ti_syntax.specs.Spelling.Classes.{Method, Members, Class, AllClasses}
use Rattle.ti_lang.specs.Program.Statements.{NumberedStm, MaybeNumbered, NumberedStms, numbered_stms}
use Rattle.ti_lang.specs.Program.Classes.{NumberedMethod, ProgramView}
use Rattle.ti_lang.specs.Program.Scope.{this_of}
use Rattle.ti_lang.specs.Members.{OwnMethod, methods_in, methods_from, methods_of, is_single, name_number}
use Rattle.ti_lang.specs.Scopes.{Site}
use Rattle.ti_lang.specs.Numbering as number
use Rattle.ti_lang.specs.Numbering.{NumbersStm, NumbersMaybeStm, NumbersStms, NumbersMethod, NumbersMethods}
use Rattle.ti_lang.specs.Typing.Effects.{doings, doings_of_maybe}
use Rattle.ti_infer.proofs.Within.{Still, StillMaybe, StillAll, MethodsStill}

-- ---- statements

-- it is a change
abbrev IsChange : Stm → Type 0
IsChange (s.Assign at target value) = Unit {0}
IsChange (s.Update at op target x) = Unit {0}
IsChange (s.Step at op target) = Unit {0}
IsChange a = ⊥

abbrev IsChangeMaybe : MaybeStm → Type 0
IsChangeMaybe s.NoStm = Unit {0}
IsChangeMaybe (s.SomeStm a) = IsChange a

abbrev mutual
  -- each update in it is a change
  Changes : Stm → Type 0
  Changes (s.Block body) = AllChanges body
  Changes (s.If at c a) = Changes a
  Changes (s.IfElse at c a b) = Changes a × Changes b
  Changes (s.While at c body) = Changes body
  Changes (s.For at first c update body) = MaybeChanges first × IsChangeMaybe update × Changes body
  Changes (s.Foreach at name_at name domain body) = Changes body
  Changes a = Unit {0}

  MaybeChanges : MaybeStm → Type 0
  MaybeChanges s.NoStm = Unit {0}
  MaybeChanges (s.SomeStm a) = Changes a

  AllChanges : Stms → Type 0
  AllChanges s.Nil = Unit {0}
  AllChanges (s.Cons a rest) = Changes a × AllChanges rest

declared_changes : (l : List Token) (a : Stm) → Declared l a → Changes a
declared_changes l a (declared t o w i j v) = tt

changed_changes : (l : List Token) (a : Stm) → Changed l a → IsChange a × Changes a
changed_changes l a (st.assign o w i v) = (tt, tt)
changed_changes l a (st.update o w i v) = (tt, tt)
changed_changes l a (st.step o w i) = (tt, tt)

first_changes : (l : List Token) (a : MaybeStm) → First l a → MaybeChanges a
first_changes l a st.none = tt
first_changes l a (st.declaration w) = declared_changes _ _ w
first_changes l a (st.change w) = (changed_changes _ _ w).1

update_changes : (l : List Token) (a : MaybeStm) → Update l a → IsChangeMaybe a
update_changes l a st.none = tt
update_changes l a (st.change w) = (changed_changes _ _ w).0

mutual
  stated_changes : (open_if : Bool) (l : List Token) (a : Stm) → Stated open_if l a → Changes a
  stated_changes open_if l a (st.block o c i w j) = items_changes _ _ w
  stated_changes open_if l a (st.if_alone t i w v) = stated_changes _ _ _ v
  stated_changes open_if l a (st.if_else t d i w v j z) = (stated_changes _ _ _ v, stated_changes _ _ _ z)
  stated_changes open_if l a (st.while t i w v) = stated_changes _ _ _ v
  stated_changes open_if l a (st.for f o p q c i j v m w n u k z) = (first_changes _ _ v, update_changes _ _ u, stated_changes _ _ _ z)
  stated_changes open_if l a (st.foreach f o t i c j k m n w v z) = stated_changes _ _ _ z
  stated_changes open_if l a (st.change t w i) = (changed_changes _ _ w).1
  stated_changes open_if l a _ = tt

  items_changes : (l : List Token) (xs : List Stm) → Items l xs → AllChanges (stms xs)
  items_changes l xs st.no_item = tt
  items_changes l xs (st.declaration t w i rest) = (declared_changes _ _ w, items_changes _ _ rest)
  items_changes l xs (st.statement w rest) = (stated_changes _ _ _ w, items_changes _ _ rest)

-- ---- methods

abbrev MethodsChanges : List OwnMethod → Type 0
MethodsChanges [] = Unit {0}
MethodsChanges (own ∷ rest) = AllChanges (stms own.method.body) × MethodsChanges rest

methods_both : (xs ys : List OwnMethod) → MethodsChanges xs → MethodsChanges ys → MethodsChanges (xs ++ ys)
methods_both [] ys f g = g
methods_both (x ∷ xs) ys f g = (f.0, methods_both xs ys f.1 g)

method_changes : (l : List Token) (body : List Stm) {params : ParamsTree} {end : Token} → Method l params body end → AllChanges (stms body)
method_changes l body (k.method o c b z i w j m v n) = items_changes _ _ v

members_changes : (class : ℕ) (l : List Token) (ms : List MemberTree) → Members l ms → MethodsChanges (methods_in class ms)
members_changes class l ms k.none = tt
members_changes class l ms (k.more (k.void_method v t z ns i j w) rest) = (method_changes _ _ w, members_changes class _ _ rest)
members_changes class l ms (k.more (k.field t o ns w i j) rest) = members_changes class _ _ rest
members_changes class l ms (k.more (k.method t z ns v i w) rest) = (method_changes _ _ w, members_changes class _ _ rest)

class_changes : (number : ℕ) (l : List Token) (d : ClassTree) → Class l d → MethodsChanges (methods_in number d.members)
class_changes number l d (k.class c t o z ms i j m w n) = members_changes number _ _ w

classes_changes : (number : ℕ) (l : List Token) (text : TextTree) → AllClasses l text → MethodsChanges (methods_from number text)
classes_changes number l text k.none = tt
classes_changes number l text (k.more {x = x} {xs = xs} w rest) =
    methods_both (methods_in number x.members) (methods_from (number + 1) xs) (class_changes number _ _ w) (classes_changes (number + 1) _ _ rest)

spelled_changes : (text : TextTree) → IsSpelled text → MethodsChanges (methods_of text)
spelled_changes text spelled = classes_changes 0 _ text spelled.1.classes

-- ---- numbered statements

module _ (p : ProgramView) (m : NumberedMethod) where
  change_still : (site : Site) (x : Stm) (y : NumberedStm) → NumbersStm site x y → IsChange x → (doings p (this_of m) y).jumps ≡ false
  change_still site x y (number.assign h v) c = refl
  change_still site x y (number.update h i) c = refl
  change_still site x y (number.step h) c = refl
  change_still site x y _ c = elim c [ ]

  change_inside : (site : Site) (x : Stm) (y : NumberedStm) → NumbersStm site x y → IsChange x → Still p m y
  change_inside site x y (number.assign h v) c = tt
  change_inside site x y (number.update h i) c = tt
  change_inside site x y (number.step h) c = tt
  change_inside site x y _ c = elim c [ ]

  update_still : (site : Site) (x : MaybeStm) (y : MaybeNumbered) → NumbersMaybeStm site x y → IsChangeMaybe x → ((doings_of_maybe p (this_of m) y).jumps ≡ false) × StillMaybe p m y
  update_still site x y number.no_stm c = (refl, tt)
  update_still site x y (number.some_stm {x = a} {y = b} h) c = (change_still site a b h c, change_inside site a b h c)

  mutual
    stm_still : (site : Site) (x : Stm) (y : NumberedStm) → NumbersStm site x y → Changes x → Still p m y
    stm_still site x y (number.block h) c = stms_still _ _ _ h c
    stm_still site x y (number.if_alone h i) c = stm_still _ _ _ i c
    stm_still site x y (number.if_else h i j) c = (stm_still _ _ _ i c.0, stm_still _ _ _ j c.1)
    stm_still site x y (number.while h i) c = stm_still _ _ _ i c
    stm_still site x y (number.for h d u i) c = let w = update_still _ _ _ u c.1 in (w.0, maybe_still _ _ _ h c.0, w.1, stm_still _ _ _ i c.2)
    stm_still site x y (number.foreach fresh room h i) c = stm_still _ _ _ i c
    stm_still site x y _ c = tt

    maybe_still : (site : Site) (x : MaybeStm) (y : MaybeNumbered) → NumbersMaybeStm site x y → MaybeChanges x → StillMaybe p m y
    maybe_still site x y number.no_stm c = tt
    maybe_still site x y (number.some_stm h) c = stm_still _ _ _ h c

    stms_still : (site : Site) (xs : Stms) (ys : NumberedStms) → NumbersStms site xs ys → AllChanges xs → StillAll p m ys
    stms_still site xs ys number.nil c = tt
    stms_still site xs ys (number.cons h rest) c = (stm_still _ _ _ h c.0, stms_still _ _ _ rest c.1)

method_still : (p : ProgramView) (site : Site) (own : OwnMethod) (m : NumberedMethod) → NumbersMethod site own m → AllChanges (stms own.method.body) → StillAll p m (numbered_stms m.body)
method_still p site own m (number.method {result = result} {params = params} {body = body} r ps h) c =
    let m : NumberedMethod = record {
      class = own.class;
      modifiers = own.method.modifiers;
      is_single = is_single own.method.modifiers;
      result = result;
      place = own.method.place;
      name = name_number site.text own.method.name;
      params = params;
      body = body;
      end = own.method.end;
    } in
    stms_still p m _ _ _ h c

methods_still : (p : ProgramView) (text : TextTree) (n before : ℕ) (owns : List OwnMethod) (ms : List NumberedMethod)
    → NumbersMethods text n before owns ms → MethodsChanges owns → MethodsStill p ms
methods_still p text n before owns ms number.none c = tt
methods_still p text n before owns ms (number.more h k rest) c = (method_still p _ _ _ k c.0, methods_still p text _ _ _ _ rest c.1)

-- no update of a spelled text has a jump in it
pub text_still : (p : ProgramView) (text : TextTree) → IsSpelled text → NumbersMethods text 0 0 (methods_of text) p.methods → MethodsStill p p.methods
text_still p text spelled h = methods_still p text 0 0 (methods_of text) p.methods h (spelled_changes text spelled)
