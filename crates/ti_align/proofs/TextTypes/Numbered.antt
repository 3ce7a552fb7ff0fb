-- What the numbers of a text say of the statements, the methods and the fields of its program.
use Rattle.std.proofs.Common.{◌≡◌, ℕ, suc, zero, ◌+◌, ◌≤◌, ◌==◌, true, ◌&&◌, cond, if◌then◌else◌, length, find, slice_get, is_some, is_none, option_map, Option, Some, None, List, [], ◌∷◌, ◌++◌, bytes_eq, refl, ap, ap₂, sym, ◌∙◌, subst, arith}
use Rattle.std.specs.Option.{option_map_or}
use Rattle.ti_syntax.specs.Trees.Statements.{Stm, MaybeStm, Stms, stms}
use Rattle.ti_syntax.specs.Trees.Classes.{FieldTree, ParamTree, ParamsTree, MemberTree, FieldMember, MethodMember, ClassTree, TextTree}
use Rattle.ti_lang.specs.Program.Types.{ValueType, NumberedType}
use Rattle.ti_lang.specs.Program.Types as t
use Rattle.ti_lang.specs.Program.Statements.{NumberedStm, MaybeNumbered, NumberedStms, numbered_stms}
use Rattle.ti_lang.specs.Program.Classes.{NumberedField, NumberedClass, NumberedParam, NumberedParams, NumberedMethod, ProgramView}
use Rattle.ti_lang.specs.Program.Scope.{ScopeVariable, parameters_from, parameters}
use Rattle.ti_lang.specs.Members.{class_named, fields_in, fields_of, field_named, OwnMethod, methods_in, methods_from, methods_of, is_single, is_static, name_number}
use Rattle.ti_lang.specs.Scopes.{Site, declares, typed_as, past, past_maybe, site_after, behind_maybe, behind_params, method_site, body_site}
use Rattle.ti_lang.specs.Typing.Declared.{fields_of_class, field_type, is_static_method}
use Rattle.ti_lang.specs.Numbering as number
use Rattle.ti_lang.specs.Numbering.{NumbersType, NumbersStm, NumbersMaybeStm, NumbersStms, NumbersFields, NumbersClasses, NumbersParamList, NumbersParams, NumbersMethod, NumbersMethods, Numbers, IsNumbered}
use Rattle.ti_rules.specs.Mirrors.Literals.{InStm, InMaybe, InStms, InMethods, LiteralsFit}
use Rattle.ti_align.proofs.RunTypes.Operating.{none_some, some_same}
use Rattle.ti_align.proofs.RunTypes.Evaluating.{mapped}
use Rattle.ti_align.proofs.TextTypes.Meant.{storable, formed, StmMeant, MaybeMeant, StmsMeant, MethodsMeant, FieldsMeant}
use Rattle.ti_align.proofs.TextTypes.Spelled.{FieldFine, StmFine, MaybeFine, StmsFine, ParamsFine, MethodFine, MembersFine, TextFine, spelled_fine}
use Rattle.ti_align.proofs.TextTypes.Naming.{position_there, other_number, field_value, typed_means, TextFits, SiteMeans, SiteFits, declares_means, foreach_fits, past_fits, past_maybe_fits, behind_fits, behind_maybe_fits, exp_meant, option_meant, init_meant, print_meant, target_meant, call_meant}

-- ---- statements

module _ (p : ProgramView) (m : NumberedMethod) where
  mutual
    stm_meant : (turns : List ℕ) (site : Site) → SiteFits p m turns site → (x : Stm) (y : NumberedStm) → NumbersStm site x y → StmFine x → InStm y → StmMeant p m turns y
    stm_meant turns site k x y number.empty f l = tt
    stm_meant turns site k x y (number.declare b fresh room v) f l = init_meant p m turns site k.known _ _ v f.1 l
    stm_meant turns site k x y (number.assign h v) f l = (target_meant p m turns site k.known _ _ h f.0 l.0, init_meant p m turns site k.known _ _ v f.1 l.1)
    stm_meant turns site k x y (number.update h i) f l = (target_meant p m turns site k.known _ _ h f.0 l.0, exp_meant p m turns site k.known _ _ i f.1 l.1)
    stm_meant turns site k x y (number.step h) f l = target_meant p m turns site k.known _ _ h f l
    stm_meant turns site k x y (number.call h) f l = (exp_meant p m turns site k.known _ _ h f.0 l, call_meant p m turns site k.known _ _ h f.1)
    stm_meant turns site k x y (number.print h) f l = print_meant p m turns site k.known _ _ h f l
    stm_meant turns site k x y number.barrier f l = tt
    stm_meant turns site k x y number.break f l = tt
    stm_meant turns site k x y number.continue f l = tt
    stm_meant turns site k x y (number.return h) f l = option_meant p m turns site k.known _ _ h f l
    stm_meant turns site k x y (number.block h) f l = stms_meant turns site k _ _ h f l
    stm_meant turns site k x y (number.if_alone h i) f l = (exp_meant p m turns site k.known _ _ h f.0 l.0, stm_meant turns site k _ _ i f.1 l.1)
    stm_meant turns site k x y (number.if_else {a = a} h i j) f l =
        (exp_meant p m turns site k.known _ _ h f.0 l.0, stm_meant turns site k _ _ i f.1 l.1, stm_meant turns (past site a) (past_fits p m turns site a k) _ _ j f.2 l.2)
    stm_meant turns site k x y (number.while h i) f l = (exp_meant p m turns site k.known _ _ h f.0 l.0, stm_meant turns site k _ _ i f.1 l.1)
    stm_meant turns site k x y (number.for {first = first} {update = update} {f = w} h c u i) f l =
        let inside = behind_maybe site first in
        let j = behind_maybe_fits p m turns site first w h f.0 k in (
          maybe_meant turns site k first w h f.0 l.0,
          option_meant p m turns inside j.known _ _ c f.1 l.1,
          maybe_meant turns inside j update _ u f.2 l.2,
          stm_meant turns (past_maybe inside update) (past_maybe_fits p m turns inside update j) _ _ i f.3 l.3,
        )
    stm_meant turns site k x y (number.foreach {name = name} fresh room h i) f l = (
      exp_meant p m turns site k.known _ _ h f.0 l.0,
      k.below site.variables (omega arith),
      k.fresh site.variables (omega arith),
      stm_meant (site.variables ∷ turns) (declares site name t.Foreach) (foreach_fits p m turns site name k) _ _ i f.1 l.1,
    )

    maybe_meant : (turns : List ℕ) (site : Site) → SiteFits p m turns site → (x : MaybeStm) (y : MaybeNumbered) → NumbersMaybeStm site x y → MaybeFine x → InMaybe y → MaybeMeant p m turns y
    maybe_meant turns site k x y number.no_stm f l = tt
    maybe_meant turns site k x y (number.some_stm h) f l = stm_meant turns site k _ _ h f l

    stms_meant : (turns : List ℕ) (site : Site) → SiteFits p m turns site → (xs : Stms) (ys : NumberedStms) → NumbersStms site xs ys → StmsFine xs → InStms ys → StmsMeant p m turns ys
    stms_meant turns site k xs ys number.nil f l = tt
    stms_meant turns site k xs ys (number.cons {x = x} {y = y} h rest) f l =
        (stm_meant turns site k x y h f.0 l.0, stms_meant turns (site_after site x) (behind_fits p m turns site x y h f.0 k) _ _ rest f.1 l.1)

-- ---- methods

-- no parameter has a number behind the last
params_above : (n : ℕ) (ys : List NumberedParam) (k : ℕ) → n + length ys ≤ k → find (λ (v : ScopeVariable). v.number == k) (parameters_from n ys) ≡ None
params_above n [] k h = refl
params_above n (y ∷ ys) k h =
    ap (λ b. cond b (Some (record { number = n; type = y.ty.type; is_single = y.ty.is_single }))
    (find (λ (v : ScopeVariable). v.number == k) (parameters_from (n + 1) ys))) (other_number n k (omega (arith, h)))
    ∙ params_above (n + 1) ys k (omega (arith, h))

-- parameters may be used, and have the first numbers
params_mean : (p : ProgramView) (m : NumberedMethod) (site : Site) (ps : List ParamTree) (ys : List NumberedParam) → NumbersParamList site ps ys → ParamsFine ps → SiteMeans p m [] site
    → SiteMeans p m [] (behind_params site ps) × ((behind_params site ps).variables ≡ site.variables + length ys)
params_mean p m site ps ys number.none f k = (k, omega arith)
params_mean p m site ps ys (number.more {param = param} {params = params} {ys = rest} (number.known b) fresh room h) f k =
    let inside = declares site param.name (typed_as site.text param.ty) in
    let q = params_mean p m inside params rest h f.1 (declares_means p m [] site param.name (typed_as site.text param.ty) k (typed_means m [] site.variables site.text param.ty b f.0)) in
    (q.0, q.1 ∙ plus site.variables (length rest))
  where
    plus : (a b : ℕ) → (a + 1) + b ≡ a + suc b
    plus a b = omega arith

body_meant : (p : ProgramView) (m : NumberedMethod) (site : Site) (ps : ParamsTree) (q : NumberedParams) (body : List Stm) (ys : List NumberedStm) → NumbersParams site ps q → m.params ≡ q
    → NumbersStms (body_site site ps) (stms body) (numbered_stms ys) → MethodFine ps body → InStms (numbered_stms ys) → SiteMeans p m [] site → site.variables ≡ 0 → StmsMeant p m [] (numbered_stms ys)
body_meant p m site ps q body ys number.words e h f l k z =
    stms_meant p m [] site (record {
      known = k;
      below = λ i l. refl;
      fresh = λ i l. ap (λ q. is_none (find (λ (v : ScopeVariable). v.number == i) (parameters q))) e;
    }) (stms body)
    (numbered_stms ys) h f l
body_meant p m site ps q body ys (number.params {params = params} {ys = rest} n) e h f l k z =
    let q = params_mean p m site params rest n f.0 k in
    let count = q.1 in
    stms_meant p m [] (behind_params site params) (record {
      known = q.0;
      below = λ i l. refl;
      fresh = λ i l. ap (λ q. is_none (find (λ (v : ScopeVariable). v.number == i) (parameters q))) e ∙ ap is_none (params_above 0 rest i (omega (arith, z, count, l)));
    }) (stms body) (numbered_stms ys) h f.1 l

method_meant : (p : ProgramView) (text : TextTree) (before : ℕ) (own : OwnMethod) (m : NumberedMethod) → TextFits p text → NumbersMethod (method_site text own before) own m
    → MethodFine own.method.params own.method.body → InStms (numbered_stms m.body) → StmsMeant p m [] (numbered_stms m.body)
method_meant p text before own m k (number.method {result = result} {params = params} {body = body} r ps h) f l =
    let m : NumberedMethod = record {
      class = own.class;
      modifiers = own.method.modifiers;
      is_single = is_single own.method.modifiers;
      result = result;
      place = own.method.place;
      name = name_number text own.method.name;
      params = params;
      body = body;
      end = own.method.end;
    } in
    body_meant p m (method_site text own before) own.method.params params own.method.body body ps refl h f l
    (record { text = k; this = λ z. ap (λ b. if b then None else Some own.class) z; scope = tt }) refl

-- those of all of these
abbrev OwnsFine : List OwnMethod → Type 0
OwnsFine [] = Unit {0}
OwnsFine (own ∷ rest) = MethodFine own.method.params own.method.body × OwnsFine rest

owns_both : (xs ys : List OwnMethod) → OwnsFine xs → OwnsFine ys → OwnsFine (xs ++ ys)
owns_both [] ys f g = g
owns_both (x ∷ xs) ys f g = (f.0, owns_both xs ys f.1 g)

members_owns : (class : ℕ) (ms : List MemberTree) → MembersFine ms → OwnsFine (methods_in class ms)
members_owns class [] f = tt
members_owns class (FieldMember g ∷ rest) f = members_owns class rest f.1
members_owns class (MethodMember m ∷ rest) f = (f.0, members_owns class rest f.1)

text_owns : (class : ℕ) (text : TextTree) → TextFine text → OwnsFine (methods_from class text)
text_owns class [] f = tt
text_owns class (d ∷ rest) f = owns_both (methods_in class d.members) (methods_from (class + 1) rest) (members_owns class d.members f.0) (text_owns (class + 1) rest f.1)

methods_meant : (p : ProgramView) (text : TextTree) (n before : ℕ) (owns : List OwnMethod) (ms : List NumberedMethod) → TextFits p text
    → NumbersMethods text n before owns ms → OwnsFine owns → InMethods ms → MethodsMeant p ms
methods_meant p text n before owns ms k number.none f l = tt
methods_meant p text n before owns ms k (number.more {own = own} {method = m} e h rest) f l = (method_meant p text _ own m k h f.0 l.0, methods_meant p text _ _ _ _ k rest f.1 l.1)

-- ---- what there is

method_like : (site : Site) (own : OwnMethod) (m : NumberedMethod) → NumbersMethod site own m → (m.class ≡ own.class) × (is_static_method m ≡ is_static own.method)
method_like site own m (number.method r ps h) = (refl, refl)

method_at : (text : TextTree) (n before : ℕ) (owns : List OwnMethod) (ms : List NumberedMethod) → NumbersMethods text n before owns ms → (k : ℕ) (own : OwnMethod) → slice_get owns k ≡ Some own
    → (m : NumberedMethod) × (slice_get ms k ≡ Some m) × (m.class ≡ own.class) × (is_static_method m ≡ is_static own.method)
method_at text n before owns ms number.none k own e = absurd (none_some own e)
method_at text n before owns ms (number.more {own = x} {method = m} e h rest) zero own i =
    let q = method_like _ x m h in
    (m, refl, q.0 ∙ ap (λ (o : OwnMethod). o.class) (some_same x own i), q.1 ∙ ap (λ (o : OwnMethod). is_static o.method) (some_same x own i))
method_at text n before owns ms (number.more e h rest) (suc k) own i = method_at text _ _ _ _ rest k own i

class_at : (text : TextTree) (n : ℕ) (cs : List ClassTree) (ds : List NumberedClass) → NumbersClasses text n cs ds → (k : ℕ) (x : ClassTree) → slice_get cs k ≡ Some x
    → (j : ℕ) × (d : NumberedClass) × (slice_get ds k ≡ Some d) × NumbersFields text j 0 (fields_in x.members) d.fields
class_at text n cs ds number.none k x e = absurd (none_some x e)
class_at text n cs ds (number.more {c = y} {gs = gs} e h rest) zero x i =
    (n, record { modifiers = y.modifiers; fields = gs }, refl, subst (λ (z : ClassTree). NumbersFields text n 0 (fields_in z.members) gs) (some_same y x i) h)
class_at text n cs ds (number.more e h rest) (suc k) x i = class_at text _ _ _ rest k x i

field_at : (text : TextTree) (class n : ℕ) (fs : List FieldTree) (gs : List NumberedField) → NumbersFields text class n fs gs
    → (k : ℕ) (f : FieldTree) → slice_get fs k ≡ Some f → (g : NumberedField) × (slice_get gs k ≡ Some g)
field_at text class n fs gs number.none k f e = absurd (none_some f e)
field_at text class n fs gs (number.more e h rest) zero f i = (_, refl)
field_at text class n fs gs (number.more e h rest) (suc k) f i = field_at text class _ _ _ rest k f i

-- the text says what there is in its program
text_fits : (p : ProgramView) (text : TextTree) → Numbers text p → TextFits p text
text_fits p text n = record { fields = field_there; methods = λ k own e. method_at text 0 0 (methods_of text) p.methods n.methods k own e; classes = class_there }
  where
    class_there : (name : List ℕ) (k : ℕ) → class_named text name ≡ Some k → is_some (slice_get p.classes k) ≡ true
    class_there name k h =
        let q = position_there (λ (c : ClassTree). bytes_eq name c.name) text k h in
        ap is_some (class_at text 0 text p.classes n.classes k q.0 q.1).2

    field_there : (class : ℕ) (name : List ℕ) (field : ℕ) → field_named text class name ≡ Some field → is_some (field_type p class field) ≡ true
    field_there class name field h = by (slice_get text class) refl
      where
        found : (f : FieldTree) × (slice_get (fields_of text class) field ≡ Some f) × (bytes_eq name f.name ≡ true)
        found = position_there (λ (f : FieldTree). bytes_eq name f.name) (fields_of text class) field h

        by : (o : Option ClassTree) → slice_get text class ≡ o → is_some (field_type p class field) ≡ true
        by None e = absurd (none_some found.0 (ap (λ (o : Option ClassTree). slice_get (option_map_or (λ (c : ClassTree). fields_in c.members) o []) field) (sym e) ∙ found.1))
        by (Some x) e =
            let d = class_at text 0 text p.classes n.classes class x e in
            let g = field_at text d.0 0 (fields_in x.members) d.1.fields d.3 field found.0
            (ap (λ (o : Option ClassTree). slice_get (option_map_or (λ (c : ClassTree). fields_in c.members) o []) field) (sym e)
            ∙ found.1) in
            ap (λ (o : Option NumberedClass). is_some (option_map (λ (f : NumberedField). f.ty.type) (slice_get (option_map_or (λ (c : NumberedClass). c.fields) o []) field))) d.2
            ∙ ap (λ (o : Option NumberedField). is_some (option_map (λ (f : NumberedField). f.ty.type) o)) g.1

-- ---- fields

abbrev FieldsFine : List FieldTree → Type 0
FieldsFine [] = Unit {0}
FieldsFine (f ∷ rest) = FieldFine f.ty × FieldsFine rest

members_fields : (ms : List MemberTree) → MembersFine ms → FieldsFine (fields_in ms)
members_fields [] f = tt
members_fields (FieldMember g ∷ rest) f = (f.0, members_fields rest f.1)
members_fields (MethodMember m ∷ rest) f = members_fields rest f.1

abbrev Stored : ValueType → Type 0
Stored type = (storable type && formed type) ≡ true

field_stored : (text : TextTree) (class n : ℕ) (fs : List FieldTree) (gs : List NumberedField) → NumbersFields text class n fs gs
    → FieldsFine fs → (k : ℕ) (g : NumberedField) → slice_get gs k ≡ Some g → Stored g.ty.type
field_stored text class n fs gs number.none f k g e = absurd (none_some g e)
field_stored text class n fs gs (number.more {number = i} {f = x} e (number.known b) rest) f zero g h =
    let q = field_value text x.ty b f.0 in
    subst (λ (o : NumberedField). Stored o.ty.type) (some_same _ g h) (ap₂ (λ a c. a && c) q.1 q.0)
field_stored text class n fs gs (number.more e h rest) f (suc k) g i = field_stored text class _ _ _ rest f.1 k g i

class_stored : (text : TextTree) (n : ℕ) (cs : List ClassTree) (ds : List NumberedClass) → NumbersClasses text n cs ds → TextFine cs
    → (k : ℕ) (d : NumberedClass) → slice_get ds k ≡ Some d → (j : ℕ) (g : NumberedField)
    → slice_get d.fields j ≡ Some g → Stored g.ty.type
class_stored text n cs ds number.none f k d e j g i = absurd (none_some d e)
class_stored text n cs ds (number.more {c = x} {gs = gs} e h rest) f zero d i j g u =
    field_stored text n 0 (fields_in x.members) gs h (members_fields x.members f.0) j g
    (ap (λ (o : NumberedClass). slice_get o.fields j) (some_same (record { modifiers = x.modifiers; fields = gs }) d i) ∙ u)
class_stored text n cs ds (number.more e h rest) f (suc k) d i j g u = class_stored text _ _ _ rest f.1 k d i j g u

fields_meant : (p : ProgramView) (text : TextTree) → Numbers text p → TextFine text → FieldsMeant p
fields_meant p text n f class field type h = by (slice_get p.classes class) refl
  where
    found : (g : NumberedField) × (slice_get (fields_of_class p class) field ≡ Some g) × (g.ty.type ≡ type)
    found = mapped (λ (f : NumberedField). f.ty.type) (slice_get (fields_of_class p class) field) type h

    by : (o : Option NumberedClass) → slice_get p.classes class ≡ o → Stored type
    by None e = absurd (none_some found.0 (ap (λ (o : Option NumberedClass). slice_get (option_map_or (λ (c : NumberedClass). c.fields) o []) field) (sym e) ∙ found.1))
    by (Some d) e =
        subst Stored found.2 (class_stored text 0 text p.classes n.classes f class d e field found.0
        (ap (λ (o : Option NumberedClass). slice_get (option_map_or (λ (c : NumberedClass). c.fields) o []) field) (sym e) ∙ found.1))

-- ---- programs

pub numbered_methods : (p : ProgramView) → LiteralsFit p → IsNumbered p → MethodsMeant p p.methods
numbered_methods p l n = methods_meant p n.0 0 0 (methods_of n.0) p.methods (text_fits p n.0 n.2) n.2.methods (text_owns 0 n.0 (spelled_fine n.0 n.1)) l

pub numbered_fields : (p : ProgramView) → IsNumbered p → FieldsMeant p
numbered_fields p n = fields_meant p n.0 n.2 (spelled_fine n.0 n.1)
