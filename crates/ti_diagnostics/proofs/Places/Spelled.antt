-- Each position of a tree is that of one of the tokens that parse to it.
use Rattle.std.proofs.Common.{ℕ, Bool, List, [], ◌∷◌, ◌++◌, Option, subst}
use Rattle.ti_base.specs.declared.place.Place.{Place}
use Rattle.ti_syntax.specs.declared.token.Token.{Token}
use Rattle.ti_syntax.specs.declared.tree.types.Base.{Base}
use Rattle.ti_syntax.specs.declared.tree.types.Qualifier.{Qualifier}
use Rattle.ti_syntax.specs.declared.tree.classes.Modifier.{Modifier}
use Rattle.ti_syntax.specs.Trees.Types.{GridTree, TypeTree}
use Rattle.ti_syntax.specs.Trees.Expressions.{Exp, RangeTree, exps, ranges_tree}
use Rattle.ti_syntax.specs.Trees.Statements.{DimsTree, InitTree, PrintTree, Stm, MaybeStm, stms}
use Rattle.ti_syntax.specs.Trees.Classes.{ParamTree, ParamsTree, MemberTree, ClassTree, TextTree}
use Rattle.ti_syntax.specs.Spelling.{Spells}
use Rattle.ti_syntax.specs.Spelling.Types as ty
use Rattle.ti_syntax.specs.Spelling.Types.{Based, Qualified, Gridded, FieldType, field_type}
use Rattle.ti_syntax.specs.Spelling.Types.{cast_type}
use Rattle.ti_syntax.specs.Spelling.Expressions as x
use Rattle.ti_syntax.specs.Spelling.Expressions.{Ending, Whole, Prefixed, Postfixed, Args, Listed}
use Rattle.ti_syntax.specs.Spelling.Expressions.{Ranges, Range}
use Rattle.ti_syntax.specs.Spelling.Statements as st
use Rattle.ti_syntax.specs.Spelling.Statements.{Start, start, Region, Dims, Initial, Declared}
use Rattle.ti_syntax.specs.Spelling.Statements.{declared, Changed, Printer}
use Rattle.ti_syntax.specs.Spelling.Statements.{Printed, Condition, condition, First, Optional}
use Rattle.ti_syntax.specs.Spelling.Statements.{Update, Stated, Items}
use Rattle.ti_syntax.specs.Spelling.Classes as k
use Rattle.ti_syntax.specs.Spelling.Classes.{ParamList, Parameters, Method, Modified, Member}
use Rattle.ti_syntax.specs.Spelling.Classes.{Members, ClassModified, Class, AllClasses}
use Rattle.ti_diagnostics.proofs.Places.Elements.{HoldsOfEach, nil, cons}
use Rattle.ti_diagnostics.proofs.Places.Trees.{TokensPlaced, BasePlaced, WordsPlaced, GridsPlaced}
use Rattle.ti_diagnostics.proofs.Places.Trees.{TypePlaced}
use Rattle.ti_diagnostics.proofs.Places.Trees.{ExpPlaced, ExpsPlaced, RangePlaced, RangesPlaced}
use Rattle.ti_diagnostics.proofs.Places.Trees.{OptionPlaced}
use Rattle.ti_diagnostics.proofs.Places.Trees.{DimsPlaced, InitPlaced, PrintPlaced, StmPlaced}
use Rattle.ti_diagnostics.proofs.Places.Trees.{MaybePlaced, StmsPlaced}
use Rattle.ti_diagnostics.proofs.Places.Trees.{ModifiersPlaced, ParamPlaced, ParamsPlaced}
use Rattle.ti_diagnostics.proofs.Places.Trees.{MemberPlaced, ClassPlaced, TextPlaced}

module _ (P : Place → Type 0) where
  -- ---- tokens

  pub split : (a b : List Token) → TokensPlaced P (a ++ b) → TokensPlaced P a × TokensPlaced P b
  split [] b h = (tt, h)
  split (t ∷ a) b h = let s = split a b h.1 in ((h.0, s.0), s.1)

  pub join : (a b : List Token) → TokensPlaced P a → TokensPlaced P b → TokensPlaced P (a ++ b)
  join [] b h g = g
  join (t ∷ a) b h g = (h.0, join a b h.1 g)

  -- ---- types

  based_placed : (l : List Token) (b : Base) → Based l b → TokensPlaced P l → BasePlaced P b
  based_placed l b (ty.int t i) h = h.0
  based_placed l b (ty.long t i) h = h.0
  based_placed l b (ty.boolean t i) h = h.0
  based_placed l b (ty.point t i a) h = h.0
  based_placed l b (ty.rect_domain t i a) h = h.0
  based_placed l b (ty.named t i) h = h.0

  qualified_placed : (l : List Token) (qs : List Qualifier) → Qualified l qs → TokensPlaced P l
      → WordsPlaced P qs
  qualified_placed l qs ty.none h = nil
  qualified_placed l qs (ty.more t i rest) h = cons h.0 (qualified_placed _ _ rest h.1)

  gridded_placed : (l : List Token) (gs : List GridTree) → Gridded l gs → TokensPlaced P l
      → GridsPlaced P gs
  gridded_placed l gs ty.none h = nil
  gridded_placed l gs (ty.more {l = a} {m = b} o t c i j low high n q rest) h =
      let s = split a b h.1.1.1 in cons (qualified_placed _ _ q s.0) (gridded_placed _ _ rest s.1)

  field_placed : (l : List Token) (t : TypeTree) → FieldType l t → TokensPlaced P l → TypePlaced P t
  field_placed l t (field_type {a = a} {l = b} {m = c} w q g few) h =
      let s = split a (b ++ c) h in
      let r = split b c s.1 in
      (based_placed _ _ w s.0, qualified_placed _ _ q r.0, gridded_placed _ _ g r.1)

  typed_placed : (l : List Token) (t : TypeTree) → ty.Typed l t → TokensPlaced P l → TypePlaced P t
  typed_placed l t (ty.field w) h = field_placed l t w h
  typed_placed l t (ty.wide (ty.domain {l = a} {m = b} w i v q)) h =
      (h.0, qualified_placed _ _ q (split a b h.1).1, nil)
  typed_placed l t (ty.wide (ty.shared_region w i q)) h = (h.0, qualified_placed _ _ q h.1, nil)

  -- ---- expressions

  mutual
    whole_placed : (n : ℕ) (l : List Token) (a : Exp) → Whole n l a → TokensPlaced P l
        → ExpPlaced P a
    whole_placed n l a (x.operand w) h = prefixed_placed l a w h
    whole_placed n l a (x.operation {a = b} {b = c} t i j v w) h =
        let s = split b (t ∷ c) h in (s.1.0, whole_placed _ _ _ v s.0, whole_placed _ _ _ w s.1.1)

    prefixed_placed : (l : List Token) (a : Exp) → Prefixed l a → TokensPlaced P l → ExpPlaced P a
    prefixed_placed l a (x.unary t i w) h = (h.0, prefixed_placed _ _ w h.1)
    prefixed_placed l a (x.cast {l = b} {m = m} o c i (cast_type f j) n w) h =
        let s = split b (c ∷ m) h.1 in (h.0, field_placed _ _ f s.0, prefixed_placed _ _ w s.1.1)
    prefixed_placed l a (x.postfixed {ending = ending} w) h = postfixed_placed ending l a w h

    postfixed_placed : (ending : Ending) (l : List Token) (a : Exp) → Postfixed ending l a
        → TokensPlaced P l → ExpPlaced P a
    postfixed_placed ending l a (x.int t i) h = h.0
    postfixed_placed ending l a (x.long t i) h = h.0
    postfixed_placed ending l a (x.truth t i) h = h.0
    postfixed_placed ending l a (x.falsehood t i) h = h.0
    postfixed_placed ending l a (x.null t i) h = h.0
    postfixed_placed ending l a (x.this t i) h = h.0
    postfixed_placed ending l a (x.name t i) h = h.0
    postfixed_placed ending l a (x.call {l = m} t o c i j w n) h =
        (h.0, args_placed _ _ w (split m (c ∷ []) h.1.1).0)
    postfixed_placed ending l a (x.group {l = m} o c i w j) h =
        whole_placed _ _ _ w (split m (c ∷ []) h.1).0
    postfixed_placed ending l a (x.rect {l = m} o c i w few j) h =
        (h.0, ranges_placed _ _ w (split m (c ∷ []) h.1).0)
    postfixed_placed ending l a (x.point {l = m} o c i w few j) h =
        (h.0, listed_placed _ _ w (split m (c ∷ []) h.1).0)
    postfixed_placed ending l a (x.this_proc t d n o c i j m v w) h = h.0
    postfixed_placed ending l a (x.num_procs t d n o c i j m v w) h = h.0
    postfixed_placed ending l a (x.select {l = m} d t w i j) h =
        let s = split m (d ∷ t ∷ []) h in (s.1.1.0, postfixed_placed _ _ _ w s.0)
    postfixed_placed ending l a (x.member {l = b} {m = m} d t o c w i j n v z) h =
        let s = split b (d ∷ t ∷ o ∷ (m ++ c ∷ [])) h in
        (s.1.1.0, postfixed_placed _ _ _ w s.0, args_placed _ _ v (split m (c ∷ []) s.1.1.1.1).0)
    postfixed_placed ending l a (x.index {l = b} {m = m} o c w i v few j) h =
        let s = split b (o ∷ (m ++ c ∷ [])) h in
        (s.1.0, postfixed_placed _ _ _ w s.0, listed_placed _ _ v (split m (c ∷ []) s.1.1).0)

    args_placed : (l : List Token) (xs : List Exp) → Args l xs → TokensPlaced P l
        → ExpsPlaced P (exps xs)
    args_placed l xs x.none h = tt
    args_placed l xs (x.some w) h = listed_placed l xs w h

    listed_placed : (l : List Token) (xs : List Exp) → Listed l xs → TokensPlaced P l
        → ExpsPlaced P (exps xs)
    listed_placed l xs (x.last w) h = (whole_placed _ _ _ w h, tt)
    listed_placed l xs (x.more {l = b} {m = m} t w i rest) h =
        let s = split b (t ∷ m) h in (whole_placed _ _ _ w s.0, listed_placed _ _ rest s.1.1)

    ranges_placed : (l : List Token) (rs : List RangeTree) → Ranges l rs → TokensPlaced P l
        → RangesPlaced P (ranges_tree rs)
    ranges_placed l rs (x.last_range r) h = (range_placed _ _ r h, tt)
    ranges_placed l rs (x.more_ranges {l = b} {m = m} t r i rest) h =
        let s = split b (t ∷ m) h in (range_placed _ _ r s.0, ranges_placed _ _ rest s.1.1)

    range_placed : (l : List Token) (r : RangeTree) → Range l r → TokensPlaced P l → RangePlaced P r
    range_placed l r (x.plain {l = b} {m = m} o v i w) h =
        let s = split b (o ∷ m) h in (whole_placed _ _ _ v s.0, whole_placed _ _ _ w s.1.1)
    range_placed l r (x.stepped {l = b} {m = m} {v = u} o t v i w j z) h =
        let s = split b (o ∷ (m ++ t ∷ u)) h in
        let d = split m (t ∷ u) s.1.1 in
        (whole_placed _ _ _ v s.0, whole_placed _ _ _ w d.0, whole_placed _ _ _ z d.1.1)

  started : (ending : Ending) (l : List Token) (a : Exp) → Start ending l a → TokensPlaced P l
      → ExpPlaced P a
  started ending l a (start w i) h = postfixed_placed ending l a w h

  -- ---- right sides and prints

  region_placed : (l : List Token) (a : Option Exp) → Region l a → TokensPlaced P l
      → OptionPlaced P a
  region_placed l a st.none h = tt
  region_placed l a (st.some {l = m} o c i w j) h = whole_placed _ _ _ w (split m (c ∷ []) h.1).0

  dims_placed : (l : List Token) (d : DimsTree) → Dims l d → TokensPlaced P l → DimsPlaced P d
  dims_placed l d (st.domain w) h = whole_placed _ _ _ w h
  dims_placed l d (st.ranges w few) h = ranges_placed _ _ w h

  init_placed : (l : List Token) (v : InitTree) → Initial l v → TokensPlaced P l → InitPlaced P v
  init_placed l v (st.value w) h = whole_placed _ _ _ w h
  init_placed l v (st.new_region n t o c i j u m) h = h.0
  init_placed l v (st.new_object {l = m} n t o c i r j u z) h =
      let s = split m (t ∷ o ∷ c ∷ []) h.1 in (h.0, region_placed _ _ r s.0, s.1.0)
  init_placed l v (st.new_grid {l = b} {a = a} {q = q} {d = d} {g = g} n o c i r w y j u m z _) h =
      let s = split b (a ++ (q ++ o ∷ (d ++ c ∷ g))) h.1 in
      let f = split a (q ++ o ∷ (d ++ c ∷ g)) s.1 in
      let p = split q (o ∷ (d ++ c ∷ g)) f.1 in
      let e = split d (c ∷ g) p.1.1 in (
        h.0,
        region_placed _ _ r s.0,
        (based_placed _ _ w f.0, qualified_placed _ _ y p.0, gridded_placed _ _ z e.1.1),
        p.1.0,
        dims_placed _ _ u e.0,
      )
  init_placed l v (st.broadcast {l = a} {m = m} b f i w j z) h =
      let s = split a (f ∷ m) h.1 in (h.0, whole_placed _ _ _ w s.0, whole_placed _ _ _ z s.1.1)

  printer_placed : (l : List Token) (t : Token) → Printer l t → TokensPlaced P l → P t.place
  printer_placed l t (st.short u i) h = h.0
  printer_placed l t (st.long s d o p u i j n m v) h = h.1.1.1.1.0

  printed_placed : (l : List Token) (w : PrintTree) → Printed l w → TokensPlaced P l
      → PrintPlaced P w
  printed_placed l w st.nothing h = tt
  printed_placed l w (st.text t i) h = tt
  printed_placed l w (st.text_and_value t p i j v) h = whole_placed _ _ _ v h.1.1
  printed_placed l w (st.value v) h = whole_placed _ _ _ v h

  optional_placed : (l : List Token) (a : Option Exp) → Optional l a → TokensPlaced P l
      → OptionPlaced P a
  optional_placed l a st.none h = tt
  optional_placed l a (st.some w) h = whole_placed _ _ _ w h

  condition_placed : (l : List Token) (a : Exp) → Condition l a → TokensPlaced P l → ExpPlaced P a
  condition_placed l a (condition {l = m} o c i w j) h =
      whole_placed _ _ _ w (split m (c ∷ []) h.1).0

  -- ---- statements

  declared_placed : (l : List Token) (a : Stm) → Declared l a → TokensPlaced P l → StmPlaced P a
  declared_placed l a (declared {l = b} {m = m} t o w i j v) h =
      let s = split b (t ∷ o ∷ m) h in (s.1.0, typed_placed _ _ w s.0, init_placed _ _ v s.1.1.1)

  changed_placed : (l : List Token) (a : Stm) → Changed l a → TokensPlaced P l → StmPlaced P a
  changed_placed l a (st.assign {l = b} {m = m} o w i v) h =
      let s = split b (o ∷ m) h in (s.1.0, started x.Target _ _ w s.0, init_placed _ _ v s.1.1)
  changed_placed l a (st.update {l = b} {m = m} o w i v) h =
      let s = split b (o ∷ m) h in (s.1.0, started x.Target _ _ w s.0, whole_placed _ _ _ v s.1.1)
  changed_placed l a (st.step {l = b} o w i) h =
      let s = split b (o ∷ []) h in (s.1.0, started x.Target _ _ w s.0)

  first_placed : (l : List Token) (a : MaybeStm) → First l a → TokensPlaced P l → MaybePlaced P a
  first_placed l a st.none h = tt
  first_placed l a (st.declaration w) h = declared_placed _ _ w h
  first_placed l a (st.change w) h = changed_placed _ _ w h

  last_placed : (l : List Token) (a : MaybeStm) → Update l a → TokensPlaced P l → MaybePlaced P a
  last_placed l a st.none h = tt
  last_placed l a (st.change w) h = changed_placed _ _ w h

  mutual
    stated_placed : (open_if : Bool) (l : List Token) (a : Stm) → Stated open_if l a
        → TokensPlaced P l → StmPlaced P a
    stated_placed open_if l a (st.block {l = m} o c i w j) h =
        items_placed _ _ w (split m (c ∷ []) h.1).0
    stated_placed open_if l a (st.empty t i) h = tt
    stated_placed open_if l a (st.if_alone {l = b} {m = m} t i w v) h =
        let s = split b m h.1 in (h.0, condition_placed _ _ w s.0, stated_placed _ _ _ v s.1)
    stated_placed open_if l a (st.if_else {l = b} {m = m} {v = u} t d i w v j z) h =
        let s = split b (m ++ d ∷ u) h.1 in
        let r = split m (d ∷ u) s.1 in
        (h.0, condition_placed _ _ w s.0, stated_placed _ _ _ v r.0, stated_placed _ _ _ z r.1.1)
    stated_placed open_if l a (st.while {l = b} {m = m} t i w v) h =
        let s = split b m h.1 in (h.0, condition_placed _ _ w s.0, stated_placed _ _ _ v s.1)
    stated_placed _ l a (st.for {l = b} {m = m} {u = e} {v = y} f o p q c i j v d w n u g z) h =
        let s = split b (p ∷ (m ++ q ∷ (e ++ c ∷ y))) h.1.1 in
        let r = split m (q ∷ (e ++ c ∷ y)) s.1.1 in
        let t = split e (c ∷ y) r.1.1 in
        let body = stated_placed _ _ _ z t.1.1 in
        (h.0, first_placed _ _ v s.0, optional_placed _ _ w r.0, last_placed _ _ u t.0, body)
    stated_placed open_if l a (st.foreach {l = b} {m = m} f o t i c j d n g w v z) h =
        let s = split b (c ∷ m) h.1.1.1.1 in
        (h.0, h.1.1.0, whole_placed _ _ _ w s.0, stated_placed _ _ _ z s.1.1)
    stated_placed open_if l a (st.change {l = m} t w i) h =
        changed_placed _ _ w (split m (t ∷ []) h).0
    stated_placed open_if l a (st.call {l = m} t w i) h =
        started x.Call _ _ w (split m (t ∷ []) h).0
    stated_placed open_if l a (st.print {l = b} {m = m} p o c t v i w j n) h =
        let s = split b (o ∷ (m ++ c ∷ t ∷ [])) h in
        (printer_placed _ _ v s.0, printed_placed _ _ w (split m (c ∷ t ∷ []) s.1.1).0)
    stated_placed open_if l a (st.barrier i d b o c t j n m v w z) h = h.1.1.0
    stated_placed open_if l a (st.break b t i j) h = h.0
    stated_placed open_if l a (st.continue c t i j) h = h.0
    stated_placed open_if l a (st.return {l = m} r t i w j) h =
        (h.0, optional_placed _ _ w (split m (t ∷ []) h.1).0)

    items_placed : (l : List Token) (xs : List Stm) → Items l xs → TokensPlaced P l
        → StmsPlaced P (stms xs)
    items_placed l xs st.no_item h = tt
    items_placed l xs (st.declaration {l = b} {m = m} t w i rest) h =
        let s = split b (t ∷ m) h in (declared_placed _ _ w s.0, items_placed _ _ rest s.1.1)
    items_placed l xs (st.statement {l = b} {m = m} w rest) h =
        let s = split b m h in (stated_placed _ _ _ w s.0, items_placed _ _ rest s.1)

  -- ---- classes

  param_list_placed : (l : List Token) (ps : List ParamTree) → ParamList l ps → TokensPlaced P l
      → HoldsOfEach (ParamPlaced P) ps
  param_list_placed l ps (k.last {l = m} t w i) h =
      let s = split m (t ∷ []) h in cons (s.1.0, typed_placed _ _ w s.0) nil
  param_list_placed l ps (k.more {l = b} {m = m} t c w i j rest) h =
      let s = split b (t ∷ c ∷ m) h in
      cons (s.1.0, typed_placed _ _ w s.0) (param_list_placed _ _ rest s.1.1.1)

  parameters_placed : (l : List Token) (ps : ParamsTree) → Parameters l ps → TokensPlaced P l
      → ParamsPlaced P ps
  parameters_placed l ps k.none h = nil
  parameters_placed l ps (k.words s o c t i j m n) h = h.1.1.1.0
  parameters_placed l ps (k.typed w) h = param_list_placed _ _ w h

  method_placed : (l : List Token) (ps : ParamsTree) (body : List Stm) (end : Token)
      → Method l ps body end → TokensPlaced P l
      → ParamsPlaced P ps × StmsPlaced P (stms body) × P end.place
  method_placed l ps body end (k.method {l = a} {m = m} o c b z i w j g v n) h =
      let s = split a (c ∷ b ∷ (m ++ z ∷ [])) h.1 in
      let r = split m (z ∷ []) s.1.1.1 in
      (parameters_placed _ _ w s.0, items_placed _ _ v r.0, r.1.0)

  modified_placed : (l : List Token) (ms : List Modifier) → Modified l ms → TokensPlaced P l
      → ModifiersPlaced P ms
  modified_placed l ms k.none h = nil
  modified_placed l ms (k.more t i rest) h = cons h.0 (modified_placed _ _ rest h.1)

  member_placed : (l : List Token) (member : MemberTree) → Member l member → TokensPlaced P l
      → MemberPlaced P member
  member_placed l member (k.void_method {l = b} {m = m} v t z ns i j w) h =
      let s = split b (v ∷ t ∷ m) h in
      let r = method_placed _ _ _ _ w s.1.1.1 in
      (modified_placed _ _ ns s.0, s.1.0, s.1.1.0, r.0, r.1, r.2)
  member_placed l member (k.field {l = b} {m = m} t o ns w i j) h =
      let s = split b (m ++ t ∷ o ∷ []) h in
      let r = split m (t ∷ o ∷ []) s.1 in
      (modified_placed _ _ ns s.0, field_placed _ _ w r.0, r.1.0)
  member_placed l member (k.method {l = b} {m = m} {v = u} t z ns v i w) h =
      let s = split b (m ++ t ∷ u) h in
      let r = split m (t ∷ u) s.1 in
      let q = method_placed _ _ _ _ w r.1.1 in
      (modified_placed _ _ ns s.0, typed_placed _ _ v r.0, r.1.0, q.0, q.1, q.2)

  members_placed : (l : List Token) (xs : List MemberTree) → Members l xs → TokensPlaced P l
      → HoldsOfEach (MemberPlaced P) xs
  members_placed l xs k.none h = nil
  members_placed l xs (k.more {l = b} {m = m} w rest) h =
      let s = split b m h in cons (member_placed _ _ w s.0) (members_placed _ _ rest s.1)

  class_modified_placed : (l : List Token) (ms : List Modifier) → ClassModified l ms
      → TokensPlaced P l → ModifiersPlaced P ms
  class_modified_placed l ms k.none h = nil
  class_modified_placed l ms (k.more t i rest) h = cons h.0 (class_modified_placed _ _ rest h.1)

  class_placed : (l : List Token) (c : ClassTree) → Class l c → TokensPlaced P l → ClassPlaced P c
  class_placed l d (k.class {l = b} {m = m} c t o z ns i j n w g) h =
      let s = split b (c ∷ t ∷ o ∷ (m ++ z ∷ [])) h in
      let r = split m (z ∷ []) s.1.1.1.1 in
      (class_modified_placed _ _ ns s.0, s.1.0, s.1.1.0, members_placed _ _ w r.0)

  classes_placed : (l : List Token) (text : TextTree) → AllClasses l text → TokensPlaced P l
      → TextPlaced P text
  classes_placed l text k.none h = nil
  classes_placed l text (k.more {l = b} {m = m} w rest) h =
      let s = split b m h in cons (class_placed _ _ w s.0) (classes_placed _ _ rest s.1)

  -- where each token of a list is placed, so is each position of a tree that the list parses to
  pub text_placed : (l : List Token) (tree : TextTree) → Spells l tree → TokensPlaced P l
      → TextPlaced P tree
  text_placed l tree w h =
      let s = split w.front (w.last ∷ []) (subst (λ (m : List Token). TokensPlaced P m) w.is h) in
      classes_placed _ _ w.classes s.0
