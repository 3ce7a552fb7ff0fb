-- The parser is proved complete for classes, up to the first token above a limit.
use Rattle.std.proofs.Common.{◌≡◌, ℕ, zero, suc, ◌<◌, List, [], ◌∷◌, ◌++◌, length, Some, None, Ok, refl, sym, ap, ◌∙◌, append_assoc, arith, length-append, true, false, Bool}
use Rattle.std.proofs.lemmas.Bool.{false≢true}
use Rattle.std.proofs.lemmas.Option.{none-some}
use Rattle.ti_base.specs.declared.place.Place.{Place}
use Rattle.ti_syntax.specs.declared.token.Token.{Token}
use Rattle.ti_syntax.specs.declared.token.TokenKind.{TokenKind}
use Rattle.ti_syntax.specs.declared.token.TokenKind.TheVariants as k
use Rattle.ti_syntax.specs.declared.tree.classes.Modifier.{Modifier}
use Rattle.ti_syntax.specs.declared.tree.classes.ModifierWord.{ModifierWord}
use Rattle.ti_syntax.specs.Tokens.{same_kind}
use Rattle.ti_syntax.specs.Trees.Types.{TypeTree}
use Rattle.ti_syntax.specs.Trees.Statements.{Stm}
use Rattle.ti_syntax.specs.Trees.Classes.{ParamTree, ParamsTree, ResultTree, MemberTree, ClassTree}
use Rattle.ti_syntax.specs.Trees.Classes as tree
use Rattle.ti_syntax.specs.Spelling.Operators.{modifier_of, class_modifier_of}
use Rattle.ti_syntax.specs.Spelling.Types.{FieldType, WideType, Typed}
use Rattle.ti_syntax.specs.Spelling.Types as types
use Rattle.ti_syntax.specs.Spelling.Classes.{ParamList, Parameters, Method, Modified, Member, Members, ClassModified, Class, AllClasses}
use Rattle.ti_syntax.specs.Spelling.Classes as grammar
use Rattle.ti_syntax.specs.Spelling.Loads.{free, method_loads, member_loads, members_loads, class_loads, classes_loads}
use Rattle.ti_parse_expr.specs.Mirrors.Input.{and_then, kind, next_is}
use Rattle.ti_parse_expr.specs.Mirrors.Full.{Limits, limited_to}
use Rattle.ti_parse_expr.proofs.Lemmas.{append_nil}
use Rattle.ti_parse.specs.Mirrors.ParserParams.{up_to}
use Rattle.ti_parse.specs.Mirrors.Parts.{is_wide, wide, field, any_type}
use Rattle.ti_parse.specs.Mirrors.Classes as spec
use Rattle.ti_parse.specs.Mirrors.Classes.{more_params, words, params, method, method_named, field_or_method, member_from, modifiers, member, members, class_from, class, classes}
use Rattle.ti_parse.proofs.Lengths.{free_loaded, items_loaded, members_loaded}
use Rattle.ti_parse.proofs.Limits.{IsRead, bounded_reads, same_reads, result_reads, then_reads, done_reads, made_reads, took, want, name_took, by_kind, test_reads, sees_reads, free_reads, free_both}
use Rattle.ti_parse.proofs.ReadsTypes.{begins_base, front_field, name_ends, field_reads, wide_reads, wide_is_wide, typed_reads}
use Rattle.ti_parse.proofs.ReadsStatements.{begins_item, typed_front, items_reads}

-- ---- what members and classes begin with

abbrev begins_member : TokenKind → Bool
begins_member k.KeywordPublic = true
begins_member k.KeywordPrivate = true
begins_member k.KeywordProtected = true
begins_member k.KeywordStatic = true
begins_member k.KeywordFinal = true
begins_member k.KeywordSingle = true
begins_member k.KeywordVoid = true
begins_member k.KeywordInt = true
begins_member k.KeywordLong = true
begins_member k.KeywordBoolean = true
begins_member k.KeywordPoint = true
begins_member k.KeywordRectDomain = true
begins_member (k.Name name) = true
begins_member k.KeywordDomain = true
begins_member k.KeywordSharedRegion = true
begins_member _ = false

modifier_begins : (q : TokenKind) (word : ModifierWord) → modifier_of q ≡ Some word → begins_member q ≡ true
modifier_begins k.KeywordPublic word h = refl
modifier_begins k.KeywordPrivate word h = refl
modifier_begins k.KeywordProtected word h = refl
modifier_begins k.KeywordStatic word h = refl
modifier_begins k.KeywordFinal word h = refl
modifier_begins k.KeywordSingle word h = refl
modifier_begins _ word h = absurd (none-some word h)

base_begins : (q : TokenKind) → begins_base q ≡ true → (begins_member q ≡ true) × (modifier_of q ≡ None)
base_begins k.KeywordInt h = (refl, refl)
base_begins k.KeywordLong h = (refl, refl)
base_begins k.KeywordBoolean h = (refl, refl)
base_begins k.KeywordPoint h = (refl, refl)
base_begins k.KeywordRectDomain h = (refl, refl)
base_begins (k.Name name) h = (refl, refl)
base_begins _ h = absurd (false≢true h)

wide_begins : (q : TokenKind) → is_wide q ≡ true → (begins_member q ≡ true) × (modifier_of q ≡ None)
wide_begins k.KeywordDomain h = (refl, refl)
wide_begins k.KeywordSharedRegion h = (refl, refl)
wide_begins _ h = absurd (false≢true h)

typed_begins : {l : List Token} {ty : TypeTree} → Typed l ty → (r : List Token) → (begins_member (kind (l ++ r)) ≡ true) × (modifier_of (kind (l ++ r)) ≡ None)
typed_begins (types.field {l = l} s) r = base_begins (kind (l ++ r)) (front_field s r)
typed_begins (types.wide {l = l} s) r = wide_begins (kind (l ++ r)) (wide_is_wide s r)

member_not_end : (q : TokenKind) → begins_member q ≡ true → same_kind q k.RightBrace ≡ false
member_not_end k.RightBrace h = cc
member_not_end _ h = refl

modified_front : {l : List Token} {ms : List Modifier} → Modified l ms → (b r : List Token) → begins_member (kind (b ++ r)) ≡ true → begins_member (kind ((l ++ b) ++ r)) ≡ true
modified_front grammar.none b r h = h
modified_front (grammar.more t {word = word} is s) b r h = modifier_begins t.kind word is

member_front : {l : List Token} {x : MemberTree} → Member l x → (r : List Token) → begins_member (kind (l ++ r)) ≡ true
member_front (grammar.void_method {m = m} v t e ms h h2 rest) r = modified_front ms (v ∷ t ∷ m) r (ap begins_member h)
member_front (grammar.field {m = m} t s ms ty h h2) r =
    modified_front ms (m ++ t ∷ s ∷ []) r (ap (λ z. begins_member (kind z)) (append_assoc m (t ∷ s ∷ []) r) ∙ (typed_begins (types.field ty) (t ∷ s ∷ r)).0)
member_front (grammar.method {m = m} {v = v} t e ms ty h rest) r =
    modified_front ms (m ++ t ∷ v) r (ap (λ z. begins_member (kind z)) (append_assoc m (t ∷ v) r) ∙ (typed_begins ty (t ∷ (v ++ r))).0)

member_some : (l : List Token) → begins_member (kind (l ++ [])) ≡ true → 0 < length l
member_some [] h = cc
member_some (t ∷ l) h = omega arith

abbrev begins_class : TokenKind → Bool
begins_class k.KeywordPublic = true
begins_class k.KeywordFinal = true
begins_class k.KeywordClass = true
begins_class _ = false

class_modifier_begins : (q : TokenKind) (word : ModifierWord) → class_modifier_of q ≡ Some word → begins_class q ≡ true
class_modifier_begins k.KeywordPublic word h = refl
class_modifier_begins k.KeywordFinal word h = refl
class_modifier_begins _ word h = absurd (none-some word h)

class_not_end : (q : TokenKind) → begins_class q ≡ true → same_kind q k.End ≡ false
class_not_end k.End h = cc
class_not_end _ h = refl

class_front : {l : List Token} {x : ClassTree} → Class l x → (r : List Token) → begins_class (kind (l ++ r)) ≡ true
class_front (grammar.class c t o e grammar.none h h2 h3 xs h4) r = ap begins_class h
class_front (grammar.class c t o e (grammar.more m {word = word} is ms) h h2 h3 xs h4) r = class_modifier_begins m.kind word is

class_some : (l : List Token) → begins_class (kind (l ++ [])) ≡ true → 0 < length l
class_some [] h = cc
class_some (t ∷ l) h = omega arith

method_front : {l : List Token} {params : ParamsTree} {body : List Stm} {e : Token} → Method l params body e → (r : List Token) → kind (l ++ r) ≡ k.LeftParen
method_front (grammar.method o c b e h ps h2 h3 items h4) r = h

params_front : {l : List Token} {ps : List ParamTree} → ParamList l ps → (r : List Token) → begins_item (kind (l ++ r)) ≡ true
params_front (grammar.last {l = l} t s h) r = ap (λ z. begins_item (kind z)) (append_assoc l (t ∷ []) r) ∙ typed_front s (t ∷ r)
params_front (grammar.more {l = l} {m = m} t c s h h2 q) r = ap (λ z. begins_item (kind z)) (append_assoc l (t ∷ c ∷ m) r) ∙ typed_front s (t ∷ c ∷ (m ++ r))

module _ (limits : Limits) (allows : 0 < limits.weight) (fuel : ℕ) where
  -- ---- modifiers

  modifiers_read : {l : List Token} {ms : List Modifier} → Modified l ms → (n : ℕ) (found : List Modifier) (r : List Token)
      → modifier_of (kind r) ≡ None → length l < n → modifiers (up_to limits) fuel modifier_of n found (l ++ r) ≡ Ok (found ++ ms, r)
  unfolding modifiers
  modifiers_read grammar.none zero found r free lt = absurd (omega arith)
  modifiers_read grammar.none (suc n) found r free lt = ap (λ q. spec.modifiers_if (up_to limits) fuel
      (modifiers (up_to limits) fuel modifier_of n) found q r) free ∙ ap (λ z. Ok (z, r)) (sym (append_nil found))
  modifiers_read (grammar.more t is s) zero found r free lt = absurd (omega arith)
  modifiers_read (grammar.more {l = l} {ms = ms} t {word = word} is s) (suc n) found r free lt =
      let one : Modifier = record { word = word; place = t.place } in
      ap (λ q. spec.modifiers_if (up_to limits) fuel (modifiers (up_to limits) fuel modifier_of n) found q (t ∷ (l ++ r))) is
      ∙ modifiers_read s n (found ++ one ∷ []) r free (omega arith)
      ∙ ap (λ z. Ok (z, r)) (append_assoc found (one ∷ []) ms)

  class_modifiers_read : {l : List Token} {ms : List Modifier} → ClassModified l ms → (n : ℕ) (found : List Modifier) (r : List Token) → class_modifier_of (kind r) ≡ None → length l < n
      → modifiers (up_to limits) fuel class_modifier_of n found (l ++ r) ≡ Ok (found ++ ms, r)
  unfolding modifiers
  class_modifiers_read grammar.none zero found r free lt = absurd (omega arith)
  class_modifiers_read grammar.none (suc n) found r free lt = ap (λ q. spec.modifiers_if (up_to limits) fuel
      (modifiers (up_to limits) fuel class_modifier_of n) found q r) free ∙ ap (λ z. Ok (z, r)) (sym (append_nil found))
  class_modifiers_read (grammar.more t is s) zero found r free lt = absurd (omega arith)
  class_modifiers_read (grammar.more {l = l} {ms = ms} t {word = word} is s) (suc n) found r free lt =
      let one : Modifier = record { word = word; place = t.place } in
      ap (λ q. spec.modifiers_if (up_to limits) fuel (modifiers (up_to limits) fuel class_modifier_of n) found q (t ∷ (l ++ r))) is
      ∙ class_modifiers_read s n (found ++ one ∷ []) r free (omega arith)
      ∙ ap (λ z. Ok (z, r)) (append_assoc found (one ∷ []) ms)

  modifiers_part : {l : List Token} {ms : List Modifier} → Modified l ms → (r : List Token) → modifier_of (kind r) ≡ None
      → IsRead limits fuel (modifiers (up_to limits) fuel modifier_of fuel []) (free l) l r ms
  modifiers_part s r free = free_reads (modifiers (up_to limits) fuel modifier_of fuel []) (λ lt. modifiers_read s fuel [] r free lt)

  class_modifiers_part : {l : List Token} {ms : List Modifier} → ClassModified l ms → (r : List Token) → class_modifier_of (kind r) ≡ None
      → IsRead limits fuel (modifiers (up_to limits) fuel class_modifier_of fuel []) (free l) l r ms
  class_modifiers_part s r free = free_reads (modifiers (up_to limits) fuel class_modifier_of fuel []) (λ lt. class_modifiers_read s fuel [] r free lt)

  -- ---- types

  typed_part : {l : List Token} {ty : TypeTree} {r : List Token} {next : List ℕ} → Typed l ty → kind r ≡ k.Name next → IsRead limits fuel (any_type (up_to limits) fuel) (free l) l r ty
  typed_part {r = r} s h = free_reads (any_type (up_to limits) fuel) (λ lt. typed_reads limits fuel s r (name_ends h) lt)

  field_part : {l : List Token} {ty : TypeTree} {r : List Token} {next : List ℕ} → FieldType l ty → kind r ≡ k.Name next → IsRead limits fuel (field (up_to limits) fuel) (free l) l r ty
  field_part {r = r} s h = free_reads (field (up_to limits) fuel) (λ lt. field_reads limits fuel s r (name_ends h) lt)

  wide_part : {l : List Token} {ty : TypeTree} {r : List Token} {next : List ℕ} → WideType l ty → kind r ≡ k.Name next → IsRead limits fuel (wide (up_to limits) fuel) (free l) l r ty
  wide_part {r = r} s h = free_reads (wide (up_to limits) fuel) (λ lt. wide_reads limits fuel s r (name_ends {r = r} h).qualifier lt)

  -- ---- methods

  more_params_read : {l : List Token} {ps : List ParamTree} → ParamList l ps → (n : ℕ) (found : List ParamTree) → length l < n
      → (r : List Token) → kind r ≡ k.RightParen → IsRead limits fuel (more_params (up_to limits) fuel n found) (free l) l r (found ++ ps)
  unfolding more_params
  more_params_read (grammar.last t s h) zero found lt r end = absurd (omega arith)
  more_params_read (grammar.last {l = l} t s h) (suc n) found lt r end = free_both l (t ∷ []) (then_reads _ (typed_part s h) (name_took _ h (sees_reads k.Comma _ _ end done_reads)))
  more_params_read (grammar.more t c s h hc q) zero found lt r end = absurd (omega arith)
  more_params_read (grammar.more {l = l} {m = m} {ps = ps} t c s h hc q) (suc n) found lt r end =
      free_both l (t ∷ c ∷ m) (then_reads _ (typed_part s h) (name_took _ h (sees_reads k.Comma _ _ hc (took
      (result_reads (append_assoc found (_ ∷ []) ps) (more_params_read q n (found ++ _ ∷ []) (omega (arith, length-append l (t ∷ c ∷ m))) r end))))))

  params_typed : (q : TokenKind) (i : List Token) → begins_item q ≡ true → spec.params_by (up_to limits) fuel q i
      ≡ and_then (more_params (up_to limits) fuel fuel [] i) (λ ps i. Ok (tree.Params ps, i))
  params_typed k.RightParen i h = cc
  params_typed k.KeywordString i h = cc
  params_typed _ i h = refl

  params_read : {l : List Token} {x : ParamsTree} → Parameters l x → (r : List Token) → kind r ≡ k.RightParen → IsRead limits fuel (params (up_to limits) fuel) (free l) l r x
  unfolding params words
  params_read grammar.none r end = by_kind (spec.params_by (up_to limits) fuel) end done_reads
  params_read (grammar.words s o c t hs ho hc ht) r end = by_kind (spec.params_by (up_to limits) fuel) hs (took (want k.LeftBracket _ ho (want k.RightBracket _ hc (name_took _ ht done_reads))))
  params_read (grammar.typed {l = l} q) r end =
      same_reads (λ i. and_then (more_params (up_to limits) fuel fuel [] i) (λ ps i. Ok (tree.Params ps, i))) (params_typed (kind (l ++ r)) (l ++ r) (params_front q r))
      (made_reads _ (bounded_reads (free_loaded l) (λ lt. more_params_read q fuel [] lt r end)) refl)

  method_reads : {l : List Token} {ps : ParamsTree} {xs : List Stm} {e : Token} (s : Method l ps xs e) (ms : List Modifier) (result : ResultTree) (at : Place) (name : List ℕ) (r : List Token)
      → IsRead limits fuel (method (up_to limits) fuel ms result at name) (method_loads s) l r
      (tree.MethodMember (record { modifiers = ms; result = result; place = at; name = name; params = ps; body = xs; end = e.place }))
  unfolding method
  method_reads (grammar.method o c b e ho ps hc hb items he) ms result at name r =
      want k.LeftParen _ ho (then_reads _ (params_read ps _ hc) (want k.RightParen _ hc (want k.LeftBrace _ hb
      (then_reads _ (bounded_reads (items_loaded 1 items) (λ lt. items_reads limits allows fuel items limits.level 1 (omega arith) fuel [] lt _ he)) (want k.RightBrace _ he done_reads)))))

  -- ---- members

  member_base : (ms : List Modifier) (q : TokenKind) (i : List Token) → begins_base q ≡ true → spec.member_by (up_to limits) fuel ms q i
      ≡ and_then (field (up_to limits) fuel i) (field_or_method (up_to limits) fuel ms)
  member_base ms k.KeywordInt i h = refl
  member_base ms k.KeywordLong i h = refl
  member_base ms k.KeywordBoolean i h = refl
  member_base ms k.KeywordPoint i h = refl
  member_base ms k.KeywordRectDomain i h = refl
  member_base ms (k.Name name) i h = refl
  member_base ms _ i h = absurd (false≢true h)

  member_wide : (ms : List Modifier) (q : TokenKind) (i : List Token) → is_wide q ≡ true → spec.member_by (up_to limits) fuel ms q i
      ≡ and_then (wide (up_to limits) fuel i) (λ ty. method_named (up_to limits) fuel ms (tree.Typed ty))
  member_wide ms k.KeywordDomain i h = refl
  member_wide ms k.KeywordSharedRegion i h = refl
  member_wide ms _ i h = absurd (false≢true h)

  from_field : {m : List Token} {ty : TypeTree} → FieldType m ty → (ms : List Modifier) (b r : List Token)
      → member_from (up_to limits) fuel ms ((m ++ b) ++ r) ≡ and_then (field (up_to limits) fuel ((m ++ b) ++ r))
      (field_or_method (up_to limits) fuel ms)
  unfolding member_from
  from_field {m = m} s ms b r = member_base ms (kind ((m ++ b) ++ r)) ((m ++ b) ++ r) (ap (λ z. begins_base (kind z)) (append_assoc m b r) ∙ front_field s (b ++ r))

  from_wide : {m : List Token} {ty : TypeTree} → WideType m ty → (ms : List Modifier) (b r : List Token)
      → member_from (up_to limits) fuel ms ((m ++ b) ++ r) ≡ and_then (wide (up_to limits) fuel ((m ++ b) ++ r)) (λ ty. method_named (up_to limits) fuel ms (tree.Typed ty))
  unfolding member_from
  from_wide {m = m} s ms b r = member_wide ms (kind ((m ++ b) ++ r)) ((m ++ b) ++ r) (ap (λ z. is_wide (kind z)) (append_assoc m b r) ∙ wide_is_wide s (b ++ r))

  typed_free : {m : List Token} {ty : TypeTree} → Typed m ty → (b r : List Token) → modifier_of (kind ((m ++ b) ++ r)) ≡ None
  typed_free {m = m} s b r = ap (λ z. modifier_of (kind z)) (append_assoc m b r) ∙ (typed_begins s (b ++ r)).1

  member_reads : {l : List Token} {x : MemberTree} (s : Member l x) (r : List Token) → IsRead limits fuel (member (up_to limits) fuel) (member_loads s) l r x
  unfolding member member_from method_named field_or_method
  member_reads (grammar.void_method {ms = words} v t e ms hv ht rest) r =
      then_reads _ (modifiers_part ms _ (ap modifier_of hv)) (by_kind (spec.member_by (up_to limits) fuel words) hv (took (name_took _ ht (method_reads rest words (tree.Void v.place) t.place _ r))))
  member_reads (grammar.field {m = m} {ms = words} t s ms ty ht hs) r =
      then_reads _ (modifiers_part ms _ (typed_free (types.field ty) (t ∷ s ∷ []) r))
      (same_reads (λ i. and_then (field (up_to limits) fuel i) (field_or_method (up_to limits) fuel words)) (from_field ty words (t ∷ s ∷ []) r)
      (then_reads _ (field_part ty ht) (name_took _ ht (sees_reads k.Semicolon _ _ hs (took done_reads)))))
  member_reads (grammar.method {m = m} {v = v} {ms = words} t e ms (types.field {ty = type} ty) ht rest) r =
      then_reads _ (modifiers_part ms _ (typed_free (types.field ty) (t ∷ v) r))
      (same_reads (λ i. and_then (field (up_to limits) fuel i) (field_or_method (up_to limits) fuel words)) (from_field ty words (t ∷ v) r)
      (then_reads _ (field_part ty ht) (name_took _ ht (sees_reads k.Semicolon _ _ (method_front rest r) (method_reads rest words (tree.Typed type) t.place _ r)))))
  member_reads (grammar.method {m = m} {v = v} {ms = words} t e ms (types.wide {ty = type} ty) ht rest) r =
      then_reads _ (modifiers_part ms _ (typed_free (types.wide ty) (t ∷ v) r))
      (same_reads (λ i. and_then (wide (up_to limits) fuel i) (λ ty. method_named (up_to limits) fuel words (tree.Typed ty))) (from_wide ty words (t ∷ v) r)
      (then_reads _ (wide_part ty ht) (name_took _ ht (method_reads rest words (tree.Typed type) t.place _ r))))

  members_read : {l : List Token} {xs : List MemberTree} (s : Members l xs) (n : ℕ) (found : List MemberTree) → length l < n
      → (r : List Token) → kind r ≡ k.RightBrace → IsRead limits fuel (members (up_to limits) fuel n found) (members_loads s) l r (found
      ++ xs)
  unfolding members
  members_read grammar.none zero found lt r end = absurd (omega arith)
  members_read grammar.none (suc n) found lt r end = result_reads (sym (append_nil found)) (sees_reads k.RightBrace _ _ end done_reads)
  members_read (grammar.more x xs) zero found lt r end = absurd (omega arith)
  members_read (grammar.more {l = l} {m = m} {x = y} {xs = ys} x xs) (suc n) found lt r end =
      test_reads (next_is k.RightBrace) _ _ false (member_not_end (kind ((l ++ m) ++ r)) (ap (λ z. begins_member (kind z)) (append_assoc l m r) ∙ member_front x (m ++ r)))
      (then_reads _ (member_reads x (m ++ r)) (result_reads (append_assoc found (y ∷ []) ys)
      (members_read xs n (found ++ y ∷ []) (omega (arith, length-append l m, member_some l (member_front x []))) r end)))

  -- ---- classes

  class_reads : {l : List Token} {x : ClassTree} (s : Class l x) (r : List Token) → IsRead limits fuel (class (up_to limits) fuel) (class_loads s) l r x
  unfolding class class_from
  class_reads (grammar.class c t o e ms hc ht ho xs he) r =
      then_reads _ (class_modifiers_part ms _ (ap class_modifier_of hc)) (want k.KeywordClass _ hc (name_took _ ht (want k.LeftBrace _ ho
      (then_reads _ (bounded_reads (members_loaded xs) (λ lt. members_read xs fuel [] lt _ he)) (want k.RightBrace _ he done_reads)))))

  classes_reads : {l : List Token} {xs : List ClassTree} (s : AllClasses l xs) (n : ℕ) (found : List ClassTree) → length l < n
      → (r : List Token) → kind r ≡ k.End → IsRead limits fuel (classes (up_to limits) fuel n found) (classes_loads s) l r (found ++ xs)
  unfolding classes
  classes_reads grammar.none zero found lt r end = absurd (omega arith)
  classes_reads grammar.none (suc n) found lt r end = result_reads (sym (append_nil found)) (sees_reads k.End _ _ end done_reads)
  classes_reads (grammar.more x xs) zero found lt r end = absurd (omega arith)
  classes_reads (grammar.more {l = l} {m = m} {x = y} {xs = ys} x xs) (suc n) found lt r end =
      test_reads (next_is k.End) _ _ false (class_not_end (kind ((l ++ m) ++ r)) (ap (λ z. begins_class (kind z)) (append_assoc l m r) ∙ class_front x (m ++ r)))
      (then_reads _ (class_reads x (m ++ r)) (result_reads (append_assoc found (y ∷ []) ys)
      (classes_reads xs n (found ++ y ∷ []) (omega (arith, length-append l m, class_some l (class_front x []))) r end)))

pub classes_read : (limits : Limits) → 0 < limits.weight → {l : List Token} {xs : List ClassTree} (s : AllClasses l xs) (fuel : ℕ) (r : List Token) → kind r ≡ k.End → length (l ++ r) < fuel
    → classes (up_to limits) fuel fuel [] (l ++ r) ≡ limited_to limits (classes_loads s) (l ++ r) (Ok (xs, r))
classes_read limits allows {l = l} s fuel r end lt =
    let fits : length l < fuel = omega (arith, length-append l r) in (classes_reads limits allows fuel s fuel [] fits r end).reads fits
