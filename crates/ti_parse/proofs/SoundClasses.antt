-- The parser is proved sound for classes and their members.
use Rattle.std.proofs.Common.{◌≡◌, ℕ, zero, suc, ◌<◌, ◌≤◌, List, [], ◌∷◌, ◌++◌, length, Option, Some, None, Ok, refl, sym, ◌∙◌, subst, append_assoc, arith, length-append, true, false, Bool, if◌then◌else◌}
use Rattle.ti_base.specs.declared.place.Place.{Place}
use Rattle.ti_syntax.specs.declared.token.Token.{Token}
use Rattle.ti_syntax.specs.declared.token.TokenKind.{TokenKind}
use Rattle.ti_syntax.specs.declared.token.TokenKind.TheVariants as k
use Rattle.ti_syntax.specs.declared.tree.types.Base.TheVariants as b
use Rattle.ti_syntax.specs.declared.tree.classes.Modifier.{Modifier}
use Rattle.ti_syntax.specs.declared.tree.classes.ModifierWord.{ModifierWord}
use Rattle.ti_syntax.specs.Trees.Types.{TypeTree}
use Rattle.ti_syntax.specs.Trees.Statements.{Stm}
use Rattle.ti_syntax.specs.Trees.Classes.{ParamTree, ParamsTree, ResultTree, MemberTree, ClassTree}
use Rattle.ti_syntax.specs.Trees.Classes as tree
use Rattle.ti_syntax.specs.Spelling.Operators.{modifier_of, class_modifier_of}
use Rattle.ti_syntax.specs.Spelling.Types.{FieldType, Typed}
use Rattle.ti_syntax.specs.Spelling.Types as types
use Rattle.ti_syntax.specs.Spelling.Classes.{ParamList, Parameters, Method, Modified, Member, Members, ClassModified, Class, AllClasses}
use Rattle.ti_syntax.specs.Spelling.Classes as grammar
use Rattle.ti_parse_expr.specs.Mirrors.Input.{ParseOutcome, Parser, ◌>>=◌, ◌>>◌, pure, place_of_next, and_then, next_is, expect, any_name, take_token}
use Rattle.ti_parse_expr.proofs.Lemmas.{paren_is, close_is, bracket_is, shut_is, comma_is, BeginsIn, Said, token, append_nil}
use Rattle.ti_parse.specs.Mirrors.ParserParams.{language_params}
use Rattle.ti_parse.specs.Mirrors.Parts.{is_wide}
use Rattle.ti_parse.specs.Mirrors.Classes as spec
use Rattle.ti_parse.specs.Mirrors.Classes.{more_params, words, params, method, method_named, field_or_method, member_from, modifiers, member, members, class_from, class, classes}
use Rattle.ti_parse.proofs.Laws.{Free, Tells, said_of, as_tells, fewer_tells, done_tells, met_tells, spent_tells, if_tells, if_sees, after_tells, after_turn, then_tells, then_turn, map_tells, want_here, want_tells, last_tells, name_here}
use Rattle.ti_parse.proofs.SoundKinds.{semicolon_is, brace_is, brace_shut_is, class_is}
use Rattle.ti_parse.proofs.SoundParts.{wide_tells, field_tells, typed_tells}
use Rattle.ti_parse.proofs.SoundStatements.{body_tells}

-- ---- those found, and more, of the phrases of a family

pub record More {A : Type 0} (M : List Token → List A → Type 0) (found : List A) (f : List Token) (xs : List A) : Type 0 where
  pub others : List A
  pub are : xs ≡ found ++ others
  pub spelled : M f others

no_more : {A : Type 0} {M : List Token → List A → Type 0} (found : List A) → M [] [] → More M found [] found
no_more found s = record { others = []; are = sym (append_nil found); spelled = s }

one_more : {A : Type 0} {M : List Token → List A → Type 0} {f g : List Token} {found xs : List A} (x : A) → ((ys : List A) → M f ys → M g (x ∷ ys)) → More M (found ++ x ∷ []) f xs → More M found g xs
one_more {found = found} x made q = record { others = x ∷ q.others; are = q.are ∙ append_assoc found (x ∷ []) q.others; spelled = made q.others q.spelled }

all_tell : {A : Type 0} {n : ℕ} {M : List Token → List A → Type 0} {Q : List A → List Token → Type 0} {l : List Token} {out : ParseOutcome (List A)} → Tells n (More M []) Q l out → Tells n M Q l out
all_tell {M = M} tells = as_tells (λ f xs q. subst (M f) (sym q.are) q.spelled) tells

-- ---- each phrase has a token

member_some : (l : List Token) (x : MemberTree) → Member l x → 0 < length l
member_some _ _ (grammar.void_method {l = l} {m = m} v t e sm hv ht s) = omega (arith, length-append l (v ∷ t ∷ m))
member_some _ _ (grammar.field {l = l} {m = m} t s sm sty ht hs) = omega (arith, length-append l (m ++ t ∷ s ∷ []), length-append m (t ∷ s ∷ []))
member_some _ _ (grammar.method {l = l} {m = m} {v = v} t e sm sty ht s) = omega (arith, length-append l (m ++ t ∷ v), length-append m (t ∷ v))

class_some : (l : List Token) (x : ClassTree) → Class l x → 0 < length l
class_some _ _ (grammar.class {l = l} {m = m} c t o e sm hc ht ho sx he) = omega (arith, length-append l (c ∷ t ∷ o ∷ (m ++ e ∷ [])))

some_param : BeginsIn ParamList []
some_param =
    let int : Token = token k.KeywordInt in
    let name : Token = token (k.Name []) in (
      int ∷ name ∷ [],
      record { ty = record { base = b.Int int.place; qualifiers = []; grids = [] }; place = name.place; name = [] } ∷ [],
      grammar.last name (types.field (types.field_type (types.int int refl) types.none types.none (omega arith))) refl,
    )

abbrev param_tree : TypeTree → Place → List ℕ → ParamTree
param_tree ty at name = record { ty = ty; place = at; name = name }

abbrev method_tree : List Modifier → ResultTree → Place → List ℕ → ParamsTree → List Stm → Place → MemberTree
method_tree ms result at name ps xs end_at = tree.MethodMember (record { modifiers = ms; result = result; place = at; name = name; params = ps; body = xs; end = end_at })

abbrev class_tree : List Modifier → Place → Place → List ℕ → List MemberTree → ClassTree
class_tree ms word at name xs = record { modifiers = ms; word = word; place = at; name = name; members = xs }

-- ---- modifiers, where these words are some

module _ (fuel : ℕ) (word_of : TokenKind → Option ModifierWord) (M : List Token → List Modifier → Type 0) (none : M [] []) (word_of_end : word_of k.End ≡ None)
    (more : (t : Token) (word : ModifierWord) (f : List Token) (ms : List Modifier) → word_of t.kind ≡ Some word → M f ms → M (t ∷ f) (record { word = word; place = t.place } ∷ ms)) where
  modifiers_end : (m : ℕ) (found : List Modifier) (q : Option ModifierWord) → q ≡ None
      → Tells (suc m) (More M found) Free [] (spec.modifiers_if language_params fuel (modifiers language_params fuel word_of m) found q [])
  modifiers_end m found None is = done_tells (no_more found none)
  modifiers_end m found (Some word) is = cc

  modifiers_if_tells : (m : ℕ) (found : List Modifier) → ((found : List Modifier) (l : List Token)
      → Tells m (More M found) Free l (modifiers language_params fuel word_of m found l)) → (t : Token) (ts : List Token) (q : Option ModifierWord)
      → word_of t.kind ≡ q
      → Tells (suc m) (More M found) Free (t ∷ ts) (spec.modifiers_if language_params fuel (modifiers language_params fuel word_of m) found q (t ∷ ts))
  modifiers_if_tells m found rec t ts None is = done_tells (no_more found none)
  modifiers_if_tells m found rec t ts (Some word) is =
      let one : Modifier = record { word = word; place = t.place } in
      after_turn (as_tells (λ g y s. one_more one (λ ys q. more t word g ys is q) s) (rec (found ++ one ∷ []) ts))

  pub modifiers_tell : (m : ℕ) (found : List Modifier) (l : List Token) → Tells m (More M found) Free l (modifiers language_params fuel word_of m found l)
  unfolding modifiers
  modifiers_tell zero found l = spent_tells ([], found, no_more found none)
  modifiers_tell (suc m) found [] = modifiers_end m found (word_of k.End) word_of_end
  modifiers_tell (suc m) found (t ∷ ts) = modifiers_if_tells m found (modifiers_tell m) t ts (word_of t.kind) refl

module _ (fuel : ℕ) where
  -- ---- parameters

  pub more_params_tell : (m : ℕ) → m ≤ fuel → (found : List ParamTree) (l : List Token) → Tells m (More ParamList found) Free l (more_params language_params fuel m found l)
  unfolding more_params
  more_params_tell zero le found l = let (w, ps, s) = some_param in spent_tells (w, found ++ ps, record { others = ps; are = refl; spelled = s })
  more_params_tell (suc m) le found l =
      then_tells _ (fewer_tells le (typed_tells fuel l)) (λ f r ty s.
      name_here
      (λ at name i. if◌then◌else◌ {A = Parser (List ParamTree)} (next_is k.Comma i)
      (λ i. and_then (take_token i) (λ _. more_params language_params fuel m (found ++ param_tree ty at name ∷ [])))
      (pure (found ++ param_tree ty at name ∷ [])) i)
      (λ t name ts ht. if_sees k.Comma comma_is refl _ _
      (λ c us hc. after_turn (as_tells (λ g y q. one_more (param_tree ty t.place name) (λ ys p. grammar.more t c s ht hc p) q)
      (more_params_tell m (omega arith) (found ++ param_tree ty t.place name ∷ []) us)))
      (λ _. done_tells (record { others = param_tree ty t.place name ∷ []; are = refl; spelled = grammar.last t s ht }))))

  -- behind `String`
  pub words_tell : (w : Token) → w.kind ≡ k.KeywordString → (l : List Token) → Tells fuel (λ f x. Parameters (w ∷ f) x) Free l (words language_params fuel l)
  unfolding words
  words_tell w hw l =
      want_tells k.LeftBracket bracket_is refl _ (λ o us ho. want_tells k.RightBracket shut_is refl _ (λ c vs hc.
      name_here (λ at name. pure (tree.MainArgs at name)) (λ t name ts ht. done_tells (grammar.words w o c t hw ho hc ht))))

  typed_params : (l : List Token) → Tells fuel Parameters Free l (and_then (more_params language_params fuel fuel [] l) (λ ps j. Ok (tree.Params ps, j)))
  typed_params l = map_tells tree.Params (λ f ps s. grammar.typed s) (all_tell (more_params_tell fuel (omega arith) [] l))

  params_by_tells : (t : Token) (ts : List Token) (q : TokenKind) → t.kind ≡ q → Tells fuel Parameters Free (t ∷ ts) (spec.params_by language_params fuel q (t ∷ ts))
  params_by_tells t ts k.RightParen h = done_tells grammar.none
  params_by_tells t ts k.KeywordString h = after_tells (words_tell t h ts)
  params_by_tells t ts _ h = typed_params (t ∷ ts)

  pub params_tell : (l : List Token) → Tells fuel Parameters Free l (params language_params fuel l)
  unfolding params
  params_tell [] = typed_params []
  params_tell (t ∷ ts) = params_by_tells t ts t.kind refl

  -- ---- methods

  -- behind the name, where each method makes a phrase of U
  pub method_tells : (U : List Token → MemberTree → Type 0) (ms : List Modifier) (result : ResultTree) (at : Place) (name : List ℕ)
      → ((f : List Token) (ps : ParamsTree) (xs : List Stm) (e : Token) → Method f ps xs e → U f (method_tree ms result at name ps xs e.place))
      → (l : List Token) → Tells fuel U Free l (method language_params fuel ms result at name l)
  unfolding method
  method_tells U ms result at name made l =
      want_tells k.LeftParen paren_is refl _ (λ o l2 ho. then_tells _ (params_tell l2) (λ f l3 ps s1.
      want_tells k.RightParen close_is refl _ (λ c l4 hc. want_tells k.LeftBrace brace_is refl _ (λ w l5 hw.
      then_tells _ (body_tells fuel l5) (λ g l6 xs s2.
      want_here k.RightBrace brace_shut_is refl (λ end_at. pure (method_tree ms result at name ps xs end_at))
      (λ e l7 he. done_tells (made (o ∷ (f ++ c ∷ w ∷ (g ++ e ∷ []))) ps xs e (grammar.method o c w e ho s1 hc hw s2 he))))))))

  -- behind the result
  pub method_named_tells : (U : List Token → MemberTree → Type 0) (ms : List Modifier) (result : ResultTree)
      → ((t : Token) (name : List ℕ) (f : List Token) (ps : ParamsTree) (xs : List Stm) (e : Token) → t.kind ≡ k.Name name
      → Method f ps xs e → U (t ∷ f) (method_tree ms result t.place name ps xs e.place))
      → (l : List Token) → Tells fuel U Free l (method_named language_params fuel ms result l)
  unfolding method_named
  method_named_tells U ms result made l =
      name_here (λ at name. method language_params fuel ms result at name)
      (λ t name ts ht. method_tells (λ f x. U (t ∷ f) x) ms result t.place name (λ f ps xs e s. made t name f ps xs e ht s) ts)

  -- ---- members, behind their modifiers, the tokens a

  -- and behind the type, the tokens m
  pub field_or_method_tells : (a m : List Token) (ms : List Modifier) (ty : TypeTree) → Modified a ms → FieldType m ty → (l : List Token)
      → Tells fuel (λ f x. Member (a ++ (m ++ f)) x) Free l (field_or_method language_params fuel ms ty l)
  unfolding field_or_method
  field_or_method_tells a m ms ty sm sty l =
      name_here
      (λ at name i. if◌then◌else◌ {A = Parser MemberTree} (next_is k.Semicolon i)
      (λ i. and_then (take_token i) (λ _. pure (tree.FieldMember (record { modifiers = ms; ty = ty; place = at; name = name }))))
      (method language_params fuel ms (tree.Typed ty) at name) i)
      (λ t name ts ht. if_sees k.Semicolon semicolon_is refl _ _ (λ s us hs. after_tells (done_tells (grammar.field t s sm sty ht hs)))
      (λ _. method_tells (λ f x. Member (a ++ (m ++ t ∷ f)) x) ms (tree.Typed ty) t.place name (λ f ps xs e q. grammar.method t e sm (types.field sty) ht q) ts))

  typed_member_tells : (a : List Token) (ms : List Modifier) → Modified a ms → (l : List Token) (is_wide : Bool)
      → Tells fuel (λ f x. Member (a ++ f) x) Free l (spec.typed_member language_params fuel ms is_wide l)
  typed_member_tells a ms sm l true =
      then_tells _ (wide_tells fuel l) (λ m r ty sty. method_named_tells (λ f x. Member (a ++ (m ++ f)) x) ms (tree.Typed ty) (λ t name f ps xs e ht q. grammar.method t e sm (types.wide sty) ht q) r)
  typed_member_tells a ms sm l false = then_tells _ (field_tells fuel l) (λ m r ty sty. field_or_method_tells a m ms ty sm sty r)

  member_by_tells : (a : List Token) (ms : List Modifier) → Modified a ms → (v : Token) (l : List Token) (q : TokenKind) → v.kind ≡ q
      → Tells fuel (λ f x. Member (a ++ f) x) Free (v ∷ l) (spec.member_by language_params fuel ms q (v ∷ l))
  member_by_tells a ms sm v l k.KeywordVoid h =
      after_tells (method_named_tells (λ f x. Member (a ++ v ∷ f) x) ms (tree.Void v.place) (λ t name f ps xs e ht q. grammar.void_method v t e sm h ht q) l)
  member_by_tells a ms sm v l q h = typed_member_tells a ms sm (v ∷ l) (is_wide q)

  pub member_from_tells : (a : List Token) (ms : List Modifier) → Modified a ms → (l : List Token) → Tells fuel (λ f x. Member (a ++ f) x) Free l (member_from language_params fuel ms l)
  unfolding member_from
  member_from_tells a ms sm [] = typed_member_tells a ms sm [] false
  member_from_tells a ms sm (t ∷ ts) = member_by_tells a ms sm t ts t.kind refl

  pub member_tells : (l : List Token) → Tells fuel Member Free l (member language_params fuel l)
  unfolding member
  member_tells l =
      then_tells _ (all_tell (modifiers_tell fuel modifier_of Modified grammar.none refl (λ t word f ms is s. grammar.more t is s) fuel [] l)) (λ f r ms s. member_from_tells f ms s r)

  pub members_tell : (m : ℕ) → m ≤ fuel → (found : List MemberTree) (l : List Token) → Tells m (More Members found) Free l (members language_params fuel m found l)
  unfolding members
  members_tell zero le found l = spent_tells ([], found, no_more found grammar.none)
  members_tell (suc m) le found l =
      if_tells (next_is k.RightBrace l) _ _ (λ _. done_tells (no_more found grammar.none))
      (λ _. then_turn _ member_some (fewer_tells le (member_tells l)) (λ f r x s. as_tells (λ g y q. one_more x (λ ys p. grammar.more s p) q) (members_tell m (omega arith) (found ++ x ∷ []) r)))

  -- ---- classes

  -- behind the modifiers, the tokens a
  pub class_from_tells : (a : List Token) (ms : List Modifier) → ClassModified a ms → (l : List Token) → Tells fuel (λ f x. Class (a ++ f) x) Free l (class_from language_params fuel ms l)
  unfolding class_from
  class_from_tells a ms sm l =
      want_here k.KeywordClass class_is refl
      (λ word. place_of_next >>= (λ at. any_name >>= (λ name. expect k.LeftBrace >> (members language_params fuel fuel [] >>= (λ xs. expect k.RightBrace >> pure (class_tree ms word at name xs))))))
      (λ c l2 hc. name_here
      (λ at name. expect k.LeftBrace >> (members language_params fuel fuel [] >>= (λ xs. expect k.RightBrace >> pure (class_tree ms c.place at name xs))))
      (λ t name l3 ht. want_tells k.LeftBrace brace_is refl _ (λ o l4 ho. then_tells _ (all_tell (members_tell fuel (omega arith) [] l4)) (λ f r xs s.
      last_tells k.RightBrace brace_shut_is refl (class_tree ms c.place t.place name xs) (λ e he. grammar.class c t o e sm hc ht ho s he)))))

  pub class_tells : (l : List Token) → Tells fuel Class Free l (class language_params fuel l)
  unfolding class
  class_tells l =
      then_tells _ (all_tell (modifiers_tell fuel class_modifier_of ClassModified grammar.none refl (λ t word f ms is s. grammar.more t is s) fuel [] l)) (λ f r ms s. class_from_tells f ms s r)

  pub classes_tell : (m : ℕ) → m ≤ fuel → (found : List ClassTree) (l : List Token) → Tells m (More AllClasses found) (λ _ r. next_is k.End r ≡ true) l (classes language_params fuel m found l)
  unfolding classes
  classes_tell zero le found l = spent_tells ([], found, no_more found grammar.none)
  classes_tell (suc m) le found l =
      if_tells (next_is k.End l) _ _ (λ h. met_tells (no_more found grammar.none) h)
      (λ _. then_turn _ class_some (fewer_tells le (class_tells l)) (λ f r x s. as_tells (λ g y q. one_more x (λ ys p. grammar.more s p) q) (classes_tell m (omega arith) (found ++ x ∷ []) r)))

-- the classes of a text, up to the end
pub classes_say : (fuel : ℕ) (l : List Token) → Said fuel AllClasses (λ r. next_is k.End r ≡ true) l (classes language_params fuel fuel [] l)
classes_say fuel l = said_of (all_tell (classes_tell fuel fuel (omega arith) [] l))
