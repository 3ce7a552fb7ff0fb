-- The grammar of classes and their members.
use Rattle.std.specs.Prelude.{◌≡◌, ℕ, List, [], ◌∷◌, ◌++◌, Some}
use Rattle.ti_syntax.specs.declared.token.Token.{Token}
use Rattle.ti_syntax.specs.declared.token.TokenKind.TheVariants as k
use Rattle.ti_syntax.specs.declared.tree.classes.Modifier.{Modifier}
use Rattle.ti_syntax.specs.declared.tree.classes.ModifierWord.{ModifierWord}
use Rattle.ti_syntax.specs.Trees.Types.{TypeTree}
use Rattle.ti_syntax.specs.Trees.Statements.{Stm}
use Rattle.ti_syntax.specs.Trees.Classes.{ParamTree, ParamsTree, MemberTree, ClassTree, MainArgs, Params, Void, Typed as TypedResult, FieldMember, MethodMember}
use Rattle.ti_syntax.specs.Spelling.Operators.{modifier_of, class_modifier_of}
use Rattle.ti_syntax.specs.Spelling.Types.{FieldType, Typed}
use Rattle.ti_syntax.specs.Spelling.Statements.{Items}

-- ---- methods

-- one or more parameters
pub data ParamList : List Token → List ParamTree → Type 0 where
  last : {l : List Token} {ty : TypeTree} (t : Token) {name : List ℕ} → Typed l ty → t.kind ≡ k.Name name
      → ParamList (l ++ t ∷ []) (record { ty = ty; place = t.place; name = name } ∷ [])
  more : {l m : List Token} {ty : TypeTree} {ps : List ParamTree} (t c : Token) {name : List ℕ} → Typed l ty → t.kind ≡ k.Name name → c.kind
      ≡ k.Comma → ParamList m ps
      → ParamList (l ++ t ∷ c ∷ m) (record { ty = ty; place = t.place; name = name } ∷ ps)

-- a method's parameter list, without its parentheses
pub data Parameters : List Token → ParamsTree → Type 0 where
  none : Parameters [] (Params [])
  words : (s o c t : Token) {name : List ℕ} → s.kind ≡ k.KeywordString → o.kind ≡ k.LeftBracket → c.kind ≡ k.RightBracket → t.kind
      ≡ k.Name name
      → Parameters (s ∷ o ∷ c ∷ t ∷ []) (MainArgs t.place name)
  typed : {l : List Token} {ps : List ParamTree} → ParamList l ps → Parameters l (Params ps)

-- a method from its `(` on; the last argument is the token of its closing `}`
pub data Method : List Token → ParamsTree → List Stm → Token → Type 0 where
  method : {l m : List Token} (o c b e : Token) {params : ParamsTree} {body : List Stm} → o.kind ≡ k.LeftParen → Parameters l params
      → c.kind ≡ k.RightParen
      → b.kind ≡ k.LeftBrace → Items m body → e.kind ≡ k.RightBrace
      → Method (o ∷ (l ++ c ∷ b ∷ (m ++ e ∷ []))) params body e

-- ---- members and classes

-- a sequence of a member's modifiers, possibly empty
pub data Modified : List Token → List Modifier → Type 0 where
  none : Modified [] []
  more : {l : List Token} {ms : List Modifier} (t : Token) {word : ModifierWord} → modifier_of t.kind ≡ Some word → Modified l ms
      → Modified (t ∷ l) (record { word = word; place = t.place } ∷ ms)

-- a Member
pub data Member : List Token → MemberTree → Type 0 where
  void_method : {l m : List Token} {ms : List Modifier} (v t e : Token) {name : List ℕ} {params : ParamsTree} {body : List Stm}
      → Modified l ms
      → v.kind ≡ k.KeywordVoid → t.kind ≡ k.Name name → Method m params body e
      → Member (l ++ v ∷ t ∷ m) (MethodMember (record {
        modifiers = ms;
        result = Void v.place;
        place = t.place;
        name = name;
        params = params;
        body = body;
        end = e.place;
      }))
  field : {l m : List Token} {ms : List Modifier} {ty : TypeTree} (t s : Token) {name : List ℕ} → Modified l ms → FieldType m ty → t.kind
      ≡ k.Name name → s.kind ≡ k.Semicolon
      → Member (l ++ (m ++ t ∷ s ∷ [])) (FieldMember (record { modifiers = ms; ty = ty; place = t.place; name = name }))
  method : {l m v : List Token} {ms : List Modifier} {ty : TypeTree} (t e : Token) {name : List ℕ} {params : ParamsTree} {body : List Stm}
      → Modified l ms
      → Typed m ty → t.kind ≡ k.Name name → Method v params body e
      → Member (l ++ (m ++ t ∷ v)) (MethodMember (record {
        modifiers = ms;
        result = TypedResult ty;
        place = t.place;
        name = name;
        params = params;
        body = body;
        end = e.place;
      }))

pub data Members : List Token → List MemberTree → Type 0 where
  none : Members [] []
  more : {l m : List Token} {x : MemberTree} {xs : List MemberTree} → Member l x → Members m xs → Members (l ++ m) (x ∷ xs)

-- a sequence of a class's modifiers, possibly empty
pub data ClassModified : List Token → List Modifier → Type 0 where
  none : ClassModified [] []
  more : {l : List Token} {ms : List Modifier} (t : Token) {word : ModifierWord} → class_modifier_of t.kind ≡ Some word → ClassModified l ms
      → ClassModified (t ∷ l) (record { word = word; place = t.place } ∷ ms)

-- a Class
pub data Class : List Token → ClassTree → Type 0 where
  class : {l m : List Token} {ms : List Modifier} {xs : List MemberTree} (c t o e : Token) {name : List ℕ} → ClassModified l ms → c.kind
      ≡ k.KeywordClass → t.kind ≡ k.Name name
      → o.kind ≡ k.LeftBrace → Members m xs → e.kind ≡ k.RightBrace
      → Class (l ++ c ∷ t ∷ o ∷ (m ++ e ∷ [])) (record { modifiers = ms; word = c.place; place = t.place; name = name; members = xs })

-- the classes of a program
pub data AllClasses : List Token → List ClassTree → Type 0 where
  none : AllClasses [] []
  more : {l m : List Token} {x : ClassTree} {xs : List ClassTree} → Class l x → AllClasses m xs → AllClasses (l ++ m) (x ∷ xs)
