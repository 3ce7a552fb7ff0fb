-- The grammar of types. Each inductive family relates token lists to parts of a tree.
use Rattle.std.specs.Prelude.{◌≡◌, ℕ, ◌≤◌, pos, Bool, true, false, List, [], ◌∷◌, ◌++◌, length, Some}
use Rattle.ti_syntax.specs.declared.token.Token.{Token}
use Rattle.ti_syntax.specs.declared.token.TokenKind.TheVariants as k
use Rattle.ti_syntax.specs.declared.tree.types.Base.{Base}
use Rattle.ti_syntax.specs.declared.tree.types.Base.TheVariants as base
use Rattle.ti_syntax.specs.declared.tree.types.Qualifier.{Qualifier}
use Rattle.ti_syntax.specs.declared.tree.types.QualifierWord.{QualifierWord}
use Rattle.ti_syntax.specs.Trees.Types.{GridTree, TypeTree}
use Rattle.ti_syntax.specs.Spelling.Operators.{qualifier_of}

-- an arity: `<` n `>`, with n from 1 to 3
pub data Arity : List Token → ℕ → Type 0 where
  arity : (o t c : Token) {n : ℕ} → o.kind ≡ k.Less → t.kind ≡ k.Int (pos n) → 1 ≤ n → n ≤ 3 → c.kind ≡ k.Greater → Arity (o ∷ t ∷ c ∷ []) n

-- the base of a field's type
pub data Based : List Token → Base → Type 0 where
  int : (t : Token) → t.kind ≡ k.KeywordInt → Based (t ∷ []) (base.Int t.place)
  long : (t : Token) → t.kind ≡ k.KeywordLong → Based (t ∷ []) (base.Long t.place)
  boolean : (t : Token) → t.kind ≡ k.KeywordBoolean → Based (t ∷ []) (base.Boolean t.place)
  point : {l : List Token} {n : ℕ} (t : Token) → t.kind ≡ k.KeywordPoint → Arity l n → Based (t ∷ l) (base.Point t.place n)
  rect_domain : {l : List Token} {n : ℕ} (t : Token) → t.kind ≡ k.KeywordRectDomain → Arity l n → Based (t ∷ l) (base.RectDomain t.place n)
  named : (t : Token) {name : List ℕ} → t.kind ≡ k.Name name → Based (t ∷ []) (base.Named t.place name)

-- a sequence of qualifiers, possibly empty
pub data Qualified : List Token → List Qualifier → Type 0 where
  none : Qualified [] []
  more : {l : List Token} {qs : List Qualifier} (t : Token) {word : QualifierWord} → qualifier_of t.kind ≡ Some word → Qualified l qs
      → Qualified (t ∷ l) (record { word = word; place = t.place } ∷ qs)

-- a sequence of grid brackets of one to three dimensions, possibly empty, each with its qualifiers
pub data Gridded : List Token → List GridTree → Type 0 where
  none : Gridded [] []
  more : {l m : List Token} {qs : List Qualifier} {gs : List GridTree} (o t c : Token) {n : ℕ} → o.kind ≡ k.LeftBracket → t.kind ≡ k.Dim n
      → 1 ≤ n → n ≤ 3 → c.kind ≡ k.RightBracket
      → Qualified l qs → Gridded m gs → Gridded (o ∷ t ∷ c ∷ (l ++ m)) (record { dim = n; qualifiers = qs } ∷ gs)

-- the type of a field, with at most three grid brackets
pub data FieldType : List Token → TypeTree → Type 0 where
  field_type : {a l m : List Token} {b : Base} {qs : List Qualifier} {gs : List GridTree} → Based a b → Qualified l qs → Gridded m gs
      → length gs ≤ 3
      → FieldType (a ++ (l ++ m)) (record { base = b; qualifiers = qs; grids = gs })

-- types that only variables, parameters and results can have, not fields or elements
pub data WideType : List Token → TypeTree → Type 0 where
  domain : {l m : List Token} {n : ℕ} {qs : List Qualifier} (t : Token) → t.kind ≡ k.KeywordDomain → Arity l n → Qualified m qs
      → WideType (t ∷ (l ++ m)) (record { base = base.Domain t.place n; qualifiers = qs; grids = [] })
  shared_region : {l : List Token} {qs : List Qualifier} (t : Token) → t.kind ≡ k.KeywordSharedRegion → Qualified l qs
      → WideType (t ∷ l) (record { base = base.SharedRegion t.place; qualifiers = qs; grids = [] })

pub data Typed : List Token → TypeTree → Type 0 where
  field : {l : List Token} {ty : TypeTree} → FieldType l ty → Typed l ty
  wide : {l : List Token} {ty : TypeTree} → WideType l ty → Typed l ty

-- whether a type is just a class name, with no qualifiers or brackets
abbrev pub is_name_alone : Base → List Qualifier → List GridTree → Bool
is_name_alone (base.Named at name) [] [] = true
is_name_alone _ _ _ = false

-- a cast's type: a field's type, except a class name without qualifiers or brackets
pub data CastType : List Token → TypeTree → Type 0 where
  cast_type : {l : List Token} {ty : TypeTree} → FieldType l ty → is_name_alone ty.base ty.qualifiers ty.grids ≡ false → CastType l ty
