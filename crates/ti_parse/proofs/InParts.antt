-- A parser whose steps are grouped into functions is proved equal to the one that does them one by one.
use Rattle.std.proofs.Common.{◌≡◌, ℕ, List, [], Option, Ok, Err, refl, ◌∙◌}
use Rattle.ti_base.specs.declared.place.Place.{Place}
use Rattle.ti_syntax.specs.declared.token.Token.{Token}
use Rattle.ti_syntax.specs.declared.token.TokenKind.TheVariants as k
use Rattle.ti_syntax.specs.declared.tree.types.Base.{Base}
use Rattle.ti_syntax.specs.declared.tree.types.Qualifier.{Qualifier}
use Rattle.ti_syntax.specs.declared.tree.classes.Modifier.{Modifier}
use Rattle.ti_syntax.specs.Trees.Expressions.{Exp}
use Rattle.ti_syntax.specs.Trees.Statements.{Stm, InitTree}
use Rattle.ti_syntax.specs.Trees.Statements as s
use Rattle.ti_syntax.specs.Trees.Classes.{ParamsTree, ResultTree, MemberTree}
use Rattle.ti_syntax.specs.Trees.Classes as c
use Rattle.ti_parse_expr.specs.Mirrors.Input.{ParseOutcome, Parser, and_then, expect, pure, place}
use Rattle.ti_parse_expr.specs.Mirrors.Types.{qualifiers, grids}
use Rattle.ti_parse_expr.proofs.Lemmas.{then_ok}
use Rattle.ti_parse.specs.Mirrors.ParserParams.{ParserParams}
use Rattle.ti_parse.specs.Mirrors.Parts.{dims, new_grid, first, optional_expr, update}
use Rattle.ti_parse.specs.Mirrors.Statements.{body, for_loop}
use Rattle.ti_parse.specs.Mirrors.Classes.{params, method}
use Rattle.ti_parse.specs.Mirrors.Pieces.{sizes, for_head, signature, method_body}

-- ---- a value made of what was read before the last token or part

token_last : {H B : Type 0} (o : ParseOutcome (Unit {0})) (h : H) (rest : H → Parser B) → and_then o (λ _. rest h) ≡ and_then (and_then o (λ _. pure h)) rest
token_last (Ok p) h rest = refl
token_last (Err e) h rest = refl

part_last : {A H B : Type 0} (o : ParseOutcome A) (g : A → H) (rest : H → Parser B) → and_then o (λ a. rest (g a)) ≡ and_then (and_then o (λ a. pure (g a))) rest
part_last (Ok p) g rest = refl
part_last (Err e) g rest = refl

-- a part and a token
closed : {A H B : Type 0} (o : ParseOutcome A) (shut : Parser (Unit {0})) (g : A → List Token → H) (rest : H → Parser B)
    → and_then o (λ a i. and_then (shut i) (λ _. rest (g a i))) ≡ and_then (and_then o (λ a i. and_then (shut i) (λ _. pure (g a i)))) rest
closed (Ok p) shut g rest = token_last (shut p.1) (g p.0 p.1) rest
closed (Err e) shut g rest = refl

-- a token, a part and a token
between : {A H B : Type 0} (o : ParseOutcome (Unit {0})) (p : Parser A) (shut : Parser (Unit {0})) (g : A → List Token → H) (rest : H → Parser B)
    → and_then o (λ _ i. and_then (p i) (λ a i. and_then (shut i) (λ _. rest (g a i)))) ≡ and_then (and_then o (λ _ i. and_then (p i) (λ a i. and_then (shut i) (λ _. pure (g a i))))) rest
between (Ok u) p shut g rest = closed (p u.1) shut g rest
between (Err e) p shut g rest = refl

-- ---- the sizes of a new grid

behind_dims : {A C H B : Type 0} (o : ParseOutcome A) (shut : Parser (Unit {0})) (q : Parser C) (g : A → C → H) (rest : H → Parser B)
    → and_then o (λ a i. and_then (shut i) (λ _ i. and_then (q i) (λ b. rest (g a b)))) ≡ and_then (and_then o (λ a i. and_then (shut i) (λ _ i. and_then (q i) (λ b. pure (g a b))))) rest
behind_dims (Err e) shut q g rest = refl
behind_dims (Ok p) shut q g rest = behind_shut (shut p.1)
  where
    behind_shut : (o : ParseOutcome (Unit {0})) → and_then o (λ _ i. and_then (q i) (λ b. rest (g p.0 b))) ≡ and_then (and_then o (λ _ i. and_then (q i) (λ b. pure (g p.0 b)))) rest
    behind_shut (Ok u) = part_last (q u.1) (g p.0) rest
    behind_shut (Err e) = refl

in_brackets : {A C H B : Type 0} (o : ParseOutcome (Unit {0})) (p : Parser A) (shut : Parser (Unit {0})) (q : Parser C) (g : A → C → H) (rest : H → Parser B)
    → and_then o (λ _ i. and_then (p i) (λ a i. and_then (shut i) (λ _ i. and_then (q i) (λ b. rest (g a b)))))
    ≡ and_then (and_then o (λ _ i. and_then (p i) (λ a i. and_then (shut i) (λ _ i. and_then (q i) (λ b. pure (g a b)))))) rest
in_brackets (Ok u) p shut q g rest = behind_dims (p u.1) shut q g rest
in_brackets (Err e) p shut q g rest = refl

-- ---- the head of a `for`

behind_test : {A C H B : Type 0} (o : ParseOutcome A) (t2 : Parser (Unit {0})) (q : Parser C) (t3 : Parser (Unit {0})) (g : A → C → H) (rest : H → Parser B)
    → and_then o (λ a i. and_then (t2 i) (λ _ i. and_then (q i) (λ b i. and_then (t3 i) (λ _. rest (g a b)))))
    ≡ and_then (and_then o (λ a i. and_then (t2 i) (λ _ i. and_then (q i) (λ b i. and_then (t3 i) (λ _. pure (g a b)))))) rest
behind_test (Ok p) t2 q t3 g rest = between (t2 p.1) q t3 (λ b _. g p.0 b) rest
behind_test (Err e) t2 q t3 g rest = refl

behind_first : {A C D H B : Type 0} (o : ParseOutcome A) (t1 : Parser (Unit {0})) (q : Parser C) (t2 : Parser (Unit {0})) (r : Parser D) (t3 : Parser (Unit {0})) (g : A → C → D → H) (rest : H → Parser B)
    → and_then o (λ a i. and_then (t1 i) (λ _ i. and_then (q i) (λ b i. and_then (t2 i) (λ _ i. and_then (r i) (λ d i. and_then (t3 i) (λ _. rest (g a b d)))))))
    ≡ and_then (and_then o (λ a i. and_then (t1 i) (λ _ i. and_then (q i) (λ b i. and_then (t2 i) (λ _ i. and_then (r i) (λ d i. and_then (t3 i) (λ _. pure (g a b d)))))))) rest
behind_first (Err e) t1 q t2 r t3 g rest = refl
behind_first (Ok p) t1 q t2 r t3 g rest = behind_token (t1 p.1)
  where
    behind_token : (o : ParseOutcome (Unit {0})) → and_then o (λ _ i. and_then (q i) (λ b i. and_then (t2 i) (λ _ i. and_then (r i) (λ d i. and_then (t3 i) (λ _. rest (g p.0 b d))))))
        ≡ and_then (and_then o (λ _ i. and_then (q i) (λ b i. and_then (t2 i) (λ _ i. and_then (r i) (λ d i. and_then (t3 i) (λ _. pure (g p.0 b d))))))) rest
    behind_token (Ok u) = behind_test (q u.1) t2 r t3 (g p.0) rest
    behind_token (Err e) = refl

in_parens : {A C D H B : Type 0} (o : ParseOutcome (Unit {0})) (p : Parser A) (t1 : Parser (Unit {0})) (q : Parser C) (t2 : Parser (Unit {0}))
    (r : Parser D) (t3 : Parser (Unit {0})) (g : A → C → D → H) (rest : H → Parser B)
    → and_then o (λ _ i. and_then (p i) (λ a i. and_then (t1 i) (λ _ i. and_then (q i) (λ b i. and_then (t2 i) (λ _ i. and_then (r i) (λ d i. and_then (t3 i) (λ _. rest (g a b d))))))))
    ≡ and_then (and_then o (λ _ i. and_then (p i) (λ a i. and_then (t1 i)
    (λ _ i. and_then (q i) (λ b i. and_then (t2 i) (λ _ i. and_then (r i) (λ d i. and_then (t3 i) (λ _. pure (g a b d)))))))))
    rest
in_parens (Ok u) p t1 q t2 r t3 g rest = behind_first (p u.1) t1 q t2 r t3 g rest
in_parens (Err e) p t1 q t2 r t3 g rest = refl

-- ---- the functions

module _ (w : ParserParams) (fuel : ℕ) where
  pub new_grid_sized : (at : Place) (owner : Option Exp) (begin : Base) (l : List Token) {qs : List Qualifier} {r : List Token} → qualifiers fuel [] l ≡ Ok (qs, r)
      → new_grid w fuel at owner begin l ≡ and_then (sizes w fuel r) (λ z. pure (s.NewGrid at owner (record { base = begin; qualifiers = qs; grids = z.2 }) z.0 z.1))
  unfolding new_grid sizes
  new_grid_sized at owner begin l {qs = qs} {r = r} h =
      then_ok _ h ∙ in_brackets (expect k.LeftBracket r) (dims w fuel) (expect k.RightBracket) (grids fuel 2 [])
      (λ d gs. (place r, d, gs)) (λ z. pure (s.NewGrid at owner (record { base = begin; qualifiers = qs; grids = z.2 }) z.0 z.1))

  pub for_headed : (stmt : Parser Stm) (at : Place) (l : List Token) → for_loop w fuel stmt at l ≡ and_then (for_head w fuel l) (λ h i. and_then (stmt i) (λ x. pure (s.For at h.0 h.1 h.2 x)))
  unfolding for_loop for_head
  for_headed stmt at l =
      in_parens (expect k.LeftParen l) (first w fuel) (expect k.Semicolon) (optional_expr w fuel) (expect k.Semicolon) (update w fuel)
      (expect k.RightParen) (λ begin c change. (begin, c, change)) (λ h i. and_then (stmt i) (λ x. pure (s.For at h.0 h.1 h.2 x)))

  -- a method, behind its parameters
  abbrev method_behind : List Modifier → ResultTree → Place → List ℕ → ParamsTree → Parser MemberTree
  method_behind ms result at name ps i =
      and_then (expect k.LeftBrace i) (λ _ i. and_then (body w fuel i)
      (λ xs i. and_then (expect k.RightBrace i) (λ _. pure (c.MethodMember
      (record { modifiers = ms; result = result; place = at; name = name; params = ps; body = xs; end = place i })))))

  pub method_signed : (ms : List Modifier) (result : ResultTree) (at : Place) (name : List ℕ) (l : List Token)
      → method w fuel ms result at name l ≡ and_then (signature w fuel l) (method_behind ms result at name)
  unfolding method signature
  method_signed ms result at name l = between (expect k.LeftParen l) (params w fuel) (expect k.RightParen) (λ ps _. ps) (method_behind ms result at name)

  pub method_braced : (ms : List Modifier) (result : ResultTree) (at : Place) (name : List ℕ) (l : List Token) {ps : ParamsTree} {r : List Token} → signature w fuel l ≡ Ok (ps, r)
      → method w fuel ms result at name l ≡ and_then (method_body w fuel r)
      (λ b. pure (c.MethodMember (record {
        modifiers = ms;
        result = result;
        place = at;
        name = name;
        params = ps;
        body = b.0;
        end = b.1;
      })))
  unfolding method_body
  method_braced ms result at name l {ps = ps} {r = r} h =
      method_signed ms result at name l ∙ then_ok (method_behind ms result at name) h
      ∙ between (expect k.LeftBrace r) (body w fuel) (expect k.RightBrace) (λ xs i. (xs, place i))
      (λ b. pure (c.MethodMember (record {
        modifiers = ms;
        result = result;
        place = at;
        name = name;
        params = ps;
        body = b.0;
        end = b.1;
      })))
