-- A text without a byte has no program: no class stands in it.
use Rattle.std.proofs.Common.{◌≡◌, ℕ, List, [], ◌∷◌, ◌++◌, refl, ◌∙◌, subst, arith}
use Rattle.ti_base.specs.Places.{end_place}
use Rattle.ti_syntax.specs.declared.token.Token.{Token}
use Rattle.ti_syntax.specs.declared.token.TokenKind.TheVariants as k
use Rattle.ti_syntax.specs.Tokenizing.{IsTokenized, no_piece}
use Rattle.ti_syntax.specs.Trees.Classes.{ClassTree, TextTree}
use Rattle.ti_syntax.specs.Spelling.Classes.{Class, class, AllClasses, more}
use Rattle.ti_lang.specs.Program.Classes.{ProgramView}
use Rattle.ti_rules.specs.BrokenNames.{BreaksNames}
use Rattle.ti_rules.specs.RefusalOf.{HasNone, HasProgram}

-- the token of its end
abbrev last : Token
last = record { kind = k.End; place = end_place [] }

tokenized : IsTokenized [] (last ∷ [])
tokenized = record { spelled = []; pieces = no_piece; ended = refl }

-- ---- no class

not_empty : (l : List Token) (t : Token) (m : List Token) → l ++ t ∷ m ≡ [] → ⊥
not_empty [] t m e = cc
not_empty (x ∷ l) t m e = cc

front_empty : (l m : List Token) → l ++ m ≡ [] → l ≡ []
front_empty [] m e = refl
front_empty (x ∷ l) m e = cc

class_is_some : (l : List Token) (x : ClassTree) → Class l x → l ≡ [] → ⊥
class_is_some l x (class c t o e words head name opens members closes) z = not_empty _ _ _ z

no_classes : (l : List Token) (tree : TextTree) → AllClasses l tree → l ≡ [] → tree ≡ []
no_classes l [] classes e = refl
no_classes l (x ∷ xs) (more {l = front} {m = rest} c cs) e = absurd (class_is_some front x c (front_empty front rest e))

-- the list of the end alone has nothing before its last token
nothing_before : (front : List Token) (t : Token) → last ∷ [] ≡ front ++ t ∷ [] → front ≡ []
nothing_before [] t e = refl
nothing_before (x ∷ front) t e = absurd (not_empty front t [] (same_tail last x [] _ e))
  where
    same_tail : (a b : Token) (xs ys : List Token) → a ∷ xs ≡ b ∷ ys → ys ≡ xs
    same_tail a b xs ys e = cc

-- ---- no program

pub no_program : ((text : List ℕ) (a b : List Token) → IsTokenized text a → IsTokenized text b → a ≡ b) → (program : ProgramView) → HasProgram [] program → ⊥
no_program one_list program has =
    let tree = has.has_tree in
    let tokens : last ∷ [] ≡ tree.tokens = one_list [] _ _ tokenized tree.has_tokens.tokenized in
    let front = nothing_before tree.spells.front tree.spells.last (tokens ∙ tree.spells.is) in
    let none : has.tree ≡ [] = no_classes tree.spells.front has.tree tree.spells.classes front in
    let named : HasNone (BreaksNames []) = subst (λ x. HasNone (BreaksNames x)) none has.named in
    named _ (0, omega arith, refl)
