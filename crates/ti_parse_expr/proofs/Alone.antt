-- The shortcut for an expression that is just a name is proved to be what the parser does, if the next token can't continue it.
use Rattle.std.proofs.Common.{◌≡◌, ℕ, suc, ◌+◌, ◌-◌, true, List, [], ◌∷◌, length, take, Ok, refl, sym, ap, ◌∙◌, arith, true≢false, ◌≤◌, if◌then◌else◌}
use Rattle.ti_base.specs.declared.place.Place.{Place}
use Rattle.ti_syntax.specs.declared.token.Token.{Token}
use Rattle.ti_syntax.specs.declared.token.TokenKind.{TokenKind}
use Rattle.ti_syntax.specs.declared.token.TokenKind.TheVariants as k
use Rattle.ti_syntax.specs.Trees.Expressions.{Exp}
use Rattle.ti_syntax.specs.Trees.Expressions as e
use Rattle.ti_syntax.specs.Spelling.Expressions.{Ending, Target, Other, Postfixed}
use Rattle.ti_syntax.specs.Spelling.Expressions as grammar
use Rattle.ti_syntax.specs.Spelling.Loads.{Weight, weights_behind}
use Rattle.ti_syntax.specs.Spelling.Weights.{counts, arity_behind}
use Rattle.ti_parse_expr.specs.declared.parse.Form.{Form}
use Rattle.ti_parse_expr.specs.declared.parse.Form.TheVariants as form
use Rattle.ti_parse_expr.specs.Answers.{Phrase}
use Rattle.ti_parse_expr.specs.Mirrors.Alone.{ends_operand, is_name_before_end, is_lone_name}
use Rattle.ti_parse_expr.specs.Mirrors.Input.{ParseOutcome, kind, place, after_next}
use Rattle.ti_parse_expr.specs.Mirrors.Exprs.{phrase, expr, postfix, behind_name}
use Rattle.ti_parse_expr.specs.Mirrors.Full.{language_limits, limited_to, consumed_tokens, full, full_behind_name}
use Rattle.ti_parse_expr.proofs.Complete.{expr_reads, named_alone, postfix_stops}
use Rattle.ti_parse_expr.proofs.Follows.{then_ok, IsCloser, closer_stops}
use Rattle.ti_parse_expr.proofs.Forms.{level_of, phrase_reads}

closes : (q : TokenKind) → ends_operand q ≡ true → IsCloser q
closes k.Semicolon h = record { operand = refl; call = refl; operators = refl }
closes k.RightParen h = record { operand = refl; call = refl; operators = refl }
closes k.RightBracket h = record { operand = refl; call = refl; operators = refl }
closes k.Comma h = record { operand = refl; call = refl; operators = refl }
closes k.Assign h = record { operand = refl; call = refl; operators = refl }
closes k.PlusAssign h = record { operand = refl; call = refl; operators = refl }
closes k.PlusPlus h = record { operand = refl; call = refl; operators = refl }
closes _ h = absurd (true≢false (sym h))

one_level : (f : Form) → 1 ≤ level_of f
one_level form.Whole = omega arith
one_level form.Mul = omega arith
one_level form.Postfix = omega arith

-- a token of its own is a phrase of each form
phrase_of : (f : Form) {ending : Ending} {l : List Token} {x : Exp} → Postfixed ending l x → Phrase f l x
phrase_of form.Whole s = grammar.operand (grammar.postfixed s)
phrase_of form.Mul s = grammar.operand (grammar.postfixed s)
phrase_of form.Postfix {ending} s = (ending, s)

-- one token that doesn't count is within the limit
light_one : {A : Type 0} (t : Token) (q : TokenKind) → t.kind ≡ q
    → ((l : List Token) (out : ParseOutcome A) → limited_to language_limits (Weight ((if counts q then 1 else 0) + 0) ∷ weights_behind (arity_behind q)
    ((if counts q then 1 else 0) + 0) []) l out ≡ out)
    → (l : List Token) (out : ParseOutcome A) → limited_to language_limits (weights_behind 0 0 (t ∷ [])) l out ≡ out
light_one t q h is l out = ap (λ z. limited_to language_limits (Weight ((if counts z then 1 else 0) + 0) ∷ weights_behind (arity_behind z) ((if counts z then 1 else 0) + 0) []) l out) h ∙ is l out

one_read : (f : Form) (t u : Token) (rest : List Token) (x : Exp) → Phrase f (t ∷ []) x → ends_operand u.kind ≡ true
    → ((l : List Token) (out : ParseOutcome Exp) → limited_to language_limits (weights_behind 0 0 (t ∷ [])) l out ≡ out)
    → full f (t ∷ u ∷ rest) ≡ Ok (x, u ∷ rest)
one_read f t u rest x s ends light =
    let l = t ∷ u ∷ rest in
    let reads : phrase (suc (length l)) f l ≡ Ok (x, u ∷ rest) = phrase_reads f (suc (length l)) (t ∷ []) (u ∷ rest) x s
    (closer_stops u.kind u rest (level_of f) (t ∷ []) (closes u.kind ends) (one_level f) refl) (omega arith) in
    let one : suc (suc (length rest)) - suc (length rest) ≡ 1 = omega arith in
    ap (λ out. limited_to language_limits (weights_behind 0 0 (consumed_tokens l out)) l out) reads
    ∙ (ap (λ n. limited_to language_limits (weights_behind 0 0 (take n l)) l (Ok (x, u ∷ rest))) one ∙ light l (Ok (x, u ∷ rest)))

-- a name alone
pub name_alone : (f : Form) (t u : Token) (rest : List Token) (name : List ℕ) → t.kind ≡ k.Name name → ends_operand u.kind ≡ true → full f (t ∷ u ∷ rest) ≡ Ok (e.Name t.place name, u ∷ rest)
name_alone f t u rest name h ends =
    one_read f t u rest (e.Name t.place name) (phrase_of f (grammar.name t h)) ends (light_one t (k.Name name) h (λ l out. refl))

-- a name that was read already
pub nothing_behind : (at : Place) (name : List ℕ) (l : List Token) → ends_operand (kind l) ≡ true → full_behind_name at name l ≡ Ok ((e.Name at name, Target), l)
unfolding behind_name
nothing_behind at name l ends =
    let fuel = suc (suc (length l)) in
    let c = closes (kind l) ends in
    let reads : behind_name fuel at name l ≡ Ok ((e.Name at name, Target), l) =
    then_ok (postfix fuel (expr fuel) fuel) (named_alone fuel (expr fuel) (expr_reads fuel) at name l c.call)
    ∙ postfix_stops fuel (expr fuel) (expr_reads fuel) fuel (e.Name at name, Target) l c.operand (omega arith) in
    let none : length l - length l ≡ 0 = omega arith in
    ap (λ out. limited_to language_limits (weights_behind 0 0 (consumed_tokens l out)) l out) reads
    ∙ ap (λ n. limited_to language_limits (weights_behind 0 0 (take n l)) l (Ok ((e.Name at name, Target), l))) none

pub whole_name : (f : Form) (l : List Token) (name : List ℕ) → is_lone_name l ≡ true → kind l ≡ k.Name name → full f l ≡ Ok (e.Name (place l) name, after_next l)
whole_name f [] name h is = absurd (true≢false (sym h))
whole_name f (t ∷ []) name h is = absurd (true≢false (sym h))
whole_name f (t ∷ u ∷ rest) name h is = name_alone f t u rest name is (sym (ap (λ q. is_name_before_end q u.kind) is) ∙ h)
