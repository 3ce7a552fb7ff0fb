-- The parsers for full expressions are proved sound, and complete up to the first token above the weight limit.
use Rattle.std.proofs.Common.{◌≡◌, ℕ, suc, ◌+◌, ◌<◌, List, [], ◌∷◌, ◌++◌, length, Ok, refl, ap, ◌∙◌, arith, if◌then◌else◌}
use Rattle.ti_base.specs.declared.place.Place.{Place}
use Rattle.ti_syntax.specs.declared.token.Token.{Token}
use Rattle.ti_syntax.specs.declared.token.TokenKind.TheVariants as k
use Rattle.ti_syntax.specs.Tokens.{same_kind}
use Rattle.ti_syntax.specs.Trees.Expressions.{Exp}
use Rattle.ti_syntax.specs.Trees.Expressions as e
use Rattle.ti_syntax.specs.Spelling.Expressions.{Ending, Target, Postfixed}
use Rattle.ti_syntax.specs.Spelling.Expressions as grammar
use Rattle.ti_syntax.specs.Spelling.Loads.{weights}
use Rattle.ti_syntax.specs.Spelling.Weights.{counts, arity_behind}
use Rattle.ti_parse_expr.specs.declared.parse.Form.{Form}
use Rattle.ti_parse_expr.specs.Answers.{Phrase}
use Rattle.ti_parse_expr.specs.Mirrors.Input.{Parser, take_token}
use Rattle.ti_parse_expr.specs.Mirrors.Exprs as spec
use Rattle.ti_parse_expr.specs.Mirrors.Exprs.{Operand, phrase, operand, expr, postfix, behind_name, behind_bracket}
use Rattle.ti_parse_expr.specs.Mirrors.Full.{Limits, limited_to, full_to, operand_to, behind_name_to, behind_bracket_to, full, full_operand, full_behind_name, full_behind_bracket, with_weight_limit}
use Rattle.ti_parse_expr.proofs.Law.{Said, Any, then_said, as_said, ended}
use Rattle.ti_parse_expr.proofs.Phrases.{Post}
use Rattle.ti_parse_expr.proofs.Sound as sound
use Rattle.ti_parse_expr.proofs.Sound.{expr_says, named_says, index_says, postfix_says}
use Rattle.ti_parse_expr.proofs.Follows.{Stops, then_ok}
use Rattle.ti_parse_expr.proofs.Complete.{expr_reads, named_alone}
use Rattle.ti_parse_expr.proofs.Local.{Suffix, Near, readers_near}
use Rattle.ti_parse_expr.proofs.Enough.{readers_enough}
use Rattle.ti_parse_expr.proofs.Ends.{phrase_ends, postfixed_ends}
use Rattle.ti_parse_expr.proofs.Forms.{level_of, phrase_says, phrase_reads, postfix_reads, phrase_near, phrase_enough}
use Rattle.ti_parse_expr.proofs.Within.{Reader, Laws, laws, held_to, held_reads, held_behind, suffix_behind}

-- ---- the four readers

phrase_reader : (form : Form) → Reader (Phrase form) (λ n. phrase n form)
phrase_reader form = record { says = phrase_says form; near = λ t w v n m le. phrase_near t w v form n m le; enough = phrase_enough form; goes_on = phrase_ends form }

operand_reader : Reader Post (λ n. operand n (expr n))
operand_reader = record {
  says = λ n l. as_said {m = suc n} (omega arith) (λ g y s. s) (λ _ _. tt) (sound.operand_says n (expr n) (expr_says n) l);
  near = λ t w v n m le. (readers_near t w v n m le).operand;
  enough = λ n m le. (readers_enough n m le).operand;
  goes_on = λ l x s. postfixed_ends s;
}

module _ (at : Place) (name : List ℕ) where
  abbrev name_token : Token
  name_token = record { kind = k.Name name; place = at }

  -- what a Postfix is behind its first name
  abbrev BehindName : List Token → Operand → Type 0
  BehindName f x = Post (name_token ∷ f) x

  behind_name_says : (n : ℕ) (l : List Token) → Said n BehindName Any l (behind_name n at name l)
  unfolding behind_name
  behind_name_says n l =
      then_said {m = n} {S = BehindName} {Q = Any} (λ f x s. omega arith) (λ f x s. ([], x, ended BehindName f x s)) _ (named_says n (expr n) (expr_says n) name_token name refl l)
      (λ f r x s _. postfix_says n (expr n) (expr_says n) n (omega arith) (name_token ∷ f) x s r)

  name_reader : Reader BehindName (λ n. behind_name n at name)
  name_reader = record {
    says = behind_name_says;
    near = λ t w v n m le. (readers_near t w v n m le).behind_name at name;
    enough = λ n m le. (readers_enough n m le).behind_name at name;
    goes_on = λ l x s. omega (arith, postfixed_ends s);
  }

module _ (bracket_at at : Place) (name : List ℕ) where
  abbrev bracket_token : Token
  bracket_token = record { kind = k.LeftBracket; place = bracket_at }

  -- what a Postfix is behind its first name and a `[`
  abbrev BehindBracket : List Token → Operand → Type 0
  BehindBracket f x = Post (name_token at name ∷ bracket_token ∷ f) x

  behind_bracket_says : (n : ℕ) (l : List Token) → Said n BehindBracket Any l (behind_bracket n bracket_at at name l)
  unfolding behind_bracket
  behind_bracket_says n l =
      let t : Token = name_token at name in
      then_said {m = n} {S = BehindBracket} {Q = Any} (λ f x s. omega arith) (λ f x s. ([], x, ended BehindBracket f x s)) _
      (as_said {m = suc n} (omega arith) (λ g y s. s) (λ _ _. tt) (index_says (suc n) (expr (suc n)) (expr_says (suc n)) (t ∷ []) (e.Name at name, Target) (grammar.name t refl) bracket_token refl l))
      (λ f r x s _. postfix_says (suc n) (expr (suc n)) (expr_says (suc n)) n (omega arith) (t ∷ bracket_token ∷ f) x s r)

  bracket_reader : Reader BehindBracket (λ n. behind_bracket n bracket_at at name)
  bracket_reader = record {
    says = behind_bracket_says;
    near = λ t w v n m le. (readers_near t w v n m le).behind_bracket bracket_at at name;
    enough = λ n m le. (readers_enough n m le).behind_bracket bracket_at at name;
    goes_on = λ l x s. omega (arith, postfixed_ends s);
  }

-- ---- what holds of each

full_laws : (form : Form) → Laws (Phrase form) (full form) (with_weight_limit 0 (λ n. phrase n form))
full_laws form = laws (Phrase form) (λ n. phrase n form) (phrase_reader form) 0 (omega arith) (λ l. suc (length l)) (λ l. omega arith)

operand_laws : Laws Post full_operand (with_weight_limit 0 (λ n. operand n (expr n)))
operand_laws = laws Post (λ n. operand n (expr n)) operand_reader 0 (omega arith) (λ l. suc (length l)) (λ l. omega arith)

behind_name_laws : (at : Place) (name : List ℕ) → Laws (BehindName at name) (full_behind_name at name) (with_weight_limit 0 (λ n. behind_name n at name))
behind_name_laws at name =
    laws (BehindName at name) (λ n. behind_name n at name) (name_reader at name) 0 (omega arith) (λ l. suc (suc (length l))) (λ l. omega arith)

behind_bracket_laws : (bracket_at at : Place) (name : List ℕ) → Laws (BehindBracket bracket_at at name) (full_behind_bracket bracket_at at name) (with_weight_limit 1 (λ n. behind_bracket n bracket_at at name))
behind_bracket_laws bracket_at at name =
    laws (BehindBracket bracket_at at name) (λ n. behind_bracket n bracket_at at name) (bracket_reader bracket_at at name) 1 (omega arith) (λ l. suc (suc (length l)))
    (λ l. omega arith)

-- ---- soundness

pub full_says : {n : ℕ} (form : Form) (l : List Token) → Said n (Phrase form) Any l (full form l)
full_says {n = n} form l = (full_laws form).says n l

pub operand_says : {n : ℕ} (l : List Token) → Said n Post Any l (full_operand l)
operand_says {n = n} l = operand_laws.says n l

-- ---- completeness

pub full_reads : (limits : Limits) (form : Form) (l r : List Token) (x : Exp) → Phrase form l x → Stops (level_of form) l r
    → full_to limits form (l ++ r) ≡ limited_to limits (weights l) (l ++ r) (Ok (x, r))
full_reads limits form l r x s stops =
    let n = suc (length (l ++ r)) in
    held_reads limits 0 l r x (phrase n form (l ++ r)) (phrase_reads form n l r x s stops (omega arith))

pub operand_reads : (limits : Limits) (ending : Ending) (l r : List Token) (x : Exp) → Postfixed ending l x → Stops 11 l r
    → operand_to limits (l ++ r) ≡ limited_to limits (weights l) (l ++ r) (Ok ((x, ending), r))
operand_reads limits ending l r x s stops =
    let n = suc (length (l ++ r)) in
    held_reads limits 0 l r (x, ending) (operand n (expr n) (l ++ r)) (postfix_reads n ending l r x s stops (omega arith))

-- ---- a Postfix from its first token on

name_first : (n : ℕ) (t : Token) (ts : List Token) (name : List ℕ) → t.kind ≡ k.Name name → operand n (expr n) (t ∷ ts) ≡ behind_name n t.place name ts
unfolding operand behind_name
name_first n t ts name h = ap (λ q. spec.operand_by n (expr n) q (t ∷ ts)) h

bracket_first : (n : ℕ) (o : Token) (ts : List Token) (at : Place) (name : List ℕ) → o.kind ≡ k.LeftBracket → behind_name (suc n) at name (o ∷ ts) ≡ behind_bracket n o.place at name ts
unfolding behind_name behind_bracket postfix
bracket_first n o ts at name h =
    let inner : ℕ → Parser Exp = expr (suc n) in
    then_ok (postfix (suc n) inner (suc n)) (named_alone (suc n) inner (expr_reads (suc n)) at name (o ∷ ts) (ap (λ q. same_kind q k.LeftParen) h))
    ∙ ap (λ q. spec.postfix_by (suc n) inner (postfix (suc n) inner n) (e.Name at name, Target) q (o ∷ ts)) h

pub behind_name_is : (limits : Limits) (t : Token) (ts : List Token) (name : List ℕ) → t.kind ≡ k.Name name → operand_to limits (t ∷ ts) ≡ behind_name_to limits t.place name ts
behind_name_is limits t ts name h =
    let n = suc (suc (length ts)) in
    ap (held_to limits 0 (t ∷ ts)) (name_first n t ts name h)
    ∙ held_behind limits 0 0 t ts (behind_name n t.place name ts) (ap (λ q. (if counts q then 1 else 0) + 0) h) (ap arity_behind h)
    (omega arith) (((readers_near t [] [] n n (omega arith)).behind_name t.place name).suffix ts)

pub behind_bracket_is : (limits : Limits) → 0 < limits.weight → (t o : Token) (ts : List Token) (name : List ℕ) → t.kind ≡ k.Name name → o.kind ≡ k.LeftBracket
    → operand_to limits (t ∷ o ∷ ts) ≡ behind_bracket_to limits o.place t.place name ts
behind_bracket_is limits some t o ts name h h2 =
    let n = suc (suc (length ts)) in
    let part : Suffix ts (behind_bracket n o.place t.place name ts) = ((readers_near t [] [] n n (omega arith)).behind_bracket o.place t.place name).suffix ts in
    ap (held_to limits 0 (t ∷ o ∷ ts)) (name_first (suc n) t (o ∷ ts) name h ∙ bracket_first n o ts t.place name h2)
    ∙ held_behind limits 0 0 t (o ∷ ts) (behind_bracket n o.place t.place name ts) (ap (λ q. (if counts q then 1 else 0) + 0) h)
    (ap arity_behind h) (omega arith) (suffix_behind o ts (behind_bracket n o.place t.place name ts) part)
    ∙ held_behind limits 0 1 o ts (behind_bracket n o.place t.place name ts) (ap (λ q. (if counts q then 1 else 0) + 0) h2) (ap arity_behind h2) (omega (arith, some)) part

-- ---- reading looks no further than the token that it refuses

pub full_near : (t : Token) (w v : List Token) (form : Form) → Near t w v (full form) (full form)
full_near t w v form = (full_laws form).near t w v

pub operand_near_full : (t : Token) (w v : List Token) → Near t w v full_operand full_operand
operand_near_full t w v = operand_laws.near t w v

pub behind_name_near : (t : Token) (w v : List Token) (at : Place) (name : List ℕ) → Near t w v (full_behind_name at name) (full_behind_name at name)
behind_name_near t w v at name = (behind_name_laws at name).near t w v

pub behind_bracket_near : (t : Token) (w v : List Token) (bracket_at at : Place) (name : List ℕ) → Near t w v (full_behind_bracket bracket_at at name) (full_behind_bracket bracket_at at name)
behind_bracket_near t w v bracket_at at name = (behind_bracket_laws bracket_at at name).near t w v

-- ---- the front of a list is enough

pub full_same : (form : Form) (l : List Token) → with_weight_limit 0 (λ n. phrase n form) l ≡ full form l
full_same form l = (full_laws form).same l

pub operand_same : (l : List Token) → with_weight_limit 0 (λ n. operand n (expr n)) l ≡ full_operand l
operand_same l = operand_laws.same l

pub behind_name_same : (at : Place) (name : List ℕ) (l : List Token) → with_weight_limit 0 (λ n. behind_name n at name) l ≡ full_behind_name at name l
behind_name_same at name l = (behind_name_laws at name).same l

pub behind_bracket_same : (bracket_at at : Place) (name : List ℕ) (l : List Token) → with_weight_limit 1 (λ n. behind_bracket n bracket_at at name) l ≡ full_behind_bracket bracket_at at name l
behind_bracket_same bracket_at at name l = (behind_bracket_laws bracket_at at name).same l
