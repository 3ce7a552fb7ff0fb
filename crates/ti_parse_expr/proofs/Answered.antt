-- Parsing a prefix of the token list is proved to give the results that the contract states for the whole list.
use Rattle.std.proofs.Common.{◌≡◌, ◌⊎◌, inl, inr, ℕ, suc, ◌+◌, ◌-◌, ◌<◌, ◌≤◌, List, [], ◌∷◌, ◌++◌, length, Ok, Err, refl, sym, ap, ◌∙◌, subst, append_assoc, arith, length-append, true, if◌then◌else◌, take}
use Rattle.ti_syntax.specs.declared.token.Token.{Token}
use Rattle.ti_syntax.specs.declared.token.TokenKind.TheVariants as k
use Rattle.ti_syntax.specs.Trees.Expressions.{Exp}
use Rattle.ti_syntax.specs.Spelling.Weights.{weigh}
use Rattle.ti_parse_expr.specs.declared.parse.Form.{Form}
use Rattle.ti_parse_expr.specs.declared.parse.Form.TheVariants as form
use Rattle.ti_parse_expr.specs.Answers.{Phrase, BeginsPhrase, IsLight, IsPhrase, IsNoPhrase, IsTooHeavy}
use Rattle.ti_syntax.specs.Spelling.{most_weight}
use Rattle.ti_parse_expr.specs.Mirrors.Input.{At, Over, OutOfFuel, ParseOutcome, place, take_token}
use Rattle.ti_parse_expr.specs.Mirrors.Reach.{IsCut, ends_expression}
use Rattle.ti_parse_expr.specs.Mirrors.Full.{unread_of}
use Rattle.ti_parse_expr.specs.Mirrors.Exprs.{phrase}
use Rattle.ti_parse_expr.proofs.Law.{Says, Any, append_nil, token}
use Rattle.ti_parse_expr.proofs.Phrases.{whole_some, postfixed_some}
use Rattle.ti_parse_expr.proofs.Follows.{Stops, closer_stops, end_closes}
use Rattle.ti_parse_expr.proofs.Local.{Same}
use Rattle.ti_parse_expr.proofs.Shallow.{IsShallow, phrase_shallow}
use Rattle.ti_parse_expr.proofs.Weights.{nothing, take_seam, light_front, light_whole}
use Rattle.ti_parse_expr.proofs.Ends.{ends, ends-append, end_of, phrase_ends}
use Rattle.ti_parse_expr.proofs.Forms.{level_of, phrase_says, phrase_reads, phrase_near, phrase_stops}

-- ---- lists

-- what stands before some token of a list stands in front of its last
pub inside : (a b front : List Token) (u last : Token) → a ++ u ∷ b ≡ front ++ last ∷ [] → (c : List Token) × (front ≡ a ++ c)
inside [] b front u last h = (front, refl)
inside (x ∷ a) b [] u last h = absurd (omega (arith, ap length h, length-append a (u ∷ b)))
inside (x ∷ a) b (y ∷ front) u last h =
    let heads : x ≡ y = cc in
    let tails : a ++ u ∷ b ≡ front ++ last ∷ [] = cc in
    let (c, e) = inside a b front u last tails in
    (c, ap (λ z. y ∷ z) e ∙ ap (λ z. z ∷ (a ++ c)) (sym heads))

level_some : (f : Form) → 1 ≤ level_of f
level_some form.Whole = omega arith
level_some form.Mul = omega arith
level_some form.Postfix = omega arith

phrase_some : (f : Form) (l : List Token) (x : Exp) → Phrase f l x → 0 < length l
phrase_some form.Whole l x s = whole_some s
phrase_some form.Mul l x s = whole_some s
phrase_some form.Postfix l x (ending, s) = postfixed_some s

-- ---- one tree

abbrev last : List Token
last = token k.End ∷ []

reads_before_end : (f : Form) (m : ℕ) (l : List Token) (x : Exp) → Phrase f l x → length (l ++ last) < m → phrase m f (l ++ last) ≡ Ok (x, last)
reads_before_end f m l x s lt = phrase_reads f m l last x s (closer_stops k.End (token k.End) [] (level_of f) l end_closes (level_some f) refl) lt

abbrev tree_or : Exp → ParseOutcome Exp → Exp
tree_or d (Ok p) = p.0
tree_or d (Err h) = d

-- a list is at most one tree of a form
pub one_tree : (f : Form) (l : List Token) (x y : Exp) → Phrase f l x → Phrase f l y → y ≡ x
one_tree f l x y s q =
    let m : ℕ = suc (length (l ++ last)) in
    ap (tree_or x) (sym (reads_before_end f m l y q (omega arith)) ∙ reads_before_end f m l x s (omega arith))

abbrev left_in : ParseOutcome Exp → ℕ
left_in (Ok p) = length p.1
left_in (Err (At r)) = 0
left_in (Err (Over r)) = 0
left_in (Err OutOfFuel) = 0

-- ---- reading stopped at t, with a tree or refused: then no phrase goes on with t

module _ (form : Form) (n : ℕ) (f rest : List Token) (t : Token) where
  stays : (more : List Token) (y : Exp) → Phrase form ((f ++ t ∷ []) ++ more) y → Same t rest (more ++ last) (phrase n form (f ++ t ∷ rest)) (Ok (y, last))
  stays more y s =
      let m : ℕ = n + suc (length (f ++ t ∷ (more ++ last))) in
      let e : ((f ++ t ∷ []) ++ more) ++ last ≡ f ++ t ∷ (more ++ last) = append_assoc (f ++ t ∷ []) more last ∙ append_assoc f (t ∷ []) (more ++ last) in
      let is : phrase m form (f ++ t ∷ (more ++ last)) ≡ Ok (y, last) = ap (phrase m form) (sym e) ∙ reads_before_end form m ((f ++ t ∷ []) ++ more) y s (omega (arith, ap length e)) in
      subst (Same t rest (more ++ last) (phrase n form (f ++ t ∷ rest))) is ((phrase_near t rest (more ++ last) form n m (omega arith)).same f)

  -- nothing goes on where reading stopped
  pub no_more_ok : (x : Exp) → phrase n form (f ++ t ∷ rest) ≡ Ok (x, t ∷ rest) → BeginsPhrase form (f ++ t ∷ []) → ⊥
  no_more_ok x is (more, y, s) =
      let same : Same t rest (more ++ last) (Ok (x, t ∷ rest)) (Ok (y, last)) = subst (λ o. Same t rest (more ++ last) o (Ok (y, last))) is (stays more y s) in
      omega (arith, ap left_in (same [] refl), length-append more last)

  pub no_more_refused : phrase n form (f ++ t ∷ rest) ≡ Err (At (t ∷ rest)) → BeginsPhrase form (f ++ t ∷ []) → ⊥
  no_more_refused is (more, y, s) =
      let same : Same t rest (more ++ last) (Err (At (t ∷ rest))) (Ok (y, last)) = subst (λ o. Same t rest (more ++ last) o (Ok (y, last))) is (stays more y s) in
      omega (arith, ap left_in (same [] refl))

  not_both : (x : Exp) (r : List Token) → phrase n form (f ++ t ∷ rest) ≡ Ok (x, r) → phrase n form (f ++ t ∷ rest) ≡ Err (At (t ∷ rest)) → ⊥
  not_both x r a b = let c : ◌≡◌ {A = ParseOutcome Exp} (Ok (x, r)) (Err (At (t ∷ rest))) = sym a ∙ b in cc

  no_phrase_by : length (f ++ t ∷ rest) < n → phrase n form (f ++ t ∷ rest) ≡ Err (At (t ∷ rest)) → (x : Exp) → Phrase form f x
      → Stops (level_of form) f (t ∷ rest) ⊎ BeginsPhrase form (f ++ t ∷ []) → ⊥
  no_phrase_by lt is x s (inl stops) = not_both x (t ∷ rest) (phrase_reads form n f (t ∷ rest) x s stops lt) is
  no_phrase_by lt is x s (inr begins) = no_more_refused is begins

  -- what was refused is no phrase
  no_phrase : length (f ++ t ∷ rest) < n → phrase n form (f ++ t ∷ rest) ≡ Err (At (t ∷ rest)) → (x : Exp) → Phrase form f x → ⊥
  no_phrase lt is x s = no_phrase_by lt is x s (phrase_stops form f x s t rest)

-- ---- the answers

-- a tree: how many tokens are left of the cut list, and what that says of the whole list
pub record SaysOk (form : Form) (weight : ℕ) (list cut : List Token) (x : Exp) (r : List Token) : Type 0 where
  pub within : length r ≤ length cut
  pub phrase : IsPhrase form weight list x (length cut - length r) (weight + weigh (take (length cut - length r) cut))
  pub small : weight + weigh (take (length cut - length r) cut) ≤ most_weight

module _ (form : Form) (weight : ℕ) (l c : List Token) (cut : IsCut weight l c) where
  abbrev pub read : ParseOutcome Exp
  read = phrase (length c + 1) form c

  abbrev PhraseSays : ParseOutcome Exp → Type 0
  PhraseSays o = Says (length c + 1) (Phrase form) Any c o

  read_says : (o : ParseOutcome Exp) → read ≡ o → PhraseSays o
  read_says o is = subst PhraseSays is (phrase_says form (length c + 1) c).says

  -- the tokens behind the cut
  behind : l ≡ c ++ cut.rest
  behind = cut.is ∙ sym (append_assoc cut.front (cut.last ∷ []) cut.rest) ∙ ap (λ z. z ++ cut.rest) (sym cut.made)

  light_so_far : (f rest : List Token) (t : Token) → c ≡ f ++ t ∷ rest → IsLight weight f
  light_so_far f rest t is =
      let (g, same) = inside f rest cut.front t cut.last (sym is ∙ cut.made) in
      light_front weight f g (subst (IsLight weight) same cut.light)

  there : (f rest : List Token) (t : Token) → c ≡ f ++ t ∷ rest → l ≡ f ++ t ∷ (rest ++ cut.rest)
  there f rest t is = behind ∙ ap (λ z. z ++ cut.rest) is ∙ append_assoc f (t ∷ rest) cut.rest

  pub ok_answer : (r : List Token) (x : Exp) → read ≡ Ok (x, r) → 0 < length r → SaysOk form weight l c x r
  ok_answer [] x is some = absurd (omega (arith, some))
  ok_answer (t ∷ rest) x is some =
      let (f, e, s, q) : PhraseSays (Ok (x, t ∷ rest)) = read_says (Ok (x, t ∷ rest)) is in
      let n = ap length e in
      let n2 = length-append f (t ∷ rest) in
      let size : length c - length (t ∷ rest) ≡ length f = omega (arith, n, n2) in
      let run : take (length c - length (t ∷ rest)) c ≡ f = ap (take (length c - length (t ∷ rest))) e ∙ take_seam f (t ∷ rest) (length c - length (t ∷ rest)) size in
      let light = light_so_far f rest t e in record {
        within = omega (arith, n, n2);
        phrase = record {
          run = f;
          after = t;
          is_run = record {
            rest = rest ++ cut.rest;
            is = there f rest t e;
            begins = ([], x, subst (λ z. Phrase form z x) (sym (append_nil f)) s);
            longest = no_more_ok form (length c + 1) f rest t x (subst (λ z. phrase (length c + 1) form z ≡ Ok (x, t ∷ rest)) e is);
          };
          light = light;
          phrase = s;
          only = λ y q2. one_tree form f x y s q2;
          long = sym size;
          weighs = ap (λ z. weight + weigh z) (sym run);
        };
        small = subst (λ z. weight + weigh z ≤ most_weight) (sym run) (light_whole weight f (phrase_some form f x s) light);
      }

  pub refused_answer : (r : List Token) → read ≡ Err (At r) → 0 < length r → IsNoPhrase form weight l (place r)
  refused_answer [] is some = absurd (omega (arith, some))
  refused_answer (t ∷ rest) is some =
      let refused : ParseOutcome Exp = Err (At (t ∷ rest)) in
      let (f, e, b) : PhraseSays refused = read_says refused is in
      let at : phrase (length c + 1) form (f ++ t ∷ rest) ≡ Err (At (t ∷ rest)) = subst (λ z. phrase (length c + 1) form z ≡ Err (At (t ∷ rest))) e is in record {
        run = f;
        after = t;
        is_run = record { rest = rest ++ cut.rest; is = there f rest t e; begins = b; longest = no_more_refused form (length c + 1) f rest t at };
        light = light_so_far f rest t e;
        no_phrase = no_phrase form (length c + 1) f rest t (omega (arith, ap length e)) at;
        at = refl;
      }

  pub never_deep : (r : List Token) → read ≡ Err (Over r) → ⊥
  never_deep r is =
      let shallow : IsShallow read = phrase_shallow form (length c + 1) c in
      subst IsShallow is shallow

  begins_all : (o : ParseOutcome Exp) → read ≡ o → length (unread_of o) ≡ 0 → BeginsPhrase form c
  begins_all (Ok p) is h =
      let (f, e, s, q) : PhraseSays (Ok (p.0, p.1)) = read_says (Ok (p.0, p.1)) is in
      let all : c ≡ f = e ∙ ap (λ z. f ++ z) (nothing p.1 h) ∙ append_nil f in
      ([], p.0, subst (λ z. Phrase form z p.0) (sym all ∙ sym (append_nil c)) s)
  begins_all (Err (At r)) is h =
      let (f, e, b) : PhraseSays (Err (At r)) = read_says (Err (At r)) is in
      subst (BeginsPhrase form) (sym (e ∙ ap (λ z. f ++ z) (nothing r h) ∙ append_nil f)) b
  begins_all (Err (Over r)) is h = absurd (never_deep r is)
  begins_all (Err OutOfFuel) is h =
      let few : length c + 1 ≤ length c = read_says (Err OutOfFuel) is in
      absurd (omega (arith, few))

  -- the last token stands in an expression, so it weighs too much
  is_heavy : BeginsPhrase form c → (ends_expression cut.last.kind ≡ true) ⊎ (most_weight < weight + weigh (cut.front ++ cut.last ∷ [])) → most_weight < weight + weigh (cut.front ++ cut.last ∷ [])
  is_heavy begins (inr above) = above
  is_heavy (more, x, s) (inl ended) =
      let one : end_of cut.last.kind ≡ 1 = ap (λ z. if z then 1 else 0) ended in
      absurd (omega (arith, phrase_ends form (c ++ more) x s, ends-append c more, ap ends cut.made, ends-append cut.front (cut.last ∷ []), one))

  heavy_by : BeginsPhrase form c → IsTooHeavy form weight l cut.last.place
  heavy_by begins = record {
    front = cut.front;
    heavy = cut.last;
    rest = cut.rest;
    is = cut.is;
    begins = subst (BeginsPhrase form) cut.made begins;
    light = cut.light;
    above = is_heavy begins cut.stops;
    at = refl;
  }

  pub some_cut : 0 < length c
  some_cut = omega (arith, ap length cut.made, length-append cut.front (cut.last ∷ []))

  -- all was taken
  pub heavy_answer : (o : ParseOutcome Exp) → read ≡ o → length (unread_of o) ≡ 0 → IsTooHeavy form weight l cut.last.place
  heavy_answer o is none = heavy_by (begins_all o is none)

  pub never_spent : read ≡ Err OutOfFuel → ⊥
  never_spent is = let few : length c + 1 ≤ length c = read_says (Err OutOfFuel) is in omega (arith, few)
