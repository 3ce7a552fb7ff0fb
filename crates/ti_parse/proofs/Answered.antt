-- The parser's result for a program is proved to be the grammar's verdict on its tokens.
use Rattle.std.proofs.Common.{◌≡◌, ℕ, suc, ◌+◌, ◌<◌, ◌≤◌, true, List, [], ◌∷◌, ◌++◌, length, Option, Some, None, Ok, Err, refl, sym, ap, ◌∙◌, subst, append_assoc, arith, length-append}
use Rattle.std.proofs.lemmas.Bool.{false≢true}
use Rattle.ti_base.specs.declared.place.Place.{Place}
use Rattle.ti_syntax.specs.declared.token.Token.{Token}
use Rattle.ti_syntax.specs.declared.token.TokenKind.{TokenKind}
use Rattle.ti_syntax.specs.declared.token.TokenKind.TheVariants as k
use Rattle.ti_syntax.specs.Tokens.{same_kind}
use Rattle.ti_syntax.specs.Trees.Classes.{ClassTree, TextTree}
use Rattle.ti_syntax.specs.Spelling.{Spells, BeginsText, IsTooDeep, IsShallow, Misfit, IsGrammarRefusal, fits, Unexpected, TooDeep, unexpected, too_deep, refused}
use Rattle.ti_syntax.specs.Spelling.Classes.{AllClasses}
use Rattle.ti_syntax.specs.Spelling.Loads.{classes_loads}
use Rattle.ti_parse_expr.specs.Answers.{EndsAtEnd}
use Rattle.ti_parse_expr.specs.Mirrors.Input.{At, Over, OutOfFuel, ParseOutcome, Parser, and_then, kind, place, next_is}
use Rattle.ti_parse_expr.specs.Mirrors.Full.{limit_outcome, unread_of}
use Rattle.ti_parse_expr.proofs.Lemmas.{Says, Said, append_nil, token, Near, Same, inside}
use Rattle.ti_parse.specs.Mirrors.ParserParams.{language_params}
use Rattle.ti_parse.specs.Mirrors.Classes.{classes, ended, text}
use Rattle.ti_parse.proofs.Ends.{classes_no_end}
use Rattle.ti_parse.proofs.Limited.{StopsIn, stops_in, above_there, never_refused}

abbrev reading : ℕ → Parser TextTree
reading n = classes language_params n n []

-- classes up to the end
abbrev UpToEnd : ℕ → List Token → ParseOutcome TextTree → Type 0
UpToEnd n l out = Says n AllClasses (λ r. next_is k.End r ≡ true) l out

end_is : (a : TokenKind) → same_kind a k.End ≡ true → a ≡ k.End
end_is k.End h = refl
end_is _ h = absurd (false≢true h)

-- ---- classes are a text where an end follows

abbrev last : List Token
last = token k.End ∷ []

text_of : {l list : List Token} {tree : TextTree} → AllClasses l tree → list ≡ l ++ last → Spells list tree
text_of {l = l} s is = record { front = l; last = token k.End; is = is; ends = refl; classes = s }

begins_text : (f w : List Token) (tree : TextTree) → AllClasses (f ++ w) tree → BeginsText f
begins_text f w tree s = (w ++ last, tree, text_of s (sym (append_assoc f w last)))

-- what reading says of a list: a tree and no token too deep, or the one token that shows what is wrong
abbrev Decides : List Token → ParseOutcome TextTree → Type 0
Decides list (Ok p) = Spells list p.0 × IsShallow list
Decides list (Err (At r)) = IsGrammarRefusal list (Some (Unexpected, place r))
Decides list (Err (Over r)) = IsGrammarRefusal list (Some (TooDeep, place r))
Decides list (Err OutOfFuel) = ⊥

-- some token is left, and that is what reading says
record Judged (list : List Token) (out : ParseOutcome TextTree) : Type 0 where
  left : 0 < length (unread_of out)
  decides : Decides list out

module _ (says : (fuel : ℕ) (l : List Token) → Said fuel AllClasses (λ r. next_is k.End r ≡ true) l (classes language_params fuel fuel [] l))
    (reads : (l : List Token) (xs : List ClassTree) (s : AllClasses l xs) (fuel : ℕ) (r : List Token) → kind r ≡ k.End → length (l ++ r) < fuel
    → classes language_params fuel fuel [] (l ++ r) ≡ limit_outcome (classes_loads s) (l ++ r) (Ok (xs, r)))
    (near : (t : Token) (w v : List Token) (fuel more : ℕ) → fuel ≤ more → Near t w v (classes language_params fuel fuel []) (classes language_params more more [])) where
  -- ---- a token that reading left; whatever stands behind it, reading leaves it again

  left_again : (n m : ℕ) → n ≤ m → (f rest more : List Token) (t : Token) (tree : TextTree) → reading n (f ++ t ∷ rest) ≡ Ok (tree, t ∷ rest) → reading m (f ++ t ∷ more) ≡ Ok (tree, t ∷ more)
  left_again n m le f rest more t tree is =
      let same : Same t rest more (Ok (tree, t ∷ rest)) (reading m (f ++ t ∷ more)) = subst (λ o. Same t rest more o (reading m (f ++ t ∷ more))) is ((near t rest more n m le).same f) in
      same [] refl

  refused_again : (n m : ℕ) → n ≤ m → (f rest more : List Token) (t : Token) → reading n (f ++ t ∷ rest) ≡ Err (At (t ∷ rest)) → reading m (f ++ t ∷ more) ≡ Err (At (t ∷ more))
  refused_again n m le f rest more t is =
      let same : Same t rest more (Err (At (t ∷ rest))) (reading m (f ++ t ∷ more)) = subst (λ o. Same t rest more o (reading m (f ++ t ∷ more))) is ((near t rest more n m le).same f) in
      same [] refl

  over_again : (n m : ℕ) → n ≤ m → (f rest more : List Token) (t : Token) → reading n (f ++ t ∷ rest) ≡ Err (Over (t ∷ rest)) → reading m (f ++ t ∷ more) ≡ Err (Over (t ∷ more))
  over_again n m le f rest more t is =
      let same : Same t rest more (Err (Over (t ∷ rest))) (reading m (f ++ t ∷ more)) = subst (λ o. Same t rest more o (reading m (f ++ t ∷ more))) is ((near t rest more n m le).same f) in
      same [] refl

  -- ---- a text is read up to its end, within the limits

  text_reads : (list : List Token) (tree : TextTree) (s : Spells list tree) (n : ℕ) → length list < n → reading n list ≡ limit_outcome (classes_loads s.classes) list (Ok (tree, s.last ∷ []))
  text_reads list tree s n lt =
      subst (λ z. reading n z ≡ limit_outcome (classes_loads s.classes) z (Ok (tree, s.last ∷ []))) (sym s.is) (reads s.front tree s.classes n (s.last ∷ []) s.ends (subst (λ z. length z < n) s.is lt))

  -- the token that was found too deep is so in every tree
  deep_by : (n : ℕ) (f rest : List Token) (t : Token) → reading n (f ++ t ∷ rest) ≡ Err (Over (t ∷ rest)) → IsTooDeep f t
  deep_by n f rest t is = λ more tree s.
      let m : ℕ = n + suc (length (f ++ t ∷ more)) in
      let over : reading m (f ++ t ∷ more) ≡ Err (Over (t ∷ more)) = over_again n m (omega arith) f rest more t is in
      above_there (classes_loads s.classes) f t more (tree, s.last ∷ []) (sym (text_reads (f ++ t ∷ more) tree s m (omega arith)) ∙ over)

  -- no text goes on with the token that was refused
  no_more : (n : ℕ) (f rest : List Token) (t : Token) → reading n (f ++ t ∷ rest) ≡ Err (At (t ∷ rest)) → BeginsText (f ++ t ∷ []) → ⊥
  no_more n f rest t is (more, tree, s) =
      let list : List Token = (f ++ t ∷ []) ++ more in
      let m : ℕ = n + suc (length list) in
      let same : reading m list ≡ Err (At (t ∷ more)) = ap (reading m) (append_assoc f (t ∷ []) more) ∙ refused_again n m (omega arith) f rest more t is in
      never_refused (classes_loads s.classes) list (t ∷ more) (tree, s.last ∷ []) (sym (text_reads list tree s m (omega arith)) ∙ same)

  -- A front of a text is shallow where reading another list that begins with it doesn't stop in it.
  shallow_by : (n : ℕ) (f g h : List Token) (tree : TextTree) → Spells (f ++ g) tree
      → ((m : ℕ) → n ≤ m → (a c : List Token) (u : Token) → f ≡ a ++ u ∷ c → reading m (f ++ h) ≡ Err (Over (u ∷ (c ++ h))) → ⊥) → IsShallow f
  shallow_by n f g h tree s never = λ front t rest is deep.
      let e : front ++ t ∷ (rest ++ g) ≡ f ++ g = sym (append_assoc front (t ∷ rest) g) ∙ ap (λ z. z ++ g) (sym is) in
      let above = deep (rest ++ g) tree (record { front = s.front; last = s.last; is = e ∙ s.is; ends = s.ends; classes = s.classes }) in
      let m : ℕ = suc (length (f ++ g)) in
      let stop : StopsIn f g (limit_outcome (classes_loads s.classes) (f ++ g) (Ok (tree, s.last ∷ []))) =
      stops_in (classes_loads s.classes) f g (Ok (tree, s.last ∷ [])) (length front) above (omega (arith, ap length is, length-append front (t ∷ rest))) in
      let parts : (z : List Token) → f ++ z ≡ stop.front ++ stop.heavy ∷ (stop.rest ++ z) = λ z. ap (λ y. y ++ z) stop.is ∙ append_assoc stop.front (stop.heavy ∷ stop.rest) z in
      let over : reading m (stop.front ++ stop.heavy ∷ (stop.rest ++ g)) ≡ Err (Over (stop.heavy ∷ (stop.rest ++ g))) =
      ap (reading m) (sym (parts g)) ∙ text_reads (f ++ g) tree s m (omega arith) ∙ stop.over in
      never (n + m) (omega arith) stop.front stop.rest stop.heavy stop.is
      (ap (reading (n + m)) (parts h) ∙ over_again m (n + m) (omega arith) stop.front (stop.rest ++ g) (stop.rest ++ h) stop.heavy over)

  -- ---- the list

  module _ (n : ℕ) (list : List Token) (closed : EndsAtEnd list) (enough : length list < n) where
    -- no classes are all of it
    not_all : (f w : List Token) (tree : TextTree) → list ≡ f ++ [] → AllClasses (f ++ w) tree → ⊥
    not_all f w tree is s =
        let e : f ++ w ≡ closed.0 ++ closed.1 ∷ w = ap (λ z. z ++ w) (sym (append_nil f) ∙ sym is ∙ closed.2) ∙ append_assoc closed.0 (closed.1 ∷ []) w in
        classes_no_end s closed.0 closed.1 w e closed.3

    -- classes and their end are shallow, where they were read
    shallow_text : (f rest : List Token) (t : Token) (tree : TextTree) → AllClasses f tree → t.kind ≡ k.End → reading n (f ++ t ∷ rest) ≡ Ok (tree, t ∷ rest) → IsShallow (f ++ t ∷ [])
    shallow_text f rest t tree s end is =
        shallow_by n (f ++ t ∷ []) [] rest tree (record { front = f; last = t; is = append_nil (f ++ t ∷ []); ends = end; classes = s })
        (λ m le a c u split over.
        let same : reading m ((f ++ t ∷ []) ++ rest) ≡ Ok (tree, t ∷ rest) = ap (reading m) (append_assoc f (t ∷ []) rest) ∙ left_again n m le f rest rest t tree is in
        let both : ◌≡◌ {A = ParseOutcome TextTree} (Ok (tree, t ∷ rest)) (Err (Over (u ∷ (c ++ rest)))) = sym same ∙ over in cc)

    -- a text with a token behind it begins no text
    no_text : (f more rest : List Token) (t u : Token) (tree : TextTree) → t.kind ≡ k.End → Spells (((f ++ t ∷ []) ++ u ∷ []) ++ more) tree → ⊥
    no_text f more rest t u tree end s =
        let (c, is) = inside (f ++ t ∷ []) more s.front u s.last (sym (append_assoc (f ++ t ∷ []) (u ∷ []) more) ∙ s.is) in
        classes_no_end s.classes f t c (is ∙ append_assoc f (t ∷ []) c) end

    ok_by : (f r : List Token) (tree : TextTree) → list ≡ f ++ r → AllClasses f tree → next_is k.End r ≡ true → reading n list ≡ Ok (tree, r) → Judged list (ended language_params n tree r)
    ok_by f [] tree e s q is = absurd (not_all f [] tree e (subst (λ z. AllClasses z tree) (sym (append_nil f)) s))
    ok_by f (t ∷ []) tree e s q is =
        let end : t.kind ≡ k.End = end_is t.kind q in record {
          left = omega arith;
          decides = (record { front = f; last = t; is = e; ends = end; classes = s }, subst IsShallow (sym e) (shallow_text f [] t tree s end (ap (reading n) (sym e) ∙ is)));
        }
    ok_by f (t ∷ u ∷ rest) tree e s q is =
        let end : t.kind ≡ k.End = end_is t.kind q in
        let text : BeginsText (f ++ t ∷ []) = ([], tree, record { front = f; last = t; is = append_nil (f ++ t ∷ []); ends = end; classes = s }) in record {
          left = omega arith;
          decides = refused (f ++ t ∷ []) u rest (e ∙ sym (append_assoc f (t ∷ []) (u ∷ rest)))
              (unexpected text (λ b. no_text f b.0 rest t u b.1 end b.2) (shallow_text f (u ∷ rest) t tree s end (ap (reading n) (sym e) ∙ is)));
        }

    refused_by : (f r w : List Token) (tree : TextTree) → list ≡ f ++ r → AllClasses (f ++ w) tree → reading n list ≡ Err (At r) → Judged list (Err (At r))
    refused_by f [] w tree e s is = absurd (not_all f w tree e s)
    refused_by f (t ∷ rest) w tree e s is =
        let at : reading n (f ++ t ∷ rest) ≡ Err (At (t ∷ rest)) = ap (reading n) (sym e) ∙ is in
        let shallow : IsShallow f = shallow_by n f (w ++ last) (t ∷ rest) tree (text_of s (sym (append_assoc f w last))) (λ m le a c u split over.
        let both : ◌≡◌ {A = ParseOutcome TextTree} (Err (At (t ∷ rest))) (Err (Over (u ∷ (c ++ t ∷ rest)))) = sym (refused_again n m le f rest rest t at) ∙ over in cc) in record {
          left = omega arith;
          decides = refused f t rest e (unexpected (begins_text f w tree s) (no_more n f rest t at) shallow);
        }

    over_by : (f rest w : List Token) (t : Token) (tree : TextTree) → list ≡ f ++ t ∷ rest → AllClasses ((f ++ t ∷ []) ++ w) tree
        → reading n list ≡ Err (Over (t ∷ rest)) → Judged list (Err (Over (t ∷ rest)))
    over_by f rest w t tree e s is =
        let at : reading n (f ++ t ∷ rest) ≡ Err (Over (t ∷ rest)) = ap (reading n) (sym e) ∙ is in
        let parts : f ++ t ∷ (w ++ last) ≡ ((f ++ t ∷ []) ++ w) ++ last = sym (append_assoc (f ++ t ∷ []) w last ∙ append_assoc f (t ∷ []) (w ++ last)) in
        let shallow : IsShallow f = shallow_by n f (t ∷ (w ++ last)) (t ∷ rest) tree (text_of s parts) (λ m le a c u split over.
        omega (arith, ap (λ o. length (unread_of o)) (sym (over_again n m le f rest rest t at) ∙ over), length-append c (t ∷ rest))) in record {
          left = omega arith;
          decides = refused f t rest e (too_deep (begins_text (f ++ t ∷ []) w tree s) (deep_by n f rest t at) shallow);
        }

    says_so : (o : ParseOutcome TextTree) → reading n list ≡ o → UpToEnd n list o → Judged list (and_then o (ended language_params n))
    says_so (Ok p) is (f, e, s, q) = ok_by f p.1 p.0 e s q is
    says_so (Err (At r)) is (f, e, (w, tree, s)) = refused_by f r w tree e s is
    says_so (Err (Over r)) is (f, t, rest, e, same, (w, tree, s)) =
        subst (λ z. Judged list (Err (Over z))) (sym same) (over_by f rest w t tree e s (is ∙ ap (λ z. Err (Over z)) same))
    says_so (Err OutOfFuel) is few = absurd (omega (arith, few, enough))

    plain_answers : Judged list (text language_params n list)
    unfolding text
    plain_answers = says_so (reading n list) refl (says n list).says

    answers_as : (o : ParseOutcome TextTree) → text language_params n list ≡ o → Judged list o
    answers_as o is = subst (Judged list) is plain_answers

    -- a tree is that of the list, and no token is too deep
    pub ok_answer : (tree : TextTree) (r : List Token) → text language_params n list ≡ Ok (tree, r) → Spells list tree × IsShallow list
    ok_answer tree r is = (answers_as (Ok (tree, r)) is).decides

    -- some token is left, which is the first that is unexpected
    pub refused_answer : (r : List Token) → text language_params n list ≡ Err (At r) → (0 < length r) × IsGrammarRefusal list (Some (Unexpected, place r))
    refused_answer r is = let j : Judged list (Err (At r)) = answers_as (Err (At r)) is in (j.left, j.decides)

    -- some token is left, which is the first that is too deep
    pub deep_answer : (r : List Token) → text language_params n list ≡ Err (Over r) → (0 < length r) × IsGrammarRefusal list (Some (TooDeep, place r))
    deep_answer r is = let j : Judged list (Err (Over r)) = answers_as (Err (Over r)) is in (j.left, j.decides)

    -- turns suffice
    pub never_spent : text language_params n list ≡ Err OutOfFuel → ⊥
    never_spent is = (answers_as (Err OutOfFuel) is).decides

    refusal_by : (o : ParseOutcome TextTree) → Judged list o → (a : Option (Misfit × Place)) × IsGrammarRefusal list a
    refusal_by (Ok p) j = (None, fits j.decides.0 j.decides.1)
    refusal_by (Err (At r)) j = (Some (Unexpected, place r), j.decides)
    refusal_by (Err (Over r)) j = (Some (TooDeep, place r), j.decides)
    refusal_by (Err OutOfFuel) j = absurd j.decides

    -- the grammar says of each list that it fits, or what is wrong with it
    pub has_refusal : (a : Option (Misfit × Place)) × IsGrammarRefusal list a
    has_refusal = refusal_by (text language_params n list) plain_answers
