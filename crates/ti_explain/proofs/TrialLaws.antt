-- Lemmas on putting a token in the place of another one: what the parser's answer says of the tokens before it.
use Rattle.std.proofs.Common.{◌≡◌, ◌⊎◌, inl, inr, ℕ, ◌<◌, ◌≤◌, ◌+◌, ◌==◌, nat_lt, Bool, true, false, ◌&&◌, if◌then◌else◌, List, [], ◌∷◌, ◌++◌, length, get_or, slice_get, take, map, Option, Some, None, Result, Ok, Err, IfOk, refl, ap, sym, ◌∙◌, subst, true≢false, arith}
use Rattle.std.specs.Bool.{Decides}
use Rattle.std.proofs.lemmas.Bool.Decides.{Decides-or, Decides-and, Decides-eqb, Decides-ltb, Decides-like}
use Rattle.std.proofs.lemmas.Bool.{cases_order}
use Rattle.std.proofs.lemmas.List.{append_assoc, append-nil, length-append, get_or_append_left, map-append, take_more}
use Rattle.std.specs.declared.vec.Vec.{Vec}
use Rattle.std.specs.declared.alloc.Global.{Global}
use Rattle.ti_base.specs.declared.memory.Memory.{Memory}
use Rattle.std.proofs.Math.Seq.{get_or-append_seam, take-append_seam, take-append-add}
use Rattle.std.proofs.lemmas.Option.{slice_get_read, slice_get_within, get_or_from_slice_get, same_Some}
use Rattle.ti_base.specs.declared.place.Place.{Place}
use Rattle.ti_base.specs.Places.{place_of, place_before, same_place}
use Rattle.ti_syntax.specs.declared.token.Token.{Token}
use Rattle.ti_syntax.specs.declared.token.TokenKind.{TokenKind}
use Rattle.ti_syntax.specs.declared.token.TokenKind.TheVariants as k
use Rattle.ti_syntax.specs.Tokenizing.{IsTokenized}
use Rattle.ti_syntax.specs.Trees.Classes.{TextTree}
use Rattle.ti_syntax.specs.Spelling.{Spells, BeginsText, IsShallow, Misfit, Unexpected, TooDeep, ShowsMisfit, unexpected, too_deep, IsGrammarRefusal, refused}
use Rattle.ti_rules.specs.declared.refusal.Refusal.{Refusal}
use Rattle.ti_rules.specs.LexicalRefusals.{most_bytes}
use Rattle.ti_parse_expr.specs.Answers.{EndsAtEnd}
use Rattle.ti_parse_expr.specs.declared.error.ParseErr.TheVariants as parser
use Rattle.ti_parse.specs.Answer.{Parsed}
use Rattle.ti_explain.specs.declared.reason.RefusalReason.{RefusalReason}
use Rattle.ti_explain.specs.DepthReasons.{depth_reasons, AreTooDeepReasons}
use Rattle.ti_explain.specs.Expected.{CanFollow, expected_reason, AreExpected, can_stand, cannot_stand, end_reason, IsEndExpected, can_end, cannot_end, token_texts, AreUnexpectedReasons}
use Rattle.ti_explain.specs.Mirrors.Trials.{zero_place, IsOnly, IsKindOf, IsFront, IsTrial, moves_on, BeginsIf, Tries, TriesEnd, AreTokens, AreInOrder, IsFirstAt}

-- ---- lists

head_or : Token → List Token → Token
head_or d [] = d
head_or d (x ∷ l) = x

tail_of : List Token → List Token
tail_of [] = []
tail_of (x ∷ l) = l

same_head : (x y : Token) (l m : List Token) → x ∷ l ≡ y ∷ m → x ≡ y
unfolding head_or
same_head x y l m e = ap (head_or x) e

same_tail : (x y : Token) (l m : List Token) → x ∷ l ≡ y ∷ m → l ≡ m
unfolding tail_of
same_tail x y l m e = ap tail_of e

not_empty : (l m : List Token) (x : Token) → l ++ x ∷ m ≡ [] → ⊥
not_empty l m x e = omega (arith, length-append l (x ∷ m), ap length e)

-- where a token stands in a list of tokens that ends with two
pub data Stands (x : Token) (front : List Token) (t end : Token) (before : List Token) : Type 0 where
  in_front : (more : List Token) → front ≡ before ++ x ∷ more → Stands x front t end before
  at_trial : before ≡ front → x ≡ t → Stands x front t end before
  at_end : before ≡ front ++ t ∷ [] → x ≡ end → Stands x front t end before

behind : (b f x t end : Token) (bs fs : List Token) → b ≡ f → Stands x fs t end bs → Stands x (f ∷ fs) t end (b ∷ bs)
behind b f x t end bs fs same (in_front more e) = in_front more (ap (λ l. f ∷ l) e ∙ ap (λ h. h ∷ (bs ++ x ∷ more)) (sym same))
behind b f x t end bs fs same (at_trial e is) = at_trial (ap (λ l. b ∷ l) e ∙ ap (λ h. h ∷ fs) same) is
behind b f x t end bs fs same (at_end e is) = at_end (ap (λ l. b ∷ l) e ∙ ap (λ h. h ∷ (fs ++ t ∷ [])) same) is

pub stands : (before front rest : List Token) (x t end : Token) → before ++ x ∷ rest ≡ front ++ (t ∷ end ∷ []) → Stands x front t end before
stands [] [] rest x t end e = at_trial refl (same_head x t rest (end ∷ []) e)
stands [] (f ∷ fs) rest x t end e = in_front fs (ap (λ h. h ∷ fs) (sym (same_head x f rest (fs ++ (t ∷ end ∷ [])) e)))
stands (b ∷ []) [] rest x t end e =
    at_end (ap (λ h. h ∷ []) (same_head b t (x ∷ rest) (end ∷ []) e)) (same_head x end rest [] (same_tail b t (x ∷ rest) (end ∷ []) e))
stands (b ∷ (a ∷ bs)) [] rest x t end e =
    absurd (not_empty bs rest x (same_tail a end (bs ++ x ∷ rest) [] (same_tail b t (a ∷ (bs ++ x ∷ rest)) (end ∷ []) e)))
stands (b ∷ bs) (f ∷ fs) rest x t end e =
    behind b f x t end bs fs (same_head b f (bs ++ x ∷ rest) (fs ++ (t ∷ end ∷ [])) e)
    (stands bs fs rest x t end (same_tail b f (bs ++ x ∷ rest) (fs ++ (t ∷ end ∷ [])) e))

-- the token behind some others
pub seam : (front rest : List Token) (t : Token) → slice_get (front ++ t ∷ rest) (length front) ≡ Some t
seam front rest t =
    slice_get_read (front ++ t ∷ rest) (length (front ++ t ∷ rest)) (length front) t refl (omega (arith, length-append front (t ∷ rest)))
    (sym (get_or-append_seam front t rest t))

-- ---- beginnings of programs

shorter : (front more : List Token) → BeginsText (front ++ more) → BeginsText front
shorter front more (rest, tree, spells) = (more ++ rest, tree, subst (λ l. Spells l tree) (append_assoc front more rest) spells)

-- before a token that stands in the front, less begins a program
before_front : (front before more : List Token) (x t : Token) → front ≡ before ++ x ∷ more → BeginsText (front ++ t ∷ []) → BeginsText (before ++ x ∷ [])
before_front front before more x t e begins =
    shorter (before ++ x ∷ []) (more ++ t ∷ [])
    (subst BeginsText (ap (λ l. l ++ t ∷ []) e ∙ append_assoc before (x ∷ more) (t ∷ []) ∙ sym (append_assoc before (x ∷ []) (more ++ t ∷ []))) begins)

-- the parts of a refusal
pub refused_parts : (list : List Token) (misfit : Misfit) (place : Place) → IsGrammarRefusal list (Some (misfit, place))
    → (front : List Token) × (t : Token) × (rest : List Token) × (list ≡ front ++ t ∷ rest) × ShowsMisfit misfit front t × (t.place ≡ place)
refused_parts list misfit place (refused front t rest is shows) = (front, t, rest, is, shows, refl)

-- ---- what the parser says of a trial

-- it has a tree
pub parsed_begins : (front : List Token) (t : Token) (tokens : List Token) (tree : TextTree) → IsTrial front t tokens → Spells tokens tree → BeginsText (front ++ t ∷ [])
parsed_begins front t tokens tree trial spells =
    (trial.end ∷ [], tree, subst (λ l. Spells l tree) (trial.is ∙ sym (append_assoc front (t ∷ []) (trial.end ∷ []))) spells)

-- the front has no token that is nowhere
not_in_front : (front before more : List Token) (x : Token) → IsFront front → front ≡ before ++ x ∷ more → x.place ≡ zero_place → ⊥
not_in_front front before more x is_front e at =
    is_front.somewhere (length before) x (ap (λ l. slice_get l (length before)) e ∙ seam before more x) at

-- a token nowhere doesn't fit: it is the end
pub end_refused : (front : List Token) (t : Token) (tokens : List Token) → IsTrial front t tokens → IsGrammarRefusal tokens (Some (Unexpected, zero_place)) → BeginsText (front ++ t ∷ [])
end_refused front t tokens trial is = by (refused_parts tokens Unexpected zero_place is)
  where
    at : (before : List Token) (x : Token) → ShowsMisfit Unexpected before x → x.place ≡ zero_place → Stands x front t trial.end before → BeginsText (front ++ t ∷ [])
    at before x shows place (in_front more e) = absurd (not_in_front front before more x trial.is_front e place)
    at before x shows place (at_trial e same) = absurd (trial.placed (ap (λ (z : Token). z.place) (sym same) ∙ place))
    at before x (unexpected begins not shallow) place (at_end e same) = subst BeginsText e begins

    by : (before : List Token) × (x : Token) × (rest : List Token) × (tokens ≡ before ++ x ∷ rest) × ShowsMisfit Unexpected before x × (x.place ≡ zero_place) → BeginsText (front ++ t ∷ [])
    by (before, x, rest, split, shows, place) = at before x shows place (stands before front rest x t trial.end (sym split ∙ trial.is))

-- a token elsewhere doesn't fit
pub trial_refused : (front : List Token) (t : Token) (tokens : List Token) (place : Place) → IsTrial front t tokens → IsGrammarRefusal tokens (Some (Unexpected, place))
    → (place ≡ zero_place → ⊥) → BeginsText (front ++ t ∷ []) → ⊥
trial_refused front t tokens place trial is elsewhere begins = by (refused_parts tokens Unexpected place is)
  where
    at : (before : List Token) (x : Token) → ShowsMisfit Unexpected before x → x.place ≡ place → Stands x front t trial.end before → ⊥
    at before x (unexpected some none shallow) here (in_front more e) = none (before_front front before more x t e begins)
    at before x (unexpected some none shallow) here (at_trial e same) =
        none (subst (λ l. BeginsText (l ++ x ∷ [])) (sym e) (subst (λ z. BeginsText (front ++ z ∷ [])) (sym same) begins))
    at before x shows here (at_end e same) = elsewhere (sym here ∙ ap (λ (z : Token). z.place) same ∙ trial.at_end)

    by : (before : List Token) × (x : Token) × (rest : List Token) × (tokens ≡ before ++ x ∷ rest) × ShowsMisfit Unexpected before x × (x.place ≡ place) → ⊥
    by (before, x, rest, split, shows, here) = at before x shows here (stands before front rest x t trial.end (sym split ∙ trial.is))

-- a token is too deep: it isn't in the front
pub deep_refused : (front : List Token) (t : Token) (tokens : List Token) (place : Place) → IsTrial front t tokens → IsGrammarRefusal tokens (Some (TooDeep, place)) → BeginsText (front ++ t ∷ [])
deep_refused front t tokens place trial is = by (refused_parts tokens TooDeep place is)
  where
    at : (before : List Token) (x : Token) → ShowsMisfit TooDeep before x → Stands x front t trial.end before → BeginsText (front ++ t ∷ [])
    at before x (too_deep begins deep shallow) (in_front more e) = absurd (trial.is_front.shallow before x more e deep)
    at before x (too_deep begins deep shallow) (at_trial e same) =
        subst (λ z. BeginsText (front ++ z ∷ [])) same (subst (λ l. BeginsText (l ++ x ∷ [])) e begins)
    at before x (too_deep begins deep shallow) (at_end e same) = subst BeginsText e (shorter before (x ∷ []) begins)

    by : (before : List Token) × (x : Token) × (rest : List Token) × (tokens ≡ before ++ x ∷ rest) × ShowsMisfit TooDeep before x × (x.place ≡ place) → BeginsText (front ++ t ∷ [])
    by (before, x, rest, split, shows, here) = at before x shows (stands before front rest x t trial.end (sym split ∙ trial.is))

-- ---- the place of a token

place_parts : (p q : Place) → p.line ≡ q.line → p.col ≡ q.col → p ≡ q
place_parts p q line col = ap (λ (x : ℕ). record p { line = x }) line ∙ ap (λ (y : ℕ). record q { col = y }) col

pub place_same : (p q : Place) → Decides (same_place p q) (p ≡ q)
place_same p q =
    Decides-like (same_place p q) (λ e. place_parts p q e.0 e.1) (λ e. (ap (λ (z : Place). z.line) e, ap (λ (z : Place). z.col) e))
    (Decides-and (p.line == q.line) (p.col == q.col) (Decides-eqb p.line q.line) (Decides-eqb p.col q.col))

-- ---- one text

-- what the parser's answers say, by the test
pub refusal_begins : (tokens : List Token) (r : Refusal) → Parsed tokens (Err (parser.Refused r)) → BeginsIf tokens (moves_on r.rule r.place)
refusal_begins tokens r (TooDeep, rule, is) =
    subst (λ x. BeginsIf tokens (moves_on x r.place)) (sym rule) (λ front t trial. deep_refused front t tokens r.place trial is)
refusal_begins tokens r (Unexpected, rule, is) =
    subst (λ x. BeginsIf tokens (moves_on x r.place)) (sym rule) (by (same_place r.place zero_place) refl)
  where
    by : (b : Bool) → same_place r.place zero_place ≡ b → BeginsIf tokens b
    by true at = λ front t trial. end_refused front t tokens trial (subst (λ p. IsGrammarRefusal tokens (Some (Unexpected, p))) ((place_same r.place zero_place).0 at) is)
    by false at = λ front t trial. trial_refused front t tokens r.place trial is (λ here. true≢false (sym ((place_same r.place zero_place).1 here) ∙ at))

pub tree_begins : (tokens : List Token) (tree : TextTree) → Spells tokens tree → BeginsIf tokens true
tree_begins tokens tree spells = λ front t trial. parsed_begins front t tokens tree trial spells

-- the kind of the token that a text is
pub kind_then : ((text : List ℕ) (a b : List Token) → IsTokenized text a → IsTokenized text b → a ≡ b) → (text : List ℕ) (tokens : List Token) → length text ≤ most_bytes → IsTokenized text tokens
    → (o : Option TokenKind) → IsOnly tokens o → IsKindOf text o
kind_then one text tokens short is None never = λ t has. never t has.0 (one text tokens (t ∷ has.0 ∷ []) is has.1.tokenized)
kind_then one text tokens short is (Some kind) (t, end, same, own) = (t, (end, record { short = short; tokenized = subst (IsTokenized text) same is }), own)

-- one text, for which the parser was asked
pub tried_then : ((text : List ℕ) (a b : List Token) → IsTokenized text a → IsTokenized text b → a ≡ b) → (front : List Token) (at : Place) (text : List ℕ) (kind : TokenKind)
    (tokens : List Token) (b : Bool) (before after : List RefusalReason) → IsFront front → (at ≡ zero_place → ⊥) → IsKindOf text (Some kind)
    → tokens ≡ front ++ (record { kind = kind; place = at } ∷ record { kind = k.End; place = zero_place } ∷ []) → BeginsIf tokens b
    → after ≡ (if b then before ++ expected_reason at text ∷ [] else before) → Tries front at text before after
tried_then one front at text kind tokens true before after is_front placed (t, is_token, own) same begins is =
    inl (
      (
        t,
        is_token,
        subst (λ z. BeginsText (front ++ record { kind = z; place = at } ∷ [])) (sym own)
            (begins front (record { kind = kind; place = at })
            (record { is_front = is_front; placed = placed; end = record { kind = k.End; place = zero_place }; at_end = refl; is = same })),
      ),
      is,
    )
tried_then one front at text kind tokens false before after is_front placed (t, is_token, own) same begins is = inr (never, is)
  where
    never : CanFollow front at text → ⊥
    never (u, other, some) =
        let alike : u ≡ t = same_head u t (other.0 ∷ []) (is_token.0 ∷ []) (one text (u ∷ other.0 ∷ []) (t ∷ is_token.0 ∷ []) other.1.tokenized is_token.1.tokenized) in
        begins front (record { kind = kind; place = at })
        (record { is_front = is_front; placed = placed; end = record { kind = k.End; place = zero_place }; at_end = refl; is = same })
        (subst (λ z. BeginsText (front ++ record { kind = z; place = at } ∷ [])) (ap (λ (z : Token). z.kind) alike ∙ own) some)

pub no_token : (front : List Token) (at : Place) (text : List ℕ) (before : List RefusalReason) → IsKindOf text None → Tries front at text before before
no_token front at text before never = inr (λ can. never can.0 can.1, refl)

-- the list of a trial ends with End
pub trial_ends : (front : List Token) (t : Token) (tokens : List Token) → tokens ≡ front ++ (t ∷ record { kind = k.End; place = zero_place } ∷ []) → EndsAtEnd tokens
trial_ends front t tokens is =
    (front ++ t ∷ [], record { kind = k.End; place = zero_place }, is ∙ sym (append_assoc front (t ∷ []) (record { kind = k.End; place = zero_place } ∷ [])), refl)

-- one text more
pub one_text_more : (front : List Token) (at : Place) (texts : List (List ℕ)) (text : List ℕ) (before after : List RefusalReason) → AreExpected front at texts before → Tries front at text before after
    → AreExpected front at (texts ++ text ∷ []) after
one_text_more front at texts text before after so_far (inl (can, is)) = subst (AreExpected front at (texts ++ text ∷ [])) (sym is) (can_stand text so_far can)
one_text_more front at texts text before after so_far (inr (never, is)) = subst (AreExpected front at (texts ++ text ∷ [])) (sym is) (cannot_stand text so_far never)

-- ---- the end

-- the end, for which the parser was asked
end_then : (front : List Token) (at : Place) (tokens : List Token) (b : Bool) (before after : List RefusalReason) → IsFront front → (at ≡ zero_place → ⊥)
    → tokens ≡ front ++ (record { kind = k.End; place = at } ∷ record { kind = k.End; place = zero_place } ∷ []) → BeginsIf tokens b
    → after ≡ (if b then before ++ end_reason at ∷ [] else before) → TriesEnd front at before after
end_then front at tokens true before after is_front placed same begins is = (
  end_reason at ∷ [],
  can_end
      (begins front (record { kind = k.End; place = at })
      (record { is_front = is_front; placed = placed; end = record { kind = k.End; place = zero_place }; at_end = refl; is = same })),
  is,
)
end_then front at tokens false before after is_front placed same begins is = (
  [],
  cannot_end
      (begins front (record { kind = k.End; place = at })
      (record { is_front = is_front; placed = placed; end = record { kind = k.End; place = zero_place }; at_end = refl; is = same })),
  is ∙ sym (append-nil before),
)

pub ended_then : (front : List Token) (at : Place) (tokens : List Token) (b : Bool) (before : List RefusalReason) (o : Result (Vec RefusalReason Global) Memory) → IsFront front
    → (at ≡ zero_place → ⊥) → tokens ≡ front ++ (record { kind = k.End; place = at } ∷ record { kind = k.End; place = zero_place } ∷ []) → BeginsIf tokens b
    → IfOk o (λ v. v.items ≡ (if b then before ++ end_reason at ∷ [] else before)) → IfOk o (λ v. TriesEnd front at before v.items)
ended_then front at tokens b before (Ok v) is_front placed same begins is = end_then front at tokens b before v.items is_front placed same begins is
ended_then front at tokens b before (Err e) is_front placed same begins is = is

-- ---- the token that is refused

-- what is known of the token that is refused
pub record Refused (misfit : Misfit) (tokens : List Token) (at : Place) : Type 0 where
  pub front : List Token
  pub here : Token
  pub rest : List Token
  pub is : tokens ≡ front ++ here ∷ rest
  pub shows : ShowsMisfit misfit front here
  pub at_place : here.place ≡ at

pub refused_there : (misfit : Misfit) (tokens : List Token) (at : Place) → IsGrammarRefusal tokens (Some (misfit, at)) → Refused misfit tokens at
refused_there misfit tokens at is = of_parts (refused_parts tokens misfit at is)
  where
    of_parts : (front : List Token) × (t : Token) × (rest : List Token) × (tokens ≡ front ++ t ∷ rest) × ShowsMisfit misfit front t × (t.place ≡ at) → Refused misfit tokens at
    of_parts (front, t, rest, same, shows, place) = record { front = front; here = t; rest = rest; is = same; shows = shows; at_place = place }

there : (misfit : Misfit) (tokens : List Token) (at : Place) (r : Refused misfit tokens at) → slice_get tokens (length r.front) ≡ Some r.here
there misfit tokens at r = ap (λ l. slice_get l (length r.front)) r.is ∙ seam r.front r.rest r.here

pub not_nothing : (misfit : Misfit) (tokens : List Token) (at : Place) → Refused misfit tokens at → IsFirstAt tokens at None → ⊥
not_nothing misfit tokens at r never = never (length r.front) r.here (there misfit tokens at r) r.at_place

-- ---- the positions of tokens

before_itself : (p : Place) → place_before p p ≡ true → ⊥
before_itself p is = never ((decides p).0 is)
  where
    decides : (p : Place) → Decides (place_before p p) ((p.line < p.line) ⊎ ((p.line ≡ p.line) × (p.col < p.col)))
    decides p =
        Decides-or (nat_lt p.line p.line) ((p.line == p.line) && nat_lt p.col p.col) (Decides-ltb p.line p.line)
        (Decides-and (p.line == p.line) (nat_lt p.col p.col) (Decides-eqb p.line p.line) (Decides-ltb p.col p.col))

    never : (p.line < p.line) ⊎ ((p.line ≡ p.line) × (p.col < p.col)) → ⊥
    never (inl lt) = omega arith
    never (inr (same, lt)) = omega arith

-- positions of a text aren't nowhere
pub in_order : (text : List ℕ) (tokens : List Token) → ((i : ℕ) (t : Token) → slice_get tokens i ≡ Some t → (k : ℕ) × (k ≤ length text) × (t.place ≡ place_of text k))
    → ((i j : ℕ) (t u : Token) → i < j → slice_get tokens i ≡ Some t → slice_get tokens j ≡ Some u → place_before t.place u.place ≡ true) → AreInOrder tokens
in_order text tokens placed rise = record {
  rise = rise;
  somewhere = λ i t here is. nowhere t (placed i t here) is;
}
  where
    nowhere : (t : Token) → (k : ℕ) × (k ≤ length text) × (t.place ≡ place_of text k) → t.place ≡ zero_place → ⊥
    nowhere t (k, within, place) is = let line = ap (λ (p : Place). p.line) (sym is ∙ place) in omega (arith, line)

-- tokens at one position are one token
one_there : (tokens : List Token) → AreInOrder tokens → (i j : ℕ) (t u : Token) → slice_get tokens i ≡ Some t → slice_get tokens j ≡ Some u → t.place ≡ u.place → i ≡ j
one_there tokens order i j t u first second same =
    elim (cases_order i j) [
      | inl is ↦ is
      | inr other ↦
          elim other [
            | inl less ↦ absurd (before_itself u.place (subst (λ p. place_before p u.place ≡ true) same (order.rise i j t u less first second)))
            | inr more ↦ absurd (before_itself u.place (subst (λ p. place_before u.place p ≡ true) same (order.rise j i u t more second first)))
          ]
    ]

is_shallow : (misfit : Misfit) (front : List Token) (t : Token) → ShowsMisfit misfit front t → IsShallow front
is_shallow misfit front t (unexpected some none shallow) = shallow
is_shallow misfit front t (too_deep some deep shallow) = shallow

-- what is known of the tokens before the one that is refused
pub record Before (misfit : Misfit) (tokens : List Token) (at : Place) (index : ℕ) (r : Refused misfit tokens at) : Type 0 where
  pub within : index ≤ length tokens
  pub is_front : IsFront (take index tokens)
  pub placed : at ≡ zero_place → ⊥
  pub same : take index tokens ≡ r.front
  pub number : length r.front ≡ index
  pub there : slice_get tokens index ≡ Some r.here

pub before : (misfit : Misfit) (tokens : List Token) (at : Place) (index : ℕ) (r : Refused misfit tokens at) → AreInOrder tokens
    → IsFirstAt tokens at (Some index) → Before misfit tokens at index r
before misfit tokens at index r order (t, here, place) =
    let is : length r.front ≡ index = one_there tokens order (length r.front) index r.here t (there misfit tokens at r) here (r.at_place ∙ sym place) in
    let same : take index tokens ≡ r.front = ap (λ n. take n tokens) (sym is) ∙ ap (take (length r.front)) r.is ∙ take-append_seam r.front (r.here ∷ r.rest) in
    record {
      within = omega (arith, slice_get_within tokens (length r.front) r.here (there misfit tokens at r), is);
      is_front = subst IsFront (sym same) (record {
        shallow = is_shallow misfit r.front r.here r.shows;
        somewhere = λ k t is. order.somewhere k t (ap (λ l. slice_get l k) r.is ∙ in_first r.front (r.here ∷ r.rest) k t is);
      });
      placed = λ nowhere. order.somewhere (length r.front) r.here (there misfit tokens at r) (r.at_place ∙ nowhere);
      same = same;
      number = is;
      there = ap (slice_get tokens) (sym is) ∙ there misfit tokens at r;
    }
  where
    in_first : (xs ys : List Token) (k : ℕ) (t : Token) → slice_get xs k ≡ Some t → slice_get (xs ++ ys) k ≡ Some t
    in_first xs ys k t is =
        let lt = slice_get_within xs k t is in
        slice_get_read (xs ++ ys) (length (xs ++ ys)) k t refl (omega (arith, lt, length-append xs ys))
        (sym (get_or_append_left xs ys t k lt ∙ get_or_from_slice_get xs k t t is))

-- the same, from what is known of the position and of the number
pub known_before : (misfit : Misfit) (tokens : List Token) (at : Place) (index : ℕ) → AreTokens tokens
    → ((text : List ℕ) (list : List Token) → IsTokenized text list → (i : ℕ) (t : Token) → slice_get list i ≡ Some t → (k : ℕ) × (k ≤ length text) × (t.place ≡ place_of text k))
    → ((text : List ℕ) (list : List Token) → IsTokenized text list → (i j : ℕ) (t u : Token) → i < j → slice_get list i ≡ Some t → slice_get list j ≡ Some u
    → place_before t.place u.place ≡ true)
    → IsGrammarRefusal tokens (Some (misfit, at)) → IsFirstAt tokens at (Some index) → (r : Refused misfit tokens at) × Before misfit tokens at index r
known_before misfit tokens at index (text, has) placed rise refusal first =
    let r = refused_there misfit tokens at refusal in
    (r, before misfit tokens at index r (in_order text tokens (placed text tokens has.tokenized) (rise text tokens has.tokenized)) first)

-- all texts and the end
pub tried_then_all : (tokens : List Token) (at : Place) (index : ℕ) (texts : List (List ℕ)) (found : List RefusalReason) (o : Result (Vec RefusalReason Global) Memory)
    (r : Refused Unexpected tokens at) → Before Unexpected tokens at index r → texts ≡ token_texts → AreExpected (take index tokens) at texts found
    → IfOk o (λ v. TriesEnd (take index tokens) at found v.items) → IfOk o (λ v. AreUnexpectedReasons tokens at v.items)
tried_then_all tokens at index texts found (Ok v) r b is expected (end, end_expected, all) = record {
  front = r.front;
  here = r.here;
  rest = r.rest;
  is = r.is;
  place = r.at_place;
  misfit = r.shows;
  texts = found;
  end = end;
  expected = subst (λ l. AreExpected l at token_texts found) b.same (subst (λ l. AreExpected (take index tokens) at l found) is expected);
  end_expected = subst (λ l. IsEndExpected l at end) b.same end_expected;
  all = all;
}
tried_then_all tokens at index texts found (Err e) r b is expected ended = ended

-- the texts up to one more
pub texts_more : {X : Type 0} (f : X → List ℕ) (words : List X) (i : ℕ) (d : X) → i < length words → map f (take (i + 1) words) ≡ map f (take i words) ++ f (get_or words i d) ∷ []
texts_more f words i d lt = ap (map f) (take_more words i d lt) ∙ map-append f (take i words) (get_or words i d ∷ [])

pub text_step : {X : Type 0} (f : X → List ℕ) (words : List X) (i : ℕ) (d : X) (front other : List Token) (at : Place) (before after : List RefusalReason) → i < length words → other ≡ front
    → AreExpected front at (map f (take i words)) before → Tries other at (f (get_or words i d)) before after → AreExpected front at (map f (take (i + 1) words)) after
text_step f words i d front other at before after lt same so_far step =
    subst (λ l. AreExpected front at l after) (sym (texts_more f words i d lt))
    (one_text_more front at (map f (take i words)) (f (get_or words i d)) before after so_far
    (subst (λ l. Tries l at (f (get_or words i d)) before after) same step))

-- ---- a token that is too deep

-- the reasons for the tokens up to one that is too deep are those for the refusal
pub depth_then : (tokens : List Token) (at : Place) (index : ℕ) (here default : Token) (o : Result (Vec RefusalReason Global) Memory) (r : Refused TooDeep tokens at)
    → Before TooDeep tokens at index r → here ≡ get_or tokens index default
    → IfOk o (λ v. v.items ≡ depth_reasons here.kind (take (index + 1) tokens)) → IfOk o (λ v. AreTooDeepReasons tokens at v.items)
depth_then tokens at index here default (Err e) r b found is = is
depth_then tokens at index here default (Ok v) r b found is = record {
  front = r.front;
  here = r.here;
  rest = r.rest;
  is = r.is;
  place = r.at_place;
  misfit = r.shows;
  all = is ∙ ap (λ (t : Token). depth_reasons t.kind (take (index + 1) tokens)) (found ∙ get_or_from_slice_get tokens index r.here default b.there) ∙ ap (depth_reasons r.here.kind) upto;
}
  where
    upto : take (index + 1) tokens ≡ r.front ++ r.here ∷ []
    upto = ap (λ n. take (n + 1) tokens) (sym b.number) ∙ ap (take (length r.front + 1)) r.is ∙ take-append-add r.front (r.here ∷ r.rest) 1
