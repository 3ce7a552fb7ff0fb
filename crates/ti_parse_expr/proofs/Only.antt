-- A token list is proved to have one result: one tree, or one error.
use Rattle.std.proofs.Common.{◌≡◌, ◌⊎◌, inl, inr, ℕ, ◌+◌, ◌<◌, ◌≤◌, List, [], ◌∷◌, ◌++◌, length, drop, Result, Ok, Err, refl, sym, ap, ◌∙◌, subst, append_assoc, arith}
use Rattle.ti_base.specs.declared.place.Place.{Place}
use Rattle.ti_syntax.specs.declared.token.Token.{Token}
use Rattle.ti_syntax.specs.declared.tree.exprs.Expr.{Expr}
use Rattle.ti_syntax.specs.Trees.Expressions.{Exp}
use Rattle.ti_syntax.specs.Trees.Views.{exp_of}
use Rattle.ti_syntax.specs.Spelling.{most_weight}
use Rattle.ti_syntax.specs.Spelling.Weights.{weigh}
use Rattle.ti_rules.specs.declared.rule.Rule.{Rule}
use Rattle.ti_rules.specs.declared.rule.Rule.TheVariants.{G1, G2}
use Rattle.ti_rules.specs.declared.refusal.Refusal.{Refusal}
use Rattle.ti_parse_expr.specs.declared.parse.Form.{Form}
use Rattle.ti_parse_expr.specs.declared.error.ParseErr.{ParseErr}
use Rattle.ti_parse_expr.specs.declared.error.ParseErr.TheVariants.{Refused, Memory}
use Rattle.ti_parse_expr.specs.Answers.{Phrase, BeginsPhrase, IsViableRun, IsLight, IsPhrase, IsNoPhrase, IsTooHeavy, IsParseError, Answers, GivesOnly, RefusesOnly}
use Rattle.ti_parse_expr.proofs.Apart.{Apart, apart}

-- a front of what begins a phrase begins one
begun_front : (f : Form) (run a : List Token) (t : Token) (v : List Token) → run ≡ a ++ t ∷ v → BeginsPhrase f run → BeginsPhrase f (a ++ t ∷ [])
begun_front f run a t v is (more, x, s) =
    let e : run ++ more ≡ (a ++ t ∷ []) ++ (v ++ more) = ap (λ z. z ++ more) is ∙ append_assoc a (t ∷ v) more ∙ sym (append_assoc a (t ∷ []) (v ++ more)) in
    (v ++ more, x, subst (λ z. Phrase f z x) e s)

module _ (f : Form) (weight : ℕ) (list : List Token) where
  -- ---- the longest front

  abbrev Begun : List Token → Type 0
  Begun l = BeginsPhrase f l

  same_run_by : (r r2 : List Token) (a a2 : Token) (h : IsViableRun f list r a) (h2 : IsViableRun f list r2 a2) → Apart r (a ∷ h.rest) r2 a2 h2.rest → (r ≡ r2) × (a ≡ a2)
  same_run_by r r2 a a2 h h2 (inl (u, v, is, more)) =
      let head : a ≡ u = cc in
      absurd (h.longest (subst (λ z. Begun (r ++ z ∷ [])) (sym head) (begun_front f r2 r u v more h2.begins)))
  same_run_by r r2 a a2 h h2 (inr (inl (same, tails))) = let head : a ≡ a2 = cc in (same, head)
  same_run_by r r2 a a2 h h2 (inr (inr (v, longer))) = absurd (h2.longest (begun_front f r r2 a2 v longer h.begins))

  pub same_run : (r r2 : List Token) (a a2 : Token) → IsViableRun f list r a → IsViableRun f list r2 a2 → (r ≡ r2) × (a ≡ a2)
  same_run r r2 a a2 h h2 = same_run_by r r2 a a2 h h2 (apart r (a ∷ h.rest) r2 a2 h2.rest (sym h.is ∙ h2.is))

  -- ---- tokens that weigh too much

  not_heavy_by : (r : List Token) (a : Token) (h : IsViableRun f list r a) → IsLight weight r → (p : Place) (q : IsTooHeavy f weight list p) → Apart r (a ∷ h.rest) q.front q.heavy q.rest → ⊥
  not_heavy_by r a h light p q (inl (u, v, is, more)) =
      let head : a ≡ u = cc in
      let e : q.front ++ q.heavy ∷ [] ≡ r ++ u ∷ (v ++ q.heavy ∷ []) = ap (λ z. z ++ q.heavy ∷ []) more ∙ append_assoc r (u ∷ v) (q.heavy ∷ []) in
      h.longest (subst (λ z. Begun (r ++ z ∷ [])) (sym head) (begun_front f (q.front ++ q.heavy ∷ []) r u (v ++ q.heavy ∷ []) e q.begins))
  not_heavy_by r a h light p q (inr (inl (same, tails))) =
      let head : a ≡ q.heavy = cc in
      h.longest (subst (λ z. Begun (r ++ z ∷ [])) (sym head) (subst (λ z. Begun (z ++ q.heavy ∷ [])) (sym same) q.begins))
  not_heavy_by r a h light p q (inr (inr (v, longer))) = omega (arith, light q.front q.heavy v longer, q.above)

  not_heavy : (r : List Token) (a : Token) → IsViableRun f list r a → IsLight weight r → (p : Place) → IsTooHeavy f weight list p → ⊥
  not_heavy r a h light p q = not_heavy_by r a h light p q (apart r (a ∷ h.rest) q.front q.heavy q.rest (sym h.is ∙ q.is))

  one_heavy_by : (p p2 : Place) (q : IsTooHeavy f weight list p) (q2 : IsTooHeavy f weight list p2) → Apart q.front (q.heavy ∷ q.rest) q2.front q2.heavy q2.rest → p ≡ p2
  one_heavy_by p p2 q q2 (inl (u, v, is, more)) =
      let head : q.heavy ≡ u = cc in
      let light : weight + weigh (q.front ++ q.heavy ∷ []) ≤ most_weight = subst (λ z. weight + weigh (q.front ++ z ∷ []) ≤ most_weight) (sym head) (q2.light q.front u v more) in
      absurd (omega (arith, light, q.above))
  one_heavy_by p p2 q q2 (inr (inl (same, tails))) = let head : q.heavy ≡ q2.heavy = cc in sym q.at ∙ ap (λ (t : Token). t.place) head ∙ q2.at
  one_heavy_by p p2 q q2 (inr (inr (v, longer))) = absurd (omega (arith, q.light q2.front q2.heavy v longer, q2.above))

  one_heavy : (p p2 : Place) → IsTooHeavy f weight list p → IsTooHeavy f weight list p2 → p ≡ p2
  one_heavy p p2 q q2 = one_heavy_by p p2 q q2 (apart q.front (q.heavy ∷ q.rest) q2.front q2.heavy q2.rest (sym q.is ∙ q2.is))

  -- ---- one of the three

  no_phrase_refused : (p : Place) → IsNoPhrase f weight list p → (x : Exp) (size used : ℕ) → IsPhrase f weight list x size used → ⊥
  no_phrase_refused p h x size used q = let (same, _) = same_run h.run q.run h.after q.after h.is_run q.is_run in h.no_phrase x (subst (λ z. Phrase f z x) (sym same) q.phrase)

  never_refused : (rule : Rule) (p : Place) → IsParseError f weight list rule p → (x : Exp) (size used : ℕ) → IsPhrase f weight list x size used → ⊥
  never_refused G1 p h x size used q = no_phrase_refused p h x size used q
  never_refused G2 p h x size used q = not_heavy q.run q.after q.is_run q.light p h
  never_refused _ p h x size used q = h

  refused_so : (p : Place) → IsNoPhrase f weight list p → (rule : Rule) (p2 : Place) → IsParseError f weight list rule p2 → (G1 ≡ rule) × (p ≡ p2)
  refused_so p h G1 p2 q = let (_, same) = same_run h.run q.run h.after q.after h.is_run q.is_run in (refl, sym h.at ∙ ap (λ (t : Token). t.place) same ∙ q.at)
  refused_so p h G2 p2 q = absurd (not_heavy h.run h.after h.is_run h.light p2 q)
  refused_so p h _ p2 q = absurd q

  heavy_so : (p : Place) → IsTooHeavy f weight list p → (rule : Rule) (p2 : Place) → IsParseError f weight list rule p2 → (G2 ≡ rule) × (p ≡ p2)
  heavy_so p h G1 p2 q = absurd (not_heavy q.run q.after q.is_run q.light p h)
  heavy_so p h G2 p2 q = (refl, one_heavy p p2 h q)
  heavy_so p h _ p2 q = absurd q

  one_refusal : (rule : Rule) (p : Place) → IsParseError f weight list rule p → (rule2 : Rule) (p2 : Place) → IsParseError f weight list rule2 p2 → (rule ≡ rule2) × (p ≡ p2)
  one_refusal G1 p h rule2 p2 q = refused_so p h rule2 p2 q
  one_refusal G2 p h rule2 p2 q = heavy_so p h rule2 p2 q
  one_refusal _ p h rule2 p2 q = absurd h

-- ---- the answers

abbrev refusal_at : Rule → Place → Refusal
refusal_at rule place = record { rule = rule; place = place }

pub only_tree : (list : List Token) (at : ℕ) (f : Form) (weight : ℕ) (answer : Result (Expr × ℕ × ℕ) ParseErr)
    → Answers list at f weight answer → (x : Exp) (size used : ℕ) → IsPhrase f weight (drop at list) x size used
    → GivesOnly answer x (at + size) used
only_tree list at f weight (Ok p) (size2, is, h) x size used q =
    let (same, _) = same_run f weight (drop at list) h.run q.run h.after q.after h.is_run q.is_run in
    (sym (h.only x (subst (λ z. Phrase f z x) (sym same) q.phrase)), omega (arith, is, h.long, q.long, ap length same), sym h.weighs ∙ ap (λ z. weight + weigh z) same ∙ q.weighs)
only_tree list at f weight (Err (Refused r)) h x size used q = absurd (never_refused f weight (drop at list) r.rule r.place h x size used q)
only_tree list at f weight (Err Memory) h x size used q = refl

pub only_refusal : (list : List Token) (at : ℕ) (f : Form) (weight : ℕ) (answer : Result (Expr × ℕ × ℕ) ParseErr)
    → Answers list at f weight answer → (rule : Rule) (place : Place) → IsParseError f weight (drop at list) rule place
    → RefusesOnly answer rule place
only_refusal list at f weight (Ok p) (size, is, h) rule place q = never_refused f weight (drop at list) rule place q (exp_of p.0) size p.2 h
only_refusal list at f weight (Err (Refused r)) h rule place q =
    let (same, there) = one_refusal f weight (drop at list) r.rule r.place h rule place q in
    inl (ap (λ z. Refused (refusal_at z r.place)) same ∙ ap (λ z. Refused (refusal_at rule z)) there)
only_refusal list at f weight (Err Memory) h rule place q = inr refl
