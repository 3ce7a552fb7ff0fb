-- Proves that the statements of a method without type errors meet the premises.
use Rattle.std.proofs.Common.{◌≡◌, ℕ, ◌+◌, ◌<◌, ◌≤◌, ◌==◌, Bool, true, false, not, ◌&&◌, ◌||◌, if◌then◌else◌, flat_map, is_some, option_and_then, Option, Some, None, List, [], ◌∷◌, ◌++◌, refl, ap, sym, ◌∙◌, subst, arith, eqb-true}
use Rattle.ti_base.specs.declared.place.Place.{Place}
use Rattle.ti_syntax.specs.Trees.Expressions.{Exp}
use Rattle.ti_syntax.specs.Trees.Statements.{InitTree, Stm, MaybeStm, Stms}
use Rattle.ti_lang.specs.Program.Types.{ValueType, VariableUse}
use Rattle.ti_lang.specs.Program.Types as t
use Rattle.ti_lang.specs.Program.Expressions.{NumberedExp}
use Rattle.ti_lang.specs.Program.Statements.{NumberedInit, NumberedStm, MaybeNumbered, NumberedStms}
use Rattle.ti_lang.specs.Program.Statements as s
use Rattle.ti_lang.specs.Program.Classes.{NumberedMethod, ProgramView}
use Rattle.ti_lang.specs.Program.Scope.{ScopeVariable, ScopeContents, this_of}
use Rattle.ti_lang.specs.Scopes.{Site, declares, past, past_maybe, site_after}
use Rattle.ti_lang.specs.Numbering as number
use Rattle.ti_lang.specs.Numbering.{NumbersInit, NumbersMaybe, NumbersStm, NumbersMaybeStm, NumbersStms}
use Rattle.ti_lang.specs.Typing.Kinds.{is_void, domain_dim}
use Rattle.ti_lang.specs.Typing.Declared.{result_type}
use Rattle.ti_lang.specs.Typing.Expressions.{operand_type}
use Rattle.ti_lang.specs.Meaning.Scoping.{same_variable, same_declaration}
use Rattle.ti_lang.specs.Meaning.Performing.{declared_alone, declared_among}
use Rattle.ti_rules.specs.Known.{IsThere}
use Rattle.ti_rules.specs.declared.rule.Rule.TheVariants.{Y6}
use Rattle.ti_rules.specs.declared.refusal.Refusal.{Refusal}
use Rattle.ti_rules.specs.Refusals.{refused_if}
use Rattle.ti_rules.specs.InitialTypes.{right_side_type, initial_type}
use Rattle.ti_rules.specs.StmtInContext.{StmtContext, StmtInContext, stands, with_foreach_variable, variables_inside, loop_acts, inside, inside_maybe, inside_all}
use Rattle.ti_rules.specs.Broken.Refused.{refusal_at, judged, both_judged, operand_refusal, misfit}
use Rattle.ti_rules.specs.Broken.Words.{type_word_refusals}
use Rattle.ti_rules.specs.Broken.Expressions.{exp_refusals}
use Rattle.ti_rules.specs.Broken.RightSides.{inner_refusals, value_refusals, initial_refusals}
use Rattle.ti_rules.specs.Broken.Targets.{write_refusals}
use Rattle.ti_rules.specs.Broken.Statements.{given_back, update_refusals, standing_refusals}
use Rattle.ti_rules.proofs.Lemmas.{nil_left, nil_right, each_left, each_right, not_refused, not_mistaken, SiteFits, past_keeps}
use Rattle.ti_rules.proofs.Lemmas.{past_maybe_keeps, behind_more, past_fits, past_maybe_fits, behind_fits, point_fits}
use Rattle.ti_lower_expr.specs.Slots.{Name, This, Of, Hidden}
use Rattle.ti_lower_expr.specs.Slots as slot_of
use Rattle.ti_lower.specs.StmtCode.{names_after}
use Rattle.ti_lower.proofs.Cutting.{leaves, Stay}
use Rattle.ti_lower.proofs.Working.{InitFine, IsClosed, StmFine, MaybeFine, StmsFine}
use Rattle.ti_lower.proofs.PremisesSpelled.{IsPlain, IsPlainMaybe, Branched, MaybeBranched, AllBranched}
use Rattle.ti_lower.proofs.PremisesCalls.{MainWords, call_fine, right_fine, inner_there}

-- ---- names that stay

-- all variables that slots stand for have numbers below this one
abbrev pub Below : ℕ → List Name → Type 0
Below n [] = Unit {0}
Below n (Of y ∷ ns) = (y.number < n) × Below n ns
Below n (x ∷ ns) = Below n ns

-- and these have numbers from it on
abbrev AllFrom : ℕ → List VariableUse → Type 0
AllFrom n [] = Unit {0}
AllFrom n (x ∷ xs) = (n ≤ x.number) × AllFrom n xs

pub below_more : (n k : ℕ) (ns : List Name) → n ≤ k → Below n ns → Below k ns
below_more n k [] h b = tt
below_more n k (Of y ∷ ns) h b = (let less = b.0 in omega (arith, h, less), below_more n k ns h b.1)
below_more n k (This ∷ ns) h b = below_more n k ns h b
below_more n k (slot_of.Point i ∷ ns) h b = below_more n k ns h b
below_more n k (Hidden ∷ ns) h b = below_more n k ns h b

from_less : (n k : ℕ) (xs : List VariableUse) → n ≤ k → AllFrom k xs → AllFrom n xs
from_less n k [] h a = tt
from_less n k (x ∷ xs) h a = (let more = a.0 in omega (arith, h, more), from_less n k xs h a.1)

other_variable : (x y : VariableUse) → y.number < x.number → same_variable x y ≡ false
other_variable x y h = by (x.number == y.number) refl
  where
    by : (b : Bool) → (x.number == y.number) ≡ b → (b && same_declaration x.declared y.declared) ≡ false
    by true e = let same = eqb-true x.number y.number e in absurd (omega (arith, same, h))
    by false e = refl

not_leaving : (n : ℕ) (xs : List VariableUse) (y : VariableUse) → AllFrom n xs → y.number < n → leaves xs y ≡ false
not_leaving n [] y a h = refl
not_leaving n (x ∷ xs) y a h = let more = a.0 in ap (λ b. b || leaves xs y) (other_variable x y (omega (arith, more, h))) ∙ not_leaving n xs y a.1 h

all_stay : (n : ℕ) (xs : List VariableUse) (ns : List Name) → AllFrom n xs → Below n ns → Stay xs ns
all_stay n xs [] a b = tt
all_stay n xs (Of y ∷ ns) a b = (not_leaving n xs y a b.0, all_stay n xs ns a b.1)
all_stay n xs (This ∷ ns) a b = all_stay n xs ns a b
all_stay n xs (slot_of.Point i ∷ ns) a b = all_stay n xs ns a b
all_stay n xs (Hidden ∷ ns) a b = all_stay n xs ns a b

alone_from : (site : Site) (x : Stm) (y : NumberedStm) → NumbersStm site x y → AllFrom site.variables (declared_alone y)
alone_from site x y (number.declare b fresh room h) = (omega arith, tt)
alone_from site x y _ = tt

both_from : (n : ℕ) (xs ys : List VariableUse) → AllFrom n xs → AllFrom n ys → AllFrom n (xs ++ ys)
both_from n [] ys a b = b
both_from n (x ∷ xs) ys a b = (a.0, both_from n xs ys a.1 b)

among_from : (site : Site) (xs : Stms) (ys : NumberedStms) → NumbersStms site xs ys → AllFrom site.variables (declared_among ys)
among_from site xs ys number.nil = tt
among_from site xs ys (number.cons {x = x} {y = y} {ys = rest} h more) =
    both_from site.variables (declared_alone y) (declared_among rest) (alone_from site x y h)
    (from_less site.variables (site_after site x).variables (declared_among rest) (behind_more site x) (among_from (site_after site x) _ rest more))

-- the names behind a statement
below_behind : (site : Site) (x : Stm) (y : NumberedStm) (ns : List Name) → NumbersStm site x y → Below site.variables ns → Below (site_after site x).variables (names_after y ns)
below_behind site x y ns (number.declare b fresh room h) z = (omega arith, below_more site.variables (site.variables + 1) ns (omega arith) z)
below_behind site x y ns h z = below_more site.variables (site_after site x).variables ns (behind_more site x) z

-- ---- statements that declare nothing themselves

closed : (p : ProgramView) (this : Option ℕ) (result : ValueType) (site : Site) (x : Stm) (y : NumberedStm) → NumbersStm site x y → IsPlain x → IsClosed p this result y
closed p this result site x y (number.declare b fresh room h) z = elim z [ ]
closed p this result site x y _ z = tt

-- ---- statements

some_rule : {A : Type 0} (o : Option A) (rule : A → List Refusal) (a : A) → o ≡ Some a → judged o rule ≡ [] → rule a ≡ []
some_rule o rule a e h = sym (ap (λ q. judged q rule) e) ∙ h

not_void : (result type : ValueType) (at : Place) → given_back at result type ≡ [] → is_void result ≡ false
not_void result type at h = by (is_void result) h
  where
    by : (b : Bool) → (if b then refusal_at Y6 at else misfit at type result) ≡ [] → b ≡ false
    by true h = cc
    by false h = refl

is_it : (b : Bool) → not b ≡ false → b ≡ true
is_it true h = refl
is_it false h = cc

module _ (p : ProgramView) (words : MainWords p) (m : NumberedMethod) where
  abbrev here : List ScopeVariable → Option Bool → StmtContext
  here vs j = record { method = m; variables = vs; jump_has = j }

  abbrev scope : List ScopeVariable → ScopeContents
  scope vs = record { this_class = this_of m; variables = vs }

  abbrev refusals_in : List StmtInContext → List Refusal
  refusals_in xs = flat_map (standing_refusals p) xs

  abbrev result : ValueType
  result = result_type m

  init_fine : (vs : List ScopeVariable) (site : Site) → SiteFits p (scope vs) site → (x : InitTree) (v : NumberedInit)
      → NumbersInit site x v → initial_refusals p (scope vs) v ≡ [] → InitFine p (this_of m) result v
  init_fine vs site k x v (number.value h) r = right_fine p words (scope vs) result site k _ _ h r
  init_fine vs site k x v _ r = tt

  return_fine : (vs : List ScopeVariable) (j : Option Bool) (site : Site) (ns : List Name) (at : Place) → SiteFits p (scope vs) site → (x : Option Exp) (y : Option NumberedExp) → NumbersMaybe site x y
      → refusals_in (stands (here vs j) (s.Return at y) ∷ []) ≡ [] → StmFine p (this_of m) result (s.Return at y) ns
  return_fine vs j site ns at k x y number.none r = is_it (is_void result) (not_refused (not (is_void result)) Y6 at (nil_left (refused_if (not (is_void result)) Y6 at) [] r))
  return_fine vs j site ns at k x y (number.some {x = a} {y = c} h) r =
      let rule = λ (type : ValueType). given_back at result type in
      let own = nil_left (inner_refusals p (scope vs) c ++ judged (operand_type p (scope vs) c) rule) [] r in
      let there = inner_there p words (scope vs) result site k a c h (nil_left (inner_refusals p (scope vs) c) (judged (operand_type p (scope vs) c) rule) own) in
      not_void result there.0 at (some_rule (operand_type p (scope vs) c) rule there.0 there.1 (nil_right (inner_refusals p (scope vs) c) (judged (operand_type p (scope vs) c) rule) own))

  foreach_fits : (vs : List ScopeVariable) (site : Site) (name : List ℕ) (n : ℕ) (b : Bool) (o : Option ℕ) → o ≡ Some n → SiteFits p (scope vs) site
      → SiteFits p (scope (with_foreach_variable vs site.variables b o)) (declares site name t.Foreach)
  foreach_fits vs site name n b o e k = subst (λ q. SiteFits p (scope (with_foreach_variable vs site.variables b q)) (declares site name t.Foreach)) (sym e) (point_fits p (this_of m) vs site name n b k)

  dim_there : (o : Option ℕ) → is_some o ≡ true → IsThere o
  dim_there None h = cc
  dim_there (Some n) h = (n, refl)

  mutual
    stm_fine : (vs : List ScopeVariable) (j : Option Bool) (site : Site) (ns : List Name) → SiteFits p (scope vs) site
        → Below site.variables ns → (x : Stm) (y : NumberedStm) → NumbersStm site x y → Branched x
        → refusals_in (inside p (here vs j) y) ≡ [] → StmFine p (this_of m) result y ns
    stm_fine vs j site ns k b x y number.empty z r = tt
    stm_fine vs j site ns k b x y (number.declare {at = at} {type = type} {value = value} {v = v} type_known fresh room h) z r =
        let wrong = type_word_refusals true type ++ initial_refusals p (scope vs) v in
        let misfits = judged (initial_type p (scope vs) v) (λ (u : ValueType). misfit at u type.type) in
        init_fine vs site k value v h (nil_right (type_word_refusals true type) (initial_refusals p (scope vs) v) (nil_left wrong misfits (nil_left (wrong ++ misfits) [] r)))
    stm_fine vs j site ns k b x y (number.assign {at = at} {x = target} {value = value} {v = v} g h) z r =
        let wrong = exp_refusals p (scope vs) target ++ initial_refusals p (scope vs) v in
        let misfits = both_judged (operand_type p (scope vs) target) (initial_type p (scope vs) v) (λ (t u : ValueType). write_refusals p (scope vs) at target (misfit at u t)) in
        init_fine vs site k value v h (nil_right (exp_refusals p (scope vs) target) (initial_refusals p (scope vs) v) (nil_left wrong misfits (nil_left (wrong ++ misfits) [] r)))
    stm_fine vs j site ns k b x y (number.update {at = at} {op = op} {b = a} {x = target} {y = c} g h) z r =
        let wrong = exp_refusals p (scope vs) target ++ value_refusals p (scope vs) c in
        let misfits = both_judged (operand_type p (scope vs) target) (right_side_type p (scope vs) c) (λ (t u : ValueType). write_refusals p (scope vs) at target (update_refusals at op t u)) in
        right_fine p words (scope vs) result site k a c h (nil_right (exp_refusals p (scope vs) target) (value_refusals p (scope vs) c) (nil_left wrong misfits (nil_left (wrong ++ misfits) [] r)))
    stm_fine vs j site ns k b x y (number.step h) z r = tt
    stm_fine vs j site ns k b x y (number.call {a = a} {x = c} h) z r = call_fine p words (scope vs) result site k a c h (nil_left (exp_refusals p (scope vs) c) [] r)
    stm_fine vs j site ns k b x y (number.print h) z r = tt
    stm_fine vs j site ns k b x y number.barrier z r = tt
    stm_fine vs j site ns k b x y number.break z r = tt
    stm_fine vs j site ns k b x y number.continue z r = tt
    stm_fine vs j site ns k b x y (number.return {at = at} h) z r = return_fine vs j site ns at k _ _ h r
    stm_fine vs j site ns k b x y (number.block {xs = xs} {ys = ys} h) z r =
        (all_stay site.variables (declared_among ys) ns (among_from site xs ys h) b, stms_fine vs j site ns k b xs ys h z r)
    stm_fine vs j site ns k b x y (number.if_alone {at = at} {d = d} {x = a} {y = c} g h) z r =
        let inner = refusals_in (inside p (here vs j) c) in
        (closed p (this_of m) result site a c h z.0, stm_fine vs j site ns k b a c h z.1 (nil_right (standing_refusals p (stands (here vs j) (s.If at d c))) inner r))
    stm_fine vs j site ns k b x y (number.if_else {at = at} {d = d} {a = a} {b = e} {x = c} {y = f} g h i) z r =
        let both = inside p (here vs j) c ++ inside p (here vs j) f in
        let inner = nil_right (standing_refusals p (stands (here vs j) (s.IfElse at d c f))) (refusals_in both) r in (
          (closed p (this_of m) result site a c h z.0.0, stm_fine vs j site ns k b a c h z.0.1 (each_left (standing_refusals p) (inside p (here vs j) c) (inside p (here vs j) f) inner)),
          closed p (this_of m) result (past site a) e f i z.1.0,
          stm_fine vs j (past site a) ns (past_fits p (scope vs) site a k) (below_more site.variables (past site a).variables ns (past_keeps site a).variables b) e f i z.1.1
              (each_right (standing_refusals p) (inside p (here vs j) c) (inside p (here vs j) f) inner),
        )
    stm_fine vs j site ns k b x y (number.while {at = at} {d = d} {x = a} {y = c} g h) z r =
        let l = Some (loop_acts p m s.NoStm c) in (
          closed p (this_of m) result site a c h z.0,
          stm_fine vs l site ns k b a c h z.1
              (nil_right (standing_refusals p (stands (here vs j) (s.While at d c))) (refusals_in (inside p (here vs l) c)) r),
        )
    stm_fine vs j site ns k b x y (number.for {at = at} {update = update} {u = u} {d = d} {x = a} {y = c} number.no_stm g h i) z r =
        let l = Some (loop_acts p m u c) in
        let before = inside_maybe p (here vs j) u in
        let inner = nil_right (standing_refusals p (stands (here vs j) (s.For at s.NoStm d u c))) (refusals_in (before ++ inside p (here vs l) c)) r in (
          maybe_fine vs j site ns k b update u h z.1.0 z.1.1 (each_left (standing_refusals p) before (inside p (here vs l) c) inner),
          closed p (this_of m) result (past_maybe site update) a c i z.2.0,
          stm_fine vs l (past_maybe site update) ns (past_maybe_fits p (scope vs) site update k)
              (below_more site.variables (past_maybe site update).variables ns (past_maybe_keeps site update).variables b) a c i z.2.1
              (each_right (standing_refusals p) before (inside p (here vs l) c) inner),
        )
    stm_fine vs j site ns k b x y (number.for {at = at} {update = update} {u = u} {d = d} {x = a} {y = c} (number.some_stm {x = e} {y = f} w) g h i) z r =
        let l = Some (loop_acts p m u c) in
        let first = inside p (here vs j) f in
        let before = inside_maybe p (here vs j) u in
        let inner = nil_right (standing_refusals p (stands (here vs j) (s.For at (s.SomeStm f) d u c))) (refusals_in (first ++ (before ++ inside p (here vs l) c))) r in
        let others = each_right (standing_refusals p) first (before ++ inside p (here vs l) c) inner in
        let next = site_after site e in
        let names = names_after f ns in
        let fits = behind_fits p (scope vs) site e k in
        let low = below_behind site e f ns w b in (
          all_stay site.variables (declared_alone f) ns (alone_from site e f w) b,
          stm_fine vs j site ns k b e f w z.0 (each_left (standing_refusals p) first (before ++ inside p (here vs l) c) inner),
          maybe_fine vs j next names fits low update u h z.1.0 z.1.1 (each_left (standing_refusals p) before (inside p (here vs l) c) others),
          closed p (this_of m) result (past_maybe next update) a c i z.2.0,
          stm_fine vs l (past_maybe next update) names (past_maybe_fits p (scope vs) next update fits)
              (below_more next.variables (past_maybe next update).variables names (past_maybe_keeps next update).variables low) a c i z.2.1
              (each_right (standing_refusals p) before (inside p (here vs l) c) others),
        )
    stm_fine vs j site ns k b x y (number.foreach {at = at} {name = name} {c = a} {d = d} {x = e} {y = c} fresh room g h) z r =
        let rule = λ (type : ValueType). operand_refusal at (is_some (domain_dim type)) false in
        let l = Some (loop_acts p m s.NoStm c) in
        let vars = variables_inside p (scope vs) site.variables d in
        let own = standing_refusals p (stands (here vs j) (s.Foreach at site.variables d c)) in
        let right = nil_left own (refusals_in (inside p (here vars l) c)) r in
        let there = inner_there p words (scope vs) result site k a d g (nil_left (inner_refusals p (scope vs) d) (judged (operand_type p (scope vs) d) rule) right) in
        let taken = not_mistaken at (is_some (domain_dim there.0)) false
        (some_rule (operand_type p (scope vs) d) rule there.0 there.1 (nil_right (inner_refusals p (scope vs) d) (judged (operand_type p (scope vs) d) rule) right)) in
        let dim = dim_there (domain_dim there.0) taken in
        let known = ap (option_and_then domain_dim) there.1 ∙ dim.1 in (
          closed p (this_of m) result (declares site name t.Foreach) e c h z.0,
          stm_fine vars l (declares site name t.Foreach) (slot_of.Point site.variables ∷ ns) (foreach_fits vs site name dim.0 _ (option_and_then domain_dim (operand_type p (scope vs) d)) known k)
              (below_more site.variables (site.variables + 1) ns (omega arith) b) e c h z.1 (nil_right own (refusals_in (inside p (here vars l) c)) r),
        )

    maybe_fine : (vs : List ScopeVariable) (j : Option Bool) (site : Site) (ns : List Name) → SiteFits p (scope vs) site
        → Below site.variables ns → (x : MaybeStm) (y : MaybeNumbered) → NumbersMaybeStm site x y
        → IsPlainMaybe x → MaybeBranched x → refusals_in (inside_maybe p (here vs j) y) ≡ [] → MaybeFine p (this_of m) result y ns
    maybe_fine vs j site ns k b x y number.no_stm q z r = tt
    maybe_fine vs j site ns k b x y (number.some_stm {x = a} {y = c} h) q z r = (closed p (this_of m) result site a c h q, stm_fine vs j site ns k b a c h z r)

    pub stms_fine : (vs : List ScopeVariable) (j : Option Bool) (site : Site) (ns : List Name) → SiteFits p (scope vs) site
        → Below site.variables ns → (xs : Stms) (ys : NumberedStms) → NumbersStms site xs ys
        → AllBranched xs → refusals_in (inside_all p (here vs j) ys) ≡ [] → StmsFine p (this_of m) result ys ns
    stms_fine vs j site ns k b xs ys number.nil z r = tt
    stms_fine vs j site ns k b xs ys (number.cons {x = x} {y = y} {ys = rest} h more) z r = (
      stm_fine vs j site ns k b x y h z.0 (each_left (standing_refusals p) (inside p (here vs j) y) (inside_all p (here vs j) rest) r),
      stms_fine vs j (site_after site x) (names_after y ns) (behind_fits p (scope vs) site x k) (below_behind site x y ns h b) _ rest more z.1
          (each_right (standing_refusals p) (inside p (here vs j) y) (inside_all p (here vs j) rest) r),
    )
