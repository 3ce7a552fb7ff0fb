-- Proves that the code of `new` makes the objects and grids that the semantics makes.
use Rattle.std.proofs.Common.{◌≡◌, ℕ, ◌+◌, true, List, [], ◌∷◌, ◌++◌, Option, Some, None, refl, sym, ◌∙◌, subst}
use Rattle.ti_base.specs.declared.place.Place.{Place}
use Rattle.ti_base.specs.declared.action.Action.TheVariants as act
use Rattle.ti_base.specs.declared.value.Value.TheVariants as v
use Rattle.ti_lang.specs.Program.Types.{ValueType}
use Rattle.ti_lang.specs.Program.Types as t
use Rattle.ti_lang.specs.Program.Expressions.{NumberedExp, numbered_ranges}
use Rattle.ti_lang.specs.Program.Expressions as e
use Rattle.ti_lang.specs.Program.Statements.{NumberedDims}
use Rattle.ti_lang.specs.Program.Statements as s
use Rattle.ti_lang.specs.Program.Scope.{this_of}
use Rattle.ti_lang.specs.Meaning.Held.{Held, Plain, region_of, rect_of}
use Rattle.ti_lang.specs.Meaning.Comp.{ToBeDone, NewThing, ◌>>=◌, gives, asked, request}
use Rattle.ti_lang.specs.Meaning.Evaluation.{eval}
use Rattle.ti_lang.specs.Meaning.Makers.{region_for, spread, new_object, new_grid}
use Rattle.ti_lang.specs.Meaning.Scoping.{Env}
use Rattle.ti_lang.specs.Meaning.Zeros.{zero_of_type}
use Rattle.ti_code.specs.declared.instr.Instr.{Instr}
use Rattle.ti_code.specs.declared.instr.Instr.TheVariants as i
use Rattle.ti_code.specs.Effects.{LocalState, Who}
use Rattle.ti_code.specs.Leading.{CodeAt, pc_after}
use Rattle.ti_lower_expr.specs.Slots.{Name, SlotsHold}
use Rattle.ti_lower.specs.StmtCode.{region_code, spread_code, object_code, grid_code}
use Rattle.ti_lower_expr.specs.Doing.{Implements}
use Rattle.ti_lower_expr.proofs.Lemmas.{front_stands, rest_stands, behind_both, does_then, does_value, does_behind, does_one, who, state}
use Rattle.ti_lower_expr.proofs.Lemmas.{next, does, Pushes, asked_alike}

module _ (c : List Instr) (env : Env) (names : List Name) (slots : List Held) (holds : SlotsHold env.this names env.variables env.turns slots) where
  abbrev w : Who
  w = who c env names slots holds

  abbrev here : ℕ → List Held → LocalState
  here = state c env names slots holds

  -- a value that stands for the region is pushed
  abbrev Places : ℕ → List Held → ℕ → LocalState → Type 0
  Places at stack region s = (h : Held) × (region_of h ≡ region) × (s ≡ here at (h ∷ stack))

  region_does : (o : Option NumberedExp) (at : ℕ) (stack : List Held) → CodeAt c at (region_code env.program (this_of env.method) names o at)
      → Implements w c (here at stack) (region_for env o) (Places (pc_after at (region_code env.program (this_of env.method) names o at)) stack)
  region_does None at stack st =
      does_behind w c (Places (at + 1) stack) (here at stack) (here (at + 1) (Plain (v.Region 0) ∷ stack)) (gives 0) (i.Const (v.Region 0)) st.0 (λ rs. refl)
      (does_value w c (Places (at + 1) stack) (here (at + 1) (Plain (v.Region 0) ∷ stack)) 0 (Plain (v.Region 0), refl, refl))
  region_does (Some x) at stack st =
      let n = pc_after at (region_code env.program (this_of env.method) names (Some x) at) in
      next c env names slots holds (Places n stack) n stack (here at stack) (eval env x) (λ h. gives (region_of h)) (does c env names slots holds x at stack st)
      (λ h. does_value w c (Places n stack) (here n (h ∷ stack)) (region_of h) (h, refl, refl))

  spread_does : (p : Place) (dims : NumberedDims) (at : ℕ) (stack : List Held) → CodeAt c at (spread_code env.program (this_of env.method) names p dims at)
      → Implements w c (here at stack) (spread env p dims) (Pushes c env names slots holds (pc_after at (spread_code env.program (this_of env.method) names p dims at)) stack)
  spread_does p (s.Domain x) at stack st = does c env names slots holds x at stack st
  spread_does p (s.Ranges ranges) at stack st = does c env names slots holds (e.Rect p (numbered_ranges ranges)) at stack st

  pub object_does : (p : Place) (region : Option NumberedExp) (class at : ℕ) (stack : List Held) → CodeAt c at (object_code env.program (this_of env.method) names p region class at)
      → Implements w c (here at stack) (new_object env p region class) (Pushes c env names slots holds (pc_after at (object_code env.program (this_of env.method) names p region class at)) stack)
  object_does p region class at stack st =
      let code = region_code env.program (this_of env.method) names region at in
      let n = pc_after at code in
      let Q = Pushes c env names slots holds (n + 1) stack in
      let made = λ (r : ℕ). asked (request p (act.NewObj class r) (NewThing (t.Class class true))) in
      subst (λ m. Implements w c (here at stack) (new_object env p region class) (Pushes c env names slots holds m stack)) (sym (behind_both at code (i.NewObj class p ∷ [])))
      (does_then w c (Places n stack) Q (here at stack) (region_for env region) made (region_does region at stack (front_stands c at code (i.NewObj class p ∷ []) st))
      (λ r s k. subst (λ z. Implements w c z (made r) Q) (sym k.2)
      (subst (λ z. Implements w c (here n (k.0 ∷ stack)) (made z) Q) k.1
      (does_one w c Q (here n (k.0 ∷ stack)) (made (region_of k.0)) (asked (request p (act.NewObj class (region_of k.0)) ToBeDone)) (λ h. here (n + 1) (h ∷ stack)) (i.NewObj class p)
      (rest_stands c at code (i.NewObj class p ∷ []) st).0 (asked_alike c env names slots holds _ _ refl refl) (λ rs. refl) (λ h. refl)))))

  pub grid_does : (p : Place) (region : Option NumberedExp) (element : ValueType) (q : Place) (dims : NumberedDims) (at : ℕ) (stack : List Held)
      → CodeAt c at (grid_code env.program (this_of env.method) names p region element q dims at)
      → Implements w c (here at stack) (new_grid env p region element q dims) (Pushes c env names slots holds (pc_after at (grid_code env.program (this_of env.method) names p region element q dims at)) stack)
  grid_does p region element q dims at stack st =
      let first = region_code env.program (this_of env.method) names region at in
      let a = pc_after at first in
      let second = spread_code env.program (this_of env.method) names q dims a in
      let n = pc_after a second in
      let last = i.NewGrid (zero_of_type element) p ∷ [] in
      let Q = Pushes c env names slots holds (n + 1) stack in
      let made = λ (r : ℕ) (h : Held). asked (request p (act.NewGrid (zero_of_type element) (rect_of h) r) (NewThing (t.Grid element (rect_of h).dim true))) in
      let more = λ (r : ℕ). spread env q dims >>= λ h. made r h in
      subst (λ m. Implements w c (here at stack) (new_grid env p region element q dims) (Pushes c env names slots holds m stack)) (sym (behind_both at first (second ++ last) ∙ behind_both a second last))
      (does_then w c (Places a stack) Q (here at stack) (region_for env region) more (region_does region at stack (front_stands c at first (second ++ last) st))
      (λ r s k. subst (λ z. Implements w c z (more r) Q) (sym k.2)
      (subst (λ z. Implements w c (here a (k.0 ∷ stack)) (more z) Q) k.1
      (next c env names slots holds Q n (k.0 ∷ stack) (here a (k.0 ∷ stack)) (spread env q dims) (λ h. made (region_of k.0) h)
      (spread_does q dims a (k.0 ∷ stack) (front_stands c a second last (rest_stands c at first (second ++ last) st)))
      (λ h. does_one w c Q (here n (h ∷ k.0 ∷ stack)) (made (region_of k.0) h)
      (asked (request p (act.NewGrid (zero_of_type element) (rect_of h) (region_of k.0)) ToBeDone)) (λ x. here (n + 1) (x ∷ stack))
      (i.NewGrid (zero_of_type element) p) (rest_stands c a second last (rest_stands c at first (second ++ last) st)).0
      (asked_alike c env names slots holds _ _ refl refl) (λ rs. refl) (λ x. refl))))))
