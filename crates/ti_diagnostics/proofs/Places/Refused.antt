-- Errors each of whose positions satisfies a predicate: those of the building blocks of the rules.
use Rattle.std.proofs.Common.{Bool, true, false, if◌then◌else◌, List, [], ◌∷◌, Option, Some}
use Rattle.std.proofs.Common.{None}
use Rattle.ti_base.specs.declared.place.Place.{Place}
use Rattle.ti_syntax.specs.declared.tree.types.Qualifier.{Qualifier}
use Rattle.ti_syntax.specs.declared.tree.classes.Modifier.{Modifier}
use Rattle.ti_syntax.specs.Trees.Types.{GridTree}
use Rattle.ti_lang.specs.Program.Types.{ValueType, NumberedType}
use Rattle.ti_lang.specs.Program.Expressions.{NumberedExp, NumberedExps, NumberedRange}
use Rattle.ti_lang.specs.Program.Expressions.{NumberedRanges}
use Rattle.ti_lang.specs.Program.Expressions as e
use Rattle.ti_lang.specs.Program.Classes.{ProgramView}
use Rattle.ti_lang.specs.Program.Scope.{ScopeContents}
use Rattle.ti_lang.specs.Typing.Fits.{fits}
use Rattle.ti_rules.specs.declared.rule.Rule.{Rule}
use Rattle.ti_rules.specs.declared.refusal.Refusal.{Refusal}
use Rattle.ti_rules.specs.Refusals.{refused_if}
use Rattle.ti_rules.specs.Broken.Refused.{refusal_at, judged, both_judged, operand_refusal, misfit}
use Rattle.ti_rules.specs.Broken.Misplaced.{misplaced, all_misplaced, bound_misplaced}
use Rattle.ti_rules.specs.Broken.Misplaced.{bounds_misplaced}
use Rattle.ti_rules.specs.Broken.Words.{repeated_qualifiers, repeated_modifiers, base_word_refusals}
use Rattle.ti_rules.specs.Broken.Words.{grid_word_refusals, grid_refusals, type_word_refusals}
use Rattle.ti_diagnostics.proofs.Places.Elements.{HoldsOfEach, nil, cons, both, each_of}
use Rattle.ti_diagnostics.proofs.Places.Trees.{WordsPlaced, ModifiersPlaced}
use Rattle.ti_diagnostics.proofs.Places.Programs.{TypePlaced, ExpPlaced, ExpsPlaced, RangePlaced}
use Rattle.ti_diagnostics.proofs.Places.Programs.{RangesPlaced, place_placed}

-- each error is at a position that satisfies the predicate
abbrev pub RefusalsPlaced : (Place → Type 0) → List Refusal → Type 0
RefusalsPlaced P refusals = HoldsOfEach (λ (r : Refusal). P r.place) refusals

module _ (P : Place → Type 0) where
  -- ---- building blocks

  pub refused : (b : Bool) (rule : Rule) (at : Place) → P at
      → RefusalsPlaced P (refused_if b rule at)
  refused true rule at h = cons h nil
  refused false rule at h = nil

  pub refused_at : (rule : Rule) (at : Place) → P at → RefusalsPlaced P (refusal_at rule at)
  refused_at rule at h = cons h nil

  unless_taken : (b : Bool) (rule : Rule) (at : Place) → P at
      → RefusalsPlaced P (if b then [] else refusal_at rule at)
  unless_taken true rule at h = nil
  unless_taken false rule at h = cons h nil

  pub operand_placed : (at : Place) (taken otherwise : Bool) → P at
      → RefusalsPlaced P (operand_refusal at taken otherwise)
  operand_placed at true otherwise h = nil
  operand_placed at false otherwise h = cons h nil

  pub misfit_placed : (at : Place) (t u : ValueType) → P at → RefusalsPlaced P (misfit at t u)
  misfit_placed at t u h = unless_taken (fits t u) _ at h

  pub judged_placed : {A : Type 0} (o : Option A) (rule : A → List Refusal)
      → ((a : A) → RefusalsPlaced P (rule a))
      → RefusalsPlaced P (judged o rule)
  judged_placed None rule gives = nil
  judged_placed (Some a) rule gives = gives a

  pub both_judged_placed : {A B : Type 0} (o : Option A) (q : Option B)
      (rule : A → B → List Refusal)
      → ((a : A) (b : B) → RefusalsPlaced P (rule a b))
      → RefusalsPlaced P (both_judged o q rule)
  both_judged_placed None q rule gives = nil
  both_judged_placed (Some a) None rule gives = nil
  both_judged_placed (Some a) (Some b) rule gives = gives a b

  -- ---- qualifiers and modifiers

  repeated_qualifiers_placed : (before words : List Qualifier) → WordsPlaced P words
      → RefusalsPlaced P (repeated_qualifiers before words)
  repeated_qualifiers_placed before [] h = nil
  repeated_qualifiers_placed before (q ∷ rest) (cons h hs) =
      both (refused _ _ _ h) (repeated_qualifiers_placed (q ∷ before) rest hs)

  pub repeated_modifiers_placed : (before words : List Modifier) → ModifiersPlaced P words
      → RefusalsPlaced P (repeated_modifiers before words)
  repeated_modifiers_placed before [] h = nil
  repeated_modifiers_placed before (m ∷ rest) (cons h hs) =
      both (refused _ _ _ h) (repeated_modifiers_placed (m ∷ before) rest hs)

  grid_placed : (g : GridTree) → WordsPlaced P g.qualifiers → RefusalsPlaced P (grid_refusals g)
  grid_placed g h =
      both (repeated_qualifiers_placed [] g.qualifiers h)
      (each_of grid_word_refusals h (λ q i. refused _ _ _ i))

  pub type_placed : (may_be_single : Bool) (t : NumberedType) → TypePlaced P t
      → RefusalsPlaced P (type_word_refusals may_be_single t)
  type_placed may_be_single t h =
      both (both (repeated_qualifiers_placed [] t.qualifiers h.0)
      (each_of (base_word_refusals may_be_single t.type) h.0 (λ q i. refused _ _ _ i)))
      (each_of grid_refusals h.1 grid_placed)

  -- ---- operands

  pub misplaced_placed : (p : ProgramView) (s : ScopeContents) (a : NumberedExp) → ExpPlaced P a
      → RefusalsPlaced P (misplaced p s a)
  misplaced_placed p s a h = refused _ _ _ (place_placed P a h)

  pub all_misplaced_placed : (p : ProgramView) (s : ScopeContents) (xs : NumberedExps)
      → ExpsPlaced P xs → RefusalsPlaced P (all_misplaced p s xs)
  all_misplaced_placed p s e.NoExp h = nil
  all_misplaced_placed p s (e.MoreExp a rest) h =
      both (misplaced_placed p s a h.0) (all_misplaced_placed p s rest h.1)

  bound_misplaced_placed : (p : ProgramView) (s : ScopeContents) (r : NumberedRange)
      → RangePlaced P r → RefusalsPlaced P (bound_misplaced p s r)
  bound_misplaced_placed p s (e.Plain low high) h =
      both (misplaced_placed p s low h.0) (misplaced_placed p s high h.1)
  bound_misplaced_placed p s (e.Stepped low high step) h =
      both (both (misplaced_placed p s low h.0) (misplaced_placed p s high h.1))
      (misplaced_placed p s step h.2)

  pub bounds_misplaced_placed : (p : ProgramView) (s : ScopeContents) (rs : NumberedRanges)
      → RangesPlaced P rs → RefusalsPlaced P (bounds_misplaced p s rs)
  bounds_misplaced_placed p s e.NoRange h = nil
  bounds_misplaced_placed p s (e.MoreRange r rest) h =
      both (bound_misplaced_placed p s r h.0) (bounds_misplaced_placed p s rest h.1)
