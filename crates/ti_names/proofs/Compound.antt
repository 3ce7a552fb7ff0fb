-- The resolution of compound statements is proved correct, given that of their parts.
use Rattle.std.proofs.Common.{◌≡◌, Option, ap, sym, ◌∙◌}
use Rattle.ti_base.specs.declared.place.Place.{Place}
use Rattle.ti_syntax.specs.Trees.Expressions.{Exp}
use Rattle.ti_syntax.specs.Trees.Statements.{Stm, MaybeStm}
use Rattle.ti_syntax.specs.Trees.Statements as s
use Rattle.ti_lang.specs.Program.Expressions.{NumberedExp}
use Rattle.ti_lang.specs.Program.Statements.{NumberedStm, MaybeNumbered}
use Rattle.ti_lang.specs.Program.Statements as m
use Rattle.ti_lang.specs.Scopes.{Site, past_maybe, behind_maybe}
use Rattle.ti_lang.specs.Nodes.{maybe_nodes, stm_nodes, maybe_stm_nodes}
use Rattle.ti_rules.specs.declared.refusal.Refusal.{Refusal}
use Rattle.ti_rules.specs.Mirrors.First.{earlier_of}
use Rattle.ti_names.specs.Found.{first_in}
use Rattle.ti_names.specs.Mirrors.Numbered.{number_maybe, number_stm, number_maybe_stm}
use Rattle.ti_names.proofs.Branches.{in_for}

-- the sites behind the head of a `for` and behind its update
module _ (at : Place) (first : MaybeStm) (c : Option Exp) (update : MaybeStm) (body : Stm) (s0 s1 s2 : Site) (to1 : s1 ≡ behind_maybe s0 first) (to2 : s2 ≡ past_maybe s1 update) where
  abbrev inside : Site
  inside = behind_maybe s0 first

  pub last_site : s2 ≡ past_maybe inside update
  last_site = to2 ∙ ap (λ z. past_maybe z update) to1

  pub for_value : (first' : MaybeNumbered) (c' : Option NumberedExp) (update' : MaybeNumbered) (body' : NumberedStm)
      → first' ≡ number_maybe_stm s0 first → c' ≡ number_maybe s1 c → update' ≡ number_maybe_stm s1 update → body' ≡ number_stm s2 body
      → m.For at first' c' update' body' ≡ number_stm s0 (s.For at first c update body)
  for_value first' c' update' body' is_first is_c is_update is_body =
      let c_is = is_c ∙ ap (λ z. number_maybe z c) to1 in
      let update_is = is_update ∙ ap (λ z. number_maybe_stm z update) to1 in
      let body_is = is_body ∙ ap (λ z. number_stm z body) last_site in
      λ j. m.For at (is_first j) (c_is j) (update_is j) (body_is j)

  pub for_first : (f1 f2 f3 f4 : Option Refusal) → f1 ≡ first_in (maybe_stm_nodes s0 first) → f2 ≡ first_in (maybe_nodes s1 c) → f3 ≡ first_in (maybe_stm_nodes s1 update)
      → f4 ≡ first_in (stm_nodes s2 body) → earlier_of (earlier_of (earlier_of f1 f2) f3) f4 ≡ first_in (stm_nodes s0 (s.For at first c update body))
  for_first f1 f2 f3 f4 is1 is2 is3 is4 =
      let to_2 = is2 ∙ ap (λ z. first_in (maybe_nodes z c)) to1 in
      let to_3 = is3 ∙ ap (λ z. first_in (maybe_stm_nodes z update)) to1 in
      let to_4 = is4 ∙ ap (λ z. first_in (stm_nodes z body)) last_site in
      (λ j. earlier_of (earlier_of (earlier_of (is1 j) (to_2 j)) (to_3 j)) (to_4 j)) ∙ sym (in_for s0 at first c update body)
