-- The lookup of a loop by position is proved to find the first loop there among all statements of the method.
use Rattle.std.proofs.Common.{◌≡◌, List, ◌++◌, map, Option, refl, ap, ◌∙◌, if◌then◌else◌, Some}
use Rattle.std.specs.List.{find}
use Rattle.std.specs.Option.{option_or}
use Rattle.std.proofs.lemmas.List.{map-append}
use Rattle.std.proofs.lemmas.List.Folds.{find-append}
use Rattle.ti_base.specs.declared.place.Place.{Place}
use Rattle.ti_lang.specs.Program.Statements.{NumberedStm, MaybeNumbered, NumberedStms, numbered_stms}
use Rattle.ti_lang.specs.Program.Statements as st
use Rattle.ti_lang.specs.Program.Classes.{NumberedMethod, ProgramView}
use Rattle.ti_base.specs.Places.{same_place}
use Rattle.ti_rules.specs.StmtInContext.{StmtContext, StmtInContext, in_loop, in_foreach, inside, inside_maybe, inside_all, around_method}
use Rattle.ti_single.specs.EffectsAt.{is_loop_at, loop_at}
use Rattle.ti_single.specs.Mirrors.Loops.{loop_in, loop_in_maybe, loop_in_all}

-- the first loop at a place among statements where they stand
abbrev first_in : Place → List StmtInContext → Option NumberedStm
first_in at xs = find (is_loop_at at) (map (λ (x : StmtInContext). x.statement) xs)

first_append : (at : Place) (xs ys : List StmtInContext) (a b : Option NumberedStm) → first_in at xs ≡ a → first_in at ys ≡ b → first_in at (xs ++ ys) ≡ option_or a b
first_append at xs ys a b is_a is_b =
    ap (find (is_loop_at at)) (map-append (λ (x : StmtInContext). x.statement) xs ys)
    ∙ find-append (is_loop_at at) (map (λ (x : StmtInContext). x.statement) xs) (map (λ (x : StmtInContext). x.statement) ys)
    ∙ ap (λ o. option_or o (first_in at ys)) is_a ∙ ap (option_or a) is_b

mutual
  in_one : (p : ProgramView) (at : Place) (around : StmtContext) (x : NumberedStm) → first_in at (inside p around x) ≡ loop_in at x
  in_one p at around (st.Block body) = in_all p at around body
  in_one p at around (st.If place c x) = in_one p at around x
  in_one p at around (st.IfElse place c x y) = first_append at (inside p around x) (inside p around y) (loop_in at x) (loop_in at y) (in_one p at around x) (in_one p at around y)
  in_one p at around (st.While place c body) = ap (λ o. if same_place at place then Some (st.While place c body) else o) (in_one p at (in_loop p around st.NoStm body) body)
  in_one p at around (st.For place first c update body) =
      let others = inside p (in_loop p around update body) body in
      ap (λ o. if same_place at place then Some (st.For place first c update body) else o)
      (first_append at (inside_maybe p around first) (inside_maybe p around update ++ others) (loop_in_maybe at first)
      (option_or (loop_in_maybe at update) (loop_in at body)) (in_maybe p at around first)
      (first_append at (inside_maybe p around update) others (loop_in_maybe at update) (loop_in at body) (in_maybe p at around update) (in_one p at (in_loop p around update body) body)))
  in_one p at around (st.Foreach place variable domain body) =
      ap (λ o. if same_place at place then Some (st.Foreach place variable domain body) else o) (in_one p at (in_foreach p around variable domain body) body)
  in_one p at around x = refl

  in_maybe : (p : ProgramView) (at : Place) (around : StmtContext) (x : MaybeNumbered) → first_in at (inside_maybe p around x) ≡ loop_in_maybe at x
  in_maybe p at around st.NoStm = refl
  in_maybe p at around (st.SomeStm x) = in_one p at around x

  in_all : (p : ProgramView) (at : Place) (around : StmtContext) (xs : NumberedStms) → first_in at (inside_all p around xs) ≡ loop_in_all at xs
  in_all p at around st.Nil = refl
  in_all p at around (st.Cons x rest) = first_append at (inside p around x) (inside_all p around rest) (loop_in at x) (loop_in_all at rest) (in_one p at around x) (in_all p at around rest)

-- the loop of a method at a place
pub loop_found : (p : ProgramView) (m : NumberedMethod) (at : Place) → loop_at p m at ≡ loop_in_all at (numbered_stms m.body)
loop_found p m at = in_all p at (around_method m) (numbered_stms m.body)

pub ruleset loops_found = (loop_found)
