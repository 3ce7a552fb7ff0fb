use Rattle.std.proofs.Common.{◌≡◌, ◌∙◌, ◌++◌, ◌∷◌, [], ◌+◌, ◌<◌, ℕ, List, map, take, drop, get_or, slice_set, length, length-set, refl, subst, add-one, ap, sym, append_assoc, drop-cons, drop-set-lt, arith}
use Rattle.std.proofs.lemmas.List.{take_more_set}
use Rattle.ti_code.specs.declared.instr.Instr.{Instr}
use Rattle.ti_lower.specs.Programs.{in_main}
use Rattle.ti_lower.proofs.methods.end_run.Goals as goal

first_left : (xs : List Instr) (i : ℕ) (d : Instr) → i < length xs → drop i xs ≡ get_or xs i d ∷ drop (i + 1) xs
first_left xs i d h = drop-cons xs i d h ∙ rw add-one refl

-- one more is changed
one_more : (f : Instr → Instr) (xs : List Instr) (i : ℕ) (d : Instr) → i < length xs
    → take (i + 1) (slice_set xs i (f (get_or xs i d))) ++ map f (drop (i + 1) (slice_set xs i (f (get_or xs i d)))) ≡ take i xs ++ map f (drop i xs)
one_more f xs i d h =
    let y = f (get_or xs i d) in
    let rest = map f (drop (i + 1) xs) in
    ap (λ zs. zs ++ map f (drop (i + 1) (slice_set xs i y))) (take_more_set xs i y h)
    ∙ ap (λ zs. (take i xs ++ y ∷ []) ++ map f zs) (drop-set-lt (i + 1) xs i y (omega arith))
    ∙ append_assoc (take i xs) (y ∷ []) rest
    ∙ ap (λ zs. take i xs ++ map f zs) (sym (first_left xs i d h))

pub loop-i-preserved : goal.loop-i-preserved
loop-i-preserved c =
    let f = in_main c.args.end in
    let is = c.loop-i.instrs in
    let i = c.loop-i.i in
    let inside = subst (λ n. i < n) (sym c.loop-i.invariant.count) c.loop-i-test.true in
    record {
      count = length-set is i c.main_instr.result ∙ c.loop-i.invariant.count;
      rest =
          ap (λ y. take (i + 1) (slice_set is i y) ++ map f (drop (i + 1) (slice_set is i y))) c.main_instr.ensures
          ∙ one_more f is i _ inside
          ∙ c.loop-i.invariant.rest;
    }
