-- Proves that the code's process before its first step is that of the semantics.
use Rattle.std.proofs.Common.{◌≡◌, ap, refl, [], ◌∷◌, map}
use Rattle.std.proofs.lemmas.Option.{slice_get-map}
use Rattle.ti_lang.specs.Program.Statements.{NumberedStms, Nil, Cons}
use Rattle.ti_lang.specs.Meaning.Processes.{Do, all_before}
use Rattle.ti_eval.specs.Places.{list_of}

pub all_left : (b : NumberedStms) → all_before b [] ≡ map Do (list_of b)
all_left Nil = refl
all_left (Cons x more) = ap (λ ws. Do x ∷ ws) (all_left more)

pub ruleset beginnings = (all_left, slice_get-map)
