-- Proves what follows a computation that yields a value.
use Rattle.std.proofs.Common.{◌≡◌, ap, List}
use Rattle.ti_base.specs.declared.entry.Answer.{Answer}
use Rattle.ti_lang.specs.Meaning.Comp.{Comp, CompResult, Gives, bind_result}

-- the next one goes on with what was given
pub goes_on : {A B : Type 0} (m : CompResult A) (go : A → Comp B) (a : A) (rest : List Answer) → m ≡ Gives a rest → bind_result m go ≡ go a rest
goes_on {A = A} m go a rest e = ap (λ (g : CompResult A). bind_result g go) e
