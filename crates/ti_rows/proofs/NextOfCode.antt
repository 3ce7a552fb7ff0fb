-- What bytecode does next is unique.
use Rattle.std.proofs.Common.{◌≡◌, List, [], Option, None, Some, sym, ◌∙◌, ap, subst}
use Rattle.ti_base.specs.declared.entry.Answer.{Answer}
use Rattle.ti_base.specs.declared.entry.Next.{Next}
use Rattle.ti_lang.specs.Meaning.Comp.{Gives}
use Rattle.ti_code.specs.Programs.{Code}
use Rattle.ti_code.specs.Machine.{Machine, On, next_step}
use Rattle.ti_code.specs.Follows as code
use Rattle.ti_code.specs.Follows.{Runs, shown}

none_some : (n : Next) → ◌≡◌ {A = Option Next} None (Some n) → ⊥
none_some n e = cc

same_some : (n k : Next) → Some n ≡ Some k → n ≡ k
same_some n k e = cc

-- where an instruction shows something, the code has that next
stays : (c : Code) (m o : Machine) (rs left : List Answer) (n k : Next) → Runs c m rs o left → shown (next_step c m rs) ≡ Some k → shown (next_step c o left) ≡ Some n → n ≡ k
stays c m o rs left n k code.here e s = same_some n k (sym s ∙ e)
stays c m o rs left n k (code.on t more) e s = absurd (none_some k (sym (ap shown t) ∙ e))

pub next_is : (c : Code) (m : Machine) (rs : List Answer) (n k : Next) → shown (next_step c m rs) ≡ Some k → code.HasNext c m rs n → n ≡ k
next_is c m rs n k e w = stays c m w.0 rs [] n k w.1 e w.2

-- where an instruction goes on, it has next what it has behind it
same_on : (c : Code) (k q o : Machine) (r s left : List Answer) → Gives (On k) r ≡ Gives (On q) s → Runs c k r o left → Runs c q s o left
same_on c k q o r s left e more =
    let a : k ≡ q = cc in
    let b : r ≡ s = cc in
    subst (λ x. Runs c x s o left) a (subst (λ y. Runs c k y o left) b more)

goes : (c : Code) (m q o : Machine) (rs rest left : List Answer) (n : Next) → next_step c m rs ≡ Gives (On q) rest → Runs c m rs o left → shown (next_step c o left) ≡ Some n → Runs c q rest o left
goes c m q o rs rest left n t code.here s = absurd (none_some n (sym (ap shown t) ∙ s))
goes c m q o rs rest left n t (code.on {n = k} {rest = r} u more) s = same_on c k q o r rest left (sym u ∙ t) more

pub next_behind : (c : Code) (m q : Machine) (rs rest : List Answer) (n : Next) → next_step c m rs ≡ Gives (On q) rest → code.HasNext c m rs n → code.HasNext c q rest n
next_behind c m q rs rest n t w = (w.0, goes c m q w.0 rs rest [] n t w.1 w.2, w.2)
