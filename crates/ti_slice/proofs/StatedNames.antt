-- Proves that two definitions of a single target of an assignment agree.
use Rattle.std.proofs.Common.{◌≡◌, refl, ℕ, false}
use Rattle.ti_lang.specs.Program.Types.{Declaration, Typed, Foreach}
use Rattle.ti_lang.specs.Program.Expressions.{NumberedExp, Variable}
use Rattle.ti_lang.specs.Typing.Singleness.{declared_single}
use Rattle.ti_lang.specs.Typing.Effects.{is_single_target}
use Rattle.ti_align.specs.SinglePart.{is_single_declared}
use Rattle.ti_align.specs.Slice.{is_single_named}

same_declared : (n : ℕ) (d : Declaration) → declared_single (λ number. false) n d ≡ is_single_declared d
same_declared n (Typed s t) = refl
same_declared n Foreach = refl

pub same_named : (x : NumberedExp) → is_single_target x ≡ is_single_named x
same_named (Variable at v) = same_declared v.number v.declared
same_named x = refl
