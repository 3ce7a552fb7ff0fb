-- The model of a context is proved to have the variables of its scope.
use Rattle.std.proofs.Common.{◌≡◌}
use Rattle.ti_lang.specs.Program.Scope.{contents_of}
use Rattle.ti_single.specs.declared.context.SingleContext.{SingleContext}
use Rattle.ti_single.specs.Contexts.{scope_at}

pub scope_is : (s : SingleContext) → contents_of s.scope.now ≡ scope_at s
scope_is s = λ j. record { this_class = s.of_method j; variables = (contents_of s.scope.now).variables }
