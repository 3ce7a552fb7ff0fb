-- Which variables leave their scope.
use Rattle.std.specs.Prelude.{Bool, List}
use Rattle.std.specs.List.{list_any}
use Rattle.ti_lang.specs.Program.Types.{VariableUse}
use Rattle.ti_lang.specs.Meaning.Scoping.{same_variable}

-- A variable is one of these.
abbrev pub is_among : List VariableUse → VariableUse → Bool
is_among xs v = list_any (λ x. same_variable x v) xs
