-- What `parse` returns, as its public contract states it.
use Rattle.std.specs.Prelude.{◌≡◌, ◌⊎◌, List, Some, Result, Ok, Err}
use Rattle.ti_base.specs.declared.place.Place.{Place}
use Rattle.ti_syntax.specs.declared.token.Token.{Token}
use Rattle.ti_syntax.specs.declared.tree.text.Tree.{Tree}
use Rattle.ti_syntax.specs.Trees.Classes.{TextTree}
use Rattle.ti_syntax.specs.Trees.Text.{tree_of}
use Rattle.ti_syntax.specs.Spelling.{Spells, IsShallow, Misfit, IsGrammarRefusal}
use Rattle.ti_rules.specs.RefusalOf.{rule_of_misfit}
use Rattle.ti_parse_expr.specs.declared.error.ParseErr.{ParseErr}
use Rattle.ti_parse_expr.specs.declared.error.ParseErr.TheVariants.{Refused, Memory}

-- the tree of the list if no token of it is above a limit, else the syntax error of the list; out of memory is always possible
abbrev pub Parsed : List Token → Result Tree ParseErr → Type 0
Parsed list (Ok tree) = Spells list (tree_of tree) × IsShallow list
Parsed list (Err (Refused r)) = (misfit : Misfit) × (r.rule ≡ rule_of_misfit misfit) × IsGrammarRefusal list (Some (misfit, r.place))
Parsed list (Err Memory) = Unit {0}

-- the result is this tree or out of memory
abbrev pub GivesOnly : Result Tree ParseErr → TextTree → Type 0
GivesOnly (Ok t) tree = tree_of t ≡ tree
GivesOnly (Err error) tree = error ≡ Memory

-- the result is the error for this misfit or out of memory
abbrev pub RefusesOnly : Result Tree ParseErr → Misfit → Place → Type 0
RefusesOnly (Ok t) misfit place = ⊥
RefusesOnly (Err error) misfit place = (error ≡ Refused (record { rule = rule_of_misfit misfit; place = place })) ⊎ (error ≡ Memory)
