-- The code of a method's body as it is generated, given the targets of its forward jumps as far as they are known.
use Rattle.std.specs.Prelude.{ℕ, List, [], None}
use Rattle.ti_lang.specs.Program.Statements.{numbered_stms}
use Rattle.ti_lang.specs.Program.Classes.{NumberedMethod, ProgramView}
use Rattle.ti_lang.specs.Program.Scope.{this_of}
use Rattle.ti_lang.specs.Typing.Declared.{result_type}
use Rattle.ti_lower_expr.specs.Methods.{names_in_method}
use Rattle.ti_lower.specs.Mirrors.Statements.{CodeBuilder, stms_on}

abbrev pub body_on : ProgramView → NumberedMethod → List ℕ → CodeBuilder
body_on program m known =
    stms_on program (this_of m) (result_type m) known (numbered_stms m.body) None (record { names = names_in_method m; code = []; targets = [] })
