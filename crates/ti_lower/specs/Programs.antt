-- The code of methods and programs.
use Rattle.std.specs.Prelude.{ℕ, ◌+◌, ◌==◌, Bool, true, false, List, [], ◌∷◌, ◌++◌, map, Option, Some, None}
use Rattle.ti_base.specs.declared.place.Place.{Place}
use Rattle.ti_lang.specs.Program.Statements.{numbered_stms}
use Rattle.ti_lang.specs.Program.Classes.{NumberedMethod, ProgramView}
use Rattle.ti_lang.specs.Program.Scope.{this_of}
use Rattle.ti_lang.specs.Typing.Declared.{result_type}
use Rattle.ti_code.specs.declared.instr.Instr.{Instr}
use Rattle.ti_code.specs.declared.instr.Instr.TheVariants as i
use Rattle.ti_code.specs.declared.code.MethodCode.{MethodCode}
use Rattle.ti_code.specs.Programs.{Code}
use Rattle.ti_lower_expr.specs.Methods.{param_count, is_instance, names_in_method}
use Rattle.ti_lower.specs.StmtCode.{stms_code}

-- An instruction of `main`, in which a return ends the run.
abbrev pub in_main : Place → Instr → Instr
in_main end i.Return = i.Stop end
in_main end x = x

-- The code of a method, before returns become the end of the run.
abbrev pub body_code : ProgramView → NumberedMethod → List Instr
body_code program m = stms_code program (this_of m) (result_type m) (numbered_stms m.body) None (names_in_method m) 0 ++ i.Return ∷ []

-- The instructions of a method: of `main`, if a place of the end is given, or of another one.
abbrev pub instrs_in : Option Place → List Instr → List Instr
instrs_in None is = is
instrs_in (Some end) is = map (in_main end) is

abbrev pub method_code : ProgramView → Option Place → NumberedMethod → MethodCode
method_code program end m =
    record { instance = is_instance (this_of m); params = param_count m; instrs = instrs_in end (body_code program m) }

-- The place at which the run ends, in `main`.
abbrev pub end_in : Bool → NumberedMethod → Option Place
end_in true m = Some m.end
end_in false m = None

-- The code of methods, numbered from n on.
abbrev pub methods_code : ProgramView → ℕ → List NumberedMethod → List MethodCode
methods_code program n [] = []
methods_code program n (m ∷ ms) = method_code program (end_in (n == program.main) m) m ∷ methods_code program (n + 1) ms

-- The code of a program.
abbrev pub program_code : ProgramView → Code
program_code program = record { methods = methods_code program 0 program.methods; main = program.main }
