-- Mirrors the code: says how the logic encodes what contracts see of a process, and changes no contract.
use Rattle.std.specs.Prelude.{ℕ, Bool, List, refl}
use Rattle.std.specs.Coded.{Coded, code_by, coded×, coded_ℕ, coded_bool, coded_list}
use Rattle.ti_base.specs.declared.entry.Answer.{Answer}
use Rattle.ti_lang.specs.declared.program.classes.ProgramData.{ProgramData}
use Rattle.ti_exec.specs.Standing.{TreeProcView}

-- It is encoded as the tuple of its fields.
abbrev pub view_code : Coded ProgramData → Coded Answer → Coded TreeProcView
view_code parts answer =
    code_by (ProgramData × (ℕ × (ℕ × (ℕ × (List Answer × Bool))))) (coded× parts
    (coded× coded_ℕ (coded× coded_ℕ (coded× coded_ℕ (coded× (coded_list answer) coded_bool)))))
    (λ s. (s.program, (s.procs, (s.fuel, (s.number, (s.told, s.asks))))))
    (λ t. record { program = t.0; procs = t.1.0; fuel = t.1.1.0; number = t.1.1.1.0; told = t.1.1.1.1.0; asks = t.1.1.1.1.1 })
    (λ _. refl)
