-- What is found in a text, and what a fix is.
use Rattle.std.specs.Prelude.{◌≡◌, ◌==◌, ℕ, Bool, true, false, not, is_none, List, Option, Some, None, IsUtf8}
use Rattle.ti_lsp.specs.declared.diagnostic.Diagnostic.{Diagnostic}
use Rattle.ti_lsp.specs.declared.suggestion.Suggestion.{Suggestion}
use Rattle.ti_lsp.specs.Edits.{edited}

-- there is no error
abbrev pub HasNoDiagnostic : (Diagnostic → Type 0) → Type 0
HasNoDiagnostic rejects = (diagnostic : Diagnostic) → rejects diagnostic → ⊥

-- this is an error, or none if there is none
abbrev pub IsAnalysis : (Diagnostic → Type 0) → Option Diagnostic → Type 0
IsAnalysis rejects None = HasNoDiagnostic rejects
IsAnalysis rejects (Some diagnostic) = rejects diagnostic

-- whether an error that begins where this one does isn't what is found afterwards
abbrev pub error_is_gone : Diagnostic → Option Diagnostic → Bool
error_is_gone diagnostic None = true
error_is_gone diagnostic (Some later) = not (later.start == diagnostic.start)

-- whether it is enough that this is found afterwards: no error after a suggestion that needs no choice, else none that begins where the error did
abbrev pub is_enough : Bool → Diagnostic → Option Diagnostic → Bool
is_enough true diagnostic later = is_none later
is_enough false diagnostic later = error_is_gone diagnostic later

-- the edits of a suggestion change a text to one in which the error isn't found
pub record IsFix (rejects : List ℕ → Diagnostic → Type 0) (text : List ℕ) (diagnostic : Diagnostic) (suggestion : Suggestion) : Type 0 where
  pub fixed : List ℕ
  pub later : Option Diagnostic
  pub applied : edited 0 suggestion.edits.items text ≡ Some fixed
  pub is_text : IsUtf8 fixed
  pub analyzed : IsAnalysis (rejects fixed) later
  pub enough : is_enough suggestion.is_automatic diagnostic later ≡ true

-- the edits of a suggestion change a text to one without an error
pub record IsWholeFix (rejects : List ℕ → Diagnostic → Type 0) (text : List ℕ) (suggestion : Suggestion) : Type 0 where
  pub fixed : List ℕ
  pub applied : edited 0 suggestion.edits.items text ≡ Some fixed
  pub is_text : IsUtf8 fixed
  pub accepted : HasNoDiagnostic (rejects fixed)
