use Rattle.std.proofs.Common.{◌≡◌, ℕ, Bool, true, false, List, [], ◌∷◌, slice_get, Option, Some, None, refl, ap, sym, ◌∙◌}
use Rattle.std.proofs.Math.Bool.{Bool-set}
use Rattle.std.proofs.Math.Logic.{∥∥₁_elim}
use Rattle.ti_lang.specs.Program.Statements.{NumberedStm}
use Rattle.ti_lang.specs.Program.Statements as st
use Rattle.ti_lang.specs.Program.Classes.{NumberedMethod, ProgramView}
use Rattle.ti_syntax.specs.Trees.Classes.{TextTree}
use Rattle.ti_lang.specs.Members.{OwnMethod, methods_of}
use Rattle.ti_lang.specs.Numbering.{IsNumbered, NumbersMethods}
use Rattle.ti_lang.specs.Numbering as numbering
use Rattle.ti_rows_of_laws.proofs.Places.{true_false}
use Rattle.ti_rows_of_laws.proofs.markings.stripped_programs.Goals as goal

pub returns-clause-nothing_to_take_off : goal.returns-clause-nothing_to_take_off
returns-clause-nothing_to_take_off c = refl

-- the first declaration of the first method is single
abbrev single_in : NumberedStm → Bool
single_in (st.Declare at type variable value) = type.is_single
single_in s = false

abbrev first_in : List NumberedStm → Bool
first_in [] = false
first_in (s ∷ ss) = single_in s

abbrev first_single : List NumberedMethod → Bool
first_single [] = false
first_single (m ∷ ms) = first_in m.body

pub returns-clause-a_mark_to_take_off : goal.returns-clause-a_mark_to_take_off
returns-clause-a_mark_to_take_off c = λ e. true_false (sym (ap (λ (p : ProgramView). first_single p.methods) e))

-- where no method is numbered, there is none
none_numbered : (text : TextTree) (number before : ℕ) (owns : List OwnMethod) (ms : List NumberedMethod) → NumbersMethods text number before owns ms → ms ≡ [] → owns ≡ []
none_numbered text number before owns ms numbering.none e = refl
none_numbered text number before owns ms (numbering.more {method = m} {methods = rest} named numbered others) e = absurd (by m rest e)
  where
    by : (m : NumberedMethod) (rest : List NumberedMethod) → m ∷ rest ≡ [] → ⊥
    by m rest e = cc

no_main : (text : TextTree) (own : OwnMethod) → methods_of text ≡ [] → slice_get (methods_of text) 0 ≡ Some own → true ≡ false
no_main text own none stands = absurd (by own (sym (ap (λ (ms : List OwnMethod). slice_get ms 0) none) ∙ stands))
  where
    by : (own : OwnMethod) → ◌≡◌ {A = Option OwnMethod} None (Some own) → ⊥
    by own e = cc

pub returns-clause-of_no_text : goal.returns-clause-of_no_text
returns-clause-of_no_text c = λ n. true_false (∥∥₁_elim n (Bool-set _ _) (λ k.
    no_main k.0 k.2.main.own (none_numbered k.0 0 0 (methods_of k.0) [] k.2.methods refl) k.2.main.stands))
