-- Mirrors the code, for contracts of private functions: the local variables that the statements of a method declare, in source order.
use Rattle.std.specs.Prelude.{ℕ, List, [], ◌∷◌, ◌++◌, flat_map, map, Option, None}
use Rattle.std.specs.Option.{option_or}
use Rattle.ti_base.specs.declared.place.Place.{Place}
use Rattle.ti_lang.specs.Program.Types.{NumberedType}
use Rattle.ti_lang.specs.Program.Statements.{NumberedStm, MaybeNumbered, NumberedStms}
use Rattle.ti_lang.specs.Program.Statements as st
use Rattle.ti_lang.specs.Program.Classes.{NumberedParam, NumberedParams, MainArgs, Params}
use Rattle.ti_blame.specs.declared.reason.Reason.TheVariants.{OfVariable}
use Rattle.ti_blame.specs.declared.mark.Mark.{Mark}
use Rattle.ti_blame.specs.declared.implication.Implication.{Implication}
use Rattle.ti_infer.specs.declared.local.Local.{Local}
use Rattle.ti_infer.specs.Candidates.{variable_candidate}
use Rattle.ti_infer.specs.Mirrors.Places.{place_if}
use Rattle.ti_infer.specs.Mirrors.Fits.{rule_out_unless, accepts_single}

abbrev pub local_of : ℕ → Place → NumberedType → Local
local_of number at type = record { number = number; place = at; accepts = accepts_single at type }

abbrev mutual
  -- those that a statement declares; the variable of a foreach isn't one
  pub locals_in : NumberedStm → List Local
  locals_in (st.Declare at type variable value) = local_of variable at type ∷ []
  locals_in (st.Block body) = locals_in_all body
  locals_in (st.If at c a) = locals_in a
  locals_in (st.IfElse at c a b) = locals_in a ++ locals_in b
  locals_in (st.While at c body) = locals_in body
  locals_in (st.For at first c update body) = locals_in_maybe first ++ (locals_in_maybe update ++ locals_in body)
  locals_in (st.Foreach at variable domain body) = locals_in body
  locals_in s = []

  pub locals_in_maybe : MaybeNumbered → List Local
  locals_in_maybe st.NoStm = []
  locals_in_maybe (st.SomeStm s) = locals_in s

  pub locals_in_all : NumberedStms → List Local
  locals_in_all st.Nil = []
  locals_in_all (st.Cons s rest) = locals_in s ++ locals_in_all rest

-- ---- what is read from them

-- the place of the first one with this number
abbrev pub place_among : List Local → ℕ → Option Place
place_among [] n = None
place_among (l ∷ ls) n = option_or (place_if l.number l.place n) (place_among ls n)

abbrev pub local_candidates : List Local → List Mark
local_candidates ls = map (λ (l : Local). variable_candidate l.place) ls

abbrev pub local_edges : List Local → List Implication
local_edges ls = flat_map (λ (l : Local). rule_out_unless l.accepts (OfVariable l.place)) ls

-- the declared parameters of a method; none for the form `String[] args`
abbrev pub declared_params : NumberedParams → List NumberedParam
declared_params MainArgs = []
declared_params (Params ws) = ws
