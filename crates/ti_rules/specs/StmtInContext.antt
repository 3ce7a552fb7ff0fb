-- The statements of a program, each with its context.
use Rattle.std.specs.Prelude.{ℕ, Bool, false, List, [], ◌∷◌, ◌++◌, flat_map, Option, Some, None, option_and_then}
use Rattle.std.specs.Option.{option_map_or}
use Rattle.ti_lang.specs.Program.Types.{Pt}
use Rattle.ti_lang.specs.Program.Expressions.{NumberedExp}
use Rattle.ti_lang.specs.Program.Statements.{NumberedStm, MaybeNumbered, NumberedStms, numbered_stms}
use Rattle.ti_lang.specs.Program.Statements as st
use Rattle.ti_lang.specs.Program.Classes.{NumberedMethod, ProgramView}
use Rattle.ti_lang.specs.Program.Scope.{ScopeVariable, ScopeContents, parameters, this_of}
use Rattle.ti_lang.specs.Typing.Kinds.{domain_dim}
use Rattle.ti_lang.specs.Typing.Declared.{in_scope}
use Rattle.ti_lang.specs.Typing.Expressions.{operand_type}
use Rattle.ti_lang.specs.Typing.Singleness.{is_single_part}
use Rattle.ti_lang.specs.Typing.Effects.{Doings, together, doings, doings_of_maybe, return_acts, jump_acts}

-- ---- contexts

-- The context of a statement: its method; the parameters and the variables of the enclosing foreach loops; and, if there is an
-- enclosing loop, whether a jump out of the innermost one has a global effect. A use of any other variable carries its declaration.
pub record StmtContext : Type 0 where
  pub method : NumberedMethod
  pub variables : List ScopeVariable
  pub jump_has : Option Bool

-- the scope in a context
abbrev pub scope_of : StmtContext → ScopeContents
scope_of around = record { this_class = this_of around.method; variables = around.variables }

-- a statement in its context
pub record StmtInContext : Type 0 where
  pub around : StmtContext
  pub statement : NumberedStm

-- the statement in this context
abbrev pub stands : StmtContext → NumberedStm → StmtInContext
stands around x = record { around = around; statement = x }

-- ---- loops

-- the effect summary of the update and the body of a loop of a method
abbrev pub doings_of_loop : ProgramView → NumberedMethod → MaybeNumbered → NumberedStm → Doings
doings_of_loop p m update body = together (doings_of_maybe p (this_of m) update) (doings p (this_of m) body)

-- the loop has global effects, and so has a jump out of it
abbrev pub loop_acts : ProgramView → NumberedMethod → MaybeNumbered → NumberedStm → Bool
loop_acts p m update body = jump_acts (return_acts p m) (doings_of_loop p m update body)

-- the context of the body of a loop with this update
abbrev pub in_loop : ProgramView → StmtContext → MaybeNumbered → NumberedStm → StmtContext
in_loop p around update body = record around { jump_has = Some (loop_acts p around.method update body) }

-- the foreach variables of a scope that are single
abbrev pub singles_in : ScopeContents → ℕ → Bool
singles_in s number = option_map_or (λ (v : ScopeVariable). v.is_single) (in_scope s number) false

-- the variables and that of a foreach over a domain with this number of dimensions; without a dimension, none is added
abbrev pub with_foreach_variable : List ScopeVariable → ℕ → Bool → Option ℕ → List ScopeVariable
with_foreach_variable variables number is_single None = variables
with_foreach_variable variables number is_single (Some n) = variables ++ record { number = number; type = Pt n; is_single = is_single } ∷ []

-- the variables in the body of a foreach: its own is single exactly if its domain is
abbrev pub variables_inside : ProgramView → ScopeContents → ℕ → NumberedExp → List ScopeVariable
variables_inside p s number domain = with_foreach_variable s.variables number (is_single_part p s.this_class (singles_in s) domain)
    (option_and_then domain_dim (operand_type p s domain))

-- the context of the body of a foreach
abbrev pub in_foreach : ProgramView → StmtContext → ℕ → NumberedExp → NumberedStm → StmtContext
in_foreach p around number domain body =
    record (in_loop p around st.NoStm body) { variables = variables_inside p (scope_of around) number domain }

-- ---- nested statements

abbrev mutual
  -- the statement and all statements nested in it, each in its context; an update is in the context of its loop, not of the body, since
  -- no update is a jump
  pub inside : ProgramView → StmtContext → NumberedStm → List StmtInContext
  inside p around (st.Block body) = stands around (st.Block body) ∷ inside_all p around body
  inside p around (st.If at c a) = stands around (st.If at c a) ∷ inside p around a
  inside p around (st.IfElse at c a b) = stands around (st.IfElse at c a b) ∷ (inside p around a ++ inside p around b)
  inside p around (st.While at c body) = stands around (st.While at c body) ∷ inside p (in_loop p around st.NoStm body) body
  inside p around (st.For at first c update body) =
      stands around (st.For at first c update body)
      ∷ (inside_maybe p around first ++ (inside_maybe p around update ++ inside p (in_loop p around update body) body))
  inside p around (st.Foreach at number domain body) =
      stands around (st.Foreach at number domain body) ∷ inside p (in_foreach p around number domain body) body
  inside p around x = stands around x ∷ []

  -- the statements of an optional statement
  pub inside_maybe : ProgramView → StmtContext → MaybeNumbered → List StmtInContext
  inside_maybe p around st.NoStm = []
  inside_maybe p around (st.SomeStm x) = inside p around x

  -- the statements of a list
  pub inside_all : ProgramView → StmtContext → NumberedStms → List StmtInContext
  inside_all p around st.Nil = []
  inside_all p around (st.Cons x rest) = inside p around x ++ inside_all p around rest

-- ---- the statements of a program

-- the context of the statements of a method
abbrev pub around_method : NumberedMethod → StmtContext
around_method m = record { method = m; variables = parameters m.params; jump_has = None }

-- the statements of a method
abbrev pub standing_in_method : ProgramView → NumberedMethod → List StmtInContext
standing_in_method p m = inside_all p (around_method m) (numbered_stms m.body)

-- all statements of a program
abbrev pub standing_in : ProgramView → List StmtInContext
standing_in p = flat_map (standing_in_method p) p.methods
