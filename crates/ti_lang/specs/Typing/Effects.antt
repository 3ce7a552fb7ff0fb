-- Global effects: statements that all processes must execute together.
use Rattle.std.specs.Prelude.{ℕ, Bool, true, false, ◌&&◌, ◌||◌, Option, Some}
use Rattle.std.specs.Option.{option_map_or}
use Rattle.ti_lang.specs.Program.Expressions.{NumberedExp}
use Rattle.ti_lang.specs.Program.Expressions as x
use Rattle.ti_lang.specs.Program.Statements.{NumberedInit, NumberedStm, MaybeNumbered, NumberedStms, numbered_stms}
use Rattle.ti_lang.specs.Program.Statements as st
use Rattle.ti_lang.specs.Program.Classes.{NumberedMethod, ProgramView}
use Rattle.ti_lang.specs.Program.Scope.{this_of}
use Rattle.ti_lang.specs.Typing.BuiltIn.{BuiltIn, Exchange, Delete}
use Rattle.ti_lang.specs.Typing.Called.{called_method, member_called}
use Rattle.ti_lang.specs.Typing.Singleness.{declared_single, has_single_result}

-- ---- effects of single expressions

-- the built-in member is a collective
abbrev pub is_collective : Option BuiltIn → Bool
is_collective (Some Exchange) = true
is_collective (Some Delete) = true
is_collective _ = false

-- the expression is a call of a collective built-in member
abbrev pub is_collective_call : ProgramView → Option ℕ → NumberedExp → Bool
is_collective_call program this (x.Member at a name args) = is_collective (member_called program this a name)
is_collective_call program this e = false

-- an expression that is a statement or a right side performs a collective or calls a method declared single
abbrev pub acts : ProgramView → Option ℕ → NumberedExp → Bool
acts program this e =
    option_map_or (λ (m : NumberedMethod). m.is_single) (called_method program this e) false || is_collective_call program this e

-- a right side performs a collective, as a broadcast and a new region do, or calls a method declared single
abbrev pub initial_acts : ProgramView → Option ℕ → NumberedInit → Bool
initial_acts program this (st.Value e) = acts program this e
initial_acts program this (st.NewRegion at) = true
initial_acts program this (st.NewObject at region class) = false
initial_acts program this (st.NewGrid at region element dims_at dims) = false
initial_acts program this (st.Broadcast at e root) = true

-- the target of an assignment is a single variable; a foreach variable isn't counted
abbrev pub is_single_target : NumberedExp → Bool
is_single_target (x.Variable at v) = declared_single (λ number. false) v.number v.declared
is_single_target e = false

-- ---- the effects of a statement, including all statements in it

-- The effect summary of a statement. It acts: declares or changes a single variable, performs a collective, or calls a method
-- declared single. It returns from the method. It jumps: breaks or continues the enclosing loop.
pub record Doings : Type 0 where
  pub acts : Bool
  pub returns : Bool
  pub jumps : Bool

-- no effects
abbrev pub no_effects : Doings
no_effects = record { acts = false; returns = false; jumps = false }

-- the summary that acts if the test holds
abbrev pub acting : Bool → Doings
acting b = record { acts = b; returns = false; jumps = false }

-- the union of two summaries
abbrev pub together : Doings → Doings → Doings
together a b = record { acts = a.acts || b.acts; returns = a.returns || b.returns; jumps = a.jumps || b.jumps }

-- a loop contains the jumps of its body
abbrev pub kept_in_loop : Doings → Doings
kept_in_loop a = record a { jumps = false }

module _ (program : ProgramView) (this : Option ℕ) where
  abbrev mutual
    -- the summary of a statement in a method with `this` of a class, or with none; it depends on no scope
    pub doings : NumberedStm → Doings
    doings (st.Declare at type variable value) = acting (type.is_single || initial_acts program this value)
    doings (st.Assign at target value) = acting (is_single_target target || initial_acts program this value)
    doings (st.Update at op target e) = acting (is_single_target target || acts program this e)
    doings (st.Step at op target) = acting (is_single_target target)
    doings (st.Call e) = acting (acts program this e)
    doings (st.Barrier at) = acting true
    doings (st.Block body) = doings_of_all body
    doings (st.If at c a) = doings a
    doings (st.IfElse at c a b) = together (doings a) (doings b)
    doings (st.While at c body) = kept_in_loop (doings body)
    doings (st.For at first c update body) =
        together (doings_of_maybe first) (kept_in_loop (together (doings_of_maybe update) (doings body)))
    doings (st.Foreach at variable domain body) = kept_in_loop (doings body)
    doings (st.Break at) = record no_effects { jumps = true }
    doings (st.Continue at) = record no_effects { jumps = true }
    doings (st.Return at value) = record no_effects { returns = true }
    doings x = no_effects

    -- the summary of an optional statement
    pub doings_of_maybe : MaybeNumbered → Doings
    doings_of_maybe st.NoStm = no_effects
    doings_of_maybe (st.SomeStm x) = doings x

    -- the summary of a list of statements
    pub doings_of_all : NumberedStms → Doings
    doings_of_all st.Nil = no_effects
    doings_of_all (st.Cons x rest) = together (doings x) (doings_of_all rest)

-- the summary of the body of a method
abbrev pub doings_of_method : ProgramView → NumberedMethod → Doings
doings_of_method program m = doings_of_all program (this_of m) (numbered_stms m.body)

-- ---- global effects

-- a `return` has a global effect if its method has a single result or a statement that acts
abbrev pub return_acts : ProgramView → NumberedMethod → Bool
return_acts program m = has_single_result m || (doings_of_method program m).acts

-- a jump has a global effect if its loop, with this summary of body and update, acts or has a `return` with a global effect
abbrev pub jump_acts : Bool → Doings → Bool
jump_acts return_has d = d.acts || (d.returns && return_has)

-- a statement with this summary has global effects if it acts, or has a `return` or a jump with a global effect
abbrev pub has_global_effects : Bool → Bool → Doings → Bool
has_global_effects return_has jump_has d = jump_acts return_has d || (d.jumps && jump_has)
