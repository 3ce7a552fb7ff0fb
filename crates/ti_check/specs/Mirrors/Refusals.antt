-- For proofs only: what the checker's results for statements mean.
use Rattle.std.specs.Prelude.{◌≡◌, Bool, true, false, List, [], ◌++◌, flat_map}
use Rattle.ti_lang.specs.Program.Statements.{NumberedStm}
use Rattle.ti_lang.specs.Program.Statements as st
use Rattle.ti_lang.specs.Program.Classes.{ProgramView}
use Rattle.ti_rules.specs.declared.refusal.Refusal.{Refusal}
use Rattle.ti_rules.specs.Mirrors.First.{earliest}
use Rattle.ti_rules.specs.StmtInContext.{StmtContext, StmtInContext, in_loop, in_foreach, inside, inside_maybe, inside_all}
use Rattle.ti_rules.specs.Broken.Statements.{standing_refusals}
use Rattle.ti_rules.specs.SingleRules.{standing_single_refusals}
use Rattle.ti_check.specs.declared.reports.Refusals.{Refusals}

-- the first errors of the two groups of rules are right
abbrev pub AreFirstRefusals : List Refusal → List Refusal → Refusals → Type 0
AreFirstRefusals types single f = (f.types ≡ earliest types) × (f.single ≡ earliest single)

-- the first errors of these statements, each in its context, are right
abbrev pub AreStmtRefusals : ProgramView → List StmtInContext → Refusals → Type 0
AreStmtRefusals p xs f = AreFirstRefusals (flat_map (standing_refusals p) xs) (flat_map (standing_single_refusals p) xs) f

-- the statements in a statement, without itself
abbrev pub inner_statements : ProgramView → StmtContext → NumberedStm → List StmtInContext
inner_statements p around (st.Block body) = inside_all p around body
inner_statements p around (st.If at c a) = inside p around a
inner_statements p around (st.IfElse at c a b) = inside p around a ++ inside p around b
inner_statements p around (st.While at c body) = inside p (in_loop p around st.NoStm body) body
inner_statements p around (st.For at first c update body) =
    inside_maybe p around first ++ (inside_maybe p around update ++ inside p (in_loop p around update body) body)
inner_statements p around (st.Foreach at number domain body) = inside p (in_foreach p around number domain body) body
inner_statements p around x = []

-- whether the statement is of a form without statements in it
abbrev pub is_simple : NumberedStm → Bool
is_simple (st.Block body) = false
is_simple (st.If at c a) = false
is_simple (st.IfElse at c a b) = false
is_simple (st.While at c body) = false
is_simple (st.For at first c update body) = false
is_simple (st.Foreach at number domain body) = false
is_simple x = true
