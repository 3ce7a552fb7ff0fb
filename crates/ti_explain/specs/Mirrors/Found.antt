-- For proofs only: what the search for the statement that is refused has found.
use Rattle.std.specs.Prelude.{◌≡◌, ◌⊎◌, ℕ, ◌<◌, Bool, if◌then◌else◌, List, [], ◌++◌, length, Contains, Option, Some, None, slice_get}
use Rattle.std.specs.declared.vec.Vec.{Vec}
use Rattle.std.specs.declared.alloc.Global.{Global}
use Rattle.ti_syntax.specs.Trees.Text.{tree_of}
use Rattle.ti_lang.specs.Program.Statements.{NumberedStm}
use Rattle.ti_lang.specs.Program.Statements as st
use Rattle.ti_lang.specs.Program.Classes.{NumberedMethod, ProgramView}
use Rattle.ti_rules.specs.declared.refusal.Refusal.{Refusal}
use Rattle.ti_rules.specs.Mirrors.First.{earliest}
use Rattle.ti_rules.specs.StmtInContext.{StmtContext, StmtInContext, in_loop, in_foreach, inside, inside_maybe, inside_all, standing_in_method}
use Rattle.ti_rules.specs.Broken.Statements.{standing_refusals}
use Rattle.ti_rules.specs.SingleRules.{standing_single_refusals}
use Rattle.ti_lang.specs.Typing.Effects.{return_acts, jump_acts}
use Rattle.ti_single.specs.EffectsAt.{effects_in_loop}
use Rattle.ti_explain.specs.declared.reason.RefusalReason.{RefusalReason}
use Rattle.ti_explain.specs.declared.search.SoughtRefusal.{SoughtRefusal}
use Rattle.ti_explain.specs.SingleReasons.{single_head_refusals, statement_reasons, head_reasons}
use Rattle.ti_explain.specs.TypeReasons.{type_statement_reasons, type_head_refusals, type_head_reasons}

-- the errors of a statement by itself, by the rules of types and qualifiers or else by those of single values
abbrev pub own_refusals : Bool → ProgramView → StmtInContext → List Refusal
own_refusals by_types p x = if by_types then standing_refusals p x else standing_single_refusals p x

-- the reasons for the refusal of a statement, by the same rules
abbrev pub reasons_of_statement : SoughtRefusal → ProgramView → StmtInContext → List RefusalReason
reasons_of_statement sought p x =
    if sought.by_types then type_statement_reasons (tree_of sought.tree.now) p x sought.refusal else statement_reasons p x sought.refusal

-- the first refusal of the statement by itself is this one
abbrev pub IsRefusedAs : ProgramView → SoughtRefusal → StmtInContext → Type 0
IsRefusedAs p sought x = earliest (own_refusals sought.by_types p x) ≡ Some sought.refusal

-- the reasons are those of a statement of the list that is refused so; if there are none, no statement of the list is
abbrev pub IsFound : ProgramView → SoughtRefusal → List StmtInContext → Option (Vec RefusalReason Global) → Type 0
IsFound p sought list None = (x : StmtInContext) → Contains list x → IsRefusedAs p sought x → ⊥
IsFound p sought list (Some reasons) =
    (x : StmtInContext) × Contains list x × IsRefusedAs p sought x × (reasons.items ≡ reasons_of_statement sought p x)

-- the statements in a statement, without itself
abbrev pub nested : ProgramView → StmtContext → NumberedStm → List StmtInContext
nested p around (st.Block body) = inside_all p around body
nested p around (st.If at c a) = inside p around a
nested p around (st.IfElse at c a b) = inside p around a ++ inside p around b
nested p around (st.While at c body) = inside p (in_loop p around st.NoStm body) body
nested p around (st.For at first c update body) =
    inside_maybe p around first ++ (inside_maybe p around update ++ inside p (in_loop p around update body) body)
nested p around (st.Foreach at number domain body) = inside p (in_foreach p around number domain body) body
nested p around x = []

-- the context in this loop
abbrev pub in_this_loop : ProgramView → StmtContext → NumberedStm → StmtContext
in_this_loop p around x = record around { jump_has = Some (jump_acts (return_acts p around.method) (effects_in_loop p around.method x)) }

-- ---- methods

-- the errors of the head of a method
abbrev pub refusals_of_head : Bool → ProgramView → NumberedMethod → List Refusal
refusals_of_head by_types p m = if by_types then type_head_refusals m else single_head_refusals p m

-- the reasons for the refusal of a head
abbrev pub reasons_of_head : SoughtRefusal → ProgramView → NumberedMethod → List RefusalReason
reasons_of_head sought p m =
    if sought.by_types then type_head_reasons m sought.refusal.rule sought.refusal.place else head_reasons p m sought.refusal.rule

-- the reasons are those of the head of the method, which is refused so; if there are none, it isn't
abbrev pub IsFoundInHead : ProgramView → SoughtRefusal → NumberedMethod → Option (Vec RefusalReason Global) → Type 0
IsFoundInHead p sought m None = earliest (refusals_of_head sought.by_types p m) ≡ Some sought.refusal → ⊥
IsFoundInHead p sought m (Some reasons) =
    (earliest (refusals_of_head sought.by_types p m) ≡ Some sought.refusal) × (reasons.items ≡ reasons_of_head sought p m)

-- the reasons are those of the head or of a statement of the method
abbrev pub IsFoundInMethod : ProgramView → SoughtRefusal → NumberedMethod → Option (Vec RefusalReason Global) → Type 0
IsFoundInMethod p sought m None = IsFoundInHead p sought m None × IsFound p sought (standing_in_method p m) None
IsFoundInMethod p sought m (Some reasons) =
    IsFoundInHead p sought m (Some reasons) ⊎ IsFound p sought (standing_in_method p m) (Some reasons)

-- the same for the method of this number
abbrev pub IsFoundAt : ProgramView → SoughtRefusal → ℕ → Option (Vec RefusalReason Global) → Type 0
IsFoundAt p sought index found = (m : NumberedMethod) × (slice_get p.methods index ≡ Some m) × IsFoundInMethod p sought m found

-- the same for any method; if there are none, no method is refused so
abbrev pub IsFoundAmong : ProgramView → SoughtRefusal → Option (Vec RefusalReason Global) → Type 0
IsFoundAmong p sought None = (k : ℕ) → k < length p.methods → IsFoundAt p sought k None
IsFoundAmong p sought (Some reasons) = (k : ℕ) × IsFoundAt p sought k (Some reasons)
