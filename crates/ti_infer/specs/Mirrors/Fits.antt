-- Mirrors the code, for contracts of private functions: constraints that rule out annotations where they aren't allowed, and those of
-- parameters whose method isn't annotated.
use Rattle.std.specs.Prelude.{Bool, true, false, not, ◌&&◌, if◌then◌else◌, List, [], ◌∷◌, ◌++◌, flat_map, None}
use Rattle.ti_base.specs.declared.place.Place.{Place}
use Rattle.ti_lang.specs.Members.{is_single}
use Rattle.ti_lang.specs.Program.Types.{NumberedType}
use Rattle.ti_lang.specs.Program.Statements.{NumberedStm, MaybeNumbered, NumberedStms, numbered_stms}
use Rattle.ti_lang.specs.Program.Statements as st
use Rattle.ti_lang.specs.Program.Classes.{NumberedParam, NumberedParams, MainArgs, Params, NumberedResult, NumberedMethod, ProgramView}
use Rattle.ti_lang.specs.Program.Classes as c
use Rattle.ti_rules.specs.declared.refusal.Refusal.{Refusal}
use Rattle.ti_lang.specs.Typing.Declared.{is_static_method}
use Rattle.ti_rules.specs.Broken.Words.{type_word_refusals}
use Rattle.ti_blame.specs.declared.reason.Reason.{Reason}
use Rattle.ti_blame.specs.declared.reason.Reason.TheVariants.{OfMethod, OfResult, OfVariable}
use Rattle.ti_blame.specs.declared.implication.Conclusion.TheVariants.{One}
use Rattle.ti_blame.specs.declared.implication.Implication.{Implication}
use Rattle.ti_infer.specs.Marked.{marked_type}
use Rattle.ti_infer.specs.Mirrors.Implications.{one_each, own_dependencies}

abbrev pub is_none : List Refusal → Bool
is_none [] = true
is_none (r ∷ rs) = false

-- a constraint that rules it out unconditionally, unless the test holds
abbrev pub rule_out_unless : Bool → Reason → List Implication
rule_out_unless b x = if b then [] else record { from = None; then = One x } ∷ []

-- the declared type would still be allowed with `single` appended
abbrev pub accepts_single : Place → NumberedType → Bool
accepts_single at t = is_none (type_word_refusals true (marked_type true at t))

abbrev mutual
  pub declared_edges : NumberedStm → List Implication
  declared_edges (st.Declare at type variable value) = rule_out_unless (accepts_single at type) (OfVariable at)
  declared_edges (st.Block body) = declared_edges_all body
  declared_edges (st.If at c a) = declared_edges a
  declared_edges (st.IfElse at c a b) = declared_edges a ++ declared_edges b
  declared_edges (st.While at c body) = declared_edges body
  declared_edges (st.For at first c update body) = declared_edges_maybe first ++ (declared_edges_maybe update ++ declared_edges body)
  declared_edges (st.Foreach at variable domain body) = declared_edges body
  declared_edges s = []

  pub declared_edges_maybe : MaybeNumbered → List Implication
  declared_edges_maybe st.NoStm = []
  declared_edges_maybe (st.SomeStm s) = declared_edges s

  pub declared_edges_all : NumberedStms → List Implication
  declared_edges_all st.Nil = []
  declared_edges_all (st.Cons s rest) = declared_edges s ++ declared_edges_all rest

-- the method can be annotated: it is static, and doesn't have the modifier `single` yet
abbrev pub method_accepts_single : NumberedMethod → Bool
method_accepts_single m = is_static_method m && not (is_single m.modifiers)

abbrev pub result_edges : NumberedMethod → NumberedResult → List Implication
result_edges m c.Void = []
result_edges m (c.Typed t) = rule_out_unless (accepts_single m.place t) (OfResult m.place)

abbrev pub param_edges : NumberedMethod → List NumberedParam → List Implication
param_edges m [] = []
param_edges m (w ∷ ws) =
    (rule_out_unless (accepts_single w.place w.ty) (OfVariable w.place) ++ one_each (own_dependencies m) (One (OfVariable w.place))) ++ param_edges m ws

abbrev pub all_param_edges : NumberedMethod → NumberedParams → List Implication
all_param_edges m MainArgs = []
all_param_edges m (Params ws) = param_edges m ws

abbrev pub method_fit_edges : NumberedMethod → List Implication
method_fit_edges m =
    ((rule_out_unless (method_accepts_single m) (OfMethod m.place) ++ result_edges m m.result) ++ all_param_edges m m.params)
    ++ declared_edges_all (numbered_stms m.body)

abbrev pub fit_edges : ProgramView → List Implication
fit_edges p = flat_map method_fit_edges p.methods
