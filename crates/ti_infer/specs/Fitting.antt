-- Where annotations are allowed.
use Rattle.std.specs.Prelude.{◌≡◌, Bool, true, List, [], ◌∷◌}
use Rattle.ti_base.specs.declared.place.Place.{Place}
use Rattle.ti_lang.specs.Program.Statements.{NumberedStm, MaybeNumbered, NumberedStms, numbered_stms}
use Rattle.ti_lang.specs.Program.Statements as st
use Rattle.ti_lang.specs.Program.Classes.{NumberedMethod, ProgramView}
use Rattle.ti_rules.specs.Broken.Words.{type_word_refusals}
use Rattle.ti_rules.specs.TypeRules.{head_refusals}
use Rattle.ti_blame.specs.Marks.{Marks}
use Rattle.ti_infer.specs.Marked.{marked_type, marked_method}

module _ (declared : Place → Bool) where
  abbrev mutual
    -- with the annotations, the qualifiers of each declaration in a statement are allowed
    pub FitsIn : NumberedStm → Type 0
    FitsIn (st.Declare at type variable value) = type_word_refusals true (marked_type (declared at) at type) ≡ []
    FitsIn (st.Block body) = FitsAll body
    FitsIn (st.If at c a) = FitsIn a
    FitsIn (st.IfElse at c a b) = FitsIn a × FitsIn b
    FitsIn (st.While at c body) = FitsIn body
    FitsIn (st.For at first c update body) = FitsMaybe first × FitsMaybe update × FitsIn body
    FitsIn (st.Foreach at variable domain body) = FitsIn body
    FitsIn x = Unit {0}

    pub FitsMaybe : MaybeNumbered → Type 0
    FitsMaybe st.NoStm = Unit {0}
    FitsMaybe (st.SomeStm x) = FitsIn x

    pub FitsAll : NumberedStms → Type 0
    FitsAll st.Nil = Unit {0}
    FitsAll (st.Cons x rest) = FitsIn x × FitsAll rest

-- with the annotations, the modifiers and qualifiers of the head of a method and of its declarations are allowed
abbrev pub MarksFitMethod : Marks → NumberedMethod → Type 0
MarksFitMethod marks m = (head_refusals (marked_method marks m) ≡ []) × FitsAll marks.variables (numbered_stms m.body)

abbrev pub MarksFitMethods : Marks → List NumberedMethod → Type 0
MarksFitMethods marks [] = Unit {0}
MarksFitMethods marks (m ∷ ms) = MarksFitMethod marks m × MarksFitMethods marks ms

-- all annotations of a marking are allowed where they are
abbrev pub MarksFit : Marks → ProgramView → Type 0
MarksFit marks p = MarksFitMethods marks p.methods
