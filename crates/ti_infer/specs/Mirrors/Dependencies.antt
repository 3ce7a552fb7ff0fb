-- Mirrors the code, for contracts of private functions: which annotations an expression requires to be single. `None` among them says
-- that it can't be single under any marking.
use Rattle.std.specs.Prelude.{ℕ, Bool, not, if◌then◌else◌, List, [], ◌∷◌, ◌++◌, Option, Some, None, option_map}
use Rattle.ti_base.specs.declared.place.Place.{Place}
use Rattle.ti_lang.specs.Program.Types.{Declaration, Typed, Foreach}
use Rattle.ti_lang.specs.Program.Expressions.{NumberedExp, NumberedExps, NumberedRange, NumberedRanges}
use Rattle.ti_lang.specs.Program.Expressions as x
use Rattle.ti_lang.specs.Program.Statements.{NumberedInit}
use Rattle.ti_lang.specs.Program.Statements as st
use Rattle.ti_lang.specs.Program.Classes.{NumberedResult, NumberedMethod, ProgramView}
use Rattle.ti_lang.specs.Program.Classes as c
use Rattle.ti_lang.specs.Program.Scope.{this_of}
use Rattle.ti_lang.specs.Typing.Kinds.{is_local, is_point_type}
use Rattle.ti_lang.specs.Typing.TextTypes.{syntactic_type}
use Rattle.ti_lang.specs.Typing.Called.{called_method, member_called}
use Rattle.ti_lang.specs.Typing.Singleness.{tells_of_domain, is_single_sent}
use Rattle.ti_blame.specs.declared.mark.MarkKind.TheVariants as kind
use Rattle.ti_blame.specs.declared.mark.Mark.{Mark}
use Rattle.ti_infer.specs.Marks.{variable_place}

abbrev pub variable_mark : Place → Mark
variable_mark at = record { place = at; kind = kind.Variable }

abbrev pub result_mark : Place → Mark
result_mark at = record { place = at; kind = kind.Result }

abbrev pub method_mark : Place → Mark
method_mark at = record { place = at; kind = kind.Method }

-- the requirement that no marking satisfies, if the test holds
abbrev pub plain_if : Bool → List (Option Mark)
plain_if b = if b then None ∷ [] else []

-- in a method of a program, with what makes its foreach variables single
module _ (p : ProgramView) (m : NumberedMethod) (inside : ℕ → List (Option Mark)) where
  abbrev pub variable_dependencies : ℕ → Declaration → List (Option Mark)
  variable_dependencies number (Typed is_single type) = option_map variable_mark (variable_place m number) ∷ []
  variable_dependencies number Foreach = inside number

  abbrev mutual
    pub dependencies : NumberedExp → List (Option Mark)
    dependencies (x.Int at n) = []
    dependencies (x.Long at n) = []
    dependencies (x.Truth at b) = []
    dependencies (x.NumProcs at) = []
    dependencies (x.Variable at v) = variable_dependencies v.number v.declared
    dependencies (x.Point at xs) = all_dependencies xs
    dependencies (x.Rect at ranges) = ranges_dependencies ranges
    dependencies (x.Unary at op a) = dependencies a
    dependencies (x.Binary at op a b) = dependencies a ++ dependencies b
    dependencies (x.Cast at to a) = plain_if (is_local to.type) ++ dependencies a
    dependencies (x.Index at a xs) = plain_if (not (is_point_type (syntactic_type p (this_of m) a))) ++ (dependencies a ++ all_dependencies xs)
    dependencies (x.Member at a name args) = plain_if (not (tells_of_domain (member_called p (this_of m) a name))) ++ (dependencies a ++ all_dependencies args)
    dependencies e = None ∷ []

    pub all_dependencies : NumberedExps → List (Option Mark)
    all_dependencies x.NoExp = []
    all_dependencies (x.MoreExp a rest) = dependencies a ++ all_dependencies rest

    pub range_dependencies : NumberedRange → List (Option Mark)
    range_dependencies (x.Plain low high) = dependencies low ++ dependencies high
    range_dependencies (x.Stepped low high step) = (dependencies low ++ dependencies high) ++ dependencies step

    pub ranges_dependencies : NumberedRanges → List (Option Mark)
    ranges_dependencies x.NoRange = []
    ranges_dependencies (x.MoreRange r rest) = range_dependencies r ++ ranges_dependencies rest

  -- the annotation of a result, at the name of its method
  abbrev pub result_dependencies : Place → NumberedResult → List (Option Mark)
  result_dependencies at c.Void = None ∷ []
  result_dependencies at (c.Typed t) = Some (result_mark at) ∷ []

  -- of a whole right side: the result of what it calls, or else the expression itself
  abbrev pub callee_dependencies : Option NumberedMethod → NumberedExp → List (Option Mark)
  callee_dependencies None e = dependencies e
  callee_dependencies (Some y) e = result_dependencies y.place y.result

  abbrev pub whole_dependencies : NumberedExp → List (Option Mark)
  whole_dependencies e = callee_dependencies (called_method p (this_of m) e) e

  abbrev pub initial_dependencies : NumberedInit → List (Option Mark)
  initial_dependencies (st.Value e) = whole_dependencies e
  initial_dependencies (st.NewRegion at) = []
  initial_dependencies (st.NewObject at region class) = None ∷ []
  initial_dependencies (st.NewGrid at region element dims_at dims) = None ∷ []
  initial_dependencies (st.Broadcast at e root) = plain_if (not (is_single_sent (syntactic_type p (this_of m) e)))
