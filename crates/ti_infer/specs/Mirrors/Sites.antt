-- Mirrors the code, for contracts of private functions: what the code reads in the context of a statement.
use Rattle.std.specs.Prelude.{ℕ, not, if◌then◌else◌, List, [], ◌++◌, Option, map}
use Rattle.ti_base.specs.declared.place.Place.{Place}
use Rattle.ti_blame.specs.declared.reason.Reason.TheVariants.{OfCollective}
use Rattle.ti_blame.specs.declared.mark.Mark.{Mark}
use Rattle.ti_blame.specs.declared.implication.Conclusion.{Conclusion}
use Rattle.ti_blame.specs.declared.implication.Conclusion.TheVariants.{One}
use Rattle.ti_blame.specs.declared.implication.Implication.{Implication}
use Rattle.ti_lang.specs.declared.program.exprs.Expr.{Expr}
use Rattle.ti_lang.specs.Program.Expressions.{NumberedExp, NumberedExps, NumberedRange, NumberedRanges, numbered_exps}
use Rattle.ti_lang.specs.Program.Scope.{this_of}
use Rattle.ti_lang.specs.Program.Classes.{NumberedMethod, ProgramView}
use Rattle.ti_lang.specs.Program.Views.{program_of, numbered_method_of, expression_of}
use Rattle.ti_lang.specs.Typing.Kinds.{is_point_type}
use Rattle.ti_lang.specs.Typing.TextTypes.{syntactic_type}
use Rattle.ti_lang.specs.Typing.Called.{called_method, member_called}
use Rattle.ti_lang.specs.Typing.Singleness.{tells_of_domain}
use Rattle.ti_rules.specs.SingleRules.{is_delete}
use Rattle.ti_infer.specs.declared.constraints.site.MethodSite.{MethodSite}
use Rattle.ti_infer.specs.declared.constraints.site.VariableDeps.{VariableDeps}
use Rattle.ti_infer.specs.Mirrors.Dependencies.{plain_if, dependencies, all_dependencies, range_dependencies, ranges_dependencies}
use Rattle.ti_infer.specs.Mirrors.Implications.{inside_at, one_each, call_edges}

abbrev pub program_at : MethodSite → ProgramView
program_at s = program_of s.program.now.parts

abbrev pub method_of_site : MethodSite → NumberedMethod
method_of_site s = numbered_method_of s.method.now

abbrev pub one_inside : VariableDeps → ℕ × List (Option Mark)
one_inside v = (v.number, v.dependencies.items)

abbrev pub inside_of : List VariableDeps → List (ℕ × List (Option Mark))
inside_of vs = map one_inside vs

abbrev pub dependencies_at : MethodSite → List VariableDeps → NumberedExp → List (Option Mark)
dependencies_at s vs e = dependencies (program_at s) (method_of_site s) (inside_at (inside_of vs)) e

abbrev pub all_dependencies_at : MethodSite → List VariableDeps → NumberedExps → List (Option Mark)
all_dependencies_at s vs es = all_dependencies (program_at s) (method_of_site s) (inside_at (inside_of vs)) es

abbrev pub range_dependencies_at : MethodSite → List VariableDeps → NumberedRange → List (Option Mark)
range_dependencies_at s vs r = range_dependencies (program_at s) (method_of_site s) (inside_at (inside_of vs)) r

abbrev pub ranges_dependencies_at : MethodSite → List VariableDeps → NumberedRanges → List (Option Mark)
ranges_dependencies_at s vs rs = ranges_dependencies (program_at s) (method_of_site s) (inside_at (inside_of vs)) rs

abbrev pub index_dependencies_at : MethodSite → List VariableDeps → Expr → List Expr → List (Option Mark)
index_dependencies_at s vs a xs = plain_if (not (is_point_type (syntactic_type (program_at s) (this_of (method_of_site s)) (expression_of a))))
    ++ (dependencies_at s vs (expression_of a) ++ all_dependencies_at s vs (numbered_exps (map expression_of xs)))

abbrev pub member_dependencies_at : MethodSite → List VariableDeps → Expr → ℕ → List Expr → List (Option Mark)
member_dependencies_at s vs a name xs = plain_if (not (tells_of_domain (member_called (program_at s) (this_of (method_of_site s)) (expression_of a) name)))
    ++ (dependencies_at s vs (expression_of a) ++ all_dependencies_at s vs (numbered_exps (map expression_of xs)))

abbrev pub member_edges : MethodSite → Conclusion → List VariableDeps → Expr → Place → Expr → ℕ → List Expr → List Implication
member_edges s whole vs e at a name xs =
    call_edges (program_at s) (method_of_site s) whole (inside_of vs) (called_method (program_at s) (this_of (method_of_site s)) (expression_of e))
    (numbered_exps (map expression_of xs))
    ++ (if is_delete (member_called (program_at s) (this_of (method_of_site s)) (expression_of a) name) then one_each
    (dependencies_at s vs (expression_of a)) (One (OfCollective at)) else [])
