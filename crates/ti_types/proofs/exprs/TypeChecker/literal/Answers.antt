use Rattle.std.proofs.Common.{[], ap, sym, ◌∙◌, length, map, flat_map, option_map}
use Rattle.ti_lang.specs.Program.Expressions.{numbered_ranges}
use Rattle.ti_lang.specs.Program.Scope.{contents_of}
use Rattle.ti_lang.specs.Program.Views.{program_of, bound_of}
use Rattle.ti_lang.specs.Typing.Expressions.{bounds, range_count}
use Rattle.ti_rules.specs.Mirrors.First.{earlier_of, earliest}
use Rattle.ti_rules.specs.Parts.{parts_of_ranges}
use Rattle.ti_rules.specs.Broken.Expressions.{places_of, refusals_at}
use Rattle.ti_rules.specs.Broken.Misplaced.{bounds_misplaced}
use Rattle.ti_rules.proofs.Lemmas.{first_append}
use Rattle.ti_lang.proofs.Lemmas.{count_ranges}
use Rattle.ti_types.specs.Mirrors.Arguments.{summary}
use Rattle.ti_types.specs.Mirrors.Nodes.{summary_literal}
use Rattle.ti_types.specs.Mirrors.Walk.{operands_in}
use Rattle.ti_types.proofs.NodeSummaries.{literal_is}
use Rattle.ti_types.proofs.Walked.{ranges_told}
use Rattle.ti_types.proofs.exprs.TypeChecker.literal.Goals as goal

pub returns-clause-first : goal.returns-clause-first
returns-clause-first c =
    let p = program_of c.args.self.now.program.now in
    let s = contents_of c.args.scope.now in
    let rs = numbered_ranges (map bound_of c.args.ranges.now) in
    let told = ranges_told p s rs c.ranges-found.result c.ranges-found.ensures in
    let inner = flat_map (refusals_at p s) (parts_of_ranges rs) in
    c.earlier_of.ensures ∙ ap (λ a. earlier_of a c.ranges-found.result.misplaced) told.0
    ∙ ap (earlier_of (earliest inner)) told.1 ∙ sym (first_append inner (bounds_misplaced p s rs))

pub returns-clause-types : goal.returns-clause-types
returns-clause-types c =
    let p = program_of c.args.self.now.program.now in
    let s = contents_of c.args.scope.now in
    let rs = numbered_ranges (map bound_of c.args.ranges.now) in
    let places = places_of (operands_in rs) in
    let told = ranges_told p s rs c.ranges-found.result c.ranges-found.ensures in
    c.literal_types.ensures ∙ ap (option_map (summary_literal (length c.args.ranges.now))) told.2
    ∙ ap (λ n. option_map (summary_literal n) (option_map (summary places []) (bounds p s rs)))
    (count_ranges c.args.ranges.now)
    ∙ literal_is places [] (range_count rs) (bounds p s rs)
