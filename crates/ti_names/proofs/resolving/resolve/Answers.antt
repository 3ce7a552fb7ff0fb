use Rattle.std.proofs.Common.{◌∙◌, ap, sym, subst, inl}
use Rattle.std.proofs.Math.Logic.{∥∥₁_map}
use Rattle.ti_syntax.specs.Trees.Text.{tree_of}
use Rattle.ti_lang.specs.Numbering.{Numbers}
use Rattle.ti_rules.specs.BrokenNames.{name_refusals, BreaksNames}
use Rattle.ti_rules.proofs.Lemmas.{first_is, first_only}
use Rattle.ti_names.specs.declared.error.NameErr.TheVariants.{Refused}
use Rattle.ti_names.specs.Mirrors.Numbered.{number_program}
use Rattle.ti_names.proofs.Law.{accepted, unbroken_program, same_program}
use Rattle.ti_names.proofs.resolving.resolve.Goals as goal

pub returns-in-Some-clause-resolves : goal.returns-in-Some-clause-resolves
returns-in-Some-clause-resolves c = first_is (name_refusals (tree_of c.args.tree.now)) c.in-Some.refusal (sym c.in_ok-resolved.ensures.refusal ∙ c.in-Some.is)

pub returns-in-Some-clause-accepted : goal.returns-in-Some-clause-accepted
returns-in-Some-clause-accepted c =
    let text = tree_of c.args.tree.now in
    let first = first_is (name_refusals text) c.in-Some.refusal (sym c.in_ok-resolved.ensures.refusal ∙ c.in-Some.is) in
    λ program numbers. absurd (unbroken_program text program numbers c.in-Some.refusal first.is_broken)

pub returns-in-Some-clause-refused : goal.returns-in-Some-clause-refused
returns-in-Some-clause-refused c =
    let text = tree_of c.args.tree.now in
    let first = first_is (name_refusals text) c.in-Some.refusal (sym c.in_ok-resolved.ensures.refusal ∙ c.in-Some.is) in
    λ refusal other. inl (ap Refused (first_only (BreaksNames text) c.in-Some.refusal refusal first other))

pub of-requires : goal.of-requires
of-requires c =
    let text = tree_of c.args.tree.now in
    let numbers = accepted text (sym c.in_ok-resolved.ensures.refusal ∙ c.in-None.is) in
    ∥∥₁_map c.args.tree.now.spelled (λ spelled. (text, spelled, subst (Numbers text) (sym c.in_ok-resolved.ensures.part) numbers))

pub returns-in-None-clause-resolves : goal.returns-in-None-clause-resolves
returns-in-None-clause-resolves c =
    let text = tree_of c.args.tree.now in
    let numbers = accepted text (sym c.in_ok-resolved.ensures.refusal ∙ c.in-None.is) in
    subst (Numbers text) (sym (c.of.ensures ∙ c.in_ok-resolved.ensures.part)) numbers

pub returns-in-None-clause-accepted : goal.returns-in-None-clause-accepted
returns-in-None-clause-accepted c =
    let text = tree_of c.args.tree.now in
    let numbers = accepted text (sym c.in_ok-resolved.ensures.refusal ∙ c.in-None.is) in
    λ program other. c.of.ensures ∙ c.in_ok-resolved.ensures.part ∙ same_program text (number_program text) program numbers other

pub returns-in-None-clause-refused : goal.returns-in-None-clause-refused
returns-in-None-clause-refused c =
    let text = tree_of c.args.tree.now in
    let numbers = accepted text (sym c.in_ok-resolved.ensures.refusal ∙ c.in-None.is) in
    λ refusal first. unbroken_program text (number_program text) numbers refusal first.is_broken
