-- The lemmas that other crates can use; the other modules of this crate's proofs are private to it.
pub use Rattle.ti_rules.proofs.Bodies.{body_fits, params_behind, point_fits}
pub use Rattle.ti_rules.proofs.First.{first_alone, first_append, first_append_each, first_cons_each, first_is, first_nil, first_node}
pub use Rattle.ti_rules.proofs.First.{first_none, firsts, sooner_assoc, sooner_none}
pub use Rattle.ti_rules.proofs.FirstRefusal.{first_only}
pub use Rattle.ti_rules.proofs.Named.{AllVariables, SiteFits, TextFits, behind_fits, behind_maybe_fits, behind_more, dims_in, exp_dims}
pub use Rattle.ti_rules.proofs.Named.{exp_known, none_some, only_if_there, own_there, past_fits, past_keeps, past_maybe_fits}
pub use Rattle.ti_rules.proofs.Named.{past_maybe_keeps, some_same, static_there, text_fits}
pub use Rattle.ti_rules.proofs.OneAnswer.{OneReading, never_both, one_program, one_refusal, one_tree_of, tokens_or_bytes, tree_or_misfit}
pub use Rattle.ti_rules.proofs.OneProgramRefusal.{found, not_among, nothing_found}
pub use Rattle.ti_rules.proofs.Sound.Expressions.{count_places, has_type}
pub use Rattle.ti_rules.proofs.Sound.Refused.{and_left, and_right, each_left, each_right, nil_left, nil_right, no_misfit, not_mistaken}
pub use Rattle.ti_rules.proofs.Sound.Refused.{not_refused, operand_there, there_is}
