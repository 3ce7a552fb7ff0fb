-- The lemmas of this crate that other crates may cite; no other module of its proofs is visible outside.
pub use Rattle.ti_lower_expr.proofs.Constants.{AllCome, IsLowered, all_come, both_come, code_comes, conversion_comes, formed_from_comes}
pub use Rattle.ti_lower_expr.proofs.Constants.{is_simple, loaded_comes, next_comes, own_simple, pops_come, simple_come, then_come}
pub use Rattle.ti_lower_expr.proofs.Doing.{Alike, behind_both, does_after, does_behind, does_it, does_one, does_then, does_value}
pub use Rattle.ti_lower_expr.proofs.Doing.{does_weaker, front_stands, rest_stands}
pub use Rattle.ti_lower_expr.proofs.Expressions.{Pushes, PushesAll, PushesNumbers, all_do, asked_alike, code, convert_does, does}
pub use Rattle.ti_lower_expr.proofs.Expressions.{element_does, field_does, from_spot, instr, load_does, moved, needed_alike, next}
pub use Rattle.ti_lower_expr.proofs.Expressions.{next_known, numbers_do, operation_means, own_does, pops_do, state, who}
pub use Rattle.ti_lower_expr.proofs.Finding.{as_many, found, newest, older, other_number, own_held, same_number}
pub use Rattle.ti_lower_expr.proofs.Jumping.{Fits, all_fit, behind_more, code_fits, conversion_fits, fits_back, fits_both, fits_forward}
pub use Rattle.ti_lower_expr.proofs.Jumping.{fits_jumpless, fits_next, fits_standing, jumpless, loaded_stays, own_stays, pops_fit}
pub use Rattle.ti_lower_expr.proofs.Jumping.{tick_follows, ticks}
pub use Rattle.ti_lower_expr.proofs.Knowing.{Comes, converted_known, declared_known, found_known, known_is_so, operated_is_known}
pub use Rattle.ti_lower_expr.proofs.Knowing.{same_known, untold, used_known}
pub use Rattle.ti_lower_expr.proofs.Lazily.{jumps, jumps_not}
pub use Rattle.ti_lower_expr.proofs.Operands.{pushed, taken_all, under_all}
pub use Rattle.ti_lower_expr.proofs.Walked.{behind_counts, length_behind, two}
