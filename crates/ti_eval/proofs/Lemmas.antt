-- The lemmas of this crate that other crates may cite; no other module of its proofs is visible outside.
pub use Rattle.ti_eval.proofs.Evaluating.{evaluating, exps_at, no_exps}
pub use Rattle.ti_eval.proofs.Points.{tells_same}
pub use Rattle.ti_eval.proofs.Slots.{newest, one_more}
pub use Rattle.ti_eval.proofs.Steps.{steps, then_stops}
