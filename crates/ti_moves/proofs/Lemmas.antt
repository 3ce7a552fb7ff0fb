-- The lemmas of this crate that other crates may cite; no other module of its proofs is visible outside.
pub use Rattle.ti_moves.proofs.Calling.{from_params, variable_at}
