-- The lemmas of this crate that other crates may cite; no other module of its proofs is visible outside.
pub use Rattle.ti_machine.proofs.Sending.{process_send}
