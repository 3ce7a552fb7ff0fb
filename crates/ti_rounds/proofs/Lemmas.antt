-- The lemmas of this crate that other crates may use; other modules of its proofs aren't visible outside.
pub use Rattle.ti_rounds.proofs.KeptCourses.{seat_kept}
