-- The lemmas of this crate that other crates may use; other modules of its proofs aren't visible outside.
pub use Rattle.ti_io.proofs.Rising.{rose_since}
pub use Rattle.ti_io.proofs.Written.{writes_stop, writes_then}
