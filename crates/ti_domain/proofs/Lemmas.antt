-- The lemmas of this crate that other crates may use; other modules of its proofs aren't visible outside.
pub use Rattle.ti_domain.proofs.NextLaws.{next_point, next_same}
pub use Rattle.ti_domain.proofs.PieceLaws.{dim_of}
