-- The lemmas of this crate that other crates may use; other modules of its proofs aren't visible outside.
pub use Rattle.ti_heap.proofs.Listing.{cells_listed}
pub use Rattle.ti_heap.proofs.Lists.{get_last}
