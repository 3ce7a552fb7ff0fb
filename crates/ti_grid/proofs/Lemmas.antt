-- The lemmas of this crate that other crates may use; other modules of its proofs aren't visible outside.
pub use Rattle.ti_grid.proofs.ListLaws.{place_below, place_found, place_missing}
