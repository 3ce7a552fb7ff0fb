-- The lemmas of this crate that other crates may cite; its other proof modules are private.
pub use Rattle.ti_blame.proofs.Order.{names_total}
