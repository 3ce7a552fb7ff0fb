-- The lemmas that this crate exports; its other proofs are private.
pub use Rattle.ti_single.proofs.Together.{doings_end, doings_from, doings_step, together_nothing}
