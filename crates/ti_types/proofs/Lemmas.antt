-- The lemmas that this crate exports; its other proofs are private.
pub use Rattle.ti_types.proofs.Loops.{drop_next, each_end, each_step, none_sooner, seen_end, seen_step}
