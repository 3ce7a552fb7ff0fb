-- The lemmas of this crate that other crates may use; other modules of its proofs aren't visible outside.
pub use Rattle.ti_store.proofs.Appended.{answers_more, answers_still, arrivals_more, end_more, other_more}
pub use Rattle.ti_store.proofs.Crossing.{action_send, place_send, store_send}
pub use Rattle.ti_store.proofs.Fitted.{fits_none, fitting, world_more}
pub use Rattle.ti_store.proofs.OneMore.{fault_more}
pub use Rattle.ti_store.proofs.Running.{next_acts}
