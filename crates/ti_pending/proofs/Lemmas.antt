-- The lemmas of this crate that other crates may cite; no other module of its proofs is visible outside.
pub use Rattle.ti_pending.proofs.Following.{OneNext, begins_on, begins_seated}
pub use Rattle.ti_pending.proofs.Acted.{seated_with, seated_asking, seated_still, code_of, acting, gone, wait_takes_none}
pub use Rattle.ti_pending.proofs.Ahead.{seated_here, runs_own, seated_own, next_own, went_from, refused_from}
pub use Rattle.ti_pending.proofs.Together.{other_on, seated_on, seated_kept, seated_more, steps_set}
