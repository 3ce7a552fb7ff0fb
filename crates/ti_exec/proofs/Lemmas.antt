-- The lemmas of this crate that other crates may cite; no other module of its proofs is visible outside.
pub use Rattle.ti_exec.proofs.Advances.{moved, with_room}
pub use Rattle.ti_exec.proofs.Asked.{expects_at, handed_on, left_behind, valued_gives, waits_at}
pub use Rattle.ti_exec.proofs.Begun.{block_done, left_here}
pub use Rattle.ti_exec.proofs.Formed.{fits_formed}
pub use Rattle.ti_exec.proofs.Works.{left_inside, left_within, none_left, of_result, receives_at, walks_at}
