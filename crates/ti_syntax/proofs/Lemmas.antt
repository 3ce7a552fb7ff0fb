-- The lemmas that this crate exports; its other proofs are private.
pub use Rattle.ti_syntax.proofs.Bridges.{bridges, seen_block, seen_call, seen_index, seen_member, seen_point, seen_rect}
