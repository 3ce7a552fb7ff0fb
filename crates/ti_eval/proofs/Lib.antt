mod Bits
mod Evaluating
mod LiteralLaws
mod MemberLaws
mod Nexts
mod Points
mod PointsAbove
mod SameRects
mod Sizes
mod Slots
mod Steps
mod TeamRects
mod Turning
pub mod Lemmas
