-- Mirrors the code, function by function. No public claim depends on it: the contract of `slice_next` cites only `Slice` of ti_align.
pub mod FirstWork
pub mod SingleCalls
pub mod Step
pub mod Answer
