mod NextLaws
mod PieceLaws
mod SetLaws
mod SlabLaws
mod StepLaws
pub mod Lemmas
