mod ListLaws
mod SeenLaws
mod SliceLaws
mod StepLaws
mod WholeLaws
pub mod Lemmas
