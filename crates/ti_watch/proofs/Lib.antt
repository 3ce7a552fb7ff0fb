pub mod Fronts
pub mod LinesMore
pub mod Listed
pub mod KindCounts
