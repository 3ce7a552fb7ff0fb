-- Proofs that the program slice has exactly one answer for each list of outcomes, and what it determines of runs.
pub mod Sure
pub mod Sliced
pub mod FitWays
pub mod Pacing
pub mod Pathed
pub mod Slicing
pub mod Ticking
pub mod Telling
pub mod OneAnswer
pub mod Deciding
pub mod Finishing
pub mod SomeAnswer
