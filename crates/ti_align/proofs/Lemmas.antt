-- The lemmas of this crate that other crates may use; other modules of its proofs aren't visible outside.
pub use Rattle.ti_align.proofs.RunTypes.Acting.{next_handed, next_there}
pub use Rattle.ti_align.proofs.Alignment.Aligning.{way_next}
pub use Rattle.ti_align.proofs.Runs.Arrived.{Comes, at_other, back, before, comes, is_own, more_other, more_own, now, quiet, reached, stays}
pub use Rattle.ti_align.proofs.Runs.Arrived.{there}
pub use Rattle.ti_align.proofs.Runs.Balance.{balanced}
pub use Rattle.ti_align.proofs.Alignment.Checked.{checked_fine}
pub use Rattle.ti_align.proofs.SliceAlone.Deciding.{fits_decides, fits_wanted}
pub use Rattle.ti_align.proofs.RunTypes.Departed.{plain_same}
pub use Rattle.ti_align.proofs.Runs.Entries.{arrivals_both, got_both, left_count, other, own}
pub use Rattle.ti_align.proofs.SliceAlone.Finishing.{slice_falls}
pub use Rattle.ti_align.proofs.Alignment.Fitting.{FineMethods}
pub use Rattle.ti_align.proofs.RunTypes.Heaping.{class_stays, grid_is, grid_of_stays, object_is, same_cells, same_self}
pub use Rattle.ti_align.proofs.SliceAlone.OneAnswer.{one_answer}
pub use Rattle.ti_align.proofs.RunTypes.Operating.{none_some, or_either, or_one, some_same}
pub use Rattle.ti_align.proofs.SliceAlone.Pacing.{rests}
pub use Rattle.ti_align.proofs.Runs.Paying.{after_pays, no_more_than_fuel}
pub use Rattle.ti_align.proofs.Alignment.Possible.{all_came}
pub use Rattle.ti_align.proofs.RunTypes.Ranged.{one_value}
pub use Rattle.ti_align.proofs.Alignment.Rounds.{acts_as, alike, arrival_is, depart_answered, depart_is, leaves, said}
pub use Rattle.ti_align.proofs.Runs.Running.{none_entry}
pub use Rattle.ti_align.proofs.Alignment.Slice.{Arrival, Departure, Silent, State, move_of, slice}
pub use Rattle.ti_align.proofs.SliceAlone.Sliced.{IsBare, Sliced, Slices, begin_sliced, slices}
pub use Rattle.ti_align.proofs.SliceAlone.Slicing.{none_wait}
pub use Rattle.ti_align.proofs.Alignment.Stepping.{GoesOn, MovesAt}
pub use Rattle.ti_align.proofs.Alignment.Stopping.{rounds_balance}
pub use Rattle.ti_align.proofs.Runs.Vars.{and_left, and_right, if_false, if_true, not_true, or_false, or_left, or_right, true_false}
pub use Rattle.ti_align.proofs.Runs.Ways.{waiting}
