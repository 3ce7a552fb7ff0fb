-- The lemmas of this crate that other crates may use; other modules of its proofs aren't visible outside.
pub use Rattle.ti_rect.proofs.AxisLaws.{count_some, forward}
pub use Rattle.ti_rect.proofs.FamilyLaws.{apart_more, covers_append, covers_list, covers_map, covers_none, covers_one, covers_same, in_at}
pub use Rattle.ti_rect.proofs.FamilyLaws.{in_more}
pub use Rattle.ti_rect.proofs.MeetPoints.{meet_points, of_points}
pub use Rattle.ti_rect.proofs.NumberLists.{InList, both_true, on_from, on_listed, on_to, span_between}
pub use Rattle.ti_rect.proofs.OneRect.{at_first, at_second, at_third, one_rect}
pub use Rattle.ti_rect.proofs.PointLists.{first_step, points_listed, second_step, third_step}
pub use Rattle.ti_rect.proofs.ReadBack.{span_of}
pub use Rattle.ti_rect.proofs.RectLaws.{full, full_of, high_on, low_in, low_on, none_in, none_on, on_same, point_in, tidy_first}
pub use Rattle.ti_rect.proofs.RectLaws.{tidy_second, tidy_third, unused_second, unused_third, zero_on}
pub use Rattle.ti_rect.proofs.TestLaws.{any_of, in_tests, leaves_tests}
pub use Rattle.ti_rect.proofs.TranslateLaws.{shifted_form, translated_full}
pub use Rattle.ti_rect.proofs.ViewLaws.{view_inside}
