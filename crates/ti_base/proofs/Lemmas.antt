-- The lemmas that this crate exports; its other proofs are private.
pub use Rattle.ti_base.proofs.DomainLaws.{among_from, among_to, below_from, below_trans, filter_in, from_below, meet_lists, minus_lists}
pub use Rattle.ti_base.proofs.DomainLaws.{number_from, number_self, other_below, same_from, same_self, union_dim, union_in, union_lists}
pub use Rattle.ti_base.proofs.FormLaws.{is_point_decides, is_rect_decides}
pub use Rattle.ti_base.proofs.PointLaws.{irreflexive, length_points, one_list}
pub use Rattle.ti_base.proofs.WalkLaws.{goes_on}
pub use Rattle.ti_base.proofs.WholeLaws.{bits_modulo, read_back, rounds, wraps_some}
