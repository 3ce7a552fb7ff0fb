-- The lemmas that this crate exports; its other proofs are private.
pub use Rattle.ti_parse_expr.proofs.Answered.{inside}
pub use Rattle.ti_parse_expr.proofs.Apart.{Apart, apart}
pub use Rattle.ti_parse_expr.proofs.CompleteTypes.{EndsType, arity_reads, base_reads, field_type_reads, grid_reads, gridded_front}
pub use Rattle.ti_parse_expr.proofs.CompleteTypes.{grids_read, qualifiers_read}
pub use Rattle.ti_parse_expr.proofs.Ends.{arity_ends, based_ends, end_of, ends, gridded_ends, postfixed_ends, qualified_ends, ranges_ends}
pub use Rattle.ti_parse_expr.proofs.Ends.{whole_ends}
pub use Rattle.ti_parse_expr.proofs.Follows.{IsCloser, and_then_assoc, bracket_closes, colon_closes, comma_closes, goes, is_name}
pub use Rattle.ti_parse_expr.proofs.Follows.{paren_closes, test_reads, then_ok}
pub use Rattle.ti_parse_expr.proofs.Fronts.{begins, front_whole, not_dim}
pub use Rattle.ti_parse_expr.proofs.FullLaws.{behind_bracket_is, behind_bracket_near, behind_name_is, behind_name_near, full_near}
pub use Rattle.ti_parse_expr.proofs.FullLaws.{full_reads, full_says, operand_near_full, operand_reads}
pub use Rattle.ti_parse_expr.proofs.FullLaws.{operand_says}
pub use Rattle.ti_parse_expr.proofs.Limits.{limited_fits, limited_then, weights_long}
pub use Rattle.ti_parse_expr.proofs.Law.{Any, BeginsIn, Said, Says, after_said, append_nil, as_said, done_said, ended, over_said}
pub use Rattle.ti_parse_expr.proofs.Law.{refused_said, spent_said, then_said, token}
pub use Rattle.ti_parse_expr.proofs.Local.{Near, Same, kind_alike, near_by, near_over, near_pure, near_refuse, near_spent, near_take}
pub use Rattle.ti_parse_expr.proofs.Local.{near_then, place_alike}
pub use Rattle.ti_parse_expr.proofs.Phrases.{Post, binds_small, postfixed_some, ranges_snoc, spells_is}
pub use Rattle.ti_parse_expr.proofs.Related.{r_arity, r_base, r_field_type, r_grid, r_grids, r_qualifiers}
pub use Rattle.ti_parse_expr.proofs.Sound.{whole_int}
pub use Rattle.ti_parse_expr.proofs.SoundTypes.{GridRest, MoreGrids, all_qualifiers_say, any_qualifiers, arity_says, base_says}
pub use Rattle.ti_parse_expr.proofs.SoundTypes.{field_type_says, grid_says, gridded_append, grids_say, some_base}
pub use Rattle.ti_parse_expr.proofs.TokenKinds.{bracket_is, close_is, colon_is, comma_is, dot_is, paren_is, shut_is}
pub use Rattle.ti_parse_expr.proofs.Turns.{deeper, one_more}
