-- The lemmas that other crates can use; the other modules of this crate's proofs are private to it.
pub use Rattle.ti_lang.proofs.Copies.{copies}
pub use Rattle.ti_lang.proofs.Crossing.{program_send, program_sync}
pub use Rattle.ti_lang.proofs.Elements.{method_here, method_lookups}
pub use Rattle.ti_lang.proofs.MeaningLaws.Computing.{Computes, none_left, used_up}
pub use Rattle.ti_lang.proofs.MeaningLaws.Costs.{after_pays}
pub use Rattle.ti_lang.proofs.MeaningLaws.Dims.{dim_is, dims_are}
pub use Rattle.ti_lang.proofs.MeaningLaws.Falling.{CallFits, Giving, MoveFalls, called_fits, guarded_giving, then_giving, work_falls}
pub use Rattle.ti_lang.proofs.MeaningLaws.Forms.{class_told}
pub use Rattle.ti_lang.proofs.MeaningLaws.Limits.{Within, after_keeps, begin_within, within}
pub use Rattle.ti_lang.proofs.MeaningLaws.NewThings.{class_then, grid_then, same_name}
pub use Rattle.ti_lang.proofs.MeaningLaws.Performed.{work_computes}
pub use Rattle.ti_lang.proofs.MeaningLaws.Requests.{Anyone, Each, FirstTaken, Of, any_first, no_end_asked, performed_asks}
pub use Rattle.ti_lang.proofs.MeaningLaws.Running.{decided, entry_same, fronts, goes_on, history_grows, only_acts, run_answered, solo_run}
pub use Rattle.ti_lang.proofs.MeaningLaws.Running.{some_entry, taker, world_same}
pub use Rattle.ti_lang.proofs.MeaningLaws.Short.{Short, asked_once, fetched_short, member_short, needed_then, short_less, short_then}
pub use Rattle.ti_lang.proofs.MeaningLaws.Short.{silent_coordinate}
pub use Rattle.ti_lang.proofs.MeaningLaws.Silent.{Silent, asks_fails, asks_gives, fails_gives, gives_same, kept_silent, operated_silent}
pub use Rattle.ti_lang.proofs.MeaningLaws.Silent.{rest_same, silent_guarded, silent_value, to_domain_silent}
pub use Rattle.ti_lang.proofs.MeaningLaws.Sizes.{Fits, FitsAll, MethodsFit, most, need, needs_all, size, sizes, weigh, weight_of}
pub use Rattle.ti_lang.proofs.MeaningLaws.Steps.{after_same, next_same, none_some, settled_same, settles_at, some_same}
pub use Rattle.ti_lang.proofs.MeaningLaws.TextAgrees.{agrees, how_many_is}
pub use Rattle.ti_lang.proofs.MeaningLaws.Things.{answer_same, fault_then, made_once, made_value, placed, possible_then, some_then}
pub use Rattle.ti_lang.proofs.MeaningLaws.Things.{views_then}
pub use Rattle.ti_lang.proofs.MeaningLaws.Total.{Falls, Fitting, fits_bound, goes_falls, if_falls, moves_fall, next_some, returns_fall}
pub use Rattle.ti_lang.proofs.MeaningLaws.Total.{step_falls, ticks_fall, valued_falls, weight}
pub use Rattle.ti_lang.proofs.ProgramBridges.{program_bridges, seen_numbered_block, seen_numbered_index, seen_numbered_member}
pub use Rattle.ti_lang.proofs.ProgramBridges.{seen_numbered_point, seen_numbered_rect, seen_own_call, seen_static_call}
pub use Rattle.ti_lang.proofs.RangeDims.{count_arguments, count_ranges, many_arguments}
