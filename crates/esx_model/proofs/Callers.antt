-- What the crates above may cite of the proofs here. Each lemma speaks of the definitions alone.

-- Sites on a path stay sound.
pub use Rattle.esx_model.proofs.EverySound.{every_step_sound, every_event_sound, every_run_sound_from, every_run_sound, none_there, opening_sound}
pub use Rattle.esx_model.proofs.event.Admission.{admitted_nowhere}
-- The step behind an accepted event, and how paths go on.
pub use Rattle.esx_model.proofs.Stepped.{stepped, step_of, run_one, run_one_more, here_done}
-- What the reserves give.
pub use Rattle.esx_model.proofs.Counting.{full_site, slot_is_there, drawn}
pub use Rattle.esx_model.proofs.ReserveLaws.{Goes, passing, swap_out_goes, replace_goes}
pub use Rattle.esx_model.proofs.Machines.{drawn_is_here, apart_counts, old_place, count_placed, here_placed, out_placed, lent_placed}
pub use Rattle.esx_model.proofs.RowsOfSite.{rows_of_sound, slow_is_share, fast_is_share, active_is_share, resident_most}
-- What an accepted event tells.
pub use Rattle.esx_model.proofs.Gates.{HasVm, of_vm, passed, accepted, gives, same_site, not_not, runs, stops, within_page}
pub use Rattle.esx_model.proofs.event.Access.{settled, read_room, write_room, access_kept, whole_page}
pub use Rattle.esx_model.proofs.event.Sharing.{SeesPage, Sees, look_sees, look_sound, beside, no_share, frame_below, here_past, place_within, share_marked}
pub use Rattle.esx_model.proofs.event.Sampling.{IsCounted, counted_kept}
pub use Rattle.esx_model.proofs.event.Balloon.{popped_becomes, below_max}
pub use Rattle.esx_model.proofs.event.Replacing.{Trades, IsTraded, by_steps, traded, slot_taken}
-- Where there is room for a page.
pub use Rattle.esx_model.proofs.Rooms.{Room, room_same, room_nowhere, room_lent, room_free, room_slot, room_unused, room_empty, room_alone, room_again, room_shared, room_to_share}
pub use Rattle.esx_model.proofs.Rooms.{IsUnused, least_unused, slot_unused, IsIn, row_here, shared_row, private_row, private_alone, apart_frames, pages_at_is}
-- Sites after one machine changed, or one page went to another place.
pub use Rattle.esx_model.proofs.Kept.{Becomes, row_only, placed_sound, placed_is, placed_at, site_with, site_at, with_change_is, vm_there, vm_placed_there, place_changed, places_same, overhead_same, page_is_in}
pub use Rattle.esx_model.proofs.HintsKept.{hints_placed, hints_stay, hints_where, hints_more, no_hint, other_hint_private, all_filter}
pub use Rattle.esx_model.proofs.Keys.{key_small, short_small}
pub use Rattle.esx_model.proofs.OnePage.{one_page, one_hint, nothing_passes}
-- The tables of those sites.
pub use Rattle.esx_model.proofs.Shown.{row_by, row_same, row_clear, out_row_same, listing_is, shown_by, row_only_shown}
pub use Rattle.esx_model.proofs.Placed.{placed_shown, written_shown}
pub use Rattle.esx_model.proofs.OtherShown.{start_shown, given_back_shown, admitted_shown, gone_shown, gone_bare_shown, retargeted_shown, taxed_shown, hinted_shown}
pub use Rattle.esx_model.proofs.EventShown.{left_put, joined_put, put_twice, access_shown, access_in_place_shown, traded_shown}
-- Rows that are free, counts, and the book's sums.
pub use Rattle.esx_model.proofs.Counts.{free_row, free_rows, count_in_frame, frames_counted}
pub use Rattle.esx_model.proofs.Books.{book_read}
-- Lists, rows of tables, and states.
pub use Rattle.esx_model.proofs.Lists.{split_at_index, one, chosen, eqb_same, eqb_other, or_false, either, not_true, some_same}
pub use Rattle.esx_model.proofs.Lists.{find_passes, find_in, all_map, all_at, all_append, all_middle}
pub use Rattle.esx_model.proofs.Lists.{rows_same, rows_move, row_in_rows, some_below}
pub use Rattle.esx_model.proofs.Counts.{counts_same}
pub use Rattle.esx_model.proofs.event.Starting.{starts}
-- Epochs on a path.
pub use Rattle.esx_model.proofs.Epochs.{later_within, event_within, path_within, each_within, shown_within}
