-- Every definition on a session's way, opened, so that a row of the table is computed.
use Rattle.std.specs.Prelude.{Bool}
use Rattle.def_base.specs.Tests.{every, any}
use Rattle.def_layout.specs.Entries.{seek, look, insert_sorted, remove_key, same_entries, ten_bits}
use Rattle.def_layout.specs.Numbers.{be32, put32, tab, chunks, read_entry, entry_bytes, entries_bytes, same_bytes}
use Rattle.def_layout.specs.Pages.{page_kind, page_kind_number, kind_is, own_ok, never_used, layout_by, layout}
use Rattle.def_layout.specs.PageBytes.{left_by, left_in, without_left, with_left, block_bytes, page_front, bits, marks_word, marks_bytes, page_body, page_bytes, read_entries, read_mark, read_marks, page_fields, block_by, read_block}
use Rattle.def_layout.specs.Records.{kind_number}
use Rattle.def_layout.specs.Rows.{carries, named_only, one_side, row_says, row, names_pages}
use Rattle.def_layout.specs.RecordBytes.{record_bytes, slot_bytes}
use Rattle.def_layout.specs.Desks.{eight_rows, same_row, same_rows, same_desk}
use Rattle.def_model.specs.Change.{link_in, unlink_in, entries_in, cut_to_size, role, share_in_a, share_in_b, change_a, change_b, change_c, change}
use Rattle.def_model.specs.Fit.{found, found_value, after, nowhere, in_order, link_fits, side_by_side, share_fits_a, share_fits_b, fits_a, fits_b, fits_map, fits_role}
use Rattle.def_model.specs.Redo.{when_named, places, redo_at, redo_page, redo_left, redo_lefts, redo_places, redo_record, replay, count_places, redo_count, fits_places, redo_fits}
use Rattle.def_model.specs.TreeRules.{flat, node_of, chain, first_child, collect, bottom, leaves, leaf_records, rising, ends_ok, node_ok, level_ok, matches, first_page, pages_ok, below_ok, counted, ones, root_least, levels_ok, walk_ok, tree_ok}
use Rattle.def_model.specs.Lookup.{entry_or, leaf_for, fetched, first_of, or_after, next_by, next_above, or_this, last_below, last_entry, or_before, previous_by, previous_below}
use Rattle.def_model.specs.Links.{linked, lefts_ok, relink, of_leaves, relinked}
use Rattle.def_model.specs.Update.{logged, emit_by, emit, highest, fresh, taking_by, emit_taking, split_page, room_by, make_room, link_child, linked_by, direct_by, direct_for, direct, raise_by, raise_root, descend_add, find_add, put_record, moved_by, join_by, join, next_entry, entry_before, link_after_by, link_after, unlink_join, join_left, join_by_entry, restock, refind, stocked_by, stocked, lower_root, step_by, descend_remove, remove_record}
use Rattle.def_model.specs.Log.{record_at, is_empty, records_of, slots_from, log_area, slots_ok}
use Rattle.def_model.specs.Batches.{find_batch, change_batch, drop_batch, rest_of, next_undo, written, undone, mark_set, tell, told, open_batches, is_record_of, follows, unmarked, undoes_line, newest_is, undoes, nothing_pending, chains, chain_step, chain_ok, row_of, desk_of, pending_count}
use Rattle.def_model.specs.Pending.{holds, held, held_between, held_from, newest_on, alternates, lines_alternate, agrees, newest_agree, apart, pending_ok}
use Rattle.def_model.specs.Areas.{page_in, block_ok, blocks_ok, store, store_all, store_some, slot_stores, log_stores}
use Rattle.def_model.specs.Answers.{refusal_number, answer_numbers, first_broken}
use Rattle.def_model.specs.Sound.{layouts_ok, numbers_ok, log_ok, reserve, reserves_ok, update_has_slots, update_has_pages, begin_has_slots, desk_ok, same_slot, same_slots, stored_ok, sound}
use Rattle.def_model.specs.Loading.{columns, keys_rise, groups, last_key, group_nodes, links, tree_count, load_levels, level_pages, levels_pages, loaded_pages}
use Rattle.def_model.specs.Calls.{run_of, run_side, start_side, kept_run, stored_run, is_none, formatted_pages, page_stores, format_stores, format_areas, load_checks, load_areas, begin_checks, begin_batch, fetch_checks, value_or, next_limit, next_checks, next_answer, previous_limit, previous_checks, last_of, insert_checks, insert_slide, delete_checks, delete_slide, commit_checks, commit_batch, aborted, abort_checks, abort_batch, mark_checks, returned, return_checks, return_batch, write_out_checks, write_out_page}
use Rattle.def_model.specs.Undo.{undo_by, undo_line, undo_above, return_run, end_batch, abort_run, mark_by, mark_all, end_by, end_idle, newer, newest_due, with_lines, after_line, undo_newest, without_newest, undo_step, undo_all}
use Rattle.def_model.specs.Restart.{redone_pages, redone, settle, restarted, restart_checks, restart_areas}
use Rattle.def_model.specs.OnBytes.{start_checks, question_checks, question_answer, request_checks, checks, start_does, request_does, does, refused_desk, refused_work, refused, outcome_by, outcome}
use Rattle.def_sessions.specs.Play.{numbers, ended, cut_off, forged, with_work, low_bits, play_step, play, new, seen, same_answers, shows, comes_true, Session}

unfoldable pub computed : Session → Bool
unfolding every any seek look insert_sorted remove_key same_entries ten_bits be32 put32 tab chunks entry_bytes entries_bytes same_bytes page_kind_number kind_is
    own_ok never_used layout_by layout page_front bits marks_word marks_bytes page_body page_bytes left_by left_in without_left with_left block_bytes read_entry page_kind read_entries read_mark read_marks page_fields block_by read_block kind_number carries named_only one_side row_says row
    names_pages record_bytes slot_bytes eight_rows same_row same_rows same_desk link_in unlink_in entries_in cut_to_size role share_in_a share_in_b change_a change_b change_c
    change found found_value after nowhere in_order link_fits side_by_side share_fits_a share_fits_b fits_a fits_b fits_map fits_role when_named places redo_at redo_page
    redo_left redo_lefts redo_places redo_record replay count_places redo_count fits_places redo_fits flat node_of chain first_child collect bottom leaves leaf_records rising
    ends_ok node_ok level_ok matches first_page pages_ok below_ok counted ones root_least levels_ok walk_ok tree_ok entry_or leaf_for fetched first_of
    or_after next_by next_above or_this last_below last_entry or_before previous_by previous_below linked lefts_ok relink of_leaves relinked logged emit_by emit highest fresh taking_by emit_taking split_page room_by make_room link_child linked_by direct_by
    direct_for direct raise_by raise_root descend_add find_add put_record moved_by join_by join next_entry entry_before link_after_by link_after
    unlink_join join_left join_by_entry restock refind stocked_by stocked lower_root step_by descend_remove remove_record record_at is_empty records_of slots_from
    log_area slots_ok find_batch change_batch drop_batch rest_of next_undo written undone mark_set tell told open_batches is_record_of follows unmarked undoes_line
    newest_is undoes nothing_pending chains chain_step chain_ok row_of desk_of pending_count holds held held_between held_from newest_on alternates lines_alternate
    agrees newest_agree apart pending_ok page_in block_ok blocks_ok store store_all store_some slot_stores log_stores refusal_number answer_numbers
    first_broken layouts_ok numbers_ok log_ok reserve reserves_ok update_has_slots update_has_pages begin_has_slots desk_ok same_slot same_slots stored_ok
    sound run_of run_side start_side kept_run stored_run is_none formatted_pages page_stores format_stores format_areas columns keys_rise groups last_key group_nodes links tree_count load_levels level_pages levels_pages loaded_pages load_checks load_areas begin_checks begin_batch
    fetch_checks value_or next_limit next_checks next_answer previous_limit previous_checks last_of insert_checks insert_slide
    delete_checks delete_slide commit_checks commit_batch aborted abort_checks abort_batch mark_checks returned return_checks return_batch write_out_checks
    write_out_page undo_by undo_line undo_above return_run end_batch abort_run mark_by mark_all end_by end_idle newer newest_due with_lines after_line undo_newest
    without_newest undo_step undo_all redone_pages redone settle restarted restart_checks restart_areas start_checks question_checks question_answer request_checks checks start_does request_does does refused_desk refused_work refused outcome_by outcome numbers ended cut_off forged with_work low_bits play_step
    play new seen same_answers shows comes_true
computed s = comes_true s
