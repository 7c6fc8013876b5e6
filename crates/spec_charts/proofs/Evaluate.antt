-- `unfolding evaluate` opens every definition that plain tables are written in, so that closed facts about
-- them compute.
-- Assumes nothing.
use mathlib.Core.List.{flat_map}
use Rattle.theory_lists.specs.Lists.{all, any, filter, first, prefix_length, places_from, without, sum_of, count_from, up_to}
use Rattle.spec_plane.specs.Point.{orient, same_point, orient_at, whole}
use Rattle.spec_plane.specs.Triangle.{corner_at, rotated, triangle_of, proper, holds, strictly_inside, holds_at, strictly_inside_at, doubled_area}
use Rattle.spec_plane.specs.Position.{on_line, position_of, position}
use Rattle.spec_plane.specs.Interior.{some_corner_inner, no_side_separates, interiors_meet}
use Rattle.spec_plane.specs.Box.{apart, side_box, triangle_box, all_corners, all_inner, all_outer, side_meets, triangle_meets}
use Rattle.theory_orthtree.specs.Morton.{lowest_bits, morton_key, key_coordinate}
use Rattle.theory_orthtree.specs.Leaves.{leaves_below}
use Rattle.theory_orthtree.specs.Entries.{empty_mark, is_mark, same_cell, cell_heads_after, cell_heads, span, range_end, covers, overlaps, meetings, listed_together, entry_fits, follows, chain_after, chain}
use Rattle.spec_squares.specs.Square.{side_at, whole_square, top_left, top_right, bottom_left, bottom_right, quarters, z_order, square_key, square_of_key, square_box}
use Rattle.spec_charts.specs.Table.{sixteen_bit, point_at, triangle_at, table_of, triangle_numbers, table_numbers, no_triangle, numbered, table_sides}
use Rattle.spec_charts.specs.Cells.{sides_meeting, is_end, common_end, stopped, cells_in, cells, triangles_meeting, or_mark, entry_of, cell_entries, entries_in, entries_of}
use Rattle.spec_charts.specs.Refusals.{refuse_if, and_then}
use Rattle.spec_charts.specs.Edits.{triangle, rotations, faulty, refuse_faulty, given_table, load_table, has_corner, ending_in, closes_round, merge_around, merge_three, take_out_three, take_out_table, shares_side, flip_as, flip_with, flip_among, flip_table, within_table, split_at, split_row, side_first, neighbour_or, neighbour_from, side_split_at, side_split_both, side_split_row, lowest_holder, insert_on_side, insert_in, insert_taken, insert_table, sixteen_bit_event, proposed, limited, within_limit, counted, event_on, after_event, after_events, plain_table}
use Rattle.spec_charts.specs.Overlay.{pair_numbers, pair_listed, pairs_listed, within_pairs, overlay_of, ranges_overlap, cell_meetings}
use Rattle.spec_charts.specs.Reading.{cell_of, listing, located, found_position, sound, total_area}

unfoldable pub evaluate : Unit {0}
unfolding flat_map all any filter first prefix_length places_from without sum_of count_from up_to orient same_point orient_at whole corner_at rotated triangle_of proper holds strictly_inside holds_at strictly_inside_at doubled_area on_line position_of position some_corner_inner no_side_separates interiors_meet apart side_box triangle_box all_corners all_inner all_outer side_meets triangle_meets lowest_bits morton_key key_coordinate leaves_below empty_mark is_mark same_cell cell_heads_after cell_heads span range_end covers overlaps meetings listed_together entry_fits follows chain_after chain side_at whole_square top_left top_right bottom_left bottom_right quarters z_order square_key square_of_key square_box sixteen_bit point_at triangle_at table_of triangle_numbers table_numbers no_triangle numbered table_sides sides_meeting is_end common_end stopped cells_in cells triangles_meeting or_mark entry_of cell_entries entries_in entries_of refuse_if and_then triangle rotations faulty refuse_faulty given_table load_table has_corner ending_in closes_round merge_around merge_three take_out_three take_out_table shares_side flip_as flip_with flip_among flip_table within_table split_at split_row side_first neighbour_or neighbour_from side_split_at side_split_both side_split_row lowest_holder insert_on_side insert_in insert_taken insert_table sixteen_bit_event proposed limited within_limit counted event_on after_event after_events plain_table pair_numbers pair_listed pairs_listed within_pairs overlay_of ranges_overlap cell_meetings cell_of listing located found_position sound total_area
evaluate = tt
