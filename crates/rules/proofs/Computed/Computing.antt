-- A proof that says `unfolding everything` computes with all definitions of document 01: unfolding a definition unfolds
-- what its own line names. Assumes nothing.
use mathlib.Core.List.{flatten}
use Rattle.algebra.specs.Sums.{sum, product}
use Rattle.algebra.specs.Interpolation.{descending, others, weight, basis, interpolate}
use Rattle.algebra.specs.Modulo.{inverse_from}
use Rattle.algebra.specs.Lists.{tabulate, every, count_from, sum_over}
use Rattle.words.specs.Bytes.{value_of, bytes_of, bytes_of_all, splice, elements_of, all_below, same_bytes}
use Rattle.records.specs.Outcome.{or_else}
use Rattle.records.specs.Records.{read_from}
use Rattle.rules.specs.Columns.{length_within, bit_length}
use Rattle.rules.specs.Columns.{limited_column, column_body, column_of, entries_of, published_of, values_of, largest_of, entries_in}
use Rattle.rules.specs.Columns.{published_in, published_from, sheet_limits, limited_sheet, read_sheet, fault_in, list_in}
use Rattle.rules.specs.Columns.{totals_fit}
use Rattle.rules.specs.Circuit.{step_bytes, circuit_bytes, bit_check, bit_checks, option_sum, option_adds, bit_adds, bit_sum}
use Rattle.rules.specs.Circuit.{top_sums, top_steps, number_checks, product_check, point_checks, point_steps}
use Rattle.rules.specs.Circuit.{column_steps, wires_of, gates_of, tests_of, circuit_from, circuit_of, wires_in, gates_in}
use Rattle.rules.specs.Circuit.{tests_in}
use Rattle.rules.specs.CircuitReader.{step_body, step_of, step_wires, step_gates, step_tests, step_fault, judged_step, judge_step}
use Rattle.rules.specs.CircuitReader.{circuit_limits, limited_circuit, read_circuit, circuit_fault, count_in, sheet_circuit}
use Rattle.rules.specs.CircuitReader.{sheet_circuit_refusal}
use Rattle.rules.specs.Run.{step_run, run_from, run}
use Rattle.rules.specs.Values.{two_numbers, point_entry, encoded, legal_values, encoding}
use Rattle.rules.specs.EveryReturn.{after_each, legal_lists, lists_in, lists_bytes, every_return_bytes, every_return_length}
use Rattle.rules.specs.EveryReturn.{every_return_refusal}
use Rattle.rules.specs.Judging.{share_size, first_only, zero_then, folded, sigma_from, h_of, a_of, b_of, c_of, share_run, f_at}
use Rattle.rules.specs.Judging.{g_at, h_at, d_of, e_of, sigma_of, tau_of, added_up, d_sum, e_sum, sigma_sum, tau_sum}
use Rattle.rules.specs.Judging.{allowed_pair, lets_in}
use Rattle.rules.specs.Making.{f_of, g_of, whole, share_of, message, share_length, random_count, made_from}
use Rattle.rules.specs.Making.{values_fault, random_fault, make_refusal, make_bytes}
use Rattle.rules.specs.Messages.{header_fault, elements_fault, round_sound, still_missing, own_kept, place_sound}
use Rattle.rules.specs.Messages.{round_fault, same_pair, challenge_fault, element_sum, both_zero}
use Rattle.rules.specs.Server.{is_member, open_fault, waiting_of, sigma_in, message_one, message_two, summed, published_shares}
use Rattle.rules.specs.Server.{totals_message, totals_length, while_open, while_one, while_two, while_entry, while_waiting}
use Rattle.rules.specs.Server.{share_refusal, one_refusal, two_refusal, enter_refusal, drop_refusal, close_refusal}
use Rattle.rules.specs.Keyed.{find, under, without, changed, those}
use Rattle.rules.specs.WaitingList.{first_where, waiting_count, waiting_at, wait_as, wait_at, records_from, present, record_sound}
use Rattle.rules.specs.WaitingList.{records_sound, waiting_sound}
use Rattle.rules.specs.Table.{totals_place, ids_place, table_length, stage_in, table_state}
use Rattle.rules.specs.Table.{header_sound, counts_sound, table_sound, table_fault, open_length, open_room}
use Rattle.rules.specs.Sizes.{greatest_up_to, sizes_of, size_by_kind, column_size, circuit_size}
use Rattle.rules.specs.Columns.{largest_in}
use Rattle.rules.specs.Circuit.{constants_of, adds_of, scales_of, constants_in, adds_in, scales_in}
use Rattle.rules.specs.Table.{open_refusal, open_bytes, share_refused, share_table, share_bytes, one_refused, one_table}
use Rattle.rules.specs.Table.{one_bytes, decided_bytes, decided_table, added_totals, added_bytes, two_refused, two_verdict}
use Rattle.rules.specs.Table.{accepted_table, two_table, enter_refused, enter_table, drop_refused, drop_table, close_refused, close_table, close_bytes}
use Rattle.chacha.proofs.Computing.{chacha20}
use Rattle.rules.specs.Seeds.{seed_message, nonce_of, element_of, seed_elements, expanded, seeds_fault, seeded_length}
use Rattle.rules.specs.Seeds.{make_seeded_refusal, make_seeded_bytes}
use Rattle.rules.specs.Messages.{brings_seed, share_in, kind_sound}
use Rattle.rules.specs.Line.{determinant, slope, intercept, is_zero, is_point, names_point, line_sums, line_refusal}
use Rattle.rules.specs.Line.{sums_of}
use Rattle.rules.specs.Joining.{totals_sound, joined_fault, join_refusal, join_count, join_totals, join_bytes}
use Rattle.rules.specs.Recount.{decimal_from, refusal_text, line_text, option_lines, column_lines, recount_refusal}
use Rattle.rules.specs.Recount.{recount_text}
use Rattle.rules.specs.Shelf.{first_bytes, shelved, shelf_refusal}
use Rattle.rules.specs.Ledger.{notes_with, ledger_totals, closing_message, ledger_wait, ledger_stage, ledger_state, refusal_of, decide_as}
use Rattle.rules.specs.Ledger.{sums_noted, accept_noted, ledger_after, second_message, answer_of, run_ledger, ledger_answers}
use Rattle.rules.specs.Runs.{table_refusal, table_after, table_answer, run_table, table_answers}
use Rattle.rules.specs.Pools.{notes_in, note_under, call_messages, handed_in}
use Rattle.rules.specs.State.{state_refusal, closed_number, state_of}

unfoldable pub part0 : Unit {0}
unfolding sum product descending others weight basis interpolate inverse_from tabulate every count_from sum_over value_of
part0 = tt

unfoldable pub part1 : Unit {0}
unfolding bytes_of bytes_of_all splice elements_of all_below same_bytes or_else read_from limited_column column_body column_of entries_of
part1 = tt

unfoldable pub part2 : Unit {0}
unfolding published_of values_of largest_of entries_in published_in published_from sheet_limits limited_sheet read_sheet fault_in
part2 = tt

unfoldable pub part3 : Unit {0}
unfolding list_in totals_fit step_bytes circuit_bytes bit_check bit_checks option_sum option_adds bit_adds column_steps wires_of
part3 = tt

unfoldable pub part4 : Unit {0}
unfolding gates_of tests_of circuit_from circuit_of wires_in gates_in tests_in step_body step_of step_wires step_gates step_tests
part4 = tt

unfoldable pub part5 : Unit {0}
unfolding step_fault judged_step judge_step circuit_limits limited_circuit read_circuit circuit_fault count_in sheet_circuit
part5 = tt

unfoldable pub part6 : Unit {0}
unfolding sheet_circuit_refusal step_run run_from run encoded legal_values encoding share_size first_only zero_then folded
part6 = tt

unfoldable pub part7 : Unit {0}
unfolding sigma_from h_of a_of b_of c_of share_run f_at g_at h_at d_of e_of sigma_of tau_of added_up d_sum e_sum sigma_sum tau_sum
part7 = tt

unfoldable pub part8 : Unit {0}
unfolding allowed_pair lets_in f_of g_of whole share_of message share_length random_count made_from values_fault
part8 = tt

unfoldable pub part9 : Unit {0}
unfolding random_fault make_refusal make_bytes header_fault elements_fault round_sound round_fault same_pair challenge_fault element_sum
part9 = tt

unfoldable pub part10 : Unit {0}
unfolding both_zero is_member open_fault waiting_of sigma_in message_one message_two summed published_shares totals_message
part10 = tt

unfoldable pub part11 : Unit {0}
unfolding totals_length while_open while_one while_two while_entry while_waiting share_refusal one_refusal two_refusal enter_refusal drop_refusal
part11 = tt

unfoldable pub part12 : Unit {0}
unfolding close_refusal totals_place ids_place table_length stage_in table_state header_sound counts_sound
part12 = tt

unfoldable pub part13 : Unit {0}
unfolding waiting_sound table_sound table_fault open_length open_room open_refusal open_bytes share_refused share_table share_bytes
part13 = tt

unfoldable pub part14 : Unit {0}
unfolding one_refused one_table one_bytes decided_bytes decided_table added_totals added_bytes two_refused two_verdict accepted_table two_table
    enter_refused enter_table drop_refused drop_table
part14 = tt

unfoldable pub part15 : Unit {0}
unfolding close_refused close_table close_bytes totals_sound joined_fault join_refusal join_count join_totals join_bytes
part15 = tt

unfoldable pub part16 : Unit {0}
unfolding decimal_from refusal_text line_text option_lines column_lines recount_refusal recount_text notes_with ledger_totals
part16 = tt

unfoldable pub part17 : Unit {0}
unfolding closing_message ledger_wait ledger_stage ledger_state refusal_of decide_as sums_noted accept_noted ledger_after second_message
    answer_of run_ledger
part17 = tt

unfoldable pub part18 : Unit {0}
unfolding ledger_answers table_refusal table_after table_answer run_table table_answers notes_in note_under call_messages handed_in
    state_refusal closed_number state_of
part18 = tt

unfoldable pub part19 : Unit {0}
unfolding under flatten still_missing own_kept place_sound largest_in constants_of adds_of scales_of constants_in adds_in scales_in
    greatest_up_to sizes_of size_by_kind column_size circuit_size length_within bit_length bit_sum top_sums top_steps two_numbers
    number_checks product_check point_checks point_steps point_entry first_bytes shelved shelf_refusal
part19 = tt

unfoldable pub part20 : Unit {0}
unfolding after_each legal_lists lists_in lists_bytes every_return_bytes every_return_length every_return_refusal
    determinant slope intercept is_zero is_point names_point line_sums line_refusal sums_of
part20 = tt

unfoldable pub part21 : Unit {0}
unfolding find without changed those first_where waiting_count waiting_at wait_as wait_at records_from present record_sound records_sound
part21 = tt

unfoldable pub part22 : Unit {0}
unfolding chacha20 seed_message nonce_of element_of seed_elements expanded seeds_fault seeded_length make_seeded_refusal make_seeded_bytes
    brings_seed share_in kind_sound
part22 = tt

unfoldable pub everything : Unit {0}
unfolding part0 part1 part2 part3 part4 part5 part6 part7 part8 part9 part10 part11 part12 part13 part14 part15 part16 part17 part18
    part19 part20 part21 part22
everything = tt
