-- One name for all that a check or a run computes with, for theorems by computation.
use Rattle.order.specs.Rules.{scan, first_place, answer_of}
use Rattle.words.specs.Value.{word_of, tag_of, payload_of, value_with, value_of, is_value}
use Rattle.words.specs.Integer.{plus_of}
use Rattle.words.specs.Types.{type_of, type_word, is_type, is_declared}
use Rattle.image.specs.Trailer.{trailer, class_count, field_count, method_count, type_count, node_count, main_node, input_count, format_holds, section_holds, last_holds, trailer_tests, ceiling_tests}
use Rattle.image.specs.Records.{superclass, field_word, method_word, type_at, super_holds, class_holds, is_user_class, is_name, rises, member_holds, field_rises, field_holds, method_rises, arguments_hold, method_holds, type_holds}
use Rattle.image.specs.Nodes.{node_word, kind_of, is_class, is_variable, is_local, is_unused, names_hold, operands, reach, spans, size_is, node_holds, body_start, body_holds, filled_holds}
use Rattle.image.specs.Layout.{tested, format_rule, trailer_rule, ceiling_rule, class_rule, field_rule, method_rule, type_rule, node_rule, body_rule, record_rules, layout_rules}
use Rattle.rules.specs.Maps.{upd, tabulate, from}
use Rattle.rules.specs.Trees.{operand, arguments, node_of, node_tree, forest, tree}
use Rattle.rules.specs.Program.{field_at, types_from, method_at, program, main, input_types, method_env, main_env}
use Rattle.rules.specs.Classes.{among, chain, above, subclass, subtype, subtypes, declared_in, sees_field_in, sees_field, method_in, sees_method_in, sees_method, own, fields_of, has_fields, overrides, override_holds, index_from, field_index}
use Rattle.rules.specs.Typing.{◌>>=◌, need, found, literal, class, unremembered, typing, typings}
use Rattle.rules.specs.Setting.{every_var, between, meet, setting, settings}
use Rattle.rules.specs.Sites.{typed_within, site_typed, sites, sites_all, after, after_all, reads, reads_all}
use Rattle.rules.specs.Heap.{default, defaults, free_from, lowest_free, slot_at, heap_of, slot_words_of, words_of, values_of}
use Rattle.rules.specs.Conform.{slot_conforms, conforms, values_conform}
use Rattle.rules.specs.Step.{tag, payload, same_value, read_redex, add_redex, eq_redex, new_redex, cast_slot, cast_redex, get_field, get_slot, get_redex, put_field, put_slot, put_redex, view, value_in, assigned, remember, settle, blocked, redex, under, unders, both, if_out, throw_out, block_out, cons_out, tail_out, blocks, enter, call_slot, call_out, catch_slot, try_out, load, loads, step, steps}
use Rattle.rules.specs.Run.{judge, run, run_of, heap_after}
use Rattle.rules.specs.Numbers.{joined, fields_rule, override_rule, method_sites, all_sites, typing_rule, method_reads, all_reads, setting_rule, heap_length_holds, heap_length_rule, slot_word_holds, heap_word_rule, input_holds, input_rule, slot_word_conforms, heap_rule, input_type_rule, depth_rule, room_rule, check_rules, conform_rules, run_rules, end_numbers, end_value}

-- to unfold this is to unfold all that a check or a run computes with
unfoldable pub computing : Unit {0}
unfolding scan first_place answer_of word_of tag_of payload_of value_with value_of is_value plus_of type_of type_word is_type is_declared trailer class_count field_count method_count type_count node_count main_node input_count format_holds section_holds last_holds trailer_tests ceiling_tests superclass field_word method_word type_at super_holds class_holds is_user_class is_name rises member_holds field_rises field_holds method_rises arguments_hold method_holds type_holds node_word kind_of is_class is_variable is_local is_unused names_hold operands reach spans size_is node_holds body_start body_holds filled_holds tested format_rule trailer_rule ceiling_rule class_rule field_rule method_rule type_rule node_rule body_rule record_rules layout_rules upd tabulate from operand arguments node_of node_tree forest tree field_at types_from method_at program main input_types method_env main_env among chain above subclass subtype subtypes declared_in sees_field_in sees_field method_in sees_method_in sees_method own fields_of has_fields overrides override_holds index_from field_index ◌>>=◌ need found literal class unremembered typing typings every_var between meet setting settings typed_within site_typed sites sites_all after after_all reads reads_all default defaults free_from lowest_free slot_at heap_of slot_words_of words_of values_of slot_conforms conforms values_conform tag payload same_value read_redex add_redex eq_redex new_redex cast_slot cast_redex get_field get_slot get_redex put_field put_slot put_redex view value_in assigned remember settle blocked redex under unders both if_out throw_out block_out cons_out tail_out blocks enter call_slot call_out catch_slot try_out load loads step steps judge run run_of heap_after joined fields_rule override_rule method_sites all_sites typing_rule method_reads all_reads setting_rule heap_length_holds heap_length_rule slot_word_holds heap_word_rule input_holds input_rule slot_word_conforms heap_rule input_type_rule depth_rule room_rule check_rules conform_rules run_rules end_numbers end_value
computing = tt
