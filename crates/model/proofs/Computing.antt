-- To compute a run of calls every definition on the way is opened: `unfolding computing` opens them all.
use Rattle.ot.specs.Edit.{applied_as, fits, transformed}
use Rattle.ot.specs.Laws.{within}
use Rattle.list.specs.Places.{initial_from, numbered}
use Rattle.wire.specs.Message.{in_range}
use Rattle.wire.specs.Bytes.{bytes_of, parsed}
use Rattle.jupiter.specs.Made.{holds, select, reject}
use Rattle.jupiter.specs.Form.{further, last_outside, form_by, form_in, form, in_order}
use Rattle.jupiter.specs.Point.{enter, firsts}
use Rattle.jupiter.specs.Claims.{inserts}
use Rattle.jupiter.specs.History.{missing, after_edit, serves, applies}
use Rattle.model.specs.Questions.{answer, sent}
use Rattle.model.specs.Packets.{joined, fitting, packed, messages_in, known, handed_over, unpacked}
use Rattle.model.specs.Line.{numbers_from}
use Rattle.model.specs.Cross.{past, over, all_placed, priorities}
use Rattle.model.specs.Ranks.{among, each_once, ranking}
use Rattle.model.specs.Client.{sound_client, open_client, edit_client, take_back_client, send_client, tell_client, client_takes_edit, client_takes_ack, take_client, pack_client, packet_client}
use Rattle.model.specs.Server.{sound_line, sound_lines, other_makers, sound_makers, sound_server, open_server, send_server, tell_server, at_place, others_roomy, server_takes_edit, server_takes_ack, take_server, pack_server, packet_server}
use Rattle.model.specs.Log.{set_of, made_at, taken_at, edit_message, ack_message, took, fitting_messages, took_first, logged, refused_log, log}
use Rattle.model.specs.Numbers.{all_but, handing_over, number}
use Rattle.model.specs.Run.{are_bytes, are_items, callable, handed, call, number_of, run}

unfoldable pub computing : Unit {0}
unfolding joined fitting packed messages_in known handed_over unpacked numbers_from pack_client packet_client pack_server packet_server fitting_messages took_first handing_over inserts applied_as fits transformed initial_from numbered within in_range bytes_of parsed answer sent past over all_placed priorities among each_once ranking sound_client open_client edit_client take_back_client send_client tell_client client_takes_edit client_takes_ack take_client sound_line sound_lines other_makers sound_makers sound_server open_server send_server tell_server at_place others_roomy server_takes_edit server_takes_ack take_server holds select reject further last_outside form_by form_in form in_order enter firsts missing after_edit serves applies set_of made_at taken_at edit_message ack_message took logged refused_log log all_but number are_bytes are_items callable handed call number_of run
computing = tt
