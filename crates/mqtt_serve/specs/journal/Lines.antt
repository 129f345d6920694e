-- The text of each event (ours).
use Rattle.std.specs.Prelude.{ℕ, false, List, [], ◌++◌, Option, Some, None, codes, decimal, option_map}
use Rattle.std.specs.Fmt.{digits}
use Rattle.std.specs.Net.Text.{socket_text as address_text}
use Rattle.std.specs.declared.net.socket_addr.SocketAddr.{SocketAddr}
use Rattle.mqtt_base.specs.Escaped.{escaped}
use Rattle.mqtt_serve.specs.causes.Causes.{text_of}
use Rattle.mqtt_serve.specs.declared.causes.cause.Cause.{Cause}
use Rattle.mqtt_serve.specs.declared.journal.call.Loss.{Loss}
use Rattle.mqtt_serve.specs.declared.journal.call.Loss.TheVariants as loss
use Rattle.mqtt_serve.specs.declared.journal.line_event.Peer.{Peer}
use Rattle.mqtt_serve.specs.declared.journal.line_event.Client.{Client}
use Rattle.mqtt_serve.specs.declared.journal.line_event.Terms.{Terms}
use Rattle.mqtt_serve.specs.declared.journal.line_event.CleanStart.{CleanStart}
use Rattle.mqtt_serve.specs.declared.journal.line_event.CleanStart.TheVariants as clean
use Rattle.mqtt_serve.specs.declared.journal.line_event.Present.{Present}
use Rattle.mqtt_serve.specs.declared.journal.line_event.Present.TheVariants.{No, Yes}
use Rattle.mqtt_serve.specs.declared.journal.line_event.Close.{Close}
use Rattle.mqtt_serve.specs.declared.journal.line_event.Close.TheVariants.{Disconnect, Code, Lost, Server, NoConnect}
use Rattle.mqtt_serve.specs.declared.journal.line_event.LineEvent.{LineEvent}
use Rattle.mqtt_serve.specs.declared.journal.line_event.LineEvent.TheVariants as line
use Rattle.mqtt_serve.specs.declared.journal.copy_event.CopyLoss.{CopyLoss}
use Rattle.mqtt_serve.specs.declared.journal.copy_event.CopyLoss.TheVariants.{Dropped, TooLarge, Expired}
use Rattle.mqtt_serve.specs.declared.journal.copy_event.FullQueue.{FullQueue}
use Rattle.mqtt_serve.specs.declared.journal.copy_event.CopyEvent.{CopyEvent}
use Rattle.mqtt_serve.specs.declared.journal.copy_event.CopyEvent.TheVariants as copy
use Rattle.mqtt_serve.specs.declared.journal.session_event.SessionEnd.{SessionEnd}
use Rattle.mqtt_serve.specs.declared.journal.session_event.SessionEnd.TheVariants as ending
use Rattle.mqtt_serve.specs.declared.journal.session_event.WillCause.{WillCause}
use Rattle.mqtt_serve.specs.declared.journal.session_event.WillCause.TheVariants as will
use Rattle.mqtt_serve.specs.declared.journal.session_event.SessionEvent.{SessionEvent}
use Rattle.mqtt_serve.specs.declared.journal.session_event.SessionEvent.TheVariants as session
use Rattle.mqtt_serve.specs.declared.journal.server_event.WhenFull.{WhenFull}
use Rattle.mqtt_serve.specs.declared.journal.server_event.WhenFull.TheVariants as full
use Rattle.mqtt_serve.specs.declared.journal.server_event.Bounds.{Bounds}
use Rattle.mqtt_serve.specs.declared.journal.server_event.Traffic.{Traffic}
use Rattle.mqtt_serve.specs.declared.journal.server_event.SessionCount.{SessionCount}
use Rattle.mqtt_serve.specs.declared.journal.server_event.ServerEvent.{ServerEvent}
use Rattle.mqtt_serve.specs.declared.journal.server_event.ServerEvent.TheVariants as server

-- ---- parts

abbrev pub present_text : Present → List ℕ
present_text No = codes "0"
present_text Yes = codes "1"

abbrev pub clean_text : CleanStart → List ℕ
clean_text clean.No = codes "0"
clean_text clean.Yes = codes "1"

-- a Reason Code, as `0x97`
abbrev pub code_text : ℕ → List ℕ
code_text code = codes "0x" ++ digits 16 false code

abbrev pub peer_text : Option SocketAddr → List ℕ
peer_text (Some address) = codes " from " ++ address_text address
peer_text None = codes " from an unknown address"

-- a client by its name
abbrev pub client_text : Option (List ℕ) → List ℕ
client_text (Some name) = codes " client=" ++ escaped name
client_text None = []

abbrev pub side_text : Peer → List ℕ
side_text peer = peer_text peer.0

abbrev pub name_text : Client → List ℕ
name_text client = client_text (option_map (λ name. name.now) client.0)

unfoldable pub terms_text : Terms → List ℕ
terms_text terms = codes " clean-start=" ++ clean_text terms.clean_start ++ codes " session-present=" ++ present_text terms.session_present
    ++ codes " keep-alive=" ++ decimal terms.keep_alive ++ codes " expiry=" ++ decimal terms.expiry

abbrev pub loss_text : Loss → List ℕ
loss_text loss.Closed = codes "closed"
loss_text loss.Failed = codes "failed"
loss_text loss.Full = codes "too-much-waits"
loss_text loss.Memory = codes "memory"

abbrev pub close_text : Close → List ℕ
close_text (Disconnect code) = codes "disconnect code=" ++ code_text code
close_text (Code code) = code_text code
close_text (Lost why) = loss_text why
close_text Server = codes "server"
close_text NoConnect = codes "no-connect"

abbrev pub copy_loss_text : CopyLoss → List ℕ
copy_loss_text Dropped = codes "dropped"
copy_loss_text TooLarge = codes "too-large"
copy_loss_text Expired = codes "expired"

abbrev pub session_end_text : SessionEnd → List ℕ
session_end_text ending.CleanStart = codes "clean-start"
session_end_text ending.Closed = codes "closed"
session_end_text ending.Expired = codes "expired"

abbrev pub will_cause_text : WillCause → List ℕ
will_cause_text will.Closed = codes "closed"
will_cause_text will.Delay = codes "delay"
will_cause_text will.SessionEnded = codes "session-ended"

-- a client whose queue is full
abbrev pub full_text : Option (List ℕ) → List ℕ
full_text (Some name) = codes " queue=" ++ escaped name
full_text None = []

abbrev pub queue_text : FullQueue → List ℕ
queue_text queue = full_text (option_map (λ name. name.now) queue.0)

abbrev pub when_full_text : WhenFull → List ℕ
when_full_text full.Refuse = codes "refuse"
when_full_text full.Drop = codes "drop"

unfoldable pub bounds_text : Bounds → List ℕ
bounds_text bounds = codes "queue=" ++ decimal bounds.queue ++ codes " full=" ++ when_full_text bounds.full
    ++ codes " retained=" ++ decimal bounds.retained

unfoldable pub session_count_text : SessionCount → List ℕ
session_count_text count = codes "sessions=" ++ decimal count.sessions ++ codes " of=" ++ decimal count.limit

unfoldable pub traffic_text : Traffic → List ℕ
traffic_text traffic = codes "accepted=" ++ decimal traffic.accepted ++ codes " sent=" ++ decimal traffic.sent
    ++ codes " packets=" ++ decimal traffic.packets

abbrev pub end_text : Option Cause → List ℕ
end_text (Some cause) = text_of cause
end_text None = codes "done"

-- ---- connections

abbrev pub line_text : LineEvent → List ℕ
line_text (line.Connect number peer client terms) = codes "connect " ++ decimal number ++ side_text peer ++ name_text client ++ terms_text terms
line_text (line.Refuse number peer code) = codes "refuse " ++ decimal number ++ side_text peer ++ codes " code=" ++ code_text code
line_text (line.Close number peer client why) = codes "close " ++ decimal number ++ side_text peer ++ name_text client ++ codes " cause=" ++ close_text why
line_text (line.Drop peer) = codes "drop" ++ side_text peer

-- ---- publications and copies

abbrev pub untold_text : ℕ → List ℕ
untold_text untold = codes " untold=" ++ decimal untold

abbrev pub copy_text : CopyEvent → List ℕ
copy_text (copy.Full client queue untold) = codes "full" ++ name_text client ++ codes " code=0x97" ++ queue_text queue ++ untold_text untold
copy_text (copy.Copy client why untold) = codes "copy" ++ name_text client ++ codes " " ++ copy_loss_text why ++ untold_text untold
copy_text (copy.Will client untold) = codes "will" ++ name_text client ++ codes " refused" ++ untold_text untold

-- ---- sessions and their Wills

abbrev pub session_text : SessionEvent → List ℕ
session_text (session.Ended client why) = codes "session" ++ name_text client ++ codes " ended cause=" ++ session_end_text why
session_text (session.Will client why) = codes "will" ++ name_text client ++ codes " published cause=" ++ will_cause_text why

-- ---- the server

abbrev pub server_text : ServerEvent → List ℕ
server_text (server.Start address db count copies bounds) = codes "start " ++ address_text address ++ codes " db=" ++ escaped db.now
    ++ codes " " ++ session_count_text count ++ codes " copies=" ++ decimal copies ++ codes " " ++ bounds_text bounds
server_text (server.End why) = codes "end cause=" ++ end_text why.0
server_text (server.Counts connections sessions copies traffic) = codes "counts connections=" ++ decimal connections
    ++ codes " sessions=" ++ decimal sessions ++ codes " copies=" ++ decimal copies ++ codes " " ++ traffic_text traffic
server_text (server.Unwritten lines) = codes "unwritten lines=" ++ decimal lines
