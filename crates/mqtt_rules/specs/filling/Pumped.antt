-- Rows that a pump sends, and how they are filled before it (MQTT 5.0, 4.3, 4.6).
use Rattle.std.specs.Prelude.{◌≡◌, ⊤, ℕ, cond, List, [], filter_map, map, Option, Some, None}
use Rattle.std.specs.List.{AllByRecursion}
use Rattle.mqtt_flow.specs.declared.outbound.entry.Turn.{Turn}
use Rattle.mqtt_flow.specs.declared.outbound.entry.Turn.TheVariants.{Send, Resend, Release, Outgrow, Repeat, Unknown, Leave}
use Rattle.mqtt_flow.specs.inbound.Identifiers.{is_among}
use Rattle.mqtt_records.specs.messages.Filling.{Filling, Fillings, filled_row}
use Rattle.mqtt_records.specs.messages.Queue.{CopyRow}
use Rattle.mqtt_records.specs.state.Session.{copy_place}
use Rattle.mqtt_records.specs.declared.state.session.Session.{Session}
use Rattle.mqtt_records.specs.declared.state.records.Records.{Records}
use Rattle.mqtt_records.specs.state.Records.{in_session}
use Rattle.mqtt_records.specs.lists.Order.{row_at}
use Rattle.mqtt_rules.specs.step.Fitting.{pump_turns}
use Rattle.mqtt_rules.specs.step.State.{Line, Broker, session_at, line_at}
use Rattle.mqtt_rules.specs.step.Step.{at_moment}
use Rattle.mqtt_rules.specs.alike.Alike.{with_queue, with_records}
use Rattle.mqtt_rules.specs.filling.Filling.{IsFilledBy}

-- ---- which copies a pump sends

-- the place of the copy whose PUBLISH a turn sends
abbrev pub place_sent : Turn → Option ℕ
place_sent (Send place id) = Some place
place_sent (Resend place id) = Some place
place_sent (Release place id order) = None
place_sent (Outgrow place id order) = None
place_sent (Repeat id) = None
place_sent (Unknown id) = None
place_sent (Leave place ending) = None

-- the birth of the session that is connected on a line, if one is
abbrev pub birth_on : Option Line → Option ℕ
birth_on None = None
birth_on (Some l) = l.session

-- the session with it
abbrev pub session_of_birth : Option ℕ → Records → Option Session
session_of_birth None r = None
session_of_birth (Some birth) r = session_at birth r

-- the session that a pump on the line serves
abbrev pub served_on : ℕ → Broker → Option Session
served_on line b = session_of_birth (birth_on (line_at line b)) b.records

-- the turns of that pump
abbrev pub turns_on_line : Option Line → Broker → Option Session → List Turn
turns_on_line None b o = []
turns_on_line (Some l) b None = []
turns_on_line (Some l) b (Some s) = pump_turns l b s

-- where the copies stand in its queue that it sends
abbrev pub sent_places : ℕ → Broker → List ℕ
sent_places line b = filter_map place_sent (turns_on_line (line_at line b) b (served_on line b))

-- ---- what is asked of these rows

-- what stands at a place of a session's queue
abbrev pub row_of : ℕ → Option Session → Option CopyRow
row_of place None = None
row_of place (Some s) = row_at copy_place place s.queue

-- one has the row of the other at each place that its pump sends
abbrev pub HasWholeTurns : ℕ → ℕ → Broker → Broker → Type 0
HasWholeTurns now line one other =
    AllByRecursion (λ place. row_of place (served_on line one) ≡ row_of place (served_on line other))
    (sent_places line (at_moment now one))

-- a row that stands says what there is for its place; where none stands nothing is sent
abbrev pub IsRowFilledBy : (ℕ → Filling) → Option CopyRow → Type 0
IsRowFilledBy fillings None = ⊤
IsRowFilledBy fillings (Some e) = IsFilledBy fillings e

abbrev pub IsFilledAt : Fillings → Option Session → ℕ → Type 0
IsFilledAt fillings None place = ⊤
IsFilledAt fillings (Some s) place = IsRowFilledBy (fillings s.birth) (row_at copy_place place s.queue)

-- the row at each place that its pump sends says what there is for its place
abbrev pub HasFilledTurns : Fillings → ℕ → ℕ → Broker → Type 0
HasFilledTurns fillings now line b =
    AllByRecursion (IsFilledAt fillings (served_on line b)) (sent_places line (at_moment now b))

-- ---- to fill them

-- a row, if it stands at one of these places
abbrev pub filled_if : (ℕ → Filling) → List ℕ → CopyRow → CopyRow
filled_if fillings places e = cond (is_among e.place places) (filled_row fillings e) e

abbrev pub session_filled_at : Fillings → List ℕ → Session → Session
session_filled_at fillings places s = with_queue (map (filled_if (fillings s.birth) places) s.queue) s

abbrev pub records_filled_at : Fillings → List ℕ → Option ℕ → Records → Records
records_filled_at fillings places None r = r
records_filled_at fillings places (Some birth) r = in_session birth (session_filled_at fillings places) r

-- the rows at these places of one session's queue
abbrev pub filled_at : Fillings → List ℕ → Option ℕ → Broker → Broker
filled_at fillings places birth b = with_records (records_filled_at fillings places birth b.records) b

-- those that a pump on the line sends at this moment
abbrev pub filled_for_pump : Fillings → ℕ → ℕ → Broker → Broker
filled_for_pump fillings now line b =
    filled_at fillings (sent_places line (at_moment now b)) (birth_on (line_at line b)) b
