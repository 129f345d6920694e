-- One call of the broker is one step: the state after it, and what it answers (MQTT 5.0, 3 and 4).
use Rattle.std.specs.Prelude.{◌≡◌, ℕ, suc, max, Bool, true, false, cond, ◌&&◌, List, [], ◌∷◌, ◌++◌, length, filter, filter_map, map, nat_eq, nat_lt, Option, Some, None, option_map}
use Rattle.std.specs.List.{list_any}
use Rattle.mqtt_base.specs.Phases.{order_of}
use Rattle.mqtt_base.specs.declared.limits.TheConstants.{LINE_LIMIT, PUMP_LIMIT, LAST_NUMBER}
use Rattle.mqtt_base.specs.Codes.{protocol_error, unsupported_protocol_version}
use Rattle.mqtt_base.specs.declared.session.CopyId.{CopyId}
use Rattle.mqtt_props.specs.declared.table.PropName.TheVariants.{SessionExpiryInterval}
use Rattle.mqtt_packet.specs.declared.codec.packet.Packet.{Packet}
use Rattle.mqtt_packet.specs.declared.codec.packet.Packet.TheVariants.{Connect, Publish, Puback, Pubrec, Pubrel, Pubcomp, Subscribe, Unsubscribe, Pingreq, Pingresp, Disconnect}
use Rattle.mqtt_packet.specs.codec.Packets.{shortest_of}
use Rattle.mqtt_flow.specs.outbound.Queue.{holder}
use Rattle.mqtt_records.specs.declared.state.change.Counter.{Counter}
use Rattle.mqtt_records.specs.declared.state.change.Counter.TheVariants.{Births, Publications, Subscribes, Autos, Moment}
use Rattle.mqtt_records.specs.declared.state.change.Change.{Change}
use Rattle.mqtt_records.specs.declared.state.change.Change.TheVariants.{SetCounter, PutSession, SetSession, RemoveSession, PutWill, RemoveWill, PutSubscription, RemoveSubscription, PutInbound, RemoveInbound, PutCopy, SetCopy, RemoveCopy, PutRetained, RemoveRetained}
use Rattle.mqtt_records.specs.declared.state.session.Session.{Session}
use Rattle.mqtt_records.specs.declared.state.records.Records.{Records}
use Rattle.mqtt_rules.specs.declared.step.Capacity.{Capacity}
use Rattle.mqtt_rules.specs.declared.step.Report.{Report}
use Rattle.mqtt_rules.specs.step.Packets.{connack}
use Rattle.mqtt_records.specs.messages.PassedOn.{number_at}
use Rattle.mqtt_rules.specs.step.State.{Line, Broker, Env, session_at, line_at, is_connected, queue_on, capped, MemberChoice}
use Rattle.mqtt_rules.specs.step.Deeds.{whose, Close, Hear, Deed, Link, On, Send, At, Act, after_all, rows_of_all, always, series, of_session, with_line, output, wires, closing, report}
use Rattle.mqtt_rules.specs.step.Closing.{close, drop_line, settle}
use Rattle.mqtt_rules.specs.step.Connect.{on_connect}
use Rattle.mqtt_rules.specs.step.Inbound.{on_publish, on_pubrel, on_puback, on_pubrec, on_pubcomp, on_disconnect, pump_deeds}
use Rattle.mqtt_rules.specs.step.Subscribe.{on_subscribe, on_unsubscribe}
use Rattle.mqtt_rules.specs.step.Tick.{due, on_tick}

-- what is asked of the broker: a new line; the first whole packet of a line, or its fault, by whether it is of the type
-- of CONNECT, with its code; a line that is lost; a turn of sending; a turn of the clock
pub data Call : Type 0 where
  NewLine : Call
  Input : (line : ℕ) (packet : Packet) → Call
  BadInput : (line : ℕ) (is_connect : Bool) (code : ℕ) → Call
  Lost : (line : ℕ) → Call
  Pump : (line : ℕ) → Call
  Tick : Call

-- ---- packets

-- the first packet of a line is CONNECT, or the line closes without an answer (3.1)
abbrev pub first_packet : Env → Line → Packet → Act
first_packet env l (Connect c) b = on_connect env l c b
first_packet env l packet b = close env true l b

-- a packet of a connected client; those that it may not send break the protocol (4.13)
abbrev pub next_packet : Env → Line → Packet → Session → Act
next_packet env l (Publish p) s b = on_publish env l s p b
next_packet env l (Puback a) s b = on_puback env l s a.identifier a.reason.0 b
next_packet env l (Pubrec a) s b = on_pubrec env l s a.identifier a.reason.0 b
next_packet env l (Pubrel a) s b = on_pubrel l s a.identifier
next_packet env l (Pubcomp a) s b = on_pubcomp env l s a.identifier b
next_packet env l (Subscribe p) s b = on_subscribe env l.number s p b
next_packet env l (Unsubscribe p) s b = on_unsubscribe l.number s p b
next_packet env l Pingreq s b = Send l.number Pingresp ∷ []
next_packet env l (Disconnect n) s b = on_disconnect env l s n.reason.0 (number_at SessionExpiryInterval n.properties) b
next_packet env l packet s b = drop_line env protocol_error l b

abbrev pub on_packet : Env → Line → Packet → Option ℕ → Act
on_packet env l packet None b = first_packet env l packet b
on_packet env l packet (Some birth) b = of_session birth (next_packet env l packet) b

-- a fault in a CONNECT is answered by CONNACK, in another first packet by nothing, later by DISCONNECT (4.13), if
-- another version is a protocol error
abbrev pub late_code : ℕ → ℕ
late_code code = cond (nat_eq code unsupported_protocol_version) protocol_error code

abbrev pub on_fault : Env → Line → Bool → ℕ → Option ℕ → Act
on_fault env l true code None b =
    series (always (Send l.number (connack false code []) ∷ []) ∷ close env true l ∷ []) b
on_fault env l false code None b = close env true l b
on_fault env l is_connect code (Some birth) b = drop_line env (late_code code) l b

abbrev pub on_pump : Line → Option ℕ → Act
on_pump l None b = []
on_pump l (Some birth) b = of_session birth (λ s. always (pump_deeds l b s)) b

-- ---- the deeds of a call

-- where so many lines stand there is room for one more: fewer stand than the limits say, and than the tables hold (ours)
abbrev pub takes_line : Capacity → ℕ → Bool
takes_line limits count = nat_lt count limits.lines && nat_lt count LINE_LIMIT

-- a line is given while there is room for it and LAST_NUMBER were not given (ours)
abbrev pub can_link : Capacity → Broker → Bool
can_link limits b = takes_line limits (length b.lines) && nat_lt b.given LAST_NUMBER

abbrev pub deeds_of : Env → Call → Act
deeds_of env NewLine b = cond (can_link env.limits b) (Link (suc b.given) ∷ []) []
deeds_of env (Input n packet) b =
    with_line (line_at n b) (λ l. series (always (On n Hear ∷ []) ∷ on_packet env l packet l.session ∷ [])) b
deeds_of env (BadInput n is_connect code) b = with_line (line_at n b) (λ l. on_fault env l is_connect code l.session) b
deeds_of env (Lost n) b = with_line (line_at n b) (close env true) b
deeds_of env (Pump n) b = with_line (line_at n b) (λ l. on_pump l l.session) b
deeds_of env Tick b = on_tick (due env b) b

-- the greatest moment handed in
abbrev pub at_moment : ℕ → Broker → Broker
at_moment now b = record b { now = max b.now (capped now) }

abbrev pub env_of : Capacity → MemberChoice → Broker → Env
env_of limits choice b = record { limits = limits; choice = choice; start = b.records }

abbrev pub deeds : Capacity → MemberChoice → ℕ → Call → Broker → List Deed
deeds limits choice now call b = deeds_of (env_of limits choice b) call (at_moment now b)

-- ---- the state after a step

-- the moment's row, unless it is stored already
abbrev pub stamp_of : ℕ → ℕ → List Change
stamp_of now was = cond (nat_eq now was) [] (SetCounter Moment now ∷ [])

-- the rows that a step writes: those of its deeds, and with them its moment
abbrev pub stamped : ℕ → ℕ → List Change → List Change
stamped now was [] = []
stamped now was (row ∷ rows) = (row ∷ rows) ++ stamp_of now was

abbrev pub rows_written : List Deed → Broker → List Change
rows_written ds b = stamped b.now b.records.moment (rows_of_all ds b.records)

abbrev pub with_moment : List Change → Broker → Broker
with_moment [] b = b
with_moment (row ∷ rows) b = record b { records = record b.records { moment = b.now } }

abbrev pub done : List Deed → Broker → Broker
done ds b = with_moment (rows_of_all ds b.records) (after_all ds b)

abbrev pub stepped : Capacity → MemberChoice → ℕ → Call → Broker → Broker
stepped limits choice now call b = done (deeds limits choice now call b) (at_moment now b)

-- ---- what a step answers

abbrev pub publish_out : Deed → Option ℕ
publish_out (Send n (Publish p)) = Some n
publish_out d = None

abbrev pub is_none_done : List Deed → Bool
is_none_done [] = true
is_none_done (d ∷ ds) = false

-- more may be there: PUMP_LIMIT PUBLISH went out, or one thing was done
abbrev pub is_again : Call → List Deed → Bool
is_again (Pump n) ds = nat_eq (length (filter_map publish_out ds)) PUMP_LIMIT
is_again Tick ds = cond (is_none_done ds) false true
is_again call ds = false

pub record Outcome : Type 0 where
  pub outputs : List (ℕ × Packet)  -- what is meant, in order, each packet with its line
  pub wires : List (ℕ × Packet)  -- the same as it goes out, each PUBLISH in its form (3.3.2.3.4)
  pub closed : List ℕ
  pub reports : List Report
  pub taken : ℕ  -- bytes of a piece
  pub again : Bool

abbrev pub nothing_told : Outcome
nothing_told = record { outputs = []; wires = []; closed = []; reports = []; taken = 0; again = false }

-- its packets as they go out, each in its shortest spelling (2.1.4)
abbrev pub bytes_out : Outcome → List (ℕ × List ℕ)
bytes_out out = map (λ x. (x.0, shortest_of x.1)) out.wires

-- what these deeds tell, done on this broker
abbrev pub outcome_of : Call → List Deed → Broker → Outcome
outcome_of call ds b = record {
  outputs = filter_map output ds;
  wires = wires ds b;
  closed = filter_map closing ds;
  reports = filter_map report ds;
  taken = 0;
  again = is_again call ds;
}

abbrev pub told : Capacity → MemberChoice → ℕ → Call → Broker → Outcome
told limits choice now call b = outcome_of call (deeds limits choice now call b) (at_moment now b)

-- ---- spent numbers: a birth, a number, a place or an order above the last one is refused, and nothing changes (ours)

-- a moment is no number that is given
abbrev pub count_given : Counter → ℕ → ℕ
count_given Births n = n
count_given Publications n = n
count_given Subscribes n = n
count_given Autos n = n
count_given Moment moment = 0

abbrev pub number_given : Change → ℕ
number_given (SetCounter counter n) = count_given counter n
number_given (PutSession row) = row.birth
number_given (SetSession row) = row.birth
number_given (RemoveSession birth) = 0
number_given (PutWill birth will) = 0
number_given (RemoveWill birth) = 0
number_given (PutSubscription birth sub) = sub.place
number_given (RemoveSubscription birth filter) = 0
number_given (PutInbound birth id) = 0
number_given (RemoveInbound birth id) = 0
number_given (PutCopy birth e) = e.place
number_given (SetCopy birth place phase) = order_of phase
number_given (RemoveCopy birth place) = 0
number_given (PutRetained kept) = kept.place
number_given (RemoveRetained place) = 0

abbrev pub is_spent : List Change → Bool
is_spent rows = list_any (λ row. nat_lt LAST_NUMBER (number_given row)) rows

abbrev pub is_step_spent : Capacity → MemberChoice → ℕ → Call → Broker → Bool
is_step_spent limits choice now call b = is_spent (rows_written (deeds limits choice now call b) (at_moment now b))

-- Broker step: some choice of the members leads from one state to the other, with this outcome, and no number is spent
pub record BrokerStep (limits : Capacity) (old : Broker) (now : ℕ) (call : Call) (out : Outcome) (new : Broker)
    : Type 0 where
  pub choice : MemberChoice
  pub unspent : is_step_spent limits choice now call old ≡ false
  pub new_is : new ≡ stepped limits choice now call old
  pub out_is : out ≡ told limits choice now call old

-- a step that is refused: by some choice a number is spent
pub record SpentStep (limits : Capacity) (old : Broker) (now : ℕ) (call : Call) : Type 0 where
  pub choice : MemberChoice
  pub spent : is_step_spent limits choice now call old ≡ true

-- ---- opening: no session is connected from then on. All that the records show as connected are closed, and then each of them is settled,
-- both in the order of births: so where a Will is published, none of them counts as connected any longer

-- the sessions that the records show as connected, in the order of births
abbrev pub connected_in : Records → List Session
connected_in r = filter is_connected r.sessions

abbrev pub shuts : Session → Act
shuts s b = At (whose s) (Close b.now) ∷ []

abbrev pub settles : Env → Session → Act
settles env s = settle env s.birth

abbrev pub shuts_all : List Session → Act
shuts_all ss = series (map shuts ss)

abbrev pub settles_all : Env → List Session → Act
settles_all env ss = series (map (settles env) ss)

abbrev pub closes_all : Env → List Session → Act
closes_all env ss = series (shuts_all ss ∷ settles_all env ss ∷ [])

abbrev pub opening : Env → Act
opening env b = closes_all env (connected_in b.records) b

abbrev pub unopened : ℕ → Records → Broker
unopened now r = record { records = r; lines = []; given = 0; now = max (capped r.moment) (capped now); tellings = [] }

abbrev pub opening_deeds : Capacity → MemberChoice → ℕ → Records → List Deed
opening_deeds limits choice now r = let b = unopened now r in opening (env_of limits choice b) b

abbrev pub opened : Capacity → MemberChoice → ℕ → Records → Broker
opened limits choice now r = done (opening_deeds limits choice now r) (unopened now r)

abbrev pub is_opening_spent : Capacity → MemberChoice → ℕ → Records → Bool
is_opening_spent limits choice now r = is_spent (rows_written (opening_deeds limits choice now r) (unopened now r))

-- Broker opening: some choice of the members leads from what is stored to the state, and no number is spent
pub record BrokerOpening (limits : Capacity) (r : Records) (now : ℕ) (new : Broker) : Type 0 where
  pub choice : MemberChoice
  pub unspent : is_opening_spent limits choice now r ≡ false
  pub new_is : new ≡ opened limits choice now r

-- an opening that is refused: by some choice a number is spent
pub record SpentOpening (limits : Capacity) (r : Records) (now : ℕ) : Type 0 where
  pub choice : MemberChoice
  pub spent : is_opening_spent limits choice now r ≡ true

-- ---- the copy that has an identifier in the queue of a line's session

abbrev pub copy_of_session : ℕ → List ℕ → Option Session → Option CopyId
copy_of_session id went None = None
copy_of_session id went (Some s) = option_map (λ e. e.copy.id) (holder id (queue_on went s))

abbrev pub copy_in : ℕ → List ℕ → Option ℕ → Broker → Option CopyId
copy_in id went None b = None
copy_in id went (Some birth) b = copy_of_session id went (session_at birth b.records)

abbrev pub copy_on : ℕ → Option Line → Broker → Option CopyId
copy_on id None b = None
copy_on id (Some l) b = copy_in id l.went l.session b

abbrev pub copy_of : ℕ → ℕ → Broker → Option CopyId
copy_of line id b = copy_on id (line_at line b) b
