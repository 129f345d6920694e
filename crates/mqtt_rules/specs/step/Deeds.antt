-- A step is a list of deeds, in the order of what they tell. All else of a step is read off its deeds.
use Rattle.std.specs.Prelude.{ℕ, Bool, true, false, cond, not, List, [], ◌∷◌, ◌++◌, filter, find, map, nat_eq, nat_le, Option, Some, None, unwrap_or}
use Rattle.mqtt_base.specs.declared.limits.TheConstants.{ALIAS_LIMIT, LINE_LIMIT}
use Rattle.mqtt_base.specs.declared.session.Qos.{Qos}
use Rattle.mqtt_base.specs.declared.session.Phase.{Phase}
use Rattle.mqtt_base.specs.declared.session.Phase.TheVariants.{Waiting}
use Rattle.mqtt_base.specs.declared.session.Ending.{Ending}
use Rattle.mqtt_props.specs.Properties.{Prop}
use Rattle.mqtt_packet.specs.declared.codec.packet.Packet.{Packet}
use Rattle.mqtt_packet.specs.declared.codec.packet.Packet.TheVariants.{Publish}
use Rattle.mqtt_topic.specs.names.Aliases.{no_aliases, after_resolve}
use Rattle.mqtt_topic.specs.declared.sending.form.Form.TheVariants.{Plain}
use Rattle.mqtt_topic.specs.sending.Told.{ToldTopics, none_told, after_send}
use Rattle.mqtt_flow.specs.inbound.Identifiers.{ids_without}
use Rattle.mqtt_records.specs.declared.messages.message.MessageCopy.{MessageCopy}
use Rattle.mqtt_records.specs.declared.messages.message.RetainedMessage.{RetainedMessage}
use Rattle.mqtt_records.specs.declared.messages.message.Will.{Will}
use Rattle.mqtt_records.specs.messages.Queue.{CopyRow}
use Rattle.mqtt_records.specs.declared.state.subscription.Subscription.{Subscription}
use Rattle.mqtt_records.specs.declared.state.session.Session.{Session}
use Rattle.mqtt_records.specs.declared.state.session.Columns.{Columns}
use Rattle.mqtt_records.specs.declared.state.records.Records.{Records}
use Rattle.mqtt_records.specs.declared.state.change.Counter.TheVariants.{Births, Publications, Subscribes, Autos}
use Rattle.mqtt_records.specs.declared.state.change.Change.{Change}
use Rattle.mqtt_records.specs.declared.state.change.Change.TheVariants.{SetCounter, PutSession, SetSession, RemoveSession, PutWill, RemoveWill, PutSubscription, RemoveSubscription, PutInbound, RemoveInbound, PutCopy, SetCopy, RemoveCopy, PutRetained, RemoveRetained}
use Rattle.mqtt_records.specs.lists.Order.{change_row, put_row, remove_row}
use Rattle.mqtt_records.specs.state.Session.{columns_of, copy_place}
use Rattle.mqtt_records.specs.state.Records.{changed_all}
use Rattle.mqtt_rules.specs.declared.step.Report.{Report}
use Rattle.mqtt_rules.specs.declared.step.Report.TheVariants as reports
use Rattle.mqtt_rules.specs.step.Packets.{size_of}
use Rattle.mqtt_rules.specs.step.Forms.{form_for, in_form}
use Rattle.mqtt_rules.specs.step.State.{Line, Telling, Broker, session_at, line_at, told_line, told_on, is_of, next_of}

-- whose a deed is: a session by its birth, with its client identifier
pub record Whose : Type 0 where
  pub birth : ℕ
  pub client : List ℕ

abbrev pub whose : Session → Whose
whose s = record { birth = s.birth; client = s.client }

-- a publication before it has its number
pub record Message : Type 0 where
  pub sender : List ℕ
  pub topic : List ℕ
  pub qos : Qos
  pub retain : Bool
  pub properties : List Prop
  pub payload : List ℕ

-- where a publication comes from: a client's PUBLISH, or a Will
pub data Origin : Type 0 where
  FromClient : Origin
  FromWill : Origin

-- what happens to one session
pub data Part : Type 0 where
  Resume : (expiry : ℕ) (will : Option Will) → Part
  Close : (moment : ℕ) → Part
  SetExpiry : (expiry : ℕ) → Part
  DropWill : Part
  Subscribe : (s : Subscription) → Part
  Unsubscribe : (filter : List ℕ) → Part
  Open : (id : ℕ) → Part  -- an identifier of a QoS 2 publication from the client is opened
  Release : (id : ℕ) → Part  -- and closed
  Enter : (copy : MessageCopy) → Part  -- a copy enters the queue, at the next place
  Mark : (place : ℕ) (phase : Phase) → Part
  Leave : (e : CopyRow) (ending : Ending) → Part

-- what happens to one line
pub data LinePart : Type 0 where
  Hear : LinePart
  Greet : (birth keep_alive window largest most : ℕ) → LinePart
  SetAlias : (alias : ℕ) (topic : List ℕ) → LinePart
  Went : (place : ℕ) → LinePart  -- a copy's PUBLISH goes out on it

pub data Deed : Type 0 where
  Accept : (number : ℕ) (origin : Origin) (m : Message) → Deed
  Begin : (row : Columns) (will : Option Will) → Deed
  Name : (n : ℕ) → Deed  -- a client identifier is assigned
  Count : (n : ℕ) → Deed  -- a filter is granted its number
  At : (who : Whose) (part : Part) → Deed
  Finish : (who : Whose) → Deed
  Keep : (kept : RetainedMessage) → Deed
  Forget : (place : ℕ) → Deed
  RefuseWill : (who : Whose) → Deed
  Link : (n : ℕ) → Deed
  On : (line : ℕ) (part : LinePart) → Deed
  Send : (line : ℕ) (packet : Packet) → Deed
  Gone : (line : ℕ) → Deed

-- ---- the rows that a deed writes

abbrev pub will_row : ℕ → Option Will → Change
will_row birth None = RemoveWill birth
will_row birth (Some will) = PutWill birth will

abbrev pub new_entry : MessageCopy → List CopyRow → CopyRow
new_entry copy queue = record { place = next_of copy_place queue; phase = Waiting; copy = copy }

-- of a session that stands
abbrev pub part_rows : Part → Session → List Change
part_rows (Resume expiry will) s =
    SetSession (record (columns_of s) { expiry = expiry; closed = None }) ∷ will_row s.birth will ∷ []
part_rows (Close moment) s = SetSession (record (columns_of s) { closed = Some moment }) ∷ []
part_rows (SetExpiry expiry) s = SetSession (record (columns_of s) { expiry = expiry }) ∷ []
part_rows DropWill s = RemoveWill s.birth ∷ []
part_rows (Subscribe sub) s = PutSubscription s.birth sub ∷ []
part_rows (Unsubscribe filter) s = RemoveSubscription s.birth filter ∷ []
part_rows (Open id) s = PutInbound s.birth id ∷ []
part_rows (Release id) s = RemoveInbound s.birth id ∷ []
part_rows (Enter copy) s = PutCopy s.birth (new_entry copy s.queue) ∷ []
part_rows (Mark place phase) s = SetCopy s.birth place phase ∷ []
part_rows (Leave e ending) s = RemoveCopy s.birth e.place ∷ []

abbrev pub part_rows_of : Part → Option Session → List Change
part_rows_of part None = []
part_rows_of part (Some s) = part_rows part s

abbrev pub begin_rows : Columns → Option Will → List Change
begin_rows row None = PutSession row ∷ SetCounter Births row.birth ∷ []
begin_rows row (Some will) = PutSession row ∷ SetCounter Births row.birth ∷ PutWill row.birth will ∷ []

abbrev pub rows_of : Deed → Records → List Change
rows_of (Accept number origin m) r = SetCounter Publications number ∷ []
rows_of (Begin row will) r = begin_rows row will
rows_of (Name n) r = SetCounter Autos n ∷ []
rows_of (Count n) r = SetCounter Subscribes n ∷ []
rows_of (At who part) r = part_rows_of part (session_at who.birth r)
rows_of (Finish who) r = RemoveSession who.birth ∷ []
rows_of (Keep kept) r = PutRetained kept ∷ []
rows_of (Forget place) r = RemoveRetained place ∷ []
rows_of (RefuseWill who) r = []
rows_of (Link n) r = []
rows_of (On line part) r = []
rows_of (Send line packet) r = []
rows_of (Gone line) r = []

-- ---- the state after a deed

-- what is stored is what its rows make of it
abbrev pub stored_after : Deed → Records → Records
stored_after d r = changed_all (rows_of d r) r

abbrev pub fresh_line : ℕ → ℕ → Line
fresh_line n now = record {
  number = n;
  heard = now;
  session = None;
  keep_alive = 0;
  window = 0;
  largest = 0;
  aliases = no_aliases ALIAS_LIMIT;
  went = [];
}

abbrev pub line_after : ℕ → LinePart → Line → Line
line_after now Hear l = record l { heard = now }
line_after now (Greet birth keep_alive window largest most) l =
    record l { session = Some birth; keep_alive = keep_alive; window = window; largest = largest }
line_after now (SetAlias alias topic) l = record l { aliases = after_resolve l.aliases topic (Some alias) }
line_after now (Went place) l = record l { went = l.went ++ place ∷ [] }

abbrev pub on_line : ℕ → ℕ → LinePart → List Line → List Line
on_line now n part [] = []
on_line now n part (l ∷ ls) = cond (nat_eq l.number n) (line_after now part l ∷ ls) (l ∷ on_line now n part ls)

-- a copy that left its session's queue is sent on its line no longer
abbrev pub without_place : ℕ → ℕ → Line → Line
without_place birth place l = cond (is_of l.session birth) (record l { went = ids_without place l.went }) l

abbrev pub lines_at : ℕ → Part → List Line → List Line
lines_at birth (Leave e ending) ls = map (without_place birth e.place) ls
lines_at birth part ls = ls

abbrev pub lines_after : ℕ → Deed → List Line → List Line
lines_after now (Link n) ls = ls ++ fresh_line n now ∷ []
lines_after now (On n part) ls = on_line now n part ls
lines_after now (Gone n) ls = filter (λ l. not (nat_eq l.number n)) ls
lines_after now (At who part) ls = lines_at who.birth part ls
lines_after now d ls = ls

abbrev pub given_after : Deed → ℕ → ℕ
given_after (Link n) given = n
given_after d given = given

-- what a packet tells that goes out on a line: a PUBLISH in the form that names its topic tells it an alias (3.3.2.3.4)
abbrev pub tells : Option Line → Packet → ToldTopics → ToldTopics
tells None packet told = told
tells (Some l) (Publish p) told = after_send (form_for l.largest told p) p.topic told
tells (Some l) packet told = told

abbrev pub tells_on : ℕ → Option Line → Packet → List Telling → List Telling
tells_on n o packet ts = change_row told_line n (λ t. record t { topics = tells o packet t.topics }) ts

abbrev pub without_telling : ℕ → List Telling → List Telling
without_telling n ts = remove_row told_line n ts

-- with a CONNECT that is accepted the connection has a table of its own, unless its client takes no alias; there are as many
-- tables as lines may stand (ours)
abbrev pub greeted : ℕ → ℕ → List Telling → List Telling
greeted n most ts =
    cond (nat_eq most 0) ts (put_row told_line LINE_LIMIT (record { line = n; topics = none_told most }) (without_telling n ts))

abbrev pub told_part : ℕ → LinePart → List Telling → List Telling
told_part n (Greet birth keep_alive window largest most) ts = greeted n most ts
told_part n part ts = ts

abbrev pub tellings_after : Deed → List Line → List Telling → List Telling
tellings_after (On n part) ls ts = told_part n part ts
tellings_after (Send n packet) ls ts = tells_on n (find (λ l. nat_eq l.number n) ls) packet ts
tellings_after (Gone n) ls ts = without_telling n ts
tellings_after d ls ts = ts

abbrev pub after : Deed → Broker → Broker
after d b = record {
  records = stored_after d b.records;
  lines = lines_after b.now d b.lines;
  given = given_after d b.given;
  now = b.now;
  tellings = tellings_after d b.lines b.tellings;
}

abbrev pub after_all : List Deed → Broker → Broker
after_all [] b = b
after_all (d ∷ ds) b = after_all ds (after d b)

-- the rows that deeds write, each on what the ones before it left
abbrev pub rows_of_all : List Deed → Records → List Change
rows_of_all [] r = []
rows_of_all (d ∷ ds) r = rows_of d r ++ rows_of_all ds (stored_after d r)

-- ---- deeds that depend on the ones before them

abbrev pub Act : Type 0
Act = Broker → List Deed

abbrev pub then : List Deed → Act → Act
then ds act b = ds ++ act (after_all ds b)

-- one after the other, each on what the ones before it left
abbrev pub series : List Act → Act
series [] b = []
series (f ∷ fs) b = then (f b) (series fs) b

abbrev pub always : List Deed → Act
always ds b = ds

abbrev pub only_if : Bool → Act → Act
only_if true act b = act b
only_if false act b = []

-- something about a session, or about a line, if it stands by then
abbrev pub with_session : Option Session → (Session → Act) → Act
with_session None f b = []
with_session (Some s) f b = f s b

abbrev pub of_session : ℕ → (Session → Act) → Act
of_session birth f b = with_session (session_at birth b.records) f b

abbrev pub with_line : Option Line → (Line → Act) → Act
with_line None f b = []
with_line (Some l) f b = f l b

-- a packet that is left out if it is larger than the client takes (3.1.2.11.4)
abbrev pub offer : Option Line → Packet → List Deed
offer None packet = []
offer (Some l) packet = cond (nat_le (size_of packet) l.largest) (Send l.number packet ∷ []) []

-- ---- what is told

abbrev pub output : Deed → Option (ℕ × Packet)
output (Send n packet) = Some (n, packet)
output d = None

-- a packet as it goes out: a PUBLISH in its form (3.3.2.3.4)
abbrev pub spoken : Option Line → ToldTopics → Packet → Packet
spoken (Some l) told (Publish p) = Publish (in_form (unwrap_or (form_for l.largest told p) Plain) p)
spoken o told packet = packet

abbrev pub wire : Deed → Broker → List (ℕ × Packet)
wire (Send n packet) b = (n, spoken (line_at n b) (told_on n b.tellings) packet) ∷ []
wire d b = []

-- each on what the ones before it left
abbrev pub wires : List Deed → Broker → List (ℕ × Packet)
wires [] b = []
wires (d ∷ ds) b = wire d b ++ wires ds (after d b)

abbrev pub closing : Deed → Option ℕ
closing (Gone n) = Some n
closing d = None

abbrev pub part_report : Whose → Part → Option Report
part_report who (Enter copy) = Some (reports.Entered copy.id who.client)
part_report who (Leave e ending) = Some (reports.Ended e.copy.id who.client ending)
part_report who (Release id) = Some (reports.Released who.birth who.client id)
part_report who part = None

abbrev pub report : Deed → Option Report
report (Accept number origin m) = Some (reports.Accepted number)
report (At who part) = part_report who part
report (RefuseWill who) = Some (reports.WillRefused who.birth who.client)
report d = None
