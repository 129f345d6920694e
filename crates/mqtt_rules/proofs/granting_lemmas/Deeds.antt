-- Deeds whose PUBLISH packets name their topics, and what they leave stored and on lines.
use Rattle.mqtt_base.specs.declared.limits.TheConstants.{QUEUE_LIMIT, RETAINED_LIMIT, SESSION_LIMIT}
use Rattle.mqtt_packet.specs.declared.codec.packet.Packet.TheVariants as packets
use Rattle.mqtt_packet.specs.declared.codec.packet.Packet.{Packet}
use Rattle.mqtt_records.specs.state.Records.{changed, changed_all, in_session, kept_place, put_session, with_counter}
use Rattle.mqtt_records.specs.state.Session.{birth_of, copy_place, fresh, in_phase, with_columns, with_copy, with_open, with_phase, with_subscription, with_will, without_copy, without_open, without_subscription}
use Rattle.mqtt_records.specs.declared.state.change.Change.TheVariants.{PutCopy, PutInbound, PutRetained, PutSession, PutSubscription, PutWill, RemoveCopy, RemoveInbound, RemoveRetained, RemoveSession, RemoveSubscription, RemoveWill, SetCopy, SetCounter, SetSession}
use Rattle.mqtt_records.specs.declared.state.change.Change.{Change}
use Rattle.mqtt_records.specs.declared.state.change.Counter.TheVariants.{Autos, Births, Moment, Publications, Subscribes}
use Rattle.mqtt_records.specs.declared.state.change.Counter.{Counter}
use Rattle.mqtt_records.specs.declared.state.records.Records.{Records}
use Rattle.mqtt_records.specs.declared.state.session.Columns.{Columns}
use Rattle.mqtt_records.specs.declared.state.session.Session.{Session}
use Rattle.mqtt_records.specs.messages.Queue.{CopyRow}
use Rattle.mqtt_records.specs.declared.messages.message.RetainedMessage.{RetainedMessage}
use Rattle.mqtt_records.specs.lists.Order.{change_row, has_row, put_row}
use Rattle.mqtt_rules.proofs.step_lemmas.flight.FlightRows.{all_changed, all_put}
use Rattle.mqtt_rules.proofs.step_lemmas.numbers.Copies.{each_append, each_filter, each_map, each_more}
use Rattle.mqtt_rules.specs.step.Deeds.{Accept, At, Begin, Count, Deed, Enter, Finish, Forget, Gone, Greet, Hear, Keep, Leave, LinePart, Link, Name, On, Part, Resume, Send, SetAlias, Went, Whose, after, after_all, fresh_line, line_after, lines_after, lines_at, on_line, part_rows_of, rows_of, without_place}
use Rattle.mqtt_rules.specs.step.State.{Broker, Line, is_of, session_at}
use Rattle.mqtt_rules.specs.granting.Naming.{EndsWithUsers, HasNamed, HasNames, HasUsersLast, IsNamed, IsNamedWill, NamesTopics, SendsUsersLast, StoresNamed}
use Rattle.mqtt_rules.specs.telling.Meaning.{HasItsTopic, SendsItsTopic}
use Rattle.mqtt_topic.specs.names.Aliases.{AliasTable, after_resolve, with_topic}
use Rattle.mqtt_topic.specs.names.Names.{IsTopicName}
use Rattle.std.proofs.Common.{Bool, List, None, Option, Some, [], cond, false, inl, inr, nat_eq, not, true, ℕ, ◌++◌, ◌∷◌}
use Rattle.std.proofs.lemmas.Bool.{cases_Bool}
use Rattle.std.specs.List.{AllByRecursion}
use Rattle.std.specs.Prelude.{⊤}

-- ---- rows

abbrev NamesRow : Change → Type 0
NamesRow (PutWill birth will) = IsTopicName will.topic
NamesRow (PutCopy birth row) = IsNamed row.copy.content
NamesRow (PutRetained kept) = IsNamed kept.content
NamesRow change = ⊤

abbrev Named : CopyRow → Type 0
Named e = IsNamed e.copy.content

abbrev Kept : RetainedMessage → Type 0
Kept k = IsNamed k.content

changed_in : (birth : ℕ) (f : Session → Session) (r : Records) → ((s : Session) → HasNamed s → HasNamed (f s)) → StoresNamed r → StoresNamed (in_session birth f r)
changed_in birth f r kept h = record { sessions = all_changed birth_of HasNamed birth f r.sessions kept h.sessions; retained = h.retained }

session_put : (row : Columns) (ss : List Session) → AllByRecursion HasNamed ss → AllByRecursion HasNamed (put_session row ss)
session_put row ss h = by (has_row birth_of row.birth ss)
  where
    by : (t : Bool) → AllByRecursion HasNamed (cond t (change_row birth_of row.birth (with_columns row) ss) (put_row birth_of SESSION_LIMIT (fresh row) ss))
    by true = all_changed birth_of HasNamed row.birth (with_columns row) ss (λ s q. record { will = q.will; queue = q.queue }) h
    by false = all_put birth_of HasNamed SESSION_LIMIT (fresh row) ss (record { will = tt; queue = tt }) h

counted : (counter : Counter) (value : ℕ) (r : Records) → StoresNamed r → StoresNamed (with_counter counter value r)
counted Births value r h = record { sessions = h.sessions; retained = h.retained }
counted Publications value r h = record { sessions = h.sessions; retained = h.retained }
counted Subscribes value r h = record { sessions = h.sessions; retained = h.retained }
counted Autos value r h = record { sessions = h.sessions; retained = h.retained }
counted Moment value r h = record { sessions = h.sessions; retained = h.retained }

row_kept : (change : Change) (r : Records) → NamesRow change → StoresNamed r → StoresNamed (changed change r)
row_kept (SetCounter counter value) r q h = counted counter value r h
row_kept (PutSession row) r q h = record { sessions = session_put row r.sessions h.sessions; retained = h.retained }
row_kept (SetSession row) r q h = changed_in row.birth (with_columns row) r (λ s c. record { will = c.will; queue = c.queue }) h
row_kept (RemoveSession birth) r q h = record { sessions = each_filter HasNamed (λ s. not (nat_eq (birth_of s) birth)) r.sessions h.sessions; retained = h.retained }
row_kept (PutWill birth will) r q h = changed_in birth (with_will (Some will)) r (λ s c. record { will = q; queue = c.queue }) h
row_kept (RemoveWill birth) r q h = changed_in birth (with_will None) r (λ s c. record { will = tt; queue = c.queue }) h
row_kept (PutSubscription birth sub) r q h = changed_in birth (with_subscription sub) r (λ s c. record { will = c.will; queue = c.queue }) h
row_kept (RemoveSubscription birth text) r q h = changed_in birth (without_subscription text) r (λ s c. record { will = c.will; queue = c.queue }) h
row_kept (PutInbound birth id) r q h = changed_in birth (with_open id) r (λ s c. record { will = c.will; queue = c.queue }) h
row_kept (RemoveInbound birth id) r q h = changed_in birth (without_open id) r (λ s c. record { will = c.will; queue = c.queue }) h
row_kept (PutCopy birth e) r q h = changed_in birth (with_copy e) r (λ s c. record { will = c.will; queue = all_put copy_place Named QUEUE_LIMIT e s.queue q c.queue }) h
row_kept (SetCopy birth place phase) r q h =
    changed_in birth (with_phase place phase) r (λ s c. record { will = c.will; queue = all_changed copy_place Named place (in_phase phase) s.queue (λ e u. u) c.queue }) h
row_kept (RemoveCopy birth place) r q h =
    changed_in birth (without_copy place) r (λ s c. record { will = c.will; queue = each_filter Named (λ e. not (nat_eq (copy_place e) place)) s.queue c.queue }) h
row_kept (PutRetained kept) r q h = record { sessions = h.sessions; retained = all_put kept_place Kept RETAINED_LIMIT kept r.retained q h.retained }
row_kept (RemoveRetained place) r q h = record { sessions = h.sessions; retained = each_filter Kept (λ k. not (nat_eq (kept_place k) place)) r.retained h.retained }

rows_kept : (rows : List Change) (r : Records) → AllByRecursion NamesRow rows → StoresNamed r → StoresNamed (changed_all rows r)
rows_kept [] r q h = h
rows_kept (row ∷ rows) r q h = rows_kept rows (changed row r) q.1 (row_kept row r q.0 h)

-- ---- deeds

-- a PUBLISH that is sent names its topic, and its User Properties come last
abbrev pub IsSaid : Packet → Type 0
IsSaid (packets.Publish p) = HasItsTopic (packets.Publish p) × HasUsersLast p.properties
IsSaid packet = ⊤

-- so is what is sent; and what is stored to be sent names its topic
abbrev pub Names : Deed → Type 0
Names (Begin row will) = IsNamedWill will
Names (At who (Resume expiry will)) = IsNamedWill will
Names (At who (Enter copy)) = IsNamed copy.content
Names (Keep kept) = IsNamed kept.content
Names (On line (SetAlias alias topic)) = IsTopicName topic
Names (Send line packet) = IsSaid packet
Names d = ⊤

abbrev pub AllName : List Deed → Type 0
AllName ds = AllByRecursion Names ds

part_names : (who : Whose) (part : Part) (o : Option Session) → Names (At who part) → AllByRecursion NamesRow (part_rows_of part o)
part_names who part None q = tt
part_names who (Resume expiry None) (Some s) q = (tt, (tt, tt))
part_names who (Resume expiry (Some will)) (Some s) q = (tt, (q, tt))
part_names who (Enter copy) (Some s) q = (q, tt)
part_names who part (Some s) q = (tt, tt)

rows_name : (d : Deed) (r : Records) → Names d → AllByRecursion NamesRow (rows_of d r)
rows_name (Accept number origin m) r q = (tt, tt)
rows_name (Begin row None) r q = (tt, (tt, tt))
rows_name (Begin row (Some will)) r q = (tt, (tt, (q, tt)))
rows_name (Name n) r q = (tt, tt)
rows_name (Count n) r q = (tt, tt)
rows_name (At who part) r q = part_names who part (session_at who.birth r) q
rows_name (Finish who) r q = (tt, tt)
rows_name (Keep kept) r q = (q, tt)
rows_name (Forget place) r q = (tt, tt)
rows_name d r q = tt

-- ---- lines

with_names : (alias : ℕ) (topic : List ℕ) (ts : List (ℕ × List ℕ)) → IsTopicName topic → AllByRecursion (λ e. IsTopicName e.1) ts → AllByRecursion (λ e. IsTopicName e.1) (with_topic alias topic ts)
with_names alias topic [] q h = (q, tt)
with_names alias topic (e ∷ es) q h = elim (cases_Bool (nat_eq alias e.0)) [
  | inl same ↦ rw same (q, h.1)
  | inr other ↦ rw other (h.0, with_names alias topic es q h.1)
]

names_resolved : (table : AliasTable) (topic : List ℕ) (alias : ℕ) → IsTopicName topic → AllByRecursion (λ e. IsTopicName e.1) table.topics
    → AllByRecursion (λ e. IsTopicName e.1) (after_resolve table topic (Some alias)).topics
names_resolved table [] alias q h = h
names_resolved table (c ∷ cs) alias q h = with_names alias (c ∷ cs) table.topics q h

part_on : (now n : ℕ) (part : LinePart) (l : Line) → Names (On n part) → HasNames l → HasNames (line_after now part l)
part_on now n Hear l q h = h
part_on now n (Greet birth keep_alive window largest most) l q h = h
part_on now n (SetAlias alias topic) l q h = names_resolved l.aliases topic alias q h
part_on now n (Went place) l q h = h

lines_on : (now n : ℕ) (part : LinePart) (ls : List Line) → Names (On n part) → AllByRecursion HasNames ls → AllByRecursion HasNames (on_line now n part ls)
lines_on now n part [] q h = tt
lines_on now n part (l ∷ ls) q h = elim (cases_Bool (nat_eq l.number n)) [
  | inl here ↦ rw here (part_on now n part l q h.0, h.1)
  | inr other ↦ rw other (h.0, lines_on now n part ls q h.1)
]

without_went : (t : Bool) (went : List ℕ) (l : Line) → HasNames l → HasNames (cond t (record l { went = went }) l)
without_went true went l h = h
without_went false went l h = h

lines_part : (birth : ℕ) (part : Part) (ls : List Line) → AllByRecursion HasNames ls → AllByRecursion HasNames (lines_at birth part ls)
lines_part birth (Leave e ending) ls h =
    each_map HasNames (without_place birth e.place) ls
    (each_more HasNames (λ l. HasNames (without_place birth e.place l)) (λ l q. without_went (is_of l.session birth) _ l q) ls h)
lines_part birth part ls h = h

lines_kept : (now : ℕ) (d : Deed) (ls : List Line) → Names d → AllByRecursion HasNames ls → AllByRecursion HasNames (lines_after now d ls)
lines_kept now (Link n) ls q h = each_append HasNames ls (fresh_line n now ∷ []) h (tt, tt)
lines_kept now (On n part) ls q h = lines_on now n part ls q h
lines_kept now (Gone n) ls q h = each_filter HasNames (λ l. not (nat_eq l.number n)) ls h
lines_kept now (At who part) ls q h = lines_part who.birth part ls h
lines_kept now d ls q h = h

-- ---- what is kept

-- a deed that names its topic keeps all topics named
pub kept : (d : Deed) (b : Broker) → NamesTopics b → Names d → NamesTopics (after d b)
kept d b h q = record {
  stored = rows_kept (rows_of d b.records) b.records (rows_name d b.records q) h.stored;
  lines = lines_kept b.now d b.lines q h.lines;
}

-- so do many
pub kept_all : (ds : List Deed) (b : Broker) → NamesTopics b → AllName ds → NamesTopics (after_all ds b)
kept_all [] b h q = h
kept_all (d ∷ ds) b h q = kept_all ds (after d b) (kept d b h q.0) q.1

-- ---- what deeds say where all topics are named

abbrev pub Naming : List Deed → Broker → Type 0
Naming ds b = NamesTopics b → AllName ds

-- some deeds, and then others
pub next : (xs ys : List Deed) (b : Broker) → Naming xs b → Naming ys (after_all xs b) → Naming (xs ++ ys) b
next xs ys b p q h = let first = p h in each_append Names xs ys first (q (kept_all xs b h first))

-- ---- what is asked where packets go out in forms

-- such a packet has its topic
pub topic_said : (packet : Packet) → IsSaid packet → HasItsTopic packet
topic_said (packets.Publish p) h = h.0
topic_said packet h = tt

users_said : (packet : Packet) → IsSaid packet → EndsWithUsers packet
users_said (packets.Publish p) h = h.1
users_said packet h = tt

-- deeds that name their topics send each PUBLISH with its User Properties last
pub sends_users : (ds : List Deed) → AllName ds → AllByRecursion SendsUsersLast ds
sends_users [] h = tt
sends_users (Send k packet ∷ ds) h = (users_said packet h.0, sends_users ds h.1)
sends_users (d ∷ ds) h = (tt, sends_users ds h.1)

-- and with its topic
pub sends_topics : (ds : List Deed) → AllName ds → AllByRecursion SendsItsTopic ds
sends_topics [] h = tt
sends_topics (Send k packet ∷ ds) h = (topic_said packet h.0, sends_topics ds h.1)
sends_topics (d ∷ ds) h = (tt, sends_topics ds h.1)
