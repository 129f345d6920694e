-- What changes and deeds make of brokers that are alike.
use Rattle.std.proofs.Common.{◌≡◌, ℕ, suc, Bool, List, [], ◌∷◌, map, Option, Some, None, nat_eq, refl, sym, ap, subst, subst₂, ◌∙◌}
use Rattle.std.specs.Prelude.{find}
use Rattle.mqtt_base.specs.declared.limits.TheConstants.{SESSION_LIMIT, QUEUE_LIMIT}
use Rattle.mqtt_base.specs.declared.session.Ending.{Ending}
use Rattle.mqtt_base.specs.declared.session.Phase.{Phase}
use Rattle.mqtt_base.specs.declared.session.Phase.TheVariants.{Waiting}
use Rattle.mqtt_topic.specs.sending.Told.{ToldTopics, after_send}
use Rattle.mqtt_packet.specs.declared.codec.packet.Packet.{Packet}
use Rattle.mqtt_records.specs.declared.messages.message.MessageCopy.{MessageCopy}
use Rattle.mqtt_records.specs.messages.Queue.{CopyRow}
use Rattle.mqtt_records.specs.declared.state.change.Counter.TheVariants.{Births, Publications, Subscribes, Autos, Moment}
use Rattle.mqtt_records.specs.declared.state.change.Change.{Change}
use Rattle.mqtt_records.specs.declared.state.change.Change.TheVariants as change
use Rattle.mqtt_records.specs.declared.state.session.Session.{Session}
use Rattle.mqtt_records.specs.declared.state.session.Columns.{Columns}
use Rattle.mqtt_records.specs.declared.state.records.Records.{Records}
use Rattle.mqtt_records.specs.state.Records.{changed, changed_all, in_session, put_session}
use Rattle.mqtt_records.specs.state.Session.{birth_of, copy_place, fresh, in_phase, with_columns, with_will, with_subscription, without_subscription, with_open, without_open, with_copy, with_phase, without_copy}
use Rattle.mqtt_records.specs.lists.Order.{has_row, put_row, change_row}
use Rattle.mqtt_routes.specs.routing.Intended.{greatest}
use Rattle.mqtt_rules.specs.step.Packets.{publish_of}
use Rattle.mqtt_rules.specs.step.State.{Line, Telling, Broker, session_at, told_line}
use Rattle.mqtt_rules.specs.step.Deeds.{Whose, Part, Resume, Close, SetExpiry, DropWill, Subscribe, Unsubscribe, Open, Release, Enter, Mark, Leave, Deed, Accept, Begin, Name, Count, At, Finish, Keep, Forget, RefuseWill, Link, On, Send, Gone, after, after_all, rows_of, part_rows, part_rows_of, lines_after, given_after, tells, tellings_after, without_place}
use Rattle.mqtt_rules.specs.alike.Alike.{Each, AlikeCopies, AlikeRows, AlikeSessions, AlikeRecords, AlikeBrokers, AlikeDeeds, AlikePublishes, same, leaves, sends, with_queue, with_sessions, with_records}
use Rattle.mqtt_rules.proofs.alike_lemmas.SameForms.{form_same}
use Rattle.mqtt_rules.proofs.alike_lemmas.Pairs.{Both, by_cond, each_refl, map_same, both_at, each_changed, each_removed, each_put, has_same}

-- ---- what is alike to itself

-- a row is like itself
pub row_alike : (e : CopyRow) → AlikeRows e e
row_alike e = record { place = refl; phase = refl; copy = record { seen = refl; retain = refl; topic = refl; others = refl } }

-- so is a session
pub session_alike : (s : Session) → AlikeSessions s s
session_alike s = record { rest = refl; queue = each_refl AlikeRows row_alike s.queue }

-- and a deed
pub deed_alike : (P : Type 0) (d : Deed) → AlikeDeeds P d d
deed_alike P d = same refl

-- ---- what is alike to a session, to records, to a broker: the same with other rows

-- a session with an alike queue is alike
pub queue_put : (s : Session) (q : List CopyRow) → Each AlikeRows s.queue q → AlikeSessions s (with_queue q s)
queue_put s q h = record { rest = refl; queue = h }

-- and an alike session is one with an alike queue
pub session_is : (s t : Session) → AlikeSessions s t → with_queue t.queue s ≡ t
session_is s t h = ap (with_queue t.queue) h.rest

-- what holds of the same with other rows holds of each that is alike
pub by_queue : (P : Session → Type 0) (s : Session) → ((q : List CopyRow) → Each AlikeRows s.queue q → P (with_queue q s)) → (t : Session) → AlikeSessions s t → P t
by_queue P s k t h = subst P (session_is s t h) (k t.queue h.queue)

-- records with alike sessions are alike
pub records_put : (r : Records) (ss : List Session) → Each AlikeSessions r.sessions ss → AlikeRecords r (with_sessions ss r)
records_put r ss h = record { rest = refl; sessions = h }

-- what holds of records with alike sessions holds of alike records
pub by_sessions : (P : Records → Type 0) (r : Records) → ((ss : List Session) → Each AlikeSessions r.sessions ss → P (with_sessions ss r)) → (o : Records) → AlikeRecords r o → P o
by_sessions P r k o h = subst P (ap (with_sessions o.sessions) h.rest) (k o.sessions h.sessions)

abbrev pub like : List Session → Broker → Broker
like ss b = with_records (with_sessions ss b.records) b

-- a broker with alike sessions is alike
pub broker_put : (b : Broker) (ss : List Session) → Each AlikeSessions b.records.sessions ss → AlikeBrokers b (like ss b)
broker_put b ss h = record { rest = refl; records = records_put b.records ss h }

-- and an alike broker is one with alike sessions
pub broker_is : (b c : Broker) → AlikeBrokers b c → like c.records.sessions b ≡ c
broker_is b c h = ap (λ (r : Records). with_records r b) (ap (with_sessions c.records.sessions) h.records.rest) ∙ h.rest

-- what holds of a broker with alike sessions holds of alike brokers
pub by_broker : (P : Broker → Type 0) (b : Broker) → ((ss : List Session) → Each AlikeSessions b.records.sessions ss → P (like ss b)) → (c : Broker) → AlikeBrokers b c → P c
by_broker P b k c h = subst P (broker_is b c h) (k c.records.sessions h.records.sessions)

-- ---- what is found

-- alike sessions have one birth
pub birth_same : (s t : Session) → AlikeSessions s t → s.birth ≡ t.birth
birth_same s t h = ap (λ (x : Session). x.birth) h.rest

-- alike queues have the same places
pub places_same : (q p : List CopyRow) → Each AlikeRows q p → map copy_place q ≡ map copy_place p
places_same q p h = map_same AlikeRows copy_place copy_place (λ x y k. k.place) q p h

-- a birth finds alike sessions in both
pub session_found : (birth : ℕ) (r : Records) (ss : List Session) → Each AlikeSessions r.sessions ss → Both AlikeSessions (session_at birth r) (session_at birth (with_sessions ss r))
session_found birth r ss h = both_at AlikeSessions birth_of birth_same birth r.sessions ss h

-- alike rows have one place
pub place_same : (x y : CopyRow) → AlikeRows x y → copy_place x ≡ copy_place y
place_same x y h = h.place

-- ---- changes

module _ (f : Session → Session) where
  -- a change of a session that keeps alike what is
  abbrev pub KeepsAlike : Type 0
  KeepsAlike = (s : Session) (q : List CopyRow) → Each AlikeRows s.queue q → AlikeSessions (f s) (f (with_queue q s))

  edited : KeepsAlike → (s t : Session) → AlikeSessions s t → AlikeSessions (f s) (f t)
  edited k s t h = by_queue (λ (x : Session). AlikeSessions (f s) (f x)) s (k s) t h

  in_session_alike : KeepsAlike → (birth : ℕ) (r : Records) (ss : List Session) → Each AlikeSessions r.sessions ss → AlikeRecords (in_session birth f r) (in_session birth f (with_sessions ss r))
  in_session_alike k birth r ss h = record { rest = refl; sessions = each_changed AlikeSessions birth_of birth_same birth f f (edited k) r.sessions ss h }

columns_keep : (row : Columns) → KeepsAlike (with_columns row)
columns_keep row s q h = record { rest = refl; queue = h }

marked_alike : (phase : Phase) (x y : CopyRow) → AlikeRows x y → AlikeRows (in_phase phase x) (in_phase phase y)
marked_alike phase x y h = record { place = h.place; phase = refl; copy = h.copy }

put_session_alike : (row : Columns) (ss ts : List Session) → Each AlikeSessions ss ts → Each AlikeSessions (put_session row ss) (put_session row ts)
put_session_alike row ss ts h =
    by_cond (Each AlikeSessions) (has_row birth_of row.birth ss) (has_row birth_of row.birth ts) (has_same AlikeSessions birth_of birth_same row.birth ss ts h)
    (change_row birth_of row.birth (with_columns row) ss) (put_row birth_of SESSION_LIMIT (fresh row) ss)
    (change_row birth_of row.birth (with_columns row) ts) (put_row birth_of SESSION_LIMIT (fresh row) ts)
    (each_changed AlikeSessions birth_of birth_same row.birth (with_columns row) (with_columns row) (edited (with_columns row) (columns_keep row)) ss ts h)
    (each_put AlikeSessions birth_of birth_same SESSION_LIMIT (fresh row) (session_alike (fresh row)) ss ts h)

-- a change leaves alike records alike
pub changed_alike : (c : Change) (r : Records) (ss : List Session) → Each AlikeSessions r.sessions ss → AlikeRecords (changed c r) (changed c (with_sessions ss r))
changed_alike (change.SetCounter Births n) r ss h = record { rest = refl; sessions = h }
changed_alike (change.SetCounter Publications n) r ss h = record { rest = refl; sessions = h }
changed_alike (change.SetCounter Subscribes n) r ss h = record { rest = refl; sessions = h }
changed_alike (change.SetCounter Autos n) r ss h = record { rest = refl; sessions = h }
changed_alike (change.SetCounter Moment n) r ss h = record { rest = refl; sessions = h }
changed_alike (change.PutSession row) r ss h = record { rest = refl; sessions = put_session_alike row r.sessions ss h }
changed_alike (change.SetSession row) r ss h = in_session_alike (with_columns row) (columns_keep row) row.birth r ss h
changed_alike (change.RemoveSession birth) r ss h = record { rest = refl; sessions = each_removed AlikeSessions birth_of birth_same birth r.sessions ss h }
changed_alike (change.PutWill birth will) r ss h = in_session_alike (with_will (Some will)) (λ s q k. record { rest = refl; queue = k }) birth r ss h
changed_alike (change.RemoveWill birth) r ss h = in_session_alike (with_will None) (λ s q k. record { rest = refl; queue = k }) birth r ss h
changed_alike (change.PutSubscription birth sub) r ss h = in_session_alike (with_subscription sub) (λ s q k. record { rest = refl; queue = k }) birth r ss h
changed_alike (change.RemoveSubscription birth text) r ss h = in_session_alike (without_subscription text) (λ s q k. record { rest = refl; queue = k }) birth r ss h
changed_alike (change.PutInbound birth id) r ss h = in_session_alike (with_open id) (λ s q k. record { rest = refl; queue = k }) birth r ss h
changed_alike (change.RemoveInbound birth id) r ss h = in_session_alike (without_open id) (λ s q k. record { rest = refl; queue = k }) birth r ss h
changed_alike (change.PutCopy birth row) r ss h =
    in_session_alike (with_copy row) (λ s q k. record { rest = refl; queue = each_put AlikeRows copy_place place_same QUEUE_LIMIT row (row_alike row) s.queue q k }) birth r ss h
changed_alike (change.SetCopy birth place phase) r ss h =
    in_session_alike (with_phase place phase) (λ s q k. record { rest = refl; queue = each_changed AlikeRows copy_place place_same place (in_phase phase) (in_phase phase) (marked_alike phase) s.queue q k }) birth r ss h
changed_alike (change.RemoveCopy birth place) r ss h =
    in_session_alike (without_copy place) (λ s q k. record { rest = refl; queue = each_removed AlikeRows copy_place place_same place s.queue q k }) birth r ss h
changed_alike (change.PutRetained kept) r ss h = record { rest = refl; sessions = h }
changed_alike (change.RemoveRetained place) r ss h = record { rest = refl; sessions = h }

-- so do many
pub changed_all_alike : (cs : List Change) (r o : Records) → AlikeRecords r o → AlikeRecords (changed_all cs r) (changed_all cs o)
changed_all_alike [] r o h = h
changed_all_alike (c ∷ cs) r o h =
    changed_all_alike cs (changed c r) (changed c o) (by_sessions (λ (x : Records). AlikeRecords (changed c r) (changed c x)) r (changed_alike c r) o h)

-- ---- deeds: the rows are the same

new_place : (s : Session) (q : List CopyRow) → Each AlikeRows s.queue q → suc (greatest (map copy_place s.queue)) ≡ suc (greatest (map copy_place q))
new_place s q h = ap (λ (ns : List ℕ). suc (greatest ns)) (places_same s.queue q h)

part_same : (part : Part) (s : Session) (q : List CopyRow) → Each AlikeRows s.queue q → part_rows part s ≡ part_rows part (with_queue q s)
part_same (Resume expiry will) s q h = refl
part_same (Close moment) s q h = refl
part_same (SetExpiry expiry) s q h = refl
part_same DropWill s q h = refl
part_same (Subscribe sub) s q h = refl
part_same (Unsubscribe name) s q h = refl
part_same (Open id) s q h = refl
part_same (Release id) s q h = refl
part_same (Enter copy) s q h = ap (λ (n : ℕ). change.PutCopy s.birth (record { place = n; phase = Waiting; copy = copy }) ∷ []) (new_place s q h)
part_same (Mark place phase) s q h = refl
part_same (Leave e ending) s q h = refl

part_of_same : (part : Part) (o p : Option Session) → Both AlikeSessions o p → part_rows_of part o ≡ part_rows_of part p
part_of_same part None None h = refl
part_of_same part None (Some t) h = absurd h
part_of_same part (Some s) None h = absurd h
part_of_same part (Some s) (Some t) h = by_queue (λ (x : Session). part_rows part s ≡ part_rows part x) s (part_same part s) t h

rows_same : (d : Deed) (r : Records) (ss : List Session) → Each AlikeSessions r.sessions ss → rows_of d r ≡ rows_of d (with_sessions ss r)
rows_same (Accept number origin m) r ss h = refl
rows_same (Begin row None) r ss h = refl
rows_same (Begin row (Some will)) r ss h = refl
rows_same (Name n) r ss h = refl
rows_same (Count n) r ss h = refl
rows_same (At who part) r ss h = part_of_same part (session_at who.birth r) (session_at who.birth (with_sessions ss r)) (session_found who.birth r ss h)
rows_same (Finish who) r ss h = refl
rows_same (Keep kept) r ss h = refl
rows_same (Forget place) r ss h = refl
rows_same (RefuseWill who) r ss h = refl
rows_same (Link n) r ss h = refl
rows_same (On line part) r ss h = refl
rows_same (Send line packet) r ss h = refl
rows_same (Gone line) r ss h = refl

-- a deed as it is seen: of a row that leaves its place alone
leave_rows : (who : Whose) (x y : CopyRow) (ending : Ending) (o : Option Session) → x.place ≡ y.place → part_rows_of (Leave x ending) o ≡ part_rows_of (Leave y ending) o
leave_rows who x y ending None e = refl
leave_rows who x y ending (Some s) e = ap (λ (n : ℕ). change.RemoveCopy s.birth n ∷ []) e

-- two alike deeds do the same to one state
abbrev DoSame : Deed → Deed → Type 0
DoSame d e = (r : Records) (now : ℕ) (ls : List Line) (given : ℕ) (ts : List Telling)
    → (rows_of d r ≡ rows_of e r) × (lines_after now d ls ≡ lines_after now e ls) × (given_after d given ≡ given_after e given) × (tellings_after d ls ts ≡ tellings_after e ls ts)

leave_does : (who : Whose) (x y : CopyRow) (ending : Ending) → x.place ≡ y.place → DoSame (At who (Leave x ending)) (At who (Leave y ending))
leave_does who x y ending e r now ls given ts = (leave_rows who x y ending (session_at who.birth r) e, ap (λ (n : ℕ). map (without_place who.birth n) ls) e, refl, refl)

-- the PUBLISH of one of two alike copies is told in the same form, and tells the same (3.3.2.3.4)
tells_same : (o : Option Line) (now id : ℕ) (dup : Bool) (x y : MessageCopy) → AlikeCopies x y → (told : ToldTopics)
    → tells o (publish_of now dup id x) told ≡ tells o (publish_of now dup id y) told
tells_same None now id dup x y h told = refl
tells_same (Some l) now id dup x y h told = λ i. after_send (form_same l.largest told now id dup x y h i) (h.topic i) told

publish_tells : (n : ℕ) (p q : Packet) → AlikePublishes p q → (ls : List Line) (ts : List Telling) → tellings_after (Send n p) ls ts ≡ tellings_after (Send n q) ls ts
publish_tells n p q l ls ts =
    subst₂ (λ (x y : Packet). tellings_after (Send n x) ls ts ≡ tellings_after (Send n y) ls ts) (sym l.first) (sym l.second)
    (λ i. change_row told_line n (λ t. record t { topics = tells_same (find (λ l. nat_eq l.number n) ls) l.now l.id l.dup l.copy l.other_copy l.copies t.topics i }) ts)

sends_do : (n : ℕ) (p q : Packet) → AlikePublishes p q → DoSame (Send n p) (Send n q)
sends_do n p q l r now ls given ts = (refl, refl, refl, publish_tells n p q l ls ts)

module _ (P : Type 0) where
  deeds_do : (d e : Deed) → AlikeDeeds P d e → DoSame d e
  deeds_do d e (same p) = λ r now ls given ts. (
    ap (λ (x : Deed). rows_of x r) p,
    ap (λ (x : Deed). lines_after now x ls) p,
    ap (λ (x : Deed). given_after x given) p,
    ap (λ (x : Deed). tellings_after x ls ts) p,
  )
  deeds_do d e (leaves l) = subst₂ DoSame (sym l.first) (sym l.second) (leave_does l.who l.row l.other_row l.ending l.rows.place)
  deeds_do d e (sends m l) = subst₂ DoSame (sym l.first) (sym l.second) (sends_do l.line l.packet l.other_packet l.publishes)

  -- alike deeds write the same rows
  pub rows_alike : (d e : Deed) → AlikeDeeds P d e → (r : Records) (ss : List Session) → Each AlikeSessions r.sessions ss → rows_of d r ≡ rows_of e (with_sessions ss r)
  rows_alike d e k r ss h = rows_same d r ss h ∙ (deeds_do d e k (with_sessions ss r) 0 [] 0 []).0

  abbrev with_all : Records → List Line → ℕ → ℕ → List Telling → Broker
  with_all r ls given now ts = record { records = r; lines = ls; given = given; now = now; tellings = ts }

  -- an alike deed leaves alike brokers alike
  pub after_alike : (d e : Deed) → AlikeDeeds P d e → (b : Broker) (ss : List Session) → Each AlikeSessions b.records.sessions ss → AlikeBrokers (after d b) (after e (like ss b))
  after_alike d e k b ss h =
      let does = deeds_do d e k b.records b.now b.lines b.given b.tellings in
      let o = with_sessions ss b.records in
      record {
        rest = λ i. with_all (changed_all (rows_of e o) o) (does.1 i) (does.2 i) b.now (does.3 i);
        records = subst (λ (rows : List Change). AlikeRecords (changed_all (rows_of d b.records) b.records) (changed_all rows o)) (rows_alike d e k b.records ss h)
            (changed_all_alike (rows_of d b.records) b.records o (records_put b.records ss h));
      }

  -- alike deeds leave alike brokers alike
  pub all_after_alike : (ds es : List Deed) → Each (AlikeDeeds P) ds es → (b c : Broker) → AlikeBrokers b c → AlikeBrokers (after_all ds b) (after_all es c)
  all_after_alike [] [] k b c h = h
  all_after_alike [] (e ∷ es) k b c h = absurd k
  all_after_alike (d ∷ ds) [] k b c h = absurd k
  all_after_alike (d ∷ ds) (e ∷ es) k b c h =
      all_after_alike ds es k.1 (after d b) (after e c) (by_broker (λ (x : Broker). AlikeBrokers (after d b) (after e x)) b (after_alike d e k.0 b) c h)
