-- What deeds send and mark, and what they leave stored: lawful contents, and identifiers in flight that have two bytes.
use Rattle.std.proofs.Common.{◌≡◌, ℕ, Bool, true, false, cond, ◌||◌, not, List, [], ◌∷◌, ◌++◌, Option, Some, None, nat_eq, nat_lt, refl}
use Rattle.std.specs.Prelude.{⊤}
use Rattle.std.specs.List.{AllByRecursion}
use Rattle.mqtt_base.specs.declared.limits.TheConstants.{LAST_NUMBER, QUEUE_LIMIT, SESSION_LIMIT}
use Rattle.mqtt_packet.specs.codec.Packets.{HasSpelling}
use Rattle.mqtt_records.specs.messages.Queue.{CopyRow}
use Rattle.mqtt_records.specs.state.Records.{changed, changed_all, put_session, with_counter}
use Rattle.mqtt_records.specs.state.Session.{birth_of, copy_place, fresh, in_phase, with_columns, with_copy, with_phase, without_copy}
use Rattle.mqtt_records.specs.declared.state.change.Change.{Change}
use Rattle.mqtt_records.specs.declared.state.change.Change.TheVariants.{SetCounter, PutSession, SetSession, RemoveSession, PutWill, RemoveWill, PutSubscription, RemoveSubscription, PutInbound, RemoveInbound, PutCopy, SetCopy, RemoveCopy, PutRetained, RemoveRetained}
use Rattle.mqtt_records.specs.declared.state.change.Counter.{Counter}
use Rattle.mqtt_records.specs.declared.state.change.Counter.TheVariants.{Births, Publications, Subscribes, Autos, Moment}
use Rattle.mqtt_records.specs.declared.state.records.Records.{Records}
use Rattle.mqtt_records.specs.declared.state.session.Columns.{Columns}
use Rattle.mqtt_records.specs.declared.state.session.Session.{Session}
use Rattle.mqtt_records.specs.lists.Order.{change_row, has_row, put_row}
use Rattle.mqtt_rules.specs.step.Contents.{HasLawfulContentsOf, of_rows}
use Rattle.mqtt_rules.specs.step.Deeds.{Whose, Part, Resume, Close, SetExpiry, DropWill, Subscribe, Unsubscribe, Open, Release, Enter, Mark, Leave, Deed, Accept, Begin, Name, Count, At, Finish, Keep, Forget, RefuseWill, Link, On, Send, Gone, after, after_all, part_rows_of, rows_of, rows_of_all, stored_after}
use Rattle.mqtt_rules.specs.step.State.{Broker, session_at}
use Rattle.mqtt_rules.specs.step.Step.{number_given, is_spent, stamped}
use Rattle.mqtt_rules.proofs.step_lemmas.contents.ContentRows.{Brings, RowBrings, RowsBring, brought_kept}
use Rattle.mqtt_rules.proofs.step_lemmas.numbers.Copies.{each_append, each_filter}
use Rattle.mqtt_rules.proofs.step_lemmas.flight.FlightRows.{all_changed, all_put}
use Rattle.mqtt_rules.specs.spelling.Sending.{HasSentPhases, HaveSentPhases, IsSentPhase}

-- ---- rows: each brings lawful contents, and gives a number up to the last one

abbrev pub IsRow : Change → Type 0
IsRow change = RowBrings of_rows change × (nat_lt LAST_NUMBER (number_given change) ≡ false)

abbrev pub AreRows : List Change → Type 0
AreRows rows = AllByRecursion IsRow rows

abbrev pub Writes : List Deed → Broker → Type 0
Writes ds b = AreRows (rows_of_all ds b.records)

neither : (x y : Bool) → (x || y) ≡ false → (x ≡ false) × (y ≡ false)
neither false y h = (refl, h)
neither true y h = absurd cc

front_rows : (rows more : List Change) → RowsBring of_rows (rows ++ more) → is_spent (rows ++ more) ≡ false → AreRows rows
front_rows [] more q s = tt
front_rows (row ∷ rows) more q s =
    let parts = neither (nat_lt LAST_NUMBER (number_given row)) (is_spent (rows ++ more)) s in
    ((q.0, parts.0), front_rows rows more q.1 parts.1)

-- of all that is written
pub rows_good : (now was : ℕ) (rows : List Change) → RowsBring of_rows (stamped now was rows) → is_spent (stamped now was rows) ≡ false → AreRows rows
rows_good now was [] q s = tt
rows_good now was (row ∷ rows) q s = front_rows (row ∷ rows) _ q s

each_split : {X : Type 0} (P : X → Type 0) (xs ys : List X) → AllByRecursion P (xs ++ ys) → AllByRecursion P xs × AllByRecursion P ys
each_split P [] ys h = (tt, h)
each_split P (x ∷ xs) ys h = let rest = each_split P xs ys h.1 in ((h.0, rest.0), rest.1)

-- of some deeds, and of others behind them
pub writes_split : (xs ys : List Deed) (b : Broker) → Writes (xs ++ ys) b → Writes xs b × Writes ys (after_all xs b)
writes_split [] ys b h = (tt, h)
writes_split (x ∷ xs) ys b h =
    let own = rows_of x b.records in
    let first = each_split IsRow own (rows_of_all (xs ++ ys) (stored_after x b.records)) h in
    let rest = writes_split xs ys (after x b) first.1 in
    (each_append IsRow own (rows_of_all xs (stored_after x b.records)) first.0 rest.0, rest.1)

-- ---- deeds: each packet that is sent has a spelling, and each copy is marked with an identifier of two bytes

abbrev pub IsSaid : Deed → Type 0
IsSaid (Send n packet) = HasSpelling packet
IsSaid (At who (Mark place phase)) = IsSentPhase phase
IsSaid d = ⊤

abbrev pub AreSaid : List Deed → Type 0
AreSaid ds = AllByRecursion IsSaid ds

-- ---- what is stored

-- contents are lawful, and the identifiers of sent copies are from 1 and of two bytes
pub record IsFine (r : Records) : Type 0 where
  pub contents : HasLawfulContentsOf of_rows r
  pub phases : HaveSentPhases r

-- contents
by_deed : (d : Deed) (b : Broker) → HasLawfulContentsOf of_rows b.records → Brings of_rows d (record b { lines = [] }) → HasLawfulContentsOf of_rows (stored_after d b.records)
by_deed d b h q = (brought_kept of_rows d (record b { lines = [] }) (record { stored = h; lines = tt }) q).stored

part_contents : (who : Whose) (part : Part) (o : Option Session) (b : Broker) → session_at who.birth b.records ≡ o → HasLawfulContentsOf of_rows b.records → AreRows (part_rows_of part o)
    → HasLawfulContentsOf of_rows (stored_after (At who part) b.records)
part_contents who part None b e h rows = rw e h
part_contents who (Resume expiry None) (Some s) b e h rows = by_deed (At who (Resume expiry None)) b h tt
part_contents who (Resume expiry (Some will)) (Some s) b e h rows = let more = rows.1 in by_deed (At who (Resume expiry (Some will))) b h more.0.0
part_contents who (Enter copy) (Some s) b e h rows = by_deed (At who (Enter copy)) b h rows.0.0
part_contents who (Subscribe x) (Some s) b e h rows = by_deed (At who (Subscribe x)) b h rows.0.0
part_contents who (Close moment) (Some s) b e h rows = by_deed (At who (Close moment)) b h tt
part_contents who (SetExpiry expiry) (Some s) b e h rows = by_deed (At who (SetExpiry expiry)) b h tt
part_contents who DropWill (Some s) b e h rows = by_deed (At who DropWill) b h tt
part_contents who (Unsubscribe text) (Some s) b e h rows = by_deed (At who (Unsubscribe text)) b h tt
part_contents who (Open id) (Some s) b e h rows = by_deed (At who (Open id)) b h tt
part_contents who (Release id) (Some s) b e h rows = by_deed (At who (Release id)) b h tt
part_contents who (Mark place phase) (Some s) b e h rows = by_deed (At who (Mark place phase)) b h tt
part_contents who (Leave x ending) (Some s) b e h rows = by_deed (At who (Leave x ending)) b h tt

deed_contents : (d : Deed) (b : Broker) → HasLawfulContentsOf of_rows b.records → AreRows (rows_of d b.records) → HasLawfulContentsOf of_rows (stored_after d b.records)
deed_contents (At who part) b h rows = part_contents who part (session_at who.birth b.records) b refl h rows
deed_contents (Begin row None) b h rows = by_deed (Begin row None) b h tt
deed_contents (Begin row (Some will)) b h rows = let more = rows.1 in let last = more.1 in by_deed (Begin row (Some will)) b h last.0.0
deed_contents (Keep kept) b h rows = by_deed (Keep kept) b h rows.0.0
deed_contents (On n part) b h rows = h
deed_contents (Accept number origin m) b h rows = by_deed (Accept number origin m) b h tt
deed_contents (Name n) b h rows = by_deed (Name n) b h tt
deed_contents (Count n) b h rows = by_deed (Count n) b h tt
deed_contents (Finish who) b h rows = by_deed (Finish who) b h tt
deed_contents (Forget place) b h rows = by_deed (Forget place) b h tt
deed_contents (RefuseWill who) b h rows = h
deed_contents (Link n) b h rows = h
deed_contents (Send n packet) b h rows = h
deed_contents (Gone n) b h rows = h

-- phases, row by row
abbrev IsPhased : Change → Type 0
IsPhased (PutCopy birth row) = IsSentPhase row.phase
IsPhased (SetCopy birth place phase) = IsSentPhase phase
IsPhased change = ⊤

abbrev Phased : CopyRow → Type 0
Phased row = IsSentPhase row.phase

phases_counter : (counter : Counter) (value : ℕ) (r : Records) → HaveSentPhases r → HaveSentPhases (with_counter counter value r)
phases_counter Births value r h = h
phases_counter Publications value r h = h
phases_counter Subscribes value r h = h
phases_counter Autos value r h = h
phases_counter Moment value r h = h

phases_session : (row : Columns) (ss : List Session) → AllByRecursion HasSentPhases ss → AllByRecursion HasSentPhases (put_session row ss)
phases_session row ss h = by (has_row birth_of row.birth ss)
  where
    by : (t : Bool) → AllByRecursion HasSentPhases (cond t (change_row birth_of row.birth (with_columns row) ss) (put_row birth_of SESSION_LIMIT (fresh row) ss))
    by true = all_changed birth_of HasSentPhases row.birth (with_columns row) ss (λ s p. p) h
    by false = all_put birth_of HasSentPhases SESSION_LIMIT (fresh row) ss tt h

phases_changed : (change : Change) (r : Records) → IsPhased change → HaveSentPhases r → HaveSentPhases (changed change r)
phases_changed (SetCounter counter value) r q h = phases_counter counter value r h
phases_changed (PutSession row) r q h = phases_session row r.sessions h
phases_changed (SetSession row) r q h = all_changed birth_of HasSentPhases row.birth (with_columns row) r.sessions (λ s p. p) h
phases_changed (RemoveSession birth) r q h = each_filter HasSentPhases (λ s. not (nat_eq (birth_of s) birth)) r.sessions h
phases_changed (PutWill birth will) r q h = all_changed birth_of HasSentPhases birth _ r.sessions (λ s p. p) h
phases_changed (RemoveWill birth) r q h = all_changed birth_of HasSentPhases birth _ r.sessions (λ s p. p) h
phases_changed (PutSubscription birth x) r q h = all_changed birth_of HasSentPhases birth _ r.sessions (λ s p. p) h
phases_changed (RemoveSubscription birth text) r q h = all_changed birth_of HasSentPhases birth _ r.sessions (λ s p. p) h
phases_changed (PutInbound birth id) r q h = all_changed birth_of HasSentPhases birth _ r.sessions (λ s p. p) h
phases_changed (RemoveInbound birth id) r q h = all_changed birth_of HasSentPhases birth _ r.sessions (λ s p. p) h
phases_changed (PutCopy birth row) r q h = all_changed birth_of HasSentPhases birth (with_copy row) r.sessions (λ s p. all_put copy_place Phased QUEUE_LIMIT row s.queue q p) h
phases_changed (SetCopy birth place phase) r q h =
    all_changed birth_of HasSentPhases birth (with_phase place phase) r.sessions (λ s p. all_changed copy_place Phased place (in_phase phase) s.queue (λ e u. q) p) h
phases_changed (RemoveCopy birth place) r q h =
    all_changed birth_of HasSentPhases birth (without_copy place) r.sessions (λ s p. each_filter Phased (λ e. not (nat_eq (copy_place e) place)) s.queue p) h
phases_changed (PutRetained kept) r q h = h
phases_changed (RemoveRetained place) r q h = h

phases_all : (rows : List Change) (r : Records) → AllByRecursion IsPhased rows → HaveSentPhases r → HaveSentPhases (changed_all rows r)
phases_all [] r q h = h
phases_all (row ∷ rows) r q h = phases_all rows (changed row r) q.1 (phases_changed row r q.0 h)

-- and deed by deed
part_phased : (who : Whose) (part : Part) (o : Option Session) → IsSaid (At who part) → AllByRecursion IsPhased (part_rows_of part o)
part_phased who part None q = tt
part_phased who (Resume expiry None) (Some s) q = (tt, (tt, tt))
part_phased who (Resume expiry (Some will)) (Some s) q = (tt, (tt, tt))
part_phased who (Mark place phase) (Some s) q = (q, tt)
part_phased who (Enter copy) (Some s) q = (tt, tt)
part_phased who (Subscribe x) (Some s) q = (tt, tt)
part_phased who (Close moment) (Some s) q = (tt, tt)
part_phased who (SetExpiry expiry) (Some s) q = (tt, tt)
part_phased who DropWill (Some s) q = (tt, tt)
part_phased who (Unsubscribe text) (Some s) q = (tt, tt)
part_phased who (Open id) (Some s) q = (tt, tt)
part_phased who (Release id) (Some s) q = (tt, tt)
part_phased who (Leave x ending) (Some s) q = (tt, tt)

deed_phased : (d : Deed) (r : Records) → IsSaid d → AllByRecursion IsPhased (rows_of d r)
deed_phased (At who part) r q = part_phased who part (session_at who.birth r) q
deed_phased (Begin row None) r q = (tt, (tt, tt))
deed_phased (Begin row (Some will)) r q = (tt, (tt, (tt, tt)))
deed_phased (Keep kept) r q = (tt, tt)
deed_phased (On n part) r q = tt
deed_phased (Accept number origin m) r q = (tt, tt)
deed_phased (Name n) r q = (tt, tt)
deed_phased (Count n) r q = (tt, tt)
deed_phased (Finish who) r q = (tt, tt)
deed_phased (Forget place) r q = (tt, tt)
deed_phased (RefuseWill who) r q = tt
deed_phased (Link n) r q = tt
deed_phased (Send n packet) r q = tt
deed_phased (Gone n) r q = tt

-- what writes and says well leaves fine records
pub fine_all : (ds : List Deed) (b : Broker) → IsFine b.records → Writes ds b → AreSaid ds → IsFine (after_all ds b).records
fine_all [] b h rows said = h
fine_all (d ∷ ds) b h rows said =
    let parts = each_split IsRow (rows_of d b.records) (rows_of_all ds (stored_after d b.records)) rows in
    let left : IsFine (after d b).records = record { contents = deed_contents d b h.contents parts.0; phases = phases_all (rows_of d b.records) b.records (deed_phased d b.records said.0) h.phases } in
    fine_all ds (after d b) left parts.1 said.1

-- ---- what deeds say on a state that is fine

abbrev pub Says : List Deed → Broker → Type 0
Says ds b = IsFine b.records → Writes ds b → AreSaid ds

-- some deeds, and then others
pub next : (xs ys : List Deed) (b : Broker) → Says xs b → Says ys (after_all xs b) → Says (xs ++ ys) b
next xs ys b p q h rows =
    let parts = writes_split xs ys b rows in
    let first = p h parts.0 in
    each_append IsSaid xs ys first (q (fine_all xs b h parts.0 first) parts.1)
