-- Deeds that fit leave records coherent: what each deed has to bring, and what it keeps.
use Rattle.std.proofs.Common.{◌≡◌, ℕ, suc, ◌≤◌, Bool, true, false, cond, not, ◌||◌, List, [], ◌∷◌, length, Option, Some, None, nat_eq, nat_lt, bytes_eq, refl, sym, ap, subst, ◌∙◌, arith}
use Rattle.std.specs.Prelude.{⊤, option_map}
use Rattle.std.specs.List.{AllByRecursion}
use Rattle.mqtt_records.specs.declared.messages.message.MessageCopy.{MessageCopy}
use Rattle.mqtt_records.specs.declared.messages.message.RetainedMessage.{RetainedMessage}
use Rattle.mqtt_records.specs.declared.messages.message.Will.{Will}
use Rattle.mqtt_records.specs.declared.state.session.Columns.{Columns}
use Rattle.mqtt_records.specs.declared.state.session.Session.{Session}
use Rattle.mqtt_records.specs.declared.state.records.Records.{Records}
use Rattle.mqtt_records.specs.declared.state.change.Change.TheVariants.{SetSession}
use Rattle.mqtt_base.specs.declared.limits.TheConstants.{LAST_NUMBER, OPEN_LIMIT, SUBSCRIPTION_LIMIT, SESSION_LIMIT, RETAINED_LIMIT}
use Rattle.mqtt_records.specs.lists.Order.{HasRoomFor, row_at, has_row, put_row, change_row}
use Rattle.mqtt_records.proofs.lists_lemmas.LookUps.{row_at-put_row, row_at-remove_row}
use Rattle.mqtt_records.specs.state.Session.{birth_of, place_of, number_of, fresh, with_columns, with_will, without_filter, with_subscription, without_subscription, with_open, without_open, with_copy, with_phase, without_copy}
use Rattle.mqtt_records.specs.state.Records.{kept_place, put_session, in_session, changed, changed_all, IsNumber, IsMoment, TakesSubscription, subscribe_in}
use Rattle.mqtt_rules.specs.step.State.{Broker, session_at}
use Rattle.mqtt_rules.specs.step.Deeds.{Part, Resume, Close, SetExpiry, DropWill, Subscribe, Unsubscribe, Open, Release, Enter, Mark, Leave, Deed, Accept, Begin, Name, Count, At, Finish, Keep, Forget, RefuseWill, Link, On, Send, Gone, will_row, new_entry, part_rows, part_rows_of, rows_of, after}
use Rattle.mqtt_rules.specs.step.Numbers.{HasGivenBirths}
use Rattle.mqtt_rules.specs.step.Laws.{IsOrdered, IsUnique, client_at, topic_at, IsAssignedUpTo, IsCoherentSession, IsCoherentMessage}
use Rattle.mqtt_rules.proofs.step_lemmas.numbers.Copies.{each_more, each_filter}
use Rattle.mqtt_rules.proofs.step_lemmas.flight.FlightRows.{found_key, all_at, all_changed_at, all_put, all_changed}
use Rattle.mqtt_rules.proofs.step_lemmas.numbers.NumberBirths.{below_none, given_deed}
use Rattle.mqtt_rules.proofs.step_lemmas.numbers.Counters.{Counts, counts, counts_after, counts_deed}
use Rattle.mqtt_rules.proofs.step_lemmas.numbers.NumberFacts.{GivesNext}
use Rattle.mqtt_rules.proofs.step_lemmas.order.Ordered.{changed_all-ordered}
use Rattle.mqtt_rules.proofs.step_lemmas.order.OrderedRoom.{at_retained, begin_retained}
use Rattle.mqtt_rules.proofs.step_lemmas.acts.LookedUp.{client_at_part, client_begun, client_finished}
use Rattle.mqtt_rules.proofs.step_lemmas.fit.Unique.{unique_same, unique_without, unique_with}

-- ---- what each deed has to bring

-- a session begins with the next birth, if there is room, under a client identifier that no session has
pub record IsFitRow (row : Columns) (r : Records) : Type 0 where
  pub next : row.birth ≡ suc r.births
  pub room : nat_lt (length r.sessions) SESSION_LIMIT ≡ true
  pub new : r.autos ≤ LAST_NUMBER → (birth : ℕ) → client_at birth r ≡ Some row.client → ⊥
  pub name : IsAssignedUpTo r.autos row.client
  pub connected : row.closed ≡ None

-- a message is retained at the place of its topic, or at one for which there is room
pub record IsFitMessage (kept : RetainedMessage) (r : Records) : Type 0 where
  pub publication : kept.publication ≤ r.publications
  pub arrived : IsNumber kept.content.arrived
  pub room : HasRoomFor kept_place RETAINED_LIMIT kept.place r.retained
  pub topic : (place : ℕ) → topic_at place r ≡ Some kept.content.topic → place ≡ kept.place

-- a copy is for its session, and has numbers that were given
pub record IsFitCopy (birth : ℕ) (copy : MessageCopy) (r : Records) : Type 0 where
  pub its_birth : copy.id.birth ≡ birth
  pub publication : copy.id.publication ≤ r.publications
  pub subscribe : subscribe_in copy.id.cause ≤ r.subscribes
  pub arrived : IsNumber copy.content.arrived

abbrev pub IsFitPart : ℕ → Part → Records → Type 0
IsFitPart birth (Close moment) r = IsNumber moment
IsFitPart birth (Subscribe x) r = (s : Session) → session_at birth r ≡ Some s → TakesSubscription x (without_filter x.filter s.subscriptions) × (x.place ≤ r.subscribes)
IsFitPart birth (Open id) r = (s : Session) → session_at birth r ≡ Some s → HasRoomFor number_of OPEN_LIMIT id s.inbound
IsFitPart birth (Enter copy) r = IsFitCopy birth copy r
IsFitPart birth part r = ⊤

abbrev pub IsFit : Deed → Broker → Type 0
IsFit (Accept number origin m) b = number ≡ suc b.records.publications
IsFit (Begin row will) b = IsFitRow row b.records
IsFit (Name n) b = n ≡ suc b.records.autos
IsFit (Count n) b = n ≡ suc b.records.subscribes
IsFit (At who part) b = IsFitPart who.birth part b.records
IsFit (Keep kept) b = IsFitMessage kept b.records
IsFit d b = ⊤

-- a deed that fits gives the next numbers, if it gives any
pub fit_next : (d : Deed) (b : Broker) → IsFit d b → GivesNext d b
fit_next (Accept number origin m) b fit = fit
fit_next (Begin row will) b fit = fit.next
fit_next (Name n) b fit = fit
fit_next (Count n) b fit = fit
fit_next (At who part) b fit = tt
fit_next (Keep kept) b fit = tt
fit_next (Finish who) b fit = tt
fit_next (Forget place) b fit = tt
fit_next (RefuseWill who) b fit = tt
fit_next (Link n) b fit = tt
fit_next (On n part) b fit = tt
fit_next (Send n packet) b fit = tt
fit_next (Gone n) b fit = tt

-- ---- what is kept: client identifiers differ as long as the numbers of assigned ones are not spent

-- the part of coherence that each deed keeps
pub record Coheres (r : Records) : Type 0 where
  pub ordered : IsOrdered r
  pub clients : r.autos ≤ LAST_NUMBER → IsUnique (λ birth. client_at birth r)
  pub topics : IsUnique (λ place. topic_at place r)
  pub births : HasGivenBirths r
  pub sessions : AllByRecursion (IsCoherentSession r.autos r.subscribes) r.sessions
  pub retained : AllByRecursion (IsCoherentMessage r.publications) r.retained

-- ---- sessions

-- a name assigned up to a number is assigned up to any greater one
pub assigned_more : (m n : ℕ) (client : List ℕ) → m ≤ n → IsAssignedUpTo m client → IsAssignedUpTo n client
assigned_more m n client le h is = let x = h is in let up = x.1 in (x.0, omega (arith, up, le), x.2)

sessions_more : (a b m n : ℕ) (ss : List Session) → a ≤ b → m ≤ n → AllByRecursion (IsCoherentSession a m) ss → AllByRecursion (IsCoherentSession b n) ss
sessions_more a b m n ss autos subscribes h =
    each_more (IsCoherentSession a m) (IsCoherentSession b n)
    (λ s c. (assigned_more a b s.client autos c.0, each_more (λ x. x.place ≤ m) (λ x. x.place ≤ n) (λ x up. omega (arith, up, subscribes)) s.subscriptions c.1, c.2)) ss h

module _ (a m : ℕ) where
  abbrev Hold : List Session → Type 0
  Hold ss = AllByRecursion (IsCoherentSession a m) ss

  held_in : (birth : ℕ) (f : Session → Session) (r : Records) → ((s : Session) → IsCoherentSession a m s → IsCoherentSession a m (f s)) → Hold r.sessions → Hold (in_session birth f r).sessions
  held_in birth f r same h = all_changed birth_of (IsCoherentSession a m) birth f r.sessions same h

  held_cond : (t : Bool) (xs ys : List Session) → Hold xs → Hold ys → Hold (cond t xs ys)
  held_cond true xs ys p q = p
  held_cond false xs ys p q = q

  held_put : (row : Columns) (ss : List Session) → IsAssignedUpTo a row.client → IsMoment row.closed → Hold ss → Hold (put_session row ss)
  held_put row ss name closed h =
      held_cond (has_row birth_of row.birth ss) (change_row birth_of row.birth (with_columns row) ss) (put_row birth_of SESSION_LIMIT (fresh row) ss)
      (all_changed birth_of (IsCoherentSession a m) row.birth (with_columns row) ss (λ s c. (name, c.1, closed)) h)
      (all_put birth_of (IsCoherentSession a m) SESSION_LIMIT (fresh row) ss (name, tt, closed) h)

  held_columns : (row : Columns) (s : Session) (r : Records) → session_at row.birth r ≡ Some s → row.client ≡ s.client → IsMoment row.closed → Hold r.sessions → Hold (changed (SetSession row) r).sessions
  held_columns row s r there same closed h =
      let c = all_at birth_of (IsCoherentSession a m) row.birth s r.sessions h there in
      all_changed_at birth_of (IsCoherentSession a m) row.birth (with_columns row) s r.sessions there (subst (IsAssignedUpTo a) (sym same) c.0, c.1, closed) h

  held_will : (birth : ℕ) (will : Option Will) (r : Records) → Hold r.sessions → Hold (changed_all (will_row birth will ∷ []) r).sessions
  held_will birth None r h = held_in birth (with_will None) r (λ s c. c) h
  held_will birth (Some w) r h = held_in birth (with_will (Some w)) r (λ s c. c) h

  held_part : (part : Part) (s : Session) (r : Records) → session_at s.birth r ≡ Some s → IsFitPart s.birth part r → r.subscribes ≡ m → Hold r.sessions → Hold (changed_all (part_rows part s) r).sessions
  held_part (Resume expiry will) s r there fit is h =
      let row : Columns = record { birth = s.birth; client = s.client; expiry = expiry; closed = None } in
      held_will s.birth will (changed (SetSession row) r) (held_columns row s r there refl tt h)
  held_part (Close moment) s r there fit is h = held_columns (record { birth = s.birth; client = s.client; expiry = s.expiry; closed = Some moment }) s r there refl fit h
  held_part (SetExpiry expiry) s r there fit is h =
      held_columns (record { birth = s.birth; client = s.client; expiry = expiry; closed = s.closed }) s r there refl (all_at birth_of (IsCoherentSession a m) s.birth s r.sessions h there).2 h
  held_part DropWill s r there fit is h = held_in s.birth (with_will None) r (λ t c. c) h
  held_part (Subscribe x) s r there fit is h =
      let up = (fit s there).1 in
      held_in s.birth (with_subscription x) r
      (λ t c. (c.0, all_put place_of (λ y. y.place ≤ m) SUBSCRIPTION_LIMIT x (without_filter x.filter t.subscriptions) (omega (arith, up, is)) (each_filter (λ y. y.place ≤ m) (λ y. not (bytes_eq y.filter x.filter)) t.subscriptions c.1), c.2)) h
  held_part (Unsubscribe text) s r there fit is h =
      held_in s.birth (without_subscription text) r (λ t c. (c.0, each_filter (λ y. y.place ≤ m) (λ y. not (bytes_eq y.filter text)) t.subscriptions c.1, c.2)) h
  held_part (Open id) s r there fit is h = held_in s.birth (with_open id) r (λ t c. c) h
  held_part (Release id) s r there fit is h = held_in s.birth (without_open id) r (λ t c. c) h
  held_part (Enter copy) s r there fit is h = held_in s.birth (with_copy (new_entry copy s.queue)) r (λ t c. c) h
  held_part (Mark place phase) s r there fit is h = held_in s.birth (with_phase place phase) r (λ t c. c) h
  held_part (Leave e ending) s r there fit is h = held_in s.birth (without_copy e.place) r (λ t c. c) h

  held_part_of : (birth : ℕ) (part : Part) (r : Records) (o : Option Session) → session_at birth r ≡ o → IsFitPart birth part r → r.subscribes ≡ m → Hold r.sessions → Hold (changed_all (part_rows_of part o) r).sessions
  held_part_of birth part r None there fit is h = h
  held_part_of birth part r (Some s) there fit is h =
      let same = found_key birth_of birth s r.sessions there in
      held_part part s r (ap (λ (n : ℕ). session_at n r) same ∙ there) (subst (λ (n : ℕ). IsFitPart n part r) (sym same) fit) is h

none_closed : (row : Columns) → row.closed ≡ None → IsMoment row.closed
none_closed row is = subst IsMoment (sym is) tt

-- by the counters that the deed leaves
sessions_deed : (d : Deed) (b : Broker) → IsFit d b → Coheres b.records
    → AllByRecursion (IsCoherentSession (counts_after d (counts b.records)).autos (counts_after d (counts b.records)).subscribes) (after d b).records.sessions
sessions_deed (Accept number origin m) b fit h = h.sessions
sessions_deed (Begin row None) b fit h = held_put b.records.autos b.records.subscribes row b.records.sessions fit.name (none_closed row fit.connected) h.sessions
sessions_deed (Begin row (Some will)) b fit h =
    let a = b.records.autos in
    let m = b.records.subscribes in
    all_changed birth_of (IsCoherentSession a m) row.birth (with_will (Some will)) (put_session row b.records.sessions) (λ s c. c) (held_put a m row b.records.sessions fit.name (none_closed row fit.connected) h.sessions)
sessions_deed (Name n) b fit h = sessions_more b.records.autos n b.records.subscribes b.records.subscribes b.records.sessions (omega (arith, fit)) (omega arith) h.sessions
sessions_deed (Count n) b fit h = sessions_more b.records.autos b.records.autos b.records.subscribes n b.records.sessions (omega arith) (omega (arith, fit)) h.sessions
sessions_deed (At who part) b fit h = held_part_of b.records.autos b.records.subscribes who.birth part b.records (session_at who.birth b.records) refl fit refl h.sessions
sessions_deed (Finish who) b fit h = each_filter (IsCoherentSession b.records.autos b.records.subscribes) (λ s. not (nat_eq (birth_of s) who.birth)) b.records.sessions h.sessions
sessions_deed (Keep kept) b fit h = h.sessions
sessions_deed (Forget place) b fit h = h.sessions
sessions_deed (RefuseWill who) b fit h = h.sessions
sessions_deed (Link n) b fit h = h.sessions
sessions_deed (On n part) b fit h = h.sessions
sessions_deed (Send n packet) b fit h = h.sessions
sessions_deed (Gone n) b fit h = h.sessions

-- ---- client identifiers

-- no session stands yet under the birth that is given next
pub no_session : (r : Records) (birth : ℕ) → birth ≡ suc r.births → HasGivenBirths r → session_at birth r ≡ None
no_session r birth is low = subst (λ (n : ℕ). session_at n r ≡ None) (sym is) (below_none birth_of (suc r.births) r.sessions low)

-- "or" holds if its second part does
pub or_right : (x y : Bool) → y ≡ true → (x || y) ≡ true
or_right true y is = refl
or_right false y is = is

clients_deed : (d : Deed) (b : Broker) → IsFit d b → Coheres b.records → (counts_after d (counts b.records)).autos ≤ LAST_NUMBER → IsUnique (λ birth. client_at birth (after d b).records)
clients_deed (Begin row will) b fit h le =
    let r = b.records in
    unique_with (λ k. client_at k r) (λ k. client_at k (after (Begin row will) b).records) row.birth row.client
    (λ k. client_begun row will k r (no_session r row.birth fit.next h.births) (or_right (has_row birth_of row.birth r.sessions) (nat_lt (length r.sessions) SESSION_LIMIT) fit.room))
    (λ k there. absurd (fit.new le k there)) (h.clients le)
clients_deed (At who part) b fit h le =
    unique_same (λ k. client_at k b.records) (λ k. client_at k (after (At who part) b).records) (λ k. client_at_part who part k b.records) (h.clients le)
clients_deed (Finish who) b fit h le =
    unique_without (λ k. client_at k b.records) (λ k. client_at k (after (Finish who) b).records) who.birth (λ k. client_finished who k b.records) (h.clients le)
clients_deed (Name n) b fit h le = h.clients (omega (arith, fit, le))
clients_deed (Accept number origin m) b fit h le = h.clients le
clients_deed (Count n) b fit h le = h.clients le
clients_deed (Keep kept) b fit h le = h.clients le
clients_deed (Forget place) b fit h le = h.clients le
clients_deed (RefuseWill who) b fit h le = h.clients le
clients_deed (Link n) b fit h le = h.clients le
clients_deed (On n part) b fit h le = h.clients le
clients_deed (Send n packet) b fit h le = h.clients le
clients_deed (Gone n) b fit h le = h.clients le

-- ---- retained messages

abbrev Topics : List RetainedMessage → Type 0
Topics ks = IsUnique (λ place. option_map (λ (k : RetainedMessage). k.content.topic) (row_at kept_place place ks))

topics_deed : (d : Deed) (b : Broker) → IsFit d b → Coheres b.records → IsUnique (λ place. topic_at place (after d b).records)
topics_deed (Begin row will) b fit h = subst Topics (sym (begin_retained row will b.records)) h.topics
topics_deed (At who part) b fit h = subst Topics (sym (at_retained part b.records (session_at who.birth b.records))) h.topics
topics_deed (Keep kept) b fit h =
    unique_with (λ p. topic_at p b.records) (λ p. topic_at p (after (Keep kept) b).records) kept.place kept.content.topic
    (λ p. ap (option_map (λ (k : RetainedMessage). k.content.topic)) (row_at-put_row kept_place RETAINED_LIMIT p kept b.records.retained fit.room) ∙ mapped p (nat_eq kept.place p)) fit.topic h.topics
  where
    mapped : (p : ℕ) (t : Bool) → option_map (λ (k : RetainedMessage). k.content.topic) (cond t (Some kept) (row_at kept_place p b.records.retained)) ≡ cond t (Some kept.content.topic) (topic_at p b.records)
    mapped p true = refl
    mapped p false = refl
topics_deed (Forget place) b fit h =
    unique_without (λ p. topic_at p b.records) (λ p. topic_at p (after (Forget place) b).records) place
    (λ p. ap (option_map (λ (k : RetainedMessage). k.content.topic)) (row_at-remove_row kept_place p place b.records.retained) ∙ mapped p (nat_eq place p)) h.topics
  where
    mapped : (p : ℕ) (t : Bool) → option_map (λ (k : RetainedMessage). k.content.topic) (cond t None (row_at kept_place p b.records.retained)) ≡ cond t None (topic_at p b.records)
    mapped p true = refl
    mapped p false = refl
topics_deed (Accept number origin m) b fit h = h.topics
topics_deed (Name n) b fit h = h.topics
topics_deed (Count n) b fit h = h.topics
topics_deed (Finish who) b fit h = h.topics
topics_deed (RefuseWill who) b fit h = h.topics
topics_deed (Link n) b fit h = h.topics
topics_deed (On n part) b fit h = h.topics
topics_deed (Send n packet) b fit h = h.topics
topics_deed (Gone n) b fit h = h.topics

abbrev Messages : ℕ → List RetainedMessage → Type 0
Messages n ks = AllByRecursion (IsCoherentMessage n) ks

retained_deed : (d : Deed) (b : Broker) → IsFit d b → Coheres b.records → Messages (counts_after d (counts b.records)).publications (after d b).records.retained
retained_deed (Accept number origin m) b fit h =
    each_more (IsCoherentMessage b.records.publications) (IsCoherentMessage number) (λ k c. let up = c.0 in (omega (arith, up, fit), c.1)) b.records.retained h.retained
retained_deed (Begin row will) b fit h = subst (Messages b.records.publications) (sym (begin_retained row will b.records)) h.retained
retained_deed (At who part) b fit h = subst (Messages b.records.publications) (sym (at_retained part b.records (session_at who.birth b.records))) h.retained
retained_deed (Keep kept) b fit h = all_put kept_place (IsCoherentMessage b.records.publications) RETAINED_LIMIT kept b.records.retained (fit.publication, fit.arrived) h.retained
retained_deed (Forget place) b fit h = each_filter (IsCoherentMessage b.records.publications) (λ k. not (nat_eq (kept_place k) place)) b.records.retained h.retained
retained_deed (Name n) b fit h = h.retained
retained_deed (Count n) b fit h = h.retained
retained_deed (Finish who) b fit h = h.retained
retained_deed (RefuseWill who) b fit h = h.retained
retained_deed (Link n) b fit h = h.retained
retained_deed (On n part) b fit h = h.retained
retained_deed (Send n packet) b fit h = h.retained
retained_deed (Gone n) b fit h = h.retained

-- ---- together

-- a deed that fits leaves coherent records coherent
pub coheres_deed : (d : Deed) (b : Broker) → IsFit d b → Coheres b.records → Coheres (after d b).records
coheres_deed d b fit h =
    let new = (after d b).records in
    let count : counts new ≡ counts_after d (counts b.records) = counts_deed d b.records in
    record {
      ordered = changed_all-ordered (rows_of d b.records) b.records h.ordered;
      clients = λ le. clients_deed d b fit h (subst (λ (c : Counts). c.autos ≤ LAST_NUMBER) count le);
      topics = topics_deed d b fit h;
      births = given_deed d b (fit_next d b fit) h.births;
      sessions = subst (λ (c : Counts). AllByRecursion (IsCoherentSession c.autos c.subscribes) new.sessions) (sym count) (sessions_deed d b fit h);
      retained = subst (λ (c : Counts). Messages c.publications new.retained) (sym count) (retained_deed d b fit h);
    }
