-- A broker that is alike to one that is ready is ready, and records that are alike to such as can be opened can be opened: neither asks
-- anything of what waiting copies say.
use Rattle.std.proofs.Common.{◌≡◌, ◌≤◌, ℕ, suc, List, [], ◌∷◌, Option, Some, None, refl, sym, ap, subst, ◌∙◌}
use Rattle.std.specs.Prelude.{option_map}
use Rattle.std.specs.List.{AllByRecursion}
use Rattle.mqtt_base.specs.Phases.{identifier_of}
use Rattle.mqtt_base.specs.declared.limits.TheConstants.{LAST_NUMBER, SESSION_LIMIT, QUEUE_LIMIT}
use Rattle.mqtt_flow.specs.outbound.Queue.{greatest_order}
use Rattle.mqtt_records.specs.messages.Queue.{CopyRow}
use Rattle.mqtt_records.specs.lists.Order.{IsAbove, IsAscending, IsBelow, IsTable, row_at}
use Rattle.mqtt_records.specs.state.Session.{birth_of, copy_place}
use Rattle.mqtt_records.specs.declared.state.records.Records.{Records}
use Rattle.mqtt_records.specs.declared.state.session.Session.{Session}
use Rattle.mqtt_rules.specs.declared.step.Capacity.{Capacity}
use Rattle.mqtt_rules.specs.step.Flight.{IsFlight, identifier_in}
use Rattle.mqtt_rules.specs.step.Laws.{HasTables, IsCoherent, IsCoherentSession}
use Rattle.mqtt_rules.specs.step.Numbers.{HasCopiesUpTo}
use Rattle.mqtt_rules.specs.step.State.{Broker, queue_on, session_at}
use Rattle.mqtt_rules.specs.alike.Alike.{Each, AlikeRows, AlikeSessions, AlikeRecords, AlikeBrokers, with_queue, with_sessions}
use Rattle.mqtt_rules.proofs.alike_lemmas.Pairs.{Both, both_at, each_length}
use Rattle.mqtt_rules.proofs.alike_lemmas.Queues.{queue_same}
use Rattle.mqtt_rules.proofs.alike_lemmas.States.{birth_same, by_broker, by_queue, by_sessions, like, place_same, session_found}
use Rattle.mqtt_rules.proofs.filling_lemmas.Equivalence.{broker_back}
use Rattle.mqtt_broker_step.specs.Subscribing.{HasEachFilterOnce}
use Rattle.mqtt_broker_acts.specs.calls.Ready.{AreSourcesStored, HasLawfulSources, IsReady}

-- ---- lists that are alike one by one

-- what holds of the items of one holds of those of the other
all_alike : {X : Type 0} (R : X → X → Type 0) (P : X → Type 0) → ((x y : X) → R x y → P x → P y) → (xs ys : List X) → Each R xs ys → AllByRecursion P xs → AllByRecursion P ys
all_alike R P k [] [] h a = tt
all_alike R P k [] (y ∷ ys) h a = absurd h
all_alike R P k (x ∷ xs) [] h a = absurd h
all_alike R P k (x ∷ xs) (y ∷ ys) h a = (k x y h.0 a.0, all_alike R P k xs ys h.1 a.1)

module _ {X : Type 0} (R : X → X → Type 0) (key : X → ℕ) (same : (x y : X) → R x y → key x ≡ key y) where
  above_alike : (n : ℕ) (xs ys : List X) → Each R xs ys → IsAbove key n xs → IsAbove key n ys
  above_alike n [] [] h a = tt
  above_alike n [] (y ∷ ys) h a = absurd h
  above_alike n (x ∷ xs) [] h a = absurd h
  above_alike n (x ∷ xs) (y ∷ ys) h a = (let is = same x y h.0 in subst (λ (m : ℕ). suc n ≤ m) is a.0, above_alike n xs ys h.1 a.1)

  ascending_alike : (xs ys : List X) → Each R xs ys → IsAscending key xs → IsAscending key ys
  ascending_alike [] [] h a = tt
  ascending_alike [] (y ∷ ys) h a = absurd h
  ascending_alike (x ∷ xs) [] h a = absurd h
  ascending_alike (x ∷ xs) (y ∷ ys) h a = (subst (λ (m : ℕ). IsAbove key m ys) (same x y h.0) (above_alike (key x) xs ys h.1 a.0), ascending_alike xs ys h.1 a.1)

  below_alike : (n : ℕ) (xs ys : List X) → Each R xs ys → IsBelow key n xs → IsBelow key n ys
  below_alike n [] [] h a = tt
  below_alike n [] (y ∷ ys) h a = absurd h
  below_alike n (x ∷ xs) [] h a = absurd h
  below_alike n (x ∷ xs) (y ∷ ys) h a = (subst (λ (m : ℕ). suc m ≤ n) (same x y h.0) a.0, below_alike n xs ys h.1 a.1)

  table_alike : (limit : ℕ) (xs ys : List X) → Each R xs ys → IsTable key limit xs → IsTable key limit ys
  table_alike limit xs ys h t = record {
    ascending = ascending_alike xs ys h t.ascending;
    within = subst (λ (n : ℕ). n ≤ limit) (each_length R xs ys h) t.within;
  }

-- ---- sessions

-- what doesn't ask for the queue's words
sessions_alike : (P : Session → Type 0) → ((s : Session) (q : List CopyRow) → Each AlikeRows s.queue q → P s → P (with_queue q s)) → (xs ys : List Session) → Each AlikeSessions xs ys → AllByRecursion P xs → AllByRecursion P ys
sessions_alike P k = all_alike AlikeSessions P (λ s t h. by_queue (λ (x : Session). P s → P x) s (k s) t h)

tables_alike : (s : Session) (q : List CopyRow) → Each AlikeRows s.queue q → HasTables s → HasTables (with_queue q s)
tables_alike s q h t = record { inbound = t.inbound; subscriptions = t.subscriptions; queue = table_alike AlikeRows copy_place place_same QUEUE_LIMIT s.queue q h t.queue }

copies_alike : (n : ℕ) (s : Session) (q : List CopyRow) → Each AlikeRows s.queue q → HasCopiesUpTo n s → HasCopiesUpTo n (with_queue q s)
copies_alike n s q h = all_alike AlikeRows (λ e. e.copy.id.publication ≤ n) (λ x y k a. subst (λ (m : ℕ). m ≤ n) (ap (λ c. c.id.publication) k.copy.seen) a) s.queue q h

identifier_same : (o p : Option CopyRow) → Both AlikeRows o p → identifier_in o ≡ identifier_in p
identifier_same None None h = refl
identifier_same None (Some y) h = absurd h
identifier_same (Some x) None h = absurd h
identifier_same (Some x) (Some y) h = ap identifier_of h.phase

flight_alike : (s : Session) (q : List CopyRow) → Each AlikeRows s.queue q → IsFlight s.queue → IsFlight q
flight_alike s q h f =
    let same = λ (place : ℕ). identifier_same (row_at copy_place place s.queue) (row_at copy_place place q) (both_at AlikeRows copy_place place_same place s.queue q h) in
    record {
      places = ascending_alike AlikeRows copy_place place_same s.queue q h f.places;
      identifiers = λ place other id first second. f.identifiers place other id (same place ∙ first) (same other ∙ second);
    }

-- a field but the queue
field_same : {A : Type 0} (f : Session → A) → ((s : Session) (q : List CopyRow) → f s ≡ f (with_queue q s)) → (o p : Option Session) → Both AlikeSessions o p → option_map f o ≡ option_map f p
field_same f k None None h = refl
field_same f k None (Some t) h = absurd h
field_same f k (Some s) None h = absurd h
field_same f k (Some s) (Some t) h = ap Some (by_queue (λ (x : Session). f s ≡ f x) s (λ q i. k s q) t h)

orders_alike : (limit : ℕ) (o p : Option Session) → Both AlikeSessions o p → ((s : Session) → o ≡ Some s → greatest_order (queue_on [] s) ≤ limit) → (t : Session) → p ≡ Some t → greatest_order (queue_on [] t) ≤ limit
orders_alike limit None None h k t is = absurd cc
orders_alike limit None (Some x) h k t is = absurd h
orders_alike limit (Some s) None h k t is = absurd h
orders_alike limit (Some s) (Some x) h k t is =
    let same : x ≡ t = cc in
    subst (λ (y : Session). greatest_order (queue_on [] y) ≤ limit) same
    (by_queue (λ (y : Session). greatest_order (queue_on [] y) ≤ limit) s (λ q i. subst (λ es. greatest_order es ≤ limit) (queue_same [] s q i) (k s refl)) x h)

-- ---- records and brokers

module _ (r : Records) (ss : List Session) (h : Each AlikeSessions r.sessions ss) where
  abbrev other : Records
  other = with_sessions ss r

  field_at : {A : Type 0} (f : Session → A) → ((s : Session) (q : List CopyRow) → f s ≡ f (with_queue q s)) → (birth : ℕ) → option_map f (session_at birth r) ≡ option_map f (session_at birth other)
  field_at f k birth = field_same f k (session_at birth r) (session_at birth other) (session_found birth r ss h)

  coherent_alike : IsCoherent r → IsCoherent other
  coherent_alike c = record {
    ordered = record {
      sessions = table_alike AlikeSessions birth_of birth_same SESSION_LIMIT r.sessions ss h c.ordered.sessions;
      each = sessions_alike HasTables tables_alike r.sessions ss h c.ordered.each;
      retained = c.ordered.retained;
    };
    clients = λ j k x first second. c.clients j k x (field_at (λ s. s.client) (λ s q. refl) j ∙ first) (field_at (λ s. s.client) (λ s q. refl) k ∙ second);
    topics = c.topics;
    births = below_alike AlikeSessions birth_of birth_same (suc r.births) r.sessions ss h c.births;
    sessions = sessions_alike (IsCoherentSession r.autos r.subscribes) (λ s q i k. k) r.sessions ss h c.sessions;
    retained = c.retained;
    counters = record { moment = c.counters.moment; births = c.counters.births; publications = c.counters.publications; subscribes = c.counters.subscribes; autos = c.counters.autos };
  }

  sources_alike : AreSourcesStored r → AreSourcesStored other
  sources_alike its = record {
    sessions = sessions_alike HasLawfulSources (λ s q i k. record { will = k.will; subscriptions = k.subscriptions; table = k.table }) r.sessions ss h its.sessions;
    retained = its.retained;
  }

module _ (limits : Capacity) (b : Broker) (ready : IsReady limits b) (ss : List Session) (h : Each AlikeSessions b.records.sessions ss) where
  abbrev r : Records
  r = b.records

  ready_like : IsReady limits (like ss b)
  ready_like = record {
    limited = ready.limited;
    coherent = coherent_alike r ss h ready.coherent;
    timed = ready.timed;
    last = ready.last;
    accepted = (sessions_alike (HasCopiesUpTo r.publications) (copies_alike r.publications) r.sessions ss h ready.accepted.0, ready.accepted.1);
    flight = sessions_alike (λ s. IsFlight s.queue) flight_alike r.sessions ss h ready.flight;
    orders = λ birth. orders_alike LAST_NUMBER (session_at birth r) (session_at birth (with_sessions ss r)) (session_found birth r ss h) (ready.orders birth);
    filters = sessions_alike HasEachFilterOnce (λ s q i k. record { differ = k.differ }) r.sessions ss h ready.filters;
    lines = record {
      ascending = ready.lines.ascending;
      given = ready.lines.given;
      once = ready.lines.once;
      stands = λ n birth on. sym (field_at r ss h (λ s. s.closed) (λ s q. refl) birth) ∙ ready.lines.stands n birth on;
      connected = λ birth is. ready.lines.connected birth (field_at r ss h (λ s. s.closed) (λ s q. refl) birth ∙ is);
    };
    sources = record {
      stored = sources_alike r ss h ready.sources.stored;
      lines = ready.sources.lines;
    };
  }

-- what is alike to a broker that is ready is ready
pub ready_alike : (limits : Capacity) (some whole : Broker) → AlikeBrokers some whole → IsReady limits whole → IsReady limits some
ready_alike limits some whole h ready =
    by_broker (λ (x : Broker). IsReady limits x) whole (λ ss k. ready_like limits whole ready ss k) some (broker_back some whole h)

-- ---- records alone

abbrev bare : Records → Broker
bare r = record { records = r; lines = []; given = 0; now = 0; tellings = [] }

records_back : (some whole : Records) → AlikeRecords some whole → AlikeRecords whole some
records_back some whole h = (broker_back (bare some) (bare whole) (record { rest = refl; records = h })).records

-- what is alike to coherent records is coherent
pub records_coherent : (some whole : Records) → AlikeRecords some whole → IsCoherent whole → IsCoherent some
records_coherent some whole h coherent = by_sessions IsCoherent whole (λ ss k. coherent_alike whole ss k coherent) some (records_back some whole h)

-- and has what messages are made from
pub records_sourced : (some whole : Records) → AlikeRecords some whole → AreSourcesStored whole → AreSourcesStored some
records_sourced some whole h its = by_sessions AreSourcesStored whole (λ ss k. sources_alike whole ss k its) some (records_back some whole h)
