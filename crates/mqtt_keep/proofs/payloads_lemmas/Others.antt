-- What doesn't look at what payloads say.
use Rattle.std.proofs.Common.{◌≡◌, ◌≤◌, ℕ, suc, List, [], ◌∷◌, ◌++◌, Option, length, map, refl, ap, ap₂, sym, subst}
use Rattle.std.specs.Prelude.{filter_map, flat_map}
use Rattle.std.specs.List.{AllByRecursion, cons_option}
use Rattle.mqtt_base.specs.Phases.{identifier_of}
use Rattle.mqtt_base.specs.declared.limits.TheConstants.{QUEUE_LIMIT, SESSION_LIMIT}
use Rattle.mqtt_records.specs.lists.Distinct.{AllDiffer}
use Rattle.mqtt_records.specs.lists.Order.{IsTable}
use Rattle.mqtt_records.proofs.lists_lemmas.OrderLemmas.{map-ascending}
use Rattle.mqtt_records.specs.messages.Queue.{CopyRow}
use Rattle.mqtt_records.specs.messages.Slim.{slim}
use Rattle.mqtt_records.specs.declared.state.records.Records.{Records}
use Rattle.mqtt_records.specs.declared.state.session.Session.{Session}
use Rattle.mqtt_records.specs.state.Contents.{SharesContents}
use Rattle.mqtt_records.specs.state.Session.{birth_of, copy_place, place_of, with_all_slim}
use Rattle.mqtt_records.specs.state.Slim.{all_slim}
use Rattle.mqtt_keep.specs.lawful.Lawful.{IsLawful, IsLawfulCopy, IsLawfulQueue, IsLawfulSession, last_of, order_in}
use Rattle.mqtt_keep.specs.declared.lawful.rows.Last.{Last}
use Rattle.mqtt_keep.specs.payloads.Payloads.{AreAsLong, IsAsLong, Payloads, records_with, row_with, session_with}

-- ---- lists of which each item is changed

module _ {X : Type 0} (f : X → X) where
  -- what is read of each stays
  map_same : {Y : Type 0} (g : X → Y) → ((x : X) → g (f x) ≡ g x) → (xs : List X) → map g (map f xs) ≡ map g xs
  map_same g same [] = refl
  map_same g same (x ∷ xs) = ap₂ (λ y ys. y ∷ ys) (same x) (map_same g same xs)

  filter_map_same : {Y : Type 0} (g : X → Option Y) → ((x : X) → g (f x) ≡ g x) → (xs : List X) → filter_map g (map f xs) ≡ filter_map g xs
  filter_map_same g same [] = refl
  filter_map_same g same (x ∷ xs) = rw (same x) (ap (cons_option (g x)) (filter_map_same g same xs))

  flat_map_same : {Y : Type 0} (g : X → List Y) → ((x : X) → g (f x) ≡ g x) → (xs : List X) → flat_map g (map f xs) ≡ flat_map g xs
  flat_map_same g same [] = refl
  flat_map_same g same (x ∷ xs) = ap₂ (λ ys zs. ys ++ zs) (same x) (flat_map_same g same xs)

  -- what holds of each holds still
  all_same : (P Q : X → Type 0) → ((x : X) → Q x → P x → P (f x)) → (xs : List X) → AllByRecursion Q xs → AllByRecursion P xs → AllByRecursion P (map f xs)
  all_same P Q k [] qs ps = tt
  all_same P Q k (x ∷ xs) qs ps = (k x qs.0 ps.0, all_same P Q k xs qs.1 ps.1)

  long_same : (xs : List X) → length (map f xs) ≡ length xs
  long_same [] = refl
  long_same (x ∷ xs) = ap (λ n. suc n) (long_same xs)

  table_same : (key : X → ℕ) (limit : ℕ) → ((x : X) → key (f x) ≡ key x) → (xs : List X) → IsTable key limit xs → IsTable key limit (map f xs)
  table_same key limit same xs t = record {
    ascending = map-ascending key f xs same t.ascending;
    within = subst (λ (n : ℕ). n ≤ limit) (sym (long_same xs)) t.within;
  }

-- ---- waiting copies with other payloads

module _ (payloads : Payloads) where
  -- a slim row has as many zeros, whatever the bytes were
  slim_row : (e : CopyRow) → IsAsLong payloads e → slim (row_with payloads e) ≡ slim e
  slim_row e long = rw long refl

  slim_rows : (es : List CopyRow) → AllByRecursion (IsAsLong payloads) es → map slim (map (row_with payloads) es) ≡ map slim es
  slim_rows [] h = refl
  slim_rows (e ∷ es) h = ap₂ (λ x xs. x ∷ xs) (slim_row e h.0) (slim_rows es h.1)

  slim_sessions : (ss : List Session) → AllByRecursion (λ (s : Session). AllByRecursion (IsAsLong payloads) s.queue) ss → map with_all_slim (map (session_with payloads) ss) ≡ map with_all_slim ss
  slim_sessions [] h = refl
  slim_sessions (s ∷ ss) h = ap₂ (λ (x : Session) xs. x ∷ xs) (ap (λ (q : List CopyRow). record s { queue = q }) (slim_rows s.queue h.0)) (slim_sessions ss h.1)

  -- slim rows are the same
  pub slim_same : (r : Records) → AreAsLong payloads r → all_slim (records_with payloads r) ≡ all_slim r
  slim_same r h = ap (λ (ss : List Session). record r { sessions = ss }) (slim_sessions r.sessions h)

  -- a copy's rules ask for the length alone
  copy_lawful : (last : Last) (birth : ℕ) (e : CopyRow) → IsAsLong payloads e → IsLawfulCopy last birth e → IsLawfulCopy last birth (row_with payloads e)
  copy_lawful last birth e long h = record {
    due = record { session = h.due.session; place = h.due.place; publication = h.due.publication; arrived = h.due.arrived };
    phase = h.phase;
    cause = h.cause;
    message = record {
      text = h.message.text;
      spelled = h.message.spelled;
      may = h.message.may;
      lawful = h.message.lawful;
      short = rw long h.message.short;
      topic = h.message.topic;
    };
    passed = h.passed;
  }

  queue_lawful : (last : Last) (birth : ℕ) (q : List CopyRow) → AllByRecursion (IsAsLong payloads) q → IsLawfulQueue last birth q → IsLawfulQueue last birth (map (row_with payloads) q)
  queue_lawful last birth q long h =
      let f = row_with payloads in
      record {
        table = table_same f copy_place QUEUE_LIMIT (λ e. refl) q h.table;
        identifiers = subst AllDiffer (sym (filter_map_same f (λ (e : CopyRow). identifier_of e.phase) (λ e. refl) q)) h.identifiers;
        orders = subst AllDiffer (sym (filter_map_same f (λ (e : CopyRow). order_in e.phase) (λ e. refl) q)) h.orders;
        copies = subst AllDiffer (sym (map_same f (λ (e : CopyRow). e.copy.id) (λ e. refl) q)) h.copies;
        each = all_same f (IsLawfulCopy last birth) (IsAsLong payloads) (copy_lawful last birth) q long h.each;
      }

  session_lawful : (last : Last) (s : Session) → AllByRecursion (IsAsLong payloads) s.queue → IsLawfulSession last s → IsLawfulSession last (session_with payloads s)
  session_lawful last s long h = record {
    birth = h.birth;
    closed = h.closed;
    inbound = h.inbound;
    client = h.client;
    will = h.will;
    subscriptions = h.subscriptions;
    queue = queue_lawful last s.birth s.queue long h.queue;
  }

  -- lawful records stay lawful
  pub lawful_same : (r : Records) → AreAsLong payloads r → IsLawful r → SharesContents (records_with payloads r) → IsLawful (records_with payloads r)
  lawful_same r long h shared =
      let f = session_with payloads in
      record {
        numbers = h.numbers;
        sessions = record {
          table = table_same f birth_of SESSION_LIMIT (λ s. refl) r.sessions h.sessions.table;
          clients = subst AllDiffer (sym (map_same f (λ (s : Session). s.client) (λ s. refl) r.sessions)) h.sessions.clients;
          places = subst AllDiffer (sym (flat_map_same f (λ (s : Session). map place_of s.subscriptions) (λ s. refl) r.sessions)) h.sessions.places;
          each = all_same f (IsLawfulSession (last_of r)) (λ (s : Session). AllByRecursion (IsAsLong payloads) s.queue) (session_lawful (last_of r)) r.sessions long h.sessions.each;
        };
        retained = h.retained;
        shared = shared;
      }
