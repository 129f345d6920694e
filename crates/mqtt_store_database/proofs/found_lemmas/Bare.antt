-- What is read of sessions without their queues is theirs with them.
use Rattle.std.proofs.Common.{◌≡◌, List, [], ◌∷◌, map, refl, subst}
use Rattle.sqlite_value.specs.Order.{Row}
use Rattle.mqtt_records.specs.declared.state.records.Records.{Records}
use Rattle.mqtt_records.specs.declared.state.session.Session.{Session}
use Rattle.mqtt_records.specs.state.Contents.{StoredMessage}
use Rattle.mqtt_store_rows.specs.values.Rows.{SaysWill, SaysSubscription, SaysOpen}
use Rattle.mqtt_store_rows.specs.values.Lists.{AreRows, Takes}
use Rattle.mqtt_store_database.specs.item_laws.Members.{will_of, subscriptions_of, inbound_of}
use Rattle.mqtt_store_database.proofs.found_lemmas.both.Traverse.{Shares, SaysItself, own_rows, wills_share, subscriptions_share, inbound_share}
use Rattle.mqtt_store_database.proofs.found_lemmas.both.First.{FirstRows, AreFirstSaid}
use Rattle.mqtt_store_rows.specs.rows.Gives.{Rows, GivesBy, parts_of, without_queue}

bare_own : (rows : List Row) (ss : List Session) → AreRows SaysItself rows (map without_queue ss) → AreRows SaysItself rows ss
bare_own [] [] are = tt
bare_own [] (s ∷ ss) are = absurd are
bare_own (row ∷ rows) [] are = absurd are
bare_own (row ∷ rows) (s ∷ ss) are = (are.0, bare_own rows ss are.1)

bare_shares : {X : Type 0} (Says : X → Row → Type 0) (part : Session → List X) → ((s : Session) → part (without_queue s) ≡ part s) → (rows : List Row) (ss : List Session) → Shares Says part rows (map without_queue ss) → Shares Says part rows ss
bare_shares {X = X} Says part same rows [] h = h
bare_shares {X = X} Says part same rows (s ∷ ss) h = (h.0, subst (λ (l : List X). Takes Says s.birth l rows h.0) (same s) h.1, bare_shares Says part same h.0 ss h.2)

-- the rows of the tables with which each schema begins
abbrev pub first_rows : Rows → FirstRows
first_rows rows = record { meta = rows.meta; sessions = rows.sessions; wills = rows.wills; subscriptions = rows.subscriptions; inbound = rows.inbound }

-- rows that give records say their numbers, their sessions and what these have beside queues
pub first_said : (messages : List StoredMessage) (rows : Rows) (q : Records) → GivesBy messages rows q → AreFirstSaid 2 (first_rows rows) q
first_said messages rows q by =
    let bare = map without_queue q.sessions in
    let others = by.sessions.others in
    record {
      numbers = by.numbers;
      sessions = bare_own rows.sessions q.sessions (own_rows rows.sessions (parts_of rows) bare others);
      wills = bare_shares SaysWill will_of (λ s. refl) rows.wills q.sessions (wills_share rows.sessions (parts_of rows) bare others);
      subscriptions = bare_shares SaysSubscription subscriptions_of (λ s. refl) rows.subscriptions q.sessions (subscriptions_share rows.sessions (parts_of rows) bare others);
      inbound = bare_shares SaysOpen inbound_of (λ s. refl) rows.inbound q.sessions (inbound_share rows.sessions (parts_of rows) bare others);
    }
