-- Retained messages (MQTT 5.0, 3.3.1.3).
use Rattle.std.specs.Prelude.{◌≡◌, ℕ, ◌<◌, Bool, true, false, cond, ◌||◌, List, [], ◌∷◌, length, filter, map, bytes_eq, nat_lt, nat_le, Option, Some, None}
use Rattle.std.specs.List.{list_any}
use denote.Ref.{Bor}
use Rattle.mqtt_topic.specs.names.Matching.{is_match}
use Rattle.mqtt_routes.specs.declared.routing.fault.RoutesFault.{RoutesFault}
use Rattle.mqtt_routes.specs.declared.routing.fault.RoutesFault.TheVariants.{Full, Memory}
use Rattle.mqtt_routes.specs.declared.routing.retained.Kept.{Kept}
use Rattle.mqtt_routes.specs.routing.Subscriptions.{Subscriber, have_room}

-- the message is of this topic
abbrev pub is_of : {M : Type 0} → List ℕ → Kept M → Bool
is_of topic k = bytes_eq k.topic topic

abbrev pub has_topic : {M : Type 0} → List ℕ → List (Kept M) → Bool
has_topic topic ks = list_any (is_of topic) ks

-- a message replaces its topic's, or comes last: topics stand in the order in which they were first retained
abbrev pub keep : {M : Type 0} → List ℕ → M → List (Kept M) → List (Kept M)
keep topic message [] = record { topic = topic; message = message } ∷ []
keep topic message (k ∷ ks) = cond (is_of topic k) (record { topic = k.topic; message = message } ∷ ks) (k ∷ keep topic message ks)

-- a topic without a message
abbrev pub forget : {M : Type 0} → List ℕ → List (Kept M) → List (Kept M)
forget topic [] = []
forget topic (k ∷ ks) = cond (is_of topic k) ks (k ∷ forget topic ks)

-- a message of the topic finds a place: it replaces one, or fewer topics than the limit have one
abbrev pub has_place : {M : Type 0} → ℕ → List ℕ → List (Kept M) → Bool
has_place limit topic ks = has_topic topic ks || nat_lt (length ks) limit

-- why a message isn't kept where so many topics can have one: only one of a new topic is refused
abbrev pub RefusesKeep : {M : Type 0} → ℕ → List ℕ → List (Kept M) → RoutesFault → Type 0
RefusesKeep limit topic ks Full = (has_topic topic ks ≡ false) × (length ks ≡ limit)
RefusesKeep limit topic ks Memory = (has_topic topic ks ≡ false) × (length ks < limit)

-- those that a filter matches, in order
abbrev pub kept_for : {M : Type 0} → List ℕ → List (Kept M) → List (Kept M)
kept_for text ks = filter (λ k. is_match text k.topic) ks

-- ---- the whole table

pub record Table (M : Type 0) : Type 0 where
  pub sessions : List Subscriber
  pub retained : List (Kept M)
  -- how many topics can have a message (ours)
  pub topic_limit : ℕ

-- RETAIN 1: a message replaces its topic's, an empty one removes it
abbrev pub retain : {M : Type 0} → List ℕ → Option M → List (Kept M) → List (Kept M)
retain topic None ks = forget topic ks
retain topic (Some message) ks = keep topic message ks

abbrev pub RefusesRetain : {M : Type 0} → List ℕ → Option M → Table M → RoutesFault → Type 0
RefusesRetain topic None table fault = ⊥
RefusesRetain topic (Some message) table fault = RefusesKeep table.topic_limit topic table.retained fault

-- what is to be retained finds a place, as an empty message always does
abbrev pub takes_topic : {M : Type 0} → List ℕ → Option M → Table M → Bool
takes_topic topic None table = true
takes_topic topic (Some message) table = has_place table.topic_limit topic table.retained

-- ---- the room beside the table: what can be put without memory

-- messages as they are held, how many topics can have one, and how many further topics take no memory
pub record KeptMessages (M : Type 0) : Type 0 where
  pub messages : List (Kept M)
  pub limit : ℕ
  pub room : ℕ

-- the table; for each session, and for topics, how many further ones take no memory
pub record Index (M : Type 0) : Type 0 where
  pub table : Table M
  pub session_room : List (ℕ × ℕ)
  pub topic_room : ℕ

-- subscriptions of a session to these filters, one after another, take no memory
abbrev pub has_room_for : {M : Type 0} → ℕ → List (List ℕ) → Index M → Bool
has_room_for birth filters index = have_room birth filters index.session_room

-- what a list of names refers to
abbrev pub names_of : List (Bor (List ℕ)) → List (List ℕ)
names_of names = map (λ n. n.now) names

-- messages of these topics, one after another, take no memory
abbrev pub has_room_of : {M : Type 0} → List (List ℕ) → Index M → Bool
has_room_of topics index = nat_le (length topics) index.topic_room
