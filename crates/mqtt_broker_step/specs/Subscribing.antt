-- Subscriptions of a session: each filter once, at its own place (MQTT 5.0, 3.8.4).
use Rattle.std.specs.Prelude.{◌≡◌, ℕ, List, map}
use Rattle.std.specs.List.{AllByRecursion}
use Rattle.mqtt_records.specs.lists.Distinct.{AllDiffer}
use Rattle.mqtt_records.specs.declared.state.records.Records.{Records}
use Rattle.mqtt_records.specs.declared.state.session.Session.{Session}
use Rattle.mqtt_records.specs.declared.state.subscription.Subscription.{Subscription}
use Rattle.mqtt_rules.specs.step.Subscribe.{place_among}

abbrev pub filter_of : Subscription → List ℕ
filter_of x = x.filter

-- no two subscriptions of the session are to the same filter
pub record HasEachFilterOnce (s : Session) : Type 0 where
  pub differ : AllDiffer (map filter_of s.subscriptions)

-- so it is with all sessions
abbrev pub HaveFiltersOnce : Records → Type 0
HaveFiltersOnce r = AllByRecursion HasEachFilterOnce r.sessions

-- the session may have the subscription: each filter it has once, and one that it has keeps its place
pub record MaySubscribe (x : Subscription) (s : Session) : Type 0 where
  pub once : HasEachFilterOnce s
  pub place : place_among x.place x.filter s.subscriptions ≡ x.place
