-- Places of subscriptions, over all sessions (MQTT 5.0, 3.8.4).
use Rattle.std.specs.Prelude.{ℕ, ◌≤◌, List, flat_map, map}
use Rattle.std.specs.List.{AllByRecursion}
use Rattle.mqtt_records.specs.declared.state.records.Records.{Records}
use Rattle.mqtt_records.specs.declared.state.session.Session.{Session}
use Rattle.mqtt_records.specs.state.Session.{place_of}
use Rattle.mqtt_records.specs.lists.Distinct.{AllDiffer}
use Rattle.mqtt_rules.specs.step.Laws.{IsOrdered}

abbrev pub places_in : Session → List ℕ
places_in s = map place_of s.subscriptions

-- none is above the number of the last grant
abbrev pub HasPlacesUpTo : ℕ → Session → Type 0
HasPlacesUpTo n s = AllByRecursion (λ x. x.place ≤ n) s.subscriptions

-- no two subscriptions of any sessions have the same place, and each was given by a grant
pub record HavePlacesApart (r : Records) : Type 0 where
  pub ordered : IsOrdered r
  pub given : AllByRecursion (HasPlacesUpTo r.subscribes) r.sessions
  pub differ : AllDiffer (flat_map places_in r.sessions)
