-- What a broker has written: lawful records, and what lawful ones need not have (MQTT 5.0, 4.1).
use Rattle.std.specs.Prelude.{◌≡◌, false, List, [], ◌∷◌, map}
use Rattle.std.specs.List.{AllByRecursion}
use Rattle.mqtt_base.specs.Values.{FitsText}
use Rattle.mqtt_keep.specs.lawful.Lawful.{IsLawful}
use Rattle.mqtt_records.specs.declared.state.records.Records.{Records}
use Rattle.mqtt_records.specs.lists.Distinct.{AllDiffer}
use Rattle.mqtt_rules.specs.step.Contents.{HasLawfulContentsOf, TakesLawful, of_packets}
use Rattle.mqtt_rules.specs.step.Laws.{AreWithin, Event, Asked, Reopened, after_event}
use Rattle.mqtt_rules.specs.step.State.{Broker, stored}
use Rattle.mqtt_rules.specs.step.Step.{is_opening_spent, is_step_spent}

-- messages as short as those of packets, filters that packets can carry, and retained messages of different publications
pub record IsWritten (r : Records) : Type 0 where
  pub lawful : IsLawful r
  pub contents : HasLawfulContentsOf of_packets r
  pub filters : AllByRecursion (λ s. AllByRecursion (λ x. FitsText x.filter) s.subscriptions) r.sessions
  pub publications : AllDiffer (map (λ kept. kept.publication) r.retained)

-- limits within those of the tables, a packet that is lawful and no longer than a packet may be, and no number is spent
abbrev pub IsFair : Event → Broker → Type 0
IsFair (Asked limits choice now call) b = AreWithin limits × TakesLawful call × (is_step_spent limits choice now call b ≡ false)
IsFair (Reopened limits choice now) b = AreWithin limits × (is_opening_spent limits choice now (stored b) ≡ false)

-- one after the other
abbrev pub AreFair : List Event → Broker → Type 0
AreFair [] b = Unit {0}
AreFair (e ∷ es) b = IsFair e b × AreFair es (after_event e b)
