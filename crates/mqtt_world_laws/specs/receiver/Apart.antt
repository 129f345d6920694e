-- A receiver's copies told apart, as they enter one after the other (MQTT 5.0, 3.3.1.3, 3.3.4, 4.6).
use Rattle.std.specs.Prelude.{◌≤◌, ℕ, List}
use Rattle.std.specs.List.{AllByRecursion}
use Rattle.mqtt_base.specs.declared.session.CopyId.{CopyId}
use Rattle.mqtt_records.specs.state.Records.{subscribe_in}
use Rattle.mqtt_records.specs.declared.state.records.Records.{Records}
use Rattle.mqtt_records.specs.lists.Distinct.{AllDiffer}

-- of a publication that was accepted; and one of a retained message is for a filter that was granted
pub record HasCome (publications subscribes : ℕ) (id : CopyId) : Type 0 where
  pub publication : id.publication ≤ publications
  pub subscribe : subscribe_in id.cause ≤ subscribes

-- so is each of them, by what is stored, and no two are the same
pub record AreToldApart (ids : List CopyId) (r : Records) : Type 0 where
  pub come : AllByRecursion (HasCome r.publications r.subscribes) ids
  pub differ : AllDiffer ids
