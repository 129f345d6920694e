-- Where the rows of one session end in each table.
use Rattle.std.specs.Prelude.{ℕ}
use Rattle.mqtt_store_rows.specs.values.Lists.{BeginsOther}
use Rattle.mqtt_store_rows.specs.values.Gives.{Parts}

-- no table goes on with a row of the session
pub record EndsParts (birth : ℕ) (parts : Parts) : Type 0 where
  pub will : BeginsOther birth parts.wills
  pub subscription : BeginsOther birth parts.subscriptions
  pub identifier : BeginsOther birth parts.inbound
  pub copy : BeginsOther birth parts.copies
