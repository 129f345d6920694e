-- What a copy in a session's queue says, and its place there (MQTT 5.0, 3.3).
use Rattle.std.specs.Prelude.{ℕ, List}
use Rattle.mqtt_props.specs.Properties.{Prop}

pub record CopyContent : Type 0 where
  pub place : ℕ
  pub identifiers : List ℕ  -- the Subscription Identifiers that are sent with it (3.3.2.3.8)
  pub topic : List ℕ
  pub properties : List Prop  -- as they are passed on
  pub payload : List ℕ
