-- What a block of properties in a column says (MQTT 5.0, 2.2.2, 3.3.2.3).
use Rattle.std.specs.Prelude.{◌≡◌, ℕ, Bool, true, ◌&&◌, List, [], ◌∷◌, map, nat_le}
use Rattle.sqlite_value.specs.declared.value.Value.{Value}
use Rattle.sqlite_value.specs.declared.value.Value.TheVariants.{Blob}
use Rattle.mqtt_props.specs.declared.place.Place.{Place}
use Rattle.mqtt_props.specs.declared.place.Place.TheVariants.{Publish}
use Rattle.mqtt_props.specs.declared.table.PropName.TheVariants.{SubscriptionIdentifier}
use Rattle.mqtt_props.specs.Properties.{Prop}
use Rattle.mqtt_props.specs.Laws.{Begins, IsLawful}
use Rattle.mqtt_props.specs.Edits.{only, without}
use Rattle.mqtt_records.specs.messages.PassedOn.{id_of, number_in, IsPassedOn}

-- the column is the block of these properties, and they are lawful in that place
pub record IsBlockOf (place : Place) (ps : List Prop) (column : Value) : Type 0 where
  pub bytes : List ℕ
  pub holds : column ≡ Blob bytes
  pub is : Begins place ps [] bytes
  pub lawful : IsLawful place ps

-- none has a lower identifier than the one before it: the order in which a PUBLISH has its properties
abbrev pub rises_from : ℕ → List Prop → Bool
rises_from id [] = true
rises_from id (p ∷ ps) = nat_le id (id_of p) && rises_from (id_of p) ps

-- the numbers of the Subscription Identifiers, in their order
abbrev pub identifiers_in : List Prop → List ℕ
identifiers_in ps = map (λ p. number_in p.value) (only SubscriptionIdentifier ps)

-- the column has what is passed on of a publication
pub record SaysPassed (ps : List Prop) (column : Value) : Type 0 where
  pub block : IsBlockOf Publish ps column
  pub goes_on : IsPassedOn ps

-- the column has what is passed on to a copy, and its Subscription Identifiers, in the order in which they are sent
pub record SaysSent (ps : List Prop) (ns : List ℕ) (column : Value) : Type 0 where
  pub all : List Prop
  pub block : IsBlockOf Publish all column
  pub order : rises_from 0 all ≡ true
  pub passed : without SubscriptionIdentifier all ≡ ps
  pub goes_on : IsPassedOn ps
  pub identifiers : identifiers_in all ≡ ns
