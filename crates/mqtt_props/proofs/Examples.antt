-- Worked blocks, by computing (MQTT 5.0, 2.2.2).
use Rattle.std.proofs.Common.{◌≡◌, ℕ, true, false, [], ◌∷◌, Ok, Err, refl}
use Rattle.mqtt_base.specs.Values.{varint}
use Rattle.mqtt_base.specs.Reading.{varint_at}
use Rattle.mqtt_base.specs.Items.{items_in, items_at}
use Rattle.mqtt_props.specs.declared.fault.PropFault.TheVariants.{Malformed, Twice, BadValue}
use Rattle.mqtt_props.specs.declared.place.Place.TheVariants.{Publish, Subscribe, Will}
use Rattle.mqtt_props.specs.declared.table.PropName.TheVariants.{PayloadFormatIndicator, SubscriptionIdentifier}
use Rattle.mqtt_props.specs.Table.{is_allowed}
use Rattle.mqtt_props.specs.Properties.{Prop, Byte, VarInt, block}
use Rattle.mqtt_props.specs.Reading.{value_at, prop_at, block_at}
use Rattle.mqtt_props.specs.Laws.{lawful_at, none_repeats}

-- Will Delay Interval belongs to the Will, and 4 is no property
will_delay_in_publish : is_allowed 0x18 Publish ≡ false
will_delay_in_publish = refl

will_delay_in_will : is_allowed 0x18 Will ≡ true
will_delay_in_will = refl

no_property : is_allowed 4 Publish ≡ false
no_property = refl

format : ℕ → Prop
format n = record { name = PayloadFormatIndicator; value = Byte n }

identifier : ℕ → Prop
identifier n = record { name = SubscriptionIdentifier; value = VarInt n }

-- two Subscription Identifiers stand in a PUBLISH, and not in a SUBSCRIBE
two_identifiers : none_repeats Publish (identifier 5 ∷ identifier 5 ∷ []) ≡ true
unfolding identifier
two_identifiers = refl

two_in_subscribe : none_repeats Subscribe (identifier 5 ∷ identifier 6 ∷ []) ≡ false
unfolding identifier
two_in_subscribe = refl

spelled : block (format 1 ∷ identifier 300 ∷ []) ≡ 5 ∷ 1 ∷ 1 ∷ 0x0B ∷ 0xAC ∷ 0x02 ∷ []
unfolding format identifier varint
spelled = refl

read : lawful_at Publish (2 ∷ 1 ∷ 1 ∷ 0x61 ∷ []) ≡ Ok (format 1 ∷ [], 0x61 ∷ [])
unfolding format lawful_at block_at varint_at items_at items_in prop_at value_at
read = refl

foreign : lawful_at Publish (5 ∷ 0x18 ∷ 0 ∷ 0 ∷ 0 ∷ 5 ∷ []) ≡ Err Malformed
unfolding lawful_at block_at varint_at items_at items_in prop_at value_at
foreign = refl

twice : lawful_at Publish (4 ∷ 1 ∷ 0 ∷ 1 ∷ 0 ∷ []) ≡ Err Twice
unfolding lawful_at block_at varint_at items_at items_in prop_at value_at
twice = refl

bad_value : lawful_at Publish (2 ∷ 1 ∷ 2 ∷ []) ≡ Err BadValue
unfolding lawful_at block_at varint_at items_at items_in prop_at value_at
bad_value = refl

-- a repeated property is told before a value that breaks its law
twice_first : lawful_at Publish (4 ∷ 1 ∷ 2 ∷ 1 ∷ 2 ∷ []) ≡ Err Twice
unfolding lawful_at block_at varint_at items_at items_in prop_at value_at
twice_first = refl

cut : lawful_at Publish (3 ∷ 1 ∷ 1 ∷ []) ≡ Err Malformed
unfolding lawful_at block_at varint_at items_at items_in prop_at value_at
cut = refl
