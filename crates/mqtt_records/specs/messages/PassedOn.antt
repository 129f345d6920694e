-- What a publication passes on to its copies, and what is sent of it (MQTT 5.0, 3.3.2.3).
use Rattle.std.specs.Prelude.{◌≡◌, ℕ, ◌-◌, Bool, true, ◌&&◌, cond, List, [], ◌∷◌, ◌++◌, map, find, nat_le, ◌==◌, Option, option_map}
use Rattle.std.specs.List.{list_any}
use Rattle.mqtt_props.specs.declared.table.PropName.{PropName}
use Rattle.mqtt_props.specs.declared.table.PropName.TheVariants.{PayloadFormatIndicator, MessageExpiryInterval, ContentType, ResponseTopic, CorrelationData, SubscriptionIdentifier, UserProperty}
use Rattle.mqtt_props.specs.Properties.{Value, Byte, U16, U32, VarInt, Text, Binary, Pair, Prop}
use Rattle.mqtt_props.specs.Table.{property_row}
use Rattle.mqtt_props.specs.Laws.{is_named}
use Rattle.mqtt_props.specs.Edits.{only, without}

-- ---- one property

abbrev pub number_in : Value → ℕ
number_in (Byte n) = n
number_in (U16 n) = n
number_in (U32 n) = n
number_in (VarInt n) = n
number_in (Text text) = 0
number_in (Binary bytes) = 0
number_in (Pair key text) = 0

-- the number that a property of this name has in a block, if it is there
abbrev pub number_at : PropName → List Prop → Option ℕ
number_at name ps = option_map (λ p. number_in p.value) (find (is_named name) ps)

abbrev pub property : PropName → Value → Prop
property name value = record { name = name; value = value }

-- ---- what is passed on

-- in the order in which it is sent; a Topic Alias and Subscription Identifiers aren't
abbrev pub passed_on : List Prop → List Prop
passed_on ps =
    only PayloadFormatIndicator ps ++ only MessageExpiryInterval ps ++ only ContentType ps ++ only ResponseTopic ps
    ++ only CorrelationData ps ++ only UserProperty ps

abbrev pub passed_names : List PropName
passed_names =
    PayloadFormatIndicator ∷ MessageExpiryInterval ∷ ContentType ∷ ResponseTopic ∷ CorrelationData ∷ UserProperty ∷ []

abbrev pub id_of : Prop → ℕ
id_of p = (property_row p.name).id

-- some publication's property of this identifier is passed on
abbrev pub goes_on : ℕ → Bool
goes_on id = list_any (λ name. (property_row name).id == id) passed_names

-- each is such as is passed on, and none has a lower identifier than the one before it: their identifiers rise in the
-- order in which they are sent
abbrev pub rises_from : ℕ → List Prop → Bool
rises_from id [] = true
rises_from id (p ∷ ps) = nat_le id (id_of p) && goes_on (id_of p) && rises_from (id_of p) ps

-- properties as a publication passes them on
abbrev pub IsPassedOn : List Prop → Type 0
IsPassedOn ps = rises_from 0 ps ≡ true

-- ---- what is sent

-- a property as it is sent: Message Expiry Interval less the seconds waited (3.3.2.3.3)
abbrev pub aged : ℕ → Prop → Prop
aged waited p = cond (is_named MessageExpiryInterval p) (property MessageExpiryInterval (U32 (number_in p.value - waited))) p

abbrev pub identified : ℕ → Prop
identified n = property SubscriptionIdentifier (VarInt n)

-- the block of a copy: what was passed on, before its User Properties the Subscription Identifiers (3.3.2.3)
abbrev pub sent_after : ℕ → List ℕ → List Prop → List Prop
sent_after waited identifiers ps =
    map (aged waited) (without UserProperty ps) ++ map identified identifiers ++ only UserProperty ps
