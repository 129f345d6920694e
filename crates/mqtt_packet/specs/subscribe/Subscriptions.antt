-- Filters with their options, as a SUBSCRIBE has them (MQTT 5.0, 3.8.3).
use Rattle.std.specs.Prelude.{ℕ, ◌/◌, ◌%◌, ◌<◌, Bool, ◌&&◌, ◌||◌, not, nat_lt, nat_eq, List, [], ◌∷◌, ◌++◌, codes, Result, Ok, Err, ◌==◌, if◌then◌else◌}
use Rattle.std.specs.List.{starts_with}
use Rattle.mqtt_base.specs.Values.{blob, FitsText}
use Rattle.mqtt_base.specs.Reading.{◌>>=◌, text_at, u8_at}
use Rattle.mqtt_packet.specs.declared.parts.fault.Fault.{Fault}
use Rattle.mqtt_packet.specs.declared.parts.fault.Fault.TheVariants.{Malformed}
use Rattle.mqtt_packet.specs.parts.Reading.{malformed}

-- a filter and its options byte: bits 0 and 1 the maximum QoS, 2 No Local, 3 Retain As Published, 4 and 5 Retain Handling
pub record Subscription : Type 0 where
  pub filter : List ℕ
  pub options : ℕ

abbrev pub subscription : Subscription → List ℕ
subscription w = blob w.filter ++ w.options ∷ []

-- bits 6 and 7 are 0
abbrev pub IsSubscription : Subscription → Type 0
IsSubscription w = FitsText w.filter × (w.options < 64)

abbrev pub is_shared : List ℕ → Bool
is_shared filter = starts_with nat_eq filter (codes "$share/")

-- the maximum QoS and Retain Handling are at most 2, and a shared filter goes without No Local (3.8.3.1)
abbrev pub lawful_subscription : Subscription → Bool
lawful_subscription w =
    nat_lt (w.options % 4) 3 && (nat_lt (w.options / 16) 3 && (w.options / 4 % 2 == 0 || not (is_shared w.filter)))

unfoldable pub subscription_at : List ℕ → Result (Subscription × List ℕ) Fault
subscription_at bytes = do
  t ← malformed (text_at bytes)
  o ← malformed (u8_at t.1)
  if nat_lt o.0 64 then Ok (record { filter = t.0; options = o.0 }, o.1) else Err Malformed
