-- Nothing is whole exactly if the fixed header says that no packet has come whole (MQTT 5.0, 2.1.4).
use Rattle.std.proofs.Common.{◌≡◌, ℕ, List, take, Option, None, Some, Result, Ok, Err, refl, ap}
use Rattle.mqtt_packet.specs.declared.parts.fault.Fault.{Fault}
use Rattle.mqtt_packet.specs.declared.codec.packet.Packet.{Packet}
use Rattle.mqtt_packet.specs.codec.Frames.{packet_at}
use Rattle.mqtt_packet.specs.stream.Front.{size_at, with_size, first_by, first_of}

-- if no packet has come whole, neither a packet nor a fault stands
pub waits_sized : (h : List ℕ) → size_at h ≡ Ok None → first_of h ≡ Ok None
unfolding first_of
waits_sized h e = ap (first_by h) e

some_stands : (n : ℕ) (r : Result Packet Fault) → with_size n r ≡ Ok None → ⊥
some_stands n (Ok p) e = absurd cc
some_stands n (Err f) e = absurd cc

sized_waits_by : (h : List ℕ) (r : Result (Option ℕ) Fault) → first_by h r ≡ Ok None → r ≡ Ok None
sized_waits_by h (Ok None) e = refl
sized_waits_by h (Ok (Some n)) e = absurd (some_stands n (packet_at (take n h)) e)
sized_waits_by h (Err f) e = absurd cc

-- and if neither stands, no packet has come whole
pub sized_waits : (h : List ℕ) → first_of h ≡ Ok None → size_at h ≡ Ok None
unfolding first_of
sized_waits h e = sized_waits_by h (size_at h) e
