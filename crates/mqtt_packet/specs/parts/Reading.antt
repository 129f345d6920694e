-- What a reader answers, and how a field that can't be read makes its packet malformed.
use Rattle.std.specs.Prelude.{◌≡◌, Result, Ok, Err, Option, Some, None}
use Rattle.mqtt_packet.specs.declared.parts.fault.Fault.{Fault}
use Rattle.mqtt_packet.specs.declared.parts.fault.Fault.TheVariants.{Malformed}

-- What a function returned, seen by view, is what reading gives.
abbrev pub Gives : {X Y E : Type 0} → (X → Y) → Result X E → Result Y E → Type 0
Gives view (Ok x) read = read ≡ Ok (view x)
Gives view (Err e) read = read ≡ Err e

-- any fault below is a malformed packet
abbrev pub malformed : {A E : Type 0} → Result A E → Result A Fault
malformed (Ok x) = Ok x
malformed (Err e) = Err Malformed

abbrev pub known : {A : Type 0} → Option A → Result A Fault
known None = Err Malformed
known (Some x) = Ok x
