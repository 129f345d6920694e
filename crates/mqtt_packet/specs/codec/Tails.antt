-- A reason code and properties at the end of a packet, of which the last parts may be left out (MQTT 5.0, 3.4.2, 3.14.2, 3.15.2).
use Rattle.std.specs.Prelude.{◌≡◌, ℕ, List, [], ◌∷◌, length, Result, Ok, Err, ◌==◌, if◌then◌else◌}
use Rattle.mqtt_base.specs.Codes.{success}
use Rattle.mqtt_base.specs.Reading.{◌>>=◌}
use Rattle.mqtt_props.specs.declared.place.Place.{Place}
use Rattle.mqtt_props.specs.Properties.{Prop, block}
use Rattle.mqtt_props.specs.Laws.{layout_at}
use Rattle.mqtt_packet.specs.declared.parts.fault.Fault.{Fault}
use Rattle.mqtt_packet.specs.declared.parts.fault.Fault.TheVariants.{Malformed}
use Rattle.mqtt_packet.specs.parts.Reading.{malformed}

-- nothing, which stands for the code 0; a code; or a code and properties
abbrev pub IsTail : ℕ → List Prop → List ℕ → Type 0
IsTail code ps [] = (code ≡ success) × (ps ≡ [])
IsTail code ps (c ∷ []) = (c ≡ code) × (ps ≡ [])
IsTail code ps (c ∷ rest) = (c ≡ code) × (rest ≡ block ps)

-- the shortest of them
abbrev pub tail : ℕ → List Prop → List ℕ
tail code [] = if code == success then [] else code ∷ []
tail code (p ∷ ps) = code ∷ block (p ∷ ps)

unfoldable pub tail_at : Place → List ℕ → Result (ℕ × List Prop) Fault
tail_at place [] = Ok (success, [])
tail_at place (c ∷ []) = Ok (c, [])
tail_at place (c ∷ (b ∷ bytes)) = do
  ps ← malformed (layout_at place (b ∷ bytes))
  if length ps.1 == 0 then Ok (c, ps.0) else Err Malformed
