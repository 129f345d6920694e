-- What a view did when it stopped (ours).
use Rattle.std.specs.Prelude.{◌≡◌, ℕ, ◌<◌, ◌==◌, if◌then◌else◌, List, ◌++◌, length, Option, None, Some, Ok, Err}
use Rattle.std.specs.List.{flat_map}
use Rattle.std.specs.Io.KnownBytes.{Appends}
use Rattle.mqtt_packet.specs.declared.parts.fault.Fault.{Fault}
use Rattle.mqtt_base.specs.declared.limits.TheConstants.{PACKET_LIMIT}
use Rattle.mqtt_packet.specs.stream.Front.{first_of}
use Rattle.mqtt_packet.specs.stream.Stream.{Framing, Item, Ending, short_at, fault_at, IsCut, IsStream}
use Rattle.mqtt_cli.specs.declared.viewer.viewer.Status.{Status}
use Rattle.mqtt_cli.specs.declared.viewer.viewer.Status.TheVariants.{Whole, Faulty}
use Rattle.mqtt_cli.specs.declared.viewer.details.Details.{Details}
use Rattle.mqtt_cli.specs.viewer.View.{line, view_text}

-- a stream is whole if nothing is left behind its packets
abbrev pub status_of : Ending → Status
status_of (short_at place left) = if length left == 0 then Whole else Faulty
status_of (fault_at place fault) = Faulty

-- ---- the whole view

-- The text of the viewer was written: that of the packets that the input is, and of its ending.
pub record Views (details : Details) (input : List ℕ) (before after : Option (List ℕ)) (status : Status) : Type 0 where
  pub items : List Item
  pub ending : Ending
  pub stream : IsStream input items ending
  pub wrote : Appends before after (view_text details items ending)
  pub status_is : status ≡ status_of ending

-- Whole lines were written, a beginning of that text: those of the packets that the input begins with.
pub record WritesFront (details : Details) (input : List ℕ) (before after : Option (List ℕ)) : Type 0 where
  pub items : List Item
  pub end : ℕ
  pub rest : List ℕ
  pub cut : IsCut 0 input items end rest
  pub wrote : Appends before after (flat_map (line details) items)

-- ---- its steps

-- A framer holds no whole packet any more: none is whole, or this fault stands first.
abbrev pub IsDrained : Framing → Option (Fault × ℕ) → Type 0
IsDrained f None = (first_of f.held ≡ Ok None) × (length f.held < PACKET_LIMIT)
IsDrained f (Some e) = (first_of f.held ≡ Err e.0) × (e.1 ≡ f.place)

-- A framer was fed more bytes and gave the packets in them, and a text grew by their lines.
pub record AddsLines (details : Details) (old : Framing) (more : List ℕ) (new : Framing) (old_text new_text : List ℕ) : Type 0 where
  pub items : List Item
  pub cut : IsCut old.place (old.held ++ more) items new.place new.held
  pub text : new_text ≡ old_text ++ flat_map (line details) items

-- the same, if the lines went to a writer
pub record WritesLines (details : Details) (old : Framing) (more : List ℕ) (new : Framing) (before after : Option (List ℕ)) : Type 0 where
  pub items : List Item
  pub cut : IsCut old.place (old.held ++ more) items new.place new.held
  pub wrote : Appends before after (flat_map (line details) items)
