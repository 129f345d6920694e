-- What the broker is asked is lawful, or tells of a fault (MQTT 5.0, 2.1, 4.13).
use Rattle.std.proofs.Common.{◌≡◌, ◌-◌, ℕ, zero, suc, Bool, true, false, nat_lt, List, [], ◌∷◌, ◌++◌, length, map, take, Option, Some, None, refl, arith, inl, inr}
use Rattle.std.specs.Prelude.{⊤, find, Ok, Err}
use Rattle.std.specs.List.{AllByRecursion}
use Rattle.std.proofs.lemmas.Bool.{cases_Bool, cases_lt, ltb-true}
use Rattle.std.proofs.lemmas.List.{length-take-le, get_or_append_left, get_or-append_right}
use Rattle.mqtt_base.proofs.Steps.{IsBytes-drop}
use Rattle.mqtt_packet.proofs.codec_lemmas.ShortestLemmas.{spelled_has}
use Rattle.mqtt_packet.specs.declared.codec.packet.Packet.{Packet}
use Rattle.mqtt_packet.specs.stream.Front.{first_of}
use Rattle.mqtt_packet.proofs.stream_lemmas.Fronts.{first_within}
use Rattle.mqtt_packet.proofs.stream_lemmas.Wholes.{first_spells}
use Rattle.mqtt_rules.proofs.step_lemmas.contents.PassedContents.{two}
use Rattle.mqtt_rules.specs.step.Contents.{IsTaken, TakesLawful}
use Rattle.mqtt_rules.specs.step.Piece.{Front, call_by}
use Rattle.mqtt_rules.specs.step.Step.{Call}
use Rattle.mqtt_world_model.specs.model.Ends.{Back, Publisher, Receiver, wire, wire_back}
use Rattle.mqtt_world_model.specs.model.World.{Stranger, World, are_bytes, call_of_stranger, call_on, held_after, held_by, input_on, is_bad_asking, lost_on, pump_on, stranger, view_by}
use Rattle.mqtt_rules.specs.spelling.Sending.{TellsFault}
use Rattle.mqtt_world_model.proofs.single_steps_lemmas.Good.{good_bytes}
use Rattle.mqtt_world_model.specs.single_steps.Taken.{HasIdentifier, IsTakenBack, IsTakenFrom, IsTakenFromReceiver}
use Rattle.mqtt_world_laws.specs.reading.Going.{AreBytes, HoldsBytes, IsFine}
use Rattle.mqtt_world_laws.specs.reading.UnderWay.{IsViewTaken}

-- ---- what may be asked

-- the packet of the call is lawful, or its code tells of a fault
pub record IsWell (call : Call) : Type 0 where
  pub taken : TakesLawful call
  pub tells : TellsFault call

abbrev pub IsWellIf : Option Call → Type 0
IsWellIf None = ⊤
IsWellIf (Some call) = IsWell call

-- ---- of an end

-- the broker takes what a receiver has under way
pub record IsBackTaken (r : Receiver) : Type 0 where
  pub taken : IsTakenFromReceiver r
  pub fine : IsFine r

abbrev pub OnEnd : {X : Type 0} → (X → Type 0) → Option X → Type 0
OnEnd P None = ⊤
OnEnd P (Some x) = P x

-- what holds of all ends holds of the one that is found
pub found : {X : Type 0} (P : X → Type 0) (f : X → Bool) (xs : List X) → AllByRecursion P xs → OnEnd P (find f xs)
found P f [] h = tt
found P f (x ∷ xs) h = elim (cases_Bool (f x)) [
  | inl here ↦ rw here h.0
  | inr other ↦ rw other (found P f xs h.1)
]

on_wire : {U : Type 0} (f : U → Packet) (us : List U) → AllByRecursion (λ (u : U). IsTaken (f u)) us → AllByRecursion IsTaken (map f us)
on_wire f [] h = tt
on_wire f (u ∷ us) h = (h.0, on_wire f us h.1)

backs : (r : Receiver) (xs : List Back) → AllByRecursion (IsTakenBack r) xs → AllByRecursion HasIdentifier xs → AllByRecursion (λ (x : Back). IsTaken (wire_back r.client r.window r.aliases x)) xs
backs r [] h k = tt
backs r (x ∷ xs) h k = (h.0 k.0, backs r xs h.1 k.1)

-- what a view shows is taken, if both its ends' packets are
pub view_taken : (p : Option Publisher) (r : Option Receiver) → OnEnd IsTakenFrom p → OnEnd IsBackTaken r → IsViewTaken (view_by p r)
view_taken (Some p) r h k = record { up = on_wire (wire p.client p.contents) p.line.up h.up; old = on_wire (wire p.client p.contents) p.line.old h.old }
view_taken None (Some r) h k = record {
  up = on_wire (wire_back r.client r.window r.aliases) r.line.up (backs r r.line.up k.taken.up k.fine.line.up);
  old = on_wire (wire_back r.client r.window r.aliases) r.line.old (backs r r.line.old k.taken.old k.fine.line.old);
}
view_taken None None h k = record { up = tt; old = tt }

-- packets that are taken ask well
pub input_well : (o : Option ℕ) (ps : List Packet) → AllByRecursion IsTaken ps → IsWellIf (input_on o ps)
input_well None ps h = tt
input_well (Some n) [] h = tt
input_well (Some n) (p ∷ ps) h = record { taken = h.0; tells = tt }

-- so does a lost line
pub lost_well : (o : Option ℕ) → IsWellIf (lost_on o)
lost_well None = tt
lost_well (Some n) = record { taken = tt; tells = tt }

-- and a pump
pub pump_well : (o : Option ℕ) → IsWellIf (pump_on o)
pump_well None = tt
pump_well (Some n) = record { taken = tt; tells = tt }

-- ---- of a stranger

-- bytes behind bytes are bytes
pub bytes_append : (xs ys : List ℕ) → AreBytes xs → AreBytes ys → AreBytes (xs ++ ys)
bytes_append xs ys h k i = elim (cases_lt i (length xs)) [
  | inl lt ↦ rw (get_or_append_left xs ys 0 i lt) (h i)
  | inr ge ↦ rw (get_or-append_right xs ys (length xs) i 0 refl ge) (k (i - length xs))
]

-- none are bytes
pub no_bytes : AreBytes []
no_bytes i = omega arith

-- what passes the test is bytes
pub tested_bytes : (bytes : List ℕ) → are_bytes bytes ≡ true → AreBytes bytes
tested_bytes [] said i = no_bytes i
tested_bytes (b ∷ bytes) said zero = ltb-true b 256 (two (nat_lt b 256) (are_bytes bytes) said).0
tested_bytes (b ∷ bytes) said (suc i) = tested_bytes bytes (two (nat_lt b 256) (are_bytes bytes) said).1 i

-- so what is not bad to send is bytes
pub said_bytes : (name bytes : List ℕ) (w : World) → is_bad_asking (stranger name bytes) w ≡ false → AreBytes bytes
said_bytes name bytes w good = tested_bytes bytes (good_bytes name bytes w good).0

held_bytes : (f : Front) (bytes : List ℕ) → AreBytes bytes → AreBytes (held_by f bytes)
held_bytes (Ok None) bytes h = h
held_bytes (Ok (Some x)) bytes h = IsBytes-drop x.1 bytes h
held_bytes (Err fault) bytes h = no_bytes

-- what is left of bytes is bytes
pub after_bytes : (bytes : List ℕ) → AreBytes bytes → AreBytes (held_after bytes)
after_bytes bytes h = held_bytes (first_of bytes) bytes h

-- a packet that is whole is lawful, and no longer than a packet may be
whole_taken : (bytes : List ℕ) (packet : Packet) (n : ℕ) → AreBytes bytes → first_of bytes ≡ Ok (Some (packet, n)) → IsTaken packet
whole_taken bytes packet n each e =
    let spells = first_spells bytes packet n each e in
    let within = first_within bytes packet n e in
    let has = spelled_has packet (take n bytes) spells.0 in
    record { spelled = has.0; short = omega (arith, has.1, spells.1, length-take-le n bytes within.0) }

first_well : (line : ℕ) (bytes : List ℕ) (f : Front) → AreBytes bytes → first_of bytes ≡ f → IsWellIf (call_by line bytes f)
first_well line bytes (Ok None) each e = tt
first_well line bytes (Ok (Some x)) each e = record { taken = whole_taken bytes x.0 x.1 each e; tells = tt }
first_well line bytes (Err fault) each e = record { taken = tt; tells = (fault, refl) }

on_line_well : (o : Option ℕ) (held : List ℕ) → AreBytes held → IsWellIf (call_on o held)
on_line_well None held each = tt
on_line_well (Some n) held each = first_well n held (first_of held) each refl

-- a stranger's bytes ask well
pub stranger_well : (o : Option Stranger) → OnEnd HoldsBytes o → IsWellIf (call_of_stranger o)
stranger_well None h = tt
stranger_well (Some s) h = on_line_well s.number s.held h
