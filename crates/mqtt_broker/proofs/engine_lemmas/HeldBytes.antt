-- What a line holds stays bytes, and what it asks for is lawful.
use Rattle.std.proofs.Common.{◌≡◌, ℕ, ◌-◌, false, List, [], ◌++◌, length, take, refl, ap, sym, subst, inl, inr, arith}
use Rattle.std.proofs.lemmas.Bool.{cases_lt}
use Rattle.std.proofs.lemmas.List.{length-take-le, get_or_append_left, get_or-append_right}
use Rattle.std.specs.Prelude.{Some, None, Result, Ok, Err, OnOk, OnErr}
use Rattle.mqtt_packet.specs.declared.codec.packet.Packet.{Packet}
use Rattle.mqtt_packet.proofs.codec_lemmas.ShortestLemmas.{spelled_has}
use Rattle.mqtt_base.proofs.Steps.{IsBytes-drop, IsBytes-take}
use Rattle.mqtt_packet.specs.stream.Front.{first_of, size_at}
use Rattle.mqtt_packet.specs.stream.Stream.{Framing}
use Rattle.mqtt_packet.proofs.stream_lemmas.Fronts.{first_within}
use Rattle.mqtt_packet.proofs.stream_lemmas.Wholes.{first_spells}
use Rattle.mqtt_records.specs.lists.Order.{row_at}
use Rattle.mqtt_rules.specs.step.Contents.{IsTaken}
use Rattle.mqtt_rules.specs.step.Piece.{Front, bytes_taken, fed, first_call, is_whole, without_by, without_first}
use Rattle.mqtt_broker.specs.engine.Framers.{AreBytes, HeldLine, framing_at, framing_of, given_back, line_of}

-- what a row that is found holds
pub framing_found : (line : ℕ) (h : HeldLine) (xs : List HeldLine) → row_at line_of line xs ≡ Some h → framing_at line xs ≡ h.framing
framing_found line h xs found = ap framing_of found

-- ---- bytes stay bytes

append_bytes : (xs ys : List ℕ) → AreBytes xs → AreBytes ys → AreBytes (xs ++ ys)
append_bytes xs ys h k i = elim (cases_lt i (length xs)) [
  | inl lt ↦ rw (get_or_append_left xs ys 0 i lt) (h i)
  | inr ge ↦ rw (get_or-append_right xs ys (length xs) i 0 refl ge) (k (i - length xs))
]

-- what is held behind a piece are bytes
pub fed_bytes : (piece : List ℕ) (f : Framing) → AreBytes f.held → AreBytes piece → AreBytes (fed piece f).held
fed_bytes piece f h k = append_bytes f.held (take (bytes_taken f.held piece) piece) h (IsBytes-take (bytes_taken f.held piece) piece k)

-- if bytes were taken, and if none were
pub taken_bytes : {E : Type 0} (piece : List ℕ) (old new : Framing) (r : Result ℕ E) → OnOk r (new ≡ fed piece old) → OnErr r (new ≡ old) → AreBytes old.held → AreBytes piece → AreBytes new.held
taken_bytes piece old new (Ok n) ok err h k = subst (λ (f : Framing). AreBytes f.held) (sym ok) (fed_bytes piece old h k)
taken_bytes piece old new (Err e) ok err h k = subst (λ (f : Framing). AreBytes f.held) (sym err) h

-- what is held once some were given back is bytes
pub back_bytes : (count : ℕ) (f : Framing) → AreBytes f.held → AreBytes (given_back count f).held
back_bytes count f h = IsBytes-take (length f.held - count) f.held h

without_bytes : (f : Framing) (r : Front) → AreBytes f.held → AreBytes (without_by r f).held
without_bytes f (Ok None) h = h
without_bytes f (Ok (Some x)) h = IsBytes-drop x.1 f.held h
without_bytes f (Err fault) h = h

-- and when the first packet is gone
pub first_bytes : (f : Framing) → AreBytes f.held → AreBytes (without_first f).held
first_bytes f h = without_bytes f (first_of f.held) h

-- nothing is whole if nothing is held
pub nothing_whole : false ≡ is_whole (first_of [])
unfolding first_of size_at
nothing_whole = refl

-- and nothing is asked
pub nothing_asked : (line : ℕ) → first_call line [] ≡ None
unfolding first_of size_at
nothing_asked line = refl

-- a packet that is whole is lawful, and no longer than a packet may be
pub first_taken : (bytes : List ℕ) (packet : Packet) (n : ℕ) → AreBytes bytes → first_of bytes ≡ Ok (Some (packet, n)) → IsTaken packet
first_taken bytes packet n each e =
    let spells = first_spells bytes packet n each e in
    let within = first_within bytes packet n e in
    let has = spelled_has packet (take n bytes) spells.0 in
    record { spelled = has.0; short = omega (arith, has.1, spells.1, length-take-le n bytes within.0) }
