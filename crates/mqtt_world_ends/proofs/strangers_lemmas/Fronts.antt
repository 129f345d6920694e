-- The first bytes decide what all of them begin with.
use Rattle.std.proofs.Common.{◌≡◌, ◌≤◌, ℕ, List, ◌++◌, length, take, drop, Some, None, sym, ap, ◌∙◌, arith, inl, inr, append_assoc}
use Rattle.std.specs.Prelude.{◌⊎◌, Ok, Err}
use Rattle.std.proofs.lemmas.List.{length-take, take-append-drop, take_all}
use Rattle.std.proofs.Math.Seq.{take-append_seam}
use Rattle.mqtt_base.specs.declared.limits.TheConstants.{PACKET_LIMIT}
use Rattle.mqtt_packet.specs.declared.parts.fault.Fault.{Fault}
use Rattle.mqtt_packet.specs.declared.codec.packet.Packet.{Packet}
use Rattle.mqtt_packet.specs.stream.Front.{first_of}
use Rattle.mqtt_packet.proofs.stream_lemmas.Fronts.{first_stays, first_within}
use Rattle.mqtt_packet.proofs.stream_lemmas.Shorter.{first_less}
use Rattle.mqtt_world_ends.specs.strangers.Fronts.{BeginsFaulty, BeginsWhole, Decides}

-- ---- bytes that are fed

-- more of them behind the first
pub fed_first : (held bytes : List ℕ) (n len : ℕ) → held ≡ take (length held) bytes
    → held ++ take n (take len (drop (length held) bytes))
    ≡ take (length (held ++ take n (take len (drop (length held) bytes)))) bytes
fed_first held bytes n len first =
    let rest = drop (length held) bytes in
    let piece = take n (take len rest) in
    let more = drop n (take len rest) ++ drop len rest in
    let parts : piece ++ more ≡ rest =
    sym (append_assoc piece (drop n (take len rest)) (drop len rest))
    ∙ (ap (λ (xs : List ℕ). xs ++ drop len rest) (take-append-drop n (take len rest)) ∙ take-append-drop len rest) in
    let joined : held ++ piece ++ more ≡ bytes =
    append_assoc held piece more
    ∙ (ap (λ (xs : List ℕ). held ++ xs) parts
    ∙ (ap (λ (xs : List ℕ). xs ++ rest) first ∙ take-append-drop (length held) bytes)) in
    sym (take-append_seam (held ++ piece) more) ∙ ap (take (length (held ++ piece))) joined

-- all of them
pub all_decide : (held bytes : List ℕ) → held ≡ take (length held) bytes → length bytes ≤ length held → length held ≤ PACKET_LIMIT
    → Decides held bytes
all_decide held bytes first all within =
    record { first = first; same = ap first_of (sym (first ∙ take_all (length held) bytes all)); within = within }

-- so many that something is whole
pub some_decide : (held bytes : List ℕ) → held ≡ take (length held) bytes → (first_of held ≡ Ok None → ⊥) → length held ≤ PACKET_LIMIT
    → Decides held bytes
some_decide held bytes first some within = by (first_stays held (drop (length held) bytes))
  where
    joined : held ++ drop (length held) bytes ≡ bytes
    joined = ap (λ (xs : List ℕ). xs ++ drop (length held) bytes) first ∙ take-append-drop (length held) bytes

    by : (first_of held ≡ Ok None) ⊎ (first_of (held ++ drop (length held) bytes) ≡ first_of held) → Decides held bytes
    by (inl none) = absurd (some none)
    by (inr same) = record { first = first; same = ap first_of (sym joined) ∙ same; within = within }

-- ---- what they decide

-- bytes that end a whole packet begin with so many of it
pub whole_front : (held bytes : List ℕ) (packet : Packet) (n : ℕ) → Decides held bytes → first_of held ≡ Ok (Some (packet, n))
    → BeginsWhole bytes n
whole_front held bytes packet n d e =
    let is : first_of bytes ≡ Ok (Some (packet, n)) = d.same ∙ e in
    let size = first_within held packet n e in
    record {
      packet = packet;
      is = is;
      alone = first_less bytes packet n n is (omega arith);
      some = size.1;
      inside = (first_within bytes packet n is).0;
      within = omega (arith, size.0, d.within);
    }

-- bytes that end a faulty one begin with a fault
pub faulty_front : (held bytes : List ℕ) (fault : Fault) → Decides held bytes → first_of held ≡ Err fault
    → BeginsFaulty bytes (length held)
faulty_front held bytes fault d e = record {
  fault = fault;
  is = d.same ∙ e;
  alone = ap first_of (sym d.first) ∙ e;
  inside = omega (arith, ap length d.first, length-take (length held) bytes);
  within = d.within;
}
