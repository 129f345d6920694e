-- Each event comes to some steps: bytes are cut behind each packet.
use Rattle.std.proofs.Common.{◌≡◌, ◌≤◌, ◌<◌, ℕ, zero, suc, List, [], ◌∷◌, ◌++◌, length, map, take, drop, Some, None, refl, sym, ap, subst}
use Rattle.std.proofs.Common.{◌∙◌, arith, inl, inr, append_assoc, length-drop}
use Rattle.std.specs.Prelude.{◌⊎◌, Ok, Err}
use Rattle.std.specs.List.{concat}
use Rattle.std.proofs.lemmas.Bool.{cases_lt}
use Rattle.std.proofs.lemmas.List.{append-nil, append_cancel_left, drop_all, length-take-le, take-append-drop}
use Rattle.mqtt_packet.specs.declared.codec.packet.Packet.{Packet}
use Rattle.mqtt_packet.specs.stream.Front.{first_of}
use Rattle.mqtt_packet.proofs.stream_lemmas.Fronts.{first_within}
use Rattle.mqtt_packet.proofs.stream_lemmas.Shorter.{first_less}
use Rattle.mqtt_rules.specs.step.Piece.{Front}
use Rattle.mqtt_world_model.specs.model.World.{Asking, Event, World, ask, break, bytes_held, clock, connect_end, give_up, held_after}
use Rattle.mqtt_world_model.specs.model.World.{held_by as held_behind, old_to_broker, publish, publisher, pump, receiver, restart, stop_after}
use Rattle.mqtt_world_model.specs.model.World.{stop_before, stranger, stranger_named, subscribe, tick, to_broker, to_end}
use Rattle.mqtt_world_model.specs.single_steps.Unrolled.{AreCut, HoldNoPacket, IsDecided, IsFound, Unrolls, UnrollsAsking, UnrollsStop}
use Rattle.mqtt_world_model.specs.single_steps.Unrolled.{bytes_come, come_in}
use Rattle.mqtt_world_model.proofs.single_steps_lemmas.Answered.{not_both, nothing_first}

-- ---- the front of bytes

take_front : (xs ys : List ℕ) → take (length xs) (xs ++ ys) ≡ xs
take_front [] ys = refl
take_front (x ∷ xs) ys = ap (λ (zs : List ℕ). x ∷ zs) (take_front xs ys)

front_of_taken : (n : ℕ) (xs ys : List ℕ) → length xs ≤ n → take (length xs) (take n (xs ++ ys)) ≡ xs
front_of_taken n [] ys within = refl
front_of_taken zero (x ∷ xs) ys within = absurd (omega arith)
front_of_taken (suc n) (x ∷ xs) ys within = ap (λ (zs : List ℕ). x ∷ zs) (front_of_taken n xs ys (omega arith))

-- bytes up to the end of the packet at the front, and those behind it
record Parts (held bytes : List ℕ) (packet : Packet) : Type 0 where
  part : List ℕ
  more : List ℕ
  joined : part ++ more ≡ bytes
  whole : first_of (held ++ part) ≡ Ok (Some (packet, length (held ++ part)))
  less : length more < length (held ++ bytes)

parts : (held bytes : List ℕ) (packet : Packet) (n : ℕ) → first_of held ≡ Ok None → first_of (held ++ bytes) ≡ Ok (Some (packet, n))
    → Parts held bytes packet
parts held bytes packet n none e = by (cases_lt n (length held))
  where
    all : List ℕ
    all = held ++ bytes

    size : (n ≤ length (held ++ bytes)) × (0 < n)
    size = first_within (held ++ bytes) packet n e

    by : (n < length held) ⊎ (length held ≤ n) → Parts held bytes packet
    by (inl short) =
        let found : first_of held ≡ Ok (Some (packet, n)) =
        ap first_of (sym (take_front held bytes)) ∙ first_less (held ++ bytes) packet n (length held) e (omega arith) in
        absurd (not_both (first_of held) packet n none found)
    by (inr long) =
        let front = take n (held ++ bytes) in
        let part = drop (length held) front in
        let more = drop n (held ++ bytes) in
        let is : held ++ part ≡ front =
        ap (λ (xs : List ℕ). xs ++ part) (sym (front_of_taken n held bytes long)) ∙ take-append-drop (length held) front in
        let size_is : length front ≡ n = length-take-le n (held ++ bytes) size.0 in
        let found : first_of front ≡ Ok (Some (packet, n)) = first_less (held ++ bytes) packet n n e (omega arith) in
        record {
          part = part;
          more = more;
          joined = append_cancel_left held (part ++ more) bytes
              (sym (append_assoc held part more) ∙ (ap (λ (xs : List ℕ). xs ++ more) is ∙ take-append-drop n (held ++ bytes)));
          whole = ap first_of is ∙ (found ∙ ap (λ (k : ℕ). Ok (Some (packet, k))) (sym (ap length is ∙ size_is)));
          less = omega (arith, length-drop n (held ++ bytes), size.0, size.1);
        }

-- ---- pieces

Pieces : List ℕ → List ℕ → Type 0
Pieces held bytes = (pieces : List (List ℕ)) × (concat pieces ≡ bytes) × AreCut held pieces

alone : (held bytes : List ℕ) → first_of (held_after (held ++ bytes)) ≡ Ok None → Pieces held bytes
unfolding Pieces
alone held bytes none = (bytes ∷ [], append-nil bytes, none)

one_more : (held bytes : List ℕ) (packet : Packet) (p : Parts held bytes packet) → Pieces [] p.more → Pieces held bytes
unfolding Pieces
one_more held bytes packet p ([], joined, cut) = absurd cut
one_more held bytes packet p (next ∷ more, joined, cut) =
    (p.part ∷ next ∷ more, ap (λ (xs : List ℕ). p.part ++ xs) joined ∙ p.joined, ((packet, p.whole), cut))

pieces_of : (n : ℕ) (held bytes : List ℕ) → length (held ++ bytes) < n → first_of held ≡ Ok None → Pieces held bytes
pieces_of zero held bytes within none = absurd (omega arith)
pieces_of (suc n) held bytes within none = by (λ (more : List ℕ) (less : length more < n). pieces_of n [] more less nothing_first) (first_of (held ++ bytes)) refl
  where
    by : ((more : List ℕ) → length more < n → Pieces [] more) → (f : Front) → first_of (held ++ bytes) ≡ f → Pieces held bytes
    by rest (Ok None) is =
        let same : held_after (held ++ bytes) ≡ held ++ bytes = ap (λ (f : Front). held_behind f (held ++ bytes)) is in
        alone held bytes (ap first_of same ∙ is)
    by rest (Ok (Some x)) is =
        let p = parts held bytes x.0 x.1 none is in
        one_more held bytes x.0 p (rest p.more (omega (arith, p.less)))
    by rest (Err fault) is =
        let nothing : held_after (held ++ bytes) ≡ [] = ap (λ (f : Front). held_behind f (held ++ bytes)) is in
        alone held bytes (ap first_of nothing ∙ nothing_first)

-- ---- events

asking_comes : (a : Asking) (w : World) → HoldNoPacket w → (es : List Event) × UnrollsAsking a w es
unfolding Pieces
asking_comes (to_broker client) w h = (ask (to_broker client) ∷ [], refl)
asking_comes (old_to_broker client) w h = (ask (old_to_broker client) ∷ [], refl)
asking_comes (break client) w h = (ask (break client) ∷ [], refl)
asking_comes (pump client) w h = (ask (pump client) ∷ [], refl)
asking_comes tick w h = (ask tick ∷ [], refl)
asking_comes (stranger name bytes) w h =
    let held = bytes_held (stranger_named name w) in
    let p = pieces_of (suc (length (held ++ bytes))) held bytes (omega arith) (h name) in
    (map (come_in name) p.0, (p.0, p.1, p.2, refl))

stop_comes : (a : Asking) (w : World) → HoldNoPacket w → (es : List Event) × UnrollsStop a w es
stop_comes (to_broker client) w h = (ask (to_broker client) ∷ restart ∷ [], refl)
stop_comes (old_to_broker client) w h = (ask (old_to_broker client) ∷ restart ∷ [], refl)
stop_comes (break client) w h = (ask (break client) ∷ restart ∷ [], refl)
stop_comes (pump client) w h = (ask (pump client) ∷ restart ∷ [], refl)
stop_comes tick w h = (ask tick ∷ restart ∷ [], refl)
stop_comes (stranger name bytes) w h = by (first_of (bytes_come name bytes w)) refl
  where
    whole : first_of (held_after (bytes_come name bytes w)) ≡ Ok None → (es : List Event) × UnrollsStop (stranger name bytes) w es
    whole none = (come_in name bytes ∷ restart ∷ [], (bytes, [], append-nil bytes, inl refl, none, refl))

    by : (f : Front) → first_of (bytes_come name bytes w) ≡ f → (es : List Event) × UnrollsStop (stranger name bytes) w es
    by (Ok None) is =
        let same : held_after (bytes_come name bytes w) ≡ bytes_come name bytes w = ap (λ (f : Front). held_behind f (bytes_come name bytes w)) is in
        whole (ap first_of same ∙ is)
    by (Ok (Some x)) is =
        let held = bytes_held (stranger_named name w) in
        let p = parts held bytes x.0 x.1 (h name) is in
        let front = held ++ p.part in
        let decided : IsDecided front = subst IsFound (sym p.whole) tt in
        let nothing : held_after front ≡ [] =
        ap (λ (f : Front). held_behind f front) p.whole ∙ drop_all (length front) front (omega arith) in
        (come_in name p.part ∷ restart ∷ [], (p.part, p.more, p.joined, inr decided, ap first_of nothing ∙ nothing_first, refl))
    by (Err fault) is =
        let nothing : held_after (bytes_come name bytes w) ≡ [] = ap (λ (f : Front). held_behind f (bytes_come name bytes w)) is in
        whole (ap first_of nothing ∙ nothing_first)

-- each event comes to a list of events of one step each
pub event_comes : (e : Event) (w : World) → HoldNoPacket w → (es : List Event) × Unrolls e w es
event_comes (publisher client) w h = (publisher client ∷ [], refl)
event_comes (receiver client window aliases) w h = (receiver client window aliases ∷ [], refl)
event_comes (connect_end client clean) w h = (connect_end client clean ∷ [], refl)
event_comes (give_up client) w h = (give_up client ∷ [], refl)
event_comes (publish client d) w h = (publish client d ∷ [], refl)
event_comes (subscribe client x) w h = (subscribe client x ∷ [], refl)
event_comes (to_end client) w h = (to_end client ∷ [], refl)
event_comes (clock wait) w h = (clock wait ∷ [], refl)
event_comes (ask a) w h = asking_comes a w h
event_comes restart w h = (restart ∷ [], refl)
event_comes (stop_before a) w h = (stop_before a ∷ [], refl)
event_comes (stop_after a) w h = stop_comes a w h
