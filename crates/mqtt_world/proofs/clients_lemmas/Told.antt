-- Packets of the broker are told one by one.
use Rattle.std.proofs.Common.{◌≡◌, sym, ap, ◌∙◌, ℕ, ◌+◌, ◌<◌, ◌≤◌, List, [], ◌∷◌, ◌++◌, drop, length, get_or, refl, subst, inl, inr, arith}
use Rattle.std.proofs.Common.{add-one, append_assoc, drop-cons}
use Rattle.std.specs.Prelude.{Result, OnOk, Bool, true, false, cond, filter_map, map, nat_eq, Option, None, Some}
use Rattle.std.specs.List.{AllByRecursion}
use Rattle.std.proofs.lemmas.Bool.{cases_Bool}
use Rattle.std.proofs.lemmas.List.{append-nil, drop_all, get_or-map, length-map}
use Rattle.std.proofs.lemmas.Result.{on_ok_weaker}
use Rattle.mqtt_packet.specs.declared.codec.packet.Packet.{Packet}
use Rattle.mqtt_packet.specs.declared.codec.packet.Packet.TheVariants.{Pingreq}
use Rattle.mqtt_packet.specs.codec.Packets.{HasSpelling, shortest_of}
use Rattle.mqtt_rules.specs.step.State.{Broker}
use Rattle.mqtt_rules.specs.step.Step.{Outcome}
use Rattle.mqtt_rules.specs.telling.Meaning.{after_reading, after_reading_all, on_line}
use Rattle.mqtt_world_laws.specs.knowing.Knowing.{AllReadAs, IsUnderstood, IsUnderstoodOn, as_read}
use Rattle.mqtt_world_model.specs.model.Lines.{Down, Line, copy_in, down_on, known_by, sent_to}
use Rattle.mqtt_world.specs.clients.Telling.{AreSpelled, HaveSpellings, spelled, with_all_read, with_read, with_told}

abbrev as_sent : ℕ × Packet → ℕ × List ℕ
as_sent x = (x.0, shortest_of x.1)

-- a packet that is meant, with its copy
abbrev tagged : ℕ → Broker → Packet → Down
tagged n b packet = record { packet = packet; copy = copy_in n b packet }

-- the packets on a line have spellings
abbrev pub SpelledOn : ℕ → List (ℕ × Packet) → Type 0
SpelledOn n packets = AllByRecursion HasSpelling (on_line n packets)

-- ---- one packet

-- nothing more is under way if nothing is read
none_read : {U : Type 0} (n : ℕ) (b : Broker) (l : Line U) → with_all_read n b [] [] l ≡ l
none_read n b l = ap (λ (down : List Down). record l { down = down }) (append-nil l.down)

-- a packet for the line is read alone
pub one_read : {U X E : Type 0} (r : Result X E) (n : ℕ) (b : Broker) (x : ℕ × Packet) (meant : List Packet) (l after : Line U)
    → nat_eq x.0 n ≡ true → SpelledOn n (x ∷ []) → AllReadAs l.known (on_line n (x ∷ [])) meant
    → ((m : Packet) → HasSpelling x.1 → as_read l.known x.1 ≡ Some m → OnOk r (after ≡ with_read n b x.1 m l))
    → OnOk r (after ≡ with_all_read n b (on_line n (x ∷ [])) meant l)
one_read r n b x meant l after here spelled reads told = by (nat_eq x.0 n) meant here spelled reads
  where
    by : (t : Bool) (ms : List Packet) → t ≡ true → AllByRecursion HasSpelling (cond t (x.1 ∷ []) []) → AllReadAs l.known (cond t (x.1 ∷ []) []) ms
        → OnOk r (after ≡ with_all_read n b (cond t (x.1 ∷ []) []) ms l)
    by true [] is all each = absurd each
    by true (m ∷ []) is all each = told m all.0 each.0
    by true (m ∷ more ∷ ms) is all each = absurd each.1
    by false ms is all each = absurd cc

-- and one for another line is not
pub other_read : {U : Type 0} (n : ℕ) (b : Broker) (x : ℕ × Packet) (meant : List Packet) (l : Line U)
    → nat_eq x.0 n ≡ false → AllReadAs l.known (on_line n (x ∷ [])) meant
    → l ≡ with_all_read n b (on_line n (x ∷ [])) meant l
other_read n b x meant l other reads = by (nat_eq x.0 n) meant other reads
  where
    by : (t : Bool) (ms : List Packet) → t ≡ false → AllReadAs l.known (cond t (x.1 ∷ []) []) ms
        → l ≡ with_all_read n b (cond t (x.1 ∷ []) []) ms l
    by true ms is each = absurd cc
    by false [] is each = sym (none_read n b l)
    by false (m ∷ ms) is each = absurd each

-- ---- all of them, one by one

-- of all packets and all that was meant so much is left once the line is as it is now: it is read so, and then all was read
pub record IsLeft {U : Type 0} (n : ℕ) (b : Broker) (packets : List (ℕ × Packet)) (meant : List Packet) (l : Line U) (rest : List (ℕ × Packet)) (now : Line U)
    : Type 0 where
  pub left : List Packet
  pub spelled : SpelledOn n rest
  pub reads : AllReadAs now.known (on_line n rest) left
  pub same : with_all_read n b (on_line n rest) left now ≡ with_all_read n b (on_line n packets) meant l

-- first all are left
pub all_left : {U : Type 0} (n : ℕ) (b : Broker) (packets : List (ℕ × Packet)) (meant : List Packet) (l : Line U)
    → SpelledOn n packets → AllReadAs l.known (on_line n packets) meant → IsLeft n b packets meant l packets l
all_left n b packets meant l spelled reads = record { left = meant; spelled = spelled; reads = reads; same = refl }

-- in the end none is
pub none_left : {U : Type 0} (n : ℕ) (b : Broker) (packets : List (ℕ × Packet)) (meant : List Packet) (l now : Line U)
    → IsLeft n b packets meant l [] now → now ≡ with_all_read n b (on_line n packets) meant l
none_left n b packets meant l now h = by h.left h.reads h.same
  where
    by : (ms : List Packet) → AllReadAs now.known [] ms → with_all_read n b [] ms now ≡ with_all_read n b (on_line n packets) meant l
        → now ≡ with_all_read n b (on_line n packets) meant l
    by [] each same = sym (none_read n b now) ∙ same
    by (m ∷ ms) each same = absurd each

-- the first of the rest is told
one_less : {U : Type 0} (n : ℕ) (b : Broker) (packets : List (ℕ × Packet)) (meant : List Packet) (l : Line U) (x : ℕ × Packet) (rest : List (ℕ × Packet)) (now after : Line U)
    → IsLeft n b packets meant l (x ∷ rest) now
    → ((ms : List Packet) → SpelledOn n (x ∷ []) → AllReadAs now.known (on_line n (x ∷ [])) ms → after ≡ with_all_read n b (on_line n (x ∷ [])) ms now)
    → IsLeft n b packets meant l rest after
one_less n b packets meant l x rest now after h told = by (nat_eq x.0 n) h.left h.spelled h.reads h.same told
  where
    by : (t : Bool) (left : List Packet) → AllByRecursion HasSpelling (cond t (x.1 ∷ on_line n rest) (on_line n rest))
        → AllReadAs now.known (cond t (x.1 ∷ on_line n rest) (on_line n rest)) left
        → with_all_read n b (cond t (x.1 ∷ on_line n rest) (on_line n rest)) left now ≡ with_all_read n b (on_line n packets) meant l
        → ((ms : List Packet) → AllByRecursion HasSpelling (cond t (x.1 ∷ []) []) → AllReadAs now.known (cond t (x.1 ∷ []) []) ms
        → after ≡ with_all_read n b (cond t (x.1 ∷ []) []) ms now)
        → IsLeft n b packets meant l rest after
    by true [] all each same goes = absurd each
    by true (m ∷ ms) all each same goes =
        let is = goes (m ∷ []) (all.0, tt) (each.0, tt) in
        record {
          left = ms;
          spelled = all.1;
          reads = subst (λ (k : Line _). AllReadAs k.known (on_line n rest) ms) (sym is) each.1;
          same = ap (with_all_read n b (on_line n rest) ms) is
              ∙ (ap (λ (down : List Down). record now { down = down; known = after_reading_all (after_reading now.known x.1) (on_line n rest) })
              (append_assoc now.down (tagged n b m ∷ []) (map (tagged n b) ms)) ∙ same);
        }
    by false left all each same goes =
        let is = goes [] tt tt ∙ none_read n b now in
        record {
          left = left;
          spelled = all;
          reads = subst (λ (k : Line _). AllReadAs k.known (on_line n rest) left) (sym is) each;
          same = ap (with_all_read n b (on_line n rest) left) is ∙ same;
        }

-- one more of them is
pub one_more_told : {U : Type 0} (n : ℕ) (b : Broker) (packets : List (ℕ × Packet)) (meant : List Packet) (outputs : List (ℕ × List ℕ)) (i : ℕ) (item : ℕ × List ℕ) (l now after : Line U)
    → outputs ≡ spelled packets → i < length outputs → item ≡ get_or outputs i item
    → IsLeft n b packets meant l (drop i packets) now
    → ((x : ℕ × Packet) (ms : List Packet) → SpelledOn n (x ∷ []) → item ≡ (x.0, shortest_of x.1) → AllReadAs now.known (on_line n (x ∷ [])) ms
    → after ≡ with_all_read n b (on_line n (x ∷ [])) ms now)
    → IsLeft n b packets meant l (drop (i + 1) packets) after
one_more_told n b packets meant outputs i item l now after are within at left told =
    let none : ℕ × Packet = (0, Pingreq) in
    let x = get_or packets i none in
    let long : length outputs ≡ length packets = ap length are ∙ length-map packets as_sent in
    let inside : i < length packets = omega (arith, long) in
    let here : item ≡ as_sent x =
    at ∙ (ap (λ (os : List (ℕ × List ℕ)). get_or os i item) are ∙ get_or-map as_sent packets i none item inside) in
    let next : drop i packets ≡ x ∷ drop (i + 1) packets = rw (add-one, drop-cons packets i none) refl in
    one_less n b packets meant l x (drop (i + 1) packets) now after (subst (λ (ps : List (ℕ × Packet)). IsLeft n b packets meant l ps now) next left)
    (λ ms spelling reads. told x ms spelling here reads)

-- all of them are
pub all_told : {U : Type 0} (n : ℕ) (b : Broker) (packets : List (ℕ × Packet)) (meant : List Packet) (outputs : List (ℕ × List ℕ)) (i : ℕ) (l now : Line U)
    → outputs ≡ spelled packets → length outputs ≤ i → IsLeft n b packets meant l (drop i packets) now
    → now ≡ with_all_read n b (on_line n packets) meant l
all_told n b packets meant outputs i l now are over left =
    let long : length outputs ≡ length packets = ap length are ∙ length-map packets as_sent in
    let gone : drop i packets ≡ [] = drop_all i packets (omega (arith, long)) in
    none_left n b packets meant l now (subst (λ (ps : List (ℕ × Packet)). IsLeft n b packets meant l ps now) gone left)

-- ---- what goes out to an end

-- what is under way on a line is told by the packets on it
down_of : (n : ℕ) (b : Broker) (packets : List (ℕ × Packet)) → map (tagged n b) (on_line n packets) ≡ filter_map (down_on n b) packets
down_of n b [] = refl
down_of n b (x ∷ packets) = elim (cases_Bool (nat_eq x.0 n)) [
  | inl here ↦ rw here (ap (λ (ds : List Down). tagged n b x.1 ∷ ds) (down_of n b packets))
  | inr other ↦ rw other (down_of n b packets)
]

-- what has a spelling has one on the line too
spelled_on : (n : ℕ) (packets : List (ℕ × Packet)) → HaveSpellings packets → SpelledOn n packets
spelled_on n [] h = tt
spelled_on n (x ∷ packets) h = by (nat_eq x.0 n) (spelled_on n packets h.1)
  where
    by : (t : Bool) → SpelledOn n packets → AllByRecursion HasSpelling (cond t (x.1 ∷ on_line n packets) (on_line n packets))
    by true rest = (h.0, rest)
    by false rest = rest

-- so is a line with what was told, by its number
abbrev with_told_at : {U : Type 0} → Broker → Outcome → Line U → Option ℕ → Line U
with_told_at b out l number = record l { down = l.down ++ sent_to number b out.outputs; known = known_by number out.wires l.known }

-- what is told to the end of a line is read there
pub told_on : {U X E : Type 0} (r : Result X E) (n : ℕ) (b : Broker) (out : Outcome) (l after : Line U)
    → l.number ≡ Some n → AreSpelled out → IsUnderstood out.wires out.outputs l.number l.known
    → (SpelledOn n out.wires → AllReadAs l.known (on_line n out.wires) (on_line n out.outputs)
    → OnOk r (after ≡ with_all_read n b (on_line n out.wires) (on_line n out.outputs) l))
    → OnOk r (after ≡ with_told b out l)
told_on r n b out l after at spelled understood told =
    let h : IsUnderstoodOn n out.wires out.outputs l.known = subst (λ (o : Option ℕ). IsUnderstood out.wires out.outputs o l.known) at understood in
    let same : with_all_read n b (on_line n out.wires) (on_line n out.outputs) l ≡ with_told b out l =
    ap (λ (down : List Down). record l { down = l.down ++ down; known = after_reading_all l.known (on_line n out.wires) }) (down_of n b out.outputs)
    ∙ ap (with_told_at b out l) (sym at) in
    on_ok_weaker r (λ is. is ∙ same) (told (h.spelled (spelled_on n out.outputs spelled)) h.reads)

-- and to an end without one nothing is
pub told_none : {U : Type 0} (b : Broker) (out : Outcome) (l : Line U) → l.number ≡ None → l ≡ with_told b out l
told_none b out l at = sym (ap (λ (down : List Down). record l { down = down }) (append-nil l.down)) ∙ ap (with_told_at b out l) (sym at)
