-- What the calls of a framer come to, and the moments at which a fault stands.
use Rattle.std.proofs.Common.{◌≡◌, ℕ, ◌+◌, ◌-◌, ◌<◌, List, [], ◌∷◌, ◌++◌, length, None, Some, Ok, Err, refl, sym, ap, subst, append_assoc, append-nil, arith}
use Rattle.std.proofs.lemmas.Bool.{lt-ltb}
use Rattle.mqtt_base.specs.declared.fault.ReadFault.TheVariants.{Overlong}
use Rattle.mqtt_base.specs.Reading.{varint_at}
use Rattle.mqtt_packet.specs.declared.parts.fault.Fault.{Fault}
use Rattle.mqtt_packet.specs.declared.parts.fault.Fault.TheVariants.{Malformed, TooLarge}
use Rattle.mqtt_base.specs.declared.limits.TheConstants.{PACKET_LIMIT}
use Rattle.mqtt_packet.specs.declared.codec.head.Head.{Head}
use Rattle.mqtt_packet.specs.codec.Heads.{head_of}
use Rattle.mqtt_packet.specs.stream.Front.{size_at, first_of}
use Rattle.mqtt_packet.specs.stream.Stream.{Item, IsCut, IsStream, short_at, fault_at, Framing, after, Call, took, gave_back, gave, without_last, IsRun, taken_after, taken_of, given_of, empty}
use Rattle.mqtt_packet.proofs.stream_lemmas.Shorter.{cut_less}
use Rattle.mqtt_packet.proofs.stream_lemmas.Cuts.{cut_more, cut_next, fault_stays}

run_from : (taken : List ℕ) (items : List Item) (f : Framing) (calls : List Call) (g : Framing) → IsCut 0 taken items f.place f.held → IsRun f calls g
    → IsCut 0 (taken_after taken calls) (items ++ given_of calls) g.place g.held
run_from taken items f [] g c r =
    let here = subst (λ (h : Framing). IsCut 0 taken items h.place h.held) (sym r) c in
    subst (λ (xs : List Item). IsCut 0 taken xs g.place g.held) (sym (append-nil items)) here
run_from taken items f (took piece ∷ calls) g c r =
    run_from (taken ++ piece) items (record { held = f.held ++ piece; place = f.place }) calls g (cut_more 0 taken items f.place f.held piece c) r
run_from taken items f (gave_back n ∷ calls) g c r =
    run_from (without_last n taken) items (record { held = without_last n f.held; place = f.place }) calls g (cut_less n 0 taken items f.place f.held c r.0) r.1
run_from taken items f (gave i ∷ calls) g c r =
    let next = cut_next 0 taken items f.place f.held i.packet i.size c r.1 in
    let at : record { place = f.place; size = i.size; packet = i.packet } ≡ i =
    ap (λ (p : ℕ). let j : Item = record { place = p; size = i.size; packet = i.packet } in j) (sym r.0) in
    let same = subst (λ (j : Item). IsCut 0 taken (items ++ j ∷ []) (after i.size f).place (after i.size f).held) at next in
    let more = run_from taken (items ++ i ∷ []) (after i.size f) calls g same r.2 in
    subst (λ (xs : List Item). IsCut 0 (taken_after taken calls) xs g.place g.held) (append_assoc items (i ∷ []) (given_of calls)) more

-- what a framer gives is a cut of what it took
pub run_cut : (calls : List Call) (f : Framing) → IsRun empty calls f → IsCut 0 (taken_of calls) (given_of calls) f.place f.held
run_cut calls f r = run_from [] [] empty calls f (refl, refl) r

-- a framer that waits has given the whole stream but for what it holds
pub run_waits : (calls : List Call) (f : Framing) → IsRun empty calls f → first_of f.held ≡ Ok None → IsStream (taken_of calls) (given_of calls) (short_at f.place f.held)
run_waits calls f r e = (f.place, f.held, run_cut calls f r, (refl, refl, e))

-- one that meets a fault has given all before it
pub run_fault : (calls : List Call) (f : Framing) (fault : Fault) (more : List ℕ) → IsRun empty calls f → first_of f.held ≡ Err fault
    → IsStream (taken_of calls ++ more) (given_of calls) (fault_at f.place fault)
run_fault calls f fault more r e =
    (f.place, f.held ++ more, cut_more 0 (taken_of calls) (given_of calls) f.place f.held more (run_cut calls f r), (refl, fault_stays f.held more fault e))

-- ---- the moments at which a fault stands

-- a first byte without a meaning is a fault at once
pub at_first_byte : (b : ℕ) → head_of b ≡ None → first_of (b ∷ []) ≡ Err Malformed
unfolding first_of size_at
at_first_byte b e = rw e refl

-- so is a length of more than four bytes
pub at_overlong : (b : ℕ) (head : Head) (length : List ℕ) → head_of b ≡ Some head → varint_at length ≡ Err Overlong
    → first_of (b ∷ length) ≡ Err Malformed
unfolding first_of size_at
at_overlong b head length e o = rw (e, o) refl

-- and one above the limit
pub at_length : (b n : ℕ) (head : Head) (bytes : List ℕ) → head_of b ≡ Some head → varint_at bytes ≡ Ok (n, [])
    → PACKET_LIMIT < 1 + length bytes + n → first_of (b ∷ bytes) ≡ Err TooLarge
unfolding first_of size_at
at_length b n head bytes e v l =
    let none : List ℕ = [] in
    let above : PACKET_LIMIT < 1 + (length bytes - length none) + n = omega (arith, l) in
    rw (e, v, lt-ltb PACKET_LIMIT (1 + (length bytes - length none) + n) above) refl
