-- Strangers, in the eyes of one publisher: none of their packets is a CONNECT of its client (MQTT 5.0, 3.1.3.1).
use Rattle.std.proofs.Common.{◌≡◌, ℕ, suc, Bool, true, false, cond, ◌||◌, List, [], ◌∷◌, ◌++◌, map, Some, None, refl, sym, ap, ◌∙◌, arith}
use Rattle.std.specs.Prelude.{is_some}
use Rattle.std.specs.List.{AllByRecursion}
use Rattle.mqtt_packet.specs.stream.Front.{first_of}
use Rattle.mqtt_rules.specs.declared.step.Capacity.{Capacity}
use Rattle.mqtt_rules.specs.step.Step.{Call, NewLine, can_link, stepped}
use Rattle.mqtt_world_model.specs.model.World.{Stranger, World, Setting, publisher_named, receiver_named, stranger_named, calls, calls_if, held_after, linked_at, comes, call_of_stranger, next_held, answers_rest, held_count, front_names, bytes_name, bytes_held, is_bad_asking, asks, first_step, stranger}
use Rattle.mqtt_world_model.specs.model.Run.{read_if, read_rest, read_first, read_asked}
use Rattle.mqtt_world_laws.specs.acceptance.Spending.{spending}
use Rattle.mqtt_world_laws.proofs.acceptance_lemmas.copies.Steady.{linking_spends_none}
use Rattle.mqtt_world_laws.proofs.acceptance_lemmas.publishers.Ends.{all_appended}
use Rattle.mqtt_world_laws.proofs.acceptance_lemmas.publishers.StrangerBytes.{changed, all_changed, linked_given, packet_outside, same_cost, rest_keeps, good_bytes, good_then, first_good, comes_held}
use Rattle.mqtt_world_laws.proofs.acceptance_lemmas.publishers.Around.{IsOutOf, IsFree, OtherStranger, Holds, IsOutside, calls_hold, if_holds, if_there}

-- ---- its bytes change nothing of the broker and of the ends

-- the invariant holds on whatever becomes of strangers on lines of others
with_strangers : (c : List ℕ) (limits : Capacity) (his accepted : List ℕ) (w : World) (ss : List Stranger) → Holds c limits his accepted w → AllByRecursion (OtherStranger his w.broker.given) ss
    → Holds c limits his accepted (record w { strangers = ss })
with_strangers c limits his accepted w ss h a = record {
  around = record {
    within = h.around.within;
    steady = h.around.steady;
    known = h.around.known;
    none = h.around.none;
    publishers = h.around.publishers;
    receivers = h.around.receivers;
    strangers = a;
    alone = h.around.alone;
    place = h.around.place;
  };
  him = h.him;
}

-- and so it does as the next packet is cut off
held_holds : (c : List ℕ) (limits : Capacity) (his accepted : List ℕ) (name : List ℕ) (w : World) → Holds c limits his accepted w → Holds c limits his accepted (next_held name w)
held_holds c limits his accepted name w h =
    with_strangers c limits his accepted w (map (changed name (λ (s : Stranger). record s { held = held_after s.held })) w.strangers) h
    (all_changed (OtherStranger his w.broker.given) name (λ (s : Stranger). record s { held = held_after s.held }) w.strangers (λ s q. q) h.around.strangers)

-- ---- it comes

-- and as a line is made
pub linking_holds : (c : List ℕ) (set : Setting) (his accepted : List ℕ) (w : World) → Holds c set.limits his accepted w → Holds c set.limits his accepted (calls set NewLine w)
linking_holds c set his accepted w h = calls_hold c set his accepted NewLine w h (linking_spends_none set.limits set.choice w.now w.broker) (λ there. tt)

-- the next line is no one's
pub next_free : (c : List ℕ) (set : Setting) (his accepted : List ℕ) (w : World) → Holds c set.limits his accepted w → can_link set.limits w.broker ≡ true
    → IsFree his (stepped set.limits set.choice w.now NewLine w.broker).given (Some (suc w.broker.given))
next_free c set his accepted w h can = λ j is.
    let it : suc w.broker.given ≡ j = cc in
    let given = linked_given set w.now w.broker can in
    ((λ among. let le = h.around.known j among in omega (arith, le, it)), omega (arith, it, given))

-- and as its bytes come
pub comes_holds : (c : List ℕ) (set : Setting) (his accepted : List ℕ) (name bytes : List ℕ) (w : World) → Holds c set.limits his accepted w → Holds c set.limits his accepted (comes set name bytes w)
comes_holds c set his accepted name bytes w h = by (is_some (stranger_named name w))
  where
    free : (t : Bool) → can_link set.limits w.broker ≡ t → IsFree his (stepped set.limits set.choice w.now NewLine w.broker).given (cond t (Some (suc w.broker.given)) None)
    free false can = λ j is. absurd cc
    free true can = next_free c set his accepted w h can

    by : (t : Bool) → Holds c set.limits his accepted (linked_at set t name bytes w)
    by true =
        with_strangers c set.limits his accepted w (map (changed name (λ (s : Stranger). record s { held = s.held ++ bytes })) w.strangers) h
        (all_changed (OtherStranger his w.broker.given) name (λ (s : Stranger). record s { held = s.held ++ bytes }) w.strangers (λ s q. q) h.around.strangers)
    by false =
        let linked = linking_holds c set his accepted w h in
        let x : Stranger = record { name = name; number = cond (can_link set.limits w.broker) (Some (suc w.broker.given)) None; held = bytes } in
        with_strangers c set.limits his accepted (calls set NewLine w) (w.strangers ++ x ∷ []) linked
        (all_appended (OtherStranger his (calls set NewLine w).broker.given) w.strangers x linked.around.strangers (free (can_link set.limits w.broker) refl))

-- whoever is there then was there before
comes_there : (c : List ℕ) (set : Setting) (name bytes : List ℕ) (w : World) → is_some (publisher_named c (comes set name bytes w)) ≡ is_some (publisher_named c w)
comes_there c set name bytes w = by (is_some (stranger_named name w))
  where
    by : (t : Bool) → is_some (publisher_named c (linked_at set t name bytes w)) ≡ is_some (publisher_named c w)
    by true = refl
    by false = if_there c set (Some NewLine) w

-- ---- its packets

-- the next of them is a step of others; w is the world in which the bytes came
next_outside : (c : List ℕ) (limits : Capacity) (his accepted : List ℕ) (name : List ℕ) (w v : World) → Holds c limits his accepted v → is_some (publisher_named c v) ≡ is_some (publisher_named c w)
    → front_names (first_of (bytes_held (stranger_named name v))) w ≡ false → is_some (publisher_named c v) ≡ true → (x : Call) → call_of_stranger (stranger_named name v) ≡ Some x → IsOutside his c x
next_outside c limits his accepted name w v h there good found =
    packet_outside c (IsOutOf his) (IsOutside his c) (λ n packet free other. (free, other)) (λ n t code free. free) v.broker.given name w v
    (ap (λ (t : Bool). t || is_some (receiver_named c w)) (sym there ∙ found)) h.around.strangers good

-- all of them are
rest_holds : (more : ℕ) (c : List ℕ) (set : Setting) (his accepted : List ℕ) (name : List ℕ) (w v : World) → Holds c set.limits his accepted v → is_some (publisher_named c v) ≡ is_some (publisher_named c w)
    → bytes_name more (bytes_held (stranger_named name v)) w ≡ false → read_rest spending set more name v ≡ false → Holds c set.limits his accepted (answers_rest set more name v)
rest_holds more c set his accepted name w v h there good unspent =
    (rest_keeps set name w (λ (z : World). Holds c set.limits his accepted z × (is_some (publisher_named c z) ≡ is_some (publisher_named c w))) next more v (h, there) good unspent).0
  where
    next : (z : World) → Holds c set.limits his accepted z × (is_some (publisher_named c z) ≡ is_some (publisher_named c w)) → front_names (first_of (bytes_held (stranger_named name z))) w ≡ false
        → read_if spending set (call_of_stranger (stranger_named name z)) z ≡ false
        → Holds c set.limits his accepted (calls_if set (call_of_stranger (stranger_named name z)) (next_held name z)) × (is_some (publisher_named c (calls_if set (call_of_stranger (stranger_named name z)) (next_held name z))) ≡ is_some (publisher_named c w))
    next z k fine cost =
        let call = call_of_stranger (stranger_named name z) in
        let u = next_held name z in
        (if_holds c set his accepted call u (held_holds c set.limits his accepted name z k.0) (same_cost set name z call cost) (next_outside c set.limits his accepted name w z k.0 k.1 fine), if_there c set call u ∙ k.1)

-- ---- its bytes are answered, whole or the first packet alone

-- and as all of them are answered
pub stranger_holds : (c name bytes : List ℕ) (set : Setting) (his accepted : List ℕ) (w : World) → Holds c set.limits his accepted w → is_bad_asking (stranger name bytes) w ≡ false → read_asked spending set (stranger name bytes) w ≡ false
    → Holds c set.limits his accepted (asks set (stranger name bytes) w)
stranger_holds c name bytes set his accepted w h good unspent =
    let v = comes set name bytes w in
    rest_holds (held_count (stranger_named name v)) c set his accepted name w v (comes_holds c set his accepted name bytes w h) (comes_there c set name bytes w) (good_then set name bytes w good) unspent

-- or only the first packet
pub stranger_first : (c name bytes : List ℕ) (set : Setting) (his accepted : List ℕ) (w : World) → Holds c set.limits his accepted w → is_bad_asking (stranger name bytes) w ≡ false → read_first spending set (stranger name bytes) w ≡ false
    → Holds c set.limits his accepted (first_step set (stranger name bytes) w)
stranger_first c name bytes set his accepted w h good unspent =
    let v = comes set name bytes w in
    let all = bytes_held (stranger_named name w) ++ bytes in
    let v_holds = comes_holds c set his accepted name bytes w h in
    if_holds c set his accepted (call_of_stranger (stranger_named name v)) v v_holds unspent
    (next_outside c set.limits his accepted name w v v_holds (comes_there c set name bytes w)
    (ap (λ (xs : List ℕ). front_names (first_of xs) w) (comes_held set name bytes w) ∙ first_good all w (good_bytes name bytes w good)))
