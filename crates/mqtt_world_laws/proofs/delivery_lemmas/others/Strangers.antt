-- Strangers, in the eyes of one receiver: none of their packets is a CONNECT of its client (MQTT 5.0, 3.1.3.1).
use Rattle.std.proofs.Common.{◌≡◌, ℕ, suc, Bool, true, false, cond, ◌||◌, List, [], ◌∷◌, ◌++◌, map, Some, None, refl, sym, ap, ◌∙◌, arith}
use Rattle.std.specs.Prelude.{is_some}
use Rattle.std.specs.List.{AllByRecursion}
use Rattle.mqtt_base.specs.declared.session.CopyId.{CopyId}
use Rattle.mqtt_packet.specs.stream.Front.{first_of}
use Rattle.mqtt_rules.specs.step.Step.{Call, NewLine, can_link, stepped}
use Rattle.mqtt_world_model.specs.model.World.{Stranger, World, Setting, publisher_named, receiver_named, stranger_named, calls, calls_if, held_after, linked_at, comes, call_of_stranger, next_held, answers_rest, held_count, front_names, bytes_name, bytes_held, is_bad_asking, asks, first_step, stranger}
use Rattle.mqtt_world_model.specs.model.Run.{read_if, read_rest, read_first, read_asked}
use Rattle.mqtt_rules.specs.declared.step.Capacity.{Capacity}
use Rattle.mqtt_world_laws.specs.acceptance.Spending.{spending}
use Rattle.mqtt_world_laws.proofs.acceptance_lemmas.copies.Steady.{linking_spends_none}
use Rattle.mqtt_world_laws.proofs.acceptance_lemmas.publishers.Ends.{all_appended}
use Rattle.mqtt_world_laws.proofs.acceptance_lemmas.publishers.StrangerBytes.{changed, all_changed, linked_given, comes_held, packet_outside, same_cost, rest_keeps, good_bytes, good_then, first_good}
use Rattle.mqtt_world_laws.specs.delivery.Standing.{IsAnothers, IsOtherStranger, IsOutOf, Stands, StandsWith, BeginWith}
use Rattle.mqtt_world_laws.proofs.delivery_lemmas.others.Outside.{IsOutside, called_copies, fresh_unlisted, if_stands, if_there}
use Rattle.mqtt_world_laws.proofs.delivery_lemmas.order.Growing.{begin_then}

-- ---- its bytes change nothing of the broker and of the ends

abbrev pub with_strangers : (first : List CopyId) (c : List ℕ) (largest : ℕ) (limits : Capacity) (w : World) (ss : List Stranger) (s : Stands first c largest limits w) → AllByRecursion (IsOtherStranger s.ns w.broker.given) ss
    → Stands first c largest limits (record w { strangers = ss })
with_strangers first c largest limits w ss s a =
    let h = s.standing in
    record {
      ids = s.ids;
      grown = s.grown;
      ns = s.ns;
      standing = record {
        around = record {
          within = h.around.within;
          steady = h.around.steady;
          tidy = h.around.tidy;
          known = h.around.known;
          publishers = h.around.publishers;
          receivers = h.around.receivers;
          strangers = a;
          alone = h.around.alone;
          place = h.around.place;
        };
        seen = h.seen;
      };
    }

abbrev pub held_stands : (first : List CopyId) (c : List ℕ) (largest : ℕ) (limits : Capacity) (name : List ℕ) (w : World) → Stands first c largest limits w → Stands first c largest limits (next_held name w)
held_stands first c largest limits name w s =
    with_strangers first c largest limits w (map (changed name (λ (x : Stranger). record x { held = held_after x.held })) w.strangers) s
    (all_changed (IsOtherStranger s.ns w.broker.given) name (λ (x : Stranger). record x { held = held_after x.held }) w.strangers (λ x q. q) s.standing.around.strangers)

-- ---- it comes

-- and as a line is made
pub linking_stands : (c : List ℕ) (largest : ℕ) (set : Setting) (ids : List CopyId) (ns : List ℕ) (w : World) → StandsWith c largest set.limits ids ns w → (all : List CopyId) × StandsWith c largest set.limits all ns (calls set NewLine w) × BeginWith ids all
linking_stands c largest set ids ns w h = called_copies c largest set NewLine ids ns w h (linking_spends_none set.limits set.choice w.now w.broker) (λ there. tt)

-- the next line is no one's
pub next_free : (c : List ℕ) (largest : ℕ) (set : Setting) (ids : List CopyId) (ns : List ℕ) (w : World) → StandsWith c largest set.limits ids ns w → can_link set.limits w.broker ≡ true
    → IsAnothers ns (stepped set.limits set.choice w.now NewLine w.broker).given (Some (suc w.broker.given))
next_free c largest set ids ns w h can = λ n is.
    let it : suc w.broker.given ≡ n = cc in
    let given = linked_given set w.now w.broker can in
    (fresh_unlisted n ns w.broker.given it h.around.known, omega (arith, it, given))

-- and so it does as its bytes come
pub comes_stands : (first : List CopyId) (c : List ℕ) (largest : ℕ) (set : Setting) (name bytes : List ℕ) (w : World) → Stands first c largest set.limits w → Stands first c largest set.limits (comes set name bytes w)
comes_stands first c largest set name bytes w s = by (is_some (stranger_named name w))
  where
    free : (t : Bool) → can_link set.limits w.broker ≡ t → IsAnothers s.ns (stepped set.limits set.choice w.now NewLine w.broker).given (cond t (Some (suc w.broker.given)) None)
    free false can = λ n is. absurd cc
    free true can = next_free c largest set s.ids s.ns w s.standing can

    by : (t : Bool) → Stands first c largest set.limits (linked_at set t name bytes w)
    by true =
        with_strangers first c largest set.limits w (map (changed name (λ (x : Stranger). record x { held = x.held ++ bytes })) w.strangers) s
        (all_changed (IsOtherStranger s.ns w.broker.given) name (λ (x : Stranger). record x { held = x.held ++ bytes }) w.strangers (λ x q. q) s.standing.around.strangers)
    by false =
        let linked = linking_stands c largest set s.ids s.ns w s.standing in
        let x : Stranger = record { name = name; number = cond (can_link set.limits w.broker) (Some (suc w.broker.given)) None; held = bytes } in
        with_strangers first c largest set.limits (calls set NewLine w) (w.strangers ++ x ∷ []) (record { ids = linked.0; grown = begin_then first s.ids linked.0 s.grown linked.2; ns = s.ns; standing = linked.1 })
        (all_appended (IsOtherStranger s.ns (calls set NewLine w).broker.given) w.strangers x linked.1.around.strangers (free (can_link set.limits w.broker) refl))

-- whoever is there then was there before
pub comes_there : (c : List ℕ) (set : Setting) (name bytes : List ℕ) (w : World) → is_some (receiver_named c (comes set name bytes w)) ≡ is_some (receiver_named c w)
comes_there c set name bytes w = by (is_some (stranger_named name w))
  where
    by : (t : Bool) → is_some (receiver_named c (linked_at set t name bytes w)) ≡ is_some (receiver_named c w)
    by true = refl
    by false = if_there c set (Some NewLine) w

-- ---- its packets

-- one of two holds
or_there : (a b : Bool) → b ≡ true → (a || b) ≡ true
or_there true b h = refl
or_there false b h = h

-- the next of them is a step of others; w is the world in which the bytes came
pub next_outside : (first : List CopyId) (c : List ℕ) (largest : ℕ) (limits : Capacity) (name : List ℕ) (w v : World) (h : Stands first c largest limits v) → is_some (receiver_named c v) ≡ is_some (receiver_named c w)
    → front_names (first_of (bytes_held (stranger_named name v))) w ≡ false → is_some (receiver_named c v) ≡ true → (x : Call) → call_of_stranger (stranger_named name v) ≡ Some x → IsOutside c h.ns x
next_outside first c largest limits name w v h there good found =
    packet_outside c (IsOutOf h.ns) (IsOutside c h.ns) (λ n packet free other. (free, other)) (λ n t code free. free) v.broker.given name w v
    (or_there (is_some (publisher_named c w)) (is_some (receiver_named c w)) (sym there ∙ found)) h.standing.around.strangers good

-- all of them are
rest_stands : (first : List CopyId) (more : ℕ) (c : List ℕ) (largest : ℕ) (set : Setting) (name : List ℕ) (w v : World) → Stands first c largest set.limits v → is_some (receiver_named c v) ≡ is_some (receiver_named c w)
    → bytes_name more (bytes_held (stranger_named name v)) w ≡ false → read_rest spending set more name v ≡ false → Stands first c largest set.limits (answers_rest set more name v)
rest_stands first more c largest set name w v h there good unspent =
    (rest_keeps set name w (λ (z : World). Stands first c largest set.limits z × (is_some (receiver_named c z) ≡ is_some (receiver_named c w))) next more v (h, there) good unspent).0
  where
    next : (z : World) → Stands first c largest set.limits z × (is_some (receiver_named c z) ≡ is_some (receiver_named c w)) → front_names (first_of (bytes_held (stranger_named name z))) w ≡ false
        → read_if spending set (call_of_stranger (stranger_named name z)) z ≡ false
        → Stands first c largest set.limits (calls_if set (call_of_stranger (stranger_named name z)) (next_held name z)) × (is_some (receiver_named c (calls_if set (call_of_stranger (stranger_named name z)) (next_held name z))) ≡ is_some (receiver_named c w))
    next z k fine cost =
        let call = call_of_stranger (stranger_named name z) in
        let u = next_held name z in
        (if_stands first c largest set call u (held_stands first c largest set.limits name z k.0) (same_cost set name z call cost) (next_outside first c largest set.limits name w z k.0 k.1 fine), if_there c set call u ∙ k.1)

-- ---- its bytes are answered, whole or the first packet alone

-- and so it stands as all of them are answered
pub stranger_stands : (first : List CopyId) (c name bytes : List ℕ) (largest : ℕ) (set : Setting) (w : World) → Stands first c largest set.limits w → is_bad_asking (stranger name bytes) w ≡ false → read_asked spending set (stranger name bytes) w ≡ false
    → Stands first c largest set.limits (asks set (stranger name bytes) w)
stranger_stands first c name bytes largest set w h good unspent =
    let v = comes set name bytes w in
    rest_stands first (held_count (stranger_named name v)) c largest set name w v (comes_stands first c largest set name bytes w h) (comes_there c set name bytes w) (good_then set name bytes w good) unspent

-- the first of its packets is a step of others; v is the world in which its bytes have come
pub first_outside : (first : List CopyId) (c : List ℕ) (largest : ℕ) (set : Setting) (name bytes : List ℕ) (w : World) (h : Stands first c largest set.limits (comes set name bytes w)) → is_bad_asking (stranger name bytes) w ≡ false
    → is_some (receiver_named c (comes set name bytes w)) ≡ true → (x : Call) → call_of_stranger (stranger_named name (comes set name bytes w)) ≡ Some x → IsOutside c h.ns x
first_outside first c largest set name bytes w h good =
    let all = bytes_held (stranger_named name w) ++ bytes in
    next_outside first c largest set.limits name w (comes set name bytes w) h (comes_there c set name bytes w)
    (ap (λ (xs : List ℕ). front_names (first_of xs) w) (comes_held set name bytes w) ∙ first_good all w (good_bytes name bytes w good))

-- or only the first packet
pub stranger_first : (first : List CopyId) (c name bytes : List ℕ) (largest : ℕ) (set : Setting) (w : World) → Stands first c largest set.limits w → is_bad_asking (stranger name bytes) w ≡ false → read_first spending set (stranger name bytes) w ≡ false
    → Stands first c largest set.limits (first_step set (stranger name bytes) w)
stranger_first first c name bytes largest set w h good unspent =
    let v = comes set name bytes w in
    let v_stands = comes_stands first c largest set name bytes w h in
    if_stands first c largest set (call_of_stranger (stranger_named name v)) v v_stands unspent (first_outside first c largest set name bytes w v_stands good)
