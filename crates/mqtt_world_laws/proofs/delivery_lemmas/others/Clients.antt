-- In every run the receivers have different names: each is the one that is found by its name (MQTT 5.0, 3.1.3.1).
use Rattle.std.proofs.Common.{◌≡◌, ℕ, zero, suc, Bool, true, false, cond, ◌||◌, List, [], ◌∷◌, ◌++◌, find, map, not, Option, Some, None, bytes_eq, refl, ap, ◌∙◌}
use Rattle.std.specs.Prelude.{is_some, option_map}
use Rattle.std.specs.List.{AllByRecursion}
use Rattle.std.proofs.lemmas.Slice.Eq.{bytes_eq-Decides}
use Rattle.mqtt_flow.specs.outbound.Receiver.{connect}
use Rattle.mqtt_world_model.specs.model.Ends.{Receiver, answers, new_receiver, receiver_reads}
use Rattle.mqtt_world_model.specs.model.Lines.{gives_up, joined, left, stands}
use Rattle.mqtt_world_model.specs.model.Run.{Turn, run, setting, turned}
use Rattle.mqtt_world_model.specs.model.World.{Asking, Event, Setting, World, answers_rest, ask, asks, asks_wish, before, break, call_of, call_of_stranger, calls, calls_if, clock, comes, connect_end, first_step, give_up, happens, held_count, is_bad, is_bad_name, is_end, linked_at, links, next_held, next_line, old_to_broker, publish, publisher, publisher_named, pump, receiver, receiver_named, receiver_restarted, receiver_told, restart, restarts, stop_after, stop_before, stranger, stranger_named, subscribe, tick, to_broker, to_end, may_take}
use Rattle.mqtt_rules.specs.step.Step.{Call, NewLine, stepped, told}
use Rattle.mqtt_rules.specs.declared.step.Capacity.{Capacity}
use Rattle.mqtt_world_laws.proofs.acceptance_lemmas.publishers.Ends.{all_appended, all_mapped, find_first, find_last, find_receiver, only_receiver, either}
use Rattle.mqtt_world_laws.proofs.delivery_lemmas.others.Around.{on_back}
use Rattle.mqtt_world_laws.proofs.delivery_lemmas.others.Like.{moves_reading}

-- ---- it is found by its name

abbrev named_in : List ℕ → List Receiver → Option Receiver
named_in client rs = find (λ (r : Receiver). bytes_eq r.client client) rs

abbrev IsFound : List Receiver → Receiver → Type 0
IsFound rs r = named_in r.client rs ≡ Some r

abbrev AreFound : List Receiver → Type 0
AreFound rs = AllByRecursion (IsFound rs) rs

mapped : (f : Receiver → Receiver) (rs : List Receiver) → ((r : Receiver) → (f r).client ≡ r.client) → AreFound rs → AreFound (map f rs)
mapped f rs client h =
    all_mapped (IsFound rs) (IsFound (map f rs)) f rs (λ r found.
    ap (λ (name : List ℕ). named_in name (map f rs)) (client r) ∙ (find_receiver r.client f client rs ∙ ap (option_map f) found)) h

-- one more, of a name that none has
newcomer : (new : Receiver) (rs : List Receiver) → named_in new.client rs ≡ None → AreFound rs → AreFound (rs ++ new ∷ [])
newcomer new rs none h =
    all_appended (IsFound (rs ++ new ∷ [])) rs new (all_found rs h) (find_last (λ (r : Receiver). bytes_eq r.client new.client) new rs ((bytes_eq-Decides new.client new.client).1 refl) none)
  where
    all_found : (xs : List Receiver) → AllByRecursion (IsFound rs) xs → AllByRecursion (IsFound (rs ++ new ∷ [])) xs
    all_found [] q = tt
    all_found (x ∷ xs) q = (find_first (λ (r : Receiver). bytes_eq r.client x.client) new x rs q.0, all_found xs q.1)

-- ---- what happens keeps the receivers, but that one may come

one_changed : (d : List ℕ) (g : Receiver → Receiver) (rs : List Receiver) → ((r : Receiver) → (g r).client ≡ r.client) → AreFound rs → AreFound (map (λ r. cond (bytes_eq r.client d) (g r) r) rs)
one_changed d g rs client h = mapped (λ r. cond (bytes_eq r.client d) (g r) r) rs (λ r. only_receiver (bytes_eq r.client d) g r (client r)) h

calls_found : (set : Setting) (call : Call) (w : World) → AreFound w.receivers → AreFound (calls set call w).receivers
calls_found set call w h = mapped (receiver_told (stepped set.limits set.choice w.now call w.broker) (told set.limits set.choice w.now call w.broker)) w.receivers (λ r. refl) h

if_found : (set : Setting) (o : Option Call) (w : World) → AreFound w.receivers → AreFound (calls_if set o w).receivers
if_found set None w h = h
if_found set (Some call) w h = calls_found set call w h

restarts_found : (set : Setting) (w : World) → AreFound w.receivers → AreFound (restarts set w).receivers
restarts_found set w h = mapped receiver_restarted w.receivers (λ r. refl) h

comes_found : (set : Setting) (name bytes : List ℕ) (w : World) → AreFound w.receivers → AreFound (comes set name bytes w).receivers
comes_found set name bytes w h = by (is_some (stranger_named name w))
  where
    by : (t : Bool) → AreFound (linked_at set t name bytes w).receivers
    by true = h
    by false = calls_found set NewLine w h

before_found : (set : Setting) (a : Asking) (w : World) → AreFound w.receivers → AreFound (before set a w).receivers
before_found set (to_broker d) w h = one_changed d _ w.receivers (λ r. refl) h
before_found set (old_to_broker d) w h = one_changed d _ w.receivers (λ r. refl) h
before_found set (break d) w h = h
before_found set (pump d) w h = h
before_found set tick w h = h
before_found set (stranger name bytes) w h = comes_found set name bytes w h

first_found : (set : Setting) (a : Asking) (w : World) → AreFound w.receivers → AreFound (first_step set a w).receivers
first_found set a w h = if_found set (call_of set a w) (before set a w) (before_found set a w h)

rest_found : (set : Setting) (more : ℕ) (name : List ℕ) (w : World) → AreFound w.receivers → AreFound (answers_rest set more name w).receivers
rest_found set zero name w h = h
rest_found set (suc more) name w h =
    let u = next_held name w in
    let call = call_of_stranger (stranger_named name w) in
    rest_found set more name (calls_if set call u) (if_found set call u h)

asks_found : (set : Setting) (a : Asking) (w : World) → AreFound w.receivers → AreFound (asks set a w).receivers
asks_found set (to_broker d) w h = first_found set (to_broker d) w h
asks_found set (old_to_broker d) w h = first_found set (old_to_broker d) w h
asks_found set (break d) w h = one_changed d (on_back left) (first_step set (break d) w).receivers (λ r. refl) (first_found set (break d) w h)
asks_found set (pump d) w h = first_found set (pump d) w h
asks_found set tick w h = first_found set tick w h
asks_found set (stranger name bytes) w h =
    let v = comes set name bytes w in
    rest_found set (held_count (stranger_named name v)) name v (comes_found set name bytes w h)

links_found : (set : Setting) (o : Option ℕ) (d : List ℕ) (clean : Bool) (w : World) → AreFound w.receivers → AreFound (links set o d clean w).receivers
links_found set None d clean w h = h
links_found set (Some n) d clean w h = one_changed d (on_back (λ l. joined (answers (connect clean)) n clean l)) (calls set NewLine w).receivers (λ r. refl) (calls_found set NewLine w h)

none_named : (o : Option Receiver) → is_some o ≡ false → o ≡ None
none_named None h = refl
none_named (Some r) h = absurd cc

-- one whose name nobody has
comes_new : (d : List ℕ) (window aliases : ℕ) (w : World) → is_bad (receiver d window aliases) w ≡ false → receiver_named d w ≡ None
comes_new d window aliases w good =
    let named = (either (is_bad_name d) (is_end d w || not (may_take window aliases)) good).1 in
    let nobody = (either (is_end d w) (not (may_take window aliases)) named).0 in
    none_named (receiver_named d w) (either (is_some (publisher_named d w)) (is_some (receiver_named d w)) nobody).1

happens_found : (set : Setting) (x : Event) (w : World) → is_bad x w ≡ false → AreFound w.receivers → AreFound (happens set x w).receivers
happens_found set (publisher d) w good h = h
happens_found set (receiver d window aliases) w good h = newcomer (new_receiver d window aliases w.broker.records.births) w.receivers (comes_new d window aliases w good) h
happens_found set (connect_end d clean) w good h = links_found set (next_line set.limits w.broker) d clean w h
happens_found set (give_up d) w good h = one_changed d (on_back (λ l. gives_up l.link l)) w.receivers (λ r. refl) h
happens_found set (publish d x) w good h = h
happens_found set (subscribe d x) w good h = one_changed d (λ r. asks_wish (stands r.line.number w.broker) x r) w.receivers (λ r. refl) h
happens_found set (to_end d) w good h = one_changed d (λ r. receiver_reads (stands r.line.number w.broker) r.line.down r) w.receivers (λ r. (moves_reading (stands r.line.number w.broker) r.line.down r).client) h
happens_found set (clock wait) w good h = h
happens_found set (ask a) w good h = asks_found set a w h
happens_found set restart w good h = restarts_found set w h
happens_found set (stop_before a) w good h = restarts_found set (before set a w) (before_found set a w h)
happens_found set (stop_after a) w good h = restarts_found set (first_step set a w) (first_found set a w h)

-- in every run receivers have found names
pub run_found : (limits : Capacity) (ts : List Turn) (w : World) → AreFound w.receivers → AreFound (run limits ts w).receivers
run_found limits [] w h = h
run_found limits (t ∷ ts) w h = run_found limits ts (turned limits t w) (by (is_bad t.event w) refl)
  where
    by : (bad : Bool) → is_bad t.event w ≡ bad → AreFound (cond bad w (happens (setting limits t) t.event w)).receivers
    by true is = h
    by false is = happens_found (setting limits t) t.event w is h
