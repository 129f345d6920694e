-- What receivers have under way says that all is well, in every run that begins with none (MQTT 5.0, 4.3.2, 4.3.3).
use Rattle.std.proofs.Common.{◌≡◌, ℕ, zero, suc, Bool, true, false, cond, if◌then◌else◌, inl, inr, List, [], ◌∷◌, map, Option, Some, None, nat_lt, bytes_eq, refl, sym, subst}
use Rattle.std.specs.Prelude.{find, is_some}
use Rattle.std.specs.List.{AllByRecursion}
use Rattle.std.proofs.lemmas.Bool.{cases_Bool}
use Rattle.mqtt_base.specs.Codes.{success, identifier_not_found}
use Rattle.mqtt_base.specs.declared.session.CopyId.{CopyId}
use Rattle.mqtt_packet.specs.declared.codec.packet.Packet.{Packet}
use Rattle.mqtt_packet.specs.declared.codec.packet.Packet.TheVariants as packets
use Rattle.mqtt_packet.specs.declared.codec.publish.Delivery.{Delivery}
use Rattle.mqtt_packet.specs.declared.codec.publish.Delivery.TheVariants as delivery
use Rattle.mqtt_packet.specs.declared.codec.publish.Publish.{Publish as Publication}
use Rattle.mqtt_flow.specs.outbound.Receiver.{connect, puback, pubcomp, pubrec}
use Rattle.mqtt_flow.specs.inbound.Identifiers.{is_among}
use Rattle.mqtt_flow.specs.inbound.Line.{Link, away, asked, live}
use Rattle.mqtt_rules.proofs.step_lemmas.numbers.Copies.{each_append}
use Rattle.mqtt_rules.specs.step.Step.{Call, NewLine, stepped, told}
use Rattle.mqtt_rules.specs.declared.step.Capacity.{Capacity}
use Rattle.mqtt_world_model.specs.model.Ends.{Back, Receiver, answers, asks_for, greeted, hears, new_receiver, reads_publish, receiver_connack, receiver_reads}
use Rattle.mqtt_world_model.specs.model.Lines.{Down, Line, gives_up, joined, left}
use Rattle.mqtt_world_model.specs.model.Run.{Turn, run, setting, turned}
use Rattle.mqtt_world_model.specs.model.World.{Asking, Event, Setting, World, answers_rest, ask, asks, asks_wish, before, break, call_of, call_of_stranger, calls, calls_if, clock, comes, connect_end, first_step, give_up, happens, held_count, is_bad, is_open_line, linked_at, links, next_held, next_line, old_to_broker, publish, publisher, pump, receiver, receiver_named, receiver_restarted, receiver_told, restart, restarts, stop_after, stop_before, stranger, stranger_named, subscribe, taken_old, taken_up, tick, to_broker, to_end}
use Rattle.mqtt_world_model.specs.single_steps.Sound.{Carries}
use Rattle.mqtt_world_model.proofs.single_steps_lemmas.TakenLines.{gives_carries, goes_carries, joined_carries, left_carries, old_carries, restarted_carries, told_carries, up_carries}
use Rattle.mqtt_world_laws.proofs.drain_causes_lemmas.OwnCalls.{SaysWell}

abbrev Says : Receiver → Type 0
Says r = Carries SaysWell r.line

abbrev pub AllSay : World → Type 0
AllSay w = AllByRecursion Says w.receivers

-- ---- a receiver reads

publish_says : (t : Bool) (copy : Option CopyId) (p : Publication) (d : Delivery) (r : Receiver) → Says r → Says (reads_publish t copy p d r)
publish_says t copy p delivery.AtMostOnce r h = h
publish_says t copy p (delivery.AtLeastOnce dup i) r h = goes_carries SaysWell t (answers (puback i success) ∷ []) r.line (refl, tt) h
publish_says t copy p (delivery.ExactlyOnce dup i) r h = goes_carries SaysWell t (answers (pubrec i success) ∷ []) r.line (refl, tt) h

code_says : (t : Bool) (present : Bool) (r : Receiver) → Says r
    → Says (cond t (record r { line = left (record r.line { clean = false }) }) (record r { line = greeted r.line; asking = false; kept = if present then r.kept else [] }))
code_says true present r h = record { up = tt; old = h.old }
code_says false present r h = record { up = h.up; old = h.old }

connack_says : (link : Link) (present : Bool) (code : ℕ) (r : Receiver) → Says r → Says (receiver_connack link present code r)
connack_says away present code r h = h
connack_says live present code r h = h
connack_says asked present code r h = code_says (nat_lt 0 code) present r h

hears_says : (t : Bool) (copy : Option CopyId) (packet : Packet) (r : Receiver) → Says r → Says (hears t copy packet r)
hears_says t copy (packets.Connack a) r h = connack_says r.line.link a.session_present a.reason.0 r h
hears_says t copy (packets.Publish p) r h = publish_says t copy p p.delivery r h
hears_says t copy (packets.Pubrel a) r h =
    goes_carries SaysWell t (answers (pubcomp a.identifier (if is_among a.identifier r.kept then success else identifier_not_found)) ∷ []) r.line (tt, tt) h
hears_says t copy (packets.Suback a) r h = h
hears_says t copy (packets.Disconnect n) r h = left_carries SaysWell r.line h
hears_says t copy packet r h = h

reads_says : (t : Bool) (ds : List Down) (r : Receiver) → Says r → Says (receiver_reads t ds r)
reads_says t [] r h = h
reads_says t (d ∷ rest) r h = hears_says t d.copy d.packet (record r { line = record r.line { down = rest } }) (record { up = h.up; old = h.old })

-- ---- all receivers

each : (f : Receiver → Receiver) → ((r : Receiver) → Says r → Says (f r)) → (rs : List Receiver) → AllByRecursion Says rs → AllByRecursion Says (map f rs)
each f g [] h = tt
each f g (r ∷ rs) h = (g r h.0, each f g rs h.1)

one_named : (t : Bool) (r q : Receiver) → Says r → Says q → Says (cond t q r)
one_named true r q h g = g
one_named false r q h g = h

each_named : (client : List ℕ) (f : Receiver → Receiver) → ((r : Receiver) → Says r → Says (f r)) → (rs : List Receiver) → AllByRecursion Says rs → AllByRecursion Says (map (λ r. cond (bytes_eq r.client client) (f r) r) rs)
each_named client f g rs h = each (λ r. cond (bytes_eq r.client client) (f r) r) (λ r s. one_named (bytes_eq r.client client) r (f r) s (g r s)) rs h

on_lines : (client : List ℕ) (f : Line Back → Line Back) → ((l : Line Back) → Carries SaysWell l → Carries SaysWell (f l)) → (rs : List Receiver) → AllByRecursion Says rs
    → AllByRecursion Says (map (λ r. cond (bytes_eq r.client client) (record r { line = f r.line }) r) rs)
on_lines client f g rs h = each_named client (λ r. record r { line = f r.line }) (λ r s. g r.line s) rs h

-- ---- steps of the broker

calls_say : (set : Setting) (call : Call) (w : World) → AllSay w → AllSay (calls set call w)
calls_say set call w h =
    let b = stepped set.limits set.choice w.now call w.broker in
    let out = told set.limits set.choice w.now call w.broker in
    each (receiver_told b out) (λ r s. told_carries SaysWell b out r.line s) w.receivers h

if_say : (set : Setting) (call : Option Call) (w : World) → AllSay w → AllSay (calls_if set call w)
if_say set None w h = h
if_say set (Some call) w h = calls_say set call w h

restarts_say : (set : Setting) (w : World) → AllSay w → AllSay (restarts set w)
restarts_say set w h = each receiver_restarted (λ r s. restarted_carries SaysWell r.line) w.receivers h

comes_say : (set : Setting) (name bytes : List ℕ) (w : World) → AllSay w → AllSay (comes set name bytes w)
comes_say set name bytes w h = by (is_some (stranger_named name w))
  where
    by : (t : Bool) → AllSay (linked_at set t name bytes w)
    by true = h
    by false = calls_say set NewLine w h

before_say : (set : Setting) (a : Asking) (w : World) → AllSay w → AllSay (before set a w)
before_say set (to_broker d) w h = on_lines d taken_up (λ l c. up_carries SaysWell l c) w.receivers h
before_say set (old_to_broker d) w h = on_lines d taken_old (λ l c. old_carries SaysWell l c) w.receivers h
before_say set (break d) w h = h
before_say set (pump d) w h = h
before_say set tick w h = h
before_say set (stranger name bytes) w h = comes_say set name bytes w h

first_say : (set : Setting) (a : Asking) (w : World) → AllSay w → AllSay (first_step set a w)
first_say set a w h = if_say set (call_of set a w) (before set a w) (before_say set a w h)

rest_say : (set : Setting) (more : ℕ) (name : List ℕ) (w : World) → AllSay w → AllSay (answers_rest set more name w)
rest_say set zero name w h = h
rest_say set (suc more) name w h =
    let held = next_held name w in
    rest_say set more name (calls_if set (call_of_stranger (stranger_named name w)) held) (if_say set (call_of_stranger (stranger_named name w)) held h)

asks_say : (set : Setting) (a : Asking) (w : World) → AllSay w → AllSay (asks set a w)
asks_say set (to_broker d) w h = first_say set (to_broker d) w h
asks_say set (old_to_broker d) w h = first_say set (old_to_broker d) w h
asks_say set (break d) w h = on_lines d left (λ l c. left_carries SaysWell l c) (first_step set (break d) w).receivers (first_say set (break d) w h)
asks_say set (pump d) w h = first_say set (pump d) w h
asks_say set tick w h = first_say set tick w h
asks_say set (stranger name bytes) w h =
    let v = comes set name bytes w in
    rest_say set (held_count (stranger_named name v)) name v (comes_say set name bytes w h)

-- ---- what happens

links_say : (set : Setting) (o : Option ℕ) (client : List ℕ) (clean : Bool) (w : World) → AllSay w → AllSay (links set o client clean w)
links_say set None client clean w h = h
links_say set (Some n) client clean w h =
    let v = calls set NewLine w in
    on_lines client (joined (answers (connect clean)) n clean) (λ l c. joined_carries SaysWell (answers (connect clean)) n clean l tt c) v.receivers (calls_say set NewLine w h)

happens_say : (e : Event) (set : Setting) (w : World) → AllSay w → AllSay (happens set e w)
happens_say (publisher client) set w h = h
happens_say (receiver client window aliases) set w h = each_append Says w.receivers (new_receiver client window aliases w.broker.records.births ∷ []) h (record { up = tt; old = tt }, tt)
happens_say (connect_end client clean) set w h = links_say set (next_line set.limits w.broker) client clean w h
happens_say (give_up client) set w h = on_lines client (λ l. gives_up l.link l) (λ l c. gives_carries SaysWell l c) w.receivers h
happens_say (publish client d) set w h = h
happens_say (subscribe client x) set w h =
    each_named client (λ r. asks_wish (is_open_line r.line w) x r) (λ r s. goes_carries SaysWell (is_open_line r.line w) (asks_for x ∷ []) r.line (tt, tt) s) w.receivers h
happens_say (to_end client) set w h = each_named client (λ r. receiver_reads (is_open_line r.line w) r.line.down r) (λ r s. reads_says (is_open_line r.line w) r.line.down r s) w.receivers h
happens_say (clock wait) set w h = h
happens_say (ask a) set w h = asks_say set a w h
happens_say restart set w h = restarts_say set w h
happens_say (stop_before a) set w h = restarts_say set (before set a w) (before_say set a w h)
happens_say (stop_after a) set w h = restarts_say set (first_step set a w) (first_say set a w h)

-- behind a turn receivers have answered what they were sent
pub turned_say : (limits : Capacity) (t : Turn) (w : World) → AllSay w → AllSay (turned limits t w)
turned_say limits t w h = by (is_bad t.event w)
  where
    by : (bad : Bool) → AllSay (cond bad w (happens (setting limits t) t.event w))
    by true = h
    by false = happens_say t.event (setting limits t) w h

-- so they have behind a run
pub run_say : (limits : Capacity) (ts : List Turn) (w : World) → AllSay w → AllSay (run limits ts w)
run_say limits [] w h = h
run_say limits (t ∷ ts) w h = run_say limits ts (turned limits t w) (turned_say limits t w h)

-- and if there are none
pub none_say : (w : World) → w.receivers ≡ [] → AllSay w
none_say w none = subst (AllByRecursion Says) (sym none) tt

found_says : (client : List ℕ) (r : Receiver) (rs : List Receiver) → AllByRecursion Says rs → find (λ (q : Receiver). bytes_eq q.client client) rs ≡ Some r → Says r
found_says client r [] h e = absurd cc
found_says client r (q ∷ rs) h e = elim (cases_Bool (bytes_eq q.client client)) [
  | inl here ↦
      let first : Some q ≡ Some r = rw here at e in
      let it : q ≡ r = cc in
      subst Says it h.0
  | inr other ↦ found_says client r rs h.1 (rw other at e)
]

-- what is under way from a receiver of this name
pub named_says : (client : List ℕ) (r : Receiver) (w : World) → AllSay w → receiver_named client w ≡ Some r → AllByRecursion SaysWell r.line.up
named_says client r w h e = (found_says client r w.receivers h e).up
