-- Every event leaves each end such that the broker takes what is under way from it (MQTT 5.0, 2.2.1, 4.3, 4.4).
use Rattle.std.proofs.Common.{◌≡◌, ℕ, zero, suc, Bool, true, false, cond, not, ◌||◌, List, [], ◌∷◌, map, length, Option, Some, None, nat_eq, nat_lt, bytes_eq, refl, sym, subst}
use Rattle.std.specs.Prelude.{is_none, is_some}
use Rattle.std.specs.List.{AllByRecursion, starts_with}
use Rattle.std.proofs.lemmas.Bool.{ltb-false}
use Rattle.mqtt_base.specs.Values.{is_text}
use Rattle.mqtt_base.specs.declared.limits.TheConstants.{CLIENT_LIMIT}
use Rattle.mqtt_flow.specs.outbound.Receiver.{connect}
use Rattle.mqtt_flow.specs.inbound.Publisher.{CONNECT}
use Rattle.mqtt_records.specs.state.Session.{auto}
use Rattle.mqtt_rules.proofs.step_lemmas.numbers.Copies.{each_append}
use Rattle.mqtt_rules.proofs.step_lemmas.flight.FlightRows.{all_more}
use Rattle.mqtt_rules.specs.step.Step.{Call, NewLine, stepped, told}
use Rattle.mqtt_rules.specs.declared.step.Capacity.{Capacity}
use Rattle.mqtt_world_model.specs.model.Ends.{Back, Publisher, Receiver, Sent, answers, new_publisher, new_receiver, publisher_reads, published, receiver_reads, shake}
use Rattle.mqtt_world_model.specs.model.Lines.{Line, gives_up, joined, left, told_by}
use Rattle.mqtt_world_model.specs.model.Run.{Turn, run, setting, turned}
use Rattle.mqtt_world_model.specs.model.World.{Asking, Event, Setting, World, answers_rest, ask, asks, asks_wish, before, break, call_of, call_of_stranger, calls, calls_if, clock, comes, connect_end, end_reads, first_step, give_up, happens, held_count, is_bad, is_bad_name, is_end, is_message, is_open_line, is_window, is_wish, linked_at, links, next_held, next_line, old_to_broker, publish, publisher, publisher_named, publisher_restarted, publisher_told, pump, receiver, receiver_named, receiver_restarted, receiver_told, restart, restarts, stop_after, stop_before, stranger, stranger_named, subscribe, taken_old, taken_up, tick, to_broker, to_end, with_line, may_ask, may_take}
use Rattle.mqtt_world_model.specs.single_steps.Sound.{AreSound, Carries, IsGoodBack, IsGoodSent, IsName, IsSoundPublisher, IsSoundReceiver}
use Rattle.mqtt_world_model.specs.single_steps.Taken.{IsTakenFrom, IsTakenFromReceiver}
use Rattle.mqtt_world_model.proofs.single_steps_lemmas.TakenLines.{gives_carries, joined_carries, left_carries, old_carries, restarted_carries, told_carries, up_carries}
use Rattle.mqtt_world_model.proofs.single_steps_lemmas.TakenPackets.{wish_taken}
use Rattle.mqtt_world_model.proofs.single_steps_lemmas.TakenPublishers.{draft_good, new_sound, on_line_sound, published_sound, publisher_reads_sound, sound_taken}
use Rattle.mqtt_world_model.proofs.single_steps_lemmas.TakenReceivers.{alike_sound, new_receiver_sound, receiver_reads_sound, sound_taken_back, wish_sound}

neither : (a b : Bool) → (a || b) ≡ false → (a ≡ false) × (b ≡ false)
neither true b h = absurd cc
neither false b h = (refl, h)

is_so : (t : Bool) → not t ≡ false → t ≡ true
is_so true h = refl
is_so false h = absurd cc

-- ---- all ends of a kind

each : {X : Type 0} (P : X → Type 0) (f : X → X) → ((x : X) → P x → P (f x)) → (xs : List X) → AllByRecursion P xs → AllByRecursion P (map f xs)
each P f g [] h = tt
each P f g (x ∷ xs) h = (g x h.0, each P f g xs h.1)

one_named : {X : Type 0} (P : X → Type 0) (t : Bool) (x y : X) → P x → P y → P (cond t y x)
one_named P true x y h g = g
one_named P false x y h g = h

with_ends : (client : List ℕ) (f : Publisher → Publisher) (g : Receiver → Receiver) (w v : World) → ((p : Publisher) → IsSoundPublisher p → IsSoundPublisher (f p)) → ((r : Receiver) → IsSoundReceiver r → IsSoundReceiver (g r))
    → v.publishers ≡ map (λ p. cond (bytes_eq p.client client) (f p) p) w.publishers → v.receivers ≡ map (λ r. cond (bytes_eq r.client client) (g r) r) w.receivers → AreSound w → AreSound v
with_ends client f g w v f_keeps g_keeps ps rs h = record {
  publishers = subst (AllByRecursion IsSoundPublisher) (sym ps) (each IsSoundPublisher (λ p. cond (bytes_eq p.client client) (f p) p) (λ p s. one_named IsSoundPublisher (bytes_eq p.client client) p (f p) s (f_keeps p s)) w.publishers h.publishers);
  receivers = subst (AllByRecursion IsSoundReceiver) (sym rs) (each IsSoundReceiver (λ r. cond (bytes_eq r.client client) (g r) r) (λ r s. one_named IsSoundReceiver (bytes_eq r.client client) r (g r) s (g_keeps r s)) w.receivers h.receivers);
}

same_ends : (w v : World) → v.publishers ≡ w.publishers → v.receivers ≡ w.receivers → AreSound w → AreSound v
same_ends w v ps rs h = record { publishers = subst (AllByRecursion IsSoundPublisher) (sym ps) h.publishers; receivers = subst (AllByRecursion IsSoundReceiver) (sym rs) h.receivers }

on_back : (r : Receiver) (l : Line Back) → IsSoundReceiver r → Carries IsGoodBack l → IsSoundReceiver (record r { line = l })
on_back r l h c = alike_sound r (record r { line = l }) refl refl refl h c

lines_sound : (client : List ℕ) (f : Line Sent → Line Sent) (g : Line Back → Line Back) (w : World)
    → ((k : ℕ) (l : Line Sent) → Carries (IsGoodSent k) l → Carries (IsGoodSent k) (f l)) → ((l : Line Back) → Carries IsGoodBack l → Carries IsGoodBack (g l)) → AreSound w → AreSound (with_line client f g w)
lines_sound client f g w f_keeps g_keeps h =
    with_ends client (λ p. record p { line = f p.line }) (λ r. record r { line = g r.line }) w (with_line client f g w)
    (λ p s. on_line_sound p (f p.line) s (f_keeps (length p.fates) p.line s.line)) (λ r s. on_back r (g r.line) s (g_keeps r.line s.line)) refl refl h

-- ---- steps of the broker

calls_sound : (set : Setting) (call : Call) (w : World) → AreSound w → AreSound (calls set call w)
calls_sound set call w h =
    let b = stepped set.limits set.choice w.now call w.broker in
    let out = told set.limits set.choice w.now call w.broker in
    record {
      publishers = each IsSoundPublisher (publisher_told b out) (λ p s. on_line_sound p (told_by b out p.line) s (told_carries (IsGoodSent (length p.fates)) b out p.line s.line)) w.publishers h.publishers;
      receivers = each IsSoundReceiver (receiver_told b out) (λ r s. on_back r (told_by b out r.line) s (told_carries IsGoodBack b out r.line s.line)) w.receivers h.receivers;
    }

if_sound : (set : Setting) (call : Option Call) (w : World) → AreSound w → AreSound (calls_if set call w)
if_sound set None w h = h
if_sound set (Some call) w h = calls_sound set call w h

restarts_sound : (set : Setting) (w : World) → AreSound w → AreSound (restarts set w)
restarts_sound set w h = record {
  publishers = each IsSoundPublisher publisher_restarted (λ p s. on_line_sound p _ s (restarted_carries (IsGoodSent (length p.fates)) p.line)) w.publishers h.publishers;
  receivers = each IsSoundReceiver receiver_restarted (λ r s. on_back r _ s (restarted_carries IsGoodBack r.line)) w.receivers h.receivers;
}

comes_sound : (set : Setting) (name bytes : List ℕ) (w : World) → AreSound w → AreSound (comes set name bytes w)
comes_sound set name bytes w h = by (is_some (stranger_named name w))
  where
    by : (t : Bool) → AreSound (linked_at set t name bytes w)
    by true = record { publishers = h.publishers; receivers = h.receivers }
    by false = let x = calls_sound set NewLine w h in record { publishers = x.publishers; receivers = x.receivers }

before_sound : (set : Setting) (a : Asking) (w : World) → AreSound w → AreSound (before set a w)
before_sound set (to_broker d) w h = lines_sound d taken_up taken_up w (λ k l c. up_carries (IsGoodSent k) l c) (λ l c. up_carries IsGoodBack l c) h
before_sound set (old_to_broker d) w h = lines_sound d taken_old taken_old w (λ k l c. old_carries (IsGoodSent k) l c) (λ l c. old_carries IsGoodBack l c) h
before_sound set (break d) w h = h
before_sound set (pump d) w h = h
before_sound set tick w h = h
before_sound set (stranger name bytes) w h = comes_sound set name bytes w h

first_sound : (set : Setting) (a : Asking) (w : World) → AreSound w → AreSound (first_step set a w)
first_sound set a w h = if_sound set (call_of set a w) (before set a w) (before_sound set a w h)

rest_sound : (set : Setting) (more : ℕ) (name : List ℕ) (w : World) → AreSound w → AreSound (answers_rest set more name w)
rest_sound set zero name w h = h
rest_sound set (suc more) name w h =
    let held = next_held name w in
    rest_sound set more name (calls_if set (call_of_stranger (stranger_named name w)) held) (if_sound set (call_of_stranger (stranger_named name w)) held (record { publishers = h.publishers; receivers = h.receivers }))

asks_sound : (set : Setting) (a : Asking) (w : World) → AreSound w → AreSound (asks set a w)
asks_sound set (to_broker d) w h = first_sound set (to_broker d) w h
asks_sound set (old_to_broker d) w h = first_sound set (old_to_broker d) w h
asks_sound set (break d) w h = lines_sound d left left (first_step set (break d) w) (λ k l c. left_carries (IsGoodSent k) l c) (λ l c. left_carries IsGoodBack l c) (first_sound set (break d) w h)
asks_sound set (pump d) w h = first_sound set (pump d) w h
asks_sound set tick w h = first_sound set tick w h
asks_sound set (stranger name bytes) w h =
    let v = comes set name bytes w in
    rest_sound set (held_count (stranger_named name v)) name v (comes_sound set name bytes w h)

-- ---- what the ends do

links_sound : (set : Setting) (o : Option ℕ) (client : List ℕ) (clean : Bool) (w : World) → AreSound w → AreSound (links set o client clean w)
links_sound set None client clean w h = h
links_sound set (Some n) client clean w h =
    let v = calls set NewLine w in
    with_ends client (λ p. record p { line = joined (shake (CONNECT clean)) n clean p.line }) (λ r. record r { line = joined (answers (connect clean)) n clean r.line }) v (links set (Some n) client clean w)
    (λ p s. on_line_sound p _ s (joined_carries (IsGoodSent (length p.fates)) (shake (CONNECT clean)) n clean p.line tt s.line)) (λ r s. on_back r _ s (joined_carries IsGoodBack (answers (connect clean)) n clean r.line tt s.line)) refl refl
    (calls_sound set NewLine w h)

name_of : (client : List ℕ) → is_bad_name client ≡ false → IsName client
name_of client good =
    let first = neither (nat_eq (length client) 0) (nat_lt CLIENT_LIMIT (length client) || (starts_with nat_eq client auto || not (is_text client))) good in
    let second = neither (nat_lt CLIENT_LIMIT (length client)) (starts_with nat_eq client auto || not (is_text client)) first.1 in
    let third = neither (starts_with nat_eq client auto) (not (is_text client)) second.1 in
    record { text = is_so (is_text client) third.1; short = ltb-false CLIENT_LIMIT (length client) second.0 }

happens_sound : (e : Event) (set : Setting) (w : World) → is_bad e w ≡ false → AreSound w → AreSound (happens set e w)
happens_sound (publisher client) set w good h = record {
  publishers = each_append IsSoundPublisher w.publishers (new_publisher client ∷ []) h.publishers (new_sound client (name_of client (neither (is_bad_name client) (is_end client w) good).0), tt);
  receivers = h.receivers;
}
happens_sound (receiver client window aliases) set w good h =
    let both = neither (is_bad_name client) (is_end client w || not (may_take window aliases)) good in
    let more = neither (is_end client w) (not (may_take window aliases)) both.1 in
    let since = w.broker.records.births in
    record {
      publishers = h.publishers;
      receivers = each_append IsSoundReceiver w.receivers (new_receiver client window aliases since ∷ []) h.receivers (new_receiver_sound client window aliases since (name_of client both.0) (is_so (may_take window aliases) more.1), tt);
    }
happens_sound (connect_end client clean) set w good h = links_sound set (next_line set.limits w.broker) client clean w h
happens_sound (give_up client) set w good h =
    lines_sound client (λ l. gives_up l.link l) (λ l. gives_up l.link l) w (λ k l c. gives_carries (IsGoodSent k) l c) (λ l c. gives_carries IsGoodBack l c) h
happens_sound (publish client d) set w good h =
    let message = is_so (is_message d) (neither (is_none (publisher_named client w)) (not (is_message d)) good).1 in
    record {
      publishers = each IsSoundPublisher (λ p. cond (bytes_eq p.client client) (published (is_open_line p.line w) d p) p)
          (λ p s. one_named IsSoundPublisher (bytes_eq p.client client) p (published (is_open_line p.line w) d p) s (published_sound (is_open_line p.line w) d p (draft_good d message) s)) w.publishers h.publishers;
      receivers = h.receivers;
    }
happens_sound (subscribe client x) set w good h =
    let wish = is_so (is_wish x) (neither (not (may_ask (receiver_named client w))) (not (is_wish x)) good).1 in
    record {
      publishers = h.publishers;
      receivers = each IsSoundReceiver (λ r. cond (bytes_eq r.client client) (asks_wish (is_open_line r.line w) x r) r)
          (λ r s. one_named IsSoundReceiver (bytes_eq r.client client) r (asks_wish (is_open_line r.line w) x r) s (wish_sound (is_open_line r.line w) x r (wish_taken x wish) s)) w.receivers h.receivers;
    }
happens_sound (to_end client) set w good h =
    with_ends client (λ p. publisher_reads (is_open_line p.line w) p.line.down p) (λ r. receiver_reads (is_open_line r.line w) r.line.down r) w (end_reads client w)
    (λ p s. publisher_reads_sound (is_open_line p.line w) p.line.down p s) (λ r s. receiver_reads_sound (is_open_line r.line w) r.line.down r s) refl refl h
happens_sound (clock wait) set w good h = record { publishers = h.publishers; receivers = h.receivers }
happens_sound (ask a) set w good h = asks_sound set a w h
happens_sound restart set w good h = restarts_sound set w h
happens_sound (stop_before a) set w good h = restarts_sound set (before set a w) (before_sound set a w h)
happens_sound (stop_after a) set w good h = restarts_sound set (first_step set a w) (first_sound set a w h)

-- ---- a run

-- an event leaves each end sound, whichever it is
pub turned_sound : (limits : Capacity) (t : Turn) (w : World) → AreSound w → AreSound (turned limits t w)
turned_sound limits t w h = by (is_bad t.event w) refl
  where
    by : (bad : Bool) → is_bad t.event w ≡ bad → AreSound (cond bad w (happens (setting limits t) t.event w))
    by true is = h
    by false is = happens_sound t.event (setting limits t) w is h

run_sound : (limits : Capacity) (ts : List Turn) (w : World) → AreSound w → AreSound (run limits ts w)
run_sound limits [] w h = h
run_sound limits (t ∷ ts) w h = run_sound limits ts (turned limits t w) (turned_sound limits t w h)

-- where nobody is, all are sound
pub nobody_sound : (w : World) → w.publishers ≡ [] → w.receivers ≡ [] → AreSound w
nobody_sound w ps rs = record { publishers = subst (AllByRecursion IsSoundPublisher) (sym ps) tt; receivers = subst (AllByRecursion IsSoundReceiver) (sym rs) tt }

-- sound publishers have sent what a broker takes
pub from_publishers : (w : World) → AreSound w → AllByRecursion IsTakenFrom w.publishers
from_publishers w h = all_more IsSoundPublisher IsTakenFrom w.publishers sound_taken h.publishers

-- so have sound receivers
pub from_receivers : (w : World) → AreSound w → AllByRecursion IsTakenFromReceiver w.receivers
from_receivers w h = all_more IsSoundReceiver IsTakenFromReceiver w.receivers sound_taken_back h.receivers

-- in every run publishers have sent what a broker takes
pub publishers_taken : (limits : Capacity) (ts : List Turn) (w : World) → w.publishers ≡ [] → w.receivers ≡ [] → AllByRecursion IsTakenFrom (run limits ts w).publishers
publishers_taken limits ts w ps rs = from_publishers (run limits ts w) (run_sound limits ts w (nobody_sound w ps rs))

-- in every run receivers have sent what a broker takes
pub receivers_taken : (limits : Capacity) (ts : List Turn) (w : World) → w.publishers ≡ [] → w.receivers ≡ [] → AllByRecursion IsTakenFromReceiver (run limits ts w).receivers
receivers_taken limits ts w ps rs = from_receivers (run limits ts w) (run_sound limits ts w (nobody_sound w ps rs))
