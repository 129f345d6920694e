-- Behind each event nothing whole is held of a stranger's bytes.
use Rattle.std.proofs.Common.{◌≡◌, ◌≤◌, ℕ, zero, suc, Bool, true, false, cond, List, [], length, Option, Some, None, bytes_eq, refl, sym, ap, subst}
use Rattle.std.proofs.Common.{◌∙◌, arith, inl, inr}
use Rattle.std.specs.Prelude.{Ok, find}
use Rattle.std.proofs.lemmas.Bool.{cases_Bool}
use Rattle.mqtt_packet.specs.stream.Front.{first_of}
use Rattle.mqtt_world_model.specs.model.World.{Asking, Event, Setting, Stranger, World, answers_rest, ask, asks, before, break, bytes_held, call_of}
use Rattle.mqtt_world_model.specs.model.World.{clock, comes, connect_end, first_step, give_up, happens, held_after, held_count, is_bad, links}
use Rattle.mqtt_world_model.specs.model.World.{next_line, old_to_broker, publish, publisher, pump, receiver, restart, restarts, step, stop_after}
use Rattle.mqtt_world_model.specs.model.World.{stop_before, stranger, stranger_named, subscribe, tick, to_broker, to_end}
use Rattle.mqtt_world_model.specs.single_steps.Unrolled.{AreAlike, AreAllAlike, HoldNoPacket, bytes_come}
use Rattle.mqtt_world_model.proofs.single_steps_lemmas.Strangers.{found_holds, its}
use Rattle.mqtt_world_model.proofs.single_steps_lemmas.Answered.{Holds, if_strangers, is_none_first, less_by, next_holds, next_world, none_longer, nothing_first, still}
use Rattle.mqtt_world_model.proofs.single_steps_lemmas.Stopped.{comes_holds}
use Rattle.mqtt_world_model.proofs.single_steps_lemmas.Alike.{come_held, none_held, rest_held, same_name}

waits_by : (name held : List ℕ) (w : World) → Holds name held w → first_of held ≡ Ok None → first_of (bytes_held (stranger_named name w)) ≡ Ok None
waits_by name held w h none = by (stranger_named name w) refl
  where
    by : (o : Option Stranger) → stranger_named name w ≡ o → first_of (bytes_held o) ≡ Ok None
    by None is = nothing_first
    by (Some s) is = ap first_of (found_holds name held s w.strangers h is) ∙ none

-- what is left when all is answered
rest_done : (set : Setting) (name held : List ℕ) (n : ℕ) (w : World) → Holds name held w → length held ≤ n
    → (left : List ℕ) × Holds name left (answers_rest set n name w) × (first_of left ≡ Ok None)
rest_done set name held zero w h within = (held, h, none_longer held within)
rest_done set name held (suc n) w h within = elim (is_none_first (first_of held)) [
  | inl none ↦ (held, subst (Holds name held) (sym (still set name held w (suc n) h none)) h, none)
  | inr some ↦
      rest_done set name (held_after held) n (next_world set name w) (next_holds set name held w h)
      (less_by held (first_of held) n refl within some)
]

own_waits : (set : Setting) (name bytes : List ℕ) (w : World) → AreAlike name w
    → first_of (bytes_held (stranger_named name (asks set (stranger name bytes) w))) ≡ Ok None
own_waits set name bytes w alike =
    let c = comes set name bytes w in
    let is = comes_holds set name bytes w alike in
    let n = held_count (stranger_named name c) in
    let done = rest_done set name (bytes_come name bytes w) n c is.0 (omega (arith, is.1)) in
    waits_by name done.0 (answers_rest set n name c) done.1 done.2

bytes_wait : (set : Setting) (name other bytes : List ℕ) (w : World) → AreAllAlike w → HoldNoPacket w
    → first_of (bytes_held (stranger_named name (asks set (stranger other bytes) w))) ≡ Ok None
bytes_wait set name other bytes w alike h = elim (cases_Bool (bytes_eq other name)) [
  | inl is ↦
      subst (λ (x : List ℕ). first_of (bytes_held (stranger_named x (asks set (stranger other bytes) w))) ≡ Ok None) (same_name other name is)
      (own_waits set other bytes w (alike other))
  | inr differ ↦
      let held = bytes_held (stranger_named name w) in
      let c = comes set other bytes w in
      waits_by name held (asks set (stranger other bytes) w)
      (rest_held set name other held (held_count (stranger_named other c)) c differ (come_held set name other held bytes w differ (alike name)))
      (h name)
]

same_wait : (v w : World) → v.strangers ≡ w.strangers → HoldNoPacket w → HoldNoPacket v
same_wait v w is h name = ap (λ (ss : List Stranger). first_of (bytes_held (find (its name) ss))) is ∙ h name

restart_waits : (set : Setting) (w : World) → HoldNoPacket (restarts set w)
restart_waits set w name = waits_by name [] (restarts set w) (none_held name w.strangers) nothing_first

asks_wait : (set : Setting) (a : Asking) (w : World) → AreAllAlike w → HoldNoPacket w → HoldNoPacket (asks set a w)
asks_wait set (to_broker client) w alike h =
    same_wait (asks set (to_broker client) w) w (if_strangers set (call_of set (to_broker client) w) (before set (to_broker client) w)) h
asks_wait set (old_to_broker client) w alike h =
    same_wait (asks set (old_to_broker client) w) w (if_strangers set (call_of set (old_to_broker client) w) (before set (old_to_broker client) w)) h
asks_wait set (break client) w alike h = same_wait (asks set (break client) w) w (if_strangers set (call_of set (break client) w) w) h
asks_wait set (pump client) w alike h = same_wait (asks set (pump client) w) w (if_strangers set (call_of set (pump client) w) w) h
asks_wait set tick w alike h = same_wait (asks set tick w) w (if_strangers set (call_of set tick w) w) h
asks_wait set (stranger other bytes) w alike h = λ name. bytes_wait set name other bytes w alike h

links_wait : (set : Setting) (line : Option ℕ) (client : List ℕ) (clean : Bool) (w : World) → HoldNoPacket w → HoldNoPacket (links set line client clean w)
links_wait set None client clean w h = h
links_wait set (Some n) client clean w h = h

happens_wait : (set : Setting) (e : Event) (w : World) → AreAllAlike w → HoldNoPacket w → HoldNoPacket (happens set e w)
happens_wait set (publisher client) w alike h = h
happens_wait set (receiver client window aliases) w alike h = h
happens_wait set (connect_end client clean) w alike h = links_wait set (next_line set.limits w.broker) client clean w h
happens_wait set (give_up client) w alike h = h
happens_wait set (publish client d) w alike h = h
happens_wait set (subscribe client x) w alike h = h
happens_wait set (to_end client) w alike h = h
happens_wait set (clock wait) w alike h = h
happens_wait set (ask a) w alike h = asks_wait set a w alike h
happens_wait set restart w alike h = restart_waits set w
happens_wait set (stop_before a) w alike h = restart_waits set (before set a w)
happens_wait set (stop_after a) w alike h = restart_waits set (first_step set a w)

-- behind an event no stranger holds a whole packet
pub step_waits : (set : Setting) (e : Event) (w : World) → AreAllAlike w → HoldNoPacket w → HoldNoPacket (step set e w)
step_waits set e w alike h = by (is_bad e w)
  where
    by : (t : Bool) → HoldNoPacket (cond t w (happens set e w))
    by true = h
    by false = happens_wait set e w alike h
