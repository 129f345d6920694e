-- Each event keeps the invariant, and what it says of a message.
use Rattle.std.proofs.Common.{◌≡◌, inl, inr, ℕ, ◌≤◌, Bool, true, false, ◌||◌, List, [], ◌∷◌, ◌++◌, length, refl, sym, ◌∙◌, subst, arith, Option, Some, None}
use Rattle.mqtt_base.specs.declared.limits.TheConstants.{OPEN_LIMIT}
use Rattle.mqtt_base.specs.Codes.{session_taken_over}
use Rattle.mqtt_flow.specs.inbound.Line.{Link, away, asked, live, sent_on}
use Rattle.mqtt_flow.specs.inbound.Publisher.{Qos, Finish, completed, refused, forgotten, Fate, sent_1, ended_1, sent, released, ended, FromPublisher, CONNECT, ToPublisher, DISCONNECT, IsExactlyOnce}
use Rattle.mqtt_flow.specs.inbound.InboundWorld.{World, Choice, Event, publish, to_broker, old_to_broker, to_end, give_up, break, connect, close, close_old, restart, send_unsent, closed_by, taken_over, on_connect, on_old_connect, on_give_up, on_join, broker_reads, broker_reads_old, step, start, run, fate_of, accepted_count}
use Rattle.mqtt_flow.proofs.inbound_lemmas.inbound.Stages.{free, Told, Weak, EndTold, EndTold_1, Blank, blank_away, blank_asking, blank_shut, blank_answered, IsLate, is_away, Norm, Fresh, Good, same_stage}
use Rattle.mqtt_flow.proofs.inbound_lemmas.inbound.BrokerReads.{late_is_old, late_spared, reads_up}
use Rattle.mqtt_flow.proofs.inbound_lemmas.inbound.Lines.{quiet_push, closes, drops_old, reads_old, leaves, gives_up, joins}
use Rattle.mqtt_flow.proofs.inbound_lemmas.inbound.Sends.{goes_out}
use Rattle.mqtt_flow.proofs.inbound_lemmas.inbound.PublisherReads.{reads_down, reads_anew}

restarts : (w : World) → Norm w → Norm (record w { link = away; linked = false; up = []; down = []; old = [] })
restarts w inv = record {
  each = λ j. ((inv.each j).0, same_stage (inv.each j).1 refl (inl refl) (inl refl) (inl refl) refl);
  told = inv.told;
  calm = is_away refl refl refl refl;
  within = inv.within;
  begun = inv.begun;
  olds = inl refl;
}

waits : (qos : Qos) (w : World) → Norm w → Norm (record w { unsent = w.unsent ++ qos ∷ [] })
waits qos w inv = record { each = inv.each; told = inv.told; calm = inv.calm; within = inv.within; begun = inv.begun; olds = inv.olds }

keeps : (w : World) (e : Event) → Norm w → Good (step w e)
keeps w (publish qos) inv = inl (goes_out w.link (record w { unsent = w.unsent ++ qos ∷ [] }) refl (waits qos w inv))
keeps w (to_broker choice) inv = reads_up choice w.up w refl inv
keeps w (old_to_broker choice) inv = inl (reads_old choice w.old w refl inv)
keeps w to_end inv = inl (reads_down w.down w refl inv)
keeps w give_up inv = inl (gives_up w.link w.clean w refl refl inv)
keeps w break inv = inl (leaves w w.clean inv)
keeps w (connect clean) inv = inl (joins w.link clean w inv)
keeps w (close code) inv = inl (closes code w inv)
keeps w close_old inv = inl (drops_old w [] refl inv)
keeps w restart inv = inl (restarts w inv)

-- after a Clean Start, until its CONNACK is read
fresh_lines : (w : World) (link' : Link) (linked' : Bool) (up' old' : List FromPublisher) (down' : List ToPublisher) → IsLate old' → Blank link' linked' up' down' → Fresh w → Fresh (record w { link = link'; linked = linked'; up = up'; down = down'; old = old' })
fresh_lines w link' linked' up' old' down' late lines h = record { of_ids = h.of_ids; late = late; lines = lines; weak = h.weak; pending = h.pending; begun = h.begun }

not_live : {A : Type 0} {l : Link} {b : Bool} {up : List FromPublisher} {down : List ToPublisher} → Blank l b up down → l ≡ live → A
not_live (blank_away l b u d) e = let x = sym l ∙ e in absurd (cc)
not_live (blank_asking l b u d) e = let x = sym l ∙ e in absurd (cc)
not_live (blank_shut l b u d) e = let x = sym l ∙ e in absurd (cc)
not_live (blank_answered rest l u d q) e = let x = sym l ∙ e in absurd (cc)

fresh_waits : (l : Link) (qos : Qos) (w : World) → w.link ≡ l → Fresh w → Fresh (send_unsent l (record w { unsent = w.unsent ++ qos ∷ [] }))
fresh_waits away qos w e h = record { of_ids = h.of_ids; late = h.late; lines = h.lines; weak = h.weak; pending = h.pending; begun = h.begun }
fresh_waits asked qos w e h = record { of_ids = h.of_ids; late = h.late; lines = h.lines; weak = h.weak; pending = h.pending; begun = h.begun }
fresh_waits live qos w e h = not_live h.lines e

-- its CONNECT comes
fresh_connect : (choice : Choice) (w : World) → w.link ≡ asked → w.down ≡ [] → Fresh w → Fresh (broker_reads choice (CONNECT true ∷ []) w)
fresh_connect choice w l d h = subst (λ t. Fresh (on_connect t true choice [] w)) (sym h.begun) (record {
  of_ids = refl;
  late = late_spared w.old (late_is_old h.late);
  lines = blank_answered [] l refl (rw d refl) tt;
  weak = h.weak;
  pending = h.pending;
  begun = h.begun;
})

fresh_up : (choice : Choice) (w : World) → Blank w.link w.linked w.up w.down → Fresh w → Fresh (broker_reads choice w.up w)
fresh_up choice w (blank_away l b u d) h = subst (λ up. Fresh (broker_reads choice up w)) (sym u) h
fresh_up choice w (blank_asking l b u d) h = subst (λ up. Fresh (broker_reads choice up w)) (sym u) (fresh_connect choice w l d h)
fresh_up choice w (blank_shut l b u d) h = subst (λ up. Fresh (broker_reads choice up w)) (sym u) h
fresh_up choice w (blank_answered rest l u d q) h = subst (λ up. Fresh (broker_reads choice up w)) (sym u) h

-- the broker closes the line
blank_closed : (b : Bool) (code : ℕ) {l : Link} {up : List FromPublisher} {down : List ToPublisher} → Blank l b up down → Blank l false [] (sent_on b down (DISCONNECT code ∷ []))
blank_closed true code (blank_away l b u d) = absurd (cc)
blank_closed true code (blank_asking l b u d) = absurd (cc)
blank_closed true code (blank_shut l b u d) = absurd (cc)
blank_closed true code (blank_answered rest l u d q) = blank_answered (rest ++ DISCONNECT code ∷ []) l refl (rw d refl) (quiet_push rest code q)
blank_closed false code (blank_away l b u d) = blank_away l refl refl d
blank_closed false code (blank_asking l b u d) = blank_shut l refl refl d
blank_closed false code (blank_shut l b u d) = blank_shut l refl refl d
blank_closed false code (blank_answered rest l u d q) = blank_answered rest l refl d q

fresh_closes : (code : ℕ) (w : World) → Fresh w → Fresh (closed_by code w)
fresh_closes code w h = fresh_lines w w.link false [] w.old (sent_on w.linked w.down (DISCONNECT code ∷ [])) h.late (blank_closed w.linked code h.lines) h

fresh_over : (b : Bool) (w : World) → Fresh w → Fresh (taken_over b w)
fresh_over true w h = fresh_closes session_taken_over w h
fresh_over false w h = h

fresh_drops : (w : World) → Fresh w → Fresh (record w { old = [] })
fresh_drops w h = fresh_lines w w.link w.linked w.up [] w.down (inl refl) h.lines h

-- a late CONNECT
fresh_old : (choice : Choice) (w : World) → IsLate w.old → Fresh w → Fresh (broker_reads_old choice w.old w)
fresh_old choice w (inl e) h = subst (λ old. Fresh (broker_reads_old choice old w)) (sym e) h
fresh_old choice w (inr e) h = subst (λ old. Fresh (broker_reads_old choice old w)) (sym e)
    (subst (λ t. Fresh (on_old_connect t false choice [] w)) (sym h.begun) (fresh_over w.linked (record w { old = [] }) (fresh_drops w h)))

fresh_gives : (l : Link) (c : Bool) (w : World) → w.link ≡ l → c ≡ true → Fresh w → Fresh (on_give_up l c w)
fresh_gives away c w l e h = h
fresh_gives asked true w l e h = h
fresh_gives asked false w l e h = absurd (cc)
fresh_gives live c w l e h = not_live h.lines l

fresh_joins : (l : Link) (c : Bool) (w : World) → Fresh w → Fresh (on_join l c w)
fresh_joins away c w h =
    let p : (w.clean || c) ≡ true = rw h.pending refl in
    record { of_ids = h.of_ids; late = h.late; lines = blank_asking refl refl (rw p refl) refl; weak = h.weak; pending = p; begun = h.begun }
fresh_joins asked c w h = h
fresh_joins live c w h = h

fresh_keeps : (w : World) (e : Event) → Fresh w → Good (step w e)
fresh_keeps w (publish qos) h = inr (fresh_waits w.link qos w refl h)
fresh_keeps w (to_broker choice) h = inr (fresh_up choice w h.lines h)
fresh_keeps w (old_to_broker choice) h = inr (fresh_old choice w h.late h)
fresh_keeps w to_end h = reads_anew w h
fresh_keeps w give_up h = inr (fresh_gives w.link w.clean w refl h.pending h)
fresh_keeps w break h = inr (fresh_lines w away false [] w.old [] h.late (blank_away refl refl refl refl) h)
fresh_keeps w (connect clean) h = inr (fresh_joins w.link clean w h)
fresh_keeps w (close code) h = inr (fresh_closes code w h)
fresh_keeps w close_old h = inr (fresh_drops w h)
fresh_keeps w restart h = inr (fresh_lines w away false [] [] [] (inl refl) (blank_away refl refl refl refl) h)

-- every event leaves the hop in order
pub good_keeps : (w : World) (e : Event) → Good w → Good (step w e)
good_keeps w e (inl h) = keeps w e h
good_keeps w e (inr h) = fresh_keeps w e h

-- at first the hop is in order
pub begins : Good start
begins = inl (record {
  each = λ j. (free, record { holds = refl; of_old = inl refl; of_up = inl refl; of_down = inl refl; open_is = refl; fits = tt });
  told = λ n. refl;
  calm = is_away refl refl refl refl;
  within = omega arith;
  begun = λ _. (refl, refl);
  olds = inl refl;
})

runs : (es : List Event) (w : World) → Good w → Good (run es w)
runs [] w inv = inv
runs (e ∷ es) w inv = runs es (step w e) (good_keeps w e inv)

-- in every run the hop is in order
pub is_good : (es : List Event) → Good (run es start)
is_good es = runs es start begins

-- what the invariant says of a message
end_once : (c : ℕ) (by : Finish) → EndTold c by → c ≤ 1
end_once c completed t = omega arith
end_once c refused t = omega arith
end_once c forgotten t = t

told_once : (o : List ℕ) (c : ℕ) (f : Option Fate) → IsExactlyOnce f → Told o c f → c ≤ 1
told_once o c None q t = omega arith
told_once o c (Some (sent_1 i)) q t = absurd q
told_once o c (Some (ended_1 by)) q t = absurd q
told_once o c (Some (sent i)) q t = grind arith
told_once o c (Some (released i)) q t = omega arith
told_once o c (Some (ended by)) q t = end_once c by t

weak_once : (c : ℕ) (f : Option Fate) → IsExactlyOnce f → Weak c f → c ≤ 1
weak_once c None q t = omega arith
weak_once c (Some (sent_1 i)) q t = absurd q
weak_once c (Some (ended_1 by)) q t = absurd q
weak_once c (Some (sent i)) q t = t
weak_once c (Some (released i)) q t = t
weak_once c (Some (ended by)) q t = end_once c by t

-- a message that is to come exactly once was accepted at most once
pub once : (w : World) (n : ℕ) → Good w → IsExactlyOnce (fate_of n w) → accepted_count n w ≤ 1
once w n (inl h) q = told_once w.ids (accepted_count n w) (fate_of n w) q (h.told n)
once w n (inr h) q = weak_once (accepted_count n w) (fate_of n w) q (h.weak n)

-- and of one whose handshake has ended
pub ended_is : (w : World) (n : ℕ) (by : Finish) → Good w → fate_of n w ≡ Some (ended by) → EndTold (accepted_count n w) by
ended_is w n by (inl h) e = subst (Told w.ids (accepted_count n w)) e (h.told n)
ended_is w n by (inr h) e = subst (Weak (accepted_count n w)) e (h.weak n)

-- a message of QoS 1 that ended so was accepted as its end tells
pub ended_1_is : (w : World) (n : ℕ) (by : Finish) → Good w → fate_of n w ≡ Some (ended_1 by) → EndTold_1 (accepted_count n w) by
ended_1_is w n by (inl h) e = subst (Told w.ids (accepted_count n w)) e (h.told n)
ended_1_is w n by (inr h) e = subst (Weak (accepted_count n w)) e (h.weak n)

-- a message that was not sent was not accepted
pub unsent_is : (w : World) (n : ℕ) → Good w → fate_of n w ≡ None → accepted_count n w ≡ 0
unsent_is w n (inl h) e = subst (Told w.ids (accepted_count n w)) e (h.told n)
unsent_is w n (inr h) e = subst (Weak (accepted_count n w)) e (h.weak n)

-- never are more identifiers open than may be
pub few : (w : World) → Good w → length w.ids ≤ OPEN_LIMIT
few w (inl h) = h.within
few w (inr h) = rw h.of_ids (omega arith)
