-- The broker restarts, or stops before or after a commit and restarts (MQTT 5.0, 4.1).
use Rattle.std.proofs.Common.{◌≡◌, ℕ, ◌≤◌, Bool, true, false, cond, List, [], ◌∷◌, ◌++◌, map, Option, Some, None, bytes_eq, refl, sym, ap, subst, ◌∙◌, append-nil, arith, inl, inr}
use Rattle.std.specs.Prelude.{⊤, option_map, filter_map, is_some}
use Rattle.mqtt_rules.specs.declared.step.Capacity.{Capacity}
use Rattle.mqtt_rules.specs.step.State.{Broker}
use Rattle.mqtt_rules.specs.step.Deeds.{Deed}
use Rattle.mqtt_rules.specs.step.Laws.{IsAmong}
use Rattle.mqtt_rules.specs.step.Step.{opened, unopened, env_of}
use Rattle.mqtt_world_model.specs.model.Lines.{Line, left}
use Rattle.mqtt_world_model.specs.model.Ends.{Sent, Publisher, Receiver, Back}
use Rattle.mqtt_world_model.specs.model.World.{World, Setting, Stranger, Asking, to_broker, old_to_broker, break, pump, tick, stranger, publisher_named, with_line, publisher_restarted, receiver_restarted, unlinked, restarts, taken_up, taken_old, before, first_step, is_bad_asking, lost_on, view_of}
use Rattle.mqtt_world_model.specs.model.Run.{client_number, asked_from, each_of, read_first, read_opening, the_deeds}
use Rattle.mqtt_world_model.specs.model.Seats.{IsHis, absent, over}
use Rattle.mqtt_world_model.proofs.model_lemmas.seats.Places.{opening_place}
use Rattle.mqtt_world_model.proofs.model_lemmas.own.Publishes.{numbers_append}
use Rattle.mqtt_world_model.proofs.model_lemmas.own.Calls.{restarts_come}
use Rattle.mqtt_world_laws.specs.acceptance.Spending.{spending}
use Rattle.mqtt_world_laws.proofs.acceptance_lemmas.copies.Steady.{steady_again}
use Rattle.mqtt_world_laws.proofs.acceptance_lemmas.publishers.Ends.{all_mapped, anything, find_publisher, find_receiver, is_some_mapped, only_client, unlined, whose_name}
use Rattle.mqtt_world_laws.proofs.acceptance_lemmas.publishers.Around.{IsOutOf, OtherPublisher, OtherReceiver, OtherStranger, Around, Placed, Him, Holds, Stays, longer, if_around}
use Rattle.mqtt_world_laws.proofs.acceptance_lemmas.publishers.Changes.{on_line, on_back, end_around}
use Rattle.mqtt_world_laws.proofs.acceptance_lemmas.publishers.FirstPackets.{Takes, takes_up, takes_old, takes_apart, reads_hold, reads_old_hold}
use Rattle.mqtt_world_laws.proofs.acceptance_lemmas.publishers.Strangers.{comes_holds, stranger_first}
use Rattle.mqtt_world_laws.proofs.acceptance_lemmas.publishers.Breaks.{pump_holds, tick_holds, other_lost, lost_placed}
use Rattle.mqtt_world_laws.proofs.acceptance_lemmas.copies.OpeningNumbers.{opening_none}

-- ---- who stands so that a restart finds it

-- after a restart the publisher is as if it had been somewhere
pub record Rests (q : Publisher) (b : Broker) (accepted : List ℕ) : Type 0 where
  pub his : List ℕ
  pub before : Publisher
  pub placed : Placed his before b accepted
  pub same : publisher_restarted q ≡ publisher_restarted before

abbrev pub RestsAs : Broker → List ℕ → Option Publisher → Type 0
RestsAs b accepted None = accepted ≡ []
RestsAs b accepted (Some q) = Rests q b accepted

-- what is asked of the world around a publisher for a restart
pub record MayRestart (c : List ℕ) (limits : Capacity) (accepted : List ℕ) (w : World) : Type 0 where
  pub his : List ℕ
  pub around : Around c limits his w
  pub him : RestsAs w.broker accepted (publisher_named c w)

rests_of : (his : List ℕ) (b : Broker) (accepted : List ℕ) (o : Option Publisher) → Him his b accepted o → RestsAs b accepted o
rests_of his b accepted None h = h
rests_of his b accepted (Some p) h = record { his = his; before = p; placed = h; same = refl }

-- who is in step may go through a restart
pub may_restart : (c : List ℕ) (limits : Capacity) (his accepted : List ℕ) (w : World) → Holds c limits his accepted w → MayRestart c limits accepted w
may_restart c limits his accepted w h = record { his = his; around = h.around; him = rests_of his w.broker accepted (publisher_named c w) h.him }

-- ---- the restart

-- the publisher has no line; the number that its session is known by is one that was given
pub record IsBack (p : Publisher) (new : Broker) (accepted : List ℕ) : Type 0 where
  pub line : ℕ
  pub given : line ≤ new.given
  pub placed : Placed (0 ∷ line ∷ []) (publisher_restarted p) new accepted

given_line : (client : List ℕ) (o : Option ℕ) (k : ℕ) (b : Broker) → IsHis client o k b → (j : ℕ) × (j ≤ b.given) × IsHis client o j b
given_line client None k b h = (0, omega arith, h)
given_line client (Some birth) k b h = (k, h.0.given, h)

back_again : (set : Setting) (now : ℕ) (his : List ℕ) (p : Publisher) (b : Broker) (accepted : List ℕ) → Placed his p b accepted
    → IsBack p (opened set.limits set.choice now b.records) accepted
back_again set now his p b accepted placed =
    let new = opened set.limits set.choice now b.records in
    let x = restarts_come set.limits set.choice now placed.birth placed.line p b accepted placed.seat.his placed.named in
    let his_ = given_line p.client x.birth x.line new x.seat.his in
    record {
      line = his_.0;
      given = his_.1;
      placed = record {
        birth = x.birth;
        line = his_.0;
        seat = record { his = his_.2; present = absent refl refl; former = over refl };
        its_line = inr (inl refl);
        number = λ j is. absurd cc;
        old_number = λ j is. absurd cc;
        apart = λ j is old. absurd cc;
        settled = λ f. absurd cc;
        named = placed.named;
        run = longer accepted accepted p (publisher_restarted p) b new x.events placed.run x.seen_is;
      };
    }

-- nobody has a line
all_restarted : (c : List ℕ) (set : Setting) (his accepted : List ℕ) (w : World) → MayRestart c set.limits accepted w → read_opening spending set w ≡ false
    → ((j : ℕ) → IsAmong j his → j ≤ (opened set.limits set.choice w.now w.broker.records).given) → IsAmong 0 his → Around c set.limits his (restarts set w)
all_restarted c set his accepted w h unspent known none = record {
  within = h.around.within;
  steady = steady_again set.limits set.choice w.now w.broker h.around.within h.around.steady unspent;
  known = known;
  none = none;
  publishers = all_mapped (λ (p : Publisher). ⊤) (OtherPublisher c his new.given) publisher_restarted w.publishers (λ p x. inr (unlined (IsOutOf his) new.given (publisher_restarted p).line refl refl)) (anything w.publishers);
  receivers = all_mapped (λ (r : Receiver). ⊤) (OtherReceiver his new.given) receiver_restarted w.receivers (λ r x. unlined (IsOutOf his) new.given (receiver_restarted r).line refl refl) (anything w.receivers);
  strangers = all_mapped (λ (s : Stranger). ⊤) (OtherStranger his new.given) unlinked w.strangers (λ s x. λ j is. absurd cc) (anything w.strangers);
  alone = λ there. find_receiver c receiver_restarted (λ r. refl) w.receivers
      ∙ ap (option_map receiver_restarted) (h.around.alone (before there));
  place = λ there. opening_place set.limits set.choice w.now c w.broker.records (h.around.place (before there));
}
  where
    before : is_some (publisher_named c (restarts set w)) ≡ true → is_some (publisher_named c w) ≡ true
    before there = sym (is_some_mapped publisher_restarted (publisher_named c w)) ∙ (sym (ap is_some (find_publisher c publisher_restarted (λ p. refl) w.publishers)) ∙ there)

    new : Broker
    new = opened set.limits set.choice w.now w.broker.records

-- a restart leaves the publisher in step
pub restart_stays : (c : List ℕ) (set : Setting) (accepted : List ℕ) (w : World) → MayRestart c set.limits accepted w → read_opening spending set w ≡ false → Stays c set.limits accepted (restarts set w)
restart_stays c set accepted w h unspent = by (publisher_named c w) h.him found
  where
    new : Broker
    new = opened set.limits set.choice w.now w.broker.records

    found : publisher_named c (restarts set w) ≡ option_map publisher_restarted (publisher_named c w)
    found = find_publisher c publisher_restarted (λ p. refl) w.publishers

    given : (k j : ℕ) → k ≤ new.given → IsAmong j (0 ∷ k ∷ []) → j ≤ new.given
    given k j le (inl is) = omega (arith, is)
    given k j le (inr (inl is)) = omega (arith, is, le)
    given k j le (inr (inr no_)) = absurd no_

    by : (o : Option Publisher) → RestsAs w.broker accepted o → publisher_named c (restarts set w) ≡ option_map publisher_restarted o → Stays c set.limits accepted (restarts set w)
    by None x is = record {
      his = 0 ∷ 0 ∷ [];
      holds = record {
        around = all_restarted c set (0 ∷ 0 ∷ []) accepted w h unspent (λ j among. given 0 j (omega arith) among) (inl refl);
        him = subst (Him (0 ∷ 0 ∷ []) new accepted) (sym is) x;
      };
    }
    by (Some q) x is =
        let back = back_again set w.now x.his x.before w.broker accepted x.placed in
        let his = 0 ∷ back.line ∷ [] in
        record {
          his = his;
          holds = record {
            around = all_restarted c set his accepted w h unspent (λ j among. given back.line j back.given among) (inl refl);
            him = subst (Him his new accepted) (sym is) (subst (λ (z : Publisher). Placed his z new accepted) (sym x.same) back.placed);
          };
        }

-- ---- a stop before the first step

-- a packet that was taken off a line is lost with the line
taken_rests : (c d : List ℕ) (limits : Capacity) (his accepted : List ℕ) (w : World) (f : Line Sent → Line Sent) (g : Line Back → Line Back) → Takes f → Takes g
    → ((p : Publisher) → publisher_restarted (on_line f p) ≡ publisher_restarted p) → Holds c limits his accepted w → MayRestart c limits accepted (with_line d f g w)
taken_rests c d limits his accepted w f g f_takes g_takes lost h = record {
  his = his;
  around = end_around c d limits his w (on_line f) (on_back g) (λ p. refl) (λ r. refl) (λ p. takes_apart (IsOutOf his) w.broker.given f f_takes p.line) (λ r. takes_apart (IsOutOf his) w.broker.given g g_takes r.line) h.around;
  him = subst (RestsAs w.broker accepted) (sym (find_publisher c F (λ p. only_client (bytes_eq p.client d) (on_line f) p refl) w.publishers)) (by (publisher_named c w) h.him);
}
  where
    F : Publisher → Publisher
    F p = cond (bytes_eq p.client d) (on_line f p) p

    same : (t : Bool) (p : Publisher) → publisher_restarted (cond t (on_line f p) p) ≡ publisher_restarted p
    same true p = lost p
    same false p = refl

    by : (o : Option Publisher) → Him his w.broker accepted o → RestsAs w.broker accepted (option_map F o)
    by None x = x
    by (Some p) x = record { his = his; before = p; placed = x; same = same (bytes_eq p.client d) p }

-- also with a stop before the commit
pub before_rests : (c : List ℕ) (a : Asking) (set : Setting) (his accepted : List ℕ) (w : World) → Holds c set.limits his accepted w → MayRestart c set.limits accepted (before set a w)
before_rests c (to_broker d) set his accepted w h = taken_rests c d set.limits his accepted w taken_up taken_up takes_up takes_up (λ p. refl) h
before_rests c (old_to_broker d) set his accepted w h = taken_rests c d set.limits his accepted w taken_old taken_old takes_old takes_old (λ p. refl) h
before_rests c (break d) set his accepted w h = may_restart c set.limits his accepted w h
before_rests c (pump d) set his accepted w h = may_restart c set.limits his accepted w h
before_rests c tick set his accepted w h = may_restart c set.limits his accepted w h
before_rests c (stranger name bytes) set his accepted w h = may_restart c set.limits his accepted (before set (stranger name bytes) w) (comes_holds c set his accepted name bytes w h)

-- ---- a stop after it

-- the publisher's line was lost, and it has not left that yet
lost_rests : (c d : List ℕ) (set : Setting) (his accepted : List ℕ) (w : World) → Holds c set.limits his accepted w → read_first spending set (break d) w ≡ false → MayRestart c set.limits accepted (first_step set (break d) w)
lost_rests c d set his accepted w h unspent = elim (whose_name c d w) [
  | inr not_him ↦ may_restart c set.limits his accepted (first_step set (break d) w) (other_lost c d set his accepted w h not_him unspent)
  | inl own ↦ subst (λ (x : List ℕ). MayRestart c set.limits accepted (first_step set (break x) w)) (sym own.2)
      (own_lost own.0 own.1 (subst (λ (x : List ℕ). read_first spending set (break x) w ≡ false) own.2 unspent))
]
  where
    own_lost : (p : Publisher) → publisher_named c w ≡ Some p → read_first spending set (break c) w ≡ false → MayRestart c set.limits accepted (first_step set (break c) w)
    own_lost p e u =
        let x = lost_placed c set his accepted w p e (subst (Him his w.broker accepted) e h.him) in
        record {
          his = his;
          around = if_around c set his (lost_on (view_of c w).number) w h.around u;
          him = subst (RestsAs (first_step set (break c) w).broker accepted) (sym x.1)
              (record { his = his; before = record x.0 { line = left x.0.line }; placed = x.2; same = refl });
        }

-- the messages of the publisher's that the first step accepts
abbrev pub first_accepted : List ℕ → Setting → Asking → World → List ℕ
first_accepted c set a w = each_of (asked_from c a w) (read_first the_deeds set a w)

-- and with one behind it
pub after_rests : (c : List ℕ) (a : Asking) (set : Setting) (his accepted : List ℕ) (w : World) → Holds c set.limits his accepted w → is_bad_asking a w ≡ false → read_first spending set a w ≡ false
    → MayRestart c set.limits (accepted ++ first_accepted c set a w) (first_step set a w)
after_rests c (to_broker d) set his accepted w h good unspent =
    may_restart c set.limits his (accepted ++ first_accepted c set (to_broker d) w) (first_step set (to_broker d) w) (reads_hold c d set his accepted w h unspent)
after_rests c (old_to_broker d) set his accepted w h good unspent =
    may_restart c set.limits his (accepted ++ first_accepted c set (old_to_broker d) w) (first_step set (old_to_broker d) w) (reads_old_hold c d set his accepted w h unspent)
after_rests c (break d) set his accepted w h good unspent =
    subst (λ (ns : List ℕ). MayRestart c set.limits ns (first_step set (break d) w)) (sym (append-nil accepted)) (lost_rests c d set his accepted w h unspent)
after_rests c (pump d) set his accepted w h good unspent =
    subst (λ (ns : List ℕ). MayRestart c set.limits ns (first_step set (pump d) w)) (sym (append-nil accepted))
    (may_restart c set.limits his accepted (first_step set (pump d) w) (pump_holds c d set his accepted w h unspent))
after_rests c tick set his accepted w h good unspent =
    subst (λ (ns : List ℕ). MayRestart c set.limits ns (first_step set tick w)) (sym (append-nil accepted))
    (may_restart c set.limits his accepted (first_step set tick w) (tick_holds c set his accepted w h unspent))
after_rests c (stranger name bytes) set his accepted w h good unspent =
    subst (λ (ns : List ℕ). MayRestart c set.limits ns (first_step set (stranger name bytes) w)) (sym (append-nil accepted))
    (may_restart c set.limits his accepted (first_step set (stranger name bytes) w) (stranger_first c name bytes set his accepted w h good unspent))

-- no message is accepted as the broker opens again
pub each_opened : (o : Option ℕ) (ds : List Deed) (set : Setting) (w : World) → each_of o (ds ++ read_opening the_deeds set w) ≡ each_of o ds
each_opened None ds set w = refl
each_opened (Some n) ds set w =
    let b = unopened w.now w.broker.records in
    ap (map (λ number. n)) (numbers_append ds (read_opening the_deeds set w) ∙ (ap (λ (ks : List ℕ). filter_map client_number ds ++ ks) (opening_none (env_of set.limits set.choice b) b) ∙ append-nil (filter_map client_number ds)))
