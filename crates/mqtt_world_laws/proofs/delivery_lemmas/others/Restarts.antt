-- The broker restarts, or stops before a commit and restarts, in the eyes of one receiver (MQTT 5.0, 4.1).
use Rattle.std.proofs.Common.{◌≡◌, ℕ, Bool, true, false, cond, List, [], ◌∷◌, ◌++◌, map, Option, Some, None, bytes_eq, refl, sym, ap, subst, ◌∙◌, append-nil, inr}
use Rattle.std.specs.Prelude.{⊤, is_some, option_map}
use Rattle.std.specs.List.{AllByRecursion}
use Rattle.mqtt_base.specs.declared.session.CopyId.{CopyId}
use Rattle.mqtt_flow.specs.inbound.InboundWorld.{World as Hop}
use Rattle.mqtt_world_model.specs.model.Ends.{Back, Receiver, Sent}
use Rattle.mqtt_world_model.specs.model.Hops.{Own}
use Rattle.mqtt_world_model.specs.model.Lines.{Line}
use Rattle.mqtt_world_model.specs.model.Run.{read_opening}
use Rattle.mqtt_world_model.specs.model.Seats.{IsHis, absent, over}
use Rattle.mqtt_world_model.specs.model.World.{Asking, Setting, Stranger, World, before, break, happens, old_to_broker, publisher_restarted, pump, receiver_named, receiver_restarted, restart, restarts, stop_before, stranger, taken_old, taken_up, tick, to_broker, unlinked, with_line}
use Rattle.mqtt_world_model.proofs.model_lemmas.seats.Places.{opening_place}
use Rattle.mqtt_world_model.proofs.model_lemmas.connects.Restarts.{restart_is_hop, restart_owns}
use Rattle.mqtt_world_model.proofs.model_lemmas.seats.Seats.{kept_of}
use Rattle.mqtt_rules.proofs.step_lemmas.numbers.NumberSteps.{opening_fell}
use Rattle.mqtt_rules.specs.step.Numbers.{NoneFell}
use Rattle.mqtt_rules.specs.step.State.{Line as BrokerLine, Broker, MemberChoice, session_named}
use Rattle.mqtt_rules.specs.declared.step.Capacity.{Capacity}
use Rattle.mqtt_world_laws.specs.acceptance.Spending.{spending}
use Rattle.mqtt_world_laws.proofs.acceptance_lemmas.publishers.Ends.{all_mapped, anything, find_receiver, only_receiver, unlined}
use Rattle.mqtt_world_laws.proofs.acceptance_lemmas.publishers.FirstPackets.{Takes, takes_apart, takes_old, takes_up}
use Rattle.mqtt_world_laws.proofs.acceptance_lemmas.copies.Steady.{steady_again}
use Rattle.mqtt_world_laws.specs.receiver.Own.{IsAwaiting, IsFreeLine, IsInStep}
use Rattle.mqtt_world_laws.specs.receiver.Restarts.{reopened}
use Rattle.mqtt_world_laws.specs.receiver.Served.{IsTidy}
use Rattle.mqtt_world_laws.proofs.receiver_lemmas.connects.Restarting.{lost_lines, restart_goes_on, restart_without}
use Rattle.mqtt_world_laws.proofs.receiver_lemmas.connects.Stopping.{opening_tidy}
use Rattle.mqtt_world_laws.specs.delivery.Standing.{GoesAlong, IsAround, IsOtherStranger, IsOutOf, IsPlaced, IsSeen, Stands, publisher_like, BeginWith}
use Rattle.mqtt_world_laws.proofs.delivery_lemmas.others.Around.{around_mapped, end_around, on_back, on_line}
use Rattle.mqtt_world_laws.proofs.delivery_lemmas.others.Comings.{run_of}
use Rattle.mqtt_world_laws.proofs.delivery_lemmas.others.Outside.{GoesFurther, placed_on}
use Rattle.mqtt_world_laws.proofs.delivery_lemmas.others.Strangers.{comes_stands}
use Rattle.mqtt_world_laws.proofs.delivery_lemmas.order.Growing.{begin_on, begin_then}

-- ---- the receiver

-- on no lines each is free
none_free : (ls : List BrokerLine) → AllByRecursion (IsFreeLine []) ls
none_free [] = tt
none_free (l ∷ ls) = ((λ inside. absurd cc), none_free ls)

-- a restart leaves the receiver placed
pub placed_restarted : (largest : ℕ) (ids : List CopyId) (ns : List ℕ) (limits : Capacity) (choice : MemberChoice) (now : ℕ) (r : Receiver) (b : Broker) → IsPlaced largest ids ns r b → IsTidy limits b
    → GoesFurther largest ids [] (receiver_restarted r) (reopened limits choice now b)
placed_restarted largest ids ns limits choice now r b placed tidy = by placed.birth placed.along placed.seat.his
  where
    q : Receiver
    q = receiver_restarted r

    new : Broker
    new = reopened limits choice now b

    grows : NoneFell b.records new.records
    grows = opening_fell limits choice now b.records

    by : (o : Option ℕ) → GoesAlong o largest ids ns r b → IsHis r.client o placed.line b → GoesFurther largest ids [] q new
    by None along his =
        let run = run_of None largest ids ns r b along placed.told.differ in
        let none = (restart_without _ largest run.0 limits choice now r b run.1 his).1 in
        let awaits : IsAwaiting largest ids [] q new = record {
          runs = λ number numbered.
              let h = along.runs number numbered in
              let x = (restart_without number largest h.after limits choice now r b h.run_is his).0 in
              record { after = x.after; same = x.same ∙ h.same; run_is = x.run_is };
          free = none_free new.lines;
          given = λ n inside. absurd cc;
          lines = lost_lines r;
        } in
        record {
          more = [];
          placed = placed_on largest ids [] ns [] 0 0 None r q b new placed grows refl tt tt
              (subst (λ (all : List CopyId). IsAwaiting largest all [] q new) (sym (append-nil ids)) awaits) (record { his = none; present = absent refl refl; former = over refl }) refl (λ n e f. absurd cc);
        }
    by (Some birth) along his =
        let s = kept_of r.client birth placed.line b his.0 his.1 placed.named.short placed.named.plain in
        let own = subst (λ (z : ℕ). Own r.client z placed.line b) (sym s.1) his.0 in
        let e = restart_is_hop limits choice now (publisher_like r) s.0 b [] s.2 own.sessions own.births in
        let owns = subst (λ (z : ℕ). Own r.client z 0 new) s.1 (restart_owns limits choice now r.client s.0 b s.2 own.sessions own.births) in
        let stands : is_some (session_named r.client new.records) ≡ true = ap (λ (z : Hop). z.stands) e ∙ his.1 in
        let x = restart_goes_on largest ids limits choice now birth ns r b along.runs along.served tidy placed.named.plain in
        let step : IsInStep largest (ids ++ x.more) birth [] q new = record { runs = x.runs; served = x.served; lines = lost_lines r } in
        record {
          more = x.more;
          placed = placed_on largest ids x.more ns [] birth 0 (Some birth) r q b new placed grows refl x.new x.differ step
              (record { his = (owns, stands); present = absent refl refl; former = over refl }) refl (λ n e f. absurd cc);
        }

-- ---- who stands so that a restart finds it

-- after a restart it is as if it had been somewhere
pub record Rests (largest : ℕ) (ids : List CopyId) (ns : List ℕ) (q : Receiver) (b : Broker) : Type 0 where
  pub before : Receiver
  pub placed : IsPlaced largest ids ns before b
  pub same : receiver_restarted q ≡ receiver_restarted before

abbrev pub RestsAs : ℕ → List CopyId → List ℕ → Broker → Option Receiver → Type 0
RestsAs largest ids ns b None = (ids ≡ []) × (ns ≡ [])
RestsAs largest ids ns b (Some q) = Rests largest ids ns q b

-- what is asked of the world around a receiver for a restart
pub record MayRestart (first : List CopyId) (c : List ℕ) (largest : ℕ) (limits : Capacity) (w : World) : Type 0 where
  pub ids : List CopyId
  pub grown : BeginWith first ids
  pub ns : List ℕ
  pub around : IsAround c limits ns w
  pub seen : RestsAs largest ids ns w.broker (receiver_named c w)

rests_of : (largest : ℕ) (ids : List CopyId) (ns : List ℕ) (b : Broker) (o : Option Receiver) → IsSeen largest ids ns b o → RestsAs largest ids ns b o
rests_of largest ids ns b None h = h
rests_of largest ids ns b (Some r) h = record { before = r; placed = h; same = refl }

-- who stands may go through a restart
pub may_restart : (first : List CopyId) (c : List ℕ) (largest : ℕ) (limits : Capacity) (w : World) → Stands first c largest limits w → MayRestart first c largest limits w
may_restart first c largest limits w s = record {
  ids = s.ids;
  grown = s.grown;
  ns = s.ns;
  around = s.standing.around;
  seen = rests_of largest s.ids s.ns w.broker (receiver_named c w) s.standing.seen;
}

-- ---- the restart: nobody has a line

-- and stands behind it
pub restart_stands : (first : List CopyId) (c : List ℕ) (largest : ℕ) (set : Setting) (w : World) → MayRestart first c largest set.limits w → read_opening spending set w ≡ false → Stands first c largest set.limits (restarts set w)
restart_stands first c largest set w h unspent = by (receiver_named c w) h.seen found
  where
    new : Broker
    new = reopened set.limits set.choice w.now w.broker

    found : receiver_named c (restarts set w) ≡ option_map receiver_restarted (receiver_named c w)
    found = find_receiver c receiver_restarted (λ r. refl) w.receivers

    around : IsAround c set.limits [] (restarts set w)
    around = around_mapped c set.limits h.ns [] w new w.now publisher_restarted receiver_restarted (map unlinked w.strangers) h.around
        (steady_again set.limits set.choice w.now w.broker h.around.within h.around.steady unspent) (opening_place set.limits set.choice w.now c w.broker.records) (opening_tidy set.limits set.choice w.now w.broker h.around.tidy)
        (λ n inside. absurd cc) (λ p. refl) (λ r. refl)
        (λ p x. unlined (IsOutOf []) new.given (publisher_restarted p).line refl refl) (λ r x. inr (unlined (IsOutOf []) new.given (receiver_restarted r).line refl refl))
        (all_mapped (λ (s : Stranger). ⊤) (IsOtherStranger [] new.given) unlinked w.strangers (λ s x. λ n is. absurd cc) (anything w.strangers))

    by : (o : Option Receiver) → RestsAs largest h.ids h.ns w.broker o → receiver_named c (restarts set w) ≡ option_map receiver_restarted o → Stands first c largest set.limits (restarts set w)
    by None x is = record {
      ids = [];
      grown = subst (BeginWith first) x.0 h.grown;
      ns = [];
      standing = record { around = around; seen = subst (IsSeen largest [] [] new) (sym is) (refl, refl) };
    }
    by (Some q) x is =
        let g = placed_restarted largest h.ids h.ns set.limits set.choice w.now x.before w.broker x.placed h.around.tidy in
        record {
          ids = h.ids ++ g.more;
          grown = begin_then first h.ids (h.ids ++ g.more) h.grown (begin_on h.ids g.more);
          ns = [];
          standing = record {
            around = around;
            seen = subst (IsSeen largest (h.ids ++ g.more) [] new) (sym is) (subst (λ (z : Receiver). IsPlaced largest (h.ids ++ g.more) [] z new) (sym x.same) g.placed);
          };
        }

-- ---- a stop before the first step: a packet that was taken off a line is lost with the line

taken_rests : (first : List CopyId) (c d : List ℕ) (largest : ℕ) (limits : Capacity) (w : World) (f : Line Sent → Line Sent) (g : Line Back → Line Back) → Takes f → Takes g
    → ((r : Receiver) → receiver_restarted (on_back g r) ≡ receiver_restarted r) → Stands first c largest limits w → MayRestart first c largest limits (with_line d f g w)
taken_rests first c d largest limits w f g f_takes g_takes lost s = record {
  ids = s.ids;
  grown = s.grown;
  ns = s.ns;
  around = end_around c d limits s.ns w (on_line f) (on_back g) (λ p. refl) (λ r. refl) (λ p. takes_apart (IsOutOf s.ns) w.broker.given f f_takes p.line) (λ r. takes_apart (IsOutOf s.ns) w.broker.given g g_takes r.line) s.standing.around;
  seen = subst (RestsAs largest s.ids s.ns w.broker) (sym (find_receiver c G (λ r. only_receiver (bytes_eq r.client d) (on_back g) r refl) w.receivers)) (by (receiver_named c w) s.standing.seen);
}
  where
    G : Receiver → Receiver
    G r = cond (bytes_eq r.client d) (on_back g r) r

    same : (t : Bool) (r : Receiver) → receiver_restarted (cond t (on_back g r) r) ≡ receiver_restarted r
    same true r = lost r
    same false r = refl

    by : (o : Option Receiver) → IsSeen largest s.ids s.ns w.broker o → RestsAs largest s.ids s.ns w.broker (option_map G o)
    by None x = x
    by (Some r) x = record { before = r; placed = x; same = same (bytes_eq r.client d) r }

-- also with a stop before the commit
pub before_rests : (first : List CopyId) (c : List ℕ) (a : Asking) (largest : ℕ) (set : Setting) (w : World) → Stands first c largest set.limits w → MayRestart first c largest set.limits (before set a w)
before_rests first c (to_broker d) largest set w h = taken_rests first c d largest set.limits w taken_up taken_up takes_up takes_up (λ r. refl) h
before_rests first c (old_to_broker d) largest set w h = taken_rests first c d largest set.limits w taken_old taken_old takes_old takes_old (λ r. refl) h
before_rests first c (break d) largest set w h = may_restart first c largest set.limits w h
before_rests first c (pump d) largest set w h = may_restart first c largest set.limits w h
before_rests first c tick largest set w h = may_restart first c largest set.limits w h
before_rests first c (stranger name bytes) largest set w h = may_restart first c largest set.limits (before set (stranger name bytes) w) (comes_stands first c largest set name bytes w h)

-- ---- as events

-- so it is for a restart as an event
pub restarted_stands : (first : List CopyId) (c : List ℕ) (largest : ℕ) (set : Setting) (w : World) → Stands first c largest set.limits w → read_opening spending set w ≡ false → Stands first c largest set.limits (happens set restart w)
restarted_stands first c largest set w h unspent = restart_stands first c largest set w (may_restart first c largest set.limits w h) unspent

-- and for such a stop
pub stopped_stands : (first : List CopyId) (c : List ℕ) (a : Asking) (largest : ℕ) (set : Setting) (w : World) → Stands first c largest set.limits w → read_opening spending set (before set a w) ≡ false → Stands first c largest set.limits (happens set (stop_before a) w)
stopped_stands first c a largest set w h unspent = restart_stands first c largest set (before set a w) (before_rests first c a largest set w h) unspent
