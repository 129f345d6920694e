-- Each publication that is accepted was routed on the state in which it was accepted, in every run whatever.
use Rattle.std.proofs.Common.{◌≡◌, ℕ, zero, suc, Bool, true, false, cond, List, [], ◌∷◌, ◌++◌, map, filter, Option, Some, None}
use Rattle.std.specs.Prelude.{⊤, flat_map}
use Rattle.std.specs.List.{AllByRecursion}
use Rattle.mqtt_flow.specs.outbound.Outbound.{way_made}
use Rattle.mqtt_topic.specs.names.Names.{is_empty}
use Rattle.mqtt_records.specs.declared.messages.message.MessageCopy.{MessageCopy}
use Rattle.mqtt_records.specs.declared.messages.message.RetainedMessage.{RetainedMessage}
use Rattle.mqtt_records.specs.declared.state.session.Session.{Session}
use Rattle.mqtt_records.specs.declared.state.records.Records.{Records}
use Rattle.mqtt_rules.specs.declared.step.Capacity.{Capacity}
use Rattle.mqtt_rules.specs.step.Packets.{publish_of}
use Rattle.mqtt_rules.specs.step.State.{Broker, Env, session_at, line_of, queue_on}
use Rattle.mqtt_rules.specs.step.Deeds.{whose, Message, Origin, Enter, Deed, Accept, Begin, Name, Count, At, Finish, Keep, Forget, RefuseWill, Link, On, Send, Gone, after, after_all, always, series, with_session}
use Rattle.mqtt_rules.specs.step.Deeds as deeds
use Rattle.mqtt_rules.specs.step.Fitting.{has_form}
use Rattle.mqtt_rules.specs.step.Outbound.{leave_deeds, since, queue_limits, enter_deeds}
use Rattle.mqtt_rules.specs.step.Routing.{CopyTo, is_queued, deliver_by, deliver, retained_of, forgets, retain_by, next_publication, accepted_copies, publish}
use Rattle.mqtt_rules.specs.step.Subscribe as sub
use Rattle.mqtt_rules.specs.step.Step.{Call, at_moment, env_of, deeds_of, deeds, opening, unopened}
use Rattle.mqtt_rules.proofs.step_lemmas.acts.Offers.{of_offer_if}
use Rattle.mqtt_rules.proofs.step_lemmas.acts.Goods.{AreGood, good_append}
use Rattle.mqtt_rules.proofs.step_lemmas.acts.Acts.{brought_to}
use Rattle.mqtt_rules.proofs.step_lemmas.order.OrderedActs.{IsPlain, ArePlain, Keeping, leads_all, leads_open, plain_flat, plain_leave}
use Rattle.mqtt_world_model.specs.model.World.{World, Setting, Event, publisher, receiver, connect_end, give_up, publish as publishes, subscribe, to_end, clock, ask, restart, stop_before, stop_after, Asking, to_broker, old_to_broker, break, pump, tick, stranger, stranger_named, calls_if, comes, next_held, call_of_stranger, held_count, before, call_of, first_step, is_bad}
use Rattle.mqtt_world_model.specs.model.Run.{Turn, setting, turned, Acceptance, acceptances_of, acceptances_over, read_if, read_rest, read_first, read_asked, read_opening, read_in, the_acceptances}
use Rattle.mqtt_world_laws.specs.acceptance.Copies.{IsRouted, AreRouted}

-- ---- of each deed

abbrev IsGood : Env → Deed → Broker → Type 0
IsGood env (Accept number origin m) b = IsRouted (record { number = number; message = m; env = env; broker = b })
IsGood env d b = ⊤

abbrev IsOther : Deed → Type 0
IsOther (Accept number origin m) = ⊥
IsOther d = ⊤

abbrev Nothing : Records → Type 0
Nothing r = ⊤

module _ (env : Env) where
  abbrev Good : Deed → Broker → Type 0
  Good d b = IsGood env d b

  other_good : (d : Deed) (b : Broker) → IsOther d → Good d b
  other_good (Accept number origin m) b q = absurd q
  other_good (Begin row will) b q = tt
  other_good (Name n) b q = tt
  other_good (Count n) b q = tt
  other_good (At who part) b q = tt
  other_good (Finish who) b q = tt
  other_good (Keep kept) b q = tt
  other_good (Forget place) b q = tt
  other_good (RefuseWill who) b q = tt
  other_good (Link n) b q = tt
  other_good (On line part) b q = tt
  other_good (Send line packet) b q = tt
  other_good (Gone line) b q = tt

  plain_good : (d : Deed) (b : Broker) → IsPlain d → Good d b
  plain_good (Accept number origin m) b q = absurd q
  plain_good (Begin row will) b q = tt
  plain_good (Name n) b q = tt
  plain_good (Count n) b q = tt
  plain_good (At who part) b q = tt
  plain_good (Finish who) b q = tt
  plain_good (Keep kept) b q = tt
  plain_good (Forget place) b q = tt
  plain_good (RefuseWill who) b q = tt
  plain_good (Link n) b q = tt
  plain_good (On line part) b q = tt
  plain_good (Send line packet) b q = tt
  plain_good (Gone line) b q = tt

  plains_good : (ds : List Deed) (b : Broker) → ArePlain ds → AreGood Good ds b
  plains_good [] b q = tt
  plains_good (d ∷ ds) b q = (plain_good d b q.0, plains_good ds (after d b) q.1)

  -- ---- a publication, and what a SUBSCRIBE brings

  good_enter : (copy : MessageCopy) (s : Session) (b : Broker) → AreGood Good (enter_deeds env copy s) b
  good_enter copy s b =
      let ts = way_made (queue_limits env) (since env s) (queue_on [] s) in
      good_append Good (flat_map (leave_deeds s) ts) (At (whose s) (Enter copy) ∷ []) b (plains_good (flat_map (leave_deeds s) ts) b (plain_flat (leave_deeds s) (plain_leave s) ts)) (tt, tt)

  good_deliver : (t : Bool) (d : CopyTo) (b : Broker) → AreGood Good (deliver_by t env d b) b
  good_deliver true d b = by (session_at d.birth b.records)
    where
      by : (o : Option Session) → AreGood Good (with_session o (λ s. always (enter_deeds env d.copy s)) b) b
      by None = tt
      by (Some s) = good_enter d.copy s b
  good_deliver false d b = of_offer_if (λ (ds : List Deed). AreGood Good ds b) (has_form d.copy b) (line_of d.birth b) (publish_of b.now false 0 d.copy) tt (λ l there. (tt, tt))

  good_deliveries : (ds : List CopyTo) (b : Broker) → AreGood Good (series (map (deliver env) ds) b) b
  good_deliveries [] b = tt
  good_deliveries (d ∷ ds) b =
      let first = deliver env d b in
      let c = after_all first b in
      good_append Good first (series (map (deliver env) ds) c) b (good_deliver (is_queued d) d b) (good_deliveries ds c)

  good_forgets : (o : Option RetainedMessage) (b : Broker) → AreGood Good (forgets o) b
  good_forgets None b = tt
  good_forgets (Some k) b = (tt, tt)

  good_retain : (retain empty : Bool) (number : ℕ) (m : Message) (b : Broker) → AreGood Good (retain_by retain empty number m b) b
  good_retain false empty number m b = tt
  good_retain true true number m b = good_forgets (retained_of m.topic b.records) b
  good_retain true false number m b = (tt, tt)

  good_publish : (origin : Origin) (m : Message) (ds : List CopyTo) (b : Broker) → accepted_copies env m b ≡ Some ds → AreGood Good (publish env origin m ds b) b
  good_publish origin m ds b e =
      let number = next_publication b.records in
      let c = after (Accept number origin m) b in
      let next = retain_by m.retain (is_empty m.payload) number m c in
      (record { copies = ds; routed_is = e }, good_append Good next (series (map (deliver env) ds) (after_all next c)) c (good_retain m.retain (is_empty m.payload) number m c) (good_deliveries ds (after_all next c)))

  good_grants : (w : sub.Wish) (s : Session) (b : Broker) → AreGood Good (sub.granted_filter env (sub.next_number b.records) s w (brought_to w s b) b).deeds b
  good_grants w s b =
      let number = sub.next_number b.records in
      let first : List Deed = Count number ∷ At (whose s) (deeds.Subscribe (sub.subscription number s w)) ∷ [] in
      let c = after_all first b in
      good_append Good first (series (map (deliver env) (filter is_queued (brought_to w s b))) c) b (tt, (tt, tt)) (good_deliveries (filter is_queued (brought_to w s b)) c)

  keeping : Keeping env Nothing Good
  keeping = record {
    plain = λ d r q h. tt;
    good = λ d b q h. plain_good d b q;
    born = λ row will b h. tt;
    begin = λ row will r less h. tt;
    publish = λ origin m ds b e h. (good_publish origin m ds b e, tt);
    grants = λ w s b there fits h. (good_grants w s b, tt);
    moment = λ now r h. tt;
  }

  -- each publication that a call accepts was routed on the state in which it was
  pub call_good : (call : Call) (b : Broker) → AreGood Good (deeds_of env call b) b
  call_good call b = (leads_all env Nothing Good keeping call b tt).0

  -- each publication that an opening accepts was routed on the state in which it was
  pub opening_good : (b : Broker) → AreGood Good (opening env b) b
  opening_good b = (leads_open env Nothing Good keeping b tt).0

  -- ---- what is accepted by them

  -- each publication that good deeds accept was routed
  pub accepted_routed : (ds : List Deed) (b : Broker) → AreGood Good ds b → AllByRecursion IsRouted (acceptances_of env ds b)
  accepted_routed [] b h = tt
  accepted_routed (Accept number origin m ∷ ds) b h = (h.0, accepted_routed ds (after (Accept number origin m) b) h.1)
  accepted_routed (Begin row will ∷ ds) b h = accepted_routed ds (after (Begin row will) b) h.1
  accepted_routed (Name n ∷ ds) b h = accepted_routed ds (after (Name n) b) h.1
  accepted_routed (Count n ∷ ds) b h = accepted_routed ds (after (Count n) b) h.1
  accepted_routed (At who part ∷ ds) b h = accepted_routed ds (after (At who part) b) h.1
  accepted_routed (Finish who ∷ ds) b h = accepted_routed ds (after (Finish who) b) h.1
  accepted_routed (Keep kept ∷ ds) b h = accepted_routed ds (after (Keep kept) b) h.1
  accepted_routed (Forget place ∷ ds) b h = accepted_routed ds (after (Forget place) b) h.1
  accepted_routed (RefuseWill who ∷ ds) b h = accepted_routed ds (after (RefuseWill who) b) h.1
  accepted_routed (Link n ∷ ds) b h = accepted_routed ds (after (Link n) b) h.1
  accepted_routed (On line part ∷ ds) b h = accepted_routed ds (after (On line part) b) h.1
  accepted_routed (Send line packet ∷ ds) b h = accepted_routed ds (after (Send line packet) b) h.1
  accepted_routed (Gone line ∷ ds) b h = accepted_routed ds (after (Gone line) b) h.1

-- ---- over a run

abbrev Routed : List Acceptance → Type 0
Routed xs = AllByRecursion IsRouted xs

routed_append : (xs ys : List Acceptance) → Routed xs → Routed ys → Routed (xs ++ ys)
routed_append [] ys p q = q
routed_append (x ∷ xs) ys p q = (p.0, routed_append xs ys p.1 q)

if_routed : (set : Setting) (call : Option Call) (w : World) → Routed (read_if the_acceptances set call w)
if_routed set None w = tt
if_routed set (Some call) w =
    let env = env_of set.limits set.choice w.broker in
    accepted_routed env (deeds set.limits set.choice w.now call w.broker) (at_moment w.now w.broker) (call_good env call (at_moment w.now w.broker))

rest_routed : (more : ℕ) (set : Setting) (name : List ℕ) (w : World) → Routed (read_rest the_acceptances set more name w)
rest_routed zero set name w = tt
rest_routed (suc more) set name w =
    let call = call_of_stranger (stranger_named name w) in
    let v = calls_if set call (next_held name w) in
    routed_append (read_if the_acceptances set call w) (read_rest the_acceptances set more name v) (if_routed set call w) (rest_routed more set name v)

first_routed : (a : Asking) (set : Setting) (w : World) → Routed (read_first the_acceptances set a w)
first_routed a set w = if_routed set (call_of set a w) (before set a w)

asked_routed : (a : Asking) (set : Setting) (w : World) → Routed (read_asked the_acceptances set a w)
asked_routed (to_broker d) set w = first_routed (to_broker d) set w
asked_routed (old_to_broker d) set w = first_routed (old_to_broker d) set w
asked_routed (break d) set w = first_routed (break d) set w
asked_routed (pump d) set w = first_routed (pump d) set w
asked_routed tick set w = first_routed tick set w
asked_routed (stranger name bytes) set w = let v = comes set name bytes w in rest_routed (held_count (stranger_named name v)) set name v

opening_routed : (set : Setting) (w : World) → Routed (read_opening the_acceptances set w)
opening_routed set w =
    let b = unopened w.now w.broker.records in
    let env = env_of set.limits set.choice b in
    accepted_routed env (opening env b) b (opening_good env b)

event_routed : (e : Event) (set : Setting) (w : World) → Routed (read_in the_acceptances set e w)
event_routed (publisher d) set w = tt
event_routed (receiver d window aliases) set w = tt
event_routed (connect_end d clean) set w = tt
event_routed (give_up d) set w = tt
event_routed (publishes d x) set w = tt
event_routed (subscribe d x) set w = tt
event_routed (to_end d) set w = tt
event_routed (clock wait) set w = tt
event_routed (ask a) set w = asked_routed a set w
event_routed restart set w = opening_routed set w
event_routed (stop_before a) set w = opening_routed set (before set a w)
event_routed (stop_after a) set w = routed_append (read_first the_acceptances set a w) (read_opening the_acceptances set (first_step set a w)) (first_routed a set w) (opening_routed set (first_step set a w))

-- in every run copies are routed as the definition says
pub run_routed : (limits : Capacity) (ts : List Turn) (w : World) → AreRouted limits ts w
run_routed limits [] w = tt
run_routed limits (t ∷ ts) w =
    routed_append (cond (is_bad t.event w) [] (read_in the_acceptances (setting limits t) t.event w)) (acceptances_over limits ts (turned limits t w)) (by (is_bad t.event w)) (run_routed limits ts (turned limits t w))
  where
    by : (bad : Bool) → Routed (cond bad [] (read_in the_acceptances (setting limits t) t.event w))
    by true = tt
    by false = event_routed t.event (setting limits t) w
