-- Every run of the world, in the eyes of one publisher: an event at a time it is somewhere again, and what it saw is a
-- run of its hop (MQTT 5.0, 4.3, 4.4).
use Rattle.std.proofs.Common.{◌≡◌, ℕ, ◌≤◌, Bool, true, false, cond, ◌||◌, ◌&&◌, List, [], ◌∷◌, ◌++◌, count_by, nat_eq, Option, Some, None, bytes_eq, refl, sym, ap, subst, append-nil, append_assoc, arith, inl, inr, ◌∙◌}
use Rattle.std.specs.Prelude.{find, is_some}
use Rattle.std.specs.List.{AllByRecursion}
use Rattle.mqtt_flow.specs.inbound.Publisher.{IsExactlyOnce, completed, refused, ended, ended_1}
use Rattle.mqtt_records.specs.declared.state.records.Records.{Records}
use Rattle.mqtt_rules.specs.declared.step.Capacity.{Capacity}
use Rattle.mqtt_rules.specs.step.State.{Broker, MemberChoice}
use Rattle.mqtt_rules.specs.step.Laws.{AreWithin, FewOpen, HasFewOpen, HasTables}
use Rattle.mqtt_world_model.specs.model.Ends.{Publisher, Receiver}
use Rattle.mqtt_world_model.specs.model.World.{World, Setting, Event, publisher, receiver, connect_end, give_up, publish, subscribe, to_end, clock, ask, restart, stop_before, stop_after, to_broker, old_to_broker, break, pump, tick, stranger, publisher_named, is_bad, first_step, happens, start}
use Rattle.mqtt_world_model.specs.model.Run.{Turn, setting, turned, run, message_read, each_of, accepted_at, accepted_over, begins_clean, are_beginnings_clean, asked_from, read_first, read_opening, read_in, read_at, the_deeds}
use Rattle.mqtt_world_model.specs.model.Laws.{fate_by}
use Rattle.mqtt_world_model.proofs.model_lemmas.seats.Projected.{at_most_once, none_unsent, once_completed, none_refused, some_acknowledged}
use Rattle.mqtt_world_laws.specs.acceptance.Spending.{run_spends, spending}
use Rattle.mqtt_world_laws.specs.acceptance.Fair.{IsNew, IsFair, MayOpen, opened_world}
use Rattle.mqtt_world_laws.specs.acceptance.Once.{IsAcceptedOnce}
use Rattle.mqtt_world_laws.proofs.acceptance_lemmas.copies.Steady.{steady_start, steady_opened}
use Rattle.mqtt_world_laws.proofs.acceptance_lemmas.publishers.Ends.{all_turned}
use Rattle.mqtt_world_laws.proofs.acceptance_lemmas.publishers.Around.{OtherPublisher, OtherReceiver, OtherStranger, Him, Holds, Stays}
use Rattle.mqtt_world_laws.proofs.acceptance_lemmas.publishers.FirstPackets.{reads_hold, reads_old_hold}
use Rattle.mqtt_world_laws.proofs.acceptance_lemmas.publishers.Strangers.{stranger_holds}
use Rattle.mqtt_world_laws.proofs.acceptance_lemmas.publishers.Breaks.{pump_holds, tick_holds, break_holds}
use Rattle.mqtt_world_laws.proofs.acceptance_lemmas.publishers.Happenings.{publisher_comes, receiver_comes, given_up_holds, published_holds, read_holds, subscribed_holds, clock_holds}
use Rattle.mqtt_world_laws.proofs.acceptance_lemmas.publishers.Joins.{joined_stays}
use Rattle.mqtt_world_laws.proofs.acceptance_lemmas.publishers.Restarts.{may_restart, restart_stays, before_rests, after_rests, first_accepted, each_opened}

-- if neither holds, both fail
pub either : (a b : Bool) → (a || b) ≡ false → (a ≡ false) × (b ≡ false)
either true b h = absurd cc
either false b h = (refl, h)

-- both parts of an "and" that holds hold
pub both_true : (a b : Bool) → (a && b) ≡ true → (a ≡ true) × (b ≡ true)
both_true true b h = (refl, h)
both_true false b h = absurd cc

-- ---- an event that isn't bad

-- none of the publisher's messages is accepted
quietly : (c : List ℕ) (limits : Capacity) (his accepted : List ℕ) (w : World) → Holds c limits his accepted w → Stays c limits (accepted ++ []) w
quietly c limits his accepted w h = record { his = his; holds = subst (λ (ns : List ℕ). Holds c limits his ns w) (sym (append-nil accepted)) h }

quiet : (c : List ℕ) (limits : Capacity) (accepted : List ℕ) (w : World) → Stays c limits accepted w → Stays c limits (accepted ++ []) w
quiet c limits accepted w s = quietly c limits s.his accepted w s.holds

happens_stays : (e : Event) (c : List ℕ) (set : Setting) (accepted : List ℕ) (w : World) → Stays c set.limits accepted w → is_bad e w ≡ false → begins_clean e w ≡ true → read_in spending set e w ≡ false
    → Stays c set.limits (accepted ++ each_of (message_read c e w) (read_in the_deeds set e w)) (happens set e w)
happens_stays (publisher d) c set accepted w s good carried unspent = quietly c set.limits s.his accepted _ (publisher_comes c d set s.his accepted w s.holds good carried)
happens_stays (receiver d window aliases) c set accepted w s good carried unspent = quietly c set.limits s.his accepted _ (receiver_comes c d window aliases set s.his accepted w s.holds good)
happens_stays (connect_end d clean) c set accepted w s good carried unspent = quiet c set.limits accepted _ (joined_stays c d clean set accepted w s good carried)
happens_stays (give_up d) c set accepted w s good carried unspent = quietly c set.limits s.his accepted _ (given_up_holds c d set s.his accepted w s.holds carried)
happens_stays (publish d x) c set accepted w s good carried unspent = quietly c set.limits s.his accepted _ (published_holds c d x set s.his accepted w s.holds)
happens_stays (subscribe d x) c set accepted w s good carried unspent = quietly c set.limits s.his accepted _ (subscribed_holds c d x set s.his accepted w s.holds)
happens_stays (to_end d) c set accepted w s good carried unspent = quietly c set.limits s.his accepted _ (read_holds c d set s.his accepted w s.holds)
happens_stays (clock wait) c set accepted w s good carried unspent = quietly c set.limits s.his accepted _ (clock_holds c wait set s.his accepted w s.holds)
happens_stays (ask (to_broker d)) c set accepted w s good carried unspent = record { his = s.his; holds = reads_hold c d set s.his accepted w s.holds unspent }
happens_stays (ask (old_to_broker d)) c set accepted w s good carried unspent = record { his = s.his; holds = reads_old_hold c d set s.his accepted w s.holds unspent }
happens_stays (ask (break d)) c set accepted w s good carried unspent = quietly c set.limits s.his accepted _ (break_holds c d set s.his accepted w s.holds unspent)
happens_stays (ask (pump d)) c set accepted w s good carried unspent = quietly c set.limits s.his accepted _ (pump_holds c d set s.his accepted w s.holds unspent)
happens_stays (ask tick) c set accepted w s good carried unspent = quietly c set.limits s.his accepted _ (tick_holds c set s.his accepted w s.holds unspent)
happens_stays (ask (stranger name bytes)) c set accepted w s good carried unspent = quietly c set.limits s.his accepted _ (stranger_holds c name bytes set s.his accepted w s.holds good unspent)
happens_stays restart c set accepted w s good carried unspent = quiet c set.limits accepted _ (restart_stays c set accepted w (may_restart c set.limits s.his accepted w s.holds) unspent)
happens_stays (stop_before a) c set accepted w s good carried unspent = quiet c set.limits accepted _ (restart_stays c set accepted _ (before_rests c a set s.his accepted w s.holds) unspent)
happens_stays (stop_after a) c set accepted w s good carried unspent =
    let costs = either (read_first spending set a w) (read_opening spending set (first_step set a w)) unspent in
    let more = accepted ++ first_accepted c set a w in
    subst (λ (ns : List ℕ). Stays c set.limits (accepted ++ ns) (happens set (stop_after a) w)) (sym (each_opened (asked_from c a w) (read_first the_deeds set a w) set (first_step set a w)))
    (restart_stays c set more (first_step set a w) (after_rests c a set s.his accepted w s.holds good costs.0) costs.1)

-- ---- a turn, and a run

none_each : (o : Option ℕ) → each_of o [] ≡ []
none_each None = refl
none_each (Some n) = refl

-- every turn leaves the publisher in step
pub turn_stays : (t : Turn) (c : List ℕ) (limits : Capacity) (accepted : List ℕ) (w : World) → Stays c limits accepted w → begins_clean t.event w ≡ true → read_at spending (setting limits t) t.event w ≡ false
    → Stays c limits (accepted ++ accepted_at c (setting limits t) t.event w) (turned limits t w)
turn_stays t c limits accepted w s carried unspent = by (is_bad t.event w) refl unspent
  where
    set : Setting
    set = setting limits t

    by : (bad : Bool) → is_bad t.event w ≡ bad → cond bad false (read_in spending set t.event w) ≡ false
        → Stays c limits (accepted ++ each_of (message_read c t.event w) (cond bad [] (read_in the_deeds set t.event w))) (cond bad w (happens set t.event w))
    by true is u = subst (λ (ns : List ℕ). Stays c limits (accepted ++ ns) w) (sym (none_each (message_read c t.event w))) (quiet c limits accepted w s)
    by false is u = happens_stays t.event c set accepted w s is carried u

run_stays : (ts : List Turn) (c : List ℕ) (limits : Capacity) (accepted : List ℕ) (w : World) → Stays c limits accepted w → run_spends limits ts w ≡ false → are_beginnings_clean limits ts w ≡ true
    → Stays c limits (accepted ++ accepted_over c limits ts w) (run limits ts w)
run_stays [] c limits accepted w s unspent carried = quiet c limits accepted w s
run_stays (t ∷ ts) c limits accepted w s unspent carried =
    let costs = either (read_at spending (setting limits t) t.event w) (run_spends limits ts (turned limits t w)) unspent in
    let clean = both_true (begins_clean t.event w) (are_beginnings_clean limits ts (turned limits t w)) carried in
    let now_ = accepted_at c (setting limits t) t.event w in
    let next = turn_stays t c limits accepted w s clean.0 costs.0 in
    subst (λ (ns : List ℕ). Stays c limits ns (run limits (t ∷ ts) w)) (append_assoc accepted now_ (accepted_over c limits ts (turned limits t w)))
    (run_stays ts c limits (accepted ++ now_) (turned limits t w) next costs.1 clean.1)

-- ---- from the beginning

-- a new world has the publisher in step
pub new_stays : (c : List ℕ) (limits : Capacity) (w : World) → AreWithin limits → IsNew w → Stays c limits [] w
new_stays c limits w within new = record {
  his = 0 ∷ [];
  holds = record {
    around = record {
      within = within;
      steady = new.steady;
      known = λ j among. elim among [
        | inl is ↦ omega (arith, is)
        | inr no_ ↦ absurd no_
      ];
      none = inl refl;
      publishers = subst (AllByRecursion (OtherPublisher c (0 ∷ []) w.broker.given)) (sym new.publishers) tt;
      receivers = subst (AllByRecursion (OtherReceiver (0 ∷ []) w.broker.given)) (sym new.receivers) tt;
      strangers = subst (AllByRecursion (OtherStranger (0 ∷ []) w.broker.given)) (sym new.strangers) tt;
      alone = λ there. ap (find (λ (r : Receiver). bytes_eq r.client c)) new.receivers;
      place = λ there. absurd (nobody there);
    };
    him = subst (Him (0 ∷ []) w.broker []) (sym none) refl;
  };
}
  where
    none : publisher_named c w ≡ None
    none = ap (find (λ (p : Publisher). bytes_eq p.client c)) new.publishers

    nobody : is_some (publisher_named c w) ≡ true → ⊥
    nobody there = let clash : true ≡ false = sym there ∙ ap is_some none in absurd cc

-- so does every fair run from there
pub fair_run_stays : (limits : Capacity) (ts : List Turn) (w : World) → IsNew w → IsFair limits ts w → (c : List ℕ) → Stays c limits (accepted_over c limits ts w) (run limits ts w)
fair_run_stays limits ts w new fair c = run_stays ts c limits [] w (new_stays c limits w fair.within new) fair.unspent fair.clean

-- ---- what it says of the publisher's messages

abbrev OnceBy : ℕ → List ℕ → Option Publisher → Type 0
OnceBy n accepted o =
    (IsExactlyOnce (fate_by n o) → count_by (nat_eq n) accepted ≤ 1)
    × (fate_by n o ≡ Some (ended completed) → count_by (nat_eq n) accepted ≡ 1)
    × (fate_by n o ≡ Some (ended refused) → count_by (nat_eq n) accepted ≡ 0)
    × (fate_by n o ≡ None → count_by (nat_eq n) accepted ≡ 0)
    × (fate_by n o ≡ Some (ended_1 completed) → 1 ≤ count_by (nat_eq n) accepted)

once_by : (n : ℕ) (his : List ℕ) (b : Broker) (accepted : List ℕ) (o : Option Publisher) → Him his b accepted o → OnceBy n accepted o
once_by n his b accepted None none =
    let zero_ : count_by (nat_eq n) accepted ≡ 0 = ap (count_by (nat_eq n)) none in
    ((λ q. omega (arith, zero_)), (λ q. absurd cc), (λ q. absurd cc), (λ q. zero_), (λ q. absurd cc))
once_by n his b accepted (Some p) h =
    (at_most_once accepted p b h.run n, once_completed accepted p b h.run n, none_refused accepted p b h.run n, none_unsent accepted p b h.run n, some_acknowledged accepted p b h.run n)

-- in every fair run a message is accepted at most once
pub accepts_once : (limits : Capacity) (ts : List Turn) (w : World) → IsNew w → IsFair limits ts w → (c : List ℕ) (n : ℕ) → IsAcceptedOnce c n limits ts w
accepts_once limits ts w new fair c n =
    let s = fair_run_stays limits ts w new fair c in
    let x = once_by n s.his (run limits ts w).broker (accepted_over c limits ts w) (publisher_named c (run limits ts w)) s.holds.him in
    record { once = x.0; complete = x.1; refusal = x.2; unsent = x.3; acknowledged = x.4 }

-- and no session has too many open identifiers
pub few_open : (limits : Capacity) (ts : List Turn) (w : World) → IsNew w → IsFair limits ts w → FewOpen (run limits ts w).broker.records
few_open limits ts w new fair =
    let s = fair_run_stays limits ts w new fair [] in
    all_turned HasTables HasFewOpen (run limits ts w).broker.records.sessions (λ x h. h.inbound.within) s.holds.around.steady.coherent.ordered.each

-- ---- how a world may begin

-- the first world is new
pub start_new : IsNew start
start_new = record { steady = steady_start; publishers = refl; receivers = refl; strangers = refl }

-- so is one that opens over what was stored
pub opened_new : (limits : Capacity) (choice : MemberChoice) (now : ℕ) (r : Records) → AreWithin limits → MayOpen limits choice now r → IsNew (opened_world limits choice now r)
opened_new limits choice now r within may = record { steady = steady_opened limits choice now r within may; publishers = refl; receivers = refl; strangers = refl }
