-- Numbers from 1 and moments that have been, deed by deed, and over a step.
use Rattle.std.proofs.Common.{◌≡◌, ℕ, ◌≤◌, true, not, List, [], ◌∷◌, Option, Some, None, nat_eq, bytes_eq, refl, subst, inl, inr, arith}
use Rattle.std.specs.Prelude.{⊤, find, filter}
use Rattle.std.specs.List.{AllByRecursion}
use Rattle.std.proofs.Math.Nat.{le-max_left, le-min}
use Rattle.mqtt_base.specs.declared.limits.TheConstants.{LAST_NUMBER, QUEUE_LIMIT, SUBSCRIPTION_LIMIT}
use Rattle.mqtt_keep.specs.lawful.Lawful.{HasBeen}
use Rattle.mqtt_records.specs.declared.messages.message.MessageCopy.{MessageCopy}
use Rattle.mqtt_records.specs.declared.messages.message.RetainedMessage.{RetainedMessage}
use Rattle.mqtt_records.specs.messages.Queue.{CopyRow}
use Rattle.mqtt_records.specs.declared.state.change.Change.{Change}
use Rattle.mqtt_records.specs.declared.state.records.Records.{Records}
use Rattle.mqtt_records.specs.declared.state.session.Session.{Session}
use Rattle.mqtt_records.specs.declared.state.subscription.Subscription.{Subscription}
use Rattle.mqtt_records.specs.state.Records.{changed_all, IsNumber}
use Rattle.mqtt_records.specs.state.Session.{birth_of, place_of, copy_place, without_filter, in_phase}
use Rattle.mqtt_rules.specs.declared.step.Capacity.{Capacity}
use Rattle.mqtt_rules.specs.step.Deeds.{Whose, Part, Resume, Close, SetExpiry, DropWill, Subscribe, Unsubscribe, Open, Release, Enter, Mark, Leave, Deed, Accept, Begin, Name, Count, At, Finish, Keep, Forget, RefuseWill, Link, On, Send, Gone, after, after_all, rows_of_all, new_entry}
use Rattle.mqtt_rules.specs.step.Numbers.{IsTimed}
use Rattle.mqtt_rules.specs.step.Routing.{place_of_kept, retained_of}
use Rattle.mqtt_rules.specs.step.State.{Broker, Env, MemberChoice, capped, stored}
use Rattle.mqtt_rules.specs.step.Step.{Call, at_moment, deeds, done, env_of, opened, opening, stepped, unopened, with_moment}
use Rattle.mqtt_rules.specs.step.Subscribe as sub
use Rattle.mqtt_rules.proofs.step_lemmas.acts.Acts.{anyone, finds_anyone, is_alone, IsGranted}
use Rattle.mqtt_rules.proofs.step_lemmas.acts.ByDeeds.{DeedLaw, MarkLaw, leads_deeds, leads_opened}
use Rattle.mqtt_rules.proofs.step_lemmas.numbers.Copies.{IsMade, IsOf, each_filter, each_more}
use Rattle.mqtt_rules.proofs.step_lemmas.fit.FitLaw.{all_among}
use Rattle.mqtt_rules.proofs.step_lemmas.flight.FlightRows.{all_at, all_put, all_changed}
use Rattle.mqtt_rules.proofs.step_lemmas.acts.Leads.{found_among}
use Rattle.mqtt_rules.proofs.step_lemmas.fit.StoredLaw.{stored_after_all}
use Rattle.mqtt_broker.specs.reopening.Times.{AreTimely, IsTimely, IsTimelyCopy, IsTimelyKept}
use Rattle.mqtt_broker.proofs.reopening_lemmas.EachSession.{Keeps, Makes, deed_each, deed_kept, part_made}

-- ---- what a deed brings

abbrev Brings : Deed → Broker → Type 0
Brings (Begin row will) b = (1 ≤ row.birth) × HasBeen b.now row.closed
Brings (At who (Close moment)) b = moment ≤ b.now
Brings (At who (Subscribe x)) b = 1 ≤ x.place
Brings (At who (Enter copy)) b = copy.content.arrived ≤ b.now
Brings (Keep kept) b = IsTimelyKept b.now kept
Brings d b = ⊤

abbrev Timely : Broker → Type 0
Timely b = AreTimely b.now b.records

module _ (now : ℕ) where
  abbrev Is : Session → Type 0
  Is = IsTimely now

  entry_place : (copy : MessageCopy) (queue : List CopyRow) → 1 ≤ (new_entry copy queue).place
  entry_place copy queue = omega arith

  made_timely : (who : Whose) (part : Part) (s t : Session) (b : Broker) → b.now ≡ now → Brings (At who part) b → Is s → Is t → Is (part_made part s t)
  made_timely who (Resume expiry will) s t b is g p h = record { birth = h.birth; closed = tt; subscriptions = h.subscriptions; queue = h.queue }
  made_timely who (Close moment) s t b is g p h = record { birth = h.birth; closed = subst (λ (n : ℕ). moment ≤ n) is g; subscriptions = h.subscriptions; queue = h.queue }
  made_timely who (SetExpiry expiry) s t b is g p h = record { birth = h.birth; closed = p.closed; subscriptions = h.subscriptions; queue = h.queue }
  made_timely who DropWill s t b is g p h = record { birth = h.birth; closed = h.closed; subscriptions = h.subscriptions; queue = h.queue }
  made_timely who (Subscribe x) s t b is g p h = record {
    birth = h.birth;
    closed = h.closed;
    subscriptions = all_put place_of (λ (y : Subscription). 1 ≤ y.place) SUBSCRIPTION_LIMIT x (without_filter x.filter t.subscriptions) g
        (each_filter (λ (y : Subscription). 1 ≤ y.place) (λ y. not (bytes_eq y.filter x.filter)) t.subscriptions h.subscriptions);
    queue = h.queue;
  }
  made_timely who (Unsubscribe text) s t b is g p h = record {
    birth = h.birth;
    closed = h.closed;
    subscriptions = each_filter (λ (y : Subscription). 1 ≤ y.place) (λ y. not (bytes_eq y.filter text)) t.subscriptions h.subscriptions;
    queue = h.queue;
  }
  made_timely who (Open id) s t b is g p h = record { birth = h.birth; closed = h.closed; subscriptions = h.subscriptions; queue = h.queue }
  made_timely who (Release id) s t b is g p h = record { birth = h.birth; closed = h.closed; subscriptions = h.subscriptions; queue = h.queue }
  made_timely who (Enter copy) s t b is g p h = record {
    birth = h.birth;
    closed = h.closed;
    subscriptions = h.subscriptions;
    queue = all_put copy_place (IsTimelyCopy now) QUEUE_LIMIT (new_entry copy s.queue) t.queue
        (record { place = entry_place copy s.queue; arrived = subst (λ (n : ℕ). copy.content.arrived ≤ n) is g }) h.queue;
  }
  made_timely who (Mark place phase) s t b is g p h = record {
    birth = h.birth;
    closed = h.closed;
    subscriptions = h.subscriptions;
    queue = all_changed copy_place (IsTimelyCopy now) place (in_phase phase) t.queue (λ e q. record { place = q.place; arrived = q.arrived }) h.queue;
  }
  made_timely who (Leave e ending) s t b is g p h = record {
    birth = h.birth;
    closed = h.closed;
    subscriptions = h.subscriptions;
    queue = each_filter (IsTimelyCopy now) (λ x. not (nat_eq (copy_place x) e.place)) t.queue h.queue;
  }

makes : (d : Deed) (b : Broker) → Brings d b → Timely b → Makes (IsTimely b.now) (IsTimely b.now) (λ t h. h) d b
makes (Begin row will) b g h = record {
  new = record { birth = g.0; closed = g.1; subscriptions = tt; queue = tt };
  again = λ t same p. record { birth = p.birth; closed = g.1; subscriptions = p.subscriptions; queue = p.queue };
  will = λ w t p. record { birth = p.birth; closed = p.closed; subscriptions = p.subscriptions; queue = p.queue };
}
makes (At who part) b g h = λ s t there same p. made_timely b.now who part s t b refl g (all_at birth_of (IsTimely b.now) who.birth s b.records.sessions h.sessions there) p
makes (Accept number origin m) b g h = tt
makes (Name n) b g h = tt
makes (Count n) b g h = tt
makes (Finish who) b g h = tt
makes (Keep kept) b g h = tt
makes (Forget place) b g h = tt
makes (RefuseWill who) b g h = tt
makes (Link n) b g h = tt
makes (On n part) b g h = tt
makes (Send n packet) b g h = tt
makes (Gone n) b g h = tt

keeps : (d : Deed) (b : Broker) → Brings d b → Keeps (IsTimelyKept b.now) d
keeps (Keep kept) b g = g
keeps (Begin row will) b g = tt
keeps (At who part) b g = tt
keeps (Accept number origin m) b g = tt
keeps (Name n) b g = tt
keeps (Count n) b g = tt
keeps (Finish who) b g = tt
keeps (Forget place) b g = tt
keeps (RefuseWill who) b g = tt
keeps (Link n) b g = tt
keeps (On n part) b g = tt
keeps (Send n packet) b g = tt
keeps (Gone n) b g = tt

timely_deed : (d : Deed) (b : Broker) → Timely b → Brings d b → Timely (after d b)
timely_deed d b h g = record {
  sessions = deed_each (IsTimely b.now) (IsTimely b.now) (λ t p. p) d b (makes d b g h) h.sessions;
  retained = deed_kept (IsTimelyKept b.now) d b (keeps d b g) h.retained;
}

-- ---- each deed of a step brings such

brings_alone : (who : Whose) (part : Part) (b : Broker) → is_alone part ≡ true → Brings (At who part) b
brings_alone who (Resume expiry will) b is = tt
brings_alone who (Close moment) b is = absurd cc
brings_alone who (SetExpiry expiry) b is = tt
brings_alone who DropWill b is = tt
brings_alone who (Subscribe x) b is = absurd cc
brings_alone who (Unsubscribe filter) b is = tt
brings_alone who (Open id) b is = tt
brings_alone who (Release id) b is = tt
brings_alone who (Enter copy) b is = absurd cc
brings_alone who (Mark place phase) b is = tt
brings_alone who (Leave e ending) b is = tt

kept_arrived : (copy : MessageCopy) (now : ℕ) (ks : List RetainedMessage) → IsOf copy ks → AllByRecursion (IsTimelyKept now) ks → copy.content.arrived ≤ now
kept_arrived copy now [] of h = absurd of
kept_arrived copy now (k ∷ ks) of h = elim of [
  | inl it ↦ subst (λ (c : _). c.arrived ≤ now) it.1 h.0.arrived
  | inr more ↦ kept_arrived copy now ks more h.1
]

made_arrived : (birth : ℕ) (copy : MessageCopy) (b : Broker) → Timely b → IsMade birth copy b → copy.content.arrived ≤ b.now
made_arrived birth copy b h made = elim made.source [
  | inl it ↦ it.1
  | inr of ↦ kept_arrived copy b.now b.records.retained of h.retained
]

kept_place_from : (topic : List ℕ) (r : Records) (now : ℕ) (o : Option RetainedMessage) → retained_of topic r ≡ o → AllByRecursion (IsTimelyKept now) r.retained → 1 ≤ place_of_kept o r.retained
kept_place_from topic r now None is h = omega arith
kept_place_from topic r now (Some k) is h = (all_among (IsTimelyKept now) k r.retained h (found_among _ k r.retained is)).place

place_from : (number : ℕ) (text : List ℕ) (xs : List Subscription) (o : Option Subscription) → 1 ≤ number → find (sub.is_to text) xs ≡ o → AllByRecursion (λ (x : Subscription). 1 ≤ x.place) xs → 1 ≤ sub.place_of number o
place_from number text xs None low is h = low
place_from number text xs (Some x) low is h = all_among (λ (y : Subscription). 1 ≤ y.place) x xs h (found_among (sub.is_to text) x xs is)

granted_place : (env : Env) (w : sub.Wish) (s : Session) (b : Broker) → Timely b → IsGranted env w s b → 1 ≤ (sub.subscription (sub.next_number b.records) s w).place
granted_place env w s b h granted =
    let its = all_at birth_of (IsTimely b.now) s.birth s b.records.sessions h.sessions granted.session in
    place_from (sub.next_number b.records) w.filter s.subscriptions (find (sub.is_to w.filter) s.subscriptions) (omega arith) refl its.subscriptions

timely_law : (env : Env) → DeedLaw env anyone Timely Brings
timely_law env = record {
  finds = finds_anyone Timely;
  client_stays = λ client d b k g its. tt;
  kept = timely_deed;
  accept = λ origin m b k said. tt;
  keep = λ m b k said is full found. record { place = kept_place_from m.topic b.records b.now (retained_of m.topic b.records) refl k.retained; arrived = omega arith };
  forget = λ place b k. tt;
  enter = λ who copy b k made. made_arrived who.birth copy b k made;
  leave = λ who e ending b k. tt;
  refuse_will = λ who b k its. tt;
  open_id = λ s id m ds b k h its there new is. tt;
  alone = λ who part b k its is. brings_alone who part b is;
  close = λ who b k its. omega arith;
  finish = λ who b k its. tt;
  resume = λ who expiry will b k its. tt;
  name = λ b k. tt;
  begin_given = λ c b k came taken name is room. (omega arith, tt);
  begin_assigned = λ c b k h came taken room. (omega arith, tt);
  count = λ b k. tt;
  subscribe = λ w s b k h its granted. granted_place env w s b k granted;
  link = λ b k. tt;
  on_line = λ line part b k. tt;
  send = λ line packet b k. tt;
  gone = λ line b k. tt;
}

timely_mark : MarkLaw Timely Brings
timely_mark who place phase b k = tt

-- ---- a step and an opening

-- what has been by a moment has been by a later one
been_later : (m n : ℕ) (o : Option ℕ) → m ≤ n → HasBeen m o → HasBeen n o
been_later m n None le h = tt
been_later m n (Some x) le h = omega (arith, le, h)

-- what is timely stays so later
pub timely_later : (m n : ℕ) (r : Records) → m ≤ n → AreTimely m r → AreTimely n r
timely_later m n r le h = record {
  sessions = each_more (IsTimely m) (IsTimely n)
      (λ s p. record {
        birth = p.birth;
        closed = been_later m n s.closed le p.closed;
        subscriptions = p.subscriptions;
        queue = each_more (IsTimelyCopy m) (IsTimelyCopy n) (λ e q. let up = q.arrived in record { place = q.place; arrived = omega (arith, up, le) }) s.queue p.queue;
      }) r.sessions h.sessions;
  retained = each_more (IsTimelyKept m) (IsTimelyKept n) (λ k q. let up = q.arrived in record { place = q.place; arrived = omega (arith, up, le) }) r.retained h.retained;
}

-- if nothing is written nothing is changed
by_rows : (rows : List Change) (old : Records) (b : Broker) → changed_all rows old ≡ b.records → AreTimely old.moment old → AreTimely b.now b.records
    → AreTimely (with_moment rows b).records.moment (with_moment rows b).records
by_rows [] old b same h g = subst (λ (r : Records). AreTimely r.moment r) same h
by_rows (row ∷ rows) old b same h g = record { sessions = g.sessions; retained = g.retained }

timely_done : (ds : List Deed) (b : Broker) → AreTimely b.records.moment b.records → Timely (after_all ds b) → AreTimely (done ds b).records.moment (done ds b).records
timely_done ds b h g = by_rows (rows_of_all ds b.records) b.records (after_all ds b) (stored_after_all ds b) h g

-- behind a step nothing is stored as of a later moment
pub step_timely : (limits : Capacity) (choice : MemberChoice) (now : ℕ) (call : Call) (b : Broker) → IsTimed b → AreTimely (stored b).moment (stored b)
    → AreTimely (stored (stepped limits choice now call b)).moment (stored (stepped limits choice now call b))
step_timely limits choice now call b timed h =
    let c = at_moment now b in
    let env = env_of limits choice b in
    let more = le-max_left b.now (capped now) in
    timely_done (deeds limits choice now call b) c h
    ((leads_deeds env Timely Brings (timely_law env) timely_mark call c (timely_later b.records.moment c.now b.records (omega (arith, timed, more)) h)).1)

-- nor is it behind an opening
pub opening_timely : (limits : Capacity) (choice : MemberChoice) (now : ℕ) (r : Records) → IsNumber r.moment → AreTimely r.moment r
    → AreTimely (stored (opened limits choice now r)).moment (stored (opened limits choice now r))
opening_timely limits choice now r last h =
    let b = unopened now r in
    let env = env_of limits choice b in
    let up = le-min {k = r.moment} {a = r.moment} {b = LAST_NUMBER} (omega arith) last in
    let more = le-max_left (capped r.moment) (capped now) in
    timely_done (opening env b) b h
    ((leads_opened env Timely Brings (timely_law env) timely_mark b (timely_later r.moment b.now r (omega (arith, up, more)) h)).1)
