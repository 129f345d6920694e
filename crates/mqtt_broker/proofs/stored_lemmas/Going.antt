-- The sessions that are still to be closed, and then those that are still to be settled, as far as the opening has come.
use Rattle.std.proofs.Common.{◌≡◌, ℕ, List, [], ◌∷◌, length, map, refl, sym, ap, subst, ◌∙◌, arith}
use Rattle.std.specs.List.{AllByRecursion}
use Rattle.mqtt_records.specs.declared.state.session.Session.{Session}
use Rattle.mqtt_records.specs.state.Session.{birth_of}
use Rattle.mqtt_routes.specs.routing.Subscriptions.{Subscriber}
use Rattle.mqtt_rules.specs.step.Contents.{IsWilled}
use Rattle.mqtt_rules.specs.step.Laws.{IsCoherent}
use Rattle.mqtt_rules.specs.step.Routing.{subscribers}
use Rattle.mqtt_rules.specs.step.Closing.{settle}
use Rattle.mqtt_rules.specs.step.Deeds.{after_all, then}
use Rattle.mqtt_rules.specs.step.State.{Broker, Env}
use Rattle.mqtt_rules.specs.step.Step.{connected_in, opening, settles, settles_all, shuts, shuts_all}
use Rattle.mqtt_broker_step.specs.declared.fault.StepFault.{StepFault}
use Rattle.mqtt_broker_step.specs.declared.fault.StepFault.TheVariants.{Memory, Spent}
use Rattle.mqtt_broker_step.specs.Stepping.{Stepping, Did, IsLeft, env_in}
use Rattle.mqtt_broker_step.proofs.Doing.{did_none}
use Rattle.mqtt_broker_step.proofs.Then.{did_then, left_first, left_then, same_act, same_left}
use Rattle.mqtt_broker_queue.proofs.publications_lemmas.Leading.{same_env}
use Rattle.mqtt_broker_queue.specs.publications.Choosing.{DoesSome, LeavesSome}
use Rattle.mqtt_broker_acts.specs.closing.Wills.{will_at}
use Rattle.mqtt_broker_queue.specs.subscribers.Following.{CanBeIndexed}
use Rattle.mqtt_broker_queue.specs.subscribers.Indexing.{Serves}
use Rattle.mqtt_broker_acts.specs.calls.Ready.{AreSourcesStored}
use Rattle.mqtt_broker.specs.stored.Closing.{DidSome, LeftSome}
use Rattle.mqtt_broker.specs.stored.Sessions.{IsThere}
use Rattle.mqtt_broker.proofs.stored_lemmas.Chosen.{AllApart}
use Rattle.mqtt_broker.proofs.stored_lemmas.Closed.{shut_added, shut_subscribers, still_indexed, there_will}
use Rattle.mqtt_broker.proofs.stored_lemmas.Joined.{did_end, did_more, left_at, left_more, others_there}
use Rattle.mqtt_broker.proofs.stored_lemmas.Opened.{connected_apart, connected_there, connected_willed}
use Rattle.mqtt_broker.proofs.stored_lemmas.Shut.{as_opening, shut_face}

-- ---- closing: what is closed from here is what the whole closes

-- these sessions, which have these births, are still to be closed; all that stood connected stand as they did
record Shuts (entry s : Stepping) (births : List ℕ) (rest : List Session) : Type 0 where
  its : births ≡ map birth_of rest
  there : AllByRecursion (IsThere s.broker.records) rest
  all : AllByRecursion (IsThere s.broker.records) (connected_in entry.broker.records)
  did : (new : Stepping) → Did (shuts_all rest) s new → Did (shuts_all (connected_in entry.broker.records)) entry new
  left : (fault : StepFault) (new : Stepping) → IsLeft (shuts_all rest) fault s new → IsLeft (shuts_all (connected_in entry.broker.records)) fault entry new

-- sessions with these births are still to be closed, and an index serves what stands
pub record IsShutting (entry s : Stepping) (index : List Subscriber) (births : List ℕ) : Type 0 where
  rest : List Session
  shuts : Shuts entry s births rest
  pub indexed : CanBeIndexed s.broker.records
  pub serves : Serves index (subscribers s.broker.records)

-- at the beginning all that stand connected are
pub shutting_first : (s : Stepping) (index : List Subscriber) (births : List ℕ) → births ≡ map birth_of (connected_in s.broker.records) → IsCoherent s.broker.records
    → CanBeIndexed s.broker.records → Serves index (subscribers s.broker.records) → IsShutting s s index births
shutting_first s index births its coherent indexed serves =
    let there = connected_there s.broker.records coherent in
    record {
      rest = connected_in s.broker.records;
      shuts = record { its = its; there = there; all = there; did = λ new d. d; left = λ fault new d. d };
      indexed = indexed;
      serves = serves;
    }

record HasOpen (entry s : Stepping) (n : ℕ) (more : List ℕ) : Type 0 where
  next : Session
  rest : List Session
  its : next.birth ≡ n
  others : more ≡ map birth_of rest
  shuts : Shuts entry s (n ∷ more) (next ∷ rest)

open_by : (entry s : Stepping) (n : ℕ) (more : List ℕ) (rest : List Session) → Shuts entry s (n ∷ more) rest → HasOpen entry s n more
open_by entry s n more [] w = let no = w.its in absurd cc
open_by entry s n more (x ∷ xs) w =
    let is = w.its in
    let head : n ≡ x.birth = cc in
    let tail : more ≡ map birth_of xs = cc in
    record { next = x; rest = xs; its = sym head; others = tail; shuts = w }

-- closing a session leaves each as it stood
shut_stays : (x : Session) (xs : List Session) (b : Broker) → AllByRecursion (IsThere b.records) xs → AllByRecursion (IsThere (after_all (shuts x b) b).records) xs
shut_stays x [] b h = tt
shut_stays x (y ∷ ys) b h = (shut_face x y.birth b ∙ h.0, shut_stays x ys b h.1)

module _ (entry s : Stepping) (index : List Subscriber) (births : List ℕ) (n : ℕ) (more : List ℕ) (is : births ≡ n ∷ more) (h : IsShutting entry s index births) where
  o : HasOpen entry s n more
  o = open_by entry s n more h.rest (subst (λ (ns : List ℕ). Shuts entry s ns h.rest) is h.shuts)

  -- it is closed
  pub shutting_on : (s1 : Stepping) → ((y : Session) → y.birth ≡ n → IsThere s.broker.records y → Did (shuts y) s s1) → IsShutting entry s1 index more
  shutting_on s1 does =
      let one : Did (shuts o.next) s s1 = does o.next o.its o.shuts.there.0 in
      let added = shut_added o.next s s1 one in
      record {
        rest = o.rest;
        shuts = record {
          its = o.others;
          there = subst (λ (t : Stepping). AllByRecursion (IsThere t.broker.records) o.rest) (sym one.is) (shut_stays o.next o.rest s.broker o.shuts.there.1);
          all = subst (λ (t : Stepping). AllByRecursion (IsThere t.broker.records) (connected_in entry.broker.records)) (sym one.is) (shut_stays o.next (connected_in entry.broker.records) s.broker o.shuts.all);
          did = λ new d. o.shuts.did new (did_then (shuts o.next) (shuts_all o.rest) s s1 new one d);
          left = λ fault new d. o.shuts.left fault new (left_then (shuts o.next) (shuts_all o.rest) fault s s1 new one d);
        };
        indexed = still_indexed o.next.birth s s1 added h.indexed;
        serves = subst (λ (ss : List Subscriber). Serves index ss) (sym (shut_subscribers o.next s s1 o.shuts.there.0 one)) h.serves;
      }

  -- it is refused
  pub shutting_left : (fault : StepFault) (new : Stepping) → ((y : Session) → y.birth ≡ n → IsThere s.broker.records y → IsLeft (shuts y) fault s new) → LeftSome opening fault entry new
  shutting_left fault new left = record {
    choice = λ number sender. [];
    is =
        let env = env_in (λ number sender. []) entry in
        let ss = connected_in entry.broker.records in
        same_left (λ b. then (shuts_all ss b) (settles_all env ss) b) (opening env) fault entry new (as_opening env entry.broker)
        (left_first (shuts_all ss) (settles_all env ss) fault entry new
        (o.shuts.left fault new (left_first (shuts o.next) (shuts_all o.rest) fault s new (left o.next o.its o.shuts.there.0))));
  }

-- when none is left all are closed
shut_end : (entry s : Stepping) (rest : List Session) → Shuts entry s [] rest → Did (shuts_all (connected_in entry.broker.records)) entry s × AllByRecursion (IsThere s.broker.records) (connected_in entry.broker.records)
shut_end entry s [] w = (w.did s (record { is = sym (did_none s) }), w.all)
shut_end entry s (x ∷ xs) w = let no = w.its in absurd cc

-- ---- settling: what is settled from here is the opening's from its beginning

record Leads (entry s : Stepping) (rest : List Session) : Type 0 where
  did : (new : Stepping) → DidSome (λ env. settles_all env rest) s new → DidSome opening entry new
  left : (fault : StepFault) (new : Stepping) → LeftSome (λ env. settles_all env rest) fault s new → LeftSome opening fault entry new

-- these sessions, which have these births, are still to be settled
record Waits (entry s : Stepping) (births : List ℕ) (rest : List Session) : Type 0 where
  its : births ≡ map birth_of rest
  apart : AllApart rest
  there : AllByRecursion (IsThere s.broker.records) rest
  willed : AllByRecursion (λ (x : Session). IsWilled x.will) rest
  leads : Leads entry s rest

-- sessions with these births are still to be settled, and an index serves what stands
pub record IsGoing (entry s : Stepping) (index : List Subscriber) (births : List ℕ) : Type 0 where
  rest : List Session
  waits : Waits entry s births rest
  pub indexed : CanBeIndexed s.broker.records
  pub serves : Serves index (subscribers s.broker.records)

none_left : (births : List ℕ) → length births ≡ 0 → births ≡ []
none_left [] e = refl
none_left (n ∷ more) e = let no : ⊥ = omega (arith, e) in absurd no

-- once all that stood connected are closed, all of them are to be settled
pub going_first : (entry s : Stepping) (index : List Subscriber) (births closed : List ℕ) → births ≡ map birth_of (connected_in entry.broker.records) → IsCoherent entry.broker.records → AreSourcesStored entry.broker.records
    → length closed ≡ 0 → IsShutting entry s index closed → IsGoing entry s index births
going_first entry s index births closed its coherent sources none h =
    let ss = connected_in entry.broker.records in
    let all = shut_end entry s h.rest (subst (λ (ns : List ℕ). Shuts entry s ns h.rest) (none_left closed none) h.shuts) in
    let start = ap (λ (t : Stepping). t.start) all.0.is in
    let limits = ap (λ (t : Stepping). t.limits) all.0.is in
    record {
      rest = ss;
      waits = record {
        its = its;
        apart = connected_apart entry.broker.records coherent;
        there = all.1;
        willed = connected_willed entry.broker.records sources;
        leads = record {
          did = λ new d. record {
            choice = d.choice;
            is =
                let env = env_in d.choice entry in
                same_act (λ b. then (shuts_all ss b) (settles_all env ss) b) (opening env) entry new (as_opening env entry.broker)
                (did_then (shuts_all ss) (settles_all env ss) entry s new all.0 (subst (λ (e : Env). Did (settles_all e ss) s new) (same_env d.choice entry s start limits) d.is));
          };
          left = λ fault new d. record {
            choice = d.choice;
            is =
                let env = env_in d.choice entry in
                same_left (λ b. then (shuts_all ss b) (settles_all env ss) b) (opening env) fault entry new (as_opening env entry.broker)
                (left_then (shuts_all ss) (settles_all env ss) fault entry s new all.0 (subst (λ (e : Env). IsLeft (settles_all e ss) fault s new) (same_env d.choice entry s start limits) d.is));
          };
        };
      };
      indexed = h.indexed;
      serves = h.serves;
    }

-- ---- the next one

record HasNext (entry s : Stepping) (n : ℕ) (more : List ℕ) : Type 0 where
  pub next : Session
  rest : List Session
  pub its : next.birth ≡ n
  others : more ≡ map birth_of rest
  apart : AllApart (next ∷ rest)
  there : AllByRecursion (IsThere s.broker.records) (next ∷ rest)
  willed : AllByRecursion (λ (x : Session). IsWilled x.will) (next ∷ rest)
  leads : Leads entry s (next ∷ rest)

next_by : (entry s : Stepping) (n : ℕ) (more : List ℕ) (rest : List Session) → Waits entry s (n ∷ more) rest → HasNext entry s n more
next_by entry s n more [] w = let no = w.its in absurd cc
next_by entry s n more (x ∷ xs) w =
    let is = w.its in
    let head : n ≡ x.birth = cc in
    let tail : more ≡ map birth_of xs = cc in
    record { next = x; rest = xs; its = sym head; others = tail; apart = w.apart; there = w.there; willed = w.willed; leads = w.leads }

next_of : (entry s : Stepping) (index : List Subscriber) (births : List ℕ) (n : ℕ) (more : List ℕ) → births ≡ n ∷ more → IsGoing entry s index births → HasNext entry s n more
next_of entry s index births n more is h = next_by entry s n more h.rest (subst (λ (ns : List ℕ). Waits entry s ns h.rest) is h.waits)

module _ (entry s : Stepping) (index : List Subscriber) (births : List ℕ) (n : ℕ) (more : List ℕ) (is : births ≡ n ∷ more) (h : IsGoing entry s index births) where
  x : HasNext entry s n more
  x = next_of entry s index births n more is h

  -- its Will may be published
  pub next_willed : IsWilled (will_at n s.broker.records)
  next_willed =
      subst (λ (k : ℕ). IsWilled (will_at k s.broker.records)) x.its
      (subst IsWilled (sym (there_will x.next s.broker.records x.there.0)) x.willed.0)

  -- it is settled
  pub going_on : (s1 : Stepping) (index1 : List Subscriber) → DoesSome (λ env. settle env n) s s1
      → CanBeIndexed s1.broker.records → Serves index1 (subscribers s1.broker.records) → IsGoing entry s1 index1 more
  going_on s1 index1 does indexed serves =
      let first : DoesSome (λ env. settles env x.next) s s1 = subst (λ (k : ℕ). DoesSome (λ env. settle env k) s s1) (sym x.its) does in
      record {
        rest = x.rest;
        waits = record {
          its = x.others;
          apart = x.apart.1;
          there = others_there x.next x.rest s s1 x.apart x.there first;
          willed = x.willed.1;
          leads = record {
            did = λ new d. x.leads.did new (did_more x.next x.rest s s1 x.apart x.there first new d);
            left = λ fault new d. x.leads.left fault new (left_more x.next x.rest s s1 x.apart x.there first fault new d);
          };
        };
        indexed = indexed;
        serves = serves;
      }

  -- it is refused
  pub going_left : (fault : StepFault) (new : Stepping) → LeavesSome (λ env. settle env n) fault s new → LeftSome opening fault entry new
  going_left fault new left =
      x.leads.left fault new (left_at x.next x.rest fault s new (subst (λ (k : ℕ). LeavesSome (λ env. settle env k) fault s new) (sym x.its) left))

-- ---- at the end

end_by : (entry s : Stepping) (rest : List Session) → Waits entry s [] rest → DidSome opening entry s
end_by entry s [] w = w.leads.did s (did_end s)
end_by entry s (x ∷ xs) w = let no = w.its in absurd cc

-- when none is left the opening is done
pub going_end : (entry s : Stepping) (index : List Subscriber) (births : List ℕ) → length births ≡ 0 → IsGoing entry s index births → DidSome opening entry s
going_end entry s index births e h = end_by entry s h.rest (subst (λ (ns : List ℕ). Waits entry s ns h.rest) (none_left births e) h.waits)

-- ---- nothing was done yet, for want of memory

-- for want of memory nothing is done of it
pub first_refused : (fault : StepFault) (s : Stepping) → fault ≡ Memory → LeftSome opening fault s s
first_refused fault s memory = record {
  choice = λ number sender. [];
  is = record { start = refl; limits = refl; spent = λ e. let no : Memory ≡ Spent = sym memory ∙ e in absurd cc };
}
