-- What a publisher sees of a world is a run of its hop: so the law of the hop holds of its messages.
use Rattle.std.proofs.Common.{◌≡◌, ℕ, ◌≤◌, List, Some, None, count_by, nat_eq, slice_get, sym, subst}
use Rattle.mqtt_flow.specs.inbound.Publisher.{IsExactlyOnce, completed, refused, ended, ended_1}
use Rattle.mqtt_flow.specs.inbound.InboundWorld.{World as Hop, Event as HopEvent, after, fate_of, accepted_count}
use Rattle.mqtt_flow.proofs.inbound_lemmas.inbound.Runs.{is_good, once, unsent_is, ended_is, ended_1_is}
use Rattle.mqtt_rules.specs.step.State.{Broker}
use Rattle.mqtt_world_model.specs.model.Ends.{Publisher}
use Rattle.mqtt_world_model.specs.model.Seen.{seen}
use Rattle.mqtt_world_model.specs.model.Hops.{IsRun}

module _ (accepted : List ℕ) (p : Publisher) (b : Broker) (h : IsRun accepted p b) where
  carry : (P : Hop → Type 0) → ((events : List HopEvent) → P (after events)) → P (seen accepted p b)
  carry P law = subst P (sym h.seen_is) (law h.events)

  -- a message of QoS 2, or one that has not gone out, is accepted at most once
  pub at_most_once : (n : ℕ) → IsExactlyOnce (slice_get p.fates n) → count_by (nat_eq n) accepted ≤ 1
  at_most_once n = carry (λ w. IsExactlyOnce (fate_of n w) → accepted_count n w ≤ 1) (λ events q. once (after events) n (is_good events) q)

  -- a message that has not gone out is not accepted
  pub none_unsent : (n : ℕ) → slice_get p.fates n ≡ None → count_by (nat_eq n) accepted ≡ 0
  none_unsent n = carry (λ w. fate_of n w ≡ None → accepted_count n w ≡ 0) (λ events q. unsent_is (after events) n (is_good events) q)

  -- a message of QoS 2 that is completed was accepted once
  pub once_completed : (n : ℕ) → slice_get p.fates n ≡ Some (ended completed) → count_by (nat_eq n) accepted ≡ 1
  once_completed n = carry (λ w. fate_of n w ≡ Some (ended completed) → accepted_count n w ≡ 1) (λ events q. ended_is (after events) n completed (is_good events) q)

  -- a message of QoS 2 that was refused was not accepted
  pub none_refused : (n : ℕ) → slice_get p.fates n ≡ Some (ended refused) → count_by (nat_eq n) accepted ≡ 0
  none_refused n = carry (λ w. fate_of n w ≡ Some (ended refused) → accepted_count n w ≡ 0) (λ events q. ended_is (after events) n refused (is_good events) q)

  -- a message of QoS 1 that was acknowledged was accepted at least once
  pub some_acknowledged : (n : ℕ) → slice_get p.fates n ≡ Some (ended_1 completed) → 1 ≤ count_by (nat_eq n) accepted
  some_acknowledged n = carry (λ w. fate_of n w ≡ Some (ended_1 completed) → 1 ≤ accepted_count n w) (λ events q. ended_1_is (after events) n completed (is_good events) q)
