-- What is delivered once in a run of what packets mean is so in the run in forms.
use Rattle.std.proofs.Common.{◌≡◌, ℕ, List, ◌++◌, nat_eq, Option, Some, sym, subst}
use Rattle.std.specs.Prelude.{All, count_by, filter_map}
use Rattle.std.specs.List.{AllByRecursion}
use Rattle.std.proofs.lemmas.List.Elements.{All-weaker}
use Rattle.mqtt_base.specs.declared.session.CopyId.{CopyId}
use Rattle.mqtt_base.specs.declared.session.Qos.{Qos}
use Rattle.mqtt_base.specs.declared.session.Qos.TheVariants.{AtMostOnce, AtLeastOnce, ExactlyOnce}
use Rattle.mqtt_flow.specs.inbound.Publisher.{Fate}
use Rattle.mqtt_rules.proofs.step_lemmas.numbers.Copies.{each_more}
use Rattle.mqtt_rules.specs.step.Deeds.{At, Deed, Leave}
use Rattle.mqtt_rules.specs.step.Laws.{FewOpen}
use Rattle.mqtt_rules.specs.step.State.{Broker}
use Rattle.mqtt_rules.specs.declared.step.Capacity.{Capacity}
use Rattle.mqtt_world_model.specs.model.Ends.{Content, Receiver}
use Rattle.mqtt_world_model.specs.model.Laws.{WasTaken, fate_of}
use Rattle.mqtt_world_model.specs.model.Lines.{Down}
use Rattle.mqtt_world_model.specs.model.Run.{Acceptance, End, From, Turn, ended_in}
use Rattle.mqtt_world_model.specs.model.Run as meant
use Rattle.mqtt_world_model.specs.model.World.{World, receiver_named}
use Rattle.mqtt_world_laws.specs.acceptance.Once.{CarriesIn, carriers}
use Rattle.mqtt_world_laws.specs.routing.Intended as meant_intended
use Rattle.mqtt_world_laws.specs.delivery.HandedOnce.{WasHanded}
use Rattle.mqtt_world_laws.specs.delivery.HandedOver.{WasHandedOver}
use Rattle.mqtt_world_laws.specs.unsent.Unsent.{IsOver, IsUnread, WasLeftWaiting, WasNeverHanded}
use Rattle.mqtt_world_laws.specs.headline.Delivery as meant_delivery
use Rattle.mqtt_world_laws.specs.telling.AsSent.{AsSent, Most, run}
use Rattle.mqtt_world_laws.proofs.telling_lemmas.Ends.{receiver_with}
use Rattle.mqtt_world_laws.specs.headline_in_forms.Reading.{Course, course, entered, from_over, times_accepted}
use Rattle.mqtt_world_laws.specs.headline_in_forms.Delivery.{AcceptsOnce, DeliversExactlyOnce, EndsAllOnce, EntersAllOnce, EntersAsIntended, HandsOverAll, HandsOverFrom, HandsOverOnce, IsAcceptedOnce}
use Rattle.mqtt_world_laws.proofs.headline_in_forms_lemmas.Courses.{accepted_same, course_same, deeds_same, from_same, meant_course, same_broker}
use Rattle.mqtt_world_laws.proofs.headline_in_forms_lemmas.Found.{Finds, by_other, same_contents, same_fate, same_receiver}
use Rattle.mqtt_world_laws.proofs.headline_in_forms_lemmas.Pairs.{Pair, pair_run, pair_understands}

-- ---- what is under way to a receiver is no part of what it was handed

module _ (r : Receiver) (downs : List Down) where
  abbrev other : Receiver
  other = receiver_with downs r

  unread : (copy : CopyId) → IsUnread other copy → IsUnread r copy
  unread copy h = record { unhanded = h.unhanded; unread = h.unread }

  left : (d : Deed) → WasLeftWaiting other d → WasLeftWaiting r d
  left (At who (Leave e ending)) h = λ waits. unread e.copy.id (h waits)
  left d h = tt

  taken : (q : Qos) (c : CopyId) → WasTaken q c other → WasTaken q c r
  taken AtMostOnce c h = h
  taken AtLeastOnce c h = h
  taken ExactlyOnce c h = h

  handed : (b : Broker) → WasHandedOver other b → WasHandedOver r b
  handed b h = record {
    copies = h.copies;
    number = h.number;
    numbered = h.numbered;
    differ = h.differ;
    queued = h.queued;
    tagged = h.tagged;
    once = h.once;
    in_order = h.in_order;
    released = h.released;
    taken = h.taken;
    read = h.read;
    expired = h.expired;
    dropped = h.dropped;
    carried = h.carried;
  }

  all_aside : (c : Course) → HandsOverAll c other → HandsOverAll c r
  all_aside c h = record {
    once = h.once;
    as_entered = h.as_entered;
    carries_each = h.carries_each;
    carries = h.carries;
    handed = handed c.end h.handed;
    never_handed = All-weaker (WasNeverHanded other) (WasNeverHanded r) (λ e never unsent. unread e.copy (never unsent)) (filter_map ended_in c.deeds) h.never_handed;
    left_waiting = All-weaker (WasLeftWaiting other) (WasLeftWaiting r) left c.deeds h.left_waiting;
  }

  over_aside : (q : Receiver) (es : List End) → All (IsOver q other) es → All (IsOver q r) es
  over_aside q es h = All-weaker (IsOver q other) (IsOver q r) (λ e o. record { handed = o.handed; read = o.read }) es h

  over_from : (q : Receiver) (es : List End) → All (IsOver other q) es → All (IsOver r q) es
  over_from q es h = All-weaker (IsOver other q) (IsOver r q) (λ e o. record { handed = o.handed; read = o.read }) es h

  from_aside : (c : Course) (client : List ℕ) (q : Receiver) → HandsOverFrom c client q other → HandsOverFrom c client q r
  from_aside c client q h = record {
    grows = h.grows;
    for_good = h.for_good;
    taken = All-weaker (WasHanded client other) (WasHanded client r) (λ e was its by. taken e.qos e.copy (was its by)) (filter_map ended_in c.deeds) h.taken;
    in_order = h.in_order;
  }

  from_then : (c : Course) (client : List ℕ) (q : Receiver) → HandsOverFrom c client other q → HandsOverFrom c client r q
  from_then c client q h = record { grows = h.grows; for_good = h.for_good; taken = h.taken; in_order = h.in_order }

-- ---- a run of what packets mean

module _ (limits : Capacity) (ts : List Turn) (w : World) where
  as_intended : (a : Acceptance) → meant_intended.EntersAsIntended limits ts w a → EntersAsIntended (entered (meant_course limits ts w)) a
  as_intended a h = record {
    routing = h.routing;
    routing_is = h.routing_is;
    copies_are = h.copies_are;
    each = h.each;
    entered_is = h.entered_is;
    counted = h.counted;
    groups = h.groups;
  }

  enters : meant_delivery.EntersAllOnce limits ts w → EntersAllOnce (meant_course limits ts w)
  enters h = record {
    routed = h.routed;
    numbered = h.numbered;
    intended =
        each_more (meant_intended.EntersAsIntended limits ts w) (EntersAsIntended (entered (meant_course limits ts w))) as_intended
        (meant_course limits ts w).acceptances h.intended;
    brought = h.brought;
    once = h.once;
    at_once = h.at_once;
    lines = h.lines;
  }

  ends_once : meant_delivery.EndsAllOnce limits ts w → EndsAllOnce (meant_course limits ts w)
  ends_once h = record {
    once = h.once;
    waits_or_has_ended = h.waits_or_has_ended;
    balanced = h.balanced;
    causes = h.causes;
    all = h.all;
  }

  hands_all : (client : List ℕ) (r : Receiver) → meant_delivery.HandsOverOnce limits ts w client r → HandsOverAll (meant_course limits ts w) r
  hands_all client r h = record {
    once = h.once;
    as_entered = h.as_entered;
    carries_each = h.carries_each;
    carries = h.carries;
    handed = h.handed;
    never_handed = h.never_handed;
    left_waiting = h.left_waiting;
  }

hands_from : (limits : Capacity) (ys : List Turn) (v : World) (client : List ℕ) (q r : Receiver) → meant_delivery.HandsOverFrom limits ys v client q r
    → HandsOverFrom (meant_course limits ys v) client q r
hands_from limits ys v client q r h = record { grows = h.grows; for_good = h.for_good; taken = h.taken; in_order = h.in_order }

-- ---- the run in forms

module _ (most : Most) (limits : Capacity) (ts : List Turn) (s : AsSent) (w : World) (p : Pair most s w) (h : meant_delivery.DeliversExactlyOnce limits ts w) where
  abbrev then : AsSent
  then = run most limits ts s

  abbrev meant_then : World
  meant_then = meant.run limits ts w

  after : Pair most then meant_then
  after = pair_run most limits ts s w p

  accepted : (client : List ℕ) (n : ℕ) → IsAcceptedOnce (fate_of client n then.world) (times_accepted client n most limits ts s)
  accepted client n =
      let each = h.messages.each client n in
      let meant_once : IsAcceptedOnce (fate_of client n meant_then) (count_by (nat_eq n) (meant.accepted_over client limits ts w)) =
      record { once = each.once; complete = each.complete; refusal = each.refusal; unsent = each.unsent; acknowledged = each.acknowledged }
      in
      subst (λ (f : Option Fate). IsAcceptedOnce f (times_accepted client n most limits ts s)) (sym (same_fate then.world meant_then after.goes.worlds.publishers client n))
      (subst (λ (xs : List ℕ). IsAcceptedOnce (fate_of client n meant_then) (count_by (nat_eq n) xs)) (sym (accepted_same most limits client ts s w p)) meant_once)

  carried : (client : List ℕ) → AllByRecursion (CarriesIn client (carriers client then.world)) (from_over client most limits ts s)
  carried client =
      subst (λ (cs : List Content). AllByRecursion (CarriesIn client cs) (from_over client most limits ts s)) (sym (same_contents then.world meant_then after.goes.worlds.publishers client))
      (subst (λ (xs : List From). AllByRecursion (CarriesIn client (carriers client meant_then)) xs) (sym (from_same most limits client ts s w p)) (h.messages.carried client))

  accepts : AcceptsOnce most limits ts s
  accepts = record {
    each = accepted;
    carried = carried;
    few_open = subst (λ (b : Broker). FewOpen b.records) (sym (same_broker most limits then meant_then after)) h.messages.few_open;
  }

  module _ (client : List ℕ) (r : Receiver) (found : receiver_named client then.world ≡ Some r) where
    finds_then : Finds (Some r) (receiver_named client meant_then)
    finds_then = subst (λ (o : Option Receiver). Finds o (receiver_named client meant_then)) found (same_receiver most then meant_then client after.goes.worlds.receivers)

    all_handed : HandsOverAll (course most limits ts s) r
    all_handed =
        subst (λ (c : Course). HandsOverAll c r) (sym (course_same most limits ts s w p))
        (by_other (HandsOverAll (meant_course limits ts w)) (receiver_named client meant_then) r finds_then
        (λ q is. hands_all limits ts w client q (h.receivers client q is)) (λ downs. all_aside r downs (meant_course limits ts w)))

    module _ (xs ys : List Turn) (is : xs ++ ys ≡ ts) (q : Receiver) (at : receiver_named client (run most limits xs s).world ≡ Some q) where
      abbrev when : AsSent
      when = run most limits xs s

      abbrev meant_when : World
      meant_when = meant.run limits xs w

      pair_when : Pair most when meant_when
      pair_when = pair_run most limits xs s w p

      finds_when : Finds (Some q) (receiver_named client meant_when)
      finds_when = subst (λ (o : Option Receiver). Finds o (receiver_named client meant_when)) at (same_receiver most when meant_when client pair_when.goes.worlds.receivers)

      -- what holds of the two other receivers holds of both
      by_both : (P : Receiver → Receiver → Type 0)
          → ((x y : Receiver) → receiver_named client meant_when ≡ Some x → receiver_named client meant_then ≡ Some y → P x y)
          → ((y : Receiver) (downs : List Down) → P (receiver_with downs q) y → P q y)
          → ((x : Receiver) (downs : List Down) → P x (receiver_with downs r) → P x r)
          → P q r
      by_both P each first second =
          by_other (λ (x : Receiver). P x r) (receiver_named client meant_when) q finds_when
          (λ x is_x. by_other (λ (y : Receiver). P x y) (receiver_named client meant_then) r finds_then (λ y is_y. each x y is_x is_y) (λ downs. second x downs))
          (λ downs. first r downs)

      is_over : All (IsOver q r) (filter_map ended_in (course most limits xs s).deeds)
      is_over =
          subst (λ (ds : List Deed). All (IsOver q r) (filter_map ended_in ds)) (sym (deeds_same most limits xs s w p))
          (by_both (λ (x y : Receiver). All (IsOver x y) (filter_map ended_in (meant.deeds_over limits xs w)))
          (λ x y is_x is_y. (h.receivers client y is_y).over xs ys is x is_x)
          (λ y downs. over_from q downs y (filter_map ended_in (meant.deeds_over limits xs w)))
          (λ x downs. over_aside r downs x (filter_map ended_in (meant.deeds_over limits xs w))))

      since : HandsOverFrom (course most limits ys when) client q r
      since =
          let c = meant_course limits ys meant_when in
          subst (λ (d : Course). HandsOverFrom d client q r) (sym (course_same most limits ys when meant_when pair_when))
          (by_both (HandsOverFrom c client)
          (λ x y is_x is_y. hands_from limits ys meant_when client x y ((h.receivers client y is_y).since xs ys is x is_x))
          (λ y downs. from_then q downs c client y)
          (λ x downs. from_aside r downs c client x))

    hands_over : HandsOverOnce most limits ts s client r
    hands_over = record { all = all_handed; over = is_over; since = since }

  -- all of it
  pub run_delivers : DeliversExactlyOnce most limits ts s
  run_delivers = record {
    messages = accepts;
    entering = subst EntersAllOnce (sym (course_same most limits ts s w p)) (enters limits ts w h.entering);
    ending = subst EndsAllOnce (sym (course_same most limits ts s w p)) (ends_once limits ts w h.ending);
    receivers = hands_over;
    understood = λ xs ys is. pair_understands most (run most limits xs s) (meant.run limits xs w) (pair_run most limits xs s w p);
  }
