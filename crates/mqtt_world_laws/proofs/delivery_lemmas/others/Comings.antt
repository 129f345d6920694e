-- Ends come, give a line up, publish, ask for subscriptions and read, in the eyes of one receiver.
use Rattle.std.proofs.Common.{◌≡◌, ℕ, Bool, true, false, cond, not, ◌||◌, ◌&&◌, List, [], Option, Some, None, bytes_eq, refl, sym, ap, subst, ◌∙◌, inl, inr}
use Rattle.std.specs.Prelude.{is_some, option_map}
use Rattle.std.proofs.lemmas.Bool.{cases_Bool}
use Rattle.std.proofs.lemmas.Slice.Eq.{bytes_eq-Decides}
use Rattle.mqtt_base.specs.declared.session.CopyId.{CopyId}
use Rattle.mqtt_flow.specs.outbound.OutboundWorld.{Lot}
use Rattle.mqtt_flow.specs.inbound.Line.{Link, asked, away, live}
use Rattle.mqtt_world_model.specs.model.Ends.{Back, Draft, Publisher, Receiver, Sent, Wish, new_publisher, new_receiver, published, publisher_reads, receiver_reads}
use Rattle.mqtt_world_model.specs.model.Hops.{MayGiveUp}
use Rattle.mqtt_world_model.specs.model.Lines.{Line, gives_up, stands}
use Rattle.mqtt_world_model.specs.model.Run.{begins_clean, is_asked, is_clean}
use Rattle.mqtt_world_model.specs.model.Seats.{IsNamed, Present, Seat, absent, closed, joined, over, waiting}
use Rattle.mqtt_world_model.specs.model.Seen.{is_linked}
use Rattle.mqtt_world_model.specs.model.World.{Setting, World, asks_wish, clock, give_up, happens, is_bad, is_bad_name, is_end, is_open_line, is_wish, link_by, may_ask, may_ask_on, publish, publisher, publisher_named, receiver, receiver_named, subscribe, to_end, with_receiver, may_take}
use Rattle.mqtt_world_model.proofs.model_lemmas.seats.Places.{no_place_asked}
use Rattle.mqtt_world_model.proofs.model_lemmas.seats.Seats.{idle_linked}
use Rattle.mqtt_records.specs.lists.Distinct.{AllDiffer}
use Rattle.mqtt_rules.specs.step.State.{Broker, session_named}
use Rattle.mqtt_world_laws.proofs.acceptance_lemmas.publishers.Ends.{all_appended, all_mapped, find_last, find_no_more, find_publisher, find_receiver, is_some_mapped, only_client, only_receiver, either, unlined}
use Rattle.mqtt_world_laws.proofs.acceptance_lemmas.publishers.Happenings.{not_some, is_nothing, named_so, may_give}
use Rattle.mqtt_world_laws.proofs.acceptance_lemmas.publishers.Kept.{gives_apart, kept_apart, published_remains, read_remains, read_there}
use Rattle.mqtt_world_laws.specs.receiver.Handing.{IsRun}
use Rattle.mqtt_world_laws.proofs.receiver_lemmas.own.OwnDoings.{asks_awaiting, asks_in_step, comes_awaiting, gives_up_awaiting, gives_up_in_step, reads_awaiting, reads_in_step}
use Rattle.mqtt_world_laws.specs.delivery.Standing.{GoesAlong, HasOthers, IsOtherPublisher, IsOtherReceiver, IsOutOf, IsPlaced, IsSeen, StandsWith, line_like, publisher_like}
use Rattle.mqtt_world_laws.proofs.delivery_lemmas.others.Around.{changed_its, changed_not, end_others, on_back, on_line, own_stands, whose_name}
use Rattle.mqtt_world_laws.proofs.delivery_lemmas.others.Like.{calm_up, closed_stands, connected_linked, joined_stands, moves_reading, none_stands, quiet_down, same_reading, seat_asked, seat_given, seat_read}
use Rattle.mqtt_world_laws.proofs.receiver_lemmas.queue.Numbers.{place_of, places_number}

-- ---- the run that it sees, by the places of its copies

-- a receiver that goes along is in a run of the hop
pub run_of : (o : Option ℕ) (largest : ℕ) (ids : List CopyId) (ns : List ℕ) (r : Receiver) (b : Broker) → GoesAlong o largest ids ns r b → AllDiffer ids → (copies : List Lot) × IsRun (place_of ids) largest copies r b
run_of None largest ids ns r b k differ = let x = k.runs (place_of ids) (places_number ids differ) in (x.after, x.run_is)
run_of (Some birth) largest ids ns r b k differ = let x = k.runs (place_of ids) (places_number ids differ) in (x.after, x.run_is)

-- ---- a publisher comes

-- a new publisher leaves it standing
pub publisher_comes : (c d : List ℕ) (largest : ℕ) (set : Setting) (ids : List CopyId) (ns : List ℕ) (w : World) → StandsWith c largest set.limits ids ns w → is_bad (publisher d) w ≡ false
    → StandsWith c largest set.limits ids ns (happens set (publisher d) w)
publisher_comes c d largest set ids ns w h good =
    let name = either (is_bad_name d) (is_end d w) good in
    let ends = either (is_some (publisher_named d w)) (is_some (receiver_named d w)) name.1 in
    record {
      around = record {
        within = h.around.within;
        steady = h.around.steady;
        tidy = h.around.tidy;
        known = h.around.known;
        publishers = all_appended (IsOtherPublisher ns w.broker.given) w.publishers (new_publisher d) h.around.publishers (unlined (IsOutOf ns) w.broker.given (new_publisher d).line refl refl);
        receivers = h.around.receivers;
        strangers = h.around.strangers;
        alone = λ there. elim (cases_Bool (bytes_eq d c)) [
          | inl its ↦
              let is : d ≡ c = (bytes_eq-Decides d c).0 its in
              let clash : true ≡ false = sym there ∙ (ap (λ (x : List ℕ). is_some (receiver_named x w)) (sym is) ∙ ends.1) in
              absurd cc
          | inr other ↦ find_no_more (λ (p : Publisher). bytes_eq p.client c) (new_publisher d) w.publishers other ∙ h.around.alone there
        ];
        place = h.around.place;
      };
      seen = h.seen;
    }

-- ---- a receiver comes

new_placed : (c : List ℕ) (largest window aliases since : ℕ) (b : Broker) → is_bad_name c ≡ false → session_named c b.records ≡ None → IsPlaced largest [] [] (new_receiver c window aliases since) b
new_placed c largest window aliases since b named none = record {
  birth = None;
  line = 0;
  along = comes_awaiting largest c window aliases since b none;
  seat = record { his = none; present = absent refl refl; former = over refl };
  its_line = refl;
  apart = λ n e f. absurd cc;
  named = named_so c named;
  told = record { come = tt; differ = tt };
}

-- so does a new receiver
pub receiver_comes : (c d : List ℕ) (largest window aliases : ℕ) (set : Setting) (ids : List CopyId) (ns : List ℕ) (w : World) → StandsWith c largest set.limits ids ns w → is_bad (receiver d window aliases) w ≡ false → begins_clean (receiver d window aliases) w ≡ true
    → StandsWith c largest set.limits ids ns (happens set (receiver d window aliases) w)
receiver_comes c d largest window aliases set ids ns w h good clean = record {
  around = record {
    within = h.around.within;
    steady = h.around.steady;
    tidy = h.around.tidy;
    known = h.around.known;
    publishers = h.around.publishers;
    receivers = all_appended (IsOtherReceiver c ns w.broker.given) w.receivers new h.around.receivers (inr (unlined (IsOutOf ns) w.broker.given new.line refl refl));
    strangers = h.around.strangers;
    alone = λ there. elim (cases_Bool (bytes_eq d c)) [
      | inl its ↦ ap (λ (x : List ℕ). publisher_named x w) (sym ((bytes_eq-Decides d c).0 its)) ∙ not_some (publisher_named d w) ends.0
      | inr other ↦ h.around.alone (sym (ap is_some (find_no_more (λ (r : Receiver). bytes_eq r.client c) new w.receivers other)) ∙ there)
    ];
    place = λ there. elim (cases_Bool (bytes_eq d c)) [
      | inl its ↦ no_place_asked set.limits c w.broker.records (subst (λ (x : List ℕ). session_named x w.broker.records ≡ None) ((bytes_eq-Decides d c).0 its) (is_nothing (session_named d w.broker.records) clean))
      | inr other ↦ h.around.place (sym (ap is_some (find_no_more (λ (r : Receiver). bytes_eq r.client c) new w.receivers other)) ∙ there)
    ];
  };
  seen = elim (cases_Bool (bytes_eq d c)) [
    | inl its ↦ own ((bytes_eq-Decides d c).0 its)
    | inr other ↦ subst (IsSeen largest ids ns w.broker) (sym (find_no_more (λ (r : Receiver). bytes_eq r.client c) new w.receivers other)) h.seen
  ];
}
  where
    new : Receiver
    new = new_receiver d window aliases w.broker.records.births

    name : (is_bad_name d ≡ false) × ((is_end d w || not (may_take window aliases)) ≡ false)
    name = either (is_bad_name d) (is_end d w || not (may_take window aliases)) good

    ends : (is_some (publisher_named d w) ≡ false) × (is_some (receiver_named d w) ≡ false)
    ends = either (is_some (publisher_named d w)) (is_some (receiver_named d w)) (either (is_end d w) (not (may_take window aliases)) name.1).0

    own : d ≡ c → IsSeen largest ids ns w.broker (receiver_named c (happens set (receiver d window aliases) w))
    own is =
        let nobody : receiver_named c w ≡ None = not_some (receiver_named c w) (ap (λ (x : List ℕ). is_some (receiver_named x w)) (sym is) ∙ ends.1) in
        let found : receiver_named c (happens set (receiver d window aliases) w) ≡ Some new = find_last (λ (r : Receiver). bytes_eq r.client c) new w.receivers ((bytes_eq-Decides d c).1 is) nobody in
        let none = subst (IsSeen largest ids ns w.broker) nobody h.seen in
        let placed = new_placed d largest window aliases w.broker.records.births w.broker name.0 (is_nothing (session_named d w.broker.records) clean) in
        subst (IsSeen largest ids ns w.broker) (sym found)
        (subst (λ (xs : List CopyId). IsPlaced largest xs ns new w.broker) (sym none.0) (subst (λ (ms : List ℕ). IsPlaced largest [] ms new w.broker) (sym none.1) placed))

-- ---- where it is after its doings

placed_does : (largest : ℕ) (ids : List CopyId) (ns : List ℕ) (r q : Receiver) (b : Broker) (placed : IsPlaced largest ids ns r b) → q.client ≡ r.client → GoesAlong placed.birth largest ids ns q b
    → Seat placed.birth placed.line (publisher_like q) b → ((n : ℕ) → q.line.number ≡ Some n → q.line.old_number ≡ Some n → ⊥) → IsPlaced largest ids ns q b
placed_does largest ids ns r q b placed client along seat apart = record {
  birth = placed.birth;
  line = placed.line;
  along = along;
  seat = seat;
  its_line = placed.its_line;
  apart = apart;
  named = subst IsNamed (sym client) placed.named;
  told = placed.told;
}

-- ---- an end gives its line up

given_along : (o : Option ℕ) (largest : ℕ) (ids : List CopyId) (ns : List ℕ) (r : Receiver) (b : Broker) → GoesAlong o largest ids ns r b → MayGiveUp r.line.link r.line.clean
    → GoesAlong o largest ids ns (record r { line = gives_up r.line.link r.line }) b
given_along None largest ids ns r b k may = gives_up_awaiting largest ids ns r b k may
given_along (Some birth) largest ids ns r b k may = gives_up_in_step largest ids birth ns r b k may

given_apart : (link : Link) (r : Receiver) → ((n : ℕ) → r.line.number ≡ Some n → r.line.old_number ≡ Some n → ⊥) → (n : ℕ) → (gives_up link r.line).number ≡ Some n → (gives_up link r.line).old_number ≡ Some n → ⊥
given_apart away r h n e f = h n e f
given_apart asked r h n e f = absurd cc
given_apart live r h n e f = absurd cc

-- and an end that gives up
pub given_up_stands : (c d : List ℕ) (largest : ℕ) (set : Setting) (ids : List CopyId) (ns : List ℕ) (w : World) → StandsWith c largest set.limits ids ns w → begins_clean (give_up d) w ≡ true
    → StandsWith c largest set.limits ids ns (happens set (give_up d) w)
given_up_stands c d largest set ids ns w h carried = elim (whose_name c d w) [
  | inr not_its ↦ end_others c d largest set.limits ids ns w (on_line gives) (on_back gives_back) (λ p. refl) (λ r. refl) (λ p. gives_apart (IsOutOf ns) w.broker.given p.line.link p.line) (λ r. gives_apart (IsOutOf ns) w.broker.given r.line.link r.line) not_its h
  | inl own ↦ subst (λ (x : List ℕ). StandsWith c largest set.limits ids ns (happens set (give_up x) w)) (sym own.2)
      (own_gives own.0 own.1 (subst (λ (x : List ℕ). begins_clean (give_up x) w ≡ true) own.2 carried))
]
  where
    gives : Line Sent → Line Sent
    gives l = gives_up l.link l

    gives_back : Line Back → Line Back
    gives_back l = gives_up l.link l

    own_gives : (r : Receiver) → receiver_named c w ≡ Some r → begins_clean (give_up c) w ≡ true → StandsWith c largest set.limits ids ns (happens set (give_up c) w)
    own_gives r e carries =
        let placed = subst (IsSeen largest ids ns w.broker) e h.seen in
        let none = h.around.alone (ap is_some e) in
        let asks_ : begins_clean (give_up c) w ≡ not (is_asked (Some r.line.link) && r.line.clean) =
        ap (λ (o : Option Publisher). not (is_asked (link_by o (receiver_named c w)) && is_clean o (receiver_named c w))) none
        ∙ ap (λ (o : Option Receiver). not (is_asked (link_by None o) && is_clean None o)) e in
        let may = may_give r.line.link r.line.clean (sym asks_ ∙ carries) in
        let run = run_of placed.birth largest ids ns r w.broker placed.along placed.told.differ in
        own_stands c largest set.limits ids ns w r (on_line gives) (on_back gives_back) (λ p. refl) (λ q. refl) e h.around
        (placed_does largest ids ns r (on_back gives_back r) w.broker placed refl (given_along placed.birth largest ids ns r w.broker placed.along may)
        (seat_given placed.birth placed.line r w.broker placed.seat (calm_up (place_of ids) largest run.0 r w.broker run.1) may) (given_apart r.line.link r placed.apart))

-- ---- an end publishes

-- and a publication
pub published_stands : (c d : List ℕ) (x : Draft) (largest : ℕ) (set : Setting) (ids : List CopyId) (ns : List ℕ) (w : World) → StandsWith c largest set.limits ids ns w
    → StandsWith c largest set.limits ids ns (happens set (publish d x) w)
published_stands c d x largest set ids ns w h = record {
  around = record {
    within = h.around.within;
    steady = h.around.steady;
    tidy = h.around.tidy;
    known = h.around.known;
    publishers = all_mapped (IsOtherPublisher ns w.broker.given) (IsOtherPublisher ns w.broker.given) (λ p. cond (bytes_eq p.client d) (F p) p) w.publishers (λ p. other (bytes_eq p.client d) p) h.around.publishers;
    receivers = h.around.receivers;
    strangers = h.around.strangers;
    alone = λ there. find_publisher c (λ p. cond (bytes_eq p.client d) (F p) p) (λ p. only_client (bytes_eq p.client d) F p ((published_remains (is_open_line p.line w) x p).client)) w.publishers
        ∙ ap (option_map (λ p. cond (bytes_eq p.client d) (F p) p)) (h.around.alone there);
    place = h.around.place;
  };
  seen = h.seen;
}
  where
    F : Publisher → Publisher
    F p = published (is_open_line p.line w) x p

    other : (t : Bool) (p : Publisher) → HasOthers ns w.broker.given p.line → HasOthers ns w.broker.given (cond t (F p) p).line
    other true p k = kept_apart (IsOutOf ns) w.broker.given p.line (F p).line (published_remains (is_open_line p.line w) x p).line k
    other false p k = k

-- ---- a receiver asks for a subscription

may_be_live : (link : Link) (asking : Bool) → not (may_ask_on link asking) ≡ false → link ≡ live
may_be_live away asking e = absurd cc
may_be_live asked asking e = absurd cc
may_be_live live asking e = refl

asked_along : (o : Option ℕ) (largest : ℕ) (ids : List CopyId) (ns : List ℕ) (t : Bool) (x : Wish) (r : Receiver) (b : Broker) → GoesAlong o largest ids ns r b → GoesAlong o largest ids ns (asks_wish t x r) b
asked_along None largest ids ns t x r b k = asks_awaiting largest ids ns t x r b k
asked_along (Some birth) largest ids ns t x r b k = asks_in_step largest ids birth ns t x r b k

-- and a subscription
pub subscribed_stands : (c d : List ℕ) (x : Wish) (largest : ℕ) (set : Setting) (ids : List CopyId) (ns : List ℕ) (w : World) → StandsWith c largest set.limits ids ns w → is_bad (subscribe d x) w ≡ false
    → StandsWith c largest set.limits ids ns (happens set (subscribe d x) w)
subscribed_stands c d x largest set ids ns w h good = record {
  around = record {
    within = h.around.within;
    steady = h.around.steady;
    tidy = h.around.tidy;
    known = h.around.known;
    publishers = h.around.publishers;
    receivers = all_mapped (IsOtherReceiver c ns w.broker.given) (IsOtherReceiver c ns w.broker.given) (λ r. cond (bytes_eq r.client d) (G r) r) w.receivers (λ r. other (bytes_eq r.client d) r) h.around.receivers;
    strangers = h.around.strangers;
    alone = λ there. h.around.alone (before there);
    place = λ there. h.around.place (before there);
  };
  seen = elim (whose_name c d w) [
    | inr not_its ↦ subst (IsSeen largest ids ns w.broker) (sym (changed_not c d G w (λ r. refl) not_its)) h.seen
    | inl own ↦
        let r = own.0 in
        let placed = subst (IsSeen largest ids ns w.broker) own.1 h.seen in
        let link = may_be_live r.line.link r.asking (sym (ap (λ (o : Option Receiver). not (may_ask o)) own.1)
        ∙ (either (not (may_ask (receiver_named c w))) (not (is_wish x)) (subst (λ (y : List ℕ). is_bad (subscribe y x) w ≡ false) own.2 good)).0) in
        subst (λ (y : List ℕ). IsSeen largest ids ns w.broker (receiver_named c (with_receiver y G w))) (sym own.2)
        (subst (IsSeen largest ids ns w.broker) (sym (changed_its c G w r (λ q. refl) own.1))
        (placed_does largest ids ns r (G r) w.broker placed refl (asked_along placed.birth largest ids ns (stands r.line.number w.broker) x r w.broker placed.along)
        (seat_asked placed.birth placed.line x r w.broker placed.seat link) (λ n e f. placed.apart n e f)))
  ];
}
  where
    G : Receiver → Receiver
    G r = asks_wish (is_open_line r.line w) x r

    before : is_some (receiver_named c (happens set (subscribe d x) w)) ≡ true → is_some (receiver_named c w) ≡ true
    before there = sym (is_some_mapped (λ r. cond (bytes_eq r.client d) (G r) r) (receiver_named c w))
        ∙ (sym (ap is_some (find_receiver c (λ r. cond (bytes_eq r.client d) (G r) r) (λ r. only_receiver (bytes_eq r.client d) G r refl) w.receivers)) ∙ there)

    other : (t : Bool) (r : Receiver) → IsOtherReceiver c ns w.broker.given r → IsOtherReceiver c ns w.broker.given (cond t (G r) r)
    other true r (inl is) = inl is
    other true r (inr free) = inr (record { number = free.number; old_number = free.old_number })
    other false r free = free

-- ---- an end reads

read_at : (o : Option ℕ) (largest : ℕ) (ids : List CopyId) (ns : List ℕ) (t : Bool) (r : Receiver) (b : Broker) → GoesAlong o largest ids ns r b → is_linked r.line.number b ≡ t
    → GoesAlong o largest ids ns (receiver_reads t r.line.down r) b
read_at None largest ids ns t r b k e = reads_awaiting largest ids ns t r b k e
read_at (Some birth) largest ids ns t r b k e = reads_in_step largest ids birth ns t r b k e

read_along : (o : Option ℕ) (k largest : ℕ) (ids : List CopyId) (ns : List ℕ) (r : Receiver) (b : Broker) → GoesAlong o largest ids ns r b → AllDiffer ids → Present o k (line_like r.line) b
    → GoesAlong o largest ids ns (receiver_reads (stands r.line.number b) r.line.down r) b
read_along o k largest ids ns r b along differ (absent none up) = read_at o largest ids ns (stands r.line.number b) r b along (ap (λ (x : Option ℕ). is_linked x b) none ∙ sym (none_stands r.line.number b none))
read_along o k largest ids ns r b along differ (closed n is up idle none) =
    read_at o largest ids ns (stands r.line.number b) r b along (ap (λ (x : Option ℕ). is_linked x b) is ∙ (idle_linked n b idle ∙ sym (closed_stands r.line.number n b is none)))
read_along o k largest ids ns r b along differ (joined birth own is there) =
    read_at o largest ids ns (stands r.line.number b) r b along (connected_linked k birth r.line.number b is there ∙ sym (joined_stands r.line.number k birth b is there))
read_along o k largest ids ns r b along differ (waiting n clean is link_is clean_is up down idle there) =
    let run = run_of o largest ids ns r b along differ in
    let none = quiet_down (place_of ids) largest run.0 r b clean run.1 up in
    subst (λ (q : Receiver). GoesAlong o largest ids ns q b) (same_reading (place_of ids) false (stands r.line.number b) r.line.down r none)
    (read_at o largest ids ns false r b along (ap (λ (x : Option ℕ). is_linked x b) is ∙ idle_linked n b idle))

read_apart : (t : Bool) (r : Receiver) → ((n : ℕ) → r.line.number ≡ Some n → r.line.old_number ≡ Some n → ⊥) → (n : ℕ) → (receiver_reads t r.line.down r).line.number ≡ Some n → (receiver_reads t r.line.down r).line.old_number ≡ Some n → ⊥
read_apart t r h n e f =
    let m = moves_reading t r.line.down r in
    elim m.own [
      | inl gone ↦ let clash : None ≡ Some n = sym gone.0 ∙ e in absurd cc
      | inr kept ↦ h n (sym kept.0 ∙ e) (sym m.old_number ∙ f)
    ]

-- and an end's reading
pub read_stands : (c d : List ℕ) (largest : ℕ) (set : Setting) (ids : List CopyId) (ns : List ℕ) (w : World) → StandsWith c largest set.limits ids ns w → StandsWith c largest set.limits ids ns (happens set (to_end d) w)
read_stands c d largest set ids ns w h = elim (whose_name c d w) [
  | inr not_its ↦ end_others c d largest set.limits ids ns w F G keeps keeps_there others others_there not_its h
  | inl own ↦
      let r = own.0 in
      let placed = subst (IsSeen largest ids ns w.broker) own.1 h.seen in
      let run = run_of placed.birth largest ids ns r w.broker placed.along placed.told.differ in
      subst (λ (x : List ℕ). StandsWith c largest set.limits ids ns (happens set (to_end x) w)) (sym own.2)
      (own_stands c largest set.limits ids ns w r F G keeps keeps_there own.1 h.around
      (placed_does largest ids ns r (G r) w.broker placed (keeps_there r) (read_along placed.birth placed.line largest ids ns r w.broker placed.along placed.told.differ placed.seat.present)
      (seat_read (place_of ids) largest run.0 placed.birth placed.line r w.broker run.1 placed.seat) (read_apart (stands r.line.number w.broker) r placed.apart)))
]
  where
    F : Publisher → Publisher
    F p = publisher_reads (is_open_line p.line w) p.line.down p

    G : Receiver → Receiver
    G r = receiver_reads (is_open_line r.line w) r.line.down r

    keeps : (p : Publisher) → (F p).client ≡ p.client
    keeps p = (read_remains (is_open_line p.line w) p.line.down p).client

    keeps_there : (r : Receiver) → (G r).client ≡ r.client
    keeps_there r = (read_there (is_open_line r.line w) r.line.down r).client

    others : (p : Publisher) → HasOthers ns w.broker.given p.line → HasOthers ns w.broker.given (F p).line
    others p = kept_apart (IsOutOf ns) w.broker.given p.line (F p).line (read_remains (is_open_line p.line w) p.line.down p).line

    others_there : (r : Receiver) → HasOthers ns w.broker.given r.line → HasOthers ns w.broker.given (G r).line
    others_there r = kept_apart (IsOutOf ns) w.broker.given r.line (G r).line (read_there (is_open_line r.line w) r.line.down r).line

-- ---- time passes

-- and time that passes
pub clock_stands : (c : List ℕ) (wait largest : ℕ) (set : Setting) (ids : List CopyId) (ns : List ℕ) (w : World) → StandsWith c largest set.limits ids ns w → StandsWith c largest set.limits ids ns (happens set (clock wait) w)
clock_stands c wait largest set ids ns w h = record {
  around = record {
    within = h.around.within;
    steady = h.around.steady;
    tidy = h.around.tidy;
    known = h.around.known;
    publishers = h.around.publishers;
    receivers = h.around.receivers;
    strangers = h.around.strangers;
    alone = h.around.alone;
    place = h.around.place;
  };
  seen = h.seen;
}
