-- What ends do, in the eyes of one publisher: they come, join, give a line up, publish, subscribe and read.
use Rattle.std.proofs.Common.{◌≡◌, ℕ, Bool, true, false, cond, not, ◌||◌, ◌&&◌, List, [], ◌∷◌, ◌++◌, length, Option, Some, None, nat_eq, nat_lt, bytes_eq, refl, sym, ap, subst, ◌∙◌, inl, inr}
use Rattle.std.specs.Prelude.{option_map, is_none, is_some}
use Rattle.std.specs.List.{AllByRecursion, starts_with}
use Rattle.std.proofs.lemmas.Bool.{cases_Bool}
use Rattle.std.proofs.lemmas.Slice.Eq.{bytes_eq-Decides}
use Rattle.mqtt_base.specs.Values.{is_text}
use Rattle.mqtt_base.specs.declared.limits.TheConstants.{CLIENT_LIMIT}
use Rattle.mqtt_flow.specs.inbound.Line.{Link, away, asked, live}
use Rattle.mqtt_flow.specs.inbound.InboundWorld as hop
use Rattle.mqtt_records.specs.declared.state.session.Session.{Session}
use Rattle.mqtt_rules.specs.step.State.{Broker, session_named}
use Rattle.mqtt_rules.specs.step.Laws.{IsAmong}
use Rattle.mqtt_world_model.specs.model.Lines.{Line, gives_up}
use Rattle.mqtt_world_model.specs.model.Ends.{Draft, Sent, Publisher, new_publisher, published, publisher_reads, Wish, Back, Receiver, new_receiver, receiver_reads}
use Rattle.mqtt_world_model.specs.model.World.{World, Setting, publisher, receiver, give_up, publish, subscribe, to_end, clock, happens, is_bad, is_bad_name, is_end, link_by, publisher_named, receiver_named, with_publisher, is_open_line, asks_wish, may_take}
use Rattle.mqtt_world_model.specs.model.Run.{is_asked, is_clean, begins_clean}
use Rattle.mqtt_world_model.specs.model.Seen.{open_in, seen}
use Rattle.mqtt_world_model.specs.model.Hops.{MayGiveUp}
use Rattle.mqtt_world_model.specs.model.Seats.{IsNamed, absent, over}
use Rattle.mqtt_world_model.proofs.model_lemmas.seats.Places.{no_place_asked}
use Rattle.mqtt_world_model.proofs.model_lemmas.seats.Doings.{publishes, hears, gives}
use Rattle.mqtt_world_laws.proofs.acceptance_lemmas.publishers.Ends.{all_mapped, all_appended, find_last, find_no_more, whose_name, changed_not, changed_his, find_publisher, find_receiver, is_some_mapped, either, unlined}
use Rattle.mqtt_world_laws.proofs.acceptance_lemmas.publishers.Around.{IsOutOf, HasFree, OtherPublisher, OtherReceiver, Around, Placed, Him, Holds, placed_does}
use Rattle.mqtt_world_laws.proofs.acceptance_lemmas.publishers.Changes.{on_line, on_back, end_others, line_others, own_holds}
use Rattle.mqtt_world_laws.proofs.acceptance_lemmas.publishers.Kept.{kept_apart, published_remains, read_remains, read_there, gives_apart}
use Rattle.mqtt_records.specs.state.Session.{auto}

-- nothing is there
pub not_some : {X : Type 0} (o : Option X) → is_some o ≡ false → o ≡ None
not_some None e = refl
not_some (Some x) e = absurd cc

-- which two tests tell
pub is_nothing : {X : Type 0} (o : Option X) → is_none o ≡ true → o ≡ None
is_nothing None e = refl
is_nothing (Some x) e = absurd cc

-- ---- a publisher comes

-- a name that may be given
pub named_so : (c : List ℕ) → is_bad_name c ≡ false → IsNamed c
named_so [] h = absurd cc
named_so (x ∷ xs) h =
    let c = x ∷ xs in
    let some_ = either (nat_eq (length c) 0) (nat_lt CLIENT_LIMIT (length c) || (starts_with nat_eq c auto || not (is_text c))) h in
    let both = either (nat_lt CLIENT_LIMIT (length c)) (starts_with nat_eq c auto || not (is_text c)) some_.1 in
    record { some = refl; short = both.0; plain = (either (starts_with nat_eq c auto) (not (is_text c)) both.1).0 }

-- nobody has sent anything: it sees the beginning of its hop
new_seen : (c : List ℕ) (b : Broker) → session_named c b.records ≡ None → seen [] (new_publisher c) b ≡ hop.start
new_seen c b e = ap (λ (o : Option Session). record hop.start { stands = is_some o; ids = open_in o }) e

new_placed : (c : List ℕ) (his : List ℕ) (b : Broker) → IsAmong 0 his → is_bad_name c ≡ false → session_named c b.records ≡ None → Placed his (new_publisher c) b []
new_placed c his b none named e = record {
  birth = None;
  line = 0;
  seat = record { his = e; present = absent refl refl; former = over refl };
  its_line = none;
  number = λ j is. absurd cc;
  old_number = λ j is. absurd cc;
  apart = λ j f g. absurd cc;
  settled = λ f. absurd cc;
  named = named_so c named;
  run = record { events = []; seen_is = new_seen c b e };
}

-- a new publisher leaves him in step
pub publisher_comes : (c d : List ℕ) (set : Setting) (his accepted : List ℕ) (w : World) → Holds c set.limits his accepted w → is_bad (publisher d) w ≡ false → begins_clean (publisher d) w ≡ true
    → Holds c set.limits his accepted (happens set (publisher d) w)
publisher_comes c d set his accepted w h good clean = elim (cases_Bool (bytes_eq d c)) [
  | inl its ↦ own ((bytes_eq-Decides d c).0 its)
  | inr other ↦ others other
]
  where
    Goal : Type 0
    Goal = Holds c set.limits his accepted (happens set (publisher d) w)

    list : OtherPublisher c his w.broker.given (new_publisher d) → AllByRecursion (OtherPublisher c his w.broker.given) (w.publishers ++ new_publisher d ∷ [])
    list x = all_appended (OtherPublisher c his w.broker.given) w.publishers (new_publisher d) h.around.publishers x

    others : bytes_eq d c ≡ false → Goal
    others other =
        let same : publisher_named c (happens set (publisher d) w) ≡ publisher_named c w = find_no_more (λ (p : Publisher). bytes_eq p.client c) (new_publisher d) w.publishers other in
        record {
          around = record {
            within = h.around.within;
            steady = h.around.steady;
            known = h.around.known;
            none = h.around.none;
            publishers = list (inr (unlined (IsOutOf his) w.broker.given (new_publisher d).line refl refl));
            receivers = h.around.receivers;
            strangers = h.around.strangers;
            alone = λ there. h.around.alone (sym (ap is_some same) ∙ there);
            place = λ there. h.around.place (sym (ap is_some same) ∙ there);
          };
          him = subst (Him his w.broker accepted) (sym same) h.him;
        }

    own : d ≡ c → Goal
    own is =
        let name = either (is_bad_name d) (is_end d w) good in
        let ends = either (is_some (publisher_named d w)) (is_some (receiver_named d w)) name.1 in
        let nobody : publisher_named c w ≡ None = not_some (publisher_named c w) (ap (λ (x : List ℕ). is_some (publisher_named x w)) (sym is) ∙ ends.0) in
        let found : publisher_named c (happens set (publisher d) w) ≡ Some (new_publisher d) =
        find_last (λ (p : Publisher). bytes_eq p.client c) (new_publisher d) w.publishers ((bytes_eq-Decides d c).1 is) nobody in
        let none : accepted ≡ [] = subst (Him his w.broker accepted) nobody h.him in
        record {
          around = record {
            within = h.around.within;
            steady = h.around.steady;
            known = h.around.known;
            none = h.around.none;
            publishers = list (inl is);
            receivers = h.around.receivers;
            strangers = h.around.strangers;
            alone = λ there. not_some (receiver_named c w) (ap (λ (x : List ℕ). is_some (receiver_named x w)) (sym is) ∙ ends.1);
            place = λ there. no_place_asked set.limits c w.broker.records (subst (λ (x : List ℕ). session_named x w.broker.records ≡ None) is (is_nothing (session_named d w.broker.records) clean));
          };
          him = subst (Him his w.broker accepted) (sym found)
              (subst (λ (ns : List ℕ). Placed his (new_publisher d) w.broker ns) (sym none)
              (new_placed d his w.broker h.around.none name.0 (is_nothing (session_named d w.broker.records) clean)));
        }

-- ---- a receiver comes

-- so does a new receiver
pub receiver_comes : (c d : List ℕ) (window aliases : ℕ) (set : Setting) (his accepted : List ℕ) (w : World) → Holds c set.limits his accepted w → is_bad (receiver d window aliases) w ≡ false
    → Holds c set.limits his accepted (happens set (receiver d window aliases) w)
receiver_comes c d window aliases set his accepted w h good =
    let new = new_receiver d window aliases w.broker.records.births in
    let name = either (is_bad_name d) (is_end d w || not (may_take window aliases)) good in
    let there = either (is_end d w) (not (may_take window aliases)) name.1 in
    let ends = either (is_some (publisher_named d w)) (is_some (receiver_named d w)) there.0 in
    record {
      around = record {
        within = h.around.within;
        steady = h.around.steady;
        known = h.around.known;
        none = h.around.none;
        publishers = h.around.publishers;
        receivers = all_appended (OtherReceiver his w.broker.given) w.receivers new h.around.receivers (unlined (IsOutOf his) w.broker.given new.line refl refl);
        strangers = h.around.strangers;
        alone = λ there. elim (cases_Bool (bytes_eq d c)) [
          | inl its ↦
              let is : d ≡ c = (bytes_eq-Decides d c).0 its in
              let clash : true ≡ false = sym there ∙ (ap (λ (x : List ℕ). is_some (publisher_named x w)) (sym is) ∙ ends.0) in
              absurd cc
          | inr other ↦ find_no_more (λ (r : Receiver). bytes_eq r.client c) new w.receivers other ∙ h.around.alone there
        ];
        place = h.around.place;
      };
      him = h.him;
    }

-- ---- an end gives its line up

-- an end that carries no Clean Start through may give its line up
pub may_give : (link : Link) (clean : Bool) → not (is_asked (Some link) && clean) ≡ true → MayGiveUp link clean
may_give away clean h = tt
may_give live clean h = tt
may_give asked true h = absurd cc
may_give asked false h = refl

-- and an end that gives up
pub given_up_holds : (c d : List ℕ) (set : Setting) (his accepted : List ℕ) (w : World) → Holds c set.limits his accepted w → begins_clean (give_up d) w ≡ true → Holds c set.limits his accepted (happens set (give_up d) w)
given_up_holds c d set his accepted w h carried = elim (whose_name c d w) [
  | inr not_him ↦ line_others c d set.limits his accepted w gives_his gives_theirs (λ l. gives_apart (IsOutOf his) w.broker.given l.link l) (λ l. gives_apart (IsOutOf his) w.broker.given l.link l) not_him h
  | inl own ↦ subst (λ (x : List ℕ). Holds c set.limits his accepted (happens set (give_up x) w)) (sym own.2)
      (own_gives own.0 own.1 (subst (λ (x : List ℕ). begins_clean (give_up x) w ≡ true) own.2 carried))
]
  where
    gives_his : Line Sent → Line Sent
    gives_his l = gives_up l.link l

    gives_theirs : Line Back → Line Back
    gives_theirs l = gives_up l.link l

    own_gives : (p : Publisher) → publisher_named c w ≡ Some p → begins_clean (give_up c) w ≡ true → Holds c set.limits his accepted (happens set (give_up c) w)
    own_gives p e carries =
        let placed = subst (Him his w.broker accepted) e h.him in
        let may = may_give p.line.link p.line.clean (sym (by e) ∙ carries) in
        own_holds c set.limits his accepted w p (on_line gives_his) (on_back gives_theirs) (λ q. refl) (λ q. refl) e h.around
        (placed_does his p (on_line gives_his p) w.broker accepted placed (gives placed.birth placed.line p w.broker accepted placed.seat placed.settled placed.run may))
      where
        by : publisher_named c w ≡ Some p → begins_clean (give_up c) w ≡ not (is_asked (Some p.line.link) && p.line.clean)
        by e = ap (λ (o : Option Publisher). not (is_asked (link_by o (receiver_named c w)) && clean_of o)) e
          where
            clean_of : Option Publisher → Bool
            clean_of o = is_clean o (receiver_named c w)

-- ---- an end publishes

-- and a publication
pub published_holds : (c d : List ℕ) (x : Draft) (set : Setting) (his accepted : List ℕ) (w : World) → Holds c set.limits his accepted w → Holds c set.limits his accepted (happens set (publish d x) w)
published_holds c d x set his accepted w h = elim (whose_name c d w) [
  | inr not_him ↦ record { around = changed; him = subst (Him his w.broker accepted) (sym (changed_not c d F w (λ p. keeps p) not_him)) h.him }
  | inl own ↦
      let p = own.0 in
      let placed = subst (Him his w.broker accepted) own.1 h.him in
      let next = placed_does his p (F p) w.broker accepted placed (publishes placed.birth placed.line x p w.broker accepted placed.seat placed.settled) in
      record {
        around = changed;
        him = subst (Him his w.broker accepted) (sym (ap (λ (y : List ℕ). publisher_named c (with_publisher y F w)) own.2 ∙ changed_his c F w p (λ q. keeps q) own.1)) next;
      }
]
  where
    F : Publisher → Publisher
    F p = published (is_open_line p.line w) x p

    keeps : (p : Publisher) → (F p).client ≡ p.client
    keeps p = (published_remains (is_open_line p.line w) x p).client

    other : (t : Bool) (p : Publisher) → OtherPublisher c his w.broker.given p → OtherPublisher c his w.broker.given (cond t (F p) p)
    other true p (inl is) = inl (keeps p ∙ is)
    other true p (inr free) = inr (kept_apart (IsOutOf his) w.broker.given p.line (F p).line (published_remains (is_open_line p.line w) x p).line free)
    other false p k = k

    only : (t : Bool) (p : Publisher) → (cond t (F p) p).client ≡ p.client
    only true p = keeps p
    only false p = refl

    changed : Around c set.limits his (happens set (publish d x) w)
    changed = record {
      within = h.around.within;
      steady = h.around.steady;
      known = h.around.known;
      none = h.around.none;
      publishers = all_mapped (OtherPublisher c his w.broker.given) (OtherPublisher c his w.broker.given) (λ p. cond (bytes_eq p.client d) (F p) p) w.publishers (λ p. other (bytes_eq p.client d) p) h.around.publishers;
      receivers = h.around.receivers;
      strangers = h.around.strangers;
      alone = λ there. h.around.alone (before there);
      place = λ there. h.around.place (before there);
    }
      where
        before : is_some (publisher_named c (happens set (publish d x) w)) ≡ true → is_some (publisher_named c w) ≡ true
        before there = sym (is_some_mapped (λ p. cond (bytes_eq p.client d) (F p) p) (publisher_named c w))
            ∙ (sym (ap is_some (find_publisher c (λ p. cond (bytes_eq p.client d) (F p) p) (λ p. only (bytes_eq p.client d) p) w.publishers)) ∙ there)

-- ---- an end reads

-- and an end's reading
pub read_holds : (c d : List ℕ) (set : Setting) (his accepted : List ℕ) (w : World) → Holds c set.limits his accepted w → Holds c set.limits his accepted (happens set (to_end d) w)
read_holds c d set his accepted w h = elim (whose_name c d w) [
  | inr not_him ↦ end_others c d set.limits his accepted w F G keeps keeps_there free free_there not_him h
  | inl own ↦
      let p = own.0 in
      let placed = subst (Him his w.broker accepted) own.1 h.him in
      subst (λ (x : List ℕ). Holds c set.limits his accepted (happens set (to_end x) w)) (sym own.2)
      (own_holds c set.limits his accepted w p F G keeps keeps_there own.1 h.around (placed_does his p (F p) w.broker accepted placed (hears placed.birth placed.line p w.broker accepted placed.seat placed.settled)))
]
  where
    F : Publisher → Publisher
    F p = publisher_reads (is_open_line p.line w) p.line.down p

    G : Receiver → Receiver
    G r = receiver_reads (is_open_line r.line w) r.line.down r

    keeps : (p : Publisher) → (F p).client ≡ p.client
    keeps p = (read_remains (is_open_line p.line w) p.line.down p).client

    keeps_there : (r : Receiver) → (G r).client ≡ r.client
    keeps_there r = (read_there (is_open_line r.line w) r.line.down r).client

    free : (p : Publisher) → HasFree his w.broker.given p.line → HasFree his w.broker.given (F p).line
    free p = kept_apart (IsOutOf his) w.broker.given p.line (F p).line (read_remains (is_open_line p.line w) p.line.down p).line

    free_there : (r : Receiver) → HasFree his w.broker.given r.line → HasFree his w.broker.given (G r).line
    free_there r = kept_apart (IsOutOf his) w.broker.given r.line (G r).line (read_there (is_open_line r.line w) r.line.down r).line

-- ---- a receiver subscribes

-- and a subscription
pub subscribed_holds : (c d : List ℕ) (x : Wish) (set : Setting) (his accepted : List ℕ) (w : World) → Holds c set.limits his accepted w → Holds c set.limits his accepted (happens set (subscribe d x) w)
subscribed_holds c d x set his accepted w h = record {
  around = record {
    within = h.around.within;
    steady = h.around.steady;
    known = h.around.known;
    none = h.around.none;
    publishers = h.around.publishers;
    receivers = all_mapped (OtherReceiver his w.broker.given) (OtherReceiver his w.broker.given) (λ r. cond (bytes_eq r.client d) (G r) r) w.receivers (λ r. other (bytes_eq r.client d) r) h.around.receivers;
    strangers = h.around.strangers;
    alone = λ there. find_receiver c (λ r. cond (bytes_eq r.client d) (G r) r) (λ r. only (bytes_eq r.client d) r) w.receivers ∙ ap (option_map (λ r. cond (bytes_eq r.client d) (G r) r)) (h.around.alone there);
    place = h.around.place;
  };
  him = h.him;
}
  where
    G : Receiver → Receiver
    G r = asks_wish (is_open_line r.line w) x r

    other : (t : Bool) (r : Receiver) → OtherReceiver his w.broker.given r → OtherReceiver his w.broker.given (cond t (G r) r)
    other true r free = record { number = free.number; old_number = free.old_number }
    other false r free = free

    only : (t : Bool) (r : Receiver) → (cond t (G r) r).client ≡ r.client
    only true r = refl
    only false r = refl

-- ---- time passes

-- and time that passes
pub clock_holds : (c : List ℕ) (wait : ℕ) (set : Setting) (his accepted : List ℕ) (w : World) → Holds c set.limits his accepted w → Holds c set.limits his accepted (happens set (clock wait) w)
clock_holds c wait set his accepted w h = record {
  around = record {
    within = h.around.within;
    steady = h.around.steady;
    known = h.around.known;
    none = h.around.none;
    publishers = h.around.publishers;
    receivers = h.around.receivers;
    strangers = h.around.strangers;
    alone = h.around.alone;
    place = h.around.place;
  };
  him = h.him;
}
