-- What a run accepts from the messages of a publisher carries what they do.
use Rattle.std.proofs.Common.{◌≡◌, ℕ, ◌<◌, Bool, true, false, cond, ◌⊎◌, List, [], ◌∷◌, ◌++◌, map, length, Option, Some, None, bytes_eq, refl, sym, ap, subst, ◌∙◌, append-nil, append_assoc, arith, inl, inr}
use Rattle.std.specs.Prelude.{option_map, find, filter_map}
use Rattle.std.specs.List.{AllByRecursion}
use Rattle.std.proofs.lemmas.Bool.{cases_Bool}
use Rattle.std.proofs.lemmas.Slice.Eq.{bytes_eq-Decides}
use Rattle.std.proofs.lemmas.Option.{unwrap_or-slice_get}
use Rattle.std.proofs.lemmas.List.{length-append, get_or_append_left}
use Rattle.mqtt_packet.specs.declared.codec.publish.Delivery.TheVariants as delivery
use Rattle.mqtt_flow.specs.inbound.Publisher.{CONNECT, PUBLISH_1, PUBLISH_2, PUBREL}
use Rattle.mqtt_records.specs.declared.state.session.Session.{Session}
use Rattle.mqtt_records.specs.state.Session.{birth_of}
use Rattle.mqtt_rules.specs.declared.step.Capacity.{Capacity}
use Rattle.mqtt_rules.specs.step.State.{Line as BrokerLine, Broker, line_at, session_at}
use Rattle.mqtt_rules.specs.step.Deeds.{Message, Deed}
use Rattle.mqtt_rules.specs.step.Step.{Input, deeds, unopened, env_of}
use Rattle.mqtt_rules.proofs.step_lemmas.flight.FlightRows.{found_key}
use Rattle.mqtt_rules.proofs.step_lemmas.acts.Leads.{row_among}
use Rattle.mqtt_rules.proofs.step_lemmas.numbers.Copies.{each_append}
use Rattle.mqtt_world_model.specs.model.Ends.{Content, no_content, content_at, Sent, shake, plain, Publisher, new_publisher, wire, message_in}
use Rattle.mqtt_world_model.specs.model.World.{World, Setting, Event, publisher, receiver, connect_end, give_up, publish, subscribe, to_end, clock, ask, restart, stop_before, stop_after, Asking, to_broker, old_to_broker, break, pump, tick, stranger, publisher_named, receiver_named, with_line, taken_up, taken_old, input_on, view_by, first_step, is_bad, happens}
use Rattle.mqtt_world_model.specs.model.Run.{Turn, setting, turned, run, deeds_at, From, from_message, each_from, from_over, client_message, front_message, front_of_line, front_of_old, asked_from, message_read, accepted_at, begins_clean, are_beginnings_clean, read_if, read_first, read_opening, read_in, read_at, the_deeds}
use Rattle.mqtt_world_model.specs.model.Laws.{Carries, contents_by}
use Rattle.mqtt_world_model.specs.model.Hops.{IsOurs, Own}
use Rattle.mqtt_world_model.specs.model.Seats.{Former, Present, absent, closed, joined, late, lingers, over, waiting, IsHis, connected_at}
use Rattle.mqtt_world_laws.specs.acceptance.Spending.{run_spends, spending}
use Rattle.mqtt_world_laws.specs.acceptance.Fair.{IsNew, IsFair}
use Rattle.mqtt_world_laws.specs.acceptance.Once.{CarriesIn, HasCarried}
use Rattle.mqtt_world_laws.proofs.acceptance_lemmas.publishers.Ends.{find_last, find_no_more, find_first, named_publisher}
use Rattle.mqtt_world_laws.proofs.acceptance_lemmas.publishers.Around.{Him, Holds, Stays}
use Rattle.mqtt_world_laws.proofs.acceptance_lemmas.copies.OpeningNumbers.{AcceptsNone, opening_none}
use Rattle.mqtt_world_laws.proofs.acceptance_lemmas.publishers.Said.{AreSaid, said_append, unsaid, said_messages, call_said}
use Rattle.mqtt_world_laws.proofs.acceptance_lemmas.publishers.Numbered.{AreOf, IsNumbered, Moves}
use Rattle.mqtt_world_laws.proofs.acceptance_lemmas.publishers.Moves.{Moved, event_moved}
use Rattle.mqtt_world_laws.proofs.acceptance_lemmas.publishers.Runs.{either, both_true, turn_stays, new_stays}
use Rattle.mqtt_rules.proofs.step_lemmas.fit.FitLaw.{all_among}

-- ---- what was accepted stays carried

-- of a publisher of this name, or of nobody
abbrev pub Tells : Option Publisher → List From → Type 0
Tells None from = from ≡ []
Tells (Some p) from = IsNumbered p × AllByRecursion (CarriesIn p.client p.contents) from

content_stays : (cs more : List Content) (n : ℕ) → n < length cs → content_at n (cs ++ more) ≡ content_at n cs
content_stays cs more n less =
    unwrap_or-slice_get (cs ++ more) n no_content ∙ (get_or_append_left cs more no_content n less ∙ sym (unwrap_or-slice_get cs n no_content))

carries_on : (p q : Publisher) → Moves p q → (from : List From) → AllByRecursion (CarriesIn p.client p.contents) from → AllByRecursion (CarriesIn q.client q.contents) from
carries_on p q m [] a = tt
carries_on p q m (x ∷ from) a =
    let first = a.0 in
    let longer = length-append p.contents m.more in
    let less : x.message < length (p.contents ++ m.more) = (let l = first.less in omega (arith, l, longer)) in
    let same = content_stays p.contents m.more x.message first.less in (
      subst (λ (cs : List Content). CarriesIn q.client cs x) (sym m.contents)
          (subst (λ (c : List ℕ). CarriesIn c (p.contents ++ m.more) x) (sym m.client)
          (record { less = less; carries = subst (λ (c : Content). Carries p.client c x.publication) (sym same) first.carries })),
      carries_on p q m from a.1,
    )

tells_moved : (x y : Option Publisher) (from : List From) → Moved x y → Tells x from → Tells y from
tells_moved None y from e h = subst (λ (o : Option Publisher). Tells o from) (sym e) h
tells_moved (Some p) y from m h =
    subst (λ (o : Option Publisher). Tells o from) (sym m.1) (m.2.numbered h.0, carries_on p m.0 m.2 from h.1)

-- ---- whose the session is that is connected on the publisher's line

own_named : (client : List ℕ) (birth k : ℕ) (b : Broker) → Own client birth k b → connected_at k b.lines ≡ Some (Some birth)
    → (l : BrokerLine) (found : ℕ) (s : Session) → line_at k b ≡ Some l → l.session ≡ Some found → session_at found b.records ≡ Some s → s.client ≡ client
own_named client birth k b own there l found s line on at =
    let it : Some (Some found) ≡ Some (Some birth) = ap Some (sym on) ∙ (sym (ap (option_map (λ (x : BrokerLine). x.session)) line) ∙ there) in
    let same : found ≡ birth = cc in
    let ours = all_among (IsOurs client birth) s b.records.sessions own.sessions (row_among birth_of found s b.records.sessions at) in
    ours.name (found_key birth_of found s b.records.sessions at ∙ same)

-- the number of a line on which the publisher's session is connected
abbrev pub Mine : List ℕ → ℕ → Broker → Type 0
Mine client n b = (l : BrokerLine) (birth : ℕ) (s : Session) → line_at n b ≡ Some l → l.session ≡ Some birth → session_at birth b.records ≡ Some s → s.client ≡ client

mine_by : (client : List ℕ) (o : Option ℕ) (birth k n : ℕ) (b : Broker) → IsHis client o k b → o ≡ Some birth → k ≡ n → connected_at k b.lines ≡ Some (Some birth) → Mine client n b
mine_by client o birth k n b his is same there =
    subst (λ (m : ℕ). Mine client m b) same (own_named client birth k b (subst (λ (x : Option ℕ). IsHis client x k b) is his).0 there)

mine_up : (o : Option ℕ) (k n m : ℕ) (p : Publisher) (x : Sent) (rest : List Sent) (b : Broker) → IsHis p.client o k b → Present o k p.line b → p.line.number ≡ Some n → p.line.up ≡ x ∷ rest → message_in x ≡ Some m → Mine p.client n b
mine_up o k n m p x rest b his (absent none up) is e carries_ = let clash : [] ≡ x ∷ rest = sym up ∙ e in absurd cc
mine_up o k n m p x rest b his (closed j at up idle none) is e carries_ = let clash : [] ≡ x ∷ rest = sym up ∙ e in absurd cc
mine_up o k n m p x rest b his (waiting j clean at link_is clean_is up down idle there) is e carries_ =
    let same : shake (CONNECT clean) ∷ [] ≡ x ∷ rest = sym up ∙ e in
    let first : shake (CONNECT clean) ≡ x = cc in
    let clash : None ≡ Some m = ap message_in first ∙ carries_ in
    absurd cc
mine_up o k n m p x rest b his (joined birth own at there) is e carries_ =
    let it : Some k ≡ Some n = sym at ∙ is in
    let same : k ≡ n = cc in
    mine_by p.client o birth k n b his own same there

mine_old : (o : Option ℕ) (k n m : ℕ) (p : Publisher) (x : Sent) (rest : List Sent) (b : Broker) → IsHis p.client o k b → Former o k p.line b → p.line.old_number ≡ Some n → p.line.old ≡ x ∷ rest → message_in x ≡ Some m → Mine p.client n b
mine_old o k n m p x rest b his (over none) is e carries_ = let clash : [] ≡ x ∷ rest = sym none ∙ e in absurd cc
mine_old o k n m p x rest b his (late j at old idle there) is e carries_ =
    let same : shake (CONNECT false) ∷ [] ≡ x ∷ rest = sym old ∙ e in
    let first : shake (CONNECT false) ≡ x = cc in
    let clash : None ≡ Some m = ap message_in first ∙ carries_ in
    absurd cc
mine_old o k n m p x rest b his (lingers birth own at calm there) is e carries_ =
    let it : Some k ≡ Some n = sym at ∙ is in
    let same : k ≡ n = cc in
    mine_by p.client o birth k n b his own same there

-- ---- the first packet of one of the publisher's lines

-- its deeds, with others that accept nothing of a client
packet_said : (set : Setting) (now n m : ℕ) (p : Publisher) (x : Sent) (b : Broker) (more : List Deed) → Mine p.client n b → AcceptsNone more → message_in x ≡ Some m
    → AreSaid (Carries p.client (content_at m p.contents)) (deeds set.limits set.choice now (Input n (wire p.client p.contents x)) b ++ more)
packet_said set now n m p (shake (CONNECT clean)) b more mine none e = absurd cc
packet_said set now n m p (shake (PUBREL id)) b more mine none e = absurd cc
packet_said set now n m p (plain content) b more mine none e = absurd cc
packet_said set now n m p (shake (PUBLISH_1 id k dup)) b more mine none e =
    let it : k ≡ m = cc in
    subst (λ (j : ℕ). AreSaid (Carries p.client (content_at j p.contents)) (deeds set.limits set.choice now (Input n (wire p.client p.contents (shake (PUBLISH_1 id k dup)))) b ++ more)) it
    (said_append (Carries p.client (content_at k p.contents)) (deeds set.limits set.choice now (Input n (wire p.client p.contents (shake (PUBLISH_1 id k dup)))) b) more
    (call_said set.limits set.choice now n (delivery.AtLeastOnce dup id) (content_at k p.contents) p.client b mine) (unsaid (Carries p.client (content_at k p.contents)) more none))
packet_said set now n m p (shake (PUBLISH_2 id k dup)) b more mine none e =
    let it : k ≡ m = cc in
    subst (λ (j : ℕ). AreSaid (Carries p.client (content_at j p.contents)) (deeds set.limits set.choice now (Input n (wire p.client p.contents (shake (PUBLISH_2 id k dup)))) b ++ more)) it
    (said_append (Carries p.client (content_at k p.contents)) (deeds set.limits set.choice now (Input n (wire p.client p.contents (shake (PUBLISH_2 id k dup)))) b) more
    (call_said set.limits set.choice now n (delivery.ExactlyOnce dup id) (content_at k p.contents) p.client b mine) (unsaid (Carries p.client (content_at k p.contents)) more none))

-- each publication with the number of its message
all_from : (client : List ℕ) (contents : List Content) (m : ℕ) (ms : List Message) → m < length contents → AllByRecursion (Carries client (content_at m contents)) ms → AllByRecursion (CarriesIn client contents) (map (from_message m) ms)
all_from client contents m [] less a = tt
all_from client contents m (x ∷ ms) less a = (record { less = less; carries = a.0 }, all_from client contents m ms less a.1)

none_from : (client : List ℕ) (contents : List Content) (o : Option ℕ) (more : List Deed) → AcceptsNone more → ((m : ℕ) → o ≡ Some m → m < length contents) → AllByRecursion (CarriesIn client contents) (each_from o more)
none_from client contents None more none less = tt
none_from client contents (Some m) more none less =
    all_from client contents m (filter_map client_message more) (less m refl) (said_messages (Carries client (content_at m contents)) more (unsaid (Carries client (content_at m contents)) more none))

side_said : (set : Setting) (p : Publisher) (number : Option ℕ) (packets : List Sent) (w : World) (more : List Deed) → AcceptsNone more → AreOf (length p.contents) packets
    → ((n m : ℕ) (x : Sent) (rest : List Sent) → number ≡ Some n → packets ≡ x ∷ rest → message_in x ≡ Some m → Mine p.client n w.broker)
    → AllByRecursion (CarriesIn p.client p.contents) (each_from (front_message packets) (read_if the_deeds set (input_on number (map (wire p.client p.contents) packets)) w ++ more))
side_said set p number [] w more none of mine = tt
side_said set p None (x ∷ rest) w more none of mine = none_from p.client p.contents (message_in x) more none of.0
side_said set p (Some n) (x ∷ rest) w more none of mine = by (message_in x) refl
  where
    ds : List Deed
    ds = deeds set.limits set.choice w.now (Input n (wire p.client p.contents x)) w.broker ++ more

    by : (o : Option ℕ) → message_in x ≡ o → AllByRecursion (CarriesIn p.client p.contents) (each_from o ds)
    by None e = tt
    by (Some m) e =
        all_from p.client p.contents m (filter_map client_message ds) (of.0 m e)
        (said_messages (Carries p.client (content_at m p.contents)) ds (packet_said set w.now n m p x w.broker more (mine n m x rest refl refl e) none e))

-- ---- in each event

abbrev pub Says : Option Publisher → List From → Type 0
Says None from = from ≡ []
Says (Some p) from = AllByRecursion (CarriesIn p.client p.contents) from

says_none : (o : Option Publisher) → Says o []
says_none None = refl
says_none (Some p) = tt

-- what is asked for, with further deeds that accept nothing of a client
asked_says : (c : List ℕ) (a : Asking) (set : Setting) (his accepted : List ℕ) (from : List From) (w : World) (more : List Deed) → AcceptsNone more → Holds c set.limits his accepted w → Tells (publisher_named c w) from
    → Says (publisher_named c w) (each_from (asked_from c a w) (read_first the_deeds set a w ++ more))
asked_says c (break d) set his accepted from w more none h t = says_none (publisher_named c w)
asked_says c (pump d) set his accepted from w more none h t = says_none (publisher_named c w)
asked_says c tick set his accepted from w more none h t = says_none (publisher_named c w)
asked_says c (stranger name bytes) set his accepted from w more none h t = says_none (publisher_named c w)
asked_says c (to_broker d) set his accepted from w more none h t = by (publisher_named c w) (cases_Bool (bytes_eq d c)) refl
  where
    Goal : Option Publisher → Bool → List ℕ → Type 0
    Goal o u x = Says o (each_from (cond u (front_of_line (publisher_named c w)) None) (read_first the_deeds set (to_broker x) w ++ more))

    by : (o : Option Publisher) → (bytes_eq d c ≡ true) ⊎ (bytes_eq d c ≡ false) → publisher_named c w ≡ o → Goal o (bytes_eq d c) d
    by o (inr other) e = subst (λ (u : Bool). Goal o u d) (sym other) (says_none o)
    by None (inl its) e = subst (λ (u : Bool). Goal None u d) (sym its) (subst (λ (o : Option Publisher). each_from (front_of_line o) (read_first the_deeds set (to_broker d) w ++ more) ≡ []) (sym e) refl)
    by (Some p) (inl its) e =
        let is : d ≡ c = (bytes_eq-Decides d c).0 its in
        let placed = subst (Him his w.broker accepted) e h.him in
        let numbered = (subst (λ (o : Option Publisher). Tells o from) e t).0 in
        let r = receiver_named c w in
        let w1 = with_line c taken_up taken_up w in
        subst (λ (u : Bool). Goal (Some p) u d) (sym its) (subst (Goal (Some p) true) (sym is)
        (subst (λ (o : Option Publisher). AllByRecursion (CarriesIn p.client p.contents) (each_from (front_of_line o) (read_if the_deeds set (input_on (view_by o r).number (view_by o r).up) w1 ++ more))) (sym e)
        (side_said set p p.line.number p.line.up w1 more none numbered.up (λ n m x rest is_ up carries_. mine_up placed.birth placed.line n m p x rest w.broker placed.seat.his placed.seat.present is_ up carries_))))
asked_says c (old_to_broker d) set his accepted from w more none h t = by (publisher_named c w) (cases_Bool (bytes_eq d c)) refl
  where
    Goal : Option Publisher → Bool → List ℕ → Type 0
    Goal o u x = Says o (each_from (cond u (front_of_old (publisher_named c w)) None) (read_first the_deeds set (old_to_broker x) w ++ more))

    by : (o : Option Publisher) → (bytes_eq d c ≡ true) ⊎ (bytes_eq d c ≡ false) → publisher_named c w ≡ o → Goal o (bytes_eq d c) d
    by o (inr other) e = subst (λ (u : Bool). Goal o u d) (sym other) (says_none o)
    by None (inl its) e = subst (λ (u : Bool). Goal None u d) (sym its) (subst (λ (o : Option Publisher). each_from (front_of_old o) (read_first the_deeds set (old_to_broker d) w ++ more) ≡ []) (sym e) refl)
    by (Some p) (inl its) e =
        let is : d ≡ c = (bytes_eq-Decides d c).0 its in
        let placed = subst (Him his w.broker accepted) e h.him in
        let numbered = (subst (λ (o : Option Publisher). Tells o from) e t).0 in
        let r = receiver_named c w in
        let w1 = with_line c taken_old taken_old w in
        subst (λ (u : Bool). Goal (Some p) u d) (sym its) (subst (Goal (Some p) true) (sym is)
        (subst (λ (o : Option Publisher). AllByRecursion (CarriesIn p.client p.contents) (each_from (front_of_old o) (read_if the_deeds set (input_on (view_by o r).old_number (view_by o r).old) w1 ++ more))) (sym e)
        (side_said set p p.line.old_number p.line.old w1 more none numbered.old (λ n m x rest is_ old carries_. mine_old placed.birth placed.line n m p x rest w.broker placed.seat.his placed.seat.former is_ old carries_))))

event_says : (e : Event) (c : List ℕ) (set : Setting) (his accepted : List ℕ) (from : List From) (w : World) → Holds c set.limits his accepted w → Tells (publisher_named c w) from
    → Says (publisher_named c w) (each_from (message_read c e w) (read_in the_deeds set e w))
event_says (publisher d) c set his accepted from w h t = says_none (publisher_named c w)
event_says (receiver d window aliases) c set his accepted from w h t = says_none (publisher_named c w)
event_says (connect_end d clean) c set his accepted from w h t = says_none (publisher_named c w)
event_says (give_up d) c set his accepted from w h t = says_none (publisher_named c w)
event_says (publish d x) c set his accepted from w h t = says_none (publisher_named c w)
event_says (subscribe d x) c set his accepted from w h t = says_none (publisher_named c w)
event_says (to_end d) c set his accepted from w h t = says_none (publisher_named c w)
event_says (clock wait) c set his accepted from w h t = says_none (publisher_named c w)
event_says (ask (to_broker d)) c set his accepted from w h t =
    subst (λ (ds : List Deed). Says (publisher_named c w) (each_from (asked_from c (to_broker d) w) ds)) (append-nil (read_first the_deeds set (to_broker d) w)) (asked_says c (to_broker d) set his accepted from w [] refl h t)
event_says (ask (old_to_broker d)) c set his accepted from w h t =
    subst (λ (ds : List Deed). Says (publisher_named c w) (each_from (asked_from c (old_to_broker d) w) ds)) (append-nil (read_first the_deeds set (old_to_broker d) w)) (asked_says c (old_to_broker d) set his accepted from w [] refl h t)
event_says (ask (break d)) c set his accepted from w h t = says_none (publisher_named c w)
event_says (ask (pump d)) c set his accepted from w h t = says_none (publisher_named c w)
event_says (ask tick) c set his accepted from w h t = says_none (publisher_named c w)
event_says (ask (stranger name bytes)) c set his accepted from w h t = says_none (publisher_named c w)
event_says restart c set his accepted from w h t = says_none (publisher_named c w)
event_says (stop_before a) c set his accepted from w h t = says_none (publisher_named c w)
event_says (stop_after a) c set his accepted from w h t = let v = first_step set a w in
    let b = unopened v.now v.broker.records in
    asked_says c a set his accepted from w (read_opening the_deeds set v) (opening_none (env_of set.limits set.choice b) b) h t

-- ---- a turn, and a run

-- what is kept besides, with where the publisher is
pub record Told (c : List ℕ) (limits : Capacity) (accepted : List ℕ) (from : List From) (w : World) : Type 0 where
  pub stays : Stays c limits accepted w
  pub tells : Tells (publisher_named c w) from

tells_more : (o : Option Publisher) (from more : List From) → Tells o from → Says o more → Tells o (from ++ more)
tells_more None from more t s = ap (λ (xs : List From). xs ++ more) t ∙ s
tells_more (Some p) from more t s = (t.0, each_append (CarriesIn p.client p.contents) from more t.1 s)

-- a new publisher has sent nothing
new_numbered : (d : List ℕ) → IsNumbered (new_publisher d)
new_numbered d = record { same = refl; up = tt; old = tt }

comes_tells : (c d : List ℕ) (set : Setting) (w : World) (from : List From) → is_bad (publisher d) w ≡ false → Tells (publisher_named c w) from → Tells (publisher_named c (happens set (publisher d) w)) from
comes_tells c d set w from good t = by (publisher_named c w) refl (cases_Bool (bytes_eq d c)) t
  where
    test : Publisher → Bool
    test p = bytes_eq p.client c

    by : (o : Option Publisher) → publisher_named c w ≡ o → (bytes_eq d c ≡ true) ⊎ (bytes_eq d c ≡ false) → Tells o from → Tells (publisher_named c (happens set (publisher d) w)) from
    by None e (inl its) none =
        subst (λ (o : Option Publisher). Tells o from) (sym (find_last test (new_publisher d) w.publishers its e))
        (subst (λ (xs : List From). Tells (Some (new_publisher d)) xs) (sym none) (new_numbered d, tt))
    by None e (inr other) none = subst (λ (o : Option Publisher). Tells o from) (sym (find_no_more test (new_publisher d) w.publishers other ∙ e)) none
    by (Some p) e its h = subst (λ (o : Option Publisher). Tells o from) (sym (find_first test (new_publisher d) p w.publishers e)) h

event_tells : (e : Event) (c : List ℕ) (set : Setting) (w : World) (from : List From) → is_bad e w ≡ false → Tells (publisher_named c w) from → Tells (publisher_named c (happens set e w)) from
event_tells (publisher d) c set w from good t = comes_tells c d set w from good t
event_tells (receiver d window aliases) c set w from good t = tells_moved _ _ from (event_moved c set (receiver d window aliases) w (λ x f. absurd cc)) t
event_tells (connect_end d clean) c set w from good t = tells_moved _ _ from (event_moved c set (connect_end d clean) w (λ x f. absurd cc)) t
event_tells (give_up d) c set w from good t = tells_moved _ _ from (event_moved c set (give_up d) w (λ x f. absurd cc)) t
event_tells (publish d m) c set w from good t = tells_moved _ _ from (event_moved c set (publish d m) w (λ x f. absurd cc)) t
event_tells (subscribe d m) c set w from good t = tells_moved _ _ from (event_moved c set (subscribe d m) w (λ x f. absurd cc)) t
event_tells (to_end d) c set w from good t = tells_moved _ _ from (event_moved c set (to_end d) w (λ x f. absurd cc)) t
event_tells (clock wait) c set w from good t = tells_moved _ _ from (event_moved c set (clock wait) w (λ x f. absurd cc)) t
event_tells (ask a) c set w from good t = tells_moved _ _ from (event_moved c set (ask a) w (λ x f. absurd cc)) t
event_tells restart c set w from good t = tells_moved _ _ from (event_moved c set restart w (λ x f. absurd cc)) t
event_tells (stop_before a) c set w from good t = tells_moved _ _ from (event_moved c set (stop_before a) w (λ x f. absurd cc)) t
event_tells (stop_after a) c set w from good t = tells_moved _ _ from (event_moved c set (stop_after a) w (λ x f. absurd cc)) t

-- what a turn accepts
abbrev from_at : List ℕ → Capacity → Turn → World → List From
from_at c limits t w = each_from (message_read c t.event w) (deeds_at (setting limits t) t.event w)

none_from_none : (o : Option ℕ) → each_from o [] ≡ []
none_from_none None = refl
none_from_none (Some n) = refl

turn_tells : (t : Turn) (c : List ℕ) (limits : Capacity) (accepted : List ℕ) (from : List From) (w : World) → Told c limits accepted from w
    → Tells (publisher_named c (turned limits t w)) (from ++ from_at c limits t w)
turn_tells t c limits accepted from w h = by (is_bad t.event w) refl
  where
    set : Setting
    set = setting limits t

    by : (bad : Bool) → is_bad t.event w ≡ bad → Tells (publisher_named c (cond bad w (happens set t.event w))) (from ++ each_from (message_read c t.event w) (cond bad [] (read_in the_deeds set t.event w)))
    by true is = subst (λ (xs : List From). Tells (publisher_named c w) xs) (sym (ap (λ (xs : List From). from ++ xs) (none_from_none (message_read c t.event w)) ∙ append-nil from)) h.tells
    by false is =
        let says = event_says t.event c set h.stays.his accepted from w h.stays.holds h.tells in
        event_tells t.event c set w (from ++ each_from (message_read c t.event w) (read_in the_deeds set t.event w)) is (tells_more (publisher_named c w) from _ h.tells says)

run_tells : (ts : List Turn) (c : List ℕ) (limits : Capacity) (accepted : List ℕ) (from : List From) (w : World) → Told c limits accepted from w → run_spends limits ts w ≡ false → are_beginnings_clean limits ts w ≡ true
    → Tells (publisher_named c (run limits ts w)) (from ++ from_over c limits ts w)
run_tells [] c limits accepted from w h unspent carried = subst (λ (xs : List From). Tells (publisher_named c w) xs) (sym (append-nil from)) h.tells
run_tells (t ∷ ts) c limits accepted from w h unspent carried =
    let costs = either (read_at spending (setting limits t) t.event w) (run_spends limits ts (turned limits t w)) unspent in
    let clean = both_true (begins_clean t.event w) (are_beginnings_clean limits ts (turned limits t w)) carried in
    let stays = turn_stays t c limits accepted w h.stays clean.0 costs.0 in
    let more = accepted ++ accepted_at c (setting limits t) t.event w in
    let next : Told c limits more (from ++ from_at c limits t w) (turned limits t w) = record { stays = stays; tells = turn_tells t c limits accepted from w h } in
    subst (λ (xs : List From). Tells (publisher_named c (run limits (t ∷ ts) w)) xs) (append_assoc from (from_at c limits t w) (from_over c limits ts (turned limits t w)))
    (run_tells ts c limits more (from ++ from_at c limits t w) (turned limits t w) next costs.1 clean.1)

-- ---- from the beginning

-- in every fair run what is accepted was sent so
pub all_carried : (limits : Capacity) (ts : List Turn) (w : World) → IsNew w → IsFair limits ts w → (c : List ℕ) → HasCarried c limits ts w
all_carried limits ts w new fair c =
    let nobody : publisher_named c w ≡ None = ap (find (λ (p : Publisher). bytes_eq p.client c)) new.publishers in
    let first : Told c limits [] [] w = record {
      stays = new_stays c limits w fair.within new;
      tells = subst (λ (o : Option Publisher). Tells o []) (sym nobody) refl;
    } in
    let tells = run_tells ts c limits [] [] w first fair.unspent fair.clean in
    by (publisher_named c (run limits ts w)) refl tells
  where
    by : (o : Option Publisher) → publisher_named c (run limits ts w) ≡ o → Tells o (from_over c limits ts w) → AllByRecursion (CarriesIn c (contents_by o)) (from_over c limits ts w)
    by None e t = subst (AllByRecursion (CarriesIn c [])) (sym t) tt
    by (Some p) e t = subst (λ (d : List ℕ). AllByRecursion (CarriesIn d p.contents) (from_over c limits ts w)) (named_publisher c p (run limits ts w) e) t.1
