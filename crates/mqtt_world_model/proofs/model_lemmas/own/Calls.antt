-- Each call of the broker, as a publisher sees it, wherever it is: a call of others, a packet of its own, the loss of its line,
-- and a restart.
use Rattle.std.proofs.Common.{◌≡◌, ℕ, Bool, true, false, ◌⊎◌, List, [], ◌∷◌, ◌++◌, Option, Some, None, nat_eq, refl, sym, ap, subst, ◌∙◌, append-nil, inl, inr}
use Rattle.std.specs.Prelude.{option_map, filter_map, is_some}
use Rattle.std.specs.List.{AllByRecursion, starts_with}
use Rattle.mqtt_flow.specs.inbound.Publisher.{FromPublisher, CONNECT, PUBLISH_1, PUBLISH_2, PUBREL, IsHeard}
use Rattle.mqtt_flow.specs.inbound.InboundWorld.{World as Hop, break, restart, step, Heard}
use Rattle.mqtt_flow.proofs.inbound_lemmas.inbound.Heard.{heard_run}
use Rattle.mqtt_records.specs.declared.state.session.Session.{Session}
use Rattle.mqtt_rules.specs.declared.step.Capacity.{Capacity}
use Rattle.mqtt_rules.specs.step.State.{MemberChoice, Line as BrokerLine, Broker, session_named, line_at}
use Rattle.mqtt_rules.specs.step.Deeds.{Deed, after_all, rows_of_all, with_line}
use Rattle.mqtt_rules.specs.step.Closing.{close}
use Rattle.mqtt_rules.specs.step.Step.{Call, NewLine, Input, BadInput, Lost, Pump, Tick, at_moment, env_of, deeds, stepped, told, opened}
use Rattle.mqtt_world_model.specs.model.Lines.{is_one_of, unless_closed, told_by, left}
use Rattle.mqtt_world_model.specs.model.Ends.{Sent, shake, plain, Publisher, wire, message_in}
use Rattle.mqtt_world_model.specs.model.World.{publisher_told, publisher_restarted}
use Rattle.mqtt_world_model.specs.model.Run.{each_of}
use Rattle.mqtt_world_model.specs.model.Seen.{shaken, is_linked, seen}
use Rattle.mqtt_world_model.specs.model.Hops.{Own, IsFarCall, IsInOrder, IsNoConnect, IsRun, lost_by, turned_back, after_step, after_old_step, connect_packet}
use Rattle.mqtt_world_model.specs.model.Seats.{Comes, Former, IsApart, IsHis, IsIdle, IsNamed, IsOff, IsSound, Present, Seat, absent, closed, glance, glance_at, joined, late, lingers, over, waiting, waits_there}
use Rattle.mqtt_world_model.proofs.model_lemmas.others.Quiet.{session_on}
use Rattle.mqtt_world_model.proofs.model_lemmas.seats.Seeing.{linked_of, linked_is}
use Rattle.mqtt_world_model.proofs.model_lemmas.others.Far.{AreFar}
use Rattle.mqtt_world_model.proofs.model_lemmas.others.FarActs.{far_call}
use Rattle.mqtt_world_model.proofs.model_lemmas.others.Frame.{old_events}
use Rattle.mqtt_world_model.proofs.model_lemmas.seats.Breaks.{break_is_hop, break_owns}
use Rattle.mqtt_world_model.proofs.model_lemmas.connects.Restarts.{restart_is_hop, restart_owns}
use Rattle.mqtt_world_model.proofs.model_lemmas.connects.EmptyRestarts.{empty_restart_is_hop}
use Rattle.mqtt_world_model.proofs.model_lemmas.others.Untouched.{elsewhere}
use Rattle.mqtt_world_model.proofs.model_lemmas.others.Nameless.{AreStrangers, strangers_call, IsOfOthers}
use Rattle.mqtt_world_model.proofs.model_lemmas.seats.Seats.{kept_of, AreOthers, AreElsewhere, remains, remains_done, former_stays, closes_old, far_step}
use Rattle.mqtt_world_model.proofs.model_lemmas.seats.HopStands.{stands_stays}
use Rattle.mqtt_world_model.proofs.model_lemmas.seats.OwnSeats.{own_on, former_after, connected_of}
use Rattle.mqtt_world_model.proofs.model_lemmas.own.OwnCalls.{differs, packet_comes, waiting_line, kept_connect, first_connect}
use Rattle.mqtt_world_model.proofs.model_lemmas.own.OldCalls.{old_packet_comes, late_comes, late_first}
use Rattle.mqtt_records.specs.state.Session.{auto}

-- ---- a call of others

of_others : (client : List ℕ) (k : ℕ) (call : Call) → IsFarCall client k call → IsOfOthers client call
of_others client k NewLine q = tt
of_others client k (Input m packet) q = q.1
of_others client k (BadInput m is_connect code) q = tt
of_others client k (Lost m) q = tt
of_others client k (Pump m) q = tt
of_others client k Tick q = tt

-- the moment leaves what is the publisher's
pub moved : (client : List ℕ) (o : Option ℕ) (k now : ℕ) (b : Broker) → IsHis client o k b → IsHis client o k (at_moment now b)
moved client None k now b h = h
moved client (Some birth) k now b h = (record { sessions = h.0.sessions; lines = h.0.lines; births = h.0.births; given = h.0.given }, h.1)

-- a call of another's does what others do
pub others_of : (limits : Capacity) (choice : MemberChoice) (now : ℕ) (call : Call) (client : List ℕ) (o : Option ℕ) (k : ℕ) (b : Broker) → IsHis client o k b → starts_with nat_eq client auto ≡ false → IsFarCall client k call
    → AreOthers client o k (deeds limits choice now call b)
others_of limits choice now call client None k b his proper far = strangers_call client (env_of limits choice b) call (at_moment now b) proper (of_others client k call far)
others_of limits choice now call client (Some birth) k b his proper far = far_call client birth k (env_of limits choice b) call (at_moment now b) (moved client (Some birth) k now b his).0 proper far

-- a call on another line stays off the publisher's
pub off_line : (limits : Capacity) (choice : MemberChoice) (now : ℕ) (call : Call) (x : Option ℕ) (b : Broker) → IsOff x call → AreElsewhere x (deeds limits choice now call b) (at_moment now b)
off_line limits choice now call None b q = tt
off_line limits choice now call (Some n) b q = λ idle. elsewhere n (env_of limits choice b) call (at_moment now b) idle q

-- a call of another's leaves the publisher seated
pub others_come : (limits : Capacity) (choice : MemberChoice) (now : ℕ) (call : Call) (o : Option ℕ) (k : ℕ) (p : Publisher) (b : Broker) (accepted : List ℕ)
    → Seat o k p b → IsNamed p.client → IsFarCall p.client k call → IsOff p.line.number call → IsOff p.line.old_number call
    → Comes k p (publisher_told (stepped limits choice now call b) (told limits choice now call b) p) b (stepped limits choice now call b) accepted accepted
others_come limits choice now call o k p b accepted seat named far own old =
    let x = far_step limits choice now call o k p b accepted seat (record {
      its = others_of limits choice now call p.client o k b seat.his named.plain far;
      own = off_line limits choice now call p.line.number b own;
      old = off_line limits choice now call p.line.old_number b old;
    }) in
    record { birth = o; line = k; seat = x.0; its_line = inl refl; events = x.1.0; seen_is = x.1.1 }

-- ---- a packet of its own line

-- no CONNECT is under way if its session is connected
no_connect : (accepted : List ℕ) (p : Publisher) (b : Broker) (packet : Sent) (rest : List Sent) → IsRun accepted p b → p.line.up ≡ packet ∷ rest → is_linked p.line.number b ≡ true → IsNoConnect packet
no_connect accepted p b packet rest r up linked = by packet (subst Heard (sym r.seen_is) (heard_run r.events)) up
  where
    by : (x : Sent) → Heard (seen accepted p b) → p.line.up ≡ x ∷ rest → IsNoConnect x
    by (shake (CONNECT clean)) h e =
        let there : IsHeard (is_linked p.line.number b) (CONNECT clean ∷ filter_map shaken rest) = subst (λ (xs : List FromPublisher). IsHeard (is_linked p.line.number b) xs) (ap (filter_map shaken) e) h in
        let clash : true ≡ false = sym linked ∙ there in
        absurd cc
    by (shake (PUBLISH_1 id k dup)) h e = tt
    by (shake (PUBLISH_2 id k dup)) h e = tt
    by (shake (PUBREL id)) h e = tt
    by (plain c) h e = tt

heads_same : (x y : Sent) (xs ys : List Sent) → x ∷ xs ≡ y ∷ ys → x ≡ y
heads_same x y xs ys e = cc

tails_none : (x y : Sent) (xs : List Sent) → x ∷ xs ≡ y ∷ [] → xs ≡ []
tails_none x y xs e = cc

abbrev pub Reads : Capacity → MemberChoice → ℕ → ℕ → ℕ → Publisher → Sent → Broker → List ℕ → Type 0
Reads limits choice now n k p packet b accepted =
    let call = Input n (wire p.client p.contents packet) in
    Comes k p (after_step limits choice now call p b) b (stepped limits choice now call b) accepted (accepted ++ each_of (message_in packet) (deeds limits choice now call b))

connects : (limits : Capacity) (choice : MemberChoice) (now : ℕ) (n : ℕ) (o : Option ℕ) (k : ℕ) (clean : Bool) (p : Publisher) (b : Broker) (accepted : List ℕ)
    → IsNamed p.client → IsSound limits p.client b → IsInOrder (stepped limits choice now (Input n (connect_packet clean p)) b) → IsApart p.line.number p.line.old_number
    → IsHis p.client o k b → Former o k p.line b → p.line.number ≡ Some n → p.line.up ≡ shake (CONNECT clean) ∷ [] → IsIdle n b → glance_at n b.lines ≡ waits_there
    → Comes k p (after_step limits choice now (Input n (connect_packet clean p)) p b) b (stepped limits choice now (Input n (connect_packet clean p)) b) accepted accepted
connects limits choice now n o k clean p b accepted named sound order apart his former is up idle there =
    let x = waiting_line n b there in
    let number = x.4 in
    subst (λ (m : ℕ). Comes k p (after_step limits choice now (Input m (connect_packet clean p)) p b) b (stepped limits choice now (Input m (connect_packet clean p)) b) accepted accepted) number
    (by o his former x.0 (subst (λ (m : ℕ). IsInOrder (stepped limits choice now (Input m (connect_packet clean p)) b)) (sym number) order) (is ∙ ap Some (sym number)) (ap (λ (m : ℕ). line_at m b) number ∙ x.1) x.2 x.3 (subst (λ (m : ℕ). IsIdle m b) (sym number) idle))
  where
    by : (y : Option ℕ) → IsHis p.client y k b → Former y k p.line b → (l : BrokerLine) → IsInOrder (stepped limits choice now (Input l.number (connect_packet clean p)) b) → p.line.number ≡ Some l.number → line_at l.number b ≡ Some l → l.session ≡ None → l.keep_alive ≡ 0 → IsIdle l.number b
        → Comes k p (after_step limits choice now (Input l.number (connect_packet clean p)) p b) b (stepped limits choice now (Input l.number (connect_packet clean p)) b) accepted accepted
    by None h f l order_after here at waits quiet free = first_connect limits choice now clean p l k b accepted named sound order_after up here apart at waits quiet free h f
    by (Some birth) h f l order_after here at waits quiet free =
        let s = kept_of p.client birth k b h.0 h.1 named.short named.plain in
        kept_connect limits choice now clean p l s.0 k b accepted named sound order_after up here apart at waits quiet free s.2
        (subst (λ (z : ℕ). IsHis p.client (Some z) k b) (sym s.1) h) (subst (λ (z : ℕ). Former (Some z) k p.line b) (sym s.1) f)

-- a call on the publisher's line is steps of the hop
pub reads_own : (limits : Capacity) (choice : MemberChoice) (now : ℕ) (n : ℕ) (o : Option ℕ) (k : ℕ) (packet : Sent) (rest : List Sent) (p : Publisher) (b : Broker) (accepted : List ℕ)
    → Seat o k p b → IsNamed p.client → IsSound limits p.client b → IsInOrder (stepped limits choice now (Input n (wire p.client p.contents packet)) b) → IsApart p.line.number p.line.old_number → IsRun accepted p b
    → p.line.number ≡ Some n → p.line.up ≡ packet ∷ rest → Reads limits choice now n k p packet b accepted
reads_own limits choice now n o k packet rest p b accepted seat named sound order apart r is up = by seat.present
  where
    by : Present o k p.line b → Reads limits choice now n k p packet b accepted
    by (absent none none_up) = let clash : packet ∷ rest ≡ [] = sym up ∙ none_up in absurd cc
    by (closed m at none_up idle none) = let clash : packet ∷ rest ≡ [] = sym up ∙ none_up in absurd cc
    by (waiting m clean at link_is clean_is up_is down idle there) =
        let both : Some m ≡ Some n = sym at ∙ is in
        let m_is : m ≡ n = cc in
        let packet_is : packet ≡ shake (CONNECT clean) = heads_same packet (shake (CONNECT clean)) rest [] (sym up ∙ up_is) in
        subst (λ (x : Sent). Reads limits choice now n k p x b accepted) (sym packet_is)
        (subst (λ (ns : List ℕ). Comes k p (after_step limits choice now (Input n (connect_packet clean p)) p b) b (stepped limits choice now (Input n (connect_packet clean p)) b) accepted ns) (sym (append-nil accepted))
        (connects limits choice now n o k clean p b accepted named sound (subst (λ (x : Sent). IsInOrder (stepped limits choice now (Input n (wire p.client p.contents x)) b)) packet_is order) apart seat.his seat.former is up_is
        (subst (λ (z : ℕ). IsIdle z b) m_is idle) (subst (λ (z : ℕ). glance_at z b.lines ≡ waits_there) m_is there)))
    by (joined birth own at there) =
        let both : Some k ≡ Some n = sym at ∙ is in
        let k_is : k ≡ n = cc in
        let his = subst (λ (x : Option ℕ). IsHis p.client x k b) own seat.his in
        let former = subst (λ (x : Option ℕ). Former x k p.line b) own seat.former in
        let linked : is_linked p.line.number b ≡ true = ap (λ (x : Option ℕ). is_linked x b) at ∙ (linked_is k b ∙ ap linked_of there) in
        let x = connected_of p birth k b named his at apart there in
        let number = x.3 in
        let birth_is = x.4 in
        let his_s = subst (λ (z : ℕ). IsHis p.client (Some z) (x.0).number b) (sym birth_is) (subst (λ (m : ℕ). IsHis p.client (Some birth) m b) (sym number) his) in
        let former_s = subst (λ (z : ℕ). Former (Some z) (x.0).number p.line b) (sym birth_is) (subst (λ (m : ℕ). Former (Some birth) m p.line b) (sym number) former) in
        let c = packet_comes limits choice now p rest packet x.0 x.1 b accepted up (no_connect accepted p b packet rest r up linked) x.2 apart his_s former_s in
        subst (λ (m : ℕ). Reads limits choice now m k p packet b accepted) (number ∙ k_is) (subst (λ (m : ℕ). Reads limits choice now (x.0).number m p packet b accepted) number c)

-- ---- a packet of the line that it gave up

abbrev pub ReadsOld : Capacity → MemberChoice → ℕ → ℕ → ℕ → Publisher → Sent → Broker → List ℕ → Type 0
ReadsOld limits choice now n k p packet b accepted =
    let call = Input n (wire p.client p.contents packet) in
    Comes k p (after_old_step limits choice now call p b) b (stepped limits choice now call b) accepted (accepted ++ each_of (message_in packet) (deeds limits choice now call b))

late_connects : (limits : Capacity) (choice : MemberChoice) (now : ℕ) (n : ℕ) (o : Option ℕ) (k : ℕ) (p : Publisher) (b : Broker) (accepted : List ℕ)
    → IsNamed p.client → IsSound limits p.client b → IsInOrder (stepped limits choice now (Input n (connect_packet false p)) b) → IsApart p.line.number p.line.old_number
    → IsHis p.client o k b → Present o k p.line b → p.line.old_number ≡ Some n → p.line.old ≡ shake (CONNECT false) ∷ [] → IsIdle n b → glance_at n b.lines ≡ waits_there
    → Comes k p (after_old_step limits choice now (Input n (connect_packet false p)) p b) b (stepped limits choice now (Input n (connect_packet false p)) b) accepted accepted
late_connects limits choice now n o k p b accepted named sound order apart his present is up idle there =
    let x = waiting_line n b there in
    let number = x.4 in
    subst (λ (m : ℕ). Comes k p (after_old_step limits choice now (Input m (connect_packet false p)) p b) b (stepped limits choice now (Input m (connect_packet false p)) b) accepted accepted) number
    (by o his present x.0 (subst (λ (m : ℕ). IsInOrder (stepped limits choice now (Input m (connect_packet false p)) b)) (sym number) order) (is ∙ ap Some (sym number)) (ap (λ (m : ℕ). line_at m b) number ∙ x.1) x.2 x.3 (subst (λ (m : ℕ). IsIdle m b) (sym number) idle))
  where
    by : (y : Option ℕ) → IsHis p.client y k b → Present y k p.line b → (l : BrokerLine) → IsInOrder (stepped limits choice now (Input l.number (connect_packet false p)) b) → p.line.old_number ≡ Some l.number → line_at l.number b ≡ Some l → l.session ≡ None → l.keep_alive ≡ 0 → IsIdle l.number b
        → Comes k p (after_old_step limits choice now (Input l.number (connect_packet false p)) p b) b (stepped limits choice now (Input l.number (connect_packet false p)) b) accepted accepted
    by None h f l order_after here at waits quiet free = late_first limits choice now p l k b accepted named sound order_after up here apart at waits quiet h f
    by (Some birth) h f l order_after here at waits quiet free =
        let s = kept_of p.client birth k b h.0 h.1 named.short named.plain in
        late_comes limits choice now p l s.0 k b accepted sound.order order_after up here apart at waits quiet free s.2
        (subst (λ (z : ℕ). IsHis p.client (Some z) k b) (sym s.1) h) (subst (λ (z : ℕ). Present (Some z) k p.line b) (sym s.1) f)

-- so is a call on its old line
pub reads_old : (limits : Capacity) (choice : MemberChoice) (now : ℕ) (n : ℕ) (o : Option ℕ) (k : ℕ) (packet : Sent) (rest : List Sent) (p : Publisher) (b : Broker) (accepted : List ℕ)
    → Seat o k p b → IsNamed p.client → IsSound limits p.client b → IsInOrder (stepped limits choice now (Input n (wire p.client p.contents packet)) b) → IsApart p.line.number p.line.old_number
    → p.line.old_number ≡ Some n → p.line.old ≡ packet ∷ rest → ReadsOld limits choice now n k p packet b accepted
reads_old limits choice now n o k packet rest p b accepted seat named sound order apart is up = by seat.former
  where
    by : Former o k p.line b → ReadsOld limits choice now n k p packet b accepted
    by (over none) = let clash : packet ∷ rest ≡ [] = sym up ∙ none in absurd cc
    by (late m at up_is idle there) =
        let both : Some m ≡ Some n = sym at ∙ is in
        let m_is : m ≡ n = cc in
        let packet_is : packet ≡ shake (CONNECT false) = heads_same packet (shake (CONNECT false)) rest [] (sym up ∙ up_is) in
        subst (λ (x : Sent). ReadsOld limits choice now n k p x b accepted) (sym packet_is)
        (subst (λ (ns : List ℕ). Comes k p (after_old_step limits choice now (Input n (connect_packet false p)) p b) b (stepped limits choice now (Input n (connect_packet false p)) b) accepted ns) (sym (append-nil accepted))
        (late_connects limits choice now n o k p b accepted named sound (subst (λ (x : Sent). IsInOrder (stepped limits choice now (Input n (wire p.client p.contents x)) b)) packet_is order) apart seat.his seat.present is up_is
        (subst (λ (z : ℕ). IsIdle z b) m_is idle) (subst (λ (z : ℕ). glance_at z b.lines ≡ waits_there) m_is there)))
    by (lingers birth own at calm there) =
        let both : Some k ≡ Some n = sym at ∙ is in
        let k_is : k ≡ n = cc in
        let his = subst (λ (x : Option ℕ). IsHis p.client x k b) own seat.his in
        let present = subst (λ (x : Option ℕ). Present x k p.line b) own seat.present in
        let back : Publisher = turned_back p in
        let x = connected_of back birth k b named his at (λ m e f. apart m f e) there in
        let number = x.3 in
        let birth_is = x.4 in
        let his_s = subst (λ (z : ℕ). IsHis p.client (Some z) (x.0).number b) (sym birth_is) (subst (λ (m : ℕ). IsHis p.client (Some birth) m b) (sym number) his) in
        let present_s = subst (λ (z : ℕ). Present (Some z) (x.0).number p.line b) (sym birth_is) (subst (λ (m : ℕ). Present (Some birth) m p.line b) (sym number) present) in
        let first : IsNoConnect packet = (subst (λ (xs : List Sent). AllByRecursion IsNoConnect xs) up calm).0 in
        let c = old_packet_comes limits choice now p rest packet x.0 x.1 b accepted up first calm x.2 apart his_s present_s in
        subst (λ (m : ℕ). ReadsOld limits choice now m k p packet b accepted) (number ∙ k_is) (subst (λ (m : ℕ). ReadsOld limits choice now (x.0).number m p packet b accepted) number c)

-- ---- its line is lost

-- it leaves a line on which its session is not connected
leaves : (limits : Capacity) (choice : MemberChoice) (now : ℕ) (call : Call) (o : Option ℕ) (k : ℕ) (p : Publisher) (b : Broker) (accepted : List ℕ)
    → Seat o k p b → AreOthers p.client o k (deeds limits choice now call b) → AreElsewhere p.line.old_number (deeds limits choice now call b) (at_moment now b)
    → let q = publisher_told (stepped limits choice now call b) (told limits choice now call b) p in
    Comes k p (record q { line = left q.line }) b (stepped limits choice now call b) accepted accepted
leaves limits choice now call o k p b accepted seat its old =
    let ds = deeds limits choice now call b in
    let start = at_moment now b in
    let new = stepped limits choice now call b in
    let out = told limits choice now call b in
    let rows = rows_of_all ds start.records in
    let r = remains_done p.client o k rows start (after_all ds start) (remains p.client o k ds start (moved p.client o k now b seat.his) its) in
    let u = is_one_of p.line.old_number out.closed in
    let w = seen accepted p b in
    let stands = r.stands in
    let ids = r.ids in
    let q = publisher_told new out p in
    let same : seen accepted (record q { line = left q.line }) new ≡ record (step w break) { old = filter_map shaken (unless_closed u p.line.old) } =
    λ i. record (step w break) { old = filter_map shaken (unless_closed u p.line.old); stands = stands i; ids = ids i } in
    record {
      birth = o;
      line = k;
      seat = record { his = r.his; present = absent refl refl; former = gone (former_stays limits choice now call p.client o k p.line b old its seat.former) };
      its_line = inl refl;
      events = break ∷ old_events u;
      seen_is = same ∙ closes_old u p.line.old (step w break) refl;
    }
  where
    gone : Former o k (told_by (stepped limits choice now call b) (told limits choice now call b) p.line) (stepped limits choice now call b)
        → Former o k (left (told_by (stepped limits choice now call b) (told limits choice now call b) p.line)) (stepped limits choice now call b)
    gone (over none) = over none
    gone (late m is x idle there) = late m is x idle there
    gone (lingers birth own is calm there) = lingers birth own is calm there

abbrev pub Loses : Capacity → MemberChoice → ℕ → ℕ → ℕ → Publisher → Broker → List ℕ → Type 0
Loses limits choice now n k p b accepted = Comes k p (lost_by limits choice now n p b) b (stepped limits choice now (Lost n) b) accepted accepted

lost_none : (limits : Capacity) (choice : MemberChoice) (now n : ℕ) (b : Broker) → glance_at n b.lines ≡ None → deeds limits choice now (Lost n) b ≡ []
lost_none limits choice now n b none = by (line_at n b) refl none
  where
    by : (x : Option BrokerLine) → line_at n b ≡ x → option_map (λ (l : BrokerLine). glance l) x ≡ None → deeds limits choice now (Lost n) b ≡ []
    by None e f = ap (λ (y : Option BrokerLine). with_line y (close (env_of limits choice b) true) (at_moment now b)) e
    by (Some l) e f = absurd cc

none_others : (client : List ℕ) (o : Option ℕ) (k : ℕ) (ds : List Deed) → ds ≡ [] → AreOthers client o k ds
none_others client None k ds e = subst (AreStrangers client) (sym e) tt
none_others client (Some birth) k ds e = subst (AreFar client birth k) (sym e) tt

-- an idle line isn't the one that its session is connected on, nor one that it may be connected on and that stands
waits_apart : (client : List ℕ) (o : Option ℕ) (k n : ℕ) (b : Broker) → IsHis client o k b → glance_at n b.lines ≡ waits_there → (birth : ℕ) → o ≡ Some birth → nat_eq n k ≡ false
waits_apart client o k n b his there birth is =
    let own = (subst (λ (x : Option ℕ). IsHis client x k b) is his).0 in
    differs n k (λ same. clash birth (own_on birth k b.lines own.lines) (subst (λ (m : ℕ). glance_at m b.lines ≡ waits_there) same there))
  where
    clash : (z : ℕ) → (session_on k b.lines ≡ None) ⊎ (session_on k b.lines ≡ Some (Some z)) → glance_at k b.lines ≡ waits_there → ⊥
    clash z on at =
        let x = waiting_line k b at in
        let there_is : session_on k b.lines ≡ Some None = ap (option_map (λ (l : BrokerLine). l.session)) x.1 ∙ ap Some x.2 in
        elim on [
          | inl none ↦ let no : None ≡ Some None = sym none ∙ there_is in absurd cc
          | inr some ↦ let no : Some (Some z) ≡ Some None = sym some ∙ there_is in absurd cc
        ]

lost_others : (limits : Capacity) (choice : MemberChoice) (now n : ℕ) (client : List ℕ) (o : Option ℕ) (k : ℕ) (b : Broker) → IsHis client o k b → starts_with nat_eq client auto ≡ false
    → ((birth : ℕ) → o ≡ Some birth → nat_eq n k ≡ false) → AreOthers client o k (deeds limits choice now (Lost n) b)
lost_others limits choice now n client None k b his proper h = strangers_call client (env_of limits choice b) (Lost n) (at_moment now b) proper tt
lost_others limits choice now n client (Some birth) k b his proper h = far_call client birth k (env_of limits choice b) (Lost n) (at_moment now b) (moved client (Some birth) k now b his).0 proper (h birth refl)

lost_off : (limits : Capacity) (choice : MemberChoice) (now n : ℕ) (x : Option ℕ) (b : Broker) → ((m : ℕ) → x ≡ Some m → n ≡ m → ⊥) → AreElsewhere x (deeds limits choice now (Lost n) b) (at_moment now b)
lost_off limits choice now n None b h = tt
lost_off limits choice now n (Some m) b h = off_line limits choice now (Lost n) (Some m) b (differs n m (h m refl))

-- so is the loss of its line
pub loses : (limits : Capacity) (choice : MemberChoice) (now : ℕ) (n : ℕ) (o : Option ℕ) (k : ℕ) (p : Publisher) (b : Broker) (accepted : List ℕ)
    → Seat o k p b → IsNamed p.client → IsApart p.line.number p.line.old_number → p.line.number ≡ Some n → Loses limits choice now n k p b accepted
loses limits choice now n o k p b accepted seat named apart is = by seat.present
  where
    off : AreElsewhere p.line.old_number (deeds limits choice now (Lost n) b) (at_moment now b)
    off = lost_off limits choice now n p.line.old_number b (λ m its same. apart n is (its ∙ ap Some (sym same)))

    by : Present o k p.line b → Loses limits choice now n k p b accepted
    by (absent none up) = let clash : None ≡ Some n = sym none ∙ is in absurd cc
    by (closed m at up idle none) =
        let both : Some m ≡ Some n = sym at ∙ is in
        let m_is : m ≡ n = cc in
        leaves limits choice now (Lost n) o k p b accepted seat
        (none_others p.client o k (deeds limits choice now (Lost n) b) (lost_none limits choice now n b (subst (λ (z : ℕ). glance_at z b.lines ≡ None) m_is none))) off
    by (waiting m clean at link_is clean_is up down idle there) =
        let both : Some m ≡ Some n = sym at ∙ is in
        let m_is : m ≡ n = cc in
        leaves limits choice now (Lost n) o k p b accepted seat
        (lost_others limits choice now n p.client o k b seat.his named.plain (waits_apart p.client o k n b seat.his (subst (λ (z : ℕ). glance_at z b.lines ≡ waits_there) m_is there))) off
    by (joined birth own at there) =
        let both : Some k ≡ Some n = sym at ∙ is in
        let k_is : k ≡ n = cc in
        let his = subst (λ (x : Option ℕ). IsHis p.client x k b) own seat.his in
        let former = subst (λ (x : Option ℕ). Former x k p.line b) own seat.former in
        let x = connected_of p birth k b named his at apart there in
        let l = x.0 in
        let s = x.1 in
        let number = x.3 in
        let his_s : IsHis p.client (Some s.birth) l.number b = subst (λ (z : ℕ). IsHis p.client (Some z) l.number b) (sym x.4) (subst (λ (m : ℕ). IsHis p.client (Some birth) m b) (sym number) his) in
        let former_s : Former (Some s.birth) l.number p.line b = subst (λ (z : ℕ). Former (Some z) l.number p.line b) (sym x.4) (subst (λ (m : ℕ). Former (Some birth) m p.line b) (sym number) former) in
        let call = Lost l.number in
        let e = break_is_hop limits choice now p l s b accepted x.2 in
        let own_after = break_owns limits choice now p l s b x.2 his_s.0 in
        let stands = ap (λ (z : Hop). z.stands) e ∙ stands_stays break (seen accepted p b) his_s.1 in
        let far = lost_off limits choice now l.number p.line.old_number b (λ m its same. apart l.number (is ∙ ap Some (sym (number ∙ k_is))) (its ∙ ap Some (sym same))) in
        let c : Comes k p (lost_by limits choice now l.number p b) b (stepped limits choice now call b) accepted accepted = record {
          birth = Some s.birth;
          line = l.number;
          seat = record {
            his = (own_after, stands);
            present = absent refl refl;
            former = still l s (former_after limits choice now call b (Some s.birth) (Some s.birth) l.number l.number p.line far
                (λ it of its calm on. absurd (apart l.number (is ∙ ap Some (sym (number ∙ k_is))) its)) former_s);
          };
          its_line = inl number;
          events = break ∷ [];
          seen_is = e;
        } in
        subst (λ (m : ℕ). Loses limits choice now m k p b accepted) (number ∙ k_is) c
      where
        still : (l : BrokerLine) (s : Session) → Former (Some s.birth) l.number (told_by (stepped limits choice now (Lost l.number) b) (told limits choice now (Lost l.number) b) p.line) (stepped limits choice now (Lost l.number) b)
            → Former (Some s.birth) l.number (left (told_by (stepped limits choice now (Lost l.number) b) (told limits choice now (Lost l.number) b) p.line)) (stepped limits choice now (Lost l.number) b)
        still l s (over none) = over none
        still l s (late m its x idle on) = late m its x idle on
        still l s (lingers it of its calm on) = lingers it of its calm on

-- ---- the broker restarts

-- so is a restart
pub restarts_come : (limits : Capacity) (choice : MemberChoice) (now : ℕ) (o : Option ℕ) (k : ℕ) (p : Publisher) (b : Broker) (accepted : List ℕ) → IsHis p.client o k b → IsNamed p.client
    → Comes 0 p (publisher_restarted p) b (opened limits choice now b.records) accepted accepted
restarts_come limits choice now None k p b accepted his named =
    let e = empty_restart_is_hop limits choice now p b accepted his in
    let new = opened limits choice now b.records in
    let stands : is_some (session_named p.client new.records) ≡ false = ap (λ (z : Hop). z.stands) e ∙ ap is_some his in
    record {
      birth = None;
      line = 0;
      seat = record { his = nobody (session_named p.client new.records) stands; present = absent refl refl; former = over refl };
      its_line = inl refl;
      events = restart ∷ [];
      seen_is = e;
    }
  where
    nobody : (x : Option Session) → is_some x ≡ false → x ≡ None
    nobody None e = refl
    nobody (Some s) e = absurd cc
restarts_come limits choice now (Some birth) k p b accepted his named =
    let s = kept_of p.client birth k b his.0 his.1 named.short named.plain in
    let own = subst (λ (z : ℕ). Own p.client z k b) (sym s.1) his.0 in
    let e = restart_is_hop limits choice now p s.0 b accepted s.2 own.sessions own.births in
    record {
      birth = Some (s.0).birth;
      line = 0;
      seat = record { his = (restart_owns limits choice now p.client s.0 b s.2 own.sessions own.births, ap (λ (z : Hop). z.stands) e ∙ his.1); present = absent refl refl; former = over refl };
      its_line = inl refl;
      events = restart ∷ [];
      seen_is = e;
    }
