-- What the broker reads of a publisher's own line: a packet of its session, or the CONNECT that the line waits for.
use Rattle.std.proofs.Common.{◌≡◌, ℕ, suc, ◌≤◌, Bool, true, false, List, [], ◌∷◌, ◌++◌, drop, length, Option, Some, None, nat_eq, nat_lt, refl, sym, ap, subst, ◌∙◌, inl, inr}
use Rattle.std.specs.Prelude.{option_map, find, filter_map, is_some}
use Rattle.std.specs.List.{AllByRecursion}
use Rattle.std.proofs.lemmas.Bool.{eqb-true, cases_Bool}
use Rattle.std.proofs.lemmas.Cmp.{nat_eq_equiv}
use Rattle.mqtt_packet.specs.declared.codec.packet.Packet.{Packet}
use Rattle.mqtt_flow.specs.inbound.Publisher.{FromPublisher, CONNECT, PUBLISH_1, PUBLISH_2, PUBREL}
use Rattle.mqtt_flow.specs.inbound.InboundWorld.{World as Hop, takes, refuses, to_broker, spared, broker_reads, on_connect, step}
use Rattle.mqtt_records.specs.declared.state.session.Session.{Session}
use Rattle.mqtt_rules.specs.declared.step.Capacity.{Capacity}
use Rattle.mqtt_rules.specs.step.State.{MemberChoice, Line as BrokerLine, Broker, session_named, line_at, line_of, is_of}
use Rattle.mqtt_rules.specs.step.Deeds.{Hear, Deed, On, closing, after_all, rows_of_all}
use Rattle.mqtt_rules.specs.step.Step.{Input, at_moment, env_of, deeds, stepped, told}
use Rattle.mqtt_world_model.specs.model.Lines.{Line, is_one_of, unless_closed, told_by}
use Rattle.mqtt_world_model.specs.model.Ends.{Sent, shake, plain, Publisher, wire, message_in}
use Rattle.mqtt_world_model.specs.model.World.{taken_up}
use Rattle.mqtt_world_model.specs.model.Run.{each_of}
use Rattle.mqtt_world_model.specs.model.Seen.{shaken, is_linked, seen}
use Rattle.mqtt_world_model.specs.model.Hops.{IsOurLine, Own, IsInOrder, IsKept, IsConnected, IsNoConnect, IsAsking, IsTaken, IsFirst, MayBegin, lines_left, after_step, connect_packet}
use Rattle.mqtt_world_model.specs.model.Seats.{Comes, Former, Glance, IsApart, IsHis, IsIdle, IsNamed, IsSound, closed, glance, glance_at, joined, late, lingers, over, waits_there}
use Rattle.mqtt_world_model.proofs.model_lemmas.others.Quiet.{session_on}
use Rattle.mqtt_world_model.proofs.model_lemmas.own.Publishes.{line_none}
use Rattle.mqtt_world_model.proofs.model_lemmas.seats.Seeing.{done_lines, linked_of, linked_is}
use Rattle.mqtt_world_model.proofs.model_lemmas.own.EitherLine.{its_own, packet_events}
use Rattle.mqtt_world_model.proofs.model_lemmas.seats.Mine.{sent_stays}
use Rattle.mqtt_world_model.proofs.model_lemmas.others.Frame.{kept_given}
use Rattle.mqtt_world_model.proofs.model_lemmas.connects.Connects.{call_leaves, connect_is_hop, connect_owns}
use Rattle.mqtt_world_model.proofs.model_lemmas.connects.CleanConnects.{call_renews, clean_is_hop, clean_owns}
use Rattle.mqtt_world_model.proofs.model_lemmas.connects.FirstConnects.{hello_by, call_is, joins_by, begins_seen, refused_seen, first_owns}
use Rattle.mqtt_world_model.proofs.model_lemmas.others.Untouched.{elsewhere, connected_elsewhere}
use Rattle.mqtt_world_model.proofs.model_lemmas.seats.Seats.{AreElsewhere}
use Rattle.mqtt_world_model.proofs.model_lemmas.seats.HopStands.{stands_run, stands_stays}
use Rattle.mqtt_world_model.proofs.model_lemmas.seats.OwnSeats.{own_on, none_there, empty_stays, joined_after, former_after, not_among}

-- numbers that are not the same differ
pub differs : (n m : ℕ) → (n ≡ m → ⊥) → nat_eq n m ≡ false
differs n m h = elim (cases_Bool (nat_eq n m)) [ inl same ↦ absurd (h (eqb-true n m same)) | inr other ↦ other ]

-- a packet on one line leaves another one alone
pub input_elsewhere : (limits : Capacity) (choice : MemberChoice) (now n : ℕ) (packet : Packet) (x : Option ℕ) (b : Broker) → ((m : ℕ) → x ≡ Some m → n ≡ m → ⊥)
    → AreElsewhere x (deeds limits choice now (Input n packet) b) (at_moment now b)
input_elsewhere limits choice now n packet None b h = tt
input_elsewhere limits choice now n packet (Some m) b h = λ idle. elsewhere m (env_of limits choice b) (Input n packet) (at_moment now b) idle (differs n m (h m refl))

former_taken : (o : Option ℕ) (k : ℕ) (l : Line Sent) (b : Broker) → Former o k l b → Former o k (taken_up l) b
former_taken o k l b (over none) = over none
former_taken o k l b (late m is old idle there) = late m is old idle there
former_taken o k l b (lingers birth own is calm there) = lingers birth own is calm there

-- ---- a packet of its session

-- a packet on the publisher's line is steps of the hop
pub packet_comes : (limits : Capacity) (choice : MemberChoice) (now : ℕ) (p : Publisher) (rest : List Sent) (packet : Sent) (l : BrokerLine) (s : Session) (b : Broker) (accepted : List ℕ)
    → p.line.up ≡ packet ∷ rest → IsNoConnect packet → IsConnected p l s b → IsApart p.line.number p.line.old_number → IsHis p.client (Some s.birth) l.number b → Former (Some s.birth) l.number p.line b
    → Comes l.number p (after_step limits choice now (Input l.number (wire p.client p.contents packet)) p b) b (stepped limits choice now (Input l.number (wire p.client p.contents packet)) b)
    accepted (accepted ++ each_of (message_in packet) (deeds limits choice now (Input l.number (wire p.client p.contents packet)) b))
packet_comes limits choice now p rest packet l s b accepted up other c apart his former =
    let call = Input l.number (wire p.client p.contents packet) in
    let x = packet_events its_own limits choice now p rest packet l s b accepted up other c in
    let own = sent_stays limits choice now p packet l s b other c his.0 in
    let stands = ap (λ (w : Hop). w.stands) x.1 ∙ stands_run x.0 (seen accepted p b) his.1 in
    let on : session_on l.number b.lines ≡ Some (Some s.birth) = ap (option_map (λ (y : BrokerLine). y.session)) c.line ∙ ap Some c.connected in
    let far = input_elsewhere limits choice now l.number (wire p.client p.contents packet) p.line.old_number b (λ m is same. apart m (c.number ∙ ap Some same) is) in
    record {
      birth = Some s.birth;
      line = l.number;
      seat = record {
        his = (own, stands);
        present = joined_after limits choice now call b p.client s.birth l.number (taken_up p.line) own c.number on;
        former = former_after limits choice now call b (Some s.birth) (Some s.birth) l.number l.number (taken_up p.line) far
            (λ birth of is calm there. absurd (apart l.number c.number is)) (former_taken (Some s.birth) l.number p.line b former);
      };
      its_line = inl refl;
      events = x.0;
      seen_is = x.1;
    }

-- ---- a line that waits

-- a line that waits for its CONNECT has no session and no Keep Alive
pub waiting_line : (n : ℕ) (b : Broker) → glance_at n b.lines ≡ waits_there → (l : BrokerLine) × (line_at n b ≡ Some l) × (l.session ≡ None) × (l.keep_alive ≡ 0) × (l.number ≡ n)
waiting_line n b h = by (line_at n b) refl h
  where
    number_is : (l : BrokerLine) (ls : List BrokerLine) → find (λ (y : BrokerLine). nat_eq y.number n) ls ≡ Some l → l.number ≡ n
    number_is l [] e = absurd cc
    number_is l (y ∷ ys) e = elim (cases_Bool (nat_eq y.number n)) [
      | inl here ↦
          let it : Some y ≡ Some l = rw here at e in
          let is : y ≡ l = cc in
          ap (λ (z : BrokerLine). z.number) (sym is) ∙ eqb-true y.number n here
      | inr other ↦ number_is l ys (rw other at e)
    ]

    look : Option Glance → Glance
    look None = record { session = None; keep_alive = 0 }
    look (Some g) = g

    by : (o : Option BrokerLine) → line_at n b ≡ o → option_map glance o ≡ waits_there → (l : BrokerLine) × (line_at n b ≡ Some l) × (l.session ≡ None) × (l.keep_alive ≡ 0) × (l.number ≡ n)
    by None e f = absurd cc
    by (Some l) e f = let same : glance l ≡ record { session = None; keep_alive = 0 } = ap look f in (l, e, ap (λ (g : Glance). g.session) same, ap (λ (g : Glance). g.keep_alive) same, number_is l b.lines e)

-- the line that its session is connected on is its own
its_session : (x : Option ℕ) (birth : ℕ) → is_of x birth ≡ true → x ≡ Some birth
its_session None birth e = absurd cc
its_session (Some k) birth e = ap Some (eqb-true k birth e)

own_found : (birth k : ℕ) (l : BrokerLine) (ls : List BrokerLine) → AllByRecursion (IsOurLine birth k) ls → find (λ (x : BrokerLine). is_of x.session birth) ls ≡ Some l → (l.session ≡ Some birth) × (l.number ≡ k)
own_found birth k l [] h e = absurd cc
own_found birth k l (x ∷ xs) h e = elim (cases_Bool (is_of x.session birth)) [
  | inl its ↦
      let it : Some x ≡ Some l = rw its at e in
      let is : x ≡ l = cc in
      let on = its_session x.session birth its in
      (ap (λ (y : BrokerLine). y.session) (sym is) ∙ on, ap (λ (y : BrokerLine). y.number) (sym is) ∙ h.0.alone on)
  | inr other ↦ own_found birth k l xs h.1 (rw other at e)
]

-- the line that the publisher's session stood on is not the one of its CONNECT
pub taken_of : (client : List ℕ) (birth k n : ℕ) (b : Broker) → Own client birth k b → IsIdle n b → IsTaken (line_of birth b) birth n
taken_of client birth k n b own idle = record {
  connected = λ l e. (own_found birth k l b.lines own.lines e).0;
  another = λ l e. connected_elsewhere n birth l b idle e;
}

-- which lines a takeover closes
pub left_idle : (birth m : ℕ) (b : Broker) → IsIdle m b → is_one_of (Some m) (lines_left (line_of birth b)) ≡ false
left_idle birth m b idle = by (line_of birth b) refl
  where
    by : (o : Option BrokerLine) → line_of birth b ≡ o → is_one_of (Some m) (lines_left o) ≡ false
    by None e = refl
    by (Some l) e = let other = connected_elsewhere m birth l b idle e in rw other refl

-- it is the one that a takeover drops
pub left_own : (client : List ℕ) (birth k : ℕ) (b : Broker) → Own client birth k b → session_on k b.lines ≡ Some (Some birth) → is_one_of (Some k) (lines_left (line_of birth b)) ≡ true
left_own client birth k b own on = by (line_of birth b) refl
  where
    found : (ls : List BrokerLine) → session_on k ls ≡ Some (Some birth) → find (λ (x : BrokerLine). is_of x.session birth) ls ≡ None → ⊥
    found [] e f = absurd cc
    found (l ∷ ls) e f = elim (cases_Bool (is_of l.session birth)) [
      | inl its ↦ let clash : Some l ≡ None = rw its at f in absurd cc
      | inr other ↦ elim (cases_Bool (nat_eq l.number k)) [
        | inl here ↦
            let it : Some l.session ≡ Some (Some birth) = rw here at e in
            let is : l.session ≡ Some birth = cc in
            let yes : is_of l.session birth ≡ true = ap (λ (o : Option ℕ). is_of o birth) is ∙ nat_eq_equiv.refl birth in
            let clash : true ≡ false = sym yes ∙ other in
            absurd cc
        | inr further ↦ found ls (rw further at e) (rw other at f)
      ]
    ]

    by : (o : Option BrokerLine) → line_of birth b ≡ o → is_one_of (Some k) (lines_left o) ≡ true
    by None e = absurd (found b.lines on e)
    by (Some l) e =
        let is = (own_found birth k l b.lines own.lines e).1 in
        let same : nat_eq l.number k ≡ true = ap (λ (n : ℕ). nat_eq n k) is ∙ nat_eq_equiv.refl k in
        rw same refl

-- what is spared of the line that it gave up
spared_calm : (xs : List Sent) → AllByRecursion IsNoConnect xs → spared (filter_map shaken xs) ≡ []
spared_calm [] h = refl
spared_calm (plain c ∷ xs) h = spared_calm xs h.1
spared_calm (shake (CONNECT clean) ∷ xs) h = absurd h.0
spared_calm (shake (PUBLISH_1 id n dup) ∷ xs) h = refl
spared_calm (shake (PUBLISH_2 id n dup) ∷ xs) h = refl
spared_calm (shake (PUBREL id) ∷ xs) h = refl

spared_of : (client : List ℕ) (birth k : ℕ) (l : Line Sent) (b : Broker) → Own client birth k b → Former (Some birth) k l b
    → filter_map shaken (unless_closed (is_one_of l.old_number (lines_left (line_of birth b))) l.old) ≡ spared (filter_map shaken l.old)
spared_of client birth k l b own (over none) =
    ap (filter_map shaken) (empty_stays (is_one_of l.old_number (lines_left (line_of birth b))) l.old none) ∙ sym (ap (λ (xs : List Sent). spared (filter_map shaken xs)) none)
spared_of client birth k l b own (late m is old idle there) =
    ap (λ (x : Option ℕ). filter_map shaken (unless_closed (is_one_of x (lines_left (line_of birth b))) l.old)) is
    ∙ (ap (λ (t : Bool). filter_map shaken (unless_closed t l.old)) (left_idle birth m b idle)
    ∙ (ap (filter_map shaken) old ∙ sym (ap (λ (xs : List Sent). spared (filter_map shaken xs)) old)))
spared_of client birth k l b own (lingers it of is calm there) =
    let same : it ≡ birth = cc in
    ap (λ (x : Option ℕ). filter_map shaken (unless_closed (is_one_of x (lines_left (line_of birth b))) l.old)) is
    ∙ (ap (λ (t : Bool). filter_map shaken (unless_closed t l.old)) (left_own client birth k b own (there ∙ ap (λ (n : ℕ). Some (Some n)) same))
    ∙ sym (spared_calm l.old calm))

spared_none : (k : ℕ) (l : Line Sent) (b : Broker) → Former None k l b → filter_map shaken l.old ≡ spared (filter_map shaken l.old)
spared_none k l b (over none) = ap (filter_map shaken) none ∙ sym (ap (λ (xs : List Sent). spared (filter_map shaken xs)) none)
spared_none k l b (late m is old idle there) = ap (filter_map shaken) old ∙ sym (ap (λ (xs : List Sent). spared (filter_map shaken xs)) old)
spared_none k l b (lingers birth of is calm there) = absurd cc

-- its session is connected on its line
pub linked_on : (client : List ℕ) (birth n : ℕ) (b : Broker) → Own client birth n b → is_linked (Some n) b ≡ true → session_on n b.lines ≡ Some (Some birth)
linked_on client birth n b own h = elim (own_on birth n b.lines own.lines) [
  | inr on ↦ on
  | inl none ↦ let clash : true ≡ false = sym h ∙ (linked_is n b ∙ ap linked_of none) in absurd cc
]

-- ---- the CONNECT that it waits for

abbrev pub Connected : Capacity → MemberChoice → ℕ → Bool → ℕ → Publisher → BrokerLine → Broker → List ℕ → Type 0
Connected limits choice now clean k p l b accepted =
    Comes k p (after_step limits choice now (Input l.number (connect_packet clean p)) p b) b (stepped limits choice now (Input l.number (connect_packet clean p)) b) accepted accepted

-- behind a CONNECT the hop is linked
pub hop_linked : (clean t : Bool) (w : Hop) → (on_connect t clean takes [] w).linked ≡ true
hop_linked true true w = refl
hop_linked false true w = refl
hop_linked clean false w = refl

-- it takes the session over, or begins a new one: the line that it gave up is closed, if the session was connected there
connect_seat : (limits : Capacity) (choice : MemberChoice) (now : ℕ) (clean : Bool) (p : Publisher) (l : BrokerLine) (birth k new_birth : ℕ) (b : Broker) (accepted : List ℕ)
    → p.line.up ≡ shake (CONNECT clean) ∷ [] → p.line.number ≡ Some l.number → IsApart p.line.number p.line.old_number → Own p.client birth k b → Former (Some birth) k p.line b
    → filter_map closing (deeds limits choice now (Input l.number (connect_packet clean p)) b) ≡ lines_left (line_of birth b)
    → is_some (session_named p.client b.records) ≡ true
    → Own p.client new_birth l.number (stepped limits choice now (Input l.number (connect_packet clean p)) b)
    → seen accepted (after_step limits choice now (Input l.number (connect_packet clean p)) p b) (stepped limits choice now (Input l.number (connect_packet clean p)) b) ≡ step (seen accepted p b) (to_broker takes)
    → Connected limits choice now clean k p l b accepted
connect_seat limits choice now clean p l birth k new_birth b accepted up is apart own former closes standing own_new e =
    let call = Input l.number (connect_packet clean p) in
    let new = stepped limits choice now call b in
    let out = told limits choice now call b in
    let w = seen accepted p b in
    let stands = ap (λ (z : Hop). z.stands) e ∙ stands_stays (to_broker takes) w standing in
    let linked : is_linked p.line.number new ≡ true =
    ap (λ (z : Hop). z.linked) e ∙ (ap (λ (xs : List FromPublisher). (broker_reads takes xs w).linked) (ap (filter_map shaken) up) ∙ hop_linked clean (is_some (session_named p.client b.records)) w) in
    let on = linked_on p.client new_birth l.number new own_new (sym (ap (λ (x : Option ℕ). is_linked x new) is) ∙ linked) in
    let far = input_elsewhere limits choice now l.number (connect_packet clean p) p.line.old_number b (λ m its same. apart m (is ∙ ap Some same) its) in
    record {
      birth = Some new_birth;
      line = l.number;
      seat = record {
        his = (own_new, stands);
        present = joined new_birth refl is on;
        former = former_after limits choice now call b (Some birth) (Some new_birth) k l.number (taken_up p.line) far gone (former_taken (Some birth) k p.line b former);
      };
      its_line = inr (inl is);
      events = to_broker takes ∷ [];
      seen_is = e;
    }
  where
    gone : (it : ℕ) → Some birth ≡ Some it → p.line.old_number ≡ Some k → AllByRecursion IsNoConnect p.line.old → session_on k b.lines ≡ Some (Some it)
        → Former (Some new_birth) l.number (told_by (stepped limits choice now (Input l.number (connect_packet clean p)) b) (told limits choice now (Input l.number (connect_packet clean p)) b) (taken_up p.line)) (stepped limits choice now (Input l.number (connect_packet clean p)) b)
    gone it of its calm there =
        let same : it ≡ birth = cc in
        let out = told limits choice now (Input l.number (connect_packet clean p)) b in
        let among : is_one_of p.line.old_number out.closed ≡ true =
        ap (λ (x : Option ℕ). is_one_of x out.closed) its ∙ (ap (is_one_of (Some k)) closes ∙ left_own p.client birth k b own (there ∙ ap (λ (n : ℕ). Some (Some n)) same)) in
        over (ap (λ (t : Bool). unless_closed t p.line.old) among)

asking_of : (p : Publisher) (l : BrokerLine) (s : Session) (k : ℕ) (b : Broker) → p.line.number ≡ Some l.number → line_at l.number b ≡ Some l → l.session ≡ None → IsIdle l.number b → IsKept p.client s b → Own p.client s.birth k b
    → Former (Some s.birth) k p.line b → IsAsking p l s b
asking_of p l s k b is at waits idle kept own former = record {
  number = is;
  line = at;
  waits = waits;
  kept = kept;
  taken = taken_of p.client s.birth k l.number b own idle;
  old = spared_of p.client s.birth k p.line b own former;
}

-- a CONNECT to the publisher's session is a step of the hop
pub kept_connect : (limits : Capacity) (choice : MemberChoice) (now : ℕ) (clean : Bool) (p : Publisher) (l : BrokerLine) (s : Session) (k : ℕ) (b : Broker) (accepted : List ℕ)
    → IsNamed p.client → IsSound limits p.client b → IsInOrder (stepped limits choice now (Input l.number (connect_packet clean p)) b)
    → p.line.up ≡ shake (CONNECT clean) ∷ [] → p.line.number ≡ Some l.number → IsApart p.line.number p.line.old_number → line_at l.number b ≡ Some l → l.session ≡ None → l.keep_alive ≡ 0 → IsIdle l.number b
    → IsKept p.client s b → IsHis p.client (Some s.birth) k b → Former (Some s.birth) k p.line b
    → Connected limits choice now clean k p l b accepted
kept_connect limits choice now false p l s k b accepted named sound order up is apart at waits quiet idle kept his former =
    let a = asking_of p l s k b is at waits idle kept his.0 former in
    connect_seat limits choice now false p l s.birth k s.birth b accepted up is apart his.0 former (call_leaves limits choice now p l s b a).1.closings_is his.1
    (connect_owns limits choice now p l s b a quiet sound.order order) (connect_is_hop limits choice now p [] l s b accepted up a)
kept_connect limits choice now true p l s k b accepted named sound order up is apart at waits quiet idle kept his former =
    let a = asking_of p l s k b is at waits idle kept his.0 former in
    let m : MayBegin limits p.client b = record { births = sound.order.births; within = sound.within; room = sound.place his.1; some = named.some } in
    let own = clean_owns limits choice now p l s b a m quiet sound.order order in
    connect_seat limits choice now true p l s.birth k own.0 b accepted up is apart his.0 former (call_renews limits choice now p l s b a m).closings_is his.1 own.1
    (clean_is_hop limits choice now p [] l s b accepted up a m)

-- ---- if no session of its name stands

-- what is not some is none
pub not_some : (o : Option Session) → is_some o ≡ false → o ≡ None
not_some None e = refl
not_some (Some s) e = absurd cc

-- a CONNECT without a session of the publisher's is a step of the hop
pub first_connect : (limits : Capacity) (choice : MemberChoice) (now : ℕ) (clean : Bool) (p : Publisher) (l : BrokerLine) (k : ℕ) (b : Broker) (accepted : List ℕ)
    → IsNamed p.client → IsSound limits p.client b → IsInOrder (stepped limits choice now (Input l.number (connect_packet clean p)) b)
    → p.line.up ≡ shake (CONNECT clean) ∷ [] → p.line.number ≡ Some l.number → IsApart p.line.number p.line.old_number → line_at l.number b ≡ Some l → l.session ≡ None → l.keep_alive ≡ 0 → IsIdle l.number b
    → session_named p.client b.records ≡ None → Former None k p.line b
    → Connected limits choice now clean k p l b accepted
first_connect limits choice now clean p l k b accepted named sound order up is apart at waits quiet idle none former =
    let call = Input l.number (connect_packet clean p) in
    let ds = deeds limits choice now call b in
    let start = at_moment now b in
    let new = stepped limits choice now call b in
    let out = told limits choice now call b in
    let w = seen accepted p b in
    let far = input_elsewhere limits choice now l.number (connect_packet clean p) p.line.old_number b (λ m its same. apart m (is ∙ ap Some same) its) in
    let a : IsFirst limits p l b = record {
      number = is;
      line = at;
      waits = waits;
      none = none;
      births = sound.order.births;
      within = sound.within;
      some = named.some;
      short = named.short;
      plain = named.plain;
      apart = not_among p.line.old_number l.number (λ its. apart l.number is its);
      old = spared_none k p.line b former;
    } in
    elim (cases_Bool (nat_lt (length b.records.sessions) limits.sessions)) [
      | inl room ↦
          let e = begins_seen limits choice now clean p l b accepted up a room in
          let own = first_owns limits choice now clean p l b a room quiet sound.order order in
          let birth = suc b.records.births in
          let linked : is_linked p.line.number new ≡ true =
          ap (λ (z : Hop). z.linked) e ∙ (ap (λ (xs : List FromPublisher). (broker_reads takes xs w).linked) (ap (filter_map shaken) up) ∙ hop_linked clean (is_some (session_named p.client b.records)) w) in
          let stands : is_some (session_named p.client new.records) ≡ true =
          ap (λ (z : Hop). z.stands) e ∙ (ap (λ (xs : List FromPublisher). (broker_reads takes xs w).stands) (ap (filter_map shaken) up) ∙ ap (λ (t : Bool). (on_connect t clean takes [] w).stands) (ap is_some none)) in
          record {
            birth = Some birth;
            line = l.number;
            seat = record {
              his = (own, stands);
              present = joined birth refl is (linked_on p.client birth l.number new own (sym (ap (λ (x : Option ℕ). is_linked x new) is) ∙ linked));
              former = former_after limits choice now call b None (Some birth) k l.number (taken_up p.line) far (λ it of its calm there. absurd cc) (former_taken None k p.line b former);
            };
            its_line = inr (inl is);
            events = to_broker takes ∷ [];
            seen_is = e;
          }
      | inr full ↦
          let e = refused_seen limits choice now clean p l b accepted up a full in
          let stands : is_some (session_named p.client new.records) ≡ false =
          ap (λ (z : Hop). z.stands) e ∙ (ap (λ (xs : List FromPublisher). (broker_reads refuses xs w).stands) (ap (filter_map shaken) up) ∙ (ap (λ (t : Bool). (on_connect t clean refuses [] w).stands) (ap is_some none) ∙ ap is_some none)) in
          let deeds_is = call_is limits choice now clean p l b a ∙ ap (λ (t : Bool). On l.number Hear ∷ joins_by t l (hello_by clean p.client) b.records) full in
          let lines : new.lines ≡ (after_all ds start).lines = done_lines (rows_of_all ds start.records) (after_all ds start) in
          let gone : session_on l.number new.lines ≡ None =
          ap (session_on l.number) lines ∙ (ap (λ (xs : List Deed). session_on l.number (after_all xs start).lines) deeds_is ∙ line_none l.number _) in
          let nobody = none_there l.number new.lines gone in
          record {
            birth = None;
            line = k;
            seat = record {
              his = not_some (session_named p.client new.records) stands;
              present = closed l.number is (empty_stays (is_one_of p.line.number out.closed) _ (ap (drop 1) up)) (record { lines = nobody.0; given = subst (λ (n : ℕ). l.number ≤ n) (sym (kept_given (rows_of_all ds start.records) (after_all ds start) ∙ ap (λ (xs : List Deed). (after_all xs start).given) deeds_is)) idle.given }) nobody.1;
              former = former_after limits choice now call b None None k k (taken_up p.line) far (λ it of its calm there. absurd cc) (former_taken None k p.line b former);
            };
            its_line = inl refl;
            events = to_broker refuses ∷ [];
            seen_is = e;
          }
    ]
