-- What the broker reads of the line that a publisher gave up: a packet of its session, or a late CONNECT.
use Rattle.std.proofs.Common.{◌≡◌, ℕ, suc, ◌≤◌, Bool, true, false, List, [], ◌∷◌, ◌++◌, drop, length, Option, Some, None, nat_lt, refl, sym, ap, subst, ◌∙◌, inl, inr}
use Rattle.std.specs.Prelude.{option_map, filter_map, is_some}
use Rattle.std.specs.List.{AllByRecursion}
use Rattle.std.proofs.lemmas.Bool.{cases_Bool}
use Rattle.mqtt_flow.specs.inbound.Publisher.{FromPublisher, CONNECT}
use Rattle.mqtt_flow.specs.inbound.InboundWorld.{World as Hop, takes, refuses, old_to_broker, broker_reads_old, on_connect, on_old_connect, step, run}
use Rattle.mqtt_records.specs.declared.state.session.Session.{Session}
use Rattle.mqtt_rules.specs.declared.step.Capacity.{Capacity}
use Rattle.mqtt_rules.specs.step.State.{MemberChoice, Line as BrokerLine, Broker, session_named, line_at, line_of}
use Rattle.mqtt_rules.specs.step.Deeds.{Deed, Accept, Begin, Name, Count, At, Finish, Keep, Forget, RefuseWill, Link, On, Send, Gone, after, after_all, rows_of_all}
use Rattle.mqtt_rules.specs.step.Step.{Input, at_moment, deeds, stepped, told}
use Rattle.mqtt_world_model.specs.model.Lines.{Line, is_one_of, unless_closed, told_by}
use Rattle.mqtt_world_model.specs.model.Ends.{Sent, shake, Publisher, wire, message_in}
use Rattle.mqtt_world_model.specs.model.World.{taken_old}
use Rattle.mqtt_world_model.specs.model.Run.{each_of}
use Rattle.mqtt_world_model.specs.model.Seen.{shaken, is_linked, open_in, seen}
use Rattle.mqtt_world_model.specs.model.Hops.{Own, IsInOrder, IsKept, IsConnected, IsNoConnect, IsAsking, IsFirst, IsLate, lines_left, after_old_step, turned_back, connect_packet}
use Rattle.mqtt_world_model.specs.model.Seats.{Comes, IsApart, IsHis, IsIdle, IsNamed, IsSound, Present, absent, closed, joined, over, waiting}
use Rattle.mqtt_world_model.proofs.model_lemmas.others.Quiet.{session_on}
use Rattle.mqtt_world_model.proofs.model_lemmas.seats.Seeing.{done_lines, linked_of, linked_is, hop_of}
use Rattle.mqtt_world_model.proofs.model_lemmas.own.EitherLine.{given_up, packet_events}
use Rattle.mqtt_world_model.proofs.model_lemmas.seats.Mine.{sent_stays}
use Rattle.mqtt_world_model.proofs.model_lemmas.others.Frame.{kept_given}
use Rattle.mqtt_world_model.proofs.model_lemmas.seats.Owned.{ArePatient}
use Rattle.mqtt_world_model.proofs.model_lemmas.connects.Connects.{call_leaves, connect_owns}
use Rattle.mqtt_world_model.proofs.model_lemmas.connects.LateConnects.{call_there, late_on, late_is_hop}
use Rattle.mqtt_world_model.proofs.model_lemmas.connects.FirstConnects.{begins_seen, refused_seen, first_owns}
use Rattle.mqtt_world_model.proofs.model_lemmas.seats.Seats.{idle_linked, own_events, behold, closes_own, run_append, old_after}
use Rattle.mqtt_world_model.proofs.model_lemmas.seats.HopStands.{stands_run, stands_stays}
use Rattle.mqtt_world_model.proofs.model_lemmas.seats.OwnSeats.{none_there, empty_stays, lingers_after, present_after, not_among}
use Rattle.mqtt_world_model.proofs.model_lemmas.own.OwnCalls.{differs, input_elsewhere, taken_of, left_idle, left_own, not_some}

present_taken : (o : Option ℕ) (k : ℕ) (l : Line Sent) (b : Broker) → Present o k l b → Present o k (taken_old l) b
present_taken o k l b (absent none up) = absent none up
present_taken o k l b (waiting n clean is link_is clean_is up down idle there) = waiting n clean is link_is clean_is up down idle there
present_taken o k l b (closed n is up idle none) = closed n is up idle none
present_taken o k l b (joined birth own is there) = joined birth own is there

all_drop : (xs : List Sent) → AllByRecursion IsNoConnect xs → AllByRecursion IsNoConnect (drop 1 xs)
all_drop [] h = tt
all_drop (x ∷ xs) h = h.1

-- ---- a packet of its session, which is connected there

-- a packet on the old line is steps of the hop
pub old_packet_comes : (limits : Capacity) (choice : MemberChoice) (now : ℕ) (p : Publisher) (rest : List Sent) (packet : Sent) (l : BrokerLine) (s : Session) (b : Broker) (accepted : List ℕ)
    → p.line.old ≡ packet ∷ rest → IsNoConnect packet → AllByRecursion IsNoConnect p.line.old → IsConnected (turned_back p) l s b → IsApart p.line.number p.line.old_number
    → IsHis p.client (Some s.birth) l.number b → Present (Some s.birth) l.number p.line b
    → Comes l.number p (after_old_step limits choice now (Input l.number (wire p.client p.contents packet)) p b) b (stepped limits choice now (Input l.number (wire p.client p.contents packet)) b)
    accepted (accepted ++ each_of (message_in packet) (deeds limits choice now (Input l.number (wire p.client p.contents packet)) b))
old_packet_comes limits choice now p rest packet l s b accepted up other calm c apart his present =
    let call = Input l.number (wire p.client p.contents packet) in
    let x = packet_events given_up limits choice now p rest packet l s b accepted up other c in
    let own = sent_stays limits choice now (turned_back p) packet l s b other c his.0 in
    let stands = ap (λ (w : Hop). w.stands) x.1 ∙ stands_run x.0 (seen accepted p b) his.1 in
    let on : session_on l.number b.lines ≡ Some (Some s.birth) = ap (option_map (λ (y : BrokerLine). y.session)) c.line ∙ ap Some c.connected in
    let far = input_elsewhere limits choice now l.number (wire p.client p.contents packet) p.line.number b (λ m is same. apart m is (c.number ∙ ap Some same)) in
    record {
      birth = Some s.birth;
      line = l.number;
      seat = record {
        his = (own, stands);
        present = present_after limits choice now call b (Some s.birth) (Some s.birth) l.number l.number (taken_old p.line) far
            (λ birth of is there. absurd (apart l.number is c.number)) (present_taken (Some s.birth) l.number p.line b present);
        former = lingers_after limits choice now call b p.client s.birth l.number (taken_old p.line) own c.number (all_drop p.line.old calm) on;
      };
      its_line = inl refl;
      events = x.0;
      seen_is = x.1;
    }

-- ---- a late CONNECT, while its session stands

patient_given : (ds : List Deed) (b : Broker) → ArePatient ds → (after_all ds b).given ≡ b.given
patient_given [] b q = refl
patient_given (Link m ∷ ds) b q = absurd q.0
patient_given (Accept number origin m ∷ ds) b q = patient_given ds (after (Accept number origin m) b) q.1
patient_given (Begin row will ∷ ds) b q = patient_given ds (after (Begin row will) b) q.1
patient_given (Name k ∷ ds) b q = patient_given ds (after (Name k) b) q.1
patient_given (Count k ∷ ds) b q = patient_given ds (after (Count k) b) q.1
patient_given (At who part ∷ ds) b q = patient_given ds (after (At who part) b) q.1
patient_given (Finish who ∷ ds) b q = patient_given ds (after (Finish who) b) q.1
patient_given (Keep kept ∷ ds) b q = patient_given ds (after (Keep kept) b) q.1
patient_given (Forget place ∷ ds) b q = patient_given ds (after (Forget place) b) q.1
patient_given (RefuseWill who ∷ ds) b q = patient_given ds (after (RefuseWill who) b) q.1
patient_given (On m part ∷ ds) b q = patient_given ds (after (On m part) b) q.1
patient_given (Send m packet ∷ ds) b q = patient_given ds (after (Send m packet) b) q.1
patient_given (Gone m ∷ ds) b q = patient_given ds (after (Gone m) b) q.1

late_linked : (client : List ℕ) (birth k : ℕ) (l : Line Sent) (b : Broker) → Own client birth k b → Present (Some birth) k l b → is_linked l.number b ≡ is_one_of l.number (lines_left (line_of birth b))
late_linked client birth k l b own (absent none up) =
    ap (λ (x : Option ℕ). is_linked x b) none ∙ sym (ap (λ (x : Option ℕ). is_one_of x (lines_left (line_of birth b))) none)
late_linked client birth k l b own (waiting n clean is link_is clean_is up down idle there) =
    ap (λ (x : Option ℕ). is_linked x b) is ∙ (idle_linked n b idle ∙ (sym (left_idle birth n b idle) ∙ sym (ap (λ (x : Option ℕ). is_one_of x (lines_left (line_of birth b))) is)))
late_linked client birth k l b own (closed n is up idle none) =
    ap (λ (x : Option ℕ). is_linked x b) is ∙ (idle_linked n b idle ∙ (sym (left_idle birth n b idle) ∙ sym (ap (λ (x : Option ℕ). is_one_of x (lines_left (line_of birth b))) is)))
late_linked client birth k l b own (joined it of is there) =
    let same : it ≡ birth = cc in
    let on = there ∙ ap (λ (n : ℕ). Some (Some n)) same in
    ap (λ (x : Option ℕ). is_linked x b) is ∙ (linked_is k b ∙ (ap linked_of on ∙ (sym (left_own client birth k b own on) ∙ sym (ap (λ (x : Option ℕ). is_one_of x (lines_left (line_of birth b))) is))))

abbrev pub LateConnected : Capacity → MemberChoice → ℕ → ℕ → Publisher → BrokerLine → Broker → List ℕ → Type 0
LateConnected limits choice now k p l b accepted =
    Comes k p (after_old_step limits choice now (Input l.number (connect_packet false p)) p b) b (stepped limits choice now (Input l.number (connect_packet false p)) b) accepted accepted

-- so is a CONNECT there
pub late_comes : (limits : Capacity) (choice : MemberChoice) (now : ℕ) (p : Publisher) (l : BrokerLine) (s : Session) (k : ℕ) (b : Broker) (accepted : List ℕ)
    → IsInOrder b → IsInOrder (stepped limits choice now (Input l.number (connect_packet false p)) b)
    → p.line.old ≡ shake (CONNECT false) ∷ [] → p.line.old_number ≡ Some l.number → IsApart p.line.number p.line.old_number → line_at l.number b ≡ Some l → l.session ≡ None → l.keep_alive ≡ 0 → IsIdle l.number b
    → IsKept p.client s b → IsHis p.client (Some s.birth) k b → Present (Some s.birth) k p.line b
    → LateConnected limits choice now k p l b accepted
late_comes limits choice now p l s k b accepted order order_after old is apart at waits quiet idle kept his present =
    let packet = connect_packet false p in
    let call = Input l.number packet in
    let ds = deeds limits choice now call b in
    let start = at_moment now b in
    let new = stepped limits choice now call b in
    let out = told limits choice now call b in
    let w = seen accepted p b in
    let taken = taken_of p.client s.birth k l.number b his.0 idle in
    let a : IsLate p l s b = record {
      number = is;
      line = at;
      waits = waits;
      kept = kept;
      taken = taken;
      apart = not_among p.line.number l.number (λ its. apart l.number its is);
      linked = late_linked p.client s.birth k p.line b his.0 present;
    } in
    let q : Publisher = record p { line = record p.line { number = Some l.number; old_number = None; old = [] } } in
    let asking : IsAsking q l s b = record { number = refl; line = at; waits = waits; kept = kept; taken = taken; old = refl } in
    let given = call_leaves limits choice now q l s b asking in
    let g = given.1 in
    let own = connect_owns limits choice now q l s b asking quiet order order_after in
    let e = late_is_hop limits choice now p [] l s b accepted old a in
    let stands = ap (λ (z : Hop). z.stands) e ∙ stands_stays (old_to_broker takes) w his.1 in
    let far = input_elsewhere limits choice now l.number packet p.line.number b (λ m its same. apart m its (is ∙ ap Some same)) in
    let closed_there : (it : ℕ) → Some s.birth ≡ Some it → p.line.number ≡ Some k → session_on k b.lines ≡ Some (Some it) → Present (Some s.birth) l.number (told_by new out (taken_old p.line)) new =
    λ it of its there.
    let same : it ≡ s.birth = cc in
    let left = left_own p.client s.birth k b his.0 (there ∙ ap (λ (n : ℕ). Some (Some n)) same) in
    let beside = differs l.number k (λ e. apart k its (is ∙ ap Some e)) in
    let gone = (call_there limits choice now p.client l s k b at waits kept taken beside).line_is in
    let none : session_on k new.lines ≡ None =
    ap (session_on k) (done_lines (rows_of_all ds start.records) (after_all ds start)) ∙ (gone ∙ ap (λ (t : Bool). late_on t (session_on k b.lines)) left) in
    let nobody = none_there k new.lines none in
    let same_given : new.given ≡ b.given = kept_given (rows_of_all ds start.records) (after_all ds start) ∙ patient_given ds start g.patient in
    let among : is_one_of p.line.number out.closed ≡ true = ap (λ (x : Option ℕ). is_one_of x out.closed) its ∙ (ap (is_one_of (Some k)) g.closings_is ∙ left) in
    closed k its (ap (λ (t : Bool). unless_closed t p.line.up) among) (record { lines = nobody.0; given = subst (λ (n : ℕ). k ≤ n) (sym same_given) his.0.given }) nobody.1
    in
    record {
      birth = Some s.birth;
      line = l.number;
      seat = record {
        his = (own, stands);
        present = present_after limits choice now call b (Some s.birth) (Some s.birth) k l.number (taken_old p.line) far closed_there (present_taken (Some s.birth) k p.line b present);
        former = over (empty_stays (is_one_of p.line.old_number out.closed) (drop 1 p.line.old) (ap (drop 1) old));
      };
      its_line = inr (inr is);
      events = old_to_broker takes ∷ [];
      seen_is = e;
    }

-- ---- a late CONNECT, while no session of its name stands

late_takes : (z : Hop) → z.old ≡ CONNECT false ∷ [] → z.stands ≡ false → step z (old_to_broker takes) ≡ record z { old = []; stands = true; ids = [] }
late_takes z e f = ap (λ (ps : List FromPublisher). broker_reads_old takes ps z) e ∙ ap (λ (t : Bool). on_old_connect t false takes [] z) f

late_refuses : (z : Hop) → z.old ≡ CONNECT false ∷ [] → z.stands ≡ false → step z (old_to_broker refuses) ≡ record z { old = [] }
late_refuses z e f = ap (λ (ps : List FromPublisher). broker_reads_old refuses ps z) e ∙ ap (λ (t : Bool). on_old_connect t false refuses [] z) f

stands_kept : (t : Bool) (w : Hop) → (run (own_events t) w).stands ≡ w.stands
stands_kept true w = refl
stands_kept false w = refl

-- also if it is the first
pub late_first : (limits : Capacity) (choice : MemberChoice) (now : ℕ) (p : Publisher) (l : BrokerLine) (k : ℕ) (b : Broker) (accepted : List ℕ)
    → IsNamed p.client → IsSound limits p.client b → IsInOrder (stepped limits choice now (Input l.number (connect_packet false p)) b)
    → p.line.old ≡ shake (CONNECT false) ∷ [] → p.line.old_number ≡ Some l.number → IsApart p.line.number p.line.old_number → line_at l.number b ≡ Some l → l.session ≡ None → l.keep_alive ≡ 0
    → session_named p.client b.records ≡ None → Present None k p.line b
    → LateConnected limits choice now k p l b accepted
late_first limits choice now p l k b accepted named sound order old is apart at waits quiet none present =
    let packet = connect_packet false p in
    let call = Input l.number packet in
    let new = stepped limits choice now call b in
    let out = told limits choice now call b in
    let w = seen accepted p b in
    let q : Publisher = record p { line = record p.line { number = Some l.number; up = shake (CONNECT false) ∷ []; old_number = None; old = [] } } in
    let a : IsFirst limits q l b = record {
      number = refl;
      line = at;
      waits = waits;
      none = none;
      births = sound.order.births;
      within = sound.within;
      some = named.some;
      short = named.short;
      plain = named.plain;
      apart = refl;
      old = refl;
    } in
    let far = input_elsewhere limits choice now l.number packet p.line.number b (λ m its same. apart m its (is ∙ ap Some same)) in
    let there = present_taken None k p.line b present in
    let own = behold limits choice now call p.client None k (taken_old p.line) b far (λ birth of. absurd cc) there in
    let t = own.ups.0 in
    let linked = own.linked in
    let downs = own.downs in
    let ups = own.ups.2 in
    let olds : filter_map shaken (unless_closed (is_one_of p.line.old_number out.closed) (drop 1 p.line.old)) ≡ [] =
    ap (filter_map shaken) (empty_stays (is_one_of p.line.old_number out.closed) (drop 1 p.line.old) (ap (drop 1) old)) in
    let u = seen accepted q b in
    let first = closes_own t p.line.up w refl own.ups.1 in
    let mid = run (own_events t) w in
    let old_is : mid.old ≡ CONNECT false ∷ [] = old_after t w ∙ ap (filter_map shaken) old in
    let none_is : mid.stands ≡ false = stands_kept t w ∙ ap is_some none in
    elim (cases_Bool (nat_lt (length b.records.sessions) limits.sessions)) [
      | inl room ↦
          let e = begins_seen limits choice now false q l b accepted refl a room in
          let birth = suc b.records.births in
          let own_after = first_owns limits choice now false q l b a room quiet sound.order order in
          let stands : is_some (session_named p.client new.records) ≡ true = ap (λ (z : Hop). z.stands) e ∙ ap (λ (x : Bool). (on_connect x false takes [] u).stands) (ap is_some none) in
          let ids : open_in (session_named p.client new.records) ≡ [] = ap (λ (z : Hop). z.ids) e ∙ ap (λ (x : Bool). (on_connect x false takes [] u).ids) (ap is_some none) in
          let same : seen accepted (after_old_step limits choice now call p b) new ≡ record (record w { up = filter_map shaken (unless_closed t p.line.up) }) { old = []; stands = true; ids = [] } =
          λ i. hop_of accepted p (linked i) (ups i) (downs i) (olds i) (stands i) (ids i) in
          record {
            birth = Some birth;
            line = l.number;
            seat = record {
              his = (own_after, stands);
              present = present_after limits choice now call b None (Some birth) k l.number (taken_old p.line) far (λ it of its on. absurd cc) there;
              former = over (empty_stays (is_one_of p.line.old_number out.closed) (drop 1 p.line.old) (ap (drop 1) old));
            };
            its_line = inr (inr is);
            events = own_events t ++ old_to_broker takes ∷ [];
            seen_is =
                same ∙ (ap (λ (z : Hop). record z { old = []; stands = true; ids = [] }) first
                ∙ (sym (late_takes mid old_is none_is) ∙ sym (run_append (own_events t) (old_to_broker takes ∷ []) w)));
          }
      | inr full ↦
          let e = refused_seen limits choice now false q l b accepted refl a full in
          let stands : is_some (session_named p.client new.records) ≡ false =
          ap (λ (z : Hop). z.stands) e ∙ (ap (λ (x : Bool). (on_connect x false refuses [] u).stands) (ap is_some none) ∙ ap is_some none) in
          let still = not_some (session_named p.client new.records) stands in
          let same : seen accepted (after_old_step limits choice now call p b) new ≡ record (record w { up = filter_map shaken (unless_closed t p.line.up) }) { old = [] } =
          λ i. hop_of accepted p (linked i) (ups i) (downs i) (olds i) (is_some ((still ∙ sym none) i)) (open_in ((still ∙ sym none) i)) in
          record {
            birth = None;
            line = k;
            seat = record {
              his = still;
              present = present_after limits choice now call b None None k k (taken_old p.line) far (λ it of its on. absurd cc) there;
              former = over (empty_stays (is_one_of p.line.old_number out.closed) (drop 1 p.line.old) (ap (drop 1) old));
            };
            its_line = inl refl;
            events = own_events t ++ old_to_broker refuses ∷ [];
            seen_is =
                same ∙ (ap (λ (z : Hop). record z { old = [] }) first
                ∙ (sym (late_refuses mid old_is none_is) ∙ sym (run_append (own_events t) (old_to_broker refuses ∷ []) w)));
          }
    ]
