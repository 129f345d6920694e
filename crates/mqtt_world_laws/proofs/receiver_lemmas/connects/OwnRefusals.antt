-- The broker refuses a receiver's CONNECT, since there is no place for a session more: the receiver awaits one as before.
use Rattle.std.proofs.Common.{◌≡◌, ℕ, zero, suc, ◌≤◌, Bool, true, false, cond, not, List, [], ◌∷◌, ◌++◌, drop, filter, length, map, Option, Some, None, bytes_eq, nat_eq, nat_lt, refl, sym, ap, subst, ◌∙◌, inl, inr}
use Rattle.std.specs.Prelude.{filter_map, find, is_some, option_map}
use Rattle.std.specs.List.{AllByRecursion, starts_with}
use Rattle.std.proofs.lemmas.Bool.{cases_Bool}
use Rattle.std.proofs.lemmas.Cmp.{nat_eq_equiv}
use Rattle.mqtt_base.specs.Codes.{quota_exceeded}
use Rattle.mqtt_base.specs.declared.session.CopyId.{CopyId}
use Rattle.mqtt_packet.specs.declared.codec.packet.Packet.{Packet}
use Rattle.mqtt_flow.specs.outbound.OutboundWorld.{Lot, World as Hop, close, connects, run, start, step, to_broker, up_comes}
use Rattle.mqtt_flow.specs.outbound.Receiver.{Answer, connect, disconnect, no_connack}
use Rattle.mqtt_flow.specs.inbound.Line.{sent_on}
use Rattle.mqtt_world_model.specs.model.Ends.{Back, Receiver, answers, wire_back}
use Rattle.mqtt_world_model.specs.model.Lines.{Down, is_one_of, sent_to, unless_closed}
use Rattle.mqtt_world_model.specs.model.Seen.{is_linked}
use Rattle.mqtt_world_model.proofs.model_lemmas.own.OwnStep.{heard_of}
use Rattle.mqtt_world_model.proofs.model_lemmas.own.Publishes.{line_none}
use Rattle.mqtt_world_model.proofs.model_lemmas.others.Quiet.{session_on}
use Rattle.mqtt_world_model.proofs.model_lemmas.seats.Seeing.{done_lines, done_sessions, linked_is, linked_of}
use Rattle.mqtt_records.specs.state.Session.{auto}
use Rattle.mqtt_records.specs.declared.state.change.Change.{Change}
use Rattle.mqtt_records.specs.declared.state.session.Session.{Session}
use Rattle.mqtt_rules.specs.step.Connect.{begin_named, connect_by, joins, joins_after, on_connect, refused}
use Rattle.mqtt_rules.specs.step.Deeds.{Deed, Gone, Hear, On, Send, after_all, closing, output, rows_of_all}
use Rattle.mqtt_rules.specs.step.Packets as packets_of
use Rattle.mqtt_rules.specs.step.State.{Line as BrokerLine, Broker, Env, MemberChoice, session_named}
use Rattle.mqtt_rules.specs.step.Step.{Input, at_moment, deeds, env_of, stepped, with_moment}
use Rattle.mqtt_rules.specs.declared.step.Capacity.{Capacity}
use Rattle.mqtt_topic.specs.names.Names.{is_empty}
use Rattle.mqtt_world_laws.specs.receiver.Calls.{IsBeginning}
use Rattle.mqtt_world_laws.specs.receiver.Handing.{IsRun, after_answer, reads_answer}
use Rattle.mqtt_world_laws.specs.receiver.Own.{IsAwaiting, IsFreeLine}
use Rattle.mqtt_world_laws.specs.receiver.Seen.{AreQueued, Numbering, answered, heard_in, seen}
use Rattle.mqtt_world_laws.specs.receiver.Tags.{IsTagged, id_of}
use Rattle.mqtt_world_laws.proofs.receiver_lemmas.own.Answering.{all_join, heard_append}
use Rattle.mqtt_world_laws.proofs.receiver_lemmas.connects.Beginning.{prepare_none}
use Rattle.mqtt_world_laws.proofs.receiver_lemmas.connects.OwnConnects.{free_heard}
use Rattle.mqtt_world_laws.proofs.receiver_lemmas.queue.Pumps.{down_first}
use Rattle.mqtt_world_laws.proofs.receiver_lemmas.connects.Refusals.{run_append}
use Rattle.mqtt_world_laws.proofs.receiver_lemmas.connects.Resuming.{call_is, greeting, refused_not}

-- ---- the deeds of the CONNECT

refused_is : (l : BrokerLine) (clean : Bool) (client : List ℕ) (window aliases : ℕ)
    → refused l (greeting clean client window aliases) quota_exceeded ≡ Send l.number (packets_of.connack false quota_exceeded []) ∷ Gone l.number ∷ []
refused_is l clean client window zero = refl
refused_is l clean client window (suc more) = refl

connect_refused : (env : Env) (l : BrokerLine) (clean : Bool) (client : List ℕ) (window aliases : ℕ) (b : Broker)
    → session_named client b.records ≡ None → nat_lt 64 (length client) ≡ false → starts_with nat_eq client auto ≡ false → nat_lt (length b.records.sessions) env.limits.sessions ≡ false
    → on_connect env l (greeting clean client window aliases) b ≡ Send l.number (packets_of.connack false quota_exceeded []) ∷ Gone l.number ∷ []
connect_refused env l clean client window aliases b none short plain full =
    let c = greeting clean client window aliases in
    ap (λ (z : Option ℕ). connect_by z env l c b) (refused_not clean client window aliases b.records short plain)
    ∙ (ap (λ (ds : List Deed). joins_after env l c b.now ds (after_all ds b).records) (prepare_none env clean client window aliases b none)
    ∙ (ap (λ (z : Option Session). joins env l c b.now [] b.records z) none
    ∙ (ap (λ (t : Bool). cond t ([] ++ begin_named (is_empty client) l c b.records) (refused l c quota_exceeded)) full ∙ refused_is l clean client window aliases)))

-- the stored moment gives no line
pub moment_given : (rows : List Change) (b : Broker) → (with_moment rows b).given ≡ b.given
moment_given [] b = refl
moment_given (row ∷ rows) b = refl

-- the loss of a line keeps the others free
pub free_gone : (ns : List ℕ) (n : ℕ) (ls : List BrokerLine) → AllByRecursion (IsFreeLine ns) ls → AllByRecursion (IsFreeLine ns) (filter (λ (l : BrokerLine). not (nat_eq l.number n)) ls)
free_gone ns n [] h = tt
free_gone ns n (l ∷ ls) h = elim (cases_Bool (nat_eq l.number n)) [
  | inl goes ↦ rw goes (free_gone ns n ls h.1)
  | inr stays ↦ rw stays (h.0, free_gone ns n ls h.1)
]

-- a closed line has nothing under way
pub unless_true : (t : Bool) (xs : List Back) → t ≡ true → filter_map answered (unless_closed t xs) ≡ []
unless_true true xs e = refl
unless_true false xs e = absurd cc

-- ---- the step

module _ (limits : Capacity) (choice : MemberChoice) (now : ℕ) (clean : Bool) (rest : List Back) (r : Receiver) (l : BrokerLine) (b : Broker) (a : IsBeginning limits r l b)
    (apart : is_one_of r.line.old_number (l.number ∷ []) ≡ false) (full : nat_lt (length b.records.sessions) limits.sessions ≡ false) (up : r.line.up ≡ answers (connect clean) ∷ rest) where
  abbrev n : ℕ
  n = l.number

  abbrev packet : Packet
  packet = wire_back r.client r.window r.aliases (answers (connect clean))

  abbrev first : Broker
  first = at_moment now b

  abbrev ds : List Deed
  ds = deeds limits choice now (Input n packet) b

  abbrev new : Broker
  new = stepped limits choice now (Input n packet) b

  abbrev pub refusing : List Deed
  refusing = On n Hear ∷ Send n (packets_of.connack false quota_exceeded []) ∷ Gone n ∷ []

  -- a CONNECT for which there is no place is heard and refused, and its line goes
  pub deeds_are : ds ≡ refusing
  deeds_are =
      call_is limits choice now clean r.client r.window r.aliases l b a.line a.waits
      ∙ ap (λ (xs : List Deed). On n Hear ∷ (xs ++ [])) (connect_refused (env_of limits choice b) l clean r.client r.window r.aliases (heard_of now n b) a.none a.short a.plain full)

  -- a refused CONNECT leaves the sessions as they are
  pub sessions_are : new.records.sessions ≡ b.records.sessions
  sessions_are = done_sessions (rows_of_all ds first.records) (after_all ds first) ∙ ap (λ (xs : List Deed). (after_all xs first).records.sessions) deeds_are

  -- a refused CONNECT takes its line away and leaves the others
  pub lines_are : new.lines ≡ (after_all refusing first).lines
  lines_are = done_lines (rows_of_all ds first.records) (after_all ds first) ∙ ap (λ (xs : List Deed). (after_all xs first).lines) deeds_are

  -- a refused CONNECT gives no line a number
  pub given_is : new.given ≡ b.given
  given_is = moment_given (rows_of_all ds first.records) (after_all ds first) ∙ ap (λ (xs : List Deed). (after_all xs first).given) deeds_are

  -- after a refused CONNECT no session has the receiver's name
  pub named_none : session_named r.client new.records ≡ None
  named_none = ap (λ (ss : List Session). find (λ (x : Session). bytes_eq x.client r.client) ss) sessions_are ∙ a.none

  linked_before : is_linked r.line.number b ≡ false
  linked_before = ap (λ (o : Option ℕ). is_linked o b) a.number ∙ (linked_is n b ∙ ap linked_of (ap (option_map (λ (x : BrokerLine). x.session)) a.line ∙ ap Some a.waits))

  linked_after : is_linked r.line.number new ≡ false
  linked_after =
      ap (λ (o : Option ℕ). is_linked o new) a.number
      ∙ (linked_is n new ∙ (ap (λ (ls : List BrokerLine). linked_of (session_on n ls)) lines_are ∙ ap linked_of (line_none n (heard_of now n b).lines)))

  told_is : sent_to r.line.number new (filter_map output ds) ≡ record { packet = packets_of.connack false quota_exceeded []; copy = None } ∷ []
  told_is =
      ap (λ (o : Option ℕ). sent_to o new (filter_map output ds)) a.number
      ∙ (ap (λ (xs : List Deed). sent_to (Some n) new (filter_map output xs)) deeds_are ∙ down_first n new (packets_of.connack false quota_exceeded []) [])

  module _ (number : Numbering) (largest : ℕ) (copies : List Lot) (h : IsRun number largest copies r b) where
    abbrev w : Hop
    w = seen number copies r b

    abbrev q : Receiver
    q = reads_answer limits choice now n (connect clean) r b

    seen_after : seen number copies q new ≡ record w { up = []; down = w.down ++ no_connack ∷ [] }
    seen_after =
        let here : is_one_of r.line.number (filter_map closing ds) ≡ true =
        ap (λ (o : Option ℕ). is_one_of o (filter_map closing ds)) a.number ∙ (ap (λ (xs : List Deed). is_one_of (Some n) (filter_map closing xs)) deeds_are ∙ one_here n) in
        let ups : filter_map answered (unless_closed (is_one_of r.line.number (filter_map closing ds)) (drop 1 r.line.up)) ≡ [] = unless_true (is_one_of r.line.number (filter_map closing ds)) (drop 1 r.line.up) here in
        let downs : filter_map (heard_in number) (r.line.down ++ sent_to r.line.number new (filter_map output ds)) ≡ filter_map (heard_in number) r.line.down ++ no_connack ∷ [] =
        heard_append number r.line.down (sent_to r.line.number new (filter_map output ds))
        ∙ ap (λ (xs : List Down). filter_map (heard_in number) r.line.down ++ filter_map (heard_in number) xs) told_is in
        let olds : filter_map answered (unless_closed (is_one_of r.line.old_number (filter_map closing ds)) r.line.old) ≡ filter_map answered r.line.old =
        ap (λ (xs : List Deed). filter_map answered (unless_closed (is_one_of r.line.old_number (filter_map closing xs)) r.line.old)) deeds_are
        ∙ ap (λ (t : Bool). filter_map answered (unless_closed t r.line.old)) apart in
        let stands : is_some (session_named r.client new.records) ≡ is_some (session_named r.client b.records) = ap is_some named_none ∙ sym (ap is_some a.none) in
        let linked = linked_after ∙ sym linked_before in
        λ i. record w { stands = stands i; linked = linked i; up = ups i; down = downs i; old = olds i }
      where
        one_here : (m : ℕ) → is_one_of (Some m) (m ∷ []) ≡ true
        one_here m = rw (nat_eq_equiv.refl m) refl

    hop_refuses : run largest (to_broker true ∷ close ∷ []) w ≡ record w { up = []; down = w.down ++ no_connack ∷ [] }
    hop_refuses =
        let stands : w.stands ≡ false = ap is_some a.none in
        let one : step largest w (to_broker true) ≡ record w { up = filter_map answered rest; down = w.down ++ no_connack ∷ [] } =
        ap (λ (xs : List Answer). up_comes true xs w) (ap (filter_map answered) up) ∙ ap (λ (z : Bool). connects z clean true (filter_map answered rest) w) stands in
        let off : w.linked ≡ false = linked_before in
        ap (λ (x : Hop). step largest x close) one
        ∙ (λ i. record w { up = []; linked = sym off i; down = sent_on (off i) (w.down ++ no_connack ∷ []) (disconnect ∷ []) })

    refused_run : IsRun number largest copies q new
    refused_run = record {
      events = h.events ++ to_broker true ∷ close ∷ [];
      seen_is = seen_after ∙ (sym hop_refuses ∙ (ap (run largest (to_broker true ∷ close ∷ [])) h.seen_is ∙ sym (run_append largest h.events (to_broker true ∷ close ∷ []) start)));
      queue_is = subst (λ (o : Option Session). AreQueued copies o new) (sym named_none) (subst (λ (o : Option Session). AreQueued copies o b) a.none h.queue_is);
      numbered = h.numbered;
      tagged = record {
        down = all_join (IsTagged number (map id_of copies)) r.line.down (sent_to r.line.number new (filter_map output ds)) h.tagged.down
            (subst (AllByRecursion (IsTagged number (map id_of copies))) (sym told_is) (tt, tt));
        ledger = h.tagged.ledger;
        once = h.tagged.once;
      };
    }

-- a CONNECT that is refused leaves the receiver waiting
pub refused_awaiting : (largest : ℕ) (ids : List CopyId) (ns : List ℕ) (limits : Capacity) (choice : MemberChoice) (now : ℕ) (clean : Bool) (rest : List Back) (r : Receiver) (l : BrokerLine) (b : Broker)
    → IsAwaiting largest ids ns r b → IsBeginning limits r l b → is_one_of r.line.old_number (l.number ∷ []) ≡ false → nat_lt (length b.records.sessions) limits.sessions ≡ false
    → r.line.up ≡ answers (connect clean) ∷ rest
    → IsAwaiting largest ids ns (reads_answer limits choice now l.number (connect clean) r b) (after_answer limits choice now l.number (connect clean) r b)
refused_awaiting largest ids ns limits choice now clean rest r l b k a apart full up = record {
  runs = λ number numbered. let h = k.runs number numbered in record { after = h.after; same = h.same; run_is = refused_run limits choice now clean rest r l b a apart full up number largest h.after h.run_is };
  free = subst (AllByRecursion (IsFreeLine ns)) (sym (lines_are limits choice now clean rest r l b a apart full up)) (free_gone ns l.number (heard_of now l.number b).lines (free_heard ns (at_moment now b).now l.number b.lines k.free));
  given = subst (λ (g : ℕ). (n : ℕ) → is_one_of (Some n) ns ≡ true → n ≤ g) (sym (given_is limits choice now clean rest r l b a apart full up)) k.given;
  lines = record { own = k.lines.own; old = k.lines.old };
}
