-- Calls of others while a receiver awaits its session: no session of its name begins, and on its lines nobody is connected and
-- nothing of copies is told.
use Rattle.std.proofs.Common.{◌≡◌, ℕ, suc, ◌≤◌, ◌<◌, Bool, true, false, ◌⊎◌, List, [], ◌∷◌, ◌++◌, filter, map, Option, Some, None, bytes_eq, nat_eq, refl, sym, ap, subst, ◌∙◌, arith, inl, inr}
use Rattle.std.specs.Prelude.{⊤, find, is_some}
use Rattle.std.specs.List.{AllByRecursion, starts_with}
use Rattle.std.proofs.lemmas.Bool.{cases_Bool, eqb-true}
use Rattle.mqtt_base.specs.declared.session.CopyId.{CopyId}
use Rattle.mqtt_base.specs.declared.session.Ending.TheVariants.{SessionEnded}
use Rattle.mqtt_packet.specs.declared.connect.connect.Connect.{Connect as Greeting}
use Rattle.mqtt_flow.specs.outbound.OutboundWorld.{Lot}
use Rattle.mqtt_flow.specs.declared.outbound.entry.Turn.{Turn}
use Rattle.mqtt_flow.specs.declared.outbound.entry.Turn.TheVariants as turns
use Rattle.mqtt_world_model.specs.model.Ends.{Receiver}
use Rattle.mqtt_world_model.specs.model.Lines.{is_one_of}
use Rattle.mqtt_world_model.specs.model.Seen.{is_linked}
use Rattle.mqtt_world_model.specs.model.World.{receiver_told}
use Rattle.mqtt_world_model.proofs.model_lemmas.others.Lists.{all_find}
use Rattle.mqtt_world_model.proofs.model_lemmas.others.Nameless.{IsOfOthers, still_none, strangers_call}
use Rattle.mqtt_world_model.proofs.model_lemmas.others.Quiet.{session_on}
use Rattle.mqtt_world_model.proofs.model_lemmas.seats.Seeing.{done_lines, done_sessions, linked_is, linked_of}
use Rattle.mqtt_records.specs.messages.Queue.{CopyRow}
use Rattle.mqtt_records.specs.declared.messages.message.RetainedMessage.{RetainedMessage}
use Rattle.mqtt_records.specs.state.Session.{auto, copy_place}
use Rattle.mqtt_records.specs.declared.state.records.Records.{Records}
use Rattle.mqtt_records.specs.declared.state.session.Session.{Session}
use Rattle.mqtt_records.specs.lists.Order.{row_at}
use Rattle.mqtt_rules.proofs.step_lemmas.acts.Acts.{About as Whom, IsCallOf, Law, brought_to, closing, closing_on, closing_session, leads_call}
use Rattle.mqtt_rules.proofs.step_lemmas.acts.OnLines.{found_number}
use Rattle.mqtt_rules.proofs.step_lemmas.numbers.Copies.{each_append, each_flat}
use Rattle.mqtt_rules.proofs.step_lemmas.acts.Goods.{AreGood}
use Rattle.mqtt_rules.proofs.step_lemmas.acts.Leads.{Leads}
use Rattle.mqtt_rules.proofs.step_lemmas.lines.LineRows.{numbered}
use Rattle.mqtt_rules.specs.step.Closing.{end_session}
use Rattle.mqtt_rules.specs.step.Connect.{begin_named, expiry_of, greet, will_of}
use Rattle.mqtt_rules.specs.step.Deeds.{At, Count, Deed, Finish, Forget, FromClient, Gone, Hear, Leave, LinePart, Link, Message, On, Open, Origin, Part, RefuseWill, Resume, Send, SetAlias, after, after_all, always, fresh_line, given_after, line_after, lines_after, lines_at, on_line, rows_of_all, series, whose, with_session, without_place}
use Rattle.mqtt_rules.specs.step.Deeds as deeds_of_all
use Rattle.mqtt_rules.specs.step.Fitting.{has_form, pump_turns}
use Rattle.mqtt_rules.specs.step.Inbound.{pump_deeds}
use Rattle.mqtt_rules.specs.step.Outbound.{enter_deeds, leave_deeds, of_entry, turn_deeds}
use Rattle.mqtt_rules.proofs.step_lemmas.acts.Offers.{of_offer_if}
use Rattle.mqtt_rules.specs.step.Packets.{publish_of}
use Rattle.mqtt_rules.specs.step.Routing.{CopyTo, deliver, deliver_by, forgets, is_queued, next_publication, publish, retain_by, retained_of}
use Rattle.mqtt_rules.specs.step.State.{Line as BrokerLine, Broker, Env, MemberChoice, is_of, line_of, session_at, session_named}
use Rattle.mqtt_rules.specs.step.Step.{Call, NewLine, Input, BadInput, Lost, Pump, Tick, at_moment, deeds, done, env_of, outcome_of, stepped}
use Rattle.mqtt_rules.specs.step.Subscribe as sub
use Rattle.mqtt_rules.specs.step.Tick.{lapse_deeds, lapses}
use Rattle.mqtt_rules.specs.declared.step.Capacity.{Capacity}
use Rattle.mqtt_topic.specs.names.Names.{is_empty}
use Rattle.mqtt_world_laws.specs.receiver.Calls.{receiver_called}
use Rattle.mqtt_world_laws.specs.receiver.Handing.{IsRun}
use Rattle.mqtt_world_laws.specs.receiver.Own.{IsAwaiting, IsFreeLine}
use Rattle.mqtt_world_laws.specs.receiver.Seen.{AreQueued, Numbering, seen}
use Rattle.mqtt_world_laws.specs.receiver.Served.{IsCallOfOthers, IsOverdue}
use Rattle.mqtt_world_laws.proofs.receiver_lemmas.others.CallsOfOthers.{told_run}
use Rattle.mqtt_world_laws.proofs.receiver_lemmas.others.Carried.{carried_run}
use Rattle.mqtt_world_laws.proofs.receiver_lemmas.others.LateConnect.{closing_runs, late_deeds, shut}
use Rattle.mqtt_world_laws.proofs.receiver_lemmas.connects.OwnRefusals.{free_gone, moment_given}
use Rattle.mqtt_world_laws.proofs.receiver_lemmas.others.Serving.{AreOfQueue}
use Rattle.mqtt_world_laws.proofs.receiver_lemmas.others.Walk.{IsMute, IsMuteHere, IsUnheard, queue_enter, queue_leave, unheard_of}

-- ---- deeds on other lines than these: they tell nothing of copies there, and connect nobody

module _ (ns : List ℕ) where
  abbrev IsOutside : ℕ → Type 0
  IsOutside m = is_one_of (Some m) ns ≡ false

  abbrev pub IsApart : Deed → Type 0
  IsApart (Send m packet) = IsOutside m ⊎ IsUnheard packet
  IsApart (Gone m) = IsOutside m
  IsApart (On m part) = IsOutside m
  IsApart (Link m) = (n : ℕ) → is_one_of (Some n) ns ≡ true → n < m
  IsApart d = ⊤

  abbrev Apart : List Deed → Type 0
  Apart ds = AllByRecursion IsApart ds

  abbrev pub IsApartHere : Deed → Broker → Type 0
  IsApartHere d b = IsApart d

  -- ---- nobody is connected on these lines

  abbrev Free : List BrokerLine → Type 0
  Free ls = AllByRecursion (IsFreeLine ns) ls

  -- nobody is connected on the receiver's lines, and their numbers were given
  pub record IsFree (b : Broker) : Type 0 where
    pub free : AllByRecursion (IsFreeLine ns) b.lines
    pub given : (n : ℕ) → is_one_of (Some n) ns ≡ true → n ≤ b.given

  free_on : (now m : ℕ) (part : LinePart) (ls : List BrokerLine) → IsOutside m → Free ls → Free (on_line now m part ls)
  free_on now m part [] out h = tt
  free_on now m part (l ∷ ls) out h = elim (cases_Bool (nat_eq l.number m)) [
    | inl here ↦ rw here (another here, h.1)
    | inr further ↦ rw further (h.0, free_on now m part ls out h.1)
  ]
    where
      another : nat_eq l.number m ≡ true → IsFreeLine ns (line_after now part l)
      another here inside =
          let is : (line_after now part l).number ≡ m = numbered now part l ∙ eqb-true l.number m here in
          let clash : true ≡ false = sym inside ∙ (ap (λ (k : ℕ). is_one_of (Some k) ns) is ∙ out) in
          absurd cc

  free_link : (m now : ℕ) (ls : List BrokerLine) → Free ls → Free (ls ++ fresh_line m now ∷ [])
  free_link m now [] h = ((λ inside. refl), tt)
  free_link m now (l ∷ ls) h = (h.0, free_link m now ls h.1)

  free_place : (k place : ℕ) (ls : List BrokerLine) → Free ls → Free (map (without_place k place) ls)
  free_place k place [] h = tt
  free_place k place (l ∷ ls) h = elim (cases_Bool (is_of l.session k)) [
    | inl its ↦ rw its (h.0, free_place k place ls h.1)
    | inr other ↦ rw other (h.0, free_place k place ls h.1)
  ]

  free_at : (k : ℕ) (part : Part) (ls : List BrokerLine) → Free ls → Free (lines_at k part ls)
  free_at k (Leave e ending) ls h = free_place k e.place ls h
  free_at k part ls h = h

  free_lines : (now : ℕ) (d : Deed) (ls : List BrokerLine) → IsApart d → Free ls → Free (lines_after now d ls)
  free_lines now (Link m) ls q h = free_link m now ls h
  free_lines now (On m part) ls q h = free_on now m part ls q h
  free_lines now (Gone m) ls q h = free_gone ns m ls h
  free_lines now (At who part) ls q h = free_at who.birth part ls h
  free_lines now d ls q h = h

  free_given : (d : Deed) (given : ℕ) → IsApart d → ((n : ℕ) → is_one_of (Some n) ns ≡ true → n ≤ given) → (n : ℕ) → is_one_of (Some n) ns ≡ true → n ≤ given_after d given
  free_given (Link m) given q h = λ n inside. let less = q n inside in omega (arith, less)
  free_given d given q h = h

  -- deeds apart from the receiver's lines leave them free
  pub free_deeds : (ds : List Deed) (b : Broker) → Apart ds → IsFree b → IsFree (after_all ds b)
  free_deeds [] b q h = h
  free_deeds (d ∷ ds) b q h = free_deeds ds (after d b) q.1 (record { free = free_lines b.now d b.lines q.0 h.free; given = free_given d b.given q.0 h.given })

  -- ---- units of deeds

  apart_queue : (ds : List Deed) → AreOfQueue ds → Apart ds
  apart_queue [] q = tt
  apart_queue (At who part ∷ ds) q = (tt, apart_queue ds q.1)
  apart_queue (d ∷ ds) q = absurd q.0

  apart_entry : (o : Option CopyRow) (f : CopyRow → List Deed) → ((e : CopyRow) → Apart (f e)) → Apart (of_entry o f)
  apart_entry None f h = tt
  apart_entry (Some e) f h = h e

  apart_turn : (now line : ℕ) (s : Session) (t : Turn) → IsOutside line → Apart (turn_deeds now line s t)
  apart_turn now line s (turns.Send place id) out = apart_entry (row_at copy_place place s.queue) _ (λ e. (tt, (out, (inl out, tt))))
  apart_turn now line s (turns.Resend place id) out = apart_entry (row_at copy_place place s.queue) _ (λ e. (out, (inl out, tt)))
  apart_turn now line s (turns.Release place id order) out = (tt, (inl out, tt))
  apart_turn now line s (turns.Outgrow place id order) out = (tt, (inl out, tt))
  apart_turn now line s (turns.Repeat id) out = (inl out, tt)
  apart_turn now line s (turns.Unknown id) out = (inl out, tt)
  apart_turn now line s (turns.Leave place ending) out = apart_queue (leave_deeds s (turns.Leave place ending)) (queue_leave s (turns.Leave place ending))

  apart_closed : (keeps_will : Bool) (now : ℕ) (o : Option Session) → Apart (closing_session keeps_will now o)
  apart_closed keeps_will now None = tt
  apart_closed true now (Some s) = (tt, tt)
  apart_closed false now (Some s) = (tt, (tt, tt))

  apart_closing : (keeps_will : Bool) (now : ℕ) (session : Option ℕ) (r : Records) → Apart (closing_on keeps_will now session r)
  apart_closing keeps_will now None r = tt
  apart_closing keeps_will now (Some birth) r = apart_closed keeps_will now (session_at birth r)

  apart_leaves : (s : Session) (es : List CopyRow) → Apart (map (λ (e : CopyRow). At (whose s) (Leave e SessionEnded)) es)
  apart_leaves s [] = tt
  apart_leaves s (e ∷ es) = (tt, apart_leaves s es)

  apart_begin : (t : Bool) (l : BrokerLine) (c : Greeting) (r : Records) → IsOutside l.number → Apart (begin_named t l c r)
  apart_begin false l c r out = (tt, (out, (inl out, tt)))
  apart_begin true l c r out = (tt, (tt, (out, (inl out, tt))))

  apart_deliver : (env : Env) (t : Bool) (d : CopyTo) (b : Broker) → is_queued d ≡ t → Apart (deliver_by t env d b)
  apart_deliver env true d b queued = by (session_at d.birth b.records)
    where
      by : (o : Option Session) → Apart (with_session o (λ s. always (enter_deeds env d.copy s)) b)
      by None = tt
      by (Some s) = apart_queue (enter_deeds env d.copy s) (queue_enter env d.copy s)
  apart_deliver env false d b plain = of_offer_if Apart (has_form d.copy b) (line_of d.birth b) (publish_of b.now false 0 d.copy) tt (λ l there. (inr (unheard_of d.copy.qos plain), tt))

  apart_deliveries : (env : Env) (ds : List CopyTo) (b : Broker) → Apart (series (map (deliver env) ds) b)
  apart_deliveries env [] b = tt
  apart_deliveries env (d ∷ ds) b =
      let first = deliver env d b in
      each_append IsApart first (series (map (deliver env) ds) (after_all first b)) (apart_deliver env (is_queued d) d b refl) (apart_deliveries env ds (after_all first b))

  apart_forgets : (o : Option RetainedMessage) → Apart (forgets o)
  apart_forgets None = tt
  apart_forgets (Some x) = (tt, tt)

  apart_retain : (t e : Bool) (n : ℕ) (m : Message) (b : Broker) → Apart (retain_by t e n m b)
  apart_retain false e n m b = tt
  apart_retain true true n m b = apart_forgets (retained_of m.topic b.records)
  apart_retain true false n m b = (tt, tt)

  apart_publish : (env : Env) (origin : Origin) (m : Message) (ds : List CopyTo) (b : Broker) → Apart (publish env origin m ds b)
  apart_publish env origin m ds b =
      let n = next_publication b.records in
      let c = after (deeds_of_all.Accept n origin m) b in
      let kept = retain_by m.retain (is_empty m.payload) n m c in
      (tt, each_append IsApart kept (series (map (deliver env) ds) (after_all kept c)) (apart_retain m.retain (is_empty m.payload) n m c) (apart_deliveries env ds (after_all kept c)))

  apart_grants : (env : Env) (w : sub.Wish) (s : Session) (b : Broker) → Apart (sub.granted_filter env (sub.next_number b.records) s w (brought_to w s b) b).deeds
  apart_grants env w s b =
      let number = sub.next_number b.records in
      let queued = filter is_queued (brought_to w s b) in
      let first : List Deed = Count number ∷ At (whose s) (deeds_of_all.Subscribe (sub.subscription number s w)) ∷ [] in
      each_append IsApart first (series (map (deliver env) queued) (after_all first b)) (tt, (tt, tt)) (apart_deliveries env queued (after_all first b))

  -- ---- the law of the induction over acts: all lines but these

  abbrev pub others : Whom
  others = record {
    line = λ l. IsOutside l.number;
    number = λ m. IsOutside m;
    session = λ k. ⊤;
    client = λ its b. ⊤;
    packet = λ packet. ⊤;
    message = λ m. ⊤;
  }

  good_of : (ds : List Deed) (b : Broker) → Apart ds → AreGood IsApartHere ds b
  good_of [] b q = tt
  good_of (d ∷ ds) b q = (q.0, good_of ds (after d b) q.1)

  led : (ds : List Deed) (b : Broker) → IsFree b → Apart ds → Leads IsFree IsApartHere ds b
  led ds b h q = (good_of ds b q, free_deeds ds b q h)

  -- a line with a session is another one
  connected_elsewhere : (k : ℕ) (l : BrokerLine) (b : Broker) → IsFree b → line_of k b ≡ Some l → IsOutside l.number
  connected_elsewhere k l b h e =
      let both = all_find (IsFreeLine ns) (λ (x : BrokerLine). is_of x.session k) l b.lines h.free e in
      elim (cases_Bool (is_one_of (Some l.number) ns)) [
        | inl inside ↦
            let none : l.session ≡ None = both.0 inside in
            let no : is_of None k ≡ true = ap (λ (o : Option ℕ). is_of o k) (sym none) ∙ both.1 in
            absurd cc
        | inr outside ↦ outside
      ]

  -- that each deed of others is apart from them is a law of the one induction
  pub apart_law : (env : Env) → Law env others IsFree IsApartHere
  apart_law env = record {
    finds = record {
      its_number = λ l its. its;
      its_session = λ l k its e. tt;
      its_line = λ k l b h its e. connected_elsewhere k l b h e;
      named = λ its s b h q e. tt;
      admitted = λ c b h came e. tt;
      sent = λ l s p topic b h its came e. tt;
      willed = λ s w b h among e. tt;
    };
    client_stays = λ its ds b h leads q. q;
    publishes = λ origin m ds b h said e. led (publish env origin m ds b) b h (apart_publish env origin m ds b);
    open_id = λ s id m ds b k h its there new is. led (At (whose s) (Open id) ∷ []) (after_all (publish env FromClient m ds b) b) h (tt, tt);
    refuse_will = λ who b h its. led (RefuseWill who ∷ []) b h (tt, tt);
    alone = λ who part b h its is. led (At who part ∷ []) b h (tt, tt);
    closes = λ keeps_will l b h its on. led (closing keeps_will l b) b h (its, apart_closing keeps_will b.now l.session b.records);
    ends = λ s b h its among may. led (end_session s) b h (each_append IsApart (map (λ (e : CopyRow). At (whose s) (Leave e SessionEnded)) s.queue) (Finish (whose s) ∷ []) (apart_leaves s s.queue) (tt, tt));
    resumes = λ l c s b h its none came taken own is prepared. led (At (whose s) (Resume (expiry_of c) (will_of c)) ∷ greet l c s.birth ∷ []) b h (tt, (its, tt));
    begins = λ l c b h its none came taken name is room prepared. led (begin_named (is_empty c.client_identifier) l c b.records) b h (apart_begin (is_empty c.client_identifier) l c b.records its);
    grants = λ w s b h its asked granted. led (sub.granted_filter env (sub.next_number b.records) s w (brought_to w s b) b).deeds b h (apart_grants env w s b);
    pumps = λ l s b h its is there. led (pump_deeds l b s) b h (each_flat IsApart (turn_deeds b.now l.number s) (λ t. apart_turn b.now l.number s t its) (pump_turns l b s));
    turns = λ a t l s b h its own there is e. led (turn_deeds b.now l.number s t) b h (apart_turn b.now l.number s t its);
    lapses = λ s b h among. led (lapse_deeds b.now s) b h (each_flat IsApart (leave_deeds s) (λ t. apart_queue (leave_deeds s t) (queue_leave s t)) (lapses b.now s));
    stale = λ x b h among. led (Forget x.place ∷ []) b h (tt, tt);
    links = λ b h can. led (Link (suc b.given) ∷ []) b h ((λ n inside. let le = h.given n inside in omega (arith, le)), tt);
    hears = λ m b h its. led (On m Hear ∷ []) b h (its, tt);
    sets = λ m alias topic b h its said. led (On m (SetAlias alias topic) ∷ []) b h (its, tt);
    sends = λ m packet b h its. led (Send m packet ∷ []) b h (inl its, tt);
  }

  mute_deed : (d : Deed) → IsApart d → IsMute ns d
  mute_deed (Send m packet) q = q
  mute_deed (Gone m) q = q
  mute_deed d q = tt

  mute_deeds : (ds : List Deed) (b : Broker) → AreGood IsApartHere ds b → AreGood (IsMuteHere ns) ds b
  mute_deeds [] b q = tt
  mute_deeds (d ∷ ds) b q = (mute_deed d q.0, mute_deeds ds (after d b) q.1)

  -- a line that is found by another number is another
  pub outside_at : (m : ℕ) (l : BrokerLine) (b : Broker) → IsOutside m → find (λ (x : BrokerLine). nat_eq x.number m) b.lines ≡ Some l → IsOutside l.number
  outside_at m l b out e = ap (λ (k : ℕ). is_one_of (Some k) ns) (found_number m l b.lines e) ∙ out

  call_of : (client : List ℕ) (call : Call) (b : Broker) → IsCallOfOthers client ns call b → IsCallOf others call b
  call_of client NewLine b q = tt
  call_of client (Input n packet) b q = ((λ l e. outside_at n l b q.0 e), tt)
  call_of client (BadInput n is_connect code) b q = λ l e. outside_at n l b q e
  call_of client (Lost n) b q = λ l e. outside_at n l b q e
  call_of client (Pump n) b q = λ l e. outside_at n l b q e
  call_of client Tick b q = record { silent = λ l e. q l e; wills = λ s e. tt; ends = λ s e. tt }

  of_another : (client : List ℕ) (call : Call) (b : Broker) → IsCallOfOthers client ns call b → IsOfOthers client call
  of_another client (Input n packet) b q = q.1
  of_another client call b q = tt

  -- ---- what is seen

  unlinked : (m : ℕ) (ls : List BrokerLine) → is_one_of (Some m) ns ≡ true → Free ls → linked_of (session_on m ls) ≡ false
  unlinked m [] inside h = refl
  unlinked m (l ∷ ls) inside h = elim (cases_Bool (nat_eq l.number m)) [
    | inl here ↦ rw here (ap is_some (h.0 (ap (λ (k : ℕ). is_one_of (Some k) ns) (eqb-true l.number m here) ∙ inside)))
    | inr further ↦ rw further (unlinked m ls inside h.1)
  ]

  -- a free line of its own is not one on which a session is connected
  pub free_unlinked : (o : Option ℕ) (b : Broker) → ((m : ℕ) → o ≡ Some m → is_one_of (Some m) ns ≡ true) → Free b.lines → is_linked o b ≡ false
  free_unlinked None b inside h = refl
  free_unlinked (Some m) b inside h = linked_is m b ∙ unlinked m b.lines (inside m refl) h

-- no session of its name stands, and nobody is on its line, before and after
unnamed_run : (number : Numbering) (largest : ℕ) (copies : List Lot) (r : Receiver) (b c : Broker) → session_named r.client b.records ≡ None → session_named r.client c.records ≡ None
    → is_linked r.line.number c ≡ is_linked r.line.number b → IsRun number largest copies r b → IsRun number largest copies r c
unnamed_run number largest copies r b c before last linked h =
    let stands : is_some (session_named r.client c.records) ≡ is_some (session_named r.client b.records) = ap is_some last ∙ sym (ap is_some before) in
    let same : seen number copies r c ≡ seen number copies r b = λ i. record (seen number copies r b) { stands = stands i; linked = linked i } in
    record {
      events = h.events;
      seen_is = same ∙ h.seen_is;
      queue_is = subst (λ (o : Option Session). AreQueued copies o c) (sym last) (subst (λ (o : Option Session). AreQueued copies o b) before h.queue_is);
      numbered = h.numbered;
      tagged = h.tagged;
    }

-- ---- the call

-- a call of another's leaves it waiting
pub others_awaiting : (largest : ℕ) (ids : List CopyId) (limits : Capacity) (choice : MemberChoice) (now : ℕ) (call : Call) (ns : List ℕ) (r : Receiver) (b : Broker)
    → IsAwaiting largest ids ns r b → session_named r.client b.records ≡ None → starts_with nat_eq r.client auto ≡ false → IsCallOfOthers r.client ns call (at_moment now b)
    → IsAwaiting largest ids ns (receiver_called limits choice now call r b) (stepped limits choice now call b) × (session_named r.client (stepped limits choice now call b).records ≡ None)
others_awaiting largest ids limits choice now call ns r b k none plain its =
    let env = env_of limits choice b in
    let first = at_moment now b in
    let ds = deeds limits choice now call b in
    let new = stepped limits choice now call b in
    let rows = rows_of_all ds first.records in
    let last = after_all ds first in
    let begins : IsFree ns first = record { free = k.free; given = k.given } in
    let walk = leads_call env (others ns) (IsFree ns) (IsApartHere ns) (apart_law ns env) call first begins (call_of ns r.client call first its) in
    let free : AllByRecursion (IsFreeLine ns) new.lines = subst (AllByRecursion (IsFreeLine ns)) (sym (done_lines rows last)) walk.1.free in
    let unnamed : session_named r.client new.records ≡ None =
    ap (λ (ss : List Session). find (λ (x : Session). bytes_eq x.client r.client) ss) (done_sessions rows last)
    ∙ still_none r.client ds first (strangers_call r.client env call first plain (of_another ns r.client call first its)) none in
    let linked : is_linked r.line.number new ≡ is_linked r.line.number b = free_unlinked ns r.line.number new k.lines.own free ∙ sym (free_unlinked ns r.line.number b k.lines.own k.free) in (
      record {
        runs = λ number n.
            let h = k.runs number n in
            record {
              after = h.after;
              same = h.same;
              run_is = told_run number largest h.after ns r call ds first new k.lines (mute_deeds ns ds first walk.0) (unnamed_run number largest h.after r b new none unnamed linked h.run_is);
            };
        free = free;
        given = subst (λ (g : ℕ). (n : ℕ) → is_one_of (Some n) ns ≡ true → n ≤ g) (sym (moment_given rows last)) walk.1.given;
        lines = record { own = k.lines.own; old = k.lines.old };
      },
      unnamed,
    )

-- ---- a tick closes a line on which CONNECT didn't come in time

-- so does a line that closes before its CONNECT
pub late_awaiting : (largest : ℕ) (ids : List CopyId) (limits : Capacity) (choice : MemberChoice) (now : ℕ) (ns : List ℕ) (n : ℕ) (r : Receiver) (b : Broker)
    → IsAwaiting largest ids ns r b → session_named r.client b.records ≡ None → IsOverdue n (at_moment now b)
    → IsAwaiting largest ids ns (receiver_called limits choice now Tick r b) (stepped limits choice now Tick b) × (session_named r.client (stepped limits choice now Tick b).records ≡ None)
late_awaiting largest ids limits choice now ns n r b k none late =
    let first = at_moment now b in
    let free : AllByRecursion (IsFreeLine ns) (after (Gone n) first).lines = free_gone ns n first.lines k.free in
    let awaits : IsAwaiting largest ids ns (shut n r first) (after (Gone n) first) = record {
      runs = λ number numbers.
          let h = k.runs number numbers in
          record {
            after = h.after;
            same = h.same;
            run_is = closing_runs number largest h.after n r first late.idle (carried_run number largest h.after r b first refl refl h.run_is);
          };
      free = free;
      given = k.given;
      lines = record { own = k.lines.own; old = k.lines.old };
    } in
    let both : IsAwaiting largest ids ns (shut n r first) (after (Gone n) first) × (session_named r.client (after (Gone n) first).records ≡ None) = (awaits, none) in
    subst (λ (ds : List Deed). IsAwaiting largest ids ns (receiver_told (done ds first) (outcome_of Tick ds first) r) (done ds first) × (session_named r.client (done ds first).records ≡ None))
    (sym (late_deeds (env_of limits choice b) n late.line first late.idle late.silent late.number)) both
