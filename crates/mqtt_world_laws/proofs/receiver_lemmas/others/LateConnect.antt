-- A tick closes a line on which CONNECT didn't come in time: if it is the receiver's, that is an event of its hop, or two.
use Rattle.std.proofs.Common.{◌≡◌, ℕ, Bool, true, false, cond, not, List, [], ◌∷◌, ◌++◌, filter, map, Option, Some, None, nat_eq, refl, sym, ap, subst, ◌∙◌, append-nil, inl, inr}
use Rattle.std.specs.List.{AllByRecursion}
use Rattle.std.specs.Prelude.{filter_map, find, is_some, option_map}
use Rattle.std.proofs.lemmas.Bool.{cases_Bool, eqb-true}
use Rattle.mqtt_base.specs.declared.session.CopyId.{CopyId}
use Rattle.mqtt_flow.specs.outbound.OutboundWorld.{Lot, World as Hop, Event as HopEvent, close, close_old, run, start}
use Rattle.mqtt_flow.specs.outbound.Receiver.{disconnect}
use Rattle.mqtt_flow.specs.inbound.Line.{sent_on}
use Rattle.mqtt_world_model.specs.model.Ends.{Back, Receiver}
use Rattle.mqtt_world_model.specs.model.Lines.{Down, is_one_of, sent_to, unless_closed}
use Rattle.mqtt_world_model.specs.model.Seats.{HasNobody, IsIdle}
use Rattle.mqtt_world_model.specs.model.Seen.{is_linked}
use Rattle.mqtt_world_model.specs.model.World.{receiver_told}
use Rattle.mqtt_world_model.proofs.model_lemmas.others.Lists.{all_find}
use Rattle.mqtt_world_model.proofs.model_lemmas.others.Quiet.{line_gone, session_on}
use Rattle.mqtt_world_model.proofs.model_lemmas.seats.Seeing.{linked_is, linked_of}
use Rattle.mqtt_records.specs.declared.state.session.Session.{Session}
use Rattle.mqtt_rules.proofs.step_lemmas.numbers.Copies.{each_append}
use Rattle.mqtt_rules.specs.step.Closing.{close_connected, end_session, has_due_end, has_due_will, publish_will}
use Rattle.mqtt_rules.specs.step.Deeds.{Deed, Forget, Gone, after, always}
use Rattle.mqtt_rules.specs.step.State.{Line as BrokerLine, Broker, Env, MemberChoice, is_of, session_named}
use Rattle.mqtt_rules.specs.step.Step.{Tick, at_moment, deeds_of, done, env_of, outcome_of, stepped}
use Rattle.mqtt_rules.specs.step.Tick.{first_due, has_lapsed, is_silent, is_stale, lapse_deeds, on_tick, silence}
use Rattle.mqtt_rules.specs.declared.step.Capacity.{Capacity}
use Rattle.mqtt_world_laws.specs.receiver.Calls.{receiver_called}
use Rattle.mqtt_world_laws.specs.receiver.Entering.{AreKnown, IsReceiving}
use Rattle.mqtt_world_laws.specs.receiver.Handing.{IsRun}
use Rattle.mqtt_world_laws.specs.receiver.Seen.{AreQueued, Numbering, StandOn, answered, heard_in, seen}
use Rattle.mqtt_world_laws.specs.receiver.Served.{IsOverdue, IsServed, RunsFor}
use Rattle.mqtt_world_laws.specs.receiver.Tags.{IsTagged, id_of}
use Rattle.mqtt_world_laws.proofs.receiver_lemmas.own.Answering.{its_went}
use Rattle.mqtt_world_laws.proofs.receiver_lemmas.others.CallsOfOthers.{first_runs}
use Rattle.mqtt_world_laws.proofs.receiver_lemmas.connects.Refusals.{run_append}
use Rattle.mqtt_world_laws.proofs.receiver_lemmas.others.Serving.{gone_own}

-- ---- the deeds of the tick

-- the clock closes a line on which no CONNECT came in time
pub late_deeds : (env : Env) (n : ℕ) (l : BrokerLine) (b : Broker) → IsIdle n b → find (λ (x : BrokerLine). is_silent b.now x.session x) b.lines ≡ Some l → l.number ≡ n → deeds_of env Tick b ≡ Gone n ∷ []
late_deeds env n l b idle e is =
    let both = all_find (HasNobody n) (λ (y : BrokerLine). is_silent b.now y.session y) l b.lines idle.lines e in
    let none : l.session ≡ None = both.0 is in
    ap (λ (o : Option BrokerLine). on_tick (first_due (
    option_map (λ x. silence env x.session x) o
    ∷ option_map (publish_will env) (find (has_due_will b.now) b.records.sessions)
    ∷ option_map (λ s. always (end_session s)) (find (has_due_end b.now) b.records.sessions)
    ∷ option_map (λ k. always (Forget k.place ∷ [])) (find (is_stale b.now) b.records.retained)
    ∷ option_map (λ s. always (lapse_deeds b.now s)) (find (has_lapsed b.now) b.records.sessions)
    ∷ [])) b) e
    ∙ (ap (λ (o : Option ℕ). silence env o l b) none
    ∙ (ap (λ (o : Option ℕ). Gone l.number ∷ (close_connected env true o (after (Gone l.number) b) ++ [])) none ∙ ap (λ (k : ℕ). Gone k ∷ []) is))

-- ---- the lines that are left

gone_went : (birth n : ℕ) (ls : List BrokerLine) → AllByRecursion (HasNobody n) ls → its_went birth (filter (λ (l : BrokerLine). not (nat_eq l.number n)) ls) ≡ its_went birth ls
gone_went birth n [] h = refl
gone_went birth n (l ∷ ls) h = elim (cases_Bool (nat_eq l.number n)) [
  | inl goes ↦
      let off : is_of l.session birth ≡ false = ap (λ (o : Option ℕ). is_of o birth) (h.0 (eqb-true l.number n goes)) in
      rw (goes, off) (gone_went birth n ls h.1)
  | inr stays ↦ rw stays (elim (cases_Bool (is_of l.session birth)) [ inl its ↦ rw its refl | inr other ↦ rw other (gone_went birth n ls h.1) ])
]

-- nobody is connected on it, before and after
nobody_before : (n : ℕ) (ls : List BrokerLine) → AllByRecursion (HasNobody n) ls → linked_of (session_on n ls) ≡ false
nobody_before n [] h = refl
nobody_before n (l ∷ ls) h = elim (cases_Bool (nat_eq l.number n)) [
  | inl here ↦ rw here (ap is_some (h.0 (eqb-true l.number n here)))
  | inr further ↦ rw further (nobody_before n ls h.1)
]

nobody_after : (n : ℕ) (ls : List BrokerLine) → linked_of (session_on n (filter (λ (l : BrokerLine). not (nat_eq l.number n)) ls)) ≡ false
nobody_after n [] = refl
nobody_after n (l ∷ ls) = elim (cases_Bool (nat_eq l.number n)) [
  | inl goes ↦ rw goes (nobody_after n ls)
  | inr stays ↦ rw stays (rw stays (nobody_after n ls))
]

record IsGone (n : ℕ) (o : Option ℕ) (b : Broker) : Type 0 where
  pub linked : is_linked o (after (Gone n) b) ≡ is_linked o b
  pub unlinked : is_one_of o (n ∷ []) ≡ true → is_linked o b ≡ false

gone_on : (n : ℕ) (o : Option ℕ) (b : Broker) → IsIdle n b → IsGone n o b
gone_on n None b idle = record { linked = refl; unlinked = λ e. refl }
gone_on n (Some m) b idle = elim (cases_Bool (nat_eq n m)) [
  | inl same ↦
      let is : n ≡ m = eqb-true n m same in
      let first : is_linked (Some m) b ≡ false = linked_is m b ∙ subst (λ (k : ℕ). linked_of (session_on k b.lines) ≡ false) is (nobody_before n b.lines idle.lines) in
      let last : is_linked (Some m) (after (Gone n) b) ≡ false = linked_is m (after (Gone n) b) ∙ subst (λ (k : ℕ). linked_of (session_on k (after (Gone n) b).lines) ≡ false) is (nobody_after n b.lines) in
      record { linked = last ∙ sym first; unlinked = λ e. first }
  | inr other ↦ record {
    linked = linked_is m (after (Gone n) b) ∙ (ap linked_of (line_gone m n b.lines other) ∙ sym (linked_is m b));
    unlinked = λ e. let not_one : is_one_of (Some m) (n ∷ []) ≡ false = rw other refl in let clash : true ≡ false = sym e ∙ not_one in absurd cc;
  }
]

-- ---- the events

abbrev pub closes : Bool → Bool → List HopEvent
closes t u = cond t (close ∷ []) [] ++ cond u (close_old ∷ []) []

-- lines that close drop what is under way there
pub closes_are : (largest : ℕ) (t u : Bool) (w : Hop) → (t ≡ true → w.linked ≡ false) → run largest (closes t u) w ≡ record w { up = cond t [] w.up; old = cond u [] w.old }
closes_are largest true true w h = λ i. record w { up = []; old = []; linked = sym (h refl) i; down = sent_on (h refl i) w.down (disconnect ∷ []) }
closes_are largest true false w h = λ i. record w { up = []; linked = sym (h refl) i; down = sent_on (h refl i) w.down (disconnect ∷ []) }
closes_are largest false true w h = refl
closes_are largest false false w h = refl

-- a closed line has nothing under way
pub unless_is : (t : Bool) (packets : List Back) → filter_map answered (unless_closed t packets) ≡ cond t [] (filter_map answered packets)
unless_is true packets = refl
unless_is false packets = refl

sent_none : (o : Option ℕ) (b : Broker) → sent_to o b [] ≡ []
sent_none None b = refl
sent_none (Some m) b = refl

-- ---- what is seen of it

abbrev pub shut : ℕ → Receiver → Broker → Receiver
shut n r b = receiver_told (after (Gone n) b) (outcome_of Tick (Gone n ∷ []) b) r

-- such a close goes on with the hop
pub closing_runs : (number : Numbering) (largest : ℕ) (copies : List Lot) (n : ℕ) (r : Receiver) (b : Broker) → IsIdle n b → IsRun number largest copies r b → IsRun number largest copies (shut n r b) (after (Gone n) b)
closing_runs number largest copies n r b idle h =
    let new = after (Gone n) b in
    let w = seen number copies r b in
    let own = gone_on n r.line.number b idle in
    let t = is_one_of r.line.number (n ∷ []) in
    let u = is_one_of r.line.old_number (n ∷ []) in
    let none = sent_none r.line.number new in
    let downs : filter_map (heard_in number) (r.line.down ++ sent_to r.line.number new []) ≡ filter_map (heard_in number) r.line.down =
    ap (λ (xs : List Down). filter_map (heard_in number) (r.line.down ++ xs)) none ∙ ap (filter_map (heard_in number)) (append-nil r.line.down) in
    let ups = unless_is t r.line.up in
    let olds = unless_is u r.line.old in
    let linked = own.linked in
    let same : seen number copies (shut n r b) new ≡ record w { up = cond t [] w.up; old = cond u [] w.old } = λ i. record w { up = ups i; old = olds i; down = downs i; linked = linked i } in
    record {
      events = h.events ++ closes t u;
      seen_is = same ∙ (sym (closes_are largest t u w own.unlinked) ∙ (ap (run largest (closes t u)) h.seen_is ∙ sym (run_append largest h.events (closes t u) start)));
      queue_is = queued (session_named r.client b.records) h.queue_is;
      numbered = h.numbered;
      tagged = record {
        down = each_append (IsTagged number (map id_of copies)) r.line.down (sent_to r.line.number new []) h.tagged.down (subst (λ (xs : List Down). AllByRecursion (IsTagged number (map id_of copies)) xs) (sym none) tt);
        ledger = h.tagged.ledger;
        once = h.tagged.once;
      };
    }
  where
    queued : (o : Option Session) → AreQueued copies o b → AreQueued copies o (after (Gone n) b)
    queued None q = q
    queued (Some s) q = subst (StandOn copies s.queue) (sym (gone_went s.birth n b.lines idle.lines)) q

closing_receives : (n : ℕ) (r : Receiver) (s : Session) (b : Broker) → IsIdle n b → IsReceiving r s b → IsReceiving (shut n r b) s (after (Gone n) b)
closing_receives n r s b idle x = record {
  session = x.session;
  client = x.client;
  only = x.only;
  known = subst (AreKnown s.queue) (sym (gone_went s.birth n b.lines idle.lines)) x.known;
}

-- for the receiver's session
pub closing_goes_on : (largest : ℕ) (ids : List CopyId) (birth n : ℕ) (r : Receiver) (b : Broker) → IsIdle n b → RunsFor largest ids birth r b → RunsFor largest ids birth (shut n r b) (after (Gone n) b)
closing_goes_on largest ids birth n r b idle f = λ number numbered.
    let h = f number numbered in
    record {
      after = h.after;
      same = h.same;
      run_is = closing_runs number largest h.after n r b idle h.run_is;
      session = h.session;
      birth_is = h.birth_is;
      receiving = closing_receives n r h.session b idle h.receiving;
    }

-- and leaves who is served
pub closing_served : (client : List ℕ) (birth : ℕ) (ns : List ℕ) (n : ℕ) (b : Broker) → IsServed client birth ns b → IsServed client birth ns (after (Gone n) b)
closing_served client birth ns n b v = record { sessions = v.sessions; lines = gone_own client birth ns n b.lines v.lines; births = v.births; given = v.given }

-- ---- the tick

-- so the clock's turn goes on
pub late_goes_on : (largest : ℕ) (ids : List CopyId) (limits : Capacity) (choice : MemberChoice) (now birth : ℕ) (ns : List ℕ) (n : ℕ) (r : Receiver) (b : Broker)
    → RunsFor largest ids birth r b → IsServed r.client birth ns b → IsOverdue n (at_moment now b)
    → RunsFor largest ids birth (receiver_called limits choice now Tick r b) (stepped limits choice now Tick b) × IsServed r.client birth ns (stepped limits choice now Tick b)
late_goes_on largest ids limits choice now birth ns n r b f v late =
    let first = at_moment now b in
    let served : IsServed r.client birth ns first = record { sessions = v.sessions; lines = v.lines; births = v.births; given = v.given } in
    let runs : RunsFor largest ids birth r first = λ number numbered. first_runs number largest ids birth r now b (f number numbered) in
    subst (λ (ds : List Deed). RunsFor largest ids birth (receiver_told (done ds first) (outcome_of Tick ds first) r) (done ds first) × IsServed r.client birth ns (done ds first))
    (sym (late_deeds (env_of limits choice b) n late.line first late.idle late.silent late.number))
    (closing_goes_on largest ids birth n r first late.idle runs, closing_served r.client birth ns n first served)
