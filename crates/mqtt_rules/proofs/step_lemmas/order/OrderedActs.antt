-- What each deed keeps, but for publications and grants, which are said whole: so every step and every opening keeps it.
use Rattle.std.proofs.Common.{◌≡◌, ℕ, suc, ◌<◌, Bool, true, false, cond, List, [], ◌∷◌, ◌++◌, length, filter, map, Option, Some, None, nat_eq, ap, sym, subst, ◌∙◌, inl, inr}
use Rattle.std.specs.Prelude.{nat_le, flat_map, decimal}
use Rattle.std.proofs.lemmas.Bool.{cases_Bool, ltb-true, eqb-true}
use Rattle.mqtt_base.specs.declared.session.Ending.TheVariants.{SessionEnded}
use Rattle.mqtt_packet.specs.declared.connect.connect.Connect.{Connect as Greeting}
use Rattle.mqtt_packet.specs.declared.codec.packet.Packet.{Packet}
use Rattle.mqtt_topic.specs.names.Names.{is_empty}
use Rattle.mqtt_flow.specs.declared.outbound.entry.Turn.{Turn}
use Rattle.mqtt_flow.specs.declared.outbound.entry.Turn.TheVariants as turns
use Rattle.mqtt_base.specs.Codes.{success}
use Rattle.mqtt_records.specs.declared.messages.message.Will.{Will}
use Rattle.mqtt_records.specs.messages.Queue.{CopyRow}
use Rattle.mqtt_records.specs.declared.state.session.Session.{Session}
use Rattle.mqtt_records.specs.declared.state.session.Columns.{Columns}
use Rattle.mqtt_records.specs.declared.state.records.Records.{Records}
use Rattle.mqtt_records.specs.declared.state.change.Change.{Change}
use Rattle.mqtt_records.specs.lists.Order.{row_at}
use Rattle.mqtt_records.specs.state.Session.{birth_of, copy_place, auto}
use Rattle.mqtt_rules.specs.step.Packets.{connack}
use Rattle.mqtt_rules.specs.step.State.{Line, Broker, Env, stored, session_at}
use Rattle.mqtt_rules.specs.step.Deeds.{whose, Message, Origin, FromClient, Part, Resume, Close, Open, Enter, Leave, Hear, SetAlias, Deed, Accept, Begin, Name, Count, At, Finish, Keep, Forget, RefuseWill, Link, On, Send, Act, after, after_all, rows_of_all, stored_after, then, always, series, with_session, of_session, offer}
use Rattle.mqtt_rules.specs.step.Outbound.{of_entry, leave_deeds, turn_deeds, all_turn_deeds, room}
use Rattle.mqtt_rules.specs.step.Routing.{CopyTo, accepted_copies, publish, is_queued}
use Rattle.mqtt_rules.specs.step.Closing.{end_session}
use Rattle.mqtt_rules.specs.step.Connect.{greet, expiry_of, will_of, connack_properties, fresh_row, begin, begin_named}
use Rattle.mqtt_rules.specs.step.Fitting.{pump_turns}
use Rattle.mqtt_rules.specs.step.Inbound.{pump_deeds}
use Rattle.mqtt_rules.specs.step.Subscribe as sub
use Rattle.mqtt_rules.proofs.step_lemmas.acts.Offers.{of_offer}
use Rattle.mqtt_rules.proofs.step_lemmas.acts.Goods.{after_append, AreGood}
use Rattle.mqtt_rules.proofs.step_lemmas.acts.Leads.{Leads}
use Rattle.mqtt_rules.proofs.step_lemmas.acts.Acts.{anyone, call_of_anyone, finds_anyone, is_alone, closing_session, closing_on, closing, brought_to, Law, leads_call, leads_opening}
use Rattle.mqtt_rules.specs.step.Tick.{lapses, lapse_deeds}
use Rattle.mqtt_rules.specs.step.Step.{Call, deeds_of, with_moment, done, opening}

-- ---- deeds that let no table grow: all but those that stand only if there is room

abbrev pub IsPlainPart : Part → Type 0
IsPlainPart (Enter copy) = ⊥
IsPlainPart part = Unit {0}

abbrev pub IsPlain : Deed → Type 0
IsPlain (Accept number origin m) = ⊥
IsPlain (Begin row will) = ⊥
IsPlain (Count n) = ⊥
IsPlain (Keep kept) = ⊥
IsPlain (At who part) = IsPlainPart part
IsPlain deed = Unit {0}

abbrev pub ArePlain : List Deed → Type 0
ArePlain [] = Unit {0}
ArePlain (d ∷ ds) = IsPlain d × ArePlain ds

-- plain deeds behind plain deeds are plain
pub plain_append : (xs ys : List Deed) → ArePlain xs → ArePlain ys → ArePlain (xs ++ ys)
plain_append [] ys p q = q
plain_append (x ∷ xs) ys p q = (p.0, plain_append xs ys p.1 q)

-- deeds made of items are plain if each is
pub plain_map : {X : Type 0} (f : X → Deed) → ((x : X) → IsPlain (f x)) → (xs : List X) → ArePlain (map f xs)
plain_map f h [] = tt
plain_map f h (x ∷ xs) = (h x, plain_map f h xs)

-- lists of deeds made of items are plain if each is
pub plain_flat : {X : Type 0} (f : X → List Deed) → ((x : X) → ArePlain (f x)) → (xs : List X) → ArePlain (flat_map f xs)
plain_flat f h [] = tt
plain_flat f h (x ∷ xs) = plain_append (f x) (flat_map f xs) (h x) (plain_flat f h xs)

-- a choice between plain deeds is plain
pub plain_cond : (t : Bool) (xs ys : List Deed) → ArePlain xs → ArePlain ys → ArePlain (cond t xs ys)
plain_cond true xs ys p q = p
plain_cond false xs ys p q = q

-- offering a packet to a line is plain
pub plain_offer : (o : Option Line) (p : Packet) → ArePlain (offer o p)
plain_offer o p = of_offer ArePlain o p tt (λ l there. (tt, tt))

plain_of_entry : (o : Option CopyRow) (f : CopyRow → List Deed) → ((e : CopyRow) → ArePlain (f e)) → ArePlain (of_entry o f)
plain_of_entry None f h = tt
plain_of_entry (Some e) f h = h e

-- a copy's leaving is plain
pub plain_leave : (s : Session) (t : Turn) → ArePlain (leave_deeds s t)
plain_leave s (turns.Leave place ending) = plain_of_entry (row_at copy_place place s.queue) (λ e. At (whose s) (Leave e ending) ∷ []) (λ e. (tt, tt))
plain_leave s (turns.Send place id) = tt
plain_leave s (turns.Resend place id) = tt
plain_leave s (turns.Release place id order) = tt
plain_leave s (turns.Outgrow place id order) = tt
plain_leave s (turns.Repeat id) = tt
plain_leave s (turns.Unknown id) = tt

plain_turn : (now line : ℕ) (s : Session) (t : Turn) → ArePlain (turn_deeds now line s t)
plain_turn now line s (turns.Send place id) = plain_of_entry (row_at copy_place place s.queue) _ (λ e. (tt, (tt, (tt, tt))))
plain_turn now line s (turns.Resend place id) = plain_of_entry (row_at copy_place place s.queue) _ (λ e. (tt, (tt, tt)))
plain_turn now line s (turns.Release place id order) = (tt, (tt, tt))
plain_turn now line s (turns.Outgrow place id order) = (tt, (tt, tt))
plain_turn now line s (turns.Repeat id) = (tt, tt)
plain_turn now line s (turns.Unknown id) = (tt, tt)
plain_turn now line s (turns.Leave place ending) = plain_leave s (turns.Leave place ending)

plain_turns : (now line : ℕ) (s : Session) (ts : List Turn) → ArePlain (all_turn_deeds now line s ts)
plain_turns now line s ts = plain_flat (turn_deeds now line s) (plain_turn now line s) ts

plain_end : (s : Session) → ArePlain (end_session s)
plain_end s = plain_append (map (λ e. At (whose s) (Leave e SessionEnded)) s.queue) (Finish (whose s) ∷ []) (plain_map (λ e. At (whose s) (Leave e SessionEnded)) (λ e. tt) s.queue) (tt, tt)

-- ---- acts one after the other

module _ (P : Records → Type 0) where
  abbrev pub Keeps : Act → Type 0
  Keeps act = (b : Broker) → P b.records → P (stored (after_all (act b) b))

  abbrev pub KeepActs : List Act → Type 0
  KeepActs [] = Unit {0}
  KeepActs (act ∷ acts) = Keeps act × KeepActs acts

  -- what holds after some deeds and then others holds after all
  pub both : (xs ys : List Deed) (b : Broker) → P (stored (after_all ys (after_all xs b))) → P (stored (after_all (xs ++ ys) b))
  both xs ys b p = subst (λ (c : Broker). P (stored c)) (sym (after_append xs ys b)) p

  -- what holds after some deeds holds after an act behind them that keeps it
  pub follows : (ds : List Deed) (act : Act) (b : Broker) → P (stored (after_all ds b)) → Keeps act → P (stored (after_all (then ds act b) b))
  follows ds act b p h = both ds (act (after_all ds b)) b (h (after_all ds b) p)

  -- acts that each keep something keep it one after the other
  pub keeps_series : (acts : List Act) → KeepActs acts → Keeps (series acts)
  keeps_series [] h b p = p
  keeps_series (f ∷ fs) h b p = follows (f b) (series fs) b (h.0 b p) (keeps_series fs h.1)

  -- acts made of items keep what each keeps
  pub keeps_map : {X : Type 0} (f : X → Act) → ((x : X) → Keeps (f x)) → (xs : List X) → KeepActs (map f xs)
  keeps_map f h [] = tt
  keeps_map f h (x ∷ xs) = (h x, keeps_map f h xs)

  -- an act of a session that is there keeps what it keeps of each session
  pub keeps_with : (s : Option Session) (f : Session → Act) → ((t : Session) → Keeps (f t)) → Keeps (with_session s f)
  keeps_with None f h b p = p
  keeps_with (Some s) f h b p = h s b p

  -- an act of the session with a birth keeps what it keeps of each session
  pub keeps_of : (birth : ℕ) (f : Session → Act) → ((t : Session) → Keeps (f t)) → Keeps (of_session birth f)
  keeps_of birth f h b p = keeps_with (session_at birth b.records) f h b p

-- ---- what the deeds of a step have to keep

-- what a law of the records says of plain deeds, new sessions, publications and grants
pub record Keeping (env : Env) (P : Records → Type 0) (Good : Deed → Broker → Type 0) : Type 0 where
  pub plain : (d : Deed) (r : Records) → IsPlain d → P r → P (stored_after d r)
  pub good : (d : Deed) (b : Broker) → IsPlain d → P b.records → Good d b
  pub born : (row : Columns) (will : Option Will) (b : Broker) → P b.records → Good (Begin row will) b
  pub begin : (row : Columns) (will : Option Will) (r : Records) → length r.sessions < env.limits.sessions → P r → P (stored_after (Begin row will) r)
  pub publish : (origin : Origin) (m : Message) (ds : List CopyTo) (b : Broker) → accepted_copies env m b ≡ Some ds → P b.records → Leads (λ c. P c.records) Good (publish env origin m ds b) b
  pub grants : (w : sub.Wish) (s : Session) (b : Broker)
      → session_at s.birth b.records ≡ Some s
      → nat_le (length (filter is_queued (brought_to w s b))) (room env s) ≡ true
      → P b.records
      → Leads (λ c. P c.records) Good (sub.granted_filter env (sub.next_number b.records) s w (brought_to w s b) b).deeds b
  pub moment : (now : ℕ) (r : Records) → P r → P (record r { moment = now })

-- the session found by a birth has that birth
pub birth_found : (birth : ℕ) (ss : List Session) (s : Session) → row_at birth_of birth ss ≡ Some s → s.birth ≡ birth
birth_found birth [] s found = absurd cc
birth_found birth (x ∷ xs) s found = elim (cases_Bool (nat_eq (birth_of x) birth)) [
  | inl same ↦
      let first : Some x ≡ Some s = rw same at found in
      let it : x ≡ s = cc in
      ap birth_of (sym it) ∙ eqb-true (birth_of x) birth same
  | inr other ↦ birth_found birth xs s (rw other at found)
]

module _ (env : Env) (P : Records → Type 0) (Good : Deed → Broker → Type 0) (k : Keeping env P Good) where
  -- plain deeds keep what such a law says of the records
  pub plains : (ds : List Deed) (b : Broker) → ArePlain ds → P b.records → P (stored (after_all ds b))
  plains [] b q p = p
  plains (d ∷ ds) b q p = plains ds (after d b) q.1 (k.plain d b.records q.0 p)

  -- an act of plain deeds keeps what such a law says
  pub keeps_always : (ds : List Deed) → ArePlain ds → Keeps P (always ds)
  keeps_always ds q b p = plains ds b q p

  -- ---- unit by unit

  abbrev Keeps_ : Broker → Type 0
  Keeps_ b = P b.records

  abbrev Led : List Deed → Broker → Type 0
  Led = Leads Keeps_ Good

  led : (ds : List Deed) (b : Broker) → ArePlain ds → P b.records → Led ds b
  led ds b q p = (goods ds b q p, plains ds b q p)
    where
      goods : (ds : List Deed) (b : Broker) → ArePlain ds → P b.records → AreGood Good ds b
      goods [] b q p = tt
      goods (d ∷ ds) b q p = (k.good d b q.0 p, goods ds (after d b) q.1 (k.plain d b.records q.0 p))

  plain_alone : (part : Part) → is_alone part ≡ true → IsPlainPart part
  plain_alone (Enter copy) is = absurd cc
  plain_alone part is = tt

  plain_closed : (keeps_will : Bool) (now : ℕ) (o : Option Session) → ArePlain (closing_session keeps_will now o)
  plain_closed keeps_will now None = tt
  plain_closed true now (Some s) = (tt, tt)
  plain_closed false now (Some s) = (tt, (tt, tt))

  plain_closing : (keeps_will : Bool) (now : ℕ) (session : Option ℕ) (r : Records) → ArePlain (closing_on keeps_will now session r)
  plain_closing keeps_will now None r = tt
  plain_closing keeps_will now (Some birth) r = plain_closed keeps_will now (session_at birth r)

  born : (l : Line) (c : Greeting) (is_assigned : Bool) (client : List ℕ) (b : Broker) → P b.records → length b.records.sessions < env.limits.sessions
      → Led (begin l c is_assigned client (suc b.records.births)) b
  born l c is_assigned client b p room =
      let row = fresh_row (suc b.records.births) client c in
      let d = Begin row (will_of c) in
      let rest = led (greet l c (suc b.records.births) ∷ Send l.number (connack false success (connack_properties is_assigned client)) ∷ []) (after d b) (tt, (tt, tt)) (k.begin row (will_of c) b.records room p) in
      ((k.born row (will_of c) b p, rest.0), rest.1)

  begins_named : (t : Bool) (l : Line) (c : Greeting) (b : Broker) → P b.records → length b.records.sessions < env.limits.sessions → Led (begin_named t l c b.records) b
  begins_named false l c b p room = born l c false c.client_identifier b p room
  begins_named true l c b p room =
      let d = Name (suc b.records.autos) in
      let rest = born l c true (auto ++ decimal (suc b.records.autos)) (after d b) (k.plain d b.records tt p) room in
      ((k.good d b tt p, rest.0), rest.1)

  -- what is said so of plain deeds, and of the others, is a law of all acts
  pub keeping_law : Law env anyone Keeps_ Good
  keeping_law = record {
    finds = finds_anyone Keeps_;
    client_stays = λ client ds b k led its. tt;
    publishes = λ origin m ds b p said e. k.publish origin m ds b e p;
    open_id = λ s id m ds b p h its there new is. led (At (whose s) (Open id) ∷ []) (after_all (publish env FromClient m ds b) b) (tt, tt) h;
    refuse_will = λ who b p its. led (RefuseWill who ∷ []) b (tt, tt) p;
    alone = λ who part b p its is. led (At who part ∷ []) b (plain_alone part is, tt) p;
    closes = λ keeps_will l b p its on. led (closing keeps_will l b) b (tt, plain_closing keeps_will b.now l.session b.records) p;
    ends = λ s b p its among may. led (end_session s) b (plain_end s) p;
    resumes = λ l c s b p its none came taken own is prepared. led (At (whose s) (Resume (expiry_of c) (will_of c)) ∷ greet l c s.birth ∷ []) b (tt, (tt, tt)) p;
    begins = λ l c b p its none came taken name is room prepared. begins_named (is_empty c.client_identifier) l c b p (ltb-true (length b.records.sessions) env.limits.sessions room);
    grants = λ w s b p its asked granted. k.grants w s b granted.session granted.has_room p;
    pumps = λ l s b p its is there. led (pump_deeds l b s) b (plain_turns b.now l.number s (pump_turns l b s)) p;
    turns = λ a t l s b p its own there is e. led (turn_deeds b.now l.number s t) b (plain_turn b.now l.number s t) p;
    lapses = λ s b p among. led (lapse_deeds b.now s) b (plain_flat (leave_deeds s) (plain_leave s) (lapses b.now s)) p;
    stale = λ x b p among. led (Forget x.place ∷ []) b (tt, tt) p;
    links = λ b p can. led (Link (suc b.given) ∷ []) b (tt, tt) p;
    hears = λ n b p its. led (On n Hear ∷ []) b (tt, tt) p;
    sets = λ n alias topic b p its said. led (On n (SetAlias alias topic) ∷ []) b (tt, tt) p;
    sends = λ n packet b p its. led (Send n packet ∷ []) b (tt, tt) p;
  }

  -- each deed of a call is good, and the law holds of the records again behind them
  pub leads_all : (call : Call) (b : Broker) → P b.records → Led (deeds_of env call b) b
  leads_all call b p = leads_call env anyone Keeps_ Good keeping_law call b p (call_of_anyone call b)

  -- each deed of an opening is good, and the law holds of the records again behind them
  pub leads_open : (b : Broker) → P b.records → Led (opening env b) b
  leads_open b p = leads_opening env anyone Keeps_ Good keeping_law (λ s c q is. led (At (whose s) (Close c.now) ∷ []) c (tt, tt) q) (λ birth. tt) b p

  -- every call keeps what such a law says
  pub keeps_call : (call : Call) → Keeps P (deeds_of env call)
  keeps_call call b p = (leads_all call b p).1

  -- every opening keeps what such a law says
  pub keeps_opening : Keeps P (opening env)
  keeps_opening b p = (leads_open b p).1

  keeps_moment : (rows : List Change) (b : Broker) → P b.records → P (stored (with_moment rows b))
  keeps_moment [] b p = p
  keeps_moment (row ∷ rows) b p = k.moment b.now b.records p

  -- the moment that is stored behind the deeds keeps what such a law says
  pub keeps_done : (ds : List Deed) (b : Broker) → P (stored (after_all ds b)) → P (stored (done ds b))
  keeps_done ds b p = keeps_moment (rows_of_all ds b.records) (after_all ds b) p
