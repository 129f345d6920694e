-- If a publication is accepted in a call, lines are unique: a session that is connected stands on one (MQTT 5.0, 3.1.4).
use Rattle.std.proofs.Common.{◌≡◌, ℕ, suc, ◌≤◌, Bool, true, false, List, [], ◌∷◌, ◌++◌, map, Option, Some, None, refl, sym, ap, subst, ◌∙◌, arith, inl, inr}
use Rattle.std.specs.Prelude.{⊤, option_map, decimal, filter}
use Rattle.std.specs.List.{AllByRecursion}
use Rattle.mqtt_base.specs.Codes.{success}
use Rattle.mqtt_base.specs.declared.limits.TheConstants.{LAST_NUMBER}
use Rattle.mqtt_base.specs.declared.session.Ending.TheVariants.{SessionEnded}
use Rattle.mqtt_packet.specs.declared.connect.connect.Connect.{Connect as Greeting}
use Rattle.mqtt_flow.specs.declared.outbound.entry.Turn.{Turn}
use Rattle.mqtt_flow.specs.declared.outbound.entry.Turn.TheVariants as turns
use Rattle.mqtt_records.specs.messages.Queue.{CopyRow}
use Rattle.mqtt_records.specs.state.Session.{birth_of, copy_place, auto}
use Rattle.mqtt_records.specs.declared.state.change.Change.{Change}
use Rattle.mqtt_records.specs.declared.state.records.Records.{Records}
use Rattle.mqtt_records.specs.declared.state.session.Session.{Session}
use Rattle.mqtt_records.specs.lists.Order.{IsAscending, row_at}
use Rattle.mqtt_topic.specs.names.Names.{is_empty}
use Rattle.mqtt_rules.specs.declared.step.Capacity.{Capacity}
use Rattle.mqtt_rules.specs.step.Closing.{end_session, is_due, end_due, has_due_end}
use Rattle.mqtt_rules.specs.step.Connect.{expiry_of, will_of, greet, begin_named, connack_properties}
use Rattle.mqtt_rules.specs.step.Deeds.{Whose, whose, Message, Origin, Subscribe, Part, Resume, Open, Close, Leave, SetAlias, Hear, Deed, Accept, Name, Count, At, Finish, Forget, RefuseWill, Link, On, Send, rows_of_all, after, after_all, series}
use Rattle.mqtt_rules.specs.step.Fitting.{pump_turns}
use Rattle.mqtt_rules.specs.step.Inbound.{pump_deeds}
use Rattle.mqtt_rules.specs.step.Laws.{IsAmong, AreWithin}
use Rattle.mqtt_rules.specs.step.Lines.{closed_at, HasUniqueLines}
use Rattle.mqtt_rules.specs.step.Outbound.{of_entry, leave_deeds, turn_deeds}
use Rattle.mqtt_rules.specs.step.Packets.{connack}
use Rattle.mqtt_rules.specs.step.Routing.{CopyTo, is_queued, deliver, next_publication, retain_by, publish}
use Rattle.mqtt_rules.specs.step.State.{Line, Broker, Env, session_at, MemberChoice}
use Rattle.mqtt_rules.specs.step.Step.{Call, deeds, env_of, at_moment, with_moment, is_step_spent}
use Rattle.mqtt_rules.specs.step.Subscribe as sub
use Rattle.mqtt_rules.specs.step.Tick.{lapses, lapse_deeds}
use Rattle.mqtt_rules.proofs.step_lemmas.acts.Acts.{is_alone, closing_session, closing_on, closing, brought_to, MayEnd, IsPrepared, Law, leads_call}
use Rattle.mqtt_rules.proofs.step_lemmas.acts.ByDeeds.{by_deeds, turn_law}
use Rattle.mqtt_rules.proofs.step_lemmas.fit.Coherent.{Coheres, IsFit}
use Rattle.mqtt_rules.proofs.step_lemmas.numbers.Copies.{each_append, each_flat}
use Rattle.mqtt_rules.proofs.step_lemmas.fit.FitLaw.{Keeps, naming, fit_law, fit_mark, autos_grow}
use Rattle.mqtt_rules.proofs.step_lemmas.acts.Goods.{AreGood}
use Rattle.mqtt_rules.proofs.step_lemmas.acts.Leads.{Leads}
use Rattle.mqtt_rules.proofs.step_lemmas.lines.LineActs.{quiet_turn, quiet_pump, quiet_lapses, quiet_publish, quiet_grants}
use Rattle.mqtt_rules.proofs.step_lemmas.lines.LineLaw.{here, unique_quiet, unique_linked, unique_closes, unique_ended, unique_resumed, unique_begun}
use Rattle.mqtt_rules.proofs.step_lemmas.lines.LinePrepared.{cleared_shut, prepared_shut, named_is, named_stands}
use Rattle.mqtt_rules.proofs.step_lemmas.lines.LineRows.{IsQuiet}
use Rattle.mqtt_rules.proofs.step_lemmas.lines.LineSteps.{Keep}
use Rattle.mqtt_rules.proofs.step_lemmas.numbers.Counters.{Counts, counts_deed}
use Rattle.mqtt_rules.proofs.step_lemmas.fit.RowsFit.{made_of, naming_call, moment_last, step_coherent}
use Rattle.mqtt_world_model.specs.model.Run.{Acceptance, acceptances_of}
use Rattle.mqtt_world_laws.specs.acceptance.Fair.{IsSteady}
use Rattle.mqtt_world_laws.proofs.routing_lemmas.OwnSteps.{IsOther, AreOther, other_deliveries, other_retain, leave_other}

-- ---- a deed that fits, and lines that are unique if it accepts a publication

abbrev IsLined : Deed → Broker → Type 0
IsLined (Accept number origin m) b = b.records.autos ≤ LAST_NUMBER → HasUniqueLines b
IsLined d b = ⊤

abbrev Good : Deed → Broker → Type 0
Good d b = IsFit d b × IsLined d b

other_lined : (d : Deed) (b : Broker) → IsOther d → IsLined d b
other_lined (Accept number origin m) b h = absurd h
other_lined d b h = tt

others_lined : (ds : List Deed) (b : Broker) → AreOther ds → AreGood IsLined ds b
others_lined [] b h = tt
others_lined (d ∷ ds) b h = (other_lined d b h.0, others_lined ds (after d b) h.1)

both_good : (ds : List Deed) (b : Broker) → AreGood IsFit ds b → AreGood IsLined ds b → AreGood Good ds b
both_good [] b p q = tt
both_good (d ∷ ds) b p q = ((p.0, q.0), both_good ds (after d b) p.1 q.1)

fits : (ds : List Deed) (b : Broker) → AreGood Good ds b → AreGood IsFit ds b
fits [] b h = tt
fits (d ∷ ds) b h = (h.0.0, fits ds (after d b) h.1)

grow : (ds : List Deed) (b : Broker) → AreGood IsFit ds b → b.records.autos ≤ (after_all ds b).records.autos
grow [] b fit = omega arith
grow (d ∷ ds) b fit =
    let one = autos_grow d b fit.0 in
    let is = ap (λ (c : Counts). c.autos) (counts_deed d b.records) in
    let more = grow ds (after d b) fit.1 in
    omega (arith, one, is, more)

-- ---- units of deeds that accept nothing

other_turn : (now line : ℕ) (s : Session) (t : Turn) → AreOther (turn_deeds now line s t)
other_turn now line s (turns.Send place id) = of_row (row_at copy_place place s.queue) _ (λ e. (tt, (tt, (tt, tt))))
  where
    of_row : (o : Option CopyRow) (f : CopyRow → List Deed) → ((e : CopyRow) → AreOther (f e)) → AreOther (of_entry o f)
    of_row None f h = tt
    of_row (Some e) f h = h e
other_turn now line s (turns.Resend place id) = of_row (row_at copy_place place s.queue) _ (λ e. (tt, (tt, tt)))
  where
    of_row : (o : Option CopyRow) (f : CopyRow → List Deed) → ((e : CopyRow) → AreOther (f e)) → AreOther (of_entry o f)
    of_row None f h = tt
    of_row (Some e) f h = h e
other_turn now line s (turns.Release place id order) = (tt, (tt, tt))
other_turn now line s (turns.Outgrow place id order) = (tt, (tt, tt))
other_turn now line s (turns.Repeat id) = (tt, tt)
other_turn now line s (turns.Unknown id) = (tt, tt)
other_turn now line s (turns.Leave place ending) = leave_other s (turns.Leave place ending)

other_pump : (l : Line) (b : Broker) (s : Session) → AreOther (pump_deeds l b s)
other_pump l b s = each_flat IsOther (turn_deeds b.now l.number s) (other_turn b.now l.number s) (pump_turns l b s)

other_lapses : (now : ℕ) (s : Session) → AreOther (lapse_deeds now s)
other_lapses now s = each_flat IsOther (leave_deeds s) (leave_other s) (lapses now s)

other_end : (s : Session) → AreOther (end_session s)
other_end s = each_append IsOther (map (λ (e : CopyRow). At (whose s) (Leave e SessionEnded)) s.queue) (Finish (whose s) ∷ []) (each s.queue) (tt, tt)
  where
    each : (es : List CopyRow) → AreOther (map (λ (e : CopyRow). At (whose s) (Leave e SessionEnded)) es)
    each [] = tt
    each (e ∷ es) = (tt, each es)

other_closing : (keeps_will : Bool) (l : Line) (b : Broker) → AreOther (closing keeps_will l b)
other_closing keeps_will l b = (tt, by l.session)
  where
    of_session : (t : Bool) (o : Option Session) → AreOther (closing_session t b.now o)
    of_session t None = tt
    of_session true (Some s) = (tt, tt)
    of_session false (Some s) = (tt, (tt, tt))

    by : (o : Option ℕ) → AreOther (closing_on keeps_will b.now o b.records)
    by None = tt
    by (Some birth) = of_session keeps_will (session_at birth b.records)

other_begin : (t : Bool) (l : Line) (c : Greeting) (r : Records) → AreOther (begin_named t l c r)
other_begin false l c r = (tt, (tt, (tt, tt)))
other_begin true l c r = (tt, (tt, (tt, (tt, tt))))

-- ---- units that fit and keep lines unique

led : (ds : List Deed) (b : Broker) → Keep b → Leads Keeps IsFit ds b → AreGood IsLined ds b → (b.records.autos ≤ LAST_NUMBER → HasUniqueLines b → HasUniqueLines (after_all ds b)) → Leads Keep Good ds b
led ds b k fit lined keeps = (both_good ds b fit.0 lined, (fit.1, λ le. let up = grow ds b fit.0 in let small : b.records.autos ≤ LAST_NUMBER = omega (arith, le, up) in keeps small (k.1 small)))

quiet : (ds : List Deed) (b : Broker) → Keep b → Leads Keeps IsFit ds b → AreOther ds → AreGood IsQuiet ds b → Leads Keep Good ds b
quiet ds b k fit other q = led ds b k fit (others_lined ds b other) (λ le u. unique_quiet ds b q u)

quiet_alone : (who : Whose) (part : Part) (b : Broker) → is_alone part ≡ true → AreGood IsQuiet (At who part ∷ []) b
quiet_alone who (Resume expiry will) b is = absurd cc
quiet_alone who (Close moment) b is = absurd cc
quiet_alone who part b is = (tt, tt)

-- a session whose end is due isn't connected
due_shut : (s : Session) (b : Broker) → IsAscending birth_of b.records.sessions → IsAmong s b.records.sessions → has_due_end b.now s ≡ true → closed_at s.birth b.records ≡ Some None → ⊥
due_shut s b up among due is =
    let at : closed_at s.birth b.records ≡ Some s.closed = ap (option_map (λ (x : Session). x.closed)) (here s b.records up among) in
    let both : Some s.closed ≡ Some None = sym at ∙ is in
    let none : s.closed ≡ None = cc in
    never s.closed none due
  where
    never : (o : Option ℕ) → o ≡ None → is_due b.now (end_due o s.expiry) ≡ true → ⊥
    never None e due = absurd cc
    never (Some n) e due = absurd cc

module _ (env : Env) (within : AreWithin env.limits) where
  fit : Law env naming Keeps IsFit
  fit = by_deeds env naming Keeps IsFit (fit_law env within) (turn_law env naming Keeps IsFit (fit_law env within) fit_mark)

  coheres : (b : Broker) → Keep b → Coheres b.records
  coheres b k = k.0.0

  unique : (b : Broker) → Keep b → b.records.autos ≤ LAST_NUMBER → HasUniqueLines b
  unique b k le = k.1 le

  may_end : (s : Session) (b : Broker) → MayEnd env Keep s b → MayEnd env Keeps s b
  may_end s b may = elim may [
    | inl due ↦ inl due
    | inr x ↦ inr (record { client = x.client; before = x.before; kept = x.kept.0; other = x.other; found = x.found; its = x.its; is = x.is; named = x.named })
  ]

  was_prepared : (l : Line) (c : Greeting) (b : Broker) → IsPrepared env Keep l c b → IsPrepared env Keeps l c b
  was_prepared l c b x = record { before = x.before; kept = x.kept.0; on = x.on; is = x.is }

  shut : (s : Session) (b : Broker) → Keep b → IsAmong s b.records.sessions → MayEnd env Keep s b → b.records.autos ≤ LAST_NUMBER → closed_at s.birth b.records ≡ Some None → ⊥
  shut s b k among may le = elim may [
    | inl due ↦ due_shut s b k.0.0.ordered.sessions.ascending among due
    | inr x ↦ cleared_shut Keep coheres unique env s b k.0.0 x le
  ]

  begins : (t : Bool) (l : Line) (c : Greeting) (b : Broker) → Keep b → Leads Keeps IsFit (begin_named t l c b.records) b → l.session ≡ None → IsPrepared env Keep l c b → Leads Keep Good (begin_named t l c b.records) b
  begins false l c b k h none x =
      led (begin_named false l c b.records) b k h (others_lined (begin_named false l c b.records) b (other_begin false l c b.records)) (λ le u. let free = (prepared_shut Keep coheres unique env l c b x le none).1 in
      let told = connack false success (connack_properties false c.client_identifier) in
      unique_quiet (Send l.number told ∷ []) _ (tt, tt) (unique_begun l c _ b h.0.0 k.0.0 free u))
  begins true l c b k h none x =
      let n = suc b.records.autos in
      let d = after (Name n) b in
      led (begin_named true l c b.records) b k h (others_lined (begin_named true l c b.records) b (other_begin true l c b.records)) (λ le u. let free = (prepared_shut Keep coheres unique env l c b x le none).1 in
      let named : HasUniqueLines d = record { ascending = u.ascending; given = u.given; once = u.once; stands = u.stands; connected = u.connected } in
      let kept : Coheres d.records = ((fit_law env within).kept (Name n) b k.0 refl).0 in
      let told = connack false success (connack_properties true (auto ++ decimal n)) in
      unique_quiet (Send l.number told ∷ []) _ (tt, tt) (unique_begun l c _ d h.0.1.0 kept free named))

  publishes : (origin : Origin) (m : Message) (ds : List CopyTo) (b : Broker) → Keep b → Leads Keeps IsFit (publish env origin m ds b) b → Leads Keep Good (publish env origin m ds b) b
  publishes origin m ds b k fit_it =
      let number = next_publication b.records in
      let c = after (Accept number origin m) b in
      let next = retain_by m.retain (is_empty m.payload) number m c in
      let all = series (map (deliver env) ds) (after_all next c) in
      led (publish env origin m ds b) b k fit_it (k.1, others_lined (next ++ all) c (each_append IsOther next all (other_retain env m.retain (is_empty m.payload) number m c) (other_deliveries env ds (after_all next c))))
      (λ le u. unique_quiet (publish env origin m ds b) b (quiet_publish env origin m ds b) u)

  grants : (w : sub.Wish) (s : Session) (b : Broker) → AreOther (sub.granted_filter env (sub.next_number b.records) s w (brought_to w s b) b).deeds
  grants w s b =
      let number = sub.next_number b.records in
      let first : List Deed = Count number ∷ At (whose s) (Subscribe (sub.subscription number s w)) ∷ [] in
      (tt, (tt, other_deliveries env (filter is_queued (brought_to w s b)) (after_all first b)))

  line_law : Law env naming Keep Good
  line_law = record {
    finds = record {
      its_number = fit.finds.its_number;
      its_session = fit.finds.its_session;
      its_line = λ birth l b k its e. tt;
      named = λ client s b k its e. tt;
      admitted = λ c b k came e. fit.finds.admitted c b k.0 came e;
      sent = λ l s p topic b k its came e. tt;
      willed = λ s w b k among e. tt;
    };
    client_stays = λ client ds b k leads its. fit.client_stays client ds b k.0 (fits ds b leads.0, leads.1.0) its;
    publishes = λ origin m ds b k said e. publishes origin m ds b k (fit.publishes origin m ds b k.0 said e);
    open_id = λ s id m ds b k h its there new is. quiet (At (whose s) (Open id) ∷ []) _ h (fit.open_id s id m ds b k.0 h.0 its there new is) (tt, tt) (tt, tt);
    refuse_will = λ who b k its. quiet (RefuseWill who ∷ []) b k (fit.refuse_will who b k.0 its) (tt, tt) (tt, tt);
    alone = λ who part b k its is. quiet (At who part ∷ []) b k (fit.alone who part b k.0 its is) (tt, tt) (quiet_alone who part b is);
    closes = λ keeps_will l b k its on. led (closing keeps_will l b) b k (fit.closes keeps_will l b k.0 its on) (others_lined (closing keeps_will l b) b (other_closing keeps_will l b)) (λ le u. unique_closes keeps_will l b on u);
    ends = λ s b k its among may. led (end_session s) b k (fit.ends s b k.0 its among (may_end s b may)) (others_lined (end_session s) b (other_end s)) (λ le u. unique_ended s b (shut s b k among may le) u);
    resumes = λ l c s b k its none came taken own is x. led (At (whose s) (Resume (expiry_of c) (will_of c)) ∷ greet l c s.birth ∷ []) b k (fit.resumes l c s b k.0 its none came taken own is (was_prepared l c b x)) (tt, (tt, tt))
        (λ le u. let both = prepared_shut Keep coheres unique env l c b x le none in
        let client = named_is c.client_identifier s b k.0.0 is in
        unique_resumed l c s b (named_stands c.client_identifier s b k.0.0 is) both.1 (both.0 s.birth client) u);
    begins = λ l c b k its none came taken name is room x. begins (is_empty c.client_identifier) l c b k (fit.begins l c b k.0 its none came taken name is room (was_prepared l c b x)) none x;
    grants = λ w s b k its asked granted. quiet (sub.granted_filter env (sub.next_number b.records) s w (brought_to w s b) b).deeds b k (fit.grants w s b k.0 its asked granted) (grants w s b) (quiet_grants env w s b);
    pumps = λ l s b k its is there. quiet (pump_deeds l b s) b k (fit.pumps l s b k.0 its is there) (other_pump l b s) (quiet_pump l s b);
    turns = λ a t l s b k its own there is e. quiet (turn_deeds b.now l.number s t) b k (fit.turns a t l s b k.0 its own there is e) (other_turn b.now l.number s t) (quiet_turn b.now l.number s t b);
    lapses = λ s b k among. quiet (lapse_deeds b.now s) b k (fit.lapses s b k.0 among) (other_lapses b.now s) (quiet_lapses b.now s b);
    stale = λ x b k among. quiet (Forget x.place ∷ []) b k (fit.stale x b k.0 among) (tt, tt) (tt, tt);
    links = λ b k can. led (Link (suc b.given) ∷ []) b k (fit.links b k.0 can) (tt, tt) (λ le u. unique_linked b u);
    hears = λ n b k its. quiet (On n Hear ∷ []) b k (fit.hears n b k.0 its) (tt, tt) (tt, tt);
    sets = λ n alias topic b k its said. quiet (On n (SetAlias alias topic) ∷ []) b k (fit.sets n alias topic b k.0 its said) (tt, tt) (tt, tt);
    sends = λ n packet b k its. quiet (Send n packet ∷ []) b k (fit.sends n packet b k.0 its) (tt, tt) (tt, tt);
  }

-- ---- a call: if it accepts a publication lines are unique

abbrev pub IsUnique : Acceptance → Type 0
IsUnique a = HasUniqueLines a.broker

accepted_unique : (env : Env) (ds : List Deed) (b : Broker) → AreGood Good ds b → (after_all ds b).records.autos ≤ LAST_NUMBER → AllByRecursion IsUnique (acceptances_of env ds b)
accepted_unique env [] b h le = tt
accepted_unique env (Accept number origin m ∷ ds) b h le =
    let up = grow (Accept number origin m ∷ ds) b (fits (Accept number origin m ∷ ds) b h) in
    (h.0.1 (omega (arith, up, le)), accepted_unique env ds (after (Accept number origin m) b) h.1 le)
accepted_unique env (d ∷ ds) b h le = accepted_unique env ds (after d b) h.1 le

stamped_autos : (rows : List Change) (b : Broker) → (with_moment rows b).records.autos ≡ b.records.autos
stamped_autos [] b = refl
stamped_autos (x ∷ rows) b = refl

-- a call leaves each session on one line
pub call_unique : (limits : Capacity) (choice : MemberChoice) (now : ℕ) (call : Call) (b : Broker) → AreWithin limits → IsSteady b → is_step_spent limits choice now call b ≡ false
    → AllByRecursion IsUnique (acceptances_of (env_of limits choice b) (deeds limits choice now call b) (at_moment now b))
call_unique limits choice now call b within s unspent =
    let c = at_moment now b in
    let env = env_of limits choice b in
    let ds = deeds limits choice now call b in
    let u = s.lines in
    let before : HasUniqueLines c = record { ascending = u.ascending; given = u.given; once = u.once; stands = u.stands; connected = u.connected } in
    let all = leads_call env naming Keep Good (line_law env within) call c ((made_of b.records s.coherent, moment_last b now s.moment), λ le. before) (naming_call call c) in
    let autos : (after_all ds c).records.autos ≤ LAST_NUMBER =
    subst (λ (n : ℕ). n ≤ LAST_NUMBER) (stamped_autos (rows_of_all ds c.records) (after_all ds c)) (step_coherent limits choice now call b within s.coherent s.timed s.moment unspent).counters.autos in
    accepted_unique env ds c all.0 autos
