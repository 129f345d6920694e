-- Lines stay unique in every step, and are none after an opening.
use Rattle.std.proofs.Common.{◌≡◌, ℕ, suc, ◌≤◌, Bool, true, false, cond, List, [], ◌∷◌, ◌++◌, filter, map, Option, Some, None, refl, sym, ap, subst, ◌∙◌, arith, inl, inr}
use Rattle.std.specs.Prelude.{option_map, is_none, decimal}
use Rattle.mqtt_base.specs.declared.limits.TheConstants.{LAST_NUMBER}
use Rattle.mqtt_packet.specs.declared.connect.connect.Connect.{Connect as Greeting}
use Rattle.mqtt_topic.specs.names.Names.{is_empty}
use Rattle.mqtt_records.specs.declared.state.session.Session.{Session}
use Rattle.mqtt_records.specs.declared.state.records.Records.{Records}
use Rattle.mqtt_records.specs.declared.state.change.Change.{Change}
use Rattle.mqtt_records.specs.state.Records.{IsNumber}
use Rattle.mqtt_records.specs.state.Session.{birth_of, auto}
use Rattle.mqtt_records.specs.lists.Order.{IsAscending}
use Rattle.mqtt_rules.specs.declared.step.Capacity.{Capacity}
use Rattle.mqtt_rules.specs.step.State.{Line, Broker, Env, stored, session_at, is_connected, MemberChoice}
use Rattle.mqtt_rules.specs.step.Deeds.{Whose, whose, Part, Resume, Open, Close, SetAlias, Hear, Deed, Name, At, Forget, RefuseWill, Link, On, Send, rows_of_all, after, after_all}
use Rattle.mqtt_rules.specs.step.Closing.{end_session, is_due, end_due, has_due_end}
use Rattle.mqtt_base.specs.Codes.{success}
use Rattle.mqtt_rules.specs.step.Packets.{connack}
use Rattle.mqtt_rules.specs.step.Connect.{expiry_of, will_of, greet, begin_named, connack_properties}
use Rattle.mqtt_rules.specs.step.Inbound.{pump_deeds}
use Rattle.mqtt_rules.specs.step.Outbound.{turn_deeds}
use Rattle.mqtt_rules.specs.step.Routing.{publish}
use Rattle.mqtt_rules.specs.step.Subscribe as sub
use Rattle.mqtt_rules.specs.step.Tick.{lapse_deeds}
use Rattle.mqtt_rules.specs.step.Laws.{IsAmong, IsCoherent, AreWithin, blank}
use Rattle.mqtt_rules.specs.step.Lines.{closed_at, HasUniqueLines}
use Rattle.mqtt_rules.specs.step.Numbers.{IsTimed}
use Rattle.mqtt_rules.specs.step.Step.{Call, deeds, env_of, at_moment, with_moment, stepped, is_step_spent, connected_in, shuts, settles, shuts_all, settles_all, opening, unopened, opened}
use Rattle.mqtt_rules.proofs.step_lemmas.acts.Goods.{AreGood, after_append, good_append, good_two, good_series, good_acts}
use Rattle.std.proofs.lemmas.Bool.{cases_Bool}
use Rattle.std.proofs.lemmas.Cmp.{nat_eq_equiv}
use Rattle.mqtt_rules.proofs.step_lemmas.flight.FlightRows.{found_key}
use Rattle.mqtt_rules.proofs.step_lemmas.acts.Leads.{Leads, row_among}
use Rattle.mqtt_rules.proofs.step_lemmas.numbers.Counters.{Counts, counts_deed}
use Rattle.mqtt_rules.proofs.step_lemmas.acts.Acts.{is_alone, closing, brought_to, MayEnd, IsPrepared, Law, leads_call}
use Rattle.mqtt_rules.proofs.step_lemmas.acts.ByDeeds.{by_deeds, turn_law}
use Rattle.mqtt_rules.proofs.step_lemmas.fit.Coherent.{Coheres, IsFit}
use Rattle.mqtt_rules.proofs.step_lemmas.fit.FitLaw.{Keeps, naming, fit_law, fit_mark, autos_grow, mapped_some}
use Rattle.mqtt_rules.proofs.step_lemmas.fit.RowsFit.{made_of, naming_call, moment_last, step_coherent}
use Rattle.mqtt_rules.proofs.step_lemmas.lines.LineRows.{IsStill, IsQuiet, leaves}
use Rattle.mqtt_rules.proofs.step_lemmas.lines.LineActs.{quiet_turn, quiet_pump, quiet_lapses, quiet_publish, quiet_grants, still_settle}
use Rattle.mqtt_rules.proofs.step_lemmas.lines.LineLaw.{here, unique_quiet, unique_linked, unique_closes, unique_ended, unique_resumed, unique_begun, closed_by_close}
use Rattle.mqtt_rules.proofs.step_lemmas.lines.LinePrepared.{cleared_shut, prepared_shut, named_is, named_stands}

-- ---- what is kept: on coherent records, as long as the numbers of assigned client identifiers aren't spent

abbrev pub Keep : Broker → Type 0
Keep b = Keeps b × (b.records.autos ≤ LAST_NUMBER → HasUniqueLines b)

grow : (ds : List Deed) (b : Broker) → AreGood IsFit ds b → b.records.autos ≤ (after_all ds b).records.autos
grow [] b fit = omega arith
grow (d ∷ ds) b fit =
    let one = autos_grow d b fit.0 in
    let is = ap (λ (c : Counts). c.autos) (counts_deed d b.records) in
    let more = grow ds (after d b) fit.1 in
    omega (arith, one, is, more)

-- a unit that fits, and keeps lines unique
led : (ds : List Deed) (b : Broker) → Keep b → Leads Keeps IsFit ds b → (b.records.autos ≤ LAST_NUMBER → HasUniqueLines b → HasUniqueLines (after_all ds b)) → Leads Keep IsFit ds b
led ds b k fit keeps = (fit.0, (fit.1, λ le. let up = grow ds b fit.0 in let small : b.records.autos ≤ LAST_NUMBER = omega (arith, le, up) in keeps small (k.1 small)))

quiet : (ds : List Deed) (b : Broker) → Keep b → Leads Keeps IsFit ds b → AreGood IsQuiet ds b → Leads Keep IsFit ds b
quiet ds b k fit q = led ds b k fit (λ le u. unique_quiet ds b q u)

quiet_alone : (who : Whose) (part : Part) (b : Broker) → is_alone part ≡ true → AreGood IsQuiet (At who part ∷ []) b
quiet_alone who (Resume expiry will) b is = absurd cc
quiet_alone who (Close moment) b is = absurd cc
quiet_alone who part b is = (tt, tt)

-- a session whose end is due isn't connected
due_shut : (s : Session) (b : Broker) → IsAscending birth_of b.records.sessions → IsAmong s b.records.sessions → has_due_end b.now s ≡ true → closed_at s.birth b.records ≡ Some None → ⊥
due_shut s b up among due is =
    let at : closed_at s.birth b.records ≡ Some s.closed = ap (option_map (λ (x : Session). x.closed)) (here s b.records up among) in
    let both : Some s.closed ≡ Some None = sym at ∙ is in
    let none : s.closed ≡ None = cc in
    open_ s.closed none due
  where
    open_ : (o : Option ℕ) → o ≡ None → is_due b.now (end_due o s.expiry) ≡ true → ⊥
    open_ None e due = absurd cc
    open_ (Some n) e due = absurd cc

module _ (env : Env) (within : AreWithin env.limits) where
  fit : Law env naming Keeps IsFit
  fit = by_deeds env naming Keeps IsFit (fit_law env within) (turn_law env naming Keeps IsFit (fit_law env within) fit_mark)

  coheres : (b : Broker) → Keep b → Coheres b.records
  coheres b k = k.0.0

  unique : (b : Broker) → Keep b → b.records.autos ≤ LAST_NUMBER → HasUniqueLines b
  unique b k le = k.1 le

  may_end : (s : Session) (b : Broker) → MayEnd env Keep s b → MayEnd env Keeps s b
  may_end s b may = elim may [
    | inl due ↦ inl due
    | inr x ↦ inr (record { client = x.client; before = x.before; kept = x.kept.0; other = x.other; found = x.found; its = x.its; is = x.is; named = x.named })
  ]

  was_prepared : (l : Line) (c : Greeting) (b : Broker) → IsPrepared env Keep l c b → IsPrepared env Keeps l c b
  was_prepared l c b x = record { before = x.before; kept = x.kept.0; on = x.on; is = x.is }

  shut : (s : Session) (b : Broker) → Keep b → IsAmong s b.records.sessions → MayEnd env Keep s b → b.records.autos ≤ LAST_NUMBER → closed_at s.birth b.records ≡ Some None → ⊥
  shut s b k among may le = elim may [
    | inl due ↦ due_shut s b k.0.0.ordered.sessions.ascending among due
    | inr x ↦ cleared_shut Keep coheres unique env s b k.0.0 x le
  ]

  begins : (t : Bool) (l : Line) (c : Greeting) (b : Broker) → Keep b → Leads Keeps IsFit (begin_named t l c b.records) b → l.session ≡ None → IsPrepared env Keep l c b → Leads Keep IsFit (begin_named t l c b.records) b
  begins false l c b k h none x =
      led (begin_named false l c b.records) b k h (λ le u. let free = (prepared_shut Keep coheres unique env l c b x le none).1 in
      let told = connack false success (connack_properties false c.client_identifier) in
      unique_quiet (Send l.number told ∷ []) _ (tt, tt) (unique_begun l c _ b h.0.0 k.0.0 free u))
  begins true l c b k h none x =
      let n = suc b.records.autos in
      let d = after (Name n) b in
      led (begin_named true l c b.records) b k h (λ le u. let free = (prepared_shut Keep coheres unique env l c b x le none).1 in
      let named : HasUniqueLines d = record { ascending = u.ascending; given = u.given; once = u.once; stands = u.stands; connected = u.connected } in
      let kept : Coheres d.records = ((fit_law env within).kept (Name n) b k.0 refl).0 in
      let told = connack false success (connack_properties true (auto ++ decimal n)) in
      unique_quiet (Send l.number told ∷ []) _ (tt, tt) (unique_begun l c _ d h.0.1.0 kept free named))

  line_law : Law env naming Keep IsFit
  line_law = record {
    finds = record {
      its_number = fit.finds.its_number;
      its_session = fit.finds.its_session;
      its_line = λ birth l b k its e. tt;
      named = λ client s b k its e. tt;
      admitted = λ c b k came e. fit.finds.admitted c b k.0 came e;
      sent = λ l s p topic b k its came e. tt;
      willed = λ s w b k among e. tt;
    };
    client_stays = λ client ds b k leads its. fit.client_stays client ds b k.0 (leads.0, leads.1.0) its;
    publishes = λ origin m ds b k said e. quiet (publish env origin m ds b) b k (fit.publishes origin m ds b k.0 said e) (quiet_publish env origin m ds b);
    open_id = λ s id m ds b k h its there new is. quiet (At (whose s) (Open id) ∷ []) _ h (fit.open_id s id m ds b k.0 h.0 its there new is) (tt, tt);
    refuse_will = λ who b k its. quiet (RefuseWill who ∷ []) b k (fit.refuse_will who b k.0 its) (tt, tt);
    alone = λ who part b k its is. quiet (At who part ∷ []) b k (fit.alone who part b k.0 its is) (quiet_alone who part b is);
    closes = λ keeps_will l b k its on. led (closing keeps_will l b) b k (fit.closes keeps_will l b k.0 its on) (λ le u. unique_closes keeps_will l b on u);
    ends = λ s b k its among may. led (end_session s) b k (fit.ends s b k.0 its among (may_end s b may)) (λ le u. unique_ended s b (shut s b k among may le) u);
    resumes = λ l c s b k its none came taken own is x. led (At (whose s) (Resume (expiry_of c) (will_of c)) ∷ greet l c s.birth ∷ []) b k (fit.resumes l c s b k.0 its none came taken own is (was_prepared l c b x))
        (λ le u. let both = prepared_shut Keep coheres unique env l c b x le none in
        let client = named_is c.client_identifier s b k.0.0 is in
        unique_resumed l c s b (named_stands c.client_identifier s b k.0.0 is) both.1 (both.0 s.birth client) u);
    begins = λ l c b k its none came taken name is room x. begins (is_empty c.client_identifier) l c b k (fit.begins l c b k.0 its none came taken name is room (was_prepared l c b x)) none x;
    grants = λ w s b k its asked granted. quiet (sub.granted_filter env (sub.next_number b.records) s w (brought_to w s b) b).deeds b k (fit.grants w s b k.0 its asked granted) (quiet_grants env w s b);
    pumps = λ l s b k its is there. quiet (pump_deeds l b s) b k (fit.pumps l s b k.0 its is there) (quiet_pump l s b);
    turns = λ a t l s b k its own there is e. quiet (turn_deeds b.now l.number s t) b k (fit.turns a t l s b k.0 its own there is e) (quiet_turn b.now l.number s t b);
    lapses = λ s b k among. quiet (lapse_deeds b.now s) b k (fit.lapses s b k.0 among) (quiet_lapses b.now s b);
    stale = λ x b k among. quiet (Forget x.place ∷ []) b k (fit.stale x b k.0 among) (tt, tt);
    links = λ b k can. led (Link (suc b.given) ∷ []) b k (fit.links b k.0 can) (λ le u. unique_linked b u);
    hears = λ n b k its. quiet (On n Hear ∷ []) b k (fit.hears n b k.0 its) (tt, tt);
    sets = λ n alias topic b k its said. quiet (On n (SetAlias alias topic) ∷ []) b k (fit.sets n alias topic b k.0 its said) (tt, tt);
    sends = λ n packet b k its. quiet (Send n packet ∷ []) b k (fit.sends n packet b k.0 its) (tt, tt);
  }

-- ---- a step

unique_stamped : (rows : List Change) (b : Broker) → HasUniqueLines b → HasUniqueLines (with_moment rows b)
unique_stamped [] b u = u
unique_stamped (x ∷ rows) b u = record { ascending = u.ascending; given = u.given; once = u.once; stands = u.stands; connected = u.connected }

stamped_autos : (rows : List Change) (b : Broker) → (with_moment rows b).records.autos ≡ b.records.autos
stamped_autos [] b = refl
stamped_autos (x ∷ rows) b = refl

-- a step keeps each session on at most one line, if no number is spent
pub step_unique : (limits : Capacity) (choice : MemberChoice) (now : ℕ) (call : Call) (b : Broker) → AreWithin limits → IsCoherent (stored b) → IsTimed b → IsNumber b.now → is_step_spent limits choice now call b ≡ false
    → HasUniqueLines b → HasUniqueLines (stepped limits choice now call b)
step_unique limits choice now call b within h timed last e u =
    let c = at_moment now b in
    let env = env_of limits choice b in
    let ds = deeds limits choice now call b in
    let rows = rows_of_all ds c.records in
    let d = after_all ds c in
    let before : HasUniqueLines c = record { ascending = u.ascending; given = u.given; once = u.once; stands = u.stands; connected = u.connected } in
    let all = leads_call env naming Keep IsFit (line_law env within) call c ((made_of b.records h, moment_last b now last), λ le. before) (naming_call call c) in
    let autos : d.records.autos ≤ LAST_NUMBER = subst (λ (n : ℕ). n ≤ LAST_NUMBER) (stamped_autos rows d) (step_coherent limits choice now call b within h timed last e).counters.autos in
    unique_stamped rows d (all.1.1 autos)

-- ---- an opening: no line stands, and each session that was connected is closed

still_shuts : (ss : List Session) (b : Broker) → AreGood IsStill (shuts_all ss b) b
still_shuts ss b = good_series IsStill (map shuts ss) (good_acts IsStill shuts (λ s c. (tt, tt)) ss) b

still_settles : (env : Env) (ss : List Session) (b : Broker) → AreGood IsStill (settles_all env ss b) b
still_settles env ss b = good_series IsStill (map (settles env) ss) (good_acts IsStill (settles env) (λ s. still_settle env s.birth) ss) b

-- an opening links no line, and connects no session
pub still_opening : (env : Env) (b : Broker) → AreGood IsStill (opening env b) b
still_opening env b =
    let ss = connected_in b.records in
    good_two IsStill (shuts_all ss) (settles_all env ss) b (still_shuts ss b) (still_settles env ss (after_all (shuts_all ss b) b))

-- one that is shut is connected no longer
shut_here : (s : Session) (b : Broker) → closed_at s.birth (after_all (shuts s b) b).records ≡ Some None → ⊥
shut_here s b e =
    let y = after_all (shuts s b) b in
    let was : closed_at s.birth b.records ≡ Some None = (leaves (shuts s b) b (tt, tt)).falls s.birth e in
    let now_is = closed_by_close (whose s) b.now s.birth b.records None was in
    let closed : closed_at s.birth y.records ≡ Some (Some b.now) = now_is ∙ ap (λ (t : Bool). cond t (Some (Some b.now)) (closed_at s.birth b.records)) (nat_eq_equiv.refl s.birth) in
    let clash : Some (Some b.now) ≡ Some None = sym closed ∙ e in
    absurd cc

-- who is connected once some were shut was connected before, and is none of them
still_connected : (ss : List Session) (b : Broker) (k : ℕ) → closed_at k (after_all (shuts_all ss b) b).records ≡ Some None
    → (closed_at k b.records ≡ Some None) × ((s : Session) → IsAmong s ss → s.birth ≡ k → ⊥)
still_connected [] b k e = (e, λ s among is. among)
still_connected (s ∷ ss) b k e =
    let first = shuts s b in
    let c = after_all first b in
    let more = still_connected ss c k (subst (λ (x : Broker). closed_at k x.records ≡ Some None) (after_append first (shuts_all ss c) b) e) in (
      (leaves first b (tt, tt)).falls k more.0,
      λ t among is. elim among [
        | inl it ↦
            let its : s.birth ≡ k = ap (λ (x : Session). x.birth) it ∙ is in
            shut_here s b (ap (λ (n : ℕ). closed_at n c.records) its ∙ more.0)
        | inr further ↦ more.1 t further is
      ],
    )

among_connected : (s : Session) (ss : List Session) → IsAmong s ss → is_connected s ≡ true → IsAmong s (filter is_connected ss)
among_connected s [] among on = among
among_connected s (x ∷ ss) among on = elim (cases_Bool (is_connected x)) [
  | inl its ↦ rw its (elim among [
    | inl it ↦ inl it
    | inr further ↦ inr (among_connected s ss further on)
  ])
  | inr other ↦ rw other (elim among [
    | inl it ↦
        let on_too : is_connected x ≡ true = ap is_connected it ∙ on in
        absurd cc
    | inr further ↦ among_connected s ss further on
  ])
]

-- once all that stood connected are shut, none is
pub none_connected : (b : Broker) (k : ℕ) → closed_at k (after_all (shuts_all (connected_in b.records) b) b).records ≡ Some None → ⊥
none_connected b k e =
    let r = b.records in
    let h = still_connected (connected_in r) b k e in
    let x = mapped_some (λ (s : Session). s.closed) (session_at k r) None h.0 in
    h.1 x.0 (among_connected x.0 r.sessions (row_among birth_of k x.0 r.sessions x.1) (ap is_none x.2)) (found_key birth_of k x.0 r.sessions x.1)

-- behind an opening nobody stands on a line
pub opening_unique : (limits : Capacity) (choice : MemberChoice) (now : ℕ) (r : Records) → HasUniqueLines (opened limits choice now r)
opening_unique limits choice now r =
    let b = unopened now r in
    let env = env_of limits choice b in
    let ss = connected_in r in
    let ds = opening env b in
    let c = after_all ds b in
    let left = leaves ds b (still_opening env b) in
    let y = after_all (shuts_all ss b) b in
    let rest = settles_all env ss y ++ [] in
    let from = leaves rest y (good_append IsStill (settles_all env ss y) [] y (still_settles env ss y) tt) in
    unique_stamped (rows_of_all ds b.records) c (record {
      ascending = left.ascending tt;
      given = left.below (suc c.given) tt;
      once = λ n m birth p q. let clash : None ≡ Some (Some birth) = sym (left.lines n) ∙ p in absurd cc;
      stands = λ n birth p. let clash : None ≡ Some (Some birth) = sym (left.lines n) ∙ p in absurd cc;
      connected = λ birth e. absurd (none_connected b birth (from.falls birth (subst (λ (x : Broker). closed_at birth x.records ≡ Some None) (after_append (shuts_all ss b) rest b) e)));
    })

-- before the first event
pub blank_unique : HasUniqueLines blank
blank_unique = record {
  ascending = tt;
  given = tt;
  once = λ n m birth p q. absurd cc;
  stands = λ n birth p. absurd cc;
  connected = λ birth e. absurd cc;
}
