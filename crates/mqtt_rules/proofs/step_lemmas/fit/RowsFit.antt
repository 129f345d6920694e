-- The rows of every step and every opening fit, and leave records coherent.
use Rattle.std.proofs.Common.{◌≡◌, ℕ, ◌≤◌, false, List, [], ◌∷◌, nat_eq, refl, sym, ap, subst, ◌∙◌, arith, inl, inr}
use Rattle.std.proofs.lemmas.Bool.{cases_Bool}
use Rattle.std.specs.List.{AllByRecursion}
use Rattle.mqtt_records.specs.declared.state.session.Session.{Session}
use Rattle.std.proofs.Math.Nat.{max-le, le-min, min-le_right, le-max_left}
use Rattle.mqtt_base.specs.declared.limits.TheConstants.{LAST_NUMBER, QUEUE_LIMIT}
use Rattle.mqtt_records.specs.declared.state.records.Records.{Records}
use Rattle.mqtt_records.specs.declared.state.change.Change.{Change}
use Rattle.mqtt_records.specs.state.Records.{nothing, changed_all, FitAll, IsNumber}
use Rattle.mqtt_rules.specs.declared.step.Capacity.{Capacity}
use Rattle.mqtt_rules.specs.step.State.{Broker, Env, stored, MemberChoice, capped}
use Rattle.mqtt_rules.specs.step.Deeds.{Deed, rows_of_all, after_all}
use Rattle.mqtt_rules.specs.step.Step.{Call, NewLine, Input, BadInput, Lost, Pump, Tick, deeds, deeds_of, at_moment, env_of, stamp_of, stamped, rows_written, with_moment, done, stepped, is_spent, is_step_spent, opening, opening_deeds, unopened, opened, is_opening_spent}
use Rattle.mqtt_rules.specs.step.Numbers.{IsTimed}
use Rattle.mqtt_rules.specs.step.Laws.{HasTables, IsCoherent, AreWithin}
use Rattle.mqtt_rules.proofs.step_lemmas.acts.Goods.{AreGood}
use Rattle.mqtt_rules.proofs.step_lemmas.acts.Acts.{Law, IsCallOf, leads_call, leads_opening}
use Rattle.mqtt_rules.proofs.step_lemmas.acts.ByDeeds.{by_deeds, turn_law, by_deeds_shuts}
use Rattle.mqtt_rules.proofs.step_lemmas.fit.StoredLaw.{stored_after_all}
use Rattle.mqtt_rules.proofs.step_lemmas.numbers.Counters.{counts, moment_stays, now_stays}
use Rattle.mqtt_rules.proofs.step_lemmas.order.Ordered.{nothing-ordered}
use Rattle.mqtt_rules.proofs.step_lemmas.order.OrderedActs.{leads_all, leads_open}
use Rattle.mqtt_rules.proofs.step_lemmas.order.OrderedEnters.{ShortQueues, RoomToEnter, AreShort}
use Rattle.mqtt_rules.proofs.step_lemmas.order.OrderedFull.{queues_keeping}
use Rattle.mqtt_rules.proofs.step_lemmas.fit.Turns.{Stands}
use Rattle.mqtt_rules.proofs.step_lemmas.fit.StandLaw.{stands_call, stands_opening}
use Rattle.mqtt_rules.proofs.step_lemmas.fit.Coherent.{Coheres, IsFit}
use Rattle.mqtt_rules.proofs.step_lemmas.fit.FitLaw.{Keeps, naming, fit_law, fit_mark}
use Rattle.mqtt_rules.proofs.step_lemmas.fit.FitRows.{AreNumbers, fits_all, fit_append, unspent_append}

-- ---- what is asked, and what the deeds keep

-- coherent records have all that the walk over deeds asks of them
pub made_of : (r : Records) → IsCoherent r → Coheres r
made_of r h = record { ordered = h.ordered; clients = λ le. h.clients; topics = h.topics; births = h.births; sessions = h.sessions; retained = h.retained }

numbers_of : (r : Records) → IsCoherent r → AreNumbers (counts r)
numbers_of r h = record { births = h.counters.births; publications = h.counters.publications; subscribes = h.counters.subscribes; autos = h.counters.autos }

coherent : (r : Records) → Coheres r → AreNumbers (counts r) → IsNumber r.moment → IsCoherent r
coherent r h n moment = record {
  ordered = h.ordered;
  clients = h.clients n.autos;
  topics = h.topics;
  births = h.births;
  sessions = h.sessions;
  retained = h.retained;
  counters = record { moment = moment; births = n.births; publications = n.publications; subscribes = n.subscribes; autos = n.autos };
}

-- ---- the moment's row

stamped_unspent : (now was : ℕ) (rows : List Change) → is_spent (stamped now was rows) ≡ false → is_spent rows ≡ false
stamped_unspent now was [] e = refl
stamped_unspent now was (x ∷ rows) e = (unspent_append (x ∷ rows) (stamp_of now was) e).0

stamp_fits : (now was : ℕ) (r : Records) → r.moment ≤ now → IsNumber now → FitAll (stamp_of now was) r
stamp_fits now was r le last = elim (cases_Bool (nat_eq now was)) [
  | inl same ↦ rw same tt
  | inr other ↦ rw other ((le, last), tt)
]

stamped_fits : (now was : ℕ) (rows : List Change) (r : Records) → FitAll rows r → (changed_all rows r).moment ≤ now → IsNumber now → FitAll (stamped now was rows) r
stamped_fits now was [] r fit le last = tt
stamped_fits now was (x ∷ rows) r fit le last = fit_append (x ∷ rows) (stamp_of now was) r fit (stamp_fits now was (changed_all (x ∷ rows) r) le last)

coherent_stamped : (rows : List Change) (b : Broker) → IsNumber b.now → IsCoherent b.records → IsCoherent (with_moment rows b).records
coherent_stamped [] b last h = h
coherent_stamped (x ∷ rows) b last h = record {
  ordered = record { sessions = h.ordered.sessions; each = h.ordered.each; retained = h.ordered.retained };
  clients = h.clients;
  topics = h.topics;
  births = h.births;
  sessions = h.sessions;
  retained = h.retained;
  counters = record { moment = last; births = h.counters.births; publications = h.counters.publications; subscribes = h.counters.subscribes; autos = h.counters.autos };
}

-- ---- deeds that are done

-- what the walk over the deeds of a step is begun with
pub record Ready (ds : List Deed) (b : Broker) : Type 0 where
  pub records : IsCoherent b.records
  pub timed : IsTimed b
  pub last : IsNumber b.now
  pub fit : AreGood IsFit ds b
  pub room : AreGood RoomToEnter ds b
  pub stands : AreGood Stands ds b

done_fits : (ds : List Deed) (b : Broker) → Ready ds b → is_spent (rows_written ds b) ≡ false → FitAll (rows_written ds b) b.records × IsCoherent (done ds b).records
done_fits ds b ready e =
    let r = b.records in
    let rows = rows_of_all ds r in
    let made = fits_all ds b (made_of r ready.records) ready.fit ready.room ready.stands (numbers_of r ready.records) (stamped_unspent b.now r.moment rows e) in
    let stays : (changed_all rows r).moment ≡ r.moment = ap (λ (x : Records). x.moment) (stored_after_all ds b) ∙ moment_stays ds b in
    let timed = ready.timed in
    let moment : IsNumber (after_all ds b).records.moment = subst IsNumber (sym (moment_stays ds b)) ready.records.counters.moment in (
      stamped_fits b.now r.moment rows r made.0 (omega (arith, stays, timed)) ready.last,
      coherent_stamped rows (after_all ds b) (subst IsNumber (sym (now_stays ds b)) ready.last) (coherent (after_all ds b).records made.1 made.2 moment),
    )

-- ---- steps

-- each call does what the walk over deeds asks of a call that may give names
pub naming_call : (call : Call) (b : Broker) → IsCallOf naming call b
naming_call NewLine b = tt
naming_call (Input n packet) b = ((λ l e. tt), tt)
naming_call (BadInput n is_connect code) b = λ l e. tt
naming_call (Lost n) b = λ l e. tt
naming_call (Pump n) b = λ l e. tt
naming_call Tick b = record { silent = λ l e. tt; wills = λ s e. tt; ends = λ s e. tt }

-- within the tables no queue is longer than a queue may be
pub queues_short : (ss : List Session) → AllByRecursion HasTables ss → AreShort QUEUE_LIMIT ss
queues_short [] h = tt
queues_short (s ∷ ss) h = (h.0.queue.within, queues_short ss h.1)

module _ (env : Env) (within : AreWithin env.limits) (b : Broker) (h : IsCoherent b.records) (timed : IsTimed b) (last : IsNumber b.now) where
  keeps : Keeps b
  keeps = (made_of b.records h, last)

  law : Law env naming Keeps IsFit
  law = by_deeds env naming Keeps IsFit (fit_law env within) (turn_law env naming Keeps IsFit (fit_law env within) fit_mark)

  short : ShortQueues QUEUE_LIMIT b.records
  short = record { ordered = h.ordered; short = queues_short b.records.sessions h.ordered.each }

  ready_call : (call : Call) → Ready (deeds_of env call b) b
  ready_call call = record {
    records = h;
    timed = timed;
    last = last;
    fit = (leads_call env naming Keeps IsFit law call b keeps (naming_call call b)).0;
    room = (leads_all env (ShortQueues QUEUE_LIMIT) RoomToEnter (queues_keeping QUEUE_LIMIT env within.queue within.queue) call b short).0;
    stands = stands_call env call b h.ordered;
  }

  ready_opening : Ready (opening env b) b
  ready_opening = record {
    records = h;
    timed = timed;
    last = last;
    fit = (leads_opening env naming Keeps IsFit law (by_deeds_shuts env naming Keeps IsFit (fit_law env within) (λ birth. tt)) (λ birth. tt) b keeps).0;
    room = (leads_open env (ShortQueues QUEUE_LIMIT) RoomToEnter (queues_keeping QUEUE_LIMIT env within.queue within.queue) b short).0;
    stands = stands_opening env b h.ordered;
  }

-- the moment of a step is one that is kept
pub moment_last : (b : Broker) (now : ℕ) → IsNumber b.now → IsNumber (at_moment now b).now
moment_last b now last = max-le last (min-le_right now LAST_NUMBER)

moment_timed : (b : Broker) (now : ℕ) → IsTimed b → IsTimed (at_moment now b)
moment_timed b now timed = let more = le-max_left b.now (capped now) in omega (arith, timed, more)

step_made : (limits : Capacity) (choice : MemberChoice) (now : ℕ) (call : Call) (b : Broker) → AreWithin limits → IsCoherent (stored b) → IsTimed b → IsNumber b.now → is_step_spent limits choice now call b ≡ false
    → FitAll (rows_written (deeds limits choice now call b) (at_moment now b)) (stored b) × IsCoherent (stored (stepped limits choice now call b))
step_made limits choice now call b within h timed last e =
    done_fits (deeds limits choice now call b) (at_moment now b)
    (ready_call (env_of limits choice b) within (at_moment now b) h (moment_timed b now timed) (moment_last b now last) call) e

-- the rows of a step fit what is stored, if no number is spent
pub step_fits : (limits : Capacity) (choice : MemberChoice) (now : ℕ) (call : Call) (b : Broker) → AreWithin limits → IsCoherent (stored b) → IsTimed b → IsNumber b.now → is_step_spent limits choice now call b ≡ false
    → FitAll (rows_written (deeds limits choice now call b) (at_moment now b)) (stored b)
step_fits limits choice now call b within h timed last e = (step_made limits choice now call b within h timed last e).0

-- a step leaves coherent records, if no number is spent
pub step_coherent : (limits : Capacity) (choice : MemberChoice) (now : ℕ) (call : Call) (b : Broker) → AreWithin limits → IsCoherent (stored b) → IsTimed b → IsNumber b.now → is_step_spent limits choice now call b ≡ false
    → IsCoherent (stored (stepped limits choice now call b))
step_coherent limits choice now call b within h timed last e = (step_made limits choice now call b within h timed last e).1

stamped_now : (rows : List Change) (b : Broker) → (with_moment rows b).now ≡ b.now
stamped_now [] b = refl
stamped_now (x ∷ rows) b = refl

-- the moment behind a step is one that is kept
pub step_last : (limits : Capacity) (choice : MemberChoice) (now : ℕ) (call : Call) (b : Broker) → IsNumber b.now → IsNumber (stepped limits choice now call b).now
step_last limits choice now call b last =
    let c = at_moment now b in
    let ds = deeds limits choice now call b in
    subst IsNumber (sym (stamped_now (rows_of_all ds c.records) (after_all ds c) ∙ now_stays ds c)) (moment_last b now last)

-- ---- openings

opening_last : (r : Records) (now : ℕ) → IsNumber (unopened now r).now
opening_last r now = max-le (min-le_right r.moment LAST_NUMBER) (min-le_right now LAST_NUMBER)

opening_timed : (r : Records) (now : ℕ) → IsNumber r.moment → IsTimed (unopened now r)
opening_timed r now last =
    let up = le-min {k = r.moment} {a = r.moment} {b = LAST_NUMBER} (omega arith) last in
    let more = le-max_left (capped r.moment) (capped now) in
    omega (arith, up, more)

opening_made : (limits : Capacity) (choice : MemberChoice) (now : ℕ) (r : Records) → AreWithin limits → IsCoherent r → is_opening_spent limits choice now r ≡ false
    → FitAll (rows_written (opening_deeds limits choice now r) (unopened now r)) r × IsCoherent (stored (opened limits choice now r))
opening_made limits choice now r within h e =
    let b = unopened now r in
    done_fits (opening_deeds limits choice now r) b (ready_opening (env_of limits choice b) within b h (opening_timed r now h.counters.moment) (opening_last r now)) e

-- the rows of an opening fit what is stored, if no number is spent
pub opening_fits : (limits : Capacity) (choice : MemberChoice) (now : ℕ) (r : Records) → AreWithin limits → IsCoherent r → is_opening_spent limits choice now r ≡ false
    → FitAll (rows_written (opening_deeds limits choice now r) (unopened now r)) r
opening_fits limits choice now r within h e = (opening_made limits choice now r within h e).0

-- an opening leaves coherent records, if no number is spent
pub opening_coherent : (limits : Capacity) (choice : MemberChoice) (now : ℕ) (r : Records) → AreWithin limits → IsCoherent r → is_opening_spent limits choice now r ≡ false
    → IsCoherent (stored (opened limits choice now r))
opening_coherent limits choice now r within h e = (opening_made limits choice now r within h e).1

-- the moment behind an opening is one that is kept
pub opened_last : (limits : Capacity) (choice : MemberChoice) (now : ℕ) (r : Records) → IsNumber (opened limits choice now r).now
opened_last limits choice now r =
    let c = unopened now r in
    let ds = opening_deeds limits choice now r in
    subst IsNumber (sym (stamped_now (rows_of_all ds c.records) (after_all ds c) ∙ now_stays ds c)) (opening_last r now)

-- ---- before the first session

-- nothing stored is coherent
pub nothing_coherent : IsCoherent nothing
nothing_coherent = record {
  ordered = nothing-ordered;
  clients = λ j k x p q. absurd cc;
  topics = λ j k x p q. absurd cc;
  births = tt;
  sessions = tt;
  retained = tt;
  counters = record { moment = omega arith; births = omega arith; publications = omega arith; subscribes = omega arith; autos = omega arith };
}
