-- A Will is published when it is due, and not later than a turn of the clock finds nothing to do.
use Rattle.std.proofs.Common.{◌≡◌, ◌≢◌, ◌⊎◌, ℕ, ◌≤◌, ◌*◌, min, Bool, true, false, cond, List, [], ◌∷◌, ◌++◌, map, nat_eq, nat_le, Option, Some, None, refl, sym, ap, subst, ◌∙◌, inl, inr, arith}
use Rattle.std.specs.Prelude.{find, option_map}
use Rattle.std.specs.List.{AllByRecursion}
use Rattle.std.proofs.lemmas.Bool.{cases_Bool, leb-false, leb-true}
use Rattle.std.proofs.lemmas.Cmp.{nat_eq_equiv}
use Rattle.mqtt_base.specs.declared.session.Ending.TheVariants.{SessionEnded}
use Rattle.mqtt_packet.specs.declared.codec.packet.Packet.TheVariants.{Connect}
use Rattle.mqtt_packet.specs.declared.connect.connect.Connect.{Connect as Greeting}
use Rattle.mqtt_records.specs.declared.messages.message.RetainedMessage.{RetainedMessage}
use Rattle.mqtt_records.specs.declared.messages.message.Will.{Will}
use Rattle.mqtt_records.specs.declared.state.session.Session.{Session}
use Rattle.mqtt_rules.specs.step.Closing.{earlier, end_session, has_due_end, has_due_will, is_due, never, publish_or_refuse, publish_will, will_deeds, will_due, will_message}
use Rattle.mqtt_rules.specs.step.Connect.{begin_named, will_of}
use Rattle.mqtt_rules.specs.step.Deeds.{Accept, Act, At, Begin, Deed, DropWill, Finish, Forget, FromWill, Leave, Resume, after, after_all, always, whose}
use Rattle.mqtt_rules.specs.step.Laws.{Asked as calls, Event, Reopened}
use Rattle.mqtt_rules.specs.step.Routing.{CopyTo, accepted_copies, next_publication}
use Rattle.mqtt_rules.specs.step.State.{Broker, Env, Line, later, session_at}
use Rattle.mqtt_rules.specs.step.Step.{Input, env_of, unopened}
use Rattle.mqtt_rules.specs.step.Tick.{due, first_due, has_lapsed, is_silent, is_stale, lapse_deeds, on_tick, silence}
use Rattle.mqtt_rules.proofs.step_lemmas.acts.Leads.{found_passes}
use Rattle.mqtt_rules.proofs.step_lemmas.numbers.Copies.{each_append}
use Rattle.mqtt_world_laws.specs.acceptance.Entries.{Moment, moments_of}
use Rattle.mqtt_world_laws.specs.acceptance.Fair.{IsSteady}
use Rattle.mqtt_world_laws.specs.causes.Endings.{Asked}
use Rattle.mqtt_world_laws.specs.of_calls.Calls.{BeginsInOrder, SpendNone, asked_at, asked_in_all}
use Rattle.mqtt_world_laws.proofs.of_calls_lemmas.Events.{each_asked}
use Rattle.mqtt_world_laws.proofs.unasked_lemmas.Traces.{moments_append}
use Rattle.mqtt_run_laws.specs.wills.Due.{EachHasItsGround, EndsByCleanStart, HasItsGround, HasPassed, IsWillOfConnect, LeavesNoDueWill}
use Rattle.mqtt_run_laws.proofs.wills_lemmas.EachCall.{SaysWills, call_said, opening_said}
use Rattle.mqtt_run_laws.proofs.wills_lemmas.Quiet.{AreQuiet, IsQuiet, published_rest, quiet_ends, quiet_rest}

-- ---- not earlier

-- the earlier of two moments has come, so one of them has
one_has_come : (a b now : ℕ) → min a b ≤ now → (a ≤ now) ⊎ (b ≤ now)
one_has_come a b now h = elim (cases_Bool (nat_le a now)) [
  | inl first ↦ inl (leb-true a now first)
  | inr second ↦ elim (cases_Bool (nat_le b now)) [
    | inl last ↦ inr (leb-true b now last)
    | inr neither ↦ absurd (omega (arith, h, leb-false a now second, leb-false b now neither))
  ]
]

passed : (s : Session) (w : Will) (now : ℕ) → s.will ≡ Some w → has_due_will now s ≡ true → HasPassed s w now
passed s w now some due = by s.closed refl (subst (λ (o : Option Will). is_due now (will_due s.closed s.expiry o) ≡ true) some due)
  where
    by_end : (closed : ℕ) (t : Bool) → nat_eq s.expiry never ≡ t → nat_le (earlier (later closed (1000 * w.delay)) (cond t None (Some (later closed (1000 * s.expiry))))) now ≡ true
        → (later closed (1000 * w.delay) ≤ now) ⊎ ((s.expiry ≢ never) × (later closed (1000 * s.expiry) ≤ now))
    by_end closed true is le = inl (leb-true (later closed (1000 * w.delay)) now le)
    by_end closed false is le = elim (one_has_come (later closed (1000 * w.delay)) (later closed (1000 * s.expiry)) now (leb-true (min (later closed (1000 * w.delay)) (later closed (1000 * s.expiry))) now le)) [
      | inl first ↦ inl first
      | inr second ↦ inr ((λ same. not_never same), second)
    ]
      where
        not_never : s.expiry ≡ never → ⊥
        not_never same = let yes : nat_eq s.expiry never ≡ true = ap (λ (n : ℕ). nat_eq n never) same ∙ nat_eq_equiv.refl never in let no : true ≡ false = sym yes ∙ is in absurd cc

    by : (o : Option ℕ) → s.closed ≡ o → is_due now (will_due o s.expiry (Some w)) ≡ true → HasPassed s w now
    by None is le = absurd cc
    by (Some closed) is le = (closed, is, by_end closed (nat_eq s.expiry never) refl le)

module _ (x : Asked) (env : Env) where
  abbrev Whens : List Deed → Broker → Type 0
  Whens ds b = AllByRecursion (λ (m : Moment). HasItsGround x.call m.deed m.broker) (moments_of env ds b)

  whens_next : (xs ys : List Deed) (b : Broker) → Whens xs b → Whens ys (after_all xs b) → Whens (xs ++ ys) b
  whens_next xs ys b p q =
      subst (λ (ms : List Moment). AllByRecursion (λ (m : Moment). HasItsGround x.call m.deed m.broker) ms) (sym (moments_append x.call env xs ys b))
      (each_append (λ (m : Moment). HasItsGround x.call m.deed m.broker) (moments_of env xs b) (moments_of env ys (after_all xs b)) p q)

  quiet_when : (d : Deed) (b : Broker) → IsQuiet d → HasItsGround x.call d b
  quiet_when (Accept number FromWill m) b h = absurd h
  quiet_when (Begin row will) b h = absurd h
  quiet_when (At who (Resume expiry will)) b h = absurd h
  quiet_when d b h = tt

  whens_quiet : (ds : List Deed) (b : Broker) → AreQuiet ds → Whens ds b
  whens_quiet [] b h = tt
  whens_quiet (d ∷ ds) b h = (quiet_when d b h.0, whens_quiet ds (after d b) h.1)

  whens_will : (s : Session) (b : Broker) → session_at s.birth b.records ≡ Some s → (has_due_will b.now s ≡ true) ⊎ EndsByCleanStart x.call s → Whens (publish_will env s b) b
  whens_will s b there why = by s.will refl
    where
      when : (w : Will) → s.will ≡ Some w → (has_due_will b.now s ≡ true) ⊎ EndsByCleanStart x.call s → HasPassed s w b.now ⊎ EndsByCleanStart x.call s
      when w some (inl due) = inl (passed s w b.now some due)
      when w some (inr clean) = inr clean

      first : (w : Will) → s.will ≡ Some w → (o : Option (List CopyTo)) → Whens (publish_or_refuse env (whose s) (will_message s.client w) o b) b
      first w some None = (tt, tt)
      first w some (Some ds) =
          let m = will_message s.client w in
          let one = Accept (next_publication b.records) FromWill m in
          (record { session = s; stands = there; will = w; its = some; message = refl; due = when w some why }, whens_quiet (published_rest env FromWill m ds b) (after one b) (quiet_rest env FromWill m ds b))

      by : (o : Option Will) → s.will ≡ o → Whens (will_deeds env (whose s) o b) b
      by None none = tt
      by (Some w) some =
          let ds = publish_or_refuse env (whose s) (will_message s.client w) (accepted_copies env (will_message s.client w) b) b in
          whens_next ds (At (whose s) DropWill ∷ []) b (first w some (accepted_copies env (will_message s.client w) b)) (tt, tt)

  whens_end : (s : Session) (b : Broker) → Whens (end_session s) b
  whens_end s b =
      let leaves : List Deed = map (λ e. At (whose s) (Leave e SessionEnded)) s.queue in
      whens_next leaves (Finish (whose s) ∷ []) b (whens_quiet leaves b (quiet_ends s s.queue)) (tt, tt)

  asked_for : (n : ℕ) (c : Greeting) → x.call ≡ Some (Input n (Connect c)) → IsWillOfConnect x.call (will_of c)
  asked_for n c read = record { number = n; packet = c; read = read; is = refl }

  whens_begin : (n : ℕ) (c : Greeting) (l : Line) (t : Bool) (b : Broker) → x.call ≡ Some (Input n (Connect c)) → Whens (begin_named t l c b.records) b
  whens_begin n c l false b read = (asked_for n c read, (tt, (tt, tt)))
  whens_begin n c l true b read = (tt, (asked_for n c read, (tt, (tt, tt))))

  says : SaysWills x env Whens
  says = record {
    quiet = whens_quiet;
    next = whens_next;
    publishes = whens_will;
    ends = λ s b there none. whens_end s b;
    clears = λ s t b order named found. whens_end t (after_all (publish_will env s b) b);
    drops = λ s b there goodbye. (tt, tt);
    resumes = λ n c s b read there. (asked_for n c read, tt);
    begins = whens_begin;
  }

event_grounded : (e : Event) (b : Broker) → IsSteady b → EachHasItsGround (asked_at e b)
event_grounded (calls limits choice now call) b s =
    let x = asked_at (calls limits choice now call) b in
    let env = env_of limits choice b in
    call_said x env (Whens x env) (says x env) call refl s.coherent.ordered
event_grounded (Reopened limits choice now) b s =
    let x = asked_at (Reopened limits choice now) b in
    let c = unopened now b.records in
    let env = env_of limits choice c in
    opening_said x env (Whens x env) (says x env) c s.coherent.ordered

-- in each step of any calls and openings
pub all_grounded : (events : List Event) (b : Broker) → BeginsInOrder b → SpendNone events b → AllByRecursion EachHasItsGround (asked_in_all events b)
all_grounded events b begins fair = each_asked EachHasItsGround (λ e c f s. event_grounded e c s) events b fair begins.steady

-- ---- not later

silence_does : (env : Env) (o : Option ℕ) (l : Line) (b : Broker) → silence env o l b ≡ [] → ⊥
silence_does env None l b e = absurd cc
silence_does env (Some birth) l b e = absurd cc

behind : (ds : List Deed) (d : Deed) → ds ++ d ∷ [] ≡ [] → ⊥
behind [] d e = absurd cc
behind (y ∷ ds) d e = absurd cc

will_does : (env : Env) (s : Session) (b : Broker) → has_due_will b.now s ≡ true → publish_will env s b ≡ [] → ⊥
will_does env s b due = by s.closed s.will due
  where
    by : (closed : Option ℕ) (o : Option Will) → is_due b.now (will_due closed s.expiry o) ≡ true → will_deeds env (whose s) o b ≡ [] → ⊥
    by None o come e = absurd cc
    by (Some closed) None come e = absurd cc
    by (Some closed) (Some w) come e =
        let m = will_message s.client w in
        behind (publish_or_refuse env (whose s) m (accepted_copies env m b) b) (At (whose s) DropWill) e

nobody : {X : Type 0} (test : X → Bool) (xs : List X) → find test xs ≡ None → AllByRecursion (λ (y : X). test y ≡ false) xs
nobody test [] e = tt
nobody test (y ∷ ys) e = elim (cases_Bool (test y)) [
  | inl here ↦ let some : Some y ≡ None = rw here at e in absurd cc
  | inr other ↦ (other, nobody test ys (rw other at e))
]

-- where a turn of the clock does nothing, nobody has a Will that is due
pub none_is_due : (env : Env) (b : Broker) → LeavesNoDueWill env b
none_is_due env b = by (find (λ (l : Line). is_silent b.now l.session l) b.lines) (find (has_due_will b.now) b.records.sessions) refl
  where
    rest : List (Option Act)
    rest =
        option_map (λ (s : Session). always (end_session s)) (find (has_due_end b.now) b.records.sessions)
        ∷ option_map (λ (k : RetainedMessage). always (Forget k.place ∷ [])) (find (is_stale b.now) b.records.retained)
        ∷ option_map (λ (s : Session). always (lapse_deeds b.now s)) (find (has_lapsed b.now) b.records.sessions) ∷ []

    by : (o : Option Line) (p : Option Session) → find (has_due_will b.now) b.records.sessions ≡ p
        → on_tick (first_due (option_map (λ (l : Line). silence env l.session l) o ∷ option_map (publish_will env) p ∷ rest)) b ≡ [] → AllByRecursion (λ (s : Session). has_due_will b.now s ≡ false) b.records.sessions
    by (Some l) p is e = absurd (silence_does env l.session l b e)
    by None (Some s) is e = absurd (will_does env s b (found_passes (has_due_will b.now) s b.records.sessions is) e)
    by None None is e = nobody (has_due_will b.now) b.records.sessions is
