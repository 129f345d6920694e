-- Each Will stands, or has had exactly one end: over each kind of deeds, each step, and all calls.
use Rattle.std.proofs.Common.{◌≡◌, ℕ, suc, ◌≤◌, Bool, true, false, cond, ◌&&◌, List, [], ◌∷◌, ◌++◌, length, map, nat_eq, nat_lt, bytes_eq, Option, Some, None, refl, sym, ap, subst, ◌∙◌, inl, inr}
use Rattle.std.specs.Prelude.{decimal, option_map}
use Rattle.std.specs.List.{AllByRecursion}
use Rattle.std.proofs.lemmas.Bool.{cases_Bool, eqb-true}
use Rattle.std.proofs.lemmas.Cmp.{nat_eq_equiv}
use Rattle.std.proofs.lemmas.Slice.Eq.{bytes_eq-Decides}
use Rattle.std.proofs.Math.Nat.{max-le, min-le_right}
use Rattle.mqtt_base.specs.Codes.{success}
use Rattle.mqtt_base.specs.declared.limits.TheConstants.{LAST_NUMBER, SESSION_LIMIT}
use Rattle.mqtt_base.specs.declared.session.Ending.TheVariants.{SessionEnded}
use Rattle.mqtt_packet.specs.declared.connect.connect.Connect.{Connect as Greeting}
use Rattle.mqtt_records.specs.declared.messages.message.Will.{Will}
use Rattle.mqtt_records.specs.declared.state.session.Columns.{Columns}
use Rattle.mqtt_records.specs.declared.state.session.Session.{Session}
use Rattle.mqtt_records.specs.lists.Order.{has_row}
use Rattle.mqtt_records.specs.declared.state.records.Records.{Records}
use Rattle.mqtt_records.specs.state.Records.{IsNumber}
use Rattle.mqtt_records.specs.state.Session.{auto, birth_of}
use Rattle.mqtt_rules.specs.step.Closing.{end_session, publish_or_refuse, publish_will, will_deeds, will_message}
use Rattle.mqtt_rules.specs.step.Connect.{begin, begin_named, connack_properties, expiry_of, fresh_row, greet, will_of as will_asked}
use Rattle.mqtt_rules.specs.step.Deeds.{Accept, At, Begin, Deed, DropWill, Finish, FromWill, Leave, Name, RefuseWill, Resume, Send, after, after_all, rows_of_all, whose}
use Rattle.mqtt_rules.specs.step.Laws.{Asked as calls, Event, IsUnique, Reopened, after_event, after_events, client_at}
use Rattle.mqtt_rules.specs.step.Packets.{connack}
use Rattle.mqtt_rules.specs.step.Routing.{CopyTo, accepted_copies, next_publication}
use Rattle.mqtt_rules.specs.step.State.{Broker, Env, Line, session_at, session_named}
use Rattle.mqtt_rules.specs.step.Step.{at_moment, deeds, env_of, opening, unopened}
use Rattle.mqtt_rules.proofs.step_lemmas.acts.Goods.{after_append}
use Rattle.mqtt_rules.proofs.step_lemmas.acts.Leads.{found_among, found_passes}
use Rattle.mqtt_rules.proofs.step_lemmas.fit.Coherent.{IsFitRow, no_session, or_right}
use Rattle.mqtt_rules.proofs.step_lemmas.fit.FitLaw.{all_among}
use Rattle.mqtt_rules.proofs.step_lemmas.fit.RowsFit.{made_of, moment_last}
use Rattle.mqtt_rules.proofs.step_lemmas.fit.StandLaw.{Orders}
use Rattle.mqtt_rules.proofs.step_lemmas.flight.FlightRows.{all_found}
use Rattle.mqtt_world_laws.specs.acceptance.Fair.{IsSteady}
use Rattle.mqtt_world_laws.specs.causes.Endings.{Asked}
use Rattle.mqtt_world_laws.specs.of_calls.Calls.{BeginsInOrder, SpendNone, SpendsNone, asked_at, asked_in_all}
use Rattle.mqtt_world_laws.proofs.of_calls_lemmas.Events.{event_steady}
use Rattle.mqtt_run_laws.specs.wills.Fates.{Cancelled, Dropped, EachWillStandsOrEnded, WillEnd, HasOneEnd, Published, Refused, StandOrEnded, StoredWill, with_end, is_client, says_goodbye, stored_with, taken_with, will_held, held_if, wills_after, wills_in, wills_over}
use Rattle.mqtt_run_laws.proofs.wills_lemmas.EachCall.{SaysWills, call_said, opening_said}
use Rattle.mqtt_run_laws.proofs.wills_lemmas.Ledger.{ended_once, quiet_in, stored_stands, taken_ends, wills_append}
use Rattle.mqtt_run_laws.proofs.wills_lemmas.Quiet.{AreQuiet, published_rest, quiet_ends, quiet_rest}
use Rattle.mqtt_run_laws.proofs.wills_lemmas.Steps.{Fine, call_fits, clients_differ, fine_first, fine_rest, moment_autos, moment_wills, opening_fits}
use Rattle.mqtt_run_laws.proofs.wills_lemmas.Stored.{begun, clients_stay, dropped, finished, quiet_wills, resumed, will_beside, will_gone}

module _ (k : ℕ) (x : Asked) where
  -- from whatever has become of the Wills of the session before
  abbrev Goes : List StoredWill → Broker → List StoredWill → Broker → Type 0
  Goes ws b us c = StandOrEnded (will_held k b.records) ws → StandOrEnded (will_held k c.records) us

  abbrev Tells : List Deed → Broker → Type 0
  Tells ds b = Fine ds b → (ws : List StoredWill) → Goes ws b (wills_in k x ds b ws) (after_all ds b)

  -- by what the deeds make of the Wills that were stored, and of the one that stands
  told : (ds : List Deed) (b : Broker) (o : Option Will) (ws us : List StoredWill) → wills_in k x ds b ws ≡ us → will_held k (after_all ds b).records ≡ o → StandOrEnded o us → StandOrEnded (will_held k (after_all ds b).records) (wills_in k x ds b ws)
  told ds b o ws us wills will h = subst (λ (vs : List StoredWill). StandOrEnded (will_held k (after_all ds b).records) vs) (sym wills) (subst (λ (p : Option Will). StandOrEnded p us) (sym will) h)

  tell_quiet : (ds : List Deed) (b : Broker) → AreQuiet ds → Tells ds b
  tell_quiet ds b q fine ws h = told ds b (will_held k b.records) ws ws (quiet_in k x ds b ws q) (quiet_wills ds k b q) h

  tell_next : (xs ys : List Deed) (b : Broker) → Tells xs b → Tells ys (after_all xs b) → Tells (xs ++ ys) b
  tell_next xs ys b p q fine ws h =
      let c = after_all xs b in
      let us = wills_in k x xs b ws in
      told (xs ++ ys) b (will_held k (after_all ys c).records) ws (wills_in k x ys c us) (wills_append k x xs ys b ws) (ap (λ (d : Broker). will_held k d.records) (after_append xs ys b))
      (q (fine_rest xs ys b fine) us (p (fine_first xs ys b fine) ws h))

  its : (s : Session) (b : Broker) (o : Option Will) → session_at s.birth b.records ≡ Some s → s.will ≡ o → nat_eq s.birth k ≡ true → will_held k b.records ≡ o
  its s b o there is same = ap (λ (n : ℕ). will_held n b.records) (sym (eqb-true s.birth k same)) ∙ (ap held_if there ∙ is)

  -- ---- a Will that is published or refused, and then taken away

  taken_away : (s : Session) (first : List Deed) (fate : WillEnd) (w : Will) (b : Broker) (ws : List StoredWill) → session_at s.birth b.records ≡ Some s → s.will ≡ Some w
      → wills_in k x first b ws ≡ cond (nat_eq s.birth k) (with_end fate ws) ws → will_held k (after_all first b).records ≡ will_held k b.records
      → Goes ws b (wills_in k x (first ++ At (whose s) DropWill ∷ []) b ws) (after_all (first ++ At (whose s) DropWill ∷ []) b)
  taken_away s first fate w b ws there some wills same h =
      let c = after_all first b in
      let t = nat_eq s.birth k in
      let us = cond t (with_end fate ws) ws in
      told (first ++ At (whose s) DropWill ∷ []) b (cond t None (will_held k b.records)) ws (cond (t && g) (taken_with Dropped us) us)
      (wills_append k x first (At (whose s) DropWill ∷ []) b ws ∙ ap (λ (vs : List StoredWill). cond (t && g) (taken_with Dropped vs) vs) wills)
      (ap (λ (d : Broker). will_held k d.records) (after_append first (At (whose s) DropWill ∷ []) b) ∙ (dropped (whose s) k c ∙ ap (cond t None) same))
      (by t refl)
    where
      g : Bool
      g = says_goodbye k x.call x.step.broker

      by : (t : Bool) → nat_eq s.birth k ≡ t → StandOrEnded (cond t None (will_held k b.records)) (cond (t && g) (taken_with Dropped (cond t (with_end fate ws) ws)) (cond t (with_end fate ws) ws))
      by true is = ended_once fate g w ws (subst (λ (o : Option Will). StandOrEnded o ws) (its s b (Some w) there some is) h)
      by false is = h

  -- a Will is published under the name of its client, which no other session has
  is_its : (s : Session) (b : Broker) → session_at s.birth b.records ≡ Some s → IsUnique (λ birth. client_at birth b.records) → is_client s.client (session_at k b.records) ≡ nat_eq s.birth k
  is_its s b there unique = elim (cases_Bool (nat_eq s.birth k)) [
    | inl same ↦ ap (is_client s.client) (ap (λ (n : ℕ). session_at n b.records) (sym (eqb-true s.birth k same)) ∙ there) ∙ ((bytes_eq-Decides s.client s.client).1 refl ∙ sym same)
    | inr other ↦ by (session_at k b.records) refl other ∙ sym other
  ]
    where
      by : (o : Option Session) → session_at k b.records ≡ o → nat_eq s.birth k ≡ false → is_client s.client o ≡ false
      by None is other = refl
      by (Some t) is other = elim (cases_Bool (bytes_eq t.client s.client)) [
        | inl named ↦
            let one : client_at k b.records ≡ Some s.client = ap (option_map (λ (y : Session). y.client)) is ∙ ap Some ((bytes_eq-Decides t.client s.client).0 named) in
            let two : client_at s.birth b.records ≡ Some s.client = ap (option_map (λ (y : Session). y.client)) there in
            let it : s.birth ≡ k = unique s.birth k s.client two one in
            let yes : nat_eq s.birth k ≡ true = ap (nat_eq s.birth) (sym it) ∙ nat_eq_equiv.refl s.birth in
            let no : true ≡ false = sym yes ∙ other in
            absurd cc
        | inr apart ↦ apart
      ]

  tell_will : (env : Env) (s : Session) (b : Broker) → session_at s.birth b.records ≡ Some s → Tells (publish_will env s b) b
  tell_will env s b there = by s.will refl
    where
      by_copies : (w : Will) → s.will ≡ Some w → (o : Option (List CopyTo)) → Tells (publish_or_refuse env (whose s) (will_message s.client w) o b ++ At (whose s) DropWill ∷ []) b
      by_copies w some None fine ws h = taken_away s (RefuseWill (whose s) ∷ []) Refused w b ws there some refl refl h
      by_copies w some (Some ds) fine ws h =
          let m = will_message s.client w in
          let number = next_publication b.records in
          let one = Accept number FromWill m in
          let rest = published_rest env FromWill m ds b in
          let quiet = quiet_rest env FromWill m ds b in
          taken_away s (one ∷ rest) (Published number) w b ws there some
          (quiet_in k x rest (after one b) (wills_after k x one b ws) quiet
          ∙ ap (λ (t : Bool). cond t (with_end (Published number) ws) ws) (is_its s b there (clients_differ ((one ∷ rest) ++ At (whose s) DropWill ∷ []) b fine)))
          (quiet_wills rest k (after one b) quiet) h

      by : (o : Option Will) → s.will ≡ o → Tells (will_deeds env (whose s) o b) b
      by None none fine ws h = h
      by (Some w) some fine ws h = by_copies w some (accepted_copies env (will_message s.client w) b) fine ws h

  -- ---- a session that ends has no Will

  tell_end : (s : Session) (b : Broker) → session_at s.birth b.records ≡ Some s → s.will ≡ None → Tells (end_session s) b
  tell_end s b there none fine ws h =
      let leaves : List Deed = map (λ e. At (whose s) (Leave e SessionEnded)) s.queue in
      let quiet = quiet_ends s s.queue in
      told (end_session s) b (will_held k b.records) ws ws
      (wills_append k x leaves (Finish (whose s) ∷ []) b ws ∙ quiet_in k x leaves b ws quiet)
      (ap (λ (d : Broker). will_held k d.records) (after_append leaves (Finish (whose s) ∷ []) b) ∙ (finished (whose s) k (after_all leaves b) ∙ (ap (cond (nat_eq s.birth k) None) (quiet_wills leaves k b quiet) ∙ by (nat_eq s.birth k) refl))) h
    where
      by : (t : Bool) → nat_eq s.birth k ≡ t → cond t None (will_held k b.records) ≡ will_held k b.records
      by true is = sym (its s b None there none is)
      by false is = refl

  among_own : (s : Session) (b : Broker) → Orders b → (name : List ℕ) → session_named name b.records ≡ Some s → session_at s.birth b.records ≡ Some s
  among_own s b h name named =
      all_among (λ (y : Session). session_at y.birth b.records ≡ Some y) s b.records.sessions (all_found birth_of b.records.sessions h.sessions.ascending) (found_among (λ (y : Session). bytes_eq y.client name) s b.records.sessions named)

  -- by Clean Start the session ends whose Will was just published: it is the one of that name
  tell_clear : (env : Env) (s t : Session) (b : Broker) → Orders b → session_named s.client b.records ≡ Some s → session_named s.client (after_all (publish_will env s b) b).records ≡ Some t → Tells (end_session t) (after_all (publish_will env s b) b)
  tell_clear env s t b order named found fine =
      let c = after_all (publish_will env s b) b in
      let there = among_own s b order s.client named in
      let stands = among_own t c fine.coherent.ordered s.client found in
      let name : t.client ≡ s.client = (bytes_eq-Decides t.client s.client).0 (found_passes (λ (y : Session). bytes_eq y.client s.client) t c.records.sessions found) in
      let one : client_at t.birth c.records ≡ Some s.client = ap (option_map (λ (y : Session). y.client)) stands ∙ ap Some name in
      let two : client_at s.birth c.records ≡ Some s.client = clients_stay (publish_will env s b) s.birth b (will_beside env s b) ∙ ap (option_map (λ (y : Session). y.client)) there in
      let it : t.birth ≡ s.birth = clients_differ (end_session t) c fine t.birth s.birth s.client one two in
      let none : t.will ≡ None = ap held_if (sym stands) ∙ (ap (λ (n : ℕ). will_held n c.records) it ∙ will_gone env s b there) in
      tell_end t c stands none fine

  -- ---- a Will that is dropped, a session that is resumed, and one that begins

  tell_drop : (s : Session) (b : Broker) → session_at s.birth b.records ≡ Some s → says_goodbye s.birth x.call x.step.broker ≡ true → Tells (At (whose s) DropWill ∷ []) b
  tell_drop s b there goodbye fine ws h =
      told (At (whose s) DropWill ∷ []) b (cond (nat_eq s.birth k) None (will_held k b.records)) ws (cond (nat_eq s.birth k && says_goodbye k x.call x.step.broker) (taken_with Dropped ws) ws) refl (dropped (whose s) k b)
      (by (nat_eq s.birth k) refl)
    where
      by : (t : Bool) → nat_eq s.birth k ≡ t → StandOrEnded (cond t None (will_held k b.records)) (cond (t && says_goodbye k x.call x.step.broker) (taken_with Dropped ws) ws)
      by true is =
          let said : says_goodbye k x.call x.step.broker ≡ true = ap (λ (n : ℕ). says_goodbye n x.call x.step.broker) (sym (eqb-true s.birth k is)) ∙ goodbye in
          subst (λ (t : Bool). AllByRecursion HasOneEnd (cond t (taken_with Dropped ws) ws)) (sym said) (taken_ends Dropped (will_held k b.records) ws h)
      by false is = h

  tell_resume : (s : Session) (expiry : ℕ) (will : Option Will) (b : Broker) → session_at s.birth b.records ≡ Some s → Tells (At (whose s) (Resume expiry will) ∷ []) b
  tell_resume s expiry will b there fine ws h =
      told (At (whose s) (Resume expiry will) ∷ []) b (cond (nat_eq s.birth k) will (will_held k b.records)) ws (cond (nat_eq s.birth k) (stored_with will (taken_with Cancelled ws)) ws) refl (resumed s expiry will k b there) (by (nat_eq s.birth k))
    where
      by : (t : Bool) → StandOrEnded (cond t will (will_held k b.records)) (cond t (stored_with will (taken_with Cancelled ws)) ws)
      by true = stored_stands will (taken_with Cancelled ws) (taken_ends Cancelled (will_held k b.records) ws h)
      by false = h

  tell_born : (row : Columns) (will : Option Will) (b : Broker) → Tells (Begin row will ∷ []) b
  tell_born row will b fine ws h =
      told (Begin row will ∷ []) b (cond (nat_eq row.birth k) will (will_held k b.records)) ws (cond (nat_eq row.birth k) (stored_with will ws) ws) refl
      (begun row will k b new (or_right (has_row birth_of row.birth b.records.sessions) (nat_lt (length b.records.sessions) SESSION_LIMIT) fit.room)) (by (nat_eq row.birth k) refl)
    where
      fit : IsFitRow row b.records
      fit = fine.fit.0

      new : session_at row.birth b.records ≡ None
      new = no_session b.records row.birth fit.next fine.coherent.births

      by : (t : Bool) → nat_eq row.birth k ≡ t → StandOrEnded (cond t will (will_held k b.records)) (cond t (stored_with will ws) ws)
      by true is = stored_stands will ws (subst (λ (o : Option Will). StandOrEnded o ws) (ap (λ (n : ℕ). will_held n b.records) (sym (eqb-true row.birth k is)) ∙ ap held_if new) h)
      by false is = h

  tell_begin : (l : Line) (c : Greeting) (is_assigned : Bool) (client : List ℕ) (birth : ℕ) (b : Broker) → Tells (begin l c is_assigned client birth) b
  tell_begin l c is_assigned client birth b =
      let d = Begin (fresh_row birth client c) (will_asked c) in
      let rest : List Deed = greet l c birth ∷ Send l.number (connack false success (connack_properties is_assigned client)) ∷ [] in
      tell_next (d ∷ []) rest b (tell_born (fresh_row birth client c) (will_asked c) b) (tell_quiet rest (after d b) (tt, (tt, tt)))

  tell_named : (l : Line) (c : Greeting) (t : Bool) (b : Broker) → Tells (begin_named t l c b.records) b
  tell_named l c false b = tell_begin l c false c.client_identifier (suc b.records.births) b
  tell_named l c true b =
      let d = Name (suc b.records.autos) in
      let rest = begin l c true (auto ++ decimal (suc b.records.autos)) (suc b.records.births) in
      tell_next (d ∷ []) rest b (tell_quiet (d ∷ []) b (tt, tt)) (tell_begin l c true (auto ++ decimal (suc b.records.autos)) (suc b.records.births) (after d b))

  says : (env : Env) → SaysWills x env Tells
  says env = record {
    quiet = tell_quiet;
    next = tell_next;
    publishes = λ s b there why. tell_will env s b there;
    ends = tell_end;
    clears = tell_clear env;
    drops = tell_drop;
    resumes = λ n c s b read there. tell_resume s (expiry_of c) (will_asked c) b there;
    begins = λ n c l t b read. tell_named l c t b;
  }

-- ---- each step, and all

opening_last : (r : Records) (now : ℕ) → IsNumber (unopened now r).now
opening_last r now = max-le (min-le_right r.moment LAST_NUMBER) (min-le_right now LAST_NUMBER)

step_tells : (k : ℕ) (e : Event) (b : Broker) → SpendsNone e b → IsSteady b → (ws : List StoredWill) → let x = asked_at e b in
    StandOrEnded (will_held k b.records) ws → StandOrEnded (will_held k (after_event e b).records) (wills_in k x x.step.deeds x.step.broker ws)
step_tells k (calls limits choice now call) b fair s ws h =
    let env = env_of limits choice b in
    let c = at_moment now b in
    let x = asked_at (calls limits choice now call) b in
    let ds = deeds limits choice now call b in
    let rows = rows_of_all ds c.records in
    let end = after_all ds c in
    let kept = (event_steady (calls limits choice now call) b fair s).coherent.counters.autos in
    let fine : Fine ds c = record {
      fit = call_fits env fair.0 c s.coherent (moment_last b now s.moment) call;
      coherent = made_of c.records s.coherent;
      named = subst (λ (n : ℕ). n ≤ LAST_NUMBER) (moment_autos rows end) kept;
    } in
    subst (λ (o : Option Will). StandOrEnded o (wills_in k x ds c ws)) (sym (moment_wills rows k end))
    (call_said x env (Tells k x) (says k x env) call refl s.coherent.ordered fine ws h)
step_tells k (Reopened limits choice now) b fair s ws h =
    let c = unopened now b.records in
    let env = env_of limits choice c in
    let x = asked_at (Reopened limits choice now) b in
    let ds = opening env c in
    let rows = rows_of_all ds c.records in
    let end = after_all ds c in
    let kept = (event_steady (Reopened limits choice now) b fair s).coherent.counters.autos in
    let fine : Fine ds c = record {
      fit = opening_fits env fair.0 c s.coherent (opening_last b.records now);
      coherent = made_of c.records s.coherent;
      named = subst (λ (n : ℕ). n ≤ LAST_NUMBER) (moment_autos rows end) kept;
    } in
    subst (λ (o : Option Will). StandOrEnded o (wills_in k x ds c ws)) (sym (moment_wills rows k end))
    (opening_said x env (Tells k x) (says k x env) c s.coherent.ordered fine ws h)

all_tell : (k : ℕ) (es : List Event) (b : Broker) → SpendNone es b → IsSteady b → (ws : List StoredWill)
    → StandOrEnded (will_held k b.records) ws → StandOrEnded (will_held k (after_events es b).records) (wills_over k (asked_in_all es b) ws)
all_tell k [] b fair s ws h = h
all_tell k (e ∷ es) b fair s ws h =
    let x = asked_at e b in
    all_tell k es (after_event e b) fair.1 (event_steady e b fair.0 s) (wills_in k x x.step.deeds x.step.broker ws) (step_tells k e b fair.0 s ws h)

-- each Will that was stored before or since
pub each_stands_or_ended : (events : List Event) (b : Broker) → BeginsInOrder b → SpendNone events b → EachWillStandsOrEnded events b
each_stands_or_ended events b begins fair k =
    all_tell k events b fair begins.steady (stored_with (will_held k b.records) []) (stored_stands (will_held k b.records) [] tt)
