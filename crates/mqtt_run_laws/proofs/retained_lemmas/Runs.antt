-- Over any calls and openings: what is retained for a topic is what was published last, and each subscription brings it.
use Rattle.std.proofs.Common.{◌≡◌, ℕ, ◌≤◌, ◌-◌, ◌/◌, Bool, true, false, List, [], ◌∷◌, ◌++◌, filter, Option, Some, None, refl, sym, ap, subst, ◌∙◌, inl, inr, arith}
use Rattle.std.specs.Prelude.{find, option_map, option_to_list}
use Rattle.std.specs.List.{cons_option}
use Rattle.std.proofs.lemmas.Bool.{cases_Bool, le-leb, leb-true}
use Rattle.std.proofs.Math.Nat.{le-max_left, le-min}
use Rattle.mqtt_props.specs.declared.table.PropName.TheVariants.{MessageExpiryInterval}
use Rattle.mqtt_flow.specs.outbound.Outbound.{is_past}
use Rattle.mqtt_records.specs.declared.messages.message.RetainedMessage.{RetainedMessage}
use Rattle.mqtt_records.specs.declared.state.change.Change.{Change}
use Rattle.mqtt_records.specs.declared.state.records.Records.{Records}
use Rattle.mqtt_records.specs.lists.Order.{IsAbove, IsAscending, row_at}
use Rattle.mqtt_records.specs.declared.messages.message.Content.{Content}
use Rattle.mqtt_records.specs.messages.PassedOn.{number_at}
use Rattle.mqtt_records.specs.state.Records.{changed_all, kept_place}
use Rattle.mqtt_rules.specs.step.Deeds.{Accept, Deed, after, after_all, rows_of, rows_of_all, stored_after}
use Rattle.mqtt_rules.specs.step.Laws.{Asked as calls, Event, IsAmong, IsCoherent, Reopened, after_event, after_events, blank}
use Rattle.mqtt_rules.specs.step.Packets.{is_expired, seconds_waited}
use Rattle.mqtt_rules.specs.step.Routing.{is_topic, retained_of}
use Rattle.mqtt_rules.specs.step.State.{Broker, Env, capped}
use Rattle.mqtt_rules.specs.step.Step.{at_moment, deeds, done, env_of, opening, unopened, with_moment}
use Rattle.std.proofs.lemmas.Slice.Eq.{bytes_eq-Decides}
use Rattle.mqtt_rules.proofs.step_lemmas.acts.Leads.{found_among, found_passes}
use Rattle.mqtt_rules.proofs.step_lemmas.fit.FitLaw.{all_among}
use Rattle.mqtt_rules.proofs.step_lemmas.flight.FlightRows.{all_found}
use Rattle.mqtt_world_model.specs.model.Run.{Acceptance, accepted_by, acceptances_of}
use Rattle.mqtt_world_laws.specs.acceptance.Entries.{Moment, moments_of}
use Rattle.mqtt_world_laws.specs.acceptance.Fair.{IsSteady}
use Rattle.mqtt_world_laws.specs.of_calls.Calls.{BeginsInOrder, SpendNone, SpendsNone, asked_at, course_of}
use Rattle.mqtt_world_laws.proofs.of_calls_lemmas.Events.{event_steady, events_steady}
use Rattle.mqtt_world_laws.proofs.of_calls_lemmas.Keeping.{blank_in_order, keeps_all}
use Rattle.mqtt_run_laws.specs.retained.Retained.{EachBringsIts, IsWhatIsLeft, RetainsTheLast, is_retained_for, left_by, moments_over, retained_for}
use Rattle.mqtt_run_laws.proofs.retained_lemmas.EachCall.{call_says, opening_says}
use Rattle.mqtt_run_laws.proofs.retained_lemmas.Steps.{Goes, Holds, Keeps, kept_by_all, last_in}
use Rattle.mqtt_run_laws.proofs.retained_lemmas.Tables.{above_one, all_of, none_found, none_pass, same_place}

-- ---- what has expired stays so

expired_later : (m n : ℕ) (c : Content) → m ≤ n → is_expired m c ≡ true → is_expired n c ≡ true
expired_later m n c le past = by (number_at MessageExpiryInterval c.properties) past
  where
    by : (o : Option ℕ) → is_past o (seconds_waited m c) ≡ true → is_past o (seconds_waited n c) ≡ true
    by None is = absurd cc
    by (Some i) is =
        let long : i ≤ (m - c.arrived) / 1000 = leb-true i ((m - c.arrived) / 1000) is in
        le-leb i ((n - c.arrived) / 1000) (omega (arith, long, le))

left_later : (o : Option RetainedMessage) (m n : ℕ) (ks : List RetainedMessage) → m ≤ n → IsWhatIsLeft o m ks → IsWhatIsLeft o n ks
left_later None m n ks le h = h
left_later (Some last) m n [] le h = expired_later m n last.content le h
left_later (Some last) m n (k ∷ []) le h = h
left_later (Some last) m n (k ∷ j ∷ ks) le h = absurd h

-- ---- at the beginning

all_alone : (P : RetainedMessage → Bool) (ks : List RetainedMessage) (k : RetainedMessage) → find P ks ≡ Some k → IsAscending kept_place ks
    → ((x : RetainedMessage) → IsAmong x ks → P x ≡ true → x ≡ k) → filter P ks ≡ k ∷ []
all_alone P [] k found up only = absurd cc
all_alone P (x ∷ xs) k found up only = elim (cases_Bool (P x)) [
  | inl is ↦
      let it : x ≡ k = only x (inl refl) is in
      let none : filter P xs ≡ [] = none_pass P xs (all_of (λ (y : RetainedMessage). P y ≡ false) xs (λ y among. elim (cases_Bool (P y)) [
        | inl its ↦ absurd (behind x k y xs it (only y (inr among) its) among up.0)
        | inr fails ↦ fails
      ])) in
      rw is (ap (λ (ys : List RetainedMessage). x ∷ ys) none ∙ ap (λ (y : RetainedMessage). y ∷ []) it)
  | inr fails ↦ rw fails (all_alone P xs k (rw fails at found) up.1 (λ y among its. only y (inr among) its))
]
  where
    behind : (x k y : RetainedMessage) (xs : List RetainedMessage) → x ≡ k → y ≡ k → IsAmong y xs → IsAbove kept_place (kept_place x) xs → ⊥
    behind x k y xs it its among above =
        let less = above_one x.place y xs among above in
        let same : x.place ≡ y.place = ap (λ (z : RetainedMessage). z.place) (it ∙ sym its) in
        omega (arith, less, same)

-- each topic has one message at most
begins_alone : (topic : List ℕ) (r : Records) (o : Option RetainedMessage) → IsCoherent r → retained_of topic r ≡ o → (n : ℕ)
    → IsWhatIsLeft o n (retained_for topic r)
begins_alone topic r None coherent found n = none_pass (is_topic topic) r.retained (none_found (is_topic topic) r.retained found)
begins_alone topic r (Some k) coherent found n =
    let ks = r.retained in
    let up = coherent.ordered.retained.ascending in
    let there =
    λ (x : RetainedMessage) (among : IsAmong x ks). all_among (λ (y : RetainedMessage). row_at kept_place y.place ks ≡ Some y) x ks
    (all_found kept_place ks up) among in
    let named = λ (x : RetainedMessage) (among : IsAmong x ks) (its : is_topic topic x ≡ true).
    ap (option_map (λ (y : RetainedMessage). y.content.topic)) (there x among) ∙ ap Some ((bytes_eq-Decides x.content.topic topic).0 its) in
    let among = found_among (is_topic topic) k ks found in
    let its = found_passes (is_topic topic) k ks found in
    let alone : retained_for topic r ≡ k ∷ [] = all_alone (is_topic topic) ks k found up (λ x here is.
    same_place x k ks up here among (coherent.topics x.place k.place topic (named x here is) (named k among its))) in
    subst (λ (xs : List RetainedMessage). IsWhatIsLeft (Some k) n xs) (sym alone) refl

-- ---- rows that are written

none_first : (xs ys : List Change) → xs ++ ys ≡ [] → (xs ≡ []) × (ys ≡ [])
none_first [] ys is = (refl, is)
none_first (x ∷ xs) ys is = absurd cc

-- what is accepted is written
none_accepted : (env : Env) (d : Deed) (b : Broker) → rows_of d b.records ≡ [] → accepted_by env d b ≡ None
none_accepted env (Accept number origin m) b is = absurd cc
none_accepted env d b is = refl

module _ (topic : List ℕ) (before : Option RetainedMessage) where
  abbrev last : Option Acceptance → List Acceptance → Option Acceptance
  last o xs = last_in topic before o xs

  last_append : (o : Option Acceptance) (xs ys : List Acceptance) → last o (xs ++ ys) ≡ last (last o xs) ys
  last_append o [] ys = refl
  last_append o (x ∷ xs) ys = elim (cases_Bool (is_retained_for topic x)) [
    | inl is ↦ rw is (last_append (Some x) xs ys)
    | inr not_so ↦ rw not_so (last_append o xs ys)
  ]

  last_first : (o : Option Acceptance) (a : Option Acceptance) (ys : List Acceptance) → last o (cons_option a ys) ≡ last (last o (option_to_list a)) ys
  last_first o None ys = refl
  last_first o (Some a) ys = last_append o (a ∷ []) ys

  -- where nothing is written, nothing is accepted, and all stays
  still : (env : Env) (o : Option Acceptance) (ds : List Deed) (b : Broker) → rows_of_all ds b.records ≡ []
      → ((after_all ds b).records ≡ b.records) × (last o (acceptances_of env ds b) ≡ o)
  still env o [] b is = (refl, refl)
  still env o (d ∷ ds) b is =
      let none = none_first (rows_of d b.records) (rows_of_all ds (stored_after d b.records)) is in
      let same : stored_after d b.records ≡ b.records = ap (λ (rows : List Change). changed_all rows b.records) none.0 in
      let rest = still env o ds (after d b) none.1 in
      let nothing : acceptances_of env (d ∷ ds) b ≡ acceptances_of env ds (after d b) =
      ap (λ (a : Option Acceptance). cons_option a (acceptances_of env ds (after d b))) (none_accepted env d b none.0) in
      (rest.0 ∙ same, ap (last o) nothing ∙ rest.1)

  -- ---- behind the deeds of a step

  goes_end : (env : Env) (o : Option Acceptance) (ds : List Deed) (b : Broker) → Goes topic before env o ds b
      → Holds topic before (last o (acceptances_of env ds b)) (after_all ds b)
  goes_end env o [] b g = g
  goes_end env o (d ∷ ds) b g =
      let a = accepted_by env d b in
      subst (λ (x : Option Acceptance). Holds topic before x (after_all (d ∷ ds) b)) (sym (last_first o a (acceptances_of env ds (after d b))))
      (goes_end env (last o (option_to_list a)) ds (after d b) g.1)

  -- what each subscription among them brings, and those behind them
  goes_each : (env : Env) (o : Option Acceptance) (ds : List Deed) (b : Broker) (more : List Moment) → Goes topic before env o ds b
      → EachBringsIts topic before (last o (acceptances_of env ds b)) more → EachBringsIts topic before o (moments_of env ds b ++ more)
  goes_each env o [] b more g h = h
  goes_each env o (d ∷ ds) b more g h =
      let a = accepted_by env d b in (
        g.0,
        goes_each env (last o (option_to_list a)) ds (after d b) more g.1
            (subst (λ (x : Option Acceptance). EachBringsIts topic before x more) (last_first o a (acceptances_of env ds (after d b))) h),
      )

  -- by the moment that is stored
  abbrev Stored : Option Acceptance → Broker → Type 0
  Stored o b = IsWhatIsLeft (left_by before o) b.records.moment (retained_for topic b.records)

  stored_by : (rows : List Change) (o : Option Acceptance) (b : Broker) → (rows ≡ [] → Stored o b) → Holds topic before o b → Stored o (with_moment rows b)
  stored_by [] o b still_so h = still_so refl
  stored_by (row ∷ rows) o b still_so h = h

  step_stores : (env : Env) (o : Option Acceptance) (ds : List Deed) (b : Broker) → Goes topic before env o ds b → Stored o b
      → Stored (last o (acceptances_of env ds b)) (done ds b)
  step_stores env o ds b g h =
      let o' = last o (acceptances_of env ds b) in
      stored_by (rows_of_all ds b.records) o' (after_all ds b)
      (λ none. let s = still env o ds b none in
      subst (λ (r : Records). IsWhatIsLeft (left_by before o') r.moment (retained_for topic r)) (sym s.0)
      (subst (λ (x : Option Acceptance). IsWhatIsLeft (left_by before x) b.records.moment (retained_for topic b.records)) (sym s.1) h))
      (goes_end env o ds b g)

  -- ---- each event

  abbrev event_goes : Event → Broker → Option Acceptance → Type 0
  event_goes e b o = Goes topic before (asked_at e b).step.env o (asked_at e b).step.deeds (asked_at e b).step.broker

  goes : (e : Event) (b : Broker) (o : Option Acceptance) → SpendsNone e b → IsSteady b → Stored o b → event_goes e b o
  goes (calls limits choice now call) b o fair s h =
      let c = at_moment now b in
      let env = env_of limits choice b in
      let more = le-max_left b.now (capped now) in
      let timed = s.timed in
      call_says env (Keeps topic before env) (kept_by_all topic before env fair.0) call c s.coherent.ordered o
      (left_later (left_by before o) b.records.moment c.now (retained_for topic b.records) (omega (arith, timed, more)) h)
  goes (Reopened limits choice now) b o fair s h =
      let c = unopened now b.records in
      let env = env_of limits choice c in
      let counts : b.records.moment ≤ capped b.records.moment = le-min (omega arith) s.coherent.counters.moment in
      let more = le-max_left (capped b.records.moment) (capped now) in
      opening_says env (Keeps topic before env) (kept_by_all topic before env fair.0) c s.coherent.ordered o
      (left_later (left_by before o) b.records.moment c.now (retained_for topic b.records) (omega (arith, counts, more)) h)

  abbrev accepted_by_event : Event → Broker → List Acceptance
  accepted_by_event e b = acceptances_of (asked_at e b).step.env (asked_at e b).step.deeds (asked_at e b).step.broker

  stores : (e : Event) (b : Broker) (o : Option Acceptance) → event_goes e b o → Stored o b → Stored (last o (accepted_by_event e b)) (after_event e b)
  stores (calls limits choice now call) b o g h = step_stores (env_of limits choice b) o (deeds limits choice now call b) (at_moment now b) g h
  stores (Reopened limits choice now) b o g h =
      let c = unopened now b.records in
      let env = env_of limits choice c in
      step_stores env o (opening env c) c g h

  -- ---- and of many

  -- after any events what is retained is what was accepted last
  pub over_stores : (es : List Event) (b : Broker) (o : Option Acceptance) → SpendNone es b → IsSteady b → Stored o b
      → Stored (last o (course_of es b).acceptances) (after_events es b)
  over_stores [] b o fair s h = h
  over_stores (e ∷ es) b o fair s h =
      let c = after_event e b in
      let first = accepted_by_event e b in
      let g = goes e b o fair.0 s h in
      subst (λ (x : Option Acceptance). Stored x (after_events es c)) (sym (last_append o first (course_of es c).acceptances))
      (over_stores es c (last o first) fair.1 (event_steady e b fair.0 s) (stores e b o g h))

  -- in each moment of any events a subscription brings what is due
  pub over_brings : (es : List Event) (b : Broker) (o : Option Acceptance) → SpendNone es b → IsSteady b → Stored o b
      → EachBringsIts topic before o (moments_over (course_of es b))
  over_brings [] b o fair s h = tt
  over_brings (e ∷ es) b o fair s h =
      let c = after_event e b in
      let g = goes e b o fair.0 s h in
      let x = (asked_at e b).step in
      goes_each x.env o x.deeds x.broker (moments_over (course_of es c)) g
      (over_brings es c (last o (accepted_by_event e b)) fair.1 (event_steady e b fair.0 s) (stores e b o g h))

-- ---- the law

-- from a broker in order
pub retains_the_last : (es : List Event) (b : Broker) → BeginsInOrder b → SpendNone es b → RetainsTheLast (course_of es b)
retains_the_last es b begins fair =
    let s = begins.steady in
    let end = events_steady es b fair s in
    record {
      retained = λ topic. let before = retained_of topic b.records in
          left_later (left_by before (last_in topic before None (course_of es b).acceptances)) (after_events es b).records.moment (after_events es b).now
          (retained_for topic (after_events es b).records) end.timed
          (over_stores topic before es b None fair s (begins_alone topic b.records before s.coherent refl b.records.moment));
      brought = λ topic. let before = retained_of topic b.records in
          over_brings topic before es b None fair s (begins_alone topic b.records before s.coherent refl b.records.moment);
      entering = (keeps_all es b begins fair).entering.brought;
    }

-- from nothing
pub retains_from_nothing : (es : List Event) → SpendNone es blank → RetainsTheLast (course_of es blank)
retains_from_nothing es fair = retains_the_last es blank blank_in_order fair
