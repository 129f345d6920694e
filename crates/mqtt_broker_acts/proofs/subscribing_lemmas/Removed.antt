-- Filters that are removed, one after the other, as the deeds of one session.
use Rattle.std.proofs.Common.{◌≡◌, ℕ, List, [], ◌∷◌, ◌++◌, Some, refl, ap, sym, subst, ◌∙◌}
use Rattle.std.specs.Prelude.{map, flat_map, length}
use Rattle.mqtt_records.specs.declared.state.session.Session.{Session}
use Rattle.mqtt_records.specs.state.Session.{birth_of, without_subscription}
use Rattle.mqtt_rules.specs.step.State.{Broker, session_at}
use Rattle.mqtt_rules.specs.step.Deeds.{Act, Deed, whose, Part, At, Unsubscribe, after, after_all, with_session, always, series, rows_of_all}
use Rattle.mqtt_rules.specs.step.Subscribe.{unsubscribes}
use Rattle.mqtt_rules.proofs.step_lemmas.flight.FlightRows.{change_row-here}
use Rattle.mqtt_rules.proofs.step_lemmas.fit.StoredLaw.{stored_after_all}
use Rattle.mqtt_broker_step.specs.declared.fault.StepFault.{StepFault}
use Rattle.mqtt_broker_step.specs.Stepping.{Stepping, Did, IsLeft, to_session}
use Rattle.mqtt_broker_step.specs.Subscribing.{HaveFiltersOnce}
use Rattle.mqtt_broker_step.proofs.Doing.{found_birth, stands}
use Rattle.mqtt_broker_step.proofs.FiltersKept.{once_all}
use Rattle.mqtt_broker_queue.proofs.publications_lemmas.Leading.{LeadsOn, leads_first, leads_next, leads_left, leads_last}
use Rattle.mqtt_broker_acts.specs.subscribing.Dropping.{held, removes_all, drops}

-- whatever is done, each session has each filter once
pub once_kept : (act : Act) (s new : Stepping) → Did act s new → HaveFiltersOnce s.broker.records → HaveFiltersOnce new.broker.records
once_kept act s new is once =
    subst (λ (t : Stepping). HaveFiltersOnce t.broker.records) (sym is.is)
    (subst HaveFiltersOnce (stored_after_all (act s.broker) s.broker) (once_all (rows_of_all (act s.broker) s.broker.records) s.broker.records once))

-- ---- one after the other

-- the filters that are left to remove lead to where all do, and each session has each filter once
pub record Removing (birth : ℕ) (rest all : List (List ℕ)) (first s : Stepping) : Type 0 where
  pub leads : LeadsOn (λ env. removes_all birth rest) (λ env. removes_all birth all) first s
  pub once : HaveFiltersOnce s.broker.records

-- at first all filters are still to be removed
pub removes_first : (birth : ℕ) (all : List (List ℕ)) (first : Stepping) → HaveFiltersOnce first.broker.records → Removing birth all all first first
removes_first birth all first once = record { leads = leads_first (λ env. removes_all birth all) first; once = once }

-- one that is removed leaves those behind it
pub removes_step : (birth : ℕ) (f : List ℕ) (rest xs all : List (List ℕ)) (first s s2 : Stepping) → xs ≡ f ∷ rest → Removing birth xs all first s
    → Did (to_session birth (Unsubscribe f)) s s2 → Removing birth rest all first s2
removes_step birth f rest xs all first s s2 is w done =
    let here : Removing birth (f ∷ rest) all first s = subst (λ (ys : List (List ℕ)). Removing birth ys all first s) is w in
    record {
      leads = leads_next (λ env. to_session birth (Unsubscribe f)) (λ env. map (λ g. to_session birth (Unsubscribe g)) rest) (λ env. removes_all birth all) first s s2 here.leads (λ choice. done);
      once = once_kept (to_session birth (Unsubscribe f)) s s2 done here.once;
    }

-- removing may be refused at one
pub removes_left : (birth : ℕ) (f : List ℕ) (rest xs all : List (List ℕ)) (fault : StepFault) (first s new : Stepping) → xs ≡ f ∷ rest → Removing birth xs all first s
    → IsLeft (to_session birth (Unsubscribe f)) fault s new → IsLeft (removes_all birth all) fault first new
removes_left birth f rest xs all fault first s new is w left =
    let here : Removing birth (f ∷ rest) all first s = subst (λ (ys : List (List ℕ)). Removing birth ys all first s) is w in
    leads_left (λ env. to_session birth (Unsubscribe f)) (λ env. map (λ g. to_session birth (Unsubscribe g)) rest) (λ env. removes_all birth all) fault first s new here.leads (λ choice. left) (λ n client. [])

-- behind the last all are removed
pub removes_last : (birth : ℕ) (rest all : List (List ℕ)) (first s : Stepping) → length rest ≡ 0 → Removing birth rest all first s → Did (removes_all birth all) first s
removes_last birth [] all first s none w = leads_last (λ env. removes_all birth all) first s w.leads (λ n client. [])
removes_last birth (f ∷ rest) all first s none w = absurd cc

-- ---- as deeds of the session that stands

stays_whose : (x : Session) (f : List ℕ) (b : Broker) → session_at x.birth b.records ≡ Some x
    → session_at x.birth (after (At (whose x) (Unsubscribe f)) b).records ≡ Some (without_subscription f x)
stays_whose x f b found = rw found (change_row-here birth_of x.birth (without_subscription f) x b.records.sessions (λ y. refl) found)

one_is : (birth : ℕ) (part : Part) (x : Session) (b : Broker) → session_at birth b.records ≡ Some x → to_session birth part b ≡ At (whose x) part ∷ []
one_is birth part x b found = ap (λ o. with_session o (λ y. always (At (whose y) part ∷ [])) b) found

all_are : (x : Session) (fs : List (List ℕ)) (b : Broker) → session_at x.birth b.records ≡ Some x → removes_all x.birth fs b ≡ flat_map (unsubscribes x) fs
all_are x [] b found = refl
all_are x (f ∷ fs) b found =
    let d : Deed = At (whose x) (Unsubscribe f) in
    let acts : List Act = map (λ g. to_session x.birth (Unsubscribe g)) fs in
    ap (λ ds. ds ++ series acts (after_all ds b)) (one_is x.birth (Unsubscribe f) x b found)
    ∙ ap (λ ds. d ∷ ds) (all_are (without_subscription f x) fs (after d b) (stays_whose x f b found))

-- removing those that are had is dropping those that are named
pub drops_is : (birth : ℕ) (x : Session) (filters : List (List ℕ)) (b : Broker) → session_at birth b.records ≡ Some x → removes_all birth (held filters x) b ≡ drops birth filters b
drops_is birth x filters b found =
    let own : x.birth ≡ birth = found_birth birth b.records.sessions x found in
    ap (λ n. removes_all n (held filters x) b) (sym own)
    ∙ (all_are x (held filters x) b (stands birth b.records x found)
    ∙ ap (λ o. with_session o (λ s. always (flat_map (unsubscribes s) (held filters s))) b) (sym found))
