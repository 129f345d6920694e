-- Copies of publications enter queues in the order in which these were accepted, and stand so in each ledger (MQTT 5.0, 3.3.4, 4.6).
use Rattle.std.proofs.Common.{◌≡◌, ℕ, suc, ◌≤◌, ◌<◌, Bool, true, false, cond, not, ◌&&◌, List, [], ◌∷◌, ◌++◌, filter, map, Option, Some, None, refl, sym, ap, subst, ◌∙◌, arith, inl, inr}
use Rattle.std.specs.List.{AllByRecursion}
use Rattle.std.proofs.lemmas.Bool.{cases_Bool}
use Rattle.std.proofs.lemmas.List.{map-append}
use Rattle.std.proofs.lemmas.List.Elements.{filter-append, filter_map-append}
use Rattle.mqtt_base.specs.declared.session.CopyId.{CopyId}
use Rattle.mqtt_records.specs.declared.messages.message.RetainedMessage.{RetainedMessage}
use Rattle.mqtt_records.specs.declared.state.change.Change.{Change}
use Rattle.mqtt_records.specs.declared.state.session.Session.{Session}
use Rattle.mqtt_records.specs.declared.state.subscription.Subscription.{Subscription}
use Rattle.mqtt_routes.specs.routing.Retained.{kept_for}
use Rattle.mqtt_topic.specs.names.Filters.{begins_share}
use Rattle.mqtt_rules.specs.declared.step.Capacity.{Capacity}
use Rattle.mqtt_rules.specs.step.Deeds.{Accept, At, Begin, Deed, Subscribe, after, after_all, rows_of_all}
use Rattle.mqtt_rules.specs.step.Routing.{CopyTo, is_queued, next_publication}
use Rattle.mqtt_rules.specs.step.State.{Broker, Env, session_at}
use Rattle.mqtt_rules.specs.step.Step.{at_moment, deeds, env_of, opening, unopened, with_moment}
use Rattle.mqtt_rules.specs.step.Subscribe as sub
use Rattle.mqtt_rules.proofs.step_lemmas.fit.StandLaw.{Orders}
use Rattle.mqtt_rules.proofs.step_lemmas.numbers.Copies.{IsNumbered, each_append, each_map, each_more, routed_numbered}
use Rattle.mqtt_rules.proofs.step_lemmas.numbers.Counters.{Counts, counts_deed}
use Rattle.mqtt_world_model.specs.model.Laws.{is_routed}
use Rattle.mqtt_world_model.specs.model.Run.{Acceptance, Turn, entered_in}
use Rattle.mqtt_world_model.specs.model.World.{World}
use Rattle.mqtt_world_laws.specs.acceptance.Copies.{entered_from}
use Rattle.mqtt_world_laws.specs.acceptance.Entries.{brings, ids_if, queued_ids, retained_ids, wish_in}
use Rattle.mqtt_world_laws.specs.acceptance.Fair.{IsCounted, IsNew}
use Rattle.mqtt_world_laws.proofs.acceptance_lemmas.copies.Differ.{each_mapped}
use Rattle.mqtt_world_laws.proofs.acceptance_lemmas.copies.EachAct.{Says, call_says, opening_says, says_still, whatever}
use Rattle.mqtt_world_laws.proofs.acceptance_lemmas.copies.Entering.{Tells, brought_by, entered, grant_tells, publish_tells, still_tells, tells_append}
use Rattle.mqtt_world_laws.proofs.acceptance_lemmas.copies.RoutedApart.{id_to}
use Rattle.mqtt_world_laws.proofs.acceptance_lemmas.copies.Walks.{Walk, run_walks}
use Rattle.mqtt_world_laws.proofs.routing_lemmas.OwnSteps.{IsNext, Next, call_next, its_ids, opening_next}
use Rattle.mqtt_world_laws.specs.ordered.Ordered.{IsRising}

-- ---- lists of numbers

-- they rise above one number, and up to another
record Rises (low : ℕ) (ns : List ℕ) (high : ℕ) : Type 0 where
  le : low ≤ high
  rising : IsRising ns
  above : AllByRecursion (λ (k : ℕ). low < k) ns
  within : AllByRecursion (λ (k : ℕ). k ≤ high) ns

none_rise : (low high : ℕ) → low ≤ high → Rises low [] high
none_rise low high le = record { le = le; rising = tt; above = tt; within = tt }

rising_append : (mid : ℕ) (ns ks : List ℕ) → IsRising ns → IsRising ks → AllByRecursion (λ (k : ℕ). k ≤ mid) ns → AllByRecursion (λ (k : ℕ). mid < k) ks → IsRising (ns ++ ks)
rising_append mid [] ks p q within above = q
rising_append mid (n ∷ ns) ks p q within above =
    let first = within.0 in
    (each_append (λ (k : ℕ). n ≤ k) ns ks p.0 (each_more (λ (k : ℕ). mid < k) (λ (k : ℕ). n ≤ k) (λ k more. omega (arith, first, more)) ks above), rising_append mid ns ks p.1 q within.1 above)

rises_append : (low mid high : ℕ) (ns ks : List ℕ) → Rises low ns mid → Rises mid ks high → Rises low (ns ++ ks) high
rises_append low mid high ns ks p q =
    let first = p.le in
    let second = q.le in
    record {
      le = omega (arith, first, second);
      rising = rising_append mid ns ks p.rising q.rising p.within q.above;
      above = each_append (λ (k : ℕ). low < k) ns ks p.above (each_more (λ (k : ℕ). mid < k) (λ (k : ℕ). low < k) (λ k more. omega (arith, first, more)) ks q.above);
      within = each_append (λ (k : ℕ). k ≤ high) ns ks (each_more (λ (k : ℕ). k ≤ mid) (λ (k : ℕ). k ≤ high) (λ k less. omega (arith, second, less)) ns p.within) q.within;
    }

-- the same number again and again
same_rise : (low n : ℕ) (ns : List ℕ) → n ≡ suc low → AllByRecursion (λ (k : ℕ). k ≡ n) ns → Rises low ns n
same_rise low n ns next h = record {
  le = omega (arith, next);
  rising = rising ns h;
  above = each_more (λ (k : ℕ). k ≡ n) (λ (k : ℕ). low < k) (λ k is. omega (arith, is, next)) ns h;
  within = each_more (λ (k : ℕ). k ≡ n) (λ (k : ℕ). k ≤ n) (λ k is. omega (arith, is)) ns h;
}
  where
    rising : (ks : List ℕ) → AllByRecursion (λ (k : ℕ). k ≡ n) ks → IsRising ks
    rising [] h = tt
    rising (k ∷ ks) h = let first = h.0 in (each_more (λ (j : ℕ). j ≡ n) (λ (j : ℕ). k ≤ j) (λ j is. omega (arith, is, first)) ks h.1, rising ks h.1)

-- ---- the publications of copies

abbrev pub is_routed_copy : CopyId → Bool
is_routed_copy c = is_routed c.cause

abbrev pub number_in : CopyId → ℕ
number_in c = c.publication

-- of those that are of publications themselves, in order
abbrev pub own_numbers : List CopyId → List ℕ
own_numbers cs = map number_in (filter is_routed_copy cs)

own_append : (xs ys : List CopyId) → own_numbers (xs ++ ys) ≡ own_numbers xs ++ own_numbers ys
own_append xs ys = ap (map number_in) (filter-append is_routed_copy xs ys) ∙ map-append number_in (filter is_routed_copy xs) (filter is_routed_copy ys)

-- ---- what an acceptance brings has its number

own_each : (P : ℕ → Type 0) (cs : List CopyId) → AllByRecursion (λ (c : CopyId). P c.publication) cs → AllByRecursion P (own_numbers cs)
own_each P [] h = tt
own_each P (c ∷ cs) h = elim (cases_Bool (is_routed_copy c)) [
  | inl stays ↦ rw stays (h.0, own_each P cs h.1)
  | inr goes ↦ rw goes (own_each P cs h.1)
]

its_numbers : (a : Acceptance) → IsNext a → AllByRecursion (λ (k : ℕ). k ≡ a.number) (own_numbers (its_ids a))
its_numbers a h =
    subst (λ (o : Option (List CopyTo)). AllByRecursion (λ (k : ℕ). k ≡ a.number) (own_numbers (ids_if o))) (sym h.routed_is)
    (own_each (λ (k : ℕ). k ≡ a.number) (queued_ids h.copies) (each_mapped Of id_to is_queued h.copies (each_map Of id_to h.copies numbered)))
  where
    Of : CopyId → Type 0
    Of c = c.publication ≡ a.number

    numbered : AllByRecursion (λ (d : CopyTo). Of d.copy.id) h.copies
    numbered =
        each_more (IsNumbered (next_publication a.broker.records) a.broker.now) (λ (d : CopyTo). Of d.copy.id) (λ d n. n.publication ∙ sym h.number) h.copies
        (routed_numbered a.env a.message a.broker h.copies h.routed_is)

-- ---- what a filter brings is of retained messages

none_own : (birth number : ℕ) (w : sub.Wish) (ks : List RetainedMessage) → own_numbers (queued_ids (map (sub.retained_copy_to birth number w) ks)) ≡ []
none_own birth number w [] = refl
none_own birth number w (k ∷ ks) = by (is_queued (sub.retained_copy_to birth number w k)) (none_own birth number w ks)
  where
    rest : List CopyTo
    rest = filter is_queued (map (sub.retained_copy_to birth number w) ks)

    by : (t : Bool) → own_numbers (map id_to rest) ≡ [] → own_numbers (map id_to (cond t (sub.retained_copy_to birth number w k ∷ rest) rest)) ≡ []
    by false none = none
    by true none = none

none_own_if : (t : Bool) (now number : ℕ) (s : Session) (w : sub.Wish) (ks : List RetainedMessage) → own_numbers (queued_ids (sub.brought_if t now number s w ks)) ≡ []
none_own_if false now number s w ks = refl
none_own_if true now number s w ks = none_own s.birth number w (filter (sub.is_brought now s w) (map sub.message_in (kept_for w.filter (map sub.kept_of ks))))

retained_none : (b : Broker) (x : Subscription) (o : Option Session) → own_numbers (retained_ids b x o) ≡ []
retained_none b x None = refl
retained_none b x (Some s) =
    let w = wish_in x in
    none_own_if (not (begins_share w.filter) && sub.wants_retained w.options.retain_handling (sub.has_filter w.filter s)) b.now b.records.subscribes s w b.records.retained

-- ---- by the deeds of a step

abbrev last_of : Broker → ℕ
last_of b = b.records.publications

abbrev Brings : Env → List Deed → Broker → Type 0
Brings env ds b = Rises (last_of b) (own_numbers (brought_by env ds b)) (last_of (after_all ds b))

further : (env : Env) (d : Deed) (ds : List Deed) (b : Broker) → Rises (last_of b) (own_numbers (brings env d b)) (last_of (after d b)) → Brings env ds (after d b) → Brings env (d ∷ ds) b
further env d ds b p q =
    subst (λ (ns : List ℕ). Rises (last_of b) ns (last_of (after_all ds (after d b)))) (sym (own_append (brings env d b) (brought_by env ds (after d b))))
    (rises_append (last_of b) (last_of (after d b)) (last_of (after_all ds (after d b))) (own_numbers (brings env d b)) (own_numbers (brought_by env ds (after d b))) p q)

still : (d : Deed) (b : Broker) → last_of (after d b) ≡ last_of b → Rises (last_of b) [] (last_of (after d b))
still d b same = none_rise (last_of b) (last_of (after d b)) (omega (arith, same))

rise : (env : Env) (ds : List Deed) (b : Broker) → Next env ds b → Brings env ds b
rise env [] b h = none_rise (last_of b) (last_of b) (omega arith)
rise env (Accept number origin m ∷ ds) b h =
    let a : Acceptance = record { number = number; message = m; env = env; broker = b } in
    further env (Accept number origin m) ds b (same_rise (last_of b) number (own_numbers (its_ids a)) h.0.number (its_numbers a h.0)) (rise env ds (after (Accept number origin m) b) h.1)
rise env (At who (Subscribe x) ∷ ds) b h =
    let d : Deed = At who (Subscribe x) in
    further env d ds b
    (subst (λ (ns : List ℕ). Rises (last_of b) ns (last_of (after d b))) (sym (retained_none b x (session_at who.birth b.records))) (still d b (ap (λ (c : Counts). c.publications) (counts_deed d b.records)))) (rise env ds (after d b) h)
rise env (Begin row None ∷ ds) b h = further env (Begin row None) ds b (still (Begin row None) b refl) (rise env ds (after (Begin row None) b) h)
rise env (Begin row (Some w) ∷ ds) b h = further env (Begin row (Some w)) ds b (still (Begin row (Some w)) b refl) (rise env ds (after (Begin row (Some w)) b) h)
rise env (d ∷ ds) b h = further env d ds b (still d b (ap (λ (c : Counts). c.publications) (counts_deed d b.records))) (rise env ds (after d b) h)

-- ---- a run

abbrev Rise : List Deed → Broker → Broker → Type 0
Rise ds b d = Rises (last_of b) (own_numbers (entered ds)) (last_of d)

telling : (env : Env) → Says env whatever Orders (Tells env)
telling env = says_still env (Tells env) (still_tells env) (tells_append env) (publish_tells env) (grant_tells env)

stamped : (rows : List Change) (b : Broker) → last_of (with_moment rows b) ≡ last_of b
stamped [] b = refl
stamped (x ∷ rows) b = refl

step_rises : (env : Env) (ds : List Deed) (b : Broker) → Tells env ds b → Next env ds b → Rise ds b (with_moment (rows_of_all ds b.records) (after_all ds b))
step_rises env ds b told next =
    subst (λ (n : ℕ). Rises (last_of b) (own_numbers (entered ds)) n) (sym (stamped (rows_of_all ds b.records) (after_all ds b)))
    (subst (λ (cs : List CopyId). Rises (last_of b) (own_numbers cs) (last_of (after_all ds b))) (sym told) (rise env ds b next))

rises : (limits : Capacity) → Walk limits Rise
rises limits = record {
  none = λ b. none_rise (last_of b) (last_of b) (omega arith);
  next = λ xs ys a b d p q. subst (λ (ns : List ℕ). Rises (last_of a) ns (last_of d)) (sym (ap own_numbers (filter_map-append entered_in xs ys) ∙ own_append (entered xs) (entered ys)))
      (rises_append (last_of a) (last_of b) (last_of d) (own_numbers (entered xs)) (own_numbers (entered ys)) p q);
  unlink = λ n b d h. h;
  link = λ n b d h. h;
  call = λ choice now call b s unspent.
      let env = env_of limits choice b in
      let a = at_moment now b in
      step_rises env (deeds limits choice now call b) a (call_says env whatever Orders (Tells env) (telling env) call (λ n packet e. tt) a s.coherent.ordered) (call_next env call a s.coherent.ordered);
  open_again = λ choice now b s unspent.
      let a = unopened now b.records in
      let env = env_of limits choice a in
      step_rises env (opening env a) a (opening_says env whatever Orders (Tells env) (telling env) a s.coherent.ordered) (opening_next env a s.coherent.ordered);
}

-- in every run that spends no number copies enter in the order in which their publications were accepted
pub run_rises : (limits : Capacity) (ts : List Turn) (w : World) → IsNew w → IsCounted limits ts w → IsRising (own_numbers (entered_from limits ts w))
run_rises limits ts w new fair = (run_walks Rise limits ts w (rises limits) new fair).rising
