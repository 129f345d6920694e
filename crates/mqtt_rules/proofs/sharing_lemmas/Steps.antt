-- Steps and openings write rows that fit, and leave contents shared.
use Rattle.std.proofs.Common.{◌≤◌, ℕ, List, [], ◌∷◌, ◌++◌, nat_eq, ap, subst, sym, arith, inl, inr}
use Rattle.std.specs.List.{AllByRecursion}
use Rattle.std.proofs.lemmas.Bool.{cases_Bool}
use Rattle.mqtt_records.specs.declared.messages.message.RetainedMessage.{RetainedMessage}
use Rattle.mqtt_records.specs.messages.Queue.{CopyRow}
use Rattle.mqtt_records.specs.declared.state.change.Change.{Change}
use Rattle.mqtt_records.specs.declared.state.records.Records.{Records}
use Rattle.mqtt_records.specs.state.Records.{changed, changed_all, nothing}
use Rattle.mqtt_records.specs.state.Members.{Has}
use Rattle.mqtt_records.specs.state.Contents.{StoredMessage, IsMessageOf, SharesContents, FitContents}
use Rattle.mqtt_keep.proofs.contents_lemmas.Nothing.{nothing_shared}
use Rattle.mqtt_rules.specs.declared.step.Capacity.{Capacity}
use Rattle.mqtt_rules.specs.step.State.{Broker, MemberChoice, stored}
use Rattle.mqtt_rules.specs.step.Deeds.{Deed, rows_of, rows_of_all, stored_after, after, after_all}
use Rattle.mqtt_rules.specs.step.Step.{Call, deeds, at_moment, env_of, stamp_of, stamped, with_moment, rows_written, stepped, opening_deeds, unopened, opened}
use Rattle.mqtt_rules.specs.step.Numbers.{HasCopiesUpTo, HasAcceptedNumbers}
use Rattle.mqtt_rules.specs.step.Laws.{Event, Asked, Reopened, after_event, after_events, blank}
use Rattle.mqtt_rules.proofs.step_lemmas.acts.Goods.{AreGood}
use Rattle.mqtt_rules.proofs.step_lemmas.acts.Leads.{Leads}
use Rattle.mqtt_rules.proofs.step_lemmas.numbers.NumberCopies.{opening_accepted, step_accepted}
use Rattle.mqtt_rules.proofs.sharing_lemmas.Agreement.{HasFittingRows}
use Rattle.mqtt_rules.proofs.sharing_lemmas.Acts.{Keeps, call_leads, opening_leads}

-- ---- before a step

each_has : {X : Type 0} (P : X → Type 0) (x : X) (xs : List X) → AllByRecursion P xs → Has xs x → P x
each_has P x [] h there = absurd there
each_has P x (y ∷ ys) h there = elim there [ inl it ↦ subst P (sym it) h.0 | inr more ↦ each_has P x ys h.1 more ]

accepted_number : (r : Records) (m : StoredMessage) → HasAcceptedNumbers r → IsMessageOf r m → m.publication ≤ r.publications
accepted_number r m h (inl it) =
    let queue = each_has (HasCopiesUpTo r.publications) it.2.0 r.sessions h.0 it.2.1 in
    let up = each_has (λ (e : CopyRow). e.copy.id.publication ≤ r.publications) it.1 it.2.0.queue queue it.2.3 in
    let e = ap (λ (n : StoredMessage). n.publication) it.3 in
    omega (arith, up, e)
accepted_number r m h (inr it) =
    let up = each_has (λ (k : RetainedMessage). k.publication ≤ r.publications) it.0 r.retained h.1 it.1 in
    let e = ap (λ (n : StoredMessage). n.publication) it.2 in
    omega (arith, up, e)

keeps : (b : Broker) → SharesContents b.records → HasAcceptedNumbers b.records → Keeps b
keeps b shared h = record {
  alike = λ m n p q same. elim p [
    | inl said ↦ elim q [ inl also ↦ shared m said n also same | inr none ↦ absurd none ]
    | inr none ↦ absurd none
  ];
  within = λ m p. elim p [ inl said ↦ accepted_number b.records m h said | inr none ↦ absurd none ];
}

-- ---- behind it

shares : (b : Broker) → Keeps b → SharesContents b.records
shares b k m said n also same = k.alike m n (inl said) (inl also) same

stamped_shares : (rows : List Change) (b : Broker) → SharesContents b.records → SharesContents (with_moment rows b).records
stamped_shares [] b h = h
stamped_shares (row ∷ rows) b h = h

-- ---- rows

both_fit : (xs ys : List Change) (r : Records) → FitContents xs r → FitContents ys (changed_all xs r) → FitContents (xs ++ ys) r
both_fit [] ys r p q = q
both_fit (x ∷ xs) ys r p q = (p.0, both_fit xs ys (changed x r) p.1 q)

deeds_fit : (ds : List Deed) (b : Broker) → AreGood HasFittingRows ds b → FitContents (rows_of_all ds b.records) b.records
deeds_fit [] b g = tt
deeds_fit (d ∷ ds) b g = both_fit (rows_of d b.records) (rows_of_all ds (stored_after d b.records)) b.records g.0 (deeds_fit ds (after d b) g.1)

stamp_fits : (now was : ℕ) (r : Records) → FitContents (stamp_of now was) r
stamp_fits now was r = elim (cases_Bool (nat_eq now was)) [
  | inl same ↦ rw same tt
  | inr other ↦ rw other (tt, tt)
]

stamped_fit : (now was : ℕ) (rows : List Change) (r : Records) → FitContents rows r → FitContents (stamped now was rows) r
stamped_fit now was [] r fit = tt
stamped_fit now was (x ∷ rows) r fit = both_fit (x ∷ rows) (stamp_of now was) r fit (stamp_fits now was (changed_all (x ∷ rows) r))

rows_fit : (ds : List Deed) (b : Broker) → Leads Keeps HasFittingRows ds b → FitContents (rows_written ds b) b.records
rows_fit ds b led = stamped_fit b.now b.records.moment (rows_of_all ds b.records) b.records (deeds_fit ds b led.0)

left_shared : (ds : List Deed) (b : Broker) → Leads Keeps HasFittingRows ds b → SharesContents (with_moment (rows_of_all ds b.records) (after_all ds b)).records
left_shared ds b led = stamped_shares (rows_of_all ds b.records) (after_all ds b) (shares (after_all ds b) led.1)

-- ---- steps and openings

step_leads : (limits : Capacity) (choice : MemberChoice) (now : ℕ) (call : Call) (b : Broker) → SharesContents (stored b) → HasAcceptedNumbers (stored b) → Leads Keeps HasFittingRows (deeds limits choice now call b) (at_moment now b)
step_leads limits choice now call b shared h = call_leads (env_of limits choice b) call (at_moment now b) (keeps (at_moment now b) shared h)

opened_leads : (limits : Capacity) (choice : MemberChoice) (now : ℕ) (r : Records) → SharesContents r → HasAcceptedNumbers r → Leads Keeps HasFittingRows (opening_deeds limits choice now r) (unopened now r)
opened_leads limits choice now r shared h = let b = unopened now r in opening_leads (env_of limits choice b) b (keeps b shared h)

-- each row of a step says what is said under its number
pub step_fits : (limits : Capacity) (choice : MemberChoice) (now : ℕ) (call : Call) (b : Broker) → SharesContents (stored b) → HasAcceptedNumbers (stored b)
    → FitContents (rows_written (deeds limits choice now call b) (at_moment now b)) (stored b)
step_fits limits choice now call b shared h = rows_fit (deeds limits choice now call b) (at_moment now b) (step_leads limits choice now call b shared h)

-- contents stay shared by a step
pub step_shared : (limits : Capacity) (choice : MemberChoice) (now : ℕ) (call : Call) (b : Broker) → SharesContents (stored b) → HasAcceptedNumbers (stored b)
    → SharesContents (stored (stepped limits choice now call b))
step_shared limits choice now call b shared h = left_shared (deeds limits choice now call b) (at_moment now b) (step_leads limits choice now call b shared h)

-- each row of an opening says what is said under its number
pub opening_fits : (limits : Capacity) (choice : MemberChoice) (now : ℕ) (r : Records) → SharesContents r → HasAcceptedNumbers r
    → FitContents (rows_written (opening_deeds limits choice now r) (unopened now r)) r
opening_fits limits choice now r shared h = rows_fit (opening_deeds limits choice now r) (unopened now r) (opened_leads limits choice now r shared h)

-- contents stay shared by an opening
pub opening_shared : (limits : Capacity) (choice : MemberChoice) (now : ℕ) (r : Records) → SharesContents r → HasAcceptedNumbers r
    → SharesContents (stored (opened limits choice now r))
opening_shared limits choice now r shared h = left_shared (opening_deeds limits choice now r) (unopened now r) (opened_leads limits choice now r shared h)

-- ---- runs

abbrev IsGood : Broker → Type 0
IsGood b = SharesContents (stored b) × HasAcceptedNumbers (stored b)

event_good : (e : Event) (b : Broker) → IsGood b → IsGood (after_event e b)
event_good (Asked limits choice now call) b h = (step_shared limits choice now call b h.0 h.1, step_accepted limits choice now call b h.1)
event_good (Reopened limits choice now) b h = (opening_shared limits choice now (stored b) h.0 h.1, opening_accepted limits choice now (stored b) h.1)

events_good : (es : List Event) (b : Broker) → IsGood b → IsGood (after_events es b)
events_good [] b h = h
events_good (e ∷ es) b h = events_good es (after_event e b) (event_good e b h)

-- contents are shared behind any events
pub run_shared : (es : List Event) → SharesContents (stored (after_events es blank))
run_shared es = (events_good es blank (nothing_shared, (tt, tt))).0
