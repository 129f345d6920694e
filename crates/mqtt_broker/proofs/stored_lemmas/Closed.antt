-- A session is closed, or settled: what was done of it, the rows of that, and where it was refused.
use Rattle.std.proofs.Common.{◌≡◌, ◌≤◌, ℕ, List, [], ◌∷◌, ◌++◌, Option, Some, None, Result, Ok, Err, length, drop, refl, sym, ap, subst, ◌∙◌, arith, inr}
use Rattle.std.specs.Prelude.{OnOk, option_map}
use Rattle.std.proofs.lemmas.List.{length-append}
use Rattle.std.proofs.Math.Seq.{drop-append_seam}
use Rattle.mqtt_records.specs.declared.state.change.Change.{Change}
use Rattle.mqtt_records.specs.declared.state.records.Records.{Records}
use Rattle.mqtt_records.specs.declared.state.session.Session.{Session}
use Rattle.mqtt_records.specs.state.Records.{changed_all}
use Rattle.mqtt_routes.specs.routing.Subscriptions.{Subscriber}
use Rattle.mqtt_rules.specs.step.Closing.{settle}
use Rattle.mqtt_rules.specs.step.Deeds.{At, Close, Deed, whose, rows_of_all}
use Rattle.mqtt_rules.specs.step.Routing.{subscribers}
use Rattle.mqtt_rules.specs.step.State.{session_at}
use Rattle.mqtt_rules.specs.step.Step.{shuts}
use Rattle.mqtt_rules.proofs.step_lemmas.acts.Goods.{AreGood}
use Rattle.mqtt_rules.proofs.step_lemmas.fit.StoredLaw.{stored_after_all}
use Rattle.mqtt_broker_step.specs.declared.fault.StepFault.{StepFault}
use Rattle.mqtt_broker_step.specs.declared.fault.StepFault.TheVariants.{Memory, Spent}
use Rattle.mqtt_broker_step.specs.Stepping.{Stepping, Did, IsLeft, did, env_in, to_session}
use Rattle.mqtt_broker_step.specs.Undoing.{moment_of}
use Rattle.mqtt_broker_queue.specs.publications.Choosing.{DoesSome, LeavesSome}
use Rattle.mqtt_broker_queue.specs.publications.Delivering.{whose_at}
use Rattle.mqtt_broker_step.proofs.Then.{same_act, same_left}
use Rattle.mqtt_broker_queue.proofs.publications_lemmas.Some.{leaves_some}
use Rattle.mqtt_broker_acts.specs.closing.Wills.{will_at, will_of}
use Rattle.mqtt_broker_acts.proofs.closing_lemmas.Closed.{close_keeps}
use Rattle.mqtt_broker_acts.proofs.closing_lemmas.Willed.{part_at}
use Rattle.mqtt_broker_queue.specs.subscribers.Following.{CanAllBeFollowed, CanBeIndexed}
use Rattle.mqtt_broker_queue.specs.subscribers.Indexing.{Serves}
use Rattle.mqtt_broker_queue.proofs.subscribers_lemmas.Along.{indexed_all}
use Rattle.mqtt_broker.specs.stored.Sessions.{Face, IsThere, face}
use Rattle.mqtt_broker.proofs.stored_lemmas.Own.{IsOwn, settle_own}
use Rattle.mqtt_broker.proofs.stored_lemmas.Followed.{follow_own}

-- ---- a session that stands

there_whose : (s : Session) (r : Records) → IsThere r s → whose_at s.birth r ≡ Some (whose s)
there_whose s r there = by (session_at s.birth r) there
  where
    by : (o : Option Session) → option_map face o ≡ Some (face s) → option_map whose o ≡ Some (whose s)
    by None h = absurd cc
    by (Some x) h = let same : face x ≡ face s = cc in ap (λ (f : Face). Some f.0) same

-- it has its Will
pub there_will : (s : Session) (r : Records) → IsThere r s → will_at s.birth r ≡ s.will
there_will s r there = by (session_at s.birth r) there
  where
    by : (o : Option Session) → option_map face o ≡ Some (face s) → will_of o ≡ s.will
    by None h = absurd cc
    by (Some x) h = let same : face x ≡ face s = cc in ap (λ (f : Face). f.1) same

-- ---- a session is closed

module _ (birth moment : ℕ) (x : Session) (s : Stepping) (its : x.birth ≡ birth) (there : IsThere s.broker.records x) (at : moment ≡ moment_of s.broker) where
  shut_is : to_session birth (Close moment) s.broker ≡ shuts x s.broker
  shut_is =
      part_at birth (Close moment) (whose x) s.broker (subst (λ (n : ℕ). whose_at n s.broker.records ≡ Some (whose x)) its (there_whose x s.broker.records there))
      ∙ ap (λ (n : ℕ). let ds : List Deed = At (whose x) (Close n) ∷ [] in ds) at

  -- who is closed by its birth is that session
  pub shut_did : (new : Stepping) → Did (to_session birth (Close moment)) s new → Did (shuts x) s new
  shut_did new is = same_act (to_session birth (Close moment)) (shuts x) s new shut_is is

  -- and a refusal is one of that
  pub shut_left : (fault : StepFault) (new : Stepping) → IsLeft (to_session birth (Close moment)) fault s new → IsLeft (shuts x) fault s new
  shut_left fault new left = same_left (to_session birth (Close moment)) (shuts x) fault s new shut_is left

-- closing a session leaves who subscribes to what
pub shut_subscribers : (x : Session) (s s1 : Stepping) → IsThere s.broker.records x → Did (shuts x) s s1 → subscribers s1.broker.records ≡ subscribers s.broker.records
shut_subscribers x s s1 there d =
    let moment = moment_of s.broker in
    let act = to_session x.birth (Close moment) in
    (close_keeps x.birth moment s s1 (same_act (shuts x) act s s1 (sym (shut_is x.birth moment x s refl there refl)) d)).subs

-- ---- the deeds that were done of a session, and their rows

-- deeds were done by which the session with a birth is closed or settled
pub record HasAdded (k : ℕ) (s s1 : Stepping) : Type 0 where
  deeds : List Deed
  own : AreGood (IsOwn k) deeds s.broker
  is : s1 ≡ did deeds s

-- so a session is closed
pub shut_added : (x : Session) (s s1 : Stepping) → Did (shuts x) s s1 → HasAdded x.birth s s1
shut_added x s s1 d = record { deeds = shuts x s.broker; own = (inr (refl, tt), tt); is = d.is }

-- and settled
pub settle_added : (k : ℕ) (s s1 : Stepping) → DoesSome (λ env. settle env k) s s1 → HasAdded k s s1
settle_added k s s1 does =
    let env = env_in (λ number sender. does.members) s in
    record { deeds = settle env k s.broker; own = settle_own k env s.broker; is = (does.is (λ number sender. does.members) refl).is }

module _ (k : ℕ) (s s1 : Stepping) (added : HasAdded k s s1) where
  rows_more : s1.rows ≡ s.rows ++ rows_of_all added.deeds s.broker.records
  rows_more = ap (λ (t : Stepping). t.rows) added.is

  -- rows only come behind those that were there
  pub rows_grow : length s.rows ≤ length s1.rows
  rows_grow =
      let more = rows_of_all added.deeds s.broker.records in
      let is : length s1.rows ≡ length (s.rows ++ more) = ap length rows_more in
      let sum = length-append s.rows more in
      omega (arith, is, sum)

  new_rows : drop (length s.rows) s1.rows ≡ rows_of_all added.deeds s.broker.records
  new_rows = ap (drop (length s.rows)) rows_more ∙ drop-append_seam s.rows (rows_of_all added.deeds s.broker.records)

  -- an index can follow the new ones
  pub rows_followed : CanAllBeFollowed (drop (length s.rows) s1.rows) s.broker.records
  rows_followed =
      subst (λ (rows : List Change). CanAllBeFollowed rows s.broker.records) (sym new_rows)
      (follow_own k added.deeds s.broker added.own)

  -- they make what stands of what stood
  pub rows_made : changed_all (drop (length s.rows) s1.rows) s.broker.records ≡ s1.broker.records
  rows_made =
      ap (λ (rows : List Change). changed_all rows s.broker.records) new_rows
      ∙ (stored_after_all added.deeds s.broker ∙ sym (ap (λ (t : Stepping). t.broker.records) added.is))

  -- what could be indexed can be so after them
  pub still_indexed : CanBeIndexed s.broker.records → CanBeIndexed s1.broker.records
  still_indexed h = subst CanBeIndexed rows_made (indexed_all (drop (length s.rows) s1.rows) s.broker.records h rows_followed)

  -- an index that serves what they make serves what stands
  pub still_serves : (index : List Subscriber) → Serves index (subscribers (changed_all (drop (length s.rows) s1.rows) s.broker.records)) → Serves index (subscribers s1.broker.records)
  still_serves index h = subst (λ (r : Records). Serves index (subscribers r)) rows_made h

-- the index doesn't go along for want of memory
pub follow_refused : (k : ℕ) (s s1 : Stepping) → DoesSome (λ env. settle env k) s s1 → (fault : StepFault) → fault ≡ Memory → LeavesSome (λ env. settle env k) fault s s1
follow_refused k s s1 does fault memory =
    let is = (settle_added k s s1 does).is in
    leaves_some (λ env. settle env k) fault s s1 (λ choice. record {
      start = ap (λ (t : Stepping). t.start) is;
      limits = ap (λ (t : Stepping). t.limits) is;
      spent = λ spent. let no : Memory ≡ Spent = sym memory ∙ spent in absurd cc;
    })

-- what holds anyhow holds of an answer
pub ok_of : {A E : Type 0} {P : Type 0} (r : Result A E) → P → OnOk r P
ok_of (Ok a) p = p
ok_of (Err e) p = tt
