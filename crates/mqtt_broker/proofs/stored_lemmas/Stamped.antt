-- An opening that was done, with its moment: what the store is told, and what stands then.
use Rattle.std.proofs.Common.{◌≡◌, ℕ, false, ◌⊎◌, List, [], ◌∷◌, refl, ap, sym, subst, ◌∙◌, inl, inr}
use Rattle.mqtt_keep.specs.lawful.Lawful.{IsLawful}
use Rattle.mqtt_records.specs.declared.state.change.Change.{Change}
use Rattle.mqtt_records.specs.declared.state.records.Records.{Records}
use Rattle.mqtt_records.specs.state.Records.{FitAll, changed_all}
use Rattle.mqtt_records.specs.state.Contents.{FitContents}
use Rattle.mqtt_records.specs.state.Saying.{AllSayable}
use Rattle.mqtt_routes.specs.routing.Subscriptions.{Subscriber}
use Rattle.mqtt_rules.specs.declared.step.Capacity.{Capacity}
use Rattle.mqtt_rules.specs.step.Contents.{of_rows}
use Rattle.mqtt_rules.specs.step.Deeds.{Deed, rows_of_all, after_all}
use Rattle.mqtt_rules.specs.step.Laws.{AreWithin}
use Rattle.mqtt_rules.specs.step.Routing.{subscribers}
use Rattle.mqtt_rules.specs.step.State.{Broker}
use Rattle.mqtt_rules.specs.step.Step.{BrokerOpening, is_opening_spent, is_spent, opened, opening, opening_deeds, rows_written, stamped, unopened, with_moment}
use Rattle.mqtt_rules.proofs.step_lemmas.contents.LawfulContents.{lawful_contents}
use Rattle.mqtt_rules.proofs.step_lemmas.fit.LawfulRecords.{lawful_coherent, lawful_accepted}
use Rattle.mqtt_rules.proofs.step_lemmas.fit.RowsFit.{opening_fits}
use Rattle.mqtt_rules.proofs.sharing_lemmas.Steps as sharing
use Rattle.mqtt_rules.specs.alike.Alike.{AlikeBrokers, AlikeRecords}
use Rattle.mqtt_rules.proofs.alike_lemmas.Steps.{opened_alike}
use Rattle.mqtt_rules.proofs.filling_lemmas.Steps.{opening_stored, opening_written}
use Rattle.mqtt_rules.proofs.step_lemmas.contents.SayableRows.{opening_said}
use Rattle.mqtt_rules.proofs.step_lemmas.contents.SpelledContents.{rows_are as row_sizes}
use Rattle.mqtt_rules.proofs.step_lemmas.numbers.Counters.{moment_stays, now_stays}
use Rattle.mqtt_broker_step.specs.declared.fault.StepFault.{StepFault}
use Rattle.mqtt_broker_step.specs.declared.fault.StepFault.TheVariants.{Memory, Spent}
use Rattle.mqtt_broker_step.specs.Stepping.{CanStore, Stepping, did, env_in, with_stamp}
use Rattle.mqtt_broker_acts.specs.calls.Sound.{IsSound}
use Rattle.mqtt_broker_acts.proofs.calls_lemmas.CallActs.{spent_stamped}
use Rattle.mqtt_broker_acts.proofs.calls_lemmas.SoundLaw.{opening_sound}
use Rattle.mqtt_broker_queue.specs.subscribers.Indexing.{Serves}
use Rattle.mqtt_broker.specs.stored.Closing.{DidOpen, DidSome, IsLeftOpen, IsStoredAfter, LeftSome, resting}

-- ---- the moment

stamped_by : (rows : List Change) (b : Broker) → subscribers (with_moment rows b).records ≡ subscribers b.records
stamped_by [] b = refl
stamped_by (row ∷ rows) b = refl

-- an index serves what stands with the moment too
pub stamped_serves : (index : List Subscriber) (s new : Stepping) → new ≡ with_stamp s → Serves index (subscribers s.broker.records) → Serves index (subscribers new.broker.records)
stamped_serves index s new is serves =
    subst (λ (ss : List Subscriber). Serves index ss) (sym (ap (λ (t : Stepping). subscribers t.broker.records) is ∙ stamped_by s.rows s.broker)) serves

-- ---- from its beginning

module _ (limits : Capacity) (now : ℕ) (r : Records) (old : Stepping) (begun : old ≡ resting limits now r) where
  -- an opening that was done and has its moment is the one of the rules
  pub opened_of : (s new : Stepping) → DidSome opening old s → new ≡ with_stamp s → DidOpen limits now r new
  opened_of s new d is = record {
    choice = d.choice;
    is = is ∙ ap with_stamp (d.is.is ∙ ap (λ (t : Stepping). did (opening (env_in d.choice t) t.broker) t) begun);
  }

  -- one that was refused is left as the rules have it
  pub left_of : (fault : StepFault) (new : Stepping) → LeftSome opening fault old new → IsLeftOpen limits now r fault new
  left_of fault new d = record {
    start = d.is.start ∙ ap (λ (t : Stepping). t.start) begun;
    limits_are = d.is.limits ∙ ap (λ (t : Stepping). t.limits) begun;
    spent = λ e. record {
      choice = d.choice;
      spent = spent_stamped (unopened now r).now r.moment (rows_of_all (opening_deeds limits d.choice now r) r)
          (sym (ap (λ (t : Stepping). is_spent (rows_of_all (opening (env_in d.choice t) t.broker) t.broker.records)) begun) ∙ d.is.spent e);
    };
  }

  -- so is one whose moment was refused, for want of memory
  pub left_stamp : (fault : StepFault) (s new : Stepping) → DidSome opening old s → new ≡ s → fault ≡ Memory → IsLeftOpen limits now r fault new
  left_stamp fault s new d is memory = record {
    start = ap (λ (t : Stepping). t.start) is ∙ (ap (λ (t : Stepping). t.start) d.is.is ∙ ap (λ (t : Stepping). t.start) begun);
    limits_are = ap (λ (t : Stepping). t.limits) is ∙ (ap (λ (t : Stepping). t.limits) d.is.is ∙ ap (λ (t : Stepping). t.limits) begun);
    spent = λ e. let no : Memory ≡ Spent = sym memory ∙ e in absurd cc;
  }

-- ---- what the store is told, which has records that are alike

module _ (limits : Capacity) (now : ℕ) (some whole : Records) (alike : AlikeRecords some whole) (s : Stepping) (h : DidOpen limits now some s) where
  abbrev its : List Deed
  its = opening_deeds limits h.choice now some

  -- the whole broker after its opening
  abbrev pub whole_after : Broker
  whole_after = opened limits h.choice now whole

  rows_are : s.rows ≡ rows_written its (unopened now some)
  rows_are =
      let before = unopened now some in
      ap (λ (t : Stepping). t.rows) h.is
      ∙ ap (λ n. stamped n (after_all its before).records.moment (rows_of_all its some)) (now_stays its before)
      ∙ ap (λ m. stamped before.now m (rows_of_all its some)) (moment_stays its before)

  rows_whole : s.rows ≡ rows_written (opening_deeds limits h.choice now whole) (unopened now whole)
  rows_whole = rows_are ∙ opening_written limits h.choice now some whole alike

  unspent_is : is_spent s.rows ≡ false → is_opening_spent limits h.choice now whole ≡ false
  unspent_is e = ap is_spent (sym rows_whole) ∙ e

  -- its rows can be stored over what the store has
  pub open_can_store : AreWithin limits → IsLawful whole → is_spent s.rows ≡ false → CanStore s.rows whole
  open_can_store within lawful e = record {
    fit = subst (λ (rows : List Change). FitAll rows whole) (sym rows_whole) (opening_fits limits h.choice now whole within (lawful_coherent whole lawful) (unspent_is e));
    sayable = subst AllSayable (sym rows_whole) (opening_said of_rows row_sizes limits h.choice now whole (lawful_contents whole lawful));
    contents = subst (λ (rows : List Change). FitContents rows whole) (sym rows_whole) (sharing.opening_fits limits h.choice now whole lawful.shared (lawful_accepted whole lawful));
  }

  -- and make of it what the opening of the whole records leaves
  pub open_makes : changed_all s.rows whole ≡ whole_after.records
  open_makes = ap (λ (rows : List Change). changed_all rows whole) rows_are ∙ opening_stored limits h.choice now some whole alike

  -- that is an opening
  pub open_is : is_spent s.rows ≡ false → BrokerOpening limits whole now whole_after
  open_is e = record { choice = h.choice; unspent = unspent_is e; new_is = refl }

  -- which is sound
  pub open_sound : AreWithin limits → IsLawful whole → is_spent s.rows ≡ false → IsSound limits whole_after
  open_sound within lawful e = opening_sound limits h.choice now whole within lawful (unspent_is e)

  -- and alike to what the step left
  pub open_alike : AlikeBrokers s.broker whole_after
  open_alike = subst (λ (b : Broker). AlikeBrokers b whole_after) (sym (ap (λ (t : Stepping). t.broker) h.is)) (opened_alike limits h.choice now some whole alike)

  -- a crash leaves what was there before, or what is stored after it
  pub open_left : (after : Records) → is_spent s.rows ≡ false → (after ≡ whole) ⊎ (after ≡ changed_all s.rows whole) → (after ≡ whole) ⊎ IsStoredAfter limits now whole after
  open_left after e (inl same) = inl same
  open_left after e (inr more) = inr (record { choice = h.choice; unspent = unspent_is e; is = more ∙ open_makes })

  -- under these limits
  pub open_limits : s.limits ≡ limits
  open_limits = ap (λ (t : Stepping). t.limits) h.is
