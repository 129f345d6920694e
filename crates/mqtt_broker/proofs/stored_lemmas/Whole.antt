-- A step that did the deeds of a call on rows that say less, beside the whole broker.
use Rattle.std.proofs.Common.{◌≡◌, ◌⊎◌, ℕ, Bool, false, List, refl, ap, sym, subst, ◌∙◌, inl, inr}
use Rattle.mqtt_records.specs.declared.state.change.Change.{Change}
use Rattle.mqtt_records.specs.declared.state.records.Records.{Records}
use Rattle.mqtt_records.specs.state.Contents.{FitContents}
use Rattle.mqtt_records.specs.state.Records.{FitAll, changed_all}
use Rattle.mqtt_records.specs.state.Saying.{AllSayable}
use Rattle.mqtt_rules.specs.step.Contents.{TakesLawful, of_rows}
use Rattle.mqtt_rules.specs.step.State.{Broker, MemberChoice}
use Rattle.mqtt_rules.specs.step.Step.{Call, at_moment, deeds, is_spent, is_step_spent, rows_written, stepped, told, Outcome as Told}
use Rattle.mqtt_rules.proofs.step_lemmas.contents.SayableRows.{step_said}
use Rattle.mqtt_rules.proofs.step_lemmas.contents.SpelledContents.{rows_are as row_sizes}
use Rattle.mqtt_rules.proofs.step_lemmas.fit.RowsFit.{step_fits}
use Rattle.mqtt_rules.proofs.sharing_lemmas.Steps as sharing
use Rattle.mqtt_rules.specs.alike.Alike.{AlikeBrokers}
use Rattle.mqtt_rules.specs.alike.Slim.{slim_broker}
use Rattle.mqtt_rules.proofs.alike_lemmas.Steps.{written_same, step_alike}
use Rattle.mqtt_rules.proofs.filling_lemmas.Equivalence.{slim_through}
use Rattle.mqtt_rules.proofs.filling_lemmas.Steps.{step_stored}
use Rattle.mqtt_broker_step.specs.Stepping.{CanStore, Stepping, with_stamp}
use Rattle.mqtt_broker_queue.specs.subscribers.Following.{CanAllBeFollowed}
use Rattle.mqtt_broker_queue.proofs.subscribers_lemmas.Followed.{step_followed}
use Rattle.mqtt_broker_acts.specs.calls.Doing.{DidCall}
use Rattle.mqtt_broker_acts.specs.calls.Ready.{IsReady}
use Rattle.mqtt_broker_acts.specs.calls.Sound.{IsSound}
use Rattle.mqtt_broker_acts.proofs.calls_lemmas.SoundLaw.{step_sound}
use Rattle.mqtt_broker_acts.proofs.calls_lemmas.Sources.{sound_ready}
use Rattle.mqtt_broker.proofs.alike_lemmas.Ready.{ready_alike}
use Rattle.mqtt_broker.specs.declared.stored.outcome.Outcome.{Outcome}
use Rattle.mqtt_broker.specs.stored.Calling.{IsAnswered, IsAnsweredForLines, IsLeftBy, KeepsLines, Tells}
use Rattle.mqtt_broker.proofs.stored_lemmas.Called.{broker_is, call_unspent, ready_indexed, rows_are}
use Rattle.mqtt_broker.specs.stored.Finishing.{CanFollow, IsTold}

-- ---- the step alone, whatever the store has

module _ (now : ℕ) (call : Call) (again : Bool) (s : Stepping) (did : DidCall now call again s) where
  -- what is told of it is answered as in a step of a broker with the same lines
  pub lines_answered : (out : Outcome) (old new : Broker) → is_spent (with_stamp s).rows ≡ false → IsTold (with_stamp s) again out → KeepsLines old s.start
      → KeepsLines (with_stamp s).broker new → IsAnsweredForLines s.limits old now call out new
  lines_answered out old new e its begins ends = record {
    before = s.start;
    after = (with_stamp s).broker;
    begins = begins;
    answered = record {
      told = told s.limits did.choice now call s.start;
      tells = record {
        outputs = its.outputs ∙ ap (λ (t : Stepping). t.outputs) did.is;
        closed = its.closed ∙ ap (λ (t : Stepping). t.closed) did.is;
        reports = its.reports ∙ ap (λ (t : Stepping). t.reports) did.is;
        taken = its.taken;
        again = its.again_is ∙ did.again_is;
      };
      step = record { choice = did.choice; unspent = call_unspent now call again s did e; new_is = broker_is now call again s did; out_is = refl };
    };
    ends = ends;
  }

-- ---- beside the whole broker's

module _ (now : ℕ) (call : Call) (again : Bool) (s : Stepping) (did : DidCall now call again s) (whole : Broker) (alike : AlikeBrokers s.start whole) where
  -- the whole broker after the call
  abbrev pub next : Broker
  next = stepped s.limits did.choice now call whole

  -- the rows are those that the whole broker's step writes
  pub rows_whole : (with_stamp s).rows ≡ rows_written (deeds s.limits did.choice now call whole) (at_moment now whole)
  rows_whole = rows_are now call again s did ∙ written_same s.limits did.choice now call s.start whole alike

  -- if none of the step's numbers is spent, none of the whole broker's is
  pub whole_unspent : is_spent (with_stamp s).rows ≡ false → is_step_spent s.limits did.choice now call whole ≡ false
  whole_unspent e = ap is_spent (sym rows_whole) ∙ e

  -- so they fit what the store has
  pub can_store : IsSound s.limits whole → TakesLawful call → is_spent (with_stamp s).rows ≡ false → CanStore (with_stamp s).rows whole.records
  can_store sound taken e = record {
    fit = subst (λ (rows : List Change). FitAll rows whole.records) (sym rows_whole)
        (step_fits s.limits did.choice now call whole sound.limited sound.coherent sound.timed sound.last (whole_unspent e));
    sayable = subst AllSayable (sym rows_whole) (step_said of_rows row_sizes s.limits did.choice now call whole taken sound.contents);
    contents = subst (λ (rows : List Change). FitContents rows whole.records) (sym rows_whole)
        (sharing.step_fits s.limits did.choice now call whole sound.shared sound.accepted);
  }

  -- and make of it what the whole broker stores
  pub store_makes : changed_all (with_stamp s).rows whole.records ≡ next.records
  store_makes = ap (λ (rows : List Change). changed_all rows whole.records) (rows_are now call again s did) ∙ step_stored s.limits did.choice now call s.start whole alike

  -- the step leaves what is alike to the whole broker after the call
  after_alike : AlikeBrokers (with_stamp s).broker next
  after_alike = subst (λ (b : Broker). AlikeBrokers b next) (sym (broker_is now call again s did)) (step_alike s.limits did.choice now call s.start whole alike)

  -- also when its rows are made slim
  pub next_alike : AlikeBrokers (slim_broker (with_stamp s).broker) next
  next_alike = slim_through (with_stamp s).broker next after_alike

  -- and the whole broker is sound after it
  pub next_sound : IsSound s.limits whole → TakesLawful call → is_spent (with_stamp s).rows ≡ false → IsSound s.limits next
  next_sound sound taken e = step_sound s.limits did.choice now call whole (whole_unspent e) taken sound

  -- an index can follow the step
  pub can_follow : IsSound s.limits whole → TakesLawful call → CanFollow (with_stamp s)
  can_follow sound taken =
      let ready : IsReady s.limits s.start = ready_alike s.limits s.start whole alike (sound_ready s.limits whole sound) in
      record {
        indexed = ready_indexed s.limits s.start ready;
        followed = subst (λ (rows : List Change). CanAllBeFollowed rows s.start.records) (sym (rows_are now call again s did))
            (step_followed s.limits did.choice now call s.start ready.limited ready.coherent ready.last taken);
        ordered = λ e.
            let after : IsReady s.limits (with_stamp s).broker = ready_alike s.limits (with_stamp s).broker next after_alike (sound_ready s.limits next (next_sound sound taken e)) in
            after.coherent.ordered;
      }

  -- what a crash leaves of the rows is what the call may leave
  pub whole_left : (left : Records) → is_spent (with_stamp s).rows ≡ false → (left ≡ whole.records) ⊎ (left ≡ changed_all (with_stamp s).rows whole.records)
      → IsLeftBy s.limits whole now call left
  whole_left left e (inl same) = inl same
  whole_left left e (inr after) = inr (record { choice = did.choice; unspent = whole_unspent e; is = after ∙ store_makes })

  -- what is told of the step is the answer of the whole broker's call, if that tells the same
  pub whole_answered : ((choice : MemberChoice) → told s.limits choice now call s.start ≡ told s.limits choice now call whole) → (out : Outcome) → is_spent (with_stamp s).rows ≡ false
      → IsTold (with_stamp s) again out → IsAnswered s.limits whole now call out next
  whole_answered tells out e its = record {
    told = told s.limits did.choice now call whole;
    tells = subst (λ (t : Told). Tells t out) (tells did.choice) (record {
      outputs = its.outputs ∙ ap (λ (t : Stepping). t.outputs) did.is;
      closed = its.closed ∙ ap (λ (t : Stepping). t.closed) did.is;
      reports = its.reports ∙ ap (λ (t : Stepping). t.reports) did.is;
      taken = its.taken;
      again = its.again_is ∙ did.again_is;
    });
    step = record { choice = did.choice; unspent = whole_unspent e; new_is = refl; out_is = refl };
  }
