-- Steps and openings on rows that say less.
use Rattle.std.proofs.Common.{◌≡◌, ℕ, List, ap, ◌∙◌}
use Rattle.mqtt_records.specs.state.Records.{changed_all}
use Rattle.mqtt_records.specs.declared.state.change.Change.{Change}
use Rattle.mqtt_records.specs.declared.state.records.Records.{Records}
use Rattle.mqtt_rules.specs.declared.step.Capacity.{Capacity}
use Rattle.mqtt_rules.specs.step.State.{Broker, MemberChoice}
use Rattle.mqtt_rules.specs.step.Step.{Call, at_moment, deeds, env_of, stepped, told, rows_written, stamped, is_spent, opened, opening_deeds, unopened, is_opening_spent}
use Rattle.mqtt_rules.proofs.step_lemmas.fit.StoredLaw.{rows_store}
use Rattle.mqtt_rules.specs.alike.Alike.{AlikeRecords, AlikeBrokers, IsPump, with_sessions}
use Rattle.mqtt_rules.proofs.alike_lemmas.States.{by_sessions, by_broker, broker_put, records_put}
use Rattle.mqtt_rules.proofs.alike_lemmas.Calls.{opening_alike}
use Rattle.mqtt_rules.proofs.alike_lemmas.Steps.{all_rows_same, step_alike, written_same, told_alike, opened_alike}
use Rattle.mqtt_records.specs.messages.Filling.{Fillings}
use Rattle.mqtt_rules.specs.filling.Filling.{AreFilledBy, filled}
use Rattle.mqtt_rules.proofs.filling_lemmas.Filled.{broker_whole}
use Rattle.mqtt_rules.proofs.filling_lemmas.Tellings.{outcome_same}

-- a later moment leaves alike brokers alike
pub moment_alike : (now : ℕ) (b c : Broker) → AlikeBrokers b c → AlikeBrokers (at_moment now b) (at_moment now c)
moment_alike now b c h = by_broker (λ (x : Broker). AlikeBrokers (at_moment now b) (at_moment now x)) b (λ ss k. broker_put (at_moment now b) ss k) c h

module _ (limits : Capacity) (choice : MemberChoice) (now : ℕ) where
  -- what a step leaves, filled, is what the step on the whole broker leaves
  pub step_whole : (call : Call) (fillings : Fillings) (b c : Broker) → AlikeBrokers b c → AreFilledBy fillings (stepped limits choice now call c).records
      → filled fillings (stepped limits choice now call b) ≡ stepped limits choice now call c
  step_whole call fillings b c h = broker_whole fillings (stepped limits choice now call b) (stepped limits choice now call c) (step_alike limits choice now call b c h)

  -- so it is of an opening
  pub opened_whole : (fillings : Fillings) (r o : Records) → AlikeRecords r o → AreFilledBy fillings (opened limits choice now o).records
      → filled fillings (opened limits choice now r) ≡ opened limits choice now o
  opened_whole fillings r o h = broker_whole fillings (opened limits choice now r) (opened limits choice now o) (opened_alike limits choice now r o h)

  -- an opening on alike records writes the same
  pub opening_written : (r o : Records) → AlikeRecords r o
      → rows_written (opening_deeds limits choice now r) (unopened now r) ≡ rows_written (opening_deeds limits choice now o) (unopened now o)
  opening_written r o h = by_sessions (λ (x : Records). rows_written (opening_deeds limits choice now r) (unopened now r) ≡ rows_written (opening_deeds limits choice now x) (unopened now x)) r
      (λ ss k. ap (stamped (unopened now r).now r.moment)
      (all_rows_same ⊥ (opening_deeds limits choice now r) (opening_deeds limits choice now (with_sessions ss r))
      ((opening_alike ⊥ (env_of limits choice (unopened now r)) ss).does (unopened now r) ss k) r (with_sessions ss r) (records_put r ss k))) o h

  -- the store makes of the rows written what the step on the whole broker stores
  pub step_stored : (call : Call) (b c : Broker) → AlikeBrokers b c
      → changed_all (rows_written (deeds limits choice now call b) (at_moment now b)) c.records ≡ (stepped limits choice now call c).records
  step_stored call b c h = ap (λ (rows : List Change). changed_all rows c.records) (written_same limits choice now call b c h) ∙ rows_store (deeds limits choice now call c) (at_moment now c)

  -- and of those of an opening what the opening stores
  pub opening_stored : (r o : Records) → AlikeRecords r o
      → changed_all (rows_written (opening_deeds limits choice now r) (unopened now r)) o ≡ (opened limits choice now o).records
  opening_stored r o h = ap (λ (rows : List Change). changed_all rows o) (opening_written r o h) ∙ rows_store (opening_deeds limits choice now o) (unopened now o)

  -- and is spent on both or on none
  pub opening_spent : (r o : Records) → AlikeRecords r o → is_opening_spent limits choice now r ≡ is_opening_spent limits choice now o
  opening_spent r o h = ap is_spent (opening_written r o h)

  -- a call that is no pump tells the same
  pub call_tells : (call : Call) (b c : Broker) → (IsPump call → ⊥) → AlikeBrokers b c → told limits choice now call b ≡ told limits choice now call c
  call_tells call b c never h = outcome_same (IsPump call) never (told limits choice now call b) (told limits choice now call c) (told_alike limits choice now call b c h)
