-- What the closing of sessions made of a step, for some choice of members (MQTT 5.0, 4.1).
use Rattle.std.specs.Prelude.{◌≡◌, ℕ, false}
use Rattle.mqtt_records.specs.declared.state.records.Records.{Records}
use Rattle.mqtt_rules.specs.declared.step.Capacity.{Capacity}
use Rattle.mqtt_rules.specs.step.Deeds.{Act}
use Rattle.mqtt_rules.specs.step.State.{Env, MemberChoice, stored}
use Rattle.mqtt_rules.specs.step.Step.{SpentOpening, is_opening_spent, opened, opening_deeds, unopened}
use Rattle.mqtt_broker_step.specs.declared.fault.StepFault.{StepFault}
use Rattle.mqtt_broker_step.specs.declared.fault.StepFault.TheVariants.{Spent}
use Rattle.mqtt_broker_step.specs.Stepping.{Stepping, Did, IsLeft, at_rest, did, env_in, with_stamp}

-- it did an act, for some choice
pub record DidSome (act : Env → Act) (old new : Stepping) : Type 0 where
  pub choice : MemberChoice
  pub is : Did (act (env_in choice old)) old new

-- and a refusal
pub record LeftSome (act : Env → Act) (fault : StepFault) (old new : Stepping) : Type 0 where
  pub choice : MemberChoice
  pub is : IsLeft (act (env_in choice old)) fault old new

-- a broker with these records and no lines, at the greatest of their moment and the one handed in
abbrev pub resting : Capacity → ℕ → Records → Stepping
resting limits now r = at_rest limits (unopened now r)

-- it did the deeds of an opening, with its moment, for some choice
pub record DidOpen (limits : Capacity) (now : ℕ) (r : Records) (s : Stepping) : Type 0 where
  pub choice : MemberChoice
  pub is : s ≡ with_stamp (did (opening_deeds limits choice now r) (resting limits now r))

-- a refusal leaves a step that can be taken back, and numbers are spent only if those of an opening are
pub record IsLeftOpen (limits : Capacity) (now : ℕ) (r : Records) (fault : StepFault) (s : Stepping) : Type 0 where
  pub start : s.start ≡ unopened now r
  pub limits_are : s.limits ≡ limits
  pub spent : fault ≡ Spent → SpentOpening limits r now

-- what is stored after an opening, for some choice of members
pub record IsStoredAfter (limits : Capacity) (now : ℕ) (r after : Records) : Type 0 where
  pub choice : MemberChoice
  pub unspent : is_opening_spent limits choice now r ≡ false
  pub is : after ≡ stored (opened limits choice now r)
