-- What holds of the broker alone, and stays so in every run of the world (MQTT 5.0, 3.1, 3.1.4).
use Rattle.std.specs.Prelude.{◌≡◌, ℕ, false, List, [], None}
use Rattle.std.specs.List.{AllByRecursion}
use Rattle.mqtt_rules.specs.step.Deeds.{Deed}
use Rattle.mqtt_rules.specs.step.State.{Broker, Line, MemberChoice}
use Rattle.mqtt_rules.specs.step.Step.{Call, is_opening_spent, is_step_spent, opened, stepped}
use Rattle.mqtt_rules.specs.declared.step.Capacity.{Capacity}
use Rattle.mqtt_world_laws.specs.acceptance.Fair.{IsSteady}

-- if nobody is connected on a line, no copy went out on it
abbrev pub IsUnused : Line → Type 0
IsUnused l = l.session ≡ None → l.went ≡ []

abbrev pub HaveSentNothing : Broker → Type 0
HaveSentNothing b = AllByRecursion IsUnused b.lines

-- each call and each opening keeps this, as long as no number is spent
pub record IsKept (limits : Capacity) (P : Broker → Type 0) : Type 0 where
  pub called : (choice : MemberChoice) (now : ℕ) (call : Call) (b : Broker) → IsSteady b
      → is_step_spent limits choice now call b ≡ false → P b → P (stepped limits choice now call b)
  pub reopened : (choice : MemberChoice) (now : ℕ) (b : Broker) → IsSteady b
      → is_opening_spent limits choice now b.records ≡ false → P b → P (opened limits choice now b.records)

-- so that deeds which lead from one state to the next carry it along
abbrev pub Carries : (Broker → Type 0) → List Deed → Broker → Broker → Type 0
Carries P ds b d = P b → P d
