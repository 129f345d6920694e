-- What holds of each packet under way from an end holds after whatever becomes of its line.
use Rattle.std.proofs.Common.{ℕ, Bool, true, false, List, [], ◌∷◌, drop}
use Rattle.std.specs.List.{AllByRecursion}
use Rattle.mqtt_flow.specs.inbound.Line.{Link, away, asked, live, sent_on}
use Rattle.mqtt_rules.proofs.step_lemmas.numbers.Copies.{each_append}
use Rattle.mqtt_rules.specs.step.State.{Broker}
use Rattle.mqtt_rules.specs.step.Step.{Outcome}
use Rattle.mqtt_world_model.specs.model.Ends.{goes}
use Rattle.mqtt_world_model.specs.model.Lines.{Line, gives_up, is_one_of, joined, left, no_line, restarted, told_by, unless_closed}
use Rattle.mqtt_world_model.specs.model.World.{taken_old, taken_up}
use Rattle.mqtt_world_model.specs.single_steps.Sound.{Carries}

module _ {U : Type 0} (G : U → Type 0) where
  -- from no line nothing is under way
  pub none_carries : Carries G no_line
  none_carries = record { up = tt; old = tt }

  behind_first : (xs : List U) → AllByRecursion G xs → AllByRecursion G (drop 1 xs)
  behind_first [] h = tt
  behind_first (x ∷ xs) h = h.1

  -- what holds of each packet under way does once one was read
  pub up_carries : (l : Line U) → Carries G l → Carries G (taken_up l)
  up_carries l h = record { up = behind_first l.up h.up; old = h.old }

  -- what holds of each packet under way does once one was read of the line that was given up
  pub old_carries : (l : Line U) → Carries G l → Carries G (taken_old l)
  old_carries l h = record { up = h.up; old = behind_first l.old h.old }

  -- what holds of each packet under way does once the line is left
  pub left_carries : (l : Line U) → Carries G l → Carries G (left l)
  left_carries l h = record { up = tt; old = h.old }

  -- what holds of each packet under way does once the line is given up
  pub gives_carries : (l : Line U) → Carries G l → Carries G (gives_up l.link l)
  gives_carries l h = by l.link
    where
      by : (link : Link) → Carries G (gives_up link l)
      by away = h
      by asked = record { up = tt; old = h.up }
      by live = record { up = tt; old = h.up }

  -- what holds of each packet under way does on a new line, if it holds of the first one there
  pub joined_carries : (x : U) (n : ℕ) (clean : Bool) (l : Line U) → G x → Carries G l → Carries G (joined x n clean l)
  joined_carries x n clean l g h = record { up = (g, tt); old = h.old }

  -- after a restart nothing is under way
  pub restarted_carries : (l : Line U) → Carries G (restarted l)
  restarted_carries l = record { up = tt; old = tt }

  unless : (t : Bool) (xs : List U) → AllByRecursion G xs → AllByRecursion G (unless_closed t xs)
  unless true xs h = tt
  unless false xs h = h

  -- what holds of each packet under way does whatever the broker tells
  pub told_carries : (b : Broker) (out : Outcome) (l : Line U) → Carries G l → Carries G (told_by b out l)
  told_carries b out l h = record { up = unless (is_one_of l.number out.closed) l.up h.up; old = unless (is_one_of l.old_number out.closed) l.old h.old }

  sent_carries : (t : Bool) (xs ys : List U) → AllByRecursion G xs → AllByRecursion G ys → AllByRecursion G (sent_on t xs ys)
  sent_carries true xs ys h g = each_append G xs ys h g
  sent_carries false xs ys h g = h

  -- what holds of each packet under way does when more go out of which it holds
  pub goes_carries : (t : Bool) (xs : List U) (l : Line U) → AllByRecursion G xs → Carries G l → Carries G (goes t xs l)
  goes_carries t xs l g h = record { up = sent_carries t l.up xs h.up g; old = h.old }
