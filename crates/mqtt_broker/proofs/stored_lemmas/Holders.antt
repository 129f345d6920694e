-- Which copy of a queue has a packet identifier, and which line a number.
use Rattle.std.proofs.Common.{◌≡◌, ℕ, List, [], ◌∷◌, map, nat_eq, Option, Some, None, refl, inl, inr}
use Rattle.std.specs.Prelude.{find, option_map}
use Rattle.std.proofs.lemmas.Bool.{cases_Bool}
use Rattle.mqtt_flow.specs.outbound.Queue.{holder, is_holder}
use Rattle.mqtt_records.specs.messages.Filling.{Filling, Fillings, filled_row}
use Rattle.mqtt_records.specs.messages.Queue.{CopyRow}
use Rattle.mqtt_records.specs.lists.Order.{row_at}
use Rattle.mqtt_records.specs.state.Session.{birth_of}
use Rattle.mqtt_records.specs.declared.state.session.Session.{Session}
use Rattle.mqtt_rules.specs.step.State.{Broker, Line, entry_on, line_at}
use Rattle.mqtt_rules.specs.step.Step.{copy_in, copy_of, copy_of_session, copy_on}
use Rattle.mqtt_rules.specs.filling.Filling.{filled, filled_session}
use Rattle.mqtt_broker_step.specs.Lines.{line_number}

-- the first row of an identifier is the first entry of it
pub held_on : (id : ℕ) (went : List ℕ) (xs : List CopyRow)
    → option_map (λ e. e.copy.id) (find (λ e. is_holder id e.phase) xs) ≡ option_map (λ e. e.copy.id) (holder id (map (entry_on went) xs))
held_on id went [] = refl
held_on id went (x ∷ xs) = elim (cases_Bool (is_holder id x.phase)) [
  | inl here ↦ rw here refl
  | inr other ↦ rw other (held_on id went xs)
]

-- a line is found by its number, in either words
pub row_of : (n : ℕ) (ls : List Line) → row_at line_number n ls ≡ find (λ l. nat_eq l.number n) ls
row_of n [] = refl
row_of n (l ∷ ls) = elim (cases_Bool (nat_eq l.number n)) [
  | inl here ↦ rw here refl
  | inr other ↦ rw other (row_of n ls)
]

-- ---- in rows that say what the store tells

held_filled : (id : ℕ) (went : List ℕ) (fillings : ℕ → Filling) (xs : List CopyRow)
    → option_map (λ e. e.copy.id) (holder id (map (entry_on went) (map (filled_row fillings) xs))) ≡ option_map (λ e. e.copy.id) (holder id (map (entry_on went) xs))
held_filled id went fillings [] = refl
held_filled id went fillings (x ∷ xs) = elim (cases_Bool (is_holder id x.phase)) [
  | inl here ↦ rw here refl
  | inr other ↦ rw other (held_filled id went fillings xs)
]

sessions_filled : (id : ℕ) (went : List ℕ) (fillings : Fillings) (birth : ℕ) (ss : List Session)
    → copy_of_session id went (row_at birth_of birth (map (filled_session fillings) ss)) ≡ copy_of_session id went (row_at birth_of birth ss)
sessions_filled id went fillings birth [] = refl
sessions_filled id went fillings birth (s ∷ ss) = elim (cases_Bool (nat_eq s.birth birth)) [
  | inl here ↦ rw here (held_filled id went (fillings s.birth) s.queue)
  | inr other ↦ rw other (sessions_filled id went fillings birth ss)
]

in_filled : (id : ℕ) (went : List ℕ) (fillings : Fillings) (session : Option ℕ) (b : Broker) → copy_in id went session (filled fillings b) ≡ copy_in id went session b
in_filled id went fillings None b = refl
in_filled id went fillings (Some birth) b = sessions_filled id went fillings birth b.records.sessions

on_filled : (id : ℕ) (fillings : Fillings) (o : Option Line) (b : Broker) → copy_on id o (filled fillings b) ≡ copy_on id o b
on_filled id fillings None b = refl
on_filled id fillings (Some l) b = in_filled id l.went fillings l.session b

-- whatever the rows say, the same copy has an identifier
pub copy_filled : (line id : ℕ) (fillings : Fillings) (b : Broker) → copy_of line id (filled fillings b) ≡ copy_of line id b
copy_filled line id fillings b = on_filled id fillings (line_at line b) b
