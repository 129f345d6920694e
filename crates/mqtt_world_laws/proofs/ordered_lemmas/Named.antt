-- What is said of a publisher, by its name, and what calls make of it.
use Rattle.std.proofs.Common.{◌≡◌, ℕ, zero, suc, Bool, true, false, cond, List, map, Option, Some, None, bytes_eq, refl, sym, subst}
use Rattle.std.specs.Prelude.{find, is_some, option_map}
use Rattle.mqtt_rules.specs.step.State.{Broker}
use Rattle.mqtt_rules.specs.step.Step.{Call, NewLine, stepped, told}
use Rattle.mqtt_world_model.specs.model.Ends.{Publisher}
use Rattle.mqtt_world_model.specs.model.World.{Setting, World, answers_rest, call_of_stranger, calls_if, comes, linked_at, next_held, publisher_named, publisher_told, stranger_named}
use Rattle.mqtt_world_laws.proofs.acceptance_lemmas.publishers.Ends.{find_publisher, only_client}

-- whatever is said of a publisher; where there is none another thing
abbrev pub At : Type 0 → (Publisher → Broker → Type 0) → Option Publisher → Broker → Type 0
At N P None b = N
At N P (Some p) b = P p b

-- of the one of this name
abbrev pub In : Type 0 → (Publisher → Broker → Type 0) → List ℕ → World → Type 0
In N P c w = At N P (publisher_named c w) w.broker

mapped : (N : Type 0) (P Q : Publisher → Broker → Type 0) (F : Publisher → Publisher) (b d : Broker) → ((p : Publisher) → P p b → Q (F p) d) → (o : Option Publisher) → At N P o b → At N Q (option_map F o) d
mapped N P Q F b d h None x = x
mapped N P Q F b d h (Some p) x = h p x

-- each changed
pub all_in : (N : Type 0) (P Q : Publisher → Broker → Type 0) (c : List ℕ) (F : Publisher → Publisher) (ps : List Publisher) (b d : Broker) → ((p : Publisher) → (F p).client ≡ p.client) → ((p : Publisher) → P p b → Q (F p) d)
    → At N P (find (λ (p : Publisher). bytes_eq p.client c) ps) b → At N Q (find (λ (p : Publisher). bytes_eq p.client c) (map F ps)) d
all_in N P Q c F ps b d same h x =
    let was = find (λ (p : Publisher). bytes_eq p.client c) ps in
    subst (λ (o : Option Publisher). At N Q o d) (sym (find_publisher c F same ps)) (mapped N P Q F b d h was x)

if_kept : (P : Publisher → Broker → Type 0) (t : Bool) (F : Publisher → Publisher) (p : Publisher) (b : Broker) → (P p b → P (F p) b) → P p b → P (cond t (F p) p) b
if_kept P true F p b h x = h x
if_kept P false F p b h x = x

-- one changed
pub one_in : (N : Type 0) (P : Publisher → Broker → Type 0) (c d : List ℕ) (F : Publisher → Publisher) (ps : List Publisher) (b : Broker) → ((p : Publisher) → (F p).client ≡ p.client) → ((p : Publisher) → P p b → P (F p) b)
    → At N P (find (λ (p : Publisher). bytes_eq p.client c) ps) b → At N P (find (λ (p : Publisher). bytes_eq p.client c) (map (λ p. cond (bytes_eq p.client d) (F p) p) ps)) b
one_in N P c d F ps b same h x =
    all_in N P P c (λ p. cond (bytes_eq p.client d) (F p) p) ps b b (λ p. only_client (bytes_eq p.client d) F p (same p)) (λ p. if_kept P (bytes_eq p.client d) F p b (h p)) x

-- ---- calls

module _ (N : Type 0) (P : Publisher → Broker → Type 0) (c : List ℕ) (set : Setting)
    (calls_keep : (call : Call) (now : ℕ) (p : Publisher) (b : Broker) → P p b
    → P (publisher_told (stepped set.limits set.choice now call b) (told set.limits set.choice now call b) p) (stepped set.limits set.choice now call b)) where
  -- by a call
  pub if_in : (call : Option Call) (w : World) → In N P c w → In N P c (calls_if set call w)
  if_in None w h = h
  if_in (Some call) w h =
      let b = stepped set.limits set.choice w.now call w.broker in
      let out = told set.limits set.choice w.now call w.broker in
      all_in N P P c (publisher_told b out) w.publishers w.broker b (λ p. refl) (λ p. calls_keep call w.now p w.broker) h

  -- by bytes that come on a stranger's line
  pub comes_in : (name bytes : List ℕ) (w : World) → In N P c w → In N P c (comes set name bytes w)
  comes_in name bytes w h = by (is_some (stranger_named name w))
    where
      by : (t : Bool) → In N P c (linked_at set t name bytes w)
      by true = h
      by false = if_in (Some NewLine) w h

  -- by the calls that answer them
  pub rest_in : (more : ℕ) (name : List ℕ) (w : World) → In N P c w → In N P c (answers_rest set more name w)
  rest_in zero name w h = h
  rest_in (suc more) name w h =
      let call = call_of_stranger (stranger_named name w) in
      rest_in more name (calls_if set call (next_held name w)) (if_in call (next_held name w) h)
