-- A message that was accepted was so in some turn of the run, with what it carries (MQTT 5.0, 4.3.2, 4.3.3).
use Rattle.std.proofs.Common.{◌≡◌, ℕ, zero, suc, ◌≤◌, Bool, false, cond, List, [], ◌∷◌, ◌++◌, map, Option, Some, None, nat_eq, refl, sym, ap, subst, ◌∙◌, append-nil, arith, inl, inr}
use Rattle.std.specs.Prelude.{count_by, filter_map}
use Rattle.std.specs.List.{AllByRecursion}
use Rattle.std.proofs.lemmas.Bool.{cases_Bool, eqb-true}
use Rattle.mqtt_rules.specs.declared.step.Capacity.{Capacity}
use Rattle.mqtt_rules.specs.step.Deeds.{Accept, Deed, FromClient, FromWill, Message}
use Rattle.mqtt_rules.specs.step.Laws.{AreWithin, IsAmong}
use Rattle.mqtt_rules.proofs.step_lemmas.fit.FitLaw.{all_among}
use Rattle.mqtt_world_model.specs.model.Run.{Acceptance, From, Turn, accepted_at, accepted_over, acceptances_over, client_message, client_number, deeds_at, each_from, each_of, from_message, from_over, message_read, read_at, run, setting, turned}
use Rattle.mqtt_world_model.specs.model.World.{World}
use Rattle.mqtt_world_laws.specs.acceptance.Fair.{IsSteady}
use Rattle.mqtt_world_laws.specs.acceptance.Spending.{run_spends, spending}
use Rattle.mqtt_world_laws.proofs.acceptance_lemmas.copies.Walks.{turn_goes}
use Rattle.mqtt_world_laws.proofs.acceptance_lemmas.publishers.Runs.{either}
use Rattle.mqtt_world_laws.proofs.routing_lemmas.OwnCounts.{counted_append, counted_cons}
use Rattle.mqtt_world_laws.proofs.routing_lemmas.OwnRuns.{Any, Said, all_accept, anything, said_in, said_of}

-- ---- lists

-- what is among the images is the image of one
pub record IsImage {X Y : Type 0} (f : X → Y) (y : Y) (xs : List X) : Type 0 where
  pub of : X
  pub among : IsAmong of xs
  pub is : f of ≡ y

-- so it has one
pub image : {X Y : Type 0} (f : X → Y) (y : Y) (xs : List X) → IsAmong y (map f xs) → IsImage f y xs
image f y [] h = absurd h
image f y (x ∷ xs) (inl is) = record { of = x; among = inl refl; is = is }
image f y (x ∷ xs) (inr more) = let i = image f y xs more in record { of = i.of; among = inr i.among; is = i.is }

-- the image of one is among the images
pub mapped_among : {X Y : Type 0} (f : X → Y) (x : X) (xs : List X) → IsAmong x xs → IsAmong (f x) (map f xs)
mapped_among f x [] h = absurd h
mapped_among f x (y ∷ ys) (inl is) = inl (ap f is)
mapped_among f x (y ∷ ys) (inr more) = inr (mapped_among f x ys more)

-- what holds of a list and what follows holds of both
each_left : {X : Type 0} (P : X → Type 0) (xs ys : List X) → AllByRecursion P (xs ++ ys) → AllByRecursion P xs
each_left P [] ys h = tt
each_left P (x ∷ xs) ys h = (h.0, each_left P xs ys h.1)

each_right : {X : Type 0} (P : X → Type 0) (xs ys : List X) → AllByRecursion P (xs ++ ys) → AllByRecursion P ys
each_right P [] ys h = h
each_right P (x ∷ xs) ys h = each_right P xs ys h.1

-- ---- the deeds of a turn that accept a client's PUBLISH

record IsSaid (ds : List Deed) : Type 0 where
  number : ℕ
  message : Message
  said : IsAmong (number, message) (filter_map said_in ds)
  from : IsAmong message (filter_map client_message ds)

is_said : (n : ℕ) (ds : List Deed) → 1 ≤ count_by (nat_eq n) (map (λ (k : ℕ). n) (filter_map client_number ds)) → IsSaid ds
is_said n [] h = let none : 1 ≤ 0 = h in absurd (omega (arith, none))
is_said n (Accept number FromClient m ∷ ds) h = record { number = number; message = m; said = inl refl; from = inl refl }
is_said n (Accept number FromWill m ∷ ds) h = let x = is_said n ds h in record { number = x.number; message = x.message; said = inr x.said; from = x.from }
is_said n (d ∷ ds) h = let x = is_said n ds h in record { number = x.number; message = x.message; said = x.said; from = x.from }

abbrev one_if : Bool → ℕ
one_if t = cond t 1 0

-- an element that isn't n is not counted
none_counted : (n m : ℕ) (ks : List ℕ) → nat_eq n m ≡ false → count_by (nat_eq n) (map (λ (k : ℕ). m) ks) ≡ 0
none_counted n m [] other = refl
none_counted n m (k ∷ ks) other =
    let rest = none_counted n m ks other in
    let first = counted_cons (nat_eq n) m (map (λ (j : ℕ). m) ks) in
    let none : one_if (nat_eq n m) ≡ 0 = rw other refl in
    omega (arith, rest, first, none)

-- ---- in a turn, and in a run

module _ (client : List ℕ) (n : ℕ) (P : From → Type 0) where
  -- the message was accepted in this turn, and this holds of it
  pub record IsPublished (limits : Capacity) (ts : List Turn) (w : World) : Type 0 where
    pub earlier : List Turn
    pub turn : Turn
    pub later : List Turn
    pub are : earlier ++ turn ∷ later ≡ ts
    pub read : message_read client turn.event (run limits earlier w) ≡ Some n
    pub acceptance : Acceptance
    pub accepted : IsAmong acceptance (acceptances_over limits (turn ∷ []) (run limits earlier w))
    pub holds : P (from_message n acceptance.message)

  here : (limits : Capacity) (t : Turn) (ts : List Turn) (w : World) → AreWithin limits → IsSteady w.broker → read_at spending (setting limits t) t.event w ≡ false
      → 1 ≤ count_by (nat_eq n) (accepted_at client (setting limits t) t.event w)
      → AllByRecursion P (each_from (message_read client t.event w) (deeds_at (setting limits t) t.event w)) → IsPublished limits (t ∷ ts) w
  here limits t ts w within s unspent some all = by (message_read client t.event w) refl some all
    where
      ds : List Deed
      ds = deeds_at (setting limits t) t.event w

      one : run_spends limits (t ∷ []) w ≡ false
      one = rw unspent refl

      made : message_read client t.event w ≡ Some n → IsSaid ds → ((m : Message) → IsAmong m (filter_map client_message ds) → P (from_message n m)) → IsPublished limits (t ∷ ts) w
      made read x holds =
          let accepts = all_accept limits (t ∷ []) w within s one in
          let said : filter_map said_in ds ≡ map said_of (acceptances_over limits (t ∷ []) w) = ap (filter_map said_in) (sym (append-nil ds)) ∙ accepts.said in
          let its = image said_of (x.number, x.message) (acceptances_over limits (t ∷ []) w) (subst (λ (ss : List Said). IsAmong (x.number, x.message) ss) said x.said) in
          let same : x.message ≡ its.of.message = sym (ap (λ (s : Said). s.1) its.is) in
          record {
            earlier = [];
            turn = t;
            later = ts;
            are = refl;
            read = read;
            acceptance = its.of;
            accepted = its.among;
            holds = subst (λ (m : Message). P (from_message n m)) same (holds x.message x.from);
          }

      by : (o : Option ℕ) → message_read client t.event w ≡ o → 1 ≤ count_by (nat_eq n) (each_of o ds) → AllByRecursion P (each_from o ds) → IsPublished limits (t ∷ ts) w
      by None e h q = let none : 1 ≤ 0 = h in absurd (omega (arith, none))
      by (Some m) e h q = elim (cases_Bool (nat_eq n m)) [
        | inl is ↦
            let same : n ≡ m = eqb-true n m is in
            of_it (subst (λ (k : ℕ). message_read client t.event w ≡ Some k) (sym same) e)
            (subst (λ (k : ℕ). 1 ≤ count_by (nat_eq n) (each_of (Some k) ds)) (sym same) h)
            (subst (λ (k : ℕ). AllByRecursion P (each_from (Some k) ds)) (sym same) q)
        | inr other ↦
            let none = none_counted n m (filter_map client_number ds) other in
            absurd (omega (arith, none, h))
      ]
        where
          of_it : message_read client t.event w ≡ Some n → 1 ≤ count_by (nat_eq n) (each_of (Some n) ds) → AllByRecursion P (each_from (Some n) ds) → IsPublished limits (t ∷ ts) w
          of_it read h q = made read (is_said n ds h) (λ m among. all_among P (from_message n m) (each_from (Some n) ds) q (mapped_among (from_message n) m (filter_map client_message ds) among))

  further : (limits : Capacity) (t : Turn) (ts : List Turn) (w : World) → IsPublished limits ts (turned limits t w) → IsPublished limits (t ∷ ts) w
  further limits t ts w x = record {
    earlier = t ∷ x.earlier;
    turn = x.turn;
    later = x.later;
    are = ap (λ (us : List Turn). t ∷ us) x.are;
    read = x.read;
    acceptance = x.acceptance;
    accepted = x.accepted;
    holds = x.holds;
  }

  -- a message that was accepted in a run was so in one of its turns
  pub was_published : (limits : Capacity) (ts : List Turn) (w : World) → AreWithin limits → IsSteady w.broker → run_spends limits ts w ≡ false
      → 1 ≤ count_by (nat_eq n) (accepted_over client limits ts w) → AllByRecursion P (from_over client limits ts w) → IsPublished limits ts w
  was_published limits [] w within s unspent some all = let none : 1 ≤ 0 = some in absurd (omega (arith, none))
  was_published limits (t ∷ ts) w within s unspent some all =
      let u = turned limits t w in
      let costs = either (read_at spending (setting limits t) t.event w) (run_spends limits ts u) unspent in
      let next = turn_goes Any limits (anything limits) t w within s costs.0 in
      let froms = each_from (message_read client t.event w) (deeds_at (setting limits t) t.event w) in
      by (count_by (nat_eq n) (accepted_at client (setting limits t) t.event w)) refl (λ h. here limits t ts w within s costs.0 h (each_left P froms (from_over client limits ts u) all))
      (λ h. further limits t ts w (was_published limits ts u within next.steady costs.1 h (each_right P froms (from_over client limits ts u) all)))
    where
      by : (k : ℕ) → count_by (nat_eq n) (accepted_at client (setting limits t) t.event w) ≡ k
          → (1 ≤ count_by (nat_eq n) (accepted_at client (setting limits t) t.event w) → IsPublished limits (t ∷ ts) w)
          → (1 ≤ count_by (nat_eq n) (accepted_over client limits ts (turned limits t w)) → IsPublished limits (t ∷ ts) w) → IsPublished limits (t ∷ ts) w
      by zero none first rest =
          let both = counted_append (nat_eq n) (accepted_at client (setting limits t) t.event w) (accepted_over client limits ts (turned limits t w)) in
          rest (omega (arith, none, both, some))
      by (suc k) is first rest = first (omega (arith, is))
