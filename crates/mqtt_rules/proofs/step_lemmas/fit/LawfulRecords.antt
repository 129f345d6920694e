-- Lawful records are coherent.
use Rattle.std.proofs.Common.{◌≡◌, ◌≢◌, ℕ, suc, ◌≤◌, Bool, true, false, List, [], ◌∷◌, ◌++◌, map, nat_eq, refl, sym, ap, ◌∙◌, arith}
use Rattle.std.specs.Prelude.{Option, Some, None, option_map, cond, drop, length}
use Rattle.std.specs.Bool.{Decides}
use Rattle.std.specs.List.{AllByRecursion, starts_with}
use Rattle.std.proofs.lemmas.Bool.Decides.{nat_tests}
use Rattle.std.proofs.lemmas.Slice.Eq.{starts_is}
use Rattle.mqtt_base.specs.declared.limits.TheConstants.{LAST_NUMBER}
use Rattle.mqtt_records.specs.declared.state.session.Session.{Session}
use Rattle.mqtt_records.specs.declared.state.records.Records.{Records}
use Rattle.mqtt_records.specs.declared.messages.message.RetainedMessage.{RetainedMessage}
use Rattle.mqtt_records.specs.state.Session.{birth_of, auto}
use Rattle.mqtt_records.specs.state.Records.{kept_place, IsMoment, IsNumber}
use Rattle.mqtt_records.specs.lists.Order.{IsBelow, row_at}
use Rattle.mqtt_records.specs.lists.Distinct.{AllDiffer}
use Rattle.mqtt_keep.specs.declared.lawful.rows.Last.{Last}
use Rattle.mqtt_keep.specs.lawful.Lawful.{HasBeen, IsAssigned, IsLawful, IsLawfulSession, IsLawfulRetained, IsLawfulCopy, IsSubscription, last_of}
use Rattle.mqtt_rules.specs.step.Laws.{HasTables, IsAssignedUpTo, IsCoherentSession, IsCoherentMessage, IsCoherent}
use Rattle.mqtt_rules.specs.step.Numbers.{HasCopiesUpTo, HasAcceptedNumbers}
use Rattle.mqtt_rules.proofs.step_lemmas.numbers.Copies.{each_more}

-- ---- names that differ are found at one number

module _ {X N : Type 0} (key : X → ℕ) (name : X → N) where
  equal : (j k : ℕ) → nat_eq j k ≡ true → j ≡ k
  equal j k e = grind (arith, nat_tests)

  not_found_at : (b : Bool) (n m : N) (x : X) (rest : Option X) → n ≢ name x → (option_map name rest ≡ Some m → n ≢ m) → option_map name (cond b (Some x) rest) ≡ Some m → n ≢ m
  not_found_at true n m x rest other further found e = let is : name x ≡ m = cc in other (e ∙ sym is)
  not_found_at false n m x rest other further found e = further found e

  -- a name that differs from all of these isn't found
  not_found : (n m : N) (k : ℕ) (xs : List X) → AllByRecursion (λ y. n ≢ y) (map name xs) → option_map name (row_at key k xs) ≡ Some m → n ≢ m
  not_found n m k [] h found = absurd cc
  not_found n m k (x ∷ xs) h found = not_found_at (nat_eq (key x) k) n m x (row_at key k xs) h.0 (not_found n m k xs h.1) found

  found_once_at : (a b : Bool) (j k : ℕ) (m : N) (x : X) (one other : Option X) → nat_eq (key x) j ≡ a → nat_eq (key x) k ≡ b
      → (option_map name one ≡ Some m → name x ≢ m) → (option_map name other ≡ Some m → name x ≢ m)
      → (option_map name one ≡ Some m → option_map name other ≡ Some m → j ≡ k)
      → option_map name (cond a (Some x) one) ≡ Some m → option_map name (cond b (Some x) other) ≡ Some m → j ≡ k
  found_once_at true true j k m x one other e f g h rest p q = sym (equal (key x) j e) ∙ equal (key x) k f
  found_once_at true false j k m x one other e f g h rest p q = let is : name x ≡ m = cc in absurd (h q is)
  found_once_at false true j k m x one other e f g h rest p q = let is : name x ≡ m = cc in absurd (g p is)
  found_once_at false false j k m x one other e f g h rest p q = rest p q

  found_once : (j k : ℕ) (m : N) (xs : List X) → AllDiffer (map name xs) → option_map name (row_at key j xs) ≡ Some m → option_map name (row_at key k xs) ≡ Some m → j ≡ k
  found_once j k m [] h one other = absurd cc
  found_once j k m (x ∷ xs) h one other =
      found_once_at (nat_eq (key x) j) (nat_eq (key x) k) j k m x (row_at key j xs) (row_at key k xs) refl refl
      (not_found (name x) m j xs h.0) (not_found (name x) m k xs h.0) (found_once j k m xs h.1) one other

-- ---- sessions

module _ (last : Last) where
  tables : (s : Session) → IsLawfulSession last s → HasTables s
  tables s h = record {
    inbound = record { ascending = h.inbound.table.ascending; within = h.inbound.table.within };
    subscriptions = record { ascending = h.subscriptions.table.ascending; within = h.subscriptions.table.within };
    queue = record { ascending = h.queue.table.ascending; within = h.queue.table.within };
  }

  births_below : (ss : List Session) → AllByRecursion (IsLawfulSession last) ss → IsBelow birth_of (suc last.births) ss
  births_below [] h = tt
  births_below (s ∷ ss) h = let up = h.0.birth.1 in (omega (arith, up), births_below ss h.1)

  same_number : (a b : ℕ) → Decides (nat_eq a b) (a ≡ b)
  same_number a b = (λ e. grind (arith, nat_tests), λ e. grind (arith, nat_tests))

  assigned : (client : List ℕ) → IsAssigned last.autos client → IsAssignedUpTo last.autos client
  assigned client h starts =
      let is : client ≡ auto ++ drop (length auto) client = (starts_is same_number client auto (starts_with nat_eq client auto) refl).0 starts in
      let n = h (drop (length auto) client) is in
      (n.0, n.1.1, is ∙ ap (λ rest. auto ++ rest) n.2)

  moment : (m : Option ℕ) → last.moment ≤ LAST_NUMBER → HasBeen last.moment m → IsMoment m
  moment None top h = tt
  moment (Some n) top h = omega (arith, top, h)

  coherent_session : IsNumber last.moment → (s : Session) → IsLawfulSession last s → IsCoherentSession last.autos last.subscribes s
  coherent_session top s h = (
    assigned s.client h.client.assigned,
    each_more (IsSubscription last.subscribes) (λ x. x.place ≤ last.subscribes) (λ x g. g.place.1) s.subscriptions h.subscriptions.each,
    moment s.closed top h.closed,
  )

  coherent_message : IsNumber last.moment → (k : RetainedMessage) → IsLawfulRetained last k → IsCoherentMessage last.publications k
  coherent_message top k h = let up = h.arrived in (h.publication.1, omega (arith, up, top))

  copies_up_to : (s : Session) → IsLawfulSession last s → HasCopiesUpTo last.publications s
  copies_up_to s h = each_more (IsLawfulCopy last s.birth) (λ e. e.copy.id.publication ≤ last.publications) (λ e g. g.due.publication.1) s.queue h.queue.each

-- what a store may hold is coherent
pub lawful_coherent : (r : Records) → IsLawful r → IsCoherent r
lawful_coherent r h =
    let last = last_of r in
    record {
      ordered = record {
        sessions = record { ascending = h.sessions.table.ascending; within = h.sessions.table.within };
        each = each_more (IsLawfulSession last) HasTables (tables last) r.sessions h.sessions.each;
        retained = record { ascending = h.retained.table.ascending; within = h.retained.table.within };
      };
      clients = λ j k client one other. found_once birth_of (λ s. s.client) j k client r.sessions h.sessions.clients one other;
      topics = λ j k topic one other. found_once kept_place (λ kept. kept.content.topic) j k topic r.retained h.retained.topics one other;
      births = births_below last r.sessions h.sessions.each;
      sessions = each_more (IsLawfulSession last) (IsCoherentSession r.autos r.subscribes) (coherent_session last h.numbers.moment) r.sessions h.sessions.each;
      retained = each_more (IsLawfulRetained last) (IsCoherentMessage r.publications) (coherent_message last h.numbers.moment) r.retained h.retained.each;
      counters = record {
        moment = h.numbers.moment;
        births = h.numbers.births;
        publications = h.numbers.publications;
        subscribes = h.numbers.subscribes;
        autos = h.numbers.autos;
      };
    }

-- what a store may hold has copies of accepted publications alone
pub lawful_accepted : (r : Records) → IsLawful r → HasAcceptedNumbers r
lawful_accepted r h =
    let last = last_of r in (
      each_more (IsLawfulSession last) (HasCopiesUpTo r.publications) (copies_up_to last) r.sessions h.sessions.each,
      each_more (IsLawfulRetained last) (λ k. k.publication ≤ r.publications) (λ k g. g.publication.1) r.retained h.retained.each,
    )
