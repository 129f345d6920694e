-- The sessions that stand connected differ in birth and client.
use Rattle.std.proofs.Common.{◌≡◌, ◌<◌, ℕ, Bool, false, List, [], ◌∷◌, filter, Some, nat_eq, bytes_eq, ap, ◌∙◌, arith, inl, inr}
use Rattle.std.specs.Prelude.{option_map}
use Rattle.std.specs.List.{AllByRecursion}
use Rattle.std.proofs.lemmas.Bool.{cases_Bool, eqb-true}
use Rattle.std.proofs.lemmas.Slice.Eq.{bytes_eq-Decides}
use Rattle.mqtt_records.specs.declared.state.session.Session.{Session}
use Rattle.mqtt_records.specs.declared.state.records.Records.{Records}
use Rattle.mqtt_records.specs.state.Session.{birth_of}
use Rattle.mqtt_records.specs.lists.Order.{IsAbove, IsAscending, row_at}
use Rattle.mqtt_rules.specs.step.Contents.{IsWilled}
use Rattle.mqtt_rules.specs.step.Laws.{IsCoherent, IsUnique, client_at}
use Rattle.mqtt_rules.specs.step.State.{is_connected, session_at}
use Rattle.mqtt_rules.specs.step.Step.{connected_in}
use Rattle.mqtt_rules.proofs.step_lemmas.numbers.Copies.{each_more}
use Rattle.mqtt_rules.proofs.step_lemmas.flight.FlightRows.{all_found}
use Rattle.mqtt_broker_acts.specs.calls.Ready.{AreSourcesStored, HasLawfulSources}
use Rattle.mqtt_broker.specs.stored.Sessions.{IsThere, face}
use Rattle.mqtt_broker.proofs.stored_lemmas.Chosen.{AllApart, AreApart}

-- ---- some of a list

module _ {X : Type 0} (P : X → Type 0) (test : X → Bool) where
  each_filtered : (xs : List X) → AllByRecursion P xs → AllByRecursion P (filter test xs)
  each_filtered [] h = tt
  each_filtered (x ∷ xs) h = elim (cases_Bool (test x)) [
    | inl taken ↦ rw taken (h.0, each_filtered xs h.1)
    | inr left ↦ rw left (each_filtered xs h.1)
  ]

apart_filtered : (test : Session → Bool) (ss : List Session) → AllApart ss → AllApart (filter test ss)
apart_filtered test [] h = tt
apart_filtered test (s ∷ ss) h = elim (cases_Bool (test s)) [
  | inl taken ↦ rw taken (each_filtered (AreApart s) test ss h.0, apart_filtered test ss h.1)
  | inr left ↦ rw left (apart_filtered test ss h.1)
]

-- ---- what records in order have

above_differ : (j k : ℕ) → j < k → nat_eq j k ≡ false
above_differ j k less = elim (cases_Bool (nat_eq j k)) [
  | inl same ↦ let is : j ≡ k = eqb-true j k same in let no : ⊥ = omega (arith, is, less) in absurd no
  | inr other ↦ other
]

module _ (r : Records) (clients : IsUnique (λ birth. client_at birth r)) where
  clients_differ : (s x : Session) → session_at s.birth r ≡ Some s → session_at x.birth r ≡ Some x → s.birth < x.birth → bytes_eq s.client x.client ≡ false
  clients_differ s x here there less = elim (cases_Bool (bytes_eq s.client x.client)) [
    | inl same ↦
        let is : s.client ≡ x.client = (bytes_eq-Decides s.client x.client).0 same in
        let births : s.birth ≡ x.birth = clients s.birth x.birth x.client (ap (option_map (λ (y : Session). y.client)) here ∙ ap Some is) (ap (option_map (λ (y : Session). y.client)) there) in
        let no : ⊥ = omega (arith, births, less) in
        absurd no
    | inr other ↦ other
  ]

  abbrev IsFound : Session → Type 0
  IsFound s = session_at s.birth r ≡ Some s

  apart_above : (s : Session) (xs : List Session) → IsFound s → AllByRecursion IsFound xs → IsAbove birth_of s.birth xs → AllByRecursion (AreApart s) xs
  apart_above s [] here found above = tt
  apart_above s (x ∷ xs) here found above = (
    (above_differ s.birth x.birth above.0, clients_differ s x here found.0 above.0),
    apart_above s xs here found.1 above.1,
  )

  apart_all : (ss : List Session) → AllByRecursion IsFound ss → IsAscending birth_of ss → AllApart ss
  apart_all [] found order = tt
  apart_all (s ∷ ss) found order = (apart_above s ss found.0 found.1 order.0, apart_all ss found.1 order.1)

-- those that stand connected differ
pub connected_apart : (r : Records) → IsCoherent r → AllApart (connected_in r)
connected_apart r h =
    apart_filtered is_connected r.sessions
    (apart_all r h.clients r.sessions (all_found birth_of r.sessions h.ordered.sessions.ascending) h.ordered.sessions.ascending)

-- and stand as they do
pub connected_there : (r : Records) → IsCoherent r → AllByRecursion (IsThere r) (connected_in r)
connected_there r h =
    each_filtered (IsThere r) is_connected r.sessions
    (each_more (λ s. row_at birth_of s.birth r.sessions ≡ Some s) (IsThere r) (λ s found. ap (option_map face) found) r.sessions
    (all_found birth_of r.sessions h.ordered.sessions.ascending))

-- and their Wills may be published
pub connected_willed : (r : Records) → AreSourcesStored r → AllByRecursion (λ (s : Session). IsWilled s.will) (connected_in r)
connected_willed r h =
    each_filtered (λ (s : Session). IsWilled s.will) is_connected r.sessions (each_more HasLawfulSources (λ (s : Session). IsWilled s.will) (λ s its. its.will) r.sessions h.sessions)
