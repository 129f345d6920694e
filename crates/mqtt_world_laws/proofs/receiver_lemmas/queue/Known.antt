-- What went out on the line of a receiver's session are copies that stand: what becomes of its queue keeps it so.
use Rattle.std.proofs.Common.{◌≡◌, ℕ, Bool, true, false, cond, List, [], ◌∷◌, ◌++◌, Option, Some, None, nat_eq, refl, sym, ap, subst, ◌∙◌, inl, inr}
use Rattle.std.specs.Prelude.{is_some, option_map}
use Rattle.std.proofs.lemmas.Bool.{cases_Bool}
use Rattle.std.proofs.lemmas.Cmp.{nat_eq_equiv}
use Rattle.mqtt_base.specs.declared.session.Phase.{Phase}
use Rattle.mqtt_flow.specs.inbound.Identifiers.{ids_without}
use Rattle.mqtt_world_model.specs.model.Ends.{Receiver}
use Rattle.mqtt_world_model.specs.model.Hops.{IsIts, IsOnly}
use Rattle.mqtt_world_model.proofs.model_lemmas.seats.Seeing.{done_lines, done_sessions}
use Rattle.mqtt_records.specs.messages.Queue.{CopyRow}
use Rattle.mqtt_records.specs.state.Session.{birth_of, copy_place, in_phase}
use Rattle.mqtt_records.specs.declared.state.session.Session.{Session}
use Rattle.mqtt_records.proofs.lists_lemmas.LookUps.{row_at-remove_row}
use Rattle.mqtt_records.proofs.lists_lemmas.OrderLemmas.{apart}
use Rattle.mqtt_records.specs.lists.Order.{change_row, has_row, remove_row, row_at}
use Rattle.mqtt_rules.specs.step.Deeds.{after_all, rows_of_all}
use Rattle.mqtt_rules.specs.step.State.{Line as BrokerLine, Broker, MemberChoice, is_of, session_at}
use Rattle.mqtt_rules.specs.step.Step.{Call, at_moment, deeds, stepped}
use Rattle.mqtt_rules.specs.declared.step.Capacity.{Capacity}
use Rattle.std.specs.Prelude.{find}
use Rattle.std.specs.List.{AllByRecursion}
use Rattle.mqtt_world_laws.specs.receiver.Entering.{AreKnown, Receives}
use Rattle.mqtt_world_laws.specs.receiver.Seen.{went_in}

-- a copy leaves
pub known_left : (place : ℕ) (queue : List CopyRow) (o : Option (List ℕ)) → AreKnown queue o → AreKnown (remove_row copy_place place queue) (option_map (ids_without place) o)
known_left place queue None h = tt
known_left place queue (Some []) h = tt
known_left place queue (Some (p ∷ ps)) h = elim (cases_Bool (nat_eq p place)) [
  | inl goes ↦ rw goes (known_left place queue (Some ps) h.1)
  | inr stays ↦
      let other : nat_eq place p ≡ false = apart place p (λ same. let yes : nat_eq p place ≡ true = ap (λ (k : ℕ). nat_eq k place) (sym same) ∙ nat_eq_equiv.refl place in let clash : true ≡ false = sym yes ∙ stays in absurd cc) in
      let there : has_row copy_place p (remove_row copy_place place queue) ≡ true =
      ap is_some (row_at-remove_row copy_place p place queue ∙ ap (λ (c : Bool). cond c None (row_at copy_place p queue)) other) ∙ h.0 in
      rw stays (there, known_left place queue (Some ps) h.1)
]

-- a copy's phase changes
has_marked : (place p : ℕ) (phase : Phase) (queue : List CopyRow) → has_row copy_place p queue ≡ true → has_row copy_place p (change_row copy_place place (in_phase phase) queue) ≡ true
has_marked place p phase [] there = absurd cc
has_marked place p phase (e ∷ es) there = elim (cases_Bool (nat_eq e.place place)) [
  | inl marked ↦ elim (cases_Bool (nat_eq e.place p)) [
    | inl here ↦ rw (marked, here) refl
    | inr further ↦ rw (marked, further) (rw further at there)
  ]
  | inr other ↦ elim (cases_Bool (nat_eq e.place p)) [
    | inl here ↦ rw (other, here) refl
    | inr further ↦ rw (other, further) (has_marked place p phase es (rw further at there))
  ]
]

-- a mark leaves what is known of a queue
pub known_marked : (place : ℕ) (phase : Phase) (queue : List CopyRow) (o : Option (List ℕ)) → AreKnown queue o → AreKnown (change_row copy_place place (in_phase phase) queue) o
known_marked place phase queue None h = tt
known_marked place phase queue (Some []) h = tt
known_marked place phase queue (Some (p ∷ ps)) h = (has_marked place p phase queue h.0, known_marked place phase queue (Some ps) h.1)

-- its PUBLISH goes out
pub known_sent : (place : ℕ) (queue : List CopyRow) (went : List ℕ) → has_row copy_place place queue ≡ true → AreKnown queue (Some went) → AreKnown queue (Some (went ++ place ∷ []))
known_sent place queue [] there h = (there, tt)
known_sent place queue (p ∷ ps) there h = (h.0, known_sent place queue ps there h.1)

-- ---- after a call

-- behind a call the receiver's session is known
pub receives_after : (r : Receiver) (birth : ℕ) (limits : Capacity) (choice : MemberChoice) (now : ℕ) (call : Call) (b : Broker) (t : Session)
    → session_at birth (after_all (deeds limits choice now call b) (at_moment now b)).records ≡ Some t → t.client ≡ r.client → t.birth ≡ birth
    → IsOnly r.client birth (after_all (deeds limits choice now call b) (at_moment now b)).records
    → AreKnown t.queue (went_in birth (after_all (deeds limits choice now call b) (at_moment now b))) → Receives r (stepped limits choice now call b)
receives_after r birth limits choice now call b t found client is only known =
    let ds = deeds limits choice now call b in
    let first = at_moment now b in
    let new = stepped limits choice now call b in
    let rows = rows_of_all ds first.records in
    let sessions : new.records.sessions ≡ (after_all ds first).records.sessions = done_sessions rows (after_all ds first) in
    let lines : new.lines ≡ (after_all ds first).lines = done_lines rows (after_all ds first) in
    record {
      session = t;
      receiving = record {
        session = ap (λ (k : ℕ). session_at k new.records) is ∙ (ap (λ (ss : List Session). row_at birth_of birth ss) sessions ∙ found);
        client = client;
        only = subst (λ (k : ℕ). IsOnly r.client k new.records) (sym is) (subst (λ (ss : List Session). AllByRecursion (IsIts r.client birth) ss) (sym sessions) only);
        known = subst (λ (k : ℕ). AreKnown t.queue (went_in k new)) (sym is)
            (subst (λ (ls : List BrokerLine). AreKnown t.queue (option_map (λ (l : BrokerLine). l.went) (find (λ (l : BrokerLine). is_of l.session birth) ls))) (sym lines) known);
      };
    }
