-- A session's end, copy by copy: after the first copy's end what remains is the end of the session that remains.
use Rattle.std.proofs.Common.{◌≡◌, ℕ, suc, ◌-◌, ◌<◌, List, [], ◌∷◌, ◌++◌, length, map, nat_eq, refl, ap, sym, subst, ◌∙◌, arith}
use Rattle.std.specs.Prelude.{Option, Some, None}
use Rattle.std.proofs.lemmas.Cmp.{nat_eq_equiv}
use Rattle.mqtt_base.specs.declared.session.Ending.TheVariants.{SessionEnded}
use Rattle.mqtt_records.specs.messages.Queue.{CopyRow}
use Rattle.mqtt_records.specs.declared.state.session.Session.{Session}
use Rattle.mqtt_records.specs.state.Session.{birth_of, copy_place, without_copy}
use Rattle.mqtt_records.specs.lists.Order.{IsAscending, row_at, remove_row}
use Rattle.mqtt_records.proofs.lists_lemmas.OrderLemmas.{above_none, remove-none}
use Rattle.mqtt_rules.specs.step.Closing.{end_session}
use Rattle.mqtt_rules.specs.step.Deeds.{Deed, At, Leave, Finish, whose, after, after_all, always, then, with_session}
use Rattle.mqtt_rules.specs.step.Outbound.{at_place, of_entry}
use Rattle.mqtt_rules.specs.step.State.{Broker, session_at}
use Rattle.mqtt_rules.proofs.step_lemmas.acts.LookedUp.{row_at-change_row}
use Rattle.mqtt_broker_step.specs.Doing.{leaves}
use Rattle.mqtt_broker_step.specs.declared.fault.StepFault.{StepFault}
use Rattle.mqtt_broker_step.specs.Stepping.{Stepping, did, Did, IsLeft}
use Rattle.mqtt_broker_step.proofs.Doing.{did_none, found_birth, stands}
use Rattle.mqtt_broker_step.proofs.Then.{same_act, same_left, did_then, left_first, left_then}
use Rattle.mqtt_broker_acts.specs.closing.Ending.{ends, first_ends, ends_first, finishes, queue_of, queue_at}

-- ---- the queue after its first copy left

first_gone : (e : CopyRow) (es : List CopyRow) → IsAscending copy_place (e ∷ es) → remove_row copy_place e.place (e ∷ es) ≡ es
first_gone e es up = rw (nat_eq_equiv.refl e.place) (remove-none copy_place e.place es (above_none copy_place e.place es up.0))

left_at : (x : Session) (e : CopyRow) (b : Broker) → session_at x.birth b.records ≡ Some x
    → session_at x.birth (after (At (whose x) (Leave e SessionEnded)) b).records ≡ Some (without_copy e.place x)
left_at x e b found =
    rw found (row_at-change_row birth_of x.birth x.birth (without_copy e.place) b.records.sessions (λ y. refl)
    ∙ rw (nat_eq_equiv.refl x.birth, found) refl)

left_in : (birth : ℕ) (x : Session) (e : CopyRow) (b : Broker) → session_at birth b.records ≡ Some x
    → session_at birth (after (At (whose x) (Leave e SessionEnded)) b).records ≡ Some (without_copy e.place x)
left_in birth x e b found =
    ap (λ n. session_at n (after (At (whose x) (Leave e SessionEnded)) b).records) (sym (found_birth birth b.records.sessions x found))
    ∙ left_at x e b (stands birth b.records x found)

abbrev end_of : Session → CopyRow → Deed
end_of x e = At (whose x) (Leave e SessionEnded)

abbrev rest_ends : Session → List CopyRow → List Deed
rest_ends x es = map (end_of x) es ++ Finish (whose x) ∷ []

ends_rest : (birth : ℕ) (x : Session) (e : CopyRow) (es : List CopyRow) (b : Broker) → session_at birth b.records ≡ Some x → x.queue ≡ e ∷ es → IsAscending copy_place (e ∷ es)
    → end_of x e ∷ ends birth (after (end_of x e) b) ≡ end_session x
ends_rest birth x e es b found queue up =
    ap (λ ds. end_of x e ∷ ds)
    (ap (λ o. with_session o (λ s. always (end_session s)) (after (end_of x e) b)) (left_in birth x e b found)
    ∙ (ap (λ q. rest_ends x (remove_row copy_place e.place q)) queue
    ∙ ap (rest_ends x) (first_gone e es up)))
    ∙ ap (rest_ends x) (sym queue)

ends_is : (birth : ℕ) (x : Session) (b : Broker) → session_at birth b.records ≡ Some x → ends birth b ≡ end_session x
ends_is birth x b found = ap (λ o. with_session o (λ s. always (end_session s)) b) found

first_is : (birth : ℕ) (x : Session) (q : List CopyRow) (b : Broker) → session_at birth b.records ≡ Some x → x.queue ≡ q → ends_first birth b ≡ first_ends x q
first_is birth x q b found queue = ap (λ o. with_session o (λ s. always (first_ends s s.queue)) b) found ∙ ap (first_ends x) queue

by_queue : (birth : ℕ) (x : Session) (q : List CopyRow) (b : Broker) → session_at birth b.records ≡ Some x → x.queue ≡ q → IsAscending copy_place q
    → then (ends_first birth b) (ends birth) b ≡ ends birth b
by_queue birth x [] b found queue up = ap (λ ds. then ds (ends birth) b) (first_is birth x [] b found queue)
by_queue birth x (e ∷ es) b found queue up =
    ap (λ ds. then ds (ends birth) b) (first_is birth x (e ∷ es) b found queue)
    ∙ (ends_rest birth x e es b found queue up ∙ sym (ends_is birth x b found))

by_found : (birth : ℕ) (o : Option Session) (b : Broker) → session_at birth b.records ≡ o → IsAscending copy_place (queue_of o)
    → then (ends_first birth b) (ends birth) b ≡ ends birth b
by_found birth None b found up = ap (λ o. then (with_session o (λ s. always (first_ends s s.queue)) b) (ends birth) b) found
by_found birth (Some x) b found up = by_queue birth x x.queue b found refl up

-- the first copy's end, then the end of the session that remains
pub ends_next : (birth : ℕ) (b : Broker) → IsAscending copy_place (queue_at birth b.records) → then (ends_first birth b) (ends birth) b ≡ ends birth b
ends_next birth b up = by_found birth (session_at birth b.records) b refl up

queue_found : (birth : ℕ) (o : Option Session) (e : CopyRow) (es : List CopyRow) (b : Broker) → session_at birth b.records ≡ o → queue_of o ≡ e ∷ es → IsAscending copy_place (e ∷ es)
    → queue_at birth (after_all (ends_first birth b) b).records ≡ es
queue_found birth None e es b found is up = absurd cc
queue_found birth (Some x) e es b found is up =
    ap (λ ds. queue_at birth (after_all ds b).records) (first_is birth x (e ∷ es) b found is)
    ∙ (ap queue_of (left_in birth x e b found)
    ∙ (ap (remove_row copy_place e.place) is ∙ first_gone e es up))

queue_next : (birth : ℕ) (e : CopyRow) (es : List CopyRow) (b : Broker) → queue_at birth b.records ≡ e ∷ es → IsAscending copy_place (queue_at birth b.records)
    → queue_at birth (after_all (ends_first birth b) b).records ≡ es
queue_next birth e es b is up = queue_found birth (session_at birth b.records) e es b refl is (subst (IsAscending copy_place) is up)

-- ---- the first copy, as a deed of its place

place_first : (x : Session) (e : CopyRow) (es : List CopyRow) → x.queue ≡ e ∷ es → at_place e.place x (λ k. At (whose x) (Leave k SessionEnded) ∷ []) ≡ first_ends x x.queue
place_first x e es queue =
    ap (λ q. of_entry (row_at copy_place e.place q) (λ k. At (whose x) (Leave k SessionEnded) ∷ [])) queue
    ∙ (rw (nat_eq_equiv.refl e.place) refl ∙ ap (first_ends x) (sym queue))

first_act : (birth place : ℕ) (x : Session) (e : CopyRow) (es : List CopyRow) (b : Broker) → session_at birth b.records ≡ Some x → x.queue ≡ e ∷ es → place ≡ e.place
    → leaves birth place SessionEnded b ≡ ends_first birth b
first_act birth place x e es b found queue is =
    ap (λ n. leaves birth n SessionEnded b) is
    ∙ (ap (λ o. with_session o (λ s. always (at_place e.place s (λ k. At (whose s) (Leave k SessionEnded) ∷ []))) b) found
    ∙ (place_first x e es queue ∙ sym (ap (λ o. with_session o (λ s. always (first_ends s s.queue)) b) found)))

-- the first copy's leaving is the first part of a session's end
pub first_did : (birth place : ℕ) (x : Session) (e : CopyRow) (es : List CopyRow) (s new : Stepping) → session_at birth s.broker.records ≡ Some x → x.queue ≡ e ∷ es → place ≡ e.place
    → Did (leaves birth place SessionEnded) s new → Did (ends_first birth) s new
first_did birth place x e es s new found queue is did =
    same_act (leaves birth place SessionEnded) (ends_first birth) s new (first_act birth place x e es s.broker found queue is) did

-- or its leaving is refused
pub first_left : (birth place : ℕ) (x : Session) (e : CopyRow) (es : List CopyRow) (fault : StepFault) (s new : Stepping) → session_at birth s.broker.records ≡ Some x → x.queue ≡ e ∷ es → place ≡ e.place
    → IsLeft (leaves birth place SessionEnded) fault s new → IsLeft (ends_first birth) fault s new
first_left birth place x e es fault s new found queue is left =
    same_left (leaves birth place SessionEnded) (ends_first birth) fault s new (first_act birth place x e es s.broker found queue is) left

-- a session that is gone has no first copy
pub first_none : (birth : ℕ) (s : Stepping) → session_at birth s.broker.records ≡ None → Did (ends_first birth) s s
first_none birth s none = record {
  is = sym (did_none s) ∙ ap (λ ds. did ds s) (sym (ap (λ o. with_session o (λ x. always (first_ends x x.queue)) s.broker) none));
}

-- nor has an empty queue
pub first_empty : (birth : ℕ) (x : Session) (s : Stepping) → session_at birth s.broker.records ≡ Some x → x.queue ≡ [] → Did (ends_first birth) s s
first_empty birth x s found empty = record { is = sym (did_none s) ∙ ap (λ ds. did ds s) (sym (first_is birth x [] s.broker found empty)) }

-- ---- one after the other

-- what is left to do is the end of the session that remains
pub record Ends (birth count : ℕ) (first s : Stepping) : Type 0 where
  pub ok : (new : Stepping) → Did (ends birth) s new → Did (ends birth) first new
  pub left : (fault : StepFault) (new : Stepping) → IsLeft (ends birth) fault s new → IsLeft (ends birth) fault first new
  pub many : length (queue_at birth s.broker.records) ≡ count
  pub order : IsAscending copy_place (queue_at birth s.broker.records)

-- a session's end begins with as many copies as stand
pub ends_start : (birth left : ℕ) (first : Stepping) → left ≡ length (queue_at birth first.broker.records) → IsAscending copy_place (queue_at birth first.broker.records) → Ends birth left first first
ends_start birth left first is up = record { ok = λ new did. did; left = λ fault new is. is; many = sym is; order = up }

less_one : (n left : ℕ) → suc n ≡ left → n ≡ left - 1
less_one n left is = omega arith

queue_after : (birth left : ℕ) (q : List CopyRow) (b : Broker) → queue_at birth b.records ≡ q → length q ≡ left → 0 < left → IsAscending copy_place (queue_at birth b.records)
    → (length (queue_at birth (after_all (ends_first birth b) b).records) ≡ left - 1) × IsAscending copy_place (queue_at birth (after_all (ends_first birth b) b).records)
queue_after birth left [] b is count some up = absurd (omega arith)
queue_after birth left (e ∷ es) b is count some up =
    let rest : queue_at birth (after_all (ends_first birth b) b).records ≡ es = queue_next birth e es b is up in
    (ap length rest ∙ less_one (length es) left count, subst (IsAscending copy_place) (sym rest) (subst (IsAscending copy_place) is up).1)

-- a copy that left leaves one less
pub ends_step : (birth left : ℕ) (first s s2 : Stepping) → Ends birth left first s → 0 < left → Did (ends_first birth) s s2 → Ends birth (left - 1) first s2
ends_step birth left first s s2 w some is =
    let next = ends_next birth s.broker w.order in
    let after = queue_after birth left (queue_at birth s.broker.records) s.broker refl w.many some w.order in
    let broker : s2.broker ≡ after_all (ends_first birth s.broker) s.broker = ap (λ (t : Stepping). t.broker) is.is in
    record {
      ok = λ new rest. w.ok new (same_act (λ b. then (ends_first birth b) (ends birth) b) (ends birth) s new next (did_then (ends_first birth) (ends birth) s s2 new is rest));
      left = λ fault new rest. w.left fault new (same_left (λ b. then (ends_first birth b) (ends birth) b) (ends birth) fault s new next (left_then (ends_first birth) (ends birth) fault s s2 new is rest));
      many = ap (λ (b : Broker). length (queue_at birth b.records)) broker ∙ after.0;
      order = subst (λ (b : Broker). IsAscending copy_place (queue_at birth b.records)) (sym broker) after.1;
    }

-- an end that is refused at a copy is refused
pub ends_left : (birth left : ℕ) (fault : StepFault) (first s new : Stepping) → Ends birth left first s → IsLeft (ends_first birth) fault s new → IsLeft (ends birth) fault first new
ends_left birth left fault first s new w is =
    w.left fault new (same_left (λ b. then (ends_first birth b) (ends birth) b) (ends birth) fault s new (ends_next birth s.broker w.order)
    (left_first (ends_first birth) (ends birth) fault s new is))

-- no copy is left
none_left : (x : Session) (q : List CopyRow) → x.queue ≡ q → length q ≡ 0 → Finish (whose x) ∷ [] ≡ end_session x
none_left x [] queue none = ap (rest_ends x) (sym queue)
none_left x (e ∷ es) queue none = absurd (omega arith)

finish_by : (birth : ℕ) (o : Option Session) (b : Broker) → session_at birth b.records ≡ o → length (queue_of o) ≡ 0 → finishes birth b ≡ ends birth b
finish_by birth None b found none =
    ap (λ o. with_session o (λ s. always (Finish (whose s) ∷ [])) b) found ∙ sym (ap (λ o. with_session o (λ s. always (end_session s)) b) found)
finish_by birth (Some x) b found none =
    ap (λ o. with_session o (λ s. always (Finish (whose s) ∷ [])) b) found ∙ (none_left x x.queue refl none ∙ sym (ends_is birth x b found))

-- behind the last copy the session is taken out
pub ends_last : (birth left : ℕ) (first s new : Stepping) → Ends birth left first s → left ≡ 0 → Did (finishes birth) s new → Did (ends birth) first new
ends_last birth left first s new w none is =
    w.ok new (same_act (finishes birth) (ends birth) s new (finish_by birth (session_at birth s.broker.records) s.broker refl (w.many ∙ none)) is)

-- or that is refused
pub ends_last_left : (birth left : ℕ) (fault : StepFault) (first s new : Stepping) → Ends birth left first s → left ≡ 0 → IsLeft (finishes birth) fault s new → IsLeft (ends birth) fault first new
ends_last_left birth left fault first s new w none is =
    w.left fault new (same_left (finishes birth) (ends birth) fault s new (finish_by birth (session_at birth s.broker.records) s.broker refl (w.many ∙ none)) is)

-- ---- all that it has is gone

finish_act : (birth : ℕ) (x : Session) (b : Broker) → session_at birth b.records ≡ Some x → always (Finish (whose x) ∷ []) b ≡ finishes birth b
finish_act birth x b found = sym (ap (λ o. with_session o (λ s. always (Finish (whose s) ∷ [])) b) found)

-- taking a session out is the last part of its end
pub finish_did : (birth : ℕ) (x : Session) (s new : Stepping) → session_at birth s.broker.records ≡ Some x → Did (always (Finish (whose x) ∷ [])) s new → Did (finishes birth) s new
finish_did birth x s new found is = same_act (always (Finish (whose x) ∷ [])) (finishes birth) s new (finish_act birth x s.broker found) is

-- or that is refused
pub finish_left : (birth : ℕ) (x : Session) (fault : StepFault) (s new : Stepping) → session_at birth s.broker.records ≡ Some x → IsLeft (always (Finish (whose x) ∷ [])) fault s new → IsLeft (finishes birth) fault s new
finish_left birth x fault s new found is = same_left (always (Finish (whose x) ∷ [])) (finishes birth) fault s new (finish_act birth x s.broker found) is

-- a session that is gone is not taken out
pub finish_none : (birth : ℕ) (s : Stepping) → session_at birth s.broker.records ≡ None → Did (finishes birth) s s
finish_none birth s none = record {
  is = sym (did_none s) ∙ ap (λ ds. did ds s) (sym (ap (λ o. with_session o (λ x. always (Finish (whose x) ∷ [])) s.broker) none));
}
