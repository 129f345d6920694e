-- If a session of this client stands, the table of sessions is within its limit: a session begins only if there is a
-- place, and from then on the table isn't above its limit (MQTT 5.0, 3.1.4).
use Rattle.std.proofs.Common.{◌≡◌, ℕ, ◌≤◌, true, false, List, [], ◌∷◌, length, Option, Some, None, bytes_eq, refl, sym, ap, ◌∙◌, arith, inl, inr}
use Rattle.std.specs.Prelude.{⊤, find, is_some}
use Rattle.std.specs.List.{AllByRecursion}
use Rattle.std.proofs.lemmas.Bool.{cases_Bool}
use Rattle.std.proofs.lemmas.Slice.Eq.{bytes_eq-Decides}
use Rattle.mqtt_records.specs.declared.messages.message.MessageCopy.{MessageCopy}
use Rattle.mqtt_records.specs.declared.state.records.Records.{Records}
use Rattle.mqtt_records.specs.declared.state.session.Session.{Session}
use Rattle.mqtt_records.specs.state.Records.{changed_all}
use Rattle.mqtt_records.specs.state.Session.{birth_of, with_copy}
use Rattle.mqtt_rules.specs.declared.step.Capacity.{Capacity}
use Rattle.mqtt_rules.specs.step.State.{Broker, Env, MemberChoice, session_at, session_named, stored}
use Rattle.mqtt_rules.specs.step.Deeds.{Accept, At, Begin, Count, Deed, Enter, Finish, Forget, Gone, Keep, Link, Name, On, Part, RefuseWill, Send, new_entry, part_rows_of, stored_after}
use Rattle.mqtt_rules.specs.step.Step.{Call, env_of, opened, stepped, unopened}
use Rattle.mqtt_rules.proofs.step_lemmas.order.Ordered.{length-change_row}
use Rattle.mqtt_rules.proofs.step_lemmas.order.OrderedActs.{Keeping}
use Rattle.mqtt_rules.proofs.step_lemmas.order.OrderedLimits.{opening_keeps, step_keeps}
use Rattle.mqtt_rules.proofs.step_lemmas.order.OrderedRoom.{FewSessions, IsSteady, Roomy, roomy_keeps, sessions_keeping}
use Rattle.mqtt_world_model.specs.model.Hops.{IsIts}
use Rattle.mqtt_world_model.specs.model.Seats.{HasPlace}
use Rattle.mqtt_world_model.proofs.model_lemmas.connects.FirstConnects.{only_none}
use Rattle.mqtt_world_model.proofs.model_lemmas.others.Names.{BeginsNone, only_deed}

-- ---- a deed by which no session begins

-- no session comes by it
entered_fewer : (copy : MessageCopy) (r : Records) (o : Option Session) → length (changed_all (part_rows_of (Enter copy) o) r).sessions ≤ length r.sessions
entered_fewer copy r None = omega arith
entered_fewer copy r (Some s) = let same = length-change_row birth_of s.birth (with_copy (new_entry copy s.queue)) r.sessions in omega (arith, same)

fewer : (env : Env) (d : Deed) (r : Records) → IsSteady d → FewSessions env r → FewSessions env (stored_after d r)
fewer env (Accept number origin m) r q h = h
fewer env (Name n) r q h = (sessions_keeping env).plain (Name n) r tt h
fewer env (Count n) r q h = h
fewer env (At who part) r q h = by part
  where
    by : (part : Part) → FewSessions env (stored_after (At who part) r)
    by (Enter copy) = let le = entered_fewer copy r (session_at who.birth r) in omega (arith, le, h)
    by other = (sessions_keeping env).plain (At who other) r tt h
fewer env (Finish who) r q h = (sessions_keeping env).plain (Finish who) r tt h
fewer env (Forget place) r q h = h
fewer env (RefuseWill who) r q h = h
fewer env (Link n) r q h = h
fewer env (On line part) r q h = h
fewer env (Send line packet) r q h = h
fewer env (Gone line) r q h = h
fewer env (Begin row will) r q h = absurd q
fewer env (Keep kept) r q h = absurd q

steady_none : (client : List ℕ) (birth : ℕ) (d : Deed) → IsSteady d → BeginsNone client birth d
steady_none client birth (Begin row will) q = absurd q
steady_none client birth d q = tt

-- if all sessions of a client had two births, there is none
nobody : (client : List ℕ) (ss : List Session) → AllByRecursion (IsIts client 0) ss → AllByRecursion (IsIts client 1) ss → is_some (find (λ (x : Session). bytes_eq x.client client) ss) ≡ false
nobody client [] h g = refl
nobody client (x ∷ xs) h g = elim (cases_Bool (bytes_eq x.client client)) [
  | inl its ↦
      let same = (bytes_eq-Decides x.client client).0 its in
      let zero_is = h.0 same in
      let one_is = g.0 same in
      absurd (omega (arith, zero_is, one_is))
  | inr other ↦ rw other (nobody client xs h.1 g.1)
]

-- if no session of this client stands, none does after it
none_after : (client : List ℕ) (d : Deed) (r : Records) → IsSteady d → session_named client r ≡ None → is_some (session_named client (stored_after d r)) ≡ false
none_after client d r q none =
    let only = λ (birth : ℕ). only_deed client birth d r (steady_none client birth d q) (only_none client birth r.sessions none) in
    nobody client (stored_after d r).sessions (only 0) (only 1)

place_steady : (env : Env) (client : List ℕ) (d : Deed) (r : Records) → IsSteady d → HasPlace env.limits client r → HasPlace env.limits client (stored_after d r)
place_steady env client d r q h stands = by (session_named client r) refl
  where
    by : (o : Option Session) → session_named client r ≡ o → FewSessions env (stored_after d r)
    by None none = let clash : true ≡ false = sym stands ∙ none_after client d r q none in absurd cc
    by (Some s) there = fewer env d r q (h (ap is_some there))

-- ---- each step and each opening

place_roomy : (env : Env) (client : List ℕ) → Roomy env (HasPlace env.limits client)
place_roomy env client = record {
  steady = place_steady env client;
  begin = λ row will r room h stands. (sessions_keeping env).begin row will r room (omega arith);
  keep = λ number now m r is full found h. h;
  moment = λ now r h. h;
}

place_keeping : (env : Env) (client : List ℕ) → Keeping env (HasPlace env.limits client) (λ d b. ⊤)
place_keeping env client = roomy_keeps env (HasPlace env.limits client) (place_roomy env client)

-- a call leaves a client its place, whoever it is made for
pub step_place : (limits : Capacity) (choice : MemberChoice) (now : ℕ) (call : Call) (client : List ℕ) (b : Broker) → HasPlace limits client (stored b) → HasPlace limits client (stored (stepped limits choice now call b))
step_place limits choice now call client b h = step_keeps limits choice now call b (HasPlace limits client) (λ d c. ⊤) (place_keeping (env_of limits choice b) client) h

-- and so does an opening
pub opening_place : (limits : Capacity) (choice : MemberChoice) (now : ℕ) (client : List ℕ) (r : Records) → HasPlace limits client r → HasPlace limits client (stored (opened limits choice now r))
opening_place limits choice now client r h =
    opening_keeps limits choice now r (HasPlace limits client) (λ d c. ⊤) (place_keeping (env_of limits choice (unopened now r)) client) h

-- if no session of its name stands, nothing is asked of the table
pub no_place_asked : (limits : Capacity) (client : List ℕ) (r : Records) → session_named client r ≡ None → HasPlace limits client r
no_place_asked limits client r none stands = let clash : true ≡ false = sym stands ∙ ap is_some none in absurd cc
