-- UNSUBSCRIBE: its deeds, and where it is refused.
use Rattle.std.proofs.Common.{◌≡◌, ℕ, suc, Bool, true, false, List, [], ◌∷◌, ◌++◌, length, Option, Some, None, refl, ap, sym, subst, ◌∙◌}
use Rattle.std.specs.Prelude.{map, flat_map}
use Rattle.mqtt_base.specs.Codes.{identifier_in_use}
use Rattle.mqtt_flow.specs.inbound.Identifiers.{is_among}
use Rattle.mqtt_packet.specs.declared.subscribe.unsubscribe.Unsubscribe.{Unsubscribe}
use Rattle.mqtt_records.specs.declared.state.session.Session.{Session}
use Rattle.mqtt_rules.specs.step.State.{Broker, session_at}
use Rattle.mqtt_rules.specs.step.Deeds.{Act, Deed, always, of_session, with_session}
use Rattle.mqtt_rules.specs.step.Packets.{unsuback}
use Rattle.mqtt_rules.specs.step.Subscribe.{drop_codes, unsubscribes, unsubscribe_by, on_unsubscribe}
use Rattle.mqtt_broker_step.specs.declared.fault.StepFault.{StepFault}
use Rattle.mqtt_broker_step.specs.Stepping.{Stepping, did, Did, IsLeft}
use Rattle.mqtt_broker_step.proofs.Doing.{did_none}
use Rattle.mqtt_broker_step.proofs.Then.{same_act, same_left, did_then, left_first, left_then}
use Rattle.mqtt_broker_acts.specs.subscribing.Offering.{largest_on, offer_within}
use Rattle.mqtt_broker_acts.specs.subscribing.Dropping.{held, drops}
use Rattle.mqtt_broker_acts.proofs.subscribing_lemmas.Lines.{offer_is}

-- ---- any act of a session

-- an act of the session that stands is the act of its birth
pub with_found : (birth : ℕ) (f : Session → Act) (x : Session) (b : Broker) → session_at birth b.records ≡ Some x → f x b ≡ of_session birth f b
with_found birth f x b found = ap (λ o. with_session o f b) (sym found)

-- for a session that is gone nothing is done
pub nobody : (birth : ℕ) (f : Session → Act) (s : Stepping) → session_at birth s.broker.records ≡ None → Did (of_session birth f) s s
nobody birth f s none = record { is = sym (did_none s) ∙ ap (λ ds. did ds s) (sym (ap (λ o. with_session o f s.broker) none)) }

-- ---- as many codes as filters

-- mapping a list keeps the count
pub length_map : {X Y : Type 0} (f : X → Y) (xs : List X) → length (map f xs) ≡ length xs
length_map f [] = refl
length_map f (x ∷ xs) = ap suc (length_map f xs)

-- each filter has one code
pub length_codes : (s : Session) (seen fs : List (List ℕ)) → length (drop_codes s seen fs) ≡ length fs
length_codes s seen [] = refl
length_codes s seen (f ∷ fs) = ap suc (length_codes s (f ∷ seen) fs)

-- ---- refused whole

refused_is : (line : ℕ) (x : Session) (p : Unsubscribe) (largest : Option ℕ) (codes : List ℕ) (b : Broker) → largest ≡ largest_on line b
    → codes ≡ map (λ f. identifier_in_use) p.filters → offer_within line largest (unsuback p.identifier codes) ≡ unsubscribe_by true line x p b
refused_is line x p largest codes b is told =
    ap (λ l. offer_within line l (unsuback p.identifier codes)) is
    ∙ (ap (λ cs. offer_within line (largest_on line b) (unsuback p.identifier cs)) told
    ∙ offer_is line (unsuback p.identifier (map (λ f. identifier_in_use) p.filters)) b)

-- an identifier in use is answered by 0x91 for each filter
pub refused_ok : (line : ℕ) (x : Session) (p : Unsubscribe) (largest : Option ℕ) (codes : List ℕ) (s new : Stepping) → largest ≡ largest_on line s.broker
    → codes ≡ map (λ f. identifier_in_use) p.filters → Did (always (offer_within line largest (unsuback p.identifier codes))) s new → Did (unsubscribe_by true line x p) s new
refused_ok line x p largest codes s new is told done =
    same_act (always (offer_within line largest (unsuback p.identifier codes))) (unsubscribe_by true line x p) s new (refused_is line x p largest codes s.broker is told) done

-- or that is refused
pub refused_left : (line : ℕ) (x : Session) (p : Unsubscribe) (largest : Option ℕ) (codes : List ℕ) (fault : StepFault) (s new : Stepping) → largest ≡ largest_on line s.broker
    → codes ≡ map (λ f. identifier_in_use) p.filters → IsLeft (always (offer_within line largest (unsuback p.identifier codes))) fault s new → IsLeft (unsubscribe_by true line x p) fault s new
refused_left line x p largest codes fault s new is told left =
    same_left (always (offer_within line largest (unsuback p.identifier codes))) (unsubscribe_by true line x p) fault s new (refused_is line x p largest codes s.broker is told) left

-- ---- done

-- what was called with
pub record Asked (line birth : ℕ) (x : Session) (p : Unsubscribe) (largest : Option ℕ) (codes : List ℕ) (s : Stepping) : Type 0 where
  pub found : session_at birth s.broker.records ≡ Some x
  pub on : largest ≡ largest_on line s.broker
  pub told : codes ≡ drop_codes x [] p.filters

dropped_is : (line birth : ℕ) (x : Session) (p : Unsubscribe) (largest : Option ℕ) (codes : List ℕ) (s : Stepping) → Asked line birth x p largest codes s
    → drops birth p.filters s.broker ++ offer_within line largest (unsuback p.identifier codes) ≡ unsubscribe_by false line x p s.broker
dropped_is line birth x p largest codes s asked =
    let b = s.broker in
    let ds : List Deed = flat_map (unsubscribes x) (held p.filters x) in
    ap (λ es. es ++ offer_within line largest (unsuback p.identifier codes)) (sym (with_found birth (λ y. always (flat_map (unsubscribes y) (held p.filters y))) x b asked.found))
    ∙ (ap (λ l. ds ++ offer_within line l (unsuback p.identifier codes)) asked.on
    ∙ (ap (λ cs. ds ++ offer_within line (largest_on line b) (unsuback p.identifier cs)) asked.told
    ∙ ap (λ es. ds ++ es) (offer_is line (unsuback p.identifier (drop_codes x [] p.filters)) b)))

-- filters are dropped, and the UNSUBACK goes out: that is the UNSUBSCRIBE
pub dropped_ok : (line birth : ℕ) (x : Session) (p : Unsubscribe) (largest : Option ℕ) (codes : List ℕ) (s s1 s2 : Stepping) → Asked line birth x p largest codes s
    → Did (drops birth p.filters) s s1 → Did (always (offer_within line largest (unsuback p.identifier codes))) s1 s2 → Did (unsubscribe_by false line x p) s s2
dropped_ok line birth x p largest codes s s1 s2 asked first second =
    let answer : Act = always (offer_within line largest (unsuback p.identifier codes)) in
    same_act (λ b. drops birth p.filters b ++ offer_within line largest (unsuback p.identifier codes)) (unsubscribe_by false line x p) s s2 (dropped_is line birth x p largest codes s asked)
    (did_then (drops birth p.filters) answer s s1 s2 first second)

-- it may be refused at the filters
pub drops_left : (line birth : ℕ) (x : Session) (p : Unsubscribe) (largest : Option ℕ) (codes : List ℕ) (fault : StepFault) (s new : Stepping) → Asked line birth x p largest codes s
    → IsLeft (drops birth p.filters) fault s new → IsLeft (unsubscribe_by false line x p) fault s new
drops_left line birth x p largest codes fault s new asked left =
    let answer : Act = always (offer_within line largest (unsuback p.identifier codes)) in
    same_left (λ b. drops birth p.filters b ++ offer_within line largest (unsuback p.identifier codes)) (unsubscribe_by false line x p) fault s new (dropped_is line birth x p largest codes s asked)
    (left_first (drops birth p.filters) answer fault s new left)

-- or at the UNSUBACK
pub answer_left : (line birth : ℕ) (x : Session) (p : Unsubscribe) (largest : Option ℕ) (codes : List ℕ) (fault : StepFault) (s s1 new : Stepping) → Asked line birth x p largest codes s
    → Did (drops birth p.filters) s s1 → IsLeft (always (offer_within line largest (unsuback p.identifier codes))) fault s1 new → IsLeft (unsubscribe_by false line x p) fault s new
answer_left line birth x p largest codes fault s s1 new asked first left =
    let answer : Act = always (offer_within line largest (unsuback p.identifier codes)) in
    same_left (λ b. drops birth p.filters b ++ offer_within line largest (unsuback p.identifier codes)) (unsubscribe_by false line x p) fault s new (dropped_is line birth x p largest codes s asked)
    (left_then (drops birth p.filters) answer fault s s1 new first left)

-- ---- the packet

-- an UNSUBSCRIBE is taken as its identifier is free or in use
pub whole_is : (line birth : ℕ) (x : Session) (p : Unsubscribe) (t : Bool) (b : Broker) → session_at birth b.records ≡ Some x → is_among p.identifier x.inbound ≡ t
    → unsubscribe_by t line x p b ≡ of_session birth (λ y. on_unsubscribe line y p) b
whole_is line birth x p t b found is =
    ap (λ u. unsubscribe_by u line x p b) (sym is) ∙ with_found birth (λ y. on_unsubscribe line y p) x b found

-- so it is done
pub whole_ok : (line birth : ℕ) (x : Session) (p : Unsubscribe) (t : Bool) (s new : Stepping) → session_at birth s.broker.records ≡ Some x → is_among p.identifier x.inbound ≡ t
    → Did (unsubscribe_by t line x p) s new → Did (of_session birth (λ y. on_unsubscribe line y p)) s new
whole_ok line birth x p t s new found is done =
    same_act (unsubscribe_by t line x p) (of_session birth (λ y. on_unsubscribe line y p)) s new (whole_is line birth x p t s.broker found is) done

-- or that is refused
pub whole_left : (line birth : ℕ) (x : Session) (p : Unsubscribe) (t : Bool) (fault : StepFault) (s new : Stepping) → session_at birth s.broker.records ≡ Some x → is_among p.identifier x.inbound ≡ t
    → IsLeft (unsubscribe_by t line x p) fault s new → IsLeft (of_session birth (λ y. on_unsubscribe line y p)) fault s new
whole_left line birth x p t fault s new found is left =
    same_left (unsubscribe_by t line x p) (of_session birth (λ y. on_unsubscribe line y p)) fault s new (whole_is line birth x p t s.broker found is) left

-- what was asked of a session holds of the one that stands
pub asked_of : (line birth : ℕ) (x y : Session) (p : Unsubscribe) (largest : Option ℕ) (codes : List ℕ) (s : Stepping) → session_at birth s.broker.records ≡ Some x → session_at birth s.broker.records ≡ Some y
    → largest ≡ largest_on line s.broker → codes ≡ drop_codes x [] p.filters → Asked line birth y p largest codes s
asked_of line birth x y p largest codes s here found on told =
    let same : Some x ≡ Some y = sym here ∙ found in
    let is : x ≡ y = cc in
    record { found = found; on = on; told = subst (λ (z : Session). codes ≡ drop_codes z [] p.filters) is told }
