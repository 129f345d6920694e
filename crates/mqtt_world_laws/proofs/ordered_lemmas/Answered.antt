-- A message that was answered does not wait again, whatever its publisher reads (MQTT 5.0, 4.1, 4.3.2, 4.3.3).
use Rattle.std.proofs.Common.{◌≡◌, ℕ, zero, suc, Bool, true, false, if◌then◌else◌, List, [], ◌∷◌, map, nat_eq, refl}
use Rattle.mqtt_flow.specs.inbound.Publisher.{Fate, completed, ended, ended_1, on_new_session, on_puback, on_pubcomp, on_pubrec, released, sent, sent_1}
use Rattle.mqtt_world_laws.proofs.ordered_lemmas.UnderWay.{is_unanswered, waits}

on_pubcomp_if : (z : Bool) (other : ℕ) → is_unanswered (if z then ended completed else released other) ≡ true → false ≡ true
on_pubcomp_if true other h = h
on_pubcomp_if false other h = h

-- by PUBACK
pub puback_answers : (id code : ℕ) (f : Fate) → is_unanswered (on_puback id code f) ≡ true → is_unanswered f ≡ true
puback_answers id code (sent_1 other) h = refl
puback_answers id code (ended_1 by) h = h
puback_answers id code (sent other) h = refl
puback_answers id code (released other) h = h
puback_answers id code (ended by) h = h

-- by PUBREC
pub pubrec_answers : (id code : ℕ) (f : Fate) → is_unanswered (on_pubrec id code f) ≡ true → is_unanswered f ≡ true
pubrec_answers id code (sent_1 other) h = refl
pubrec_answers id code (ended_1 by) h = h
pubrec_answers id code (sent other) h = refl
pubrec_answers id code (released other) h = h
pubrec_answers id code (ended by) h = h

-- by PUBCOMP
pub pubcomp_answers : (id : ℕ) (f : Fate) → is_unanswered (on_pubcomp id f) ≡ true → is_unanswered f ≡ true
pubcomp_answers id (sent_1 other) h = refl
pubcomp_answers id (ended_1 by) h = h
pubcomp_answers id (sent other) h = refl
pubcomp_answers id (released other) h = on_pubcomp_if (nat_eq id other) other h
pubcomp_answers id (ended by) h = h

-- and a new session knows of none
pub none_waits : (m : ℕ) (fs : List Fate) → waits m (map on_new_session fs) ≡ true → false ≡ true
none_waits m [] h = h
none_waits zero (sent_1 id ∷ fs) h = h
none_waits zero (ended_1 by ∷ fs) h = h
none_waits zero (sent id ∷ fs) h = h
none_waits zero (released id ∷ fs) h = h
none_waits zero (ended by ∷ fs) h = h
none_waits (suc m) (f ∷ fs) h = none_waits m fs h
