-- Runs that go through.
use Rattle.std.proofs.Common.{◌≡◌, [], ◌∷◌, true, false, map, refl}
use Rattle.mqtt_base.specs.declared.Ending.TheVariants.{Taken, SessionEnded, Expired}
use Rattle.mqtt_flow.specs.outbound.Receiver.{Body, Handed}
use Rattle.mqtt_flow.proofs.outbound_lemmas.outbound.Lives.{ended, is_late}
use Rattle.mqtt_flow.proofs.outbound_lemmas.outbound.LivesWorld.{enter, finish, pump, to_broker, old_to_broker, to_end, give_up, break_line, make_line, restart, run, start}

abbrev two : Body
two = record { twice = true; topic = 97 ∷ []; payload = 1 ∷ [] }

abbrev one : Body
one = record { twice = false; topic = 97 ∷ []; payload = 2 ∷ [] }

-- copies of both kinds go through a restart in mid-handshake, and all are taken
pub handed_twice : (run (make_line false ∷ to_broker false [] ∷ to_end ∷ enter two ∷ enter one ∷ enter two ∷ pump 1 ∷ pump 1 ∷ pump 1 ∷ restart ∷ make_line false ∷ to_broker false [] ∷ to_end ∷ pump 1 ∷ pump 1 ∷ pump 1 ∷ to_end ∷ to_end ∷ to_end ∷ to_broker false [] ∷ to_broker false [] ∷ to_end ∷ to_broker false [] ∷ to_broker false [] ∷ to_end ∷ to_broker false [] ∷ []) start).copies ≡ ended Taken two ∷ ended Taken one ∷ ended Taken two ∷ []
handed_twice = refl

-- a Clean Start ends the copies, and the set is emptied with CONNACK
pub clean_start : (run (make_line false ∷ to_broker false [] ∷ to_end ∷ enter two ∷ pump 1 ∷ to_end ∷ break_line ∷ make_line true ∷ to_broker false [] ∷ enter two ∷ pump 1 ∷ to_end ∷ to_end ∷ to_broker false [] ∷ to_end ∷ to_broker false [] ∷ []) start).copies ≡ ended SessionEnded two ∷ ended Taken two ∷ []
clean_start = refl

-- copies before and after a Clean Start are in the ledger once each
pub clean_ledger : map (λ (h : Handed). h.copy) (run (make_line false ∷ to_broker false [] ∷ to_end ∷ enter two ∷ pump 1 ∷ to_end ∷ break_line ∷ make_line true ∷ to_broker false [] ∷ enter two ∷ pump 1 ∷ to_end ∷ to_end ∷ []) start).ledger ≡ 0 ∷ 1 ∷ []
clean_ledger = refl

-- a late CONNECT takes the session over; the PUBLISH under way on the closed line is read, and not again
pub late_connect : map (λ (h : Handed). h.copy) (run (make_line false ∷ give_up ∷ make_line false ∷ to_broker false [] ∷ to_end ∷ enter two ∷ pump 1 ∷ old_to_broker false ∷ to_end ∷ to_end ∷ make_line false ∷ to_broker false [] ∷ to_end ∷ pump 1 ∷ to_end ∷ to_broker false [] ∷ []) start).ledger ≡ 0 ∷ []
late_connect = refl

-- a copy that waits expires
pub expired : (run (make_line false ∷ to_broker false [] ∷ enter two ∷ finish is_late 0 ∷ []) start).copies ≡ ended Expired two ∷ []
expired = refl
