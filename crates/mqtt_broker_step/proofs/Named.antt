-- A session that is found by its client identifier is found by its birth.
use Rattle.std.proofs.Common.{◌≡◌, ℕ, List}
use Rattle.std.specs.Prelude.{bytes_eq, find, Some}
use Rattle.mqtt_records.specs.declared.state.session.Session.{Session}
use Rattle.mqtt_records.specs.state.Session.{birth_of}
use Rattle.mqtt_records.specs.lists.Order.{IsAscending, row_at}
use Rattle.mqtt_rules.proofs.step_lemmas.fit.FitLaw.{all_among}
use Rattle.mqtt_rules.proofs.step_lemmas.flight.FlightRows.{all_found}
use Rattle.mqtt_rules.proofs.step_lemmas.acts.Leads.{found_among}

-- the session that is found by its client identifier is the one that its birth finds
pub stands_by_birth : (client : List ℕ) (ss : List Session) (s : Session) → IsAscending birth_of ss → find (λ x. bytes_eq x.client client) ss ≡ Some s
    → row_at birth_of s.birth ss ≡ Some s
stands_by_birth client ss s up found =
    all_among (λ (x : Session). row_at birth_of x.birth ss ≡ Some x) s ss (all_found birth_of ss up) (found_among (λ (x : Session). bytes_eq x.client client) s ss found)
