-- Whether a CONNECT is refused hangs on its session only if its client identifier is such as the broker assigns.
use Rattle.std.proofs.Common.{◌≡◌, ℕ, nat_lt, nat_eq, Bool, true, false, not, ◌&&◌, ◌||◌, List, [], ◌∷◌, length, refl, sym, ap, ◌∙◌, inl, inr}
use Rattle.std.specs.Prelude.{Option, None, is_some, is_none}
use Rattle.std.specs.List.{starts_with}
use Rattle.std.proofs.lemmas.Bool.{cases_Bool}
use Rattle.mqtt_base.specs.Codes.{client_identifier_not_valid, bad_authentication_method, topic_name_invalid, packet_too_large}
use Rattle.mqtt_base.specs.declared.limits.TheConstants.{CLIENT_LIMIT}
use Rattle.mqtt_props.specs.declared.table.PropName.TheVariants.{AuthenticationMethod}
use Rattle.mqtt_props.specs.Laws.{has}
use Rattle.mqtt_packet.specs.declared.connect.connect.Connect.{Connect}
use Rattle.mqtt_records.specs.declared.state.records.Records.{Records}
use Rattle.mqtt_records.specs.state.Session.{auto, fresh}
use Rattle.mqtt_records.specs.state.Records.{nothing}
use Rattle.mqtt_rules.specs.step.State.{session_named}
use Rattle.mqtt_rules.specs.step.Connect.{case, first_case, has_bad_topic, is_unassigned, largest_of, least_packet_size, refusal}
use Rattle.mqtt_rules.proofs.step_lemmas.fit.FitLaw.{same_text}

-- records with a session of this client identifier
abbrev with_client : List ℕ → Records
with_client name = record nothing { sessions = fresh (record { birth = 1; client = name; expiry = 0; closed = None }) ∷ [] }

stands : (name : List ℕ) → is_some (session_named name (with_client name)) ≡ true
stands name = rw (same_text name name refl) refl

free : (name : List ℕ) (r : Records) → starts_with nat_eq name auto ≡ false → is_unassigned name r ≡ false
free name r other = ap (λ (b : Bool). b && is_none (session_named name r)) other

alike : (c : Connect) (r q : Records) → is_unassigned c.client_identifier r ≡ is_unassigned c.client_identifier q → refusal c r ≡ refusal c q
alike c r q same =
    ap (λ (b : Bool). first_case (
    case (has AuthenticationMethod c.properties) bad_authentication_method
    ∷ case (nat_lt (largest_of c) least_packet_size) packet_too_large
    ∷ case (nat_lt CLIENT_LIMIT (length c.client_identifier)) client_identifier_not_valid
    ∷ case b client_identifier_not_valid
    ∷ case (has_bad_topic c.will) topic_name_invalid
    ∷ [])) same

-- whether a CONNECT is refused depends on the records only by whether the client's name is known
pub refused_by : (c : Connect) (r : Records) (known : Bool) (o : Option ℕ) → known ≡ (not (starts_with nat_eq c.client_identifier auto) || is_some (session_named c.client_identifier r))
    → ((q : Records) → is_some (session_named c.client_identifier q) ≡ known → o ≡ refusal c q) → o ≡ refusal c r
refused_by c r known o is by =
    let name : List ℕ = c.client_identifier in
    elim (cases_Bool (starts_with nat_eq name auto)) [
      | inl assigned ↦
          let as_known : known ≡ is_some (session_named name r) = is ∙ ap (λ (b : Bool). not b || is_some (session_named name r)) assigned in
          by r (sym as_known)
      | inr other ↦
          let always : known ≡ true = is ∙ ap (λ (b : Bool). not b || is_some (session_named name r)) other in
          by (with_client name) (stands name ∙ sym always)
          ∙ alike c (with_client name) r (free name (with_client name) other ∙ sym (free name r other))
    ]
