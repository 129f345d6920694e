-- A CONNECT as a whole: refused at once or done, and a client identifier that one session has.
use Rattle.std.proofs.Common.{◌≡◌, ℕ, Bool, true, false, List, [], ◌∷◌, nat_eq, bytes_eq, refl, ap, sym, ◌∙◌, inl, inr}
use Rattle.std.specs.Prelude.{Option, Some, option_map}
use Rattle.std.specs.List.{AllByRecursion}
use Rattle.std.proofs.lemmas.Bool.{eqb-true}
use Rattle.std.proofs.lemmas.Cmp.{nat_eq_equiv}
use Rattle.std.proofs.lemmas.Slice.Eq.{bytes_eq-Decides}
use Rattle.mqtt_packet.specs.declared.connect.connect.Connect.{Connect}
use Rattle.mqtt_records.specs.declared.state.session.Session.{Session}
use Rattle.mqtt_records.specs.declared.state.records.Records.{Records}
use Rattle.mqtt_rules.specs.step.Connect.{on_connect}
use Rattle.mqtt_rules.specs.step.Laws.{IsAmong, IsCoherent}
use Rattle.mqtt_rules.specs.step.State.{Line, session_at}
use Rattle.mqtt_rules.proofs.step_lemmas.acts.Leads.{found_passes}
use Rattle.mqtt_rules.proofs.step_lemmas.lines.LineLaw.{here}
use Rattle.mqtt_broker_step.specs.Stepping.{Stepping, Does}
use Rattle.mqtt_broker_acts.specs.declared.connecting.joining.Joined.TheVariants.{Done}
use Rattle.mqtt_broker_acts.specs.connecting.Joining.{IsNamedAt}
use Rattle.mqtt_broker_acts.specs.connecting.Preparing.{IsConnected, IsOnly}

-- nothing was chosen
pub done_at_once : (l : Line) (c : Connect) (s new : Stepping) → Does (λ env. on_connect env l c) s new → IsConnected l c Done s new
done_at_once l c s new does = record { number = 0; sender = []; members = []; is = λ choice same. does choice }

all_of : {X : Type 0} (P : X → Type 0) (xs : List X) → ((x : X) → IsAmong x xs → P x) → AllByRecursion P xs
all_of P [] each = tt
all_of P (x ∷ xs) each = (each x (inl refl), all_of P xs (λ y among. each y (inr among)))

not_both : (t : Bool) → t ≡ true → t ≡ false → ⊥
not_both t is isnt = absurd cc

same_session : (o : Option Session) (s t : Session) → o ≡ Some s → o ≡ Some t → s ≡ t
same_session o s t first second = cc

-- one session at most has a client identifier
pub only_one : (client : List ℕ) (birth : ℕ) (r : Records) → IsCoherent r → IsNamedAt client birth r → IsOnly client birth r
only_one client birth r coherent named = all_of (λ s. bytes_eq s.client client ≡ nat_eq s.birth birth) r.sessions each
  where
    s : Session
    s = named.session

    passes : bytes_eq s.client client ≡ true
    passes = found_passes (λ (x : Session). bytes_eq x.client client) s r.sessions named.named

    its : s.client ≡ client
    its = (bytes_eq-Decides s.client client).0 passes

    client_of : Session → List ℕ
    client_of x = x.client

    by : (t : Session) → session_at t.birth r ≡ Some t → (a b : Bool) → bytes_eq t.client client ≡ a → nat_eq t.birth birth ≡ b → a ≡ b
    by t at true true is_named is_born = refl
    by t at false false is_named is_born = refl
    by t at true false is_named is_born =
        let same : t.client ≡ client = (bytes_eq-Decides t.client client).0 is_named in
        let one : t.birth ≡ birth = coherent.clients t.birth birth client (ap (option_map client_of) at ∙ ap Some same) (ap (option_map client_of) named.at ∙ ap Some its) in
        let born : nat_eq t.birth birth ≡ true = ap (λ n. nat_eq n birth) one ∙ nat_eq_equiv.refl birth in
        absurd (not_both (nat_eq t.birth birth) born is_born)
    by t at false true is_named is_born =
        let one : t.birth ≡ birth = eqb-true t.birth birth is_born in
        let same : s ≡ t = same_session (session_at birth r) s t named.at (ap (λ n. session_at n r) (sym one) ∙ at) in
        let found : bytes_eq t.client client ≡ true = ap (λ (x : Session). bytes_eq x.client client) (sym same) ∙ passes in
        absurd (not_both (bytes_eq t.client client) found is_named)

    each : (t : Session) → IsAmong t r.sessions → bytes_eq t.client client ≡ nat_eq t.birth birth
    each t among = by t (here t r coherent.ordered.sessions.ascending among) (bytes_eq t.client client) (nat_eq t.birth birth) refl refl
