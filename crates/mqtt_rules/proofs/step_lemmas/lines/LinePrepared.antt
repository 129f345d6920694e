-- What comes before a new connection closes each session of the client, and leaves the new line alone.
use Rattle.std.proofs.Common.{◌≡◌, ℕ, ◌≤◌, Bool, true, false, cond, List, [], ◌∷◌, ◌++◌, Option, Some, None, nat_eq, bytes_eq, refl, sym, ap, subst, ◌∙◌}
use Rattle.std.specs.Prelude.{option_map}
use Rattle.std.proofs.lemmas.Bool.{eqb-true}
use Rattle.std.proofs.lemmas.Cmp.{nat_eq_equiv}
use Rattle.std.proofs.lemmas.Slice.Eq.{bytes_eq-Decides}
use Rattle.mqtt_base.specs.declared.limits.TheConstants.{LAST_NUMBER}
use Rattle.mqtt_base.specs.Codes.{session_taken_over}
use Rattle.mqtt_packet.specs.declared.connect.connect.Connect.{Connect as Greeting}
use Rattle.mqtt_records.specs.declared.state.session.Session.{Session}
use Rattle.mqtt_records.proofs.lists_lemmas.OrderLemmas.{apart}
use Rattle.mqtt_rules.specs.step.Packets.{disconnect}
use Rattle.mqtt_rules.specs.step.State.{Line, Broker, Env, session_at, session_named, line_of, is_of}
use Rattle.mqtt_rules.specs.step.Deeds.{whose, Close, Deed, At, Send, Gone, after, after_all, only_if, with_session, with_line}
use Rattle.mqtt_rules.specs.step.Closing.{publish_will, settle, close_session, close_connected, drop_line}
use Rattle.mqtt_rules.specs.step.Connect.{of_client, take_over, clear, prepare}
use Rattle.mqtt_rules.specs.step.Lines.{session_on, closed_at, HasUniqueLines}
use Rattle.mqtt_rules.specs.step.Laws.{client_at}
use Rattle.mqtt_rules.proofs.step_lemmas.acts.Goods.{AreGood, after_append, good_append, good_of_client, good_if}
use Rattle.mqtt_rules.proofs.step_lemmas.acts.Leads.{found_among, found_passes}
use Rattle.mqtt_rules.proofs.step_lemmas.acts.LookedUp.{client_at_part}
use Rattle.mqtt_rules.proofs.step_lemmas.numbers.Counters.{Counts, counts_deed}
use Rattle.mqtt_rules.proofs.step_lemmas.acts.Acts.{taken_over, settled, IsCleared, IsPrepared}
use Rattle.mqtt_rules.proofs.step_lemmas.acts.OnLines.{found_on}
use Rattle.mqtt_rules.proofs.step_lemmas.fit.Coherent.{Coheres}
use Rattle.mqtt_rules.proofs.step_lemmas.fit.FitLaw.{name_is_new}
use Rattle.mqtt_rules.proofs.step_lemmas.lines.LineRows.{IsStill, leaves}
use Rattle.mqtt_rules.proofs.step_lemmas.lines.LineActs.{still_settle, still_clear, still_publish_will}
use Rattle.mqtt_rules.proofs.step_lemmas.lines.LineLaw.{here, on_line_of, on_gone, closed_by_close, found_of}

-- ---- what still deeds keep, an old line's closing brings about

module _ (P : Broker → Type 0) (stays : (ds : List Deed) (x : Broker) → AreGood IsStill ds x → P x → P (after_all ds x)) where
  -- a session's line is dropped: it goes, the session closes, and what is due of it is done
  dropped : (env : Env) (code : ℕ) (l : Line) (s : Session) (b : Broker) → l.session ≡ Some s.birth → session_at s.birth b.records ≡ Some s
      → P (after_all (Send l.number (disconnect code) ∷ Gone l.number ∷ At (whose s) (Close b.now) ∷ []) b) → P (after_all (drop_line env code l b) b)
  dropped env code l s b its there p = by l.session its
    where
      b1 : Broker
      b1 = after (Send l.number (disconnect code)) b

      b2 : Broker
      b2 = after (Gone l.number) b1

      found : (o : Option Session) → o ≡ Some s → P (after_all ((Gone l.number ∷ (with_session o (close_session env true) b2 ++ [])) ++ []) b1)
      found None is = absurd cc
      found (Some t) is =
          let same : s ≡ t = cc in
          subst (λ (x : Session). P (after_all ((Gone l.number ∷ (with_session (Some x) (close_session env true) b2 ++ [])) ++ []) b1)) same mine
        where
          y : Broker
          y = after (At (whose s) (Close b.now)) b2

          still : AreGood IsStill (((settle env s.birth y ++ []) ++ []) ++ []) y
          still =
              let one = good_append IsStill (settle env s.birth y) [] y (still_settle env s.birth y) tt in
              let two = good_append IsStill (settle env s.birth y ++ []) [] y one tt in
              good_append IsStill ((settle env s.birth y ++ []) ++ []) [] y two tt

          mine : P (after_all ((Gone l.number ∷ (with_session (Some s) (close_session env true) b2 ++ [])) ++ []) b1)
          mine = stays (((settle env s.birth y ++ []) ++ []) ++ []) y still p

      by : (session : Option ℕ) → session ≡ Some s.birth → P (after_all ((Gone l.number ∷ (close_connected env true session b2 ++ [])) ++ []) b1)
      by None is = absurd cc
      by (Some birth) is = let same : birth ≡ s.birth = cc in found (session_at birth b2.records) (ap (λ (n : ℕ). session_at n b.records) same ∙ there)

  -- the takeover, if it has nothing to do, and if there is an old line
  over : (env : Env) (client : List ℕ) (b : Broker) → Coheres b.records
      → (session_named client b.records ≡ None → P b)
      → ((s : Session) → session_named client b.records ≡ Some s → line_of s.birth b ≡ None → P b)
      → ((s : Session) (l : Line) → session_named client b.records ≡ Some s → line_of s.birth b ≡ Some l → l.session ≡ Some s.birth → session_at s.birth b.records ≡ Some s → P (after_all (Send l.number (disconnect session_taken_over) ∷ Gone l.number ∷ At (whose s) (Close b.now) ∷ []) b))
      → P (taken_over env client b)
  over env client b h nobody nowhere line = by (session_named client b.records) refl
    where
      is_its : (o : Option ℕ) (birth : ℕ) → is_of o birth ≡ true → o ≡ Some birth
      is_its None birth e = absurd cc
      is_its (Some x) birth e = ap Some (eqb-true x birth e)

      on : (s : Session) (o : Option Line) → session_named client b.records ≡ Some s → line_of s.birth b ≡ o → P (after_all (with_line o (drop_line env session_taken_over) b) b)
      on s None named is = nowhere s named is
      on s (Some l) named is =
          let its = is_its l.session s.birth (found_passes (λ (x : Line). is_of x.session s.birth) l b.lines is) in
          let there = here s b.records h.ordered.sessions.ascending (found_among (λ x. bytes_eq x.client client) s b.records.sessions named) in
          dropped env session_taken_over l s b its there (line s l named is its there)

      by : (o : Option Session) → session_named client b.records ≡ o → P (after_all (with_session o (take_over env) b) b)
      by None is = nobody is
      by (Some s) is = on s (line_of s.birth b) is refl

  -- all that comes behind it
  pub behind : (env : Env) (client : List ℕ) (b : Broker) → P (taken_over env client b) → P (settled env client b)
  behind env client b p =
      let x = taken_over env client b in
      stays (of_client client (λ s. settle env s.birth) x) x (good_of_client IsStill client (λ s. settle env s.birth) (λ s. still_settle env s.birth) x) p

  -- what deeds that connect nobody keep is kept by what clears a session
  pub cleared : (env : Env) (client : List ℕ) (s : Session) (b : Broker) → P (settled env client b) → P (after_all (publish_will env s (settled env client b)) (settled env client b))
  cleared env client s b p = stays (publish_will env s (settled env client b)) (settled env client b) (still_publish_will env s (settled env client b)) p

  -- what deeds that connect nobody keep is kept by all that comes before a new connection
  pub prepared : (env : Env) (c : Greeting) (b : Broker) → P (taken_over env c.client_identifier b) → P (after_all (prepare env c b) b)
  prepared env c b p =
      let name = c.client_identifier in
      let x = taken_over env name b in
      let y = settled env name b in
      let first = of_client name (take_over env) b in
      let second = of_client name (λ s. settle env s.birth) x in
      let third = only_if c.clean_start (of_client name (clear env)) in
      let still_second = good_of_client IsStill name (λ s. settle env s.birth) (λ s. still_settle env s.birth) x in
      let still_third = good_if IsStill c.clean_start (of_client name (clear env)) (good_of_client IsStill name (clear env) (λ s. still_clear env s)) y in
      let rest = second ++ (third y ++ []) in
      subst P (sym (after_append first rest b))
      (stays rest x (good_append IsStill second (third y ++ []) x still_second (good_append IsStill (third y) [] y still_third tt)) p)

-- ---- no client identifier is assigned

abbrev HasAutos : ℕ → Broker → Type 0
HasAutos n b = b.records.autos ≡ n

autos_stay : (n : ℕ) (ds : List Deed) (x : Broker) → AreGood IsStill ds x → HasAutos n x → HasAutos n (after_all ds x)
autos_stay n ds x q e = (leaves ds x q).autos ∙ e

autos_over : (env : Env) (client : List ℕ) (b : Broker) → Coheres b.records → HasAutos b.records.autos (taken_over env client b)
autos_over env client b h =
    over (HasAutos b.records.autos) (autos_stay b.records.autos) env client b h (λ is. refl) (λ s named is. refl)
    (λ s l named is its there. ap (λ (c : Counts). c.autos) (counts_deed (At (whose s) (Close b.now)) (after (Gone l.number) b).records))

-- ---- each session of the client is closed

abbrev pub IsShut : List ℕ → Broker → Type 0
IsShut client b = (k : ℕ) → client_at k b.records ≡ Some client → closed_at k b.records ≡ Some None → ⊥

shut_stays : (client : List ℕ) (ds : List Deed) (x : Broker) → AreGood IsStill ds x → IsShut client x → IsShut client (after_all ds x)
shut_stays client ds x q shut k named is = let left = leaves ds x q in shut k (left.names k client named) (left.falls k is)

-- the session of a client identifier
pub named_stands : (client : List ℕ) (s : Session) (b : Broker) → Coheres b.records → session_named client b.records ≡ Some s → session_at s.birth b.records ≡ Some s
named_stands client s b h named = here s b.records h.ordered.sessions.ascending (found_among (λ x. bytes_eq x.client client) s b.records.sessions named)

-- the session found by a name has that name
pub named_is : (client : List ℕ) (s : Session) (b : Broker) → Coheres b.records → session_named client b.records ≡ Some s → client_at s.birth b.records ≡ Some client
named_is client s b h named =
    let same : s.client ≡ client = (bytes_eq-Decides s.client client).0 (found_passes (λ x. bytes_eq x.client client) s b.records.sessions named) in
    ap (option_map (λ (x : Session). x.client)) (named_stands client s b h named) ∙ ap Some same

shut_over : (env : Env) (client : List ℕ) (b : Broker) → Coheres b.records → b.records.autos ≤ LAST_NUMBER → HasUniqueLines b → IsShut client (taken_over env client b)
shut_over env client b h le u = over (IsShut client) (shut_stays client) env client b h nobody nowhere line
  where
    nobody : session_named client b.records ≡ None → IsShut client b
    nobody none k named is = name_is_new client b.records none k named

    nowhere : (s : Session) → session_named client b.records ≡ Some s → line_of s.birth b ≡ None → IsShut client b
    nowhere s named none k its is =
        let same : k ≡ s.birth = h.clients le k s.birth client its (named_is client s b h named) in
        let on = u.connected k is in
        found_of on.0 s.birth b (on.1 ∙ ap (λ (n : ℕ). Some (Some n)) same) none

    line : (s : Session) (l : Line) → session_named client b.records ≡ Some s → line_of s.birth b ≡ Some l → l.session ≡ Some s.birth → session_at s.birth b.records ≡ Some s
        → IsShut client (after_all (Gone l.number ∷ At (whose s) (Close b.now) ∷ []) b)
    line s l named found its there k mine is =
        let was : client_at k b.records ≡ Some client = sym (client_at_part (whose s) (Close b.now) k b.records) ∙ mine in
        let same : s.birth ≡ k = h.clients le s.birth k client (named_is client s b h named) was in
        let now_is = closed_by_close (whose s) b.now k b.records s.closed (ap (option_map (λ (x : Session). x.closed)) there) in
        let closed : closed_at k (after_all (Gone l.number ∷ At (whose s) (Close b.now) ∷ []) b).records ≡ Some (Some b.now) =
        now_is ∙ ap (λ (t : Bool). cond t (Some (Some b.now)) (closed_at k b.records)) (ap (nat_eq s.birth) (sym same) ∙ nat_eq_equiv.refl s.birth) in
        let clash : Some (Some b.now) ≡ Some None = sym closed ∙ is in
        absurd cc

-- ---- a line that nobody is connected on stays so

abbrev IsFree : ℕ → Broker → Type 0
IsFree n b = session_on n b ≡ Some None

free_stays : (n : ℕ) (ds : List Deed) (x : Broker) → AreGood IsStill ds x → IsFree n x → IsFree n (after_all ds x)
free_stays n ds x q e = (leaves ds x q).lines n ∙ e

free_over : (env : Env) (client : List ℕ) (n : ℕ) (b : Broker) → Coheres b.records → HasUniqueLines b → IsFree n b → IsFree n (taken_over env client b)
free_over env client n b h u free = over (IsFree n) (free_stays n) env client b h (λ is. free) (λ s named is. free) line
  where
    line : (s : Session) (l : Line) → session_named client b.records ≡ Some s → line_of s.birth b ≡ Some l → l.session ≡ Some s.birth → session_at s.birth b.records ≡ Some s
        → IsFree n (after_all (Gone l.number ∷ At (whose s) (Close b.now) ∷ []) b)
    line s l named found its there =
        let on : session_on l.number b ≡ Some l.session = on_line_of l b u.ascending (found_on l b.lines (found_among (λ (x : Line). is_of x.session s.birth) l b.lines found)) in
        let other : nat_eq l.number n ≡ false = apart l.number n (λ same.
        let clash : Some (Some s.birth) ≡ Some None = sym (on ∙ ap Some its) ∙ ap (λ (k : ℕ). session_on k b) same ∙ free in
        absurd cc) in
        on_gone l.number n b ∙ ap (λ (t : Bool). cond t None (session_on n b)) other ∙ free

-- ---- if the session of a client is cleared, and if all is prepared

module _ (Keep : Broker → Type 0) (coheres : (b : Broker) → Keep b → Coheres b.records) (unique : (b : Broker) → Keep b → b.records.autos ≤ LAST_NUMBER → HasUniqueLines b) where
  -- a session that was cleared is not connected
  pub cleared_shut : (env : Env) (s : Session) (b : Broker) → Coheres b.records → IsCleared env Keep s b → b.records.autos ≤ LAST_NUMBER → closed_at s.birth b.records ≡ Some None → ⊥
  cleared_shut env s b h x le is =
      let a = x.before in
      let client = x.client in
      let now = after_all (publish_will env x.other (settled env client a)) (settled env client a) in
      let n = a.records.autos in
      let before = coheres a x.kept in
      let autos : HasAutos n b = subst (HasAutos n) (sym x.is) (cleared (HasAutos n) (autos_stay n) env client x.other a (behind (HasAutos n) (autos_stay n) env client a (autos_over env client a before))) in
      let small : n ≤ LAST_NUMBER = subst (λ (m : ℕ). m ≤ LAST_NUMBER) autos le in
      let over_it = shut_over env client a before small (unique a x.kept small) in
      let shut : IsShut client b = subst (IsShut client) (sym x.is) (cleared (IsShut client) (shut_stays client) env client x.other a (behind (IsShut client) (shut_stays client) env client a over_it)) in
      shut s.birth (named_is x.other.client s b h x.named ∙ ap Some x.its) is

  -- once all that comes before a new connection is done, no session of the client is connected, and nobody is on the line
  pub prepared_shut : (env : Env) (l : Line) (c : Greeting) (b : Broker) → IsPrepared env Keep l c b → b.records.autos ≤ LAST_NUMBER → l.session ≡ None → IsShut c.client_identifier b × IsFree l.number b
  prepared_shut env l c b x le none =
      let a = x.before in
      let client = c.client_identifier in
      let n = a.records.autos in
      let before = coheres a x.kept in
      let autos : HasAutos n b = subst (HasAutos n) (sym x.is) (prepared (HasAutos n) (autos_stay n) env c a (autos_over env client a before)) in
      let small : n ≤ LAST_NUMBER = subst (λ (m : ℕ). m ≤ LAST_NUMBER) autos le in
      let u = unique a x.kept small in
      let free : IsFree l.number a = on_line_of l a u.ascending x.on ∙ ap Some none in (
        subst (IsShut client) (sym x.is) (prepared (IsShut client) (shut_stays client) env c a (shut_over env client a before small u)),
        subst (IsFree l.number) (sym x.is) (prepared (IsFree l.number) (free_stays l.number) env c a (free_over env client l.number a before u free)),
      )
