-- Whose the sessions are as a message is accepted, and in whose queue a copy waits at the end (MQTT 5.0, 3.1.3.1, 4.1).
use Rattle.std.proofs.Common.{◌≡◌, ℕ, zero, suc, ◌≤◌, Bool, true, false, List, [], ◌∷◌, map, length, Option, Some, None, bytes_eq, refl, sym, ap, subst, ◌∙◌, arith, inl, inr}
use Rattle.std.specs.Prelude.{flat_map, option_map}
use Rattle.mqtt_base.specs.declared.session.CopyId.{CopyId}
use Rattle.mqtt_records.specs.messages.Queue.{CopyRow}
use Rattle.mqtt_records.specs.state.Session.{birth_of}
use Rattle.mqtt_records.specs.declared.state.session.Session.{Session}
use Rattle.mqtt_records.specs.lists.Order.{IsBelow}
use Rattle.mqtt_rules.specs.step.Laws.{IsAmong, IsCoherent, client_at}
use Rattle.mqtt_rules.specs.step.State.{Broker, session_at, session_named}
use Rattle.mqtt_rules.proofs.step_lemmas.acts.Leads.{found_among}
use Rattle.mqtt_rules.proofs.step_lemmas.fit.FitLaw.{all_among, name_is_new}
use Rattle.mqtt_rules.proofs.step_lemmas.fit.RowsFit.{made_of}
use Rattle.mqtt_rules.proofs.step_lemmas.flight.FlightRows.{all_found}
use Rattle.mqtt_rules.proofs.step_lemmas.lines.LinePrepared.{named_is, named_stands}
use Rattle.mqtt_world_model.specs.model.Laws.{count_of, is_copy, standing, standing_in}
use Rattle.mqtt_world_model.specs.model.Tellings.{queue_length}
use Rattle.mqtt_world_laws.proofs.acceptance_lemmas.copies.Counting.{count_append, count_cons}
use Rattle.mqtt_world_laws.proofs.acceptance_lemmas.copies.Told.{copy_is}
use Rattle.mqtt_world_laws.proofs.routing_lemmas.Lists.{each_among}
use Rattle.mqtt_world_laws.proofs.unsent_lemmas.Once.{session_counts}
use Rattle.mqtt_world_laws.specs.published.Published.{IsWaiting}
use Rattle.mqtt_world_laws.proofs.published_lemmas.Names.{AreNamed, IsIn, IsNamed}

-- a session that stands is found by its birth
at_birth : (b : Broker) → IsCoherent b.records → (s : Session) → IsAmong s b.records.sessions → session_at s.birth b.records ≡ Some s
at_birth b h s among = all_among (λ (x : Session). session_at x.birth b.records ≡ Some x) s b.records.sessions (all_found birth_of b.records.sessions h.ordered.sessions.ascending) among

below : (n : ℕ) (s : Session) (ss : List Session) → IsBelow birth_of n ss → IsAmong s ss → suc s.birth ≤ n
below n s [] h among = absurd among
below n s (x ∷ ss) h (inl is) = let less = h.0 in let same = ap (λ (y : Session). y.birth) is in omega (arith, less, same)
below n s (x ∷ ss) h (inr more) = below n s ss h.1 more

-- ---- where a client's session stands, and no such copy

module _ (c : CopyId) (reader : List ℕ) (b : Broker) (h : IsCoherent b.records) (before : Session) (e : session_named reader b.records ≡ Some before) (its : before.birth ≡ c.birth) where
  its_client : before.client ≡ reader
  its_client =
      let there = named_stands reader before b (made_of b.records h) e in
      let named = named_is reader before b (made_of b.records h) e in
      let same : Some before.client ≡ Some reader = sym (ap (λ (o : Option Session). option_map (λ (s : Session). s.client) o) there) ∙ named in
      cc

  -- the sessions of its birth have its name, since it is the only one
  pub begin_named : count_of c (standing b) ≡ 0 → AreNamed c reader b.records.sessions
  begin_named none = each_among (IsNamed c reader) b.records.sessions one
    where
      one : (s : Session) → IsAmong s b.records.sessions → IsNamed c reader s
      one s among = record {
        named = λ is.
            let here : session_at s.birth b.records ≡ Some s = at_birth b h s among in
            let there : session_at before.birth b.records ≡ Some before = named_stands reader before b (made_of b.records h) e in
            let both : Some s ≡ Some before = sym here ∙ (ap (λ (n : ℕ). session_at n b.records) (is ∙ sym its) ∙ there) in
            let same : s ≡ before = cc in
            ap (λ (x : Session). x.client) same ∙ its_client;
        copies = each_among (IsIn c reader s.birth) s.queue (λ row there is.
            let some = session_counts c s row b.records.sessions among there is in
            absurd (omega (arith, some, none)));
      }

  -- and its birth was given
  pub begin_given : c.birth ≤ b.records.births
  begin_given = let less = below (suc b.records.births) before b.records.sessions h.births (found_among (λ (s : Session). bytes_eq s.client reader) before b.records.sessions e) in omega (arith, less, its)

-- ---- a copy that stands

record IsInQueue (c : CopyId) (q : List CopyRow) : Type 0 where
  row : CopyRow
  among : IsAmong row q
  is : row.copy.id ≡ c

in_queue : (c : CopyId) (q : List CopyRow) → 1 ≤ count_of c (map (λ (e : CopyRow). e.copy.id) q) → IsInQueue c q
in_queue c [] some = let none : 1 ≤ 0 = some in absurd (omega (arith, none))
in_queue c (e ∷ q) some = by (is_copy c e.copy.id) refl (λ more. let x = in_queue c q more in record { row = x.row; among = inr x.among; is = x.is })
  where
    by : (t : Bool) → is_copy c e.copy.id ≡ t → (1 ≤ count_of c (map (λ (x : CopyRow). x.copy.id) q) → IsInQueue c (e ∷ q)) → IsInQueue c (e ∷ q)
    by true is rest = record { row = e; among = inl refl; is = sym (copy_is c e.copy.id is) }
    by false other rest =
        let first = count_cons c e.copy.id (map (λ (x : CopyRow). x.copy.id) q) in
        let one = count_cons c e.copy.id [] in
        let none : count_of c (e.copy.id ∷ []) ≡ 0 = rw other refl in
        rest (omega (arith, first, one, none, some))

record IsStanding (c : CopyId) (ss : List Session) : Type 0 where
  session : Session
  among : IsAmong session ss
  row : IsInQueue c session.queue

is_standing : (c : CopyId) (ss : List Session) → 1 ≤ count_of c (flat_map standing_in ss) → IsStanding c ss
is_standing c [] some = let none : 1 ≤ 0 = some in absurd (omega (arith, none))
is_standing c (s ∷ ss) some = by (count_of c (standing_in s)) refl (λ more. let x = is_standing c ss more in record { session = x.session; among = inr x.among; row = x.row })
  where
    by : (n : ℕ) → count_of c (standing_in s) ≡ n → (1 ≤ count_of c (flat_map standing_in ss) → IsStanding c (s ∷ ss)) → IsStanding c (s ∷ ss)
    by zero none rest = let all = count_append c (standing_in s) (flat_map standing_in ss) in rest (omega (arith, all, none, some))
    by (suc n) is rest = record { session = s; among = inl refl; row = in_queue c s.queue (omega (arith, is)) }

-- it waits for the client whose session has its birth
pub is_waiting : (c : CopyId) (reader : List ℕ) (b : Broker) → IsCoherent b.records → AreNamed c reader b.records.sessions → 1 ≤ count_of c (standing b) → IsWaiting reader c b
is_waiting c reader b h named some = by (session_named reader b.records) refl
  where
    x : IsStanding c b.records.sessions
    x = is_standing c b.records.sessions some

    its : x.session.client ≡ reader
    its =
        let p = all_among (IsNamed c reader) x.session b.records.sessions named x.among in
        p.named (all_among (IsIn c reader x.session.birth) x.row.row x.session.queue p.copies x.row.among x.row.is)

    here : session_at x.session.birth b.records ≡ Some x.session
    here = at_birth b h x.session x.among

    client : client_at x.session.birth b.records ≡ Some reader
    client = ap (λ (o : Option Session). option_map (λ (s : Session). s.client) o) here ∙ ap Some its

    by : (o : Option Session) → session_named reader b.records ≡ o → IsWaiting reader c b
    by None e = absurd (name_is_new reader b.records e x.session.birth client)
    by (Some t) e =
        let there = named_stands reader t b (made_of b.records h) e in
        let birth : t.birth ≡ x.session.birth = h.clients t.birth x.session.birth reader (named_is reader t b (made_of b.records h) e) client in
        let both : Some t ≡ Some x.session = sym there ∙ (ap (λ (n : ℕ). session_at n b.records) birth ∙ here) in
        let same : t ≡ x.session = cc in
        record { session = t; named = e; row = x.row.row; among = subst (λ (s : Session). IsAmong x.row.row s.queue) (sym same) x.row.among; is = x.row.is }

-- not if nothing waits for it
pub none_waits : (c : CopyId) (reader : List ℕ) (b : Broker) → IsWaiting reader c b → queue_length (session_named reader b.records) ≡ 0 → ⊥
none_waits c reader b x none = by x.session.queue x.among (sym (ap queue_length x.named) ∙ none)
  where
    by : (q : List CopyRow) → IsAmong x.row q → length q ≡ 0 → ⊥
    by [] among is = absurd among
    by (e ∷ q) among is = absurd (omega (arith, is))
