-- What comes before a new connection ends sessions, and begins none: the clients stay the same, or there are fewer.
use Rattle.std.proofs.Common.{◌≡◌, ℕ, suc, ◌<◌, ◌≤◌, Bool, true, false, ◌||◌, cond, nat_eq, nat_lt, List, [], ◌∷◌, length, refl, ap, sym, subst, ◌∙◌, arith, inl, inr}
use Rattle.std.specs.Prelude.{◌⊎◌, ⊤, Option, Some, None, bytes_eq, filter, find, is_some, map}
use Rattle.std.specs.List.{list_any}
use Rattle.std.proofs.lemmas.Bool.{cases_Bool, lt-ltb}
use Rattle.mqtt_packet.specs.declared.connect.connect.Connect.{Connect}
use Rattle.mqtt_records.specs.lists.Order.{row_at, change_row, remove_row}
use Rattle.mqtt_records.specs.declared.state.session.Session.{Session}
use Rattle.mqtt_records.specs.declared.state.records.Records.{Records}
use Rattle.mqtt_records.specs.state.Records.{changed_all}
use Rattle.mqtt_records.specs.state.Session.{birth_of, columns_of, with_columns, with_will, with_subscription, without_subscription, with_open, without_open, with_copy, with_phase, without_copy}
use Rattle.mqtt_base.specs.Codes.{session_taken_over}
use Rattle.mqtt_rules.specs.step.Packets.{disconnect}
use Rattle.mqtt_rules.specs.step.State.{Line, Broker, Env, session_at, session_named, line_of}
use Rattle.mqtt_rules.specs.step.Deeds.{Part, Deed, after, after_all, stored_after, part_rows, part_rows_of, new_entry, whose, always, only_if, of_session}
use Rattle.mqtt_rules.specs.step.Deeds as deeds
use Rattle.mqtt_rules.specs.step.Closing.{settle, close, close_session, close_connected, drop_line}
use Rattle.mqtt_rules.specs.step.Connect.{of_client, take_over, clear, prepare}
use Rattle.mqtt_rules.proofs.step_lemmas.acts.Goods.{AreGood, GoodAct, good_series, good_of_session, good_of_client, good_with_line, good_if}
use Rattle.mqtt_rules.proofs.step_lemmas.lines.LineRows.{IsStill, IsStillPart}
use Rattle.mqtt_rules.proofs.step_lemmas.lines.LineActs.{still_settle, still_clear}
use Rattle.mqtt_rules.specs.step.Numbers.{HasGivenBirths}
use Rattle.mqtt_rules.proofs.step_lemmas.acts.Acts.{anyone, leads_prepare}
use Rattle.mqtt_rules.proofs.step_lemmas.acts.ByDeeds.{by_deeds, turn_law}
use Rattle.mqtt_rules.proofs.step_lemmas.numbers.NumberBirths.{given_all}
use Rattle.mqtt_rules.proofs.step_lemmas.numbers.NumberFacts.{GivesNext, next_law, next_mark}
use Rattle.mqtt_broker_step.proofs.Doing.{stands}
use Rattle.mqtt_broker_acts.specs.connecting.Joining.{has_place}

abbrev pub clients : List Session → List (List ℕ)
clients ss = map (λ s. s.client) ss

-- ---- one session is changed, or removed

clients_change : (k : ℕ) (f : Session → Session) (ss : List Session) (s : Session) → row_at birth_of k ss ≡ Some s → (f s).client ≡ s.client
    → clients (change_row birth_of k f ss) ≡ clients ss
clients_change k f [] s found same = refl
clients_change k f (t ∷ ss) s found same = elim (cases_Bool (nat_eq t.birth k)) [
  | inl here ↦
      let first : Some t ≡ Some s = ap (λ (b : Bool). cond b (Some t) (row_at birth_of k ss)) (sym here) ∙ found in
      let is : t ≡ s = cc in
      let kept : (f t).client ≡ t.client = subst (λ (x : Session). (f x).client ≡ x.client) (sym is) same in
      rw here (ap (λ (n : List ℕ). n ∷ clients ss) kept)
  | inr later ↦
      let rest = clients_change k f ss s (ap (λ (b : Bool). cond b (Some t) (row_at birth_of k ss)) (sym later) ∙ found) same in
      rw later (ap (λ (ns : List (List ℕ)). t.client ∷ ns) rest)
]

-- the clients are the same, or there are fewer
abbrev pub Less : List Session → List Session → Type 0
Less old new = (clients new ≡ clients old) ⊎ (length new < length old)

length_clients : (ss : List Session) → length (clients ss) ≡ length ss
length_clients [] = refl
length_clients (s ∷ ss) = ap (λ n. suc n) (length_clients ss)

same_length : (old new : List Session) → clients new ≡ clients old → length new ≡ length old
same_length old new same = sym (length_clients new) ∙ (ap length same ∙ length_clients old)

less_then : (a b c : List Session) → Less a b → Less b c → Less a c
less_then a b c first second = elim first [
  | inl same ↦ elim second [
    | inl also ↦ inl (also ∙ same)
    | inr fewer ↦ let few = same_length a b same in inr (omega (arith, few, fewer))
  ]
  | inr fewer ↦ elim second [
    | inl also ↦ let few = same_length b c also in inr (omega (arith, few, fewer))
    | inr again ↦ inr (omega (arith, fewer, again))
  ]
]

less_removed : (k : ℕ) (ss : List Session) → Less ss (remove_row birth_of k ss)
less_removed k [] = inl refl
less_removed k (s ∷ ss) = elim (cases_Bool (nat_eq s.birth k)) [
  | inl here ↦ elim (less_removed k ss) [
    | inl same ↦ let few = same_length ss (remove_row birth_of k ss) same in rw here (inr (omega (arith, few)))
    | inr fewer ↦ rw here (inr (omega (arith, fewer)))
  ]
  | inr later ↦ elim (less_removed k ss) [
    | inl same ↦ rw later (inl (ap (λ (ns : List (List ℕ)). s.client ∷ ns) same))
    | inr fewer ↦ rw later (inr (omega (arith, fewer)))
  ]
]

-- ---- one deed

abbrev pub IsMild : Deed → Broker → Type 0
IsMild (deeds.Begin row will) b = ⊥
IsMild (deeds.At who part) b = IsStillPart part
IsMild d b = ⊤

clients_part : (part : Part) (s : Session) (r : Records) → IsStillPart part → session_at s.birth r ≡ Some s
    → clients (changed_all (part_rows part s) r).sessions ≡ clients r.sessions
clients_part (deeds.Resume expiry will) s r q found = absurd q
clients_part (deeds.Close moment) s r q found = clients_change s.birth (with_columns (record (columns_of s) { closed = Some moment })) r.sessions s found refl
clients_part (deeds.SetExpiry expiry) s r q found = clients_change s.birth (with_columns (record (columns_of s) { expiry = expiry })) r.sessions s found refl
clients_part deeds.DropWill s r q found = clients_change s.birth (with_will None) r.sessions s found refl
clients_part (deeds.Subscribe x) s r q found = clients_change s.birth (with_subscription x) r.sessions s found refl
clients_part (deeds.Unsubscribe filter) s r q found = clients_change s.birth (without_subscription filter) r.sessions s found refl
clients_part (deeds.Open id) s r q found = clients_change s.birth (with_open id) r.sessions s found refl
clients_part (deeds.Release id) s r q found = clients_change s.birth (without_open id) r.sessions s found refl
clients_part (deeds.Enter copy) s r q found = clients_change s.birth (with_copy (new_entry copy s.queue)) r.sessions s found refl
clients_part (deeds.Mark place phase) s r q found = clients_change s.birth (with_phase place phase) r.sessions s found refl
clients_part (deeds.Leave e ending) s r q found = clients_change s.birth (without_copy e.place) r.sessions s found refl

clients_at : (birth : ℕ) (part : Part) (r : Records) (o : Option Session) → IsStillPart part → session_at birth r ≡ o
    → clients (changed_all (part_rows_of part o) r).sessions ≡ clients r.sessions
clients_at birth part r None q is = refl
clients_at birth part r (Some s) q is = clients_part part s r q (stands birth r s is)

less_deed : (d : Deed) (b : Broker) → IsMild d b → Less b.records.sessions (after d b).records.sessions
less_deed (deeds.Accept number origin m) b q = inl refl
less_deed (deeds.Begin row will) b q = absurd q
less_deed (deeds.Name n) b q = inl refl
less_deed (deeds.Count n) b q = inl refl
less_deed (deeds.At who part) b q = inl (clients_at who.birth part b.records (session_at who.birth b.records) q refl)
less_deed (deeds.Finish who) b q = less_removed who.birth b.records.sessions
less_deed (deeds.Keep kept) b q = inl refl
less_deed (deeds.Forget place) b q = inl refl
less_deed (deeds.RefuseWill who) b q = inl refl
less_deed (deeds.Link n) b q = inl refl
less_deed (deeds.On line part) b q = inl refl
less_deed (deeds.Send line packet) b q = inl refl
less_deed (deeds.Gone line) b q = inl refl

less_all : (ds : List Deed) (b : Broker) → AreGood IsMild ds b → Less b.records.sessions (after_all ds b).records.sessions
less_all [] b q = inl refl
less_all (d ∷ ds) b q =
    less_then b.records.sessions (after d b).records.sessions (after_all ds (after d b)).records.sessions
    (less_deed d b q.0) (less_all ds (after d b) q.1)

-- ---- what comes before a new connection

mild_one : (d : Deed) (b : Broker) → IsStill d b → IsMild d b
mild_one (deeds.Accept number origin m) b q = tt
mild_one (deeds.Begin row will) b q = q
mild_one (deeds.Name n) b q = tt
mild_one (deeds.Count n) b q = tt
mild_one (deeds.At who part) b q = q
mild_one (deeds.Finish who) b q = tt
mild_one (deeds.Keep kept) b q = tt
mild_one (deeds.Forget place) b q = tt
mild_one (deeds.RefuseWill who) b q = tt
mild_one (deeds.Link n) b q = tt
mild_one (deeds.On line part) b q = tt
mild_one (deeds.Send line packet) b q = tt
mild_one (deeds.Gone line) b q = tt

mild : (ds : List Deed) (b : Broker) → AreGood IsStill ds b → AreGood IsMild ds b
mild [] b q = tt
mild (d ∷ ds) b q = (mild_one d b q.0, mild ds (after d b) q.1)

mild_settle : (env : Env) (birth : ℕ) → GoodAct IsMild (settle env birth)
mild_settle env birth b = mild (settle env birth b) b (still_settle env birth b)

mild_close_session : (env : Env) (s : Session) → GoodAct IsMild (close_session env true s)
mild_close_session env s b =
    good_series IsMild (only_if false (always (deeds.At (whose s) deeds.DropWill ∷ [])) ∷ always (deeds.At (whose s) (deeds.Close b.now) ∷ []) ∷ settle env s.birth ∷ [])
    ((λ x. tt), ((λ x. (tt, tt)), (mild_settle env s.birth, tt))) b

mild_close_connected : (env : Env) (o : Option ℕ) → GoodAct IsMild (close_connected env true o)
mild_close_connected env None b = tt
mild_close_connected env (Some birth) b = good_of_session IsMild birth (close_session env true) (mild_close_session env) b

mild_drop : (env : Env) (code : ℕ) (l : Line) → GoodAct IsMild (drop_line env code l)
mild_drop env code l b =
    good_series IsMild (always (deeds.Send l.number (disconnect code) ∷ []) ∷ close env true l ∷ []) (
      (λ x. (tt, tt)),
      (
        (λ x. good_series IsMild (always (deeds.Gone l.number ∷ []) ∷ close_connected env true l.session ∷ [])
            ((λ y. (tt, tt)), (mild_close_connected env l.session, tt)) x),
        tt,
      ),
    ) b

mild_take_over : (env : Env) (s : Session) → GoodAct IsMild (take_over env s)
mild_take_over env s b = good_with_line IsMild (line_of s.birth b) (drop_line env session_taken_over) b (λ l e. mild_drop env session_taken_over l b)

mild_prepare : (env : Env) (c : Connect) → GoodAct IsMild (prepare env c)
mild_prepare env c b =
    let name = c.client_identifier in
    good_series IsMild (of_client name (take_over env) ∷ of_client name (λ s. settle env s.birth) ∷ only_if c.clean_start (of_client name (clear env)) ∷ []) (
      good_of_client IsMild name (take_over env) (mild_take_over env),
      (
        good_of_client IsMild name (λ s. settle env s.birth) (λ s. mild_settle env s.birth),
        (good_if IsMild c.clean_start (of_client name (clear env)) (good_of_client IsMild name (clear env) (λ s x. mild (clear env s x) x (still_clear env s x))), tt),
      ),
    ) b

-- ---- the place that a client's session leaves

abbrev is_client : List ℕ → List (List ℕ) → Bool
is_client client texts = list_any (λ text. bytes_eq text client) texts

named_is_client : (client : List ℕ) (ss : List Session) → is_some (find (λ s. bytes_eq s.client client) ss) ≡ is_client client (clients ss)
named_is_client client [] = refl
named_is_client client (s ∷ ss) = elim (cases_Bool (bytes_eq s.client client)) [
  | inl here ↦ rw here refl
  | inr other ↦ rw other (named_is_client client ss)
]

-- "or" holds if its second part does
pub or_true : (t : Bool) → (t || true) ≡ true
or_true true = refl
or_true false = refl

-- a client whose session stood finds a place after what comes before its connection, if sessions are within the limit
pub place_is_left : (env : Env) (c : Connect) (b : Broker) → is_some (session_named c.client_identifier b.records) ≡ true → length b.records.sessions ≤ env.limits.sessions
    → has_place env.limits.sessions c (after_all (prepare env c b) b).records ≡ true
place_is_left env c b known within =
    let name = c.client_identifier in
    let old = b.records.sessions in
    let new = (after_all (prepare env c b) b).records.sessions in
    let has = λ (ss : List Session). is_some (find (λ s. bytes_eq s.client name) ss) in
    elim (less_all (prepare env c b) b (mild_prepare env c b)) [
      | inl same ↦
          let stays : has new ≡ true = named_is_client name new ∙ (ap (is_client name) same ∙ (sym (named_is_client name old) ∙ known)) in
          ap (λ t. t || nat_lt (length new) env.limits.sessions) stays
      | inr fewer ↦
          let room : nat_lt (length new) env.limits.sessions ≡ true = lt-ltb (length new) env.limits.sessions (omega (arith, fewer, within)) in
          ap (λ t. has new || t) room ∙ or_true (has new)
    ]

-- ---- births

-- births that were given stay below the next
pub births_stay_given : (env : Env) (c : Connect) (b : Broker) → HasGivenBirths b.records → HasGivenBirths (after_all (prepare env c b) b).records
births_stay_given env c b given =
    let any : Broker → Type 0 = λ x. ⊤ in
    let law = by_deeds env anyone any GivesNext (next_law env) (turn_law env anyone any GivesNext (next_law env) next_mark) in
    given_all (prepare env c b) b (leads_prepare env anyone any GivesNext law c b tt tt).0 given
