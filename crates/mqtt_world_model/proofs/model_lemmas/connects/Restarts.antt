-- The broker restarts while a publisher's session stands: the publisher sees that event of its hop (MQTT 5.0, 4.1).
use Rattle.std.proofs.Common.{◌≡◌, ℕ, ◌≤◌, false, List, [], ◌∷◌, ◌++◌, Option, Some, None, nat_eq, bytes_eq, refl, sym, ap, subst, ◌∙◌, arith, inl, inr}
use Rattle.std.specs.Prelude.{option_map, find, is_some}
use Rattle.std.specs.List.{AllByRecursion, starts_with}
use Rattle.std.proofs.lemmas.Bool.{cases_Bool, eqb-true}
use Rattle.mqtt_flow.specs.inbound.InboundWorld.{restart, step}
use Rattle.mqtt_records.specs.declared.state.session.Session.{Session}
use Rattle.mqtt_records.specs.state.Records.{changed_all}
use Rattle.mqtt_records.specs.state.Session.{birth_of, with_columns, auto}
use Rattle.mqtt_rules.specs.declared.step.Capacity.{Capacity}
use Rattle.mqtt_rules.specs.step.State.{Broker, Env, MemberChoice, session_at, session_named}
use Rattle.mqtt_rules.specs.step.Deeds.{Close, Deed, part_rows_of, rows_of_all, after_all}
use Rattle.mqtt_rules.specs.step.Closing.{never, settle}
use Rattle.mqtt_rules.specs.step.Step.{env_of, connected_in, shuts, settles, shuts_all, settles_all, opening, unopened, opened}
use Rattle.mqtt_rules.proofs.step_lemmas.flight.FlightRows.{found_key, all_more}
use Rattle.mqtt_rules.proofs.step_lemmas.acts.Goods.{after_append}
use Rattle.mqtt_rules.proofs.step_lemmas.acts.Acts.{leads_settle}
use Rattle.mqtt_world_model.specs.model.Ends.{Publisher}
use Rattle.mqtt_world_model.specs.model.World.{publisher_restarted}
use Rattle.mqtt_world_model.specs.model.Seen.{open_in, seen}
use Rattle.mqtt_world_model.specs.model.Hops.{IsIts, IsOnly, IsOurs, Own, IsKept}
use Rattle.mqtt_world_model.proofs.model_lemmas.others.Rows.{Face, face, face_at}
use Rattle.mqtt_world_model.proofs.model_lemmas.own.Publishes.{closed_row, closed_at, settles_nothing}
use Rattle.mqtt_world_model.proofs.model_lemmas.seats.Seeing.{done_sessions, some_face, named_face, hop_of}
use Rattle.mqtt_world_model.proofs.model_lemmas.others.Far.{AreFar, apart_by, own_deeds}
use Rattle.mqtt_world_model.proofs.model_lemmas.others.FarActs.{IsFarDeed, others, far_law, far_of}
use Rattle.mqtt_world_model.proofs.model_lemmas.others.Frame.{own_done}
use Rattle.mqtt_world_model.proofs.model_lemmas.seats.Mine.{mine_owns}

-- the session stands with its open identifiers, and is the publisher's
record Stays (client : List ℕ) (birth : ℕ) (ids : List ℕ) (b : Broker) : Type 0 where
  pub own : Own client birth 0 b
  pub shown : Face
  pub is : face_at birth b.records ≡ Some shown
  pub client_is : shown.client ≡ client
  pub ids_is : shown.inbound ≡ ids
  pub no_will : shown.will ≡ None
  pub no_end : shown.expiry ≡ never

module _ (env : Env) (client : List ℕ) (birth : ℕ) (ids : List ℕ) (plain : starts_with nat_eq client auto ≡ false) where
  abbrev StaysHere : Broker → Type 0
  StaysHere b = Stays client birth ids b

  -- deeds that don't concern it
  stays_far : (ds : List Deed) (b : Broker) → AreFar client birth 0 ds → StaysHere b → StaysHere (after_all ds b)
  stays_far ds b far s = record {
    own = own_deeds client birth 0 ds b far s.own;
    shown = s.shown;
    is = (apart_by client birth 0 ds b far).face_is ∙ s.is;
    client_is = s.client_is;
    ids_is = s.ids_is;
    no_will = s.no_will;
    no_end = s.no_end;
  }

  -- another session is closed, and settled
  other_shut : (x : Session) (b : Broker) → nat_eq x.birth birth ≡ false → StaysHere b → StaysHere (after_all (shuts x b) b)
  other_shut x b q s = stays_far (shuts x b) b (inl (inl q), tt) s

  other_settled : (x : Session) (b : Broker) → nat_eq x.birth birth ≡ false → StaysHere b → StaysHere (after_all (settles env x b) b)
  other_settled x b q s =
      let led = leads_settle env (others client birth 0) (Own client birth 0) (IsFarDeed client birth 0) (far_law client birth 0 env plain) x.birth b s.own q in
      stays_far (settles env x b) b (far_of client birth 0 (settles env x b) b led.0) s

  -- its own is closed, and then has nothing to settle
  own_shut : (x : Session) (b : Broker) → x.birth ≡ birth → StaysHere b → StaysHere (after_all (shuts x b) b)
  own_shut x b same s =
      let y = after_all (shuts x b) b in
      let found = some_face s.shown (session_at birth b.records) s.is in
      let z = found.0 in
      let its : z.birth ≡ birth = found_key birth_of birth z b.records.sessions found.1 in
      let at : session_at x.birth b.records ≡ Some z = ap (λ (n : ℕ). session_at n b.records) same ∙ found.1 in
      let own_at : session_at z.birth b.records ≡ Some z = ap (λ (n : ℕ). session_at n b.records) its ∙ found.1 in
      let closed = with_columns (closed_row b.now z) z in
      let stored : session_at birth y.records ≡ Some closed =
      ap (λ (o : Option Session). session_at birth (changed_all (part_rows_of (Close b.now) o) b.records)) at
      ∙ (ap (λ (n : ℕ). session_at n (changed_all (part_rows_of (Close b.now) (Some z)) b.records)) (sym its) ∙ closed_at b.now z b.records own_at) in
      record {
        own = mine_owns client birth 0 (shuts x b) b (inr tt, tt) s.own;
        shown = face closed;
        is = ap (option_map face) stored;
        client_is = ap (λ (f : Face). f.client) found.2 ∙ s.client_is;
        ids_is = ap (λ (f : Face). f.inbound) found.2 ∙ s.ids_is;
        no_will = ap (λ (f : Face). f.will) found.2 ∙ s.no_will;
        no_end = ap (λ (f : Face). f.expiry) found.2 ∙ s.no_end;
      }

  own_settled : (x : Session) (b : Broker) → x.birth ≡ birth → StaysHere b → StaysHere (after_all (settles env x b) b)
  own_settled x b same s =
      let found = some_face s.shown (session_at birth b.records) s.is in
      let will_is : found.0.will ≡ None = ap (λ (f : Face). f.will) found.2 ∙ s.no_will in
      let end_is : found.0.expiry ≡ never = ap (λ (f : Face). f.expiry) found.2 ∙ s.no_end in
      let nothing : settles env x b ≡ [] = ap (λ (n : ℕ). settle env n b) same ∙ settles_nothing env birth found.0 b found.1 will_is end_is in
      subst (λ (ds : List Deed). StaysHere (after_all ds b)) (sym nothing) s

  -- each that was connected is closed, and then each is settled
  one_shut : (x : Session) (b : Broker) → StaysHere b → StaysHere (after_all (shuts x b) b)
  one_shut x b s = elim (cases_Bool (nat_eq x.birth birth)) [
    | inl same ↦ own_shut x b (eqb-true x.birth birth same) s
    | inr other ↦ other_shut x b other s
  ]

  all_shut : (xs : List Session) (b : Broker) → StaysHere b → StaysHere (after_all (shuts_all xs b) b)
  all_shut [] b s = s
  all_shut (x ∷ xs) b s = all_shut xs (after_all (shuts x b) b) (one_shut x b s)

  one_settled : (x : Session) (b : Broker) → StaysHere b → StaysHere (after_all (settles env x b) b)
  one_settled x b s = elim (cases_Bool (nat_eq x.birth birth)) [
    | inl same ↦ own_settled x b (eqb-true x.birth birth same) s
    | inr other ↦ other_settled x b other s
  ]

  all_settled : (xs : List Session) (b : Broker) → StaysHere b → StaysHere (after_all (settles_all env xs b) b)
  all_settled [] b s = s
  all_settled (x ∷ xs) b s =
      let first = settles env x b in
      let c = after_all first b in
      subst StaysHere (sym (after_append first (settles_all env xs c) b)) (all_settled xs c (one_settled x b s))

  all_closed : (b : Broker) → StaysHere b → StaysHere (after_all (opening env b) b)
  all_closed b s =
      let ss = connected_in b.records in
      let first = shuts_all ss b in
      let c = after_all first b in
      let second = settles_all env ss c in
      subst StaysHere (sym (after_append first (second ++ []) b ∙ after_append second [] c)) (all_settled ss c (all_shut ss b s))

-- what the opening leaves of the session
stays_opened : (limits : Capacity) (choice : MemberChoice) (now : ℕ) (client : List ℕ) (s : Session) (b : Broker) → IsKept client s b
    → AllByRecursion (IsOurs client s.birth) b.records.sessions → s.birth ≤ b.records.births
    → Stays client s.birth s.inbound (after_all (opening (env_of limits choice (unopened now b.records)) (unopened now b.records)) (unopened now b.records))
stays_opened limits choice now client s b k ours births =
    let start = unopened now b.records in
    all_closed (env_of limits choice start) client s.birth s.inbound k.plain start (record {
      own = record { sessions = ours; lines = tt; births = births; given = omega arith };
      shown = face s;
      is = ap (option_map face) k.session;
      client_is = k.name;
      ids_is = refl;
      no_will = k.no_will;
      no_end = k.no_end;
    })

-- and it stays the publisher's own, on no line
pub restart_owns : (limits : Capacity) (choice : MemberChoice) (now : ℕ) (client : List ℕ) (s : Session) (b : Broker) → IsKept client s b
    → AllByRecursion (IsOurs client s.birth) b.records.sessions → s.birth ≤ b.records.births → Own client s.birth 0 (opened limits choice now b.records)
restart_owns limits choice now client s b k ours births =
    let start = unopened now b.records in
    let ds = opening (env_of limits choice start) start in
    own_done client s.birth 0 (rows_of_all ds start.records) (after_all ds start) (stays_opened limits choice now client s b k ours births).own

-- a restart while its session stands is that event of the hop
pub restart_is_hop : (limits : Capacity) (choice : MemberChoice) (now : ℕ) (p : Publisher) (s : Session) (b : Broker) (accepted : List ℕ)
    → IsKept p.client s b → AllByRecursion (IsOurs p.client s.birth) b.records.sessions → s.birth ≤ b.records.births
    → seen accepted (publisher_restarted p) (opened limits choice now b.records) ≡ step (seen accepted p b) restart
restart_is_hop limits choice now p s b accepted k ours births =
    let start = unopened now b.records in
    let env = env_of limits choice start in
    let ds = opening env start in
    let new = opened limits choice now b.records in
    let last = stays_opened limits choice now p.client s b k ours births in
    let end = after_all ds start in
    let only : IsOnly p.client s.birth end.records = all_more (IsOurs p.client s.birth) (IsIts p.client s.birth) end.records.sessions (λ x h. h.named) last.own.sessions in
    let named = named_face p.client s.birth end.records last.shown only last.is last.client_is in
    let before = named_face p.client s.birth b.records (face s) k.only (ap (option_map face) k.session) k.name in
    let sessions : new.records.sessions ≡ end.records.sessions = done_sessions (rows_of_all ds start.records) end in
    let stands : is_some (session_named p.client new.records) ≡ is_some (session_named p.client b.records) =
    ap (λ (ss : List Session). is_some (find (λ (x : Session). bytes_eq x.client p.client) ss)) sessions ∙ (named.0 ∙ sym before.0) in
    let open_ids : open_in (session_named p.client new.records) ≡ open_in (session_named p.client b.records) =
    ap (λ (ss : List Session). open_in (find (λ (x : Session). bytes_eq x.client p.client) ss)) sessions ∙ (named.1 ∙ (last.ids_is ∙ sym before.1)) in
    λ i. hop_of accepted (publisher_restarted p) false [] [] [] (stands i) (open_ids i)
