-- A copy stands in the queue of the session of its birth, and that keeps its client identifier, so a copy that ends is that client's
-- (MQTT 5.0, 3.1.3.1, 4.1).
use Rattle.std.proofs.Common.{◌≡◌, ℕ, suc, ◌≤◌, Bool, true, false, cond, List, [], ◌∷◌, map, not, Option, Some, None, nat_eq, refl, sym, ap, subst, ◌∙◌, arith, inl, inr}
use Rattle.std.specs.Prelude.{⊤, filter_map}
use Rattle.std.specs.List.{AllByRecursion, cons_option}
use Rattle.std.proofs.Math.Nat.{max-le, min-le_right}
use Rattle.std.proofs.lemmas.Bool.{cases_Bool, eqb-true}
use Rattle.std.proofs.lemmas.List.Elements.{filter_map-append}
use Rattle.mqtt_base.specs.declared.limits.TheConstants.{LAST_NUMBER, QUEUE_LIMIT, SESSION_LIMIT}
use Rattle.mqtt_base.specs.declared.session.CopyId.{CopyId}
use Rattle.mqtt_records.specs.declared.messages.message.Will.{Will}
use Rattle.mqtt_records.specs.messages.Queue.{CopyRow}
use Rattle.mqtt_records.specs.lists.Order.{change_row, has_row, put_row}
use Rattle.mqtt_records.specs.state.Records.{changed_all, put_session}
use Rattle.mqtt_records.specs.state.Session.{birth_of, columns_of, copy_place, fresh, in_phase, with_columns, with_copy, with_open, with_phase, with_subscription, with_will, without_copy, without_open, without_subscription}
use Rattle.mqtt_records.specs.declared.state.change.Change.{Change}
use Rattle.mqtt_records.specs.declared.state.records.Records.{Records}
use Rattle.mqtt_records.specs.declared.state.session.Columns.{Columns}
use Rattle.mqtt_records.specs.declared.state.session.Session.{Session}
use Rattle.mqtt_rules.specs.declared.step.Capacity.{Capacity}
use Rattle.mqtt_rules.specs.step.Deeds.{Accept, At, Begin, Close, Count, Deed, DropWill, Enter, Finish, Forget, Gone, Keep, Leave, Link, Mark, Name, On, Open, Part, RefuseWill, Release, Resume, Send, SetExpiry, Subscribe, Unsubscribe, Whose, after, after_all, new_entry, part_rows, part_rows_of, rows_of_all, stored_after}
use Rattle.mqtt_rules.specs.step.Laws.{AreWithin}
use Rattle.mqtt_rules.specs.step.State.{Broker, Env, session_at}
use Rattle.mqtt_rules.specs.step.Step.{Call, at_moment, deeds, deeds_of, env_of, opening, unopened, with_moment}
use Rattle.mqtt_rules.proofs.step_lemmas.acts.Acts.{Law, leads_call, leads_opening}
use Rattle.mqtt_rules.proofs.step_lemmas.acts.ByDeeds.{by_deeds, by_deeds_shuts, turn_law}
use Rattle.mqtt_rules.proofs.step_lemmas.acts.Goods.{AreGood}
use Rattle.mqtt_rules.proofs.step_lemmas.fit.Coherent.{IsFit, IsFitPart}
use Rattle.mqtt_rules.proofs.step_lemmas.fit.FitLaw.{Keeps, fit_law, fit_mark, naming}
use Rattle.mqtt_rules.proofs.step_lemmas.fit.RowsFit.{made_of, moment_last, naming_call}
use Rattle.mqtt_rules.proofs.step_lemmas.fit.StandLaw.{stands_call, stands_opening}
use Rattle.mqtt_rules.proofs.step_lemmas.flight.FlightRows.{all_at, all_changed, all_changed_at, all_put, all_removed, found_key}
use Rattle.mqtt_rules.proofs.step_lemmas.numbers.Copies.{each_append, each_filter}
use Rattle.mqtt_world_model.proofs.model_lemmas.others.Far.{at_births}
use Rattle.mqtt_world_model.specs.model.Run.{End, Turn, deeds_over, ended_in, run}
use Rattle.mqtt_world_model.specs.model.World.{World}
use Rattle.mqtt_world_laws.specs.acceptance.Fair.{IsSteady}
use Rattle.mqtt_world_laws.specs.acceptance.Spending.{run_spends}
use Rattle.mqtt_world_laws.proofs.acceptance_lemmas.copies.Walks.{Walk, run_goes}
use Rattle.mqtt_world_laws.specs.causes.Causes.{HasCause}
use Rattle.mqtt_world_laws.specs.causes.Endings.{Asked, EndAt, end_at, end_of, ends_of}
use Rattle.mqtt_world_laws.proofs.causes_lemmas.Caused.{all_caused, ends_counted}
use Rattle.mqtt_world_laws.proofs.causes_lemmas.EachCall.{call_caused, opening_caused}

-- ---- the deeds of a call and of an opening fit

call_fits : (env : Env) (call : Call) (b : Broker) → AreWithin env.limits → Keeps b → AreGood IsFit (deeds_of env call b) b
call_fits env call b within k =
    let law : Law env naming Keeps IsFit = by_deeds env naming Keeps IsFit (fit_law env within) (turn_law env naming Keeps IsFit (fit_law env within) fit_mark) in
    (leads_call env naming Keeps IsFit law call b k (naming_call call b)).0

opening_fits : (env : Env) (b : Broker) → AreWithin env.limits → Keeps b → AreGood IsFit (opening env b) b
opening_fits env b within k =
    let law : Law env naming Keeps IsFit = by_deeds env naming Keeps IsFit (fit_law env within) (turn_law env naming Keeps IsFit (fit_law env within) fit_mark) in
    (leads_opening env naming Keeps IsFit law (by_deeds_shuts env naming Keeps IsFit (fit_law env within) (λ birth. tt)) (λ birth. tt) b k).0

opening_at : (r : Records) (now : ℕ) → (unopened now r).now ≤ LAST_NUMBER
opening_at r now = max-le (min-le_right r.moment LAST_NUMBER) (min-le_right now LAST_NUMBER)

module _ (c : CopyId) (name : List ℕ) where
  -- ---- whose the sessions are

  -- a row of the copy stands in the session of its birth
  abbrev pub IsIn : ℕ → CopyRow → Type 0
  IsIn birth e = e.copy.id ≡ c → birth ≡ c.birth

  -- the session of the copy's birth has this name, and the copy stands in no other
  pub record IsNamed (s : Session) : Type 0 where
    pub named : s.birth ≡ c.birth → s.client ≡ name
    pub copies : AllByRecursion (IsIn s.birth) s.queue

  -- so each
  abbrev pub AreNamed : List Session → Type 0
  AreNamed ss = AllByRecursion IsNamed ss

  abbrev IsFitting : ℕ → Part → Type 0
  IsFitting birth (Enter copy) = copy.id.birth ≡ birth
  IsFitting birth part = ⊤

  -- ---- a deed that fits leaves that so

  part_named : (part : Part) (s : Session) (r : Records) → session_at s.birth r ≡ Some s → IsNamed s → IsFitting s.birth part → AreNamed r.sessions → AreNamed (changed_all (part_rows part s) r).sessions
  part_named (Resume expiry None) s r there p q h = all_changed birth_of IsNamed s.birth (with_will None) _ (λ y n. record { named = n.named; copies = n.copies }) (all_changed_at birth_of IsNamed s.birth (with_columns (record (columns_of s) { expiry = expiry; closed = None })) s r.sessions there (record { named = p.named; copies = p.copies }) h)
  part_named (Resume expiry (Some w)) s r there p q h = all_changed birth_of IsNamed s.birth (with_will (Some w)) _ (λ y n. record { named = n.named; copies = n.copies }) (all_changed_at birth_of IsNamed s.birth (with_columns (record (columns_of s) { expiry = expiry; closed = None })) s r.sessions there (record { named = p.named; copies = p.copies }) h)
  part_named (Close moment) s r there p q h = all_changed_at birth_of IsNamed s.birth (with_columns (record (columns_of s) { closed = Some moment })) s r.sessions there (record { named = p.named; copies = p.copies }) h
  part_named (SetExpiry expiry) s r there p q h = all_changed_at birth_of IsNamed s.birth (with_columns (record (columns_of s) { expiry = expiry })) s r.sessions there (record { named = p.named; copies = p.copies }) h
  part_named DropWill s r there p q h = all_changed birth_of IsNamed s.birth (with_will None) r.sessions (λ y n. record { named = n.named; copies = n.copies }) h
  part_named (Subscribe x) s r there p q h = all_changed birth_of IsNamed s.birth (with_subscription x) r.sessions (λ y n. record { named = n.named; copies = n.copies }) h
  part_named (Unsubscribe text) s r there p q h = all_changed birth_of IsNamed s.birth (without_subscription text) r.sessions (λ y n. record { named = n.named; copies = n.copies }) h
  part_named (Open id) s r there p q h = all_changed birth_of IsNamed s.birth (with_open id) r.sessions (λ y n. record { named = n.named; copies = n.copies }) h
  part_named (Release id) s r there p q h = all_changed birth_of IsNamed s.birth (without_open id) r.sessions (λ y n. record { named = n.named; copies = n.copies }) h
  part_named (Enter copy) s r there p q h =
      let its : IsIn s.birth (new_entry copy s.queue) = λ is. sym q ∙ ap (λ (d : CopyId). d.birth) is in
      all_changed_at birth_of IsNamed s.birth (with_copy (new_entry copy s.queue)) s r.sessions there
      (record { named = p.named; copies = all_put copy_place (IsIn s.birth) QUEUE_LIMIT (new_entry copy s.queue) s.queue its p.copies }) h
  part_named (Mark place phase) s r there p q h =
      all_changed_at birth_of IsNamed s.birth (with_phase place phase) s r.sessions there
      (record { named = p.named; copies = all_changed copy_place (IsIn s.birth) place (in_phase phase) s.queue (λ e n. n) p.copies }) h
  part_named (Leave e ending) s r there p q h =
      all_changed_at birth_of IsNamed s.birth (without_copy e.place) s r.sessions there
      (record { named = p.named; copies = all_removed copy_place (IsIn s.birth) e.place s.queue p.copies }) h

  fitting_at : (part : Part) (k birth : ℕ) (r : Records) → IsFitPart k part r → birth ≡ k → IsFitting birth part
  fitting_at (Enter copy) k birth r fit e = fit.its_birth ∙ sym e
  fitting_at part k birth r fit e = tt

  at_named : (part : Part) (k : ℕ) (o : Option Session) (r : Records) → session_at k r ≡ o → ((s : Session) → s.birth ≡ k → IsFitting s.birth part) → AreNamed r.sessions → AreNamed (changed_all (part_rows_of part o) r).sessions
  at_named part k None r there q h = h
  at_named part k (Some s) r there q h =
      let key : s.birth ≡ k = found_key birth_of k s r.sessions there in
      part_named part s r (ap (λ (j : ℕ). session_at j r) key ∙ there) (all_at birth_of IsNamed k s r.sessions h there) (q s key) h

  -- a session begins with another birth
  other_birth : (row : Columns) (n : ℕ) → row.birth ≡ suc n → c.birth ≤ n → row.birth ≡ c.birth → ⊥
  other_birth row n next given is = absurd (omega (arith, next, given, is))

  row_named : (row : Columns) (ss : List Session) → (row.birth ≡ c.birth → ⊥) → AreNamed ss → AreNamed (change_row birth_of row.birth (with_columns row) ss)
  row_named row [] other h = tt
  row_named row (s ∷ ss) other h = elim (cases_Bool (nat_eq s.birth row.birth)) [
    | inl here ↦
        let key : s.birth ≡ row.birth = eqb-true s.birth row.birth here in
        let first = h.0 in
        rw here (record { named = λ is. absurd (other (sym key ∙ is)); copies = first.copies }, h.1)
    | inr further ↦ rw further (h.0, row_named row ss other h.1)
  ]

  put_named : (row : Columns) (ss : List Session) → (row.birth ≡ c.birth → ⊥) → AreNamed ss → AreNamed (put_session row ss)
  put_named row ss other h = by (has_row birth_of row.birth ss)
    where
      by : (t : Bool) → AreNamed (cond t (change_row birth_of row.birth (with_columns row) ss) (put_row birth_of SESSION_LIMIT (fresh row) ss))
      by true = row_named row ss other h
      by false = all_put birth_of IsNamed SESSION_LIMIT (fresh row) ss (record { named = λ is. absurd (other is); copies = tt }) h

  begun_named : (row : Columns) (will : Option Will) (r : Records) → (row.birth ≡ c.birth → ⊥) → AreNamed r.sessions → AreNamed (stored_after (Begin row will) r).sessions
  begun_named row None r other h = put_named row r.sessions other h
  begun_named row (Some w) r other h = all_changed birth_of IsNamed row.birth (with_will (Some w)) _ (λ y n. record { named = n.named; copies = n.copies }) (put_named row r.sessions other h)

  deed_named : (d : Deed) (b : Broker) → IsFit d b → c.birth ≤ b.records.births → AreNamed b.records.sessions → AreNamed (after d b).records.sessions
  deed_named (At who part) b fit given h = at_named part who.birth (session_at who.birth b.records) b.records refl (λ s e. fitting_at part who.birth s.birth b.records fit e) h
  deed_named (Begin row will) b fit given h = begun_named row will b.records (other_birth row b.records.births fit.next given) h
  deed_named (Finish who) b fit given h = each_filter IsNamed (λ (s : Session). not (nat_eq (birth_of s) who.birth)) b.records.sessions h
  deed_named (Accept number origin m) b fit given h = h
  deed_named (Name k) b fit given h = h
  deed_named (Count k) b fit given h = h
  deed_named (Keep kept) b fit given h = h
  deed_named (Forget place) b fit given h = h
  deed_named (RefuseWill who) b fit given h = h
  deed_named (Link k) b fit given h = h
  deed_named (On k part) b fit given h = h
  deed_named (Send k packet) b fit given h = h
  deed_named (Gone k) b fit given h = h

  -- and births don't fall
  begun_given : (row : Columns) (will : Option Will) (r : Records) → row.birth ≡ suc r.births → c.birth ≤ r.births → c.birth ≤ (stored_after (Begin row will) r).births
  begun_given row None r next given = omega (arith, next, given)
  begun_given row (Some w) r next given = omega (arith, next, given)

  deed_given : (d : Deed) (b : Broker) → IsFit d b → c.birth ≤ b.records.births → c.birth ≤ (after d b).records.births
  deed_given (At who part) b fit given = let same = at_births part (session_at who.birth b.records) b.records in omega (arith, same, given)
  deed_given (Begin row will) b fit given = begun_given row will b.records fit.next given
  deed_given (Finish who) b fit given = given
  deed_given (Accept number origin m) b fit given = given
  deed_given (Name k) b fit given = given
  deed_given (Count k) b fit given = given
  deed_given (Keep kept) b fit given = given
  deed_given (Forget place) b fit given = given
  deed_given (RefuseWill who) b fit given = given
  deed_given (Link k) b fit given = given
  deed_given (On k part) b fit given = given
  deed_given (Send k packet) b fit given = given
  deed_given (Gone k) b fit given = given

  -- ---- the ends of deeds

  abbrev IsHisEnd : EndAt → Type 0
  IsHisEnd x = HasCause x → x.row.copy.id ≡ c → x.who.client ≡ name

  of_session : (x : EndAt) → AreNamed x.broker.records.sessions → IsHisEnd x
  of_session x h cause its =
      let p = all_at birth_of IsNamed x.who.birth cause.session x.broker.records.sessions h cause.found in
      let birth = all_at copy_place (IsIn cause.session.birth) x.row.place x.row cause.session.queue p.copies cause.stands its in
      ap (λ (w : Whose). w.client) (sym cause.its) ∙ p.named birth

  his_end : (m : Asked) (b : Broker) (behind : List Deed) (d : Deed) (xs : List EndAt) → AreNamed b.records.sessions → AllByRecursion IsHisEnd xs → AllByRecursion IsHisEnd (cons_option (end_at m b behind d) xs)
  his_end m b behind (At who (Leave e ending)) xs h more = (of_session (record { asked = m; broker = b; who = who; row = e; ending = ending; behind = behind }) h, more)
  his_end m b behind d xs h more = more

  -- by deeds that fit all stays so, and the ends are his
  pub record Stay (m : Asked) (ds : List Deed) (b : Broker) : Type 0 where
    pub given : c.birth ≤ (after_all ds b).records.births
    pub named : AreNamed (after_all ds b).records.sessions
    pub ends : AllByRecursion IsHisEnd (ends_of m ds b)

  stay : (m : Asked) (ds : List Deed) (b : Broker) → AreGood IsFit ds b → c.birth ≤ b.records.births → AreNamed b.records.sessions → Stay m ds b
  stay m [] b fit given h = record { given = given; named = h; ends = tt }
  stay m (d ∷ ds) b fit given h =
      let rest = stay m ds (after d b) fit.1 (deed_given d b fit.0 given) (deed_named d b fit.0 given h) in
      record { given = rest.given; named = rest.named; ends = his_end m b ds d (ends_of m ds (after d b)) h rest.ends }

  -- ---- a run

  -- an end of the copy is of the session of this name
  abbrev pub IsHis : End → Type 0
  IsHis x = x.copy ≡ c → x.client ≡ name

  -- after these deeds all is so, and the ends in them are his
  pub record Leaves (ds : List Deed) (d : Broker) : Type 0 where
    pub given : c.birth ≤ d.records.births
    pub named : AreNamed d.records.sessions
    pub ends : AllByRecursion IsHis (filter_map ended_in ds)

  abbrev Names : List Deed → Broker → Broker → Type 0
  Names ds b d = c.birth ≤ b.records.births → AreNamed b.records.sessions → Leaves ds d

  counted_ends : (xs : List EndAt) → AllByRecursion HasCause xs → AllByRecursion IsHisEnd xs → AllByRecursion IsHis (map end_of xs)
  counted_ends [] p q = tt
  counted_ends (x ∷ xs) p q = ((λ its. q.0 p.0 its), counted_ends xs p.1 q.1)

  -- the row of the moment is of no session
  stamped_leaves : (rows : List Change) (ds : List Deed) (b : Broker) → Leaves ds b → Leaves ds (with_moment rows b)
  stamped_leaves [] ds b h = h
  stamped_leaves (x ∷ rows) ds b h = record { given = h.given; named = h.named; ends = h.ends }

  step_leaves : (m : Asked) (ds : List Deed) (b : Broker) → AreGood IsFit ds b → AllByRecursion HasCause (ends_of m ds b) → c.birth ≤ b.records.births → AreNamed b.records.sessions → Leaves ds (with_moment (rows_of_all ds b.records) (after_all ds b))
  step_leaves m ds b fit causes given h =
      let s = stay m ds b fit given h in
      stamped_leaves (rows_of_all ds b.records) ds (after_all ds b) (record {
        given = s.given;
        named = s.named;
        ends = subst (AllByRecursion IsHis) (ends_counted m ds b) (counted_ends (ends_of m ds b) causes s.ends);
      })

  names : (limits : Capacity) → AreWithin limits → Walk limits Names
  names limits within = record {
    none = λ b given h. record { given = given; named = h; ends = tt };
    next = λ xs ys a b d p q given h.
        let first = p given h in
        let rest = q first.given first.named in
        record {
          given = rest.given;
          named = rest.named;
          ends = subst (AllByRecursion IsHis) (sym (filter_map-append ended_in xs ys)) (each_append IsHis (filter_map ended_in xs) (filter_map ended_in ys) first.ends rest.ends);
        };
    unlink = λ n b d p given h. let x = p given h in record { given = x.given; named = x.named; ends = x.ends };
    link = λ n b d p given h. let x = p given h in record { given = x.given; named = x.named; ends = x.ends };
    call = λ choice now call b s unspent given h.
        let env = env_of limits choice b in
        let a = at_moment now b in
        let ds = deeds limits choice now call b in
        let m : Asked = record { call = Some call; step = record { env = env; deeds = ds; broker = a } } in
        step_leaves m ds a (call_fits env call a within (made_of a.records s.coherent, moment_last b now s.moment))
        (all_caused m ds a (call_caused m call refl s.coherent.ordered) (stands_call env call a s.coherent.ordered)) given h;
    open_again = λ choice now b s unspent given h.
        let a = unopened now b.records in
        let env = env_of limits choice a in
        let ds = opening env a in
        let m : Asked = record { call = None; step = record { env = env; deeds = ds; broker = a } } in
        step_leaves m ds a (opening_fits env a within (made_of a.records s.coherent, opening_at b.records now))
        (all_caused m ds a (opening_caused m a s.coherent.ordered) (stands_opening env a s.coherent.ordered)) given h;
  }

  -- in a run that spends no number each end of the copy is his
  pub run_leaves : (limits : Capacity) (ts : List Turn) (w : World) → AreWithin limits → IsSteady w.broker → run_spends limits ts w ≡ false → c.birth ≤ w.broker.records.births → AreNamed w.broker.records.sessions
      → Leaves (deeds_over limits ts w) (run limits ts w).broker
  run_leaves limits ts w within s unspent given h = (run_goes Names limits (names limits within) ts w within s unspent).said given h
