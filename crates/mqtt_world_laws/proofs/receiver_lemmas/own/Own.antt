-- Deeds of a receiver's own calls: its session and its lines stay its own.
use Rattle.std.proofs.Common.{◌≡◌, ℕ, ◌≤◌, true, List, [], ◌∷◌, Option, Some, None, nat_eq, refl, sym, ap, subst, ◌∙◌, arith, inl, inr}
use Rattle.std.specs.Prelude.{⊤}
use Rattle.std.specs.List.{AllByRecursion}
use Rattle.std.proofs.lemmas.Bool.{cases_Bool, eqb-true}
use Rattle.mqtt_base.specs.declared.session.CopyId.{CopyId}
use Rattle.mqtt_flow.specs.declared.outbound.entry.Turn.{Turn}
use Rattle.mqtt_flow.specs.declared.outbound.entry.Turn.TheVariants as turns
use Rattle.mqtt_world_model.specs.model.Ends.{Receiver}
use Rattle.mqtt_world_model.specs.model.Hops.{About, IsOurs}
use Rattle.mqtt_world_model.specs.model.Lines.{is_one_of}
use Rattle.mqtt_world_model.proofs.model_lemmas.others.Far.{all_keyed, at_births}
use Rattle.mqtt_records.specs.messages.Queue.{CopyRow}
use Rattle.mqtt_records.specs.declared.messages.message.Will.{Will}
use Rattle.mqtt_records.specs.state.Records.{changed, changed_all}
use Rattle.mqtt_records.specs.state.Session.{birth_of, columns_of, copy_place, with_columns}
use Rattle.mqtt_records.specs.declared.state.records.Records.{Records}
use Rattle.mqtt_records.specs.declared.state.session.Columns.{Columns}
use Rattle.mqtt_records.specs.declared.state.change.Change.TheVariants.{SetSession}
use Rattle.mqtt_records.specs.declared.state.session.Session.{Session}
use Rattle.mqtt_records.specs.lists.Order.{row_at}
use Rattle.mqtt_rules.proofs.step_lemmas.numbers.Copies.{each_append}
use Rattle.mqtt_rules.proofs.step_lemmas.flight.FlightRows.{all_at, all_removed}
use Rattle.mqtt_rules.specs.step.Closing.{never}
use Rattle.mqtt_rules.specs.step.Deeds.{At, Begin, Close, Deed, DropWill, Enter, Finish, Gone, Greet, Hear, Leave, LinePart, Link, Mark, On, Open, Part, Release, Resume, SetAlias, SetExpiry, Subscribe, Unsubscribe, Went, after, after_all, line_after, lines_after, on_line, part_rows, part_rows_of, rows_of_all, stored_after, will_row}
use Rattle.mqtt_rules.specs.step.Outbound.{all_turn_deeds, of_entry, turn_deeds}
use Rattle.mqtt_rules.specs.step.State.{Line as BrokerLine, Broker, MemberChoice, session_at}
use Rattle.mqtt_rules.specs.step.Step.{Call, at_moment, deeds, stepped}
use Rattle.mqtt_rules.specs.declared.step.Capacity.{Capacity}
use Rattle.mqtt_world_laws.specs.receiver.Entering.{IsReceiving, Receives}
use Rattle.mqtt_world_laws.specs.receiver.Handing.{RunsOn}
use Rattle.mqtt_world_laws.specs.receiver.Own.{RunsAlone}
use Rattle.mqtt_world_laws.specs.receiver.Seen.{Numbering}
use Rattle.mqtt_world_laws.specs.receiver.Served.{IsOwnLine, IsServed, RunsFor, RunsWithAll}
use Rattle.mqtt_world_laws.specs.receiver.Tags.{AreNumbered}
use Rattle.mqtt_world_laws.proofs.receiver_lemmas.others.CallsOfOthers.{moment_served}
use Rattle.mqtt_world_laws.proofs.receiver_lemmas.others.Serving.{at_own, gone_own}

-- ---- deeds that leave a session without Will and without end, and lines to those whose they are

-- of any session
abbrev pub IsSafePart : Part → Type 0
IsSafePart (Resume expiry will) = (expiry ≡ never) × (will ≡ None)
IsSafePart (SetExpiry expiry) = ⊥
IsSafePart part = ⊤

module _ (client : List ℕ) (birth : ℕ) (ns : List ℕ) where
  -- only the receiver's session is connected, on a line of its own
  abbrev pub IsSafeOn : ℕ → LinePart → Type 0
  IsSafeOn m (Greet k keep_alive window largest most) = (k ≡ birth) × (is_one_of (Some m) ns ≡ true)
  IsSafeOn m part = ⊤

  abbrev pub IsSafe : Deed → Type 0
  IsSafe (Begin row will) = ⊥
  IsSafe (At who part) = IsSafePart part
  IsSafe (Link m) = ⊥
  IsSafe (On m part) = IsSafeOn m part
  IsSafe d = ⊤

  abbrev pub AreSafe : List Deed → Type 0
  AreSafe ds = AllByRecursion IsSafe ds

  -- ---- sessions

  abbrev Ours : Records → Type 0
  Ours r = AllByRecursion (IsOurs client birth) r.sessions

  -- a session with the columns of one of its birth
  columns_ours : (s x : Session) (expiry : ℕ) → x.birth ≡ s.birth → (s.birth ≡ birth → expiry ≡ never) → IsOurs client birth s → IsOurs client birth x → About client birth s.client x.birth expiry x.will
  columns_ours s x expiry e ends p y = record { named = λ is. e ∙ p.named is; name = λ is. p.name (sym e ∙ is); no_will = y.no_will; no_end = λ is. ends (sym e ∙ is) }

  safe_will : (k : ℕ) (will : Option Will) (r : Records) → will ≡ None → Ours r → Ours (changed (will_row k will) r)
  safe_will k None r e h = all_keyed client birth k _ r.sessions (λ x is p. record { named = p.named; name = p.name; no_will = λ same. refl; no_end = p.no_end }) h
  safe_will k (Some w) r e h = absurd cc

  safe_part : (part : Part) (s : Session) (r : Records) → IsSafePart part → IsOurs client birth s → Ours r → Ours (changed_all (part_rows part s) r)
  safe_part (Resume expiry will) s r q p h =
      let row : Columns = record (columns_of s) { expiry = expiry; closed = None } in
      safe_will s.birth will (changed (SetSession row) r) q.1
      (all_keyed client birth s.birth (with_columns row) r.sessions (λ x e y. columns_ours s x expiry e (λ is. q.0) p y) h)
  safe_part (Close moment) s r q p h =
      let row : Columns = record (columns_of s) { closed = Some moment } in
      all_keyed client birth s.birth (with_columns row) r.sessions (λ x e y. columns_ours s x s.expiry e p.no_end p y) h
  safe_part (SetExpiry expiry) s r q p h = absurd q
  safe_part DropWill s r q p h = safe_will s.birth None r refl h
  safe_part (Subscribe sub) s r q p h = all_keyed client birth s.birth _ r.sessions (λ x e y. y) h
  safe_part (Unsubscribe text) s r q p h = all_keyed client birth s.birth _ r.sessions (λ x e y. y) h
  safe_part (Open id) s r q p h = all_keyed client birth s.birth _ r.sessions (λ x e y. y) h
  safe_part (Release id) s r q p h = all_keyed client birth s.birth _ r.sessions (λ x e y. y) h
  safe_part (Enter copy) s r q p h = all_keyed client birth s.birth _ r.sessions (λ x e y. y) h
  safe_part (Mark place phase) s r q p h = all_keyed client birth s.birth _ r.sessions (λ x e y. y) h
  safe_part (Leave f ending) s r q p h = all_keyed client birth s.birth _ r.sessions (λ x e y. y) h

  safe_at : (k : ℕ) (part : Part) (r : Records) (o : Option Session) → session_at k r ≡ o → IsSafePart part → Ours r → Ours (changed_all (part_rows_of part o) r)
  safe_at k part r None e q h = h
  safe_at k part r (Some s) e q h = safe_part part s r q (all_at birth_of (IsOurs client birth) k s r.sessions h e) h

  safe_ours : (d : Deed) (r : Records) → IsSafe d → Ours r → Ours (stored_after d r)
  safe_ours (Begin row will) r q h = absurd q
  safe_ours (At who part) r q h = safe_at who.birth part r (session_at who.birth r) refl q h
  safe_ours (Finish who) r q h = all_removed birth_of (IsOurs client birth) who.birth r.sessions h
  safe_ours d r q h = h

  safe_births : (d : Deed) (r : Records) → IsSafe d → birth ≤ r.births → birth ≤ (stored_after d r).births
  safe_births (Begin row will) r q h = absurd q
  safe_births (At who part) r q h = let e = at_births part (session_at who.birth r) r in omega (arith, e, h)
  safe_births d r q h = h

  -- ---- lines

  abbrev OwnLines : List BrokerLine → Type 0
  OwnLines ls = AllByRecursion (IsOwnLine ns birth) ls

  safe_on : (now m : ℕ) (part : LinePart) (l : BrokerLine) → l.number ≡ m → IsSafeOn m part → IsOwnLine ns birth l → IsOwnLine ns birth (line_after now part l)
  safe_on now m Hear l is q h = h
  safe_on now m (Greet k keep_alive window largest most) l is q h = record {
    alone = λ e. ap (λ (j : ℕ). is_one_of (Some j) ns) is ∙ q.1;
    theirs = λ inside other e. let same : k ≡ other = cc in sym same ∙ q.0;
  }
  safe_on now m (SetAlias alias topic) l is q h = h
  safe_on now m (Went place) l is q h = h

  safe_ons : (now m : ℕ) (part : LinePart) (ls : List BrokerLine) → IsSafeOn m part → OwnLines ls → OwnLines (on_line now m part ls)
  safe_ons now m part [] q h = tt
  safe_ons now m part (l ∷ ls) q h = elim (cases_Bool (nat_eq l.number m)) [
    | inl here ↦ rw here (safe_on now m part l (eqb-true l.number m here) q h.0, h.1)
    | inr further ↦ rw further (h.0, safe_ons now m part ls q h.1)
  ]

  safe_lines : (now : ℕ) (d : Deed) (ls : List BrokerLine) → IsSafe d → OwnLines ls → OwnLines (lines_after now d ls)
  safe_lines now (Link m) ls q h = absurd q
  safe_lines now (On m part) ls q h = safe_ons now m part ls q h
  safe_lines now (Gone m) ls q h = gone_own client birth ns m ls h
  safe_lines now (At who part) ls q h = at_own client birth ns who.birth part ls h
  safe_lines now d ls q h = h

  -- ---- together

  safe_given : (d : Deed) (b : Broker) → IsSafe d → IsServed client birth ns b → (n : ℕ) → is_one_of (Some n) ns ≡ true → n ≤ (after d b).given
  safe_given (Link m) b q h = absurd q
  safe_given d b q h = h.given

  safe_deed : (d : Deed) (b : Broker) → IsSafe d → IsServed client birth ns b → IsServed client birth ns (after d b)
  safe_deed d b q h = record {
    sessions = safe_ours d b.records q h.sessions;
    lines = safe_lines b.now d b.lines q h.lines;
    births = safe_births d b.records q h.births;
    given = safe_given d b q h;
  }

  -- deeds of its own calls leave session and lines the receiver's own
  pub safe_served : (ds : List Deed) (b : Broker) → AreSafe ds → IsServed client birth ns b → IsServed client birth ns (after_all ds b)
  safe_served [] b q h = h
  safe_served (d ∷ ds) b q h = safe_served ds (after d b) q.1 (safe_deed d b q.0 h)

  -- a call of such deeds leaves session and lines the receiver's own
  pub call_served : (limits : Capacity) (choice : MemberChoice) (now : ℕ) (call : Call) (b : Broker) → AreSafe (deeds limits choice now call b) → IsServed client birth ns b
      → IsServed client birth ns (stepped limits choice now call b)
  call_served limits choice now call b q v =
      let first = at_moment now b in
      let ds = deeds limits choice now call b in
      let served : IsServed client birth ns first = record { sessions = v.sessions; lines = v.lines; births = v.births; given = v.given } in
      moment_served client birth ns (rows_of_all ds first.records) (after_all ds first) (safe_served ds first q served)

  -- ---- turns of a session

  safe_entry : (o : Option CopyRow) (f : CopyRow → List Deed) → ((e : CopyRow) → AreSafe (f e)) → AreSafe (of_entry o f)
  safe_entry None f h = tt
  safe_entry (Some e) f h = h e

  -- a turn of a queue is such a deed
  pub safe_turn : (now line : ℕ) (s : Session) (t : Turn) → AreSafe (turn_deeds now line s t)
  safe_turn now line s (turns.Send place id) = safe_entry (row_at copy_place place s.queue) _ (λ e. (tt, (tt, (tt, tt))))
  safe_turn now line s (turns.Resend place id) = safe_entry (row_at copy_place place s.queue) _ (λ e. (tt, (tt, tt)))
  safe_turn now line s (turns.Release place id order) = (tt, (tt, tt))
  safe_turn now line s (turns.Outgrow place id order) = (tt, (tt, tt))
  safe_turn now line s (turns.Repeat id) = (tt, tt)
  safe_turn now line s (turns.Unknown id) = (tt, tt)
  safe_turn now line s (turns.Leave place ending) = safe_entry (row_at copy_place place s.queue) _ (λ e. (tt, tt))

  -- turns of a queue are such deeds
  pub safe_turns : (now line : ℕ) (s : Session) (ts : List Turn) → AreSafe (all_turn_deeds now line s ts)
  safe_turns now line s [] = tt
  safe_turns now line s (t ∷ ts) = each_append IsSafe (turn_deeds now line s t) (all_turn_deeds now line s ts) (safe_turn now line s t) (safe_turns now line s ts)

-- ---- what it sees, for each numbering of the copies

-- the session that may receive more is the one of its birth
pub birth_is : (birth : ℕ) (ns : List ℕ) (r : Receiver) (t : Session) (b : Broker) → IsServed r.client birth ns b → IsReceiving r t b → t.birth ≡ birth
birth_is birth ns r t b v x = (all_at birth_of (IsOurs r.client birth) t.birth t b.records.sessions v.sessions x.session).named x.client

-- what is found twice in one look is the same
pub some_is : (x y : Session) → Some x ≡ Some y → x ≡ y
some_is x y e = cc

-- and any of its name is it
pub session_is : (largest birth : ℕ) (ids : List CopyId) (ns : List ℕ) (number : Numbering) (r : Receiver) (s : Session) (b : Broker) → IsServed r.client birth ns b → session_at s.birth b.records ≡ Some s → s.client ≡ r.client
    → RunsWithAll number largest ids birth r b → IsReceiving r s b
session_is largest birth ids ns number r s b v at client h =
    let its : s.birth ≡ birth = (all_at birth_of (IsOurs r.client birth) s.birth s b.records.sessions v.sessions at).named client in
    let found : session_at h.session.birth b.records ≡ Some s = ap (λ (k : ℕ). session_at k b.records) (h.birth_is ∙ sym its) ∙ at in
    let same : h.session ≡ s = some_is h.session s (sym h.receiving.session ∙ found) in
    subst (λ (y : Session). IsReceiving r y b) same h.receiving

-- what runs for a session runs for who is served by it
pub runs_for : (largest : ℕ) (ids : List CopyId) (birth birth2 : ℕ) (ns : List ℕ) (r q : Receiver) (b c : Broker) → RunsFor largest ids birth r b → IsServed q.client birth2 ns c
    → ((number : Numbering) (h : RunsWithAll number largest ids birth r b) → RunsOn number largest h.after q c) → ((number : Numbering) (h : RunsWithAll number largest ids birth r b) → Receives q c)
    → RunsFor largest ids birth2 q c
runs_for largest ids birth birth2 ns r q b c f v runs receives number numbered =
    let h = f number numbered in
    let o = runs number h in
    let x = receives number h in
    record { after = o.after; same = o.same ∙ h.same; run_is = o.run_is; session = x.session; birth_is = birth_is birth2 ns q x.session c v x.receiving; receiving = x.receiving }

-- before its session begins
pub runs_first : (largest : ℕ) (ids : List CopyId) (birth : ℕ) (ns : List ℕ) (r q : Receiver) (b c : Broker) → ((number : Numbering) → AreNumbered number ids → RunsAlone number largest ids r b) → IsServed q.client birth ns c
    → ((number : Numbering) (h : RunsAlone number largest ids r b) → RunsOn number largest h.after q c) → ((number : Numbering) (h : RunsAlone number largest ids r b) → Receives q c)
    → RunsFor largest ids birth q c
runs_first largest ids birth ns r q b c f v runs receives number numbered =
    let h = f number numbered in
    let o = runs number h in
    let x = receives number h in
    record { after = o.after; same = o.same ∙ h.same; run_is = o.run_is; session = x.session; birth_is = birth_is birth ns q x.session c v x.receiving; receiving = x.receiving }
