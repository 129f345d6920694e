-- The broker reads a receiver's CONNECT, by which its session is resumed, begins or is renewed: the two are in step.
use Rattle.std.proofs.Common.{◌≡◌, ℕ, suc, ◌≤◌, Bool, true, false, cond, List, [], ◌∷◌, ◌++◌, length, map, Option, Some, None, nat_eq, nat_lt, refl, sym, ap, subst, ◌∙◌, arith}
use Rattle.std.specs.Prelude.{is_some}
use Rattle.std.specs.List.{AllByRecursion}
use Rattle.std.proofs.lemmas.Cmp.{nat_eq_equiv}
use Rattle.mqtt_base.specs.Codes.{success}
use Rattle.mqtt_base.specs.declared.limits.TheConstants.{SESSION_LIMIT}
use Rattle.mqtt_base.specs.declared.session.CopyId.{CopyId}
use Rattle.mqtt_base.specs.declared.session.Ending.TheVariants.{SessionEnded}
use Rattle.mqtt_flow.specs.outbound.Outbound.{resumed_with}
use Rattle.mqtt_flow.specs.outbound.Receiver.{connect}
use Rattle.mqtt_world_model.specs.model.Ends.{Back, Receiver, answers, wire_back}
use Rattle.mqtt_world_model.specs.model.Hops.{IsIts, IsKept, IsOurs, lines_left}
use Rattle.mqtt_world_model.specs.model.Lines.{is_one_of}
use Rattle.mqtt_world_model.proofs.model_lemmas.connects.CleanConnects.{ended_by}
use Rattle.mqtt_world_model.proofs.model_lemmas.connects.Connects.{heard_line_of, left_by, taken_birth, taken_from}
use Rattle.mqtt_world_model.proofs.model_lemmas.connects.FirstConnects.{only_none}
use Rattle.mqtt_world_model.proofs.model_lemmas.own.OwnStep.{heard_of}
use Rattle.mqtt_records.specs.messages.Queue.{CopyRow}
use Rattle.mqtt_records.specs.state.Records.{put_session}
use Rattle.mqtt_records.specs.state.Session.{birth_of, fresh}
use Rattle.mqtt_records.specs.declared.state.session.Columns.{Columns}
use Rattle.mqtt_records.specs.declared.state.session.Session.{Session}
use Rattle.mqtt_records.specs.lists.Order.{IsBelow, has_row, insert_row}
use Rattle.mqtt_rules.proofs.step_lemmas.numbers.Copies.{each_append}
use Rattle.mqtt_rules.proofs.step_lemmas.flight.FlightRows.{all_at, all_inserted}
use Rattle.mqtt_rules.proofs.step_lemmas.acts.Goods.{after_append}
use Rattle.mqtt_rules.proofs.step_lemmas.numbers.NumberBirths.{below_none}
use Rattle.mqtt_rules.specs.step.Closing.{end_session}
use Rattle.mqtt_rules.specs.step.Connect.{connack_properties}
use Rattle.mqtt_rules.specs.step.Deeds.{At, Begin, Deed, Finish, Greet, Hear, Leave, On, Send, after, after_all, line_after, on_line, rows_of_all, whose}
use Rattle.mqtt_rules.specs.step.Numbers.{HasGivenBirths}
use Rattle.mqtt_rules.specs.step.Packets as packets_of
use Rattle.mqtt_rules.specs.step.State.{Line as BrokerLine, Broker, MemberChoice, is_of, line_of, queue_on, session_named}
use Rattle.mqtt_rules.specs.step.Step.{Input, at_moment, deeds, env_of}
use Rattle.mqtt_rules.specs.declared.step.Capacity.{Capacity}
use Rattle.mqtt_world_laws.specs.receiver.Calls.{IsBeginning, IsOnlyAt, IsRenewing, IsResuming}
use Rattle.mqtt_world_laws.specs.receiver.Handing.{after_answer, reads_answer}
use Rattle.mqtt_world_laws.specs.receiver.Own.{IsAwaiting, IsFreeLine, IsInStep}
use Rattle.mqtt_world_laws.specs.receiver.Served.{IsOwnLine, IsServed}
use Rattle.mqtt_world_laws.proofs.receiver_lemmas.connects.Beginning.{Clears, first_begins, first_clears, first_receives}
use Rattle.mqtt_world_laws.proofs.receiver_lemmas.others.CallsOfOthers.{moment_served}
use Rattle.mqtt_world_laws.proofs.receiver_lemmas.own.Own.{AreSafe, IsSafe, call_served, runs_first, runs_for, safe_served, safe_turns}
use Rattle.mqtt_world_laws.proofs.receiver_lemmas.connects.Renewing.{off_place, renewal_receives, renewal_runs, renewed_clears}
use Rattle.mqtt_world_laws.proofs.receiver_lemmas.connects.Resuming.{IsOffIt, beginning, call_is, connect_is, connect_receives, connect_runs, granted, new_row, resuming, left_lines, none_has, only_heard}

-- ---- it is resumed

module _ (client : List ℕ) (birth : ℕ) (ns : List ℕ) where
  left_safe : (o : Option BrokerLine) (s : Session) (now : ℕ) → AreSafe client birth ns (left_by o s now)
  left_safe None s now = tt
  left_safe (Some l) s now = (tt, (tt, (tt, tt)))

  resume_safe : (l : BrokerLine) (window aliases now : ℕ) (x : Session) → x.birth ≡ birth → is_one_of (Some l.number) ns ≡ true → AreSafe client birth ns (resuming l window aliases now x)
  resume_safe l window aliases now x e inside = ((refl, refl), ((e, inside), (tt, safe_turns client birth ns now l.number x (resumed_with (queue_on [] x)))))

  -- a session that is resumed on a line of the receiver's own is the receiver's still
  pub resume_served : (limits : Capacity) (choice : MemberChoice) (now : ℕ) (r : Receiver) (l : BrokerLine) (s : Session) (b : Broker) → IsResuming r l s b → s.birth ≡ birth → is_one_of (Some l.number) ns ≡ true
      → IsServed client birth ns b → IsServed client birth ns (after_answer limits choice now l.number (connect false) r b)
  resume_served limits choice now r l s b a e inside v =
      let n = l.number in
      let c = heard_of now n b in
      let heard_line = heard_line_of s.birth n now b (line_of s.birth b) refl a.taken in
      let o = heard_line.0 in
      let x = taken_from o c.now s in
      let kept : IsKept r.client s c = record { session = a.kept.session; name = a.kept.name; only = a.kept.only; no_will = a.kept.no_will; no_end = a.kept.no_end; short = a.kept.short; plain = a.kept.plain } in
      let front = left_by o s c.now in
      let back = resuming l r.window r.aliases c.now x in
      let is : deeds limits choice now (Input n (wire_back r.client r.window r.aliases (answers (connect false)))) b ≡ On n Hear ∷ ((front ++ back) ++ []) =
      call_is limits choice now false r.client r.window r.aliases l b a.line a.waits
      ∙ ap (λ (ds : List Deed). On n Hear ∷ (ds ++ [])) (connect_is o (env_of limits choice b) l r.client r.window r.aliases s c heard_line.1 heard_line.2 kept) in
      let safe = each_append (IsSafe client birth ns) front back (left_safe o s c.now) (resume_safe l r.window r.aliases c.now x (taken_birth o c.now s ∙ e) inside) in
      call_served client birth ns limits choice now (Input n (wire_back r.client r.window r.aliases (answers (connect false)))) b
      (subst (AreSafe client birth ns) (sym is) (tt, each_append (IsSafe client birth ns) (front ++ back) [] safe tt)) v

-- a CONNECT to a session that stands leaves the receiver in step
pub resume_in_step : (largest : ℕ) (ids : List CopyId) (birth : ℕ) (ns : List ℕ) (limits : Capacity) (choice : MemberChoice) (now : ℕ) (rest : List Back) (r : Receiver) (l : BrokerLine) (s : Session) (b : Broker)
    → IsInStep largest ids birth ns r b → IsResuming r l s b → r.line.up ≡ answers (connect false) ∷ rest
    → IsInStep largest ids birth ns (reads_answer limits choice now l.number (connect false) r b) (after_answer limits choice now l.number (connect false) r b)
resume_in_step largest ids birth ns limits choice now rest r l s b k a up =
    let its : s.birth ≡ birth = (all_at birth_of (IsOurs r.client birth) s.birth s b.records.sessions k.served.sessions a.kept.session).named a.kept.name in
    let served = resume_served r.client birth ns limits choice now r l s b a its (k.lines.own l.number a.number) k.served in
    record {
      runs = runs_for largest ids birth birth ns r (reads_answer limits choice now l.number (connect false) r b) b (after_answer limits choice now l.number (connect false) r b) k.runs served
          (λ number h. connect_runs number largest h.after limits choice now rest r l s b h.run_is a up)
          (λ number h. connect_receives number largest h.after limits choice now rest r l s b h.run_is a up);
      served = served;
      lines = record { own = k.lines.own; old = k.lines.old };
    }

-- ---- one begins

-- no session has this birth yet, nor the client's name
fresh_ours : (client : List ℕ) (birth : ℕ) (ss : List Session) → AllByRecursion (IsIts client birth) ss → IsBelow birth_of birth ss → AllByRecursion (IsOurs client birth) ss
fresh_ours client birth [] h low = tt
fresh_ours client birth (x ∷ xs) h low =
    let less = low.0 in
    (record { named = h.0; name = λ e. absurd (omega (arith, e, less)); no_will = λ e. absurd (omega (arith, e, less)); no_end = λ e. absurd (omega (arith, e, less)) }, fresh_ours client birth xs h.1 low.1)

free_own : (birth : ℕ) (ns : List ℕ) (ls : List BrokerLine) → AllByRecursion (IsFreeLine ns) ls → AllByRecursion (IsOffIt birth) ls → AllByRecursion (IsOwnLine ns birth) ls
free_own birth ns [] free off = tt
free_own birth ns (l ∷ ls) free off = (
  record {
    alone = λ e. let clash : true ≡ false = sym (nat_eq_equiv.refl birth) ∙ (ap (λ (o : Option ℕ). is_of o birth) (sym e) ∙ off.0) in absurd cc;
    theirs = λ inside other e. let none : Some other ≡ None = sym e ∙ free.0 inside in absurd cc;
  },
  free_own birth ns ls free.1 off.1,
)

module _ (client : List ℕ) (ns : List ℕ) (clean : Bool) (window aliases : ℕ) (l : BrokerLine) (c : Broker) where
  abbrev new_birth : ℕ
  new_birth = suc c.records.births

  abbrev row : Columns
  row = new_row new_birth client

  abbrev begins : List Deed
  begins = beginning l window aliases client new_birth

  begun_ours : (ss : List Session) → has_row birth_of new_birth ss ≡ false → AllByRecursion (IsOurs client new_birth) ss → AllByRecursion (IsOurs client new_birth) (put_session row ss)
  begun_ours ss new h = rw new (put_new (nat_lt (length ss) SESSION_LIMIT))
    where
      put_new : (t : Bool) → AllByRecursion (IsOurs client new_birth) (cond t (insert_row birth_of (fresh row) ss) ss)
      put_new true = all_inserted birth_of (IsOurs client new_birth) (fresh row) ss (record { named = λ e. refl; name = λ e. refl; no_will = λ e. refl; no_end = λ e. refl }) h
      put_new false = h

  begun_served : session_named client c.records ≡ None → HasGivenBirths c.records → AllByRecursion (IsFreeLine ns) c.lines → AllByRecursion (IsOffIt new_birth) c.lines
      → ((n : ℕ) → is_one_of (Some n) ns ≡ true → n ≤ c.given) → is_one_of (Some l.number) ns ≡ true → IsServed client new_birth ns (after_all begins c)
  begun_served none births free off given inside =
      let new : has_row birth_of new_birth c.records.sessions ≡ false = ap is_some (below_none birth_of new_birth c.records.sessions births) in
      let others = fresh_ours client new_birth c.records.sessions (only_none client new_birth c.records.sessions none) births in
      let first : IsServed client new_birth ns (after (Begin row None) c) = record {
        sessions = begun_ours c.records.sessions new others;
        lines = free_own new_birth ns c.lines free off;
        births = omega arith;
        given = given;
      } in
      safe_served client new_birth ns (On l.number (Greet new_birth 0 window 0xffffffff (granted aliases)) ∷ Send l.number (packets_of.connack false success (connack_properties false client)) ∷ []) (after (Begin row None) c)
      ((refl, inside), (tt, tt)) first

-- a new, empty session is served
pub clears_served : (limits : Capacity) (choice : MemberChoice) (now : ℕ) (clean : Bool) (r : Receiver) (l : BrokerLine) (b : Broker) (front : List Deed) (closed ns : List ℕ) → Clears limits choice now clean r l b front closed
    → AllByRecursion (IsFreeLine ns) (after_all front (heard_of now l.number b)).lines → ((n : ℕ) → is_one_of (Some n) ns ≡ true → n ≤ (after_all front (heard_of now l.number b)).given)
    → is_one_of (Some l.number) ns ≡ true
    → IsServed r.client (suc (after_all front (heard_of now l.number b)).records.births) ns (after_answer limits choice now l.number (connect clean) r b)
clears_served limits choice now clean r l b front closed ns c free given inside =
    let n = l.number in
    let first = at_moment now b in
    let heard_first = heard_of now n b in
    let d = after_all front heard_first in
    let birth = suc d.records.births in
    let ds = deeds limits choice now (Input n (wire_back r.client r.window r.aliases (answers (connect clean)))) b in
    let back = beginning l r.window r.aliases r.client birth in
    let end : after_all ds first ≡ after_all back d = ap (λ (zs : List Deed). after_all zs first) c.deeds_are ∙ after_append front back heard_first in
    moment_served r.client birth ns (rows_of_all ds first.records) (after_all ds first)
    (subst (IsServed r.client birth ns) (sym end) (begun_served r.client ns clean r.window r.aliases l d c.none c.births free c.off given inside))

-- hearing a line keeps the others free
pub free_heard : (ns : List ℕ) (now n : ℕ) (ls : List BrokerLine) → AllByRecursion (IsFreeLine ns) ls → AllByRecursion (IsFreeLine ns) (on_line now n Hear ls)
free_heard ns now n [] h = tt
free_heard ns now n (l ∷ ls) h = by (nat_eq l.number n) (free_heard ns now n ls h.1)
  where
    by : (here : Bool) → AllByRecursion (IsFreeLine ns) (on_line now n Hear ls) → AllByRecursion (IsFreeLine ns) (cond here (line_after now Hear l ∷ ls) (l ∷ on_line now n Hear ls))
    by true g = (h.0, h.1)
    by false g = (h.0, g)

-- a first CONNECT leaves the receiver in step
pub first_in_step : (largest : ℕ) (ids : List CopyId) (ns : List ℕ) (limits : Capacity) (choice : MemberChoice) (now : ℕ) (clean : Bool) (rest : List Back) (r : Receiver) (l : BrokerLine) (b : Broker)
    → IsAwaiting largest ids ns r b → IsBeginning limits r l b → nat_lt (length b.records.sessions) limits.sessions ≡ true → r.line.up ≡ answers (connect clean) ∷ rest
    → IsInStep largest ids (suc b.records.births) ns (reads_answer limits choice now l.number (connect clean) r b) (after_answer limits choice now l.number (connect clean) r b)
first_in_step largest ids ns limits choice now clean rest r l b k a room up =
    let first = at_moment now b in
    let served = clears_served limits choice now clean r l b [] [] ns (first_clears limits choice now clean r l b a room) (free_heard ns first.now l.number b.lines k.free) k.given (k.lines.own l.number a.number) in
    record {
      runs = runs_first largest ids (suc b.records.births) ns r (reads_answer limits choice now l.number (connect clean) r b) b (after_answer limits choice now l.number (connect clean) r b) k.runs served
          (λ number h. first_begins number largest h.after limits choice now clean rest r l b h.run_is a room up)
          (λ number h. first_receives number largest h.after limits choice now clean rest r l b h.run_is a room up);
      served = served;
      lines = record { own = k.lines.own; old = k.lines.old };
    }

-- ---- it is renewed

leaves_safe : (client : List ℕ) (birth : ℕ) (ns : List ℕ) (s : Session) (es : List CopyRow) → AreSafe client birth ns (map (λ (e : CopyRow). At (whose s) (Leave e SessionEnded)) es)
leaves_safe client birth ns s [] = tt
leaves_safe client birth ns s (e ∷ es) = (tt, leaves_safe client birth ns s es)

end_safe : (client : List ℕ) (birth : ℕ) (ns : List ℕ) (s : Session) → AreSafe client birth ns (end_session s)
end_safe client birth ns s =
    let leaves = map (λ (e : CopyRow). At (whose s) (Leave e SessionEnded)) s.queue in
    each_append (IsSafe client birth ns) leaves (Finish (whose s) ∷ []) (leaves_safe client birth ns s s.queue) (tt, tt)

off_leaves : (k : ℕ) (s : Session) (es : List CopyRow) (b : Broker) → AllByRecursion (IsOffIt k) b.lines → AllByRecursion (IsOffIt k) (after_all (map (λ (e : CopyRow). At (whose s) (Leave e SessionEnded)) es) b).lines
off_leaves k s [] b h = h
off_leaves k s (e ∷ es) b h = off_leaves k s es (after (At (whose s) (Leave e SessionEnded)) b) (off_place k s.birth e.place b.lines h)

off_end : (k : ℕ) (s : Session) (b : Broker) → AllByRecursion (IsOffIt k) b.lines → AllByRecursion (IsOffIt k) (after_all (end_session s) b).lines
off_end k s b h =
    let leaves = map (λ (e : CopyRow). At (whose s) (Leave e SessionEnded)) s.queue in
    subst (λ (x : Broker). AllByRecursion (IsOffIt k) x.lines) (sym (after_append leaves (Finish (whose s) ∷ []) b)) (off_leaves k s s.queue b h)

-- what is its own and has no session is free
own_free : (birth : ℕ) (ns : List ℕ) (ls : List BrokerLine) → AllByRecursion (IsOwnLine ns birth) ls → AllByRecursion (IsOffIt birth) ls → AllByRecursion (IsFreeLine ns) ls
own_free birth ns [] own off = tt
own_free birth ns (l ∷ ls) own off = (λ inside. by l.session refl inside, own_free birth ns ls own.1 off.1)
  where
    by : (o : Option ℕ) → l.session ≡ o → is_one_of (Some l.number) ns ≡ true → o ≡ None
    by None e inside = refl
    by (Some k) e inside =
        let same : k ≡ birth = own.0.theirs inside k e in
        let clash : true ≡ false = sym (nat_eq_equiv.refl birth) ∙ (ap (λ (j : ℕ). nat_eq j birth) (sym same) ∙ (ap (λ (o : Option ℕ). is_of o birth) (sym e) ∙ off.0)) in
        absurd cc

-- a session that a Clean Start begins is served
pub renewal_served : (birth : ℕ) (ns : List ℕ) (limits : Capacity) (choice : MemberChoice) (now : ℕ) (r : Receiver) (l : BrokerLine) (s : Session) (b : Broker)
    → IsServed r.client birth ns b → is_one_of (Some l.number) ns ≡ true → IsRenewing limits r l s b
    → IsServed r.client (suc b.records.births) ns (after_answer limits choice now l.number (connect true) r b)
renewal_served birth ns limits choice now r l s b v inside a =
    let n = l.number in
    let c = heard_of now n b in
    let x = renewed_clears limits choice now r l s b a in
    let t = taken_from x.its c.now s in
    let front = ended_by x.its s c.now in
    let d = after_all front c in
    let left = after_all (left_by x.its s c.now) c in
    let its : s.birth ≡ birth = (all_at birth_of (IsOurs r.client birth) s.birth s b.records.sessions v.sessions a.resuming.kept.session).named a.resuming.kept.name in
    let first : IsServed r.client birth ns (at_moment now b) = record { sessions = v.sessions; lines = v.lines; births = v.births; given = v.given } in
    let safe : AreSafe r.client birth ns (On n Hear ∷ front) =
    (tt, each_append (IsSafe r.client birth ns) (left_by x.its s c.now) (end_session t) (left_safe r.client birth ns x.its s c.now) (end_safe r.client birth ns t)) in
    let ended : IsServed r.client birth ns d = safe_served r.client birth ns (On n Hear ∷ front) (at_moment now b) safe first in
    let alone : AllByRecursion (IsOnlyAt (lines_left x.its) s.birth) c.lines =
    subst (λ (zs : List ℕ). AllByRecursion (IsOnlyAt zs s.birth) c.lines) (sym x.same) (only_heard (lines_left (line_of s.birth b)) s.birth (at_moment now b).now n b.lines a.resuming.alone) in
    let off_left : AllByRecursion (IsOffIt s.birth) left.lines = subst (AllByRecursion (IsOffIt s.birth)) (sym (left_lines x.its s c)) (none_has x.its s.birth c.lines alone) in
    let off_last : AllByRecursion (IsOffIt s.birth) d.lines =
    subst (λ (z : Broker). AllByRecursion (IsOffIt s.birth) z.lines) (sym (after_append (left_by x.its s c.now) (end_session t) c)) (off_end s.birth t left off_left) in
    let free = own_free birth ns d.lines ended.lines (subst (λ (j : ℕ). AllByRecursion (IsOffIt j) d.lines) its off_last) in
    subst (λ (j : ℕ). IsServed r.client (suc j) ns (after_answer limits choice now n (connect true) r b)) x.births_are
    (clears_served limits choice now true r l b front (lines_left (line_of s.birth b)) ns x.clears free ended.given inside)

-- a CONNECT with Clean Start leaves the receiver in step
pub renewal_in_step : (largest : ℕ) (ids : List CopyId) (birth : ℕ) (ns : List ℕ) (limits : Capacity) (choice : MemberChoice) (now : ℕ) (rest : List Back) (r : Receiver) (l : BrokerLine) (s : Session) (b : Broker)
    → IsInStep largest ids birth ns r b → IsRenewing limits r l s b → r.line.up ≡ answers (connect true) ∷ rest
    → IsInStep largest ids (suc b.records.births) ns (reads_answer limits choice now l.number (connect true) r b) (after_answer limits choice now l.number (connect true) r b)
renewal_in_step largest ids birth ns limits choice now rest r l s b k a up =
    let n = l.number in
    let served = renewal_served birth ns limits choice now r l s b k.served (k.lines.own n a.resuming.number) a in
    record {
      runs = runs_for largest ids birth (suc b.records.births) ns r (reads_answer limits choice now n (connect true) r b) b (after_answer limits choice now n (connect true) r b) k.runs served
          (λ number h. renewal_runs number largest h.after limits choice now rest r l s b h.run_is a up)
          (λ number h. renewal_receives number largest h.after limits choice now rest r l s b h.run_is a up);
      served = served;
      lines = record { own = k.lines.own; old = k.lines.old };
    }
