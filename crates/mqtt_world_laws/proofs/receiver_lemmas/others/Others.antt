-- Deeds of others: a receiver's session, its line and what went out there stay as they are, so that nothing is seen of them.
use Rattle.std.proofs.Common.{◌≡◌, ℕ, Bool, true, false, cond, not, List, [], ◌∷◌, ◌++◌, filter, map, Option, Some, None, nat_eq, refl, sym, ap, subst, ◌∙◌, inl, inr}
use Rattle.std.specs.Prelude.{⊤, is_some}
use Rattle.std.specs.List.{AllByRecursion}
use Rattle.std.proofs.lemmas.Bool.{cases_Bool, eqb-true}
use Rattle.std.proofs.lemmas.Cmp.{nat_eq_equiv}
use Rattle.mqtt_flow.specs.outbound.OutboundWorld.{Lot}
use Rattle.mqtt_world_model.specs.model.Ends.{Receiver}
use Rattle.mqtt_world_model.specs.model.Lines.{is_one_of}
use Rattle.mqtt_world_model.specs.model.Seen.{is_linked}
use Rattle.mqtt_world_model.proofs.model_lemmas.others.Names.{BeginsNone, named_is, only_deed}
use Rattle.mqtt_world_model.proofs.model_lemmas.others.Quiet.{line_gone, line_linked, line_on, quiet_line, session_on}
use Rattle.mqtt_world_model.proofs.model_lemmas.others.Rows.{other_put}
use Rattle.mqtt_world_model.proofs.model_lemmas.seats.Seeing.{linked_is, linked_of}
use Rattle.mqtt_records.specs.declared.messages.message.Will.{Will}
use Rattle.mqtt_records.specs.state.Records.{changed, changed_all, with_counter}
use Rattle.mqtt_records.specs.state.Session.{birth_of, with_columns, with_copy, with_open, with_phase, with_subscription, with_will, without_copy, without_open, without_subscription}
use Rattle.mqtt_records.specs.declared.state.change.Change.{Change}
use Rattle.mqtt_records.specs.declared.state.change.Change.TheVariants.{SetCounter, PutSession, SetSession, RemoveSession, PutWill, RemoveWill, PutSubscription, RemoveSubscription, PutInbound, RemoveInbound, PutCopy, SetCopy, RemoveCopy, PutRetained, RemoveRetained}
use Rattle.mqtt_records.specs.declared.state.change.Counter.{Counter}
use Rattle.mqtt_records.specs.declared.state.change.Counter.TheVariants.{Births, Publications, Subscribes, Autos, Moment}
use Rattle.mqtt_records.specs.declared.state.records.Records.{Records}
use Rattle.mqtt_records.specs.declared.state.session.Columns.{Columns}
use Rattle.mqtt_records.specs.declared.state.session.Session.{Session}
use Rattle.mqtt_records.proofs.lists_lemmas.LookUps.{row_at-remove_row}
use Rattle.mqtt_records.specs.lists.Order.{row_at}
use Rattle.mqtt_rules.proofs.step_lemmas.flight.FlightRows.{change_row-other, found_key}
use Rattle.mqtt_rules.specs.step.Deeds.{Accept, At, Begin, Close, Count, Deed, DropWill, Enter, Finish, Forget, Gone, Greet, Hear, Keep, Leave, LinePart, Link, Mark, Name, On, Open, Part, RefuseWill, Release, Resume, Send, SetAlias, SetExpiry, Subscribe, Unsubscribe, Went, after, after_all, begin_rows, fresh_line, line_after, lines_after, lines_at, on_line, part_rows, part_rows_of, rows_of, will_row, without_place}
use Rattle.mqtt_rules.specs.step.State.{Line as BrokerLine, Broker, is_of, session_at, session_named}
use Rattle.mqtt_world_laws.specs.receiver.Calls.{IsOnlyAt}
use Rattle.mqtt_world_laws.specs.receiver.Entering.{AreKnown, IsReceiving}
use Rattle.mqtt_world_laws.specs.receiver.Handing.{IsRun}
use Rattle.mqtt_world_laws.specs.receiver.Others.{AreOfOthers, IsOfOthers, IsPartOfOthers, IsWithin}
use Rattle.mqtt_world_laws.specs.receiver.Seen.{AreQueued, Numbering, StandOn, seen, went_in}
use Rattle.mqtt_world_laws.proofs.receiver_lemmas.own.Answering.{its_went}

-- ---- rows of other sessions

abbrev IsOtherRow : ℕ → Change → Type 0
IsOtherRow birth (SetCounter counter value) = ⊤
IsOtherRow birth (PutSession row) = nat_eq row.birth birth ≡ false
IsOtherRow birth (SetSession row) = nat_eq row.birth birth ≡ false
IsOtherRow birth (RemoveSession k) = nat_eq k birth ≡ false
IsOtherRow birth (PutWill k will) = nat_eq k birth ≡ false
IsOtherRow birth (RemoveWill k) = nat_eq k birth ≡ false
IsOtherRow birth (PutSubscription k sub) = nat_eq k birth ≡ false
IsOtherRow birth (RemoveSubscription k text) = nat_eq k birth ≡ false
IsOtherRow birth (PutInbound k id) = nat_eq k birth ≡ false
IsOtherRow birth (RemoveInbound k id) = nat_eq k birth ≡ false
IsOtherRow birth (PutCopy k e) = nat_eq k birth ≡ false
IsOtherRow birth (SetCopy k place phase) = nat_eq k birth ≡ false
IsOtherRow birth (RemoveCopy k place) = nat_eq k birth ≡ false
IsOtherRow birth (PutRetained kept) = ⊤
IsOtherRow birth (RemoveRetained place) = ⊤

abbrev AreOtherRows : ℕ → List Change → Type 0
AreOtherRows birth cs = AllByRecursion (IsOtherRow birth) cs

counted : (birth : ℕ) (counter : Counter) (value : ℕ) (r : Records) → session_at birth (with_counter counter value r) ≡ session_at birth r
counted birth Births value r = refl
counted birth Publications value r = refl
counted birth Subscribes value r = refl
counted birth Autos value r = refl
counted birth Moment value r = refl

row_stays : (birth : ℕ) (c : Change) (r : Records) → IsOtherRow birth c → session_at birth (changed c r) ≡ session_at birth r
row_stays birth (SetCounter counter value) r q = counted birth counter value r
row_stays birth (PutSession row) r q = other_put birth row r.sessions q
row_stays birth (SetSession row) r q = change_row-other birth_of birth row.birth (with_columns row) r.sessions (λ x. refl) q
row_stays birth (RemoveSession k) r q = row_at-remove_row birth_of birth k r.sessions ∙ ap (λ (t : Bool). cond t None (row_at birth_of birth r.sessions)) q
row_stays birth (PutWill k will) r q = change_row-other birth_of birth k (with_will (Some will)) r.sessions (λ x. refl) q
row_stays birth (RemoveWill k) r q = change_row-other birth_of birth k (with_will None) r.sessions (λ x. refl) q
row_stays birth (PutSubscription k sub) r q = change_row-other birth_of birth k (with_subscription sub) r.sessions (λ x. refl) q
row_stays birth (RemoveSubscription k text) r q = change_row-other birth_of birth k (without_subscription text) r.sessions (λ x. refl) q
row_stays birth (PutInbound k id) r q = change_row-other birth_of birth k (with_open id) r.sessions (λ x. refl) q
row_stays birth (RemoveInbound k id) r q = change_row-other birth_of birth k (without_open id) r.sessions (λ x. refl) q
row_stays birth (PutCopy k e) r q = change_row-other birth_of birth k (with_copy e) r.sessions (λ x. refl) q
row_stays birth (SetCopy k place phase) r q = change_row-other birth_of birth k (with_phase place phase) r.sessions (λ x. refl) q
row_stays birth (RemoveCopy k place) r q = change_row-other birth_of birth k (without_copy place) r.sessions (λ x. refl) q
row_stays birth (PutRetained kept) r q = refl
row_stays birth (RemoveRetained place) r q = refl

rows_stay : (birth : ℕ) (cs : List Change) (r : Records) → AreOtherRows birth cs → session_at birth (changed_all cs r) ≡ session_at birth r
rows_stay birth [] r q = refl
rows_stay birth (c ∷ cs) r q = rows_stay birth cs (changed c r) q.1 ∙ row_stays birth c r q.0

will_other : (birth k : ℕ) (will : Option Will) → nat_eq k birth ≡ false → IsOtherRow birth (will_row k will)
will_other birth k None q = q
will_other birth k (Some will) q = q

part_other : (birth : ℕ) (part : Part) (s : Session) → nat_eq s.birth birth ≡ false → AreOtherRows birth (part_rows part s)
part_other birth (Resume expiry will) s q = (q, (will_other birth s.birth will q, tt))
part_other birth (Close moment) s q = (q, tt)
part_other birth (SetExpiry expiry) s q = (q, tt)
part_other birth DropWill s q = (q, tt)
part_other birth (Subscribe sub) s q = (q, tt)
part_other birth (Unsubscribe text) s q = (q, tt)
part_other birth (Open id) s q = (q, tt)
part_other birth (Release id) s q = (q, tt)
part_other birth (Enter copy) s q = (q, tt)
part_other birth (Mark place phase) s q = (q, tt)
part_other birth (Leave e ending) s q = (q, tt)

at_other : (birth k : ℕ) (part : Part) (ss : List Session) (o : Option Session) → row_at birth_of k ss ≡ o → nat_eq k birth ≡ false → AreOtherRows birth (part_rows_of part o)
at_other birth k part ss None e q = tt
at_other birth k part ss (Some s) e q = part_other birth part s (ap (λ (m : ℕ). nat_eq m birth) (found_key birth_of k s ss e) ∙ q)

begin_other : (birth : ℕ) (row : Columns) (will : Option Will) → nat_eq row.birth birth ≡ false → AreOtherRows birth (begin_rows row will)
begin_other birth row None q = (q, (tt, tt))
begin_other birth row (Some will) q = (q, (tt, (q, tt)))

deed_rows : (client : List ℕ) (birth : ℕ) (ns : List ℕ) (d : Deed) (r : Records) → IsOfOthers client birth ns d → AreOtherRows birth (rows_of d r)
deed_rows client birth ns (Accept number origin m) r q = (tt, tt)
deed_rows client birth ns (Begin row will) r q = begin_other birth row will q.0
deed_rows client birth ns (Name k) r q = (tt, tt)
deed_rows client birth ns (Count k) r q = (tt, tt)
deed_rows client birth ns (At who part) r q = at_other birth who.birth part r.sessions (session_at who.birth r) refl q
deed_rows client birth ns (Finish who) r q = (q, tt)
deed_rows client birth ns (Keep kept) r q = (tt, tt)
deed_rows client birth ns (Forget place) r q = (tt, tt)
deed_rows client birth ns (RefuseWill who) r q = tt
deed_rows client birth ns (Link m) r q = tt
deed_rows client birth ns (On m part) r q = tt
deed_rows client birth ns (Send m packet) r q = tt
deed_rows client birth ns (Gone m) r q = tt

begins_other : (client : List ℕ) (birth : ℕ) (ns : List ℕ) (d : Deed) → IsOfOthers client birth ns d → BeginsNone client birth d
begins_other client birth ns (Begin row will) q = λ same. absurd (q.1 same)
begins_other client birth ns (Accept number origin m) q = tt
begins_other client birth ns (Name k) q = tt
begins_other client birth ns (Count k) q = tt
begins_other client birth ns (At who part) q = tt
begins_other client birth ns (Finish who) q = tt
begins_other client birth ns (Keep kept) q = tt
begins_other client birth ns (Forget place) q = tt
begins_other client birth ns (RefuseWill who) q = tt
begins_other client birth ns (Link m) q = tt
begins_other client birth ns (On m part) q = tt
begins_other client birth ns (Send m packet) q = tt
begins_other client birth ns (Gone m) q = tt

-- ---- other lines

-- another line is another number
pub differ : (k m : ℕ) (ns : List ℕ) → is_one_of (Some k) ns ≡ false → is_one_of (Some m) ns ≡ true → nat_eq k m ≡ false
differ k m ns outside inside = elim (cases_Bool (nat_eq k m)) [
  | inl same ↦
      let is = eqb-true k m same in
      let clash : true ≡ false = sym inside ∙ (ap (λ (x : ℕ). is_one_of (Some x) ns) (sym is) ∙ outside) in
      absurd cc
  | inr other ↦ other
]

-- a line of another number has another session
unlike : (birth n : ℕ) (ns : List ℕ) (l : BrokerLine) → IsOnlyAt ns birth l → is_one_of (Some n) ns ≡ false → nat_eq l.number n ≡ true → is_of l.session birth ≡ false
unlike birth n ns l h outside here = by l.session refl
  where
    by : (o : Option ℕ) → l.session ≡ o → is_of o birth ≡ false
    by None e = refl
    by (Some k) e = elim (cases_Bool (nat_eq k birth)) [
      | inl same ↦
          let inside = h (e ∙ ap Some (eqb-true k birth same)) in
          let apart = differ n l.number ns outside inside in
          let is = eqb-true l.number n here in
          let clash : true ≡ false = sym (nat_eq_equiv.refl n) ∙ (ap (nat_eq n) (sym is) ∙ apart) in
          absurd cc
      | inr other ↦ other
    ]

-- what stays of the lines: what went out on that of the session, and where it may be
record LinesStay (birth : ℕ) (ns : List ℕ) (xs ys : List BrokerLine) : Type 0 where
  pub went : its_went birth ys ≡ its_went birth xs
  pub its : AllByRecursion (IsOnlyAt ns birth) ys

off_line : (birth n : ℕ) (ns : List ℕ) (l : BrokerLine) → is_of l.session birth ≡ false → IsOnlyAt ns birth l
off_line birth n ns l off on =
    let clash : true ≡ false = sym (nat_eq_equiv.refl birth) ∙ (ap (λ (o : Option ℕ). is_of o birth) (sym on) ∙ off) in
    absurd cc

part_off : (birth now : ℕ) (part : LinePart) (l : BrokerLine) → IsPartOfOthers birth part → is_of l.session birth ≡ false → is_of (line_after now part l).session birth ≡ false
part_off birth now Hear l q off = off
part_off birth now (Greet other keep_alive window largest most) l q off = q
part_off birth now (SetAlias alias topic) l q off = off
part_off birth now (Went place) l q off = off

on_stays : (birth now n : ℕ) (ns : List ℕ) (part : LinePart) (ls : List BrokerLine) → is_one_of (Some n) ns ≡ false → IsPartOfOthers birth part → AllByRecursion (IsOnlyAt ns birth) ls
    → LinesStay birth ns ls (on_line now n part ls)
on_stays birth now n ns part [] outside q h = record { went = refl; its = tt }
on_stays birth now n ns part (l ∷ ls) outside q h = elim (cases_Bool (nat_eq l.number n)) [
  | inl here ↦
      let off = unlike birth n ns l h.0 outside here in
      let off_then = part_off birth now part l q off in
      rw here (record { went = rw (off, off_then) refl; its = (off_line birth n ns (line_after now part l) off_then, h.1) })
  | inr further ↦
      let rest = on_stays birth now n ns part ls outside q h.1 in
      rw further (record { went = elim (cases_Bool (is_of l.session birth)) [ inl its ↦ rw its refl | inr other ↦ rw other rest.went ]; its = (h.0, rest.its) })
]

gone_stays : (birth n : ℕ) (ns : List ℕ) (ls : List BrokerLine) → is_one_of (Some n) ns ≡ false → AllByRecursion (IsOnlyAt ns birth) ls
    → LinesStay birth ns ls (filter (λ (l : BrokerLine). not (nat_eq l.number n)) ls)
gone_stays birth n ns [] outside h = record { went = refl; its = tt }
gone_stays birth n ns (l ∷ ls) outside h =
    let rest = gone_stays birth n ns ls outside h.1 in
    elim (cases_Bool (nat_eq l.number n)) [
      | inl here ↦ let off = unlike birth n ns l h.0 outside here in rw here (record { went = rw off rest.went; its = rest.its })
      | inr further ↦ rw further (record { went = elim (cases_Bool (is_of l.session birth)) [ inl its ↦ rw its refl | inr other ↦ rw other rest.went ]; its = (h.0, rest.its) })
    ]

link_stays : (birth : ℕ) (ns : List ℕ) (x : BrokerLine) (ls : List BrokerLine) → x.session ≡ None → AllByRecursion (IsOnlyAt ns birth) ls → LinesStay birth ns ls (ls ++ x ∷ [])
link_stays birth ns x [] none h =
    let off : is_of x.session birth ≡ false = ap (λ (o : Option ℕ). is_of o birth) none in
    record { went = rw off refl; its = (off_line birth 0 ns x off, tt) }
link_stays birth ns x (l ∷ ls) none h =
    let rest = link_stays birth ns x ls none h.1 in
    record { went = elim (cases_Bool (is_of l.session birth)) [ inl its ↦ rw its refl | inr other ↦ rw other rest.went ]; its = (h.0, rest.its) }

-- one session's birth is not another's
not_both : (o : Option ℕ) (k birth : ℕ) → nat_eq k birth ≡ false → is_of o k ≡ true → is_of o birth ≡ false
not_both None k birth q h = refl
not_both (Some x) k birth q h = ap (λ (y : ℕ). nat_eq y birth) (eqb-true x k h) ∙ q

place_stays : (birth k place : ℕ) (ns : List ℕ) (ls : List BrokerLine) → nat_eq k birth ≡ false → AllByRecursion (IsOnlyAt ns birth) ls → LinesStay birth ns ls (map (without_place k place) ls)
place_stays birth k place ns [] q h = record { went = refl; its = tt }
place_stays birth k place ns (l ∷ ls) q h =
    let rest = place_stays birth k place ns ls q h.1 in
    elim (cases_Bool (is_of l.session k)) [
      | inl here ↦ let off = not_both l.session k birth q here in rw here (record { went = rw off rest.went; its = (h.0, rest.its) })
      | inr further ↦ rw further (record { went = elim (cases_Bool (is_of l.session birth)) [ inl its ↦ rw its refl | inr other ↦ rw other rest.went ]; its = (h.0, rest.its) })
    ]

same_lines : (birth : ℕ) (ns : List ℕ) (ls : List BrokerLine) → AllByRecursion (IsOnlyAt ns birth) ls → LinesStay birth ns ls ls
same_lines birth ns ls h = record { went = refl; its = h }

part_stays : (birth k : ℕ) (ns : List ℕ) (part : Part) (ls : List BrokerLine) → nat_eq k birth ≡ false → AllByRecursion (IsOnlyAt ns birth) ls → LinesStay birth ns ls (lines_at k part ls)
part_stays birth k ns (Leave e ending) ls q h = place_stays birth k e.place ns ls q h
part_stays birth k ns (Resume expiry will) ls q h = same_lines birth ns ls h
part_stays birth k ns (Close moment) ls q h = same_lines birth ns ls h
part_stays birth k ns (SetExpiry expiry) ls q h = same_lines birth ns ls h
part_stays birth k ns DropWill ls q h = same_lines birth ns ls h
part_stays birth k ns (Subscribe sub) ls q h = same_lines birth ns ls h
part_stays birth k ns (Unsubscribe text) ls q h = same_lines birth ns ls h
part_stays birth k ns (Open id) ls q h = same_lines birth ns ls h
part_stays birth k ns (Release id) ls q h = same_lines birth ns ls h
part_stays birth k ns (Enter copy) ls q h = same_lines birth ns ls h
part_stays birth k ns (Mark place phase) ls q h = same_lines birth ns ls h

lines_stay : (client : List ℕ) (birth now : ℕ) (ns : List ℕ) (d : Deed) (ls : List BrokerLine) → IsOfOthers client birth ns d → AllByRecursion (IsOnlyAt ns birth) ls → LinesStay birth ns ls (lines_after now d ls)
lines_stay client birth now ns (Link m) ls q h = link_stays birth ns (fresh_line m now) ls refl h
lines_stay client birth now ns (On m part) ls q h = on_stays birth now m ns part ls q.0 q.1 h
lines_stay client birth now ns (Gone m) ls q h = gone_stays birth m ns ls q h
lines_stay client birth now ns (At who part) ls q h = part_stays birth who.birth ns part ls q h
lines_stay client birth now ns (Accept number origin m) ls q h = same_lines birth ns ls h
lines_stay client birth now ns (Begin row will) ls q h = same_lines birth ns ls h
lines_stay client birth now ns (Name k) ls q h = same_lines birth ns ls h
lines_stay client birth now ns (Count k) ls q h = same_lines birth ns ls h
lines_stay client birth now ns (Finish who) ls q h = same_lines birth ns ls h
lines_stay client birth now ns (Keep kept) ls q h = same_lines birth ns ls h
lines_stay client birth now ns (Forget place) ls q h = same_lines birth ns ls h
lines_stay client birth now ns (RefuseWill who) ls q h = same_lines birth ns ls h
lines_stay client birth now ns (Send m packet) ls q h = same_lines birth ns ls h

-- the session of the receiver's own line
own_stays : (client : List ℕ) (birth now m : ℕ) (ns : List ℕ) (d : Deed) (ls : List BrokerLine) → is_one_of (Some m) ns ≡ true → IsOfOthers client birth ns d → session_on m (lines_after now d ls) ≡ session_on m ls
own_stays client birth now m ns (Link k) ls mine q = line_linked m (fresh_line k now) ls (differ k m ns q mine)
own_stays client birth now m ns (On k part) ls mine q = line_on now m k part ls (inl (differ k m ns q.0 mine))
own_stays client birth now m ns (Gone k) ls mine q = line_gone m k ls (differ k m ns q mine)
own_stays client birth now m ns (At who part) ls mine q = quiet_line birth m now (At who part) ls (inl q)
own_stays client birth now m ns (Accept number origin x) ls mine q = refl
own_stays client birth now m ns (Begin row will) ls mine q = refl
own_stays client birth now m ns (Name k) ls mine q = refl
own_stays client birth now m ns (Count k) ls mine q = refl
own_stays client birth now m ns (Finish who) ls mine q = refl
own_stays client birth now m ns (Keep kept) ls mine q = refl
own_stays client birth now m ns (Forget place) ls mine q = refl
own_stays client birth now m ns (RefuseWill who) ls mine q = refl
own_stays client birth now m ns (Send k packet) ls mine q = refl

linked_stays : (client : List ℕ) (birth : ℕ) (ns : List ℕ) (d : Deed) (b : Broker) (o : Option ℕ) → ((m : ℕ) → o ≡ Some m → is_one_of (Some m) ns ≡ true) → IsOfOthers client birth ns d
    → is_linked o (after d b) ≡ is_linked o b
linked_stays client birth ns d b None mine q = refl
linked_stays client birth ns d b (Some m) mine q =
    linked_is m (after d b) ∙ (ap linked_of (own_stays client birth b.now m ns d b.lines (mine m refl) q) ∙ sym (linked_is m b))

-- ---- one deed, and all

record Unseen (number : Numbering) (largest : ℕ) (copies : List Lot) (ns : List ℕ) (r : Receiver) (s : Session) (b : Broker) : Type 0 where
  pub run_is : IsRun number largest copies r b
  pub receiving : IsReceiving r s b
  pub within : IsWithin ns r s b

unseen_deed : (number : Numbering) (largest : ℕ) (copies : List Lot) (ns : List ℕ) (r : Receiver) (s : Session) (b : Broker) (d : Deed) → IsOfOthers r.client s.birth ns d
    → Unseen number largest copies ns r s b → Unseen number largest copies ns r s (after d b)
unseen_deed number largest copies ns r s b d q h =
    let new = after d b in
    let at : session_at s.birth new.records ≡ Some s = rows_stay s.birth (rows_of d b.records) b.records (deed_rows r.client s.birth ns d b.records q) ∙ h.receiving.session in
    let only = only_deed r.client s.birth d b.records (begins_other r.client s.birth ns d q) h.receiving.only in
    let lines = lines_stay r.client s.birth b.now ns d b.lines q h.within.its in
    let named : session_named r.client new.records ≡ Some s = named_is r.client s.birth new.records s only at h.receiving.client in
    let named_first : session_named r.client b.records ≡ Some s = named_is r.client s.birth b.records s h.receiving.only h.receiving.session h.receiving.client in
    let stands : is_some (session_named r.client new.records) ≡ is_some (session_named r.client b.records) = ap is_some named ∙ sym (ap is_some named_first) in
    let linked : is_linked r.line.number new ≡ is_linked r.line.number b = linked_stays r.client s.birth ns d b r.line.number h.within.own q in
    let same : seen number copies r new ≡ seen number copies r b = λ i. record (seen number copies r b) { stands = stands i; linked = linked i } in
    let queued : StandOn copies s.queue (went_in s.birth b) = subst (λ (o : Option Session). AreQueued copies o b) named_first h.run_is.queue_is in
    record {
      run_is = record {
        events = h.run_is.events;
        seen_is = same ∙ h.run_is.seen_is;
        queue_is = subst (λ (o : Option Session). AreQueued copies o new) (sym named) (subst (StandOn copies s.queue) (sym lines.went) queued);
        numbered = h.run_is.numbered;
        tagged = h.run_is.tagged;
      };
      receiving = record { session = at; client = h.receiving.client; only = only; known = subst (AreKnown s.queue) (sym lines.went) h.receiving.known };
      within = record { own = h.within.own; its = lines.its };
    }

unseen_deeds : (number : Numbering) (largest : ℕ) (copies : List Lot) (ns : List ℕ) (r : Receiver) (s : Session) (b : Broker) (ds : List Deed) → AreOfOthers r.client s.birth ns ds
    → Unseen number largest copies ns r s b → Unseen number largest copies ns r s (after_all ds b)
unseen_deeds number largest copies ns r s b [] q h = h
unseen_deeds number largest copies ns r s b (d ∷ ds) q h = unseen_deeds number largest copies ns r s (after d b) ds q.1 (unseen_deed number largest copies ns r s b d q.0 h)

-- what others do goes on with the hop
pub others_run : (number : Numbering) (largest : ℕ) (copies : List Lot) (ns : List ℕ) (r : Receiver) (s : Session) (b : Broker) (ds : List Deed)
    → IsRun number largest copies r b → IsReceiving r s b → IsWithin ns r s b → AreOfOthers r.client s.birth ns ds → IsRun number largest copies r (after_all ds b)
others_run number largest copies ns r s b ds h x i q = (unseen_deeds number largest copies ns r s b ds q (record { run_is = h; receiving = x; within = i })).run_is

-- and leaves the receiver's copies
pub others_leave : (number : Numbering) (largest : ℕ) (copies : List Lot) (ns : List ℕ) (r : Receiver) (s : Session) (b : Broker) (ds : List Deed)
    → IsRun number largest copies r b → IsReceiving r s b → IsWithin ns r s b → AreOfOthers r.client s.birth ns ds → IsReceiving r s (after_all ds b)
others_leave number largest copies ns r s b ds h x i q = (unseen_deeds number largest copies ns r s b ds q (record { run_is = h; receiving = x; within = i })).receiving

-- within their numbers
pub others_within : (number : Numbering) (largest : ℕ) (copies : List Lot) (ns : List ℕ) (r : Receiver) (s : Session) (b : Broker) (ds : List Deed)
    → IsRun number largest copies r b → IsReceiving r s b → IsWithin ns r s b → AreOfOthers r.client s.birth ns ds → IsWithin ns r s (after_all ds b)
others_within number largest copies ns r s b ds h x i q = (unseen_deeds number largest copies ns r s b ds q (record { run_is = h; receiving = x; within = i })).within
