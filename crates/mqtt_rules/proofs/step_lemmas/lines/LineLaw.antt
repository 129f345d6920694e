-- Lines are unique in every step: what each unit of deeds leaves, on coherent records.
use Rattle.std.proofs.Common.{◌≡◌, ℕ, suc, Bool, true, false, cond, not, List, [], ◌∷◌, length, map, Option, Some, None, nat_eq, nat_lt, refl, sym, ap, subst, ◌∙◌, arith, inl, inr}
use Rattle.std.specs.Prelude.{option_map, find}
use Rattle.std.proofs.lemmas.Bool.{cases_Bool, eqb-true}
use Rattle.std.proofs.lemmas.Cmp.{nat_eq_equiv}
use Rattle.mqtt_base.specs.declared.limits.TheConstants.{SESSION_LIMIT}
use Rattle.mqtt_base.specs.declared.session.Ending.TheVariants.{SessionEnded}
use Rattle.mqtt_packet.specs.declared.connect.connect.Connect.{Connect as Greeting}
use Rattle.mqtt_records.specs.declared.messages.message.Will.{Will}
use Rattle.mqtt_records.specs.declared.state.session.Session.{Session}
use Rattle.mqtt_records.specs.declared.state.session.Columns.{Columns}
use Rattle.mqtt_records.specs.declared.state.records.Records.{Records}
use Rattle.mqtt_records.specs.lists.Order.{IsAscending, IsBelow, row_at, has_row, insert_row}
use Rattle.mqtt_records.proofs.lists_lemmas.LookUps.{row_at-insert_row, row_at-remove_row, insert_row-last}
use Rattle.mqtt_records.proofs.lists_lemmas.OrderLemmas.{apart, insert-ascending, remove-ascending, change-ascending}
use Rattle.mqtt_records.specs.state.Session.{birth_of}
use Rattle.mqtt_records.specs.state.Records.{changed_all}
use Rattle.mqtt_rules.specs.step.State.{Line, Broker, session_at, line_of, is_of}
use Rattle.mqtt_rules.specs.step.Deeds.{Whose, whose, Resume, Close, DropWill, Leave, Greet, Deed, Begin, At, Finish, Link, On, Gone, part_rows_of, stored_after, fresh_line, line_after, after, after_all}
use Rattle.mqtt_rules.specs.step.Closing.{end_session}
use Rattle.mqtt_rules.specs.step.Connect.{expiry_of, will_of, greet, window_of, largest_of, aliases_of}
use Rattle.mqtt_rules.specs.step.Lines.{line_number, session_on, closed_at, HasUniqueLines}
use Rattle.mqtt_rules.specs.step.Laws.{IsAmong}
use Rattle.mqtt_rules.proofs.step_lemmas.flight.FlightRows.{found_key, above_found, all_found}
use Rattle.mqtt_rules.proofs.step_lemmas.acts.Goods.{AreGood, after_append, good_map}
use Rattle.mqtt_rules.proofs.step_lemmas.acts.Leads.{found_among, found_passes}
use Rattle.mqtt_rules.proofs.step_lemmas.acts.LookedUp.{row_at-change_row}
use Rattle.mqtt_rules.proofs.step_lemmas.numbers.NumberBirths.{below_more, below_insert, below_filter, below_change, below_none}
use Rattle.mqtt_rules.proofs.step_lemmas.acts.Acts.{closing, closing_on, closing_session}
use Rattle.mqtt_rules.proofs.step_lemmas.acts.OnLines.{IsOn, found_on}
use Rattle.mqtt_rules.proofs.step_lemmas.fit.Coherent.{Coheres, IsFit, no_session, or_right}
use Rattle.mqtt_rules.proofs.step_lemmas.fit.FitLaw.{all_among, mapped_some}
use Rattle.mqtt_rules.proofs.step_lemmas.lines.LineRows.{session_among, among_is, on_line_is, numbered, IsQuiet, closed_resumed, closed_closed, closed_finished, closed_begun, leaves, closed_stays, still_quiet}
use Rattle.mqtt_rules.proofs.step_lemmas.lines.LineUnits.{AreJoined, joined_same, joined_linked, joined_gone, joined_parted, joined_ended, joined_greeted}

-- ---- the two look-ups

abbrev sessions_on : Broker → ℕ → Option (Option ℕ)
sessions_on b n = session_on n b

abbrev closed_of : Broker → ℕ → Option (Option ℕ)
closed_of b k = closed_at k b.records

joined_of : (b : Broker) → HasUniqueLines b → AreJoined (sessions_on b) (closed_of b)
joined_of b u = record { once = u.once; stands = u.stands; connected = u.connected }

unique_of : (b : Broker) → AreJoined (sessions_on b) (closed_of b) → IsAscending line_number b.lines → IsBelow line_number (suc b.given) b.lines → HasUniqueLines b
unique_of b j up low = record { ascending = up; given = low; once = j.once; stands = j.stands; connected = j.connected }

-- a session that stands is found by its birth
pub here : (s : Session) (r : Records) → IsAscending birth_of r.sessions → IsAmong s r.sessions → session_at s.birth r ≡ Some s
here s r up among = all_among (λ (x : Session). session_at x.birth r ≡ Some x) s r.sessions (all_found birth_of r.sessions up) among

-- ---- lines: one that stands, one that goes, one that comes, one that is greeted

on_is : (n : ℕ) (session : Option ℕ) (ls : List Line) → IsAscending line_number ls → IsOn n session ls → session_among n ls ≡ Some session
on_is n session [] up on = absurd on
on_is n session (l ∷ ls) up on = elim on [
  | inl it ↦
      let same : nat_eq l.number n ≡ true = subst (λ (k : ℕ). nat_eq l.number k ≡ true) it.0 (nat_eq_equiv.refl l.number) in
      rw same (ap Some it.1)
  | inr more ↦
      let rest = on_is n session ls up.1 more in
      let x = mapped_some (λ (y : Line). y.session) (row_at line_number n ls) session rest in
      let less = above_found line_number l.number n x.0 ls up.0 x.1 in
      rw (apart l.number n (λ same. omega (arith, same, less))) rest
]

-- a line that stands is found by its number, with its session
pub on_line_of : (l : Line) (b : Broker) → IsAscending line_number b.lines → IsOn l.number l.session b.lines → session_on l.number b ≡ Some l.session
on_line_of l b up on = among_is l.number b ∙ on_is l.number l.session b.lines up on

-- a line is found for a session that is on one
pub found_of : (n birth : ℕ) (b : Broker) → session_on n b ≡ Some (Some birth) → line_of birth b ≡ None → ⊥
found_of n birth b on none = go b.lines on none
  where
    go : (ls : List Line) → option_map (λ (l : Line). l.session) (find (λ l. nat_eq l.number n) ls) ≡ Some (Some birth) → find (λ l. is_of l.session birth) ls ≡ None → ⊥
    go [] e f = absurd cc
    go (l ∷ ls) e f = elim (cases_Bool (is_of l.session birth)) [
      | inl its ↦ let clash : Some l ≡ None = rw its at f in absurd cc
      | inr other ↦ elim (cases_Bool (nat_eq l.number n)) [
        | inl at_n ↦
            let first : Some l.session ≡ Some (Some birth) = rw at_n at e in
            let is : l.session ≡ Some birth = cc in
            let yes : is_of l.session birth ≡ true = ap (λ (o : Option ℕ). is_of o birth) is ∙ nat_eq_equiv.refl birth in
            let clash : true ≡ false = sym yes ∙ other in
            absurd cc
        | inr further ↦ go ls (rw further at e) (rw other at f)
      ]
    ]

-- one that is found is on a line
pub on_found : (birth : ℕ) (l : Line) (b : Broker) → IsAscending line_number b.lines → line_of birth b ≡ Some l → session_on l.number b ≡ Some (Some birth)
on_found birth l b up found =
    on_line_of l b up (found_on l b.lines (found_among (λ (x : Line). is_of x.session birth) l b.lines found)) ∙ ap Some (its l.session (found_passes (λ (x : Line). is_of x.session birth) l b.lines found))
  where
    its : (o : Option ℕ) → is_of o birth ≡ true → o ≡ Some birth
    its None e = absurd cc
    its (Some x) e = ap Some (eqb-true x birth e)

-- a connected session's line is found
pub line_found : (b : Broker) (birth : ℕ) (s : Session) → HasUniqueLines b → session_at birth b.records ≡ Some s → s.closed ≡ None → (l : Line) × (line_of birth b ≡ Some l)
line_found b birth s u there open_ =
    let on = u.connected birth (ap (option_map (λ (x : Session). x.closed)) there ∙ ap Some open_) in
    by on.0 on.1 (line_of birth b) refl
  where
    by : (n : ℕ) → session_on n b ≡ Some (Some birth) → (o : Option Line) → line_of birth b ≡ o → (l : Line) × (line_of birth b ≡ Some l)
    by n on None is = absurd (found_of n birth b on is)
    by n on (Some l) is = (l, is)

-- a closed session has no line
pub line_none : (b : Broker) (birth moment : ℕ) (s : Session) → HasUniqueLines b → session_at birth b.records ≡ Some s → s.closed ≡ Some moment → line_of birth b ≡ None
line_none b birth moment s u there shut = by (line_of birth b) refl
  where
    by : (o : Option Line) → line_of birth b ≡ o → line_of birth b ≡ None
    by None is = is
    by (Some l) is =
        let stands = u.stands l.number birth (on_found birth l b u.ascending is) in
        let clash : Some (Some moment) ≡ Some None = sym (ap (option_map (λ (x : Session). x.closed)) there ∙ ap Some shut) ∙ stands in
        absurd cc

-- behind the loss of a line nobody stands on it, and on the others who stood there
pub on_gone : (n k : ℕ) (b : Broker) → session_on k (after (Gone n) b) ≡ cond (nat_eq n k) None (session_on k b)
on_gone n k b =
    among_is k (after (Gone n) b) ∙ ap (option_map (λ (l : Line). l.session)) (row_at-remove_row line_number k n b.lines) ∙ mapped (nat_eq n k)
    ∙ ap (λ (o : Option (Option ℕ)). cond (nat_eq n k) None o) (sym (among_is k b))
  where
    mapped : (t : Bool) → option_map (λ (l : Line). l.session) (cond t None (row_at line_number k b.lines)) ≡ cond t None (session_among k b.lines)
    mapped true = refl
    mapped false = refl

on_greeted : (n k birth keep_alive window largest most : ℕ) (b : Broker) (old : Option ℕ) → session_on n b ≡ Some old
    → session_on k (after (On n (Greet birth keep_alive window largest most)) b) ≡ cond (nat_eq n k) (Some (Some birth)) (session_on k b)
on_greeted n k birth keep_alive window largest most b old there =
    let part = Greet birth keep_alive window largest most in
    let f = line_after b.now part in
    among_is k (after (On n part) b) ∙ ap (session_among k) (on_line_is b.now n part b.lines)
    ∙ ap (option_map (λ (l : Line). l.session)) (row_at-change_row line_number k n f b.lines (numbered b.now part)) ∙ either (nat_eq n k) refl
    ∙ ap (λ (o : Option (Option ℕ)). cond (nat_eq n k) (Some (Some birth)) o) (sym (among_is k b))
  where
    greeted : (o : Option Line) → option_map (λ (l : Line). l.session) o ≡ Some old → option_map (λ (l : Line). l.session) (option_map (line_after b.now (Greet birth keep_alive window largest most)) o) ≡ Some (Some birth)
    greeted None e = absurd cc
    greeted (Some l) e = refl

    either : (t : Bool) → nat_eq n k ≡ t
        → option_map (λ (l : Line). l.session) (cond t (option_map (line_after b.now (Greet birth keep_alive window largest most)) (row_at line_number k b.lines)) (row_at line_number k b.lines))
        ≡ cond t (Some (Some birth)) (session_among k b.lines)
    either false is = refl
    either true is = greeted (row_at line_number k b.lines) (sym (among_is k b) ∙ ap (λ (m : ℕ). session_on m b) (sym (eqb-true n k is)) ∙ there)

linked_is : (b : Broker) → IsBelow line_number (suc b.given) b.lines → (after (Link (suc b.given)) b).lines ≡ insert_row line_number (fresh_line (suc b.given) b.now) b.lines
linked_is b low = sym (insert_row-last line_number (fresh_line (suc b.given) b.now) b.lines low)

on_linked : (k : ℕ) (b : Broker) → IsBelow line_number (suc b.given) b.lines → session_on k (after (Link (suc b.given)) b) ≡ cond (nat_eq (suc b.given) k) (Some None) (session_on k b)
on_linked k b low =
    among_is k (after (Link (suc b.given)) b) ∙ ap (session_among k) (linked_is b low)
    ∙ ap (option_map (λ (l : Line). l.session)) (row_at-insert_row line_number k (fresh_line (suc b.given) b.now) b.lines) ∙ mapped (nat_eq (suc b.given) k)
    ∙ ap (λ (o : Option (Option ℕ)). cond (nat_eq (suc b.given) k) (Some None) o) (sym (among_is k b))
  where
    mapped : (t : Bool) → option_map (λ (l : Line). l.session) (cond t (Some (fresh_line (suc b.given) b.now)) (row_at line_number k b.lines)) ≡ cond t (Some None) (session_among k b.lines)
    mapped true = refl
    mapped false = refl

-- ---- sessions that are closed, or resumed

-- closing a session closes that one alone
pub closed_by_close : (who : Whose) (moment k : ℕ) (r : Records) (x : Option ℕ) → closed_at who.birth r ≡ Some x → closed_at k (stored_after (At who (Close moment)) r) ≡ cond (nat_eq who.birth k) (Some (Some moment)) (closed_at k r)
closed_by_close who moment k r x there = by (session_at who.birth r) refl
  where
    by : (o : Option Session) → session_at who.birth r ≡ o → closed_at k (changed_all (part_rows_of (Close moment) o) r) ≡ cond (nat_eq who.birth k) (Some (Some moment)) (closed_at k r)
    by None is = let clash : None ≡ Some x = sym (ap (option_map (λ (s : Session). s.closed)) is) ∙ there in absurd cc
    by (Some s) is =
        let its : s.birth ≡ who.birth = found_key birth_of who.birth s r.sessions is in
        closed_closed moment s k r (ap (λ (n : ℕ). session_at n r) its ∙ is) ∙ ap (λ (n : ℕ). cond (nat_eq n k) (Some (Some moment)) (closed_at k r)) its

closed_by_resume : (s : Session) (expiry : ℕ) (will : Option Will) (k : ℕ) (r : Records) → session_at s.birth r ≡ Some s
    → closed_at k (stored_after (At (whose s) (Resume expiry will)) r) ≡ cond (nat_eq s.birth k) (Some None) (closed_at k r)
closed_by_resume s expiry will k r there =
    ap (λ (o : Option Session). closed_at k (changed_all (part_rows_of (Resume expiry will) o) r)) there ∙ closed_resumed expiry will s k r there

-- ---- deeds that connect, close and end nobody

-- deeds that connect nobody keep each session on at most one line
pub unique_quiet : (ds : List Deed) (b : Broker) → AreGood IsQuiet ds b → HasUniqueLines b → HasUniqueLines (after_all ds b)
unique_quiet ds b q u =
    let c = after_all ds b in
    let left = leaves ds b (still_quiet ds b q) in
    unique_of c (joined_same (sessions_on b) (closed_of b) (sessions_on c) (closed_of c) (joined_of b u) left.lines (λ k. closed_stays ds b k q)) (left.ascending u.ascending)
    (subst (λ (n : ℕ). IsBelow line_number (suc n) c.lines) (sym left.given) (left.below (suc b.given) u.given))

-- ---- a new line

-- so does a new line
pub unique_linked : (b : Broker) → HasUniqueLines b → HasUniqueLines (after (Link (suc b.given)) b)
unique_linked b u =
    let c = after (Link (suc b.given)) b in
    let none : session_on (suc b.given) b ≡ None = among_is (suc b.given) b ∙ ap (option_map (λ (l : Line). l.session)) (below_none line_number (suc b.given) b.lines u.given) in
    unique_of c (joined_linked (sessions_on b) (closed_of b) (sessions_on c) (closed_of c) (joined_of b u) (suc b.given) none (λ k. on_linked k b u.given) (λ k. refl))
    (subst (IsAscending line_number) (sym (linked_is b u.given)) (insert-ascending line_number (fresh_line (suc b.given) b.now) b.lines u.ascending))
    (subst (IsBelow line_number (suc (suc b.given))) (sym (linked_is b u.given))
    (below_insert line_number (suc (suc b.given)) (fresh_line (suc b.given) b.now) b.lines (omega arith) (below_more line_number (suc b.given) (suc (suc b.given)) b.lines (omega arith) u.given)))

-- ---- a line closes, and its session with it

gone_ascending : (n : ℕ) (b : Broker) → IsAscending line_number b.lines → IsAscending line_number (after (Gone n) b).lines
gone_ascending n b up = remove-ascending line_number n b.lines up

gone_below : (n m : ℕ) (b : Broker) → IsBelow line_number m b.lines → IsBelow line_number m (after (Gone n) b).lines
gone_below n m b low = below_filter line_number m (λ l. not (nat_eq l.number n)) b.lines low

unique_parted : (keeps_will : Bool) (n birth : ℕ) (s : Session) (b : Broker) → HasUniqueLines b → session_on n b ≡ Some (Some birth) → session_at birth b.records ≡ Some s
    → HasUniqueLines (after_all (Gone n ∷ closing_session keeps_will b.now (Some s)) b)
unique_parted true n birth s b u on there =
    let c = after (Gone n) b in
    let d = after (At (whose s) (Close b.now)) c in
    let its : s.birth ≡ birth = found_key birth_of birth s b.records.sessions there in
    let stands : closed_at s.birth b.records ≡ Some None = ap (λ (k : ℕ). closed_at k b.records) its ∙ u.stands n birth on in
    unique_of d
    (joined_parted (sessions_on b) (closed_of b) (sessions_on d) (closed_of d) (joined_of b u) n s.birth b.now (on ∙ ap (λ (k : ℕ). Some (Some k)) (sym its)) (λ k. on_gone n k b)
    (λ k. closed_by_close (whose s) b.now k b.records None stands))
    (gone_ascending n b u.ascending) (gone_below n (suc b.given) b u.given)
unique_parted false n birth s b u on there =
    let c = after (Gone n) b in
    let e = after (At (whose s) DropWill) c in
    let d = after (At (whose s) (Close b.now)) e in
    let same : (k : ℕ) → closed_at k e.records ≡ closed_at k b.records = λ k. closed_stays (At (whose s) DropWill ∷ []) c k (tt, tt) in
    let its : s.birth ≡ birth = found_key birth_of birth s b.records.sessions there in
    let stands : closed_at s.birth e.records ≡ Some None = same s.birth ∙ ap (λ (k : ℕ). closed_at k b.records) its ∙ u.stands n birth on in
    unique_of d
    (joined_parted (sessions_on b) (closed_of b) (sessions_on d) (closed_of d) (joined_of b u) n s.birth b.now (on ∙ ap (λ (k : ℕ). Some (Some k)) (sym its)) (λ k. on_gone n k b)
    (λ k. closed_by_close (whose s) b.now k e.records None stands ∙ ap (λ (o : Option (Option ℕ)). cond (nat_eq s.birth k) (Some (Some b.now)) o) (same k)))
    (gone_ascending n b u.ascending) (gone_below n (suc b.given) b u.given)

unique_closing : (keeps_will : Bool) (n : ℕ) (session : Option ℕ) (b : Broker) → HasUniqueLines b → session_on n b ≡ Some session → HasUniqueLines (after_all (Gone n ∷ closing_on keeps_will b.now session b.records) b)
unique_closing keeps_will n None b u on =
    let c = after (Gone n) b in
    unique_of c (joined_gone (sessions_on b) (closed_of b) (sessions_on c) (closed_of c) (joined_of b u) n on (λ k. on_gone n k b) (λ k. refl)) (gone_ascending n b u.ascending) (gone_below n (suc b.given) b u.given)
unique_closing keeps_will n (Some birth) b u on = by (session_at birth b.records) refl
  where
    by : (o : Option Session) → session_at birth b.records ≡ o → HasUniqueLines (after_all (Gone n ∷ closing_session keeps_will b.now o) b)
    by None is = let clash : None ≡ Some None = sym (ap (option_map (λ (s : Session). s.closed)) is) ∙ u.stands n birth on in absurd cc
    by (Some s) is = unique_parted keeps_will n birth s b u on is

-- so does the closing of a line
pub unique_closes : (keeps_will : Bool) (l : Line) (b : Broker) → IsOn l.number l.session b.lines → HasUniqueLines b → HasUniqueLines (after_all (closing keeps_will l b) b)
unique_closes keeps_will l b on u = unique_closing keeps_will l.number l.session b u (on_line_of l b u.ascending on)

-- ---- a session ends that isn't connected

-- so does the end of a closed session
pub unique_ended : (s : Session) (b : Broker) → (closed_at s.birth b.records ≡ Some None → ⊥) → HasUniqueLines b → HasUniqueLines (after_all (end_session s) b)
unique_ended s b shut u =
    let ds = map (λ e. At (whose s) (Leave e SessionEnded)) s.queue in
    let quiet = good_map IsQuiet (λ e. At (whose s) (Leave e SessionEnded)) (λ e x. tt) s.queue b in
    let c = after_all ds b in
    let v = unique_quiet ds b quiet u in
    let d = after (Finish (whose s)) c in
    subst HasUniqueLines (sym (after_append ds (Finish (whose s) ∷ []) b))
    (unique_of d (joined_ended (sessions_on c) (closed_of c) (sessions_on d) (closed_of d) (joined_of c v) s.birth (λ e. shut (sym (closed_stays ds b s.birth quiet) ∙ e)) (λ k. refl) (λ k. closed_finished (whose s) k c.records)) v.ascending v.given)

-- ---- a session is connected

unique_greeted : (l : Line) (c : Greeting) (birth : ℕ) (b d : Broker) → HasUniqueLines b → d.lines ≡ b.lines → d.given ≡ b.given → session_on l.number b ≡ Some None
    → (closed_at birth b.records ≡ Some None → ⊥) → ((k : ℕ) → closed_at k d.records ≡ cond (nat_eq birth k) (Some None) (closed_at k b.records)) → HasUniqueLines (after (greet l c birth) d)
unique_greeted l c birth b d u lines given free shut closed =
    let e = after (greet l c birth) d in
    let part = Greet birth c.keep_alive (window_of c) (largest_of c) (aliases_of c) in
    let same : (k : ℕ) → session_on k d ≡ session_on k b = λ k. ap (λ (ls : List Line). option_map (λ (x : Line). x.session) (find (λ (x : Line). nat_eq x.number k) ls)) lines in
    let up : IsAscending line_number d.lines = subst (IsAscending line_number) (sym lines) u.ascending in
    let low : IsBelow line_number (suc d.given) d.lines = subst (λ (n : ℕ). IsBelow line_number (suc n) d.lines) (sym given) (subst (IsBelow line_number (suc b.given)) (sym lines) u.given) in
    unique_of e
    (joined_greeted (sessions_on b) (closed_of b) (sessions_on e) (closed_of e) (joined_of b u) l.number birth free shut
    (λ k. on_greeted l.number k birth c.keep_alive (window_of c) (largest_of c) (aliases_of c) d None (same l.number ∙ free) ∙ ap (λ (o : Option (Option ℕ)). cond (nat_eq l.number k) (Some (Some birth)) o) (same k)) closed)
    (subst (IsAscending line_number) (sym (on_line_is d.now l.number part d.lines)) (change-ascending line_number l.number (line_after d.now part) d.lines (numbered d.now part) up))
    (subst (IsBelow line_number (suc d.given)) (sym (on_line_is d.now l.number part d.lines)) (below_change line_number (suc d.given) l.number (line_after d.now part) d.lines (numbered d.now part) low))

-- so does the resumption of a session that was closed
pub unique_resumed : (l : Line) (c : Greeting) (s : Session) (b : Broker) → session_at s.birth b.records ≡ Some s → session_on l.number b ≡ Some None → (closed_at s.birth b.records ≡ Some None → ⊥) → HasUniqueLines b
    → HasUniqueLines (after_all (At (whose s) (Resume (expiry_of c) (will_of c)) ∷ greet l c s.birth ∷ []) b)
unique_resumed l c s b there free shut u =
    unique_greeted l c s.birth b (after (At (whose s) (Resume (expiry_of c) (will_of c))) b) u refl refl free shut (λ k. closed_by_resume s (expiry_of c) (will_of c) k b.records there)

-- so does the beginning of a new session
pub unique_begun : (l : Line) (c : Greeting) (row : Columns) (b : Broker) → IsFit (Begin row (will_of c)) b → Coheres b.records → session_on l.number b ≡ Some None → HasUniqueLines b
    → HasUniqueLines (after_all (Begin row (will_of c) ∷ greet l c row.birth ∷ []) b)
unique_begun l c row b fit h free u =
    let r = b.records in
    let new : session_at row.birth r ≡ None = no_session r row.birth fit.next h.births in
    let room = or_right (has_row birth_of row.birth r.sessions) (nat_lt (length r.sessions) SESSION_LIMIT) fit.room in
    unique_greeted l c row.birth b (after (Begin row (will_of c)) b) u refl refl free
    (λ e. let clash : None ≡ Some None = sym (ap (option_map (λ (s : Session). s.closed)) new) ∙ e in absurd cc)
    (λ k. closed_begun row (will_of c) k r new room ∙ ap (λ (o : Option ℕ). cond (nat_eq row.birth k) (Some o) (closed_at k r)) fit.connected)
