-- Lines and their sessions after a deed, and when sessions were closed.
use Rattle.std.proofs.Common.{◌≡◌, ℕ, ◌<◌, Bool, true, false, cond, List, [], ◌∷◌, map, Option, Some, None, nat_eq, refl, sym, ap, subst, ◌∙◌, inl, inr}
use Rattle.std.specs.Prelude.{⊤, option_map, is_some, find}
use Rattle.std.proofs.lemmas.Bool.{cases_Bool, eqb-true}
use Rattle.mqtt_records.specs.declared.messages.message.Will.{Will}
use Rattle.mqtt_records.specs.declared.state.session.Session.{Session}
use Rattle.mqtt_records.specs.declared.state.session.Columns.{Columns}
use Rattle.mqtt_records.specs.declared.state.records.Records.{Records}
use Rattle.mqtt_records.specs.declared.state.change.Change.TheVariants.{PutSession, SetSession}
use Rattle.mqtt_base.specs.declared.limits.TheConstants.{SESSION_LIMIT}
use Rattle.mqtt_records.specs.lists.Order.{IsAbove, IsAscending, IsBelow, HasRoomFor, row_at, has_row, put_row, change_row}
use Rattle.mqtt_records.proofs.lists_lemmas.LookUps.{row_at-put_row, row_at-remove_row}
use Rattle.mqtt_records.proofs.lists_lemmas.OrderLemmas.{change-ascending}
use Rattle.mqtt_records.specs.state.Session.{birth_of, fresh, with_columns, with_will, with_subscription, without_subscription, with_open, without_open, with_copy, with_phase, without_copy}
use Rattle.mqtt_records.specs.state.Records.{put_session, changed, changed_all}
use Rattle.mqtt_rules.specs.step.State.{Line, Broker, session_at, is_of}
use Rattle.mqtt_rules.specs.step.Deeds.{Whose, Part, Resume, Close, SetExpiry, DropWill, Subscribe, Unsubscribe, Open, Release, Enter, Mark, Leave, LinePart, Hear, Greet, SetAlias, Went, Deed, Accept, Begin, Name, Count, At, Finish, Keep, Forget, RefuseWill, Link, On, Send, Gone, will_row, new_entry, part_rows, part_rows_of, stored_after, line_after, on_line, without_place, lines_at, after, after_all}
use Rattle.mqtt_rules.specs.step.Lines.{line_number, session_on, closed_at}
use Rattle.mqtt_rules.specs.step.Laws.{client_at}
use Rattle.mqtt_rules.proofs.step_lemmas.flight.FlightRows.{found_key}
use Rattle.mqtt_rules.proofs.step_lemmas.acts.Goods.{AreGood}
use Rattle.mqtt_rules.proofs.step_lemmas.acts.LookedUp.{row_at-change_row, field_changed, field_kept, client_at_part, client_finished}
use Rattle.mqtt_rules.proofs.step_lemmas.numbers.NumberBirths.{below_change}
use Rattle.mqtt_rules.proofs.step_lemmas.numbers.Counters.{Counts, counts_deed}

-- ---- lines

-- the session on the line of a number, among these lines
abbrev pub session_among : ℕ → List Line → Option (Option ℕ)
session_among n ls = option_map (λ l. l.session) (row_at line_number n ls)

found_row : (n : ℕ) (ls : List Line) → find (λ l. nat_eq l.number n) ls ≡ row_at line_number n ls
found_row n [] = refl
found_row n (l ∷ ls) = ap (λ (o : Option Line). cond (nat_eq l.number n) (Some l) o) (found_row n ls)

-- who stands on a line is who is found there among all lines
pub among_is : (n : ℕ) (b : Broker) → session_on n b ≡ session_among n b.lines
among_is n b = ap (option_map (λ (l : Line). l.session)) (found_row n b.lines)

-- lines with the same numbers and sessions
pub record AreLike (old new : List Line) : Type 0 where
  pub sessions : (n : ℕ) → session_among n new ≡ session_among n old
  pub ascending : IsAscending line_number old → IsAscending line_number new
  pub below : (n : ℕ) → IsBelow line_number n old → IsBelow line_number n new

like_same : (ls : List Line) → AreLike ls ls
like_same ls = record { sessions = λ n. refl; ascending = λ up. up; below = λ n low. low }

module _ (f : Line → Line) (number : (l : Line) → (f l).number ≡ l.number) (session : (l : Line) → (f l).session ≡ l.session) where
  mapped_sessions : (n : ℕ) (ls : List Line) → session_among n (map f ls) ≡ session_among n ls
  mapped_sessions n [] = refl
  mapped_sessions n (l ∷ ls) = elim (cases_Bool (nat_eq l.number n)) [
    | inl here ↦ let new : nat_eq (f l).number n ≡ true = ap (λ (k : ℕ). nat_eq k n) (number l) ∙ here in rw (here, new) (ap Some (session l))
    | inr other ↦ let new : nat_eq (f l).number n ≡ false = ap (λ (k : ℕ). nat_eq k n) (number l) ∙ other in rw (other, new) (mapped_sessions n ls)
  ]

  mapped_above : (n : ℕ) (ls : List Line) → IsAbove line_number n ls → IsAbove line_number n (map f ls)
  mapped_above n [] up = tt
  mapped_above n (l ∷ ls) up = (subst (λ (k : ℕ). n < k) (sym (number l)) up.0, mapped_above n ls up.1)

  mapped_ascending : (ls : List Line) → IsAscending line_number ls → IsAscending line_number (map f ls)
  mapped_ascending [] up = tt
  mapped_ascending (l ∷ ls) up = (subst (λ (k : ℕ). IsAbove line_number k (map f ls)) (sym (number l)) (mapped_above l.number ls up.0), mapped_ascending ls up.1)

  mapped_below : (n : ℕ) (ls : List Line) → IsBelow line_number n ls → IsBelow line_number n (map f ls)
  mapped_below n [] low = tt
  mapped_below n (l ∷ ls) low = (subst (λ (k : ℕ). k < n) (sym (number l)) low.0, mapped_below n ls low.1)

  like_mapped : (ls : List Line) → AreLike ls (map f ls)
  like_mapped ls = record { sessions = λ n. mapped_sessions n ls; ascending = mapped_ascending ls; below = λ n low. mapped_below n ls low }

  -- a change of one line
  changed_sessions : (n j : ℕ) (ls : List Line) → session_among n (change_row line_number j f ls) ≡ session_among n ls
  changed_sessions n j ls = ap (option_map (λ (l : Line). l.session)) (row_at-change_row line_number n j f ls number) ∙ either (nat_eq j n) (row_at line_number n ls)
    where
      either : (t : Bool) (o : Option Line) → option_map (λ (l : Line). l.session) (cond t (option_map f o) o) ≡ option_map (λ (l : Line). l.session) o
      either true None = refl
      either true (Some l) = ap Some (session l)
      either false o = refl

  like_changed : (j : ℕ) (ls : List Line) → AreLike ls (change_row line_number j f ls)
  like_changed j ls = record {
    sessions = λ n. changed_sessions n j ls;
    ascending = change-ascending line_number j f ls number;
    below = λ n low. below_change line_number n j f ls number low;
  }

-- what happens on a line is a change of the row with its number
pub on_line_is : (now n : ℕ) (part : LinePart) (ls : List Line) → on_line now n part ls ≡ change_row line_number n (line_after now part) ls
on_line_is now n part [] = refl
on_line_is now n part (l ∷ ls) = ap (λ (rest : List Line). cond (nat_eq l.number n) (line_after now part l ∷ ls) (l ∷ rest)) (on_line_is now n part ls)

-- what happens on a line keeps its number
pub numbered : (now : ℕ) (part : LinePart) (l : Line) → (line_after now part l).number ≡ l.number
numbered now Hear l = refl
numbered now (Greet birth keep_alive window largest most) l = refl
numbered now (SetAlias alias topic) l = refl
numbered now (Went place) l = refl

without_number : (birth place : ℕ) (l : Line) → (without_place birth place l).number ≡ l.number
without_number birth place l = elim (cases_Bool (is_of l.session birth)) [ inl its ↦ rw its refl | inr other ↦ rw other refl ]

without_session : (birth place : ℕ) (l : Line) → (without_place birth place l).session ≡ l.session
without_session birth place l = elim (cases_Bool (is_of l.session birth)) [ inl its ↦ rw its refl | inr other ↦ rw other refl ]

-- whatever happens to a session leaves the lines' numbers and sessions
like_part : (birth : ℕ) (part : Part) (ls : List Line) → AreLike ls (lines_at birth part ls)
like_part birth (Leave e ending) ls = like_mapped (without_place birth e.place) (without_number birth e.place) (without_session birth e.place) ls
like_part birth (Resume expiry will) ls = like_same ls
like_part birth (Close moment) ls = like_same ls
like_part birth (SetExpiry expiry) ls = like_same ls
like_part birth DropWill ls = like_same ls
like_part birth (Subscribe x) ls = like_same ls
like_part birth (Unsubscribe text) ls = like_same ls
like_part birth (Open id) ls = like_same ls
like_part birth (Release id) ls = like_same ls
like_part birth (Enter copy) ls = like_same ls
like_part birth (Mark place phase) ls = like_same ls

-- ---- deeds that connect nobody

-- all that may happen to a session but that it is resumed
abbrev pub IsStillPart : Part → Type 0
IsStillPart (Resume expiry will) = ⊥
IsStillPart part = ⊤

-- and but that it is closed
abbrev pub IsQuietPart : Part → Type 0
IsQuietPart (Resume expiry will) = ⊥
IsQuietPart (Close moment) = ⊥
IsQuietPart part = ⊤

abbrev pub IsQuietOn : LinePart → Type 0
IsQuietOn (Greet birth keep_alive window largest most) = ⊥
IsQuietOn part = ⊤

-- no line comes or goes, and no session is connected by it
abbrev pub IsStill : Deed → Broker → Type 0
IsStill (Begin row will) b = ⊥
IsStill (Name n) b = ⊥
IsStill (At who part) b = IsStillPart part
IsStill (Link n) b = ⊥
IsStill (On n part) b = IsQuietOn part
IsStill (Gone n) b = ⊥
IsStill d b = ⊤

-- nor is one closed, or ended
abbrev pub IsQuiet : Deed → Broker → Type 0
IsQuiet (Begin row will) b = ⊥
IsQuiet (Name n) b = ⊥
IsQuiet (At who part) b = IsQuietPart part
IsQuiet (Finish who) b = ⊥
IsQuiet (Link n) b = ⊥
IsQuiet (On n part) b = IsQuietOn part
IsQuiet (Gone n) b = ⊥
IsQuiet d b = ⊤

like_on : (now n : ℕ) (part : LinePart) (ls : List Line) → IsQuietOn part → AreLike ls (on_line now n part ls)
like_on now n Hear ls q = subst (AreLike ls) (sym (on_line_is now n Hear ls)) (like_changed (line_after now Hear) (λ l. refl) (λ l. refl) n ls)
like_on now n (SetAlias alias topic) ls q =
    subst (AreLike ls) (sym (on_line_is now n (SetAlias alias topic) ls)) (like_changed (line_after now (SetAlias alias topic)) (λ l. refl) (λ l. refl) n ls)
like_on now n (Went place) ls q = subst (AreLike ls) (sym (on_line_is now n (Went place) ls)) (like_changed (line_after now (Went place)) (λ l. refl) (λ l. refl) n ls)
like_on now n (Greet birth keep_alive window largest most) ls q = absurd q

like_deed : (d : Deed) (b : Broker) → IsStill d b → AreLike b.lines (after d b).lines
like_deed (At who part) b q = like_part who.birth part b.lines
like_deed (On n part) b q = like_on b.now n part b.lines q
like_deed (Begin row will) b q = absurd q
like_deed (Name n) b q = absurd q
like_deed (Link n) b q = absurd q
like_deed (Gone n) b q = absurd q
like_deed (Accept number origin m) b q = like_same b.lines
like_deed (Count n) b q = like_same b.lines
like_deed (Finish who) b q = like_same b.lines
like_deed (Keep kept) b q = like_same b.lines
like_deed (Forget place) b q = like_same b.lines
like_deed (RefuseWill who) b q = like_same b.lines
like_deed (Send n packet) b q = like_same b.lines

given_deed : (d : Deed) (b : Broker) → IsStill d b → (after d b).given ≡ b.given
given_deed (Link n) b q = absurd q
given_deed d b q = refl

autos_deed : (d : Deed) (b : Broker) → IsStill d b → (after d b).records.autos ≡ b.records.autos
autos_deed (Name n) b q = absurd q
autos_deed (Begin row will) b q = absurd q
autos_deed (At who part) b q = ap (λ (c : Counts). c.autos) (counts_deed (At who part) b.records)
autos_deed d b q = refl

-- ---- when sessions were closed

abbrev closing_of : Session → Option ℕ
closing_of s = s.closed

-- a session's columns are set
closed_columns : (row : Columns) (s : Session) (k : ℕ) (r : Records) → session_at row.birth r ≡ Some s
    → closed_at k (changed (SetSession row) r) ≡ cond (nat_eq row.birth k) (Some row.closed) (closed_at k r)
closed_columns row s k r there =
    ap (option_map closing_of) (row_at-change_row birth_of k row.birth (with_columns row) r.sessions (λ t. refl)) ∙ either (nat_eq row.birth k) refl
  where
    either : (t : Bool) → nat_eq row.birth k ≡ t → option_map closing_of (cond t (option_map (with_columns row) (session_at k r)) (session_at k r)) ≡ cond t (Some row.closed) (closed_at k r)
    either false is = refl
    either true is =
        let same : session_at k r ≡ Some s = ap (λ (n : ℕ). session_at n r) (sym (eqb-true row.birth k is)) ∙ there in
        ap (λ (o : Option Session). option_map closing_of (option_map (with_columns row) o)) same

closed_will : (birth : ℕ) (will : Option Will) (k : ℕ) (r : Records) → closed_at k (changed_all (will_row birth will ∷ []) r) ≡ closed_at k r
closed_will birth None k r = field_kept closing_of birth k (with_will None) r (λ s. refl) (λ s. refl)
closed_will birth (Some w) k r = field_kept closing_of birth k (with_will (Some w)) r (λ s. refl) (λ s. refl)

-- a session is resumed, or closed
pub closed_resumed : (expiry : ℕ) (will : Option Will) (s : Session) (k : ℕ) (r : Records) → session_at s.birth r ≡ Some s
    → closed_at k (changed_all (part_rows (Resume expiry will) s) r) ≡ cond (nat_eq s.birth k) (Some None) (closed_at k r)
closed_resumed expiry will s k r there =
    let row : Columns = record { birth = s.birth; client = s.client; expiry = expiry; closed = None } in
    closed_will s.birth will k (changed (SetSession row) r) ∙ closed_columns row s k r there

-- the rows of closing a session close that one alone
pub closed_closed : (moment : ℕ) (s : Session) (k : ℕ) (r : Records) → session_at s.birth r ≡ Some s
    → closed_at k (changed_all (part_rows (Close moment) s) r) ≡ cond (nat_eq s.birth k) (Some (Some moment)) (closed_at k r)
closed_closed moment s k r there = closed_columns _ s k r there

closed_part : (part : Part) (s : Session) (k : ℕ) (r : Records) → session_at s.birth r ≡ Some s → IsQuietPart part → closed_at k (changed_all (part_rows part s) r) ≡ closed_at k r
closed_part (Resume expiry will) s k r there q = absurd q
closed_part (Close moment) s k r there q = absurd q
closed_part (SetExpiry expiry) s k r there q =
    let row : Columns = record { birth = s.birth; client = s.client; expiry = expiry; closed = s.closed } in
    field_changed closing_of s.birth k (with_columns row) r (λ t. refl)
    (ap (λ (o : Option Session). option_map closing_of (option_map (with_columns row) o)) there ∙ sym (ap (option_map closing_of) there))
closed_part DropWill s k r there q = field_kept closing_of s.birth k (with_will None) r (λ t. refl) (λ t. refl)
closed_part (Subscribe x) s k r there q = field_kept closing_of s.birth k (with_subscription x) r (λ t. refl) (λ t. refl)
closed_part (Unsubscribe text) s k r there q = field_kept closing_of s.birth k (without_subscription text) r (λ t. refl) (λ t. refl)
closed_part (Open id) s k r there q = field_kept closing_of s.birth k (with_open id) r (λ t. refl) (λ t. refl)
closed_part (Release id) s k r there q = field_kept closing_of s.birth k (without_open id) r (λ t. refl) (λ t. refl)
closed_part (Enter copy) s k r there q = field_kept closing_of s.birth k (with_copy (new_entry copy s.queue)) r (λ t. refl) (λ t. refl)
closed_part (Mark place phase) s k r there q = field_kept closing_of s.birth k (with_phase place phase) r (λ t. refl) (λ t. refl)
closed_part (Leave e ending) s k r there q = field_kept closing_of s.birth k (without_copy e.place) r (λ t. refl) (λ t. refl)

own : (birth : ℕ) (s : Session) (r : Records) → session_at birth r ≡ Some s → session_at s.birth r ≡ Some s
own birth s r there = ap (λ (n : ℕ). session_at n r) (found_key birth_of birth s r.sessions there) ∙ there

closed_part_of : (birth : ℕ) (part : Part) (k : ℕ) (r : Records) (o : Option Session) → session_at birth r ≡ o → IsQuietPart part → closed_at k (changed_all (part_rows_of part o) r) ≡ closed_at k r
closed_part_of birth part k r None is q = refl
closed_part_of birth part k r (Some s) is q = closed_part part s k r (own birth s r is) q

closed_deed : (d : Deed) (b : Broker) (k : ℕ) → IsQuiet d b → closed_at k (after d b).records ≡ closed_at k b.records
closed_deed (At who part) b k q = closed_part_of who.birth part k b.records (session_at who.birth b.records) refl q
closed_deed (Begin row will) b k q = absurd q
closed_deed (Name n) b k q = absurd q
closed_deed (Finish who) b k q = absurd q
closed_deed (Link n) b k q = absurd q
closed_deed (Gone n) b k q = absurd q
closed_deed (Accept number origin m) b k q = refl
closed_deed (Count n) b k q = refl
closed_deed (Keep kept) b k q = refl
closed_deed (Forget place) b k q = refl
closed_deed (RefuseWill who) b k q = refl
closed_deed (On n part) b k q = refl
closed_deed (Send n packet) b k q = refl

-- one that ends, and one that begins
pub closed_finished : (who : Whose) (k : ℕ) (r : Records) → closed_at k (stored_after (Finish who) r) ≡ cond (nat_eq who.birth k) None (closed_at k r)
closed_finished who k r = ap (option_map closing_of) (row_at-remove_row birth_of k who.birth r.sessions) ∙ mapped (nat_eq who.birth k)
  where
    mapped : (t : Bool) → option_map closing_of (cond t None (session_at k r)) ≡ cond t None (closed_at k r)
    mapped true = refl
    mapped false = refl

closed_put : (row : Columns) (k : ℕ) (r : Records) → session_at row.birth r ≡ None → HasRoomFor birth_of SESSION_LIMIT row.birth r.sessions
    → closed_at k (changed (PutSession row) r) ≡ cond (nat_eq row.birth k) (Some row.closed) (closed_at k r)
closed_put row k r new room =
    let not_there : has_row birth_of row.birth r.sessions ≡ false = ap is_some new in
    let is : put_session row r.sessions ≡ put_row birth_of SESSION_LIMIT (fresh row) r.sessions
    = ap (λ (t : Bool). cond t (change_row birth_of row.birth (with_columns row) r.sessions) (put_row birth_of SESSION_LIMIT (fresh row) r.sessions)) not_there
    in
    ap (λ (ss : List Session). option_map closing_of (row_at birth_of k ss)) is
    ∙ ap (option_map closing_of) (row_at-put_row birth_of SESSION_LIMIT k (fresh row) r.sessions room)
    ∙ mapped (nat_eq row.birth k)
  where
    mapped : (t : Bool) → option_map closing_of (cond t (Some (fresh row)) (session_at k r)) ≡ cond t (Some row.closed) (closed_at k r)
    mapped true = refl
    mapped false = refl

-- beginning a session says of that one alone whether it is closed
pub closed_begun : (row : Columns) (will : Option Will) (k : ℕ) (r : Records) → session_at row.birth r ≡ None → HasRoomFor birth_of SESSION_LIMIT row.birth r.sessions
    → closed_at k (stored_after (Begin row will) r) ≡ cond (nat_eq row.birth k) (Some row.closed) (closed_at k r)
closed_begun row None k r new room = closed_put row k r new room
closed_begun row (Some w) k r new room =
    field_kept closing_of row.birth k (with_will (Some w)) (changed (PutSession row) r) (λ s. refl) (λ s. refl) ∙ closed_put row k r new room

-- ---- what still deeds leave: nobody who wasn't is connected, and no client identifier is new

falls_cond : (t : Bool) (o old : Option (Option ℕ)) → cond t o old ≡ Some None → (o ≡ Some None → ⊥) → old ≡ Some None
falls_cond true o old e isnt = absurd (isnt e)
falls_cond false o old e isnt = e

falls_part_of : (birth : ℕ) (part : Part) (k : ℕ) (r : Records) (o : Option Session) → session_at birth r ≡ o → IsStillPart part → closed_at k (changed_all (part_rows_of part o) r) ≡ Some None → closed_at k r ≡ Some None
falls_part_of birth part k r None is q e = e
falls_part_of birth (Close moment) k r (Some s) is q e =
    falls_cond (nat_eq s.birth k) (Some (Some moment)) (closed_at k r) (sym (closed_closed moment s k r (own birth s r is)) ∙ e) (λ is. absurd cc)
falls_part_of birth (Resume expiry will) k r (Some s) is q e = absurd q
falls_part_of birth (SetExpiry expiry) k r (Some s) is q e = sym (closed_part (SetExpiry expiry) s k r (own birth s r is) tt) ∙ e
falls_part_of birth DropWill k r (Some s) is q e = sym (closed_part DropWill s k r (own birth s r is) tt) ∙ e
falls_part_of birth (Subscribe x) k r (Some s) is q e = sym (closed_part (Subscribe x) s k r (own birth s r is) tt) ∙ e
falls_part_of birth (Unsubscribe text) k r (Some s) is q e = sym (closed_part (Unsubscribe text) s k r (own birth s r is) tt) ∙ e
falls_part_of birth (Open id) k r (Some s) is q e = sym (closed_part (Open id) s k r (own birth s r is) tt) ∙ e
falls_part_of birth (Release id) k r (Some s) is q e = sym (closed_part (Release id) s k r (own birth s r is) tt) ∙ e
falls_part_of birth (Enter copy) k r (Some s) is q e = sym (closed_part (Enter copy) s k r (own birth s r is) tt) ∙ e
falls_part_of birth (Mark place phase) k r (Some s) is q e = sym (closed_part (Mark place phase) s k r (own birth s r is) tt) ∙ e
falls_part_of birth (Leave x ending) k r (Some s) is q e = sym (closed_part (Leave x ending) s k r (own birth s r is) tt) ∙ e

falls_deed : (d : Deed) (b : Broker) (k : ℕ) → IsStill d b → closed_at k (after d b).records ≡ Some None → closed_at k b.records ≡ Some None
falls_deed (At who part) b k q e = falls_part_of who.birth part k b.records (session_at who.birth b.records) refl q e
falls_deed (Finish who) b k q e = falls_cond (nat_eq who.birth k) None (closed_at k b.records) (sym (closed_finished who k b.records) ∙ e) (λ is. absurd cc)
falls_deed (Begin row will) b k q e = absurd q
falls_deed (Name n) b k q e = absurd q
falls_deed (Link n) b k q e = absurd q
falls_deed (Gone n) b k q e = absurd q
falls_deed (Accept number origin m) b k q e = e
falls_deed (Count n) b k q e = e
falls_deed (Keep kept) b k q e = e
falls_deed (Forget place) b k q e = e
falls_deed (RefuseWill who) b k q e = e
falls_deed (On n part) b k q e = e
falls_deed (Send n packet) b k q e = e

named_cond : (t : Bool) (old : Option (List ℕ)) (client : List ℕ) → cond t None old ≡ Some client → old ≡ Some client
named_cond true old client e = absurd cc
named_cond false old client e = e

names_deed : (d : Deed) (b : Broker) (k : ℕ) (client : List ℕ) → IsStill d b → client_at k (after d b).records ≡ Some client → client_at k b.records ≡ Some client
names_deed (At who part) b k client q e = sym (client_at_part who part k b.records) ∙ e
names_deed (Finish who) b k client q e = named_cond (nat_eq who.birth k) (client_at k b.records) client (sym (client_finished who k b.records) ∙ e)
names_deed (Begin row will) b k client q e = absurd q
names_deed (Name n) b k client q e = absurd q
names_deed (Link n) b k client q e = absurd q
names_deed (Gone n) b k client q e = absurd q
names_deed (Accept number origin m) b k client q e = e
names_deed (Count n) b k client q e = e
names_deed (Keep kept) b k client q e = e
names_deed (Forget place) b k client q e = e
names_deed (RefuseWill who) b k client q e = e
names_deed (On n part) b k client q e = e
names_deed (Send n packet) b k client q e = e

-- ---- lists of such deeds

-- who stands on which line stays, or is taken off, and nobody else is there
pub record Leaves (b c : Broker) : Type 0 where
  pub lines : (n : ℕ) → session_on n c ≡ session_on n b
  pub ascending : IsAscending line_number b.lines → IsAscending line_number c.lines
  pub below : (n : ℕ) → IsBelow line_number n b.lines → IsBelow line_number n c.lines
  pub given : c.given ≡ b.given
  pub autos : c.records.autos ≡ b.records.autos
  pub falls : (k : ℕ) → closed_at k c.records ≡ Some None → closed_at k b.records ≡ Some None
  pub names : (k : ℕ) (client : List ℕ) → client_at k c.records ≡ Some client → client_at k b.records ≡ Some client

leaves_deed : (d : Deed) (b : Broker) → IsStill d b → Leaves b (after d b)
leaves_deed d b q =
    let like = like_deed d b q in
    record {
      lines = λ n. among_is n (after d b) ∙ like.sessions n ∙ sym (among_is n b);
      ascending = like.ascending;
      below = like.below;
      given = given_deed d b q;
      autos = autos_deed d b q;
      falls = λ k e. falls_deed d b k q e;
      names = λ k client e. names_deed d b k client q e;
    }

-- deeds that connect nobody leave who stands on which line, or take it off
pub leaves : (ds : List Deed) (b : Broker) → AreGood IsStill ds b → Leaves b (after_all ds b)
leaves [] b q = record { lines = λ n. refl; ascending = λ up. up; below = λ n low. low; given = refl; autos = refl; falls = λ k e. e; names = λ k client e. e }
leaves (d ∷ ds) b q =
    let one = leaves_deed d b q.0 in
    let more = leaves ds (after d b) q.1 in
    record {
      lines = λ n. more.lines n ∙ one.lines n;
      ascending = λ up. more.ascending (one.ascending up);
      below = λ n low. more.below n (one.below n low);
      given = more.given ∙ one.given;
      autos = more.autos ∙ one.autos;
      falls = λ k e. one.falls k (more.falls k e);
      names = λ k client e. one.names k client (more.names k client e);
    }

-- deeds that connect nobody and close nobody leave each session as closed as it was
pub closed_stays : (ds : List Deed) (b : Broker) (k : ℕ) → AreGood IsQuiet ds b → closed_at k (after_all ds b).records ≡ closed_at k b.records
closed_stays [] b k q = refl
closed_stays (d ∷ ds) b k q = closed_stays ds (after d b) k q.1 ∙ closed_deed d b k q.0

still_part : (part : Part) → IsQuietPart part → IsStillPart part
still_part (Resume expiry will) q = absurd q
still_part (Close moment) q = absurd q
still_part part q = tt

still_deed : (d : Deed) (b : Broker) → IsQuiet d b → IsStill d b
still_deed (At who part) b q = still_part part q
still_deed (On n part) b q = q
still_deed (Begin row will) b q = absurd q
still_deed (Name n) b q = absurd q
still_deed (Finish who) b q = absurd q
still_deed (Link n) b q = absurd q
still_deed (Gone n) b q = absurd q
still_deed d b q = tt

-- what neither connects nor closes anybody connects nobody
pub still_quiet : (ds : List Deed) (b : Broker) → AreGood IsQuiet ds b → AreGood IsStill ds b
still_quiet [] b q = tt
still_quiet (d ∷ ds) b q = (still_deed d b q.0, still_quiet ds (after d b) q.1)
