-- Deeds of a step on another line: they leave a session, and the line that it is connected on, alone.
use Rattle.std.proofs.Common.{◌≡◌, ℕ, ◌≤◌, ◌<◌, Bool, true, false, cond, not, ◌⊎◌, List, [], ◌∷◌, ◌++◌, length, filter, map, Option, Some, None, nat_eq, nat_lt, refl, sym, ap, ◌∙◌, inl, inr, arith}
use Rattle.std.specs.Prelude.{⊤}
use Rattle.std.specs.List.{AllByRecursion}
use Rattle.std.proofs.lemmas.Bool.{eqb-true, cases_Bool}
use Rattle.std.proofs.lemmas.Cmp.{nat_eq_equiv}
use Rattle.mqtt_records.specs.declared.messages.message.Will.{Will}
use Rattle.mqtt_records.specs.declared.state.session.Columns.{Columns}
use Rattle.mqtt_records.specs.declared.state.session.Session.{Session}
use Rattle.mqtt_base.specs.declared.limits.TheConstants.{SESSION_LIMIT}
use Rattle.mqtt_records.specs.declared.state.records.Records.{Records}
use Rattle.mqtt_records.specs.declared.state.change.Change.TheVariants.{SetSession}
use Rattle.mqtt_records.specs.lists.Order.{has_row, insert_row, change_row}
use Rattle.mqtt_records.specs.state.Session.{birth_of, fresh, columns_of, with_columns}
use Rattle.mqtt_records.specs.state.Records.{put_session, changed, changed_all}
use Rattle.mqtt_rules.specs.step.State.{Line, Broker, session_at, is_of}
use Rattle.mqtt_rules.specs.step.Deeds.{Part, Resume, Close, SetExpiry, DropWill, Subscribe, Unsubscribe, Open, Release, Enter, Mark, Leave, LinePart, Hear, Greet, SetAlias, Went, Deed, Accept, Begin, Name, Count, At, Finish, Keep, Forget, RefuseWill, Link, On, Send, Gone, will_row, part_rows, part_rows_of, begin_rows, stored_after, line_after, on_line, without_place, lines_at, lines_after, given_after, after, after_all, output, closing, fresh_line}
use Rattle.mqtt_rules.proofs.step_lemmas.flight.FlightRows.{found_key, all_at, all_removed, all_inserted}
use Rattle.mqtt_world_model.specs.model.Hops.{About, IsOurs, IsOurLine, Own}
use Rattle.mqtt_world_model.proofs.model_lemmas.others.Rows.{face_at, AreBeside, beside_changes}
use Rattle.mqtt_world_model.proofs.model_lemmas.others.Quiet.{IsQuietPart, IsQuietOn, IsQuiet, heard_by, told_to, is_closing, closes, session_on, line_on, line_linked, quiet_face, quiet_line, quiet_told, quiet_closing}

-- ---- far deeds: quiet ones, and what another client's CONNECT and PUBLISH do

abbrev pub IsAside : List ℕ → ℕ → ℕ → Deed → Type 0
IsAside client birth n (Accept number origin m) = ⊤
IsAside client birth n (Begin row will) = (birth < row.birth) × (row.client ≡ client → ⊥)
IsAside client birth n (On m (Greet other keep_alive window largest most)) = (nat_eq m n ≡ false) × (nat_eq other birth ≡ false)
IsAside client birth n (Link m) = n < m
IsAside client birth n d = ⊥

abbrev pub IsFar : List ℕ → ℕ → ℕ → Deed → Type 0
IsFar client birth n d = IsQuiet birth n d ⊎ IsAside client birth n d

abbrev pub AreFar : List ℕ → ℕ → ℕ → List Deed → Type 0
AreFar client birth n [] = ⊤
AreFar client birth n (d ∷ ds) = IsFar client birth n d × AreFar client birth n ds

-- a smaller number differs
pub less_differs : (a b : ℕ) → a < b → nat_eq b a ≡ false
less_differs a b less = elim (cases_Bool (nat_eq b a)) [
  | inl same ↦ let is = eqb-true b a same in absurd (omega (arith, is, less))
  | inr other ↦ other
]

-- ---- what a far deed leaves

begin_beside : (birth : ℕ) (row : Columns) (will : Option Will) → nat_eq row.birth birth ≡ false → AreBeside birth (begin_rows row will)
begin_beside birth row None q = (q, (tt, tt))
begin_beside birth row (Some will) q = (q, (tt, (q, tt)))

aside_face : (client : List ℕ) (birth n : ℕ) (d : Deed) (r : Records) → IsAside client birth n d → face_at birth (stored_after d r) ≡ face_at birth r
aside_face client birth n (Accept number origin m) r q = refl
aside_face client birth n (Begin row will) r q = beside_changes birth (begin_rows row will) r (begin_beside birth row will (less_differs birth row.birth q.0))
aside_face client birth n (On m part) r q = refl
aside_face client birth n (Link m) r q = refl
aside_face client birth n (Name k) r q = absurd q
aside_face client birth n (Count k) r q = absurd q
aside_face client birth n (At who part) r q = absurd q
aside_face client birth n (Finish who) r q = absurd q
aside_face client birth n (Keep kept) r q = absurd q
aside_face client birth n (Forget place) r q = absurd q
aside_face client birth n (RefuseWill who) r q = absurd q
aside_face client birth n (Send m packet) r q = absurd q
aside_face client birth n (Gone m) r q = absurd q

aside_line : (client : List ℕ) (birth n now : ℕ) (d : Deed) (ls : List Line) → IsAside client birth n d → session_on n (lines_after now d ls) ≡ session_on n ls
aside_line client birth n now (Accept number origin m) ls q = refl
aside_line client birth n now (Begin row will) ls q = refl
aside_line client birth n now (On m (Greet other keep_alive window largest most)) ls q = line_on now n m (Greet other keep_alive window largest most) ls (inl q.0)
aside_line client birth n now (On m Hear) ls q = absurd q
aside_line client birth n now (On m (SetAlias alias topic)) ls q = absurd q
aside_line client birth n now (On m (Went place)) ls q = absurd q
aside_line client birth n now (Link m) ls q = line_linked n (fresh_line m now) ls (less_differs n m q)
aside_line client birth n now (Name k) ls q = absurd q
aside_line client birth n now (Count k) ls q = absurd q
aside_line client birth n now (At who part) ls q = absurd q
aside_line client birth n now (Finish who) ls q = absurd q
aside_line client birth n now (Keep kept) ls q = absurd q
aside_line client birth n now (Forget place) ls q = absurd q
aside_line client birth n now (RefuseWill who) ls q = absurd q
aside_line client birth n now (Send m packet) ls q = absurd q
aside_line client birth n now (Gone m) ls q = absurd q

aside_told : (client : List ℕ) (birth n : ℕ) (d : Deed) → IsAside client birth n d → heard_by n (output d) ≡ None
aside_told client birth n (Send m packet) q = absurd q
aside_told client birth n (Accept number origin m) q = refl
aside_told client birth n (Begin row will) q = refl
aside_told client birth n (On m part) q = refl
aside_told client birth n (Link m) q = refl
aside_told client birth n (Name k) q = refl
aside_told client birth n (Count k) q = refl
aside_told client birth n (At who part) q = refl
aside_told client birth n (Finish who) q = refl
aside_told client birth n (Keep kept) q = refl
aside_told client birth n (Forget place) q = refl
aside_told client birth n (RefuseWill who) q = refl
aside_told client birth n (Gone m) q = refl

aside_closing : (client : List ℕ) (birth n : ℕ) (d : Deed) → IsAside client birth n d → is_closing n (closing d) ≡ false
aside_closing client birth n (Gone m) q = absurd q
aside_closing client birth n (Send m packet) q = refl
aside_closing client birth n (Accept number origin m) q = refl
aside_closing client birth n (Begin row will) q = refl
aside_closing client birth n (On m part) q = refl
aside_closing client birth n (Link m) q = refl
aside_closing client birth n (Name k) q = refl
aside_closing client birth n (Count k) q = refl
aside_closing client birth n (At who part) q = refl
aside_closing client birth n (Finish who) q = refl
aside_closing client birth n (Keep kept) q = refl
aside_closing client birth n (Forget place) q = refl
aside_closing client birth n (RefuseWill who) q = refl

far_face : (client : List ℕ) (birth n : ℕ) (d : Deed) (r : Records) → IsFar client birth n d → face_at birth (stored_after d r) ≡ face_at birth r
far_face client birth n d r (inl q) = quiet_face birth n d r q
far_face client birth n d r (inr q) = aside_face client birth n d r q

far_line : (client : List ℕ) (birth n now : ℕ) (d : Deed) (ls : List Line) → IsFar client birth n d → session_on n (lines_after now d ls) ≡ session_on n ls
far_line client birth n now d ls (inl q) = quiet_line birth n now d ls q
far_line client birth n now d ls (inr q) = aside_line client birth n now d ls q

far_told : (client : List ℕ) (birth n : ℕ) (d : Deed) → IsFar client birth n d → heard_by n (output d) ≡ None
far_told client birth n d (inl q) = quiet_told birth n d q
far_told client birth n d (inr q) = aside_told client birth n d q

far_closing : (client : List ℕ) (birth n : ℕ) (d : Deed) → IsFar client birth n d → is_closing n (closing d) ≡ false
far_closing client birth n d (inl q) = quiet_closing birth n d q
far_closing client birth n d (inr q) = aside_closing client birth n d q

-- what far deeds leave of the session and of the line, and that they tell nothing there
pub record Apart (birth n : ℕ) (ds : List Deed) (b : Broker) : Type 0 where
  pub face_is : face_at birth (after_all ds b).records ≡ face_at birth b.records
  pub line_is : session_on n (after_all ds b).lines ≡ session_on n b.lines
  pub told_is : told_to n ds ≡ []
  pub closes_is : closes n ds ≡ false

-- deeds far from the publisher leave what is its own apart
pub apart_by : (client : List ℕ) (birth n : ℕ) (ds : List Deed) (b : Broker) → AreFar client birth n ds → Apart birth n ds b
apart_by client birth n [] b q = record { face_is = refl; line_is = refl; told_is = refl; closes_is = refl }
apart_by client birth n (d ∷ ds) b q =
    let rest = apart_by client birth n ds (after d b) q.1 in
    record {
      face_is = rest.face_is ∙ far_face client birth n d b.records q.0;
      line_is = rest.line_is ∙ far_line client birth n b.now d b.lines q.0;
      told_is = rw (far_told client birth n d q.0) rest.told_is;
      closes_is = rw (far_closing client birth n d q.0) rest.closes_is;
    }

-- ---- far deeds keep whose the session and the line are

-- numbers that differ are not the same
pub not_same : (a b : ℕ) → nat_eq a b ≡ false → a ≡ b → ⊥
not_same a b h e =
    let yes : nat_eq a b ≡ true = ap (λ (k : ℕ). nat_eq k b) e ∙ nat_eq_equiv.refl b in
    let no : true ≡ false = sym yes ∙ h in
    absurd cc

foreign : (client : List ℕ) (birth : ℕ) (its : List ℕ) (b expiry : ℕ) (will : Option Will) → nat_eq b birth ≡ false → (its ≡ client → b ≡ birth) → About client birth its b expiry will
foreign client birth its b expiry will q named = record {
  named = named;
  name = λ e. absurd (not_same b birth q e);
  no_will = λ e. absurd (not_same b birth q e);
  no_end = λ e. absurd (not_same b birth q e);
}

module _ (client : List ℕ) (birth : ℕ) where
  -- a changed session leaves whose the sessions are, if it is as before whose it is
  pub all_keyed : (k : ℕ) (f : Session → Session) (ss : List Session) → ((x : Session) → x.birth ≡ k → IsOurs client birth x → IsOurs client birth (f x))
      → AllByRecursion (IsOurs client birth) ss → AllByRecursion (IsOurs client birth) (change_row birth_of k f ss)
  all_keyed k f [] g h = tt
  all_keyed k f (x ∷ xs) g h = elim (cases_Bool (nat_eq x.birth k)) [
    | inl here ↦ rw here (g x (eqb-true x.birth k here) h.0, h.1)
    | inr further ↦ rw further (h.0, all_keyed k f xs g h.1)
  ]

  ours_set : (row : Columns) (ss : List Session) → nat_eq row.birth birth ≡ false → (row.client ≡ client → row.birth ≡ birth)
      → AllByRecursion (IsOurs client birth) ss → AllByRecursion (IsOurs client birth) (change_row birth_of row.birth (with_columns row) ss)
  ours_set row ss q named h =
      all_keyed row.birth (with_columns row) ss
      (λ x e p. foreign client birth row.client x.birth row.expiry x.will (ap (λ (k : ℕ). nat_eq k birth) e ∙ q) (λ is. e ∙ named is)) h

  ours_put : (row : Columns) (ss : List Session) → nat_eq row.birth birth ≡ false → (row.client ≡ client → row.birth ≡ birth)
      → AllByRecursion (IsOurs client birth) ss → AllByRecursion (IsOurs client birth) (put_session row ss)
  ours_put row ss q named h = elim (cases_Bool (has_row birth_of row.birth ss)) [
    | inl there ↦ rw there (ours_set row ss q named h)
    | inr new ↦ rw new (put_new (nat_lt (length ss) SESSION_LIMIT))
  ]
    where
      put_new : (t : Bool) → AllByRecursion (IsOurs client birth) (cond t (insert_row birth_of (fresh row) ss) ss)
      put_new true = all_inserted birth_of (IsOurs client birth) (fresh row) ss (foreign client birth row.client row.birth row.expiry None q named) h
      put_new false = h

  -- a Will of another session
  ours_will : (k : ℕ) (will : Option Will) (r : Records) → nat_eq k birth ≡ false → AllByRecursion (IsOurs client birth) r.sessions
      → AllByRecursion (IsOurs client birth) (changed (will_row k will) r).sessions
  ours_will k None r q h = all_keyed k _ r.sessions (λ x e p. foreign client birth x.client x.birth x.expiry None (ap (λ (m : ℕ). nat_eq m birth) e ∙ q) p.named) h
  ours_will k (Some w) r q h = all_keyed k _ r.sessions (λ x e p. foreign client birth x.client x.birth x.expiry (Some w) (ap (λ (m : ℕ). nat_eq m birth) e ∙ q) p.named) h

  abbrev pub Ours : Records → Type 0
  Ours r = AllByRecursion (IsOurs client birth) r.sessions

  part_ours : (part : Part) (s : Session) (r : Records) → nat_eq s.birth birth ≡ false → IsOurs client birth s → Ours r → Ours (changed_all (part_rows part s) r)
  part_ours (Resume expiry will) s r q p h =
      let row : Columns = record (columns_of s) { expiry = expiry; closed = None } in
      ours_will s.birth will (changed (SetSession row) r) q (ours_set row r.sessions q p.named h)
  part_ours (Close moment) s r q p h = ours_set (record (columns_of s) { closed = Some moment }) r.sessions q p.named h
  part_ours (SetExpiry expiry) s r q p h = ours_set (record (columns_of s) { expiry = expiry }) r.sessions q p.named h
  part_ours DropWill s r q p h = ours_will s.birth None r q h
  part_ours (Subscribe sub) s r q p h = all_keyed s.birth _ r.sessions (λ x e y. y) h
  part_ours (Unsubscribe text) s r q p h = all_keyed s.birth _ r.sessions (λ x e y. y) h
  part_ours (Open id) s r q p h = all_keyed s.birth _ r.sessions (λ x e y. y) h
  part_ours (Release id) s r q p h = all_keyed s.birth _ r.sessions (λ x e y. y) h
  part_ours (Enter copy) s r q p h = all_keyed s.birth _ r.sessions (λ x e y. y) h
  part_ours (Mark place phase) s r q p h = all_keyed s.birth _ r.sessions (λ x e y. y) h
  part_ours (Leave e ending) s r q p h = all_keyed s.birth _ r.sessions (λ x f y. y) h

  still_ours : (part : Part) (s : Session) (r : Records) → IsQuietPart part → Ours r → Ours (changed_all (part_rows part s) r)
  still_ours (Resume expiry will) s r q h = absurd q
  still_ours (Close moment) s r q h = absurd q
  still_ours (SetExpiry expiry) s r q h = absurd q
  still_ours DropWill s r q h = absurd q
  still_ours (Subscribe sub) s r q h = all_keyed s.birth _ r.sessions (λ x e y. y) h
  still_ours (Unsubscribe text) s r q h = all_keyed s.birth _ r.sessions (λ x e y. y) h
  still_ours (Open id) s r q h = absurd q
  still_ours (Release id) s r q h = absurd q
  still_ours (Enter copy) s r q h = all_keyed s.birth _ r.sessions (λ x e y. y) h
  still_ours (Mark place phase) s r q h = all_keyed s.birth _ r.sessions (λ x e y. y) h
  still_ours (Leave e ending) s r q h = all_keyed s.birth _ r.sessions (λ x f y. y) h

  at_ours : (k : ℕ) (part : Part) (r : Records) (o : Option Session) → session_at k r ≡ o → (nat_eq k birth ≡ false) ⊎ IsQuietPart part → Ours r → Ours (changed_all (part_rows_of part o) r)
  at_ours k part r None e q h = h
  at_ours k part r (Some s) e (inl other) h =
      part_ours part s r (ap (λ (m : ℕ). nat_eq m birth) (found_key birth_of k s r.sessions e) ∙ other) (all_at birth_of (IsOurs client birth) k s r.sessions h e) h
  at_ours k part r (Some s) e (inr quiet) h = still_ours part s r quiet h

  begin_ours : (row : Columns) (will : Option Will) (r : Records) → birth < row.birth → (row.client ≡ client → ⊥) → Ours r → Ours (changed_all (begin_rows row will) r)
  begin_ours row None r less other h = ours_put row r.sessions (less_differs birth row.birth less) (λ e. absurd (other e)) h
  begin_ours row (Some will) r less other h =
      let q = less_differs birth row.birth less in
      let put = ours_put row r.sessions q (λ e. absurd (other e)) h in
      all_keyed row.birth _ (put_session row r.sessions) (λ x e p. foreign client birth x.client x.birth x.expiry (Some will) (ap (λ (m : ℕ). nat_eq m birth) e ∙ q) p.named) put

  -- deeds far from a publisher leave whose the sessions are
  pub far_ours : (n : ℕ) (d : Deed) (r : Records) → IsFar client birth n d → Ours r → Ours (stored_after d r)
  far_ours n (Accept number origin m) r q h = h
  far_ours n (Begin row will) r (inl q) h = absurd q
  far_ours n (Begin row will) r (inr q) h = begin_ours row will r q.0 q.1 h
  far_ours n (Name k) r q h = h
  far_ours n (Count k) r q h = h
  far_ours n (At who part) r (inl q) h = at_ours who.birth part r (session_at who.birth r) refl q h
  far_ours n (At who part) r (inr q) h = absurd q
  far_ours n (Finish who) r q h = all_removed birth_of (IsOurs client birth) who.birth r.sessions h
  far_ours n (Keep kept) r q h = h
  far_ours n (Forget place) r q h = h
  far_ours n (RefuseWill who) r q h = h
  far_ours n (Link m) r q h = h
  far_ours n (On m part) r q h = h
  far_ours n (Send m packet) r q h = h
  far_ours n (Gone m) r q h = h

-- ---- lines

module _ (birth n : ℕ) where
  abbrev pub OurLines : List Line → Type 0
  OurLines ls = AllByRecursion (IsOurLine birth n) ls

  linked_ours : (now m : ℕ) (ls : List Line) → n < m → OurLines ls → OurLines (ls ++ fresh_line m now ∷ [])
  linked_ours now m [] q h = (
    record {
      ours = λ e. absurd (omega (arith, q, e));
      quiet = λ e. absurd (omega (arith, q, e));
      alone = λ e. absurd cc;
    },
    tt,
  )
  linked_ours now m (l ∷ ls) q h = (h.0, linked_ours now m ls q h.1)

  part_line : (now : ℕ) (part : LinePart) (l : Line) → IsQuietOn part → IsOurLine birth n l → IsOurLine birth n (line_after now part l)
  part_line now Hear l q p = p
  part_line now (Greet other keep_alive window largest most) l q p = absurd q
  part_line now (SetAlias alias topic) l q p = p
  part_line now (Went place) l q p = p

  on_ours : (now m : ℕ) (part : LinePart) (ls : List Line) → ((l : Line) → l.number ≡ m → IsOurLine birth n l → IsOurLine birth n (line_after now part l))
      → OurLines ls → OurLines (on_line now m part ls)
  on_ours now m part [] g h = tt
  on_ours now m part (l ∷ ls) g h = elim (cases_Bool (nat_eq l.number m)) [
    | inl this ↦ rw this (g l (eqb-true l.number m this) h.0, h.1)
    | inr other ↦ rw other (h.0, on_ours now m part ls g h.1)
  ]

  -- a line that goes leaves whose the lines are
  pub gone_ours : (m : ℕ) (ls : List Line) → OurLines ls → OurLines (filter (λ (l : Line). not (nat_eq l.number m)) ls)
  gone_ours m [] h = tt
  gone_ours m (l ∷ ls) h = elim (cases_Bool (nat_eq l.number m)) [
    | inl goes ↦ rw goes (gone_ours m ls h.1)
    | inr stays ↦ rw stays (h.0, gone_ours m ls h.1)
  ]

  without_ours : (k place : ℕ) (ls : List Line) → OurLines ls → OurLines (map (without_place k place) ls)
  without_ours k place [] h = tt
  without_ours k place (l ∷ ls) h = elim (cases_Bool (is_of l.session k)) [
    | inl its ↦ rw its (h.0, without_ours k place ls h.1)
    | inr other ↦ rw other (h.0, without_ours k place ls h.1)
  ]

  -- a part of a session leaves whose the lines are
  pub at_lines : (k : ℕ) (part : Part) (ls : List Line) → OurLines ls → OurLines (lines_at k part ls)
  at_lines k (Resume expiry will) ls h = h
  at_lines k (Close moment) ls h = h
  at_lines k (SetExpiry expiry) ls h = h
  at_lines k DropWill ls h = h
  at_lines k (Subscribe sub) ls h = h
  at_lines k (Unsubscribe text) ls h = h
  at_lines k (Open id) ls h = h
  at_lines k (Release id) ls h = h
  at_lines k (Enter copy) ls h = h
  at_lines k (Mark place phase) ls h = h
  at_lines k (Leave e ending) ls h = without_ours k e.place ls h

  greeted : (now m other keep_alive window largest most : ℕ) (l : Line) → nat_eq m n ≡ false → nat_eq other birth ≡ false → l.number ≡ m
      → IsOurLine birth n (line_after now (Greet other keep_alive window largest most) l)
  greeted now m other keep_alive window largest most l q p is = record {
    ours = λ e. absurd (not_same m n q (sym is ∙ e));
    quiet = λ e. absurd (not_same m n q (sym is ∙ e));
    alone = λ e. let same : other ≡ birth = cc in absurd (not_same other birth p same);
  }

  -- deeds far from a publisher leave whose the lines are
  pub far_lines : (client : List ℕ) (now : ℕ) (d : Deed) (ls : List Line) → IsFar client birth n d → OurLines ls → OurLines (lines_after now d ls)
  far_lines client now (Accept number origin m) ls q h = h
  far_lines client now (Begin row will) ls q h = h
  far_lines client now (Name k) ls q h = h
  far_lines client now (Count k) ls q h = h
  far_lines client now (At who part) ls q h = at_lines who.birth part ls h
  far_lines client now (Finish who) ls q h = h
  far_lines client now (Keep kept) ls q h = h
  far_lines client now (Forget place) ls q h = h
  far_lines client now (RefuseWill who) ls q h = h
  far_lines client now (Link m) ls (inl q) h = absurd q
  far_lines client now (Link m) ls (inr q) h = linked_ours now m ls q h
  far_lines client now (On m part) ls (inl q) h = on_ours now m part ls (λ l e p. part_line now part l q p) h
  far_lines client now (On m (Greet other keep_alive window largest most)) ls (inr q) h =
      on_ours now m (Greet other keep_alive window largest most) ls (λ l e p. greeted now m other keep_alive window largest most l q.0 q.1 e) h
  far_lines client now (On m Hear) ls (inr q) h = absurd q
  far_lines client now (On m (SetAlias alias topic)) ls (inr q) h = absurd q
  far_lines client now (On m (Went place)) ls (inr q) h = absurd q
  far_lines client now (Send m packet) ls q h = h
  far_lines client now (Gone m) ls q h = gone_ours m ls h

-- ---- counters

will_births : (k : ℕ) (will : Option Will) (r : Records) → (changed (will_row k will) r).births ≡ r.births
will_births k None r = refl
will_births k (Some will) r = refl

part_births : (part : Part) (s : Session) (r : Records) → (changed_all (part_rows part s) r).births ≡ r.births
part_births (Resume expiry will) s r = will_births s.birth will _
part_births (Close moment) s r = refl
part_births (SetExpiry expiry) s r = refl
part_births DropWill s r = refl
part_births (Subscribe sub) s r = refl
part_births (Unsubscribe text) s r = refl
part_births (Open id) s r = refl
part_births (Release id) s r = refl
part_births (Enter copy) s r = refl
part_births (Mark place phase) s r = refl
part_births (Leave e ending) s r = refl

-- a part of a session gives no birth
pub at_births : (part : Part) (o : Option Session) (r : Records) → (changed_all (part_rows_of part o) r).births ≡ r.births
at_births part None r = refl
at_births part (Some s) r = part_births part s r

begin_births : (row : Columns) (will : Option Will) (r : Records) → (changed_all (begin_rows row will) r).births ≡ row.birth
begin_births row None r = refl
begin_births row (Some will) r = refl

far_births : (client : List ℕ) (birth n : ℕ) (d : Deed) (r : Records) → IsFar client birth n d → birth ≤ r.births → birth ≤ (stored_after d r).births
far_births client birth n (Accept number origin m) r q h = h
far_births client birth n (Begin row will) r (inl q) h = absurd q
far_births client birth n (Begin row will) r (inr q) h = let e = begin_births row will r in let less = q.0 in omega (arith, e, less)
far_births client birth n (Name k) r q h = h
far_births client birth n (Count k) r q h = h
far_births client birth n (At who part) r q h = let e = at_births part (session_at who.birth r) r in omega (arith, e, h)
far_births client birth n (Finish who) r q h = h
far_births client birth n (Keep kept) r q h = h
far_births client birth n (Forget place) r q h = h
far_births client birth n (RefuseWill who) r q h = h
far_births client birth n (Link m) r q h = h
far_births client birth n (On m part) r q h = h
far_births client birth n (Send m packet) r q h = h
far_births client birth n (Gone m) r q h = h

far_given : (client : List ℕ) (birth n : ℕ) (d : Deed) (given : ℕ) → IsFar client birth n d → n ≤ given → n ≤ given_after d given
far_given client birth n (Link m) given (inl q) h = absurd q
far_given client birth n (Link m) given (inr q) h = omega (arith, q)
far_given client birth n (Accept number origin m) given q h = h
far_given client birth n (Begin row will) given q h = h
far_given client birth n (Name k) given q h = h
far_given client birth n (Count k) given q h = h
far_given client birth n (At who part) given q h = h
far_given client birth n (Finish who) given q h = h
far_given client birth n (Keep kept) given q h = h
far_given client birth n (Forget place) given q h = h
far_given client birth n (RefuseWill who) given q h = h
far_given client birth n (On m part) given q h = h
far_given client birth n (Send m packet) given q h = h
far_given client birth n (Gone m) given q h = h

-- a deed far from the publisher leaves it what is its own
pub own_deed : (client : List ℕ) (birth n : ℕ) (d : Deed) (b : Broker) → IsFar client birth n d → Own client birth n b → Own client birth n (after d b)
own_deed client birth n d b q o = record {
  sessions = far_ours client birth n d b.records q o.sessions;
  lines = far_lines birth n client b.now d b.lines q o.lines;
  births = far_births client birth n d b.records q o.births;
  given = far_given client birth n d b.given q o.given;
}

-- so do many
pub own_deeds : (client : List ℕ) (birth n : ℕ) (ds : List Deed) (b : Broker) → AreFar client birth n ds → Own client birth n b → Own client birth n (after_all ds b)
own_deeds client birth n [] b q o = o
own_deeds client birth n (d ∷ ds) b q o = own_deeds client birth n ds (after d b) q.1 (own_deed client birth n d b q.0 o)
