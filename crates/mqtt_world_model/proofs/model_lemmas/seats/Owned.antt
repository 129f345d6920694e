-- After a CONNECT the session and the line are the publisher's own: by what is found of them in a state whose sessions and
-- lines are in order (MQTT 5.0, 3.1.4).
use Rattle.std.proofs.Common.{◌≡◌, ℕ, suc, ◌<◌, not, List, [], ◌∷◌, ◌++◌, filter, map, Option, Some, None, nat_eq, refl, sym, ap, subst, ◌∙◌, arith, inl, inr}
use Rattle.std.specs.Prelude.{⊤, option_map, find}
use Rattle.std.specs.List.{AllByRecursion}
use Rattle.std.proofs.lemmas.Bool.{eqb-true, cases_Bool}
use Rattle.std.proofs.lemmas.Cmp.{nat_eq_equiv}
use Rattle.mqtt_records.specs.declared.state.session.Session.{Session}
use Rattle.mqtt_records.specs.declared.state.change.Change.{Change}
use Rattle.mqtt_records.specs.lists.Order.{IsAscending, IsAbove, IsBelow, row_at}
use Rattle.mqtt_records.proofs.lists_lemmas.OrderLemmas.{apart}
use Rattle.mqtt_records.specs.state.Session.{birth_of}
use Rattle.mqtt_rules.specs.step.State.{Line, Broker, is_of}
use Rattle.mqtt_rules.specs.step.Closing.{never}
use Rattle.mqtt_rules.specs.step.Deeds.{Part, Resume, Close, SetExpiry, DropWill, Subscribe, Unsubscribe, Open, Release, Enter, Mark, Leave, LinePart, Hear, Greet, SetAlias, Went, Deed, Accept, Begin, Name, Count, At, Finish, Keep, Forget, RefuseWill, Link, On, Send, Gone, line_after, on_line, without_place, lines_at, lines_after, after, after_all}
use Rattle.mqtt_rules.specs.step.Lines.{line_number}
use Rattle.mqtt_rules.specs.step.Step.{with_moment}
use Rattle.mqtt_rules.proofs.step_lemmas.flight.FlightRows.{all_found}
use Rattle.mqtt_world_model.specs.model.Hops.{IsIts, IsOnly, IsOurs, IsOurLine, Own, IsInOrder}
use Rattle.mqtt_world_model.proofs.model_lemmas.others.Rows.{Face, face, face_at}
use Rattle.mqtt_world_model.proofs.model_lemmas.others.Quiet.{session_on}
use Rattle.mqtt_world_model.proofs.model_lemmas.seats.Seeing.{done_sessions, done_lines}
use Rattle.mqtt_world_model.proofs.model_lemmas.others.Far.{not_same}

-- ---- deeds that leave the line with this number without Keep Alive

abbrev pub IsPatient : Deed → Type 0
IsPatient (On m (Greet birth keep_alive window largest most)) = keep_alive ≡ 0
IsPatient (Link m) = ⊥
IsPatient d = ⊤

abbrev pub ArePatient : List Deed → Type 0
ArePatient [] = ⊤
ArePatient (d ∷ ds) = IsPatient d × ArePatient ds

-- two lists of deeds wait for no Keep Alive if neither does
pub patient_append : (xs ys : List Deed) → ArePatient xs → ArePatient ys → ArePatient (xs ++ ys)
patient_append [] ys p q = q
patient_append (x ∷ xs) ys p q = (p.0, patient_append xs ys p.1 q)

module _ (n : ℕ) where
  abbrev pub HasNoKeepAlive : Line → Type 0
  HasNoKeepAlive l = l.number ≡ n → l.keep_alive ≡ 0

  abbrev pub NoneKeptAlive : List Line → Type 0
  NoneKeptAlive ls = AllByRecursion HasNoKeepAlive ls

  on_part : (now m : ℕ) (part : LinePart) (ls : List Line) → ((l : Line) → HasNoKeepAlive l → HasNoKeepAlive (line_after now part l)) → NoneKeptAlive ls → NoneKeptAlive (on_line now m part ls)
  on_part now m part [] g h = tt
  on_part now m part (l ∷ ls) g h = elim (cases_Bool (nat_eq l.number m)) [
    | inl this ↦ rw this (g l h.0, h.1)
    | inr other ↦ rw other (h.0, on_part now m part ls g h.1)
  ]

  part_after : (now : ℕ) (part : LinePart) (l : Line) → IsPatient (On n part) → HasNoKeepAlive l → HasNoKeepAlive (line_after now part l)
  part_after now Hear l q h = h
  part_after now (Greet birth keep_alive window largest most) l q h = λ e. q
  part_after now (SetAlias alias topic) l q h = h
  part_after now (Went place) l q h = h

  without_gone : (m : ℕ) (ls : List Line) → NoneKeptAlive ls → NoneKeptAlive (filter (λ (l : Line). not (nat_eq l.number m)) ls)
  without_gone m [] h = tt
  without_gone m (l ∷ ls) h = elim (cases_Bool (nat_eq l.number m)) [
    | inl goes ↦ rw goes (without_gone m ls h.1)
    | inr stays ↦ rw stays (h.0, without_gone m ls h.1)
  ]

  without_copy : (k place : ℕ) (ls : List Line) → NoneKeptAlive ls → NoneKeptAlive (map (without_place k place) ls)
  without_copy k place [] h = tt
  without_copy k place (l ∷ ls) h = elim (cases_Bool (is_of l.session k)) [
    | inl its ↦ rw its (h.0, without_copy k place ls h.1)
    | inr other ↦ rw other (h.0, without_copy k place ls h.1)
  ]

  at_part : (k : ℕ) (part : Part) (ls : List Line) → NoneKeptAlive ls → NoneKeptAlive (lines_at k part ls)
  at_part k (Leave e ending) ls h = without_copy k e.place ls h
  at_part k (Resume expiry will) ls h = h
  at_part k (Close moment) ls h = h
  at_part k (SetExpiry expiry) ls h = h
  at_part k DropWill ls h = h
  at_part k (Subscribe sub) ls h = h
  at_part k (Unsubscribe text) ls h = h
  at_part k (Open id) ls h = h
  at_part k (Release id) ls h = h
  at_part k (Enter copy) ls h = h
  at_part k (Mark place phase) ls h = h

  patient_line : (now : ℕ) (d : Deed) (ls : List Line) → IsPatient d → NoneKeptAlive ls → NoneKeptAlive (lines_after now d ls)
  patient_line now (On m part) ls q h = on_part now m part ls (λ l p. part_after now part l (same m part q) p) h
    where
      same : (k : ℕ) (x : LinePart) → IsPatient (On k x) → IsPatient (On n x)
      same k Hear q = tt
      same k (Greet birth keep_alive window largest most) q = q
      same k (SetAlias alias topic) q = tt
      same k (Went place) q = tt
  patient_line now (At who part) ls q h = at_part who.birth part ls h
  patient_line now (Gone m) ls q h = without_gone m ls h
  patient_line now (Link m) ls q h = absurd q
  patient_line now (Accept number origin m) ls q h = h
  patient_line now (Begin row will) ls q h = h
  patient_line now (Name k) ls q h = h
  patient_line now (Count k) ls q h = h
  patient_line now (Finish who) ls q h = h
  patient_line now (Keep kept) ls q h = h
  patient_line now (Forget place) ls q h = h
  patient_line now (RefuseWill who) ls q h = h
  patient_line now (Send m packet) ls q h = h

  -- deeds that set no Keep Alive leave the line without one
  pub patient_lines : (ds : List Deed) (b : Broker) → ArePatient ds → NoneKeptAlive b.lines → NoneKeptAlive (after_all ds b).lines
  patient_lines [] b q h = h
  patient_lines (d ∷ ds) b q h = patient_lines ds (after d b) q.1 (patient_line b.now d b.lines q.0 h)

-- ---- each line is found by its number

above_on : (x : Line) (ys zs : List Line) → IsAbove line_number x.number ys → AllByRecursion (λ (l : Line). session_on l.number zs ≡ Some l.session) ys
    → AllByRecursion (λ (l : Line). session_on l.number (x ∷ zs) ≡ Some l.session) ys
above_on x [] zs up h = tt
above_on x (y ∷ ys) zs up h =
    let less = up.0 in
    (rw (apart x.number y.number (λ e. omega (arith, e, less))) h.0, above_on x ys zs up.1 h.1)

lines_found : (ls : List Line) → IsAscending line_number ls → AllByRecursion (λ (l : Line). session_on l.number ls ≡ Some l.session) ls
lines_found [] up = tt
lines_found (x ∷ xs) up = (rw (nat_eq_equiv.refl x.number) refl, above_on x xs xs up.0 (lines_found xs up.1))

-- a line that is found by its number is the one that has it
pub found_alone : (l : Line) (ls : List Line) → IsAscending line_number ls → find (λ (x : Line). nat_eq x.number l.number) ls ≡ Some l → l.keep_alive ≡ 0 → NoneKeptAlive l.number ls
found_alone l [] up at h = tt
found_alone l (x ∷ xs) up at h = elim (cases_Bool (nat_eq x.number l.number)) [
  | inl here ↦
      let found : Some x ≡ Some l = rw here at at in
      let it : x ≡ l = cc in
      ((λ e. ap (λ (y : Line). y.keep_alive) it ∙ h), above_all l.number x.number xs (eqb-true x.number l.number here) up.0)
  | inr further ↦ ((λ e. absurd (not_same x.number l.number further e)), found_alone l xs up.1 (rw further at at) h)
]
  where
    above_all : (n m : ℕ) (ys : List Line) → m ≡ n → IsAbove line_number m ys → NoneKeptAlive n ys
    above_all n m [] same above = tt
    above_all n m (y ∷ ys) same above = (let less = above.0 in ((λ e. absurd (omega (arith, same, less, e)))), above_all n m ys same above.1)

-- ---- what is found is below

below_row : (k n : ℕ) (x : Session) (xs : List Session) → IsBelow birth_of n xs → row_at birth_of k xs ≡ Some x → k < n
below_row k n x [] low h = absurd cc
below_row k n x (y ∷ ys) low h = elim (cases_Bool (nat_eq y.birth k)) [
  | inl same ↦ let is = eqb-true y.birth k same in let less = low.0 in omega (arith, is, less)
  | inr other ↦ below_row k n x ys low.1 (rw other at h)
]

below_line : (k n : ℕ) (x : Option ℕ) (ls : List Line) → IsBelow line_number n ls → session_on k ls ≡ Some x → k < n
below_line k n x [] low h = absurd cc
below_line k n x (l ∷ ls) low h = elim (cases_Bool (nat_eq l.number k)) [
  | inl same ↦ let is = eqb-true l.number k same in let less = low.0 in omega (arith, is, less)
  | inr other ↦ below_line k n x ls low.1 (rw other at h)
]

all_two : {X : Type 0} (P Q R : X → Type 0) (xs : List X) → ((x : X) → P x → Q x → R x) → AllByRecursion P xs → AllByRecursion Q xs → AllByRecursion R xs
all_two P Q R [] f p q = tt
all_two P Q R (x ∷ xs) f p q = (f x p.0 q.0, all_two P Q R xs f p.1 q.1)

-- ---- whose the session and the line are, from what is found

-- a session with the publisher's name, line and no Will is its own
pub owned : (client : List ℕ) (birth n : ℕ) (f : Face) (b : Broker) → IsInOrder b → IsOnly client birth b.records → face_at birth b.records ≡ Some f → f.client ≡ client → f.will ≡ None → f.expiry ≡ never
    → session_on n b.lines ≡ Some (Some birth) → NoneKeptAlive n b.lines → Own client birth n b
owned client birth n f b order only at client_is no_will no_end on quiet =
    let ss = b.records.sessions in
    let ls = b.lines in
    let found = row_of (row_at birth_of birth ss) at in
    let low = below_row birth (suc b.records.births) found.0 ss order.births found.1 in
    let line_low = below_line n (suc b.given) (Some birth) ls order.lines.given on in
    record {
      sessions = all_two (IsIts client birth) (λ (x : Session). row_at birth_of x.birth ss ≡ Some x) (IsOurs client birth) ss one only (all_found birth_of ss order.sessions);
      lines = all_two (HasNoKeepAlive n) (λ (l : Line). session_on l.number ls ≡ Some l.session) (IsOurLine birth n) ls line quiet (lines_found ls order.lines.ascending);
      births = omega (arith, low);
      given = omega (arith, line_low);
    }
  where
    row_of : (o : Option Session) → option_map face o ≡ Some f → (s : Session) × (o ≡ Some s)
    row_of None h = absurd cc
    row_of (Some s) h = (s, refl)

    shows : (x : Session) → row_at birth_of x.birth b.records.sessions ≡ Some x → x.birth ≡ birth → face x ≡ f
    shows x here e =
        let it : row_at birth_of birth b.records.sessions ≡ Some x = ap (λ (k : ℕ). row_at birth_of k b.records.sessions) (sym e) ∙ here in
        let both : Some (face x) ≡ Some f = sym (ap (option_map face) it) ∙ at in
        cc

    one : (x : Session) → IsIts client birth x → row_at birth_of x.birth b.records.sessions ≡ Some x → IsOurs client birth x
    one x its here = record {
      named = its;
      name = λ e. ap (λ (g : Face). g.client) (shows x here e) ∙ client_is;
      no_will = λ e. ap (λ (g : Face). g.will) (shows x here e) ∙ no_will;
      no_end = λ e. ap (λ (g : Face). g.expiry) (shows x here e) ∙ no_end;
    }

    line : (l : Line) → HasNoKeepAlive n l → session_on l.number b.lines ≡ Some l.session → IsOurLine birth n l
    line l calm here = record {
      ours = λ e. its l here e;
      quiet = calm;
      alone = λ e. order.lines.once l.number n birth (here ∙ ap Some e) on;
    }
      where
        its : (x : Line) → session_on x.number b.lines ≡ Some x.session → x.number ≡ n → x.session ≡ Some birth
        its x found e =
            let both : Some x.session ≡ Some (Some birth) = sym found ∙ (ap (λ (k : ℕ). session_on k b.lines) e ∙ on) in
            cc

-- after a step that leaves these
pub owned_after : (client : List ℕ) (birth n : ℕ) (f : Face) (rows : List Change) (b : Broker) → IsInOrder (with_moment rows b) → IsOnly client birth b.records → face_at birth b.records ≡ Some f
    → f.client ≡ client → f.will ≡ None → f.expiry ≡ never → session_on n b.lines ≡ Some (Some birth) → NoneKeptAlive n b.lines → Own client birth n (with_moment rows b)
owned_after client birth n f rows b order only at client_is no_will no_end on quiet =
    let sessions = done_sessions rows b in
    let lines = done_lines rows b in
    owned client birth n f (with_moment rows b) order
    (subst (λ (ss : List Session). AllByRecursion (IsIts client birth) ss) (sym sessions) only)
    (ap (λ (ss : List Session). option_map face (row_at birth_of birth ss)) sessions ∙ at) client_is no_will no_end
    (ap (session_on n) lines ∙ on)
    (subst (NoneKeptAlive n) (sym lines) quiet)
