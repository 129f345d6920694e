-- The session of a queue while its copies leave and are marked; and a queue of which one leaves.
use Rattle.std.proofs.Common.{◌≡◌, ℕ, suc, ◌≤◌, ◌<◌, Bool, true, false, List, [], ◌∷◌, ◌++◌, length, map, Option, Some, None, nat_eq, refl, sym, ap, subst, ◌∙◌, inl, inr, arith}
use Rattle.std.specs.Prelude.{find}
use Rattle.std.proofs.lemmas.Bool.{cases_Bool, eqb-true}
use Rattle.mqtt_base.specs.declared.session.Ending.{Ending}
use Rattle.mqtt_base.specs.declared.session.Phase.{Phase}
use Rattle.mqtt_flow.specs.declared.outbound.entry.Entry.{Entry as FlowEntry}
use Rattle.mqtt_records.specs.messages.Queue.{CopyRow}
use Rattle.mqtt_records.specs.state.Records.{changed_all}
use Rattle.mqtt_records.specs.state.Session.{birth_of, copy_place, with_phase, without_copy}
use Rattle.mqtt_records.specs.declared.state.records.Records.{Records}
use Rattle.mqtt_records.specs.declared.state.session.Session.{Session}
use Rattle.mqtt_records.specs.lists.Order.{IsAbove, IsAscending, row_at, remove_row, change_row}
use Rattle.mqtt_records.proofs.lists_lemmas.LookUps.{row_at-here}
use Rattle.mqtt_rules.specs.step.Deeds.{Whose, whose, Part, Leave, Mark, Deed, At, part_rows_of, after}
use Rattle.mqtt_rules.specs.step.Laws.{IsAmong}
use Rattle.mqtt_rules.specs.step.Outbound.{first_given}
use Rattle.mqtt_rules.specs.step.State.{Broker, session_at, entry_on}
use Rattle.mqtt_rules.proofs.step_lemmas.flight.FlightRows.{found_key, found_behind, change_row-here}

-- ---- a session while its copies leave and are marked

-- what stays of it
pub record Same (s : Session) (r : Records) : Type 0 where
  pub session : Session
  pub there : session_at s.birth r ≡ Some session
  pub its : whose session ≡ whose s
  pub closed : session.closed ≡ s.closed
  pub expiry : session.expiry ≡ s.expiry

-- a session that stands has the queue that it has
pub same_now : (s : Session) (r : Records) → session_at s.birth r ≡ Some s → Same s r
same_now s r e = record { session = s; there = e; its = refl; closed = refl; expiry = refl }

-- after a part that changes its queue
part_there : (birth : ℕ) (part : Part) (f : Session → Session) (r : Records) (t : Session)
    → ((x : Session) → birth_of (f x) ≡ birth_of x) → session_at birth r ≡ Some t
    → (changed_all (part_rows_of part (Some t)) r).sessions ≡ change_row birth_of t.birth f r.sessions
    → session_at birth (changed_all (part_rows_of part (session_at birth r)) r) ≡ Some (f t)
part_there birth part f r t kept there is =
    let mine : t.birth ≡ birth = found_key birth_of birth t r.sessions there in
    let rows : (changed_all (part_rows_of part (session_at birth r)) r).sessions ≡ change_row birth_of birth f r.sessions
    = ap (λ (o : Option Session). (changed_all (part_rows_of part o) r).sessions) there ∙ is ∙ ap (λ (n : ℕ). change_row birth_of n f r.sessions) mine
    in
    ap (row_at birth_of birth) rows ∙ change_row-here birth_of birth f t r.sessions kept there

-- a copy's leaving leaves its session the others
pub left_there : (who : Whose) (e : CopyRow) (ending : Ending) (t : Session) (b : Broker) → session_at who.birth b.records ≡ Some t
    → session_at who.birth (after (At who (Leave e ending)) b).records ≡ Some (without_copy e.place t)
left_there who e ending t b there = part_there who.birth (Leave e ending) (without_copy e.place) b.records t (λ x. refl) there refl

marked_there : (who : Whose) (place : ℕ) (phase : Phase) (t : Session) (b : Broker) → session_at who.birth b.records ≡ Some t
    → session_at who.birth (after (At who (Mark place phase)) b).records ≡ Some (with_phase place phase t)
marked_there who place phase t b there = part_there who.birth (Mark place phase) (with_phase place phase) b.records t (λ x. refl) there refl

-- of which each is the same
pub same_left : (s : Session) (e : CopyRow) (ending : Ending) (b : Broker) → Same s b.records → Same s (after (At (whose s) (Leave e ending)) b).records
same_left s e ending b h =
    record { session = without_copy e.place h.session; there = left_there (whose s) e ending h.session b h.there; its = h.its; closed = h.closed; expiry = h.expiry }

-- so they are behind a mark
pub same_marked : (s : Session) (place : ℕ) (phase : Phase) (b : Broker) → Same s b.records → Same s (after (At (whose s) (Mark place phase)) b).records
same_marked s place phase b h =
    record { session = with_phase place phase h.session; there = marked_there (whose s) place phase h.session b h.there; its = h.its; closed = h.closed; expiry = h.expiry }

-- ---- rows

-- what is found twice in one look is the same
pub some_is : {X : Type 0} (x y : X) → Some x ≡ Some y → x ≡ y
some_is x y e = cc

-- the row of an entry that a test finds
pub record Row (went : List ℕ) (queue : List CopyRow) (x : FlowEntry) : Type 0 where
  pub row : CopyRow
  pub there : row_at copy_place x.place queue ≡ Some row
  pub its : entry_on went row ≡ x

-- what a look finds is a row of the queue
pub find_row : (went : List ℕ) (test : FlowEntry → Bool) (queue : List CopyRow) (x : FlowEntry) → IsAscending copy_place queue → find test (map (entry_on went) queue) ≡ Some x → Row went queue x
find_row went test [] x up h = absurd cc
find_row went test (e ∷ es) x up h = elim (cases_Bool (test (entry_on went e))) [
  | inl here ↦
      let it : Some (entry_on went e) ≡ Some x = rw here at h in
      let is : entry_on went e ≡ x = cc in
      subst (Row went (e ∷ es)) is (record { row = e; there = row_at-here copy_place e es; its = refl })
  | inr further ↦
      let more = find_row went test es x up.1 (rw further at h) in
      record { row = more.row; there = found_behind copy_place x.place more.row e es up.0 more.there; its = more.its }
]

-- of rows at places that rise at most one leaves
above_stay : (k : ℕ) (xs : List CopyRow) → IsAbove copy_place k xs → length (remove_row copy_place k xs) ≡ length xs
above_stay k [] up = refl
above_stay k (x ∷ xs) up = elim (cases_Bool (nat_eq (copy_place x) k)) [
  | inl same ↦ let is = eqb-true (copy_place x) k same in let more = up.0 in absurd (omega (arith, is, more))
  | inr other ↦ rw other (ap suc (above_stay k xs up.1))
]

-- one leaving takes one copy at most
pub one_leaves : (k : ℕ) (xs : List CopyRow) → IsAscending copy_place xs → length xs ≤ suc (length (remove_row copy_place k xs))
one_leaves k [] up = omega arith
one_leaves k (x ∷ xs) up = elim (cases_Bool (nat_eq (copy_place x) k)) [
  | inl same ↦
      let is = eqb-true (copy_place x) k same in
      let stay = above_stay k xs (subst (λ (n : ℕ). IsAbove copy_place n xs) is up.0) in
      rw same (omega (arith, stay))
  | inr other ↦ let more = one_leaves k xs up.1 in rw other (omega (arith, more))
]

-- ---- the first place that is given in a step is above the rows of earlier steps alone

found_low : (test : CopyRow → Bool) (e x : CopyRow) (q : List CopyRow) → IsAscending copy_place q → IsAmong e q → test e ≡ true → find test q ≡ Some x → x.place ≤ e.place
found_low test e x [] up among is h = absurd among
found_low test e x (y ∷ ys) up among is h = elim (cases_Bool (test y)) [
  | inl here ↦
      let first : Some y ≡ Some x = rw here at h in
      let it : y ≡ x = cc in
      elim among [
        | inl mine ↦ let same : x.place ≡ e.place = ap copy_place (sym it ∙ mine) in omega (arith, same)
        | inr more ↦ let low = above_place y.place e ys up.0 more in let same : x.place ≡ y.place = ap copy_place (sym it) in omega (arith, low, same)
      ]
  | inr other ↦ elim among [
    | inl mine ↦ let no : true ≡ false = sym (ap test mine ∙ is) ∙ other in absurd cc
    | inr more ↦ found_low test e x ys up.1 more is (rw other at h)
  ]
]
  where
    above_place : (n : ℕ) (e : CopyRow) (xs : List CopyRow) → IsAbove copy_place n xs → IsAmong e xs → n < e.place
    above_place n e [] up among = absurd among
    above_place n e (x ∷ xs) up among = elim among [
      | inl it ↦ let same : x.place ≡ e.place = ap copy_place it in let less = up.0 in omega (arith, same, less)
      | inr more ↦ above_place n e xs up.1 more
    ]

none_found : (test : CopyRow → Bool) (e : CopyRow) (q : List CopyRow) → IsAmong e q → find test q ≡ None → test e ≡ false
none_found test e [] among h = absurd among
none_found test e (y ∷ ys) among h = elim (cases_Bool (test y)) [
  | inl here ↦ let first : Some y ≡ None = rw here at h in absurd cc
  | inr other ↦ elim among [ inl mine ↦ sym (ap test mine) ∙ other | inr more ↦ none_found test e ys more (rw other at h) ]
]

-- a copy before the first that is new is older
pub is_older : (test : CopyRow → Bool) (e : CopyRow) (q : List CopyRow) → IsAscending copy_place q → IsAmong e q → e.place < first_given (find test q) q → test e ≡ false
is_older test e q up among less = by (find test q) refl less
  where
    by : (o : Option CopyRow) → find test q ≡ o → e.place < first_given o q → test e ≡ false
    by None is low = none_found test e q among is
    by (Some x) is low = elim (cases_Bool (test e)) [
      | inl new ↦ let le = found_low test e x q up among new is in absurd (omega (arith, le, low))
      | inr old ↦ old
    ]

-- ---- the deeds behind

-- what stands last stands there, whatever follows
pub among_last : (d : Deed) (xs rest : List Deed) → IsAmong d ((xs ++ d ∷ []) ++ rest)
among_last d [] rest = inl refl
among_last d (x ∷ xs) rest = inr (among_last d xs rest)
