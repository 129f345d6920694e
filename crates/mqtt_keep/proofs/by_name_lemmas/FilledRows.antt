-- Rows that are filled take in what else is told of their queue.
use Rattle.std.proofs.Common.{◌≡◌, ◌↔◌, IsTrue, ℕ, Bool, true, false, cond, List, [], ◌∷◌, nat_eq, refl, sym, ap, subst, ◌∙◌, inl, inr}
use Rattle.std.specs.Prelude.{Option, Some, None, option_map, IsSomeAnd}
use Rattle.std.proofs.lemmas.Bool.{cases_Bool, eqb-true}
use Rattle.std.proofs.lemmas.Cmp.{nat_eq_equiv}
use Rattle.mqtt_records.specs.messages.Content.{CopyContent}
use Rattle.mqtt_records.specs.declared.messages.message.MessageCopy.{MessageCopy}
use Rattle.mqtt_records.specs.messages.Filling.{filled_copy, filled_with, said_by, HasBytesOf}
use Rattle.mqtt_records.specs.messages.Queue.{CopyRow}
use Rattle.mqtt_records.specs.lists.Order.{row_at, change_row}
use Rattle.mqtt_records.proofs.lists_lemmas.OrderLemmas.{apart}
use Rattle.mqtt_records.specs.declared.state.records.Records.{Records}
use Rattle.mqtt_records.specs.declared.state.session.Session.{Session}
use Rattle.mqtt_records.specs.state.Session.{birth_of, copy_place, with_filled, HasRowFor}
use Rattle.mqtt_records.specs.state.Slim.{whole_at, TakesIn}
use Rattle.mqtt_keep.specs.by_name.Slimming.{TakesAll}

module _ {X : Type 0} (key : X → ℕ) (f : X → X) (kept : (x : X) → key (f x) ≡ key x) where
  -- after a change the row with the changed key is changed, and every other as before
  pub row_at-change_row : (k j : ℕ) (xs : List X) → row_at key k (change_row key j f xs) ≡ cond (nat_eq j k) (option_map f (row_at key k xs)) (row_at key k xs)
  row_at-change_row k j [] = elim (cases_Bool (nat_eq j k)) [ inl asked ↦ rw asked refl | inr other ↦ rw other refl ]
  row_at-change_row k j (x ∷ xs) = elim (cases_Bool (nat_eq (key x) j)) [
    | inl at ↦
        let is : key x ≡ j = eqb-true (key x) j at in
        elim (cases_Bool (nat_eq j k)) [
          | inl asked ↦
              let mine : nat_eq (key x) k ≡ true = ap (λ n. nat_eq n k) is ∙ asked in
              let new : nat_eq (key (f x)) k ≡ true = ap (λ n. nat_eq n k) (kept x) ∙ mine in
              rw (at, asked, mine, new) refl
          | inr other ↦
              let mine : nat_eq (key x) k ≡ false = ap (λ n. nat_eq n k) is ∙ other in
              let new : nat_eq (key (f x)) k ≡ false = ap (λ n. nat_eq n k) (kept x) ∙ mine in
              rw (at, other, mine, new) refl
        ]
    | inr stays ↦ elim (cases_Bool (nat_eq j k)) [
      | inl asked ↦
          let is : j ≡ k = eqb-true j k asked in
          let mine : nat_eq (key x) k ≡ false = ap (λ n. nat_eq (key x) n) (sym is) ∙ stays in
          rw (stays, asked, mine) (row_at-change_row k j xs ∙ ap (λ (b : Bool). cond b (option_map f (row_at key k xs)) (row_at key k xs)) asked)
      | inr other ↦
          rw (stays, other)
          (ap (λ (o : Option X). cond (nat_eq (key x) k) (Some x) o)
          (row_at-change_row k j xs ∙ ap (λ (b : Bool). cond b (option_map f (row_at key k xs)) (row_at key k xs)) other))
    ]
  ]

-- the copy has as many bytes as this says
abbrev IsSaid : CopyContent → CopyRow → Type 0
IsSaid said e = HasBytesOf e.copy said

module _ (one other : CopyContent) where
  -- what fits a copy fits it when it says something else that fits
  copy_takes : (copy : MessageCopy) → HasBytesOf copy one → HasBytesOf copy other → HasBytesOf (filled_copy (said_by one) copy) other
  copy_takes copy h k = record {
    spelled = k.spelled;
    properties = k.properties ∙ sym h.properties;
    payload = k.payload ∙ sym h.payload;
    interval = k.interval ∙ sym h.interval;
  }

  row_takes : (o : Option CopyRow) → IsSomeAnd o (IsSaid one) → IsSomeAnd o (IsSaid other) → IsSomeAnd (option_map (filled_with one) o) (IsSaid other)
  row_takes None h k = h
  row_takes (Some e) h k = copy_takes e.copy h k

  session_takes : (s : Session) → HasRowFor one s → HasRowFor other s → HasRowFor other (with_filled one s)
  session_takes s h k =
      subst (λ (o : Option CopyRow). IsSomeAnd o (IsSaid other)) (sym (row_at-change_row copy_place (filled_with one) (λ e. refl) other.place one.place s.queue))
      (elim (cases_Bool (nat_eq one.place other.place)) [
        | inl same ↦
            rw same (row_takes (row_at copy_place other.place s.queue) (subst (λ (n : ℕ). IsSomeAnd (row_at copy_place n s.queue) (IsSaid one)) (eqb-true one.place other.place same) h) k)
        | inr apart ↦ rw apart k
      ])

  found_takes : (o : Option Session) → IsSomeAnd o (HasRowFor one) → IsSomeAnd o (HasRowFor other) → IsSomeAnd (option_map (with_filled one) o) (HasRowFor other)
  found_takes None h k = h
  found_takes (Some s) h k = session_takes s h k

  records_take : (birth : ℕ) (r : Records) → TakesIn birth one r → TakesIn birth other r → TakesIn birth other (whole_at birth one r)
  records_take birth r h k =
      subst (λ (o : Option Session). IsSomeAnd o (HasRowFor other))
      (sym (row_at-change_row birth_of (with_filled one) (λ s. refl) birth birth r.sessions
      ∙ ap (λ (b : Bool). cond b (option_map (with_filled one) (row_at birth_of birth r.sessions)) (row_at birth_of birth r.sessions)) (nat_eq_equiv.refl birth)))
      (found_takes (row_at birth_of birth r.sessions) h k)

-- when one copy is filled, the others can be filled still
pub others_stand : (birth : ℕ) (one : CopyContent) (others : List CopyContent) (r : Records) → TakesIn birth one r → TakesAll birth others r → TakesAll birth others (whole_at birth one r)
others_stand birth one [] r h k = tt
others_stand birth one (other ∷ others) r h k = (records_take one other birth r h k.0, others_stand birth one others r h k.1)

-- ---- what is found

-- what never holds is said by no
pub never : {P : Type 0} → (P → ⊥) → IsTrue false ↔ P
never k = (λ t. absurd cc, λ p. absurd (k p))

module _ (birth : ℕ) (said : CopyContent) where
  -- without the session no copy stands
  pub no_session : (r : Records) → None ≡ row_at birth_of birth r.sessions → TakesIn birth said r → ⊥
  no_session r none h = subst (λ (o : Option Session). IsSomeAnd o (HasRowFor said)) (sym none) h

  -- nor without the row
  pub no_row : (s : Session) (r : Records) → Some s ≡ row_at birth_of birth r.sessions → None ≡ row_at copy_place said.place s.queue → TakesIn birth said r → ⊥
  no_row s r found none h =
      subst (λ (o : Option CopyRow). IsSomeAnd o (IsSaid said)) (sym none) (subst (λ (o : Option Session). IsSomeAnd o (HasRowFor said)) (sym found) h)

  -- the row that is found decides
  pub stands : (t : Bool) (s : Session) (e : CopyRow) (r : Records) → Some s ≡ row_at birth_of birth r.sessions → Some e ≡ row_at copy_place said.place s.queue
      → IsTrue t ↔ HasBytesOf e.copy said → IsTrue t ↔ TakesIn birth said r
  stands t s e r found row k =
      subst (λ (o : Option Session). IsTrue t ↔ IsSomeAnd o (HasRowFor said)) found (subst (λ (o : Option CopyRow). IsTrue t ↔ IsSomeAnd o (IsSaid said)) row k)
