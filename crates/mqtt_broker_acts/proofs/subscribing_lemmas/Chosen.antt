-- Copies of messages, one after the other: the room for those that are queued, and those that are made.
use Rattle.std.proofs.Common.{◌≡◌, ℕ, suc, Bool, true, false, cond, List, [], ◌∷◌, ◌++◌, Option, length, nat_le, refl, ap, sym, ◌∙◌, append_assoc, append-nil, inl, inr}
use Rattle.std.specs.Prelude.{filter, map, min}
use Rattle.std.proofs.Math.Dec.{leb-zero, leb-suc-zero, leb-suc-suc}
use Rattle.std.proofs.lemmas.Bool.{cases_Bool}
use Rattle.mqtt_base.specs.declared.session.SubscriptionOptions.{SubscriptionOptions}
use Rattle.mqtt_base.specs.Service.{qos_number}
use Rattle.mqtt_records.specs.declared.messages.message.MessageCopy.{MessageCopy}
use Rattle.mqtt_records.specs.declared.messages.message.RetainedMessage.{RetainedMessage}
use Rattle.mqtt_rules.specs.step.Packets.{quality}
use Rattle.mqtt_rules.specs.step.Routing.{is_queued_at}
use Rattle.mqtt_rules.specs.step.Subscribe.{Wish, retained_copy}
use Rattle.mqtt_broker_acts.specs.subscribing.Granting.{is_chosen, chosen}

-- ---- the room

abbrev pub queues : SubscriptionOptions → RetainedMessage → Bool
queues o k = is_queued_at (quality (min (qos_number k.qos) (qos_number o.qos)))

queues_copy : (birth number : ℕ) (w : Wish) (o : SubscriptionOptions) (k : RetainedMessage) → w.options ≡ o → is_chosen true (retained_copy birth number w k) ≡ queues o k
queues_copy birth number w o k is = ap (λ (p : SubscriptionOptions). queues p k) is

length_kept : (c : MessageCopy) (cs : List MessageCopy) (t : Bool) → is_chosen true c ≡ t → length (filter (is_chosen true) (c ∷ cs)) ≡ cond t (suc (length (filter (is_chosen true) cs))) (length (filter (is_chosen true) cs))
length_kept c cs true is = rw is refl
length_kept c cs false is = rw is refl

next_le : (n left : ℕ) (t : Bool) → nat_le n left ≡ nat_le (cond t (suc n) n) (cond t (suc left) left)
next_le n left true = sym (leb-suc-suc n left)
next_le n left false = refl

-- the rest has the room that is left just if all have the room that there was
pub record Fitting (o : SubscriptionOptions) (rest all : List RetainedMessage) (room room0 : ℕ) : Type 0 where
  pub same : (birth number : ℕ) (w : Wish) → w.options ≡ o → nat_le (length (chosen true birth number w rest)) room ≡ nat_le (length (chosen true birth number w all)) room0

-- a message that takes room leaves one less
pub fits_next : (o : SubscriptionOptions) (k : RetainedMessage) (rest xs all : List RetainedMessage) (left room room0 : ℕ) → xs ≡ k ∷ rest → Fitting o xs all room room0
    → room ≡ cond (queues o k) (suc left) left → Fitting o rest all left room0
fits_next o k rest xs all left room room0 is w less = record {
  same = λ birth number v same.
      let n : ℕ = length (chosen true birth number v rest) in
      next_le n left (queues o k)
      ∙ (ap (λ r. nat_le (cond (queues o k) (suc n) n) r) (sym less)
      ∙ (ap (λ m. nat_le m room) (sym (length_kept (retained_copy birth number v k) (map (retained_copy birth number v) rest) (queues o k) (queues_copy birth number v o k same)))
      ∙ (ap (λ (ys : List RetainedMessage). nat_le (length (chosen true birth number v ys)) room) (sym is) ∙ w.same birth number v same)));
}

-- if none is left the copies do not fit
pub fits_full : (o : SubscriptionOptions) (k : RetainedMessage) (rest xs all : List RetainedMessage) (room room0 birth number : ℕ) (v : Wish) → xs ≡ k ∷ rest → Fitting o xs all room room0
    → queues o k ≡ true → room ≡ 0 → v.options ≡ o → false ≡ nat_le (length (chosen true birth number v all)) room0
fits_full o k rest xs all room room0 birth number v is w queued none same =
    let n : ℕ = length (chosen true birth number v rest) in
    sym (leb-suc-zero n)
    ∙ (ap (λ m. nat_le m 0) (sym (length_kept (retained_copy birth number v k) (map (retained_copy birth number v) rest) true (queues_copy birth number v o k same ∙ queued)))
    ∙ (ap (λ r. nat_le (length (chosen true birth number v (k ∷ rest))) r) (sym none)
    ∙ (ap (λ (ys : List RetainedMessage). nat_le (length (chosen true birth number v ys)) room) (sym is) ∙ w.same birth number v same)))

-- behind the last they do
pub fits_last : (o : SubscriptionOptions) (rest all : List RetainedMessage) (room room0 birth number : ℕ) (v : Wish) → length rest ≡ 0 → Fitting o rest all room room0
    → v.options ≡ o → true ≡ nat_le (length (chosen true birth number v all)) room0
fits_last o [] all room room0 birth number v none w same = sym (leb-zero room) ∙ w.same birth number v same
fits_last o (k ∷ rest) all room room0 birth number v none w same = absurd cc

-- ---- the copies

-- those so far, and those of the rest, are all
pub record Pushing (queued : Bool) (birth number : ℕ) (o : SubscriptionOptions) (identifier : Option ℕ) (rest all : List RetainedMessage) (done old : List MessageCopy) : Type 0 where
  pub same : (w : Wish) → w.options ≡ o → w.identifier ≡ identifier → done ++ chosen queued birth number w rest ≡ old ++ chosen queued birth number w all

kept_one : (queued : Bool) (c : MessageCopy) (cs : List MessageCopy) → filter (is_chosen queued) (c ∷ []) ++ filter (is_chosen queued) cs ≡ filter (is_chosen queued) (c ∷ cs)
kept_one queued c cs = elim (cases_Bool (is_chosen queued c)) [
  | inl so ↦ rw so refl
  | inr other ↦ rw other refl
]

-- a message is copied if it is of the kind that is wanted
pub pushes_next : (queued : Bool) (birth number : ℕ) (o : SubscriptionOptions) (identifier : Option ℕ) (k : RetainedMessage) (rest xs all : List RetainedMessage) (done done2 old : List MessageCopy)
    → xs ≡ k ∷ rest → Pushing queued birth number o identifier xs all done old
    → ((w : Wish) → w.options ≡ o → w.identifier ≡ identifier → done2 ≡ done ++ chosen queued birth number w (k ∷ [])) → Pushing queued birth number o identifier rest all done2 old
pushes_next queued birth number o identifier k rest xs all done done2 old is b more = record {
  same = λ w f i.
      let c : MessageCopy = retained_copy birth number w k in
      let cs : List MessageCopy = map (retained_copy birth number w) rest in
      ap (λ ys. ys ++ filter (is_chosen queued) cs) (more w f i)
      ∙ (append_assoc done (filter (is_chosen queued) (c ∷ [])) (filter (is_chosen queued) cs)
      ∙ (ap (λ ys. done ++ ys) (kept_one queued c cs)
      ∙ (ap (λ (ys : List RetainedMessage). done ++ chosen queued birth number w ys) (sym is) ∙ b.same w f i)));
}

-- behind the last all of that kind are copied
pub pushes_last : (queued : Bool) (birth number : ℕ) (o : SubscriptionOptions) (identifier : Option ℕ) (rest all : List RetainedMessage) (done old : List MessageCopy) (w : Wish)
    → length rest ≡ 0 → Pushing queued birth number o identifier rest all done old → w.options ≡ o → w.identifier ≡ identifier → done ≡ old ++ chosen queued birth number w all
pushes_last queued birth number o identifier [] all done old w none b f i = sym (append-nil done) ∙ b.same w f i
pushes_last queued birth number o identifier (k ∷ rest) all done old w none b f i = absurd cc
