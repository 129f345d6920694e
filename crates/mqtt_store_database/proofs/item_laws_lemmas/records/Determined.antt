-- Rows determine the sessions that they are of.
use Rattle.std.proofs.Common.{◌≡◌, ℕ, List, [], ◌∷◌, refl, sym, ap, subst, ◌∙◌, arith, inl, inr}
use Rattle.std.specs.Prelude.{Option, Some, None}
use Rattle.mqtt_records.specs.declared.state.session.Session.{Session}
use Rattle.mqtt_records.specs.declared.state.session.Columns.{Columns}
use Rattle.mqtt_records.specs.declared.messages.message.Will.{Will}
use Rattle.mqtt_records.specs.declared.state.subscription.Subscription.{Subscription}
use Rattle.mqtt_records.specs.messages.Queue.{CopyRow}
use Rattle.mqtt_records.specs.declared.state.records.Records.{Records}
use Rattle.mqtt_records.specs.lists.Order.{IsAbove, IsAscending}
use Rattle.mqtt_records.specs.state.Session.{birth_of, place_of, number_of, copy_place, columns_of}
use Rattle.mqtt_records.specs.state.Members.{Has, InPart, queue_of}
use Rattle.mqtt_store_database.specs.item_laws.Members.{listed, will_of, subscriptions_of, inbound_of, SameRows, IsOrdered, AllOrdered}
use Rattle.mqtt_store_database.proofs.item_laws_lemmas.records.Members.{has_all, has_above}
use Rattle.mqtt_store_database.proofs.item_laws_lemmas.records.Queues.{one_session}

module _ {X : Type 0} (key : X → ℕ) where
  -- the first of one list is the first of the other
  heads : (x y : X) (xs ys : List X) → IsAbove key (key x) xs → IsAbove key (key y) ys → Has (y ∷ ys) x → Has (x ∷ xs) y → x ≡ y
  heads x y xs ys up vp (inl same) k = same
  heads x y xs ys up vp (inr h) (inl same) = sym same
  heads x y xs ys up vp (inr h) (inr k) = let more = has_above key (key y) ys x vp h in let less = has_above key (key x) xs y up k in absurd (omega (arith, more, less))

  tails : (x y : X) (xs ys : List X) → x ≡ y → IsAbove key (key x) xs → ((z : X) → Has (x ∷ xs) z → Has (y ∷ ys) z) → (z : X) → Has xs z → Has ys z
  tails x y xs ys same up to z h = elim (to z (inr h)) [
    | inl here ↦ let more = has_above key (key x) xs z up h in let is : key z ≡ key x = ap key (here ∙ sym same) in absurd (omega (arith, more, is))
    | inr there ↦ there
  ]

  -- two lists in the order of their keys that have the same members are the same
  pub same_members : (xs ys : List X) → IsAscending key xs → IsAscending key ys → ((z : X) → Has xs z → Has ys z) → ((z : X) → Has ys z → Has xs z) → xs ≡ ys
  same_members [] [] up vp to back = refl
  same_members [] (y ∷ ys) up vp to back = absurd (back y (inl refl))
  same_members (x ∷ xs) [] up vp to back = absurd (to x (inl refl))
  same_members (x ∷ xs) (y ∷ ys) up vp to back =
      let same : x ≡ y = heads x y xs ys up.0 vp.0 (to x (inl refl)) (back y (inl refl)) in
      let rest : xs ≡ ys = same_members xs ys up.1 vp.1 (tails x y xs ys same up.0 to) (tails y x ys xs (sym same) vp.0 back) in
      ap (λ (z : X). z ∷ xs) same ∙ ap (λ (zs : List X). y ∷ zs) rest

same_option : {X : Type 0} (o p : Option X) → ((z : X) → Has (listed o) z → Has (listed p) z) → ((z : X) → Has (listed p) z → Has (listed o) z) → o ≡ p
same_option None None to back = refl
same_option None (Some y) to back = absurd (back y (inl refl))
same_option (Some x) None to back = absurd (to x (inl refl))
same_option (Some x) (Some y) to back = elim (to x (inl refl)) [ inl same ↦ ap Some same | inr none ↦ absurd none ]

-- what two sessions of one birth have, each in its own list of sessions
part_to : {X : Type 0} (part : Session → List X) (ss ts : List Session) (s t : Session) → IsAscending birth_of ts → Has ss s → Has ts t → s.birth ≡ t.birth → ((b : ℕ) (x : X) → InPart part ss b x → InPart part ts b x) → (x : X) → Has (part s) x → Has (part t) x
part_to part ss ts s t up hs ht same to x h =
    let it = to s.birth x (s, hs, refl, h) in
    subst (λ (u : Session). Has (part u) x) (one_session ts it.0 t up it.1 ht (it.2 ∙ same)) it.3

abbrev session_of : Columns → Option Will → List Subscription → List ℕ → List CopyRow → Session
session_of c will subscriptions inbound queue = record { birth = c.birth; client = c.client; expiry = c.expiry; closed = c.closed; will = will; subscriptions = subscriptions; inbound = inbound; queue = queue }

module _ (q r : Records) (oq : AllOrdered q) (vr : AllOrdered r) (rows : SameRows q r) where
  same_session : (s t : Session) → Has q.sessions s → Has r.sessions t → columns_of s ≡ columns_of t → s ≡ t
  same_session s t hs ht columns =
      let birth : s.birth ≡ t.birth = ap (λ (c : Columns). c.birth) columns in
      let os = has_all IsOrdered q.sessions s oq.lists hs in
      let ot = has_all IsOrdered r.sessions t vr.lists ht in
      let wills : s.will ≡ t.will = same_option s.will t.will (part_to will_of q.sessions r.sessions s t vr.sessions hs ht birth (λ b x. (rows.wills b x).0)) (part_to will_of r.sessions q.sessions t s oq.sessions ht hs (sym birth) (λ b x. (rows.wills b x).1)) in
      let subscriptions : s.subscriptions ≡ t.subscriptions = same_members place_of s.subscriptions t.subscriptions os.subscriptions ot.subscriptions (part_to subscriptions_of q.sessions r.sessions s t vr.sessions hs ht birth (λ b x. (rows.subscriptions b x).0)) (part_to subscriptions_of r.sessions q.sessions t s oq.sessions ht hs (sym birth) (λ b x. (rows.subscriptions b x).1)) in
      let inbound : s.inbound ≡ t.inbound = same_members number_of s.inbound t.inbound os.inbound ot.inbound (part_to inbound_of q.sessions r.sessions s t vr.sessions hs ht birth (λ b x. (rows.inbound b x).0)) (part_to inbound_of r.sessions q.sessions t s oq.sessions ht hs (sym birth) (λ b x. (rows.inbound b x).1)) in
      let queues : s.queue ≡ t.queue = same_members copy_place s.queue t.queue os.queue ot.queue (part_to queue_of q.sessions r.sessions s t vr.sessions hs ht birth (λ b x. (rows.queues b x).0)) (part_to queue_of r.sessions q.sessions t s oq.sessions ht hs (sym birth) (λ b x. (rows.queues b x).1)) in
      ap (λ (c : Columns). session_of c s.will s.subscriptions s.inbound s.queue) columns
      ∙ (ap (λ (w : Option Will). session_of (columns_of t) w s.subscriptions s.inbound s.queue) wills
      ∙ (ap (λ (l : List Subscription). session_of (columns_of t) t.will l s.inbound s.queue) subscriptions
      ∙ (ap (λ (l : List ℕ). session_of (columns_of t) t.will t.subscriptions l s.queue) inbound
      ∙ ap (λ (l : List CopyRow). session_of (columns_of t) t.will t.subscriptions t.inbound l) queues)))

  -- records whose sessions have the same rows have the same sessions
  pub determined : q.sessions ≡ r.sessions
  determined = same_members birth_of q.sessions r.sessions oq.sessions vr.sessions
      (λ s h. let it = (rows.columns (columns_of s)).0 (s, h, refl) in subst (Has r.sessions) (sym (same_session s it.0 h it.1 (sym it.2))) it.1)
      (λ t h. let it = (rows.columns (columns_of t)).1 (t, h, refl) in subst (Has q.sessions) (same_session it.0 t it.1 h it.2) it.1)
