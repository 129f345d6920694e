-- How many copies stand in a session's queue: one that leaves makes it no longer, and one that enters makes it one longer.
use Rattle.std.proofs.Common.{◌≡◌, ℕ, suc, ◌≤◌, true, false, not, List, [], ◌∷◌, length, Option, Some, None, nat_eq, refl, sym, subst, ap, ◌∙◌, arith, inl, inr}
use Rattle.std.specs.Prelude.{⊤, flat_map}
use Rattle.std.specs.List.{AllByRecursion}
use Rattle.std.proofs.lemmas.Bool.{cases_Bool}
use Rattle.mqtt_base.specs.declared.session.Ending.{Ending}
use Rattle.mqtt_base.specs.declared.limits.TheConstants.{QUEUE_LIMIT}
use Rattle.mqtt_flow.specs.outbound.Outbound.{way_made}
use Rattle.mqtt_flow.specs.declared.outbound.entry.Turn.{Turn}
use Rattle.mqtt_flow.specs.declared.outbound.entry.Turn.TheVariants as turns
use Rattle.mqtt_records.specs.messages.Queue.{CopyRow}
use Rattle.mqtt_records.specs.declared.messages.message.MessageCopy.{MessageCopy}
use Rattle.mqtt_records.specs.state.Records.{changed_all}
use Rattle.mqtt_records.specs.state.Session.{birth_of, copy_place, with_copy, without_copy}
use Rattle.mqtt_records.specs.declared.state.session.Session.{Session}
use Rattle.mqtt_records.specs.lists.Order.{change_row, row_at}
use Rattle.mqtt_rules.proofs.step_lemmas.numbers.Copies.{each_append}
use Rattle.mqtt_rules.proofs.step_lemmas.acts.Goods.{after_append}
use Rattle.mqtt_rules.proofs.step_lemmas.order.Ordered.{length-filter_le}
use Rattle.mqtt_rules.proofs.step_lemmas.order.OrderedRoom.{length-put_row_suc}
use Rattle.mqtt_rules.specs.step.Deeds.{At, Deed, Enter, Leave, after, after_all, new_entry, part_rows_of, whose}
use Rattle.mqtt_rules.specs.step.Outbound.{enter_deeds, leave_deeds, of_entry, queue_limits, since}
use Rattle.mqtt_rules.specs.step.State.{Broker, Env, queue_on, session_at}
use Rattle.mqtt_world_laws.proofs.receiver_lemmas.own.Own.{some_is}

module _ (birth : ℕ) where
  -- in the queue of the session of this birth, if it stands
  abbrev HasUpTo : ℕ → List Session → Type 0
  HasUpTo most ss = (x : Session) → row_at birth_of birth ss ≡ Some x → length x.queue ≤ most

  abbrev pub IsUpTo : ℕ → Broker → Type 0
  IsUpTo most b = (x : Session) → session_at birth b.records ≡ Some x → length x.queue ≤ most

  changed_upto : (k most limit : ℕ) (f : Session → Session) (ss : List Session) → most ≤ limit → ((y : Session) → birth_of (f y) ≡ birth_of y) → ((y : Session) → length y.queue ≤ most → length (f y).queue ≤ limit)
      → HasUpTo most ss → HasUpTo limit (change_row birth_of k f ss)
  changed_upto k most limit f [] le same grows h x e = absurd cc
  changed_upto k most limit f (y ∷ ys) le same grows h x e = elim (cases_Bool (nat_eq y.birth k)) [
    | inl changed ↦ elim (cases_Bool (nat_eq y.birth birth)) [
      | inl its ↦
          let kept : nat_eq (f y).birth birth ≡ true = ap (λ (j : ℕ). nat_eq j birth) (same y) ∙ its in
          let is : f y ≡ x = some_is (f y) x (rw (changed, kept) at e) in
          subst (λ (z : Session). length z.queue ≤ limit) is (grows y (h y (rw its refl)))
      | inr other ↦
          let kept : nat_eq (f y).birth birth ≡ false = ap (λ (j : ℕ). nat_eq j birth) (same y) ∙ other in
          let less = h x (rw other (rw (changed, kept) at e)) in
          omega (arith, le, less)
    ]
    | inr unchanged ↦ elim (cases_Bool (nat_eq y.birth birth)) [
      | inl its ↦
          let is : y ≡ x = some_is y x (rw (unchanged, its) at e) in
          let less = h y (rw its refl) in
          subst (λ (z : Session). length z.queue ≤ limit) is (omega (arith, le, less))
      | inr other ↦ changed_upto k most limit f ys le same grows (λ z at. h z (rw other at)) x (rw (unchanged, other) at e)
    ]
  ]

  more_upto : (k m : ℕ) (b : Broker) → k ≤ m → IsUpTo k b → IsUpTo m b
  more_upto k m b le h x e = let less = h x e in omega (arith, le, less)

  -- ---- a copy leaves, and one enters

  abbrev IsLeaving : Deed → Type 0
  IsLeaving (At who (Leave e ending)) = ⊤
  IsLeaving d = ⊥

  left_by : (most : ℕ) (o : Option Session) (b : Broker) (e : CopyRow) (ending : Ending) → IsUpTo most b → HasUpTo most (changed_all (part_rows_of (Leave e ending) o) b.records).sessions
  left_by most None b e ending h = h
  left_by most (Some s) b e ending h = changed_upto s.birth most most (without_copy e.place) b.records.sessions (omega arith) (λ y. refl) (λ y le. let less = length-filter_le (λ (row : CopyRow). not (nat_eq (copy_place row) e.place)) y.queue in omega (arith, le, less)) h

  entered_by : (most : ℕ) (o : Option Session) (b : Broker) (copy : MessageCopy) → IsUpTo most b → HasUpTo (suc most) (changed_all (part_rows_of (Enter copy) o) b.records).sessions
  entered_by most None b copy h = more_upto most (suc most) b (omega arith) h
  entered_by most (Some s) b copy h =
      changed_upto s.birth most (suc most) (with_copy (new_entry copy s.queue)) b.records.sessions (omega arith) (λ y. refl)
      (λ y le. let more = length-put_row_suc copy_place QUEUE_LIMIT (new_entry copy s.queue) y.queue in omega (arith, le, more)) h

  left_upto : (most : ℕ) (ds : List Deed) (b : Broker) → AllByRecursion IsLeaving ds → IsUpTo most b → IsUpTo most (after_all ds b)
  left_upto most [] b q h = h
  left_upto most (At who (Leave e ending) ∷ ds) b q h = left_upto most ds (after (At who (Leave e ending)) b) q.1 (left_by most (session_at who.birth b.records) b e ending h)
  left_upto most (d ∷ ds) b q h = absurd q.0

  leaving_turn : (s : Session) (t : Turn) → AllByRecursion IsLeaving (leave_deeds s t)
  leaving_turn s (turns.Leave place ending) = by (row_at copy_place place s.queue)
    where
      by : (o : Option CopyRow) → AllByRecursion IsLeaving (of_entry o (λ e. At (whose s) (Leave e ending) ∷ []))
      by None = tt
      by (Some e) = (tt, tt)
  leaving_turn s t = tt

  leaving_turns : (s : Session) (ts : List Turn) → AllByRecursion IsLeaving (flat_map (leave_deeds s) ts)
  leaving_turns s [] = tt
  leaving_turns s (t ∷ ts) = each_append IsLeaving (leave_deeds s t) (flat_map (leave_deeds s) ts) (leaving_turn s t) (leaving_turns s ts)

  -- a copy that enters makes its queue at most one longer
  pub entered_upto : (most : ℕ) (env : Env) (copy : MessageCopy) (s : Session) (b : Broker) → IsUpTo most b → IsUpTo (suc most) (after_all (enter_deeds env copy s) b)
  entered_upto most env copy s b h =
      let ts = way_made (queue_limits env) (since env s) (queue_on [] s) in
      let first = flat_map (leave_deeds s) ts in
      let c = after_all first b in
      subst (IsUpTo (suc most)) (sym (after_append first (At (whose s) (Enter copy) ∷ []) b))
      (entered_by most (session_at s.birth c.records) c copy (left_upto most first b (leaving_turns s ts) h))
