-- An index can follow the rows of closing a session, and of settling it.
use Rattle.std.proofs.Common.{◌≡◌, ℕ, List, [], ◌∷◌, ◌++◌, Option, Some, None, inl, inr}
use Rattle.std.specs.Prelude.{◌⊎◌}
use Rattle.mqtt_records.specs.declared.state.change.Change.{Change}
use Rattle.mqtt_records.specs.declared.state.records.Records.{Records}
use Rattle.mqtt_records.specs.declared.state.session.Session.{Session}
use Rattle.mqtt_records.specs.state.Records.{changed, changed_all}
use Rattle.mqtt_rules.specs.step.Deeds.{Whose, Part, Close, DropWill, Enter, Leave, Deed, Accept, Begin, Name, Count, At, Finish, Keep, Forget, RefuseWill, Link, On, Send, Gone, part_rows, part_rows_of, rows_of, rows_of_all, stored_after, after}
use Rattle.mqtt_rules.specs.step.State.{Broker, session_at}
use Rattle.mqtt_rules.proofs.step_lemmas.acts.Goods.{AreGood}
use Rattle.mqtt_broker_queue.specs.subscribers.Following.{CanAllBeFollowed}
use Rattle.mqtt_broker.proofs.stored_lemmas.Own.{IsClosing, IsOwn, IsQueued}

follow_append : (xs ys : List Change) (r : Records) → CanAllBeFollowed xs r → CanAllBeFollowed ys (changed_all xs r) → CanAllBeFollowed (xs ++ ys) r
follow_append [] ys r p q = q
follow_append (x ∷ xs) ys r p q = (p.0, follow_append xs ys (changed x r) p.1 q)

follow_queued : (part : Part) (s : Session) (r : Records) → IsQueued part → CanAllBeFollowed (part_rows part s) r
follow_queued (Enter copy) s r h = (tt, tt)
follow_queued (Leave e ending) s r h = (tt, tt)
follow_queued part s r h = elim h [ ]

follow_closing : (part : Part) (s : Session) (r : Records) → IsClosing part → CanAllBeFollowed (part_rows part s) r
follow_closing (Close moment) s r h = (tt, tt)
follow_closing DropWill s r h = (tt, tt)
follow_closing part s r h = elim h [ ]

module _ (k : ℕ) where
  follow_part : (who : Whose) (part : Part) (o : Option Session) (r : Records) → IsQueued part ⊎ ((who.birth ≡ k) × IsClosing part) → CanAllBeFollowed (part_rows_of part o) r
  follow_part who part None r h = tt
  follow_part who part (Some s) r (inl queued) = follow_queued part s r queued
  follow_part who part (Some s) r (inr own) = follow_closing part s r own.1

  follow_deed : (d : Deed) (b : Broker) → IsOwn k d b → CanAllBeFollowed (rows_of d b.records) b.records
  follow_deed (Accept number origin m) b h = (tt, tt)
  follow_deed (Begin row will) b h = elim h [ ]
  follow_deed (Name n) b h = elim h [ ]
  follow_deed (Count n) b h = elim h [ ]
  follow_deed (At who part) b h = follow_part who part (session_at who.birth b.records) b.records h
  follow_deed (Finish who) b h = (tt, tt)
  follow_deed (Keep kept) b h = (tt, tt)
  follow_deed (Forget place) b h = (tt, tt)
  follow_deed (RefuseWill who) b h = tt
  follow_deed (Link n) b h = elim h [ ]
  follow_deed (On n part) b h = elim h [ ]
  follow_deed (Send n packet) b h = tt
  follow_deed (Gone n) b h = elim h [ ]

  -- an index can follow the rows of the deeds of closing or settling a session
  pub follow_own : (ds : List Deed) (b : Broker) → AreGood (IsOwn k) ds b → CanAllBeFollowed (rows_of_all ds b.records) b.records
  follow_own [] b h = tt
  follow_own (d ∷ ds) b h =
      follow_append (rows_of d b.records) (rows_of_all ds (stored_after d b.records)) b.records (follow_deed d b h.0) (follow_own ds (after d b) h.1)
