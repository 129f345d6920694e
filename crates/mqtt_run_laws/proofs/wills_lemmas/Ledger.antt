-- The Wills of a session with their ends, as deeds change them.
use Rattle.std.proofs.Common.{◌≡◌, ℕ, Bool, true, false, cond, List, [], ◌∷◌, ◌++◌, Option, Some, None, refl, ap, ◌∙◌}
use Rattle.std.specs.List.{AllByRecursion}
use Rattle.mqtt_records.specs.declared.messages.message.Will.{Will}
use Rattle.mqtt_rules.specs.step.Deeds.{Accept, At, Begin, Deed, DropWill, Finish, FromWill, RefuseWill, Resume, after, after_all}
use Rattle.mqtt_rules.specs.step.State.{Broker}
use Rattle.mqtt_world_laws.specs.causes.Endings.{Asked}
use Rattle.mqtt_run_laws.specs.wills.Fates.{Dropped, WillEnd, HasOneEnd, StandOrEnded, StoredWill, with_end, first_end, stored_with, taken_with, wills_after, wills_in}
use Rattle.mqtt_run_laws.proofs.wills_lemmas.Quiet.{AreQuiet, IsQuiet}

-- ---- one Will

-- a CONNECT may bring one where none stands
pub stored_stands : (o : Option Will) (ws : List StoredWill) → AllByRecursion HasOneEnd ws → StandOrEnded o (stored_with o ws)
stored_stands None ws h = h
stored_stands (Some w) ws h = ((refl, refl), h)

-- what is taken away has one end then: that, or the one that it had
pub taken_ends : (fate : WillEnd) (o : Option Will) (ws : List StoredWill) → StandOrEnded o ws → AllByRecursion HasOneEnd (taken_with fate ws)
taken_ends fate None [] h = tt
taken_ends fate None (x ∷ xs) h = ((h.0.0, ap (first_end fate) h.0.1), h.1)
taken_ends fate (Some w) [] h = absurd h
taken_ends fate (Some w) (x ∷ xs) h = ((fate, ap (first_end fate) h.0.1), h.1)

-- what ends and then is taken away has one end
pub ended_once : (fate : WillEnd) (t : Bool) (w : Will) (ws : List StoredWill) → StandOrEnded (Some w) ws → AllByRecursion HasOneEnd (cond t (taken_with Dropped (with_end fate ws)) (with_end fate ws))
ended_once fate t w [] h = absurd h
ended_once fate true w (x ∷ xs) h = ((fate, ap (λ (es : List WillEnd). first_end Dropped (es ++ fate ∷ [])) h.0.1), h.1)
ended_once fate false w (x ∷ xs) h = ((fate, ap (λ (es : List WillEnd). es ++ fate ∷ []) h.0.1), h.1)

-- ---- lists of deeds

module _ (k : ℕ) (x : Asked) where
  -- two lists, one after the other
  pub wills_append : (xs ys : List Deed) (b : Broker) (ws : List StoredWill) → wills_in k x (xs ++ ys) b ws ≡ wills_in k x ys (after_all xs b) (wills_in k x xs b ws)
  wills_append [] ys b ws = refl
  wills_append (d ∷ xs) ys b ws = wills_append xs ys (after d b) (wills_after k x d b ws)

  quiet_after : (d : Deed) (b : Broker) (ws : List StoredWill) → IsQuiet d → wills_after k x d b ws ≡ ws
  quiet_after (Accept number FromWill m) b ws h = absurd h
  quiet_after (Begin row will) b ws h = absurd h
  quiet_after (At who (Resume expiry will)) b ws h = absurd h
  quiet_after (At who DropWill) b ws h = absurd h
  quiet_after (Finish who) b ws h = absurd h
  quiet_after (RefuseWill who) b ws h = absurd h
  quiet_after d b ws h = refl

  -- deeds that leave Wills alone
  pub quiet_in : (ds : List Deed) (b : Broker) (ws : List StoredWill) → AreQuiet ds → wills_in k x ds b ws ≡ ws
  quiet_in [] b ws h = refl
  quiet_in (d ∷ ds) b ws h = quiet_in ds (after d b) (wills_after k x d b ws) h.1 ∙ quiet_after d b ws h.0
