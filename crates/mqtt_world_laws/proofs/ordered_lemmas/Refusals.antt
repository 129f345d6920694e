-- Whether a run turned a message away, as it is computed (MQTT 5.0, 4.3.3).
use Rattle.std.proofs.Common.{◌≡◌, ℕ, Bool, true, false, ◌||◌, ◌&&◌, List, [], ◌∷◌, ◌++◌, Option, Some, nat_eq, refl, sym, ap, subst, ◌∙◌, append-nil, append_assoc}
use Rattle.std.proofs.lemmas.Cmp.{nat_eq_equiv}
use Rattle.mqtt_rules.specs.declared.step.Capacity.{Capacity}
use Rattle.mqtt_world_model.specs.model.Run.{Turn, accepted_at, accepted_over, message_read, run, setting, turned}
use Rattle.mqtt_world_model.specs.model.World.{World}
use Rattle.mqtt_world_laws.specs.ordered.Ordered.{WasTurnedAway}
use Rattle.mqtt_world_laws.proofs.ordered_lemmas.UnderWay.{is_number}
use Rattle.mqtt_world_laws.proofs.ordered_lemmas.OrderRuns.{times}

module _ (client : List ℕ) (n : ℕ) (limits : Capacity) where
  -- a PUBLISH of the message is read, and it was not accepted by then
  abbrev refuses_at : List ℕ → Option ℕ → Bool
  refuses_at accepted read = is_number n read && nat_eq (times n accepted) 0

  -- so in one of these turns, with what was accepted before
  abbrev pub refuses_in : List ℕ → List Turn → World → Bool
  refuses_in accepted [] w = false
  refuses_in accepted (t ∷ ts) w =
      let all = accepted ++ accepted_at client (setting limits t) t.event w in
      refuses_at all (message_read client t.event w) || refuses_in all ts (turned limits t w)

  both : (a b : Bool) → a ≡ true → b ≡ true → (a && b) ≡ true
  both true b p q = q
  both false b p q = absurd cc

  or_left : (a b : Bool) → a ≡ true → (a || b) ≡ true
  or_left true b h = refl
  or_left false b h = absurd cc

  or_right : (a b : Bool) → b ≡ true → (a || b) ≡ true
  or_right true b h = refl
  or_right false b h = h

  found : (earlier : List Turn) (t : Turn) (later : List Turn) (accepted : List ℕ) (w : World) → message_read client t.event (run limits earlier w) ≡ Some n
      → times n (accepted ++ accepted_over client limits (earlier ++ t ∷ []) w) ≡ 0 → refuses_in accepted (earlier ++ t ∷ later) w ≡ true
  found [] t later accepted w read none =
      let now = accepted_at client (setting limits t) t.event w in
      let all : times n (accepted ++ now) ≡ 0 = subst (λ (ks : List ℕ). times n (accepted ++ ks) ≡ 0) (append-nil now) none in
      or_left (refuses_at (accepted ++ now) (message_read client t.event w)) (refuses_in (accepted ++ now) later (turned limits t w))
      (both (is_number n (message_read client t.event w)) (nat_eq (times n (accepted ++ now)) 0) (ap (is_number n) read ∙ nat_eq_equiv.refl n) (ap (λ (k : ℕ). nat_eq k 0) all))
  found (u ∷ earlier) t later accepted w read none =
      let v = turned limits u w in
      let now = accepted_at client (setting limits u) u.event w in
      or_right (refuses_at (accepted ++ now) (message_read client u.event w)) (refuses_in (accepted ++ now) (earlier ++ t ∷ later) v)
      (found earlier t later (accepted ++ now) v read (subst (λ (ks : List ℕ). times n ks ≡ 0) (sym (append_assoc accepted now (accepted_over client limits (earlier ++ t ∷ []) v))) none))

  -- where none does the message was never turned away
  pub never_refused : (ts : List Turn) (w : World) → refuses_in [] ts w ≡ false → WasTurnedAway client n limits ts w → ⊥
  never_refused ts w none x =
      let some : refuses_in [] ts w ≡ true = subst (λ (us : List Turn). refuses_in [] us w ≡ true) x.are (found x.earlier x.turn x.later [] w x.read x.none) in
      let clash : true ≡ false = sym some ∙ none in absurd cc
