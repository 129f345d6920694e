-- Strangers of one name hold the same, whatever happens.
use Rattle.std.proofs.Common.{◌≡◌, ℕ, zero, suc, Bool, true, false, cond, List, [], ◌∷◌, ◌++◌, map, Option, Some, None, bytes_eq}
use Rattle.std.proofs.Common.{refl, sym, ap, subst, ◌∙◌, inl, inr}
use Rattle.std.specs.Prelude.{find, is_some}
use Rattle.std.specs.List.{AllByRecursion}
use Rattle.std.proofs.lemmas.Bool.{cases_Bool}
use Rattle.std.proofs.lemmas.Slice.Eq.{bytes_eq-Decides}
use Rattle.mqtt_rules.specs.step.Step.{Call}
use Rattle.mqtt_world_model.specs.model.World.{Asking, Event, Setting, Stranger, World, answers_rest, ask, asks, before, break, bytes_held, call_of}
use Rattle.mqtt_world_model.specs.model.World.{call_of_stranger, calls_if, clock, comes, connect_end, first_step, give_up, happens, held_after}
use Rattle.mqtt_world_model.specs.model.World.{held_count, is_bad, linked_at, links, next_held, next_line, old_to_broker, publish, publisher, pump}
use Rattle.mqtt_world_model.specs.model.World.{receiver, restart, restarts, step, stop_after, stop_before, stranger, stranger_named, subscribe}
use Rattle.mqtt_world_model.specs.model.World.{tick, to_broker, to_end, unlinked}
use Rattle.mqtt_world_model.specs.single_steps.Unrolled.{AreAlike, AreAllAlike, HoldsThese}
use Rattle.mqtt_world_model.proofs.single_steps_lemmas.Strangers.{changed, held_by, its}
use Rattle.mqtt_world_model.proofs.single_steps_lemmas.Answered.{Holds, alike_by, asks_alike, if_strangers}

-- ---- bytes of another

-- names that are the same byte by byte are equal
pub same_name : (a b : List ℕ) → bytes_eq a b ≡ true → a ≡ b
same_name a b is = (bytes_eq-Decides a b).0 is

others_held : (name other held : List ℕ) (f : List ℕ → List ℕ) (ss : List Stranger) → bytes_eq other name ≡ false
    → AllByRecursion (HoldsThese name held) ss → AllByRecursion (HoldsThese name held) (map (changed other f) ss)
others_held name other held f [] differ h = tt
others_held name other held f (s ∷ ss) differ h = (by (bytes_eq s.name other) refl, others_held name other held f ss differ h.1)
  where
    by : (t : Bool) → bytes_eq s.name other ≡ t → HoldsThese name held (cond t (held_by f s) s)
    by false e = h.0
    by true e = λ is.
        let clash : true ≡ false = sym is ∙ (ap (λ (x : List ℕ). bytes_eq x name) (same_name s.name other e) ∙ differ) in
        absurd cc

one_more_held : (name held : List ℕ) (s : Stranger) (ss : List Stranger) → bytes_eq s.name name ≡ false
    → AllByRecursion (HoldsThese name held) ss → AllByRecursion (HoldsThese name held) (ss ++ s ∷ [])
one_more_held name held s [] differ h = (λ is. let clash : true ≡ false = sym is ∙ differ in absurd cc, tt)
one_more_held name held s (x ∷ ss) differ h = (h.0, one_more_held name held s ss differ h.1)

-- bytes that come for one stranger are held by it alone
pub come_held : (set : Setting) (name other held bytes : List ℕ) (w : World) → bytes_eq other name ≡ false → Holds name held w
    → Holds name held (comes set other bytes w)
come_held set name other held bytes w differ h = by (is_some (stranger_named other w))
  where
    by : (t : Bool) → Holds name held (linked_at set t other bytes w)
    by true = others_held name other held (λ (old : List ℕ). old ++ bytes) w.strangers differ h
    by false = one_more_held name held _ w.strangers differ h

-- answers to what one stranger holds leave what the others hold
pub rest_held : (set : Setting) (name other held : List ℕ) (more : ℕ) (w : World) → bytes_eq other name ≡ false → Holds name held w
    → Holds name held (answers_rest set more other w)
rest_held set name other held zero w differ h = h
rest_held set name other held (suc more) w differ h =
    rest_held set name other held more (calls_if set (call_of_stranger (stranger_named other w)) (next_held other w)) differ
    (by (call_of_stranger (stranger_named other w)))
  where
    by : (call : Option Call) → Holds name held (calls_if set call (next_held other w))
    by None = others_held name other held held_after w.strangers differ h
    by (Some call) = others_held name other held held_after w.strangers differ h

bytes_alike : (set : Setting) (name other bytes : List ℕ) (w : World) → AreAllAlike w → AreAlike name (asks set (stranger other bytes) w)
bytes_alike set name other bytes w alike = elim (cases_Bool (bytes_eq other name)) [
  | inl is ↦ subst (λ (x : List ℕ). AreAlike x (asks set (stranger other bytes) w)) (same_name other name is) (asks_alike set other bytes w (alike other))
  | inr differ ↦
      let held = bytes_held (stranger_named name w) in
      let c = comes set other bytes w in
      alike_by name held (asks set (stranger other bytes) w)
      (rest_held set name other held (held_count (stranger_named other c)) c differ (come_held set name other held bytes w differ (alike name)))
]

-- ---- calls and restarts

-- if the strangers are the same
same_strangers : (v w : World) → v.strangers ≡ w.strangers → AreAllAlike w → AreAllAlike v
same_strangers v w is alike name =
    subst (λ (ss : List Stranger). AllByRecursion (HoldsThese name (bytes_held (find (its name) ss))) ss) (sym is) (alike name)

-- behind a restart no stranger holds anything
pub none_held : (name : List ℕ) (ss : List Stranger) → AllByRecursion (HoldsThese name []) (map unlinked ss)
none_held name [] = tt
none_held name (s ∷ ss) = (λ is. refl, none_held name ss)

restart_alike : (set : Setting) (w : World) → AreAllAlike (restarts set w)
restart_alike set w name = alike_by name [] (restarts set w) (none_held name w.strangers)

asks_all_alike : (set : Setting) (a : Asking) (w : World) → AreAllAlike w → AreAllAlike (asks set a w)
asks_all_alike set (to_broker client) w alike =
    same_strangers (asks set (to_broker client) w) w (if_strangers set (call_of set (to_broker client) w) (before set (to_broker client) w)) alike
asks_all_alike set (old_to_broker client) w alike =
    same_strangers (asks set (old_to_broker client) w) w (if_strangers set (call_of set (old_to_broker client) w) (before set (old_to_broker client) w)) alike
asks_all_alike set (break client) w alike =
    same_strangers (asks set (break client) w) w (if_strangers set (call_of set (break client) w) w) alike
asks_all_alike set (pump client) w alike =
    same_strangers (asks set (pump client) w) w (if_strangers set (call_of set (pump client) w) w) alike
asks_all_alike set tick w alike = same_strangers (asks set tick w) w (if_strangers set (call_of set tick w) w) alike
asks_all_alike set (stranger other bytes) w alike = λ name. bytes_alike set name other bytes w alike

links_alike : (set : Setting) (line : Option ℕ) (client : List ℕ) (clean : Bool) (w : World) → AreAllAlike w → AreAllAlike (links set line client clean w)
links_alike set None client clean w alike = alike
links_alike set (Some n) client clean w alike = alike

happens_alike : (set : Setting) (e : Event) (w : World) → AreAllAlike w → AreAllAlike (happens set e w)
happens_alike set (publisher client) w alike = alike
happens_alike set (receiver client window aliases) w alike = alike
happens_alike set (connect_end client clean) w alike = links_alike set (next_line set.limits w.broker) client clean w alike
happens_alike set (give_up client) w alike = alike
happens_alike set (publish client d) w alike = alike
happens_alike set (subscribe client x) w alike = alike
happens_alike set (to_end client) w alike = alike
happens_alike set (clock wait) w alike = alike
happens_alike set (ask a) w alike = asks_all_alike set a w alike
happens_alike set restart w alike = restart_alike set w
happens_alike set (stop_before a) w alike = restart_alike set (before set a w)
happens_alike set (stop_after a) w alike = restart_alike set (first_step set a w)

-- an event leaves strangers of one name holding the same
pub step_alike : (set : Setting) (e : Event) (w : World) → AreAllAlike w → AreAllAlike (step set e w)
step_alike set e w alike = by (is_bad e w)
  where
    by : (t : Bool) → AreAllAlike (cond t w (happens set e w))
    by true = alike
    by false = happens_alike set e w alike
