-- What an event of ends makes of a broker and its ends, from what its calls make of them.
use Rattle.std.proofs.Common.{◌≡◌, ℕ, Bool, true, false, not, List, Some, None, refl, sym, ap, subst, ◌∙◌, inr, true≢false}
use Rattle.mqtt_packet.specs.declared.codec.packet.Packet.{Packet}
use Rattle.mqtt_keep.specs.declared.keeping.keep.Keep.{Ghosts}
use Rattle.mqtt_world_model.specs.model.Tellings.{Telling, silent, telling}
use Rattle.mqtt_world_model.specs.model.World.{Asking, Event, Setting, Stranger, World, ask, before, call_of, calls, happens, is_bad, is_bad_asking, is_end}
use Rattle.mqtt_broker.specs.engine.Serving.{Serving}
use Rattle.mqtt_rules.specs.step.Contents.{IsTaken}
use Rattle.mqtt_rules.specs.step.State.{Broker, MemberChoice}
use Rattle.mqtt_rules.specs.step.Step.{Call, Input, deeds, is_step_spent, stepped, told}
use Rattle.mqtt_rules.specs.declared.step.Capacity.{Capacity}
use Rattle.mqtt_world.specs.clients.Ends.{Ends, reading}
use Rattle.mqtt_world.specs.script_laws.Scripted.{Happens, IsBadEvent, front_of, packet_of, IsRefused}
use Rattle.mqtt_world.specs.script_laws.Turns.{IsPlain, IsQuiet, by_choice}
use Rattle.mqtt_world.proofs.script_laws_lemmas.Single.{asks_call, asks_nothing, left_by, plain_happens, quiet}
use Rattle.mqtt_world_laws.specs.knowing.Knowing.{HasKnowingEnds, TakesAsEnds}
use Rattle.mqtt_world_laws.proofs.knowing_lemmas.Calls.{meant_out}
use Rattle.mqtt_world_laws.proofs.knowing_lemmas.Worlds.{asked_takes, before_knowing}
use Rattle.mqtt_world.specs.scene.Scenes.{Calls, IsPlayable, IsTrulyCall, Played}
use Rattle.mqtt_world.specs.scene.Events.{Does, IsReached, SpellsAll, TakesPacket, played, steps, world_of}

-- a choice of members, for what leaves nothing to choose
pub any_choice : MemberChoice
any_choice group clients = clients

module _ {K : Type 0} (g : Ghosts K) (now : ℕ) where
  -- ends may have changed
  pub playable_still : (E : Serving K) (O N : Ends) → IsPlayable g (played E O) → IsPlayable g (played E N)
  playable_still E O N playable = record { runs = playable.runs; stored = playable.stored; clear = playable.clear }

  -- ---- an event that can't happen

  -- an event that can't happen changes nothing
  pub bad_done : (e : Event) (s : Played K) → IsPlayable g s → ((ss : List Stranger) → IsBadEvent e (world_of now ss s)) → Does g now e s None s
  bad_done e s playable is = record { playable = playable; limits = refl; sound = λ sound. sound; reached = λ sound reached. reached; done = λ sound spells reached ss knowing. (is ss, refl) }

  -- ---- what ends do

  -- if the broker is asked for nothing, what becomes of the ends is all that happens, and nothing is told
  pub quiet_done : (e : Event) (E : Serving K) (O N : Ends) (t : Telling) → IsQuiet e → t ≡ silent → IsPlayable g (played E O)
      → ((ss : List Stranger) → is_bad e (world_of now ss (played E O)) ≡ false)
      → ((set : Setting) (ss : List Stranger) → world_of now ss (played E N) ≡ happens set e (world_of now ss (played E O)))
      → Does g now e (played E O) (Some t) (played E N)
  quiet_done e E O N t q told playable good is = record {
    playable = playable_still E O N playable;
    limits = refl;
    sound = λ sound. sound;
    reached = λ sound reached. reached;
    done = λ sound spells reached ss knowing.
        let limits = E.running.limits in
        let w = world_of now ss (played E O) in
        let after = world_of now ss (played E N) in
        subst (λ (x : Telling). Happens limits e x w after) (sym told) (quiet limits any_choice e w after q (good ss) (is (by_choice limits any_choice) ss));
  }

  -- ---- what is asked of the broker

  -- if what is asked comes to no call, the ends alone change, and nothing is told
  pub nothing_done : (a : Asking) (E : Serving K) (O N : Ends) (t : Telling) → IsPlain a → t ≡ silent → IsPlayable g (played E O)
      → ((ss : List Stranger) → is_bad_asking a (world_of now ss (played E O)) ≡ false)
      → ((set : Setting) (ss : List Stranger) → call_of set a (world_of now ss (played E O)) ≡ None)
      → ((set : Setting) (ss : List Stranger) → world_of now ss (played E N) ≡ left_by a (before set a (world_of now ss (played E O))))
      → Does g now (ask a) (played E O) (Some t) (played E N)
  nothing_done a E O N t p told playable good none is = record {
    playable = playable_still E O N playable;
    limits = refl;
    sound = λ sound. sound;
    reached = λ sound reached. reached;
    done = λ sound spells reached ss knowing.
        let limits = E.running.limits in
        let set = by_choice limits any_choice in
        let w = world_of now ss (played E O) in
        let after = world_of now ss (played E N) in
        subst (λ (x : Telling). Happens limits (ask a) x w after) (sym told)
        (plain_happens limits a silent w after p (asks_nothing limits any_choice a w after p (good ss) (none set ss) (is set ss)));
  }

  -- if a broker can come to be, so can the one that a call leaves
  pub reached_after : (call : Call) (old new : Played K) (t : Telling) → TakesPacket call → IsTrulyCall now call old t new
      → IsReached old.engine.running.limits old.engine.running.broker → IsReached old.engine.running.limits new.engine.running.broker
  reached_after call old new t takes c reached =
      subst (IsReached old.engine.running.limits) (sym c.broker) (steps c.choice now call old.engine.running.broker reached takes c.unspent)

  -- what a call makes of the broker and its ends it makes of their world, whatever strangers there are
  pub world_called : (call : Call) (old new : Played K) (t : Telling) (ss : List Stranger) → IsReached old.engine.running.limits old.engine.running.broker → TakesPacket call → (c : IsTrulyCall now call old t new)
      → SpellsAll old.engine.running.limits → HasKnowingEnds (world_of now ss old) → TakesAsEnds call (world_of now ss old)
      → world_of now ss new ≡ calls (by_choice old.engine.running.limits c.choice) call (world_of now ss old)
  world_called call old new t ss reached takes c spells knowing few =
      let limits = old.engine.running.limits in
      let b = old.engine.running.broker in
      let stands : Broker → Ends → World = λ x e. record { broker = x; now = now; publishers = e.publishers; receivers = e.receivers; strangers = ss } in
      ap (λ (x : Broker). stands x new.ends) c.broker
      ∙ ap (stands (stepped limits c.choice now call b)) (c.ends (spells c.choice now call b reached takes c.unspent) (meant_out (by_choice limits c.choice) call (world_of now ss old) knowing few))

  -- what is asked is done by the call, with what its end does before it and behind it
  pub called_done : (a : Asking) (call : Call) (E F : Serving K) (O M P N : Ends) (t : Telling) → IsPlain a → IsPlayable g (played E O)
      → ((ss : List Stranger) → is_bad_asking a (world_of now ss (played E O)) ≡ false)
      → ((set : Setting) (ss : List Stranger) → call_of set a (world_of now ss (played E O)) ≡ Some call)
      → ((set : Setting) (ss : List Stranger) → world_of now ss (played E M) ≡ before set a (world_of now ss (played E O)))
      → TakesPacket call → Calls g now call (played E M) t (played F P)
      → ((ss : List Stranger) → world_of now ss (played F N) ≡ left_by a (world_of now ss (played F P)))
      → Does g now (ask a) (played E O) (Some t) (played F N)
  called_done a call E F O M P N t p playable good some mid takes c last =
      record {
        playable = playable_still F P N c.playable;
        limits = c.limits;
        sound = c.sound;
        reached = λ sound reached. reached_after call (played E M) (played F P) t takes (c.truly sound) reached;
        done = λ sound spells reached ss knowing.
            let limits = E.running.limits in
            let x = c.truly sound in
            let set = by_choice limits x.choice in
            let w = world_of now ss (played E O) in
            let after = world_of now ss (played F N) in
            let same = mid set ss in
            plain_happens limits a t w after p
            (asks_call limits x.choice a call t w after p (good ss) (some set ss)
            (subst (λ (v : World). is_step_spent limits x.choice v.now call v.broker ≡ false) same x.unspent)
            (last ss ∙ ap (left_by a) (world_called call (played E M) (played F P) t ss reached takes x spells
            (subst HasKnowingEnds (sym same) (before_knowing set a w knowing)) (subst (TakesAsEnds call) (sym same) (asked_takes set a call w knowing (some set ss)))
            ∙ ap (calls set call) same))
            (subst (λ (v : World). t ≡ telling (deeds limits x.choice v.now call v.broker)) same x.told_is));
      }

  -- ---- the same of a scene that is taken apart

  -- an event that can't happen in a scene taken apart changes nothing of the scene
  pub bad_from : (e : Event) (E : Serving K) (O : Ends) (s : Played K) → played E O ≡ s → IsPlayable g s
      → ((ss : List Stranger) → IsBadEvent e (world_of now ss (played E O))) → Does g now e s None s
  bad_from e E O s same playable is = subst (λ (x : Played K). Does g now e x None x) same (bad_done e (played E O) (subst (IsPlayable g) (sym same) playable) is)

  -- if what is asked of a scene taken apart comes to no call, the ends alone change, and nothing is told
  pub nothing_from : (a : Asking) (E : Serving K) (O N : Ends) (s : Played K) (t : Telling) → IsPlain a → t ≡ silent → played E O ≡ s → IsPlayable g s
      → ((ss : List Stranger) → is_bad_asking a (world_of now ss (played E O)) ≡ false)
      → ((set : Setting) (ss : List Stranger) → call_of set a (world_of now ss (played E O)) ≡ None)
      → ((set : Setting) (ss : List Stranger) → world_of now ss (played E N) ≡ left_by a (before set a (world_of now ss (played E O))))
      → Does g now (ask a) s (Some t) (played E N)
  nothing_from a E O N s t p told same playable good none is =
      subst (λ (x : Played K). Does g now (ask a) x (Some t) (played E N)) same
      (nothing_done a E O N t p told (subst (IsPlayable g) (sym same) playable) good none is)

  -- if the ends stay too, nothing of the scene changes
  pub nothing_whole : (a : Asking) (E : Serving K) (O : Ends) (s : Played K) (t : Telling) → IsPlain a → t ≡ silent → played E O ≡ s → IsPlayable g s
      → ((ss : List Stranger) → is_bad_asking a (world_of now ss (played E O)) ≡ false)
      → ((set : Setting) (ss : List Stranger) → call_of set a (world_of now ss (played E O)) ≡ None)
      → ((set : Setting) (ss : List Stranger) → world_of now ss (played E O) ≡ left_by a (before set a (world_of now ss (played E O))))
      → Does g now (ask a) s (Some t) s
  nothing_whole a E O s t p told same playable good none is =
      subst (λ (x : Played K). Does g now (ask a) x (Some t) x) same
      (nothing_done a E O O t p told (subst (IsPlayable g) (sym same) playable) good none is)

  -- the ends are left alone before the call and after it
  pub called_whole : (a : Asking) (call : Call) (E : Serving K) (O : Ends) (s f : Played K) (t : Telling) → IsPlain a → played E O ≡ s → IsPlayable g s
      → ((ss : List Stranger) → is_bad_asking a (world_of now ss (played E O)) ≡ false)
      → ((set : Setting) (ss : List Stranger) → call_of set a (world_of now ss (played E O)) ≡ Some call)
      → ((set : Setting) (ss : List Stranger) → world_of now ss (played E O) ≡ before set a (world_of now ss (played E O)))
      → TakesPacket call → Calls g now call s t f
      → ((ss : List Stranger) → world_of now ss f ≡ left_by a (world_of now ss f))
      → Does g now (ask a) s (Some t) f
  called_whole a call E O s f t p same playable good some mid takes c last =
      subst (λ (x : Played K). Does g now (ask a) x (Some t) f) same
      (called_done a call E f.engine O O f.ends f.ends t p (subst (IsPlayable g) (sym same) playable) good some mid takes
      (subst (λ (x : Played K). Calls g now call x t f) (sym same) c) last)

  -- the end leaves its line after the call
  pub called_left : (a : Asking) (call : Call) (E F : Serving K) (O P N : Ends) (s f : Played K) (t : Telling) → IsPlain a → played E O ≡ s → played F P ≡ f → IsPlayable g s
      → ((ss : List Stranger) → is_bad_asking a (world_of now ss (played E O)) ≡ false)
      → ((set : Setting) (ss : List Stranger) → call_of set a (world_of now ss (played E O)) ≡ Some call)
      → ((set : Setting) (ss : List Stranger) → world_of now ss (played E O) ≡ before set a (world_of now ss (played E O)))
      → TakesPacket call → Calls g now call s t f
      → ((ss : List Stranger) → world_of now ss (played F N) ≡ left_by a (world_of now ss (played F P)))
      → Does g now (ask a) s (Some t) (played F N)
  called_left a call E F O P N s f t p same after playable good some mid takes c last =
      subst (λ (x : Played K). Does g now (ask a) x (Some t) (played F N)) same
      (called_done a call E F O O P N t p (subst (IsPlayable g) (sym same) playable) good some mid takes
      (subst (λ (x : Played K). Calls g now call x t (played F P)) (sym same) (subst (λ (y : Played K). Calls g now call s t y) (sym after) c)) last)

  -- a packet is taken off before the call
  pub called_taken : (a : Asking) (call : Call) (E : Serving K) (O M : Ends) (s f : Played K) (t : Telling) → IsPlain a → played E O ≡ s → IsPlayable g s
      → ((ss : List Stranger) → is_bad_asking a (world_of now ss (played E O)) ≡ false)
      → ((set : Setting) (ss : List Stranger) → call_of set a (world_of now ss (played E O)) ≡ Some call)
      → ((set : Setting) (ss : List Stranger) → world_of now ss (played E M) ≡ before set a (world_of now ss (played E O)))
      → TakesPacket call → Calls g now call (played E M) t f
      → ((ss : List Stranger) → world_of now ss f ≡ left_by a (world_of now ss f))
      → Does g now (ask a) s (Some t) f
  called_taken a call E O M s f t p same playable good some mid takes c last =
      subst (λ (x : Played K). Does g now (ask a) x (Some t) f) same
      (called_done a call E f.engine O M f.ends f.ends t p (subst (IsPlayable g) (sym same) playable) good some mid takes c last)

-- scenes that are the same have the same ends
pub ends_of : {K : Type 0} (s t : Played K) → s ≡ t → s.ends ≡ t.ends
ends_of {K} s t same = ap (λ (x : Played K). x.ends) same

-- ---- packets of ends

-- that the broker reads an end's line is asked by no stranger
pub reading_plain : (old : Bool) (client : List ℕ) → IsPlain (reading old client)
reading_plain false client = tt
reading_plain true client = tt

-- if an end is there, the broker may be asked to read its line
pub reading_good : (old : Bool) (client : List ℕ) (w : World) → is_end client w ≡ true → is_bad_asking (reading old client) w ≡ false
reading_good false client w is = ap not is
reading_good true client w is = ap not is

-- if no end has this name, the broker can't be asked to read its line
pub reading_bad : (old : Bool) (client : List ℕ) (w : World) → is_end client w ≡ false → is_bad_asking (reading old client) w ≡ true
reading_bad false client w is = ap not is
reading_bad true client w is = ap not is

-- the packet in front of a line is the one that the broker is given if it reads there
pub front_is : (set : Setting) (old : Bool) (client : List ℕ) (w : World) → front_of (reading old client) w ≡ packet_of (call_of set (reading old client) w)
front_is set false client w = refl
front_is set true client w = refl

-- if the call would give the broker a packet that is not taken, the packet in front is refused
pub front_refused : (set : Setting) (old : Bool) (client : List ℕ) (w : World) (line : ℕ) (packet : Packet) → Some (Input line packet) ≡ call_of set (reading old client) w
    → (IsTaken packet → ⊥) → IsRefused (front_of (reading old client) w)
front_refused set old client w line packet is refused = subst IsRefused (ap packet_of is ∙ sym (front_is set old client w)) refused

-- so the broker can't be asked to read a line if the packet in front is not taken
pub reading_refused : (set : Setting) (old : Bool) (client : List ℕ) (w : World) (line : ℕ) (packet : Packet) → Some (Input line packet) ≡ call_of set (reading old client) w
    → (IsTaken packet → ⊥) → IsBadEvent (ask (reading old client)) w
reading_refused set old client w line packet is refused = inr (front_refused set old client w line packet is refused)

-- no end leaves its line because the broker read it
pub reading_leaves : (old : Bool) (client : List ℕ) (w : World) → w ≡ left_by (reading old client) w
reading_leaves false client w = refl
reading_leaves true client w = refl

-- if a test says no, what would make it say yes is not so
pub not_refused : {P : Type 0} (b : Bool) → b ≡ false → (P → b ≡ true) → P → ⊥
not_refused b h k x = true≢false (sym (k x) ∙ h)

-- a setting of these limits, for what leaves no members to choose
pub any_setting : Capacity → Setting
any_setting limits = by_choice limits any_choice
