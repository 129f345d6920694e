-- What a stop before its commit leaves of what ends ask of the broker, of a scene that is taken apart (MQTT 5.0, 4.1).
use Rattle.std.proofs.Common.{◌≡◌, ℕ, Bool, true, false, not, List, Some, None, MatchBool, refl, sym, ap, subst, ◌∙◌, inl, true≢false}
use Rattle.std.specs.Prelude.{◌↔◌, IsTrue}
use Rattle.mqtt_packet.specs.declared.codec.packet.Packet.{Packet}
use Rattle.mqtt_world_model.specs.model.World.{Asking, Setting, Stranger, World, before, break, call_of, is_bad_asking, pump, stop_before, tick}
use Rattle.mqtt_broker.specs.engine.Serving.{Serving}
use Rattle.mqtt_rules.specs.step.Contents.{IsTaken}
use Rattle.mqtt_rules.specs.step.Step.{Input}
use Rattle.mqtt_world.specs.clients.Ends.{Ends, in_world, reading}
use Rattle.mqtt_world.specs.script_laws.Scripted.{IsBadEvent, IsRefused, front_of, packet_of}
use Rattle.mqtt_world.specs.script_laws.Scripted as script
use Rattle.mqtt_world.specs.script_laws.Turns.{IsPlain}
use Rattle.mqtt_script.specs.declared.event.Asking as script_asking
use Rattle.mqtt_script.specs.declared.event.Asking.TheVariants as asked
use Rattle.mqtt_world.specs.scene.Events.{played, world_of}
use Rattle.mqtt_world.specs.scene.Scenes.{Played}
use Rattle.mqtt_world.specs.scene.Stopping.{TakesOff}
use Rattle.mqtt_world.proofs.scene_lemmas.Eventful.{any_setting, front_is}

-- the two words for it mean the same
pub reading_same : (old : Bool) (client : List ℕ) → reading old client ≡ script.reading old client
reading_same false client = refl
reading_same true client = refl

-- ---- the packet in front

abbrev IsReadable : Bool → Asking → World → Type 0
IsReadable is a w = MatchBool is (¬ IsRefused (front_of a w)) (IsRefused (front_of a w))

some_tells : (set : Setting) (old : Bool) (client : List ℕ) (w : World) (line : ℕ) (packet : Packet) (is : Bool)
    → Some (Input line packet) ≡ call_of set (reading old client) w → (IsTrue is ↔ IsTaken packet) → IsReadable is (reading old client) w
some_tells set old client w line packet true same taken =
    λ refused. subst IsRefused (front_is set old client w ∙ ap packet_of (sym same)) refused (taken.0 refl)
some_tells set old client w line packet false same taken =
    subst IsRefused (ap packet_of same ∙ sym (front_is set old client w)) (λ x. true≢false (sym (taken.1 x)))

none_tells : (set : Setting) (old : Bool) (client : List ℕ) (w : World) → None ≡ call_of set (reading old client) w
    → IsReadable true (reading old client) w
none_tells set old client w same =
    λ refused. subst IsRefused (front_is set old client w ∙ ap packet_of (sym same)) refused

module _ {K : Type 0} (old : Bool) (client : List ℕ) (E : Serving K) (O : Ends) (s : Played K) (view : played E O ≡ s) where
  seen : (is : Bool) → ((now : ℕ) (ss : List Stranger) → IsReadable is (reading old client) (world_of now ss (played E O)))
      → (now : ℕ) (ss : List Stranger) → IsReadable is (reading old client) (world_of now ss s)
  seen is tells now ss = subst (λ (x : Played K). IsReadable is (reading old client) (world_of now ss x)) view (tells now ss)

  -- if a packet is in front, it is refused exactly if it is not taken
  pub some_in_front : (line : ℕ) (packet : Packet) (is : Bool)
      → ((set : Setting) (w : World) → Some (Input line packet) ≡ call_of set (reading old client) (in_world O w))
      → (IsTrue is ↔ IsTaken packet)
      → (now : ℕ) (ss : List Stranger) → IsReadable is (reading old client) (world_of now ss s)
  some_in_front line packet is front taken =
      let set = any_setting E.running.limits in
      seen is (λ now ss. let w = world_of now ss (played E O) in some_tells set old client w line packet is (front set w) taken)

  -- if no packet is in front, none is refused
  pub none_in_front : ((set : Setting) (w : World) → None ≡ call_of set (reading old client) (in_world O w))
      → (now : ℕ) (ss : List Stranger) → IsReadable true (reading old client) (world_of now ss s)
  none_in_front front =
      let set = any_setting E.running.limits in
      seen true (λ now ss. let w = world_of now ss (played E O) in none_tells set old client w (front set w))

-- if the test says yes, the packet in front is not refused
pub readable : (is : Bool) (a : Asking) (w : World) → is ≡ true → MatchBool is (¬ IsRefused (front_of a w)) (IsRefused (front_of a w))
    → ¬ IsRefused (front_of a w)
readable is a w holds tells = subst (λ (t : Bool). IsReadable t a w) holds tells

-- if it says no, the packet in front is refused
pub unreadable : (is : Bool) (a : Asking) (w : World) → is ≡ false → MatchBool is (¬ IsRefused (front_of a w)) (IsRefused (front_of a w))
    → IsRefused (front_of a w)
unreadable is a w fails tells = subst (λ (t : Bool). IsReadable t a w) fails tells

-- ---- what is taken off

module _ {K : Type 0} (a : Asking) (E : Serving K) (O : Ends) (s : Played K) where
  -- if the stop can't happen, nothing is taken off
  pub bad_off : played E O ≡ s → ((now : ℕ) (ss : List Stranger) → IsBadEvent (stop_before a) (world_of now ss (played E O)))
      → TakesOff a false s s
  bad_off view is = subst (λ (x : Played K). TakesOff a false x x) view (is, refl)

  -- if it can be asked, the packet is taken off its line, and the broker is left alone
  pub taken_off : (N : Ends) → played E O ≡ s → ((now : ℕ) (ss : List Stranger) → is_bad_asking a (world_of now ss (played E O)) ≡ false)
      → ((now : ℕ) (ss : List Stranger) → ¬ IsRefused (front_of a (world_of now ss s)))
      → ((set : Setting) (now : ℕ) (ss : List Stranger) → world_of now ss (played E N) ≡ before set a (world_of now ss (played E O)))
      → TakesOff a true s (played E N)
  taken_off N view good taken is =
      subst (λ (x : Played K). TakesOff a true x (played E N)) view (record {
        engine = refl;
        good = good;
        taken = subst (λ (x : Played K). (now : ℕ) (ss : List Stranger) → ¬ IsRefused (front_of a (world_of now ss x))) (sym view) taken;
        is = is;
      })

  -- there is no packet to be taken off: a test says whether it can be asked
  pub off_if : (can : Bool) → played E O ≡ s → ((now : ℕ) (ss : List Stranger) → is_bad_asking a (world_of now ss (played E O)) ≡ not can)
      → ((now : ℕ) (ss : List Stranger) → ¬ IsRefused (front_of a (world_of now ss (played E O))))
      → ((set : Setting) (now : ℕ) (ss : List Stranger) → before set a (world_of now ss (played E O)) ≡ world_of now ss (played E O))
      → TakesOff a can s s
  off_if false view tells taken same = bad_off view (λ now ss. inl (tells now ss))
  off_if true view tells taken same =
      subst (λ (x : Played K). TakesOff a true x x) view
      (record { engine = refl; good = tells; taken = taken; is = λ set now ss. sym (same set now ss) })

-- a tick takes nothing off
pub tick_off : {K : Type 0} (s : Played K) → TakesOff tick true s s
tick_off s = record { engine = refl; good = λ now ss. refl; taken = λ now ss no. no; is = λ set now ss. refl }

-- ---- what a script's asking asks

-- a script's reading of this end's line asks the broker to read it
pub read_as : (asking : script_asking.Asking) (client text : List ℕ) (old : Bool) → asking ≡ asked.ToBroker client old → text ≡ client
    → reading old text ≡ script.asking_of asking
read_as asking client text old is same = ap (reading old) same ∙ (reading_same old client ∙ sym (ap script.asking_of is))

-- a script's break asks that this end's line breaks
pub broken_as : (asking : script_asking.Asking) (client text : List ℕ) → asking ≡ asked.Break client → text ≡ client
    → break text ≡ script.asking_of asking
broken_as asking client text is same = ap break same ∙ sym (ap script.asking_of is)

-- a script's pump asks that the broker sends to this end
pub pumped_as : (asking : script_asking.Asking) (client text : List ℕ) → asking ≡ asked.Pump client → text ≡ client
    → pump text ≡ script.asking_of asking
pumped_as asking client text is same = ap pump same ∙ sym (ap script.asking_of is)

-- a script's tick asks that the broker does what is due
pub ticked_as : (asking : script_asking.Asking) → asking ≡ asked.Tick → tick ≡ script.asking_of asking
ticked_as asking is = sym (ap script.asking_of is)

-- no stranger asks
pub not_plain : {P : Type 0} (asking : script_asking.Asking) (name bytes : List ℕ) → asking ≡ asked.Stranger name bytes
    → IsPlain (script.asking_of asking) → P
not_plain asking name bytes is plain = absurd (subst (λ (x : script_asking.Asking). IsPlain (script.asking_of x)) is plain)
