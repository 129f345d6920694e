-- What can happen in a world that runs, and what the replay of a script shows of it (MQTT 5.0, 4.1 to 4.4).
use Rattle.std.specs.Prelude.{[], ◌∷◌, unwrap_or}
use Rattle.mqtt_keep.specs.declared.keeping.keep.Keep.{Ghosts}
use Rattle.mqtt_replay.specs.playing.Playing.{Play}
use Rattle.mqtt_world.specs.scene.Halting.{IsStoreDue}
use Rattle.mqtt_world.specs.world.Worlds.{CantHappen, Happen, Lasting, done_in, handed_in, publications_in, queue_in, seen, sent_in, sessions_in}

-- an event happens as the world says; of one that is over, and of an end that isn't there, nothing is seen but zeros
abbrev pub play_of : {K : Type 0} → Ghosts K → Play (Lasting K)
play_of {K} g = record {
  happens = λ w e t after. Happen g (e ∷ []) (t ∷ []) w after;
  is_bad = λ w e. (after : Lasting K) × CantHappen g e w after;
  due = IsStoreDue g;
  sent = λ w client. unwrap_or (seen (sent_in client w.events) w) 0;
  done = λ w client. unwrap_or (seen (done_in client) w) 0;
  handed = λ w client. unwrap_or (seen (handed_in client) w) [];
  queue = λ w client. unwrap_or (seen (queue_in client) w) 0;
  publications = λ w. unwrap_or (seen publications_in w) 0;
  sessions = λ w. unwrap_or (seen sessions_in w) 0;
}
