-- What it means that a reader of bodies reads a kind of packet: what is read was spelled so, and what is spelled is read.
use Rattle.std.proofs.Common.{◌≡◌, ℕ, List, Result, Ok}
use Rattle.mqtt_base.proofs.Steps.{IsBytes}
use Rattle.mqtt_packet.specs.declared.parts.fault.Fault.{Fault}

-- what the reader takes is good and was spelled so, and what is good and spelled so it takes
pub record IsReader {A : Type 0} (at : List ℕ → Result A Fault) (Good : A → Type 0) (Body : A → List ℕ → Type 0) : Type 0 where
  pub takes : (body : List ℕ) (x : A) → IsBytes body → at body ≡ Ok x → Good x × Body x body
  pub again : (x : A) (body : List ℕ) → Good x → Body x body → at body ≡ Ok x
