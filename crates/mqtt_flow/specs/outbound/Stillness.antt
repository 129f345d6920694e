-- What is known of a queue without a look at it: the entries at its front for which a pump has nothing (4.6, 4.9).
use Rattle.std.specs.Prelude.{◌≡◌, ⊤, ℕ, suc, Bool, true, false, cond, not, List, [], ◌∷◌, take}
use Rattle.mqtt_base.specs.declared.Phase.{Phase}
use Rattle.mqtt_base.specs.declared.Phase.TheVariants.{Waiting, Sent, Released, Oversize}
use Rattle.mqtt_flow.specs.declared.outbound.entry.Entry.{Entry}
use Rattle.mqtt_flow.specs.outbound.Queue.{greatest_order, in_window}

-- a pump may have something for an entry that waits, or was sent on an earlier connection
abbrev pub stirs_by : Bool → Phase → Bool
stirs_by here Waiting = true
stirs_by here (Sent i) = not here
stirs_by here (Released i order) = false
stirs_by here (Oversize i order) = false

abbrev pub stirs : Entry → Bool
stirs e = stirs_by e.here e.phase

-- it has nothing for these
abbrev pub AllStill : List Entry → Type 0
AllStill [] = ⊤
AllStill (e ∷ es) = (stirs e ≡ false) × AllStill es

-- so many entries at the front stand still, so many fill the window, and this is the greatest order
pub record Foreknown (still window order : ℕ) (queue : List Entry) : Type 0 where
  pub at_front : AllStill (take still queue)
  pub window_is : window ≡ in_window queue
  pub order_is : order ≡ greatest_order queue

-- how many entries at the front stand still
abbrev pub front_still : List Entry → ℕ
front_still [] = 0
front_still (e ∷ es) = cond (stirs e) 0 (suc (front_still es))
