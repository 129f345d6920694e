-- What other ends and strangers ask of the broker, in the eyes of one receiver: no packet of theirs is a CONNECT of its client,
-- and none is on a line of its.
use Rattle.std.proofs.Common.{◌≡◌, ℕ, false, List, Option, Some, None, bytes_eq, refl, sym, ap, subst, ◌∙◌, inl, inr}
use Rattle.std.specs.Prelude.{is_some}
use Rattle.std.specs.List.{AllByRecursion}
use Rattle.mqtt_base.specs.declared.session.CopyId.{CopyId}
use Rattle.mqtt_packet.specs.declared.codec.packet.Packet.{Packet}
use Rattle.mqtt_world_model.specs.model.Ends.{Publisher, Receiver}
use Rattle.mqtt_world_model.specs.model.Hops.{IsOthers}
use Rattle.mqtt_world_model.specs.model.Lines.{left}
use Rattle.mqtt_world_model.specs.model.Run.{read_first}
use Rattle.mqtt_world_model.specs.model.World.{Setting, World, asks, break, call_of, first_step, input_on, lost_on, old_to_broker, pump, pump_on, taken_old, taken_up, to_broker, view_of, with_line}
use Rattle.mqtt_world_model.proofs.model_lemmas.others.Lists.{all_find}
use Rattle.mqtt_rules.specs.step.Step.{Call, Pump}
use Rattle.mqtt_rules.specs.declared.step.Capacity.{Capacity}
use Rattle.mqtt_world_laws.specs.acceptance.Spending.{spending}
use Rattle.mqtt_world_laws.proofs.acceptance_lemmas.publishers.Ends.{named_receiver}
use Rattle.mqtt_world_laws.proofs.acceptance_lemmas.publishers.Kept.{left_apart}
use Rattle.mqtt_world_laws.proofs.acceptance_lemmas.publishers.Others.{IsForeign, foreign_of, line_outside, loss_outside}
use Rattle.mqtt_world_laws.proofs.acceptance_lemmas.publishers.FirstPackets.{takes_apart, takes_old, takes_up}
use Rattle.mqtt_world_laws.specs.delivery.Standing.{BeginWith, IsAnothers, IsAround, IsOtherPublisher, IsOtherReceiver, IsOutOf, Stands, StandsWith}
use Rattle.mqtt_world_laws.proofs.delivery_lemmas.others.Around.{IsNotIts, changed_not, end_others, on_back, on_line}
use Rattle.mqtt_world_laws.proofs.delivery_lemmas.others.Outside.{IsOutside, if_stands, if_there}

-- ---- their packets, and their calls

-- what another end has under way
pub foreign : (c d : List ℕ) (limits : Capacity) (ns : List ℕ) (w : World) → IsAround c limits ns w → (d ≡ c → ⊥) → IsForeign c (IsOutOf ns) w.broker.given (view_of d w)
foreign c d limits ns w a differ =
    foreign_of c d (IsOutOf ns) w.broker.given w differ
    (λ p e. (all_find (IsOtherPublisher ns w.broker.given) (λ (z : Publisher). bytes_eq z.client d) p w.publishers a.publishers e).0)
    (λ r e. elim (all_find (IsOtherReceiver c ns w.broker.given) (λ (z : Receiver). bytes_eq z.client d) r w.receivers a.receivers e).0 [
      | inl same ↦ absurd (differ (sym (named_receiver d r w e) ∙ same))
      | inr free ↦ free
    ])

-- the first packet of a line
pub input_outside : (c ns : List ℕ) (given : ℕ) (x : Option ℕ) (packets : List Packet) (call : Call) → IsAnothers ns given x → AllByRecursion (IsOthers c) packets → input_on x packets ≡ Some call → IsOutside c ns call
input_outside c ns given x packets call free all e = line_outside c (IsOutOf ns) (IsOutside c ns) given x packets call (λ n packet out other. (out, other)) free all e

-- the loss of a line, and a pump
lost_outside : (c ns : List ℕ) (given : ℕ) (x : Option ℕ) (call : Call) → IsAnothers ns given x → lost_on x ≡ Some call → IsOutside c ns call
lost_outside c ns given x call free e = loss_outside (IsOutOf ns) (IsOutside c ns) given x call (λ n out. out) free e

pump_outside : (c ns : List ℕ) (given : ℕ) (x : Option ℕ) (call : Call) → IsAnothers ns given x → pump_on x ≡ Some call → IsOutside c ns call
pump_outside c ns given None call free e = absurd cc
pump_outside c ns given (Some n) call free e = let is : Pump n ≡ call = cc in subst (IsOutside c ns) is (free n refl).0

-- ---- another end's packet is read

-- without its copies and lines
abbrev pub hidden : (first : List CopyId) (c : List ℕ) (largest : ℕ) (limits : Capacity) (ids : List CopyId) (ns : List ℕ) (w : World) → BeginWith first ids → StandsWith c largest limits ids ns w → Stands first c largest limits w
hidden first c largest limits ids ns w g h = record { ids = ids; grown = g; ns = ns; standing = h }

-- the broker's reading of another's line leaves the receiver standing
pub other_reads : (first : List CopyId) (c d : List ℕ) (largest : ℕ) (set : Setting) (w : World) → Stands first c largest set.limits w → IsNotIts c d w → read_first spending set (to_broker d) w ≡ false → Stands first c largest set.limits (first_step set (to_broker d) w)
other_reads first c d largest set w s not_its unspent =
    let v = view_of d w in
    let w1 = with_line d taken_up taken_up w in
    let h = end_others c d largest set.limits s.ids s.ns w (on_line taken_up) (on_back taken_up) (λ p. refl) (λ r. refl) (λ p. takes_apart (IsOutOf s.ns) w.broker.given taken_up takes_up p.line) (λ r. takes_apart (IsOutOf s.ns) w.broker.given taken_up takes_up r.line) not_its s.standing in
    if_stands first c largest set (call_of set (to_broker d) w) w1 (hidden first c largest set.limits s.ids s.ns w1 s.grown h) unspent
    (λ there call is.
    let f = foreign c d set.limits s.ns w s.standing.around (not_its (sym (ap is_some (changed_not c d (on_back taken_up) w (λ r. refl) not_its)) ∙ there)) in
    input_outside c s.ns w.broker.given v.number v.up call f.number f.up is)

-- so does that of an old line
pub other_reads_old : (first : List CopyId) (c d : List ℕ) (largest : ℕ) (set : Setting) (w : World) → Stands first c largest set.limits w → IsNotIts c d w → read_first spending set (old_to_broker d) w ≡ false → Stands first c largest set.limits (first_step set (old_to_broker d) w)
other_reads_old first c d largest set w s not_its unspent =
    let v = view_of d w in
    let w1 = with_line d taken_old taken_old w in
    let h = end_others c d largest set.limits s.ids s.ns w (on_line taken_old) (on_back taken_old) (λ p. refl) (λ r. refl) (λ p. takes_apart (IsOutOf s.ns) w.broker.given taken_old takes_old p.line) (λ r. takes_apart (IsOutOf s.ns) w.broker.given taken_old takes_old r.line) not_its s.standing in
    if_stands first c largest set (call_of set (old_to_broker d) w) w1 (hidden first c largest set.limits s.ids s.ns w1 s.grown h) unspent
    (λ there call is.
    let f = foreign c d set.limits s.ns w s.standing.around (not_its (sym (ap is_some (changed_not c d (on_back taken_old) w (λ r. refl) not_its)) ∙ there)) in
    input_outside c s.ns w.broker.given v.old_number v.old call f.old_number f.old is)

-- ---- it is sent what waits for it, or its line is lost

-- and a pump for another
pub other_pumped : (first : List CopyId) (c d : List ℕ) (largest : ℕ) (set : Setting) (w : World) → Stands first c largest set.limits w → IsNotIts c d w → read_first spending set (pump d) w ≡ false → Stands first c largest set.limits (first_step set (pump d) w)
other_pumped first c d largest set w s not_its unspent =
    let v = view_of d w in
    if_stands first c largest set (pump_on v.number) w s unspent
    (λ there call is. let f = foreign c d set.limits s.ns w s.standing.around (not_its there) in pump_outside c s.ns w.broker.given v.number call f.number is)

-- and another's loss, if it is first
pub other_lost : (first : List CopyId) (c d : List ℕ) (largest : ℕ) (set : Setting) (w : World) → Stands first c largest set.limits w → IsNotIts c d w → read_first spending set (break d) w ≡ false → Stands first c largest set.limits (first_step set (break d) w)
other_lost first c d largest set w s not_its unspent =
    let v = view_of d w in
    if_stands first c largest set (lost_on v.number) w s unspent
    (λ there call is. let f = foreign c d set.limits s.ns w s.standing.around (not_its there) in lost_outside c s.ns w.broker.given v.number call f.number is)

-- and where it is whole
pub other_breaks : (first : List CopyId) (c d : List ℕ) (largest : ℕ) (set : Setting) (w : World) → Stands first c largest set.limits w → IsNotIts c d w → read_first spending set (break d) w ≡ false → Stands first c largest set.limits (asks set (break d) w)
other_breaks first c d largest set w s not_its unspent =
    let w1 = first_step set (break d) w in
    let x = other_lost first c d largest set w s not_its unspent in
    hidden first c largest set.limits x.ids x.ns (asks set (break d) w) x.grown
    (end_others c d largest set.limits x.ids x.ns w1 (on_line left) (on_back left) (λ p. refl) (λ r. refl) (λ p. left_apart (IsOutOf x.ns) w1.broker.given p.line) (λ r. left_apart (IsOutOf x.ns) w1.broker.given r.line)
    (λ there. not_its (sym (if_there c set (lost_on (view_of d w).number) w) ∙ there)) x.standing)
