-- What a step puts out for a receiver is under way to it right after; after a stop nothing is.
use Rattle.std.proofs.Common.{◌≡◌, ℕ, Bool, true, false, cond, List, [], ◌∷◌, ◌++◌, map, filter, Option, Some, None, nat_eq, bytes_eq, refl, ap, ◌∙◌, inl, inr}
use Rattle.std.specs.Prelude.{find, filter_map, option_map}
use Rattle.std.specs.List.{cons_option}
use Rattle.std.proofs.lemmas.Bool.{cases_Bool}
use Rattle.mqtt_packet.specs.declared.codec.packet.Packet.{Packet}
use Rattle.mqtt_rules.specs.step.State.{Broker}
use Rattle.mqtt_rules.specs.step.Step.{Call, Outcome, stepped, told}
use Rattle.mqtt_world_model.specs.model.Ends.{Receiver}
use Rattle.mqtt_world_model.specs.model.Lines.{Down, copy_in, down_on, sent_to}
use Rattle.mqtt_world_model.specs.model.World.{Setting, World, Asking, receiver_named, receiver_told, receiver_restarted, first_step}
use Rattle.mqtt_world_laws.specs.acceptance.AtOnce.{Arrives, IsKeptBack, on_number, put_out_to, under_way}

found_mapped : (f : Receiver → Receiver) → ((r : Receiver) → (f r).client ≡ r.client) → (client : List ℕ) (rs : List Receiver) → find (λ r. bytes_eq r.client client) (map f rs) ≡ option_map f (find (λ r. bytes_eq r.client client) rs)
found_mapped f same client [] = refl
found_mapped f same client (r ∷ rs) = elim (cases_Bool (bytes_eq r.client client)) [
  | inl is ↦ let its : bytes_eq (f r).client client ≡ true = ap (λ (n : List ℕ). bytes_eq n client) (same r) ∙ is in rw (its, is) refl
  | inr other ↦ let its : bytes_eq (f r).client client ≡ false = ap (λ (n : List ℕ). bytes_eq n client) (same r) ∙ other in rw (its, other) (found_mapped f same client rs)
]

abbrev packets : List Down → List Packet
packets ds = map (λ (x : Down). x.packet) ds

packets_append : (xs ys : List Down) → packets (xs ++ ys) ≡ packets xs ++ packets ys
packets_append [] ys = refl
packets_append (x ∷ xs) ys = ap (λ (ps : List Packet). x.packet ∷ ps) (packets_append xs ys)

sent_on : (n : ℕ) (b : Broker) (ps : List (ℕ × Packet)) → packets (filter_map (down_on n b) ps) ≡ on_number (Some n) ps
sent_on n b [] = refl
sent_on n b (p ∷ ps) = by (nat_eq p.0 n) (sent_on n b ps)
  where
    by : (t : Bool) → packets (filter_map (down_on n b) ps) ≡ on_number (Some n) ps
        → packets (cons_option (cond t (Some (record { packet = p.1; copy = copy_in n b p.1 })) None) (filter_map (down_on n b) ps)) ≡ map (λ (x : ℕ × Packet). x.1) (cond t (p ∷ filter (λ (x : ℕ × Packet). nat_eq x.0 n) ps) (filter (λ (x : ℕ × Packet). nat_eq x.0 n) ps))
    by true more = ap (λ (qs : List Packet). p.1 ∷ qs) more
    by false more = more

sent_by : (o : Option ℕ) (b : Broker) (ps : List (ℕ × Packet)) → packets (sent_to o b ps) ≡ on_number o ps
sent_by None b ps = refl
sent_by (Some n) b ps = sent_on n b ps

told_receiver : (b : Broker) (out : Outcome) (o : Option Receiver) → under_way (option_map (receiver_told b out) o) ≡ under_way o ++ put_out_to o out.outputs
told_receiver b out None = refl
told_receiver b out (Some r) =
    packets_append r.line.down (sent_to r.line.number b out.outputs) ∙ ap (λ (ps : List Packet). packets r.line.down ++ ps) (sent_by r.line.number b out.outputs)

-- what a call tells reaches the end on whose line it goes
pub arrives : (set : Setting) (call : Call) (w : World) (client : List ℕ) → Arrives set call w client
arrives set call w client =
    let b = stepped set.limits set.choice w.now call w.broker in
    let out = told set.limits set.choice w.now call w.broker in
    ap under_way (found_mapped (receiver_told b out) (λ r. refl) client w.receivers) ∙ told_receiver b out (receiver_named client w)

restarted_receiver : (o : Option Receiver) → under_way (option_map receiver_restarted o) ≡ []
restarted_receiver None = refl
restarted_receiver (Some r) = refl

-- what a step that is lost tells reaches nobody
pub is_kept_back : (set : Setting) (a : Asking) (w : World) (client : List ℕ) → IsKeptBack set a w client
is_kept_back set a w client =
    let v = first_step set a w in
    ap under_way (found_mapped receiver_restarted (λ r. refl) client v.receivers) ∙ restarted_receiver (receiver_named client v)
