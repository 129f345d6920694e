-- A step that sends nothing that waiting copies say tells the same.
use Rattle.std.proofs.Common.{◌≡◌, ◌⊎◌, ℕ, List, [], ◌∷◌, refl, ap₂, inl, inr}
use Rattle.mqtt_packet.specs.declared.codec.packet.Packet.{Packet}
use Rattle.mqtt_rules.specs.step.Step.{Outcome}
use Rattle.mqtt_rules.specs.alike.Alike.{Each, AlikeOutputs, AlikeWires, AlikeOutcomes}

each_same : {X : Type 0} (R : X → X → Type 0) → ((x y : X) → R x y → x ≡ y) → (xs ys : List X) → Each R xs ys → xs ≡ ys
each_same R k [] [] h = refl
each_same R k [] (y ∷ ys) h = absurd h
each_same R k (x ∷ xs) [] h = absurd h
each_same R k (x ∷ xs) (y ∷ ys) h = ap₂ (λ z zs. z ∷ zs) (k x y h.0) (each_same R k xs ys h.1)

module _ (P : Type 0) (never : P → ⊥) where
  packet_same : (p q : Packet) → {Q : Type 0} → (p ≡ q) ⊎ (P × Q) → p ≡ q
  packet_same p q (inl e) = e
  packet_same p q (inr h) = absurd (never h.0)

  output_same : (x y : ℕ × Packet) → AlikeOutputs P x y → x ≡ y
  output_same x y h = ap₂ (λ (n : ℕ) (p : Packet). (n, p)) h.0 (packet_same x.1 y.1 h.1)

  wire_same : (x y : ℕ × Packet) → AlikeWires P x y → x ≡ y
  wire_same x y h = ap₂ (λ (n : ℕ) (p : Packet). (n, p)) h.0 (packet_same x.1 y.1 h.1)

  -- outcomes that are alike and say nothing that waiting copies say are the same
  pub outcome_same : (one other : Outcome) → AlikeOutcomes P one other → one ≡ other
  outcome_same one other h =
      let outputs = each_same (AlikeOutputs P) output_same one.outputs other.outputs h.outputs in
      let wires = each_same (AlikeWires P) wire_same one.wires other.wires h.wires in
      λ i. record {
        outputs = outputs i;
        wires = wires i;
        closed = h.closed i;
        reports = h.reports i;
        taken = h.taken i;
        again = h.again i;
      }
