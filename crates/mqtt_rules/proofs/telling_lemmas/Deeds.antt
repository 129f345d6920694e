-- Deed by deed, what goes out on a line means what was meant.
use Rattle.std.proofs.Common.{◌≡◌, ℕ, ◌≤◌, true, List, [], ◌∷◌, nat_eq, refl, sym, ap, subst, ◌∙◌, arith, inl, inr}
use Rattle.std.specs.Prelude.{filter_map}
use Rattle.std.proofs.lemmas.Bool.{cases_Bool, eqb-true}
use Rattle.mqtt_packet.specs.declared.codec.packet.Packet.{Packet}
use Rattle.mqtt_topic.specs.names.Aliases.{AliasTable}
use Rattle.mqtt_topic.specs.sending.Told.{none_told}
use Rattle.mqtt_rules.specs.step.State.{Telling, Broker, line_at, told_on}
use Rattle.mqtt_rules.specs.step.Deeds.{Deed, Gone, Greet, On, Send, after, after_all, greeted, output, spoken, tells, tells_on, wires, without_telling}
use Rattle.mqtt_rules.specs.telling.Meaning.{AllMean, GrantsWithin, HasItsTopic, Knows, after_reading, after_reading_all, on_line}
use Rattle.mqtt_rules.proofs.telling_lemmas.Forms.{goes_out}
use Rattle.mqtt_rules.proofs.telling_lemmas.Lines.{told_own, told_other, gone_own, gone_other, greeted_own, greeted_other}

-- of what goes out, and of what was meant: the law of both
record Both (n : ℕ) (table : AliasTable) (ds : List Deed) (b : Broker) : Type 0 where
  pub means : AllMean table (on_line n (wires ds b)) (on_line n (filter_map output ds))
  pub knows : Knows (after_reading_all table (on_line n (wires ds b))) (told_on n (after_all ds b).tellings)

knows_nothing : (table : AliasTable) (most : ℕ) → most ≤ table.max → Knows table (none_told most)
knows_nothing table most le = record { max = le; few = omega arith; known = λ topic alias has. absurd cc }

module _ (n : ℕ) (table : AliasTable) where
  -- a line that is another, or this one
  greets : (k granted : ℕ) (ts : List Telling) → Knows table (told_on n ts) → (nat_eq k n ≡ true → granted ≤ table.max) → Knows table (told_on n (greeted k granted ts))
  greets k granted ts h within = elim (cases_Bool (nat_eq k n)) [
    | inl mine ↦
        subst (λ (j : ℕ). Knows table (told_on n (greeted j granted ts))) (sym (eqb-true k n mine))
        (greeted_own n granted (Knows table) ts h (knows_nothing table 0 (omega arith)) (knows_nothing table granted (within mine)))
    | inr other ↦ subst (Knows table) (sym (greeted_other n k granted ts other)) h
  ]

  goes : (k : ℕ) (ts : List Telling) → Knows table (told_on n ts) → Knows table (told_on n (without_telling k ts))
  goes k ts h = elim (cases_Bool (nat_eq k n)) [
    | inl mine ↦
        subst (λ (j : ℕ). Knows table (told_on n (without_telling j ts))) (sym (eqb-true k n mine))
        (subst (Knows table) (sym (gone_own n ts)) (knows_nothing table 0 (omega arith)))
    | inr other ↦ subst (Knows table) (sym (gone_other n k ts other)) h
  ]

-- a packet on another line is not read, and one on this line is
sends : (n k : ℕ) (table : AliasTable) (packet : Packet) (ds : List Deed) (b : Broker) → Knows table (told_on n b.tellings) → HasItsTopic packet
    → ((later : AliasTable) → later.max ≡ table.max → Knows later (told_on n (after (Send k packet) b).tellings) → Both n later ds (after (Send k packet) b))
    → Both n table (Send k packet ∷ ds) b
sends n k table packet ds b h has rest = elim (cases_Bool (nat_eq k n)) [
  | inl mine ↦
      let is : k ≡ n = eqb-true k n mine in
      let told : told_on k b.tellings ≡ told_on n b.tellings = ap (λ (j : ℕ). told_on j b.tellings) is in
      let g = goes_out table (told_on k b.tellings) (line_at k b) packet (subst (Knows table) (sym told) h) has in
      let out = spoken (line_at k b) (told_on k b.tellings) packet in
      let own : told_on n (after (Send k packet) b).tellings ≡ tells (line_at k b) packet (told_on k b.tellings) =
      ap (λ (j : ℕ). told_on j (tells_on k (line_at k b) packet b.tellings)) (sym is) ∙ told_own k (line_at k b) packet b.tellings in
      let more = rest (after_reading table out) g.max (subst (Knows (after_reading table out)) (sym own) g.knows) in
      record { means = rw mine (g.means, more.means); knows = rw mine more.knows }
  | inr other ↦
      let same : told_on n (after (Send k packet) b).tellings ≡ told_on n b.tellings = told_other n k (line_at k b) packet b.tellings other in
      let more = rest table refl (subst (Knows table) (sym same) h) in
      record { means = rw other more.means; knows = rw other more.knows }
]

both : (n : ℕ) (table : AliasTable) (ds : List Deed) (b : Broker) → Knows table (told_on n b.tellings) → GrantsWithin n table.max ds → Both n table ds b
both n table [] b h w = record { means = tt; knows = h }
both n table (On k (Greet birth keep_alive window largest granted) ∷ ds) b h w =
    let d = On k (Greet birth keep_alive window largest granted) in
    let more = both n table ds (after d b) (greets n table k granted b.tellings h w.0) w.1 in
    record { means = more.means; knows = more.knows }
both n table (Send k packet ∷ ds) b h w =
    sends n k table packet ds b h w.0
    (λ later max knows. both n later ds (after (Send k packet) b) knows (subst (λ (m : ℕ). GrantsWithin n m ds) (sym max) w.1))
both n table (Gone k ∷ ds) b h w =
    let more = both n table ds (after (Gone k) b) (goes n table k b.tellings h) w in
    record { means = more.means; knows = more.knows }
both n table (d ∷ ds) b h w =
    let more = both n table ds (after d b) h w in
    record { means = more.means; knows = more.knows }

-- each packet on the line means the one that was meant
pub means : (n : ℕ) (table : AliasTable) (ds : List Deed) (b : Broker) → Knows table (told_on n b.tellings) → GrantsWithin n table.max ds
    → AllMean table (on_line n (wires ds b)) (on_line n (filter_map output ds))
means n table ds b h w = (both n table ds b h w).means

-- and then the client knows what it was told by them
pub knows : (n : ℕ) (table : AliasTable) (ds : List Deed) (b : Broker) → Knows table (told_on n b.tellings) → GrantsWithin n table.max ds
    → Knows (after_reading_all table (on_line n (wires ds b))) (told_on n (after_all ds b).tellings)
knows n table ds b h w = (both n table ds b h w).knows
