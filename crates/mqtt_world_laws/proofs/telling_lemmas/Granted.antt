-- The deeds of a step, if clients are granted the aliases that they take.
use Rattle.std.proofs.Common.{◌≡◌, ℕ, ◌≤◌, ◌<◌, Bool, true, false, List, [], ◌∷◌, map, nat_eq, Option, Some, None, refl, sym, ap, subst, ◌∙◌, arith, inl, inr}
use Rattle.std.specs.Prelude.{⊤, filter_map, min}
use Rattle.std.specs.List.{AllByRecursion}
use Rattle.std.proofs.lemmas.Bool.{cases_Bool, eqb-true}
use Rattle.mqtt_base.specs.declared.limits.TheConstants.{ALIAS_LIMIT}
use Rattle.mqtt_packet.specs.declared.codec.packet.Packet.{Packet}
use Rattle.mqtt_packet.specs.declared.codec.packet.Packet.TheVariants as packets
use Rattle.mqtt_topic.specs.sending.Told.{ToldTopics, most_of, none_told}
use Rattle.mqtt_rules.specs.step.State.{Broker, Line, Telling, line_at, told_on}
use Rattle.mqtt_rules.specs.step.Deeds.{Deed, Gone, Greet, Hear, Link, On, Send, SetAlias, Went, after, after_all, greeted, output, spoken, tells, tells_on, wires, without_telling}
use Rattle.mqtt_rules.proofs.step_lemmas.acts.Goods.{AreGood}
use Rattle.mqtt_rules.specs.telling.Meaning.{GrantsWithin, HasItsTopic, SendsItsTopic}
use Rattle.mqtt_rules.proofs.telling_lemmas.Lines.{gone_other, gone_own, greeted_other, told_other, told_own}
use Rattle.mqtt_world_model.specs.model.Lines.{sent_to}
use Rattle.mqtt_world_model.specs.model.Ends.{heard}
use Rattle.mqtt_world_model.specs.model.Seen.{heard_in}
use Rattle.mqtt_world_laws.specs.telling.AsSent.{Most, granted}
use Rattle.mqtt_world_laws.proofs.telling_lemmas.Given.{IsGiven}

-- ---- what is asked of them

-- a PUBLISH that is sent has its topic, a client is greeted on a line that was given, and numbers of lines go up
abbrev pub AreInOrder : ℕ → List Deed → Type 0
AreInOrder given [] = ⊤
AreInOrder given (Link n ∷ ds) = (given ≤ n) × AreInOrder n ds
AreInOrder given (On n (Greet birth keep_alive window largest most) ∷ ds) = (n ≤ given) × AreInOrder given ds
AreInOrder given (Send n packet ∷ ds) = HasItsTopic packet × AreInOrder given ds
AreInOrder given (d ∷ ds) = AreInOrder given ds

-- so they are if they come of a call, and send topics
pub in_order : (g : ℕ) (ds : List Deed) (b : Broker) → g ≤ b.given → AreGood (IsGiven g) ds b → AllByRecursion SendsItsTopic ds → AreInOrder b.given ds
in_order g [] b le q h = tt
in_order g (Link n ∷ ds) b le q h = let up = q.0 in (up, in_order g ds (after (Link n) b) (omega (arith, le, up)) q.1 h.1)
in_order g (On n (Greet birth keep_alive window largest most) ∷ ds) b le q h =
    let low = q.0 in
    (omega (arith, le, low), in_order g ds (after (On n (Greet birth keep_alive window largest most)) b) le q.1 h.1)
in_order g (On n Hear ∷ ds) b le q h = in_order g ds (after (On n Hear) b) le q.1 h.1
in_order g (On n (SetAlias alias topic) ∷ ds) b le q h = in_order g ds (after (On n (SetAlias alias topic)) b) le q.1 h.1
in_order g (On n (Went place) ∷ ds) b le q h = in_order g ds (after (On n (Went place)) b) le q.1 h.1
in_order g (Send n packet ∷ ds) b le q h = (h.0, in_order g ds (after (Send n packet) b) le q.1 h.1)
in_order g (d ∷ ds) b le q h = in_order g ds (after d b) le q.1 h.1

-- ---- what goes out

-- they send the same
pub granted_outputs : (most : Most) (ds : List Deed) → filter_map output (map (granted most) ds) ≡ filter_map output ds
granted_outputs most [] = refl
granted_outputs most (Send n packet ∷ ds) = ap (λ (xs : List (ℕ × Packet)). (n, packet) ∷ xs) (granted_outputs most ds)
granted_outputs most (On n part ∷ ds) = granted_outputs most ds
granted_outputs most (d ∷ ds) = granted_outputs most ds

-- no client is granted more than it takes
pub grants_within : (most : Most) (n given : ℕ) (ds : List Deed) → AreInOrder given ds → GrantsWithin n (most n) (map (granted most) ds)
grants_within most n given [] h = tt
grants_within most n given (Link k ∷ ds) h = grants_within most n k ds h.1
grants_within most n given (On k (Greet birth keep_alive window largest none) ∷ ds) h = (
  λ same. subst (λ (j : ℕ). min (most k) ALIAS_LIMIT ≤ most j) (eqb-true k n same) (omega arith),
  grants_within most n given ds h.1,
)
grants_within most n given (On k Hear ∷ ds) h = grants_within most n given ds h
grants_within most n given (On k (SetAlias alias topic) ∷ ds) h = grants_within most n given ds h
grants_within most n given (On k (Went place) ∷ ds) h = grants_within most n given ds h
grants_within most n given (Send k packet ∷ ds) h = (h.0, grants_within most n given ds h.1)
grants_within most n given (d ∷ ds) h = grants_within most n given ds h

-- ---- nothing is told on lines that were not given

-- nothing was told there
abbrev pub IsUnused : ℕ → List Telling → Type 0
IsUnused given ts = (n : ℕ) → given < n → told_on n ts ≡ none_told 0

above : (k n : ℕ) → k < n → nat_eq k n ≡ false
above k n less = test (nat_eq k n) refl
  where
    clash : k ≡ n → ⊥
    clash is = omega (arith, is, less)

    test : (t : Bool) → nat_eq k n ≡ t → t ≡ false
    test true same = absurd (clash (eqb-true k n same))
    test false other = refl

unused_greeted : (k given most : ℕ) (ts : List Telling) → k ≤ given → IsUnused given ts → IsUnused given (greeted k most ts)
unused_greeted k given most ts le u n less = greeted_other n k most ts (above k n (omega (arith, le, less))) ∙ u n less

unused_sent : (k given : ℕ) (o : Option Line) (packet : Packet) (ts : List Telling) → IsUnused given ts → IsUnused given (tells_on k o packet ts)
unused_sent k given o packet ts u n less = elim (cases_Bool (nat_eq k n)) [
  | inl mine ↦
      subst (λ (j : ℕ). told_on n (tells_on j o packet ts) ≡ none_told 0) (sym (eqb-true k n mine))
      (told_own n o packet ts ∙ (ap (tells o packet) (u n less) ∙ sym (told_own n o packet [])))
  | inr other ↦ told_other n k o packet ts other ∙ u n less
]

unused_gone : (k given : ℕ) (ts : List Telling) → IsUnused given ts → IsUnused given (without_telling k ts)
unused_gone k given ts u n less = elim (cases_Bool (nat_eq k n)) [
  | inl mine ↦ subst (λ (j : ℕ). told_on n (without_telling j ts) ≡ none_told 0) (sym (eqb-true k n mine)) (gone_own n ts)
  | inr other ↦ gone_other n k ts other ∙ u n less
]

-- nor after the deeds
pub unused_after : (most : Most) (ds : List Deed) (b : Broker) → AreInOrder b.given ds → IsUnused b.given b.tellings
    → IsUnused (after_all (map (granted most) ds) b).given (after_all (map (granted most) ds) b).tellings
unused_after most [] b h u = u
unused_after most (Link k ∷ ds) b h u =
    let up = h.0 in
    unused_after most ds (after (Link k) b) h.1 (λ n less. u n (omega (arith, up, less)))
unused_after most (On k (Greet birth keep_alive window largest none) ∷ ds) b h u =
    let grant = most_of (Some (most k)) in
    unused_after most ds (after (On k (Greet birth keep_alive window largest grant)) b) h.1 (unused_greeted k b.given grant b.tellings h.0 u)
unused_after most (On k Hear ∷ ds) b h u = unused_after most ds (after (On k Hear) b) h u
unused_after most (On k (SetAlias alias topic) ∷ ds) b h u = unused_after most ds (after (On k (SetAlias alias topic)) b) h u
unused_after most (On k (Went place) ∷ ds) b h u = unused_after most ds (after (On k (Went place)) b) h u
unused_after most (Send k packet ∷ ds) b h u =
    unused_after most ds (after (Send k packet) b) h.1 (unused_sent k b.given (line_at k b) packet b.tellings u)
unused_after most (Gone k ∷ ds) b h u = unused_after most ds (after (Gone k) b) h (unused_gone k b.given b.tellings u)
unused_after most (d ∷ ds) b h u = unused_after most ds (after d b) h u

-- the same lines are given
pub granted_given : (most : Most) (ds : List Deed) (b c : Broker) → b.given ≡ c.given → (after_all (map (granted most) ds) b).given ≡ (after_all ds c).given
granted_given most [] b c e = e
granted_given most (Link k ∷ ds) b c e = granted_given most ds (after (Link k) b) (after (Link k) c) refl
granted_given most (On k part ∷ ds) b c e = granted_given most ds (after (granted most (On k part)) b) (after (On k part) c) e
granted_given most (d ∷ ds) b c e = granted_given most ds (after d b) (after d c) e

-- ---- a publisher hears the same of what goes out

heard_spoken : (o : Option Line) (told : ToldTopics) (packet : Packet) → heard (spoken o told packet) ≡ heard packet
heard_spoken None told packet = refl
heard_spoken (Some l) told (packets.Publish p) = refl
heard_spoken (Some l) told packet = refl

module _ (n : ℕ) (new : Broker) where
  heard_one : (k : ℕ) (x y : Packet) (xs ys : List (ℕ × Packet)) → heard x ≡ heard y
      → map heard_in (sent_to (Some n) new xs) ≡ map heard_in (sent_to (Some n) new ys)
      → map heard_in (sent_to (Some n) new ((k, x) ∷ xs)) ≡ map heard_in (sent_to (Some n) new ((k, y) ∷ ys))
  heard_one k x y xs ys same rest = elim (cases_Bool (nat_eq k n)) [
    | inl here ↦ rw here (let all : heard x ∷ map heard_in (sent_to (Some n) new xs) ≡ heard y ∷ map heard_in (sent_to (Some n) new ys) = cc in all)
    | inr other ↦ rw other rest
  ]

  heard_on : (ds : List Deed) (b : Broker) → map heard_in (sent_to (Some n) new (wires ds b)) ≡ map heard_in (sent_to (Some n) new (filter_map output ds))
  heard_on [] b = refl
  heard_on (Send k packet ∷ ds) b =
      let out = spoken (line_at k b) (told_on k b.tellings) packet in
      heard_one k out packet (wires ds (after (Send k packet) b)) (filter_map output ds) (heard_spoken (line_at k b) (told_on k b.tellings) packet)
      (heard_on ds (after (Send k packet) b))
  heard_on (d ∷ ds) b = heard_on ds (after d b)

-- whatever line it is, if any
pub heard_wires : (o : Option ℕ) (new : Broker) (ds : List Deed) (b : Broker) → map heard_in (sent_to o new (wires ds b)) ≡ map heard_in (sent_to o new (filter_map output ds))
heard_wires None new ds b = refl
heard_wires (Some n) new ds b = heard_on n new ds b
