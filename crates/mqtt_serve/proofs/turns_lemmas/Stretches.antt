-- Turns that were had so far, and stretches of them, at the moments that a clock told.
use Rattle.std.proofs.Common.{◌≡◌, ℕ, ◌+◌, ◌<◌, ◌≤◌, max, Bool, true, ◌||◌, List, [], ◌∷◌, ◌++◌, length, Option, Some, None, ap, sym, refl, subst, ◌∙◌, arith, inl, inr}
use Rattle.std.proofs.lemmas.List.{append-nil, length-append}
use Rattle.mqtt_keep.specs.declared.keeping.keep.Keep.{Ghosts}
use Rattle.mqtt_broker_step.specs.declared.call.EngineError.{EngineError}
use Rattle.mqtt_broker.specs.engine.Serving.{Serving}
use Rattle.mqtt_link.specs.Links.{and_then}
use Rattle.mqtt_serve.specs.declared.turns.settling.TheConstants.{TURNS_TOGETHER}
use Rattle.mqtt_serve.specs.declared.turns.turn.Pace.{Pace}
use Rattle.mqtt_serve.specs.turns.Breaks.{BreaksOff}
use Rattle.mqtt_serve.specs.turns.Settled.{IsAtOnce, IsStoredOrPutOff, OfTold, RunsSettledFor, RunsSettledUntil, RunsStretch, RunsStretchUntil, RunsTogether, RunsTogetherUntil, ServedTurn, StoresNothing, Stretches, no_stretch, not_begun, stretch_after, turn_more}
use Rattle.mqtt_serve.specs.turns.Turns.{Hosting, hosting, pace_of, rested, server}
use Rattle.mqtt_serve.proofs.turns_lemmas.Joined.{and_then_append}

-- ---- of moments that a clock told

-- what is so of no moment is so before the clock tells any
told_none : {IsSo : List ℕ → Type 0} {told : Option (List ℕ)} → IsSo [] → OfTold IsSo told told
told_none {told} is = record { read = []; told_is = go told; is_so = is }
  where
    go : (told : Option (List ℕ)) → told ≡ and_then told []
    go None = refl
    go (Some bytes) = ap Some (sym (append-nil bytes))

-- and what is so of moments is so of them with those that it tells next
told_more : {IsSo Next : List ℕ → Type 0} {told told_then told_now : Option (List ℕ)} (more : List ℕ) → OfTold IsSo told told_then
    → told_now ≡ and_then told_then more → ((read : List ℕ) → IsSo read → Next (read ++ more)) → OfTold Next told told_now
told_more {told} more before is next = record {
  read = before.read ++ more;
  told_is = is ∙ ap (λ t. and_then t more) before.told_is ∙ sym (and_then_append told before.read more);
  is_so = next before.read before.is_so;
}

-- what is said of them may be said otherwise
told_so : {IsSo Next : List ℕ → Type 0} {told told_then : Option (List ℕ)} → OfTold IsSo told told_then
    → ((read : List ℕ) → IsSo read → Next read) → OfTold Next told told_then
told_so of next = record { read = of.read; told_is = of.told_is; is_so = next of.read of.is_so }

length_more : (read more : List ℕ) (n m : ℕ) → length read ≡ n → length more ≡ m → length (read ++ more) ≡ n + m
length_more read more n m a b = length-append read more ∙ ap (λ x. x + length more) a ∙ ap (λ x. n + x) b

-- stretches were had, and so many turns are left
abbrev pub StretchesSoFar : {K : Type 0} → Ghosts K → ℕ → ℕ → ℕ → ℕ → Option (List ℕ) → Option (List ℕ) → Hosting (Serving K) → Hosting (Serving K) → Type 0
StretchesSoFar g begin turns left last told told_then old new =
    OfTold (λ read. (length read + left ≡ turns) × Stretches g begin read last old new) told told_then

module _ {K : Type 0} {g : Ghosts K} where
  -- ---- turns that are not stored yet

  -- none was had yet
  pub together_none : {begin : ℕ} {told : Option (List ℕ)} {h : Hosting (Serving K)} → RunsTogether g begin 0 begin true told told h h
  together_none = told_none (refl, not_begun)

  -- one more was had
  pub together_more : {begin turns last next : ℕ} (now : ℕ) {pace : Pace} {busy : Bool} {told told_then told_now : Option (List ℕ)} {old h i : Hosting (Serving K)}
      → RunsTogether g begin turns last true told told_then old h → told_now ≡ and_then told_then (now ∷ []) → next ≡ max last now → pace ≡ pace_of last now
      → ServedTurn g pace next busy h i → RunsTogether g begin (turns + 1) next busy told told_now old i
  together_more {begin} {turns} {last} {next} now {pace} {busy} {told} {told_then} {told_now} {old} {h} {i} before read is paced turn =
      rw is (told_more (now ∷ []) before read (λ r so. (
        length_more r (now ∷ []) turns 1 so.0 refl,
        turn_more now so.1 (subst (λ n. ServedTurn g (pace_of last now) n busy h i) is (subst (λ p. ServedTurn g p next busy h i) paced turn)),
      )))

  -- and something came or went in it
  pub together_on : {begin turns last : ℕ} {busy : Bool} {told told_then : Option (List ℕ)} {old h : Hosting (Serving K)} → busy ≡ true
      → RunsTogether g begin turns last busy told told_then old h → RunsTogether g begin turns last true told told_then old h
  together_on {begin} {turns} {last} {busy} {told} {told_then} {old} {h} is before =
      subst (λ b. RunsTogether g begin turns last b told told_then old h) is before

  -- and they are all
  pub together_all : {begin turns limit last : ℕ} {busy : Bool} {told told_then : Option (List ℕ)} {old h : Hosting (Serving K)}
      → RunsTogether g begin turns last busy told told_then old h → turns ≡ limit → RunsTogether g begin limit last busy told told_then old h
  together_all before is = told_so before (λ r so. (so.0 ∙ is, so.1))

  -- the next broke off
  pub together_until : {begin turns limit last next : ℕ} (now : ℕ) {pace : Pace} {error : EngineError} {told told_then told_now : Option (List ℕ)}
      {old h i : Hosting (Serving K)} → RunsTogether g begin turns last true told told_then old h → turns < limit → limit ≤ TURNS_TOGETHER
      → told_now ≡ and_then told_then (now ∷ []) → next ≡ max last now → pace ≡ pace_of last now → BreaksOff g pace next error h i
      → RunsTogetherUntil g begin limit error told told_now old i
  together_until {begin} {turns} {limit} {last} {next} now {pace} {error} {told} {told_then} {told_now} {old} {h} {i} before within few read is paced breaks =
      told_more (now ∷ []) before read (λ r so. (
        omega (arith, length_more r (now ∷ []) turns 1 so.0 refl, within),
        record {
          first = r;
          last = last;
          now = now;
          mid = h;
          read_is = refl;
          few = omega (arith, so.0, within, few);
          turns = so.1;
          breaks = subst (λ n. BreaksOff g (pace_of last now) n error h i) is (subst (λ p. BreaksOff g p next error h i) paced breaks);
        },
      ))

  -- what they did is stored
  pub together_stored : {begin turns last : ℕ} {moved went busy : Bool} {told told_then : Option (List ℕ)} {old h i : Hosting (Serving K)}
      → RunsTogether g begin turns last moved told told_then old h → 0 < turns → turns ≤ TURNS_TOGETHER
      → IsStoredOrPutOff g went (server h.engine h.links.wires) (server i.engine i.links.wires) → i.links.calls ≡ h.links.calls → busy ≡ (moved || went)
      → RunsStretch g begin turns last busy told told_then old i
  together_stored {begin} {turns} {last} {moved} {went} {busy} {told} {told_then} {old} {h} {i} before some few stores same is =
      told_so before (λ r so. (
        so.0,
        record {
          moved = moved;
          served = h;
          went = went;
          some = omega (arith, so.0, some);
          few = omega (arith, so.0, few);
          turns = so.1;
          stores = stores;
          same = same;
          busy_is = is;
        },
      ))

  -- it can't be stored
  pub together_unstored : {begin turns limit last : ℕ} {moved : Bool} {error : EngineError} {told told_then : Option (List ℕ)} {old h i : Hosting (Serving K)}
      → RunsTogether g begin turns last moved told told_then old h → 0 < turns → turns ≤ limit → turns ≤ TURNS_TOGETHER
      → StoresNothing g error (server h.engine h.links.wires) (server i.engine i.links.wires) → i.links.calls ≡ h.links.calls
      → RunsStretchUntil g begin limit error told told_then old i
  together_unstored {begin} {turns} {limit} {last} {moved} {error} {told} {told_then} {old} {h} {i} before some within few stores same =
      told_so before (λ r so. (
        omega (arith, so.0, within),
        inr (record {
          last = last;
          moved = moved;
          served = h;
          some = omega (arith, so.0, some);
          few = omega (arith, so.0, few);
          turns = so.1;
          stores = stores;
          same = same;
        }),
      ))

  -- the stretch broke off with a turn
  pub stretch_until : {begin limit few : ℕ} {error : EngineError} {told told_then : Option (List ℕ)} {old i : Hosting (Serving K)}
      → RunsTogetherUntil g begin few error told told_then old i → few ≤ limit
      → RunsStretchUntil g begin limit error told told_then old i
  stretch_until of within = told_so of (λ r so. (omega (arith, so.0, within), inl so.1))

  -- ---- stretches

  -- none was had yet
  pub stretches_none : {begin turns : ℕ} {told : Option (List ℕ)} {h : Hosting (Serving K)} → StretchesSoFar g begin turns turns begin told told h h
  stretches_none = told_none (omega arith, no_stretch)

  -- one more was had
  pub stretches_more : (then : ℕ) {begin turns left had last next : ℕ} {busy at_once : Bool} {told told_then told_now : Option (List ℕ)} {old h i j : Hosting (Serving K)}
      → StretchesSoFar g begin turns left last told told_then old h
      → RunsStretch g last had next busy told_then told_now h i → then + had ≡ left
      → IsAtOnce busy at_once i.links.wires → j ≡ hosting i.engine (rested at_once i.links) → StretchesSoFar g begin turns then next told told_now old j
  stretches_more then {begin} {turns} {left} {had} {last} {next} {busy} {at_once} {told} {told_then} {told_now} {old} {h} {i} {j} before of is now rests =
      rw rests (told_more of.read before of.told_is (λ r so. (
        omega (arith, length_more r of.read (length r) had refl of.is_so.0, is, so.0),
        stretch_after i so.1 of.is_so.1 now,
      )))

  -- the next broke off
  pub stretches_until : {begin turns left last : ℕ} {error : EngineError} {told told_then told_now : Option (List ℕ)} {old h i : Hosting (Serving K)}
      → StretchesSoFar g begin turns left last told told_then old h
      → RunsStretchUntil g last left error told_then told_now h i
      → RunsSettledUntil g begin turns error told told_now old i
  stretches_until {begin} {turns} {left} {last} {error} {told} {told_then} {told_now} {old} {h} {i} before of =
      told_more of.read before of.told_is (λ r so. (
        omega (arith, length-append r of.read, of.is_so.0, so.0),
        record { first = r; more = of.read; last = last; mid = h; read_is = refl; stretches = so.1; breaks = of.is_so.1 },
      ))

  -- no turn is left
  pub stretches_all : {begin turns left last : ℕ} {told told_then : Option (List ℕ)} {old new : Hosting (Serving K)}
      → StretchesSoFar g begin turns left last told told_then old new → left ≡ 0
      → RunsSettledFor g begin turns told told_then old new
  stretches_all {last} before none = told_so before (λ r so. (omega (arith, so.0, none), (last, so.1)))
