-- The bytes of a stranger, piece by piece, each as one turn; and stops at what a stranger asks for.
use Rattle.std.proofs.Common.{◌≡◌, ◌+◌, ◌≤◌, ℕ, zero, suc, Bool, false, cond, List, [], ◌∷◌, ◌++◌, length, Option, None, refl, sym, ap, subst, ◌∙◌, arith, length-append}
use Rattle.std.specs.Prelude.{◌⊎◌, Ok, filter_map}
use Rattle.std.proofs.lemmas.List.{append-nil}
use Rattle.std.proofs.lemmas.List.Elements.{filter_map-append}
use Rattle.mqtt_packet.specs.stream.Front.{first_of}
use Rattle.mqtt_rules.specs.step.Deeds.{Deed, output, report}
use Rattle.mqtt_rules.specs.step.Step.{Call}
use Rattle.mqtt_rules.specs.declared.step.Capacity.{Capacity}
use Rattle.mqtt_world_model.specs.model.Run.{Reading, Turn, deeds_over, read_asked, read_if, read_in, read_rest, run, the_deeds}
use Rattle.mqtt_world_model.specs.model.Tellings.{Telling, silent, telling}
use Rattle.mqtt_world_model.specs.model.World.{Event, Setting, World, ask, asks, bytes_held, call_of_stranger, comes}
use Rattle.mqtt_world_model.specs.model.World.{held_after, held_count, is_bad, stop_after, stranger, stranger_named}
use Rattle.mqtt_world_model.specs.single_steps.Unrolled.{AreAlike, AreCut, IsDecided, IsWhole, UnrollsAsking, bytes_come, turn}
use Rattle.mqtt_world_model.proofs.single_steps_lemmas.Answered.{Holds, enough, next_holds, next_world, none_behind}
use Rattle.mqtt_world_model.proofs.single_steps_lemmas.Answered.{none_longer, nothing_asked, still}
use Rattle.mqtt_world_model.proofs.single_steps_lemmas.Stopped.{comes_holds}
use Rattle.mqtt_world_laws.specs.acceptance.Spending.{run_spends}
use Rattle.mqtt_world.specs.script_laws.Scripted.{Happens}
use Rattle.mqtt_world.specs.script_laws.Turns.{IsReopened, IsTurn, both_tell, by_choice, events_of}
use Rattle.mqtt_world.proofs.script_laws_lemmas.Costs.{spent_joined}
use Rattle.mqtt_world.proofs.script_laws_lemmas.Single.{stops, turn_happens, turn_is, turn_unspent}

-- ---- one piece

-- a piece behind which no packet is whole is the last
pub last_piece : (limits : Capacity) (name piece : List ℕ) (t : Telling) (w after : World) → first_of (held_after (bytes_come name piece w)) ≡ Ok None
    → IsTurn limits (ask (stranger name piece)) t w after → Happens limits (ask (stranger name piece)) t w after
last_piece limits name piece t w after one does =
    turn_happens limits (ask (stranger name piece)) t w after (piece ∷ [], append-nil piece, one, refl) does

-- what is told by some deeds and more
length_joined : {X : Type 0} (xs ys : List X) → length (xs ++ ys) ≡ length xs + length ys
length_joined xs ys = length-append xs ys

-- two lists of deeds tell what both tell
pub told_joined : (xs ys : List Deed) → telling (xs ++ ys) ≡ both_tell (telling xs) (telling ys)
told_joined xs ys =
    ap (λ (rs : List _). record { reports = rs; out = length (filter_map output (xs ++ ys)) }) (filter_map-append report xs ys)
    ∙ ap (λ (n : ℕ). record { reports = filter_map report xs ++ filter_map report ys; out = n })
    (ap length (filter_map-append output xs ys) ∙ length_joined (filter_map output xs) (filter_map output ys))

-- a piece that ends with a packet, and what comes behind it
pub piece_and_more : (limits : Capacity) (name piece more : List ℕ) (t u : Telling) (w mid after : World) → AreAlike name w
    → is_bad (ask (stranger name (piece ++ more))) w ≡ false → IsWhole (bytes_come name piece w)
    → IsTurn limits (ask (stranger name piece)) t w mid → Happens limits (ask (stranger name more)) u mid after
    → Happens limits (ask (stranger name (piece ++ more))) (both_tell t u) w after
piece_and_more limits name piece more t u w mid after alike good whole does rest = record {
  good = good;
  turns = turns;
  unrolls = unrolled rest.unrolls;
  unspent = spent_joined limits front rest.turns w (turn_unspent limits does.choice e w does.good does.unspent)
      (subst (λ (v : World). run_spends limits rest.turns v ≡ false) is rest.unspent);
  is = rest.is ∙ ap (run limits rest.turns) is;
  told = told;
}
  where
    e : Event
    e = ask (stranger name piece)

    front : List Turn
    front = turn does.choice e ∷ []

    turns : List Turn
    turns = turn does.choice e ∷ rest.turns

    is : mid ≡ run limits front w
    is = does.is ∙ sym (turn_is limits does.choice e w does.good)

    nothing : bytes_held (stranger_named name mid) ≡ []
    nothing =
        ap (λ (v : World). bytes_held (stranger_named name v)) does.is
        ∙ none_behind (by_choice limits does.choice) name piece w alike whole

    cuts : (pieces : List (List ℕ)) → AreCut [] pieces → AreCut (bytes_held (stranger_named name w)) (piece ∷ pieces)
    cuts [] cut = absurd cut
    cuts (next ∷ others) cut = (whole, cut)

    unrolled : UnrollsAsking (stranger name more) mid (events_of rest.turns) → UnrollsAsking (stranger name (piece ++ more)) w (events_of turns)
    unrolled (pieces, joined, cut, are) =
        (piece ∷ pieces, ap (λ (xs : List ℕ). piece ++ xs) joined, cuts pieces (subst (λ (held : List ℕ). AreCut held pieces) nothing cut), ap (λ (es : List Event). e ∷ es) are)

    deeds_are : deeds_over limits turns w ≡ read_in the_deeds (by_choice limits does.choice) e w ++ deeds_over limits rest.turns mid
    deeds_are =
        ap (λ (b : Bool). cond b [] (read_in the_deeds (by_choice limits does.choice) e w) ++ deeds_over limits rest.turns (run limits front w)) does.good
        ∙ ap (λ (v : World). read_in the_deeds (by_choice limits does.choice) e w ++ deeds_over limits rest.turns v) (sym is)

    told : both_tell t u ≡ telling (deeds_over limits turns w)
    told =
        ap (λ (x : Telling). both_tell x u) does.told
        ∙ ap (both_tell (telling (read_in the_deeds (by_choice limits does.choice) e w))) rest.told
        ∙ sym (ap telling deeds_are ∙ told_joined (read_in the_deeds (by_choice limits does.choice) e w) (deeds_over limits rest.turns mid))

-- ---- a stop at a stranger's bytes, of which those up to the first packet come

-- a stop behind the first part of a stranger's bytes that is decided
pub stops_after_piece : (limits : Capacity) (name bytes part more : List ℕ) (t : Telling) (w mid after : World) → is_bad (ask (stranger name bytes)) w ≡ false
    → part ++ more ≡ bytes → (more ≡ []) ⊎ IsDecided (bytes_come name part w) → first_of (held_after (bytes_come name part w)) ≡ Ok None
    → IsTurn limits (ask (stranger name part)) t w mid → IsReopened limits mid after → Happens limits (stop_after (stranger name bytes)) silent w after
stops_after_piece limits name bytes part more t w mid after good joined found none does opens =
    stops limits (stranger name bytes) (stranger name part) t w mid after good (part, more, joined, found, none, refl) does opens

-- ---- what is read of a piece of which one packet at most is whole

module _ {X : Type 0} (r : Reading X) (set : Setting) (twice : r.join r.nothing r.nothing ≡ r.nothing) (alone : (x : X) → r.join x r.nothing ≡ x) where
  -- nothing is whole
  nothing_read : (more : ℕ) (name held : List ℕ) (w : World) → Holds name held w → first_of held ≡ Ok None → read_rest r set more name w ≡ r.nothing
  nothing_read zero name held w h none = refl
  nothing_read (suc more) name held w h none =
      let call = call_of_stranger (stranger_named name w) in
      let asked : call ≡ None = nothing_asked name held w h none in
      let same : next_world set name w ≡ w =
      still set name held w 1 h none in
      ap (λ (o : Option Call). r.join (read_if r set o w) (read_rest r set more name (next_world set name w))) asked
      ∙ (ap (λ (v : World). r.join r.nothing (read_rest r set more name v)) same
      ∙ (ap (r.join r.nothing) (nothing_read more name held w h none) ∙ twice))

  one_read : (n : ℕ) (name held : List ℕ) (w : World) → Holds name held w → length held ≤ n → first_of (held_after held) ≡ Ok None
      → read_rest r set n name w ≡ read_if r set (call_of_stranger (stranger_named name w)) w
  one_read zero name held w h within none = sym (ap (λ (o : Option Call). read_if r set o w) (nothing_asked name held w h (none_longer held within)))
  one_read (suc more) name held w h within none =
      let x = read_if r set (call_of_stranger (stranger_named name w)) w in
      ap (r.join x) (nothing_read more name (held_after held) (next_world set name w) (next_holds set name held w h) none) ∙ alone x

  -- a piece behind which no packet is whole asks for the next call of the stranger's, if anything
  pub piece_read : (name piece : List ℕ) (w : World) → AreAlike name w → first_of (held_after (bytes_come name piece w)) ≡ Ok None
      → read_asked r set (stranger name piece) w ≡ read_if r set (call_of_stranger (stranger_named name (comes set name piece w))) (comes set name piece w)
  piece_read name piece w alike none =
      let c = comes set name piece w in
      let is = comes_holds set name piece w alike in
      one_read (held_count (stranger_named name c)) name (bytes_come name piece w) c is.0 (omega (arith, is.1)) none

-- such a piece does what the next call of the stranger's does
pub piece_does : (set : Setting) (name piece : List ℕ) (w : World) → AreAlike name w → first_of (held_after (bytes_come name piece w)) ≡ Ok None
    → asks set (stranger name piece) w ≡ next_world set name (comes set name piece w)
piece_does set name bytes w alike none =
    let c = comes set name bytes w in
    let all = bytes_come name bytes w in
    let is = comes_holds set name bytes w alike in
    let n = held_count (stranger_named name c) in
    enough set name all c n (suc n) is.0 (omega (arith, is.1)) (omega (arith, is.1))
    ∙ still set name (held_after all) (next_world set name c) n (next_holds set name all c is.0) none
