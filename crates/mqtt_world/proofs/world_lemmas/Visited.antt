-- The bytes of a stranger, from their first piece to their last, and stops at them (MQTT 5.0, 2.1, 4.1).
use Rattle.std.proofs.Common.{◌≡◌, ℕ, Bool, true, false, cond, List, [], ◌∷◌, ◌++◌, take, drop, Option, Some, None, refl, sym, ap, subst, ◌∙◌, ◌⊎◌, inl, inr}
use Rattle.std.proofs.lemmas.List.{take-append-drop}
use Rattle.std.specs.Prelude.{IfOk, Result, is_some}
use Rattle.mqtt_keep.specs.declared.keeping.keep.Keep.{Ghosts}
use Rattle.mqtt_world_model.specs.model.Tellings.{Telling, silent}
use Rattle.mqtt_world_model.specs.model.World.{Event, Setting, Stranger, World, happens, is_bad, is_bad_asking, step, stop_after, stop_before, stranger}
use Rattle.mqtt_rules.specs.declared.step.Capacity.{Capacity}
use Rattle.mqtt_world_model.specs.single_steps.Unrolled.{IsDecided, IsWhole, bytes_come}
use Rattle.mqtt_world.specs.script_laws.Scripted.{Happens}
use Rattle.mqtt_world.specs.script_laws.Turns.{IsReopened, IsTurn, both_tell, by_choice}
use Rattle.mqtt_world.proofs.script_laws_lemmas.Comings.{stops_before_first, stops_before_there}
use Rattle.mqtt_world.proofs.script_laws_lemmas.Pieces.{last_piece, piece_and_more, stops_after_piece}
use Rattle.mqtt_world_ends.specs.strangers.Strangers.{named, newcomer}
use Rattle.mqtt_world_ends.proofs.strangers_lemmas.Steps.{good_rest}
use Rattle.mqtt_world.specs.scene.Events.{IsReached, SpellsAll, world_of}
use Rattle.mqtt_world.specs.scene.Scenes.{Played, WasSound}
use Rattle.mqtt_world_laws.specs.knowing.Knowing.{HasKnowingEnds}
use Rattle.mqtt_world.proofs.scene_lemmas.StayKnowing.{turn_knowing}
use Rattle.mqtt_world.proofs.scene_lemmas.Heard.{none_tells, tells_after}
use Rattle.mqtt_world.specs.world.Stages.{IsSoundAt, IsStanding, Plays, Restages, Staged, broker_of, world_at}
use Rattle.mqtt_world.specs.world.Visits.{MayStopAt, StopsAt, TakesPiece, TellsPiece}
use Rattle.mqtt_world.proofs.world_lemmas.Calling.{all_taken, comes_in, decided, piece_good, staged}
use Rattle.mqtt_world.proofs.world_lemmas.Staged.{ok_as, reached_at as reached_again, reopened_at, standing_again}

-- so many pieces have come, and the rest comes where they led; over a store whose device is sound there
pub record ComesOn {K : Type 0} (g : Ghosts K) (name bytes : List ℕ) (old : Staged K) (told : Telling) (mid : Staged K) (rest : List ℕ) : Type 0 where
  pub standing : IsStanding g mid
  pub limits : mid.limits ≡ old.limits
  pub sound : WasSound g old.played mid.played
  pub reached : IsSoundAt g mid → IsReached old.limits (broker_of old) → IsReached old.limits (broker_of mid)
  pub knowing : IsSoundAt g mid → SpellsAll old.limits → IsReached old.limits (broker_of old) → HasKnowingEnds (world_at old) → HasKnowingEnds (world_at mid)
  pub good : IsSoundAt g mid → SpellsAll old.limits → IsReached old.limits (broker_of old) → HasKnowingEnds (world_at old) → is_bad (comes_in name rest) (world_at mid) ≡ false
  pub done : IsSoundAt g mid → SpellsAll old.limits → IsReached old.limits (broker_of old) → HasKnowingEnds (world_at old) → (u : Telling) (after : World)
      → Happens old.limits (comes_in name rest) u (world_at mid) after
      → Happens old.limits (comes_in name bytes) (both_tell told u) (world_at old) after

module _ {K : Type 0} (g : Ghosts K) (name : List ℕ) where
  -- ---- a piece, at equal limits

  turn_at : (rest : List ℕ) (taken : ℕ) (t : Telling) (mid new : Staged K) (limits : Capacity) → mid.limits ≡ limits
      → TakesPiece g name rest mid taken t new → IsSoundAt g new → SpellsAll limits → IsReached limits (broker_of mid) → HasKnowingEnds (world_at mid)
      → is_bad (comes_in name (take taken rest)) (world_at mid) ≡ false
      → IsTurn limits (comes_in name (take taken rest)) t (world_at mid) (world_at new)
  turn_at rest taken t mid new limits is p sound =
      subst (λ (l : Capacity). SpellsAll l → IsReached l (broker_of mid) → HasKnowingEnds (world_at mid) → is_bad (comes_in name (take taken rest)) (world_at mid) ≡ false
      → IsTurn l (comes_in name (take taken rest)) t (world_at mid) (world_at new)) is (p.turn sound)

  reached_at : (rest : List ℕ) (taken : ℕ) (t : Telling) (mid new : Staged K) (limits : Capacity) → mid.limits ≡ limits
      → TakesPiece g name rest mid taken t new → IsSoundAt g new → IsReached limits (broker_of mid) → IsReached limits (broker_of new)
  reached_at rest taken t mid new limits is p sound = subst (λ (l : Capacity). IsReached l (broker_of mid) → IsReached l (broker_of new)) is (p.reached sound)

  -- ---- before the first

  -- before the first piece nothing has come, and all the bytes are to come yet
  pub comes_first : (bytes : List ℕ) (old : Staged K) (told : Telling) → IsStanding g old → told ≡ silent
      → is_bad_asking (stranger name bytes) (world_at old) ≡ false → ComesOn g name bytes old told old bytes
  comes_first bytes old told standing none good = record {
    standing = standing;
    limits = refl;
    sound = λ sound. sound;
    reached = λ sound reached. reached;
    knowing = λ sound spells reached knowing. knowing;
    good = λ sound spells reached knowing. good;
    done = λ sound spells reached knowing u after does.
        subst (λ (t : Telling). Happens old.limits (comes_in name bytes) t (world_at old) after)
        (none_tells u ∙ ap (λ (t : Telling). both_tell t u) (sym none)) does;
  }

  -- ---- one more, behind which more comes

  module _ (bytes rest : List ℕ) (taken : ℕ) (old mid new : Staged K) (told later : Telling) (c : ComesOn g name bytes old told mid rest) (p : TellsPiece g name rest mid taken told later new) where
    abbrev piece : List ℕ
    piece = take taken rest

    abbrev more : List ℕ
    more = drop taken rest

    joined : is_bad (comes_in name rest) (world_at mid) ≡ false → is_bad (comes_in name (piece ++ more)) (world_at mid) ≡ false
    joined good = ap (λ (xs : List ℕ). is_bad (comes_in name xs) (world_at mid)) (take-append-drop taken rest) ∙ good

    its_turn : IsSoundAt g new → SpellsAll old.limits → IsReached old.limits (broker_of old) → HasKnowingEnds (world_at old) → IsTurn old.limits (comes_in name piece) p.t (world_at mid) (world_at new)
    its_turn sound spells reached knowing =
        let was = p.takes.sound sound in
        turn_at rest taken p.t mid new old.limits c.limits p.takes sound spells (c.reached was reached) (c.knowing was spells reached knowing)
        (piece_good name rest taken (world_at mid) p.takes.next (c.good was spells reached knowing))

    rest_good : IsWhole (bytes_come name piece (world_at mid)) → IsSoundAt g new → SpellsAll old.limits → IsReached old.limits (broker_of old) → HasKnowingEnds (world_at old)
        → is_bad (comes_in name more) (world_at new) ≡ false
    rest_good whole sound spells reached knowing =
        let turn = its_turn sound spells reached knowing in
        let set : Setting = by_choice old.limits turn.choice in
        let w = world_at mid in
        let stepped : step set (comes_in name piece) w ≡ world_at new =
        ap (λ (t : Bool). cond t w (happens set (comes_in name piece) w)) turn.good ∙ sym turn.is in
        subst (λ (v : World). is_bad (comes_in name more) v ≡ false) stepped
        (good_rest set name piece more w p.takes.alike whole (joined (c.good (p.takes.sound sound) spells reached knowing)))

    rest_done : IsWhole (bytes_come name piece (world_at mid)) → IsSoundAt g new → SpellsAll old.limits → IsReached old.limits (broker_of old) → HasKnowingEnds (world_at old) → (u : Telling) (after : World)
        → Happens old.limits (comes_in name more) u (world_at new) after → Happens old.limits (comes_in name bytes) (both_tell later u) (world_at old) after
    rest_done whole sound spells reached knowing u after does =
        let w = world_at mid in
        let was = p.takes.sound sound in
        let both : Happens old.limits (comes_in name (piece ++ more)) (both_tell p.t u) w after =
        piece_and_more old.limits name piece more p.t u w (world_at new) after p.takes.alike (joined (c.good was spells reached knowing)) whole
        (its_turn sound spells reached knowing) does in
        subst (λ (t : Telling). Happens old.limits (comes_in name bytes) t (world_at old) after)
        (sym (ap (λ (t : Telling). both_tell t u) p.told ∙ tells_after told p.t u))
        (c.done was spells reached knowing (both_tell p.t u) after
        (subst (λ (xs : List ℕ). Happens old.limits (comes_in name xs) (both_tell p.t u) w after) (take-append-drop taken rest) both))

    its_end : (more ≡ [] → ⊥) → (more ≡ []) ⊎ IsWhole (bytes_come name piece (world_at mid)) → IsWhole (bytes_come name piece (world_at mid))
    its_end some (inl none) = absurd (some none)
    its_end some (inr whole) = whole

    -- if more is behind a piece, that comes from the stage to which the piece led
    pub comes_further : (more ≡ [] → ⊥) → ComesOn g name bytes old later new more
    comes_further some =
        let whole = its_end some p.takes.next.ends in
        record {
          standing = p.takes.standing;
          limits = p.takes.limits ∙ c.limits;
          sound = λ sound. c.sound (p.takes.sound sound);
          reached = λ sound reached. reached_at rest taken p.t mid new old.limits c.limits p.takes sound (c.reached (p.takes.sound sound) reached);
          knowing = λ sound spells reached knowing.
              turn_knowing old.limits (comes_in name piece) p.t (world_at mid) (world_at new) (its_turn sound spells reached knowing)
              (c.knowing (p.takes.sound sound) spells reached knowing);
          good = rest_good whole;
          done = rest_done whole;
        }

    -- ---- the last

    -- if nothing is behind a piece, all that the stranger sent has come
    pub comes_last : more ≡ [] → Plays g (comes_in name bytes) old (Some later) new
    comes_last none = record {
      standing = p.takes.standing;
      limits = p.takes.limits ∙ c.limits;
      sound = λ sound. c.sound (p.takes.sound sound);
      reached = λ sound reached. reached_at rest taken p.t mid new old.limits c.limits p.takes sound (c.reached (p.takes.sound sound) reached);
      done = λ sound spells reached knowing.
          subst (λ (t : Telling). Happens old.limits (comes_in name bytes) t (world_at old) (world_at new)) (sym p.told)
          (c.done (p.takes.sound sound) spells reached knowing p.t (world_at new)
          (subst (λ (xs : List ℕ). Happens old.limits (comes_in name xs) p.t (world_at mid) (world_at new)) (all_taken rest taken none)
          (last_piece old.limits name piece p.t (world_at mid) (world_at new) p.takes.next.one (its_turn sound spells reached knowing))));
    }

  -- ---- bytes that may not come

  -- if bytes may not come, nothing changes
  pub refused : (bytes : List ℕ) (s : Staged K) (bad : Bool) → IsStanding g s → bad ≡ is_bad_asking (stranger name bytes) (world_at s) → bad ≡ true
      → Plays g (comes_in name bytes) s None s
  refused bytes s bad standing tells is = record {
    standing = standing;
    limits = refl;
    sound = λ sound. sound;
    reached = λ sound reached. reached;
    done = λ sound spells reached knowing. (inl (sym tells ∙ is), refl);
  }

  -- ---- a stop after the first piece

  -- a stop after the commit comes behind the first piece of a stranger's bytes, and no more of them is read
  pub cut_short : (bytes : List ℕ) (taken : ℕ) (t : Telling) (old new : Staged K) → TakesPiece g name bytes old taken t new
      → is_bad_asking (stranger name bytes) (world_at old) ≡ false → StopsAt g (stop_after (stranger name bytes)) old new
  cut_short bytes taken t old new p good = record {
    standing = p.standing;
    limits = p.limits;
    sound = p.sound;
    reached = p.reached;
    done = λ sound spells reached knowing after opens.
        let w = world_at old in
        stops_after_piece old.limits name bytes (take taken bytes) (drop taken bytes) t w (world_at new) after good
        (take-append-drop taken bytes) (found p.next.ends) p.next.one
        (p.turn sound spells reached knowing (piece_good name bytes taken w p.next good)) opens;
  }
    where
      found : (drop taken bytes ≡ []) ⊎ IsWhole (bytes_come name (take taken bytes) (world_at old))
          → (drop taken bytes ≡ []) ⊎ IsDecided (bytes_come name (take taken bytes) (world_at old))
      found (inl none) = inl none
      found (inr whole) = inr (decided (bytes_come name (take taken bytes) (world_at old)) whole)

  -- ---- and before it

  -- a stop before the commit leaves a stranger that is there already as it was
  pub named_before : (s : Staged K) → IsStanding g s → is_some (named name s.strangers) ≡ true → (bytes : List ℕ)
      → is_bad_asking (stranger name bytes) (world_at s) ≡ false → StopsAt g (stop_before (stranger name bytes)) s s
  named_before s standing there bytes good = record {
    standing = standing;
    limits = refl;
    sound = λ sound. sound;
    reached = λ sound reached. reached;
    done = λ sound spells reached knowing after opens. stops_before_there s.limits name bytes (world_at s) after there good opens;
  }

  -- it leaves a stranger that comes first behind the others, without a line
  pub named_first : (s : Staged K) (P : Played K) (ss all : List Stranger) (copy : List ℕ) (now : ℕ) (limits : Capacity) → staged P ss now limits ≡ s → IsStanding g s
      → named name ss ≡ None → copy ≡ name → all ≡ ss ++ newcomer copy None ∷ [] → (bytes : List ℕ) → is_bad_asking (stranger name bytes) (world_at s) ≡ false
      → StopsAt g (stop_before (stranger name bytes)) s (staged P all now limits)
  named_first s P ss all copy now limits view standing none same is bytes good =
      let at : IsStanding g (staged P ss now limits) = subst (IsStanding g) (sym view) standing in
      let fine : is_bad_asking (stranger name bytes) (world_of now ss P) ≡ false =
      subst (λ (x : Staged K). is_bad_asking (stranger name bytes) (world_at x) ≡ false) (sym view) good in
      let is_all : all ≡ ss ++ newcomer name None ∷ [] = is ∙ ap (λ (n : List ℕ). ss ++ newcomer n None ∷ []) same in
      subst (λ (x : Staged K). StopsAt g (stop_before (stranger name bytes)) x (staged P all now limits)) view
      (subst (λ (xs : List Stranger). StopsAt g (stop_before (stranger name bytes)) (staged P ss now limits) (staged P xs now limits)) (sym is_all)
      (record {
        standing = record { playable = at.playable; limits = at.limits; within = at.within };
        limits = refl;
        sound = λ sound. sound;
        reached = λ sound reached. reached;
        done = λ sound spells reached knowing after opens. stops_before_first limits name bytes (world_of now ss P) after none fine opens;
      }))

-- ---- behind a stop the broker is opened again

module _ {K : Type 0} (g : Ghosts K) (e : Event) where
  stop_plays : (old mid new : Staged K) (t : Option Telling) → StopsAt g e old mid → Restages g mid t new → Plays g e old t new
  stop_plays old mid new t s r =
      subst (λ (x : Option Telling). Plays g e old x new) (sym r.told) (record {
        standing = standing_again g mid new t s.standing r;
        limits = r.limits ∙ s.limits;
        sound = λ sound. s.sound (r.reopens.sound sound);
        reached = λ sound reached.
            subst (λ (l : Capacity). IsReached l (broker_of new)) s.limits
            (reached_again g mid new t r sound (subst (λ (l : Capacity). IsReached l (broker_of mid)) (sym s.limits) (s.reached (r.reopens.sound sound) reached)));
        done = λ sound spells reached knowing.
            s.done (r.reopens.sound sound) spells reached knowing (world_at new)
            (subst (λ (l : Capacity). IsReopened l (world_at mid) (world_at new)) s.limits (reopened_at g mid new t r sound));
      })

  -- a stop, and the broker opened again behind it, are the event that stops, whatever is answered
  pub all_stop : {E : Type 0} (old mid : Staged K) (r : Result (Staged K × Option Telling) E) → StopsAt g e old mid
      → IfOk r (λ x. Restages g mid x.1 x.0) → IfOk r (λ x. Plays g e old x.1 x.0)
  all_stop old mid r s h =
      ok_as (λ (x : Staged K × Option Telling). Restages g mid x.1 x.0) (λ (x : Staged K × Option Telling). Plays g e old x.1 x.0) r
      (λ x again. stop_plays old mid x.0 x.1 s again) h

  -- or it can't happen
  pub stop_refused : (old new : Staged K) → IsStanding g old → MayStopAt g e old false new → Plays g e old None new
  stop_refused old new standing bad =
      subst (λ (x : Staged K). Plays g e old None x) (sym bad.1)
      (record {
        standing = standing;
        limits = refl;
        sound = λ sound. sound;
        reached = λ sound reached. reached;
        done = λ sound spells reached knowing. (inl bad.0, refl);
      })
