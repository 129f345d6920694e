-- What the bytes of a stranger make of a world, piece by piece (MQTT 5.0, 2.1, 4.1, 4.13).
use Rattle.std.proofs.Common.{◌≡◌, ◌<◌, ℕ, zero, suc, Bool, true, false, not, ◌||◌, List, [], ◌∷◌, ◌++◌, length, take, drop, Option, Some, None, refl, sym, ap, subst, ◌∙◌, ◌⊎◌, inl, inr, arith, IfOk}
use Rattle.std.specs.Prelude.{Result, Ok, Err, is_some}
use Rattle.std.specs.List.{AllByRecursion}
use Rattle.std.proofs.lemmas.List.{append-nil, take-append-drop}
use Rattle.mqtt_packet.specs.stream.Front.{first_of}
use Rattle.mqtt_keep.specs.declared.keeping.keep.Keep.{Ghosts}
use Rattle.mqtt_world_model.specs.model.Tellings.{Telling, silent}
use Rattle.mqtt_world_model.specs.model.World.{Event, Setting, Stranger, World, are_bytes, ask, bytes_held, bytes_name, call_on, calls, calls_if, held_after, is_bad, is_bad_asking, next_line, stranger, stranger_named, with_stranger}
use Rattle.mqtt_rules.specs.step.Laws.{AreWithin}
use Rattle.mqtt_rules.specs.step.Piece.{call_by}
use Rattle.mqtt_rules.specs.step.Step.{Call, NewLine}
use Rattle.mqtt_rules.specs.declared.step.Capacity.{Capacity}
use Rattle.mqtt_world.specs.clients.Ends.{in_world as among_ends}
use Rattle.mqtt_world_model.specs.single_steps.Unrolled.{AreAlike, AreAllAlike, HoldNoPacket, HoldsThese, IsDecided, IsFound, IsWhole, bytes_come}
use Rattle.mqtt_world_model.proofs.single_steps_lemmas.Answered.{not_both, nothing_first}
use Rattle.mqtt_world_model.proofs.single_steps_lemmas.Strangers.{find_one_more, holds_one_more, none_holds}
use Rattle.mqtt_world.specs.script_laws.Turns.{IsTurn, by_choice, welcomed}
use Rattle.mqtt_world.proofs.script_laws_lemmas.Comings.{piece_first, piece_there}
use Rattle.mqtt_world_ends.specs.strangers.Fronts.{AsksFor, IsNextPiece, NamesThese, is_end_among}
use Rattle.mqtt_world_ends.specs.strangers.Strangers.{Comes, held_of, in_world as among_strangers, line_of, named, newcomer}
use Rattle.mqtt_world_ends.proofs.strangers_lemmas.Steps.{first_good, good_first}
use Rattle.mqtt_world_laws.specs.knowing.Knowing.{HasKnowingEnds}
use Rattle.mqtt_world_laws.proofs.knowing_lemmas.Worlds.{held_knowing, holds, named_takes, new_line_takes, stranger_linked}
use Rattle.mqtt_world.specs.scene.Events.{IsReached, SpellsAll, world_of}
use Rattle.mqtt_world.specs.scene.Hearing.{Asks, Hears, IsTrulyAsked, TakesAsEndsIf}
use Rattle.mqtt_world.specs.scene.Scenes.{Calls, IsPlayable, IsTrulyCall, Played}
use Rattle.mqtt_world.proofs.scene_lemmas.Eventful.{reached_after, world_called}
use Rattle.mqtt_world.proofs.scene_lemmas.Heard.{asks_nothing, takes_if, tells_none}
use Rattle.mqtt_world.specs.world.Stages.{IsStanding, Staged, broker_of, world_at}
use Rattle.mqtt_world.specs.world.Visits.{TakesPiece, TellsPiece, Welcomes}

abbrev pub staged : {K : Type 0} → Played K → List Stranger → ℕ → Capacity → Staged K
staged s ss now limits = record { played = s; strangers = ss; now = now; limits = limits }

abbrev pub comes_in : List ℕ → List ℕ → Event
comes_in name bytes = ask (stranger name bytes)

-- ---- what bytes ask for

none_whole : (line : Option ℕ) (bytes : List ℕ) → first_of bytes ≡ Ok None → call_on line bytes ≡ None
none_whole None bytes e = refl
none_whole (Some n) bytes e = ap (call_by n bytes) e

same_asked : (line : Option ℕ) (bytes given : List ℕ) → AsksFor bytes given → call_on line given ≡ call_on line bytes
same_asked None bytes given a = refl
same_asked (Some n) bytes given a = a.asks n

-- ---- whom CONNECTs name

-- of a stage that is taken apart: bytes may not come exactly if a CONNECT among them names an end
pub any_named : {K : Type 0} (P : Played K) (ss : List Stranger) (now : ℕ) (limits : Capacity) (s : Staged K) (name bytes : List ℕ) (names seen : List (List ℕ)) (bad : Bool)
    → staged P ss now limits ≡ s → are_bytes bytes ≡ true → NamesThese (held_of name ss ++ bytes) names → seen ≡ names
    → ((w : World) → bad ≡ is_end_among seen (among_ends P.ends w)) → bad ≡ is_bad_asking (stranger name bytes) (world_at s)
any_named P ss now limits s name bytes names seen bad view said these same is =
    let w = world_of now ss P in
    let all = held_of name ss ++ bytes in
    subst (λ (x : Staged _). bad ≡ is_bad_asking (stranger name bytes) (world_at x)) view
    (is w ∙ (ap (λ (xs : List (List ℕ)). is_end_among xs w) same
    ∙ (sym (these w) ∙ sym (ap (λ (t : Bool). not t || bytes_name (length all) all w) said))))

-- ---- who is there

-- what is not there is none
pub is_none : {X : Type 0} (o : Option X) → is_some o ≡ false → o ≡ None
is_none None h = refl
is_none (Some x) h = let clash : true ≡ false = h in absurd cc

-- what is seen of the strangers of a stage that is taken apart
module _ {K : Type 0} (P : Played K) (ss : List Stranger) (now : ℕ) (limits : Capacity) (s : Staged K) (view : staged P ss now limits ≡ s) (name text : List ℕ) (same : text ≡ name) where
  seen_in : (has : Bool) → ((w : World) → has ≡ is_some (stranger_named text (among_strangers ss w))) → is_some (named name ss) ≡ has
  seen_in has found = ap (λ (n : List ℕ). is_some (named n ss)) (sym same) ∙ sym (found (world_of now ss P))

  -- if a look at the strangers finds this name, a stranger of it is there
  pub there_in : (has : Bool) → ((w : World) → has ≡ is_some (stranger_named text (among_strangers ss w))) → has ≡ true → is_some (named name s.strangers) ≡ true
  there_in has found is = subst (λ (x : Staged K). is_some (named name x.strangers) ≡ true) view (seen_in has found ∙ is)

  -- if it finds none, no stranger has this name
  pub none_in : (has : Bool) → ((w : World) → has ≡ is_some (stranger_named text (among_strangers ss w))) → has ≡ false → named name ss ≡ None
  none_in has found is = is_none (named name ss) (seen_in has found ∙ is)

  -- if strangers of one name always hold the same bytes, those of this name do so here
  pub alike_in : ((w : World) → AreAllAlike (among_strangers ss w)) → AreAlike name (world_at s)
  alike_in all = subst (λ (x : Staged K). AreAlike name (world_at x)) view (all (world_of now ss P) name)

  -- if nothing whole is held of any stranger, nothing whole is held of this one
  pub waits_in : ((w : World) → HoldNoPacket (among_strangers ss w)) → first_of (held_of name s.strangers) ≡ Ok None
  waits_in none = subst (λ (x : Staged K). first_of (held_of name x.strangers) ≡ Ok None) view (none (world_of now ss P) name)

-- ---- a stranger is welcomed

module _ {K : Type 0} (g : Ghosts K) (name : List ℕ) where
  -- a stranger that is there already, of which nothing whole is held, is welcome as it is
  pub welcome_again : (s : Staged K) → IsStanding g s → is_some (named name s.strangers) ≡ true → AreAlike name (world_at s)
      → first_of (held_of name s.strangers) ≡ Ok None → Welcomes g name s s
  welcome_again s standing there alike waits = record {
    standing = standing;
    limits = refl;
    sound = λ sound. sound;
    reached = λ sound reached. reached;
    there = there;
    same = refl;
    waits = waits;
    were_alike = alike;
    alike = alike;
    knowing = λ sound spells reached knowing. knowing;
    good = λ sound spells reached knowing piece good. good;
    turn = λ sound spells reached knowing piece t after good turn. turn;
  }

  module _ (now : ℕ) (P N : Played K) (ss : List Stranger) (line : Option ℕ) where
    first_welcomed : IsPlayable g P → AreWithin P.engine.running.limits → named name ss ≡ None → AreAlike name (world_of now ss P) → line ≡ next_line P.engine.running.limits P.engine.running.broker
        → Calls g now NewLine P silent N
        → Welcomes g name (staged P ss now P.engine.running.limits) (staged N (ss ++ newcomer name line ∷ []) now P.engine.running.limits)
    first_welcomed playable within none alike line_is c = record {
      standing = record { playable = c.playable; limits = sym c.limits; within = within };
      limits = refl;
      sound = c.sound;
      reached = λ sound reached. reached_after g now NewLine P N silent tt (c.truly sound) reached;
      there = ap is_some found;
      same = ap bytes_held found ∙ sym (ap bytes_held none);
      waits = ap (λ (o : Option Stranger). first_of (bytes_held o)) found ∙ nothing_first;
      were_alike = alike;
      alike =
          subst (λ (held : List ℕ). AllByRecursion (HoldsThese name held) all) (sym (ap bytes_held found))
          (holds_one_more name [] n ss (none_holds name [] ss none) refl);
      knowing = λ sound spells reached knowing.
          let x = c.truly sound in
          subst HasKnowingEnds (sym (at x spells reached knowing)) (stranger_linked (set x) name [] w knowing);
      good = λ sound spells reached knowing piece good.
          let x = c.truly sound in
          subst (λ (v : World). is_bad (comes_in name piece) v ≡ false) (sym (at x spells reached knowing)) (first_good (set x) name piece w none good);
      turn = λ sound spells reached knowing piece t after good turn.
          let x = c.truly sound in
          piece_first P.engine.running.limits x.choice name piece t w after none good
          (subst (λ (v : World). IsTurn P.engine.running.limits (comes_in name piece) t v after) (at x spells reached knowing) turn);
    }
      where
        n : Stranger
        n = newcomer name line

        all : List Stranger
        all = ss ++ n ∷ []

        w : World
        w = world_of now ss P

        set : IsTrulyCall now NewLine P silent N → Setting
        set x = by_choice P.engine.running.limits x.choice

        found : named name all ≡ Some n
        found = find_one_more name n ss refl none

        at : (x : IsTrulyCall now NewLine P silent N) → SpellsAll P.engine.running.limits → IsReached P.engine.running.limits P.engine.running.broker → HasKnowingEnds w
            → world_of now all N ≡ welcomed (set x) name w
        at x spells reached knowing =
            ap (λ (v : World). record v { strangers = all }) (world_called g now NewLine P N silent ss reached tt x spells knowing (new_line_takes w))
            ∙ ap (λ (l : Option ℕ). record (calls (set x) NewLine w) { strangers = ss ++ newcomer name l ∷ [] }) line_is

  -- a stranger that comes first is put behind the others, with the line that the broker gave it, and is welcome
  pub welcome_first : (now : ℕ) (limits : Capacity) (s : Staged K) (P N : Played K) (ss all : List Stranger) (copy : List ℕ) (line : Option ℕ) → staged P ss now limits ≡ s
      → IsStanding g s → named name ss ≡ None → AreAlike name (world_of now ss P) → line ≡ next_line P.engine.running.limits P.engine.running.broker
      → Calls g now NewLine P silent N → copy ≡ name → all ≡ ss ++ newcomer copy line ∷ [] → Welcomes g name s (staged N all now limits)
  welcome_first now limits s P N ss all copy line view standing none alike line_is c same is =
      let at : IsStanding g (staged P ss now limits) = subst (IsStanding g) (sym view) standing in
      let within : AreWithin P.engine.running.limits = subst AreWithin at.limits at.within in
      let is_all : all ≡ ss ++ newcomer name line ∷ [] = is ∙ ap (λ (n : List ℕ). ss ++ newcomer n line ∷ []) same in
      subst (λ (x : Staged K). Welcomes g name x (staged N all now limits)) view
      (subst (λ (xs : List Stranger). Welcomes g name (staged P ss now limits) (staged N xs now limits)) (sym is_all)
      (subst (λ (l : Capacity). Welcomes g name (staged P ss now l) (staged N (ss ++ newcomer name line ∷ []) now l)) (sym at.limits)
      (first_welcomed now P N ss line at.playable within none alike line_is c)))

-- ---- a piece is one turn

-- if nothing whole was held, bytes come till one is
further_on : (held bytes : List ℕ) (taken : ℕ) → first_of held ≡ Ok None
    → (drop taken bytes ≡ []) ⊎ IsWhole (held ++ take taken bytes) → (drop taken bytes ≡ []) ⊎ (0 < taken)
further_on held bytes taken waits (inl none) = inl none
further_on held bytes zero waits (inr whole) =
    let same : held ++ take 0 bytes ≡ held = append-nil held in
    absurd (not_both (first_of held) whole.0 (length (held ++ take 0 bytes)) waits (ap first_of (sym same) ∙ whole.1))
further_on held bytes (suc n) waits (inr whole) = inr (omega arith)

-- if nothing is left behind what was taken, all was taken
pub all_taken : (bytes : List ℕ) (taken : ℕ) → drop taken bytes ≡ [] → take taken bytes ≡ bytes
all_taken bytes taken none =
    sym (append-nil (take taken bytes)) ∙ (ap (λ (xs : List ℕ). take taken bytes ++ xs) (sym none) ∙ take-append-drop taken bytes)

-- a piece of bytes that may come may come
pub piece_good : (name bytes : List ℕ) (taken : ℕ) (w : World) → IsNextPiece (bytes_held (stranger_named name w)) (take taken bytes) (drop taken bytes)
    → is_bad (comes_in name bytes) w ≡ false → is_bad (comes_in name (take taken bytes)) w ≡ false
piece_good name bytes taken w n good = by n.ends
  where
    by : (drop taken bytes ≡ []) ⊎ IsWhole (bytes_come name (take taken bytes) w) → is_bad (comes_in name (take taken bytes)) w ≡ false
    by (inl none) = ap (λ (xs : List ℕ). is_bad (comes_in name xs) w) (all_taken bytes taken none) ∙ good
    by (inr whole) =
        good_first name (take taken bytes) (drop taken bytes) w whole
        (ap (λ (xs : List ℕ). is_bad (comes_in name xs) w) (take-append-drop taken bytes) ∙ good)

-- of bytes that are one whole packet it is known what they are, before more come
pub decided : (bytes : List ℕ) → IsWhole bytes → IsDecided bytes
decided bytes whole = subst IsFound (sym whole.1) tt

module _ {K : Type 0} (g : Ghosts K) (name bytes : List ℕ) (now taken : ℕ) (P N : Played K) (ss new : List Stranger) where
  piece_taken : (line : Option ℕ) (t : Telling) → IsPlayable g P → AreWithin P.engine.running.limits → is_some (named name ss) ≡ true
      → AreAlike name (world_of now ss P) → first_of (held_of name ss) ≡ Ok None → line ≡ line_of (named name ss)
      → (given : Option (List ℕ)) → Comes name bytes ss new taken given → Asks g now (call_on line (held_of name ss ++ take taken bytes)) P t N
      → TakesPiece g name bytes (staged P ss now P.engine.running.limits) taken t (staged N new now P.engine.running.limits)
  piece_taken line t playable within there alike waits line_is given c a = record {
    standing = record { playable = a.playable; limits = sym a.limits; within = within };
    limits = refl;
    sound = a.sound;
    reached = λ sound reached. (a.truly sound).reached reached;
    within = c.within;
    next = c.next;
    further = further_on (held_of name ss) bytes taken waits c.next.ends;
    alike = alike;
    turn = λ sound spells reached knowing good. by (a.truly sound) spells reached knowing good (named name ss) refl there;
  }
    where
      w : World
      w = world_of now ss P

      piece : List ℕ
      piece = take taken bytes

      by : IsTrulyAsked now (call_on line (held_of name ss ++ piece)) P t N → SpellsAll P.engine.running.limits → IsReached P.engine.running.limits P.engine.running.broker → HasKnowingEnds w → is_bad (comes_in name piece) w ≡ false
          → (o : Option Stranger) → named name ss ≡ o → is_some o ≡ true → IsTurn P.engine.running.limits (comes_in name piece) t w (world_of now new N)
      by x spells reached knowing good None e h = let clash : false ≡ true = h in absurd cc
      by x spells reached knowing good (Some s) e h =
          let at : IsTrulyAsked now (call_on s.number (s.held ++ piece)) P t N =
          subst (λ (o : Option Stranger). IsTrulyAsked now (call_on (line_of o) (bytes_held o ++ piece)) P t N) e
          (subst (λ (l : Option ℕ). IsTrulyAsked now (call_on l (held_of name ss ++ piece)) P t N) line_is x) in
          let set : Setting = by_choice P.engine.running.limits at.choice in
          let came : HasKnowingEnds (world_of now new P) =
          subst HasKnowingEnds (sym (c.becomes w))
          (held_knowing name (λ x. held_after x.held) (with_stranger name (holds (λ x. x.held ++ piece)) w) (held_knowing name (λ x. x.held ++ piece) w knowing)) in
          let none : TakesAsEndsIf (call_on s.number (s.held ++ piece)) (world_of now new P) =
          takes_if (call_on s.number (s.held ++ piece)) (world_of now new P) (λ call asks. named_takes call w knowing name (s.held ++ piece) s e asks) in
          piece_there P.engine.running.limits at.choice name piece s t w (world_of now new N) e alike c.next.one good (at.unspent ss)
          (at.done spells reached new came none ∙ ap (calls_if set (call_on s.number (s.held ++ piece))) (c.becomes w)) (at.told ss)

  module _ (limits : Capacity) (s : Staged K) (view : staged P ss now limits ≡ s) (standing : IsStanding g s) (there : is_some (named name s.strangers) ≡ true)
      (alike : AreAlike name (world_at s)) (waits : first_of (held_of name s.strangers) ≡ Ok None) (line : Option ℕ) (line_is : line ≡ line_of (named name ss)) where
    piece_at : (t : Telling) (given : Option (List ℕ)) → Comes name bytes ss new taken given
        → Asks g now (call_on line (held_of name ss ++ take taken bytes)) P t N
        → TakesPiece g name bytes s taken t (staged N new now limits)
    piece_at t given c a =
        let at : IsStanding g (staged P ss now limits) = subst (IsStanding g) (sym view) standing in
        let its : (x : Staged K) → x ≡ s → is_some (named name x.strangers) ≡ true =
        λ x e. subst (λ (y : Staged K). is_some (named name y.strangers) ≡ true) (sym e) there in
        let within : AreWithin P.engine.running.limits = subst AreWithin at.limits at.within in
        subst (λ (x : Staged K). TakesPiece g name bytes x taken t (staged N new now limits)) view
        (subst (λ (l : Capacity). TakesPiece g name bytes (staged P ss now l) taken t (staged N new now l)) (sym at.limits)
        (piece_taken line t at.playable within (its (staged P ss now limits) view)
        (subst (λ (y : Staged K). AreAlike name (world_at y)) (sym view) alike)
        (subst (λ (y : Staged K). first_of (held_of name y.strangers) ≡ Ok None) (sym view) waits) line_is given c a))

    -- a packet or a fault is given to the broker
    pub piece_given : (given : List ℕ) (before after : Telling) → Comes name bytes ss new taken (Some given) → Hears g now (call_on line given) P before after N
        → TellsPiece g name bytes s taken before after (staged N new now limits)
    piece_given given before after c h = record {
      t = h.t;
      takes = piece_at h.t (Some given) c
          (subst (λ (o : Option Call). Asks g now o P h.t N) (same_asked line (held_of name ss ++ take taken bytes) given c.asks) h.asks);
      told = h.told;
    }

  -- nothing is whole
  pub piece_held : (limits : Capacity) (s : Staged K) → staged P ss now limits ≡ s → IsStanding g s → is_some (named name s.strangers) ≡ true
      → AreAlike name (world_at s) → first_of (held_of name s.strangers) ≡ Ok None → (line : Option ℕ) → line ≡ line_of (named name ss)
      → (t : Telling) → Comes name bytes ss new taken None → N ≡ P
      → TellsPiece g name bytes s taken t t (staged N new now limits)
  piece_held limits s view standing there alike waits line line_is t c same =
      let at : IsStanding g (staged P ss now limits) = subst (IsStanding g) (sym view) standing in
      record {
        t = silent;
        takes = piece_at limits s view standing there alike waits line line_is silent None c
            (subst (λ (x : Played K). Asks g now (call_on line (held_of name ss ++ take taken bytes)) P silent x) (sym same)
            (subst (λ (o : Option Call). Asks g now o P silent P) (sym (none_whole line (held_of name ss ++ take taken bytes) c.asks))
            (asks_nothing g now P at.playable)));
        told = tells_none t;
      }

-- of one who may come first
module _ {K : Type 0} (g : Ghosts K) (name bytes : List ℕ) (old mid new : Staged K) where
  welcomed_piece : (taken : ℕ) (t : Telling) → Welcomes g name old mid → TakesPiece g name bytes mid taken t new → TakesPiece g name bytes old taken t new
  welcomed_piece taken t w p = record {
    standing = p.standing;
    limits = p.limits ∙ w.limits;
    sound = λ sound. w.sound (p.sound sound);
    reached = λ sound reached.
        subst (λ (l : Capacity). IsReached l (broker_of mid) → IsReached l (broker_of new)) w.limits (p.reached sound) (w.reached (p.sound sound) reached);
    within = p.within;
    next = subst (λ (held : List ℕ). IsNextPiece held (take taken bytes) (drop taken bytes)) w.same p.next;
    further = p.further;
    alike = w.were_alike;
    turn = λ sound spells reached knowing good.
        let was = p.sound sound in
        w.turn was spells reached knowing (take taken bytes) t (world_at new) good
        (subst (λ (l : Capacity). SpellsAll l → IsReached l (broker_of mid) → HasKnowingEnds (world_at mid) → is_bad (comes_in name (take taken bytes)) (world_at mid) ≡ false
        → IsTurn l (comes_in name (take taken bytes)) t (world_at mid) (world_at new)) w.limits (p.turn sound)
        spells (w.reached was reached) (w.knowing was spells reached knowing) (w.good was spells reached knowing (take taken bytes) good));
  }

  -- a welcome and the piece behind it are one piece of the stranger, and tell the same
  pub welcomed_pieces : {E : Type 0} (r : Result ℕ E) (before after : Telling) → Welcomes g name old mid
      → IfOk r (λ taken. TellsPiece g name bytes mid taken before after new) → IfOk r (λ taken. TellsPiece g name bytes old taken before after new)
  welcomed_pieces (Err e) before after w h = tt
  welcomed_pieces (Ok taken) before after w h = record { t = h.t; takes = welcomed_piece taken h.t w h.takes; told = h.told }
