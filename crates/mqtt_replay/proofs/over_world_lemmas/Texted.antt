-- What lines come to that play in a world that runs, and the text of it.
use Rattle.std.proofs.Common.{◌≡◌, ◌⊎◌, inl, inr, ℕ, ◌+◌, List, [], ◌∷◌, ◌++◌, length, Option, None, Some, IfSome, append-nil, append_assoc, refl, sym, ap, ap₂, subst, ◌∙◌, arith}
use Rattle.std.specs.Prelude.{false, true, suc, Result, Ok, Err, IfErr, unwrap_or, option_to_list}
use Rattle.std.specs.List.{flat_map}
use Rattle.std.specs.Io.KnownBytes.{Keeps}
use Rattle.std.proofs.KnownBytes.{Appends-kept, Appends-nil, Keeps-refl}
use Rattle.mqtt_keep.specs.declared.keeping.keep.Keep.{Ghosts}
use Rattle.mqtt_world_model.specs.model.Tellings.{Telling}
use Rattle.mqtt_world_model.specs.model.World.{World}
use Rattle.mqtt_world_model.specs.model.World.{start as start_world}
use Rattle.mqtt_records.specs.state.Records.{nothing}
use Rattle.mqtt_records.specs.declared.state.records.Records.{Records}
use Rattle.mqtt_broker.specs.stored.Opening.{IsLoad}
use Rattle.mqtt_rules.specs.step.Laws.{AreWithin}
use Rattle.mqtt_rules.specs.declared.step.Capacity.{Capacity}
use Rattle.mqtt_script.specs.declared.event.Event.{Event}
use Rattle.mqtt_script.specs.Lines.{IsLineOf, is_passed_over}
use Rattle.mqtt_script.specs.Telling.{bad_text, publisher_text, receiver_text, broker_text}
use Rattle.mqtt_world.specs.script_laws.Scripted.{IsBad, RunsTo}
use Rattle.mqtt_world.proofs.script_drains_lemmas.Done.{delivers_once}
use Rattle.mqtt_world_laws.specs.acceptance.Fair.{opened_world}
use Rattle.mqtt_script.specs.declared.bad_line.BadReason.{BadReason}
use Rattle.mqtt_script.specs.declared.replay_fault.Played.{Played}
use Rattle.mqtt_script.specs.declared.replay_fault.Played.TheVariants.{Whole, Bad}
use Rattle.mqtt_replay.specs.declared.playing.ends.End.{End}
use Rattle.mqtt_replay.specs.declared.playing.ends.End.TheVariants.{Publisher, Receiver}
use Rattle.mqtt_replay.specs.playing.Playing.{Happened, Standing, end_line, last_lines, made_by, passed_over, start}
use Rattle.mqtt_replay.specs.playing.Replaying.{IsBadLine, LinePlays, LinesPlay, Replays, ReplaysFront, Shows, ShowsFront, lines_of}
use Rattle.mqtt_world.specs.world.Stages.{IsSoundAt, Staged, world_at}
use Rattle.mqtt_world.specs.world.Worlds.{CantHappen, Happen, HasCome, Lasting, Starts, done_in, handed_in, publications_in, queue_in, seen_at, sent_in, sessions_in}
use Rattle.mqtt_world.specs.declared.scene.over.Over.{Over}
use Rattle.mqtt_world.proofs.world_lemmas.Course.{come_on, happen_more, happen_none}
use Rattle.mqtt_replay.specs.over_world.Plays.{play_of}
use Rattle.mqtt_replay.specs.over_world.Texts.{AreEventsOf, FrontOver, FrontText, IsBadLineIn, OpensOver, ReplayText, ReplaysOver, RunsLines, Wrote, end_line_in, ends_made, last_lines_in, lines_told}

ok_is : {A E : Type 0} (r : Result A E) (a b : A) → r ≡ Ok a → r ≡ Ok b → a ≡ b
ok_is r a b is same = cc

from_none : (a n : ℕ) → a ≡ 0 + n → a ≡ n
from_none a n is = omega (arith, is)

-- one, and then so many
counts : (a b d n : ℕ) → b ≡ a + 1 → d ≡ b + n → d ≡ a + suc n
counts a b d n first more = omega (arith, first, more)

-- ---- lines that play in a world that stands

record Comes {K : Type 0} (g : Ghosts K) (lines : List (List ℕ)) (s : Standing (Lasting K)) (text : List ℕ) (end : Standing (Lasting K)) : Type 0 where
  events : List Event
  tells : List Telling
  are : AreEventsOf lines events
  told : text ≡ lines_told s.number events tells
  number : end.number ≡ s.number + length events
  count : end.lines ≡ s.lines + length lines
  ends : end.ends ≡ s.ends ++ ends_made events
  happen : Happen g events tells s.world end.world

module _ {K : Type 0} (g : Ghosts K) where
  -- none
  comes_none : (s : Standing (Lasting K)) (from : Staged K) → s.world.stage ≡ Ok from → Comes g [] s [] s
  comes_none s from is = record {
    events = [];
    tells = [];
    are = refl;
    told = refl;
    number = omega arith;
    count = omega arith;
    ends = sym (append-nil s.ends);
    happen = happen_none g from s.world is;
  }

  -- one that is passed over, and others
  comes_passed : (line : List ℕ) (lines : List (List ℕ)) (s end : Standing (Lasting K)) (text : List ℕ) → is_passed_over line ≡ true
      → Comes g lines (passed_over s) text end → Comes g (line ∷ lines) s text end
  comes_passed line lines s end text passed c = record {
    events = c.events;
    tells = c.tells;
    are = inl (passed, c.are);
    told = c.told;
    number = c.number;
    count = counts s.lines (s.lines + 1) end.lines (length lines) refl c.count;
    ends = c.ends;
    happen = c.happen;
  }

  -- one whose event happens, and others
  comes_more : (line : List ℕ) (lines : List (List ℕ)) (e : Event) (s mid end : Standing (Lasting K)) (first rest : List ℕ)
      → is_passed_over line ≡ false → IsLineOf e line → Happened (play_of g) e s first mid → Comes g lines mid rest end
      → Comes g (line ∷ lines) s (first ++ rest) end
  comes_more line lines e s mid end first rest kept is h c = record {
    events = e ∷ c.events;
    tells = h.told ∷ c.tells;
    are = inr (kept, e, c.events, is, refl, c.are);
    told = ap₂ (λ (a b : List ℕ). a ++ b) h.line (c.told ∙ ap (λ (n : ℕ). lines_told n c.events c.tells) h.number);
    number = counts s.number mid.number end.number (length c.events) h.number c.number;
    count = counts s.lines mid.lines end.lines (length lines) h.lines c.count;
    ends = c.ends ∙ (ap (λ (xs : List End). xs ++ ends_made c.events) h.ends
        ∙ append_assoc s.ends (option_to_list (made_by e)) (ends_made c.events));
    happen = happen_more g (e ∷ []) c.events (h.told ∷ []) c.tells s.world mid.world end.world h.happens c.happen;
  }

  -- a line, and others behind it
  line_comes : (line : List ℕ) (lines : List (List ℕ)) (s mid end : Standing (Lasting K)) (first rest : List ℕ) (from : Staged K) → s.world.stage ≡ Ok from
      → ((at : Staged K) → mid.world.stage ≡ Ok at → Comes g lines mid rest end)
      → LinePlays (play_of g) line s first mid → Comes g (line ∷ lines) s (first ++ rest) end
  line_comes line lines s mid end first rest from is onward (inl (passed, none, same)) =
      let behind : Comes g lines mid rest end = onward from (ap (λ (m : Standing (Lasting K)). m.world.stage) same ∙ is) in
      subst (λ (t : List ℕ). Comes g (line ∷ lines) s (t ++ rest) end) (sym none)
      (comes_passed line lines s end rest passed (subst (λ (m : Standing (Lasting K)). Comes g lines m rest end) same behind))
  line_comes line lines s mid end first rest from is onward (inr (kept, e, is_line, h)) =
      comes_more line lines e s mid end first rest kept is_line h (onward h.happens.to h.happens.is)

  comes : (lines : List (List ℕ)) (s end : Standing (Lasting K)) (text : List ℕ) (from : Staged K) → s.world.stage ≡ Ok from
      → LinesPlay (play_of g) lines s text end → Comes g lines s text end
  comes [] s end text from is plays =
      subst (λ (t : List ℕ). Comes g [] s t end) (sym plays.0)
      (subst (λ (x : Standing (Lasting K)). Comes g [] s [] x) (sym plays.1) (comes_none s from is))
  comes (line ∷ lines) s end text from is plays =
      let (first, rest, mid, play, more, are) = plays in
      subst (λ (t : List ℕ). Comes g (line ∷ lines) s t end) (sym are)
      (line_comes line lines s mid end first rest from is (λ at m. comes lines mid end rest at m more) play)

  -- ---- what is seen of a world that stands

  end_seen : (w : Lasting K) (s : Staged K) → w.stage ≡ Ok s → (x : End) → end_line (play_of g) w x ≡ end_line_in w.events (world_at s) x
  end_seen w s is (Publisher client) =
      ap (λ (r : Result (Staged K) Over). publisher_text client (unwrap_or (seen_at (sent_in client w.events) r) 0) (unwrap_or (seen_at (done_in client) r) 0)) is
  end_seen w s is (Receiver client) =
      ap (λ (r : Result (Staged K) Over). receiver_text client (unwrap_or (seen_at (handed_in client) r) []) (unwrap_or (seen_at (queue_in client) r) 0)) is

  ends_seen : (w : Lasting K) (s : Staged K) → w.stage ≡ Ok s → (xs : List End)
      → flat_map (end_line (play_of g) w) xs ≡ flat_map (end_line_in w.events (world_at s)) xs
  ends_seen w s is [] = refl
  ends_seen w s is (x ∷ xs) = ap₂ (λ (a b : List ℕ). a ++ b) (end_seen w s is x) (ends_seen w s is xs)

  broker_seen : (w : Lasting K) (s : Staged K) → w.stage ≡ Ok s
      → broker_text ((play_of g).publications w) ((play_of g).sessions w) ≡ broker_text (world_at s).broker.records.publications (length (world_at s).broker.records.sessions)
  broker_seen w s is =
      ap (λ (r : Result (Staged K) Over). broker_text (unwrap_or (seen_at publications_in r) 0) (unwrap_or (seen_at sessions_in r) 0)) is

  last_seen : (end : Standing (Lasting K)) (s : Staged K) (events : List Event) → end.world.stage ≡ Ok s → end.world.events ≡ events → end.ends ≡ ends_made events
      → last_lines (play_of g) end ≡ last_lines_in events (world_at s)
  last_seen end s events is kept made =
      ap₂ (λ (a b : List ℕ). a ++ b)
      (ends_seen end.world s is end.ends ∙ ap₂ (λ (es : List Event) (xs : List End). flat_map (end_line_in es (world_at s)) xs) kept made)
      (broker_seen end.world s is)

  -- ---- from where a world begins over a store

  module _ (limits : Capacity) (keep : K) (w : Lasting K) (starts : Starts g limits keep w) where
    abbrev begun : World
    begun = opened_world limits starts.choice 0 starts.records

    -- what is sound where events led was sound where they began, and as it was loaded
    from_sound : (es : List Event) (ts : List Telling) (new : Lasting K) → (h : Happen g es ts w new) → IsSoundAt g h.to → IsSoundAt g starts.at
    from_sound es ts new h sound =
        subst (λ (s : Staged K). IsSoundAt g s) (ok_is w.stage h.from starts.at h.was starts.stage) (h.runs.sound sound)

    -- over the store that events left
    opens_left : (Holds : World → Type 0) (es : List Event) (ts : List Telling) (new : Lasting K) (s : Staged K) → (h : Happen g es ts w new)
        → (IsSoundAt g s → IsSoundAt g h.to) → (IsSoundAt g s → Holds begun) → OpensOver g limits keep Holds
    opens_left Holds es ts new s h was holds = record {
      loaded = starts.loaded;
      records = starts.records;
      load = starts.load;
      lawful = starts.lawful;
      identifiers = starts.identifiers;
      choice = starts.choice;
      unspent = starts.unspent;
      left = s.played.engine.running.keep;
      sound = λ sound. starts.sound (from_sound es ts new h (was sound));
      holds = holds;
    }

    has_come : HasCome g begun w
    has_come = starts.comes

    runs_of : (es : List Event) (ts : List Telling) (new : Lasting K) → (h : Happen g es ts w new) → IsSoundAt g h.to → RunsTo limits es ts begun (world_at h.to)
    runs_of es ts new h sound =
        let same : h.from ≡ starts.at = ok_is w.stage h.from starts.at h.was starts.stage in
        let came = has_come h.from h.was (h.runs.sound sound) in
        let limits_are : h.from.limits ≡ limits = ap (λ (s : Staged K). s.limits) same ∙ starts.limits_are in
        let world_is : world_at h.from ≡ begun = ap (λ (s : Staged K). world_at s) same ∙ starts.world (from_sound es ts new h sound) in
        subst (λ (x : World). RunsTo limits es ts x (world_at h.to)) world_is
        (subst (λ (l : Capacity). RunsTo l es ts (world_at h.from) (world_at h.to)) limits_are (h.runs.runs sound came.reached came.knowing))

    runs_lines : (lines : List (List ℕ)) (text : List ℕ) (end : Standing (Lasting K)) → (c : Comes g lines (start w) text end)
        → IsSoundAt g c.happen.to → RunsLines limits lines begun text c.events (world_at c.happen.to)
    runs_lines lines text end c sound =
        let came = has_come starts.at starts.stage (from_sound c.events c.tells end.world c.happen sound) in
        let runs = runs_of c.events c.tells end.world c.happen sound in
        record {
          are = c.are;
          tells = c.tells;
          runs = runs;
          told = c.told;
          delivers = λ begins. delivers_once limits c.events c.tells begun (world_at c.happen.to) begins runs;
        }

    -- an event that can't happen there is bad in the definitions' world: nobody was there at first, and the broker sent well
    cant_here : (e : Event) (end after : Lasting K) (es : List Event) (ts : List Telling) → (h : Happen g es ts w end) → (cant : CantHappen g e end after)
        → IsSoundAt g cant.nothing.to → IsBad e (world_at h.to)
    cant_here e end after es ts h cant sound =
        let from = cant.nothing.from in
        let same : from ≡ h.to = ok_is end.stage from h.to cant.nothing.was h.is in
        let come : HasCome g begun end = come_on g begun es ts w end h has_come in
        subst (λ (s : Staged K). IsBad e (world_at s)) same
        (cant.is_bad begun come sound starts.alone starts.sends)

    -- what a bad line leaves of the store
    abbrev left_by : (line : List ℕ) (end : Standing (Lasting K)) (reason : BadReason) → Staged K → IsBadLine (play_of g) line end reason → Staged K
    left_by line end reason s (kept, inl (none, why)) = s
    left_by line end reason s (kept, inr (e, is, (after, cant), why)) = cant.nothing.to

    left_sound : (line : List ℕ) (end : Standing (Lasting K)) (reason : BadReason) (es : List Event) (ts : List Telling) → (h : Happen g es ts w end.world)
        → (isbad : IsBadLine (play_of g) line end reason) → IsSoundAt g (left_by line end reason h.to isbad) → IsSoundAt g h.to
    left_sound line end reason es ts h (kept, inl (none, why)) sound = sound
    left_sound line end reason es ts h (kept, inr (e, is, (after, cant), why)) sound =
        subst (λ (s : Staged K). IsSoundAt g s) (ok_is end.world.stage cant.nothing.from h.to cant.nothing.was h.is) (cant.nothing.runs.sound sound)

    -- a bad line is one in the definitions' world
    bad_here : (line : List ℕ) (end : Standing (Lasting K)) (reason : BadReason) (es : List Event) (ts : List Telling) → (h : Happen g es ts w end.world)
        → (isbad : IsBadLine (play_of g) line end reason) → IsSoundAt g (left_by line end reason h.to isbad) → IsBadLineIn line (world_at h.to) reason
    bad_here line end reason es ts h (kept, inl (none, why)) sound = (kept, inl (none, why))
    bad_here line end reason es ts h (kept, inr (e, is, (after, cant), why)) sound =
        (kept, inr (e, is, cant_here e end.world after es ts h cant sound, why))

    text_of : (lines : List (List ℕ)) (before after : Option (List ℕ)) (played : Played) → Shows (play_of g) lines (start w) before after played
        → OpensOver g limits keep (λ v. Wrote (λ text. ReplayText limits v lines text played) before after)
    text_of lines before after Whole (front, end, plays, wrote) =
        let c = comes lines (start w) end front starts.at starts.stage plays in
        opens_left (λ v. Wrote (λ text. ReplayText limits v lines text Whole) before after) c.events c.tells end.world c.happen.to c.happen (λ sound. sound)
        (λ sound. (
          front ++ last_lines (play_of g) end,
          (
            front,
            c.events,
            world_at c.happen.to,
            runs_lines lines front end c sound,
            ap (λ (l : List ℕ). front ++ l) (last_seen end c.happen.to c.events c.happen.is (c.happen.kept ∙ ap (λ (es : List Event). es ++ c.events) starts.events) c.ends),
          ),
          wrote,
        ))
    text_of lines before after (Bad bad) (good, line, rest, front, end, are, plays, isbad, number, wrote) =
        let c = comes good (start w) end front starts.at starts.stage plays in
        let was = left_sound line end bad.reason c.events c.tells c.happen isbad in
        opens_left (λ v. Wrote (λ text. ReplayText limits v lines text (Bad bad)) before after) c.events c.tells end.world
        (left_by line end bad.reason c.happen.to isbad) c.happen was
        (λ sound. (
          front ++ bad_text (end.number + 1),
          (
            good,
            line,
            rest,
            front,
            c.events,
            world_at c.happen.to,
            are,
            runs_lines good front end c (was sound),
            number ∙ ap (λ (n : ℕ). n + 1) (from_none end.lines (length good) c.count),
            bad_here line end bad.reason c.events c.tells c.happen isbad sound,
            ap (λ (n : ℕ). front ++ bad_text (n + 1)) (from_none end.number (length c.events) c.number),
          ),
          wrote,
        ))

    front_of : (lines : List (List ℕ)) (before after : Option (List ℕ)) → ShowsFront (play_of g) lines (start w) before after
        → OpensOver g limits keep (λ v. Wrote (λ text. FrontText limits v lines text) before after)
    front_of lines before after (good, rest, front, end, are, plays, wrote) =
        let c = comes good (start w) end front starts.at starts.stage plays in
        opens_left (λ v. Wrote (λ text. FrontText limits v lines text) before after) c.events c.tells end.world c.happen.to c.happen (λ sound. sound)
        (λ sound. (
          front,
          (good, rest, c.events, world_at c.happen.to, are, runs_lines good front end c sound),
          wrote,
        ))

  -- what was shown of lines that play in a world over a store is the text of that store's world
  pub replays_over : (limits : Capacity) (keep : K) (w : Lasting K) (lines : List (List ℕ)) (before after : Option (List ℕ)) (played : Played)
      → Starts g limits keep w → Shows (play_of g) lines (start w) before after played → ReplaysOver g limits keep lines before after played
  replays_over limits keep w lines before after played starts shows = text_of limits keep w starts lines before after played shows

  -- a front that was shown of lines in a world over a store is one of that world's text
  pub front_over : (limits : Capacity) (keep : K) (w : Lasting K) (lines : List (List ℕ)) (before after : Option (List ℕ))
      → Starts g limits keep w → ShowsFront (play_of g) lines (start w) before after → FrontOver g limits keep lines before after
  front_over limits keep w lines before after starts shows = front_of limits keep w starts lines before after shows

  -- ---- of a reader that tells what is left

  -- the same of an input that is told, with its lines
  pub replays_seen : (limits : Capacity) (keep : K) (w : Lasting K) (input : Option (List ℕ)) (before after : Option (List ℕ)) (played : Played)
      → Starts g limits keep w → IfSome input (λ bytes. Replays (play_of g) w bytes before after played)
      → IfSome input (λ bytes. ReplaysOver g limits keep (lines_of bytes) before after played)
  replays_seen limits keep w None before after played starts shows = tt
  replays_seen limits keep w (Some bytes) before after played starts shows = replays_over limits keep w (lines_of bytes) before after played starts shows

  -- the same of an input that is told: nothing was written, or a front
  pub front_seen : (limits : Capacity) (keep : K) (w : Lasting K) (input : Option (List ℕ)) (before after : Option (List ℕ))
      → Starts g limits keep w → IfSome input (λ bytes. ReplaysFront (play_of g) w bytes before after)
      → IfSome input (λ bytes. Keeps before after ⊎ FrontOver g limits keep (lines_of bytes) before after)
  front_seen limits keep w None before after starts shows = tt
  front_seen limits keep w (Some bytes) before after starts shows = inr (front_over limits keep w (lines_of bytes) before after starts shows)

-- nothing was written, and nothing ran
nothing_runs : (limits : Capacity) (w : World) → RunsLines limits [] w [] [] w
nothing_runs limits w = record {
  are = refl;
  tells = [];
  runs = (refl, refl);
  told = refl;
  delivers = λ begins. delivers_once limits [] [] w w begins (refl, refl);
}

-- if nothing was written a front of the text was
pub front_none : (limits : Capacity) (lines : List (List ℕ)) (before after : Option (List ℕ)) → Keeps before after
    → Wrote (λ text. FrontText limits start_world lines text) before after
front_none limits lines before after kept =
    ([], ([], lines, [], start_world, refl, nothing_runs limits start_world), Appends-kept before before after [] (Appends-nil before) kept)

-- ---- over a store that has nothing, and whose device always returns what was written

module _ {K : Type 0} (g : Ghosts K) (sound : (keep : K) → g.is_sound keep) (limits : Capacity) (within : AreWithin limits) (keep : K) (empty : g.holds keep nothing) where
  records_none : (r : Records) (loaded : K) → IsLoad g keep r loaded → r ≡ nothing
  records_none r loaded load = load.exact nothing empty (sound loaded)

  from_nothing : (Holds : World → Type 0) → OpensOver g limits keep Holds → Holds start_world
  from_nothing Holds opens =
      let none : opens.records ≡ nothing = records_none opens.records opens.loaded opens.load in
      subst (λ (r : Records). Holds (opened_world limits opens.choice 0 r)) none
      (opens.holds (sound opens.left))

  -- over an empty store the text is that of a new world
  pub written : (input : Option (List ℕ)) (before after : Option (List ℕ)) (played : Played)
      → IfSome input (λ bytes. ReplaysOver g limits keep (lines_of bytes) before after played)
      → IfSome input (λ bytes. Wrote (λ text. ReplayText limits start_world (lines_of bytes) text played) before after)
  written None before after played shows = tt
  written (Some bytes) before after played shows =
      from_nothing (λ w. Wrote (λ text. ReplayText limits w (lines_of bytes) text played) before after) shows

  -- over an empty store a front is one of a new world's text
  pub written_front : (input : Option (List ℕ)) (before after : Option (List ℕ))
      → IfSome input (λ bytes. Keeps before after ⊎ FrontOver g limits keep (lines_of bytes) before after)
      → IfSome input (λ bytes. Wrote (λ text. FrontText limits start_world (lines_of bytes) text) before after)
  written_front None before after shows = tt
  written_front (Some bytes) before after (inl kept) = front_none limits (lines_of bytes) before after kept
  written_front (Some bytes) before after (inr shows) =
      from_nothing (λ w. Wrote (λ text. FrontText limits w (lines_of bytes) text) before after) shows

-- nothing was written, whatever a reader would give

-- if nothing was written over a store, too
pub kept_seen : {K : Type 0} (g : Ghosts K) (limits : Capacity) (keep : K) (input before : Option (List ℕ))
    → IfSome input (λ bytes. Keeps before before ⊎ FrontOver g limits keep (lines_of bytes) before before)
kept_seen g limits keep None before = tt
kept_seen g limits keep (Some bytes) before = inl (Keeps-refl before)

-- a front of the text over a store is one from its records
pub front_kept : (limits : Capacity) (input before : Option (List ℕ)) → AreWithin limits
    → IfSome input (λ bytes. Wrote (λ text. FrontText limits start_world (lines_of bytes) text) before before)
front_kept limits None before within = tt
front_kept limits (Some bytes) before within = front_none limits (lines_of bytes) before before (Keeps-refl before)

-- whatever the fault is
pub any_fault : {A E : Type 0} (r : Result A E) (P : E → Type 0) → ((e : E) → P e) → IfErr r P
any_fault (Ok x) P all = tt
any_fault (Err e) P all = all e
