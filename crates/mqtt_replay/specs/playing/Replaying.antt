-- What the replay of a script shows (ours).
use Rattle.std.specs.Prelude.{◌≡◌, ◌==◌, ◌⊎◌, ℕ, ◌+◌, true, false, List, [], ◌∷◌, ◌++◌, Option}
use Rattle.std.specs.List.{All, slice_split}
use Rattle.std.specs.Io.KnownBytes.{Appends}
use Rattle.mqtt_script.specs.declared.event.Event.{Event}
use Rattle.mqtt_script.specs.BadLines.{why_no_event}
use Rattle.mqtt_script.specs.declared.bad_line.BadReason.{BadReason}
use Rattle.mqtt_script.specs.declared.bad_line.BadReason.TheVariants.{CannotHappen}
use Rattle.mqtt_script.specs.Lines.{IsLineOf, IsNoLine, is_passed_over}
use Rattle.mqtt_script.specs.Telling.{bad_text, line_feed}
use Rattle.mqtt_script.specs.declared.replay_fault.Played.{Played}
use Rattle.mqtt_script.specs.declared.replay_fault.Played.TheVariants.{Whole, Bad}
use Rattle.mqtt_replay.specs.playing.Playing.{Play, Standing, Happened, start, passed_over, last_lines}

-- the lines of a script: what stands between its line feeds
abbrev pub lines_of : List ℕ → List (List ℕ)
lines_of input = slice_split (λ b. b == line_feed) input

-- ---- a line: it is passed over and shows nothing, or it is that of an event which happens

abbrev pub LinePlays : {W : Type 0} → Play W → List ℕ → Standing W → List ℕ → Standing W → Type 0
LinePlays p line s text after =
    ((is_passed_over line ≡ true) × (text ≡ []) × (after ≡ passed_over s))
    ⊎ ((is_passed_over line ≡ false) × (e : Event) × IsLineOf e line × Happened p e s text after)

-- or it is bad, for this reason: it is that of no event, or of one that can't happen there
abbrev pub IsBadLine : {W : Type 0} → Play W → List ℕ → Standing W → BadReason → Type 0
IsBadLine p line s reason =
    (is_passed_over line ≡ false)
    × ((IsNoLine line × (reason ≡ why_no_event line))
    ⊎ ((e : Event) × IsLineOf e line × p.is_bad s.world e × (reason ≡ CannotHappen)))

-- ---- lines, one after the other

abbrev pub LinesPlay : {W : Type 0} → Play W → List (List ℕ) → Standing W → List ℕ → Standing W → Type 0
LinesPlay p [] s text after = (text ≡ []) × (after ≡ s)
LinesPlay {W} p (line ∷ lines) s text after =
    (first rest : List ℕ) × (mid : Standing W) × LinePlays p line s first mid × LinesPlay p lines mid rest after
    × (text ≡ first ++ rest)

-- The text of a script's lines was written, from where it stood: all lines, and what the world came to; or those before
-- a bad line, whose number and reason are answered, and the number that its event would have.
abbrev pub Shows : {W : Type 0} → Play W → List (List ℕ) → Standing W → Option (List ℕ) → Option (List ℕ) → Played → Type 0
Shows {W} p lines s before after Whole =
    (text : List ℕ) × (end : Standing W) × LinesPlay p lines s text end × Appends before after (text ++ last_lines p end)
Shows {W} p lines s before after (Bad bad) =
    (good : List (List ℕ)) × (line : List ℕ) × (rest : List (List ℕ)) × (text : List ℕ) × (end : Standing W)
    × (lines ≡ good ++ line ∷ rest) × LinesPlay p good s text end × IsBadLine p line end bad.reason
    × (bad.number ≡ end.lines + 1) × Appends before after (text ++ bad_text (end.number + 1))

-- A beginning of the text was written: that of the lines that the script begins with.
abbrev pub ShowsFront : {W : Type 0} → Play W → List (List ℕ) → Standing W → Option (List ℕ) → Option (List ℕ) → Type 0
ShowsFront {W} p lines s before after =
    (good rest : List (List ℕ)) × (text : List ℕ) × (end : Standing W)
    × (lines ≡ good ++ rest) × LinesPlay p good s text end × Appends before after text

-- ---- the whole replay of a script on a world

abbrev pub Replays : {W : Type 0} → Play W → W → List ℕ → Option (List ℕ) → Option (List ℕ) → Played → Type 0
Replays p w input before after played = Shows p (lines_of input) (start w) before after played

abbrev pub ReplaysFront : {W : Type 0} → Play W → W → List ℕ → Option (List ℕ) → Option (List ℕ) → Type 0
ReplaysFront p w input before after = ShowsFront p (lines_of input) (start w) before after

-- ---- its steps

-- What a line came to, whose text was written: it plays, or it is bad.
abbrev pub LineShows : {W : Type 0} → Play W → List ℕ → Standing W → Standing W → Option (List ℕ) → Option (List ℕ) → Played → Type 0
LineShows p line s end before after Whole = (text : List ℕ) × LinePlays p line s text end × Appends before after text
LineShows p line s end before after (Bad bad) =
    IsBadLine p line s bad.reason × (bad.number ≡ s.lines + 1) × Appends before after (bad_text (s.number + 1))

-- the same of an event
abbrev pub EventShows : {W : Type 0} → Play W → Event → Standing W → Standing W → Option (List ℕ) → Option (List ℕ) → Played → Type 0
EventShows p e s end before after Whole = (text : List ℕ) × Happened p e s text end × Appends before after text
EventShows p e s end before after (Bad bad) =
    p.is_bad s.world e × (bad.reason ≡ CannotHappen) × (bad.number ≡ s.lines + 1)
    × Appends before after (bad_text (s.number + 1))

-- no line feed is held
abbrev pub IsPlain : List ℕ → Type 0
IsPlain held = All (λ b. (b == line_feed) ≡ false) held

-- The lines that are whole in a piece behind what was held were played, and this is left.
pub record Feeds {W : Type 0} (p : Play W) (held piece left : List ℕ) (s end : Standing W) (before after : Option (List ℕ)) : Type 0 where
  pub lines : List (List ℕ)
  pub text : List ℕ
  pub cut : (more : List ℕ) → lines_of (held ++ (piece ++ more)) ≡ lines ++ lines_of (left ++ more)
  pub play : LinesPlay p lines s text end
  pub wrote : Appends before after text
  pub plain : IsPlain left

-- What a piece came to: its whole lines were played, or one of them is bad, whatever follows.
abbrev pub PieceShows : {W : Type 0} → Play W → List ℕ → List ℕ → List ℕ → Standing W → Standing W → Option (List ℕ) → Option (List ℕ) → Played → Type 0
PieceShows p held piece left s end before after Whole = Feeds p held piece left s end before after
PieceShows p held piece left s end before after (Bad bad) =
    (more : List ℕ) → Shows p (lines_of (held ++ (piece ++ more))) s before after (Bad bad)
