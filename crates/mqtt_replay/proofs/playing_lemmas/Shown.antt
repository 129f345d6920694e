-- What lines show, one after the other.
use Rattle.std.proofs.Common.{◌≡◌, ◌+◌, ℕ, false, List, [], ◌∷◌, ◌++◌, Option, refl, ap, sym, ◌∙◌, subst, append_assoc, append-nil, inr}
use Rattle.std.specs.Io.KnownBytes.{Appends, Keeps}
use Rattle.std.proofs.KnownBytes.{Appends-trans, Appends-nil, Appends-kept}
use Rattle.mqtt_script.specs.declared.event.Event.{Event}
use Rattle.mqtt_script.specs.Lines.{IsLineOf, is_passed_over}
use Rattle.mqtt_script.specs.Telling.{bad_text}
use Rattle.mqtt_script.specs.declared.bad_line.BadLine.{BadLine}
use Rattle.mqtt_script.specs.declared.replay_fault.Played.{Played}
use Rattle.mqtt_script.specs.declared.replay_fault.Played.TheVariants.{Whole, Bad}
use Rattle.mqtt_replay.specs.playing.Playing.{Play, Standing, last_lines}
use Rattle.mqtt_replay.specs.playing.Replaying.{LinePlays, LinesPlay, Shows, ShowsFront, LineShows, EventShows}

-- what an event shows is what its line does
pub event_line : {W : Type 0} (p : Play W) (line : List ℕ) (e : Event) (s end : Standing W) (before after : Option (List ℕ)) (played : Played)
    → is_passed_over line ≡ false → IsLineOf e line → EventShows p e s end before after played → LineShows p line s end before after played
event_line p line e s end before after Whole kept is shows = (shows.0, inr (kept, e, is, shows.1), shows.2)
event_line p line e s end before after (Bad bad) kept is shows = ((kept, inr (e, is, shows.0, shows.1)), shows.2, shows.3)

-- lines play, and then others
pub lines_join : {W : Type 0} (p : Play W) (xs ys : List (List ℕ)) (s mid end : Standing W) (t u : List ℕ)
    → LinesPlay p xs s t mid → LinesPlay p ys mid u end → LinesPlay p (xs ++ ys) s (t ++ u) end
lines_join p [] ys s mid end t u a b =
    let text : t ++ u ≡ u = ap (λ (l : List ℕ). l ++ u) a.0 in
    subst (λ (l : List ℕ). LinesPlay p ys s l end) (sym text) (subst (λ (m : Standing _). LinesPlay p ys m u end) a.1 b)
lines_join p (x ∷ xs) ys s mid end t u a b =
    let (first, rest, next, line, lines, is) = a in
    (first, rest ++ u, next, line, lines_join p xs ys next mid end rest u lines b, ap (λ (l : List ℕ). l ++ u) is ∙ append_assoc first rest u)

-- one line plays alone
pub line_alone : {W : Type 0} (p : Play W) (line : List ℕ) (s end : Standing W) (t : List ℕ) → LinePlays p line s t end → LinesPlay p (line ∷ []) s t end
line_alone p line s end t plays = (t, [], end, plays, (refl, refl), sym (append-nil t))

-- what is shown behind lines that play
pub shows_behind : {W : Type 0} (p : Play W) (lines more : List (List ℕ)) (s mid : Standing W) (before now after : Option (List ℕ)) (text : List ℕ) (played : Played)
    → LinesPlay p lines s text mid → Appends before now text → Shows p more mid now after played → Shows p (lines ++ more) s before after played
shows_behind p lines more s mid before now after text Whole plays wrote shows =
    let (rest, end, play, last) = shows in (
      text ++ rest,
      end,
      lines_join p lines more s mid end text rest plays play,
      subst (Appends before after) (sym (append_assoc text rest (last_lines p end))) (Appends-trans before now after text (rest ++ last_lines p end) wrote last),
    )
shows_behind p lines more s mid before now after text (Bad bad) plays wrote shows =
    let (good, line, rest, behind, end, is, play, isbad, number, last) = shows in (
      lines ++ good,
      line,
      rest,
      text ++ behind,
      end,
      ap (λ (l : List (List ℕ)). lines ++ l) is ∙ sym (append_assoc lines good (line ∷ rest)),
      lines_join p lines good s mid end text behind plays play,
      isbad,
      number,
      subst (Appends before after) (sym (append_assoc text behind (bad_text (end.number + 1)))) (Appends-trans before now after text (behind ++ bad_text (end.number + 1)) wrote last),
    )

-- a front of what is behind lines is a front of all
pub front_behind : {W : Type 0} (p : Play W) (lines more : List (List ℕ)) (s mid : Standing W) (before now after : Option (List ℕ)) (text : List ℕ)
    → LinesPlay p lines s text mid → Appends before now text → ShowsFront p more mid now after → ShowsFront p (lines ++ more) s before after
front_behind p lines more s mid before now after text plays wrote shows =
    let (good, rest, behind, end, is, play, last) = shows in (
      lines ++ good,
      rest,
      text ++ behind,
      end,
      ap (λ (l : List (List ℕ)). lines ++ l) is ∙ sym (append_assoc lines good rest),
      lines_join p lines good s mid end text behind plays play,
      Appends-trans before now after text behind wrote last,
    )

-- nothing was written, whatever there is to play
pub front_none : {W : Type 0} (p : Play W) (lines : List (List ℕ)) (s : Standing W) (before after : Option (List ℕ)) → Keeps before after → ShowsFront p lines s before after
front_none p lines s before after kept =
    ([], lines, [], s, refl, (refl, refl), Appends-kept before before after [] (Appends-nil before) kept)

-- a bad line ends what is shown, whatever follows it
pub shows_bad : {W : Type 0} (p : Play W) (line : List ℕ) (more : List (List ℕ)) (s end : Standing W) (before after : Option (List ℕ)) (bad : BadLine)
    → LineShows p line s end before after (Bad bad) → Shows p (line ∷ more) s before after (Bad bad)
shows_bad p line more s end before after bad shows = ([], line, more, [], s, refl, (refl, refl), shows.0, shows.1, shows.2)

-- a last line plays, and what the world came to is written behind it
pub shows_last : {W : Type 0} (p : Play W) (line : List ℕ) (s end : Standing W) (before now after : Option (List ℕ))
    → LineShows p line s end before now Whole → Appends now after (last_lines p end) → Shows p (line ∷ []) s before after Whole
shows_last p line s end before now after shows last =
    (shows.0, end, line_alone p line s end shows.0 shows.1, Appends-trans before now after shows.0 (last_lines p end) shows.2 last)

-- a line plays, and no more is written
pub front_line : {W : Type 0} (p : Play W) (line : List ℕ) (more : List (List ℕ)) (s end : Standing W) (before now after : Option (List ℕ))
    → LineShows p line s end before now Whole → Keeps now after → ShowsFront p (line ∷ more) s before after
front_line p line more s end before now after shows kept =
    (line ∷ [], more, shows.0, end, refl, line_alone p line s end shows.0 shows.1, Appends-kept before now after shows.0 shows.2 kept)
