-- How a script in pieces is cut into its lines, and what they show.
use Rattle.std.proofs.Common.{◌≡◌, ◌==◌, ℕ, false, List, [], ◌∷◌, ◌++◌, Option, None, Some, IfSome, refl, ap, sym, ◌∙◌, subst, append_assoc, append-nil}
use Rattle.std.proofs.lemmas.List.Elements.{All-nil, All-cons, All-append}
use Rattle.std.proofs.lemmas.List.Splits.{slice_split_none, slice_split_at}
use Rattle.std.specs.Io.KnownBytes.{Keeps, Consumes, IsAtEnd}
use Rattle.std.proofs.KnownBytes.{Appends-trans, Appends-nil, Consumes-trans, Consumes-nil}
use Rattle.mqtt_script.specs.Telling.{line_feed}
use Rattle.mqtt_script.specs.declared.bad_line.BadLine.{BadLine}
use Rattle.mqtt_script.specs.declared.replay_fault.Played.{Played}
use Rattle.mqtt_script.specs.declared.replay_fault.Played.TheVariants.{Whole, Bad}
use Rattle.mqtt_replay.specs.playing.Playing.{Play, Standing}
use Rattle.mqtt_replay.specs.playing.Replaying.{Feeds, IsPlain, LineShows, Shows, ShowsFront, lines_of}
use Rattle.mqtt_replay.proofs.playing_lemmas.Shown.{front_behind, front_none, line_alone, lines_join, shows_bad, shows_behind}

-- a line that ends is one of those of a script, and those behind it are the others
pub line_ends : (held more : List ℕ) → IsPlain held → lines_of (held ++ line_feed ∷ more) ≡ held ∷ lines_of more
line_ends held more plain = slice_split_at (λ (b : ℕ). b == line_feed) held line_feed more plain refl

-- what has no line feed is one line
pub line_alone_of : (held : List ℕ) → IsPlain held → lines_of held ≡ held ∷ []
line_alone_of held plain = slice_split_none (λ (b : ℕ). b == line_feed) held plain

-- nothing has no line feed
pub plain_none : IsPlain []
plain_none = All-nil (λ (b : ℕ). (b == line_feed) ≡ false)

-- nor with a byte that is none
pub plain_more : (held : List ℕ) (byte : ℕ) → IsPlain held → (byte == line_feed) ≡ false → IsPlain (held ++ byte ∷ [])
plain_more held byte plain other =
    let P = λ (b : ℕ). (b == line_feed) ≡ false in
    All-append P held (byte ∷ []) plain (All-cons P byte [] other (All-nil P))

-- no byte came
pub feeds_none : {W : Type 0} (p : Play W) (held : List ℕ) (s : Standing W) (before : Option (List ℕ)) → IsPlain held → Feeds p held [] held s s before before
feeds_none p held s before plain =
    record { lines = []; text = []; cut = λ more. refl; play = (refl, refl); wrote = Appends-nil before; plain = plain }

-- more bytes behind some, in two ways
two_ways : (held piece more : List ℕ) (byte : ℕ) → held ++ ((piece ++ byte ∷ []) ++ more) ≡ held ++ (piece ++ (byte ∷ more))
two_ways held piece more byte = ap (λ (l : List ℕ). held ++ l) (append_assoc piece (byte ∷ []) more)

-- a byte came that is no line feed
pub feeds_byte : {W : Type 0} (p : Play W) (held piece left : List ℕ) (byte : ℕ) (s end : Standing W) (before after : Option (List ℕ))
    → Feeds p held piece left s end before after → (byte == line_feed) ≡ false → Feeds p held (piece ++ byte ∷ []) (left ++ byte ∷ []) s end before after
feeds_byte p held piece left byte s end before after f other =
    record {
      lines = f.lines;
      text = f.text;
      cut = λ more. ap lines_of (two_ways held piece more byte) ∙ f.cut (byte ∷ more)
          ∙ ap (λ (l : List ℕ). f.lines ++ lines_of l) (sym (append_assoc left (byte ∷ []) more));
      play = f.play;
      wrote = f.wrote;
      plain = plain_more left byte f.plain other;
    }

-- what a line feed ends
ended : {W : Type 0} (p : Play W) (held piece left more : List ℕ) (s mid : Standing W) (before now : Option (List ℕ))
    → (f : Feeds p held piece left s mid before now) → lines_of (held ++ (piece ++ (line_feed ∷ more))) ≡ f.lines ++ (left ∷ lines_of more)
ended p held piece left more s mid before now f =
    f.cut (line_feed ∷ more) ∙ ap (λ (l : List (List ℕ)). f.lines ++ l) (line_ends left more f.plain)

-- a line feed came, and the line before it plays
pub feeds_line : {W : Type 0} (p : Play W) (held piece left : List ℕ) (s mid end : Standing W) (before now after : Option (List ℕ))
    → Feeds p held piece left s mid before now → LineShows p left mid end now after Whole → Feeds p held (piece ++ line_feed ∷ []) [] s end before after
feeds_line p held piece left s mid end before now after f shows =
    record {
      lines = f.lines ++ left ∷ [];
      text = f.text ++ shows.0;
      cut = λ more. ap lines_of (two_ways held piece more line_feed) ∙ ended p held piece left more s mid before now f
          ∙ sym (append_assoc f.lines (left ∷ []) (lines_of more));
      play = lines_join p f.lines (left ∷ []) s mid end f.text shows.0 f.play (line_alone p left mid end shows.0 shows.1);
      wrote = Appends-trans before now after f.text shows.0 f.wrote shows.2;
      plain = plain_none;
    }

-- a line feed came, and the line before it is bad
pub feeds_bad : {W : Type 0} (p : Play W) (held piece left rest : List ℕ) (s mid end : Standing W) (before now after : Option (List ℕ)) (bad : BadLine)
    → Feeds p held piece left s mid before now → LineShows p left mid end now after (Bad bad)
    → (more : List ℕ) → Shows p (lines_of (held ++ ((piece ++ line_feed ∷ rest) ++ more))) s before after (Bad bad)
feeds_bad p held piece left rest s mid end before now after bad f shows more =
    let cut = ap lines_of (ap (λ (l : List ℕ). held ++ l) (append_assoc piece (line_feed ∷ rest) more)) ∙ ended p held piece left (rest ++ more) s mid before now f in
    subst (λ (l : List (List ℕ)). Shows p l s before after (Bad bad)) (sym cut)
    (shows_behind p f.lines (left ∷ lines_of (rest ++ more)) s mid before now after f.text (Bad bad) f.play f.wrote
    (shows_bad p left (lines_of (rest ++ more)) mid end now after bad shows))

-- what was shown so far, whatever follows
pub feeds_front : {W : Type 0} (p : Play W) (held piece left rest : List ℕ) (s mid : Standing W) (before now after : Option (List ℕ))
    → Feeds p held piece left s mid before now → Keeps now after
    → (more : List ℕ) → ShowsFront p (lines_of (held ++ ((piece ++ rest) ++ more))) s before after
feeds_front p held piece left rest s mid before now after f kept more =
    let cut = ap lines_of (ap (λ (l : List ℕ). held ++ l) (append_assoc piece rest more)) ∙ f.cut (rest ++ more) in
    let others = lines_of (left ++ (rest ++ more)) in
    subst (λ (l : List (List ℕ)). ShowsFront p l s before after) (sym cut)
    (front_behind p f.lines others s mid before now after f.text f.play f.wrote (front_none p others mid now after kept))

-- ---- one byte after the other, of a piece of which some were taken

one_more : (piece taken rest after : List ℕ) (byte : ℕ) → piece ≡ taken ++ rest → rest ≡ byte ∷ after → piece ≡ (taken ++ byte ∷ []) ++ after
one_more piece taken rest after byte all first =
    all ∙ ap (λ (l : List ℕ). taken ++ l) first ∙ sym (append_assoc taken (byte ∷ []) after)

-- a byte of a line is held
pub step_byte : {W : Type 0} (p : Play W) (held piece taken rest after left : List ℕ) (byte : ℕ) (s end : Standing W) (before now : Option (List ℕ))
    → piece ≡ taken ++ rest → rest ≡ byte ∷ after → (byte == line_feed) ≡ false → Feeds p held taken left s end before now
    → (x : List ℕ) × (piece ≡ x ++ after) × Feeds p held x (left ++ byte ∷ []) s end before now
step_byte p held piece taken rest after left byte s end before now all first other f =
    (taken ++ byte ∷ [], one_more piece taken rest after byte all first, feeds_byte p held taken left byte s end before now f other)

-- a line feed plays the line
pub step_line : {W : Type 0} (p : Play W) (held piece taken rest after left : List ℕ) (byte : ℕ) (s mid end : Standing W) (before now later : Option (List ℕ))
    → piece ≡ taken ++ rest → rest ≡ byte ∷ after → byte ≡ line_feed → Feeds p held taken left s mid before now → LineShows p left mid end now later Whole
    → (x : List ℕ) × (piece ≡ x ++ after) × Feeds p held x [] s end before later
step_line p held piece taken rest after left byte s mid end before now later all first is f shows =
    (taken ++ line_feed ∷ [], one_more piece taken rest after line_feed all (first ∙ ap (λ (b : ℕ). b ∷ after) is), feeds_line p held taken left s mid end before now later f shows)

-- or ends the replay, if it is bad
pub step_bad : {W : Type 0} (p : Play W) (held piece taken rest after left : List ℕ) (byte : ℕ) (s mid end : Standing W) (before now later : Option (List ℕ)) (bad : BadLine)
    → piece ≡ taken ++ rest → rest ≡ byte ∷ after → byte ≡ line_feed → Feeds p held taken left s mid before now → LineShows p left mid end now later (Bad bad)
    → (more : List ℕ) → Shows p (lines_of (held ++ (piece ++ more))) s before later (Bad bad)
step_bad p held piece taken rest after left byte s mid end before now later bad all first is f shows more =
    let ends = ap (λ (l : List ℕ). taken ++ l) (first ∙ ap (λ (b : ℕ). b ∷ after) is) in
    subst (λ (l : List ℕ). Shows p (lines_of (held ++ (l ++ more))) s before later (Bad bad)) (sym (all ∙ ends))
    (feeds_bad p held taken left after s mid end before now later bad f shows more)

-- what was played of a piece was played of all
pub step_front : {W : Type 0} (p : Play W) (held piece taken rest left : List ℕ) (s mid : Standing W) (before now later : Option (List ℕ))
    → piece ≡ taken ++ rest → Feeds p held taken left s mid before now → Keeps now later
    → (more : List ℕ) → ShowsFront p (lines_of (held ++ (piece ++ more))) s before later
step_front p held piece taken rest left s mid before now later all f kept more =
    subst (λ (l : List ℕ). ShowsFront p (lines_of (held ++ (l ++ more))) s before later) (sym all)
    (feeds_front p held taken left rest s mid before now later f kept more)

-- all bytes of a piece were taken
pub step_end : {W : Type 0} (p : Play W) (held piece taken rest left : List ℕ) (s end : Standing W) (before now : Option (List ℕ))
    → piece ≡ taken ++ rest → rest ≡ [] → Feeds p held taken left s end before now → Feeds p held piece left s end before now
step_end p held piece taken rest left s end before now all none f =
    subst (λ (l : List ℕ). Feeds p held l left s end before now) (sym (all ∙ ap (λ (l : List ℕ). taken ++ l) none ∙ append-nil taken)) f

-- a piece came, and then another
pub feeds_join : {W : Type 0} (p : Play W) (held one left two rest : List ℕ) (s mid end : Standing W) (before now after : Option (List ℕ))
    → Feeds p held one left s mid before now → Feeds p left two rest mid end now after → Feeds p held (one ++ two) rest s end before after
feeds_join p held one left two rest s mid end before now after f g =
    record {
      lines = f.lines ++ g.lines;
      text = f.text ++ g.text;
      cut = λ more. ap lines_of (ap (λ (l : List ℕ). held ++ l) (append_assoc one two more)) ∙ f.cut (two ++ more)
          ∙ ap (λ (l : List (List ℕ)). f.lines ++ l) (g.cut more) ∙ sym (append_assoc f.lines g.lines (lines_of (rest ++ more)));
      play = lines_join p f.lines g.lines s mid end f.text g.text f.play g.play;
      wrote = Appends-trans before now after f.text g.text f.wrote g.wrote;
      plain = g.plain;
    }

-- ---- what was read and shown so far

-- so much of the input was read, and feeding it led from the one standing to the other
pub record FedSoFar {W : Type 0} (p : Play W) (held : List ℕ) (input left : Option (List ℕ)) (s end : Standing W) (before after : Option (List ℕ)) : Type 0 where
  pub fed : List ℕ
  pub read : Consumes input left fed
  pub feeds : Feeds p [] fed held s end before after

-- at first nothing was fed
pub fed_start : {W : Type 0} (p : Play W) (held : List ℕ) (input : Option (List ℕ)) (s : Standing W) (before : Option (List ℕ))
    → held ≡ [] → FedSoFar p held input input s s before before
fed_start p held input s before none =
    record {
      fed = [];
      read = Consumes-nil input;
      feeds = subst (λ (h : List ℕ). Feeds p [] [] h s s before before) (sym none) (feeds_none p [] s before plain_none);
    }

-- a piece more is fed
pub fed_next : {W : Type 0} (p : Play W) (held piece next : List ℕ) (input left less : Option (List ℕ)) (s mid end : Standing W) (before now after : Option (List ℕ))
    → FedSoFar p held input left s mid before now → Consumes left less piece → Feeds p held piece next mid end now after → FedSoFar p next input less s end before after
fed_next p held piece next input left less s mid end before now after so took f =
    record {
      fed = so.fed ++ piece;
      read = Consumes-trans input left less so.fed piece so.read took;
      feeds = feeds_join p [] so.fed held piece next s mid end before now after so.feeds f;
    }

-- what is shown of the bytes to come, behind those that came
pub shows_fed : {W : Type 0} (p : Play W) (held : List ℕ) (input left : Option (List ℕ)) (s mid : Standing W) (before now after : Option (List ℕ)) (played : Played)
    → FedSoFar p held input left s mid before now → IfSome left (λ ys. Shows p (lines_of (held ++ ys)) mid now after played)
    → IfSome input (λ xs. Shows p (lines_of xs) s before after played)
shows_fed p held None left s mid before now after played so shows = tt
shows_fed p held (Some xs) None s mid before now after played so shows = absurd so.read
shows_fed p held (Some xs) (Some ys) s mid before now after played so shows =
    let f = so.feeds in
    subst (λ (l : List (List ℕ)). Shows p l s before after played) (sym (ap lines_of so.read ∙ f.cut ys))
    (shows_behind p f.lines (lines_of (held ++ ys)) s mid before now after f.text played f.play f.wrote shows)

-- what was fed is a front of the script
pub front_fed : {W : Type 0} (p : Play W) (held : List ℕ) (input left : Option (List ℕ)) (s mid : Standing W) (before now after : Option (List ℕ))
    → FedSoFar p held input left s mid before now → IfSome left (λ ys. ShowsFront p (lines_of (held ++ ys)) mid now after)
    → IfSome input (λ xs. ShowsFront p (lines_of xs) s before after)
front_fed p held None left s mid before now after so shows = tt
front_fed p held (Some xs) None s mid before now after so shows = absurd so.read
front_fed p held (Some xs) (Some ys) s mid before now after so shows =
    let f = so.feeds in
    subst (λ (l : List (List ℕ)). ShowsFront p l s before after) (sym (ap lines_of so.read ∙ f.cut ys))
    (front_behind p f.lines (lines_of (held ++ ys)) s mid before now after f.text f.play f.wrote shows)

any_more : (P : List ℕ → Type 0) (left : Option (List ℕ)) → ((ys : List ℕ) → P ys) → IfSome left P
any_more P None all = tt
any_more P (Some ys) all = all ys

-- whatever more there is to read
pub front_kept : {W : Type 0} (p : Play W) (held : List ℕ) (input left : Option (List ℕ)) (s mid : Standing W) (before now after : Option (List ℕ))
    → FedSoFar p held input left s mid before now → Keeps now after → IfSome input (λ xs. ShowsFront p (lines_of xs) s before after)
front_kept p held input left s mid before now after so kept =
    front_fed p held input left s mid before now after so (any_more (λ (ys : List ℕ). ShowsFront p (lines_of (held ++ ys)) mid now after) left
    (λ ys. front_none p (lines_of (held ++ ys)) mid now after kept))

-- a piece came
came : (P : List ℕ → Type 0) (left less : Option (List ℕ)) (piece : List ℕ) → Consumes left less piece → ((more : List ℕ) → P (piece ++ more)) → IfSome left P
came P None less piece took all = tt
came P (Some ys) None piece took all = absurd took
came P (Some ys) (Some zs) piece took all = subst P (sym took) (all zs)

-- a bad line in a piece ends the script
pub bad_piece : {W : Type 0} (p : Play W) (held piece : List ℕ) (input left less : Option (List ℕ)) (s mid : Standing W) (before now after : Option (List ℕ)) (bad : BadLine)
    → FedSoFar p held input left s mid before now → Consumes left less piece
    → ((more : List ℕ) → Shows p (lines_of (held ++ (piece ++ more))) mid now after (Bad bad)) → IfSome input (λ xs. Shows p (lines_of xs) s before after (Bad bad))
bad_piece p held piece input left less s mid before now after bad so took all =
    shows_fed p held input left s mid before now after (Bad bad) so
    (came (λ (ys : List ℕ). Shows p (lines_of (held ++ ys)) mid now after (Bad bad)) left less piece took all)

-- what was played of a piece is a front of the script
pub front_piece : {W : Type 0} (p : Play W) (held piece : List ℕ) (input left less : Option (List ℕ)) (s mid : Standing W) (before now after : Option (List ℕ))
    → FedSoFar p held input left s mid before now → Consumes left less piece → ((more : List ℕ) → ShowsFront p (lines_of (held ++ (piece ++ more))) mid now after)
    → IfSome input (λ xs. ShowsFront p (lines_of xs) s before after)
front_piece p held piece input left less s mid before now after so took all =
    front_fed p held input left s mid before now after so (came (λ (ys : List ℕ). ShowsFront p (lines_of (held ++ ys)) mid now after) left less piece took all)

-- no byte is left
left_none : (P : List (List ℕ) → Type 0) (held : List ℕ) (left less : Option (List ℕ)) → IsPlain held → Consumes left less [] → IsAtEnd less → P (held ∷ [])
    → IfSome left (λ ys. P (lines_of (held ++ ys)))
left_none P held None less plain took end at = tt
left_none P held (Some ys) None plain took end at = absurd took
left_none P held (Some ys) (Some zs) plain took end at =
    subst P (sym (ap (λ (l : List ℕ). lines_of (held ++ l)) (took ∙ end) ∙ ap lines_of (append-nil held) ∙ line_alone_of held plain)) at

-- the end shows how all stand
pub shows_end : {W : Type 0} (p : Play W) (held : List ℕ) (input left less : Option (List ℕ)) (s mid : Standing W) (before now after : Option (List ℕ)) (played : Played)
    → FedSoFar p held input left s mid before now → Consumes left less [] → IsAtEnd less → Shows p (held ∷ []) mid now after played
    → IfSome input (λ xs. Shows p (lines_of xs) s before after played)
shows_end p held input left less s mid before now after played so took end shows =
    shows_fed p held input left s mid before now after played so
    (left_none (λ (l : List (List ℕ)). Shows p l mid now after played) held left less so.feeds.plain took end shows)

-- what was shown of it is a front
pub front_end : {W : Type 0} (p : Play W) (held : List ℕ) (input left less : Option (List ℕ)) (s mid : Standing W) (before now after : Option (List ℕ))
    → FedSoFar p held input left s mid before now → Consumes left less [] → IsAtEnd less → ShowsFront p (held ∷ []) mid now after
    → IfSome input (λ xs. ShowsFront p (lines_of xs) s before after)
front_end p held input left less s mid before now after so took end shows =
    front_fed p held input left s mid before now after so
    (left_none (λ (l : List (List ℕ)). ShowsFront p l mid now after) held left less so.feeds.plain took end shows)
