-- Lines of scripts and of ends, by computing.
use Rattle.std.specs.Prelude.{⊤}
use Rattle.std.specs.List.{flat_map}
use Rattle.std.proofs.Common.{◌≡◌, [], ◌∷◌, ◌++◌, codes, refl, arith}
use Rattle.std.proofs.lemmas.Fmt.{decimal_digit}
use Rattle.mqtt_script.specs.Telling.{line_feed}
use Rattle.mqtt_replay.specs.declared.playing.ends.End.TheVariants.{Publisher, Receiver}
use Rattle.mqtt_replay.specs.playing.Playing.{Play, end_line}
use Rattle.mqtt_replay.specs.playing.Replaying.{lines_of}

-- a script of three lines, the last of which is empty
lines : lines_of (codes "tick" ++ (line_feed ∷ codes "#a" ++ (line_feed ∷ []))) ≡ codes "tick" ∷ codes "#a" ∷ [] ∷ []
lines = refl

-- a world of which all is known
abbrev known : Play ⊤
known = record {
  happens = λ w e told after. ⊤;
  is_bad = λ w e. ⊤;
  due = ⊤;
  sent = λ w client. 1;
  done = λ w client. 0;
  handed = λ w client. 1 ∷ [];
  queue = λ w client. 0;
  publications = λ w. 1;
  sessions = λ w. 2;
}

-- the lines of a receiver and a publisher
ends : flat_map (end_line known tt) (Receiver (codes "r1") ∷ Publisher (codes "p1") ∷ [])
    ≡ codes "r1 handed=1 queue=0" ++ (line_feed ∷ codes "p1 sent=1 done=0" ++ (line_feed ∷ []))
ends = rw (decimal_digit 0 (omega arith), decimal_digit 1 (omega arith)) refl
