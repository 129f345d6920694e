-- What is printed of a run: a line for each event, and what the run came to (ours).
use Rattle.std.specs.Prelude.{ℕ, ◌==◌, if◌then◌else◌, List, [], ◌∷◌, ◌++◌, codes, decimal}
use Rattle.std.specs.List.{flat_map}
use Rattle.mqtt_base.specs.declared.session.Ending.{Ending}
use Rattle.mqtt_base.specs.declared.session.Ending.TheVariants.{Taken, Refused, Expired, TooLarge, SessionEnded, Dropped}
use Rattle.mqtt_base.specs.Escaped.{escaped}

abbrev pub line_feed : ℕ
line_feed = 0x0a

-- ---- the line of an event: its number, its first word, its reports in order, and how many packets went out

abbrev pub number_text : ℕ → List ℕ → List ℕ
number_text number word = decimal number ++ codes " " ++ word

-- a publication was accepted
abbrev pub accepted_text : ℕ → List ℕ
accepted_text publication = codes " accepted=" ++ decimal publication

-- the copy of a publication for a client, among others
abbrev pub copy_text : ℕ → List ℕ → List ℕ
copy_text publication client = decimal publication ++ codes ">" ++ escaped client

-- a copy entered its session's queue
abbrev pub entered_text : ℕ → List ℕ → List ℕ
entered_text publication client = codes " entered=" ++ copy_text publication client

-- a PUBREL closed an open identifier
abbrev pub released_text : ℕ → List ℕ
released_text identifier = codes " released=" ++ decimal identifier

abbrev pub ending_text : Ending → List ℕ
ending_text Taken = codes "Taken"
ending_text Refused = codes "Refused"
ending_text Expired = codes "Expired"
ending_text TooLarge = codes "TooLarge"
ending_text SessionEnded = codes "SessionEnded"
ending_text Dropped = codes "Dropped"

-- a copy left its session's queue
abbrev pub ended_text : ℕ → List ℕ → Ending → List ℕ
ended_text publication client ending =
    codes " ended=" ++ copy_text publication client ++ codes ":" ++ ending_text ending

-- a Will wasn't accepted
abbrev pub will_refused_text : List ℕ → List ℕ
will_refused_text client = codes " willrefused=" ++ escaped client

-- packets that went out, if there are some
abbrev pub out_text : ℕ → List ℕ
out_text count = if count == 0 then [] else codes " out=" ++ decimal count

-- ---- a line that is no event, or an event that can't be

abbrev pub bad_text : ℕ → List ℕ
bad_text number = decimal number ++ codes " bad" ++ line_feed ∷ []

-- ---- what a run came to: a line for each end, and one for the broker

-- a publisher: its messages, and those whose handshake is completed
abbrev pub publisher_text : List ℕ → ℕ → ℕ → List ℕ
publisher_text client messages done =
    escaped client ++ codes " sent=" ++ decimal messages ++ codes " done=" ++ decimal done ++ line_feed ∷ []

abbrev pub next_number : ℕ → List ℕ
next_number n = codes "," ++ decimal n

-- numbers with commas between them, or - for none
abbrev pub numbers_text : List ℕ → List ℕ
numbers_text [] = codes "-"
numbers_text (n ∷ numbers) = decimal n ++ flat_map next_number numbers

-- a receiver: the publications of its QoS 2 copies that it was handed, and the copies in its session's queue
abbrev pub receiver_text : List ℕ → List ℕ → ℕ → List ℕ
receiver_text client handed queue =
    escaped client ++ codes " handed=" ++ numbers_text handed ++ codes " queue=" ++ decimal queue ++ line_feed ∷ []

-- the broker's publications, those that were accepted
unfoldable pub publications_text : ℕ → List ℕ
publications_text publications = codes "broker publications=" ++ decimal publications

-- the broker: its publications, and its sessions
abbrev pub broker_text : ℕ → ℕ → List ℕ
broker_text publications sessions =
    publications_text publications ++ codes " sessions=" ++ decimal sessions ++ line_feed ∷ []
