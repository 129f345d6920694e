-- What a server writes: where it listens, and that it is done (ours).
use Rattle.std.specs.Prelude.{ℕ, List, [], ◌∷◌, ◌++◌, Option, codes}
use Rattle.std.specs.Net.Text.{socket_text}
use Rattle.std.specs.declared.net.socket_addr.SocketAddr.{SocketAddr}
use Rattle.std.specs.Io.KnownBytes.{Appends}

abbrev pub line_feed : ℕ
line_feed = 0x0a

-- the line with an address
abbrev pub listening : SocketAddr → List ℕ
listening address = codes "listening " ++ socket_text address ++ line_feed ∷ []

abbrev pub done : List ℕ
done = codes "done" ++ line_feed ∷ []

-- a line with the address at which it listens was written, and then more
pub record Announces (old new : Option (List ℕ)) (more : List ℕ) : Type 0 where
  pub address : SocketAddr
  pub wrote : Appends old new (listening address ++ more)
