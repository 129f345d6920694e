-- What copies are told apart by, so that they can be put in order.
use Rattle.std.specs.Prelude.{ℕ, List, []}
use Rattle.std.specs.Borrow.{Bor}
use Rattle.mqtt_base.specs.declared.session.Cause.{Cause}
use Rattle.mqtt_base.specs.declared.session.Cause.TheVariants.{Direct, Share, Retained}
use Rattle.mqtt_base.specs.declared.session.CopyId.{CopyId}

-- publication, birth, which cause it is, subscribe and group
pub record CopyKey : Type 0 where
  pub publication : ℕ
  pub birth : ℕ
  pub kind : ℕ
  pub subscribe : ℕ
  pub group : List ℕ

abbrev pub kind_of : Cause → ℕ
kind_of Direct = 0
kind_of (Share group) = 1
kind_of (Retained subscribe) = 2

abbrev pub subscribe_of : Cause → ℕ
subscribe_of Direct = 0
subscribe_of (Share group) = 0
subscribe_of (Retained subscribe) = subscribe

abbrev pub group_of : Cause → List ℕ
group_of Direct = []
group_of (Share group) = group
group_of (Retained subscribe) = []

abbrev pub key_of : CopyId → CopyKey
key_of id = record {
  publication = id.publication;
  birth = id.birth;
  kind = kind_of id.cause;
  subscribe = subscribe_of id.cause;
  group = group_of id.cause;
}

-- the same as numbers and a lent text
abbrev pub value_of : ℕ × ℕ × ℕ × ℕ × Bor (List ℕ) → CopyKey
value_of (publication, birth, kind, subscribe, group) = record {
  publication = publication;
  birth = birth;
  kind = kind;
  subscribe = subscribe;
  group = group.now;
}
