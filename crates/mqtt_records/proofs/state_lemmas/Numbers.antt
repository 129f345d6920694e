-- Numbers never fall.
use Rattle.std.proofs.Common.{ℕ, ◌≤◌, List, [], ◌∷◌, arith}
use Rattle.mqtt_records.specs.declared.state.session.Session.{Session}
use Rattle.mqtt_records.specs.declared.messages.message.RetainedMessage.{RetainedMessage}
use Rattle.mqtt_records.specs.declared.state.records.Records.{Records}
use Rattle.mqtt_records.specs.declared.state.change.Counter.{Counter}
use Rattle.mqtt_records.specs.declared.state.change.Counter.TheVariants.{Births, Publications, Subscribes, Autos, Moment}
use Rattle.mqtt_records.specs.declared.state.change.Change.{Change}
use Rattle.mqtt_records.specs.declared.state.change.Change.TheVariants.{SetCounter, PutSession, SetSession, RemoveSession, PutWill, RemoveWill, PutSubscription, RemoveSubscription, PutInbound, RemoveInbound, PutCopy, SetCopy, RemoveCopy, PutRetained, RemoveRetained}
use Rattle.mqtt_records.specs.state.Records.{changed, changed_all, counter_of, with_counter, Fits, FitAll}

-- other rows don't matter
counter_of-rows : (counter : Counter) (r : Records) (sessions : List Session) (retained : List RetainedMessage) → counter_of counter r ≤ counter_of counter (record r { sessions = sessions; retained = retained })
counter_of-rows Births r sessions retained = omega arith
counter_of-rows Publications r sessions retained = omega arith
counter_of-rows Subscribes r sessions retained = omega arith
counter_of-rows Autos r sessions retained = omega arith
counter_of-rows Moment r sessions retained = omega arith

-- the number that is set rises, and the others stay
counter_of-set : (counter set : Counter) (value : ℕ) (r : Records) → counter_of set r ≤ value → counter_of counter r ≤ counter_of counter (with_counter set value r)
counter_of-set Births Births value r le = le
counter_of-set Births Publications value r le = omega arith
counter_of-set Births Subscribes value r le = omega arith
counter_of-set Births Autos value r le = omega arith
counter_of-set Births Moment value r le = omega arith
counter_of-set Publications Births value r le = omega arith
counter_of-set Publications Publications value r le = le
counter_of-set Publications Subscribes value r le = omega arith
counter_of-set Publications Autos value r le = omega arith
counter_of-set Publications Moment value r le = omega arith
counter_of-set Subscribes Births value r le = omega arith
counter_of-set Subscribes Publications value r le = omega arith
counter_of-set Subscribes Subscribes value r le = le
counter_of-set Subscribes Autos value r le = omega arith
counter_of-set Subscribes Moment value r le = omega arith
counter_of-set Autos Births value r le = omega arith
counter_of-set Autos Publications value r le = omega arith
counter_of-set Autos Subscribes value r le = omega arith
counter_of-set Autos Autos value r le = le
counter_of-set Autos Moment value r le = omega arith
counter_of-set Moment Births value r le = omega arith
counter_of-set Moment Publications value r le = omega arith
counter_of-set Moment Subscribes value r le = omega arith
counter_of-set Moment Autos value r le = omega arith
counter_of-set Moment Moment value r le = le

counter_of-changed : (counter : Counter) (change : Change) (r : Records) → Fits change r → counter_of counter r ≤ counter_of counter (changed change r)
counter_of-changed counter (SetCounter set value) r fits = counter_of-set counter set value r fits.0
counter_of-changed counter (PutSession row) r fits = counter_of-rows counter r _ _
counter_of-changed counter (SetSession row) r fits = counter_of-rows counter r _ _
counter_of-changed counter (RemoveSession birth) r fits = counter_of-rows counter r _ _
counter_of-changed counter (PutWill birth will) r fits = counter_of-rows counter r _ _
counter_of-changed counter (RemoveWill birth) r fits = counter_of-rows counter r _ _
counter_of-changed counter (PutSubscription birth subscription) r fits = counter_of-rows counter r _ _
counter_of-changed counter (RemoveSubscription birth text) r fits = counter_of-rows counter r _ _
counter_of-changed counter (PutInbound birth identifier) r fits = counter_of-rows counter r _ _
counter_of-changed counter (RemoveInbound birth identifier) r fits = counter_of-rows counter r _ _
counter_of-changed counter (PutCopy birth row) r fits = counter_of-rows counter r _ _
counter_of-changed counter (SetCopy birth place phase) r fits = counter_of-rows counter r _ _
counter_of-changed counter (RemoveCopy birth place) r fits = counter_of-rows counter r _ _
counter_of-changed counter (PutRetained kept) r fits = counter_of-rows counter r _ _
counter_of-changed counter (RemoveRetained place) r fits = counter_of-rows counter r _ _

-- changes that fit lower no counter
pub counter_of-changed_all : (counter : Counter) (changes : List Change) (r : Records) → FitAll changes r → counter_of counter r ≤ counter_of counter (changed_all changes r)
counter_of-changed_all counter [] r fits = omega arith
counter_of-changed_all counter (change ∷ changes) r fits =
    let first = counter_of-changed counter change r fits.0 in
    let others = counter_of-changed_all counter changes (changed change r) fits.1 in
    omega (arith, first, others)
