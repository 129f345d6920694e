-- What a store is asked to keep, with what the types of the code give, is what rows can say.
use Rattle.std.specs.Prelude.{List, [], ◌∷◌}
use Rattle.mqtt_records.specs.declared.state.change.Change.{Change}
use Rattle.mqtt_records.specs.declared.state.change.Change.TheVariants.{PutWill, PutSubscription, PutCopy, PutRetained}
use Rattle.mqtt_records.specs.state.Saying.{PassesOn, AllPassOn}
use Rattle.mqtt_records.specs.state.Saying as asked
use Rattle.mqtt_store_database.specs.item_laws.Written.{IsSayable, AllSayable}

said : (change : Change) → asked.IsSayable change → PassesOn change → IsSayable change
said (PutWill birth will) say on = say
said (PutSubscription birth subscription) say on = say
said (PutCopy birth row) say on = record { passed = on; spelled = say.spelled; sent = say.sent }
said (PutRetained kept) say on = say
said change say on = tt

-- changes that a store is asked to keep, with the types of the code, are such that rows can say them
pub all_said : (changes : List Change) → asked.AllSayable changes → AllPassOn changes → AllSayable changes
all_said [] say on = tt
all_said (change ∷ changes) say on = (said change say.0 on.0, all_said changes say.1 on.1)
