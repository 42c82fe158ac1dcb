-- A live registration may make each call.
use Rattle.std.proofs.Common.{ℕ, List}
use Rattle.pg_cancel.specs.declared.entries.Entry.{Entry}
use Rattle.pg_cancel.specs.declared.entries.RegistryCall.{RegistryCall}
use Rattle.pg_cancel.specs.declared.entries.RegistryCall.TheVariants.{Register, Start, Ask, Cancel, Narrow, Unregister}
use Rattle.pg_cancel.specs.LegalHistory.{IsLive, MayCall}

pub live_may : (h : List Entry) (n : ℕ) (c : RegistryCall) → IsLive h n → MayCall h n c
live_may h n (Register pid key) live = tt
live_may h n Start live = live
live_may h n Ask live = live
live_may h n (Cancel pid key) live = live
live_may h n Narrow live = live
live_may h n Unregister live = live
