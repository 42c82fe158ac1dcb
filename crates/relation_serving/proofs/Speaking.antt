-- A client whose whole frames are those of a core conversation speaks as the core table does.
use Rattle.std.proofs.Common.{◌++◌, true, List, [], ◌∷◌, ℕ, sym, subst}
use Rattle.pg_messages.specs.declared.frontend.PgWireFrontendMessage.{PgWireFrontendMessage}
use Rattle.pg_messages.specs.declared.frontend.PgWireFrontendMessage.TheVariants as client
use Rattle.pg_messages.specs.Frames.{DividesInto, awaits_startup_after_all}
use Rattle.pg_messages.proofs.OneReading.{IsRest, one_division, has_division, division_joined, awaits_joined}
use Rattle.relation_tables.specs.Premises.{IsCoreConversation, AreCoreToTerminate, UnlessTerminate}
use Rattle.relation_serving.specs.Serving.{SpeaksCore}

unless_end : (m : PgWireFrontendMessage) (behind others : Type 0) → (behind → others) → UnlessTerminate m behind → UnlessTerminate m others
unless_end (client.Terminate m) behind others f h = tt
unless_end _ behind others f h = f h

front_to_end : (messages others : List PgWireFrontendMessage) → AreCoreToTerminate (messages ++ others) → AreCoreToTerminate messages
front_to_end [] others each = tt
front_to_end (m ∷ messages) others each =
    (each.0, unless_end m (AreCoreToTerminate (messages ++ others)) (AreCoreToTerminate messages) (front_to_end messages others) each.1)

core_front : (messages others : List PgWireFrontendMessage) → IsCoreConversation (messages ++ others) → IsCoreConversation messages
core_front [] others is = tt
core_front (client.Startup m ∷ messages) others is = λ served. front_to_end messages others (is served)
core_front (m ∷ messages) others is = absurd is

pub speaks : (text rest : List ℕ) (messages : List PgWireFrontendMessage) → DividesInto true text messages rest
    → IsRest (awaits_startup_after_all messages true) rest → IsCoreConversation messages → SpeaksCore text
speaks text rest messages divided left is front behind d =
    let more = has_division (awaits_startup_after_all front true) behind in
    let joined = division_joined front more.0 true text behind more.1 d more.2 in
    let last = subst (λ awaiting. IsRest awaiting more.1) (sym (awaits_joined front more.0 true)) more.3 in
    let one = one_division messages (front ++ more.0) true text rest more.1 divided left joined last in
    core_front front more.0 (subst IsCoreConversation one.0 is)
