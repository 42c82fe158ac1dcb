-- What a client told of itself in its startup packet (protocol: Message Formats, StartupMessage).
use Rattle.std.specs.List.{AllByRecursion}
use Rattle.std.specs.FinMap as fin
use Rattle.pg_results.specs.declared.client.ClientInfo.{ClientInfo}
use Rattle.pg_results.specs.Texts.{IsShortText}

-- the names and values of the startup parameters are short
abbrev pub HasShortMetadata : ClientInfo → Type 0
HasShortMetadata client = AllByRecursion (λ e. IsShortText e.0 × IsShortText e.1) (fin.entries client.metadata)
