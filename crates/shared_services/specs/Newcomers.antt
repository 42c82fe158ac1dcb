-- What a client's handlers know that has just come to a world that many share.
use Rattle.std.specs.Prelude.{◌≡◌}
use Rattle.shared_worlds.specs.Sharing.{Known}
use Rattle.shared_worlds.specs.Worlds.{WorldTold, IsLegal}

-- a legal history of changes, which it may have seen; and nothing is its own yet
pub record IsNewcomer {P C O S : Type 0} (told : WorldTold P C O S) (known : Known C O) : Type 0 where
  pub seen : IsLegal told known.seen
  pub own : known.own ≡ told.first
