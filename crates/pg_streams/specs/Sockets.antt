-- What is counted of a connection over a socket.
use Rattle.std.specs.Prelude.{ℕ}
use Rattle.pg_streams.specs.declared.socket.MaybeTls.{MaybeTls}
use Rattle.pg_streams.specs.declared.socket.MaybeTls.TheVariants.{Plain, Unix}

-- the reads that gave at least one byte
abbrev pub reads_of : MaybeTls → ℕ
reads_of (Plain c) = c.reads
reads_of (Unix c) = c.reads

-- the calls that failed
abbrev pub faults_of : MaybeTls → ℕ
faults_of (Plain c) = c.faults
faults_of (Unix c) = c.faults

-- the bytes of the sends that didn't fail
abbrev pub sent_of : MaybeTls → ℕ
sent_of (Plain c) = c.sent
sent_of (Unix c) = c.sent
