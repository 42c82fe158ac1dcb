use Rattle.std.proofs.Common.{◌≡◌, take}
use Rattle.session_replay.proofs.comparing.other_byte.Given as goal

abbrev pub invariant-loop-place : goal.invariant-loop-place
invariant-loop-place l = take l.place l.made ≡ take l.place l.told
