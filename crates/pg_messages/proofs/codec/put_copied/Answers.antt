use Rattle.std.proofs.Common.{◌≡◌, ◌≤◌, ◌+◌, ◌∷◌, [], ◌++◌, ◌∙◌, ℕ, List, length, get_or, ap, append_assoc, length-append, arith}
use Rattle.pg_messages.specs.declared.copy.CopyData.{CopyData}
use Rattle.pg_messages.specs.declared.backend.PgWireBackendMessage.TheVariants as server
use Rattle.pg_messages.specs.Fields.{count32}
use Rattle.pg_messages.specs.Replies.{reply_bytes}
use Rattle.pg_messages.proofs.codec.put_copied.Goals as goal

abbrev head_of : List ℕ → List ℕ
head_of len = 100 ∷ get_or len 0 0 ∷ get_or len 1 0 ∷ get_or len 2 0 ∷ get_or len 3 0 ∷ []

copied_sent : (copied : CopyData) (before start mid out len bytes : List ℕ) → start ≡ before → len ≡ count32 (length bytes + 4)
    → mid ≡ start ++ head_of len → out ≡ mid ++ bytes → bytes ≡ copied.payload → out ≡ before ++ reply_bytes (server.CopyData copied)
copied_sent copied before start mid out len bytes a b d e f =
    let sum : length copied.payload + 4 ≡ 4 + length copied.payload = omega arith in
    rw (e, d, a, b, f) (append_assoc before (100 ∷ count32 (length copied.payload + 4)) copied.payload
    ∙ ap (λ (n : ℕ). before ++ (100 ∷ count32 n ++ copied.payload)) sum)

room_kept : (before start mid out head bytes : List ℕ) (room r1 r2 r3 : ℕ) → start ≡ before → mid ≡ start ++ head → out ≡ mid ++ bytes
    → room ≤ r1 → r2 + length head ≡ r1 → r3 + length bytes ≡ r2 → length before + room ≤ length out + r3
room_kept before start mid out head bytes room r1 r2 r3 a d e h h2 h3 = rw (e, d, a) (simp length-append (omega arith))

pub returns-clause-ok : goal.returns-clause-ok
returns-clause-ok c =
    copied_sent c.args.copied.now c.args.dst.now.items c.reserve.new.self.items c.extend_reserved.new.self.items
    c.extend_reserved-2.new.self.items c.to_be_bytes.result c.as_slice-bytes.result.now c.in_ok-reserve.ensures.items
    c.to_be_bytes.ensures c.extend_reserved.ensures.items c.extend_reserved-2.ensures.items c.as_slice-bytes.ensures

pub returns-clause-room : goal.returns-clause-room
returns-clause-room c =
    room_kept c.args.dst.now.items c.reserve.new.self.items c.extend_reserved.new.self.items c.extend_reserved-2.new.self.items
    (head_of c.to_be_bytes.result) c.as_slice-bytes.result.now c.args.dst.now.spare c.reserve.new.self.spare
    c.extend_reserved.new.self.spare c.extend_reserved-2.new.self.spare c.in_ok-reserve.ensures.items c.extend_reserved.ensures.items
    c.extend_reserved-2.ensures.items c.in_ok-reserve.ensures.spare.0 c.extend_reserved.ensures.spare c.extend_reserved-2.ensures.spare
