-- The bytes stand behind the last chunk, or fill it and begin the next one.
use Rattle.std.proofs.Common.{◌≡◌, ◌≢◌, ℕ, ◌+◌, ◌-◌, ◌<◌, ◌≤◌, List, [], ◌∷◌, ◌++◌, length, Result, Ok, Err, OnOk, OnErr, sym, ap, ◌∙◌, append_assoc, length-append, arith}
use Rattle.std.proofs.lemmas.Grind.{flat_map-append}
use Rattle.std.proofs.lemmas.List.{append-nil, length_push}
use Rattle.std.proofs.lemmas.Result.{err_from_is_err_and, on_err_weaker, on_ok_weaker}
use Rattle.bytes.specs.Filled.{Filled}
use Rattle.pg_outbox.specs.Chunks.{chunk_bytes, IsCut}
use Rattle.pg_outbox.proofs.Cuts.{AreWhole-push}
use Rattle.pg_outbox.proofs.outbox.Outbox.append_piece.Goals as goal

no_more : (k m : ℕ) → k ≡ m → m ≤ 65536 → k ≤ 65536
no_more k m e h = rw e h

no_less : (k n : ℕ) → k < n → k ≤ n
no_less k n h = omega arith

room_for_one : (k n : ℕ) → k + 1 ≤ n → k < n
room_for_one k n h = omega arith

-- bytes behind the last chunk, where they were appended
last_fits : {T E : Type 0} (r : Result T E) (l p m : List ℕ) (k : ℕ) → length l ≤ 65536 → k ≡ length l → length p ≤ 65536 - k
    → OnOk r (m ≡ l ++ p) → OnErr r (m ≡ l) → length m ≤ 65536
last_fits (Ok x) l p m k h e room ok err = omega (arith, ap length ok, length-append l p)
last_fits (Err x) l p m k h e room ok err = rw err h

behind : (front l p m out : List ℕ) → front ++ l ≡ out → m ≡ l ++ p → front ++ m ≡ out ++ p
behind front l p m out is e = ap (λ t. front ++ t) e ∙ sym (append_assoc front l p) ∙ ap (λ t. t ++ p) is

-- the chunks, with one that was filled
full : (l a f : List ℕ) (k : ℕ) → length l ≤ 65536 → k ≡ length l → f ≡ l ++ a → length a ≡ 65536 - k → length f ≡ 65536
full l a f k h e is long = omega (arith, ap length is, length-append l a)

cut_with : (cs ds : List Filled) (f : Filled) (l a b m p : List ℕ) (k n : ℕ) → IsCut cs l → ds ≡ cs ++ f ∷ [] → f.items ≡ l ++ a
    → m ≡ b → k ≡ length l → length a ≡ 65536 - k → length b + (65536 - k) ≡ length p → length p ≤ 65536
    → n ≡ length cs → n ≢ 4294967296 → IsCut ds m
cut_with cs ds f l a b m p k n i d e o at long rest short count few = record {
  whole = rw d (AreWhole-push cs f i.whole (full l a f.items k i.last at e long));
  last = rw o (omega arith);
  few = rw (d, length_push cs f) (omega (arith, i.few));
}

bytes_with : (cs ds : List Filled) (f : Filled) (l a b m p out : List ℕ) → chunk_bytes cs ++ l ≡ out → ds ≡ cs ++ f ∷ []
    → f.items ≡ l ++ a → m ≡ b → p ≡ a ++ b → chunk_bytes ds ++ m ≡ out ++ p
bytes_with cs ds f l a b m p out is d e o parts =
    let bytes : chunk_bytes ds ≡ chunk_bytes cs ++ f.items =
    ap chunk_bytes d ∙ flat_map-append (λ (chunk : Filled). chunk.items) cs (f ∷ []) ∙ ap (λ t. chunk_bytes cs ++ t) (append-nil f.items) in
    ap (λ t. t ++ m) (bytes ∙ behind (chunk_bytes cs) l a f.items out is e) ∙ ap (λ t. (out ++ a) ++ t) o
    ∙ append_assoc out a b ∙ ap (λ t. out ++ t) (sym parts)

pub overflow_sub-room : goal.overflow_sub-room
overflow_sub-room c = no_more _ _ c.len-room.ensures.value c.self.invariant.last

pub invariant_of-self : goal.invariant_of-self
invariant_of-self c = record {
  whole = c.self.invariant.whole;
  last = last_fits c.extend_from_slice.result c.self.inside.last.items c.args.piece.now c.extend_from_slice.new.self.items
      c.len-room.result c.self.invariant.last c.len-room.ensures.value c.if-piece-room.true
      c.extend_from_slice.ensures.ok c.extend_from_slice.ensures.err;
  few = c.self.invariant.few;
}

pub returns-then-piece-room-clause-ok : goal.returns-then-piece-room-clause-ok
returns-then-piece-room-clause-ok c =
    let chunks = chunk_bytes c.self.inside.whole.items in
    on_ok_weaker c.extend_from_slice.result (λ more. behind chunks c.self.inside.last.items c.args.piece.now
    c.extend_from_slice.new.self.items c.args.self.now c.self.view_is more) c.extend_from_slice.ensures.ok

pub returns-then-piece-room-clause-err : goal.returns-then-piece-room-clause-err
returns-then-piece-room-clause-err c =
    on_err_weaker c.extend_from_slice.result (λ same. ap (λ t. chunk_bytes c.self.inside.whole.items ++ t) same ∙ c.self.view_is)
    c.extend_from_slice.ensures.err

pub split_at-requires : goal.split_at-requires
split_at-requires c = no_less _ _ c.if-piece-room.false

pub invariant_of-self-in_err-next : goal.invariant_of-self-in_err-next
invariant_of-self-in_err-next c = c.self.invariant

pub returns-in_err-next : goal.returns-in_err-next
returns-in_err-next c =
    let p = err_from_is_err_and c.from_residual.result c.from_residual.ensures.1 in
    rw p.1 (record { ok = tt; err = c.self.view_is })

pub invariant_of-self-in_err-reserve : goal.invariant_of-self-in_err-reserve
invariant_of-self-in_err-reserve c = rw c.reserve.ensures.items c.self.invariant

pub returns-in_err-reserve : goal.returns-in_err-reserve
returns-in_err-reserve c =
    let p = err_from_is_err_and c.from_residual-in_err-reserve.result c.from_residual-in_err-reserve.ensures.1 in
    rw p.1 (record {
      ok = tt;
      err = ap (λ cs. chunk_bytes cs ++ c.self.inside.last.items) c.reserve.ensures.items ∙ c.self.view_is;
    })

pub invariant_of-self-in_err-extend_from_slice : goal.invariant_of-self-in_err-extend_from_slice
invariant_of-self-in_err-extend_from_slice c =
    rw (c.reserve.ensures.items, c.in_err-extend_from_slice.ensures.err) c.self.invariant

pub returns-in_err-extend_from_slice : goal.returns-in_err-extend_from_slice
returns-in_err-extend_from_slice c =
    let p = err_from_is_err_and c.from_residual-in_err-extend_from_slice.result c.from_residual-in_err-extend_from_slice.ensures.1 in
    rw p.1 (record {
      ok = tt;
      err = ap (λ cs. chunk_bytes cs ++ c.extend_from_slice-2.new.self.items) c.reserve.ensures.items
          ∙ ap (λ t. chunk_bytes c.self.inside.whole.items ++ t) c.in_err-extend_from_slice.ensures.err ∙ c.self.view_is;
    })

pub push_back_reserved-requires : goal.push_back_reserved-requires
push_back_reserved-requires c = room_for_one _ _ c.in_ok-reserve.ensures.ok

pub invariant_of-self-2 : goal.invariant_of-self-2
invariant_of-self-2 c =
    cut_with c.self.inside.whole.items c.push_back_reserved.new.self.items c.replace-filled.result c.self.inside.last.items
    c.split_at.result.0.now c.split_at.result.1.now c.replace-filled.new.dest.items c.args.piece.now c.len-room.result c.len.result
    c.self.invariant (c.push_back_reserved.ensures.items ∙ ap (λ cs. cs ++ c.replace-filled.result ∷ []) c.reserve.ensures.items)
    (ap (λ x. x.items) c.replace-filled.ensures.value ∙ c.in_ok-extend_from_slice.ensures.ok)
    (ap (λ x. x.items) c.replace-filled.ensures.after ∙ c.in_ok-next.ensures)
    c.len-room.ensures.value c.split_at.ensures.front_len c.split_at.ensures.back_len c.requires
    (c.len.ensures ∙ c.self.inside.whole.ok.0) c.if-len-eq-MOST_CHUNKS.false

pub returns-clause-ok : goal.returns-clause-ok
returns-clause-ok c =
    bytes_with c.self.inside.whole.items c.push_back_reserved.new.self.items c.replace-filled.result c.self.inside.last.items
    c.split_at.result.0.now c.split_at.result.1.now c.replace-filled.new.dest.items c.args.piece.now c.args.self.now
    c.self.view_is (c.push_back_reserved.ensures.items ∙ ap (λ cs. cs ++ c.replace-filled.result ∷ []) c.reserve.ensures.items)
    (ap (λ x. x.items) c.replace-filled.ensures.value ∙ c.in_ok-extend_from_slice.ensures.ok)
    (ap (λ x. x.items) c.replace-filled.ensures.after ∙ c.in_ok-next.ensures) c.split_at.ensures.by_index.0
