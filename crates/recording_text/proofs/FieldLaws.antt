-- The fields of a recording: what is read is spelled so, and what is spelled so is read.
use Rattle.std.proofs.Common.{◌≡◌, ℕ, ℤ, zero, suc, ◌-◌, ◌^◌, ◌<◌, ◌≤◌, Bool, true, false, ◌&&◌, cond, eqb, ltb, leb, List, [], ◌∷◌, ◌++◌, length, take, drop, Ok, Err, refl, sym, ap, subst, ◌∙◌, append_assoc, arith}
use Rattle.std.specs.Prelude.{FitsSigned}
use Rattle.std.specs.List.{flat_map, AllByRecursion}
use Rattle.std.specs.Int.{Width, w16, w32, w64, byte_len, from_be_bytes, to_be_bytes, cast_signed, cast_unsigned}
use mir.Val.{bits}
use mir.ValLaws.{of_z_fits}
use Rattle.std.proofs.lemmas.Bool.{ltb-false, le-ltb, le-leb, leb-true, eqb-true, eq-eqb, and_parts}
use Rattle.std.proofs.lemmas.Int.{to_z-of_z, of_z-to_z}
use Rattle.std.proofs.Math.Facts.{sfits_to_z}
use Rattle.std.proofs.lemmas.List.{take_at, drop_at, take-append-drop, length-append, length-take}
use Rattle.std.proofs.lemmas.Nat.{be_bytes_8, from_be_bytes-to_be_bytes_8}
use Rattle.pg_messages.specs.Fields.{int32, count16, count32}
use Rattle.pg_messages.proofs.Laws.{IsBytes, IsBytes-behind, rest_fits}
use Rattle.pg_messages.proofs.FieldLaws.{IsWide, wide16, wide32, IsBytes-take}
use Rattle.pg_client.specs.declared.desk.DeskCall.{DeskCall}
use Rattle.pg_client.specs.declared.desk.DeskCall.TheVariants as desk
use Rattle.pg_client.specs.declared.ends.EndKind.{EndKind}
use Rattle.pg_client.specs.declared.ends.EndKind.TheVariants as end
use Rattle.recording_text.specs.declared.recording.ReadError.TheVariants.{Truncated, BadField}
use Rattle.recording_text.specs.Text.{count64, key_text, bytes_text, call_text, calls_text, end_byte, IsKey, IsCall}
use Rattle.recording_text.specs.Judging.{◌>>=◌, Reading, as_at, items_at, bytes_at, number_at, signed_at, number_is_at, key_len_at, key_at, counted_at, registration_at, cancel_of, call_at, calls_at, end_at}
use Rattle.recording_text.proofs.Laws.{Reads, bind_ok, guard_ok, pass_ok, done, ok_is, err_is_not, Reads-both, Reads-as, items_take, items_again}

-- ---- numbers

pub wide64 : IsWide w64 (2 ^ 64)
wide64 = record {
  len = λ n. refl;
  back = λ bytes len fits. be_bytes_8 bytes _ len fits refl;
  again = λ n lt. from_be_bytes-to_be_bytes_8 n lt;
  below = λ bytes fits. omega (arith, fits 0, fits 1, fits 2, fits 3, fits 4, fits 5, fits 6, fits 7);
}

number_takes : (w : Width) (limit : ℕ) (wide : IsWide w limit) (bytes : List ℕ) (n : ℕ) (rest : List ℕ) → IsBytes bytes
    → number_at w bytes ≡ Ok (n, rest) → (bytes ≡ to_be_bytes w n ++ rest) × (n < limit)
number_takes w limit wide bytes n rest fits e =
    let g = guard_ok (ltb (length bytes) (byte_len w)) Truncated (from_be_bytes w (take (byte_len w) bytes), drop (byte_len w) bytes) (
      n,
      rest,
    ) e in
    let long : byte_len w ≤ length bytes = ltb-false _ _ g.0 in
    let n-is : from_be_bytes w (take (byte_len w) bytes) ≡ n = ap (λ (p : ℕ × List ℕ). p.0) g.1 in
    let rest-is : drop (byte_len w) bytes ≡ rest = ap (λ (p : ℕ × List ℕ). p.1) g.1 in
    let front : to_be_bytes w n ≡ take (byte_len w) bytes =
    rw (← n-is) (wide.back (take (byte_len w) bytes) (omega (
      arith,
      length-take (byte_len w) bytes,
    )) (IsBytes-take (byte_len w) bytes fits)) in (
      rw (front, ← rest-is) (sym (take-append-drop (byte_len w) bytes)),
      rw (← n-is) (wide.below (take (byte_len w) bytes) (IsBytes-take (byte_len w) bytes fits)),
    )

number_again : (w : Width) (limit : ℕ) (wide : IsWide w limit) (n : ℕ) (rest : List ℕ) → n < limit
    → number_at w (to_be_bytes w n ++ rest) ≡ Ok (n, rest)
number_again w limit wide n rest lt =
    let len = wide.len n in
    let long : ltb (length (to_be_bytes w n ++ rest)) (byte_len w) ≡ false =
    le-ltb _ _ (omega (arith, length-append (to_be_bytes w n) rest)) in
    rw (long, take_at (to_be_bytes w n) rest (byte_len w) len, drop_at (to_be_bytes w n) rest (byte_len w) len, wide.again n lt) refl

pub Reads-number : (w : Width) (limit : ℕ) → IsWide w limit → Reads (λ (n : ℕ). n < limit) (λ (n : ℕ). to_be_bytes w n) (number_at w)
Reads-number w limit wide = record { takes = number_takes w limit wide; again = number_again w limit wide }

pub Reads-signed : (w : Width) → IsWide w (2 ^ bits w)
    → Reads (λ (z : ℤ). FitsSigned w z) (λ (z : ℤ). to_be_bytes w (cast_unsigned w z)) (signed_at w)
Reads-signed w wide =
    Reads-as (λ (n : ℕ). n < 2 ^ bits w) (λ (z : ℤ). FitsSigned w z) (λ (n : ℕ). to_be_bytes w n)
    (λ (z : ℤ). to_be_bytes w (cast_unsigned w z)) (number_at w) (cast_signed w) (cast_unsigned w)
    (λ n lt. (ap (to_be_bytes w) (of_z-to_z w n lt), sfits_to_z (record { fits = lt })))
    (λ z fits. (refl, to_z-of_z w z fits, (of_z_fits w z fits).fits))
    (Reads-number w (2 ^ bits w) wide)

-- a number that has to be this one
pub Reads-this : (w : Width) (limit : ℕ) → IsWide w limit → (n all : ℕ) → n < limit
    → Reads (λ (m : ℕ). m ≡ n) (λ (m : ℕ). to_be_bytes w m) (number_is_at w n all)
Reads-this w limit wide n all lt = record {
  takes = λ bytes m rest fits e.
      let a = bind_ok (number_at w bytes) (λ x. cond (eqb x.0 n) (Ok x) (Err (BadField (all - length bytes)))) (m, rest) e in
      let g = pass_ok (eqb a.0.0 n) (BadField (all - length bytes)) a.0 (m, rest) a.2 in
      let t = number_takes w limit wide bytes a.0.0 a.0.1 fits a.1 in
      subst (λ (x : ℕ × List ℕ). (bytes ≡ to_be_bytes w x.0 ++ x.1) × (x.0 ≡ n)) g.1 (t.0, eqb-true a.0.0 n g.0);
  again = λ m rest same.
      let same_test : eqb m n ≡ true = eq-eqb m n same in
      rw (number_again w limit wide m rest (subst (λ (k : ℕ). k < limit) (sym same) lt), same_test) refl;
}

-- the length of a key
Reads-key_len : (all : ℕ) → Reads (λ (n : ℕ). (4 ≤ n) × (n ≤ 256)) (λ (n : ℕ). count16 n) (key_len_at all)
Reads-key_len all = record {
  takes = λ bytes n rest fits e.
      let a = bind_ok (number_at w16 bytes) (λ x. cond (leb 4 x.0 && leb x.0 256) (Ok x) (Err (BadField (all - length bytes)))) (n, rest) e in
      let g = pass_ok (leb 4 a.0.0 && leb a.0.0 256) (BadField (all - length bytes)) a.0 (n, rest) a.2 in
      let t = number_takes w16 (2 ^ 16) wide16 bytes a.0.0 a.0.1 fits a.1 in
      let parts = and_parts (leb 4 a.0.0) (leb a.0.0 256) g.0 in
      subst (λ (x : ℕ × List ℕ). (bytes ≡ count16 x.0 ++ x.1) × ((4 ≤ x.0) × (x.0 ≤ 256))) g.1 (t.0, (leb-true _ _ parts.0, leb-true _ _ parts.1));
  again = λ n rest good.
      rw (number_again w16 (2 ^ 16) wide16 n rest (omega (arith, good.1)), le-leb _ _ good.0, le-leb _ _ good.1) refl;
}

-- ---- bytes

bytes_take : (n : ℕ) (bytes front rest : List ℕ) → bytes_at n bytes ≡ Ok (front, rest) → (bytes ≡ front ++ rest) × (length front ≡ n)
bytes_take n bytes front rest e =
    let g = guard_ok (ltb (length bytes) n) Truncated (take n bytes, drop n bytes) (front, rest) e in
    let long : n ≤ length bytes = ltb-false _ _ g.0 in
    let len : length (take n bytes) ≡ n = omega (arith, length-take n bytes) in
    subst (λ (x : List ℕ × List ℕ). (bytes ≡ x.0 ++ x.1) × (length x.0 ≡ n)) g.1 (sym (take-append-drop n bytes), len)

bytes_again : (n : ℕ) (front rest : List ℕ) → length front ≡ n → bytes_at n (front ++ rest) ≡ Ok (front, rest)
bytes_again n front rest len =
    let long : ltb (length (front ++ rest)) n ≡ false = le-ltb _ _ (omega (arith, length-append front rest)) in
    rw (long, take_at front rest n len, drop_at front rest n len) refl

-- a number, and as many bytes behind it
Reads-behind : (Good : ℕ → Type 0) (s : ℕ → List ℕ) (r : Reading ℕ) → Reads Good s r
    → Reads (λ (front : List ℕ). Good (length front)) (λ (front : List ℕ). s (length front) ++ front) (λ bytes. r bytes
    >>= λ n. bytes_at n.0 n.1)
Reads-behind Good s r base = record {
  takes = λ bytes front rest fits e.
      let a = bind_ok (r bytes) (λ n. bytes_at n.0 n.1) (front, rest) e in
      let one = base.takes bytes a.0.0 a.0.1 fits a.1 in
      let two = bytes_take a.0.0 a.0.1 front rest a.2 in
      let parts : bytes ≡ (s a.0.0 ++ front) ++ rest =
      one.0 ∙ ap (λ (x : List ℕ). s a.0.0 ++ x) two.0 ∙ sym (append_assoc (s a.0.0) front rest) in
      subst (λ (k : ℕ). (bytes ≡ (s k ++ front) ++ rest) × Good k) (sym two.1) (parts, one.1);
  again = λ front rest good.
      ap (λ (bytes : List ℕ). r bytes >>= λ n. bytes_at n.0 n.1) (append_assoc (s (length front)) front rest)
      ∙ rw (base.again (length front) (front ++ rest) good) (bytes_again (length front) front rest refl);
}

pub Reads-key : (all : ℕ) → Reads IsKey key_text (key_at all)
unfolding key_at
Reads-key all = Reads-behind (λ n. (4 ≤ n) × (n ≤ 256)) count16 (key_len_at all) (Reads-key_len all)

pub Reads-counted : Reads (λ (bytes : List ℕ). length bytes < 2 ^ 64) bytes_text counted_at
unfolding counted_at
Reads-counted = Reads-behind (λ n. n < 2 ^ 64) count64 (number_at w64) (Reads-number w64 (2 ^ 64) wide64)

-- ---- calls

pub Reads-registration : (all : ℕ) → Reads (λ (r : ℤ × List ℕ). FitsSigned w32 r.0
    × IsKey r.1) (λ (r : ℤ × List ℕ). int32 r.0 ++ key_text r.1) (registration_at all)
unfolding registration_at
Reads-registration all = Reads-both (λ (z : ℤ). FitsSigned w32 z) IsKey (λ (z : ℤ). int32 z) key_text (signed_at w32) (key_at all)
    (Reads-signed w32 wide32) (Reads-key all)

-- a call without more than its byte
bare : (byte : ℕ) (bytes : List ℕ) (made call : DeskCall) (rest : List ℕ) → (byte ∷ bytes ≡ call_text made ++ bytes) × IsCall made
    → done {A = DeskCall × List ℕ} (made, bytes) ≡ done (call, rest) → (byte ∷ bytes ≡ call_text call ++ rest) × IsCall call
bare byte bytes made call rest h e =
    let from : DeskCall × List ℕ = (made, bytes) in
    subst (λ (x : DeskCall × List ℕ). (byte ∷ bytes ≡ call_text x.0 ++ x.1) × IsCall x.0) (ok_is from (call, rest) e) h

-- a cancel call behind its byte
cancel_take : (all byte : ℕ) (told : Bool) (bytes : List ℕ) (call : DeskCall) (rest : List ℕ) → IsBytes (byte ∷ bytes)
    → ((r : ℤ × List ℕ) → call_text (cancel_of told r) ≡ byte ∷ int32 r.0 ++ key_text r.1)
    → as_at (cancel_of told) (registration_at all) bytes ≡ done (call, rest) → (byte ∷ bytes ≡ call_text call ++ rest) × IsCall call
cancel_take all byte told bytes call rest fits spelled e =
    let a = bind_ok (registration_at all bytes) (λ x. Ok (cancel_of told x.0, x.1)) (call, rest) e in
    let one = (Reads-registration all).takes bytes a.0.0 a.0.1 (IsBytes-behind (byte ∷ []) bytes fits) a.1 in
    let made : DeskCall × List ℕ = (cancel_of told a.0.0, a.0.1) in
    let parts : byte ∷ bytes ≡ call_text (cancel_of told a.0.0) ++ a.0.1 =
    ap (λ (x : List ℕ). byte ∷ x) one.0 ∙ ap (λ (x : List ℕ). x ++ a.0.1) (sym (spelled a.0.0)) in
    subst (λ (x : DeskCall × List ℕ). (byte ∷ bytes ≡ call_text x.0 ++ x.1) × IsCall x.0) (ok_is made (call, rest) a.2) (parts, one.1)

call_takes : (all : ℕ) (bytes : List ℕ) (call : DeskCall) (rest : List ℕ) → IsBytes bytes → call_at all bytes ≡ Ok (call, rest)
    → (bytes ≡ call_text call ++ rest) × IsCall call
unfolding call_at
call_takes all [] call rest fits e = absurd (err_is_not Truncated (call, rest) e)
call_takes all (zero ∷ bytes) call rest fits e = bare 0 bytes desk.Start call rest (refl, tt) e
call_takes all (suc zero ∷ bytes) call rest fits e = bare 1 bytes (desk.Ask false) call rest (refl, tt) e
call_takes all (suc (suc zero) ∷ bytes) call rest fits e = bare 2 bytes (desk.Ask true) call rest (refl, tt) e
call_takes all (suc (suc (suc zero)) ∷ bytes) call rest fits e = cancel_take all 3 false bytes call rest fits (λ r. refl) e
call_takes all (suc (suc (suc (suc zero))) ∷ bytes) call rest fits e = cancel_take all 4 true bytes call rest fits (λ r. refl) e
call_takes all (suc (suc (suc (suc (suc zero)))) ∷ bytes) call rest fits e = bare 5 bytes desk.Narrow call rest (refl, tt) e
call_takes all (suc (suc (suc (suc (suc (suc byte))))) ∷ bytes) call rest fits e =
    absurd (err_is_not (BadField (all - suc (length bytes))) (call, rest) e)

call_again : (all : ℕ) (call : DeskCall) (rest : List ℕ) → IsCall call → call_at all (call_text call ++ rest) ≡ Ok (call, rest)
unfolding call_at
call_again all desk.Start rest good = refl
call_again all (desk.Ask false) rest good = refl
call_again all (desk.Ask true) rest good = refl
call_again all (desk.Cancel pid key false) rest good = rw ((Reads-registration all).again (pid, key) rest good) refl
call_again all (desk.Cancel pid key true) rest good = rw ((Reads-registration all).again (pid, key) rest good) refl
call_again all desk.Narrow rest good = refl

pub Reads-call : (all : ℕ) → Reads IsCall call_text (call_at all)
Reads-call all = record { takes = call_takes all; again = call_again all }

pub Reads-calls : (all : ℕ) → Reads (λ (calls : List DeskCall). (length calls < 2 ^ 32)
    × AllByRecursion IsCall calls) calls_text (calls_at all)
unfolding calls_at
Reads-calls all = record {
  takes = λ bytes calls rest fits e.
      let a = bind_ok (number_at w32 bytes) (λ n. items_at (call_at all) n.0 n.1) (calls, rest) e in
      let one = number_takes w32 (2 ^ 32) wide32 bytes a.0.0 a.0.1 fits a.1 in
      let two = items_take IsCall call_text (call_at all) (Reads-call all) a.0.0 a.0.1 calls rest
      (rest_fits bytes (count32 a.0.0) a.0.1 one.0 fits) a.2 in
      let parts : bytes ≡ (count32 a.0.0 ++ flat_map call_text calls) ++ rest =
      one.0 ∙ ap (λ (x : List ℕ). count32 a.0.0 ++ x) two.0 ∙ sym (append_assoc (count32 a.0.0) (flat_map call_text calls) rest) in
      (parts ∙ ap (λ (k : ℕ). (count32 k ++ flat_map call_text calls) ++ rest) (sym two.1), (omega (arith, two.1, one.1), two.2));
  again = λ calls rest good.
      ap (calls_at all) (append_assoc (count32 (length calls)) (flat_map call_text calls) rest)
      ∙ rw (number_again w32 (2 ^ 32) wide32 (length calls) (flat_map call_text calls ++ rest) good.0)
      (items_again IsCall call_text (call_at all) (Reads-call all) calls rest good.1);
}

-- ---- the end

abbrev end_text : EndKind → List ℕ
end_text kind = end_byte kind ∷ []

ending : (byte : ℕ) (bytes : List ℕ) (made kind : EndKind) (rest : List ℕ) → byte ∷ bytes ≡ end_text made ++ bytes
    → done {A = EndKind × List ℕ} (made, bytes) ≡ Ok (kind, rest) → (byte ∷ bytes ≡ end_text kind ++ rest) × Unit {0}
ending byte bytes made kind rest h e =
    let from : EndKind × List ℕ = (made, bytes) in
    subst (λ (x : EndKind × List ℕ). (byte ∷ bytes ≡ end_text x.0 ++ x.1) × Unit {0}) (ok_is from (kind, rest) e) (h, tt)

end_takes : (all : ℕ) (bytes : List ℕ) (kind : EndKind) (rest : List ℕ) → IsBytes bytes → end_at all bytes ≡ Ok (kind, rest)
    → (bytes ≡ end_text kind ++ rest) × Unit {0}
unfolding end_at
end_takes all [] kind rest fits e = absurd (err_is_not Truncated (kind, rest) e)
end_takes all (zero ∷ bytes) kind rest fits e = ending 0 bytes end.Terminate kind rest refl e
end_takes all (suc zero ∷ bytes) kind rest fits e = ending 1 bytes end.InputEnd kind rest refl e
end_takes all (suc (suc zero) ∷ bytes) kind rest fits e = ending 2 bytes end.BadFrame kind rest refl e
end_takes all (suc (suc (suc zero)) ∷ bytes) kind rest fits e = ending 3 bytes end.Fatal kind rest refl e
end_takes all (suc (suc (suc (suc zero))) ∷ bytes) kind rest fits e = ending 4 bytes end.CancelServed kind rest refl e
end_takes all (suc (suc (suc (suc (suc byte)))) ∷ bytes) kind rest fits e =
    absurd (err_is_not (BadField (all - suc (length bytes))) (kind, rest) e)

end_again : (all : ℕ) (kind : EndKind) (rest : List ℕ) → Unit {0} → end_at all (end_text kind ++ rest) ≡ Ok (kind, rest)
unfolding end_at
end_again all end.Terminate rest good = refl
end_again all end.InputEnd rest good = refl
end_again all end.BadFrame rest good = refl
end_again all end.Fatal rest good = refl
end_again all end.CancelServed rest good = refl

pub Reads-end : (all : ℕ) → Reads (λ (kind : EndKind). Unit {0}) (λ (kind : EndKind). end_byte kind ∷ []) (end_at all)
Reads-end all = record { takes = end_takes all; again = end_again all }
