-- A recorder that was lent to somebody is known again by its origin.
use Rattle.std.proofs.Common.{◌≡◌, ◌∙◌, ℕ, ◌-◌, List, [], ◌∷◌, ◌++◌, Option, Some, None, refl, ap, sym, length, take, drop, arith}
use Rattle.std.proofs.Math.Seq.{take-append_seam, drop-append_seam}
use Rattle.pg_client.specs.declared.desk.DeskCall.{DeskCall}
use Rattle.session_recording.specs.Kept.{IsEndOf, told_numbers}

-- told numbers tell what is told
same_told : (told new_told : Option (List ℕ)) → told_numbers new_told ≡ told_numbers told → new_told ≡ told
same_told None None e = refl
same_told None (Some new_bytes) e = absurd (let f : ⊥ = cc in f)
same_told (Some bytes) None e = absurd (let f : ⊥ = cc in f)
same_told (Some bytes) (Some new_bytes) e = cc

-- the recorder of a source or of a sink is the same: over the same reference, with the same room, made when the same was told
pub record IsSameRecorder (name new_name room new_room : ℕ) (origin new_origin : List ℕ) (told new_told : Option (List ℕ)) : Type 0 where
  pub same_name : new_name ≡ name
  pub same_room : new_room ≡ room
  pub same_origin : new_origin ≡ origin
  pub same_told : new_told ≡ told

pub known_again : (name new_name room new_room : ℕ) (origin new_origin : List ℕ) (told new_told : Option (List ℕ))
    → new_name ∷ new_room ∷ length new_origin ∷ new_origin ++ told_numbers new_told
    ≡ name ∷ room ∷ length origin ∷ origin ++ told_numbers told
    → IsSameRecorder name new_name room new_room origin new_origin told new_told
known_again name new_name room new_room origin new_origin told new_told e =
    let one : new_name ≡ name = cc in
    let two : new_room ≡ room = cc in
    let long : length new_origin ≡ length origin = cc in
    let all : new_origin ++ told_numbers new_told ≡ origin ++ told_numbers told = cc in record {
      same_name = one;
      same_room = two;
      same_origin = sym (take-append_seam new_origin (told_numbers new_told)) ∙ ap (λ n. take n (new_origin ++ told_numbers new_told)) long
          ∙ ap (take (length origin)) all ∙ take-append_seam origin (told_numbers told);
      same_told = same_told told new_told (sym (drop-append_seam new_origin (told_numbers new_told))
          ∙ ap (λ n. drop n (new_origin ++ told_numbers new_told)) long ∙ ap (drop (length origin)) all
          ∙ drop-append_seam origin (told_numbers told));
    }

-- the recorder of a sink tells its counts before the rest
pub record IsSameSink (sent new_sent refused new_refused name new_name room new_room : ℕ) (origin new_origin : List ℕ)
    (told new_told : Option (List ℕ)) : Type 0 where
  pub same_sent : new_sent ≡ sent
  pub same_refused : new_refused ≡ refused
  pub same : IsSameRecorder name new_name room new_room origin new_origin told new_told

pub sink_known_again : (sent new_sent refused new_refused name new_name room new_room : ℕ) (origin new_origin : List ℕ)
    (told new_told : Option (List ℕ))
    → new_sent ∷ new_refused ∷ new_name ∷ new_room ∷ length new_origin ∷ new_origin ++ told_numbers new_told
    ≡ sent ∷ refused ∷ name ∷ room ∷ length origin ∷ origin ++ told_numbers told
    → IsSameSink sent new_sent refused new_refused name new_name room new_room origin new_origin told new_told
sink_known_again sent new_sent refused new_refused name new_name room new_room origin new_origin told new_told e = record {
  same_sent = cc;
  same_refused = cc;
  same = known_again name new_name room new_room origin new_origin told new_told (ap (drop 2) e);
}

-- two lists that are the same begin alike
pub same_head : (n new_n : ℕ) (rest new_rest : List ℕ) → new_n ∷ new_rest ≡ n ∷ rest → n ≡ new_n
same_head n new_n rest new_rest e = cc

-- The calls that were made since a desk is recorded are those that were kept: it was made over as many as before.
pub made_are_kept : (name new_name : ℕ) (rest new_rest : List ℕ) (calls new_calls made kept new_kept : List DeskCall)
    → new_name ∷ (length new_calls - length new_kept) ∷ new_rest ≡ name ∷ (length calls - length kept) ∷ rest → kept ≡ []
    → new_calls ≡ calls ++ made → IsEndOf new_calls new_kept → made ≡ new_kept
made_are_kept name new_name rest new_rest calls new_calls made kept new_kept e none grown last =
    let before : length new_calls - length new_kept ≡ length calls - length kept = cc in
    let place : length new_calls - length new_kept ≡ length calls = omega (arith, before, ap length none) in
    sym (drop-append_seam calls made) ∙ ap (drop (length calls)) (sym grown) ∙ ap (λ n. drop n new_calls) (sym place) ∙ last
