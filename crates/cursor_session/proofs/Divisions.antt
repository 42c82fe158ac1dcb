-- The frames in front of a text, and of a text that goes on.
use Rattle.std.proofs.Common.{◌≡◌, ℕ, ◌+◌, ◌≤◌, Bool, true, false, List, [], ◌∷◌, ◌++◌, ◌⊎◌, inl, inr, length, refl, sym, ap, subst, ◌∙◌, append_assoc, append-nil, length-append, arith}
use Rattle.std.proofs.lemmas.List.{append_cancel_right, nil_from_length}
use Rattle.pg_messages.specs.declared.frontend.PgWireFrontendMessage.{PgWireFrontendMessage}
use Rattle.pg_messages.specs.Frames.{IsFrame, IsGoodHeader, DividesInto, awaits_startup_after, header_len, told_len}
use Rattle.pg_messages.proofs.OneReading.{front}

header_some : (b : Bool) → 1 ≤ header_len b
header_some true = omega arith
header_some false = omega arith

-- the rest stands behind the frames
divides_rest : (ms : List PgWireFrontendMessage) (b : Bool) (text rest : List ℕ) → DividesInto b text ms rest
    → (before : List ℕ) × (text ≡ before ++ rest)
divides_rest [] b text rest d = ([], d)
divides_rest (m ∷ ms) b text rest d =
    let i = divides_rest ms (awaits_startup_after m b) d.1 rest d.4 in
    (d.0 ++ i.0, d.2 ∙ ap (λ l. d.0 ++ l) i.1 ∙ sym (append_assoc d.0 i.0 rest))

-- frames that are there whatever follows are there
pub divides_cut : (ms : List PgWireFrontendMessage) (b : Bool) (text rest more : List ℕ) → DividesInto b (text ++ more) ms (rest ++ more)
    → DividesInto b text ms rest
divides_cut [] b text rest more d = append_cancel_right text rest more d
divides_cut (m ∷ ms) b text rest more d =
    let i = divides_rest ms (awaits_startup_after m b) d.1 (rest ++ more) d.4 in
    let mid = i.0 ++ rest in
    let others : d.1 ≡ mid ++ more = i.1 ∙ sym (append_assoc i.0 rest more) in (
      d.0,
      mid,
      append_cancel_right text (d.0 ++ mid) more (d.2 ∙ ap (λ l. d.0 ++ l) others ∙ sym (append_assoc d.0 mid more)),
      d.3,
      divides_cut ms (awaits_startup_after m b) mid rest more
          (subst (λ l. DividesInto (awaits_startup_after m b) l ms (rest ++ more)) others d.4),
    )

-- no bytes hold no frame
no_frames : (ms : List PgWireFrontendMessage) (b : Bool) (rest : List ℕ) → DividesInto b [] ms rest → (ms ≡ []) × (rest ≡ [])
no_frames [] b rest d = (refl, sym d)
no_frames (m ∷ ms) b rest d =
    let f = front b d.0 d.1 m d.3 in
    let size : 0 ≡ length d.0 + length d.1 = ap length d.2 ∙ length-append d.0 d.1 in
    absurd (omega (arith, size, f.header, header_some b))

-- The frames of a text, where its header tells at least as many bytes: none, or one and nothing behind it.
abbrev pub HasOne : Bool → List ℕ → ℕ → List PgWireFrontendMessage → List ℕ → Type 0
HasOne b text owed ms rest = ((ms ≡ []) × (text ≡ rest))
    ⊎ ((m : PgWireFrontendMessage) × (ms ≡ m ∷ []) × IsFrame b text m × (rest ≡ []) × (owed ≡ 0))

pub has_one : (b : Bool) (text : List ℕ) (owed : ℕ) (ms : List PgWireFrontendMessage) (rest : List ℕ)
    → (IsGoodHeader b text → told_len b text ≡ length text + owed) → DividesInto b text ms rest → HasOne b text owed ms rest
has_one b text owed [] rest told d = inl (refl, d)
has_one b text owed (m ∷ ms) rest told d =
    let f = front b d.0 d.1 m d.3 in
    let good : IsGoodHeader b text = subst (IsGoodHeader b) (sym d.2) f.good in
    let len : told_len b text ≡ length d.0 = ap (told_len b) d.2 ∙ f.told in
    let all : told_len b text ≡ length text + owed = told good in
    let both : length text ≡ length d.0 + length d.1 = ap length d.2 ∙ length-append d.0 d.1 in
    let none : d.1 ≡ [] = nil_from_length d.1 (omega (arith, len, all, both)) in
    let owes : owed ≡ 0 = omega (arith, len, all, both) in
    let whole : text ≡ d.0 = d.2 ∙ ap (λ l. d.0 ++ l) none ∙ append-nil d.0 in
    let last = no_frames ms (awaits_startup_after m b) rest (subst (λ l. DividesInto (awaits_startup_after m b) l ms rest) none d.4) in
    inr (m, ap (λ l. m ∷ l) last.0, subst (λ l. IsFrame b l m) (sym whole) d.3, last.1, owes)
