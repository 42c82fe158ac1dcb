use Rattle.std.proofs.Common.{◌≡◌, ℕ, ◌<◌, ◌≤◌, List, [], ◌∷◌, length, get_or, codes, Option, None, if◌then◌else◌, refl, ◌∙◌, arith}
use Rattle.std.specs.Str.{bytes_eq}
use Rattle.relation_words.specs.Listening.{place_of, bound_of, listening, listening_of}
use Rattle.relation_words.proofs.listening.read_listening.Goals as goal

-- what five words tell, each but the file by its text
five_words : (words : List (List ℕ)) (command kind place count a b c e : List ℕ) (bound : Option (Option ℕ))
    → 5 ≤ length words → length words < 6
    → command ≡ a → a ≡ get_or words 0 a → kind ≡ b → b ≡ get_or words 1 b → place ≡ c → c ≡ get_or words 2 c
    → count ≡ e → e ≡ get_or words 4 e → bound ≡ bound_of count
    → (if bytes_eq command (codes "listen") then listening (place_of kind place) bound else None) ≡ listening_of words
five_words [] _ _ _ _ _ _ _ _ _ least _ _ _ _ _ _ _ _ _ _ = absurd (omega arith)
five_words (_ ∷ []) _ _ _ _ _ _ _ _ _ least _ _ _ _ _ _ _ _ _ _ = absurd (omega arith)
five_words (_ ∷ _ ∷ []) _ _ _ _ _ _ _ _ _ least _ _ _ _ _ _ _ _ _ _ = absurd (omega arith)
five_words (_ ∷ _ ∷ _ ∷ []) _ _ _ _ _ _ _ _ _ least _ _ _ _ _ _ _ _ _ _ = absurd (omega arith)
five_words (_ ∷ _ ∷ _ ∷ _ ∷ []) _ _ _ _ _ _ _ _ _ least _ _ _ _ _ _ _ _ _ _ = absurd (omega arith)
five_words (_ ∷ _ ∷ _ ∷ _ ∷ _ ∷ []) command kind place count a b c e bound _ _ p0 q0 p1 q1 p2 q2 p4 q4 told =
    rw (told, p0 ∙ q0, p1 ∙ q1, p2 ∙ q2, p4 ∙ q4) refl
five_words (_ ∷ _ ∷ _ ∷ _ ∷ _ ∷ _ ∷ more) _ _ _ _ _ _ _ _ _ _ most _ _ _ _ _ _ _ _ _ = absurd (omega arith)

pub returns-in-len5 : goal.returns-in-len5
returns-in-len5 c =
    c.make_listening-in-len5.ensures
    ∙ five_words c.args.words.now c.as_str-in-len5-2.result.now c.as_str-in-len5-3.result.now c.as_str-in-len5-4.result.now
    c.as_str-in-len5.result.now
    c.command-item-then-words-lt6.result c.kind-item-then-words-lt6.result c.place-item-then-words-lt6.result c.count-item.result
    c.read_bound-count.result c.in-len5.len_at_least c.in-len5.len_below
    c.as_str-in-len5-2.ensures c.command-item-then-words-lt6.is c.as_str-in-len5-3.ensures c.kind-item-then-words-lt6.is
    c.as_str-in-len5-4.ensures c.place-item-then-words-lt6.is c.as_str-in-len5.ensures c.count-item.is c.read_bound-count.ensures
