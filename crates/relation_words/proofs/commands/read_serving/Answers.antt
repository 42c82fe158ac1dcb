use Rattle.std.proofs.Common.{◌≡◌, ℕ, ◌<◌, ◌≤◌, List, [], ◌∷◌, length, get_or, codes, Option, None, if◌then◌else◌, refl, ◌∙◌, arith}
use Rattle.std.specs.Str.{bytes_eq}
use Rattle.relation_words.specs.Commands.{pid_of, service, service_of, turns_of}
use Rattle.relation_words.specs.Keys.{key_of}
use Rattle.relation_words.proofs.commands.read_serving.Goals as goal

-- what five words tell, each but the file by its text
five_words : (words : List (List ℕ)) (command pid key turns a b c e : List ℕ) (told : Option ℕ)
    → 5 ≤ length words → length words < 6
    → command ≡ a → a ≡ get_or words 0 a → pid ≡ b → b ≡ get_or words 2 b → key ≡ c → c ≡ get_or words 3 c
    → turns ≡ e → e ≡ get_or words 4 e → told ≡ turns_of turns
    → (if bytes_eq command (codes "serve") then service (pid_of pid) (key_of key) told else None) ≡ service_of words
five_words [] _ _ _ _ _ _ _ _ _ least _ _ _ _ _ _ _ _ _ _ = absurd (omega arith)
five_words (_ ∷ []) _ _ _ _ _ _ _ _ _ least _ _ _ _ _ _ _ _ _ _ = absurd (omega arith)
five_words (_ ∷ _ ∷ []) _ _ _ _ _ _ _ _ _ least _ _ _ _ _ _ _ _ _ _ = absurd (omega arith)
five_words (_ ∷ _ ∷ _ ∷ []) _ _ _ _ _ _ _ _ _ least _ _ _ _ _ _ _ _ _ _ = absurd (omega arith)
five_words (_ ∷ _ ∷ _ ∷ _ ∷ []) _ _ _ _ _ _ _ _ _ least _ _ _ _ _ _ _ _ _ _ = absurd (omega arith)
five_words (_ ∷ _ ∷ _ ∷ _ ∷ _ ∷ []) command pid key turns a b c e told _ _ p0 q0 p2 q2 p3 q3 p4 q4 is =
    rw (is, p0 ∙ q0, p2 ∙ q2, p3 ∙ q3, p4 ∙ q4) refl
five_words (_ ∷ _ ∷ _ ∷ _ ∷ _ ∷ _ ∷ more) _ _ _ _ _ _ _ _ _ _ most _ _ _ _ _ _ _ _ _ = absurd (omega arith)

pub returns-in-len5 : goal.returns-in-len5
returns-in-len5 c =
    c.make_serving-in-len5.ensures
    ∙ five_words c.args.words.now c.as_str-in-len5-2.result.now c.as_str-in-len5-3.result.now c.as_str-in-len5-4.result.now
    c.as_str-in-len5.result.now
    c.command-item-then-words-lt6.result c.pid-item-then-words-lt6.result c.key-item-then-words-lt6.result c.turns-item.result
    c.read_turns-turns.result c.in-len5.len_at_least c.in-len5.len_below
    c.as_str-in-len5-2.ensures c.command-item-then-words-lt6.is c.as_str-in-len5-3.ensures c.pid-item-then-words-lt6.is
    c.as_str-in-len5-4.ensures c.key-item-then-words-lt6.is c.as_str-in-len5.ensures c.turns-item.is c.read_turns-turns.ensures
