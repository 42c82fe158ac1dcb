use Rattle.std.proofs.Common.{◌≡◌, ℕ, ◌<◌, ◌≤◌, List, [], ◌∷◌, length, get_or, refl, ◌∙◌, arith}
use Rattle.handler_serving.specs.Orders.{of_more, of_three, of_four}
use Rattle.handler_serving.proofs.orders.order_of_more.Goals as goal

-- what three words behind the program's name order, each by its text
four_words : (words : List (List ℕ)) (command first second a b c : List ℕ) → 4 ≤ length words → length words < 5
    → command ≡ a → a ≡ get_or words 1 a → first ≡ b → b ≡ get_or words 2 b → second ≡ c → c ≡ get_or words 3 c
    → of_three command first second ≡ of_more words
four_words [] _ _ _ _ _ _ least _ _ _ _ _ _ _ = absurd (omega arith)
four_words (_ ∷ []) _ _ _ _ _ _ least _ _ _ _ _ _ _ = absurd (omega arith)
four_words (_ ∷ _ ∷ []) _ _ _ _ _ _ least _ _ _ _ _ _ _ = absurd (omega arith)
four_words (_ ∷ _ ∷ _ ∷ []) _ _ _ _ _ _ least _ _ _ _ _ _ _ = absurd (omega arith)
four_words (_ ∷ _ ∷ _ ∷ _ ∷ []) command first second a b c _ _ p1 q1 p2 q2 p3 q3 = rw (p1 ∙ q1, p2 ∙ q2, p3 ∙ q3) refl
four_words (_ ∷ _ ∷ _ ∷ _ ∷ _ ∷ more) _ _ _ _ _ _ _ most _ _ _ _ _ _ = absurd (omega arith)

-- what four words behind the program's name order, each by its text
five_words : (words : List (List ℕ)) (command first second third a b c d : List ℕ) → 5 ≤ length words → length words < 6
    → command ≡ a → a ≡ get_or words 1 a → first ≡ b → b ≡ get_or words 2 b → second ≡ c → c ≡ get_or words 3 c
    → third ≡ d → d ≡ get_or words 4 d
    → of_four command first second third ≡ of_more words
five_words [] _ _ _ _ _ _ _ _ least _ _ _ _ _ _ _ _ _ = absurd (omega arith)
five_words (_ ∷ []) _ _ _ _ _ _ _ _ least _ _ _ _ _ _ _ _ _ = absurd (omega arith)
five_words (_ ∷ _ ∷ []) _ _ _ _ _ _ _ _ least _ _ _ _ _ _ _ _ _ = absurd (omega arith)
five_words (_ ∷ _ ∷ _ ∷ []) _ _ _ _ _ _ _ _ least _ _ _ _ _ _ _ _ _ = absurd (omega arith)
five_words (_ ∷ _ ∷ _ ∷ _ ∷ []) _ _ _ _ _ _ _ _ least _ _ _ _ _ _ _ _ _ = absurd (omega arith)
five_words (_ ∷ _ ∷ _ ∷ _ ∷ _ ∷ []) command first second third a b c d _ _ p1 q1 p2 q2 p3 q3 p4 q4 =
    rw (p1 ∙ q1, p2 ∙ q2, p3 ∙ q3, p4 ∙ q4) refl
five_words (_ ∷ _ ∷ _ ∷ _ ∷ _ ∷ _ ∷ more) _ _ _ _ _ _ _ _ _ most _ _ _ _ _ _ _ _ = absurd (omega arith)

pub returns-in-len4 : goal.returns-in-len4
returns-in-len4 c =
    c.order_of_three.ensures
    ∙ four_words c.args.words.now c.as_str.result.now c.as_str-in-len4.result.now c.as_str-in-len4-2.result.now
    c.command-item.result c.first-item.result c.second-item.result c.in-len4.len_at_least c.in-len4.len_below
    c.as_str.ensures c.command-item.is c.as_str-in-len4.ensures c.first-item.is c.as_str-in-len4-2.ensures c.second-item.is

pub returns-in-len5 : goal.returns-in-len5
returns-in-len5 c =
    c.order_of_four.ensures
    ∙ five_words c.args.words.now c.as_str-in-len5.result.now c.as_str-in-len5-2.result.now c.as_str-in-len5-3.result.now
    c.as_str-in-len5-4.result.now
    c.command-item-then-words-lt6.result c.first-item-then-words-lt6.result c.second-item-then-words-lt6.result c.third-item.result
    c.in-len5.len_at_least c.in-len5.len_below
    c.as_str-in-len5.ensures c.command-item-then-words-lt6.is c.as_str-in-len5-2.ensures c.first-item-then-words-lt6.is
    c.as_str-in-len5-3.ensures c.second-item-then-words-lt6.is c.as_str-in-len5-4.ensures c.third-item.is
