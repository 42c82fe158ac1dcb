-- How many relations the words order.
use Rattle.std.proofs.Common.{◌≡◌, ◌≤◌, ℕ, Bool, true, false, List, [], ◌∷◌, Option, Some, None, cond, refl, subst}
use Rattle.std.specs.Prelude.{codes, option_map, ◌&&◌, nat_le}
use Rattle.std.specs.Option.{option_or}
use Rattle.std.specs.Str.{bytes_eq}
use Rattle.std.proofs.lemmas.Bool.{leb-true}
use Rattle.relation_words.specs.Numbers.{number_of, within}
use Rattle.relation_words.specs.Commands.{command_of, count_of, seed_of, load, load_of, service_of}
use Rattle.relation_words.specs.declared.commands.Command.TheVariants.{Serve, Demo}
use Rattle.relation_words.specs.declared.commands.Load.{Load}
use Rattle.relation_words.specs.declared.commands.Service.{Service}

and_right : (a b : Bool) → (a && b) ≡ true → b ≡ true
and_right true b h = h
and_right false b h = absurd (cc (h))

loaded : (seed count : Option ℕ) (l : Load) → load seed count ≡ Some l → count ≡ Some l.count
loaded None count l is = absurd (cc (is))
loaded (Some seed) None l is = absurd (cc (is))
loaded (Some seed) (Some count) l is = cc (is)

ordered : (s : Option Service) (d : Option Load) (l : Load) → option_or (option_map Serve s) (option_map Demo d) ≡ Some (Demo l)
    → d ≡ Some l
ordered (Some s) d l is = absurd (cc (is))
ordered None None l is = absurd (cc (is))
ordered None (Some d) l is = cc (is)

within_most : (least most : ℕ) (number : Option ℕ) (n : ℕ) → within least most number ≡ Some n → n ≤ most
within_most least most None n is = absurd (cc (is))
within_most least most (Some number) n is =
    go (nat_le least number && nat_le number most) refl is
  where
    go : (b : Bool) → (nat_le least number && nat_le number most) ≡ b → cond b (Some number) None ≡ Some n → n ≤ most
    go true good is = subst (λ k. k ≤ most) (cc (is)) (leb-true number most (and_right (nat_le least number) (nat_le number most) good))
    go false good is = absurd (cc (is))

-- so many relations at most
few_loaded : (words : List (List ℕ)) (l : Load) → load_of words ≡ Some l → l.count ≤ 10000
few_loaded [] l is = absurd (cc (is))
few_loaded (a ∷ []) l is = absurd (cc (is))
few_loaded (a ∷ b ∷ []) l is = absurd (cc (is))
few_loaded (a ∷ b ∷ c ∷ d ∷ words) l is = absurd (cc (is))
few_loaded (a ∷ b ∷ c ∷ []) l is = go (bytes_eq a (codes "demo")) is
  where
    go : (is_demo : Bool) → cond is_demo (load (seed_of b) (count_of c)) None ≡ Some l → l.count ≤ 10000
    go true is = within_most 0 10000 (number_of c) l.count (loaded (seed_of b) (count_of c) l is)
    go false is = absurd (cc (is))

pub few : (words : List (List ℕ)) (l : Load) → command_of words ≡ Some (Demo l) → l.count ≤ 10000
few words l is = few_loaded words l (ordered (service_of words) (load_of words) l is)
