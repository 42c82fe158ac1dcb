use Rattle.std.proofs.Common.{◌≡◌, ℕ, ◌%◌, List, [], ◌∷◌, ◌++◌, append_assoc}
use lib.Utf8.{encode}
use Rattle.std.proofs.lemmas.Result.{err_from_is_err_and, on_ok_weaker}
use Rattle.rota_moments.specs.declared.moment.Moment.{Moment}
use Rattle.rota_moments.specs.Calendar.{date_of}
use Rattle.rota_moments.specs.Texts.{clock_of, date_text, clock_text, fraction_text, moment_text}
use Rattle.rota_moments.proofs.moment.Moment.put.Goals as goal

moment_put : (m : Moment) (old a b c all : List ℕ) → a ≡ old ++ date_text (date_of m.day)
    → b ≡ a ++ 32 ∷ [] → c ≡ b ++ clock_text (clock_of m.micro) → all ≡ c ++ fraction_text (m.micro % 1000000)
    → all ≡ old ++ moment_text m
unfolding moment_text
moment_put m old a b c all ea eb ec eall = rw (eall, ec, eb, ea) (simp append_assoc)

pub returns-in_err-put_date : goal.returns-in_err-put_date
returns-in_err-put_date c =
    let p = err_from_is_err_and c.from_residual.result c.from_residual.ensures.1 in rw p.1 tt

pub returns-in_err-push : goal.returns-in_err-push
returns-in_err-push c =
    let p = err_from_is_err_and c.from_residual-in_err-push.result c.from_residual-in_err-push.ensures.1 in rw p.1 tt

pub returns-in_err-put_clock : goal.returns-in_err-put_clock
returns-in_err-put_clock c =
    let p = err_from_is_err_and c.from_residual-in_err-put_clock.result c.from_residual-in_err-put_clock.ensures.1 in rw p.1 tt

pub returns : goal.returns
unfolding encode
returns c =
    let m = c.args.self.now in
    on_ok_weaker c.put_fraction.result (λ last. moment_put m _ _ _ _ _ c.in_ok-put_date.ensures
    c.in_ok-push.ensures.bytes c.in_ok-put_clock.ensures last) c.put_fraction.ensures
