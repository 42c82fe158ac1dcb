use Rattle.std.proofs.Common.{◌∙◌, ◌++◌, List, ℕ, false, take, length, sym, ap, subst, inl, arith}
use Rattle.std.proofs.lemmas.List.{take-append-drop}
use Rattle.std.proofs.lemmas.Result.{err_from_is_err_and}
use Rattle.pg_messages.specs.declared.codec.FrameError.TheVariants as errors
use Rattle.pg_messages.specs.Frames.{IsBad, IsFrame, IsGoodHeader, IsUnfinished, told_len}
use Rattle.pg_messages.proofs.FrameLaws.{same_error}
use Rattle.pg_messages.proofs.typed.decode_typed.Goals as goal

pub message_in-requires-clause-kind : goal.message_in-requires-clause-kind
message_in-requires-clause-kind g c = ap (take 1) c.as_slice-2.ensures ∙ c.requires.kind

pub message_in-requires-clause-told : goal.message_in-requires-clause-told
message_in-requires-clause-told g c =
    let told = rw c.in-Some.is at c.in_ok-len.ensures.told in
    told.0 ∙ ap (told_len false) (c.as_slice.ensures ∙ sym c.as_slice-2.ensures)

pub message_in-requires-clause-there : goal.message_in-requires-clause-there
message_in-requires-clause-there g c =
    let told = rw c.in-Some.is at c.in_ok-len.ensures.told in
    omega (arith, told.1, ap length c.as_slice.ensures, ap length c.as_slice-2.ensures)

pub message_in-requires-clause-good : goal.message_in-requires-clause-good
message_in-requires-clause-good g c =
    let told = rw c.in-Some.is at c.in_ok-len.ensures.told in
    subst (IsGoodHeader false) (c.as_slice.ensures ∙ sym c.as_slice-2.ensures) told.2

pub advance-requires : goal.advance-requires
advance-requires g c =
    let told = rw c.in-Some.is at c.in_ok-len.ensures.told in
    omega (arith, told.1, ap length c.as_slice.ensures)

pub returns-in_err-len-clause-bad : goal.returns-in_err-len-clause-bad
returns-in_err-len-clause-bad g c e =
    let bad = c.in_err-len.ensures.bad in
    subst (IsBad false) c.as_slice.ensures (bad.0, inl bad.1)

pub returns-in_default-clause-none : goal.returns-in_default-clause-none
returns-in_default-clause-none g c =
    subst (IsUnfinished false) c.as_slice.ensures (rw c.in_default.is at c.in_ok-len.ensures.none)

pub returns-in_err-message-clause-bad : goal.returns-in_err-message-clause-bad
returns-in_err-message-clause-bad g c =
    let p = err_from_is_err_and c.from_residual-in_err-message.result c.from_residual-in_err-message.ensures.1 in
    rw (p.1, p.2) (λ e. subst (IsBad false) c.as_slice-2.ensures
    (c.in_err-message.ensures.bad (same_error c.in_err-message.field-0.0 errors.Bad e)))

pub returns-clause-found : goal.returns-clause-found
returns-clause-found g c =
    let items = c.args.src.now.items in
    let len = c.in-Some.len in (
      take len items,
      sym (take-append-drop len items) ∙ ap (λ (rest : List ℕ). take len items ++ rest) (sym c.advance.ensures.items),
      subst (λ (xs : List ℕ). IsFrame false (take len xs) (g.M.TypedMessage.message c.in_ok-message.message)) c.as_slice-2.ensures
          c.in_ok-message.ensures.found,
    )
