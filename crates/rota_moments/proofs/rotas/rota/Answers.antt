-- A step leads to one moment more.
use Rattle.std.proofs.Common.{◌≡◌, ℕ, ◌<◌, ◌≤◌, List, [], ◌∷◌, ◌++◌, length, drop, get_or, All, Ok, Err, Some, refl, ◌∙◌, ap, sym, arith}
use Rattle.std.proofs.lemmas.List.{length-append, drop_all}
use Rattle.std.proofs.lemmas.List.Elements.{All-append, All-push, All-pop}
use Rattle.std.proofs.lemmas.Result.{err_from_is_err_and}
use Rattle.pg_interval.specs.declared.pg_interval.Interval.{Interval}
use Rattle.rota_moments.specs.declared.moment.Moment.{Moment}
use Rattle.rota_moments.specs.declared.moment.RangeError.{RangeError}
use Rattle.rota_moments.specs.Moments.{IsMoment, moment_after}
use Rattle.rota_moments.specs.Rotas.{moments_of}
use Rattle.rota_moments.proofs.RotaLemmas.{after_front, after_front-empty, moved_at, refused_at}
use Rattle.rota_moments.proofs.rotas.rota.Goals as goal

one_moment : (m : Moment) (moments : List Moment) → moments ≡ m ∷ [] → IsMoment m → All IsMoment moments
one_moment m moments e h = rw e (All-push IsMoment [] m (λ k d below. absurd (omega arith)) h)

last_valid : (front moments : List Moment) (last : Moment) → moments ≡ front ++ last ∷ [] → All IsMoment moments → IsMoment last
last_valid front moments last e h = (All-pop IsMoment moments front (Some last) e h).1

ended : (front moments : List Moment) (steps : List Interval) (start last : Moment) (j : ℕ) → length steps ≤ j
    → moments ≡ front ++ last ∷ [] → moments_of steps start ≡ after_front front (moments_of (drop j steps) last)
    → moments_of steps start ≡ Ok moments
ended front moments steps start last j h e so = so ∙ rw (drop_all j steps h, e) refl

refused : (front : List Moment) (steps : List Interval) (start last : Moment) (j : ℕ) (d : Interval) (reason : RangeError)
    → j < length steps → length front ≡ j → moments_of steps start ≡ after_front front (moments_of (drop j steps) last)
    → moment_after last (get_or steps j d) ≡ Err reason → moments_of steps start ≡ Err (record { place = j; reason = reason })
refused front steps start last j d reason h long so e =
    so ∙ refused_at front steps last j d reason h e ∙ rw long refl

pub loop-place-init : goal.loop-place-init
loop-place-init c =
    let one = c.in_ok-push.ensures.ok ∙ ap (λ ms. ms ++ c.args.start ∷ []) c.new-moments.ensures in
    ([], one, refl, after_front-empty _, one_moment c.args.start c.push.new.self one c.requires)

pub loop-place-preserved : goal.loop-place-preserved
loop-place-preserved c =
    let i = c.loop-place.invariant in
    let front = i.0 in
    let moved = moved_at front c.args.steps.now c.loop-place.last c.in-Ok.next c.loop-place.place _ c.loop-place-test.true
    (sym c.in-Ok.ensures.value) in (
      front ++ c.loop-place.last ∷ [],
      c.in_ok-push-2.ensures.ok ∙ ap (λ ms. ms ++ c.in-Ok.next ∷ []) i.1,
      omega (arith, length-append front (c.loop-place.last ∷ []), i.2),
      i.3 ∙ moved,
      rw c.in_ok-push-2.ensures.ok (All-append IsMoment c.loop-place.moments (c.in-Ok.next ∷ []) i.4 (grind (
        arith,
        c.in-Ok.ensures.valid,
      ))),
    )

pub add-requires : goal.add-requires
add-requires c =
    let i = c.loop-place.invariant in last_valid i.0 c.loop-place.moments c.loop-place.last i.1 i.4

pub returns-in_err-push : goal.returns-in_err-push
returns-in_err-push c =
    let p = err_from_is_err_and c.from_residual.result c.from_residual.ensures.1 in rw (p.1, p.2) (record { moments = tt; valid = tt })

pub returns-in_err-push-2 : goal.returns-in_err-push-2
returns-in_err-push-2 c =
    let r = c.from_residual-in_err-push-2 in let p = err_from_is_err_and r.result r.ensures.1 in
    rw (p.1, p.2) (record { moments = tt; valid = tt })

pub returns-in-Err : goal.returns-in-Err
returns-in-Err c =
    let i = c.loop-place.invariant in record {
      moments = refused i.0 c.args.steps.now c.args.start c.loop-place.last c.loop-place.place _ c.in-Err.reason c.loop-place-test.true
          i.2 i.3 (sym c.in-Err.ensures.value);
      valid = tt;
    }

pub returns : goal.returns
returns c =
    let i = c.loop-place.invariant in record {
      moments = ended i.0 c.loop-place.moments c.args.steps.now c.args.start c.loop-place.last c.loop-place.place c.loop-place-test.false
          i.1 i.3;
      valid = i.4;
    }
