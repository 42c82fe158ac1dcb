-- Each step keeps the rule of the table.
use Rattle.std.proofs.Common.{◌≡◌, ◌≢◌, ℕ, zero, suc, ◌<◌, ◌==◌, List, [], ◌∷◌, ◌++◌, set, true, false, true≢false, refl, sym, ap, ◌∙◌, subst, ⊎_elim, arith}
use mathlib.Core.Option.{none, some, some-ne-none, some-injective}
use lib.ListN.{get_elem?}
use mathlib.Core.List.{IsPrefix}
use prog.Atomic.{either}
use Rattle.atomic_table.specs.Table.{Me, step, keeps, Allows, Splits, Joins, opening}
use Rattle.atomic_table.proofs.Lists.{at_set, at_snoc, set_again}
use Rattle.shared_history.specs.declared.seat.View.{View}
use Rattle.shared_history.specs.Seats.{Fits, IsInOrder, writer, reader, joined, grown, adds, compared}
use Rattle.shared_history.proofs.Prefixes.{prefix_self, prefix_more, prefix_one}

-- a table of one word has one
pub has_word : (words : ℕ) → words ≡ 1 → 0 < words
has_word words one = omega (arith, one)

off : false ≡ true → ⊥
off e = true≢false (sym e)

-- the views where one of them has changed
fits_set : {C : Type 0} (log : List C) (w : ℕ) (views : List (View C)) (by : ℕ) (v : View C)
    → ((j : ℕ) (u : View C) → j ≢ by → get_elem? views j ≡ some u → Fits log w j u) → Fits log w by v
    → (j : ℕ) (u : View C) → get_elem? (set views by v) j ≡ some u → Fits log w j u
fits_set {C} log w views by v others mine j u e =
    ⊎_elim
    (λ (x : (j ≡ by) × (v ≡ u)). subst (λ (y : ℕ × View C). Fits log w y.0 y.1) (λ i. (sym x.0 i, x.1 i)) mine)
    (λ (x : (j ≢ by) × (get_elem? views j ≡ some u)). others j u x.0 x.1)
    (at_set views by j v u e)

reader_fits : {C : Type 0} (log : List C) (w j : ℕ) (seen : List C) → IsPrefix seen log → Fits log w j (reader seen)
reader_fits log w j seen p = record { seen = p; told = (log, refl); writes = λ yes. absurd (off yes) }

-- a seat that isn't the writer's, once the writer has added a change
other_fits : {C : Type 0} (log : List C) (w j : ℕ) (v : View C) (change : C) → j ≢ w → Fits log w j v → Fits (log ++ change ∷ []) w j v
other_fits log w j v change apart f = record {
  seen = prefix_more v.seen log change f.seen;
  told = prefix_more v.told log change f.told;
  writes = λ yes. absurd (apart (f.writes yes).0);
}

pub begins : {C : Type 0} (words : List ℕ) → IsInOrder (opening {S = C} words [] (writer []))
begins {C} words = record { log = []; writer = 0; fits = one }
  where
    one : (j : ℕ) (v : View C) → get_elem? (writer [] ∷ []) j ≡ some v → Fits [] 0 j v
    one zero v e = subst (Fits [] 0 0) (some-injective _ _ e) (record { seen = ([], refl); told = ([], refl); writes = λ yes. (refl, refl) })
    one (suc j) v e = absurd (some-ne-none v (sym e))

pub adds_allowed : {C : Type 0} (slots id : ℕ) (me : Me C (View C)) (change : C) → me.0.writes ≡ true
    → Allows IsInOrder slots id me 0 (λ n. either (n == 0) 0 n) (adds (step slots 0 0 0 (some change)) me)
adds_allowed {C} slots id me change writes s h len at lt =
    let f = h.fits id me.0 at in
    let mine = f.writes writes in
    let w = grown me.0 change in
    let log = h.log ++ change ∷ [] in (
      w,
      keeps,
      tt,
      record {
        log = log;
        writer = h.writer;
        fits = fits_set log h.writer s.views id w
            (λ j u apart e. other_fits h.log h.writer j u change (λ same. apart (same ∙ sym mine.0)) (h.fits j u e))
            (record {
              seen = subst (λ l. IsPrefix (l ++ change ∷ []) log) (sym mine.1) (prefix_self log);
              told = prefix_more me.0.told h.log change f.told;
              writes = λ yes. (mine.0, ap (λ l. l ++ change ∷ []) mine.1);
            });
      },
      λ c said. ap (λ (x : C). (grown me.0 x, me.1)) (some-injective _ _ said),
    )

pub compare_allowed : {C : Type 0} (slots id : ℕ) (me : Me C (View C))
    → Allows IsInOrder slots id me 0 (λ n. n) (compared (step slots 0 0 0 none) me)
compare_allowed slots id me s h len at lt =
    let f = h.fits id me.0 at in (
      me.0,
      keeps,
      tt,
      record {
        log = h.log;
        writer = h.writer;
        fits = fits_set h.log h.writer s.views id me.0 (λ j u apart e. h.fits j u e) f;
      },
      (
        refl,
        prefix_one me.0.told me.0.seen h.log f.told f.seen,
        λ writes. subst (λ l. IsPrefix me.0.told l) (sym (f.writes writes).1) f.told,
      ),
    )

pub splits : {C : Type 0} (id : ℕ) (v : View C) → Splits {S = C} IsInOrder id v v (reader v.seen)
splits id v s h at = record {
  log = h.log;
  writer = h.writer;
  fits = λ j u e. ⊎_elim
      (λ was. h.fits j u (subst (λ l. get_elem? l j ≡ some u) (set_again s.views id v at) was))
      (λ (same : reader v.seen ≡ u). subst (Fits h.log h.writer j) same (reader_fits h.log h.writer j v.seen (h.fits id v at).seen))
      (at_snoc (set s.views id v) (reader v.seen) u j e);
}

pub joins : {C : Type 0} (id : ℕ) (v : View C) (other : ℕ) (w : View C) → Joins {S = C} IsInOrder id v other w (joined v w) (reader [])
joins id v other w s h at apart there =
    let x = joined v w in
    let mine = h.fits id v at in
    let theirs = ⊎_elim
    (λ (t : (other ≡ id) × (x ≡ w)). absurd (apart t.0))
    (λ (t : (other ≢ id) × (get_elem? s.views other ≡ some w)). h.fits other w t.1)
    (at_set s.views id other x w there) in
    let now = fits_set h.log h.writer s.views id x
    (λ j u _ e. h.fits j u e)
    (record { seen = mine.seen; told = theirs.seen; writes = mine.writes }) in record {
      log = h.log;
      writer = h.writer;
      fits = fits_set h.log h.writer (set s.views id x) other (reader [])
          (λ j u _ e. now j u e)
          (reader_fits h.log h.writer other [] (h.log, refl));
    }
