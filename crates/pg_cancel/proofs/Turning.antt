-- Each step on the registry's table keeps its rule.
use Rattle.std.proofs.Common.{◌≡◌, ◌≢◌, ℕ, zero, suc, ◌+◌, ◌*◌, ◌%◌, ◌<◌, Bool, true, false, cond, ltb, eqb, List, [], ◌∷◌, ◌++◌, length, get_or, set, Option, Some, None, inl, inr, ⊎_elim, sym, refl, ap, ◌∙◌, subst, arith, length-set, get_or-set_same, eq-eqb, ne_eqb}
use Rattle.std.proofs.lemmas.Bool.{lt-ltb, ltb-true}
use Rattle.std.specs.Prelude.{◌==◌}
use mathlib.Core.Logic.{dite}
use mathlib.Core.Option.{some, none, some-injective}
use mathlib.Core.List.{IsPrefix}
use native.Mathlib.Decide.{ℕ_discrete}
use lib.ListN.{get_elem?}
use lib.Seq.{set-get_or}
use prog.Atomic.{either}
use Rattle.atomic_table.specs.Table.{State, Me, opening, step, keeps, takes, gives, stepped, Allows, Splits, Joins, rest}
use Rattle.atomic_table.proofs.Lists.{at_set, at_longer, set_here, set_else, set_again}
use Rattle.pg_cancel.specs.declared.entries.Entry.{Entry}
use Rattle.pg_cancel.specs.declared.entries.RegistryCall.{RegistryCall}
use Rattle.pg_cancel.specs.declared.entries.RegistryAnswer.{RegistryAnswer}
use Rattle.pg_cancel.specs.declared.roster.Roster.{Roster}
use Rattle.pg_cancel.specs.declared.seat.View.{View}
use Rattle.pg_cancel.specs.LegalHistory.{IsLegal, entry_of}
use Rattle.pg_cancel.specs.Index.{IsRosterOf}
use Rattle.pg_cancel.specs.Connections.{is_register}
use Rattle.pg_cancel.specs.RosterTable.{Fits, IsHome, IsApart, InTurn, MayMake, first_door, reader, holding, idle, grown, without_number, handle, longer, joined, looked, compared, took, publishes, releases}
use Rattle.pg_cancel.proofs.Histories.{last_pushed}
use Rattle.pg_cancel.proofs.Prefixes.{prefix_self, prefix_shorter, between_filter}
use Rattle.pg_cancel.proofs.Beginnings.{legal_prefix, no_stray}
use Rattle.pg_cancel.proofs.Views.{KeepsOthers, Answered, holding_fits, idle_fits, false_true, none_some, reader_fits, apart_same, apart_none, apart_more, at_end, seat_inside, grows_fits, grows_keeps, grows_free}

abbrev Sat : Type 0
Sat = Me Roster View

abbrev St : Type 0
St = State Roster View

-- ---- loads

stays : (s : St) (r : InTurn s) (id : ℕ) (m : Sat) → get_elem? s.views id ≡ some m.0
    → InTurn (stepped s 0 (get_or s.words 0 0) id m.1 m.0 keeps)
stays s r id m at =
    let words : set s.words 0 (get_or s.words 0 0) ≡ s.words = set-get_or s.words 0 0 in
    let views : set s.views id m.0 ≡ s.views = set_again s.views id m.0 at in
    subst (λ (z : List ℕ × List View). InTurn record { words = z.0; homes = s.homes; views = z.1 }) (λ i. (sym words i, sym views i)) r

pub looks : (slots id : ℕ) (m : Sat) → Allows InTurn slots id m 0 (λ n. n) (looked (step slots 0 0 0 none) m)
looks slots id m s r _ at _ = (m.0, keeps, tt, stays s r id m at, refl)

pub compares : (slots id : ℕ) (m : Sat) → Allows InTurn slots id m 0 (λ n. n) (compared (step slots 0 0 0 none) m)
compares slots id m s r _ at _ =
    let f = r.fits id m.0 at in
    (m.0, keeps, tt, stays s r id m at, (refl, f.told, legal_prefix m.0.seen r.log f.seen r.legal, λ k is. (f.own k is).seen))

-- ---- the turn is taken

-- no seat has the turn while the registry is at home
nobody : (s : St) (r : InTurn s) → IsHome (get_or s.words 0 0) s.homes r.log → (j : ℕ) (v : View) (h : List Entry)
    → get_elem? s.views j ≡ some v → v.turn ≡ Some h → ⊥
nobody s r home j v h at has = let t = r.turn j v at h has in let e = t.2 in let f = home.0 in omega arith

taken : (s : St) (r : InTurn s) (id : ℕ) (v : View) (new : ℕ) → IsHome (get_or s.words 0 0) s.homes r.log → 0 < length s.homes
    → get_elem? s.views id ≡ some v → new ≡ 2 * length r.log + 1
    → InTurn record { words = set s.words 0 new; homes = set s.homes 0 none; views = set s.views id (holding v r.log) }
taken s r id v new home inside at is =
    let wide = r.width in
    let now : get_or (set s.words 0 new) 0 0 ≡ 2 * length r.log + 1 = get_or-set_same s.words 0 new 0 (omega arith) ∙ is in
    let w : View = holding v r.log in record {
      log = r.log;
      holder = id;
      width = length-set s.words 0 new ∙ r.width;
      legal = r.legal;
      strays = r.strays;
      place = inr (now, set_here s.homes 0 none inside, (w, set_here s.views id w (seat_inside s.views id v at), refl));
      fits = λ j a e. ⊎_elim
          (λ t. subst (Fits r.log) t.1 (holding_fits r.log r.log v (r.fits id v at)))
          (λ t. r.fits j a t.1)
          (at_set s.views id j w a e);
      turn = λ j a e h has. ⊎_elim
          (λ t. (
            t.0,
            (let same : ◌≡◌ {A = Option (List Entry)} (Some r.log) (Some h) = ap (λ (u : View). u.turn) t.1 ∙ has in cc
                (same)),
            now,
          ))
          (λ t. absurd (nobody s r home j a h t.1 has))
          (at_set s.views id j w a e);
      apart = apart_same s.views id v w at refl refl r.apart;
    }

-- the word is even, so the registry is at home
is_home : (s : St) (r : InTurn s) → get_or s.words 0 0 % 2 ≡ 0 → IsHome (get_or s.words 0 0) s.homes r.log
is_home s r even = ⊎_elim (λ home. home) (λ out. let e = out.0 in absurd (omega arith)) r.place

pub takes_turn : (slots id : ℕ) (m : Sat) (old : ℕ) → slots ≡ 1 → old % 2 ≡ 0
    → Allows InTurn slots id m 0 (λ n. either (eqb n old) (old + 1) n) (took (step slots 0 old (old + 1) none) m)
takes_turn slots id m old one even s r wide at _ = dite (ℕ_discrete (get_or s.words 0 0) old)
    (λ hit.
    let home = is_home s r (subst (λ n. n % 2 ≡ 0) (sym hit) even) in
    let count : old ≡ 2 * length r.log = sym hit ∙ home.0 in
    let next : old + 1 ≡ 2 * length r.log + 1 = omega arith in (
      holding m.0 r.log,
      takes 0 home.1.0,
      home.1.1,
      subst (λ b. InTurn (stepped s 0 (either b (old + 1) (get_or s.words 0 0)) id m.1 (holding m.0 r.log) (takes 0 home.1.0)))
          (sym (eq-eqb (get_or s.words 0 0) old hit))
          (taken s r id m.0 (old + 1) home (omega arith) at next),
      (
        (λ _. record {
          log = r.log;
          roster = home.1.0;
          is = refl;
          counted = home.0;
          right = home.1.2;
          legal = r.legal;
          fits = r.fits id m.0 at;
        }),
        λ not. absurd (not hit),
      ),
    ))
    (λ miss. (
      m.0,
      keeps,
      tt,
      subst (λ b. InTurn (stepped s 0 (either b (old + 1) (get_or s.words 0 0)) id m.1 m.0 keeps))
          (sym (ne_eqb (get_or s.words 0 0) old miss)) (stays s r id m at),
      ((λ hit. absurd (miss hit)), λ _. refl),
    ))

-- ---- the turn is given back

abbrev last_of : List (ℕ × Roster) → Option Entry
last_of [] = None
last_of (x ∷ xs) = x.1.last

given_back : (s : St) (r : InTurn s) (id : ℕ) (v w : View) (before after : List Entry) (roster : Roster) → 0 < length s.homes
    → get_elem? s.views id ≡ some v
    → v.turn ≡ Some before → w.turn ≡ None → IsLegal after → IsRosterOf after roster → (IsLegal before → Fits before v → Fits after w)
    → KeepsOthers id v w before after
    → InTurn record { words = set s.words 0 (2 * length after); homes = set s.homes 0 (some roster); views = set s.views id w }
given_back s r id v w before after roster inside at has done legal right mine keep =
    let wide = r.width in
    let now : get_or (set s.words 0 (2 * length after)) 0 0 ≡ 2 * length after =
    get_or-set_same s.words 0 (2 * length after) 0 (omega arith) in
    let me = r.turn id v at before has in
    let fit = mine (subst IsLegal (sym me.1) r.legal) (subst (λ h. Fits h v) (sym me.1) (r.fits id v at)) in
    let others = keep s.views at r.apart (λ j a e. subst (λ h. Fits h a) (sym me.1) (r.fits j a e)) in record {
      log = after;
      holder = id;
      width = length-set s.words 0 (2 * length after) ∙ r.width;
      legal = legal;
      strays = no_stray after legal;
      place = inl (now, (roster, set_here s.homes 0 (some roster) inside, right));
      fits = λ j a e. ⊎_elim (λ t. subst (Fits after) t.1 fit) (λ t. others.1 j a t.0 t.1) (at_set s.views id j w a e);
      turn = λ j a e h is. ⊎_elim
          (λ t. none_some h (sym done ∙ (ap (λ (u : View). u.turn) t.1 ∙ is)))
          (λ t. absurd (let not = t.0 in not ((r.turn j a t.1 h is).0 ∙ sym me.0)))
          (at_set s.views id j w a e);
      apart = others.0;
    }

gives_turn : (slots id : ℕ) (m : Sat) (new : ℕ) (w : View) (before after : List Entry) (roster : Roster) (tell : Sat → Type 0) → slots ≡ 1
    → m.0.turn ≡ Some before
    → m.1 ≡ (0, roster) ∷ [] → new ≡ 2 * length after → w.turn ≡ None → IsLegal after → IsRosterOf after roster
    → (IsLegal before → Fits before m.0 → Fits after w)
    → KeepsOthers id m.0 w before after → tell (w, []) → Allows InTurn slots id m 0 (λ _. new) (λ _. tell)
gives_turn slots id m new w before after roster tell one has slot count done legal right mine keep told s r wide at _ = (
  w,
  gives,
  tt,
  subst (λ (z : ℕ × List (ℕ × Roster)). InTurn (stepped s 0 z.0 id z.1 w gives)) (λ i. (sym count i, sym slot i))
      (given_back s r id m.0 w before after roster (omega arith) at has done legal right mine keep),
  subst (λ (l : List (ℕ × Roster)). tell (w, l)) (sym (ap (λ l. rest l) slot)) told,
)

same_turn : (m : Sat) (before b : List Entry) → m.0.turn ≡ Some before → m.0.turn ≡ Some b → before ≡ b
same_turn m before b has is = let e : ◌≡◌ {A = Option (List Entry)} (Some before) (Some b) = sym has ∙ is in cc (e)

same_last : (e f : Entry) (o p : Option Entry) → o ≡ Some e → p ≡ Some f → o ≡ p → e ≡ f
same_last e f o p first second same = let ends : Some e ≡ Some f = sym first ∙ (same ∙ second) in cc (ends)

-- the store that makes an event
pub publishes_turn : (slots id : ℕ) (m : Sat) (new : ℕ) (before : List Entry) (roster : Roster) (number : ℕ) (call : RegistryCall)
    (answer : RegistryAnswer) → slots ≡ 1 → m.0.turn ≡ Some before → m.1 ≡ (0, roster) ∷ [] → new ≡ roster.count * 2
    → IsRosterOf (before ++ entry_of before number call answer ∷ []) roster
    → MayMake m.0 number call → Answered before number call answer
    → Allows InTurn slots id m 0 (λ _. new) (λ _. publishes (step slots 0 new 0 none) m new)
publishes_turn slots id m new before roster number call answer one has slot word right may x =
    let e = entry_of before number call answer in
    let counted = right.count in
    let last : roster.last ≡ Some e = right.last ∙ last_pushed None before e in
    let count : new ≡ 2 * length (before ++ e ∷ []) = omega (arith, word, counted) in
    gives_turn slots id m new (grown m.0 before e) before (before ++ e ∷ []) roster (publishes (step slots 0 new 0 none) m new) one has slot
    count
    (grows_free m.0 before number call answer x.told) x.legal right (λ legal f. grows_fits m.0 before number call answer may x legal f)
    (grows_keeps id m.0 before number call answer may x.told)
    (λ b y f is_b is_y is_f.
    let same : before ≡ b = same_turn m before b has is_b in
    let ends : e ≡ f = same_last e f roster.last y.last last is_f (ap last_of (sym slot ∙ is_y)) in
    λ i. (grown m.0 (same i) (ends i), []))

-- the store that makes none
idle_keeps : (id : ℕ) (v : View) (h : List Entry) → KeepsOthers id v (idle v) h h
idle_keeps id v h views at apart fits = (apart_same views id v (idle v) at refl refl apart, λ j a other e. fits j a e)

pub releases_turn : (slots id : ℕ) (m : Sat) (new : ℕ) (before : List Entry) (roster : Roster) → slots ≡ 1 → m.0.turn ≡ Some before
    → m.1 ≡ (0, roster) ∷ [] → new ≡ roster.count * 2 → IsRosterOf before roster → IsLegal before
    → Allows InTurn slots id m 0 (λ _. new) (λ _. releases (step slots 0 new 0 none) m new)
releases_turn slots id m new before roster one has slot word right legal =
    let counted = right.count in
    let count : new ≡ 2 * length before = omega (arith, word, counted) in
    gives_turn slots id m new (idle m.0) before before roster (releases (step slots 0 new 0 none) m new) one has slot count refl legal right
    (λ _ f. idle_fits before m.0 f) (idle_keeps id m.0 before) (λ y is_y. refl)

-- ---- seats

not_holder : (s : St) (id : ℕ) (v : View) → get_elem? s.views id ≡ some v → v.turn ≡ None → (log : List Entry) (u : View)
    → get_elem? s.views id ≡ some u → u.turn ≡ Some log → ⊥
not_holder s id v at free log u at_u has = none_some log (sym free ∙ (ap (λ (x : View). x.turn) (some-injective v u (sym at ∙ at_u)) ∙ has))

-- a seat that doesn't have the turn changes its view
abbrev changes : (s : St) (r : InTurn s) (id : ℕ) (v w : View) → get_elem? s.views id ≡ some v → v.turn ≡ None → w.turn ≡ None
    → Fits r.log w → IsApart (set s.views id w) → InTurn record { words = s.words; homes = s.homes; views = set s.views id w }
changes s r id v w at free done fits apart = record {
  log = r.log;
  holder = r.holder;
  width = r.width;
  legal = r.legal;
  strays = r.strays;
  place = ⊎_elim (λ home. inl home)
      (λ out. inr (
        out.0,
        out.1,
        (
          out.2.0,
          set_else s.views id r.holder w
              (λ same. not_holder s id v at free r.log out.2.0 (subst (λ k. get_elem? s.views k ≡ some out.2.0) same out.2.1) out.2.2)
              ∙ out.2.1,
          out.2.2,
        ),
      )) r.place;
  fits = λ j a e. ⊎_elim (λ t. subst (Fits r.log) t.1 fits) (λ t. r.fits j a t.1) (at_set s.views id j w a e);
  turn = λ j a e h is. ⊎_elim (λ t. none_some h (sym done ∙ (ap (λ (u : View). u.turn) t.1 ∙ is))) (λ t. r.turn j a t.1 h is)
      (at_set s.views id j w a e);
  apart = apart;
}

-- a new seat
arrives : (s : St) (r : InTurn s) (w : View) → w.turn ≡ None → Fits r.log w → IsApart (s.views ++ w ∷ [])
    → InTurn record { words = s.words; homes = s.homes; views = s.views ++ w ∷ [] }
arrives s r w done fits apart = record {
  log = r.log;
  holder = r.holder;
  width = r.width;
  legal = r.legal;
  strays = r.strays;
  place = ⊎_elim (λ home. inl home)
      (λ out. inr (out.0, out.1, (out.2.0, at_longer s.views (w ∷ []) r.holder out.2.0 out.2.1, out.2.2))) r.place;
  fits = λ j a e. ⊎_elim (λ t. r.fits j a t) (λ t. subst (Fits r.log) t.1 fits) (at_end s.views w a j e);
  turn = λ j a e h is. ⊎_elim (λ t. r.turn j a t h is) (λ t. none_some h (sym done ∙ (ap (λ (u : View). u.turn) t.1 ∙ is)))
      (at_end s.views w a j e);
  apart = apart;
}

pub copies : (id : ℕ) (v : View) → Splits InTurn id v v (reader v.seen)
copies id v s r at =
    subst (λ views. InTurn record { words = s.words; homes = s.homes; views = views ++ reader v.seen ∷ [] })
    (sym (set_again s.views id v at))
    (arrives s r (reader v.seen) refl (reader_fits r.log v.seen (r.fits id v at).seen)
    (apart_more s.views (reader v.seen) refl (λ n is. none_some n is) r.apart))

without_fits : (log : List Entry) (v : View) → Fits log v → Fits log (without_number v)
without_fits log v f = record { seen = f.seen; told = f.told; own = λ n is. none_some n is; door = f.door }

handle_fits : (log : List Entry) (v : View) → Fits log v → Fits log (handle v)
handle_fits log v f = record {
  seen = f.seen;
  told = (v.seen, refl);
  own = λ n is. let o = f.own n is in record { known = o.known; live = o.live; all = o.all; seen = o.seen };
  door = λ yes. false_true yes;
}

pub passes : (id : ℕ) (v : View) → v.turn ≡ None → Splits InTurn id v (without_number v) (handle v)
passes id v free s r at =
    let left : View = without_number v in
    let right : View = handle v in
    let f = r.fits id v at in
    let cut = changes s r id v left at free refl (without_fits r.log v f) (apart_none s.views id v left at refl refl r.apart) in
    let fresh : (n : ℕ) → right.number ≡ Some n → (j : ℕ) (a : View) → get_elem? (set s.views id left) j ≡ some a → a.number ≢ Some n =
    λ n is j a e has. ⊎_elim
    (λ t. none_some n (ap (λ (u : View). u.number) t.1 ∙ has))
    (λ t. absurd (let not = t.0 in not (r.apart.numbers j id n a v t.1 at has is)))
    (at_set s.views id j left a e) in
    arrives record { words = s.words; homes = s.homes; views = set s.views id left } cut right refl (handle_fits r.log v f)
    (apart_more (set s.views id left) right refl fresh cut.apart)

joined_by : (log : List Entry) (v w : View) → Fits log v → Fits log w → (b : Bool) → ltb (length v.seen) (length w.seen) ≡ b
    → IsPrefix (cond b v.seen w.seen) (cond b w.seen v.seen) × IsPrefix (cond b w.seen v.seen) log × IsPrefix v.seen (cond b w.seen v.seen)
joined_by log v w f g true is =
    let less = ltb-true (length v.seen) (length w.seen) is in
    let p = prefix_shorter v.seen w.seen log f.seen g.seen (omega arith) in (p, g.seen, p)
joined_by log v w f g false is =
    let less : length v.seen < length w.seen → ⊥ = λ l. false_true (sym is ∙ lt-ltb (length v.seen) (length w.seen) l) in
    (prefix_shorter w.seen v.seen log g.seen f.seen (omega (arith, less)), f.seen, prefix_self v.seen)

joined_fits : (log : List Entry) (v w : View) → Fits log v → Fits log w → Fits log (joined v w)
joined_fits log v w f g =
    let p = joined_by log v w f g (ltb (length v.seen) (length w.seen)) refl in record {
      seen = p.1;
      told = p.0;
      own = λ n is. let o = f.own n is in record {
        known = o.known;
        live = o.live;
        all = o.all;
        seen = between_filter (λ (e : Entry). e.number == n) v.seen (longer v.seen w.seen) log p.2 p.1 (o.all ∙ sym o.seen) ∙ o.all;
      };
      door = λ yes. sym (between_filter (λ (e : Entry). is_register e.call) v.seen (longer v.seen w.seen) log p.2 p.1 (f.door yes));
    }

pub takes_in : (id : ℕ) (v : View) (other : ℕ) (w : View) → v.turn ≡ None → w.turn ≡ None → w.is_door ≡ false
    → Joins InTurn id v other w (joined v w) (reader [])
takes_in id v other w free free_w door_w s r at apart at_w =
    let there : get_elem? s.views other ≡ some w = sym (set_else s.views id other (joined v w) apart) ∙ at_w in
    let x : View = joined v w in
    let first = changes s r id v x at free free (joined_fits r.log v w (r.fits id v at) (r.fits other w there))
    (apart_same s.views id v x at refl refl r.apart) in
    changes record { words = s.words; homes = s.homes; views = set s.views id x } first other w (reader []) at_w free_w refl
    (reader_fits r.log [] (r.log, refl))
    (apart_none (set s.views id x) other w (reader []) at_w (sym door_w) refl first.apart)

-- ---- the table at the start

only_one : (a b : View) (j : ℕ) → get_elem? (a ∷ []) j ≡ some b → (j ≡ 0) × (a ≡ b)
only_one a b zero e = (refl, some-injective a b e)
only_one a b (suc j) e = absurd (cc (e))

first_fits : Fits [] first_door
first_fits = record { seen = ([], refl); told = ([], refl); own = λ n is. none_some n is; door = λ yes. refl }

-- an empty history, whose roster is at home, and one door
starts : (roster : Roster) → IsRosterOf [] roster → InTurn (opening (0 ∷ []) (roster ∷ []) first_door)
starts roster right = record {
  log = [];
  holder = 0;
  width = refl;
  legal = λ place entry at. none_some entry at;
  strays = λ k e at quiet. none_some e at;
  place = inl (refl, (roster, refl, right));
  fits = λ j a e. subst (Fits []) (only_one first_door a j e).1 first_fits;
  turn = λ j a e h is. none_some h (ap (λ (u : View). u.turn) (only_one first_door a j e).1 ∙ is);
  apart = record {
    numbers = λ j k n a b at_j at_k is_a is_b. (only_one first_door a j at_j).0 ∙ sym (only_one first_door b k at_k).0;
    doors = λ j k a b at_j at_k is_a is_b. (only_one first_door a j at_j).0 ∙ sym (only_one first_door b k at_k).0;
  };
}

pub begins_turn : (words : List ℕ) (slots : List Roster) (roster : Roster) → words ≡ 0 ∷ [] → slots ≡ roster ∷ [] → IsRosterOf [] roster
    → InTurn (opening words slots first_door)
begins_turn words slots roster word slot right =
    subst (λ (z : List ℕ × List Roster). InTurn (opening z.0 z.1 first_door)) (λ i. (sym word i, sym slot i)) (starts roster right)
